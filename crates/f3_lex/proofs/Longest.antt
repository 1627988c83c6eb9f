-- The token at the front is the longest that is spelled there.
use Rattle.std.proofs.Common.{◌≡◌, ◌≢◌, ℕ, ◌+◌, ◌<◌, ◌≤◌, zero, suc, List, [], ◌∷◌, ◌++◌, length, slice_index, take, drop, codes, append_assoc, take-append-drop, Bool, true, false, cond, ◌⊎◌, inl, inr, refl, sym, ap, ◌∙◌, subst, arith}
use Rattle.std.proofs.lemmas.Bool.{true≢false}
use Rattle.std.proofs.lemmas.Bool.Decides.{nat_tests}
use Rattle.std.proofs.Math.Seq.{take-add, drop-append-add}
use Rattle.std.proofs.lemmas.List.{take-map, get_or-take, get_or-drop, drop-drop, length-append, length-map, length-take-le}
use Rattle.std.proofs.lemmas.List.Sums.{prefix_len-le-length}
use Rattle.std.specs.List.{prefix_len, AllByRecursion}
use Rattle.std.specs.Char.{to_ascii_lowercase, is_ascii_alphabetic, is_ascii_digit}
use Rattle.f3_lex.specs.declared.token.TokenKind.{TokenKind}
use Rattle.f3_lex.specs.declared.token.TokenKind.TheVariants.{Name, Integer, Truth, Word, Text, Sign, Other}
use Rattle.f3_lex.specs.Tokens.{lower, is_name_byte, is_quote, begins, listed_length, suffixes, truths, dot_words, signs, name_length, suffix_length, digits_length, integer_length, constant_length, front}
use Rattle.f3_lex.specs.Laws.{IsOneOf, IsSuffix, IsSpelled, IsLongest, IsFront, NoneStands}
use Rattle.f3_lex.proofs.Spelled.{passes, no_more_pass, listed_spells, listed_bounds, longest_first, take_begins, constant_spells, constant_bounds}
use Rattle.f3_lex.proofs.Apart.{no_digits, no_constant, no_dot, first_lower, is_dot, truth_no_word, no_sign_at}
use Rattle.f3_lex.proofs.Fronts.{is_name, is_integer, is_truth, is_word, is_constant, is_sign, no_integer, no_truth, no_word}
use Rattle.f3_lex.proofs.Fronts as fronts

-- the length that each kind has at the front
abbrev pub length_of : ℕ → List ℕ → TokenKind → ℕ
length_of depth bytes Name = name_length bytes
length_of depth bytes Integer = integer_length bytes
length_of depth bytes Truth = listed_length truths (lower bytes)
length_of depth bytes Word = listed_length dot_words (lower bytes)
length_of depth bytes Text = constant_length bytes
length_of depth bytes Sign = listed_length (signs depth) bytes
length_of depth bytes Other = 0

cases_zero : (n : ℕ) → (n ≤ 0) ⊎ (0 < n)
cases_zero zero = inl (omega arith)
cases_zero (suc n) = inr (omega arith)

-- what the length of a kind says of the first byte
chosen_true : (t : Bool) (m : ℕ) → 0 < cond t m 0 → t ≡ true
chosen_true true m h = refl
chosen_true false m h = absurd (omega arith)

letter_first : (bytes : List ℕ) → 0 < name_length bytes → is_ascii_alphabetic (slice_index bytes 0) ≡ true
unfolding name_length
letter_first bytes h = chosen_true _ _ h

digit_first : (bytes : List ℕ) → 0 < integer_length bytes → is_ascii_digit (slice_index bytes 0) ≡ true
unfolding integer_length
digit_first bytes h = chosen_true _ _ h

quote_first : (bytes : List ℕ) → 0 < constant_length bytes → is_quote (slice_index bytes 0) ≡ true
unfolding constant_length
quote_first [] h = absurd (omega arith)
quote_first (b ∷ bytes) h = chosen_true (is_quote b) _ h

dot_first : (bytes : List ℕ) → (0 < listed_length truths (lower bytes)) ⊎ (0 < listed_length dot_words (lower bytes)) → slice_index bytes 0 ≡ 46
dot_first bytes h = first_lower bytes (is_dot (lower bytes) h)

-- a length that was found is that of a token
name_spells : (bytes next : List ℕ) → 0 < name_length bytes → IsSpelled 0 Name (take (name_length bytes) bytes) next
unfolding name_length
name_spells bytes next h =
    let letter = chosen_true (is_ascii_alphabetic (slice_index bytes 0)) (prefix_len is_name_byte bytes) h in
    let some : 0 < prefix_len is_name_byte bytes = by _ letter h in
    rw letter (ap is_ascii_alphabetic (get_or-take (prefix_len is_name_byte bytes) bytes 0 0 some) ∙ letter, passes is_name_byte bytes)
  where
    by : (t : Bool) → t ≡ true → 0 < cond t (prefix_len is_name_byte bytes) 0 → 0 < prefix_len is_name_byte bytes
    by true e h = h
    by false e h = absurd (true≢false (sym e))

two_long : (bytes : List ℕ) → 0 < listed_length suffixes bytes → listed_length suffixes bytes + 0 ≡ 2
unfolding listed_length
two_long bytes h = by (begins (codes "_4") bytes) (begins (codes "_8") bytes) h
  where
    by : (t u : Bool) → 0 < cond t 2 (cond u 2 0) → cond t 2 (cond u 2 0) + 0 ≡ 2
    by true u h = refl
    by false true h = refl
    by false false h = absurd (omega arith)

some_digits : (bytes : List ℕ) → is_ascii_digit (slice_index bytes 0) ≡ true → 0 < digits_length bytes
some_digits [] e = absurd (true≢false (sym e))
some_digits (b ∷ bytes) e = rw e (omega arith)

-- the suffix that was found, and what comes next
suffix_spells : (bytes : List ℕ) → IsSuffix (take (suffix_length bytes) bytes) (drop (suffix_length bytes) bytes)
unfolding suffix_length
suffix_spells bytes = by (is_name_byte (slice_index bytes 2)) refl (cases_zero (listed_length suffixes bytes))
  where
    by : (t : Bool) → is_name_byte (slice_index bytes 2) ≡ t → (listed_length suffixes bytes ≤ 0) ⊎ (0 < listed_length suffixes bytes)
        → IsSuffix (take (cond t 0 (listed_length suffixes bytes)) bytes) (drop (cond t 0 (listed_length suffixes bytes)) bytes)
    by true e h = inl refl
    by false e (inl none) = let zero_long : listed_length suffixes bytes ≡ 0 = omega arith in rw zero_long (inl refl)
    by false e (inr some) = inr (listed_spells suffixes bytes some, ap is_name_byte (get_or-drop (listed_length suffixes bytes) bytes 0 0) ∙ ap (λ k. is_name_byte (slice_index bytes k)) (two_long bytes some) ∙ e)

integer_spells : (bytes : List ℕ) → 0 < integer_length bytes → IsSpelled 0 Integer (take (integer_length bytes) bytes) (drop (integer_length bytes) bytes)
unfolding integer_length
integer_spells bytes h =
    let digit = digit_first bytes h in
    let n = digits_length bytes in
    let rest = drop n bytes in
    let k = suffix_length rest in
    let within = prefix_len-le-length is_ascii_digit bytes in
    rw digit (
      take n bytes,
      take k rest,
      take-add n k bytes,
      passes is_ascii_digit bytes,
      rw (length-take-le n bytes within) (some_digits bytes digit),
      subst (IsSuffix (take k rest)) (drop-drop k n bytes) (suffix_spells rest),
    )

in_lower : (words : List (List ℕ)) (bytes : List ℕ) → 0 < listed_length words (lower bytes) → IsOneOf words (lower (take (listed_length words (lower bytes)) bytes))
in_lower words bytes h = subst (IsOneOf words) (take-map to_ascii_lowercase (listed_length words (lower bytes)) bytes) (listed_spells words (lower bytes) h)

pub spells : (depth : ℕ) (bytes : List ℕ) (kind : TokenKind) → 0 < length_of depth bytes kind → IsSpelled depth kind (take (length_of depth bytes kind) bytes) (drop (length_of depth bytes kind) bytes)
spells depth bytes Name h = name_spells bytes (drop (name_length bytes) bytes) h
spells depth bytes Integer h = integer_spells bytes h
spells depth bytes Truth h = in_lower truths bytes h
spells depth bytes Word h = in_lower dot_words bytes h
spells depth bytes Text h = constant_spells bytes h
spells depth bytes Sign h = listed_spells (signs depth) bytes h
spells depth bytes Other h = absurd (omega arith)

-- no token of a kind is longer
name_bounds : (m : ℕ) (bytes next : List ℕ) → IsSpelled 0 Name (take m bytes) next → length (take m bytes) ≤ name_length bytes
unfolding name_length
name_bounds zero bytes next h = omega arith
name_bounds (suc m) [] next h = omega arith
name_bounds (suc m) (b ∷ bytes) next h = let bound = no_more_pass is_name_byte (suc m) (b ∷ bytes) h.1 in rw h.0 bound

-- the lengths of an integer that stands at the front, part by part
integer_long : (bytes : List ℕ) → is_ascii_digit (slice_index bytes 0) ≡ true → integer_length bytes ≡ digits_length bytes + suffix_length (drop (digits_length bytes) bytes)
unfolding integer_length
integer_long bytes e = rw e refl

digits_long : (digits rest : List ℕ) → AllByRecursion (λ b. is_ascii_digit b ≡ true) digits → digits_length (digits ++ rest) ≡ length digits + digits_length rest
digits_long [] rest are = omega arith
digits_long (d ∷ digits) rest are = let more = digits_long digits rest are.1 in rw are.0 (omega (arith, more))

starts_digit : (digits rest : List ℕ) → AllByRecursion (λ b. is_ascii_digit b ≡ true) digits → 0 < length digits → is_ascii_digit (slice_index (digits ++ rest) 0) ≡ true
starts_digit [] rest are some = absurd (omega arith)
starts_digit (d ∷ digits) rest are some = are.0

found_suffix : (suffix next : List ℕ) → IsOneOf suffixes suffix → is_name_byte (slice_index next 0) ≡ false → (digits_length (suffix ++ next) ≡ 0) × (suffix_length (suffix ++ next) ≡ length suffix)
unfolding suffix_length listed_length
found_suffix suffix next (inl e) after = rw (e, after) (refl, refl)
found_suffix suffix next (inr (inl e)) after = rw (e, after) (refl, refl)
found_suffix suffix next (inr (inr e)) after = absurd e

module _ (digits suffix next : List ℕ) (are : AllByRecursion (λ b. is_ascii_digit b ≡ true) digits) (some : 0 < length digits) where
  whole_long : integer_length (digits ++ (suffix ++ next)) ≡ digits_length (digits ++ (suffix ++ next)) + suffix_length (drop (digits_length (digits ++ (suffix ++ next))) (digits ++ (suffix ++ next)))
  whole_long = integer_long (digits ++ (suffix ++ next)) (starts_digit digits (suffix ++ next) are some)

  parts_long : IsSuffix suffix next → length digits + length suffix ≤ integer_length (digits ++ (suffix ++ next))
  parts_long (inl e) = omega (arith, whole_long, digits_long digits (suffix ++ next) are, ap length e)
  parts_long (inr (is, after)) =
      let both = found_suffix suffix next is after in
      let size : digits_length (digits ++ (suffix ++ next)) ≡ length digits + 0 = digits_long digits (suffix ++ next) are ∙ ap (λ n. length digits + n) both.0 in
      let rest = ap (λ n. drop n (digits ++ (suffix ++ next))) size ∙ drop-append-add digits (suffix ++ next) 0 in
      omega (arith, whole_long, size, ap suffix_length rest, both.1)

integer_bounds : (m : ℕ) (bytes : List ℕ) → IsSpelled 0 Integer (take m bytes) (drop m bytes) → length (take m bytes) ≤ integer_length bytes
integer_bounds m bytes (digits, suffix, text, are, some, is) =
    let whole : digits ++ (suffix ++ drop m bytes) ≡ bytes = sym (append_assoc digits suffix (drop m bytes)) ∙ ap (λ xs. xs ++ drop m bytes) (sym text) ∙ take-append-drop m bytes in
    omega (arith, parts_long digits suffix (drop m bytes) are some is, ap integer_length whole, ap length text, length-append digits suffix)

lower_bounds : (words : List (List ℕ)) (m : ℕ) (bytes : List ℕ) → longest_first words ≡ true → IsOneOf words (lower (take m bytes)) → length (take m bytes) ≤ listed_length words (lower bytes)
lower_bounds words m bytes first h =
    let same = take-map to_ascii_lowercase m bytes in
    let P : List ℕ → Type 0 = λ x. begins x (lower bytes) ≡ true in
    let bound = listed_bounds words (lower bytes) (lower (take m bytes)) first (subst P same (take_begins m (lower bytes))) h in
    omega (arith, bound, length-map (take m bytes) to_ascii_lowercase)

sign_bounds : (depth m : ℕ) (bytes : List ℕ) → IsOneOf (signs depth) (take m bytes) → length (take m bytes) ≤ listed_length (signs depth) bytes
sign_bounds zero m bytes h = listed_bounds (signs 0) bytes (take m bytes) refl (take_begins m bytes) h
sign_bounds (suc depth) m bytes h = listed_bounds (signs (suc depth)) bytes (take m bytes) refl (take_begins m bytes) h

pub bounds : (depth : ℕ) (bytes : List ℕ) (kind : TokenKind) (m : ℕ) → IsSpelled depth kind (take m bytes) (drop m bytes) → length (take m bytes) ≤ length_of depth bytes kind
bounds depth bytes Name m h = name_bounds m bytes (drop m bytes) h
bounds depth bytes Integer m h = integer_bounds m bytes h
bounds depth bytes Truth m h = lower_bounds truths m bytes refl h
bounds depth bytes Word m h = lower_bounds dot_words m bytes refl h
bounds depth bytes Text m (quote, characters, q, e) = constant_bounds m bytes quote characters q e
bounds depth bytes Sign m h = sign_bounds depth m bytes h
bounds depth bytes Other m h = absurd h

-- the longest, where no other kind has a longer one
longest : (depth : ℕ) (bytes : List ℕ) (kind : TokenKind) → 0 < length_of depth bytes kind → ((other : TokenKind) → length_of depth bytes other ≤ length_of depth bytes kind) → IsLongest depth bytes kind (length_of depth bytes kind)
longest depth bytes kind some most = (spells depth bytes kind some, λ other m h. let b = bounds depth bytes other m h in let k = most other in omega arith)

each : (depth : ℕ) (bytes : List ℕ) (n : ℕ) → name_length bytes ≤ n → integer_length bytes ≤ n → listed_length truths (lower bytes) ≤ n → listed_length dot_words (lower bytes) ≤ n → constant_length bytes ≤ n → listed_length (signs depth) bytes ≤ n
    → (kind : TokenKind) → length_of depth bytes kind ≤ n
each depth bytes n a b c d e f Name = a
each depth bytes n a b c d e f Integer = b
each depth bytes n a b c d e f Truth = c
each depth bytes n a b c d e f Word = d
each depth bytes n a b c d e f Text = e
each depth bytes n a b c d e f Sign = f
each depth bytes n a b c d e f Other = omega arith

-- what one byte can begin
letter_facts : (b : ℕ) → is_ascii_alphabetic b ≡ true → (is_ascii_digit b ≡ false) × (b ≢ 46) × (is_quote b ≡ false)
letter_facts b h = (grind (arith, nat_tests), grind (arith, nat_tests), grind (arith, nat_tests))

digit_facts : (b : ℕ) → is_ascii_digit b ≡ true → (b ≢ 46) × (is_quote b ≡ false)
digit_facts b h = (grind (arith, nat_tests), grind (arith, nat_tests))

dot_facts : (b : ℕ) → b ≡ 46 → is_quote b ≡ false
dot_facts b h = rw h refl

no_dots : (bytes : List ℕ) → slice_index bytes 0 ≢ 46 → (listed_length truths (lower bytes) ≡ 0) × (listed_length dot_words (lower bytes) ≡ 0)
no_dots bytes n = no_dot (lower bytes) (λ e. n (first_lower bytes e))

-- no token is empty
abbrev are_some : List (List ℕ) → Bool
are_some [] = true
are_some ([] ∷ words) = false
are_some ((b ∷ word) ∷ words) = are_some words

one_of_some : (words : List (List ℕ)) (text : List ℕ) → are_some words ≡ true → IsOneOf words text → 0 < length text
one_of_some [] text h spelled = absurd spelled
one_of_some ([] ∷ words) text h spelled = absurd (true≢false (sym h))
one_of_some ((b ∷ word) ∷ words) text h (inl e) = omega (arith, ap length e)
one_of_some ((b ∷ word) ∷ words) text h (inr spelled) = one_of_some words text h spelled

signs_some : (depth : ℕ) (text : List ℕ) → IsOneOf (signs depth) text → 0 < length text
signs_some zero text h = one_of_some (signs 0) text refl h
signs_some (suc depth) text h = one_of_some (signs (suc depth)) text refl h

name_some : (depth : ℕ) (text next : List ℕ) → IsSpelled depth Name text next → 0 < length text
name_some depth [] next h = absurd (true≢false (sym h.0))
name_some depth (b ∷ text) next h = omega arith

not_empty : (depth : ℕ) (kind : TokenKind) (text next : List ℕ) → IsSpelled depth kind text next → 0 < length text
not_empty depth Name text next h = name_some depth text next h
not_empty depth Integer text next (digits, suffix, e, are, some, is) = omega (arith, ap length e, length-append digits suffix, some)
not_empty depth Truth text next h = omega (arith, one_of_some truths (lower text) refl h, length-map text to_ascii_lowercase)
not_empty depth Word text next h = omega (arith, one_of_some dot_words (lower text) refl h, length-map text to_ascii_lowercase)
not_empty depth Text text next (quote, characters, q, e) = omega (arith, ap length e)
not_empty depth Sign text next h = signs_some depth text h
not_empty depth Other text next h = absurd h

module _ (depth : ℕ) (bytes : List ℕ) where
  abbrev Found : TokenKind × ℕ → Type 0
  Found found = IsFront depth bytes found.0 found.1

  found : (kind : TokenKind) → front depth bytes ≡ (kind, length_of depth bytes kind) → 0 < length_of depth bytes kind → ((other : TokenKind) → length_of depth bytes other ≤ length_of depth bytes kind) → Found (front depth bytes)
  found kind e some most = subst Found (sym e) (inl (longest depth bytes kind some most))

  none : front depth bytes ≡ (Other, 1) → ((kind : TokenKind) → length_of depth bytes kind ≤ 0) → Found (front depth bytes)
  none e zeros =
      let stands : NoneStands depth bytes = λ kind m h. let b = bounds depth bytes kind m h in let z = zeros kind in let s = not_empty depth kind (take m bytes) (drop m bytes) h in omega arith in
      subst Found (sym e) (inr (refl, refl, stands))

  by_name : 0 < name_length bytes → Found (front depth bytes)
  by_name some =
      let letter = letter_first bytes some in
      let facts = letter_facts (slice_index bytes 0) letter in
      let digits = no_digits bytes facts.0 in
      let dots = no_dots bytes facts.1 in
      let quotes = no_constant bytes facts.2 in
      let sign = no_sign_at depth bytes (inl letter) in
      found Name (is_name depth bytes _ refl some) some (each depth bytes (name_length bytes) (omega arith) (omega (arith, digits)) (omega (arith, dots.0)) (omega (arith, dots.1)) (omega (arith, quotes)) (omega (arith, sign)))

  by_integer : name_length bytes ≤ 0 → 0 < integer_length bytes → Found (front depth bytes)
  by_integer z1 some =
      let digit = digit_first bytes some in
      let facts = digit_facts (slice_index bytes 0) digit in
      let dots = no_dots bytes facts.0 in
      let quotes = no_constant bytes facts.1 in
      let sign = no_sign_at depth bytes (inr (inl digit)) in
      found Integer (fronts.no_name depth bytes _ refl z1 ∙ is_integer depth bytes _ refl some) some (each depth bytes (integer_length bytes) (omega arith) (omega arith) (omega (arith, dots.0)) (omega (arith, dots.1)) (omega (arith, quotes)) (omega (arith, sign)))

  by_truth : name_length bytes ≤ 0 → integer_length bytes ≤ 0 → 0 < listed_length truths (lower bytes) → Found (front depth bytes)
  by_truth z1 z2 some =
      let dot = dot_first bytes (inl some) in
      let word = truth_no_word (lower bytes) some in
      let quotes = no_constant bytes (dot_facts _ dot) in
      let sign = no_sign_at depth bytes (inr (inr (inl dot))) in
      found Truth (fronts.no_name depth bytes _ refl z1 ∙ no_integer depth bytes _ refl z2 ∙ is_truth depth bytes _ refl some) some (each depth bytes (listed_length truths (lower bytes)) (omega arith) (omega arith) (omega arith) (omega (arith, word)) (omega (arith, quotes)) (omega (arith, sign)))

  by_word : name_length bytes ≤ 0 → integer_length bytes ≤ 0 → listed_length truths (lower bytes) ≤ 0 → 0 < listed_length dot_words (lower bytes) → Found (front depth bytes)
  by_word z1 z2 z3 some =
      let dot = dot_first bytes (inr some) in
      let quotes = no_constant bytes (dot_facts _ dot) in
      let sign = no_sign_at depth bytes (inr (inr (inl dot))) in
      found Word (fronts.no_name depth bytes _ refl z1 ∙ no_integer depth bytes _ refl z2 ∙ no_truth depth bytes _ refl z3 ∙ is_word depth bytes _ refl some) some (each depth bytes (listed_length dot_words (lower bytes)) (omega arith) (omega arith) (omega arith) (omega arith) (omega (arith, quotes)) (omega (arith, sign)))

  by_constant : name_length bytes ≤ 0 → integer_length bytes ≤ 0 → listed_length truths (lower bytes) ≤ 0 → listed_length dot_words (lower bytes) ≤ 0 → 0 < constant_length bytes → Found (front depth bytes)
  by_constant z1 z2 z3 z4 some =
      let sign = no_sign_at depth bytes (inr (inr (inr (quote_first bytes some)))) in
      found Text (fronts.no_name depth bytes _ refl z1 ∙ no_integer depth bytes _ refl z2 ∙ no_truth depth bytes _ refl z3 ∙ no_word depth bytes _ refl z4 ∙ is_constant depth bytes _ refl some) some (each depth bytes (constant_length bytes) (omega arith) (omega arith) (omega arith) (omega arith) (omega arith) (omega (arith, sign)))

  by_sign : name_length bytes ≤ 0 → integer_length bytes ≤ 0 → listed_length truths (lower bytes) ≤ 0 → listed_length dot_words (lower bytes) ≤ 0 → constant_length bytes ≤ 0 → Found (front depth bytes)
  by_sign z1 z2 z3 z4 z5 =
      let before = fronts.no_name depth bytes _ refl z1 ∙ no_integer depth bytes _ refl z2 ∙ no_truth depth bytes _ refl z3 ∙ no_word depth bytes _ refl z4 ∙ fronts.no_constant depth bytes _ refl z5 in
      elim (cases_zero (listed_length (signs depth) bytes)) [
        | inl z6 ↦ none (before ∙ fronts.no_sign depth bytes _ refl z6) (each depth bytes 0 z1 z2 z3 z4 z5 z6)
        | inr some ↦ found Sign (before ∙ is_sign depth bytes _ refl some) some (each depth bytes (listed_length (signs depth) bytes) (omega arith) (omega arith) (omega arith) (omega arith) (omega arith) (omega arith))
      ]

  pub front_is : Found (front depth bytes)
  front_is = elim (cases_zero (name_length bytes)) [
    | inr some ↦ by_name some
    | inl z1 ↦ elim (cases_zero (integer_length bytes)) [
      | inr some ↦ by_integer z1 some
      | inl z2 ↦ elim (cases_zero (listed_length truths (lower bytes))) [
        | inr some ↦ by_truth z1 z2 some
        | inl z3 ↦ elim (cases_zero (listed_length dot_words (lower bytes))) [
          | inr some ↦ by_word z1 z2 z3 some
          | inl z4 ↦ elim (cases_zero (constant_length bytes)) [
            | inr some ↦ by_constant z1 z2 z3 z4 some
            | inl z5 ↦ by_sign z1 z2 z3 z4 z5
          ]
        ]
      ]
    ]
  ]
