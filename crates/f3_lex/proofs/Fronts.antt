-- The token at the front has a length, within the bytes.
use Rattle.std.proofs.Common.{◌≡◌, ◌==◌, ℕ, ◌+◌, ◌<◌, ◌≤◌, zero, suc, List, [], ◌∷◌, length, drop, slice_index, Bool, true, false, ◌&&◌, cond, Option, None, Some, unwrap_or, refl, sym, ap, arith}
use Rattle.std.specs.Char.{is_ascii_alphabetic, is_ascii_digit, to_ascii_lowercase}
use Rattle.std.specs.Option.{option_map}
use Rattle.std.proofs.lemmas.List.{length-map, length-drop}
use Rattle.std.proofs.lemmas.List.Sums.{prefix_len-le-length}
use Rattle.f3_lex.specs.declared.token.TokenKind.{TokenKind}
use Rattle.f3_lex.specs.declared.token.TokenKind.TheVariants.{Name, Integer, Truth, Word, Text, Sign, Other}
use Rattle.f3_lex.specs.Tokens.{lower, is_name_byte, is_quote, begins, listed_length, name_length, suffixes, suffix_length, digits_length, integer_length, to_closing, behind_quote, constant_length, first_found, front, truths, dot_words, signs}

-- a choice is within what both are within
either : (b : Bool) (m n k : ℕ) → m ≤ k → n ≤ k → cond b m n ≤ k
either true m n k h g = h
either false m n k h g = g

name_within : (bytes : List ℕ) → name_length bytes ≤ length bytes
unfolding name_length
name_within bytes = either (is_ascii_alphabetic (slice_index bytes 0)) _ _ _ (prefix_len-le-length is_name_byte bytes) (omega arith)

second : (p q : Bool) → (p && q) ≡ true → q ≡ true
second true q h = h
second false q h = cc

begins_within : (word bytes : List ℕ) → begins word bytes ≡ true → length word ≤ length bytes
begins_within [] bytes h = omega arith
begins_within (w ∷ word) [] h = absurd (let e : false ≡ true = h in cc)
begins_within (w ∷ word) (b ∷ bytes) h = let k = begins_within word bytes (second (b == w) (begins word bytes) h) in omega arith

if_so : (b : Bool) (m n k : ℕ) → (b ≡ true → m ≤ k) → n ≤ k → cond b m n ≤ k
if_so true m n k h g = h refl
if_so false m n k h g = g

listed_within : (words : List (List ℕ)) (bytes : List ℕ) → listed_length words bytes ≤ length bytes
unfolding listed_length
listed_within [] bytes = omega arith
listed_within (word ∷ words) bytes = if_so (begins word bytes) _ _ _ (begins_within word bytes) (listed_within words bytes)

suffix_within : (bytes : List ℕ) → suffix_length bytes ≤ length bytes
unfolding suffix_length
suffix_within bytes = either (is_name_byte (slice_index bytes 2)) _ _ _ (omega arith) (listed_within suffixes bytes)

integer_within : (bytes : List ℕ) → integer_length bytes ≤ length bytes
unfolding integer_length
integer_within bytes =
    let digits = prefix_len-le-length is_ascii_digit bytes in
    let suffix = suffix_within (drop (digits_length bytes) bytes) in
    let size = length-drop (digits_length bytes) bytes in
    either (is_ascii_digit (slice_index bytes 0)) _ _ _ (omega (arith, digits, suffix, size)) (omega arith)

mapped : (k : ℕ) (found : Option ℕ) → unwrap_or (option_map (λ n. k + n) found) 0 ≤ k + unwrap_or found 0
mapped k None = omega arith
mapped k (Some n) = omega arith

chosen : (b : Bool) (p q : Option ℕ) (k : ℕ) → unwrap_or p 0 ≤ k → unwrap_or q 0 ≤ k → unwrap_or (cond b p q) 0 ≤ k
chosen true p q k h g = h
chosen false p q k h g = g

two_or_one : (found : Option ℕ) → unwrap_or (option_map (λ n. 2 + n) found) 1 ≤ 2 + unwrap_or found 0
two_or_one None = omega arith
two_or_one (Some n) = omega arith

closing_within : (quote : ℕ) (bytes : List ℕ) → (unwrap_or (to_closing quote bytes) 0 ≤ length bytes) × (behind_quote quote bytes ≤ 1 + length bytes)
unfolding to_closing
closing_within quote [] = (omega arith, omega arith)
closing_within quote (b ∷ bytes) =
    let inside = closing_within quote bytes in
    let one = mapped 1 (to_closing quote bytes) in
    let two = two_or_one (to_closing quote bytes) in (
      chosen (b == quote) (Some (behind_quote quote bytes)) _ (suc (length bytes)) (omega (arith, inside.1)) (omega (arith, inside.0, one)),
      either (b == quote) _ 1 (1 + suc (length bytes)) (omega (arith, inside.0, two)) (omega arith),
    )

constant_within : (bytes : List ℕ) → constant_length bytes ≤ length bytes
unfolding constant_length
constant_within [] = omega arith
constant_within (quote ∷ bytes) =
    let inside = closing_within quote bytes in
    let one = mapped 1 (to_closing quote bytes) in
    either (is_quote quote) _ _ _ (omega (arith, inside.0, one)) (omega arith)

-- the candidates from the second on, from the third on, and so on
abbrev from_integer : ℕ → List ℕ → TokenKind × ℕ
from_integer depth bytes = first_found ((Integer, integer_length bytes) ∷ (Truth, listed_length truths (lower bytes)) ∷ (Word, listed_length dot_words (lower bytes)) ∷ (Text, constant_length bytes) ∷ (Sign, listed_length (signs depth) bytes) ∷ [])

abbrev from_truth : ℕ → List ℕ → TokenKind × ℕ
from_truth depth bytes = first_found ((Truth, listed_length truths (lower bytes)) ∷ (Word, listed_length dot_words (lower bytes)) ∷ (Text, constant_length bytes) ∷ (Sign, listed_length (signs depth) bytes) ∷ [])

abbrev from_word : ℕ → List ℕ → TokenKind × ℕ
from_word depth bytes = first_found ((Word, listed_length dot_words (lower bytes)) ∷ (Text, constant_length bytes) ∷ (Sign, listed_length (signs depth) bytes) ∷ [])

abbrev from_constant : ℕ → List ℕ → TokenKind × ℕ
from_constant depth bytes = first_found ((Text, constant_length bytes) ∷ (Sign, listed_length (signs depth) bytes) ∷ [])

abbrev from_sign : ℕ → List ℕ → TokenKind × ℕ
from_sign depth bytes = first_found ((Sign, listed_length (signs depth) bytes) ∷ [])

here : (kind : TokenKind) (m n : ℕ) (others : List (TokenKind × ℕ)) → n ≡ m → 0 < n → first_found ((kind, m) ∷ others) ≡ (kind, n)
here kind zero n others e h = absurd (omega arith)
here kind (suc m) n others e h = ap (λ x. (kind, x)) (sym e)

later : (kind : TokenKind) (m n : ℕ) (others : List (TokenKind × ℕ)) → n ≡ m → n ≤ 0 → first_found ((kind, m) ∷ others) ≡ first_found others
later kind zero n others e h = refl
later kind (suc m) n others e h = absurd (omega arith)

module _ (depth : ℕ) (bytes : List ℕ) (n : ℕ) where
  pub is_name : n ≡ name_length bytes → 0 < n → front depth bytes ≡ (Name, n)
  unfolding front
  is_name = here Name (name_length bytes) n _

  pub no_name : n ≡ name_length bytes → n ≤ 0 → front depth bytes ≡ from_integer depth bytes
  unfolding front
  no_name = later Name (name_length bytes) n _

  pub is_integer : n ≡ integer_length bytes → 0 < n → from_integer depth bytes ≡ (Integer, n)
  is_integer = here Integer (integer_length bytes) n _

  pub no_integer : n ≡ integer_length bytes → n ≤ 0 → from_integer depth bytes ≡ from_truth depth bytes
  no_integer = later Integer (integer_length bytes) n _

  pub is_truth : n ≡ listed_length truths (lower bytes) → 0 < n → from_truth depth bytes ≡ (Truth, n)
  is_truth = here Truth (listed_length truths (lower bytes)) n _

  pub no_truth : n ≡ listed_length truths (lower bytes) → n ≤ 0 → from_truth depth bytes ≡ from_word depth bytes
  no_truth = later Truth (listed_length truths (lower bytes)) n _

  pub is_word : n ≡ listed_length dot_words (lower bytes) → 0 < n → from_word depth bytes ≡ (Word, n)
  is_word = here Word (listed_length dot_words (lower bytes)) n _

  pub no_word : n ≡ listed_length dot_words (lower bytes) → n ≤ 0 → from_word depth bytes ≡ from_constant depth bytes
  no_word = later Word (listed_length dot_words (lower bytes)) n _

  pub is_constant : n ≡ constant_length bytes → 0 < n → from_constant depth bytes ≡ (Text, n)
  is_constant = here Text (constant_length bytes) n _

  pub no_constant : n ≡ constant_length bytes → n ≤ 0 → from_constant depth bytes ≡ from_sign depth bytes
  no_constant = later Text (constant_length bytes) n _

  pub is_sign : n ≡ listed_length (signs depth) bytes → 0 < n → from_sign depth bytes ≡ (Sign, n)
  is_sign = here Sign (listed_length (signs depth) bytes) n _

  pub no_sign : n ≡ listed_length (signs depth) bytes → n ≤ 0 → from_sign depth bytes ≡ (Other, 1)
  no_sign = later Sign (listed_length (signs depth) bytes) n _

-- what is found is one of the candidates, or one byte
abbrev Bounded : ℕ → List (TokenKind × ℕ) → Type 0
Bounded k [] = Unit {0}
Bounded k (found ∷ others) = (found.1 ≤ k) × Bounded k others

found_bounded : (k : ℕ) (candidates : List (TokenKind × ℕ)) → 1 ≤ k → Bounded k candidates → (0 < (first_found candidates).1) × ((first_found candidates).1 ≤ k)
found_bounded k [] one h = (omega arith, one)
found_bounded k ((kind, zero) ∷ others) one h = found_bounded k others one h.1
found_bounded k ((kind, suc n) ∷ others) one h = (omega arith, h.0)

abbrev candidates : ℕ → List ℕ → List (TokenKind × ℕ)
candidates depth bytes = (Name, name_length bytes) ∷ (Integer, integer_length bytes) ∷ (Truth, listed_length truths (lower bytes)) ∷ (Word, listed_length dot_words (lower bytes)) ∷ (Text, constant_length bytes) ∷ (Sign, listed_length (signs depth) bytes) ∷ []

pub front_within : (depth : ℕ) (bytes : List ℕ) → 0 < length bytes → (0 < (front depth bytes).1) × ((front depth bytes).1 ≤ length bytes)
unfolding front
front_within depth bytes some =
    let lowered = length-map bytes to_ascii_lowercase in
    let truth = listed_within truths (lower bytes) in
    let word = listed_within dot_words (lower bytes) in
    let bounded : Bounded (length bytes) (candidates depth bytes) = (name_within bytes, (integer_within bytes, (omega (arith, lowered, truth), (omega (arith, lowered, word), (constant_within bytes, (listed_within (signs depth) bytes, tt)))))) in
    found_bounded (length bytes) (candidates depth bytes) (omega arith) bounded
