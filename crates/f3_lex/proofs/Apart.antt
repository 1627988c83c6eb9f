-- No two kinds of tokens begin with the same byte, but for the words between dots, and those differ in the next.
use Rattle.std.proofs.Common.{◌≡◌, ◌≢◌, ℕ, ◌<◌, List, [], ◌∷◌, slice_index, get_or, Bool, true, false, ◌&&◌, ◌⊎◌, inl, inr, refl, sym, ◌∙◌, subst, arith, ne_eqb}
use Rattle.std.proofs.lemmas.Bool.{true≢false}
use Rattle.std.proofs.lemmas.Bool.Decides.{eqb_tells, nat_tests}
use Rattle.std.specs.Char.{to_ascii_lowercase, is_ascii_alphabetic, is_ascii_digit}
use Rattle.f3_lex.specs.Tokens.{lower, listed_length, truths, dot_words, signs, is_quote, name_length, integer_length, constant_length}
use Rattle.f3_lex.proofs.Lengths.{two_bytes, no_sign}

-- what the first byte excludes
pub no_name : (bytes : List ℕ) → is_ascii_alphabetic (slice_index bytes 0) ≡ false → name_length bytes ≡ 0
unfolding name_length
no_name bytes e = rw e refl

pub no_digits : (bytes : List ℕ) → is_ascii_digit (slice_index bytes 0) ≡ false → integer_length bytes ≡ 0
unfolding integer_length
no_digits bytes e = rw e refl

pub no_constant : (bytes : List ℕ) → is_quote (slice_index bytes 0) ≡ false → constant_length bytes ≡ 0
unfolding constant_length
no_constant [] e = refl
no_constant (b ∷ bytes) e = rw e refl

pub no_dot : (bytes : List ℕ) → get_or bytes 0 0 ≢ 46 → (listed_length truths bytes ≡ 0) × (listed_length dot_words bytes ≡ 0)
unfolding listed_length
no_dot [] n = (refl, refl)
no_dot (b ∷ bytes) n = let e = ne_eqb b 46 n in (rw e refl, rw e refl)

lower_dot : (b : ℕ) → to_ascii_lowercase b ≡ 46 → b ≡ 46
lower_dot b h = grind (arith, nat_tests)

pub first_lower : (bytes : List ℕ) → get_or (lower bytes) 0 0 ≡ 46 → slice_index bytes 0 ≡ 46
first_lower [] h = absurd (omega arith)
first_lower (b ∷ bytes) h = lower_dot b h

pub is_dot : (bytes : List ℕ) → (0 < listed_length truths bytes) ⊎ (0 < listed_length dot_words bytes) → get_or bytes 0 0 ≡ 46
is_dot bytes h = elim (eqb_tells (get_or bytes 0 0) 46) [
  | inl same ↦ same.1
  | inr other ↦ let none = no_dot bytes other.1 in elim h [ inl p ↦ absurd (omega (arith, none.0)) | inr p ↦ absurd (omega (arith, none.1)) ]
]

-- the operators and the logical literals differ in their second bytes
never : (b : Bool) → (b && false) ≡ false
never true = refl
never false = refl

second_byte : (b c : ℕ) (bytes : List ℕ) → c ≢ 116 → c ≢ 102 → listed_length truths (b ∷ c ∷ bytes) ≡ 0
unfolding listed_length
second_byte b c bytes n m = simp (ne_eqb c 116 n, ne_eqb c 102 m, never)

other_second : (b c : ℕ) (bytes : List ℕ) → (c ≡ 116) ⊎ (c ≡ 102) → listed_length dot_words (b ∷ c ∷ bytes) ≡ 0
unfolding listed_length
other_second b c bytes (inl e) = rw e (simp never)
other_second b c bytes (inr e) = rw e (simp never)

pub truth_no_word : (bytes : List ℕ) → 0 < listed_length truths bytes → listed_length dot_words bytes ≡ 0
unfolding listed_length
truth_no_word [] h = refl
truth_no_word (b ∷ []) h = simp never
truth_no_word (b ∷ c ∷ bytes) h = elim (eqb_tells c 116) [
  | inl t ↦ other_second b c bytes (inl t.1)
  | inr nt ↦ elim (eqb_tells c 102) [
    | inl f ↦ other_second b c bytes (inr f.1)
    | inr nf ↦ absurd (omega (arith, second_byte b c bytes nt.1 nf.1))
  ]
]

-- a sign begins with none of a letter, a digit, a dot and a quote
abbrev pub BeginsNoSign : ℕ → Type 0
BeginsNoSign b = (is_ascii_alphabetic b ≡ true) ⊎ ((is_ascii_digit b ≡ true) ⊎ ((b ≡ 46) ⊎ (is_quote b ≡ true)))

not_this : (b code : ℕ) → (BeginsNoSign code → ⊥) → BeginsNoSign b → b ≢ code
not_this b code none h e = none (subst BeginsNoSign e h)

none_at : (code : ℕ) → is_ascii_alphabetic code ≡ false → is_ascii_digit code ≡ false → code ≢ 46 → is_quote code ≡ false → BeginsNoSign code → ⊥
none_at code a d n q (inl h) = true≢false (sym h ∙ a)
none_at code a d n q (inr (inl h)) = true≢false (sym h ∙ d)
none_at code a d n q (inr (inr (inl h))) = n h
none_at code a d n q (inr (inr (inr h))) = true≢false (sym h ∙ q)

pub no_sign_at : (depth : ℕ) (bytes : List ℕ) → BeginsNoSign (slice_index bytes 0) → listed_length (signs depth) bytes ≡ 0
no_sign_at depth bytes h = two_bytes depth bytes ∙ no_sign depth (slice_index bytes 0) (slice_index bytes 1)
    (not_this _ 42 (none_at 42 refl refl (λ e. omega arith) refl) h)
    (not_this _ 61 (none_at 61 refl refl (λ e. omega arith) refl) h)
    (not_this _ 47 (none_at 47 refl refl (λ e. omega arith) refl) h)
    (not_this _ 60 (none_at 60 refl refl (λ e. omega arith) refl) h)
    (not_this _ 62 (none_at 62 refl refl (λ e. omega arith) refl) h)
    (not_this _ 58 (none_at 58 refl refl (λ e. omega arith) refl) h)
    (not_this _ 40 (none_at 40 refl refl (λ e. omega arith) refl) h)
    (not_this _ 41 (none_at 41 refl refl (λ e. omega arith) refl) h)
    (not_this _ 43 (none_at 43 refl refl (λ e. omega arith) refl) h)
    (not_this _ 45 (none_at 45 refl refl (λ e. omega arith) refl) h)
    (not_this _ 44 (none_at 44 refl refl (λ e. omega arith) refl) h)
    (not_this _ 91 (none_at 91 refl refl (λ e. omega arith) refl) h)
    (not_this _ 93 (none_at 93 refl refl (λ e. omega arith) refl) h)
    (not_this _ 37 (none_at 37 refl refl (λ e. omega arith) refl) h)
