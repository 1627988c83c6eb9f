-- The lengths of tokens at the front.
use Rattle.std.proofs.Common.{◌≡◌, ◌≢◌, ℕ, ◌+◌, ◌<◌, ◌≤◌, zero, suc, List, [], ◌∷◌, length, slice_index, get_or, drop, Option, None, Some, unwrap_or, eq-eqb, ◌⊎◌, inl, inr, Bool, true, false, ◌&&◌, refl, ap, ◌∙◌, arith, ne_eqb, cond, if◌then◌else◌}
use Rattle.std.proofs.lemmas.List.{at_drop_more, at_drop_all}
use Rattle.std.specs.Option.{option_map, option_or}
use Rattle.f3_lex.specs.Tokens.{lower, is_name_byte, begins, listed_length, suffixes, suffix_length, signs, to_closing, behind_quote}

never : (b : Bool) → (b && false) ≡ false
never true = refl
never false = refl

-- only two bytes decide on a sign
pub two_bytes : (depth : ℕ) (bytes : List ℕ) → listed_length (signs depth) bytes ≡ listed_length (signs depth) (slice_index bytes 0 ∷ slice_index bytes 1 ∷ [])
unfolding listed_length
two_bytes zero [] = refl
two_bytes zero (b ∷ []) = refl
two_bytes zero (b ∷ c ∷ bytes) = refl
two_bytes (suc depth) [] = refl
two_bytes (suc depth) (b ∷ []) = refl
two_bytes (suc depth) (b ∷ c ∷ bytes) = refl

-- but for `::` the parentheses do not matter
pub no_colon : (depth first second : ℕ) → first ≢ 58 → listed_length (signs depth) (first ∷ second ∷ []) ≡ listed_length (signs 1) (first ∷ second ∷ [])
unfolding listed_length
no_colon zero first second h = rw (ne_eqb first 58 h) refl
no_colon (suc depth) first second h = refl

-- a word does not stand at the front of fewer bytes
pub too_short : (word bytes : List ℕ) → length bytes < length word → begins word (lower bytes) ≡ false
too_short [] bytes h = absurd (omega arith)
too_short (w ∷ word) [] h = refl
too_short (w ∷ word) (b ∷ bytes) h = rw (too_short word bytes (omega arith)) (never _)

-- no sign begins with another byte
pub no_sign : (depth a b : ℕ) → a ≢ 42 → a ≢ 61 → a ≢ 47 → a ≢ 60 → a ≢ 62 → a ≢ 58 → a ≢ 40 → a ≢ 41 → a ≢ 43 → a ≢ 45 → a ≢ 44 → a ≢ 91 → a ≢ 93 → a ≢ 37
    → listed_length (signs depth) (a ∷ b ∷ []) ≡ 0
unfolding listed_length
no_sign depth a b n1 n2 n3 n4 n5 n6 n7 n8 n9 n10 n11 n12 n13 n14 =
    no_colon depth a b n6 ∙ simp (ne_eqb a 42 n1, ne_eqb a 61 n2, ne_eqb a 47 n3, ne_eqb a 60 n4, ne_eqb a 62 n5, ne_eqb a 58 n6, ne_eqb a 40 n7, ne_eqb a 41 n8, ne_eqb a 43 n9, ne_eqb a 45 n10, ne_eqb a 44 n11, ne_eqb a 91 n12, ne_eqb a 93 n13, ne_eqb a 37 n14)

-- the sign of two bytes that begins with /
pub slash_equals : (depth b : ℕ) → b ≡ 61 → listed_length (signs depth) (47 ∷ b ∷ []) ≡ 2
unfolding listed_length
slash_equals depth b e = no_colon depth 47 b (λ h. omega arith) ∙ rw e refl

pub slash_closes : (depth b : ℕ) → b ≢ 61 → b ≡ 41 → listed_length (signs depth) (47 ∷ b ∷ []) ≡ 2
unfolding listed_length
slash_closes depth b n e = no_colon depth 47 b (λ h. omega arith) ∙ rw e refl

pub slash_alone : (depth b : ℕ) → b ≢ 61 → b ≢ 41 → listed_length (signs depth) (47 ∷ b ∷ []) ≡ 1
unfolding listed_length
slash_alone depth b n m = no_colon depth 47 b (λ h. omega arith) ∙ simp (ne_eqb b 61 n, ne_eqb b 41 m)

-- the signs that no other sign begins with
pub alone : (depth a b : ℕ) → (a ≡ 37) ⊎ ((a ≡ 41) ⊎ ((a ≡ 91) ⊎ (a ≡ 93))) → listed_length (signs depth) (a ∷ b ∷ []) ≡ 1
unfolding listed_length
alone depth a b (inl e) = no_colon depth a b (λ h. omega arith) ∙ rw e refl
alone depth a b (inr (inl e)) = no_colon depth a b (λ h. omega arith) ∙ rw e refl
alone depth a b (inr (inr (inl e))) = no_colon depth a b (λ h. omega arith) ∙ rw e refl
alone depth a b (inr (inr (inr e))) = no_colon depth a b (λ h. omega arith) ∙ rw e refl

-- only three bytes decide on a suffix
pub three_bytes : (bytes : List ℕ) → suffix_length bytes ≡ (if is_name_byte (slice_index bytes 2) then 0 else listed_length suffixes (slice_index bytes 0 ∷ slice_index bytes 1 ∷ []))
unfolding suffix_length listed_length
three_bytes [] = refl
three_bytes (b ∷ []) = refl
three_bytes (b ∷ c ∷ bytes) = refl

module _ (bytes : List ℕ) where
  pub name_next : is_name_byte (slice_index bytes 2) ≡ true → suffix_length bytes ≡ 0
  name_next e = three_bytes bytes ∙ rw e refl

  behind : (n : ℕ) → listed_length suffixes (slice_index bytes 0 ∷ slice_index bytes 1 ∷ []) ≡ n → is_name_byte (slice_index bytes 2) ≡ false → suffix_length bytes ≡ n
  behind n h e = three_bytes bytes ∙ rw e h

  pub no_underscore : slice_index bytes 0 ≢ 95 → suffix_length bytes ≡ 0
  unfolding listed_length
  no_underscore h = three_bytes bytes ∙ rw (ne_eqb _ _ h) (same (is_name_byte (slice_index bytes 2)))
    where
      same : (t : Bool) → cond t zero zero ≡ zero
      same true = refl
      same false = refl

  pub is_kind : slice_index bytes 0 ≡ 95 → is_name_byte (slice_index bytes 2) ≡ false → (slice_index bytes 1 ≡ 52) ⊎ (slice_index bytes 1 ≡ 56) → suffix_length bytes ≡ 2
  unfolding listed_length
  is_kind u e (inl h) = behind 2 (rw (u, h) refl) e
  is_kind u e (inr h) = behind 2 (rw (u, h) refl) e

  pub no_kind : slice_index bytes 0 ≡ 95 → is_name_byte (slice_index bytes 2) ≡ false → slice_index bytes 1 ≢ 52 → slice_index bytes 1 ≢ 56 → suffix_length bytes ≡ 0
  unfolding listed_length
  no_kind u e f g = behind 0 (rw (u, ne_eqb _ _ f, ne_eqb _ _ g) refl) e

-- inside a character constant, at a byte of the list
module _ (quote : ℕ) (bytes : List ℕ) (n : ℕ) (there : n < length bytes) where
  pub closing_other : get_or bytes n 0 ≢ quote → to_closing quote (drop n bytes) ≡ option_map (λ m. 1 + m) (to_closing quote (drop (n + 1) bytes))
  unfolding to_closing
  closing_other h = at_drop_more (to_closing quote) bytes n 0 there ∙ rw (ne_eqb _ _ h) refl

  pub closing_quote : get_or bytes n 0 ≡ quote → to_closing quote (drop n bytes) ≡ Some (behind_quote quote (drop (n + 1) bytes))
  unfolding to_closing
  closing_quote h = at_drop_more (to_closing quote) bytes n 0 there ∙ rw (eq-eqb _ _ h) refl

  pub behind_same : get_or bytes n 0 ≡ quote → behind_quote quote (drop n bytes) ≡ unwrap_or (option_map (λ m. 2 + m) (to_closing quote (drop (n + 1) bytes))) 1
  unfolding to_closing
  behind_same h = at_drop_more (behind_quote quote) bytes n 0 there ∙ rw (eq-eqb _ _ h) refl

  pub behind_other : get_or bytes n 0 ≢ quote → behind_quote quote (drop n bytes) ≡ 1
  unfolding to_closing
  behind_other h = at_drop_more (behind_quote quote) bytes n 0 there ∙ rw (ne_eqb _ _ h) refl

pub behind_end : (quote : ℕ) (bytes : List ℕ) (n : ℕ) → length bytes ≤ n → behind_quote quote (drop n bytes) ≡ 1
unfolding to_closing
behind_end quote bytes n h = at_drop_all (behind_quote quote) bytes n h

pub closing_end : (quote : ℕ) (bytes : List ℕ) (n : ℕ) → length bytes ≤ n → to_closing quote (drop n bytes) ≡ None
unfolding to_closing
closing_end quote bytes n h = at_drop_all (to_closing quote) bytes n h

-- n bytes have been passed, and the constant may end at `end`
abbrev pub from_there : ℕ → Option ℕ → Option ℕ → Option ℕ
from_there n end found = option_or (option_map (λ m. n + m) found) end

pub one_more : (n : ℕ) (end found : Option ℕ) → from_there n end (option_map (λ m. 1 + m) found) ≡ from_there (n + 1) end found
one_more n end None = refl
one_more n end (Some m) = ap Some (omega arith)

pub two_more : (n : ℕ) (end found : Option ℕ) → from_there n end (Some (unwrap_or (option_map (λ m. 2 + m) found) 1)) ≡ from_there (n + 2) (Some (n + 1)) found
two_more n end None = refl
two_more n end (Some m) = ap Some (omega arith)
