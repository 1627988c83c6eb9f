-- The characters of constants.
use Rattle.std.proofs.Common.{◌≡◌, ℕ, ◌+◌, suc, ◌<◌, ◌-◌, ◌==◌, List, [], ◌∷◌, ◌++◌, length, drop, get_or, take, Bool, true, false, refl, sym, ap, ◌∙◌, append_assoc, add-one, if◌then◌else◌, slice_range, arith}
use Rattle.std.proofs.Math.Seq.{drop-cons, take-append_seam}
use Rattle.std.proofs.lemmas.List.{length-append}
use Rattle.std.proofs.lemmas.Bool.{eqb-true, eq-eqb}
use Rattle.f3_lex.specs.Laws.{doubled}
use Rattle.f3_words.specs.Constants.{undoubled, behind_first, ConstantsHaveTheirCharacters}

-- what is still to come: behind the first of two quotes, the second says nothing
abbrev pub to_come : Bool → ℕ → List ℕ → List ℕ
to_come true quote bytes = behind_first quote bytes
to_come false quote bytes = undoubled quote bytes

pub none_to_come : (is_behind : Bool) (quote : ℕ) → to_come is_behind quote [] ≡ []
unfolding undoubled behind_first
none_to_come true quote = refl
none_to_come false quote = refl

one : (quote b : ℕ) (bytes : List ℕ) → undoubled quote (b ∷ bytes) ≡ b ∷ to_come (b == quote) quote bytes
unfolding undoubled
one quote b bytes = by (b == quote) refl
  where
    by : (c : Bool) → (b == quote) ≡ c → (b ∷ (if b == quote then behind_first quote bytes else undoubled quote bytes)) ≡ b ∷ to_come (b == quote) quote bytes
    by true e = rw e refl
    by false e = rw e refl

second : (quote b : ℕ) (bytes : List ℕ) → behind_first quote (b ∷ bytes) ≡ undoubled quote bytes
unfolding behind_first
second quote b bytes = refl

-- a byte that is dropped
pub drops : (quote i : ℕ) (bytes found whole : List ℕ) → i < length bytes → found ++ to_come true quote (drop i bytes) ≡ whole → found ++ to_come false quote (drop (i + 1) bytes) ≡ whole
drops quote i bytes found whole lt e =
    ap (λ n. found ++ undoubled quote (drop n bytes)) (add-one i)
    ∙ ap (λ x. found ++ x) (sym (second quote (get_or bytes i 0) (drop (suc i) bytes)))
    ∙ ap (λ x. found ++ behind_first quote x) (sym (drop-cons bytes i 0 lt))
    ∙ e

-- a byte that counts
pub counts : (quote i : ℕ) (bytes found whole : List ℕ) (is : Bool) → i < length bytes → is ≡ (get_or bytes i 0 == quote) → found ++ to_come false quote (drop i bytes) ≡ whole
    → (found ++ get_or bytes i 0 ∷ []) ++ to_come is quote (drop (i + 1) bytes) ≡ whole
counts quote i bytes found whole is lt same e =
    ap (λ n. (found ++ get_or bytes i 0 ∷ []) ++ to_come is quote (drop n bytes)) (add-one i)
    ∙ append_assoc found (get_or bytes i 0 ∷ []) (to_come is quote (drop (suc i) bytes))
    ∙ ap (λ x. found ++ get_or bytes i 0 ∷ to_come x quote (drop (suc i) bytes)) same
    ∙ ap (λ x. found ++ x) (sym (one quote (get_or bytes i 0) (drop (suc i) bytes)))
    ∙ ap (λ x. found ++ undoubled quote x) (sym (drop-cons bytes i 0 lt))
    ∙ e

-- a quote that is doubled
pair : (quote : ℕ) (bytes : List ℕ) → undoubled quote (quote ∷ quote ∷ bytes) ≡ quote ∷ undoubled quote bytes
pair quote bytes = one quote quote (quote ∷ bytes) ∙ ap (λ c. quote ∷ to_come c quote (quote ∷ bytes)) (eq-eqb quote quote refl) ∙ ap (λ x. quote ∷ x) (second quote quote bytes)

plain : (quote b : ℕ) (bytes : List ℕ) → (b == quote) ≡ false → undoubled quote (b ∷ bytes) ≡ b ∷ undoubled quote bytes
plain quote b bytes e = one quote b bytes ∙ ap (λ c. b ∷ to_come c quote bytes) e

-- doubling and its inverse
step : (quote b : ℕ) (characters : List ℕ) (c : Bool) → (b == quote) ≡ c → undoubled quote (doubled quote characters) ≡ characters → undoubled quote (doubled quote (b ∷ characters)) ≡ b ∷ characters
step quote b characters true e before = rw e (pair quote (doubled quote characters) ∙ rw before (ap (λ x. x ∷ characters) (sym (eqb-true b quote e))))
step quote b characters false e before = rw e (plain quote b (doubled quote characters) e ∙ ap (λ x. b ∷ x) before)

pub undoubled_doubled : (quote : ℕ) (characters : List ℕ) → undoubled quote (doubled quote characters) ≡ characters
undoubled_doubled quote [] = none_to_come false quote
undoubled_doubled quote (b ∷ characters) = step quote b characters (b == quote) refl (undoubled_doubled quote characters)

-- what stands between the quotes
between : (quote : ℕ) (bytes : List ℕ) → slice_range (quote ∷ (bytes ++ quote ∷ [])) 1 (length (quote ∷ (bytes ++ quote ∷ [])) - 1) ≡ bytes
between quote bytes =
    let e = length-append bytes (quote ∷ []) in
    let n : length (quote ∷ (bytes ++ quote ∷ [])) - 1 - 1 ≡ length bytes = omega (arith, e) in
    ap (λ m. take m (bytes ++ quote ∷ [])) n ∙ take-append_seam bytes (quote ∷ [])

pub written : ConstantsHaveTheirCharacters
written quote characters is = ap (undoubled quote) (between quote (doubled quote characters)) ∙ undoubled_doubled quote characters
