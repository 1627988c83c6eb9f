-- Keywords are looked up among those of their length.
use Rattle.std.proofs.Common.{◌≡◌, ℕ, ◌==◌, List, [], ◌∷◌, length, Bool, true, false, refl, sym, ap, ◌∙◌, if◌then◌else◌, eq-eqb, nat_eq, true≢false}
use lib.Pointwise.{pointwise_long}
use Rattle.std.specs.Str.{bytes_eq}
use Rattle.f3_words.specs.declared.item.Keyword.TheVariants.{Plain}
use Rattle.f3_words.specs.Tables.{found}
use Rattle.f3_words.specs.Keywords.{keywords, keyword_of}

-- the entries whose texts have this length
abbrev pub with_length : {A : Type 0} → ℕ → List (List ℕ × A) → List (List ℕ × A)
with_length n [] = []
with_length n (entry ∷ entries) = if length entry.0 == n then entry ∷ with_length n entries else with_length n entries

differ : (text word : List ℕ) → (length word == length text) ≡ false → bytes_eq text word ≡ false
differ text word h = by (bytes_eq text word) refl
  where
    by : (b : Bool) → bytes_eq text word ≡ b → bytes_eq text word ≡ false
    by true e = absurd (true≢false (sym (eq-eqb (length word) (length text) (sym (pointwise_long nat_eq text word e))) ∙ h))
    by false e = e

step : {A : Type 0} (entry : List ℕ × A) (entries : List (List ℕ × A)) (other : A) (text : List ℕ) (b : Bool) → (length entry.0 == length text) ≡ b → found entries other text ≡ found (with_length (length text) entries) other text
    → found (entry ∷ entries) other text ≡ found (with_length (length text) (entry ∷ entries)) other text
step entry entries other text true e before = rw e (ap (λ x. if bytes_eq text entry.0 then entry.1 else x) before)
step entry entries other text false e before = rw (e, differ text entry.0 e) before

pub by_length : {A : Type 0} (entries : List (List ℕ × A)) (other : A) (text : List ℕ) → found entries other text ≡ found (with_length (length text) entries) other text
by_length [] other text = refl
by_length (entry ∷ entries) other text = step entry entries other text (length entry.0 == length text) refl (by_length entries other text)

pub of_length : (n : ℕ) (text : List ℕ) → length text ≡ n → keyword_of text ≡ found (with_length n keywords) Plain text
unfolding keyword_of
of_length n text e = by_length keywords Plain text ∙ ap (λ m. found (with_length m keywords) Plain text) e
