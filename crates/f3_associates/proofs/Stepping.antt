-- Loops over lists, one item more.
use Rattle.std.proofs.Common.{◌≡◌, ℕ, ◌+◌, ◌<◌, ◌≤◌, length, drop, get_or, List, [], ◌∷◌, ◌++◌, Option, append_assoc, sym, ap, ◌∙◌}
use Rattle.std.proofs.lemmas.List.{at_drop_more, at_drop_all, append-nil}
use Rattle.f3_rules.specs.declared.breaks.Break.{Break}
use Rattle.f3_typed_parts.specs.Noted.{noted}
use Rattle.f3_typed_parts.proofs.Noting.{noted_more}

-- what is made of each item, and of all
module _ {X Y : Type 0} (row : X → List Y) (rows : List X → List Y) (more : (x : X) (xs : List X) → rows (x ∷ xs) ≡ row x ++ rows xs) where
  rest : (xs : List X) (i : ℕ) (x : X) → i < length xs → x ≡ get_or xs i x → rows (drop i xs) ≡ row x ++ rows (drop (i + 1) xs)
  rest xs i x lt is = at_drop_more rows xs i x lt ∙ ap (λ z. rows (z ∷ drop (i + 1) xs)) (sym is) ∙ more x (drop (i + 1) xs)

  -- pushed
  pub rows_more : (xs : List X) (i : ℕ) (x : X) (ys ys' whole : List Y) → i < length xs → x ≡ get_or xs i x → ys' ≡ ys ++ row x
      → ys ++ rows (drop i xs) ≡ whole → ys' ++ rows (drop (i + 1) xs) ≡ whole
  rows_more xs i x ys ys' whole lt is e h =
      ap (λ zs. zs ++ rows (drop (i + 1) xs)) e ∙ append_assoc ys (row x) (rows (drop (i + 1) xs)) ∙ ap (λ zs. ys ++ zs) (sym (rest xs i x lt is)) ∙ h

-- at the end of the list
pub rows_done : {X Y : Type 0} (rows : List X → List Y) (xs : List X) (i : ℕ) (ys whole : List Y) → length xs ≤ i → rows [] ≡ [] → ys ++ rows (drop i xs) ≡ whole → ys ≡ whole
rows_done rows xs i ys whole le e h = sym (append-nil ys) ∙ ap (λ zs. ys ++ zs) (sym (at_drop_all rows xs i le ∙ e)) ∙ h

module _ {X : Type 0} (row : X → List Break) (rows : List X → List Break) (more : (x : X) (xs : List X) → rows (x ∷ xs) ≡ row x ++ rows xs) where
  -- noted
  pub rows_noted : (xs : List X) (i : ℕ) (x : X) (before after whole : Option Break) → i < length xs → x ≡ get_or xs i x → after ≡ noted before (row x)
      → noted before (rows (drop i xs)) ≡ whole → noted after (rows (drop (i + 1) xs)) ≡ whole
  rows_noted xs i x before after whole lt is e h =
      ap (λ a. noted a (rows (drop (i + 1) xs))) e
      ∙ noted_more before (row x) (rows (drop (i + 1) xs))
      ∙ ap (noted before) (sym (rest row rows more xs i x lt is))
      ∙ h
