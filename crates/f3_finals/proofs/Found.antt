-- A search for a name along a list whose items have entries: past an item, at an item, and at the end.
use Rattle.std.proofs.Common.{◌≡◌, sym, ap, ◌∙◌, ℕ, ◌+◌, ◌<◌, ◌≤◌, nat_eq, List, [], ◌∷◌, ◌++◌, length, drop, get_or, Option, None, Some}
use Rattle.std.specs.Map.{lookup}
use Rattle.std.proofs.lemmas.List.{at_drop_more, at_drop_all}
use Rattle.f3_type_rules.specs.Names.{or_else}
use Rattle.f3_natures.proofs.Looked.{lookup_append}

module _ {X Y : Type 0} (k : ℕ) (f : X → List (ℕ × Y)) (rows : List X → List (ℕ × Y)) (more : (x : X) (xs : List X) → rows (x ∷ xs) ≡ f x ++ rows xs) where
  opened : (xs : List X) (i : ℕ) (x : X) → i < length xs → x ≡ get_or xs i x → lookup (nat_eq k) (rows (drop i xs)) ≡ or_else (lookup (nat_eq k) (f x)) (lookup (nat_eq k) (rows (drop (i + 1) xs)))
  opened xs i x lt is =
      let y = get_or xs i x in
      let rest = rows (drop (i + 1) xs) in
      at_drop_more (λ ys. lookup (nat_eq k) (rows ys)) xs i x lt
      ∙ ap (lookup (nat_eq k)) (more y (drop (i + 1) xs))
      ∙ lookup_append k (f y) rest
      ∙ ap (λ z. or_else (lookup (nat_eq k) (f z)) (lookup (nat_eq k) rest)) (sym is)

  pub found_more : (xs : List X) (i : ℕ) (x : X) (whole : Option Y) → i < length xs → x ≡ get_or xs i x → None ≡ lookup (nat_eq k) (f x)
      → lookup (nat_eq k) (rows (drop i xs)) ≡ whole → lookup (nat_eq k) (rows (drop (i + 1) xs)) ≡ whole
  found_more xs i x whole lt is e h =
      ap (λ o. or_else o (lookup (nat_eq k) (rows (drop (i + 1) xs)))) e ∙ sym (opened xs i x lt is) ∙ h

  pub found_here : (xs : List X) (i : ℕ) (x : X) (y : Y) (whole : Option Y) → i < length xs → x ≡ get_or xs i x → Some y ≡ lookup (nat_eq k) (f x)
      → lookup (nat_eq k) (rows (drop i xs)) ≡ whole → Some y ≡ whole
  found_here xs i x y whole lt is e h =
      ap (λ o. or_else o (lookup (nat_eq k) (rows (drop (i + 1) xs)))) e ∙ sym (opened xs i x lt is) ∙ h

  pub found_none : (xs : List X) (i : ℕ) (whole : Option Y) → length xs ≤ i → None ≡ lookup (nat_eq k) (rows [])
      → lookup (nat_eq k) (rows (drop i xs)) ≡ whole → None ≡ whole
  found_none xs i whole le e h = e ∙ sym (at_drop_all (λ ys. lookup (nat_eq k) (rows ys)) xs i le) ∙ h
