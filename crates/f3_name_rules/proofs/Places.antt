-- Places in lists, and lists that are viewed item by item.
use Rattle.std.proofs.Common.{◌≡◌, ℕ, zero, suc, List, [], ◌∷◌, map, None, Some, slice_get, refl, sym, ap, inl, inr}
use Rattle.f3_access.proofs.Members.{Has}

module _ {X : Type 0} where
  pub at_place : (xs : List X) (k : ℕ) (x : X) → slice_get xs k ≡ Some x → Has xs x
  at_place [] k x q = let bad : None ≡ Some x = q in absurd (cc)
  at_place (y ∷ ys) zero x q = let same : Some y ≡ Some x = q in inl (cc)
  at_place (y ∷ ys) (suc k) x q = inr (at_place ys k x q)

  pub placed : (xs : List X) (x : X) → Has xs x → (k : ℕ) × (slice_get xs k ≡ Some x)
  placed [] x h = absurd h
  placed (y ∷ ys) x (inl e) = (zero, ap Some (sym e))
  placed (y ∷ ys) x (inr h) = let r = placed ys x h in (suc r.0, r.1)

module _ {X Y : Type 0} (f : X → Y) where
  pub at_view : (xs : List X) (k : ℕ) (x : X) → slice_get xs k ≡ Some x → slice_get (map f xs) k ≡ Some (f x)
  at_view [] k x q = let bad : None ≡ Some x = q in absurd (cc)
  at_view (y ∷ ys) zero x q = let same : Some y ≡ Some x = q in let is : y ≡ x = cc in ap (λ z. Some (f z)) is
  at_view (y ∷ ys) (suc k) x q = at_view ys k x q

  -- where a view stands there is what it is a view of
  pub of_view : (xs : List X) (k : ℕ) (y : Y) → slice_get (map f xs) k ≡ Some y → (x : X) × (slice_get xs k ≡ Some x) × (y ≡ f x)
  of_view [] k y q = let bad : None ≡ Some y = q in absurd (cc)
  of_view (x ∷ xs) zero y q = let same : Some (f x) ≡ Some y = q in let is : f x ≡ y = cc in (x, refl, sym is)
  of_view (x ∷ xs) (suc k) y q = of_view xs k y q
