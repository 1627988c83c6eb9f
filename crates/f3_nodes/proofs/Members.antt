-- What is in a list, by recursion.
use Rattle.std.proofs.Common.{◌≡◌, zero, suc, List, [], ◌∷◌, ◌++◌, map, refl, sym, ap, subst, ◌∙◌, arith, ◌⊎◌, inl, inr, Contains, Bool, true, false, ◌||◌, ℕ, Some}
use Rattle.std.specs.List.{flat_map, list_any, slice_get}
use Rattle.std.proofs.lemmas.Bool.{true≢false}
use Rattle.std.proofs.lemmas.List.Elements.{Contains-get_or, Contains-append_right}

module _ {X : Type 0} where
  abbrev pub Has : List X → X → Type 0
  Has [] x = ⊥
  Has (y ∷ ys) x = (x ≡ y) ⊎ Has ys x

  pub has_of : (xs : List X) (x : X) → Contains xs x → Has xs x
  has_of [] x (k, lt, e) = absurd (omega arith)
  has_of (y ∷ ys) x (zero, lt, e) = inl (sym e)
  has_of (y ∷ ys) x (suc k, lt, e) = inr (has_of ys x (k, omega arith, e))

  pub contains_of : (xs : List X) (x : X) → Has xs x → Contains xs x
  contains_of [] x h = absurd h
  contains_of (y ∷ ys) x (inl e) = subst (Contains (y ∷ ys)) (sym e) (Contains-get_or (y ∷ ys) 0 y (omega arith))
  contains_of (y ∷ ys) x (inr h) = Contains-append_right (y ∷ []) ys x (contains_of ys x h)

  pub has_at : (xs : List X) (x : X) → Has xs x → (k : ℕ) × (slice_get xs k ≡ Some x)
  has_at [] x h = absurd h
  has_at (y ∷ ys) x (inl e) = (0, ap Some (sym e))
  has_at (y ∷ ys) x (inr h) = let r = has_at ys x h in (suc r.0, r.1)

  pub at_has : (xs : List X) (k : ℕ) (x : X) → slice_get xs k ≡ Some x → Has xs x
  at_has [] k x e = let no : ⊥ = cc in absurd no
  at_has (y ∷ ys) zero x e = inl (let same : x ≡ y = cc in same)
  at_has (y ∷ ys) (suc k) x e = inr (at_has ys k x e)

  pub has_left : (xs ys : List X) (x : X) → Has xs x → Has (xs ++ ys) x
  has_left [] ys x h = absurd h
  has_left (z ∷ zs) ys x (inl e) = inl e
  has_left (z ∷ zs) ys x (inr h) = inr (has_left zs ys x h)

  pub has_right : (xs ys : List X) (x : X) → Has ys x → Has (xs ++ ys) x
  has_right [] ys x h = h
  has_right (z ∷ zs) ys x h = inr (has_right zs ys x h)

  pub has_parts : (xs ys : List X) (x : X) → Has (xs ++ ys) x → Has xs x ⊎ Has ys x
  has_parts [] ys x h = inr h
  has_parts (z ∷ zs) ys x (inl e) = inl (inl e)
  has_parts (z ∷ zs) ys x (inr h) = elim (has_parts zs ys x h) [ inl a ↦ inl (inr a) | inr b ↦ inr b ]

  module _ (p : X → Bool) where
    pub any_of : (xs : List X) → list_any p xs ≡ true → (x : X) × Has xs x × (p x ≡ true)
    any_of [] t = absurd (true≢false (sym t))
    any_of (y ∷ ys) t = by (p y) refl (any_of ys) t
      where
        by : (b : Bool) → p y ≡ b → (list_any p ys ≡ true → (x : X) × Has ys x × (p x ≡ true)) → (b || list_any p ys) ≡ true → (x : X) × ((x ≡ y) ⊎ Has ys x) × (p x ≡ true)
        by true e f t = (y, inl refl, e)
        by false e f t = let r = f t in (r.0, inr r.1, r.2)

    pub any_from : (xs : List X) (x : X) → Has xs x → p x ≡ true → list_any p xs ≡ true
    any_from [] x h t = absurd h
    any_from (y ∷ ys) x (inl e) t = let here : p y ≡ true = ap p (sym e) ∙ t in rw here refl
    any_from (y ∷ ys) x (inr h) t = by (p y) (any_from ys x h t)
      where
        by : (b : Bool) → list_any p ys ≡ true → (b || list_any p ys) ≡ true
        by true r = refl
        by false r = r

module _ {X Y : Type 0} where
  pub has_mapped : (f : X → Y) (xs : List X) (x : X) → Has xs x → Has (map f xs) (f x)
  has_mapped f [] x h = absurd h
  has_mapped f (z ∷ zs) x (inl e) = inl (ap f e)
  has_mapped f (z ∷ zs) x (inr h) = inr (has_mapped f zs x h)

  pub mapped_of : (f : X → Y) (xs : List X) (y : Y) → Has (map f xs) y → (x : X) × Has xs x × (y ≡ f x)
  mapped_of f [] y h = absurd h
  mapped_of f (z ∷ zs) y (inl e) = (z, inl refl, e)
  mapped_of f (z ∷ zs) y (inr h) = let r = mapped_of f zs y h in (r.0, inr r.1, r.2)

  pub has_piece : (f : X → List Y) (xs : List X) (x : X) (y : Y) → Has xs x → Has (f x) y → Has (flat_map f xs) y
  has_piece f [] x y h p = absurd h
  has_piece f (z ∷ zs) x y (inl e) p = has_left (f z) (flat_map f zs) y (subst (λ w. Has (f w) y) e p)
  has_piece f (z ∷ zs) x y (inr h) p = has_right (f z) (flat_map f zs) y (has_piece f zs x y h p)

  pub piece_of : (f : X → List Y) (xs : List X) (y : Y) → Has (flat_map f xs) y → (x : X) × Has xs x × Has (f x) y
  piece_of f [] y h = absurd h
  piece_of f (z ∷ zs) y h = elim (has_parts (f z) (flat_map f zs) y h) [ inl a ↦ (z, inl refl, a) | inr b ↦ let r = piece_of f zs y b in (r.0, inr r.1, r.2) ]
