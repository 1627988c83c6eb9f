-- Elements of lists, of what is chosen of them, and of the subscripts of a dimension.
use Rattle.std.proofs.Common.{◌≡◌, sym, ap, subst, refl, inl, inr, ⊎_elim, ℕ, zero, suc, List, [], ◌∷◌, ◌++◌, arith}
use Rattle.std.specs.Prelude.{◌⊎◌, ℤ, pos, ◌+ℤ◌, ◌≤ℤ◌, ◌<ℤ◌, All, map}
use Rattle.std.specs.List.{AllZip, flat_map}
use Rattle.std.proofs.lemmas.Int.{ints, by_lt_z}
use Rattle.std.proofs.lemmas.List.Elements.{All-head, All-tail}
use Rattle.f3_desc.specs.declared.descriptor.Dim.{Dim}
use Rattle.f3_desc.specs.Descriptor.{IsWithin, progression, choices, subscripts}

-- x is an element of the list
abbrev pub In : {X : Type 0} → X → List X → Type 0
In x [] = ⊥
In x (y ∷ ys) = (x ≡ y) ⊎ In x ys

pub in-All : {X : Type 0} (P : X → Type 0) (x : X) (xs : List X) → All P xs → In x xs → P x
in-All P x [] h m = absurd m
in-All P x (y ∷ ys) h m = ⊎_elim (λ e. subst P (sym e) (All-head P y ys h)) (λ n. in-All P x ys (All-tail P y ys h) n) m

in-left : {X : Type 0} (x : X) (xs ys : List X) → In x xs → In x (xs ++ ys)
in-left x [] ys m = absurd m
in-left x (z ∷ xs) ys m = ⊎_elim inl (λ n. inr (in-left x xs ys n)) m

in-right : {X : Type 0} (x : X) (xs ys : List X) → In x ys → In x (xs ++ ys)
in-right x [] ys m = m
in-right x (z ∷ xs) ys m = inr (in-right x xs ys m)

from-append : {X : Type 0} (x : X) (xs ys : List X) → In x (xs ++ ys) → In x xs ⊎ In x ys
from-append x [] ys m = inr m
from-append x (z ∷ xs) ys m = ⊎_elim (λ e. inl (inl e)) (λ n. ⊎_elim (λ a. inl (inr a)) inr (from-append x xs ys n)) m

pub in-map : {X Y : Type 0} (f : X → Y) (x : X) (xs : List X) → In x xs → In (f x) (map f xs)
in-map f x [] m = absurd m
in-map f x (y ∷ ys) m = ⊎_elim (λ e. inl (ap f e)) (λ n. inr (in-map f x ys n)) m

pub from-map : {X Y : Type 0} (f : X → Y) (y : Y) (xs : List X) → In y (map f xs) → (x : X) × (In x xs × (y ≡ f x))
from-map f y [] m = absurd m
from-map f y (x ∷ xs) m = ⊎_elim (λ e. (x, (inl refl, e))) (λ n. let r = from-map f y xs n in (r.0, (inr r.1.0, r.1.1))) m

in-flat_map : {X Y : Type 0} (f : X → List Y) (x : X) (y : Y) (xs : List X) → In x xs → In y (f x) → In y (flat_map f xs)
in-flat_map f x y [] m n = absurd m
in-flat_map f x y (z ∷ xs) m n = ⊎_elim (λ e. in-left y (f z) (flat_map f xs) (subst (λ w. In y (f w)) e n)) (λ k. in-right y (f z) (flat_map f xs) (in-flat_map f x y xs k n)) m

from-flat_map : {X Y : Type 0} (f : X → List Y) (y : Y) (xs : List X) → In y (flat_map f xs) → (x : X) × (In x xs × In y (f x))
from-flat_map f y [] m = absurd m
from-flat_map f y (x ∷ xs) m = ⊎_elim (λ k. (x, (inl refl, k))) (λ k. let r = from-flat_map f y xs k in (r.0, (inr r.1.0, r.1.1))) (from-append y (f x) (flat_map f xs) m)

-- what is chosen has one element of each list, and every such is chosen
pub in-choices : (xss : List (List ℤ)) (ss : List ℤ) → AllZip (λ xs s. In s xs) xss ss → In ss (choices xss)
in-choices [] [] h = inl refl
in-choices [] (s ∷ ss) h = absurd h
in-choices (xs ∷ xss) [] h = absurd h
in-choices (xs ∷ xss) (s ∷ ss) h = in-flat_map (λ (rest : List ℤ). map (λ (x : ℤ). x ∷ rest) xs) ss (s ∷ ss) (choices xss) (in-choices xss ss h.1) (in-map (λ (x : ℤ). x ∷ ss) s xs h.0)

pub from-choices : (xss : List (List ℤ)) (ss : List ℤ) → In ss (choices xss) → AllZip (λ xs s. In s xs) xss ss
from-choices [] ss m = ⊎_elim (λ e. subst (λ (w : List ℤ). AllZip (λ (xs : List ℤ) (s : ℤ). In s xs) [] w) (sym e) tt) (λ k. absurd k) m
from-choices (xs ∷ xss) ss m =
    let r = from-flat_map (λ (rest : List ℤ). map (λ (x : ℤ). x ∷ rest) xs) ss (choices xss) m in
    let q = from-map (λ (x : ℤ). x ∷ r.0) ss xs r.1.1 in
    subst (λ (w : List ℤ). AllZip (λ (ys : List ℤ) (s : ℤ). In s ys) (xs ∷ xss) w) (sym q.1.1) (q.1.0, from-choices xss r.0 r.1.0)

above : (l s : ℤ) → l ≤ℤ s → (s ≡ l) ⊎ ((l +ℤ pos 1) ≤ℤ s)
above l s low = by_lt_z l s (λ h. inr (omega (arith, ints))) (λ h. inl (omega (arith, ints)))

-- the subscripts of a dimension are those within its bounds
along : (l s : ℤ) (n : ℕ) → l ≤ℤ s → s <ℤ (l +ℤ pos n) → In s (progression l (pos 1) n)
along l s zero low high = absurd (omega (arith, ints))
along l s (suc n) low high = ⊎_elim inl (λ m. inr (along (l +ℤ pos 1) s n m (omega (arith, ints)))) (above l s low)

pub in-subscripts : (d : Dim) (s : ℤ) → IsWithin d s → In s (subscripts d)
in-subscripts d s h = along d.lower s d.extent h.0 h.1
