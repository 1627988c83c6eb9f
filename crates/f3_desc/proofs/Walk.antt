-- How `element` goes along the dimensions.
use Rattle.std.proofs.Common.{◌≡◌, ◌∙◌, sym, subst, refl, ⊎_elim, ℕ, ◌<◌, ◌^◌, List, [], ◌∷◌, length, arith}
use Rattle.std.specs.Prelude.{◌⊎◌, ℤ, pos, ◌+ℤ◌, ◌-ℤ◌, ◌*ℤ◌}
use Rattle.std.specs.List.{AllZip}
use Rattle.std.proofs.lemmas.Int.{ints}
use Rattle.f3_desc.specs.declared.descriptor.Descriptor.{Descriptor}
use Rattle.f3_desc.specs.declared.descriptor.Dim.{Dim}
use Rattle.f3_desc.specs.Inner.Congruent.{IsCongruent}
use Rattle.f3_desc.specs.Descriptor.{HasElement, HasPlaces, IsWithin, distance, place}
use Rattle.f3_desc.proofs.Congruences.{congruent-trans, congruent-add, congruent-exact}

-- at, and the dimensions and subscripts that are left, give the element's place
pub record Walks (a : Descriptor) (subscripts : List ℤ) (at : ℕ) (dims : List Dim) (rest : List ℤ) : Type 0 where
  pub small : at < 2 ^ 64
  pub long : length dims ≡ length rest
  pub so_far : AllZip IsWithin dims rest → HasElement a subscripts
  pub onward : HasElement a subscripts → AllZip IsWithin dims rest
  pub near : IsCongruent (pos at +ℤ distance dims rest) (place a subscripts)

pub walks-none : (a : Descriptor) (ss : List ℤ) → a.offset < 2 ^ 64 → length ss ≡ length a.dims.items → Walks a ss a.offset a.dims.items ss
walks-none a ss f e = record { small = f; long = sym e; so_far = λ h. h; onward = λ h. h; near = record { turns = pos 0; same = omega (arith, ints) } }

regroup : (at : ℕ) (x y : ℤ) → (pos at +ℤ x) +ℤ y ≡ pos at +ℤ (x +ℤ y)
regroup at x y = omega (arith, ints)

more : (a : Descriptor) (ss : List ℤ) (at next : ℕ) (d : Dim) (ds : List Dim) (s : ℤ) (rest : List ℤ) → Walks a ss at (d ∷ ds) (s ∷ rest) → IsWithin d s → next < 2 ^ 64 → IsCongruent (pos next) (pos at +ℤ ((s -ℤ d.lower) *ℤ d.stride)) → Walks a ss next ds rest
more a ss at next d ds s rest w here f moved = record {
  small = f;
  long = omega (arith, w.long);
  so_far = λ h. w.so_far (here, h);
  onward = λ h. (w.onward h).1;
  near = congruent-trans (subst (λ (z : ℤ). IsCongruent (pos next +ℤ distance ds rest) z) (regroup at ((s -ℤ d.lower) *ℤ d.stride) (distance ds rest)) (congruent-add moved (distance ds rest))) w.near;
}

pub walks-more : (a : Descriptor) (ss : List ℤ) (at next : ℕ) (d : Dim) (ds left : List Dim) (s : ℤ) (rest after : List ℤ) → ds ≡ d ∷ left → rest ≡ s ∷ after → Walks a ss at ds rest → IsWithin d s → next < 2 ^ 64 → IsCongruent (pos next) (pos at +ℤ ((s -ℤ d.lower) *ℤ d.stride)) → Walks a ss next left after
walks-more a ss at next d ds left s rest after e f w here b moved =
    more a ss at next d left s after (subst (λ (x : List Dim). Walks a ss at x (s ∷ after)) e (subst (λ (y : List ℤ). Walks a ss at ds y) f w)) here b moved

none_left : {X : Type 0} (xs : List X) → length xs ≡ 0 → xs ≡ []
none_left [] e = refl
none_left (x ∷ xs) e = absurd (omega arith)

-- where one list has nothing left neither has
pub walks-all : (a : Descriptor) (ss : List ℤ) (at : ℕ) (ds : List Dim) (rest : List ℤ) → Walks a ss at ds rest → (length ds ≡ 0) ⊎ (length rest ≡ 0) → Walks a ss at [] []
walks-all a ss at ds rest w h =
    let first : length ds ≡ 0 = ⊎_elim (λ x. x) (λ x. w.long ∙ x) h in
    let second : length rest ≡ 0 = sym w.long ∙ first in
    subst (λ (x : List Dim). Walks a ss at x []) (none_left ds first) (subst (λ (y : List ℤ). Walks a ss at ds y) (none_left rest second) w)

pub walks-place : (a : Descriptor) (ss : List ℤ) (at : ℕ) → HasPlaces a → Walks a ss at [] [] → pos at ≡ place a ss
walks-place a ss at fits w =
    let range = fits ss (w.so_far tt) in
    let near : IsCongruent (pos at) (place a ss) = subst (λ (z : ℤ). IsCongruent z (place a ss)) (omega (arith, ints)) w.near in
    congruent-exact at (place a ss) near w.small range.0 range.1

pub walks-out : (a : Descriptor) (ss : List ℤ) (at : ℕ) (d : Dim) (ds left : List Dim) (s : ℤ) (rest after : List ℤ) → ds ≡ d ∷ left → rest ≡ s ∷ after → Walks a ss at ds rest → HasElement a ss → IsWithin d s
walks-out a ss at d ds left s rest after e f w h =
    let there = subst (λ (x : List Dim). AllZip IsWithin x (s ∷ after)) e (subst (λ (y : List ℤ). AllZip IsWithin ds y) f (w.onward h)) in
    there.0
