-- How `section` goes along the dimensions.
use Rattle.std.proofs.Common.{◌≡◌, ◌∙◌, sym, ap, subst, refl, ⊎_elim, ℕ, ◌+◌, ◌<◌, ◌≤◌, ◌^◌, List, [], ◌∷◌, ◌++◌, length, get_or, append_assoc, length-append, arith}
use Rattle.std.specs.Prelude.{◌⊎◌, ℤ, pos, ◌+ℤ◌, ◌-ℤ◌, ◌*ℤ◌, All, Any, map}
use Rattle.std.proofs.lemmas.Int.{ints}
use Rattle.std.proofs.lemmas.List.{get_or_default}
use Rattle.std.proofs.lemmas.List.Elements.{All-tail}
use Rattle.f3_desc.specs.declared.descriptor.Descriptor.{Descriptor}
use Rattle.f3_desc.specs.declared.descriptor.Dim.{Dim}
use Rattle.f3_desc.specs.declared.descriptor.Triplet.{Triplet}
use Rattle.f3_desc.specs.declared.descriptor.Triplet.TheVariants.{At, Range}
use Rattle.f3_desc.specs.Inner.Congruent.{IsCongruent}
use Rattle.f3_desc.specs.Descriptor.{HasPlaces, IsWithin, distance, place}
use Rattle.f3_desc.specs.Section.{IsSection, IsStepZero, SelectsWithin, selected}
use Rattle.f3_desc.specs.Inner.Cuts.{cut_of, first_of}
use Rattle.f3_desc.proofs.Congruences.{congruent-trans, congruent-add}
use Rattle.f3_desc.proofs.Sections.{cuts_of, Within, section-is}

-- what is made, and the dimensions and triplets that are left, give the section
pub record Cutting (a : Descriptor) (ts : List Triplet) (offset : ℕ) (made : List Dim) (dims : List Dim) (rest : List Triplet) : Type 0 where
  pub small : offset < 2 ^ 64
  pub long : length dims ≡ length rest
  pub room : length made + length dims ≤ 7
  pub stepping : All (λ t. ¬ (IsStepZero t)) rest
  pub so_far : Within dims rest → SelectsWithin a ts
  pub onward : SelectsWithin a ts → Within dims rest
  pub whole : made ++ cuts_of dims rest ≡ cuts_of a.dims.items ts
  pub near : IsCongruent (pos offset +ℤ distance dims (map first_of rest)) (place a (map first_of ts))

pub cutting-none : (a : Descriptor) (ts : List Triplet) → a.offset < 2 ^ 64 → length ts ≡ length a.dims.items → length a.dims.items ≤ 7 → All (λ t. ¬ (IsStepZero t)) ts → Cutting a ts a.offset [] a.dims.items ts
cutting-none a ts f e r h = record {
  small = f;
  long = sym e;
  room = omega arith;
  stepping = h;
  so_far = λ w. w;
  onward = λ w. w;
  whole = refl;
  near = record { turns = pos 0; same = omega (arith, ints) };
}

cut-few : (d : Dim) (t : Triplet) → length (cut_of d t) ≤ 1
cut-few d (At s) = omega arith
cut-few d (Range f t k) = omega arith

regroup : (at : ℕ) (x y : ℤ) → (pos at +ℤ x) +ℤ y ≡ pos at +ℤ (x +ℤ y)
regroup at x y = omega (arith, ints)

-- the next dimension
module _ (a : Descriptor) (ts : List Triplet) (offset : ℕ) (made dims left : List Dim) (d : Dim) (t : Triplet) (rest after : List Triplet) (e : dims ≡ d ∷ left) (f : rest ≡ t ∷ after) (c : Cutting a ts offset made dims rest) where
  here : Cutting a ts offset made (d ∷ left) (t ∷ after)
  here = subst (λ (x : List Dim). Cutting a ts offset made x (t ∷ after)) e (subst (λ (y : List Triplet). Cutting a ts offset made dims y) f c)

  pub cutting-room : length made < 7
  cutting-room = omega (arith, here.room)

  pub cutting-out : SelectsWithin a ts → All (IsWithin d) (selected t)
  cutting-out w = (here.onward w).0

  pub cutting-more : (next : ℕ) (more : List Dim) → All (IsWithin d) (selected t) → more ≡ made ++ cut_of d t → next < 2 ^ 64 → IsCongruent (pos next) (pos offset +ℤ ((first_of t -ℤ d.lower) *ℤ d.stride)) → Cutting a ts next more left after
  cutting-more next more w is small moved = record {
    small = small;
    long = omega (arith, here.long);
    room = omega (arith, here.room, cut-few d t, ap length is ∙ length-append made (cut_of d t));
    stepping = All-tail (λ t. ¬ (IsStepZero t)) t after here.stepping;
    so_far = λ h. here.so_far (w, h);
    onward = λ h. (here.onward h).1;
    whole = ap (λ (x : List Dim). x ++ cuts_of left after) is ∙ append_assoc made (cut_of d t) (cuts_of left after) ∙ here.whole;
    near = congruent-trans (subst (λ (z : ℤ). IsCongruent (pos next +ℤ distance left (map first_of after)) z) (regroup offset ((first_of t -ℤ d.lower) *ℤ d.stride) (distance left (map first_of after))) (congruent-add moved (distance left (map first_of after)))) here.near;
  }

none_left : {X : Type 0} (xs : List X) → length xs ≡ 0 → xs ≡ []
none_left [] e = refl
none_left (x ∷ xs) e = absurd (omega arith)

pub cutting-all : (a : Descriptor) (ts : List Triplet) (offset : ℕ) (made dims : List Dim) (rest : List Triplet) → Cutting a ts offset made dims rest → (length dims ≡ 0) ⊎ (length rest ≡ 0) → Cutting a ts offset made [] []
cutting-all a ts offset made dims rest c h =
    let first : length dims ≡ 0 = ⊎_elim (λ x. x) (λ x. c.long ∙ x) h in
    let second : length rest ≡ 0 = sym c.long ∙ first in
    subst (λ (x : List Dim). Cutting a ts offset made x []) (none_left dims first) (subst (λ (y : List Triplet). Cutting a ts offset made dims y) (none_left rest second) c)

pub append-none : {X : Type 0} (xs : List X) → xs ++ [] ≡ xs
append-none [] = refl
append-none (x ∷ xs) = ap (λ ys. x ∷ ys) (append-none xs)

pub cutting-section : (a s : Descriptor) (ts : List Triplet) → HasPlaces a → s.block ≡ a.block → Cutting a ts s.offset s.dims.items [] [] → IsSection a ts s
cutting-section a s ts fits block c =
    let near : IsCongruent (pos s.offset) (place a (map first_of ts)) = subst (λ (z : ℤ). IsCongruent z (place a (map first_of ts))) (omega (arith, ints)) c.near in
    section-is a s ts fits (c.so_far tt) block (sym (append-none s.dims.items) ∙ c.whole) c.small near

pub no-step-zero : (ts : List Triplet) → ¬ (Any IsStepZero ts) → All (λ t. ¬ (IsStepZero t)) ts
no-step-zero ts none = λ k d h z. none (k, get_or ts k d, h, get_or_default ts k (get_or ts k d) d h, z)
