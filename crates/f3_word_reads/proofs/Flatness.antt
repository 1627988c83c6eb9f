-- Types of which no component is allocatable.
use Rattle.std.proofs.Common.{◌≡◌, zero, suc, ℕ, refl, Bool, true, false, not, ◌&&◌, List, [], ◌∷◌, arith}
use Rattle.std.specs.Prelude.{◌||◌, if◌then◌else◌, slice_index_or}
use Rattle.std.specs.List.{All}
use Rattle.f3_program.specs.declared.declarations.Base.{Base}
use Rattle.f3_program.specs.declared.declarations.Base.TheVariants as base
use Rattle.f3_program.specs.declared.declarations.Declared.{Declared}
use Rattle.f3_meaning_whole.specs.Value.{count}
use Rattle.f3_meaning_whole.specs.Shape.{Shape, Whole, Logical, Record, Parts, nothing, and, shape_in, spans_declared}
use Rattle.f3_desc.specs.Shape.{Shape as Layout, Times, row, has_holder}
use Rattle.f3_rooms.specs.Flat.{is_flat, are_flat}
use Rattle.f3_rooms.specs.Forms.{Laid, Allocatable, form_of}
use Rattle.f3_room_objects.specs.Trees.{layout_for, layouts_for, formed_as, laid_as}
use Rattle.f3_room_arrays.specs.Elements.{IsFlat}

both_true : (x y : Bool) → x && y ≡ true → (x ≡ true) × (y ≡ true)
both_true true y e = (refl, e)
both_true false y e = absurd cc

times_none : (n : ℕ) (l : Layout) → has_holder l ≡ false → has_holder (Times n l) ≡ false
times_none zero l e = refl
times_none (suc n) l e = e

laid_none : (d : Declared) (l : Layout) → has_holder l ≡ false → has_holder (laid_as d.kind.rank (spans_declared d.dimensions.items) l) ≡ false
laid_none d l e = by d.kind.rank
  where
    by : (rank : ℕ) → has_holder (laid_as rank (spans_declared d.dimensions.items) l) ≡ false
    by zero = e
    by (suc rank) = times_none (count (spans_declared d.dimensions.items)) l e

form_none : (d : Declared) (l : Layout) → not d.kind.is_allocatable ≡ true → has_holder l ≡ false → has_holder (formed_as (form_of d) l) ≡ false
form_none d l fixed e = by d.kind.is_allocatable fixed
  where
    by : (z : Bool) → not z ≡ true → has_holder (formed_as (if z then Allocatable d.kind.rank else Laid d.kind.rank (spans_declared d.dimensions.items)) l) ≡ false
    by true f = absurd cc
    by false f = laid_none d l e

both_none : (a b : Bool) → a ≡ false → b ≡ false → a || b ≡ false
both_none true b e f = absurd cc
both_none false b e f = f

mutual
  pub flat_none : (s : Shape) → is_flat s ≡ true → IsFlat s
  flat_none Whole e = refl
  flat_none Logical e = refl
  flat_none (Record t parts) e = parts_none parts e

  parts_none : (parts : Parts) → are_flat parts ≡ true → has_holder (row (layouts_for parts)) ≡ false
  parts_none nothing e = refl
  parts_none (and c s rest) e =
      let all = both_true (not c.declared.kind.is_allocatable) (is_flat s && are_flat rest) e in
      let inner = both_true (is_flat s) (are_flat rest) all.1 in
      both_none (has_holder (formed_as (form_of c.declared) (layout_for s))) (has_holder (row (layouts_for rest)))
      (form_none c.declared (layout_for s) all.0 (flat_none s inner.0)) (parts_none rest inner.1)

all_flat : (ts : List Shape) → All (λ s. is_flat s ≡ true) ts → (t : ℕ) → is_flat (slice_index_or ts t Whole) ≡ true
all_flat [] all t = refl
all_flat (s ∷ ts) all zero = all 0 s (omega arith)
all_flat (s ∷ ts) all (suc t) = all_flat ts (λ k d lt. all (suc k) d (omega arith)) t

pub flat_for : (ts : List Shape) → All (λ s. is_flat s ≡ true) ts → (of : Base) → IsFlat (shape_in ts of)
flat_for ts all base.Integer = refl
flat_for ts all base.Long = refl
flat_for ts all base.Logical = refl
flat_for ts all (base.Derived t) = flat_none (slice_index_or ts t Whole) (all_flat ts all t)
