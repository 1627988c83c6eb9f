-- Types that agree: integers of either kind are converted, others are the same.
use Rattle.std.proofs.Common.{◌≡◌, ℕ, Bool, true, false, ◌&&◌, ◌||◌, refl, sym, ap, ◌∙◌, Option, Some, None}
use mathlib.Core.Path.{subst}
use Rattle.f3_program.specs.declared.declarations.Base.{Base}
use Rattle.f3_program.specs.declared.declarations.Base.TheVariants as base_is
use Rattle.f3_tree.specs.declared.expression.IntegerKind.TheVariants.{Four, Eight}
use Rattle.f3_kinds.specs.declared.types.DataType.{DataType}
use Rattle.f3_kinds.specs.declared.types.DataType.TheVariants.{Integer, Logical, Derived}
use Rattle.f3_kinds.specs.declared.types.Wanted.{Wanted}
use Rattle.f3_kinds.specs.declared.types.Wanted.TheVariants as wanted
use Rattle.f3_kinds.specs.Rows.{is_known, is_wanted, may_take}
use Rattle.f3_kinds.specs.Operands.{same_known}
use Rattle.f3_kinds.specs.Calls.{type_takes}
use Rattle.f3_meaning_whole.specs.Permitted.{same_type}
use Rattle.f3_meaning_whole.specs.Formed.{is_number, alike}
use Rattle.f3_elaboration.specs.Numbers.{base_by}
use Rattle.f3_lawful_laws.proofs.Facts.{no, both, left, right}
use Rattle.f3_lawful_laws.proofs.Positions.{eq_same}
use Rattle.f3_lawful_laws.proofs.Passing.{alike_by, known_same}

-- ---- of one type

pub type_same : (t u : Base) → same_type t u ≡ true → t ≡ u
type_same base_is.Integer base_is.Integer e = refl
type_same base_is.Long base_is.Long e = refl
type_same base_is.Logical base_is.Logical e = refl
type_same (base_is.Derived t) (base_is.Derived u) e = ap (λ (k : ℕ). base_is.Derived k) (eq_same t u e)
type_same base_is.Integer base_is.Long e = no (sym e)
type_same base_is.Integer base_is.Logical e = no (sym e)
type_same base_is.Integer (base_is.Derived u) e = no (sym e)
type_same base_is.Long base_is.Integer e = no (sym e)
type_same base_is.Long base_is.Logical e = no (sym e)
type_same base_is.Long (base_is.Derived u) e = no (sym e)
type_same base_is.Logical base_is.Integer e = no (sym e)
type_same base_is.Logical base_is.Long e = no (sym e)
type_same base_is.Logical (base_is.Derived u) e = no (sym e)
type_same (base_is.Derived t) base_is.Integer e = no (sym e)
type_same (base_is.Derived t) base_is.Long e = no (sym e)
type_same (base_is.Derived t) base_is.Logical e = no (sym e)

-- ---- alike

pub data Agree (t u : Base) : Type 0 where
  numbers : is_number t ≡ true → is_number u ≡ true → Agree t u
  equal : t ≡ u → Agree t u

pub agree : (t u : Base) → alike t u ≡ true → Agree t u
agree t u e = go (is_number t && is_number u) refl e
  where
    go : (b : Bool) → (is_number t && is_number u) ≡ b → (b || same_type t u) ≡ true → Agree t u
    go true h e = numbers (left _ _ h) (right (is_number t) _ h)
    go false h e = equal (type_same t u e)

when_either : (a b : Bool) → a ≡ true → (a || b) ≡ true
when_either true b e = refl
when_either false b e = no (sym e)

or_else : (a b : Bool) → b ≡ true → (a || b) ≡ true
or_else true b e = refl
or_else false b e = e

pub alike_numbers : (t u : Base) → is_number t ≡ true → is_number u ≡ true → alike t u ≡ true
alike_numbers t u e f = when_either (is_number t && is_number u) (same_type t u) (both _ _ e f)

pub alike_equal : (t u : Base) → t ≡ u → alike t u ≡ true
alike_equal t u e = or_else (is_number t && is_number u) (same_type t u) (alike_by t u e)

pub alike_back : (t u : Base) → alike t u ≡ true → alike u t ≡ true
alike_back t u e = elim (agree t u e) [ numbers a b ↦ alike_numbers u t b a | equal a ↦ alike_equal u t (sym a) ]

pub alike_through : (t u v : Base) → alike t u ≡ true → alike u v ≡ true → alike t v ≡ true
alike_through t u v e f = go (agree t u e) (agree u v f)
  where
    go : Agree t u → Agree u v → alike t v ≡ true
    go (equal a) b = subst (λ z. alike z v ≡ true) (sym a) f
    go (numbers a b) (equal c) = subst (λ z. alike t z ≡ true) c e
    go (numbers a b) (numbers c d) = alike_numbers t v a d

-- ---- a type that is wanted

abbrev pub is_wanted_base : Wanted → Base → Bool
is_wanted_base wanted.Integer t = is_number t
is_wanted_base wanted.Logical t = same_type t base_is.Logical
is_wanted_base wanted.Intrinsic t = is_number t || same_type t base_is.Logical

pub wanted_base : (type : ℕ → ℕ) (want : Wanted) (d : DataType) → is_wanted want d ≡ true → is_wanted_base want (base_by type (Some d)) ≡ true
wanted_base type wanted.Integer (Integer Four) e = refl
wanted_base type wanted.Integer (Integer Eight) e = refl
wanted_base type wanted.Integer Logical e = no (sym e)
wanted_base type wanted.Integer (Derived t) e = no (sym e)
wanted_base type wanted.Logical (Integer k) e = no (sym e)
wanted_base type wanted.Logical Logical e = refl
wanted_base type wanted.Logical (Derived t) e = no (sym e)
wanted_base type wanted.Intrinsic (Integer Four) e = refl
wanted_base type wanted.Intrinsic (Integer Eight) e = refl
wanted_base type wanted.Intrinsic Logical e = refl
wanted_base type wanted.Intrinsic (Derived t) e = no (sym e)

pub wanted_alike : (want : Wanted) (t u : Base) → alike t u ≡ true → is_wanted_base want u ≡ true → is_wanted_base want t ≡ true
wanted_alike want t u e f = go (agree t u e) want f
  where
    go : Agree t u → (want : Wanted) → is_wanted_base want u ≡ true → is_wanted_base want t ≡ true
    go (equal a) want f = subst (λ z. is_wanted_base want z ≡ true) (sym a) f
    go (numbers a b) wanted.Integer f = a
    go (numbers a b) wanted.Logical f = no (sym b ∙ ap is_number (type_same u base_is.Logical f))
    go (numbers a b) wanted.Intrinsic f = when_either (is_number t) _ a

-- ---- types of the rules

pub known_alike : (type : ℕ → ℕ) (d e : Option DataType) → is_known d ≡ true → is_known e ≡ true → same_known d e ≡ true
    → alike (base_by type d) (base_by type e) ≡ true
known_alike type d e k l h = alike_equal _ _ (known_same type d e k l h)

pub number_base : (type : ℕ → ℕ) (k : _) → is_number (base_by type (Some (Integer k))) ≡ true
number_base type Four = refl
number_base type Eight = refl

taken_alike : (type : ℕ → ℕ) (d e : DataType) → may_take d e ≡ true → alike (base_by type (Some d)) (base_by type (Some e)) ≡ true
taken_alike type (Integer j) (Integer k) h = alike_numbers _ _ (number_base type j) (number_base type k)
taken_alike type (Integer j) Logical h = no (sym h)
taken_alike type (Integer j) (Derived u) h = no (sym h)
taken_alike type Logical e h = known_alike type (Some Logical) (Some e) refl refl h
taken_alike type (Derived t) e h = known_alike type (Some (Derived t)) (Some e) refl refl h

pub takes_alike : (type : ℕ → ℕ) (d e : Option DataType) → is_known d ≡ true → is_known e ≡ true → type_takes d e ≡ true
    → alike (base_by type d) (base_by type e) ≡ true
takes_alike type None e k l h = no (sym k)
takes_alike type (Some d) None k l h = no (sym l)
takes_alike type (Some d) (Some e) k l h = taken_alike type d e h
