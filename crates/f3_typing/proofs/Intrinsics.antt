-- What the name of an intrinsic procedure makes of a designator.
use Rattle.std.proofs.Common.{◌≡◌, refl, List, None, Some, if◌then◌else◌}
use Rattle.f3_rules.specs.declared.rule.Rule.TheVariants.{T9}
use Rattle.f3_tree.specs.declared.expression.Name.{Name}
use Rattle.f3_kinds.specs.declared.said.Given.{Given}
use Rattle.f3_kinds.specs.declared.things.Intrinsic.{Intrinsic}
use Rattle.f3_kinds.specs.declared.things.Intrinsic.TheVariants.{Abs, Mod, Modulo, Max, Min, Size, LowerBound, UpperBound, Allocated, MoveAlloc}
use Rattle.f3_kinds.specs.Rows.{at_name}
use Rattle.f3_kinds.specs.Typing.{sense_intrinsic, unmeant, intrinsic_reference}
use Rattle.f3_typing.specs.Inner.Intrinsics.{is_function}

pub sense_given : (n : Name) (i : Intrinsic) (gs : List Given)
    → sense_intrinsic n i (Some gs) ≡ (if is_function i then intrinsic_reference i gs else unmeant (at_name 6 T9 n))
sense_given n Abs gs = refl
sense_given n Mod gs = refl
sense_given n Modulo gs = refl
sense_given n Max gs = refl
sense_given n Min gs = refl
sense_given n Size gs = refl
sense_given n LowerBound gs = refl
sense_given n UpperBound gs = refl
sense_given n Allocated gs = refl
sense_given n MoveAlloc gs = refl

pub sense_bare : (n : Name) (i : Intrinsic) → sense_intrinsic n i None ≡ unmeant (at_name 6 T9 n)
sense_bare n Abs = refl
sense_bare n Mod = refl
sense_bare n Modulo = refl
sense_bare n Max = refl
sense_bare n Min = refl
sense_bare n Size = refl
sense_bare n LowerBound = refl
sense_bare n UpperBound = refl
sense_bare n Allocated = refl
sense_bare n MoveAlloc = refl
