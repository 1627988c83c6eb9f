-- Which intrinsic procedures are functions (ISO/IEC 1539-1:2004, 13.5).
use Rattle.std.specs.Prelude.{Bool, true, false}
use Rattle.f3_kinds.specs.declared.things.Intrinsic.{Intrinsic}
use Rattle.f3_kinds.specs.declared.things.Intrinsic.TheVariants as intrinsic

-- all but the subroutine MOVE_ALLOC
abbrev pub is_function : Intrinsic → Bool
is_function intrinsic.MoveAlloc = false
is_function _ = true
