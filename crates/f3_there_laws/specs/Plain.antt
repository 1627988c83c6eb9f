-- Programs without allocatables.
use Rattle.std.specs.Prelude.{◌≡◌, ℕ, Bool, true, false, List, Some, map, nat_lt, slice_get}
use Rattle.std.specs.List.{All}
use Rattle.f3_program.specs.declared.declarations.Declared.{Declared}
use Rattle.f3_program.specs.declared.program.Procedure.{Procedure}
use Rattle.f3_program.specs.declared.program.Program.{Program}
use Rattle.f3_program.specs.declared.program.Static.{Static}
use Rattle.f3_meaning_whole.specs.Exec.{declared_in}
use Rattle.f3_meaning_whole.specs.Shape.{shapes_of}
use Rattle.f3_code.specs.Code.{program_code}
use Rattle.f3_code.specs.Lower.{lowered_program}
use Rattle.f3_code.specs.declared.instruction.Instruction.{Instruction}
use Rattle.f3_code.specs.declared.instruction.Instruction.TheVariants as i
use Rattle.f3_code.specs.State.{Line}
use Rattle.f3_rooms.specs.Flat.{is_flat}

-- variables that are not allocatable (ISO/IEC 1539-1:2004, 5.1.2.2)
abbrev pub ArePlain : List Declared → Type 0
ArePlain ds = All (λ (d : Declared). d.kind.is_allocatable ≡ false) ds

-- elements of a component are selected by subscripts: no designator of a source has an empty list of them (ISO/IEC 1539-1:2004, R613)
abbrev pub has_subscripts : Instruction → Bool
has_subscripts (i.SelectOf is_opened m n) = nat_lt 0 n
has_subscripts x = true

-- No variable is allocatable, and no component of any type, at any depth.
pub record HasNoAllocatables (p : Program) : Type 0 where
  pub types : All (λ s. is_flat s ≡ true) (shapes_of p.types.items)
  pub statics : ArePlain (map (λ (y : Static). y.declared) p.statics.items)
  pub main : ArePlain (declared_in p.main)
  pub procedures : (f : ℕ) (q : Procedure) → slice_get p.procedures.items f ≡ Some q → ArePlain (declared_in q)
  pub lines : (pc : ℕ) (l : Line) → slice_get (program_code (lowered_program p)).lines pc ≡ Some l → has_subscripts l.act ≡ true
