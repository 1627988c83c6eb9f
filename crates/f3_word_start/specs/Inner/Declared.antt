-- What is declared in a program.
use Rattle.std.specs.Prelude.{◌≡◌, true, All}
use Rattle.f3_program.specs.declared.program.Procedure.{Procedure}
use Rattle.f3_program.specs.declared.program.Program.{Program}
use Rattle.f3_meaning_whole.specs.Exec.{declared_in}
use Rattle.f3_rooms.specs.Flat.{is_flat}
use Rattle.f3_word_cells.specs.Areas.{types_of}
use Rattle.f3_word_cells.specs.States.{statics_of}
use Rattle.f3_word_cells.specs.Plain.{ArePlain}

-- no variable is allocatable, and no component of any type
pub record IsDeclaredPlain (p : Program) : Type 0 where
  pub types : All (λ s. is_flat s ≡ true) (types_of p)
  pub statics : ArePlain (statics_of p)
  pub main : ArePlain (declared_in p.main)
  pub procedures : All (λ (q : Procedure). ArePlain (declared_in q)) p.procedures.items
