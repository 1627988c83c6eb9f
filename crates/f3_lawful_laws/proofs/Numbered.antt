-- A procedure with the number of its entity.
use Rattle.std.proofs.Common.{◌≡◌, ℕ, Some}
use Rattle.std.specs.Prelude.{slice_get}
use Rattle.f3_program.specs.declared.program.Procedure.{Procedure}
use Rattle.f3_program.specs.declared.program.Program.{Program}
use Rattle.f3_type_rules.specs.Members.{Member}
use Rattle.f3_elaboration.specs.Numbers.{number_in}
use Rattle.f3_elaboration.specs.Declarations.{Whole}
use Rattle.f3_elaboration.specs.DeclaredViews.{procedure_view}
use Rattle.f3_elaboration.specs.Units as units

pub record IsProcedure (p : Program) (w : Whole) (unit : ℕ) (m : Member) : Type 0 where
  pub procedure : Procedure
  pub there : slice_get p.procedures.items (number_in (w.numbers).procedures m.entity) ≡ Some procedure
  pub is : procedure_view procedure ≡ units.procedure w unit m
