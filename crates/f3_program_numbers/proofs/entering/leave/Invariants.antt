use Rattle.std.proofs.Common.{◌≡◌, ℕ, take}
use Rattle.f3_numbers.specs.Table.{object_in, procedure_in, type_in}
use Rattle.f3_program_numbers.specs.Filled.{without}
use Rattle.f3_program_numbers.proofs.entering.leave.Given as goal

abbrev pub invariant-loop-entity : goal.invariant-loop-entity
invariant-loop-entity l = record {
  objects : (e : ℕ) → object_in l.numbers e ≡ without (take l.entity-index l.entity-items) (object_in l.fn.numbers) e;
  procedures : (e : ℕ) → procedure_in l.numbers e ≡ procedure_in l.fn.numbers e;
  types : (e : ℕ) → type_in l.numbers e ≡ type_in l.fn.numbers e;
}
