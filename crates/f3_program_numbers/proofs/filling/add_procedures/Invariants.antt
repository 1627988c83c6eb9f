use Rattle.std.proofs.Common.{◌≡◌, ℕ, take}
use Rattle.f3_numbers.specs.Table.{object_in, procedure_in, type_in}
use Rattle.f3_program_numbers.specs.Filled.{with_list}
use Rattle.f3_program_numbers.proofs.filling.add_procedures.Given as goal

abbrev pub invariant-loop-number : goal.invariant-loop-number
invariant-loop-number l = record {
  objects : (e : ℕ) → object_in l.numbers e ≡ object_in l.fn.numbers e;
  procedures : (e : ℕ) → procedure_in l.numbers e ≡ with_list (procedure_in l.fn.numbers) (λ (n : ℕ). n) (take l.number l.list) e;
  types : (e : ℕ) → type_in l.numbers e ≡ type_in l.fn.numbers e;
}
