use Rattle.std.proofs.Common.{◌≡◌, ℕ, take}
use Rattle.f3_numbers.specs.Table.{object_in, procedure_in, type_in}
use Rattle.f3_program_numbers.specs.Filled.{name_at, with_list, without}
use Rattle.f3_program_numbers.proofs.filling.add_objects.Given as goal

abbrev pub invariant-loop-number : goal.invariant-loop-number
invariant-loop-number l = record {
  objects : (e : ℕ) → object_in l.numbers e ≡ with_list (object_in l.fn.numbers) (name_at l.storage) (take l.number l.list) e;
  procedures : (e : ℕ) → procedure_in l.numbers e ≡ procedure_in l.fn.numbers e;
  types : (e : ℕ) → type_in l.numbers e ≡ type_in l.fn.numbers e;
  added : (e : ℕ) → without l.added.items (object_in l.numbers) e ≡ without l.fn.added.items (object_in l.fn.numbers) e;
}
