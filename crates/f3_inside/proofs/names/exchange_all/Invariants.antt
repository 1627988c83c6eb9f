use Rattle.std.proofs.Common.{◌≡◌, ℕ, vec_len}
use Rattle.f3_numbers.specs.Table.{object_in, procedure_in, type_in}
use Rattle.f3_inside.specs.Exchanged.{put_all}
use Rattle.f3_inside.proofs.names.exchange_all.Given as goal

abbrev pub invariant-loop-new : goal.invariant-loop-new
invariant-loop-new l = record {
  objects : (e : ℕ) → put_all l.list.items (object_in l.numbers) e ≡ put_all l.fn.list.items (object_in l.fn.numbers) e;
  before : (e : ℕ) → put_all l.before.items (object_in l.numbers) e ≡ object_in l.fn.numbers e;
  procedures : (e : ℕ) → procedure_in l.numbers e ≡ procedure_in l.fn.numbers e;
  types : (e : ℕ) → type_in l.numbers e ≡ type_in l.fn.numbers e;
}

abbrev pub decreases-loop-new : goal.decreases-loop-new
decreases-loop-new l = vec_len l.list
