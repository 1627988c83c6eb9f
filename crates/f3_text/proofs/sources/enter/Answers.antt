use Rattle.std.proofs.Common.{refl, arith}
use Rattle.f3_text.proofs.Going.{fails_from}
use Rattle.f3_text.proofs.AlongSources.{too_long, reader_begins, bytes_behind}
use Rattle.f3_text.proofs.sources.enter.Goals as goal

pub returns-then-room-rest : goal.returns-then-room-rest
returns-then-room-rest c =
    fails_from _ _ _ c.refuse.ensures
    (too_long _ _ c.in-Some.source.now.bytes.items _ _ (bytes_behind _ _ _ c.in-Some.ensures.cases.0) (rw c.as_slice-rest.ensures.value at c.if-room-rest.true))

pub returns : goal.returns
returns c = (
  reader_begins _ _ _ c.in-Some.source.now.bytes.items _ (bytes_behind _ _ _ c.in-Some.ensures.cases.0) (rw c.as_slice-rest.ensures.value at c.if-room-rest.false) refl refl refl c.as_slice-rest.ensures.value (rw c.as_slice-rest.ensures.value refl),
  omega (arith, c.in-Some.ensures.cases.1),
)
