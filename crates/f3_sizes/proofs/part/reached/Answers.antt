use Rattle.std.proofs.Common.{ℕ, List, Option, length, sym, ap, subst, arith}
use Rattle.f3_sizes.specs.Part.{IsClosed}
use Rattle.f3_sizes.proofs.Reaching.{written}
use Rattle.f3_sizes.proofs.part.reached.Goals as goal

pub returns-clause-closed : goal.returns-clause-closed
returns-clause-closed c =
    let same = ap (λ (l : List (Option ℕ)). length l) c.deref_mut.ensures.value in
    let e = written c.note_all.new.heights c.in_ok-heights.heights.items c.in_ok-heights.heights.len (omega (arith, same)) (omega arith) in
    subst (λ hs. IsClosed c.args.lines.now hs (length c.args.lines.now)) (sym e) c.note_all.ensures.closed
