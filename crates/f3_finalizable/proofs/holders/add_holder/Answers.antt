use Rattle.std.proofs.Common.{ap, sym, ◌∙◌, arith}
use Rattle.f3_finalizable.specs.Inner.Holders.{rows_of, hold}
use Rattle.f3_finalizable.proofs.Steps.{pushed}
use Rattle.f3_finalizable.proofs.holders.add_holder.Goals as goal

pub returns-in_ok-push : goal.returns-in_ok-push
returns-in_ok-push c =
    pushed c.args.holders.now.items c.in-Some.part c.args.holder c.index_mut.result.now c.push.new.self (omega (arith, c.if-part-len.true, c.len.ensures, c.args.holders.now.ok.0)) c.index_mut.ensures.value c.in_ok-push.ensures.items
    ∙ ap (hold (rows_of c.args.holders.now.items) c.args.holder) (sym c.in-Some.is)
