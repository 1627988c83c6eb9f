use Rattle.std.proofs.Common.{◌<◌, subst, arith}
use Rattle.std.specs.Prelude.{IfSome}
use Rattle.f3_sizes.specs.Part.{IsClosed, unnoted}
use Rattle.f3_sizes.proofs.Reaching.{begins, again}
use Rattle.f3_sizes.proofs.part.note_all.Goals as goal

pub loop-back-init : goal.loop-back-init
loop-back-init c = begins c.args.lines.now c.args.first c.note.new.heights c.args.heights.now c.requires.low (omega arith) c.note.ensures.there c.requires.none c.note.ensures.noted

pub loop-back-preserved : goal.loop-back-preserved
loop-back-preserved c =
    let back = subst (λ o. IfSome o (λ at. IsClosed c.args.lines.now c.pass.new.heights at × (unnoted c.pass.new.heights < unnoted c.loop-back.heights))) c.in-Some.is c.pass.ensures.back in
    again c.args.lines.now c.args.first c.loop-back.heights c.pass.new.heights c.loop-back.from c.in-Some.back c.loop-back.invariant c.pass.ensures.grows c.pass.ensures.begun back.0

pub returns-clause-begun : goal.returns-clause-begun
returns-clause-begun c = λ height p. c.pass.ensures.begun height c.args.first (c.loop-back.invariant.begun height p)
