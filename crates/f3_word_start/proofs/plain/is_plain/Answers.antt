use Rattle.f3_word_start.proofs.Plains.{declared_not, is_plain_so}
use Rattle.f3_word_start.proofs.plain.is_plain.Goals as goal

pub returns-then-not-is_declared_plain : goal.returns-then-not-is_declared_plain
returns-then-not-is_declared_plain c = declared_not c.args.program.now c.is_declared_plain.result c.is_declared_plain.ensures c.if-not-is_declared_plain.true

pub returns : goal.returns
returns c =
    is_plain_so c.args.program.now c.args.emission.now c.requires c.lines_are_plain.result c.deref.result.now c.deref.ensures.value c.lines_are_plain.ensures
    c.is_declared_plain.result c.is_declared_plain.ensures c.if-not-is_declared_plain.false
