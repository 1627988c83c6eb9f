use Rattle.std.proofs.Common.{refl}
use Rattle.std.proofs.lemmas.List.{nil_from_length}
use Rattle.f3_text.proofs.AlongLines.{taken_feed, taken_more, nothing_ahead}
use Rattle.f3_text.proofs.lines.take.Goals as goal

pub returns-in_default : goal.returns-in_default
returns-in_default c = nothing_ahead c.args.cursor (nil_from_length c.args.cursor.rest.now c.in_default.ensures.cases)

pub returns-then-byte-eq10 : goal.returns-then-byte-eq10
returns-then-byte-eq10 c = taken_feed c.args.cursor _ c.in-Some.byte.now c.in-Some.rest.now c.in-Some.ensures.cases.0 refl c.if-byte-eq10.true refl refl refl

pub returns : goal.returns
returns c = taken_more c.args.cursor _ c.in-Some.byte.now c.in-Some.rest.now c.in-Some.ensures.cases.0 refl c.if-byte-eq10.false refl refl refl c.args.cursor.counted
