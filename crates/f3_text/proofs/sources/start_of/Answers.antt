use Rattle.std.proofs.Common.{sym}
use Rattle.f3_text.proofs.Going.{fails_from}
use Rattle.f3_text.proofs.AlongSources.{begins_here, no_lines, begins_lone, begins_line}
use Rattle.f3_text.proofs.sources.start_of.Goals as goal

pub returns-then-cursor-ne1 : goal.returns-then-cursor-ne1
returns-then-cursor-ne1 c = begins_here c.args.cursor c.if-cursor-ne1.true

pub returns-in_default : goal.returns-in_default
returns-in_default c = no_lines c.args.cursor c.if-cursor-ne1.false c.in_default.ensures

pub returns-then-is_lone : goal.returns-then-is_lone
returns-then-is_lone c = fails_from _ _ _ c.refuse.ensures (begins_lone _ _ c.if-cursor-ne1.false c.in-Some.ensures (sym c.if-is_lone.ensures))

pub returns : goal.returns
returns c = begins_line _ _ c.if-cursor-ne1.false c.in-Some.ensures (sym c.if-is_lone.ensures)
