use Rattle.std.proofs.Common.{sym}
use Rattle.f3_text.proofs.AlongLines.{feed_at, no_feed}
use Rattle.f3_text.proofs.lines.is_line_feed.Goals as goal

pub returns-in-Some : goal.returns-in-Some
returns-in-Some c = sym (feed_at _ _ _ c.in-Some.ensures.letters)

pub returns-in-None : goal.returns-in-None
returns-in-None c = sym (no_feed _ c.in-None.ensures)
