use Rattle.std.proofs.Common.{length}
use Rattle.f3_text.specs.Reader.{left}
use Rattle.f3_units.specs.Machine.{builder_view}
use Rattle.f3_words.specs.Lines.{seen_of}
use Rattle.f3_parse.specs.Spells.{parts_of_sources}
use Rattle.f3_parse.proofs.Parsing.{Progress}
use Rattle.f3_parse.proofs.parser.parse.Given as goal

abbrev pub invariant-loop-builder : goal.invariant-loop-builder
invariant-loop-builder l = Progress (parts_of_sources l.sources) (seen_of l.tables) (builder_view l.builder) (left l.reader)

abbrev pub decreases-loop-builder : goal.decreases-loop-builder
decreases-loop-builder l = length (left l.reader).statements
