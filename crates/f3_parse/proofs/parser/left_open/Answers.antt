use Rattle.std.proofs.Common.{ap, ◌∙◌}
use Rattle.f3_rules.specs.declared.rule.Rule.TheVariants.{S7}
use Rattle.f3_words.specs.Lines.{broken}
use Rattle.f3_units.specs.Machine.{begun_view}
use Rattle.std.specs.Option.{option_map}
use Rattle.f3_parse.proofs.parser.left_open.Goals as goal

pub returns-else-unit-file : goal.returns-else-unit-file
returns-else-unit-file c = (begun_view c.in-Some.unit, ap (option_map begun_view) c.in-Some.is, c.if-unit-file.false, c.broken.ensures ∙ ap (broken S7) c.end_of_source.ensures)
