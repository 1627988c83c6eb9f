use Rattle.std.proofs.Common.{ap, ◌∙◌, subst}
use Rattle.std.specs.Option.{option_map}
use Rattle.f3_rules.specs.declared.rule.Rule.TheVariants.{S7}
use Rattle.f3_rules.specs.declared.breaks.Break.{Break}
use Rattle.f3_text.specs.Reader.{Tells}
use Rattle.f3_words.specs.Lines.{broken}
use Rattle.f3_units.specs.Machine.{begun_view}
use Rattle.f3_parse.proofs.parser.finish.Goals as goal

pub returns-in-Some : goal.returns-in-Some
returns-in-Some c = (begun_view c.in-Some.unit, ap (option_map begun_view) c.in-Some.is, subst (λ (b : Break). Tells c.refusal.result b) (c.broken-found.ensures ∙ ap (broken S7) c.end_of_source.ensures) c.refusal.ensures)
