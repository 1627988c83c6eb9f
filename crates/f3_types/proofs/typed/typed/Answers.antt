use Rattle.std.proofs.Common.{sym}
use Rattle.f3_tree.specs.Tree.{view}
use Rattle.f3_types.proofs.Phases.{first_of_types, none_of_types, first_of_definitions}
use Rattle.f3_types.proofs.typed.typed.Goals as goal

pub returns-in-None-clause-answer : goal.returns-in-None-clause-answer
returns-in-None-clause-answer c = (
  c.in_ok-types.ensures.types,
  none_of_types (view c.args.program.now) c.in_ok-types.field-0.first (sym c.in-None.ensures) c.in_ok-types.ensures.first,
)

pub returns-in-None-clause-definition : goal.returns-in-None-clause-definition
returns-in-None-clause-definition c =
    first_of_definitions (view c.args.program.now) c.in_ok-types.field-0.first (sym c.in-None.ensures) c.in_ok-types.ensures.first

pub returns-in_ok-refusal-in-Some-clause-answer : goal.returns-in_ok-refusal-in-Some-clause-answer
returns-in_ok-refusal-in-Some-clause-answer c = (
  c.in-Some.first,
  first_of_types (view c.args.program.now) c.in_ok-types.field-0.first c.in-Some.first (sym c.in-Some.ensures) c.in_ok-types.ensures.first,
  c.in_ok-refusal-in-Some.ensures,
)
