use Rattle.std.proofs.Common.{List, map, ap, ◌∙◌}
use Rattle.f3_tree.specs.declared.declaration.Specification.{Specification}
use Rattle.f3_tree.specs.Declarations.{specification_view}
use Rattle.f3_typed_parts.specs.Noted.{noted}
use Rattle.f3_type_rules.specs.Declarations.{specification_rows, specification_next}
use Rattle.f3_type_rules.specs.Walks.{along}
use Rattle.f3_unit_rules.specs.Inner.Steps.{part_spot}
use Rattle.f3_unit_rules.proofs.units.statements.Goals as goal

pub returns-clause-noted : goal.returns-clause-noted
returns-clause-noted c = λ s k ms h f.
    c.in_ok-specifications.ensures.noted s k ms h f
    ∙ ap (λ (xs : List Specification). noted c.args.first.now (along (specification_rows (part_spot s c.args.scope (map specification_view xs)) ms) (specification_next (part_spot s c.args.scope (map specification_view xs))) k (map specification_view c.args.list.now)))
    c.in_ok-listings.ensures
