use Rattle.std.proofs.Common.{rules, map, length}
use Rattle.f3_tree.specs.Tree.{procedure_view}
use Rattle.f3_typed_parts.specs.Known.{nature_of}
use Rattle.f3_natures.specs.Known.{names_view}
use Rattle.f3_natures.proofs.Steps.{inner_joined}
use Rattle.f3_natures.proofs.natures.add_inner.Goals as goal

pub returns-clause-inner : goal.returns-clause-inner
returns-clause-inner c =
    inner_joined (names_view c.args.names.now) c.args.scope (procedure_view c.args.procedure.now) (length c.add_typed.new.things.items)
    (map nature_of c.args.inner.now.items) (map nature_of c.add_typed.new.things.items) (map nature_of c.add_specifications.new.things.items) (map nature_of c.add_associates.new.things.items)
    c.in_ok-constructs.constructs.items
    (search rules) (search rules) (search rules) (search rules)
