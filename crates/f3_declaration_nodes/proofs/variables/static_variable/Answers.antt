use Rattle.std.proofs.Common.{◌∙◌}
use Rattle.f3_tree.specs.Declarations.{entity_view}
use Rattle.f3_declared.specs.Declarations.{tree_of}
use Rattle.f3_declaration_nodes.specs.Variables.{variable_at}
use Rattle.f3_declaration_nodes.proofs.Varying.{static_stands}
use Rattle.f3_declaration_nodes.proofs.variables.static_variable.Goals as goal

pub returns : goal.returns
returns c = λ w inner h.
    c.in_ok-found.ensures
    ∙ static_stands c.args.whole w inner
    (variable_at c.args.number c.args.unit c.args.scope (tree_of c.args.reading.now, entity_view c.args.entity.now)) h
