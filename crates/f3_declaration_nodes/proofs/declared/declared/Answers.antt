use Rattle.std.proofs.Common.{◌∙◌}
use Rattle.f3_tree.specs.Declarations.{entity_view}
use Rattle.f3_declared.specs.Declarations.{tree_of}
use Rattle.f3_declaration_nodes.proofs.Standing.{declared_stands}
use Rattle.f3_declaration_nodes.proofs.declared.declared.Goals as goal

pub returns : goal.returns
returns c = λ w inner h.
    c.in_ok-found.ensures ∙ declared_stands c.args.whole w inner c.args.unit c.args.scope (tree_of c.args.reading.now, entity_view c.args.entity.now) h
