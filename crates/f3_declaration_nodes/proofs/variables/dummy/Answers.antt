use Rattle.std.proofs.Common.{ℕ, ap, sym, ◌∙◌}
use Rattle.f3_tree.specs.Declarations.{entity_view}
use Rattle.f3_declared.specs.Declarations.{tree_of}
use Rattle.f3_declaration_nodes.specs.Variables.{dummy_by}
use Rattle.f3_declaration_nodes.proofs.Varying.{dummy_stands}
use Rattle.f3_declaration_nodes.proofs.variables.dummy.Goals as goal

pub returns : goal.returns
returns c = λ w inner m n h s is.
    c.in_ok-found.ensures
    ∙ ap (λ (k : ℕ). dummy_by c.args.whole c.args.unit k (tree_of c.args.reading.now, entity_view c.args.entity.now)) (sym s)
    ∙ dummy_stands c.args.whole w inner c.args.unit m n (tree_of c.args.reading.now, entity_view c.args.entity.now) h is
