use Rattle.std.proofs.Common.{ℕ, ap, sym, ◌∙◌}
use Rattle.f3_tree.specs.Declarations.{TypeTree}
use Rattle.f3_declaration_nodes.specs.Tables.{components_by}
use Rattle.f3_declaration_nodes.proofs.Standing.{components_stand}
use Rattle.f3_declaration_nodes.proofs.components.components.Goals as goal

pub returns : goal.returns
returns c = λ w inner t s is h.
    c.in_ok-found.ensures
    ∙ ap (λ (x : TypeTree). components_by c.args.whole c.args.scope x) (sym is)
    ∙ ap (λ (n : ℕ). components_by c.args.whole n t.tree) (sym s)
    ∙ components_stand c.args.whole w inner t h
