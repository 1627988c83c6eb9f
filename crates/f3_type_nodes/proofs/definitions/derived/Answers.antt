use Rattle.std.proofs.Common.{ℕ, List, ap, sym, refl, ◌∙◌}
use Rattle.f3_tree.specs.declared.expression.Name.{Name}
use Rattle.f3_tree.specs.Declarations.{type_view}
use Rattle.f3_program.specs.declared.declarations.Final.{Final}
use Rattle.f3_elaboration.specs.Declarations.{components, finals}
use Rattle.f3_elaboration.specs.Nodes.{ComponentNode, DerivedNode}
use Rattle.f3_elaboration.specs.Numbers.{Definition}
use Rattle.f3_type_nodes.specs.Inner.Finals.{finals_by}
use Rattle.f3_type_nodes.specs.Inner.Units.{definition_of}
use Rattle.f3_type_nodes.proofs.Ranking.{finals_stand}
use Rattle.f3_type_nodes.proofs.definitions.derived.Goals as goal

abbrev node : (home : ℕ) → List ComponentNode → List Final → DerivedNode
node home cs fs = record { home = home; components = cs; finals = fs }

pub returns : goal.returns
returns c = λ w inner u h.
    let d : Definition = definition_of u c.args.entity (type_view c.args.definition.now) in
    ap (λ (cs : List ComponentNode). node c.args.scope cs c.in_ok-finals.finals.items) (c.in_ok-components.ensures w inner d h.scope_is refl h.stands)
    ∙ ap (λ (fs : List Final). node c.args.scope (components w d) fs)
    (c.in_ok-finals.ensures
    ∙ ap (λ (ns : List Name). finals_by c.args.whole c.args.finalizers c.args.scope c.args.entity ns) c.deref.ensures.value
    ∙ finals_stand c.args.whole c.args.finalizers c.args.scope w inner d h)
    ∙ ap (λ (n : ℕ). node n (components w d) (finals w d)) (sym h.scope_is)
