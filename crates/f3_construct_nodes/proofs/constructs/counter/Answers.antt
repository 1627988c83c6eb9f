use Rattle.std.proofs.Common.{◌≡◌, List, Option, map, ap, subst, ◌∙◌, IfOk}
use Rattle.std.specs.Global.{Vec}
use Rattle.f3_program.specs.declared.declarations.Kind.{Kind}
use Rattle.f3_program.specs.declared.expression.Designator.{Designator}
use Rattle.f3_tree.specs.declared.expression.Argument.{Argument}
use Rattle.f3_tree.specs.declared.expression.Name.{Name}
use Rattle.f3_tree.specs.Expressions.{Parts, designator, part_view, parts_list}
use Rattle.f3_elaboration.specs.Actions.{held_kind, kind, variable}
use Rattle.f3_elaboration.specs.Views.{designator_view}
use Rattle.f3_numbers.specs.Surroundings.{surroundings_of}
use Rattle.f3_construct_nodes.proofs.constructs.counter.Goals as goal

pub returns-clause-variable : goal.returns-clause-variable
returns-clause-variable c =
    let e = ap (λ (xs : List (Name × Option (Vec Argument))). parts_list (map part_view xs)) c.deref.ensures.value ∙ c.in_ok-list.ensures in
    subst (λ (xs : Parts). IfOk c.counting-found.result (λ (p : Designator × Kind). designator_view p.0 ≡ variable (surroundings_of c.args.from) xs)) e
    c.counting-found.ensures.variable

pub returns-clause-kind : goal.returns-clause-kind
returns-clause-kind c =
    let e = ap (λ (xs : List (Name × Option (Vec Argument))). parts_list (map part_view xs)) c.deref.ensures.value ∙ c.in_ok-list.ensures in
    subst (λ (xs : Parts). IfOk c.counting-found.result (λ (p : Designator × Kind). p.1 ≡ held_kind (kind (surroundings_of c.args.from) (designator xs)))) e
    c.counting-found.ensures.kind
