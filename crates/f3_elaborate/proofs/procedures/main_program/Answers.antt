use Rattle.std.proofs.Common.{◌∙◌, ◌+◌, List, [], None, ap, map, refl, subst, sym}
use Rattle.f3_associates.specs.Known.{IsSettled}
use Rattle.f3_tree.specs.Statements as tree
use Rattle.f3_tree.specs.Tree.{unit_view}
use Rattle.f3_type_rules.specs.Members.{Numbered}
use Rattle.f3_numbers.specs.Agrees.{Agrees}
use Rattle.f3_elaboration.specs.DeclaredViews.{declared_view, dummy_view}
use Rattle.f3_elaboration.specs.Nodes.{DummyNode, ProcedureNode}
use Rattle.f3_elaboration.specs.Nodes as n
use Rattle.f3_elaboration.specs.Numbers.{Inner, numbers_in_main}
use Rattle.f3_elaboration.specs.Statements.{block}
use Rattle.f3_elaboration.specs.Views.{statement_view}
use Rattle.f3_inside.specs.Standing.{state_of}
use Rattle.f3_elaborate.proofs.Nodes.{made, of_main}
use Rattle.f3_elaborate.proofs.Placing.{entered, knows_still, main_placed, stands_inside, still_agrees}
use Rattle.f3_elaborate.proofs.procedures.main_program.Goals as goal

pub returns-clause-node : goal.returns-clause-node
returns-clause-node c = λ w u h at first is.
    let scope = c.args.scope in
    let s = entered c.args.state.now c.place-state.result c.enter_main.new.numbers c.enter_main.new.lent in
    let inner : Inner = numbers_in_main u in
    let agrees : Agrees c.enter_main.new.numbers w.numbers inner = c.in_ok-entered.ensures.agrees w.numbers u first is h.numbers in
    let stands = stands_inside c.args.scenery c.args.state.now w _ inner h refl refl agrees in
    let here = main_placed c.args.scenery c.args.state.now w scope u c.place-state.result c.enter_main.new.numbers c.enter_main.new.lent h at c.place-state.ensures agrees
    (c.in_ok-entered.ensures.lent u) in
    ap (λ (ds : List DummyNode). made scope ds (map declared_view c.in_ok-locals.locals.items) None (statement_view c.in_block-body.result) c.args.given.now.end) (ap (map dummy_view) c.new.ensures.items)
    ∙ of_main w scope u (unit_view c.args.given.now) (state_of s) _ _ at is here
    (c.in_ok-locals.ensures w inner u stands at is)
    (c.in_block-body.ensures ∙ ap n.block (c.in_ok-list.ensures.nodes ∙ ap (λ xs. block (state_of s) (scope + 1) (tree.block_of (map tree.statement_view xs))) c.deref.ensures.value))

pub returns-clause-knows : goal.returns-clause-knows
returns-clause-knows c = λ w h.
    let u : Numbered = record { scope = c.args.scope; first = c.args.first; tree = unit_view c.args.given.now; members = [] } in
    let inner : Inner = numbers_in_main u in
    let agrees : Agrees c.enter_main.new.numbers w.numbers inner = c.in_ok-entered.ensures.agrees w.numbers u refl refl h.numbers in
    let same = c.in_ok-list.ensures.same in
    knows_still c.args.scenery c.args.state.now _ c.place-state.result w h same.site same.texts
    (c.leave.ensures.agrees w.numbers inner
    (still_agrees c.enter_main.new.numbers c.block.new.state.numbers w.numbers inner same.objects same.procedures same.types agrees)
    (c.in_ok-entered.ensures.undoes w.numbers u refl refl h.numbers))

pub returns-clause-settled : goal.returns-clause-settled
returns-clause-settled c = subst IsSettled (sym c.in_ok-list.ensures.same.site) c.requires.settled
