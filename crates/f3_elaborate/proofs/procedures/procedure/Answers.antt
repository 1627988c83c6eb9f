use Rattle.std.proofs.Common.{◌∙◌, ◌+◌, ap, map, refl, subst, sym}
use Rattle.f3_access.specs.Tables.{lookup_of}
use Rattle.f3_associates.specs.Known.{IsSettled}
use Rattle.f3_tree.specs.Statements.{block_of, statement_view}
use Rattle.f3_tree.specs.Tree.{procedure_view}
use Rattle.f3_type_rules.specs.Members.{Member}
use Rattle.f3_numbers.specs.Agrees.{Agrees}
use Rattle.f3_elaboration.specs.Nodes as n
use Rattle.f3_elaboration.specs.Numbers.{Inner, numbers_in_member}
use Rattle.f3_elaboration.specs.Statements.{block}
use Rattle.f3_inside.specs.Standing.{state_of}
use Rattle.f3_elaborate.proofs.Nodes.{of_member}
use Rattle.f3_elaborate.proofs.Placing.{entered, knows_still, member_placed, stands_inside, still_agrees}
use Rattle.f3_elaborate.proofs.procedures.procedure.Goals as goal

pub returns-clause-node : goal.returns-clause-node
returns-clause-node c = λ w m h at first is.
    let unit = c.args.home.unit in
    let scope = c.args.home.scope in
    let s = entered c.args.state.now c.place-state.result c.enter_member.new.numbers c.enter_member.new.lent in
    let inner : Inner = numbers_in_member (lookup_of c.args.state.now.site.known.tables.now) unit m in
    let agrees : Agrees c.enter_member.new.numbers w.numbers inner = c.in_ok-entered.ensures.agrees w.numbers unit m at first is h.numbers in
    let stands = stands_inside c.args.scenery c.args.state.now w _ inner h refl refl agrees in
    let here = member_placed c.args.scenery c.args.state.now w unit scope m c.place-state.result c.enter_member.new.numbers c.enter_member.new.lent h at c.place-state.ensures agrees
    (c.in_ok-entered.ensures.lent unit m at first is) in
    of_member w unit scope m (procedure_view c.args.given.now) (state_of s) _ _ _ _ at is here
    (c.in_ok-dummies.ensures.dummies w inner m stands at is)
    (c.in_ok-dummies.ensures.locals w inner m stands at is)
    (c.in_ok-dummies.ensures.outcome w inner m stands at is)
    (c.in_block-body.ensures ∙ ap n.block (c.in_ok-list.ensures.nodes ∙ ap (λ xs. block (state_of s) (scope + 1) (block_of (map statement_view xs))) c.deref.ensures.value))

pub returns-clause-knows : goal.returns-clause-knows
returns-clause-knows c = λ w h.
    let unit = c.args.home.unit in
    let m : Member = record { entity = 0; scope = c.args.home.scope; first = c.args.home.first; tree = procedure_view c.args.given.now } in
    let inner : Inner = numbers_in_member (lookup_of c.args.state.now.site.known.tables.now) unit m in
    let agrees : Agrees c.enter_member.new.numbers w.numbers inner = c.in_ok-entered.ensures.agrees w.numbers unit m refl refl refl h.numbers in
    let same = c.in_ok-list.ensures.same in
    knows_still c.args.scenery c.args.state.now _ c.place-state.result w h same.site same.texts
    (c.leave.ensures.agrees w.numbers inner
    (still_agrees c.enter_member.new.numbers c.block.new.state.numbers w.numbers inner same.objects same.procedures same.types agrees)
    (c.in_ok-entered.ensures.undoes w.numbers unit m refl refl refl h.numbers))

pub returns-clause-settled : goal.returns-clause-settled
returns-clause-settled c = subst IsSettled (sym c.in_ok-list.ensures.same.site) c.requires.settled
