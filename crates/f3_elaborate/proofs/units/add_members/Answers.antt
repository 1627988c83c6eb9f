use Rattle.std.proofs.Common.{◌<◌, ◌≤◌, ◌+◌, ◌∷◌, [], map, length, get_or, refl, ap, ◌∙◌, arith, rules}
use Rattle.std.proofs.lemmas.List.{map-append}
use Rattle.f3_tree.specs.Tree as trees
use Rattle.f3_type_rules.specs.Associates.{constructs_of_block}
use Rattle.f3_types.specs.Members.{member_of}
use Rattle.f3_elaboration.specs.DeclaredViews.{procedure_view}
use Rattle.f3_program_numbers.proofs.Owned.{within_firsts, member_fits, scope_next, members_fit_more}
use Rattle.f3_elaborate.proofs.Members.{nodes_more, nodes_end}
use Rattle.f3_elaborate.proofs.units.add_members.Goals as goal

pub bounds-firsts-next : goal.bounds-firsts-next
bounds-firsts-next c =
    within_firsts c.args.walk.firsts.now c.loop-given.next c.args.list.now c.loop-given.given-index c.given-item.result c.loop-given-test.true c.given-item.is c.loop-given.invariant.fit

pub offset_bounds-firsts-next : goal.offset_bounds-firsts-next
offset_bounds-firsts-next c =
    let within : c.loop-given.next < length c.args.walk.firsts.now =
    within_firsts c.args.walk.firsts.now c.loop-given.next c.args.list.now c.loop-given.given-index c.given-item.result c.loop-given-test.true c.given-item.is c.loop-given.invariant.fit in
    search rules

pub procedure-requires-clause-room : goal.procedure-requires-clause-room
procedure-requires-clause-room c =
    member_fits c.args.walk.firsts.now c.loop-given.next c.args.list.now c.loop-given.given-index c.given-item.result c.loop-given-test.true c.given-item.is c.loop-given.invariant.fit

pub procedure-requires-clause-scopes : goal.procedure-requires-clause-scopes
procedure-requires-clause-scopes c =
    let k : c.loop-given.next + 1 + length (constructs_of_block (trees.procedure_view c.given-item.result).body) ≤ length c.args.walk.firsts.now =
    scope_next c.args.walk.firsts.now c.loop-given.next c.args.list.now c.loop-given.given-index c.given-item.result c.loop-given-test.true c.given-item.is c.loop-given.invariant.fit in
    search rules

pub loop-given-preserved : goal.loop-given-preserved
loop-given-preserved c =
    let made = c.in_ok-made.made in
    record {
      fit =
          members_fit_more c.args.walk.firsts.now c.loop-given.next c.args.list.now c.loop-given.given-index c.given-item.result c.loop-given-test.true c.given-item.is
          c.loop-given.invariant.fit c.in_ok-made.behind c.in_ok-made.ensures.next;
      settled = c.in_ok-made.ensures.settled;
      knows = λ w h. c.in_ok-made.ensures.knows w (c.loop-given.invariant.knows w h);
      items = λ w scopes h are.
          nodes_more c.args.walk.firsts.now c.loop-given.next c.args.list.now c.loop-given.given-index c.given-item.result c.loop-given-test.true c.given-item.is
          c.loop-given.invariant.fit w c.args.unit scopes c.in_ok-made.behind (map procedure_view c.loop-given.found.items) (map procedure_view c.push.new.self.items) _ (procedure_view made) are
          c.in_ok-made.ensures.next
          (c.in_ok-made.ensures.node w (member_of 0 c.loop-given.next (get_or c.args.walk.firsts.now c.loop-given.next 0) (trees.procedure_view c.given-item.result)) (c.loop-given.invariant.knows w h) refl refl refl)
          (ap (map procedure_view) c.in_ok-push.ensures.items ∙ map-append procedure_view c.loop-given.found.items (made ∷ []))
          (c.loop-given.invariant.items w scopes h are);
    }

pub returns-clause-found : goal.returns-clause-found
returns-clause-found c = λ w scopes e h are.
    nodes_end w c.args.unit scopes e c.loop-given.next c.args.scope c.args.list.now c.loop-given.given-index (map procedure_view c.loop-given.found.items) (map procedure_view c.args.found.now.items)
    (omega (arith, c.loop-given-test.false)) (c.loop-given.invariant.items w scopes h are)
