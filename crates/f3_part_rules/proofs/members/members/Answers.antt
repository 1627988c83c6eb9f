use Rattle.std.proofs.Common.{◌≡◌, ◌<◌, ◌≤◌, length, get_or, arith, rules}
use Rattle.std.proofs.lemmas.Option.{slice_get-get_or, get_or_from_slice_get}
use Rattle.f3_tree.specs.Tree.{procedure_view}
use Rattle.f3_part_rules.proofs.Walked.{scope_behind, scope_within, behind_within, fit_here, fit_more, reaches_more, noted_all, stands_behind}
use Rattle.f3_part_rules.proofs.members.members.Goals as goal

pub bounds-firsts-next : goal.bounds-firsts-next
bounds-firsts-next c =
    scope_within c.args.firsts.now _ c.loop-given.next c.args.list.now c.loop-given.given-index c.given-item.result c.loop-given-test.true c.given-item.is c.loop-given.invariant.fit

pub offset_bounds-firsts-next : goal.offset_bounds-firsts-next
offset_bounds-firsts-next c =
    let within : c.loop-given.next < length c.args.firsts.now =
    scope_within c.args.firsts.now _ c.loop-given.next c.args.list.now c.loop-given.given-index c.given-item.result c.loop-given-test.true c.given-item.is c.loop-given.invariant.fit in
    search rules

pub member-requires : goal.member-requires
member-requires c =
    let here = fit_here c.args.firsts.now _ c.loop-given.next c.args.list.now c.loop-given.given-index c.given-item.result c.loop-given-test.true c.given-item.is c.loop-given.invariant.fit in
    let same : get_or c.args.firsts.now c.loop-given.next 0 ≡ here.0.0 = get_or_from_slice_get c.args.firsts.now c.loop-given.next here.0.0 0 here.0.1 in
    record { values = omega (arith, same, here.0.2); cells = omega (arith, same, here.0.2) }

pub behind-requires : goal.behind-requires
behind-requires c =
    let k : scope_behind c.loop-given.next (procedure_view c.given-item.result) ≤ length c.args.firsts.now =
    behind_within c.args.firsts.now _ c.loop-given.next c.args.list.now c.loop-given.given-index c.given-item.result c.loop-given-test.true c.given-item.is c.loop-given.invariant.fit in
    search rules

pub loop-given-preserved : goal.loop-given-preserved
loop-given-preserved c = record {
  fit = fit_more c.args.firsts.now _ c.loop-given.next c.in_ok-next.next c.args.list.now c.loop-given.given-index c.given-item.result c.loop-given-test.true c.given-item.is c.in_ok-next.ensures
      c.loop-given.invariant.fit;
  reached = λ s k scopes e h f.
      let within : c.loop-given.next < length c.args.firsts.now =
      scope_within c.args.firsts.now _ c.loop-given.next c.args.list.now c.loop-given.given-index c.given-item.result c.loop-given-test.true c.given-item.is c.loop-given.invariant.fit in
      reaches_more s c.args.unit scopes c.loop-given.growth c.member.new.growth c.loop-given.first c.member.new.first _ c.loop-given.next c.in_ok-next.next
      (get_or c.args.firsts.now c.loop-given.next 0) c.args.list.now c.loop-given.given-index c.given-item.result _ c.loop-given-test.true c.given-item.is
      (f c.loop-given.next (get_or c.args.firsts.now c.loop-given.next 0) (slice_get-get_or c.args.firsts.now c.loop-given.next 0 within))
      c.in_ok-next.ensures
      (c.in_ok-member.ensures.noted s)
      (c.in_ok-member.ensures.stands s)
      (c.loop-given.invariant.reached s k scopes e h f);
  values = search rules;
  cells = search rules;
}

pub returns-clause-noted : goal.returns-clause-noted
returns-clause-noted c = λ s k scopes e h f.
    noted_all s c.args.unit scopes c.loop-given.growth c.loop-given.first _ c.loop-given.next c.args.list.now c.loop-given.given-index _ (omega (arith, c.loop-given-test.false))
    (c.loop-given.invariant.reached s k scopes e h f)

pub returns-clause-stands : goal.returns-clause-stands
returns-clause-stands c = λ s k scopes e h f.
    stands_behind s c.args.unit scopes c.loop-given.growth c.loop-given.first _ c.loop-given.next c.args.list.now c.loop-given.given-index _ (omega (arith, c.loop-given-test.false))
    (c.loop-given.invariant.reached s k scopes e h f)
