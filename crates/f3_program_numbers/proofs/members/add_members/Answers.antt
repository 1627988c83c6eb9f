use Rattle.std.proofs.Common.{◌<◌, ◌≤◌, ◌+◌, length, arith, rules}
use Rattle.f3_tree.specs.Tree.{procedure_view}
use Rattle.f3_type_rules.specs.Associates.{constructs_of_block}
use Rattle.f3_program_numbers.specs.Chosen.{choice_of}
use Rattle.f3_program_numbers.proofs.Owned.{within_firsts, member_fits, scope_next, members_fit_more, members_more, members_end}
use Rattle.f3_program_numbers.proofs.members.add_members.Goals as goal

pub bounds-firsts-next : goal.bounds-firsts-next
bounds-firsts-next c =
    within_firsts c.args.firsts.now c.loop-procedure.next c.args.list.now c.loop-procedure.procedure-index c.procedure-item.result c.loop-procedure-test.true c.procedure-item.is c.loop-procedure.invariant.fit

pub offset_bounds-firsts-next : goal.offset_bounds-firsts-next
offset_bounds-firsts-next c =
    let within : c.loop-procedure.next < length c.args.firsts.now =
    within_firsts c.args.firsts.now c.loop-procedure.next c.args.list.now c.loop-procedure.procedure-index c.procedure-item.result c.loop-procedure-test.true c.procedure-item.is c.loop-procedure.invariant.fit in
    search rules

pub add_member-requires : goal.add_member-requires
add_member-requires c =
    member_fits c.args.firsts.now c.loop-procedure.next c.args.list.now c.loop-procedure.procedure-index c.procedure-item.result c.loop-procedure-test.true c.procedure-item.is c.loop-procedure.invariant.fit

pub behind-requires : goal.behind-requires
behind-requires c =
    let k : c.loop-procedure.next + 1 + length (constructs_of_block (procedure_view c.procedure-item.result).body) ≤ length c.args.firsts.now =
    scope_next c.args.firsts.now c.loop-procedure.next c.args.list.now c.loop-procedure.procedure-index c.procedure-item.result c.loop-procedure-test.true c.procedure-item.is c.loop-procedure.invariant.fit in
    search rules

pub loop-procedure-preserved : goal.loop-procedure-preserved
loop-procedure-preserved c = record {
  fit =
      members_fit_more c.args.firsts.now c.loop-procedure.next c.args.list.now c.loop-procedure.procedure-index c.procedure-item.result c.loop-procedure-test.true c.procedure-item.is
      c.loop-procedure.invariant.fit c.in_ok-next.next c.in_ok-next.ensures;
  items = λ scopes are.
      members_more c.args.firsts.now c.loop-procedure.next c.args.list.now c.loop-procedure.procedure-index c.procedure-item.result c.loop-procedure-test.true c.procedure-item.is
      c.loop-procedure.invariant.fit (choice_of c.args.wanted) scopes c.in_ok-next.next c.loop-procedure.found.items c.add_member.new.found.items _ are c.in_ok-next.ensures
      c.in_ok-add_member.ensures (c.loop-procedure.invariant.items scopes are);
}

pub returns : goal.returns
returns c = λ scopes e are.
    members_end (choice_of c.args.wanted) scopes e c.loop-procedure.next c.args.scope c.args.list.now c.loop-procedure.procedure-index c.loop-procedure.found.items c.args.found.now.items
    (omega (arith, c.loop-procedure-test.false)) (c.loop-procedure.invariant.items scopes are)
