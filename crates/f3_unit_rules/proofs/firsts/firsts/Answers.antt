use Rattle.std.proofs.Common.{◌+◌, List, ℕ, map, subst, sym, ap, ◌∙◌, arith, rules}
use Rattle.f3_access.specs.Access.{first_entity}
use Rattle.f3_scopes.specs.Outlines.{Scope, scope_view}
use Rattle.f3_part_rules.specs.Members.{AreFirsts}
use Rattle.f3_unit_rules.proofs.Entities.{first_more, first_within, firsts_more}
use Rattle.f3_unit_rules.proofs.firsts.firsts.Goals as goal

pub overflow_add-next : goal.overflow_add-next
overflow_add-next c =
    let more = first_more c.args.outlines.now c.loop-outline.outline-index c.outline-item.result c.loop-outline-test.true c.outline-item.is in
    let within = first_within (map scope_view c.args.outlines.now) (c.loop-outline.outline-index + 1) in
    omega (arith, more, within)

pub loop-outline-preserved : goal.loop-outline-preserved
loop-outline-preserved c =
    let scopes : List Scope = map scope_view c.args.outlines.now in
    let more = first_more c.args.outlines.now c.loop-outline.outline-index c.outline-item.result c.loop-outline-test.true c.outline-item.is in
    record {
      next = omega (arith, more);
      count = search rules;
      each = subst (λ (zs : List ℕ). AreFirsts scopes zs) (sym c.in_ok-push.ensures.items)
          (firsts_more scopes c.loop-outline.found.items c.loop-outline.next
          (c.loop-outline.invariant.next ∙ ap (first_entity scopes) (sym c.loop-outline.invariant.count)) c.loop-outline.invariant.each);
    }
