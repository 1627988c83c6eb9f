use Rattle.std.proofs.Common.{arith, rules, ap, sym, ◌∙◌, List, map, subst}
use Rattle.std.proofs.lemmas.List.{take_all}
use Rattle.f3_tree.specs.declared.declaration.Entity.{Entity}
use Rattle.f3_tree.specs.Declarations.{DeclarationTree, entity_view}
use Rattle.f3_typed_parts.specs.Noted.{noted}
use Rattle.f3_typed_parts.proofs.Noting.{noted_none}
use Rattle.f3_type_rules.specs.Declarations.{entity_rows, entity_next}
use Rattle.f3_type_rules.specs.Walks.{after, along, Spot}
use Rattle.f3_declared.specs.Declarations.{tree_of}
use Rattle.f3_declared.specs.Spots.{spot_in}
use Rattle.f3_entities.specs.Growth.{Stands}
use Rattle.f3_specifications.proofs.Walking.{after_more, along_noted}
use Rattle.f3_specifications.proofs.declarations.entities.Goals as goal

pub loop-declared-init : goal.loop-declared-init
loop-declared-init c = record {
  dimension = search rules;
  noted = λ s k h. sym (noted_none c.args.first.now);
  stands = λ s k h. h;
  next = omega arith;
  values = search rules;
  cells = search rules;
}

pub loop-declared-preserved : goal.loop-declared-preserved
loop-declared-preserved c = record {
  dimension = search rules;
  noted = λ s k h.
      let spot : Spot = spot_in s c.args.spot.now in
      let d : DeclarationTree = tree_of c.args.reading.now in
      along_noted (entity_rows spot d) (entity_next spot d) entity_view k c.args.list.now c.loop-declared.declared-index c.declared-item.result
      c.args.first.now c.loop-declared.first _ c.loop-declared-test.true c.declared-item.is
      (c.loop-declared.invariant.noted s k h)
      (c.in_ok-entity.ensures s _ (c.loop-declared.invariant.stands s k h));
  stands = λ s k h.
      let spot : Spot = spot_in s c.args.spot.now in
      let d : DeclarationTree = tree_of c.args.reading.now in
      subst (Stands s c.declare-changed.new.growth)
      (after_more (entity_next spot d) entity_view k c.args.list.now c.loop-declared.declared-index c.declared-item.result c.loop-declared-test.true c.declared-item.is)
      (c.declare-changed.ensures.stands s _ (c.loop-declared.invariant.stands s k h));
  next = omega arith;
  values = search rules;
  cells = search rules;
}

pub returns-clause-noted : goal.returns-clause-noted
returns-clause-noted c = λ s k h.
    let spot : Spot = spot_in s c.args.spot.now in
    let d : DeclarationTree = tree_of c.args.reading.now in
    c.loop-declared.invariant.noted s k h
    ∙ ap (λ (ys : List Entity). noted c.args.first.now (along (entity_rows spot d) (entity_next spot d) k (map entity_view ys)))
    (take_all c.loop-declared.declared-index c.args.list.now (omega (arith, c.loop-declared-test.false)))

pub returns-clause-stands : goal.returns-clause-stands
returns-clause-stands c = λ s k h.
    let spot : Spot = spot_in s c.args.spot.now in
    let d : DeclarationTree = tree_of c.args.reading.now in
    subst (λ (ys : List Entity). Stands s c.loop-declared.growth (after (entity_next spot d) k (map entity_view ys)))
    (take_all c.loop-declared.declared-index c.args.list.now (omega (arith, c.loop-declared-test.false)))
    (c.loop-declared.invariant.stands s k h)
