use Rattle.std.proofs.Common.{◌≡◌, ◌+◌, arith, rules, ap, sym, ◌∙◌, List, length, drop, map, subst}
use Rattle.std.specs.List.{flat_map}
use Rattle.std.proofs.lemmas.List.{take_all}
use Rattle.f3_tree.specs.declared.declaration.Specification.{Specification}
use Rattle.f3_tree.specs.Declarations.{specification_view}
use Rattle.f3_scopes.specs.Outlines.{Own}
use Rattle.f3_scopes.specs.Scopes.{declared_in}
use Rattle.f3_typed_parts.specs.Noted.{noted}
use Rattle.f3_typed_parts.proofs.Noting.{noted_none}
use Rattle.f3_type_rules.specs.Declarations.{specification_rows, specification_next}
use Rattle.f3_type_rules.specs.Walks.{after, along, Spot}
use Rattle.f3_declared.specs.Spots.{spot_in}
use Rattle.f3_entities.specs.Growth.{Stands}
use Rattle.f3_specifications.proofs.Walking.{after_more, along_noted}
use Rattle.f3_part_rules.proofs.Parts.{left_more, left_none, left_view}
use Rattle.f3_part_rules.proofs.specifications.specifications.Goals as goal

declares : Specification → List Own
declares x = declared_in (specification_view x)

pub loop-given-init : goal.loop-given-init
loop-given-init c = record {
  noted = λ s k ms h f. sym (noted_none c.args.first.now);
  stands = λ s k h. h;
  next = search rules;
  values = search rules;
  cells = search rules;
}

pub specification-requires : goal.specification-requires
unfolding declares
specification-requires c =
    let more : length (flat_map declares (drop c.loop-given.given-index c.args.list.now)) ≡ length (declares c.given-item.result) + length (flat_map declares (drop (c.loop-given.given-index + 1) c.args.list.now)) =
    left_more declares c.args.list.now c.loop-given.given-index c.given-item.result c.loop-given-test.true c.given-item.is in
    let all : length (flat_map declares c.args.list.now) ≡ length (flat_map declared_in (map specification_view c.args.list.now)) = left_view declared_in specification_view c.args.list.now in
    record { values = omega arith; cells = omega arith }

pub loop-given-preserved : goal.loop-given-preserved
unfolding declares
loop-given-preserved c =
    let more : length (flat_map declares (drop c.loop-given.given-index c.args.list.now)) ≡ length (declares c.given-item.result) + length (flat_map declares (drop (c.loop-given.given-index + 1) c.args.list.now)) =
    left_more declares c.args.list.now c.loop-given.given-index c.given-item.result c.loop-given-test.true c.given-item.is in
    record {
      noted = λ s k ms h f.
          let spot : Spot = spot_in s c.args.spot.now in
          along_noted (specification_rows spot ms) (specification_next spot) specification_view k c.args.list.now c.loop-given.given-index c.given-item.result
          c.args.first.now c.loop-given.first _ c.loop-given-test.true c.given-item.is
          (c.loop-given.invariant.noted s k ms h f)
          (c.in_ok-specification.ensures.noted s _ ms (c.loop-given.invariant.stands s k h) f);
      stands = λ s k h.
          let spot : Spot = spot_in s c.args.spot.now in
          subst (Stands s c.specification.new.growth)
          (after_more (specification_next spot) specification_view k c.args.list.now c.loop-given.given-index c.given-item.result c.loop-given-test.true c.given-item.is)
          (c.in_ok-specification.ensures.stands s _ (c.loop-given.invariant.stands s k h));
      next = omega (arith, c.in_ok-specification.ensures.behind.next);
      values = search rules;
      cells = search rules;
    }

pub returns-clause-noted : goal.returns-clause-noted
returns-clause-noted c = λ s k ms h f.
    let spot : Spot = spot_in s c.args.spot.now in
    c.loop-given.invariant.noted s k ms h f
    ∙ ap (λ (ys : List Specification). noted c.args.first.now (along (specification_rows spot ms) (specification_next spot) k (map specification_view ys)))
    (take_all c.loop-given.given-index c.args.list.now (omega (arith, c.loop-given-test.false)))

pub returns-clause-stands : goal.returns-clause-stands
returns-clause-stands c = λ s k h.
    let spot : Spot = spot_in s c.args.spot.now in
    subst (λ (ys : List Specification). Stands s c.loop-given.growth (after (specification_next spot) k (map specification_view ys)))
    (take_all c.loop-given.given-index c.args.list.now (omega (arith, c.loop-given-test.false)))
    (c.loop-given.invariant.stands s k h)

pub returns-clause-behind : goal.returns-clause-behind
unfolding declares
returns-clause-behind c =
    let none : length (flat_map declares (drop c.loop-given.given-index c.args.list.now)) ≡ 0 = left_none declares c.args.list.now c.loop-given.given-index (omega (arith, c.loop-given-test.false)) in
    let all : length (flat_map declares c.args.list.now) ≡ length (flat_map declared_in (map specification_view c.args.list.now)) = left_view declared_in specification_view c.args.list.now in
    record { next = omega arith; values = search rules; cells = search rules }
