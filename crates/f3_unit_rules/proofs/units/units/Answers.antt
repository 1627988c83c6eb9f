use Rattle.std.proofs.Common.{◌≡◌, ◌≤◌, ℕ, List, length, map, take, subst, sym, ap, ◌∙◌, arith, rules}
use Rattle.std.specs.List.{flat_map}
use Rattle.std.proofs.lemmas.List.{take_all}
use Rattle.f3_graph.specs.declared.UnitId.{UnitId}
use Rattle.f3_tree.specs.Tree.{unit_view}
use Rattle.f3_typed_parts.specs.Noted.{noted}
use Rattle.f3_typed_parts.proofs.Noting.{noted_none}
use Rattle.f3_type_rules.specs.Declarations.{unit_rows, unit_next}
use Rattle.f3_type_rules.specs.Members.{Numbered, units_from}
use Rattle.f3_type_rules.specs.Program.{units_in}
use Rattle.f3_type_rules.specs.Walks.{after, along}
use Rattle.f3_part_rules.proofs.Shaping.{flat_map_map}
use Rattle.f3_entities.specs.Growth.{Stands}
use Rattle.f3_unit_rules.specs.Units.{UnitsFit}
use Rattle.f3_unit_rules.specs.Inner.Steps.{found_at}
use Rattle.f3_unit_rules.proofs.Along.{after_more, along_noted}
use Rattle.f3_unit_rules.proofs.units.units.Goals as goal

-- all units of the order
all : (units : List Numbered) (xs ys : List UnitId) (i : ℕ) → length xs ≤ i → xs ≡ ys
    → flat_map (λ (x : UnitId). found_at units x.number) (take i xs) ≡ units_in units (map (λ (x : UnitId). x.number) ys)
all units xs ys i le same =
    ap (flat_map (λ (x : UnitId). found_at units x.number)) (take_all i xs le ∙ same) ∙ flat_map_map (found_at units) (λ (x : UnitId). x.number) ys

pub loop-unit-init : goal.loop-unit-init
loop-unit-init c = record {
  noted = λ s k scopes h f a. sym (noted_none c.args.first.now);
  stands = λ s k scopes h f a. h;
  values = search rules;
  cells = search rules;
}

pub unit_at-requires-clause-room : goal.unit_at-requires-clause-room
unit_at-requires-clause-room c = c.loop-unit.invariant.cells ∙ c.requires.room ∙ sym c.loop-unit.invariant.values

pub unit_at-requires-clause-fit : goal.unit_at-requires-clause-fit
unit_at-requires-clause-fit c =
    subst (λ (n : ℕ). UnitsFit c.args.firsts.now n c.args.numbers.now (map unit_view c.args.list.now)) (sym c.loop-unit.invariant.values) c.requires.fit

pub loop-unit-preserved : goal.loop-unit-preserved
loop-unit-preserved c = record {
  noted = λ s k scopes h f a.
      let units : List Numbered = units_from scopes 0 (map unit_view c.args.list.now) in
      along_noted (unit_rows s) (unit_next s) (λ (x : UnitId). found_at units x.number) k c.deref-unit-items.result.now c.loop-unit.unit-index _
      c.args.first.now c.loop-unit.first _ c.loop-unit-test.true
      (c.loop-unit.invariant.noted s k scopes h f a)
      (c.in_ok-unit_at.ensures.noted s _ scopes (c.loop-unit.invariant.stands s k scopes h f a) f a);
  stands = λ s k scopes h f a.
      let units : List Numbered = units_from scopes 0 (map unit_view c.args.list.now) in
      subst (Stands s c.unit_at.new.growth)
      (after_more (unit_next s) (λ (x : UnitId). found_at units x.number) k c.deref-unit-items.result.now c.loop-unit.unit-index _ c.loop-unit-test.true)
      (c.in_ok-unit_at.ensures.stands s _ scopes (c.loop-unit.invariant.stands s k scopes h f a) f a);
  values = search rules;
  cells = search rules;
}

pub returns-clause-noted : goal.returns-clause-noted
returns-clause-noted c = λ s k scopes h f a.
    let units : List Numbered = units_from scopes 0 (map unit_view c.args.list.now) in
    c.loop-unit.invariant.noted s k scopes h f a
    ∙ ap (λ (us : List Numbered). noted c.args.first.now (along (unit_rows s) (unit_next s) k us))
    (all units c.deref-unit-items.result.now c.args.order.now.units.items c.loop-unit.unit-index (omega (arith, c.loop-unit-test.false)) c.deref-unit-items.ensures.value)

pub returns-clause-stands : goal.returns-clause-stands
returns-clause-stands c = λ s k scopes h f a.
    let units : List Numbered = units_from scopes 0 (map unit_view c.args.list.now) in
    subst (λ (us : List Numbered). Stands s c.loop-unit.growth (after (unit_next s) k us))
    (all units c.deref-unit-items.result.now c.args.order.now.units.items c.loop-unit.unit-index (omega (arith, c.loop-unit-test.false)) c.deref-unit-items.ensures.value)
    (c.loop-unit.invariant.stands s k scopes h f a)
