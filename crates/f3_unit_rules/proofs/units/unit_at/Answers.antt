use Rattle.std.proofs.Common.{List, ℕ, map, get_or, subst, sym, ap, ◌∙◌}
use Rattle.f3_tree.specs.Tree.{unit_view}
use Rattle.f3_typed_parts.specs.Noted.{noted}
use Rattle.f3_typed_parts.proofs.Noting.{noted_none}
use Rattle.f3_type_rules.specs.Declarations.{unit_rows, unit_next}
use Rattle.f3_type_rules.specs.Members.{Numbered, numbered, units_from}
use Rattle.f3_type_rules.specs.Walks.{after, along, Known}
use Rattle.f3_entities.specs.Growth.{Stands}
use Rattle.f3_unit_rules.proofs.Places.{unit_placed, rows_found, next_found, none_found, tree_there, number_there}
use Rattle.f3_unit_rules.proofs.units.unit_at.Goals as goal

pub unit-requires-clause-fit : goal.unit-requires-clause-fit
unit-requires-clause-fit c =
    let is = c.in-Some.ensures.lookup in
    c.requires.fit c.args.number (get_or c.args.numbers.now c.args.number 0) (unit_view c.in-Some.given.now)
    (number_there c.args.numbers.now c.args.list.now c.args.number c.requires.numbers is.3.0)
    (tree_there c.args.list.now c.args.number c.in-Some.given.now is.3.0 is.1)

pub returns-in_ok-unit-in-Some-clause-noted : goal.returns-in_ok-unit-in-Some-clause-noted
returns-in_ok-unit-in-Some-clause-noted c = λ s k scopes h f a.
    let is = c.in-Some.ensures.lookup in
    let number : ℕ = get_or c.args.numbers.now c.args.number 0 in
    c.in_ok-unit-in-Some.ensures.noted s k scopes h f
    ∙ ap (noted c.args.first.now) (rows_found s k (units_from scopes 0 (map unit_view c.args.list.now)) c.args.number (numbered scopes number (unit_view c.in-Some.given.now))
    (unit_placed scopes 0 c.args.numbers.now (map unit_view c.args.list.now) c.args.number number (unit_view c.in-Some.given.now) a
    (number_there c.args.numbers.now c.args.list.now c.args.number c.requires.numbers is.3.0)
    (tree_there c.args.list.now c.args.number c.in-Some.given.now is.3.0 is.1)))

pub returns-in_ok-unit-in-Some-clause-stands : goal.returns-in_ok-unit-in-Some-clause-stands
returns-in_ok-unit-in-Some-clause-stands c = λ s k scopes h f a.
    let is = c.in-Some.ensures.lookup in
    let number : ℕ = get_or c.args.numbers.now c.args.number 0 in
    subst (λ (z : Known). Stands s c.unit.new.growth z)
    (next_found s k (units_from scopes 0 (map unit_view c.args.list.now)) c.args.number (numbered scopes number (unit_view c.in-Some.given.now))
    (unit_placed scopes 0 c.args.numbers.now (map unit_view c.args.list.now) c.args.number number (unit_view c.in-Some.given.now) a
    (number_there c.args.numbers.now c.args.list.now c.args.number c.requires.numbers is.3.0)
    (tree_there c.args.list.now c.args.number c.in-Some.given.now is.3.0 is.1)))
    (c.in_ok-unit-in-Some.ensures.stands s k scopes h f)

pub returns-in-None-clause-noted : goal.returns-in-None-clause-noted
returns-in-None-clause-noted c = λ s k scopes h f a.
    sym (noted_none c.args.first.now)
    ∙ ap (λ (us : List Numbered). noted c.args.first.now (along (unit_rows s) (unit_next s) k us)) (none_found scopes c.args.list.now c.args.number c.in-None.ensures.lookup.3)

pub returns-in-None-clause-stands : goal.returns-in-None-clause-stands
returns-in-None-clause-stands c = λ s k scopes h f a.
    subst (λ (us : List Numbered). Stands s c.args.growth.now (after (unit_next s) k us)) (none_found scopes c.args.list.now c.args.number c.in-None.ensures.lookup.3) h
