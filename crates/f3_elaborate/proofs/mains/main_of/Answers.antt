use Rattle.std.proofs.Common.{◌+◌, ◌<◌, ◌≤◌, map, length, get_or, refl, ap, sym, ◌∙◌, rules, arith}
use Rattle.std.proofs.lemmas.List.{length-map}
use Rattle.f3_tree.specs.Tree.{unit_view}
use Rattle.f3_kinds.specs.Things.{map_or}
use Rattle.f3_type_rules.specs.Associates.{constructs_of_block}
use Rattle.f3_type_rules.specs.Members.{Numbered, numbered}
use Rattle.f3_elaboration.specs.Program.{nothing_done}
use Rattle.f3_elaboration.specs.Units.{main}
use Rattle.f3_program_numbers.proofs.Ordered.{begins, declared_small, fit_at, in_firsts, placed_at, start_within}
use Rattle.f3_elaborate.proofs.Chosen.{main_found, main_missing, main_within}
use Rattle.f3_elaborate.proofs.mains.main_of.Goals as goal

pub bounds-list-number : goal.bounds-list-number
bounds-list-number c =
    let lt = main_within (map unit_view c.args.list.now) c.in-Some.number (sym c.in-Some.ensures) in
    let long = length-map c.args.list.now unit_view in
    omega (arith, lt, long)

pub bounds-numbers-number : goal.bounds-numbers-number
bounds-numbers-number c =
    let lt = main_within (map unit_view c.args.list.now) c.in-Some.number (sym c.in-Some.ensures) in
    let long = length-map c.args.list.now unit_view in
    let same = c.requires.numbers in
    omega (arith, lt, long, same)

pub offset_bounds-numbers-number : goal.offset_bounds-numbers-number
offset_bounds-numbers-number c =
    let lt = main_within (map unit_view c.args.list.now) c.in-Some.number (sym c.in-Some.ensures) in
    let long = length-map c.args.list.now unit_view in
    let same = c.requires.numbers in
    let within : c.in-Some.number < length c.args.numbers.now = omega (arith, lt, long, same) in
    search rules

pub offset_bounds-list-number : goal.offset_bounds-list-number
offset_bounds-list-number c =
    let lt = main_within (map unit_view c.args.list.now) c.in-Some.number (sym c.in-Some.ensures) in
    let long = length-map c.args.list.now unit_view in
    let within : c.in-Some.number < length c.args.list.now = omega (arith, lt, long) in
    search rules

pub bounds-walk-scope : goal.bounds-walk-scope
bounds-walk-scope c =
    let lt = main_within (map unit_view c.args.list.now) c.in-Some.number (sym c.in-Some.ensures) in
    let long = length-map c.args.list.now unit_view in
    let fit = fit_at c.args.walk.firsts.now c.args.numbers.now c.args.list.now c.in-Some.number c.index-list-number.result (omega (arith, lt, long)) c.index-list-number.is c.requires.numbers c.requires.fit in
    in_firsts c.args.walk.firsts.now (get_or c.args.numbers.now c.in-Some.number 0) (unit_view c.index-list-number.result) fit

pub offset_bounds-walk-scope : goal.offset_bounds-walk-scope
offset_bounds-walk-scope c =
    let lt = main_within (map unit_view c.args.list.now) c.in-Some.number (sym c.in-Some.ensures) in
    let long = length-map c.args.list.now unit_view in
    let fit = fit_at c.args.walk.firsts.now c.args.numbers.now c.args.list.now c.in-Some.number c.index-list-number.result (omega (arith, lt, long)) c.index-list-number.is c.requires.numbers c.requires.fit in
    let within : get_or c.args.numbers.now c.in-Some.number 0 < length c.args.walk.firsts.now = in_firsts c.args.walk.firsts.now (get_or c.args.numbers.now c.in-Some.number 0) (unit_view c.index-list-number.result) fit in
    search rules

pub main_program-requires-clause-room : goal.main_program-requires-clause-room
main_program-requires-clause-room c =
    let lt = main_within (map unit_view c.args.list.now) c.in-Some.number (sym c.in-Some.ensures) in
    let long = length-map c.args.list.now unit_view in
    let fit = fit_at c.args.walk.firsts.now c.args.numbers.now c.args.list.now c.in-Some.number c.index-list-number.result (omega (arith, lt, long)) c.index-list-number.is c.requires.numbers c.requires.fit in
    declared_small c.args.walk.firsts.now (get_or c.args.numbers.now c.in-Some.number 0) (unit_view c.index-list-number.result) fit

pub main_program-requires-clause-scopes : goal.main_program-requires-clause-scopes
main_program-requires-clause-scopes c =
    let lt = main_within (map unit_view c.args.list.now) c.in-Some.number (sym c.in-Some.ensures) in
    let long = length-map c.args.list.now unit_view in
    let fit = fit_at c.args.walk.firsts.now c.args.numbers.now c.args.list.now c.in-Some.number c.index-list-number.result (omega (arith, lt, long)) c.index-list-number.is c.requires.numbers c.requires.fit in
    let k : get_or c.args.numbers.now c.in-Some.number 0 + 1 + length (constructs_of_block (unit_view c.index-list-number.result).body) ≤ length c.args.walk.firsts.now =
    start_within c.args.walk.firsts.now (get_or c.args.numbers.now c.in-Some.number 0) (unit_view c.index-list-number.result) fit in
    search rules

pub returns-in_ok-procedure-in-Some-clause-procedure : goal.returns-in_ok-procedure-in-Some-clause-procedure
returns-in_ok-procedure-in-Some-clause-procedure c = λ w scopes h are places.
    let us = map unit_view c.args.list.now in
    let scope = get_or c.args.numbers.now c.in-Some.number 0 in
    let lt = main_within us c.in-Some.number (sym c.in-Some.ensures) in
    let long = length-map c.args.list.now unit_view in
    let there : c.in-Some.number < length c.args.list.now = omega (arith, lt, long) in
    let u = unit_view c.index-list-number.result in
    let fit = fit_at c.args.walk.firsts.now c.args.numbers.now c.args.list.now c.in-Some.number c.index-list-number.result there c.index-list-number.is c.requires.numbers c.requires.fit in
    c.in_ok-procedure-in-Some.ensures.node w (numbered scopes scope u) h refl (sym (begins c.args.walk.firsts.now scope u fit scopes are)) refl
    ∙ sym (ap (λ o. map_or (nothing_done c.args.end) (main w) o) (main_found scopes 0 us c.in-Some.number (sym c.in-Some.ensures)
    ∙ placed_at c.args.walk.firsts.now c.args.numbers.now c.args.list.now c.in-Some.number c.index-list-number.result there c.index-list-number.is c.requires.numbers scopes places))

pub returns-in_ok-procedure-in-Some-clause-start : goal.returns-in_ok-procedure-in-Some-clause-start
returns-in_ok-procedure-in-Some-clause-start c = λ scopes places.
    let us = map unit_view c.args.list.now in
    let lt = main_within us c.in-Some.number (sym c.in-Some.ensures) in
    let long = length-map c.args.list.now unit_view in
    let there : c.in-Some.number < length c.args.list.now = omega (arith, lt, long) in
    sym (ap (λ o. map_or c.args.end (λ (u : Numbered). (u.tree).place) o) (main_found scopes 0 us c.in-Some.number (sym c.in-Some.ensures)
    ∙ placed_at c.args.walk.firsts.now c.args.numbers.now c.args.list.now c.in-Some.number c.index-list-number.result there c.index-list-number.is c.requires.numbers scopes places))

pub returns-in-None-clause-procedure : goal.returns-in-None-clause-procedure
returns-in-None-clause-procedure c = λ w scopes h are places.
    c.no_main.ensures.procedure ∙ sym (ap (λ o. map_or (nothing_done c.args.end) (main w) o) (main_missing scopes 0 (map unit_view c.args.list.now) (sym c.in-None.ensures)))

pub returns-in-None-clause-start : goal.returns-in-None-clause-start
returns-in-None-clause-start c = λ scopes places.
    c.no_main.ensures.start ∙ sym (ap (λ o. map_or c.args.end (λ (u : Numbered). (u.tree).place) o) (main_missing scopes 0 (map unit_view c.args.list.now) (sym c.in-None.ensures)))
