use Rattle.std.proofs.Common.{◌++◌, ap, sym, ◌∙◌}
use Rattle.std.proofs.lemmas.List.{append-nil}
use Rattle.f3_program_numbers.specs.Walks.{types_by}
use Rattle.f3_program_numbers.proofs.Ordered.{on_ok, fit_at, unit_found, unit_missing}
use Rattle.f3_program_numbers.proofs.units.add_types_at.Goals as goal

pub add_unit_types-requires : goal.add_unit_types-requires
add_unit_types-requires c =
    let is = c.in-Some.ensures.lookup in
    fit_at c.args.firsts.now c.args.numbers.now c.args.list.now c.args.number c.in-Some.unit.now is.3.0 is.1 c.requires.numbers c.requires.fit

pub returns-in-Some : goal.returns-in-Some
returns-in-Some c =
    let is = c.in-Some.ensures.lookup in
    on_ok c.add_unit_types.result
    (λ h scopes are places. h scopes are ∙ ap (λ l. c.args.found.now.items ++ l)
    (unit_found c.args.firsts.now c.args.numbers.now c.args.list.now c.args.number c.in-Some.unit.now is.3.0 is.1 c.requires.numbers scopes types_by places))
    c.add_unit_types.ensures

pub returns-in-None : goal.returns-in-None
returns-in-None c = λ scopes are places.
    sym (append-nil c.args.found.now.items) ∙ ap (λ l. c.args.found.now.items ++ l) (unit_missing scopes types_by c.args.list.now c.args.number c.in-None.ensures.lookup.3)
