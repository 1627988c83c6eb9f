use Rattle.std.proofs.Common.{List, ◌++◌, map, ap, sym, ◌∙◌}
use Rattle.std.proofs.lemmas.List.{append-nil}
use Rattle.f3_elaboration.specs.Declarations.{derived}
use Rattle.f3_elaboration.specs.DeclaredViews.{derived_view}
use Rattle.f3_elaboration.specs.Numbers.{Definition}
use Rattle.f3_type_nodes.proofs.Fitting.{types_found, types_missing}
use Rattle.f3_type_nodes.proofs.units.add_unit_at.Goals as goal

pub returns-in_ok-add_unit-in-Some : goal.returns-in_ok-add_unit-in-Some
returns-in_ok-add_unit-in-Some c = λ w inner scopes h.
    let is = c.in-Some.ensures.lookup in
    c.in_ok-add_unit-in-Some.ensures w inner scopes h.stands h.first
    ∙ ap (λ (ds : List Definition). map derived_view c.args.found.now.items ++ map (derived w) ds)
    (types_found scopes c.args.numbers.now c.args.list.now c.args.number c.in-Some.given.now h.number c.requires.numbers is.3.0 is.1)

pub returns-in-None : goal.returns-in-None
returns-in-None c = λ w inner scopes h.
    sym (append-nil (map derived_view c.args.found.now.items))
    ∙ ap (λ (ds : List Definition). map derived_view c.args.found.now.items ++ map (derived w) ds)
    (types_missing scopes c.args.list.now c.args.number c.in-None.ensures.lookup.3)
