use Rattle.std.proofs.Common.{◌≡◌, rules, map, ◌∙◌}
use Rattle.f3_tree.specs.Tree.{view}
use Rattle.f3_typed_parts.specs.Known.{nature_of}
use Rattle.f3_natures.specs.Known.{names_view}
use Rattle.f3_natures.specs.Walk.{units_made}
use Rattle.f3_natures.proofs.Standing.{program_same}
use Rattle.f3_natures.proofs.Distinct.{kept_all}
use Rattle.f3_natures.proofs.natures.natures.Goals as goal

pub returns-clause-distinct : goal.returns-clause-distinct
returns-clause-distinct c = λ h.
    let names = names_view c.args.names.now in
    let t = view c.args.program.now in
    let e : map nature_of c.in_ok-things.things.items ≡ units_made names 0 0 t.units = search rules in
    e ∙ program_same names t.units ∙ kept_all names t h
