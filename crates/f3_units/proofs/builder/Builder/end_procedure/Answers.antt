use Rattle.std.proofs.Common.{map, Option, subst, sym}
use Rattle.std.specs.Option.{option_map}
use Rattle.f3_tree.specs.Tree.{unit_view}
use Rattle.f3_units.specs.declared.builder.OpenUnit.{OpenUnit}
use Rattle.f3_units.specs.Machine.{with_closed, procedure_closed, busy, still, Steps, opened_view, begun_view}
use Rattle.f3_units.proofs.Moving.{unit_moves}
use Rattle.f3_units.proofs.builder.Builder.end_procedure.Goals as goal

pub returns : goal.returns
returns c at o there opens =
    let done = map unit_view c.args.self.now.units.items in
    let u = begun_view c.args.unit in
    let next = option_map (with_closed u) (procedure_closed c.args.place c.args.what c.args.label (opened_view o)) in
    let result = c.end_procedure-ended.result in
    let After : Option OpenUnit → Type 0 = λ x. Steps result (busy done u) (record { done = done; unit = option_map begun_view x }) (still done next) in
    subst After (sym c.replace.ensures.after) (unit_moves done u (begun_view c.end_procedure-ended.new.self) next result (c.end_procedure-ended.ensures at o there opens))
