use Rattle.std.proofs.Common.{Option, true, ap}
use Rattle.std.specs.Option.{option_map}
use Rattle.f3_form.specs.Forms.{form_view}
use Rattle.f3_blocks.specs.Pieces.{Placed}
use Rattle.f3_units.specs.declared.builder.OpenProcedure.{OpenProcedure}
use Rattle.f3_units.specs.Roles.{role}
use Rattle.f3_units.specs.Machine.{in_unit, in_scope, with_procedure, opened_view, begun_view, begun_depth}
use Rattle.f3_units.proofs.Moving.{becomes_same, in_unit_procedure}
use Rattle.f3_units.proofs.builder.OpenUnit.step.Goals as goal

pub returns-in-Some-contains-2 : goal.returns-in-Some-contains-2
returns-in-Some-contains-2 c on =
    let u = begun_view c.args.self.now in
    let at = c.in-Some-contains-2.field-0 in
    let o = c.in-Some.field-0 in
    let r = role (form_view c.args.form) in
    let x : Placed = record { place = c.args.place; form = form_view c.args.form } in
    becomes_same begun_depth c.in_procedure.result u (begun_view c.in_procedure.new.self) (option_map (with_procedure u (opened_view o).header) (in_scope true r x (opened_view o).scope)) (in_unit u.contains u.procedure r x u)
    (c.in_procedure.ensures at o c.in-Some-contains-2.is c.in-Some.is)
    (in_unit_procedure r x u at (opened_view o) c.in-Some-contains-2.is (ap (λ (y : Option OpenProcedure). option_map opened_view y) c.in-Some.is) on)
