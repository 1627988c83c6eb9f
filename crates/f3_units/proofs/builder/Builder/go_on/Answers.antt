use Rattle.std.proofs.Common.{Option}
use Rattle.f3_form.specs.Forms.{form_view}
use Rattle.f3_units.specs.declared.builder.OpenUnit.{OpenUnit}
use Rattle.f3_units.specs.Roles.{role}
use Rattle.f3_units.specs.Machine.{Begun, in_unit, begun_view}
use Rattle.f3_units.proofs.Moving.{moves_inside}
use Rattle.f3_units.proofs.builder.Builder.go_on.Goals as goal

pub returns-in-Some : goal.returns-in-Some
returns-in-Some c u is on =
    let f = λ (x : OpenUnit). in_unit (begun_view x).contains (begun_view x).procedure (role (form_view c.args.form)) (record { place = c.args.place; form = form_view c.args.form }) (begun_view x) in
    moves_inside c.args.self.now c.in-Some.unit u (begun_view c.step.new.self) f c.step.result c.in-Some.is is (c.step.ensures on)
