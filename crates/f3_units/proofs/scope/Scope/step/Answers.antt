use Rattle.f3_form.specs.Forms.{form_view}
use Rattle.f3_units.specs.Roles.{role}
use Rattle.f3_units.specs.Machine.{scope_view}
use Rattle.f3_units.proofs.Moving.{in_scope_none}
use Rattle.f3_units.proofs.scope.Scope.step.Goals as goal

pub returns-in_default : goal.returns-in_default
returns-in_default c =
    rw c.out_of_place.ensures
    (in_scope_none c.role_of.result (role (form_view c.args.form)) c.args.procedure (record { place = c.args.place; form = form_view c.args.form }) (scope_view c.args.self.now) c.role_of.ensures c.in_default.not-Specifies c.in_default.not-Contains c.in_default.not-Executes)
