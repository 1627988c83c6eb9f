use Rattle.std.proofs.Common.{ap}
use Rattle.f3_tree.specs.Tree.{header_view}
use Rattle.f3_form.specs.declared.form.Form.{Form}
use Rattle.f3_form.specs.Forms.{form_view}
use Rattle.f3_units.specs.Roles.{role}
use Rattle.f3_units.proofs.scope.role_of.Goals as goal

pub returns-in-Procedure : goal.returns-in-Procedure
returns-in-Procedure c = (header_view c.in-Procedure.field-0, ap (λ (f : Form). role (form_view f)) c.in-Procedure.is)
