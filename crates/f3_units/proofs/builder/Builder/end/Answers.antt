use Rattle.std.proofs.Common.{sym}
use Rattle.f3_units.specs.Machine.{builder_view}
use Rattle.f3_units.proofs.Moving.{ends_procedure}
use Rattle.f3_units.proofs.builder.Builder.end.Goals as goal

pub returns-in-Some-contains : goal.returns-in-Some-contains
returns-in-Some-contains c u p is here =
    let at = c.in-Some-contains.field-0 in
    let o = c.in-Some-procedure.field-0 in
    ends_procedure c.args.self.now c.in-Some.unit u (builder_view c.end_procedure.new.self) at o p c.args.place c.args.what c.args.label c.end_procedure.result (sym c.in-Some.ensures.value) is c.in-Some-contains.is c.in-Some-procedure.is here (c.end_procedure.ensures at o c.in-Some-contains.is c.in-Some-procedure.is)
