use Rattle.std.proofs.lemmas.Result.{err_from_is_err_and}
use Rattle.f3_tree.specs.Tree.{view}
use Rattle.f3_name_table.proofs.Joined.{units_refused, names_refused, shown}
use Rattle.f3_name_table.proofs.table.table_of.Goals as goal

pub returns-in_err-order : goal.returns-in_err-order
returns-in_err-order c sources h =
    let w = err_from_is_err_and c.from_residual.result c.from_residual.ensures.1 in
    rw (w.1, w.2) (units_refused sources (view c.args.program.now) h.0 h.1 c.in_err-order.field-0.0 c.in_err-order.ensures)

pub returns-in_err-names : goal.returns-in_err-names
returns-in_err-names c sources h =
    let w = err_from_is_err_and c.from_residual-in_err-names.result c.from_residual-in_err-names.ensures.1 in
    rw (w.1, w.2) (names_refused sources (view c.args.program.now) h.0 h.1 c.in_ok-order.ensures.1 c.in_err-names.field-0.0 c.in_err-names.ensures)

pub returns-in-Ok : goal.returns-in-Ok
returns-in-Ok c sources h =
    shown sources (view c.args.program.now) h.0 h.1 c.in_ok-order.ensures.1 c.in_ok-names.ensures.1
    c.in_ok-names.names c.in-Ok.text c.in_ok-names.ensures.0 h.2 c.in-Ok.ensures
