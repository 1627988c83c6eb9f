use Rattle.std.proofs.Common.{◌∷◌, refl, ◌∙◌}
use Rattle.f3_code.specs.State.{Datum}
use Rattle.f3_code.specs.Machine.{argument_of, on}
use Rattle.f3_shaping.specs.Results.{value_ran}
use Rattle.f3_cells.specs.Cells.{passed_of, cells_of}
use Rattle.f3_cells.specs.States.{state_of}
use Rattle.f3_value_steps.proofs.Many.{not_popped}
use Rattle.f3_value_steps.proofs.Ends.{finished}
use Rattle.f3_value_steps.proofs.structures.structure.Goals as goal

pub returns-in-Err : goal.returns-in-Err
returns-in-Err c = λ limit code v here. not_popped passed_of argument_of c.args.count c.in-Err.stop c.args.state.now.stack.items
    c.pop_arguments.new.stack.items code
    c.args.scene.now.program.now _ (state_of c.args.scene.now.program.now c.args.state.now) here.place (c.in-Err.ensures {u = tt})

pub returns : goal.returns
returns c = λ limit code v here.
    let p = c.args.scene.now.program.now in
    let mid = record c.args.state.now { stack = c.pop_arguments.new.stack } in
    let built = rw (c.deref.ensures.value, c.deref-2.ensures.value) at (c.in_ok-given.ensures {u = tt}) in
    finished code _ c.in_ok-given.given (value_ran c.in_ok-given.given here.place) c.finish.result here.place p mid c.finish.new.state c.finish.ensures refl
    (c.in-Ok.ensures {u = tt} p _ ∙ built here (λ x. on (state_of p mid) (Datum x ∷ cells_of p mid.stack.items)))
