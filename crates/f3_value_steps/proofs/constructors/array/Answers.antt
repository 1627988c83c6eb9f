use Rattle.std.proofs.Common.{◌∷◌, Ok, map, refl}
use Rattle.f3_meaning_whole.specs.Ran.{gives}
use Rattle.f3_code.specs.State.{Datum}
use Rattle.f3_code.specs.Machine.{argument_of, on}
use Rattle.f3_data.specs.Values.{value_of, values_of}
use Rattle.f3_cells.specs.Cells.{passed_of, cells_of}
use Rattle.f3_cells.specs.States.{state_of, world_of}
use Rattle.f3_value_steps.proofs.Many.{not_popped, array_made}
use Rattle.f3_value_steps.proofs.Ends.{finished_built}
use Rattle.f3_value_steps.proofs.constructors.array.Goals as goal

pub returns-in-Err : goal.returns-in-Err
returns-in-Err c = λ p limit g code v here. not_popped passed_of argument_of c.args.count c.in-Err.stop c.args.state.now.stack.items
    c.pop_arguments.new.stack.items code p _
    (state_of p c.args.state.now) here.place (c.in-Err.ensures {u = tt})

pub returns : goal.returns
returns c = λ p limit g code v here.
    let mid = record c.args.state.now { stack = c.pop_arguments.new.stack } in
    finished_built code _ (Ok c.in_ok-value.value) (gives (value_of c.in_ok-value.value)) c.finish_built.result here p mid c.finish_built.new.state
    c.finish_built.ensures refl
    (array_made _ (value_of c.in_ok-value.value) (values_of c.in_ok-values.values.items) (map passed_of c.in-Ok.passed.items) here (world_of mid.store)
    (λ y. on (state_of p mid) (Datum y ∷ cells_of p mid.stack.items)) (c.in-Ok.ensures {u = tt} p _) (c.in_ok-value.ensures {u = tt})
    (c.in_ok-values.ensures {u = tt}))
