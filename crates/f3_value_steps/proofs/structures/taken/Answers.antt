use Rattle.std.proofs.Common.{Some, map, ap, ◌∙◌}
use Rattle.f3_data.specs.Values.{value_of}
use Rattle.f3_data.specs.References.{reference_of}
use Rattle.f3_data.specs.Stores.{store_of}
use Rattle.f3_cells.specs.Cells.{passed_of}
use Rattle.f3_value_steps.proofs.Components.{takes_lent}
use Rattle.f3_value_steps.proofs.structures.taken.Goals as goal

pub returns-in_ok-stored-in-Some-Lent : goal.returns-in_ok-stored-in-Some-Lent
returns-in_ok-stored-in-Some-Lent c =
    takes_lent c.args.types.now c.args.declared.now (map passed_of c.args.passed.now) c.args.number (store_of c.args.store.now) c.fitted_contents.result
    c.in-Some-Lent.field-0-0
    (reference_of c.in-Some-Lent.object) (value_of c.in_ok-stored-in-Some-Lent.field-0)
    (c.in-Some-Lent.ensures {u = tt} ∙ ap (λ x. Some (passed_of x)) c.in-Some-Lent.field-0-is) (c.in_ok-stored-in-Some-Lent.ensures {u = tt})
    c.fitted_contents.ensures
