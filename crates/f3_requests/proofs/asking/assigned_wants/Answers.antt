use Rattle.std.proofs.Common.{ap, sym, ◌∙◌}
use Rattle.f3_data.specs.Values.{value_of}
use Rattle.f3_data.specs.References.{reference_of}
use Rattle.f3_cells.specs.Cells.{cells_of}
use Rattle.f3_requests.specs.Inner.Counted.{counted}
use Rattle.f3_requests.proofs.Wanting.{assigned_none, assigned_bare, assigned_some, assigned_small}
use Rattle.f3_requests.proofs.asking.assigned_wants.Goals as goal

pub returns-in_default : goal.returns-in_default
returns-in_default c = λ p. ap counted (sym (assigned_none (cells_of p c.args.stack.now.items) (c.in_default.ensures p)))

pub returns-in_default-datum_at : goal.returns-in_default-datum_at
returns-in_default-datum_at c = λ p. ap counted (sym (assigned_bare (cells_of p c.args.stack.now.items) (reference_of c.in-Some.object.now) (c.in-Some.ensures p)
    (c.in_default-datum_at.ensures p)))

pub returns-then-needs_storage : goal.returns-then-needs_storage
returns-then-needs_storage c = λ p. assigned_some (cells_of p c.args.stack.now.items) (reference_of c.in-Some.object.now) (value_of c.in-Some-datum_at.value.now)
    c.count.result c.copies.result (c.in-Some.ensures p) (c.in-Some-datum_at.ensures p) (sym c.needs_storage.ensures ∙ c.if-needs_storage.true)
    c.count.ensures c.copies.ensures

pub returns-else-needs_storage : goal.returns-else-needs_storage
returns-else-needs_storage c = λ p. assigned_small (cells_of p c.args.stack.now.items) (reference_of c.in-Some.object.now) (value_of c.in-Some-datum_at.value.now)
    (c.in-Some.ensures p) (c.in-Some-datum_at.ensures p) (sym c.needs_storage.ensures ∙ c.if-needs_storage.false)
