use Rattle.std.proofs.Common.{ap, sym, ◌∙◌}
use Rattle.f3_data.specs.Values.{value_of}
use Rattle.f3_cells.specs.Cells.{cells_of}
use Rattle.f3_requests.specs.Inner.Counted.{counted}
use Rattle.f3_requests.proofs.Wanting.{held_none, held_some, held_small}
use Rattle.f3_requests.proofs.asking.held_wants.Goals as goal

pub returns-in_default : goal.returns-in_default
returns-in_default c = λ p. ap counted (sym (held_none (cells_of p c.args.stack.now.items) (c.in_default.ensures p)))

pub returns-then-needs_storage : goal.returns-then-needs_storage
returns-then-needs_storage c = λ p. held_some (cells_of p c.args.stack.now.items) (value_of c.in-Some.value.now) c.words.result c.block.result (c.in-Some.ensures p)
    (sym c.needs_storage.ensures ∙ c.if-needs_storage.true) c.words.ensures c.block.ensures

pub returns-else-needs_storage : goal.returns-else-needs_storage
returns-else-needs_storage c = λ p. held_small (cells_of p c.args.stack.now.items) (value_of c.in-Some.value.now) (c.in-Some.ensures p)
    (sym c.needs_storage.ensures ∙ c.if-needs_storage.false)
