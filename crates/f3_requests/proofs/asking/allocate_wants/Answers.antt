use Rattle.std.proofs.Common.{ap, sym, ◌∙◌}
use Rattle.f3_data.specs.References.{reference_of}
use Rattle.f3_cells.specs.Cells.{cells_of}
use Rattle.f3_requests.specs.Inner.Counted.{counted}
use Rattle.f3_gen_values.specs.Emitted.{taken}
use Rattle.std.proofs.Common.{drop, take, suc, arith}
use Rattle.f3_code.specs.Wants.{dimensions}
use Rattle.f3_data.specs.Stores.{store_of}
use Rattle.f3_cells.specs.States.{setting}
use Rattle.f3_requests.specs.Inner.Counted.{extents, too_large}
use Rattle.f3_requests.proofs.Tops.{extents_are}
use Rattle.f3_requests.proofs.Wanting.{small, allocated_none, allocated_before, allocated_large, allocated_some}
use Rattle.f3_requests.proofs.asking.allocate_wants.Goals as goal

pub returns-in_default : goal.returns-in_default
returns-in_default c =
    let p = c.args.program.now in
    let cs = cells_of p c.args.state.now.stack.items in
    ap counted (sym (allocated_none (store_of c.args.state.now.store) c.args.rank (taken (setting p) c.args.initial) (dimensions (take c.args.rows cs))
    (drop c.args.rows cs) (c.in_default.ensures p)))

pub returns-then-is_allocated_at : goal.returns-then-is_allocated_at
returns-then-is_allocated_at c =
    let p = c.args.program.now in
    let cs = cells_of p c.args.state.now.stack.items in
    ap counted (sym (allocated_before (store_of c.args.state.now.store) c.args.rank (taken (setting p) c.args.initial) (dimensions (take c.args.rows cs))
    (drop c.args.rows cs) (drop (suc c.args.rows) cs) (reference_of c.in-Some.object.now) (c.in-Some.ensures p) (sym c.is_allocated_at.ensures ∙ c.if-is_allocated_at.true)))

pub returns-in_default-new_count : goal.returns-in_default-new_count
returns-in_default-new_count c =
    let p = c.args.program.now in
    let cs = cells_of p c.args.state.now.stack.items in
    let same = ap dimensions (ap (λ l. take c.args.rows (cells_of p l)) (sym c.deref.ensures.value) ∙ sym (c.top-cells.ensures p)) ∙ extents_are p c.top-cells.result.now in
    ap counted (sym (allocated_large (store_of c.args.state.now.store) c.args.rank (taken (setting p) c.args.initial) (dimensions (take c.args.rows cs))
    (drop c.args.rows cs) (drop (suc c.args.rows) cs) (reference_of c.in-Some.object.now) (c.in-Some.ensures p) (sym c.is_allocated_at.ensures ∙ c.if-is_allocated_at.false)
    (ap too_large same ∙ c.in_default-new_count.ensures)))

pub returns : goal.returns
returns c =
    let p = c.args.program.now in
    let cs = cells_of p c.args.state.now.stack.items in
    let same = ap dimensions (ap (λ l. take c.args.rows (cells_of p l)) (sym c.deref.ensures.value) ∙ sym (c.top-cells.ensures p)) ∙ extents_are p c.top-cells.result.now in
    allocated_some (store_of c.args.state.now.store) c.args.rank (taken (setting p) c.args.initial) (dimensions (take c.args.rows cs)) (extents c.top-cells.result.now)
    (drop c.args.rows cs) (drop (suc c.args.rows) cs) (reference_of c.in-Some.object.now) c.vacant_words.result c.block.result same (c.in-Some.ensures p)
    (sym c.is_allocated_at.ensures ∙ c.if-is_allocated_at.false) c.in-Some-new_count.ensures.0
    (c.vacant_words.ensures (extents c.top-cells.result.now) (taken (setting p) c.args.initial) (small c.in-Some-new_count.n (extents c.top-cells.result.now) (omega arith) c.in-Some-new_count.ensures.1)
    c.line_words-element.ensures) c.block.ensures
