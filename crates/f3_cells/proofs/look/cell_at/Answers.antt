use Rattle.std.proofs.Common.{◌≡◌, length, ◌∙◌, arith}
use Rattle.f3_cells.proofs.Below.{below}
use Rattle.f3_cells.proofs.look.cell_at.Goals as goal

pub returns-then-depth-len : goal.returns-then-depth-len
returns-then-depth-len c = λ p.
    let all : c.len.result ≡ length c.args.stack.now.items = c.len.ensures ∙ c.args.stack.now.ok.0 in
    let again : c.len-then-depth-len.result ≡ length c.args.stack.now.items = c.len-then-depth-len.ensures ∙ c.args.stack.now.ok.0 in
    below p c.args.stack.now.items c.args.depth c.index.result.now (omega arith)
    (rw (← again) c.index.ensures)
