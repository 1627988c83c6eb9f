use Rattle.std.proofs.Common.{◌≡◌, ◌-◌, length, take, ap, ◌∙◌}
use Rattle.f3_cells.specs.Cells.{cells_of}
use Rattle.f3_cells.proofs.Below.{dropped}
use Rattle.f3_cells.proofs.stacks.drop_cells.Goals as goal

pub returns : goal.returns
returns c = λ p.
    let size : c.saturating_sub.result ≡ length c.args.stack.now.items - c.args.count = cc (c.args.stack.now.ok.0) in
    ap (cells_of p) c.truncate.ensures.items
    ∙ ap (λ n. cells_of p (take n c.args.stack.now.items)) size
    ∙ dropped p c.args.stack.now.items c.args.count
