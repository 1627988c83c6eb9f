use Rattle.std.proofs.Common.{◌∙◌, refl, arith}
use Rattle.f3_word_calls.proofs.Giving.{clearing_first, clearing_free, clearing_more}
use Rattle.f3_word_calls.proofs.ends.clear.Goals as goal

pub loop-cell-init : goal.loop-cell-init
loop-cell-init g c = record { clearing = clearing_first (g.B.Blocks.blocks c.args.heap.now) c.args.state.now; kept = refl }

pub let_go-requires : goal.let_go-requires
let_go-requires g c =
    clearing_free (g.B.Blocks.blocks c.args.heap.now) (g.B.Blocks.blocks c.loop-cell.heap) c.args.state.now c.loop-cell.state c.pop.new.self c.in-Some.cell
    c.loop-cell.invariant.clearing c.in-Some.ensures c.requires

pub loop-cell-smaller : goal.loop-cell-smaller
loop-cell-smaller g c = let fewer = c.in-Some.ensures.fewer in omega (arith, fewer)

pub loop-cell-preserved : goal.loop-cell-preserved
loop-cell-preserved g c = record {
  clearing = clearing_more (g.B.Blocks.blocks c.args.heap.now) (g.B.Blocks.blocks c.loop-cell.heap) c.args.state.now c.loop-cell.state c.pop.new.self c.in-Some.cell
      c.loop-cell.invariant.clearing c.in-Some.ensures (g.B.Blocks.blocks c.let_go.new.heap) c.let_go.ensures.given;
  kept = c.let_go.ensures.kept ∙ c.loop-cell.invariant.kept;
}
