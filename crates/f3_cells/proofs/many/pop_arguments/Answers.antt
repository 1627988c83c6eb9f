use Rattle.std.proofs.Common.{◌≡◌, ap, ◌∙◌, map, arith}
use Rattle.f3_code.specs.Machine.{argument_of}
use Rattle.f3_cells.specs.Cells.{cells_of}
use Rattle.f3_cells.specs.Cells.{passed_of}
use Rattle.f3_cells.proofs.SoFar.{so_far_all, so_far_more, so_far_stuck}
use Rattle.f3_cells.proofs.many.pop_arguments.Goals as goal

pub returns-in-None : goal.returns-in-None
returns-in-None c =
    so_far_stuck passed_of argument_of c.args.count c.loop-i._i c.args.stack.now.items c.loop-i.stack.items c.pop_argument.new.stack.items c.loop-i.found.items
    (omega arith) c.loop-i.invariant c.in-None.ensures

pub loop-i-preserved : goal.loop-i-preserved
loop-i-preserved c =
    rw c.in_ok-push-in-Some.ensures.items
    (so_far_more passed_of argument_of c.args.count c.loop-i._i c.args.stack.now.items c.loop-i.stack.items c.pop_argument.new.stack.items c.loop-i.found.items c.in-Some.it
    (omega arith) c.loop-i.invariant c.in-Some.ensures)

pub returns : goal.returns
returns c = λ p f.
    let last : c.loop-i._i ≡ c.args.count = omega arith in
    so_far_all passed_of argument_of c.args.count c.loop-i._i c.args.stack.now.items c.loop-i.stack.items c.loop-i.found.items last c.loop-i.invariant p f
    ∙ ap (λ xs. f (map passed_of xs) (cells_of p c.loop-i.stack.items)) (search (c.reverse.ensures.items))
