use Rattle.std.proofs.Common.{◌≡◌, ◌^◌, max, ap, ◌∙◌, arith}
use Rattle.f3_sizes.proofs.Reaching.{ord_max_nat}
use Rattle.f3_word_needs.specs.Names.{deepest_among}
use Rattle.f3_word_needs.proofs.Rows.{drop_all, too_deep, deeper}
use Rattle.f3_word_needs.proofs.needs.opened.Goals as goal

pub returns-in-None : goal.returns-in-None
returns-in-None c =
    let h = too_deep c.args.lines.now c.loop-line.line-index c.loop-line.now c.loop-line.most (2 ^ 64) _ c.loop-line-test.true c.loop-line.invariant.same c.in-None.ensures in
    omega (arith, h)

pub loop-line-preserved : goal.loop-line-preserved
loop-line-preserved c =
    let is : c.max-most.result ≡ max c.loop-line.most c.in-Some.next = c.max-most.ensures ∙ ord_max_nat c.loop-line.most c.in-Some.next in record {
      fits = omega (arith, c.max-most.type_inv);
      least = omega (arith, is);
      same = deeper c.args.lines.now c.loop-line.line-index c.loop-line.now c.loop-line.most c.in-Some.next c.max-most.result _ c.loop-line-test.true
          c.loop-line.invariant.least c.loop-line.invariant.same c.in-Some.ensures is;
    }

pub returns : goal.returns
returns c =
    let e = drop_all c.args.lines.now c.loop-line.line-index c.loop-line-test.false in
    let d = ap (λ ls. deepest_among c.loop-line.now ls) e in
    omega (arith, d, c.loop-line.invariant.same, c.loop-line.invariant.least, c.loop-line.invariant.fits)
