use Rattle.std.proofs.Common.{◌≡◌, ◌≤◌, ◌+◌, ℕ, List, Option, length, max, sym, ap, ◌∙◌, subst, arith}
use Rattle.f3_sizes.specs.Part.{IsGreatest}
use Rattle.f3_sizes.proofs.Reaching.{is_depth, greatest_more, greatest_none_more, greatest_less, ord_max_nat}
use Rattle.f3_sizes.proofs.part.depth.Goals as goal
use Rattle.f3_sizes.proofs.part.depth.Goals.{in-Some, in_default}

pub loop-one-preserved : goal.loop-one-preserved
loop-one-preserved c =
    let hs = c.deref-one-items.result.now in
    let P : ℕ → Type 0 = λ n. IsGreatest hs (c.loop-one.one-index + 1) n in
    elim c.match-one.branch [
      | in-Some w ↦
          let is : c.match-one.greatest ≡ max c.loop-one.greatest w.in-Some.cells = w.greatest-is ∙ w.max-greatest.ensures ∙ ord_max_nat c.loop-one.greatest w.in-Some.cells in
          subst P (sym is) (greatest_more hs c.loop-one.one-index c.loop-one.greatest w.in-Some.cells c.loop-one.invariant w.in-Some.is)
      | in_default w ↦
          subst P (sym w.greatest-is) (greatest_none_more hs c.loop-one.one-index c.loop-one.greatest c.loop-one.invariant w.in_default.not-Some)
    ]

pub returns : goal.returns
returns c =
    let hs = c.in_ok-heights.heights.items in
    let part = c.requires.part in
    let e = c.in_ok-heights.ensures in
    let same = (e.begun part.0 part.1).same in
    let g = c.loop-one.invariant in
    let value = c.deref-one-items.ensures.value in
    let m : length hs ≤ c.loop-one.one-index = omega (arith, c.loop-one-test.false, ap (λ (l : List (Option ℕ)). length l) value) in
    is_depth c.args.lines.now c.args.first hs c.loop-one.greatest part e.begun same e.first e.closed
    (greatest_less hs c.loop-one.one-index (length hs) c.loop-one.greatest m (subst (λ l. IsGreatest l c.loop-one.one-index c.loop-one.greatest) value g))
