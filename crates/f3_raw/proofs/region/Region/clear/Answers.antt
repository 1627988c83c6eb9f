use Rattle.std.proofs.Common.{◌≡◌, inr, ◌+◌, ◌-◌, ◌++◌, replicate, pos, ap, ◌∙◌, arith, length}
use Rattle.f3_raw.specs.Region.{region_words}
use Rattle.f3_raw.proofs.Runs.{written-zeros}
use Rattle.f3_raw.proofs.region.Region.clear.Goals as goal

pub returns-clause-words : goal.returns-clause-words
returns-clause-words c =
    let old = c.args.self.now in
    let end : c.args.from + (old.frontier - c.args.from) ≡ length (region_words old) = omega (arith, old.ok.0, c.requires.reached) in
    c.append_zeros.ensures.words ∙ ap (λ l. l ++ replicate (c.args.n - (old.frontier - c.args.from)) (pos 0)) c.fill_below-2.ensures.words
    ∙ written-zeros (region_words old) c.args.from c.args.n (old.frontier - c.args.from) c.requires.reached (omega (arith, c.if-n-below.false)) (inr end)
