use Rattle.std.proofs.Common.{◌≡◌, ◌⊎◌, ◌+◌, subst, ap, ◌∙◌, arith, slice_range}
use Rattle.f3_raw.specs.Region.{region_words}
use Rattle.f3_raw.specs.Words.{written}
use Rattle.f3_raw.proofs.Runs.{copied, cut_by_min}
use Rattle.f3_raw.proofs.region.Region.copy.Goals as goal

pub returns-clause-words : goal.returns-clause-words
returns-clause-words c =
    let old = c.args.self.now in
    let cut = cut_by_min c.args.n c.args.to old.frontier c.min-below.result c.min-below.ensures (omega (arith, old.ok.0, c.requires.reached)) in
    let end = subst (λ f. (c.min-below.result ≡ c.args.n) ⊎ (c.args.to + c.min-below.result ≡ f)) old.ok.0 cut.1 in
    c.copy_below.ensures.words ∙ ap (λ l. written l c.args.to (slice_range l c.args.from (c.args.from + c.min-below.result))) c.append_run.ensures.words
    ∙ copied (region_words old) c.args.from c.args.to c.args.n c.min-below.result c.requires.source c.requires.reached cut.0 end
