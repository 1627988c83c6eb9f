use Rattle.std.proofs.Common.{◌≡◌, ◌+◌, ◌-◌, ap, ◌∙◌, arith, length, take, slice_range, w64}
use mir.Val.{to_z, of_z}
use Rattle.std.proofs.lemmas.Int.{to_z-of_z}
use Rattle.std.proofs.Math.ListN.{set}
use Rattle.f3_raw.specs.Region.{region_words}
use Rattle.f3_raw.specs.Words.{overwritten}
use Rattle.f3_raw.proofs.Places.{put_in}
use Rattle.f3_raw.proofs.region.Region.put_from.Goals as goal

pub returns-clause-words : goal.returns-clause-words
returns-clause-words c =
    let old = c.args.self.now in
    let n = old.frontier - c.args.base in
    let end : c.args.base + n ≡ length (region_words old) = omega (arith, old.ok.0, c.requires) in
    let ws = region_words old in
    ap (λ run. overwritten ws c.args.base (take n (set run c.args.i (to_z w64 (of_z w64 c.args.word))))) c.pair-run.ensures.second
    ∙ ap (λ w. overwritten ws c.args.base (take n (set (slice_range ws c.args.base (c.args.base + n)) c.args.i w))) (to_z-of_z w64 c.args.word c.ranges.word)
    ∙ put_in ws c.args.base n end c.args.i c.args.word (omega (arith, old.ok.0, c.requires))
