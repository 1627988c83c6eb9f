use Rattle.std.proofs.Common.{◌≡◌, ◌∙◌, ap, ◌%◌, ◌<◌, arith, w64}
use Rattle.std.specs.Int.{w128}
use Rattle.std.specs.Prelude.{pos, ◌-ℤ◌, ◌<ℤ◌, ◌≤ℤ◌, unsigned_abs}
use Rattle.std.proofs.lemmas.Int.{ints, to_z-of_z}
use Rattle.std.proofs.Math.Nat.{mod-lt}
use Rattle.std.proofs.lemmas.Nat.{div-add-mod'}
use Rattle.f3_desc.proofs.Counts.{none-up, none-down, ends-up, ends-down}
use Rattle.f3_word_areas.proofs.sections.last.Goals as goal
use Rattle.f3_word_areas.proofs.sections.last.Goals.{else-step-lt0-via-then-step-lt0+else-to-from, else-step-lt0-via-else-step-lt0, else-step-gt0-via-then-step-gt0+else-from-to, else-step-gt0-via-else-step-gt0}

pub returns-then-from-to-clause-some : goal.returns-then-from-to-clause-some
returns-then-from-to-clause-some c =
    let d = c.abs_diff.result in
    let k = c.unsigned_abs.result in
    let far : d ≡ unsigned_abs (c.args.from -ℤ c.args.to) = c.abs_diff.ensures ∙ (λ i. unsigned_abs (to_z-of_z w128 c.args.from c.ranges.from i -ℤ to_z-of_z w128 c.args.to c.ranges.to i)) in
    let size : k ≡ unsigned_abs c.args.step = c.unsigned_abs.ensures.value ∙ ap unsigned_abs (to_z-of_z w64 c.args.step c.ranges.step) in
    let up : pos 0 <ℤ c.args.step = omega (arith, ints) in
    let order : c.args.from ≤ℤ c.args.to = omega (arith, ints) in
    let some : 0 < k = omega (arith, ints) in
    let small : d % k < k = mod-lt d some in
    let split = div-add-mod' d k in
    ends-up c.args.from c.args.to c.args.step _ d k far size up order (omega (arith, ints))

pub returns-then-to-from-clause-some : goal.returns-then-to-from-clause-some
returns-then-to-from-clause-some c =
    let d = c.abs_diff.result in
    let k = c.unsigned_abs.result in
    let far : d ≡ unsigned_abs (c.args.from -ℤ c.args.to) = c.abs_diff.ensures ∙ (λ i. unsigned_abs (to_z-of_z w128 c.args.from c.ranges.from i -ℤ to_z-of_z w128 c.args.to c.ranges.to i)) in
    let size : k ≡ unsigned_abs c.args.step = c.unsigned_abs.ensures.value ∙ ap unsigned_abs (to_z-of_z w64 c.args.step c.ranges.step) in
    let low : c.args.step <ℤ pos 0 = omega (arith, ints) in
    let order : c.args.to ≤ℤ c.args.from = omega (arith, ints) in
    let some : 0 < k = omega (arith, ints) in
    let small : d % k < k = mod-lt d some in
    let split = div-add-mod' d k in
    ends-down c.args.from c.args.to c.args.step _ d k far size low order (omega (arith, ints))

pub returns-else-step-lt0-clause-none : goal.returns-else-step-lt0-clause-none
returns-else-step-lt0-clause-none c =
    elim c.else-step-lt0.branch [
      | else-step-lt0-via-then-step-lt0+else-to-from w ↦ none-down c.args.from c.args.to c.args.step (omega (arith, ints)) (omega (arith, ints))
      | else-step-lt0-via-else-step-lt0 w ↦
          elim c.else-step-gt0.branch [
            | else-step-gt0-via-then-step-gt0+else-from-to v ↦ none-up c.args.from c.args.to c.args.step (omega (arith, ints)) (omega (arith, ints))
            | else-step-gt0-via-else-step-gt0 v ↦ absurd (c.requires.step (omega (arith, ints)))
          ]
    ]
