use Rattle.std.proofs.Common.{◌∙◌, ◌≡◌, ◌<◌, ◌≤◌, ◌/◌, ℕ, sym, ap, subst, refl, rules, arith, w64, FitsSigned}
use Rattle.std.specs.Int.{w128}
use Rattle.std.specs.Prelude.{ℤ, ◌-ℤ◌, unsigned_abs}
use Rattle.std.proofs.Math.Nat.{div-le_self}
use Rattle.std.proofs.lemmas.Bool.{false≢true}
use Rattle.std.proofs.lemmas.Int.{ints, to_z-of_z}
use Rattle.f3_desc.specs.Descriptor.{IsWithin}
use Rattle.f3_desc.proofs.Progressions.{selects-within, selects-ends, ends-count, ends-same}
use Rattle.f3_word_areas.proofs.Wide.{wide}
use Rattle.f3_word_areas.proofs.sections.count.Goals as goal
use Rattle.f3_word_areas.proofs.sections.count.Goals.{then-not-holds-via-then-not-holds, then-not-holds-via-else-not-holds+then-not-holds-2}

pub returns-then-not-holds-clause-ok : goal.returns-then-not-holds-clause-ok
returns-then-not-holds-clause-ok c =
    let from = wide c.args.from c.ranges.from in
    let last-fits : FitsSigned w128 c.in-Some.last = search rules in
    let last = to_z-of_z w128 c.in-Some.last last-fits in
    let ends = ends-same _ _ _ c.args.from c.args.to c.args.step c.in-Some.last from (to_z-of_z w128 c.args.to c.ranges.to) (to_z-of_z w64 c.args.step c.ranges.step) c.in-Some.ensures.some in (
      λ e. absurd (false≢true e),
      λ h.
          let there = selects-ends c.args.dim c.args.from c.args.to c.args.step c.in-Some.last ends h in
          elim c.then-not-holds.branch [
            | then-not-holds-via-then-not-holds w ↦ w.if-not-holds.ensures.1 (subst (λ (z : ℤ). IsWithin c.args.dim z) (sym from) there.0)
            | then-not-holds-via-else-not-holds+then-not-holds-2 w ↦ w.if-not-holds-2.ensures.1 (subst (λ (z : ℤ). IsWithin c.args.dim z) (sym last) there.1)
          ],
    )

pub returns-clause-ok : goal.returns-clause-ok
returns-clause-ok c =
    let from = wide c.args.from c.ranges.from in
    let last-fits : FitsSigned w128 c.in-Some.last = search rules in
    let last = to_z-of_z w128 c.in-Some.last last-fits in
    let ends = ends-same _ _ _ c.args.from c.args.to c.args.step c.in-Some.last from (to_z-of_z w128 c.args.to c.ranges.to) (to_z-of_z w64 c.args.step c.ranges.step) c.in-Some.ensures.some in
    let first = subst (λ (z : ℤ). IsWithin c.args.dim z) from (c.if-not-holds.ensures.0 refl) in
    let final = subst (λ (z : ℤ). IsWithin c.args.dim z) last (c.if-not-holds-2.ensures.0 refl) in
    (λ _. selects-within c.args.dim c.args.from c.args.to c.args.step c.in-Some.last ends first final, λ _. refl)

pub returns-clause-value : goal.returns-clause-value
returns-clause-value c =
    let from = wide c.args.from c.ranges.from in
    let step = to_z-of_z w64 c.args.step c.ranges.step in
    let last-fits : FitsSigned w128 c.in-Some.last = search rules in
    let ends = ends-same _ _ _ c.args.from c.args.to c.args.step c.in-Some.last from (to_z-of_z w128 c.args.to c.ranges.to) step c.in-Some.ensures.some in
    sym (ends-count c.args.from c.args.to c.args.step c.in-Some.last c.abs_diff.result c.unsigned_abs.result c.requires.step ends
    (c.abs_diff.ensures ∙ (λ i. unsigned_abs (from i -ℤ to_z-of_z w128 c.in-Some.last last-fits i))) (c.unsigned_abs.ensures.value ∙ ap unsigned_abs step))

few : (d k e : ℕ) → d < e → d / k ≤ d → d / k < e
few d k e h l = omega arith

pub overflow_cast-result : goal.overflow_cast-result
overflow_cast-result c =
    let from = wide c.args.from c.ranges.from in
    let last-fits : FitsSigned w128 c.in-Some.last = search rules in
    let last = to_z-of_z w128 c.in-Some.last last-fits in
    let first = subst (λ (z : ℤ). IsWithin c.args.dim z) from (c.if-not-holds.ensures.0 refl) in
    let final = subst (λ (z : ℤ). IsWithin c.args.dim z) last (c.if-not-holds-2.ensures.0 refl) in
    let far : c.abs_diff.result ≡ unsigned_abs (c.args.from -ℤ c.in-Some.last) = c.abs_diff.ensures ∙ (λ i. unsigned_abs (from i -ℤ last i)) in
    let below : c.abs_diff.result < c.args.dim.extent = (let a = first.0 in let b = first.1 in let d = final.0 in let e = final.1 in omega (arith, ints)) in
    let less = few c.abs_diff.result c.unsigned_abs.result c.args.dim.extent below (div-le_self c.abs_diff.result c.unsigned_abs.result) in
    omega arith

pub overflow_add-result : goal.overflow_add-result
overflow_add-result c =
    let from = wide c.args.from c.ranges.from in
    let last-fits : FitsSigned w128 c.in-Some.last = search rules in
    let last = to_z-of_z w128 c.in-Some.last last-fits in
    let first = subst (λ (z : ℤ). IsWithin c.args.dim z) from (c.if-not-holds.ensures.0 refl) in
    let final = subst (λ (z : ℤ). IsWithin c.args.dim z) last (c.if-not-holds-2.ensures.0 refl) in
    let far : c.abs_diff.result ≡ unsigned_abs (c.args.from -ℤ c.in-Some.last) = c.abs_diff.ensures ∙ (λ i. unsigned_abs (from i -ℤ last i)) in
    let below : c.abs_diff.result < c.args.dim.extent = (let a = first.0 in let b = first.1 in let d = final.0 in let e = final.1 in omega (arith, ints)) in
    let less = few c.abs_diff.result c.unsigned_abs.result c.args.dim.extent below (div-le_self c.abs_diff.result c.unsigned_abs.result) in
    omega arith
