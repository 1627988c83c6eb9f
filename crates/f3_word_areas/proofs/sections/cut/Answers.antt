use Rattle.std.proofs.Common.{◌≡◌, ◌∙◌, sym, ap, subst, ℕ, rules, w64, to_z, of_z, FitsSigned, ◌*◌, ◌%◌, ◌^◌, All, List, ◌∷◌, []}
use Rattle.std.specs.Prelude.{ℤ, pos, ◌*ℤ◌, unwrap_or}
use Rattle.std.specs.Int.{int_wrap, w128}
use Rattle.std.proofs.lemmas.Bool.{false≢true}
use Rattle.std.proofs.lemmas.Int.{to_z-of_z, wraps}
use Rattle.std.proofs.lemmas.Result.{err_from_is_err_and}
use Rattle.f3_desc.specs.declared.descriptor.Dim.{Dim}
use Rattle.f3_desc.specs.Descriptor.{IsWithin, progression}
use Rattle.f3_desc.specs.Section.{count}
use Rattle.f3_word_areas.specs.Sections.{last_of}
use Rattle.f3_word_areas.proofs.sections.cut.Goals as goal

pub returns-in_err-extent-in-Range-clause-ok : goal.returns-in_err-extent-in-Range-clause-ok
returns-in_err-extent-in-Range-clause-ok c =
    let d = c.args.dim in
    let w = err_from_is_err_and c.from_residual.result c.from_residual.ensures.1 in
    let l : FitsSigned w64 d.lower = search rules in
    let a : FitsSigned w64 c.unwrap_or-from.result = search rules in
    let b : FitsSigned w128 c.end_of.result = search rules in
    let s : FitsSigned w64 c.in-Range.step = search rules in
    let from : to_z w64 (of_z w64 c.unwrap_or-from.result) ≡ unwrap_or c.in-Range.lower d.lower =
    to_z-of_z w64 c.unwrap_or-from.result a ∙ c.unwrap_or-from.ensures ∙ ap (unwrap_or c.in-Range.lower) (to_z-of_z w64 d.lower l) in
    let to : to_z w128 (of_z w128 c.end_of.result) ≡ unwrap_or c.in-Range.upper (last_of d) = to_z-of_z w128 c.end_of.result b ∙ c.end_of.ensures.value in
    let step = to_z-of_z w64 c.in-Range.step s in
    let same : progression (unwrap_or c.in-Range.lower d.lower) c.in-Range.step (count (unwrap_or c.in-Range.lower d.lower) (unwrap_or c.in-Range.upper (last_of d)) c.in-Range.step) ≡ progression (to_z w64 (of_z w64 c.unwrap_or-from.result)) (to_z w64 (of_z w64 c.in-Range.step)) (count (to_z w64 (of_z w64 c.unwrap_or-from.result)) (to_z w128 (of_z w128 c.end_of.result)) (to_z w64 (of_z w64 c.in-Range.step))) =
    sym (λ i. progression (from i) (step i) (count (from i) (to i) (step i))) in
    rw (w.1, c.in-Range.is) (λ e. absurd (false≢true e), λ h. c.in_err-extent-in-Range.ensures.ok.1 (subst (λ (xs : List ℤ). All (IsWithin d) xs) same h))

pub returns-in_ok-extent-in-Range-clause-value : goal.returns-in_ok-extent-in-Range-clause-value
returns-in_ok-extent-in-Range-clause-value c =
    let d = c.args.dim in
    let l : FitsSigned w64 d.lower = search rules in
    let a : FitsSigned w64 c.unwrap_or-from.result = search rules in
    let b : FitsSigned w128 c.end_of.result = search rules in
    let s : FitsSigned w64 c.in-Range.step = search rules in
    let from : to_z w64 (of_z w64 c.unwrap_or-from.result) ≡ unwrap_or c.in-Range.lower d.lower =
    to_z-of_z w64 c.unwrap_or-from.result a ∙ c.unwrap_or-from.ensures ∙ ap (unwrap_or c.in-Range.lower) (to_z-of_z w64 d.lower l) in
    let to : to_z w128 (of_z w128 c.end_of.result) ≡ unwrap_or c.in-Range.upper (last_of d) = to_z-of_z w128 c.end_of.result b ∙ c.end_of.ensures.value in
    let wrapped : to_z w64 ((of_z w64 d.stride * of_z w64 c.in-Range.step) % 2 ^ 64) ≡ int_wrap w64 (d.stride *ℤ c.in-Range.step) = search (rules, wraps) in
    let extent : c.in_ok-extent-in-Range.extent ≡ count (unwrap_or c.in-Range.lower d.lower) (unwrap_or c.in-Range.upper (last_of d)) c.in-Range.step =
    c.in_ok-extent-in-Range.ensures.value ∙ (λ i. count (from i) (to i) (to_z-of_z w64 c.in-Range.step s i)) in
    let made : (n : ℕ) → (z : ℤ) → List Dim = λ n z. (record { lower = pos 1; extent = n; stride = z }) ∷ [] in
    rw c.in-Range.is (λ i. made (extent i) (wrapped i))
