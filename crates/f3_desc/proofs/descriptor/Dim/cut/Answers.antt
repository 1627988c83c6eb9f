use Rattle.std.proofs.Common.{◌≡◌, ◌∙◌, sym, subst, ℕ, rules, w64, to_z, of_z, FitsSigned, ◌*◌, ◌%◌, ◌^◌, All, List, ◌∷◌, []}
use Rattle.std.specs.Prelude.{ℤ, pos, ◌*ℤ◌}
use Rattle.std.specs.Int.{int_wrap}
use Rattle.std.proofs.lemmas.Bool.{false≢true}
use Rattle.std.proofs.lemmas.Int.{to_z-of_z, wraps}
use Rattle.std.proofs.lemmas.Result.{err_from_is_err_and}
use Rattle.f3_desc.specs.declared.descriptor.Dim.{Dim}
use Rattle.f3_desc.specs.Descriptor.{IsWithin, progression}
use Rattle.f3_desc.specs.Section.{count}
use Rattle.f3_desc.proofs.descriptor.Dim.cut.Goals as goal

pub returns-in_err-extent-in-Range-clause-ok : goal.returns-in_err-extent-in-Range-clause-ok
returns-in_err-extent-in-Range-clause-ok c =
    let w = err_from_is_err_and c.from_residual.result c.from_residual.ensures.1 in
    let a : FitsSigned w64 c.in-Range.from = search rules in
    let b : FitsSigned w64 c.in-Range.to = search rules in
    let s : FitsSigned w64 c.in-Range.step = search rules in
    let from = to_z-of_z w64 c.in-Range.from a in
    let to = to_z-of_z w64 c.in-Range.to b in
    let step = to_z-of_z w64 c.in-Range.step s in
    let same : progression c.in-Range.from c.in-Range.step (count c.in-Range.from c.in-Range.to c.in-Range.step) ≡ progression (to_z w64 (of_z w64 c.in-Range.from)) (to_z w64 (of_z w64 c.in-Range.step)) (count (to_z w64 (of_z w64 c.in-Range.from)) (to_z w64 (of_z w64 c.in-Range.to)) (to_z w64 (of_z w64 c.in-Range.step))) =
    sym (λ i. progression (from i) (step i) (count (from i) (to i) (step i))) in
    rw (w.1, c.in-Range.is) (λ e. absurd (false≢true e), λ h. c.in_err-extent-in-Range.ensures.ok.1 (subst (λ (xs : List ℤ). All (IsWithin c.args.self.now) xs) same h))

pub returns-in_ok-extent-in-Range-clause-value : goal.returns-in_ok-extent-in-Range-clause-value
returns-in_ok-extent-in-Range-clause-value c =
    let d = c.args.self.now in
    let a : FitsSigned w64 c.in-Range.from = search rules in
    let b : FitsSigned w64 c.in-Range.to = search rules in
    let s : FitsSigned w64 c.in-Range.step = search rules in
    let wrapped : to_z w64 ((of_z w64 d.stride * of_z w64 c.in-Range.step) % 2 ^ 64) ≡ int_wrap w64 (d.stride *ℤ c.in-Range.step) = search (rules, wraps) in
    let extent : c.in_ok-extent-in-Range.extent ≡ count c.in-Range.from c.in-Range.to c.in-Range.step =
    c.in_ok-extent-in-Range.ensures.value ∙ (λ i. count (to_z-of_z w64 c.in-Range.from a i) (to_z-of_z w64 c.in-Range.to b i) (to_z-of_z w64 c.in-Range.step s i)) in
    let made : (n : ℕ) → (z : ℤ) → List Dim = λ n z. (record { lower = pos 1; extent = n; stride = z }) ∷ [] in
    rw c.in-Range.is (λ i. made (extent i) (wrapped i))
