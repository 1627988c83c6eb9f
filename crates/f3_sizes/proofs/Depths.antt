-- The depth of one part more.
use Rattle.std.proofs.Common.{◌≡◌, ◌≤◌, ◌<◌, ℕ, zero, suc, ◌+◌, ◌-◌, ◌*◌, List, [], ◌∷◌, ◌++◌, length, drop, refl, sym, ap, ◌∙◌, subst, arith, below_more, length-append, zero-add}
use Rattle.std.specs.Prelude.{sum, slice_index, slice_range}
use Rattle.std.proofs.Math.ListN.{get_or-append}
use Rattle.std.proofs.Math.Seq.{get_or-append_seam}
use Rattle.std.proofs.lemmas.List.Sums.{sum_by-append}
use Rattle.std.proofs.lemmas.List.{length-take}
use Rattle.f3_gen_values.specs.declared.line.Line.{Line}
use Rattle.f3_sizes.specs.Part.{IsDepth}
use Rattle.f3_sizes.specs.Parts.{first_of, behind, part_lines, IsPartAt, AreDepths}

first_at : (starts : List ℕ) (end i : ℕ) → i < length starts → first_of (drop i starts) end ≡ slice_index starts i
first_at [] end i lt = absurd (omega arith)
first_at (a ∷ starts) end zero lt = refl
first_at (a ∷ starts) end (suc i) lt = first_at starts end i (omega arith)

few_take : (lines : List Line) (a b : ℕ) → length (slice_range lines a b) ≤ b - a
few_take lines a b = omega (arith, length-take (b - a) (drop a lines))

pub depths_more : (lines : List Line) (starts : List ℕ) (end first i : ℕ) (ds : List ℕ) (d : ℕ) → i < length starts → AreDepths lines starts end first i ds →
    IsPartAt lines starts end first i → IsDepth (part_lines lines starts end i) first d → AreDepths lines starts end first (i + 1) (ds ++ d ∷ [])
depths_more lines starts end first i ds d lt h p new = record {
  same = omega (arith, length-append ds (d ∷ []), h.same);
  each = λ k less. below_more (λ k. IsDepth (part_lines lines starts end k) first (slice_index (ds ++ d ∷ []) k)) i
      (λ k less. let at : k < length ds = omega (arith, h.same) in
      subst (λ n. IsDepth (part_lines lines starts end k) first n) (sym (get_or-append ds (d ∷ []) 0 k at)) (h.each k less))
      (let seam : slice_index (ds ++ d ∷ []) i ≡ d = ap (λ n. slice_index (ds ++ d ∷ []) n) (sym h.same) ∙ get_or-append_seam ds d [] 0 in
      subst (λ n. IsDepth (part_lines lines starts end i) first n) (sym seam) new) k less;
  few =
      let more : sum (ds ++ d ∷ []) ≡ sum ds + sum (d ∷ []) = sum_by-append (λ x. x) ds (d ∷ []) in
      let single : sum (d ∷ []) ≡ d = zero-add d in
      let a = slice_index starts i in let b = behind starts end i in
      let one : d ≤ 2 * (b - a) = omega (arith, new.few, few_take lines a b) in
      omega (arith, more, single, one, h.few, p.order, first_at starts end i lt);
}
