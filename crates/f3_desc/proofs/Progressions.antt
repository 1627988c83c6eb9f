-- Numbers at equal distances within the bounds of a dimension.
use Rattle.std.proofs.Common.{◌≡◌, ◌∙◌, sym, ap, subst, ℕ, zero, suc, ◌+◌, ◌*◌, ◌/◌, ◌<◌, [], arith}
use Rattle.std.proofs.Math.Nat.{mul-div_cancel}
use Rattle.std.specs.Prelude.{ℤ, pos, negsuc, ◌+ℤ◌, ◌-ℤ◌, ◌*ℤ◌, unsigned_abs, All}
use Rattle.std.proofs.Math.IntN.{suc_ℤ-*ℤ}
use Rattle.std.proofs.lemmas.Int.{ints, unsigned_abs-mul}
use Rattle.std.proofs.lemmas.List.Elements.{All-nil, All-cons, All-head, All-tail}
use Rattle.f3_desc.specs.declared.descriptor.Dim.{Dim}
use Rattle.f3_desc.specs.Descriptor.{IsWithin, progression}
use Rattle.f3_desc.specs.Section.{count}
use Rattle.f3_desc.specs.Inner.Cuts.{EndsAt}

-- one step, and then m
pub step-more : (f k : ℤ) (m : ℕ) → (f +ℤ k) +ℤ (pos m *ℤ k) ≡ f +ℤ (pos (suc m) *ℤ k)
step-more f k m = let e = suc_ℤ-*ℤ (pos m) k in omega (arith, ints)

between : (d : Dim) (f k : ℤ) (m : ℕ) → IsWithin d f → IsWithin d (f +ℤ (pos (suc m) *ℤ k)) → IsWithin d (f +ℤ k)
between d f (pos a) m h l = let low = h.0 in let high = l.1 in (omega (arith, ints), omega (arith, ints))
between d f (negsuc a) m h l = let low = l.0 in let high = h.1 in (omega (arith, ints), omega (arith, ints))

pub within-all : (d : Dim) (f k : ℤ) (m : ℕ) → IsWithin d f → IsWithin d (f +ℤ (pos m *ℤ k)) → All (IsWithin d) (progression f k (suc m))
within-all d f k zero h l = All-cons (IsWithin d) f [] h (All-nil (IsWithin d))
within-all d f k (suc m) h l =
    All-cons (IsWithin d) f (progression (f +ℤ k) k (suc m)) h
    (within-all d (f +ℤ k) k m (between d f k m h l) (subst (λ (z : ℤ). IsWithin d z) (sym (step-more f k m)) l))

pub within-last : (d : Dim) (f k : ℤ) (m : ℕ) → All (IsWithin d) (progression f k (suc m)) → IsWithin d (f +ℤ (pos m *ℤ k))
within-last d f k zero h = subst (λ (z : ℤ). IsWithin d z) (omega (arith, ints)) (All-head (IsWithin d) f [] h)
within-last d f k (suc m) h = subst (λ (z : ℤ). IsWithin d z) (step-more f k m) (within-last d (f +ℤ k) k m (All-tail (IsWithin d) f (progression (f +ℤ k) k (suc m)) h))

-- what from:to:step selects, by its ends
pub selects-none : (d : Dim) (from to step : ℤ) → count from to step ≡ 0 → All (IsWithin d) (progression from step (count from to step))
selects-none d from to step e = subst (λ (n : ℕ). All (IsWithin d) (progression from step n)) (sym e) (All-nil (IsWithin d))

pub selects-within : (d : Dim) (from to step last : ℤ) → EndsAt from to step last → IsWithin d from → IsWithin d last → All (IsWithin d) (progression from step (count from to step))
selects-within d from to step last e h l =
    let many : suc e.steps ≡ count from to step = omega (arith, e.many) in
    subst (λ (n : ℕ). All (IsWithin d) (progression from step n)) many
    (within-all d from step e.steps h (subst (λ (z : ℤ). IsWithin d z) e.last_is l))

pub selects-ends : (d : Dim) (from to step last : ℤ) → EndsAt from to step last → All (IsWithin d) (progression from step (count from to step)) → IsWithin d from × IsWithin d last
selects-ends d from to step last e h =
    let many : count from to step ≡ suc e.steps = omega (arith, e.many) in
    let there = subst (λ (n : ℕ). All (IsWithin d) (progression from step n)) many h in
    (All-head (IsWithin d) from (progression (from +ℤ step) step e.steps) there, subst (λ (z : ℤ). IsWithin d z) (sym e.last_is) (within-last d from step e.steps there))

pub ends-count : (from to step last : ℤ) (d k : ℕ) → ¬ (step ≡ pos 0) → EndsAt from to step last → d ≡ unsigned_abs (from -ℤ last) → k ≡ unsigned_abs step → count from to step ≡ d / k + 1
ends-count from to step last d k nonzero e far size =
    let some : 0 < k = omega (arith, ints) in
    let whole = unsigned_abs-mul (pos e.steps) step in
    let far_is : d ≡ unsigned_abs (pos e.steps *ℤ step) = omega (arith, ints) in
    let is : d ≡ e.steps * k = far_is ∙ whole ∙ ap (λ (n : ℕ). e.steps * n) (sym size) in
    e.many ∙ ap (λ (n : ℕ). n + 1) (sym (ap (λ (n : ℕ). n / k) is ∙ mul-div_cancel e.steps some))

pub ends-same : (a b s a' b' s' last : ℤ) → a ≡ a' → b ≡ b' → s ≡ s' → EndsAt a b s last → EndsAt a' b' s' last
ends-same a b s a' b' s' last p q r e = subst (λ (z : ℤ). EndsAt z b' s' last) p (subst (λ (z : ℤ). EndsAt a z s' last) q (subst (λ (z : ℤ). EndsAt a b z last) r e))
