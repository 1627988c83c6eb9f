-- Counts that are kept up to a limit.
use Rattle.std.proofs.Common.{◌≡◌, ℕ, ◌-◌, ◌*◌, ◌^◌, ◌<◌, ◌≤◌, min, zero, suc, inl, inr, ap, ◌∙◌, arith}
use Rattle.std.proofs.Math.Nat.{mul-le-mul_left, mul_comm}
use Rattle.std.proofs.lemmas.Bool.{cases_lt}
use Rattle.f3_extents.specs.Counts.{capped}

times_small : (c m n : ℕ) → m ≤ c → n ≤ c → min (min m c * min n c) c ≡ min (m * n) c
times_small c m n hm hn =
    let a : min m c ≡ m = omega arith in
    let b : min n c ≡ n = omega arith in
    ap (λ x. min (x * min n c) c) a ∙ ap (λ y. min (m * y) c) b

times_large : (c m n : ℕ) → c < m → min (min m c * min n c) c ≡ min (m * n) c
times_large c m zero h =
    let e : min 0 c ≡ 0 = omega arith in
    ap (λ y. min (min m c * y) c) e ∙ (omega arith)
times_large zero m (suc k) h = omega arith
times_large (suc c) m (suc k) h =
    let a : min m (suc c) ≡ suc c = omega arith in
    let one : 1 ≤ min (suc k) (suc c) = omega arith in
    let unit : 1 ≤ suc k = omega arith in
    ap (λ x. min (x * min (suc k) (suc c)) (suc c)) a
    ∙ (omega (arith, mul-le-mul_left (suc c) one, mul-le-mul_left m unit))

times_min : (c m n : ℕ) → min (min m c * min n c) c ≡ min (m * n) c
times_min c m n = elim (cases_lt c m) [
  | inl h ↦ times_large c m n h
  | inr h ↦ elim (cases_lt c n) [
    | inl k ↦ ap (λ x. min x c) (mul_comm (min m c) (min n c)) ∙ times_large c n m k ∙ ap (λ x. min x c) (mul_comm n m)
    | inr k ↦ times_small c m n h k
  ]
]

pub capped_times : (m n : ℕ) → min (capped m * capped n) (2 ^ 64 - 1) ≡ capped (m * n)
capped_times m n = times_min (2 ^ 64 - 1) m n
