-- Names of blocks that are one, or are not.
use Rattle.std.proofs.Common.{◌≡◌, ◌≢◌, ℕ, true, false, refl, sym, ap, Less, Equal, Greater}
use Rattle.std.specs.Ordering.{nat_cmp, eq_by_cmp, is_eq}
use Rattle.std.specs.Cmp.{ranked, nat_cmp_is}

pub same-is : (q k : ℕ) → eq_by_cmp nat_cmp q k ≡ true → q ≡ k
same-is q k t =
    elim (nat_cmp q k) as (λ o. o ≡ nat_cmp q k → is_eq o ≡ true → q ≡ k) [
      | Less ↦ λ e t. cc
      | Equal ↦ λ e t. ranked q k Equal e
      | Greater ↦ λ e t. cc
    ] refl t

pub same-self : (q : ℕ) → eq_by_cmp nat_cmp q q ≡ true
same-self q = ap is_eq (sym (nat_cmp_is q q Equal refl))

pub same-apart : (q k : ℕ) → q ≢ k → eq_by_cmp nat_cmp q k ≡ false
same-apart q k ne =
    elim (nat_cmp q k) as (λ o. o ≡ nat_cmp q k → is_eq o ≡ false) [
      | Less ↦ λ e. refl
      | Equal ↦ λ e. absurd (ne (ranked q k Equal e))
      | Greater ↦ λ e. refl
    ] refl
