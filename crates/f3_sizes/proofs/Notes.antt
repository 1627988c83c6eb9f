-- What is noted stays, and so much less is left.
use Rattle.std.proofs.Common.{◌≡◌, ◌≢◌, ◌≤◌, ◌<◌, ℕ, zero, suc, ◌+◌, ◌*◌, false, List, [], ◌∷◌, length, get_or, cond, Option, None, Some, refl, sym, ap, ◌∙◌, arith, ◌⊎◌, inl, inr}
use Rattle.std.specs.Prelude.{slice_get, slice_set, is_some, is_none}
use Rattle.std.proofs.Math.ListN.{length-set}
use Rattle.std.proofs.lemmas.Option.{get_or_from_slice_get, slice_get_within}
use Rattle.std.proofs.lemmas.List.Sums.{sum_by-set}
use Rattle.f3_sizes.specs.Part.{AreNoted, Grows, IsNoted, unnoted}

abbrev Notes : Type 0
Notes = List (Option ℕ)

pub none_here : (hs : Notes) (at : ℕ) → at < length hs → is_some (get_or hs at None) ≡ false → slice_get hs at ≡ Some None
none_here [] at lt e = absurd (omega arith)
none_here (None ∷ hs) zero lt e = refl
none_here (Some h ∷ hs) zero lt e = cc
none_here (x ∷ hs) (suc at) lt e = none_here hs at (omega arith) e

after_set : (hs : Notes) (at k v h : ℕ) → slice_get (slice_set hs at (Some v)) k ≡ Some (Some h) → ((k ≡ at) × (h ≡ v)) ⊎ (slice_get hs k ≡ Some (Some h))
after_set [] at k v h e = inr e
after_set (x ∷ hs) zero zero v h e = inl (refl, cc)
after_set (x ∷ hs) zero (suc k) v h e = inr e
after_set (x ∷ hs) (suc at) zero v h e = inr e
after_set (x ∷ hs) (suc at) (suc k) v h e = elim (after_set hs at k v h e) [ inl b ↦ inl (ap suc b.0, b.1) | inr b ↦ inr b ]

set_there : (hs : Notes) (at v : ℕ) → at < length hs → slice_get (slice_set hs at (Some v)) at ≡ Some (Some v)
set_there [] at v lt = absurd (omega arith)
set_there (x ∷ hs) zero v lt = refl
set_there (x ∷ hs) (suc at) v lt = set_there hs at v (omega arith)

set_kept : (hs : Notes) (at v k h : ℕ) → slice_get hs at ≡ Some None → slice_get hs k ≡ Some (Some h) → slice_get (slice_set hs at (Some v)) k ≡ Some (Some h)
set_kept [] at v k h is e = e
set_kept (x ∷ hs) zero v zero h is e = cc
set_kept (x ∷ hs) zero v (suc k) h is e = e
set_kept (x ∷ hs) (suc at) v zero h is e = e
set_kept (x ∷ hs) (suc at) v (suc k) h is e = set_kept hs at v k h is e

abbrev pub one_if_none : Option ℕ → ℕ
one_if_none x = cond (is_none x) 1 0

pub set_fewer : (hs : Notes) (at v : ℕ) → slice_get hs at ≡ Some None → unnoted (slice_set hs at (Some v)) + 1 ≡ unnoted hs
set_fewer hs at v is =
    let lt = slice_get_within hs at None is in
    let was : one_if_none (get_or hs at None) ≡ 1 = ap one_if_none (get_or_from_slice_get hs at None None is) in
    let sums : unnoted (slice_set hs at (Some v)) + one_if_none (get_or hs at None) ≡ unnoted hs + 0 = sum_by-set one_if_none hs at (Some v) None lt in
    omega (arith, sums, was)

pub note_grows : (hs : Notes) (at v : ℕ) → slice_get hs at ≡ Some None → Grows hs (slice_set hs at (Some v))
note_grows hs at v is = record { kept = λ k h e. set_kept hs at v k h is e; fewer = omega (arith, set_fewer hs at v is) }

pub note_there : (hs : Notes) (at v : ℕ) → at < length hs → IsNoted (slice_set hs at (Some v)) at
note_there hs at v lt = (v, set_there hs at v lt)

pub note_right : (height : ℕ → ℕ) (hs : Notes) (at v : ℕ) → slice_get hs at ≡ Some None → AreNoted height hs → v ≡ height at → v + 2 * unnoted hs ≤ 2 * length hs + 2 →
    AreNoted height (slice_set hs at (Some v))
note_right height hs at v is a e le =
    let less = set_fewer hs at v is in
    let same : length (slice_set hs at (Some v)) ≡ length hs = length-set hs at (Some v) in record {
      right = λ k h there. elim (after_set hs at k v h there) [ inl b ↦ b.1 ∙ e ∙ ap height (sym b.0) | inr b ↦ a.right k h b ];
      few = λ k h there. elim (after_set hs at k v h there) [ inl b ↦ omega (arith, b.1, le, less, same) | inr b ↦ omega (arith, a.few k h b, less, same) ];
    }

pub set_others : (hs : Notes) (at v k : ℕ) → k ≢ at → slice_get (slice_set hs at (Some v)) k ≡ slice_get hs k
set_others [] at v k ne = refl
set_others (x ∷ hs) zero v zero ne = absurd (ne refl)
set_others (x ∷ hs) zero v (suc k) ne = refl
set_others (x ∷ hs) (suc at) v zero ne = refl
set_others (x ∷ hs) (suc at) v (suc k) ne = set_others hs at v k (λ e. ne (ap suc e))
