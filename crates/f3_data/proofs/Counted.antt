-- So many numbers, and one of a list.
use Rattle.std.proofs.Common.{◌≡◌, ℕ, zero, suc, ◌+◌, ◌<◌, ◌≤◌, List, [], ◌∷◌, length, drop, get_or, refl, ap, ◌∙◌, arith, None, Some}
use Rattle.std.specs.Prelude.{slice_get}
use Rattle.f3_data.specs.References.{counted}

pub counted_length : (i n : ℕ) → length (counted i n) ≡ n
counted_length i zero = refl
counted_length i (suc n) = ap suc (counted_length (suc i) n)

pub counted_from : (i n k : ℕ) → k < n → slice_get (counted i n) k ≡ Some (i + k)
counted_from i zero k h = absurd (omega arith)
counted_from i (suc n) zero h = ap Some (omega arith)
counted_from i (suc n) (suc k) h = counted_from (suc i) n k (omega arith) ∙ ap Some (omega arith)

pub counted_at : (n k : ℕ) → k < n → slice_get (counted 0 n) k ≡ Some k
counted_at n k h = counted_from 0 n k h ∙ ap Some (omega arith)

pub counted_past_from : (i n k : ℕ) → n ≤ k → slice_get (counted i n) k ≡ None
counted_past_from i zero k h = refl
counted_past_from i (suc n) zero h = absurd (omega arith)
counted_past_from i (suc n) (suc k) h = counted_past_from (suc i) n k (omega arith)

pub counted_past : (n k : ℕ) → n ≤ k → slice_get (counted 0 n) k ≡ None
counted_past n k h = counted_past_from 0 n k h

-- one of a list, and those behind it
pub drop_at : (k : ℕ) (ns : List ℕ) (n : ℕ) → slice_get ns k ≡ Some n → drop k ns ≡ n ∷ drop (k + 1) ns
drop_at k [] n h = cc
drop_at zero (x ∷ ns) n h = let e : x ≡ n = cc in rw e refl
drop_at (suc k) (x ∷ ns) n h = drop_at k ns n h ∙ ap (λ i. n ∷ drop i (x ∷ ns)) (let e : suc (k + 1) ≡ suc k + 1 = omega arith in e)

pub got_at : (k : ℕ) (ns : List ℕ) (d : ℕ) → k < length ns → slice_get ns k ≡ Some (get_or ns k d)
got_at k [] d h = absurd (omega arith)
got_at zero (x ∷ ns) d h = refl
got_at (suc k) (x ∷ ns) d h = got_at k ns d (omega arith)

-- past the last
pub drop_past : (k : ℕ) (ns : List ℕ) → length ns ≤ k → drop k ns ≡ []
drop_past zero [] h = refl
drop_past zero (n ∷ ns) h = absurd (omega arith)
drop_past (suc k) [] h = refl
drop_past (suc k) (n ∷ ns) h = drop_past k ns (omega arith)

past_of : (ns : List ℕ) (k : ℕ) → None ≡ slice_get ns k → length ns ≤ k
past_of [] k h = omega arith
past_of (n ∷ ns) zero h = cc
past_of (n ∷ ns) (suc k) h = let p = past_of ns k h in omega arith

pub none_left : (ns : List ℕ) (k : ℕ) → None ≡ slice_get ns k → drop k ns ≡ []
none_left ns k h = drop_past k ns (past_of ns k h)

pub none_behind : (ns : List ℕ) (k : ℕ) → None ≡ slice_get ns k → drop (k + 1) ns ≡ []
none_behind ns k h = let p = past_of ns k h in drop_past (k + 1) ns (omega arith)

pub none_of : {A : Type 0} (xs : List A) → length xs ≡ 0 → xs ≡ []
none_of [] h = refl
none_of (x ∷ xs) h = absurd (omega arith)
