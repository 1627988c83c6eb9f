-- Bounds that words tell.
use Rattle.std.proofs.Common.{Some, slice_get, ◌≡◌, ◌≢◌, ℕ, ◌+◌, ◌-◌, ◌*◌, ◌≤◌, ◌<◌, zero, suc, ◌/◌, ℤ, pos, Bool, false, nat_lt, List, [], ◌∷◌, length, sym, ap, ◌∙◌, arith}
use Rattle.f3_live_blocks.specs.Blocks.{Live, words_of}
use Rattle.f3_meaning_whole.specs.Value.{Span, count}
use Rattle.f3_rooms.specs.Values.{word}
use Rattle.f3_rooms.specs.Sound.{TellBounds}
use Rattle.f3_room_places.specs.Places.{AreTold}
use Rattle.f3_room_places.proofs.Counting.{quotient_below, below_none}

module _ (m : Live) (b at rank : ℕ) where
  pub told_first : (s : Span) (ss : List Span) → AreTold m b at rank (s ∷ ss) → word m b (at + 1) ≡ pos s.extent
  told_first s ss are = let told : TellBounds m b at (s ∷ ss) = are.told in told.1

  pub told_rest : (s : Span) (ss : List Span) → AreTold m b at rank (s ∷ ss) → AreTold m b (at + 2) (rank - 1) ss
  told_rest s ss are =
      let ranked : length (s ∷ ss) ≡ rank = are.ranked in
      let within : at + 2 * rank ≤ length (words_of m b) = are.within in
      let told : TellBounds m b at (s ∷ ss) = are.told in
      record { live = are.live; within = omega arith; ranked = omega arith; told = told.2 }

  pub some_rest : rank ≢ 0 → (ss : List Span) → AreTold m b at rank ss → (us : List Span) × AreTold m b (at + 2) (rank - 1) us
  some_rest some [] are = let ranked : length (let e : List Span = [] in e) ≡ rank = are.ranked in absurd (some (sym ranked))
  some_rest some (s ∷ ss) are = (ss, told_rest s ss are)

  module _ (some : rank ≢ 0) (k x : ℕ) (tells : (n : ℕ) → word m b (at + 1) ≡ pos n → x ≡ n) where
    pub told_next : x ≢ 0 → (t : Bool) → ((us : List Span) → AreTold m b (at + 2) (rank - 1) us → t ≡ nat_lt (k / x) (count us))
        → (ss : List Span) → AreTold m b at rank ss → t ≡ nat_lt k (count ss)
    told_next more t rest [] are = let ranked : length (let e : List Span = [] in e) ≡ rank = are.ranked in absurd (some (sym ranked))
    told_next more t rest (s ∷ ss) are =
        let e : x ≡ s.extent = tells s.extent (told_first s ss are) in
        rest ss (told_rest s ss are) ∙ quotient_below k x (count ss) (omega arith) ∙ ap (λ n. nat_lt k (n * count ss)) e

    pub told_none : x ≡ 0 → (ss : List Span) → AreTold m b at rank ss → false ≡ nat_lt k (count ss)
    told_none none [] are = let ranked : length (let e : List Span = [] in e) ≡ rank = are.ranked in absurd (some (sym ranked))
    told_none none (s ∷ ss) are =
        let e : x ≡ s.extent = tells s.extent (told_first s ss are) in below_none k (count ss) ∙ ap (λ n. nat_lt k (n * count ss)) (sym none ∙ e)

-- what words tell of a dimension
pub told_item : (m : Live) (b o : ℕ) (ss : List Span) (k : ℕ) (l : ℤ) (e : ℕ) → TellBounds m b o ss → k < length ss → l ≡ word m b (o + 2 * k)
    → ((n : ℕ) → word m b (o + 2 * k + 1) ≡ pos n → e ≡ n) → Some (record { lower = l; extent = e }) ≡ slice_get ss k
told_item m b o [] k l e told lt low tells = absurd (omega arith)
told_item m b o (s ∷ ss) zero l e told lt low tells =
    let first : o + 2 * 0 ≡ o = omega arith in
    let low_is : l ≡ s.lower = low ∙ ap (word m b) first ∙ told.0 in
    let many : e ≡ s.extent = tells s.extent (ap (λ i. word m b (i + 1)) first ∙ told.1) in
    ap (λ x. let t : Span = record { lower = x; extent = e } in Some t) low_is ∙ ap (λ x. let t : Span = record { lower = s.lower; extent = x } in Some t) many
told_item m b o (s ∷ ss) (suc k) l e told lt low tells =
    let next : o + 2 * suc k ≡ (o + 2) + 2 * k = omega arith in
    told_item m b (o + 2) ss k l e told.2 (omega arith) (low ∙ ap (word m b) next) (λ n is. tells n (ap (λ i. word m b (i + 1)) next ∙ is))

pub told_dimension : (m : Live) (b at rank : ℕ) (k : ℕ) (l : ℤ) (e : ℕ) → k < rank → l ≡ word m b (at + 2 * k) → ((n : ℕ) → word m b (at + 2 * k + 1) ≡ pos n → e ≡ n)
    → (ss : List Span) → AreTold m b at rank ss → Some (record { lower = l; extent = e }) ≡ slice_get ss k
told_dimension m b at rank k l e lt low tells ss are =
    let ranked : length ss ≡ rank = are.ranked in told_item m b at ss k l e are.told (omega arith) low tells
