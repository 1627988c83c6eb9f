-- Words of a list are written one after another.
use Rattle.std.proofs.Common.{◌≡◌, ◌∙◌, sym, ap, subst, refl, ℕ, zero, suc, ◌+◌, ◌<◌, ◌≤◌, List, [], ◌∷◌, ◌++◌, length, take, get_or, set, arith}
use Rattle.std.specs.Prelude.{ℤ, pos}
use Rattle.std.proofs.lemmas.List.{take_all, length-take-le}
use Rattle.f3_live_blocks.specs.Blocks.{Live, words_of, with_words}
use Rattle.f3_objects.specs.Holds.{with_words_at}
use Rattle.f3_objects.proofs.Writes.{Wrote, wrote_length, wrote_more}

take-next : (ws : List ℤ) (i : ℕ) → i < length ws → take (suc i) ws ≡ take i ws ++ get_or ws i (pos 0) ∷ []
take-next [] i lt = absurd (omega arith)
take-next (w ∷ ws) zero lt = refl
take-next (w ∷ ws) (suc i) lt = ap (λ l. w ∷ l) (take-next ws i (omega arith))

module _ (old : Live) (b at : ℕ) (ws : List ℤ) (n : ℕ) (many : length ws ≡ n) (room : at + n ≤ length (words_of old b)) (now : Live) (i : ℕ) (so : Wrote old now b at (take i ws)) where
  pub filled-within : i < n → at + i < length (words_of now b)
  filled-within lt =
      let e = length-take-le i ws (omega arith) in
      let same = wrote_length old now b at (take i ws) (omega arith) so in
      omega arith

  pub filled-more : i < n → (new : Live) (z : ℤ) → z ≡ get_or ws i (pos 0) → new ≡ with_words now b (set (words_of now b) (at + i) z) → Wrote old new b at (take (i + 1) ws)
  filled-more lt new z e is =
      let next : suc i ≡ i + 1 = omega arith in
      let wrote = wrote_more old now new b at i (take i ws) z so (length-take-le i ws (omega arith)) (omega arith) is in
      subst (Wrote old new b at) (ap (λ (y : ℤ). take i ws ++ y ∷ []) e ∙ sym (take-next ws i (omega arith)) ∙ ap (λ (k : ℕ). take k ws) next) wrote

  pub filled-all : n ≤ i → now ≡ with_words old b (with_words_at (words_of old b) at ws)
  filled-all le = so.is ∙ ap (λ l. with_words old b (with_words_at (words_of old b) at l)) (take_all i ws (omega arith))
