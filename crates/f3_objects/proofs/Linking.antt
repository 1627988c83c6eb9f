-- Laws on an allocatable whose block is to hold a copy.
use Rattle.std.proofs.Common.{suc, ◌≡◌, ◌≢◌, ℕ, ℤ, ◌+◌, ◌<◌, List, [], ◌∷◌, ◌++◌, length, take, drop, set, ap, sym, subst, ◌∙◌, arith}
use Rattle.std.proofs.lemmas.List.{set_split}
use Rattle.f3_live_blocks.specs.Blocks.{Live, IsLive, words_of, with_words}
use Rattle.f3_live_blocks.proofs.Laws.{live-insert, words-insert_other}
use Rattle.f3_objects.specs.Holds.{with_words_at}
use Rattle.f3_objects.proofs.Spans.{written_behind, length-written}
use Rattle.f3_objects.proofs.Writes.{with_words_again, words-with}

-- one word written
pub written_one : (ws : List ℤ) (at : ℕ) (y : ℤ) → at < length ws → set ws at y ≡ with_words_at ws at (y ∷ [])
written_one ws at y l =
    let one : suc at ≡ at + 1 = omega arith in
    set_split ws at y l ∙ ap (λ (n : ℕ). take at ws ++ y ∷ drop n ws) one

-- the first word, and the words behind it
module _ (old mid : Live) (from to at : ℕ) (y : ℤ) (ne : from ≢ to) (l : at < length (words_of old to)) (e : mid ≡ with_words old to (set (words_of old to) at y)) where
  pub first_words : words_of mid to ≡ with_words_at (words_of old to) at (y ∷ [])
  first_words = ap (λ (m : Live). words_of m to) e ∙ (words-with old to _ ∙ written_one (words_of old to) at y l)

  pub first_length : length (words_of mid to) ≡ length (words_of old to)
  first_length = ap length first_words ∙ length-written (words_of old to) at (y ∷ []) (omega arith)

  pub first_live : (q : ℕ) → IsLive old q → IsLive mid q
  first_live q h = let P : Live → Type 0 = λ m. IsLive m q in subst P (sym e) (live-insert old to _ q h)

  pub first_other : words_of mid from ≡ words_of old from
  first_other = ap (λ (m : Live). words_of m from) e ∙ words-insert_other old to _ from ne

  pub first_then : (new : Live) (from_at n : ℕ) → new ≡ with_words mid to (with_words_at (words_of mid to) (at + 1) (take n (drop from_at (words_of mid from)))) → new ≡ with_words old to (with_words_at (words_of old to) at (y ∷ take n (drop from_at (words_of old from))))
  first_then new from_at n f =
      let zs : List ℤ → List ℤ = λ l. take n (drop from_at l) in
      let a : with_words mid to (with_words_at (words_of mid to) (at + 1) (zs (words_of mid from))) ≡ with_words mid to (with_words_at (words_of old to) at (y ∷ zs (words_of old from))) =
      ap (λ (l : List ℤ). with_words mid to (with_words_at (words_of mid to) (at + 1) (zs l))) first_other
      ∙ (ap (λ (l : List ℤ). with_words mid to (with_words_at l (at + 1) (zs (words_of old from)))) first_words
      ∙ ap (with_words mid to) (written_behind (words_of old to) at (y ∷ []) (zs (words_of old from)) (omega arith))) in
      let b : with_words mid to (with_words_at (words_of old to) at (y ∷ zs (words_of old from))) ≡ with_words old to (with_words_at (words_of old to) at (y ∷ zs (words_of old from))) =
      ap (λ (m : Live). with_words m to (with_words_at (words_of old to) at (y ∷ zs (words_of old from)))) e ∙ with_words_again old to _ _ in
      f ∙ (a ∙ b)
