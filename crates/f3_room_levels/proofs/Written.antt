-- Words that are written one after another, over words that are 0.
use Rattle.std.proofs.Common.{◌≡◌, ◌≢◌, inl, inr, ℕ, zero, suc, ◌+◌, ◌≤◌, ℤ, pos, List, [], ◌∷◌, ◌++◌, length, replicate, refl, sym, ap, subst, ◌∙◌, arith}
use Rattle.std.proofs.lemmas.List.{set-get_or}
use Rattle.std.specs.Prelude.{slice_set}
use Rattle.std.specs.FinMap.{get as find}
use Rattle.f3_live_blocks.specs.Blocks.{Live, IsLive, words_of, with_words}
use Rattle.f3_live_blocks.proofs.Laws.{get-insert_other}
use Rattle.f3_objects.proofs.Writes.{with_words_same}
use Rattle.f3_rooms.specs.Values.{word}
use Rattle.f3_rooms.specs.Places.{with_word}
use Rattle.f3_rooms.specs.Laws.{AreZeros}
use Rattle.f3_rooms.proofs.Words.{IsWritten, written_word, put_there, put_long}
use Rattle.f3_room_objects.proofs.Windows.{WordsAre}
use Rattle.f3_room_levels.specs.Writing.{with_words_from, IsBlank}

-- ---- what is written

pub from_append : (m : Live) (b o : ℕ) (xs ys : List ℤ) → with_words_from m b o (xs ++ ys) ≡ with_words_from (with_words_from m b o xs) b (o + length xs) ys
from_append m b o [] ys = let e : o ≡ o + 0 = omega arith in ap (λ i. with_words_from m b i ys) e
from_append m b o (x ∷ xs) ys =
    let e : (o + 1) + length xs ≡ o + suc (length xs) = omega arith in
    from_append (with_word m b o x) b (o + 1) xs ys ∙ ap (λ i. with_words_from (with_words_from (with_word m b o x) b (o + 1) xs) b i ys) e

written_then : (m n p : Live) (block o k l : ℕ) → IsWritten m n block o k → IsWritten n p block (o + k) l → IsWritten m p block o (k + l)
written_then m n p block o k l first next = record {
  live = λ b live. next.live b (first.live b live);
  long = λ b. next.long b ∙ first.long b;
  same = λ b i aside.
      next.same b i (λ e. elim (aside e) [ inl before ↦ inl (omega arith) | inr after ↦ inr (omega arith) ])
      ∙ first.same b i (λ e. elim (aside e) [ inl before ↦ inl before | inr after ↦ inr (omega arith) ]);
}

pub written_from : (m : Live) (b o : ℕ) (ws : List ℤ) → IsWritten m (with_words_from m b o ws) b o (length ws)
written_from m b o [] = record { live = λ c live. live; long = λ c. refl; same = λ c i aside. refl }
written_from m b o (w ∷ ws) =
    let e : 1 + length ws ≡ suc (length ws) = omega arith in
    let n : Live = with_words_from (with_word m b o w) b (o + 1) ws in
    subst (IsWritten m n b o) e (written_then m (with_word m b o w) n b o 1 (length ws) (written_word m b o w) (written_from (with_word m b o w) b (o + 1) ws))

pub from_are : (m : Live) (b o : ℕ) (ws : List ℤ) → o + length ws ≤ length (words_of m b) → WordsAre (with_words_from m b o ws) b o ws
from_are m b o [] long = tt
from_are m b o (w ∷ ws) long =
    let one : Live = with_word m b o w in
    let e : length (words_of one b) ≡ length (words_of m b) = put_long m b o w b in (
      (written_from one b (o + 1) ws).same b o (λ s. inl (omega arith)) ∙ put_there m b o w (omega arith),
      from_are one b (o + 1) ws (omega arith),
    )

pub from_others : (m : Live) (b o : ℕ) (ws : List ℤ) (q : ℕ) → q ≢ b → find (with_words_from m b o ws) q ≡ find m q
from_others m b o [] q ne = refl
from_others m b o (w ∷ ws) q ne = from_others (with_word m b o w) b (o + 1) ws q ne ∙ get-insert_other m b _ q ne

-- a word is what it was
same_word : (m : Live) (b o : ℕ) (z : ℤ) → IsLive m b → word m b o ≡ z → with_word m b o z ≡ m
same_word m b o z live e =
    ap (λ v. with_words m b (slice_set (words_of m b) o v)) (sym e)
    ∙ ap (with_words m b) (set-get_or (words_of m b) o (pos 0))
    ∙ with_words_same m b live

-- zeros over zeros
pub from_zeros : (m : Live) (b o n : ℕ) → IsLive m b → AreZeros m b o n → with_words_from m b o (replicate n (pos 0)) ≡ m
from_zeros m b o zero live zeros = refl
from_zeros m b o (suc n) live zeros =
    ap (λ (k : Live). with_words_from k b (o + 1) (replicate n (pos 0))) (same_word m b o (pos 0) live (zeros o (omega arith) (omega arith)))
    ∙ from_zeros m b (o + 1) n live (λ i from before. zeros i (omega arith) (omega arith))

-- ---- words that are still 0

pub blank_front : (m : Live) (b o j k : ℕ) → IsBlank m b o (j + k) → IsBlank m b o j
blank_front m b o j k blank = record {
  live = blank.live;
  within = let w = blank.within in omega arith;
  zeros = λ i from before. blank.zeros i from (omega arith);
}

pub blank_behind : (m n : Live) (b o j k : ℕ) (xs : List ℤ) → IsBlank m b o (j + k) → length xs ≡ j → n ≡ with_words_from m b o xs → IsBlank n b (o + j) k
blank_behind m n b o j k xs blank many is =
    let w : IsWritten m n b o (length xs) = subst (λ (p : Live). IsWritten m p b o (length xs)) (sym is) (written_from m b o xs) in
    record {
      live = w.live b blank.live;
      within = let e = w.long b in let l = blank.within in omega arith;
      zeros = λ i from before. w.same b i (λ e. inr (omega arith)) ∙ blank.zeros i (omega arith) (omega arith);
    }

pub written_on : (m n : Live) (b o j : ℕ) (xs ys : List ℤ) → length xs ≡ j → n ≡ with_words_from m b o xs → with_words_from n b (o + j) ys ≡ with_words_from m b o (xs ++ ys)
written_on m n b o j xs ys many is =
    ap (λ (p : Live). with_words_from p b (o + j) ys) is
    ∙ ap (λ i. with_words_from (with_words_from m b o xs) b (o + i) ys) (sym many)
    ∙ sym (from_append m b o xs ys)

pub written_long : (m n : Live) (b o : ℕ) (xs : List ℤ) → n ≡ with_words_from m b o xs → length (words_of n b) ≡ length (words_of m b)
written_long m n b o xs is = ap (λ (p : Live). length (words_of p b)) is ∙ (written_from m b o xs).long b
