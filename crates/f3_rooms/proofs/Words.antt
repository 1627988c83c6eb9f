-- Blocks with other words.
use Rattle.std.proofs.Common.{◌≡◌, ◌≢◌, inl, inr, ℕ, ◌+◌, ◌*◌, ◌<◌, ◌≤◌, ℤ, pos, List, [], ◌∷◌, length, get_or, refl, sym, ap, subst, ◌∙◌, arith}
use Rattle.std.proofs.lemmas.Bool.{cases_eq}
use Rattle.std.proofs.lemmas.List.{get_or-set_same, get_or-set_other, length-set}
use Rattle.std.specs.Prelude.{◌⊎◌, slice_set}
use Rattle.f3_live_blocks.specs.Blocks.{Live, IsLive, words_of}
use Rattle.f3_live_blocks.proofs.Laws.{words-insert_same, words-insert_other, live-insert}
use Rattle.f3_meaning_whole.specs.Value.{Span}
use Rattle.f3_rooms.specs.Values.{word}
use Rattle.f3_rooms.specs.Places.{with_word}
use Rattle.f3_rooms.specs.Sound.{TellBounds}
use Rattle.f3_rooms.specs.Laws.{with_bounds, with_holder}

module _ (m : Live) (block at : ℕ) (z : ℤ) where
  pub put_live : (b : ℕ) → IsLive m b → IsLive (with_word m block at z) b
  put_live b live = live-insert m block _ b live

  pub put_other : (b : ℕ) → b ≢ block → words_of (with_word m block at z) b ≡ words_of m b
  put_other b ne = words-insert_other m block _ b ne

  put_same : words_of (with_word m block at z) block ≡ slice_set (words_of m block) at z
  put_same = words-insert_same m block _

  pub put_long : (b : ℕ) → length (words_of (with_word m block at z) b) ≡ length (words_of m b)
  put_long b = elim (cases_eq b block) [
    | inl e ↦ subst (λ c. length (words_of (with_word m block at z) c) ≡ length (words_of m c)) (sym e) (ap length put_same ∙ length-set (words_of m block) at z)
    | inr ne ↦ ap length (put_other b ne)
  ]

  pub put_there : at < length (words_of m block) → word (with_word m block at z) block at ≡ z
  put_there within = ap (λ ws. get_or ws at (pos 0)) put_same ∙ get_or-set_same (words_of m block) at z (pos 0) within

  pub put_apart : (b i : ℕ) → (b ≡ block → i ≢ at) → word (with_word m block at z) b i ≡ word m b i
  put_apart b i apart = elim (cases_eq b block) [
    | inl e ↦ subst (λ c. word (with_word m block at z) c i ≡ word m c i) (sym e) (ap (λ ws. get_or ws i (pos 0)) put_same ∙ get_or-set_other (words_of m block) at i z (pos 0) (apart e))
    | inr ne ↦ ap (λ ws. get_or ws i (pos 0)) (put_other b ne)
  ]

-- words of one block are written, from one on so many
pub record IsWritten (m n : Live) (block o k : ℕ) : Type 0 where
  pub live : (b : ℕ) → IsLive m b → IsLive n b
  pub long : (b : ℕ) → length (words_of n b) ≡ length (words_of m b)
  pub same : (b i : ℕ) → (b ≡ block → (i < o) ⊎ (o + k ≤ i)) → word n b i ≡ word m b i

written_none : (m : Live) (block o : ℕ) → IsWritten m m block o 0
written_none m block o = record { live = λ b live. live; long = λ b. refl; same = λ b i aside. refl }

pub written_word : (m : Live) (block at : ℕ) (z : ℤ) → IsWritten m (with_word m block at z) block at 1
written_word m block at z = record {
  live = put_live m block at z;
  long = put_long m block at z;
  same = λ b i aside. put_apart m block at z b i (λ e is. elim (aside e) [ inl before ↦ omega arith | inr after ↦ omega arith ]);
}

written_then : (m n p : Live) (block o k l : ℕ) → IsWritten m n block o k → IsWritten n p block (o + k) l → IsWritten m p block o (k + l)
written_then m n p block o k l first next = record {
  live = λ b live. next.live b (first.live b live);
  long = λ b. next.long b ∙ first.long b;
  same = λ b i aside.
      next.same b i (λ e. elim (aside e) [ inl before ↦ inl (omega arith) | inr after ↦ inr (omega arith) ])
      ∙ first.same b i (λ e. elim (aside e) [ inl before ↦ inl before | inr after ↦ inr (omega arith) ]);
}

written_so : (m n : Live) (block o p k l : ℕ) → o ≡ p → k ≡ l → IsWritten m n block o k → IsWritten m n block p l
written_so m n block o p k l e g w = subst (λ j. IsWritten m n block j l) e (subst (IsWritten m n block o) g w)

-- ---- what allocatables hold

pub written_bounds : (m : Live) (block o : ℕ) (ss : List Span) → IsWritten m (with_bounds m block o ss) block o (2 * length ss)
written_bounds m block o [] = written_none m block o
written_bounds m block o (s ∷ ss) =
    let one : Live = with_word m block o s.lower in
    let two : Live = with_word one block (o + 1) (pos s.extent) in
    let at : o + 2 ≡ o + (1 + 1) = omega arith in
    let many : (1 + 1) + 2 * length ss ≡ 2 * length (s ∷ ss) = omega arith in
    let both : IsWritten m two block o (1 + 1) = written_then m one two block o 1 1 (written_word m block o s.lower) (written_word one block (o + 1) (pos s.extent)) in
    let rest : IsWritten two (with_bounds two block (o + 2) ss) block (o + (1 + 1)) (2 * length ss) = written_so two (with_bounds two block (o + 2) ss) block (o + 2) (o + (1 + 1)) (2 * length ss) (2 * length ss) at refl
    (written_bounds two block (o + 2) ss) in
    written_so m (with_bounds two block (o + 2) ss) block o o ((1 + 1) + 2 * length ss) (2 * length (s ∷ ss)) refl many
    (written_then m two (with_bounds two block (o + 2) ss) block o (1 + 1) (2 * length ss) both rest)

pub bounds_told : (m : Live) (block o : ℕ) (ss : List Span) → o + 2 * length ss ≤ length (words_of m block) → TellBounds (with_bounds m block o ss) block o ss
bounds_told m block o [] long = tt
bounds_told m block o (s ∷ ss) long =
    let one : Live = with_word m block o s.lower in
    let two : Live = with_word one block (o + 1) (pos s.extent) in
    let first : length (words_of one block) ≡ length (words_of m block) = put_long m block o s.lower block in
    let second : length (words_of two block) ≡ length (words_of one block) = put_long one block (o + 1) (pos s.extent) block in
    let rest = written_bounds two block (o + 2) ss in (
      rest.same block o (λ e. inl (omega arith)) ∙ put_apart one block (o + 1) (pos s.extent) block o (λ e is. omega arith) ∙ put_there m block o s.lower (omega arith),
      rest.same block (o + 1) (λ e. inl (omega arith)) ∙ put_there one block (o + 1) (pos s.extent) (omega arith),
      bounds_told two block (o + 2) ss (omega arith),
    )

module _ (m : Live) (block o c : ℕ) (ss : List Span) where
  pub written_holder : IsWritten m (with_holder m block o c ss) block o (1 + 2 * length ss)
  written_holder = written_then m (with_word m block o (pos c)) (with_holder m block o c ss) block o 1 (2 * length ss) (written_word m block o (pos c))
      (written_bounds (with_word m block o (pos c)) block (o + 1) ss)

  pub holder_names : o + (1 + 2 * length ss) ≤ length (words_of m block) → word (with_holder m block o c ss) block o ≡ pos c
  holder_names long = (written_bounds (with_word m block o (pos c)) block (o + 1) ss).same block o (λ e. inl (omega arith)) ∙ put_there m block o (pos c) (omega arith)

  pub holder_told : o + (1 + 2 * length ss) ≤ length (words_of m block) → TellBounds (with_holder m block o c ss) block (o + 1) ss
  holder_told long =
      let first : length (words_of (with_word m block o (pos c)) block) ≡ length (words_of m block) = put_long m block o (pos c) block in
      bounds_told (with_word m block o (pos c)) block (o + 1) ss (omega arith)
