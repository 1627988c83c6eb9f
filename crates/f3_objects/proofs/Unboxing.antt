-- Laws on an object that is taken out of its block.
use Rattle.std.proofs.Common.{◌≡◌, ◌≢◌, ℕ, ℤ, ◌+◌, ◌<◌, ◌≤◌, true, is_ok, List, [], ◌∷◌, length, take, drop, ap, sym, subst, ◌∙◌, refl, arith}
use Rattle.std.specs.Prelude.{Result, Ok, Err, OnOk, OnErr}
use Rattle.std.specs.FinMap.{get, remove}
use Rattle.f3_live_blocks.specs.Blocks.{Live, IsLive, words_of, with_words}
use Rattle.f3_heap_laws.specs.Account.{r, used_by}
use Rattle.f3_heap_laws.proofs.Answers.{used-removed}
use Rattle.f3_live_blocks.proofs.Laws.{get-insert_other, get-remove_same, get-remove_other}
use Rattle.f3_desc.specs.Shape.{Shape}
use Rattle.f3_objects.specs.Tree.{Tree, words, times}
use Rattle.f3_objects.specs.Holds.{with_words_at}
use Rattle.f3_objects.specs.Boxes.{Boxed, Unboxes}
use Rattle.f3_objects.proofs.Trees.{size-fits}
use Rattle.f3_objects.proofs.Changes.{same_live, same_words, held-same}
use Rattle.f3_objects.proofs.Spans.{length-written, written_there}
use Rattle.f3_objects.proofs.Writes.{words-with, live-with}
use Rattle.f3_objects.proofs.Used.{used-with_words}

-- the words of the whole block
pub whole_words : (xs : List ℤ) (n : ℕ) → n ≡ length xs → take n (drop 0 xs) ≡ xs
whole_words xs n e = ap (λ (k : ℕ). take k xs) e ∙ take_all xs
  where
    take_all : (l : List ℤ) → take (length l) l ≡ l
    take_all [] = refl
    take_all (x ∷ l) = ap (λ (k : List ℤ). x ∷ k) (take_all l)

-- what follows from Ok, and what follows from Err where there is Ok
pub ok_then : {T E : Type 0} (r : Result T E) (P Q : Type 0) → (P → Q) → OnOk r P → OnOk r Q
ok_then (Ok x) P Q f p = f p
ok_then (Err e) P Q f p = tt

pub never_err : {T E : Type 0} (r : Result T E) (P : Type 0) → is_ok r ≡ true → OnErr r P
never_err (Ok x) P e = tt
never_err (Err x) P e = cc

module _ (old : Live) (block to to_at : ℕ) (s : Shape) (t u : Tree) (b : Boxed old block to to_at s t u) where
  pub boxed_fits : to_at + length (words_of old block) ≤ length (words_of old to)
  boxed_fits =
      let size : length (words_of old block) ≡ length (words t) = ap length b.exact in
      let x = size-fits s t b.ready.source.fits in
      let y = size-fits s u b.ready.target.fits in
      let w = b.ready.target.stands.within in
      omega arith

module _ (old mid : Live) (block to to_at : ℕ) (s : Shape) (t u : Tree) (b : Boxed old block to to_at s t u) (is : mid ≡ with_words old to (with_words_at (words_of old to) to_at (words_of old block))) where
  size : length (words_of old block) ≡ length (words t)
  size = ap length b.exact

  fit : to_at + length (words_of old block) ≤ length (words_of old to)
  fit = boxed_fits old block to to_at s t u b

  apart : block ≢ to
  apart e = b.ready.apart (sym e)

  pub block_stays : get mid block ≡ get old block
  block_stays = ap (λ (m : Live). get m block) is ∙ get-insert_other old to _ block apart

  module _ (new : Live) (given : new ≡ remove mid block) where
    elsewhere : (q : ℕ) → q ≢ block → q ≢ to → get new q ≡ get old q
    elsewhere q ne far = ap (λ (m : Live). get m q) given ∙ (get-remove_other mid block q ne ∙ (ap (λ (m : Live). get m q) is ∙ get-insert_other old to _ q far))

    target_now : get new to ≡ get mid to
    target_now = ap (λ (m : Live). get m to) given ∙ get-remove_other mid block to b.ready.apart

    words_now : words_of new to ≡ with_words_at (words_of old to) to_at (words t)
    words_now = same_words mid new to target_now ∙ (ap (λ (m : Live). words_of m to) is ∙ (words-with old to _ ∙ ap (with_words_at (words_of old to) to_at) b.exact))

    live_now : IsLive new to
    live_now = let P : Live → Type 0 = λ m. IsLive m to in same_live mid new to target_now (subst P (sym is) (live-with old to _))

    not_here : (q n : ℕ) → 0 < times q t → times n t ≡ 0 → q ≢ n
    not_here q n p z e = let P : ℕ → Type 0 = λ x. 0 < times x t in let k : 0 < times n t = subst P e p in omega arith

    pub unboxes : Unboxes old new block to to_at s t
    unboxes =
        let f = fit in
        let z = size in
        let long : length (words_of new to) ≡ length (words_of old to) = ap length words_now ∙ length-written (words_of old to) to_at (words t) (omega arith) in
        record {
          is = given ∙ ap (λ (m : Live). remove m block) is;
          target = record {
            stands = record {
              live = live_now;
              within = omega arith;
              there = ap (λ (l : List ℤ). take (length (words t)) (drop to_at l)) words_now ∙ written_there (words_of old to) to_at (words t) (omega arith);
              held = held-same old new t (λ q p. elsewhere q (not_here q block p b.ready.source.stands.apart) (not_here q to p b.ready.beneath)) b.ready.source.stands.held;
              once = b.ready.source.stands.once;
              apart = b.ready.beneath;
            };
            fits = b.ready.source.fits;
          };
          gone = ap (λ (m : Live). get m block) given ∙ get-remove_same mid block;
        }

    pub used_unboxed : used_by new + r (length (words_of old block)) ≡ used_by old
    used_unboxed =
        let live : IsLive mid block = same_live old mid block block_stays b.ready.source.stands.live in
        let less = used-removed mid block live in
        let same : used_by mid ≡ used_by old = ap used_by is ∙ used-with_words old to _ b.ready.target.stands.live (length-written (words_of old to) to_at (words_of old block) fit) in
        let len : r (length (words_of mid block)) ≡ r (length (words_of old block)) = ap (λ (l : List ℤ). r (length l)) (same_words old mid block block_stays) in
        let now : used_by new ≡ used_by (remove mid block) = ap used_by given in
        omega arith
