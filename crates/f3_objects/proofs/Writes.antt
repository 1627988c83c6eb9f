-- Laws on words written into one block.
use Rattle.std.proofs.Common.{suc, ◌≡◌, ℕ, ℤ, ◌+◌, ◌<◌, ◌≤◌, inl, inr, List, [], ◌∷◌, ◌++◌, length, take, drop, set, refl, ap, sym, subst, ◌∙◌, arith, is_some, IsTrue}
use Rattle.std.specs.Prelude.{Option, None, Some}
use Rattle.std.specs.FinMap.{get, same_map, nat_cmp-IsAntisymmetric}
use Rattle.std.specs.Cmp.{nat_cmp_total}
use Rattle.std.proofs.lemmas.Bool.{cases_eq}
use Rattle.std.proofs.lemmas.List.{set_split}
use Rattle.f3_live_blocks.specs.Blocks.{Block, Live, IsLive, words_in, pins_in, words_of, pins_of, with_words}
use Rattle.f3_live_blocks.proofs.Laws.{get-insert_same, get-insert_other, live-insert_same, words-insert_same, pins-insert_same}
use Rattle.f3_objects.specs.Holds.{with_words_at}
use Rattle.f3_objects.proofs.Spans.{length-written, written_behind, written_same}

same_block : (o : Option Block) → IsTrue (is_some o) → Some (record { words = words_in o; pins = pins_in o }) ≡ o
same_block None h = cc
same_block (Some b) h = refl

-- the same words again change nothing
pub with_words_same : (m : Live) (b : ℕ) → IsLive m b → with_words m b (words_of m b) ≡ m
with_words_same m b h = same_map nat_cmp_total nat_cmp-IsAntisymmetric (with_words m b (words_of m b)) m (λ q. elim (cases_eq q b) [
  | inl e ↦ let P : ℕ → Type 0 = λ x. get (with_words m b (words_of m b)) x ≡ get m x in subst P (sym e) (get-insert_same m b _ ∙ same_block (get m b) h)
  | inr n ↦ get-insert_other m b _ q n
])

-- the later words stay
pub with_words_again : (m : Live) (b : ℕ) (xs ys : List ℤ) → with_words (with_words m b xs) b ys ≡ with_words m b ys
with_words_again m b xs ys = same_map nat_cmp_total nat_cmp-IsAntisymmetric (with_words (with_words m b xs) b ys) (with_words m b ys) (λ q. elim (cases_eq q b) [
  | inl e ↦
      let P : ℕ → Type 0 = λ x. get (with_words (with_words m b xs) b ys) x ≡ get (with_words m b ys) x in
      let same : pins_of (with_words m b xs) b ≡ pins_of m b = pins-insert_same m b (record { words = xs; pins = pins_of m b }) in
      let f : ℕ → Option Block = λ n. Some (record { words = ys; pins = n }) in
      subst P (sym e) (get-insert_same (with_words m b xs) b (record { words = ys; pins = pins_of (with_words m b xs) b }) ∙ (ap f same ∙ sym (get-insert_same m b (record { words = ys; pins = pins_of m b }))))
  | inr n ↦ get-insert_other (with_words m b xs) b _ q n ∙ (get-insert_other m b _ q n ∙ sym (get-insert_other m b _ q n))
])

pub words-with : (m : Live) (b : ℕ) (xs : List ℤ) → words_of (with_words m b xs) b ≡ xs
words-with m b xs = words-insert_same m b (record { words = xs; pins = pins_of m b })

pub live-with : (m : Live) (b : ℕ) (xs : List ℤ) → IsLive (with_words m b xs) b
live-with m b xs = live-insert_same m b (record { words = xs; pins = pins_of m b })

-- one word more behind those that were written
pub set_written : (ws : List ℤ) (at i : ℕ) (ys : List ℤ) (y : ℤ) → length ys ≡ i → at + i < length ws → set (with_words_at ws at ys) (at + i) y ≡ with_words_at ws at (ys ++ y ∷ [])
set_written ws at i ys y e l =
    let len : length (with_words_at ws at ys) ≡ length ws = length-written ws at ys (omega arith) in
    let one : at + i + 1 ≡ suc (at + i) = omega arith in
    let a : set (with_words_at ws at ys) (at + i) y ≡ take (at + i) (with_words_at ws at ys) ++ y ∷ drop (suc (at + i)) (with_words_at ws at ys) = set_split (with_words_at ws at ys) (at + i) y (omega arith) in
    let b : take (at + i) (with_words_at ws at ys) ++ y ∷ drop (suc (at + i)) (with_words_at ws at ys) ≡ with_words_at (with_words_at ws at ys) (at + i) (y ∷ []) = ap (λ (n : ℕ). take (at + i) (with_words_at ws at ys) ++ y ∷ drop n (with_words_at ws at ys)) (sym one) in
    let c : with_words_at (with_words_at ws at ys) (at + i) (y ∷ []) ≡ with_words_at (with_words_at ws at ys) (at + length ys) (y ∷ []) = ap (λ (n : ℕ). with_words_at (with_words_at ws at ys) (at + n) (y ∷ [])) (sym e) in
    a ∙ (b ∙ (c ∙ written_behind ws at ys (y ∷ []) (omega arith)))

-- words so far written, and one more
pub record Wrote (old now : Live) (b at : ℕ) (ys : List ℤ) : Type 0 where
  pub is : now ≡ with_words old b (with_words_at (words_of old b) at ys)

pub wrote_none : (m : Live) (b at : ℕ) → IsLive m b → Wrote m m b at []
wrote_none m b at h = record { is = sym (ap (with_words m b) (written_same (words_of m b) at [] refl) ∙ with_words_same m b h) }

pub wrote_words : (old now : Live) (b at : ℕ) (ys : List ℤ) → Wrote old now b at ys → words_of now b ≡ with_words_at (words_of old b) at ys
wrote_words old now b at ys w = ap (λ (m : Live). words_of m b) w.is ∙ words-with old b _

pub wrote_live : (old now : Live) (b at : ℕ) (ys : List ℤ) → Wrote old now b at ys → IsLive now b
wrote_live old now b at ys w = let P : Live → Type 0 = λ m. IsLive m b in subst P (sym w.is) (live-with old b _)

pub wrote_length : (old now : Live) (b at : ℕ) (ys : List ℤ) → at + length ys ≤ length (words_of old b) → Wrote old now b at ys → length (words_of now b) ≡ length (words_of old b)
wrote_length old now b at ys l w = ap length (wrote_words old now b at ys w) ∙ length-written (words_of old b) at ys l

pub wrote_more : (old mid new : Live) (b at i : ℕ) (ys : List ℤ) (y : ℤ) → Wrote old mid b at ys → length ys ≡ i → at + i < length (words_of old b) → new ≡ with_words mid b (set (words_of mid b) (at + i) y) → Wrote old new b at (ys ++ y ∷ [])
wrote_more old mid new b at i ys y w e l n =
    let words = wrote_words old mid b at ys w in
    let a : with_words mid b (set (words_of mid b) (at + i) y) ≡ with_words mid b (with_words_at (words_of old b) at (ys ++ y ∷ [])) = ap (λ (x : List ℤ). with_words mid b (set x (at + i) y)) words ∙ ap (with_words mid b) (set_written (words_of old b) at i ys y e l) in
    let c : with_words mid b (with_words_at (words_of old b) at (ys ++ y ∷ [])) ≡ with_words old b (with_words_at (words_of old b) at (ys ++ y ∷ [])) = ap (λ (m : Live). with_words m b (with_words_at (words_of old b) at (ys ++ y ∷ []))) w.is ∙ with_words_again old b _ _ in
    record { is = n ∙ (a ∙ c) }
