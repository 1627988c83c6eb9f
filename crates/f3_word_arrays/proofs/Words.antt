-- Words that were written, and objects of such words.
use Rattle.std.proofs.Common.{◌≡◌, ◌∙◌, sym, ap, refl, inr, Bool, true, false, ℕ, zero, suc, ◌+◌, ◌-◌, ◌*◌, ◌^◌, ◌<◌, ◌≤◌, List, [], ◌∷◌, ◌++◌, length, take, drop, set, get_or, min, arith}
use Rattle.std.specs.Prelude.{ℤ, pos}
use Rattle.std.proofs.lemmas.List.{length-replicate, length-take-le, get_or_append_left, get_or-append-add}
use Rattle.f3_live_blocks.specs.Blocks.{Live, words_of, with_taken}
use Rattle.f3_live_blocks.proofs.Laws.{words-insert_same}
use Rattle.f3_meaning_whole.specs.Value.{Value, Number, Truth, Composite, Array, more, joined, count}
use Rattle.f3_meaning_whole.specs.Shape.{Shape, Whole, Logical, Record, Parts, nothing, and}
use Rattle.f3_objects.specs.Holds.{with_words_at}
use Rattle.f3_objects.proofs.Spans.{read_outside, written_same}
use Rattle.f3_objects.proofs.Writes.{set_written}
use Rattle.f3_rooms.specs.Held.{Empty, end}
use Rattle.f3_rooms.specs.Forms.{Form, Laid, Allocatable, form_of, form_words, words_for, words_for_parts}
use Rattle.f3_rooms.specs.Values.{word, is_set, elements, formed, object, components}
use Rattle.f3_rooms.proofs.Framing.{Reading}
use Rattle.f3_room_levels.specs.Initial.{truth_word}

-- ---- words that were taken

pub taken-long : (m : Live) (b n : ℕ) → length (words_of (with_taken m b n) b) ≡ n
taken-long m b n = ap length (words-insert_same m b _) ∙ length-replicate n (pos 0)

-- what is below 2 ^ 63 is no limit of 64 bits
pub least-is : (n k : ℕ) → k ≡ min n (2 ^ 64 - 1) → k < 2 ^ 63 → k ≡ n
least-is n k e short = omega arith

-- ---- words that were written

pub one-word : (us : List ℤ) (at : ℕ) (z : ℤ) → at < length us → set us at z ≡ with_words_at us at (z ∷ [])
one-word us at z lt =
    let none : at + 0 ≡ at = omega arith in
    let same : with_words_at us at [] ≡ us = written_same us at [] refl in
    ap (λ (k : ℕ). set us k z) (sym none) ∙ ap (λ xs. set xs (at + 0) z) (sym same) ∙ set_written us at 0 [] z refl (omega arith)

-- a word of what was written
pub written-word : (xs : List ℤ) (at j : ℕ) (ys : List ℤ) → at ≤ length xs → j < length ys → get_or (with_words_at xs at ys) (at + j) (pos 0) ≡ get_or ys j (pos 0)
written-word xs at j ys le lt =
    let long : length (take at xs) ≡ at = length-take-le at xs le in
    let there : at + j ≡ length (take at xs) + j = omega arith in
    ap (λ (k : ℕ). get_or (with_words_at xs at ys) k (pos 0)) there
    ∙ get_or-append-add (take at xs) (ys ++ drop (at + length ys) xs) j (pos 0) ∙ get_or_append_left ys (drop (at + length ys) xs) (pos 0) j lt

-- a word behind it
pub word-behind : (xs : List ℤ) (at i : ℕ) (ys : List ℤ) → at + length ys ≤ length xs → at + length ys ≤ i → get_or (with_words_at xs at ys) i (pos 0) ≡ get_or xs i (pos 0)
word-behind xs at i ys le past = read_outside xs at i ys (pos 0) (omega arith) (inr (omega arith))

-- ---- objects of which nothing is allocated are their words, wherever these stand

module _ (m n : Live) where
  -- so many words of a block from one on are those of another
  abbrev pub Alike : ℕ → ℕ → ℕ → ℕ → ℕ → Type 0
  Alike k b o c i = (j : ℕ) → j < k → word n c (i + j) ≡ word m b (o + j)

  front : (k l b o c i : ℕ) → k ≤ l → Alike l b o c i → Alike k b o c i
  front k l b o c i le same j lt = same j (omega arith)

  behind : (k l r b o c i : ℕ) → l ≡ k + r → Alike l b o c i → Alike r b (o + k) c (i + k)
  behind k l r b o c i e same j lt =
      let there : i + k + j ≡ i + (k + j) = omega arith in
      let here : o + (k + j) ≡ o + k + j = omega arith in
      ap (word n c) there ∙ same (k + j) (omega arith) ∙ ap (word m b) here

  abbrev Tell : ℕ → Reading → Reading → Type 0
  Tell k f g = (b o c i : ℕ) → Alike k b o c i → g c i Empty ≡ f b o Empty

  pub elements-tell : (k w : ℕ) (f g : Reading) → Tell w f g → (b o c i : ℕ) → Alike (k * w) b o c i → elements k w g c i end ≡ elements k w f b o end
  elements-tell zero w f g tell b o c i same = refl
  elements-tell (suc k) w f g tell b o c i same =
      ap (λ v. v ∷ elements k w g c (i + w) end) (tell b o c i (front w (suc k * w) b o c i (omega arith) same))
      ∙ ap (λ vs. f b o Empty ∷ vs) (elements-tell k w f g tell b (o + w) c (i + w) (behind w (suc k * w) (k * w) b o c i (omega arith) same))

  form-tells : (form : Form) (w : ℕ) (f g : Reading) → Tell w f g → Tell (form_words form w) (formed form w f) (formed form w g)
  form-tells (Laid zero ss) w f g tell b o c i same = tell b o c i same
  form-tells (Laid (suc rank) ss) w f g tell b o c i same = ap (λ vs. Array ss (joined vs)) (elements-tell (count ss) w f g tell b o c i same)
  form-tells (Allocatable rank) w f g tell b o c i same = refl

  mutual
    pub object-tells : (s : Shape) → Tell (words_for s) (object m s) (object n s)
    object-tells Whole b o c i same =
        let there : i ≡ i + 0 = omega arith in
        let here : o + 0 ≡ o = omega arith in
        ap Number (ap (word n c) there ∙ same 0 (omega arith) ∙ ap (word m b) here)
    object-tells Logical b o c i same =
        let there : i ≡ i + 0 = omega arith in
        let here : o + 0 ≡ o = omega arith in
        ap (λ z. Truth (is_set z)) (ap (word n c) there ∙ same 0 (omega arith) ∙ ap (word m b) here)
    object-tells (Record t parts) b o c i same = ap Composite (components-tell parts b o c i same)

    components-tell : (parts : Parts) (b o c i : ℕ) → Alike (words_for_parts parts) b o c i → components n parts c i end ≡ components m parts b o end
    components-tell nothing b o c i same = refl
    components-tell (and d s rest) b o c i same =
        let k : ℕ = form_words (form_of d.declared) (words_for s) in
        ap (λ v. more v (components n rest c (i + k) end))
        (form-tells (form_of d.declared) (words_for s) (object m s) (object n s) (object-tells s) b o c i (front k (k + words_for_parts rest) b o c i (omega arith) same))
        ∙ ap (more (formed (form_of d.declared) (words_for s) (object m s) b o Empty))
        (components-tell rest b (o + k) c (i + k) (behind k (k + words_for_parts rest) (words_for_parts rest) b o c i refl same))

-- ---- words that are a value

-- an object with these words is this value
abbrev pub Shows : Shape → List ℤ → Value → Type 0
Shows s ws v = (n : Live) (b at : ℕ) → ((j : ℕ) → j < words_for s → word n b (at + j) ≡ get_or ws j (pos 0)) → object n s b at Empty ≡ v

pub shows-number : (z : ℤ) → Shows Whole (z ∷ []) (Number z)
shows-number z n b at same = let e : at ≡ at + 0 = omega arith in ap (λ k. Number (word n b k)) e ∙ ap Number (same 0 (omega arith))

truth-set : (t : Bool) → is_set (truth_word t) ≡ t
truth-set true = refl
truth-set false = refl

pub shows-truth : (t : Bool) → Shows Logical (truth_word t ∷ []) (Truth t)
shows-truth t n b at same =
    let e : at ≡ at + 0 = omega arith in ap (λ k. Truth (is_set (word n b k))) e ∙ ap (λ z. Truth (is_set z)) (same 0 (omega arith)) ∙ ap Truth (truth-set t)

pub shows-block : (m : Live) (s : Shape) (from : ℕ) → Shows s (words_of m from) (object m s from 0 Empty)
shows-block m s from n b at same = object-tells m n s from 0 b at (λ j lt. same j lt ∙ (let e : j ≡ 0 + j = omega arith in ap (word m from) e))
