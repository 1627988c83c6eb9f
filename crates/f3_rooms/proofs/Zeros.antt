-- Words of 0: nothing is held, and all such objects are alike.
use Rattle.std.proofs.Common.{◌≡◌, ℕ, zero, suc, ◌+◌, ◌*◌, pos, List, [], ◌∷◌, refl, sym, ap, ◌∙◌, arith}
use Rattle.std.proofs.Math.Nat.{suc-mul}
use Rattle.std.specs.Prelude.{slice_index_or}
use Rattle.std.specs.Ordering.{nat_cmp}
use Rattle.std.specs.FinMap.{empty, get-empty}
use Rattle.f3_program.specs.declared.declarations.Declared.{Declared}
use Rattle.f3_live_blocks.specs.Blocks.{Live, words_in}
use Rattle.f3_meaning_whole.specs.Value.{Span, Value, Number, Truth, Composite, Array, more, joined, count}
use Rattle.f3_meaning_whole.specs.Shape.{Shape, Whole, Logical, Record, Parts, nothing, and, shape_in}
use Rattle.f3_rooms.specs.Held.{Held, Empty, end}
use Rattle.f3_rooms.specs.Forms.{Form, Laid, Allocatable, form_of, form_words, laid_words, words_for, words_for_parts, room, total}
use Rattle.f3_rooms.specs.Values.{word, is_set, elements, laid, formed, object, components, variable, variables}
use Rattle.f3_rooms.specs.Sound.{Fact, Each, AreLaid, IsForm, IsObject, AreComponents, AreVariables}
use Rattle.f3_rooms.specs.Laws.{AreZeros, ZerosAreBlank}

more_words : (k n : ℕ) → suc k * n ≡ n + k * n
more_words k n = let e : suc k * n ≡ k * n + n = suc-mul k n in omega arith

-- the words in front of zeros, and those behind
zeros_front : (m : Live) (b o k j : ℕ) → AreZeros m b o (k + j) → AreZeros m b o k
zeros_front m b o k j z i from before = z i from (omega arith)

zeros_behind : (m : Live) (b o k j : ℕ) → AreZeros m b o (k + j) → AreZeros m b (o + k) j
zeros_behind m b o k j z i from before = z i (omega arith) (omega arith)

zeros_many : (m : Live) (b o k n : ℕ) → AreZeros m b o (suc k * n) → AreZeros m b o (n + k * n)
zeros_many m b o k n z i from before = let e : suc k * n ≡ n + k * n = more_words k n in z i from (omega arith)

zero_here : (m : Live) (b o k : ℕ) → AreZeros m b o (suc k) → word m b o ≡ pos 0
zero_here m b o k z = z o (omega arith) (omega arith)

-- where no block is live, each word is 0
pub blank_word : (b o : ℕ) → word empty b o ≡ pos 0
blank_word b o = ap (λ k. slice_index_or (words_in k) o (pos 0)) (get-empty nat_cmp b)

-- ---- values

module _ (m : Live) (n : ℕ) (f g : ℕ → ℕ → Held → Value) (alike : (b o p : ℕ) → AreZeros m b o n → f b o Empty ≡ g 0 p Empty) where
  elements_alike : (k b o p : ℕ) → AreZeros m b o (k * n) → elements k n f b o end ≡ elements k n g 0 p end
  elements_alike zero b o p z = refl
  elements_alike (suc k) b o p z =
      let y : AreZeros m b o (n + k * n) = zeros_many m b o k n z in
      ap (λ v. v ∷ elements k n f b (o + n) end) (alike b o p (zeros_front m b o n (k * n) y))
      ∙ ap (λ vs. g 0 p Empty ∷ vs) (elements_alike k b (o + n) (p + n) (zeros_behind m b o n (k * n) y))

  pub laid_alike : (rank : ℕ) (ss : List Span) (b o p : ℕ) → AreZeros m b o (laid_words rank ss n) → laid rank ss n f b o Empty ≡ laid rank ss n g 0 p Empty
  laid_alike zero ss b o p z = alike b o p z
  laid_alike (suc rank) ss b o p z = ap (λ vs. Array ss (joined vs)) (elements_alike (count ss) b o p z)

  formed_alike : (form : Form) (b o p : ℕ) → AreZeros m b o (form_words form n) → formed form n f b o Empty ≡ formed form n g 0 p Empty
  formed_alike (Laid rank ss) b o p z = laid_alike rank ss b o p z
  formed_alike (Allocatable rank) b o p z = refl

mutual
  pub object_alike : (m : Live) (s : Shape) (b o p : ℕ) → AreZeros m b o (words_for s) → object m s b o Empty ≡ object empty s 0 p Empty
  object_alike m Whole b o p z = ap Number (zero_here m b o 0 z ∙ sym (blank_word 0 p))
  object_alike m Logical b o p z = ap (λ w. Truth (is_set w)) (zero_here m b o 0 z ∙ sym (blank_word 0 p))
  object_alike m (Record t parts) b o p z = ap Composite (components_alike m parts b o p z)

  components_alike : (m : Live) (parts : Parts) (b o p : ℕ) → AreZeros m b o (words_for_parts parts) → components m parts b o end ≡ components empty parts 0 p end
  components_alike m nothing b o p z = refl
  components_alike m (and c s rest) b o p z =
      let k : ℕ = form_words (form_of c.declared) (words_for s) in
      let j : ℕ = words_for_parts rest in
      ap (λ v. more v (components m rest b (o + k) end))
      (formed_alike m (words_for s) (object m s) (object empty s) (object_alike m s) (form_of c.declared) b o p (zeros_front m b o k j z))
      ∙ ap (λ vs. more (formed (form_of c.declared) (words_for s) (object empty s) 0 p Empty) vs) (components_alike m rest b (o + k) (p + k) (zeros_behind m b o k j z))

variables_alike : (ts : List Shape) (m : Live) (ds : List Declared) (b o p : ℕ) → AreZeros m b o (total ts ds) → variables ts m ds b o end ≡ variables ts empty ds 0 p end
variables_alike ts m [] b o p z = refl
variables_alike ts m (d ∷ ds) b o p z =
    let s : Shape = shape_in ts d.kind.of in
    ap (λ v. v ∷ variables ts m ds b (o + room ts d) end)
    (formed_alike m (words_for s) (object m s) (object empty s) (object_alike m s) (form_of d) b o p (zeros_front m b o (room ts d) (total ts ds) z))
    ∙ ap (λ vs. variable ts empty d 0 p Empty ∷ vs) (variables_alike ts m ds b (o + room ts d) (p + room ts d) (zeros_behind m b o (room ts d) (total ts ds) z))

-- ---- soundness

module _ (m : Live) (n : ℕ) (P : Fact) (holds : (b o : ℕ) → AreZeros m b o n → P b o Empty) where
  each_bare : (k b o : ℕ) → AreZeros m b o (k * n) → Each k n P b o end
  each_bare zero b o z = refl
  each_bare (suc k) b o z =
      let y : AreZeros m b o (n + k * n) = zeros_many m b o k n z in
      (holds b o (zeros_front m b o n (k * n) y), each_bare k b (o + n) (zeros_behind m b o n (k * n) y))

  pub laid_bare : (rank : ℕ) (ss : List Span) (b o : ℕ) → AreZeros m b o (laid_words rank ss n) → AreLaid rank ss n P b o Empty
  laid_bare zero ss b o z = holds b o z
  laid_bare (suc rank) ss b o z = (tt, each_bare (count ss) b o z)

  form_bare : (form : Form) (b o : ℕ) → AreZeros m b o (form_words form n) → IsForm m form n P b o Empty
  form_bare (Laid rank ss) b o z = laid_bare rank ss b o z
  form_bare (Allocatable rank) b o z = z o (omega arith) (omega arith)

mutual
  pub object_bare : (m : Live) (s : Shape) (b o : ℕ) → AreZeros m b o (words_for s) → IsObject m s b o Empty
  object_bare m Whole b o z = refl
  object_bare m Logical b o z = refl
  object_bare m (Record t parts) b o z = (tt, components_bare m parts b o z)

  components_bare : (m : Live) (parts : Parts) (b o : ℕ) → AreZeros m b o (words_for_parts parts) → AreComponents m parts b o end
  components_bare m nothing b o z = refl
  components_bare m (and c s rest) b o z =
      let k : ℕ = form_words (form_of c.declared) (words_for s) in
      let j : ℕ = words_for_parts rest in (
        form_bare m (words_for s) (IsObject m s) (object_bare m s) (form_of c.declared) b o (zeros_front m b o k j z),
        components_bare m rest b (o + k) (zeros_behind m b o k j z),
      )

variables_bare : (ts : List Shape) (m : Live) (ds : List Declared) (b o : ℕ) → AreZeros m b o (total ts ds) → AreVariables ts m ds b o end
variables_bare ts m [] b o z = refl
variables_bare ts m (d ∷ ds) b o z =
    let s : Shape = shape_in ts d.kind.of in (
      form_bare m (words_for s) (IsObject m s) (object_bare m s) (form_of d) b o (zeros_front m b o (room ts d) (total ts ds) z),
      variables_bare ts m ds b (o + room ts d) (zeros_behind m b o (room ts d) (total ts ds) z),
    )

pub zeros_are_blank : ZerosAreBlank
zeros_are_blank ts m ds b o z = (variables_alike ts m ds b o 0 z, variables_bare ts m ds b o z)
