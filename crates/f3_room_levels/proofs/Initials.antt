-- What variables are that begin with the words of their initial values.
use Rattle.std.proofs.Common.{◌≡◌, ℕ, zero, suc, ◌+◌, ◌*◌, ◌≤◌, pos, Bool, true, false, ℤ, List, [], ◌∷◌, ◌++◌, length, map, replicate, refl, sym, ap, subst, ◌∙◌, arith}
use Rattle.std.proofs.lemmas.List.{length-take}
use Rattle.std.specs.Prelude.{if◌then◌else◌}
use Rattle.f3_program.specs.declared.declarations.Constant.{Constant}
use Rattle.f3_program.specs.declared.declarations.Constant.TheVariants as constant
use Rattle.f3_program.specs.declared.declarations.Declared.{Declared}
use Rattle.f3_live_blocks.specs.Blocks.{Live, IsLive, words_of}
use Rattle.f3_meaning_whole.specs.Arithmetic.{constant_value}
use Rattle.f3_meaning_whole.specs.Value.{Span, Value, Number, Truth, Composite, Array, Unallocated, more, joined, count}
use Rattle.f3_meaning_whole.specs.Shape.{Shape, Whole, Logical, Record, Parts, nothing, and, shape_in, spans_declared, arranged, initial_declared, initial_of, initial_parts}
use Rattle.f3_rooms.specs.Held.{Held, Empty, end}
use Rattle.f3_rooms.specs.Forms.{Laid, Allocatable, form_of, form_words, words_for, room, total}
use Rattle.f3_rooms.specs.Values.{word, is_set, elements, laid, formed, object, components, variables}
use Rattle.f3_rooms.specs.Rooms.{room_values}
use Rattle.f3_rooms.specs.Sound.{Fact, Each, AreLaid, IsForm, IsObject, AreComponents, AreVariables, IsRoom}
use Rattle.f3_room_objects.specs.Trees.{words_from}
use Rattle.f3_room_objects.proofs.Windows.{WordsAre, are_front, are_back, window, from_are}
use Rattle.f3_room_levels.specs.Initial.{truth_word, word_of, repeated, arranged_words, declared_words, object_words, parts_words, variable_words, initial_words, initial_values}
use Rattle.f3_room_levels.specs.Initial.{IsOf, AreOf, AreEnough, CanBegin, TypeCanBegin, PartsCanBegin, AllCanBegin}
use Rattle.f3_room_levels.specs.Levels.{begun}
use Rattle.f3_room_levels.specs.Laws.{InitialWordsAreEnough, InitialWordsAreInitial}
use Rattle.f3_room_levels.proofs.Widths.{one_word, object_many, declared_many, variable_many, initial_many}

-- words behind others, of which there are so many
behind : (m : Live) (b o n : ℕ) (xs ys : List ℤ) → length xs ≡ n → WordsAre m b o (xs ++ ys) → WordsAre m b (o + n) ys
behind m b o n xs ys e are = subst (λ k. WordsAre m b (o + k) ys) e (are_back m b o xs ys are)

-- ---- scalars

truth_set : (b : Bool) → is_set (truth_word b) ≡ b
truth_set true = refl
truth_set false = refl

scalar_begun : (m : Live) (s : Shape) (c : Constant) → IsOf s c → (b o : ℕ) → word m b o ≡ word_of c → object m s b o Empty ≡ constant_value c
scalar_begun m Whole (constant.Number z) is b o e = ap Number e
scalar_begun m Whole (constant.Truth t) is b o e = absurd is
scalar_begun m Logical (constant.Number z) is b o e = absurd is
scalar_begun m Logical (constant.Truth t) is b o e = ap (λ w. Truth (is_set w)) e ∙ ap Truth (truth_set t)
scalar_begun m (Record t parts) c is b o e = absurd is

scalar_sound : (m : Live) (s : Shape) (c : Constant) → IsOf s c → (b o : ℕ) → IsObject m s b o Empty
scalar_sound m Whole c is b o = refl
scalar_sound m Logical c is b o = refl
scalar_sound m (Record t parts) c is b o = absurd is

-- ---- objects one behind another

module _ (m : Live) (s : Shape) where
  abbrev f : ℕ → ℕ → Held → Value
  f = object m s

  abbrev n : ℕ
  n = words_for s

  abbrev P : Fact
  P = IsObject m s

  each_scalar : (c : Constant) → IsOf s c → (k b o : ℕ) → Each k n P b o end
  each_scalar c is zero b o = refl
  each_scalar c is (suc k) b o = (scalar_sound m s c is b o, each_scalar c is k b (o + n))

  copies_begun : (c : Constant) → IsOf s c → (k b o : ℕ) → WordsAre m b o (replicate k (word_of c)) → elements k n f b o end ≡ replicate k (constant_value c)
  copies_begun c is zero b o are = refl
  copies_begun c is (suc k) b o are =
      let e : o + 1 ≡ o + n = ap (λ i. o + i) (sym (one_word s c is)) in
      ap (λ v. v ∷ elements k n f b (o + n) end) (scalar_begun m s c is b o are.0)
      ∙ ap (λ vs. constant_value c ∷ vs) (copies_begun c is k b (o + n) (subst (λ i. WordsAre m b i (replicate k (word_of c))) e are.1))

  constants_begun : (cs : List Constant) → AreOf s cs → (k b o : ℕ) → length cs ≡ k → WordsAre m b o (map word_of cs) → elements k n f b o end ≡ map constant_value cs
  constants_begun [] of zero b o many are = refl
  constants_begun [] of (suc k) b o many are = absurd (omega arith)
  constants_begun (c ∷ cs) of zero b o many are = absurd (omega arith)
  constants_begun (c ∷ cs) of (suc k) b o many are =
      let e : o + 1 ≡ o + n = ap (λ i. o + i) (sym (one_word s c of.0)) in
      ap (λ v. v ∷ elements k n f b (o + n) end) (scalar_begun m s c of.0 b o are.0)
      ∙ ap (λ vs. constant_value c ∷ vs) (constants_begun cs of.1 k b (o + n) (omega arith) (subst (λ i. WordsAre m b i (map word_of cs)) e are.1))

  module _ (ws : List ℤ) (v : Value) (many : length ws ≡ n) (is : (b o : ℕ) → WordsAre m b o ws → f b o Empty ≡ v) (sound : (b o : ℕ) → WordsAre m b o ws → P b o Empty) where
    elements_begun : (k b o : ℕ) → WordsAre m b o (repeated k ws) → elements k n f b o end ≡ replicate k v
    elements_begun zero b o are = refl
    elements_begun (suc k) b o are =
        ap (λ u. u ∷ elements k n f b (o + n) end) (is b o (are_front m b o ws (repeated k ws) are))
        ∙ ap (λ us. v ∷ us) (elements_begun k b (o + n) (behind m b o n ws (repeated k ws) many are))

    each_begun : (k b o : ℕ) → WordsAre m b o (repeated k ws) → Each k n P b o end
    each_begun zero b o are = refl
    each_begun (suc k) b o are = (sound b o (are_front m b o ws (repeated k ws) are), each_begun k b (o + n) (behind m b o n ws (repeated k ws) many are))

    laid_begun : (rank : ℕ) (ss : List Span) (cs : List Constant) → AreOf s cs → AreEnough rank (count ss) cs → (b o : ℕ) → WordsAre m b o (arranged_words rank ss cs ws)
        → laid rank ss n f b o Empty ≡ arranged rank ss cs v
    laid_begun zero ss [] of enough b o are = is b o are
    laid_begun zero ss (c ∷ []) of enough b o are = scalar_begun m s c of.0 b o are.0
    laid_begun zero ss (c ∷ d ∷ cs) of enough b o are = absurd enough
    laid_begun (suc rank) ss [] of enough b o are = ap (λ vs. Array ss (joined vs)) (elements_begun (count ss) b o are)
    laid_begun (suc rank) ss (c ∷ []) of enough b o are = ap (λ vs. Array ss (joined vs)) (copies_begun c of.0 (count ss) b o are)
    laid_begun (suc rank) ss (c ∷ d ∷ cs) of enough b o are = ap (λ vs. Array ss (joined vs)) (constants_begun (c ∷ d ∷ cs) of (count ss) b o enough are)

    laid_sound : (rank : ℕ) (ss : List Span) (cs : List Constant) → AreOf s cs → AreEnough rank (count ss) cs → (b o : ℕ) → WordsAre m b o (arranged_words rank ss cs ws)
        → AreLaid rank ss n P b o Empty
    laid_sound zero ss [] of enough b o are = sound b o are
    laid_sound zero ss (c ∷ []) of enough b o are = scalar_sound m s c of.0 b o
    laid_sound zero ss (c ∷ d ∷ cs) of enough b o are = absurd enough
    laid_sound (suc rank) ss [] of enough b o are = (tt, each_begun (count ss) b o are)
    laid_sound (suc rank) ss (c ∷ []) of enough b o are = (tt, each_scalar c of.0 (count ss) b o)
    laid_sound (suc rank) ss (c ∷ d ∷ cs) of enough b o are = (tt, each_scalar c of.0 (count ss) b o)

    formed_by : (t : Bool) (rank : ℕ) (ss : List Span) (cs : List Constant) → AreOf s cs → AreEnough rank (count ss) cs → (b o : ℕ)
        → WordsAre m b o (if t then replicate (1 + 2 * rank) (pos 0) else arranged_words rank ss cs ws)
        → formed (if t then Allocatable rank else Laid rank ss) n f b o Empty ≡ (if t then Unallocated else arranged rank ss cs v)
    formed_by true rank ss cs of enough b o are = refl
    formed_by false rank ss cs of enough b o are = laid_begun rank ss cs of enough b o are

    first_zero : (rank b o : ℕ) → WordsAre m b o (replicate (1 + 2 * rank) (pos 0)) → word m b o ≡ pos 0
    first_zero rank b o are =
        let e : 1 + 2 * rank ≡ suc (2 * rank) = omega arith in
        let w : WordsAre m b o (replicate (suc (2 * rank)) (pos 0)) = subst (λ k. WordsAre m b o (replicate k (pos 0))) e are in
        w.0

    sound_by : (t : Bool) (rank : ℕ) (ss : List Span) (cs : List Constant) → AreOf s cs → AreEnough rank (count ss) cs → (b o : ℕ)
        → WordsAre m b o (if t then replicate (1 + 2 * rank) (pos 0) else arranged_words rank ss cs ws)
        → IsForm m (if t then Allocatable rank else Laid rank ss) n P b o Empty
    sound_by true rank ss cs of enough b o are = first_zero rank b o are
    sound_by false rank ss cs of enough b o are = laid_sound rank ss cs of enough b o are

    pub declared_begun : (d : Declared) → CanBegin s d → (b o : ℕ) → WordsAre m b o (declared_words d ws) → formed (form_of d) n f b o Empty ≡ initial_declared d v
    declared_begun d can = formed_by d.kind.is_allocatable d.kind.rank (spans_declared d.dimensions.items) d.initial.items can.typed can.enough

    declared_sound : (d : Declared) → CanBegin s d → (b o : ℕ) → WordsAre m b o (declared_words d ws) → IsForm m (form_of d) n P b o Empty
    declared_sound d can = sound_by d.kind.is_allocatable d.kind.rank (spans_declared d.dimensions.items) d.initial.items can.typed can.enough

-- ---- objects of types

mutual
  pub object_begun : (m : Live) (s : Shape) → TypeCanBegin s → (b o : ℕ) → WordsAre m b o (object_words s) → object m s b o Empty ≡ initial_of s
  object_begun m Whole can b o are = ap Number are.0
  object_begun m Logical can b o are = ap (λ w. Truth (is_set w)) are.0
  object_begun m (Record t parts) can b o are = ap Composite (components_begun m parts can b o are)

  pub object_sound : (m : Live) (s : Shape) → TypeCanBegin s → (b o : ℕ) → WordsAre m b o (object_words s) → IsObject m s b o Empty
  object_sound m Whole can b o are = refl
  object_sound m Logical can b o are = refl
  object_sound m (Record t parts) can b o are = (tt, components_sound m parts can b o are)

  components_begun : (m : Live) (parts : Parts) → PartsCanBegin parts → (b o : ℕ) → WordsAre m b o (parts_words parts) → components m parts b o end ≡ initial_parts parts
  components_begun m nothing can b o are = refl
  components_begun m (and c s rest) can b o are =
      let k : ℕ = form_words (form_of c.declared) (words_for s) in
      let own : List ℤ = declared_words c.declared (object_words s) in
      let many = object_many s can.1 in
      ap (λ v. more v (components m rest b (o + k) end))
      (declared_begun m s (object_words s) (initial_of s) many (object_begun m s can.1) (object_sound m s can.1) c.declared can.0 b o (are_front m b o own (parts_words rest) are))
      ∙ ap (λ vs. more (initial_declared c.declared (initial_of s)) vs)
      (components_begun m rest can.2 b (o + k) (behind m b o k own (parts_words rest) (declared_many s c.declared (object_words s) many can.0) are))

  components_sound : (m : Live) (parts : Parts) → PartsCanBegin parts → (b o : ℕ) → WordsAre m b o (parts_words parts) → AreComponents m parts b o end
  components_sound m nothing can b o are = refl
  components_sound m (and c s rest) can b o are =
      let k : ℕ = form_words (form_of c.declared) (words_for s) in
      let own : List ℤ = declared_words c.declared (object_words s) in
      let many = object_many s can.1 in (
        declared_sound m s (object_words s) (initial_of s) many (object_begun m s can.1) (object_sound m s can.1) c.declared can.0 b o (are_front m b o own (parts_words rest) are),
        components_sound m rest can.2 b (o + k) (behind m b o k own (parts_words rest) (declared_many s c.declared (object_words s) many can.0) are),
      )

-- ---- variables

module _ (ts : List Shape) (m : Live) where
  variables_begun : (ds : List Declared) → AllCanBegin ts ds → (b o : ℕ) → WordsAre m b o (initial_words ts ds) → variables ts m ds b o end ≡ initial_values ts ds
  variables_begun [] can b o are = refl
  variables_begun (d ∷ ds) can b o are =
      let s : Shape = shape_in ts d.kind.of in
      ap (λ v. v ∷ variables ts m ds b (o + room ts d) end)
      (declared_begun m s (object_words s) (initial_of s) (object_many s can.1) (object_begun m s can.1) (object_sound m s can.1) d can.0 b o
      (are_front m b o (variable_words ts d) (initial_words ts ds) are))
      ∙ ap (λ vs. initial_declared d (initial_of s) ∷ vs)
      (variables_begun ds can.2 b (o + room ts d) (behind m b o (room ts d) (variable_words ts d) (initial_words ts ds) (variable_many ts d can.0 can.1) are))

  variables_sound : (ds : List Declared) → AllCanBegin ts ds → (b o : ℕ) → WordsAre m b o (initial_words ts ds) → AreVariables ts m ds b o end
  variables_sound [] can b o are = refl
  variables_sound (d ∷ ds) can b o are =
      let s : Shape = shape_in ts d.kind.of in (
        declared_sound m s (object_words s) (initial_of s) (object_many s can.1) (object_begun m s can.1) (object_sound m s can.1) d can.0 b o
            (are_front m b o (variable_words ts d) (initial_words ts ds) are),
        variables_sound ds can.2 b (o + room ts d) (behind m b o (room ts d) (variable_words ts d) (initial_words ts ds) (variable_many ts d can.0 can.1) are),
      )

  -- variables at the front of a block with such words
  pub front_begun : (b : ℕ) (ds : List Declared) → AllCanBegin ts ds → IsLive m b → total ts ds ≤ length (words_of m b) → WordsAre m b 0 (initial_words ts ds)
      → (room_values ts m (begun b ds) ≡ initial_values ts ds) × IsRoom ts m (begun b ds)
  front_begun b ds can live long are =
      (variables_begun ds can b 0 are, record { live = live; long = long; variables = variables_sound ds can b 0 are })

-- ---- the laws

pub initial_words_are_enough : InitialWordsAreEnough
initial_words_are_enough = initial_many

pub initial_words_are_initial : InitialWordsAreInitial
initial_words_are_initial g m b ds can live e =
    let ts : List Shape = g.shapes in
    let ws : List ℤ = initial_words ts ds in
    let many : length ws ≡ total ts ds = initial_many ts ds can in
    let taken = ap length e in
    let some = length-take (total ts ds) (words_of m b) in
    let long : total ts ds ≤ length (words_of m b) = omega arith in
    let there : words_from m b 0 (length ws) ≡ ws = ap (words_from m b 0) many ∙ window m b 0 (total ts ds) (omega arith) ∙ e in
    front_begun ts m b ds can live long (from_are m b 0 ws there)
