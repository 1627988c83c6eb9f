-- Words with which variables begin, as their initial values.
use Rattle.std.proofs.Common.{◌≡◌, inl, inr, ℕ, zero, suc, ◌+◌, ◌*◌, ℤ, pos, Bool, true, false, List, [], ◌∷◌, ◌++◌, length, map, replicate, refl, sym, ap, subst, ◌∙◌, arith, append_assoc}
use Rattle.std.proofs.Math.Nat.{mul-one}
use Rattle.std.proofs.lemmas.Bool.{cases_eq}
use Rattle.std.proofs.lemmas.List.{length-replicate, length-append, length-map}
use Rattle.std.specs.Prelude.{Option, None, Some, is_some, if◌then◌else◌, slice_index_or}
use Rattle.std.specs.FinMap.{empty}
use Rattle.f3_program.specs.declared.declarations.Base.{Base}
use Rattle.f3_program.specs.declared.declarations.Base.TheVariants as base
use Rattle.f3_program.specs.declared.declarations.Constant.{Constant}
use Rattle.f3_program.specs.declared.declarations.Constant.TheVariants as constant
use Rattle.f3_program.specs.declared.declarations.Declared.{Declared}
use Rattle.f3_live_blocks.specs.Blocks.{Live, words_of}
use Rattle.f3_meaning_whole.specs.Value.{Span, Value, Number, Truth, Array, Unallocated, joined, count}
use Rattle.f3_meaning_whole.specs.Shape.{Shape, shape_in, initial_of, arranged, spans_declared}
use Rattle.f3_meaning_whole.specs.Arithmetic.{constant_value}
use Rattle.f3_meaning_whole.specs.Act.{Setting}
use Rattle.f3_meaning_whole.specs.Exec.{initial_value}
use Rattle.f3_rooms.specs.Held.{Empty, end}
use Rattle.f3_rooms.specs.Forms.{Form, Laid, Allocatable, form_of, form_words, laid_words, words_for, room}
use Rattle.f3_rooms.specs.Values.{word, is_set, elements, laid, formed, object, variable, variables}
use Rattle.f3_rooms.specs.Sound.{Each, AreLaid, IsForm, IsObject, AreVariables}
use Rattle.f3_rooms.specs.Laws.{AreZeros, IsBare}
use Rattle.f3_rooms.proofs.Zeros.{zeros_are_blank, blank_word}
use Rattle.f3_rooms.proofs.Initial.{blank_is_initial}
use Rattle.f3_room_frames.specs.Places.{scalar_in}
use Rattle.f3_room_frames.specs.Scalars.{truth_word, word_for}
use Rattle.f3_room_frames.specs.Initial.{word_or_zero, initial_word, initial_by, initial_in, initial_words, AreOf, AreEnough, AllCanBegin, HaveBareTypes, AreBare, InitialWordsAreInitial, InitialWordsAreEnough, ZerosAreInitial}

-- ---- scalars

set_truth : (b : Bool) → is_set (truth_word b) ≡ b
set_truth true = refl
set_truth false = refl

-- the word of a scalar is that scalar
pub word_is : (of : Base) (c : Constant) (z : ℤ) → word_for of c ≡ Some z → scalar_in of z ≡ constant_value c
word_is base.Integer (constant.Number y) z h = let e : y ≡ z = cc in ap Number (sym e)
word_is base.Integer (constant.Truth b) z h = absurd (cc)
word_is base.Long (constant.Number y) z h = let e : y ≡ z = cc in ap Number (sym e)
word_is base.Long (constant.Truth b) z h = absurd (cc)
word_is base.Logical (constant.Number y) z h = absurd (cc)
word_is base.Logical (constant.Truth b) z h = let e : truth_word b ≡ z = cc in ap (λ w. Truth (is_set w)) (sym e) ∙ ap Truth (set_truth b)
word_is (base.Derived t) (constant.Number y) z h = absurd (cc)
word_is (base.Derived t) (constant.Truth b) z h = absurd (cc)

typed_word : (of : Base) (c : Constant) → is_some (word_for of c) ≡ true → scalar_in of (initial_word of c) ≡ constant_value c
typed_word of c h = by (word_for of c) refl h
  where
    by : (o : Option ℤ) → word_for of c ≡ o → is_some o ≡ true → scalar_in of (word_or_zero o) ≡ constant_value c
    by None e h = absurd (cc)
    by (Some z) e h = word_is of c z e

-- what a word can be has one word, and holds nothing
scalar_words : (ts : List Shape) (of : Base) (c : Constant) → is_some (word_for of c) ≡ true → words_for (shape_in ts of) ≡ 1
scalar_words ts base.Integer c h = refl
scalar_words ts base.Long c h = refl
scalar_words ts base.Logical c h = refl
scalar_words ts (base.Derived t) (constant.Number z) h = absurd (cc)
scalar_words ts (base.Derived t) (constant.Truth b) h = absurd (cc)

scalar_object : (ts : List Shape) (m : Live) (of : Base) (c : Constant) (b o : ℕ) → is_some (word_for of c) ≡ true → object m (shape_in ts of) b o Empty ≡ scalar_in of (word m b o)
scalar_object ts m base.Integer c b o h = refl
scalar_object ts m base.Long c b o h = refl
scalar_object ts m base.Logical c b o h = refl
scalar_object ts m (base.Derived t) (constant.Number y) b o h = absurd (cc)
scalar_object ts m (base.Derived t) (constant.Truth y) b o h = absurd (cc)

scalar_holds : (ts : List Shape) (m : Live) (of : Base) (c : Constant) (b o : ℕ) → is_some (word_for of c) ≡ true → IsObject m (shape_in ts of) b o Empty
scalar_holds ts m base.Integer c b o h = refl
scalar_holds ts m base.Long c b o h = refl
scalar_holds ts m base.Logical c b o h = refl
scalar_holds ts m (base.Derived t) (constant.Number y) b o h = absurd (cc)
scalar_holds ts m (base.Derived t) (constant.Truth y) b o h = absurd (cc)

-- ---- words from one on

abbrev Reads : Live → ℕ → ℕ → List ℤ → Type 0
Reads m b o [] = Unit {0}
Reads m b o (z ∷ zs) = (word m b o ≡ z) × Reads m b (o + 1) zs

reads_front : (m : Live) (b o : ℕ) (ws us : List ℤ) → Reads m b o (ws ++ us) → Reads m b o ws
reads_front m b o [] us r = tt
reads_front m b o (w ∷ ws) us r = (r.0, reads_front m b (o + 1) ws us r.1)

reads_behind : (m : Live) (b o : ℕ) (ws us : List ℤ) → Reads m b o (ws ++ us) → Reads m b (o + length ws) us
reads_behind m b o [] us r = let e : o ≡ o + 0 = omega arith in subst (λ k. Reads m b k us) e r
reads_behind m b o (w ∷ ws) us r = let e : (o + 1) + length ws ≡ o + suc (length ws) = omega arith in subst (λ k. Reads m b k us) e (reads_behind m b (o + 1) ws us r.1)

there : (before : List ℤ) (z : ℤ) (rest : List ℤ) → slice_index_or (before ++ z ∷ rest) (length before) (pos 0) ≡ z
there [] z rest = refl
there (w ∷ before) z rest = there before z rest

reads_all : (m : Live) (b : ℕ) (before ws rest : List ℤ) → words_of m b ≡ before ++ (ws ++ rest) → Reads m b (length before) ws
reads_all m b before [] rest e = tt
reads_all m b before (w ∷ ws) rest e =
    let many : length (before ++ w ∷ []) ≡ length before + 1 = length-append before (w ∷ []) in (
      ap (λ us. slice_index_or us (length before) (pos 0)) e ∙ there before w (ws ++ rest),
      subst (λ k. Reads m b k ws) many (reads_all m b (before ++ w ∷ []) ws rest (e ∙ sym (append_assoc before (w ∷ []) (ws ++ rest)))),
    )

reads_zeros : (m : Live) (b o n : ℕ) → Reads m b o (replicate n (pos 0)) → AreZeros m b o n
reads_zeros m b o zero r i from before = absurd (omega arith)
reads_zeros m b o (suc n) r i from before = elim (cases_eq i o) [
  | inl e ↦ ap (word m b) e ∙ r.0
  | inr ne ↦ reads_zeros m b (o + 1) n r.1 i (omega arith) (omega arith)
]

-- ---- arrays of scalars

module _ (ts : List Shape) (m : Live) (of : Base) (b : ℕ) where
  abbrev s : Shape
  s = shape_in ts of

  one : (c : Constant) (o : ℕ) → is_some (word_for of c) ≡ true → word m b o ≡ initial_word of c → object m s b o Empty ≡ constant_value c
  one c o typed e = scalar_object ts m of c b o typed ∙ ap (scalar_in of) e ∙ typed_word of c typed

  each : (cs : List Constant) (o : ℕ) → AreOf of cs → Reads m b o (map (initial_word of) cs) → elements (length cs) 1 (object m s) b o end ≡ map constant_value cs
  each [] o typed r = refl
  each (c ∷ cs) o typed r = ap (λ v. v ∷ elements (length cs) 1 (object m s) b (o + 1) end) (one c o typed.0 r.0) ∙ ap (λ vs. constant_value c ∷ vs) (each cs (o + 1) typed.1 r.1)

  same : (k : ℕ) (c : Constant) (o : ℕ) → is_some (word_for of c) ≡ true → Reads m b o (replicate k (initial_word of c))
      → elements k 1 (object m s) b o end ≡ replicate k (constant_value c)
  same zero c o typed r = refl
  same (suc k) c o typed r = ap (λ v. v ∷ elements k 1 (object m s) b (o + 1) end) (one c o typed r.0) ∙ ap (λ vs. constant_value c ∷ vs) (same k c (o + 1) typed r.1)

  hold_nothing : (k : ℕ) (c : Constant) (o : ℕ) → is_some (word_for of c) ≡ true → Each k (words_for s) (IsObject m s) b o end
  hold_nothing zero c o typed = refl
  hold_nothing (suc k) c o typed = (scalar_holds ts m of c b o typed, hold_nothing k c (o + words_for s) typed)

  -- values of a variable's own
  laid_begins : (rank : ℕ) (ss : List Span) (c : Constant) (cs : List Constant) (o : ℕ) → AreOf of (c ∷ cs) → AreEnough rank (laid_words rank ss (words_for s)) (c ∷ cs)
      → Reads m b o (initial_by (laid_words rank ss (words_for s)) of (c ∷ cs))
      → laid rank ss (words_for s) (object m s) b o Empty ≡ arranged rank ss (c ∷ cs) (initial_of s)
  laid_begins zero ss c [] o typed many r =
      let n = scalar_words ts of c typed.0 in
      let q : Reads m b o (replicate 1 (initial_word of c)) = subst (λ k. Reads m b o (replicate k (initial_word of c))) n r in
      one c o typed.0 q.0
  laid_begins zero ss c (d ∷ cs) o typed many r = absurd many
  laid_begins (suc rank) ss c [] o typed many r =
      let n = scalar_words ts of c typed.0 in
      let k : count ss * words_for s ≡ count ss = ap (λ w. count ss * w) n ∙ mul-one (count ss) in
      ap (λ vs. Array ss (joined vs)) (ap (λ w. elements (count ss) w (object m s) b o end) n
      ∙ same (count ss) c o typed.0 (subst (λ w. Reads m b o (replicate w (initial_word of c))) k r))
  laid_begins (suc rank) ss c (d ∷ cs) o typed many r =
      let n = scalar_words ts of c typed.0 in
      let k : count ss ≡ length (c ∷ d ∷ cs) = sym (many ∙ ap (λ w. count ss * w) n ∙ mul-one (count ss)) in
      ap (λ vs. Array ss (joined vs)) (ap (λ w. elements (count ss) w (object m s) b o end) n ∙ ap (λ w. elements w 1 (object m s) b o end) k ∙ each (c ∷ d ∷ cs) o typed r)

  laid_holds : (rank : ℕ) (ss : List Span) (c : Constant) (o : ℕ) → is_some (word_for of c) ≡ true → AreLaid rank ss (words_for s) (IsObject m s) b o Empty
  laid_holds zero ss c o typed = scalar_holds ts m of c b o typed
  laid_holds (suc rank) ss c o typed = (tt, hold_nothing (count ss) c o typed)

-- ---- one variable

-- without values of its own it begins with words that are 0
bare_begins : (g : Setting) (m : Live) (d : Declared) (b o : ℕ) → IsBare (shape_in g.shapes d.kind.of) → d.initial.items ≡ [] → AreZeros m b o (room g.shapes d)
    → (variable g.shapes m d b o Empty ≡ initial_value g d)
    × IsForm m (form_of d) (words_for (shape_in g.shapes d.kind.of)) (IsObject m (shape_in g.shapes d.kind.of)) b o Empty
bare_begins g m d b o bare none all =
    let t = zeros_are_blank g.shapes m (d ∷ []) b o (λ i from before. all i from (omega arith)) in
    let e : variable g.shapes m d b o Empty ≡ variable g.shapes empty d 0 0 Empty = head (variable g.shapes m d b o Empty) (variable g.shapes empty d 0 0 Empty) t.0 in
    (e ∙ blank_is_initial g.shapes d bare none, (t.1).0)
  where
    head : (u v : Value) → u ∷ [] ≡ v ∷ [] → u ≡ v
    head u v e = cc

module _ (g : Setting) (m : Live) (d : Declared) (b o : ℕ) where
  abbrev shape : Shape
  shape = shape_in g.shapes d.kind.of

  abbrev form : Bool → Form
  form t = if t then Allocatable d.kind.rank else Laid d.kind.rank (spans_declared d.dimensions.items)

  abbrev Begun : Bool → List Constant → Type 0
  Begun t cs = (formed (form t) (words_for shape) (object m shape) b o Empty
      ≡ (if t then Unallocated else arranged d.kind.rank (spans_declared d.dimensions.items) cs (initial_of shape)))
      × IsForm m (form t) (words_for shape) (IsObject m shape) b o Empty

  own_begins : (t : Bool) (c : Constant) (cs : List Constant) → t ≡ false → AreOf d.kind.of (c ∷ cs) → AreEnough d.kind.rank (form_words (form t) (words_for shape)) (c ∷ cs)
      → Reads m b o (initial_by (form_words (form t) (words_for shape)) d.kind.of (c ∷ cs)) → Begun t (c ∷ cs)
  own_begins true c cs e typed many r = absurd (cc)
  own_begins false c cs e typed many r = (
    laid_begins g.shapes m d.kind.of b d.kind.rank (spans_declared d.dimensions.items) c cs o typed many r,
    laid_holds g.shapes m d.kind.of b d.kind.rank (spans_declared d.dimensions.items) c o typed.0,
  )

  variable_begins : (cs : List Constant) → d.initial.items ≡ cs → IsBare shape → AreOf d.kind.of cs → AreEnough d.kind.rank (room g.shapes d) cs → (d.kind.is_allocatable ≡ true → cs ≡ [])
      → Reads m b o (initial_by (room g.shapes d) d.kind.of cs) → Begun d.kind.is_allocatable d.initial.items
  variable_begins [] e bare typed many none r = bare_begins g m d b o bare e (reads_zeros m b o (room g.shapes d) r)
  variable_begins (c ∷ cs) e bare typed many none r =
      subst (Begun d.kind.is_allocatable) (sym e) (own_begins d.kind.is_allocatable c cs (stays d.kind.is_allocatable none) typed many r)
    where
      stays : (t : Bool) → (t ≡ true → c ∷ cs ≡ []) → t ≡ false
      stays true h = let f : c ∷ cs ≡ [] = h refl in absurd (cc)
      stays false h = refl

-- ---- all

as_many : (rank n : ℕ) (of : Base) (cs : List Constant) → AreEnough rank n cs → length (initial_by n of cs) ≡ n
as_many rank n of [] many = length-replicate n (pos 0)
as_many rank n of (c ∷ []) many = length-replicate n (initial_word of c)
as_many zero n of (c ∷ d ∷ cs) many = absurd many
as_many (suc rank) n of (c ∷ d ∷ cs) many = length-map (c ∷ d ∷ cs) (initial_word of) ∙ many

pub words_many : InitialWordsAreEnough
words_many ts [] h = refl
words_many ts (d ∷ ds) h =
    let own : length (initial_in ts d) ≡ room ts d = as_many d.kind.rank (room ts d) d.kind.of d.initial.items (h.0).enough in
    omega (arith, length-append (initial_in ts d) (initial_words ts ds), words_many ts ds h.1)

variables_begin : (g : Setting) (m : Live) (b o : ℕ) (ds : List Declared) → HaveBareTypes g.shapes ds → AllCanBegin g.shapes ds → Reads m b o (initial_words g.shapes ds)
    → (variables g.shapes m ds b o end ≡ map (initial_value g) ds) × AreVariables g.shapes m ds b o end
variables_begin g m b o [] bare can r = (refl, refl)
variables_begin g m b o (d ∷ ds) bare can r =
    let ts : List Shape = g.shapes in
    let own : length (initial_in ts d) ≡ room ts d = as_many d.kind.rank (room ts d) d.kind.of d.initial.items (can.0).enough in
    let first = variable_begins g m d b o d.initial.items refl bare.0 (can.0).typed (can.0).enough (can.0).bare (reads_front m b o (initial_in ts d) (initial_words ts ds) r) in
    let rest = variables_begin g m b (o + room ts d) ds bare.1 can.1 (subst (λ k. Reads m b (o + k) (initial_words ts ds)) own (reads_behind m b o (initial_in ts d) (initial_words ts ds) r)) in
    (ap (λ v. v ∷ variables ts m ds b (o + room ts d) end) first.0 ∙ ap (λ vs. initial_value g d ∷ vs) rest.0, (first.1, rest.1))

pub initial_words_are : InitialWordsAreInitial
initial_words_are g m block ds rest bare can e = variables_begin g m block 0 ds bare can (reads_all m block [] (initial_words g.shapes ds) rest e)

zeros_begin : (g : Setting) (o : ℕ) (ds : List Declared) → HaveBareTypes g.shapes ds → AreBare ds → variables g.shapes empty ds 0 o end ≡ map (initial_value g) ds
zeros_begin g o [] bare none = refl
zeros_begin g o (d ∷ ds) bare none =
    ap (λ v. v ∷ variables g.shapes empty ds 0 (o + room g.shapes d) end) (bare_begins g empty d 0 o bare.0 none.0 (λ i from before. blank_word 0 i)).0
    ∙ ap (λ vs. initial_value g d ∷ vs) (zeros_begin g (o + room g.shapes d) ds bare.1 none.1)

pub zeros_are_initial : ZerosAreInitial
zeros_are_initial g ds bare none = zeros_begin g 0 ds bare none
