-- The words of a component are its value.
use Rattle.std.proofs.Common.{◌≡◌, ◌≢◌, ◌∙◌, inl, inr, ℕ, zero, suc, ◌+◌, ◌*◌, ◌/◌, ◌<◌, ◌≤◌, Bool, true, false, List, [], ◌∷◌, ◌++◌, length, get_or, mul-div_cancel, refl, sym, ap, subst, arith}
use Rattle.std.specs.Prelude.{⊤, ◌⊎◌, ◌&&◌, ◌||◌, ℤ, pos, if◌then◌else◌, nat_eq, nat_lt, not}
use Rattle.std.proofs.lemmas.Bool.{eqb-true, lt-ltb}
use Rattle.std.proofs.lemmas.List.{append-nil}
use Rattle.f3_program.specs.declared.declarations.Constant.TheVariants as constant
use Rattle.f3_program.specs.declared.declarations.Declared.{Declared}
use Rattle.f3_program.specs.declared.declarations.Kind.{Kind}
use Rattle.f3_program.specs.declared.program.Program.{Program}
use Rattle.f3_live_blocks.specs.Blocks.{Live, words_of}
use Rattle.f3_meaning_whole.specs.Act.{laid_out}
use Rattle.f3_meaning_whole.specs.Formed as formed
use Rattle.f3_meaning_whole.specs.Formed.{alike, is_scalar, takes}
use Rattle.f3_meaning_whole.specs.Shape.{Shape, Whole, Logical, Record, spans_declared}
use Rattle.f3_meaning_whole.specs.Value.{Span, Value, Number, Truth, Composite, Array, Unallocated, Allocated, conforms, count, joined, same_extents, spread}
use Rattle.f3_cell_kinds.specs.Holds.{IsOf}
use Rattle.f3_cell_kinds.proofs.Asked.{and_is, not_is}
use Rattle.f3_cell_kinds.proofs.Scalars.{no_rank}
use Rattle.f3_desc.specs.declared.descriptor.Dim.{Dim}
use Rattle.f3_desc.specs.Laws.{size_of}
use Rattle.f3_rooms.specs.Forms.{Form, Laid, Allocatable, form_of, form_words, laid_words, words_for}
use Rattle.f3_rooms.specs.Held.{Held, Empty, end}
use Rattle.f3_rooms.specs.Values.{elements, formed as formed_as, laid as laid_as, object, word}
use Rattle.f3_room_levels.specs.Initial.{repeated}
use Rattle.f3_room_levels.proofs.Widths.{repeated_many}
use Rattle.f3_room_objects.proofs.Windows.{WordsAre, are_back, are_front}
use Rattle.f3_word_arrays.specs.Items.{datum_words}
use Rattle.f3_word_arrays.proofs.Elements.{HasWords, has-words}
use Rattle.f3_word_arrays.proofs.Given.{shape-alike}
use Rattle.f3_word_arrays.proofs.Words.{Shows, elements-tell, object-tells}
use Rattle.f3_word_cells.specs.declared.cell.Area.{Area}
use Rattle.f3_word_cells.specs.declared.cell.Datum.{Datum}
use Rattle.f3_word_cells.specs.declared.cell.Datum.TheVariants as datum
use Rattle.f3_word_cells.specs.Areas.{IsBlock, IsDatum, shape_for, spans_of, value_in}
use Rattle.f3_word_cells.specs.States.{IsLaid}
use Rattle.f3_word_cells.proofs.Scalars.{array_datum, scalar_held, scalar_rank}
use Rattle.f3_word_copies.proofs.Taken.{listed-joined, repeat, repeat-composite, repeat-number, repeat-truth, spread-array}
use Rattle.f3_word_structures.specs.Members.{conforms_to, fits_to, given_words}

count-size : (ds : List Dim) → count (spans_of ds) ≡ size_of ds
count-size [] = refl
count-size (d ∷ ds) = ap (λ (k : ℕ). d.extent * k) (count-size ds)

-- ---- words that are there

pub words-at : (n : Live) (b o : ℕ) (ws : List ℤ) → WordsAre n b o ws → (j : ℕ) → j < length ws → word n b (o + j) ≡ get_or ws j (pos 0)
words-at n b o [] are j lt = absurd (omega arith)
words-at n b o (w ∷ ws) are zero lt = let e : o + 0 ≡ o = omega arith in ap (word n b) e ∙ are.0
words-at n b o (w ∷ ws) are (suc j) lt =
    let e : o + suc j ≡ (o + 1) + j = omega arith in ap (word n b) e ∙ words-at n b (o + 1) ws are.1 j (omega arith)

-- ---- as often as they fill so many

times-fill : (c w : ℕ) → (c * w / w) * w ≡ c * w
times-fill c zero = omega arith
times-fill c (suc w) = let some : 0 < suc w = omega arith in ap (λ k. k * suc w) (mul-div_cancel c some)

nothing : (n : Live) (b o c : ℕ) (ws : List ℤ) → ws ≡ [] → WordsAre n b o (repeated c ws)
nothing n b o c ws e = subst (λ us. WordsAre n b o (repeated c us)) (sym e) (by c)
  where
    by : (c : ℕ) → WordsAre n b o (repeated c [])
    by zero = tt
    by (suc c) = by c

no-words : (ws : List ℤ) → length ws ≡ 0 → ws ≡ []
no-words [] e = refl
no-words (w ∷ ws) e = absurd (omega arith)

-- so they are there as often
all-times : (n : Live) (b o c : ℕ) (ws : List ℤ) → WordsAre n b o (repeated (c * length ws / length ws) ws) → WordsAre n b o (repeated c ws)
all-times n b o c ws are = by (length ws) refl
  where
    by : (w : ℕ) → length ws ≡ w → WordsAre n b o (repeated c ws)
    by zero e = nothing n b o c ws (no-words ws e)
    by (suc w) e = let some : 0 < length ws = omega (arith, e) in subst (λ k. WordsAre n b o (repeated k ws)) (mul-div_cancel c some) are

repeated-fill : (c : ℕ) (ws : List ℤ) → length (repeated (c * length ws / length ws) ws) ≡ c * length ws
repeated-fill c ws = repeated_many (c * length ws / length ws) ws ∙ times-fill c (length ws)

one-time : (n : Live) (b o : ℕ) (ws : List ℤ) → WordsAre n b o (repeated 1 ws) → WordsAre n b o ws
one-time n b o ws are = are_front n b o ws [] are

-- ---- shapes

count-same : (ss us : List Span) → same_extents ss us ≡ true → count ss ≡ count us
count-same [] [] e = refl
count-same [] (u ∷ us) e = absurd cc
count-same (s ∷ ss) [] e = absurd cc
count-same (s ∷ ss) (u ∷ us) e = by (nat_eq s.extent u.extent) refl e (λ g. count-same ss us g)
  where
    by : (b : Bool) → nat_eq s.extent u.extent ≡ b → (if b then same_extents ss us else false) ≡ true → (same_extents ss us ≡ true → count ss ≡ count us) → s.extent * count ss ≡ u.extent * count us
    by true f g more = ap (λ k. k * count ss) (eqb-true s.extent u.extent f) ∙ ap (λ k. u.extent * k) (more g)
    by false f g more = absurd cc

no-array : (ss : List Span) (m : Live) (s : Shape) (b o : ℕ) (h : Held) → conforms ss (object m s b o h) ≡ true
no-array ss m Whole b o h = refl
no-array ss m Logical b o h = refl
no-array ss m (Record t parts) b o h = refl

-- whether a value has the shape of a component
pub conforms-same : (p : Program) (m : Live) (ss : List Span) (d : Datum) (v : Value) → IsDatum p m d v → conforms_to ss d ≡ conforms ss v
conforms-same p m ss (datum.Scalar (constant.Number z)) v is = sym (ap (conforms ss) is)
conforms-same p m ss (datum.Scalar (constant.Truth b)) v is = sym (ap (conforms ss) is)
conforms-same p m ss (datum.Block a) v is = by (a.elements).dims.items ∙ sym (ap (conforms ss) is.1)
  where
    by : (ds : List Dim)
        → fits_to ss ds ≡ conforms ss (laid_as (length ds) (spans_of ds) (words_for (shape_for p a.of)) (object m (shape_for p a.of)) (a.elements).block 0 Empty)
    by [] = sym (no-array ss m (shape_for p a.of) (a.elements).block 0 Empty)
    by (d ∷ ds) = refl

-- ---- a value for all elements

spread-one : (p : Program) (k : Kind) (n : ℕ) (v : Value) → is_scalar k ≡ true → IsOf p.types.items k v → repeat n v ≡ spread n v
spread-one p k n (Number z) scalar is = repeat-number n z
spread-one p k n (Truth b) scalar is = repeat-truth n b
spread-one p k n (Composite vs) scalar is = repeat-composite n vs
spread-one p k n (Array ss vs) scalar is = absurd (no_rank k.rank (scalar_rank k scalar) is.1)
spread-one p k n Unallocated scalar is = let a = scalar_held k scalar in absurd cc
spread-one p k n (Allocated v) scalar is = let a = scalar_held k scalar in let b = is.0 in absurd cc

either-one : (a b : Bool) → (a || b) ≡ true → (a ≡ true) ⊎ ((a ≡ false) × (b ≡ true))
either-one true b e = inl refl
either-one false b e = inr (refl, e)

above-zero : (n : ℕ) → nat_eq n 0 ≡ false → nat_lt 0 n ≡ true
above-zero zero e = absurd cc
above-zero (suc n) e = lt-ltb 0 (suc n) (omega arith)

fixed-form : (d : Declared) → d.kind.is_allocatable ≡ false → form_of d ≡ Laid d.kind.rank (spans_declared d.dimensions.items)
fixed-form d e = ap (λ b. if b then Allocatable d.kind.rank else Laid d.kind.rank (spans_declared d.dimensions.items)) e

-- how many objects
abbrev how-many : ℕ → List Span → ℕ
how-many zero ss = 1
how-many (suc rank) ss = count ss

laid-many : (rank : ℕ) (ss : List Span) (w : ℕ) → laid_words rank ss w ≡ how-many rank ss * w
laid-many zero ss w = omega arith
laid-many (suc rank) ss w = refl

-- ---- a component and the value that is given for it

module _ (p : Program) (m : Live) (e : Declared) (g : formed.Given) (d : Datum) (v : Value) (fixed : e.kind.is_allocatable ≡ false) (fits : takes e.kind g.kind ≡ true)
    (value : IsOf p.types.items g.kind v) (is : IsDatum p m d v) (laid : IsLaid p g.kind d) (conform : conforms (spans_declared e.dimensions.items) v ≡ true) where
  abbrev s : Shape
  s = shape_for p e.kind.of

  abbrev w : ℕ
  w = words_for s

  abbrev ws : List ℤ
  ws = datum_words m d

  abbrev ss : List Span
  ss = spans_declared e.dimensions.items

  abbrev room : ℕ
  room = form_words (form_of e) w

  alike-types : alike e.kind.of g.kind.of ≡ true
  alike-types = (and_is _ _ fits).0

  shape-same : shape_for p g.kind.of ≡ s
  shape-same = sym (shape-alike p e.kind.of g.kind.of alike-types)

  held-not : g.kind.is_allocatable ≡ false
  held-not = not_is _ (and_is _ _ (and_is _ _ fits).1).0

  room-is : room ≡ how-many e.kind.rank ss * w
  room-is = ap (λ f. form_words f w) (fixed-form e fixed) ∙ laid-many e.kind.rank ss w

  -- what is to be shown
  pub record IsTaken : Type 0 where
    pub long : length (given_words m room d) ≡ room
    pub shows : (n : Live) (b o : ℕ) → WordsAre n b o (given_words m room d) → formed_as (form_of e) w (object n s) b o Empty ≡ laid_out e.kind.rank ss v

  -- ---- a scalar, for all elements

  module _ (single : nat_eq g.kind.rank 0 ≡ true) where
    scalar : is_scalar g.kind ≡ true
    scalar = ap (λ b. not b && nat_eq g.kind.rank 0) held-not ∙ single

    has : HasWords p m e.kind.of d v
    has = has-words p m e.kind.of g d v (record { scalar = scalar; shape = shape-same; value = value }) is laid

    filled : room ≡ how-many e.kind.rank ss * length ws
    filled = room-is ∙ ap (λ k. how-many e.kind.rank ss * k) (sym has.long)

    one-shows : (n : Live) (b o : ℕ) → WordsAre n b o ws → object n s b o Empty ≡ v
    one-shows n b o are = has.shows n b o (λ j lt. words-at n b o ws are j (let l = has.long in omega (arith, lt, l)))

    all-show : (n : Live) (k b o : ℕ) → WordsAre n b o (repeated k ws) → elements k w (object n s) b o end ≡ repeat k v
    all-show n zero b o are = refl
    all-show n (suc k) b o are =
        ap (λ u. u ∷ elements k w (object n s) b (o + w) end) (one-shows n b o (are_front n b o ws (repeated k ws) are))
        ∙ ap (λ us. v ∷ us) (all-show n k b (o + w) (behind n b o k are))
      where
        behind : (n : Live) (b o k : ℕ) → WordsAre n b o (ws ++ repeated k ws) → WordsAre n b (o + w) (repeated k ws)
        behind n b o k are = subst (λ i. WordsAre n b (o + i) (repeated k ws)) has.long (are_back n b o ws (repeated k ws) are)

    laid-shows : (rank : ℕ) (n : Live) (b o : ℕ) → WordsAre n b o (repeated (how-many rank ss) ws) → laid_as rank ss w (object n s) b o Empty ≡ laid_out rank ss v
    laid-shows zero n b o are = one-shows n b o (one-time n b o ws are)
    laid-shows (suc rank) n b o are = ap (λ us. Array ss (joined us)) (all-show n (count ss) b o are ∙ spread-one p g.kind (count ss) v scalar value)

    single-taken : IsTaken
    single-taken = record {
      long = ap (λ k. length (repeated (k / length ws) ws)) filled ∙ repeated-fill (how-many e.kind.rank ss) ws ∙ sym filled;
      shows = λ n b o are.
          ap (λ f. formed_as f w (object n s) b o Empty) (fixed-form e fixed)
          ∙ laid-shows e.kind.rank n b o (all-times n b o (how-many e.kind.rank ss) ws (subst (λ k. WordsAre n b o (repeated (k / length ws) ws)) filled are));
    }

  -- ---- an array of the shape of the component

  module _ (many : nat_eq g.kind.rank 0 ≡ false) (ranks : nat_eq g.kind.rank e.kind.rank ≡ true) where
    array : (a : Area) × (d ≡ datum.Block a) × IsBlock p m a × (v ≡ value_in p m a) × (length (a.elements).dims.items ≡ g.kind.rank)
    array = array_datum p m g.kind d v (above-zero g.kind.rank many) value is

    abbrev a : Area
    a = array.0

    abbrev from : ℕ
    from = (a.elements).block

    abbrev dims : List Dim
    dims = (a.elements).dims.items

    area-shape : shape_for p a.of ≡ s
    area-shape = subst (IsLaid p g.kind) array.1 laid ∙ shape-same

    value-is : v ≡ laid_as (length dims) (spans_of dims) w (object m s) from 0 Empty
    value-is = array.3 ∙ ap (λ (y : Shape). laid_as (length dims) (spans_of dims) (words_for y) (object m y) from 0 Empty) area-shape

    some-dims : (ds : List Dim) → length ds ≡ g.kind.rank → (x : Dim) × (xs : List Dim) × (ds ≡ x ∷ xs)
    some-dims [] e = absurd (let f : nat_eq 0 0 ≡ false = ap (λ k. nat_eq k 0) e ∙ many in cc)
    some-dims (x ∷ xs) e = (x, xs, refl)

    array-is : v ≡ Array (spans_of dims) (joined (elements (count (spans_of dims)) w (object m s) from 0 end))
    array-is = value-is ∙ by dims (some-dims dims array.4)
      where
        by : (ds : List Dim) → (x : Dim) × (xs : List Dim) × (ds ≡ x ∷ xs)
            → laid_as (length ds) (spans_of ds) w (object m s) from 0 Empty ≡ Array (spans_of ds) (joined (elements (count (spans_of ds)) w (object m s) from 0 end))
        by [] h = let f = h.2 in absurd cc
        by (x ∷ xs) h = refl

    same-count : count ss ≡ count (spans_of dims)
    same-count = count-same ss (spans_of dims) (sym (ap (conforms ss) array-is) ∙ conform)

    words-are : ws ≡ words_of m from
    words-are = ap (datum_words m) array.1

    words-long : length ws ≡ count ss * w
    words-long = ap length words-are ∙ array.2.words ∙ ap (λ (y : Shape). size_of dims * words_for y) area-shape ∙ ap (λ k. k * w) (sym (count-size dims) ∙ sym same-count)

    rank-is : (x : ℕ) × (e.kind.rank ≡ suc x)
    rank-is = by e.kind.rank (eqb-true g.kind.rank e.kind.rank ranks)
      where
        by : (r : ℕ) → g.kind.rank ≡ r → (x : ℕ) × (r ≡ suc x)
        by zero f = absurd (let h : nat_eq 0 0 ≡ false = ap (λ k. nat_eq k 0) (sym f) ∙ many in cc)
        by (suc r) f = (r, refl)

    filled-once : room ≡ 1 * length ws
    filled-once = room-is ∙ ap (λ r. how-many r ss * w) rank-is.1 ∙ sym words-long ∙ omega arith

    elements-show : (n : Live) (b o : ℕ) → WordsAre n b o ws → elements (count ss) w (object n s) b o end ≡ elements (count ss) w (object m s) from 0 end
    elements-show n b o are =
        elements-tell m n (count ss) w (object m s) (object n s) (object-tells m n s) from 0 b o (λ j lt.
        words-at n b o ws are j (let l = words-long in omega (arith, lt, l)) ∙ ap (λ us. get_or us j (pos 0)) words-are
        ∙ (let f : j ≡ 0 + j = omega arith in ap (word m from) f))

    array-shows : (rank : ℕ) (n : Live) (b o : ℕ) → WordsAre n b o ws → laid_as (suc rank) ss w (object n s) b o Empty ≡ laid_out (suc rank) ss v
    array-shows rank n b o are =
        ap (λ us. Array ss (joined us))
        (elements-show n b o are ∙ ap (λ k. elements k w (object m s) from 0 end) same-count ∙ sym (listed-joined (elements (count (spans_of dims)) w (object m s) from 0 end))
        ∙ sym (spread-array (count ss) (spans_of dims) (joined (elements (count (spans_of dims)) w (object m s) from 0 end)))
        ∙ sym (ap (spread (count ss)) array-is))

    array-taken : IsTaken
    array-taken = record {
      long = ap (λ k. length (repeated (k / length ws) ws)) filled-once ∙ repeated-fill 1 ws ∙ sym filled-once;
      shows = λ n b o are.
          let once = one-time n b o ws (all-times n b o 1 ws (subst (λ k. WordsAre n b o (repeated (k / length ws) ws)) filled-once are)) in
          ap (λ f. formed_as f w (object n s) b o Empty) (fixed-form e fixed)
          ∙ ap (λ r. laid_as r ss w (object n s) b o Empty) rank-is.1 ∙ array-shows rank-is.0 n b o once ∙ ap (λ r. laid_out r ss v) (sym rank-is.1);
    }

  pub taken : IsTaken
  taken = elim (either-one (nat_eq g.kind.rank 0) (nat_eq g.kind.rank e.kind.rank) (and_is _ _ (and_is _ _ fits).1).1) [
    | inl single ↦ single-taken single
    | inr h ↦ array-taken h.0 h.1
  ]
