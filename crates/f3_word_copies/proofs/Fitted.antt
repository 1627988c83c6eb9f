-- Numbers that are of a type, in values.
use Rattle.std.proofs.Common.{◌≡◌, ◌≢◌, ◌∙◌, sym, ap, refl, inl, inr, ℕ, zero, suc, ◌+◌, ◌*◌, ◌<◌, ◌≤◌, Bool, true, false, not, List, [], ◌∷◌, ◌++◌, length, take, drop, get_or, add-one, arith}
use Rattle.std.specs.Prelude.{◌⊎◌, ◌&&◌, ℤ, pos}
use Rattle.std.specs.Bool.{◌==◌}
use Rattle.std.proofs.Math.Seq.{take-suc, drop-cons}
use Rattle.std.proofs.lemmas.List.{take_all}
use Rattle.f3_program.specs.declared.declarations.Base.{Base}
use Rattle.f3_program.specs.declared.declarations.Base.TheVariants as base
use Rattle.f3_program.specs.declared.declarations.Derived.{Derived}
use Rattle.f3_program.specs.declared.declarations.Kind.{Kind}
use Rattle.f3_program.specs.declared.program.Program.{Program}
use Rattle.f3_live_blocks.specs.Blocks.{Live, words_of}
use Rattle.f3_meaning_whole.specs.Value.{Value, Number, Truth, Composite, Array, Unallocated, Allocated, Values, none, more, joined, count}
use Rattle.f3_meaning_whole.specs.Arithmetic.{fits, all_fit, value_fits}
use Rattle.f3_meaning_whole.specs.Shape.{Shape, Whole, Logical, Record, shape_in}
use Rattle.f3_cell_kinds.specs.Holds.{IsOf, AreElements}
use Rattle.f3_desc.specs.declared.descriptor.Dim.{Dim}
use Rattle.f3_desc.specs.Laws.{size_of}
use Rattle.f3_rooms.specs.Held.{Empty}
use Rattle.f3_rooms.specs.Forms.{words_for}
use Rattle.f3_rooms.specs.Values.{word, laid, object}
use Rattle.f3_rooms.specs.Places.{is_scalar_shape}
use Rattle.f3_room_places.specs.declared.types.Types.{Types}
use Rattle.f3_room_places.specs.Places.{HasTables, shapes}
use Rattle.f3_type_words.specs.Tables.{AreTables}
use Rattle.f3_room_arrays.specs.Elements.{row}
use Rattle.f3_word_cells.specs.declared.cell.Area.{Area}
use Rattle.f3_word_cells.specs.declared.cell.Datum.TheVariants as datum
use Rattle.f3_word_cells.specs.Areas.{types_of, shape_for, spans_of}
use Rattle.f3_word_copies.specs.Fits.{CanFit, is_numbers, is_truth, words_fit}
use Rattle.f3_word_reads.proofs.Areas.{count-size}
use Rattle.f3_word_reads.proofs.Copying.{types-same}
use Rattle.f3_word_reads.proofs.Standing.{no-dims, tables-for}
use Rattle.f3_word_reads.proofs.Types.{scalar-derived}

and-true : (a b : Bool) → a ≡ true → b ≡ true → a && b ≡ true
and-true true b e f = f
and-true false b e f = absurd cc

both : (a b : Bool) → a && b ≡ true → (a ≡ true) × (b ≡ true)
both true b e = (refl, e)
both false b e = absurd cc

-- ---- words

fit-append : (xs : List ℤ) (z : ℤ) → words_fit xs ≡ true → fits base.Integer z ≡ true → words_fit (xs ++ z ∷ []) ≡ true
fit-append [] z e f = and-true (fits base.Integer z) true f refl
fit-append (x ∷ xs) z e f = let g = both (fits base.Integer x) (words_fit xs) e in and-true (fits base.Integer x) (words_fit (xs ++ z ∷ [])) g.0 (fit-append xs z g.1 f)

pub fit-more : (ws : List ℤ) (k : ℕ) (z d : ℤ) → k < length ws → z ≡ get_or ws k d → words_fit (take k ws) ≡ true → fits base.Integer z ≡ true → words_fit (take (k + 1) ws) ≡ true
fit-more ws k z d lt is e f = ap words_fit (ap (λ n. take n ws) (add-one k) ∙ take-suc ws k d lt) ∙ fit-append (take k ws) (get_or ws k d) e (ap (fits base.Integer) (sym is) ∙ f)

pub unfit : (ws : List ℤ) (k : ℕ) (z d : ℤ) → k < length ws → z ≡ get_or ws k d → fits base.Integer z ≡ false → words_fit ws ≡ false
unfit [] k z d lt is e = absurd (omega arith)
unfit (x ∷ ws) zero z d lt is e = ap (λ b. b && words_fit ws) (ap (fits base.Integer) (sym is) ∙ e)
unfit (x ∷ ws) (suc k) z d lt is e = let f = unfit ws k z d (omega arith) is e in ap (λ b. fits base.Integer x && b) f ∙ and-false (fits base.Integer x)
  where
    and-false : (a : Bool) → a && false ≡ false
    and-false true = refl
    and-false false = refl

-- ---- other types

long-fits : (t : Base) (z : ℤ) → t ≢ base.Integer → fits base.Long z ≡ true → fits t z ≡ true
long-fits base.Integer z ne e = absurd (ne refl)
long-fits base.Long z ne e = e
long-fits base.Logical z ne e = e
long-fits (base.Derived n) z ne e = e

all-other : (types : List Derived) (k : Kind) (t : Base) → t ≢ base.Integer → (vs : Values) → AreElements types k vs → all_fit t vs ≡ true
all-other types k t ne none is = refl
all-other types k t ne (more (Number z) vs) is = and-true (fits t z) (all_fit t vs) (long-fits t z ne is.0.1) (all-other types k t ne vs is.1)
all-other types k t ne (more (Truth b) vs) is = all-other types k t ne vs is.1
all-other types k t ne (more (Composite us) vs) is = all-other types k t ne vs is.1
all-other types k t ne (more (Array ss us) vs) is = all-other types k t ne vs is.1
all-other types k t ne (more Unallocated vs) is = all-other types k t ne vs is.1
all-other types k t ne (more (Allocated u) vs) is = all-other types k t ne vs is.1

pub other-fits : (types : List Derived) (k : Kind) (t : Base) (v : Value) → t ≢ base.Integer → IsOf types k v → value_fits t v ≡ true
other-fits types k t (Number z) ne is = long-fits t z ne is.1
other-fits types k t (Truth b) ne is = refl
other-fits types k t (Composite vs) ne is = refl
other-fits types k t (Array ss vs) ne is = all-other types _ t ne vs is.4
other-fits types k t Unallocated ne is = refl
other-fits types k t (Allocated v) ne is = refl

-- ---- arrays

truths-fit : (m : Live) (t : Base) (k b o : ℕ) → all_fit t (joined (row m Logical k b o)) ≡ true
truths-fit m t zero b o = refl
truths-fit m t (suc k) b o = truths-fit m t k b (o + 1)

records-fit : (m : Live) (t : Base) (n : ℕ) (ps : _) (k b o : ℕ) → all_fit t (joined (row m (Record n ps) k b o)) ≡ true
records-fit m t n ps zero b o = refl
records-fit m t n ps (suc k) b o = records-fit m t n ps k b (o + words_for (Record n ps))

numbers-fit : (m : Live) (k b o : ℕ) → o + k ≤ length (words_of m b) → all_fit base.Integer (joined (row m Whole k b o)) ≡ words_fit (take k (drop o (words_of m b)))
numbers-fit m zero b o le = refl
numbers-fit m (suc k) b o le =
    let split : drop o (words_of m b) ≡ get_or (words_of m b) o (pos 0) ∷ drop (suc o) (words_of m b) = drop-cons (words_of m b) o (pos 0) (omega arith) in
    let e : o + 1 ≡ suc o = omega arith in
    ap (λ c. fits base.Integer (word m b o) && c) (numbers-fit m k b (o + 1) (omega arith) ∙ ap (λ j. words_fit (take k (drop j (words_of m b)))) e)
    ∙ ap (λ l. words_fit (take (suc k) l)) (sym split)

others-fit : (m : Live) (s : Shape) → (s ≡ Whole → ⊥) → (k b o : ℕ) → all_fit base.Integer (joined (row m s k b o)) ≡ true
others-fit m Whole ne k b o = absurd (ne refl)
others-fit m Logical ne k b o = truths-fit m base.Integer k b o
others-fit m (Record t parts) ne k b o = records-fit m base.Integer t parts k b o

large-fits : (m : Live) (s : Shape) (b : ℕ) (ds : List Dim) → (ds ≢ []) ⊎ (is_scalar_shape s ≡ false) → (ds ≡ []) ⊎ (s ≡ Whole → ⊥)
    → true ≡ value_fits base.Integer (laid (length ds) (spans_of ds) (words_for s) (object m s) b 0 Empty)
large-fits m s b (d ∷ ds) large (inl e) = absurd cons
  where
    cons : ⊥
    cons = let f : length (d ∷ ds) ≡ 0 = ap length e in omega arith
large-fits m s b (d ∷ ds) large (inr ne) = sym (others-fit m s ne (count (spans_of (d ∷ ds))) b 0)
large-fits m s b [] (inl some) other = absurd (some refl)
large-fits m Whole b [] (inr e) other = absurd cc
large-fits m Logical b [] (inr e) other = absurd cc
large-fits m (Record t parts) b [] (inr e) other = refl

-- the shape of what is no array of numbers
not-whole : (p : Program) (types : Types) → AreTables (types_of p) types.tables.now → (of : Base) → is_truth of ≡ true → shape_for p of ≡ Whole → ⊥
not-whole p types are base.Integer e f = cc
not-whole p types are base.Long e f = cc
not-whole p types are base.Logical e f = cc
not-whole p types are (base.Derived t) e f = cc

whole-is : (p : Program) (types : Types) → AreTables (types_of p) types.tables.now → (of : Base) → is_truth of ≡ false → is_scalar_shape (shape_for p of) ≡ true → shape_for p of ≡ Whole
whole-is p types are base.Integer e f = refl
whole-is p types are base.Long e f = refl
whole-is p types are base.Logical e f = absurd cc
whole-is p types are (base.Derived t) e f = scalar-derived p.types.items types.tables.now are t f

module _ (p : Program) (types : Types) (has : HasTables types) (m : Live) (k : Kind) (a : Area) (v : Value) (can : CanFit p types m k (datum.Block a) v) where
  are : AreTables (types_of p) types.tables.now
  are = tables-for p types can.derived has

  shape-same : is_scalar_shape (shape_in (shapes types) a.of) ≡ is_scalar_shape (shape_for p a.of)
  shape-same = ap (λ ts. is_scalar_shape (shape_in ts a.of)) (types-same p types can.derived)

  pub no-numbers : is_numbers types a ≡ false → true ≡ value_fits base.Integer v
  no-numbers e = large-fits m (shape_for p a.of) (a.elements).block (a.elements).dims.items can.value.0.large (by (is_truth a.of) (length (a.elements).dims.items == 0) refl refl e) ∙ ap (value_fits base.Integer) (sym can.value.1)
    where
      by : (t z : Bool) → is_truth a.of ≡ t → (length (a.elements).dims.items == 0) ≡ z → not t && (not z && is_scalar_shape (shape_in (shapes types) a.of)) ≡ false
          → ((a.elements).dims.items ≡ []) ⊎ (shape_for p a.of ≡ Whole → ⊥)
      by true z f g h = inr (not-whole p types are a.of f)
      by false true f g h = inl (no-dims (a.elements).dims.items (sym g))
      by false false f g h = inr (λ w. scalar (sym (ap is_scalar_shape w) ∙ sym shape-same ∙ h))
        where
          scalar : true ≡ false → ⊥
          scalar i = cc

  pub all-numbers : is_numbers types a ≡ true → words_fit (words_of m (a.elements).block) ≡ value_fits base.Integer v
  all-numbers e =
      let one = both (not (is_truth a.of)) (not (length (a.elements).dims.items == 0) && is_scalar_shape (shape_in (shapes types) a.of)) e in
      let two = both (not (length (a.elements).dims.items == 0)) (is_scalar_shape (shape_in (shapes types) a.of)) one.1 in
      let whole = whole-is p types are a.of (un-not (is_truth a.of) one.0) (sym shape-same ∙ two.1) in
      let long : length (words_of m (a.elements).block) ≡ size_of (a.elements).dims.items = can.value.0.words ∙ ap (λ s. size_of (a.elements).dims.items * words_for s) whole ∙ (let f : size_of (a.elements).dims.items * 1 ≡ size_of (a.elements).dims.items = omega arith in f) in
      by (a.elements).dims.items (un-not (length (a.elements).dims.items == 0) two.0) long
      ∙ ap (λ s. value_fits base.Integer (laid (length (a.elements).dims.items) (spans_of (a.elements).dims.items) (words_for s) (object m s) (a.elements).block 0 Empty)) (sym whole)
      ∙ ap (value_fits base.Integer) (sym can.value.1)
    where
      un-not : (b : Bool) → not b ≡ true → b ≡ false
      un-not true h = absurd cc
      un-not false h = refl

      by : (ds : List Dim) → (length ds == 0) ≡ false → length (words_of m (a.elements).block) ≡ size_of ds
          → words_fit (words_of m (a.elements).block) ≡ value_fits base.Integer (laid (length ds) (spans_of ds) 1 (object m Whole) (a.elements).block 0 Empty)
      by [] f l = absurd cc
      by (d ∷ ds) f l =
          let c : count (spans_of (d ∷ ds)) ≡ length (words_of m (a.elements).block) = count-size (d ∷ ds) ∙ sym l in
          ap words_fit (sym (take_all (count (spans_of (d ∷ ds))) (words_of m (a.elements).block) (omega arith)))
          ∙ sym (numbers-fit m (count (spans_of (d ∷ ds))) (a.elements).block 0 (omega arith))
