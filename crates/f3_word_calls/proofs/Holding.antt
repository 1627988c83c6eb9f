-- Values that are held, as variables of a level.
use Rattle.std.proofs.Common.{◌≡◌, ◌∙◌, ℕ, zero, suc, ◌+◌, ◌*◌, ◌<◌, ◌≤◌, ◌^◌, Bool, true, false, List, [], ◌∷◌, ◌++◌, length, map, refl, sym, ap, subst, arith}
use Rattle.std.specs.Prelude.{Some, slice_get, ⊤, not, ◌&&◌, if◌then◌else◌, Vec}
use Rattle.std.specs.declared.alloc.Global.{Global}
use Rattle.std.proofs.lemmas.List.{length-map}
use denote.RawPtr.{null_ptr}
use native.Mathlib.Nat.{le_refl}
use Rattle.f3_program.specs.declared.declarations.Declared.{Declared}
use Rattle.f3_program.specs.declared.declarations.Dimension.{Dimension}
use Rattle.f3_program.specs.declared.program.Program.{Program}
use Rattle.f3_live_blocks.specs.Blocks.{Live}
use Rattle.f3_meaning_whole.specs.Arithmetic.{constant_value}
use Rattle.f3_meaning_whole.specs.Value.{Span, Value, count}
use Rattle.f3_meaning_whole.specs.Shape.{Shape, Whole, Logical, Record, Parts, nothing, and, spans_declared}
use Rattle.f3_desc.specs.declared.descriptor.Dim.{Dim}
use Rattle.f3_desc.specs.Laws.{size_of}
use Rattle.f3_cell_kinds.proofs.Asked.{and_is, not_is}
use Rattle.f3_rooms.specs.Held.{Empty, end, times}
use Rattle.f3_rooms.specs.Flat.{are_flat, is_flat}
use Rattle.f3_rooms.specs.Forms.{Laid, Allocatable, form_of, form_words, laid_words, words_for}
use Rattle.f3_rooms.specs.Values.{formed, object}
use Rattle.f3_rooms.specs.Rooms.{Known, Room, Rooms, Slot, Stands as Stood, blocks_of, level_blocks, level_values, room_values, slot_blocks, slot_values, store_of}
use Rattle.f3_rooms.specs.Laws.{with_level}
use Rattle.f3_rooms.proofs.Levels.{levels_begin}
use Rattle.f3_meaning_whole.specs.Store.{Local, Path, Store}
use Rattle.f3_meaning_whole.specs.Reference.{One, Read, reach_of}
use Rattle.f3_meaning_whole.specs.Act.{to_root}
use Rattle.f3_rooms.specs.Places.{is_scalar_shape}
use Rattle.f3_program.specs.declared.declarations.Constant.{Constant}
use Rattle.f3_program.specs.declared.declarations.Constant.TheVariants as constant
use Rattle.f3_word_cells.specs.declared.cell.Object.TheVariants as o
use Rattle.f3_program.specs.declared.declarations.Base.{Base}
use Rattle.f3_rooms.specs.Sound.{AreComponents, AreLaid, Each, Fact, IsForm, IsLevel, IsObject, IsRoom, IsSlot, IsSound}
use Rattle.f3_rooms.specs.Ways.{numbers}
use Rattle.f3_word_cells.specs.declared.cell.Area.{Area}
use Rattle.f3_word_cells.specs.declared.cell.Datum.{Datum}
use Rattle.f3_word_cells.specs.declared.cell.Datum.TheVariants as datum
use Rattle.f3_word_cells.specs.Areas.{IsObject as IsAnObject, IsBlock, IsDatum, shape_for, spans_of, types_of, value_in}
use Rattle.f3_word_cells.specs.States.{IsBareLevel, IsBareSlot, datum_blocks, level_rooms, slot_rooms}

-- ---- objects in which nothing is held

module _ (n : ℕ) (P : Fact) (empty : (b o : ℕ) → P b o Empty) where
  each_empty : (k b o : ℕ) → Each k n P b o end
  each_empty zero b o = refl
  each_empty (suc k) b o = (empty b o, each_empty k b (o + n))

  laid_empty : (rank : ℕ) (ss : List Span) (b o : ℕ) → AreLaid rank ss n P b o Empty
  laid_empty zero ss b o = empty b o
  laid_empty (suc rank) ss b o = (tt, each_empty (count ss) b o)

  form_empty : (m : Live) (is_held : Bool) (rank : ℕ) (ss : List Span) (b o : ℕ) → is_held ≡ false
      → IsForm m (if is_held then Allocatable rank else Laid rank ss) n P b o Empty
  form_empty m true rank ss b o e = absurd (cc)
  form_empty m false rank ss b o e = laid_empty rank ss b o

module _ (m : Live) where
  mutual
    pub flat_empty : (s : Shape) → is_flat s ≡ true → (b o : ℕ) → IsObject m s b o Empty
    flat_empty Whole flat b o = refl
    flat_empty Logical flat b o = refl
    flat_empty (Record t parts) flat b o = (tt, parts_empty parts flat b o)

    parts_empty : (ps : Parts) → are_flat ps ≡ true → (b o : ℕ) → AreComponents m ps b o end
    parts_empty nothing flat b o = refl
    parts_empty (and c s rest) flat b o =
        let one = and_is (not c.declared.kind.is_allocatable) (is_flat s && are_flat rest) flat in
        let two = and_is (is_flat s) (are_flat rest) one.1 in (
          form_empty (words_for s) (IsObject m s) (flat_empty s two.0) m c.declared.kind.is_allocatable c.declared.kind.rank
              (spans_declared c.declared.dimensions.items) b o (not_is c.declared.kind.is_allocatable one.0),
          parts_empty rest two.1 b (o + form_words (form_of c.declared) (words_for s)),
        )

-- ---- a room for a value of array or derived type

-- a list that is short enough, as it would lie in memory
abbrev pub vector : {X : Type 0} → Global → (xs : List X) → length xs < 2 ^ 63 → Vec X Global
vector h xs few = record {
  ptr = null_ptr;
  len = length xs;
  cap = length xs;
  alloc = h;
  items = xs;
  ok = (refl, le_refl (length xs));
  small = few;
}

abbrev pub dimension_of : Dim → Dimension
dimension_of d = record { lower = d.lower; extent = d.extent }

-- what would be declared for it
abbrev pub declared_as : Global → (a : Area) → length a.elements.dims.items < 2 ^ 63 → Declared
declared_as h a few = record {
  kind = record { of = a.of; rank = length a.elements.dims.items; is_allocatable = false };
  dimensions = vector h (map dimension_of a.elements.dims.items)
      (subst (λ k. k < 2 ^ 63) (sym (length-map a.elements.dims.items dimension_of)) few);
  initial = vector h [] (omega arith);
}

same_spans : (ds : List Dim) → spans_declared (map dimension_of ds) ≡ spans_of ds
same_spans [] = refl
same_spans (d ∷ ds) = ap (λ ss. record { lower = d.lower; extent = d.extent } ∷ ss) (same_spans ds)

same_count : (ds : List Dim) → count (spans_of ds) ≡ size_of ds
same_count [] = refl
same_count (d ∷ ds) = ap (λ n. d.extent * n) (same_count ds)

laid_size : (ds : List Dim) (n : ℕ) → laid_words (length ds) (spans_of ds) n ≡ size_of ds * n
laid_size [] n = omega arith
laid_size (d ∷ ds) n = ap (λ k. k * n) (same_count (d ∷ ds))

module _ (p : Program) (h : Global) (m : Live) (a : Area) (few : length a.elements.dims.items < 2 ^ 63) where
  abbrev dims_in : List Dim
  dims_in = a.elements.dims.items

  abbrev pub room_for : Room
  room_for = record { block = a.elements.block; declared = declared_as h a few ∷ []; held = end }

  declared_spans : spans_declared (declared_as h a few).dimensions.items ≡ spans_of dims_in
  declared_spans = same_spans dims_in

  pub form_is : form_of (declared_as h a few) ≡ Laid (length dims_in) (spans_of dims_in)
  form_is = ap (Laid (length dims_in)) declared_spans

  pub room_value : room_values (types_of p) m room_for ≡ value_in p m a ∷ []
  room_value = ap (λ f. formed f (words_for (shape_for p a.of)) (object m (shape_for p a.of)) a.elements.block 0 Empty ∷ []) form_is

  pub room_is : is_flat (shape_for p a.of) ≡ true → IsBlock p m a → IsRoom (types_of p) m room_for
  room_is flat block =
      let s = shape_for p a.of in
      let size : form_words (form_of (declared_as h a few)) (words_for s) ≡ size_of dims_in * words_for s =
      ap (λ f. form_words f (words_for s)) form_is ∙ laid_size dims_in (words_for s) in
      record {
        live = block.live;
        long = let words = block.words in omega (arith, size, words);
        variables = (
          subst (λ f. IsForm m f (words_for s) (IsObject m s) a.elements.block 0 Empty) (sym form_is)
              (laid_empty (words_for s) (IsObject m s) (flat_empty m s flat) (length dims_in) (spans_of dims_in) a.elements.block 0),
          refl,
        );
      }

-- ---- a level of values

abbrev pub IsShort : Datum → Type 0
IsShort (datum.Scalar c) = ⊤
IsShort (datum.Block a) = length a.elements.dims.items < 2 ^ 63

abbrev pub slot_of : Global → (d : Datum) → IsShort d → Slot
slot_of h (datum.Scalar c) short = Known (constant_value c)
slot_of h (datum.Block a) short = Stood (record { block = a.elements.block; declared = declared_as h a short ∷ []; held = end })

abbrev pub AreShort : List Datum → Type 0
AreShort [] = ⊤
AreShort (d ∷ ds) = IsShort d × AreShort ds

abbrev pub slots_of : Global → (ds : List Datum) → AreShort ds → List Slot
slots_of h [] short = []
slots_of h (d ∷ ds) short = slot_of h d short.0 ∷ slots_of h ds short.1

abbrev pub AreData : Program → Live → List Datum → List Value → Type 0
AreData p m [] [] = ⊤
AreData p m (d ∷ ds) (v ∷ vs) = IsDatum p m d v × AreData p m ds vs
AreData p m ds vs = ⊥

abbrev pub data_blocks : List Datum → List ℕ
data_blocks [] = []
data_blocks (d ∷ ds) = datum_blocks d ++ data_blocks ds

module _ (p : Program) (h : Global) (m : Live) (flat : (of : Base) → is_flat (shape_for p of) ≡ true) where
  slot_is : (d : Datum) (short : IsShort d) (v : Value) → IsDatum p m d v → IsSlot (types_of p) m (slot_of h d short)
  slot_is (datum.Scalar c) short v is = tt
  slot_is (datum.Block a) short v is = room_is p h m a short (flat a.of) is.0

  slot_value : (d : Datum) (short : IsShort d) (v : Value) → IsDatum p m d v → slot_values (types_of p) m (slot_of h d short) ≡ v ∷ []
  slot_value (datum.Scalar c) short v is = ap (λ w. w ∷ []) (sym is)
  slot_value (datum.Block a) short v is = room_value p h m a short ∙ ap (λ w. w ∷ []) (sym is.1)

  slot_block : (d : Datum) (short : IsShort d) → slot_blocks (slot_of h d short) ≡ datum_blocks d
  slot_block (datum.Scalar c) short = refl
  slot_block (datum.Block a) short = refl

  slot_room : (d : Datum) (short : IsShort d) → slot_rooms (slot_of h d short) ≡ datum_blocks d
  slot_room (datum.Scalar c) short = refl
  slot_room (datum.Block a) short = refl

  slot_bare : (d : Datum) (short : IsShort d) → IsBareSlot (slot_of h d short)
  slot_bare (datum.Scalar c) short = tt
  slot_bare (datum.Block a) short = refl

  slot_number : (d : Datum) (short : IsShort d) (ss : List Slot) → numbers (slot_of h d short ∷ ss) ≡ 1 + numbers ss
  slot_number (datum.Scalar c) short ss = refl
  slot_number (datum.Block a) short ss = refl

  -- their level is sound and has these values, in these blocks
  pub level_holds : (ds : List Datum) (short : AreShort ds) (vs : List Value) → AreData p m ds vs → IsLevel (types_of p) m (slots_of h ds short)
  level_holds [] short [] are = tt
  level_holds [] short (v ∷ vs) are = absurd are
  level_holds (d ∷ ds) short [] are = absurd are
  level_holds (d ∷ ds) short (v ∷ vs) are = (slot_is d short.0 v are.0, level_holds ds short.1 vs are.1)

  pub level_value : (ds : List Datum) (short : AreShort ds) (vs : List Value) → AreData p m ds vs → level_values (types_of p) m (slots_of h ds short) ≡ vs
  level_value [] short [] are = refl
  level_value [] short (v ∷ vs) are = absurd are
  level_value (d ∷ ds) short [] are = absurd are
  level_value (d ∷ ds) short (v ∷ vs) are =
      ap (λ ws. ws ++ level_values (types_of p) m (slots_of h ds short.1)) (slot_value d short.0 v are.0) ∙ ap (λ ws. v ∷ ws) (level_value ds short.1 vs are.1)

  pub level_block : (ds : List Datum) (short : AreShort ds) → level_blocks (slots_of h ds short) ≡ data_blocks ds
  level_block [] short = refl
  level_block (d ∷ ds) short = ap (λ bs. bs ++ level_blocks (slots_of h ds short.1)) (slot_block d short.0) ∙ ap (λ bs. datum_blocks d ++ bs) (level_block ds short.1)

  pub level_room : (ds : List Datum) (short : AreShort ds) → level_rooms (slots_of h ds short) ≡ data_blocks ds
  level_room [] short = refl
  level_room (d ∷ ds) short = ap (λ bs. bs ++ level_rooms (slots_of h ds short.1)) (slot_room d short.0) ∙ ap (λ bs. datum_blocks d ++ bs) (level_room ds short.1)

  pub level_bare : (ds : List Datum) (short : AreShort ds) → IsBareLevel (slots_of h ds short)
  level_bare [] short = tt
  level_bare (d ∷ ds) short = (slot_bare d short.0, level_bare ds short.1)

  pub level_numbers : (ds : List Datum) (short : AreShort ds) → numbers (slots_of h ds short) ≡ length ds
  level_numbers [] short = refl
  level_numbers (d ∷ ds) short = slot_number d short.0 (slots_of h ds short.1) ∙ (let e = level_numbers ds short.1 in omega (arith, e))

  -- so it may begin, and the store has one level more
  pub holding_begins : (x : Rooms) (ds : List Datum) (short : AreShort ds) (vs : List Value) → AreData p m ds vs → IsSound (types_of p) m x
      → ((q : ℕ) → times q (blocks_of x) + times q (data_blocks ds) ≤ 1)
      → (store_of (types_of p) m (with_level x (slots_of h ds short))
      ≡ record { statics = (store_of (types_of p) m x).statics; levels = (store_of (types_of p) m x).levels ++ vs ∷ [] })
      × IsSound (types_of p) m (with_level x (slots_of h ds short))
  holding_begins x ds short vs are sound apart =
      let begun = levels_begin (types_of p) m m x (slots_of h ds short) sound (λ b some. refl) (level_holds ds short vs are)
      (λ q. let a = apart q in let e = ap (times q) (level_block ds short) in omega (arith, a, e)) in (
        begun.0 ∙ ap (λ ws. let s : Store = record {
          statics = (store_of (types_of p) m x).statics;
          levels = (store_of (types_of p) m x).levels ++ ws ∷ [];
        } in s) (level_value ds short vs are),
        begun.1,
      )

-- ---- the object of a scalar that is held

pub get_behind : {A : Type 0} (xs : List A) (y : A) → slice_get (xs ++ y ∷ []) (length xs) ≡ Some y
get_behind [] y = refl
get_behind (x ∷ xs) y = get_behind xs y

whole_reach : (q : Path) (c : Constant) → reach_of q (constant_value c) ≡ One
whole_reach q (constant.Number z) = refl
whole_reach q (constant.Truth b) = refl

pub held_there : (p : Program) (x : Rooms) (front behind : List Slot) (of : Base) (c : Constant) (unit : ℕ) → is_scalar_shape (shape_for p of) ≡ true
    → IsAnObject p (with_level x (front ++ Known (constant_value c) ∷ behind)) (o.Held of c)
    (to_root (Local (length x.levels) (numbers front)) of Read unit (constant_value c))
held_there p x front behind of c unit scalar = (
  refl,
  whole_reach _ c,
  refl,
  scalar,
  record {
    level = length x.levels;
    front = front;
    behind = behind;
    stands = get_behind x.levels (front ++ Known (constant_value c) ∷ behind);
    root = refl;
    steps = refl;
  },
)
