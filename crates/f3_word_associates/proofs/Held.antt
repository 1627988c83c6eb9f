-- Values that are held for associate names stand on a level of their own.
use Rattle.std.proofs.Common.{◌≡◌, ◌∙◌, ℕ, zero, suc, ◌+◌, ◌<◌, ◌≤◌, ◌^◌, true, List, [], ◌∷◌, ◌++◌, length, map, append_assoc, refl, sym, ap, subst, arith}
use Rattle.std.specs.Prelude.{◌⊎◌}
use Rattle.std.specs.Prelude.{pos, Some, slice_get, slice_index_or}
use Rattle.std.specs.List.{All}
use Rattle.std.specs.declared.alloc.Global.{Global}
use Rattle.std.proofs.lemmas.List.{length-append}
use Rattle.f3_program.specs.declared.declarations.Base.{Base}
use Rattle.f3_program.specs.declared.declarations.Base.TheVariants as base
use Rattle.f3_program.specs.declared.program.Program.{Program}
use Rattle.f3_live_blocks.specs.Blocks.{Live}
use Rattle.f3_desc.specs.declared.descriptor.Dim.{Dim}
use Rattle.f3_desc.specs.Laws.{IsContiguous, size_of}
use Rattle.f3_meaning_whole.specs.Act.{to_root, whole}
use Rattle.f3_meaning_whole.specs.Arithmetic.{constant_value}
use Rattle.f3_meaning_whole.specs.Exec.{associates, held_by}
use Rattle.f3_meaning_whole.specs.Exec as exec
use Rattle.f3_meaning_whole.specs.Reference.{Read, reach_of}
use Rattle.f3_meaning_whole.specs.Shape.{Shape, Whole, shape_in}
use Rattle.f3_meaning_whole.specs.Store.{Local, get}
use Rattle.f3_meaning_whole.specs.Value.{Value}
use Rattle.f3_rooms.specs.Flat.{is_flat}
use Rattle.f3_rooms.specs.Forms.{Laid, words_for}
use Rattle.f3_rooms.specs.Held.{Empty}
use Rattle.f3_rooms.specs.Laws.{with_level}
use Rattle.f3_rooms.specs.Places.{Found, found}
use Rattle.f3_rooms.specs.Rooms.{Known, Rooms, Slot, Stands as Stood, store_of}
use Rattle.f3_rooms.specs.Values.{formed, object}
use Rattle.f3_rooms.specs.Ways.{numbers, settled, variable_in}
use Rattle.f3_rooms.proofs.Reading.{parts_are_found}
use Rattle.f3_rooms.proofs.Whole.{locals_stand}
use Rattle.f3_word_cells.specs.declared.cell.Area.{Area}
use Rattle.f3_word_cells.specs.declared.cell.Association.{Association}
use Rattle.f3_word_cells.specs.declared.cell.Association.TheVariants as association
use Rattle.f3_word_cells.specs.declared.cell.Datum.{Datum}
use Rattle.f3_word_cells.specs.declared.cell.Datum.TheVariants as datum
use Rattle.f3_word_cells.specs.declared.cell.Cell.TheVariants as c
use Rattle.f3_word_cells.specs.declared.cell.Object.{Object}
use Rattle.f3_word_cells.specs.declared.cell.Object.TheVariants as o
use Rattle.f3_word_cells.specs.declared.state.Name.{Name}
use Rattle.f3_word_cells.specs.Areas.{AreThere, IsBlock, IsDatum, IsObject, shape_for, spans_of, types_of, value_in}
use Rattle.f3_word_cells.specs.Cells.{AreNames}
use Rattle.f3_word_cells.specs.States.{cells_blocks, datum_blocks}
use Rattle.f3_word_cells.proofs.Within.{AreRooms, object_within}
use Rattle.f3_word_areas.specs.Parts.{AreDimsOf}
use Rattle.f3_word_areas.proofs.There.{part-there}
use Rattle.f3_word_calls.proofs.Holding.{AreData, AreShort, IsShort, data_blocks, declared_as, form_is, get_behind, held_there, room_for, slot_of, slots_of}
use Rattle.f3_word_associates.specs.Names.{AreNamed, IsHolding}
use Rattle.f3_word_associates.proofs.Selecting.{AreMet, Suits}

-- ---- types without allocatable components

all_flat : (ts : List Shape) → All (λ s. is_flat s ≡ true) ts → (t : ℕ) → is_flat (slice_index_or ts t Whole) ≡ true
all_flat [] all t = refl
all_flat (s ∷ ts) all zero = all 0 s (omega arith)
all_flat (s ∷ ts) all (suc t) = all_flat ts (λ k d lt. all (suc k) d (omega (arith, lt))) t

pub flat_for : (ts : List Shape) → All (λ s. is_flat s ≡ true) ts → (of : Base) → is_flat (shape_in ts of) ≡ true
flat_for ts all base.Integer = refl
flat_for ts all base.Long = refl
flat_for ts all base.Logical = refl
flat_for ts all (base.Derived t) = all_flat ts all t

-- ---- the values that are held

abbrev pub data_of : List Association → List Datum
data_of [] = []
data_of (association.Holds of d ∷ gs) = d ∷ data_of gs
data_of (association.Means z ∷ gs) = data_of gs

pub data_short : (gs : List Association) (ns : List Name) → AreNamed (map c.Selector gs) ns → AreShort (data_of gs)
data_short [] ns are = tt
data_short (a ∷ gs) [] are = absurd are
data_short (association.Means z ∷ gs) (n ∷ ns) are = data_short gs ns are.1
data_short (association.Holds of (datum.Scalar k) ∷ gs) (n ∷ ns) are = (tt, data_short gs ns are.1)
data_short (association.Holds of (datum.Block a) ∷ gs) (n ∷ ns) are = (let few = are.0.1.1 in omega (arith, few), data_short gs ns are.1)

pub data_cells : (gs : List Association) → cells_blocks (map c.Selector gs) ≡ data_blocks (data_of gs)
data_cells [] = refl
data_cells (association.Means z ∷ gs) = data_cells gs
data_cells (association.Holds of d ∷ gs) = ap (λ bs. datum_blocks d ++ bs) (data_cells gs)

data_one : (d : Datum) → length (datum_blocks d) ≤ 1
data_one (datum.Scalar k) = omega arith
data_one (datum.Block a) = omega arith

pub data_few : (gs : List Association) → length (data_blocks (data_of gs)) ≤ length gs
data_few [] = omega arith
data_few (association.Means z ∷ gs) = let e = data_few gs in omega (arith, e)
data_few (association.Holds of d ∷ gs) =
    let e = data_few gs in
    let f = length-append (datum_blocks d) (data_blocks (data_of gs)) in
    let g = data_one d in
    omega (arith, e, f, g)

pub data_met : (p : Program) (m : Live) (x : Rooms) (gs : List Association) (bs : List exec.Association) → AreMet p m x gs bs
    → AreData p m (data_of gs) (held_by bs)
data_met p m x [] [] are = tt
data_met p m x [] (b ∷ bs) are = absurd are
data_met p m x (a ∷ gs) [] are = absurd are
data_met p m x (association.Means z ∷ gs) (exec.Means r ∷ bs) are = data_met p m x gs bs are.1
data_met p m x (association.Holds of d ∷ gs) (exec.Holds of' v ∷ bs) are = (are.0.1, data_met p m x gs bs are.1)
data_met p m x (association.Means z ∷ gs) (exec.Holds of v ∷ bs) are = absurd are.0
data_met p m x (association.Holds of d ∷ gs) (exec.Means r ∷ bs) are = absurd are.0

-- ---- their objects

get_more : {A : Type 0} (xs ys : List A) (l : ℕ) (y : A) → slice_get xs l ≡ Some y → slice_get (xs ++ ys) l ≡ Some y
get_more [] ys l y e = absurd (cc)
get_more (x ∷ xs) ys zero y e = e
get_more (x ∷ xs) ys (suc l) y e = get_more xs ys l y e

pub rooms_more : (x : Rooms) (ss : List Slot) → AreRooms x (with_level x ss)
rooms_more x ss = record { statics = refl; levels = λ l zs e. get_more x.levels (ss ∷ []) l zs e }

settled_is : (ds : List Dim) → settled (Laid (length ds) (spans_of ds)) ≡ Laid (length ds) (spans_of ds)
settled_is [] = refl
settled_is (d ∷ ds) = refl

dims_are : (n : ℕ) (ds : List Dim) → (size_of ds ≡ 0) ⊎ IsContiguous (pos n) ds → AreDimsOf n (Laid (length ds) (spans_of ds)) ds
dims_are n [] apart = (refl, refl)
dims_are n (d ∷ ds) apart = ((λ e. cc), refl, apart)

module _ (p : Program) (h : Global) (m : Live) (x : Rooms) where
  module _ (front behind : List Slot) (of : Base) (a : Area) (few : length a.elements.dims.items < 2 ^ 63) (block : IsBlock p m a)
      (suits : shape_for p a.of ≡ shape_for p of) where
    abbrev inside : Rooms
    inside = with_level x (front ++ Stood (room_for p h m a few) ∷ behind)

    abbrev part : Found
    part = variable_in (types_of p) (room_for p h m a few) 0 (declared_as h a few)

    form_so : part.form ≡ Laid (length a.elements.dims.items) (spans_of a.elements.dims.items)
    form_so = ap settled (form_is p h m a few) ∙ settled_is a.elements.dims.items

    leads : found (types_of p) inside (Local (length x.levels) (numbers front)) [] ≡ Some part
    leads =
        let number : numbers front + 0 ≡ numbers front = omega arith in
        ap (λ k. found (types_of p) inside (Local (length x.levels) k) []) (sym number)
        ∙ locals_stand (types_of p) inside (length x.levels) front behind (room_for p h m a few)
        (get_behind x.levels (front ++ Stood (room_for p h m a few) ∷ behind)) 0 (declared_as h a few) refl

    value_there : get (store_of (types_of p) m inside) (whole (Local (length x.levels) (numbers front))) ≡ value_in p m a
    value_there =
        parts_are_found (types_of p) m inside (Local (length x.levels) (numbers front)) [] part leads
        ∙ ap (λ f. formed f (words_for (shape_for p a.of)) (object m (shape_for p a.of)) a.elements.block 0 Empty) form_so

    pub block_there : (v : Value) (unit : ℕ) → v ≡ value_in p m a
        → IsObject p inside (o.Stands (record { elements = a.elements; of = of })) (to_root (Local (length x.levels) (numbers front)) of Read unit v)
    block_there v unit is =
        let b : Area = record { elements = a.elements; of = of } in
        let q = whole (Local (length x.levels) (numbers front)) in
        let there : AreThere p inside b q (reach_of q (get (store_of (types_of p) m inside) q)) =
        part-there p m inside (Local (length x.levels) (numbers front)) [] part b leads (record {
          block = refl;
          offset = block.offset;
          shape = sym suits;
          dims = subst (λ f. AreDimsOf (words_for (shape_for p a.of)) f a.elements.dims.items) (sym form_so)
              (dims_are (words_for (shape_for p a.of)) a.elements.dims.items block.contiguous);
        }) in
        (refl, subst (λ (y : Value). AreThere p inside b q (reach_of q y)) (value_there ∙ sym is) there)

  slot_behind : (front : List Slot) (d : Datum) (short : IsShort d) → numbers (front ++ slot_of h d short ∷ []) ≡ suc (numbers front)
  slot_behind [] (datum.Scalar k) short = refl
  slot_behind [] (datum.Block a) short = refl
  slot_behind (Known v ∷ front) d short = let e = slot_behind front d short in omega (arith, e)
  slot_behind (Stood r ∷ front) d short = let e = slot_behind front d short in omega (arith, e)

  -- the object of a value that is held, where others stand in front of it
  holding_is : (front behind : List Slot) (of of' : Base) (d : Datum) (short : IsShort d) (v : Value) (z : Object) (slot unit : ℕ) (all : List Slot)
      → slot ≡ numbers front → all ≡ front ++ slot_of h d short ∷ behind → (of' ≡ of) × IsDatum p m d v × Suits p m x of d → IsHolding of d z
      → IsObject p (with_level x all) z (to_root (Local (length x.levels) slot) of' Read unit v)
  holding_is front behind of of' (datum.Scalar k) short v z slot unit all at is met named =
      subst (λ j. IsObject p (with_level x all) z (to_root (Local (length x.levels) slot) j Read unit v)) (sym met.0)
      (subst (λ y. IsObject p (with_level x all) z (to_root (Local (length x.levels) slot) of Read unit y)) (sym met.1)
      (subst (λ j. IsObject p (with_level x all) z (to_root (Local (length x.levels) j) of Read unit (constant_value k))) (sym at)
      (subst (λ ss. IsObject p (with_level x ss) z (to_root (Local (length x.levels) (numbers front)) of Read unit (constant_value k))) (sym is)
      (subst (λ y. IsObject p (with_level x (front ++ Known (constant_value k) ∷ behind)) y (to_root (Local (length x.levels) (numbers front)) of Read unit (constant_value k)))
      (sym named) (held_there p x front behind of k unit met.2)))))
  holding_is front behind of of' (datum.Block a) short v z slot unit all at is met named =
      subst (λ j. IsObject p (with_level x all) z (to_root (Local (length x.levels) slot) j Read unit v)) (sym met.0)
      (subst (λ j. IsObject p (with_level x all) z (to_root (Local (length x.levels) j) of Read unit v)) (sym at)
      (subst (λ ss. IsObject p (with_level x ss) z (to_root (Local (length x.levels) (numbers front)) of Read unit v)) (sym is)
      (subst (λ y. IsObject p (with_level x (front ++ slot_of h (datum.Block a) short ∷ behind)) y (to_root (Local (length x.levels) (numbers front)) of Read unit v))
      (sym named.0) (block_there front behind of a short met.1.0 met.2 v unit met.1.1))))

  -- the objects of the names
  pub names_are : (gs : List Association) (bs : List exec.Association) (ns : List Name) (front : List Slot) (slot unit : ℕ) (short : AreShort (data_of gs))
      (all : List Slot) → slot ≡ numbers front → all ≡ front ++ slots_of h (data_of gs) short → AreMet p m x gs bs → AreNamed (map c.Selector gs) ns
      → AreNames p (with_level x all) ns (associates bs (length x.levels) slot unit)
  names_are [] [] [] front slot unit short all at is met named = tt
  names_are [] [] (n ∷ ns) front slot unit short all at is met named = absurd named
  names_are [] (b ∷ bs) ns front slot unit short all at is met named = absurd met
  names_are (a ∷ gs) [] ns front slot unit short all at is met named = absurd met
  names_are (a ∷ gs) (b ∷ bs) [] front slot unit short all at is met named = absurd named
  names_are (association.Means z ∷ gs) (exec.Means r ∷ bs) (n ∷ ns) front slot unit short all at is met named = (
    named.0.1 p (with_level x all) r (object_within p x (with_level x all) (rooms_more x all) z r met.0),
    names_are gs bs ns front slot unit short all at is met.1 named.1,
  )
  names_are (association.Holds of d ∷ gs) (exec.Holds of' v ∷ bs) (n ∷ ns) front slot unit short all at is met named = (
    holding_is front (slots_of h (data_of gs) short.1) of of' d short.0 v n.object slot unit all at is met.0 named.0.1,
    names_are gs bs ns (front ++ slot_of h d short.0 ∷ []) (suc slot) unit short.1 all (ap suc at ∙ sym (slot_behind front d short.0))
        (is ∙ sym (append_assoc front (slot_of h d short.0 ∷ []) (slots_of h (data_of gs) short.1))) met.1 named.1,
  )
  names_are (association.Means z ∷ gs) (exec.Holds of v ∷ bs) (n ∷ ns) front slot unit short all at is met named = absurd met.0
  names_are (association.Holds of d ∷ gs) (exec.Means r ∷ bs) (n ∷ ns) front slot unit short all at is met named = absurd met.0
