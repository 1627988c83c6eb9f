-- Objects for which words stand are there.
use Rattle.std.proofs.Common.{◌≡◌, ℕ, zero, suc, ◌+◌, List, [], ◌∷◌, ◌++◌, length, refl, sym, ap, subst, ◌∙◌, inr, arith}
use Rattle.std.specs.Prelude.{Some, slice_get, slice_index_or, pos, ℤ}
use Rattle.std.specs.List.{AllZip}
use Rattle.f3_program.specs.declared.declarations.Constant.{Constant}
use Rattle.f3_program.specs.declared.declarations.Constant.TheVariants as constant
use Rattle.f3_program.specs.declared.declarations.Kind.{Kind}
use Rattle.f3_program.specs.declared.program.Program.{Program}
use Rattle.f3_live_blocks.specs.Blocks.{Live}
use Rattle.f3_meaning_whole.specs.Value.{Value, Unallocated}
use Rattle.f3_meaning_whole.specs.Store.{Store, Path, get, part, at_root}
use Rattle.f3_meaning_whole.specs.Reference.{Reach, One, Many, Reference}
use Rattle.f3_meaning_whole.specs.Shape.{Shape, Whole, Logical, Record}
use Rattle.f3_meaning_whole.specs.Arithmetic.{constant_value}
use Rattle.f3_meaning_whole.specs.Act.{Given, Lent}
use Rattle.f3_meaning_whole.specs.Formed as formed
use Rattle.f3_rooms.specs.Held.{Held}
use Rattle.f3_rooms.specs.Forms.{words_for}
use Rattle.f3_rooms.specs.Values.{formed as formed_in, object}
use Rattle.f3_rooms.specs.Rooms.{Rooms, Slot, Known, Stands as Room, room_values, level_values, store_of}
use Rattle.f3_rooms.specs.Ways.{numbers}
use Rattle.f3_rooms.specs.Sound.{IsSound}
use Rattle.f3_rooms.proofs.Reading.{parts_are_found, behind, level_is, variables_count}
use Rattle.f3_room_arrays.specs.Elements.{StandsAt}
use Rattle.f3_code.specs.State as s
use Rattle.f3_cell_kinds.specs.Types.{CellType}
use Rattle.f3_cell_kinds.specs.Types as cell
use Rattle.f3_store_kinds.specs.There.{PathThere, AllThere, ReachThere, PassedThere, CellThere, CellsThere}
use Rattle.f3_word_cells.specs.declared.cell.Area.{Area}
use Rattle.f3_word_cells.specs.declared.cell.Object.{Object}
use Rattle.f3_word_cells.specs.declared.cell.Object.TheVariants as o
use Rattle.f3_word_cells.specs.declared.cell.Passed.{Passed}
use Rattle.f3_word_cells.specs.declared.cell.Passed.TheVariants as passed
use Rattle.f3_word_cells.specs.declared.cell.Cell.{Cell}
use Rattle.f3_word_cells.specs.declared.cell.Cell.TheVariants as c
use Rattle.f3_word_cells.specs.declared.state.Name.{Name}
use Rattle.f3_word_cells.specs.Areas.{types_of, shape_for, IsHeld, AreThere, IsObject}
use Rattle.f3_word_cells.specs.declared.cell.Here.{Here}
use Rattle.f3_word_cells.specs.States.{AreKnown, IsKnown}
use Rattle.f3_word_cells.specs.Cells.{IsPassed, IsCell, AreCells, names_under, rooms_under, here_under, here_beneath}
use Rattle.f3_word_cells.proofs.Within.{AreRooms, object_within, rooms_beneath, rooms_same, rooms_through}
use Rattle.f3_meaning_whole.specs.Act as act
use Rattle.f3_desc.specs.Descriptor.{places}

object_there : (m : Live) (z : Shape) (b at : ℕ) (h : Held) → object m z b at h ≡ Unallocated → ⊥
object_there m Whole b at h e = cc
object_there m Logical b at h e = cc
object_there m (Record t parts) b at h e = cc

constant_there : (k : Constant) → constant_value k ≡ Unallocated → ⊥
constant_there (constant.Number z) e = cc
constant_there (constant.Truth b) e = cc

-- ---- a held scalar

index_at : {A : Type 0} (xs : List A) (i : ℕ) (y z : A) → slice_get xs i ≡ Some y → slice_index_or xs i z ≡ y
index_at [] i y z e = cc
index_at (x ∷ xs) zero y z e = cc
index_at (x ∷ xs) (suc i) y z e = index_at xs i y z e

index_more : {A : Type 0} (x : A) (xs : List A) (n : ℕ) (z : A) → slice_index_or (x ∷ xs) (1 + n) z ≡ slice_index_or xs n z
index_more x xs n z = let e : 1 + n ≡ suc n = omega arith in ap (λ i. slice_index_or (x ∷ xs) i z) e

level_holds : (ts : List Shape) (m : Live) (front rest : List Slot) (v : Value) →
    slice_index_or (level_values ts m (front ++ Known v ∷ rest)) (numbers front) Unallocated ≡ v
level_holds ts m [] rest v = refl
level_holds ts m (Known u ∷ front) rest v = index_more u (level_values ts m (front ++ Known v ∷ rest)) (numbers front) Unallocated ∙ level_holds ts m front rest v
level_holds ts m (Room r ∷ front) rest v =
    let n = variables_count ts m r.declared r.block 0 r.held in
    behind (room_values ts m r) (level_values ts m (front ++ Known v ∷ rest)) (length r.declared + numbers front) (omega (arith, n))
    ∙ ap (λ i. slice_index_or (level_values ts m (front ++ Known v ∷ rest)) i Unallocated) (omega (arith, n))
    ∙ level_holds ts m front rest v

pub held_is : (ts : List Shape) (m : Live) (x : Rooms) (q : Path) (v : Value) → IsHeld x q v → get (store_of ts m x) q ≡ v
held_is ts m x q v h =
    ap (λ way. part (at_root (store_of ts m x) q.root) way) h.steps
    ∙ ap (λ r. at_root (store_of ts m x) r) h.root
    ∙ ap (λ vs. slice_index_or vs (numbers h.front) Unallocated) (level_is ts m x.levels h.level
    ∙ ap (level_values ts m) (index_at x.levels h.level (h.front ++ Known v ∷ h.behind) [] h.stands))
    ∙ level_holds ts m h.front h.behind v

-- ---- objects

module _ (p : Program) (m : Live) (x : Rooms) (sound : IsSound (types_of p) m x) where
  abbrev store : Store
  store = store_of (types_of p) m x

  path_there : (b : ℕ) (z : Shape) (place : ℤ) (q : Path) → StandsAt (types_of p) x b z place q → PathThere store q
  path_there b z place q at none =
      let f = at.part in
      object_there m f.shape f.block f.at f.held
      (sym (ap (λ y. formed_in y (words_for f.shape) (object m f.shape) f.block f.at f.held) at.form)
      ∙ sym (parts_are_found (types_of p) m x q.root q.steps f at.leads) ∙ none)

  all_there : (b : ℕ) (z : Shape) (places : List ℤ) (qs : List Path) → AllZip (StandsAt (types_of p) x b z) places qs → AllThere store qs
  all_there b z [] [] told = tt
  all_there b z [] (q ∷ qs) told = absurd told
  all_there b z (y ∷ ys) [] told = tt
  all_there b z (y ∷ ys) (q ∷ qs) told = (path_there b z y q told.0, all_there b z ys qs told.1)

  reach_there : (a : Area) (k : Kind) (q : Path) (reach : Reach) → AreThere p x a q reach → ReachThere store k q reach
  reach_there a k q One there = inr (path_there (a.elements).block (shape_for p a.of) (pos (a.elements).offset) q there.1)
  reach_there a k q (Many ss ps) there = all_there (a.elements).block (shape_for p a.of) (places a.elements) ps there.2

  object_is_there : (z : Object) (k : Kind) (r : Reference) → IsObject p x z r → ReachThere store k r.path r.reach
  object_is_there (o.Held of c) k r is =
      subst (λ y. ReachThere store k r.path y) (sym is.1)
      (inr (λ none. constant_there c (sym (held_is (types_of p) m x r.path (constant_value c) is.4) ∙ none)))
  object_is_there (o.Stands a) k r is = reach_there a k r.path r.reach is.1

  module _ (u : Rooms) (rooms : AreRooms u x) where
    passed_there : (ns : List Name) (g : formed.Given) (z : Passed) (y : act.Passed) → IsPassed p u m ns z y → PassedThere store g y
    passed_there ns g (passed.Given i d) (Given j v) is = tt
    passed_there ns g (passed.Given i d) (Lent j r) is = absurd is
    passed_there ns g (passed.Lent i z) (Given j v) is = tt
    passed_there ns g (passed.Lent i z) (Lent j r) is = object_is_there z g.kind r (object_within p u x rooms z r is.1)

    object_there_in : (ns : List Name) (k : Kind) (z : Cell) (r : Reference) → IsKnown p (cell.Object k) z → IsCell p u m ns z (s.Object r) → ReachThere store k r.path r.reach
    object_there_in ns k (c.Datum d) r known is = absurd is
    object_there_in ns k (c.Object z) r known is = object_is_there z k r (object_within p u x rooms z r is)
    object_there_in ns k (c.Argument z) r known is = absurd is
    object_there_in ns k (c.Choice z) r known is = absurd is
    object_there_in ns k (c.Bound z) r known is = absurd is
    object_there_in ns k (c.Bounds z) r known is = absurd is
    object_there_in ns k (c.Turns z w) r known is = absurd is
    object_there_in ns k (c.Objects z) r known is = absurd is
    object_there_in ns k (c.Selector z) r known is = absurd is
    object_there_in ns k (c.Level z w) r known is = absurd is
    object_there_in ns k (c.Outside z) r known is = absurd is
    object_there_in ns k (c.Going z) r known is = absurd is
    object_there_in ns k (c.Each a n) r known is = absurd known

    argument_there_in : (ns : List Name) (g : formed.Given) (z : Cell) (y : act.Passed) → IsCell p u m ns z (s.Argument y) → PassedThere store g y
    argument_there_in ns g (c.Datum d) y is = absurd is
    argument_there_in ns g (c.Object z) y is = absurd is
    argument_there_in ns g (c.Argument z) y is = passed_there ns g z y is
    argument_there_in ns g (c.Choice z) y is = absurd is
    argument_there_in ns g (c.Bound z) y is = absurd is
    argument_there_in ns g (c.Bounds z) y is = absurd is
    argument_there_in ns g (c.Turns z w) y is = absurd is
    argument_there_in ns g (c.Objects z) y is = absurd is
    argument_there_in ns g (c.Selector z) y is = absurd is
    argument_there_in ns g (c.Level z w) y is = absurd is
    argument_there_in ns g (c.Outside z) y is = absurd is
    argument_there_in ns g (c.Going z) y is = absurd is
    argument_there_in ns g (c.Each a n) y is = absurd is

    cell_there : (ns : List Name) (y : CellType) (z : Cell) (e : s.Cell) → IsKnown p y z → IsCell p u m ns z e → CellThere store y e
    cell_there ns (cell.Object k) z (s.Datum v) known is = tt
    cell_there ns (cell.Object k) z (s.Object r) known is = object_there_in ns k z r known is
    cell_there ns (cell.Object k) z (s.Argument y) known is = tt
    cell_there ns (cell.Object k) z (s.Choice y) known is = tt
    cell_there ns (cell.Object k) z (s.Bound y) known is = tt
    cell_there ns (cell.Object k) z (s.Bounds ss) known is = tt
    cell_there ns (cell.Object k) z (s.Extent y) known is = tt
    cell_there ns (cell.Object k) z (s.Status y) known is = tt
    cell_there ns (cell.Object k) z (s.Turns n y) known is = tt
    cell_there ns (cell.Object k) z (s.Elements ps) known is = tt
    cell_there ns (cell.Object k) z (s.Objects rs) known is = tt
    cell_there ns (cell.Object k) z (s.To n y) known is = tt
    cell_there ns (cell.Object k) z (s.Selector y) known is = tt
    cell_there ns (cell.Object k) z (s.Level n rs) known is = tt
    cell_there ns (cell.Object k) z (s.Outside y) known is = tt
    cell_there ns (cell.Object k) z (s.Going y) known is = tt
    cell_there ns (cell.Argument g) z (s.Datum v) known is = tt
    cell_there ns (cell.Argument g) z (s.Object r) known is = tt
    cell_there ns (cell.Argument g) z (s.Argument y) known is = argument_there_in ns g z y is
    cell_there ns (cell.Argument g) z (s.Choice y) known is = tt
    cell_there ns (cell.Argument g) z (s.Bound y) known is = tt
    cell_there ns (cell.Argument g) z (s.Bounds ss) known is = tt
    cell_there ns (cell.Argument g) z (s.Extent y) known is = tt
    cell_there ns (cell.Argument g) z (s.Status y) known is = tt
    cell_there ns (cell.Argument g) z (s.Turns n y) known is = tt
    cell_there ns (cell.Argument g) z (s.Elements ps) known is = tt
    cell_there ns (cell.Argument g) z (s.Objects rs) known is = tt
    cell_there ns (cell.Argument g) z (s.To n y) known is = tt
    cell_there ns (cell.Argument g) z (s.Selector y) known is = tt
    cell_there ns (cell.Argument g) z (s.Level n rs) known is = tt
    cell_there ns (cell.Argument g) z (s.Outside y) known is = tt
    cell_there ns (cell.Argument g) z (s.Going y) known is = tt
    cell_there ns (cell.Datum k) z e known is = tt
    cell_there ns (cell.Each array number k) z e known is = tt
    cell_there ns (cell.Choice b) z e known is = tt
    cell_there ns cell.Bound z e known is = tt
    cell_there ns (cell.Bounds rank) z e known is = tt
    cell_there ns cell.Extent z e known is = tt
    cell_there ns cell.Status z e known is = tt
    cell_there ns cell.Turns z e known is = tt
    cell_there ns (cell.Elements of) z e known is = tt
    cell_there ns (cell.Objects ks) z e known is = tt
    cell_there ns (cell.Selector k) z e known is = tt
    cell_there ns (cell.Level ks) z e known is = tt
    cell_there ns (cell.Outside scope) z e known is = tt
    cell_there ns cell.Going z e known is = tt

  cells_there_in : (Rest : Rooms → List Name → Type 0) (y : Rooms) → AreRooms y x → (ns : List Name) (h : Here) (here : act.Here) (ts : List CellType)
      (zs : List Cell) (es : List s.Cell) → AreKnown p ts zs → AreCells p m Rest y ns h here zs es → CellsThere store ts es
  cells_there_in Rest y rooms ns h here [] zs es known are = tt
  cells_there_in Rest y rooms ns h here (t ∷ ts) [] [] known are = tt
  cells_there_in Rest y rooms ns h here (t ∷ ts) [] (e ∷ es) known are = absurd are
  cells_there_in Rest y rooms ns h here (t ∷ ts) (z ∷ zs) [] known are = tt
  cells_there_in Rest y rooms ns h here (t ∷ ts) (z ∷ zs) (e ∷ es) known are = (
    cell_there y rooms ns t z e known.0 are.0,
    cells_there_in Rest (rooms_under z y) (rooms_through (rooms_under z y) y x (rooms_beneath z y) rooms) (names_under z ns) (here_under z h)
        (here_beneath z e here) ts zs es known.1 are.2,
  )

  pub cells_there : (Rest : Rooms → List Name → Type 0) (ns : List Name) (h : Here) (here : act.Here) (ts : List CellType) (zs : List Cell) (es : List s.Cell)
      → AreKnown p ts zs → AreCells p m Rest x ns h here zs es → CellsThere store ts es
  cells_there Rest ns h here ts zs es known are = cells_there_in Rest x (rooms_same x) ns h here ts zs es known are
