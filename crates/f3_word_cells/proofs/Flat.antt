-- Cells that are no construct's: beneath them stands what stands with them.
use Rattle.std.proofs.Common.{List}
use Rattle.std.specs.Prelude.{⊤}
use Rattle.f3_program.specs.declared.declarations.Derived.{Derived}
use Rattle.f3_program.specs.declared.program.Program.{Program}
use Rattle.f3_live_blocks.specs.Blocks.{Live}
use Rattle.f3_meaning_whole.specs.Act as m
use Rattle.f3_code.specs.State as s
use Rattle.f3_cell_kinds.specs.Types.{CellType, sort_of_type}
use Rattle.f3_cell_kinds.specs.Types as cell
use Rattle.f3_cell_kinds.specs.Holds.{Is}
use Rattle.f3_store_kinds.specs.Clean.{IsPlain}
use Rattle.f3_rooms.specs.Rooms.{Rooms}
use Rattle.f3_word_cells.specs.declared.cell.Here.{Here}
use Rattle.f3_word_cells.specs.declared.cell.Cell.{Cell}
use Rattle.f3_word_cells.specs.declared.cell.Cell.TheVariants as c
use Rattle.f3_word_cells.specs.declared.state.Name.{Name}
use Rattle.f3_word_cells.specs.Cells.{IsCell, IsWithin, here_beneath, here_under, names_under, rooms_under}

-- neither the level of an ASSOCIATE nor what was around a construct
abbrev pub IsFlat : s.Cell → Type 0
IsFlat (s.Level level rs) = ⊥
IsFlat (s.Outside outer) = ⊥
IsFlat b = ⊤

-- what goes from the stack by itself is so
pub plain_is_flat : (types : List Derived) (x : CellType) (b : s.Cell) → IsPlain (sort_of_type x) → Is types x b → IsFlat b
plain_is_flat types (cell.Datum k) (s.Datum v) plain is = tt
plain_is_flat types (cell.Datum k) b plain is = absurd is
plain_is_flat types (cell.Object k) (s.Object r) plain is = tt
plain_is_flat types (cell.Object k) b plain is = absurd is
plain_is_flat types (cell.Each array n k) (s.Object r) plain is = tt
plain_is_flat types (cell.Each array n k) b plain is = absurd is
plain_is_flat types (cell.Argument g) (s.Argument a) plain is = tt
plain_is_flat types (cell.Argument g) b plain is = absurd is
plain_is_flat types (cell.Choice k) (s.Choice z) plain is = tt
plain_is_flat types (cell.Choice k) b plain is = absurd is
plain_is_flat types cell.Bound (s.Bound z) plain is = tt
plain_is_flat types cell.Bound b plain is = absurd is
plain_is_flat types (cell.Bounds r) (s.Bounds ss) plain is = tt
plain_is_flat types (cell.Bounds r) b plain is = absurd is
plain_is_flat types cell.Extent (s.Extent e) plain is = tt
plain_is_flat types cell.Extent b plain is = absurd is
plain_is_flat types cell.Status (s.Status e) plain is = tt
plain_is_flat types cell.Status b plain is = absurd is
plain_is_flat types cell.Turns (s.Turns n z) plain is = tt
plain_is_flat types cell.Turns b plain is = absurd is
plain_is_flat types (cell.Elements o) (s.Elements es) plain is = tt
plain_is_flat types (cell.Elements o) b plain is = absurd is
plain_is_flat types (cell.Objects ks) (s.Objects rs) plain is = tt
plain_is_flat types (cell.Objects ks) b plain is = absurd is
plain_is_flat types (cell.Selector k) (s.Selector a) plain is = tt
plain_is_flat types (cell.Selector k) b plain is = absurd is
plain_is_flat types (cell.Level ks) b plain is = absurd plain
plain_is_flat types (cell.Outside o) b plain is = absurd plain
plain_is_flat types cell.Going (s.Going f) plain is = tt
plain_is_flat types cell.Going b plain is = absurd is

module _ (p : Program) (live : Live) where
  -- beneath, and with it
  pub flat_under : (Holds : Rooms → List Name → Here → m.Here → Type 0) (x : Rooms) (ns : List Name) (h : Here) (here : m.Here) (a : Cell) (b : s.Cell)
      → IsCell p x live ns a b → IsFlat b → Holds (rooms_under a x) (names_under a ns) (here_under a h) (here_beneath a b here) → Holds x ns h here
  flat_under Holds x ns h here (c.Datum d) b is flat holds = holds
  flat_under Holds x ns h here (c.Object d) b is flat holds = holds
  flat_under Holds x ns h here (c.Each d e) b is flat holds = holds
  flat_under Holds x ns h here (c.Argument d) b is flat holds = holds
  flat_under Holds x ns h here (c.Choice d) b is flat holds = holds
  flat_under Holds x ns h here (c.Bound d) b is flat holds = holds
  flat_under Holds x ns h here (c.Bounds d) b is flat holds = holds
  flat_under Holds x ns h here (c.Turns d e) b is flat holds = holds
  flat_under Holds x ns h here (c.Objects d) b is flat holds = holds
  flat_under Holds x ns h here (c.Selector d) b is flat holds = holds
  flat_under Holds x ns h here (c.Level d e) (s.Level k rs) is flat holds = absurd flat
  flat_under Holds x ns h here (c.Level d e) b is flat holds = absurd is
  flat_under Holds x ns h here (c.Outside d) (s.Outside o) is flat holds = absurd flat
  flat_under Holds x ns h here (c.Outside d) b is flat holds = absurd is
  flat_under Holds x ns h here (c.Going d) b is flat holds = holds

  pub flat_above : (Holds : Rooms → List Name → Here → m.Here → Type 0) (x : Rooms) (ns : List Name) (h : Here) (here : m.Here) (a : Cell) (b : s.Cell)
      → IsCell p x live ns a b → IsFlat b
      → IsWithin p live x ns h here a × (Holds x ns h here → Holds (rooms_under a x) (names_under a ns) (here_under a h) (here_beneath a b here))
  flat_above Holds x ns h here (c.Datum d) b is flat = (tt, λ holds. holds)
  flat_above Holds x ns h here (c.Object d) b is flat = (tt, λ holds. holds)
  flat_above Holds x ns h here (c.Each d e) b is flat = (tt, λ holds. holds)
  flat_above Holds x ns h here (c.Argument d) b is flat = (tt, λ holds. holds)
  flat_above Holds x ns h here (c.Choice d) b is flat = (tt, λ holds. holds)
  flat_above Holds x ns h here (c.Bound d) b is flat = (tt, λ holds. holds)
  flat_above Holds x ns h here (c.Bounds d) b is flat = (tt, λ holds. holds)
  flat_above Holds x ns h here (c.Turns d e) b is flat = (tt, λ holds. holds)
  flat_above Holds x ns h here (c.Objects d) b is flat = (tt, λ holds. holds)
  flat_above Holds x ns h here (c.Selector d) b is flat = (tt, λ holds. holds)
  flat_above Holds x ns h here (c.Level d e) (s.Level k rs) is flat = absurd flat
  flat_above Holds x ns h here (c.Level d e) b is flat = absurd is
  flat_above Holds x ns h here (c.Outside d) (s.Outside o) is flat = absurd flat
  flat_above Holds x ns h here (c.Outside d) b is flat = absurd is
  flat_above Holds x ns h here (c.Going d) b is flat = (tt, λ holds. holds)
