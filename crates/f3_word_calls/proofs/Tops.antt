-- Which cell is one of the machine over values.
use Rattle.std.proofs.Common.{◌≡◌, ℕ, List, [], ◌∷◌, refl}
use Rattle.f3_program.specs.declared.program.Program.{Program}
use Rattle.f3_live_blocks.specs.Blocks.{Live}
use Rattle.f3_meaning_whole.specs.Value.{Value}
use Rattle.f3_meaning_whole.specs.Reference.{Reference}
use Rattle.f3_meaning_whole.specs.Exec.{Flow}
use Rattle.f3_meaning_whole.specs.Act as m
use Rattle.f3_code.specs.State as s
use Rattle.f3_rooms.specs.Rooms.{Rooms}
use Rattle.f3_cells.specs.declared.cell.Flow.{Flow as Way}
use Rattle.f3_word_cells.specs.declared.cell.Here.{Here}
use Rattle.f3_word_cells.specs.declared.cell.Range.{Range}
use Rattle.f3_word_cells.specs.declared.cell.Datum.{Datum}
use Rattle.f3_word_cells.specs.declared.cell.Cell.{Cell}
use Rattle.f3_word_cells.specs.declared.cell.Cell.TheVariants as c
use Rattle.f3_word_cells.specs.declared.state.Name.{Name}
use Rattle.f3_word_cells.specs.Cells.{IsCell, AreCells}
use Rattle.f3_word_calls.specs.Taken.{level_cell}

module _ (p : Program) (live : Live) (x : Rooms) where
  pub objects_cell : (ns : List Name) (a : Cell) (rs : List Reference) → IsCell p x live ns a (s.Objects rs) → (range : Range) × (a ≡ c.Objects range)
  objects_cell ns (c.Datum d) rs is = absurd is
  objects_cell ns (c.Object d) rs is = absurd is
  objects_cell ns (c.Each d e) rs is = absurd is
  objects_cell ns (c.Argument d) rs is = absurd is
  objects_cell ns (c.Choice d) rs is = absurd is
  objects_cell ns (c.Bound d) rs is = absurd is
  objects_cell ns (c.Bounds d) rs is = absurd is
  objects_cell ns (c.Turns d e) rs is = absurd is
  objects_cell ns (c.Objects d) rs is = (d, refl)
  objects_cell ns (c.Selector d) rs is = absurd is
  objects_cell ns (c.Level d e) rs is = absurd is
  objects_cell ns (c.Outside d) rs is = absurd is
  objects_cell ns (c.Going d) rs is = absurd is

  pub datum_cell : (ns : List Name) (a : Cell) (v : Value) → IsCell p x live ns a (s.Datum v) → (d : Datum) × (a ≡ c.Datum d)
  datum_cell ns (c.Datum d) v is = (d, refl)
  datum_cell ns (c.Object d) v is = absurd is
  datum_cell ns (c.Each d e) v is = absurd is
  datum_cell ns (c.Argument d) v is = absurd is
  datum_cell ns (c.Choice d) v is = absurd is
  datum_cell ns (c.Bound d) v is = absurd is
  datum_cell ns (c.Bounds d) v is = absurd is
  datum_cell ns (c.Turns d e) v is = absurd is
  datum_cell ns (c.Objects d) v is = absurd is
  datum_cell ns (c.Selector d) v is = absurd is
  datum_cell ns (c.Level d e) v is = absurd is
  datum_cell ns (c.Outside d) v is = absurd is
  datum_cell ns (c.Going d) v is = absurd is

  pub going_cell : (ns : List Name) (a : Cell) (f : Flow) → IsCell p x live ns a (s.Going f) → (w : Way) × (a ≡ c.Going w)
  going_cell ns (c.Datum d) f is = absurd is
  going_cell ns (c.Object d) f is = absurd is
  going_cell ns (c.Each d e) f is = absurd is
  going_cell ns (c.Argument d) f is = absurd is
  going_cell ns (c.Choice d) f is = absurd is
  going_cell ns (c.Bound d) f is = absurd is
  going_cell ns (c.Bounds d) f is = absurd is
  going_cell ns (c.Turns d e) f is = absurd is
  going_cell ns (c.Objects d) f is = absurd is
  going_cell ns (c.Selector d) f is = absurd is
  going_cell ns (c.Level d e) f is = absurd is
  going_cell ns (c.Outside d) f is = absurd is
  going_cell ns (c.Going d) f is = (d, refl)

  pub level_is : (ns : List Name) (a : Cell) (k : ℕ) (rs : List Reference) → IsCell p x live ns a (s.Level k rs)
      → (z : ℕ × Range) × (a ≡ level_cell z)
  level_is ns (c.Datum d) k rs is = absurd is
  level_is ns (c.Object d) k rs is = absurd is
  level_is ns (c.Each d e) k rs is = absurd is
  level_is ns (c.Argument d) k rs is = absurd is
  level_is ns (c.Choice d) k rs is = absurd is
  level_is ns (c.Bound d) k rs is = absurd is
  level_is ns (c.Bounds d) k rs is = absurd is
  level_is ns (c.Turns d e) k rs is = absurd is
  level_is ns (c.Objects d) k rs is = absurd is
  level_is ns (c.Selector d) k rs is = absurd is
  level_is ns (c.Level d e) k rs is = ((d, e), refl)
  level_is ns (c.Outside d) k rs is = absurd is
  level_is ns (c.Going d) k rs is = absurd is

  -- a cell stands on top where one does
  pub top_is : (Rest : Rooms → List Name → Type 0) (ns : List Name) (h : Here) (here : m.Here) (zs : List Cell) (b : s.Cell) (bs : List s.Cell)
      → AreCells p live Rest x ns h here zs (b ∷ bs) → (a : Cell) × (rest : List Cell) × (zs ≡ a ∷ rest) × IsCell p x live ns a b
  top_is Rest ns h here [] b bs are = absurd are
  top_is Rest ns h here (a ∷ zs) b bs are = (a, zs, refl, are.0)
