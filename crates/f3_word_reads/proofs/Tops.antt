-- Objects and values on top.
use Rattle.std.proofs.Common.{◌≡◌, ◌∙◌, ap, refl, List, [], ◌∷◌}
use Rattle.std.specs.Prelude.{ℕ, ℤ, Option}
use Rattle.f3_program.specs.declared.declarations.Kind.{Kind}
use Rattle.f3_program.specs.declared.program.Program.{Program}
use Rattle.f3_live_blocks.specs.Blocks.{Live}
use Rattle.f3_meaning_whole.specs.Value.{Value}
use Rattle.f3_meaning_whole.specs.Reference.{Reference}
use Rattle.f3_code.specs.State as s
use Rattle.f3_cell_kinds.specs.Types.{CellType}
use Rattle.f3_cell_kinds.specs.Types as cell
use Rattle.f3_cell_kinds.specs.Holds.{Refers}
use Rattle.f3_cell_kinds.specs.Laws.{site_at}
use Rattle.f3_rooms.specs.Rooms.{Rooms}
use Rattle.f3_word_cells.specs.declared.cell.Datum.{Datum}
use Rattle.f3_word_cells.specs.declared.cell.Object.{Object}
use Rattle.f3_meaning_whole.specs.Act as m
use Rattle.f3_word_cells.specs.declared.cell.Here.{Here}
use Rattle.f3_word_cells.specs.declared.cell.Cell.{Cell}
use Rattle.f3_word_cells.specs.declared.cell.Cell.TheVariants as c
use Rattle.f3_word_cells.specs.declared.state.Name.{Name}
use Rattle.f3_word_cells.specs.Areas.{IsDatum, IsObject}
use Rattle.f3_word_cells.specs.Cells.{AreCells}
use Rattle.f3_word_cells.specs.States.{AreKnown}
use Rattle.f3_word_cells.specs.Does.{IsTold}
use Rattle.f3_word_cells.proofs.OnTop.{one_on_top, of_object}

-- an object of a kind is on top
pub record ObjectOnTop (k : Kind) (stack : List s.Cell) : Type 0 where
  pub reference : Reference
  pub below : List s.Cell
  pub split : stack ≡ s.Object reference ∷ below
  pub refers : Refers k reference

pub object-on-top : (p : Program) (t : s.State) (k : Kind) (rest : List CellType) → IsTold p t → (site_at p t.pc).cells ≡ cell.Object k ∷ rest → ObjectOnTop k t.stack
object-on-top p t k rest told e =
    let one = one_on_top p t (cell.Object k) rest told e in
    let is = of_object p.types.items k one.cell one.is in
    record { reference = is.0; below = one.below; split = one.split ∙ ap (λ a. a ∷ one.below) is.1; refers = is.2 }

-- then so it is in memory
pub object-there : (p : Program) (live : Live) (Rest : Rooms → List Name → Type 0) (x : Rooms) (ns : List Name) (h : Here) (here : m.Here) (cells : List Cell) (r : Reference) (below : List s.Cell) → (k : Kind) (ks : List CellType)
    → AreKnown p (cell.Object k ∷ ks) cells → AreCells p live Rest x ns h here cells (s.Object r ∷ below)
    → (o : Object) × (rest : List Cell) × (cells ≡ c.Object o ∷ rest) × IsObject p x o r
object-there p live Rest x ns h here [] r below k ks known are = absurd are
object-there p live Rest x ns h here (c.Object o ∷ rest) r below k ks known are = (o, rest, refl, are.0)
object-there p live Rest x ns h here (c.Each a j ∷ rest) r below k ks known are = absurd known.0
object-there p live Rest x ns h here (c.Datum d ∷ rest) r below k ks known are = absurd are.0
object-there p live Rest x ns h here (c.Argument a ∷ rest) r below k ks known are = absurd are.0
object-there p live Rest x ns h here (c.Choice a ∷ rest) r below k ks known are = absurd are.0
object-there p live Rest x ns h here (c.Bound z ∷ rest) r below k ks known are = absurd are.0
object-there p live Rest x ns h here (c.Bounds ds ∷ rest) r below k ks known are = absurd are.0
object-there p live Rest x ns h here (c.Turns j z ∷ rest) r below k ks known are = absurd are.0
object-there p live Rest x ns h here (c.Objects a ∷ rest) r below k ks known are = absurd are.0
object-there p live Rest x ns h here (c.Selector a ∷ rest) r below k ks known are = absurd are.0
object-there p live Rest x ns h here (c.Level j a ∷ rest) r below k ks known are = absurd are.0
object-there p live Rest x ns h here (c.Outside a ∷ rest) r below k ks known are = absurd are.0
object-there p live Rest x ns h here (c.Going f ∷ rest) r below k ks known are = absurd are.0

pub datum-there : (p : Program) (live : Live) (Rest : Rooms → List Name → Type 0) (x : Rooms) (ns : List Name) (h : Here) (here : m.Here) (cells : List Cell) (v : Value) (below : List s.Cell) → AreCells p live Rest x ns h here cells (s.Datum v ∷ below)
    → (d : Datum) × (rest : List Cell) × (cells ≡ c.Datum d ∷ rest) × IsDatum p live d v
datum-there p live Rest x ns h here [] v below are = absurd are
datum-there p live Rest x ns h here (c.Datum d ∷ rest) v below are = (d, rest, refl, are.0)
datum-there p live Rest x ns h here (c.Object o ∷ rest) v below are = absurd are.0
datum-there p live Rest x ns h here (c.Each a j ∷ rest) v below are = absurd are.0
datum-there p live Rest x ns h here (c.Argument a ∷ rest) v below are = absurd are.0
datum-there p live Rest x ns h here (c.Choice a ∷ rest) v below are = absurd are.0
datum-there p live Rest x ns h here (c.Bound z ∷ rest) v below are = absurd are.0
datum-there p live Rest x ns h here (c.Bounds ds ∷ rest) v below are = absurd are.0
datum-there p live Rest x ns h here (c.Turns k z ∷ rest) v below are = absurd are.0
datum-there p live Rest x ns h here (c.Objects a ∷ rest) v below are = absurd are.0
datum-there p live Rest x ns h here (c.Selector a ∷ rest) v below are = absurd are.0
datum-there p live Rest x ns h here (c.Level k a ∷ rest) v below are = absurd are.0
datum-there p live Rest x ns h here (c.Outside a ∷ rest) v below are = absurd are.0
datum-there p live Rest x ns h here (c.Going f ∷ rest) v below are = absurd are.0

pub turns-there : (p : Program) (live : Live) (Rest : Rooms → List Name → Type 0) (x : Rooms) (ns : List Name) (h : Here) (here : m.Here) (cells : List Cell) (k : ℕ) (z : ℤ) (below : List s.Cell) → AreCells p live Rest x ns h here cells (s.Turns k z ∷ below)
    → (left : Option ℕ) × (y : ℤ) × (rest : List Cell) × (cells ≡ c.Turns left y ∷ rest)
turns-there p live Rest x ns h here [] k z below are = absurd are
turns-there p live Rest x ns h here (c.Turns left y ∷ rest) k z below are = (left, y, rest, refl)
turns-there p live Rest x ns h here (c.Datum d ∷ rest) k z below are = absurd are.0
turns-there p live Rest x ns h here (c.Object o ∷ rest) k z below are = absurd are.0
turns-there p live Rest x ns h here (c.Each a j ∷ rest) k z below are = absurd are.0
turns-there p live Rest x ns h here (c.Argument a ∷ rest) k z below are = absurd are.0
turns-there p live Rest x ns h here (c.Choice a ∷ rest) k z below are = absurd are.0
turns-there p live Rest x ns h here (c.Bound b ∷ rest) k z below are = absurd are.0
turns-there p live Rest x ns h here (c.Bounds ds ∷ rest) k z below are = absurd are.0
turns-there p live Rest x ns h here (c.Objects a ∷ rest) k z below are = absurd are.0
turns-there p live Rest x ns h here (c.Selector a ∷ rest) k z below are = absurd are.0
turns-there p live Rest x ns h here (c.Level l a ∷ rest) k z below are = absurd are.0
turns-there p live Rest x ns h here (c.Outside a ∷ rest) k z below are = absurd are.0
turns-there p live Rest x ns h here (c.Going f ∷ rest) k z below are = absurd are.0
