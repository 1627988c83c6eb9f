-- What is taken from a stack.
use Rattle.std.specs.Prelude.{◌≡◌, List, ◌∷◌, Option, None, Some}
use Rattle.f3_word_cells.specs.declared.cell.Datum.{Datum}
use Rattle.f3_word_cells.specs.declared.cell.Object.{Object}
use Rattle.f3_word_cells.specs.declared.cell.Cell.{Cell}
use Rattle.f3_word_cells.specs.declared.cell.Cell.TheVariants as c
use Rattle.f3_word_cells.specs.declared.state.State.{State}
use Rattle.f3_word_cells.specs.States.{own}
use Rattle.f3_word_cells.specs.Moves.{Popped}
use Rattle.f3_word_cells.specs.Does.{Keeps}

-- the object on top, if one is there
abbrev pub TookObject : Option Object → State → State → Type 0
TookObject None old new = ((o : Object) (rest : List Cell) → own old ≡ c.Object o ∷ rest → ⊥) × Keeps old new
TookObject (Some o) old new = Popped (c.Object o) old new

-- the value on top, if one is there
abbrev pub TookDatum : Option Datum → State → State → Type 0
TookDatum None old new = ((d : Datum) (rest : List Cell) → own old ≡ c.Datum d ∷ rest → ⊥) × Keeps old new
TookDatum (Some d) old new = Popped (c.Datum d) old new
