-- Cells of one kind that are taken from the top.
use Rattle.std.specs.Prelude.{◌≡◌, ◌≤◌, ℕ, List, [], ◌∷◌, ◌++◌, length, map, reverse, take, Option, None, Some}
use Rattle.f3_cells.specs.declared.cell.Chosen.{Chosen}
use Rattle.f3_word_cells.specs.declared.cell.Cell.TheVariants as c
use Rattle.f3_word_cells.specs.declared.cell.Cell.{Cell}
use Rattle.f3_word_cells.specs.declared.state.State.{State}
use Rattle.f3_word_cells.specs.States.{own}
use Rattle.f3_word_cells.specs.Moves.{Popped}

-- A cell of this kind was taken from the top, or none stands there.
abbrev pub Took : {X : Type 0} → (X → Cell) → Option X → State → State → Type 0
Took {X} of None old new = (x : X) (rest : List Cell) → own old ≡ of x ∷ rest → ⊥
Took of (Some x) old new = Popped (of x) old new

-- these cells were taken, one after another
abbrev pub PoppedAll : List Cell → State → State → Type 0
PoppedAll [] old new = new ≡ old
PoppedAll (a ∷ zs) old new = (mid : State) × Popped a old mid × PoppedAll zs mid new

-- what is selected in so many dimensions was taken, the last one first, or does not stand there
abbrev pub TookChoices : ℕ → Option (List Chosen) → State → State → Type 0
TookChoices n None old new = (cs : List Chosen) (rest : List Cell) → length cs ≡ n → own old ≡ map c.Choice cs ++ rest → ⊥
TookChoices n (Some cs) old new = (n ≤ length cs) × PoppedAll (map c.Choice (reverse (take n cs))) old new
