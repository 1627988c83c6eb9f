-- How the activation of a procedure begins in memory.
use Rattle.std.specs.Prelude.{◌≡◌, ℕ, suc, ◌+◌, List, [], ◌∷◌, ◌++◌, length, None, Some}
use Rattle.f3_places.specs.declared.source.Place.{Place}
use Rattle.f3_program.specs.declared.program.Procedure.{Procedure}
use Rattle.f3_word_cells.specs.declared.cell.Cell.{Cell}
use Rattle.f3_word_cells.specs.declared.state.Name.{Name}
use Rattle.f3_word_cells.specs.declared.state.State.{State}
use Rattle.f3_word_cells.specs.States.{cells_blocks}
use Rattle.f3_word_entries.specs.Names.{AreNamed}
use Rattle.f3_word_entries.specs.Ranked.{AreRanked}

-- So many cells are the arguments and went; dummies have names for them; the blocks of their values are a level of their own, and behind it
-- a block is that of the variables. The caller is kept, and the procedure begins at a line.
pub record Entered (q : Procedure) (number at count block : ℕ) (place : Place) (old new : State) : Type 0 where
  pub left : List Cell
  pub arguments : List Cell
  pub split : old.cells.items.items ≡ left ++ arguments
  pub many : length arguments ≡ count
  pub ranked : AreRanked arguments
  pub cells : new.cells.items.items ≡ left
  pub added : List Name
  pub names : new.names.items.items ≡ old.names.items.items ++ added
  pub named : AreNamed arguments 0 q.dummies.items added
  pub blocks : new.blocks.items.items ≡ old.blocks.items.items ++ (cells_blocks arguments ++ block ∷ [])
  pub levels : new.levels.items.items ≡ old.levels.items.items
      ++ (length old.blocks.items.items ∷ (length old.blocks.items.items + length (cells_blocks arguments)) ∷ [])
  pub callers : new.callers.items.items ≡ old.callers.items.items ++ record {
    pc = old.pc + 1;
    here = old.here;
    base = old.base;
    place = place;
    level = length old.levels.items.items;
    dummies = record { from = length old.names.items.items; count = length q.dummies.items };
  } ∷ []
  pub base : new.base ≡ length left
  pub here : new.here ≡ record {
    place = place;
    unit = q.unit;
    level = suc (length old.levels.items.items);
    procedure = Some number;
    names = record { from = length old.names.items.items; count = length q.dummies.items };
    selected = None;
  }
  pub pc : new.pc ≡ at
  pub statics : new.statics ≡ old.statics
