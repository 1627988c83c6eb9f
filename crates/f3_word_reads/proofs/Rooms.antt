-- Stacks keep their room.
use Rattle.std.proofs.Common.{◌≡◌, ◌∙◌, sym, ap, List, [], ◌∷◌}
use Rattle.std.specs.Prelude.{Option, None, Some}
use Rattle.f3_word_cells.specs.declared.cell.Datum.{Datum}
use Rattle.f3_word_cells.specs.declared.cell.Object.{Object}
use Rattle.f3_word_cells.specs.declared.cell.Cell.{Cell}
use Rattle.f3_word_cells.specs.declared.cell.Cell.TheVariants as c
use Rattle.f3_word_cells.specs.declared.state.State.{State}
use Rattle.f3_word_cells.specs.States.{own}
use Rattle.f3_word_cells.specs.Moves.{IsSame, PoppedOr}
use Rattle.f3_word_cells.specs.Does.{Keeps}
use Rattle.f3_word_reads.specs.Taken.{TookObject, TookDatum}

pub keeps-same : (old new : State) → IsSame old new → Keeps old new
keeps-same old new is = record { cells = is.room; names = is.names; callers = is.callers; blocks = is.blocks; levels = is.levels }

pub keeps-then : (old mid new : State) → Keeps old mid → Keeps mid new → Keeps old new
keeps-then old mid new a b = record {
  cells = b.cells ∙ a.cells;
  names = b.names ∙ a.names;
  callers = b.callers ∙ a.callers;
  blocks = b.blocks ∙ a.blocks;
  levels = b.levels ∙ a.levels;
}

pub keeps-all : (old new : State) → new ≡ old → Keeps old new
keeps-all old new e = record {
  cells = ap (λ (w : State). (w.cells).room) e;
  names = ap (λ (w : State). w.names) e;
  callers = ap (λ (w : State). w.callers) e;
  blocks = ap (λ (w : State). w.blocks) e;
  levels = ap (λ (w : State). w.levels) e;
}

pub keeps-took : (o : Option Object) (old new : State) → TookObject o old new → Keeps old new
keeps-took None old new took = took.1
keeps-took (Some o) old new took = keeps-same old new took.same

pub keeps-took-datum : (o : Option Datum) (old new : State) → TookDatum o old new → Keeps old new
keeps-took-datum None old new took = took.1
keeps-took-datum (Some o) old new took = keeps-same old new took.same

-- ---- another cell on top

pub no-object : (result : Option Cell) (old new : State) → PoppedOr result old new → ((o : Object) → result ≡ Some (c.Object o) → ⊥) → TookObject None old new
no-object None old new popped other = ((λ o rest e. let f : [] ≡ c.Object o ∷ rest = sym popped.0 ∙ e in cc), keeps-all old new popped.1)
no-object (Some a) old new popped other = ((λ o rest e. other o (same a o (own new) rest (sym popped.cells ∙ e))), keeps-same old new popped.same)
  where
    same : (a : Cell) (o : Object) (xs ys : List Cell) → a ∷ xs ≡ c.Object o ∷ ys → Some a ≡ Some (c.Object o)
    same a o xs ys e = cc

pub no-datum : (result : Option Cell) (old new : State) → PoppedOr result old new → ((d : Datum) → result ≡ Some (c.Datum d) → ⊥) → TookDatum None old new
no-datum None old new popped other = ((λ d rest e. let f : [] ≡ c.Datum d ∷ rest = sym popped.0 ∙ e in cc), keeps-all old new popped.1)
no-datum (Some a) old new popped other = ((λ d rest e. other d (same a d (own new) rest (sym popped.cells ∙ e))), keeps-same old new popped.same)
  where
    same : (a : Cell) (d : Datum) (xs ys : List Cell) → a ∷ xs ≡ c.Datum d ∷ ys → Some a ≡ Some (c.Datum d)
    same a d xs ys e = cc
