-- Values that are held for a call.
use Rattle.std.proofs.Common.{◌≡◌, ℕ, zero, suc, ◌<◌, true, List, [], ◌∷◌, ◌++◌, length, refl, ap, arith}
use Rattle.std.specs.Prelude.{slice_index_or}
use Rattle.std.specs.List.{All}
use Rattle.f3_program.specs.declared.declarations.Base.{Base}
use Rattle.f3_program.specs.declared.declarations.Base.TheVariants as base
use Rattle.f3_program.specs.declared.program.Program.{Program}
use Rattle.f3_meaning_whole.specs.Act as m
use Rattle.f3_meaning_whole.specs.Exec.{held}
use Rattle.f3_meaning_whole.specs.Formed as formed
use Rattle.f3_meaning_whole.specs.Shape.{Shape, Whole}
use Rattle.f3_rooms.specs.Flat.{is_flat}
use Rattle.f3_rooms.specs.Rooms.{Rooms}
use Rattle.f3_live_blocks.specs.Blocks.{Live}
use Rattle.f3_word_cells.specs.declared.cell.Datum.{Datum}
use Rattle.f3_word_cells.specs.declared.cell.Datum.TheVariants as datum
use Rattle.f3_word_cells.specs.declared.cell.Passed.TheVariants as passed
use Rattle.f3_word_cells.specs.declared.cell.Cell.{Cell}
use Rattle.f3_word_cells.specs.declared.cell.Cell.TheVariants as c
use Rattle.f3_word_cells.specs.declared.state.Name.{Name}
use Rattle.f3_word_cells.specs.Areas.{shape_for, types_of}
use Rattle.f3_word_cells.specs.States.{cells_blocks, datum_blocks}
use Rattle.f3_word_calls.proofs.Holding.{AreData, AreShort, IsShort, data_blocks}
use Rattle.f3_word_entries.specs.Ranked.{AreRanked, IsRanked}
use Rattle.f3_word_entries.proofs.Arguments.{Correspond}
use Rattle.f3_word_entries.proofs.Dummies.{held_data}

datum_short : (d : Datum) → IsRanked d → IsShort d
datum_short (datum.Scalar k) few = tt
datum_short (datum.Block a) few = omega (arith, few)

pub data_short : (cs : List Cell) → AreRanked cs → AreShort (held_data cs)
data_short [] few = tt
data_short (c.Argument (passed.Given k d) ∷ cs) few = (datum_short d few.0, data_short cs few.1)
data_short (c.Argument (passed.Lent k d) ∷ cs) few = data_short cs few.1
data_short (z ∷ cs) few = data_short cs few.1

module _ (p : Program) (x : Rooms) (live : Live) (ns : List Name) where
  pub data_are : (gs : List formed.Given) (ps : List m.Passed) (cs : List Cell) → Correspond p x live ns gs ps cs → AreData p live (held_data cs) (held ps)
  data_are [] [] [] are = tt
  data_are [] [] (z ∷ cs) are = absurd are
  data_are [] (a ∷ ps) cs are = absurd are
  data_are (g ∷ gs) [] cs are = absurd are
  data_are (g ∷ gs) (a ∷ ps) [] are = absurd are
  data_are (g ∷ gs) (m.Given i v ∷ ps) (c.Argument (passed.Given j d) ∷ cs) are = (are.0.0.1, data_are gs ps cs are.1)
  data_are (g ∷ gs) (m.Lent i r ∷ ps) (c.Argument (passed.Lent j z) ∷ cs) are = data_are gs ps cs are.1
  data_are (g ∷ gs) (m.Given i v ∷ ps) (c.Argument (passed.Lent j z) ∷ cs) are = absurd are.0.0
  data_are (g ∷ gs) (m.Lent i v ∷ ps) (c.Argument (passed.Given j z) ∷ cs) are = absurd are.0.0
  data_are (g ∷ gs) (a ∷ ps) (z ∷ cs) are = absurd are.0

  pub blocks_are : (gs : List formed.Given) (ps : List m.Passed) (cs : List Cell) → Correspond p x live ns gs ps cs → cells_blocks cs ≡ data_blocks (held_data cs)
  blocks_are [] [] [] are = refl
  blocks_are [] [] (z ∷ cs) are = absurd are
  blocks_are [] (a ∷ ps) cs are = absurd are
  blocks_are (g ∷ gs) [] cs are = absurd are
  blocks_are (g ∷ gs) (a ∷ ps) [] are = absurd are
  blocks_are (g ∷ gs) (m.Given i v ∷ ps) (c.Argument (passed.Given j d) ∷ cs) are = ap (λ bs. datum_blocks d ++ bs) (blocks_are gs ps cs are.1)
  blocks_are (g ∷ gs) (m.Lent i r ∷ ps) (c.Argument (passed.Lent j z) ∷ cs) are = blocks_are gs ps cs are.1
  blocks_are (g ∷ gs) (m.Given i v ∷ ps) (c.Argument (passed.Lent j z) ∷ cs) are = absurd are.0.0
  blocks_are (g ∷ gs) (m.Lent i v ∷ ps) (c.Argument (passed.Given j z) ∷ cs) are = absurd are.0.0
  blocks_are (g ∷ gs) (a ∷ ps) (z ∷ cs) are = absurd are.0

-- no type has allocatable components
flat_at : (ts : List Shape) (t : ℕ) → ((k : ℕ) (d : Shape) → k < length ts → is_flat (slice_index_or ts k d) ≡ true) → is_flat (slice_index_or ts t Whole) ≡ true
flat_at [] t flat = refl
flat_at (s ∷ ts) zero flat = flat 0 Whole (omega arith)
flat_at (s ∷ ts) (suc t) flat = flat_at ts t (λ k d less. flat (suc k) d (omega (arith, less)))

pub all_flat : (p : Program) → All (λ s. is_flat s ≡ true) (types_of p) → (of : Base) → is_flat (shape_for p of) ≡ true
all_flat p flat base.Integer = refl
all_flat p flat base.Long = refl
all_flat p flat base.Logical = refl
all_flat p flat (base.Derived t) = flat_at (types_of p) t flat
