-- What it is for objects to take a value.
use Rattle.std.specs.Prelude.{◌≡◌, ◌<◌, ℕ, length}
use Rattle.std.specs.FinMap.{get as find}
use Rattle.f3_program.specs.declared.program.Program.{Program}
use Rattle.f3_live_blocks.specs.Blocks.{Live, IsLive, pins_of}
use Rattle.f3_meaning_whole.specs.Value.{Value, spread}
use Rattle.f3_meaning_whole.specs.Store.{put_all}
use Rattle.f3_meaning_whole.specs.Reference.{Reference, paths}
use Rattle.f3_rooms.specs.Held.{times}
use Rattle.f3_rooms.specs.Rooms.{Rooms, blocks_of, store_of}
use Rattle.f3_rooms.specs.Sound.{IsSound}
use Rattle.f3_room_places.specs.declared.types.Types.{Types}
use Rattle.f3_room_levels.specs.Initial.{IsOf, TypeCanBegin}
use Rattle.f3_word_cells.specs.declared.cell.Area.{Area}
use Rattle.f3_word_cells.specs.declared.cell.Datum.{Datum}
use Rattle.f3_word_cells.specs.declared.cell.Datum.TheVariants as datum
use Rattle.f3_word_cells.specs.declared.cell.Object.TheVariants as o
use Rattle.f3_word_cells.specs.Areas.{types_of, shape_for, IsDatum}
use Rattle.f3_word_cells.specs.States.{datum_blocks}
use Rattle.f3_word_reads.specs.Reads.{IsThere}

-- a value is of the type of an area
abbrev pub Agrees : Program → Area → Datum → Type 0
Agrees p a (datum.Scalar c) = IsOf (shape_for p a.of) c
Agrees p a (datum.Block b) = shape_for p b.of ≡ shape_for p a.of

-- objects that stand there, and a value of their type in a block of its own
pub record CanTake (p : Program) (types : Types) (m : Live) (x : Rooms) (a : Area) (r : Reference) (d : Datum) (v : Value) : Type 0 where
  pub there : IsThere p types m x (o.Stands a) r
  pub value : IsDatum p m d v
  pub agrees : Agrees p a d
  pub apart : (q : ℕ) → 0 < times q (datum_blocks d) → times q (blocks_of x) ≡ 0

-- objects that stand there, and whose type can begin
pub record CanBeginAt (p : Program) (types : Types) (m : Live) (x : Rooms) (a : Area) (r : Reference) : Type 0 where
  pub there : IsThere p types m x (o.Stands a) r
  pub can : TypeCanBegin (shape_for p a.of)

-- They have taken it, and blocks of no room are as they were.
pub record Takes (p : Program) (m n : Live) (x : Rooms) (r : Reference) (v : Value) : Type 0 where
  pub store : store_of (types_of p) n x ≡ put_all (paths r) (spread (length (paths r)) v) (store_of (types_of p) m x)
  pub sound : IsSound (types_of p) n x
  pub elsewhere : (q : ℕ) → times q (blocks_of x) ≡ 0 → find n q ≡ find m q
  pub fewer : (q : ℕ) → IsLive n q → IsLive m q
  pub pins : (q : ℕ) → pins_of n q ≡ pins_of m q
