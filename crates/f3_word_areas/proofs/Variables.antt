-- Variables stand in their blocks.
use Rattle.std.proofs.Common.{◌≡◌, ◌∙◌, ap, ℕ, zero, suc, ◌+◌, ◌^◌, ◌<◌, ◌≤◌, List, [], ◌∷◌, length, arith}
use Rattle.std.specs.Prelude.{false, Some, slice_get}
use Rattle.f3_program.specs.declared.declarations.Declared.{Declared}
use Rattle.f3_program.specs.declared.program.Program.{Program}
use Rattle.f3_live_blocks.specs.Blocks.{Live}
use Rattle.f3_meaning_whole.specs.Act.{whole}
use Rattle.f3_meaning_whole.specs.Reference.{reach_of}
use Rattle.f3_meaning_whole.specs.Shape.{Shape}
use Rattle.f3_meaning_whole.specs.Store.{Root, get}
use Rattle.f3_rooms.specs.Forms.{room, total}
use Rattle.f3_rooms.specs.Rooms.{Room, Rooms, store_of}
use Rattle.f3_rooms.specs.Places.{found}
use Rattle.f3_rooms.specs.Ways.{offset, variable_in}
use Rattle.f3_room_places.specs.Starts.{starts_from}
use Rattle.f3_word_cells.specs.declared.cell.Area.{Area}
use Rattle.f3_word_cells.specs.Areas.{types_of, shape_for, AreThere}
use Rattle.f3_word_areas.specs.Parts.{IsLaid}
use Rattle.f3_word_areas.proofs.There.{part-there}

-- a variable begins behind those before it, and ends within all
pub begins-there : (ts : List Shape) (ds : List Declared) (at i : ℕ) (d : Declared) → slice_get ds i ≡ Some d → slice_get (starts_from ts at ds) i ≡ Some (at + offset ts ds i)
begins-there ts [] at i d e = absurd cc
begins-there ts (y ∷ ds) at zero d e = ap Some (omega arith)
begins-there ts (y ∷ ds) at (suc i) d e = begins-there ts ds (at + room ts y) i d e ∙ ap Some (omega arith)

pub ends-within : (ts : List Shape) (ds : List Declared) (i : ℕ) (d : Declared) → slice_get ds i ≡ Some d → offset ts ds i + room ts d ≤ total ts ds
ends-within ts [] i d e = absurd cc
ends-within ts (y ∷ ds) zero d e = let same : y ≡ d = cc in let size : room ts y ≡ room ts d = ap (room ts) same in omega arith
ends-within ts (y ∷ ds) (suc i) d e = let h = ends-within ts ds i d e in omega arith

pub variable-there : (p : Program) (m : Live) (x : Rooms) (root : Root) (r : Room) (i : ℕ) (d : Declared) (a : Area)
    → found (types_of p) x root [] ≡ Some (variable_in (types_of p) r i d) → IsLaid (types_of p) d r.block (offset (types_of p) r.declared i) a
    → d.kind.is_allocatable ≡ false → length d.dimensions.items ≡ d.kind.rank → room (types_of p) d < 2 ^ 63
    → AreThere p x a (whole root) (reach_of (whole root) (get (store_of (types_of p) m x) (whole root)))
variable-there p m x root r i d a leads laid plain ranked small = part-there p m x root [] (variable_in (types_of p) r i d) a leads (record {
  block = laid.block;
  offset = laid.offset;
  shape = ap (shape_for p) laid.of;
  dims = laid.dims plain ranked small;
})
