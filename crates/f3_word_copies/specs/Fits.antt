-- Numbers that are of a type.
use Rattle.std.specs.Prelude.{◌≡◌, ℤ, Bool, true, false, not, ◌&&◌, List, [], ◌∷◌, length}
use Rattle.std.specs.Bool.{◌==◌}
use Rattle.f3_program.specs.declared.declarations.Base.{Base}
use Rattle.f3_program.specs.declared.declarations.Base.TheVariants as base
use Rattle.f3_program.specs.declared.declarations.Kind.{Kind}
use Rattle.f3_program.specs.declared.program.Program.{Program}
use Rattle.f3_live_blocks.specs.Blocks.{Live}
use Rattle.f3_meaning_whole.specs.Value.{Value}
use Rattle.f3_meaning_whole.specs.Arithmetic.{fits}
use Rattle.f3_meaning_whole.specs.Shape.{shape_in}
use Rattle.f3_cell_kinds.specs.Holds.{IsOf}
use Rattle.f3_rooms.specs.Places.{is_scalar_shape}
use Rattle.f3_room_places.specs.declared.types.Types.{Types}
use Rattle.f3_room_places.specs.Places.{shapes}
use Rattle.f3_word_cells.specs.declared.cell.Area.{Area}
use Rattle.f3_word_cells.specs.declared.cell.Datum.{Datum}
use Rattle.f3_word_cells.specs.Areas.{IsDatum}

-- a value of a kind
pub record CanFit (p : Program) (types : Types) (m : Live) (k : Kind) (d : Datum) (v : Value) : Type 0 where
  pub derived : types.derived.now ≡ p.types.items
  pub value : IsDatum p m d v
  pub of : IsOf p.types.items k v

abbrev pub words_fit : List ℤ → Bool
words_fit [] = true
words_fit (z ∷ zs) = fits base.Integer z && words_fit zs

abbrev pub is_truth : Base → Bool
is_truth base.Logical = true
is_truth base.Integer = false
is_truth base.Long = false
is_truth (base.Derived t) = false

-- an array of whole numbers
abbrev pub is_numbers : Types → Area → Bool
is_numbers types a = not (is_truth a.of) && (not (length (a.elements).dims.items == 0) && is_scalar_shape (shape_in (shapes types) a.of))
