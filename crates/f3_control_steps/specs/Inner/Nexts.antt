-- The next of some things.
use Rattle.std.specs.Prelude.{◌≡◌, List, [], ◌∷◌, map, drop, reverse, Option, None, Some}
use Rattle.f3_program.specs.declared.program.Program.{Program}
use Rattle.f3_data.specs.declared.reference.Reference.{Reference}
use Rattle.f3_data.specs.References.{reference_of, references_of}
use Rattle.f3_cells.specs.declared.state.Frame.{Frame}
use Rattle.f3_cells.specs.States.{frame_of}

-- The first of some objects, which stand in memory the other way around, was taken, or there is none.
abbrev pub TakenNext : Option Reference → List Reference → List Reference → Type 0
TakenNext None old new = (references_of (reverse old) ≡ []) × (references_of (reverse new) ≡ [])
TakenNext (Some r) old new = references_of (reverse old) ≡ reference_of r ∷ references_of (reverse new)

-- no procedure is active, or this is the frame of the latest call, the frames standing in memory the other way around
abbrev pub HasNoFrame : List Frame → Type 0
HasNoFrame fs = (p : Program) → map (frame_of p) (reverse fs) ≡ []

abbrev pub HasLatest : List Frame → Frame → Type 0
HasLatest fs f = (p : Program) → map (frame_of p) (reverse fs) ≡ frame_of p f ∷ drop 1 (map (frame_of p) (reverse fs))
