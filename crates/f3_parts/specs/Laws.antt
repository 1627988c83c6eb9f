-- The machine reads what spells a specification part, and nothing else (2.2, 4.5).
use Rattle.std.specs.Prelude.{◌≡◌, Bool, List, ◌++◌, map, Some, None}
use Rattle.f3_tree.specs.Declarations.{PartTree}
use Rattle.f3_blocks.specs.Pieces.{Placed}
use Rattle.f3_parts.specs.Pieces.{piece_of}
use Rattle.f3_parts.specs.Parts.{IsPart}
use Rattle.f3_parts.specs.Machine.{State, start, run}

-- statements that were read, with no type definition open, spell the part that is held
abbrev pub HoldsWhatIsSpelled : Type 0
HoldsWhatIsSpelled =
    (of_module : Bool) (ps : List Placed) (s : State) → run of_module (map piece_of ps) start ≡ Some s
    → s.open_type ≡ None → IsPart of_module s.part ps

-- statements that spell a part are read as that part
abbrev pub ReadsWhatIsSpelled : Type 0
ReadsWhatIsSpelled = (of_module : Bool) (part : PartTree) (ps : List Placed) → IsPart of_module part ps
    → run of_module (map piece_of ps) start ≡ Some (record { part = part; open_type = None })

-- what was read begins some part
abbrev pub GoesOnToAnEnd : Type 0
GoesOnToAnEnd = (of_module : Bool) (ps : List Placed) (s : State) → run of_module (map piece_of ps) start ≡ Some s
    → (more : List Placed) × (part : PartTree) × IsPart of_module part (ps ++ more)
