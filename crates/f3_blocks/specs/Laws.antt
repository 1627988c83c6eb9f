-- The machine reads what spells a block, and nothing else (8.1).
use Rattle.std.specs.Prelude.{◌≡◌, Bool, List, [], ◌++◌, map, Some}
use Rattle.f3_tree.specs.Statements.{Block, block_of}
use Rattle.f3_blocks.specs.Pieces.{Placed, piece_of}
use Rattle.f3_blocks.specs.Blocks.{IsBlock}
use Rattle.f3_blocks.specs.Machine.{State, start, run}

-- statements that were read, with no construct open, spell the block that is held
abbrev pub HoldsWhatIsSpelled : Type 0
HoldsWhatIsSpelled =
    (procedure : Bool) (ps : List Placed) (s : State) → run procedure (map piece_of ps) start ≡ Some s → s.opens ≡ []
    → IsBlock procedure (block_of s.body) ps

-- statements that spell a block are read as that block
abbrev pub ReadsWhatIsSpelled : Type 0
ReadsWhatIsSpelled = (procedure : Bool) (b : Block) (ps : List Placed) → IsBlock procedure b ps
    → (s : State) × (run procedure (map piece_of ps) start ≡ Some s) × (s.opens ≡ []) × (block_of s.body ≡ b)

-- what was read begins some block
abbrev pub GoesOnToAnEnd : Type 0
GoesOnToAnEnd = (procedure : Bool) (ps : List Placed) (s : State) → run procedure (map piece_of ps) start ≡ Some s
    → (more : List Placed) × (b : Block) × IsBlock procedure b (ps ++ more)
