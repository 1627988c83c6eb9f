-- The machine reads what spells units, and nothing else (2.2, 11.1).
use Rattle.std.specs.Prelude.{◌≡◌, List, Some, None}
use Rattle.f3_tree.specs.Tree.{UnitTree}
use Rattle.f3_blocks.specs.Pieces.{Placed}
use Rattle.f3_units.specs.Units.{AreUnits, Viable}
use Rattle.f3_units.specs.Machine.{State, start, run}

-- statements that were read, with no unit open, spell the units that are held
abbrev pub HoldsWhatIsSpelled : Type 0
HoldsWhatIsSpelled = (ps : List Placed) (s : State) → run ps start ≡ Some s → s.unit ≡ None → AreUnits s.done ps

-- statements that spell units are read as those
abbrev pub ReadsWhatIsSpelled : Type 0
ReadsWhatIsSpelled = (us : List UnitTree) (ps : List Placed) → AreUnits us ps → run ps start ≡ Some (record { done = us; unit = None })

-- what was read begins some list of units
abbrev pub GoesOnToAnEnd : Type 0
GoesOnToAnEnd = (ps : List Placed) (s : State) → run ps start ≡ Some s → Viable ps
