-- What sources spell has literals of at most 64 bits; CASE values, initializers and bounds are such as a source may spell.
use Rattle.std.specs.Prelude.{List}
use Rattle.f3_places.specs.declared.source.Source.{Source}
use Rattle.f3_tree.specs.Tree.{Tree}
use Rattle.f3_parse.specs.Spells.{Spells}
use Rattle.f3_fitting_laws.specs.Bounded.{AreBodiesBounded}
use Rattle.f3_initial_laws.specs.Written.{AreDeclarationsWritten}

-- so in the bodies of a tree that sources spell
abbrev pub SpelledBodiesAreBounded : Type 0
SpelledBodiesAreBounded = (sources : List Source) (t : Tree) → Spells t sources → AreBodiesBounded t

-- the initializers and bounds of its declarations are written
abbrev pub SpelledDeclarationsAreWritten : Type 0
SpelledDeclarationsAreWritten = (sources : List Source) (t : Tree) → Spells t sources → AreDeclarationsWritten t
