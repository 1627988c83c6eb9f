-- What an examination of the units finds.
use Rattle.std.specs.Prelude.{ℕ, Some, Result, Ok, Err}
use Rattle.std.specs.Global.{Vec}
use Rattle.f3_rules.specs.declared.breaks.Break.{Break}
use Rattle.f3_rules.specs.Least.{Least}
use Rattle.f3_tree.specs.Tree.{Tree}
use Rattle.f3_graph.specs.Units.{nodes_of}
use Rattle.f3_graph.specs.Breaks.{UnitBreaks}
use Rattle.f3_graph.specs.Order.{IsOrderOf}

-- the numbers of the units in an order, where no rule on units is broken; else the first break
abbrev pub Finds : Tree → Result (Vec ℕ) Break → Type 0
Finds program (Ok order) = IsOrderOf (nodes_of program) order.items × ((b : Break) → UnitBreaks program b → ⊥)
Finds program (Err first) = Least (Some first) (UnitBreaks program)
