-- The breaks of the rules on program units (phase 2).
use Rattle.std.specs.Prelude.{◌≡◌, ◌≢◌, List, ◌∷◌, ◌++◌, ◌⊎◌, None, Contains}
use Rattle.f3_rules.specs.declared.breaks.Break.{Break}
use Rattle.f3_rules.specs.declared.rule.Rule.{Rule}
use Rattle.f3_rules.specs.declared.rule.Rule.TheVariants.{U1, U2, U3, U4}
use Rattle.f3_breaks.specs.At as breaks
use Rattle.f3_tree.specs.declared.expression.Name.{Name}
use Rattle.f3_tree.specs.Tree.{Tree}
use Rattle.f3_tree.specs.declared.program.UnitKind.TheVariants.{Module, Program as MainProgram}
use Rattle.f3_graph.specs.Units.{Node, nodes_of, uses_of, Reaches}

-- a rule is broken at a name
abbrev pub at : Rule → Name → Break
at rule name = breaks.at 2 rule name

-- U1: a unit has the name of an earlier one; its name (16.1: names of program units are global and distinct)
abbrev pub NameTwice : List Node → Break → Type 0
NameTwice units b = (front : List Node) × (unit : Node) × (rest : List Node) × (units ≡ front ++ unit ∷ rest)
    × (earlier : Node) × Contains front earlier × (earlier.name.symbol ≡ unit.name.symbol) × (b ≡ at U1 unit.name)

-- U2: a USE names what no module is called; the name in the USE (11.2.1; a main program is no module)
abbrev pub ModuleMissing : List Node → Break → Type 0
ModuleMissing units b = (unit : Node) × Contains units unit × (x : Name) × Contains (uses_of unit) x
    × ((source : Node) → Contains units source → source.kind ≡ Module → source.name.symbol ≢ x.symbol) × (b ≡ at U2 x)

-- U3: a USE in a module names that module, or one that reaches it; the name in the USE (11.2.1)
abbrev pub ReachesItself : List Node → Break → Type 0
ReachesItself units b = (unit : Node) × Contains units unit × (unit.kind ≡ Module) × (x : Name) × Contains (uses_of unit) x
    × ((x.symbol ≡ unit.name.symbol) ⊎ Reaches units x.symbol unit.name.symbol) × (b ≡ at U3 x)

-- U4: there is no main program; the end of the last source (2.2.1: exactly one main program)
abbrev pub NoMainProgram : Tree → Break → Type 0
NoMainProgram program b = ((unit : Node) → Contains (nodes_of program) unit → unit.kind ≢ MainProgram)
    × (b ≡ record { phase = 2; place = program.end; rule = U4; name = None })

-- U4: a main program stands behind another; its name
abbrev pub MainProgramAgain : List Node → Break → Type 0
MainProgramAgain units b = (front : List Node) × (unit : Node) × (rest : List Node) × (units ≡ front ++ unit ∷ rest) × (unit.kind ≡ MainProgram)
    × (earlier : Node) × Contains front earlier × (earlier.kind ≡ MainProgram) × (b ≡ at U4 unit.name)

-- the breaks of phase 2
pub data UnitBreaks (program : Tree) (b : Break) : Type 0 where
  name_twice : NameTwice (nodes_of program) b → UnitBreaks program b
  module_missing : ModuleMissing (nodes_of program) b → UnitBreaks program b
  reaches_itself : ReachesItself (nodes_of program) b → UnitBreaks program b
  no_main_program : NoMainProgram program b → UnitBreaks program b
  main_program_again : MainProgramAgain (nodes_of program) b → UnitBreaks program b
