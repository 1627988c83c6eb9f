-- USE statements as steps from a unit to a unit.
use Rattle.std.specs.Prelude.{◌≡◌, ℕ, ◌+◌, ◌<◌, List, [], ◌∷◌, ◌++◌, Bool, true, false, Option, None, Some, ◌&&◌, ◌==◌, ◌⊎◌, if◌then◌else◌}
use Rattle.std.specs.Prelude.{Contains, map, length, option_to_list}
use Rattle.f3_rules.specs.declared.breaks.Break.{Break}
use Rattle.f3_rules.specs.declared.rule.Rule.TheVariants.{U2, U3}
use Rattle.f3_rules.specs.Least.{is_before}
use Rattle.f3_tree.specs.declared.expression.Name.{Name}
use Rattle.f3_graph.specs.Units.{Node, uses_of}
use Rattle.f3_tree.specs.declared.program.UnitKind.{UnitKind}
use Rattle.f3_tree.specs.declared.program.UnitKind.TheVariants.{Module, Program as MainProgram}
use Rattle.f3_graph.specs.declared.links.Link.{Link}
use Rattle.f3_nodes.specs.Nodes.{Graph, targets_of, Leads}
use Rattle.f3_nodes.specs.Levels.{may_lead}
use Rattle.f3_graph.specs.Breaks.{at}

abbrev pub is_module : UnitKind → Bool
is_module Module = true
is_module MainProgram = false

-- the last module of a name among units that are numbered from u on, or what was found before
abbrev pub last_module : ℕ → Option ℕ → List Node → ℕ → Option ℕ
last_module u found [] n = found
last_module u found (unit ∷ units) n = last_module (u + 1) (if is_module unit.kind && (unit.name.symbol == n) then Some u else found) units n

-- the number of the module that stands for all modules of a name
abbrev pub module_of : List Node → ℕ → Option ℕ
module_of units n = last_module 0 None units n

-- the number of the unit that stands for a unit: for a module the last of its name
abbrev pub home : UnitKind → Option ℕ → ℕ → ℕ
home Module (Some m) u = m
home Module None u = u
home MainProgram found u = u

-- a USE in a unit, where this is the number that stands for a name
abbrev pub link_of : (ℕ → Option ℕ) → ℕ → Node → Name → Link
link_of find u unit x = record { home = home unit.kind (find unit.name.symbol) u; target = find x.symbol; name = x }

-- the USE statements of units that are numbered from u on
abbrev pub links_from : (ℕ → Option ℕ) → ℕ → List Node → List Link
links_from find u [] = []
links_from find u (unit ∷ units) = map (link_of find u unit) (uses_of unit) ++ links_from find (u + 1) units

abbrev pub links_of : List Node → List Link
links_of units = links_from (module_of units) 0 units

-- the units that links join are among so many
abbrev pub Inside : List Link → ℕ → Type 0
Inside links count = (link : Link) → Contains links link → (link.home < count) × ((t : ℕ) → link.target ≡ Some t → t < count)

-- where the links of a node lead
abbrev pub targets : List Link → ℕ → List ℕ
targets [] a = []
targets (l ∷ ls) a = (if l.home == a then option_to_list l.target else []) ++ targets ls a

-- a graph has one node for each unit and the steps of these links
pub record IsGraph (links : List Link) (count : ℕ) (g : Graph) : Type 0 where
  pub long : length g ≡ count
  pub steps : (a : ℕ) → targets_of g a ≡ targets links a

-- the rule on missing modules at one USE
abbrev pub missing_at : Option ℕ → Name → List Break
missing_at None x = at U2 x ∷ []
missing_at (Some t) x = []

abbrev pub missing : Link → List Break
missing link = missing_at link.target link.name

-- the rule on modules that reach themselves at one USE
abbrev pub Cycles : Graph → Link → Break → Type 0
Cycles g link b = (t : ℕ) × (link.target ≡ Some t) × ((t ≡ link.home) ⊎ Leads g t link.home) × (b ≡ at U3 link.name)

-- the same at one of these
abbrev pub CyclesIn : Graph → List Link → Break → Type 0
CyclesIn g links b = (link : Link) × Contains links link × Cycles g link b

-- the target of a link may lead back to its unit
abbrev pub returns_to : List ℕ → Option ℕ → ℕ → Bool
returns_to levels None u = false
returns_to levels (Some t) u = may_lead levels t u

abbrev pub may_return : List ℕ → Link → Bool
may_return levels link = returns_to levels link.target link.home

-- a break at this name may come before what was found
abbrev pub may_be_first : Name → Option Break → Bool
may_be_first x None = true
may_be_first x (Some f) = is_before (at U3 x) f
