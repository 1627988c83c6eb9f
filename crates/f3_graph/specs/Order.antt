-- An order of program units, and refusals.
use Rattle.std.specs.Prelude.{◌≡◌, ◌≢◌, ℕ, ◌<◌, List, [], Option, None, Some, Result, Ok, Err, Contains, length, map, take, string_bytes, slice_get}
use Rattle.std.specs.List.{slice_index_or}
use Rattle.f3_rules.specs.declared.breaks.Break.{Break}
use Rattle.f3_rules.specs.declared.refusal.Refusal.{Refusal}
use Rattle.f3_rules.specs.Least.{Least}
use Rattle.f3_tree.specs.declared.expression.Name.{Name}
use Rattle.f3_tree.specs.Tree.{Tree}
use Rattle.f3_tree.specs.declared.program.UnitKind.TheVariants.{Module}
use Rattle.f3_graph.specs.declared.CheckFault.{CheckFault}
use Rattle.f3_graph.specs.declared.CheckFault.TheVariants.{Refused, Memory}
use Rattle.f3_graph.specs.declared.UnitOrder.{UnitOrder}
use Rattle.f3_graph.specs.Units.{Node, nodes_of, uses_of}
use Rattle.f3_graph.specs.Breaks.{UnitBreaks, ReachesItself}

-- the numbers of the units, in this order
abbrev pub numbers_of : UnitOrder → List ℕ
numbers_of order = map (λ u. u.number) order.units.items

-- Each unit stands once, behind the modules that it uses.
pub record IsOrderOf (units : List Node) (order : List ℕ) : Type 0 where
  pub within : (k : ℕ) → k < length order → slice_index_or order k 0 < length units
  pub once : (j k : ℕ) → j < k → k < length order → slice_index_or order j 0 ≢ slice_index_or order k 0
  pub all : (u : ℕ) → u < length units → Contains order u
  pub after : (k : ℕ) (unit : Node) (x : Name) (v : ℕ) (source : Node) → k < length order
      → slice_get units (slice_index_or order k 0) ≡ Some unit → Contains (uses_of unit) x
      → slice_get units v ≡ Some source → source.kind ≡ Module → source.name.symbol ≡ x.symbol → Contains (take k order) v

abbrev pub IsOrder : Tree → UnitOrder → Type 0
IsOrder program order = IsOrderOf (nodes_of program) (numbers_of order)

-- where there is such an order no module reaches itself
abbrev pub NoOrderNoCycle : Type 0
NoOrderNoCycle = (units : List Node) (order : List ℕ) (b : Break) → IsOrderOf units order → ReachesItself units b → ⊥

-- the text of a name by its number, where these are the texts of all; nothing where it has none
abbrev pub text_of : List (List ℕ) → Option ℕ → List ℕ
text_of texts None = []
text_of texts (Some symbol) = slice_index_or texts symbol []

-- the refusal of a break: its place and rule, and the text of its name, where these are the texts of all names
pub record IsRefusal (texts : List (List ℕ)) (b : Break) (refusal : Refusal) : Type 0 where
  pub place : refusal.place ≡ b.place
  pub rule : refusal.rule ≡ b.rule
  pub name : string_bytes refusal.name ≡ text_of texts b.name

-- an order, where no rule on units is broken; else the refusal of the first break
abbrev pub Examines : Tree → Result UnitOrder Refusal → Type 0
Examines program (Ok order) = IsOrder program order × ((b : Break) → UnitBreaks program b → ⊥)
Examines program (Err refusal) = (b : Break) × Least (Some b) (UnitBreaks program) × IsRefusal program.names b refusal

-- the same, or memory was refused
abbrev pub Orders : Tree → Result UnitOrder CheckFault → Type 0
Orders program (Ok order) = Examines program (Ok order)
Orders program (Err (Refused refusal)) = Examines program (Err refusal)
Orders program (Err Memory) = Unit {0}
