-- Trees of programs in short words: nothing is written of what the rules on types, shapes, constants and definitions do not read.
use Rattle.std.specs.Prelude.{◌≡◌, ℕ, pos, Bool, true, false, List, [], Option, None, Some, map, nat_eq, slice_get}
use Rattle.std.specs.Map.{lookup}
use Rattle.f3_lookups.specs.declared.lookup.Lookup.{Lookup}
use Rattle.f3_lookups.specs.declared.lookup.Lookup.TheVariants.{Nothing}
use Rattle.f3_places.specs.declared.source.Place.{Place}
use Rattle.f3_rules.specs.declared.rule.Rule.{Rule}
use Rattle.f3_rules.specs.declared.breaks.Break.{Break}
use Rattle.f3_rules.specs.Least.{first_of}
use Rattle.f3_tree.specs.declared.expression.Name.{Name}
use Rattle.f3_tree.specs.declared.expression.IntegerLiteral.TheVariants.{Four, Eight}
use Rattle.f3_tree.specs.declared.declaration.TypeSpecifier.{TypeSpecifier}
use Rattle.f3_tree.specs.declared.program.ProcedureKind.{ProcedureKind}
use Rattle.f3_tree.specs.declared.program.UnitKind.{UnitKind}
use Rattle.f3_tree.specs.Expressions as e
use Rattle.f3_tree.specs.Declarations.{Bounds, ShapeTree, AttributeTree, Placed, EntityTree, DeclarationTree, SpecificationTree, defines, PartTree}
use Rattle.f3_tree.specs.Statements.{AssociationTree, Block}
use Rattle.f3_tree.specs.Tree.{ProcedureTree, UnitTree, Tree}
use Rattle.f3_type_rules.specs.Program.{program_breaks}

-- the first break of a program, with what its names mean in its scopes and with an order of its units, is this
abbrev pub Finds : Option Break → Tree → (look : ℕ → ℕ → Lookup) → (order : List ℕ) → Type 0
Finds found t look order = first_of (program_breaks t look order) ≡ found

abbrev pub at : ℕ → ℕ → Place
at l c = record { file = 0; line = l; column = c }

abbrev pub name : ℕ → ℕ → ℕ → Name
name s l c = record { symbol = s; place = at l c }

-- literals of the two kinds
abbrev pub four : Place → ℕ → e.Tree
four p n = e.integer p (Four (pos n))

abbrev pub eight : Place → ℕ → e.Tree
eight p n = e.integer p (Eight (pos n))

abbrev pub bounds : Option e.Tree → e.Tree → Bounds
bounds l u = record { lower = l; upper = u }

abbrev pub entity : Name → Option ShapeTree → Option e.Tree → EntityTree
entity n s i = record { name = n; shape = s; initial = i }

abbrev pub placed : AttributeTree → Placed
placed a = record { place = at 0 0; attribute = a }

abbrev pub declaration : TypeSpecifier → List AttributeTree → List EntityTree → DeclarationTree
declaration t ats es = record { place = at 0 0; specifier = t; attributes = map placed ats; entities = es }

abbrev pub private_at : Bool → Option Place
private_at true = Some (at 0 0)
private_at false = None

abbrev pub type_definition : Name → Bool → List DeclarationTree → List Name → SpecificationTree
type_definition n private ds finals =
    defines record { place = at 0 0; access = None; name = n; private = private_at private; components = ds; contains = None; finals = finals }

abbrev pub part : List SpecificationTree → PartTree
part ss = record { uses = []; implicit_none = None; specifications = ss }

abbrev pub procedure : Bool → ProcedureKind → Name → List Name → List SpecificationTree → Block → ProcedureTree
procedure pure kind n ds ss b = record {
  header = record { place = at 0 0; pure = pure; recursive = false; kind = kind; name = n; dummies = ds };
  part = part ss;
  body = b;
  end = at 0 0;
}

abbrev pub unit : UnitKind → Name → List SpecificationTree → Block → List ProcedureTree → UnitTree
unit kind n ss b ps = record { place = at 0 0; kind = kind; name = n; part = part ss; body = b; contains = None; procedures = ps; end = at 0 0 }

abbrev pub association : Name → e.Tree → AssociationTree
association n e = record { name = n; selector = e }

abbrev pub program : List (List ℕ) → List UnitTree → Tree
program names us = record { names = names; texts = []; units = us; end = at 0 0 }

-- what is visible in each scope; under all other names nothing
abbrev pub or_nothing : Option Lookup → Lookup
or_nothing None = Nothing
or_nothing (Some l) = l

abbrev pub looks : List (List (ℕ × Lookup)) → ℕ → ℕ → Lookup
looks tables scope symbol = elim (slice_get tables scope) [ None ↦ Nothing | Some table ↦ or_nothing (lookup (nat_eq symbol) table) ]

abbrev pub broken : (phase : ℕ) → Rule → (line : ℕ) → (column : ℕ) → (name : Option ℕ) → Break
broken phase rule l c n = record { phase = phase; place = at l c; rule = rule; name = n }
