-- Trees of programs in short words: nothing is written of what an elaborated program does not rest on.
use Rattle.std.specs.Prelude.{ℕ, pos, Bool, false, List, [], Option, None, Some, map, nat_eq, slice_get}
use Rattle.std.specs.Map.{lookup}
use Rattle.f3_lookups.specs.declared.lookup.Lookup.{Lookup}
use Rattle.f3_lookups.specs.declared.lookup.Lookup.TheVariants.{Nothing}
use Rattle.f3_places.specs.declared.source.Place.{Place}
use Rattle.f3_tree.specs.declared.expression.Name.{Name}
use Rattle.f3_tree.specs.declared.expression.IntegerLiteral.TheVariants.{Four, Eight}
use Rattle.f3_tree.specs.declared.declaration.Accessibility.{Accessibility}
use Rattle.f3_tree.specs.declared.declaration.TypeSpecifier.{TypeSpecifier}
use Rattle.f3_tree.specs.declared.program.ProcedureKind.{ProcedureKind}
use Rattle.f3_tree.specs.declared.program.UnitKind.{UnitKind}
use Rattle.f3_tree.specs.Expressions as e
use Rattle.f3_tree.specs.Declarations.{Bounds, ShapeTree, AttributeTree, Placed, EntityTree, DeclarationTree, SpecificationTree, accesses, defines, PartTree}
use Rattle.f3_tree.specs.Statements.{AssociationTree, Block}
use Rattle.f3_tree.specs.Tree.{ProcedureTree, UnitTree, Tree}

abbrev pub at : ℕ → ℕ → Place
at l c = record { file = 1; line = l; column = c }

abbrev pub name : ℕ → ℕ → ℕ → Name
name s l c = record { symbol = s; place = at l c }

-- literals of the two kinds
abbrev pub four : Place → ℕ → e.Tree
four p n = e.integer p (Four (pos n))

abbrev pub eight : Place → ℕ → e.Tree
eight p n = e.integer p (Eight (pos n))

abbrev pub bounds : Option e.Tree → e.Tree → Bounds
bounds l u = record { lower = l; upper = u }

abbrev pub entity : Name → Option ShapeTree → Option e.Tree → EntityTree
entity n s i = record { name = n; shape = s; initial = i }

abbrev pub placed : AttributeTree → Placed
placed a = record { place = at 0 0; attribute = a }

abbrev pub declaration : TypeSpecifier → List AttributeTree → List EntityTree → DeclarationTree
declaration t ats es = record { place = at 0 0; specifier = t; attributes = map placed ats; entities = es }

abbrev pub access_statement : Accessibility → List Name → SpecificationTree
access_statement a ns = accesses record { place = at 0 0; accessibility = a; names = ns }

abbrev pub type_definition : Name → Option Place → List DeclarationTree → List Name → SpecificationTree
type_definition n p ds finals =
    defines record { place = at 0 0; access = None; name = n; private = p; components = ds; contains = None; finals = finals }

abbrev pub part : List SpecificationTree → PartTree
part ss = record { uses = []; implicit_none = None; specifications = ss }

abbrev pub procedure : Bool → ProcedureKind → Name → List Name → List SpecificationTree → Block → Place → ProcedureTree
procedure pure kind n ds ss b end = record {
  header = record { place = at 0 0; pure = pure; recursive = false; kind = kind; name = n; dummies = ds };
  part = part ss;
  body = b;
  end = end;
}

abbrev pub unit : Place → UnitKind → Name → List SpecificationTree → Block → List ProcedureTree → Place → UnitTree
unit p kind n ss b ps end = record { place = p; kind = kind; name = n; part = part ss; body = b; contains = None; procedures = ps; end = end }

abbrev pub association : Name → e.Tree → AssociationTree
association n e = record { name = n; selector = e }

abbrev pub program : List (List ℕ) → List (List ℕ) → List UnitTree → Tree
program names texts us = record { names = names; texts = texts; units = us; end = at 0 0 }

-- what is visible in each scope; under all other names nothing
abbrev pub or_nothing : Option Lookup → Lookup
or_nothing None = Nothing
or_nothing (Some l) = l

abbrev pub looks : List (List (ℕ × Lookup)) → ℕ → ℕ → Lookup
looks tables scope symbol = elim (slice_get tables scope) [ None ↦ Nothing | Some table ↦ or_nothing (lookup (nat_eq symbol) table) ]
