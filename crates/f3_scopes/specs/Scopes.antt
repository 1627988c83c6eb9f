-- The scopes of a program (16.2, 16.3).
use Rattle.std.specs.Prelude.{ℕ, ◌+◌, Bool, true, false, List, [], ◌∷◌, ◌++◌, map, length, Option, Some, None, if◌then◌else◌}
use Rattle.std.specs.List.{flat_map, list_any}
use Rattle.std.specs.Global.{Vec}
use Rattle.f3_tree.specs.declared.expression.Name.{Name}
use Rattle.f3_tree.specs.declared.declaration.Rename.{Rename}
use Rattle.f3_tree.specs.declared.declaration.Only.{Only}
use Rattle.f3_tree.specs.declared.declaration.Only.TheVariants as only_of
use Rattle.f3_tree.specs.declared.declaration.Intent.{Intent}
use Rattle.f3_tree.specs.declared.program.ProcedureKind.{ProcedureKind}
use Rattle.f3_tree.specs.declared.program.ProcedureKind.TheVariants as procedure
use Rattle.f3_tree.specs.declared.program.UnitKind.{UnitKind}
use Rattle.f3_tree.specs.declared.program.UnitKind.TheVariants as unit
use Rattle.f3_tree.specs.Declarations.{Selects, all, only, UseTree, AttributeTree, protected, parameter, intent, Placed, EntityTree}
use Rattle.f3_tree.specs.Declarations.{DeclarationTree, TypeTree, SpecificationTree, declares, accesses, defines}
use Rattle.f3_tree.specs.Statements.{AssociationTree, StatementTree, acts, acts_if, branches, selects, repeats, associates}
use Rattle.f3_tree.specs.Statements.{Block, no_statements, statements, Branches, no_branches, branch}
use Rattle.f3_tree.specs.Statements.{Alternative, no_alternative, alternative, Cases, no_cases, case_block}
use Rattle.f3_tree.specs.Tree.{ProcedureTree, UnitTree, Tree}
use Rattle.f3_scopes.specs.declared.outline.ScopeKind.{ScopeKind}
use Rattle.f3_scopes.specs.declared.outline.ScopeKind.TheVariants as scope
use Rattle.f3_scopes.specs.declared.outline.EntityKind.{EntityKind}
use Rattle.f3_scopes.specs.declared.outline.EntityKind.TheVariants as entity
use Rattle.f3_scopes.specs.declared.outline.UseItem.{UseItem}
use Rattle.f3_scopes.specs.declared.outline.Component.{Component}
use Rattle.f3_scopes.specs.Outlines.{Using, Own, Listed, Part, Scope, part_view}
use Rattle.f3_part_names.specs.Names.{named_specifier, named_specification}
use Rattle.f3_part_names.specs.Given.{accesses_of, access_list, access_places_in, given_in, protects_in}

-- ---- USE (11.2.1)

abbrev pub renamed : Rename → UseItem
renamed r = record { local = r.local; original = r.original; is_rename = true }

abbrev pub only_item : Only → UseItem
only_item (only_of.Name n) = record { local = n; original = n; is_rename = false }
only_item (only_of.Rename r) = renamed r

abbrev pub has_only : Selects → Bool
has_only (all renames) = false
has_only (only names) = true

abbrev pub items_of : Selects → List UseItem
items_of (all renames) = map renamed renames
items_of (only names) = map only_item names

abbrev pub using : UseTree → Using
using u = record { from = u.from; has_only = has_only u.selection; items = items_of u.selection }

-- ---- declarations (5.1, 4.5)

abbrev pub is_protected : AttributeTree → Bool
is_protected protected = true
is_protected _ = false

abbrev pub is_parameter : AttributeTree → Bool
is_parameter parameter = true
is_parameter _ = false

abbrev pub intent_of : AttributeTree → List Intent
intent_of (intent i) = i ∷ []
intent_of _ = []

abbrev pub intents_of : List Placed → List Intent
intents_of ps = flat_map (λ (p : Placed). intent_of p.attribute) ps

-- with PARAMETER a name is that of a constant (5.1.2.10)
abbrev pub kind_of : List Placed → EntityKind
kind_of ps = if list_any (λ (p : Placed). is_parameter p.attribute) ps then entity.Constant else entity.Variable

-- a name with the attributes of its declaration
abbrev pub own : List Placed → EntityTree → Own
own ps e = record {
  name = e.name;
  kind = kind_of ps;
  accesses = accesses_of ps;
  is_protected = list_any (λ (p : Placed). is_protected p.attribute) ps;
  intents = intents_of ps;
}

-- a name that is declared without attributes
abbrev pub plain : EntityKind → Name → Own
plain kind n = record { name = n; kind = kind; accesses = []; is_protected = false; intents = [] }

abbrev pub type_own : TypeTree → Own
type_own t = record { name = t.name; kind = entity.DerivedType; accesses = access_list t.access; is_protected = false; intents = [] }

abbrev pub declared_in : SpecificationTree → List Own
declared_in (declares d) = map (own d.attributes) d.entities
declared_in (defines t) = type_own t ∷ []
declared_in _ = []

abbrev pub accesses_in : SpecificationTree → List Listed
accesses_in (accesses a) = record { place = a.place; accessibility = a.accessibility; names = a.names } ∷ []
accesses_in _ = []

-- the components that a declaration in a type definition declares
abbrev pub component : List Placed → EntityTree → Part
component ps e = record { name = e.name; accesses = accesses_of ps }

abbrev pub components_of : DeclarationTree → List Part
components_of d = map (component d.attributes) d.entities

abbrev pub types_in : SpecificationTree → List (List Part)
types_in (defines t) = flat_map components_of t.components ∷ []
types_in _ = []

abbrev pub parts_view : Vec Component → List Part
parts_view v = map part_view v.items

-- ---- ASSOCIATE constructs (8.1.4, 16.3)

-- what stands for the name of a construct, which has none: its first associate name, or else the name of the scope around
abbrev pub construct_name : Name → List AssociationTree → Name
construct_name around [] = around
construct_name around (x ∷ xs) = x.name

-- an associate name is that of a variable
abbrev pub association_own : AssociationTree → Own
association_own x = plain entity.Variable x.name

abbrev pub scope_of_construct : ℕ → Name → List AssociationTree → Scope
scope_of_construct host around xs = record {
  kind = scope.Associate;
  name = construct_name around xs;
  host = Some host;
  uses = [];
  declared = map association_own xs;
  dummies = [];
  outcome = None;
  result = None;
  is_typed = false;
  accesses = [];
  given = [];
  access_attributes = [];
  protects = [];
  types = [];
  references = [];
}

-- The constructs that stand in the scope of this number and name, one in another or one behind another, in order of
-- place: a construct comes before those within it. The first has the second number.
abbrev mutual
  pub constructs_in : (host : ℕ) (around : Name) (number : ℕ) → StatementTree → List Scope
  constructs_in host around number (acts p action) = []
  constructs_in host around number (acts_if p e q action) = []
  constructs_in host around number (branches bs other) =
      constructs_in_branches host around number bs
      ++ constructs_in_alternative host around (number + length (constructs_in_branches host around number bs)) other
  constructs_in host around number (selects p e cs) = constructs_in_cases host around number cs
  constructs_in host around number (repeats p control body) = constructs_in_block host around number body
  constructs_in host around number (associates p xs body) =
      scope_of_construct host around xs ∷ constructs_in_block number (construct_name around xs) (number + 1) body

  pub constructs_in_block : (host : ℕ) (around : Name) (number : ℕ) → Block → List Scope
  constructs_in_block host around number no_statements = []
  constructs_in_block host around number (statements s others) =
      constructs_in host around number s
      ++ constructs_in_block host around (number + length (constructs_in host around number s)) others

  pub constructs_in_branches : (host : ℕ) (around : Name) (number : ℕ) → Branches → List Scope
  constructs_in_branches host around number no_branches = []
  constructs_in_branches host around number (branch p e body others) =
      constructs_in_block host around number body
      ++ constructs_in_branches host around (number + length (constructs_in_block host around number body)) others

  pub constructs_in_alternative : (host : ℕ) (around : Name) (number : ℕ) → Alternative → List Scope
  constructs_in_alternative host around number no_alternative = []
  constructs_in_alternative host around number (alternative body) = constructs_in_block host around number body

  pub constructs_in_cases : (host : ℕ) (around : Name) (number : ℕ) → Cases → List Scope
  constructs_in_cases host around number no_cases = []
  constructs_in_cases host around number (case_block p selection body others) =
      constructs_in_block host around number body
      ++ constructs_in_cases host around (number + length (constructs_in_block host around number body)) others

-- ---- scopes

abbrev pub procedure_kind : ProcedureKind → ScopeKind
procedure_kind procedure.Subroutine = scope.Subroutine
procedure_kind (procedure.Function specifier outcome) = scope.Function

abbrev pub entity_kind : ProcedureKind → EntityKind
entity_kind procedure.Subroutine = entity.Subroutine
entity_kind (procedure.Function specifier outcome) = entity.Function

abbrev pub name_or : Option Name → Name → Name
name_or None n = n
name_or (Some m) n = m

-- the name of a function's result: behind RESULT, or its own (12.5.2.1)
abbrev pub result_of : ProcedureKind → Name → Option Name
result_of procedure.Subroutine n = None
result_of (procedure.Function specifier outcome) n = Some (name_or outcome n)

-- the name behind RESULT
abbrev pub outcome_of : ProcedureKind → Option Name
outcome_of procedure.Subroutine = None
outcome_of (procedure.Function specifier outcome) = outcome

abbrev pub is_typed : ProcedureKind → Bool
is_typed (procedure.Function (Some s) outcome) = true
is_typed _ = false

-- what a prefix with a type declares: the result
abbrev pub typed_result : ProcedureKind → Name → List Own
typed_result (procedure.Function (Some s) outcome) n = plain entity.Variable (name_or outcome n) ∷ []
typed_result _ n = []

abbrev pub prefix_names : ProcedureKind → List Name
prefix_names (procedure.Function (Some s) outcome) = named_specifier s
prefix_names _ = []

abbrev pub scope_of_procedure : ℕ → ProcedureTree → Scope
scope_of_procedure host p = record {
  kind = procedure_kind (p.header).kind;
  name = (p.header).name;
  host = Some host;
  uses = map using (p.part).uses;
  declared = typed_result (p.header).kind (p.header).name ++ flat_map declared_in (p.part).specifications;
  dummies = (p.header).dummies;
  outcome = outcome_of (p.header).kind;
  result = result_of (p.header).kind (p.header).name;
  is_typed = is_typed (p.header).kind;
  accesses = flat_map accesses_in (p.part).specifications;
  given = flat_map given_in (p.part).specifications;
  access_attributes = flat_map access_places_in (p.part).specifications;
  protects = flat_map protects_in (p.part).specifications;
  types = flat_map types_in (p.part).specifications;
  references = prefix_names (p.header).kind ++ flat_map named_specification (p.part).specifications;
}

abbrev pub procedure_own : ProcedureTree → Own
procedure_own p = plain (entity_kind (p.header).kind) (p.header).name

abbrev pub unit_kind : UnitKind → ScopeKind
unit_kind unit.Module = scope.Module
unit_kind unit.Program = scope.Program

abbrev pub scope_of_unit : UnitTree → Scope
scope_of_unit u = record {
  kind = unit_kind u.kind;
  name = u.name;
  host = None;
  uses = map using (u.part).uses;
  declared = flat_map declared_in (u.part).specifications ++ map procedure_own u.procedures;
  dummies = [];
  outcome = None;
  result = None;
  is_typed = false;
  accesses = flat_map accesses_in (u.part).specifications;
  given = flat_map given_in (u.part).specifications;
  access_attributes = flat_map access_places_in (u.part).specifications;
  protects = flat_map protects_in (u.part).specifications;
  types = flat_map types_in (u.part).specifications;
  references = flat_map named_specification (u.part).specifications;
}

-- a procedure of this number, and behind it the constructs of its body
abbrev pub procedure_scopes : (host : ℕ) (number : ℕ) → ProcedureTree → List Scope
procedure_scopes host number p = scope_of_procedure host p ∷ constructs_in_block number (p.header).name (number + 1) p.body

-- procedures one behind another, where the first has the second number
abbrev pub procedures_from : (host : ℕ) (number : ℕ) → List ProcedureTree → List Scope
procedures_from host number [] = []
procedures_from host number (p ∷ ps) =
    procedure_scopes host number p ++ procedures_from host (number + length (procedure_scopes host number p)) ps

-- a unit of this number without its procedures, and behind it the constructs of its body
abbrev pub own_scopes : ℕ → UnitTree → List Scope
own_scopes number u = scope_of_unit u ∷ constructs_in_block number u.name (number + 1) u.body

-- a unit of this number with its constructs, and behind them its procedures with theirs
abbrev pub unit_scopes : ℕ → UnitTree → List Scope
unit_scopes number u = own_scopes number u ++ procedures_from number (number + length (own_scopes number u)) u.procedures

-- the scopes of the units, where the first has this number
abbrev pub scopes_from : ℕ → List UnitTree → List Scope
scopes_from number [] = []
scopes_from number (u ∷ us) = unit_scopes number u ++ scopes_from (number + length (unit_scopes number u)) us

abbrev pub scopes_of : Tree → List Scope
scopes_of t = scopes_from 0 t.units
