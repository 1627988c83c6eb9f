-- What the rules on types know of the entities of a program that breaks no rule, and what its elaborated program says, are of the same
-- kinds: of one type, of one rank, allocatable or not.
use Rattle.std.specs.Prelude.{◌≡◌, ℕ, ◌<◌, Bool, List, [], Some, length, slice_get}
use Rattle.std.specs.List.{flat_map}
use Rattle.f3_lookups.specs.declared.lookup.Lookup.{Lookup}
use Rattle.f3_graph.specs.Order.{IsOrderOf}
use Rattle.f3_graph.specs.Units.{nodes_of}
use Rattle.f3_scopes.specs.declared.outline.EntityKind.TheVariants.{DerivedType}
use Rattle.f3_tree.specs.Tree.{Tree}
use Rattle.f3_program.specs.declared.declarations.Kind.{Kind}
use Rattle.f3_program.specs.declared.program.Procedure.{Procedure}
use Rattle.f3_program.specs.declared.program.Program.{Program}
use Rattle.f3_kinds.specs.declared.things.Component.{Component}
use Rattle.f3_kinds.specs.declared.things.Dummy.{Dummy}
use Rattle.f3_kinds.specs.declared.types.Object.{Object}
use Rattle.f3_kinds.specs.Things.{constant, derived, subroutine, function}
use Rattle.f3_meaning_whole.specs.Exec.{declared_in}
use Rattle.f3_meaning_whole.specs.Formed.{of_kind, result_kind, kinds_of, kind_of_name}
use Rattle.f3_meaning_whole.specs.Permitted.{Each}
use Rattle.f3_type_rules.specs.Members.{Member, Numbered}
use Rattle.f3_type_rules.specs.Program.{units_in}
use Rattle.f3_elaboration.specs.Context.{Surroundings, base}
use Rattle.f3_elaboration.specs.Declarations.{context}
use Rattle.f3_elaboration.specs.DeclaredViews.{procedure_view, program_view}
use Rattle.f3_elaboration.specs.Numbers.{Inner, Definition, definitions, number_in}
use Rattle.f3_elaboration.specs.Program.{elaborated}
use Rattle.f3_elaboration.specs.Units.{surroundings}
use Rattle.f3_lawful_laws.specs.Entities.{units_of, whole_of}
use Rattle.f3_formed_laws.specs.Agreement.{kind_of, IsConstant, HasComponents, HasDummies}
use Rattle.f3_formed_laws.specs.Entities.{HasOwnResult, KindsAgree, StandsBehind}
use Rattle.f3_agreement_laws.specs.Unbroken.{HasOuterTypes, IsUnbroken}
use Rattle.f3_entity_laws.specs.Things.{Home, of_unit, of_member, IsHome}
use Rattle.f3_variable_laws.specs.Bodies.{node_of, surroundings_in}
use Rattle.f3_variable_laws.specs.Laws.{IsElaborated, OfVariables}
use Rattle.f3_kind_laws.specs.Written.{AreInitialsWritten}

-- ---- units and types

-- each unit is among those that are checked
abbrev pub UnitsAreOrdered : Type 0
UnitsAreOrdered = (t : Tree) (order : List ℕ) → IsOrderOf (nodes_of t) order
    → Each (λ (u : Numbered). (k : ℕ) × (slice_get (units_in (units_of t) order) k ≡ Some u)) (units_of t)

-- the number of a declared type is below their count
abbrev pub TypesAreCounted : Type 0
TypesAreCounted = (t : Tree) (look : ℕ → ℕ → Lookup) (order : List ℕ) → HasOuterTypes t → IsOrderOf (nodes_of t) order
    → (e : ℕ) → slice_get (((whole_of t look order).scene).names).kinds e ≡ Some DerivedType
    → number_in ((whole_of t look order).numbers).types e < length (flat_map definitions (units_in (units_of t) order))

-- a type stands behind those of its components
abbrev pub TypesStandBehind : Type 0
TypesStandBehind = (t : Tree) (look : ℕ → ℕ → Lookup) (order : List ℕ) → IsUnbroken t look order → (k : ℕ) (d : Definition)
    → slice_get (flat_map definitions (units_in (units_of t) order)) k ≡ Some d → StandsBehind (whole_of t look order) k d

-- ---- what stands under a number, wherever a body begins

-- a type has components of the kinds that the rules know
abbrev pub TypesHaveComponents : Type 0
TypesHaveComponents = (t : Tree) (look : ℕ → ℕ → Lookup) (order : List ℕ) (p : Program) → HasOuterTypes t → IsOrderOf (nodes_of t) order
    → program_view p ≡ elaborated t look order → (unit scope : ℕ) (inner : Inner) (e home : ℕ) (ks : List (ℕ × Component)) (f : Bool)
    → (context (whole_of t look order) unit scope).nature e ≡ Some (derived home ks f)
    → HasComponents p (surroundings (whole_of t look order) unit scope inner) e ks

-- a subroutine has dummies of these kinds
abbrev pub SubroutinesHaveDummies : Type 0
SubroutinesHaveDummies = (t : Tree) (look : ℕ → ℕ → Lookup) (order : List ℕ) (p : Program) → program_view p ≡ elaborated t look order
    → (unit scope : ℕ) (inner : Inner) (e : ℕ) (pure : Bool) (ds : List (ℕ × Dummy))
    → (context (whole_of t look order) unit scope).nature e ≡ Some (subroutine pure ds)
    → HasDummies p (surroundings (whole_of t look order) unit scope inner) e ds

-- so has a function, and a result of the kind of its own
abbrev pub FunctionsHaveDummies : Type 0
FunctionsHaveDummies = (t : Tree) (look : ℕ → ℕ → Lookup) (order : List ℕ) (p : Program) → program_view p ≡ elaborated t look order
    → (unit scope : ℕ) (inner : Inner) (e : ℕ) (pure : Bool) (ds : List (ℕ × Dummy)) (o : Object)
    → (context (whole_of t look order) unit scope).nature e ≡ Some (function pure ds o)
    → let s : Surroundings = surroundings (whole_of t look order) unit scope inner in
    (q : HasDummies p s e ds) × (result_kind (q.procedure).result ≡ of_kind (base s o.data_type) o.rank)

-- the result of a function is no dummy
abbrev pub ResultsAreOwn : Type 0
ResultsAreOwn = (t : Tree) (look : ℕ → ℕ → Lookup) (order : List ℕ) → IsUnbroken t look order
    → (u : Numbered) (m : Member) → IsHome (units_of t) (of_member u m) → HasOwnResult m

-- ---- constants and variables

-- where initializers are such as a source may spell, a named constant is a scalar with a value of its type
abbrev pub ConstantsAreOfTypes : Type 0
ConstantsAreOfTypes = (t : Tree) (look : ℕ → ℕ → Lookup) (order : List ℕ) (p : Program) → AreInitialsWritten t → IsUnbroken t look order
    → program_view p ≡ elaborated t look order → (unit scope : ℕ) (inner : Inner) (e : ℕ) (o : Object)
    → (context (whole_of t look order) unit scope).nature e ≡ Some (constant o)
    → IsConstant (surroundings (whole_of t look order) unit scope inner) e o

-- the kinds of the dummies of a procedure; a unit itself has none
abbrev pub dummies_in : Home → Procedure → List Kind
dummies_in (of_unit u) q = []
dummies_in (of_member u m) q = kinds_of q.dummies.items

-- a variable that a name means where a body begins is of the kind that its declaration says
abbrev pub VariablesAreOfKinds : Type 0
VariablesAreOfKinds = (p : Program) (t : Tree) (look : ℕ → ℕ → Lookup) (order : List ℕ) → IsElaborated p t look order
    → (h : Home) → IsHome (units_of t) h → (q : Procedure) → procedure_view q ≡ node_of (whole_of t look order) h
    → let s : Surroundings = surroundings_in (whole_of t look order) h in
    OfVariables s (λ e o. kind_of_name p (declared_in q) (dummies_in h q) (s.object e) ≡ Some (kind_of s o))

-- ---- the whole

-- so the rules and the elaborated program are of the same kinds
abbrev pub KindsDoAgree : Type 0
KindsDoAgree = (p : Program) (t : Tree) (look : ℕ → ℕ → Lookup) (order : List ℕ) → AreInitialsWritten t → IsUnbroken t look order
    → IsElaborated p t look order → KindsAgree p t look order
