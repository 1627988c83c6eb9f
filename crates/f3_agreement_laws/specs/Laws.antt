-- What the rules on types know of the entities of a program that breaks no rule, and what its elaboration says of them.
use Rattle.std.specs.Prelude.{◌≡◌, ℕ, Bool, List, Some, map}
use Rattle.std.specs.List.{flat_map}
use Rattle.f3_lookups.specs.declared.lookup.Lookup.{Lookup}
use Rattle.f3_access.specs.Access.{IsVisible}
use Rattle.f3_graph.specs.Order.{IsOrderOf}
use Rattle.f3_graph.specs.Units.{nodes_of}
use Rattle.f3_scopes.specs.Scopes.{scopes_of}
use Rattle.f3_tree.specs.Statements.{AssociationTree}
use Rattle.f3_tree.specs.Tree.{Tree}
use Rattle.f3_program.specs.declared.program.Program.{Program}
use Rattle.f3_kinds.specs.declared.things.Component.{Component}
use Rattle.f3_kinds.specs.declared.things.Dummy.{Dummy}
use Rattle.f3_kinds.specs.declared.types.Object.{Object}
use Rattle.f3_kinds.specs.Things.{derived, subroutine, function}
use Rattle.f3_meaning_whole.specs.Permitted.{names_in}
use Rattle.f3_type_rules.specs.Program.{units_in}
use Rattle.f3_elaboration.specs.Context.{Surroundings}
use Rattle.f3_elaboration.specs.Declarations.{context}
use Rattle.f3_elaboration.specs.DeclaredViews.{program_view}
use Rattle.f3_elaboration.specs.Numbers.{Inner, definitions}
use Rattle.f3_elaboration.specs.Program.{elaborated}
use Rattle.f3_elaboration.specs.Units.{surroundings}
use Rattle.f3_lawful_laws.specs.Agreement.{Knows, IsType, lent, AreGiven}
use Rattle.f3_lawful_laws.specs.Entities.{units_of, whole_of, AreNumbered}
use Rattle.f3_entity_laws.specs.Laws.{IsThing}
use Rattle.f3_entity_laws.specs.Things.{Home, unit_in, number_of, associate, IsHome}
use Rattle.f3_agreement_laws.specs.Unbroken.{HasOuterTypes, IsUnbroken}

-- outside its construct no associate name is visible
abbrev pub VisibleIsNoAssociate : Type 0
VisibleIsNoAssociate = (t : Tree) (h k : Home) (symbol e n : ℕ) (x : AssociationTree) → IsHome (units_of t) h
    → IsVisible (scopes_of t) (number_of h) symbol e → IsThing t e (associate k n x) → ⊥

-- each type has the number of its place
abbrev pub TypesAreAtPlaces : Type 0
TypesAreAtPlaces = (t : Tree) (look : ℕ → ℕ → Lookup) (order : List ℕ) → IsOrderOf (nodes_of t) order
    → AreNumbered (whole_of t look order) (flat_map definitions (units_in (units_of t) order))

-- where a body begins every type that is declared is known
abbrev pub TypesAreKnown : Type 0
TypesAreKnown = (t : Tree) (look : ℕ → ℕ → Lookup) (order : List ℕ) → IsUnbroken t look order → (h : Home) → IsHome (units_of t) h
    → Knows (context (whole_of t look order) (unit_in h).scope (number_of h))

-- The types of the rules are those of the program, wherever a body begins.
abbrev pub TypesAgree : Type 0
TypesAgree = (t : Tree) (look : ℕ → ℕ → Lookup) (order : List ℕ) (p : Program) → HasOuterTypes t → IsOrderOf (nodes_of t) order
    → program_view p ≡ elaborated t look order → (unit scope : ℕ) (inner : Inner) (e home : ℕ) (ks : List (ℕ × Component)) (f : Bool)
    → (context (whole_of t look order) unit scope).nature e ≡ Some (derived home ks f)
    → IsType p (surroundings (whole_of t look order) unit scope inner) e home ks

-- so are its subroutines
abbrev pub SubroutinesAgree : Type 0
SubroutinesAgree = (t : Tree) (look : ℕ → ℕ → Lookup) (order : List ℕ) (p : Program) → program_view p ≡ elaborated t look order
    → (unit scope : ℕ) (inner : Inner) (e : ℕ) (pure : Bool) (ds : List (ℕ × Dummy))
    → (context (whole_of t look order) unit scope).nature e ≡ Some (subroutine pure ds)
    → let s : Surroundings = surroundings (whole_of t look order) unit scope inner in names_in p (s.procedure e) ≡ map (lent s) ds

-- and its functions, none of whose dummies may be defined
abbrev pub FunctionsAgree : Type 0
FunctionsAgree = (t : Tree) (look : ℕ → ℕ → Lookup) (order : List ℕ) (p : Program) → IsUnbroken t look order
    → program_view p ≡ elaborated t look order → (unit scope : ℕ) (inner : Inner) (e : ℕ) (pure : Bool) (ds : List (ℕ × Dummy)) (o : Object)
    → (context (whole_of t look order) unit scope).nature e ≡ Some (function pure ds o)
    → let s : Surroundings = surroundings (whole_of t look order) unit scope inner in (names_in p (s.procedure e) ≡ map (lent s) ds) × AreGiven ds
