-- What is known of the entities of a program is listed in one order, that of what declares them; and its elaboration names them by their
-- places there.
use Rattle.std.specs.Prelude.{◌≡◌, ℕ, Bool, List, Some, map, slice_get, position, nat_eq}
use Rattle.std.specs.List.{flat_map}
use Rattle.f3_lookups.specs.declared.lookup.Lookup.{Lookup}
use Rattle.f3_access.specs.Access.{entities_of, IsDeclared}
use Rattle.f3_graph.specs.Order.{IsOrderOf}
use Rattle.f3_graph.specs.Units.{nodes_of}
use Rattle.f3_scopes.specs.Scopes.{scopes_of}
use Rattle.f3_tree.specs.declared.declaration.TypeSpecifier.{TypeSpecifier}
use Rattle.f3_tree.specs.Declarations.{TypeTree}
use Rattle.f3_tree.specs.Tree.{Tree}
use Rattle.f3_kinds.specs.Things.{Nature}
use Rattle.f3_type_rules.specs.declared.definition.Holder.{Holder}
use Rattle.f3_type_rules.specs.Members.{Member, Numbered}
use Rattle.f3_type_rules.specs.Names.{Names, Declared}
use Rattle.f3_type_rules.specs.Natures.{unit_natures, settled, specifier_of}
use Rattle.f3_type_rules.specs.Program.{units_in}
use Rattle.f3_type_rules.specs.Scene.{holders_from, names_of}
use Rattle.f3_phase_laws.specs.Numbers.{units_of}
use Rattle.f3_elaboration.specs.Numbers.{Variable, Definition, unit_names, definitions, member_names, numbers_of, main_locals, member_locals}
use Rattle.f3_entity_laws.specs.Things.{Home, of_unit, of_member, unit_in, number_of, scope_at}
use Rattle.f3_entity_laws.specs.Things.{Thing, name, type, procedure, result, things_of, scope_of, own_of, symbol_of}
use Rattle.f3_entity_laws.specs.Things.{Stands, nature_of, IsHolderOf, IsAmong, IsHome, IsOf}

-- what declares the entity of this number
abbrev pub IsThing : Tree → (entity : ℕ) → Thing → Type 0
IsThing t e g = slice_get (things_of (units_of t)) e ≡ Some g

-- ---- of which parts of the program things are

abbrev pub ThingsAreOfProgram : Type 0
ThingsAreOfProgram = (t : Tree) (e : ℕ) (g : Thing) → IsThing t e g → IsOf (units_of t) g

-- ---- natures

-- as many entities have natures as there are things, and each has that of its thing
abbrev pub NaturesAreThings : Type 0
NaturesAreThings = (names : Names) (us : List Numbered) (e : ℕ) (n : Nature) → slice_get (settled (flat_map (unit_natures names) us)) e ≡ Some n
    → (g : Thing) × (f : Bool) × (slice_get (things_of us) e ≡ Some g) × (n ≡ nature_of names f g)

abbrev pub ThingsHaveNatures : Type 0
ThingsHaveNatures = (names : Names) (us : List Numbered) (e : ℕ) (g : Thing) → slice_get (things_of us) e ≡ Some g
    → (f : Bool) × (slice_get (settled (flat_map (unit_natures names) us)) e ≡ Some (nature_of names f g))

-- ---- entities

-- each entity of the tables of names is what its thing declares
abbrev pub EntitiesAreThings : Type 0
EntitiesAreThings = (t : Tree) → entities_of (scopes_of t) ≡ map own_of (things_of (units_of t))

-- and its number is told by its place in its scope
abbrev pub ThingsStand : Type 0
ThingsStand = (t : Tree) (e : ℕ) (g : Thing) → IsThing t e g → Stands (scopes_of t) g e

abbrev pub ThingsAreDeclared : Type 0
ThingsAreDeclared = (t : Tree) (e : ℕ) (g : Thing) → IsThing t e g → IsDeclared (scopes_of t) (scope_of g) (symbol_of g) e

abbrev pub DeclaredAreThings : Type 0
DeclaredAreThings = (t : Tree) (scope symbol e : ℕ) → IsDeclared (scopes_of t) scope symbol e
    → (g : Thing) × IsThing t e g × (scope_of g ≡ scope) × (symbol_of g ≡ symbol)

abbrev pub KindsAreThings : Type 0
KindsAreThings = (t : Tree) (look : ℕ → ℕ → Lookup) (e : ℕ) (g : Thing) → IsThing t e g
    → slice_get (names_of t look).kinds e ≡ Some (own_of g).kind

-- the scope of a home stands under its number
abbrev pub HomesAreScopes : Type 0
HomesAreScopes = (t : Tree) (h : Home) → IsHome (units_of t) h → slice_get (scopes_of t) (number_of h) ≡ Some (scope_at h)

-- ---- holders

abbrev pub ThingsHaveHolders : Type 0
ThingsHaveHolders = (t : Tree) (e : ℕ) (g : Thing) → IsThing t e g
    → (k : Holder) × (slice_get (holders_from 0 (scopes_of t)) e ≡ Some k) × IsHolderOf g k

abbrev pub HoldersAreThings : Type 0
HoldersAreThings = (t : Tree) (e : ℕ) (k : Holder) → slice_get (holders_from 0 (scopes_of t)) e ≡ Some k
    → (g : Thing) × IsThing t e g × IsHolderOf g k

-- ---- the entities that the elaboration names

-- the declared names of a unit itself, or of a procedure
abbrev pub names_at : Home → List Variable
names_at (of_unit u) = unit_names u
names_at (of_member u m) = member_names u.scope m

-- a declared name with its entity
abbrev pub variable_at : Home → (entity : ℕ) → Declared → Variable
variable_at h e x = record { entity = e; unit = (unit_in h).scope; scope = number_of h; tree = x }

abbrev pub NamesAreThings : Type 0
NamesAreThings = (t : Tree) (h : Home) (v : Variable) → IsHome (units_of t) h → IsAmong (names_at h) v
    → (v ≡ variable_at h v.entity v.tree) × IsThing t v.entity (name h v.tree)

abbrev pub ThingsAreNames : Type 0
ThingsAreNames = (t : Tree) (h : Home) (e : ℕ) (x : Declared) → IsThing t e (name h x)
    → IsAmong (names_at h) (variable_at h e x)

abbrev pub definition_at : Numbered → (entity : ℕ) → TypeTree → Definition
definition_at u e x = record { entity = e; unit = u; tree = x }

abbrev pub TypesAreThings : Type 0
TypesAreThings = (t : Tree) (u : Numbered) (d : Definition) → IsAmong (units_of t) u → IsAmong (definitions u) d
    → (d ≡ definition_at u d.entity d.tree) × IsThing t d.entity (type (of_unit u) d.tree)

abbrev pub ThingsAreTypes : Type 0
ThingsAreTypes = (t : Tree) (u : Numbered) (e : ℕ) (x : TypeTree) → IsThing t e (type (of_unit u) x)
    → IsAmong (definitions u) (definition_at u e x)

abbrev pub ProceduresAreThings : Type 0
ProceduresAreThings = (t : Tree) (u : Numbered) (m : Member) → IsHome (units_of t) (of_member u m)
    → IsThing t m.entity (procedure u m)

abbrev pub ThingsAreProcedures : Type 0
ThingsAreProcedures = (t : Tree) (e : ℕ) (u : Numbered) (m : Member) → IsThing t e (procedure u m) → m.entity ≡ e

-- a result that the header types is the first entity of its procedure
abbrev pub ResultsAreThings : Type 0
ResultsAreThings = (t : Tree) (u : Numbered) (m : Member) (s : TypeSpecifier) → IsHome (units_of t) (of_member u m)
    → specifier_of ((m.tree).header).kind ≡ Some s → IsThing t m.first (result u m s)

abbrev pub ThingsAreResults : Type 0
ThingsAreResults = (t : Tree) (e : ℕ) (u : Numbered) (m : Member) (s : TypeSpecifier) → IsThing t e (result u m s)
    → m.first ≡ e

-- ---- the numbers of the elaboration: in each list an entity stands once

-- what stands at a place is found there
abbrev pub AreFound : List ℕ → Type 0
AreFound es = (i e : ℕ) → slice_get es i ≡ Some e → position (nat_eq e) es ≡ Some i

abbrev pub entities : List Variable → List ℕ
entities vs = map (λ (v : Variable). v.entity) vs

abbrev pub StaticsAreFound : Type 0
StaticsAreFound = (t : Tree) (ordered : List Numbered) → AreFound (numbers_of (units_of t) ordered).statics

abbrev pub ProceduresAreFound : Type 0
ProceduresAreFound = (t : Tree) (ordered : List Numbered) → AreFound (numbers_of (units_of t) ordered).procedures

abbrev pub TypesAreFound : Type 0
TypesAreFound = (t : Tree) (order : List ℕ) → IsOrderOf (nodes_of t) order → AreFound (numbers_of (units_of t) (units_in (units_of t) order)).types

-- and each type is there
abbrev pub TypesAreNumbered : Type 0
TypesAreNumbered = (t : Tree) (order : List ℕ) (u : Numbered) (d : Definition) → IsOrderOf (nodes_of t) order → IsAmong (units_of t) u
    → IsAmong (definitions u) d → IsAmong (flat_map definitions (units_in (units_of t) order)) d

abbrev pub LocalsAreFound : Type 0
LocalsAreFound = (t : Tree) (u : Numbered) → IsAmong (units_of t) u → AreFound (entities (main_locals u))

abbrev pub MemberLocalsAreFound : Type 0
MemberLocalsAreFound = (t : Tree) (u : Numbered) (m : Member) → IsHome (units_of t) (of_member u m) → AreFound (entities (member_locals u.scope m))
