-- What the entities of a program are.
use Rattle.std.specs.Prelude.{ℕ, zero, suc, ◌+◌, Bool, false, ◌||◌, nat_eq, List, [], ◌∷◌, ◌++◌, Option, None, Some, map, length}
use Rattle.std.specs.Prelude.{slice_get}
use Rattle.std.specs.List.{flat_map, list_any}
use Rattle.std.specs.Map.{lookup}
use Rattle.f3_scopes.specs.declared.outline.EntityKind.{EntityKind}
use Rattle.f3_scopes.specs.declared.outline.EntityKind.TheVariants as entity
use Rattle.f3_scopes.specs.Scopes.{declared_in, result_of, kind_of}
use Rattle.f3_tree.specs.declared.expression.Name.{Name}
use Rattle.f3_tree.specs.declared.declaration.TypeSpecifier.{TypeSpecifier}
use Rattle.f3_tree.specs.declared.program.ProcedureKind.{ProcedureKind}
use Rattle.f3_tree.specs.declared.program.ProcedureKind.TheVariants.{Subroutine, Function}
use Rattle.f3_tree.specs.Declarations.{EntityTree, DeclarationTree}
use Rattle.f3_tree.specs.Declarations.{SpecificationTree, declares, defines}
use Rattle.f3_tree.specs.Statements.{AssociationTree, Block}
use Rattle.f3_tree.specs.Tree.{ProcedureTree}
use Rattle.f3_kinds.specs.declared.types.DataType.{DataType}
use Rattle.f3_kinds.specs.declared.types.DataType.TheVariants.{Derived}
use Rattle.f3_kinds.specs.declared.types.Object.{Object}
use Rattle.f3_kinds.specs.declared.things.Component.{Component}
use Rattle.f3_kinds.specs.declared.things.Dummy.{Dummy}
use Rattle.f3_kinds.specs.Things.{map_or, Nature, constant, variable, derived, subroutine, function}
use Rattle.f3_type_rules.specs.Associates.{constructs_of_block}
use Rattle.f3_type_rules.specs.Names.{Names, is_given, Declared, entries, intent_of, type_of, object_of, undeclared, components}
use Rattle.f3_type_rules.specs.Members.{Member, Numbered}
use Rattle.f3_type_rules.specs.Finals.{final_rank}

-- ---- what the entities of a scope are, in order

abbrev pub object_nature : EntityKind → Object → Nature
object_nature entity.Constant o = constant o
object_nature _ o = variable o

abbrev pub declared_nature : Names → (scope : ℕ) → DeclarationTree → EntityTree → Nature
declared_nature names scope d x = object_nature (kind_of d.attributes) (object_of names scope (d, x))

-- of a type whether it has a final subroutine of its own
abbrev pub natures_in : Names → (scope : ℕ) → List Member → (entity : ℕ) → SpecificationTree → List Nature
natures_in names scope ms e (declares d) = map (declared_nature names scope d) d.entities
natures_in names scope ms e (defines t) =
    derived scope (components names scope t) (list_any (λ (n : Name). is_given (final_rank names scope ms e n)) t.finals) ∷ []
natures_in names scope ms e _ = []

abbrev pub natures_from : Names → (scope : ℕ) → List Member → (entity : ℕ) → List SpecificationTree → List Nature
natures_from names scope ms e [] = []
natures_from names scope ms e (s ∷ ss) = natures_in names scope ms e s ++ natures_from names scope ms (e + length (declared_in s)) ss

-- a dummy by its declaration
abbrev pub dummy : Names → (scope : ℕ) → List (ℕ × Declared) → Name → ℕ × Dummy
dummy names scope xs n = (
  n.symbol,
  record {
    object = map_or undeclared (object_of names scope) (lookup (nat_eq n.symbol) xs);
    intent = map_or None intent_of (lookup (nat_eq n.symbol) xs);
  },
)

-- a function's result, of the type before it or by its declaration
abbrev pub typed_object : Names → (scope : ℕ) → TypeSpecifier → Object
typed_object names scope s = record { data_type = type_of names scope s; rank = 0; is_allocatable = false }

abbrev pub result_object : Names → (scope : ℕ) → List (ℕ × Declared) → Option TypeSpecifier → (result : Option Name) → Object
result_object names scope xs (Some s) n = typed_object names scope s
result_object names scope xs None n = map_or undeclared (λ (n : Name). map_or undeclared (object_of names scope) (lookup (nat_eq n.symbol) xs)) n

abbrev pub kind_nature : (is_pure : Bool) → List (ℕ × Dummy) → (result : Object) → ProcedureKind → Nature
kind_nature pure ds o Subroutine = subroutine pure ds
kind_nature pure ds o (Function s outcome) = function pure ds o

abbrev pub specifier_of : ProcedureKind → Option TypeSpecifier
specifier_of Subroutine = None
specifier_of (Function s outcome) = s

abbrev pub procedure_nature : Names → Member → Nature
procedure_nature names m =
    let p : ProcedureTree = m.tree in
    let xs : List (ℕ × Declared) = entries (p.part).specifications in
    let o : Object = result_object names m.scope xs (specifier_of (p.header).kind) (result_of (p.header).kind (p.header).name) in
    kind_nature (p.header).pure (map (dummy names m.scope xs) (p.header).dummies) o (p.header).kind

-- of a function with a type before it the result is declared there
abbrev pub typed_natures : Names → (scope : ℕ) → ProcedureKind → List Nature
typed_natures names scope k = map_or [] (λ (s : TypeSpecifier). variable (typed_object names scope s) ∷ []) (specifier_of k)

-- an associate name is a variable; what it is besides is known inside its construct alone
abbrev pub associate_natures : Block → List Nature
associate_natures b = flat_map (map (λ (x : AssociationTree). variable undeclared)) (constructs_of_block b)

abbrev pub member_natures : Names → Member → List Nature
member_natures names m =
    typed_natures names m.scope (((m.tree).header).kind)
    ++ (natures_from names m.scope [] m.first ((m.tree).part).specifications ++ associate_natures (m.tree).body)

abbrev pub unit_natures : Names → Numbered → List Nature
unit_natures names u =
    natures_from names u.scope u.members u.first ((u.tree).part).specifications
    ++ (map (procedure_nature names) u.members ++ (associate_natures (u.tree).body ++ flat_map (member_natures names) u.members))

-- ---- finalizable types, the least set: those with a final subroutine, and those with a component of one (own rule)

abbrev pub flag_of : List Bool → Option DataType → Bool
flag_of flags (Some (Derived e)) = map_or false (λ f. f) (slice_get flags e)
flag_of flags _ = false

abbrev pub is_finalized : List Bool → Nature → Bool
is_finalized flags (derived home ks f) = f || list_any (λ (k : ℕ × Component). flag_of flags ((k.1).object).data_type) ks
is_finalized flags _ = false

-- which are known to be finalizable after so many rounds
abbrev pub rounds : List Nature → ℕ → List Bool → List Bool
rounds natures zero flags = flags
rounds natures (suc n) flags = rounds natures n (map (is_finalized flags) natures)

abbrev pub marked : List Bool → List Nature → List Nature
marked (f ∷ fs) (derived home ks own ∷ ns) = derived home ks f ∷ marked fs ns
marked (f ∷ fs) (n ∷ ns) = n ∷ marked fs ns
marked flags [] = []
marked [] ns = ns

abbrev pub settled : List Nature → List Nature
settled natures = marked (rounds natures (length natures) []) natures
