-- What a procedure is, by what it declares.
use Rattle.std.specs.Prelude.{ℕ, Bool, false, ◌||◌, nat_eq, List, [], ◌∷◌, Option, None, Some, map, if◌then◌else◌}
use Rattle.std.specs.List.{flat_map}
use Rattle.f3_tree.specs.declared.expression.Name.{Name}
use Rattle.f3_tree.specs.declared.program.ProcedureKind.{ProcedureKind}
use Rattle.f3_tree.specs.declared.program.ProcedureKind.TheVariants.{Subroutine, Function}
use Rattle.f3_tree.specs.Declarations.{EntityTree, DeclarationTree, SpecificationTree, declares}
use Rattle.f3_tree.specs.Tree.{HeaderTree}
use Rattle.f3_kinds.specs.declared.types.DataType.{DataType}
use Rattle.f3_kinds.specs.declared.types.DataType.TheVariants.{Derived}
use Rattle.f3_kinds.specs.declared.types.Object.{Object}
use Rattle.f3_kinds.specs.declared.things.Dummy.{Dummy}
use Rattle.f3_kinds.specs.Things.{map_or, Nature}
use Rattle.f3_type_rules.specs.Names.{Names, undeclared}
use Rattle.f3_type_rules.specs.Finals.{is_out}
use Rattle.f3_type_rules.specs.Natures.{typed_object, kind_nature}
use Rattle.f3_natures.specs.declared.objects.Described.{Described}
use Rattle.f3_natures.specs.Entries.{firsts}
use Rattle.f3_natures.specs.Objects.{described_of}

abbrev pub described_entry : Names → (scope : ℕ) → DeclarationTree → EntityTree → ℕ × Described
described_entry names scope d x = ((x.name).symbol, described_of names scope (d, x))

abbrev pub described_in : Names → (scope : ℕ) → SpecificationTree → List (ℕ × Described)
described_in names scope (declares d) = map (described_entry names scope d) d.entities
described_in names scope _ = []

abbrev pub described_all : Names → (scope : ℕ) → List SpecificationTree → List (ℕ × Described)
described_all names scope ss = flat_map (described_in names scope) ss

abbrev pub dummy_by : Option Described → Dummy
dummy_by None = record { object = undeclared; intent = None }
dummy_by (Some d) = record { object = d.object; intent = d.intent }

abbrev pub dummy_entry : (ℕ → Option Described) → Name → ℕ × Dummy
dummy_entry declared n = (n.symbol, dummy_by (declared n.symbol))

abbrev pub object_by : Option Described → Object
object_by None = undeclared
object_by (Some d) = d.object

abbrev pub result_by : Names → (scope : ℕ) → (ℕ → Option Described) → ProcedureKind → Name → Object
result_by names scope declared Subroutine n = undeclared
result_by names scope declared (Function (Some s) outcome) n = typed_object names scope s
result_by names scope declared (Function None (Some outcome)) n = object_by (declared outcome.symbol)
result_by names scope declared (Function None None) n = object_by (declared n.symbol)

abbrev pub procedure_by : Names → (scope : ℕ) → (ℕ → Option Described) → HeaderTree → Nature
procedure_by names scope declared h =
    kind_nature h.pure (firsts (map (dummy_entry declared) h.dummies)) (result_by names scope declared h.kind h.name) h.kind

abbrev pub derived_type : Option DataType → Option ℕ
derived_type (Some (Derived e)) = Some e
derived_type _ = None

-- the type that a subroutine with this dummy alone may be final for
abbrev pub final_for : Described → Option ℕ
final_for d = if (d.object).is_allocatable || is_out d.intent || d.is_explicit then None else derived_type (d.object).data_type

abbrev pub final_type : (ℕ → Option Described) → ProcedureKind → List Name → Option ℕ
final_type declared Subroutine (n ∷ []) = map_or None final_for (declared n.symbol)
final_type declared _ _ = None

abbrev pub is_for : (type : ℕ) → Option ℕ → Bool
is_for t None = false
is_for t (Some e) = nat_eq e t
