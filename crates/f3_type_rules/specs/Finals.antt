-- Final subroutines: a subroutine of the type's module with one dummy of the type, which is not allocatable, not INTENT(OUT), and a
-- scalar or of assumed shape (ISO/IEC 1539-1:2004, 4.5.5).
use Rattle.std.specs.Prelude.{ℕ, Bool, true, false, not, ◌&&◌, nat_eq, List, [], ◌∷◌, ◌++◌, Option, None, Some, map}
use Rattle.std.specs.Prelude.{if◌then◌else◌}
use Rattle.std.specs.List.{list_any}
use Rattle.std.specs.Map.{lookup}
use Rattle.f3_lookups.specs.declared.lookup.Lookup.{Lookup}
use Rattle.f3_lookups.specs.declared.lookup.Lookup.TheVariants.{One}
use Rattle.f3_rules.specs.declared.rule.Rule.TheVariants.{T4}
use Rattle.f3_rules.specs.declared.breaks.Break.{Break}
use Rattle.f3_tree.specs.declared.expression.Name.{Name}
use Rattle.f3_tree.specs.declared.declaration.Intent.{Intent}
use Rattle.f3_tree.specs.declared.declaration.Intent.TheVariants.{Out}
use Rattle.f3_tree.specs.declared.program.ProcedureKind.{ProcedureKind}
use Rattle.f3_tree.specs.declared.program.ProcedureKind.TheVariants.{Subroutine}
use Rattle.f3_tree.specs.Declarations.{ShapeTree, explicit}
use Rattle.f3_kinds.specs.declared.types.DataType.{DataType}
use Rattle.f3_kinds.specs.declared.types.DataType.TheVariants.{Derived}
use Rattle.f3_kinds.specs.declared.types.Object.{Object}
use Rattle.f3_kinds.specs.Things.{map_or}
use Rattle.f3_kinds.specs.Rows.{at_name, unless}
use Rattle.f3_kinds.specs.Calls.{is_new, added}
use Rattle.f3_type_rules.specs.Names.{Names, Declared, entries, shape_of, intent_of, object_of}
use Rattle.f3_type_rules.specs.Members.{Member}

abbrev pub is_out : Option Intent → Bool
is_out (Some Out) = true
is_out _ = false

abbrev pub is_explicit : Option ShapeTree → Bool
is_explicit (Some (explicit bs)) = true
is_explicit _ = false

abbrev pub is_type : (type : ℕ) → Option DataType → Bool
is_type t (Some (Derived e)) = nat_eq e t
is_type t _ = false

abbrev pub dummy_rank : Names → (type : ℕ) → (scope : ℕ) → Declared → Option ℕ
dummy_rank names t scope x =
    let o : Object = object_of names scope x in
    if is_type t o.data_type && not o.is_allocatable && not (is_out (intent_of x)) && not (is_explicit (shape_of x)) then Some o.rank else None

abbrev pub header_rank : Names → (type : ℕ) → Member → ProcedureKind → (dummies : List Name) → Option ℕ
header_rank names t m Subroutine (d ∷ []) = map_or None (dummy_rank names t m.scope) (lookup (nat_eq d.symbol) (entries ((m.tree).part).specifications))
header_rank names t m _ _ = None

abbrev pub member_at : List Member → Lookup → Option Member
member_at ms (One e) = lookup (nat_eq e) (map (λ (m : Member). (m.entity, m)) ms)
member_at ms _ = None

abbrev pub final_rank : Names → (scope : ℕ) → List Member → (type : ℕ) → Name → Option ℕ
final_rank names scope ms t n =
    map_or None (λ (m : Member). header_rank names t m ((m.tree).header).kind ((m.tree).header).dummies) (member_at ms (names.look scope n.symbol))

-- T4: a name in FINAL that is no such subroutine, stands there twice, or is the second of a rank; the name
abbrev pub final_rows : (Name → Option ℕ) → (names : List ℕ) → (ranks : List ℕ) → List Name → List Break
final_rows rank seen ranks [] = []
final_rows rank seen ranks (n ∷ ns) =
    unless (not (list_any (nat_eq n.symbol) seen) && is_new ranks (rank n)) (at_name 5 T4 n)
    ++ final_rows rank (n.symbol ∷ seen) (added ranks (rank n)) ns
