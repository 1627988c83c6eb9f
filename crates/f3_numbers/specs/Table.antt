-- What a table of numbers says of an entity.
use Rattle.std.specs.Prelude.{ℕ, nat_eq, Option, None, Some, if◌then◌else◌}
use Rattle.std.specs.Map.{lookup}
use Rattle.std.specs.Option.{option_or}
use Rattle.f3_program.specs.declared.declarations.Base.{Base}
use Rattle.f3_program.specs.declared.declarations.Kind.{Kind}
use Rattle.f3_program.specs.declared.expression.Name.{Name}
use Rattle.f3_program.specs.declared.expression.Name.TheVariants.{Lent}
use Rattle.f3_kinds.specs.declared.types.DataType.{DataType}
use Rattle.f3_kinds.specs.declared.types.Object.{Object}
use Rattle.f3_kinds.specs.Things.{map_or}
use Rattle.f3_elaboration.specs.Numbers.{base_by}
use Rattle.f3_numbers.specs.declared.numbers.Numbers.{Numbers}

-- the object, the procedure and the type that an entity is, where it is there
abbrev pub object_in : Numbers → (entity : ℕ) → Option Name
object_in t e = lookup (nat_eq e) t.objects.entries

abbrev pub procedure_in : Numbers → (entity : ℕ) → Option ℕ
procedure_in t e = lookup (nat_eq e) t.procedures.entries

abbrev pub type_in : Numbers → (entity : ℕ) → Option ℕ
type_in t e = lookup (nat_eq e) t.types.entries

-- or else the first
abbrev pub object_at : Numbers → (entity : ℕ) → Name
object_at t e = map_or (Lent 0) (λ (x : Name). x) (object_in t e)

abbrev pub procedure_at : Numbers → (entity : ℕ) → ℕ
procedure_at t e = map_or 0 (λ (n : ℕ). n) (procedure_in t e)

abbrev pub type_at : Numbers → (entity : ℕ) → ℕ
type_at t e = map_or 0 (λ (n : ℕ). n) (type_in t e)

abbrev pub base_at : Numbers → Option DataType → Base
base_at t of = base_by (type_at t) of

abbrev pub kind_at : Numbers → Object → Kind
kind_at t o = record { of = base_at t o.data_type; rank = o.rank; is_allocatable = o.is_allocatable }

-- what is added where nothing was
abbrev pub with_one : {X : Type 0} → (ℕ → Option X) → (entity : ℕ) → X → ℕ → Option X
with_one before entity x e = option_or (before e) (if nat_eq entity e then Some x else None)
