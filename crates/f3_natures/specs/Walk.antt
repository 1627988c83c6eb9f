-- What the entities of a program are, by the numbers of scopes and entities alone.
use Rattle.std.specs.Prelude.{ℕ, ◌+◌, ◌-◌, Bool, false, nat_eq, nat_lt, List, [], ◌∷◌, ◌++◌, Option, map, length, if◌then◌else◌, slice_get}
use Rattle.std.specs.List.{flat_map, list_any}
use Rattle.std.specs.Map.{lookup}
use Rattle.f3_lookups.specs.declared.lookup.Lookup.{Lookup}
use Rattle.f3_lookups.specs.declared.lookup.Lookup.TheVariants.{One}
use Rattle.f3_scopes.specs.Scopes.{declared_in}
use Rattle.f3_tree.specs.declared.expression.Name.{Name}
use Rattle.f3_tree.specs.Declarations.{SpecificationTree, declares, defines}
use Rattle.f3_tree.specs.Statements.{Block}
use Rattle.f3_tree.specs.Tree.{ProcedureTree, UnitTree}
use Rattle.f3_kinds.specs.Things.{map_or, Nature, derived}
use Rattle.f3_type_rules.specs.Associates.{constructs_of_block}
use Rattle.f3_type_rules.specs.Names.{Names, components}
use Rattle.f3_type_rules.specs.Natures.{declared_nature, typed_natures, associate_natures}
use Rattle.f3_natures.specs.declared.objects.Described.{Described}
use Rattle.f3_natures.specs.Entries.{firsts}
use Rattle.f3_natures.specs.Procedures.{described_all, procedure_by, final_type, is_for}

-- the entity is a procedure of the module that may be final for the type; `first` is the entity of the first procedure
abbrev pub final_at : (first : ℕ) → (finals : List (Option ℕ)) → (type : ℕ) → (found : ℕ) → Bool
final_at first finals t found = if nat_lt found first then false else map_or false (is_for t) (slice_get finals (found - first))

abbrev pub is_final_in : (first : ℕ) → List (Option ℕ) → (type : ℕ) → Lookup → Bool
is_final_in first finals t (One e) = final_at first finals t e
is_final_in first finals t _ = false

abbrev pub is_final : Names → (scope : ℕ) → (first : ℕ) → List (Option ℕ) → (type : ℕ) → Name → Bool
is_final names scope first finals t n = is_final_in first finals t (names.look scope n.symbol)

abbrev pub made_one : Names → (scope : ℕ) → (ℕ → Name → Bool) → (entity : ℕ) → SpecificationTree → List Nature
made_one names scope has e (declares d) = map (declared_nature names scope d) d.entities
made_one names scope has e (defines t) = derived scope (firsts (components names scope t)) (list_any (has e) t.finals) ∷ []
made_one names scope has e _ = []

abbrev pub made_all : Names → (scope : ℕ) → (ℕ → Name → Bool) → (entity : ℕ) → List SpecificationTree → List Nature
made_all names scope has e [] = []
made_all names scope has e (s ∷ ss) = made_one names scope has e s ++ made_all names scope has (e + length (made_one names scope has e s)) ss

-- ---- procedures, by the scope of the first

abbrev pub count_of : Block → ℕ
count_of b = length (constructs_of_block b)

abbrev pub end_of : (scope : ℕ) → List ProcedureTree → ℕ
end_of scope [] = scope
end_of scope (p ∷ ps) = end_of (scope + 1 + count_of p.body) ps

abbrev pub along : {X : Type 0} → (ℕ → ProcedureTree → List X) → (scope : ℕ) → List ProcedureTree → List X
along f scope [] = []
along f scope (p ∷ ps) = f scope p ++ along f (scope + 1 + count_of p.body) ps

abbrev pub declared_at : Names → (scope : ℕ) → ProcedureTree → ℕ → Option Described
declared_at names scope p symbol = lookup (nat_eq symbol) (firsts (described_all names scope (p.part).specifications))

abbrev pub final_made : Names → (scope : ℕ) → ProcedureTree → List (Option ℕ)
final_made names scope p = final_type (declared_at names scope p) (p.header).kind (p.header).dummies ∷ []

abbrev pub procedure_made : Names → (scope : ℕ) → ProcedureTree → List Nature
procedure_made names scope p = procedure_by names scope (declared_at names scope p) p.header ∷ []

abbrev pub no_final : (type : ℕ) → Name → Bool
no_final t n = false

abbrev pub inner_made : Names → (scope : ℕ) → ProcedureTree → List Nature
inner_made names scope p =
    typed_natures names scope (p.header).kind ++ (made_all names scope no_final 0 (p.part).specifications ++ associate_natures p.body)

abbrev pub all_finals : Names → (scope : ℕ) → List ProcedureTree → List (Option ℕ)
all_finals names scope ps = along (final_made names) scope ps

abbrev pub all_made : Names → (scope : ℕ) → List ProcedureTree → List Nature
all_made names scope ps = along (procedure_made names) scope ps

abbrev pub all_inner : Names → (scope : ℕ) → List ProcedureTree → List Nature
all_inner names scope ps = along (inner_made names) scope ps

-- ---- units

abbrev pub unit_start : (scope : ℕ) → UnitTree → ℕ
unit_start scope u = scope + 1 + count_of u.body

abbrev pub unit_end : (scope : ℕ) → UnitTree → ℕ
unit_end scope u = end_of (unit_start scope u) u.procedures

abbrev pub own_count : UnitTree → ℕ
own_count u = length (flat_map declared_in (u.part).specifications)

abbrev pub own_made : Names → (entity : ℕ) → (scope : ℕ) → UnitTree → List Nature
own_made names e scope u =
    made_all names scope (is_final names scope (e + own_count u) (all_finals names (unit_start scope u) u.procedures)) e (u.part).specifications

abbrev pub unit_made : Names → (entity : ℕ) → (scope : ℕ) → UnitTree → List Nature
unit_made names e scope u =
    own_made names e scope u
    ++ (all_made names (unit_start scope u) u.procedures ++ (associate_natures u.body ++ all_inner names (unit_start scope u) u.procedures))

abbrev pub units_end : (scope : ℕ) → List UnitTree → ℕ
units_end scope [] = scope
units_end scope (u ∷ us) = units_end (unit_end scope u) us

abbrev pub units_made : Names → (entity : ℕ) → (scope : ℕ) → List UnitTree → List Nature
units_made names e scope [] = []
units_made names e scope (u ∷ us) = unit_made names e scope u ++ units_made names (e + length (unit_made names e scope u)) (unit_end scope u) us
