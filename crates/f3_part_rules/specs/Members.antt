-- Procedures by their numbers.
use Rattle.std.specs.Prelude.{◌≡◌, ℕ, ◌+◌, ◌≤◌, List, [], ◌∷◌, Some, length, slice_get}
use Rattle.std.specs.List.{flat_map}
use Rattle.f3_access.specs.Access.{first_entity}
use Rattle.f3_scopes.specs.Outlines.{Scope}
use Rattle.f3_scopes.specs.Scopes.{declared_in}
use Rattle.f3_tree.specs.declared.declaration.TypeSpecifier.{TypeSpecifier}
use Rattle.f3_tree.specs.declared.program.ProcedureKind.{ProcedureKind}
use Rattle.f3_tree.specs.Tree.{ProcedureTree}
use Rattle.f3_kinds.specs.Things.{map_or}
use Rattle.f3_type_rules.specs.Associates.{constructs_of_block}
use Rattle.f3_type_rules.specs.Members.{Member}
use Rattle.f3_type_rules.specs.Natures.{specifier_of}

abbrev pub member_of : (entity scope first : ℕ) → ProcedureTree → Member
member_of e scope first p = record { entity = e; scope = scope; first = first; tree = p }

-- how many entities its header declares: the result, where it has a type there
abbrev pub typed_count : ProcedureKind → ℕ
typed_count kind = map_or 0 (λ (t : TypeSpecifier). 1) (specifier_of kind)

-- the entities that these scopes declare first
abbrev pub AreFirsts : List Scope → (firsts : List ℕ) → Type 0
AreFirsts scopes firsts = (n e : ℕ) → slice_get firsts n ≡ Some e → e ≡ first_entity scopes n

-- These have the first entity of each procedure, of which the first has this scope, and there is room for all that they declare.
abbrev pub Fit : (firsts : List ℕ) → (room : ℕ) → (scope : ℕ) → List ProcedureTree → Type 0
Fit firsts room scope [] = scope ≤ length firsts
Fit firsts room scope (p ∷ ps) =
    ((e : ℕ) × (slice_get firsts scope ≡ Some e) × (e + typed_count (p.header).kind + length (flat_map declared_in (p.part).specifications) ≤ room))
    × Fit firsts room (scope + 1 + length (constructs_of_block p.body)) ps
