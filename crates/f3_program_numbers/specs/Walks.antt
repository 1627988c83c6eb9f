-- The entities of units and procedures that have numbers.
use Rattle.std.specs.Prelude.{ℕ, ◌+◌, Bool, true, false, List, [], ◌∷◌, ◌++◌, slice_get, length}
use Rattle.std.specs.List.{flat_map}
use Rattle.f3_access.specs.Access.{first_entity}
use Rattle.f3_scopes.specs.Outlines.{Scope}
use Rattle.f3_scopes.specs.Scopes.{declared_in}
use Rattle.f3_tree.specs.declared.program.UnitKind.{UnitKind}
use Rattle.f3_tree.specs.declared.program.UnitKind.TheVariants as unit
use Rattle.f3_tree.specs.Tree.{ProcedureTree}
use Rattle.f3_kinds.specs.Things.{map_or}
use Rattle.f3_type_rules.specs.Associates.{constructs_of_block}
use Rattle.f3_type_rules.specs.Members.{Member, Numbered}
use Rattle.f3_unit_rules.specs.Members.{typed_count}
use Rattle.f3_program_numbers.specs.Chosen.{Choice, taken_along, defined_along}

-- modules keep variables that are not saved too
abbrev pub keeps_all : UnitKind → Bool
keeps_all unit.Module = true
keeps_all unit.Program = false

abbrev pub kept_by : UnitKind → Choice
kept_by kind = record { saved = true; unsaved = keeps_all kind; header = [] }

abbrev pub saved_alone : Choice
saved_alone = record { saved = true; unsaved = false; header = [] }

-- of a procedure whose scope declares this entity first
abbrev pub taken_by : Choice → (first : ℕ) → ProcedureTree → List ℕ
taken_by w e p = taken_along w (e + typed_count (p.header).kind) (p.part).specifications

abbrev pub member_taken : Choice → Member → List ℕ
member_taken w m = taken_by w m.first m.tree

-- along procedures, of which the first has this scope
abbrev pub members_by : Choice → List Scope → (scope : ℕ) → List ProcedureTree → List ℕ
members_by w scopes scope [] = []
members_by w scopes scope (p ∷ ps) =
    taken_by w (first_entity scopes scope) p ++ members_by w scopes (scope + 1 + length (constructs_of_block p.body)) ps

abbrev pub statics_by : Numbered → List ℕ
statics_by u = taken_along (kept_by (u.tree).kind) u.first ((u.tree).part).specifications ++ flat_map (member_taken saved_alone) u.members

abbrev pub counted : (entity : ℕ) → List ProcedureTree → List ℕ
counted e [] = []
counted e (p ∷ ps) = e ∷ counted (e + 1) ps

abbrev pub procedures_by : Numbered → List ℕ
procedures_by u = counted (u.first + length (flat_map declared_in ((u.tree).part).specifications)) (u.tree).procedures

abbrev pub types_by : Numbered → List ℕ
types_by u = defined_along u.first ((u.tree).part).specifications

-- those of the unit of this number, where there is one
abbrev pub at_unit : (Numbered → List ℕ) → List Numbered → (number : ℕ) → List ℕ
at_unit f units i = map_or [] f (slice_get units i)
