-- What a procedure could finalize, by its header and what it declares.
use Rattle.std.specs.Prelude.{ℕ, ◌||◌, nat_eq, List, [], ◌∷◌, Option, None, Some, if◌then◌else◌}
use Rattle.std.specs.Map.{lookup}
use Rattle.f3_tree.specs.declared.expression.Name.{Name}
use Rattle.f3_tree.specs.declared.declaration.Intent.{Intent}
use Rattle.f3_tree.specs.declared.program.ProcedureKind.{ProcedureKind}
use Rattle.f3_tree.specs.declared.program.ProcedureKind.TheVariants.{Subroutine}
use Rattle.f3_tree.specs.Declarations.{ShapeTree, EntityTree, DeclarationTree, SpecificationTree, entity_view, declaration_view}
use Rattle.f3_tree.specs.Tree.{ProcedureTree}
use Rattle.f3_kinds.specs.declared.types.DataType.{DataType}
use Rattle.f3_kinds.specs.declared.types.DataType.TheVariants.{Derived}
use Rattle.f3_kinds.specs.declared.types.Object.{Object}
use Rattle.f3_kinds.specs.Things.{map_or}
use Rattle.f3_type_rules.specs.Names.{Names, Declared, entries, shape_of, intent_of, object_of}
use Rattle.f3_type_rules.specs.Finals.{is_out, is_explicit}
use Rattle.f3_natures.specs.Walk.{along}
use Rattle.f3_finals.specs.declared.candidate.Candidate.{Candidate}
use Rattle.f3_finals.specs.declared.candidate.Found.{Found}

-- a declared name by its number
abbrev pub entry_of : DeclarationTree → EntityTree → ℕ × Declared
entry_of d x = ((x.name).symbol, (d, x))

abbrev pub found_view : Found → Declared
found_view f = (declaration_view f.declaration.now, entity_view f.entity.now)

abbrev pub typed_candidate : (rank : ℕ) → Option DataType → Option Candidate
typed_candidate rank (Some (Derived e)) = Some record { data_type = e; rank = rank }
typed_candidate rank _ = None

abbrev pub candidate_by : Object → Option Intent → Option ShapeTree → Option Candidate
candidate_by o i s = if o.is_allocatable || is_out i || is_explicit s then None else typed_candidate o.rank o.data_type

abbrev pub candidate_of : Names → (scope : ℕ) → Declared → Option Candidate
candidate_of names scope x = candidate_by (object_of names scope x) (intent_of x) (shape_of x)

abbrev pub candidate_in : Names → (scope : ℕ) → ProcedureKind → (dummies : List Name) → List SpecificationTree → Option Candidate
candidate_in names scope Subroutine (d ∷ []) ss = map_or None (candidate_of names scope) (lookup (nat_eq d.symbol) (entries ss))
candidate_in names scope _ _ ss = None

abbrev pub candidate_made : Names → (scope : ℕ) → ProcedureTree → List (Option Candidate)
candidate_made names scope p = candidate_in names scope (p.header).kind (p.header).dummies (p.part).specifications ∷ []

-- of procedures one behind the other, of which the first has this scope
abbrev pub candidates_from : Names → (scope : ℕ) → List ProcedureTree → List (Option Candidate)
candidates_from names scope ps = along (candidate_made names) scope ps
