-- What breaks no rule is pure.
use Rattle.std.specs.Prelude.{ℕ, Bool, false, ◌||◌, List, slice_get}
use Rattle.std.specs.List.{flat_map}
use Rattle.f3_lookups.specs.declared.lookup.Lookup.{Lookup}
use Rattle.f3_tree.specs.Tree.{ProcedureTree, UnitTree, Tree}
use Rattle.f3_program.specs.declared.program.Program.{Program}
use Rattle.f3_kinds.specs.Things.{map_or}
use Rattle.f3_meaning_whole.specs.Formed.{IsWellFormed}
use Rattle.f3_type_rules.specs.Declarations.{is_function}
use Rattle.f3_lawful_laws.specs.Blocks.{AreBodiesSpelled}
use Rattle.f3_lawful_laws.specs.Entities.{EntitiesAgree}
use Rattle.f3_agreement_laws.specs.Unbroken.{IsUnbroken}
use Rattle.f3_variable_laws.specs.Laws.{IsElaborated}
use Rattle.f3_pure_laws.specs.Pure.{IsPure}

-- the procedures of a program, in order of place
abbrev pub procedures_of : Tree → List ProcedureTree
procedures_of t = flat_map (λ (u : UnitTree). u.procedures) t.units

-- a function, or a procedure with the prefix PURE (ISO/IEC 1539-1:2004, 12.6)
abbrev pub is_pure : ProcedureTree → Bool
is_pure q = (q.header).pure || is_function (q.header).kind

-- so of the procedure of a number
abbrev pub pure_in : Tree → (number : ℕ) → Bool
pure_in t f = map_or false is_pure (slice_get (procedures_of t) f)

-- A program that breaks no rule is pure, where the rules and the elaborated program speak of the same entities and that makes sense.
abbrev pub UnbrokenIsPure : Type 0
UnbrokenIsPure = (t : Tree) (look : ℕ → ℕ → Lookup) (order : List ℕ) (p : Program) → IsUnbroken t look order → IsElaborated p t look order
    → AreBodiesSpelled t → EntitiesAgree p t look order → IsWellFormed p → IsPure p (pure_in t)
