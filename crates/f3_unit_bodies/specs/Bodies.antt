-- The breaks of bodies, by the numbers of scopes alone.
use Rattle.std.specs.Prelude.{ℕ, ◌+◌, ◌||◌, Bool, false, List, [], ◌∷◌, ◌++◌, length}
use Rattle.f3_rules.specs.declared.breaks.Break.{Break}
use Rattle.f3_tree.specs.Statements.{Block}
use Rattle.f3_tree.specs.Tree.{ProcedureTree, UnitTree}
use Rattle.f3_type_rules.specs.Associates.{constructs_of_block}
use Rattle.f3_type_rules.specs.Bodies.{block_breaks}
use Rattle.f3_type_rules.specs.Declarations.{is_function}
use Rattle.f3_type_rules.specs.Definitions.{Site}

-- the same at the beginning of a body
abbrev pub placed : (unit : ℕ) → (scope : ℕ) → (is_pure : Bool) → Site → Site
placed unit scope pure s = record s { context = record (s.context) { unit = unit; scope = scope; phase = 6 }; body = scope; is_pure = pure }

-- the same wherever it stands
abbrev pub anywhere : Site → Site
anywhere s = placed 0 0 false s

abbrev pub count_of : Block → ℕ
count_of b = length (constructs_of_block b)

abbrev pub body_rows : Site → (unit : ℕ) → (scope : ℕ) → (is_pure : Bool) → Block → List Break
body_rows s unit scope pure b = block_breaks (placed unit scope pure s) (scope + 1) b

abbrev pub is_pure_in : ProcedureTree → Bool
is_pure_in p = (p.header).pure || is_function (p.header).kind

-- how many scopes a body makes with its constructs, and a unit with its procedures
abbrev pub width : Block → ℕ
width b = count_of b + 1

abbrev pub widths : List ProcedureTree → ℕ
widths [] = 0
widths (p ∷ ps) = width p.body + widths ps

abbrev pub unit_width : UnitTree → ℕ
unit_width u = width u.body + widths u.procedures

abbrev pub unit_widths : List UnitTree → ℕ
unit_widths [] = 0
unit_widths (u ∷ us) = unit_width u + unit_widths us

abbrev pub procedure_rows : Site → (unit : ℕ) → (scope : ℕ) → List ProcedureTree → List Break
procedure_rows s unit scope [] = []
procedure_rows s unit scope (p ∷ ps) = body_rows s unit scope (is_pure_in p) p.body ++ procedure_rows s unit (scope + width p.body) ps

abbrev pub unit_rows : Site → (scope : ℕ) → UnitTree → List Break
unit_rows s scope u = body_rows s scope scope false u.body ++ procedure_rows s scope (scope + width u.body) u.procedures

abbrev pub units_rows : Site → (scope : ℕ) → List UnitTree → List Break
units_rows s scope [] = []
units_rows s scope (u ∷ us) = unit_rows s scope u ++ units_rows s (scope + unit_width u) us
