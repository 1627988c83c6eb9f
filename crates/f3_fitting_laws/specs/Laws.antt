-- What breaks no rule has in the elaborated program what code of known kinds asks beside IsWellFormed: as f3_cell_kinds' Sense says it.
use Rattle.std.specs.Prelude.{◌≡◌, true, []}
use Rattle.f3_tree.specs.Expressions as e
use Rattle.f3_program.specs.declared.expression.Expression.{Expression}
use Rattle.f3_program.specs.declared.program.Program.{Program}
use Rattle.f3_kinds.specs.Typing.{breaks}
use Rattle.f3_cell_kinds.specs.Types.{Scope}
use Rattle.f3_cell_kinds.specs.Sense.{value_fits}
use Rattle.f3_elaboration.specs.Context.{Surroundings}
use Rattle.f3_elaboration.specs.Expressions.{expression}
use Rattle.f3_elaboration.specs.Views.{expression_view}
use Rattle.f3_lawful_laws.specs.Written.{IsWritten}
use Rattle.f3_formed_laws.specs.Agreement.{AgreesInKinds}
use Rattle.f3_formed_laws.specs.Levels.{IsLevelled}
use Rattle.f3_fitting_laws.specs.Bounded.{HasWords, IsBounded}

-- so an expression that breaks no rule of phase 6
abbrev pub ExpressionsFit : Type 0
ExpressionsFit = (p : Program) (c : Scope) (s : Surroundings) → AgreesInKinds p c.variables c.names s → HasWords s.context
    → (e : e.Tree) → IsWritten e → IsLevelled e → IsBounded e → breaks s.context e ≡ [] → (x : Expression) → expression_view x ≡ expression s e
    → value_fits p c x ≡ true
