-- When a lawful statement is one of a pure procedure.
use Rattle.std.specs.Prelude.{◌≡◌, ℕ, Bool, true, List, slice_get}
use Rattle.f3_program.specs.declared.declarations.Kind.{Kind}
use Rattle.f3_program.specs.declared.statement.Statement.{Statement}
use Rattle.f3_program.specs.declared.program.Program.{Program}
use Rattle.f3_meaning_whole.specs.Act.{type_of}
use Rattle.f3_meaning_whole.specs.Formed.{is_formed}
use Rattle.f3_meaning_whole.specs.Permitted.{Each, Lendable, Scope, MayExec}
use Rattle.f3_pure_laws.specs.Ending.{IsHarmless, AreHarmless}
use Rattle.f3_pure_laws.specs.Pure.{IsPureStatement}
use Rattle.f3_purity_laws.specs.Calls.{CallsPure}
use Rattle.f3_purity_laws.specs.Barring.{barring}
use Rattle.f3_purity_laws.specs.Owning.{may_defines}

abbrev pub EndsWell : (harmless : ℕ → Bool) → Lendable → Type 0
EndsWell harmless l = l.may_define ≡ true → IsHarmless harmless l.of

-- the variables, dummies and associate names that may be defined are of harmless types (rule T12)
pub record AreHarmlessIn (harmless : ℕ → Bool) (scope : Scope) : Type 0 where
  pub variables : (i : ℕ) → IsHarmless harmless (type_of (slice_get scope.variables i))
  pub names : Each (EndsWell harmless) scope.names

-- A lawful statement that makes sense is one of a pure procedure where no variable that lives for the whole run may be defined, the types
-- of what may be are harmless, and it calls pure procedures alone.
abbrev pub LawfulIsPure : Type 0
LawfulIsPure = (p : Program) (pure harmless : ℕ → Bool) → AreHarmless p pure harmless → (scope : Scope) → AreHarmlessIn harmless scope
    → (x : Statement) (names : List Kind) → is_formed p scope.variables x names ≡ true → MayExec (barring scope.unit p) x scope
    → CallsPure pure x → IsPureStatement p pure x (may_defines scope.names)
