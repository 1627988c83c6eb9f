-- What a cut shows.
use Rattle.std.specs.Prelude.{◌≡◌, List, map, Option, None, Some, Result, Ok, Err}
use Rattle.std.specs.declared.alloc.AllocError.{AllocError}
use Rattle.f3_rules.specs.declared.breaks.Break.{Break}
use Rattle.f3_rules.specs.declared.refusal.Refusal.{Refusal}
use Rattle.f3_text.specs.declared.statement.Cut.{Cut}
use Rattle.f3_text.specs.declared.statement.RawStatement.{RawStatement}
use Rattle.f3_text.specs.declared.statement.TextFault.{TextFault}
use Rattle.f3_text.specs.declared.statement.TextFault.TheVariants.{Refused, Memory}
use Rattle.f3_text.specs.Statements.{Parts}
use Rattle.f3_text.specs.Reader.{Tells, spelled_of}

abbrev pub IsFault : Option Refusal → Option Break → Type 0
IsFault None None = Unit {0}
IsFault None (Some b) = ⊥
IsFault (Some r) None = ⊥
IsFault (Some r) (Some b) = Tells r b

-- a cut shows these parts
pub record Shows (c : Cut) (p : Parts) : Type 0 where
  pub statements : map spelled_of c.statements.items ≡ p.statements
  pub fault : IsFault c.fault p.fault

abbrev pub CutsTo : Result Cut AllocError → Parts → Type 0
CutsTo (Ok c) p = Shows c p
CutsTo (Err e) p = Unit {0}

-- these statements, and this fault
abbrev pub IsCutShort : Result Cut AllocError → List RawStatement → TextFault → Type 0
IsCutShort (Ok c) ss (Refused r) = (c.statements.items ≡ ss) × (c.fault ≡ Some r)
IsCutShort (Ok c) ss Memory = ⊥
IsCutShort (Err e) ss f = Unit {0}
