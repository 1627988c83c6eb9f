use Rattle.std.proofs.Common.{◌≡◌, false, drop}
use Rattle.f3_typed_parts.specs.Noted.{noted}
use Rattle.f3_cases.proofs.Statements.{defaults_from}
use Rattle.f3_cases.proofs.select.all_defaults.Given as goal

abbrev pub invariant-loop-case : goal.invariant-loop-case
invariant-loop-case l = noted l.first (defaults_from l.seen (drop l.case-index l.cases)) ≡ noted l.fn.first (defaults_from false l.cases)
