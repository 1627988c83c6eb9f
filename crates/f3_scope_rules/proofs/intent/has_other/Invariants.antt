use Rattle.std.proofs.Common.{◌≡◌, drop}
use Rattle.std.specs.List.{list_any}
use Rattle.f3_scope_rules.specs.Inner.Rows.{is_other}
use Rattle.f3_scope_rules.proofs.intent.has_other.Given as goal

abbrev pub invariant-loop-intent : goal.invariant-loop-intent
invariant-loop-intent l = list_any is_other (drop l.intent-index l.intents) ≡ list_any is_other l.intents
