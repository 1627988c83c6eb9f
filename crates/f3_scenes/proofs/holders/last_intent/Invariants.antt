use Rattle.std.proofs.Common.{◌≡◌, drop, None}
use Rattle.f3_type_rules.specs.Names.{last_of}
use Rattle.f3_scenes.proofs.holders.last_intent.Given as goal

abbrev pub invariant-loop-intent : goal.invariant-loop-intent
invariant-loop-intent l = last_of l.last (drop l.intent-index l.list) ≡ last_of None l.list
