use Rattle.std.proofs.Common.{◌≡◌, drop}
use Rattle.f3_type_rules.specs.Statements.{given_at}
use Rattle.f3_acts.proofs.moving.given_at.Given as goal

abbrev pub invariant-loop-position : goal.invariant-loop-position
invariant-loop-position l = given_at l.fn.names l.fn.place l.position (drop l.position l.given) ≡ given_at l.fn.names l.fn.place 0 l.given
