use Rattle.std.proofs.Common.{rules}
use Rattle.f3_declarations.proofs.Turns.{in_out}
use Rattle.f3_declarations.proofs.attributes.intent.Goals as goal

pub returns-in-Name-Out-word-clause-read : goal.returns-in-Name-Out-word-clause-read
returns-in-Name-Out-word-clause-read c =
    in_out c.args.items.now c.in-Some.tail.now c.in-Some-front.rest.now c.in-Some.first c.in-Some-front.second c.in-Some.ensures (search rules) c.in-Some-front.ensures (search rules)
