use Rattle.std.proofs.Common.{◌≡◌, ◌++◌, map, drop}
use Rattle.f3_typed_parts.specs.Known.{context_of, part_of}
use Rattle.f3_typing.specs.Lists.{said_part}
use Rattle.f3_action_nodes.proofs.requests.said_parts.Given as goal

abbrev pub invariant-loop-one : goal.invariant-loop-one
invariant-loop-one l =
    map part_of l.done.items ++ map (said_part (context_of l.known l.at)) (drop l.one-index l.list) ≡ map (said_part (context_of l.known l.at)) l.list
