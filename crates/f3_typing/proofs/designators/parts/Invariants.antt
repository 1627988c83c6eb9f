use Rattle.std.proofs.Common.{◌≡◌, ◌++◌, drop, map}
use Rattle.std.specs.List.{flat_map}
use Rattle.f3_typed_parts.specs.Known.{context_of, part_of}
use Rattle.f3_typed_parts.specs.Noted.{noted}
use Rattle.f3_typing.specs.Lists.{said_part, breaks_part}
use Rattle.f3_typing.proofs.designators.parts.Given as goal

abbrev pub invariant-loop-one : goal.invariant-loop-one
invariant-loop-one l = record {
  said : map part_of l.done.items ++ map (said_part (context_of l.known l.at)) (drop l.one-index l.list) ≡ map (said_part (context_of l.known l.at)) l.list;
  noted : noted l.first (flat_map (breaks_part (context_of l.known l.at)) (drop l.one-index l.list)) ≡ noted l.fn.first (flat_map (breaks_part (context_of l.known l.at)) l.list);
}
