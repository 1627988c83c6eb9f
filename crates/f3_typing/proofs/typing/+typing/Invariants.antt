use Rattle.std.proofs.Common.{◌≡◌, ◌++◌, drop, map}
use Rattle.std.specs.List.{flat_map}
use Rattle.f3_typed_parts.specs.Known.{context_of, part_of}
use Rattle.f3_typing.specs.Lists.{said_item, breaks_item, said_operand, breaks_operand, said_given, breaks_given, said_part, breaks_part}
use Rattle.f3_typed_parts.specs.Noted.{noted}
use Rattle.f3_typing.proofs.typing.+typing.Given as goal

abbrev pub invariant-all-loop-e : goal.invariant-all-loop-e
invariant-all-loop-e l = record {
  said : l.saids.items ++ map (said_item (context_of l.known l.at)) (drop l.e-index l.items) ≡ map (said_item (context_of l.known l.at)) l.items;
  noted : noted l.first (flat_map (breaks_item (context_of l.known l.at)) (drop l.e-index l.items)) ≡ noted l.fn.first (flat_map (breaks_item (context_of l.known l.at)) l.items);
}

abbrev pub invariant-arguments-loop-one : goal.invariant-arguments-loop-one
invariant-arguments-loop-one l = record {
  said : l.given.items ++ map (said_given (context_of l.known l.at)) (drop l.one-index l.list) ≡ map (said_given (context_of l.known l.at)) l.list;
  noted : noted l.first (flat_map (breaks_given (context_of l.known l.at)) (drop l.one-index l.list)) ≡ noted l.fn.first (flat_map (breaks_given (context_of l.known l.at)) l.list);
}

abbrev pub invariant-parts-loop-part : goal.invariant-parts-loop-part
invariant-parts-loop-part l = record {
  said : map part_of l.done.items ++ map (said_part (context_of l.known l.at)) (drop l.part-index l.part-items) ≡ map (said_part (context_of l.known l.at)) l.part-items;
  noted : noted l.first (flat_map (breaks_part (context_of l.known l.at)) (drop l.part-index l.part-items)) ≡ noted l.fn.first (flat_map (breaks_part (context_of l.known l.at)) l.part-items);
}

abbrev pub invariant-rest-loop-e : goal.invariant-rest-loop-e
invariant-rest-loop-e l = record {
  said : l.saids.items ++ map (said_operand (context_of l.known l.at)) (drop l.e-index l.others) ≡ map (said_operand (context_of l.known l.at)) l.others;
  noted : noted l.first (flat_map (breaks_operand (context_of l.known l.at)) (drop l.e-index l.others)) ≡ noted l.fn.first (flat_map (breaks_operand (context_of l.known l.at)) l.others);
}
