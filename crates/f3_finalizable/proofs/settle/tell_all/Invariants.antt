use Rattle.std.proofs.Common.{◌≡◌, length, map, take}
use Rattle.f3_typed_parts.specs.Known.{nature_of}
use Rattle.f3_type_rules.specs.Natures.{marked}
use Rattle.f3_finalizable.proofs.settle.tell_all.Given as goal

abbrev pub invariant-loop-entity : goal.invariant-loop-entity
invariant-loop-entity l = record {
  told : map nature_of l.things.items ≡ marked (take l.entity l.marks) (map nature_of l.fn.things.items);
  long : length l.things.items ≡ length l.fn.things.items;
}
