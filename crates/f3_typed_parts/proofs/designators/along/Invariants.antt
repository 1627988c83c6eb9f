use Rattle.std.proofs.Common.{◌≡◌, drop, map}
use Rattle.f3_kinds.specs.Designators.{along, along_rows}
use Rattle.f3_typed_parts.specs.Known.{context_of, part_of}
use Rattle.f3_typed_parts.specs.Noted.{noted}
use Rattle.f3_typed_parts.proofs.designators.along.Given as goal

abbrev pub invariant-loop-number : goal.invariant-loop-number
invariant-loop-number l = record {
  reached : along (context_of l.known l.at) l.fn.role (map part_of (drop l.number l.parts)) l.reached ≡ along (context_of l.known l.at) l.fn.role (map part_of l.parts) l.fn.reach;
  noted : noted l.first (along_rows (context_of l.known l.at) l.fn.role (map part_of (drop l.number l.parts)) l.reached) ≡ noted l.fn.first (along_rows (context_of l.known l.at) l.fn.role (map part_of l.parts) l.fn.reach);
}
