use Rattle.std.proofs.Common.{◌≡◌, ◌++◌, drop, map}
use Rattle.std.specs.List.{flat_map}
use Rattle.f3_typed_parts.specs.Known.{context_of}
use Rattle.f3_typed_parts.specs.Noted.{noted}
use Rattle.f3_cases.specs.Inner.Spans.{held_view, held_value, value_rows}
use Rattle.f3_cases.proofs.values.hold_all.Given as goal

abbrev pub invariant-loop-case : goal.invariant-loop-case
invariant-loop-case l = record {
  held : map held_view l.all.items ++ map (held_value (context_of l.known l.at) l.data_type) (drop l.case-index l.cases) ≡ map held_view l.fn.all.items ++ map (held_value (context_of l.known l.at) l.data_type) l.cases;
  noted : noted l.first (flat_map (value_rows (context_of l.known l.at) l.data_type) (drop l.case-index l.cases)) ≡ noted l.fn.first (flat_map (value_rows (context_of l.known l.at) l.data_type) l.cases);
}
