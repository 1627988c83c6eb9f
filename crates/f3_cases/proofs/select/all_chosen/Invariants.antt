use Rattle.std.proofs.Common.{◌≡◌, ◌++◌, drop, map}
use Rattle.std.specs.List.{flat_map}
use Rattle.f3_typed_parts.specs.Known.{context_of}
use Rattle.f3_typed_parts.specs.Noted.{noted}
use Rattle.f3_cases.specs.Inner.Blocks.{chosen_held, chosen_rows}
use Rattle.f3_cases.specs.Inner.Spans.{held_view}
use Rattle.f3_cases.proofs.select.all_chosen.Given as goal

abbrev pub invariant-loop-case : goal.invariant-loop-case
invariant-loop-case l = record {
  held : map held_view l.all.items ++ flat_map (λ x. chosen_held (context_of l.known l.at) l.data_type x.1) (drop l.case-index l.cases) ≡ flat_map (λ x. chosen_held (context_of l.known l.at) l.data_type x.1) l.cases;
  noted : noted l.first (flat_map (λ x. chosen_rows (context_of l.known l.at) l.data_type x.1) (drop l.case-index l.cases)) ≡ noted l.fn.first (flat_map (λ x. chosen_rows (context_of l.known l.at) l.data_type x.1) l.cases);
}
