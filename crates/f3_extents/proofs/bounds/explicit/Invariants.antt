use Rattle.std.proofs.Common.{◌≡◌, drop, Option}
use Rattle.std.specs.List.{flat_map}
use Rattle.f3_tree.specs.declared.expression.Expression.{Expression}
use Rattle.f3_tree.specs.Declarations.{bounds_view}
use Rattle.f3_typed_parts.specs.Known.{context_of}
use Rattle.f3_typed_parts.specs.Noted.{noted}
use Rattle.f3_extents.specs.Inner.Bounds.{rows_of_bounds}
use Rattle.f3_extents.proofs.bounds.explicit.Given as goal

abbrev pub invariant-loop-bounds : goal.invariant-loop-bounds
invariant-loop-bounds l =
    noted l.first (flat_map (λ (b : Option Expression × Expression). rows_of_bounds (context_of l.known l.at) (bounds_view b)) (drop l.bounds-index l.list))
    ≡ noted l.fn.first (flat_map (λ (b : Option Expression × Expression). rows_of_bounds (context_of l.known l.at) (bounds_view b)) l.list)
