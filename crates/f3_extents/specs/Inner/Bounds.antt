-- The bounds of one dimension.
use Rattle.std.specs.Prelude.{List, [], ◌++◌}
use Rattle.f3_rules.specs.declared.breaks.Break.{Break}
use Rattle.f3_tree.specs.Declarations.{Bounds}
use Rattle.f3_kinds.specs.Things.{map_or, Context}
use Rattle.f3_type_rules.specs.Shapes.{bound_rows}

abbrev pub rows_of_bounds : Context → Bounds → List Break
rows_of_bounds c b = map_or [] (bound_rows c) b.lower ++ bound_rows c b.upper
