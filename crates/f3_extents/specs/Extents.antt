-- What a shape says of the object that has it, read once.
use Rattle.std.specs.Prelude.{Option}
use Rattle.f3_tree.specs.Declarations.{ShapeTree}
use Rattle.f3_kinds.specs.Things.{Context}
use Rattle.f3_type_rules.specs.Shapes.{elements, are_dimensions_small}
use Rattle.f3_extents.specs.Counts.{counted}
use Rattle.f3_extents.specs.declared.sizes.Extents.{Extents}

abbrev pub extents_of : Context → Option ShapeTree → Extents
extents_of c s = record { elements = counted (elements c s); are_small = are_dimensions_small c s }
