-- The layouts of the types of a program.
use Rattle.std.specs.Prelude.{List}
use Rattle.f3_meaning_whole.specs.Shape.{Shape}
use Rattle.f3_desc.specs.Layout.{shapes}
use Rattle.f3_room_types.specs.declared.layouts.Layouts.{Layouts}
use Rattle.f3_room_types.specs.Pieces.{AreNumbered}

-- each type has its layout, by the number of a piece
abbrev pub AreLayouts : List Shape → Layouts → Type 0
AreLayouts ts l = AreNumbered (shapes l.layout) ts l.numbers.items
