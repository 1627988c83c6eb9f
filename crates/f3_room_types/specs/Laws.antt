-- Laws of layouts of types.
use Rattle.std.specs.Prelude.{◌≡◌}
use Rattle.f3_meaning_whole.specs.Shape.{Shape}
use Rattle.f3_desc.specs.Shape.{width}
use Rattle.f3_rooms.specs.Forms.{words_for}
use Rattle.f3_room_objects.specs.Trees.{layout_for}

-- the layout of a type has as many words as an object of it
abbrev pub LayoutsHaveTheirWords : Type 0
LayoutsHaveTheirWords = (s : Shape) → width (layout_for s) ≡ words_for s
