use Rattle.std.proofs.Common.{take}
use Rattle.f3_room_types.proofs.LayoutLaws.{ArePlaced}
use Rattle.f3_room_types.proofs.layouts.parts.Given as goal

abbrev pub invariant-loop-component : goal.invariant-loop-component
invariant-loop-component l = ArePlaced l.initial.pieces.pieces.items l.pieces.pieces.items l.numbers (take l.component-index l.components) l.parts.items
