use Rattle.std.proofs.Common.{◌∙◌, ap}
use Rattle.std.proofs.lemmas.Int.{to_z-of_z}
use Rattle.std.specs.Int.{w64}
use Rattle.f3_rooms.specs.Places.{with_word}
use Rattle.f3_room_places.proofs.Put.{scalar_put}
use Rattle.f3_room_places.proofs.writing.set.Goals as goal

pub returns-clause-put : goal.returns-clause-put
returns-clause-put g c ts x sound r way f at is =
    scalar_put ts (g.B.Blocks.blocks c.args.heap.now) (g.B.Blocks.blocks c.write.new.self) x sound r way f at c.args.place.now is c.args.word
    (c.write.ensures.written ∙ ap (with_word (g.B.Blocks.blocks c.args.heap.now) c.args.place.now.block c.args.place.now.at) (to_z-of_z w64 c.args.word c.ranges.word))
