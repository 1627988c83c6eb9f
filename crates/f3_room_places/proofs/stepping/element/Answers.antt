use Rattle.f3_room_places.proofs.Reached.{present_element}
use Rattle.f3_room_places.proofs.stepping.element.Goals as goal

pub returns : goal.returns
returns g c =
    present_element (g.B.Blocks.blocks c.args.heap.now) c.args.place.now c.in-Laid.rank c.in-Laid.bounds c.in-Laid.is c.if-rank-eq0.false c.args.number c.words.result
    c.if-not-has_element.ensures c.words.ensures c.one_object.result c.one_object.ensures
