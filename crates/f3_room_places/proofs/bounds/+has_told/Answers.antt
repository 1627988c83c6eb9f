use Rattle.std.proofs.Common.{rules, ◌∙◌, ap, arith, nat_eq}
use Rattle.std.specs.Prelude.{not}
use Rattle.f3_room_places.proofs.Telling.{some_rest, told_next, told_none}
use Rattle.f3_room_places.proofs.bounds.+has_told.Goals as goal

pub has_told-requires : goal.has_told-requires
has_told-requires g t c κs within =
    let m = g.B.Blocks.blocks c.args.heap.now in
    (omega arith, (search rules, some_rest m c.args.block c.args.at c.args.rank c.if-rank-eq0.false c.requires.0 c.requires.1))

pub returns-then-extent-ne0 : goal.returns-then-extent-ne0
returns-then-extent-ne0 g t c =
    told_next (g.B.Blocks.blocks c.args.heap.now) c.args.block c.args.at c.args.rank c.if-rank-eq0.false c.args.element c.extent_in-extent.result c.extent_in-extent.ensures
    c.if-extent-ne0.true c.has_told.result c.has_told.ensures

pub returns-else-extent-ne0 : goal.returns-else-extent-ne0
returns-else-extent-ne0 g t c ss are =
    ap (λ x. not (nat_eq x 0)) c.if-extent-ne0.false
    ∙ told_none (g.B.Blocks.blocks c.args.heap.now) c.args.block c.args.at c.args.rank c.if-rank-eq0.false c.args.element c.extent_in-extent.result c.extent_in-extent.ensures
    c.if-extent-ne0.false ss are
