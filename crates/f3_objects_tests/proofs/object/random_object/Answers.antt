use Rattle.f3_desc.specs.Shape.{whole}
use Rattle.f3_desc.specs.Layout.{pieces_of}
use Rattle.f3_objects.specs.Tree.{blank}
use Rattle.f3_objects.proofs.Blanks.{blank-bare}
use Rattle.f3_objects_tests.proofs.Growing.{grows_holds}
use Rattle.f3_objects_tests.proofs.object.random_object.Goals as goal

pub grow-requires : goal.grow-requires
grow-requires g c = (blank (whole (pieces_of c.args.layout.now)), c.in_ok-block.ensures.holds, blank-bare (whole (pieces_of c.args.layout.now)))

pub returns : goal.returns
returns g c =
    let s = whole (pieces_of c.args.layout.now) in
    let r = c.grow.ensures (blank s) c.in_ok-block.ensures.holds (blank-bare s) in
    (r.grown, grows_holds (g.B.Blocks.blocks c.blank_object.new.heap) (g.B.Blocks.blocks c.grow.new.heap) c.in_ok-block.block 0 s (blank s) c.in_ok-block.ensures.holds r)
