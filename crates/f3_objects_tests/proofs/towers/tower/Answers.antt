use Rattle.std.proofs.Common.{◌+◌, List, sym, subst}
use Rattle.f3_desc.specs.declared.piece.Piece.{Piece}
use Rattle.f3_desc.specs.declared.piece.Piece.TheVariants.{Record}
use Rattle.f3_objects_tests.proofs.Tall.{IsTower, tower_more}
use Rattle.f3_objects_tests.proofs.towers.tower.Goals as goal

pub loop-below-preserved : goal.loop-below-preserved
loop-below-preserved c =
    let P : List Piece → Type 0 = λ l. IsTower l (c.loop-below.below + 1) in
    subst P (sym c.in_ok-push.ensures.items) (tower_more c.loop-below.pieces.items c.loop-below.below (Record c.in_ok-part.part) c.loop-below.invariant c.in_ok-part.ensures.items)
