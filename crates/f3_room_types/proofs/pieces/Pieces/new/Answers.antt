use Rattle.std.proofs.Common.{subst, ap, ◌∙◌, ◌≡◌, length, ℕ}
use Rattle.f3_desc.specs.Shape.{Plain}
use Rattle.f3_room_types.specs.Pieces.{IsAt, layouts_of}
use Rattle.f3_room_types.proofs.pieces.Pieces.new.Goals as goal

pub returns : goal.returns
returns c =
    let first : c.in_ok-push.field-0 ≡ 0 = c.in_ok-push.ensures.number ∙ ap length c.new.ensures.items in
    subst (λ (k : ℕ). IsAt (layouts_of c.push.new.self.pieces.items) Plain k) first c.in_ok-push.ensures.has.is
