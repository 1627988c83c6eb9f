use Rattle.std.proofs.Common.{[], refl, sym, ap, ◌∙◌}
use Rattle.f3_meaning_whole.specs.Reference.{is_pinned}
use Rattle.f3_data.specs.Values.{value_of}
use Rattle.f3_data.specs.Stores.{path_of}
use Rattle.f3_data.specs.References.{reference_of}
use Rattle.f3_allocation_steps.proofs.Moving_over.{kept, went_over, was_in_use}
use Rattle.f3_allocation_steps.proofs.moving.take_contents.Goals as goal

pub returns-in_default : goal.returns-in_default
returns-in_default c = λ g here l. ([], kept (reference_of c.args.from.now) (reference_of c.args.to.now) g here c.args.store.now c.in_default.ensures, refl)

pub returns-then-is_pinned : goal.returns-then-is_pinned
returns-then-is_pinned c = λ g here l. was_in_use (reference_of c.args.from.now) (reference_of c.args.to.now) g here c.args.store.now (value_of c.in-Some.field-0.now) c.in-Some.ensures
    (ap (λ rs. is_pinned (path_of c.args.from.now.path) rs) l ∙ sym c.is_pinned.ensures ∙ c.if-is_pinned.true)

pub returns : goal.returns
returns c =
    let f = reference_of c.args.from.now in
    let t = reference_of c.args.to.now in
    λ g here l. (
      _,
      went_over f t g here c.args.store.now c.hand_over.new.store (value_of c.in-Some.field-0.now) c.in-Some.ensures
          (ap (λ rs. is_pinned (path_of c.args.from.now.path) rs) l ∙ sym c.is_pinned.ensures ∙ c.if-is_pinned.false)
          (c.in_ok-hand_over.ensures (value_of c.in-Some.field-0.now) c.in-Some.ensures),
      refl,
    )
