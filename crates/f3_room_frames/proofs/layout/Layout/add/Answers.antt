use Rattle.std.proofs.Common.{refl}
use Rattle.f3_room_frames.proofs.LayoutLaws.{added, not_placed, some_placed, none_placed, few_words}
use Rattle.f3_room_frames.proofs.layout.Layout.add.Goals as goal

pub returns-in_default : goal.returns-in_default
returns-in_default c = λ ts have. not_placed ts c.args.self.now c.args.self.now c.args.declared.now
    (none_placed ts c.args.self.now.words c.args.declared.now c.in_ok-variable.field-0 (c.in_ok-variable.ensures.stands ts have) c.in_default.is)

pub invariant_of-self-2 : goal.invariant_of-self-2
invariant_of-self-2 c = record { few = few_words c.args.self.now.words c.in_ok-variable.field-0 c.in-Some.variable c.in_ok-variable.ensures.there c.in-Some.is }

pub returns : goal.returns
returns c = λ ts have. added ts c.args.self.now _ c.args.declared.now c.in-Some.variable
    (some_placed ts c.args.self.now.words c.args.declared.now c.in_ok-variable.field-0 c.in-Some.variable (c.in_ok-variable.ensures.stands ts have) c.in-Some.is)
    c.in_ok-push.ensures.items refl (few_words c.args.self.now.words c.in_ok-variable.field-0 c.in-Some.variable c.in_ok-variable.ensures.there c.in-Some.is)
