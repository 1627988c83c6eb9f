use Rattle.f3_word_objects.proofs.Popping.{choice-left, taking-more}
use Rattle.f3_word_objects.proofs.taking.pop_choices.Goals as goal

pub returns-in_default-clause-taken : goal.returns-in_default-clause-taken
returns-in_default-clause-taken c = λ cs rest many there.
    let left = choice-left c.args.count c.loop-number.number c.loop-number.chosen c.args.state.now c.loop-number.state c.loop-number-test.true c.loop-number.invariant cs rest many there in
    c.in_default.ensures.taken left.0 left.1 left.2

pub loop-number-preserved : goal.loop-number-preserved
loop-number-preserved c =
    taking-more c.args.count c.loop-number.number c.loop-number.chosen c.in-Some.choice c.args.state.now c.loop-number.state c.pop_choice.new.state c.loop-number-test.true c.loop-number.invariant
    c.in-Some.ensures.taken c.in-Some.ensures.keeps
