use Rattle.f3_word_objects.proofs.Popping.{Taking}
use Rattle.f3_word_objects.proofs.taking.pop_choices.Given as goal

abbrev pub invariant-loop-number : goal.invariant-loop-number
invariant-loop-number l = Taking l.count l.number l.chosen l.initial.state l.state
