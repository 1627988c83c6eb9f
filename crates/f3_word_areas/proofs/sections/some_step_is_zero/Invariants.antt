use Rattle.std.proofs.Common.{◌≡◌, drop, map}
use Rattle.f3_meaning_whole.specs.Act as a
use Rattle.f3_cells.specs.Cells.{chosen_of}
use Rattle.f3_word_areas.proofs.sections.some_step_is_zero.Given as goal

abbrev pub invariant-loop-choice : goal.invariant-loop-choice
invariant-loop-choice l = a.some_zero_step (map chosen_of (drop l.choice-index l.chosen)) ≡ a.some_zero_step (map chosen_of l.chosen)
