use Rattle.std.proofs.Common.{◌+◌, ◌*◌}
use Rattle.f3_pass_texts.proofs.expressions.+show.Given as goal

abbrev pub decreases-show : goal.decreases-show
decreases-show l = 4 * goal.size-show l + 0

abbrev pub decreases-show_operands : goal.decreases-show_operands
decreases-show_operands l = 4 * goal.size-show_operands l + 1

abbrev pub decreases-show_elements : goal.decreases-show_elements
decreases-show_elements l = 4 * goal.size-show_elements l + 1

abbrev pub decreases-show_parts : goal.decreases-show_parts
decreases-show_parts l = 4 * goal.size-show_parts l + 2

abbrev pub decreases-show_arguments : goal.decreases-show_arguments
decreases-show_arguments l = 4 * goal.size-show_arguments l + 1

abbrev pub decreases-show_argument : goal.decreases-show_argument
decreases-show_argument l = 4 * goal.size-show_argument l + 0

abbrev pub decreases-show_bound : goal.decreases-show_bound
decreases-show_bound l = 4 * goal.size-show_bound l + 1
