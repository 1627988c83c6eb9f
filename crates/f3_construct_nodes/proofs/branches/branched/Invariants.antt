use Rattle.std.proofs.Common.{◌≡◌, true, map, vec_len}
use Rattle.f3_elaboration.specs.Views.{statement_view}
use Rattle.f3_construct_nodes.specs.Nested.{branch_of, branched}
use Rattle.f3_construct_nodes.proofs.branches.branched.Given as goal

abbrev pub invariant-loop-last : goal.invariant-loop-last
invariant-loop-last l = branched true (map branch_of l.list.items) (statement_view l.node) ≡ branched true (map branch_of l.fn.list.items) (statement_view l.fn.otherwise)

abbrev pub decreases-loop-last : goal.decreases-loop-last
decreases-loop-last l = vec_len l.list
