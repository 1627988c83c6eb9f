use Rattle.std.proofs.Common.{◌≡◌, map, vec_len}
use Rattle.f3_elaboration.specs.Views.{statement_view}
use Rattle.f3_construct_nodes.specs.Nested.{case_of, chosen}
use Rattle.f3_construct_nodes.proofs.cases.chosen.Given as goal

abbrev pub invariant-loop-last : goal.invariant-loop-last
invariant-loop-last l = chosen (map case_of l.list.items) (statement_view l.node) ≡ chosen (map case_of l.fn.list.items) (statement_view l.fn.otherwise)

abbrev pub decreases-loop-last : goal.decreases-loop-last
decreases-loop-last l = vec_len l.list
