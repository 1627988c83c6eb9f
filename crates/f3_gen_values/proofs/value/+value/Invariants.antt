use Rattle.std.proofs.Common.{◌+◌, ◌≤◌, List, ◌++◌, length, drop}
use Rattle.std.specs.List.{All, flat_map, sum_by}
use Rattle.f3_program.specs.declared.expression.Expression.{size-Expression}
use Rattle.f3_code.specs.Code.{argument_code, subscript_code, value_code}
use Rattle.f3_gen_values.specs.declared.line.Line.{Line}
use Rattle.f3_gen_values.specs.Emitted.{Emitted}
use Rattle.f3_gen_values.proofs.Chains.{turns}
use Rattle.f3_gen_values.proofs.value.+value.Given as goal

abbrev pub invariant-emit_arguments-loop-i : goal.invariant-emit_arguments-loop-i
invariant-emit_arguments-loop-i l = record { within : l.i ≤ length l.arguments; emitted : Emitted l.fn.code.items l.code.items (flat_map (argument_code l.place) (drop l.i l.arguments)) }

abbrev pub decreases-emit_arguments-loop-i : goal.decreases-emit_arguments-loop-i
decreases-emit_arguments-loop-i l = l.i

abbrev pub invariant-emit_subscripts-loop-i : goal.invariant-emit_subscripts-loop-i
invariant-emit_subscripts-loop-i l = record { within : l.i ≤ length l.subscripts; emitted : Emitted l.fn.code.items l.code.items (flat_map (subscript_code l.place) (drop l.i l.subscripts)) }

abbrev pub decreases-emit_subscripts-loop-i : goal.decreases-emit_subscripts-loop-i
decreases-emit_subscripts-loop-i l = l.i

abbrev pub invariant-emit_value-loop-current : goal.invariant-emit_value-loop-current
invariant-emit_value-loop-current l = record {
  left : (z : List Line) → Emitted l.code.items z (flat_map (λ r. value_code l.place r.now) l.waiting.items ++ value_code l.place l.current) → Emitted l.fn.code.items z (value_code l.place l.expression);
  current : size-Expression l.current ≤ size-Expression l.expression;
  waiting : All (λ r. size-Expression r.now ≤ size-Expression l.expression) l.waiting.items;
}

abbrev pub decreases-emit_value-loop-current : goal.decreases-emit_value-loop-current
decreases-emit_value-loop-current l = turns l.current + sum_by (λ r. turns r.now) l.waiting.items
