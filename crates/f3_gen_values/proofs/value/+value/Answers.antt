use Rattle.std.proofs.Common.{◌≡◌, ◌≤◌, [], ◌∷◌, ◌++◌, Some, refl, sym, ap, subst, arith, Bor}
use Rattle.std.specs.List.{All, sum_by}
use Rattle.std.proofs.lemmas.List.Elements.{All-pop, All-push}
use Rattle.std.proofs.lemmas.List.Sums.{sum_by_push}
use Rattle.f3_program.specs.declared.expression.Expression.{Expression, size-Expression}
use Rattle.f3_code.specs.declared.instruction.Instruction.TheVariants as i
use Rattle.f3_code.specs.Code.{value_code}
use Rattle.f3_code.specs.State.{line}
use Rattle.f3_gen_values.specs.Emitted.{Emitted}
use Rattle.f3_gen_values.proofs.Chains.{turns, turns_some, first_smaller, second_smaller, opened, passed}
use Rattle.f3_gen_values.proofs.Emitting.{emitted_then, then_ok}
use Rattle.f3_gen_values.proofs.Rows.{array_kept, structure_kept, call_kept, elements_kept, elements_of_kept}
use Rattle.f3_gen_values.proofs.value.+value.Goals as goal

pub emit_selection-returns-in_ok-put-in-Elements : goal.emit_selection-returns-in_ok-put-in-Elements
emit_selection-returns-in_ok-put-in-Elements t c =
    then_ok _ _ c.emit_subscripts.result c.in_ok-put-in-Elements.ensures c.emit_subscripts.ensures
    (rw (c.in-Elements.is, c.deref.ensures.value, c.len.ensures) (elements_kept c.in-Elements.is_opened c.in-Elements.subscripts c.args.place))

pub emit_operand-returns-in_ok-put-in-Array : goal.emit_operand-returns-in_ok-put-in-Array
emit_operand-returns-in_ok-put-in-Array t c =
    then_ok _ _ c.emit_arguments.result c.in_ok-put-in-Array.ensures c.emit_arguments.ensures
    (rw (c.in-Array.is, c.deref-in-Array.ensures.value, c.len.ensures) (array_kept c.in-Array.values c.args.place))

pub emit_operand-returns-in_ok-put-in-Structure : goal.emit_operand-returns-in_ok-put-in-Structure
emit_operand-returns-in_ok-put-in-Structure t c =
    then_ok _ _ c.emit_arguments-in-Structure.result c.in_ok-put-in-Structure.ensures c.emit_arguments-in-Structure.ensures
    (rw (c.in-Structure.is, c.deref-in-Structure.ensures.value, c.len-in-Structure.ensures) (structure_kept c.in-Structure.of c.in-Structure.values c.args.place))

pub emit_operand-returns-in_ok-put-in-Call-2 : goal.emit_operand-returns-in_ok-put-in-Call-2
emit_operand-returns-in_ok-put-in-Call-2 t c =
    then_ok _ _ c.emit_arguments-in-Call.result (emitted_then c.in_ok-put-in-Call.ensures c.in_ok-put-in-Call-2.ensures) c.emit_arguments-in-Call.ensures
    (rw (c.in-Call.is, c.deref-in-Call.ensures.value, c.len-in-Call.ensures) (call_kept c.in-Call.procedure c.in-Call.arguments c.args.place))

pub emit_selection_of-returns-in_ok-emit_subscripts-in-Elements : goal.emit_selection_of-returns-in_ok-emit_subscripts-in-Elements
emit_selection_of-returns-in_ok-emit_subscripts-in-Elements t c =
    then_ok _ _ c.put-in-Elements-2.result (emitted_then c.in_ok-put-in-Elements.ensures c.in_ok-emit_subscripts-in-Elements.ensures) c.put-in-Elements-2.ensures
    (rw (c.in-Elements.is, c.deref.ensures.value, c.len.ensures) (elements_of_kept c.args.component c.in-Elements.is_opened c.in-Elements.subscripts c.args.place))

pub emit_value-loop-current-preserved-in-Binary : goal.emit_value-loop-current-preserved-in-Binary
emit_value-loop-current-preserved-in-Binary t c =
    let o = c.args.place in
    let w = c.loop-current.waiting.items in
    let v = c.push.new.self.items in
    let x = c.deref.result in
    let y = c.deref-current.result.now in
    let z = c.loop-current.current.now in
    let act = line o (i.Binary c.in-Binary.operator c.in-Binary.of) in
    let is : value_code o z ≡ value_code o x.now ++ (value_code o y ++ act ∷ []) = rw (c.in-Binary.is, c.deref.ensures, c.deref-current.ensures) refl in
    let pushed : v ≡ w ++ x ∷ [] = c.in_ok-push-in-Binary.ensures.items in
    let left : size-Expression x.now ≤ size-Expression z = rw (c.in-Binary.is, c.deref.ensures) (first_smaller c.in-Binary.operator c.in-Binary.of c.in-Binary.x c.in-Binary.y) in
    let right : size-Expression y ≤ size-Expression z = rw (c.in-Binary.is, c.deref-current.ensures) (second_smaller c.in-Binary.operator c.in-Binary.of c.in-Binary.x c.in-Binary.y) in
    record {
      left = λ u e. c.loop-current.invariant.left u (subst (Emitted c.loop-current.code.items u)
          (opened o w v x y z act pushed is) (emitted_then c.in_ok-put-in-Binary.ensures e));
      current = omega arith;
      waiting = subst (All (λ (r : Bor Expression). size-Expression r.now ≤ size-Expression c.args.expression.now)) (sym {b = w ++ x ∷ []} pushed)
          (All-push (λ (r : Bor Expression). size-Expression r.now ≤ size-Expression c.args.expression.now) w x c.loop-current.invariant.waiting (omega arith));
    }

pub emit_value-loop-current-preserved : goal.emit_value-loop-current-preserved
emit_value-loop-current-preserved t c =
    let o = c.args.place in
    let w = c.loop-current.waiting.items in
    let v = c.pop.new.self.items in
    let small = All-pop (λ (r : Bor Expression). size-Expression r.now ≤ size-Expression c.args.expression.now) w v (Some c.in-Some.x) c.in-Some.ensures.items c.loop-current.invariant.waiting in
    record {
      left = λ u e. c.loop-current.invariant.left u (emitted_then c.in_ok-emit_operand-in_default.ensures
          (subst (Emitted c.emit_operand.new.code.items u) (passed o w v c.in-Some.x c.in-Some.ensures.items) e));
      current = small.1;
      waiting = small.0;
    }

pub emit_value-loop-current-smaller : goal.emit_value-loop-current-smaller
emit_value-loop-current-smaller t c =
    let p = sum_by_push (λ (r : Bor Expression). turns r.now) c.pop.new.self.items c.in-Some.x in
    let q = ap (sum_by (λ (r : Bor Expression). turns r.now)) c.in-Some.ensures.items in
    let s = turns_some c.loop-current.current.now in
    omega arith
