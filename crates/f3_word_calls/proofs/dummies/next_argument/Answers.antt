use Rattle.std.proofs.Common.{[], ◌∷◌, ◌+◌, ◌∙◌, ap, refl, reverse}
use Rattle.f3_code.specs.declared.instruction.Instruction.TheVariants as i
use Rattle.f3_word_cells.specs.States.{beneath}
use Rattle.f3_cell_kinds.specs.Types as cell
use Rattle.f3_word_cells.proofs.Orderly.{after_way}
use Rattle.f3_word_cells.proofs.OnTop.{line_kinds}
use Rattle.f3_word_calls.proofs.Nexts.{argument_ahead, argument_goes, not_last, not_none}
use Rattle.f3_word_calls.proofs.Outward.{are_callers, held_now, passed_is}
use Rattle.f3_word_calls.proofs.dummies.next_argument.Goals as goal

pub returns-in_default-clause-does : goal.returns-in_default-clause-does
returns-in_default-clause-does c = λ p live size t l x told there is st.
    let lead = line_kinds p t l (i.NextArgument c.args.number c.args.distance) told there is in
    absurd (not_none p live c.args.state.now x t l told there st lead.0 lead.1 lead.2.rest lead.2.before c.pop_objects.new.state c.in_default.ensures.taken)

pub returns-in_default-next_of-clause-does : goal.returns-in_default-next_of-clause-does
returns-in_default-next_of-clause-does c = λ p live size t l x told there is st.
    let lead = line_kinds p t l (i.NextArgument c.args.number c.args.distance) told there is in
    absurd (not_last p live c.args.state.now x t l told there st lead.0 lead.1 lead.2.rest lead.2.before c.in-Some.objects _ c.in-Some.ensures.taken _ c.in_default-next_of.ensures refl)

pub returns-then-is_held-clause-does : goal.returns-then-is_held-clause-does
returns-then-is_held-clause-does c = λ p live size t l x told there is st.
    let lead = line_kinds p t l (i.NextArgument c.args.number c.args.distance) told there is in
    let old = c.args.state.now in
    let held = passed_is p live (beneath old) (reverse old.callers.items.items) t.frames x old.names.items.items c.args.number
    (are_callers p live old x t l told there st) in
    argument_goes p live old x t l told there st lead.0 lead.1 lead.2.rest lead.2.before c.in-Some.objects _ c.in-Some.ensures.taken
    _ _ c.in-Some-next_of.ensures _ c.push-2.ensures c.args.number c.args.distance _ is c.go_on_with.ensures (after_way p t.pc (t.pc + 1) (cell.Object lead.0 ∷ cell.Objects lead.1 ∷ []) lead.2.rest lead.2.next)
    (held_now (reverse old.callers.items.items) (reverse c.push-2.new.self.callers.items.items) old.names.items.items c.push-2.new.self.names.items.items c.args.number _ _ _
    (ap (λ w. reverse w.items.items) (c.push-2.ensures.same.callers ∙ c.in-Some.ensures.taken.same.callers))
    (ap (λ w. w.items.items) (c.push-2.ensures.same.names ∙ c.in-Some.ensures.taken.same.names)) held c.is_held.ensures c.if-is_held.true)

pub returns-else-is_held-clause-does : goal.returns-else-is_held-clause-does
returns-else-is_held-clause-does c = λ p live size t l x told there is st.
    let lead = line_kinds p t l (i.NextArgument c.args.number c.args.distance) told there is in
    let old = c.args.state.now in
    let held = passed_is p live (beneath old) (reverse old.callers.items.items) t.frames x old.names.items.items c.args.number
    (are_callers p live old x t l told there st) in
    argument_ahead p live old x t l told there st lead.0 lead.1 lead.2.rest lead.2.before c.in-Some.objects _ c.in-Some.ensures.taken
    _ _ c.in-Some-next_of.ensures _ c.push-2.ensures c.args.number c.args.distance c.args.total _ c.ahead-else-is_held.result is c.ahead-else-is_held.ensures size
    (after_way p t.pc (t.pc + 1 + c.args.distance) (cell.Objects lead.1 ∷ []) lead.2.rest lead.2.far.0)
    (held_now (reverse old.callers.items.items) (reverse c.push-2.new.self.callers.items.items) old.names.items.items c.push-2.new.self.names.items.items c.args.number _ _ _
    (ap (λ w. reverse w.items.items) (c.push-2.ensures.same.callers ∙ c.in-Some.ensures.taken.same.callers))
    (ap (λ w. w.items.items) (c.push-2.ensures.same.names ∙ c.in-Some.ensures.taken.same.names)) held c.is_held.ensures c.if-is_held.false)
