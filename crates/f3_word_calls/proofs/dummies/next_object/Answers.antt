use Rattle.std.proofs.Common.{[], ◌∷◌, ◌+◌, refl}
use Rattle.f3_code.specs.declared.instruction.Instruction.TheVariants as i
use Rattle.f3_cell_kinds.specs.Types as cell
use Rattle.f3_word_cells.proofs.Orderly.{after_way}
use Rattle.f3_word_cells.proofs.OnTop.{line_kinds}
use Rattle.f3_word_calls.proofs.Nexts.{next_goes, not_last, not_none}
use Rattle.f3_word_calls.proofs.dummies.next_object.Goals as goal

pub returns-in_default-clause-does : goal.returns-in_default-clause-does
returns-in_default-clause-does c = λ p live size t l x told there is st.
    let lead = line_kinds p t l (i.NextObject c.args.distance) told there is in
    absurd (not_none p live c.args.state.now x t l told there st lead.0 lead.1 lead.2.rest lead.2.before c.pop_objects.new.state c.in_default.ensures.taken)

pub returns-in_default-next_of-clause-does : goal.returns-in_default-next_of-clause-does
returns-in_default-next_of-clause-does c = λ p live size t l x told there is st.
    let lead = line_kinds p t l (i.NextObject c.args.distance) told there is in
    absurd (not_last p live c.args.state.now x t l told there st lead.0 lead.1 lead.2.rest lead.2.before c.in-Some.objects _ c.in-Some.ensures.taken _ c.in_default-next_of.ensures refl)

pub returns-clause-does : goal.returns-clause-does
returns-clause-does c = λ p live size t l x told there is st.
    let lead = line_kinds p t l (i.NextObject c.args.distance) told there is in
    next_goes p live c.args.state.now x t l told there st lead.0 lead.1 lead.2.rest lead.2.before c.in-Some.objects _ c.in-Some.ensures.taken
    _ _ c.in-Some-next_of.ensures _ c.push-2.ensures (i.NextObject c.args.distance) _ is c.go_on_with.ensures (after_way p t.pc (t.pc + 1) (cell.Object lead.0 ∷ cell.Objects lead.1 ∷ []) lead.2.rest lead.2.next) (λ r. refl)
