use Rattle.std.proofs.Common.{refl, map, subst, Ok, Err}
use Rattle.f3_meaning_whole.specs.Act.{Here}
use Rattle.f3_data.specs.References.{reference_of}
use Rattle.f3_code.specs.declared.instruction.Instruction.TheVariants as i
use Rattle.f3_code.specs.Machine.{act, selects}
use Rattle.f3_cells.specs.Cells.{chosen_of}
use Rattle.f3_cells.specs.States.{state_of}
use Rattle.f3_object_steps.specs.Performed.{Performed}
use Rattle.f3_object_steps.proofs.Forms.{chosen_none, chosen_stuck, chosen_ok, chosen_err}
use Rattle.f3_object_steps.proofs.locating.select.Goals as goal

pub returns-in-Err : goal.returns-in-Err
returns-in-Err c = λ p limit g code v here.
    chosen_none (act limit g code (i.Select c.args.is_opened c.args.count) v here (state_of p c.args.state.now)) code p c.args.state.now c.args.count (λ cs r. selects c.args.is_opened cs r here) c.in-Err.stop
    c.pop_choices.new.stack.items (state_of p c.args.state.now) here.place refl c.in-Err.ensures

pub returns-in_default : goal.returns-in_default
returns-in_default c = λ p limit g code v here.
    chosen_stuck (act limit g code (i.Select c.args.is_opened c.args.count) v here (state_of p c.args.state.now)) code p c.args.state.now c.args.count (λ cs r. selects c.args.is_opened cs r here) c.in-Ok.chosen
    c.pop_choices.new.stack.items c.pop_object.new.stack.items (state_of p c.args.state.now) here.place refl c.in-Ok.ensures c.in_default.ensures

pub returns-in-Ok-selects : goal.returns-in-Ok-selects
returns-in-Ok-selects c = λ p limit g code v here.
    chosen_ok (act limit g code (i.Select c.args.is_opened c.args.count) v here (state_of p c.args.state.now)) code p here c.args.state.now c.go_on_with.new.self c.args.count (λ here cs r. selects c.args.is_opened cs r here) c.in-Ok.chosen
    c.pop_choices.new.stack.items c.pop_object.new.stack c.in-Some.object c.in-Ok-selects.part c.go_on_with.result refl c.in-Ok.ensures c.in-Some.ensures
    (subst (λ xs. Performed reference_of (λ (here : Here). selects c.args.is_opened (map chosen_of xs) (reference_of c.in-Some.object) here) (Ok c.in-Ok-selects.part) c.args.state.now.store c.args.state.now.store) c.deref.ensures.value c.in-Ok-selects.ensures)
    c.go_on_with.ensures

pub returns : goal.returns
returns c = λ p limit g code v here.
    chosen_err (act limit g code (i.Select c.args.is_opened c.args.count) v here (state_of p c.args.state.now)) code p here c.args.state.now (state_of p c.args.state.now) c.args.count (λ here cs r. selects c.args.is_opened cs r here) c.in-Ok.chosen
    c.pop_choices.new.stack.items c.pop_object.new.stack.items c.in-Some.object c.in-Err-selects.stop refl c.in-Ok.ensures c.in-Some.ensures
    (subst (λ xs. Performed reference_of (λ (here : Here). selects c.args.is_opened (map chosen_of xs) (reference_of c.in-Some.object) here) (Err c.in-Err-selects.stop) c.args.state.now.store c.args.state.now.store) c.deref.ensures.value c.in-Err-selects.ensures)
