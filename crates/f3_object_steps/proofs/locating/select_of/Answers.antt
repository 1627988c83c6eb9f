use Rattle.std.proofs.Common.{Bool, ℕ, List, refl, map, subst, sym, Ok, Err}
use Rattle.f3_meaning_whole.specs.Reference as m
use Rattle.f3_meaning_whole.specs.Act as a
use Rattle.f3_meaning_whole.specs.Act.{at}
use Rattle.f3_meaning_whole.specs.Eval.{by_reach, spans_of_component}
use Rattle.f3_meaning_whole.specs.Ran.{Ran}
use Rattle.f3_data.specs.References.{reference_of}
use Rattle.f3_code.specs.declared.instruction.Instruction.TheVariants as i
use Rattle.f3_code.specs.Machine.{act, selects}
use Rattle.f3_cells.specs.Cells.{chosen_of, here_of}
use Rattle.f3_cells.specs.States.{state_of, setting, code_of}
use Rattle.f3_program.specs.declared.program.Program.{Program}
use Rattle.f3_object_steps.specs.Performed.{Performed}
use Rattle.f3_object_steps.proofs.Forms.{parted_none, parted_stuck, parted_ok, parted_err}
use Rattle.f3_object_steps.proofs.locating.select_of.Goals as goal

-- what is done to a component of an object
abbrev selecting : Program → Bool → ℕ → a.Here → List a.Chosen → m.Reference → m.Reference → Ran m.Reference
selecting p opened k here cs q r = by_reach r.reach (selects opened cs q here) (a.picks_in_each (spans_of_component (a.component_of (setting p).program.types.items r.of k)) q cs here)

pub returns-in-Err : goal.returns-in-Err
returns-in-Err c = λ v place. let p = c.args.scene.now.program.now in let here = at place (here_of p c.args.state.now.here) in
    parted_none (act 1000 (setting p) (code_of c.args.scene.now) (i.SelectOf c.args.is_opened c.args.k c.args.count) v here (state_of p c.args.state.now)) (code_of c.args.scene.now) p c.args.state.now c.args.count
    (selecting p c.args.is_opened c.args.k here) c.in-Err.stop c.pop_choices.new.stack.items (state_of p c.args.state.now) place refl c.in-Err.ensures

pub returns-in_default : goal.returns-in_default
returns-in_default c = λ v place. let p = c.args.scene.now.program.now in let here = at place (here_of p c.args.state.now.here) in
    parted_stuck (act 1000 (setting p) (code_of c.args.scene.now) (i.SelectOf c.args.is_opened c.args.k c.args.count) v here (state_of p c.args.state.now)) (code_of c.args.scene.now) p c.args.state.now c.args.count
    (selecting p c.args.is_opened c.args.k here) c.in-Ok.chosen c.pop_choices.new.stack.items c.pop_part.new.stack.items (state_of p c.args.state.now) place refl c.in-Ok.ensures c.in_default.ensures

pub returns-in-Ok-selects_of : goal.returns-in-Ok-selects_of
returns-in-Ok-selects_of c = λ v place. let p = c.args.scene.now.program.now in let here = at place (here_of p c.args.state.now.here) in
    parted_ok (act 1000 (setting p) (code_of c.args.scene.now) (i.SelectOf c.args.is_opened c.args.k c.args.count) v here (state_of p c.args.state.now)) (code_of c.args.scene.now) p here c.args.state.now c.go_on_with.new.self c.args.count
    (λ here. selecting p c.args.is_opened c.args.k here) c.in-Ok.chosen c.pop_choices.new.stack.items c.pop_part.new.stack c.in-Some.part c.in-Some.object c.in-Ok-selects_of.found c.go_on_with.result refl c.in-Ok.ensures c.in-Some.ensures
    (subst (λ xs. Performed reference_of (λ (here : a.Here). selecting p c.args.is_opened c.args.k here (map chosen_of xs) (reference_of c.in-Some.part) (reference_of c.in-Some.object)) (Ok c.in-Ok-selects_of.found) c.args.state.now.store c.args.state.now.store)
    c.deref-2.ensures.value (c.in-Ok-selects_of.ensures (setting p) (sym c.deref.ensures.value)))
    c.go_on_with.ensures

pub returns : goal.returns
returns c = λ v place. let p = c.args.scene.now.program.now in let here = at place (here_of p c.args.state.now.here) in
    parted_err (act 1000 (setting p) (code_of c.args.scene.now) (i.SelectOf c.args.is_opened c.args.k c.args.count) v here (state_of p c.args.state.now)) (code_of c.args.scene.now) p here c.args.state.now (state_of p c.args.state.now) c.args.count
    (λ here. selecting p c.args.is_opened c.args.k here) c.in-Ok.chosen c.pop_choices.new.stack.items c.pop_part.new.stack.items c.in-Some.part c.in-Some.object c.in-Err-selects_of.stop refl c.in-Ok.ensures c.in-Some.ensures
    (subst (λ xs. Performed reference_of (λ (here : a.Here). selecting p c.args.is_opened c.args.k here (map chosen_of xs) (reference_of c.in-Some.part) (reference_of c.in-Some.object)) (Err c.in-Err-selects_of.stop) c.args.state.now.store c.args.state.now.store)
    c.deref-2.ensures.value (c.in-Err-selects_of.ensures (setting p) (sym c.deref.ensures.value)))
