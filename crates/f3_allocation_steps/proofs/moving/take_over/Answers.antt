use Rattle.std.proofs.Common.{◌+◌, List, refl, sym, ap, ◌∙◌}
use Rattle.std.specs.Prelude.{⊤, drop}
use Rattle.f3_program.specs.declared.program.Program.{Program}
use Rattle.f3_meaning_whole.specs.Reference as m
use Rattle.f3_meaning_whole.specs.Ran.{World}
use Rattle.f3_meaning_whole.specs.Act.{at}
use Rattle.f3_data.specs.References.{reference_of}
use Rattle.f3_data.specs.Lent.{lent_of}
use Rattle.f3_code.specs.State as s
use Rattle.f3_code.specs.Machine.{ends_so}
use Rattle.f3_cells.specs.declared.cell.Cell.{Cell}
use Rattle.f3_cells.specs.declared.state.State.{State}
use Rattle.f3_cells.specs.Cells.{here_of, cells_of}
use Rattle.f3_cells.specs.States.{state_of, world_of}
use Rattle.f3_cells.proofs.Steps.{is_stuck}
use Rattle.f3_allocation_steps.proofs.Acting.{at_object}
use Rattle.f3_allocation_steps.proofs.Moving_over.{not_over}
use Rattle.f3_allocation_steps.proofs.moving.take_over.Goals as goal

-- the next line, with these cells, where these are lent
abbrev lent_after : Program → State → List Cell → List m.Reference → World → s.State
lent_after p st cells l w = record {
  pc = st.pc + 1;
  stack = cells_of p cells;
  here = record {
    place = st.here.place;
    unit = st.here.unit;
    level = st.here.level;
    variables = (here_of p st.here).variables;
    names = (here_of p st.here).names;
    lent = l;
    selected = (here_of p st.here).selected;
  };
  frames = (state_of p st).frames;
  world = w;
}

pub returns-in_default : goal.returns-in_default
returns-in_default c = λ place p limit g code v. is_stuck (c.in_default.ensures p _)

pub returns-in_default-pop_object : goal.returns-in_default-pop_object
returns-in_default-pop_object c = λ place p limit g code v. is_stuck (at_object _ (c.in-Some.ensures p) ∙ c.in_default-pop_object.ensures p _)

pub returns-in_ok-unlend_both-in-Ok : goal.returns-in_ok-unlend_both-in-Ok
returns-in_ok-unlend_both-in-Ok c = λ place p limit g code v.
    let st = c.args.state.now in
    let d = c.in-Ok.ensures g (at place (here_of p st.here)) refl in (
      d.0,
      at_object _ (c.in-Some.ensures p) ∙ at_object _ (c.in-Some-pop_object.ensures p)
          ∙ ap (λ o. ends_so o.out o.end (λ (done : ⊤) (w : World). lent_after p st c.pop_object-2.new.stack.items (drop 2 (lent_of st.here.lent)) w)) d.1
          ∙ ap (λ l. s.Goes d.0 (lent_after p st c.pop_object-2.new.stack.items l (world_of c.take_contents-done.new.store))) (sym c.in_ok-unlend_both-in-Ok.ensures)
          ∙ ap (λ t. s.Goes d.0 (state_of p t)) (sym c.advance.ensures.is),
      d.2,
    )

pub returns-in-Err : goal.returns-in-Err
returns-in-Err c = λ place p limit g code v.
    let st = c.args.state.now in
    not_over code (state_of p st) (at place (here_of p st.here)) (reference_of c.in-Some-pop_object.from) (reference_of c.in-Some.to) (lent_of st.here.lent) c.in-Err.stop
    st.store c.take_contents-done.new.store g (λ (done : ⊤) (w : World). lent_after p st c.pop_object-2.new.stack.items (drop 2 (lent_of st.here.lent)) w) _
    (at_object _ (c.in-Some.ensures p) ∙ at_object _ (c.in-Some-pop_object.ensures p)) refl c.in-Err.ensures
