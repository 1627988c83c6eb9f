use Rattle.std.proofs.Common.{[], drop, refl, sym, ◌∙◌}
use Rattle.f3_meaning_whole.specs.Act.{at}
use Rattle.f3_data.specs.Values.{value_of}
use Rattle.f3_cells.specs.Cells.{cells_of, here_of}
use Rattle.f3_cells.specs.States.{state_of}
use Rattle.f3_cells.proofs.Steps.{is_stuck}
use Rattle.f3_requests.proofs.Requested.{take_stuck, take_fails, take_overflows}
use Rattle.f3_requests.proofs.refusing.take.Goals as goal

pub returns-in_default : goal.returns-in_default
returns-in_default c = λ x v place n h.
    let p = x.program.now in
    is_stuck (take_stuck c.args.of (at place (here_of p c.args.state.now.here)) (state_of p c.args.state.now) (cells_of p c.args.state.now.stack.items) n h
    (c.in_default.ensures p))

pub returns-then-fits : goal.returns-then-fits
returns-then-fits c = λ x v place n h.
    let p = x.program.now in (
      [],
      take_fails c.args.of (value_of c.in-Some.value.now) (at place (here_of p c.args.state.now.here)) (state_of p c.args.state.now)
          (cells_of p c.args.state.now.stack.items) (drop 2 (cells_of p c.args.state.now.stack.items)) n h (c.in-Some.ensures p)
          (sym c.fits.ensures ∙ c.if-fits.true),
      refl,
    )

pub returns-else-fits : goal.returns-else-fits
returns-else-fits c = λ x v place n h.
    let p = x.program.now in (
      [],
      take_overflows c.args.of (value_of c.in-Some.value.now) (at place (here_of p c.args.state.now.here)) (state_of p c.args.state.now)
          (cells_of p c.args.state.now.stack.items) (drop 2 (cells_of p c.args.state.now.stack.items)) n h (c.in-Some.ensures p)
          (sym c.fits.ensures ∙ c.if-fits.false),
      refl,
    )
