use Rattle.std.proofs.Common.{◌≡◌, ap, refl, subst, sym, List}
use Rattle.std.specs.Prelude.{Ok, Err, false, ◌+◌}
use Rattle.f3_live_blocks.specs.Blocks.{Live}
use Rattle.f3_meaning_whole.specs.Shape.{Shape, shapes_of}
use Rattle.f3_code.specs.Exec.{result_at}
use Rattle.f3_program.specs.declared.declarations.Constant.TheVariants as constant
use Rattle.f3_word_cells.specs.Areas.{types_of}
use Rattle.f3_word_cells.specs.Does.{Becomes, BecomesOver, HasNoMemory, HasNoRoom}
use Rattle.f3_word_cells.specs.Moves.{Pushed}
use Rattle.f3_word_cells.specs.declared.cell.Cell.TheVariants as cell
use Rattle.f3_word_cells.specs.declared.cell.Datum.{Datum}
use Rattle.f3_word_cells.specs.declared.cell.Datum.TheVariants as datum
use Rattle.f3_word_results.specs.Copies.{Gives, LiesIn}
use Rattle.f3_word_results.proofs.Resulting.{lies-in, result-fails, result-given, result-lost, scalar-pushed}
use Rattle.f3_word_results.proofs.results.result_of.Goals as goal
use Rattle.f3_word_results.proofs.results.result_of.Goals.{in-None, in-Some+in-Some-local+in-Ok}

pub returns-in_default-clause-does : goal.returns-in_default-clause-does
returns-in_default-clause-does g c = λ t l rooms told there is st.
    absurd (result-lost c.args.scene c.requires.scene (g.B.Blocks.blocks c.args.heap.now) c.args.state.now rooms t l told there c.args.number is st c.in-Some.number c.in-Some.is c.in_default.ensures)

pub value_of-requires-clause-there : goal.value_of-requires-clause-there
value_of-requires-clause-there g c =
    let at = c.requires.at in
    let m = g.B.Blocks.blocks c.args.heap.now in
    subst (λ ts. LiesIn (shapes_of ts) m c.in-Some-local.declared.now c.in-Some-local.area) (sym c.requires.scene.types)
    (lies-in c.args.scene c.requires.scene m c.args.state.now at.rooms at.state at.line at.told at.there c.args.number at.act at.stands c.in-Some.number c.in-Some.is
    c.in-Some-local.declared.now c.in-Some-local.area c.in-Some-local.ensures)

pub returns-in-Err-clause-does : goal.returns-in-Err-clause-does
returns-in-Err-clause-does g c = λ t l rooms told there is st.
    let m = g.B.Blocks.blocks c.args.heap.now in
    let n = g.B.Blocks.blocks c.value_of.new.heap in
    let Full = HasNoRoom g.B.Blocks.has_room c.args.heap.now in
    let Spent = HasNoMemory g.B.Blocks.allows (g.B.Blocks.kept c.args.heap.now) m in
    result-fails c.args.scene c.requires.scene m c.args.state.now rooms t l told there c.args.number is st c.in-Some.number c.in-Some.is
    c.in-Some-local.declared.now c.in-Some-local.area c.in-Some-local.ensures Full Spent n c.in-Err.stop c.args.state.now
    (subst (λ ts. Gives Full Spent (shapes_of ts) m n c.in-Some-local.declared.now c.in-Some-local.area (Err c.in-Err.stop)) c.requires.scene.types c.in-Err.ensures.gives)

pub returns-clause-does : goal.returns-clause-does
returns-clause-does g c = λ t l rooms told there is st.
    let m = g.B.Blocks.blocks c.args.heap.now in
    let Full = HasNoRoom g.B.Blocks.has_room c.args.heap.now in
    let Spent = HasNoMemory g.B.Blocks.allows (g.B.Blocks.kept c.args.heap.now) m in
    let p = c.args.scene.program.now in
    let old = c.args.state.now in
    let new = c.go_on_with.new.self in
    let datum = c.match-number.datum in
    let pushed = c.go_on_with.ensures in
    elim c.match-number.branch [
      | in-None w ↦
          subst (λ h. Becomes p l t (Ok tt) (g.B.Blocks.blocks h) new) (sym w.heap-is)
          (scalar-pushed c.args.scene c.requires.scene m old rooms t l told there c.args.number is st (constant.Truth false) new
          (ap (λ k. result_at k (t.here).level (t.world).store) w.in-None.is)
          (subst (λ d. Pushed (cell.Datum d) (old.pc + 1) old new) w.datum-is pushed))
      | in-Some+in-Some-local+in-Ok w ↦
          subst (λ h. Becomes p l t (Ok tt) (g.B.Blocks.blocks h) new) (sym w.heap-is)
          (result-given c.args.scene c.requires.scene m old rooms t l told there c.args.number is st w.in-Some.number w.in-Some.is
          w.in-Some-local.declared.now w.in-Some-local.area w.in-Some-local.ensures Full Spent (g.B.Blocks.blocks w.value_of.new.heap) w.in-Ok.datum new
          (subst (λ ts. Gives Full Spent (shapes_of ts) m (g.B.Blocks.blocks w.value_of.new.heap) w.in-Some-local.declared.now w.in-Some-local.area (Ok w.in-Ok.datum)) c.requires.scene.types w.in-Ok.ensures.gives)
          (subst (λ d. Pushed (cell.Datum d) (old.pc + 1) old new) w.datum-is pushed))
    ]
