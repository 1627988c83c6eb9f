use Rattle.std.proofs.Common.{◌≡◌, ◌∙◌, ◌-◌, ◌*◌, refl, sym, ap, subst, arith}
use Rattle.f3_live_blocks.specs.Blocks.{Live}
use Rattle.f3_rooms.specs.Laws.{without}
use Rattle.f3_word_cells.specs.Does.{HasNoMemory, HasNoRoom}
use Rattle.f3_word_cells.specs.Free.{AreFree}
use Rattle.f3_word_cells.specs.States.{datum_blocks}
use Rattle.f3_word_arrays.proofs.Given.{on-array}
use Rattle.f3_word_arrays.proofs.Arrays.{Gathering, array-apart, array-failed, array-free, array-live, array-lost, array-made, array-short, array-size, array-untyped, array-within, gathering-more, gathering-none}
use Rattle.f3_word_arrays.proofs.building.array.Goals as goal

pub returns-in_default-clause-does : goal.returns-in_default-clause-does
returns-in_default-clause-does g c =
    let m = g.B.Blocks.blocks c.args.heap.now in
    array-untyped c.args.scene.program.now m c.args.state.now c.args.count (HasNoRoom g.B.Blocks.has_room c.args.heap.now) (HasNoMemory g.B.Blocks.allows (g.B.Blocks.kept c.args.heap.now) m) c.as_slice.result.now c.as_slice.ensures.value m c.args.state.now c.in_default.ensures

pub returns-in-Err-clause-does : goal.returns-in-Err-clause-does
returns-in-Err-clause-does g c =
    let p = c.args.scene.program.now in
    let m = g.B.Blocks.blocks c.args.heap.now in
    array-failed p m c.args.state.now c.args.count c.in-Some.of c.words-size.result (array-size p m c.args.state.now c.args.count c.args.scene.types c.requires.scene.types c.in-Some.of c.words-size.result c.words-size.ensures)
    c.as_slice.result.now c.as_slice.ensures.value c.in-Some.ensures
    (HasNoRoom g.B.Blocks.has_room c.args.heap.now) (HasNoMemory g.B.Blocks.allows (g.B.Blocks.kept c.args.heap.now) m) (g.B.Blocks.blocks c.take_room.new.heap) c.in-Err.stop c.args.state.now c.in-Err.ensures.took

pub loop-number-init : goal.loop-number-init
loop-number-init g c =
    let p = c.args.scene.program.now in
    let m = g.B.Blocks.blocks c.args.heap.now in
    record {
      gathering = gathering-none p m c.args.state.now c.args.count c.in-Some.of c.words-size.result (array-size p m c.args.state.now c.args.count c.args.scene.types c.requires.scene.types c.in-Some.of c.words-size.result c.words-size.ensures)
          c.in-Ok.block c.as_slice.result.now c.as_slice.ensures.value _ c.in-Some.ensures c.in-Ok.ensures.took.0 c.in-Ok.ensures.took.1 c.requires.bottom;
      kept = c.in-Ok.ensures.kept;
    }

pub returns-in_default-pop_item-clause-does : goal.returns-in_default-pop_item-clause-does
returns-in_default-pop_item-clause-does g c =
    let p = c.args.scene.program.now in
    let m = g.B.Blocks.blocks c.args.heap.now in
    array-lost p m c.args.state.now c.args.count c.in-Some.of c.words-size.result (array-size p m c.args.state.now c.args.count c.args.scene.types c.requires.scene.types c.in-Some.of c.words-size.result c.words-size.ensures)
    c.in-Ok.block _ c.loop-number.state c.loop-number.number c.loop-number.invariant.gathering c.loop-number-test.true
    (HasNoRoom g.B.Blocks.has_room c.args.heap.now) (HasNoMemory g.B.Blocks.allows (g.B.Blocks.kept c.args.heap.now) m) (g.B.Blocks.blocks c.loop-number.heap) c.pop_item.new.state c.pop_item.new.state c.in_default-pop_item.ensures.taken

pub write_item-requires-clause-live : goal.write_item-requires-clause-live
write_item-requires-clause-live g c =
    let p = c.args.scene.program.now in
    let m = g.B.Blocks.blocks c.args.heap.now in
    let at = c.requires.at in
    let size = array-size p m c.args.state.now c.args.count c.args.scene.types c.requires.scene.types c.in-Some.of c.words-size.result c.words-size.ensures in
    array-live p m c.args.state.now c.args.count c.in-Some.of c.words-size.result size c.in-Ok.block (g.B.Blocks.blocks c.loop-number.heap) c.loop-number.state c.loop-number.number c.loop-number.invariant.gathering c.loop-number-test.true
    c.pop_item.new.state c.in-Some-pop_item.datum c.in-Some-pop_item.ensures.taken ((c.args.count - 1 - c.loop-number.number) * c.words-size.result) refl at.state at.line at.rooms at.told at.there at.act at.stands

pub write_item-requires-clause-apart : goal.write_item-requires-clause-apart
write_item-requires-clause-apart g c =
    let p = c.args.scene.program.now in
    let m = g.B.Blocks.blocks c.args.heap.now in
    let at = c.requires.at in
    let size = array-size p m c.args.state.now c.args.count c.args.scene.types c.requires.scene.types c.in-Some.of c.words-size.result c.words-size.ensures in
    array-apart p m c.args.state.now c.args.count c.in-Some.of c.words-size.result size c.in-Ok.block (g.B.Blocks.blocks c.loop-number.heap) c.loop-number.state c.loop-number.number c.loop-number.invariant.gathering c.loop-number-test.true
    c.pop_item.new.state c.in-Some-pop_item.datum c.in-Some-pop_item.ensures.taken ((c.args.count - 1 - c.loop-number.number) * c.words-size.result) refl at.state at.line at.rooms at.told at.there at.act at.stands

pub write_item-requires-clause-within : goal.write_item-requires-clause-within
write_item-requires-clause-within g c =
    let p = c.args.scene.program.now in
    let m = g.B.Blocks.blocks c.args.heap.now in
    let at = c.requires.at in
    let size = array-size p m c.args.state.now c.args.count c.args.scene.types c.requires.scene.types c.in-Some.of c.words-size.result c.words-size.ensures in
    array-within p m c.args.state.now c.args.count c.in-Some.of c.words-size.result size c.in-Ok.block (g.B.Blocks.blocks c.loop-number.heap) c.loop-number.state c.loop-number.number c.loop-number.invariant.gathering c.loop-number-test.true
    c.pop_item.new.state c.in-Some-pop_item.datum c.in-Some-pop_item.ensures.taken ((c.args.count - 1 - c.loop-number.number) * c.words-size.result) refl at.state at.line at.rooms at.told at.there at.act at.stands

pub let_go_datum-requires : goal.let_go_datum-requires
let_go_datum-requires g c =
    let p = c.args.scene.program.now in
    let m = g.B.Blocks.blocks c.args.heap.now in
    let at = c.requires.at in
    let size = array-size p m c.args.state.now c.args.count c.args.scene.types c.requires.scene.types c.in-Some.of c.words-size.result c.words-size.ensures in
    subst (λ (live : Live). AreFree live (datum_blocks c.in-Some-pop_item.datum)) (sym c.write_item.ensures.written) (array-free p m c.args.state.now c.args.count c.in-Some.of c.words-size.result size c.in-Ok.block (g.B.Blocks.blocks c.loop-number.heap) c.loop-number.state c.loop-number.number c.loop-number.invariant.gathering c.loop-number-test.true
    c.pop_item.new.state c.in-Some-pop_item.datum c.in-Some-pop_item.ensures.taken ((c.args.count - 1 - c.loop-number.number) * c.words-size.result) refl at.state at.line at.rooms at.told at.there at.act at.stands)

pub loop-number-preserved : goal.loop-number-preserved
loop-number-preserved g c =
    let p = c.args.scene.program.now in
    let m = g.B.Blocks.blocks c.args.heap.now in
    let size = array-size p m c.args.state.now c.args.count c.args.scene.types c.requires.scene.types c.in-Some.of c.words-size.result c.words-size.ensures in
    record {
      gathering = gathering-more p m c.args.state.now c.args.count c.in-Some.of c.words-size.result size c.in-Ok.block (g.B.Blocks.blocks c.loop-number.heap) c.loop-number.state c.loop-number.number c.loop-number.invariant.gathering c.loop-number-test.true
          c.pop_item.new.state c.in-Some-pop_item.datum c.in-Some-pop_item.ensures.taken ((c.args.count - 1 - c.loop-number.number) * c.words-size.result) refl (g.B.Blocks.blocks c.let_go_datum.new.heap)
          (c.let_go_datum.ensures.given ∙ ap (without (datum_blocks c.in-Some-pop_item.datum)) c.write_item.ensures.written) c.in-Some-pop_item.ensures.keeps;
      kept = c.let_go_datum.ensures.kept ∙ c.write_item.ensures.kept ∙ c.loop-number.invariant.kept;
    }

pub row_in-requires : goal.row_in-requires
row_in-requires g c =
    let at = c.requires.at in
    array-short c.args.count c.words-size.result (on-array c.args.scene.program.now at.state at.line c.args.count at.told at.there at.act).some c.in-Ok.ensures.took.2

pub returns-clause-does : goal.returns-clause-does
returns-clause-does g c =
    let p = c.args.scene.program.now in
    let m = g.B.Blocks.blocks c.args.heap.now in
    let size = array-size p m c.args.state.now c.args.count c.args.scene.types c.requires.scene.types c.in-Some.of c.words-size.result c.words-size.ensures in
    let all : c.args.count ≡ c.loop-number.number = omega (arith, c.loop-number-test.false, c.loop-number.auto.number-end) in
    array-made p m c.args.state.now c.args.count c.in-Some.of c.words-size.result size c.in-Ok.block
    (HasNoRoom g.B.Blocks.has_room c.args.heap.now) (HasNoMemory g.B.Blocks.allows (g.B.Blocks.kept c.args.heap.now) m) (g.B.Blocks.blocks c.loop-number.heap) c.loop-number.state c.go_on_with.new.self c.row_in.result
    (subst (Gathering p m c.args.state.now c.args.count c.in-Some.of c.words-size.result c.in-Ok.block (g.B.Blocks.blocks c.loop-number.heap) c.loop-number.state) (sym all) c.loop-number.invariant.gathering)
    c.row_in.ensures c.go_on_with.ensures
