use Rattle.std.proofs.Common.{◌≡◌, ◌∙◌, ◌≤◌, inl, inr, ap, arith, length, refl, rules, subst, sym}
use Rattle.std.specs.Prelude.{Ok, Err, false}
use Rattle.f3_live_blocks.specs.Blocks.{words_of}
use Rattle.f3_word_cells.specs.Does.{HasNoMemory, HasNoRoom, Keeps}
use Rattle.f3_word_structures.proofs.Emptying.{emptying-free, emptying-lost, emptying-more, emptying-none, keeps-same}
use Rattle.f3_word_structures.proofs.Given.{on-structure}
use Rattle.f3_word_structures.proofs.Popping.{Went}
use Rattle.f3_word_structures.proofs.Seen.{apart-seen, blank-seen, fit-seen, given-tops, in-types, looked-fails, looked-well, size-asked, whole-seen, written-seen}
use Rattle.f3_word_structures.proofs.Structures.{enough, no-room, structure-made, went-none}
use Rattle.f3_word_structures.proofs.building.structure.Goals as goal

pub index-requires : goal.index-requires
index-requires g c =
    let at = c.requires.at in
    let within = in-types c.args.scene.program.now (g.B.Blocks.blocks c.args.heap.now) c.args.state.now c.args.of c.args.count at.state at.line at.rooms at.told at.there at.act at.stands in
    search rules

pub overflow_sub-first : goal.overflow_sub-first
overflow_sub-first g c =
    let at = c.requires.at in
    let e = enough c.args.scene.program.now (g.B.Blocks.blocks c.args.heap.now) c.args.state.now c.args.of c.args.count at.state at.line at.rooms at.told at.there at.act at.stands (length c.deref-cells.result.now) (ap length c.deref-cells.ensures.value) in
    let same = ap length c.deref-cells.ensures.value in
    omega (arith, e, same)

pub check-requires-clause-given : goal.check-requires-clause-given
check-requires-clause-given g c =
    let at = c.requires.at in
    (c.args.scene.program.now, _, given-tops c.args.scene.program.now (g.B.Blocks.blocks c.args.heap.now) c.args.state.now c.args.of c.args.count at.state at.line at.rooms at.told at.there at.act at.stands c.args.scene.types c.requires.scene.types (length c.deref-cells.result.now) (ap length c.deref-cells.ensures.value) c.index.result.now c.index.ensures c.deref-components.result.now c.deref-components.ensures.value c.deref-cells.result.now c.deref-cells.ensures.value)

pub returns-in-Err-clause-does : goal.returns-in-Err-clause-does
returns-in-Err-clause-does g c =
    λ t l x told there is st.
    let m = g.B.Blocks.blocks c.args.heap.now in
    let Full = HasNoRoom g.B.Blocks.has_room c.args.heap.now in
    let Spent = HasNoMemory g.B.Blocks.allows (g.B.Blocks.kept c.args.heap.now) m in
    looked-fails c.args.scene.program.now (g.B.Blocks.blocks c.args.heap.now) c.args.state.now c.args.of c.args.count t l x told there is st c.args.scene.types c.requires.scene.types (length c.deref-cells.result.now) (ap length c.deref-cells.ensures.value) c.index.result.now c.index.ensures c.deref-components.result.now c.deref-components.ensures.value c.deref-cells.result.now c.deref-cells.ensures.value Full Spent m c.args.state.now c.in-Err.error c.in-Err.ensures

pub returns-in-Err-Full-clause-does : goal.returns-in-Err-Full-clause-does
returns-in-Err-Full-clause-does g c =
    λ t l x told there is st.
    let checked = looked-well c.args.scene.program.now (g.B.Blocks.blocks c.args.heap.now) c.args.state.now c.args.of c.args.count t l x told there is st c.args.scene.types c.requires.scene.types (length c.deref-cells.result.now) (ap length c.deref-cells.ensures.value) c.index.result.now c.index.ensures c.deref-components.result.now c.deref-components.ensures.value c.deref-cells.result.now c.deref-cells.ensures.value c.in-Ok.field-0 c.in-Ok.ensures in (
      no-room c.args.scene.program.now (g.B.Blocks.blocks c.args.heap.now) c.args.state.now c.args.of c.args.count t l x told there is st checked (length c.deref-cells.result.now) (ap length c.deref-cells.ensures.value),
      subst (λ k. g.B.Blocks.has_room c.args.heap.now k ≡ false) (size-asked c.args.scene.program.now (g.B.Blocks.blocks c.args.heap.now) c.args.state.now c.args.of c.args.count t l x told there is st c.args.scene.types c.requires.scene.types c.words.result c.words.ensures c.words.type_inv).1 (c.in-Err-Full.ensures.full.0 (ap Err c.in-Err-Full.field-0-is)),
    )

pub write_components-requires-clause-fit : goal.write_components-requires-clause-fit
write_components-requires-clause-fit g c =
    let at = c.requires.at in
    let checked = looked-well c.args.scene.program.now (g.B.Blocks.blocks c.args.heap.now) c.args.state.now c.args.of c.args.count at.state at.line at.rooms at.told at.there at.act at.stands c.args.scene.types c.requires.scene.types (length c.deref-cells.result.now) (ap length c.deref-cells.ensures.value) c.index.result.now c.index.ensures c.deref-components.result.now c.deref-components.ensures.value c.deref-cells.result.now c.deref-cells.ensures.value c.in-Ok.field-0 c.in-Ok.ensures in
    fit-seen c.args.scene.program.now (g.B.Blocks.blocks c.args.heap.now) c.args.state.now c.args.of c.args.count at.state at.line at.rooms at.told at.there at.act at.stands c.args.scene.types c.requires.scene.types (length c.deref-cells.result.now) (ap length c.deref-cells.ensures.value) c.index.result.now c.index.ensures c.deref-components.result.now c.deref-components.ensures.value c.deref-cells.result.now c.deref-cells.ensures.value checked c.in-Ok-take.block c.words.result (g.B.Blocks.blocks c.take.new.self) c.in-Ok-take.ensures.fresh ((size-asked c.args.scene.program.now (g.B.Blocks.blocks c.args.heap.now) c.args.state.now c.args.of c.args.count at.state at.line at.rooms at.told at.there at.act at.stands c.args.scene.types c.requires.scene.types c.words.result c.words.ensures c.words.type_inv).0) c.in-Ok-take.ensures.taken

pub write_components-requires-clause-blank : goal.write_components-requires-clause-blank
write_components-requires-clause-blank g c =
    let at = c.requires.at in
    let checked = looked-well c.args.scene.program.now (g.B.Blocks.blocks c.args.heap.now) c.args.state.now c.args.of c.args.count at.state at.line at.rooms at.told at.there at.act at.stands c.args.scene.types c.requires.scene.types (length c.deref-cells.result.now) (ap length c.deref-cells.ensures.value) c.index.result.now c.index.ensures c.deref-components.result.now c.deref-components.ensures.value c.deref-cells.result.now c.deref-cells.ensures.value c.in-Ok.field-0 c.in-Ok.ensures in
    blank-seen c.args.scene.program.now (g.B.Blocks.blocks c.args.heap.now) c.args.state.now c.args.of c.args.count at.state at.line at.rooms at.told at.there at.act at.stands c.args.scene.types c.requires.scene.types (length c.deref-cells.result.now) (ap length c.deref-cells.ensures.value) c.index.result.now c.index.ensures c.deref-components.result.now c.deref-components.ensures.value c.deref-cells.result.now c.deref-cells.ensures.value checked c.in-Ok-take.block c.words.result (g.B.Blocks.blocks c.take.new.self) c.in-Ok-take.ensures.fresh ((size-asked c.args.scene.program.now (g.B.Blocks.blocks c.args.heap.now) c.args.state.now c.args.of c.args.count at.state at.line at.rooms at.told at.there at.act at.stands c.args.scene.types c.requires.scene.types c.words.result c.words.ensures c.words.type_inv).0) c.in-Ok-take.ensures.taken

pub write_components-requires-clause-apart : goal.write_components-requires-clause-apart
write_components-requires-clause-apart g c =
    let at = c.requires.at in
    let checked = looked-well c.args.scene.program.now (g.B.Blocks.blocks c.args.heap.now) c.args.state.now c.args.of c.args.count at.state at.line at.rooms at.told at.there at.act at.stands c.args.scene.types c.requires.scene.types (length c.deref-cells.result.now) (ap length c.deref-cells.ensures.value) c.index.result.now c.index.ensures c.deref-components.result.now c.deref-components.ensures.value c.deref-cells.result.now c.deref-cells.ensures.value c.in-Ok.field-0 c.in-Ok.ensures in
    apart-seen c.args.scene.program.now (g.B.Blocks.blocks c.args.heap.now) c.args.state.now c.args.of c.args.count at.state at.line at.rooms at.told at.there at.act at.stands c.args.scene.types c.requires.scene.types (length c.deref-cells.result.now) (ap length c.deref-cells.ensures.value) c.index.result.now c.index.ensures c.deref-components.result.now c.deref-components.ensures.value c.deref-cells.result.now c.deref-cells.ensures.value checked c.in-Ok-take.block c.words.result (g.B.Blocks.blocks c.take.new.self) c.in-Ok-take.ensures.fresh ((size-asked c.args.scene.program.now (g.B.Blocks.blocks c.args.heap.now) c.args.state.now c.args.of c.args.count at.state at.line at.rooms at.told at.there at.act at.stands c.args.scene.types c.requires.scene.types c.words.result c.words.ensures c.words.type_inv).0) c.in-Ok-take.ensures.taken

pub write_components-requires-clause-whole : goal.write_components-requires-clause-whole
write_components-requires-clause-whole g c =
    let at = c.requires.at in
    let checked = looked-well c.args.scene.program.now (g.B.Blocks.blocks c.args.heap.now) c.args.state.now c.args.of c.args.count at.state at.line at.rooms at.told at.there at.act at.stands c.args.scene.types c.requires.scene.types (length c.deref-cells.result.now) (ap length c.deref-cells.ensures.value) c.index.result.now c.index.ensures c.deref-components.result.now c.deref-components.ensures.value c.deref-cells.result.now c.deref-cells.ensures.value c.in-Ok.field-0 c.in-Ok.ensures in
    whole-seen c.args.scene.program.now (g.B.Blocks.blocks c.args.heap.now) c.args.state.now c.args.of c.args.count at.state at.line at.rooms at.told at.there at.act at.stands c.args.scene.types c.requires.scene.types (length c.deref-cells.result.now) (ap length c.deref-cells.ensures.value) c.index.result.now c.index.ensures c.deref-components.result.now c.deref-components.ensures.value c.deref-cells.result.now c.deref-cells.ensures.value checked c.in-Ok-take.block c.words.result (g.B.Blocks.blocks c.take.new.self) c.in-Ok-take.ensures.fresh ((size-asked c.args.scene.program.now (g.B.Blocks.blocks c.args.heap.now) c.args.state.now c.args.of c.args.count at.state at.line at.rooms at.told at.there at.act at.stands c.args.scene.types c.requires.scene.types c.words.result c.words.ensures c.words.type_inv).0) c.in-Ok-take.ensures.taken

pub loop-each-init : goal.loop-each-init
loop-each-init g c =
    let then = g.B.Blocks.blocks c.write_components.new.heap in
    record {
      emptying = emptying-none c.args.scene.program.now (g.B.Blocks.blocks c.args.heap.now) c.args.state.now c.args.of c.args.count c.in-Ok-take.block (words_of then c.in-Ok-take.block) then c.requires.bottom (λ t l x told there is st.
          let checked = looked-well c.args.scene.program.now (g.B.Blocks.blocks c.args.heap.now) c.args.state.now c.args.of c.args.count t l x told there is st c.args.scene.types c.requires.scene.types (length c.deref-cells.result.now) (ap length c.deref-cells.ensures.value) c.index.result.now c.index.ensures c.deref-components.result.now c.deref-components.ensures.value c.deref-cells.result.now c.deref-cells.ensures.value c.in-Ok.field-0 c.in-Ok.ensures in
          let sized = (size-asked c.args.scene.program.now (g.B.Blocks.blocks c.args.heap.now) c.args.state.now c.args.of c.args.count t l x told there is st c.args.scene.types c.requires.scene.types c.words.result c.words.ensures c.words.type_inv).0 in
          went-none c.args.scene.program.now (g.B.Blocks.blocks c.args.heap.now) c.args.state.now c.args.of c.args.count t l x told there is st checked (length c.deref-cells.result.now) (ap length c.deref-cells.ensures.value) c.in-Ok-take.block c.words.result (g.B.Blocks.blocks c.take.new.self) c.in-Ok-take.ensures.fresh sized c.in-Ok-take.ensures.taken then
          (written-seen c.args.scene.program.now (g.B.Blocks.blocks c.args.heap.now) c.args.state.now c.args.of c.args.count t l x told there is st c.args.scene.types c.requires.scene.types (length c.deref-cells.result.now) (ap length c.deref-cells.ensures.value) c.index.result.now c.index.ensures c.deref-components.result.now c.deref-components.ensures.value c.deref-cells.result.now c.deref-cells.ensures.value checked c.in-Ok-take.block c.words.result (g.B.Blocks.blocks c.take.new.self) c.in-Ok-take.ensures.fresh sized c.in-Ok-take.ensures.taken then c.write_components.ensures.written));
      kept = c.write_components.ensures.kept ∙ c.in-Ok-take.ensures.kept;
    }

pub returns-in_default-clause-does : goal.returns-in_default-clause-does
returns-in_default-clause-does g c =
    let m = g.B.Blocks.blocks c.args.heap.now in
    emptying-lost c.args.scene.program.now (g.B.Blocks.blocks c.args.heap.now) c.args.state.now c.args.of c.args.count c.in-Ok-take.block (words_of (g.B.Blocks.blocks c.write_components.new.heap) c.in-Ok-take.block) (g.B.Blocks.blocks c.loop-each.heap) c.loop-each.state c.loop-each._each c.loop-each.invariant.emptying c.loop-each-test.true (HasNoRoom g.B.Blocks.has_room c.args.heap.now) (HasNoMemory g.B.Blocks.allows (g.B.Blocks.kept c.args.heap.now) m)
    (g.B.Blocks.blocks c.loop-each.heap) c.pop.new.self c.pop.new.self c.in_default.ensures

pub returns-in_default-clause-keeps : goal.returns-in_default-clause-keeps
returns-in_default-clause-keeps g c =
    subst (Keeps c.args.state.now) (sym c.in_default.ensures.1) c.loop-each.invariant.emptying.keeps

pub returns-in_default-clause-kept : goal.returns-in_default-clause-kept
returns-in_default-clause-kept g c =
    inr c.loop-each.invariant.kept

pub let_go-requires : goal.let_go-requires
let_go-requires g c =
    let at = c.requires.at in
    emptying-free c.args.scene.program.now (g.B.Blocks.blocks c.args.heap.now) c.args.state.now c.args.of c.args.count c.in-Ok-take.block (words_of (g.B.Blocks.blocks c.write_components.new.heap) c.in-Ok-take.block) (g.B.Blocks.blocks c.loop-each.heap) c.loop-each.state c.loop-each._each c.loop-each.invariant.emptying c.loop-each-test.true c.pop.new.self c.in-Some.cell c.in-Some.ensures at.state at.line at.rooms at.told at.there at.act at.stands

pub loop-each-preserved : goal.loop-each-preserved
loop-each-preserved g c =
    record {
      emptying = emptying-more c.args.scene.program.now (g.B.Blocks.blocks c.args.heap.now) c.args.state.now c.args.of c.args.count c.in-Ok-take.block (words_of (g.B.Blocks.blocks c.write_components.new.heap) c.in-Ok-take.block) (g.B.Blocks.blocks c.loop-each.heap) c.loop-each.state c.loop-each._each c.loop-each.invariant.emptying c.loop-each-test.true c.pop.new.self c.in-Some.cell c.in-Some.ensures (g.B.Blocks.blocks c.let_go.new.heap) c.let_go.ensures.given;
      kept = c.let_go.ensures.kept ∙ c.loop-each.invariant.kept;
    }

pub go_on_with-requires-clause-pc : goal.go_on_with-requires-clause-pc
go_on_with-requires-clause-pc g c =
    let e = c.loop-each.invariant.emptying.pc in
    let pc = c.requires.pc in
    omega (arith, e, pc)

pub go_on_with-requires-clause-room : goal.go_on_with-requires-clause-room
go_on_with-requires-clause-room g c =
    let fewer = c.loop-each.invariant.emptying.fewer in
    let room = c.requires.room in
    let same = c.loop-each.invariant.emptying.keeps.cells in
    omega (arith, fewer, room, same)

pub go_on_with-requires-clause-bottom : goal.go_on_with-requires-clause-bottom
go_on_with-requires-clause-bottom g c =
    c.loop-each.invariant.emptying.bottom

pub returns-clause-does : goal.returns-clause-does
returns-clause-does g c =
    λ t l x told there is st.
    let past = c.loop-each-test.false in
    let end = c.loop-each.auto._each-end in
    let all : c.loop-each._each ≡ c.args.count = omega (arith, past, end) in
    let then = g.B.Blocks.blocks c.write_components.new.heap in
    let checked = looked-well c.args.scene.program.now (g.B.Blocks.blocks c.args.heap.now) c.args.state.now c.args.of c.args.count t l x told there is st c.args.scene.types c.requires.scene.types (length c.deref-cells.result.now) (ap length c.deref-cells.ensures.value) c.index.result.now c.index.ensures c.deref-components.result.now c.deref-components.ensures.value c.deref-cells.result.now c.deref-cells.ensures.value c.in-Ok.field-0 c.in-Ok.ensures in
    let sized = (size-asked c.args.scene.program.now (g.B.Blocks.blocks c.args.heap.now) c.args.state.now c.args.of c.args.count t l x told there is st c.args.scene.types c.requires.scene.types c.words.result c.words.ensures c.words.type_inv).0 in
    let emptying = c.loop-each.invariant.emptying in
    structure-made c.args.scene.program.now (g.B.Blocks.blocks c.args.heap.now) c.args.state.now c.args.of c.args.count t l x told there is st checked (length c.deref-cells.result.now) (ap length c.deref-cells.ensures.value) c.in-Ok-take.block c.words.result (g.B.Blocks.blocks c.take.new.self) c.in-Ok-take.ensures.fresh sized c.in-Ok-take.ensures.taken then
    (written-seen c.args.scene.program.now (g.B.Blocks.blocks c.args.heap.now) c.args.state.now c.args.of c.args.count t l x told there is st c.args.scene.types c.requires.scene.types (length c.deref-cells.result.now) (ap length c.deref-cells.ensures.value) c.index.result.now c.index.ensures c.deref-components.result.now c.deref-components.ensures.value c.deref-cells.result.now c.deref-cells.ensures.value checked c.in-Ok-take.block c.words.result (g.B.Blocks.blocks c.take.new.self) c.in-Ok-take.ensures.fresh sized c.in-Ok-take.ensures.taken then c.write_components.ensures.written)
    (g.B.Blocks.blocks c.loop-each.heap) c.loop-each.state c.go_on_with.new.self c.object_in.result
    (subst (Went c.args.scene.program.now t c.args.of c.args.count (on-structure c.args.scene.program.now t l c.args.of c.args.count told there is) c.args.state.now x c.in-Ok-take.block
    (words_of then c.in-Ok-take.block) (g.B.Blocks.blocks c.loop-each.heap) c.loop-each.state) all (emptying.so t l x told there is st))
    c.object_in.ensures emptying.pc c.go_on_with.ensures

pub returns-clause-keeps : goal.returns-clause-keeps
returns-clause-keeps g c =
    keeps-same c.args.state.now c.loop-each.state c.go_on_with.new.self c.loop-each.invariant.emptying.keeps c.go_on_with.ensures.same

pub returns-clause-kept : goal.returns-clause-kept
returns-clause-kept g c =
    inr c.loop-each.invariant.kept
