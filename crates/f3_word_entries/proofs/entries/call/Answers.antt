use Rattle.std.proofs.Common.{rules, refl, false, sym, ap, subst, ◌≡◌, ◌∙◌, ◌<◌, ◌≤◌, length, arith}
use Rattle.std.specs.Prelude.{Err, Some, slice_get, slice_index_or}
use Rattle.f3_heap_laws.specs.Answers.{Memory, sizes}
use Rattle.f3_heap.specs.Answers.{answer_of}
use Rattle.f3_heap.specs.declared.blocks.TakeFault.{TakeFault}
use Rattle.f3_meaning_whole.specs.Exec.{declared_in}
use Rattle.f3_cell_kinds.proofs.Asked.{some_same}
use Rattle.f3_room_levels.specs.Levels.{Begins}
use Rattle.f3_word_entries.specs.Entered.{Entered}
use Rattle.f3_word_entries.proofs.Asking.{asks_words}
use Rattle.f3_word_entries.proofs.Calling.{call_of, cells_enough, deep, dummies_many, follows, procedure_there, refused, starts}
use Rattle.f3_word_entries.proofs.Counted.{get_below}
use Rattle.f3_word_entries.proofs.Sources.{can, got, long, same_shapes}
use Rattle.f3_word_entries.proofs.entries.call.Goals as goal

pub returns-then-len-ge1000-clause-does : goal.returns-then-len-ge1000-clause-does
returns-then-len-ge1000-clause-does g c = λ t l rooms told line act placed st.
    let p = c.args.scene.program.now in
    let q = procedure_there p t l c.args.number c.args.count told line act in
    let more : 1000 ≤ length c.args.state.now.callers.items.items =
    (let e = c.args.state.now.callers.items.ok.0 in let f = c.len.ensures in let h = c.if-len-ge1000.true in omega (arith, e, f, h)) in
    deep p t l c.args.number c.args.count q.0 q.1 told act (call_of p t l c.args.number c.args.count q.0 q.1 told line act) (g.B.Blocks.blocks c.args.heap.now) c.args.state.now
    rooms st more

pub index-procedure-requires : goal.index-procedure-requires
index-procedure-requires g c =
    let at = c.requires.at in
    let q = procedure_there c.args.scene.program.now at.state at.line c.args.number c.args.count at.told at.there at.act in
    let less : c.args.number < length c.args.scene.program.now.procedures.items = get_below c.args.scene.program.now.procedures.items c.args.number q.0 q.1 in
    let len = c.args.scene.program.now.procedures.ok.0 in
    omega (arith, less, len)

pub offset_bounds-scene-number : goal.offset_bounds-scene-number
offset_bounds-scene-number g c =
    let at = c.requires.at in
    let q = procedure_there c.args.scene.program.now at.state at.line c.args.number c.args.count at.told at.there at.act in
    let less : c.args.number < length c.args.scene.program.now.procedures.items = get_below c.args.scene.program.now.procedures.items c.args.number q.0 q.1 in
    let many = c.requires.scene.count in
    let within : c.args.number < length c.args.scene.procedures.now = omega (arith, less, many) in
    search rules

pub bounds-scene-number : goal.bounds-scene-number
bounds-scene-number g c =
    let at = c.requires.at in
    let q = procedure_there c.args.scene.program.now at.state at.line c.args.number c.args.count at.told at.there at.act in
    let less : c.args.number < length c.args.scene.program.now.procedures.items = get_below c.args.scene.program.now.procedures.items c.args.number q.0 q.1 in
    let many = c.requires.scene.count in
    omega (arith, less, many)

pub begin_variables-requires-clause-fit : goal.begin_variables-requires-clause-fit
begin_variables-requires-clause-fit g c =
    let at = c.requires.at in
    let p = c.args.scene.program.now in
    let r = procedure_there p at.state at.line c.args.number c.args.count at.told at.there at.act in
    let q = c.index-procedure.result.now in
    let less : c.args.number < length p.procedures.items = get_below p.procedures.items c.args.number r.0 r.1 in
    let there = got p.procedures.items c.args.number q q less c.index-procedure.ensures in
    let many = c.requires.scene.count in
    can c.args.scene c.requires.scene c.args.number q there c.index-scene-number.result (omega (arith, less, many)) c.index-scene-number.is

pub begin_variables-requires-clause-long : goal.begin_variables-requires-clause-long
begin_variables-requires-clause-long g c =
    let at = c.requires.at in
    let p = c.args.scene.program.now in
    let r = procedure_there p at.state at.line c.args.number c.args.count at.told at.there at.act in
    let q = c.index-procedure.result.now in
    let less : c.args.number < length p.procedures.items = get_below p.procedures.items c.args.number r.0 r.1 in
    let there = got p.procedures.items c.args.number q q less c.index-procedure.ensures in
    let many = c.requires.scene.count in
    long c.args.scene c.requires.scene c.args.number q there c.index-scene-number.result (omega (arith, less, many)) c.index-scene-number.is

pub returns-in-Err-Full-clause-does : goal.returns-in-Err-Full-clause-does
returns-in-Err-Full-clause-does g c = λ t l rooms told line act placed st.
    let p = c.args.scene.program.now in
    let r = procedure_there p t l c.args.number c.args.count told line act in
    let q = c.index-procedure.result.now in
    let less : c.args.number < length p.procedures.items = get_below p.procedures.items c.args.number r.0 r.1 in
    let there = got p.procedures.items c.args.number q q less c.index-procedure.ensures in
    let call = call_of p t l c.args.number c.args.count q there told line act in
    let few : length c.args.state.now.callers.items.items < 1000 =
    (let e = c.args.state.now.callers.items.ok.0 in let f = c.len.ensures in let h = c.if-len-ge1000.false in omega (arith, e, f, h)) in
    let s = starts p c.args.scene.emission.now c.args.number q t there told c.requires.scene.code in
    let many = c.requires.scene.count in
    let whole = asks_words c.args.scene c.requires.scene t l c.args.number c.args.count q there told act call (g.B.Blocks.blocks c.args.heap.now) c.args.state.now rooms st few s.0 s.1
    c.index-scene-number.result (omega (arith, less, many)) c.index-scene-number.is _ refl (search rules) in (
      refused p t l c.args.number c.args.count q there told act call (g.B.Blocks.blocks c.args.heap.now)
          c.args.state.now rooms st few c.args.scene.emission.now c.requires.scene.code s.0 s.1,
      subst (λ k. g.B.Blocks.has_room c.args.heap.now k ≡ false) whole (c.in-Err-Full.ensures.full (ap Err c.in-Err-Full.field-0-is)),
    )

pub returns-in-Err-Memory-clause-does : goal.returns-in-Err-Memory-clause-does
returns-in-Err-Memory-clause-does g c = λ t l rooms told line act placed st.
    let p = c.args.scene.program.now in
    let r = procedure_there p t l c.args.number c.args.count told line act in
    let q = c.index-procedure.result.now in
    let less : c.args.number < length p.procedures.items = get_below p.procedures.items c.args.number r.0 r.1 in
    let there = got p.procedures.items c.args.number q q less c.index-procedure.ensures in
    let call = call_of p t l c.args.number c.args.count q there told line act in
    let few : length c.args.state.now.callers.items.items < 1000 =
    (let e = c.args.state.now.callers.items.ok.0 in let f = c.len.ensures in let h = c.if-len-ge1000.false in omega (arith, e, f, h)) in
    let s = starts p c.args.scene.emission.now c.args.number q t there told c.requires.scene.code in
    let many = c.requires.scene.count in
    let whole = asks_words c.args.scene c.requires.scene t l c.args.number c.args.count q there told act call (g.B.Blocks.blocks c.args.heap.now) c.args.state.now rooms st few s.0 s.1
    c.index-scene-number.result (omega (arith, less, many)) c.index-scene-number.is _ refl (search rules) in
    let old = g.B.Blocks.blocks c.args.heap.now in
    subst (λ k. g.B.Blocks.allows (g.B.Blocks.kept c.args.heap.now) (sizes old) k Memory) whole
    (subst (λ (f : TakeFault). g.B.Blocks.allows (g.B.Blocks.kept c.args.heap.now) (sizes old) (slice_index_or c.args.scene.procedures.now c.args.number c.index-scene-number.result).words (answer_of (Err f)))
    c.in-Err-Memory.field-0-is c.in-Err-Memory.ensures.allowed)

pub index-requires : goal.index-requires
index-requires g c =
    let at = c.requires.at in
    let p = c.args.scene.program.now in
    let r = procedure_there p at.state at.line c.args.number c.args.count at.told at.there at.act in
    let s = starts p c.args.scene.emission.now c.args.number r.0 at.state r.1 at.told c.requires.scene.code in
    let less = get_below c.args.scene.emission.now.procedures.items c.args.number s.0 s.1.line in
    let len = c.args.scene.emission.now.procedures.ok.0 in
    omega (arith, less, len)

pub enter-requires-clause-arguments : goal.enter-requires-clause-arguments
enter-requires-clause-arguments g c =
    let at = c.requires.at in
    let p = c.args.scene.program.now in
    let r = procedure_there p at.state at.line c.args.number c.args.count at.told at.there at.act in
    cells_enough p at.state at.line c.args.number c.args.count r.0 r.1 at.told at.act
    (call_of p at.state at.line c.args.number c.args.count r.0 r.1 at.told at.there at.act) (g.B.Blocks.blocks c.args.heap.now) c.args.state.now at.rooms at.stands

pub enter-requires-clause-names : goal.enter-requires-clause-names
enter-requires-clause-names g c =
    let at = c.requires.at in
    let p = c.args.scene.program.now in
    let r = procedure_there p at.state at.line c.args.number c.args.count at.told at.there at.act in
    let q = c.index-procedure.result.now in
    let there = got p.procedures.items c.args.number q q (get_below p.procedures.items c.args.number r.0 r.1) c.index-procedure.ensures in
    let many = dummies_many p at.state at.line c.args.number c.args.count q there at.told at.act
    (call_of p at.state at.line c.args.number c.args.count q there at.told at.there at.act) in
    let room = c.requires.names in
    omega (arith, many, room)

pub returns-clause-does : goal.returns-clause-does
returns-clause-does g c = λ t l rooms told line act placed st.
    let p = c.args.scene.program.now in
    let m = g.B.Blocks.blocks c.args.heap.now in
    let n = g.B.Blocks.blocks c.begin_variables.new.heap in
    let r = procedure_there p t l c.args.number c.args.count told line act in
    let q = c.index-procedure.result.now in
    let there = got p.procedures.items c.args.number q q (get_below p.procedures.items c.args.number r.0 r.1) c.index-procedure.ensures in
    let call = call_of p t l c.args.number c.args.count q there told line act in
    let few : length c.args.state.now.callers.items.items < 1000 =
    (let e = c.args.state.now.callers.items.ok.0 in let f = c.len.ensures in let h = c.if-len-ge1000.false in omega (arith, e, f, h)) in
    let s = starts p c.args.scene.emission.now c.args.number q t there told c.requires.scene.code in
    let ks = c.args.scene.emission.now.procedures.items in
    let found : slice_get ks c.args.number ≡ Some c.index.result.now =
    got ks c.args.number c.index.result.now c.index.result.now (get_below ks c.args.number s.0 s.1.line) c.index.ensures in
    let same : c.index.result.now ≡ s.0 = some_same (sym found ∙ s.1.line) in
    let words = (slice_index_or c.args.scene.procedures.now c.args.number c.index-scene-number.result).words in
    follows p t l c.args.number c.args.count q there told act call m c.args.state.now rooms st few c.args.scene.emission.now c.requires.scene.code s.0 s.1
    p.types.alloc c.args.place placed n c.enter.new.state c.in-Ok.block words
    (subst (λ k. Entered q c.args.number k c.args.count c.in-Ok.block c.args.place c.args.state.now c.enter.new.state) same c.enter.ensures.entered)
    (subst (λ ts. Begins ts m n (declared_in q) words c.in-Ok.block) (same_shapes c.args.scene c.requires.scene c.args.number q there) c.in-Ok.ensures.begun) s.2
