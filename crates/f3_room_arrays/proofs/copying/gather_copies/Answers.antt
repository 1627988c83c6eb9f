use Rattle.std.proofs.Common.{◌≡◌, ◌∙◌, sym, ap, subst, ℕ, ◌+◌, ◌*◌, ◌<◌, ◌≤◌, length, List, arith}
use Rattle.std.specs.Prelude.{pos, ◌+ℤ◌}
use Rattle.std.proofs.Math.Nat.{mul-le-mul_right}
use Rattle.f3_desc.specs.declared.descriptor.Dim.{Dim}
use Rattle.f3_desc.specs.Descriptor.{places}
use Rattle.f3_desc.specs.Inner.Congruent.{IsCongruent}
use Rattle.f3_desc.specs.Laws.{size_of}
use Rattle.f3_desc.specs.Layout.{pieces_of}
use Rattle.f3_desc.specs.Shape.{whole, width}
use Rattle.f3_room_arrays.specs.Elements.{StandsAt}
use Rattle.f3_room_arrays.specs.Inner.Numbers.{away}
use Rattle.f3_room_arrays.proofs.Numbers.{places-many}
use Rattle.f3_room_arrays.proofs.Objects.{zip-length}
use Rattle.f3_room_arrays.proofs.Rows.{gathered-none, gathered-all, row-holds, row-unpinned, all-back}
use Rattle.f3_room_arrays.proofs.Steps.{on-ok-when, on-err-when, on-err-anyway, step-ready, step-more, step-spoiled, row-room}
use Rattle.f3_room_arrays.proofs.copying.gather_copies.Goals as goal

pub size-number-end-requires : goal.size-number-end-requires
size-number-end-requires g c =
    let a = c.args.elements.now in
    let same : size_of c.as_slice-dims.result.now ≡ size_of a.dims.items = ap size_of c.as_slice-dims.ensures.value in
    let many = places-many (pos a.offset) a.dims.items in
    let few = c.requires.few in
    omega arith

pub loop-number-init : goal.loop-number-init
loop-number-init g c ts x s ps are = gathered-none ts (g.B.Blocks.blocks c.args.heap.now) x c.args.elements.now s ps (whole (pieces_of c.args.layout.now)) c.args.to c.args.to_at are c.requires.live

pub overflow_mul-place : goal.overflow_mul-place
overflow_mul-place g c =
    let a = c.args.elements.now in
    let w : ℕ = width (whole (pieces_of c.args.layout.now)) in
    let number : c.loop-number.number < size_of a.dims.items = omega (arith, c.loop-number-test.true, c.size-number-end.ensures, ap size_of c.as_slice-dims.ensures.value) in
    let many = places-many (pos a.offset) a.dims.items in
    let le : c.loop-number.number * w ≤ length (places a) * w = mul-le-mul_right w (omega arith) in
    let same : c.loop-number.number * c.words-words.result ≡ c.loop-number.number * w = ap (λ (k : ℕ). c.loop-number.number * k) c.words-words.ensures in
    let room = c.requires.room in
    let size = c.length.ensures in
    let small = c.length.type_inv in
    omega arith

pub overflow_add-place : goal.overflow_add-place
overflow_add-place g c =
    let a = c.args.elements.now in
    let w : ℕ = width (whole (pieces_of c.args.layout.now)) in
    let number : c.loop-number.number < size_of a.dims.items = omega (arith, c.loop-number-test.true, c.size-number-end.ensures, ap size_of c.as_slice-dims.ensures.value) in
    let many = places-many (pos a.offset) a.dims.items in
    let le : c.loop-number.number * w ≤ length (places a) * w = mul-le-mul_right w (omega arith) in
    let same : c.loop-number.number * c.words-words.result ≡ c.loop-number.number * w = ap (λ (k : ℕ). c.loop-number.number * k) c.words-words.ensures in
    let room = c.requires.room in
    let size = c.length.ensures in
    let small = c.length.type_inv in
    omega arith

pub copy_element-copied-requires : goal.copy_element-copied-requires
copy_element-copied-requires g c =
    let old = g.B.Blocks.blocks c.args.heap.now in
    let a = c.args.elements.now in
    let o = c.requires.objects in
    let number : c.loop-number.number < size_of a.dims.items = omega (arith, c.loop-number-test.true, c.size-number-end.ensures, ap size_of c.as_slice-dims.ensures.value) in
    let near = subst (λ (ds : List Dim). IsCongruent (pos c.further-at.result) (pos a.offset +ℤ away ds c.loop-number.number)) c.as_slice-dims.ensures.value c.further-at.ensures in
    let size = c.length-2.ensures in
    let small = c.length-2.type_inv in
    let place = ap (λ (k : ℕ). c.args.to_at + c.loop-number.number * k) c.words-words.ensures in
    step-ready o.0 old o.1 a o.2 o.3 (whole (pieces_of c.args.layout.now)) c.args.to c.args.to_at o.4 c.requires.live c.requires.within.inside (omega arith) c.requires.room
    (g.B.Blocks.blocks c.loop-number.heap) c.loop-number.number (c.loop-number.invariant o.0 o.1 o.2 o.3 o.4) number c.further-at.result _ near c.further-at.type_inv place

pub loop-number-preserved : goal.loop-number-preserved
loop-number-preserved g c ts x s ps are =
    let old = g.B.Blocks.blocks c.args.heap.now in
    let a = c.args.elements.now in
    let number : c.loop-number.number < size_of a.dims.items = omega (arith, c.loop-number-test.true, c.size-number-end.ensures, ap size_of c.as_slice-dims.ensures.value) in
    let near = subst (λ (ds : List Dim). IsCongruent (pos c.further-at.result) (pos a.offset +ℤ away ds c.loop-number.number)) c.as_slice-dims.ensures.value c.further-at.ensures in
    let size = c.length-2.ensures in
    let small = c.length-2.type_inv in
    let place = ap (λ (k : ℕ). c.args.to_at + c.loop-number.number * k) c.words-words.ensures in
    let clones = on-ok-when c.copy_element-copied.result (sym c.is_err.ensures.value ∙ c.if-is_err.false) c.copy_element-copied.ensures.copied in
    step-more ts old x a s ps (whole (pieces_of c.args.layout.now)) c.args.to c.args.to_at are c.requires.live c.requires.within.inside (omega arith) c.requires.room
    (g.B.Blocks.blocks c.loop-number.heap) c.loop-number.number (c.loop-number.invariant ts x s ps are) number (g.B.Blocks.blocks c.copy_element-copied.new.heap) c.further-at.result _ near c.further-at.type_inv place clones

pub give_back-requires : goal.give_back-requires
give_back-requires g c =
    let old = g.B.Blocks.blocks c.args.heap.now in
    let new = g.B.Blocks.blocks c.copy_element-copied.new.heap in
    let a = c.args.elements.now in
    let l = whole (pieces_of c.args.layout.now) in
    let o = c.requires.objects in
    let number : c.loop-number.number < size_of a.dims.items = omega (arith, c.loop-number-test.true, c.size-number-end.ensures, ap size_of c.as_slice-dims.ensures.value) in
    let size = c.length-2.ensures in
    let small = c.length-2.type_inv in
    let place = ap (λ (k : ℕ). c.args.to_at + c.loop-number.number * k) c.words-words.ensures in
    let bad = on-err-when c.copy_element-copied.result (sym c.is_err.ensures.value ∙ c.if-is_err.true) c.copy_element-copied.ensures.spoiled in
    let h = step-spoiled o.0 old o.1 a o.2 o.3 l c.args.to c.args.to_at o.4 c.requires.live c.requires.within.inside (omega arith) c.requires.room
    (g.B.Blocks.blocks c.loop-number.heap) c.loop-number.number (c.loop-number.invariant o.0 o.1 o.2 o.3 o.4) number new _ place bad in
    let room = row-room o.0 old o.1 a o.2 o.3 l c.args.to c.args.to_at o.4 c.requires.live c.requires.within.inside (omega arith) c.requires.room
    (g.B.Blocks.blocks c.loop-number.heap) c.loop-number.number (c.loop-number.invariant o.0 o.1 o.2 o.3 o.4) number new h in (
      _,
      row-holds o.0 old o.1 a o.2 o.3 l c.args.to c.args.to_at o.4 c.requires.live new c.loop-number.number h room,
      row-unpinned o.0 old o.1 a o.2 o.3 l c.args.to c.args.to_at o.4 c.requires.live new c.loop-number.number h room,
    )

pub returns-then-is_err-clause-refused : goal.returns-then-is_err-clause-refused
returns-then-is_err-clause-refused g c =
    let old = g.B.Blocks.blocks c.args.heap.now in
    let new = g.B.Blocks.blocks c.copy_element-copied.new.heap in
    let a = c.args.elements.now in
    let l = whole (pieces_of c.args.layout.now) in
    let o = c.requires.objects in
    let number : c.loop-number.number < size_of a.dims.items = omega (arith, c.loop-number-test.true, c.size-number-end.ensures, ap size_of c.as_slice-dims.ensures.value) in
    let size = c.length-2.ensures in
    let small = c.length-2.type_inv in
    let place = ap (λ (k : ℕ). c.args.to_at + c.loop-number.number * k) c.words-words.ensures in
    let bad = on-err-when c.copy_element-copied.result (sym c.is_err.ensures.value ∙ c.if-is_err.true) c.copy_element-copied.ensures.spoiled in
    let h = step-spoiled o.0 old o.1 a o.2 o.3 l c.args.to c.args.to_at o.4 c.requires.live c.requires.within.inside (omega arith) c.requires.room
    (g.B.Blocks.blocks c.loop-number.heap) c.loop-number.number (c.loop-number.invariant o.0 o.1 o.2 o.3 o.4) number new _ place bad in
    let room = row-room o.0 old o.1 a o.2 o.3 l c.args.to c.args.to_at o.4 c.requires.live c.requires.within.inside (omega arith) c.requires.room
    (g.B.Blocks.blocks c.loop-number.heap) c.loop-number.number (c.loop-number.invariant o.0 o.1 o.2 o.3 o.4) number new h in
    let holds = row-holds o.0 old o.1 a o.2 o.3 l c.args.to c.args.to_at o.4 c.requires.live new c.loop-number.number h room in
    let back = all-back o.0 old o.1 a o.2 o.3 l c.args.to c.args.to_at o.4 c.requires.live new c.loop-number.number h room (g.B.Blocks.blocks c.give_back.new.heap)
    (c.give_back.ensures.given _ holds) (c.give_back.ensures.others _ holds) in
    on-err-anyway c.copy_element-copied.result back

pub returns-clause-copied : goal.returns-clause-copied
returns-clause-copied g c ts x s ps are =
    let old = g.B.Blocks.blocks c.args.heap.now in
    let a = c.args.elements.now in
    let all : c.loop-number.number ≡ size_of a.dims.items = omega (arith, c.loop-number-test.false, c.loop-number.auto.number-end, c.size-number-end.ensures, ap size_of c.as_slice-dims.ensures.value) in
    let many = places-many (pos a.offset) a.dims.items in
    let as-many = zip-length (StandsAt ts x a.block s) (places a) ps are.tells in
    gathered-all ts old x a s ps (whole (pieces_of c.args.layout.now)) c.args.to c.args.to_at are c.requires.live (g.B.Blocks.blocks c.loop-number.heap) c.loop-number.number (c.loop-number.invariant ts x s ps are) (omega arith)
