use Rattle.std.proofs.Common.{◌≡◌, ◌≤◌, ◌+◌, FitsSigned, rules, length, take, sym, ap, subst, ◌∙◌, arith}
use Rattle.std.specs.Int.{w64}
use Rattle.std.proofs.lemmas.Int.{to_z-of_z}
use Rattle.std.proofs.lemmas.List.{length-take-le}
use Rattle.f3_program.specs.declared.declarations.Derived.{Derived}
use Rattle.f3_live_blocks.specs.Blocks.{words_of}
use Rattle.f3_meaning_whole.specs.Value.{Allocated, spans_of}
use Rattle.f3_meaning_whole.specs.Shape.{shape_in, shapes_of}
use Rattle.f3_data.specs.declared.value.Value as v
use Rattle.f3_data.specs.declared.value.Elements.{Elements}
use Rattle.f3_data.specs.Values as view
use Rattle.f3_data.specs.Values.{value_of, values_of}
use Rattle.f3_rooms.specs.Forms.{words_for}
use Rattle.f3_rooms.specs.Places.{with_word}
use Rattle.f3_rooms.specs.Laws.{with_holder}
use Rattle.f3_room_values.specs.Reads.{declared_each}
use Rattle.f3_room_values.proofs.Leaving.{drop_part, many_parts}
use Rattle.f3_room_values.proofs.Arranging.{record_words}
use Rattle.f3_room_writing.specs.Writes.{ObjectWritten, LaidWritten, VariableWritten, EachWritten, AllWritten}
use Rattle.f3_room_writing.proofs.Tables.{tables_many, tables_before}
use Rattle.f3_room_writing.proofs.Parts.{scalar_written, record_written, array_written, vacant_written, IsSized, sized, own_live, own_within, held_live, held_long, held_written}
use Rattle.f3_room_writing.proofs.Leaving.{if_some, weaker, drop_value, many_values, next_within, next_variable, all_written, element_within, next_element, each_written}
use Rattle.f3_room_writing.proofs.writing.+writing.Goals as goal

pub write_components-write_variable-requires : goal.write_components-write_variable-requires
write_components-write_variable-requires g t c κs within =
    let ts = shapes_of c.args.types.now in
    let m = g.B.Blocks.blocks c.args.heap.now in
    let p = g.B.Blocks.blocks c.loop-number.heap in
    let x = c.index-components-number.result in
    let ds = declared_each c.args.components.now in
    let this = drop_part c.args.components.now c.loop-number.number x c.loop-number-test.true c.index-components-number.is in
    let inside = next_within ts c.args.block m p ds x.declared c.args.first c.loop-number.number c.loop-number.at (values_of c.args.values.now) c.loop-number.invariant this c.requires.within in
    (search rules, (search rules, (c.requires.tables, (c.loop-number.invariant.live, inside))))

pub write_components-loop-number-preserved : goal.write_components-loop-number-preserved
write_components-loop-number-preserved g t c =
    let ts = shapes_of c.args.types.now in
    let m = g.B.Blocks.blocks c.args.heap.now in
    let p = g.B.Blocks.blocks c.loop-number.heap in
    let q = g.B.Blocks.blocks c.write_variable.new.heap in
    let x = c.index-components-number.result in
    let y = c.index-values-number.result in
    let this = drop_part c.args.components.now c.loop-number.number x c.loop-number-test.true c.index-components-number.is in
    let value = drop_value c.args.values.now c.loop-number.number y (omega arith) c.index-values-number.is in
    next_variable ts c.args.block m p q (declared_each c.args.components.now) x.declared c.args.first c.loop-number.number c.loop-number.at c.in-Some.behind (value_of y)
    (values_of c.args.values.now) c.loop-number.invariant this value
    (if_some c.in_ok-behind.field-0 c.in-Some.behind (VariableWritten p q ts x.declared c.args.block c.loop-number.at (value_of y)) c.in-Some.is c.in_ok-behind.ensures)

pub write_components-returns : goal.write_components-returns
write_components-returns g t c =
    let many = many_parts c.args.components.now in
    let same = many_values c.args.values.now in
    all_written (shapes_of c.args.types.now) c.args.block (g.B.Blocks.blocks c.args.heap.now) (g.B.Blocks.blocks c.loop-number.heap) (declared_each c.args.components.now) c.args.first
    c.loop-number.number c.loop-number.at (values_of c.args.values.now) c.loop-number.invariant (omega arith) (omega arith)

pub write_elements-write_object-requires : goal.write_elements-write_object-requires
write_elements-write_object-requires g t c κs within =
    let s = shape_in (shapes_of c.args.types.now) c.args.of in
    let inside = element_within s c.args.block (g.B.Blocks.blocks c.args.heap.now) (g.B.Blocks.blocks c.loop-value.heap) c.args.first c.loop-value.value-index c.loop-value.at
    (values_of c.args.values.now) (length c.args.values.now) c.loop-value.invariant c.loop-value-test.true c.requires.within in
    (search rules, (search rules, (c.requires.tables, (c.loop-value.invariant.live, inside))))

pub write_elements-loop-value-preserved : goal.write_elements-loop-value-preserved
write_elements-loop-value-preserved g t c =
    let s = shape_in (shapes_of c.args.types.now) c.args.of in
    let p = g.B.Blocks.blocks c.loop-value.heap in
    let q = g.B.Blocks.blocks c.write_object.new.heap in
    let y = c.value-item.result in
    next_element s c.args.block (g.B.Blocks.blocks c.args.heap.now) p q c.args.first c.loop-value.value-index c.loop-value.at c.in-Some.behind (value_of y) (values_of c.args.values.now)
    c.loop-value.invariant (drop_value c.args.values.now c.loop-value.value-index y c.loop-value-test.true c.value-item.is)
    (if_some c.in_ok-behind.field-0 c.in-Some.behind (ObjectWritten p q s c.args.block c.loop-value.at (value_of y)) c.in-Some.is c.in_ok-behind.ensures)

pub write_elements-returns : goal.write_elements-returns
write_elements-returns g t c =
    let same = many_values c.args.values.now in
    each_written (shape_in (shapes_of c.args.types.now) c.args.of) c.args.block (g.B.Blocks.blocks c.args.heap.now) (g.B.Blocks.blocks c.loop-value.heap) c.args.first c.loop-value.value-index
    c.loop-value.at (values_of c.args.values.now) c.loop-value.invariant (omega arith)

pub write_held-returns-in-Unallocated : goal.write_held-returns-in-Unallocated
write_held-returns-in-Unallocated g t c =
    let m = g.B.Blocks.blocks c.args.heap.now in
    vacant_written m (g.B.Blocks.blocks c.write.new.self) c.args.block c.args.at c.args.rank (shape_in (shapes_of c.args.types.now) c.args.of) (value_of c.args.value.now) c.requires.live
    (omega arith) c.write.ensures.written (ap value_of c.in-Unallocated.is)

pub write_held-write_laid-requires : goal.write_held-write_laid-requires
write_held-write_laid-requires g t c κs within =
    let m = g.B.Blocks.blocks c.args.heap.now in
    let one = g.B.Blocks.blocks c.take.new.self in
    let ts = shapes_of c.args.types.now in
    let s = shape_in ts c.args.of in
    let ss = spans_of (value_of c.deref-2.result.now) in
    let told : view.spans_of c.spans_of-spans.result.now ≡ ss = c.spans_of-spans.ensures ∙ ap (λ y. spans_of (value_of y)) (c.deref.ensures ∙ sym c.deref-2.ensures) in
    let size : IsSized c.in-Some.words c.args.rank ss (words_for s)
    = sized c.in-Some.words c.args.rank (words_for s) c.spans_of-spans.result.now ss told c.if-spans-rank.false (c.in-Some.ensures {u = tt} ts c.requires.tables) in
    let took = c.in_ok-own.ensures {u = tt} in (
      search rules,
      (
        search rules,
        (
          c.requires.tables,
          (
            own_live m one c.in_ok-own.own c.in-Some.words c.args.rank ss (words_for s) took.taken size,
            own_within m one c.in_ok-own.own c.in-Some.words c.args.rank ss (words_for s) took.taken size,
          ),
        ),
      ),
    )

pub write_held-write_holder-requires-clause-live :
    goal.write_held-write_holder-requires-clause-live
write_held-write_holder-requires-clause-live g t c =
    let m = g.B.Blocks.blocks c.args.heap.now in
    let one = g.B.Blocks.blocks c.take.new.self in
    let ts = shapes_of c.args.types.now in
    let s = shape_in ts c.args.of in
    let ss = spans_of (value_of c.deref-2.result.now) in
    let told : view.spans_of c.spans_of-spans.result.now ≡ ss = c.spans_of-spans.ensures ∙ ap (λ y. spans_of (value_of y)) (c.deref.ensures ∙ sym c.deref-2.ensures) in
    let size : IsSized c.in-Some.words c.args.rank ss (words_for s)
    = sized c.in-Some.words c.args.rank (words_for s) c.spans_of-spans.result.now ss told c.if-spans-rank.false (c.in-Some.ensures {u = tt} ts c.requires.tables) in
    let took = c.in_ok-own.ensures {u = tt} in
    let two = g.B.Blocks.blocks c.write_laid.new.heap in
    let x = value_of c.deref-2.result.now in
    let inner = if_some c.in_ok-write_laid.field-0 c.in-Some-2.field-0 (LaidWritten one two c.args.rank ss s c.in_ok-own.own 0 x) c.in-Some-2.is (c.in_ok-write_laid.ensures {u = tt}) in
    held_live m one two c.args.block c.args.at c.in_ok-own.own c.in-Some.words c.args.rank ss s x c.in-Some-2.field-0 c.requires.live c.requires.within took.fresh took.taken size inner

pub write_held-write_holder-requires-clause-within :
    goal.write_held-write_holder-requires-clause-within
write_held-write_holder-requires-clause-within g t c =
    let m = g.B.Blocks.blocks c.args.heap.now in
    let one = g.B.Blocks.blocks c.take.new.self in
    let ts = shapes_of c.args.types.now in
    let s = shape_in ts c.args.of in
    let ss = spans_of (value_of c.deref-2.result.now) in
    let told : view.spans_of c.spans_of-spans.result.now ≡ ss = c.spans_of-spans.ensures ∙ ap (λ y. spans_of (value_of y)) (c.deref.ensures ∙ sym c.deref-2.ensures) in
    let size : IsSized c.in-Some.words c.args.rank ss (words_for s)
    = sized c.in-Some.words c.args.rank (words_for s) c.spans_of-spans.result.now ss told c.if-spans-rank.false (c.in-Some.ensures {u = tt} ts c.requires.tables) in
    let took = c.in_ok-own.ensures {u = tt} in
    let two = g.B.Blocks.blocks c.write_laid.new.heap in
    let x = value_of c.deref-2.result.now in
    let inner = if_some c.in_ok-write_laid.field-0 c.in-Some-2.field-0 (LaidWritten one two c.args.rank ss s c.in_ok-own.own 0 x) c.in-Some-2.is (c.in_ok-write_laid.ensures {u = tt}) in
    let long = held_long m one two c.args.block c.args.at c.in_ok-own.own c.in-Some.words c.args.rank ss s x c.in-Some-2.field-0 c.requires.live c.requires.within took.fresh took.taken size
    inner in
    let ranked = size.ranked in
    omega (arith, c.if-spans-rank.false)

pub write_held-returns : goal.write_held-returns
write_held-returns g t c =
    let m = g.B.Blocks.blocks c.args.heap.now in
    let one = g.B.Blocks.blocks c.take.new.self in
    let ts = shapes_of c.args.types.now in
    let s = shape_in ts c.args.of in
    let ss = spans_of (value_of c.deref-2.result.now) in
    let told : view.spans_of c.spans_of-spans.result.now ≡ ss = c.spans_of-spans.ensures ∙ ap (λ y. spans_of (value_of y)) (c.deref.ensures ∙ sym c.deref-2.ensures) in
    let size : IsSized c.in-Some.words c.args.rank ss (words_for s)
    = sized c.in-Some.words c.args.rank (words_for s) c.spans_of-spans.result.now ss told c.if-spans-rank.false (c.in-Some.ensures {u = tt} ts c.requires.tables) in
    let took = c.in_ok-own.ensures {u = tt} in
    let two = g.B.Blocks.blocks c.write_laid.new.heap in
    let x = value_of c.deref-2.result.now in
    let inner = if_some c.in_ok-write_laid.field-0 c.in-Some-2.field-0 (LaidWritten one two c.args.rank ss s c.in_ok-own.own 0 x) c.in-Some-2.is (c.in_ok-write_laid.ensures {u = tt}) in
    held_written m one two c.args.block c.args.at c.in_ok-own.own c.in-Some.words c.args.rank ss s x c.in-Some-2.field-0 c.requires.live c.requires.within took.fresh took.taken size inner
    (g.B.Blocks.blocks c.write_holder.new.heap) (value_of c.args.value.now) (c.write_holder.ensures.written ∙ ap (with_holder two c.args.block c.args.at c.in_ok-own.own) told)
    c.write_holder.ensures.positive (ap value_of c.in-Allocated.is ∙ ap (λ (y : v.Value). Allocated (value_of y)) (sym c.deref-2.ensures))

pub write_laid-returns : goal.write_laid-returns
write_laid-returns g t c =
    let m = g.B.Blocks.blocks c.args.heap.now in
    let n = g.B.Blocks.blocks c.write_elements.new.heap in
    let s = shape_in (shapes_of c.args.types.now) c.args.of in
    let x = c.args.value.now in
    let same = c.deref-3.ensures.value ∙ ap (λ (e : Elements). e.values.items) c.deref-2.ensures ∙ ap (λ (e : Elements). e.values.items) (sym c.deref.ensures) in
    weaker (EachWritten m n s c.args.block c.args.at (values_of c.deref-3.result.now)) (LaidWritten m n c.args.rank (spans_of (value_of x)) s c.args.block c.args.at (value_of x))
    c.write_elements.result
    (λ next each. array_written m n s c.args.rank c.args.block c.args.at next x c.in-Array.array c.deref.result.now c.deref-3.result.now c.if-rank-eq0.false c.in-Array.is c.deref.ensures same
    (c.is_full.ensures c.if-not-is_full.false) each) c.write_elements.ensures

pub write_object-returns-in_default : goal.write_object-returns-in_default
write_object-returns-in_default g t c =
    let m = g.B.Blocks.blocks c.args.heap.now in
    let fits : FitsSigned w64 c.in-Some.word = search rules in
    scalar_written (shapes_of c.args.types.now) m (g.B.Blocks.blocks c.write.new.self) c.args.of c.args.block c.args.at c.in-Some.word (value_of c.args.value.now) c.in_default.not-Derived
    c.requires.live (omega arith) (c.in-Some.ensures {u = tt}) (c.write.ensures.written ∙ ap (with_word m c.args.block c.args.at) (to_z-of_z w64 c.in-Some.word fits))

pub write_object-slice_bounds-write_components-end-2 :
    goal.write_object-slice_bounds-write_components-end-2
write_object-slice_bounds-write_components-end-2 g t c =
    let many = tables_many c.args.types.now c.args.tables.now c.requires.tables in
    let long : length (take c.in-Derived.number c.args.tables.now) ≡ c.in-Derived.number = length-take-le c.in-Derived.number c.args.tables.now (omega arith) in
    omega arith

pub write_object-write_components-requires : goal.write_object-write_components-requires
write_object-write_components-requires g t c κs within =
    let m = g.B.Blocks.blocks c.args.heap.now in
    let x = c.index-types-number.result in
    let its = c.deref.ensures.value ∙ ap (λ (y : Derived). y.components.items) (sym c.index-types-number.is) in
    let same = record_words c.args.types.now c.args.of c.in-Derived.number x x c.deref.result.now c.in-Derived.is (omega arith) c.index-types-number.is its in (
      search rules,
      (
        search rules,
        (
          tables_before c.args.types.now c.args.tables.now c.in-Derived.number c.requires.tables (omega arith),
          (c.requires.live, subst (λ k. c.args.at + k ≤ length (words_of m c.args.block)) same c.requires.within),
        ),
      ),
    )

pub write_object-returns : goal.write_object-returns
write_object-returns g t c =
    let m = g.B.Blocks.blocks c.args.heap.now in
    let n = g.B.Blocks.blocks c.write_components.new.heap in
    let x = c.index-types-number.result in
    let its = c.deref.ensures.value ∙ ap (λ (y : Derived). y.components.items) (sym c.index-types-number.is) in
    let before = shapes_of (take c.in-Derived.number c.args.types.now) in
    weaker (AllWritten m n before (declared_each c.deref.result.now) c.args.block c.args.at (values_of c.deref-2.result.now))
    (ObjectWritten m n (shape_in (shapes_of c.args.types.now) c.args.of) c.args.block c.args.at (value_of c.args.value.now)) c.write_components.result
    (λ next all. record_written c.args.types.now c.args.of c.in-Derived.number x x c.deref.result.now c.args.value.now c.in-Composite.values c.deref-2.result.now m n c.args.block c.args.at next
    c.in-Derived.is (omega arith) c.index-types-number.is its c.in-Composite.is c.deref-2.ensures.value all) c.write_components.ensures
