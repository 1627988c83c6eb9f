use Rattle.std.proofs.Common.{◌≡◌, ◌+◌, ◌*◌, ◌/◌, ◌<◌, drop, inl, inr, refl, sym, ap, subst, ◌∙◌, ℕ, arith, rules}
use Rattle.std.proofs.lemmas.List.{drop_all}
use Rattle.f3_program.specs.declared.declarations.Derived.{Derived}
use Rattle.f3_meaning_whole.specs.Shape.{shape_in, shapes_of}
use Rattle.f3_rooms.specs.Forms.{words_for, room, total}
use Rattle.f3_room_places.specs.Places.{shapes}
use Rattle.f3_room_places.proofs.Trees.{past_types}
use Rattle.f3_room_levels.specs.Initial.{repeated, declared_each, object_words, variable_words, initial_words, AllCanBegin}
use Rattle.f3_room_levels.specs.Writing.{IsBlank, with_words_from}
use Rattle.f3_room_levels.proofs.Types.{type_total, type_initial, type_can, drop_part, many_parts}
use Rattle.f3_room_levels.proofs.Widths.{object_many}
use Rattle.f3_room_levels.proofs.Zeros.{zero_variable, zero_whole, zero_base}
use Rattle.f3_room_levels.proofs.Arranged.{zero_written, zero_empty, default_times, default_repeated}
use Rattle.f3_room_levels.proofs.Leaving.{variables_all, variable_can, variable_here, variable_within, variable_written, variables_none}
use Rattle.f3_room_levels.proofs.Leaving.{elements_all, element_here, element_within, element_next, elements_none}
use Rattle.f3_room_levels.proofs.writing.+writing.Goals as goal

-- ---- components

pub write_components-loop-component-init : goal.write_components-loop-component-init
write_components-loop-component-init g t c = record {
  variables = variables_all (shapes c.args.types) (g.B.Blocks.blocks c.args.heap.now) c.args.block c.args.first (declared_each c.args.components.now) c.requires.fit c.requires.blank;
  kept = refl;
}

pub write_components-write_declared-requires : goal.write_components-write_declared-requires
write_components-write_declared-requires g t c κs within =
    let ts = shapes c.args.types in
    let old = g.B.Blocks.blocks c.args.heap.now in
    let now = g.B.Blocks.blocks c.loop-component.heap in
    let cs = c.args.components.now in
    let ds = declared_each cs in
    let i = c.loop-component.component-index in
    let x = c.component-item.result in
    let e = drop_part cs i x c.loop-component-test.true c.component-item.is in
    let can = variable_can ts old now c.args.block c.args.first c.loop-component.at (drop i ds) (drop (i + 1) ds) ds x.declared e c.loop-component.invariant.variables in
    let here = variable_here ts old now c.args.block c.args.first c.loop-component.at (drop i ds) (drop (i + 1) ds) ds x.declared e c.loop-component.invariant.variables in
    (search rules, (search rules, (c.requires.tables, (can.0, (can.1, here)))))

pub write_components-room_of-at-requires-clause-small :
    goal.write_components-room_of-at-requires-clause-small
write_components-room_of-at-requires-clause-small g t c =
    let ts = shapes c.args.types in
    let cs = c.args.components.now in
    let ds = declared_each cs in
    let i = c.loop-component.component-index in
    let x = c.component-item.result in
    let e = drop_part cs i x c.loop-component-test.true c.component-item.is in
    let w = variable_within ts (g.B.Blocks.blocks c.args.heap.now) (g.B.Blocks.blocks c.loop-component.heap) c.args.block c.args.first c.loop-component.at (drop i ds) (drop (i + 1) ds) ds x.declared e
    c.loop-component.invariant.variables in
    omega (arith, c.length.ensures, c.length.type_inv)

pub write_components-overflow_add-at : goal.write_components-overflow_add-at
write_components-overflow_add-at g t c =
    let ts = shapes c.args.types in
    let cs = c.args.components.now in
    let ds = declared_each cs in
    let i = c.loop-component.component-index in
    let x = c.component-item.result in
    let e = drop_part cs i x c.loop-component-test.true c.component-item.is in
    let w = variable_within ts (g.B.Blocks.blocks c.args.heap.now) (g.B.Blocks.blocks c.loop-component.heap) c.args.block c.args.first c.loop-component.at (drop i ds) (drop (i + 1) ds) ds x.declared e
    c.loop-component.invariant.variables in
    omega (arith, c.length.ensures, c.length.type_inv, c.room_of-at.ensures)

pub write_components-loop-component-preserved : goal.write_components-loop-component-preserved
write_components-loop-component-preserved g t c =
    let ts = shapes c.args.types in
    let cs = c.args.components.now in
    let ds = declared_each cs in
    let i = c.loop-component.component-index in
    let x = c.component-item.result in
    let e = drop_part cs i x c.loop-component-test.true c.component-item.is in
    record {
      variables = variable_written ts (g.B.Blocks.blocks c.args.heap.now) (g.B.Blocks.blocks c.loop-component.heap) c.args.block c.args.first c.loop-component.at (drop i ds) (drop (i + 1) ds) ds
          x.declared e c.loop-component.invariant.variables (g.B.Blocks.blocks c.write_declared.new.heap) c.room_of-at.result c.write_declared.ensures.written c.room_of-at.ensures;
      kept = c.write_declared.ensures.kept ∙ c.loop-component.invariant.kept;
    }

pub write_components-returns-clause-written : goal.write_components-returns-clause-written
write_components-returns-clause-written g t c =
    let cs = c.args.components.now in
    let ds = declared_each cs in
    let i = c.loop-component.component-index in
    let many = many_parts cs in
    variables_none (shapes c.args.types) (g.B.Blocks.blocks c.args.heap.now) (g.B.Blocks.blocks c.loop-component.heap) c.args.block c.args.first c.loop-component.at (drop i ds) ds
    (drop_all i ds (omega arith)) c.loop-component.invariant.variables

pub write_components-returns-clause-kept : goal.write_components-returns-clause-kept
write_components-returns-clause-kept g t c = c.loop-component.invariant.kept

-- ---- a variable or a component

pub write_declared-returns-then-declared-clause-written :
    goal.write_declared-returns-then-declared-clause-written
write_declared-returns-then-declared-clause-written g t c =
    let ts = shapes c.args.types in
    let d = c.args.declared.now in
    zero_written (g.B.Blocks.blocks c.args.heap.now) c.args.block c.args.at (room ts d) (variable_words ts d) c.requires.blank (zero_variable ts d (inl c.if-declared.true))

pub write_default-returns-then-size-eq0-clause-written :
    goal.write_default-returns-then-size-eq0-clause-written
write_default-returns-then-size-eq0-clause-written g t c =
    let ts = shapes c.args.types in
    let d = c.args.declared.now in
    let s = shape_in ts d.kind.of in
    let none : words_for s ≡ 0 = omega (arith, c.words-size.ensures) in
    zero_written (g.B.Blocks.blocks c.args.heap.now) c.args.block c.args.at (room ts d) (variable_words ts d) c.requires.blank (zero_variable ts d (inr (c.requires.none, zero_empty s c.requires.fit none)))

pub write_default-returns-then-is_blank-clause-written :
    goal.write_default-returns-then-is_blank-clause-written
write_default-returns-then-is_blank-clause-written g t c =
    let ts = shapes c.args.types in
    let d = c.args.declared.now in
    zero_written (g.B.Blocks.blocks c.args.heap.now) c.args.block c.args.at (room ts d) (variable_words ts d) c.requires.blank
    (zero_variable ts d (inr (c.requires.none, c.is_blank.ensures c.if-is_blank.true)))

pub write_default-write_elements-requires : goal.write_default-write_elements-requires
write_default-write_elements-requires g t c κs within =
    let ts = shapes c.args.types in
    let d = c.args.declared.now in
    let s = shape_in ts d.kind.of in
    let some : 0 < words_for s = omega (arith, c.words-size.ensures) in
    let same : (c.room_of.result / c.words-size.result) * words_for s ≡ room ts d
    = ap (λ (k : ℕ). (k / c.words-size.result) * words_for s) c.room_of.ensures ∙ ap (λ (k : ℕ). (room ts d / k) * words_for s) c.words-size.ensures ∙ default_times ts d c.requires.laid some in
    (search rules, (search rules, (c.requires.tables, (c.requires.fit, subst (IsBlank (g.B.Blocks.blocks c.args.heap.now) c.args.block c.args.at) (sym same) c.requires.blank))))

pub write_default-returns-clause-written : goal.write_default-returns-clause-written
write_default-returns-clause-written g t c =
    let ts = shapes c.args.types in
    let d = c.args.declared.now in
    let s = shape_in ts d.kind.of in
    let some : 0 < words_for s = omega (arith, c.words-size.ensures) in
    let same : c.room_of.result / c.words-size.result ≡ room ts d / words_for s
    = ap (λ (k : ℕ). k / c.words-size.result) c.room_of.ensures ∙ ap (λ (k : ℕ). room ts d / k) c.words-size.ensures in
    c.write_elements.ensures.written
    ∙ ap (with_words_from (g.B.Blocks.blocks c.args.heap.now) c.args.block c.args.at) (ap (λ (k : ℕ). repeated k (object_words s)) same ∙ default_repeated ts d c.requires.laid some c.requires.none)

-- ---- elements

pub write_elements-loop-each-init : goal.write_elements-loop-each-init
write_elements-loop-each-init g t c =
    let s = shape_in (shapes c.args.types) c.args.of in
    record {
      elements = elements_all (object_words s) (words_for s) (object_many s c.requires.fit) (g.B.Blocks.blocks c.args.heap.now) c.args.block c.args.first c.args.count c.requires.blank;
      kept = refl;
    }

pub write_elements-write_object-requires : goal.write_elements-write_object-requires
write_elements-write_object-requires g t c κs within =
    let s = shape_in (shapes c.args.types) c.args.of in
    let here = element_here (object_words s) (words_for s) (object_many s c.requires.fit) (g.B.Blocks.blocks c.args.heap.now) (g.B.Blocks.blocks c.loop-each.heap) c.args.block c.args.first c.loop-each.at
    c.loop-each._each c.args.count c.loop-each.invariant.elements c.loop-each-test.true in
    (search rules, (search rules, (c.requires.tables, (c.requires.fit, here))))

pub write_elements-overflow_add-at : goal.write_elements-overflow_add-at
write_elements-overflow_add-at g t c =
    let s = shape_in (shapes c.args.types) c.args.of in
    let w = element_within (object_words s) (words_for s) (object_many s c.requires.fit) (g.B.Blocks.blocks c.args.heap.now) (g.B.Blocks.blocks c.loop-each.heap) c.args.block c.args.first c.loop-each.at
    c.loop-each._each c.args.count c.loop-each.invariant.elements c.loop-each-test.true in
    omega (arith, c.length.ensures, c.length.type_inv, c.words-size.ensures)

pub write_elements-loop-each-preserved : goal.write_elements-loop-each-preserved
write_elements-loop-each-preserved g t c =
    let s = shape_in (shapes c.args.types) c.args.of in
    record {
      elements = element_next (object_words s) (words_for s) (object_many s c.requires.fit) (g.B.Blocks.blocks c.args.heap.now) (g.B.Blocks.blocks c.loop-each.heap) c.args.block c.args.first
          c.loop-each.at c.loop-each._each c.args.count c.loop-each.invariant.elements c.loop-each-test.true (g.B.Blocks.blocks c.write_object.new.heap) c.words-size.result
          c.write_object.ensures.written c.words-size.ensures;
      kept = c.write_object.ensures.kept ∙ c.loop-each.invariant.kept;
    }

pub write_elements-returns-clause-written : goal.write_elements-returns-clause-written
write_elements-returns-clause-written g t c =
    let s = shape_in (shapes c.args.types) c.args.of in
    elements_none (object_words s) (words_for s) (object_many s c.requires.fit) (g.B.Blocks.blocks c.args.heap.now) (g.B.Blocks.blocks c.loop-each.heap) c.args.block c.args.first c.loop-each.at
    c.loop-each._each c.args.count c.loop-each.invariant.elements c.loop-each-test.false

pub write_elements-returns-clause-kept : goal.write_elements-returns-clause-kept
write_elements-returns-clause-kept g t c = c.loop-each.invariant.kept

-- ---- an object

pub write_object-returns-in_default : goal.write_object-returns-in_default
write_object-returns-in_default g t c =
    let ts = shapes c.args.types in
    let s = shape_in ts c.args.of in
    record {
      written = zero_written (g.B.Blocks.blocks c.args.heap.now) c.args.block c.args.at (words_for s) (object_words s) c.requires.blank (zero_base ts c.args.of c.in_default.not-Derived);
      kept = refl;
    }

pub write_object-returns-then-number-types-clause-written :
    goal.write_object-returns-then-number-types-clause-written
write_object-returns-then-number-types-clause-written g t c =
    let s = shape_in (shapes c.args.types) c.args.of in
    zero_written (g.B.Blocks.blocks c.args.heap.now) c.args.block c.args.at (words_for s) (object_words s) c.requires.blank
    (zero_whole s (ap (shape_in (shapes c.args.types)) c.in-Derived.is ∙ past_types c.args.types.derived.now c.in-Derived.number c.if-number-types.true))

pub write_object-write_components-requires : goal.write_object-write_components-requires
write_object-write_components-requires g t c κs within =
    let xs = c.args.types.derived.now in
    let n = c.in-Derived.number in
    let x = c.index-types-number.result in
    let cs = c.deref.result.now in
    let its = c.deref.ensures.value ∙ ap (λ (y : Derived). y.components.items) (sym c.index-types-number.is) in
    let before = ap shapes_of c.before-2.ensures.derived in
    let can = type_can xs c.args.of n x x cs c.in-Derived.is (omega arith) c.index-types-number.is its c.requires.fit in
    let size = type_total xs c.args.of n x x cs c.in-Derived.is (omega arith) c.index-types-number.is its in (
      search rules,
      (
        search rules,
        (
          c.before-2.ensures.tables,
          (
            subst (λ ts. AllCanBegin ts (declared_each cs)) (sym before) can,
            subst (λ ts. IsBlank (g.B.Blocks.blocks c.args.heap.now) c.args.block c.args.at (total ts (declared_each cs))) (sym before)
                (subst (IsBlank (g.B.Blocks.blocks c.args.heap.now) c.args.block c.args.at) size c.requires.blank),
          ),
        ),
      ),
    )

pub write_object-returns-clause-written : goal.write_object-returns-clause-written
write_object-returns-clause-written g t c =
    let xs = c.args.types.derived.now in
    let n = c.in-Derived.number in
    let x = c.index-types-number.result in
    let cs = c.deref.result.now in
    let its = c.deref.ensures.value ∙ ap (λ (y : Derived). y.components.items) (sym c.index-types-number.is) in
    c.write_components.ensures.written
    ∙ ap (λ ts. with_words_from (g.B.Blocks.blocks c.args.heap.now) c.args.block c.args.at (initial_words ts (declared_each cs))) (ap shapes_of c.before-2.ensures.derived)
    ∙ ap (with_words_from (g.B.Blocks.blocks c.args.heap.now) c.args.block c.args.at) (sym (type_initial xs c.args.of n x x cs c.in-Derived.is (omega arith) c.index-types-number.is its))
