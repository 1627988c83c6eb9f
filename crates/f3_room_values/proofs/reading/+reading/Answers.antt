use Rattle.std.proofs.Common.{rules, arith, FitsSigned, ◌≡◌, ◌≤◌, ◌+◌, ◌∷◌, [], length, refl, sym, ap, subst, ◌∙◌}
use Rattle.std.specs.Int.{w64}
use Rattle.std.proofs.lemmas.Int.{to_z-of_z}
use Rattle.std.proofs.lemmas.List.{map-append}
use Rattle.f3_program.specs.declared.declarations.Derived.{Derived}
use Rattle.f3_meaning_whole.specs.Value.{Number, Allocated}
use Rattle.f3_meaning_whole.specs.Shape.{shape_in, shapes_of}
use Rattle.f3_live_blocks.specs.Blocks.{words_of}
use Rattle.f3_data.specs.Values.{spans_of, value_of, values_of}
use Rattle.f3_rooms.specs.Forms.{words_for}
use Rattle.f3_rooms.specs.Values.{object}
use Rattle.f3_rooms.specs.Sound.{IsObject}
use Rattle.f3_room_values.specs.Reads.{declared_each}
use Rattle.f3_room_values.proofs.Trees.{past_types}
use Rattle.f3_room_values.proofs.Telling.{number_read}
use Rattle.f3_room_values.proofs.Leaving.{next_variable, next_within, next_held, drop_part, next_element, element_within, element_held, each_read}
use Rattle.f3_room_values.proofs.Arranging.{record_words, record_held, record_read, names, own_within, own_held, own_value}
use Rattle.f3_room_values.proofs.reading.+reading.Goals as goal

pub components-declared_at-requires : goal.components-declared_at-requires
components-declared_at-requires g t c κs within =
    let ts = shapes_of c.args.types.now in
    let m = g.B.Blocks.blocks c.args.heap.now in
    let x = c.component-item.result in
    let ds = declared_each c.args.components.now in
    let this = drop_part c.args.components.now c.loop-component.component-index x c.loop-component-test.true c.component-item.is in
    let inside = next_within ts m c.args.block ds x.declared c.args.first c.loop-component.component-index c.loop-component.at (length (words_of m c.args.block))
    (values_of c.loop-component.values.items) c.loop-component.invariant this c.requires.within in
    let held = next_held ts m c.args.block ds x.declared c.args.first c.loop-component.component-index c.loop-component.at
    (values_of c.loop-component.values.items) c.requires.sound.0 c.loop-component.invariant this c.requires.sound.1 in
    (search rules, (search rules, (c.requires.live, (inside, held))))

pub components-loop-component-preserved : goal.components-loop-component-preserved
components-loop-component-preserved g t c =
    let x = c.component-item.result in
    let this = drop_part c.args.components.now c.loop-component.component-index x c.loop-component-test.true c.component-item.is in
    next_variable (shapes_of c.args.types.now) (g.B.Blocks.blocks c.args.heap.now) c.args.block (declared_each c.args.components.now) x.declared c.args.first
    c.loop-component.component-index c.loop-component.at c.in_ok-value.behind (values_of c.loop-component.values.items) (values_of c.push.new.self.items) (value_of c.in_ok-value.value)
    c.loop-component.invariant this c.in_ok-value.ensures (ap values_of c.in_ok-push.ensures.items ∙ map-append value_of c.loop-component.values.items (c.in_ok-value.value ∷ []))

pub elements-object-requires : goal.elements-object-requires
elements-object-requires g t c κs within =
    let m = g.B.Blocks.blocks c.args.heap.now in
    let s = shape_in (shapes_of c.args.types.now) c.args.of in
    let inside = element_within c.args.count (words_for s) (IsObject m s) (object m s) c.args.block c.args.first c.loop-each._each c.loop-each.at (length (words_of m c.args.block))
    (values_of c.loop-each.values.items) c.loop-each.invariant c.loop-each-test.true c.requires.within in
    let held = element_held c.args.count (words_for s) (IsObject m s) (object m s) c.args.block c.args.first c.loop-each._each c.loop-each.at
    (values_of c.loop-each.values.items) c.requires.sound.0 c.loop-each.invariant c.loop-each-test.true c.requires.sound.1 in
    (search rules, (search rules, (c.requires.live, (inside, held))))

pub elements-loop-each-preserved : goal.elements-loop-each-preserved
elements-loop-each-preserved g t c =
    let m = g.B.Blocks.blocks c.args.heap.now in
    let s = shape_in (shapes_of c.args.types.now) c.args.of in
    next_element c.args.count (words_for s) (IsObject m s) (object m s) c.args.block c.args.first c.loop-each._each c.loop-each.at c.in_ok-value.behind
    (values_of c.loop-each.values.items) (values_of c.push.new.self.items) (value_of c.in_ok-value.value) c.loop-each.invariant c.loop-each-test.true c.in_ok-value.ensures
    (ap values_of c.in_ok-push.ensures.items ∙ map-append value_of c.loop-each.values.items (c.in_ok-value.value ∷ []))

pub elements-returns : goal.elements-returns
elements-returns g t c =
    let m = g.B.Blocks.blocks c.args.heap.now in
    let s = shape_in (shapes_of c.args.types.now) c.args.of in
    let all : c.loop-each._each ≡ c.args.count = omega arith in
    each_read c.args.count (words_for s) (IsObject m s) (object m s) c.args.block c.args.first c.loop-each._each c.loop-each.at (values_of c.loop-each.values.items)
    c.loop-each.invariant all

pub held-arranged-requires : goal.held-arranged-requires
held-arranged-requires g t c κs within =
    let m = g.B.Blocks.blocks c.args.heap.now in
    let s = shape_in (shapes_of c.args.types.now) c.args.of in
    let fits : FitsSigned w64 c.read.result = search rules in
    let own = names m c.args.rank (words_for s) (IsObject m s) c.args.block c.args.at c.read.result c.in-Some.own c.requires.sound.0 c.read.ensures
    (sym (to_z-of_z w64 c.read.result fits) ∙ c.in-Some.ensures.named) (search rules) c.requires.sound.1 in
    let told = c.in_ok-spans.ensures {u = tt} in (
      search rules,
      (
        search rules,
        (
          (own.holds).live,
          (
            own_within m c.args.rank (words_for s) (IsObject m s) c.args.block c.args.at c.in-Some.own c.requires.sound.0 own (spans_of c.in_ok-spans.spans.items) told,
            own_held m c.args.rank (words_for s) (IsObject m s) c.args.block c.args.at c.in-Some.own c.requires.sound.0 own (spans_of c.in_ok-spans.spans.items) told,
          ),
        ),
      ),
    )

pub held-returns : goal.held-returns
held-returns g t c h has =
    let m = g.B.Blocks.blocks c.args.heap.now in
    let s = shape_in (shapes_of c.args.types.now) c.args.of in
    let fits : FitsSigned w64 c.read.result = search rules in
    let own = names m c.args.rank (words_for s) (IsObject m s) c.args.block c.args.at c.read.result c.in-Some.own h c.read.ensures
    (sym (to_z-of_z w64 c.read.result fits) ∙ c.in-Some.ensures.named) (search rules) has in
    ap (λ v. Allocated (value_of v)) (c.in_ok-new.ensures {u = tt}).ok
    ∙ own_value m c.args.rank (words_for s) (IsObject m s) c.args.block c.args.at c.in-Some.own h own (spans_of c.in_ok-spans.spans.items) (c.in_ok-spans.ensures {u = tt})
    (object m s) (value_of c.in_ok-value.value) c.in_ok-value._behind c.in_ok-value.ensures

pub object-read-requires-then-number-types-clause-within :
    goal.object-read-requires-then-number-types-clause-within
object-read-requires-then-number-types-clause-within g t c =
    let whole = past_types c.args.types.now c.args.of c.in-Derived.number c.in-Derived.is c.if-number-types.true in
    let inside : c.args.at + 1 ≤ length (words_of (g.B.Blocks.blocks c.args.heap.now) c.args.block)
    = subst (λ s. c.args.at + words_for s ≤ length (words_of (g.B.Blocks.blocks c.args.heap.now) c.args.block)) whole c.requires.within in
    omega arith

pub object-overflow_add-result-then-number-types :
    goal.object-overflow_add-result-then-number-types
object-overflow_add-result-then-number-types g t c =
    let whole = past_types c.args.types.now c.args.of c.in-Derived.number c.in-Derived.is c.if-number-types.true in
    let inside : c.args.at + 1 ≤ length (words_of (g.B.Blocks.blocks c.args.heap.now) c.args.block)
    = subst (λ s. c.args.at + words_for s ≤ length (words_of (g.B.Blocks.blocks c.args.heap.now) c.args.block)) whole c.requires.within in
    omega (arith, c.length.ensures, c.length.type_inv)

pub object-returns-then-number-types : goal.object-returns-then-number-types
object-returns-then-number-types g t c =
    let fits : FitsSigned w64 c.read-then-number-types.result = search rules in
    let whole = past_types c.args.types.now c.args.of c.in-Derived.number c.in-Derived.is c.if-number-types.true in
    number_read (shape_in (shapes_of c.args.types.now) c.args.of) (g.B.Blocks.blocks c.args.heap.now) c.args.block c.args.at c.read-then-number-types.result _ (c.args.at + 1) whole
    c.read-then-number-types.ensures (ap Number (to_z-of_z w64 c.read-then-number-types.result fits)) refl

pub object-components-requires : goal.object-components-requires
object-components-requires g t c κs within =
    let m = g.B.Blocks.blocks c.args.heap.now in
    let x = c.index-types-number.result in
    let its = c.deref.ensures.value ∙ ap (λ (y : Derived). y.components.items) (sym c.index-types-number.is) in
    let same = record_words c.args.types.now c.args.of c.in-Derived.number x x c.deref.result.now c.in-Derived.is (omega arith) c.index-types-number.is its in
    let held = record_held c.args.types.now c.args.of c.in-Derived.number x x c.deref.result.now c.in-Derived.is (omega arith) c.index-types-number.is its
    m c.args.block c.args.at c.requires.sound.0 c.requires.sound.1 in
    (search rules, (search rules, (c.requires.live, (subst (λ k. c.args.at + k ≤ length (words_of m c.args.block)) same c.requires.within, held))))

pub object-returns : goal.object-returns
object-returns g t c =
    let x = c.index-types-number.result in
    let its = c.deref.ensures.value ∙ ap (λ (y : Derived). y.components.items) (sym c.index-types-number.is) in
    record_read c.args.types.now c.args.of c.in-Derived.number x x c.deref.result.now c.in-Derived.is (omega arith) c.index-types-number.is its
    (g.B.Blocks.blocks c.args.heap.now) c.args.block c.args.at (value_of c.composite.result) (values_of c.in_ok-values.values.items) c.in_ok-values.behind c.in_ok-values.ensures
    c.composite.ensures
