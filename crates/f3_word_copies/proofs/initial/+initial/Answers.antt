use Rattle.std.proofs.Common.{ℕ, List, [], ◌≡◌, ◌∙◌, sym, ap, subst, ◌+◌, ◌-◌, ◌%◌, ◌<◌, pos, length, drop, get_or, arith, rules, w64, FitsSigned}
use Rattle.std.proofs.lemmas.Int.{to_z-of_z}
use Rattle.f3_program.specs.declared.declarations.Constant.{Constant}
use Rattle.f3_program.specs.declared.declarations.Derived.{Derived}
use Rattle.f3_meaning_whole.specs.Shape.{shape_in, shapes_of}
use Rattle.f3_rooms.specs.Forms.{words_for, total}
use Rattle.f3_room_places.specs.Places.{shapes}
use Rattle.f3_room_places.proofs.Trees.{past_types}
use Rattle.f3_room_levels.specs.Initial.{word_of, declared_each, object_words, initial_words, AllCanBegin}
use Rattle.f3_room_levels.proofs.Types.{type_total, type_initial, type_can, drop_part}
use Rattle.f3_word_copies.proofs.Begun.{Seeks, seek-can, seek-small, seek-here, seek-next, default-at, several-at, several-many, whole-word, no-items, above}
use Rattle.f3_word_copies.proofs.initial.+initial.Goals as goal

pub component_word-room_of-room-requires-clause-small :
    goal.component_word-room_of-room-requires-clause-small
component_word-room_of-room-requires-clause-small t c =
    let ts = shapes c.args.types in
    let cs = c.args.components.now in
    let ds = declared_each cs in
    let i = c.loop-component.component-index in
    let x = c.component-item.result in
    let small = c.requires.small in
    let w = seek-small ts ds c.args.number (drop i ds) (drop (i + 1) ds) c.loop-component.left x.declared (drop_part cs i x c.loop-component-test.true c.component-item.is) c.loop-component.invariant in
    omega arith

pub component_word-declared_word-requires : goal.component_word-declared_word-requires
component_word-declared_word-requires t c =
    let ts = shapes c.args.types in
    let cs = c.args.components.now in
    let ds = declared_each cs in
    let i = c.loop-component.component-index in
    let x = c.component-item.result in
    let can = seek-can ts ds c.args.number (drop i ds) (drop (i + 1) ds) c.loop-component.left x.declared (drop_part cs i x c.loop-component-test.true c.component-item.is) c.loop-component.invariant in
    (search rules, (c.requires.tables, (can.0, (can.1, subst (λ k. c.loop-component.left < k) c.room_of-room.ensures c.if-left-room.true))))

pub component_word-returns-then-left-room : goal.component_word-returns-then-left-room
component_word-returns-then-left-room t c =
    let ts = shapes c.args.types in
    let cs = c.args.components.now in
    let ds = declared_each cs in
    let i = c.loop-component.component-index in
    let x = c.component-item.result in
    let fits : FitsSigned w64 c.declared_word.result = search rules in
    to_z-of_z w64 c.declared_word.result fits ∙ c.declared_word.ensures
    ∙ seek-here ts ds c.args.number (drop i ds) (drop (i + 1) ds) c.loop-component.left x.declared (drop_part cs i x c.loop-component-test.true c.component-item.is) c.loop-component.invariant
    (subst (λ k. c.loop-component.left < k) c.room_of-room.ensures c.if-left-room.true)

pub component_word-loop-component-preserved : goal.component_word-loop-component-preserved
component_word-loop-component-preserved t c =
    let ts = shapes c.args.types in
    let cs = c.args.components.now in
    let ds = declared_each cs in
    let i = c.loop-component.component-index in
    let x = c.component-item.result in
    subst (λ k. Seeks ts ds c.args.number (drop (i + 1) ds) (c.loop-component.left - k)) (sym c.room_of-room.ensures)
    (seek-next ts ds c.args.number (drop i ds) (drop (i + 1) ds) c.loop-component.left x.declared (drop_part cs i x c.loop-component-test.true c.component-item.is) c.loop-component.invariant
    (let f = c.if-left-room.false in let e = c.room_of-room.ensures in omega arith))

pub declared_word-returns-else-size-eq0 : goal.declared_word-returns-else-size-eq0
declared_word-returns-else-size-eq0 t c =
    let ts = shapes c.args.types in
    let d = c.args.declared.now in
    let s = shape_in ts d.kind.of in
    let fits : FitsSigned w64 c.object_word.result = search rules in
    let none : d.initial.items ≡ [] = no-items d.initial.items (subst (λ (xs : List Constant). length xs < 1) c.as_slice.ensures.value c.in-empty.len_below) in
    let some : 0 < words_for s = above (words_for s) (λ e. c.if-size-eq0.false (c.words-size.ensures ∙ e)) in
    to_z-of_z w64 c.object_word.result fits ∙ c.object_word.ensures
    ∙ ap (λ (k : ℕ). get_or (object_words s) (c.args.number % k) (pos 0)) c.words-size.ensures
    ∙ default-at ts d c.if-declared.false none c.requires.type_fit some c.args.number c.requires.within

pub declared_word-returns-in_default : goal.declared_word-returns-in_default
declared_word-returns-in_default t c =
    let ts = shapes c.args.types in
    let d = c.args.declared.now in
    let fits : FitsSigned w64 c.word_of-in_default.result = search rules in
    let more : 1 < length d.initial.items = subst (λ (xs : List Constant). 1 < length xs) c.as_slice.ensures.value (let m = c.in_default.len_at_least in omega arith) in
    let many = several-many ts d c.if-declared.false c.requires.fit c.requires.type_fit more in
    let within = c.requires.within in
    to_z-of_z w64 c.word_of-in_default.result fits ∙ c.word_of-in_default.ensures
    ∙ ap (λ (xs : List Constant). word_of (get_or xs c.args.number _)) c.as_slice.ensures.value
    ∙ several-at ts d c.if-declared.false c.requires.fit more c.args.number _ (omega arith)

pub object_word-returns-then-place-types : goal.object_word-returns-then-place-types
object_word-returns-then-place-types t c =
    whole-word (shape_in (shapes c.args.types) c.args.of) c.args.number
    (ap (shape_in (shapes c.args.types)) c.in-Derived.is ∙ past_types c.args.types.derived.now c.in-Derived.place c.if-place-types.true)

pub object_word-component_word-requires : goal.object_word-component_word-requires
object_word-component_word-requires t c =
    let xs = c.args.types.derived.now in
    let n = c.in-Derived.place in
    let x = c.index-types-place.result in
    let cs = c.deref.result.now in
    let its = c.deref.ensures.value ∙ ap (λ (y : Derived). y.components.items) (sym c.index-types-place.is) in
    let same = ap shapes_of c.before-2.ensures.derived in
    let can = type_can xs c.args.of n x x cs c.in-Derived.is c.if-place-types.false c.index-types-place.is its c.requires.fit in
    let size = type_total xs c.args.of n x x cs c.in-Derived.is c.if-place-types.false c.index-types-place.is its ∙ ap (λ ts. total ts (declared_each cs)) (sym same) in
    let least = c.words.type_inv in
    let small : words_for (shape_in (shapes c.args.types) c.args.of) < 18446744073709551616 = subst (λ k. k < 18446744073709551616) c.words.ensures least in (
      search rules,
      (
        c.before-2.ensures.tables,
        (
          subst (λ ts. AllCanBegin ts (declared_each cs)) (sym same) can,
          (subst (λ k. k < 18446744073709551616) size small, subst (λ k. c.args.number < k) size c.requires.within),
        ),
      ),
    )

pub object_word-returns : goal.object_word-returns
object_word-returns t c =
    let xs = c.args.types.derived.now in
    let n = c.in-Derived.place in
    let x = c.index-types-place.result in
    let cs = c.deref.result.now in
    let its = c.deref.ensures.value ∙ ap (λ (y : Derived). y.components.items) (sym c.index-types-place.is) in
    let same = ap shapes_of c.before-2.ensures.derived in
    let fits : FitsSigned w64 c.component_word.result = search rules in
    to_z-of_z w64 c.component_word.result fits ∙ c.component_word.ensures
    ∙ ap (λ ts. get_or (initial_words ts (declared_each cs)) c.args.number (pos 0)) same
    ∙ ap (λ ws. get_or ws c.args.number (pos 0)) (sym (type_initial xs c.args.of n x x cs c.in-Derived.is c.if-place-types.false c.index-types-place.is its))
