use Rattle.std.proofs.Common.{◌≡◌, true, false, sym, ap, ◌∙◌, arith}
use Rattle.f3_meaning_whole.specs.Shape.{shape_in}
use Rattle.f3_desc.specs.Shape.{has_holder}
use Rattle.f3_desc.specs.Layout.{shape_in as layout_in}
use Rattle.f3_objects.proofs.Freeing.{frees_plain}
use Rattle.f3_objects.proofs.Trees.{holder-positive}
use Rattle.f3_room_objects.specs.Trees.{layout_for}
use Rattle.f3_room_places.specs.Places.{shapes}
use Rattle.f3_room_levels.specs.Levels.{variable_layout}
use Rattle.f3_room_levels.proofs.Returning.{variable_plain, variable_elements, variable_long}
use Rattle.f3_room_levels.proofs.giving.free_variable.Goals as goal

pub returns-then-not-holds_allocatable-clause-freed : goal.returns-then-not-holds_allocatable-clause-freed
returns-then-not-holds_allocatable-clause-freed g c = λ t h.
    let ts = shapes c.args.types in
    let d = c.args.declared.now in
    let l = layout_in c.args.layouts.now.layout c.piece_of-piece.result in
    let is : l ≡ layout_for (shape_in ts d.kind.of) = c.piece_of-piece.ensures.shape ts c.requires.layouts in
    let none : has_holder (layout_for (shape_in ts d.kind.of)) ≡ false = ap has_holder (sym is) ∙ sym c.holds_allocatable.ensures ∙ c.if-not-holds_allocatable.true in
    frees_plain (g.B.Blocks.blocks c.args.heap.now) c.args.block c.args.at (variable_layout ts d) t (variable_plain ts d c.if-declared.false none) h

pub room_of-requires-clause-small : goal.room_of-requires-clause-small
room_of-requires-clause-small g c =
    let h = c.requires.holds in
    let w = variable_long (shapes c.args.types) c.args.declared.now (g.B.Blocks.blocks c.args.heap.now) c.args.block c.args.at h.0 h.1 in
    omega (arith, c.length.ensures, c.length.type_inv)

pub nonzero_div-count : goal.nonzero_div-count
nonzero_div-count g c =
    let l = layout_in c.args.layouts.now.layout c.piece_of-piece.result in
    let some : has_holder l ≡ true = sym c.holds_allocatable.ensures ∙ c.if-not-holds_allocatable.false in
    let p = holder-positive l some in
    omega (arith, c.words_of.ensures)

pub free_elements-requires-clause-holds : goal.free_elements-requires-clause-holds
free_elements-requires-clause-holds g c =
    let ts = shapes c.args.types in
    let d = c.args.declared.now in
    let l = layout_in c.args.layouts.now.layout c.piece_of-piece.result in
    let h = c.requires.holds in
    let is : l ≡ layout_for (shape_in ts d.kind.of) = c.piece_of-piece.ensures.shape ts c.requires.layouts in
    let some : has_holder l ≡ true = sym c.holds_allocatable.ensures ∙ c.if-not-holds_allocatable.false in
    (h.0, variable_elements ts d (g.B.Blocks.blocks c.args.heap.now) c.args.block c.args.at h.0 h.1 c.if-declared.false l c.room_of.result c.words_of.result is some c.room_of.ensures c.words_of.ensures)

pub returns-clause-freed : goal.returns-clause-freed
returns-clause-freed g c = λ t h.
    let ts = shapes c.args.types in
    let d = c.args.declared.now in
    let l = layout_in c.args.layouts.now.layout c.piece_of-piece.result in
    let is : l ≡ layout_for (shape_in ts d.kind.of) = c.piece_of-piece.ensures.shape ts c.requires.layouts in
    let some : has_holder l ≡ true = sym c.holds_allocatable.ensures ∙ c.if-not-holds_allocatable.false in
    c.free_elements.ensures.freed t
    (variable_elements ts d (g.B.Blocks.blocks c.args.heap.now) c.args.block c.args.at t h c.if-declared.false l c.room_of.result c.words_of.result is some c.room_of.ensures c.words_of.ensures)
