use Rattle.std.proofs.Common.{arith, take, subst, List, ◌≡◌}
use Rattle.std.proofs.lemmas.List.{take_all}
use Rattle.f3_program.specs.declared.declarations.Derived.{Derived}
use Rattle.f3_meaning_whole.specs.Shape.{shapes_of}
use Rattle.f3_room_types.specs.Pieces.{AreNumbered, layouts_of}
use Rattle.f3_room_types.proofs.LayoutLaws.{next_number, next_layout, no_layout, some_piece, all_within, are_layouts}
use Rattle.f3_room_types.proofs.layouts.Layouts.new.Goals as goal

pub returns-in-None-clause-layouts : goal.returns-in-None-clause-layouts
returns-in-None-clause-layouts c = no_layout c.args.types.now c.loop-one.one-index c.one-item.result c.deref-in-loop-one.result.now c.loop-one.pieces.pieces.items c.whole.new.pieces.pieces.items c.deref.result.now
    c.loop-one.numbers.items c.in_ok-number.field-0 (omega arith) c.one-item.is c.deref.ensures.value c.deref-in-loop-one.ensures.value c.loop-one.invariant.numbered c.in_ok-number.ensures c.in-None.is

pub loop-one-preserved : goal.loop-one-preserved
loop-one-preserved c = record {
  numbered = next_number c.args.types.now c.loop-one.one-index c.one-item.result c.deref-in-loop-one.result.now c.loop-one.pieces.pieces.items c.whole.new.pieces.pieces.items c.deref.result.now
      c.loop-one.numbers.items c.in_ok-number.field-0 (omega arith) c.one-item.is c.deref.ensures.value c.deref-in-loop-one.ensures.value c.loop-one.invariant.numbered c.in_ok-number.ensures c.in-Some.number _ c.in-Some.is
      c.in_ok-push-in-Some.ensures.items;
  all = next_layout c.args.types.now c.loop-one.one-index c.one-item.result c.deref-in-loop-one.result.now c.loop-one.pieces.pieces.items c.whole.new.pieces.pieces.items c.deref.result.now
      c.loop-one.numbers.items c.in_ok-number.field-0 (omega arith) c.one-item.is c.deref.ensures.value c.deref-in-loop-one.ensures.value c.loop-one.invariant.numbered c.in_ok-number.ensures c.in-Some.number c.in-Some.is
      c.loop-one.invariant.all;
}

pub invariant_of-result : goal.invariant_of-result
invariant_of-result c = record {
  some = some_piece c.loop-one.pieces.pieces.items _ c.in_ok-layout.ensures c.loop-one.invariant.numbered.word.within;
  within = all_within c.loop-one.pieces.pieces.items _ _ c.loop-one.numbers.items c.in_ok-layout.ensures c.loop-one.invariant.numbered.types;
}

pub returns-clause-layouts : goal.returns-clause-layouts
returns-clause-layouts c =
    let all : take c.loop-one.one-index c.args.types.now ≡ c.args.types.now = take_all c.loop-one.one-index c.args.types.now (omega arith) in
    let numbered : AreNumbered (layouts_of c.loop-one.pieces.pieces.items) (shapes_of c.args.types.now) c.loop-one.numbers.items
    = subst (λ (xs : List Derived). AreNumbered (layouts_of c.loop-one.pieces.pieces.items) (shapes_of xs) c.loop-one.numbers.items) all c.loop-one.invariant.numbered in
    are_layouts c.in_ok-layout.layout c.loop-one.pieces.pieces.items (shapes_of c.args.types.now) c.loop-one.numbers.items c.in_ok-layout.ensures numbered
