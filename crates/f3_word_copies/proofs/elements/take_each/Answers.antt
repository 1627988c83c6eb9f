use Rattle.std.proofs.Common.{◌∙◌, subst, refl, List, arith}
use Rattle.std.specs.Prelude.{pos, ◌+ℤ◌}
use Rattle.f3_desc.specs.declared.descriptor.Dim.{Dim}
use Rattle.f3_desc.specs.Inner.Congruent.{IsCongruent}
use Rattle.f3_room_arrays.specs.Inner.Numbers.{away}
use Rattle.f3_room_arrays.proofs.Placing.{copied-none}
use Rattle.f3_word_copies.proofs.Each.{each-within, each-live, each-room, each-more}
use Rattle.f3_word_copies.proofs.elements.take_each.Goals as goal

pub loop-number-init : goal.loop-number-init
loop-number-init g c = record { copied = copied-none _ c.args.from c.args.elements.now.block c.args.words c.requires.within.live; kept = refl }

pub fill-requires-clause-within : goal.fill-requires-clause-within
fill-requires-clause-within g c =
    let a = c.args.elements.now in
    let near = subst (λ (ds : List Dim). IsCongruent (pos c.place_of.result) (pos a.offset +ℤ away ds c.loop-number.number)) c.deref.ensures.0 c.place_of.ensures in
    let size = c.length-2.ensures in
    let few = c.if-prove-2.false in
    each-within _ c.args.from c.args.words c.args.count a c.requires.within c.requires.live c.requires.apart c.requires.few c.requires.room (omega arith)
    c.loop-number.number c.loop-number-test.true c.place_of.result near c.place_of.type_inv _ c.loop-number.invariant.copied _ refl refl c.new.ensures

pub fill-requires-clause-live : goal.fill-requires-clause-live
fill-requires-clause-live g c =
    let a = c.args.elements.now in
    let near = subst (λ (ds : List Dim). IsCongruent (pos c.place_of.result) (pos a.offset +ℤ away ds c.loop-number.number)) c.deref.ensures.0 c.place_of.ensures in
    let size = c.length-2.ensures in
    let few = c.if-prove-2.false in
    each-live _ c.args.from c.args.words c.args.count a c.requires.within c.requires.live c.requires.apart c.requires.few c.requires.room (omega arith)
    c.loop-number.number c.loop-number-test.true c.place_of.result near c.place_of.type_inv _ c.loop-number.invariant.copied

pub fill-requires-clause-room : goal.fill-requires-clause-room
fill-requires-clause-room g c =
    let a = c.args.elements.now in
    let near = subst (λ (ds : List Dim). IsCongruent (pos c.place_of.result) (pos a.offset +ℤ away ds c.loop-number.number)) c.deref.ensures.0 c.place_of.ensures in
    let size = c.length-2.ensures in
    let few = c.if-prove-2.false in
    each-room _ c.args.from c.args.words c.args.count a c.requires.within c.requires.live c.requires.apart c.requires.few c.requires.room (omega arith)
    c.loop-number.number c.loop-number-test.true c.place_of.result near c.place_of.type_inv _ c.loop-number.invariant.copied

pub loop-number-preserved : goal.loop-number-preserved
loop-number-preserved g c =
    let a = c.args.elements.now in
    let near = subst (λ (ds : List Dim). IsCongruent (pos c.place_of.result) (pos a.offset +ℤ away ds c.loop-number.number)) c.deref.ensures.0 c.place_of.ensures in
    let size = c.length-2.ensures in
    let few = c.if-prove-2.false in
    record {
      copied = each-more _ c.args.from c.args.words c.args.count a c.requires.within c.requires.live c.requires.apart c.requires.few c.requires.room (omega arith)
          c.loop-number.number c.loop-number-test.true c.place_of.result near c.place_of.type_inv _ c.loop-number.invariant.copied _ _ refl refl c.new.ensures c.fill.ensures.written;
      kept = c.fill.ensures.kept ∙ c.loop-number.invariant.kept;
    }
