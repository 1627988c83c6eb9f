use Rattle.std.proofs.Common.{◌≡◌, ℤ, List, ap, sym, ◌∙◌, arith}
use Rattle.std.specs.FinMap.{remove}
use Rattle.f3_live_blocks.specs.Blocks.{words_of, pins_of, with_words}
use Rattle.f3_objects.specs.Holds.{with_words_at}
use Rattle.f3_objects.proofs.Changes.{same_live, same_pins}
use Rattle.f3_objects.proofs.Unboxing.{whole_words, ok_then, never_err, boxed_fits, block_stays, unboxes, used_unboxed}
use Rattle.f3_objects.proofs.boxes.unbox_tree.Goals as goal

pub copy_words-requires : goal.copy_words-requires
copy_words-requires g c =
    let b = c.requires.3 in
    let f = boxed_fits (g.B.Blocks.blocks c.args.heap.now) c.args.block c.args.to c.args.to_at c.requires.0 c.requires.1 c.requires.2 b in
    record {
      from_live = b.ready.source.stands.live;
      to_live = b.ready.target.stands.live;
      different = λ e. b.ready.apart (sym e);
      from_within = omega (arith, c.length-count.ensures);
      to_within = omega (arith, c.length-count.ensures);
    }

pub give-requires : goal.give-requires
give-requires g c =
    let old = g.B.Blocks.blocks c.args.heap.now in
    let mid = g.B.Blocks.blocks c.copy_words.new.heap in
    let is : mid ≡ with_words old c.args.to (with_words_at (words_of old c.args.to) c.args.to_at (words_of old c.args.block)) =
    c.copy_words.ensures.written ∙ ap (λ (l : List ℤ). with_words old c.args.to (with_words_at (words_of old c.args.to) c.args.to_at l)) (whole_words (words_of old c.args.block) c.length-count.result c.length-count.ensures) in
    same_live old mid c.args.block (block_stays old mid c.args.block c.args.to c.args.to_at c.requires.0 c.requires.1 c.requires.2 c.requires.3 is) c.requires.3.ready.source.stands.live

pub returns-clause-unboxed : goal.returns-clause-unboxed
returns-clause-unboxed g c =
    let old = g.B.Blocks.blocks c.args.heap.now in
    let mid = g.B.Blocks.blocks c.copy_words.new.heap in
    let new = g.B.Blocks.blocks c.give.new.self in
    let is : mid ≡ with_words old c.args.to (with_words_at (words_of old c.args.to) c.args.to_at (words_of old c.args.block)) =
    c.copy_words.ensures.written ∙ ap (λ (l : List ℤ). with_words old c.args.to (with_words_at (words_of old c.args.to) c.args.to_at l)) (whole_words (words_of old c.args.block) c.length-count.result c.length-count.ensures) in
    ok_then c.give.result (new ≡ remove mid c.args.block) _ (λ given s t u b. unboxes old mid c.args.block c.args.to c.args.to_at s t u b is new given) c.give.ensures.given

pub returns-clause-used : goal.returns-clause-used
returns-clause-used g c =
    let old = g.B.Blocks.blocks c.args.heap.now in
    let mid = g.B.Blocks.blocks c.copy_words.new.heap in
    let new = g.B.Blocks.blocks c.give.new.self in
    let is : mid ≡ with_words old c.args.to (with_words_at (words_of old c.args.to) c.args.to_at (words_of old c.args.block)) =
    c.copy_words.ensures.written ∙ ap (λ (l : List ℤ). with_words old c.args.to (with_words_at (words_of old c.args.to) c.args.to_at l)) (whole_words (words_of old c.args.block) c.length-count.result c.length-count.ensures) in
    ok_then c.give.result (new ≡ remove mid c.args.block) _ (λ given. used_unboxed old mid c.args.block c.args.to c.args.to_at c.requires.0 c.requires.1 c.requires.2 c.requires.3 is new given) c.give.ensures.given

pub returns-clause-unpinned : goal.returns-clause-unpinned
returns-clause-unpinned g c =
    let old = g.B.Blocks.blocks c.args.heap.now in
    let mid = g.B.Blocks.blocks c.copy_words.new.heap in
    let is : mid ≡ with_words old c.args.to (with_words_at (words_of old c.args.to) c.args.to_at (words_of old c.args.block)) =
    c.copy_words.ensures.written ∙ ap (λ (l : List ℤ). with_words old c.args.to (with_words_at (words_of old c.args.to) c.args.to_at l)) (whole_words (words_of old c.args.block) c.length-count.result c.length-count.ensures) in
    let p = same_pins old mid c.args.block (block_stays old mid c.args.block c.args.to c.args.to_at c.requires.0 c.requires.1 c.requires.2 c.requires.3 is) in
    (λ o. sym p ∙ c.give.ensures.unpinned.0 o, λ z. c.give.ensures.unpinned.1 (p ∙ z))

pub returns-clause-refused : goal.returns-clause-refused
returns-clause-refused g c =
    let old = g.B.Blocks.blocks c.args.heap.now in
    let mid = g.B.Blocks.blocks c.copy_words.new.heap in
    let is : mid ≡ with_words old c.args.to (with_words_at (words_of old c.args.to) c.args.to_at (words_of old c.args.block)) =
    c.copy_words.ensures.written ∙ ap (λ (l : List ℤ). with_words old c.args.to (with_words_at (words_of old c.args.to) c.args.to_at l)) (whole_words (words_of old c.args.block) c.length-count.result c.length-count.ensures) in
    let p = same_pins old mid c.args.block (block_stays old mid c.args.block c.args.to c.args.to_at c.requires.0 c.requires.1 c.requires.2 c.requires.3 is) in
    let zero : pins_of old c.args.block ≡ 0 = omega (arith, c.pins.ensures, c.if-pins-gt0.false) in
    never_err c.give.result _ (c.give.ensures.unpinned.1 (p ∙ zero))
