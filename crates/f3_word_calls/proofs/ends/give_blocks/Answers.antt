use Rattle.std.proofs.Common.{◌≡◌, ◌∙◌, ◌<◌, ◌+◌, [], ◌∷◌, length, ap, refl, arith}
use Rattle.std.specs.FinMap.{remove}
use Rattle.std.proofs.lemmas.List.{length-append}
use Rattle.f3_word_calls.proofs.Giving.{giving_first, giving_live, giving_more, giving_unpinned, given_all, where_ok}
use Rattle.f3_word_calls.proofs.ends.give_blocks.Goals as goal

pub loop-blocks-init : goal.loop-blocks-init
loop-blocks-init g c = record { giving = giving_first (g.B.Blocks.blocks c.args.heap.now) c.args.blocks.now.items.items c.args.count; room = refl; kept = refl }

pub give-given-requires : goal.give-given-requires
give-given-requires g c =
    let all : c.len.result ≡ length c.loop-blocks.blocks.items.items = c.len.ensures ∙ c.loop-blocks.blocks.items.ok.0 in
    let test = c.loop-blocks-test.true in
    let more : c.args.count < length c.loop-blocks.blocks.items.items = omega (arith, all, test) in
    giving_live (g.B.Blocks.blocks c.args.heap.now) (g.B.Blocks.blocks c.loop-blocks.heap) c.args.blocks.now.items.items c.loop-blocks.blocks.items.items
    c.pop.new.self.items.items c.args.count c.in-Some.block c.loop-blocks.invariant.giving c.in-Some.ensures.items more c.requires

pub loop-blocks-smaller-in-Some : goal.loop-blocks-smaller-in-Some
loop-blocks-smaller-in-Some g c =
    let e : length c.loop-blocks.blocks.items.items ≡ length c.pop.new.self.items.items + 1 =
    ap length c.in-Some.ensures.items ∙ length-append c.pop.new.self.items.items (c.in-Some.block ∷ []) in
    omega (arith, e)

pub loop-blocks-preserved-in-Some : goal.loop-blocks-preserved-in-Some
loop-blocks-preserved-in-Some g c =
    let all : c.len.result ≡ length c.loop-blocks.blocks.items.items = c.len.ensures ∙ c.loop-blocks.blocks.items.ok.0 in
    let test = c.loop-blocks-test.true in
    let more : c.args.count < length c.loop-blocks.blocks.items.items = omega (arith, all, test) in
    let m = g.B.Blocks.blocks c.args.heap.now in
    let n = g.B.Blocks.blocks c.loop-blocks.heap in
    let none = giving_unpinned m n c.args.blocks.now.items.items c.loop-blocks.blocks.items.items
    c.pop.new.self.items.items c.args.count c.in-Some.block c.loop-blocks.invariant.giving c.in-Some.ensures.items more c.requires in
    record {
      giving = giving_more m n c.args.blocks.now.items.items c.loop-blocks.blocks.items.items c.pop.new.self.items.items c.args.count c.in-Some.block
          c.loop-blocks.invariant.giving c.in-Some.ensures.items more (g.B.Blocks.blocks c.give-given.new.self)
          (where_ok c.give-given.result (g.B.Blocks.blocks c.give-given.new.self ≡ remove n c.in-Some.block) (c.give-given.ensures.unpinned.1 none) c.give-given.ensures.given);
      room = c.in-Some.ensures.room ∙ c.loop-blocks.invariant.room;
      kept = c.give-given.ensures.kept ∙ c.loop-blocks.invariant.kept;
    }

pub loop-blocks-preserved : goal.loop-blocks-preserved
loop-blocks-preserved g c =
    let all : c.len.result ≡ length c.loop-blocks.blocks.items.items = c.len.ensures ∙ c.loop-blocks.blocks.items.ok.0 in
    let test = c.loop-blocks-test.true in
    let none : length c.loop-blocks.blocks.items.items ≡ 0 = ap length c.in_default.ensures.items.0 in
    absurd (omega (arith, all, test, none))

pub returns-clause-gone : goal.returns-clause-gone
returns-clause-gone g c =
    let all : c.len.result ≡ length c.loop-blocks.blocks.items.items = c.len.ensures ∙ c.loop-blocks.blocks.items.ok.0 in
    let test = c.loop-blocks-test.false in
    (given_all (g.B.Blocks.blocks c.args.heap.now) (g.B.Blocks.blocks c.loop-blocks.heap) c.args.blocks.now.items.items c.loop-blocks.blocks.items.items
    c.args.count c.loop-blocks.invariant.giving (omega (arith, all, test))).1

pub returns-clause-blocks : goal.returns-clause-blocks
returns-clause-blocks g c =
    let all : c.len.result ≡ length c.loop-blocks.blocks.items.items = c.len.ensures ∙ c.loop-blocks.blocks.items.ok.0 in
    let test = c.loop-blocks-test.false in
    (given_all (g.B.Blocks.blocks c.args.heap.now) (g.B.Blocks.blocks c.loop-blocks.heap) c.args.blocks.now.items.items c.loop-blocks.blocks.items.items
    c.args.count c.loop-blocks.invariant.giving (omega (arith, all, test))).0

pub returns-clause-room : goal.returns-clause-room
returns-clause-room g c = c.loop-blocks.invariant.room

pub returns-clause-kept : goal.returns-clause-kept
returns-clause-kept g c = c.loop-blocks.invariant.kept
