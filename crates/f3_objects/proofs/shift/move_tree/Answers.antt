use Rattle.std.proofs.Common.{◌+◌, ◌*◌, take, drop, refl, ◌∙◌, arith, w64, rules}
use Rattle.f3_live_blocks.specs.Blocks.{words_of}
use mir.Val.{SFits}
use Rattle.std.proofs.lemmas.Int.{to_z-of_z}
use Rattle.f3_objects.proofs.Writes.{wrote_none, wrote_live, wrote_length}
use Rattle.f3_objects.proofs.Shifts.{holder_bounds, taken_length, wrote_from, moved_more, moved_all, moves, used_moved}
use Rattle.f3_objects.proofs.shift.move_tree.Goals as goal

pub block_at-requires-clause-within : goal.block_at-requires-clause-within
block_at-requires-clause-within g c =
    let old = g.B.Blocks.blocks c.args.heap.now in
    let src = c.requires.source in
    let dst = c.requires.target in
    let la = holder_bounds old c.args.from c.args.from_at c.args.rank src.0 src.1 src.2 in
    let lb = holder_bounds old c.args.to c.args.to_at c.args.rank dst.0 dst.1 dst.2 in
    omega arith

pub overflow_mul-i-end : goal.overflow_mul-i-end
overflow_mul-i-end g c =
    let old = g.B.Blocks.blocks c.args.heap.now in
    let src = c.requires.source in
    let dst = c.requires.target in
    let la = holder_bounds old c.args.from c.args.from_at c.args.rank src.0 src.1 src.2 in
    let lb = holder_bounds old c.args.to c.args.to_at c.args.rank dst.0 dst.1 dst.2 in
    omega (arith, c.length.ensures, c.length.type_inv)

pub overflow_add-i-end : goal.overflow_add-i-end
overflow_add-i-end g c =
    let old = g.B.Blocks.blocks c.args.heap.now in
    let src = c.requires.source in
    let dst = c.requires.target in
    let la = holder_bounds old c.args.from c.args.from_at c.args.rank src.0 src.1 src.2 in
    let lb = holder_bounds old c.args.to c.args.to_at c.args.rank dst.0 dst.1 dst.2 in
    omega (arith, c.length.ensures, c.length.type_inv)

pub loop-i-init : goal.loop-i-init
loop-i-init g c = record { wrote = wrote_none (g.B.Blocks.blocks c.args.heap.now) c.args.to c.args.to_at c.requires.target.2.stands.live; kept = refl }

pub overflow_add-from_at : goal.overflow_add-from_at
overflow_add-from_at g c =
    let old = g.B.Blocks.blocks c.args.heap.now in
    let src = c.requires.source in
    let dst = c.requires.target in
    let la = holder_bounds old c.args.from c.args.from_at c.args.rank src.0 src.1 src.2 in
    let lb = holder_bounds old c.args.to c.args.to_at c.args.rank dst.0 dst.1 dst.2 in
    omega (arith, c.length.ensures, c.length.type_inv)

pub read-word-requires-clause-live : goal.read-word-requires-clause-live
read-word-requires-clause-live g c =
    let old = g.B.Blocks.blocks c.args.heap.now in
    let src = c.requires.source in
    let dst = c.requires.target in
    let la = holder_bounds old c.args.from c.args.from_at c.args.rank src.0 src.1 src.2 in
    let lb = holder_bounds old c.args.to c.args.to_at c.args.rank dst.0 dst.1 dst.2 in
    let now = g.B.Blocks.blocks c.loop-i.heap in
    let size = taken_length old c.args.from c.args.from_at (1 + 2 * c.args.rank) c.loop-i.i (omega arith) la in
    let w = wrote_from old now c.args.from c.args.to c.args.to_at (take c.loop-i.i (drop c.args.from_at (words_of old c.args.from))) c.loop-i.invariant.wrote (omega arith) src.2.stands.live in
    w.0

pub read-word-requires-clause-within : goal.read-word-requires-clause-within
read-word-requires-clause-within g c =
    let old = g.B.Blocks.blocks c.args.heap.now in
    let src = c.requires.source in
    let dst = c.requires.target in
    let la = holder_bounds old c.args.from c.args.from_at c.args.rank src.0 src.1 src.2 in
    let lb = holder_bounds old c.args.to c.args.to_at c.args.rank dst.0 dst.1 dst.2 in
    let now = g.B.Blocks.blocks c.loop-i.heap in
    let size = taken_length old c.args.from c.args.from_at (1 + 2 * c.args.rank) c.loop-i.i (omega arith) la in
    let w = wrote_from old now c.args.from c.args.to c.args.to_at (take c.loop-i.i (drop c.args.from_at (words_of old c.args.from))) c.loop-i.invariant.wrote (omega arith) src.2.stands.live in
    let k = w.1 in
    omega arith

pub overflow_add-to_at : goal.overflow_add-to_at
overflow_add-to_at g c =
    let old = g.B.Blocks.blocks c.args.heap.now in
    let src = c.requires.source in
    let dst = c.requires.target in
    let la = holder_bounds old c.args.from c.args.from_at c.args.rank src.0 src.1 src.2 in
    let lb = holder_bounds old c.args.to c.args.to_at c.args.rank dst.0 dst.1 dst.2 in
    omega (arith, c.length-2.ensures, c.length-2.type_inv)

pub write-requires-clause-live : goal.write-requires-clause-live
write-requires-clause-live g c = wrote_live (g.B.Blocks.blocks c.args.heap.now) (g.B.Blocks.blocks c.loop-i.heap) c.args.to c.args.to_at (take c.loop-i.i (drop c.args.from_at (words_of (g.B.Blocks.blocks c.args.heap.now) c.args.from))) c.loop-i.invariant.wrote

pub write-requires-clause-within : goal.write-requires-clause-within
write-requires-clause-within g c =
    let old = g.B.Blocks.blocks c.args.heap.now in
    let src = c.requires.source in
    let dst = c.requires.target in
    let la = holder_bounds old c.args.from c.args.from_at c.args.rank src.0 src.1 src.2 in
    let lb = holder_bounds old c.args.to c.args.to_at c.args.rank dst.0 dst.1 dst.2 in
    let now = g.B.Blocks.blocks c.loop-i.heap in
    let size = taken_length old c.args.from c.args.from_at (1 + 2 * c.args.rank) c.loop-i.i (omega arith) la in
    let w = wrote_from old now c.args.from c.args.to c.args.to_at (take c.loop-i.i (drop c.args.from_at (words_of old c.args.from))) c.loop-i.invariant.wrote (omega arith) src.2.stands.live in
    let k = wrote_length old now c.args.to c.args.to_at (take c.loop-i.i (drop c.args.from_at (words_of old c.args.from))) (omega arith) c.loop-i.invariant.wrote in
    omega arith

pub loop-i-preserved : goal.loop-i-preserved
loop-i-preserved g c =
    let old = g.B.Blocks.blocks c.args.heap.now in
    let src = c.requires.source in
    let dst = c.requires.target in
    let la = holder_bounds old c.args.from c.args.from_at c.args.rank src.0 src.1 src.2 in
    let lb = holder_bounds old c.args.to c.args.to_at c.args.rank dst.0 dst.1 dst.2 in
    let fits : SFits w64 c.read-word.result = search rules in
    record {
      wrote = moved_more old (g.B.Blocks.blocks c.loop-i.heap) (g.B.Blocks.blocks c.write.new.self) c.args.from c.args.from_at c.args.to c.args.to_at (1 + 2 * c.args.rank) c.loop-i.i _ c.loop-i.invariant.wrote c.loop-i-test.true la lb c.requires.apart (to_z-of_z w64 c.read-word.result fits ∙ c.read-word.ensures) c.write.ensures.written;
      kept = c.write.ensures.kept ∙ c.loop-i.invariant.kept;
    }

pub write-requires-2-clause-live : goal.write-requires-2-clause-live
write-requires-2-clause-live g c =
    let old = g.B.Blocks.blocks c.args.heap.now in
    let src = c.requires.source in
    let dst = c.requires.target in
    let la = holder_bounds old c.args.from c.args.from_at c.args.rank src.0 src.1 src.2 in
    let lb = holder_bounds old c.args.to c.args.to_at c.args.rank dst.0 dst.1 dst.2 in
    let now = g.B.Blocks.blocks c.loop-i.heap in
    let size = taken_length old c.args.from c.args.from_at (1 + 2 * c.args.rank) c.loop-i.i (omega arith) la in
    let w = wrote_from old now c.args.from c.args.to c.args.to_at (take c.loop-i.i (drop c.args.from_at (words_of old c.args.from))) c.loop-i.invariant.wrote (omega arith) src.2.stands.live in
    w.0

pub write-requires-2-clause-within : goal.write-requires-2-clause-within
write-requires-2-clause-within g c =
    let old = g.B.Blocks.blocks c.args.heap.now in
    let src = c.requires.source in
    let dst = c.requires.target in
    let la = holder_bounds old c.args.from c.args.from_at c.args.rank src.0 src.1 src.2 in
    let lb = holder_bounds old c.args.to c.args.to_at c.args.rank dst.0 dst.1 dst.2 in
    let now = g.B.Blocks.blocks c.loop-i.heap in
    let size = taken_length old c.args.from c.args.from_at (1 + 2 * c.args.rank) c.loop-i.i (omega arith) la in
    let w = wrote_from old now c.args.from c.args.to c.args.to_at (take c.loop-i.i (drop c.args.from_at (words_of old c.args.from))) c.loop-i.invariant.wrote (omega arith) src.2.stands.live in
    let k = w.1 in
    omega arith

pub returns-2-clause-moved : goal.returns-2-clause-moved
returns-2-clause-moved g c = λ s t h beneath.
    let dst = c.requires.target in
    let old = g.B.Blocks.blocks c.args.heap.now in
    moves old (g.B.Blocks.blocks c.write-2.new.self) c.args.from c.args.from_at c.args.to c.args.to_at c.args.rank s dst.0 t dst.1 h dst.2 dst.3 beneath c.requires.apart (moved_all old (g.B.Blocks.blocks c.loop-i.heap) (g.B.Blocks.blocks c.write-2.new.self) c.args.from c.args.from_at c.args.to c.args.to_at c.args.rank c.loop-i.i s t h c.loop-i-test.false (omega arith) c.loop-i.invariant.wrote c.write-2.ensures.written)

pub returns-2-clause-used : goal.returns-2-clause-used
returns-2-clause-used g c =
    let old = g.B.Blocks.blocks c.args.heap.now in
    let src = c.requires.source in
    let dst = c.requires.target in
    let la = holder_bounds old c.args.from c.args.from_at c.args.rank src.0 src.1 src.2 in
    let lb = holder_bounds old c.args.to c.args.to_at c.args.rank dst.0 dst.1 dst.2 in
    let size = taken_length old c.args.from c.args.from_at (1 + 2 * c.args.rank) c.loop-i.i (omega arith) la in
    used_moved old (g.B.Blocks.blocks c.loop-i.heap) (g.B.Blocks.blocks c.write-2.new.self) c.args.from c.args.from_at c.args.to c.args.to_at (take c.loop-i.i (drop c.args.from_at (words_of old c.args.from))) src.2.stands.live dst.2.stands.live c.loop-i.invariant.wrote (omega arith) c.write-2.ensures.written
