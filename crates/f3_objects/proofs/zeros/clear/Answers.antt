use Rattle.std.proofs.Common.{◌≡◌, ℕ, ℤ, List, pos, replicate, refl, ap, subst, ◌∙◌, arith}
use Rattle.std.proofs.lemmas.List.{length-replicate, replicate_more}
use Rattle.f3_live_blocks.specs.Blocks.{words_of, with_words}
use Rattle.f3_objects.specs.Holds.{with_words_at}
use Rattle.f3_desc.specs.Shape.{width, whole}
use Rattle.f3_desc.specs.Layout.{pieces_of}
use Rattle.f3_objects.proofs.Writes.{Wrote, wrote_none, wrote_more, wrote_live, wrote_length}
use Rattle.f3_objects.proofs.Blanks.{blank_holds, blank-bare}
use Rattle.f3_objects.proofs.zeros.clear.Goals as goal

pub loop-i-init : goal.loop-i-init
loop-i-init g c = record { wrote = wrote_none (g.B.Blocks.blocks c.args.heap.now) c.args.block c.args.at c.requires.live; kept = refl }

pub write-requires-clause-live : goal.write-requires-clause-live
write-requires-clause-live g c = wrote_live (g.B.Blocks.blocks c.args.heap.now) (g.B.Blocks.blocks c.loop-i.heap) c.args.block c.args.at (replicate c.loop-i.i (pos 0)) c.loop-i.invariant.wrote

pub write-requires-clause-within : goal.write-requires-clause-within
write-requires-clause-within g c =
    let n = length-replicate c.loop-i.i (pos 0) in
    let w = c.requires.within in
    let l = wrote_length (g.B.Blocks.blocks c.args.heap.now) (g.B.Blocks.blocks c.loop-i.heap) c.args.block c.args.at (replicate c.loop-i.i (pos 0)) (omega (arith, c.words-i-end.ensures)) c.loop-i.invariant.wrote in
    omega (arith, c.words-i-end.ensures)

pub loop-i-preserved : goal.loop-i-preserved
loop-i-preserved g c =
    let w = c.requires.within in
    let more = wrote_more (g.B.Blocks.blocks c.args.heap.now) (g.B.Blocks.blocks c.loop-i.heap) (g.B.Blocks.blocks c.write.new.self) c.args.block c.args.at c.loop-i.i (replicate c.loop-i.i (pos 0)) (pos 0) c.loop-i.invariant.wrote (length-replicate c.loop-i.i (pos 0)) (omega (arith, c.words-i-end.ensures)) c.write.ensures.written in
    record {
      wrote = record { is = more.is ∙ ap (λ (l : List ℤ). with_words (g.B.Blocks.blocks c.args.heap.now) c.args.block (with_words_at (words_of (g.B.Blocks.blocks c.args.heap.now) c.args.block) c.args.at l)) (replicate_more c.loop-i.i (pos 0)) };
      kept = c.write.ensures.kept ∙ c.loop-i.invariant.kept;
    }

pub returns-clause-zeros : goal.returns-clause-zeros
returns-clause-zeros g c =
    let same : c.loop-i.i ≡ width (whole (pieces_of c.args.layout.now)) = omega (arith, c.words-i-end.ensures) in
    c.loop-i.invariant.wrote.is ∙ ap (λ (n : ℕ). with_words (g.B.Blocks.blocks c.args.heap.now) c.args.block (with_words_at (words_of (g.B.Blocks.blocks c.args.heap.now) c.args.block) c.args.at (replicate n (pos 0)))) same

pub returns-clause-unallocated : goal.returns-clause-unallocated
returns-clause-unallocated g c =
    let same : c.loop-i.i ≡ width (whole (pieces_of c.args.layout.now)) = omega (arith, c.words-i-end.ensures) in
    let P : ℕ → Type 0 = λ n. Wrote (g.B.Blocks.blocks c.args.heap.now) (g.B.Blocks.blocks c.loop-i.heap) c.args.block c.args.at (replicate n (pos 0)) in
    blank_holds (g.B.Blocks.blocks c.args.heap.now) (g.B.Blocks.blocks c.loop-i.heap) c.args.block c.args.at (whole (pieces_of c.args.layout.now)) c.requires.within (subst P same c.loop-i.invariant.wrote)

pub returns-clause-bare : goal.returns-clause-bare
returns-clause-bare g c = blank-bare (whole (pieces_of c.args.layout.now))
