use Rattle.std.proofs.Common.{◌≡◌, ◌∙◌, sym, ap, subst, refl, ℕ, ◌+◌, ◌*◌, ◌≤◌, false, length, arith}
use Rattle.std.specs.Prelude.{pos, Err}
use Rattle.f3_live_blocks.specs.Blocks.{words_of, with_words}
use Rattle.f3_heap_laws.specs.Answers.{Memory, sizes}
use Rattle.f3_heap.specs.Answers.{answer_of}
use Rattle.f3_heap.specs.declared.blocks.TakeFault.{TakeFault}
use Rattle.f3_desc.specs.Descriptor.{places}
use Rattle.f3_room_arrays.specs.Changes.{LieWithin}
use Rattle.f3_room_arrays.specs.Words.{copied}
use Rattle.f3_desc.specs.Descriptor.{progression}
use Rattle.f3_word_reads.specs.Packed.{packed_from}
use Rattle.f3_word_reads.proofs.Copying.{needs-storage, words-same, large-as, taken-short, total-is, asked-is, mid-live, gather-within, gather-apart, gather-room, was-read, none-copied, none-written}
use Rattle.f3_word_reads.proofs.Strides.{part-short}
use Rattle.f3_word_reads.proofs.reading.copied.Goals as goal
use Rattle.f3_word_reads.proofs.reading.copied.Goals.{then-packed-gt0, else-packed-gt0}

pub returns-in-Err-Full-clause-reads : goal.returns-in-Err-Full-clause-reads
returns-in-Err-Full-clause-reads g c p x r there =
    let old = g.B.Blocks.blocks c.args.heap.now in
    let size = c.words-size.ensures ∙ words-same p c.args.types old x c.args.area.now r there in
    let is = asked-is p c.args.types old x c.args.area.now r there _ _ _ c.pack-packed.ensures.words c.deref.ensures.0 size in (
      needs-storage p c.args.types _ x c.args.area.now r there c.requires.large,
      subst (λ n. g.B.Blocks.has_room c.args.heap.now n ≡ false) is (c.in-Err-Full.ensures.full.0 (ap Err c.in-Err-Full.field-0-is)),
    )

pub returns-in-Err-Memory-clause-reads : goal.returns-in-Err-Memory-clause-reads
returns-in-Err-Memory-clause-reads g c p x r there =
    let old = g.B.Blocks.blocks c.args.heap.now in
    let size = c.words-size.ensures ∙ words-same p c.args.types old x c.args.area.now r there in
    let is = asked-is p c.args.types old x c.args.area.now r there _ _ _ c.pack-packed.ensures.words c.deref.ensures.0 size in
    subst (λ n. g.B.Blocks.allows (g.B.Blocks.kept c.args.heap.now) (sizes old) n Memory) is
    (subst (λ (f : TakeFault). g.B.Blocks.allows (g.B.Blocks.kept c.args.heap.now) (sizes old) c.pack-packed.result.words (answer_of (Err f)))
    c.in-Err-Memory.field-0-is c.in-Err-Memory.ensures.allowed)

pub gather-requires-clause-within : goal.gather-requires-clause-within
gather-requires-clause-within g c =
    let q = c.requires.there in
    let size = c.words-size.ensures ∙ words-same q.0 c.args.types _ q.1 c.args.area.now q.2 q.3 in
    let short = taken-short _ _ c.in-Ok.block _ c.in-Ok.ensures.taken (c.blocks_are_short.ensures c.in-Ok.block) in
    let total = total-is _ _ _ _ c.args.area.now.elements.dims.items c.pack-packed.ensures.words c.deref.ensures.0 size short in
    subst (LieWithin (g.B.Blocks.blocks c.take.new.self) c.args.area.now.elements) (sym size)
    (gather-within q.0 c.args.types _ q.1 c.args.area.now q.2 q.3 c.in-Ok.block c.in-Ok.ensures.fresh c.pack-packed.result.words short total _ c.in-Ok.ensures.taken c.if-packed-gt0.true)

pub gather-requires-clause-short : goal.gather-requires-clause-short
gather-requires-clause-short g c =
    let q = c.requires.there in
    let short = taken-short _ _ c.in-Ok.block _ c.in-Ok.ensures.taken (c.blocks_are_short.ensures c.in-Ok.block) in
    let total = total-is _ c.words-size.result _ _ c.args.area.now.elements.dims.items c.pack-packed.ensures.words c.deref.ensures.0 refl short in
    part-short _ c.words-size.result _ total c.if-packed-gt0.true short

pub gather-requires-clause-live : goal.gather-requires-clause-live
gather-requires-clause-live g c =
    let q = c.requires.there in
    let size = c.words-size.ensures ∙ words-same q.0 c.args.types _ q.1 c.args.area.now q.2 q.3 in
    let short = taken-short _ _ c.in-Ok.block _ c.in-Ok.ensures.taken (c.blocks_are_short.ensures c.in-Ok.block) in
    let total = total-is _ _ _ _ c.args.area.now.elements.dims.items c.pack-packed.ensures.words c.deref.ensures.0 size short in
    mid-live q.0 c.args.types _ q.1 c.args.area.now q.2 q.3 c.in-Ok.block c.in-Ok.ensures.fresh c.pack-packed.result.words short total _ c.in-Ok.ensures.taken

pub gather-requires-clause-apart : goal.gather-requires-clause-apart
gather-requires-clause-apart g c =
    let q = c.requires.there in
    let size = c.words-size.ensures ∙ words-same q.0 c.args.types _ q.1 c.args.area.now q.2 q.3 in
    let short = taken-short _ _ c.in-Ok.block _ c.in-Ok.ensures.taken (c.blocks_are_short.ensures c.in-Ok.block) in
    let total = total-is _ _ _ _ c.args.area.now.elements.dims.items c.pack-packed.ensures.words c.deref.ensures.0 size short in
    gather-apart q.0 c.args.types _ q.1 c.args.area.now q.2 q.3 c.in-Ok.block c.in-Ok.ensures.fresh c.pack-packed.result.words short total _ c.in-Ok.ensures.taken c.if-packed-gt0.true

pub gather-requires-clause-room : goal.gather-requires-clause-room
gather-requires-clause-room g c =
    let q = c.requires.there in
    let size = c.words-size.ensures ∙ words-same q.0 c.args.types _ q.1 c.args.area.now q.2 q.3 in
    let short = taken-short _ _ c.in-Ok.block _ c.in-Ok.ensures.taken (c.blocks_are_short.ensures c.in-Ok.block) in
    let total = total-is _ _ _ _ c.args.area.now.elements.dims.items c.pack-packed.ensures.words c.deref.ensures.0 size short in
    subst (λ (w : ℕ). 0 + length (places c.args.area.now.elements) * w ≤ length (words_of (g.B.Blocks.blocks c.take.new.self) c.in-Ok.block)) (sym size)
    (gather-room q.0 c.args.types _ q.1 c.args.area.now q.2 q.3 c.in-Ok.block c.in-Ok.ensures.fresh c.pack-packed.result.words short total _ c.in-Ok.ensures.taken)

pub returns-clause-reads : goal.returns-clause-reads
returns-clause-reads g c p x r there =
    let old = g.B.Blocks.blocks c.args.heap.now in
    let mid = g.B.Blocks.blocks c.take.new.self in
    let a = c.args.area.now in
    let k : ℕ = length (places a.elements) in
    let size = c.words-size.ensures ∙ words-same p c.args.types old x a r there in
    let short = taken-short _ _ c.in-Ok.block _ c.in-Ok.ensures.taken (c.blocks_are_short.ensures c.in-Ok.block) in
    let total = total-is _ _ _ _ a.elements.dims.items c.pack-packed.ensures.words c.deref.ensures.0 size short in
    let large = large-as p c.args.types a there.derived c.requires.large in
    let dims = c.pack-packed.ensures.dims ∙ ap (packed_from c.words-size.result) c.deref.ensures.0 ∙ ap (λ (w : ℕ). packed_from w a.elements.dims.items) size in
    elim c.if-packed-gt0.branch [
      | then-packed-gt0 w ↦
          let source = ap (λ (n : ℕ). with_words mid c.in-Ok.block (copied n (words_of mid c.in-Ok.block) (words_of mid a.elements.block) (progression (pos 0) (pos n) k) (places a.elements))) size in
          was-read p c.args.types old x a r there c.in-Ok.block c.in-Ok.ensures.fresh c.pack-packed.result.words short total mid c.in-Ok.ensures.taken _ _
          (ap (λ h. g.B.Blocks.blocks h) w.heap-is ∙ w.gather.ensures.written ∙ source) refl large _ dims refl refl refl
      | else-packed-gt0 w ↦
          let none : c.pack-packed.result.words ≡ 0 = omega arith in
          was-read p c.args.types old x a r there c.in-Ok.block c.in-Ok.ensures.fresh c.pack-packed.result.words short total mid c.in-Ok.ensures.taken _ _
          (ap (λ h. g.B.Blocks.blocks h) w.heap-is ∙ none-written p c.args.types old x a r there c.in-Ok.block c.in-Ok.ensures.fresh c.pack-packed.result.words short total mid c.in-Ok.ensures.taken)
          (none-copied p c.args.types old x a r there c.in-Ok.block c.in-Ok.ensures.fresh c.pack-packed.result.words short total mid c.in-Ok.ensures.taken none) large _ dims refl refl refl
    ]
