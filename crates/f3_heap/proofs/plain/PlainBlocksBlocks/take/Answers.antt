-- A new block of zeros.
use Rattle.std.proofs.Common.{◌<◌, ◌∙◌, ◌^◌, rules, pos, ap, sym, refl, length, arith}
use Rattle.std.proofs.lemmas.List.{length-replicate}
use Rattle.std.specs.FinMap.{get, insert}
use Rattle.f3_live_blocks.specs.Blocks.{Heap, with_taken}
use Rattle.f3_heap_laws.proofs.Refusals.{plain_taken}
use Rattle.f3_heap.specs.Plain.{live_slots}
use Rattle.f3_heap.proofs.Slots.{put-fresh, put-taken, put-account, fits_in}
use Rattle.f3_heap.proofs.plain.PlainBlocksBlocks.take.Goals as goal

pub overflow_add-self : goal.overflow_add-self
overflow_add-self c =
    let fits = fits_in c.args.self.now c.self.inside.slots.items c.self.inside.size c.self.inside.used c.args.words c.room.result c.self.view_is c.self.invariant.account c.if-not-room.false c.room.ensures in
    let small : c.self.inside.size < 2 ^ 64 = search rules in
    search (rules, fits)

pub invariant_of-self-2 : goal.invariant_of-self-2
invariant_of-self-2 c =
    rw c.size_of_block.ensures (put-account c.self.inside.size c.self.inside.used (length c.self.inside.scratch.items) (length c.lengthen.new.list.items) c.args.words refl
    (ap length c.in_ok-zeros.ensures.zeros ∙ length-replicate c.args.words (pos 0)) c.in_ok-lengthen.ensures.long c.lengthen.ensures.kept
    (fits_in c.args.self.now c.self.inside.slots.items c.self.inside.size c.self.inside.used c.args.words c.room.result c.self.view_is c.self.invariant.account c.if-not-room.false c.room.ensures)
    c.self.invariant c.in_ok-at.ensures.put)

pub returns-clause-fresh : goal.returns-clause-fresh
returns-clause-fresh c = ap (λ (h : Heap). get h.blocks c.at.result) (sym c.self.view_is) ∙ put-fresh c.at.result c.at.ensures c.in_ok-at.ensures.put

pub returns-clause-taken : goal.returns-clause-taken
returns-clause-taken c =
    put-taken c.at.result c.at.ensures refl c.in_ok-at.ensures.put
    ∙ ap (λ ws. insert (live_slots c.self.inside.slots.items) c.at.result (record { words = ws; pins = 0 })) c.in_ok-zeros.ensures.zeros
    ∙ ap (λ (h : Heap). with_taken h.blocks c.at.result c.args.words) c.self.view_is

pub returns-clause-allowed : goal.returns-clause-allowed
returns-clause-allowed c =
    plain_taken c.args.self.now.size c.args.self.now.blocks c.args.words c.at.result (sym c.room.ensures ∙ cc)
    (ap (λ (h : Heap). get h.blocks c.at.result) (sym c.self.view_is) ∙ put-fresh c.at.result c.at.ensures c.in_ok-at.ensures.put) (omega (arith, c.at.ensures))
