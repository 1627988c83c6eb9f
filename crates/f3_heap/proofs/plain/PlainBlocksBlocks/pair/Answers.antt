-- The target's words are written, and the source's were copied.
use Rattle.std.proofs.Common.{◌<◌, ◌∙◌, ℕ, List, ap, sym, subst, refl, arith, slice_set, length, take, drop, ◌++◌}
use Rattle.std.specs.List.{length_refill}
use Rattle.std.specs.Vec.{with_items}
use Rattle.std.proofs.lemmas.List.{with_items_is}
use Rattle.f3_heap.specs.declared.plain.Slot.{Slot}
use Rattle.f3_live_blocks.specs.Blocks.{Heap, IsLive, words_of, written_over}
use Rattle.f3_heap.specs.Plain.{live_slots, IsAccounted}
use Rattle.f3_heap.proofs.Slots.{live-within, written-accounted, slot-written, read-words}
use Rattle.f3_heap.proofs.plain.PlainBlocksBlocks.pair.Goals as goal

pub index_mut-target-requires : goal.index_mut-target-requires
index_mut-target-requires c =
    let within : c.place-place.result < length c.self.inside.slots.items = live-within c.self.inside.slots.items c.place-place.result c.args.to c.place-place.ensures (subst (λ (h : Heap). IsLive h.blocks c.args.to) (sym c.self.view_is) c.requires.to_live) in
    omega arith

pub invariant_of-self-lent : goal.invariant_of-self-lent
invariant_of-self-lent c = λ w.
    subst (λ (n : ℕ). IsAccounted (slice_set c.self.inside.slots.items c.place-place.result (record { live = c.index_mut-target.result.now.live; words = with_items c.index_mut-target.result.now.words w; pins = c.index_mut-target.result.now.pins })) c.self.inside.size c.self.inside.used n)
    (sym c.self.inside.scratch.ok.0 ∙ length_refill c.self.inside.scratch.len c.self.inside.scratch.items c.copy_words.new.list c.self.inside.scratch.ok.0)
    (written-accounted c.self.inside.slots.items c.place-place.result c.args.to c.index_mut-target.result.now c.args.self.now.blocks (ap (λ (h : Heap). h.blocks) c.self.view_is) c.place-place.ensures c.requires.to_live c.index_mut-target.ensures.value
    (record { live = c.index_mut-target.result.now.live; words = with_items c.index_mut-target.result.now.words w; pins = c.index_mut-target.result.now.pins }) c.self.inside.size c.self.inside.used (length c.self.inside.scratch.items) refl
    (sym (length_refill c.index_mut-target.result.now.words.len c.index_mut-target.result.now.words.items w c.index_mut-target.result.now.words.ok.0) ∙ c.index_mut-target.result.now.words.ok.0)
    c.self.invariant)

pub returns : goal.returns
returns c =
    let words = read-words c.self.inside.slots.items c.place-place.result c.args.to c.index_mut-target.result.now c.args.self.now.blocks (ap (λ (h : Heap). h.blocks) c.self.view_is) c.place-place.ensures c.requires.to_live c.index_mut-target.ensures.value in
    let len = c.index_mut-target.result.now.words.ok.0 ∙ ap length words in (
      (
        refl,
        λ w i. record {
          blocks = slot-written c.self.inside.slots.items c.place-place.result c.args.to c.index_mut-target.result.now c.args.self.now.blocks (ap (λ (h : Heap). h.blocks) c.self.view_is) c.place-place.ensures c.requires.to_live c.index_mut-target.ensures.value
              (record { live = c.index_mut-target.result.now.live; words = with_items c.index_mut-target.result.now.words w; pins = c.index_mut-target.result.now.pins })
              (written_over (words_of c.args.self.now.blocks c.args.to) w) refl (λ j. take (len j) (w ++ drop (length w) (words j))) refl i;
          size = (ap (λ (h : Heap). h.size) c.self.view_is) i;
        },
      ),
      record {
        writes_back = tt;
        source =
            ap (take (length c.as_slice-words.result.now)) (c.deref-2.ensures.value ∙ with_items_is c.self.inside.scratch c.copy_words.new.list (omega arith))
            ∙ c.copy_words.ensures ∙ c.as_slice-words.ensures.value
            ∙ sym (ap (λ (h : Heap). words_of h.blocks c.args.from) (sym c.self.view_is) ∙ ap (λ (xs : List Slot). words_of (live_slots xs) c.args.from) (sym c.deref.ensures.value) ∙ c.slot_of.ensures.words);
        target = c.as_mut_slice.ensures.value ∙ words;
      },
    )
