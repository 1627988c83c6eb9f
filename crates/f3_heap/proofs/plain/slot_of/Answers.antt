-- A live block's slot is in the list.
use Rattle.std.proofs.Common.{rules, arith, ◌≡◌, ◌<◌, ◌-◌, length, get_or, sym, ◌∙◌, ap}
use Rattle.std.proofs.lemmas.List.{get_or_default}
use Rattle.f3_heap.specs.declared.plain.Slot.{Slot}
use Rattle.f3_heap.proofs.Slots.{live-within, slot-words, slot-pins}
use Rattle.f3_heap.proofs.plain.slot_of.Goals as goal

pub bounds-slots-place : goal.bounds-slots-place
bounds-slots-place c = live-within c.args.slots.now c.place.result c.args.block c.place.ensures c.requires

pub offset_bounds-slots-place : goal.offset_bounds-slots-place
offset_bounds-slots-place c = let within : c.place.result < length c.args.slots.now = live-within c.args.slots.now c.place.result c.args.block c.place.ensures c.requires in search rules

pub returns-clause-within : goal.returns-clause-within
returns-clause-within c = let within : c.place.result < length c.args.slots.now = live-within c.args.slots.now c.place.result c.args.block c.place.ensures c.requires in omega arith

pub returns-clause-at : goal.returns-clause-at
returns-clause-at c = λ d.
    let within : c.place.result < length c.args.slots.now = live-within c.args.slots.now c.place.result c.args.block c.place.ensures c.requires in
    let at : c.place.result ≡ c.args.block - 1 = omega arith in
    c.index-slots-place.is ∙ get_or_default c.args.slots.now c.place.result c.index-slots-place.result d within ∙ ap (λ i. get_or c.args.slots.now i d) at

pub returns-clause-words : goal.returns-clause-words
returns-clause-words c = slot-words c.args.slots.now c.place.result c.args.block c.index-slots-place.result c.place.ensures c.requires ∙ ap (λ (s : Slot). s.words.items) (sym c.index-slots-place.is)

pub returns-clause-pins : goal.returns-clause-pins
returns-clause-pins c = slot-pins c.args.slots.now c.place.result c.args.block c.index-slots-place.result c.place.ensures c.requires ∙ ap (λ (s : Slot). s.pins) (sym c.index-slots-place.is)
