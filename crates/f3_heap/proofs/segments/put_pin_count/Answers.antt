-- One word is put.
use Rattle.std.proofs.Common.{◌∙◌, ap, slice_set, w64}
use Rattle.f3_raw.specs.Region.{region_words}
use Rattle.std.proofs.lemmas.Int.{to_z-of_z}
use mir.Val.{SFits}
use Rattle.f3_heap_laws.proofs.Puts.{put-set}
use Rattle.f3_heap.proofs.segments.put_pin_count.Goals as goal

pub returns-clause-words : goal.returns-clause-words
returns-clause-words c =
    let f : SFits w64 c.cast_signed-word.result = record { sfits = c.cast_signed-word.type_inv } in
    c.put.ensures.words ∙ put-set (region_words c.args.region.now) c.args.at _ c.requires ∙ ap (slice_set (region_words c.args.region.now) c.args.at) (to_z-of_z w64 c.cast_signed-word.result f ∙ c.cast_signed-word.ensures)
