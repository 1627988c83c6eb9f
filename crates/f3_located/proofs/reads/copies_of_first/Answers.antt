use Rattle.std.proofs.Common.{◌≡◌, ◌≤◌, ◌+◌, ◌++◌, ◌∷◌, [], ◌∙◌, sym, arith, vec_len, vec_capacity}
use Rattle.std.proofs.lemmas.Grind.{common_steps}
use Rattle.std.specs.Prelude.{slice_index_or}
use Rattle.f3_meaning_whole.specs.Value as v
use Rattle.f3_data.specs.Values.{values_of}
use Rattle.f3_data.specs.References.{counted}
use Rattle.f3_data.proofs.Counted.{counted_at}
use Rattle.f3_located.proofs.Inside.{copied_all, copied_next}
use Rattle.f3_located.proofs.reads.copies_of_first.Goals as goal
use Rattle.f3_located.proofs.reads.copies_of_first.Goals.{in-Some-Number, in_default+in_ok-copy_among-in_default}

pub loop-place-preserved : goal.loop-place-preserved
loop-place-preserved c =
    let items : values_of c.match-object.copies.items ≡ values_of c.loop-place.copies.items ++ slice_index_or (values_of c.args.values.now) c.loop-place.place v.Unallocated ∷ [] =
    elim c.match-object.branch [ in-Some-Number w ↦ grind (arith, common_steps) | in_default+in_ok-copy_among-in_default w ↦ grind (arith, common_steps) ] in
    let len : vec_len c.match-object.copies ≡ c.loop-place.place + 1 =
    elim c.match-object.branch [
      | in-Some-Number w ↦ rw w.copies-is (omega (arith, w.push_reserved.ensures.len))
      | in_default+in_ok-copy_among-in_default w ↦ rw w.copies-is (omega (arith, w.push_reserved-in_default.ensures.len))
    ] in
    let room : c.args.count ≤ vec_capacity c.match-object.copies =
    elim c.match-object.branch [
      | in-Some-Number w ↦ rw w.copies-is (omega (arith, w.push_reserved.ensures.capacity))
      | in_default+in_ok-copy_among-in_default w ↦ rw w.copies-is (omega (arith, w.push_reserved-in_default.ensures.capacity))
    ] in (
      copied_next (λ n. slice_index_or (values_of c.args.values.now) n v.Unallocated) (counted 0 c.args.count) c.loop-place.place c.loop-place.place
          (values_of c.loop-place.copies.items) (values_of c.match-object.copies.items) (counted_at c.args.count c.loop-place.place (omega arith)) items
          ∙ c.loop-place.invariant.0,
      len,
      room,
    )

pub returns : goal.returns
returns c =
    sym (copied_all (λ n. slice_index_or (values_of c.args.values.now) n v.Unallocated) c.args.count c.loop-place.place (values_of c.loop-place.copies.items) (omega arith))
    ∙ c.loop-place.invariant.0
