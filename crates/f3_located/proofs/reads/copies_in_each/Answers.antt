use Rattle.std.proofs.Common.{◌≡◌, ◌∙◌, ap}
use Rattle.f3_meaning_whole.specs.Store as s
use Rattle.f3_data.specs.Stores.{steps_of, path_of, store_of}
use Rattle.f3_data.specs.References.{element_path, numbers_of}
use Rattle.f3_located.proofs.Spreading.{copied_more}
use Rattle.f3_located.proofs.reads.copies_in_each.Goals as goal

pub loop-k-preserved : goal.loop-k-preserved
loop-k-preserved c =
    let went : path_of c.go_to.new.path ≡ element_path (path_of c.args.array.now) (steps_of c.args.tail.now) c.place_at.result = c.go_to.ensures (steps_of c.args.tail.now) c.loop-k.invariant.1.0 c.loop-k.invariant.1.1 in (
      copied_more (s.get (store_of c.args.store.now)) (path_of c.args.array.now) (steps_of c.args.tail.now) (numbers_of c.args.numbers.now) c.loop-k.k c.place_at.result
          c.loop-k.copies.items c.push.new.self.items c.in_ok-copy_at.field-0 c.place_at.ensures c.in_ok-push.ensures.items
          (c.in_ok-copy_at.ensures ∙ ap (s.get (store_of c.args.store.now)) went) ∙ c.loop-k.invariant.0,
      (c.place_at.result, went),
    )
