use Rattle.std.proofs.Common.{◌∙◌, ap, refl}
use Rattle.f3_meaning_whole.specs.Value as m
use Rattle.f3_meaning_whole.specs.Store.{put}
use Rattle.f3_data.specs.Values.{value_of, values_of}
use Rattle.f3_data.specs.Stores.{steps_of, path_of, store_of}
use Rattle.f3_data.specs.References.{numbers_of}
use Rattle.f3_data.specs.Each.{with_each}
use Rattle.f3_data.proofs.Putting.{at_once_away}
use Rattle.f3_data.proofs.store.Store.put_each.Goals as goal

pub returns : goal.returns
returns c =
    c.exchange_at_path-2.ensures.store
    ∙ ap (λ s. put s (path_of c.args.array.now) (value_of c.take_each-grown.new.value)) c.exchange_at_path.ensures.store
    ∙ ap (put (put (store_of c.args.self.now) (path_of c.args.array.now) m.Unallocated) (path_of c.args.array.now))
    (c.take_each-grown.ensures.value ∙ ap (λ v. with_each v (steps_of c.args.tail.now) (numbers_of c.args.numbers.now) (values_of c.args.values.items)) (c.exchange_at_path.ensures.other refl))
    ∙ at_once_away (numbers_of c.args.numbers.now) (values_of c.args.values.items) (store_of c.args.self.now) (path_of c.args.array.now) (steps_of c.args.tail.now) m.Unallocated
