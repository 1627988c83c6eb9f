use Rattle.f3_data.specs.Values.{value_of}
use Rattle.f3_data.specs.Stores.{path_of, store_of}
use Rattle.f3_located.proofs.Inside.{some_elements}
use Rattle.f3_located.proofs.reads.elements_at.Goals as goal

pub returns-in-Some : goal.returns-in-Some
returns-in-Some c = some_elements (store_of c.args.store.now) (path_of c.args.path.now) (value_of c.in-Some.value.now) c.elements_in.result c.in-Some.ensures
    c.elements_in.ensures
