use Rattle.std.proofs.Common.{◌≡◌, ◌++◌, drop, map}
use Rattle.f3_meaning_whole.specs.Value as v
use Rattle.f3_meaning_whole.specs.Store.{get}
use Rattle.f3_data.specs.Values.{values_of}
use Rattle.f3_data.specs.Stores.{steps_of, path_of, store_of}
use Rattle.f3_data.specs.References.{element_path, numbers_of}
use Rattle.f3_located.specs.Inner.Ways.{LeadsToElement}
use Rattle.f3_located.proofs.changes.each_cleared.Given as goal

abbrev pub invariant-loop-k : goal.invariant-loop-k
invariant-loop-k l =
    (values_of l.all.items ++ map (λ p. v.cleared (get (store_of l.store) p)) (map (element_path (path_of l.array) (steps_of l.tail)) (drop l.k (numbers_of l.numbers)))
    ≡ map (λ p. v.cleared (get (store_of l.store) p)) (map (element_path (path_of l.array) (steps_of l.tail)) (numbers_of l.numbers)))
    × LeadsToElement (path_of l.array) (steps_of l.tail) (path_of l.path)
