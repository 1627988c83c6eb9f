-- Steps of the loops that fill a table.
use Rattle.std.proofs.Common.{◌≡◌, List, ◌++◌, Bool}
use Rattle.std.proofs.lemmas.List.Sums.{fold-append}
use Rattle.indexmap.specs.IndexSet.{insert_all, insert_key}

pub insert_more : {T : Type 0} (eq : T → T → Bool) (ks xs ys : List T) → insert_all eq ks (xs ++ ys) ≡ insert_all eq (insert_all eq ks xs) ys
insert_more eq ks xs ys = fold-append (insert_key eq) ks xs ys
