-- Elements that take values, each its own.
use Rattle.std.specs.Prelude.{ℕ, List, ◌∷◌}
use Rattle.f3_meaning_whole.specs.Value.{Value, Array, Values}
use Rattle.f3_meaning_whole.specs.Store.{Step, with_part_at}

-- of a row, those of these numbers, in a part of each
abbrev pub row_with : Values → List Step → List ℕ → List Value → Values
row_with vs tail (n ∷ ns) (x ∷ xs) = row_with (with_part_at vs n tail x) tail ns xs
row_with vs tail ns xs = vs

-- of an array
abbrev pub with_each : Value → List Step → List ℕ → List Value → Value
with_each (Array ss vs) tail ns xs = Array ss (row_with vs tail ns xs)
with_each v tail ns xs = v
