-- The places of a name, in a table of places by names.
use Rattle.std.specs.Prelude.{ℕ, Vec, List, [], Option, None, Some}
use Rattle.std.specs.Global.{Global}

abbrev pub places_in : Option (Vec ℕ Global) → List ℕ
places_in None = []
places_in (Some v) = v.items
