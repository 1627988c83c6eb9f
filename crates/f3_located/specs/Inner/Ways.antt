-- Ways to elements of arrays.
use Rattle.std.specs.Prelude.{◌≡◌, ℕ, List}
use Rattle.f3_meaning_whole.specs.Store as s
use Rattle.f3_data.specs.References.{element_path}

-- whether a path leads to a part of an element of the array at another path, whatever element
abbrev pub LeadsToElement : s.Path → List s.Step → s.Path → Type 0
LeadsToElement array tail p = (n : ℕ) × (p ≡ element_path array tail n)
