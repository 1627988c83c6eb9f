-- What the entities of associate names are known to be.
use Rattle.std.specs.Prelude.{ℕ, ◌≡◌, List, IsSome}
use Rattle.std.specs.List.{All}
use Rattle.f3_lookups.specs.declared.lookup.Lookup.TheVariants.{One}
use Rattle.f3_kinds.specs.declared.said.Said.{Said}
use Rattle.f3_type_rules.specs.Definitions.{Site}

-- of each entity that a name has in some scope it is known what it is
abbrev pub IsSettled : Site → Type 0
IsSettled s = (scope symbol e : ℕ) → (s.context).look scope symbol ≡ One e → IsSome ((s.context).nature e)

-- so it is of the entities of these associate names
abbrev pub AreKnown : Site → List (ℕ × Said) → Type 0
AreKnown s names = All (λ (n : ℕ × Said). IsSome ((s.context).nature n.0)) names
