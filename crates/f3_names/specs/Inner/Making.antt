-- How entities, and the numbers of units among the scopes, are made of outlines.
use Rattle.std.specs.Prelude.{ℕ, ◌+◌, ◌||◌, List, [], ◌∷◌, ◌++◌, Option, None, Some, map, nat_eq}
use Rattle.std.specs.List.{list_any, slice_index_or}
use Rattle.f3_scopes.specs.Outlines.{Own, Scope}
use Rattle.f3_names.specs.declared.entity.Entity.{Entity}

-- what a scope of this number declares in the unit of this number and name, where its PROTECTED statements name these
abbrev pub entity_by : ℕ → ℕ → ℕ → List ℕ → Own → Entity
entity_by number unit home protects d = record {
  place = d.name.place;
  kind = d.kind;
  scope = number;
  unit = unit;
  home = home;
  original = d.name.symbol;
  is_protected = d.is_protected || list_any (nat_eq d.name.symbol) protects;
}

abbrev pub of_unit : ℕ → Option ℕ → List ℕ
of_unit number None = number ∷ []
of_unit number (Some host) = []

-- the numbers of the scopes without a host, where the first scope has this one
abbrev pub unit_numbers : ℕ → List Scope → List ℕ
unit_numbers number [] = []
unit_numbers number (s ∷ ss) = of_unit number s.host ++ unit_numbers (number + 1) ss

-- units by their numbers among the scopes, where the units have these
abbrev pub among_scopes : List ℕ → List ℕ → List ℕ
among_scopes numbers units = map (λ u. slice_index_or numbers u 0) units
