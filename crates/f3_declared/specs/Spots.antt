-- Where a declaration stands, without where it lies in memory.
use Rattle.std.specs.Prelude.{ℕ, List, [], ◌∷◌, map}
use Rattle.std.specs.List.{flat_map}
use Rattle.f3_tree.specs.declared.expression.Name.{Name}
use Rattle.f3_tree.specs.Declarations.{specification_view}
use Rattle.f3_scopes.specs.Given.{protects_in}
use Rattle.f3_kinds.specs.Things.{map_or}
use Rattle.f3_type_rules.specs.Scene.{Scene}
use Rattle.f3_type_rules.specs.Walks.{Spot}
use Rattle.f3_declared.specs.declared.spots.NameSet.{NameSet}
use Rattle.f3_declared.specs.declared.spots.Listings.{Listings}
use Rattle.f3_declared.specs.declared.spots.Spot.{Spot as Standpoint}

abbrev pub symbols_of : NameSet → List ℕ
symbols_of s = map (λ (n : Name). n.symbol) s.names.now

abbrev pub listed_of : Listings → List ℕ
listed_of s = map (λ (n : Name). n.symbol) (flat_map protects_in (map specification_view s.part.now))

-- where it stands in a program of which this is known
abbrev pub spot_in : Scene → Standpoint → Spot
spot_in scene s = record {
  scene = scene;
  unit = s.unit;
  scope = s.scope;
  is_type = s.is_type;
  is_pure = s.is_pure;
  dummies = map_or [] (λ d. symbols_of d.now) s.dummies;
  results = map_or [] (λ (r : ℕ). r ∷ []) s.result_name;
  listed = map_or [] (λ l. listed_of l.now) s.listed;
}
