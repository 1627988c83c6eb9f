-- The rules of phase 5 on a unit, one part after the other.
use Rattle.std.specs.Prelude.{ℕ, false, List, [], ◌∷◌, map, slice_get}
use Rattle.std.specs.List.{flat_map}
use Rattle.f3_rules.specs.declared.breaks.Break.{Break}
use Rattle.f3_scopes.specs.Given.{protects_in}
use Rattle.f3_tree.specs.declared.expression.Name.{Name}
use Rattle.f3_tree.specs.Declarations.{SpecificationTree}
use Rattle.f3_kinds.specs.Things.{map_or}
use Rattle.f3_type_rules.specs.Members.{Numbered}
use Rattle.f3_type_rules.specs.Scene.{Scene}
use Rattle.f3_type_rules.specs.Walks.{along, Known, Spot}
use Rattle.f3_type_rules.specs.Declarations.{specification_rows, specification_next, unit_spot, within_unit}

-- where the declarations of a unit stand, which has this scope and this specification part
abbrev pub part_spot : Scene → (scope : ℕ) → List SpecificationTree → Spot
part_spot scene scope part = record {
  scene = scene;
  unit = scope;
  scope = scope;
  is_type = false;
  is_pure = false;
  dummies = [];
  results = [];
  listed = map (λ (n : Name). n.symbol) (flat_map protects_in part);
}

-- the rules on the specification part of a unit
abbrev pub part_rows : Scene → Known → Numbered → List Break
part_rows s k u =
    along (specification_rows (unit_spot s u) u.members) (specification_next (unit_spot s u)) (within_unit u k) ((u.tree).part).specifications

-- the unit of this number, where there is one
abbrev pub found_at : List Numbered → (number : ℕ) → List Numbered
found_at units i = map_or [] (λ (u : Numbered). u ∷ []) (slice_get units i)
