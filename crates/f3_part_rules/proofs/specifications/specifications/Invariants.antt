use Rattle.std.proofs.Common.{◌≡◌, ◌+◌, drop, take, map, length, vec_len, List}
use Rattle.std.specs.List.{flat_map}
use Rattle.f3_tree.specs.declared.declaration.Specification.{Specification}
use Rattle.f3_tree.specs.Declarations.{specification_view}
use Rattle.f3_scopes.specs.Scopes.{declared_in}
use Rattle.f3_typed_parts.specs.Noted.{noted}
use Rattle.f3_type_rules.specs.Declarations.{specification_rows, specification_next}
use Rattle.f3_type_rules.specs.Members.{Member}
use Rattle.f3_type_rules.specs.Scene.{Scene}
use Rattle.f3_type_rules.specs.Walks.{after, along, Known}
use Rattle.f3_declared.specs.Spots.{spot_in}
use Rattle.f3_entities.specs.Growth.{Stands}
use Rattle.f3_part_rules.specs.Finalizers.{Finalize}
use Rattle.f3_part_rules.proofs.specifications.specifications.Given as goal

abbrev pub invariant-loop-given : goal.invariant-loop-given
invariant-loop-given l = record {
  noted : (s : Scene) → (k : Known) → (ms : List Member) → Stands s l.fn.growth k → Finalize s l.finalizers ms
      → l.first ≡ noted l.fn.first (along (specification_rows (spot_in s l.spot) ms) (specification_next (spot_in s l.spot)) k (map specification_view (take l.given-index l.list)));
  stands : (s : Scene) → (k : Known) → Stands s l.fn.growth k
      → Stands s l.growth (after (specification_next (spot_in s l.spot)) k (map specification_view (take l.given-index l.list)));
  next : l.growth.next + length (flat_map (λ (x : Specification). declared_in (specification_view x)) (drop l.given-index l.list))
      ≡ l.fn.growth.next + length (flat_map (λ (x : Specification). declared_in (specification_view x)) l.list);
  values : vec_len l.growth.known.values ≡ vec_len l.fn.growth.known.values;
  cells : vec_len l.growth.cells ≡ vec_len l.fn.growth.cells;
}
