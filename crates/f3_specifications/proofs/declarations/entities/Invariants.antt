use Rattle.std.proofs.Common.{◌≡◌, ◌+◌, take, map, vec_len}
use Rattle.std.specs.Option.{option_map}
use Rattle.f3_tree.specs.Declarations.{shape_view, entity_view}
use Rattle.f3_typed_parts.specs.Known.{context_of}
use Rattle.f3_typed_parts.specs.Noted.{noted}
use Rattle.f3_type_rules.specs.Declarations.{entity_rows, entity_next}
use Rattle.f3_type_rules.specs.Scene.{Scene}
use Rattle.f3_type_rules.specs.Walks.{after, along, Known}
use Rattle.f3_declared.specs.Declarations.{tree_of}
use Rattle.f3_declared.specs.Spots.{spot_in}
use Rattle.f3_extents.specs.Extents.{extents_of}
use Rattle.f3_entities.specs.Growth.{Stands}
use Rattle.f3_specifications.proofs.declarations.entities.Given as goal

abbrev pub invariant-loop-declared : goal.invariant-loop-declared
invariant-loop-declared l = record {
  dimension : l.dimension ≡ extents_of (context_of l.growth.known l.at) (option_map (λ s. shape_view s.now) l.reading.dimension);
  noted : (s : Scene) → (k : Known) → Stands s l.fn.growth k
      → l.first ≡ noted l.fn.first (along (entity_rows (spot_in s l.spot) (tree_of l.reading)) (entity_next (spot_in s l.spot) (tree_of l.reading)) k (map entity_view (take l.declared-index l.list)));
  stands : (s : Scene) → (k : Known) → Stands s l.fn.growth k
      → Stands s l.growth (after (entity_next (spot_in s l.spot) (tree_of l.reading)) k (map entity_view (take l.declared-index l.list)));
  next : l.growth.next ≡ l.fn.growth.next + l.declared-index;
  values : vec_len l.growth.known.values ≡ vec_len l.fn.growth.known.values;
  cells : l.growth.cells ≡ l.fn.growth.cells;
}
