-- What a scene has, as it is known along a program.
use Rattle.std.specs.Prelude.{◌≡◌, ℕ, List, Option, None, map, slice_get}
use Rattle.f3_access.specs.Tables.{lookup_of}
use Rattle.f3_kinds.specs.declared.things.Intrinsic.{Intrinsic}
use Rattle.f3_kinds.specs.declared.types.Scalar.{Scalar}
use Rattle.f3_kinds.specs.Things.{map_or}
use Rattle.f3_scopes.specs.declared.outline.EntityKind.{EntityKind}
use Rattle.f3_typed_parts.specs.declared.known.Known.{Known}
use Rattle.f3_typed_parts.specs.Known.{nature_of}
use Rattle.f3_type_rules.specs.declared.definition.Holder.{Holder}
use Rattle.f3_type_rules.specs.Scene.{Scene}
use Rattle.f3_entities.specs.Growth.{HasValues}

abbrev pub intrinsic_in : List (Option Intrinsic) → ℕ → Option Intrinsic
intrinsic_in intrinsics symbol = map_or None (λ (i : Option Intrinsic). i) (slice_get intrinsics symbol)

-- of what is known, with what each entity was declared as and what the rules on definitions ask of it
abbrev pub scene_with : Known → List EntityKind → List Holder → Scene
scene_with known kinds holders = record {
  names = record { look = lookup_of known.tables.now; kinds = kinds; intrinsic = intrinsic_in known.intrinsics.items; moving = known.moving };
  natures = map nature_of known.things.items;
  holders = holders;
}

-- What is known is what a scene has of it, and these values.
pub record Knows (s : Scene) (values_there : List (ℕ × Scalar)) (known : Known) : Type 0 where
  pub look : lookup_of known.tables.now ≡ (s.names).look
  pub intrinsic : intrinsic_in known.intrinsics.items ≡ (s.names).intrinsic
  pub moving : known.moving ≡ (s.names).moving
  pub natures : map nature_of known.things.items ≡ s.natures
  pub values : HasValues known.values.items values_there
