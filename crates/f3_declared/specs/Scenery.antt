-- What is known of a program wherever a declaration stands, as the rules take it.
use Rattle.std.specs.Prelude.{Option, None, map, slice_get}
use Rattle.f3_access.specs.Tables.{lookup_of}
use Rattle.f3_kinds.specs.declared.things.Intrinsic.{Intrinsic}
use Rattle.f3_kinds.specs.Things.{map_or}
use Rattle.f3_typed_parts.specs.declared.known.Known.{Known}
use Rattle.f3_typed_parts.specs.Known.{nature_of}
use Rattle.f3_type_rules.specs.Names.{Names}
use Rattle.f3_type_rules.specs.Scene.{Scene}
use Rattle.f3_declared.specs.declared.scenery.Scenery.{Scenery}

abbrev pub names_in : Known → Scenery → Names
names_in known s = record {
  look = lookup_of known.tables.now;
  kinds = s.kinds.now;
  intrinsic = λ symbol. map_or None (λ (i : Option Intrinsic). i) (slice_get known.intrinsics.items symbol);
  moving = known.moving;
}

abbrev pub scene_in : Known → Scenery → Scene
scene_in known s = record { names = names_in known s; natures = map nature_of known.things.items; holders = s.holders.now }
