-- What is known of names, without where it lies in memory.
use Rattle.std.specs.Prelude.{Option, None, slice_get}
use Rattle.f3_access.specs.Tables.{lookup_of}
use Rattle.f3_kinds.specs.declared.things.Intrinsic.{Intrinsic}
use Rattle.f3_kinds.specs.Things.{map_or}
use Rattle.f3_type_rules.specs.Names.{Names}
use Rattle.f3_natures.specs.declared.names.Names.{Names as Known}

abbrev pub names_view : Known → Names
names_view n = record {
  look = lookup_of n.tables.now;
  kinds = n.kinds.items;
  intrinsic = λ symbol. map_or None (λ (i : Option Intrinsic). i) (slice_get n.intrinsics.items symbol);
  moving = n.moving;
}
