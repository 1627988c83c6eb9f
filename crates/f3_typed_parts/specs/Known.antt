-- What is known of names, without where it lies in memory.
use Rattle.std.specs.Prelude.{Option, None, slice_get, option_map}
use Rattle.f3_access.specs.Tables.{lookup_of}
use Rattle.f3_kinds.specs.declared.things.Intrinsic.{Intrinsic}
use Rattle.f3_kinds.specs.declared.things.Thing.{Thing}
use Rattle.f3_kinds.specs.declared.things.Thing.TheVariants as thing
use Rattle.f3_kinds.specs.declared.types.Scalar.{Scalar}
use Rattle.f3_kinds.specs.Things.{map_or, Nature, constant, variable, derived, subroutine, function, Context}
use Rattle.f3_kinds.specs.Designators.{Part}
use Rattle.f3_typed_parts.specs.declared.known.Known.{Known}
use Rattle.f3_typed_parts.specs.declared.known.Position.{Position}
use Rattle.f3_typed_parts.specs.declared.known.Part.{Part as Described}

abbrev pub nature_of : Thing → Nature
nature_of (thing.Constant o) = constant o
nature_of (thing.Variable o) = variable o
nature_of (thing.Type t) = derived t.home t.components.entries t.is_finalizable
nature_of (thing.Subroutine s) = subroutine s.is_pure s.dummies.entries
nature_of (thing.Function s o) = function s.is_pure s.dummies.entries o

-- what is known where an expression stands
abbrev pub context_of : Known → Position → Context
context_of known at = record {
  unit = at.unit;
  scope = at.scope;
  phase = at.phase;
  look = lookup_of known.tables.now;
  intrinsic = λ symbol. map_or None (λ (i : Option Intrinsic). i) (slice_get known.intrinsics.items symbol);
  moving = known.moving;
  nature = λ e. option_map nature_of (slice_get known.things.items e);
  value = λ e. map_or None (λ (v : Option Scalar). v) (slice_get known.values.items e);
}

-- a part of a designator without where it lies in memory
abbrev pub part_of : Described → Part
part_of p = (p.name, option_map (λ v. v.items) p.given)
