-- What a declaration says of each of its names.
use Rattle.std.specs.Prelude.{ℕ, false, Option, None, Some, option_map}
use Rattle.std.specs.List.{flat_map, list_any}
use Rattle.f3_scopes.specs.Scopes.{kind_of, intent_of as intents}
use Rattle.f3_tree.specs.Declarations.{ShapeTree, EntityTree, DeclarationTree}
use Rattle.f3_kinds.specs.Things.{map_or}
use Rattle.f3_type_rules.specs.Names.{Names, Declared, attributes_of, dimension_in, dimensions, is_allocatable, last_of}
use Rattle.f3_type_rules.specs.Names.{shape_of, intent_of, type_of, object_of}
use Rattle.f3_type_rules.specs.Finals.{is_explicit}
use Rattle.f3_natures.specs.declared.objects.Extent.{Extent}
use Rattle.f3_natures.specs.declared.objects.Common.{Common}
use Rattle.f3_natures.specs.declared.objects.Described.{Described}

abbrev pub extent : ShapeTree → Extent
extent s = record { rank = dimensions s; is_explicit = is_explicit (Some s) }

abbrev pub common_of : Names → (scope : ℕ) → DeclarationTree → Common
common_of names scope d = record {
  kind = kind_of d.attributes;
  data_type = type_of names scope d.specifier;
  dimension = option_map extent (last_of None (flat_map dimension_in (attributes_of d)));
  is_allocatable = list_any is_allocatable (attributes_of d);
  intent = last_of None (flat_map intents (attributes_of d));
}

abbrev pub extent_by : Option Extent → Option ShapeTree → Option Extent
extent_by o None = o
extent_by o (Some s) = Some (extent s)

abbrev pub described_with : Common → Option Extent → Described
described_with c e = record {
  object = record { data_type = c.data_type; rank = map_or 0 (λ (x : Extent). x.rank) e; is_allocatable = c.is_allocatable };
  intent = c.intent;
  is_explicit = map_or false (λ (x : Extent). x.is_explicit) e;
}

abbrev pub described_by : Common → EntityTree → Described
described_by c x = described_with c (extent_by c.dimension x.shape)

-- what is asked of a declared name
abbrev pub described_of : Names → (scope : ℕ) → Declared → Described
described_of names scope x = record { object = object_of names scope x; intent = intent_of x; is_explicit = is_explicit (shape_of x) }
