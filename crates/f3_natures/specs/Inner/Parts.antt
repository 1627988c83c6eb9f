-- What makes a component.
use Rattle.std.specs.Prelude.{Bool, true, false}
use Rattle.f3_tree.specs.declared.declaration.Accessibility.{Accessibility}
use Rattle.f3_tree.specs.declared.declaration.Accessibility.TheVariants.{Public, Private}
use Rattle.f3_tree.specs.Declarations.{EntityTree}
use Rattle.f3_kinds.specs.declared.things.Component.{Component}
use Rattle.f3_type_rules.specs.Names.{is_given}
use Rattle.f3_natures.specs.declared.objects.Common.{Common}
use Rattle.f3_natures.specs.Objects.{described_by}

abbrev pub is_private_with : Accessibility → Bool
is_private_with Public = false
is_private_with Private = true

abbrev pub component_by : Common → (is_private : Bool) → EntityTree → Component
component_by c private x = record { object = (described_by c x).object; is_private = private; is_initialized = is_given x.initial }
