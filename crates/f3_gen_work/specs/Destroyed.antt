-- Which types are destroyed where their objects end, told of each type by those before it.
use Rattle.std.specs.Prelude.{Bool, false, ◌||◌, List, map, slice_index_or}
use Rattle.f3_program.specs.declared.declarations.Base.{Base}
use Rattle.f3_program.specs.declared.declarations.Base.TheVariants as base
use Rattle.f3_program.specs.declared.declarations.Component.{Component}
use Rattle.f3_program.specs.declared.declarations.Derived.{Derived}
use Rattle.f3_meaning_whole.specs.Shape.{shapes_of}
use Rattle.f3_meaning_whole.specs.Destroy.{is_destroyed}

-- of each type whether it is destroyed (ISO/IEC 1539-1:2004, 4.5.5.1)
abbrev pub destroyed_types : List Derived → List Bool
destroyed_types types = map (is_destroyed types) (shapes_of types)

-- the same of the type of a component, where this is told of the types that stand before
abbrev pub is_base_destroyed : List Bool → Base → Bool
is_base_destroyed told base.Integer = false
is_base_destroyed told base.Long = false
is_base_destroyed told base.Logical = false
is_base_destroyed told (base.Derived t) = slice_index_or told t false

-- whether a component is deallocated or destroyed (6.3.3.1)
abbrev pub is_component_destroyed : List Bool → Component → Bool
is_component_destroyed told c = c.declared.kind.is_allocatable || is_base_destroyed told c.declared.kind.of
