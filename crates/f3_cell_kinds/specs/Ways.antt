-- Kinds of parts of values.
use Rattle.std.specs.Prelude.{not, ◌&&◌, nat_lt, List, [], ◌∷◌, Option, Some, None, if◌then◌else◌}
use Rattle.f3_program.specs.declared.declarations.Component as m
use Rattle.f3_program.specs.declared.declarations.Derived.{Derived}
use Rattle.f3_program.specs.declared.declarations.Kind.{Kind}
use Rattle.f3_meaning_whole.specs.Store.{Step, Component, Element, Contents}
use Rattle.f3_meaning_whole.specs.Act.{component_of}
use Rattle.f3_meaning_whole.specs.Formed.{found, of_kind, is_scalar}
use Rattle.f3_cell_kinds.specs.Effect.{held_kind}

-- the kind to which a way leads from an object of a kind, by the declarations on the way, whether it is there or not
abbrev pub kind_along : List Derived → List Step → Kind → Option Kind
kind_along types [] k = Some k
kind_along types (Component n ∷ way) k =
    if is_scalar k then found (component_of types k.of n) (λ (c : m.Component). kind_along types way c.declared.kind) else None
kind_along types (Element n ∷ way) k = if not k.is_allocatable && nat_lt 0 k.rank then kind_along types way (of_kind k.of 0) else None
kind_along types (Contents ∷ way) k = if k.is_allocatable then kind_along types way (held_kind k) else None
