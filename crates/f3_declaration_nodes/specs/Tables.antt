-- What the tables in memory say of what is declared.
use Rattle.std.specs.Prelude.{ℕ, Bool, true, false, List, map}
use Rattle.std.specs.List.{flat_map}
use Rattle.f3_scopes.specs.Given.{accesses_of}
use Rattle.f3_tree.specs.declared.declaration.Accessibility.{Accessibility}
use Rattle.f3_tree.specs.declared.declaration.Accessibility.TheVariants.{Public, Private}
use Rattle.f3_tree.specs.Declarations.{EntityTree, DeclarationTree, TypeTree}
use Rattle.f3_kinds.specs.declared.types.Object.{Object}
use Rattle.f3_kinds.specs.Things.{Context}
use Rattle.f3_typed_parts.specs.declared.known.Position.{Position}
use Rattle.f3_typed_parts.specs.Known.{context_of}
use Rattle.f3_type_rules.specs.Names.{is_given, Declared, is_private_by, object_of, shape_of}
use Rattle.f3_declared.specs.Scenery.{names_in}
use Rattle.f3_numbers.specs.Table.{kind_at}
use Rattle.f3_elaboration.specs.Nodes.{DeclaredNode, ComponentNode}
use Rattle.f3_elaboration.specs.Declarations.{dimensions, initial}
use Rattle.f3_declaration_nodes.specs.declared.whole.Whole.{Whole}

-- behind the specification parts
abbrev pub place : (unit scope : ℕ) → Position
place u s = record { scope = s; unit = u; phase = 6 }

abbrev pub known_at : Whole → (unit scope : ℕ) → Context
known_at t u s = context_of t.known.now (place u s)

abbrev pub declared_by : Whole → (unit scope : ℕ) → Declared → DeclaredNode
declared_by t u s x =
    let o : Object = object_of (names_in t.known.now t.scenery) s x in
    record {
      kind = kind_at t.numbers.now o;
      dimensions = dimensions (known_at t u s) (shape_of x);
      initial = initial (known_at t u s) o.data_type (x.1).initial;
    }

abbrev pub is_private_with : Accessibility → Bool
is_private_with Public = false
is_private_with Private = true

abbrev pub component_by : Whole → (scope : ℕ) → (is_private : Bool) → DeclarationTree → EntityTree → ComponentNode
component_by t s default d x = record { declared = declared_by t s s (d, x); is_private = is_private_by default (accesses_of d.attributes) }

abbrev pub components_by : Whole → (scope : ℕ) → TypeTree → List ComponentNode
components_by t s x = flat_map (λ (d : DeclarationTree). map (component_by t s (is_given x.private) d) d.entities) x.components
