-- What is seen of the parts of a form.
use Rattle.std.specs.Prelude.{◌≡◌, Bool, true, false, List, Option, Some, None}
use Rattle.f3_places.specs.declared.source.Place.{Place}
use Rattle.f3_tree.specs.declared.declaration.TypeSpecifier.{TypeSpecifier}
use Rattle.f3_tree.specs.declared.declaration.Declaration.{Declaration}
use Rattle.f3_tree.specs.Declarations.{Placed, EntityTree, declaration_view}
use Rattle.f3_declarations.specs.Specifications.{needs_colons}

-- the declaration of these, where it has its `::` if it needs one
abbrev pub AsDeclared : Place → TypeSpecifier → Bool → List Placed → List EntityTree → Option Declaration → Type 0
AsDeclared place s colons attributes entities (Some d) =
    (needs_colons attributes entities ≡ true → colons ≡ true)
    × (declaration_view d ≡ record { place = place; specifier = s; attributes = attributes; entities = entities })
AsDeclared place s colons attributes entities None = (needs_colons attributes entities ≡ true) × (colons ≡ false)
