-- What is found alone under a name is visible, so one of the entities.
use Rattle.std.proofs.Common.{◌≡◌, ℕ, List, subst}
use Rattle.std.proofs.lemmas.Option.{slice_get_within}
use Rattle.f3_scopes.specs.Outlines.{Scope}
use Rattle.f3_lookups.specs.declared.lookup.Lookup.TheVariants.{One}
use Rattle.f3_access.specs.declared.table.Tables.{Tables}
use Rattle.f3_access.specs.Access.{entities_of, IsVisible}
use Rattle.f3_access.specs.Lookups.{ResolvesAs}
use Rattle.f3_access.specs.Tables.{lookup_of, AreTables}
use Rattle.f3_access.proofs.Laws.{visible_declared}
use Rattle.f3_distinct_laws.specs.Laws.{LookedUpIsEntity}

pub found_visible : (scopes : List Scope) (tables : Tables) (scope symbol entity : ℕ) → AreTables scopes tables → lookup_of tables scope symbol ≡ One entity → IsVisible scopes scope symbol entity
found_visible scopes tables scope symbol entity are e = (subst (λ l. ResolvesAs l (IsVisible scopes scope symbol)) e (are.resolves scope symbol).as_said).0

pub looked_up_entity : LookedUpIsEntity
looked_up_entity scopes tables scope symbol entity are e =
    let found = visible_declared scopes scope symbol entity (found_visible scopes tables scope symbol entity are e) in
    slice_get_within (entities_of scopes) entity found.0 found.1
