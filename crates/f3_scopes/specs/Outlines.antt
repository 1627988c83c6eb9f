-- Outlines without where they lie in memory.
use Rattle.std.specs.Prelude.{ℕ, Bool, List, map, Option}
use Rattle.std.specs.Global.{Vec}
use Rattle.f3_places.specs.declared.source.Place.{Place}
use Rattle.f3_tree.specs.declared.declaration.Accessibility.{Accessibility}
use Rattle.f3_tree.specs.declared.declaration.Intent.{Intent}
use Rattle.f3_tree.specs.declared.expression.Name.{Name}
use Rattle.f3_scopes.specs.declared.outline.ScopeKind.{ScopeKind}
use Rattle.f3_scopes.specs.declared.outline.UseItem.{UseItem}
use Rattle.f3_scopes.specs.declared.outline.UseOutline.{UseOutline}
use Rattle.f3_scopes.specs.declared.outline.EntityKind.{EntityKind}
use Rattle.f3_scopes.specs.declared.outline.Declared.{Declared}
use Rattle.f3_scopes.specs.declared.outline.AccessOutline.{AccessOutline}
use Rattle.f3_scopes.specs.declared.outline.Component.{Component}
use Rattle.f3_scopes.specs.declared.outline.Outline.{Outline}

-- a USE statement
pub record Using : Type 0 where
  pub from : Name
  pub has_only : Bool
  pub items : List UseItem

abbrev pub using_view : UseOutline → Using
using_view u = record { from = u.module; has_only = u.has_only; items = u.items.items }

-- a declaration of a name
pub record Own : Type 0 where
  pub name : Name
  pub kind : EntityKind
  pub accesses : List Accessibility
  pub is_protected : Bool
  pub intents : List Intent

abbrev pub own_view : Declared → Own
own_view d = record { name = d.name; kind = d.kind; accesses = d.accesses.items; is_protected = d.is_protected; intents = d.intents.items }

-- an access statement
pub record Listed : Type 0 where
  pub place : Place
  pub accessibility : Accessibility
  pub names : List Name

abbrev pub listed_view : AccessOutline → Listed
listed_view a = record { place = a.place; accessibility = a.accessibility; names = a.names.items }

-- a component
pub record Part : Type 0 where
  pub name : Name
  pub accesses : List Accessibility

abbrev pub part_view : Component → Part
part_view c = record { name = c.name; accesses = c.accesses.items }

pub record Scope : Type 0 where
  pub kind : ScopeKind
  pub name : Name
  pub host : Option ℕ
  pub uses : List Using
  pub declared : List Own
  pub dummies : List Name
  pub outcome : Option Name
  pub result : Option Name
  pub is_typed : Bool
  pub accesses : List Listed
  pub given : List Name
  pub access_attributes : List Place
  pub protects : List Name
  pub types : List (List Part)
  pub references : List Name

abbrev pub scope_view : Outline → Scope
scope_view o = record {
  kind = o.kind;
  name = o.name;
  host = o.host;
  uses = map using_view o.uses.items;
  declared = map own_view o.declared.items;
  dummies = o.dummies.items;
  outcome = o.outcome;
  result = o.result;
  is_typed = o.is_typed;
  accesses = map listed_view o.accesses.items;
  given = o.given.items;
  access_attributes = o.access_attributes.items;
  protects = o.protects.items;
  types = map (λ (t : Vec Component). map part_view t.items) o.types.items;
  references = o.references.items;
}
