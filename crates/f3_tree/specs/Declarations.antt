-- Specification parts without where they lie in memory.
use Rattle.std.specs.Prelude.{List, map, Option}
use Rattle.std.specs.Option.{option_map}
use Rattle.f3_places.specs.declared.source.Place.{Place}
use Rattle.f3_tree.specs.declared.expression.Name.{Name}
use Rattle.f3_tree.specs.declared.expression.Expression.{Expression}
use Rattle.f3_tree.specs.declared.declaration.Rename.{Rename}
use Rattle.f3_tree.specs.declared.declaration.Only.{Only}
use Rattle.f3_tree.specs.declared.declaration.Selection.{Selection}
use Rattle.f3_tree.specs.declared.declaration.Selection.TheVariants as selection
use Rattle.f3_tree.specs.declared.declaration.Use.{Use}
use Rattle.f3_tree.specs.declared.declaration.Accessibility.{Accessibility}
use Rattle.f3_tree.specs.declared.declaration.Intent.{Intent}
use Rattle.f3_tree.specs.declared.declaration.TypeSpecifier.{TypeSpecifier}
use Rattle.f3_tree.specs.declared.declaration.Shape.{Shape}
use Rattle.f3_tree.specs.declared.declaration.Shape.TheVariants as shape
use Rattle.f3_tree.specs.declared.declaration.AttributeKind.{AttributeKind}
use Rattle.f3_tree.specs.declared.declaration.AttributeKind.TheVariants as attribute
use Rattle.f3_tree.specs.declared.declaration.Attribute.{Attribute}
use Rattle.f3_tree.specs.declared.declaration.Entity.{Entity}
use Rattle.f3_tree.specs.declared.declaration.Declaration.{Declaration}
use Rattle.f3_tree.specs.declared.declaration.Access.{Access}
use Rattle.f3_tree.specs.declared.declaration.TypeDefinition.{TypeDefinition}
use Rattle.f3_tree.specs.declared.declaration.Specification.{Specification}
use Rattle.f3_tree.specs.declared.declaration.Specification.TheVariants as specification
use Rattle.f3_tree.specs.declared.declaration.SpecificationPart.{SpecificationPart}
use Rattle.f3_tree.specs.Expressions.{Tree, expression_view}

pub data Selects : Type 0 where
  all : List Rename → Selects
  only : List Only → Selects

abbrev pub selection_view : Selection → Selects
selection_view (selection.All rs) = all rs.items
selection_view (selection.Only os) = only os.items

pub record UseTree : Type 0 where
  pub place : Place
  pub from : Name
  pub selection : Selects

abbrev pub use_view : Use → UseTree
use_view u = record { place = u.place; from = u.module; selection = selection_view u.selection }

pub record Bounds : Type 0 where
  pub lower : Option Tree
  pub upper : Tree

pub data ShapeTree : Type 0 where
  explicit : List Bounds → ShapeTree
  deferred : List (Option Tree) → ShapeTree

abbrev pub bounds_view : Option Expression × Expression → Bounds
bounds_view b = record { lower = option_map expression_view b.0; upper = expression_view b.1 }

abbrev pub shape_view : Shape → ShapeTree
shape_view (shape.Explicit bs) = explicit (map bounds_view bs.items)
shape_view (shape.Deferred ls) = deferred (map (λ l. option_map expression_view l) ls.items)

pub data AttributeTree : Type 0 where
  access : Accessibility → AttributeTree
  protected : AttributeTree
  parameter : AttributeTree
  save : AttributeTree
  allocatable : AttributeTree
  dimension : ShapeTree → AttributeTree
  intent : Intent → AttributeTree

abbrev pub attribute_view : AttributeKind → AttributeTree
attribute_view (attribute.Access a) = access a
attribute_view attribute.Protected = protected
attribute_view attribute.Parameter = parameter
attribute_view attribute.Save = save
attribute_view attribute.Allocatable = allocatable
attribute_view (attribute.Dimension s) = dimension (shape_view s)
attribute_view (attribute.Intent i) = intent i

-- an attribute at its keyword
pub record Placed : Type 0 where
  pub place : Place
  pub attribute : AttributeTree

abbrev pub placed_view : Attribute → Placed
placed_view a = record { place = a.place; attribute = attribute_view a.kind }

pub record EntityTree : Type 0 where
  pub name : Name
  pub shape : Option ShapeTree
  pub initial : Option Tree

abbrev pub entity_view : Entity → EntityTree
entity_view e = record { name = e.name; shape = option_map shape_view e.shape; initial = option_map expression_view e.initial }

pub record DeclarationTree : Type 0 where
  pub place : Place
  pub specifier : TypeSpecifier
  pub attributes : List Placed
  pub entities : List EntityTree

abbrev pub declaration_view : Declaration → DeclarationTree
declaration_view d =
    record { place = d.place; specifier = d.specifier; attributes = map placed_view d.attributes.items; entities = map entity_view d.entities.items }

pub record AccessTree : Type 0 where
  pub place : Place
  pub accessibility : Accessibility
  pub names : List Name

abbrev pub access_view : Access → AccessTree
access_view a = record { place = a.place; accessibility = a.accessibility; names = a.names.items }

pub record TypeTree : Type 0 where
  pub place : Place
  pub access : Option (Place × Accessibility)
  pub name : Name
  pub private : Option Place
  pub components : List DeclarationTree
  pub contains : Option Place
  pub finals : List Name

abbrev pub type_view : TypeDefinition → TypeTree
type_view t = record {
  place = t.place;
  access = t.access;
  name = t.name;
  private = t.private;
  components = map declaration_view t.components.items;
  contains = t.contains;
  finals = t.finals.items;
}

pub data SpecificationTree : Type 0 where
  declares : DeclarationTree → SpecificationTree
  accesses : AccessTree → SpecificationTree
  protects : Place → List Name → SpecificationTree
  saves : Place → SpecificationTree
  defines : TypeTree → SpecificationTree

abbrev pub specification_view : Specification → SpecificationTree
specification_view (specification.Declaration d) = declares (declaration_view d)
specification_view (specification.Access a) = accesses (access_view a)
specification_view (specification.Protected p names) = protects p names.items
specification_view (specification.Save p) = saves p
specification_view (specification.Type t) = defines (type_view t)

pub record PartTree : Type 0 where
  pub uses : List UseTree
  pub implicit_none : Option Place
  pub specifications : List SpecificationTree

abbrev pub part_tree : SpecificationPart → PartTree
part_tree p = record { uses = map use_view p.uses.items; implicit_none = p.implicit_none; specifications = map specification_view p.specifications.items }
