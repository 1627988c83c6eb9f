-- Attributes, one after the other.
use Rattle.std.specs.Prelude.{List, Option, Some, length, filter}
use Rattle.f3_tree.specs.declared.declaration.Intent.{Intent}
use Rattle.f3_tree.specs.Declarations.{ShapeTree, AttributeTree, access, protected, parameter, save, allocatable, dimension, intent}
use Rattle.f3_type_rules.specs.Attributes.{same_sort, any_dimension, any_intent}
use Rattle.f3_declared.specs.declared.attributes.Kinds.{Kinds}
use Rattle.f3_declared.specs.declared.attributes.Standing.{Standing}
use Rattle.f3_declared.specs.Standings.{standing, again}

abbrev pub with_kind : Kinds → AttributeTree → Kinds
with_kind k (access a) = k
with_kind k protected = record k { protected = again k.protected }
with_kind k parameter = record k { parameter = again k.parameter }
with_kind k save = record k { save = again k.save }
with_kind k allocatable = record k { allocatable = again k.allocatable }
with_kind k (dimension s) = record k { dimension = again k.dimension }
with_kind k (intent i) = record k { intent = again k.intent }

abbrev pub stands : AttributeTree → List AttributeTree → Standing
stands a xs = standing (length (filter (same_sort a) xs))

abbrev pub kinds_of : List AttributeTree → Kinds
kinds_of xs = record {
  protected = stands protected xs;
  parameter = stands parameter xs;
  save = stands save xs;
  allocatable = stands allocatable xs;
  dimension = stands any_dimension xs;
  intent = stands any_intent xs;
}

abbrev pub last_dimension : Option ShapeTree → AttributeTree → Option ShapeTree
last_dimension o (dimension s) = Some s
last_dimension o _ = o

abbrev pub last_intent : Option Intent → AttributeTree → Option Intent
last_intent o (intent i) = Some i
last_intent o _ = o
