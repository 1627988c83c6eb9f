-- What the tables in memory say of variables that live for the whole run, dummies, and results.
use Rattle.std.specs.Prelude.{ℕ, false, [], slice_get, if◌then◌else◌}
use Rattle.f3_kinds.specs.declared.types.Object.{Object}
use Rattle.f3_kinds.specs.Things.{map_or}
use Rattle.f3_tree.specs.declared.declaration.TypeSpecifier.{TypeSpecifier}
use Rattle.f3_type_rules.specs.declared.definition.Holder.{Holder}
use Rattle.f3_type_rules.specs.Names as rules
use Rattle.f3_type_rules.specs.Names.{Declared, object_of, shape_of}
use Rattle.f3_type_rules.specs.Natures.{typed_object}
use Rattle.f3_declared.specs.Scenery.{names_in}
use Rattle.f3_numbers.specs.Table.{kind_at}
use Rattle.f3_elaboration.specs.Nodes.{DeclaredNode, DummyNode, StaticNode}
use Rattle.f3_elaboration.specs.Numbers.{Variable}
use Rattle.f3_elaboration.specs.Units.{intent_of, lower_bounds}
use Rattle.f3_declaration_nodes.specs.declared.whole.Whole.{Whole}
use Rattle.f3_declaration_nodes.specs.Tables.{declared_by, known_at}

abbrev pub variable_at : (number unit scope : ℕ) → Declared → Variable
variable_at e u s x = record { entity = e; unit = u; scope = s; tree = x }

abbrev pub static_by : Whole → Variable → StaticNode
static_by t v = record {
  declared = declared_by t v.unit v.scope v.tree;
  home = v.unit;
  is_protected = map_or false (λ (h : Holder). h.is_protected) (slice_get t.scenery.holders.now v.entity);
}

abbrev pub dummy_by : Whole → (unit scope : ℕ) → Declared → DummyNode
dummy_by t u s x =
    let o : Object = object_of (names_in t.known.now t.scenery) s x in
    record {
      kind = kind_at t.numbers.now o;
      intent = intent_of (rules.intent_of x);
      lowers = if o.is_allocatable then [] else lower_bounds (known_at t u s) (shape_of x);
    }

abbrev pub plain_by : Whole → (scope : ℕ) → TypeSpecifier → DeclaredNode
plain_by t s x = record { kind = kind_at t.numbers.now (typed_object (names_in t.known.now t.scenery) s x); dimensions = []; initial = [] }
