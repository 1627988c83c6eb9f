-- What the attributes of a declaration say, read once for all the names that it declares.
use Rattle.std.specs.Prelude.{◌≡◌, None, option_map}
use Rattle.std.specs.List.{flat_map}
use Rattle.f3_scopes.specs.Scopes.{intent_of as intents}
use Rattle.f3_tree.specs.Declarations.{shape_view, protected, parameter, save, allocatable, DeclarationTree, declaration_view}
use Rattle.f3_type_rules.specs.Names.{attributes_of, dimension_in, last_of}
use Rattle.f3_type_rules.specs.Attributes.{times, any_dimension, any_intent}
use Rattle.f3_declared.specs.declared.attributes.Kinds.{Kinds}
use Rattle.f3_declared.specs.declared.attributes.Reading.{Reading}
use Rattle.f3_declared.specs.Standings.{standing}

abbrev pub kinds_in : DeclarationTree → Kinds
kinds_in d = record {
  protected = standing (times protected d);
  parameter = standing (times parameter d);
  save = standing (times save d);
  allocatable = standing (times allocatable d);
  dimension = standing (times any_dimension d);
  intent = standing (times any_intent d);
}

abbrev pub tree_of : Reading → DeclarationTree
tree_of r = declaration_view r.declaration.now

-- it says what the attributes of its declaration say
pub record IsRead (r : Reading) : Type 0 where
  pub kinds : r.kinds ≡ kinds_in (tree_of r)
  pub dimension : option_map (λ s. shape_view s.now) r.dimension ≡ last_of None (flat_map dimension_in (attributes_of (tree_of r)))
  pub intent : r.intent ≡ last_of None (flat_map intents (attributes_of (tree_of r)))
