-- What is declared of variables, components and results, and types (ISO/IEC 1539-1:2004, 4.5, 5.1).
use Rattle.std.specs.Prelude.{ℕ, ◌-◌, ◌^◌, min, ℤ, pos, Bool, false, List, [], ◌∷◌, Option, None, Some, map, slice_get}
use Rattle.std.specs.List.{flat_map}
use Rattle.f3_tree.specs.declared.expression.Name.{Name}
use Rattle.f3_tree.specs.Expressions.{Tree, array, Trees, no_trees, trees}
use Rattle.f3_tree.specs.Declarations.{Bounds, ShapeTree, explicit, EntityTree, DeclarationTree}
use Rattle.f3_program.specs.declared.declarations.Constant.{Constant}
use Rattle.f3_program.specs.declared.declarations.Constant.TheVariants as constant
use Rattle.f3_program.specs.declared.declarations.Dimension.{Dimension}
use Rattle.f3_program.specs.declared.declarations.Final.{Final}
use Rattle.f3_scopes.specs.Given.{accesses_of}
use Rattle.f3_kinds.specs.declared.types.DataType.{DataType}
use Rattle.f3_kinds.specs.declared.types.Object.{Object}
use Rattle.f3_kinds.specs.declared.types.Scalar.{Scalar}
use Rattle.f3_kinds.specs.declared.types.Scalar.TheVariants.{Number, Truth}
use Rattle.f3_kinds.specs.Things.{map_or, Context}
use Rattle.f3_kinds.specs.Values.{value_of, converted}
use Rattle.f3_type_rules.specs.declared.definition.Holder.{Holder}
use Rattle.f3_type_rules.specs.Finals.{final_rank}
use Rattle.f3_type_rules.specs.Members.{Numbered}
use Rattle.f3_type_rules.specs.Names.{is_given, Declared, is_private_by, object_of, shape_of}
use Rattle.f3_type_rules.specs.Scene.{Scene, context_in}
use Rattle.f3_type_rules.specs.Shapes.{bounds_extent}
use Rattle.f3_elaboration.specs.Nodes.{DeclaredNode, ComponentNode, DerivedNode, StaticNode}
use Rattle.f3_elaboration.specs.Numbers.{Numbers, number_in, entity_of, kind_of, Variable, Definition}

-- What is known of a whole program: what its names mean and its entities are, the values of its named constants, its numbers, and its
-- character constants.
pub record Whole : Type 0 where
  pub scene : Scene
  pub values : List (ℕ × Scalar)
  pub numbers : Numbers
  pub texts : List (List ℕ)

abbrev pub context : Whole → (unit scope : ℕ) → Context
context w u s = context_in w.scene u s 6 w.values

-- ---- shapes and initial values (5.1.2.5, 5.1)

abbrev pub whole_number : Option Scalar → ℤ
whole_number (Some (Number k z)) = z
whole_number _ = pos 0

-- 1 where no lower bound is written
abbrev pub lower_bound : Context → Option Tree → ℤ
lower_bound c e = map_or (pos 1) (λ (e : Tree). whole_number (value_of c e)) e

-- an extent is counted to 2 ^ 64 - 1; that of an accepted array is less (own rule)
abbrev pub dimension : Context → Bounds → Dimension
dimension c b = record { lower = lower_bound c b.lower; extent = map_or 0 (λ n. min n (2 ^ 64 - 1)) (bounds_extent c b) }

abbrev pub dimensions : Context → Option ShapeTree → List Dimension
dimensions c (Some (explicit bs)) = map (dimension c) bs
dimensions c _ = []

abbrev pub constant_of : Option Scalar → Constant
constant_of (Some (Number k z)) = constant.Number z
constant_of (Some (Truth b)) = constant.Truth b
constant_of None = constant.Number (pos 0)

abbrev pub constants : Context → DataType → Trees → List Constant
constants c t no_trees = []
constants c t (trees e es) = constant_of (converted t (value_of c e)) ∷ constants c t es

-- the values of all elements, or one value for each scalar, as ones of the declared type (7.4.1.3)
abbrev pub initial_values : Context → DataType → Tree → List Constant
initial_values c t (array p es) = constants c t es
initial_values c t e = constant_of (converted t (value_of c e)) ∷ []

abbrev pub initial : Context → Option DataType → Option Tree → List Constant
initial c (Some t) (Some e) = initial_values c t e
initial c _ _ = []

-- ---- declared objects

abbrev pub declared : Whole → (unit scope : ℕ) → Declared → DeclaredNode
declared w u s x =
    let o : Object = object_of (w.scene).names s x in
    record {
      kind = kind_of w.numbers o;
      dimensions = dimensions (context w u s) (shape_of x);
      initial = initial (context w u s) o.data_type (x.1).initial;
    }

abbrev pub variable : Whole → Variable → DeclaredNode
variable w v = declared w v.unit v.scope v.tree

abbrev pub static : Whole → Variable → StaticNode
static w v = record {
  declared = variable w v;
  home = v.unit;
  is_protected = map_or false (λ (h : Holder). h.is_protected) (slice_get (w.scene).holders v.entity);
}

-- ---- types (4.5)

abbrev pub component : Whole → (scope : ℕ) → (is_private : Bool) → DeclarationTree → EntityTree → ComponentNode
component w s default d x = record {
  declared = declared w s s (d, x);
  is_private = is_private_by default (accesses_of d.attributes);
}

abbrev pub components : Whole → Definition → List ComponentNode
components w t = flat_map (λ (d : DeclarationTree). map (component w (t.unit).scope (is_given (t.tree).private) d) d.entities) (t.tree).components

-- a final subroutine, with the rank of its dummy (4.5.5)
abbrev pub final : Whole → Numbered → Name → (rank : ℕ) → Final
final w u n rank = record { rank = rank; procedure = number_in (w.numbers).procedures (entity_of ((w.scene).names.look u.scope n.symbol)) }

abbrev pub finals : Whole → Definition → List Final
finals w t =
    let u : Numbered = t.unit in
    flat_map (λ (n : Name). map_or [] (λ rank. final w u n rank ∷ []) (final_rank (w.scene).names u.scope u.members t.entity n)) (t.tree).finals

abbrev pub derived : Whole → Definition → DerivedNode
derived w t = record { home = (t.unit).scope; components = components w t; finals = finals w t }
