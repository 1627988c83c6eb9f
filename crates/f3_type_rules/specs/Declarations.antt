-- The breaks of phase 5: specification parts, and the headers of procedures. The expressions in them have their breaks of phase 6
-- here too.
use Rattle.std.specs.Prelude.{ℕ, ◌+◌, Bool, true, false, not, ◌&&◌, ◌||◌, ◌==◌, nat_eq, nat_lt, List, [], ◌∷◌, ◌++◌}
use Rattle.std.specs.Prelude.{Option, None, Some, map, slice_get}
use Rattle.std.specs.List.{flat_map}
use Rattle.f3_rules.specs.declared.rule.Rule.TheVariants.{T1, T3, T5, T9, T12}
use Rattle.f3_rules.specs.declared.breaks.Break.{Break}
use Rattle.f3_scopes.specs.Scopes.{result_of, name_or}
use Rattle.f3_scopes.specs.Given.{protects_in}
use Rattle.f3_tree.specs.declared.expression.Name.{Name}
use Rattle.f3_tree.specs.declared.declaration.Intent.{Intent}
use Rattle.f3_tree.specs.declared.declaration.Intent.TheVariants.{In}
use Rattle.f3_tree.specs.declared.declaration.TypeSpecifier.{TypeSpecifier}
use Rattle.f3_tree.specs.declared.declaration.TypeSpecifier.TheVariants as specifier
use Rattle.f3_tree.specs.declared.program.ProcedureKind.{ProcedureKind}
use Rattle.f3_tree.specs.declared.program.ProcedureKind.TheVariants.{Subroutine, Function}
use Rattle.f3_tree.specs.Expressions.{Tree}
use Rattle.f3_tree.specs.Declarations.{parameter}
use Rattle.f3_tree.specs.Declarations.{EntityTree, DeclarationTree, TypeTree, SpecificationTree, declares, defines}
use Rattle.f3_tree.specs.Tree.{ProcedureTree}
use Rattle.f3_kinds.specs.declared.types.DataType.{DataType}
use Rattle.f3_kinds.specs.declared.types.DataType.TheVariants.{Derived}
use Rattle.f3_kinds.specs.declared.types.Object.{Object}
use Rattle.f3_kinds.specs.declared.types.Scalar.{Scalar}
use Rattle.f3_kinds.specs.Things.{map_or, Nature, derived, Context}
use Rattle.f3_kinds.specs.Rows.{at_name, unless}
use Rattle.f3_type_rules.specs.declared.definition.Holder.{Holder}
use Rattle.f3_kinds.specs.Values.{value_of, converted}
use Rattle.f3_type_rules.specs.Constants.{constant_rows}
use Rattle.f3_type_rules.specs.Names.{Declared, entries, attributes_of, shape_of, intent_of, type_of, object_of}
use Rattle.f3_type_rules.specs.Members.{Member, Numbered}
use Rattle.f3_type_rules.specs.Finals.{final_rank, final_rows}
use Rattle.f3_type_rules.specs.Natures.{specifier_of}
use Rattle.f3_type_rules.specs.Scene.{Scene}
use Rattle.f3_type_rules.specs.Walks.{after, along, Known, Spot, context, is_among}
use Rattle.f3_type_rules.specs.Attributes.{has, conflicts}
use Rattle.f3_type_rules.specs.Shapes.{shape_rows, dimension_rows, summed, elements, initial_right, at_most, cells_in, size_rows}

-- ---- TYPE(n): T3, a type of this module that has not been defined above (phase 5), T9, no type (phase 6); the name

abbrev pub type_rows : Spot → Known → Name → Option DataType → List Break
type_rows s k n (Some (Derived e)) =
    unless (map_or true (λ (h : Holder). not (h.scope == s.scope) || nat_lt e k.next) (slice_get (s.scene).holders e)) (at_name 5 T3 n)
type_rows s k n _ = at_name 6 T9 n ∷ []

abbrev pub specifier_rows : Spot → Known → TypeSpecifier → List Break
specifier_rows s k (specifier.Derived n) = type_rows s k n (type_of (s.scene).names s.scope (specifier.Derived n))
specifier_rows s k _ = []

-- ---- declarations

abbrev pub entity_rows : Spot → DeclarationTree → Known → EntityTree → List Break
entity_rows s d k x =
    let c : Context = context s k in
    let o : Object = object_of (s.scene).names s.scope (d, x) in
    shape_rows c x.shape
    ++ (unless (not (conflicts s (d, x))) (at_name 5 T1 x.name)
    ++ (size_rows s k (d, x)
    ++ map_or [] (λ e. constant_rows 5 c (initial_right c o.data_type o.rank (elements c (shape_of (d, x))) e) e) x.initial))

-- a named constant has the value of its initializer, as one of its type
abbrev pub given_value : Context → Bool → Option DataType → Option Tree → Option Scalar
given_value c true (Some t) (Some e) = converted t (value_of c e)
given_value c _ _ _ = None

abbrev pub with_entry : {X : Type 0} → ℕ → Option X → List (ℕ × X) → List (ℕ × X)
with_entry e None xs = xs
with_entry e (Some x) xs = (e, x) ∷ xs

abbrev pub constant_value : Spot → DeclarationTree → Known → EntityTree → Option Scalar
constant_value s d k x =
    let o : Object = object_of (s.scene).names s.scope (d, x) in
    given_value (context s k) (has parameter d && nat_eq o.rank 0) o.data_type x.initial

abbrev pub entity_next : Spot → DeclarationTree → Known → EntityTree → Known
entity_next s d k x = record k { next = k.next + 1; values = with_entry k.next (constant_value s d k x) k.values }

abbrev pub declaration_rows : Spot → Known → DeclarationTree → List Break
declaration_rows s k d =
    specifier_rows s k d.specifier
    ++ (flat_map (dimension_rows (context s k)) (attributes_of d) ++ along (entity_rows s d) (entity_next s d) k d.entities)

-- the components of a type declare no entities
abbrev pub component_rows : Spot → Known → DeclarationTree → List Break
component_rows s k d =
    specifier_rows s k d.specifier
    ++ (flat_map (dimension_rows (context s k)) (attributes_of d) ++ flat_map (entity_rows s d k) d.entities)

abbrev pub all_cells : Spot → Known → TypeTree → Option ℕ
all_cells s k t =
    after summed (Some 0) (flat_map (λ (d : DeclarationTree). map (λ (x : EntityTree). cells_in s k (d, x)) d.entities) t.components)

abbrev pub type_definition_rows : Spot → List Member → Known → TypeTree → List Break
type_definition_rows s procedures k t =
    flat_map (component_rows (record s { is_type = true; listed = [] }) k) t.components
    ++ (unless (at_most 16777216 (all_cells s k t)) (at_name 5 T5 t.name)
    ++ final_rows (final_rank (s.scene).names s.scope procedures k.next) [] [] t.finals)

abbrev pub specification_rows : Spot → List Member → Known → SpecificationTree → List Break
specification_rows s procedures k (declares d) = declaration_rows s k d
specification_rows s procedures k (defines t) = type_definition_rows s procedures k t
specification_rows s procedures k _ = []

abbrev pub specification_next : Spot → Known → SpecificationTree → Known
specification_next s k (declares d) = after (entity_next s d) k d.entities
specification_next s k (defines t) = record k { next = k.next + 1; cells = with_entry k.next (all_cells s k t) k.cells }
specification_next s k _ = k

-- ---- T12: a function's result of finalizable type; in a PURE procedure or a function such a local or a dummy that is not INTENT(IN); the
-- declared name

abbrev pub is_final_nature : Nature → Bool
is_final_nature (derived home ks f) = f
is_final_nature _ = false

abbrev pub is_finalizable : Scene → Option DataType → Bool
is_finalizable s (Some (Derived e)) = map_or false is_final_nature (slice_get s.natures e)
is_finalizable s _ = false

abbrev pub is_in : Intent → Bool
is_in In = true
is_in _ = false

abbrev pub may_finalize : Spot → Declared → Bool
may_finalize s x = not (is_among s.results x.1) && (not s.is_pure || (is_among s.dummies x.1 && map_or false is_in (intent_of x)))

abbrev pub local_rows : Spot → Declared → List Break
local_rows s x = unless (not (is_finalizable s.scene (type_of (s.scene).names s.scope (x.0).specifier)) || may_finalize s x) (at_name 5 T12 (x.1).name)

abbrev pub header_rows : Spot → Known → Name → ProcedureKind → List Break
header_rows s k n (Function (Some t) outcome) =
    specifier_rows s k t ++ unless (not (is_finalizable s.scene (type_of (s.scene).names s.scope t))) (at_name 5 T12 (name_or outcome n))
header_rows s k n _ = []

-- ---- procedures and units

abbrev pub is_function : ProcedureKind → Bool
is_function Subroutine = false
is_function (Function t outcome) = true

abbrev pub spot_of : Scene → (unit : ℕ) → Member → Spot
spot_of scene unit m = record {
  scene = scene;
  unit = unit;
  scope = m.scope;
  is_type = false;
  is_pure = ((m.tree).header).pure || is_function ((m.tree).header).kind;
  dummies = map (λ (n : Name). n.symbol) ((m.tree).header).dummies;
  results = map_or [] (λ (n : Name). n.symbol ∷ []) (result_of ((m.tree).header).kind ((m.tree).header).name);
  listed = [];
}

-- before the specification part of a procedure: a result that the header types is its first entity
abbrev pub within_member : Member → Known → Known
within_member m k = record k { next = m.first + map_or 0 (λ (t : TypeSpecifier). 1) (specifier_of ((m.tree).header).kind) }

abbrev pub member_rows : Scene → (unit : ℕ) → Known → Member → List Break
member_rows scene unit k m =
    let s : Spot = spot_of scene unit m in
    let p : ProcedureTree = m.tree in
    header_rows s k (p.header).name (p.header).kind
    ++ (along (specification_rows s []) (specification_next s) (within_member m k) (p.part).specifications
    ++ flat_map (λ (x : ℕ × Declared). local_rows s x.1) (entries (p.part).specifications))

abbrev pub member_next : Scene → (unit : ℕ) → Known → Member → Known
member_next scene unit k m = after (specification_next (spot_of scene unit m)) (within_member m k) ((m.tree).part).specifications

abbrev pub unit_spot : Scene → Numbered → Spot
unit_spot scene u = record {
  scene = scene;
  unit = u.scope;
  scope = u.scope;
  is_type = false;
  is_pure = false;
  dummies = [];
  results = [];
  listed = map (λ (n : Name). n.symbol) (flat_map protects_in ((u.tree).part).specifications);
}

abbrev pub within_unit : Numbered → Known → Known
within_unit u k = record k { next = u.first }

-- behind the specification part of a unit
abbrev pub behind_part : Scene → Numbered → Known → Known
behind_part scene u k = after (specification_next (unit_spot scene u)) (within_unit u k) ((u.tree).part).specifications

abbrev pub unit_rows : Scene → Known → Numbered → List Break
unit_rows scene k u =
    along (specification_rows (unit_spot scene u) u.members) (specification_next (unit_spot scene u)) (within_unit u k) ((u.tree).part).specifications
    ++ along (member_rows scene u.scope) (member_next scene u.scope) (behind_part scene u k) u.members

abbrev pub unit_next : Scene → Known → Numbered → Known
unit_next scene k u = after (member_next scene u.scope) (behind_part scene u k) u.members
