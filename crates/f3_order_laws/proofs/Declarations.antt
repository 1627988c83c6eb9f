-- Where two agree on what is known of all that a unit sees, they break the same rules in it and know the same behind it.
use Rattle.std.proofs.Common.{◌≡◌, refl, ℕ, ◌+◌, Bool, true, false, not, ◌&&◌, ◌||◌, ◌==◌, cond, List, [], ◌∷◌, map, Option, None, Some, ap, ◌∙◌, inl, inr}
use Rattle.std.specs.Prelude.{nat_eq, nat_lt, slice_get}
use Rattle.std.specs.List.{flat_map}
use Rattle.std.specs.Option.{option_map}
use Rattle.std.specs.Map.{lookup}
use Rattle.f3_nodes.proofs.Members.{Has}
use Rattle.f3_rules.specs.declared.rule.Rule.TheVariants.{T3, T5}
use Rattle.f3_rules.specs.declared.breaks.Break.{Break}
use Rattle.f3_lookups.specs.declared.lookup.Lookup.{Lookup}
use Rattle.f3_lookups.specs.declared.lookup.Lookup.TheVariants.{One, Nothing, Several}
use Rattle.f3_scopes.specs.declared.outline.EntityKind.{EntityKind}
use Rattle.f3_scopes.specs.declared.outline.EntityKind.TheVariants as entity
use Rattle.f3_tree.specs.declared.expression.Name.{Name}
use Rattle.f3_tree.specs.declared.declaration.TypeSpecifier.{TypeSpecifier}
use Rattle.f3_tree.specs.declared.declaration.TypeSpecifier.TheVariants as specifier
use Rattle.f3_tree.specs.declared.program.ProcedureKind.{ProcedureKind}
use Rattle.f3_tree.specs.declared.program.ProcedureKind.TheVariants.{Subroutine, Function}
use Rattle.f3_tree.specs.Expressions.{Tree}
use Rattle.f3_tree.specs.Declarations.{ShapeTree, EntityTree, DeclarationTree, TypeTree, SpecificationTree, declares, accesses, protects, saves, defines}
use Rattle.f3_tree.specs.Declarations.{parameter}
use Rattle.f3_kinds.specs.declared.types.DataType.{DataType}
use Rattle.f3_kinds.specs.declared.types.DataType.TheVariants.{Integer, Logical, Derived}
use Rattle.f3_kinds.specs.declared.types.Object.{Object}
use Rattle.f3_kinds.specs.declared.types.Scalar.{Scalar}
use Rattle.f3_kinds.specs.Things.{map_or, Context}
use Rattle.f3_kinds.specs.Rows.{at_name, unless}
use Rattle.f3_kinds.specs.Values.{converted}
use Rattle.f3_type_rules.specs.declared.definition.Holder.{Holder}
use Rattle.f3_type_rules.specs.Constants.{constant_rows}
use Rattle.f3_type_rules.specs.Names.{Names, Declared, attributes_of, shape_of, dimensions, type_if, type_named, type_of, object_of}
use Rattle.f3_type_rules.specs.Members.{Member, Numbered}
use Rattle.f3_type_rules.specs.Finals.{final_rank, final_rows}
use Rattle.f3_type_rules.specs.Scene.{Scene, context_in}
use Rattle.f3_type_rules.specs.Walks.{after, along, Known, Spot, context, is_among}
use Rattle.f3_type_rules.specs.Attributes.{has}
use Rattle.f3_type_rules.specs.Shapes.{multiplied, summed, elements, initial_right, at_most, are_dimensions_small, type_cells, cells_in, size_rows}
use Rattle.f3_type_rules.specs.Declarations.{type_rows, specifier_rows, entity_rows, given_value, with_entry, constant_value, entity_next, declaration_rows, component_rows, all_cells, type_definition_rows}
use Rattle.f3_type_rules.specs.Declarations.{specification_rows, specification_next, header_rows, spot_of, within_member, member_rows, member_next, unit_spot, within_unit, behind_part, unit_rows, unit_next}
use Rattle.f3_order_laws.proofs.Expressions.{joined}
use Rattle.f3_order_laws.proofs.Values as values

-- the same is known of an entity
abbrev pub Alike : Known → Known → ℕ → Type 0
Alike k j e = (lookup (nat_eq e) k.values ≡ lookup (nat_eq e) j.values) × (lookup (nat_eq e) k.cells ≡ lookup (nat_eq e) j.cells)

-- the same is known of these entities, and the next entity is the same
abbrev pub Agree : (ℕ → Type 0) → Known → Known → Type 0
Agree Is k j = (k.next ≡ j.next) × ((e : ℕ) → Is e → Alike k j e)

-- a walk along items that keeps a relation of states
module _ {S X : Type 0} (Are : S → S → Type 0) (rows : S → X → List Break) (next : S → X → S) where
  abbrev pub Steps : X → Type 0
  Steps x = (k j : S) → Are k j → (rows k x ≡ rows j x) × Are (next k x) (next j x)

  pub walk_same : (xs : List X) → ((x : X) → Has xs x → Steps x) → (k j : S) → Are k j
      → (along rows next k xs ≡ along rows next j xs) × Are (after next k xs) (after next j xs)
  walk_same [] steps k j are = (refl, are)
  walk_same (x ∷ xs) steps k j are =
      let here = steps x (inl refl) k j are in
      let later = walk_same xs (λ y h. steps y (inr h)) (next k x) (next j x) here.1 in
      (joined here.0 later.0, later.1)

entry_same : {X : Type 0} (e n : ℕ) (x : Option X) (xs ys : List (ℕ × X)) → lookup (nat_eq e) xs ≡ lookup (nat_eq e) ys
    → lookup (nat_eq e) (with_entry n x xs) ≡ lookup (nat_eq e) (with_entry n x ys)
entry_same e n None xs ys h = h
entry_same {X} e n (Some x) xs ys h = ap (λ (o : Option X). cond (nat_eq e n) (Some x) o) h

-- entries under the same number
entered : {X : Type 0} (e : ℕ) {m n : ℕ} {x y : Option X} (xs ys : List (ℕ × X)) → m ≡ n → x ≡ y → lookup (nat_eq e) xs ≡ lookup (nat_eq e) ys
    → lookup (nat_eq e) (with_entry m x xs) ≡ lookup (nat_eq e) (with_entry n y ys)
entered {X} e {m} {n} {x} {y} xs ys p q h =
    ap (λ (i : ℕ). lookup (nat_eq e) (with_entry i x xs)) p
    ∙ ap (λ (z : Option X). lookup (nat_eq e) (with_entry n z xs)) q
    ∙ entry_same e n y xs ys h

module _ (Is : ℕ → Type 0) (s : Spot) (sees : (symbol e : ℕ) → ((s.scene).names).look s.scope symbol ≡ One e → Is e) where
  abbrev names : Names
  names = (s.scene).names

  abbrev here : Context
  here = context_in s.scene s.unit s.scope 5 []

  module _ (k j : Known) (same : Agree Is k j) where
    abbrev v : ℕ → Option Scalar
    v = λ e. lookup (nat_eq e) k.values

    abbrev w : ℕ → Option Scalar
    w = λ e. lookup (nat_eq e) j.values

    seen : (symbol e : ℕ) → here.look here.scope symbol ≡ One e → v e ≡ w e
    seen symbol e h = (same.1 e (sees symbol e h)).0

    -- ---- cells

    cells_if : (symbol e : ℕ) → names.look s.scope symbol ≡ One e → (o : Option EntityKind) → type_cells k (type_if e o) ≡ type_cells j (type_if e o)
    cells_if symbol e h None = refl
    cells_if symbol e h (Some entity.DerivedType) = (same.1 e (sees symbol e h)).1
    cells_if symbol e h (Some _) = refl

    cells_named : (symbol : ℕ) (l : Lookup) → names.look s.scope symbol ≡ l → type_cells k (type_named names l) ≡ type_cells j (type_named names l)
    cells_named symbol (One e) h = cells_if symbol e h (slice_get names.kinds e)
    cells_named symbol Nothing h = refl
    cells_named symbol Several h = refl

    type_cells_same : (t : TypeSpecifier) → type_cells k (type_of names s.scope t) ≡ type_cells j (type_of names s.scope t)
    type_cells_same (specifier.Integer i) = refl
    type_cells_same specifier.Logical = refl
    type_cells_same (specifier.Derived n) = cells_named n.symbol (names.look s.scope n.symbol) refl

    pub cells_same : (x : Declared) → cells_in s k x ≡ cells_in s j x
    cells_same x =
        values.either (object_of names s.scope x).is_allocatable refl
        (ap (λ (c : Option ℕ). multiplied c (elements (context s k) (shape_of x))) (type_cells_same (x.0).specifier)
        ∙ ap (multiplied (type_cells j (type_of names s.scope (x.0).specifier))) (values.elements_same here v w seen (shape_of x)))

    size_same : (x : Declared) → size_rows s k x ≡ size_rows s j x
    size_same x =
        let small : (at_most 16777216 (cells_in s k x) && are_dimensions_small (context s k) (shape_of x)) ≡ (at_most 16777216 (cells_in s j x) && are_dimensions_small (context s j) (shape_of x)) =
        ap (λ (c : Option ℕ). at_most 16777216 c && are_dimensions_small (context s k) (shape_of x)) (cells_same x)
        ∙ ap (λ (t : Bool). at_most 16777216 (cells_in s j x) && t) (values.dimensions_same here v w seen (shape_of x)) in
        ap (λ (t : Bool). unless (at_most 7 (option_map dimensions (shape_of x)) && (is_among s.dummies x.1 || t)) (at_name 5 T5 (x.1).name)) small

    -- ---- an entity

    initial_rows_same : (o : Object) (shape : Option ShapeTree) (i : Option Tree)
        → map_or [] (λ e. constant_rows 5 (context s k) (initial_right (context s k) o.data_type o.rank (elements (context s k) shape) e) e) i
        ≡ map_or [] (λ e. constant_rows 5 (context s j) (initial_right (context s j) o.data_type o.rank (elements (context s j) shape) e) e) i
    initial_rows_same o shape None = refl
    initial_rows_same o shape (Some e) =
        values.constant_same here v w seen 5 (values.initial_same here v w seen o.data_type o.rank (values.elements_same here v w seen shape) e) e

    pub entity_rows_same : (d : DeclarationTree) (x : EntityTree) → entity_rows s d k x ≡ entity_rows s d j x
    entity_rows_same d x =
        joined (values.shape_same here v w seen x.shape)
        (joined refl (joined (size_same (d, x)) (initial_rows_same (object_of names s.scope (d, x)) (shape_of (d, x)) x.initial)))

    given_same : (is : Bool) (t : Option DataType) (i : Option Tree) → given_value (context s k) is t i ≡ given_value (context s j) is t i
    given_same true (Some t) (Some e) = ap (converted t) (values.value_same here v w seen e)
    given_same true (Some t) None = refl
    given_same true None i = refl
    given_same false t i = refl

    entity_next_same : (d : DeclarationTree) (x : EntityTree) → Agree Is (entity_next s d k x) (entity_next s d j x)
    entity_next_same d x =
        let o : Object = object_of names s.scope (d, x) in
        let value : constant_value s d k x ≡ constant_value s d j x = given_same (has parameter d && nat_eq o.rank 0) o.data_type x.initial in
        (ap (λ (n : ℕ). n + 1) same.0, λ e is. (entered e k.values j.values same.0 value (same.1 e is).0, (same.1 e is).1))

    -- ---- types

    named_rows_same : (n : Name) (t : Option DataType) → type_rows s k n t ≡ type_rows s j n t
    named_rows_same n None = refl
    named_rows_same n (Some (Integer i)) = refl
    named_rows_same n (Some Logical) = refl
    named_rows_same n (Some (Derived e)) =
        ap (λ (m : ℕ). unless (map_or true (λ (h : Holder). not (h.scope == s.scope) || nat_lt e m) (slice_get (s.scene).holders e)) (at_name 5 T3 n)) same.0

    specifier_same : (t : TypeSpecifier) → specifier_rows s k t ≡ specifier_rows s j t
    specifier_same (specifier.Integer i) = refl
    specifier_same specifier.Logical = refl
    specifier_same (specifier.Derived n) = named_rows_same n (type_of names s.scope (specifier.Derived n))

    pub component_same : (d : DeclarationTree) → component_rows s k d ≡ component_rows s j d
    component_same d =
        joined (specifier_same d.specifier)
        (joined (values.same_pieces (attributes_of d) (values.dimension_same here v w seen)) (values.same_pieces d.entities (entity_rows_same d)))

    pub all_cells_same : (t : TypeTree) → all_cells s k t ≡ all_cells s j t
    all_cells_same t =
        let pieces : (λ (d : DeclarationTree). map (λ (x : EntityTree). cells_in s k (d, x)) d.entities) ≡ (λ (d : DeclarationTree). map (λ (x : EntityTree). cells_in s j (d, x)) d.entities) =
        λ i d. map (λ (x : EntityTree). cells_same (d, x) i) d.entities in
        ap (λ (f : DeclarationTree → List (Option ℕ)). after summed (Some 0) (flat_map f t.components)) pieces

    pub header_same : (n : Name) (kind : ProcedureKind) → header_rows s k n kind ≡ header_rows s j n kind
    header_same n Subroutine = refl
    header_same n (Function None outcome) = refl
    header_same n (Function (Some t) outcome) = joined (specifier_same t) refl

  -- ---- declarations and type definitions

  entity_steps : (d : DeclarationTree) (x : EntityTree) → Steps (Agree Is) (entity_rows s d) (entity_next s d) x
  entity_steps d x k j same = (entity_rows_same k j same d x, entity_next_same k j same d x)

  entities_same : (d : DeclarationTree) (k j : Known) → Agree Is k j
      → (along (entity_rows s d) (entity_next s d) k d.entities ≡ along (entity_rows s d) (entity_next s d) j d.entities)
      × Agree Is (after (entity_next s d) k d.entities) (after (entity_next s d) j d.entities)
  entities_same d k j same = walk_same (Agree Is) (entity_rows s d) (entity_next s d) d.entities (λ x h. entity_steps d x) k j same

  declaration_same : (d : DeclarationTree) (k j : Known) → Agree Is k j → declaration_rows s k d ≡ declaration_rows s j d
  declaration_same d k j same =
      joined (specifier_same k j same d.specifier)
      (joined (values.same_pieces (attributes_of d) (values.dimension_same here (v k j same) (w k j same) (seen k j same))) (entities_same d k j same).0)

-- ---- specification parts

module _ (Is : ℕ → Type 0) (s : Spot) (sees : (symbol e : ℕ) → ((s.scene).names).look s.scope symbol ≡ One e → Is e) where
  definition_same : (procedures : List Member) (t : TypeTree) (k j : Known) → Agree Is k j → type_definition_rows s procedures k t ≡ type_definition_rows s procedures j t
  definition_same procedures t k j same =
      joined (values.same_pieces t.components (component_same Is (record s { is_type = true; listed = [] }) sees k j same))
      (joined (ap (λ (c : Option ℕ). unless (at_most 16777216 c) (at_name 5 T5 t.name)) (all_cells_same Is s sees k j same t))
      (ap (λ (m : ℕ). final_rows (final_rank (s.scene).names s.scope procedures m) [] [] t.finals) same.0))

  defined_same : (t : TypeTree) (k j : Known) → Agree Is k j → Agree Is (specification_next s k (defines t)) (specification_next s j (defines t))
  defined_same t k j same =
      (ap (λ (n : ℕ). n + 1) same.0, λ e is. ((same.1 e is).0, entered e k.cells j.cells same.0 (all_cells_same Is s sees k j same t) (same.1 e is).1))

  specification_steps : (procedures : List Member) (t : SpecificationTree) → Steps (Agree Is) (specification_rows s procedures) (specification_next s) t
  specification_steps procedures (declares d) k j same = (declaration_same Is s sees d k j same, (entities_same Is s sees d k j same).1)
  specification_steps procedures (accesses a) k j same = (refl, same)
  specification_steps procedures (protects p ns) k j same = (refl, same)
  specification_steps procedures (saves p) k j same = (refl, same)
  specification_steps procedures (defines t) k j same = (definition_same procedures t k j same, defined_same t k j same)

  pub part_same : (procedures : List Member) (ts : List SpecificationTree) (k j : Known) → Agree Is k j
      → (along (specification_rows s procedures) (specification_next s) k ts ≡ along (specification_rows s procedures) (specification_next s) j ts)
      × Agree Is (after (specification_next s) k ts) (after (specification_next s) j ts)
  part_same procedures ts k j same =
      walk_same (Agree Is) (specification_rows s procedures) (specification_next s) ts (λ t h. specification_steps procedures t) k j same

-- ---- procedures and units

-- what a name means in the scope of a number is one of these
abbrev pub SeesIn : (ℕ → Type 0) → Scene → ℕ → Type 0
SeesIn Is scene scope = (symbol e : ℕ) → (scene.names).look scope symbol ≡ One e → Is e

module _ (Is : ℕ → Type 0) (scene : Scene) where
  member_steps : (unit : ℕ) (m : Member) → SeesIn Is scene m.scope → Steps (Agree Is) (member_rows scene unit) (member_next scene unit) m
  member_steps unit m sees k j same =
      let within = part_same Is (spot_of scene unit m) sees [] ((m.tree).part).specifications (within_member m k) (within_member m j) (refl, same.1) in
      (joined (header_same Is (spot_of scene unit m) sees k j same ((m.tree).header).name ((m.tree).header).kind) (joined within.0 refl), within.1)

  pub unit_same : (u : Numbered) → SeesIn Is scene u.scope → ((m : Member) → Has u.members m → SeesIn Is scene m.scope)
      → (k j : Known) → ((e : ℕ) → Is e → Alike k j e)
      → (unit_rows scene k u ≡ unit_rows scene j u) × Agree Is (unit_next scene k u) (unit_next scene j u)
  unit_same u sees members k j same =
      let part = part_same Is (unit_spot scene u) sees u.members ((u.tree).part).specifications (within_unit u k) (within_unit u j) (refl, same) in
      let rest = walk_same (Agree Is) (member_rows scene u.scope) (member_next scene u.scope) u.members (λ m h. member_steps u.scope m (members m h))
      (behind_part scene u k) (behind_part scene u j) part.1 in
      (joined part.0 rest.0, rest.1)
