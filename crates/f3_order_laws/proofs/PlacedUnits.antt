-- The specification parts of a unit, and its headers, break rules at places of their own.
use Rattle.std.proofs.Common.{ℕ, ◌+◌, Bool, true, not, ◌&&◌, ◌||◌, ◌==◌, List, [], ◌∷◌, ◌++◌, map, length, Option, None, Some}
use Rattle.std.specs.Prelude.{nat_eq, nat_lt, slice_get}
use Rattle.std.specs.List.{flat_map, list_any}
use Rattle.std.specs.Option.{option_map}
use Rattle.f3_places.specs.declared.source.Place.{Place}
use Rattle.f3_rules.specs.declared.rule.Rule.TheVariants.{T1, T3, T4, T5, T12}
use Rattle.f3_rules.specs.declared.breaks.Break.{Break}
use Rattle.f3_scopes.specs.Outlines.{Scope}
use Rattle.f3_scopes.specs.Scopes.{declared_in, name_or}
use Rattle.f3_access.specs.Access.{first_entity}
use Rattle.f3_tree.specs.declared.expression.Name.{Name}
use Rattle.f3_tree.specs.declared.declaration.TypeSpecifier.{TypeSpecifier}
use Rattle.f3_tree.specs.declared.declaration.TypeSpecifier.TheVariants as specifier
use Rattle.f3_tree.specs.declared.program.ProcedureKind.{ProcedureKind}
use Rattle.f3_tree.specs.declared.program.ProcedureKind.TheVariants.{Subroutine, Function}
use Rattle.f3_tree.specs.Expressions.{Tree}
use Rattle.f3_tree.specs.Declarations.{Bounds, ShapeTree, explicit, deferred, AttributeTree, dimension, EntityTree, DeclarationTree, TypeTree}
use Rattle.f3_tree.specs.Declarations.{SpecificationTree, declares, accesses, protects, saves, defines}
use Rattle.f3_tree.specs.Tree.{ProcedureTree, UnitTree}
use Rattle.f3_kinds.specs.declared.types.DataType.{DataType}
use Rattle.f3_kinds.specs.declared.types.DataType.TheVariants.{Integer, Logical, Derived}
use Rattle.f3_kinds.specs.declared.types.Object.{Object}
use Rattle.f3_kinds.specs.Things.{map_or, Context}
use Rattle.f3_kinds.specs.Rows.{at_name, unless}
use Rattle.f3_kinds.specs.Calls.{is_new, added}
use Rattle.f3_kinds.specs.Values.{value_of, is_number}
use Rattle.f3_type_rules.specs.declared.definition.Holder.{Holder}
use Rattle.f3_type_rules.specs.Associates.{constructs_of_block}
use Rattle.f3_type_rules.specs.Constants.{constant_rows}
use Rattle.f3_type_rules.specs.Names.{Declared, entries, attributes_of, shape_of, dimensions, type_of, object_of}
use Rattle.f3_type_rules.specs.Members.{Member, Numbered, members_from, numbered}
use Rattle.f3_type_rules.specs.Finals.{final_rank, final_rows}
use Rattle.f3_type_rules.specs.Scene.{Scene}
use Rattle.f3_type_rules.specs.Walks.{along, Known, Spot, context, is_among}
use Rattle.f3_type_rules.specs.Attributes.{conflicts}
use Rattle.f3_type_rules.specs.Shapes.{bound_rows, shape_rows, dimension_rows, elements, initial_right, at_most, are_dimensions_small, cells_in, size_rows}
use Rattle.f3_type_rules.specs.Declarations.{type_rows, specifier_rows, entity_rows, entity_next, declaration_rows, component_rows, all_cells, type_definition_rows}
use Rattle.f3_type_rules.specs.Declarations.{specification_rows, specification_next, is_finalizable, may_finalize, local_rows, header_rows, spot_of, within_member, member_rows, member_next, unit_spot, within_unit, behind_part, unit_rows}
use Rattle.f3_order_laws.specs.Places.{tree_places, given_places, bounds_places, shape_places, attribute_places, entity_places, specifier_places, declaration_places, type_places, specification_places, kind_places, procedure_places, unit_places}
use Rattle.f3_order_laws.proofs.PlacedExpressions as placed
use Rattle.f3_order_laws.proofs.PlacedTrees.{constant_at}

module _ (P : Place → Type 0) where
  abbrev Are : List Place → Type 0
  Are = placed.Are P

  abbrev At : List Break → Type 0
  At = placed.At P

  front : (ps qs : List Place) → Are (ps ++ qs) → Are ps
  front = placed.front P

  back : (ps qs : List Place) → Are (ps ++ qs) → Are qs
  back = placed.back P

  both : (xs ys : List Break) → At xs → At ys → At (xs ++ ys)
  both = placed.both P

  -- pieces, each with places of its own
  pieces_at : {X : Type 0} (f : X → List Break) (places : X → List Place) → ((x : X) → Are (places x) → At (f x)) → (xs : List X) → Are (flat_map places xs) → At (flat_map f xs)
  pieces_at f places h [] a = tt
  pieces_at f places h (x ∷ xs) a =
      both (f x) (flat_map f xs) (h x (front (places x) (flat_map places xs) a)) (pieces_at f places h xs (back (places x) (flat_map places xs) a))

  walk_at : {S X : Type 0} (rows : S → X → List Break) (next : S → X → S) (places : X → List Place) → ((s : S) (x : X) → Are (places x) → At (rows s x))
      → (s : S) (xs : List X) → Are (flat_map places xs) → At (along rows next s xs)
  walk_at rows next places h s [] a = tt
  walk_at rows next places h s (x ∷ xs) a =
      both (rows s x) (along rows next (next s x) xs) (h s x (front (places x) (flat_map places xs) a)) (walk_at rows next places h (next s x) xs (back (places x) (flat_map places xs) a))

  -- ---- shapes

  bound_at : (c : Context) (e : Tree) → Are (tree_places e) → At (bound_rows c e)
  bound_at c e a = constant_at P c 5 (is_number (value_of c e)) e a

  given_at : (c : Context) (e : Option Tree) → Are (given_places e) → At (map_or [] (bound_rows c) e)
  given_at c None a = tt
  given_at c (Some e) a = bound_at c e a

  bounds_at : (c : Context) (b : Bounds) → Are (bounds_places b) → At (map_or [] (bound_rows c) b.lower ++ bound_rows c b.upper)
  bounds_at c b a =
      both (map_or [] (bound_rows c) b.lower) (bound_rows c b.upper)
      (given_at c b.lower (front (given_places b.lower) (tree_places b.upper) a)) (bound_at c b.upper (back (given_places b.lower) (tree_places b.upper) a))

  some_shape_at : (c : Context) (s : ShapeTree) → Are (shape_places s) → At (shape_rows c (Some s))
  some_shape_at c (explicit bs) a = pieces_at (λ (b : Bounds). map_or [] (bound_rows c) b.lower ++ bound_rows c b.upper) bounds_places (bounds_at c) bs a
  some_shape_at c (deferred ls) a = pieces_at (map_or [] (bound_rows c)) given_places (given_at c) ls a

  shape_at : (c : Context) (s : Option ShapeTree) → Are (map_or [] shape_places s) → At (shape_rows c s)
  shape_at c None a = tt
  shape_at c (Some s) a = some_shape_at c s a

  dimension_at : (c : Context) (x : AttributeTree) → Are (attribute_places x) → At (dimension_rows c x)
  dimension_at c (dimension s) a = some_shape_at c s a
  dimension_at c _ a = tt

  -- ---- entities

  initial_at : (c : Context) (is_right : Tree → Bool) (e : Option Tree) → Are (given_places e) → At (map_or [] (λ (x : Tree). constant_rows 5 c (is_right x) x) e)
  initial_at c is_right None a = tt
  initial_at c is_right (Some e) a = constant_at P c 5 (is_right e) e a

  size_at : (s : Spot) (k : Known) (d : DeclarationTree) (x : EntityTree) → P (x.name).place → At (size_rows s k (d, x))
  size_at s k d x a =
      let small : Bool = at_most 16777216 (cells_in s k (d, x)) && are_dimensions_small (context s k) (shape_of (d, x)) in
      placed.unless_at P (at_most 7 (option_map dimensions (shape_of (d, x))) && (is_among s.dummies x || small)) (at_name 5 T5 x.name) a

  entity_at : (s : Spot) (d : DeclarationTree) (k : Known) (x : EntityTree) → Are (entity_places x) → At (entity_rows s d k x)
  entity_at s d k x a =
      let c : Context = context s k in
      let o : Object = object_of (s.scene).names s.scope (d, x) in
      let right : Tree → Bool = λ e. initial_right c o.data_type o.rank (elements c (shape_of (d, x))) e in
      let initial : List Break = map_or [] (λ (e : Tree). constant_rows 5 c (right e) e) x.initial in
      let conflict : List Break = unless (not (conflicts s (d, x))) (at_name 5 T1 x.name) in
      both (shape_rows c x.shape) (conflict ++ (size_rows s k (d, x) ++ initial)) (shape_at c x.shape (front (map_or [] shape_places x.shape) (given_places x.initial) a.1))
      (both conflict (size_rows s k (d, x) ++ initial) (placed.unless_at P (not (conflicts s (d, x))) (at_name 5 T1 x.name) a.0)
      (both (size_rows s k (d, x)) initial (size_at s k d x a.0) (initial_at c right x.initial (back (map_or [] shape_places x.shape) (given_places x.initial) a.1))))

  -- ---- types

  type_at : (s : Spot) (k : Known) (n : Name) (t : Option DataType) → P n.place → At (type_rows s k n t)
  type_at s k n None a = (a, tt)
  type_at s k n (Some (Integer i)) a = (a, tt)
  type_at s k n (Some Logical) a = (a, tt)
  type_at s k n (Some (Derived e)) a =
      placed.unless_at P (map_or true (λ (h : Holder). not (h.scope == s.scope) || nat_lt e k.next) (slice_get (s.scene).holders e)) (at_name 5 T3 n) a

  specifier_at : (s : Spot) (k : Known) (t : TypeSpecifier) → Are (specifier_places t) → At (specifier_rows s k t)
  specifier_at s k (specifier.Integer i) a = tt
  specifier_at s k specifier.Logical a = tt
  specifier_at s k (specifier.Derived n) a = type_at s k n (type_of (s.scene).names s.scope (specifier.Derived n)) a.0

  declaration_at : (s : Spot) (k : Known) (d : DeclarationTree) → Are (declaration_places d) → At (declaration_rows s k d)
  declaration_at s k d a =
      let shapes : List Place = flat_map attribute_places (attributes_of d) in
      let rest = back (specifier_places d.specifier) (shapes ++ flat_map entity_places d.entities) a in
      let xs : List Break = flat_map (dimension_rows (context s k)) (attributes_of d) in
      let ys : List Break = along (entity_rows s d) (entity_next s d) k d.entities in
      both (specifier_rows s k d.specifier) (xs ++ ys) (specifier_at s k d.specifier (front (specifier_places d.specifier) (shapes ++ flat_map entity_places d.entities) a))
      (both xs ys (pieces_at (dimension_rows (context s k)) attribute_places (dimension_at (context s k)) (attributes_of d) (front shapes (flat_map entity_places d.entities) rest))
      (walk_at (entity_rows s d) (entity_next s d) entity_places (entity_at s d) k d.entities (back shapes (flat_map entity_places d.entities) rest)))

  component_at : (s : Spot) (k : Known) (d : DeclarationTree) → Are (declaration_places d) → At (component_rows s k d)
  component_at s k d a =
      let shapes : List Place = flat_map attribute_places (attributes_of d) in
      let rest = back (specifier_places d.specifier) (shapes ++ flat_map entity_places d.entities) a in
      let xs : List Break = flat_map (dimension_rows (context s k)) (attributes_of d) in
      let ys : List Break = flat_map (entity_rows s d k) d.entities in
      both (specifier_rows s k d.specifier) (xs ++ ys) (specifier_at s k d.specifier (front (specifier_places d.specifier) (shapes ++ flat_map entity_places d.entities) a))
      (both xs ys (pieces_at (dimension_rows (context s k)) attribute_places (dimension_at (context s k)) (attributes_of d) (front shapes (flat_map entity_places d.entities) rest))
      (pieces_at (entity_rows s d k) entity_places (entity_at s d k) d.entities (back shapes (flat_map entity_places d.entities) rest)))

  finals_at : (rank : Name → Option ℕ) (seen ranks : List ℕ) (ns : List Name) → Are (map (λ (n : Name). n.place) ns) → At (final_rows rank seen ranks ns)
  finals_at rank seen ranks [] a = tt
  finals_at rank seen ranks (n ∷ ns) a =
      let t : Bool = not (list_any (nat_eq n.symbol) seen) && is_new ranks (rank n) in
      both (unless t (at_name 5 T4 n)) (final_rows rank (n.symbol ∷ seen) (added ranks (rank n)) ns)
      (placed.unless_at P t (at_name 5 T4 n) a.0) (finals_at rank (n.symbol ∷ seen) (added ranks (rank n)) ns a.1)

  definition_at : (s : Spot) (procedures : List Member) (k : Known) (t : TypeTree) → Are (type_places t) → At (type_definition_rows s procedures k t)
  definition_at s procedures k t a =
      let finals : List Place = map (λ (n : Name). n.place) t.finals in
      let inside : Spot = record s { is_type = true; listed = [] } in
      let xs : List Break = flat_map (component_rows inside k) t.components in
      let size : List Break = unless (at_most 16777216 (all_cells s k t)) (at_name 5 T5 t.name) in
      let rank : Name → Option ℕ = final_rank (s.scene).names s.scope procedures k.next in
      both xs (size ++ final_rows rank [] [] t.finals) (pieces_at (component_rows inside k) declaration_places (component_at inside k) t.components (front (flat_map declaration_places t.components) finals a.1))
      (both size (final_rows rank [] [] t.finals) (placed.unless_at P (at_most 16777216 (all_cells s k t)) (at_name 5 T5 t.name) a.0)
      (finals_at rank [] [] t.finals (back (flat_map declaration_places t.components) finals a.1)))

  specification_at : (s : Spot) (procedures : List Member) (k : Known) (t : SpecificationTree) → Are (specification_places t) → At (specification_rows s procedures k t)
  specification_at s procedures k (declares d) a = declaration_at s k d a
  specification_at s procedures k (accesses x) a = tt
  specification_at s procedures k (protects p ns) a = tt
  specification_at s procedures k (saves p) a = tt
  specification_at s procedures k (defines t) a = definition_at s procedures k t a

  -- ---- procedures

  local_at : (s : Spot) (d : DeclarationTree) (x : EntityTree) → P (x.name).place → At (local_rows s (d, x))
  local_at s d x a =
      placed.unless_at P (not (is_finalizable s.scene (type_of (s.scene).names s.scope d.specifier)) || may_finalize s (d, x)) (at_name 5 T12 x.name) a

  abbrev local_entry : Spot → ℕ × Declared → List Break
  local_entry s x = local_rows s x.1

  locals_of : (s : Spot) (d : DeclarationTree) (xs : List EntityTree) (rest : List (ℕ × Declared)) → Are (flat_map entity_places xs) → At (flat_map (local_entry s) rest)
      → At (flat_map (local_entry s) (map (λ (x : EntityTree). ((x.name).symbol, (d, x))) xs ++ rest))
  locals_of s d [] rest a r = r
  locals_of s d (x ∷ xs) rest a r =
      both (local_rows s (d, x)) (flat_map (local_entry s) (map (λ (y : EntityTree). ((y.name).symbol, (d, y))) xs ++ rest))
      (local_at s d x (front (entity_places x) (flat_map entity_places xs) a).0) (locals_of s d xs rest (back (entity_places x) (flat_map entity_places xs) a) r)

  locals_at : (s : Spot) (ts : List SpecificationTree) → Are (flat_map specification_places ts) → At (flat_map (local_entry s) (entries ts))
  locals_at s [] a = tt
  locals_at s (declares d ∷ ts) a =
      let shapes : List Place = flat_map attribute_places (attributes_of d) in
      let own = front (declaration_places d) (flat_map specification_places ts) a in
      let rest = back (specifier_places d.specifier) (shapes ++ flat_map entity_places d.entities) own in
      locals_of s d d.entities (entries ts) (back shapes (flat_map entity_places d.entities) rest) (locals_at s ts (back (declaration_places d) (flat_map specification_places ts) a))
  locals_at s (accesses x ∷ ts) a = locals_at s ts a
  locals_at s (protects p ns ∷ ts) a = locals_at s ts a
  locals_at s (saves p ∷ ts) a = locals_at s ts a
  locals_at s (defines t ∷ ts) a = locals_at s ts (back (type_places t) (flat_map specification_places ts) a)

  header_at : (s : Spot) (k : Known) (n : Name) (kind : ProcedureKind) → Are (kind_places kind n) → At (header_rows s k n kind)
  header_at s k n Subroutine a = tt
  header_at s k n (Function None outcome) a = tt
  header_at s k n (Function (Some t) outcome) a =
      let result : Bool = not (is_finalizable s.scene (type_of (s.scene).names s.scope t)) in
      both (specifier_rows s k t) (unless result (at_name 5 T12 (name_or outcome n))) (specifier_at s k t (front (specifier_places t) ((name_or outcome n).place ∷ []) a))
      (placed.unless_at P result (at_name 5 T12 (name_or outcome n)) (back (specifier_places t) ((name_or outcome n).place ∷ []) a).0)

  part_at : (s : Spot) (procedures : List Member) (k : Known) (ts : List SpecificationTree) → Are (flat_map specification_places ts)
      → At (along (specification_rows s procedures) (specification_next s) k ts)
  part_at s procedures k ts a = walk_at (specification_rows s procedures) (specification_next s) specification_places (specification_at s procedures) k ts a

  member_at : (scene : Scene) (unit : ℕ) (k : Known) (m : Member) → Are (procedure_places m.tree) → At (member_rows scene unit k m)
  member_at scene unit k m a =
      let s : Spot = spot_of scene unit m in
      let header = (m.tree).header in
      let ts : List SpecificationTree = ((m.tree).part).specifications in
      let inside = back (kind_places header.kind header.name) (flat_map specification_places ts) a in
      let xs : List Break = along (specification_rows s []) (specification_next s) (within_member m k) ts in
      let ys : List Break = flat_map (local_entry s) (entries ts) in
      both (header_rows s k header.name header.kind) (xs ++ ys) (header_at s k header.name header.kind (front (kind_places header.kind header.name) (flat_map specification_places ts) a))
      (both xs ys (part_at s [] (within_member m k) ts inside) (locals_at s ts inside))

  -- ---- units

  members_at : (scene : Scene) (unit : ℕ) (scopes : List Scope) (e n : ℕ) (ps : List ProcedureTree) (k : Known) → Are (flat_map procedure_places ps)
      → At (along (member_rows scene unit) (member_next scene unit) k (members_from scopes e n ps))
  members_at scene unit scopes e n [] k a = tt
  members_at scene unit scopes e n (p ∷ ps) k a =
      let m : Member = record { entity = e; scope = n; first = first_entity scopes n; tree = p } in
      let others : List Member = members_from scopes (e + 1) (n + 1 + length (constructs_of_block p.body)) ps in
      both (member_rows scene unit k m) (along (member_rows scene unit) (member_next scene unit) (member_next scene unit k m) others)
      (member_at scene unit k m (front (procedure_places p) (flat_map procedure_places ps) a))
      (members_at scene unit scopes (e + 1) (n + 1 + length (constructs_of_block p.body)) ps (member_next scene unit k m) (back (procedure_places p) (flat_map procedure_places ps) a))

  pub unit_at : (scene : Scene) (scopes : List Scope) (n : ℕ) (u : UnitTree) (k : Known) → Are (unit_places u) → At (unit_rows scene k (numbered scopes n u))
  unit_at scene scopes n u k a =
      let x : Numbered = numbered scopes n u in
      let ts : List SpecificationTree = (u.part).specifications in
      let own : ℕ = length (flat_map declared_in ts) in
      both (along (specification_rows (unit_spot scene x) x.members) (specification_next (unit_spot scene x)) (within_unit x k) ts)
      (along (member_rows scene n) (member_next scene n) (behind_part scene x k) x.members)
      (part_at (unit_spot scene x) x.members (within_unit x k) ts (front (flat_map specification_places ts) (flat_map procedure_places u.procedures) a))
      (members_at scene n scopes (first_entity scopes n + own) (n + 1 + length (constructs_of_block u.body)) u.procedures (behind_part scene x k)
      (back (flat_map specification_places ts) (flat_map procedure_places u.procedures) a))
