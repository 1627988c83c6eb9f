-- The kinds that the elaborated program has for a name.
use Rattle.std.proofs.Common.{◌≡◌, ap, ◌∙◌, ℕ, List, map, position, nat_eq, Some, slice_get}
use Rattle.std.specs.List.{flat_map}
use Rattle.f3_tree.specs.declared.expression.Name as names
use Rattle.f3_tree.specs.Tree.{Tree}
use Rattle.f3_nodes.proofs.Members.{at_has}
use Rattle.f3_lookups.specs.declared.lookup.Lookup.{Lookup}
use Rattle.f3_program.specs.declared.declarations.Declared.{Declared}
use Rattle.f3_program.specs.declared.declarations.Kind.{Kind}
use Rattle.f3_program.specs.declared.expression.Name.TheVariants.{Static, Local, Lent}
use Rattle.f3_program.specs.declared.program.Dummy as program
use Rattle.f3_program.specs.declared.program.Procedure.{Procedure}
use Rattle.f3_program.specs.declared.program.Program.{Program}
use Rattle.f3_program.specs.declared.program.Static as x
use Rattle.f3_kinds.specs.declared.types.Object.{Object}
use Rattle.f3_kinds.specs.Things.{map_or, variable}
use Rattle.f3_meaning_whole.specs.Formed.{found, kind_of_name, kinds_of}
use Rattle.f3_type_rules.specs.Members.{Member}
use Rattle.f3_type_rules.specs.Names.{object_of, undeclared}
use Rattle.f3_type_rules.specs.Natures.{dummy as dummy_nature}
use Rattle.f3_type_rules.specs.Scene.{names_of}
use Rattle.f3_phase_laws.specs.Numbers.{units_of}
use Rattle.f3_elaboration.specs.Nodes.{DeclaredNode, DummyNode, ProgramNode, StaticNode}
use Rattle.f3_elaboration.specs.Numbers.{Variable, kind_of, unit_statics}
use Rattle.f3_elaboration.specs.Declarations.{Whole, static}
use Rattle.f3_elaboration.specs.DeclaredViews.{declared_view, dummy_view, program_view, static_view}
use Rattle.f3_elaboration.specs.Program.{elaborated}
use Rattle.f3_elaboration.specs.Units.{declarations_in, dummy}
use Rattle.f3_lawful_laws.specs.Entities.{whole_of}
use Rattle.f3_lawful_laws.proofs.Opening.{mapped_at, from_mapped}
use Rattle.f3_variable_laws.proofs.Headers.{Entry}
use Rattle.f3_variable_laws.proofs.Lists.{placed}
use Rattle.f3_variable_laws.proofs.Natures.{natures, object, name_object}
use Rattle.f3_variable_laws.proofs.Statics.{static_entities, static_home, Declares}

module _ (p : Program) (t : Tree) (look : ℕ → ℕ → Lookup) (order : List ℕ) (vs : List Declared) (ns : List Kind) where
  abbrev whole : Whole
  whole = whole_of t look order

  -- ---- of an activation

  pub local_shown : (j : ℕ) (node : DeclaredNode) (k : Kind) → slice_get (map declared_view vs) j ≡ Some node → node.kind ≡ k → kind_of_name p vs ns (Local j) ≡ Some k
  local_shown j node k at is =
      let d = from_mapped declared_view vs j node at in
      ap (λ o. found o (λ (y : Declared). Some y.kind)) d.1 ∙ ap (λ (z : DeclaredNode). Some z.kind) d.2 ∙ ap Some is

  -- ---- for the whole run

  pub static_shown : program_view p ≡ elaborated t look order → (e : ℕ) (o : Object) (i : ℕ) → position (nat_eq e) (static_entities (units_of t)) ≡ Some i
      → slice_get (natures t look) e ≡ Some (variable o) → kind_of_name p vs ns (Static i) ≡ Some (kind_of whole.numbers o)
  static_shown seen e o i position_is nature =
      let (v, at_v, entity_is) = from_mapped (λ (v : Variable). v.entity) (flat_map unit_statics (units_of t)) i e (placed (static_entities (units_of t)) e i position_is) in
      let node : slice_get (map static_view p.statics.items) i ≡ Some (static whole v) =
      ap (λ (z : ProgramNode). slice_get z.statics i) seen ∙ mapped_at (static whole) (flat_map unit_statics (units_of t)) i v at_v in
      let (y, there, is) = from_mapped static_view p.statics.items i (static whole v) node in
      let h : Declares (units_of t) v = static_home (units_of t) v (at_has (flat_map unit_statics (units_of t)) i v at_v) in
      let object_is : object t look v ≡ o = (name_object t look h.home v e o h.is_home h.among entity_is nature).1 in
      ap (λ o. found o (λ (y : x.Static). Some y.declared.kind)) there ∙ ap (λ (z : StaticNode). Some (z.declared).kind) is
      ∙ ap (λ (o : Object). Some (kind_of whole.numbers o)) object_is

-- ---- dummies

pub dummy_shown : (p : Program) (t : Tree) (look : ℕ → ℕ → Lookup) (order : List ℕ) (vs : List Declared) (u : ℕ) (m : Member) (q : Procedure) (e : ℕ) (o : Object) (k : ℕ)
    (n : names.Name) → map dummy_view q.dummies.items ≡ map (dummy (whole_of t look order) u m) ((m.tree).header).dummies
    → slice_get ((m.tree).header).dummies k ≡ Some n → Entry t look m n.symbol e o
    → kind_of_name p vs (kinds_of q.dummies.items) (Lent k) ≡ Some (kind_of ((whole_of t look order).numbers) o)
dummy_shown p t look order vs u m q e o k n seen_dummies there h =
    let w : Whole = whole_of t look order in
    let node : slice_get (map dummy_view q.dummies.items) k ≡ Some (dummy w u m n) =
    ap (λ xs. slice_get xs k) seen_dummies ∙ mapped_at (dummy w u m) ((m.tree).header).dummies k n there in
    let (y, at_y, is) = from_mapped dummy_view q.dummies.items k (dummy w u m n) node in
    let object_is : ((dummy_nature (names_of t look) m.scope (declarations_in m) n).1).object ≡ o =
    ap (λ x. map_or undeclared (object_of (names_of t look) m.scope) x) h.found ∙ h.object_is in
    mapped_at (λ (z : program.Dummy). z.kind) q.dummies.items k y at_y ∙ ap (λ (z : DummyNode). Some z.kind) is
    ∙ ap (λ (o : Object). Some (kind_of w.numbers o)) object_is
