-- What the elaborated program has for a name: its type, and whether it may be defined.
use Rattle.std.proofs.Common.{◌≡◌, refl, sym, ap, ◌∙◌, ℕ, ◌<◌, Bool, true, false, not, ◌||◌, List, [], ◌∷◌, ◌++◌, map, position, nat_eq, Option, None, Some, option_map, option_to_list, slice_get, if◌then◌else◌}
use Rattle.std.specs.Prelude.{◌==◌, slice_index_or}
use Rattle.std.specs.List.{flat_map}
use Rattle.std.proofs.lemmas.List.{append-nil, map-append}
use Rattle.f3_tree.specs.declared.declaration.Intent as tree
use Rattle.f3_tree.specs.declared.declaration.Intent.TheVariants as given
use Rattle.f3_tree.specs.declared.expression.Name as names
use Rattle.f3_tree.specs.Tree.{Tree}
use Rattle.f3_nodes.proofs.Members.{at_has}
use Rattle.f3_scopes.specs.Scopes.{scopes_of}
use Rattle.f3_lookups.specs.declared.lookup.Lookup.{Lookup}
use Rattle.f3_program.specs.declared.declarations.Base.{Base as ProgramBase}
use Rattle.f3_program.specs.declared.declarations.Declared.{Declared}
use Rattle.f3_program.specs.declared.expression.Name.{Name}
use Rattle.f3_program.specs.declared.expression.Name.TheVariants.{Static, Local, Lent}
use Rattle.f3_program.specs.declared.program.Procedure.{Procedure}
use Rattle.f3_program.specs.declared.program.Program.{Program}
use Rattle.f3_kinds.specs.declared.said.Said.{Said}
use Rattle.f3_kinds.specs.declared.types.Object.{Object}
use Rattle.f3_kinds.specs.Things.{map_or, variable}
use Rattle.f3_meaning_whole.specs.Act.{right_to, static_type, type_of}
use Rattle.f3_meaning_whole.specs.Exec.{declared_in, with_result}
use Rattle.f3_meaning_whole.specs.Permitted as permitted
use Rattle.f3_meaning_whole.specs.Permitted.{Scope, name_of, is_define, lendable, Lendable, unknown}
use Rattle.f3_meaning_whole.specs.Reference.{Define, Read}
use Rattle.f3_type_rules.specs.declared.definition.Holder.{Holder}
use Rattle.f3_type_rules.specs.Definitions.{Site, is_in, protected_rows, intent_rows}
use Rattle.f3_type_rules.specs.Members.{Member}
use Rattle.f3_type_rules.specs.Names.{intent_of as declared_intent, object_of, undeclared}
use Rattle.f3_type_rules.specs.Natures.{dummy as dummy_nature}
use Rattle.f3_type_rules.specs.Scene.{holders_from, names_of}
use Rattle.f3_phase_laws.specs.Numbers.{units_of}
use Rattle.f3_elaboration.specs.Nodes.{DeclaredNode, DummyNode, ProcedureNode, ProgramNode, StaticNode}
use Rattle.f3_elaboration.specs.Numbers.{Variable, base_of, unit_statics}
use Rattle.f3_elaboration.specs.Declarations.{Whole, static}
use Rattle.f3_elaboration.specs.DeclaredViews.{declared_view, dummy_view, procedure_view, program_view, static_view}
use Rattle.f3_elaboration.specs.Program.{elaborated}
use Rattle.f3_elaboration.specs.Units.{declarations_in, dummy, intent_of}
use Rattle.f3_lawful_laws.specs.Agreement.{IsWithin, lend_rows}
use Rattle.f3_lawful_laws.specs.Entities.{whole_of}
use Rattle.f3_lawful_laws.proofs.Facts.{no, first, second, holds}
use Rattle.f3_lawful_laws.proofs.Opening.{mapped_at, from_mapped}
use Rattle.f3_lawful_laws.proofs.Positions.{index_at}
use Rattle.f3_variable_laws.proofs.Headers.{Entry}
use Rattle.f3_variable_laws.proofs.Lists.{placed}
use Rattle.f3_variable_laws.proofs.Natures.{natures, object, name_asked, name_object}
use Rattle.f3_variable_laws.proofs.Statics.{static_entities, static_home, Declares}

-- ---- rights

-- outside its module a protected variable may not be defined
unprotected : (b : Bool) (home unit : ℕ) → (not b || (home == unit)) ≡ true → is_define (if b then (if nat_eq home unit then Define else Read) else Define) ≡ true
unprotected false home unit h = refl
unprotected true home unit h = ap (λ c. is_define (if c then Define else Read)) h

given_out : (i : tree.Intent) → not (is_in (Some i)) ≡ true → not (permitted.is_in (intent_of (Some i))) ≡ true
given_out given.In h = no (sym h)
given_out given.Out h = refl
given_out given.InOut h = refl

viewed : (ds : List Declared) (r : Option Declared) → map declared_view (with_result ds r) ≡ map declared_view ds ++ option_to_list (option_map declared_view r)
viewed ds None = sym (append-nil (map declared_view ds))
viewed ds (Some d) = map-append declared_view ds (d ∷ [])

-- the variables of an activation
pub seen_variables : (q : Procedure) (n : ProcedureNode) → procedure_view q ≡ n → map declared_view (declared_in q) ≡ n.locals ++ option_to_list n.result
seen_variables q n seen = viewed q.locals.items q.result ∙ ap (λ (z : ProcedureNode). z.locals ++ option_to_list z.result) seen

module _ (p : Program) (t : Tree) (look : ℕ → ℕ → Lookup) (order : List ℕ) where
  abbrev pub whole : Whole
  whole = whole_of t look order

  abbrev pub base_type : Object → ProgramBase
  base_type o = base_of whole.numbers o.data_type

  -- a name that means this entity, of this type, where so many objects are lent
  pub record Fits (scope : Scope) (site : Site) (lent e : ℕ) (o : Object) (n : Name) : Type 0 where
    pub type_is : (name_of p scope n).of ≡ base_type o
    pub within : IsWithin lent n
    pub defines : (x : Said) → lend_rows site x (slice_get (whole.scene).holders e) ≡ [] → (name_of p scope n).may_define ≡ true

  -- ---- of an activation

  pub local_fits : (scope : Scope) (site : Site) (lent e : ℕ) (o : Object) (j : ℕ) (node : DeclaredNode)
      → slice_get (map declared_view scope.variables) j ≡ Some node → (node.kind).of ≡ base_type o → Fits scope site lent e o (Local j)
  local_fits scope site lent e o j node at of =
      let (d, there, is) = from_mapped declared_view scope.variables j node at in
      record {
        type_is = ap type_of there ∙ ap (λ (z : DeclaredNode). (z.kind).of) is ∙ of;
        within = tt;
        defines = λ x rows. refl;
      }

  module _ (seen : program_view p ≡ elaborated t look order) where
    -- ---- for the whole run

    seen_statics : map static_view p.statics.items ≡ map (static whole) (flat_map unit_statics (units_of t))
    seen_statics = ap (λ (z : ProgramNode). z.statics) seen

    pub static_fits : (scope : Scope) (site : Site) (lent e : ℕ) (o : Object) (i : ℕ) → (site.context).unit ≡ scope.unit
        → position (nat_eq e) (static_entities (units_of t)) ≡ Some i → slice_get (natures t look) e ≡ Some (variable o)
        → Fits scope site lent e o (Static i)
    static_fits scope site lent e o i unit_is position_is nature =
        let (v, at_v, entity_is) = from_mapped (λ (v : Variable). v.entity) (flat_map unit_statics (units_of t)) i e (placed (static_entities (units_of t)) e i position_is) in
        let node : slice_get (map static_view p.statics.items) i ≡ Some (static whole v) =
        ap (λ xs. slice_get xs i) seen_statics ∙ mapped_at (static whole) (flat_map unit_statics (units_of t)) i v at_v in
        let (y, there, is) = from_mapped static_view p.statics.items i (static whole v) node in
        let h : Declares (units_of t) v = static_home (units_of t) v (at_has (flat_map unit_statics (units_of t)) i v at_v) in
        let (k, asked, unit_of_k, intent_of_k) = name_asked t look h.home v h.is_home h.among in
        let object_is : object t look v ≡ o = (name_object t look h.home v e o h.is_home h.among entity_is nature).1 in
        let protected_is : y.is_protected ≡ k.is_protected =
        ap (λ (z : StaticNode). z.is_protected) is ∙ ap (λ (h : Option Holder). map_or false (λ (h : Holder). h.is_protected) h) asked in
        let home_is : y.home ≡ k.unit = ap (λ (z : StaticNode). z.home) is ∙ sym unit_of_k in
        record {
          type_is =
              ap static_type there ∙ ap (λ (z : StaticNode). ((z.declared).kind).of) is ∙ ap base_type object_is;
          within = tt;
          defines = λ x rows.
              let asks : lend_rows site x (Some k) ≡ [] = ap (lend_rows site x) (sym asked ∙ ap (slice_get (holders_from 0 (scopes_of t))) entity_is) ∙ rows in
              let may : (not k.is_protected || (k.unit == (site.context).unit)) ≡ true =
              holds (not k.is_protected || (k.unit == (site.context).unit)) _ (first (protected_rows site x k) (intent_rows x k) asks) in
              let may_here : (not y.is_protected || (y.home == scope.unit)) ≡ true =
              ap (λ b. not b || (y.home == scope.unit)) protected_is
              ∙ ap (λ (h : ℕ). not k.is_protected || (h == scope.unit)) home_is
              ∙ ap (λ (u : ℕ). not k.is_protected || (k.unit == u)) (sym unit_is) ∙ may in
              ap (λ o. is_define (right_to scope.unit o)) there ∙ unprotected y.is_protected y.home scope.unit may_here;
        }

    -- ---- dummies

    pub dummy_fits : (site : Site) (u : ℕ) (m : Member) (q : Procedure) (lent e : ℕ) (o : Object) (k : ℕ) (n : names.Name) (i : tree.Intent)
        → map dummy_view q.dummies.items ≡ map (dummy whole u m) ((m.tree).header).dummies → slice_get ((m.tree).header).dummies k ≡ Some n → k < lent
        → (h : Entry t look m n.symbol e o) → (h.holder).intent ≡ Some i → declared_intent h.tree ≡ Some i
        → Fits (permitted.scope_of q) site lent e o (Lent k)
    dummy_fits site u m q lent e o k n i seen_dummies there less h holder_is tree_is =
        let node : slice_get (map dummy_view q.dummies.items) k ≡ Some (dummy whole u m n) =
        ap (λ xs. slice_get xs k) seen_dummies ∙ mapped_at (dummy whole u m) ((m.tree).header).dummies k n there in
        let (y, at_y, is) = from_mapped dummy_view q.dummies.items k (dummy whole u m n) node in
        let lent_is : slice_index_or (map lendable q.dummies.items) k unknown ≡ lendable y = index_at lendable q.dummies.items k y unknown at_y in
        let object_is : (dummy_nature (names_of t look) m.scope (declarations_in m) n).1.object ≡ o =
        ap (λ x. map_or undeclared (object_of (names_of t look) m.scope) x) h.found ∙ h.object_is in
        let intent_is : y.intent ≡ intent_of (Some i) =
        ap (λ (z : DummyNode). z.intent) is ∙ ap (λ x. intent_of (map_or None declared_intent x)) h.found ∙ ap intent_of tree_is in
        record {
          type_is = ap (λ (z : Lendable). z.of) lent_is ∙ ap (λ (z : DummyNode). (z.kind).of) is ∙ ap base_type object_is;
          within = less;
          defines = λ x rows.
              let asks : lend_rows site x (Some h.holder) ≡ [] = ap (lend_rows site x) (sym h.asked) ∙ rows in
              let out : not (is_in (h.holder).intent) ≡ true =
              holds (not (is_in (h.holder).intent)) _ (second (protected_rows site x h.holder) (intent_rows x h.holder) asks) in
              ap (λ (z : Lendable). z.may_define) lent_is ∙ ap (λ z. not (permitted.is_in z)) intent_is
              ∙ given_out i (ap (λ z. not (is_in z)) (sym holder_is) ∙ out);
        }
