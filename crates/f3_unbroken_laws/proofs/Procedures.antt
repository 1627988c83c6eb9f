-- What a pure procedure declares is of harmless types, where it may be defined or ends (T12).
use Rattle.std.proofs.Common.{◌≡◌, refl, sym, ap, subst, ◌∙◌, inl, inr, ℕ, zero, suc, Bool, true, false, ◌&&◌, ◌||◌, not, List, [], ◌∷◌, ◌++◌, map, nat_eq, Option, None, Some, option_to_list, slice_get}
use Rattle.std.specs.List.{list_any}
use Rattle.std.specs.Map.{lookup}
use Rattle.f3_lookups.specs.declared.lookup.Lookup.{Lookup}
use Rattle.f3_graph.specs.Order.{IsOrderOf}
use Rattle.f3_graph.specs.Units.{nodes_of}
use Rattle.f3_rules.specs.declared.breaks.Break.{Break}
use Rattle.std.proofs.Common.{Contains}
use Rattle.f3_nodes.proofs.Members.{at_has}
use Rattle.f3_scopes.specs.Scopes.{name_or, result_of}
use Rattle.f3_tree.specs.declared.declaration.Intent as tree
use Rattle.f3_tree.specs.declared.declaration.Intent.TheVariants as given
use Rattle.f3_tree.specs.declared.expression.Name.{Name}
use Rattle.f3_tree.specs.declared.program.ProcedureKind.{ProcedureKind}
use Rattle.f3_tree.specs.declared.program.ProcedureKind.TheVariants.{Subroutine, Function}
use Rattle.f3_tree.specs.Declarations.{SpecificationTree, declares}
use Rattle.f3_tree.specs.Tree.{Tree}
use Rattle.f3_program.specs.declared.declarations.Declared as program
use Rattle.f3_program.specs.declared.program.Dummy as dummy
use Rattle.f3_program.specs.declared.program.Procedure.{Procedure}
use Rattle.f3_kinds.specs.Things.{map_or}
use Rattle.f3_meaning_whole.specs.Act.{type_of as type_in}
use Rattle.f3_meaning_whole.specs.Exec.{declared_in}
use Rattle.f3_meaning_whole.specs.Permitted.{is_in as is_given_in, lendable, names_of, scope_of}
use Rattle.f3_type_rules.specs.Declarations.{is_in, may_finalize}
use Rattle.f3_type_rules.specs.Members.{Member, Numbered}
use Rattle.f3_type_rules.specs.Names.{Declared, entries, intent_of, object_of, undeclared}
use Rattle.f3_type_rules.specs.Natures.{specifier_of}
use Rattle.f3_type_rules.specs.Program.{program_breaks}
use Rattle.f3_type_rules.specs.Scene.{names_of as known_names}
use Rattle.f3_type_rules.specs.Walks.{Spot, is_among}
use Rattle.f3_elaboration.specs.Nodes.{DeclaredNode, DummyNode, ProcedureNode}
use Rattle.f3_elaboration.specs.Declarations.{Whole, declared, variable}
use Rattle.f3_elaboration.specs.DeclaredViews.{declared_view, dummy_view, procedure_view}
use Rattle.f3_elaboration.specs.Numbers.{Variable, base_of, is_variable, is_saved, is_in_header, member_locals, member_names, result_name}
use Rattle.f3_elaboration.specs.Units as units
use Rattle.f3_elaboration.specs.Units.{declaration_of, procedure}
use Rattle.f3_lawful_laws.specs.Entities.{units_of, whole_of}
use Rattle.f3_lawful_laws.proofs.Facts.{no, nothing, same, right}
use Rattle.f3_lawful_laws.proofs.Opening.{each_at, from_mapped, mapped_at}
use Rattle.f3_lawful_laws.proofs.Positions.{eq_self}
use Rattle.f3_agreement_laws.specs.Unbroken.{HasOuterTypes}
use Rattle.f3_agreement_laws.proofs.Declared.{IsEntry, entry_of}
use Rattle.f3_entity_laws.specs.Things.{of_member, name, IsAmong, IsHome}
use Rattle.f3_entity_laws.proofs.Entities.{of_program}
use Rattle.f3_entity_laws.proofs.Lists.{split_at}
use Rattle.f3_entity_laws.proofs.Names.{name_things}
use Rattle.f3_variable_laws.proofs.Fits.{seen_variables}
use Rattle.f3_variable_laws.proofs.Lists.{among_of, kept}
use Rattle.f3_pure_laws.specs.Ending.{IsHarmless}
use Rattle.f3_purity_laws.specs.Composed.{EndsWell, AreHarmlessIn}
use Rattle.f3_unbroken_laws.proofs.Rules.{spot, name_ends, result_ends}
use Rattle.f3_unbroken_laws.proofs.Harmless.{harmless, said_harmless}

-- ---- conditions

-- T12 where nothing excuses
unexcused : (a b : Bool) → (not a || b) ≡ true → b ≡ false → a ≡ false
unexcused true b h e = no (sym h ∙ e)
unexcused false b h e = refl

no_excuse : (r p d i : Bool) → p ≡ true → (d && i) ≡ false → (not r && (not p || (d && i))) ≡ false
no_excuse true p d i e h = refl
no_excuse false true d i e h = h
no_excuse false false d i e h = no (sym e)

is_excused_no : (r x : Bool) → r ≡ true → (not r && x) ≡ false
is_excused_no true x e = refl
is_excused_no false x e = no (sym e)

both_false : (a b : Bool) → a ≡ false → (a && b) ≡ false
both_false true b e = no e
both_false false b e = refl

either_no : (a b : Bool) → b ≡ false → (a && b) ≡ false
either_no true b e = e
either_no false b e = refl

kept_out : (a b c : Bool) → (a && (not b && not c)) ≡ true → c ≡ false
kept_out a b true h = no (sym (right (not b) false (right a (not b && false) h)))
kept_out a b false h = refl

-- what a name is none of two lists, it is none of the first
any_before : (n : ℕ) (xs ys : List ℕ) → list_any (nat_eq n) (xs ++ ys) ≡ false → list_any (nat_eq n) xs ≡ false
any_before n [] ys h = refl
any_before n (x ∷ xs) ys h = go (nat_eq n x) h (any_before n xs ys)
  where
    go : (b : Bool) → (b || list_any (nat_eq n) (xs ++ ys)) ≡ false → (list_any (nat_eq n) (xs ++ ys) ≡ false → list_any (nat_eq n) xs ≡ false)
        → (b || list_any (nat_eq n) xs) ≡ false
    go true h rest = no h
    go false h rest = rest h

symbols_joined : (ns ms : List Name) → map (λ (n : Name). n.symbol) (ns ++ ms) ≡ map (λ (n : Name). n.symbol) ns ++ map (λ (n : Name). n.symbol) ms
symbols_joined [] ms = refl
symbols_joined (n ∷ ns) ms = ap (λ l. n.symbol ∷ l) (symbols_joined ns ms)

module _ (t : Tree) (look : ℕ → ℕ → Lookup) (order : List ℕ) (ordered : IsOrderOf (nodes_of t) order) (outer : HasOuterTypes t)
    (none : (b : Break) → Contains (program_breaks t look order) b → ⊥)
    (u : Numbered) (m : Member) (home : IsHome (units_of t) (of_member u m)) where
  abbrev w : Whole
  w = whole_of t look order

  abbrev here : Spot
  here = spot t look order ordered none u m home

  abbrev specifications : List SpecificationTree
  specifications = ((m.tree).part).specifications

  abbrev ends_well : ℕ → Bool
  ends_well = harmless t look order ordered outer

  -- what is declared there, and T12 excuses in nothing, is of a harmless type
  declared_harmless : (x : Declared) → IsAmong specifications (declares x.0) → IsAmong (x.0).entities x.1 → may_finalize here x ≡ false
      → IsHarmless ends_well (base_of w.numbers (object_of (known_names t look) m.scope x).data_type)
  declared_harmless x part entity excused =
      said_harmless t look order ordered outer m.scope (x.0).specifier
      (unexcused _ (may_finalize here x) (name_ends t look order ordered none u m home x.0 x.1 part entity) excused)

  -- ---- variables of an activation

  local_harmless : here.is_pure ≡ true → (v : Variable) → IsAmong (member_locals u.scope m) v → IsHarmless ends_well ((variable w v).kind).of
  local_harmless pure v among =
      let k = kept (λ v. is_variable v && (not (is_saved v) && not (is_in_header m v))) (member_names u.scope m) v (at_has (member_locals u.scope m) among.0 v among.1) in
      let thing = name_things t (of_member u m) v home (among_of (member_names u.scope m) v k.0) in
      let of = of_program t v.entity (name (of_member u m) v.tree) thing.1 in
      let scope_is : v.scope ≡ m.scope = ap (λ (z : Variable). z.scope) thing.0 in
      let apart : is_in_header m v ≡ false = kept_out (is_variable v) (is_saved v) (is_in_header m v) k.1 in
      let dummy_no : is_among here.dummies (v.tree).1 ≡ false =
      any_before ((v.tree).1).name.symbol here.dummies (map (λ (n : Name). n.symbol) (result_name m))
      (ap (list_any (nat_eq ((v.tree).1).name.symbol)) (sym (symbols_joined ((m.tree).header).dummies (result_name m))) ∙ apart) in
      let excused : may_finalize here v.tree ≡ false =
      no_excuse (is_among here.results (v.tree).1) here.is_pure (is_among here.dummies (v.tree).1) (map_or false is_in (intent_of v.tree)) pure
      (both_false (is_among here.dummies (v.tree).1) _ dummy_no) in
      subst (λ n. IsHarmless ends_well (base_of w.numbers (object_of (known_names t look) n v.tree).data_type)) (sym scope_is)
      (declared_harmless v.tree of.1 of.2 excused)

  -- the result, by its declaration
  result_declared : (outcome : Option Name) → here.results ≡ (name_or outcome ((m.tree).header).name).symbol ∷ [] → (o : Option Declared)
      → declaration_of m (name_or outcome ((m.tree).header).name) ≡ o
      → IsHarmless ends_well ((map_or (units.plain w undeclared) (declared w u.scope m.scope) o).kind).of
  result_declared outcome results None found = tt
  result_declared outcome results (Some x) found =
      let n : Name = name_or outcome ((m.tree).header).name in
      let entry : IsEntry specifications n.symbol x = entry_of specifications n.symbol x found in
      let among : is_among here.results x.1 ≡ true =
      ap (list_any (nat_eq ((x.1).name).symbol)) results ∙ ap (λ k. nat_eq k n.symbol || false) entry.name ∙ ap (λ b. b || false) (eq_self n.symbol) in
      declared_harmless x entry.part entry.entity (is_excused_no (is_among here.results x.1) _ among)

  result_harmless : (k : ProcedureKind) → ((m.tree).header).kind ≡ k → (i : ℕ) (node : DeclaredNode)
      → slice_get (option_to_list (units.result_of w u.scope m k)) i ≡ Some node → IsHarmless ends_well (node.kind).of
  result_harmless Subroutine is i node at = nothing at
  result_harmless (Function (Some s) outcome) is zero node at =
      subst (λ (z : DeclaredNode). IsHarmless ends_well (z.kind).of) (same at)
      (said_harmless t look order ordered outer m.scope s (result_ends t look order ordered none u m home s (ap specifier_of is)))
  result_harmless (Function (Some s) outcome) is (suc i) node at = nothing at
  result_harmless (Function None outcome) is zero node at =
      subst (λ (z : DeclaredNode). IsHarmless ends_well (z.kind).of) (same at)
      (result_declared outcome (ap (λ k. map_or [] (λ (n : Name). n.symbol ∷ []) (result_of k ((m.tree).header).name)) is)
      (declaration_of m (name_or outcome ((m.tree).header).name)) refl)
  result_harmless (Function None outcome) is (suc i) node at = nothing at

  -- ---- dummies

  not_in : (i : tree.Intent) → not (is_given_in (units.intent_of (Some i))) ≡ true → is_in i ≡ false
  not_in given.In h = no (sym h)
  not_in given.Out h = refl
  not_in given.InOut h = refl

  intent_excuses : (o : Option tree.Intent) → not (is_given_in (units.intent_of o)) ≡ true → map_or false is_in o ≡ false
  intent_excuses None h = refl
  intent_excuses (Some i) h = not_in i h

  dummy_declared : here.is_pure ≡ true → (n : Name) (o : Option Declared) → lookup (nat_eq n.symbol) (entries specifications) ≡ o
      → not (is_given_in (units.intent_of (map_or None intent_of o))) ≡ true
      → IsHarmless ends_well (base_of w.numbers (map_or undeclared (object_of (known_names t look) m.scope) o).data_type)
  dummy_declared pure n None found may = no (sym may)
  dummy_declared pure n (Some x) found may =
      let entry : IsEntry specifications n.symbol x = entry_of specifications n.symbol x found in
      declared_harmless x entry.part entry.entity
      (no_excuse (is_among here.results x.1) here.is_pure (is_among here.dummies x.1) (map_or false is_in (intent_of x)) pure
      (either_no (is_among here.dummies x.1) _ (intent_excuses (intent_of x) may)))

  dummy_harmless : here.is_pure ≡ true → (n : Name) → not (is_given_in (units.dummy w u.scope m n).intent) ≡ true
      → IsHarmless ends_well ((units.dummy w u.scope m n).kind).of
  dummy_harmless pure n may = dummy_declared pure n (lookup (nat_eq n.symbol) (entries specifications)) refl may

  -- ---- in the program

  module _ (pure : here.is_pure ≡ true) (q : Procedure) (seen : procedure_view q ≡ procedure w u.scope m) where
    variable_at_place : (i : ℕ) (d : program.Declared) → slice_get (declared_in q) i ≡ Some d → IsHarmless ends_well (d.kind).of
    variable_at_place i d at =
        let node : slice_get (map (variable w) (member_locals u.scope m) ++ option_to_list (units.result_of w u.scope m ((m.tree).header).kind)) i ≡ Some (declared_view d) =
        ap (λ l. slice_get l i) (sym (seen_variables q (procedure w u.scope m) seen)) ∙ mapped_at declared_view (declared_in q) i d at in
        elim (split_at (map (variable w) (member_locals u.scope m)) _ i (declared_view d) node) [
          | inl local ↦
              let (v, at_v, is) = from_mapped (variable w) (member_locals u.scope m) i (declared_view d) local in
              subst (λ (z : DeclaredNode). IsHarmless ends_well (z.kind).of) is (local_harmless pure v (i, at_v))
          | inr (j, there, long) ↦ result_harmless ((m.tree).header).kind refl j (declared_view d) there
        ]

    variables_harmless : (i : ℕ) → IsHarmless ends_well (type_in (slice_get (declared_in q) i))
    variables_harmless i = go (slice_get (declared_in q) i) refl
      where
        go : (o : Option program.Declared) → slice_get (declared_in q) i ≡ o → IsHarmless ends_well (type_in o)
        go None at = tt
        go (Some d) at = variable_at_place i d at

    pub dummy_ends : (i : ℕ) (y : dummy.Dummy) → slice_get q.dummies.items i ≡ Some y → EndsWell ends_well (lendable y)
    dummy_ends i y at may =
        let (n, at_n, is) = from_mapped (units.dummy w u.scope m) ((m.tree).header).dummies i (dummy_view y)
        (ap (λ (z : ProcedureNode). slice_get z.dummies i) (sym seen) ∙ mapped_at dummy_view q.dummies.items i y at) in
        subst (λ (z : DummyNode). IsHarmless ends_well (z.kind).of) is
        (dummy_harmless pure n (ap (λ (z : DummyNode). not (is_given_in z.intent)) is ∙ may))

    pub scope_harmless : AreHarmlessIn ends_well (scope_of q)
    scope_harmless = record {
      variables = variables_harmless;
      names =
          each_at (EndsWell ends_well) (names_of q.dummies.items) (λ i l at.
          let (y, at_y, is) = from_mapped lendable q.dummies.items i l at in
          subst (EndsWell ends_well) is (dummy_ends i y at_y));
    }

    -- the locals stand first
    pub local_ends : (i : ℕ) (d : program.Declared) → slice_get q.locals.items i ≡ Some d → IsHarmless ends_well (d.kind).of
    local_ends i d at =
        let (v, at_v, is) = from_mapped (variable w) (member_locals u.scope m) i (declared_view d)
        (ap (λ (z : ProcedureNode). slice_get z.locals i) (sym seen) ∙ mapped_at declared_view q.locals.items i d at) in
        subst (λ (z : DeclaredNode). IsHarmless ends_well (z.kind).of) is (local_harmless pure v (i, at_v))
