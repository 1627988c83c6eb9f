-- The names that are visible where the body of a procedure begins.
use Rattle.std.proofs.Common.{◌≡◌, refl, sym, ap, subst, ◌∙◌, inl, inr, ℕ, zero, suc, ◌+◌, ◌⊎◌, Bool, true, false, not, ◌&&◌, List, [], ◌∷◌, ◌++◌, length, map, position, nat_eq, Option, None, Some, option_to_list, arith, slice_get}
use Rattle.std.specs.List.{flat_map}
use Rattle.std.proofs.lemmas.List.{length-map}
use Rattle.std.proofs.lemmas.Option.{slice_get_within}
use Rattle.f3_rules.specs.declared.breaks.Break.{Break}
use Rattle.f3_tree.specs.declared.declaration.TypeSpecifier.{TypeSpecifier}
use Rattle.f3_tree.specs.declared.expression.Name.{Name}
use Rattle.f3_tree.specs.declared.program.ProcedureKind.{ProcedureKind}
use Rattle.f3_tree.specs.declared.program.ProcedureKind.TheVariants.{Subroutine, Function}
use Rattle.f3_tree.specs.declared.program.UnitKind.TheVariants as unit
use Rattle.f3_tree.specs.Tree.{Tree}
use Rattle.f3_nodes.proofs.Members.{Has, at_has, has_left, has_right, has_mapped, has_parts, mapped_of, contains_of, any_of}
use Rattle.f3_scopes.specs.declared.outline.EntityKind.TheVariants as entity
use Rattle.f3_scopes.specs.Scopes.{declared_in as declared_by, name_or, outcome_of, plain as plain_own, result_of, scope_of_procedure, scopes_of, typed_result}
use Rattle.f3_lookups.specs.declared.lookup.Lookup.{Lookup}
use Rattle.f3_lookups.specs.declared.lookup.Lookup.TheVariants.{One}
use Rattle.f3_access.specs.Access.{IsDeclared, IsVisible}
use Rattle.f3_access.specs.Hosts.{host_in}
use Rattle.f3_access.specs.Lookups.{Resolves}
use Rattle.f3_name_rules.specs.NameBreaks.{NameBreaks}
use Rattle.f3_program.specs.declared.expression.Name as object
use Rattle.f3_program.specs.declared.expression.Name.TheVariants.{Local, Lent}
use Rattle.f3_program.specs.declared.program.Procedure.{Procedure}
use Rattle.f3_program.specs.declared.program.Program.{Program}
use Rattle.f3_kinds.specs.declared.types.Object.{Object}
use Rattle.f3_kinds.specs.Things.{map_or, variable}
use Rattle.f3_meaning_whole.specs.Exec.{declared_in}
use Rattle.f3_meaning_whole.specs.Permitted.{scope_of}
use Rattle.f3_type_rules.specs.Definitions.{Site}
use Rattle.f3_type_rules.specs.Members.{Member, Numbered}
use Rattle.f3_type_rules.specs.Names.{undeclared}
use Rattle.f3_type_rules.specs.Natures.{specifier_of, typed_object}
use Rattle.f3_type_rules.specs.Scene.{names_of}
use Rattle.f3_phase_laws.specs.Numbers.{units_of}
use Rattle.f3_order_laws.proofs.Places.{at_either}
use Rattle.f3_order_laws.proofs.Resolved.{resolved}
use Rattle.f3_elaboration.specs.Nodes.{DeclaredNode, ProcedureNode}
use Rattle.f3_elaboration.specs.Numbers.{Variable, entity_of, is_in_header, is_saved, is_variable, member_locals, member_names, name_by, number_in, result_name}
use Rattle.f3_elaboration.specs.Declarations.{Whole, declared, variable as variable_node}
use Rattle.f3_elaboration.specs.DeclaredViews.{declared_view, dummy_view, procedure_view, program_view}
use Rattle.f3_elaboration.specs.Program.{elaborated}
use Rattle.f3_elaboration.specs.Units as units
use Rattle.f3_elaboration.specs.Units.{declaration_of, plain, procedure}
use Rattle.f3_entity_laws.specs.Things.{of_unit, of_member, result, IsHome}
use Rattle.f3_entity_laws.proofs.Entities.{homes}
use Rattle.f3_entity_laws.proofs.Names.{result_things}
use Rattle.f3_entity_laws.proofs.Natures.{things as thing_nature}
use Rattle.f3_lawful_laws.proofs.Facts.{nothing, same, both, negated}
use Rattle.f3_lawful_laws.proofs.Opening.{mapped_at, from_mapped, at_front, at_back}
use Rattle.f3_lawful_laws.proofs.Positions.{eq_same}
use Rattle.f3_variable_laws.proofs.Alone.{declared_once}
use Rattle.f3_variable_laws.proofs.Fits.{whole, base_type, Fits, seen_variables, local_fits, static_fits, dummy_fits}
use Rattle.f3_variable_laws.proofs.Headers.{header_entity, not_typed, entry, given}
use Rattle.f3_variable_laws.proofs.Lists.{has_of, among_of, absent, found, placed, kept, keeps}
use Rattle.f3_variable_laws.proofs.Natures.{natures, name_object, same_object}
use Rattle.f3_variable_laws.proofs.Owned.{member_is, member_variable, unit_variable, MemberNamed, Typed}
use Rattle.f3_variable_laws.proofs.Parts.{symbol_by}
use Rattle.f3_variable_laws.proofs.Statics.{static_entities, member_static, never_absent, unit_never_absent, module_never_absent}
use Rattle.f3_variable_laws.proofs.Visible.{member_from}

-- ---- results

typed_name : (k : ProcedureKind) (n : Name) (s : TypeSpecifier) → specifier_of k ≡ Some s → result_of k n ≡ Some (name_or (outcome_of k) n)
typed_name Subroutine n s e = nothing e
typed_name (Function None outcome) n s e = nothing e
typed_name (Function (Some z) outcome) n s e = refl

-- the one name of the result
abbrev names_by : Option Name → List Name
names_by o = map_or [] (λ (n : Name). n ∷ []) o

one_name : (o : Option Name) (i : ℕ) (r : Name) → slice_get (names_by o) i ≡ Some r → (o ≡ Some r) × (i ≡ 0)
one_name None i r at = nothing at
one_name (Some n) zero r at = (at, refl)
one_name (Some n) (suc i) r at = nothing at

module _ (t : Tree) (look : ℕ → ℕ → Lookup) (means : (scope symbol : ℕ) → Resolves (look scope symbol) (IsVisible (scopes_of t) scope symbol))
    (none : (b : Break) → NameBreaks (scopes_of t) t.names b → ⊥)
    (p : Program) (order : List ℕ) (seen : program_view p ≡ elaborated t look order)
    (u : Numbered) (m : Member) (home : IsHome (units_of t) (of_member u m)) (module_is : (u.tree).kind ≡ unit.Module)
    (q : Procedure) (seen_here : procedure_view q ≡ procedure (whole p t look order) u.scope m) where
  abbrev w : Whole
  w = whole p t look order

  abbrev locals : List ℕ
  locals = map (λ (v : Variable). v.entity) (member_locals u.scope m)

  abbrev entity_at : Name → ℕ
  entity_at n = entity_of (look m.scope n.symbol)

  abbrev results : List ℕ
  results = map entity_at (result_name m)

  abbrev variables : List ℕ
  variables = locals ++ results

  abbrev dummies : List ℕ
  dummies = map entity_at ((m.tree).header).dummies

  abbrev IsFit : Site → ℕ → Object → object.Name → Type 0
  IsFit site e o n = Fits p t look order (scope_of q) site (length dummies) e o n

  module _ (symbol e : ℕ) (o : Object) (looked : look m.scope symbol ≡ One e) (nature : slice_get (natures t look) e ≡ Some (variable o)) where
    visible : IsVisible (scopes_of t) m.scope symbol e
    visible = resolved (scopes_of t) look means m.scope symbol e looked

    -- what does not live for the whole run is the procedure's own
    own : position (nat_eq e) (static_entities (units_of t)) ≡ None → IsDeclared (scopes_of t) m.scope symbol e
    own free = elim (member_from (scopes_of t) m.scope symbol e visible u.scope (ap host_in (homes t (of_member u m) home)) (ap host_in (homes t (of_unit u) home.0))) [
      | inl here ↦ here
      | inr (inl around) ↦ absurd (unit_never_absent (units_of t) u symbol e home.0 module_is (unit_variable t look u symbol e o home.0 around nature) free)
      | inr (inr there) ↦ absurd (module_never_absent t look e o there nature free)
    ]

    -- ---- of an activation

    seen_all : map declared_view (declared_in q) ≡ map (variable_node w) (member_locals u.scope m) ++ option_to_list (units.result_of w u.scope m ((m.tree).header).kind)
    seen_all = seen_variables q (procedure w u.scope m) seen_here

    local_named : (site : Site) (j : ℕ) → slice_get locals j ≡ Some e → IsFit site e o (Local j)
    local_named site j at =
        let (v, at_v, entity_is) = from_mapped (λ (v : Variable). v.entity) (member_locals u.scope m) j e at in
        let is_kept = kept (λ v. is_variable v && (not (is_saved v) && not (is_in_header m v))) (member_names u.scope m) v (at_has (member_locals u.scope m) j v at_v) in
        let object_is = (name_object t look (of_member u m) v e o home (among_of (member_names u.scope m) v is_kept.0) entity_is nature).1 in
        local_fits p t look order (scope_of q) site (length dummies) e o j (variable_node w v)
        (ap (λ xs. slice_get xs j) seen_all ∙ at_front (map (variable_node w) (member_locals u.scope m)) _ j _ (mapped_at (variable_node w) (member_locals u.scope m) j v at_v))
        (ap (base_type p t look order) object_is)

    -- ---- the result

    typed_declared : (s : TypeSpecifier) (outcome : Option Name) (r : Name) → ((m.tree).header).kind ≡ Function (Some s) outcome
        → Some (name_or outcome ((m.tree).header).name) ≡ Some r → IsDeclared (scopes_of t) m.scope r.symbol m.first
    typed_declared s outcome r kind is =
        let first = (member_is t look u m home).first in (
          scope_of_procedure u.scope m.tree,
          0,
          plain_own entity.Variable (name_or outcome ((m.tree).header).name),
          homes t (of_member u m) home,
          ap (λ k. slice_get (typed_result k ((m.tree).header).name ++ flat_map declared_by ((m.tree).part).specifications) 0) kind,
          ap (λ (n : Name). n.symbol) (same is),
          omega (arith, first),
        )

    -- what it is declared with
    result_typed : (k : ProcedureKind) (r : Name) → ((m.tree).header).kind ≡ k → result_of k ((m.tree).header).name ≡ Some r → IsDeclared (scopes_of t) m.scope r.symbol e
        → (node : DeclaredNode) × (units.result_of w u.scope m k ≡ Some node) × ((node.kind).of ≡ base_type p t look order o)
    result_typed Subroutine r kind is there = nothing is
    result_typed (Function (Some s) outcome) r kind is there =
        let at_first = result_things t u m s home (ap specifier_of kind) in
        let known = thing_nature (names_of t look) (units_of t) m.first (result u m s) at_first in
        let one : m.first ≡ e = declared_once t look means none m.scope r.symbol m.first e (typed_declared s outcome r kind is) there in
        let object_is : typed_object (names_of t look) m.scope s ≡ o =
        same_object (typed_object (names_of t look) m.scope s) o (same (sym known.1 ∙ ap (slice_get (natures t look)) one ∙ nature)) in
        (plain w (typed_object (names_of t look) m.scope s), refl, ap (base_type p t look order) object_is)
    result_typed (Function None outcome) r kind is there =
        let h = entry t look means none u m home r.symbol e o there nature (λ (z : Typed m r.symbol e). nothing (sym (ap specifier_of kind) ∙ z.is)) in
        let found_is : declaration_of m (name_or outcome ((m.tree).header).name) ≡ Some h.tree = ap (declaration_of m) (same is) ∙ h.found in (
          declared w u.scope m.scope h.tree,
          ap (λ x. Some (map_or (plain w undeclared) (declared w u.scope m.scope) x)) found_is,
          ap (base_type p t look order) h.object_is,
        )

    result_named : (site : Site) (j i : ℕ) → slice_get results i ≡ Some e → length locals + i ≡ j → IsFit site e o (Local j)
    result_named site j i at long =
        let (r, at_r, is) = from_mapped entity_at (result_name m) i e at in
        let (result_is, at_zero) = one_name (result_of ((m.tree).header).kind ((m.tree).header).name) i r at_r in
        let there = header_entity t look means none u m home r e (inr result_is) is in
        let (node, node_is, of) = result_typed ((m.tree).header).kind r refl result_is there in
        let front = map (variable_node w) (member_locals u.scope m) in
        let last = units.result_of w u.scope m ((m.tree).header).kind in
        let one = length-map (member_locals u.scope m) (λ (v : Variable). v.entity) in
        let two = length-map (member_locals u.scope m) (variable_node w) in
        let place : j ≡ length front + 0 = omega (arith, long, at_zero, one, two) in
        local_fits p t look order (scope_of q) site (length dummies) e o j node
        (ap (λ xs. slice_get xs j) seen_all ∙ ap (slice_get (front ++ option_to_list last)) place
        ∙ at_back front (option_to_list last) 0 node (ap (λ o. slice_get (option_to_list o) 0) node_is)) of

    has_result : (r : Name) → result_of ((m.tree).header).kind ((m.tree).header).name ≡ Some r → r.symbol ≡ symbol → Has variables e
    has_result r is symbol_is =
        has_right locals results e
        (subst (Has results) (ap (λ z. entity_of (look m.scope z)) symbol_is ∙ ap entity_of looked)
        (has_mapped entity_at (result_name m) r (subst (λ o. Has (names_by o) r) (sym is) (inl refl))))

    -- ---- dummies

    lent_found : position (nat_eq e) (static_entities (units_of t)) ≡ None → position (nat_eq e) variables ≡ None → (k : ℕ) × (position (nat_eq e) dummies ≡ Some k)
    lent_found free unlisted = elim (member_variable t look u m symbol e o home (own free) nature) [
      | inl typed ↦
          absurd (absent variables e unlisted
          (has_result (name_or (outcome_of ((m.tree).header).kind) ((m.tree).header).name)
          (typed_name ((m.tree).header).kind ((m.tree).header).name typed.specifier typed.is) typed.symbol_is))
      | inr named ↦ by named (is_saved named.declared) (is_in_header m named.declared) refl refl
    ]
      where
        listed : (named : MemberNamed u m symbol e) (n : Name) → n.symbol ≡ symbol → Has ((m.tree).header).dummies n ⊎ Has (result_name m) n
            → (k : ℕ) × (position (nat_eq e) dummies ≡ Some k)
        listed named n is (inl dummy) =
            found dummies e (subst (Has dummies) (ap (λ z. entity_of (look m.scope z)) is ∙ ap entity_of looked) (has_mapped entity_at ((m.tree).header).dummies n dummy))
        listed named n is (inr outcome) =
            absurd (absent variables e unlisted
            (has_right locals results e
            (subst (Has results) (ap (λ z. entity_of (look m.scope z)) is ∙ ap entity_of looked) (has_mapped entity_at (result_name m) n outcome))))

        by : (named : MemberNamed u m symbol e) (saved in_header : Bool) → is_saved named.declared ≡ saved → is_in_header m named.declared ≡ in_header
            → (k : ℕ) × (position (nat_eq e) dummies ≡ Some k)
        by named true in_header saved_is header_is =
            absurd (never_absent (units_of t) named.declared e (member_static (units_of t) u m named.declared home named.among named.varies saved_is) named.entity_is free)
        by named false false saved_is header_is =
            let keeps_it = both (is_variable named.declared) (not (is_saved named.declared) && not (is_in_header m named.declared)) named.varies
            (both (not (is_saved named.declared)) (not (is_in_header m named.declared)) (negated _ saved_is) (negated _ header_is)) in
            let kept_it : Has (member_locals u.scope m) named.declared =
            keeps (λ v. is_variable v && (not (is_saved v) && not (is_in_header m v))) (member_names u.scope m) named.declared
            (has_of (member_names u.scope m) named.declared named.among) keeps_it in
            absurd (absent variables e unlisted
            (has_left locals results e (subst (Has locals) named.entity_is (has_mapped (λ (v : Variable). v.entity) (member_locals u.scope m) named.declared kept_it))))
        by named false true saved_is header_is =
            let (z, has_z, is_z) = any_of (nat_eq (symbol_by named.declared.tree)) (map (λ (n : Name). n.symbol) (((m.tree).header).dummies ++ result_name m)) header_is in
            let (n, has_n, n_is) = mapped_of (λ (n : Name). n.symbol) (((m.tree).header).dummies ++ result_name m) z has_z in
            listed named n (sym n_is ∙ sym (eq_same (symbol_by named.declared.tree) z is_z) ∙ named.symbol_is) (has_parts ((m.tree).header).dummies (result_name m) n has_n)

    seen_dummies : map dummy_view q.dummies.items ≡ map (units.dummy w u.scope m) ((m.tree).header).dummies
    seen_dummies = ap (λ (z : ProcedureNode). z.dummies) seen_here

    lent_named : (site : Site) (k : ℕ) → position (nat_eq e) dummies ≡ Some k → IsFit site e o (Lent k)
    lent_named site k position_is =
        let at = placed dummies e k position_is in
        let (n, at_n, is) = from_mapped entity_at ((m.tree).header).dummies k e at in
        let dummy_is = contains_of ((m.tree).header).dummies n (at_has ((m.tree).header).dummies k n at_n) in
        let there = header_entity t look means none u m home n e (inl dummy_is) is in
        let h = entry t look means none u m home n.symbol e o there nature (not_typed t look means none u m home k n e at_n) in
        let (i, holder_is, tree_is) = given t look means none u m home k n e o at_n h in
        dummy_fits p t look order seen site u.scope m q (length dummies) e o k n i seen_dummies at_n (slice_get_within dummies k e at) h holder_is tree_is

    -- ---- whatever it is

    unit_here : (scope_of q).unit ≡ u.scope
    unit_here = ap (λ (z : ProcedureNode). z.unit) seen_here

    pub member_fits : (site : Site) → (site.context).unit ≡ u.scope → IsFit site e o ((units.in_member w u.scope m).object e)
    member_fits site unit_is = go (position (nat_eq e) (static_entities (units_of t))) (position (nat_eq e) variables) refl refl
      where
        go : (a b : Option ℕ) → position (nat_eq e) (static_entities (units_of t)) ≡ a → position (nat_eq e) variables ≡ b
            → IsFit site e o (name_by a b (number_in dummies e))
        go (Some i) b at_static at_variable = static_fits p t look order seen (scope_of q) site (length dummies) e o i (unit_is ∙ sym unit_here) at_static nature
        go None (Some j) at_static at_variable = elim (at_either locals results j e (placed variables e j at_variable)) [
          | inl here ↦ local_named site j here
          | inr (i, there, long) ↦ result_named site j i there long
        ]
        go None None at_static at_variable =
            let (k, position_is) = lent_found at_static at_variable in
            subst (λ n. IsFit site e o (Lent n)) (sym (ap (λ o. map_or 0 (λ n. n) o) position_is)) (lent_named site k position_is)
