-- The names that are visible where the body of a unit itself begins.
use Rattle.std.proofs.Common.{◌≡◌, refl, sym, ap, subst, ◌∙◌, inl, inr, ℕ, ◌⊎◌, Bool, true, false, not, ◌&&◌, List, [], ◌++◌, map, position, nat_eq, Option, None, Some, slice_get}
use Rattle.f3_tree.specs.declared.program.UnitKind.{UnitKind}
use Rattle.f3_tree.specs.declared.program.UnitKind.TheVariants as unit
use Rattle.f3_tree.specs.Tree.{Tree}
use Rattle.f3_nodes.proofs.Members.{Has, at_has, has_mapped}
use Rattle.f3_scopes.specs.Scopes.{scopes_of}
use Rattle.f3_lookups.specs.declared.lookup.Lookup.{Lookup}
use Rattle.f3_lookups.specs.declared.lookup.Lookup.TheVariants.{One}
use Rattle.f3_access.specs.Access.{IsVisible}
use Rattle.f3_access.specs.Hosts.{host_in}
use Rattle.f3_access.specs.Lookups.{Resolves}
use Rattle.f3_program.specs.declared.expression.Name as object
use Rattle.f3_program.specs.declared.expression.Name.TheVariants.{Local}
use Rattle.f3_program.specs.declared.program.Procedure.{Procedure}
use Rattle.f3_program.specs.declared.program.Program.{Program}
use Rattle.f3_kinds.specs.declared.types.Object.{Object}
use Rattle.f3_kinds.specs.Things.{variable}
use Rattle.f3_meaning_whole.specs.Exec.{declared_in}
use Rattle.f3_type_rules.specs.Definitions.{Site}
use Rattle.f3_type_rules.specs.Members.{Numbered}
use Rattle.f3_phase_laws.specs.Numbers.{units_of}
use Rattle.f3_order_laws.proofs.Resolved.{resolved}
use Rattle.f3_elaboration.specs.Nodes.{ProcedureNode}
use Rattle.f3_elaboration.specs.Numbers.{Variable, is_saved, is_static_in, is_variable, main_locals, name_by, number_in, unit_names}
use Rattle.f3_elaboration.specs.Declarations.{Whole, variable as variable_node}
use Rattle.f3_elaboration.specs.DeclaredViews.{declared_view, procedure_view, program_view}
use Rattle.f3_elaboration.specs.Program.{elaborated}
use Rattle.f3_elaboration.specs.Units as units
use Rattle.f3_elaboration.specs.Units.{main}
use Rattle.f3_entity_laws.specs.Things.{of_unit, IsAmong}
use Rattle.f3_entity_laws.proofs.Entities.{homes}
use Rattle.f3_lawful_laws.specs.Entities.{main_scope}
use Rattle.f3_lawful_laws.proofs.Facts.{both, negated}
use Rattle.f3_lawful_laws.proofs.Opening.{mapped_at, from_mapped, at_front}
use Rattle.f3_variable_laws.proofs.Fits.{whole, base_type, Fits, seen_variables, local_fits, static_fits}
use Rattle.f3_variable_laws.proofs.Lists.{has_of, among_of, absent, placed, kept, keeps}
use Rattle.f3_variable_laws.proofs.Natures.{natures, name_object}
use Rattle.f3_variable_laws.proofs.Owned.{unit_variable, UnitNamed}
use Rattle.f3_variable_laws.proofs.Statics.{static_entities, unit_static, never_absent, module_never_absent}
use Rattle.f3_variable_laws.proofs.Visible.{unit_from}

-- a variable of a unit lives for the whole run, or is one of the program's activation
static_or_local : (k : UnitKind) (v : Variable) → is_variable v ≡ true → (is_static_in k v ≡ true) ⊎ ((is_variable v && not (is_saved v)) ≡ true)
static_or_local unit.Module v is = inl is
static_or_local unit.Program v is = go (is_saved v) refl
  where
    go : (b : Bool) → is_saved v ≡ b → ((is_variable v && is_saved v) ≡ true) ⊎ ((is_variable v && not (is_saved v)) ≡ true)
    go true saved = inl (both (is_variable v) (is_saved v) is saved)
    go false saved = inr (both (is_variable v) (not (is_saved v)) is (negated (is_saved v) saved))

module _ (t : Tree) (look : ℕ → ℕ → Lookup) (means : (scope symbol : ℕ) → Resolves (look scope symbol) (IsVisible (scopes_of t) scope symbol))
    (p : Program) (order : List ℕ) (seen : program_view p ≡ elaborated t look order) (u : Numbered) (home : IsAmong (units_of t) u)
    (q : Procedure) (seen_here : procedure_view q ≡ main (whole p t look order) u) where
  abbrev w : Whole
  w = whole p t look order

  abbrev locals : List ℕ
  locals = map (λ (v : Variable). v.entity) (main_locals u)

  abbrev IsFit : Site → ℕ → Object → object.Name → Type 0
  IsFit site e o n = Fits p t look order (main_scope q) site 0 e o n

  module _ (symbol e : ℕ) (o : Object) (looked : look u.scope symbol ≡ One e) (nature : slice_get (natures t look) e ≡ Some (variable o)) where
    visible : IsVisible (scopes_of t) u.scope symbol e
    visible = resolved (scopes_of t) look means u.scope symbol e looked

    seen_all : map declared_view (declared_in q) ≡ map (variable_node w) (main_locals u) ++ []
    seen_all = seen_variables q (main w u) seen_here

    local_named : (site : Site) (j : ℕ) → slice_get locals j ≡ Some e → IsFit site e o (Local j)
    local_named site j at =
        let (v, at_v, entity_is) = from_mapped (λ (v : Variable). v.entity) (main_locals u) j e at in
        let is_kept = kept (λ v. is_variable v && not (is_saved v)) (unit_names u) v (at_has (main_locals u) j v at_v) in
        let object_is = (name_object t look (of_unit u) v e o home (among_of (unit_names u) v is_kept.0) entity_is nature).1 in
        local_fits p t look order (main_scope q) site 0 e o j (variable_node w v)
        (ap (λ xs. slice_get xs j) seen_all
        ∙ at_front (map (variable_node w) (main_locals u)) [] j _ (mapped_at (variable_node w) (main_locals u) j v at_v))
        (ap (base_type p t look order) object_is)

    -- one of both
    neither : position (nat_eq e) (static_entities (units_of t)) ≡ None → position (nat_eq e) locals ≡ None → ⊥
    neither free unlisted = elim (unit_from (scopes_of t) u.scope symbol e visible (ap host_in (homes t (of_unit u) home))) [
      | inl here ↦ by (unit_variable t look u symbol e o home here nature)
      | inr there ↦ module_never_absent t look e o there nature free
    ]
      where
        by : UnitNamed u symbol e → ⊥
        by named = elim (static_or_local (u.tree).kind named.declared named.varies) [
          | inl static ↦ never_absent (units_of t) named.declared e (unit_static (units_of t) u named.declared home named.among static) named.entity_is free
          | inr local ↦
              absent locals e unlisted
              (subst (Has locals) named.entity_is
              (has_mapped (λ (v : Variable). v.entity) (main_locals u) named.declared
              (keeps (λ v. is_variable v && not (is_saved v)) (unit_names u) named.declared (has_of (unit_names u) named.declared named.among) local)))
        ]

    unit_here : (main_scope q).unit ≡ u.scope
    unit_here = ap (λ (z : ProcedureNode). z.unit) seen_here

    pub main_fits : (site : Site) → (site.context).unit ≡ u.scope → IsFit site e o ((units.in_main w u).object e)
    main_fits site unit_is = go (position (nat_eq e) (static_entities (units_of t))) (position (nat_eq e) locals) refl refl
      where
        go : (a b : Option ℕ) → position (nat_eq e) (static_entities (units_of t)) ≡ a → position (nat_eq e) locals ≡ b → IsFit site e o (name_by a b (number_in [] e))
        go (Some i) b at_static at_variable = static_fits p t look order seen (main_scope q) site 0 e o i (unit_is ∙ sym unit_here) at_static nature
        go None (Some j) at_static at_variable = local_named site j (placed locals e j at_variable)
        go None None at_static at_variable = absurd (neither at_static at_variable)
