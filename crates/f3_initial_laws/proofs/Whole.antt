-- All that a program which breaks no rule declares is initialized with constants of its types.
use Rattle.std.proofs.Common.{◌≡◌, ℕ, Bool, true, false, cond, List, [], ◌∷◌, ◌++◌, map, filter, Option, None, Some, refl, sym, ap, ◌∙◌}
use Rattle.std.specs.Prelude.{slice_get}
use Rattle.std.specs.Option.{option_map}
use Rattle.std.specs.List.{flat_map}
use mathlib.Core.Path.{subst}
use Rattle.f3_places.specs.declared.source.Place.{Place}
use Rattle.f3_lookups.specs.declared.lookup.Lookup.{Lookup}
use Rattle.f3_tree.specs.Tree.{Tree}
use Rattle.f3_program.specs.declared.declarations.Component.{Component}
use Rattle.f3_program.specs.declared.declarations.Declared.{Declared}
use Rattle.f3_program.specs.declared.declarations.Derived.{Derived}
use Rattle.f3_program.specs.declared.program.Procedure.{Procedure}
use Rattle.f3_program.specs.declared.program.Program.{Program}
use Rattle.f3_program.specs.declared.program.Static as x
use Rattle.f3_kinds.specs.Things.{map_or}
use Rattle.f3_meaning_whole.specs.Exec.{declared_in, with_result}
use Rattle.f3_meaning_whole.specs.Permitted.{Each}
use Rattle.f3_meaning_whole.specs.Formed.{all}
use Rattle.f3_cell_kinds.specs.Sense.{initial_fits}
use Rattle.f3_type_rules.specs.Members.{Member, Numbered}
use Rattle.f3_type_rules.specs.Program.{units_in}
use Rattle.f3_elaboration.specs.Nodes.{DeclaredNode, ComponentNode, DerivedNode, StaticNode, ProcedureNode, ProgramNode}
use Rattle.f3_elaboration.specs.Declarations.{Whole, components, derived, static, variable}
use Rattle.f3_elaboration.specs.DeclaredViews.{component_view, declared_view, derived_view, static_view, procedure_view}
use Rattle.f3_elaboration.specs.Numbers.{Variable, Definition, definitions, unit_statics, main_locals, member_locals}
use Rattle.f3_elaboration.specs.Program.{is_main, nothing_done}
use Rattle.f3_elaboration.specs.Units.{main, procedure}
use Rattle.f3_lawful_laws.specs.Entities.{units_of, whole_of}
use Rattle.f3_lawful_laws.proofs.Facts.{both, left, right}
use Rattle.f3_lawful_laws.proofs.Opening.{each_at}
use Rattle.f3_lawful_laws.proofs.SeenStatements.{each_seen}
use Rattle.f3_formed_laws.proofs.Facts.{all_each, all_seen, each_joined, each_mapped}
use Rattle.f3_entity_laws.proofs.Found.{ordered_unit}
use Rattle.f3_agreement_laws.proofs.Declared.{each_get}
use Rattle.f3_initial_laws.specs.Laws.{InitialsAreOfTypes}
use Rattle.f3_initial_laws.proofs.Initials.{node_fits}
use Rattle.f3_initial_laws.proofs.Listed.{UnitFits, MemberFits, VariableFits, ResultFits, DefinitionFits, units_fit, statics_fit, main_fit, locals_fit, result_fits, definitions_fit}

all_with : (f : Declared → Bool) (xs : List Declared) (y : Declared) → all f xs ≡ true → f y ≡ true → all f (xs ++ y ∷ []) ≡ true
all_with f [] y h e = both (f y) true e refl
all_with f (x ∷ xs) y h e = both (f x) _ (left (f x) _ h) (all_with f xs y (right (f x) _ h) e)

module _ (t : Tree) (look : ℕ → ℕ → Lookup) (order : List ℕ) where
  abbrev w : Whole
  w = whole_of t look order

  -- ---- procedures

  abbrev NodeFits : DeclaredNode → Type 0
  NodeFits d = node_fits d ≡ true

  -- a procedure in memory declares what its data does
  abbrev FitsAs : ProcedureNode → Type 0
  FitsAs node = (q : Procedure) → procedure_view q ≡ node → all initial_fits (declared_in q) ≡ true

  variables_fit : (vs : List Variable) → Each (VariableFits t look order) vs → Each NodeFits (map (variable w) vs)
  variables_fit vs h = each_mapped (VariableFits t look order) NodeFits (variable w) (λ v e. e) vs h

  fits_as : (node : ProcedureNode) → Each NodeFits node.locals → ResultFits t look order node.result → FitsAs node
  fits_as node locals result q seen =
      with_results q.result (ap (λ (y : ProcedureNode). y.result) seen)
      (all_seen initial_fits node_fits declared_view (λ d. refl) q.locals.items ∙ ap (λ (y : ProcedureNode). all node_fits y.locals) seen ∙ all_each node_fits node.locals locals)
    where
      with_results : (o : Option Declared) → option_map declared_view o ≡ node.result → all initial_fits q.locals.items ≡ true
          → all initial_fits (with_result q.locals.items o) ≡ true
      with_results None e h = h
      with_results (Some d) e h = all_with initial_fits q.locals.items d h (subst (ResultFits t look order) (sym e) result)

  members_fit : (unit : ℕ) (ms : List Member) → Each (MemberFits t look order unit) ms → Each FitsAs (map (procedure w unit) ms)
  members_fit unit [] h = tt
  members_fit unit (m ∷ ms) h = (
    fits_as (procedure w unit m) (variables_fit (member_locals unit m) (locals_fit t look order unit m h.0))
        (result_fits t look order unit m h.0 ((m.tree).header).kind),
    members_fit unit ms h.1,
  )

  procedures_fit : (us : List Numbered) → Each (UnitFits t look order) us → Each FitsAs (flat_map (λ (u : Numbered). map (procedure w u.scope) u.members) us)
  procedures_fit [] h = tt
  procedures_fit (u ∷ us) h = each_joined FitsAs (map (procedure w u.scope) u.members) _ (members_fit u.scope u.members (h.0).1) (procedures_fit us h.1)

  -- ---- the main program

  main_fits : (u : Numbered) → UnitFits t look order u → FitsAs (main w u)
  main_fits u h = fits_as (main w u) (variables_fit (main_locals u) (main_fit t look order u h)) tt

  mains_fit : (us : List Numbered) → Each (UnitFits t look order) us → Each (λ (u : Numbered). FitsAs (main w u)) (filter (λ (u : Numbered). is_main (u.tree).kind) us)
  mains_fit [] h = tt
  mains_fit (u ∷ us) h = go (is_main (u.tree).kind) (mains_fit us h.1)
    where
      go : (b : Bool) → Each (λ (u : Numbered). FitsAs (main w u)) (filter (λ (u : Numbered). is_main (u.tree).kind) us)
          → Each (λ (u : Numbered). FitsAs (main w u)) (cond b (u ∷ filter (λ (u : Numbered). is_main (u.tree).kind) us) (filter (λ (u : Numbered). is_main (u.tree).kind) us))
      go true xs = (main_fits u h.0, xs)
      go false xs = xs

  main_of : (place : Place) (us : List Numbered) → Each (λ (u : Numbered). FitsAs (main w u)) us → FitsAs (map_or (nothing_done place) (main w) (slice_get us 0))
  main_of place [] h = fits_as (nothing_done place) tt tt
  main_of place (u ∷ us) h = h.0

  -- ---- types and variables that live for the whole run

  abbrev TypeFits : Derived → Type 0
  TypeFits y = all (λ (c : Component). initial_fits c.declared) y.components.items ≡ true

  abbrev TypeFitsAs : DerivedNode → Type 0
  TypeFitsAs node = (y : Derived) → derived_view y ≡ node → TypeFits y

  type_fits : (d : Definition) → DefinitionFits t look order d → TypeFitsAs (derived w d)
  type_fits d h y seen =
      all_seen (λ (c : Component). initial_fits c.declared) (λ (c : ComponentNode). node_fits c.declared) component_view (λ c. refl) y.components.items
      ∙ ap (λ (z : DerivedNode). all (λ (c : ComponentNode). node_fits c.declared) z.components) seen
      ∙ all_each (λ (c : ComponentNode). node_fits c.declared) (components w d) h

  statics_are : (p : Program) (us : List Numbered) → Each (VariableFits t look order) (flat_map unit_statics us)
      → map static_view p.statics.items ≡ map (static w) (flat_map unit_statics us) → all (λ (y : x.Static). initial_fits y.declared) p.statics.items ≡ true
  statics_are p us h seen =
      all_seen (λ (y : x.Static). initial_fits y.declared) (λ (y : StaticNode). node_fits y.declared) static_view (λ y. refl) p.statics.items
      ∙ ap (all (λ (y : StaticNode). node_fits y.declared)) seen
      ∙ all_each (λ (y : StaticNode). node_fits y.declared) (map (static w) (flat_map unit_statics us))
      (each_mapped (VariableFits t look order) (λ (y : StaticNode). node_fits y.declared ≡ true) (static w) (λ v e. e) (flat_map unit_statics us) h)

pub initials : InitialsAreOfTypes
initials t look order p written free seen =
    let w : Whole = whole_of t look order in
    let units : Each (UnitFits t look order) (units_of t) = units_fit t look order p free seen written in
    let ordered : Each (UnitFits t look order) (units_in (units_of t) order) =
    each_at (UnitFits t look order) (units_in (units_of t) order)
    (λ i u at. let r = ordered_unit t order free.ordered i u at in each_get (UnitFits t look order) (units_of t) r.0 u units r.1) in
    let types : Each (TypeFits t look order) p.types.items =
    each_seen (TypeFitsAs t look order) (TypeFits t look order) derived_view (λ y k. k y refl) p.types.items
    (subst (Each (TypeFitsAs t look order)) (sym (ap (λ (y : ProgramNode). y.types) seen))
    (each_mapped (DefinitionFits t look order) (TypeFitsAs t look order) (derived w) (type_fits t look order) (flat_map definitions (units_in (units_of t) order))
    (definitions_fit t look order (units_in (units_of t) order) ordered))) in
    let main_is = main_of t look order t.end (filter (λ (u : Numbered). is_main (u.tree).kind) (units_of t)) (mains_fit t look order (units_of t) units) in
    let procedures : Each (λ (q : Procedure). all initial_fits (declared_in q) ≡ true) p.procedures.items =
    each_seen (FitsAs t look order) (λ (q : Procedure). all initial_fits (declared_in q) ≡ true) procedure_view (λ q k. k q refl) p.procedures.items
    (subst (Each (FitsAs t look order)) (sym (ap (λ (y : ProgramNode). y.procedures) seen)) (procedures_fit t look order (units_of t) units)) in (
      λ k y at. each_get (TypeFits t look order) p.types.items k y types at,
      statics_are t look order p (units_of t) (statics_fit t look order (units_of t) units) (ap (λ (y : ProgramNode). y.statics) seen),
      both (all initial_fits (declared_in p.main)) _ (main_is p.main (ap (λ (y : ProgramNode). y.main) seen))
          (all_each (λ (q : Procedure). all initial_fits (declared_in q)) p.procedures.items procedures),
    )
