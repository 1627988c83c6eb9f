-- A program that breaks no rule fits as a whole.
use Rattle.std.proofs.Common.{◌≡◌, ℕ, ◌+◌, true, List, [], ◌∷◌, length, filter, refl, sym, ap}
use Rattle.std.specs.List.{flat_map}
use mathlib.Core.Path.{subst}
use Rattle.f3_access.specs.Access.{first_entity}
use Rattle.f3_scopes.specs.Outlines.{Scope}
use Rattle.f3_scopes.specs.Scopes.{declared_in, scopes_of, unit_scopes}
use Rattle.f3_lookups.specs.declared.lookup.Lookup.{Lookup}
use Rattle.f3_tree.specs.Tree.{ProcedureTree, UnitTree, Tree}
use Rattle.f3_program.specs.declared.program.Procedure.{Procedure}
use Rattle.f3_program.specs.declared.program.Program.{Program}
use Rattle.f3_meaning_whole.specs.Permitted.{Each, IsLawful}
use Rattle.f3_meaning_whole.specs.Formed.{IsWellFormed}
use Rattle.f3_cell_kinds.specs.Sense.{procedure_fits}
use Rattle.f3_type_rules.specs.Associates.{constructs_of_block}
use Rattle.f3_type_rules.specs.Declarations.{unit_rows, unit_next}
use Rattle.f3_type_rules.specs.Members.{Member, Numbered, members_from, units_from}
use Rattle.f3_type_rules.specs.Program.{unit_breaks, units_in, nothing_known, program_breaks}
use Rattle.f3_type_rules.specs.Walks.{along}
use Rattle.f3_elaboration.specs.Nodes.{ProgramNode}
use Rattle.f3_elaboration.specs.Declarations.{Whole}
use Rattle.f3_elaboration.specs.DeclaredViews.{procedure_view}
use Rattle.f3_elaboration.specs.Program.{is_main}
use Rattle.f3_lawful_laws.specs.Entities.{units_of, whole_of}
use Rattle.f3_lawful_laws.proofs.Facts.{second, both}
use Rattle.f3_lawful_laws.proofs.SeenStatements.{each_seen}
use Rattle.f3_lawful_laws.proofs.Trees.{units_placed, all_lie}
use Rattle.f3_lawful_laws.proofs.Whole.{lawful}
use Rattle.f3_formed_laws.specs.Levels.{IsBlockLevelled, IsUnitLevelled}
use Rattle.f3_formed_laws.proofs.Facts.{all_each}
use Rattle.f3_formed_laws.proofs.Whole.{well_formed}
use Rattle.f3_agreement_laws.proofs.Free.{nil_of}
use Rattle.f3_fitting_laws.specs.Bounded.{IsBlockBounded, IsUnitBounded}
use Rattle.f3_initial_laws.proofs.Whole.{initials}
use Rattle.f3_fitted_laws.specs.Laws.{UnbrokenFits}
use Rattle.f3_fitted_laws.proofs.Finals.{finals}
use Rattle.f3_fitted_laws.proofs.Procedures as there
use Rattle.f3_fitted_laws.proofs.Procedures.{FitsAs, MainFitsAs, procedures_fit, mains, main_of}

-- ---- bodies with levels and literals, by the numbers of units

members_levelled : (scopes : List Scope) (e n : ℕ) (ps : List ProcedureTree) → Each (λ (q : ProcedureTree). IsBlockLevelled q.body) ps
    → Each (λ (q : ProcedureTree). IsBlockBounded q.body) ps
    → Each (λ (m : Member). IsBlockLevelled (m.tree).body × IsBlockBounded (m.tree).body) (members_from scopes e n ps)
members_levelled scopes e n [] h d = tt
members_levelled scopes e n (q ∷ ps) h d = ((h.0, d.0), members_levelled scopes (e + 1) (n + 1 + length (constructs_of_block q.body)) ps h.1 d.1)

module _ (p : Program) (t : Tree) (look : ℕ → ℕ → Lookup) (order : List ℕ) where
  units_levelled : (scopes : List Scope) (n : ℕ) (us : List UnitTree) → Each IsUnitLevelled us → Each IsUnitBounded us
      → Each (there.IsUnitLevelled p t look order) (units_from scopes n us)
  units_levelled scopes n [] h d = tt
  units_levelled scopes n (u ∷ us) h d = (
    (
      (h.0).0,
      (d.0).0,
      members_levelled scopes (first_entity scopes n + length (flat_map declared_in (u.part).specifications)) (n + 1 + length (constructs_of_block u.body)) u.procedures
          (h.0).1 (d.0).1,
    ),
    units_levelled scopes (n + length (unit_scopes n u)) us h.1 d.1,
  )

pub fits : UnbrokenFits
fits t look order p spelled levelled bounded written free seen entities kinds =
    let w : Whole = whole_of t look order in
    let formed : IsWellFormed p = well_formed t look order p spelled levelled free.means seen kinds free.types in
    let is_lawful : IsLawful p = lawful t look order p spelled free.means seen entities free.types in
    let declared = initials t look order p written free seen in
    let none : flat_map (unit_breaks w.scene w.values) (units_of t) ≡ [] =
    second (along (unit_rows w.scene) (unit_next w.scene) nothing_known (units_in (units_of t) order)) _ (nil_of (program_breaks t look order) free.types) in
    let placed = units_placed (scopes_of t) look free.means 0 t.units spelled (all_lie (scopes_of t)) in
    let levels = units_levelled p t look order (scopes_of t) 0 t.units levelled bounded in
    let main_is : MainFitsAs p t look order _ =
    main_of p t look order t.end (filter (λ (u : Numbered). is_main (u.tree).kind) (units_of t)) (mains p t look order (units_of t) kinds.units placed levels none) in
    let in_main = main_is p.main (ap (λ (y : ProgramNode). y.main) seen) in
    let procedures : Each (λ (q : Procedure). procedure_fits p q ≡ true) p.procedures.items =
    each_seen (FitsAs p t look order) (λ (q : Procedure). procedure_fits p q ≡ true) procedure_view (λ q k. k q refl) p.procedures.items
    (subst (Each (FitsAs p t look order)) (sym (ap (λ (y : ProgramNode). y.procedures) seen)) (procedures_fit p t look order (units_of t) kinds.units placed levels none)) in
    record {
      finals = finals p formed is_lawful;
      components = declared.0;
      statics = declared.1;
      variables = declared.2;
      main = in_main.0;
      statements = both (procedure_fits p p.main) _ in_main.1 (all_each (procedure_fits p) p.procedures.items procedures);
    }
