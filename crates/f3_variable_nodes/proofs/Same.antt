-- The variables that live for the whole run by the numbers of scopes are those of units and procedures that have these numbers.
use Rattle.std.proofs.Common.{◌≡◌, ◌&&◌, refl, ap, ◌∙◌, ℕ, ◌+◌, List, [], ◌∷◌, ◌++◌, map, filter, get_or, length}
use Rattle.std.specs.List.{flat_map}
use Rattle.std.proofs.lemmas.Option.{get_or_from_slice_get}
use Rattle.f3_access.specs.Access.{first_entity}
use Rattle.f3_scopes.specs.Outlines.{Scope}
use Rattle.f3_scopes.specs.Scopes.{declared_in}
use Rattle.f3_tree.specs.declared.program.UnitKind.TheVariants as unit
use Rattle.f3_tree.specs.Tree.{ProcedureTree, UnitTree}
use Rattle.f3_natures.specs.Walk.{along, count_of, unit_end, unit_start}
use Rattle.f3_type_rules.specs.Members.{Member, members_from, numbered, units_from}
use Rattle.f3_unit_rules.specs.Members.{typed_count, AreFirsts, Fit}
use Rattle.f3_unit_rules.specs.Units.{UnitFits}
use Rattle.f3_elaboration.specs.Nodes.{StaticNode}
use Rattle.f3_elaboration.specs.Numbers.{Inner, Variable, is_saved, is_variable, member_names, unit_statics}
use Rattle.f3_elaboration.specs.Declarations.{Whole, static}
use Rattle.f3_declaration_nodes.specs.declared.whole.Whole.{Whole as Tables}
use Rattle.f3_declaration_nodes.specs.Stands.{Stands}
use Rattle.f3_declaration_nodes.specs.Variables.{static_by}
use Rattle.f3_declaration_nodes.proofs.Varying.{static_stands}
use Rattle.f3_variable_nodes.specs.Inner.Walk.{AllFit, part_statics, procedure_statics, statics_from, unit_statics_by}
use Rattle.f3_variable_nodes.proofs.Fitting.{unit_ends}

abbrev member_statics : (unit : ℕ) → Member → List Variable
member_statics u m = filter (λ v. is_variable v && is_saved v) (member_names u m)

module _ (scopes : List Scope) (firsts : List ℕ) (room : ℕ) (are : AreFirsts scopes firsts) where
  procedures_same : (host e n : ℕ) (ps : List ProcedureTree) → Fit firsts room n ps
      → along (procedure_statics firsts host) n ps ≡ flat_map (member_statics host) (members_from scopes e n ps)
  procedures_same host e n [] fit = refl
  procedures_same host e n (p ∷ ps) fit =
      let next : ℕ = n + 1 + count_of p.body in
      let first : get_or firsts n 0 ≡ first_entity scopes n = get_or_from_slice_get firsts n fit.0.0 0 fit.0.1 ∙ are n fit.0.0 fit.0.1 in
      ap (λ k. part_statics unit.Program host n (k + typed_count (p.header).kind) (p.part).specifications ++ along (procedure_statics firsts host) next ps) first
      ∙ ap (λ vs. part_statics unit.Program host n (first_entity scopes n + typed_count (p.header).kind) (p.part).specifications ++ vs)
      (procedures_same host (e + 1) next ps fit.1)

  unit_same : (n : ℕ) (u : UnitTree) → UnitFits firsts room n u → unit_statics_by firsts n u ≡ unit_statics (numbered scopes n u)
  unit_same n u fit =
      let first : get_or firsts n 0 ≡ first_entity scopes n = get_or_from_slice_get firsts n fit.0.0 0 fit.0.1 ∙ are n fit.0.0 fit.0.1 in
      ap (λ k. part_statics u.kind n n k (u.part).specifications ++ along (procedure_statics firsts n) (unit_start n u) u.procedures) first
      ∙ ap (λ vs. part_statics u.kind n n (first_entity scopes n) (u.part).specifications ++ vs)
      (procedures_same n (first_entity scopes n + length (flat_map declared_in (u.part).specifications)) (unit_start n u) u.procedures fit.1)

  pub units_same : (n : ℕ) (us : List UnitTree) → AllFit firsts room n us → statics_from firsts n us ≡ flat_map unit_statics (units_from scopes n us)
  units_same n [] fit = refl
  units_same n (u ∷ us) fit =
      ap (λ vs. vs ++ statics_from firsts (unit_end n u) us) (unit_same n u fit.0)
      ∙ ap (λ vs. unit_statics (numbered scopes n u) ++ vs)
      (units_same (unit_end n u) us fit.1 ∙ ap (λ k. flat_map unit_statics (units_from scopes k us)) (unit_ends n u))

pub statics_stand : (t : Tables) (w : Whole) (inner : Inner) (vs : List Variable) → Stands t w inner → map (static_by t) vs ≡ map (static w) vs
statics_stand t w inner [] h = refl
statics_stand t w inner (v ∷ vs) h =
    ap (λ (x : StaticNode). x ∷ map (static_by t) vs) (static_stands t w inner v h) ∙ ap (λ (xs : List StaticNode). static w v ∷ xs) (statics_stand t w inner vs h)
