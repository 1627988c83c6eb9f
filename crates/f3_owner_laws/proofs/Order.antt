-- The procedures of an elaborated program stand in the order of those of its tree.
use Rattle.std.proofs.Common.{◌≡◌, refl, sym, ap, ◌∙◌, ℕ, ◌+◌, List, [], ◌∷◌, ◌++◌, length, map}
use Rattle.std.proofs.lemmas.List.{map-append}
use Rattle.std.specs.List.{flat_map}
use Rattle.f3_places.specs.declared.source.Place.{Place}
use Rattle.f3_scopes.specs.Outlines.{Scope}
use Rattle.f3_scopes.specs.Scopes.{unit_scopes, declared_in, scopes_of}
use Rattle.f3_access.specs.Access.{first_entity}
use Rattle.f3_lookups.specs.declared.lookup.Lookup.{Lookup}
use Rattle.f3_tree.specs.Tree.{ProcedureTree, UnitTree, Tree}
use Rattle.f3_program.specs.declared.program.Procedure.{Procedure}
use Rattle.f3_program.specs.declared.program.Program.{Program}
use Rattle.f3_type_rules.specs.Associates.{constructs_of_block}
use Rattle.f3_type_rules.specs.Members.{Numbered, members_from, units_from}
use Rattle.f3_elaboration.specs.Nodes.{ProcedureNode, ProgramNode}
use Rattle.f3_elaboration.specs.Declarations.{Whole}
use Rattle.f3_elaboration.specs.DeclaredViews.{procedure_view, program_view}
use Rattle.f3_elaboration.specs.Program.{elaborated}
use Rattle.f3_elaboration.specs.Units.{procedure}
use Rattle.f3_lawful_laws.specs.Entities.{whole_of}

abbrev ends : List ProcedureNode → List Place
ends ys = map (λ (y : ProcedureNode). y.end) ys

abbrev written : List ProcedureTree → List Place
written ys = map (λ (y : ProcedureTree). y.end) ys

viewed : (qs : List Procedure) → map (λ (q : Procedure). q.end) qs ≡ ends (map procedure_view qs)
viewed [] = refl
viewed (q ∷ qs) = ap (λ l. q.end ∷ l) (viewed qs)

members : (w : Whole) (unit : ℕ) (scopes : List Scope) (e n : ℕ) (ps : List ProcedureTree)
    → ends (map (procedure w unit) (members_from scopes e n ps)) ≡ written ps
members w unit scopes e n [] = refl
members w unit scopes e n (p ∷ ps) = ap (λ l. p.end ∷ l) (members w unit scopes (e + 1) (n + 1 + length (constructs_of_block p.body)) ps)

units : (w : Whole) (scopes : List Scope) (n : ℕ) (us : List UnitTree)
    → ends (flat_map (λ (u : Numbered). map (procedure w u.scope) u.members) (units_from scopes n us))
    ≡ written (flat_map (λ (u : UnitTree). u.procedures) us)
units w scopes n [] = refl
units w scopes n (u ∷ us) =
    let own : ℕ = length (flat_map declared_in (u.part).specifications) in
    map-append (λ (y : ProcedureNode). y.end)
    (map (procedure w n) (members_from scopes (first_entity scopes n + own) (n + 1 + length (constructs_of_block u.body)) u.procedures))
    (flat_map (λ (v : Numbered). map (procedure w v.scope) v.members) (units_from scopes (n + length (unit_scopes n u)) us))
    ∙ ap (λ l. l ++ ends (flat_map (λ (v : Numbered). map (procedure w v.scope) v.members) (units_from scopes (n + length (unit_scopes n u)) us)))
    (members w n scopes (first_entity scopes n + own) (n + 1 + length (constructs_of_block u.body)) u.procedures)
    ∙ ap (λ l. written u.procedures ++ l) (units w scopes (n + length (unit_scopes n u)) us)
    ∙ sym (map-append (λ (y : ProcedureTree). y.end) u.procedures (flat_map (λ (v : UnitTree). v.procedures) us))

pub in_order : (t : Tree) (look : ℕ → ℕ → Lookup) (order : List ℕ) (p : Program) → program_view p ≡ elaborated t look order
    → map (λ (q : Procedure). q.end) p.procedures.items ≡ map (λ (y : ProcedureTree). y.end) (flat_map (λ (u : UnitTree). u.procedures) t.units)
in_order t look order p seen =
    viewed p.procedures.items
    ∙ ap (λ (y : ProgramNode). ends y.procedures) seen
    ∙ units (whole_of t look order) (scopes_of t) 0 t.units
