-- All of an elaborated program refers to functions alone.
use Rattle.std.proofs.Common.{◌≡◌, ℕ, ◌+◌, List, [], ◌∷◌, ◌++◌, map, filter, Option, None, Some, sym, ap}
use Rattle.std.specs.Prelude.{slice_get}
use Rattle.std.specs.List.{flat_map}
use mathlib.Core.Path.{subst}
use Rattle.f3_places.specs.declared.source.Place.{Place}
use Rattle.f3_lookups.specs.declared.lookup.Lookup.{Lookup}
use Rattle.f3_tree.specs.Tree.{Tree}
use Rattle.f3_program.specs.declared.program.Procedure.{Procedure}
use Rattle.f3_program.specs.declared.program.Program.{Program}
use Rattle.f3_kinds.specs.Things.{map_or}
use Rattle.f3_meaning_whole.specs.Permitted.{Each}
use Rattle.f3_type_rules.specs.Members.{Member, Numbered}
use Rattle.f3_elaboration.specs.Nodes.{ProcedureNode, ProgramNode}
use Rattle.f3_elaboration.specs.Declarations.{Whole}
use Rattle.f3_elaboration.specs.DeclaredViews.{procedure_view, program_view}
use Rattle.f3_elaboration.specs.Numbers.{Inner, numbers_in_member, numbers_in_main}
use Rattle.f3_elaboration.specs.Program.{is_main, nothing_done, elaborated}
use Rattle.f3_elaboration.specs.Units.{surroundings, in_member, in_main, procedure as procedure_node, main as main_node}
use Rattle.f3_lawful_laws.specs.Entities.{units_of, whole_of}
use Rattle.f3_lawful_laws.proofs.SeenStatements.{each_seen}
use Rattle.f3_pure_laws.specs.References.{StatementRefers}
use Rattle.f3_reference_laws.specs.Laws.{HaveResults, ElaboratedRefers}
use Rattle.f3_reference_laws.proofs.Nodes.{DoneRefers}
use Rattle.f3_reference_laws.proofs.Seen.{statement_seen}
use Rattle.f3_reference_laws.proofs.Walking.{FunctionsAre}
use Rattle.f3_reference_laws.proofs.Statements.{block_refers}

module _ (t : Tree) (look : ℕ → ℕ → Lookup) (order : List ℕ) (p : Program) (seen : program_view p ≡ elaborated t look order) (results : HaveResults p (whole_of t look order)) where
  abbrev w : Whole
  w = whole_of t look order

  functions_are : (unit scope : ℕ) (inner : Inner) → FunctionsAre p (surroundings w unit scope inner)
  functions_are unit scope inner e pure ds o there = results e pure ds o there

  -- ---- bodies

  abbrev RefersAs : ProcedureNode → Type 0
  RefersAs node = DoneRefers p node.body

  members_refer : (unit : ℕ) (ms : List Member) → Each RefersAs (map (procedure_node w unit) ms)
  members_refer unit [] = tt
  members_refer unit (m ∷ ms) = (block_refers p (m.tree).body (in_member w unit m) (functions_are unit m.scope (numbers_in_member ((w.scene).names).look unit m)) (m.scope + 1), members_refer unit ms)

  each_joined : {A : Type 0} (P : A → Type 0) (xs ys : List A) → Each P xs → Each P ys → Each P (xs ++ ys)
  each_joined P [] ys h k = k
  each_joined P (x ∷ xs) ys h k = (h.0, each_joined P xs ys h.1 k)

  units_refer : (us : List Numbered) → Each RefersAs (flat_map (λ (u : Numbered). map (procedure_node w u.scope) u.members) us)
  units_refer [] = tt
  units_refer (u ∷ us) = each_joined RefersAs (map (procedure_node w u.scope) u.members) _ (members_refer u.scope u.members) (units_refer us)

  main_refers : (place : Place) (o : Option Numbered) → RefersAs (map_or (nothing_done place) (main_node w) o)
  main_refers place None = tt
  main_refers place (Some u) = block_refers p (u.tree).body (in_main w u) (functions_are u.scope u.scope (numbers_in_main u)) (u.scope + 1)

  seen_refers : (q : Procedure) → RefersAs (procedure_view q) → StatementRefers p q.body
  seen_refers q h = statement_seen p q.body h

  all_refer : StatementRefers p p.main.body × Each (λ (q : Procedure). StatementRefers p q.body) p.procedures.items
  all_refer = (
    seen_refers p.main (subst RefersAs (sym (ap (λ (y : ProgramNode). y.main) seen)) (main_refers t.end (slice_get (filter (λ (u : Numbered). is_main (u.tree).kind) (units_of t)) 0))),
    each_seen RefersAs (λ (q : Procedure). StatementRefers p q.body) procedure_view seen_refers p.procedures.items (subst (Each RefersAs) (sym (ap (λ (y : ProgramNode). y.procedures) seen)) (units_refer (units_of t))),
  )

pub elaborated_refers : ElaboratedRefers
elaborated_refers t look order p seen results = all_refer t look order p seen results
