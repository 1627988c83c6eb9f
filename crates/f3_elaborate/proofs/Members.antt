-- Walks along the procedures of a unit.
use Rattle.std.proofs.Common.{◌≡◌, ℕ, ◌+◌, ◌<◌, ◌≤◌, List, [], ◌∷◌, ◌++◌, map, length, drop, get_or, refl, ap, ◌∙◌}
use Rattle.std.proofs.lemmas.Option.{slice_get-get_or}
use Rattle.f3_access.specs.Access.{first_entity}
use Rattle.f3_scopes.specs.Outlines.{Scope}
use Rattle.f3_tree.specs.declared.program.Procedure.{Procedure}
use Rattle.f3_tree.specs.Tree.{ProcedureTree, procedure_view}
use Rattle.f3_type_rules.specs.Associates.{constructs_of_block}
use Rattle.f3_type_rules.specs.Members.{members_from}
use Rattle.f3_types.specs.Members.{member_of, AreFirsts}
use Rattle.f3_elaboration.specs.Declarations.{Whole}
use Rattle.f3_elaboration.specs.Nodes.{ProcedureNode}
use Rattle.f3_elaboration.specs.Units.{procedure}
use Rattle.f3_program_numbers.specs.Fitting.{MembersFit}
use Rattle.f3_program_numbers.proofs.Owned.{within_firsts}
use Rattle.f3_program_numbers.proofs.Walking.{walk_more, walk_end}

-- along procedures, of which the first has this scope
abbrev pub nodes_by : Whole → (unit : ℕ) → List Scope → (scope : ℕ) → List ProcedureTree → List ProcedureNode
nodes_by w unit scopes scope [] = []
nodes_by w unit scopes scope (p ∷ ps) =
    procedure w unit (member_of 0 scope (first_entity scopes scope) p) ∷ nodes_by w unit scopes (scope + 1 + length (constructs_of_block p.body)) ps

members_same : (w : Whole) (unit : ℕ) (scopes : List Scope) (e scope : ℕ) (ps : List ProcedureTree) → nodes_by w unit scopes scope ps ≡ map (procedure w unit) (members_from scopes e scope ps)
members_same w unit scopes e scope [] = refl
members_same w unit scopes e scope (p ∷ ps) =
    ap (λ (l : List ProcedureNode). procedure w unit (member_of 0 scope (first_entity scopes scope) p) ∷ l)
    (members_same w unit scopes (e + 1) (scope + 1 + length (constructs_of_block p.body)) ps)

module _ (firsts : List ℕ) (scope : ℕ) (xs : List Procedure) (i : ℕ) (x : Procedure) (lt : i < length xs) (is : x ≡ get_or xs i x) (fit : MembersFit firsts scope (map procedure_view (drop i xs))) where
  pub nodes_more : (w : Whole) (unit : ℕ) (scopes : List Scope) (scope' : ℕ) (before after whole : List ProcedureNode) (node : ProcedureNode) → AreFirsts scopes firsts
      → scope' ≡ scope + 1 + length (constructs_of_block (procedure_view x).body)
      → node ≡ procedure w unit (member_of 0 scope (get_or firsts scope 0) (procedure_view x))
      → after ≡ before ++ (node ∷ [])
      → before ++ nodes_by w unit scopes scope (map procedure_view (drop i xs)) ≡ whole → after ++ nodes_by w unit scopes scope' (map procedure_view (drop (i + 1) xs)) ≡ whole
  nodes_more w unit scopes scope' before after whole node are step e g h =
      let first : get_or firsts scope 0 ≡ first_entity scopes scope = are scope (get_or firsts scope 0) (slice_get-get_or firsts scope 0 (within_firsts firsts scope xs i x lt is fit)) in
      walk_more (λ n (p : Procedure). procedure w unit (member_of 0 n (first_entity scopes n) (procedure_view p)) ∷ []) (λ n (p : Procedure). n + 1 + length (constructs_of_block (procedure_view p).body))
      (λ n (ps : List Procedure). nodes_by w unit scopes n (map procedure_view ps)) (λ n p ps. refl) xs i x scope scope' before after whole lt is step
      (g ∙ ap (λ (y : ProcedureNode). before ++ (y ∷ [])) (e ∙ ap (λ k. procedure w unit (member_of 0 scope k (procedure_view x))) first)) h

pub nodes_end : (w : Whole) (unit : ℕ) (scopes : List Scope) (e scope start : ℕ) (xs : List Procedure) (i : ℕ) (before old : List ProcedureNode) → length xs ≤ i
    → before ++ nodes_by w unit scopes scope (map procedure_view (drop i xs)) ≡ old ++ nodes_by w unit scopes start (map procedure_view xs)
    → before ≡ old ++ map (procedure w unit) (members_from scopes e start (map procedure_view xs))
nodes_end w unit scopes e scope start xs i before old le h =
    walk_end (λ n (ps : List Procedure). nodes_by w unit scopes n (map procedure_view ps)) (λ n. refl) xs i scope before _ le h
    ∙ ap (λ l. old ++ l) (members_same w unit scopes e start (map procedure_view xs))
