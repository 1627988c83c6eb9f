-- Walks along procedures.
use Rattle.std.proofs.Common.{◌≡◌, ℕ, ◌+◌, ◌<◌, ◌≤◌, ◌^◌, List, [], ◌∷◌, ◌++◌, map, length, drop, get_or, refl, ap, ◌∙◌, arith}
use Rattle.std.specs.List.{flat_map}
use Rattle.std.proofs.lemmas.Option.{slice_get-get_or, get_or_from_slice_get}
use Rattle.f3_access.specs.Access.{first_entity}
use Rattle.f3_scopes.specs.Outlines.{Scope}
use Rattle.f3_scopes.specs.Scopes.{declared_in}
use Rattle.f3_tree.specs.declared.program.Procedure.{Procedure}
use Rattle.f3_tree.specs.Tree.{ProcedureTree, procedure_view}
use Rattle.f3_type_rules.specs.Associates.{constructs_of_block}
use Rattle.f3_type_rules.specs.Members.{Member, members_from}
use Rattle.f3_unit_rules.specs.Members.{typed_count, AreFirsts}
use Rattle.f3_unit_rules.proofs.Walked.{scope_within, behind_within, fit_here, fit_more}
use Rattle.f3_program_numbers.specs.Chosen.{Choice}
use Rattle.f3_program_numbers.specs.Fitting.{MembersFit}
use Rattle.f3_program_numbers.specs.Walks.{taken_by, member_taken, members_by, counted}
use Rattle.f3_program_numbers.proofs.Walking.{walk_more, walk_end}

pub members_same : (w : Choice) (scopes : List Scope) (e scope : ℕ) (ps : List ProcedureTree)
    → members_by w scopes scope ps ≡ flat_map (member_taken w) (members_from scopes e scope ps)
members_same w scopes e scope [] = refl
members_same w scopes e scope (p ∷ ps) =
    ap (λ l. taken_by w (first_entity scopes scope) p ++ l) (members_same w scopes (e + 1) (scope + 1 + length (constructs_of_block p.body)) ps)

pub counted_same : (scopes : List Scope) (e scope : ℕ) (ps : List ProcedureTree) → map (λ (m : Member). m.entity) (members_from scopes e scope ps) ≡ counted e ps
counted_same scopes e scope [] = refl
counted_same scopes e scope (p ∷ ps) = ap (λ l. e ∷ l) (counted_same scopes (e + 1) (scope + 1 + length (constructs_of_block p.body)) ps)

module _ (firsts : List ℕ) (scope : ℕ) (xs : List Procedure) (i : ℕ) (x : Procedure) (lt : i < length xs) (is : x ≡ get_or xs i x) (fit : MembersFit firsts scope (map procedure_view (drop i xs))) where
  pub within_firsts : scope < length firsts
  within_firsts = scope_within firsts fit.0 scope xs i x lt is fit.2

  pub member_fits : get_or firsts scope 0 + typed_count x.header.kind + length (flat_map declared_in (procedure_view x).part.specifications) < 2 ^ 64
  member_fits =
      let here = fit_here firsts fit.0 scope xs i x lt is fit.2 in
      let same : get_or firsts scope 0 ≡ here.0.0 = get_or_from_slice_get firsts scope here.0.0 0 here.0.1 in
      let room = here.0.2 in
      let small = fit.1 in
      omega (arith, same, room, small)

  pub scope_next : scope + 1 + length (constructs_of_block (procedure_view x).body) ≤ length firsts
  scope_next = behind_within firsts fit.0 scope xs i x lt is fit.2

  pub members_fit_more : (scope' : ℕ) → scope' ≡ scope + 1 + length (constructs_of_block (procedure_view x).body) → MembersFit firsts scope' (map procedure_view (drop (i + 1) xs))
  members_fit_more scope' e = (fit.0, fit.1, fit_more firsts fit.0 scope scope' xs i x lt is e fit.2)

  pub members_more : (w : Choice) (scopes : List Scope) (scope' : ℕ) (before after whole : List ℕ) → AreFirsts scopes firsts
      → scope' ≡ scope + 1 + length (constructs_of_block (procedure_view x).body)
      → after ≡ before ++ taken_by w (get_or firsts scope 0) (procedure_view x)
      → before ++ members_by w scopes scope (map procedure_view (drop i xs)) ≡ whole → after ++ members_by w scopes scope' (map procedure_view (drop (i + 1) xs)) ≡ whole
  members_more w scopes scope' before after whole are step e h =
      let first : get_or firsts scope 0 ≡ first_entity scopes scope = are scope (get_or firsts scope 0) (slice_get-get_or firsts scope 0 within_firsts) in
      walk_more (λ n (p : Procedure). taken_by w (first_entity scopes n) (procedure_view p)) (λ n (p : Procedure). n + 1 + length (constructs_of_block (procedure_view p).body))
      (λ n (ps : List Procedure). members_by w scopes n (map procedure_view ps)) (λ n p ps. refl) xs i x scope scope' before after whole lt is step
      (e ∙ ap (λ n. before ++ taken_by w n (procedure_view x)) first) h

pub members_end : (w : Choice) (scopes : List Scope) (e scope start : ℕ) (xs : List Procedure) (i : ℕ) (before old : List ℕ) → length xs ≤ i
    → before ++ members_by w scopes scope (map procedure_view (drop i xs)) ≡ old ++ members_by w scopes start (map procedure_view xs)
    → before ≡ old ++ flat_map (member_taken w) (members_from scopes e start (map procedure_view xs))
members_end w scopes e scope start xs i before old le h =
    walk_end (λ n (ps : List Procedure). members_by w scopes n (map procedure_view ps)) (λ n. refl) xs i scope before _ le h
    ∙ ap (λ l. old ++ l) (members_same w scopes e start (map procedure_view xs))
