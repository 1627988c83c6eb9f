-- The numbers of units and procedures.
use Rattle.std.proofs.Common.{◌≡◌, refl, sym, ap, ◌∙◌, ℕ, ◌+◌, List, [], ◌∷◌, ◌++◌, map, length, take, Some, arith, append_assoc, length-append}
use Rattle.std.specs.Prelude.{slice_get}
use Rattle.std.specs.List.{All, flat_map}
use Rattle.std.proofs.Math.Seq.{take-append_seam}
use Rattle.std.proofs.lemmas.Grind.{flat_map-append}
use Rattle.std.proofs.lemmas.List.Elements.{All-nil, All-cons}
use Rattle.f3_access.specs.Access.{entities_of, first_entity}
use Rattle.f3_names.specs.Parts.{scope_numbers}
use Rattle.f3_scopes.specs.Outlines.{Own, Scope}
use Rattle.f3_scopes.specs.Scopes.{declared_in, constructs_in_block, scope_of_procedure, procedure_own, scope_of_unit, procedure_scopes, procedures_from, own_scopes, unit_scopes, scopes_from, scopes_of}
use Rattle.f3_tree.specs.Tree.{ProcedureTree, UnitTree}
use Rattle.f3_type_rules.specs.Associates.{constructs_of_block}
use Rattle.f3_type_rules.specs.Members.{Member, Numbered, members_from, numbered, units_from}
use Rattle.f3_phase_laws.specs.Numbers.{UnitsHaveTheirNumbers, IsProcedure, IsUnit, UnitsAreThose}
use Rattle.f3_phase_laws.proofs.Constructs.{block_scopes}

-- ---- lists

at_seam : {X : Type 0} (xs : List X) (x : X) (ys : List X) → slice_get (xs ++ x ∷ ys) (length xs) ≡ Some x
at_seam [] x ys = refl
at_seam (z ∷ zs) x ys = at_seam zs x ys

at_end : {X : Type 0} (all xs : List X) (x : X) (ys : List X) (n : ℕ) → all ≡ xs ++ x ∷ ys → n ≡ length xs → slice_get all n ≡ Some x
at_end all xs x ys n e is = ap (λ l. slice_get l n) e ∙ ap (slice_get (xs ++ x ∷ ys)) is ∙ at_seam xs x ys

-- a part more in front
regroup : {X : Type 0} (front part rest behind : List X) → front ++ ((part ++ rest) ++ behind) ≡ (front ++ part) ++ (rest ++ behind)
regroup front part rest behind = ap (λ l. front ++ l) (append_assoc part rest behind) ∙ sym (append_assoc front part (rest ++ behind))

-- ---- procedures

member_trees : (all : List Scope) (e n : ℕ) (ps : List ProcedureTree) → map (λ (m : Member). m.tree) (members_from all e n ps) ≡ ps
member_trees all e n [] = refl
member_trees all e n (p ∷ ps) = ap (λ (l : List ProcedureTree). p ∷ l) (member_trees all (e + 1) (n + 1 + length (constructs_of_block p.body)) ps)

-- the number behind a scope and the constructs of its block
next_number : (n host : ℕ) (p : ProcedureTree) → n + length (procedure_scopes host n p) ≡ n + 1 + length (constructs_of_block p.body)
next_number n host p = let same = block_scopes n (p.header).name (n + 1) p.body in omega (arith, same)

members_placed : (all : List Scope) (unit : ℕ) (after : List Own) (behind : List Scope) (ps : List ProcedureTree) (front : List Scope) (before : List Own) (n e : ℕ)
    → all ≡ front ++ (procedures_from unit n ps ++ behind) → n ≡ length front → entities_of all ≡ before ++ (map procedure_own ps ++ after) → e ≡ length before
    → All (IsProcedure all unit) (members_from all e n ps)
members_placed all unit after behind [] front before n e scopes scope entities entity = All-nil (IsProcedure all unit)
members_placed all unit after behind (p ∷ ps) front before n e scopes scope entities entity =
    let own : List Scope = procedure_scopes unit n p in
    let others : ℕ → List Scope = λ k. procedures_from unit k ps in
    let next : ℕ = n + 1 + length (constructs_of_block p.body) in
    let same : n + length own ≡ next = next_number n unit p in
    let longer = length-append front own in
    let more = length-append before (procedure_own p ∷ []) in
    All-cons (IsProcedure all unit) _ (members_from all (e + 1) next ps)
    (record {
      scope = at_end all front (scope_of_procedure unit p) _ n scopes scope;
      first = refl;
      entity = at_end (entities_of all) before (procedure_own p) _ e entities entity;
    })
    (members_placed all unit after behind ps (front ++ own) (before ++ procedure_own p ∷ []) next (e + 1)
    (scopes ∙ regroup front own (others (n + length own)) behind ∙ ap (λ k. (front ++ own) ++ (others k ++ behind)) same)
    (omega (arith, same, longer))
    (entities ∙ regroup before (procedure_own p ∷ []) (map procedure_own ps) after)
    (omega (arith, more)))

-- ---- units

unit_numbers : (all : List Scope) (n : ℕ) (us : List UnitTree) → map (λ (u : Numbered). u.scope) (units_from all n us) ≡ scope_numbers n us
unit_numbers all n [] = refl
unit_numbers all n (u ∷ us) = ap (λ (l : List ℕ). n ∷ l) (unit_numbers all (n + length (unit_scopes n u)) us)

unit_trees : (all : List Scope) (n : ℕ) (us : List UnitTree) → map (λ (u : Numbered). u.tree) (units_from all n us) ≡ us
unit_trees all n [] = refl
unit_trees all n (u ∷ us) = ap (λ (l : List UnitTree). u ∷ l) (unit_trees all (n + length (unit_scopes n u)) us)

-- the entities of a program about those of a scope
entities_at : (all front : List Scope) (s : Scope) (behind : List Scope) → all ≡ front ++ s ∷ behind → entities_of all ≡ entities_of front ++ (s.declared ++ entities_of behind)
entities_at all front s behind e = ap entities_of e ∙ flat_map-append (λ (s : Scope). s.declared) front (s ∷ behind)

first_at : (all front behind : List Scope) (n : ℕ) → all ≡ front ++ behind → n ≡ length front → first_entity all n ≡ length (entities_of front)
first_at all front behind n e is = ap (λ (l : List Scope). length (entities_of l)) (ap (λ l. take n l) e ∙ ap (λ k. take k (front ++ behind)) is ∙ take-append_seam front behind)

unit_placed : (all front behind : List Scope) (n : ℕ) (u : UnitTree) → all ≡ front ++ (unit_scopes n u ++ behind) → n ≡ length front → IsUnit all (numbered all n u)
unit_placed all front behind n u scopes scope =
    let s : Scope = scope_of_unit u in
    let own : List Scope = own_scopes n u in
    let within : ℕ → List Scope = λ k. procedures_from n k u.procedures in
    let around : List Scope = (constructs_in_block n u.name (n + 1) u.body ++ within (n + length own)) ++ behind in
    let specified : List Own = flat_map declared_in (u.part).specifications in
    let next : ℕ = n + 1 + length (constructs_of_block u.body) in
    let same : n + length own ≡ next = let equal = block_scopes n u.name (n + 1) u.body in omega (arith, equal) in
    let longer = length-append front own in
    let first = first_at all front _ n scopes scope in
    let more = length-append (entities_of front) specified in
    record {
      scope = at_end all front s around n scopes scope;
      first = refl;
      procedures = member_trees all (first_entity all n + length specified) next u.procedures;
      members =
          members_placed all n (entities_of around) behind u.procedures (front ++ own) (entities_of front ++ specified) next (first_entity all n + length specified)
          (scopes ∙ regroup front own (within (n + length own)) behind ∙ ap (λ k. (front ++ own) ++ (within k ++ behind)) same)
          (omega (arith, same, longer))
          (entities_at all front s around scopes ∙ regroup (entities_of front) specified (map procedure_own u.procedures) (entities_of around))
          (omega (arith, first, more));
    }

units_placed : (all : List Scope) (us : List UnitTree) (front : List Scope) (n : ℕ) → all ≡ front ++ scopes_from n us → n ≡ length front → All (IsUnit all) (units_from all n us)
units_placed all [] front n scopes scope = All-nil (IsUnit all)
units_placed all (u ∷ us) front n scopes scope =
    let own : List Scope = unit_scopes n u in
    let longer = length-append front own in
    All-cons (IsUnit all) (numbered all n u) (units_from all (n + length own) us) (unit_placed all front _ n u scopes scope)
    (units_placed all us (front ++ own) (n + length own) (scopes ∙ sym (append_assoc front own (scopes_from (n + length own) us))) (omega (arith, longer)))

pub numbers : UnitsHaveTheirNumbers
numbers t = unit_numbers (scopes_of t) 0 t.units

pub units : UnitsAreThose
units t = (unit_trees (scopes_of t) 0 t.units, units_placed (scopes_of t) t.units [] 0 refl refl)
