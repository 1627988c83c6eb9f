-- A name in FINAL could finalize what the procedure of its entity could.
use Rattle.std.proofs.Common.{◌≡◌, refl, sym, ap, ◌∙◌, ℕ, ◌+◌, ◌-◌, ◌<◌, nat_eq, nat_lt, Bool, true, false, List, [], ◌∷◌, map, Option, None, Some, if◌then◌else◌, cond, slice_get, add-one, inl, inr, arith}
use Rattle.std.specs.Option.{option_map}
use Rattle.std.specs.Map.{lookup}
use Rattle.std.proofs.lemmas.Bool.{cases_lt, lt-ltb, le-ltb, ne_eqb, eq-eqb}
use Rattle.std.proofs.lemmas.Option.{slice_get-map}
use Rattle.f3_lookups.specs.declared.lookup.Lookup.{Lookup}
use Rattle.f3_lookups.specs.declared.lookup.Lookup.TheVariants.{One, Nothing, Several}
use Rattle.f3_access.specs.Access.{first_entity}
use Rattle.f3_scopes.specs.Outlines.{Scope}
use Rattle.f3_tree.specs.Tree.{ProcedureTree}
use Rattle.f3_kinds.specs.Things.{map_or}
use Rattle.f3_type_rules.specs.Finals.{member_at}
use Rattle.f3_type_rules.specs.Members.{Member, members_from}
use Rattle.f3_type_rules.specs.Names.{Names}
use Rattle.f3_natures.specs.Walk.{count_of}
use Rattle.f3_finals.specs.declared.candidate.Candidate.{Candidate}
use Rattle.f3_finals.specs.Candidates.{rank_for, member_rank, AreCandidates}
use Rattle.f3_finals.specs.Inner.Looked.{rank_found}

abbrev by_entity : List Member → List (ℕ × Member)
by_entity ms = map (λ (m : Member). (m.entity, m)) ms

abbrev held : Option (Option ℕ) → Option ℕ
held o = map_or None (λ (r : Option ℕ). r) o

abbrev in_row : (first : ℕ) → List (Option ℕ) → (f : ℕ) → Option ℕ
in_row first rs f = if nat_lt f first then None else held (slice_get rs (f - first))

same_none : (b : Bool) (o : Option ℕ) → (if b then o else o) ≡ o
same_none true o = refl
same_none false o = refl

tail_get : {X : Type 0} (x : X) (xs : List X) (i j : ℕ) → i ≡ j + 1 → slice_get (x ∷ xs) i ≡ slice_get xs j
tail_get x xs i j e = ap (slice_get (x ∷ xs)) e ∙ ap (slice_get (x ∷ xs)) (add-one j)

module _ (scopes : List Scope) (g : Member → Option ℕ) where
  at_entity : (f e scope : ℕ) (ps : List ProcedureTree) → map_or None g (lookup (nat_eq f) (by_entity (members_from scopes e scope ps))) ≡ in_row e (map g (members_from scopes e scope ps)) f
  at_entity f e scope [] = sym (same_none (nat_lt f e) None)
  at_entity f e scope (p ∷ ps) = elim (cases_lt f e) [
    | inl below ↦ other (at_entity f (e + 1) (scope + 1 + count_of p.body) ps) (omega arith) (le_case below)
    | inr above ↦ elim (cases_lt e f) [
      | inl lt ↦ other (at_entity f (e + 1) (scope + 1 + count_of p.body) ps) (omega arith) (gt_case lt)
      | inr le ↦ here (omega arith)
    ]
  ]
    where
      m : Member
      m = record { entity = e; scope = scope; first = first_entity scopes scope; tree = p }

      rest : List Member
      rest = members_from scopes (e + 1) (scope + 1 + count_of p.body) ps

      ranks : List (Option ℕ)
      ranks = map g rest

      all : List (Option ℕ)
      all = g m ∷ ranks

      le_case : f < e → in_row (e + 1) ranks f ≡ in_row e all f
      le_case lt =
          let now : nat_lt f e ≡ true = lt-ltb f e lt in
          let next : nat_lt f (e + 1) ≡ true = lt-ltb f (e + 1) (omega arith) in
          ap (λ (b : Bool). if b then None else held (slice_get ranks (f - (e + 1)))) next
          ∙ sym (ap (λ (b : Bool). if b then None else held (slice_get all (f - e))) now)

      gt_case : e < f → in_row (e + 1) ranks f ≡ in_row e all f
      gt_case lt =
          let now : nat_lt f e ≡ false = le-ltb f e (omega arith) in
          let next : nat_lt f (e + 1) ≡ false = le-ltb f (e + 1) (omega arith) in
          let get : slice_get all (f - e) ≡ slice_get ranks (f - (e + 1)) = tail_get _ ranks (f - e) (f - (e + 1)) (omega arith) in
          ap (λ (b : Bool). if b then None else held (slice_get ranks (f - (e + 1)))) next
          ∙ sym (ap (λ (b : Bool). if b then None else held (slice_get all (f - e))) now ∙ ap (λ (o : Option (Option ℕ)). held o) get)

      other : map_or None g (lookup (nat_eq f) (by_entity rest)) ≡ in_row (e + 1) ranks f → (f ≡ e → ⊥) → in_row (e + 1) ranks f ≡ in_row e all f
          → map_or None g (lookup (nat_eq f) ((e, m) ∷ by_entity rest)) ≡ in_row e all f
      other behind ne same =
          ap (λ (b : Bool). map_or None g (cond b (Some m) (lookup (nat_eq f) (by_entity rest)))) (ne_eqb f e ne)
          ∙ behind ∙ same

      here : f ≡ e → map_or None g (lookup (nat_eq f) ((e, m) ∷ by_entity rest)) ≡ in_row e all f
      here same =
          let now : nat_lt f e ≡ false = le-ltb f e (omega arith) in
          let zero : f - e ≡ 0 = omega arith in
          ap (λ (b : Bool). map_or None g (cond b (Some m) (lookup (nat_eq f) (by_entity rest)))) (eq-eqb f e same)
          ∙ sym (ap (λ (b : Bool). if b then None else held (slice_get all (f - e))) now ∙ ap (λ n. held (slice_get all n)) zero)

held_map : (t : ℕ) (o : Option (Option Candidate)) → map_or None (rank_for t) o ≡ held (option_map (rank_for t) o)
held_map t None = refl
held_map t (Some c) = refl

row_same : (t first f : ℕ) (cs : List (Option Candidate)) → rank_found first cs t (One f) ≡ in_row first (map (rank_for t) cs) f
row_same t first f cs =
    ap (λ (r : Option ℕ). if nat_lt f first then None else r) (held_map t (slice_get cs (f - first)) ∙ sym (ap held (slice_get-map (rank_for t) cs (f - first))))

pub ranked : (names : Names) (scopes : List Scope) (t first start : ℕ) (ps : List ProcedureTree) (cs : List (Option Candidate)) (l : Lookup)
    → AreCandidates names (members_from scopes first start ps) cs → rank_found first cs t l ≡ map_or None (member_rank names t) (member_at (members_from scopes first start ps) l)
ranked names scopes t first start ps cs (One f) same =
    row_same t first f cs ∙ ap (λ (rs : List (Option ℕ)). in_row first rs f) (same t) ∙ sym (at_entity scopes (member_rank names t) f first start ps)
ranked names scopes t first start ps cs Nothing same = refl
ranked names scopes t first start ps cs Several same = refl
