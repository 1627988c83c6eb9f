-- Where the scopes of units and procedures stand, and which entities they declare.
use Rattle.std.proofs.Common.{◌≡◌, refl, ℕ, zero, suc, ◌+◌, ◌<◌, ◌≤◌, ◌⊎◌, inl, inr, List, [], ◌∷◌, ◌++◌, length, take, Some, ap, ◌∙◌, sym, subst, arith, slice_get}
use Rattle.std.proofs.lemmas.List.{length-append}
use Rattle.std.proofs.lemmas.Option.{slice_get_within}
use Rattle.f3_nodes.proofs.Members.{Has}
use Rattle.f3_tree.specs.Tree.{ProcedureTree, UnitTree}
use Rattle.f3_scopes.specs.Outlines.{Scope}
use Rattle.f3_scopes.specs.Scopes.{scope_of_procedure, procedure_scopes, procedures_from, unit_scopes, scopes_from}
use Rattle.f3_access.specs.Access.{entities_of, first_entity}
use Rattle.f3_type_rules.specs.Associates.{constructs_of_block}
use Rattle.f3_type_rules.specs.Members.{Member, Numbered, members_from, numbered, units_from}
use Rattle.f3_order_laws.proofs.Constructs.{block_long}

-- ---- a part of a list of scopes, from a number on

pub at_front : {X : Type 0} (xs ys : List X) (k : ℕ) (x : X) → slice_get xs k ≡ Some x → slice_get (xs ++ ys) k ≡ Some x
at_front [] ys k x h = absurd (let past = slice_get_within [] k x h in omega arith)
at_front (z ∷ zs) ys zero x h = h
at_front (z ∷ zs) ys (suc k) x h = at_front zs ys k x h

pub at_back : {X : Type 0} (xs ys : List X) (k : ℕ) (x : X) → slice_get ys k ≡ Some x → slice_get (xs ++ ys) (length xs + k) ≡ Some x
at_back [] ys k x h = subst (λ n. slice_get ys n ≡ Some x) (let e : k ≡ 0 + k = omega arith in e) h
at_back (z ∷ zs) ys k x h = subst (λ n. slice_get (z ∷ zs ++ ys) n ≡ Some x) (let e : suc (length zs + k) ≡ length (z ∷ zs) + k = omega arith in e) (at_back zs ys k x h)

-- a place in two lists one behind the other is one in the first, or one in the second
pub at_either : {X : Type 0} (xs ys : List X) (k : ℕ) (x : X) → slice_get (xs ++ ys) k ≡ Some x
    → (slice_get xs k ≡ Some x) ⊎ ((j : ℕ) × (slice_get ys j ≡ Some x) × (length xs + j ≡ k))
at_either [] ys k x h = inr (k, h, omega arith)
at_either (z ∷ zs) ys zero x h = inl h
at_either (z ∷ zs) ys (suc k) x h = elim (at_either zs ys k x h) [ inl a ↦ inl a | inr b ↦ inr (b.0, b.1, (let e = b.2 in omega (arith, e))) ]

abbrev pub Lies : List Scope → ℕ → List Scope → Type 0
Lies scopes n part = (p : ℕ) (s : Scope) → slice_get part p ≡ Some s → slice_get scopes (n + p) ≡ Some s

pub lies_left : (scopes : List Scope) (n : ℕ) (xs ys : List Scope) → Lies scopes n (xs ++ ys) → Lies scopes n xs
lies_left scopes n xs ys lies p s at = lies p s (at_front xs ys p s at)

pub lies_right : (scopes : List Scope) (n : ℕ) (xs ys : List Scope) → Lies scopes n (xs ++ ys) → Lies scopes (n + length xs) ys
lies_right scopes n xs ys lies p s at =
    subst (λ k. slice_get scopes k ≡ Some s) (let e : n + (length xs + p) ≡ (n + length xs) + p = omega arith in e) (lies (length xs + p) s (at_back xs ys p s at))

-- ---- units: where each starts

abbrev pub start : (i : ℕ) → (n : ℕ) → List UnitTree → ℕ
start zero n us = n
start (suc i) n [] = n
start (suc i) n (u ∷ us) = start i (n + length (unit_scopes n u)) us

start_from : (i n : ℕ) (us : List UnitTree) → n ≤ start i n us
start_from zero n us = omega arith
start_from (suc i) n [] = omega arith
start_from (suc i) n (u ∷ us) = let more = start_from i (n + length (unit_scopes n u)) us in omega (arith, more)

pub start_grows : (i j n : ℕ) (us : List UnitTree) → i ≤ j → start i n us ≤ start j n us
start_grows zero j n us le = start_from j n us
start_grows (suc i) zero n us le = absurd (omega (arith, le))
start_grows (suc i) (suc j) n [] le = omega arith
start_grows (suc i) (suc j) n (u ∷ us) le = start_grows i j (n + length (unit_scopes n u)) us (omega (arith, le))

pub start_next : (i n : ℕ) (us : List UnitTree) (u : UnitTree) → slice_get us i ≡ Some u → start (suc i) n us ≡ start i n us + length (unit_scopes (start i n us) u)
start_next i n [] u at = absurd (let past = slice_get_within [] i u at in omega arith)
start_next zero n (x ∷ us) u at = let same : x ≡ u = cc in ap (λ y. n + length (unit_scopes n y)) same
start_next (suc i) n (x ∷ us) u at = start_next i (n + length (unit_scopes n x)) us u at

pub unit_lies : (scopes : List Scope) (i n : ℕ) (us : List UnitTree) (u : UnitTree) → Lies scopes n (scopes_from n us) → slice_get us i ≡ Some u
    → Lies scopes (start i n us) (unit_scopes (start i n us) u)
unit_lies scopes i n [] u lies at = absurd (let past = slice_get_within [] i u at in omega arith)
unit_lies scopes zero n (x ∷ us) u lies at =
    let same : x ≡ u = cc in
    subst (λ y. Lies scopes n (unit_scopes n y)) same (lies_left scopes n (unit_scopes n x) (scopes_from (n + length (unit_scopes n x)) us) lies)
unit_lies scopes (suc i) n (x ∷ us) u lies at =
    unit_lies scopes i (n + length (unit_scopes n x)) us u (lies_right scopes n (unit_scopes n x) (scopes_from (n + length (unit_scopes n x)) us) lies) at

-- each scope is one of a unit
pub unit_of : (p n : ℕ) (us : List UnitTree) (s : Scope) → slice_get (scopes_from n us) p ≡ Some s
    → (i : ℕ) × (u : UnitTree) × (q : ℕ) × (slice_get us i ≡ Some u) × (slice_get (unit_scopes (start i n us) u) q ≡ Some s) × (start i n us + q ≡ n + p)
unit_of p n [] s at = absurd (let past = slice_get_within [] p s at in omega arith)
unit_of p n (u ∷ us) s at = elim (at_either (unit_scopes n u) (scopes_from (n + length (unit_scopes n u)) us) p s at) [
  | inl here ↦ (0, u, p, refl, here, refl)
  | inr there ↦
      let r = unit_of there.0 (n + length (unit_scopes n u)) us s there.1 in
      (suc r.0, r.1, r.2, r.3, r.4, (let a = r.5 in let b = there.2 in omega (arith, a, b)))
]

pub numbered_at : (scopes : List Scope) (i n : ℕ) (us : List UnitTree) (u : UnitTree) → slice_get us i ≡ Some u
    → slice_get (units_from scopes n us) i ≡ Some (numbered scopes (start i n us) u)
numbered_at scopes i n [] u at = absurd (let past = slice_get_within [] i u at in omega arith)
numbered_at scopes zero n (x ∷ us) u at = let same : x ≡ u = cc in ap (λ y. Some (numbered scopes n y)) same
numbered_at scopes (suc i) n (x ∷ us) u at = numbered_at scopes i (n + length (unit_scopes n x)) us u at

pub numbered_of : (scopes : List Scope) (i n : ℕ) (us : List UnitTree) (x : Numbered) → slice_get (units_from scopes n us) i ≡ Some x
    → (u : UnitTree) × (slice_get us i ≡ Some u) × (x ≡ numbered scopes (start i n us) u)
numbered_of scopes i n [] x at = absurd (let past = slice_get_within [] i x at in omega arith)
numbered_of scopes zero n (u ∷ us) x at = (u, refl, (let same : x ≡ numbered scopes n u = cc in same))
numbered_of scopes (suc i) n (u ∷ us) x at = numbered_of scopes i (n + length (unit_scopes n u)) us x at

-- ---- procedures

abbrev pub IsPlaced : List Scope → (host lo hi : ℕ) → Member → Type 0
IsPlaced scopes host lo hi m =
    (slice_get scopes m.scope ≡ Some (scope_of_procedure host m.tree)) × (m.first ≡ first_entity scopes m.scope) × (lo ≤ m.scope) × (m.scope < hi)

wider : (scopes : List Scope) (host lo hi from to : ℕ) (m : Member) → from ≤ lo → hi ≤ to → IsPlaced scopes host lo hi m → IsPlaced scopes host from to m
wider scopes host lo hi from to m l h placed = (placed.0, placed.1, (let a = placed.2 in omega (arith, a, l)), (let b = placed.3 in omega (arith, b, h)))

pub members_placed : (scopes : List Scope) (host e n : ℕ) (ps : List ProcedureTree) → Lies scopes n (procedures_from host n ps)
    → (m : Member) → Has (members_from scopes e n ps) m → IsPlaced scopes host n (n + length (procedures_from host n ps)) m
members_placed scopes host e n [] lies m h = absurd h
members_placed scopes host e n (p ∷ ps) lies m (inl same) =
    let later = procedures_from host (n + length (procedure_scopes host n p)) ps in
    let long = length-append (procedure_scopes host n p) later in
    let at : slice_get scopes n ≡ Some (scope_of_procedure host p) =
    subst (λ k. slice_get scopes k ≡ Some (scope_of_procedure host p)) (let z : n + 0 ≡ n = omega arith in z) (lies 0 (scope_of_procedure host p) refl) in
    subst (IsPlaced scopes host n (n + length (procedures_from host n (p ∷ ps)))) (sym same) (at, refl, omega arith, omega (arith, long))
members_placed scopes host e n (p ∷ ps) lies m (inr h) =
    let next = n + length (procedure_scopes host n p) in
    let later = procedures_from host next ps in
    let long = length-append (procedure_scopes host n p) later in
    let count = block_long n (p.header).name (n + 1) p.body in
    let step : n + 1 + length (constructs_of_block p.body) ≡ next = omega (arith, count) in
    let there = members_placed scopes host (e + 1) next ps (lies_right scopes n (procedure_scopes host n p) later lies) m
    (subst (λ k. Has (members_from scopes (e + 1) k ps) m) step h) in
    wider scopes host next (next + length later) n (n + length (procedures_from host n (p ∷ ps))) m (omega arith) (omega (arith, long)) there

-- ---- entities

pub first_more : (scopes : List Scope) (n : ℕ) (s : Scope) → slice_get scopes n ≡ Some s → first_entity scopes (n + 1) ≡ first_entity scopes n + length s.declared
first_more scopes n s at = ap (first_entity scopes) (let e : n + 1 ≡ suc n = omega arith in e) ∙ by scopes n at
  where
    by : (scopes : List Scope) (n : ℕ) → slice_get scopes n ≡ Some s → first_entity scopes (suc n) ≡ first_entity scopes n + length s.declared
    by [] n at = absurd (let past = slice_get_within [] n s at in omega arith)
    by (x ∷ xs) zero at = let same : x ≡ s = cc in let long = length-append x.declared [] in let alike = ap (λ (y : Scope). length y.declared) same in omega (arith, long, alike)
    by (x ∷ xs) (suc n) at =
        let more = by xs n at in
        let one = length-append x.declared (entities_of (take (suc n) xs)) in
        let two = length-append x.declared (entities_of (take n xs)) in
        omega (arith, more, one, two)

pub first_grows : (scopes : List Scope) (a b : ℕ) → a ≤ b → first_entity scopes a ≤ first_entity scopes b
first_grows scopes zero b le = omega arith
first_grows scopes (suc a) zero le = absurd (omega (arith, le))
first_grows [] (suc a) (suc b) le = omega arith
first_grows (x ∷ xs) (suc a) (suc b) le =
    let more = first_grows xs a b (omega (arith, le)) in
    let one = length-append x.declared (entities_of (take a xs)) in
    let two = length-append x.declared (entities_of (take b xs)) in
    omega (arith, more, one, two)
