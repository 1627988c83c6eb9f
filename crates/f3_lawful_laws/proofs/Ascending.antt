-- The entities of procedures ascend, so each procedure has the number of its place.
use Rattle.std.proofs.Common.{◌≡◌, ℕ, zero, suc, ◌+◌, ◌≤◌, false, cond, List, [], ◌∷◌, ◌++◌, length, take, map, position, nat_eq, Some, option_map, refl, ap, ◌∙◌, inl, inr, arith}
use Rattle.std.specs.Prelude.{⊤, slice_get}
use Rattle.std.specs.List.{flat_map}
use Rattle.std.proofs.lemmas.List.{length-append}
use Rattle.std.proofs.lemmas.Bool.Decides.{eqb_tells}
use mathlib.Core.Path.{subst}
use Rattle.f3_access.specs.Access.{entities_of, first_entity}
use Rattle.f3_scopes.specs.Outlines.{Scope}
use Rattle.f3_scopes.specs.Scopes.{declared_in, procedure_own, scope_of_unit, unit_scopes, scopes_from}
use Rattle.f3_tree.specs.Tree.{ProcedureTree, UnitTree}
use Rattle.f3_type_rules.specs.Associates.{constructs_of_block}
use Rattle.f3_type_rules.specs.Members.{Member, Numbered, members_from, numbered, units_from}
use Rattle.f3_lawful_laws.proofs.Facts.{nothing, same}
use Rattle.f3_lawful_laws.proofs.Positions.{eq_self, position_cons}
use Rattle.f3_lawful_laws.proofs.Placing.{Lies, lies_left, lies_right, lies_first}

-- ---- lists that ascend

abbrev pub Ascends : ℕ → List ℕ → Type 0
Ascends l [] = ⊤
Ascends l (x ∷ xs) = (l ≤ x) × Ascends (suc x) xs

-- and stay below a number
abbrev pub Spans : ℕ → ℕ → List ℕ → Type 0
Spans l m [] = l ≤ m
Spans l m (x ∷ xs) = (l ≤ x) × Spans (suc x) m xs

pub lower : (l m : ℕ) (xs : List ℕ) → l ≤ m → Ascends m xs → Ascends l xs
lower l m [] le h = tt
lower l m (x ∷ xs) le h = ((let a : m ≤ x = h.0 in omega (arith, le, a)), h.1)

pub joined : (l m : ℕ) (xs ys : List ℕ) → Spans l m xs → Ascends m ys → Ascends l (xs ++ ys)
joined l m [] ys h k = lower l m ys h k
joined l m (x ∷ xs) ys h k = (h.0, joined (suc x) m xs ys h.1 k)

pub wider : (l k m : ℕ) (xs : List ℕ) → l ≤ k → Spans k m xs → Spans l m xs
wider l k m [] le h = let a : k ≤ m = h in omega (arith, le, a)
wider l k m (x ∷ xs) le h = ((let a : k ≤ x = h.0 in omega (arith, le, a)), h.1)

pub at_least : (l : ℕ) (xs : List ℕ) (k e : ℕ) → Ascends l xs → slice_get xs k ≡ Some e → l ≤ e
at_least l [] k e h at = nothing at
at_least l (x ∷ xs) zero e h at = let a : l ≤ x = h.0 in let s : x ≡ e = same at in omega (arith, a, s)
at_least l (x ∷ xs) (suc k) e h at =
    let a : l ≤ x = h.0 in let b : suc x ≤ e = at_least (suc x) xs k e h.1 at in omega (arith, a, b)

pub unlike : (e x : ℕ) → suc x ≤ e → nat_eq e x ≡ false
unlike e x le = elim (eqb_tells e x) [ inl k ↦ (let s : e ≡ x = k.1 in absurd (omega (arith, le, s))) | inr k ↦ k.0 ]

-- what stands at a place is first found there
pub position_at : (l : ℕ) (xs : List ℕ) (k e : ℕ) → Ascends l xs → slice_get xs k ≡ Some e → position (nat_eq e) xs ≡ Some k
position_at l [] k e h at = nothing at
position_at l (x ∷ xs) zero e h at =
    position_cons (nat_eq e) x xs ∙ ap (λ b. cond b (Some 0) (option_map suc (position (nat_eq e) xs))) (ap (nat_eq e) (same at) ∙ eq_self e)
position_at l (x ∷ xs) (suc k) e h at =
    position_cons (nat_eq e) x xs
    ∙ ap (λ b. cond b (Some 0) (option_map suc (position (nat_eq e) xs))) (unlike e x (at_least (suc x) xs k e h.1 at))
    ∙ ap (option_map suc) (position_at (suc x) xs k e h.1 at)

-- ---- where the entities of scopes begin

pub first_next : (scopes : List Scope) (n : ℕ) (s : Scope) → slice_get scopes n ≡ Some s → first_entity scopes (suc n) ≡ first_entity scopes n + length s.declared
first_next [] n s at = nothing at
first_next (x ∷ xs) zero s at =
    let long = length-append x.declared [] in
    let alike = ap (λ (y : Scope). length y.declared) (same at) in
    omega (arith, long, alike)
first_next (x ∷ xs) (suc n) s at =
    let more = first_next xs n s at in
    let one = length-append x.declared (entities_of (take (suc n) xs)) in
    let two = length-append x.declared (entities_of (take n xs)) in
    omega (arith, more, one, two)

pub first_grows : (scopes : List Scope) (a b : ℕ) → a ≤ b → first_entity scopes a ≤ first_entity scopes b
first_grows scopes zero b le = omega arith
first_grows scopes (suc a) zero le = absurd (omega (arith, le))
first_grows [] (suc a) (suc b) le = omega arith
first_grows (x ∷ xs) (suc a) (suc b) le =
    let more = first_grows xs a b (omega (arith, le)) in
    let one = length-append x.declared (entities_of (take a xs)) in
    let two = length-append x.declared (entities_of (take b xs)) in
    omega (arith, more, one, two)

-- ---- procedures

abbrev entity : Member → ℕ
entity m = m.entity

pub members_span : (scopes : List Scope) (e n : ℕ) (ps : List ProcedureTree) → Spans e (e + length ps) (map entity (members_from scopes e n ps))
members_span scopes e n [] = let a : e ≤ e + 0 = omega arith in a
members_span scopes e n (p ∷ ps) =
    let next : ℕ = n + 1 + length (constructs_of_block p.body) in
    let rest : Spans (e + 1) (e + 1 + length ps) (map entity (members_from scopes (e + 1) next ps)) = members_span scopes (e + 1) next ps in
    let one : e + 1 ≡ suc e = omega arith in
    let all : e + 1 + length ps ≡ e + suc (length ps) = omega arith in (
      (let a : e ≤ e = omega arith in a),
      subst (λ l. Spans l (e + suc (length ps)) (map entity (members_from scopes (e + 1) next ps))) one
          (subst (λ m. Spans (e + 1) m (map entity (members_from scopes (e + 1) next ps))) all rest),
    )

pub mapped_long : {A B : Type 0} (f : A → B) (xs : List A) → length (map f xs) ≡ length xs
mapped_long f [] = refl
mapped_long f (x ∷ xs) = ap suc (mapped_long f xs)

abbrev pub entities_in : List Numbered → List ℕ
entities_in us = flat_map (λ (u : Numbered). map (λ (m : Member). m.entity) u.members) us

pub units_ascend : (scopes : List Scope) (n : ℕ) (us : List UnitTree) → Lies scopes n (scopes_from n us)
    → Ascends (first_entity scopes n) (entities_in (units_from scopes n us))
units_ascend scopes n [] lies = tt
units_ascend scopes n (u ∷ us) lies =
    let own : ℕ = length (flat_map declared_in (u.part).specifications) in
    let count : ℕ = length u.procedures in
    let next : ℕ = n + length (unit_scopes n u) in
    let at : slice_get scopes n ≡ Some (scope_of_unit u) = lies_first scopes n (scope_of_unit u) _ (lies_left scopes n (unit_scopes n u) _ lies) in
    let more = first_next scopes n (scope_of_unit u) at in
    let split = length-append (flat_map declared_in (u.part).specifications) (map procedure_own u.procedures) in
    let long = mapped_long procedure_own u.procedures in
    let grows : first_entity scopes (suc n) ≤ first_entity scopes next = first_grows scopes (suc n) next (let a : suc n ≤ next = omega arith in a) in
    let before : first_entity scopes n + own + count ≤ first_entity scopes next = omega (arith, more, split, long, grows) in
    joined (first_entity scopes n) (first_entity scopes n + own + count) (map entity (numbered scopes n u).members) (entities_in (units_from scopes next us))
    (wider (first_entity scopes n) (first_entity scopes n + own) (first_entity scopes n + own + count) (map entity (numbered scopes n u).members)
    (let a : first_entity scopes n ≤ first_entity scopes n + own = omega arith in a)
    (members_span scopes (first_entity scopes n + own) (n + 1 + length (constructs_of_block u.body)) u.procedures))
    (lower (first_entity scopes n + own + count) (first_entity scopes next) (entities_in (units_from scopes next us)) before
    (units_ascend scopes next us (lies_right scopes n (unit_scopes n u) _ lies)))
