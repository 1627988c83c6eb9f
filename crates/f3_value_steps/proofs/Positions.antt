-- The table of the first arguments with numbers.
use Rattle.std.proofs.Common.{◌≡◌, ℕ, zero, ◌+◌, ◌<◌, Bool, true, false, cond, eq-eqb, List, [], ◌∷◌, length, map, get_or, refl, sym, ap, ◌∙◌, suc, arith}
use Rattle.std.specs.Prelude.{nat_eq, if◌then◌else◌, Option, None, Some}
use Rattle.std.specs.List.{slice_index_or}
use Rattle.std.proofs.lemmas.Bool.{eqb-true, eqb-false, ne_eqb}
use Rattle.std.proofs.lemmas.List.{length-map, get_or-map}
use Rattle.f3_meaning_whole.specs.Act.{Passed, Given, Lent, passed_at}
use Rattle.f3_cells.specs.declared.cell.Passed as c
use Rattle.f3_cells.specs.Cells.{passed_of}
use Rattle.f3_value_steps.specs.Inner.Structures.{number_in}
use Rattle.f3_value_steps.specs.Inner.Positions.{position_of, first_of}

-- what the table has, or else what is found in the arguments that are left, is the first of all
abbrev pub Fills : List (Option ℕ) → List Passed → List Passed → ℕ → Type 0
Fills table ps rest position = (k : ℕ) → k < length table → first_of (slice_index_or table k None) (position_of k rest position) ≡ position_of k ps 0

here_at : (k : ℕ) (p : Passed) (ps : List Passed) → number_in p ≡ k → passed_at k (p ∷ ps) ≡ Some p
here_at k (Given i v) ps e = ap (λ (b : Bool). cond b (Some (Given i v)) (passed_at k ps)) (eq-eqb i k e)
here_at k (Lent i r) ps e = ap (λ (b : Bool). cond b (Some (Lent i r)) (passed_at k ps)) (eq-eqb i k e)

further_at : (k : ℕ) (p : Passed) (ps : List Passed) → (number_in p ≡ k → ⊥) → passed_at k (p ∷ ps) ≡ passed_at k ps
further_at k (Given i v) ps h = ap (λ (b : Bool). cond b (Some (Given i v)) (passed_at k ps)) (ne_eqb i k h)
further_at k (Lent i r) ps h = ap (λ (b : Bool). cond b (Some (Lent i r)) (passed_at k ps)) (ne_eqb i k h)

-- the first argument with a number is one that stands there, from a position on
abbrev Stands : ℕ → List Passed → ℕ → ℕ → Type 0
Stands k ps position found = (j : ℕ) × (found ≡ position + j) × (j < length ps) × ((d : Passed) → passed_at k ps ≡ Some (get_or ps j d))

stands_if : (k : ℕ) (p : Passed) (ps : List Passed) (position found : ℕ) (is : Bool) → nat_eq (number_in p) k ≡ is
    → (position_of k ps (suc position) ≡ Some found → Stands k ps (suc position) found)
    → (if is then Some position else position_of k ps (suc position)) ≡ Some found
    → Stands k (p ∷ ps) position found
stands_if k p ps position found true is further e =
    let same : position ≡ found = cc in (zero, omega arith, omega arith, λ d. here_at k p ps (eqb-true (number_in p) k is))
stands_if k p ps position found false is further e =
    let r = further e in (suc r.0, omega arith, omega arith, λ d. further_at k p ps (eqb-false (number_in p) k is) ∙ r.3 d)

stands : (k : ℕ) (ps : List Passed) (position found : ℕ) → position_of k ps position ≡ Some found → Stands k ps position found
stands k [] position found e = absurd cc
stands k (p ∷ ps) position found e = stands_if k p ps position found (nat_eq (number_in p) k) refl (stands k ps (suc position) found) e

pub stands_inside : (k : ℕ) (ps : List c.Passed) (found : ℕ) → position_of k (map passed_of ps) 0 ≡ Some found → found < length ps
stands_inside k ps found e = let r = stands k (map passed_of ps) 0 found e in omega (arith, length-map ps passed_of)

pub stands_at : (k : ℕ) (ps : List c.Passed) (x : c.Passed) (found : ℕ) → position_of k (map passed_of ps) 0 ≡ Some found → x ≡ get_or ps found x
    → passed_at k (map passed_of ps) ≡ Some (passed_of x)
stands_at k ps x found e is =
    let r = stands k (map passed_of ps) 0 found e in
    let same : r.0 ≡ found = omega arith in
    r.3 (passed_of x)
    ∙ ap (λ j. Some (get_or (map passed_of ps) j (passed_of x))) same
    ∙ ap Some (get_or-map passed_of ps found x (passed_of x) (stands_inside k ps found e) ∙ ap passed_of (sym is))

none_if : (k : ℕ) (p : Passed) (ps : List Passed) (position : ℕ) (is : Bool) → nat_eq (number_in p) k ≡ is
    → (position_of k ps (suc position) ≡ None → passed_at k ps ≡ None)
    → (if is then Some position else position_of k ps (suc position)) ≡ None
    → passed_at k (p ∷ ps) ≡ None
none_if k p ps position true is further e = absurd cc
none_if k p ps position false is further e = further_at k p ps (eqb-false (number_in p) k is) ∙ further e

pub none_at : (k : ℕ) (ps : List Passed) (position : ℕ) → position_of k ps position ≡ None → passed_at k ps ≡ None
none_at k [] position e = refl
none_at k (p ∷ ps) position e = none_if k p ps position (nat_eq (number_in p) k) refl (none_at k ps (suc position)) e
