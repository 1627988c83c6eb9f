-- Values that are held.
use Rattle.std.proofs.Common.{◌≡◌, ℕ, ◌+◌, ◌<◌, List, [], ◌∷◌, ◌++◌, length, map, take, get_or, refl, sym, ap, ◌∙◌, suc, arith}
use Rattle.std.proofs.lemmas.List.{map-append}
use Rattle.std.proofs.Math.Seq.{take-suc}
use Rattle.f3_meaning_whole.specs.Value as m
use Rattle.f3_meaning_whole.specs.Act as a
use Rattle.f3_meaning_whole.specs.Exec as x
use Rattle.f3_meaning_whole.specs.Exec.{held}
use Rattle.f3_cells.specs.declared.cell.Association.{Association}
use Rattle.f3_cells.specs.declared.cell.Passed.{Passed}
use Rattle.f3_cells.specs.Cells.{passed_of, association_of}

held-append : (xs ys : List a.Passed) → held (xs ++ ys) ≡ held xs ++ held ys
held-append [] ys = refl
held-append (a.Given k v ∷ xs) ys = ap (λ vs. v ∷ vs) (held-append xs ys)
held-append (a.Lent k r ∷ xs) ys = held-append xs ys

-- one argument more
pub held_more : (xs : List Passed) (i : ℕ) (x : Passed) (old new : List m.Value) → i < length xs → x ≡ get_or xs i x → old ≡ held (map passed_of (take i xs))
    → new ≡ old ++ held (passed_of x ∷ []) → new ≡ held (map passed_of (take (i + 1) xs))
held_more xs i x old new lt is before more =
    let next : i + 1 ≡ suc i = omega arith in
    let taken : take (i + 1) xs ≡ take i xs ++ x ∷ [] = ap (λ n. take n xs) next ∙ take-suc xs i x lt ∙ ap (λ y. take i xs ++ y ∷ []) (sym is) in
    more ∙ ap (λ vs. vs ++ held (passed_of x ∷ [])) before ∙ sym (held-append (map passed_of (take i xs)) (passed_of x ∷ []))
    ∙ ap held (sym (map-append passed_of (take i xs) (x ∷ [])) ∙ ap (map passed_of) (sym taken))

-- ---- the same of selectors

held_by-append : (xs ys : List x.Association) → x.held_by (xs ++ ys) ≡ x.held_by xs ++ x.held_by ys
held_by-append [] ys = refl
held_by-append (x.Holds of v ∷ xs) ys = ap (λ vs. v ∷ vs) (held_by-append xs ys)
held_by-append (x.Means r ∷ xs) ys = held_by-append xs ys

pub held_by_more : (xs : List Association) (i : ℕ) (y : Association) (old new : List m.Value) → i < length xs → y ≡ get_or xs i y
    → old ≡ x.held_by (map association_of (take i xs)) → new ≡ old ++ x.held_by (association_of y ∷ []) → new ≡ x.held_by (map association_of (take (i + 1) xs))
held_by_more xs i y old new lt is before more =
    let next : i + 1 ≡ suc i = omega arith in
    let taken : take (i + 1) xs ≡ take i xs ++ y ∷ [] = ap (λ n. take n xs) next ∙ take-suc xs i y lt ∙ ap (λ z. take i xs ++ z ∷ []) (sym is) in
    more ∙ ap (λ vs. vs ++ x.held_by (association_of y ∷ [])) before ∙ sym (held_by-append (map association_of (take i xs)) (association_of y ∷ []))
    ∙ ap x.held_by (sym (map-append association_of (take i xs) (y ∷ [])) ∙ ap (map association_of) (sym taken))
