-- PROTECTED by a hashed set of names.
use Rattle.std.proofs.Common.{◌≡◌, ℕ, ◌==◌, true, List, [], ◌∷◌, map, nat_eq, refl, sym, subst, inl, inr}
use Rattle.std.specs.List.{list_any}
use Rattle.std.specs.Bool.{one_answer}
use Rattle.std.proofs.lemmas.Bool.Decides.{Decides-eqb}
use Rattle.indexmap.specs.IndexSet.{insert_all}
use Rattle.f3_tree.specs.declared.expression.Name.{Name}
use Rattle.f3_scopes.specs.Outlines.{Own, Scope}
use Rattle.f3_access.proofs.Members.{Has, any_of, any_from, put, put_of, has_mapped, mapped_of}
use Rattle.f3_names.specs.Entities.{home_of, entity_of}
use Rattle.f3_names.specs.Holders.{unit_of}
use Rattle.f3_names.specs.Inner.Making.{entity_by}

symbols : List Name → List ℕ
symbols names = map (λ (n : Name). n.symbol) names

same : (a b : ℕ) → nat_eq a b ≡ true → a ≡ b
same a b h = (Decides-eqb a b).0 h

in_set : (x : ℕ) (ks : List ℕ) → list_any (nat_eq x) (insert_all nat_eq [] ks) ≡ true → Has ks x
in_set x ks h =
    let (y, has, e) = any_of (nat_eq x) (insert_all nat_eq [] ks) h in
    elim (put_of nat_eq same [] ks x (subst (Has (insert_all nat_eq [] ks)) (sym (same x y e)) has)) [ inl a ↦ absurd a | inr b ↦ b ]

set_has : (x : ℕ) (ks : List ℕ) → Has ks x → list_any (nat_eq x) (insert_all nat_eq [] ks) ≡ true
set_has x ks h = any_from (nat_eq x) (insert_all nat_eq [] ks) x (put nat_eq same [] ks x (inr h)) ((Decides-eqb x x).1 refl)

named : (x : ℕ) (names : List Name) → list_any (λ (n : Name). n.symbol == x) names ≡ true → Has (symbols names) x
unfolding symbols
named x names h =
    let (n, has, e) = any_of (λ (m : Name). m.symbol == x) names h in
    subst (Has (map (λ (m : Name). m.symbol) names)) ((Decides-eqb n.symbol x).0 e) (has_mapped (λ (m : Name). m.symbol) names n has)

names_has : (x : ℕ) (names : List Name) → Has (symbols names) x → list_any (λ (n : Name). n.symbol == x) names ≡ true
unfolding symbols
names_has x names h =
    let (n, has, e) = mapped_of (λ (m : Name). m.symbol) names x h in
    any_from (λ (m : Name). m.symbol == x) names n has ((Decides-eqb n.symbol x).1 (sym e))

pub protected_same : (x : ℕ) (names : List Name) → list_any (nat_eq x) (insert_all nat_eq [] (map (λ (n : Name). n.symbol) names)) ≡ list_any (λ (n : Name). n.symbol == x) names
unfolding symbols
protected_same x names =
    one_answer {P = Has (symbols names) x} (list_any (nat_eq x) (insert_all nat_eq [] (symbols names))) (list_any (λ (n : Name). n.symbol == x) names)
    (in_set x (symbols names), set_has x (symbols names)) (named x names, names_has x names)

pub entities_by : (scopes : List Scope) (number : ℕ) (scope : Scope) (ds : List Own)
    → map (entity_by number (unit_of scopes number) (home_of scopes number) (insert_all nat_eq [] (map (λ (n : Name). n.symbol) scope.protects))) ds ≡ map (entity_of scopes number scope) ds
entities_by scopes number scope [] = refl
entities_by scopes number scope (d ∷ ds) =
    let first = protected_same d.name.symbol scope.protects in
    let rest = entities_by scopes number scope ds in
    simp (first, rest)
