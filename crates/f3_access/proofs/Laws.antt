-- What is visible is declared.
use Rattle.std.proofs.Common.{◌≡◌, ℕ, zero, suc, ◌+◌, List, [], ◌∷◌, ◌++◌, length, take, Some, slice_get, subst, arith}
use Rattle.std.proofs.lemmas.List.{length-append}
use Rattle.std.proofs.lemmas.Option.{slice_get_within}
use Rattle.f3_scopes.specs.Outlines.{Scope, Own}
use Rattle.f3_access.specs.Access.{entities_of, first_entity, IsOwn, IsVisible}

in_front : {X : Type 0} (xs ys : List X) (k : ℕ) (x : X) → slice_get xs k ≡ Some x → slice_get (xs ++ ys) k ≡ Some x
in_front [] ys k x h = absurd (let past = slice_get_within [] k x h in omega arith)
in_front (z ∷ zs) ys zero x h = h
in_front (z ∷ zs) ys (suc k) x h = in_front zs ys k x h

behind : {X : Type 0} (xs ys : List X) (k : ℕ) (x : X) → slice_get ys k ≡ Some x → slice_get (xs ++ ys) (length xs + k) ≡ Some x
behind [] ys k x h = subst (λ n. slice_get ys n ≡ Some x) (let e : k ≡ 0 + k = omega arith in e) h
behind (z ∷ zs) ys k x h = subst (λ n. slice_get (z ∷ zs ++ ys) n ≡ Some x) (let e : suc (length zs + k) ≡ length (z ∷ zs) + k = omega arith in e) (behind zs ys k x h)

numbered_entity : (scopes : List Scope) (u : ℕ) (scope : Scope) (place : ℕ) (d : Own) → slice_get scopes u ≡ Some scope → slice_get scope.declared place ≡ Some d → slice_get (entities_of scopes) (first_entity scopes u + place) ≡ Some d
numbered_entity [] u scope place d at_u at_d = absurd (let past = slice_get_within [] u scope at_u in omega arith)
numbered_entity (s ∷ ss) zero scope place d at_u at_d =
    let same : scope ≡ s = cc in
    subst (λ n. slice_get (entities_of (s ∷ ss)) n ≡ Some d) (let e : place ≡ first_entity (s ∷ ss) 0 + place = omega arith in e)
    (in_front s.declared (entities_of ss) place d (subst (λ x. slice_get x.declared place ≡ Some d) same at_d))
numbered_entity (s ∷ ss) (suc u) scope place d at_u at_d =
    subst (λ n. slice_get (entities_of (s ∷ ss)) n ≡ Some d)
    (let e : length s.declared + (first_entity ss u + place) ≡ first_entity (s ∷ ss) (suc u) + place = omega (arith, length-append s.declared (entities_of (take u ss))) in e)
    (behind s.declared (entities_of ss) (first_entity ss u + place) d (numbered_entity ss u scope place d at_u at_d))

own_declared : (scopes : List Scope) (u n e : ℕ) → IsOwn scopes u n e → (d : Own) × (slice_get (entities_of scopes) e ≡ Some d)
own_declared scopes u n e (IsOwn.declared u' n' e' (scope, place, d, at_u, at_d, name, number)) =
    (d, subst (λ k. slice_get (entities_of scopes) k ≡ Some d) number (numbered_entity scopes u' scope place d at_u at_d))
own_declared scopes u n e (IsOwn.used u' n' e' m x brings inner) = own_declared scopes m x e' inner

pub visible_declared : (scopes : List Scope) (u n e : ℕ) → IsVisible scopes u n e → (d : Own) × (slice_get (entities_of scopes) e ≡ Some d)
visible_declared scopes u n e (IsVisible.own u' n' e' own) = own_declared scopes u' n' e' own
visible_declared scopes u n e (IsVisible.around u' n' e' host same free inner) = visible_declared scopes host n' e' inner
