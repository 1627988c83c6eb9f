-- Along hosts, from a scope outward.
use Rattle.std.proofs.Common.{◌≡◌, ℕ, zero, suc, ◌+◌, ◌<◌, List, [], ◌∷◌, Option, None, Some, true, false, IfSome, slice_get, refl, sym, ap, subst, ◌∙◌, arith, inl, inr}
use Rattle.std.specs.List.{All}
use Rattle.std.proofs.Math.Logic.{∥∥₁_elim}
use Rattle.std.proofs.lemmas.Bool.{cases_lt}
use Rattle.std.proofs.lemmas.List.Elements.{All-nil, All-cons}
use Rattle.f3_selecting.specs.declared.choosing.Accesses.{Accesses}
use Rattle.f3_access.specs.declared.table.ScopeTable.{ScopeTable}
use Rattle.f3_access.specs.Hosts.{outward_of, outward}
use Rattle.f3_access.specs.Parts.{own_at, seen_from, lookup_in, is_nothing, host_at, holder_among, holder_at, AreOfScopes}
use Rattle.f3_access.specs.Pairs.{outward_from, seen_behind}

abbrev pub AreBefore : (ℕ → Option ℕ) → Type 0
AreBefore host = (number h : ℕ) → host number ≡ Some h → h < number

no_more : (host : ℕ → Option ℕ) (count : ℕ) → outward_of host count None ≡ []
no_more host zero = refl
no_more host (suc count) = refl

-- any two counts that are enough give all
enough : (host : ℕ → Option ℕ) → AreBefore host → (count more number : ℕ) → number < count → number < more → outward_of host count (Some number) ≡ outward_of host more (Some number)
enough host before zero more number a b = absurd (omega (arith, a))
enough host before (suc count) zero number a b = absurd (omega (arith, b))
enough host before (suc count) (suc more) number a b = ap (λ l. number ∷ l) (by (host number) refl (λ h less. enough host before count more h (omega (arith, a, less)) (omega (arith, b, less))))
  where
    by : (o : Option ℕ) → host number ≡ o → ((h : ℕ) → h < number → outward_of host count (Some h) ≡ outward_of host more (Some h)) → outward_of host count o ≡ outward_of host more o
    by None e again = no_more host count ∙ sym (no_more host more)
    by (Some h) e again = again h (before number h e)

outward_next : (host : ℕ → Option ℕ) (number : ℕ) → outward host number ≡ number ∷ outward_of host number (host number)
outward_next host number = ap (λ k. outward_of host k (Some number)) (let e : number + 1 ≡ suc number = omega arith in e)

pub outward_more : (host : ℕ → Option ℕ) → AreBefore host → (number h : ℕ) → host number ≡ Some h → outward host number ≡ number ∷ outward host h
outward_more host before number h e =
    outward_next host number ∙ ap (λ o. number ∷ outward_of host number o) e
    ∙ ap (λ l. number ∷ l) (enough host before number (h + 1) h (before number h e) (omega arith))

pub outward_last : (host : ℕ → Option ℕ) (number : ℕ) → host number ≡ None → outward host number ≡ number ∷ []
outward_last host number e = outward_next host number ∙ ap (λ o. number ∷ outward_of host number o) e ∙ ap (λ l. number ∷ l) (no_more host number)

all_below : (host : ℕ → Option ℕ) → AreBefore host → (count number bound : ℕ) → number < bound → All (λ k. k < bound) (outward_of host count (Some number))
all_below host before zero number bound less = All-nil (λ k. k < bound)
all_below host before (suc count) number bound less = All-cons (λ k. k < bound) number (outward_of host count (host number)) less (by (host number) refl (λ h below. all_below host before count h bound (omega (arith, less, below))))
  where
    by : (o : Option ℕ) → host number ≡ o → ((h : ℕ) → h < number → All (λ k. k < bound) (outward_of host count (Some h))) → All (λ k. k < bound) (outward_of host count o)
    by None e again = subst (All (λ k. k < bound)) (sym (no_more host count)) (All-nil (λ k. k < bound))
    by (Some h) e again = again h (before number h e)

pub outward_below : (host : ℕ → Option ℕ) → AreBefore host → (number h : ℕ) → host number ≡ Some h → All (λ k. k < number) (outward host h)
outward_below host before number h e = all_below host before (h + 1) h number (before number h e)

-- the nearest scope that has a name
module _ (list : List ScopeTable) where
  pub holder_here : (u n : ℕ) → is_nothing (lookup_in (slice_get list u) n) ≡ false → holder_at list u n ≡ Some u
  holder_here u n q = ap (λ ks. holder_among list ks n) (outward_next (host_at list) u) ∙ (rw q refl)

  pub holder_outside : AreBefore (host_at list) → (u h n : ℕ) → host_at list u ≡ Some h → is_nothing (lookup_in (slice_get list u) n) ≡ true → holder_at list u n ≡ holder_at list h n
  holder_outside before u h n e q = ap (λ ks. holder_among list ks n) (outward_more (host_at list) before u h e) ∙ (rw q refl)

  pub holder_nowhere : (u n : ℕ) → host_at list u ≡ None → is_nothing (lookup_in (slice_get list u) n) ≡ true → holder_at list u n ≡ None
  holder_nowhere u n e q = ap (λ ks. holder_among list ks n) (outward_last (host_at list) u e) ∙ (rw q refl)

  -- one step outward
  pub holder_from : AreBefore (host_at list) → (u n : ℕ) (o : Option ℕ) → o ≡ host_at list u → is_nothing (lookup_in (slice_get list u) n) ≡ true → holder_among list (outward_from list o) n ≡ holder_at list u n
  holder_from before u n None e q = sym (holder_nowhere u n (sym e) q)
  holder_from before u n (Some h) e q = sym (holder_outside before u h n (sym e) q)

  pub hosts_are_before : (accesses : List Accesses) (modules : ℕ → Option ℕ) → ∥ AreOfScopes list accesses modules ∥₁ → AreBefore (host_at list)
  hosts_are_before accesses modules some u h e = elim (cases_lt h u) [
    | inl less ↦ less
    | inr more ↦ absurd (∥∥₁_elim some (λ x y. absurd x) (λ r. let less = (r.1).hosts_before u h (sym ((r.1).hosts u) ∙ e) in let no : ⊥ = absurd (omega (arith, less, more)) in no))
  ]

  -- a scope, and all around it
  pub outward_whole : AreBefore (host_at list) → (u : ℕ) (o : Option ℕ) → o ≡ host_at list u → outward (host_at list) u ≡ u ∷ outward_from list o
  outward_whole before u None e = outward_last (host_at list) u (sym e)
  outward_whole before u (Some h) e = outward_more (host_at list) before u h (sym e)

  pub behind_all : AreBefore (host_at list) → (number other : ℕ) → seen_behind list number other (own_at list other) ≡ seen_from list number (outward (host_at list) other)
  behind_all before number other = sym (ap (seen_from list number) (outward_whole before other (host_at list other) refl))

  pub some_before : AreBefore (host_at list) → (u : ℕ) (o : Option ℕ) → o ≡ host_at list u → IfSome o (λ h. h < u)
  some_before before u None e = tt
  some_before before u (Some h) e = before u h (sym e)
