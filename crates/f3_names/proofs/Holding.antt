-- The unit that holds a scope, one step outward after another.
use Rattle.std.proofs.Common.{◌≡◌, ℕ, ◌∷◌, List, Option, None, Some, refl, sym, ap, ◌∙◌}
use Rattle.f3_access.specs.Hosts.{outward}
use Rattle.f3_access.proofs.Outward.{AreBefore, outward_more, outward_last}
use Rattle.f3_names.specs.Holders.{last_of, outermost}

module _ (host : ℕ → Option ℕ) (before : AreBefore host) where
  -- a scope stands first among those that are around it
  leads : (number : ℕ) (o : Option ℕ) → host number ≡ o → (rest : List ℕ) × (outward host number ≡ number ∷ rest)
  leads number None e = (_, outward_last host number e)
  leads number (Some h) e = (_, outward_more host before number h e)

  pub outermost_last : (number : ℕ) → host number ≡ None → outermost host number ≡ number
  outermost_last number e = ap (last_of number) (outward_last host number e)

  pub outermost_more : (number h : ℕ) → host number ≡ Some h → outermost host h ≡ outermost host number
  outermost_more number h e =
      let (rest, first) = leads h (host h) refl in
      ap (last_of h) first ∙ sym (ap (last_of number) (outward_more host before number h e ∙ ap (λ l. number ∷ l) first))
