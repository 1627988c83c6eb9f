-- Levels that rise along each step rise along each path.
use Rattle.std.proofs.Common.{◌≡◌, ℕ, zero, suc, ◌+◌, ◌≤◌, List, [], ◌∷◌, refl, sym, ap, subst, ◌∙◌, arith, inl, inr, Contains, Bool, true, false, ◌&&◌}
use Rattle.std.proofs.lemmas.Bool.{true≢false, leb-true}
use Rattle.f3_nodes.specs.Nodes.{Graph, targets_of, Leads}
use Rattle.f3_nodes.specs.Levels.{level, may_lead, may_lead_to, all_rise, AreLevels}
use Rattle.f3_nodes.proofs.Members.{Has, has_of}

both_of : (s t : Bool) → (s && t) ≡ true → (s ≡ true) × (t ≡ true)
both_of true t e = (refl, e)
both_of false t e = absurd (true≢false (sym e))

each_rises : (levels : List ℕ) (u : ℕ) (vs : List ℕ) → may_lead_to levels u vs ≡ true → (v : ℕ) → Has vs v → may_lead levels u v ≡ true
each_rises levels u [] e v h = absurd h
each_rises levels u (w ∷ ws) e v (inl same) = ap (may_lead levels u) same ∙ (both_of (may_lead levels u w) (may_lead_to levels u ws) e).0
each_rises levels u (w ∷ ws) e v (inr h) = each_rises levels u ws (both_of (may_lead levels u w) (may_lead_to levels u ws) e).1 v h

step_rises : (levels : List ℕ) (n : ℕ) (g : Graph) → all_rise levels n g ≡ true → (k v : ℕ) → Has (targets_of g k) v → may_lead levels (n + k) v ≡ true
step_rises levels n [] e k v h = absurd h
step_rises levels n (x ∷ g) e zero v h =
    let here : n ≡ n + 0 = omega arith in
    subst (λ u. may_lead levels u v ≡ true) here (each_rises levels n x.items (both_of (may_lead_to levels n x.items) (all_rise levels (n + 1) g) e).0 v h)
step_rises levels n (x ∷ g) e (suc k) v h =
    let there : (n + 1) + k ≡ n + suc k = omega arith in
    subst (λ u. may_lead levels u v ≡ true) there (step_rises levels (n + 1) g (both_of (may_lead_to levels n x.items) (all_rise levels (n + 1) g) e).1 k v h)

pub are_levels : (g : Graph) (levels : List ℕ) → all_rise levels 0 g ≡ true → AreLevels g levels
are_levels g levels e = path
  where
    step : (u v : ℕ) → Contains (targets_of g u) v → level levels u ≤ level levels v
    step u v c =
        let at : 0 + u ≡ u = omega arith in
        leb-true (level levels u) (level levels v) (subst (λ w. may_lead levels w v ≡ true) at (step_rises levels 0 g e u v (has_of (targets_of g u) v c)))

    path : (u v : ℕ) → Leads g u v → level levels u ≤ level levels v
    path u v (Leads.at_once u' v' c) = step u' v' c
    path u v (Leads.through u' m v' c r) = let first = step u' m c in let rest = path m v' r in omega (arith, first, rest)

-- levels that are all 0
pub no_levels : (g : Graph) → AreLevels g []
no_levels g u v r = omega arith
