-- Levels of nodes that never fall along a step: what stands on a higher level does not lead back.
use Rattle.std.specs.Prelude.{ℕ, ◌+◌, ◌≤◌, List, [], ◌∷◌, Bool, true, ◌&&◌, nat_le}
use Rattle.std.specs.List.{slice_index_or, list_all}
use Rattle.f3_nodes.specs.Nodes.{Graph, Leads}

-- 0 where the list has none
abbrev pub level : List ℕ → ℕ → ℕ
level levels u = slice_index_or levels u 0

-- no node leads to one on a lower level
abbrev pub AreLevels : Graph → List ℕ → Type 0
AreLevels g levels = (u v : ℕ) → Leads g u v → level levels u ≤ level levels v

-- a node may lead to another, by their levels
abbrev pub may_lead : List ℕ → ℕ → ℕ → Bool
may_lead levels u v = nat_le (level levels u) (level levels v)

-- a node may lead to all of these
abbrev pub may_lead_to : List ℕ → ℕ → List ℕ → Bool
may_lead_to levels u vs = list_all (λ v. may_lead levels u v) vs

-- the nodes from a number on may lead to all that they use
abbrev pub all_rise : List ℕ → ℕ → Graph → Bool
all_rise levels u [] = true
all_rise levels u (vs ∷ g) = may_lead_to levels u vs.items && all_rise levels (u + 1) g
