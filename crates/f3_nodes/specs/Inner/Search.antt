-- What a search of a graph has seen.
use Rattle.std.specs.Prelude.{◌≡◌, ℕ, ◌<◌, ◌⊎◌, List, [], ◌∷◌, ◌++◌, Bool, true, false, Contains, length, slice_set, if◌then◌else◌}
use Rattle.std.specs.List.{slice_index_or}
use Rattle.f3_nodes.specs.Nodes.{Graph, targets_of, Leads}

abbrev pub is_seen : List Bool → ℕ → Bool
is_seen seen u = slice_index_or seen u false

-- a node is seen: it is marked, and noted where it was not marked before
abbrev pub see : List Bool × List ℕ → ℕ → List Bool × List ℕ
see s v = if is_seen s.0 v then s else (slice_set s.0 v true, s.1 ++ v ∷ [])

abbrev pub see_all : List Bool × List ℕ → List ℕ → List Bool × List ℕ
see_all s [] = s
see_all s (v ∷ vs) = see_all (see s v) vs

-- all uses of a node are seen
abbrev pub Finished : Graph → List Bool → ℕ → Type 0
Finished g seen u = (v : ℕ) → Contains (targets_of g u) v → is_seen seen v ≡ true

-- what is seen is the start or reached from it; what is seen is finished, or is still to do
pub record Searches (g : Graph) (start : ℕ) (seen : List Bool) (todo : List ℕ) : Type 0 where
  pub long : length seen ≡ length g
  pub inside : (u : ℕ) → Contains todo u → u < length g
  pub noted : (u : ℕ) → Contains todo u → is_seen seen u ≡ true
  pub begun : is_seen seen start ≡ true
  pub sound : (u : ℕ) → is_seen seen u ≡ true → (start ≡ u) ⊎ Leads g start u
  pub whole : (u : ℕ) → is_seen seen u ≡ true → Contains todo u ⊎ Finished g seen u
