-- Graphs of nodes, and orders of them.
use Rattle.std.specs.Prelude.{◌≢◌, ℕ, ◌<◌, List, [], Option, None, Some, Contains, length, map, take}
use Rattle.std.specs.List.{slice_index_or}
use Rattle.std.specs.Global.{Vec}

-- for each node those that it uses
abbrev pub Graph : Type 0
Graph = List (Vec ℕ)

abbrev pub targets_of : Graph → ℕ → List ℕ
targets_of g u = slice_index_or (map (λ v. v.items) g) u []

-- each used node is there
abbrev pub InRange : Graph → Type 0
InRange g = (u v : ℕ) → Contains (targets_of g u) v → v < length g

-- by one use or several
pub data Leads (g : Graph) : ℕ → ℕ → Type 0 where
  at_once : (a b : ℕ) → Contains (targets_of g a) b → Leads g a b
  through : (a b c : ℕ) → Contains (targets_of g a) b → Leads g b c → Leads g a c

-- each stands once, behind those that it uses
pub record IsNodeOrder (g : Graph) (order : List ℕ) : Type 0 where
  pub within : (k : ℕ) → k < length order → slice_index_or order k 0 < length g
  pub once : (j k : ℕ) → j < k → k < length order → slice_index_or order j 0 ≢ slice_index_or order k 0
  pub after : (k v : ℕ) → k < length order → Contains (targets_of g (slice_index_or order k 0)) v → Contains (take k order) v
  pub all : (u : ℕ) → u < length g → Contains order u

-- an order, or some node reaches itself
abbrev pub Ordered : Graph → Option (Vec ℕ) → Type 0
Ordered g (Some order) = IsNodeOrder g order.items
Ordered g None = (u : ℕ) × Leads g u u
