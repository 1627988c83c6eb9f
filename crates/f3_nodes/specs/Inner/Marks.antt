-- What a walk knows.
use Rattle.std.specs.Prelude.{◌≡◌, ◌≢◌, ℕ, ◌+◌, ◌-◌, ◌<◌, ◌≤◌, ◌⊎◌, List, [], ◌∷◌, Bool, true, false, Result, Ok, Err, Contains, length, take}
use Rattle.std.specs.List.{slice_index_or}
use Rattle.f3_nodes.specs.declared.walk.Mark.{Mark}
use Rattle.f3_nodes.specs.declared.walk.Mark.TheVariants.{New, Open, Done}
use Rattle.f3_nodes.specs.Nodes.{Graph, targets_of, Leads}

abbrev pub mark : List Mark → ℕ → Mark
mark ms u = slice_index_or ms u New

-- what is done stands in the order, behind what it uses
pub record IsSettled (g : Graph) (ms : List Mark) (order : List ℕ) : Type 0 where
  pub long : length ms ≡ length g
  pub within : (k : ℕ) → k < length order → slice_index_or order k 0 < length g
  pub once : (j k : ℕ) → j < k → k < length order → slice_index_or order j 0 ≢ slice_index_or order k 0
  pub after : (k v : ℕ) → k < length order → Contains (targets_of g (slice_index_or order k 0)) v → Contains (take k order) v
  pub done : (u : ℕ) → Contains order u → mark ms u ≡ Done
  pub listed : (u : ℕ) → mark ms u ≡ Done → Contains order u

-- nothing is open
abbrev pub NoneOpen : List Mark → Type 0
NoneOpen ms = (u : ℕ) → mark ms u ≢ Open

abbrev pub IsNew : List Mark → ℕ → Type 0
IsNew ms u = mark ms u ≡ New

-- What a visit leaves: what is done, the root and what was done before among it, and nothing open; or a node reaches itself.
pub record HasVisited (g : Graph) (root : ℕ) (before : List ℕ) (ms : List Mark) (order : List ℕ) : Type 0 where
  pub settled : IsSettled g ms order
  pub closed : NoneOpen ms
  pub root_done : Contains order root
  pub kept : (u : ℕ) → Contains before u → Contains order u

abbrev pub Visits : {E : Type 0} → Graph → ℕ → List ℕ → Result Bool E → List Mark → List ℕ → Type 0
Visits g root before (Ok true) ms order = HasVisited g root before ms order
Visits g root before (Ok false) ms order = (u : ℕ) × Leads g u u
Visits g root before (Err e) ms order = Unit {0}

-- A walk, its stack from the top ---------------------------------------------------------------

abbrev pub Apart : ℕ → List (ℕ × ℕ) → Type 0
Apart u [] = Unit {0}
Apart u (y ∷ ys) = (y.0 ≢ u) × Apart u ys

abbrev pub On : ℕ → List (ℕ × ℕ) → Type 0
On u [] = ⊥
On u (y ∷ ys) = (u ≡ y.0) ⊎ On u ys

-- what lies next on the stack uses it
abbrev pub Under : Graph → ℕ → List (ℕ × ℕ) → Type 0
Under g u [] = Unit {0}
Under g u (y ∷ ys) = Contains (targets_of g y.0) u

-- a node at work, with how many of its uses are done
pub record Frame (g : Graph) (ms : List Mark) (x : ℕ × ℕ) : Type 0 where
  pub inside : x.0 < length g
  pub is_open : mark ms x.0 ≡ Open
  pub upto : x.1 ≤ length (targets_of g x.0)
  pub below : (j : ℕ) → j < x.1 → mark ms (slice_index_or (targets_of g x.0) j 0) ≡ Done

abbrev pub Good : Graph → List Mark → List (ℕ × ℕ) → Type 0
Good g ms [] = Unit {0}
Good g ms (x ∷ xs) = Frame g ms x × Apart x.0 xs × Under g x.0 xs × Good g ms xs

pub record Walks (g : Graph) (ms : List Mark) (order : List ℕ) (stack : List (ℕ × ℕ)) : Type 0 where
  pub settled : IsSettled g ms order
  pub good : Good g ms stack
  pub all : (u : ℕ) → mark ms u ≡ Open → On u stack

-- the work that is left
abbrev pub cost : Mark → List ℕ → ℕ
cost New us = length us + 2
cost Open us = 0
cost Done us = 0

abbrev pub fresh : List Mark → List (List ℕ) → ℕ
fresh [] uss = 0
fresh (m ∷ ms) [] = 0
fresh (m ∷ ms) (us ∷ uss) = cost m us + fresh ms uss

abbrev pub left_of : Graph → ℕ × ℕ → ℕ
left_of g x = (length (targets_of g x.0) + 1) - x.1
