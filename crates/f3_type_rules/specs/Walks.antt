-- Walks along declarations, in which what is known grows.
use Rattle.std.specs.Prelude.{ℕ, Bool, nat_eq, List, [], ◌∷◌, ◌++◌}
use Rattle.std.specs.List.{list_any}
use Rattle.f3_rules.specs.declared.breaks.Break.{Break}
use Rattle.f3_tree.specs.Declarations.{EntityTree}
use Rattle.f3_kinds.specs.declared.types.Scalar.{Scalar}
use Rattle.f3_kinds.specs.Things.{Context}
use Rattle.f3_type_rules.specs.Scene.{Scene, context_in}

abbrev pub after : {S X : Type 0} → (S → X → S) → S → List X → S
after next s [] = s
after next s (x ∷ xs) = after next (next s x) xs

abbrev pub along : {S X : Type 0} → (S → X → List Break) → (S → X → S) → S → List X → List Break
along rows next s [] = []
along rows next s (x ∷ xs) = rows s x ++ along rows next (next s x) xs

-- the entity that is declared next, the values of the named constants so far, and the cells of the types so far
pub record Known : Type 0 where
  pub next : ℕ
  pub values : List (ℕ × Scalar)
  pub cells : List (ℕ × ℕ)

-- Where a declaration stands: the scope, whether in a type, or in a PURE procedure or a function, and which names are dummies, a result,
-- or listed in PROTECTED.
pub record Spot : Type 0 where
  pub scene : Scene
  pub unit : ℕ
  pub scope : ℕ
  pub is_type : Bool
  pub is_pure : Bool
  pub dummies : List ℕ
  pub results : List ℕ
  pub listed : List ℕ

abbrev pub context : Spot → Known → Context
context s k = context_in s.scene s.unit s.scope 5 k.values

abbrev pub is_among : List ℕ → EntityTree → Bool
is_among symbols x = list_any (nat_eq (x.name).symbol) symbols
