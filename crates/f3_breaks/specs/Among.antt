-- Breaks at the items of a list.
use Rattle.std.specs.Prelude.{◌≡◌, List, Option, None, Contains}
use Rattle.std.specs.List.{FoldsTo}
use Rattle.f3_rules.specs.declared.breaks.Break.{Break}
use Rattle.f3_rules.specs.Least.{earlier_of}

-- a break of one of these
abbrev pub Among : {X : Type 0} → (X → Break → Type 0) → List X → Break → Type 0
Among {X} P xs b = (x : X) × Contains xs x × P x b

-- what is found at one item more
abbrev pub FindsAt : {X : Type 0} → (X → Option Break → Type 0) → Option Break → X → Option Break → Type 0
FindsAt finds before x after = (here : Option Break) × finds x here × (after ≡ earlier_of before here)

-- the earliest of what is found at each item
pub record IsFoundAlong {X : Type 0} (finds : X → Option Break → Type 0) (xs : List X) (found : Option Break) : Type 0 where
  pub along : FoldsTo (FindsAt finds) None xs found
