-- Laws on cuts.
use Rattle.std.specs.Prelude.{◌≡◌, ℕ, ◌≤◌, List, [], ◌∷◌, ◌++◌, length, true, Option, None, Some}
use Rattle.f3_rules.specs.Least.{before}
use Rattle.f3_places.specs.declared.source.Place.{Place}
use Rattle.f3_rules.specs.declared.breaks.Break.{Break}
use Rattle.f3_text.specs.Statements.{Spelled, cut_of}

-- a fact of each item
abbrev pub EachOf : {X : Type 0} → (X → Type 0) → List X → Type 0
EachOf P [] = Unit {0}
EachOf P (x ∷ xs) = P x × EachOf P xs

-- where no text has a fault, no source is past the limit
abbrev pub NoneIsLong : Type 0
NoneIsLong = (sources : List (List ℕ)) → (cut_of sources).fault ≡ None → EachOf (λ b. length b ≤ 16777216) sources

-- one place stands before another: by source, line and column
abbrev pub key : Place → List ℕ
key p = p.file ∷ p.line ∷ p.column ∷ []

pub record Precedes (p q : Place) : Type 0 where
  pub earlier : before (key p) (key q) ≡ true

-- each place stands before those behind it
unfoldable pub Ascend : List Place → Type 0
Ascend [] = Unit {0}
Ascend (p ∷ ps) = EachOf (Precedes p) ps × Ascend ps

-- the places of statements, and then that of the fault
unfoldable pub places_in : List Spelled → List Place
places_in [] = []
places_in (s ∷ ss) = s.places ++ places_in ss

abbrev pub place_of : Option Break → List Place
place_of None = []
place_of (Some b) = b.place ∷ []

-- the bytes of the statements of sources stand in order of place, each at a place of its own, and the fault behind them
abbrev pub StandInOrder : Type 0
StandInOrder = (sources : List (List ℕ)) → Ascend (places_in (cut_of sources).statements ++ place_of (cut_of sources).fault)
