-- Types of which no component is initialized (ISO/IEC 1539-1:2004, 4.5.3.4).
use Rattle.std.specs.Prelude.{⊤, Bool, List, [], ◌∷◌}
use Rattle.std.specs.Bool.{MatchBool}
use Rattle.f3_meaning_whole.specs.Shape.{Shape}
use Rattle.f3_rooms.specs.Laws.{IsBare}

-- of each of the types in their order, whether it is one
abbrev pub TellBare : List Shape → List Bool → Type 0
TellBare [] [] = ⊤
TellBare [] (b ∷ bs) = ⊥
TellBare (s ∷ ss) [] = ⊥
TellBare (s ∷ ss) (b ∷ bs) = MatchBool b (IsBare s) (IsBare s → ⊥) × TellBare ss bs
