-- What tables of derived types say.
use Rattle.std.specs.Prelude.{⊤, ◌≡◌, ℕ, ◌+◌, List, [], ◌∷◌}
use Rattle.f3_meaning_whole.specs.Shape.{Shape, Whole, Logical, Record, Parts, nothing, and}
use Rattle.f3_rooms.specs.Forms.{form_of, form_words, words_for, words_for_parts}
use Rattle.f3_type_words.specs.declared.table.TypeTable.{TypeTable}

-- where components begin that stand one after another from a word on (own rule)
abbrev pub offsets_from : ℕ → Parts → List ℕ
offsets_from at nothing = []
offsets_from at (and c s rest) = at ∷ offsets_from (at + form_words (form_of c.declared) (words_for s)) rest

abbrev pub IsTable : Shape → TypeTable → Type 0
IsTable Whole x = ⊥
IsTable Logical x = ⊥
IsTable (Record t parts) x = (x.words ≡ words_for_parts parts) × (x.offsets.items ≡ offsets_from 0 parts)

-- a table for each type, in their order
abbrev pub AreTables : List Shape → List TypeTable → Type 0
AreTables [] [] = ⊤
AreTables [] (x ∷ xs) = ⊥
AreTables (s ∷ ss) [] = ⊥
AreTables (s ∷ ss) (x ∷ xs) = IsTable s x × AreTables ss xs
