-- Texts without the case of their letters.
use Rattle.std.specs.Prelude.{ℕ, List, [], ◌∷◌, length, map, max}
use Rattle.std.specs.Char.{to_ascii_lowercase}

-- a text with the letters A to Z as a to z (3.1.1)
abbrev pub lowered : List ℕ → List ℕ
lowered text = map to_ascii_lowercase text

-- the length of the longest of these texts and of this many bytes
abbrev pub longest_from : ℕ → List (List ℕ) → ℕ
longest_from long [] = long
longest_from long (text ∷ texts) = longest_from (max long (length text)) texts
