-- The line of a refusal (own rule).
use Rattle.std.specs.Prelude.{ℕ, ◌-◌, ◌==◌, List, [], ◌∷◌, ◌++◌, Option, None, Some, codes, decimal, if◌then◌else◌, slice_get, string_bytes}
use Rattle.f3_places.specs.declared.source.Source.{Source}
use Rattle.f3_rules.specs.declared.refusal.Refusal.{Refusal}
use Rattle.f3_rules.specs.Rule.{identifier, words}

abbrev pub name_of : Option Source → List ℕ
name_of None = []
name_of (Some source) = string_bytes source.name

-- the name of a source by its number, from 1; empty where there is no such source
abbrev pub file_name : List Source → ℕ → List ℕ
file_name sources file = if file == 0 then [] else name_of (slice_get sources (file - 1))

-- a name behind a colon, where there is one
abbrev pub named : List ℕ → List ℕ
named [] = []
named (b ∷ bs) = codes ": " ++ (b ∷ bs)

-- file:line:column: identifier words, and : name where there is a name
unfoldable pub line_of : List Source → Refusal → List ℕ
line_of sources refusal =
    file_name sources refusal.place.file
    ++ codes ":" ++ decimal refusal.place.line
    ++ codes ":" ++ decimal refusal.place.column
    ++ codes ": " ++ identifier refusal.rule
    ++ codes " " ++ words refusal.rule
    ++ named (string_bytes refusal.name)
