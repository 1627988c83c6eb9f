-- The lines of a table of names by what the tables of a program hold.
use Rattle.std.specs.Prelude.{ℕ, ◌+◌, List, [], ◌∷◌, ◌++◌, Bool, true, false, Option, None, Some, codes, map, slice_get, string_bytes}
use Rattle.std.specs.List.{flat_map}
use Rattle.f3_tree.specs.declared.program.UnitKind.{UnitKind}
use Rattle.f3_tree.specs.declared.program.UnitKind.TheVariants as unit
use Rattle.f3_tree.specs.Tree.{UnitTree}
use Rattle.f3_scopes.specs.Scopes.{unit_kind}
use Rattle.f3_lookups.specs.declared.lookup.Visible.{Visible}
use Rattle.f3_access.specs.Tables.{own_of, private_of}
use Rattle.f3_name_rules.specs.NameBreaks.{text_of}
use Rattle.f3_names.specs.declared.table.Names.{Names}
use Rattle.f3_name_table.specs.NameTable.{unit_word, entity_text}

abbrev pub texts_of : Names → List (List ℕ)
texts_of names = map string_bytes names.texts.keys

abbrev pub access_word : UnitKind → Bool → List ℕ
access_word unit.Module true = codes " private"
access_word unit.Module false = codes " public"
access_word unit.Program private = []

-- the line of a name that is visible in the scope of this number, in a unit of this kind
abbrev pub line_by : Names → ℕ → UnitKind → Visible → List ℕ
line_by names number kind v =
    codes "  " ++ (text_of (texts_of names) v.symbol ++ (codes " "
    ++ (entity_text (texts_of names) (slice_get names.entities.items v.entity) ++ (access_word kind (private_of names.tables number v.symbol) ++ codes "\n"))))

-- the line of a unit itself
abbrev pub head_by : Names → UnitTree → List ℕ
head_by names u = unit_word (unit_kind u.kind) ++ (codes " " ++ (text_of (texts_of names) u.name.symbol ++ codes "\n"))

-- the lines of a unit, where its number among the scopes is this
abbrev pub unit_by : Names → Option ℕ → UnitTree → List ℕ
unit_by names None u = []
unit_by names (Some number) u = head_by names u ++ flat_map (line_by names number u.kind) (own_of names.tables number)

-- the lines of units, where the first is the unit of this number
abbrev pub units_by : Names → ℕ → List UnitTree → List ℕ
units_by names number [] = []
units_by names number (u ∷ us) = unit_by names (slice_get names.units.items number) u ++ units_by names (number + 1) us
