-- What holds of programs that break no rule on names, and of their tables.
use Rattle.std.specs.Prelude.{◌≡◌, ℕ, ◌<◌, List, length}
use Rattle.f3_rules.specs.declared.breaks.Break.{Break}
use Rattle.f3_tree.specs.Tree.{Tree}
use Rattle.f3_scopes.specs.Outlines.{Scope}
use Rattle.f3_lookups.specs.declared.lookup.Lookup.TheVariants.{One}
use Rattle.f3_access.specs.declared.table.Tables.{Tables}
use Rattle.f3_access.specs.Access.{entities_of}
use Rattle.f3_access.specs.Tables.{lookup_of, AreTables}
use Rattle.f3_names.specs.Answers.{BreaksOfNames}
use Rattle.f3_natures.specs.Natures.{HasDistinctParts}

-- a program that breaks no rule on names has distinct parts (16.2, 16.3, 4.5.3)
abbrev pub PartsAreDistinct : Type 0
PartsAreDistinct = (t : Tree) → ((b : Break) → BreaksOfNames t b → ⊥) → HasDistinctParts t

-- what is found alone under a name is one of the entities
abbrev pub LookedUpIsEntity : Type 0
LookedUpIsEntity = (scopes : List Scope) (tables : Tables) (scope symbol entity : ℕ) → AreTables scopes tables
    → lookup_of tables scope symbol ≡ One entity → entity < length (entities_of scopes)
