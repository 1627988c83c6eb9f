-- Breaks that depend on the units before.
use Rattle.std.specs.Prelude.{List, [], ◌∷◌, ◌++◌, Bool, true, false, ◌||◌, ◌&&◌, ℕ, nat_eq, if◌then◌else◌}
use Rattle.std.specs.List.{list_any}
use Rattle.indexmap.specs.IndexSet.{insert_key}
use Rattle.f3_rules.specs.declared.breaks.Break.{Break}
use Rattle.f3_rules.specs.declared.rule.Rule.TheVariants.{U1, U4}
use Rattle.f3_graph.specs.Units.{Node}
use Rattle.f3_tree.specs.declared.program.UnitKind.{UnitKind}
use Rattle.f3_tree.specs.declared.program.UnitKind.TheVariants.{Module, Program as MainProgram}
use Rattle.f3_graph.specs.Breaks.{at}

-- the rows of the units in turn, each after what the units before it leave
abbrev pub pass : {S : Type 0} → (S → Node → List Break) → (S → Node → S) → S → List Node → List Break
pass row next s [] = []
pass row next s (unit ∷ units) = row s unit ++ pass row next (next s unit) units

abbrev pub name_row : List ℕ → Node → List Break
name_row seen unit = if list_any (nat_eq unit.name.symbol) seen then at U1 unit.name ∷ [] else []

abbrev pub name_next : List ℕ → Node → List ℕ
name_next seen unit = insert_key nat_eq seen unit.name.symbol

abbrev pub is_main : UnitKind → Bool
is_main Module = false
is_main MainProgram = true

abbrev pub main_row : Bool → Node → List Break
main_row had unit = if had && is_main unit.kind then at U4 unit.name ∷ [] else []

abbrev pub main_next : Bool → Node → Bool
main_next had unit = had || is_main unit.kind
