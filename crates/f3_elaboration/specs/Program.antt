-- The elaborated program of a tree.
use Rattle.std.specs.Prelude.{ℕ, Bool, true, false, List, [], Option, None, map, filter, slice_get}
use Rattle.std.specs.List.{flat_map}
use Rattle.f3_lookups.specs.declared.lookup.Lookup.{Lookup}
use Rattle.f3_places.specs.declared.source.Place.{Place}
use Rattle.f3_scopes.specs.Scopes.{scopes_of}
use Rattle.f3_tree.specs.declared.program.UnitKind.{UnitKind}
use Rattle.f3_tree.specs.declared.program.UnitKind.TheVariants as unit
use Rattle.f3_tree.specs.Tree.{Tree}
use Rattle.f3_kinds.specs.Things.{map_or}
use Rattle.f3_type_rules.specs.Declarations.{unit_next}
use Rattle.f3_type_rules.specs.Members.{Numbered, units_from}
use Rattle.f3_type_rules.specs.Program.{nothing_known, units_in}
use Rattle.f3_type_rules.specs.Scene.{names_of, Scene, scene_of}
use Rattle.f3_type_rules.specs.Walks.{after}
use Rattle.f3_elaboration.specs.Nodes.{block, no_statements, ProcedureNode, ProgramNode}
use Rattle.f3_elaboration.specs.Numbers.{numbers_of, unit_statics, definitions}
use Rattle.f3_elaboration.specs.Declarations.{Whole, static, derived}
use Rattle.f3_elaboration.specs.Units.{procedure, main}

abbrev pub is_main : UnitKind → Bool
is_main unit.Module = false
is_main unit.Program = true

-- the main program (11.1)
abbrev pub main_unit : List Numbered → Option Numbered
main_unit units = slice_get (filter (λ (u : Numbered). is_main (u.tree).kind) units) 0

-- of a tree without a main program
abbrev pub nothing_done : Place → ProcedureNode
nothing_done p = record { unit = 0; dummies = []; locals = []; result = None; body = block no_statements; end = p }

-- the units along an order in which used modules come first
abbrev pub whole_along : Scene → (texts : List (List ℕ)) → List Numbered → (ordered : List Numbered) → Whole
whole_along s texts units ordered = record {
  scene = s;
  values = (after (unit_next s) nothing_known ordered).values;
  numbers = numbers_of units ordered;
  texts = texts;
}

abbrev pub program_along : Whole → List Numbered → (ordered : List Numbered) → Place → ProgramNode
program_along w units ordered p = record {
  types = map (derived w) (flat_map definitions ordered);
  statics = map (static w) (flat_map unit_statics units);
  procedures = flat_map (λ (u : Numbered). map (procedure w u.scope) u.members) units;
  main = map_or (nothing_done p) (main w) (main_unit units);
  start = map_or p (λ (u : Numbered). (u.tree).place) (main_unit units);
}

abbrev pub elaborated_in : Tree → (look : ℕ → ℕ → Lookup) → List Numbered → (ordered : List Numbered) → ProgramNode
elaborated_in t look units ordered =
    program_along (whole_along (scene_of (names_of t look) (scopes_of t) units) t.texts units ordered) units ordered t.end

-- With the entities that a name has in each scope, and an order of the units in which used modules come first: it numbers the types.
abbrev pub elaborated : Tree → (look : ℕ → ℕ → Lookup) → (order : List ℕ) → ProgramNode
elaborated t look order = elaborated_in t look (units_from (scopes_of t) 0 t.units) (units_in (units_from (scopes_of t) 0 t.units) order)
