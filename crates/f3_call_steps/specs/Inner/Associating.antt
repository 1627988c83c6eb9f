-- What it is to begin an ASSOCIATE.
use Rattle.std.specs.Prelude.{⊤, ◌≡◌, ℕ, ◌+◌, List, ◌∷◌, length, map, Result}
use Rattle.f3_places.specs.declared.source.Place.{Place}
use Rattle.f3_program.specs.declared.program.Program.{Program}
use Rattle.f3_meaning_whole.specs.Reference.{Reference}
use Rattle.f3_meaning_whole.specs.Ran.{World, Entered, effect}
use Rattle.f3_meaning_whole.specs.Act.{associating, leave}
use Rattle.f3_meaning_whole.specs.Exec.{associates, held_by}
use Rattle.f3_code.specs.State.{Outside, Level, Going, Code}
use Rattle.f3_code.specs.Machine.{on, performs}
use Rattle.f3_code.specs.State as s
use Rattle.f3_data.specs.Stores.{store_of}
use Rattle.f3_cells.specs.declared.cell.Association.{Association}
use Rattle.f3_cells.specs.declared.cell.Flow.{Flow}
use Rattle.f3_cells.specs.declared.cell.Here.{Here}
use Rattle.f3_cells.specs.declared.state.Stop.{Stop}
use Rattle.f3_data.specs.declared.reference.Reference as d
use Rattle.f3_data.specs.References.{references_of}
use Rattle.f3_cells.specs.declared.state.State.{State}
use Rattle.f3_cells.specs.Cells.{here_of, cells_of, association_of, flow_of}
use Rattle.f3_cells.specs.Follows.{Follows}
use Rattle.f3_cells.specs.States.{state_of, world_of, granted}

-- on within an ASSOCIATE, whose names mean these objects; a level has begun
abbrev pub within : s.State → ℕ → List Reference → World → s.State
within t level rs world = record {
  pc = t.pc + 1;
  stack = Outside t.here ∷ Level level rs ∷ t.stack;
  here = associating rs t.here;
  frames = t.frames;
  world = world;
}

-- an ASSOCIATE with these selectors begins
abbrev pub Associates : List Association → State → State → Type 0
Associates found old new = (p : Program) → state_of p new
    ≡ within (state_of p old) (length (store_of old.store).levels) (associates (map association_of found) (length (store_of old.store).levels) 0 old.here.unit)
    (record { store = effect (Entered (held_by (map association_of found))) (store_of old.store); answers = granted })

-- on in this activation, and what was around the ASSOCIATE is kept
abbrev pub Within : Here → ℕ → List d.Reference → State → State → Type 0
Within inner level objects old new = (p : Program) → state_of p new ≡ record {
  pc = old.pc + 1;
  stack = Outside (here_of p old.here) ∷ Level level (references_of objects) ∷ cells_of p old.stack.items;
  here = here_of p inner;
  frames = (state_of p old).frames;
  world = world_of old.store;
}

-- a level and all behind it end, and how the construct was left is on top, in whatever program
abbrev pub LeftWith : ℕ → Flow → Result ⊤ Stop → State → State → Type 0
LeftWith level flow result old new = (p : Program) (code : Code) (place : Place) → Follows code
    (performs (leave level) (world_of old.store) (λ done. on (state_of p old) (Going (flow_of flow) ∷ cells_of p old.stack.items)))
    result (state_of p new) place
