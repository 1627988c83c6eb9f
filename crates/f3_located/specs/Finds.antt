-- What it is to find what the meaning finds.
use Rattle.std.specs.Prelude.{◌≡◌, ℕ, Bool, []}
use Rattle.f3_places.specs.declared.source.Place.{Place}
use Rattle.f3_meaning_whole.specs.declared.run_error.RunError.{RunError}
use Rattle.f3_meaning_whole.specs.Ran.{World, Gives, Fails, Ran}
use Rattle.f3_data.specs.declared.store.Store.{Store}
use Rattle.f3_data.specs.Stores.{store_of}

abbrev pub world : Store → (ℕ → Bool) → World
world store answers = record { store = store_of store; answers = answers }

-- a part of a run gives this, and nothing happens, whatever the heap will answer
abbrev pub Finds : {A : Type 0} → Ran A → Store → A → Type 0
Finds m store x = (answers : ℕ → Bool) → m.from (world store answers) ≡ record { out = []; end = Gives x (world store answers) }

-- a part of a run fails with this error at this place, and nothing happens
abbrev pub FailsBy : {A : Type 0} → Ran A → Store → RunError → Place → Type 0
FailsBy m store error place = (answers : ℕ → Bool) → m.from (world store answers) ≡ record { out = []; end = Fails error place }
