-- What structure constructors make of arguments.
use Rattle.std.specs.Prelude.{◌≡◌, ℕ, List, Result}
use Rattle.f3_program.specs.declared.declarations.Declared.{Declared}
use Rattle.f3_program.specs.declared.declarations.Derived.{Derived}
use Rattle.f3_meaning_whole.specs.Value as m
use Rattle.f3_meaning_whole.specs.Store.{Store}
use Rattle.f3_meaning_whole.specs.declared.run_error.RunError.{RunError}
use Rattle.f3_meaning_whole.specs.Ran.{World, ◌>>=◌}
use Rattle.f3_meaning_whole.specs.Shape.{Parts, shape_in, shapes_of, initial_of, initial_declared}
use Rattle.f3_meaning_whole.specs.Act.{Here, Passed, Given, Lent, passed_at, fitted_argument, structure}
use Rattle.f3_meaning_whole.specs.Eval.{built}
use Rattle.f3_code.specs.State.{State}
use Rattle.f3_code.specs.Machine.{performs}
use Rattle.f3_data.specs.declared.value.Value.{Value}
use Rattle.f3_shaping.specs.Results.{value_ran}
use Rattle.f3_cells.specs.States.{granted}

-- a world with this store, whose heap grants each request
abbrev pub world_with : Store → World
world_with store = record { store = store; answers = granted }

-- the number of an argument
abbrev pub number_in : Passed → ℕ
number_in (Given k v) = k
number_in (Lent k r) = k

-- a component that is declared so takes this of the argument with its number, among these types
abbrev pub Takes : List Derived → Declared → List Passed → ℕ → Store → Result Value RunError → Type 0
Takes types d ps k store r = (here : Here)
    → (fitted_argument d (initial_declared d (initial_of (shape_in (shapes_of types) d.kind.of))) (passed_at k ps) here).from (world_with store)
    ≡ (value_ran r here.place).from (world_with store)

-- a structure constructor with these components makes this of the arguments
abbrev pub Builds : Parts → List Passed → Store → Result Value RunError → Type 0
Builds parts ps store r = (here : Here) (f : m.Value → World → State)
    → performs (structure parts 0 ps here >>= λ vs. built (m.Composite vs) here) (world_with store) f ≡ performs (value_ran r here.place) (world_with store) f
