-- What is wanted, as it is counted in memory.
use Rattle.std.specs.Prelude.{⊤, ◌≡◌, ℕ, ◌+◌, ◌%◌, ◌^◌, ◌||◌, Bool, true, false, nat_lt, List, [], ◌∷◌, Option, None, Some, Result}
use Rattle.f3_places.specs.declared.source.Place.{Place}
use Rattle.f3_arithmetic.specs.Turns.{turns_of}
use Rattle.f3_meaning_whole.specs.Value.{Span, Value, count, joined}
use Rattle.f3_meaning_whole.specs.Exec.{too_many}
use Rattle.f3_data.specs.Values.{value_of}
use Rattle.f3_code.specs.declared.instruction.Instruction.{Instruction}
use Rattle.f3_cells.specs.declared.cell.Passed.TheVariants as passed
use Rattle.f3_cells.specs.declared.cell.Cell as c
use Rattle.f3_cells.specs.declared.cell.Cell.TheVariants as cell
use Rattle.f3_cells.specs.declared.scene.Scene.{Scene}
use Rattle.f3_cells.specs.declared.state.State.{State}
use Rattle.f3_cells.specs.declared.state.Stop.{Stop}
use Rattle.f3_cells.specs.Follows.{Follows}
use Rattle.f3_cells.specs.States.{state_of, code_of}
use Rattle.f3_code.specs.State.{Entry}
use Rattle.f3_code.specs.Account.{all_objects, block, level_words, words}
use Rattle.f3_code.specs.Wants.{copies, wants}
use Rattle.f3_requests.specs.Requests.{refused}

-- words modulo 2 ^ 64, where some are wanted
abbrev pub counted : Option ℕ → Option ℕ
counted None = None
counted (Some n) = Some (n % 2 ^ 64)

-- the values among arguments
abbrev pub held_words : List c.Cell → ℕ
held_words [] = 0
held_words (cell.Argument (passed.Given k v) ∷ cs) = words (value_of v) + held_words cs
held_words (x ∷ cs) = held_words cs

-- the dimensions of an ALLOCATE among cells, of which the last one is on top
abbrev pub extents : List c.Cell → List Span
extents [] = []
extents (cell.Extent lower turns ∷ cs) = record { lower = lower; extent = turns_of turns } ∷ extents cs
extents (x ∷ cs) = extents cs

-- an ALLOCATE makes no array of these bounds (own rule for 6.3.1)
abbrev pub too_large : List Span → Bool
too_large ss = too_many ss || nat_lt 16777216 (count ss)

-- a procedure wants a block for values of so many words that are held for it, and one for its variables
abbrev pub called_with : Option Entry → ℕ → Option ℕ
called_with None n = None
called_with (Some e) n = Some (block n + block (level_words e.initial))

-- an array has these elements
abbrev pub HasElements : Value → List Value → Type 0
HasElements x vs = (n : ℕ) → copies n x ≡ all_objects (joined vs)

-- so many elements, or there are too many
abbrev pub Sized : List Span → Option ℕ → Type 0
Sized ss None = too_large ss ≡ true
Sized ss (Some n) = (too_large ss ≡ false) × (n ≡ count ss)

-- what an instruction with a value wants in a state
abbrev pub wanted : Scene → Instruction → Value → State → Option ℕ
wanted x i v t = wants 1000 (code_of x) i v (state_of x.program.now t)

-- An instruction whose request is refused was done at a place.
abbrev pub DoesRefused : Scene → Instruction → Value → Place → Result ⊤ Stop → State → State → Type 0
DoesRefused x i v place result old new = Follows (code_of x) (refused x i v place old) result (state_of x.program.now new) place

-- An instruction that wants something was done so where its request is refused, in whatever program, with whatever value and at whatever place.
abbrev pub Refused : Instruction → Result ⊤ Stop → State → State → Type 0
Refused i result old new = (x : Scene) (v : Value) (place : Place) (n : ℕ) → wanted x i v old ≡ Some n → DoesRefused x i v place result old new
