-- What instructions take of a heap is what they want of it.
use Rattle.std.specs.Prelude.{◌≡◌, ℕ, ◌+◌, List, [], ◌∷◌, drop, Some}
use Rattle.f3_meaning_whole.specs.Value.{Value, Unallocated, Allocated}
use Rattle.f3_meaning_whole.specs.Store.{Store, get, put}
use Rattle.f3_meaning_whole.specs.Reference.{Reference, paths}
use Rattle.f3_meaning_whole.specs.Ran.{Event, Ended, effect}
use Rattle.f3_meaning_whole.specs.Act.{Setting, Here}
use Rattle.f3_code.specs.declared.instruction.Instruction.{Instruction}
use Rattle.f3_code.specs.declared.instruction.Instruction.TheVariants as i
use Rattle.f3_code.specs.State.{Code, Cell, Datum, Object, State, Goes}
use Rattle.f3_code.specs.Machine.{act}
use Rattle.f3_code.specs.Account.{block, words, objects, levels_words, used}
use Rattle.f3_code.specs.Wants.{wants}
use Rattle.f3_code.specs.Heap.{granted, with_answers}

-- a reference means one object, and a store has it: what is put there is got there
pub record IsPlace (store : Store) (r : Reference) : Type 0 where
  pub one : paths r ≡ r.path ∷ []
  pub written : (x : Value) → get (put store r.path x) r.path ≡ x

-- Where an instruction wants so many words, and goes on once they are granted, so many words more are used then.
abbrev pub TakesWhatItWants : Instruction → Value → State → Type 0
TakesWhatItWants x v s = (limit : ℕ) (g : Setting) (code : Code) (here : Here) (w : ℕ) (out : List Event) (t : State) → wants limit code x v s ≡ Some w
    → act limit g code x v here (with_answers granted s) ≡ Goes out t → used t.world.store ≡ used s.world.store + w

-- a call
abbrev pub CallsTakeWhatTheyWant : Type 0
CallsTakeWhatTheyWant = (f k : ℕ) (v : Value) (s : State) → TakesWhatItWants (i.Call f k) v s

-- an ALLOCATE, where its object, beneath the dimensions, is one that is there and unallocated
abbrev pub ObjectsTakeWhatTheyWant : Type 0
ObjectsTakeWhatTheyWant = (rank k : ℕ) (v : Value) (s : State) (r : Reference) (rest : List Cell) → drop k s.stack ≡ Object r ∷ rest
    → IsPlace s.world.store r → get s.world.store r.path ≡ Unallocated → TakesWhatItWants (i.Allocate rank k) v s

-- A new object for an assignment to an object that is one, is there and unallocated: what is wanted for the objects beneath the
-- value is used only once the value is copied.
abbrev pub AssignmentsTakeWhatTheyWant : Type 0
AssignmentsTakeWhatTheyWant = (limit : ℕ) (g : Setting) (code : Code) (rank : ℕ) (v : Value) (here : Here) (s : State) (r : Reference) (x : Value)
    (rest : List Cell) (w : ℕ) (out : List Event) (t : State) → s.stack ≡ Object r ∷ Datum x ∷ rest
    → IsPlace s.world.store r → get s.world.store r.path ≡ Unallocated → wants limit code (i.New rank) v s ≡ Some w
    → act limit g code (i.New rank) v here (with_answers granted s) ≡ Goes out t → used t.world.store + objects x ≡ used s.world.store + w

-- An allocated object that is freed gives its block back, with all that is beneath.
abbrev pub ObjectsAreGivenBack : Type 0
ObjectsAreGivenBack = (limit : ℕ) (g : Setting) (code : Code) (v : Value) (here : Here) (s : State) (r : Reference) (x : Value) (rest : List Cell)
    (out : List Event) (t : State) → s.stack ≡ Object r ∷ rest → IsPlace s.world.store r → get s.world.store r.path ≡ Allocated x
    → act limit g code i.Free v here s ≡ Goes out t → used t.world.store + block (words x) ≡ used s.world.store

-- Where a level and all behind it end, they give their blocks back.
abbrev pub LevelsAreGivenBack : Type 0
LevelsAreGivenBack = (level : ℕ) (store : Store) → used (effect (Ended level) store) + levels_words (drop level store.levels) ≡ used store
