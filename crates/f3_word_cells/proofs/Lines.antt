-- What a line does where the heap answers.
use Rattle.std.proofs.Common.{◌≡◌, ◌∙◌, inl, ℕ, ◌+◌, ◌≤◌, Bool, true, false, List, [], ◌∷◌, length, refl, sym, ap, arith}
use Rattle.std.specs.Prelude.{⊤, Result, Ok, Err, if◌then◌else◌}
use Rattle.std.proofs.lemmas.Option.{slice_get_past}
use Rattle.f3_places.specs.declared.source.Place.{Place}
use Rattle.f3_program.specs.declared.program.Program.{Program}
use Rattle.f3_live_blocks.specs.Blocks.{Live}
use Rattle.f3_meaning_whole.specs.Value.{Value}
use Rattle.f3_meaning_whole.specs.Store.{Store}
use Rattle.f3_meaning_whole.specs.declared.run_error.RunError.{RunError}
use Rattle.f3_meaning_whole.specs.declared.run_error.RunError.TheVariants.{HeapHasNoRoom}
use Rattle.f3_meaning_whole.specs.Reference.{Read}
use Rattle.f3_meaning_whole.specs.Ran.{Event, Change, Changed, World, Ran, gives, fails, looks, does, asks, replayed, ◌>>=◌}
use Rattle.f3_meaning_whole.specs.Act.{Here, claim, claim_for, needs_storage}
use Rattle.f3_meaning_whole.specs.Run.{output}
use Rattle.f3_code.specs.declared.instruction.Instruction.{Instruction}
use Rattle.f3_code.specs.State.{Line, placed, Next, Goes, Stays, Halt, Failed}
use Rattle.f3_code.specs.State as s
use Rattle.f3_code.specs.Machine.{act, performs}
use Rattle.f3_code.specs.Heap.{with_answers}
use Rattle.f3_cells.specs.States.{setting}
use Rattle.f3_cell_kinds.specs.Types.{CellType}
use Rattle.f3_rooms.specs.Rooms.{Rooms}
use Rattle.f3_word_cells.specs.declared.state.State.{State}
use Rattle.f3_word_cells.specs.declared.state.Stop.{Stop}
use Rattle.f3_word_cells.specs.declared.state.Stop.TheVariants as stop
use Rattle.f3_word_cells.specs.Scenes.{code_of}
use Rattle.f3_word_cells.specs.Moves.{WentAhead}
use Rattle.f3_word_cells.specs.States.{Stands}
use Rattle.f3_word_cells.specs.Does.{AreGranted, Becomes, GoesOn, IsForbidden, IsLost, RefusedAt, StopsSo, stream}
use Rattle.f3_word_cells.proofs.Amid.{Amid, amid_last, amid_moved}
use Rattle.f3_word_cells.proofs.Moving.{moved_to}
use Rattle.f3_word_cells.proofs.Orderly.{IsAfter}

-- ---- an instruction with these cells

-- a state with these cells
abbrev pub with_stack : List s.Cell → s.State → s.State
with_stack stack t = record { pc = t.pc; stack = stack; here = t.here; frames = t.frames; world = t.world }

-- what an instruction does with these cells, where the heap gives these answers and then others
abbrev pub does_so : Program → Line → s.State → Instruction → List s.Cell → List Bool → (ℕ → Bool) → Next
does_so p l t x stack given rest =
    act 1000 (setting p) (code_of p) x l.value (placed l.place t.here) (with_answers (stream given rest) (with_stack stack t))

line_is : (p : Program) (l : Line) (t : s.State) (x : Instruction) (stack : List s.Cell) (given : List Bool) (rest : ℕ → Bool) → l.act ≡ x → t.stack ≡ stack
    → act 1000 (setting p) (code_of p) l.act l.value (placed l.place t.here) (with_answers (stream given rest) t) ≡ does_so p l t x stack given rest
line_is p l t x stack given rest e f =
    ap (λ (y : Instruction). act 1000 (setting p) (code_of p) y l.value (placed l.place t.here) (with_answers (stream given rest) t)) e
    ∙ ap (λ (bs : List s.Cell). does_so p l t x bs given rest) f

-- the line leads there
pub line_goes : (p : Program) (l : Line) (t : s.State) (x : Instruction) (stack : List s.Cell) (u : s.State) (given : List Bool)
    → AreGranted given → (out : List Event) → l.act ≡ x → t.stack ≡ stack → ((rest : ℕ → Bool) → does_so p l t x stack given rest ≡ Goes out (with_answers rest u))
    → GoesOn p l t u (output out)
line_goes p l t x stack u given granted out e f h =
    record { out = out; given = given; granted = granted; printed = refl; goes = λ rest. line_is p l t x stack given rest e f ∙ h rest }

-- the machine stops there, and prints nothing
pub line_stops : (p : Program) (l : Line) (t : s.State) (x : Instruction) (stack : List s.Cell) (halt : Halt) (given : List Bool)
    → AreGranted given → l.act ≡ x → t.stack ≡ stack → ((rest : ℕ → Bool) → does_so p l t x stack given rest ≡ Stays [] halt) → StopsSo p l t halt []
line_stops p l t x stack halt given granted e f h =
    record { out = []; given = given; granted = granted; printed = refl; stops = λ rest. line_is p l t x stack given rest e f ∙ h rest }

-- its first request is refused
pub line_refused : (p : Program) (l : Line) (t : s.State) (x : Instruction) (stack : List s.Cell) → l.act ≡ x → t.stack ≡ stack
    → ((rest : ℕ → Bool) → does_so p l t x stack (true ∷ []) rest ≡ Stays [] (Failed HeapHasNoRoom (placed l.place t.here).place)) → RefusedAt p l t
line_refused p l t x stack e f h = record { stops = λ rest. line_is p l t x stack (true ∷ []) rest e f ∙ h rest }

-- ---- parts of runs

-- a store and the answers of a heap
abbrev pub answering : Store → (ℕ → Bool) → World
answering store answers = record { store = store; answers = answers }

pub performs_gives : {A : Type 0} (x : A) (w : World) (f : A → World → s.State) → performs (gives x) w f ≡ Goes [] (f x w)
unfolding gives
performs_gives x w f = refl

pub performs_fails : {A : Type 0} (error : RunError) (place : Place) (w : World) (f : A → World → s.State)
    → performs (fails error place) w f ≡ Stays [] (Failed error place)
unfolding fails
performs_fails error place w f = refl

pub performs_looks : {A : Type 0} (g : Store → A) (w : World) (f : A → World → s.State) → performs (looks g) w f ≡ Goes [] (f (g w.store) w)
unfolding looks
performs_looks g w f = refl

pub performs_does : (g : Store → List Event) (w : World) (f : ⊤ → World → s.State)
    → performs (does g) w f ≡ Goes (g w.store) (f tt (answering (replayed (g w.store) w.store) w.answers))
unfolding does
performs_does g w f = refl

-- first this, and then another
pub first_gives : {A B : Type 0} (x : A) (g : A → Ran B) (w : World) (f : B → World → s.State) → performs (gives x >>= g) w f ≡ performs (g x) w f
unfolding gives ◌>>=◌
first_gives x g w f = refl

pub first_fails : {A B : Type 0} (error : RunError) (place : Place) (g : A → Ran B) (w : World) (f : B → World → s.State)
    → performs (fails error place >>= g) w f ≡ Stays [] (Failed error place)
unfolding fails ◌>>=◌
first_fails error place g w f = refl

pub first_looks : {A B : Type 0} (h : Store → A) (g : A → Ran B) (w : World) (f : B → World → s.State)
    → performs (looks h >>= g) w f ≡ performs (g (h w.store)) w f
unfolding looks ◌>>=◌
first_looks h g w f = refl

-- ---- storage is claimed

module _ (here : Here) (store : Store) (bs : List Bool) (rest : ℕ → Bool) where
  pub claim_granted : (f : ⊤ → World → s.State)
      → performs (claim here) (answering store (stream (false ∷ bs) rest)) f ≡ Goes [] (f tt (answering store (stream bs rest)))
  unfolding asks gives ◌>>=◌
  claim_granted f = refl

  pub claim_refused : (f : ⊤ → World → s.State)
      → performs (claim here) (answering store (stream (true ∷ bs) rest)) f ≡ Stays [] (Failed HeapHasNoRoom here.place)
  unfolding asks fails ◌>>=◌
  claim_refused f = refl

  pub first_granted : {B : Type 0} (g : ⊤ → Ran B) (f : B → World → s.State)
      → performs (claim here >>= g) (answering store (stream (false ∷ bs) rest)) f ≡ performs (g tt) (answering store (stream bs rest)) f
  unfolding asks gives ◌>>=◌
  first_granted g f = refl

  pub first_refused : {B : Type 0} (g : ⊤ → Ran B) (f : B → World → s.State)
      → performs (claim here >>= g) (answering store (stream (true ∷ bs) rest)) f ≡ Stays [] (Failed HeapHasNoRoom here.place)
  unfolding asks fails ◌>>=◌
  first_refused g f = refl

-- for a value of array or derived type, and for a scalar none
abbrev claims : Bool → Here → Ran ⊤
claims b here = if b then claim here else gives tt

pub claim_for_block : (v : Value) (here : Here) → needs_storage v ≡ true → claim_for v here ≡ claim here
claim_for_block v here e = ap (λ b. claims b here) e

pub claim_for_scalar : (v : Value) (here : Here) → needs_storage v ≡ false → claim_for v here ≡ gives tt
claim_for_scalar v here e = ap (λ b. claims b here) e

-- ---- jumps

pub lost_ahead : (p : Program) (l : Line) (t to : s.State) → GoesOn p l t to [] → length (code_of p).lines ≤ to.pc → IsLost p l t
lost_ahead p l t to goes past = record { to = to; goes = goes; nowhere = slice_get_past (code_of p).lines to.pc past }

-- so far on from the next line, where the cells are these
pub becomes_ahead : (p : Program) (m n : Live) (old mid new : State) (x : Rooms) (ks : List CellType) (t : s.State) (l : Line) (stack : List s.Cell)
    (d total : ℕ) (result : Result ⊤ Stop) → Stands p m old x t → Amid p t n old mid x ks stack t.world.store [] → mid.pc ≡ old.pc
    → IsAfter p t.pc (t.pc + 1 + d) ks → length (code_of p).lines ≡ total → WentAhead d total result mid new → GoesOn p l t (moved_to t (t.pc + 1 + d) stack t.here t.world) []
    → Becomes p l t result n new
becomes_ahead p m n old mid new x ks t l stack d total (Ok done) st amid line kinds size went goes =
    let far : t.pc ≡ mid.pc = st.pc ∙ sym line in
    let there : Amid p t n old new x ks stack t.world.store [] =
    amid_moved p t n old mid new x ks stack t.world.store [] (mid.pc + 1 + d) amid (record { is = went.0 }) in
    let at : t.pc + 1 + d ≡ new.pc = ap (λ k. k + 1 + d) far ∙ sym (ap (λ (w : State). w.pc) went.0) in
    record {
      next = moved_to t (t.pc + 1 + d) stack t.here t.world;
      rooms = x;
      goes = goes;
      stands = amid_last p t m n old new x ks (t.pc + 1 + d) stack t.world st there kinds at;
    }
becomes_ahead p m n old mid new x ks t l stack d total (Err stop.Lost) st amid line kinds size went goes =
    let far : t.pc ≡ mid.pc = st.pc ∙ sym line in
    inl (lost_ahead p l t (moved_to t (t.pc + 1 + d) stack t.here t.world) goes (let past = went.1 in omega arith))
becomes_ahead p m n old mid new x ks t l stack d total (Err stop.Done) st amid line kinds size went goes = absurd went
becomes_ahead p m n old mid new x ks t l stack d total (Err (stop.Stopped number)) st amid line kinds size went goes = absurd went
becomes_ahead p m n old mid new x ks t l stack d total (Err (stop.Failed error)) st amid line kinds size went goes = absurd went
becomes_ahead p m n old mid new x ks t l stack d total (Err stop.Forbidden) st amid line kinds size went goes = absurd went
becomes_ahead p m n old mid new x ks t l stack d total (Err stop.Refused) st amid line kinds size went goes = absurd went
becomes_ahead p m n old mid new x ks t l stack d total (Err stop.Memory) st amid line kinds size went goes = absurd went

-- the line would change what may only be read
pub line_forbids : (p : Program) (l : Line) (t : s.State) (x : Instruction) (stack : List s.Cell) (u : s.State) (given : List Bool) (c : Change) (vs : List Value)
    → (c.reference).right ≡ Read → l.act ≡ x → t.stack ≡ stack
    → ((rest : ℕ → Bool) → does_so p l t x stack given rest ≡ Goes (Changed c vs ∷ []) (with_answers rest u)) → IsForbidden p l t
line_forbids p l t x stack u given c vs right e f h =
    record { change = c; right = right; values = vs; next = u; given = given; changes = λ rest. line_is p l t x stack given rest e f ∙ h rest }
