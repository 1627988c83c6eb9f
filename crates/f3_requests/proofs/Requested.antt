-- Instructions whose requests are refused.
use Rattle.std.proofs.Common.{◌≡◌, ℕ, zero, suc, Bool, true, false, List, [], ◌∷◌, ◌++◌, length, take, drop, map, nat_lt, inl, inr, refl, sym, ap, ◌∙◌, append_assoc, arith}
use Rattle.std.specs.Prelude.{⊤, ◌⊎◌, Option, None, Some, Result, Ok, Err, Vec, if◌then◌else◌, slice_get}
use Rattle.std.specs.declared.alloc.Global.{Global}
use Rattle.std.proofs.lemmas.List.{append-nil}
use Rattle.std.proofs.lemmas.Grind.{common_steps}
use Rattle.std.proofs.Math.Path.{fun_ext}
use Rattle.f3_places.specs.declared.source.Place.{Place}
use Rattle.f3_program.specs.declared.declarations.Base.{Base}
use Rattle.f3_program.specs.declared.program.Program.{Program}
use Rattle.f3_meaning_whole.specs.Value as m
use Rattle.f3_meaning_whole.specs.Store as t
use Rattle.f3_meaning_whole.specs.Reference.{Reference}
use Rattle.f3_meaning_whole.specs.declared.run_error.RunError.TheVariants.{HeapHasNoRoom, Overflow, CallsTooDeep}
use Rattle.f3_meaning_whole.specs.declared.run_error.RunError.{RunError}
use Rattle.f3_meaning_whole.specs.Ran.{Event, Asked, World, Ran, ◌>>=◌, gives, fails, looks, does, asks}
use Rattle.f3_meaning_whole.specs.Arithmetic.{converted, value_fits}
use Rattle.f3_meaning_whole.specs.Act as a
use Rattle.f3_meaning_whole.specs.Act.{Here, at, claim, claim_for, needs_storage, set}
use Rattle.f3_meaning_whole.specs.Exec.{Holds, vacant}
use Rattle.f3_meaning_whole.specs.Run.{output}
use Rattle.f3_code.specs.Exec.{allocate}
use Rattle.f3_code.specs.declared.instruction.Instruction.{Instruction}
use Rattle.f3_code.specs.declared.instruction.Instruction.TheVariants as i
use Rattle.f3_code.specs.State.{Entry, Next, Goes, Stays, Done, Failed}
use Rattle.f3_code.specs.State as s
use Rattle.f3_code.specs.Machine.{argument_of, extent_of, called_at, on, on_datum, on_many, on_object, performs, stuck}
use Rattle.f3_cells.specs.declared.cell.Cell.{Cell}
use Rattle.f3_cells.specs.declared.cell.Passed.{Passed}
use Rattle.f3_cells.specs.declared.scene.Scene.{Scene}
use Rattle.f3_cells.specs.declared.state.State.{State}
use Rattle.f3_cells.specs.declared.state.Stop.{Stop}
use Rattle.f3_cells.specs.declared.state.Stop.TheVariants as stop
use Rattle.f3_cells.specs.Cells.{cell_of, cells_of, here_of, passed_of}
use Rattle.f3_cells.specs.Follows.{StopsSo, Follows}
use Rattle.f3_cells.specs.Moves.{OnWith, WentOn}
use Rattle.f3_cells.specs.Popped.{PoppedMany, extent_in}
use Rattle.f3_cells.specs.States.{state_of, world_of, code_of, granted}
use Rattle.f3_code.specs.Wants.{allocated, assigned, called, dimensions, held, renewed}
use Rattle.f3_code.specs.Heap.{is_full, refused_once, with_answers}
use Rattle.f3_requests.specs.Requests.{Answered, refused, refuses}
use Rattle.f3_requests.specs.Inner.Counted.{DoesRefused, too_large, wanted}

-- a world that refuses the next request
abbrev pub refusing : t.Store → World
refusing store = record { store = store; answers = refused_once }

-- ---- requests

pub claim_fails : {A : Type 0} (here : Here) (store : t.Store) (f : ⊤ → Ran A) (k : A → World → s.State)
    → performs (claim here >>= f) (refusing store) k ≡ Stays [] (Failed HeapHasNoRoom here.place)
unfolding ◌>>=◌ asks fails gives
claim_fails here store f k = refl

pub claim_alone_fails : (here : Here) (store : t.Store) (k : ⊤ → World → s.State) → performs (claim here) (refusing store) k ≡ Stays [] (Failed HeapHasNoRoom here.place)
unfolding ◌>>=◌ asks fails gives
claim_alone_fails here store k = refl

claim_for_fails : (x : m.Value) (here : Here) (store : t.Store) (f : ⊤ → Ran ⊤) (k : ⊤ → World → s.State) → needs_storage x ≡ true
    → performs (claim_for x here >>= f) (refusing store) k ≡ Stays [] (Failed HeapHasNoRoom here.place)
claim_for_fails x here store f k h = rw h (claim_fails here store f k)

converted_then : (of : Base) (x : m.Value) (place : Place) (w : World) (f : m.Value → Ran ⊤) (k : ⊤ → World → s.State) → value_fits of x ≡ true
    → performs (converted of x place >>= f) w k ≡ performs (f x) w k
unfolding ◌>>=◌ converted gives
converted_then of x place w f k h = rw h refl

converted_fails : (of : Base) (x : m.Value) (place : Place) (w : World) (f : m.Value → Ran ⊤) (k : ⊤ → World → s.State) → value_fits of x ≡ false
    → performs (converted of x place >>= f) w k ≡ Stays [] (Failed Overflow place)
unfolding ◌>>=◌ converted fails
converted_fails of x place w f k h = rw h refl

-- ---- a call

called_fails : (b : Bool) (o : Option Entry) (cs : List s.Cell) (n : ℕ) (old : s.State) (stack : List s.Cell) (here : Here) (ps : List a.Passed) (other : Next)
    → (if b then called o cs else None) ≡ Some n
    → (if b then called_at o (with_answers refused_once old) stack here ps else other) ≡ Stays [] (Failed HeapHasNoRoom here.place)
called_fails false o cs n old stack here ps other h = absurd cc
called_fails true None cs n old stack here ps other h = absurd cc
called_fails true (Some e) cs n old stack here ps other h = claim_fails here old.world.store _ _

module _ (x : Scene) (f k : ℕ) (place : Place) (v : m.Value) (old : State) where
  -- what follows the arguments
  abbrev follows : List a.Passed → List s.Cell → Next
  follows ps stack = if nat_lt (length (state_of x.program.now old).frames) 1000
      then called_at (slice_get (code_of x).procedures f) (with_answers refused_once (state_of x.program.now old)) stack (at place (here_of x.program.now old.here)) ps
      else Stays [] (Failed CallsTooDeep place)

  pub no_arguments : (e : Stop) (to : s.State) (stack : List Cell) → PoppedMany passed_of argument_of k (Err e) old.stack.items stack
      → Follows (code_of x) (refused x (i.Call f k) v place old) (Err e) to place
  no_arguments stop.Stuck to stack none = ([], none x.program.now follows, refl)
  no_arguments stop.Memory to stack none = tt
  no_arguments stop.Done to stack none = absurd none
  no_arguments (stop.Stopped number) to stack none = absurd none
  no_arguments (stop.Failed error) to stack none = absurd none
  no_arguments stop.Lost to stack none = absurd none
  no_arguments stop.Refused to stack none = absurd none

  pub call_fails : (n : ℕ) (args : Vec Passed Global) (stack : List Cell) → wanted x (i.Call f k) v old ≡ Some n
      → PoppedMany passed_of argument_of k (Ok args) old.stack.items stack → StopsSo (refused x (i.Call f k) v place old) (Failed HeapHasNoRoom place)
  call_fails n args stack h popped = (
    [],
    popped x.program.now follows
        ∙ called_fails (nat_lt (length (state_of x.program.now old).frames) 1000) (slice_get (code_of x).procedures f) _ n (state_of x.program.now old)
        (cells_of x.program.now stack) (at place (here_of x.program.now old.here)) (map passed_of args.items) (Stays [] (Failed CallsTooDeep place)) h,
    refl,
  )

-- ---- an assignment

needs : (b : Bool) (k n : ℕ) → (if b then Some k else None) ≡ Some n → b ≡ true
needs true k n h = refl
needs false k n h = absurd cc

abbrev takes : Base → Here → s.State → List s.Cell → Next
takes of here old cs = on_object cs (λ r st. on_datum st (λ x st.
    performs (converted of x here.place >>= λ x. claim_for x here >>= λ done. set r x here) (refusing old.world.store)
    (λ done. on (with_answers refused_once old) st)))

pub take_fails : (of : Base) (x : m.Value) (here : Here) (old : s.State) (cs rest : List s.Cell) (n : ℕ) → assigned cs ≡ Some n → drop 1 cs ≡ s.Datum x ∷ rest
    → value_fits of x ≡ true → takes of here old cs ≡ Stays [] (Failed HeapHasNoRoom here.place)
take_fails of x here old (s.Object r ∷ s.Datum y ∷ cs) rest n h e fits =
    let same : y ≡ x = cc in
    converted_then of y here.place (refusing old.world.store) _ _ (ap (value_fits of) same ∙ fits)
    ∙ claim_for_fails y here old.world.store _ _ (needs (needs_storage y) _ n h)
take_fails of x here old cs rest n h e fits = absurd cc

pub take_overflows : (of : Base) (x : m.Value) (here : Here) (old : s.State) (cs rest : List s.Cell) (n : ℕ) → assigned cs ≡ Some n → drop 1 cs ≡ s.Datum x ∷ rest
    → value_fits of x ≡ false → takes of here old cs ≡ Stays [] (Failed Overflow here.place)
take_overflows of x here old (s.Object r ∷ s.Datum y ∷ cs) rest n h e fits =
    let same : y ≡ x = cc in
    converted_fails of y here.place (refusing old.world.store) _ _ (ap (value_fits of) same ∙ fits)
take_overflows of x here old cs rest n h e fits = absurd cc

pub take_stuck : (of : Base) (here : Here) (old : s.State) (cs : List s.Cell) (n : ℕ) → assigned cs ≡ Some n
    → ((f : m.Value → List s.Cell → Next) → on_datum (drop 1 cs) f ≡ stuck) → takes of here old cs ≡ stuck
take_stuck of here old (s.Object r ∷ s.Datum y ∷ cs) n h none = none (λ x st.
    performs (converted of x here.place >>= λ x. claim_for x here >>= λ done. set r x here) (refusing old.world.store)
    (λ done. on (with_answers refused_once old) st))
take_stuck of here old cs n h none = absurd cc

-- ---- a new object, and a value that is held

pub new_fails : (rank : ℕ) (v : m.Value) (here : Here) (old : s.State) (cs : List s.Cell) (n : ℕ) → renewed rank v cs ≡ Some n
    → on_object cs (λ r st. on_datum st (λ x st.
    performs (claim here >>= λ done. set r (m.Allocated (vacant rank (m.spans_of x) v)) here) (refusing old.world.store) (λ done. on (with_answers refused_once old) cs)))
    ≡ Stays [] (Failed HeapHasNoRoom here.place)
new_fails rank v here old (s.Object r ∷ s.Datum y ∷ cs) n h = claim_fails here old.world.store _ _
new_fails rank v here old cs n h = absurd cc

pub held_fails : (of : Base) (here : Here) (old : s.State) (cs : List s.Cell) (n : ℕ) → held cs ≡ Some n
    → on_datum cs (λ x st. performs (claim_for x here) (refusing old.world.store) (λ done. on (with_answers refused_once old) (s.Selector (Holds of x) ∷ st)))
    ≡ Stays [] (Failed HeapHasNoRoom here.place)
held_fails of here old (s.Datum y ∷ cs) n h = rw (needs (needs_storage y) _ n h) (claim_alone_fails here old.world.store _)
held_fails of here old cs n h = absurd cc

-- ---- an ALLOCATE

no_more : (i : ℕ) → refused_once (suc i) ≡ false
no_more i = grind (arith, common_steps)

still_granted : (λ (i : ℕ). refused_once (suc i)) ≡ granted
still_granted = fun_ext no_more

allocate_fails : (rank : ℕ) (v : m.Value) (h : Reference) (ss : List m.Span) (here : Here) (store : t.Store) (k : Option RunError → World → s.State)
    → m.is_allocated (t.get store h.path) ≡ false → too_large ss ≡ false
    → performs (allocate rank v h ss here) (refusing store) k ≡ Goes (Asked true ∷ []) (k (Some HeapHasNoRoom) (record { store = store; answers = granted }))
unfolding ◌>>=◌ looks gives does asks
allocate_fails rank v h ss here store k e f = rw (e, f)
    (ap (λ answers. Goes (Asked true ∷ []) (k (Some HeapHasNoRoom) (record { store = store; answers = answers }))) still_granted)

-- so many dimensions are there, or not
abbrev AreThere : ℕ → List m.Span → List s.Cell → Type 0
AreThere k ss cs = (f : List m.Span → List s.Cell → Next) → on_many extent_of k ss cs f ≡ f (dimensions (take k cs) ++ ss) (drop k cs)

abbrev AreLost : ℕ → List m.Span → List s.Cell → Type 0
AreLost k ss cs = (f : List m.Span → List s.Cell → Next) → on_many extent_of k ss cs f ≡ stuck

one_more : (k : ℕ) (x : m.Span) (ss : List m.Span) (cs : List s.Cell) → AreThere k (x ∷ ss) cs → AreThere (suc k) ss (s.Extent x ∷ cs)
one_more k x ss cs h f = h f ∙ ap (λ ys. f ys (drop k cs)) (sym (append_assoc (dimensions (take k cs)) (x ∷ []) ss))

many : (k : ℕ) (ss : List m.Span) (cs : List s.Cell) → AreThere k ss cs ⊎ AreLost k ss cs
many zero ss cs = inl (λ f. refl)
many (suc k) ss [] = inr (λ f. refl)
many (suc k) ss (s.Extent x ∷ cs) = elim (many k (x ∷ ss) cs) [ inl h ↦ inl (one_more k x ss cs h) | inr h ↦ inr h ]
many (suc k) ss (x ∷ cs) = inr (λ f. refl)

abbrev cells_in : Next → List s.Cell
cells_in (Goes out to) = to.stack
cells_in (Stays out halt) = []

abbrev bounds_in : List s.Cell → List m.Span
bounds_in (s.Bounds ss ∷ cs) = ss
bounds_in cs = []

abbrev Popped : ℕ → List s.Cell → List m.Span → List s.Cell → Type 0
Popped k cs ss st = (f : List m.Span → List s.Cell → Next) → on_many extent_of k [] cs f ≡ f ss st

there : (k : ℕ) (old : s.State) (cs : List s.Cell) (ss : List m.Span) (st : List s.Cell) → Popped k cs ss st → AreThere k [] cs
    → (ss ≡ dimensions (take k cs)) × (st ≡ drop k cs)
there k old cs ss st popped h =
    let cells : st ≡ drop k cs = ap cells_in (sym (popped (λ ss st. Goes [] (on old st old.world))) ∙ h (λ ss st. Goes [] (on old st old.world))) in
    let spans : ss ≡ dimensions (take k cs) ++ [] = ap (λ x. bounds_in (cells_in x))
    (sym (popped (λ ss st. Goes [] (on old (s.Bounds ss ∷ []) old.world))) ∙ h (λ ss st. Goes [] (on old (s.Bounds ss ∷ []) old.world))) in
    (spans ∙ append-nil (dimensions (take k cs)), cells)

popped_is : (k : ℕ) (old : s.State) (cs : List s.Cell) (ss : List m.Span) (st : List s.Cell) → Popped k cs ss st → (ss ≡ dimensions (take k cs)) × (st ≡ drop k cs)
popped_is k old cs ss st popped = elim (many k [] cs) [
  | inl h ↦ there k old cs ss st popped h
  | inr h ↦ let no : Stays [] Done ≡ stuck = sym (popped (λ ss st. Stays [] Done)) ∙ h (λ ss st. Stays [] Done) in absurd cc
]

grants : (b c : Bool) (k n : ℕ) → (if b then None else (if c then None else Some k)) ≡ Some n → (b ≡ false) × (c ≡ false)
grants true c k n h = absurd cc
grants false true k n h = absurd cc
grants false false k n h = (refl, refl)

pub allocated_is_asked : (store : t.Store) (rank n : ℕ) (v : m.Value) (ss : List m.Span) (h : Reference) (cs rest : List s.Cell) → allocated store rank v ss cs ≡ Some n
    → cs ≡ s.Object h ∷ rest → (m.is_allocated (t.get store h.path) ≡ false) × (too_large ss ≡ false)
allocated_is_asked store rank n v ss h cs rest w e = grants (m.is_allocated (t.get store h.path)) (too_large ss) _ n (ap (allocated store rank v ss) (sym e) ∙ w)

abbrev allocates : ℕ → ℕ → m.Value → Here → s.State → List s.Cell → Next
allocates rank k v here old cs = on_many extent_of k [] cs (λ ss st. on_object st (λ h st.
    performs (allocate rank v h ss here) (refusing old.world.store) (λ status. on (with_answers refused_once old) (s.Status status ∷ st))))

pub allocate_goes : (rank k n : ℕ) (v : m.Value) (here : Here) (old : s.State) (cs : List s.Cell) (ss : List m.Span) (st rest : List s.Cell) (h : Reference)
    → allocated old.world.store rank v (dimensions (take k cs)) (drop k cs) ≡ Some n → Popped k cs ss st → st ≡ s.Object h ∷ rest
    → allocates rank k v here old cs
    ≡ Goes (Asked true ∷ []) (on old (s.Status (Some HeapHasNoRoom) ∷ rest) (record { store = old.world.store; answers = granted }))
allocate_goes rank k n v here old cs ss st rest h w popped e =
    let are = popped_is k old cs ss st popped in
    let asked : (m.is_allocated (t.get old.world.store h.path) ≡ false) × (too_large (dimensions (take k cs)) ≡ false) =
    allocated_is_asked old.world.store rank n v (dimensions (take k cs)) h (drop k cs) rest w (sym are.1 ∙ e) in
    popped _ ∙ ap (λ (ys : List s.Cell). on_object ys (λ h st. performs (allocate rank v h ss here) (refusing old.world.store)
    (λ status. on (with_answers refused_once old) (s.Status status ∷ st)))) e
    ∙ allocate_fails rank v h ss here old.world.store _ asked.0 (ap too_large are.0 ∙ asked.1)

pub allocate_stops : (code : s.Code) (p : Program) (to : s.State) (place : Place) (k : ℕ) (e : Stop) (old new : List Cell) (f : List m.Span → List s.Cell → Next)
    → PoppedMany extent_in extent_of k (Err e) old new → Follows code (on_many extent_of k [] (cells_of p old) f) (Err e) to place
allocate_stops code p to place k stop.Stuck old new f h = ([], h p f, refl)
allocate_stops code p to place k stop.Memory old new f h = tt
allocate_stops code p to place k stop.Done old new f h = absurd h
allocate_stops code p to place k (stop.Stopped number) old new f h = absurd h
allocate_stops code p to place k (stop.Failed error) old new f h = absurd h
allocate_stops code p to place k stop.Lost old new f h = absurd h
allocate_stops code p to place k stop.Refused old new f h = absurd h

-- events happen that print nothing, and the next line comes with one more cell
with_cell : (code : s.Code) (next : Next) (r : Result ⊤ Stop) (place : Place) (p : Program) (out : List Event) (cell : Cell) (mid new : State) → OnWith cell r mid new
    → next ≡ Goes out (on (state_of p mid) (cell_of p cell ∷ cells_of p mid.stack.items) (world_of mid.store)) → output out ≡ [] → Follows code next r (state_of p new) place
with_cell code next (Ok done) place p out cell mid new h e o = (out, e ∙ ap (Goes out) (sym (h p)), o)
with_cell code next (Err stop.Memory) place p out cell mid new h e o = tt
with_cell code next (Err stop.Done) place p out cell mid new h e o = absurd h
with_cell code next (Err (stop.Stopped number)) place p out cell mid new h e o = absurd h
with_cell code next (Err (stop.Failed error)) place p out cell mid new h e o = absurd h
with_cell code next (Err stop.Stuck) place p out cell mid new h e o = absurd h
with_cell code next (Err stop.Lost) place p out cell mid new h e o = absurd h
with_cell code next (Err stop.Refused) place p out cell mid new h e o = absurd h

pub went_with : (code : s.Code) (place : Place) (p : Program) (out : List Event) {next : Next} {r : Result ⊤ Stop} {cell : Cell} {mid new : State} → WentOn cell r mid new
    → next ≡ Goes out (on (state_of p mid) (cell_of p cell ∷ cells_of p mid.stack.items) (world_of mid.store)) → output out ≡ [] → Follows code next r (state_of p new) place
went_with code place p out {next = next} {r = r} {cell = cell} {mid = mid} {new = new} h e o = with_cell code next r place p out cell mid new h.with e o

-- ---- answers

pub answered : (size : ℕ) (x : Scene) (i : Instruction) (v : m.Value) (place : Place) (e : Stop) (old new : State) → refuses size x i v old ≡ true
    → DoesRefused x i v place (Err e) old new → Answered size x i v place (Err e) old new
answered size x i v place stop.Memory old new h does = tt
answered size x i v place stop.Done old new h does = (h, does)
answered size x i v place (stop.Stopped number) old new h does = (h, does)
answered size x i v place (stop.Failed error) old new h does = (h, does)
answered size x i v place stop.Stuck old new h does = (h, does)
answered size x i v place stop.Lost old new h does = (h, does)
answered size x i v place stop.Refused old new h does = (h, does)

-- what is refused is wanted
pub some_wanted : (size used : ℕ) (o : Option ℕ) → is_full size used o ≡ true → (n : ℕ) × (o ≡ Some n)
some_wanted size used None h = absurd cc
some_wanted size used (Some n) h = (n, refl)
