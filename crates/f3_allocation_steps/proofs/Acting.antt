-- What parts of runs come to as one instruction, where the heap grants each request.
use Rattle.std.proofs.Common.{◌≡◌, ℕ, ◌+◌, Bool, true, false, nat_eq, List, [], ◌∷◌, length, map, refl, sym, ap, ◌∙◌, subst, arith}
use Rattle.std.specs.Prelude.{⊤, Option, None, Some, Result, Ok, Err, if◌then◌else◌}
use Rattle.std.proofs.lemmas.Grind.{common_steps}
use Rattle.f3_places.specs.declared.source.Place.{Place}
use Rattle.f3_program.specs.declared.program.Program.{Program}
use Rattle.f3_meaning_whole.specs.Value as v
use Rattle.f3_meaning_whole.specs.Value.{spread}
use Rattle.f3_meaning_whole.specs.Store.{put_all, get}
use Rattle.f3_meaning_whole.specs.Store as t
use Rattle.f3_meaning_whole.specs.Reference as m
use Rattle.f3_meaning_whole.specs.Reference.{paths}
use Rattle.f3_meaning_whole.specs.declared.run_error.RunError.{RunError}
use Rattle.f3_meaning_whole.specs.declared.run_error.RunError.TheVariants.{InUse, NotAllocated}
use Rattle.f3_meaning_whole.specs.Ran.{Event, World, Ran, ◌>>=◌, gives, fails, looks, does, asks}
use Rattle.f3_meaning_whole.specs.Act.{Here, change, claim, set, clear, contents}
use Rattle.f3_meaning_whole.specs.Run.{output}
use Rattle.f3_data.specs.declared.store.Store.{Store}
use Rattle.f3_data.specs.declared.value.Span.{Span}
use Rattle.f3_data.specs.Values.{spans_of}
use Rattle.f3_data.specs.Stores.{store_of}
use Rattle.f3_code.specs.State.{Next, Goes, Stays, Failed}
use Rattle.f3_code.specs.State as s
use Rattle.f3_code.specs.Machine.{on, on_object, on_datum, on_status, on_elements, performs, ends_so, tested, opens, goes, skips, on_many, extent_of}
use Rattle.f3_cells.specs.declared.state.State.{State}
use Rattle.f3_cells.specs.Cells.{cell_of, cells_of}
use Rattle.f3_cells.specs.States.{state_of, world_of, granted}
use Rattle.f3_located.specs.Finds.{Finds, FailsBy}
use Rattle.f3_cells.specs.Moves.{Moved, OnWith, WentOn}
use Rattle.f3_cells.specs.Follows.{GoesOn, Follows}
use Rattle.f3_cells.specs.Popped.{PoppedMany, extent_in}
use Rattle.f3_cells.specs.declared.state.Stop.{Stop}
use Rattle.f3_cells.specs.declared.state.Stop.TheVariants as stop
use Rattle.f3_cells.specs.declared.cell.Cell.{Cell}

-- what goes on with an object, or a value, on top
pub at_object : {cells rest : List s.Cell} {r : m.Reference} (f : m.Reference → List s.Cell → Next) → cells ≡ s.Object r ∷ rest → on_object cells f ≡ f r rest
at_object f e = rw e refl

pub at_datum : {cells rest : List s.Cell} {x : v.Value} (f : v.Value → List s.Cell → Next) → cells ≡ s.Datum x ∷ rest → on_datum cells f ≡ f x rest
at_datum f e = rw e refl

-- a part of a run that looks
pub looked : {A : Type 0} (f : t.Store → A) (w : World) (k : A → World → s.State) → performs (looks f) w k ≡ Goes [] (k (f w.store) w)
unfolding looks
looked f w k = refl

-- a test that holds, or not
pub passed : (b : Bool) (e : RunError) (here : Here) (w : World) (k : ⊤ → World → s.State) → b ≡ true → performs (tested b e here) w k ≡ Goes [] (k tt w)
unfolding gives
passed true e here w k h = refl
passed false e here w k h = cc

pub failed : (b : Bool) (e : RunError) (here : Here) (w : World) (k : ⊤ → World → s.State) → b ≡ false → performs (tested b e here) w k ≡ Stays [] (Failed e here.place)
unfolding fails
failed true e here w k h = cc
failed false e here w k h = refl

-- a rank is that of bounds, or not
pub ranked : (rank : ℕ) (ss : List Span) (x : v.Value) → rank ≡ length ss → spans_of ss ≡ v.spans_of x → nat_eq rank (length (v.spans_of x)) ≡ true
ranked rank ss x h e = rw (← e) (grind (arith, common_steps))

pub unranked : (rank : ℕ) (ss : List Span) (x : v.Value) → (rank ≡ length ss → ⊥) → spans_of ss ≡ v.spans_of x → nat_eq rank (length (v.spans_of x)) ≡ false
unranked rank ss x h e = rw (← e) (grind (arith, common_steps))

-- the objects of a reference take a value
pub set_then : (r : m.Reference) (x : v.Value) (here : Here) (old new : Store) (k : ⊤ → World → s.State)
    → store_of new ≡ put_all (paths r) (spread (length (paths r)) x) (store_of old)
    → performs (set r x here) (world_of old) k ≡ Goes (change r here (spread (length (paths r)) x)) (k tt (world_of new))
unfolding does
set_then r x here old new k e = ap (λ (st : t.Store). Goes (change r here (spread (length (paths r)) x)) (k tt (record { store = st; answers = (world_of new).answers }))) (sym e)

-- what is allocated beneath is freed
pub clear_then : (r : m.Reference) (here : Here) (old new : Store) (k : ⊤ → World → s.State)
    → store_of new ≡ put_all (paths r) (map (λ p. v.cleared (get (store_of old) p)) (paths r)) (store_of old)
    → performs (clear r here) (world_of old) k ≡ Goes (change r here (map (λ p. v.cleared (get (store_of old) p)) (paths r))) (k tt (world_of new))
unfolding does
clear_then r here old new k e = ap (λ (st : t.Store). Goes (change r here (map (λ p. v.cleared (get (store_of old) p)) (paths r))) (k tt (record { store = st; answers = (world_of new).answers }))) (sym e)

-- events happen that print nothing, and the next line comes
pub moved_with : {next : Next} (p : Program) {mid new : State} (out : List Event) → Moved (mid.pc + 1) mid new
    → next ≡ Goes out (on (state_of p mid) (cells_of p mid.stack.items) (world_of mid.store)) → output out ≡ [] → GoesOn next (state_of p new) []
moved_with p out m e o = (out, e ∙ ap (λ t. Goes out (state_of p t)) (sym m.is), o)

-- a part of a run that only finds something, or fails
pub found : {A : Type 0} (n : Ran A) (store : Store) (x : A) (k : A → World → s.State) → Finds n store x → performs n (world_of store) k ≡ Goes [] (k x (world_of store))
found n store x k h = ap (λ o. ends_so o.out o.end k) (h granted)

pub missed : {A : Type 0} (n : Ran A) (store : Store) (e : RunError) (place : Place) (k : A → World → s.State) → FailsBy n store e place → performs n (world_of store) k ≡ Stays [] (Failed e place)
missed n store e place k h = ap (λ o. ends_so o.out o.end k) (h granted)

failure : {A : Type 0} (e : RunError) (place : Place) (w : World) (k : A → World → s.State) → performs (fails e place) w k ≡ Stays [] (Failed e place)
unfolding fails
failure e place w k = refl

-- what an object holds, where it is in use, or not
pub shut : (r : m.Reference) (here : Here) (w : World) (k : m.Reference → World → s.State) → m.is_pinned r.path here.lent ≡ true → performs (opens r here) w k ≡ Stays [] (Failed InUse here.place)
shut r here w k h = rw h (failure InUse here.place w k)

pub unshut : (r : m.Reference) (here : Here) (w : World) (k : m.Reference → World → s.State) → m.is_pinned r.path here.lent ≡ false → performs (opens r here) w k ≡ performs (contents r here) w k
unshut r here w k h = rw h refl

-- why an object may not be deallocated
pub hindered : (b c : Bool) (d : ℕ) (t : s.State) (st : List s.Cell) (error : RunError) → Some error ≡ (if b then (if c then Some InUse else None) else Some NotAllocated)
    → (if b then (if c then skips t d (s.Status (Some InUse) ∷ st) else goes t t.stack) else skips t d (s.Status (Some NotAllocated) ∷ st)) ≡ skips t d (s.Status (Some error) ∷ st)
hindered true true d t st error h = ap (λ x. skips t d (s.Status x ∷ st)) (sym h)
hindered true false d t st error h = cc
hindered false c d t st error h = ap (λ x. skips t d (s.Status x ∷ st)) (sym h)

pub unhindered : (b c : Bool) (d : ℕ) (t : s.State) (st : List s.Cell) → None ≡ (if b then (if c then Some InUse else None) else Some NotAllocated)
    → (if b then (if c then skips t d (s.Status (Some InUse) ∷ st) else goes t t.stack) else skips t d (s.Status (Some NotAllocated) ∷ st)) ≡ goes t t.stack
unhindered true true d t st h = cc
unhindered true false d t st h = refl
unhindered false c d t st h = cc

-- the same of a value that is equal
pub set_as : (r : m.Reference) (x y : v.Value) (here : Here) (old new : Store) (k : ⊤ → World → s.State) → y ≡ x
    → store_of new ≡ put_all (paths r) (spread (length (paths r)) y) (store_of old)
    → performs (set r x here) (world_of old) k ≡ Goes (change r here (spread (length (paths r)) x)) (k tt (world_of new))
set_as r x y here old new k e h = set_then r x here old new k (subst (λ z. store_of new ≡ put_all (paths r) (spread (length (paths r)) z) (store_of old)) e h)

-- storage is granted
pub claimed_then : {A : Type 0} (here : Here) (store : Store) (f : ⊤ → Ran A) (k : A → World → s.State) → performs (claim here >>= f) (world_of store) k ≡ performs (f tt) (world_of store) k
unfolding ◌>>=◌ asks gives
claimed_then here store f k = refl

-- what goes on with how an ALLOCATE or DEALLOCATE ended, or with elements, on top
pub at_status : {cells rest : List s.Cell} {x : Option RunError} (f : Option RunError → List s.Cell → Next) → cells ≡ s.Status x ∷ rest → on_status cells f ≡ f x rest
at_status f e = rw e refl

pub at_elements : {cells rest : List s.Cell} {ps : List t.Path} (f : List t.Path → List s.Cell → Next) → cells ≡ s.Elements ps ∷ rest → on_elements cells f ≡ f ps rest
at_elements f e = rw e refl

-- events happen that print nothing, and the next line comes with one more cell
with_cell : (code : s.Code) (next : Next) (r : Result ⊤ Stop) (place : Place) (p : Program) (out : List Event) (cell : Cell) (mid new : State) → OnWith cell r mid new
    → next ≡ Goes out (on (state_of p mid) (cell_of p cell ∷ cells_of p mid.stack.items) (world_of mid.store)) → output out ≡ [] → Follows code next r (state_of p new) place
with_cell code next (Ok done) place p out cell mid new h e o = (out, e ∙ ap (Goes out) (sym (h p)), o)
with_cell code next (Err stop.Memory) place p out cell mid new h e o = tt
with_cell code next (Err stop.Done) place p out cell mid new h e o = absurd h
with_cell code next (Err (stop.Stopped number)) place p out cell mid new h e o = absurd h
with_cell code next (Err (stop.Failed error)) place p out cell mid new h e o = absurd h
with_cell code next (Err stop.Stuck) place p out cell mid new h e o = absurd h
with_cell code next (Err stop.Lost) place p out cell mid new h e o = absurd h
with_cell code next (Err stop.Refused) place p out cell mid new h e o = absurd h

pub went_with : (code : s.Code) (place : Place) (p : Program) (out : List Event) {next : Next} {r : Result ⊤ Stop} {cell : Cell} {mid new : State} → WentOn cell r mid new
    → next ≡ Goes out (on (state_of p mid) (cell_of p cell ∷ cells_of p mid.stack.items) (world_of mid.store)) → output out ≡ [] → Follows code next r (state_of p new) place
went_with code place p out {next = next} {r = r} {cell = cell} {mid = mid} {new = new} h e o = with_cell code next r place p out cell mid new h.with e o

-- dimensions are not there
pub many_stops : (code : s.Code) (p : Program) (to : s.State) (place : Place) (k : ℕ) (e : Stop) (old new : List Cell) (f : List v.Span → List s.Cell → Next)
    → PoppedMany extent_in extent_of k (Err e) old new → Follows code (on_many extent_of k [] (cells_of p old) f) (Err e) to place
many_stops code p to place k stop.Stuck old new f h = ([], h p f, refl)
many_stops code p to place k stop.Memory old new f h = tt
many_stops code p to place k stop.Done old new f h = absurd h
many_stops code p to place k (stop.Stopped number) old new f h = absurd h
many_stops code p to place k (stop.Failed error) old new f h = absurd h
many_stops code p to place k stop.Lost old new f h = absurd h
many_stops code p to place k stop.Refused old new f h = absurd h
