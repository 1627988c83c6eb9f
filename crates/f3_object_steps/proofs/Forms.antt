-- Instructions by what they take, do and leave.
use Rattle.std.proofs.Common.{◌≡◌, map, ℕ, ◌+◌, List, [], ◌∷◌, refl, sym, ap, ◌∙◌, Result, Ok, Err, Option, None, Some, Vec, Global}
use Rattle.std.specs.Prelude.{⊤, ℤ}
use Rattle.f3_places.specs.declared.source.Place.{Place}
use Rattle.f3_program.specs.declared.program.Program.{Program}
use Rattle.f3_meaning_whole.specs.declared.run_error.RunError.{RunError}
use Rattle.f3_meaning_whole.specs.Value as v
use Rattle.f3_meaning_whole.specs.Reference as m
use Rattle.f3_meaning_whole.specs.Ran.{Ran}
use Rattle.f3_meaning_whole.specs.Act as m'
use Rattle.f3_meaning_whole.specs.Act.{Setting, Here}
use Rattle.f3_data.specs.declared.value.Value.{Value}
use Rattle.f3_data.specs.declared.store.Store.{Store}
use Rattle.f3_data.specs.declared.reference.Reference.{Reference}
use Rattle.f3_data.specs.Values.{value_of}
use Rattle.f3_data.specs.References.{reference_of}
use Rattle.f3_code.specs.State.{Code, Line, Next, Goes}
use Rattle.f3_code.specs.State as s
use Rattle.f3_code.specs.Machine.{choice_of, on_many, performs, ends_so, on, on_object, on_datum, on_turns}
use Rattle.f3_cells.specs.declared.cell.Cell.{Cell}
use Rattle.f3_cells.specs.declared.cell.Cell.TheVariants as cell
use Rattle.f3_cells.specs.declared.state.State.{State}
use Rattle.f3_cells.specs.declared.state.Stop.{Stop}
use Rattle.f3_cells.specs.declared.state.Stop.TheVariants as stop
use Rattle.f3_cells.specs.Cells.{cell_of, cells_of, chosen_of}
use Rattle.f3_cells.specs.declared.cell.Chosen.{Chosen}
use Rattle.f3_cells.specs.States.{state_of, world_of}
use Rattle.f3_cells.specs.Moves.{Moved, WentOn}
use Rattle.f3_object_steps.specs.Taken.{Popped, PoppedPair, PoppedMany, Pushed, HasCell, HasNone, Shows, ShowsNone, same}
use Rattle.f3_cells.specs.Follows.{Follows}
use Rattle.f3_object_steps.specs.Parts.{on_part, HoldsStep, ShowsStep, TookLimits, on_limits, turns_between}
use Rattle.f3_object_steps.specs.declared.counting.Limits.{Limits}
use Rattle.f3_object_steps.specs.Performed.{Comes, FailsSo, Performed, PerformedAt}
use Rattle.f3_object_steps.proofs.Ending.{is_stuck, pushes, moves, stops}

-- ---- an object and a value are taken

abbrev pub Assigns : (List s.Cell → (m.Reference → v.Value → List s.Cell → Next) → Next) → Next → Program → State → (m.Reference → v.Value → Ran ⊤) → Type 0
Assigns onp next p old part = next ≡ onp (cells_of p old.stack.items) (λ r x st. performs (part r x) (world_of old.store) (λ done. on (state_of p old) st))

pub assigned_stuck : (onp : List s.Cell → (m.Reference → v.Value → List s.Cell → Next) → Next) (next : Next) (code : Code) (p : Program) (old : State) (part : m.Reference → v.Value → Ran ⊤) (stack : List Cell) (to : s.State) (place : Place)
    → Assigns onp next p old part → PoppedPair reference_of value_of onp None old.stack.items stack → Follows code next (Err stop.Stuck) to place
assigned_stuck onp next code p old part stack to place e h = is_stuck code next to place (e ∙ h p (λ r x st. performs (part r x) (world_of old.store) (λ done. on (state_of p old) st)))

pub assigned_ok : (onp : List s.Cell → (m.Reference → v.Value → List s.Cell → Next) → Next) (next : Next) (code : Code) (p : Program) (here : Here) (old new : State) (part : Here → m.Reference → v.Value → Ran ⊤) (stack : Vec Cell Global) (store : Store) (object : Reference) (value : Value)
    → Assigns onp next p old (part here) → PoppedPair reference_of value_of onp (Some (object, value)) old.stack.items stack.items
    → Performed (same {X = ⊤}) (λ (here : Here). part here (reference_of object) (value_of value)) (Ok tt) old.store store
    → new ≡ record { pc = old.pc + 1; stack = stack; here = old.here; frames = old.frames; store = store } → Follows code next (Ok tt) (state_of p new) here.place
assigned_ok onp next code p here old new part stack store object value e h c n =
    moves code next here.place p (state_of p new) (part here (reference_of object) (value_of value)) tt old.store store (λ done. on (state_of p old) (cells_of p stack.items))
    (e ∙ h p (λ r x st. performs (part here r x) (world_of old.store) (λ done. on (state_of p old) st))) (c here) (sym (ap (state_of p) n))

pub assigned_err : (onp : List s.Cell → (m.Reference → v.Value → List s.Cell → Next) → Next) (next : Next) (code : Code) (p : Program) (here : Here) (old : State) (to : s.State) (part : Here → m.Reference → v.Value → Ran ⊤) (stack : List Cell) (store : Store) (object : Reference) (value : Value) (error : Stop)
    → Assigns onp next p old (part here) → PoppedPair reference_of value_of onp (Some (object, value)) old.stack.items stack
    → Performed (same {X = ⊤}) (λ (here : Here). part here (reference_of object) (value_of value)) (Err error) old.store store → Follows code next (Err error) to here.place
assigned_err onp next code p here old to part stack store object value error e h c =
    stops code next here to error (same {X = ⊤}) (λ (here : Here). part here (reference_of object) (value_of value)) old.store store (λ done. on (state_of p old) (cells_of p stack))
    (e ∙ h p (λ r x st. performs (part here r x) (world_of old.store) (λ done. on (state_of p old) st))) c

-- ---- an object is taken, and a cell is left

module _ {A X : Type 0} (view : X → A) (left : A → s.Cell) (cell : X → Cell) where
  abbrev pub Leaves : Next → Program → State → (m.Reference → Ran A) → Type 0
  Leaves next p old part = next ≡ on_object (cells_of p old.stack.items) (λ r st. performs (part r) (world_of old.store) (λ x. on (state_of p old) (left x ∷ st)))

  pub left_stuck : (next : Next) (code : Code) (p : Program) (old : State) (part : m.Reference → Ran A) (stack : List Cell) (to : s.State) (place : Place)
      → Leaves next p old part → Popped reference_of on_object None old.stack.items stack → Follows code next (Err stop.Stuck) to place
  left_stuck next code p old part stack to place e h = is_stuck code next to place (e ∙ h p (λ r st. performs (part r) (world_of old.store) (λ x. on (state_of p old) (left x ∷ st))))

  pub left_ok : (next : Next) (code : Code) (p : Program) (here : Here) (old new : State) (part : Here → m.Reference → Ran A) (stack : Vec Cell Global) (object : Reference) (x : X) (r : Result ⊤ Stop)
      → Leaves next p old (part here) → Popped reference_of on_object (Some object) old.stack.items stack.items
      → Performed view (λ (here : Here). part here (reference_of object)) (Ok x) old.store old.store
      → cell_of p (cell x) ≡ left (view x)
      → WentOn (cell x) r (record { pc = old.pc; stack = stack; here = old.here; frames = old.frames; store = old.store }) new → Follows code next r (state_of p new) here.place
  left_ok next code p here old new part stack object x r e h c k w =
      pushes code next here.place p (cell x) r (record { pc = old.pc; stack = stack; here = old.here; frames = old.frames; store = old.store }) new
      (part here (reference_of object)) (view x) old.store (λ x. on (state_of p old) (left x ∷ cells_of p stack.items))
      (e ∙ h p (λ r st. performs (part here r) (world_of old.store) (λ x. on (state_of p old) (left x ∷ st)))) (c here)
      (ap (λ y. on (state_of p old) (y ∷ cells_of p stack.items) (world_of old.store)) (sym k)) w

  pub left_err : (next : Next) (code : Code) (p : Program) (here : Here) (old : State) (to : s.State) (part : Here → m.Reference → Ran A) (stack : List Cell) (object : Reference) (error : Stop)
      → Leaves next p old (part here) → Popped reference_of on_object (Some object) old.stack.items stack
      → Performed view (λ (here : Here). part here (reference_of object)) (Err error) old.store old.store → Follows code next (Err error) to here.place
  left_err next code p here old to part stack object error e h c =
      stops code next here to error view (λ (here : Here). part here (reference_of object)) old.store old.store (λ x. on (state_of p old) (left x ∷ cells_of p stack))
      (e ∙ h p (λ r st. performs (part here r) (world_of old.store) (λ x. on (state_of p old) (left x ∷ st)))) c

-- ---- an object and a value are tested, and stay

abbrev pub Tests : Next → Program → State → (m.Reference → v.Value → Ran ⊤) → Type 0
Tests next p old part = next ≡ on_object (cells_of p old.stack.items) (λ r st. on_datum st (λ x st. performs (part r x) (world_of old.store) (λ done. on (state_of p old) (cells_of p old.stack.items))))

abbrev tests_value : Program → State → (m.Reference → v.Value → Ran ⊤) → m.Reference → List s.Cell → Next
tests_value p old part r st = on_datum st (λ x st. performs (part r x) (world_of old.store) (λ done. on (state_of p old) (cells_of p old.stack.items)))

pub tested_none : (next : Next) (code : Code) (p : Program) (old : State) (part : m.Reference → v.Value → Ran ⊤) (to : s.State) (place : Place)
    → Tests next p old part → ShowsNone on_object old.stack.items 0 → Follows code next (Err stop.Stuck) to place
tested_none next code p old part to place e h = is_stuck code next to place (e ∙ h p (tests_value p old part))

pub tested_stuck : (next : Next) (code : Code) (p : Program) (old : State) (part : m.Reference → v.Value → Ran ⊤) (object : m.Reference) (to : s.State) (place : Place)
    → Tests next p old part → Shows on_object old.stack.items 0 object → ShowsNone on_datum old.stack.items 1 → Follows code next (Err stop.Stuck) to place
tested_stuck next code p old part object to place e h k = is_stuck code next to place
    (e ∙ h p (tests_value p old part) ∙ k p (λ x st. performs (part object x) (world_of old.store) (λ done. on (state_of p old) (cells_of p old.stack.items))))

shown_part : (next : Next) (p : Program) (old : State) (part : m.Reference → v.Value → Ran ⊤) (object : m.Reference) (value : v.Value)
    → Tests next p old part → Shows on_object old.stack.items 0 object → Shows on_datum old.stack.items 1 value
    → next ≡ performs (part object value) (world_of old.store) (λ done. on (state_of p old) (cells_of p old.stack.items))
shown_part next p old part object value e h k =
    e ∙ h p (tests_value p old part) ∙ k p (λ x st. performs (part object x) (world_of old.store) (λ done. on (state_of p old) (cells_of p old.stack.items)))

pub tested_ok : (next : Next) (code : Code) (p : Program) (place : Place) (old new : State) (part : m.Reference → v.Value → Ran ⊤) (object : m.Reference) (value : v.Value)
    → Tests next p old part → Shows on_object old.stack.items 0 object → Shows on_datum old.stack.items 1 value
    → Comes (part object value) old.store tt old.store → Moved (old.pc + 1) old new → Follows code next (Ok tt) (state_of p new) place
tested_ok next code p place old new part object value e h k c n =
    moves code next place p (state_of p new) (part object value) tt old.store old.store (λ done. on (state_of p old) (cells_of p old.stack.items))
    (shown_part next p old part object value e h k) c (sym (ap (state_of p) n.is))

pub tested_err : (next : Next) (code : Code) (p : Program) (place : Place) (old : State) (to : s.State) (part : m.Reference → v.Value → Ran ⊤) (object : m.Reference) (value : v.Value) (error : RunError)
    → Tests next p old part → Shows on_object old.stack.items 0 object → Shows on_datum old.stack.items 1 value
    → FailsSo (part object value) old.store error place → Follows code next (Err (stop.Failed error)) to place
tested_err next code p place old to part object value error e h k c =
    (c.0, shown_part next p old part object value e h k ∙ ap (λ o. ends_so o.out o.end (λ done. on (state_of p old) (cells_of p old.stack.items))) c.1, c.2)

-- ---- the variable of a DO, whose turns stay

abbrev counting : Program → State → (m.Reference → ℤ → Ran ⊤) → m.Reference → List s.Cell → Next
counting p old part r st = on_turns st (λ k step rest. performs (part r step) (world_of old.store) (λ done. on (state_of p old) st))

abbrev pub CountsUp : Next → Program → State → (m.Reference → ℤ → Ran ⊤) → Type 0
CountsUp next p old part = next ≡ on_object (cells_of p old.stack.items) (counting p old part)

pub counted_none : (next : Next) (code : Code) (p : Program) (old : State) (part : m.Reference → ℤ → Ran ⊤) (stack : List Cell) (to : s.State) (place : Place)
    → CountsUp next p old part → Popped reference_of on_object None old.stack.items stack → Follows code next (Err stop.Stuck) to place
counted_none next code p old part stack to place e h = is_stuck code next to place (e ∙ h p (counting p old part))

pub counted_stuck : (next : Next) (code : Code) (p : Program) (old : State) (part : m.Reference → ℤ → Ran ⊤) (stack : List Cell) (object : Reference) (to : s.State) (place : Place)
    → CountsUp next p old part → Popped reference_of on_object (Some object) old.stack.items stack → ShowsStep None stack → Follows code next (Err stop.Stuck) to place
counted_stuck next code p old part stack object to place e h k = is_stuck code next to place
    (e ∙ h p (counting p old part) ∙ k p (λ n step rest. performs (part (reference_of object) step) (world_of old.store) (λ done. on (state_of p old) (cells_of p stack))))

counted_part : (next : Next) (p : Program) (old : State) (part : m.Reference → ℤ → Ran ⊤) (stack : List Cell) (object : Reference) (step : Value)
    → CountsUp next p old part → Popped reference_of on_object (Some object) old.stack.items stack → ShowsStep (Some step) stack
    → next ≡ performs (part (reference_of object) (v.number_of (value_of step))) (world_of old.store) (λ done. on (state_of p old) (cells_of p stack))
counted_part next p old part stack object step e h k =
    e ∙ h p (counting p old part) ∙ k p (λ step. performs (part (reference_of object) step) (world_of old.store) (λ done. on (state_of p old) (cells_of p stack)))

pub counted_ok : (next : Next) (code : Code) (p : Program) (here : Here) (old new : State) (part : Here → m.Reference → ℤ → Ran ⊤) (stack : Vec Cell Global) (store : Store) (object : Reference) (step : Value)
    → CountsUp next p old (part here) → Popped reference_of on_object (Some object) old.stack.items stack.items → ShowsStep (Some step) stack.items
    → Performed (same {X = ⊤}) (λ (here : Here). part here (reference_of object) (v.number_of (value_of step))) (Ok tt) old.store store
    → new ≡ record { pc = old.pc + 1; stack = stack; here = old.here; frames = old.frames; store = store } → Follows code next (Ok tt) (state_of p new) here.place
counted_ok next code p here old new part stack store object step e h k c n =
    moves code next here.place p (state_of p new) (part here (reference_of object) (v.number_of (value_of step))) tt old.store store (λ done. on (state_of p old) (cells_of p stack.items))
    (counted_part next p old (part here) stack.items object step e h k) (c here) (sym (ap (state_of p) n))

pub counted_err : (next : Next) (code : Code) (p : Program) (here : Here) (old : State) (to : s.State) (part : Here → m.Reference → ℤ → Ran ⊤) (stack : List Cell) (store : Store) (object : Reference) (step : Value) (error : Stop)
    → CountsUp next p old (part here) → Popped reference_of on_object (Some object) old.stack.items stack → ShowsStep (Some step) stack
    → Performed (same {X = ⊤}) (λ (here : Here). part here (reference_of object) (v.number_of (value_of step))) (Err error) old.store store → Follows code next (Err error) to here.place
counted_err next code p here old to part stack store object step error e h k c =
    stops code next here to error (same {X = ⊤}) (λ (here : Here). part here (reference_of object) (v.number_of (value_of step))) old.store store (λ done. on (state_of p old) (cells_of p stack))
    (counted_part next p old (part here) stack object step e h k) c

pub shows_step : (r : Option Value) (cs : List Cell) (cell : Cell) → HasCell cs 0 cell → HoldsStep r cell → ShowsStep r cs
shows_step None cs cell h k = λ p f. ap (λ xs. on_turns xs f) (h p) ∙ k p _ f
shows_step (Some z) cs cell h k = λ p f. ap (λ xs. on_turns xs (λ n step rest. f step)) (h p) ∙ k p _ f

pub shows_none : (cs : List Cell) → HasNone cs 0 → ShowsStep None cs
shows_none cs h = λ p f. ap (λ xs. on_turns xs f) (h p)

-- ---- a DO begins

abbrev beginning : Program → State → (m.Reference → v.Value → Ran ⊤) → m.Reference → List s.Cell → Next
beginning p old part r st = on_limits st (λ step last first st. performs (part r first) (world_of old.store) (λ done. on (state_of p old) (turns_between step last first ∷ st)))

abbrev pub BeginsCount : Next → Program → State → (m.Reference → v.Value → Ran ⊤) → Type 0
BeginsCount next p old part = next ≡ on_object (cells_of p old.stack.items) (beginning p old part)

pub begun_none : (next : Next) (code : Code) (p : Program) (old : State) (part : m.Reference → v.Value → Ran ⊤) (stack : List Cell) (to : s.State) (place : Place)
    → BeginsCount next p old part → Popped reference_of on_object None old.stack.items stack → Follows code next (Err stop.Stuck) to place
begun_none next code p old part stack to place e h = is_stuck code next to place (e ∙ h p (beginning p old part))

pub begun_stuck : (next : Next) (code : Code) (p : Program) (old : State) (part : m.Reference → v.Value → Ran ⊤) (mid stack : List Cell) (object : Reference) (to : s.State) (place : Place)
    → BeginsCount next p old part → Popped reference_of on_object (Some object) old.stack.items mid → TookLimits None mid stack → Follows code next (Err stop.Stuck) to place
begun_stuck next code p old part mid stack object to place e h k = is_stuck code next to place (e ∙ h p (beginning p old part)
    ∙ k p (λ step last first st. performs (part (reference_of object) first) (world_of old.store) (λ done. on (state_of p old) (turns_between step last first ∷ st))))

begun_part : (next : Next) (p : Program) (old : State) (part : m.Reference → v.Value → Ran ⊤) (mid stack : List Cell) (object : Reference) (x : Limits)
    → BeginsCount next p old part → Popped reference_of on_object (Some object) old.stack.items mid → TookLimits (Some x) mid stack
    → next ≡ performs (part (reference_of object) (value_of x.first)) (world_of old.store)
    (λ done. on (state_of p old) (turns_between (value_of x.step) (value_of x.last) (value_of x.first) ∷ cells_of p stack))
begun_part next p old part mid stack object x e h k = e ∙ h p (beginning p old part)
    ∙ k p (λ step last first st. performs (part (reference_of object) first) (world_of old.store) (λ done. on (state_of p old) (turns_between step last first ∷ st)))

pub begun_ok : (next : Next) (code : Code) (p : Program) (here : Here) (old new : State) (part : Here → m.Reference → v.Value → Ran ⊤) (mid : List Cell) (stack : Vec Cell Global) (store : Store) (object : Reference) (x : Limits) (cell : Cell) (r : Result ⊤ Stop)
    → BeginsCount next p old (part here) → Popped reference_of on_object (Some object) old.stack.items mid → TookLimits (Some x) mid stack.items
    → Performed (same {X = ⊤}) (λ (here : Here). part here (reference_of object) (value_of x.first)) (Ok tt) old.store store
    → cell_of p cell ≡ turns_between (value_of x.step) (value_of x.last) (value_of x.first)
    → WentOn cell r (record { pc = old.pc; stack = stack; here = old.here; frames = old.frames; store = store }) new → Follows code next r (state_of p new) here.place
begun_ok next code p here old new part mid stack store object x cell r e h k c i w =
    pushes code next here.place p cell r (record { pc = old.pc; stack = stack; here = old.here; frames = old.frames; store = store }) new
    (part here (reference_of object) (value_of x.first)) tt old.store (λ done. on (state_of p old) (turns_between (value_of x.step) (value_of x.last) (value_of x.first) ∷ cells_of p stack.items))
    (begun_part next p old (part here) mid stack.items object x e h k) (c here)
    (ap (λ y. on (state_of p old) (y ∷ cells_of p stack.items) (world_of store)) (sym i)) w

pub begun_err : (next : Next) (code : Code) (p : Program) (here : Here) (old : State) (to : s.State) (part : Here → m.Reference → v.Value → Ran ⊤) (mid stack : List Cell) (store : Store) (object : Reference) (x : Limits) (error : Stop)
    → BeginsCount next p old (part here) → Popped reference_of on_object (Some object) old.stack.items mid → TookLimits (Some x) mid stack
    → Performed (same {X = ⊤}) (λ (here : Here). part here (reference_of object) (value_of x.first)) (Err error) old.store store → Follows code next (Err error) to here.place
begun_err next code p here old to part mid stack store object x error e h k c =
    stops code next here to error (same {X = ⊤}) (λ (here : Here). part here (reference_of object) (value_of x.first)) old.store store
    (λ done. on (state_of p old) (turns_between (value_of x.step) (value_of x.last) (value_of x.first) ∷ cells_of p stack)) (begun_part next p old (part here) mid stack object x e h k) c

-- ---- one more object, somewhere

abbrev pub Names : Next → Program → State → Ran m.Reference → Type 0
Names next p old part = next ≡ performs part (world_of old.store) (λ q. on (state_of p old) (s.Object q ∷ cells_of p old.stack.items))

pub named_ok : (next : Next) (code : Code) (p : Program) (place : Place) (old new : State) (part : Ran m.Reference) (object : Reference) (r : Result ⊤ Stop)
    → Names next p old part → Comes part old.store (reference_of object) old.store → WentOn (cell.Object object) r old new → Follows code next r (state_of p new) place
named_ok next code p place old new part object r e c w =
    pushes code next place p (cell.Object object) r old new part (reference_of object) old.store (λ q. on (state_of p old) (s.Object q ∷ cells_of p old.stack.items)) e c refl w

pub named_err : (next : Next) (code : Code) (p : Program) (place : Place) (store : Store) (to : s.State) (part : Ran m.Reference) (error : Stop)
    → PerformedAt reference_of part (Err error) store → Follows code next (Err error) to place
named_err next code p place store to part stop.Memory h = tt
named_err next code p place store to part stop.Done h = absurd h
named_err next code p place store to part (stop.Stopped n) h = absurd h
named_err next code p place store to part (stop.Failed n) h = absurd h
named_err next code p place store to part stop.Stuck h = absurd h
named_err next code p place store to part stop.Lost h = absurd h
named_err next code p place store to part stop.Refused h = absurd h

-- ---- one more object, of the one on top, which stays

abbrev pub Adds : Next → Program → State → (m.Reference → Ran m.Reference) → Type 0
Adds next p old part = next ≡ on_object (cells_of p old.stack.items) (λ r st. performs (part r) (world_of old.store) (λ q. on (state_of p old) (s.Object q ∷ s.Object r ∷ st)))

abbrev adding : Program → State → (m.Reference → Ran m.Reference) → m.Reference → List s.Cell → Next
adding p old part r st = performs (part r) (world_of old.store) (λ q. on (state_of p old) (s.Object q ∷ s.Object r ∷ st))

pub added_none : (next : Next) (code : Code) (p : Program) (old : State) (part : m.Reference → Ran m.Reference) (stack : List Cell) (to : s.State) (place : Place)
    → Adds next p old part → Popped reference_of on_object None old.stack.items stack → Follows code next (Err stop.Stuck) to place
added_none next code p old part stack to place e h = is_stuck code next to place (e ∙ h p (adding p old part))

pub added_ok : (next : Next) (code : Code) (p : Program) (here : Here) (old new : State) (part : Here → m.Reference → Ran m.Reference) (mid : List Cell) (stack : Vec Cell Global) (object same q : Reference) (r : Result ⊤ Stop)
    → Adds next p old (part here) → Popped reference_of on_object (Some object) old.stack.items mid
    → Pushed (cell.Object object) mid stack.items → reference_of same ≡ reference_of object
    → Performed reference_of (λ (here : Here). part here (reference_of same)) (Ok q) old.store old.store
    → WentOn (cell.Object q) r (record { pc = old.pc; stack = stack; here = old.here; frames = old.frames; store = old.store }) new → Follows code next r (state_of p new) here.place
added_ok next code p here old new part mid stack object same q r e h k i c w =
    pushes code next here.place p (cell.Object q) r (record { pc = old.pc; stack = stack; here = old.here; frames = old.frames; store = old.store }) new
    (part here (reference_of same)) (reference_of q) old.store (λ q. on (state_of p old) (s.Object q ∷ cells_of p stack.items))
    (e ∙ h p (adding p old (part here)) ∙ ap (λ st. performs (part here (reference_of object)) (world_of old.store) (λ q. on (state_of p old) (s.Object q ∷ st))) (sym (k p))
    ∙ ap (λ o. performs (part here o) (world_of old.store) (λ q. on (state_of p old) (s.Object q ∷ cells_of p stack.items))) (sym i)) (c here) refl w

pub added_err : (next : Next) (code : Code) (p : Program) (here : Here) (old : State) (to : s.State) (part : Here → m.Reference → Ran m.Reference) (mid : List Cell) (object same : Reference) (error : Stop)
    → Adds next p old (part here) → Popped reference_of on_object (Some object) old.stack.items mid → reference_of same ≡ reference_of object
    → Performed reference_of (λ (here : Here). part here (reference_of same)) (Err error) old.store old.store → Follows code next (Err error) to here.place
added_err next code p here old to part mid object same error e h i c =
    stops code next here to error reference_of (λ (here : Here). part here (reference_of same)) old.store old.store (λ q. on (state_of p old) (s.Object q ∷ s.Object (reference_of object) ∷ cells_of p mid))
    (e ∙ h p (adding p old (part here)) ∙ ap (λ o. performs (part here o) (world_of old.store) (λ q. on (state_of p old) (s.Object q ∷ s.Object (reference_of object) ∷ cells_of p mid))) (sym i)) c

-- ---- elements are selected of the object beneath the subscripts

abbrev choosing : Program → State → (List m'.Chosen → m.Reference → Ran m.Reference) → List m'.Chosen → List s.Cell → Next
choosing p old part cs st = on_object st (λ r st. performs (part cs r) (world_of old.store) (λ q. on (state_of p old) (s.Object q ∷ st)))

abbrev pub Chooses : Next → Program → State → ℕ → (List m'.Chosen → m.Reference → Ran m.Reference) → Type 0
Chooses next p old k part = next ≡ on_many choice_of k [] (cells_of p old.stack.items) (choosing p old part)

pub chosen_none : (next : Next) (code : Code) (p : Program) (old : State) (k : ℕ) (part : List m'.Chosen → m.Reference → Ran m.Reference) (e : Stop) (stack : List Cell) (to : s.State) (place : Place)
    → Chooses next p old k part → PoppedMany chosen_of choice_of k (Err e) old.stack.items stack → Follows code next (Err e) to place
chosen_none next code p old k part stop.Stuck stack to place e h = is_stuck code next to place (e ∙ h p (choosing p old part))
chosen_none next code p old k part stop.Memory stack to place e h = tt
chosen_none next code p old k part stop.Done stack to place e h = absurd h
chosen_none next code p old k part (stop.Stopped n) stack to place e h = absurd h
chosen_none next code p old k part (stop.Failed n) stack to place e h = absurd h
chosen_none next code p old k part stop.Lost stack to place e h = absurd h
chosen_none next code p old k part stop.Refused stack to place e h = absurd h

chosen_part : (next : Next) (p : Program) (old : State) (k : ℕ) (part : List m'.Chosen → m.Reference → Ran m.Reference) (xs : Vec Chosen Global) (mid : List Cell)
    → Chooses next p old k part → PoppedMany chosen_of choice_of k (Ok xs) old.stack.items mid → next ≡ choosing p old part (map chosen_of xs.items) (cells_of p mid)
chosen_part next p old k part xs mid e h = e ∙ h p (choosing p old part)

pub chosen_stuck : (next : Next) (code : Code) (p : Program) (old : State) (k : ℕ) (part : List m'.Chosen → m.Reference → Ran m.Reference) (xs : Vec Chosen Global) (mid stack : List Cell) (to : s.State) (place : Place)
    → Chooses next p old k part → PoppedMany chosen_of choice_of k (Ok xs) old.stack.items mid → Popped reference_of on_object None mid stack → Follows code next (Err stop.Stuck) to place
chosen_stuck next code p old k part xs mid stack to place e h i = is_stuck code next to place (chosen_part next p old k part xs mid e h
    ∙ i p (λ r st. performs (part (map chosen_of xs.items) r) (world_of old.store) (λ q. on (state_of p old) (s.Object q ∷ st))))

pub chosen_ok : (next : Next) (code : Code) (p : Program) (here : Here) (old new : State) (k : ℕ) (part : Here → List m'.Chosen → m.Reference → Ran m.Reference) (xs : Vec Chosen Global) (mid : List Cell) (stack : Vec Cell Global)
    (object q : Reference) (r : Result ⊤ Stop)
    → Chooses next p old k (part here) → PoppedMany chosen_of choice_of k (Ok xs) old.stack.items mid → Popped reference_of on_object (Some object) mid stack.items
    → Performed reference_of (λ (here : Here). part here (map chosen_of xs.items) (reference_of object)) (Ok q) old.store old.store
    → WentOn (cell.Object q) r (record { pc = old.pc; stack = stack; here = old.here; frames = old.frames; store = old.store }) new → Follows code next r (state_of p new) here.place
chosen_ok next code p here old new k part xs mid stack object q r e h i c w =
    pushes code next here.place p (cell.Object q) r (record { pc = old.pc; stack = stack; here = old.here; frames = old.frames; store = old.store }) new
    (part here (map chosen_of xs.items) (reference_of object)) (reference_of q) old.store (λ q. on (state_of p old) (s.Object q ∷ cells_of p stack.items))
    (chosen_part next p old k (part here) xs mid e h ∙ i p (λ r st. performs (part here (map chosen_of xs.items) r) (world_of old.store) (λ q. on (state_of p old) (s.Object q ∷ st)))) (c here) refl w

pub chosen_err : (next : Next) (code : Code) (p : Program) (here : Here) (old : State) (to : s.State) (k : ℕ) (part : Here → List m'.Chosen → m.Reference → Ran m.Reference) (xs : Vec Chosen Global) (mid stack : List Cell)
    (object : Reference) (error : Stop)
    → Chooses next p old k (part here) → PoppedMany chosen_of choice_of k (Ok xs) old.stack.items mid → Popped reference_of on_object (Some object) mid stack
    → Performed reference_of (λ (here : Here). part here (map chosen_of xs.items) (reference_of object)) (Err error) old.store old.store → Follows code next (Err error) to here.place
chosen_err next code p here old to k part xs mid stack object error e h i c =
    stops code next here to error reference_of (λ (here : Here). part here (map chosen_of xs.items) (reference_of object)) old.store old.store (λ q. on (state_of p old) (s.Object q ∷ cells_of p stack))
    (chosen_part next p old k (part here) xs mid e h ∙ i p (λ r st. performs (part here (map chosen_of xs.items) r) (world_of old.store) (λ q. on (state_of p old) (s.Object q ∷ st)))) c

-- ---- elements are selected of a component of an object

abbrev parting : Program → State → (List m'.Chosen → m.Reference → m.Reference → Ran m.Reference) → List m'.Chosen → List s.Cell → Next
parting p old part cs st = on_part st (λ q r st. performs (part cs q r) (world_of old.store) (λ x. on (state_of p old) (s.Object x ∷ st)))

abbrev pub Parts : Next → Program → State → ℕ → (List m'.Chosen → m.Reference → m.Reference → Ran m.Reference) → Type 0
Parts next p old k part = next ≡ on_many choice_of k [] (cells_of p old.stack.items) (parting p old part)

pub parted_none : (next : Next) (code : Code) (p : Program) (old : State) (k : ℕ) (part : List m'.Chosen → m.Reference → m.Reference → Ran m.Reference) (e : Stop) (stack : List Cell) (to : s.State) (place : Place)
    → Parts next p old k part → PoppedMany chosen_of choice_of k (Err e) old.stack.items stack → Follows code next (Err e) to place
parted_none next code p old k part stop.Stuck stack to place e h = is_stuck code next to place (e ∙ h p (parting p old part))
parted_none next code p old k part stop.Memory stack to place e h = tt
parted_none next code p old k part stop.Done stack to place e h = absurd h
parted_none next code p old k part (stop.Stopped n) stack to place e h = absurd h
parted_none next code p old k part (stop.Failed n) stack to place e h = absurd h
parted_none next code p old k part stop.Lost stack to place e h = absurd h
parted_none next code p old k part stop.Refused stack to place e h = absurd h

pub parted_stuck : (next : Next) (code : Code) (p : Program) (old : State) (k : ℕ) (part : List m'.Chosen → m.Reference → m.Reference → Ran m.Reference) (xs : Vec Chosen Global) (mid stack : List Cell) (to : s.State) (place : Place)
    → Parts next p old k part → PoppedMany chosen_of choice_of k (Ok xs) old.stack.items mid → PoppedPair reference_of reference_of on_part None mid stack → Follows code next (Err stop.Stuck) to place
parted_stuck next code p old k part xs mid stack to place e h i = is_stuck code next to place (e ∙ h p (parting p old part)
    ∙ i p (λ q r st. performs (part (map chosen_of xs.items) q r) (world_of old.store) (λ x. on (state_of p old) (s.Object x ∷ st))))

parted_part : (next : Next) (p : Program) (old : State) (k : ℕ) (part : List m'.Chosen → m.Reference → m.Reference → Ran m.Reference) (xs : Vec Chosen Global) (mid stack : List Cell) (q r : Reference)
    → Parts next p old k part → PoppedMany chosen_of choice_of k (Ok xs) old.stack.items mid → PoppedPair reference_of reference_of on_part (Some (q, r)) mid stack
    → next ≡ performs (part (map chosen_of xs.items) (reference_of q) (reference_of r)) (world_of old.store) (λ x. on (state_of p old) (s.Object x ∷ cells_of p stack))
parted_part next p old k part xs mid stack q r e h i = e ∙ h p (parting p old part)
    ∙ i p (λ q r st. performs (part (map chosen_of xs.items) q r) (world_of old.store) (λ x. on (state_of p old) (s.Object x ∷ st)))

pub parted_ok : (next : Next) (code : Code) (p : Program) (here : Here) (old new : State) (k : ℕ) (part : Here → List m'.Chosen → m.Reference → m.Reference → Ran m.Reference) (xs : Vec Chosen Global) (mid : List Cell)
    (stack : Vec Cell Global) (q r found : Reference) (res : Result ⊤ Stop)
    → Parts next p old k (part here) → PoppedMany chosen_of choice_of k (Ok xs) old.stack.items mid → PoppedPair reference_of reference_of on_part (Some (q, r)) mid stack.items
    → Performed reference_of (λ (here : Here). part here (map chosen_of xs.items) (reference_of q) (reference_of r)) (Ok found) old.store old.store
    → WentOn (cell.Object found) res (record { pc = old.pc; stack = stack; here = old.here; frames = old.frames; store = old.store }) new → Follows code next res (state_of p new) here.place
parted_ok next code p here old new k part xs mid stack q r found res e h i c w =
    pushes code next here.place p (cell.Object found) res (record { pc = old.pc; stack = stack; here = old.here; frames = old.frames; store = old.store }) new
    (part here (map chosen_of xs.items) (reference_of q) (reference_of r)) (reference_of found) old.store (λ x. on (state_of p old) (s.Object x ∷ cells_of p stack.items))
    (parted_part next p old k (part here) xs mid stack.items q r e h i) (c here) refl w

pub parted_err : (next : Next) (code : Code) (p : Program) (here : Here) (old : State) (to : s.State) (k : ℕ) (part : Here → List m'.Chosen → m.Reference → m.Reference → Ran m.Reference) (xs : Vec Chosen Global) (mid stack : List Cell)
    (q r : Reference) (error : Stop)
    → Parts next p old k (part here) → PoppedMany chosen_of choice_of k (Ok xs) old.stack.items mid → PoppedPair reference_of reference_of on_part (Some (q, r)) mid stack
    → Performed reference_of (λ (here : Here). part here (map chosen_of xs.items) (reference_of q) (reference_of r)) (Err error) old.store old.store → Follows code next (Err error) to here.place
parted_err next code p here old to k part xs mid stack q r error e h i c =
    stops code next here to error reference_of (λ (here : Here). part here (map chosen_of xs.items) (reference_of q) (reference_of r)) old.store old.store (λ x. on (state_of p old) (s.Object x ∷ cells_of p stack))
    (parted_part next p old k (part here) xs mid stack q r e h i) c
