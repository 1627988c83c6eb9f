-- What statements mean.
use Rattle.std.specs.Prelude.{⊤, ℕ, zero, suc, ◌^◌, ℤ, pos, ◌+ℤ◌, Bool, true, false, ◌||◌, nat_eq, nat_lt, if◌then◌else◌, List, [], ◌∷◌}
use Rattle.std.specs.Prelude.{◌++◌, map, length, replicate, Option, None, Some}
use Rattle.std.specs.Fmt.{signed_decimal}
use Rattle.f3_places.specs.declared.source.Place.{Place}
use Rattle.f3_program.specs.declared.declarations.Base.{Base}
use Rattle.f3_program.specs.declared.declarations.Declared.{Declared}
use Rattle.f3_program.specs.declared.declarations.Kind.{Kind}
use Rattle.f3_program.specs.declared.expression.Designator.{Designator}
use Rattle.f3_program.specs.declared.statement.Bounds.{Bounds}
use Rattle.f3_program.specs.declared.statement.Item.{Item}
use Rattle.f3_program.specs.declared.statement.Item.TheVariants as item
use Rattle.f3_program.specs.declared.statement.Range.{Range}
use Rattle.f3_program.specs.declared.statement.Request.{Request}
use Rattle.f3_program.specs.declared.statement.Selector.{Selector}
use Rattle.f3_program.specs.declared.statement.Selector.TheVariants as selector
use Rattle.f3_program.specs.declared.statement.Statement as s
use Rattle.f3_program.specs.declared.program.Dummy.{Dummy}
use Rattle.f3_program.specs.declared.program.Intent.{Intent}
use Rattle.f3_program.specs.declared.program.Intent.TheVariants as intent
use Rattle.f3_program.specs.declared.program.Procedure.{Procedure}
use Rattle.f3_meaning_whole.specs.Value.{Span, Value, Number, Truth, Array, Unallocated, Allocated, joined, listed, number_of, truth_of}
use Rattle.f3_meaning_whole.specs.Value.{is_allocated, count, shown, conforms, spans_of}
use Rattle.f3_meaning_whole.specs.Store.{Local, get}
use Rattle.f3_meaning_whole.specs.Reference.{Right, Define, Read, Reach, One, Many, Reference, spans, is_pinned}
use Rattle.f3_meaning_whole.specs.declared.run_error.RunError.{RunError}
use Rattle.f3_meaning_whole.specs.declared.run_error.RunError.TheVariants.{NotAllocated, AlreadyAllocated, HeapHasNoRoom, ShapesDiffer}
use Rattle.f3_meaning_whole.specs.declared.run_error.RunError.TheVariants.{StepIsZero, InUse, ArrayTooLarge}
use Rattle.f3_meaning_whole.specs.Error.{error_number}
use Rattle.f3_meaning_whole.specs.Ran.{Asked, Ran, ◌>>=◌, gives, fails, stops, beyond, looks, does, asks, prints_bytes, each}
use Rattle.f3_meaning_whole.specs.Arithmetic.{converted, is_zero, meets, trips}
use Rattle.f3_meaning_whole.specs.Shape.{initial_of, initial_declared, shape_in}
use Rattle.f3_meaning_whole.specs.Act.{Setting, Here, Passed, Given, Lent, Calls, set, begins, enter, leave, claim, claim_for, at, lending}
use Rattle.f3_meaning_whole.specs.Act.{selecting, associating, whole, to_root, contents, moved}
use Rattle.f3_meaning_whole.specs.Eval.{value, locate}
use Rattle.f3_meaning_whole.specs.Destroy.{deallocate_by, destroy, finish}

-- how a statement is left: a RETURN tells its place, where locals are destroyed
pub data Flow : Type 0 where
  Onward : Flow
  Cycled : Flow
  Left : Flow
  Returned : Place → Flow

-- the rest, where a statement goes on to it
abbrev pub onward : Flow → Ran Flow → Ran Flow
onward Onward rest = rest
onward Cycled rest = gives Cycled
onward Left rest = gives Left
onward (Returned place) rest = gives (Returned place)

-- the next turn of a loop, unless it is left
abbrev pub next_turn : Flow → Ran Flow → Ran Flow
next_turn Onward rest = rest
next_turn Cycled rest = rest
next_turn Left rest = gives Onward
next_turn (Returned place) rest = gives (Returned place)

-- at most so many turns, each where the test holds
abbrev pub turns : ℕ → Ran Bool → Ran Flow → Ran Flow
turns zero test body = test >>= λ b. if b then beyond else gives Onward
turns (suc n) test body = test >>= λ b. if b then (body >>= λ flow. next_turn flow (turns n test body)) else gives Onward

-- a step of zero is an error (own rule)
abbrev pub unless_zero : ℤ → Here → Ran ⊤
unless_zero z here = if is_zero z then fails StepIsZero here.place else gives tt

-- at most so many of the turns that are left, each with what follows it
abbrev pub counted : ℕ → ℕ → Ran Flow → Ran ⊤ → Ran Flow
counted n zero body next = gives Onward
counted zero (suc k) body next = beyond
counted (suc n) (suc k) body next = body >>= λ flow. next_turn flow (next >>= λ done. counted n k body next)

-- a blank, then T or F, or least decimal digits with a minus where it is negative (own rule for ISO/IEC 1539-1:2004, 10.9.2)
abbrev pub text_of : Value → List ℕ
text_of (Number z) = 32 ∷ signed_decimal z
text_of (Truth true) = 32 ∷ 84 ∷ []
text_of (Truth false) = 32 ∷ 70 ∷ []
text_of v = []

abbrev pub print_value : Value → Ran ⊤
print_value (Array ss vs) = each (listed vs) (λ v. prints_bytes (text_of v))
print_value v = prints_bytes (text_of v)

-- ---- allocation

-- the values with which a new object begins
abbrev pub vacant : ℕ → List Span → Value → Value
vacant zero ss v = v
vacant (suc rank) ss v = Array ss (joined (replicate (count ss) v))

abbrev pub new_value : Setting → Kind → List Span → Value
new_value g k ss = Allocated (vacant k.rank ss (initial_of (shape_in g.shapes k.of)))

-- a request of an ALLOCATE: whether the heap refuses it
abbrev pub request : Ran Bool
request = do
  refused ← asks
  done ← does (λ store. Asked refused ∷ [])
  gives refused

abbrev pub too_many : List Span → Bool
too_many [] = false
too_many (s ∷ ss) = if nat_lt s.extent (2 ^ 63) then too_many ss else true

-- Already allocated, then more than 16,777,216 elements, then a request that is refused; else there is a new object (own
-- errors for 6.3.1).
abbrev pub allocate : Setting → Kind → Reference → List Span → Here → Ran (Option RunError)
allocate g k h ss here = do
  already ← looks (λ store. is_allocated (get store h.path))
  if already then gives (Some AlreadyAllocated) else (if too_many ss || nat_lt 16777216 (count ss) then gives (Some ArrayTooLarge)
      else (request >>= λ refused. if refused then gives (Some HeapHasNoRoom) else (set h (new_value g k ss) here >>= λ done. gives None)))

-- ---- calls

-- the values that are held
abbrev pub held : List Passed → List Value
held [] = []
held (Given k v ∷ ps) = v ∷ held ps
held (Lent k r ∷ ps) = held ps

-- the argument of a number for a dummy of a type, where the values that are held from a slot on stand on a level; checked
-- programs lack none
abbrev pub argument_at : ℕ → Base → List Passed → ℕ → ℕ → ℕ → Reference
argument_at k of [] level slot unit = to_root (Local (suc level) 0) of Define unit Unallocated
argument_at k of (Given i v ∷ ps) level slot unit = if nat_eq i k then to_root (Local level slot) of Read unit v else argument_at k of ps level (suc slot) unit
argument_at k of (Lent i r ∷ ps) level slot unit = if nat_eq i k then r else argument_at k of ps level slot unit

-- an INTENT(IN) dummy may only be read (5.1.2.7)
abbrev pub right_of : Intent → Right → Right
right_of intent.In r = Read
right_of intent.Out r = r
right_of intent.InOut r = r

abbrev pub based : List ℤ → List Span → List Span
based (l ∷ ls) (s ∷ ss) = record { lower = l; extent = s.extent } ∷ based ls ss
based ls ss = ss

-- an assumed-shape dummy has its own lower bounds (5.1.2.5.2)
abbrev pub based_reach : List ℤ → Reach → Reach
based_reach ls One = One
based_reach ls (Many ss ps) = Many (based ls ss) ps

-- what a dummy is for an actual argument (12.4.1.2)
abbrev pub bound : Dummy → Reference → Reference
bound d r = record {
  path = r.path;
  reach = based_reach d.lowers.items r.reach;
  of = r.of;
  right = right_of d.intent r.right;
  origin = r.origin;
  makers = r.makers;
}

abbrev pub dummies : ℕ → List Dummy → List Passed → ℕ → ℕ → List Reference
dummies k [] ps level unit = []
dummies k (d ∷ ds) ps level unit = bound d (argument_at k d.kind.of ps level 0 unit) ∷ dummies (suc k) ds ps level unit

abbrev pub shown_reach : Reach → Reach
shown_reach One = One
shown_reach (Many ss ps) = Many (shown ss) ps

-- the lower bounds of an associate name are the LBOUND of its selector (own rule for 8.1.4.3)
abbrev pub associated : Reference → Reference
associated r = moved r r.path (shown_reach r.reach)

-- what an associate name is for: a value of a type that is held, or an object (8.1.4.3)
pub data Association : Type 0 where
  Holds : Base → Value → Association
  Means : Reference → Association

abbrev pub held_by : List Association → List Value
held_by [] = []
held_by (Holds of v ∷ xs) = v ∷ held_by xs
held_by (Means r ∷ xs) = held_by xs

-- the objects of associate names, where the values that are held from a slot on stand on a level
abbrev pub associates : List Association → ℕ → ℕ → ℕ → List Reference
associates [] level slot unit = []
associates (Holds of v ∷ xs) level slot unit = to_root (Local level slot) of Read unit v ∷ associates xs level (suc slot) unit
associates (Means r ∷ xs) level slot unit = associated r ∷ associates xs level slot unit

abbrev pub initial_value : Setting → Declared → Value
initial_value g d = initial_declared d (initial_of (shape_in g.shapes d.kind.of))

-- for INTENT(OUT) alone
abbrev pub where_out : Intent → Ran ⊤ → Ran ⊤
where_out intent.In m = gives tt
where_out intent.Out m = m
where_out intent.InOut m = gives tt

abbrev pub with_result : List Declared → Option Declared → List Declared
with_result ds None = ds
with_result ds (Some d) = ds ++ d ∷ []

-- what is declared of the variables of an activation: the result stands behind the others
abbrev pub declared_in : Procedure → List Declared
declared_in p = with_result p.locals.items p.result

-- the variables of an activation begin with their initial values
abbrev pub variables : Setting → Procedure → List Value
variables g p = map (initial_value g) (declared_in p)

-- the result of a function, and some value of a subroutine
abbrev pub result_in : Option Declared → Value → Value
result_in None v = Truth false
result_in (Some d) v = v

-- where an activation is left: the place of a RETURN, or of the END, which begins then
abbrev pub left_at : Flow → Place → Here → Ran Place
left_at (Returned place) end here = gives place
left_at Onward end here = begins (at end here) >>= λ done. gives end
left_at Cycled end here = gives end
left_at Left end here = gives end

-- the number of an error, and 0 of none
abbrev pub status_number : Option RunError → ℕ
status_number None = 0
status_number (Some error) = error_number error

-- what follows where there was no error
abbrev pub unless_failed : Option RunError → Ran (Option RunError) → Ran (Option RunError)
unless_failed None rest = rest
unless_failed (Some error) rest = gives (Some error)

module _ (g : Setting) (n : ℕ) (calls : Calls) where
  abbrev pub initialize : Kind → Reference → Here → Ran ⊤
  initialize k r here = if k.is_allocatable then gives tt else set r (initial_of (shape_in g.shapes k.of)) here

  -- what was there is destroyed, then the value put there (7.4.1.3)
  abbrev pub overwrite : Kind → Reference → Value → Here → Ran ⊤
  overwrite k r v here = do
    done ← destroy g calls (shape_in g.shapes k.of) r here
    v ← converted k.of v here.place
    done ← claim_for v here
    set r v here

  -- a new object with the shape of the value and its bounds
  abbrev pub fill : Kind → Reference → Value → Here → Ran ⊤
  fill k h v here = do
    done ← claim here
    done ← set h (new_value g k (spans_of v)) here
    r ← contents h here
    v ← converted k.of v here.place
    set r v here

  abbrev pub renew : Kind → Reference → Value → Value → Here → Ran ⊤
  renew k h (Allocated old) v here = if conforms (spans_of old) v then (contents h here >>= λ r. overwrite k r v here)
      else (deallocate_by (destroy g calls (shape_in g.shapes k.of)) h here >>= λ done. fill k h v here)
  renew k h old v here = if nat_eq k.rank (length (spans_of v)) then fill k h v here else fails NotAllocated here.place

  -- an assignment of a value (7.4.1.3), to a whole allocatable with allocation (own rule)
  abbrev pub assign : Kind → Reference → Value → Here → Ran ⊤
  assign k r v here =
      if k.is_allocatable then (looks (λ store. get store r.path) >>= λ old. renew k r old v here)
      else (if conforms (spans r.reach) v then overwrite k r v here else fails ShapesDiffer here.place)

  -- How an ALLOCATE or DEALLOCATE ended: an error ends the run, or its number, 0 if there is none, is put into the STAT
  -- variable (6.3.1.3, 6.3.3.3), which is located last (own rule).
  abbrev pub answer : Option RunError → Option Designator → Here → Ran ⊤
  answer None None here = gives tt
  answer (Some error) None here = fails error here.place
  answer status (Some d) here = do
    r ← locate g calls d here
    set r (Number (pos (status_number status))) here

  abbrev pub dimensions : List Bounds → Here → Ran (List Span)
  dimensions [] here = gives []
  dimensions (b ∷ bs) here = do
    l ← value g calls b.lower here
    u ← value g calls b.upper here
    ss ← dimensions bs here
    gives (record { lower = number_of l; extent = trips (number_of l) (number_of u) (pos 1) } ∷ ss)

  -- object by object, up to the first that fails (own rule): the earlier ones keep their new state
  abbrev pub allocate_all : List Request → Here → Ran (Option RunError)
  allocate_all [] here = gives None
  allocate_all (r ∷ rs) here = do
    h ← locate g calls r.object here
    ss ← dimensions r.bounds.items here
    status ← allocate g r.kind h ss here
    unless_failed status (allocate_all rs here)

  -- not allocated, then in use (own errors for 6.3.3); else it is deallocated
  abbrev pub deallocate : Kind → Reference → Here → Ran (Option RunError)
  deallocate k h here = do
    allocated ← looks (λ store. is_allocated (get store h.path))
    if allocated then (if is_pinned h.path here.lent then gives (Some InUse)
        else (deallocate_by (destroy g calls (shape_in g.shapes k.of)) h here >>= λ done. gives None)) else gives (Some NotAllocated)

  abbrev pub deallocate_all : List Request → Here → Ran (Option RunError)
  deallocate_all [] here = gives None
  deallocate_all (r ∷ rs) here = do
    h ← locate g calls r.object here
    status ← deallocate r.kind h here
    unless_failed status (deallocate_all rs here)

  abbrev pub take_over : Reference → Reference → Value → Here → Ran ⊤
  take_over from to (Allocated v) here = if is_pinned from.path here.lent then fails InUse here.place
      else (set from Unallocated here >>= λ done. set to (Allocated v) here)
  take_over from to v here = gives tt

  -- MOVE_ALLOC (13.7.82), with both lent: TO is deallocated, then takes what FROM holds
  abbrev pub move_alloc : Kind → Reference → Reference → Here → Ran ⊤
  move_alloc k from to here = do
    done ← finish g calls k to (lending (from ∷ to ∷ []) here)
    v ← looks (λ store. get store from.path)
    take_over from to v (lending (from ∷ to ∷ []) here)

  -- each item is printed before the next is evaluated (own rule)
  abbrev pub items : List Item → Here → Ran ⊤
  items [] here = prints_bytes (10 ∷ [])
  items (item.Value e ∷ xs) here = do
    v ← value g calls e here
    done ← print_value v
    items xs here
  items (item.Text t ∷ xs) here = do
    done ← prints_bytes (32 ∷ t.items)
    items xs here

  -- a variable gives its reference, any other selector a value that is held
  abbrev pub selectors : List Selector → Here → Ran (List Association)
  selectors [] here = gives []
  selectors (selector.Variable d ∷ xs) here = do
    r ← locate g calls d here
    found ← selectors xs here
    gives (Means r ∷ found)
  selectors (selector.Value k e ∷ xs) here = do
    v ← value g calls e here
    done ← claim_for v here
    found ← selectors xs here
    gives (Holds k.of v ∷ found)

  -- the DO variable goes on by the step (8.1.6.4.2); it is looked up each time
  abbrev pub increment : Designator → Kind → ℤ → Here → Ran ⊤
  increment d k step here = do
    r ← locate g calls d here
    old ← looks (λ store. get store r.path)
    v ← converted k.of (Number (number_of old +ℤ step)) here.place
    set r v here

  abbrev pub some_meets : List Range → Value → Bool
  some_meets [] v = false
  some_meets (r ∷ rs) v = if meets r v then true else some_meets rs v

  abbrev mutual
    pub exec : s.Statement → Here → Ran Flow
    exec (s.At' place true p x) here = do
      done ← begins (at place here)
      exec x (at place here)
    exec (s.At' place false p x) here = exec x (at place here)
    exec (s.Block' k xs) here = block xs here
    exec (s.Assign d k e) here = do
      v ← value g calls e here
      r ← locate g calls d here
      done ← assign k r v here
      gives Onward
    exec (s.Call e) here = do
      v ← value g calls e here
      gives Onward
    exec (s.MoveAlloc k true d e) here = do
      r ← locate g calls d here
      q ← locate g calls e here
      done ← move_alloc k r q here
      gives Onward
    exec (s.MoveAlloc k false d e) here = do
      r ← locate g calls d here
      q ← locate g calls e here
      done ← move_alloc k q r here
      gives Onward
    exec (s.Allocate rs stat) here = do
      status ← allocate_all rs.items here
      done ← answer status stat here
      gives Onward
    exec (s.Deallocate rs stat) here = do
      status ← deallocate_all rs.items here
      done ← answer status stat here
      gives Onward
    exec (s.Print xs) here = do
      done ← items xs.items here
      gives Onward
    exec (s.Stop code) here = stops code
    exec s.Return here = gives (Returned here.place)
    exec s.Cycle here = gives Cycled
    exec s.Exit here = gives Left
    exec (s.If' e p x q y) here = do
      v ← value g calls e here
      if truth_of v then exec x here else exec y here
    exec (s.Select' e p x) here = do
      v ← value g calls e here
      exec x (selecting v here)
    exec (s.Case' rs p x q y) here = if some_meets rs.items here.selected then exec x here else exec y here
    exec (s.While' e p x) here = turns n (value g calls e here >>= λ v. gives (truth_of v)) (exec x here)
    exec (s.Count' d k e f h p x) here = do
      v ← value g calls e here
      first ← converted k.of v here.place
      v ← value g calls f here
      last ← converted k.of v here.place
      v ← value g calls h here
      step ← converted k.of v here.place
      done ← unless_zero (number_of step) here
      r ← locate g calls d here
      done ← set r first here
      counted n (trips (number_of first) (number_of last) (number_of step)) (exec x here) (increment d k (number_of step) here)
    exec (s.Associate' xs p x) here = do
      found ← selectors xs.items here
      level ← looks (λ store. length store.levels)
      done ← enter (held_by found)
      flow ← exec x (associating (associates found level 0 here.unit) here)
      done ← leave level
      gives flow

    pub block : {m : _} → s.Row_of-Statement m → Here → Ran Flow
    block s.end_of-Statement here = gives Onward
    block (s.more_of-Statement x rest) here = do
      flow ← exec x here
      onward flow (block rest here)

  -- locals are destroyed in the order of their declarations
  abbrev pub finish_locals : List Declared → ℕ → Here → Ran ⊤
  finish_locals [] i here = gives tt
  finish_locals (d ∷ ds) i here = do
    r ← looks (λ store. to_root (Local here.level i) d.kind.of Define here.unit (get store (whole (Local here.level i))))
    done ← finish g calls d.kind r here
    finish_locals ds (suc i) here

  -- INTENT(OUT) objects are deallocated, or destroyed and set to their initial values (12.4.1.7)
  abbrev pub outs : List Dummy → List Reference → Here → Ran ⊤
  outs (d ∷ ds) (r ∷ rs) here = do
    done ← where_out d.intent (finish g calls d.kind r here >>= λ done. initialize d.kind r here)
    outs ds rs here
  outs ds rs here = gives tt

  -- a call of a procedure by these arguments, from there (12.4)
  abbrev pub called : Procedure → List Passed → Here → Ran Value
  called p ps here = do
    done ← claim here
    level ← looks (λ store. length store.levels)
    done ← enter (held ps)
    done ← enter (variables g p)
    let rs : List Reference = dummies 0 p.dummies.items ps level here.unit
    let inner : Here = record {
      place = here.place;
      unit = p.unit;
      level = suc level;
      variables = declared_in p;
      names = rs;
      lent = rs ++ here.lent;
      selected = Unallocated;
    }
    done ← outs p.dummies.items rs inner
    flow ← exec p.body inner
    place ← left_at flow p.end inner
    done ← finish_locals p.locals.items 0 (at place inner)
    v ← looks (λ store. result_in p.result (get store (whole (Local (suc level) (length p.locals.items)))))
    done ← claim_for v (at place inner)
    done ← leave level
    gives v
