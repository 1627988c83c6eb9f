-- What Core does, over the stores, worlds, events and references of the meaning. Expressions and designators are those of the source.
use Rattle.std.specs.Prelude.{⊤, ℕ, suc, Bool, true, false, ◌||◌, nat_eq, nat_lt, if◌then◌else◌, List, [], ◌∷◌, ◌++◌, length, Option, None, Some}
use Rattle.f3_program.specs.declared.expression.Name.TheVariants as name
use Rattle.f3_meaning_whole.specs.Value.{Span, Value, Truth, Unallocated, Allocated, number_of, truth_of, is_allocated, count, conforms, spans_of}
use Rattle.f3_meaning_whole.specs.Store.{Store, Local, get}
use Rattle.f3_meaning_whole.specs.Reference.{Reference, spans, is_pinned}
use Rattle.f3_meaning_whole.specs.declared.run_error.RunError.{RunError}
use Rattle.f3_meaning_whole.specs.declared.run_error.RunError.TheVariants.{NotAllocated, AlreadyAllocated, HeapHasNoRoom, ShapesDiffer, InUse, ArrayTooLarge}
use Rattle.f3_meaning_whole.specs.Ran.{Ran, ◌>>=◌, gives, fails, stops, looks}
use Rattle.f3_meaning_whole.specs.Arithmetic.{converted, trips}
use Rattle.f3_meaning_whole.specs.Act.{Setting, Here, Passed, Given, Lent, Calls, set, begins, enter, leave, claim, claim_for, at, lending, selecting}
use Rattle.f3_meaning_whole.specs.Act.{associating, whole, named, contents, passed_at}
use Rattle.f3_meaning_whole.specs.Eval.{value, locate}
use Rattle.f3_meaning_whole.specs.Exec.{Flow, Onward, Cycled, Left, Returned, onward, turns, unless_zero, counted, vacant, request, too_many, held}
use Rattle.f3_meaning_whole.specs.Exec.{dummies, Association, Holds, Means, held_by, associates, left_at, unless_failed}
use Rattle.f3_meaning_whole.specs.Exec as meaning
use Rattle.f3_code.specs.Work.{Work, work, routines_of, work_each}
use Rattle.f3_code.specs.Core as c

-- a new object: already allocated, then too many elements, then refused (own errors for ISO/IEC 1539-1:2004, 6.3.1)
abbrev pub allocate : ℕ → Value → Reference → List Span → Here → Ran (Option RunError)
allocate rank element h ss here = do
  already ← looks (λ store. is_allocated (get store h.path))
  if already then gives (Some AlreadyAllocated) else (if too_many ss || nat_lt 16777216 (count ss) then gives (Some ArrayTooLarge)
      else (request >>= λ refused. if refused then gives (Some HeapHasNoRoom) else (set h (Allocated (vacant rank ss element)) here >>= λ done. gives None)))

-- by the state of an allocatable variable and the shape of a value (own rule for 7.4.1.3)
abbrev pub by_state : {A : Type 0} → Value → Value → A → A → A → A
by_state (Allocated old) v same other unallocated = if conforms (spans_of old) v then same else other
by_state old v same other unallocated = unallocated

-- whether an argument is a value that is held (12.4.1.2)
abbrev pub is_held : Option Passed → Bool
is_held None = false
is_held (Some (Given k v)) = true
is_held (Some (Lent k r)) = false

-- the value of a function's result, by its number on the level of the activation, and some value of a subroutine (12.5.2.1)
abbrev pub result_at : Option ℕ → ℕ → Store → Value
result_at None level store = Truth false
result_at (Some i) level store = get store (whole (Local level i))

module _ (g : Setting) (n : ℕ) (types : List Work) (calls : Calls) where
  -- the work on an object, with the routines of the program's types (4.5.5.1, 6.3.3)
  abbrev pub works : Work → Reference → Here → Ran ⊤
  works x r here = work g calls (routines_of g calls types) x r here

  -- so on each of a list of objects
  abbrev pub works_each : List Work → List Reference → Here → Ran ⊤
  works_each xs rs here = work_each g calls (routines_of g calls types) xs rs here

  -- the value goes to the variable (7.4.1.3)
  abbrev pub transfer : c.Transfer → Reference → Value → Here → Ran ⊤
  transfer (c.Conforming x) r v here = if conforms (spans r.reach) v then transfer x r v here else fails ShapesDiffer here.place
  transfer (c.By_state x y z) r v here = looks (λ store. get store r.path) >>=
      λ old. by_state old v (transfer x r v here) (transfer y r v here) (transfer z r v here)
  transfer (c.Of_rank rank x) r v here = if nat_eq rank (length (spans_of v)) then transfer x r v here else fails NotAllocated here.place
  transfer (c.Behind x y) r v here = do
    done ← works x r here
    transfer y r v here
  transfer (c.New rank element x) r v here = do
    done ← claim here
    done ← set r (Allocated (vacant rank (spans_of v) element)) here
    transfer x r v here
  transfer (c.In_contents x) r v here = do
    q ← contents r here
    transfer x q v here
  transfer (c.Take of) r v here = do
    v ← converted of v here.place
    done ← claim_for v here
    set r v here
  transfer (c.Fill of) r v here = do
    v ← converted of v here.place
    set r v here

  -- object by object, up to the first that fails (own rule)
  abbrev pub allocate_all : List c.Allocation → Here → Ran (Option RunError)
  allocate_all [] here = gives None
  allocate_all (x ∷ xs) here = do
    h ← locate g calls x.object here
    ss ← meaning.dimensions g n calls x.bounds here
    status ← allocate x.rank x.element h ss here
    unless_failed status (allocate_all xs here)

  -- not allocated, then in use (own errors for 6.3.3); else it is deallocated
  abbrev pub deallocate : Work → Reference → Here → Ran (Option RunError)
  deallocate free h here = do
    allocated ← looks (λ store. is_allocated (get store h.path))
    if allocated then (if is_pinned h.path here.lent then gives (Some InUse) else (works free h here >>= λ done. gives None)) else gives (Some NotAllocated)

  abbrev pub deallocate_all : List c.Deallocation → Here → Ran (Option RunError)
  deallocate_all [] here = gives None
  deallocate_all (x ∷ xs) here = do
    h ← locate g calls x.object here
    status ← deallocate x.free h here
    unless_failed status (deallocate_all xs here)

  -- both are lent; the work on TO, then it takes what FROM holds (13.7.82)
  abbrev pub move_alloc : Work → Reference → Reference → Here → Ran ⊤
  move_alloc x from to here = do
    done ← works x to (lending (from ∷ to ∷ []) here)
    v ← looks (λ store. get store from.path)
    meaning.take_over g n calls from to v (lending (from ∷ to ∷ []) here)

  -- an object that is bound, or a value that is held (8.1.4.3)
  abbrev pub selectors : List c.Selector → Here → Ran (List Association)
  selectors [] here = gives []
  selectors (c.Bind d ∷ xs) here = do
    r ← locate g calls d here
    found ← selectors xs here
    gives (Means r ∷ found)
  selectors (c.Hold of e at_end ∷ xs) here = do
    v ← value g calls e here
    done ← claim_for v here
    found ← selectors xs here
    gives (Holds of v ∷ found)

  -- held selectors go, in order (own rule)
  abbrev pub discard_selectors : List c.Selector → List Reference → Here → Ran ⊤
  discard_selectors (c.Bind d ∷ xs) (r ∷ rs) here = discard_selectors xs rs here
  discard_selectors (c.Hold of e at_end ∷ xs) (r ∷ rs) here = do
    done ← works at_end r here
    discard_selectors xs rs here
  discard_selectors xs rs here = gives tt

  -- what a statement does, by its form, with the clauses of Core
  abbrev pub exec : c.Core → Here → Ran Flow
  exec (c.At place true x) here = do
    done ← begins (at place here)
    exec x (at place here)
  exec (c.At place false x) here = exec x (at place here)
  exec c.Skip here = gives Onward
  exec (c.Then x y) here = do
    flow ← exec x here
    onward flow (exec y here)
  exec (c.Assign d x e) here = do
    v ← value g calls e here
    r ← locate g calls d here
    done ← transfer x r v here
    gives Onward
  exec (c.Call e) here = do
    v ← value g calls e here
    gives Onward
  exec (c.Move true x d e) here = do
    r ← locate g calls d here
    q ← locate g calls e here
    done ← move_alloc x r q here
    gives Onward
  exec (c.Move false x d e) here = do
    r ← locate g calls d here
    q ← locate g calls e here
    done ← move_alloc x q r here
    gives Onward
  exec (c.Allocate xs stat) here = do
    status ← allocate_all xs here
    done ← meaning.answer g n calls status stat here
    gives Onward
  exec (c.Deallocate xs stat) here = do
    status ← deallocate_all xs here
    done ← meaning.answer g n calls status stat here
    gives Onward
  exec (c.Print xs) here = do
    done ← meaning.items g n calls xs here
    gives Onward
  exec (c.Stop code) here = stops code
  exec c.Return here = gives (Returned here.place)
  exec c.Cycle here = gives Cycled
  exec c.Exit here = gives Left
  exec (c.If e x y) here = do
    v ← value g calls e here
    if truth_of v then exec x here else exec y here
  exec (c.Select e x) here = do
    v ← value g calls e here
    exec x (selecting v here)
  exec (c.Case ranges x y) here = if meaning.some_meets g n calls ranges here.selected then exec x here else exec y here
  exec (c.While e x) here = turns n (value g calls e here >>= λ v. gives (truth_of v)) (exec x here)
  exec (c.Count d k from to by x) here = do
    v ← value g calls from here
    first ← converted k.of v here.place
    v ← value g calls to here
    last ← converted k.of v here.place
    v ← value g calls by here
    step ← converted k.of v here.place
    done ← unless_zero (number_of step) here
    r ← locate g calls d here
    done ← set r first here
    counted n (trips (number_of first) (number_of last) (number_of step)) (exec x here) (meaning.increment g n calls d k (number_of step) here)
  exec (c.Associate xs x) here = do
    found ← selectors xs here
    level ← looks (λ store. length store.levels)
    done ← enter (held_by found)
    flow ← exec x (associating (associates found level 0 here.unit) here)
    done ← discard_selectors xs (associates found level 0 here.unit) here
    done ← leave level
    gives flow

  -- the work on the variables of an activation, by their numbers from one on (4.5.5.2, 6.3.3.1)
  abbrev pub finish_from : ℕ → List Work → Here → Ran ⊤
  finish_from i [] here = gives tt
  finish_from i (x ∷ xs) here = do
    r ← named g (name.Local i) here
    done ← works x r here
    finish_from (suc i) xs here

  -- held arguments go, in the order of the dummies from one on (own rule)
  abbrev pub discard_arguments : ℕ → List Work → List Reference → List Passed → Here → Ran ⊤
  discard_arguments k (x ∷ xs) (r ∷ rs) ps here = do
    done ← if is_held (passed_at k ps) then works x r here else gives tt
    discard_arguments (suc k) xs rs ps here
  discard_arguments k xs rs ps here = gives tt

  -- a call of a procedure by these arguments, from there (12.4)
  abbrev pub called : c.Procedure → List Passed → Here → Ran Value
  called p ps here = do
    done ← claim here
    level ← looks (λ store. length store.levels)
    done ← enter (held ps)
    done ← enter p.initial
    let rs : List Reference = dummies 0 p.dummies ps level here.unit
    let inner : Here = record {
      place = here.place;
      unit = p.unit;
      level = suc level;
      variables = p.variables;
      names = rs;
      lent = rs ++ here.lent;
      selected = Unallocated;
    }
    done ← works_each p.begin rs inner
    flow ← exec p.body inner
    place ← left_at flow p.end inner
    done ← finish_from 0 p.finish (at place inner)
    v ← looks (result_at p.result (suc level))
    done ← claim_for v (at place inner)
    done ← discard_arguments 0 p.discard rs ps here
    done ← leave level
    gives v
