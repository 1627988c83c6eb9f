-- Objects take what instructions want for them, and give it back.
use Rattle.std.proofs.Common.{◌≡◌, ℕ, zero, suc, ◌+◌, Bool, true, false, List, [], ◌∷◌, ◌++◌, length, take, drop, Option, None, Some, refl, sym, ap, subst, arith, nat_lt, if◌then◌else◌, append_assoc, append-nil}
use Rattle.std.specs.Prelude.{◌||◌}
use Rattle.f3_meaning_whole.specs.Value.{Span, Value, Unallocated, Allocated, is_allocated, count, spans_of, spread}
use Rattle.f3_meaning_whole.specs.Store.{Store, Path, get, put, put_all}
use Rattle.f3_meaning_whole.specs.Reference.{Reference, paths}
use Rattle.f3_meaning_whole.specs.declared.run_error.RunError.{RunError}
use Rattle.f3_meaning_whole.specs.declared.run_error.RunError.TheVariants.{AlreadyAllocated, HeapHasNoRoom, ArrayTooLarge}
use Rattle.f3_meaning_whole.specs.Ran.{Event, Ran, ◌>>=◌, gives, looks, does, asks}
use Rattle.f3_meaning_whole.specs.Act.{Here, set, claim}
use Rattle.f3_meaning_whole.specs.Exec.{request, too_many, vacant}
use Rattle.f3_code.specs.Exec.{allocate}
use Rattle.f3_code.specs.State.{Cell, Object, Datum, Extent, Status, State, Next, Goes}
use Rattle.f3_code.specs.Machine.{performs, on, on_object, on_datum, extent_of, on_many}
use Rattle.f3_code.specs.Account.{block, words, objects, used}
use Rattle.f3_code.specs.Wants.{dimensions, renewed}
use Rattle.f3_code.specs.Wants as wants
use Rattle.f3_code.specs.Heap.{granted, with_answers}
use Rattle.f3_account_laws.specs.Laws.{IsPlace, ObjectsTakeWhatTheyWant, AssignmentsTakeWhatTheyWant, ObjectsAreGivenBack}
use Rattle.f3_account_laws.proofs.Putting.{put_used}
use Rattle.f3_account_laws.proofs.Taking.{store_after}

-- ---- one object of a store

one_allocated : (ps : List Path) (p : Path) (x : Value) (store : Store) → ps ≡ p ∷ [] → put_all ps (spread (length ps) (Allocated x)) store ≡ put store p (Allocated x)
one_allocated ps p x store e = rw e refl

one_freed : (ps : List Path) (p : Path) (store : Store) → ps ≡ p ∷ [] → put_all ps (spread (length ps) Unallocated) store ≡ put store p Unallocated
one_freed ps p store e = rw e refl

-- an object that is made takes its block
made : (store : Store) (r : Reference) (x : Value) → IsPlace store r → get store r.path ≡ Unallocated →
    used (put_all (paths r) (spread (length (paths r)) (Allocated x)) store) ≡ used store + block (words x)
made store r x h e =
    let a = ap used (one_allocated (paths r) r.path x store h.one) in
    let b = put_used store r.path (Allocated x) h.written in
    let c : words (get store r.path) ≡ 1 = ap words e in
    omega (arith, a, b, c)

-- one that is freed gives it back
freed : (store : Store) (r : Reference) (x : Value) → IsPlace store r → get store r.path ≡ Allocated x →
    used (put_all (paths r) (spread (length (paths r)) Unallocated) store) + block (words x) ≡ used store
freed store r x h e =
    let a = ap used (one_freed (paths r) r.path store h.one) in
    let b = put_used store r.path Unallocated h.written in
    let c : words (get store r.path) ≡ 1 + block (words x) = ap words e in
    omega (arith, a, b, c)

-- ---- ALLOCATE

-- where it goes on with the dimensions
dimensions_go : (k : ℕ) (xs : List Span) (stack : List Cell) (f : List Span → List Cell → Next) (out : List Event) (t : State) →
    on_many extent_of k xs stack f ≡ Goes out t → f (dimensions (take k stack) ++ xs) (drop k stack) ≡ Goes out t
dimensions_go zero xs stack f out t e = e
dimensions_go (suc k) xs [] f out t e = cc e
dimensions_go (suc k) xs (Extent x ∷ stack) f out t e =
    subst (λ ss. f ss (drop k stack) ≡ Goes out t) (sym (append_assoc (dimensions (take k stack)) (x ∷ []) xs)) (dimensions_go k (x ∷ xs) stack f out t e)
dimensions_go (suc k) xs (c ∷ stack) f out t e = cc e

-- what an ALLOCATE does, by whether there is an object, and whether it has too many elements
abbrev allocate_by : Bool → Bool → Reference → Value → Here → Ran (Option RunError)
allocate_by already large r x here = if already then gives (Some AlreadyAllocated) else (if large then gives (Some ArrayTooLarge)
    else (request >>= λ refused. if refused then gives (Some HeapHasNoRoom) else (set r (Allocated x) here >>= λ done. gives None)))

allocate_takes : (already large : Bool) (s : State) (rest : List Cell) (r : Reference) (x : Value) (here : Here) (w : ℕ) (out : List Event) (t : State) →
    already ≡ false → IsPlace s.world.store r → get s.world.store r.path ≡ Unallocated →
    (if already then None else (if large then None else Some (block (words x)))) ≡ Some w →
    performs (allocate_by already large r x here) (record { store = s.world.store; answers = granted }) (λ status. on (with_answers granted s) (Status status ∷ rest)) ≡ Goes out t →
    used t.world.store ≡ used s.world.store + w
unfolding ◌>>=◌ gives looks does asks
allocate_takes true large s rest r x here w out t n h u d e = cc n
allocate_takes false true s rest r x here w out t n h u d e = cc d
allocate_takes false false s rest r x here w out t n h u d e =
    let after : used (put_all (paths r) (spread (length (paths r)) (Allocated x)) s.world.store) ≡ used t.world.store = ap (λ n. used (store_after n)) e in
    let taken = made s.world.store r x h u in
    let wanted : block (words x) ≡ w = cc d in
    omega (arith, after, taken, wanted)

allocates : (s : State) (rest : List Cell) (rank : ℕ) (v : Value) (r : Reference) (ss : List Span) (here : Here) (w : ℕ) (out : List Event) (t : State) →
    IsPlace s.world.store r → get s.world.store r.path ≡ Unallocated → wants.allocated s.world.store rank v ss (Object r ∷ rest) ≡ Some w →
    performs (allocate rank v r ss here) (record { store = s.world.store; answers = granted }) (λ status. on (with_answers granted s) (Status status ∷ rest)) ≡ Goes out t →
    used t.world.store ≡ used s.world.store + w
unfolding ◌>>=◌ gives looks does asks
allocates s rest rank v r ss here w out t h u d e =
    allocate_takes (is_allocated (get s.world.store r.path)) (too_many ss || nat_lt 16777216 (count ss)) s rest r (vacant rank ss v) here w out t (ap is_allocated u) h u d e

pub objects_take_what_they_want : ObjectsTakeWhatTheyWant
objects_take_what_they_want rank k v s r rest top h u limit g code here w out t d e =
    let gone = dimensions_go k [] s.stack _ out t e in
    let ss : List Span = dimensions (take k s.stack) in
    let does_so : List Span → List Cell → Next = λ ss cells. on_object cells (λ r st.
    performs (allocate rank v r ss here) (record { store = s.world.store; answers = granted }) (λ status. on (with_answers granted s) (Status status ∷ st))) in
    let one : does_so ss (drop k s.stack) ≡ Goes out t = subst (λ ss. does_so ss (drop k s.stack) ≡ Goes out t) (append-nil ss) gone in
    let two : does_so ss (Object r ∷ rest) ≡ Goes out t = subst (λ cells. does_so ss cells ≡ Goes out t) top one in
    let wanted : wants.allocated s.world.store rank v ss (Object r ∷ rest) ≡ Some w = subst (λ cells. wants.allocated s.world.store rank v ss cells ≡ Some w) top d in
    allocates s rest rank v r ss here w out t h u wanted two

-- ---- assignments

-- a new object, where it goes on
new_takes : (s : State) (r : Reference) (x : Value) (here : Here) (out : List Event) (t : State) →
    IsPlace s.world.store r → get s.world.store r.path ≡ Unallocated →
    performs (claim here >>= λ done. set r (Allocated x) here) (record { store = s.world.store; answers = granted }) (λ done. on (with_answers granted s) s.stack) ≡ Goes out t →
    used t.world.store ≡ used s.world.store + block (words x)
unfolding ◌>>=◌ gives does asks
new_takes s r x here out t h u e =
    let after : used (put_all (paths r) (spread (length (paths r)) (Allocated x)) s.world.store) ≡ used t.world.store = ap (λ n. used (store_after n)) e in
    let taken = made s.world.store r x h u in
    omega (arith, after, taken)

pub assignments_take_what_they_want : AssignmentsTakeWhatTheyWant
assignments_take_what_they_want limit g code rank v here s r x rest w out t top h u d e =
    let new : List Cell → Next = λ cells. on_object cells (λ r st. on_datum st (λ x st.
    performs (claim here >>= λ done. set r (Allocated (vacant rank (spans_of x) v)) here) (record { store = s.world.store; answers = granted })
    (λ done. on (with_answers granted s) s.stack))) in
    let goes : new (Object r ∷ Datum x ∷ rest) ≡ Goes out t = subst (λ cells. new cells ≡ Goes out t) top e in
    let some : renewed rank v (Object r ∷ Datum x ∷ rest) ≡ Some w = subst (λ cells. renewed rank v cells ≡ Some w) top d in
    let wanted : block (words (vacant rank (spans_of x) v)) + objects x ≡ w = cc some in
    let taken = new_takes s r (vacant rank (spans_of x) v) here out t h u goes in
    omega (arith, taken, wanted)

-- ---- what is freed

free_gives : (s : State) (r : Reference) (x : Value) (here : Here) (out : List Event) (t : State) →
    IsPlace s.world.store r → get s.world.store r.path ≡ Allocated x →
    performs (set r Unallocated here) s.world (λ done. on s s.stack) ≡ Goes out t → used t.world.store + block (words x) ≡ used s.world.store
unfolding does
free_gives s r x here out t h u e =
    let after : used (put_all (paths r) (spread (length (paths r)) Unallocated) s.world.store) ≡ used t.world.store = ap (λ n. used (store_after n)) e in
    let given = freed s.world.store r x h u in
    omega (arith, after, given)

pub objects_are_given_back : ObjectsAreGivenBack
objects_are_given_back limit g code v here s r x rest out t top h u e =
    let frees : List Cell → Next = λ cells. on_object cells (λ r st. performs (set r Unallocated here) s.world (λ done. on s s.stack)) in
    free_gives s r x here out t h u (subst (λ cells. frees cells ≡ Goes out t) top e)
