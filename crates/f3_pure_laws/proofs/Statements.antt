-- Statements of pure procedures are quiet.
use Rattle.std.proofs.Common.{◌≡◌, ℕ, zero, suc, ◌≤◌, ℤ, pos, Bool, true, false, List, [], ◌∷◌, ◌++◌, Option, None, Some, if◌then◌else◌, length}
use Rattle.std.specs.Prelude.{⊤, slice_index_or, nat_eq, nat_lt, ◌||◌}
use Rattle.f3_program.specs.declared.declarations.Base.TheVariants as base
use Rattle.f3_program.specs.declared.declarations.Kind.{Kind}
use Rattle.f3_program.specs.declared.expression.Designator as d
use Rattle.f3_program.specs.declared.expression.Expression as e
use Rattle.f3_program.specs.declared.expression.Name.{Name}
use Rattle.f3_program.specs.declared.expression.Name.TheVariants as n
use Rattle.f3_program.specs.declared.statement.Bounds.{Bounds}
use Rattle.f3_program.specs.declared.statement.Request.{Request}
use Rattle.f3_program.specs.declared.statement.Selector.{Selector}
use Rattle.f3_program.specs.declared.statement.Selector.TheVariants as selector
use Rattle.f3_program.specs.declared.program.Program.{Program}
use Rattle.f3_meaning_whole.specs.Value.{Span, Value, Number, Truth, Composite, Array, Unallocated, Allocated, count, conforms, spans_of}
use Rattle.f3_meaning_whole.specs.Store.{Root, Local}
use Rattle.f3_meaning_whole.specs.Reference.{Read, Reference, spans, is_pinned}
use Rattle.f3_meaning_whole.specs.declared.run_error.RunError.{RunError}
use Rattle.f3_meaning_whole.specs.declared.run_error.RunError.TheVariants.{NotAllocated}
use Rattle.f3_meaning_whole.specs.Ran.{Ran, fails}
use Rattle.f3_meaning_whole.specs.Act.{Here, Calls, lending, associating, to_root}
use Rattle.f3_meaning_whole.specs.Eval.{value, locate}
use Rattle.f3_meaning_whole.specs.Exec.{Flow, Onward, Cycled, Left, Returned, onward, next_turn, turns, counted, unless_failed, status_number, Association, allocate, too_many, overwrite, fill, renew, assign, answer, dimensions, allocate_all, deallocate, deallocate_all, take_over, move_alloc, selectors, increment, associates, new_value}
use Rattle.f3_meaning_whole.specs.Run.{setting_of}
use Rattle.f3_meaning_whole.specs.Permitted.{Each}
use Rattle.f3_meaning_laws.proofs.Keeping.{no}
use Rattle.f3_pure_laws.specs.References.{Refers, RefersIn, CallRefers, StatRefers, BoundsRefer, RequestRefers, SelectorRefers}
use Rattle.f3_pure_laws.specs.Pure.{definable_in, first_name, is_own, Owns, own_selectors, OwnsStat, MayEnd, CallsPure, OwnsRequest, EndsRequest}
use Rattle.f3_pure_laws.specs.Laws.{AreNewFree}
use Rattle.f3_pure_laws.proofs.Running.{Runs, Quiet, bind_runs, weaken, gives_runs, gives_quiet, fails_runs, beyond_runs, looks_quiet, if_runs, set_runs}
use Rattle.f3_pure_laws.proofs.Parts.{converted_quiet, claim_quiet, claim_for_quiet, result_quiet, request_quiet}
use Rattle.f3_pure_laws.proofs.Roots.{IsMine, contents_runs, associated_mine}
use Rattle.f3_pure_laws.proofs.Values.{CallsRun, ArePure, IsName, value_quiet, locate_runs, all_passed_run}
use Rattle.f3_pure_laws.proofs.Destroying.{end_quiet, free_quiet, finish_quiet}

-- ---- names

-- the objects of names that a procedure may change are at free roots
abbrev pub AreMine : (Root → Bool) → List Bool → List Reference → Type 0
AreMine free [] [] = ⊤
AreMine free [] (r ∷ rs) = ⊥
AreMine free (b ∷ bs) [] = ⊥
AreMine free (b ∷ bs) (r ∷ rs) = (b ≡ true → IsMine free r) × AreMine free bs rs

mine-append : (free : Root → Bool) (bs cs : List Bool) (rs qs : List Reference) → AreMine free bs rs → AreMine free cs qs → AreMine free (bs ++ cs) (rs ++ qs)
mine-append free [] cs [] qs h k = k
mine-append free [] cs (r ∷ rs) qs h k = absurd h
mine-append free (b ∷ bs) cs [] qs h k = absurd h
mine-append free (b ∷ bs) cs (r ∷ rs) qs h k = (h.0, mine-append free bs cs rs qs h.1 k)

mine_at : (free : Root → Bool) (bs : List Bool) (rs : List Reference) → AreMine free bs rs → (i : ℕ) (r : Reference) → slice_index_or bs i false ≡ true → IsMine free (slice_index_or rs i r)
mine_at free [] rs h i r e = no e
mine_at free (b ∷ bs) [] h i r e = absurd h
mine_at free (b ∷ bs) (q ∷ qs) h zero r e = h.0 e
mine_at free (b ∷ bs) (q ∷ qs) h (suc i) r e = mine_at free bs qs h.1 i r e

-- the variables and the names of a statement's place
abbrev pub Fits : ℕ → (Root → Bool) → List Bool → Here → Type 0
Fits level free names here = (level ≤ here.level) × AreMine free names here.names

module _ (p : Program) (pure : ℕ → Bool) (functions : ArePure pure p) (level : ℕ) (free : Root → Bool) (new : AreNewFree level free) where
  name_mine : (names : List Bool) (here : Here) → Fits level free names here → (y : Name) → is_own names y ≡ true → IsName p pure functions level free here y
  name_mine names here f (n.Static i) e = no e
  name_mine names here f (n.Local i) e = new here.level i f.0
  name_mine names here f (n.Lent i) e = mine_at free names here.names f.1 i (to_root (Local 0 0) base.Integer Read 0 Unallocated) e

  module _ (calls : Calls) (c : CallsRun pure p level free calls) (n : ℕ) (a : ℕ) (le : level ≤ a) where
    pub quiet_value : (x : e.Expression) (here : Here) → Refers p x → Quiet level free a (value (setting_of p) calls x here)
    quiet_value x here m = value_quiet p pure functions level free calls c a le x here m

    -- a variable that may be changed
    pub own_runs : (names : List Bool) (x : d.Designator) (here : Here) → Fits level free names here → RefersIn p x → Owns names x → Runs level free a a (IsMine free) (locate (setting_of p) calls x here)
    own_runs names x here f m o = weaken level free (λ r h. h (name_mine names here f (first_name x) o)) (locate_runs p pure functions level free calls c a le x here m)

    pub call_quiet : (names : List Bool) (x : e.Expression) (here : Here) → Fits level free names here → CallRefers p x → CallsPure p pure names x → Quiet level free a (value (setting_of p) calls x here)
    call_quiet names (e.Call' i k xs) here f m o = bind_runs level free (all_passed_run p pure functions level free calls c a le names (definable_in p i) here (name_mine names here f) xs m o.1) (λ ps h. bind_runs level free (c a le here i ps o.0 h) (λ v z. result_quiet level free a v here))
    call_quiet names (e.Literal z) here f m o = quiet_value (e.Literal z) here m
    call_quiet names (e.Variable' q x) here f m o = quiet_value (e.Variable' q x) here m
    call_quiet names (e.Group' q x) here f m o = quiet_value (e.Group' q x) here m
    call_quiet names (e.Unary' t of q x) here f m o = quiet_value (e.Unary' t of q x) here m
    call_quiet names (e.Binary' t of q x r y) here f m o = quiet_value (e.Binary' t of q x r y) here m
    call_quiet names (e.Array' k xs) here f m o = quiet_value (e.Array' k xs) here m
    call_quiet names (e.Structure' t k xs) here f m o = quiet_value (e.Structure' t k xs) here m
    call_quiet names (e.Allocated' q x) here f m o = quiet_value (e.Allocated' q x) here m
    call_quiet names (e.Size' q x) here f m o = quiet_value (e.Size' q x) here m
    call_quiet names (e.Bound' t q x r y) here f m o = quiet_value (e.Bound' t q x r y) here m

    -- ---- assignments

    overwrite_quiet : (k : Kind) (r : Reference) (v : Value) (here : Here) → MayEnd p pure k.of → IsMine free r → Quiet level free a (overwrite (setting_of p) n calls k r v here)
    overwrite_quiet k r v here m h =
        bind_runs level free (end_quiet p pure level free calls c a le k m r here h) (λ done z. bind_runs level free (converted_quiet level free a k.of v here.place) (λ v z. bind_runs level free (claim_for_quiet level free a v here) (λ done z. set_runs level free r v here h.1)))

    fill_quiet : (k : Kind) (r : Reference) (v : Value) (here : Here) → IsMine free r → Quiet level free a (fill (setting_of p) n calls k r v here)
    fill_quiet k r v here h =
        bind_runs level free (claim_quiet level free a here) (λ done z. bind_runs level free (set_runs level free r (new_value (setting_of p) k (spans_of v)) here h.1) (λ done z. bind_runs level free (contents_runs free level r here) (λ q i. bind_runs level free (converted_quiet level free a k.of v here.place) (λ v z. set_runs level free q v here (i h).1))))

    filled_or : (k : Kind) (r : Reference) (v : Value) (here : Here) → IsMine free r → Quiet level free a (if nat_eq k.rank (length (spans_of v)) then fill (setting_of p) n calls k r v here else fails NotAllocated here.place)
    filled_or k r v here h = if_runs level free (nat_eq k.rank (length (spans_of v))) (fill_quiet k r v here h) (fails_runs level free _ here.place)

    renew_quiet : (k : Kind) (r : Reference) (old v : Value) (here : Here) → MayEnd p pure k.of → IsMine free r → Quiet level free a (renew (setting_of p) n calls k r old v here)
    renew_quiet k r (Allocated x) v here m h =
        if_runs level free (conforms (spans_of x) v) (bind_runs level free (contents_runs free level r here) (λ q i. overwrite_quiet k q v here m (i h)))
        (bind_runs level free (free_quiet p pure level free calls c a le k m r here h) (λ done z. fill_quiet k r v here h))
    renew_quiet k r (Number z) v here m h = filled_or k r v here h
    renew_quiet k r (Truth z) v here m h = filled_or k r v here h
    renew_quiet k r (Composite vs) v here m h = filled_or k r v here h
    renew_quiet k r (Array ss vs) v here m h = filled_or k r v here h
    renew_quiet k r Unallocated v here m h = filled_or k r v here h

    pub assign_quiet : (k : Kind) (r : Reference) (v : Value) (here : Here) → MayEnd p pure k.of → IsMine free r → Quiet level free a (assign (setting_of p) n calls k r v here)
    assign_quiet k r v here m h =
        if_runs level free k.is_allocatable (bind_runs level free (looks_quiet level free _) (λ old z. renew_quiet k r old v here m h))
        (if_runs level free (conforms (spans r.reach) v) (overwrite_quiet k r v here m h) (fails_runs level free _ here.place))

    -- ---- allocation

    allocate_quiet : (k : Kind) (r : Reference) (ss : List Span) (here : Here) → IsMine free r → Quiet level free a (allocate (setting_of p) k r ss here)
    allocate_quiet k r ss here h =
        bind_runs level free (looks_quiet level free _) (λ already z. if_runs level free already (gives_quiet level free _) (if_runs level free (too_many ss || nat_lt 16777216 (count ss)) (gives_quiet level free _) (bind_runs level free (request_quiet level free a) (λ refused z. if_runs level free refused (gives_quiet level free _) (bind_runs level free (set_runs level free r (new_value (setting_of p) k ss) here h.1) (λ done z. gives_quiet level free _))))))

    deallocate_quiet : (k : Kind) (r : Reference) (here : Here) → MayEnd p pure k.of → IsMine free r → Quiet level free a (deallocate (setting_of p) n calls k r here)
    deallocate_quiet k r here m h =
        bind_runs level free (looks_quiet level free _) (λ x z. if_runs level free x (if_runs level free (is_pinned r.path here.lent) (gives_quiet level free _) (bind_runs level free (free_quiet p pure level free calls c a le k m r here h) (λ done z. gives_quiet level free _))) (gives_quiet level free _))

    take_quiet : (from to : Reference) (v : Value) (here : Here) → IsMine free from → IsMine free to → Quiet level free a (take_over (setting_of p) n calls from to v here)
    take_quiet from to (Allocated v) here h i = if_runs level free (is_pinned from.path here.lent) (fails_runs level free _ here.place) (bind_runs level free (set_runs level free from Unallocated here h.1) (λ done z. set_runs level free to (Allocated v) here i.1))
    take_quiet from to (Number z) here h i = gives_quiet level free tt
    take_quiet from to (Truth z) here h i = gives_quiet level free tt
    take_quiet from to (Composite vs) here h i = gives_quiet level free tt
    take_quiet from to (Array ss vs) here h i = gives_quiet level free tt
    take_quiet from to Unallocated here h i = gives_quiet level free tt

    pub move_quiet : (k : Kind) (from to : Reference) (here : Here) → MayEnd p pure k.of → IsMine free from → IsMine free to → Quiet level free a (move_alloc (setting_of p) n calls k from to here)
    move_quiet k from to here m h i =
        bind_runs level free (finish_quiet p pure level free calls c a le k m to (lending (from ∷ to ∷ []) here) i) (λ done z. bind_runs level free (looks_quiet level free _) (λ v z. take_quiet from to v (lending (from ∷ to ∷ []) here) h i))

    failed_quiet : (status : Option RunError) {m : Ran (Option RunError)} → Quiet level free a m → Quiet level free a (unless_failed status m)
    failed_quiet None h = h
    failed_quiet (Some error) h = gives_quiet level free _

    pub answer_quiet : (names : List Bool) (status : Option RunError) (o : Option d.Designator) (here : Here) → Fits level free names here → StatRefers p o → OwnsStat names o → Quiet level free a (answer (setting_of p) n calls status o here)
    answer_quiet names None None here f m o = gives_quiet level free tt
    answer_quiet names (Some error) None here f m o = fails_runs level free error here.place
    answer_quiet names status (Some x) here f m o = bind_runs level free (own_runs names x here f m o) (λ r h. set_runs level free r (Number (pos (status_number status))) here h.1)

    dimensions_quiet : (bs : List Bounds) (here : Here) → Each (BoundsRefer p) bs → Quiet level free a (dimensions (setting_of p) n calls bs here)
    dimensions_quiet [] here m = gives_quiet level free _
    dimensions_quiet (b ∷ bs) here m = bind_runs level free (quiet_value b.lower here m.0.0) (λ v z. bind_runs level free (quiet_value b.upper here m.0.1) (λ w z. bind_runs level free (dimensions_quiet bs here m.1) (λ ss z. gives_quiet level free _)))

    pub allocate_all_quiet : (names : List Bool) (rs : List Request) (here : Here) → Fits level free names here → Each (RequestRefers p) rs → Each (OwnsRequest p pure names) rs → Quiet level free a (allocate_all (setting_of p) n calls rs here)
    allocate_all_quiet names [] here f m o = gives_quiet level free _
    allocate_all_quiet names (r ∷ rs) here f m o =
        bind_runs level free (own_runs names r.object here f m.0.0 o.0) (λ h k. bind_runs level free (dimensions_quiet r.bounds.items here m.0.1) (λ ss z. bind_runs level free (allocate_quiet r.kind h ss here k) (λ status z. failed_quiet status (allocate_all_quiet names rs here f m.1 o.1))))

    pub deallocate_all_quiet : (names : List Bool) (rs : List Request) (here : Here) → Fits level free names here → Each (RequestRefers p) rs → Each (EndsRequest p pure names) rs → Quiet level free a (deallocate_all (setting_of p) n calls rs here)
    deallocate_all_quiet names [] here f m o = gives_quiet level free _
    deallocate_all_quiet names (r ∷ rs) here f m o =
        bind_runs level free (own_runs names r.object here f m.0.0 o.0.0) (λ h k. bind_runs level free (deallocate_quiet r.kind h here o.0.1 k) (λ status z. failed_quiet status (deallocate_all_quiet names rs here f m.1 o.1)))

    pub increment_quiet : (names : List Bool) (x : d.Designator) (k : Kind) (step : ℤ) (here : Here) → Fits level free names here → RefersIn p x → Owns names x → Quiet level free a (increment (setting_of p) n calls x k step here)
    increment_quiet names x k step here f m o =
        bind_runs level free (own_runs names x here f m o) (λ r h. bind_runs level free (looks_quiet level free _) (λ old z. bind_runs level free (converted_quiet level free a k.of _ here.place) (λ v z. set_runs level free r v here h.1)))

    -- ---- constructs

    pub onward_quiet : (flow : Flow) {m : Ran Flow} → Quiet level free a m → Quiet level free a (onward flow m)
    onward_quiet Onward h = h
    onward_quiet Cycled h = gives_quiet level free _
    onward_quiet Left h = gives_quiet level free _
    onward_quiet (Returned place) h = gives_quiet level free _

    next_quiet : (flow : Flow) {m : Ran Flow} → Quiet level free a m → Quiet level free a (next_turn flow m)
    next_quiet Onward h = h
    next_quiet Cycled h = h
    next_quiet Left h = gives_quiet level free _
    next_quiet (Returned place) h = gives_quiet level free _

    pub turns_quiet : (n : ℕ) (test : Ran Bool) (body : Ran Flow) → Quiet level free a test → Quiet level free a body → Quiet level free a (turns n test body)
    turns_quiet zero test body t b = bind_runs level free t (λ x z. if_runs level free x (beyond_runs level free) (gives_quiet level free _))
    turns_quiet (suc n) test body t b = bind_runs level free t (λ x z. if_runs level free x (bind_runs level free b (λ flow z. next_quiet flow (turns_quiet n test body t b))) (gives_quiet level free _))

    pub counted_quiet : (n k : ℕ) (body : Ran Flow) (next : Ran ⊤) → Quiet level free a body → Quiet level free a next → Quiet level free a (counted n k body next)
    counted_quiet n zero body next b x = gives_quiet level free _
    counted_quiet zero (suc k) body next b x = beyond_runs level free
    counted_quiet (suc n) (suc k) body next b x = bind_runs level free b (λ flow z. next_quiet flow (bind_runs level free x (λ done z. counted_quiet n k body next b x)))

    pub AsSelected : List Bool → List Selector → List Association → Type 0
    AsSelected names xs found = (l slot u : ℕ) → level ≤ l → AreMine free (own_selectors names xs) (associates found l slot u)

    pub selectors_run : (names : List Bool) (xs : List Selector) (here : Here) → Fits level free names here → Each (SelectorRefers p) xs → Runs level free a a (AsSelected names xs) (selectors (setting_of p) n calls xs here)
    unfolding AsSelected
    selectors_run names [] here f m = gives_runs level free _ (λ l slot u h. tt)
    selectors_run names (selector.Variable x ∷ xs) here f m =
        bind_runs level free (locate_runs p pure functions level free calls c a le x here m.0) (λ r k. bind_runs level free (selectors_run names xs here f m.1) (λ ps h. gives_runs level free _ (λ l slot u i. (λ e. associated_mine free r (k (name_mine names here f (first_name x) e)), h l slot u i))))
    selectors_run names (selector.Value k x ∷ xs) here f m =
        bind_runs level free (quiet_value x here m.0) (λ v z. bind_runs level free (claim_for_quiet level free a v here) (λ done z. bind_runs level free (selectors_run names xs here f m.1) (λ ps h. gives_runs level free _ (λ l slot u i. (λ e. no e, h l (suc slot) u i)))))

    -- in an ASSOCIATE
    pub fits_more : (names : List Bool) (xs : List Selector) (here : Here) (found : List Association) (l : ℕ) → level ≤ l → Fits level free names here → AsSelected names xs found
        → Fits level free (names ++ own_selectors names xs) (associating (associates found l 0 here.unit) here)
    unfolding AsSelected
    fits_more names xs here found l i f h = (f.0, mine-append free names (own_selectors names xs) here.names (associates found l 0 here.unit) f.1 (h l 0 here.unit i))
