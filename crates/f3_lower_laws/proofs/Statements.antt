-- The Core of statements and procedures does what they mean.
use Rattle.std.proofs.Common.{◌≡◌, ℕ, suc, ◌+◌, ℤ, Bool, true, false, List, [], ◌∷◌, ◌++◌, length, Option, None, Some, refl, sym, ap, ◌∙◌, arith}
use Rattle.std.proofs.Common.{append-nil, if◌then◌else◌}
use Rattle.std.specs.Prelude.{nat_eq, slice_get, map, not, ◌||◌}
use Rattle.f3_program.specs.declared.declarations.Base.{Base}
use Rattle.f3_program.specs.declared.declarations.Declared.{Declared}
use Rattle.f3_program.specs.declared.declarations.Kind.{Kind}
use Rattle.f3_program.specs.declared.expression.Designator.{Designator}
use Rattle.f3_program.specs.declared.statement.Bounds.{Bounds}
use Rattle.f3_program.specs.declared.statement.Item.{Item}
use Rattle.f3_program.specs.declared.statement.Item.TheVariants as item
use Rattle.f3_program.specs.declared.statement.Range.{Range}
use Rattle.f3_program.specs.declared.statement.Request.{Request}
use Rattle.f3_program.specs.declared.statement.Selector.{Selector}
use Rattle.f3_program.specs.declared.statement.Selector.TheVariants as selector
use Rattle.f3_program.specs.declared.statement.Statement as s
use Rattle.f3_program.specs.declared.program.Dummy.{Dummy}
use Rattle.f3_program.specs.declared.program.Intent.{Intent}
use Rattle.f3_program.specs.declared.program.Intent.TheVariants as intent
use Rattle.f3_program.specs.declared.program.Procedure.{Procedure}
use Rattle.f3_program.specs.declared.program.Program.{Program}
use Rattle.f3_meaning_whole.specs.Value.{Value, Number, Truth, Composite, Array, Unallocated, Allocated, truth_of, conforms, spans_of, number_of}
use Rattle.f3_meaning_whole.specs.Store.{Local, get}
use Rattle.f3_meaning_whole.specs.Reference.{Define, Reference, spans, is_pinned}
use Rattle.f3_meaning_whole.specs.declared.run_error.RunError.{RunError}
use Rattle.f3_meaning_whole.specs.Ran.{◌>>=◌, gives, fails, looks}
use Rattle.f3_meaning_whole.specs.Shape.{shape_in, shapes_of}
use Rattle.f3_meaning_whole.specs.Act.{Here, Passed, Calls, begins, leave, at, lending, contents, to_root, type_of, whole, set, passed_at}
use Rattle.f3_meaning_whole.specs.Run.{setting_of}
use Rattle.f3_meaning_whole.specs.declared.run_error.RunError.TheVariants.{ShapesDiffer}
use Rattle.f3_meaning_whole.specs.Arithmetic.{meets}
use Rattle.f3_meaning_whole.specs.Destroy.{deallocate_by, destroy, finish}
use Rattle.f3_meaning_whole.specs.Exec.{Flow, turns, result_in, declared_in, with_result, where_out, initialize, overwrite, fill, renew, assign, answer}
use Rattle.f3_meaning_whole.specs.Exec.{dimensions, items, selectors, some_meets, increment, block, outs, finish_locals}
use Rattle.f3_meaning_whole.specs.Exec as meaning
use Rattle.f3_code.specs.Work as w
use Rattle.f3_code.specs.Core as c
use Rattle.f3_code.specs.Exec.{works, works_each, transfer, by_state, discard_selectors, discard_arguments, finish_from, is_held, result_at}
use Rattle.f3_code.specs.Exec as core
use Rattle.f3_code.specs.Lower.{is_derived, discard_work, destroy_work, end_work, initial, overwriting, filling, assigning, allocation, deallocation}
use Rattle.f3_code.specs.Lower.{selecting, lowered, lowered_block, out_work, result_number, lowered_procedure, routines}
use Rattle.f3_lower_laws.proofs.Runs.{bind_same, then_same, nothing_then, if_same, onward_same, failed_same, turns_same, counted_same}
use Rattle.f3_lower_laws.proofs.Types.{all_follow, object_same, freed_same, finish_same}
use Rattle.f3_lower_laws.proofs.Expressions.{bare, value_same, locate_same}

-- the routines of a program's types
abbrev pub table : Program → List w.Work
table p = routines p.types.items

module _ (p : Program) (n : ℕ) (calls : Calls) where
  destroyed : (of : Base) (r : Reference) (here : Here) → works (bare p) n (table p) calls (destroy_work (setting_of p) of) r here
      ≡ destroy (setting_of p) calls (shape_in (shapes_of p.types.items) of) r here
  destroyed of r here = object_same p calls (length p.types.items) (shapes_of p.types.items) (table p) (all_follow p calls) of r here

  freed : (of : Base) (r : Reference) (here : Here) → works (bare p) n (table p) calls (w.Of_contents (destroy_work (setting_of p) of)) r here
      ≡ deallocate_by (destroy (setting_of p) calls (shape_in (shapes_of p.types.items) of)) r here
  freed of r here = freed_same p calls (length p.types.items) (shapes_of p.types.items) (table p) (all_follow p calls) of r here

  finished : (k : Kind) (r : Reference) (here : Here) → works (bare p) n (table p) calls (end_work (setting_of p) k) r here
      ≡ finish (setting_of p) calls k r here
  finished k r here = finish_same p calls (length p.types.items) (shapes_of p.types.items) (table p) (all_follow p calls) k r here

  -- ---- assignments

  overwritten : (k : Kind) (r : Reference) (v : Value) (here : Here) → transfer (bare p) n (table p) calls (overwriting (setting_of p) k) r v here
      ≡ overwrite (setting_of p) n calls k r v here
  overwritten k r v here = bind_same (destroyed k.of r here) (λ done. refl)

  filled : (k : Kind) (r : Reference) (v : Value) (here : Here) → transfer (bare p) n (table p) calls (filling (setting_of p) k) r v here
      ≡ fill (setting_of p) n calls k r v here
  filled k r v here = refl

  renewed : (k : Kind) (r : Reference) (old v : Value) (here : Here) →
      by_state old v (transfer (bare p) n (table p) calls (c.In_contents (overwriting (setting_of p) k)) r v here)
      (transfer (bare p) n (table p) calls (c.Behind (w.Of_contents (destroy_work (setting_of p) k.of)) (filling (setting_of p) k)) r v here)
      (transfer (bare p) n (table p) calls (c.Of_rank k.rank (filling (setting_of p) k)) r v here) ≡ renew (setting_of p) n calls k r old v here
  renewed k r (Allocated x) v here = if_same (conforms (spans_of x) v) (then_same (contents r here) (λ q. overwritten k q v here))
      (bind_same (freed k.of r here) (λ done. refl))
  renewed k r (Number z) v here = refl
  renewed k r (Truth b) v here = refl
  renewed k r (Composite vs) v here = refl
  renewed k r (Array ss vs) v here = refl
  renewed k r Unallocated v here = refl

  assigned : (k : Kind) (r : Reference) (v : Value) (here : Here) → transfer (bare p) n (table p) calls (assigning (setting_of p) k) r v here
      ≡ assign (setting_of p) n calls k r v here
  assigned k r v here = by k.is_allocatable
    where
      by : (b : Bool) → transfer (bare p) n (table p) calls
          (if b then c.By_state (c.In_contents (overwriting (setting_of p) k))
          (c.Behind (w.Of_contents (destroy_work (setting_of p) k.of)) (filling (setting_of p) k)) (c.Of_rank k.rank (filling (setting_of p) k))
          else c.Conforming (overwriting (setting_of p) k)) r v here
          ≡ (if b then (looks (λ store. get store r.path) >>= λ old. renew (setting_of p) n calls k r old v here)
          else (if conforms (spans r.reach) v then overwrite (setting_of p) n calls k r v here else fails ShapesDiffer here.place))
      by true = then_same _ (λ old. renewed k r old v here)
      by false = if_same (conforms (spans r.reach) v) (overwritten k r v here) refl

  -- ---- parts of statements

  answered : (status : Option RunError) (o : Option Designator) (here : Here) → answer (bare p) n calls status o here
      ≡ answer (setting_of p) n calls status o here
  answered None None here = refl
  answered (Some error) None here = refl
  answered status (Some d) here = bind_same (locate_same p calls d here) (λ r. refl)

  dimensions_same : (bs : List Bounds) (here : Here) → dimensions (bare p) n calls bs here ≡ dimensions (setting_of p) n calls bs here
  dimensions_same [] here = refl
  dimensions_same (b ∷ bs) here = bind_same (value_same p calls b.lower here)
      (λ l. bind_same (value_same p calls b.upper here) (λ u. bind_same (dimensions_same bs here) (λ ss. refl)))

  all_allocated : (rs : List Request) (here : Here) → core.allocate_all (bare p) n (table p) calls (map (allocation (setting_of p)) rs) here
      ≡ meaning.allocate_all (setting_of p) n calls rs here
  all_allocated [] here = refl
  all_allocated (r ∷ rs) here =
      bind_same (locate_same p calls r.object here)
      (λ h. bind_same (dimensions_same r.bounds.items here) (λ ss. then_same _ (λ status. failed_same status (all_allocated rs here))))

  one_deallocated : (k : Kind) (h : Reference) (here : Here) →
      core.deallocate (bare p) n (table p) calls (w.Of_contents (destroy_work (setting_of p) k.of)) h here ≡ meaning.deallocate (setting_of p) n calls k h here
  one_deallocated k h here = then_same _ (λ b. if_same b (if_same (is_pinned h.path here.lent) refl (bind_same (freed k.of h here) (λ done. refl))) refl)

  all_deallocated : (rs : List Request) (here : Here) → core.deallocate_all (bare p) n (table p) calls (map (deallocation (setting_of p)) rs) here
      ≡ meaning.deallocate_all (setting_of p) n calls rs here
  all_deallocated [] here = refl
  all_deallocated (r ∷ rs) here =
      bind_same (locate_same p calls r.object here) (λ h. bind_same (one_deallocated r.kind h here) (λ status. failed_same status (all_deallocated rs here)))

  moved_same : (k : Kind) (from to : Reference) (here : Here) → core.move_alloc (bare p) n (table p) calls (end_work (setting_of p) k) from to here
      ≡ meaning.move_alloc (setting_of p) n calls k from to here
  moved_same k from to here = bind_same (finished k to (lending (from ∷ to ∷ []) here)) (λ done. then_same _ (λ v. taken v))
    where
      taken : (v : Value) → meaning.take_over (bare p) n calls from to v (lending (from ∷ to ∷ []) here)
          ≡ meaning.take_over (setting_of p) n calls from to v (lending (from ∷ to ∷ []) here)
      taken (Allocated v) = refl
      taken (Number z) = refl
      taken (Truth b) = refl
      taken (Composite vs) = refl
      taken (Array ss vs) = refl
      taken Unallocated = refl

  items_same : (xs : List Item) (here : Here) → items (bare p) n calls xs here ≡ items (setting_of p) n calls xs here
  items_same [] here = refl
  items_same (item.Value e ∷ xs) here = bind_same (value_same p calls e here) (λ v. then_same _ (λ done. items_same xs here))
  items_same (item.Text t ∷ xs) here = then_same _ (λ done. items_same xs here)

  selected : (xs : List Selector) (here : Here) → core.selectors (bare p) n (table p) calls (map (selecting (setting_of p)) xs) here
      ≡ selectors (setting_of p) n calls xs here
  selected [] here = refl
  selected (selector.Variable d ∷ xs) here = bind_same (locate_same p calls d here) (λ r. bind_same (selected xs here) (λ found. refl))
  selected (selector.Value k e ∷ xs) here = bind_same (value_same p calls e here) (λ v. then_same _ (λ done. bind_same (selected xs here) (λ found. refl)))

  incremented : (d : Designator) (k : Kind) (step : ℤ) (here : Here) → increment (bare p) n calls d k step here ≡ increment (setting_of p) n calls d k step here
  incremented d k step here = bind_same (locate_same p calls d here) (λ r. refl)

  meets_same : (rs : List Range) (v : Value) → some_meets (bare p) n calls rs v ≡ some_meets (setting_of p) n calls rs v
  meets_same [] v = refl
  meets_same (r ∷ rs) v = if_same (meets r v) {x = true} refl (meets_same rs v)

  -- of what is discarded nothing shows
  discarded : (k : Kind) (r : Reference) (here : Here) → works (bare p) n (table p) calls (discard_work k) r here ≡ gives tt
  discarded k r here = by (is_derived k.of || not (nat_eq k.rank 0))
    where
      by : (b : Bool) → works (bare p) n (table p) calls (if b then w.Discard else w.Rest) r here ≡ gives tt
      by true = refl
      by false = refl

  selectors_discarded : (xs : List Selector) (rs : List Reference) (here : Here) →
      discard_selectors (bare p) n (table p) calls (map (selecting (setting_of p)) xs) rs here ≡ gives tt
  selectors_discarded [] rs here = refl
  selectors_discarded (selector.Variable d ∷ xs) [] here = refl
  selectors_discarded (selector.Variable d ∷ xs) (r ∷ rs) here = selectors_discarded xs rs here
  selectors_discarded (selector.Value k e ∷ xs) [] here = refl
  selectors_discarded (selector.Value k e ∷ xs) (r ∷ rs) here = bind_same (discarded k r here) (λ done. selectors_discarded xs rs here)
      ∙ nothing_then tt (λ done. gives tt)

  arguments_discarded : (k : ℕ) (ds : List Dummy) (rs : List Reference) (ps : List Passed) (here : Here) →
      discard_arguments (bare p) n (table p) calls k (map (λ (d : Dummy). discard_work d.kind) ds) rs ps here ≡ gives tt
  arguments_discarded k [] rs ps here = refl
  arguments_discarded k (d ∷ ds) [] ps here = refl
  arguments_discarded k (d ∷ ds) (r ∷ rs) ps here = bind_same (one (is_held (passed_at k ps))) (λ done. arguments_discarded (suc k) ds rs ps here)
      ∙ nothing_then tt (λ done. gives tt)
    where
      one : (b : Bool) → (if b then works (bare p) n (table p) calls (discard_work d.kind) r here else gives tt) ≡ gives tt
      one true = discarded d.kind r here
      one false = refl

  -- ---- statements

  mutual
    pub exec_same : (x : s.Statement) (here : Here) → core.exec (bare p) n (table p) calls (lowered (setting_of p) x) here
        ≡ meaning.exec (setting_of p) n calls x here
    exec_same (s.At' place true q x) here = then_same (begins (at place here)) (λ done. exec_same x (at place here))
    exec_same (s.At' place false q x) here = exec_same x (at place here)
    exec_same (s.Block' k xs) here = block_same xs here
    exec_same (s.Assign d k e) here = bind_same (value_same p calls e here)
        (λ v. bind_same (locate_same p calls d here) (λ r. bind_same (assigned k r v here) (λ done. refl)))
    exec_same (s.Call e) here = bind_same (value_same p calls e here) (λ v. refl)
    exec_same (s.MoveAlloc k true d e) here = bind_same (locate_same p calls d here)
        (λ r. bind_same (locate_same p calls e here) (λ q. bind_same (moved_same k r q here) (λ done. refl)))
    exec_same (s.MoveAlloc k false d e) here = bind_same (locate_same p calls d here)
        (λ r. bind_same (locate_same p calls e here) (λ q. bind_same (moved_same k q r here) (λ done. refl)))
    exec_same (s.Allocate rs stat) here = bind_same (all_allocated rs.items here) (λ status. bind_same (answered status stat here) (λ done. refl))
    exec_same (s.Deallocate rs stat) here = bind_same (all_deallocated rs.items here) (λ status. bind_same (answered status stat here) (λ done. refl))
    exec_same (s.Print xs) here = bind_same (items_same xs.items here) (λ done. refl)
    exec_same (s.Stop code) here = refl
    exec_same s.Return here = refl
    exec_same s.Cycle here = refl
    exec_same s.Exit here = refl
    exec_same (s.If' e q x r y) here = bind_same (value_same p calls e here) (λ v. if_same (truth_of v) (exec_same x here) (exec_same y here))
    exec_same (s.Select' e q x) here = bind_same (value_same p calls e here) (λ v. exec_same x _)
    exec_same (s.Case' rs q x r y) here =
        ap (λ (b : Bool). if b then core.exec (bare p) n (table p) calls (lowered (setting_of p) x) here
        else core.exec (bare p) n (table p) calls (lowered (setting_of p) y) here) (meets_same rs.items here.selected)
        ∙ if_same (some_meets (setting_of p) n calls rs.items here.selected) (exec_same x here) (exec_same y here)
    exec_same (s.While' e q x) here = turns_same n (bind_same (value_same p calls e here) (λ v. refl)) (exec_same x here)
    exec_same (s.Count' d k from to by q x) here =
        bind_same (value_same p calls from here)
        (λ v. then_same _ (λ first. bind_same (value_same p calls to here)
        (λ v. then_same _ (λ last. bind_same (value_same p calls by here)
        (λ v. then_same _ (λ step. then_same _
        (λ done. bind_same (locate_same p calls d here)
        (λ r. then_same _ (λ done. counted_same n _ (exec_same x here) (incremented d k (number_of step) here))))))))))
    exec_same (s.Associate' xs q x) here =
        bind_same (selected xs.items here) (λ found. then_same _ (λ level. then_same _ (λ done. bind_same (exec_same x _) (λ flow.
        bind_same (selectors_discarded xs.items _ here) (λ done. refl) ∙ nothing_then tt (λ done. leave level >>= λ done. gives flow)))))

    block_same : {m : _} (xs : s.Row_of-Statement m) (here : Here) → core.exec (bare p) n (table p) calls (lowered_block (setting_of p) xs) here
        ≡ block (setting_of p) n calls xs here
    block_same s.end_of-Statement here = refl
    block_same (s.more_of-Statement x rest) here = bind_same (exec_same x here) (λ flow. onward_same flow (block_same rest here))

  -- ---- calls

  begun : (ds : List Dummy) (rs : List Reference) (here : Here) →
      works_each (bare p) n (table p) calls (map (λ (d : Dummy). out_work (setting_of p) d.intent d.kind) ds) rs here ≡ outs (setting_of p) n calls ds rs here
  begun [] rs here = refl
  begun (d ∷ ds) [] here = refl
  begun (d ∷ ds) (r ∷ rs) here = bind_same (one d.intent) (λ done. begun ds rs here)
    where
      initialized : (b : Bool) → works (bare p) n (table p) calls (if b then w.Rest else w.Set (initial (setting_of p) d.kind.of)) r here
          ≡ (if b then gives tt else set r (initial (setting_of p) d.kind.of) here)
      initialized true = refl
      initialized false = refl

      one : (i : Intent) → works (bare p) n (table p) calls (out_work (setting_of p) i d.kind) r here
          ≡ where_out i (finish (setting_of p) calls d.kind r here >>= λ done. initialize (setting_of p) n calls d.kind r here)
      one intent.In = refl
      one intent.Out = bind_same (finished d.kind r here) (λ done. initialized d.kind.is_allocatable)
      one intent.InOut = refl

  locals_finished : (ds back : List Declared) (i : ℕ) (here : Here) → ((k : ℕ) → slice_get here.variables (i + k) ≡ slice_get (ds ++ back) k) →
      finish_from (bare p) n (table p) calls i (map (λ (d : Declared). end_work (setting_of p) d.kind) ds) here ≡ finish_locals (setting_of p) n calls ds i here
  locals_finished [] back i here stand = refl
  locals_finished (d ∷ ds) back i here stand =
      bind_same (ap (λ o. looks (λ store. to_root (Local here.level i) (type_of o) Define here.unit (get store (whole (Local here.level i)))))
      (ap (slice_get here.variables) (at_zero i) ∙ stand 0))
      (λ r. bind_same (finished d.kind r here)
      (λ done. locals_finished ds back (suc i) here (λ k. ap (slice_get here.variables) (one_on i k) ∙ stand (suc k))))
    where
      at_zero : (i : ℕ) → i ≡ i + 0
      at_zero i = omega arith

      one_on : (i k : ℕ) → suc i + k ≡ i + suc k
      one_on i k = omega arith

  -- the variables stand before the result
  pub variables_finished : (q : Procedure) (here : Here) → here.variables ≡ declared_in q →
      finish_from (bare p) n (table p) calls 0 (map (λ (d : Declared). end_work (setting_of p) d.kind) q.locals.items) here
      ≡ finish_locals (setting_of p) n calls q.locals.items 0 here
  variables_finished q here e = by q.result refl
    where
      from_zero : (k : ℕ) → 0 + k ≡ k
      from_zero k = omega arith

      by : (o : Option Declared) → q.result ≡ o →
          finish_from (bare p) n (table p) calls 0 (map (λ (d : Declared). end_work (setting_of p) d.kind) q.locals.items) here
          ≡ finish_locals (setting_of p) n calls q.locals.items 0 here
      by None h = locals_finished q.locals.items [] 0 here
          (λ k. ap (slice_get here.variables) (from_zero k)
          ∙ ap (λ vs. slice_get vs k) (e ∙ ap (with_result q.locals.items) h ∙ sym (append-nil q.locals.items)))
      by (Some d) h = locals_finished q.locals.items (d ∷ []) 0 here
          (λ k. ap (slice_get here.variables) (from_zero k) ∙ ap (λ vs. slice_get vs k) (e ∙ ap (with_result q.locals.items) h))

  result_same : (o : Option Declared) (i level : ℕ) → looks (result_at (result_number (setting_of p) o i) level)
      ≡ looks (λ store. result_in o (get store (whole (Local level i))))
  result_same None i level = refl
  result_same (Some d) i level = refl

  pub called_same : (q : Procedure) (ps : List Passed) (here : Here) →
      core.called (bare p) n (table p) calls (lowered_procedure (setting_of p) q) ps here ≡ meaning.called (setting_of p) n calls q ps here
  called_same q ps here =
      then_same _ (λ done. then_same _
      (λ level. then_same _ (λ done. then_same _
      (λ done. bind_same (begun q.dummies.items _ _)
      (λ done. bind_same (exec_same q.body _)
      (λ flow. then_same _ (λ place. bind_same (variables_finished q _ refl)
      (λ done. bind_same (result_same q.result (length q.locals.items) (suc level)) (λ v. then_same _ (λ done.
      bind_same (arguments_discarded 0 q.dummies.items _ ps here) (λ done. refl) ∙ nothing_then tt (λ done. leave level >>= λ done. gives v)))))))))))
