-- With more turns a run only grows.
use Rattle.std.proofs.Common.{◌≡◌, ℕ, zero, suc, ◌≤◌, Bool, true, false, List, [], ◌∷◌, ◌++◌, Option, None, Some, refl, sym, ap, ◌∙◌, append_assoc, append-nil, arith, if◌then◌else◌}
use Rattle.std.specs.Prelude.{⊤, slice_get}
use Rattle.f3_program.specs.declared.declarations.Declared.{Declared}
use Rattle.f3_program.specs.declared.declarations.Kind.{Kind}
use Rattle.f3_program.specs.declared.expression.Argument as a
use Rattle.f3_program.specs.declared.expression.Designator as d
use Rattle.f3_program.specs.declared.expression.Expression as e
use Rattle.f3_program.specs.declared.expression.Selection as l
use Rattle.f3_program.specs.declared.expression.Subscript as u
use Rattle.f3_program.specs.declared.statement.Bounds.{Bounds}
use Rattle.f3_program.specs.declared.statement.Item.{Item}
use Rattle.f3_program.specs.declared.statement.Item.TheVariants as item
use Rattle.f3_program.specs.declared.statement.Request.{Request}
use Rattle.f3_program.specs.declared.statement.Selector.{Selector}
use Rattle.f3_program.specs.declared.statement.Selector.TheVariants as selector
use Rattle.f3_program.specs.declared.statement.Statement as s
use Rattle.f3_program.specs.declared.program.Dummy.{Dummy}
use Rattle.f3_program.specs.declared.program.Intent.{Intent}
use Rattle.f3_program.specs.declared.program.Intent.TheVariants as intent
use Rattle.f3_program.specs.declared.program.Procedure.{Procedure}
use Rattle.f3_program.specs.declared.program.Program.{Program}
use Rattle.f3_meaning_whole.specs.declared.run_error.RunError.{RunError}
use Rattle.f3_meaning_whole.specs.Value.{Value, Number, Truth, Composite, Array, Unallocated, Allocated, truth_of, conforms, spans_of}
use Rattle.f3_meaning_whole.specs.Reference.{Reach, One, Many, Reference, spans, is_pinned}
use Rattle.f3_meaning_whole.specs.Ran.{Event, End, Gives, Fails, Stops, Beyond, Outcome, Ran, behind, go_on, after, ◌>>=◌, beyond, each}
use Rattle.f3_meaning_whole.specs.Shape.{Shape, Whole, Logical, Record, Parts, nothing, and}
use Rattle.f3_meaning_whole.specs.Act.{Setting, Here, Passed, Calls, at, lending}
use Rattle.f3_meaning_whole.specs.Eval.{by_reach, value, bounds, argument, arguments, locate, select, select_in_each, chosen, subscript}
use Rattle.f3_meaning_whole.specs.Destroy.{is_destroyed, deallocate_by, release_by, finish_by, finalize, destroy, destroy_parts, finish}
use Rattle.f3_meaning_whole.specs.Exec.{Flow, Onward, Cycled, Left, Returned, onward, next_turn, turns, counted, where_out, unless_failed, overwrite, renew, assign, answer, dimensions, allocate_all, deallocate, deallocate_all, move_alloc, items, selectors, some_meets, exec, block, finish_locals, outs, called}
use Rattle.f3_meaning_whole.specs.Run.{call_of, calls_of, setting_of, first_here, first_world, main_of, runs, run_of}
use Rattle.f3_meaning_laws.specs.Laws.{GrowsAs, Extends, Grows}

pub itself : {A : Type 0} (r : Outcome A) → Extends r r
itself {A = A} r = record { as_said = by_end r.end }
  where
    by_end : (end : End A) → GrowsAs r.out r.out end end
    by_end (Gives x w) = (refl, refl)
    by_end (Fails error place) = (refl, refl)
    by_end (Stops code) = (refl, refl)
    by_end Beyond = ([], sym (append-nil r.out))

pub same : {A : Type 0} (r : Ran A) → Grows r r
same r = record { always = λ w. itself (r.from w) }

behind_extends : {A : Type 0} (front : List Event) (r s : Outcome A) → Extends r s → Extends (behind front r) (behind front s)
behind_extends {A = A} front r s g = record { as_said = by_end r.end g.as_said }
  where
    by_end : (end : End A) → GrowsAs r.out s.out end s.end → GrowsAs (front ++ r.out) (front ++ s.out) end s.end
    by_end (Gives x w) h = (ap (λ o. front ++ o) h.0, h.1)
    by_end (Fails error place) h = (ap (λ o. front ++ o) h.0, h.1)
    by_end (Stops code) h = (ap (λ o. front ++ o) h.0, h.1)
    by_end Beyond h = (h.0, ap (λ o. front ++ o) h.1 ∙ sym (append_assoc front r.out h.0))

after_extends : {A B : Type 0} (r s : Outcome A) (f f' : A → Ran B) → Extends r s → ((x : A) → Grows (f x) (f' x)) → Extends (after r f) (after s f')
after_extends {A = A} {B = B} r s f f' g h = by_end r.end g.as_said
  where
    longer : (out : List Event) (end : End A) → (rest : List Event) × ((go_on out end f').out ≡ out ++ rest)
    longer out (Gives x w) = (((f' x).from w).out, refl)
    longer out (Fails error place) = ([], sym (append-nil out))
    longer out (Stops code) = ([], sym (append-nil out))
    longer out Beyond = ([], sym (append-nil out))

    by_end : (end : End A) → GrowsAs r.out s.out end s.end → Extends (go_on r.out end f) (go_on s.out s.end f')
    by_end (Gives x w) k = rw (k.0, k.1) (behind_extends r.out ((f x).from w) ((f' x).from w) ((h x).always w))
    by_end (Fails error place) k = rw (k.0, k.1) (itself _)
    by_end (Stops code) k = rw (k.0, k.1) (itself _)
    by_end Beyond k =
        let l = longer s.out s.end in
        record { as_said = (k.0 ++ l.0, l.1 ∙ ap (λ o. o ++ l.0) k.1 ∙ append_assoc r.out k.0 l.0) }

pub bind_grows : {A B : Type 0} {m m' : Ran A} {f f' : A → Ran B} → Grows m m' → ((x : A) → Grows (f x) (f' x)) → Grows (m >>= f) (m' >>= f')
unfolding ◌>>=◌
bind_grows {m = m} {m' = m'} {f = f} {f' = f'} g h = record { always = λ w. after_extends (m.from w) (m'.from w) f f' (g.always w) h }

beyond_grows : {A : Type 0} (r : Ran A) → Grows beyond r
unfolding beyond
beyond_grows r = record { always = λ w. record { as_said = ((r.from w).out, refl) } }

if_grows : {A : Type 0} (b : Bool) {r s r' s' : Ran A} → Grows r r' → Grows s s' → Grows (if b then r else s) (if b then r' else s')
if_grows true g h = g
if_grows false g h = h

reach_grows : {A : Type 0} (reach : Reach) {r s r' s' : Ran A} → Grows r r' → Grows s s' → Grows (by_reach reach r s) (by_reach reach r' s')
reach_grows One g h = g
reach_grows (Many ss ps) g h = h

each_grows : {A : Type 0} (xs : List A) (act act' : A → Ran ⊤) → ((x : A) → Grows (act x) (act' x)) → Grows (each xs act) (each xs act')
each_grows [] act act' h = same _
each_grows (x ∷ xs) act act' h = bind_grows (h x) (λ done. each_grows xs act act' h)

onward_grows : (flow : Flow) {r r' : Ran Flow} → Grows r r' → Grows (onward flow r) (onward flow r')
onward_grows Onward g = g
onward_grows Cycled g = same _
onward_grows Left g = same _
onward_grows (Returned place) g = same _

turn_grows : (flow : Flow) {r r' : Ran Flow} → Grows r r' → Grows (next_turn flow r) (next_turn flow r')
turn_grows Onward g = g
turn_grows Cycled g = g
turn_grows Left g = same _
turn_grows (Returned place) g = same _

turns_grow : (n m : ℕ) → n ≤ m → (test test' : Ran Bool) (body body' : Ran Flow) → Grows test test' → Grows body body' → Grows (turns n test body) (turns m test' body')
turns_grow zero zero le test test' body body' t b = bind_grows t (λ x. same _)
turns_grow zero (suc m) le test test' body body' t b = bind_grows t (λ x. if_grows x (beyond_grows _) (same _))
turns_grow (suc n) zero le test test' body body' t b = absurd (omega arith)
turns_grow (suc n) (suc m) le test test' body body' t b =
    bind_grows t (λ x. if_grows x (bind_grows b (λ flow. turn_grows flow (turns_grow n m (omega arith) test test' body body' t b))) (same _))

counted_grow : (n m : ℕ) → n ≤ m → (k : ℕ) (body body' : Ran Flow) (next next' : Ran ⊤) → Grows body body' → Grows next next' → Grows (counted n k body next) (counted m k body' next')
counted_grow n m le zero body body' next next' b x = same _
counted_grow zero m le (suc k) body body' next next' b x = beyond_grows _
counted_grow (suc n) zero le (suc k) body body' next next' b x = absurd (omega arith)
counted_grow (suc n) (suc m) le (suc k) body body' next next' b x =
    bind_grows b (λ flow. turn_grows flow (bind_grows x (λ done. counted_grow n m (omega arith) k body body' next next' b x)))

failed_grows : (status : Option RunError) {r r' : Ran (Option RunError)} → Grows r r' → Grows (unless_failed status r) (unless_failed status r')
failed_grows None g = g
failed_grows (Some error) g = same _

out_grows : (i : Intent) {r r' : Ran ⊤} → Grows r r' → Grows (where_out i r) (where_out i r')
out_grows intent.In g = same _
out_grows intent.Out g = g
out_grows intent.InOut g = same _

deallocate_grows : (act act' : Reference → Here → Ran ⊤) → ((r : Reference) (here : Here) → Grows (act r here) (act' r here)) → (r : Reference) (here : Here) → Grows (deallocate_by act r here) (deallocate_by act' r here)
deallocate_grows act act' h r here = if_grows (is_pinned r.path here.lent) (same _) (bind_grows (same _) (λ inner. bind_grows (h inner here) (λ done. same _)))

release_grows : (act act' : Reference → Here → Ran ⊤) → ((r : Reference) (here : Here) → Grows (act r here) (act' r here)) → (r : Reference) (here : Here) → Grows (release_by act r here) (release_by act' r here)
release_grows act act' h r here = bind_grows (same _) (λ b. if_grows b (deallocate_grows act act' h r here) (same _))

finish_by_grows : (act act' : Reference → Here → Ran ⊤) → ((r : Reference) (here : Here) → Grows (act r here) (act' r here)) → (k : Kind) (r : Reference) (here : Here) → Grows (finish_by act k r here) (finish_by act' k r here)
finish_by_grows act act' h k r here = if_grows k.is_allocatable (release_grows act act' h r here) (h r here)

module _ (g : Setting) (calls calls' : Calls) (c : (here : Here) (f : ℕ) (ps : List Passed) → Grows (calls here f ps) (calls' here f ps)) where
  mutual
    pub value_grows : (x : e.Expression) (here : Here) → Grows (value g calls x here) (value g calls' x here)
    value_grows (e.Literal z) here = same _
    value_grows (e.Variable' p x) here = bind_grows (locate_grows x here) (λ r. same _)
    value_grows (e.Group' p x) here = bind_grows (value_grows x here) (λ v. same _)
    value_grows (e.Unary' o t p x) here = bind_grows (value_grows x here) (λ v. same _)
    value_grows (e.Binary' o t p x q y) here = bind_grows (value_grows x here) (λ v. bind_grows (value_grows y here) (λ w. same _))
    value_grows (e.Array' k xs) here = bind_grows (arguments_grow xs here) (λ ps. same _)
    value_grows (e.Structure' t k xs) here = bind_grows (arguments_grow xs here) (λ ps. same _)
    value_grows (e.Call' f k xs) here = bind_grows (arguments_grow xs here) (λ ps. bind_grows (c here f ps) (λ v. same _))
    value_grows (e.Allocated' p x) here = bind_grows (locate_grows x here) (λ r. same _)
    value_grows (e.Size' p x) here = bind_grows (bounds_grow x here) (λ ss. same _)
    value_grows (e.Bound' q p x r y) here = bind_grows (bounds_grow x here) (λ ss. bind_grows (value_grows y here) (λ v. same _))

    bounds_grow : (x : a.Argument) (here : Here) → Grows (bounds g calls x here) (bounds g calls' x here)
    bounds_grow (a.Value' k p x) here = bind_grows (value_grows x here) (λ v. same _)
    bounds_grow (a.Variable' k p x) here = bind_grows (locate_grows x here) (λ r. same _)

    argument_grows : (x : a.Argument) (here : Here) → Grows (argument g calls x here) (argument g calls' x here)
    argument_grows (a.Value' k p x) here = bind_grows (value_grows x here) (λ v. same _)
    argument_grows (a.Variable' k p x) here = bind_grows (locate_grows x here) (λ r. same _)

    arguments_grow : {m : _} (xs : e.Row_of-Argument m) (here : Here) → Grows (arguments g calls xs here) (arguments g calls' xs here)
    arguments_grow e.end_of-Argument here = same _
    arguments_grow (e.more_of-Argument x rest) here = bind_grows (argument_grows x here) (λ p. bind_grows (arguments_grow rest here) (λ ps. same _))

    pub locate_grows : (x : d.Designator) (here : Here) → Grows (locate g calls x here) (locate g calls' x here)
    locate_grows (d.Name x how) here = bind_grows (same _) (λ r. select_grows how r here)
    locate_grows (d.Component' p x k how) here =
        bind_grows (locate_grows x here) (λ r. bind_grows (same _) (λ q. reach_grows r.reach (select_grows how q here) (in_each_grows how _ q here)))

    select_grows : (how : l.Selection) (r : Reference) (here : Here) → Grows (select g calls how r here) (select g calls' how r here)
    select_grows l.Whole r here = same _
    select_grows l.Contents r here = same _
    select_grows (l.Elements' is_opened k xs) r here = bind_grows (chosen_grow xs here) (λ cs. same _)

    in_each_grows : (how : l.Selection) (ss : _) (r : Reference) (here : Here) → Grows (select_in_each g calls how ss r here) (select_in_each g calls' how ss r here)
    in_each_grows l.Whole ss r here = same _
    in_each_grows l.Contents ss r here = same _
    in_each_grows (l.Elements' is_opened k xs) ss r here = bind_grows (chosen_grow xs here) (λ cs. same _)

    chosen_grow : {m : _} (xs : l.Row_of-Subscript m) (here : Here) → Grows (chosen g calls xs here) (chosen g calls' xs here)
    chosen_grow l.end_of-Subscript here = same _
    chosen_grow (l.more_of-Subscript x rest) here = bind_grows (subscript_grows x here) (λ p. bind_grows (chosen_grow rest here) (λ ps. same _))

    subscript_grows : (x : u.Subscript) (here : Here) → Grows (subscript g calls x here) (subscript g calls' x here)
    subscript_grows (u.At' p x) here = bind_grows (value_grows x here) (λ v. same _)
    subscript_grows (u.Range' b p x b' q y r z) here =
        bind_grows (if_grows b (bind_grows (value_grows x here) (λ v. same _)) (same _)) (λ lower. bind_grows (if_grows b' (bind_grows (value_grows y here) (λ v. same _)) (same _)) (λ upper. bind_grows (value_grows z here) (λ v. same _)))

  finalize_grows : (o : Option ℕ) (r : Reference) (here : Here) → Grows (finalize g calls o r here) (finalize g calls' o r here)
  finalize_grows None r here = same _
  finalize_grows (Some f) r here = bind_grows (c here f _) (λ v. same _)

  mutual
    pub destroy_grows : (x : Shape) (r : Reference) (here : Here) → Grows (destroy g calls x r here) (destroy g calls' x r here)
    destroy_grows Whole r here = same _
    destroy_grows Logical r here = same _
    destroy_grows (Record t parts) r here =
        if_grows (is_destroyed g.program.types.items (Record t parts))
        (bind_grows (finalize_grows _ r _) (λ done. bind_grows (each_grows _ _ _ (λ p. parts_grow parts t 0 _ _)) (λ done. same _))) (same _)

    parts_grow : (xs : Parts) (t k : ℕ) (r : Reference) (here : Here) → Grows (destroy_parts g calls xs t k r here) (destroy_parts g calls' xs t k r here)
    parts_grow nothing t k r here = same _
    parts_grow (and x s rest) t k r here =
        bind_grows (same _) (λ q. bind_grows (finish_by_grows _ _ (λ r here. destroy_grows s r here) x.declared.kind q here) (λ done. parts_grow rest t (suc k) r here))

  finish_grows : (k : Kind) (r : Reference) (here : Here) → Grows (finish g calls k r here) (finish g calls' k r here)
  finish_grows k r here = finish_by_grows _ _ (λ r here. destroy_grows _ r here) k r here

  module _ (n m : ℕ) (le : n ≤ m) where
    overwrite_grows : (k : Kind) (r : Reference) (v : Value) (here : Here) → Grows (overwrite g n calls k r v here) (overwrite g m calls' k r v here)
    overwrite_grows k r v here = bind_grows (destroy_grows _ r here) (λ done. same _)

    renew_grows : (k : Kind) (h : Reference) (old v : Value) (here : Here) → Grows (renew g n calls k h old v here) (renew g m calls' k h old v here)
    renew_grows k h (Allocated x) v here =
        if_grows (conforms (spans_of x) v) (bind_grows (same _) (λ r. overwrite_grows k r v here)) (bind_grows (deallocate_grows _ _ (λ r here. destroy_grows _ r here) h here) (λ done. same _))
    renew_grows k h (Number z) v here = same _
    renew_grows k h (Truth b) v here = same _
    renew_grows k h (Composite vs) v here = same _
    renew_grows k h (Array ss vs) v here = same _
    renew_grows k h Unallocated v here = same _

    assign_grows : (k : Kind) (r : Reference) (v : Value) (here : Here) → Grows (assign g n calls k r v here) (assign g m calls' k r v here)
    assign_grows k r v here = if_grows k.is_allocatable (bind_grows (same _) (λ old. renew_grows k r old v here)) (if_grows (conforms (spans r.reach) v) (overwrite_grows k r v here) (same _))

    answer_grows : (status : Option RunError) (o : Option d.Designator) (here : Here) → Grows (answer g n calls status o here) (answer g m calls' status o here)
    answer_grows None None here = same _
    answer_grows (Some error) None here = same _
    answer_grows status (Some x) here = bind_grows (locate_grows x here) (λ r. same _)

    dimensions_grow : (bs : List Bounds) (here : Here) → Grows (dimensions g n calls bs here) (dimensions g m calls' bs here)
    dimensions_grow [] here = same _
    dimensions_grow (b ∷ bs) here = bind_grows (value_grows b.lower here) (λ v. bind_grows (value_grows b.upper here) (λ w. bind_grows (dimensions_grow bs here) (λ ss. same _)))

    allocate_grows : (rs : List Request) (here : Here) → Grows (allocate_all g n calls rs here) (allocate_all g m calls' rs here)
    allocate_grows [] here = same _
    allocate_grows (r ∷ rs) here =
        bind_grows (locate_grows r.object here) (λ h. bind_grows (dimensions_grow r.bounds.items here) (λ ss. bind_grows (same _) (λ status. failed_grows status (allocate_grows rs here))))

    one_grows : (k : Kind) (h : Reference) (here : Here) → Grows (deallocate g n calls k h here) (deallocate g m calls' k h here)
    one_grows k h here = bind_grows (same _) (λ b. if_grows b (if_grows (is_pinned h.path here.lent) (same _) (bind_grows (deallocate_grows _ _ (λ r here. destroy_grows _ r here) h here) (λ done. same _))) (same _))

    deallocate_all_grow : (rs : List Request) (here : Here) → Grows (deallocate_all g n calls rs here) (deallocate_all g m calls' rs here)
    deallocate_all_grow [] here = same _
    deallocate_all_grow (r ∷ rs) here =
        bind_grows (locate_grows r.object here) (λ h. bind_grows (one_grows r.kind h here) (λ status. failed_grows status (deallocate_all_grow rs here)))

    move_grows : (k : Kind) (from to : Reference) (here : Here) → Grows (move_alloc g n calls k from to here) (move_alloc g m calls' k from to here)
    move_grows k from to here = bind_grows (finish_grows k to (lending (from ∷ to ∷ []) here)) (λ done. same _)

    items_grow : (xs : List Item) (here : Here) → Grows (items g n calls xs here) (items g m calls' xs here)
    items_grow [] here = same _
    items_grow (item.Value x ∷ xs) here = bind_grows (value_grows x here) (λ v. bind_grows (same _) (λ done. items_grow xs here))
    items_grow (item.Text t ∷ xs) here = bind_grows (same _) (λ done. items_grow xs here)

    selectors_grow : (xs : List Selector) (here : Here) → Grows (selectors g n calls xs here) (selectors g m calls' xs here)
    selectors_grow [] here = same _
    selectors_grow (selector.Variable x ∷ xs) here = bind_grows (locate_grows x here) (λ r. bind_grows (selectors_grow xs here) (λ ps. same _))
    selectors_grow (selector.Value k x ∷ xs) here = bind_grows (value_grows x here) (λ v. bind_grows (same _) (λ done. bind_grows (selectors_grow xs here) (λ ps. same _)))

    mutual
      pub exec_grows : (x : s.Statement) (here : Here) → Grows (exec g n calls x here) (exec g m calls' x here)
      exec_grows (s.At' place true p x) here = bind_grows (same _) (λ done. exec_grows x (at place here))
      exec_grows (s.At' place false p x) here = exec_grows x (at place here)
      exec_grows (s.Block' k xs) here = block_grows xs here
      exec_grows (s.Assign x k y) here = bind_grows (value_grows y here) (λ v. bind_grows (locate_grows x here) (λ r. bind_grows (assign_grows k r v here) (λ done. same _)))
      exec_grows (s.Call x) here = bind_grows (value_grows x here) (λ v. same _)
      exec_grows (s.MoveAlloc k true x y) here = bind_grows (locate_grows x here) (λ r. bind_grows (locate_grows y here) (λ q. bind_grows (move_grows k r q here) (λ done. same _)))
      exec_grows (s.MoveAlloc k false x y) here = bind_grows (locate_grows x here) (λ r. bind_grows (locate_grows y here) (λ q. bind_grows (move_grows k q r here) (λ done. same _)))
      exec_grows (s.Allocate rs stat) here = bind_grows (allocate_grows rs.items here) (λ status. bind_grows (answer_grows status stat here) (λ done. same _))
      exec_grows (s.Deallocate rs stat) here = bind_grows (deallocate_all_grow rs.items here) (λ status. bind_grows (answer_grows status stat here) (λ done. same _))
      exec_grows (s.Print xs) here = bind_grows (items_grow xs.items here) (λ done. same _)
      exec_grows (s.Stop code) here = same _
      exec_grows s.Return here = same _
      exec_grows s.Cycle here = same _
      exec_grows s.Exit here = same _
      exec_grows (s.If' x p y q z) here = bind_grows (value_grows x here) (λ v. if_grows (truth_of v) (exec_grows y here) (exec_grows z here))
      exec_grows (s.Select' x p y) here = bind_grows (value_grows x here) (λ v. exec_grows y _)
      exec_grows (s.Case' rs p x q y) here = if_grows (some_meets g n calls rs.items here.selected) (exec_grows x here) (exec_grows y here)
      exec_grows (s.While' x p y) here = turns_grow n m le _ _ _ _ (bind_grows (value_grows x here) (λ v. same _)) (exec_grows y here)
      exec_grows (s.Count' x k from to step p y) here =
          bind_grows (value_grows from here) (λ v. bind_grows (same _) (λ first. bind_grows (value_grows to here) (λ v. bind_grows (same _) (λ last. bind_grows (value_grows step here) (λ v. bind_grows (same _) (λ by. bind_grows (same _) (λ done. bind_grows (locate_grows x here) (λ r. bind_grows (same _) (λ done. counted_grow n m le _ _ _ _ _ (exec_grows y here) (bind_grows (locate_grows x here) (λ r. same _)))))))))))
      exec_grows (s.Associate' xs p y) here =
          bind_grows (selectors_grow xs.items here) (λ ps. bind_grows (same _) (λ level. bind_grows (same _) (λ done. bind_grows (exec_grows y _) (λ flow. same _))))

      block_grows : {k : _} (xs : s.Row_of-Statement k) (here : Here) → Grows (block g n calls xs here) (block g m calls' xs here)
      block_grows s.end_of-Statement here = same _
      block_grows (s.more_of-Statement x rest) here = bind_grows (exec_grows x here) (λ flow. onward_grows flow (block_grows rest here))

    locals_grow : (ds : List Declared) (i : ℕ) (here : Here) → Grows (finish_locals g n calls ds i here) (finish_locals g m calls' ds i here)
    locals_grow [] i here = same _
    locals_grow (x ∷ xs) i here = bind_grows (same _) (λ r. bind_grows (finish_grows x.kind r here) (λ done. locals_grow xs (suc i) here))

    outs_grow : (ds : List Dummy) (rs : List Reference) (here : Here) → Grows (outs g n calls ds rs here) (outs g m calls' ds rs here)
    outs_grow [] rs here = same _
    outs_grow (x ∷ xs) [] here = same _
    outs_grow (x ∷ xs) (r ∷ rs) here = bind_grows (out_grows x.intent (bind_grows (finish_grows x.kind r here) (λ done. same _))) (λ done. outs_grow xs rs here)

    pub called_grows : (p : Procedure) (ps : List Passed) (here : Here) → Grows (called g n calls p ps here) (called g m calls' p ps here)
    called_grows p ps here =
        bind_grows (same _) (λ done. bind_grows (same _) (λ level. bind_grows (same _) (λ done. bind_grows (same _) (λ done. bind_grows (outs_grow p.dummies.items _ _) (λ done. bind_grows (exec_grows p.body _) (λ flow. bind_grows (same _) (λ place. bind_grows (locals_grow p.locals.items 0 _) (λ done. same _))))))))

procedure_grows : (g : Setting) (calls calls' : Calls) → ((here : Here) (f : ℕ) (ps : List Passed) → Grows (calls here f ps) (calls' here f ps)) → (n m : ℕ) → n ≤ m → (o : Option Procedure) (ps : List Passed) (here : Here) → Grows (call_of g n calls o ps here) (call_of g m calls' o ps here)
procedure_grows g calls calls' c n m le None ps here = same _
procedure_grows g calls calls' c n m le (Some p) ps here = called_grows g calls calls' c n m le p ps here

calls_grow : (depth : ℕ) (g : Setting) (n m : ℕ) → n ≤ m → (here : Here) (f : ℕ) (ps : List Passed) → Grows (calls_of depth g n here f ps) (calls_of depth g m here f ps)
unfolding calls_of
calls_grow zero g n m le here f ps = same _
calls_grow (suc depth) g n m le here f ps = procedure_grows g _ _ (calls_grow depth g n m le) n m le (slice_get g.program.procedures.items f) ps here

main_grows : (g : Setting) (calls calls' : Calls) → ((here : Here) (f : ℕ) (ps : List Passed) → Grows (calls here f ps) (calls' here f ps)) → (n m : ℕ) → n ≤ m → (here : Here) → Grows (main_of g n calls here) (main_of g m calls' here)
main_grows g calls calls' c n m le here = bind_grows (same _) (λ done. bind_grows (same _) (λ done. bind_grows (exec_grows g calls calls' c n m le g.program.main.body here) (λ flow. same _)))

pub runs_grow : (p : Program) (answers : ℕ → Bool) (n m : ℕ) → n ≤ m → Extends (run_of p n answers) (run_of p m answers)
unfolding run_of runs
runs_grow p answers n m le =
    (main_grows (setting_of p) _ _ (calls_grow 1000 (setting_of p) n m le) n m le (first_here (setting_of p))).always (first_world (setting_of p) answers)
