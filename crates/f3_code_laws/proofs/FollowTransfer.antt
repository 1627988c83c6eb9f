-- The code of assignments, DEALLOCATE, PRINT, ranges and selectors follows them.
use Rattle.std.proofs.Common.{◌≡◌, ℕ, suc, ◌+◌, Bool, true, false, List, [], ◌∷◌, ◌++◌, length, Option, None, Some, refl, sym, ap, ◌∙◌, arith, length-append, if◌then◌else◌}
use Rattle.std.specs.Prelude.{⊤, slice_get, nat_eq}
use Rattle.f3_places.specs.declared.source.Place.{Place}
use Rattle.f3_program.specs.declared.expression.Designator.{Designator}
use Rattle.f3_program.specs.declared.expression.Expression.{Expression}
use Rattle.f3_program.specs.declared.statement.Item.{Item}
use Rattle.f3_program.specs.declared.statement.Item.TheVariants as item
use Rattle.f3_program.specs.declared.statement.Range.{Range}
use Rattle.f3_meaning_whole.specs.Value.{Value, Number, Truth, Composite, Array, Unallocated, Allocated, is_allocated, conforms, spans_of}
use Rattle.f3_meaning_whole.specs.Store.{get}
use Rattle.f3_meaning_whole.specs.Reference.{Reference, spans, is_pinned}
use Rattle.f3_meaning_whole.specs.declared.run_error.RunError.{RunError}
use Rattle.f3_meaning_whole.specs.declared.run_error.RunError.TheVariants.{NotAllocated, ShapesDiffer, InUse}
use Rattle.f3_meaning_whole.specs.Ran.{World, Ran, ◌>>=◌, gives, does, prints_bytes}
use Rattle.f3_meaning_whole.specs.Arithmetic.{converted, meets}
use Rattle.f3_meaning_whole.specs.Act.{Setting, Here, Calls, claim, claim_for, contents, set}
use Rattle.f3_meaning_whole.specs.Eval.{value, locate}
use Rattle.f3_meaning_whole.specs.Exec.{print_value, vacant, Association, Holds, Means}
use Rattle.f3_meaning_whole.specs.Exec as meaning
use Rattle.f3_code.specs.Work.{Work, routines_of}
use Rattle.f3_code.specs.Core as c
use Rattle.f3_code.specs.Exec.{by_state, works, transfer, deallocate, deallocate_all, selectors}
use Rattle.f3_code.specs.declared.instruction.Instruction.TheVariants as i
use Rattle.f3_code.specs.State.{Line, line, line_with, placed, Code, Cell, Datum, Object, Status, Selector, Frame, State, Next, Goes}
use Rattle.f3_code.specs.Machine.{tested, act, step, branches}
use Rattle.f3_code.specs.Code.{value_code, locate_code, work_code, transfer_code, free_code, deallocate_code, bytes_code, items_code, ranges_code, selectors_code}
use Rattle.f3_code_laws.proofs.Places.{HasAt, has_front, has_back}
use Rattle.f3_code_laws.proofs.Reaching.{AllGive, give_all, gives_as, give_any, Comes, Reaches, step_then, stays, one_step, then_on, ends_with, comes_here, comes_by, comes_on, as_well, looked, bind_assoc, bind_ends}
use Rattle.f3_code_laws.proofs.Ending.{converted_ends, claim_ends, claim_for_ends, contents_end, set_ends, tested_ends, print_ends, printed_ends}
use Rattle.f3_code_laws.proofs.FollowValue.{state, onto, CallsFollow, is_at, ending, starting, at_line, then_code, no_code, value_follows, locate_follows}
use Rattle.f3_code_laws.proofs.FollowWork.{RoutinesFollow, test_case, work_follows}
use Rattle.f3_code_laws.proofs.FollowParts.{tested_then, failed_follows}

pub no_bytes : prints_bytes [] ≡ gives tt
unfolding prints_bytes does gives
no_bytes = refl

pub byte_by_byte : (b : ℕ) (bs : List ℕ) → (prints_bytes (b ∷ []) >>= λ done. prints_bytes bs) ≡ prints_bytes (b ∷ bs)
unfolding prints_bytes does ◌>>=◌
byte_by_byte b bs = refl

module _ (limit : ℕ) (g : Setting) (code : Code) (n : ℕ) (frames : List Frame) (calls : Calls) (follow : CallsFollow limit g code n calls frames) where
  at_it : (pc : ℕ) (stack : List Cell) (here : Here) (w : World) (l : Line) → slice_get code.lines pc ≡ Some l →
      step limit g code (state pc stack here frames w) ≡ act limit g code l.act l.value (placed l.place here) (state pc stack here frames w)
  at_it = is_at limit g code n frames

  values : (x : Expression) (o : Option Place) (pc : ℕ) (stack : List Cell) (here : Here) (w : World) → HasAt code.lines pc (value_code o x) →
      Reaches limit g code n (state pc stack here frames w) (value g calls x (placed o here)) w
      (λ v w. state (pc + length (value_code o x)) (Datum v ∷ stack) here frames w)
  values = value_follows limit g code n frames calls follow

  locates : (x : Designator) (o : Option Place) (pc : ℕ) (stack : List Cell) (here : Here) (w : World) → HasAt code.lines pc (locate_code o x) →
      Reaches limit g code n (state pc stack here frames w) (locate g calls x (placed o here)) w
      (λ r w. state (pc + length (locate_code o x)) (Object r ∷ stack) here frames w)
  locates = locate_follows limit g code n frames calls follow

  -- ---- a PRINT

  bytes_follow : (bs : List ℕ) (o : Option Place) (pc : ℕ) (stack : List Cell) (here : Here) (w : World) → HasAt code.lines pc (bytes_code o bs) →
      Reaches limit g code n (state pc stack here frames w) (prints_bytes bs) w (λ done w. state (pc + length (bytes_code o bs)) stack here frames w)
  bytes_follow [] o pc stack here w has = as_well limit g code (sym no_bytes) (no_code limit g code n frames tt pc (λ done. stack) here w)
  bytes_follow (b ∷ bs) o pc stack here w has =
      as_well limit g code (byte_by_byte b bs) (then_code limit g code n frames (line o (i.PrintByte b) ∷ []) (bytes_code o bs) pc has
      (λ h. at_line limit g code n frames (prints_bytes (b ∷ [])) pc stack here w (line o (i.PrintByte b)) (printed_ends (b ∷ [])) h.0 refl)
      (λ done w h. bytes_follow bs o _ stack here w h))

  pub items_follow : (xs : List Item) (o : Option Place) (pc : ℕ) (stack : List Cell) (here : Here) (w : World) → HasAt code.lines pc (items_code o xs) →
      Reaches limit g code n (state pc stack here frames w) (meaning.items g n calls xs (placed o here)) w
      (λ done w. state (pc + length (items_code o xs)) stack here frames w)
  items_follow [] o pc stack here w has = at_line limit g code n frames (prints_bytes (10 ∷ [])) pc stack here w (line o (i.PrintByte 10))
      (printed_ends (10 ∷ [])) has.0 refl
  items_follow (item.Value e ∷ xs) o pc stack here w has =
      then_code limit g code n frames (value_code o e) (line o i.PrintValue ∷ items_code o xs) pc has (values e o pc stack here w) (λ v w h.
      then_code limit g code n frames (line o i.PrintValue ∷ []) (items_code o xs) _ h
      (λ h. at_line limit g code n frames (print_value v) _ _ here w (line o i.PrintValue) (print_ends v) h.0 refl)
      (λ done w h. items_follow xs o _ stack here w h))
  items_follow (item.Text t ∷ xs) o pc stack here w has =
      then_code limit g code n frames (bytes_code o (32 ∷ t.items)) (items_code o xs) pc has (bytes_follow (32 ∷ t.items) o pc stack here w)
      (λ done w h. items_follow xs o _ stack here w h)

  -- ---- ranges of a CASE

  pub ranges_follow : (rs : List Range) (o : Option Place) (pc to : ℕ) (stack : List Cell) (here : Here) (w : World) →
      HasAt code.lines pc (ranges_code o rs) → pc + length (ranges_code o rs) ≡ to →
      Comes limit g code (state pc stack here frames w) [] (state (if meaning.some_meets g n calls rs here.selected then to + 1 else to) stack here frames w)
  ranges_follow [] o pc to stack here w has e =
      let e' : pc ≡ to = omega (arith, e) in
      comes_here limit g code (ap (λ q. state q stack here frames w) e')
  ranges_follow (r ∷ rs) o pc to stack here w has e =
      let rest : pc + 1 + 1 + length (ranges_code o rs) ≡ to = omega (arith, e) in
      comes_on limit g code (comes_by limit g code (at_it pc stack here w (line o (i.Meets r)) has.0))
      (by_test (ranges_follow rs o (pc + 1 + 1) to stack here w has.1.1 rest) (meets r here.selected))
    where
      by_test : Comes limit g code (state (pc + 1 + 1) stack here frames w) []
          (state (if meaning.some_meets g n calls rs here.selected then to + 1 else to) stack here frames w) → (b : Bool) →
          Comes limit g code (state (pc + 1) (Datum (Truth b) ∷ stack) here frames w) []
          (state (if (if b then true else meaning.some_meets g n calls rs here.selected) then to + 1 else to) stack here frames w)
      by_test others true =
          let d = length (ranges_code o rs) + 1 in
          let far : pc + 1 + 1 + d ≡ to + 1 = omega (arith, e) in
          comes_by limit g code (is_at limit g code n frames (pc + 1) (Datum (Truth true) ∷ stack) here w (line o (i.SkipIfTrue d)) has.1.0 ∙
          ap (λ q. Goes [] (state q stack here frames w)) far)
      by_test others false =
          let d = length (ranges_code o rs) + 1 in
          comes_on limit g code (comes_by limit g code (is_at limit g code n frames (pc + 1) (Datum (Truth false) ∷ stack) here w (line o (i.SkipIfTrue d))
          has.1.0)) others

  -- ---- selectors

  pub selectors_count : (types : List Work) (xs : List c.Selector) (here : Here) →
      AllGive (λ found. length found ≡ length xs) (selectors g n types calls xs here)
  selectors_count types [] here = gives_as _ [] refl
  selectors_count types (c.Bind d ∷ xs) here =
      give_all (λ r. Unit {0}) _ (give_any (locate g calls d here))
      (λ r t. give_all (λ found. length found ≡ length xs) _ (selectors_count types xs here) (λ found e. gives_as _ _ (ap suc e)))
  selectors_count types (c.Hold of x at_end ∷ xs) here =
      give_all (λ v. Unit {0}) _ (give_any (value g calls x here))
      (λ v t. give_all (λ done. Unit {0}) _ (give_any (claim_for v here))
      (λ done t. give_all (λ found. length found ≡ length xs) _ (selectors_count types xs here) (λ found e. gives_as _ _ (ap suc e))))

  pub selectors_follow : (types : List Work) (xs : List c.Selector) (o : Option Place) (pc : ℕ) (stack : List Cell) (here : Here) (w : World) →
      HasAt code.lines pc (selectors_code o xs) → Reaches limit g code n (state pc stack here frames w) (selectors g n types calls xs (placed o here)) w
      (λ found w. state (pc + length (selectors_code o xs)) (onto Selector found stack) here frames w)
  selectors_follow types [] o pc stack here w has = no_code limit g code n frames [] pc (λ found. onto Selector found stack) here w
  selectors_follow types (c.Bind d ∷ xs) o pc stack here w has =
      then_code limit g code n frames (locate_code o d) (line o i.SelectVariable ∷ selectors_code o xs) pc has (locates d o pc stack here w) (λ r w h.
      let p = pc + length (locate_code o d) in
      let len : p + 1 + length (selectors_code o xs) ≡ p + suc (length (selectors_code o xs)) = omega arith in
      step_then limit g code (at_it p (Object r ∷ stack) here w (line o i.SelectVariable) h.0)
      (ending limit g code n frames _ _ (λ found. onto Selector found stack) here len
      (then_on limit g code (selectors_follow types xs o (p + 1) (Selector (Means r) ∷ stack) here w h.1)
      (λ found w. stays limit g code n (Means r ∷ found) w (λ found w.
      state (p + 1 + length (selectors_code o xs)) (onto Selector found stack) here frames w)))))
  selectors_follow types (c.Hold of x at_end ∷ xs) o pc stack here w has =
      then_code limit g code n frames (value_code o x) (line o (i.SelectValue of) ∷ selectors_code o xs) pc has (values x o pc stack here w) (λ v w h.
      then_code limit g code n frames (line o (i.SelectValue of) ∷ []) (selectors_code o xs) _ h
      (λ h. at_line limit g code n frames (claim_for v (placed o here)) _ _ here w (line o (i.SelectValue of)) (claim_for_ends v (placed o here)) h.0
      refl) (λ done w h.
      then_on limit g code (selectors_follow types xs o _ (Selector (Holds of v) ∷ stack) here w h) (λ found w. stays limit g code n (Holds of v ∷ found) w _)))

  -- ---- with work on objects

  module _ (m : ℕ) (types : List Work) (routines_follow : RoutinesFollow limit g code n m (routines_of g calls types) frames) where
    works_follow : (x : Work) (o : Option Place) (pc : ℕ) (r : Reference) (stack : List Cell) (here : Here) (w : World) →
        HasAt code.lines pc (work_code m o x) → Reaches limit g code n (state pc (Object r ∷ stack) here frames w)
        (works g n types calls x r (placed o here)) w (λ done w. state (pc + length (work_code m o x)) (Object r ∷ stack) here frames w)
    works_follow x o pc r stack here w has = work_follows limit g code n frames calls follow m (routines_of g calls types) routines_follow x o pc r stack
        here w has

    -- by the state of a variable
    state_case : (old v : Value) (s : State) (w : World) (other unallocated : ℕ) (x y z : Ran ⊤) (next : ⊤ → World → State) →
        step limit g code s ≡ branches old v other unallocated s → (step limit g code s ≡ Goes [] (state (s.pc + 1) s.stack s.here s.frames s.world) →
        Reaches limit g code n s x w next) → (step limit g code s ≡ Goes [] (state (s.pc + 1 + other) s.stack s.here s.frames s.world) →
        Reaches limit g code n s y w next) → (step limit g code s ≡ Goes [] (state (s.pc + 1 + unallocated) s.stack s.here s.frames s.world) →
        Reaches limit g code n s z w next) → Reaches limit g code n s (by_state old v x y z) w next
    state_case (Allocated old) v s w other unallocated x y z next e a b d =
        test_case limit g code n frames (conforms (spans_of old) v) s w (Goes [] (state (s.pc + 1) s.stack s.here s.frames s.world))
        (Goes [] (state (s.pc + 1 + other) s.stack s.here s.frames s.world)) x y next e a b
    state_case (Number k) v s w other unallocated x y z next e a b d = d e
    state_case (Truth k) v s w other unallocated x y z next e a b d = d e
    state_case (Composite k) v s w other unallocated x y z next e a b d = d e
    state_case (Array ss k) v s w other unallocated x y z next e a b d = d e
    state_case Unallocated v s w other unallocated x y z next e a b d = d e

    -- the value goes to the variable
    pub transfer_follows : (x : c.Transfer) (o : Option Place) (pc : ℕ) (r : Reference) (v : Value) (stack : List Cell) (here : Here) (w : World) →
        HasAt code.lines pc (transfer_code m o x) → Reaches limit g code n (state pc (Object r ∷ Datum v ∷ stack) here frames w)
        (transfer g n types calls x r v (placed o here)) w (λ done w. state (pc + length (transfer_code m o x)) stack here frames w)
    transfer_follows (c.Conforming x) o pc r v stack here w has =
        as_well limit g code (tested_then (conforms (spans r.reach) v) ShapesDiffer (placed o here) (transfer g n types calls x r v (placed o here)))
        (then_code limit g code n frames (line o i.TestShape ∷ []) (transfer_code m o x) pc has
        (λ h. at_line limit g code n frames (tested (conforms (spans r.reach) v) ShapesDiffer (placed o here)) pc _ here w (line o i.TestShape)
        (tested_ends (conforms (spans r.reach) v) ShapesDiffer (placed o here)) h.0 refl) (λ done w h. transfer_follows x o _ r v stack here w h))
    transfer_follows (c.By_state x y z) o pc r v stack here w has =
        let cx = transfer_code m o x in let cy = transfer_code m o y in let cz = transfer_code m o z in
        let there = placed o here in
        let all = Object r ∷ Datum v ∷ stack in
        let l = line o (i.ByState (length cx + 1) (length cx + 1 + (length cy + 1))) in
        let g1 = line o (i.GoOn (length cy + 1 + length cz)) in
        let g2 = line o (i.GoOn (length cz)) in
        let hx = has_front code.lines (pc + 1) cx (g1 ∷ (cy ++ (g2 ∷ cz))) has.1 in
        let h1 = has_back code.lines (pc + 1) cx (g1 ∷ (cy ++ (g2 ∷ cz))) has.1 in
        let p1 = pc + 1 + length cx in
        let hy = has_front code.lines (p1 + 1) cy (g2 ∷ cz) h1.1 in
        let h2 = has_back code.lines (p1 + 1) cy (g2 ∷ cz) h1.1 in
        let p2 = p1 + 1 + length cy in
        let on = pc + length (l ∷ (cx ++ (g1 ∷ (cy ++ (g2 ∷ cz))))) in
        let l1 = length-append cx (g1 ∷ (cy ++ (g2 ∷ cz))) in
        let l2 = length-append cy (g2 ∷ cz) in
        let over1 : p1 + 1 + (length cy + 1 + length cz) ≡ on = omega (arith, l1, l2) in
        let over2 : p2 + 1 + length cz ≡ on = omega (arith, l1, l2) in
        let to_y : pc + 1 + (length cx + 1) ≡ p1 + 1 = omega arith in
        let to_z : pc + 1 + (length cx + 1 + (length cy + 1)) ≡ p2 + 1 = omega arith in
        looked limit g code (λ store. get store r.path) (λ old. by_state old v (transfer g n types calls x r v there) (transfer g n types calls y r v there)
        (transfer g n types calls z r v there))
        (state_case (get w.store r.path) v (state pc all here frames w) w (length cx + 1) (length cx + 1 + (length cy + 1)) _ _ _ _
        (at_it pc all here w l has.0)
        (λ e. step_then limit g code e (ends_with limit g code (transfer_follows x o (pc + 1) r v stack here w hx)
        (λ done w. comes_by limit g code (at_it p1 stack here w g1 h1.0 ∙ ap (λ q. Goes [] (state q stack here frames w)) over1))))
        (λ e. step_then limit g code e (starting limit g code n frames n _ _ all here w to_y
        (ends_with limit g code (transfer_follows y o (p1 + 1) r v stack here w hy)
        (λ done w. comes_by limit g code (at_it p2 stack here w g2 h2.0 ∙ ap (λ q. Goes [] (state q stack here frames w)) over2)))))
        (λ e. step_then limit g code e (starting limit g code n frames n _ _ all here w to_z
        (ending limit g code n frames _ _ (λ done. stack) here over2 (transfer_follows z o (p2 + 1) r v stack here w h2.1)))))
    transfer_follows (c.Of_rank rank x) o pc r v stack here w has =
        as_well limit g code (tested_then (nat_eq rank (length (spans_of v))) NotAllocated (placed o here) (transfer g n types calls x r v (placed o here)))
        (then_code limit g code n frames (line o (i.TestRank rank) ∷ []) (transfer_code m o x) pc has
        (λ h. at_line limit g code n frames (tested (nat_eq rank (length (spans_of v))) NotAllocated (placed o here)) pc _ here w
        (line o (i.TestRank rank)) (tested_ends (nat_eq rank (length (spans_of v))) NotAllocated (placed o here)) h.0 refl)
        (λ done w h. transfer_follows x o _ r v stack here w h))
    transfer_follows (c.Behind x y) o pc r v stack here w has =
        then_code limit g code n frames (work_code m o x) (transfer_code m o y) pc has (works_follow x o pc r (Datum v ∷ stack) here w)
        (λ done w h. transfer_follows y o _ r v stack here w h)
    transfer_follows (c.New rank element x) o pc r v stack here w has =
        let there = placed o here in
        let l = line_with o element (i.New rank) in
        let put : ⊤ → Ran ⊤ = λ done. set r (Allocated (vacant rank (spans_of v) element)) there in
        as_well limit g code (bind_assoc (claim there) put (λ done. transfer g n types calls x r v there))
        (then_code limit g code n frames (l ∷ []) (transfer_code m o x) pc has
        (λ h. at_line limit g code n frames (claim there >>= put) pc _ here w l
        (bind_ends (claim_ends there) (λ done. set_ends r (Allocated (vacant rank (spans_of v) element)) there)) h.0 refl)
        (λ done w h. transfer_follows x o _ r v stack here w h))
    transfer_follows (c.In_contents x) o pc r v stack here w has =
        then_code limit g code n frames (line o i.Contents ∷ []) (transfer_code m o x) pc has
        (λ h. at_line limit g code n frames (contents r (placed o here)) pc _ here w (line o i.Contents) (contents_end r (placed o here)) h.0 refl)
        (λ q w h. transfer_follows x o _ q v stack here w h)
    transfer_follows (c.Take of) o pc r v stack here w has =
        let there = placed o here in
        at_line limit g code n frames (converted of v there.place >>= λ v. claim_for v there >>= λ done. set r v there) pc _ here w (line o (i.Take of))
        (bind_ends (converted_ends of v there.place) (λ v. bind_ends (claim_for_ends v there) (λ done. set_ends r v there))) has.0 refl
    transfer_follows (c.Fill of) o pc r v stack here w has =
        let there = placed o here in
        at_line limit g code n frames (converted of v there.place >>= λ v. set r v there) pc _ here w (line o (i.Fill of))
        (bind_ends (converted_ends of v there.place) (λ v. set_ends r v there)) has.0 refl

    -- an object of a DEALLOCATE
    free_follows : (x : Work) (o : Option Place) (pc : ℕ) (h : Reference) (stack : List Cell) (here : Here) (w : World) →
        HasAt code.lines pc (free_code m o x) → Reaches limit g code n (state pc (Object h ∷ stack) here frames w)
        (deallocate g n types calls x h (placed o here)) w (λ status w. state (pc + length (free_code m o x)) (Status status ∷ stack) here frames w)
    free_follows x o pc h stack here w has =
        let cx = work_code m o x in
        let there = placed o here in
        let d = length cx + 2 in
        let s = state pc (Object h ∷ stack) here frames w in
        let on = pc + length (free_code m o x) in
        let goes : Next = Goes [] (state (pc + 1) (Object h ∷ stack) here frames w) in
        let fails_as : RunError → Next = λ error. Goes [] (state (pc + 1 + d) (Status (Some error) ∷ stack) here frames w) in
        let l = length-append cx (line o i.Drop ∷ line o i.NoError ∷ []) in
        let over : pc + 1 + d ≡ on = omega (arith, l) in
        let len : pc + 1 + length cx + 1 + 1 ≡ on = omega (arith, l) in
        let freed : Ran (Option RunError) = works g n types calls x h there >>= λ done. gives None in
        let b = is_pinned h.path there.lent in
        let hd = has_back code.lines (pc + 1) cx (line o i.Drop ∷ line o i.NoError ∷ []) has.1 in
        looked limit g code (λ store. is_allocated (get store h.path))
        (λ allocated. if allocated then (if b then gives (Some InUse) else freed) else gives (Some NotAllocated))
        (test_case limit g code n frames (is_allocated (get w.store h.path)) s w (if b then fails_as InUse else goes) (fails_as NotAllocated) _ _ _
        (at_it pc (Object h ∷ stack) here w (line o (i.TestFree d)) has.0)
        (λ e. test_case limit g code n frames b s w (fails_as InUse) goes (gives (Some InUse)) freed _ e
        (λ e. one_step limit g code n (Some InUse) w _ (e ∙ ap (λ q. Goes [] (state q (Status (Some InUse) ∷ stack) here frames w)) over))
        (λ e. step_then limit g code e (ending limit g code n frames _ _ (λ status. Status status ∷ stack) here len
        (then_on limit g code (works_follow x o (pc + 1) h stack here w (has_front code.lines (pc + 1) cx _ has.1)) (λ done w.
        step_then limit g code (at_it (pc + 1 + length cx) (Object h ∷ stack) here w (line o i.Drop) hd.0)
        (one_step limit g code n None w (λ status w. state (pc + 1 + length cx + 1 + 1) (Status status ∷ stack) here frames w)
        (at_it (pc + 1 + length cx + 1) stack here w (line o i.NoError) hd.1.0)))))))
        (λ e. one_step limit g code n (Some NotAllocated) w _ (e ∙ ap (λ q. Goes [] (state q (Status (Some NotAllocated) ∷ stack) here frames w)) over)))

    pub deallocates_follow : (xs : List c.Deallocation) (o : Option Place) (pc : ℕ) (stack : List Cell) (here : Here) (w : World) →
        HasAt code.lines pc (deallocate_code m o xs) → Reaches limit g code n (state pc stack here frames w)
        (deallocate_all g n types calls xs (placed o here)) w (λ x w. state (pc + length (deallocate_code m o xs)) (Status x ∷ stack) here frames w)
    deallocates_follow [] o pc stack here w has = one_step limit g code n None w _ (at_it pc stack here w (line o i.NoError) has.0)
    deallocates_follow (x ∷ xs) o pc stack here w has =
        let cr = line o (i.SkipIfFailed (length (deallocate_code m o xs))) ∷ deallocate_code m o xs in
        then_code limit g code n frames (locate_code o x.object) (free_code m o x.free ++ cr) pc has (locates x.object o pc stack here w) (λ h w has.
        then_code limit g code n frames (free_code m o x.free) cr _ has (free_follows x.free o _ h stack here w) (λ status w has.
        failed_follows limit g code n frames calls follow status (deallocate_all g n types calls xs (placed o here)) (deallocate_code m o xs) o _ stack here
        w has (λ has. deallocates_follow xs o _ stack here w has)))
