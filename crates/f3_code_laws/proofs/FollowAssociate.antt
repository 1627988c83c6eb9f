-- The code of an ASSOCIATE follows it, where that of the statements in it does; and so the code of each statement.
use Rattle.std.proofs.Common.{◌≡◌, ℕ, ◌+◌, List, [], ◌∷◌, ◌++◌, length, Option, Some, refl, ap, ◌∙◌, arith, length-append}
use Rattle.std.specs.Prelude.{⊤, slice_get}
use Rattle.f3_places.specs.declared.source.Place.{Place}
use Rattle.f3_meaning_whole.specs.Store.{Store}
use Rattle.f3_meaning_whole.specs.Reference.{Reference}
use Rattle.f3_meaning_whole.specs.Ran.{World, Ran, ◌>>=◌, gives, looks}
use Rattle.f3_meaning_whole.specs.Act.{Setting, Here, Calls, enter, leave, associating}
use Rattle.f3_meaning_whole.specs.Exec.{held_by, associates}
use Rattle.f3_code.specs.Work.{Work, routines_of}
use Rattle.f3_code.specs.Core as c
use Rattle.f3_code.specs.Exec.{exec, discard_selectors}
use Rattle.f3_code.specs.declared.instruction.Instruction.TheVariants as i
use Rattle.f3_code.specs.State.{Line, line, placed, Code, Cell, Object, Objects, Selector, Level, Outside, Going, Frame, Goes}
use Rattle.f3_code.specs.Machine.{act, step, selector_of}
use Rattle.f3_code.specs.Code.{work_code, selectors_code, discards_code, scoped, leaving_code, departing_code, code_of}
use Rattle.f3_code_laws.proofs.Places.{HasAt, has_front, has_back}
use Rattle.f3_code_laws.proofs.Reaching.{Comes, Reaches, step_then, stays, then_where, then_on, comes_here, comes_by, comes_on, comes_then, as_well, bind_assoc, then_same, nothing_then, bind_ends, gives_end, looks_end}
use Rattle.f3_code_laws.proofs.Ending.{enter_ends, leave_ends}
use Rattle.f3_code_laws.proofs.FollowValue.{state, onto, popped, CallsFollow, is_at, ending, at_line}
use Rattle.f3_code_laws.proofs.FollowWork.{RoutinesFollow, work_follows}
use Rattle.f3_code_laws.proofs.FollowTransfer.{selectors_count, selectors_follow}
use Rattle.f3_code_laws.proofs.FollowStatement.{leads}
use Rattle.f3_code_laws.proofs.FollowCore.{Follows, at_follows, skip_follows, then_follows, assign_follows, call_follows, allocate_follows, deallocate_follows, print_follows, stop_follows, cycle_follows, exit_follows, return_follows, if_follows, case_follows, while_follows}
use Rattle.f3_code_laws.proofs.FollowScopes.{leaves, departs_so, select_follows, move_follows}
use Rattle.f3_code_laws.proofs.FollowDo.{do_follows}

-- a level that begins, and what follows
entered_then : {A : Type 0} (f : Store → ℕ) (e : Ran ⊤) (rest : ℕ → Ran A) →
    ((looks f >>= λ level. e >>= λ done. gives level) >>= rest) ≡ (looks f >>= λ level. e >>= λ done. rest level)
entered_then f e rest = bind_assoc (looks f) (λ level. e >>= λ done. gives level) rest ∙
    then_same (looks f) (λ level. bind_assoc e (λ done. gives level) rest ∙ then_same e (λ done. nothing_then level rest))

abbrev left_over : List c.Selector → List Reference → List Reference
left_over [] rs = rs
left_over (x ∷ xs) [] = []
left_over (x ∷ xs) (r ∷ rs) = left_over xs rs

module _ (limit : ℕ) (g : Setting) (code : Code) (n : ℕ) (frames : List Frame) (calls : Calls) (follow : CallsFollow limit g code n calls frames) (m : ℕ)
    (types : List Work) (routines_follow : RoutinesFollow limit g code n m (routines_of g calls types) frames) where
  at_it : (pc : ℕ) (stack : List Cell) (here : Here) (w : World) (l : Line) → slice_get code.lines pc ≡ Some l →
      step limit g code (state pc stack here frames w) ≡ act limit g code l.act l.value (placed l.place here) (state pc stack here frames w)
  at_it = is_at limit g code n frames

  abbrev Does : c.Core → Type 0
  Does x = Follows limit g code n frames calls follow m types routines_follow x

  -- no objects are left
  none_left : (xs : List c.Selector) (o : Option Place) (pc on : ℕ) (stack : List Cell) (here : Here) (w : World) →
      HasAt code.lines pc (discards_code m o xs) → pc + length (discards_code m o xs) ≡ on →
      Comes limit g code (state pc (Objects [] ∷ stack) here frames w) [] (state on (Objects [] ∷ stack) here frames w)
  none_left [] o pc on stack here w has e =
      let e' : pc ≡ on = omega (arith, e) in
      comes_here limit g code (ap (λ q. state q (Objects [] ∷ stack) here frames w) e')
  none_left (c.Bind d ∷ xs) o pc on stack here w has e =
      let e' : pc + 1 + 1 + length (discards_code m o xs) ≡ on = omega (arith, e) in
      comes_on limit g code (comes_by limit g code (at_it pc (Objects [] ∷ stack) here w (line o (i.NextObject 1)) has.0))
      (none_left xs o (pc + 1 + 1) on stack here w has.1.1 e')
  none_left (c.Hold of x y ∷ xs) o pc on stack here w has e =
      let cy = work_code m o y in
      let cd = discards_code m o xs in
      let h = has_back code.lines (pc + 1) cy (line o i.Drop ∷ cd) has.1 in
      let p = pc + 1 + length cy + 1 in
      let skip : pc + 1 + (length cy + 1) ≡ p = omega arith in
      let e' : p + length cd ≡ on = omega (arith, e, length-append cy (line o i.Drop ∷ cd)) in
      comes_on limit g code (comes_by limit g code (at_it pc (Objects [] ∷ stack) here w (line o (i.NextObject (length cy + 1))) has.0 ∙
      ap (λ q. Goes [] (state q (Objects [] ∷ stack) here frames w)) skip)) (none_left xs o p on stack here w h.1 e')

  discards_follow : (xs : List c.Selector) (rs : List Reference) (o : Option Place) (pc on : ℕ) (stack : List Cell) (here : Here) (w : World) →
      HasAt code.lines pc (discards_code m o xs) → pc + length (discards_code m o xs) ≡ on →
      Reaches limit g code n (state pc (Objects rs ∷ stack) here frames w) (discard_selectors g n types calls xs rs (placed o here)) w
      (λ done w. state on (Objects (left_over xs rs) ∷ stack) here frames w)
  discards_follow [] rs o pc on stack here w has e =
      let e' : pc ≡ on = omega (arith, e) in
      ending limit g code n frames pc on (λ done. Objects rs ∷ stack) here e'
      (stays limit g code n tt w (λ done w. state pc (Objects rs ∷ stack) here frames w))
  discards_follow (c.Bind d ∷ xs) [] o pc on stack here w has e =
      comes_then limit g code (none_left (c.Bind d ∷ xs) o pc on stack here w has e)
      (stays limit g code n tt w (λ done w. state on (Objects [] ∷ stack) here frames w))
  discards_follow (c.Hold of x y ∷ xs) [] o pc on stack here w has e =
      comes_then limit g code (none_left (c.Hold of x y ∷ xs) o pc on stack here w has e)
      (stays limit g code n tt w (λ done w. state on (Objects [] ∷ stack) here frames w))
  discards_follow (c.Bind d ∷ xs) (r ∷ rs) o pc on stack here w has e =
      let e' : pc + 1 + 1 + length (discards_code m o xs) ≡ on = omega (arith, e) in
      step_then limit g code (at_it pc (Objects (r ∷ rs) ∷ stack) here w (line o (i.NextObject 1)) has.0)
      (step_then limit g code (at_it (pc + 1) (Object r ∷ Objects rs ∷ stack) here w (line o i.Drop) has.1.0)
      (discards_follow xs rs o (pc + 1 + 1) on stack here w has.1.1 e'))
  discards_follow (c.Hold of x y ∷ xs) (r ∷ rs) o pc on stack here w has e =
      let cy = work_code m o y in
      let cd = discards_code m o xs in
      let h = has_back code.lines (pc + 1) cy (line o i.Drop ∷ cd) has.1 in
      let p = pc + 1 + length cy in
      let e' : p + 1 + length cd ≡ on = omega (arith, e, length-append cy (line o i.Drop ∷ cd)) in
      step_then limit g code (at_it pc (Objects (r ∷ rs) ∷ stack) here w (line o (i.NextObject (length cy + 1))) has.0)
      (then_on limit g code (work_follows limit g code n frames calls follow m (routines_of g calls types) routines_follow y o (pc + 1) r
      (Objects rs ∷ stack) here w (has_front code.lines (pc + 1) cy _ has.1)) (λ done w.
      step_then limit g code (at_it p (Object r ∷ Objects rs ∷ stack) here w (line o i.Drop) h.0) (discards_follow xs rs o (p + 1) on stack here w h.1 e')))

  pub associate_follows : (xs : List c.Selector) (x : c.Core) → Does x → Does (c.Associate xs x)
  associate_follows xs x follows o ws pc on cyc left back base here w has on_is cyc_is left_is back_is =
      let there = placed o here in
      let cs = selectors_code o xs in let cx = code_of m o x scoped in
      let cl = leaving_code o in let cd = discards_code m o xs in let cw = departing_code o ws in
      let begin = line o (i.Associate (length xs)) in
      let r3 = line o i.EndAssociate ∷ cw in
      let r2 = line o i.Associated ∷ (cd ++ r3) in
      let h1 = has_back code.lines pc cs (begin ∷ (cx ++ (cl ++ r2))) has in
      let p1 = pc + length cs in
      let h2 = has_back code.lines (p1 + 1) cx (cl ++ r2) h1.1 in
      let p2 = p1 + 1 + length cx in
      let h3 = has_back code.lines p2 cl r2 h2 in
      let p3 = p2 + 4 in
      let h4 = has_back code.lines (p3 + 1) cd r3 h3.1 in
      let p4 = p3 + 1 + length cd in
      let len : p4 + 1 + 3 ≡ on = omega (
        arith,
        on_is,
        length-append cs (begin ∷ (cx ++ (cl ++ r2))),
        length-append cx (cl ++ r2),
        length-append cl r2,
        length-append cd r3,
      ) in
      then_where limit g code (λ found. length found ≡ length xs) (selectors_count limit g code n frames calls follow types xs there)
      (selectors_follow limit g code n frames calls follow types xs o pc base here w (has_front code.lines pc cs _ has)) (λ found w count.
      as_well limit g code (entered_then (λ store. length store.levels) (enter (held_by found))
      (λ level. exec g n types calls x (associating (associates found level 0 here.unit) there) >>= λ flow.
      discard_selectors g n types calls xs (associates found level 0 here.unit) there >>= λ done. leave level >>= λ done. gives flow))
      (then_on limit g code (at_line limit g code n frames {next = λ level w.
      state (p1 + 1) (Outside here ∷ Level level (associates found level 0 here.unit) ∷ base) (associating (associates found level 0 here.unit) here)
      frames w} (looks (λ store. length store.levels) >>= λ level. enter (held_by found) >>= λ done. gives level) p1 (onto Selector found base) here w
      begin (bind_ends (looks_end _) (λ level. bind_ends (enter_ends (held_by found)) (λ done. gives_end level))) h1.0
      (popped selector_of Selector (λ a. refl) found base (length xs) _ count)) (λ level w.
      let rs = associates found level 0 here.unit in
      let under = Level level rs ∷ base in
      let inner = associating rs here in
      then_on limit g code (follows o scoped (p1 + 1) p2 (p2 + 1) (p2 + 2) (p2 + 3) (Outside here ∷ under) inner w (has_front code.lines (p1 + 1) cx _ h1.1)
      refl refl refl refl) (λ flow w.
      comes_then limit g code (leaves limit g code n frames o p2 under inner here flow w (has_front code.lines p2 cl r2 h2))
      (step_then limit g code (at_it p3 (Going flow ∷ under) here w (line o i.Associated) h3.0)
      (then_on limit g code (discards_follow xs rs o (p3 + 1) p4 (Going flow ∷ under) here w (has_front code.lines (p3 + 1) cd _ h3.1) refl) (λ done w.
      then_on limit g code (at_line limit g code n frames {next = λ done w. state (p4 + 1) (Going flow ∷ base) here frames w} (leave level) p4
      (Objects (left_over xs rs) ∷ Going flow ∷ under) here w (line o i.EndAssociate) (leave_ends level) h4.0 refl) (λ done w.
      comes_then limit g code (departs_so limit g code n frames o ws (p4 + 1) on cyc left back base here flow w h4.1 len cyc_is left_is back_is)
      (stays limit g code n flow w (leads on cyc left back ws.cells base here frames))))))))))

  -- the code of each statement does what the statement does
  pub exec_follows : (x : c.Core) → Does x
  exec_follows (c.At place b x) = at_follows limit g code n frames calls follow m types routines_follow place b x (exec_follows x)
  exec_follows c.Skip = skip_follows limit g code n frames calls follow m types routines_follow
  exec_follows (c.Then x y) = then_follows limit g code n frames calls follow m types routines_follow x y (exec_follows x) (exec_follows y)
  exec_follows (c.Assign d x e) = assign_follows limit g code n frames calls follow m types routines_follow d x e
  exec_follows (c.Call e) = call_follows limit g code n frames calls follow m types routines_follow e
  exec_follows (c.Move b x d e) = move_follows limit g code n frames calls follow m types routines_follow b x d e
  exec_follows (c.Allocate xs stat) = allocate_follows limit g code n frames calls follow m types routines_follow xs stat
  exec_follows (c.Deallocate xs stat) = deallocate_follows limit g code n frames calls follow m types routines_follow xs stat
  exec_follows (c.Print xs) = print_follows limit g code n frames calls follow m types routines_follow xs
  exec_follows (c.Stop number) = stop_follows limit g code n frames calls follow m types routines_follow number
  exec_follows c.Return = return_follows limit g code n frames calls follow m types routines_follow
  exec_follows c.Cycle = cycle_follows limit g code n frames calls follow m types routines_follow
  exec_follows c.Exit = exit_follows limit g code n frames calls follow m types routines_follow
  exec_follows (c.If e x y) = if_follows limit g code n frames calls follow m types routines_follow e x y (exec_follows x) (exec_follows y)
  exec_follows (c.Select e x) = select_follows limit g code n frames calls follow m types routines_follow e x (exec_follows x)
  exec_follows (c.Case rs x y) = case_follows limit g code n frames calls follow m types routines_follow rs x y (exec_follows x) (exec_follows y)
  exec_follows (c.While e x) = while_follows limit g code n frames calls follow m types routines_follow e x (exec_follows x)
  exec_follows (c.Count d k from to by x) = do_follows limit g code n frames calls follow m types routines_follow d k from to by x (exec_follows x)
  exec_follows (c.Associate xs x) = associate_follows xs x (exec_follows x)
