-- The code of each form of statement follows it, where that of the statements in it does.
use Rattle.std.proofs.Common.{◌≡◌, ℕ, suc, ◌+◌, ◌-◌, Bool, true, false, List, [], ◌∷◌, ◌++◌, length, Option, Some, refl, sym, ap, ◌∙◌, arith, length-append, if◌then◌else◌}
use Rattle.std.specs.Prelude.{slice_get, drop}
use Rattle.f3_places.specs.declared.source.Place.{Place}
use Rattle.f3_program.specs.declared.expression.Designator.{Designator}
use Rattle.f3_program.specs.declared.expression.Expression.{Expression}
use Rattle.f3_program.specs.declared.statement.Item.{Item}
use Rattle.f3_program.specs.declared.statement.Range.{Range}
use Rattle.f3_meaning_whole.specs.Value.{truth_of}
use Rattle.f3_meaning_whole.specs.Ran.{World, Ran, gives}
use Rattle.f3_meaning_whole.specs.Act.{Setting, Here, Calls, begins, at}
use Rattle.f3_meaning_whole.specs.Eval.{value, locate}
use Rattle.f3_meaning_whole.specs.Exec.{Flow, Onward, Cycled, Left, Returned}
use Rattle.f3_meaning_whole.specs.Exec as meaning
use Rattle.f3_code.specs.Work.{Work, routines_of}
use Rattle.f3_code.specs.Core as c
use Rattle.f3_code.specs.Exec.{exec}
use Rattle.f3_code.specs.declared.instruction.Instruction.TheVariants as i
use Rattle.f3_code.specs.State.{Line, line, placed, Code, Cell, Datum, Object, Frame, State, Goes}
use Rattle.f3_code.specs.Machine.{act, step}
use Rattle.f3_code.specs.Code.{value_code, locate_code, transfer_code, allocate_code, deallocate_code, status_code, items_code, ranges_code, Ways, farther, looped, code_of}
use Rattle.f3_code_laws.proofs.Places.{HasAt, has_front, has_back}
use Rattle.f3_code_laws.proofs.Reaching.{Reaches, fewer, step_then, one_step, stops_at, then_on, ends_with, comes_then}
use Rattle.f3_code_laws.proofs.Ending.{begins_ends}
use Rattle.f3_code_laws.proofs.FollowValue.{state, CallsFollow, is_at, starting, at_line, value_follows, locate_follows}
use Rattle.f3_code_laws.proofs.FollowWork.{RoutinesFollow}
use Rattle.f3_code_laws.proofs.FollowParts.{allocates_follow, status_follows}
use Rattle.f3_code_laws.proofs.FollowTransfer.{transfer_follows, deallocates_follow, items_follow, ranges_follow}
use Rattle.f3_code_laws.proofs.FollowStatement.{leads, onward_follows, jumped, goes_onward, chosen, loop_follows}

module _ (limit : ℕ) (g : Setting) (code : Code) (n : ℕ) (frames : List Frame) (calls : Calls) (follow : CallsFollow limit g code n calls frames) (m : ℕ)
    (types : List Work) (routines_follow : RoutinesFollow limit g code n m (routines_of g calls types) frames) where
  at_it : (pc : ℕ) (stack : List Cell) (here : Here) (w : World) (l : Line) → slice_get code.lines pc ≡ Some l →
      step limit g code (state pc stack here frames w) ≡ act limit g code l.act l.value (placed l.place here) (state pc stack here frames w)
  at_it = is_at limit g code n frames

  values : (x : Expression) (o : Option Place) (pc : ℕ) (stack : List Cell) (here : Here) (w : World) → HasAt code.lines pc (value_code o x) →
      Reaches limit g code n (state pc stack here frames w) (value g calls x (placed o here)) w
      (λ v w. state (pc + length (value_code o x)) (Datum v ∷ stack) here frames w)
  values = value_follows limit g code n frames calls follow

  locates : (x : Designator) (o : Option Place) (pc : ℕ) (stack : List Cell) (here : Here) (w : World) → HasAt code.lines pc (locate_code o x) →
      Reaches limit g code n (state pc stack here frames w) (locate g calls x (placed o here)) w
      (λ r w. state (pc + length (locate_code o x)) (Object r ∷ stack) here frames w)
  locates = locate_follows limit g code n frames calls follow

  goes_on : (pc on cyc left back cells : ℕ) (base : List Cell) (here : Here) (w : World) → pc ≡ on →
      Reaches limit g code n (state pc base here frames w) (gives Onward) w (leads on cyc left back cells base here frames)
  goes_on = goes_onward limit g code n frames

  -- the code of a statement does what the statement does, wherever it stands
  abbrev pub Follows : c.Core → Type 0
  Follows x = (o : Option Place) (ws : Ways) (pc on cyc left back : ℕ) (base : List Cell) (here : Here) (w : World) →
      HasAt code.lines pc (code_of m o x ws) → on ≡ pc + length (code_of m o x ws) → cyc ≡ on + ws.cycle → left ≡ on + ws.exit → back ≡ on + ws.ret →
      Reaches limit g code n (state pc base here frames w) (exec g n types calls x (placed o here)) w (leads on cyc left back ws.cells base here frames)

  pub at_follows : (place : Place) (b : Bool) (x : c.Core) → Follows x → Follows (c.At place b x)
  at_follows place true x follows o ws pc on cyc left back base here w has on_is cyc_is left_is back_is =
      let on_x : on ≡ pc + 1 + length (code_of m (Some place) x ws) = omega (arith, on_is) in
      then_on limit g code (at_line limit g code n frames (begins (at place here)) pc base here w (line (Some place) i.Begin) (begins_ends (at place here))
      has.0 refl) (λ done w. follows (Some place) ws (pc + 1) on cyc left back base here w has.1 on_x cyc_is left_is back_is)
  at_follows place false x follows o ws pc on cyc left back base here w has on_is cyc_is left_is back_is =
      follows (Some place) ws pc on cyc left back base here w has on_is cyc_is left_is back_is

  pub skip_follows : Follows c.Skip
  skip_follows o ws pc on cyc left back base here w has on_is cyc_is left_is back_is = goes_on pc on cyc left back ws.cells base here w (omega (arith, on_is))

  pub then_follows : (x y : c.Core) → Follows x → Follows y → Follows (c.Then x y)
  then_follows x y first second o ws pc on cyc left back base here w has on_is cyc_is left_is back_is =
      let cy = code_of m o y ws in
      let ws' = farther (length cy) ws in
      let cx = code_of m o x ws' in
      let mid = pc + length cx in
      let on_y : on ≡ mid + length cy = omega (arith, on_is, length-append cx cy) in
      let cyc_x : cyc ≡ mid + (length cy + ws.cycle) = omega (arith, cyc_is, on_y) in
      let left_x : left ≡ mid + (length cy + ws.exit) = omega (arith, left_is, on_y) in
      let back_x : back ≡ mid + (length cy + ws.ret) = omega (arith, back_is, on_y) in
      then_on limit g code (first o ws' pc mid cyc left back base here w (has_front code.lines pc cx cy has) refl cyc_x left_x back_x)
      (λ flow w. onward_follows limit g code n frames on mid cyc left back ws.cells base here flow (exec g n types calls y (placed o here)) w
      (second o ws mid on cyc left back base here w (has_back code.lines pc cx cy has) on_y cyc_is left_is back_is))

  pub assign_follows : (d : Designator) (x : c.Transfer) (e : Expression) → Follows (c.Assign d x e)
  assign_follows d x e o ws pc on cyc left back base here w has on_is cyc_is left_is back_is =
      let ce = value_code o e in let cd = locate_code o d in let ct = transfer_code m o x in
      let h1 = has_back code.lines pc ce (cd ++ ct) has in
      let p1 = pc + length ce in
      let h2 = has_back code.lines p1 cd ct h1 in
      let p2 = p1 + length cd in
      let len : p2 + length ct ≡ on = omega (arith, on_is, length-append ce (cd ++ ct), length-append cd ct) in
      then_on limit g code (values e o pc base here w (has_front code.lines pc ce (cd ++ ct) has)) (λ v w.
      then_on limit g code (locates d o p1 (Datum v ∷ base) here w (has_front code.lines p1 cd ct h1)) (λ r w.
      then_on limit g code (transfer_follows limit g code n frames calls follow m types routines_follow x o p2 r v base here w h2)
      (λ done w. goes_on (p2 + length ct) on cyc left back ws.cells base here w len)))

  pub call_follows : (e : Expression) → Follows (c.Call e)
  call_follows e o ws pc on cyc left back base here w has on_is cyc_is left_is back_is =
      let ce = value_code o e in
      let h = has_back code.lines pc ce (line o i.Drop ∷ []) has in
      let len : pc + length ce + 1 ≡ on = omega (arith, on_is, length-append ce (line o i.Drop ∷ [])) in
      then_on limit g code (values e o pc base here w (has_front code.lines pc ce _ has))
      (λ v w. step_then limit g code (at_it (pc + length ce) (Datum v ∷ base) here w (line o i.Drop) h.0)
      (goes_on (pc + length ce + 1) on cyc left back ws.cells base here w len))

  pub allocate_follows : (xs : List c.Allocation) (stat : Option Designator) → Follows (c.Allocate xs stat)
  allocate_follows xs stat o ws pc on cyc left back base here w has on_is cyc_is left_is back_is =
      let ca = allocate_code o xs in let cs = status_code o stat in
      let p1 = pc + length ca in
      let len : p1 + length cs ≡ on = omega (arith, on_is, length-append ca cs) in
      then_on limit g code (allocates_follow limit g code n frames calls follow types xs o pc base here w (has_front code.lines pc ca cs has)) (λ status w.
      then_on limit g code (status_follows limit g code n frames calls follow stat status o p1 base here w (has_back code.lines pc ca cs has))
      (λ done w. goes_on (p1 + length cs) on cyc left back ws.cells base here w len))

  pub deallocate_follows : (xs : List c.Deallocation) (stat : Option Designator) → Follows (c.Deallocate xs stat)
  deallocate_follows xs stat o ws pc on cyc left back base here w has on_is cyc_is left_is back_is =
      let ca = deallocate_code m o xs in let cs = status_code o stat in
      let p1 = pc + length ca in
      let len : p1 + length cs ≡ on = omega (arith, on_is, length-append ca cs) in
      then_on limit g code (deallocates_follow limit g code n frames calls follow m types routines_follow xs o pc base here w
      (has_front code.lines pc ca cs has)) (λ status w.
      then_on limit g code (status_follows limit g code n frames calls follow stat status o p1 base here w (has_back code.lines pc ca cs has))
      (λ done w. goes_on (p1 + length cs) on cyc left back ws.cells base here w len))

  pub print_follows : (xs : List Item) → Follows (c.Print xs)
  print_follows xs o ws pc on cyc left back base here w has on_is cyc_is left_is back_is =
      then_on limit g code (items_follow limit g code n frames calls follow xs o pc base here w has)
      (λ done w. goes_on (pc + length (items_code o xs)) on cyc left back ws.cells base here w (sym on_is))

  pub stop_follows : (number : Option ℕ) → Follows (c.Stop number)
  stop_follows number o ws pc on cyc left back base here w has on_is cyc_is left_is back_is =
      stops_at limit g code n number w _ (at_it pc base here w (line o (i.Stop number)) has.0)

  pub cycle_follows : Follows c.Cycle
  cycle_follows o ws pc on cyc left back base here w has on_is cyc_is left_is back_is =
      let e : pc + 1 + ws.cycle ≡ cyc = omega (arith, on_is, cyc_is) in
      one_step limit g code n Cycled w (leads on cyc left back ws.cells base here frames)
      (at_it pc base here w (line o (i.GoOn ws.cycle)) has.0 ∙ ap (λ q. Goes [] (state q base here frames w)) e)

  pub exit_follows : Follows c.Exit
  exit_follows o ws pc on cyc left back base here w has on_is cyc_is left_is back_is =
      let e : pc + 1 + ws.exit ≡ left = omega (arith, on_is, left_is) in
      one_step limit g code n Left w (leads on cyc left back ws.cells base here frames)
      (at_it pc base here w (line o (i.GoOn ws.exit)) has.0 ∙ ap (λ q. Goes [] (state q base here frames w)) e)

  pub return_follows : Follows c.Return
  return_follows o ws pc on cyc left back base here w has on_is cyc_is left_is back_is =
      let e : pc + 1 + 1 + 1 + ws.ret ≡ back = omega (arith, on_is, back_is) in
      let there = placed o here in
      step_then limit g code (at_it pc base here w (line o i.SetPlace) has.0)
      (step_then limit g code (at_it (pc + 1) base there w (line o (i.Unwind ws.cells)) has.1.0)
      (one_step limit g code n (Returned there.place) w (leads on cyc left back ws.cells base here frames)
      (at_it (pc + 1 + 1) (drop ws.cells base) there w (line o (i.GoOn ws.ret)) has.1.1.0 ∙
      ap (λ q. Goes [] (state q (drop ws.cells base) there frames w)) e)))

  pub if_follows : (e : Expression) (x y : c.Core) → Follows x → Follows y → Follows (c.If e x y)
  if_follows e x y first second o ws pc on cyc left back base here w has on_is cyc_is left_is back_is =
      let ce = value_code o e in let cy = code_of m o y ws in
      let ws' = farther (1 + length cy) ws in
      let cx = code_of m o x ws' in
      let skip = line o (i.SkipIfFalse (length cx + 1)) in
      let over = line o (i.GoOn (length cy)) in
      let mid = pc + length ce in
      let h = has_back code.lines pc ce (skip ∷ (cx ++ (over ∷ cy))) has in
      let hy = has_back code.lines (mid + 1) cx (over ∷ cy) h.1 in
      let end = mid + 1 + length cx in
      let jumps_on : end + 1 + length cy ≡ on = omega (arith, on_is, length-append ce (skip ∷ (cx ++ (over ∷ cy))), length-append cx (over ∷ cy)) in
      let to_y : mid + 1 + (length cx + 1) ≡ end + 1 = omega arith in
      let cyc_x : cyc ≡ end + (1 + length cy + ws.cycle) = omega (arith, cyc_is, jumps_on) in
      let left_x : left ≡ end + (1 + length cy + ws.exit) = omega (arith, left_is, jumps_on) in
      let back_x : back ≡ end + (1 + length cy + ws.ret) = omega (arith, back_is, jumps_on) in
      then_on limit g code (values e o pc base here w (has_front code.lines pc ce _ has))
      (λ v w. fewer limit g code n (suc n) (omega arith) (chosen limit g code n frames n (truth_of v) _ (state (mid + 1) base here frames w)
      (state (mid + 1 + (length cx + 1)) base here frames w) (exec g n types calls x (placed o here)) (exec g n types calls y (placed o here)) w _
      (at_it mid (Datum v ∷ base) here w skip h.0)
      (ends_with limit g code (first o ws' (mid + 1) end cyc left back base here w (has_front code.lines (mid + 1) cx _ h.1) refl cyc_x left_x back_x)
      (λ flow w. jumped limit g code n frames o (length cy) on end cyc left back ws.cells base here flow w hy.0 jumps_on))
      (starting limit g code n frames n _ _ base here w to_y (second o ws (end + 1) on cyc left back base here w hy.1 (sym jumps_on) cyc_is left_is back_is))))

  pub case_follows : (rs : List Range) (x y : c.Core) → Follows x → Follows y → Follows (c.Case rs x y)
  case_follows rs x y first second o ws pc on cyc left back base here w has on_is cyc_is left_is back_is =
      let cr = ranges_code o rs in let cy = code_of m o y ws in
      let ws' = farther (1 + length cy) ws in
      let cx = code_of m o x ws' in
      let skip = line o (i.GoOn (length cx + 1)) in
      let over = line o (i.GoOn (length cy)) in
      let mid = pc + length cr in
      let h = has_back code.lines pc cr (skip ∷ (cx ++ (over ∷ cy))) has in
      let hy = has_back code.lines (mid + 1) cx (over ∷ cy) h.1 in
      let end = mid + 1 + length cx in
      let jumps_on : end + 1 + length cy ≡ on = omega (arith, on_is, length-append cr (skip ∷ (cx ++ (over ∷ cy))), length-append cx (over ∷ cy)) in
      let to_y : mid + 1 + (length cx + 1) ≡ end + 1 = omega arith in
      let cyc_x : cyc ≡ end + (1 + length cy + ws.cycle) = omega (arith, cyc_is, jumps_on) in
      let left_x : left ≡ end + (1 + length cy + ws.exit) = omega (arith, left_is, jumps_on) in
      let back_x : back ≡ end + (1 + length cy + ws.ret) = omega (arith, back_is, jumps_on) in
      let in_x = ends_with limit g code (first o ws' (mid + 1) end cyc left back base here w (has_front code.lines (mid + 1) cx _ h.1) refl cyc_x left_x
      back_x) (λ flow w. jumped limit g code n frames o (length cy) on end cyc left back ws.cells base here flow w hy.0 jumps_on) in
      let in_y = step_then limit g code (at_it mid base here w skip h.0)
      (starting limit g code n frames n _ _ base here w to_y (second o ws (end + 1) on cyc left back base here w hy.1 (sym jumps_on) cyc_is left_is
      back_is)) in
      comes_then limit g code (ranges_follow limit g code n frames calls follow rs o pc mid base here w (has_front code.lines pc cr _ has) refl)
      (either (meaning.some_meets g n calls rs here.selected) mid base here w (exec g n types calls x (placed o here))
      (exec g n types calls y (placed o here)) (leads on cyc left back ws.cells base here frames) in_x in_y)
    where
      either : (b : Bool) (mid : ℕ) (base : List Cell) (here : Here) (w : World) (r q : Ran Flow) (next : Flow → World → State) →
          Reaches limit g code n (state (mid + 1) base here frames w) r w next → Reaches limit g code n (state mid base here frames w) q w next →
          Reaches limit g code n (state (if b then mid + 1 else mid) base here frames w) (if b then r else q) w next
      either true mid base here w r q next hr hq = hr
      either false mid base here w r q next hr hq = hq

  pub while_follows : (e : Expression) (x : c.Core) → Follows x → Follows (c.While e x)
  while_follows e x follows o ws pc on cyc left back base here w has on_is cyc_is left_is back_is =
      let ce = value_code o e in
      let cx = code_of m o x (looped ws) in
      let b = length ce + 1 + length cx in
      let skip = line o (i.SkipIfFalse (length cx + 1)) in
      let again = line o (i.GoBack b) in
      let mid = pc + length ce in
      let h = has_back code.lines pc ce (skip ∷ (cx ++ again ∷ [])) has in
      let hb = has_back code.lines (mid + 1) cx (again ∷ []) h.1 in
      let end = mid + 1 + length cx in
      let end_is : end + 1 ≡ on = omega (arith, on_is, length-append ce (skip ∷ (cx ++ again ∷ [])), length-append cx (again ∷ [])) in
      let skips : mid + 1 + (length cx + 1) ≡ on = omega (arith, end_is) in
      let returns : end - b ≡ pc = omega arith in
      let cyc_x : end ≡ end + 0 = omega arith in
      let left_x : on ≡ end + 1 = omega (arith, end_is) in
      let back_x : back ≡ end + (1 + ws.ret) = omega (arith, back_is, end_is) in
      loop_follows limit g code n frames o (value g calls e (placed o here)) (exec g n types calls x (placed o here)) base here pc mid end on cyc left back
      ws.cells (length cx + 1) b h.0 skips hb.0 returns (λ w. values e o pc base here w (has_front code.lines pc ce _ has))
      (λ w. follows o (looped ws) (mid + 1) end end on back base here w (has_front code.lines (mid + 1) cx _ h.1) refl cyc_x left_x back_x) n
      (omega arith) w
