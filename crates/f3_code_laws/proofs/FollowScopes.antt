-- The code of SELECT CASE, DO and MOVE_ALLOC follows it, where that of the statements in it does.
use Rattle.std.proofs.Common.{◌≡◌, ℕ, ◌+◌, Bool, true, false, List, [], ◌∷◌, ◌++◌, length, Option, Some, refl, sym, ap, ◌∙◌, arith, length-append}
use Rattle.std.specs.Prelude.{slice_get, drop}
use Rattle.f3_places.specs.declared.source.Place.{Place}
use Rattle.f3_program.specs.declared.expression.Designator.{Designator}
use Rattle.f3_program.specs.declared.expression.Expression.{Expression}
use Rattle.f3_meaning_whole.specs.Value.{Value, Number, Truth, Composite, Array, Unallocated, Allocated}
use Rattle.f3_meaning_whole.specs.Store.{get}
use Rattle.f3_meaning_whole.specs.Reference.{Reference}
use Rattle.f3_meaning_whole.specs.Ran.{World, ◌>>=◌, looks}
use Rattle.f3_meaning_whole.specs.Act.{Setting, Here, Calls, at, selecting, lending}
use Rattle.f3_meaning_whole.specs.Exec.{Flow, Onward, Cycled, Left, Returned, next_turn, counted, unless_zero}
use Rattle.f3_meaning_whole.specs.Exec as meaning
use Rattle.f3_code.specs.Work.{Work, routines_of}
use Rattle.f3_code.specs.Core as c
use Rattle.f3_code.specs.Exec.{move_alloc}
use Rattle.f3_code.specs.declared.instruction.Instruction.TheVariants as i
use Rattle.f3_code.specs.declared.instruction.Way.TheVariants as way
use Rattle.f3_code.specs.State.{Line, line, placed, Code, Cell, Datum, Object, Outside, Going, Frame, Goes}
use Rattle.f3_code.specs.Machine.{act, step, no_calls}
use Rattle.f3_code.specs.Code.{value_code, locate_code, work_code, Ways, scoped, leaving_code, departing_code, code_of}
use Rattle.f3_code_laws.proofs.Places.{HasAt, has_front, has_back}
use Rattle.f3_code_laws.proofs.Reaching.{Comes, Reaches, step_then, then_on, ends_with, comes_by, comes_on, as_well, then_same, bind_ends, looks_end}
use Rattle.f3_code_laws.proofs.Ending.{take_over_ends}
use Rattle.f3_code_laws.proofs.FollowValue.{state, CallsFollow, is_at, at_line, value_follows, locate_follows}
use Rattle.f3_code_laws.proofs.FollowWork.{RoutinesFollow, work_follows}
use Rattle.f3_code_laws.proofs.FollowStatement.{leads, goes_onward}
use Rattle.f3_code_laws.proofs.FollowCore.{Follows}

module _ (limit : ℕ) (g : Setting) (code : Code) (n : ℕ) (frames : List Frame) where
  at_it : (pc : ℕ) (stack : List Cell) (here : Here) (w : World) (l : Line) → slice_get code.lines pc ≡ Some l →
      step limit g code (state pc stack here frames w) ≡ act limit g code l.act l.value (placed l.place here) (state pc stack here frames w)
  at_it = is_at limit g code n frames

  -- the ways out of a construct lead to its end
  pub leaves : (o : Option Place) (pc : ℕ) (base : List Cell) (inner outer : Here) (flow : Flow) (w : World) → HasAt code.lines pc (leaving_code o) →
      Comes limit g code (leads pc (pc + 1) (pc + 2) (pc + 3) 0 (Outside outer ∷ base) inner frames flow w) []
      (state (pc + 4) (Going flow ∷ base) outer frames w)
  leaves o pc base inner outer Onward w has =
      let e : pc + 1 + 3 ≡ pc + 4 = omega arith in
      comes_by limit g code (at_it pc (Outside outer ∷ base) inner w (line o (i.Leave way.Onward 3)) has.0 ∙
      ap (λ q. Goes [] (state q (Going Onward ∷ base) outer frames w)) e)
  leaves o pc base inner outer Cycled w has =
      let e : pc + 1 + 1 + 2 ≡ pc + 4 = omega arith in
      comes_by limit g code (at_it (pc + 1) (Outside outer ∷ base) inner w (line o (i.Leave way.Cycle 2)) has.1.0 ∙
      ap (λ q. Goes [] (state q (Going Cycled ∷ base) outer frames w)) e)
  leaves o pc base inner outer Left w has =
      let e : pc + 2 + 1 + 1 ≡ pc + 4 = omega arith in
      let p : pc + 1 + 1 ≡ pc + 2 = omega arith in
      let at2 : slice_get code.lines (pc + 2) ≡ Some (line o (i.Leave way.Exit 1)) = ap (λ q. slice_get code.lines q) (sym p) ∙ has.1.1.0 in
      comes_by limit g code (at_it (pc + 2) (Outside outer ∷ base) inner w (line o (i.Leave way.Exit 1)) at2 ∙
      ap (λ q. Goes [] (state q (Going Left ∷ base) outer frames w)) e)
  leaves o pc base inner outer (Returned place) w has =
      let e : pc + 3 + 1 + 0 ≡ pc + 4 = omega arith in
      let p : pc + 1 + 1 + 1 ≡ pc + 3 = omega arith in
      let at3 : slice_get code.lines (pc + 3) ≡ Some (line o (i.Leave way.Return 0)) = ap (λ q. slice_get code.lines q) (sym p) ∙ has.1.1.1.0 in
      comes_by limit g code (at_it (pc + 3) (Outside outer ∷ base) (at place inner) w (line o (i.Leave way.Return 0)) at3 ∙
      ap (λ q. Goes [] (state q (Going (Returned place) ∷ base) outer frames w)) e)

  -- and its end leads where they lead
  pub departs_so : (o : Option Place) (ws : Ways) (pc on cyc left back : ℕ) (base : List Cell) (here : Here) (flow : Flow) (w : World) →
      HasAt code.lines pc (departing_code o ws) → pc + 3 ≡ on → cyc ≡ on + ws.cycle → left ≡ on + ws.exit → back ≡ on + ws.ret →
      Comes limit g code (state pc (Going flow ∷ base) here frames w) [] (leads on cyc left back ws.cells base here frames flow w)
  departs_so o ws pc on cyc left back base here Onward w has e cyc_is left_is back_is =
      let e' : pc + 1 + 2 ≡ on = omega (arith, e) in
      comes_by limit g code (at_it pc (Going Onward ∷ base) here w (line o (i.Depart (2 + ws.cycle) (2 + ws.exit))) has.0 ∙
      ap (λ q. Goes [] (state q base here frames w)) e')
  departs_so o ws pc on cyc left back base here Cycled w has e cyc_is left_is back_is =
      let e' : pc + 1 + (2 + ws.cycle) ≡ cyc = omega (arith, e, cyc_is) in
      comes_by limit g code (at_it pc (Going Cycled ∷ base) here w (line o (i.Depart (2 + ws.cycle) (2 + ws.exit))) has.0 ∙
      ap (λ q. Goes [] (state q base here frames w)) e')
  departs_so o ws pc on cyc left back base here Left w has e cyc_is left_is back_is =
      let e' : pc + 1 + (2 + ws.exit) ≡ left = omega (arith, e, left_is) in
      comes_by limit g code (at_it pc (Going Left ∷ base) here w (line o (i.Depart (2 + ws.cycle) (2 + ws.exit))) has.0 ∙
      ap (λ q. Goes [] (state q base here frames w)) e')
  departs_so o ws pc on cyc left back base here (Returned place) w has e cyc_is left_is back_is =
      let e' : pc + 1 + 1 + 1 + ws.ret ≡ back = omega (arith, e, back_is) in
      comes_on limit g code (comes_by limit g code (at_it pc (Going (Returned place) ∷ base) here w (line o (i.Depart (2 + ws.cycle) (2 + ws.exit))) has.0))
      (comes_on limit g code (comes_by limit g code (at_it (pc + 1) base (at place here) w (line o (i.Unwind ws.cells)) has.1.0))
      (comes_by limit g code (at_it (pc + 1 + 1) (drop ws.cells base) (at place here) w (line o (i.GoOn ws.ret)) has.1.1.0 ∙
      ap (λ q. Goes [] (state q (drop ws.cells base) (at place here) frames w)) e')))

  module _ (calls : Calls) (follow : CallsFollow limit g code n calls frames) (m : ℕ) (types : List Work)
      (routines_follow : RoutinesFollow limit g code n m (routines_of g calls types) frames) where
    abbrev Does : c.Core → Type 0
    Does x = Follows limit g code n frames calls follow m types routines_follow x

    pub select_follows : (e : Expression) (x : c.Core) → Does x → Does (c.Select e x)
    select_follows e x follows o ws pc on cyc left back base here w has on_is cyc_is left_is back_is =
        let ce = value_code o e in let cx = code_of m o x scoped in
        let cl = leaving_code o in let cd = departing_code o ws in
        let begin = line o i.Selecting in
        let p1 = pc + length ce in
        let h1 = has_back code.lines pc ce (begin ∷ (cx ++ (cl ++ cd))) has in
        let p2 = p1 + 1 + length cx in
        let h2 = has_back code.lines (p1 + 1) cx (cl ++ cd) h1.1 in
        let h3 = has_back code.lines p2 cl cd h2 in
        let p3 : p2 + 4 + 3 ≡ on = omega (arith, on_is, length-append ce (begin ∷ (cx ++ (cl ++ cd))), length-append cx (cl ++ cd), length-append cl cd) in
        then_on limit g code (value_follows limit g code n frames calls follow e o pc base here w (has_front code.lines pc ce _ has)) (λ v w.
        let there = selecting v here in
        step_then limit g code (at_it p1 (Datum v ∷ base) here w begin h1.0)
        (ends_with limit g code (follows o scoped (p1 + 1) p2 (p2 + 1) (p2 + 2) (p2 + 3) (Outside here ∷ base) there w
        (has_front code.lines (p1 + 1) cx _ h1.1) refl refl refl refl) (λ flow w.
        comes_on limit g code (leaves o p2 base there here flow w (has_front code.lines p2 cl cd h2))
        (departs_so o ws (p2 + 4) on cyc left back base here flow w h3 p3 cyc_is left_is back_is))))

    -- both are lent, TO on top: the work on it, then it takes what FROM holds
    moves : (x : Work) (from to : Reference) (o : Option Place) (pc : ℕ) (base : List Cell) (here : Here) (w : World) →
        HasAt code.lines pc (line o i.LendBoth ∷ (work_code m o x ++ line o i.TakeOver ∷ [])) →
        Reaches limit g code n (state pc (Object to ∷ Object from ∷ base) here frames w) (move_alloc g n types calls x from to (placed o here)) w
        (λ done w. state (pc + 1 + length (work_code m o x) + 1) base here frames w)
    moves x from to o pc base here w has =
        let cx = work_code m o x in
        let inner = lending (from ∷ to ∷ []) here in
        let there = lending (from ∷ to ∷ []) (placed o here) in
        let h = has_back code.lines (pc + 1) cx (line o i.TakeOver ∷ []) has.1 in
        step_then limit g code (at_it pc (Object to ∷ Object from ∷ base) here w (line o i.LendBoth) has.0)
        (then_on limit g code (work_follows limit g code n frames calls follow m (routines_of g calls types) routines_follow x o (pc + 1) to
        (Object from ∷ base) inner w (has_front code.lines (pc + 1) cx _ has.1)) (λ done w.
        as_well limit g code (then_same (looks (λ store. get store from.path)) (λ v. take_over_same from to v there))
        (at_line limit g code n frames (looks (λ store. get store from.path) >>= λ v. meaning.take_over g 0 no_calls from to v there)
        (pc + 1 + length cx) (Object to ∷ Object from ∷ base) inner w (line o i.TakeOver)
        (bind_ends (looks_end _) (λ v. take_over_ends g from to v there)) h.0 refl)))
      where
        take_over_same : (from to : Reference) (v : Value) (there : Here) →
            meaning.take_over g 0 no_calls from to v there ≡ meaning.take_over g n calls from to v there
        take_over_same from to (Number z) there = refl
        take_over_same from to (Truth b) there = refl
        take_over_same from to (Composite vs) there = refl
        take_over_same from to (Array ss vs) there = refl
        take_over_same from to Unallocated there = refl
        take_over_same from to (Allocated v) there = refl

    pub move_follows : (b : Bool) (x : Work) (d e : Designator) → Does (c.Move b x d e)
    move_follows true x d e o ws pc on cyc left back base here w has on_is cyc_is left_is back_is =
        let cd = locate_code o d in let ce = locate_code o e in
        let cm = line o i.LendBoth ∷ (work_code m o x ++ line o i.TakeOver ∷ []) in
        let h1 = has_back code.lines pc cd (ce ++ cm) has in
        let p1 = pc + length cd in
        let h2 = has_back code.lines p1 ce cm h1 in
        let p2 = p1 + length ce in
        let p3 = p2 + 1 + length (work_code m o x) + 1 in
        let len : p3 ≡ on = omega (arith, on_is, length-append cd (ce ++ cm), length-append ce cm, length-append (work_code m o x) (line o i.TakeOver ∷ [])) in
        then_on limit g code (locate_follows limit g code n frames calls follow d o pc base here w (has_front code.lines pc cd _ has)) (λ r w.
        then_on limit g code (locate_follows limit g code n frames calls follow e o p1 (Object r ∷ base) here w (has_front code.lines p1 ce cm h1)) (λ q w.
        then_on limit g code (moves x r q o p2 base here w h2) (λ done w. goes_onward limit g code n frames p3 on cyc left back ws.cells base here w len)))
    move_follows false x d e o ws pc on cyc left back base here w has on_is cyc_is left_is back_is =
        let cd = locate_code o d in let ce = locate_code o e in
        let cm = line o i.LendBoth ∷ (work_code m o x ++ line o i.TakeOver ∷ []) in
        let h1 = has_back code.lines pc cd (ce ++ (line o i.Swap ∷ cm)) has in
        let p1 = pc + length cd in
        let h2 = has_back code.lines p1 ce (line o i.Swap ∷ cm) h1 in
        let p2 = p1 + length ce in
        let p3 = p2 + 1 + 1 + length (work_code m o x) + 1 in
        let len : p3 ≡ on = omega (
          arith,
          on_is,
          length-append cd (ce ++ (line o i.Swap ∷ cm)),
          length-append ce (line o i.Swap ∷ cm),
          length-append
              (work_code m o x) (line o i.TakeOver ∷ []),
        ) in
        then_on limit g code (locate_follows limit g code n frames calls follow d o pc base here w (has_front code.lines pc cd _ has)) (λ r w.
        then_on limit g code (locate_follows limit g code n frames calls follow e o p1 (Object r ∷ base) here w (has_front code.lines p1 ce _ h1)) (λ q w.
        step_then limit g code (at_it p2 (Object q ∷ Object r ∷ base) here w (line o i.Swap) h2.0)
        (then_on limit g code (moves x q r o (p2 + 1) base here w h2.1)
        (λ done w. goes_onward limit g code n frames p3 on cyc left back ws.cells base here w len))))
