-- The code with which procedures begin and end follows it.
use Rattle.std.proofs.Common.{◌≡◌, ℕ, suc, ◌+◌, Bool, true, false, List, [], ◌∷◌, ◌++◌, length, None, Some, refl, ap, ◌∙◌, arith, length-append, if◌then◌else◌}
use Rattle.std.specs.Prelude.{slice_get}
use Rattle.f3_program.specs.declared.expression.Name.TheVariants as name
use Rattle.f3_meaning_whole.specs.Reference.{Reference}
use Rattle.f3_meaning_whole.specs.Ran.{World, gives}
use Rattle.f3_meaning_whole.specs.Act.{Setting, Here, Calls, named, passed_at}
use Rattle.f3_code.specs.Work.{Work, routines_of}
use Rattle.f3_code.specs.Exec.{finish_from, works, works_each, is_held, discard_arguments}
use Rattle.f3_code.specs.declared.instruction.Instruction.TheVariants as i
use Rattle.f3_code.specs.State.{Line, line, placed, Code, Cell, Object, Objects, Frame, Goes}
use Rattle.f3_code.specs.Machine.{act, step, passed_in, next_argument}
use Rattle.f3_code.specs.Code.{work_code, begin_code, finish_code, discard_code}
use Rattle.f3_code_laws.proofs.Places.{HasAt, has_front, has_back}
use Rattle.f3_code_laws.proofs.Reaching.{Comes, Reaches, step_then, stays, one_step, then_on, ends_with, comes_here, comes_by, comes_on, comes_then}
use Rattle.f3_code_laws.proofs.Ending.{named_ends}
use Rattle.f3_code_laws.proofs.FollowValue.{state, CallsFollow, is_at, ending, at_line, then_code, no_code}
use Rattle.f3_code_laws.proofs.FollowWork.{RoutinesFollow, work_follows}

-- what is left of the objects
abbrev pub left_over : List Work → List Reference → List Reference
left_over [] rs = rs
left_over (x ∷ xs) [] = []
left_over (x ∷ xs) (r ∷ rs) = left_over xs rs

module _ (limit : ℕ) (g : Setting) (code : Code) (n : ℕ) (frames : List Frame) (calls : Calls) (follow : CallsFollow limit g code n calls frames) (m : ℕ)
    (types : List Work) (routines_follow : RoutinesFollow limit g code n m (routines_of g calls types) frames) where
  -- the work on the variables
  pub finish_follows : (xs : List Work) (k pc : ℕ) (stack : List Cell) (here : Here) (w : World) → HasAt code.lines pc (finish_code m k xs) →
      Reaches limit g code n (state pc stack here frames w) (finish_from g n types calls k xs here) w
      (λ done w. state (pc + length (finish_code m k xs)) stack here frames w)
  finish_follows [] k pc stack here w has = no_code limit g code n frames tt pc (λ done. stack) here w
  finish_follows (x ∷ xs) k pc stack here w has =
      let cx = work_code m None x in
      let rest = line None i.Drop ∷ finish_code m (suc k) xs in
      then_code limit g code n frames (line None (i.Refer (name.Local k)) ∷ []) (cx ++ rest) pc has
      (λ h. at_line limit g code n frames (named g (name.Local k) here) pc stack here w (line None (i.Refer (name.Local k)))
      (named_ends g (name.Local k) here) h.0 refl) (λ r w h.
      then_code limit g code n frames cx rest (pc + 1) h (λ h. work_follows limit g code n frames calls follow m (routines_of g calls types) routines_follow
      x None (pc + 1) r stack here w h) (λ done w h.
      let len : pc + 1 + length cx + 1 + length (finish_code m (suc k) xs) ≡ pc + 1 + length cx + length rest = omega arith in
      step_then limit g code (is_at limit g code n frames (pc + 1 + length cx) (Object r ∷ stack) here w (line None i.Drop) h.0)
      (ending limit g code n frames _ _ (λ done. stack) here len (finish_follows xs (suc k) (pc + 1 + length cx + 1) stack here w h.1))))

  at_it : (pc : ℕ) (stack : List Cell) (here : Here) (w : World) (l : Line) → slice_get code.lines pc ≡ Some l →
      step limit g code (state pc stack here frames w) ≡ act limit g code l.act l.value (placed l.place here) (state pc stack here frames w)
  at_it = is_at limit g code n frames

  none_left : (xs : List Work) (pc on : ℕ) (stack : List Cell) (here : Here) (w : World) → HasAt code.lines pc (begin_code m xs) →
      pc + length (begin_code m xs) ≡ on → Comes limit g code (state pc (Objects [] ∷ stack) here frames w) [] (state on (Objects [] ∷ stack) here frames w)
  none_left [] pc on stack here w has e =
      let e' : pc ≡ on = omega (arith, e) in
      comes_here limit g code (ap (λ q. state q (Objects [] ∷ stack) here frames w) e')
  none_left (x ∷ xs) pc on stack here w has e =
      let cx = work_code m None x in
      let rest = line None i.Drop ∷ begin_code m xs in
      let h = has_back code.lines (pc + 1) cx rest has.1 in
      let p = pc + 1 + length cx + 1 in
      let skip : pc + 1 + (length cx + 1) ≡ p = omega arith in
      let e' : p + length (begin_code m xs) ≡ on = omega (arith, e, length-append cx rest) in
      comes_on limit g code (comes_by limit g code (at_it pc (Objects [] ∷ stack) here w (line None (i.NextObject (length cx + 1))) has.0 ∙
      ap (λ q. Goes [] (state q (Objects [] ∷ stack) here frames w)) skip)) (none_left xs p on stack here w h.1 e')

  -- the work on the dummies as a procedure begins
  pub begin_follows : (xs : List Work) (rs : List Reference) (pc on : ℕ) (stack : List Cell) (here : Here) (w : World) →
      HasAt code.lines pc (begin_code m xs) → pc + length (begin_code m xs) ≡ on →
      Reaches limit g code n (state pc (Objects rs ∷ stack) here frames w) (works_each g n types calls xs rs here) w
      (λ done w. state on (Objects (left_over xs rs) ∷ stack) here frames w)
  begin_follows [] rs pc on stack here w has e =
      let e' : pc ≡ on = omega (arith, e) in
      ending limit g code n frames pc on (λ done. Objects rs ∷ stack) here e'
      (stays limit g code n tt w (λ done w. state pc (Objects rs ∷ stack) here frames w))
  begin_follows (x ∷ xs) [] pc on stack here w has e = comes_then limit g code (none_left (x ∷ xs) pc on stack here w has e)
      (stays limit g code n tt w (λ done w. state on (Objects [] ∷ stack) here frames w))
  begin_follows (x ∷ xs) (r ∷ rs) pc on stack here w has e =
      let cx = work_code m None x in
      let rest = line None i.Drop ∷ begin_code m xs in
      let h = has_back code.lines (pc + 1) cx rest has.1 in
      let p = pc + 1 + length cx in
      let e' : p + 1 + length (begin_code m xs) ≡ on = omega (arith, e, length-append cx rest) in
      step_then limit g code (at_it pc (Objects (r ∷ rs) ∷ stack) here w (line None (i.NextObject (length cx + 1))) has.0)
      (then_on limit g code (work_follows limit g code n frames calls follow m (routines_of g calls types) routines_follow x None (pc + 1) r
      (Objects rs ∷ stack) here w (has_front code.lines (pc + 1) cx _ has.1)) (λ done w.
      step_then limit g code (at_it p (Object r ∷ Objects rs ∷ stack) here w (line None i.Drop) h.0) (begin_follows xs rs (p + 1) on stack here w h.1 e')))

  none_passed : (xs : List Work) (k pc on : ℕ) (stack : List Cell) (here : Here) (w : World) → HasAt code.lines pc (discard_code m k xs) →
      pc + length (discard_code m k xs) ≡ on → Comes limit g code (state pc (Objects [] ∷ stack) here frames w) [] (state on (Objects [] ∷ stack) here frames w)
  none_passed [] k pc on stack here w has e =
      let e' : pc ≡ on = omega (arith, e) in
      comes_here limit g code (ap (λ q. state q (Objects [] ∷ stack) here frames w) e')
  none_passed (x ∷ xs) k pc on stack here w has e =
      let cx = work_code m None x in
      let rest = line None i.Drop ∷ discard_code m (suc k) xs in
      let h = has_back code.lines (pc + 1) cx rest has.1 in
      let p = pc + 1 + length cx + 1 in
      let skip : pc + 1 + (length cx + 1) ≡ p = omega arith in
      let e' : p + length (discard_code m (suc k) xs) ≡ on = omega (arith, e, length-append cx rest) in
      comes_on limit g code (comes_by limit g code (at_it pc (Objects [] ∷ stack) here w (line None (i.NextArgument k (length cx + 1))) has.0 ∙
      ap (λ q. Goes [] (state q (Objects [] ∷ stack) here frames w)) skip)) (none_passed xs (suc k) p on stack here w h.1 e')

  by_held : (b : Bool) (x : Work) (more : List Line) (r : Reference) (rs : List Reference) (pc : ℕ) (stack : List Cell) (here : Here) (w : World) →
      HasAt code.lines (pc + 1) (work_code m None x ++ line None i.Drop ∷ more) →
      step limit g code (state pc (Objects (r ∷ rs) ∷ stack) here frames w) ≡ next_argument (r ∷ rs) b (length (work_code m None x) + 1)
      (state pc (Objects (r ∷ rs) ∷ stack) here frames w) stack → Reaches limit g code n (state pc (Objects (r ∷ rs) ∷ stack) here frames w)
      (if b then works g n types calls x r here else gives tt) w (λ done w. state (pc + 1 + length (work_code m None x) + 1) (Objects rs ∷ stack) here frames w)
  by_held true x more r rs pc stack here w has e =
      let cx = work_code m None x in
      let h = has_back code.lines (pc + 1) cx (line None i.Drop ∷ more) has in
      step_then limit g code e (ends_with limit g code (work_follows limit g code n frames calls follow m (routines_of g calls types) routines_follow x None
      (pc + 1) r (Objects rs ∷ stack) here w (has_front code.lines (pc + 1) cx _ has))
      (λ done w. comes_by limit g code (at_it (pc + 1 + length cx) (Object r ∷ Objects rs ∷ stack) here w (line None i.Drop) h.0)))
  by_held false x more r rs pc stack here w has e =
      let cx = work_code m None x in
      let skip : pc + 1 + (length cx + 1) ≡ pc + 1 + length cx + 1 = omega arith in
      one_step limit g code n tt w (λ done w. state (pc + 1 + length cx + 1) (Objects rs ∷ stack) here frames w)
      (e ∙ ap (λ q. Goes [] (state q (Objects rs ∷ stack) here frames w)) skip)

  -- the work on held arguments at the end
  pub discard_follows : (xs : List Work) (k : ℕ) (rs : List Reference) (pc on : ℕ) (stack : List Cell) (here : Here) (w : World) →
      HasAt code.lines pc (discard_code m k xs) → pc + length (discard_code m k xs) ≡ on →
      Reaches limit g code n (state pc (Objects rs ∷ stack) here frames w) (discard_arguments g n types calls k xs rs (passed_in frames) here) w
      (λ done w. state on (Objects (left_over xs rs) ∷ stack) here frames w)
  discard_follows [] k rs pc on stack here w has e =
      let e' : pc ≡ on = omega (arith, e) in
      ending limit g code n frames pc on (λ done. Objects rs ∷ stack) here e'
      (stays limit g code n tt w (λ done w. state pc (Objects rs ∷ stack) here frames w))
  discard_follows (x ∷ xs) k [] pc on stack here w has e = comes_then limit g code (none_passed (x ∷ xs) k pc on stack here w has e)
      (stays limit g code n tt w (λ done w. state on (Objects [] ∷ stack) here frames w))
  discard_follows (x ∷ xs) k (r ∷ rs) pc on stack here w has e =
      let cx = work_code m None x in
      let rest = line None i.Drop ∷ discard_code m (suc k) xs in
      let h = has_back code.lines (pc + 1) cx rest has.1 in
      let p = pc + 1 + length cx + 1 in
      let e' : p + length (discard_code m (suc k) xs) ≡ on = omega (arith, e, length-append cx rest) in
      let begins = at_it pc (Objects (r ∷ rs) ∷ stack) here w (line None (i.NextArgument k (length cx + 1))) has.0 in
      then_on limit g code {mid = λ done w. state p (Objects rs ∷ stack) here frames w}
      (by_held (is_held (passed_at k (passed_in frames))) x (discard_code m (suc k) xs) r rs pc stack here w has.1 begins)
      (λ done w. discard_follows xs (suc k) rs p on stack here w h.1 e')
