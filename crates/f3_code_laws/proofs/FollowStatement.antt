-- The code of statements follows Core.
use Rattle.std.proofs.Common.{◌≡◌, ℕ, zero, suc, ◌+◌, ◌-◌, ◌≤◌, Bool, true, false, List, [], ◌∷◌, Option, Some, refl, sym, ap, ◌∙◌, arith, if◌then◌else◌}
use Rattle.std.specs.Prelude.{slice_get, drop}
use Rattle.f3_places.specs.declared.source.Place.{Place}
use Rattle.f3_meaning_whole.specs.Value.{Value, truth_of}
use Rattle.f3_meaning_whole.specs.Ran.{World, Ran, ◌>>=◌, gives, beyond}
use Rattle.f3_meaning_whole.specs.Act.{Setting, Here, at}
use Rattle.f3_meaning_whole.specs.Exec.{Flow, Onward, Cycled, Left, Returned, onward, next_turn, turns}
use Rattle.f3_code.specs.declared.instruction.Instruction.TheVariants as i
use Rattle.f3_code.specs.State.{Line, line, placed, Code, Cell, Datum, Frame, State, Goes}
use Rattle.f3_code.specs.Machine.{act, step}
use Rattle.f3_code_laws.proofs.Reaching.{Comes, Reaches, step_first, fewer, step_then, stays, arrives, then_on, comes_here, comes_by, as_well, joined, nothing_then}
use Rattle.f3_code_laws.proofs.FollowValue.{state, is_at}

-- Where a statement leads: on, to the loop's next turn, out of the loop, or out of the procedure, where so many cells go.
abbrev pub leads : ℕ → ℕ → ℕ → ℕ → ℕ → List Cell → Here → List Frame → Flow → World → State
leads on cyc left back cells base here frames Onward w = state on base here frames w
leads on cyc left back cells base here frames Cycled w = state cyc base here frames w
leads on cyc left back cells base here frames Left w = state left base here frames w
leads on cyc left back cells base here frames (Returned place) w = state back (drop cells base) (at place here) frames w

module _ (limit : ℕ) (g : Setting) (code : Code) (n : ℕ) (frames : List Frame) where
  at_it : (pc : ℕ) (stack : List Cell) (here : Here) (w : World) (l : Line) → slice_get code.lines pc ≡ Some l →
      step limit g code (state pc stack here frames w) ≡ act limit g code l.act l.value (placed l.place here) (state pc stack here frames w)
  at_it = is_at limit g code n frames

  -- more turns than may be made
  pub at_beyond : {A : Type 0} (s : State) (w : World) (next : A → World → State) → Reaches limit g code 0 s (beyond) w next
  unfolding beyond
  at_beyond s w next = record { as_said = (0, omega arith, refl) }

  -- the rest, where a statement goes on to it
  pub onward_follows : (on mid cyc left back cells : ℕ) (base : List Cell) (here : Here) (flow : Flow) (r : Ran Flow) (w : World) →
      Reaches limit g code n (state mid base here frames w) r w (leads on cyc left back cells base here frames) →
      Reaches limit g code n (leads mid cyc left back cells base here frames flow w) (onward flow r) w (leads on cyc left back cells base here frames)
  onward_follows on mid cyc left back cells base here Onward r w h = h
  onward_follows on mid cyc left back cells base here Cycled r w h = stays limit g code n Cycled w (leads on cyc left back cells base here frames)
  onward_follows on mid cyc left back cells base here Left r w h = stays limit g code n Left w (leads on cyc left back cells base here frames)
  onward_follows on mid cyc left back cells base here (Returned place) r w h =
      stays limit g code n (Returned place) w (leads on cyc left back cells base here frames)

  -- a jump behind a statement
  pub jumped : (o : Option Place) (d on mid cyc left back cells : ℕ) (base : List Cell) (here : Here) (flow : Flow) (w : World) →
      slice_get code.lines mid ≡ Some (line o (i.GoOn d)) → mid + 1 + d ≡ on →
      Comes limit g code (leads mid cyc left back cells base here frames flow w) [] (leads on cyc left back cells base here frames flow w)
  jumped o d on mid cyc left back cells base here Onward w h e =
      comes_by limit g code (at_it mid base here w (line o (i.GoOn d)) h ∙ ap (λ q. Goes [] (state q base here frames w)) e)
  jumped o d on mid cyc left back cells base here Cycled w h e = comes_here limit g code refl
  jumped o d on mid cyc left back cells base here Left w h e = comes_here limit g code refl
  jumped o d on mid cyc left back cells base here (Returned place) w h e = comes_here limit g code refl

  -- the end of a statement that goes on
  pub goes_onward : (pc on cyc left back cells : ℕ) (base : List Cell) (here : Here) (w : World) → pc ≡ on →
      Reaches limit g code n (state pc base here frames w) (gives Onward) w (leads on cyc left back cells base here frames)
  goes_onward pc on cyc left back cells base here w e = arrives limit g code n Onward w (leads on cyc left back cells base here frames)
      (ap (λ q. state q base here frames w) e)

  -- a test's jump, which pays for a turn
  pub chosen : {A : Type 0} (m : ℕ) (b : Bool) (s t u : State) (x y : Ran A) (w : World) (next : A → World → State) →
      step limit g code s ≡ (if b then Goes [] t else Goes [] u) → Reaches limit g code m t x w next → Reaches limit g code m u y w next →
      Reaches limit g code (suc m) s (if b then x else y) w next
  chosen m true s t u x y w next e rx ry = step_first limit g code e rx
  chosen m false s t u x y w next e rx ry = step_first limit g code e ry

  -- At most m turns of a DO WHILE from pc, whose test ends at mid, whose body ends at end and which goes on at on.
  module _ (o : Option Place) (test : Ran Value) (body : Ran Flow) (base : List Cell) (here : Here) (pc mid end on cyc left back cells d b : ℕ)
      (skip : slice_get code.lines mid ≡ Some (line o (i.SkipIfFalse d))) (skips : mid + 1 + d ≡ on)
      (again : slice_get code.lines end ≡ Some (line o (i.GoBack b))) (returns : end - b ≡ pc)
      (tests : (w : World) → Reaches limit g code n (state pc base here frames w) test w (λ v w. state mid (Datum v ∷ base) here frames w))
      (goes_round : (w : World) → Reaches limit g code n (state (mid + 1) base here frames w) body w (leads end end on back cells base here frames)) where
    turn_follows : (m : ℕ) (flow : Flow) (r : Ran Flow) (w : World) →
        Reaches limit g code m (state pc base here frames w) r w (leads on cyc left back cells base here frames) →
        Reaches limit g code m (leads end end on back cells base here frames flow w) (next_turn flow r) w (leads on cyc left back cells base here frames)
    turn_follows m Onward r w h = step_then limit g code (at_it end base here w (line o (i.GoBack b)) again ∙
        ap (λ to. Goes [] (state to base here frames w)) returns) h
    turn_follows m Cycled r w h = step_then limit g code (at_it end base here w (line o (i.GoBack b)) again ∙
        ap (λ to. Goes [] (state to base here frames w)) returns) h
    turn_follows m Left r w h = stays limit g code m Onward w (leads on cyc left back cells base here frames)
    turn_follows m (Returned place) r w h = stays limit g code m (Returned place) w (leads on cyc left back cells base here frames)

    ended : (m : ℕ) (w : World) → Reaches limit g code m (state (mid + 1 + d) base here frames w) (gives Onward) w
        (leads on cyc left back cells base here frames)
    ended m w = arrives limit g code m Onward w (leads on cyc left back cells base here frames) (ap (λ q. state q base here frames w) skips)

    abbrev tested : Ran Bool
    tested = test >>= λ v. gives (truth_of v)

    -- a test, and what follows by it
    by_test : (m : ℕ) → m ≤ n → (rest : Bool → Ran Flow) (w : World) →
        ((v : Value) (w : World) → Reaches limit g code m (state mid (Datum v ∷ base) here frames w) (rest (truth_of v)) w
        (leads on cyc left back cells base here frames)) → Reaches limit g code m (state pc base here frames w) (tested >>= rest) w
        (leads on cyc left back cells base here frames)
    by_test m le rest w h = joined limit g code test (λ v. gives (truth_of v)) rest
        (then_on limit g code (fewer limit g code m n le (tests w)) (λ v w. as_well limit g code (sym (nothing_then (truth_of v) rest)) (h v w)))

    pub loop_follows : (m : ℕ) → m ≤ n → (w : World) → Reaches limit g code m (state pc base here frames w) (turns m tested body) w
        (leads on cyc left back cells base here frames)
    loop_follows zero le w =
        by_test zero le (λ b. if b then beyond else gives Onward) w (λ v w.
        fewer limit g code 0 1 (omega arith) (chosen 0 (truth_of v) _ (state (mid + 1) base here frames w) (state (mid + 1 + d) base here frames w)
        beyond (gives Onward) w _ (at_it mid (Datum v ∷ base) here w (line o (i.SkipIfFalse d)) skip)
        (at_beyond (state (mid + 1) base here frames w) w _) (ended 0 w)))
    loop_follows (suc m) le w =
        by_test (suc m) le (λ b. if b then (body >>= λ flow. next_turn flow (turns m tested body)) else gives Onward) w
        (λ v w. chosen m (truth_of v) _ (state (mid + 1) base here frames w) (state (mid + 1 + d) base here frames w)
        (body >>= λ flow. next_turn flow (turns m tested body)) (gives Onward) w _ (at_it mid (Datum v ∷ base) here w (line o (i.SkipIfFalse d)) skip)
        (then_on limit g code (fewer limit g code m n (omega arith) (goes_round w))
        (λ flow w. turn_follows m flow (turns m tested body) w (loop_follows m (omega arith) w))) (ended m w))
