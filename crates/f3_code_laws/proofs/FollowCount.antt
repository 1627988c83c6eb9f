-- The turns of a DO.
use Rattle.std.proofs.Common.{◌≡◌, ℕ, zero, suc, ◌+◌, ◌-◌, ◌≤◌, ℤ, List, [], ◌∷◌, Option, Some, ap, ◌∙◌, arith}
use Rattle.std.specs.Prelude.{⊤, slice_get}
use Rattle.f3_places.specs.declared.source.Place.{Place}
use Rattle.f3_meaning_whole.specs.Ran.{World, Ran, ◌>>=◌, gives}
use Rattle.f3_meaning_whole.specs.Act.{Setting, Here}
use Rattle.f3_meaning_whole.specs.Exec.{Flow, Onward, Cycled, Left, Returned, next_turn, counted}
use Rattle.f3_code.specs.declared.instruction.Instruction.TheVariants as i
use Rattle.f3_code.specs.State.{Line, line, placed, Code, Cell, Turns, Frame, Goes}
use Rattle.f3_code.specs.Machine.{act, step}
use Rattle.f3_code_laws.proofs.Reaching.{Reaches, step_first, fewer, step_then, stays, one_step, then_on}
use Rattle.f3_code_laws.proofs.FollowValue.{state, is_at}
use Rattle.f3_code_laws.proofs.FollowStatement.{leads, at_beyond}

-- At most m turns of a DO from pc, whose body ends at mid, whose increment ends at end, and which ends behind that.
module _ (limit : ℕ) (g : Setting) (code : Code) (n : ℕ) (frames : List Frame) (o : Option Place) (body : Ran Flow) (up : Ran ⊤) (by : ℤ) (base : List Cell)
    (here : Here) (pc mid end on cyc left back cells d b : ℕ) (next : slice_get code.lines pc ≡ Some (line o (i.CountNext d))) (skips : pc + 1 + d ≡ end + 1)
    (again : slice_get code.lines end ≡ Some (line o (i.GoBack b))) (returns : end - b ≡ pc)
    (last : slice_get code.lines (end + 1) ≡ Some (line o (i.Unwind 1))) (lasts : end + 1 + 1 ≡ on)
    (goes_round : (w : World) (k : ℕ) → Reaches limit g code n (state (pc + 1) (Turns k by ∷ base) here frames w) body w
    (leads mid mid (end + 1) back (suc cells) (Turns k by ∷ base) here frames))
    (goes_up : (w : World) (k : ℕ) → Reaches limit g code n (state mid (Turns k by ∷ base) here frames w) up w
    (λ done w. state end (Turns k by ∷ base) here frames w)) where
  at_it : (pc : ℕ) (stack : List Cell) (w : World) (l : Line) → slice_get code.lines pc ≡ Some l →
      step limit g code (state pc stack here frames w) ≡ act limit g code l.act l.value (placed l.place here) (state pc stack here frames w)
  at_it pc stack w l h = is_at limit g code n frames pc stack here w l h

  ended : (m k : ℕ) (w : World) → Reaches limit g code m (state (end + 1) (Turns k by ∷ base) here frames w) (gives Onward) w
      (leads on cyc left back cells base here frames)
  ended m k w = one_step limit g code m Onward w (leads on cyc left back cells base here frames)
      (at_it (end + 1) (Turns k by ∷ base) w (line o (i.Unwind 1)) last ∙ ap (λ q. Goes [] (state q base here frames w)) lasts)

  goes_back : (m k : ℕ) (rest : Ran Flow) (w : World) → m ≤ n →
      ((w : World) → Reaches limit g code m (state pc (Turns k by ∷ base) here frames w) rest w (leads on cyc left back cells base here frames)) →
      Reaches limit g code m (state mid (Turns k by ∷ base) here frames w) (up >>= λ done. rest) w (leads on cyc left back cells base here frames)
  goes_back m k rest w le h = then_on limit g code (fewer limit g code m n le (goes_up w k))
      (λ done w. step_then limit g code (at_it end (Turns k by ∷ base) w (line o (i.GoBack b)) again ∙
      ap (λ to. Goes [] (state to (Turns k by ∷ base) here frames w)) returns) (h w))

  counts_on : (m k : ℕ) (flow : Flow) (rest : Ran Flow) (w : World) → m ≤ n →
      ((w : World) → Reaches limit g code m (state pc (Turns k by ∷ base) here frames w) rest w (leads on cyc left back cells base here frames)) →
      Reaches limit g code m (leads mid mid (end + 1) back (suc cells) (Turns k by ∷ base) here frames flow w) (next_turn flow (up >>= λ done. rest)) w
      (leads on cyc left back cells base here frames)
  counts_on m k Onward rest w le h = goes_back m k rest w le h
  counts_on m k Cycled rest w le h = goes_back m k rest w le h
  counts_on m k Left rest w le h = ended m k w
  counts_on m k (Returned place) rest w le h = stays limit g code m (Returned place) w (leads on cyc left back cells base here frames)

  pub count_follows : (m k : ℕ) → m ≤ n → (w : World) → Reaches limit g code m (state pc (Turns k by ∷ base) here frames w) (counted m k body up) w
      (leads on cyc left back cells base here frames)
  count_follows m zero le w = step_then limit g code (at_it pc (Turns zero by ∷ base) w (line o (i.CountNext d)) next ∙
      ap (λ q. Goes [] (state q (Turns zero by ∷ base) here frames w)) skips) (ended m zero w)
  count_follows zero (suc k) le w = at_beyond limit g code n frames (state pc (Turns (suc k) by ∷ base) here frames w) w _
  count_follows (suc m) (suc k) le w =
      step_first limit g code (at_it pc (Turns (suc k) by ∷ base) w (line o (i.CountNext d)) next)
      (then_on limit g code (fewer limit g code m n (omega arith) (goes_round w k))
      (λ flow w. counts_on m k flow (counted m k body up) w (omega arith) (λ w. count_follows m k (omega arith) w)))
