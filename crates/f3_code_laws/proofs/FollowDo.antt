-- The code of a DO follows it, where that of its body does.
use Rattle.std.proofs.Common.{◌≡◌, ℕ, ◌+◌, ◌-◌, ℤ, List, [], ◌∷◌, ◌++◌, length, Option, refl, arith, length-append, ◌+ℤ◌}
use Rattle.f3_places.specs.declared.source.Place.{Place}
use Rattle.f3_program.specs.declared.declarations.Kind.{Kind}
use Rattle.f3_program.specs.declared.expression.Designator.{Designator}
use Rattle.f3_program.specs.declared.expression.Expression.{Expression}
use Rattle.f3_meaning_whole.specs.Value.{Number, number_of}
use Rattle.f3_meaning_whole.specs.Store.{get}
use Rattle.f3_meaning_whole.specs.Ran.{World, ◌>>=◌, looks}
use Rattle.f3_meaning_whole.specs.Arithmetic.{converted, trips}
use Rattle.f3_meaning_whole.specs.Act.{Setting, Here, Calls, set}
use Rattle.f3_meaning_whole.specs.Exec.{Flow, unless_zero}
use Rattle.f3_meaning_whole.specs.Exec as meaning
use Rattle.f3_code.specs.Work.{Work, routines_of}
use Rattle.f3_code.specs.Core as c
use Rattle.f3_code.specs.Exec.{exec}
use Rattle.f3_code.specs.declared.instruction.Instruction.TheVariants as i
use Rattle.f3_code.specs.State.{line, placed, Code, Cell, Datum, Object, Turns, Frame}
use Rattle.f3_code.specs.Code.{value_code, locate_code, counting, up_code, turns_code, code_of}
use Rattle.f3_code_laws.proofs.Places.{HasAt, has_front, has_back}
use Rattle.f3_code_laws.proofs.Reaching.{Reaches, then_on, bind_ends, looks_end}
use Rattle.f3_code_laws.proofs.Ending.{converted_ends, unless_ends, set_ends}
use Rattle.f3_code_laws.proofs.FollowValue.{state, CallsFollow, at_line, then_code, value_follows, locate_follows}
use Rattle.f3_code_laws.proofs.FollowWork.{RoutinesFollow}
use Rattle.f3_code_laws.proofs.FollowCount.{count_follows}
use Rattle.f3_code_laws.proofs.FollowCore.{Follows}

module _ (limit : ℕ) (g : Setting) (code : Code) (n : ℕ) (frames : List Frame) (calls : Calls) (follow : CallsFollow limit g code n calls frames) (m : ℕ)
    (types : List Work) (routines_follow : RoutinesFollow limit g code n m (routines_of g calls types) frames) where
  -- the increment
  up_follows : (d : Designator) (k : Kind) (by : ℤ) (o : Option Place) (turns pc : ℕ) (base : List Cell) (here : Here) (w : World) →
      HasAt code.lines pc (up_code o d k) → Reaches limit g code n (state pc (Turns turns by ∷ base) here frames w)
      (meaning.increment g n calls d k by (placed o here)) w (λ done w. state (pc + length (up_code o d k)) (Turns turns by ∷ base) here frames w)
  up_follows d k by o turns pc base here w has =
      let there = placed o here in
      then_code limit g code n frames (locate_code o d) (line o (i.CountUp k.of) ∷ []) pc has
      (locate_follows limit g code n frames calls follow d o pc (Turns turns by ∷ base) here w) (λ r w h.
      at_line limit g code n frames (looks (λ store. get store r.path) >>= λ old. converted k.of (Number (number_of old +ℤ by)) there.place >>= λ v.
      set r v there) (pc + length (locate_code o d)) (Object r ∷ Turns turns by ∷ base) here w (line o (i.CountUp k.of))
      (bind_ends (looks_end _) (λ old. bind_ends (converted_ends k.of (Number (number_of old +ℤ by)) there.place) (λ v. set_ends r v there))) h.0 refl)

  pub do_follows : (d : Designator) (k : Kind) (from to by : Expression) (x : c.Core) →
      Follows limit g code n frames calls follow m types routines_follow x →
      Follows limit g code n frames calls follow m types routines_follow (c.Count d k from to by x)
  do_follows d k from to by x follows o ws pc on cyc left back base here w has on_is cyc_is left_is back_is =
      let there = placed o here in
      let ca = value_code o from in let cb = value_code o to in let cs = value_code o by in
      let cd = locate_code o d in let cu = up_code o d k in
      let cx = code_of m o x (counting (length cu) ws) in
      let ct = turns_code o cx cu in
      let conv = line o (i.Convert k.of) in
      let r3 = conv ∷ line o i.TestStep ∷ (cd ++ (line o i.CountBegin ∷ ct)) in
      let r2 = conv ∷ (cs ++ r3) in
      let r1 = conv ∷ (cb ++ r2) in
      let h1 = has_back code.lines pc ca r1 has in
      let p1 = pc + length ca + 1 in
      let h2 = has_back code.lines p1 cb r2 h1.1 in
      let p2 = p1 + length cb + 1 in
      let h3 = has_back code.lines p2 cs r3 h2.1 in
      let p3 = p2 + length cs + 1 in
      let h4 = has_back code.lines (p3 + 1) cd (line o i.CountBegin ∷ ct) h3.1.1 in
      let p4 = p3 + 1 + length cd in
      let p5 = p4 + 1 in
      let b = 1 + length cx + length cu in
      let tail = line o (i.GoBack b) ∷ line o (i.Unwind 1) ∷ [] in
      let h6 = has_back code.lines (p5 + 1) cx (cu ++ tail) h4.1.1 in
      let p6 = p5 + 1 + length cx in
      let h7 = has_back code.lines p6 cu tail h6 in
      let p7 = p6 + length cu in
      let l1 = length-append ca r1 in let l2 = length-append cb r2 in let l3 = length-append cs r3 in
      let l4 = length-append cd (line o i.CountBegin ∷ ct) in let l5 = length-append cx (cu ++ tail) in let l6 = length-append cu tail in
      let lasts : p7 + 1 + 1 ≡ on = omega (arith, on_is, l1, l2, l3, l4, l5, l6) in
      let skips : p5 + 1 + (length cx + length cu + 1) ≡ p7 + 1 = omega arith in
      let returns : p7 - b ≡ p5 = omega arith in
      let cyc_x : p6 ≡ p6 + 0 = omega arith in
      let left_x : p7 + 1 ≡ p6 + (length cu + 1) = omega arith in
      let back_x : back ≡ p6 + (length cu + 2 + ws.ret) = omega (arith, back_is, lasts) in
      then_on limit g code (value_follows limit g code n frames calls follow from o pc base here w (has_front code.lines pc ca _ has)) (λ v w.
      then_on limit g code (at_line limit g code n frames {next = λ v w. state p1 (Datum v ∷ base) here frames w} (converted k.of v there.place)
      (pc + length ca) (Datum v ∷ base) here w conv (converted_ends k.of v there.place) h1.0 refl) (λ first w.
      then_on limit g code (value_follows limit g code n frames calls follow to o p1 (Datum first ∷ base) here w (has_front code.lines p1 cb _ h1.1)) (λ v w.
      then_on limit g code (at_line limit g code n frames {next = λ v w. state p2 (Datum v ∷ Datum first ∷ base) here frames w}
      (converted k.of v there.place) (p1 + length cb) (Datum v ∷ Datum first ∷ base) here w conv (converted_ends k.of v there.place) h2.0 refl) (λ last w.
      then_on limit g code (value_follows limit g code n frames calls follow by o p2 (Datum last ∷ Datum first ∷ base) here w
      (has_front code.lines p2 cs _ h2.1)) (λ v w.
      then_on limit g code (at_line limit g code n frames {next = λ v w. state p3 (Datum v ∷ Datum last ∷ Datum first ∷ base) here frames w}
      (converted k.of v there.place) (p2 + length cs) (Datum v ∷ Datum last ∷ Datum first ∷ base) here w conv (converted_ends k.of v there.place) h3.0
      refl) (λ step w.
      let stack = Datum step ∷ Datum last ∷ Datum first ∷ base in
      then_on limit g code (at_line limit g code n frames {next = λ done w. state (p3 + 1) stack here frames w} (unless_zero (number_of step) there) p3 stack
      here w (line o i.TestStep) (unless_ends (number_of step) there) h3.1.0 refl) (λ done w.
      then_on limit g code (locate_follows limit g code n frames calls follow d o (p3 + 1) stack here w (has_front code.lines (p3 + 1) cd _ h3.1.1)) (λ r w.
      then_on limit g code (at_line limit g code n frames {next = λ done w.
      state p5 (Turns (trips (number_of first) (number_of last) (number_of step)) (number_of step) ∷ base) here frames w} (set r first there) p4
      (Object r ∷ stack) here w (line o i.CountBegin) (set_ends r first there) h4.0 refl) (λ done w.
      count_follows limit g code n frames o (exec g n types calls x there) (meaning.increment g n calls d k (number_of step) there) (number_of step) base
      here p5 p6 p7 on cyc left back ws.cells (length cx + length cu + 1) b h4.1.0 skips h7.0 returns h7.1.0 lasts
      (λ w t. follows o (counting (length cu) ws) (p5 + 1) p6 p6 (p7 + 1) back (Turns t (number_of step) ∷ base) here w
      (has_front code.lines (p5 + 1) cx _ h4.1.1) refl cyc_x left_x back_x)
      (λ w t. up_follows d k (number_of step) o t p6 base here w (has_front code.lines p6 cu _ h6)) n
      (trips (number_of first) (number_of last) (number_of step)) (omega arith) w)))))))))
