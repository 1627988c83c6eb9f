-- The heights of the code of statements.
use Rattle.std.proofs.Common.{◌≡◌, ℕ, suc, ◌+◌, ◌-◌, true, false, List, [], ◌∷◌, ◌++◌, length, Option, Some, refl, subst, arith, length-append}
use Rattle.f3_places.specs.declared.source.Place.{Place}
use Rattle.f3_program.specs.declared.declarations.Kind.{Kind}
use Rattle.f3_program.specs.declared.expression.Designator.{Designator}
use Rattle.f3_program.specs.declared.expression.Expression.{Expression}
use Rattle.f3_program.specs.declared.statement.Range.{Range}
use Rattle.f3_code.specs.Core as c
use Rattle.f3_code.specs.declared.instruction.Instruction.TheVariants as i
use Rattle.f3_code.specs.State.{Line, line}
use Rattle.f3_code.specs.Code.{Ways, farther, looped, counting, scoped, leaving_code, departing_code, case_code, while_code, up_code, turns_code, limits_code, code_of}
use Rattle.f3_heights.specs.Program.{leaving_heights, departing_heights, case_heights, while_heights, up_heights, turns_heights, limits_heights, code_heights}
use Rattle.f3_heights.proofs.Parts.{HeightsAt, LinesAt, heights_front, heights_back, lines_on, same_height, Part, Onto, wider, nothing, behind_with, behind, seq, before, before_end, falls, plain, first, last, forked_keeps, forked_same, forked, Exits, exits_at, farther_exits}
use Rattle.f3_heights.proofs.OfValues.{value_part, locate_part}
use Rattle.f3_heights.proofs.OfWork.{work_part}
use Rattle.f3_heights.proofs.OfParts.{transfer_part, allocate_part, deallocate_part, status_part, items_part, ranges_part, selectors_part, discards_part}

module _ (height : ℕ → ℕ) (m : ℕ) where
  abbrev One : Ways → ℕ → List Line → List ℕ → Type 0
  One ws h lines hs = Part height (Exits height ws h) lines hs h

  -- a statement that goes on behind it alone
  simple : {ws : Ways} {lines : List Line} {hs : List ℕ} (h : ℕ) → Part height (Onto height h) lines hs h → One ws h lines hs
  simple h p = wider height (λ e out. out.here) p

  -- so many lines on
  on_part : {Out : ℕ → Type 0} (o : Option Place) (d h : ℕ) → ((e : ℕ) → Out e → height (e + d) ≡ h) → Part height Out (line o (i.GoOn d) ∷ []) (h ∷ []) h
  on_part o d h f = before_end height (line o (i.GoOn d)) (λ pc is out. record {
    rest = h;
    before = omega (arith, is);
    next = tt;
    far = (omega (arith, f (pc + 1) out), tt);
  })

  return_part : (o : Option Place) (ws : Ways) (h : ℕ) →
      One ws h (line o i.SetPlace ∷ line o (i.Unwind ws.cells) ∷ line o (i.GoOn ws.ret) ∷ []) (h ∷ h ∷ (h - ws.cells) ∷ [])
  return_part o ws h = first height (plain height (line o i.SetPlace) 0 0 h (λ pc x. x))
      (before height (line o (i.Unwind ws.cells))
      (λ pc is next out. record { rest = out.left; before = omega (arith, is, out.cells); next = omega (arith, next, out.cells); far = tt })
      (on_part o ws.ret (h - ws.cells) (λ e out. omega (arith, out.ret, out.cells))))

  -- the ways out of a construct, and behind them where they lead
  record Leaving (h e : ℕ) : Type 0 where
    onward : height e ≡ h
    cycle : height (e + 1) ≡ h
    exit : height (e + 2) ≡ h
    ret : height (e + 3) ≡ h

  leaving_keeps : {Out : ℕ → Type 0} (o : Option Place) (b : List Line) (hb : List ℕ) (h : ℕ) → Part height Out b hb (suc h) → (pc : ℕ) →
      HeightsAt height pc (leaving_heights (suc h) ++ hb) → Out (pc + length (leaving_code o ++ b)) →
      Leaving (suc h) pc × LinesAt height pc (leaving_code o ++ b)
  leaving_keeps {Out = Out} o b hb h q pc has out =
      let e : pc + length (leaving_code o ++ b) ≡ pc + 1 + 1 + 1 + 1 + length b = omega arith in
      let rb = q.keeps (pc + 1 + 1 + 1 + 1) has.1.1.1.1 (subst Out e out) in
      let a1 = same_height height (pc + 1 + 3) (pc + 1 + 1 + 1 + 1) (omega arith) rb.0 in
      let a2 = same_height height (pc + 1 + 1 + 2) (pc + 1 + 1 + 1 + 1) (omega arith) rb.0 in
      let a3 = same_height height (pc + 1 + 1 + 1 + 1) (pc + 1 + 1 + 1 + 1) (omega arith) rb.0 in
      let a4 = same_height height (pc + 1 + 1 + 1 + 1 + 0) (pc + 1 + 1 + 1 + 1) (omega arith) rb.0 in (
        record {
          onward = has.0;
          cycle = has.1.0;
          exit = same_height height (pc + 2) (pc + 1 + 1) (omega arith) has.1.1.0;
          ret = same_height height (pc + 3) (pc + 1 + 1 + 1) (omega arith) has.1.1.1.0;
        },
        (
          record { rest = h; before = omega (arith, has.0); next = tt; far = (omega (arith, a1), tt) },
          (
            record { rest = h; before = omega (arith, has.1.0); next = tt; far = (omega (arith, a2), tt) },
            (
              record { rest = h; before = omega (arith, has.1.1.0); next = tt; far = (omega (arith, a3), tt) },
              (record { rest = h; before = omega (arith, has.1.1.1.0); next = tt; far = (omega (arith, a4), tt) }, rb.1),
            ),
          ),
        ),
      )

  -- a construct: what is within it, then its ways out
  scope_part : {Out : ℕ → Type 0} (o : Option Place) (cx b : List Line) (hx hb : List ℕ) (h : ℕ) → Part height Out b hb (suc h) →
      Part height (Exits height scoped (suc h)) cx hx (suc h) → Part height Out (cx ++ (leaving_code o ++ b)) (hx ++ (leaving_heights (suc h) ++ hb)) (suc h)
  scope_part {Out = Out} o cx b hx hb h q p = behind_with height {In = Leaving (suc h)} (leaving_code o ++ b) (leaving_heights (suc h) ++ hb)
      (omega (arith, q.same)) (leaving_keeps o b hb h q) (λ e l out. record {
        here = l.onward;
        cycle = l.cycle;
        exit = l.exit;
        left = suc h;
        cells = omega arith;
        ret = l.ret;
      }) p

  departing_part : (o : Option Place) (ws : Ways) (h : ℕ) → Part height (Exits height ws h) (departing_code o ws) (departing_heights h ws.cells) (suc h)
  departing_part o ws h = before height (line o (i.Depart (2 + ws.cycle) (2 + ws.exit))) (λ pc is next out.
      let cycle = same_height height (pc + 1 + (2 + ws.cycle)) (pc + 1 + 2 + ws.cycle) (omega arith) out.cycle in
      let exit = same_height height (pc + 1 + (2 + ws.exit)) (pc + 1 + 2 + ws.exit) (omega arith) out.exit in
      record {
        rest = h;
        before = omega (arith, is);
        next = omega (arith, next);
        far = (omega (arith, out.here), (omega (arith, cycle), (omega (arith, exit), tt)));
      })
      (before height (line o (i.Unwind ws.cells))
      (λ pc is next out. record { rest = out.left; before = omega (arith, is, out.cells); next = omega (arith, next, out.cells); far = tt })
      (on_part o ws.ret (h - ws.cells) (λ e out. omega (arith, out.ret, out.cells))))

  -- the one or the other
  if_part : (o : Option Place) (ws : Ways) (h : ℕ) (ct cx cy : List Line) (ht hx hy : List ℕ) → Part height (Onto height (suc h)) ct ht h →
      One (farther (1 + length cy) ws) h cx hx → One ws h cy hy →
      One ws h (ct ++ (line o (i.SkipIfFalse (length cx + 1)) ∷ (cx ++ (line o (i.GoOn (length cy)) ∷ cy)))) (ht ++ (suc h ∷ (hx ++ (h ∷ hy))))
  if_part o ws h ct cx cy ht hx hy t p q = seq height t (forked height (line o (i.SkipIfFalse (length cx + 1))) (line o (i.GoOn (length cy)))
      (λ pc is next far. record { rest = h; before = omega (arith, is); next = omega (arith, next); far = (omega (arith, far), tt) })
      (λ e is out. farther_exits height (1 + length cy) e is (exits_at height (e + (1 + length cy)) (e + 1 + length cy) (omega arith) out))
      (λ e is next out. record { rest = h; before = omega (arith, is); next = tt; far = (omega (arith, out.here), tt) }) p q)

  case_part : (o : Option Place) (ws : Ways) (h : ℕ) (rs : List Range) (cx cy : List Line) (hx hy : List ℕ) →
      One (farther (1 + length cy) ws) h cx hx → One ws h cy hy → One ws h (case_code o rs cx cy) (case_heights h rs hx hy)
  case_part o ws h rs cx cy hx hy p q =
      let l = line o (i.GoOn (length cx + 1)) in let j = line o (i.GoOn (length cy)) in
      behind_with height {In = λ e. (height e ≡ h) × (height (e + 1) ≡ h)} (l ∷ (cx ++ (j ∷ cy))) (h ∷ (hx ++ (h ∷ hy))) (forked_same height h h l j p q)
      (forked_keeps height l j
      (λ pc is next far. record { rest = h; before = omega (arith, is); next = tt; far = (omega (arith, far), tt) })
      (λ e is out. farther_exits height (1 + length cy) e is (exits_at height (e + (1 + length cy)) (e + 1 + length cy) (omega arith) out))
      (λ e is next out. record { rest = h; before = omega (arith, is); next = tt; far = (omega (arith, out.here), tt) }) p q)
      (λ e is out. is) (ranges_part height m o rs h)

  while_part : (o : Option Place) (ws : Ways) (h : ℕ) (ct cx : List Line) (ht hx : List ℕ) → Part height (Onto height (suc h)) ct ht h →
      One (looped ws) h cx hx → One ws h (while_code o ct cx) (while_heights h ht hx)
  while_part o ws h ct cx ht hx t p = record {
    same = omega (arith, length-append ht (suc h ∷ (hx ++ h ∷ [])), length-append hx (h ∷ []), length-append ct rest, length-append cx tail, t.same, p.same);
    keeps = λ pc has out.
        let p0 = pc + length ct in
        let has0 = subst (λ n. HeightsAt height (pc + n) (suc h ∷ (hx ++ h ∷ []))) t.same (heights_back height pc ht (suc h ∷ (hx ++ h ∷ [])) has) in
        let p1 = p0 + 1 + length cx in
        let has1 = subst (λ n. HeightsAt height (p0 + 1 + n) (h ∷ [])) p.same (heights_back height (p0 + 1) hx (h ∷ []) has0.1) in
        let e : p1 + 1 ≡ pc + length (while_code o ct cx) = omega (arith, length-append ct rest, length-append cx tail) in
        let out' = exits_at height (p1 + 1) _ e out in
        let rt = t.keeps pc (heights_front height pc ht (suc h ∷ (hx ++ h ∷ [])) has) has0.0 in
        let exits : Exits height (looped ws) h p1 = record {
          here = has1.0;
          cycle = same_height height (p1 + 0) p1 (omega arith) has1.0;
          exit = out'.here;
          left = out'.left;
          cells = out'.cells;
          ret = same_height height (p1 + (1 + ws.ret)) (p1 + 1 + ws.ret) (omega arith) out'.ret;
        } in
        let rx = p.keeps (p0 + 1) (heights_front height (p0 + 1) hx (h ∷ []) has0.1) exits in
        let far = same_height height (p0 + 1 + (length cx + 1)) (p1 + 1) (omega arith) out'.here in
        let again = same_height height (p1 - (length ct + 1 + length cx)) pc (omega arith) rt.0 in (
          rt.0,
          lines_on height pc ct rest rt.1 (
            record { rest = h; before = omega (arith, has0.0); next = omega (arith, rx.0); far = (omega (arith, far), tt) },
            lines_on height (p0 + 1) cx tail rx.1 (omega (arith, again, has1.0), tt),
          ),
        );
  }
    where
      tail : List Line
      tail = line o (i.GoBack (length ct + 1 + length cx)) ∷ []

      rest : List Line
      rest = line o (i.SkipIfFalse (length cx + 1)) ∷ (cx ++ tail)

  up_part : (o : Option Place) (d : Designator) (k : Kind) (h : ℕ) → Part height (Onto height (suc h)) (up_code o d k) (up_heights h d) (suc h)
  up_part o d k h = seq height (locate_part height d o (suc h)) (last height (plain height (line o (i.CountUp k.of)) 2 1 h (λ pc x. x)))

  turns_part : (o : Option Place) (ws : Ways) (h : ℕ) (cx cu : List Line) (hx hu : List ℕ) → Part height (Onto height (suc h)) cu hu (suc h) →
      One (counting (length cu) ws) (suc h) cx hx → Part height (Exits height ws h) (turns_code o cx cu) (turns_heights h hx hu) (suc h)
  turns_part o ws h cx cu hx hu u p = record {
    same = omega (arith, length-append hx (hu ++ ends), length-append hu ends, length-append cx (cu ++ tail), length-append cu tail, u.same, p.same);
    keeps = λ pc has out.
        let p1 = pc + 1 + length cx in
        let has1 = subst (λ n. HeightsAt height (pc + 1 + n) (hu ++ ends)) p.same (heights_back height (pc + 1) hx (hu ++ ends) has.1) in
        let p2 = p1 + length cu in
        let has2 = subst (λ n. HeightsAt height (p1 + n) ends) u.same (heights_back height p1 hu ends has1) in
        let e : p2 + 1 + 1 ≡ pc + length (turns_code o cx cu) = omega (arith, length-append cx (cu ++ tail), length-append cu tail) in
        let out' = exits_at height (p2 + 1 + 1) _ e out in
        let ru = u.keeps p1 (heights_front height p1 hu ends has1) has2.0 in
        let exits : Exits height (counting (length cu) ws) (suc h) p1 = record {
          here = ru.0;
          cycle = same_height height (p1 + 0) p1 (omega arith) ru.0;
          exit = same_height height (p1 + (length cu + 1)) (p2 + 1) (omega arith) has2.1.0;
          left = out'.left;
          cells = omega (arith, out'.cells);
          ret = same_height height (p1 + (length cu + 2 + ws.ret)) (p2 + 1 + 1 + ws.ret) (omega arith) out'.ret;
        } in
        let rx = p.keeps (pc + 1) (heights_front height (pc + 1) hx (hu ++ ends) has.1) exits in
        let far = same_height height (pc + 1 + (length cx + length cu + 1)) (p2 + 1) (omega arith) has2.1.0 in
        let again = same_height height (p2 - (1 + length cx + length cu)) pc (omega arith) has.0 in (
          has.0,
          (
            record { rest = h; before = omega (arith, has.0); next = omega (arith, rx.0); far = (omega (arith, far), tt) },
            lines_on height (pc + 1) cx (cu ++ tail) rx.1 (lines_on height p1 cu tail ru.1 (
              omega (arith, again, has2.0),
              (record { rest = h; before = omega (arith, has2.1.0); next = omega (arith, out'.here); far = tt }, tt),
            )),
          ),
        );
  }
    where
      ends : List ℕ
      ends = suc h ∷ suc h ∷ []

      tail : List Line
      tail = line o (i.GoBack (1 + length cx + length cu)) ∷ line o (i.Unwind 1) ∷ []

  limits_part : {Out : ℕ → Type 0} {b : List Line} {hb : List ℕ} (o : Option Place) (k : Kind) (from to by : Expression) (h : ℕ) →
      Part height Out b hb (suc (suc (suc h))) → Part height Out (limits_code o k from to by b) (limits_heights h from to by hb) h
  limits_part o k from to by h q =
      seq height (value_part height from o h) (first height (plain height (line o (i.Convert k.of)) 1 1 h (λ pc x. x))
      (seq height (value_part height to o (suc h)) (first height (plain height (line o (i.Convert k.of)) 1 1 (suc h) (λ pc x. x))
      (seq height (value_part height by o (suc (suc h))) (first height (plain height (line o (i.Convert k.of)) 1 1 (suc (suc h)) (λ pc x. x))
      (first height (plain height (line o i.TestStep) 1 1 (suc (suc h)) (λ pc x. x)) q))))))

  pub statement_part : (x : c.Core) (o : Option Place) (ws : Ways) (h : ℕ) →
      Part height (Exits height ws h) (code_of m o x ws) (code_heights m h ws.cells x) h
  statement_part (c.At place true x) o ws h = first height (plain height (line (Some place) i.Begin) 0 0 h (λ pc x. x)) (statement_part x (Some place) ws h)
  statement_part (c.At place false x) o ws h = statement_part x (Some place) ws h
  statement_part c.Skip o ws h = simple h (nothing height h)
  statement_part (c.Then x y) o ws h =
      let k = length (code_of m o y ws) in
      behind height (λ e is out. farther_exits height k e is out) (statement_part x o (farther k ws) h) (statement_part y o ws h)
  statement_part (c.Assign d x e) o ws h = simple h (seq height (value_part height e o h) (seq height (locate_part height d o (suc h))
      (transfer_part height m o x h)))
  statement_part (c.Call e) o ws h = simple h (seq height (value_part height e o h) (last height (plain height (line o i.Drop) 1 0 h (λ pc x. x))))
  statement_part (c.Move true x d e) o ws h = simple h (seq height (locate_part height d o h) (seq height (locate_part height e o (suc h))
      (first height (plain height (line o i.LendBoth) 2 2 h (λ pc x. x)) (seq height (work_part height m o x (suc h))
      (last height (plain height (line o i.TakeOver) 2 0 h (λ pc x. x)))))))
  statement_part (c.Move false x d e) o ws h = simple h (seq height (locate_part height d o h) (seq height (locate_part height e o (suc h))
      (first height (plain height (line o i.Swap) 2 2 h (λ pc x. x)) (first height (plain height (line o i.LendBoth) 2 2 h (λ pc x. x))
      (seq height (work_part height m o x (suc h)) (last height (plain height (line o i.TakeOver) 2 0 h (λ pc x. x))))))))
  statement_part (c.Allocate xs stat) o ws h = simple h (seq height (allocate_part height m o xs h) (status_part height m o stat h))
  statement_part (c.Deallocate xs stat) o ws h = simple h (seq height (deallocate_part height m o xs h) (status_part height m o stat h))
  statement_part (c.Print xs) o ws h = simple h (items_part height m o xs h)
  statement_part (c.Stop number) o ws h = before_end height (line o (i.Stop number)) (λ pc is out. record { rest = h; before = omega (arith, is); next = tt; far = tt })
  statement_part c.Return o ws h = return_part o ws h
  statement_part c.Cycle o ws h = on_part o ws.cycle h (λ e out. out.cycle)
  statement_part c.Exit o ws h = on_part o ws.exit h (λ e out. out.exit)
  statement_part (c.If e x y) o ws h =
      let k = 1 + length (code_of m o y ws) in
      if_part o ws h _ _ _ _ _ _ (value_part height e o h) (statement_part x o (farther k ws) h) (statement_part y o ws h)
  statement_part (c.Select e x) o ws h = seq height (value_part height e o h) (first height (plain height (line o i.Selecting) 1 1 h (λ pc x. x))
      (scope_part o (code_of m o x scoped) (departing_code o ws) (code_heights m (suc h) 0 x) (departing_heights h ws.cells) h (departing_part o ws h)
      (statement_part x o scoped (suc h))))
  statement_part (c.Case rs x y) o ws h =
      let k = 1 + length (code_of m o y ws) in
      case_part o ws h rs _ _ _ _ (statement_part x o (farther k ws) h) (statement_part y o ws h)
  statement_part (c.While e x) o ws h = while_part o ws h _ _ _ _ (value_part height e o h) (statement_part x o (looped ws) h)
  statement_part (c.Count d k from to by x) o ws h =
      limits_part o k from to by h (seq height (locate_part height d o (suc (suc (suc h))))
      (first height (plain height (line o i.CountBegin) 4 1 h (λ pc x. x))
      (turns_part o ws h _ _ _ _ (up_part o d k h) (statement_part x o (counting (length (up_code o d k)) ws) (suc h)))))
  statement_part (c.Associate xs x) o ws h =
      seq height (selectors_part height m o xs h)
      (first height (falls height (line o (i.Associate (length xs))) (length xs) 2 h (λ pc x. x) refl (omega arith))
      (scope_part o (code_of m o x scoped) _ (code_heights m (suc (suc h)) 0 x) _ (suc h)
      (first height (plain height (line o i.Associated) 2 3 h (λ pc x. x)) (seq height (discards_part height m o xs (suc (suc h)))
      (first height (plain height (line o i.EndAssociate) 3 1 h (λ pc x. x)) (departing_part o ws h))))
      (statement_part x o scoped (suc (suc h)))))
