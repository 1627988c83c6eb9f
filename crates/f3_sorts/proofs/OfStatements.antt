-- The sorts of the code of statements.
use Rattle.std.proofs.Common.{◌≡◌, ◌∙◌, sym, ap, drop, ℕ, suc, ◌+◌, ◌-◌, true, false, List, [], ◌∷◌, ◌++◌, length, Option, Some, refl, subst, arith, length-append}
use Rattle.std.proofs.Math.Seq.{drop-append_seam}
use Rattle.f3_places.specs.declared.source.Place.{Place}
use Rattle.f3_program.specs.declared.declarations.Kind.{Kind}
use Rattle.f3_program.specs.declared.expression.Designator.{Designator}
use Rattle.f3_program.specs.declared.expression.Expression.{Expression}
use Rattle.f3_program.specs.declared.statement.Range.{Range}
use Rattle.f3_code.specs.Core as c
use Rattle.f3_code.specs.declared.instruction.Instruction.TheVariants as i
use Rattle.f3_code.specs.State.{Line, line}
use Rattle.f3_code.specs.Code.{Ways, farther, looped, counting, scoped, leaving_code, departing_code, case_code, while_code, up_code, turns_code, limits_code, code_of}
use Rattle.f3_sorts.specs.Effect.{Sort}
use Rattle.f3_sorts.specs.Effect as sort
use Rattle.f3_sorts.specs.Sorts.{IsAt}
use Rattle.f3_sorts.specs.Program.{leaving_sorts, departing_sorts, case_sorts, while_sorts, up_sorts, turns_sorts, limits_sorts, code_sorts}
use Rattle.f3_sorts.proofs.Parts.{SortsAt, LinesAt, sorts_front, sorts_back, lines_on, same_sorts, Part, Onto, wider, nothing, behind_with, behind, seq, before, before_end, Falls, Gone, plain, drops, first, last, forked_keeps, forked_same, forked, Exits, exits_at, farther_exits}
use Rattle.f3_sorts.proofs.OfValues.{value_part, locate_part}
use Rattle.f3_sorts.proofs.OfWork.{work_part}
use Rattle.f3_sorts.proofs.OfParts.{transfer_part, allocate_part, deallocate_part, status_part, items_part, ranges_part, selectors_part, discards_part}

gone_drop : {h left : List Sort} {k : ℕ} → Gone h k left → drop k h ≡ left
gone_drop {left = left} {k = k} g = ap (drop k) g.is ∙ ap (λ n. drop n (g.gone ++ left)) (sym g.many) ∙ drop-append_seam g.gone left

gone_more : {h left : List Sort} {k : ℕ} (x : Sort) → Gone h k left → Gone (x ∷ h) (suc k) left
gone_more x g = record { gone = x ∷ g.gone; many = ap suc g.many; is = ap (λ l. x ∷ l) g.is }

module _ (sorts : ℕ → List Sort) (m : ℕ) where
  abbrev One : Ways → List Sort → List Line → List (List Sort) → Type 0
  One ws h lines hs = Part sorts (Exits sorts ws h) lines hs h

  -- a statement that goes on behind it alone
  simple : {ws : Ways} {lines : List Line} {hs : List (List Sort)} (h : List Sort) → Part sorts (Onto sorts h) lines hs h → One ws h lines hs
  simple h p = wider sorts (λ e out. out.here) p

  -- so many go
  unwinds : {h left : List Sort} {k : ℕ} (pc : ℕ) → sorts pc ≡ h → sorts (pc + 1) ≡ drop k h → Gone h k left → IsAt sorts pc (i.Unwind k)
  unwinds {left = left} pc is next g = (g.gone, g.many, record { rest = left; before = is ∙ g.is; next = next ∙ gone_drop g; far = tt })

  swaps : (o : Option Place) (x y : Sort) (rest : List Sort) → Falls sorts (line o i.Swap) (x ∷ y ∷ rest) (y ∷ x ∷ rest)
  swaps o x y rest = record { by = λ pc is next. (x, y, record { rest = rest; before = is; next = next; far = tt }) }

  -- so many lines on
  on_part : {Out : ℕ → Type 0} (o : Option Place) (d : ℕ) (h : List Sort) → ((e : ℕ) → Out e → sorts (e + d) ≡ h) → Part sorts Out (line o (i.GoOn d) ∷ []) (h ∷ []) h
  on_part o d h f = before_end sorts (line o (i.GoOn d)) (λ pc is out. record {
    rest = h;
    before = is;
    next = tt;
    far = (f (pc + 1) out, tt);
  })

  return_part : (o : Option Place) (ws : Ways) (h : List Sort) →
      One ws h (line o i.SetPlace ∷ line o (i.Unwind ws.cells) ∷ line o (i.GoOn ws.ret) ∷ []) (h ∷ h ∷ drop ws.cells h ∷ [])
  return_part o ws h = first sorts (plain sorts (line o i.SetPlace) h refl (λ pc x. x))
      (before sorts (line o (i.Unwind ws.cells))
      (λ pc is next out. unwinds pc is next out.cells)
      (on_part o ws.ret (drop ws.cells h) (λ e out. out.ret ∙ sym (gone_drop out.cells))))

  -- the ways out of a construct, and behind them where they lead
  record Leaving (h : List Sort) (e : ℕ) : Type 0 where
    onward : sorts e ≡ h
    cycle : sorts (e + 1) ≡ h
    exit : sorts (e + 2) ≡ h
    ret : sorts (e + 3) ≡ h

  leaving_keeps : {Out : ℕ → Type 0} (o : Option Place) (b : List Line) (hb : List (List Sort)) (h : List Sort) → Part sorts Out b hb (sort.Going ∷ h) → (pc : ℕ) →
      SortsAt sorts pc (leaving_sorts (sort.Outside ∷ h) ++ hb) → Out (pc + length (leaving_code o ++ b)) →
      Leaving (sort.Outside ∷ h) pc × LinesAt sorts pc (leaving_code o ++ b)
  leaving_keeps {Out = Out} o b hb h q pc has out =
      let e : pc + length (leaving_code o ++ b) ≡ pc + 1 + 1 + 1 + 1 + length b = omega arith in
      let rb = q.keeps (pc + 1 + 1 + 1 + 1) has.1.1.1.1 (subst Out e out) in
      let a1 = same_sorts sorts (pc + 1 + 3) (pc + 1 + 1 + 1 + 1) (omega arith) rb.0 in
      let a2 = same_sorts sorts (pc + 1 + 1 + 2) (pc + 1 + 1 + 1 + 1) (omega arith) rb.0 in
      let a3 = same_sorts sorts (pc + 1 + 1 + 1 + 1) (pc + 1 + 1 + 1 + 1) (omega arith) rb.0 in
      let a4 = same_sorts sorts (pc + 1 + 1 + 1 + 1 + 0) (pc + 1 + 1 + 1 + 1) (omega arith) rb.0 in (
        record {
          onward = has.0;
          cycle = has.1.0;
          exit = same_sorts sorts (pc + 2) (pc + 1 + 1) (omega arith) has.1.1.0;
          ret = same_sorts sorts (pc + 3) (pc + 1 + 1 + 1) (omega arith) has.1.1.1.0;
        },
        (
          record { rest = h; before = has.0; next = tt; far = (a1, tt) },
          (
            record { rest = h; before = has.1.0; next = tt; far = (a2, tt) },
            (
              record { rest = h; before = has.1.1.0; next = tt; far = (a3, tt) },
              (record { rest = h; before = has.1.1.1.0; next = tt; far = (a4, tt) }, rb.1),
            ),
          ),
        ),
      )

  -- a construct: what is within it, then its ways out
  scope_part : {Out : ℕ → Type 0} (o : Option Place) (cx b : List Line) (hx hb : List (List Sort)) (h : List Sort) → Part sorts Out b hb (sort.Going ∷ h) →
      Part sorts (Exits sorts scoped (sort.Outside ∷ h)) cx hx (sort.Outside ∷ h) → Part sorts Out (cx ++ (leaving_code o ++ b)) (hx ++ (leaving_sorts (sort.Outside ∷ h) ++ hb)) (sort.Outside ∷ h)
  scope_part {Out = Out} o cx b hx hb h q p = behind_with sorts {In = Leaving (sort.Outside ∷ h)} (leaving_code o ++ b) (leaving_sorts (sort.Outside ∷ h) ++ hb)
      (omega (arith, q.same)) (leaving_keeps o b hb h q) (λ e l out. record {
        here = l.onward;
        cycle = l.cycle;
        exit = l.exit;
        left = sort.Outside ∷ h;
        cells = record { gone = []; many = refl; is = refl };
        ret = l.ret;
      }) p

  departing_part : (o : Option Place) (ws : Ways) (h : List Sort) → Part sorts (Exits sorts ws h) (departing_code o ws) (departing_sorts h ws.cells) (sort.Going ∷ h)
  departing_part o ws h = before sorts (line o (i.Depart (2 + ws.cycle) (2 + ws.exit))) (λ pc is next out.
      let cycle = same_sorts sorts (pc + 1 + (2 + ws.cycle)) (pc + 1 + 2 + ws.cycle) (omega arith) out.cycle in
      let exit = same_sorts sorts (pc + 1 + (2 + ws.exit)) (pc + 1 + 2 + ws.exit) (omega arith) out.exit in
      record {
        rest = h;
        before = is;
        next = next;
        far = (out.here, (cycle, (exit, tt)));
      })
      (before sorts (line o (i.Unwind ws.cells))
      (λ pc is next out. unwinds pc is next out.cells)
      (on_part o ws.ret (drop ws.cells h) (λ e out. out.ret ∙ sym (gone_drop out.cells))))

  -- the one or the other
  if_part : (o : Option Place) (ws : Ways) (h : List Sort) (ct cx cy : List Line) (ht hx hy : List (List Sort)) → Part sorts (Onto sorts (sort.Datum ∷ h)) ct ht h →
      One (farther (1 + length cy) ws) h cx hx → One ws h cy hy →
      One ws h (ct ++ (line o (i.SkipIfFalse (length cx + 1)) ∷ (cx ++ (line o (i.GoOn (length cy)) ∷ cy)))) (ht ++ ((sort.Datum ∷ h) ∷ (hx ++ (h ∷ hy))))
  if_part o ws h ct cx cy ht hx hy t p q = seq sorts t (forked sorts (line o (i.SkipIfFalse (length cx + 1))) (line o (i.GoOn (length cy)))
      (λ pc is next far. record { rest = h; before = is; next = next; far = (far, tt) })
      (λ e is out. farther_exits sorts (1 + length cy) e is (exits_at sorts (e + (1 + length cy)) (e + 1 + length cy) (omega arith) out))
      (λ e is next out. record { rest = h; before = is; next = tt; far = (out.here, tt) }) p q)

  case_part : (o : Option Place) (ws : Ways) (h : List Sort) (rs : List Range) (cx cy : List Line) (hx hy : List (List Sort)) →
      One (farther (1 + length cy) ws) h cx hx → One ws h cy hy → One ws h (case_code o rs cx cy) (case_sorts h rs hx hy)
  case_part o ws h rs cx cy hx hy p q =
      let l = line o (i.GoOn (length cx + 1)) in let j = line o (i.GoOn (length cy)) in
      behind_with sorts {In = λ e. (sorts e ≡ h) × (sorts (e + 1) ≡ h)} (l ∷ (cx ++ (j ∷ cy))) (h ∷ (hx ++ (h ∷ hy))) (forked_same sorts h h l j p q)
      (forked_keeps sorts l j
      (λ pc is next far. record { rest = h; before = is; next = tt; far = (far, tt) })
      (λ e is out. farther_exits sorts (1 + length cy) e is (exits_at sorts (e + (1 + length cy)) (e + 1 + length cy) (omega arith) out))
      (λ e is next out. record { rest = h; before = is; next = tt; far = (out.here, tt) }) p q)
      (λ e is out. is) (ranges_part sorts m o rs h)

  while_part : (o : Option Place) (ws : Ways) (h : List Sort) (ct cx : List Line) (ht hx : List (List Sort)) → Part sorts (Onto sorts (sort.Datum ∷ h)) ct ht h →
      One (looped ws) h cx hx → One ws h (while_code o ct cx) (while_sorts h ht hx)
  while_part o ws h ct cx ht hx t p = record {
    same = omega (arith, length-append ht ((sort.Datum ∷ h) ∷ (hx ++ h ∷ [])), length-append hx (h ∷ []), length-append ct rest, length-append cx tail, t.same, p.same);
    keeps = λ pc has out.
        let p0 = pc + length ct in
        let has0 = subst (λ n. SortsAt sorts (pc + n) ((sort.Datum ∷ h) ∷ (hx ++ h ∷ []))) t.same (sorts_back sorts pc ht ((sort.Datum ∷ h) ∷ (hx ++ h ∷ [])) has) in
        let p1 = p0 + 1 + length cx in
        let has1 = subst (λ n. SortsAt sorts (p0 + 1 + n) (h ∷ [])) p.same (sorts_back sorts (p0 + 1) hx (h ∷ []) has0.1) in
        let e : p1 + 1 ≡ pc + length (while_code o ct cx) = omega (arith, length-append ct rest, length-append cx tail) in
        let out' = exits_at sorts (p1 + 1) _ e out in
        let rt = t.keeps pc (sorts_front sorts pc ht ((sort.Datum ∷ h) ∷ (hx ++ h ∷ [])) has) has0.0 in
        let exits : Exits sorts (looped ws) h p1 = record {
          here = has1.0;
          cycle = same_sorts sorts (p1 + 0) p1 (omega arith) has1.0;
          exit = out'.here;
          left = out'.left;
          cells = out'.cells;
          ret = same_sorts sorts (p1 + (1 + ws.ret)) (p1 + 1 + ws.ret) (omega arith) out'.ret;
        } in
        let rx = p.keeps (p0 + 1) (sorts_front sorts (p0 + 1) hx (h ∷ []) has0.1) exits in
        let far = same_sorts sorts (p0 + 1 + (length cx + 1)) (p1 + 1) (omega arith) out'.here in
        let again = same_sorts sorts (p1 - (length ct + 1 + length cx)) pc (omega arith) rt.0 in (
          rt.0,
          lines_on sorts pc ct rest rt.1 (
            record { rest = h; before = has0.0; next = rx.0; far = (far, tt) },
            lines_on sorts (p0 + 1) cx tail rx.1 (again ∙ sym has1.0, tt),
          ),
        );
  }
    where
      tail : List Line
      tail = line o (i.GoBack (length ct + 1 + length cx)) ∷ []

      rest : List Line
      rest = line o (i.SkipIfFalse (length cx + 1)) ∷ (cx ++ tail)

  up_part : (o : Option Place) (d : Designator) (k : Kind) (h : List Sort) → Part sorts (Onto sorts (sort.Turns ∷ h)) (up_code o d k) (up_sorts h d) (sort.Turns ∷ h)
  up_part o d k h = seq sorts (locate_part sorts d o (sort.Turns ∷ h)) (last sorts (plain sorts (line o (i.CountUp k.of)) h refl (λ pc x. x)))

  turns_part : (o : Option Place) (ws : Ways) (h : List Sort) (cx cu : List Line) (hx hu : List (List Sort)) → Part sorts (Onto sorts (sort.Turns ∷ h)) cu hu (sort.Turns ∷ h) →
      One (counting (length cu) ws) (sort.Turns ∷ h) cx hx → Part sorts (Exits sorts ws h) (turns_code o cx cu) (turns_sorts h hx hu) (sort.Turns ∷ h)
  turns_part o ws h cx cu hx hu u p = record {
    same = omega (arith, length-append hx (hu ++ ends), length-append hu ends, length-append cx (cu ++ tail), length-append cu tail, u.same, p.same);
    keeps = λ pc has out.
        let p1 = pc + 1 + length cx in
        let has1 = subst (λ n. SortsAt sorts (pc + 1 + n) (hu ++ ends)) p.same (sorts_back sorts (pc + 1) hx (hu ++ ends) has.1) in
        let p2 = p1 + length cu in
        let has2 = subst (λ n. SortsAt sorts (p1 + n) ends) u.same (sorts_back sorts p1 hu ends has1) in
        let e : p2 + 1 + 1 ≡ pc + length (turns_code o cx cu) = omega (arith, length-append cx (cu ++ tail), length-append cu tail) in
        let out' = exits_at sorts (p2 + 1 + 1) _ e out in
        let ru = u.keeps p1 (sorts_front sorts p1 hu ends has1) has2.0 in
        let exits : Exits sorts (counting (length cu) ws) (sort.Turns ∷ h) p1 = record {
          here = ru.0;
          cycle = same_sorts sorts (p1 + 0) p1 (omega arith) ru.0;
          exit = same_sorts sorts (p1 + (length cu + 1)) (p2 + 1) (omega arith) has2.1.0;
          left = out'.left;
          cells = gone_more sort.Turns out'.cells;
          ret = same_sorts sorts (p1 + (length cu + 2 + ws.ret)) (p2 + 1 + 1 + ws.ret) (omega arith) out'.ret;
        } in
        let rx = p.keeps (pc + 1) (sorts_front sorts (pc + 1) hx (hu ++ ends) has.1) exits in
        let far = same_sorts sorts (pc + 1 + (length cx + length cu + 1)) (p2 + 1) (omega arith) has2.1.0 in
        let again = same_sorts sorts (p2 - (1 + length cx + length cu)) pc (omega arith) has.0 in (
          has.0,
          (
            record { rest = h; before = has.0; next = rx.0; far = (far, tt) },
            lines_on sorts (pc + 1) cx (cu ++ tail) rx.1 (lines_on sorts p1 cu tail ru.1 (
              again ∙ sym has2.0,
              ((sort.Turns ∷ [], refl, record { rest = h; before = has2.1.0; next = out'.here; far = tt }), tt),
            )),
          ),
        );
  }
    where
      ends : List (List Sort)
      ends = (sort.Turns ∷ h) ∷ (sort.Turns ∷ h) ∷ []

      tail : List Line
      tail = line o (i.GoBack (1 + length cx + length cu)) ∷ line o (i.Unwind 1) ∷ []

  limits_part : {Out : ℕ → Type 0} {b : List Line} {hb : List (List Sort)} (o : Option Place) (k : Kind) (from to by : Expression) (h : List Sort) →
      Part sorts Out b hb (sort.Datum ∷ sort.Datum ∷ sort.Datum ∷ h) → Part sorts Out (limits_code o k from to by b) (limits_sorts h from to by hb) h
  limits_part o k from to by h q =
      seq sorts (value_part sorts from o h) (first sorts (plain sorts (line o (i.Convert k.of)) h refl (λ pc x. x))
      (seq sorts (value_part sorts to o (sort.Datum ∷ h)) (first sorts (plain sorts (line o (i.Convert k.of)) (sort.Datum ∷ h) refl (λ pc x. x))
      (seq sorts (value_part sorts by o (sort.Datum ∷ sort.Datum ∷ h)) (first sorts (plain sorts (line o (i.Convert k.of)) (sort.Datum ∷ sort.Datum ∷ h) refl (λ pc x. x))
      (first sorts (plain sorts (line o i.TestStep) (sort.Datum ∷ sort.Datum ∷ h) refl (λ pc x. x)) q))))))

  pub statement_part : (x : c.Core) (o : Option Place) (ws : Ways) (h : List Sort) →
      Part sorts (Exits sorts ws h) (code_of m o x ws) (code_sorts m h ws.cells x) h
  statement_part (c.At place true x) o ws h = first sorts (plain sorts (line (Some place) i.Begin) h refl (λ pc x. x)) (statement_part x (Some place) ws h)
  statement_part (c.At place false x) o ws h = statement_part x (Some place) ws h
  statement_part c.Skip o ws h = simple h (nothing sorts h)
  statement_part (c.Then x y) o ws h =
      let k = length (code_of m o y ws) in
      behind sorts (λ e is out. farther_exits sorts k e is out) (statement_part x o (farther k ws) h) (statement_part y o ws h)
  statement_part (c.Assign d x e) o ws h = simple h (seq sorts (value_part sorts e o h) (seq sorts (locate_part sorts d o (sort.Datum ∷ h))
      (transfer_part sorts m o x h)))
  statement_part (c.Call e) o ws h = simple h (seq sorts (value_part sorts e o h) (last sorts (drops sorts (line o i.Drop) sort.Datum h (λ pc x. x))))
  statement_part (c.Move true x d e) o ws h = simple h (seq sorts (locate_part sorts d o h) (seq sorts (locate_part sorts e o (sort.Object ∷ h))
      (first sorts (plain sorts (line o i.LendBoth) h refl (λ pc x. x)) (seq sorts (work_part sorts m o x (sort.Object ∷ h))
      (last sorts (plain sorts (line o i.TakeOver) h refl (λ pc x. x)))))))
  statement_part (c.Move false x d e) o ws h = simple h (seq sorts (locate_part sorts d o h) (seq sorts (locate_part sorts e o (sort.Object ∷ h))
      (first sorts (swaps o sort.Object sort.Object h) (first sorts (plain sorts (line o i.LendBoth) h refl (λ pc x. x))
      (seq sorts (work_part sorts m o x (sort.Object ∷ h)) (last sorts (plain sorts (line o i.TakeOver) h refl (λ pc x. x))))))))
  statement_part (c.Allocate xs stat) o ws h = simple h (seq sorts (allocate_part sorts m o xs h) (status_part sorts m o stat h))
  statement_part (c.Deallocate xs stat) o ws h = simple h (seq sorts (deallocate_part sorts m o xs h) (status_part sorts m o stat h))
  statement_part (c.Print xs) o ws h = simple h (items_part sorts m o xs h)
  statement_part (c.Stop number) o ws h = before_end sorts (line o (i.Stop number)) (λ pc is out. record { rest = h; before = is; next = tt; far = tt })
  statement_part c.Return o ws h = return_part o ws h
  statement_part c.Cycle o ws h = on_part o ws.cycle h (λ e out. out.cycle)
  statement_part c.Exit o ws h = on_part o ws.exit h (λ e out. out.exit)
  statement_part (c.If e x y) o ws h =
      let k = 1 + length (code_of m o y ws) in
      if_part o ws h _ _ _ _ _ _ (value_part sorts e o h) (statement_part x o (farther k ws) h) (statement_part y o ws h)
  statement_part (c.Select e x) o ws h = seq sorts (value_part sorts e o h) (first sorts (plain sorts (line o i.Selecting) h refl (λ pc x. x))
      (scope_part o (code_of m o x scoped) (departing_code o ws) (code_sorts m (sort.Outside ∷ h) 0 x) (departing_sorts h ws.cells) h (departing_part o ws h)
      (statement_part x o scoped (sort.Outside ∷ h))))
  statement_part (c.Case rs x y) o ws h =
      let k = 1 + length (code_of m o y ws) in
      case_part o ws h rs _ _ _ _ (statement_part x o (farther k ws) h) (statement_part y o ws h)
  statement_part (c.While e x) o ws h = while_part o ws h _ _ _ _ (value_part sorts e o h) (statement_part x o (looped ws) h)
  statement_part (c.Count d k from to by x) o ws h =
      limits_part o k from to by h (seq sorts (locate_part sorts d o (sort.Datum ∷ sort.Datum ∷ sort.Datum ∷ h))
      (first sorts (plain sorts (line o i.CountBegin) h refl (λ pc x. x))
      (turns_part o ws h _ _ _ _ (up_part o d k h) (statement_part x o (counting (length (up_code o d k)) ws) (sort.Turns ∷ h)))))
  statement_part (c.Associate xs x) o ws h =
      seq sorts (selectors_part sorts m o xs h)
      (first sorts (plain sorts (line o (i.Associate (length xs))) h refl (λ pc x. x))
      (scope_part o (code_of m o x scoped) _ (code_sorts m (sort.Outside ∷ sort.Level ∷ h) 0 x) _ (sort.Level ∷ h)
      (first sorts (plain sorts (line o i.Associated) h refl (λ pc x. x)) (seq sorts (discards_part sorts m o xs (sort.Going ∷ sort.Level ∷ h))
      (first sorts (plain sorts (line o i.EndAssociate) h refl (λ pc x. x)) (departing_part o ws h))))
      (statement_part x o scoped (sort.Outside ∷ sort.Level ∷ h))))
