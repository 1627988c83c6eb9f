-- The kinds of the code of constructs.
use Rattle.std.proofs.Common.{◌≡◌, ◌∙◌, sym, ap, drop, ℕ, suc, ◌+◌, ◌-◌, true, List, [], ◌∷◌, ◌++◌, length, Option, Some, refl, subst, arith, length-append}
use Rattle.std.proofs.Math.Seq.{drop-append_seam}
use Rattle.f3_places.specs.declared.source.Place.{Place}
use Rattle.f3_program.specs.declared.declarations.Kind.{Kind}
use Rattle.f3_program.specs.declared.statement.Range.{Range}
use Rattle.f3_program.specs.declared.program.Program.{Program}
use Rattle.f3_meaning_whole.specs.Formed.{all}
use Rattle.f3_code.specs.declared.instruction.Instruction.TheVariants as i
use Rattle.f3_code.specs.declared.instruction.Way.{Way}
use Rattle.f3_code.specs.declared.instruction.Way.TheVariants as by
use Rattle.f3_code.specs.State.{Line, line}
use Rattle.f3_code.specs.Code.{Ways, farther, looped, counting, scoped, leaving_code, departing_code, case_code, while_code, turns_code}
use Rattle.f3_cell_kinds.specs.Types.{CellType, Scope, Told, Site}
use Rattle.f3_cell_kinds.specs.Types as cell
use Rattle.f3_cell_kinds.specs.Effect.{way, truth, range_fits}
use Rattle.f3_cell_kinds.specs.Kinds.{arrived, Leads, IsAt}
use Rattle.f3_cell_kinds.specs.Values.{at}
use Rattle.f3_cell_kinds.specs.Program.{leaving_sites, departing_sites, case_sites, while_sites, turns_sites}
use Rattle.f3_cell_kinds.proofs.Parts.{in_scope, At, SitesAt, LinesAt, lands, sites_front, sites_back, lines_on, same_site, same_at, comes, Part, Onto, wider, behind_with, seq, before, Gone, plain, first, forked_keeps, forked_same, forked, Exits, exits_at, farther_exits}
use Rattle.f3_cell_kinds.proofs.Steps.{on_leads, fork_leads, goes_on, goes_back, on_part}
use Rattle.f3_cell_kinds.proofs.Fitting.{FinalsFit}
use Rattle.f3_cell_kinds.proofs.OfActions.{ranges_part}

gone_drop : {h left : List CellType} {k : ℕ} → Gone h k left → drop k h ≡ left
gone_drop {left = left} {k = k} g = ap (drop k) g.is ∙ ap (λ n. drop n (g.gone ++ left)) (sym g.many) ∙ drop-append_seam g.gone left

gone_more : {h left : List CellType} {k : ℕ} (x : CellType) → Gone h k left → Gone (x ∷ h) (suc k) left
gone_more x g = record { gone = x ∷ g.gone; many = ap suc g.many; is = ap (λ l. x ∷ l) g.is }

module _ (p : Program) (sites : ℕ → Site) (finals : FinalsFit p) (m : ℕ) (r : Kind) where
  abbrev pub One : Ways → Scope → List CellType → List Line → List Site → Type 0
  One ws s h lines hs = Part p sites (Exits p sites ws r s h) lines hs (at r s h)

  -- a statement that goes on behind it alone
  pub simple : {ws : Ways} {lines : List Line} {hs : List Site} (s : Scope) (h : List CellType) → Part p sites (Onto p sites (at r s h)) lines hs (at r s h) → One ws s h lines hs
  simple s h x = wider p sites (λ e out live. out.here) x

  -- so many go
  unwinds : {left : List CellType} {k : ℕ} (o : Option Place) (s : Scope) (h : List CellType) (pc : ℕ) → sites pc ≡ at r s h → At p sites (pc + 1) (at r s (drop k h)) → Gone h k left →
      IsAt p sites pc (line o (i.Unwind k))
  unwinds {left = left} o s h pc is next g = λ t. (
    g.gone,
    g.many,
    on_leads p sites (at r s left) g.gone [] pc refl
        (is ∙ ap (λ l. at r s l) g.is) (λ live. next live ∙ ap (λ l. at r s l) (gone_drop g)),
  )

  -- on with another scope
  pub changes : (s c : Scope) (h xs ys : List CellType) (pc : ℕ) → sites pc ≡ at r s (xs ++ h) → At p sites (pc + 1) (at r c (ys ++ h)) →
      Leads sites pc (record { takes = xs; next = Some (record { scope = Told c; left = ys }); far = [] })
  changes s c h xs ys pc is next = record {
    rest = h;
    before = ap (λ (y : Site). y.cells) is;
    next = next refl ∙ lands (at r s h) xs ys (Told c) (sites pc) refl is;
    far = tt;
  }

  pub return_part : (o : Option Place) (ws : Ways) (s : Scope) (h : List CellType) →
      One ws s h (line o i.SetPlace ∷ line o (i.Unwind ws.cells) ∷ line o (i.GoOn ws.ret) ∷ []) (at r s h ∷ at r s h ∷ at r s (drop ws.cells h) ∷ [])
  return_part o ws s h = first p sites (plain p sites (line o i.SetPlace) (at r s h) [] [] (λ pc live c b. b))
      (before p sites (line o (i.Unwind ws.cells)) (λ pc is next out. unwinds o s h pc is next out.cells)
      (on_part p sites o ws.ret (at r s (drop ws.cells h)) (λ e out live. out.ret ∙ ap (λ l. at r s l) (sym (gone_drop out.cells)))))

  -- the ways out of a construct, and behind them where they lead
  record Leaving (s : Scope) (h : List CellType) (e : ℕ) : Type 0 where
    onward : sites e ≡ at r s h
    cycle : sites (e + 1) ≡ at r s h
    exit : sites (e + 2) ≡ at r s h
    ret : sites (e + 3) ≡ at r s h

  leaves : (o : Option Place) (by : Way) (d : ℕ) (s c : Scope) (h : List CellType) (pc : ℕ) → sites pc ≡ at r c (cell.Outside s ∷ h) → sites (pc + 1 + d) ≡ at r s (cell.Going ∷ h) →
      IsAt p sites pc (line o (i.Leave by d))
  leaves o by d s c h pc is to = λ t. in_scope (sites pc).scope c _ (ap (λ (y : Site). y.scope) is) (
    s,
    record {
      rest = h;
      before = ap (λ (y : Site). y.cells) is;
      next = tt;
      far = (to ∙ lands (at r c h) (cell.Outside s ∷ []) (cell.Going ∷ []) (Told s) (sites pc) refl is, tt);
    },
  )

  leaving_keeps : {Out : ℕ → Type 0} (o : Option Place) (b : List Line) (hb : List Site) (s c : Scope) (h : List CellType) → Part p sites Out b hb (at r s (cell.Going ∷ h)) → (pc : ℕ) →
      SitesAt p sites pc (leaving_sites p m r c (cell.Outside s ∷ h) ++ hb) → Out (pc + length (leaving_code o ++ b)) →
      Leaving c (cell.Outside s ∷ h) pc × LinesAt p sites pc (leaving_code o ++ b)
  leaving_keeps {Out = Out} o b hb s c h q pc has out =
      let e : pc + length (leaving_code o ++ b) ≡ pc + 1 + 1 + 1 + 1 + length b = omega arith in
      let rb = q.keeps (pc + 1 + 1 + 1 + 1) has.1.1.1.1 (subst Out e out) in
      let end = rb.0 refl in
      let a1 = same_site p sites (pc + 1 + 3) (pc + 1 + 1 + 1 + 1) (omega arith) end in
      let a2 = same_site p sites (pc + 1 + 1 + 2) (pc + 1 + 1 + 1 + 1) (omega arith) end in
      let a3 = same_site p sites (pc + 1 + 1 + 1 + 1) (pc + 1 + 1 + 1 + 1) (omega arith) end in
      let a4 = same_site p sites (pc + 1 + 1 + 1 + 1 + 0) (pc + 1 + 1 + 1 + 1) (omega arith) end in (
        record {
          onward = has.0;
          cycle = has.1.0;
          exit = same_site p sites (pc + 2) (pc + 1 + 1) (omega arith) has.1.1.0;
          ret = same_site p sites (pc + 3) (pc + 1 + 1 + 1) (omega arith) has.1.1.1.0;
        },
        (
          leaves o by.Onward 3 s c h pc has.0 a1,
          (leaves o by.Cycle 2 s c h (pc + 1) has.1.0 a2, (leaves o by.Exit 1 s c h (pc + 1 + 1) has.1.1.0 a3, (leaves o by.Return 0 s c h (pc + 1 + 1 + 1) has.1.1.1.0 a4, rb.1))),
        ),
      )

  -- a construct: what is within it, then its ways out
  pub scope_part : {Out : ℕ → Type 0} (o : Option Place) (cx b : List Line) (hx hb : List Site) (s c : Scope) (h : List CellType) → Part p sites Out b hb (at r s (cell.Going ∷ h)) →
      Part p sites (Exits p sites scoped r c (cell.Outside s ∷ h)) cx hx (at r c (cell.Outside s ∷ h)) →
      Part p sites Out (cx ++ (leaving_code o ++ b)) (hx ++ (leaving_sites p m r c (cell.Outside s ∷ h) ++ hb)) (at r c (cell.Outside s ∷ h))
  scope_part {Out = Out} o cx b hx hb s c h q x = behind_with p sites {In = Leaving c (cell.Outside s ∷ h)} (leaving_code o ++ b) (leaving_sites p m r c (cell.Outside s ∷ h) ++ hb)
      (omega (arith, q.same)) (leaving_keeps o b hb s c h q) (λ e l out. record {
        here = l.onward;
        cycle = l.cycle;
        exit = l.exit;
        left = cell.Outside s ∷ h;
        cells = record { gone = []; many = refl; is = refl };
        ret = l.ret;
      }) x

  pub departing_part : (o : Option Place) (ws : Ways) (s : Scope) (h : List CellType) →
      Part p sites (Exits p sites ws r s h) (departing_code o ws) (departing_sites p m r s h ws.cells) (at r s (cell.Going ∷ h))
  departing_part o ws s h = before p sites (line o (i.Depart (2 + ws.cycle) (2 + ws.exit))) (λ pc is next out t.
      let cycle = same_site p sites (pc + 1 + (2 + ws.cycle)) (pc + 1 + 2 + ws.cycle) (omega arith) out.cycle in
      let exit = same_site p sites (pc + 1 + (2 + ws.exit)) (pc + 1 + 2 + ws.exit) (omega arith) out.exit in
      let to : (e : ℕ) → sites e ≡ at r s h → sites e ≡ arrived (sites pc) (way (sites pc) []) h =
      λ e there. comes p sites (at r s h) (cell.Going ∷ []) [] pc e refl is (λ live. there) in
      record { rest = h; before = ap (λ (y : Site). y.cells) is; next = to (pc + 1) (next refl); far = (to _ out.here, (to _ cycle, (to _ exit, tt))) })
      (before p sites (line o (i.Unwind ws.cells)) (λ pc is next out. unwinds o s h pc is next out.cells)
      (on_part p sites o ws.ret (at r s (drop ws.cells h)) (λ e out live. out.ret ∙ ap (λ l. at r s l) (sym (gone_drop out.cells)))))

  -- the one or the other
  pub if_part : (o : Option Place) (ws : Ways) (s : Scope) (h : List CellType) (ct cx cy : List Line) (ht hx hy : List Site) →
      Part p sites (Onto p sites (at r s (cell.Datum truth ∷ h))) ct ht (at r s h) →
      One (farther (1 + length cy) ws) s h cx hx → One ws s h cy hy →
      One ws s h (ct ++ (line o (i.SkipIfFalse (length cx + 1)) ∷ (cx ++ (line o (i.GoOn (length cy)) ∷ cy)))) (ht ++ (at r s (cell.Datum truth ∷ h) ∷ (hx ++ (at r s h ∷ hy))))
  if_part o ws s h ct cx cy ht hx hy t x y = seq p sites t (forked p sites (line o (i.SkipIfFalse (length cx + 1))) (line o (i.GoOn (length cy)))
      (λ pc is next far live. fork_leads p sites (at r s h) (cell.Datum truth ∷ []) [] [] (length cx + 1) pc refl is next far)
      (λ e is out. farther_exits p sites (1 + length cy) e is (exits_at p sites (e + (1 + length cy)) (e + 1 + length cy) (omega arith) out))
      (λ e is next out. goes_on p sites o (length cy) (at r s h) e is (λ live. out.here)) x y)

  pub case_part : (o : Option Place) (ws : Ways) (s : Scope) (k : Kind) (h : List CellType) (rs : List Range) (cx cy : List Line) (hx hy : List Site) →
      s.selected ≡ Some k → all (range_fits k.of) rs ≡ true → One (farther (1 + length cy) ws) s h cx hx → One ws s h cy hy →
      One ws s h (case_code o rs cx cy) (case_sites p m r s h rs hx hy)
  case_part o ws s k h rs cx cy hx hy is fit x y =
      let l = line o (i.GoOn (length cx + 1)) in let j = line o (i.GoOn (length cy)) in
      behind_with p sites {In = λ e. (sites e ≡ at r s h) × (sites (e + 1) ≡ at r s h)} (l ∷ (cx ++ (j ∷ cy))) (at r s h ∷ (hx ++ (at r s h ∷ hy)))
      (forked_same p sites (at r s h) (at r s h) l j x y)
      (λ pc has out.
      let f = forked_keeps p sites l j
      (λ pc is next far. goes_on p sites o (length cx + 1) (at r s h) pc is far)
      (λ e is out. farther_exits p sites (1 + length cy) e is (exits_at p sites (e + (1 + length cy)) (e + 1 + length cy) (omega arith) out))
      (λ e is next out. goes_on p sites o (length cy) (at r s h) e is (λ live. out.here)) x y pc has out in
      ((f.0.0, f.0.1 refl), f.1))
      (λ e is out. is) (ranges_part p sites finals m r s o rs k h is fit)

  pub while_part : (o : Option Place) (ws : Ways) (s : Scope) (h : List CellType) (ct cx : List Line) (ht hx : List Site) →
      Part p sites (Onto p sites (at r s (cell.Datum truth ∷ h))) ct ht (at r s h) →
      One (looped ws) s h cx hx → One ws s h (while_code o ct cx) (while_sites p m r s h ht hx)
  while_part o ws s h ct cx ht hx t x = record {
    same = omega (arith, length-append ht (tested ∷ (hx ++ at r s h ∷ [])), length-append hx (at r s h ∷ []), length-append ct rest, length-append cx tail, t.same, x.same);
    keeps = λ pc has out.
        let p0 = pc + length ct in
        let has0 = subst (λ n. SitesAt p sites (pc + n) (tested ∷ (hx ++ at r s h ∷ []))) t.same (sites_back p sites pc ht (tested ∷ (hx ++ at r s h ∷ [])) has) in
        let p1 = p0 + 1 + length cx in
        let has1 = subst (λ n. SitesAt p sites (p0 + 1 + n) (at r s h ∷ [])) x.same (sites_back p sites (p0 + 1) hx (at r s h ∷ []) has0.1) in
        let e : p1 + 1 ≡ pc + length (while_code o ct cx) = omega (arith, length-append ct rest, length-append cx tail) in
        let out' = exits_at p sites (p1 + 1) _ e out in
        let rt = t.keeps pc (sites_front p sites pc ht (tested ∷ (hx ++ at r s h ∷ [])) has) (λ live. has0.0) in
        let exits : Exits p sites (looped ws) r s h p1 = record {
          here = has1.0;
          cycle = same_site p sites (p1 + 0) p1 (omega arith) has1.0;
          exit = out'.here;
          left = out'.left;
          cells = out'.cells;
          ret = same_site p sites (p1 + (1 + ws.ret)) (p1 + 1 + ws.ret) (omega arith) out'.ret;
        } in
        let rx = x.keeps (p0 + 1) (sites_front p sites (p0 + 1) hx (at r s h ∷ []) has0.1) exits in
        let far = same_site p sites (p0 + 1 + (length cx + 1)) (p1 + 1) (omega arith) out'.here in
        let again = same_at p sites {h = at r s h} (p1 - (length ct + 1 + length cx)) pc (omega arith) rt.0 in (
          rt.0,
          lines_on p sites pc ct rest rt.1 (
            λ live. fork_leads p sites (at r s h) (cell.Datum truth ∷ []) [] [] (length cx + 1) p0 refl has0.0 rx.0 (λ live. far),
            lines_on p sites (p0 + 1) cx tail rx.1 (goes_back p sites o (length ct + 1 + length cx) (at r s h) p1 has1.0 again, tt),
          ),
        );
  }
    where
      tested : Site
      tested = at r s (cell.Datum truth ∷ h)

      tail : List Line
      tail = line o (i.GoBack (length ct + 1 + length cx)) ∷ []

      rest : List Line
      rest = line o (i.SkipIfFalse (length cx + 1)) ∷ (cx ++ tail)

  pub turns_part : (o : Option Place) (ws : Ways) (s : Scope) (h : List CellType) (cx cu : List Line) (hx hu : List Site) →
      Part p sites (Onto p sites (at r s (cell.Turns ∷ h))) cu hu (at r s (cell.Turns ∷ h)) →
      One (counting (length cu) ws) s (cell.Turns ∷ h) cx hx → Part p sites (Exits p sites ws r s h) (turns_code o cx cu) (turns_sites p m r s h hx hu) (at r s (cell.Turns ∷ h))
  turns_part o ws s h cx cu hx hu u x = record {
    same = omega (arith, length-append hx (hu ++ ends), length-append hu ends, length-append cx (cu ++ tail), length-append cu tail, u.same, x.same);
    keeps = λ pc has out.
        let p1 = pc + 1 + length cx in
        let has1 = subst (λ n. SitesAt p sites (pc + 1 + n) (hu ++ ends)) x.same (sites_back p sites (pc + 1) hx (hu ++ ends) has.1) in
        let p2 = p1 + length cu in
        let has2 = subst (λ n. SitesAt p sites (p1 + n) ends) u.same (sites_back p sites p1 hu ends has1) in
        let e : p2 + 1 + 1 ≡ pc + length (turns_code o cx cu) = omega (arith, length-append cx (cu ++ tail), length-append cu tail) in
        let out' = exits_at p sites (p2 + 1 + 1) _ e out in
        let ru = u.keeps p1 (sites_front p sites p1 hu ends has1) (λ live. has2.0) in
        let exits : Exits p sites (counting (length cu) ws) r s (cell.Turns ∷ h) p1 = record {
          here = ru.0 refl;
          cycle = same_site p sites (p1 + 0) p1 (omega arith) (ru.0 refl);
          exit = same_site p sites (p1 + (length cu + 1)) (p2 + 1) (omega arith) has2.1.0;
          left = out'.left;
          cells = gone_more cell.Turns out'.cells;
          ret = same_site p sites (p1 + (length cu + 2 + ws.ret)) (p2 + 1 + 1 + ws.ret) (omega arith) out'.ret;
        } in
        let rx = x.keeps (pc + 1) (sites_front p sites (pc + 1) hx (hu ++ ends) has.1) exits in
        let far = same_site p sites (pc + 1 + (length cx + length cu + 1)) (p2 + 1) (omega arith) has2.1.0 in
        let again = same_site p sites (p2 - (1 + length cx + length cu)) pc (omega arith) has.0 in (
          λ live. has.0,
          (
            λ live. fork_leads p sites (at r s h) (cell.Turns ∷ []) (cell.Turns ∷ []) (cell.Turns ∷ []) (length cx + length cu + 1) pc refl has.0 rx.0 (λ live. far),
            lines_on p sites (pc + 1) cx (cu ++ tail) rx.1 (lines_on p sites p1 cu tail ru.1 (
              goes_back p sites o (1 + length cx + length cu) turning p2 has2.0 (λ live. again),
              (λ live. (cell.Turns ∷ [], refl, on_leads p sites (at r s h) (cell.Turns ∷ []) [] (p2 + 1) refl has2.1.0 (λ live. out'.here)), tt),
            )),
          ),
        );
  }
    where
      turning : Site
      turning = at r s (cell.Turns ∷ h)

      ends : List Site
      ends = turning ∷ turning ∷ []

      tail : List Line
      tail = line o (i.GoBack (1 + length cx + length cu)) ∷ line o (i.Unwind 1) ∷ []
