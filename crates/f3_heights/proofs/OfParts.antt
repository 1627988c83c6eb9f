-- The heights of the code of parts of statements.
use Rattle.std.proofs.Common.{◌≡◌, ℕ, suc, ◌+◌, List, [], ◌∷◌, ◌++◌, length, Option, Some, None, subst, arith, length-append}
use Rattle.f3_places.specs.declared.source.Place.{Place}
use Rattle.f3_program.specs.declared.expression.Designator.{Designator}
use Rattle.f3_program.specs.declared.statement.Bounds.{Bounds}
use Rattle.f3_program.specs.declared.statement.Item.{Item}
use Rattle.f3_program.specs.declared.statement.Item.TheVariants as item
use Rattle.f3_program.specs.declared.statement.Range.{Range}
use Rattle.f3_code.specs.Work as w
use Rattle.f3_code.specs.Core as c
use Rattle.f3_code.specs.declared.instruction.Instruction.TheVariants as i
use Rattle.f3_code.specs.State.{Line, line, line_with}
use Rattle.f3_code.specs.Code.{work_code, transfer_code, dimensions_code, allocate_code, free_code, deallocate_code, status_code, bytes_code, items_code, ranges_code, selectors_code, discards_code}
use Rattle.f3_heights.specs.Program.{work_heights, transfer_heights, dimensions_heights, allocate_heights, free_heights, deallocate_heights, status_heights, bytes_heights, items_heights, ranges_heights, selectors_heights, discards_heights}
use Rattle.f3_heights.specs.Effect.{fork}
use Rattle.f3_heights.specs.Heights.{Leads, IsAt}
use Rattle.f3_heights.proofs.Parts.{HeightsAt, heights_front, heights_back, lines_on, same_height, Part, Onto, wider, nothing, seq, before, falls, plain, first, last, onto_same, forked}
use Rattle.f3_heights.proofs.OfValues.{value_part, locate_part}
use Rattle.f3_heights.proofs.OfWork.{work_part}

module _ (height : ℕ → ℕ) (m : ℕ) (o : Option Place) where
  -- three ways, by the state of a variable
  state_part : (cx cy cz : List Line) (hx hy hz : List ℕ) (h : ℕ) → Part height (Onto height h) cx hx (suc (suc h)) →
      Part height (Onto height h) cy hy (suc (suc h)) → Part height (Onto height h) cz hz (suc (suc h)) →
      Part height (Onto height h) (line o (i.ByState (length cx + 1) (length cx + 1 + (length cy + 1)))
      ∷ (cx ++ (line o (i.GoOn (length cy + 1 + length cz)) ∷ (cy ++ (line o (i.GoOn (length cz)) ∷ cz)))))
      (suc (suc h) ∷ (hx ++ (h ∷ (hy ++ (h ∷ hz))))) (suc (suc h))
  state_part cx cy cz hx hy hz h p q r = record {
    same = omega (
      arith,
      length-append hx (h ∷ (hy ++ (h ∷ hz))),
      length-append hy (h ∷ hz),
      length-append cx onto_y,
      length-append cy onto_z,
      p.same,
      q.same,
      r.same,
    );
    keeps = λ pc has out.
        let p1 = pc + 1 + length cx in
        let has1 = subst (λ n. HeightsAt height (pc + 1 + n) (h ∷ (hy ++ (h ∷ hz)))) p.same (heights_back height (pc + 1) hx (h ∷ (hy ++ (h ∷ hz))) has.1) in
        let p2 = p1 + 1 + length cy in
        let has2 = subst (λ n. HeightsAt height (p1 + 1 + n) (h ∷ hz)) q.same (heights_back height (p1 + 1) hy (h ∷ hz) has1.1) in
        let e : p2 + 1 + length cz ≡ pc + length (line o (i.ByState (length cx + 1) (length cx + 1 + (length cy + 1))) ∷ (cx ++ onto_y)) =
        omega (arith, length-append cx onto_y, length-append cy onto_z) in
        let end = same_height height (p2 + 1 + length cz) _ e out in
        let rz = r.keeps (p2 + 1) has2.1 end in
        let ry = q.keeps (p1 + 1) (heights_front height (p1 + 1) hy (h ∷ hz) has1.1) has2.0 in
        let rx = p.keeps (pc + 1) (heights_front height (pc + 1) hx (h ∷ (hy ++ (h ∷ hz))) has.1) has1.0 in
        let to_y = same_height height (pc + 1 + (length cx + 1)) (p1 + 1) (omega arith) ry.0 in
        let to_z = same_height height (pc + 1 + (length cx + 1 + (length cy + 1))) (p2 + 1) (omega arith) rz.0 in
        let to_end = same_height height (p1 + 1 + (length cy + 1 + length cz)) (p2 + 1 + length cz) (omega arith) end in (
          has.0,
          (
            record { rest = h; before = omega (arith, has.0); next = omega (arith, rx.0); far = (omega (arith, to_y), (omega (arith, to_z), tt)) },
            lines_on height (pc + 1) cx onto_y rx.1 (
              record { rest = h; before = omega (arith, has1.0); next = tt; far = (omega (arith, to_end), tt) },
              lines_on height (p1 + 1) cy onto_z ry.1 (record { rest = h; before = omega (arith, has2.0); next = tt; far = (omega (arith, end), tt) }, rz.1),
            ),
          ),
        );
  }
    where
      onto_z : List Line
      onto_z = line o (i.GoOn (length cz)) ∷ cz

      onto_y : List Line
      onto_y = line o (i.GoOn (length cy + 1 + length cz)) ∷ (cy ++ onto_z)

  pub transfer_part : (x : c.Transfer) (h : ℕ) → Part height (Onto height h) (transfer_code m o x) (transfer_heights m h x) (suc (suc h))
  transfer_part (c.Conforming x) h = first height (plain height (line o i.TestShape) 2 2 h (λ pc x. x)) (transfer_part x h)
  transfer_part (c.By_state x y z) h = state_part (transfer_code m o x) (transfer_code m o y) (transfer_code m o z)
      (transfer_heights m h x) (transfer_heights m h y) (transfer_heights m h z) h (transfer_part x h) (transfer_part y h) (transfer_part z h)
  transfer_part (c.Of_rank rank x) h = first height (plain height (line o (i.TestRank rank)) 2 2 h (λ pc x. x)) (transfer_part x h)
  transfer_part (c.Behind x y) h = seq height (work_part height m o x (suc h)) (transfer_part y h)
  transfer_part (c.New rank element x) h = first height (plain height (line_with o element (i.New rank)) 2 2 h (λ pc x. x)) (transfer_part x h)
  transfer_part (c.In_contents x) h = first height (plain height (line o i.Contents) 1 1 (suc h) (λ pc x. x)) (transfer_part x h)
  transfer_part (c.Take of) h = last height (plain height (line o (i.Take of)) 2 0 h (λ pc x. x))
  transfer_part (c.Fill of) h = last height (plain height (line o (i.Fill of)) 2 0 h (λ pc x. x))

  dimensions_part : (bs : List Bounds) (h : ℕ) → Part height (Onto height (length bs + h)) (dimensions_code o bs) (dimensions_heights h bs) h
  dimensions_part [] h = onto_same height h (0 + h) (omega arith) (nothing height h)
  dimensions_part (b ∷ bs) h = onto_same height (length bs + suc h) (suc (length bs) + h) (omega arith)
      (seq height (value_part height b.lower o h) (seq height (value_part height b.upper o (suc h))
      (first height (plain height (line o i.Dimension) 2 1 h (λ pc x. x)) (dimensions_part bs (suc h)))))

  pub allocate_part : (xs : List c.Allocation) (h : ℕ) → Part height (Onto height (suc h)) (allocate_code o xs) (allocate_heights h xs) h
  allocate_part [] h = last height (plain height (line o i.NoError) 0 1 h (λ pc x. x))
  allocate_part (x ∷ xs) h = seq height (locate_part height x.object o h) (seq height (dimensions_part x.bounds (suc h))
      (first height (falls height (line_with o x.element (i.Allocate x.rank (length x.bounds))) (length x.bounds + 1) 1 h (λ pc x. x) (omega arith) (omega arith))
      (before height (line o (i.SkipIfFailed (length (allocate_code o xs))))
      (λ pc is next out. record { rest = h; before = omega (arith, is); next = omega (arith, next); far = (omega (arith, out), tt) }) (allocate_part xs h))))

  free_part : (x : w.Work) (h : ℕ) → Part height (Onto height (suc h)) (free_code m o x) (free_heights m h x) (suc h)
  free_part x h =
      let cx = work_code m o x in
      before height (line o (i.TestFree (length cx + 2))) (λ pc is next out.
      let e : pc + 1 + (length cx + 2) ≡ pc + 1 + length (cx ++ (line o i.Drop ∷ line o i.NoError ∷ [])) =
      omega (arith, length-append cx (line o i.Drop ∷ line o i.NoError ∷ [])) in
      let end = same_height height (pc + 1 + (length cx + 2)) _ e out in
      record { rest = h; before = omega (arith, is); next = omega (arith, next); far = (omega (arith, end), tt) })
      (seq height (work_part height m o x h) (first height (plain height (line o i.Drop) 1 0 h (λ pc x. x))
      (last height (plain height (line o i.NoError) 0 1 h (λ pc x. x)))))

  pub deallocate_part : (xs : List c.Deallocation) (h : ℕ) → Part height (Onto height (suc h)) (deallocate_code m o xs) (deallocate_heights m h xs) h
  deallocate_part [] h = last height (plain height (line o i.NoError) 0 1 h (λ pc x. x))
  deallocate_part (x ∷ xs) h = seq height (locate_part height x.object o h) (seq height (free_part x.free h)
      (before height (line o (i.SkipIfFailed (length (deallocate_code m o xs))))
      (λ pc is next out. record { rest = h; before = omega (arith, is); next = omega (arith, next); far = (omega (arith, out), tt) }) (deallocate_part xs h)))

  pub status_part : (x : Option Designator) (h : ℕ) → Part height (Onto height h) (status_code o x) (status_heights h x) (suc h)
  status_part None h = last height (plain height (line o i.Check) 1 0 h (λ pc x. x))
  status_part (Some d) h = seq height (locate_part height d o (suc h)) (last height (plain height (line o i.StoreStatus) 2 0 h (λ pc x. x)))

  bytes_part : (bs : List ℕ) (h : ℕ) → Part height (Onto height h) (bytes_code o bs) (bytes_heights h bs) h
  bytes_part [] h = nothing height h
  bytes_part (b ∷ bs) h = first height (plain height (line o (i.PrintByte b)) 0 0 h (λ pc x. x)) (bytes_part bs h)

  pub items_part : (xs : List Item) (h : ℕ) → Part height (Onto height h) (items_code o xs) (items_heights h xs) h
  items_part [] h = last height (plain height (line o (i.PrintByte 10)) 0 0 h (λ pc x. x))
  items_part (item.Value e ∷ xs) h = seq height (value_part height e o h)
      (first height (plain height (line o i.PrintValue) 1 0 h (λ pc x. x)) (items_part xs h))
  items_part (item.Text t ∷ xs) h = seq height (bytes_part (32 ∷ t.items) h) (items_part xs h)

  -- to the line behind, or to the one behind that
  pub ranges_part : (rs : List Range) (h : ℕ) →
      Part height (λ e. (height e ≡ h) × (height (e + 1) ≡ h)) (ranges_code o rs) (ranges_heights h rs) h
  ranges_part [] h = wider height (λ e out. out.0) (nothing height h)
  ranges_part (r ∷ rs) h = first height (plain height (line o (i.Meets r)) 0 1 h (λ pc x. x))
      (before height (line o (i.SkipIfTrue (length (ranges_code o rs) + 1))) (λ pc is next out.
      let far = same_height height (pc + 1 + (length (ranges_code o rs) + 1)) (pc + 1 + length (ranges_code o rs) + 1) (omega arith) out.1 in
      record { rest = h; before = omega (arith, is); next = omega (arith, next); far = (omega (arith, far), tt) }) (ranges_part rs h))

  pub selectors_part : (xs : List c.Selector) (h : ℕ) → Part height (Onto height (length xs + h)) (selectors_code o xs) (selectors_heights h xs) h
  selectors_part [] h = onto_same height h (0 + h) (omega arith) (nothing height h)
  selectors_part (c.Bind d ∷ xs) h = onto_same height (length xs + suc h) (suc (length xs) + h) (omega arith)
      (seq height (locate_part height d o h) (first height (plain height (line o i.SelectVariable) 1 1 h (λ pc x. x)) (selectors_part xs (suc h))))
  selectors_part (c.Hold of e x ∷ xs) h = onto_same height (length xs + suc h) (suc (length xs) + h) (omega arith)
      (seq height (value_part height e o h) (first height (plain height (line o (i.SelectValue of)) 1 1 h (λ pc x. x)) (selectors_part xs (suc h))))

  -- work on the next of some objects, or on behind it where there is none
  pub one_part : {Out : ℕ → Type 0} {b : List Line} {hb : List ℕ} (l : Line) (cx : List Line) (hx : List ℕ) (h : ℕ) →
      ((pc : ℕ) → Leads height pc (fork 1 2 (length cx + 1) 1) → IsAt height pc l.act) → Part height (Onto height (suc (suc h))) cx hx (suc (suc h)) →
      Part height Out b hb (suc h) → Part height Out (l ∷ (cx ++ (line o i.Drop ∷ b))) (suc h ∷ (hx ++ (suc (suc h) ∷ hb))) (suc h)
  one_part l cx hx h f p q = forked height l (line o i.Drop)
      (λ pc is next far. f pc (record { rest = h; before = omega (arith, is); next = omega (arith, next); far = (omega (arith, far), tt) }))
      (λ e is out. is) (λ e is next out. record { rest = suc h; before = omega (arith, is); next = omega (arith, next); far = tt }) p q

  pub discards_part : (xs : List c.Selector) (h : ℕ) → Part height (Onto height (suc h)) (discards_code m o xs) (discards_heights m h xs) (suc h)
  discards_part [] h = nothing height (suc h)
  discards_part (c.Bind d ∷ xs) h = one_part (line o (i.NextObject 1)) [] [] h (λ pc x. x) (nothing height (suc (suc h))) (discards_part xs h)
  discards_part (c.Hold of e x ∷ xs) h = one_part (line o (i.NextObject (length (work_code m o x) + 1))) (work_code m o x) (work_heights m (suc h) x) h
      (λ pc x. x) (work_part height m o x (suc h)) (discards_part xs h)
