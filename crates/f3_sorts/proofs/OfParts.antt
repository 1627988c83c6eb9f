-- The sorts of the code of parts of statements.
use Rattle.std.proofs.Common.{refl, append_assoc, ◌≡◌, ℕ, ◌+◌, List, [], ◌∷◌, ◌++◌, length, Option, Some, None, subst, arith, length-append}
use Rattle.f3_places.specs.declared.source.Place.{Place}
use Rattle.f3_program.specs.declared.expression.Designator.{Designator}
use Rattle.f3_program.specs.declared.statement.Bounds.{Bounds}
use Rattle.f3_program.specs.declared.statement.Item.{Item}
use Rattle.f3_program.specs.declared.statement.Item.TheVariants as item
use Rattle.f3_program.specs.declared.statement.Range.{Range}
use Rattle.f3_code.specs.Work as w
use Rattle.f3_code.specs.Core as c
use Rattle.f3_code.specs.declared.instruction.Instruction.TheVariants as i
use Rattle.f3_code.specs.State.{Line, line, line_with}
use Rattle.f3_code.specs.Code.{work_code, transfer_code, dimensions_code, allocate_code, free_code, deallocate_code, status_code, bytes_code, items_code, ranges_code, selectors_code, discards_code}
use Rattle.f3_sorts.specs.Program.{work_sorts, transfer_sorts, dimensions_sorts, allocate_sorts, free_sorts, deallocate_sorts, status_sorts, bytes_sorts, items_sorts, ranges_sorts, selectors_sorts, discards_sorts}
use Rattle.f3_sorts.specs.Effect.{Sort, times, fork}
use Rattle.f3_sorts.specs.Effect as sort
use Rattle.f3_sorts.specs.Sorts.{Leads, IsAt}
use Rattle.f3_sorts.proofs.Parts.{SortsAt, sorts_front, sorts_back, lines_on, same_sorts, Part, Onto, wider, nothing, seq, before, plain, drops, from_same, first, last, onto_same, forked}
use Rattle.f3_sorts.proofs.OfValues.{times_on, value_part, locate_part}
use Rattle.f3_sorts.proofs.OfWork.{work_part}

module _ (sorts : ℕ → List Sort) (m : ℕ) (o : Option Place) where
  -- three ways, by the state of a variable
  state_part : (cx cy cz : List Line) (hx hy hz : List (List Sort)) (h : List Sort) → Part sorts (Onto sorts h) cx hx (sort.Object ∷ sort.Datum ∷ h) →
      Part sorts (Onto sorts h) cy hy (sort.Object ∷ sort.Datum ∷ h) → Part sorts (Onto sorts h) cz hz (sort.Object ∷ sort.Datum ∷ h) →
      Part sorts (Onto sorts h) (line o (i.ByState (length cx + 1) (length cx + 1 + (length cy + 1)))
      ∷ (cx ++ (line o (i.GoOn (length cy + 1 + length cz)) ∷ (cy ++ (line o (i.GoOn (length cz)) ∷ cz)))))
      ((sort.Object ∷ sort.Datum ∷ h) ∷ (hx ++ (h ∷ (hy ++ (h ∷ hz))))) (sort.Object ∷ sort.Datum ∷ h)
  state_part cx cy cz hx hy hz h p q r = record {
    same = omega (
      arith,
      length-append hx (h ∷ (hy ++ (h ∷ hz))),
      length-append hy (h ∷ hz),
      length-append cx onto_y,
      length-append cy onto_z,
      p.same,
      q.same,
      r.same,
    );
    keeps = λ pc has out.
        let p1 = pc + 1 + length cx in
        let has1 = subst (λ n. SortsAt sorts (pc + 1 + n) (h ∷ (hy ++ (h ∷ hz)))) p.same (sorts_back sorts (pc + 1) hx (h ∷ (hy ++ (h ∷ hz))) has.1) in
        let p2 = p1 + 1 + length cy in
        let has2 = subst (λ n. SortsAt sorts (p1 + 1 + n) (h ∷ hz)) q.same (sorts_back sorts (p1 + 1) hy (h ∷ hz) has1.1) in
        let e : p2 + 1 + length cz ≡ pc + length (line o (i.ByState (length cx + 1) (length cx + 1 + (length cy + 1))) ∷ (cx ++ onto_y)) =
        omega (arith, length-append cx onto_y, length-append cy onto_z) in
        let end = same_sorts sorts (p2 + 1 + length cz) _ e out in
        let rz = r.keeps (p2 + 1) has2.1 end in
        let ry = q.keeps (p1 + 1) (sorts_front sorts (p1 + 1) hy (h ∷ hz) has1.1) has2.0 in
        let rx = p.keeps (pc + 1) (sorts_front sorts (pc + 1) hx (h ∷ (hy ++ (h ∷ hz))) has.1) has1.0 in
        let to_y = same_sorts sorts (pc + 1 + (length cx + 1)) (p1 + 1) (omega arith) ry.0 in
        let to_z = same_sorts sorts (pc + 1 + (length cx + 1 + (length cy + 1))) (p2 + 1) (omega arith) rz.0 in
        let to_end = same_sorts sorts (p1 + 1 + (length cy + 1 + length cz)) (p2 + 1 + length cz) (omega arith) end in (
          has.0,
          (
            record { rest = h; before = has.0; next = rx.0; far = (to_y, (to_z, tt)) },
            lines_on sorts (pc + 1) cx onto_y rx.1 (
              record { rest = h; before = has1.0; next = tt; far = (to_end, tt) },
              lines_on sorts (p1 + 1) cy onto_z ry.1 (record { rest = h; before = has2.0; next = tt; far = (end, tt) }, rz.1),
            ),
          ),
        );
  }
    where
      onto_z : List Line
      onto_z = line o (i.GoOn (length cz)) ∷ cz

      onto_y : List Line
      onto_y = line o (i.GoOn (length cy + 1 + length cz)) ∷ (cy ++ onto_z)

  pub transfer_part : (x : c.Transfer) (h : List Sort) → Part sorts (Onto sorts h) (transfer_code m o x) (transfer_sorts m h x) (sort.Object ∷ sort.Datum ∷ h)
  transfer_part (c.Conforming x) h = first sorts (plain sorts (line o i.TestShape) h refl (λ pc x. x)) (transfer_part x h)
  transfer_part (c.By_state x y z) h = state_part (transfer_code m o x) (transfer_code m o y) (transfer_code m o z)
      (transfer_sorts m h x) (transfer_sorts m h y) (transfer_sorts m h z) h (transfer_part x h) (transfer_part y h) (transfer_part z h)
  transfer_part (c.Of_rank rank x) h = first sorts (plain sorts (line o (i.TestRank rank)) h refl (λ pc x. x)) (transfer_part x h)
  transfer_part (c.Behind x y) h = seq sorts (work_part sorts m o x (sort.Datum ∷ h)) (transfer_part y h)
  transfer_part (c.New rank element x) h = first sorts (plain sorts (line_with o element (i.New rank)) h refl (λ pc x. x)) (transfer_part x h)
  transfer_part (c.In_contents x) h = first sorts (plain sorts (line o i.Contents) (sort.Datum ∷ h) refl (λ pc x. x)) (transfer_part x h)
  transfer_part (c.Take of) h = last sorts (plain sorts (line o (i.Take of)) h refl (λ pc x. x))
  transfer_part (c.Fill of) h = last sorts (plain sorts (line o (i.Fill of)) h refl (λ pc x. x))

  dimensions_part : (bs : List Bounds) (h : List Sort) → Part sorts (Onto sorts (times (length bs) sort.Extent ++ h)) (dimensions_code o bs) (dimensions_sorts h bs) h
  dimensions_part [] h = nothing sorts h
  dimensions_part (b ∷ bs) h = onto_same sorts _ _ (times_on (length bs) sort.Extent h)
      (seq sorts (value_part sorts b.lower o h) (seq sorts (value_part sorts b.upper o (sort.Datum ∷ h))
      (first sorts (plain sorts (line o i.Dimension) h refl (λ pc x. x)) (dimensions_part bs (sort.Extent ∷ h)))))

  pub allocate_part : (xs : List c.Allocation) (h : List Sort) → Part sorts (Onto sorts (sort.Status ∷ h)) (allocate_code o xs) (allocate_sorts h xs) h
  allocate_part [] h = last sorts (plain sorts (line o i.NoError) h refl (λ pc x. x))
  allocate_part (x ∷ xs) h = seq sorts (locate_part sorts x.object o h) (seq sorts (dimensions_part x.bounds (sort.Object ∷ h))
      (first sorts (from_same sorts _ _ (append_assoc (times (length x.bounds) sort.Extent) (sort.Object ∷ []) h)
      (plain sorts (line_with o x.element (i.Allocate x.rank (length x.bounds))) h refl (λ pc x. x)))
      (before sorts (line o (i.SkipIfFailed (length (allocate_code o xs))))
      (λ pc is next out. record { rest = h; before = is; next = next; far = (out, tt) }) (allocate_part xs h))))

  free_part : (x : w.Work) (h : List Sort) → Part sorts (Onto sorts (sort.Status ∷ h)) (free_code m o x) (free_sorts m h x) (sort.Object ∷ h)
  free_part x h =
      let cx = work_code m o x in
      before sorts (line o (i.TestFree (length cx + 2))) (λ pc is next out.
      let e : pc + 1 + (length cx + 2) ≡ pc + 1 + length (cx ++ (line o i.Drop ∷ line o i.NoError ∷ [])) =
      omega (arith, length-append cx (line o i.Drop ∷ line o i.NoError ∷ [])) in
      let end = same_sorts sorts (pc + 1 + (length cx + 2)) _ e out in
      record { rest = h; before = is; next = next; far = (end, tt) })
      (seq sorts (work_part sorts m o x h) (first sorts (drops sorts (line o i.Drop) sort.Object h (λ pc x. x))
      (last sorts (plain sorts (line o i.NoError) h refl (λ pc x. x)))))

  pub deallocate_part : (xs : List c.Deallocation) (h : List Sort) → Part sorts (Onto sorts (sort.Status ∷ h)) (deallocate_code m o xs) (deallocate_sorts m h xs) h
  deallocate_part [] h = last sorts (plain sorts (line o i.NoError) h refl (λ pc x. x))
  deallocate_part (x ∷ xs) h = seq sorts (locate_part sorts x.object o h) (seq sorts (free_part x.free h)
      (before sorts (line o (i.SkipIfFailed (length (deallocate_code m o xs))))
      (λ pc is next out. record { rest = h; before = is; next = next; far = (out, tt) }) (deallocate_part xs h)))

  pub status_part : (x : Option Designator) (h : List Sort) → Part sorts (Onto sorts h) (status_code o x) (status_sorts h x) (sort.Status ∷ h)
  status_part None h = last sorts (plain sorts (line o i.Check) h refl (λ pc x. x))
  status_part (Some d) h = seq sorts (locate_part sorts d o (sort.Status ∷ h)) (last sorts (plain sorts (line o i.StoreStatus) h refl (λ pc x. x)))

  bytes_part : (bs : List ℕ) (h : List Sort) → Part sorts (Onto sorts h) (bytes_code o bs) (bytes_sorts h bs) h
  bytes_part [] h = nothing sorts h
  bytes_part (b ∷ bs) h = first sorts (plain sorts (line o (i.PrintByte b)) h refl (λ pc x. x)) (bytes_part bs h)

  pub items_part : (xs : List Item) (h : List Sort) → Part sorts (Onto sorts h) (items_code o xs) (items_sorts h xs) h
  items_part [] h = last sorts (plain sorts (line o (i.PrintByte 10)) h refl (λ pc x. x))
  items_part (item.Value e ∷ xs) h = seq sorts (value_part sorts e o h)
      (first sorts (plain sorts (line o i.PrintValue) h refl (λ pc x. x)) (items_part xs h))
  items_part (item.Text t ∷ xs) h = seq sorts (bytes_part (32 ∷ t.items) h) (items_part xs h)

  -- to the line behind, or to the one behind that
  pub ranges_part : (rs : List Range) (h : List Sort) →
      Part sorts (λ e. (sorts e ≡ h) × (sorts (e + 1) ≡ h)) (ranges_code o rs) (ranges_sorts h rs) h
  ranges_part [] h = wider sorts (λ e out. out.0) (nothing sorts h)
  ranges_part (r ∷ rs) h = first sorts (plain sorts (line o (i.Meets r)) h refl (λ pc x. x))
      (before sorts (line o (i.SkipIfTrue (length (ranges_code o rs) + 1))) (λ pc is next out.
      let far = same_sorts sorts (pc + 1 + (length (ranges_code o rs) + 1)) (pc + 1 + length (ranges_code o rs) + 1) (omega arith) out.1 in
      record { rest = h; before = is; next = next; far = (far, tt) }) (ranges_part rs h))

  pub selectors_part : (xs : List c.Selector) (h : List Sort) → Part sorts (Onto sorts (times (length xs) sort.Selector ++ h)) (selectors_code o xs) (selectors_sorts h xs) h
  selectors_part [] h = nothing sorts h
  selectors_part (c.Bind d ∷ xs) h = onto_same sorts _ _ (times_on (length xs) sort.Selector h)
      (seq sorts (locate_part sorts d o h) (first sorts (plain sorts (line o i.SelectVariable) h refl (λ pc x. x)) (selectors_part xs (sort.Selector ∷ h))))
  selectors_part (c.Hold of e x ∷ xs) h = onto_same sorts _ _ (times_on (length xs) sort.Selector h)
      (seq sorts (value_part sorts e o h) (first sorts (plain sorts (line o (i.SelectValue of)) h refl (λ pc x. x)) (selectors_part xs (sort.Selector ∷ h))))

  -- work on the next of some objects, or on behind it where there is none
  pub one_part : {Out : ℕ → Type 0} {b : List Line} {hb : List (List Sort)} (l : Line) (cx : List Line) (hx : List (List Sort)) (h : List Sort) →
      ((pc : ℕ) → Leads sorts pc (fork (sort.Objects ∷ []) (sort.Object ∷ sort.Objects ∷ []) (length cx + 1) (sort.Objects ∷ [])) → IsAt sorts pc l.act) → Part sorts (Onto sorts (sort.Object ∷ sort.Objects ∷ h)) cx hx (sort.Object ∷ sort.Objects ∷ h) →
      Part sorts Out b hb (sort.Objects ∷ h) → Part sorts Out (l ∷ (cx ++ (line o i.Drop ∷ b))) ((sort.Objects ∷ h) ∷ (hx ++ ((sort.Object ∷ sort.Objects ∷ h) ∷ hb))) (sort.Objects ∷ h)
  one_part l cx hx h f p q = forked sorts l (line o i.Drop)
      (λ pc is next far. f pc (record { rest = h; before = is; next = next; far = (far, tt) }))
      (λ e is out. is) (λ e is next out. (sort.Object, record { rest = sort.Objects ∷ h; before = is; next = next; far = tt })) p q

  pub discards_part : (xs : List c.Selector) (h : List Sort) → Part sorts (Onto sorts (sort.Objects ∷ h)) (discards_code m o xs) (discards_sorts m h xs) (sort.Objects ∷ h)
  discards_part [] h = nothing sorts (sort.Objects ∷ h)
  discards_part (c.Bind d ∷ xs) h = one_part (line o (i.NextObject 1)) [] [] h (λ pc x. x) (nothing sorts (sort.Object ∷ sort.Objects ∷ h)) (discards_part xs h)
  discards_part (c.Hold of e x ∷ xs) h = one_part (line o (i.NextObject (length (work_code m o x) + 1))) (work_code m o x) (work_sorts m (sort.Objects ∷ h) x) h
      (λ pc x. x) (work_part sorts m o x (sort.Objects ∷ h)) (discards_part xs h)
