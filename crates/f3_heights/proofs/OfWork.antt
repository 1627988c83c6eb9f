-- The heights of the code of work on an object.
use Rattle.std.proofs.Common.{◌≡◌, ℕ, suc, ◌+◌, ◌-◌, Bool, true, false, List, [], ◌∷◌, ◌++◌, length, Option, subst, arith, length-append, if◌then◌else◌}
use Rattle.std.specs.Prelude.{nat_lt}
use Rattle.f3_places.specs.declared.source.Place.{Place}
use Rattle.f3_code.specs.Work as w
use Rattle.f3_code.specs.declared.instruction.Instruction.TheVariants as i
use Rattle.f3_code.specs.State.{Line, line, line_with}
use Rattle.f3_code.specs.Code.{work_code}
use Rattle.f3_heights.specs.Program.{work_heights}
use Rattle.f3_heights.proofs.Parts.{HeightsAt, heights_front, heights_back, lines_on, same_height, Part, Onto, nothing, seq, before, plain, first, last, forked}

module _ (height : ℕ → ℕ) (m : ℕ) (o : Option Place) where
  routine_part : (b : Bool) (t h : ℕ) →
      Part height (Onto height (suc h)) (if b then line o (i.Routine t) ∷ [] else []) (if b then suc h ∷ [] else []) (suc h)
  routine_part true t h = last height (plain height (line o (i.Routine t)) 1 1 h (λ pc x. x))
  routine_part false t h = nothing height (suc h)

  -- element by element: the code of a turn leads back to its first line
  walk_part : (cx : List Line) (hx : List ℕ) (h : ℕ) → Part height (Onto height (suc (suc (suc h)))) cx hx (suc (suc (suc h))) →
      Part height (Onto height (suc h)) (line o (i.WalkNext (length cx + 2)) ∷ (cx ++ (line o i.Drop ∷ line o (i.GoBack (length cx + 2)) ∷ [])))
      (suc (suc h) ∷ (hx ++ (suc (suc (suc h)) ∷ suc (suc h) ∷ []))) (suc (suc h))
  walk_part cx hx h p = record {
    same = omega (arith, length-append hx ends, length-append cx tail, p.same);
    keeps = λ pc has out.
        let has_tail = subst (λ n. HeightsAt height (pc + 1 + n) ends) p.same (heights_back height (pc + 1) hx ends has.1) in
        let rx = p.keeps (pc + 1) (heights_front height (pc + 1) hx ends has.1) has_tail.0 in
        let over = same_height height (pc + 1 + (length cx + 2)) (pc + length (line o (i.WalkNext (length cx + 2)) ∷ (cx ++ tail)))
        (omega (arith, length-append cx tail)) out in
        let back : height (pc + 1 + length cx + 1 - (length cx + 2)) ≡ suc (suc h) =
        same_height height (pc + 1 + length cx + 1 - (length cx + 2)) pc (omega arith) has.0 in (
          has.0,
          (
            record { rest = h; before = omega (arith, has.0); next = omega (arith, rx.0); far = (omega (arith, over), tt) },
            lines_on height (pc + 1) cx tail rx.1 (
              record { rest = suc (suc h); before = omega (arith, has_tail.0); next = omega (arith, has_tail.1.0); far = tt },
              (omega (arith, back, has_tail.1.0), tt),
            ),
          ),
        );
  }
    where
      ends : List ℕ
      ends = suc (suc (suc h)) ∷ suc (suc h) ∷ []

      tail : List Line
      tail = line o i.Drop ∷ line o (i.GoBack (length cx + 2)) ∷ []

  pub work_part : (x : w.Work) (h : ℕ) → Part height (Onto height (suc h)) (work_code m o x) (work_heights m h x) (suc h)
  work_part w.Rest h = nothing height (suc h)
  work_part (w.And x y) h = seq height (work_part x h) (work_part y h)
  work_part (w.Lending x) h = first height (plain height (line o i.Lend) 1 1 h (λ pc x. x))
      (seq height (work_part x h) (last height (plain height (line o i.Unlend) 0 0 (suc h) (λ pc x. x))))
  work_part (w.Of_rank rank x y) h =
      let cx = work_code m o x in let cy = work_code m o y in
      forked height (line o (i.SkipUnlessRank rank (length cx + 1))) (line o (i.GoOn (length cy)))
      (λ pc is next far. record { rest = h; before = omega (arith, is); next = omega (arith, next); far = (omega (arith, far), tt) })
      (λ e is out. is) (λ e is next out. record { rest = suc h; before = omega (arith, is); next = tt; far = (omega (arith, out), tt) })
      (work_part x h) (work_part y h)
  work_part (w.Final f) h = first height (plain height (line o i.PassObject) 1 2 h (λ pc x. x))
      (first height (plain height (line o (i.Call f 1)) 1 1 (suc h) (λ pc x. x)) (last height (plain height (line o i.Drop) 1 0 (suc h) (λ pc x. x))))
  work_part (w.Routine t) h = routine_part (nat_lt t m) t h
  work_part (w.Of_component k x) h = first height (plain height (line o (i.WorkComponent k)) 1 2 h (λ pc x. x))
      (seq height (work_part x (suc h)) (last height (plain height (line o i.Drop) 1 0 (suc h) (λ pc x. x))))
  work_part (w.Of_elements x) h = first height (plain height (line o i.WalkBegin) 1 2 h (λ pc x. x))
      (walk_part (work_code m o x) (work_heights m (suc (suc h)) x) h (work_part x (suc (suc h))))
  work_part (w.If_allocated x) h = before height (line o (i.SkipUnlessAllocated (length (work_code m o x))))
      (λ pc is next out. record { rest = h; before = omega (arith, is); next = omega (arith, next); far = (omega (arith, out), tt) }) (work_part x h)
  work_part (w.Of_contents x) h = first height (plain height (line o i.OpenContents) 1 2 h (λ pc x. x))
      (seq height (work_part x (suc h)) (first height (plain height (line o i.Drop) 1 0 (suc h) (λ pc x. x))
      (last height (plain height (line o i.Free) 1 1 h (λ pc x. x)))))
  work_part w.Clear h = last height (plain height (line o i.Clear) 1 1 h (λ pc x. x))
  work_part (w.Set v) h = last height (plain height (line_with o v i.Set) 1 1 h (λ pc x. x))
  work_part w.Discard h = last height (plain height (line o i.Discard) 0 0 (suc h) (λ pc x. x))
