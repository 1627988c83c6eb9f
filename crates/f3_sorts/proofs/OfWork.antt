-- The sorts of the code of work on an object.
use Rattle.std.proofs.Common.{◌≡◌, ◌∙◌, sym, refl, ℕ, ◌+◌, ◌-◌, Bool, true, false, List, [], ◌∷◌, ◌++◌, length, Option, subst, arith, length-append, if◌then◌else◌}
use Rattle.std.specs.Prelude.{nat_lt}
use Rattle.f3_places.specs.declared.source.Place.{Place}
use Rattle.f3_code.specs.Work as w
use Rattle.f3_code.specs.declared.instruction.Instruction.TheVariants as i
use Rattle.f3_code.specs.State.{Line, line, line_with}
use Rattle.f3_code.specs.Code.{work_code}
use Rattle.f3_sorts.specs.Effect.{Sort}
use Rattle.f3_sorts.specs.Effect as sort
use Rattle.f3_sorts.specs.Program.{work_sorts}
use Rattle.f3_sorts.proofs.Parts.{SortsAt, sorts_front, sorts_back, lines_on, same_sorts, Part, Onto, nothing, seq, before, plain, drops, first, last, forked}

module _ (sorts : ℕ → List Sort) (m : ℕ) (o : Option Place) where
  routine_part : (b : Bool) (t : ℕ) (h : List Sort) →
      Part sorts (Onto sorts (sort.Object ∷ h)) (if b then line o (i.Routine t) ∷ [] else []) (if b then (sort.Object ∷ h) ∷ [] else []) (sort.Object ∷ h)
  routine_part true t h = last sorts (plain sorts (line o (i.Routine t)) h refl (λ pc x. x))
  routine_part false t h = nothing sorts (sort.Object ∷ h)

  -- element by element: the code of a turn leads back to its first line
  walk_part : (cx : List Line) (hx : List (List Sort)) (h : List Sort) → Part sorts (Onto sorts (sort.Object ∷ sort.Elements ∷ sort.Object ∷ h)) cx hx (sort.Object ∷ sort.Elements ∷ sort.Object ∷ h) →
      Part sorts (Onto sorts (sort.Object ∷ h)) (line o (i.WalkNext (length cx + 2)) ∷ (cx ++ (line o i.Drop ∷ line o (i.GoBack (length cx + 2)) ∷ [])))
      ((sort.Elements ∷ sort.Object ∷ h) ∷ (hx ++ ((sort.Object ∷ sort.Elements ∷ sort.Object ∷ h) ∷ (sort.Elements ∷ sort.Object ∷ h) ∷ []))) (sort.Elements ∷ sort.Object ∷ h)
  walk_part cx hx h p = record {
    same = omega (arith, length-append hx ends, length-append cx tail, p.same);
    keeps = λ pc has out.
        let has_tail = subst (λ n. SortsAt sorts (pc + 1 + n) ends) p.same (sorts_back sorts (pc + 1) hx ends has.1) in
        let rx = p.keeps (pc + 1) (sorts_front sorts (pc + 1) hx ends has.1) has_tail.0 in
        let over = same_sorts sorts (pc + 1 + (length cx + 2)) (pc + length (line o (i.WalkNext (length cx + 2)) ∷ (cx ++ tail)))
        (omega (arith, length-append cx tail)) out in
        let back : sorts (pc + 1 + length cx + 1 - (length cx + 2)) ≡ sort.Elements ∷ sort.Object ∷ h =
        same_sorts sorts (pc + 1 + length cx + 1 - (length cx + 2)) pc (omega arith) has.0 in (
          has.0,
          (
            record { rest = h; before = has.0; next = rx.0; far = (over, tt) },
            lines_on sorts (pc + 1) cx tail rx.1 (
              (sort.Object, record { rest = sort.Elements ∷ sort.Object ∷ h; before = has_tail.0; next = has_tail.1.0; far = tt }),
              (back ∙ sym has_tail.1.0, tt),
            ),
          ),
        );
  }
    where
      ends : List (List Sort)
      ends = (sort.Object ∷ sort.Elements ∷ sort.Object ∷ h) ∷ (sort.Elements ∷ sort.Object ∷ h) ∷ []

      tail : List Line
      tail = line o i.Drop ∷ line o (i.GoBack (length cx + 2)) ∷ []

  pub work_part : (x : w.Work) (h : List Sort) → Part sorts (Onto sorts (sort.Object ∷ h)) (work_code m o x) (work_sorts m h x) (sort.Object ∷ h)
  work_part w.Rest h = nothing sorts (sort.Object ∷ h)
  work_part (w.And x y) h = seq sorts (work_part x h) (work_part y h)
  work_part (w.Lending x) h = first sorts (plain sorts (line o i.Lend) h refl (λ pc x. x))
      (seq sorts (work_part x h) (last sorts (plain sorts (line o i.Unlend) (sort.Object ∷ h) refl (λ pc x. x))))
  work_part (w.Of_rank rank x y) h =
      let cx = work_code m o x in let cy = work_code m o y in
      forked sorts (line o (i.SkipUnlessRank rank (length cx + 1))) (line o (i.GoOn (length cy)))
      (λ pc is next far. record { rest = h; before = is; next = next; far = (far, tt) })
      (λ e is out. is) (λ e is next out. record { rest = sort.Object ∷ h; before = is; next = tt; far = (out, tt) })
      (work_part x h) (work_part y h)
  work_part (w.Final f) h = first sorts (plain sorts (line o i.PassObject) h refl (λ pc x. x))
      (first sorts (plain sorts (line o (i.Call f 1)) (sort.Object ∷ h) refl (λ pc x. x)) (last sorts (drops sorts (line o i.Drop) sort.Datum (sort.Object ∷ h) (λ pc x. x))))
  work_part (w.Routine t) h = routine_part (nat_lt t m) t h
  work_part (w.Of_component k x) h = first sorts (plain sorts (line o (i.WorkComponent k)) h refl (λ pc x. x))
      (seq sorts (work_part x (sort.Object ∷ h)) (last sorts (drops sorts (line o i.Drop) sort.Object (sort.Object ∷ h) (λ pc x. x))))
  work_part (w.Of_elements x) h = first sorts (plain sorts (line o i.WalkBegin) h refl (λ pc x. x))
      (walk_part (work_code m o x) (work_sorts m (sort.Elements ∷ sort.Object ∷ h) x) h (work_part x (sort.Elements ∷ sort.Object ∷ h)))
  work_part (w.If_allocated x) h = before sorts (line o (i.SkipUnlessAllocated (length (work_code m o x))))
      (λ pc is next out. record { rest = h; before = is; next = next; far = (out, tt) }) (work_part x h)
  work_part (w.Of_contents x) h = first sorts (plain sorts (line o i.OpenContents) h refl (λ pc x. x))
      (seq sorts (work_part x (sort.Object ∷ h)) (first sorts (drops sorts (line o i.Drop) sort.Object (sort.Object ∷ h) (λ pc x. x))
      (last sorts (plain sorts (line o i.Free) h refl (λ pc x. x)))))
  work_part w.Clear h = last sorts (plain sorts (line o i.Clear) h refl (λ pc x. x))
  work_part (w.Set v) h = last sorts (plain sorts (line_with o v i.Set) h refl (λ pc x. x))
  work_part w.Discard h = last sorts (plain sorts (line o i.Discard) (sort.Object ∷ h) refl (λ pc x. x))
