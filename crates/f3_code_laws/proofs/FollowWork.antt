-- The code of the work on objects follows it.
use Rattle.std.proofs.Common.{◌≡◌, ℕ, ◌+◌, ◌-◌, Bool, true, false, List, [], ◌∷◌, ◌++◌, length, Option, Some, refl, sym, ap, ◌∙◌, arith, length-append, if◌then◌else◌}
use Rattle.std.specs.Prelude.{slice_get, nat_lt, nat_eq}
use Rattle.f3_places.specs.declared.source.Place.{Place}
use Rattle.f3_meaning_whole.specs.Value.{Unallocated, is_allocated}
use Rattle.f3_meaning_whole.specs.Store.{Path, get}
use Rattle.f3_meaning_whole.specs.Reference.{Language, One, Reference, paths, spans, is_pinned}
use Rattle.f3_meaning_whole.specs.declared.run_error.RunError.TheVariants.{InUse}
use Rattle.f3_meaning_whole.specs.Ran.{World, Ran, ◌>>=◌, gives, fails, each}
use Rattle.f3_meaning_whole.specs.Act.{Setting, Here, Lent, Calls, set, clear, lending, component, moved, contents}
use Rattle.f3_code.specs.Work as w
use Rattle.f3_code.specs.Work.{Routines, work}
use Rattle.f3_code.specs.declared.instruction.Instruction.TheVariants as i
use Rattle.f3_code.specs.State.{Line, line, line_with, placed, Code, Cell, Datum, Object, Argument, Elements, To, Frame, State, Next, Goes}
use Rattle.f3_code.specs.Machine.{opens, act, step, routine_at}
use Rattle.f3_code.specs.Code.{work_code}
use Rattle.f3_code_laws.proofs.Places.{HasAt, has_front, has_back}
use Rattle.f3_code_laws.proofs.Reaching.{Reaches, step_then, one_step, then_on, ends_with, comes_by, as_well, looked, fails_then}
use Rattle.f3_code_laws.proofs.Ending.{set_ends, clear_ends, component_ends, opens_end}
use Rattle.f3_code_laws.proofs.FollowValue.{state, CallsFollow, is_at, ending, starting, at_line, then_code, no_code}

-- How the first so many routines are run where they stand; there are no others.
pub record RoutinesFollow (limit : ℕ) (g : Setting) (code : Code) (n : ℕ) (m : ℕ) (routines : Routines) (frames : List Frame) : Type 0 where
  pub by : (t pc : ℕ) (r : Reference) (stack : List Cell) (here there : Here) (w : World) → nat_lt t m ≡ true →
      step limit g code (state pc (Object r ∷ stack) here frames w) ≡ routine_at code.routines t
      (λ to. Goes [] (state to (Object r ∷ To (pc + 1) here.place ∷ stack) there frames w)) (Goes [] (state (pc + 1) (Object r ∷ stack) here frames w)) →
      there ≡ placed (Some there.place) here → Reaches limit g code n (state pc (Object r ∷ stack) here frames w) (routines t r there) w
      (λ done w. state (pc + 1) (Object r ∷ stack) here frames w)
  pub none : (t : ℕ) (r : Reference) (here : Here) → nat_lt t m ≡ false → routines t r here ≡ gives tt

pub if_then : {A B : Type 0} (b : Bool) (x y : Ran A) (f : A → Ran B) → ((if b then x else y) >>= f) ≡ (if b then (x >>= f) else (y >>= f))
if_then true x y f = refl
if_then false x y f = refl

-- what is in use, or else what is held, and more
pub opens_then : {A : Type 0} (r : Reference) (here : Here) (f : Reference → Ran A) →
    (opens r here >>= f) ≡ (if is_pinned r.path here.lent then fails InUse here.place else (contents r here >>= f))
opens_then r here f = if_then (is_pinned r.path here.lent) (fails InUse here.place) (contents r here) f ∙
    ap (λ x. if is_pinned r.path here.lent then x else (contents r here >>= f)) (fails_then InUse here.place f)

module _ (limit : ℕ) (g : Setting) (code : Code) (n : ℕ) (frames : List Frame) where
  at_it : (pc : ℕ) (stack : List Cell) (here : Here) (w : World) (l : Line) → slice_get code.lines pc ≡ Some l →
      step limit g code (state pc stack here frames w) ≡ act limit g code l.act l.value (placed l.place here) (state pc stack here frames w)
  at_it = is_at limit g code n frames

  -- by cases on a test
  pub test_case : {A : Type 0} (b : Bool) (s : State) (w : World) (x' y' : Next) (x y : Ran A) (next : A → World → State) →
      step limit g code s ≡ (if b then x' else y') → (step limit g code s ≡ x' → Reaches limit g code n s x w next) →
      (step limit g code s ≡ y' → Reaches limit g code n s y w next) → Reaches limit g code n s (if b then x else y) w next
  test_case true s w x' y' x y next e h k = h e
  test_case false s w x' y' x y next e h k = k e

  module _ (calls : Calls) (follow : CallsFollow limit g code n calls frames) (m : ℕ) (routines : Routines)
      (routines_follow : RoutinesFollow limit g code n m routines frames) where
    abbrev pub Follows : w.Work → Type 0
    Follows x = (o : Option Place) (pc : ℕ) (r : Reference) (stack : List Cell) (here : Here) (w : World) → HasAt code.lines pc (work_code m o x) →
        Reaches limit g code n (state pc (Object r ∷ stack) here frames w) (work g calls routines x r (placed o here)) w
        (λ done w. state (pc + length (work_code m o x)) (Object r ∷ stack) here frames w)

    -- the elements from one on
    walk_follows : (x : w.Work) → Follows x → (ps : List Path) (o : Option Place) (pc on : ℕ) (r : Reference) (stack : List Cell) (here : Here) (w : World) →
        HasAt code.lines pc (line o (i.WalkNext (length (work_code m o x) + 2)) ∷
        (work_code m o x ++ (line o i.Drop ∷ line o (i.GoBack (length (work_code m o x) + 2)) ∷ []))) → pc + 1 + (length (work_code m o x) + 2) ≡ on →
        Reaches limit g code n (state pc (Elements ps ∷ Object r ∷ stack) here frames w)
        (each ps (λ p. work g calls routines x (moved r p One) (placed o here))) w (λ done w. state on (Object r ∷ stack) here frames w)
    walk_follows x follows [] o pc on r stack here w has e =
        let d = length (work_code m o x) + 2 in
        one_step limit g code n tt w _ (at_it pc (Elements [] ∷ Object r ∷ stack) here w (line o (i.WalkNext d)) has.0 ∙
        ap (λ q. Goes [] (state q (Object r ∷ stack) here frames w)) e)
    walk_follows x follows (p ∷ ps) o pc on r stack here w has e =
        let cx = work_code m o x in
        let d = length cx + 2 in
        let under = Elements ps ∷ Object r ∷ stack in
        let hd = has_back code.lines (pc + 1) cx (line o i.Drop ∷ line o (i.GoBack d) ∷ []) has.1 in
        let back : pc + 1 + length cx + 1 - d ≡ pc = omega arith in
        step_then limit g code (at_it pc (Elements (p ∷ ps) ∷ Object r ∷ stack) here w (line o (i.WalkNext d)) has.0)
        (then_on limit g code (follows o (pc + 1) (moved r p One) under here w (has_front code.lines (pc + 1) cx _ has.1)) (λ done w.
        step_then limit g code (at_it (pc + 1 + length cx) (Object (moved r p One) ∷ under) here w (line o i.Drop) hd.0)
        (step_then limit g code (at_it (pc + 1 + length cx + 1) under here w (line o (i.GoBack d)) hd.1.0 ∙
        ap (λ q. Goes [] (state q under here frames w)) back)
        (walk_follows x follows ps o pc on r stack here w has e))))

    -- work on another object, which a line puts on top
    within : (x : w.Work) → Follows x → (o : Option Place) (m' : Ran Reference) (l : Line) (pc : ℕ) (r : Reference) (stack : List Cell) (here : Here)
        (w : World) → HasAt code.lines pc (l ∷ (work_code m o x ++ line o i.Drop ∷ [])) →
        (HasAt code.lines pc (l ∷ []) → Reaches limit g code n (state pc (Object r ∷ stack) here frames w) m' w
        (λ q w. state (pc + 1) (Object q ∷ Object r ∷ stack) here frames w)) →
        Reaches limit g code n (state pc (Object r ∷ stack) here frames w) (m' >>= λ q. work g calls routines x q (placed o here)) w
        (λ done w. state (pc + length (l ∷ (work_code m o x ++ line o i.Drop ∷ []))) (Object r ∷ stack) here frames w)
    within x follows o m' l pc r stack here w has first =
        let cx = work_code m o x in
        then_code limit g code n frames (l ∷ []) (cx ++ line o i.Drop ∷ []) pc has first (λ q w h.
        let hd = has_back code.lines (pc + 1) cx (line o i.Drop ∷ []) h in
        let len : pc + 1 + length cx + 1 ≡ pc + 1 + length (cx ++ line o i.Drop ∷ []) = omega (arith, length-append cx (line o i.Drop ∷ [])) in
        ending limit g code n frames _ _ (λ done. Object r ∷ stack) here len
        (ends_with limit g code (follows o (pc + 1) q (Object r ∷ stack) here w (has_front code.lines (pc + 1) cx _ h))
        (λ done w. comes_by limit g code (at_it (pc + 1 + length cx) (Object q ∷ Object r ∷ stack) here w (line o i.Drop) hd.0))))

    pub work_follows : (x : w.Work) → Follows x
    work_follows w.Rest o pc r stack here w has = no_code limit g code n frames tt pc (λ done. Object r ∷ stack) here w
    work_follows (w.And x y) o pc r stack here w has =
        then_code limit g code n frames (work_code m o x) (work_code m o y) pc has (work_follows x o pc r stack here w)
        (λ done w h. work_follows y o _ r stack here w h)
    work_follows (w.Lending x) o pc r stack here w has =
        let cx = work_code m o x in
        let there = lending (r ∷ []) here in
        let hu = has_back code.lines (pc + 1) cx (line o i.Unlend ∷ []) has.1 in
        let len : pc + 1 + length cx + 1 ≡ pc + length (line o i.Lend ∷ (cx ++ line o i.Unlend ∷ [])) =
        omega (arith, length-append cx (line o i.Unlend ∷ [])) in
        ending limit g code n frames _ _ (λ done. Object r ∷ stack) here len
        (step_then limit g code (at_it pc (Object r ∷ stack) here w (line o i.Lend) has.0)
        (ends_with limit g code (work_follows x o (pc + 1) r stack there w (has_front code.lines (pc + 1) cx _ has.1))
        (λ done w. comes_by limit g code (at_it (pc + 1 + length cx) (Object r ∷ stack) there w (line o i.Unlend) hu.0))))
    work_follows (w.Of_rank rank x y) o pc r stack here w has =
        let cx = work_code m o x in let cy = work_code m o y in
        let s = state pc (Object r ∷ stack) here frames w in
        let hy = has_back code.lines (pc + 1) cx (line o (i.GoOn (length cy)) ∷ cy) has.1 in
        let on = pc + length (line o (i.SkipUnlessRank rank (length cx + 1)) ∷ (cx ++ (line o (i.GoOn (length cy)) ∷ cy))) in
        let to_y : pc + 1 + (length cx + 1) ≡ pc + 1 + length cx + 1 = omega arith in
        let over : pc + 1 + length cx + 1 + length cy ≡ on = omega (arith, length-append cx (line o (i.GoOn (length cy)) ∷ cy)) in
        test_case (nat_eq rank (length (spans r.reach))) s w (Goes [] (state (pc + 1) (Object r ∷ stack) here frames w))
        (Goes [] (state (pc + 1 + (length cx + 1)) (Object r ∷ stack) here frames w)) _ _ _
        (at_it pc (Object r ∷ stack) here w (line o (i.SkipUnlessRank rank (length cx + 1))) has.0)
        (λ e. step_then limit g code e (ends_with limit g code (work_follows x o (pc + 1) r stack here w (has_front code.lines (pc + 1) cx _ has.1))
        (λ done w. comes_by limit g code (at_it (pc + 1 + length cx) (Object r ∷ stack) here w (line o (i.GoOn (length cy))) hy.0 ∙
        ap (λ q. Goes [] (state q (Object r ∷ stack) here frames w)) over))))
        (λ e. step_then limit g code e (starting limit g code n frames n _ _ (Object r ∷ stack) here w to_y
        (ending limit g code n frames _ _ (λ done. Object r ∷ stack) here over (work_follows y o (pc + 1 + length cx + 1) r stack here w hy.1))))
    work_follows (w.Final f) o pc r stack here w has =
        let len : pc + 1 + 1 + 1 ≡ pc + 3 = omega arith in
        let there = placed o here in
        ending limit g code n frames _ _ (λ done. Object r ∷ stack) here len
        (step_then limit g code (at_it pc (Object r ∷ stack) here w (line o i.PassObject) has.0)
        (then_on limit g code (follow.by f there (Lent 0 r ∷ []) (pc + 1) (Object r ∷ stack) here w
        (at_it (pc + 1) (Argument (Lent 0 r) ∷ Object r ∷ stack) here w (line o (i.Call f 1)) has.1.0))
        (λ v w. one_step limit g code n tt w (λ done w. state (pc + 1 + 1 + 1) (Object r ∷ stack) here frames w)
        (at_it (pc + 1 + 1) (Datum v ∷ Object r ∷ stack) here w (line o i.Drop) has.1.1.0))))
    work_follows (w.Routine t) o pc r stack here w has =
        by_test (nat_lt t m) refl has
      where
        by_test : (b : Bool) → nat_lt t m ≡ b → HasAt code.lines pc (if b then line o (i.Routine t) ∷ [] else []) →
            Reaches limit g code n (state pc (Object r ∷ stack) here frames w) (routines t r (placed o here)) w
            (λ done w. state (pc + length (if b then line o (i.Routine t) ∷ [] else [])) (Object r ∷ stack) here frames w)
        by_test true e has = routines_follow.by t pc r stack here (placed o here) w e
            (is_at limit g code n frames pc (Object r ∷ stack) here w (line o (i.Routine t)) has.0) refl
        by_test false e has = as_well limit g code (sym (routines_follow.none t r (placed o here) e))
            (no_code limit g code n frames tt pc (λ done. Object r ∷ stack) here w)
    work_follows (w.Of_component k x) o pc r stack here w has =
        within x (work_follows x) o (component g k Language r) (line o (i.WorkComponent k)) pc r stack here w has
        (λ h. at_line limit g code n frames (component g k Language r) pc (Object r ∷ stack) here w (line o (i.WorkComponent k))
        (component_ends g k Language r) h.0 refl)
    work_follows (w.Of_elements x) o pc r stack here w has =
        let cx = work_code m o x in
        let d = length cx + 2 in
        let on : pc + 1 + 1 + d ≡ pc + length (line o i.WalkBegin ∷ line o (i.WalkNext d) ∷ (cx ++ (line o i.Drop ∷ line o (i.GoBack d) ∷ []))) =
        omega (arith, length-append cx (line o i.Drop ∷ line o (i.GoBack d) ∷ [])) in
        step_then limit g code (at_it pc (Object r ∷ stack) here w (line o i.WalkBegin) has.0)
        (walk_follows x (work_follows x) (paths r) o (pc + 1) _ r stack here w has.1 on)
    work_follows (w.If_allocated x) o pc r stack here w has =
        let cx = work_code m o x in
        let s = state pc (Object r ∷ stack) here frames w in
        let len : pc + 1 + length cx ≡ pc + length (line o (i.SkipUnlessAllocated (length cx)) ∷ cx) = omega arith in
        looked limit g code (λ store. is_allocated (get store r.path)) (λ b. if b then work g calls routines x r (placed o here) else gives tt)
        (test_case (is_allocated (get w.store r.path)) s w (Goes [] (state (pc + 1) (Object r ∷ stack) here frames w))
        (Goes [] (state (pc + 1 + length cx) (Object r ∷ stack) here frames w)) _ _ _
        (at_it pc (Object r ∷ stack) here w (line o (i.SkipUnlessAllocated (length cx))) has.0)
        (λ e. step_then limit g code e (ending limit g code n frames _ _ (λ done. Object r ∷ stack) here len (work_follows x o (pc + 1) r stack here w has.1)))
        (λ e. one_step limit g code n tt w _ (e ∙ ap (λ q. Goes [] (state q (Object r ∷ stack) here frames w)) len)))
    work_follows (w.Of_contents x) o pc r stack here w has =
        let cx = work_code m o x in
        let there = placed o here in
        let whole = then_code limit g code n frames (line o i.OpenContents ∷ []) (cx ++ (line o i.Drop ∷ line o i.Free ∷ [])) pc has
        (λ h. at_line limit g code n frames (opens r there) pc (Object r ∷ stack) here w (line o i.OpenContents) (opens_end r there) h.0 refl) (λ q w h.
        then_code limit g code n frames cx (line o i.Drop ∷ line o i.Free ∷ []) (pc + 1) h (λ h. work_follows x o (pc + 1) q (Object r ∷ stack) here w h)
        (λ done w h.
        let len : pc + 1 + length cx + 1 + 1 ≡ pc + 1 + length cx + 2 = omega arith in
        ending limit g code n frames _ _ (λ done. Object r ∷ stack) here len
        (step_then limit g code (at_it (pc + 1 + length cx) (Object q ∷ Object r ∷ stack) here w (line o i.Drop) h.0)
        (at_line limit g code n frames (set r Unallocated there) (pc + 1 + length cx + 1) (Object r ∷ stack) here w (line o i.Free)
        (set_ends r Unallocated there) h.1.0 refl)))) in
        as_well limit g code (opens_then r there (λ q. work g calls routines x q there >>= λ done. set r Unallocated there)) whole
    work_follows w.Clear o pc r stack here w has = at_line limit g code n frames (clear r (placed o here)) pc (Object r ∷ stack) here w (line o i.Clear)
        (clear_ends r (placed o here)) has.0 refl
    work_follows (w.Set v) o pc r stack here w has = at_line limit g code n frames (set r v (placed o here)) pc (Object r ∷ stack) here w
        (line_with o v i.Set) (set_ends r v (placed o here)) has.0 refl
    work_follows w.Discard o pc r stack here w has = one_step limit g code n tt w _ (at_it pc (Object r ∷ stack) here w (line o i.Discard) has.0)
