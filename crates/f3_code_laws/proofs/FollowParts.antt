-- The code of parts of statements follows them.
use Rattle.std.proofs.Common.{◌≡◌, ℕ, suc, ◌+◌, Bool, true, false, List, [], ◌∷◌, ◌++◌, length, Option, None, Some, refl, ap, arith, if◌then◌else◌}
use Rattle.std.specs.Prelude.{slice_get, pos}
use Rattle.f3_places.specs.declared.source.Place.{Place}
use Rattle.f3_program.specs.declared.expression.Designator.{Designator}
use Rattle.f3_program.specs.declared.expression.Expression.{Expression}
use Rattle.f3_program.specs.declared.statement.Bounds.{Bounds}
use Rattle.f3_meaning_whole.specs.Value.{Span, Number, number_of}
use Rattle.f3_meaning_whole.specs.declared.run_error.RunError.{RunError}
use Rattle.f3_meaning_whole.specs.Ran.{World, Ran, ◌>>=◌, fails}
use Rattle.f3_meaning_whole.specs.Arithmetic.{trips}
use Rattle.f3_meaning_whole.specs.Act.{Setting, Here, Calls, set}
use Rattle.f3_meaning_whole.specs.Eval.{value, locate}
use Rattle.f3_meaning_whole.specs.Exec.{print_value, status_number, unless_failed, vacant}
use Rattle.f3_meaning_whole.specs.Exec as meaning
use Rattle.f3_code.specs.Work.{Work}
use Rattle.f3_code.specs.Core as c
use Rattle.f3_code.specs.Exec.{allocate, allocate_all}
use Rattle.f3_code.specs.declared.instruction.Instruction.TheVariants as i
use Rattle.f3_code.specs.State.{Line, line, line_with, placed, Code, Cell, Datum, Object, Extent, Status, Frame}
use Rattle.f3_code.specs.Machine.{tested, checked, act, step, extent_of}
use Rattle.f3_code.specs.Code.{value_code, locate_code, dimensions_code, allocate_code, status_code}
use Rattle.f3_code_laws.proofs.Places.{HasAt}
use Rattle.f3_code_laws.proofs.Reaching.{AllGive, give_all, gives_as, give_any, Reaches, step_then, stays, one_step, then_on, nothing_then, fails_then}
use Rattle.f3_code_laws.proofs.Ending.{set_ends, checked_ends, allocate_ends}
use Rattle.f3_code_laws.proofs.FollowValue.{state, onto, popped, CallsFollow, is_at, ending, at_line, then_where_code, then_code, no_code, value_follows, locate_follows}

-- what a test asks for, and then more
pub tested_then : {A : Type 0} (b : Bool) (error : RunError) (here : Here) (x : Ran A) →
    (tested b error here >>= λ done. x) ≡ (if b then x else fails error here.place)
tested_then true error here x = nothing_then tt (λ done. x)
tested_then false error here x = fails_then error here.place (λ done. x)

pub dimensions_count : (g : Setting) (n : ℕ) (calls : Calls) (bs : List Bounds) (here : Here) →
    AllGive (λ ss. length ss ≡ length bs) (meaning.dimensions g n calls bs here)
dimensions_count g n calls [] here = gives_as _ [] refl
dimensions_count g n calls (b ∷ bs) here =
    give_all (λ v. Unit {0}) _ (give_any (value g calls b.lower here))
    (λ l t. give_all (λ v. Unit {0}) _ (give_any (value g calls b.upper here))
    (λ u t. give_all (λ ss. length ss ≡ length bs) _ (dimensions_count g n calls bs here) (λ ss e. gives_as _ _ (ap suc e))))

module _ (limit : ℕ) (g : Setting) (code : Code) (n : ℕ) (frames : List Frame) (calls : Calls) (follow : CallsFollow limit g code n calls frames) where
  at_it : (pc : ℕ) (stack : List Cell) (here : Here) (w : World) (l : Line) → slice_get code.lines pc ≡ Some l →
      step limit g code (state pc stack here frames w) ≡ act limit g code l.act l.value (placed l.place here) (state pc stack here frames w)
  at_it = is_at limit g code n frames

  values : (x : Expression) (o : Option Place) (pc : ℕ) (stack : List Cell) (here : Here) (w : World) → HasAt code.lines pc (value_code o x) →
      Reaches limit g code n (state pc stack here frames w) (value g calls x (placed o here)) w
      (λ v w. state (pc + length (value_code o x)) (Datum v ∷ stack) here frames w)
  values = value_follows limit g code n frames calls follow

  locates : (x : Designator) (o : Option Place) (pc : ℕ) (stack : List Cell) (here : Here) (w : World) → HasAt code.lines pc (locate_code o x) →
      Reaches limit g code n (state pc stack here frames w) (locate g calls x (placed o here)) w
      (λ r w. state (pc + length (locate_code o x)) (Object r ∷ stack) here frames w)
  locates = locate_follows limit g code n frames calls follow

  -- the bounds of an ALLOCATE
  pub dimensions_follow : (bs : List Bounds) (o : Option Place) (pc : ℕ) (stack : List Cell) (here : Here) (w : World) →
      HasAt code.lines pc (dimensions_code o bs) → Reaches limit g code n (state pc stack here frames w) (meaning.dimensions g n calls bs (placed o here)) w
      (λ ss w. state (pc + length (dimensions_code o bs)) (onto Extent ss stack) here frames w)
  dimensions_follow [] o pc stack here w has = no_code limit g code n frames [] pc (λ ss. onto Extent ss stack) here w
  dimensions_follow (b ∷ bs) o pc stack here w has =
      let rest = line o i.Dimension ∷ dimensions_code o bs in
      then_code limit g code n frames (value_code o b.lower) (value_code o b.upper ++ rest) pc has (values b.lower o pc stack here w) (λ l w h.
      then_code limit g code n frames (value_code o b.upper) rest _ h (values b.upper o _ (Datum l ∷ stack) here w) (λ u w h.
      let p = pc + length (value_code o b.lower) + length (value_code o b.upper) in
      let s : Span = record { lower = number_of l; extent = trips (number_of l) (number_of u) (pos 1) } in
      let len : p + 1 + length (dimensions_code o bs) ≡ p + length rest = omega arith in
      step_then limit g code (at_it p (Datum u ∷ Datum l ∷ stack) here w (line o i.Dimension) h.0)
      (then_on limit g code (dimensions_follow bs o (p + 1) (Extent s ∷ stack) here w h.1)
      (λ ss w. ending limit g code n frames _ _ (λ ss. onto Extent ss stack) here len
      (stays limit g code n (s ∷ ss) w (λ ss w. state (p + 1 + length (dimensions_code o bs)) (onto Extent ss stack) here frames w))))))

  -- the end of an ALLOCATE or DEALLOCATE
  pub status_follows : (stat : Option Designator) (x : Option RunError) (o : Option Place) (pc : ℕ) (stack : List Cell) (here : Here) (w : World) →
      HasAt code.lines pc (status_code o stat) → Reaches limit g code n (state pc (Status x ∷ stack) here frames w)
      (meaning.answer g n calls x stat (placed o here)) w (λ done w. state (pc + length (status_code o stat)) stack here frames w)
  status_follows None None o pc stack here w has = at_line limit g code n frames (checked None (placed o here)) pc _ here w (line o i.Check)
      (checked_ends None (placed o here)) has.0 refl
  status_follows None (Some error) o pc stack here w has = at_line limit g code n frames (checked (Some error) (placed o here)) pc _ here w (line o i.Check)
      (checked_ends (Some error) (placed o here)) has.0 refl
  status_follows (Some d) None o pc stack here w has =
      then_code limit g code n frames (locate_code o d) (line o i.StoreStatus ∷ []) pc has (locates d o pc (Status None ∷ stack) here w)
      (λ r w h. at_line limit g code n frames (set r (Number (pos 0)) (placed o here)) _ _ here w (line o i.StoreStatus)
      (set_ends r (Number (pos 0)) (placed o here)) h.0 refl)
  status_follows (Some d) (Some error) o pc stack here w has =
      then_code limit g code n frames (locate_code o d) (line o i.StoreStatus ∷ []) pc has (locates d o pc (Status (Some error) ∷ stack) here w)
      (λ r w h. at_line limit g code n frames (set r (Number (pos (status_number (Some error)))) (placed o here)) _ _ here w (line o i.StoreStatus)
      (set_ends r (Number (pos (status_number (Some error)))) (placed o here)) h.0 refl)

  -- the rest, unless there was an error
  pub failed_follows : (x : Option RunError) (rest : Ran (Option RunError)) (cx : List Line) (o : Option Place) (pc : ℕ) (stack : List Cell) (here : Here)
      (w : World) → HasAt code.lines pc (line o (i.SkipIfFailed (length cx)) ∷ cx) →
      (HasAt code.lines (pc + 1) cx → Reaches limit g code n (state (pc + 1) stack here frames w) rest w
      (λ x w. state (pc + 1 + length cx) (Status x ∷ stack) here frames w)) →
      Reaches limit g code n (state pc (Status x ∷ stack) here frames w) (unless_failed x rest) w
      (λ x w. state (pc + length (line o (i.SkipIfFailed (length cx)) ∷ cx)) (Status x ∷ stack) here frames w)
  failed_follows x rest cx o pc stack here w has follows =
      let len : pc + 1 + length cx ≡ pc + length (line o (i.SkipIfFailed (length cx)) ∷ cx) = omega arith in
      ending limit g code n frames _ _ (λ x. Status x ∷ stack) here len (by_case x)
    where
      by_case : (x : Option RunError) → Reaches limit g code n (state pc (Status x ∷ stack) here frames w) (unless_failed x rest) w
          (λ x w. state (pc + 1 + length cx) (Status x ∷ stack) here frames w)
      by_case None = step_then limit g code (is_at limit g code n frames pc (Status None ∷ stack) here w (line o (i.SkipIfFailed (length cx))) has.0)
          (follows has.1)
      by_case (Some error) = one_step limit g code n (Some error) w _
          (is_at limit g code n frames pc (Status (Some error) ∷ stack) here w (line o (i.SkipIfFailed (length cx))) has.0)

  pub allocates_follow : (types : List Work) (xs : List c.Allocation) (o : Option Place) (pc : ℕ) (stack : List Cell) (here : Here) (w : World) →
      HasAt code.lines pc (allocate_code o xs) → Reaches limit g code n (state pc stack here frames w) (allocate_all g n types calls xs (placed o here)) w
      (λ x w. state (pc + length (allocate_code o xs)) (Status x ∷ stack) here frames w)
  allocates_follow types [] o pc stack here w has = one_step limit g code n None w _ (at_it pc stack here w (line o i.NoError) has.0)
  allocates_follow types (x ∷ xs) o pc stack here w has =
      let there = placed o here in
      let cr = line o (i.SkipIfFailed (length (allocate_code o xs))) ∷ allocate_code o xs in
      let la = line_with o x.element (i.Allocate x.rank (length x.bounds)) in
      then_code limit g code n frames (locate_code o x.object) (dimensions_code o x.bounds ++ (la ∷ cr)) pc has (locates x.object o pc stack here w) (λ h w has.
      then_where_code limit g code n frames (λ ss. length ss ≡ length x.bounds) (dimensions_count g n calls x.bounds there) (dimensions_code o x.bounds)
      (la ∷ cr) _ has (dimensions_follow x.bounds o _ (Object h ∷ stack) here w) (λ ss w e has.
      then_code limit g code n frames (la ∷ []) cr _ has (λ has. at_line limit g code n frames (allocate x.rank x.element h ss there) _ _ here w la
      (allocate_ends x.rank x.element h ss there) has.0 (popped extent_of Extent (λ s. refl) ss (Object h ∷ stack) (length x.bounds) _ e)) (λ status w has.
      failed_follows status (allocate_all g n types calls xs there) (allocate_code o xs) o _ stack here w has
      (λ has. allocates_follow types xs o _ stack here w has))))
