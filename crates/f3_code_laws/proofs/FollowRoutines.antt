-- The code of the routines of types follows them.
use Rattle.std.proofs.Common.{◌≡◌, ℕ, suc, ◌+◌, Bool, true, false, List, [], ◌∷◌, length, None, Some, refl, sym, ap, ◌∙◌, subst, arith, if◌then◌else◌}
use Rattle.std.specs.Prelude.{slice_get, nat_lt, nat_eq}
use Rattle.f3_meaning_whole.specs.Reference.{Reference}
use Rattle.f3_meaning_whole.specs.Ran.{World}
use Rattle.f3_meaning_whole.specs.Act.{Setting, Here, Calls, at}
use Rattle.f3_code.specs.Work.{Work, work, routines_of}
use Rattle.f3_code.specs.declared.instruction.Instruction.TheVariants as i
use Rattle.f3_code.specs.State.{Line, line, placed, Code, Cell, Object, To, Frame, Next, Goes}
use Rattle.f3_code.specs.Machine.{step, routine_at}
use Rattle.f3_code.specs.Code.{work_code, routines_code, places_of}
use Rattle.f3_code_laws.proofs.Places.{HasAt, has_front, has_back}
use Rattle.f3_code_laws.proofs.Reaching.{Reaches, step_then, ends_with, comes_by}
use Rattle.f3_code_laws.proofs.FollowValue.{state, CallsFollow, is_at}
use Rattle.f3_code_laws.proofs.FollowWork.{RoutinesFollow, work_follows}

-- the routines stand one behind another from this place on
abbrev pub RoutinesAt : List Line → ℕ → List Work → Type 0
RoutinesAt code pc [] = Unit {0}
RoutinesAt code pc (x ∷ xs) = HasAt code pc (work_code (length xs) None x) ×
    (slice_get code (pc + length (work_code (length xs) None x)) ≡ Some (line None i.Back)) ×
    RoutinesAt code (pc + length (work_code (length xs) None x) + 1) xs

pub routines_at : (code : List Line) (pc : ℕ) (xs : List Work) → HasAt code pc (routines_code xs) → RoutinesAt code pc xs
routines_at code pc [] h = tt
routines_at code pc (x ∷ xs) h =
    let cx = work_code (length xs) None x in
    let r = has_back code pc cx (line None i.Back ∷ routines_code xs) h in
    (has_front code pc cx (line None i.Back ∷ routines_code xs) h, r.0, routines_at code (pc + length cx + 1) xs r.1)

-- a table of routines that agrees with the older ones of it
pub record TableEnds (places : List ℕ) (older : List ℕ) : Type 0 where
  pub by : (t : ℕ) (go : ℕ → Next) (none : Next) → nat_lt t (length older) ≡ true → routine_at places t go none ≡ routine_at older t go none

places_length : (at : ℕ) (xs : List Work) → length (places_of at xs) ≡ length xs
places_length at [] = refl
places_length at (x ∷ xs) = ap suc (places_length (at + length (work_code (length xs) None x) + 1) xs)

table_older : (places older : List ℕ) (pc : ℕ) → TableEnds places (pc ∷ older) → TableEnds places older
table_older places older pc h = record {
  by = λ t go none lt.
      let lt' : nat_lt t (length (pc ∷ older)) ≡ true = grind arith in
      let other : nat_eq t (length older) ≡ false = grind arith in
      h.by t go none lt' ∙ ap (λ b. if b then go pc else routine_at older t go none) other;
}

module _ (limit : ℕ) (g : Setting) (code : Code) (n : ℕ) (frames : List Frame) (calls : Calls) (follow : CallsFollow limit g code n calls frames) where
  -- routines, by those that are older
  pub routines_follow : (xs : List Work) (base : ℕ) → RoutinesAt code.lines base xs → TableEnds code.routines (places_of base xs) →
      RoutinesFollow limit g code n (length xs) (routines_of g calls xs) frames
  routines_follow [] base has table = record {
    by = λ t pc r stack here there w lt e is. absurd (grind arith);
    none = λ t r here e. refl;
  }
  routines_follow (x ∷ xs) base has table =
      let next_base = base + length (work_code (length xs) None x) + 1 in
      let older = routines_follow xs next_base has.2 (table_older code.routines (places_of next_base xs) base table) in
      record {
        by = λ t pc r stack here there w lt e is. newest older t pc r stack here there w lt e is (nat_eq t (length xs)) refl;
        none = λ t r here e.
            let other : nat_eq t (length xs) ≡ false = grind arith in
            let more : nat_lt t (length xs) ≡ false = grind arith in
            ap (λ b. if b then work g calls (routines_of g calls xs) x r here else routines_of g calls xs t r here) other ∙ older.none t r here more;
      }
    where
      newest : RoutinesFollow limit g code n (length xs) (routines_of g calls xs) frames →
          (t pc : ℕ) (r : Reference) (stack : List Cell) (here there : Here) (w : World) → nat_lt t (length (x ∷ xs)) ≡ true →
          step limit g code (state pc (Object r ∷ stack) here frames w) ≡ routine_at code.routines t
          (λ to. Goes [] (state to (Object r ∷ To (pc + 1) here.place ∷ stack) there frames w)) (Goes [] (state (pc + 1) (Object r ∷ stack) here frames w)) →
          there ≡ placed (Some there.place) here → (b : Bool) → nat_eq t (length xs) ≡ b →
          Reaches limit g code n (state pc (Object r ∷ stack) here frames w) (routines_of g calls (x ∷ xs) t r there) w
          (λ done w. state (pc + 1) (Object r ∷ stack) here frames w)
      newest older t pc r stack here there w lt e same true is =
          let cx = work_code (length xs) None x in
          let under = To (pc + 1) here.place ∷ stack in
          let go : ℕ → Next = λ to. Goes [] (state to (Object r ∷ under) there frames w) in
          let none : Next = Goes [] (state (pc + 1) (Object r ∷ stack) here frames w) in
          let others = places_of (base + length cx + 1) xs in
          let l = places_length (base + length cx + 1) xs in
          let lt' : nat_lt t (length (base ∷ others)) ≡ true = ap (λ k. nat_lt t (suc k)) l ∙ lt in
          let e' : step limit g code (state pc (Object r ∷ stack) here frames w) ≡ go base = e ∙ table.by t go none lt' ∙
          ap (λ k. if nat_eq t k then go base else routine_at others t go none) l ∙ ap (λ b. if b then go base else routine_at others t go none) is in
          let back : at here.place there ≡ here = ap (λ h. at here.place h) same in
          let runs = work_follows limit g code n frames calls follow (length xs) (routines_of g calls xs) older x None base r under there w has.0 in
          let whole : Reaches limit g code n (state pc (Object r ∷ stack) here frames w) (work g calls (routines_of g calls xs) x r there) w
          (λ done w. state (pc + 1) (Object r ∷ stack) here frames w) =
          step_then limit g code e' (ends_with limit g code runs (λ done w.
          comes_by limit g code (is_at limit g code n frames (base + length cx) (Object r ∷ under) there w (line None i.Back) has.1 ∙
          ap (λ h. Goes [] (state (pc + 1) (Object r ∷ stack) h frames w)) back))) in
          subst (λ m. Reaches limit g code n (state pc (Object r ∷ stack) here frames w) m w (λ done w. state (pc + 1) (Object r ∷ stack) here frames w))
          (ap (λ b. if b then work g calls (routines_of g calls xs) x r there else routines_of g calls xs t r there) (sym is)) whole
      newest older t pc r stack here there w lt e same false is =
          let more : nat_lt t (length xs) ≡ true = grind arith in
          subst (λ m. Reaches limit g code n (state pc (Object r ∷ stack) here frames w) m w (λ done w. state (pc + 1) (Object r ∷ stack) here frames w))
          (ap (λ b. if b then work g calls (routines_of g calls xs) x r there else routines_of g calls xs t r there) (sym is))
          (older.by t pc r stack here there w more e same)
