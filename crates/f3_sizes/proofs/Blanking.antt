-- The code without the lines to which no way leads: its heights and needs, and that it runs as the code does.
use Rattle.std.proofs.Common.{◌≡◌, ◌≤◌, ◌<◌, ℕ, zero, suc, ◌+◌, ◌-◌, Bool, true, false, List, [], ◌∷◌, length, Option, None, Some, refl, sym, ap, ◌∙◌, subst, arith, zero-add, if◌then◌else◌}
use Rattle.std.specs.Prelude.{slice_get}
use Rattle.f3_meaning_whole.specs.Value.{Value}
use Rattle.f3_meaning_whole.specs.Ran.{Event, World, End, Gives, Fails, Stops, Beyond, ◌>>=◌}
use Rattle.f3_meaning_whole.specs.Act.{Setting, Here, claim, enter}
use Rattle.f3_code.specs.Core as c
use Rattle.f3_code.specs.CoreRun.{core_setting, core_here, core_world}
use Rattle.f3_code.specs.declared.instruction.Instruction.{Instruction}
use Rattle.f3_code.specs.declared.instruction.Instruction.TheVariants as i
use Rattle.f3_code.specs.State.{Line, line, placed, Entry, Code, Cell, To, Frame, State, Next, Goes}
use Rattle.f3_code.specs.State as state
use Rattle.f3_code.specs.Machine.{act, does_line, step, ends_so}
use Rattle.f3_code.specs.Run.{start}
use Rattle.f3_heights.specs.Effect.{Far, effect}
use Rattle.f3_heights.specs.Heights.{IsNext, AreFar, IsAt, RoutinesBegin, AreHeights}
use Rattle.f3_heights.specs.Needs.{KeptNext, KeptFar, IsKept, RoutineHasRoom, AreNeeds}
use Rattle.f3_heights.specs.Room.{home, Within, FramesWithin, IsWithin, FramesHave, frames_cells, state_next, state_run, state_after}
use Rattle.f3_heights.proofs.Within.{steps_keep_room, all_have_room}
use Rattle.f3_sizes.specs.Part.{IntoNext, IntoFar, LeadsInto}

-- lines from one on, with no way on from those that are not reached
abbrev pub blank : (ℕ → Bool) → ℕ → List Line → List Line
blank R at [] = []
blank R at (l ∷ ls) = (if R at then l else line None i.Finish) ∷ blank R (at + 1) ls

pub blank_from : (R : ℕ → Bool) (at : ℕ) (ls : List Line) (k : ℕ) (m : Line) → slice_get (blank R at ls) k ≡ Some m →
    (l : Line) × (slice_get ls k ≡ Some l) × (m ≡ (if R (at + k) then l else line None i.Finish))
blank_from R at [] k m e = cc
blank_from R at (l ∷ ls) zero m e =
    let z : at ≡ at + 0 = omega arith in
    let is : m ≡ (if R at then l else line None i.Finish) = cc in
    (l, refl, subst (λ n. m ≡ (if R n then l else line None i.Finish)) z is)
blank_from R at (l ∷ ls) (suc k) m e =
    let r = blank_from R (at + 1) ls k m e in
    let z : at + 1 + k ≡ at + suc k = omega arith in
    (r.0, r.1, subst (λ n. m ≡ (if R n then r.0 else line None i.Finish)) z r.2)

if_so : (b : Bool) (x y : Line) → b ≡ true → (if b then x else y) ≡ x
if_so true x y e = refl
if_so false x y e = cc

if_not : (b : Bool) (x y : Line) → b ≡ false → (if b then x else y) ≡ y
if_not true x y e = cc
if_not false x y e = refl

pub blank_same : (R : ℕ → Bool) (at : ℕ) (ls : List Line) (k : ℕ) → R (at + k) ≡ true → slice_get (blank R at ls) k ≡ slice_get ls k
blank_same R at [] k r = refl
blank_same R at (l ∷ ls) zero r =
    let z : at + 0 ≡ at = omega arith in
    ap (λ y. Some y) (if_so (R at) l (line None i.Finish) (ap R (sym z) ∙ r))
blank_same R at (l ∷ ls) (suc k) r =
    let z : at + 1 + k ≡ at + suc k = omega arith in
    blank_same R (at + 1) ls k (ap R z ∙ r)

abbrev pub with_lines : Code → List Line → Code
with_lines code ls = record { lines = ls; procedures = code.procedures; routines = code.routines }

-- what an instruction does, it does by the lines where procedures and routines begin
act_same : (limit : ℕ) (g : Setting) (code : Code) (ls : List Line) (x : Instruction) (v : Value) (here : Here) (s : State) →
    act limit g (with_lines code ls) x v here s ≡ act limit g code x v here s
act_same limit g code ls (i.Push k) v here s = refl
act_same limit g code ls x v here s = refl

does_same : (limit : ℕ) (g : Setting) (code : Code) (ls : List Line) (o : Option Line) (s : State) → does_line limit g (with_lines code ls) o s ≡ does_line limit g code o s
does_same limit g code ls None s = refl
does_same limit g code ls (Some l) s = act_same limit g code ls l.act l.value (placed l.place s.here) s

-- what is known of the lines of a code: those that are reached lead to such alone
pub record IsCovered (R : ℕ → Bool) (height N : ℕ → ℕ) (code : Code) : Type 0 where
  pub heights : AreHeights height code
  pub within : (pc : ℕ) → R pc ≡ true → pc < length code.lines
  pub kept : (pc : ℕ) (l : Line) → slice_get code.lines pc ≡ Some l → IsKept N pc l.act
  pub closed : (pc : ℕ) (l : Line) → slice_get code.lines pc ≡ Some l → R pc ≡ true → LeadsInto (λ j. R j ≡ true) pc l.act
  pub low : (pc : ℕ) → R pc ≡ true → height pc ≤ N pc
  pub begins : R 0 ≡ true
  pub start : height 0 ≡ 0
  pub procedures : (f : ℕ) (e : Entry) → slice_get code.procedures f ≡ Some e → R e.at ≡ true
  pub routines : (k : ℕ) (at : ℕ) → slice_get code.routines k ≡ Some at → R at ≡ true
  pub rooms : (pc : ℕ) (l : Line) (t : ℕ) → slice_get code.lines pc ≡ Some l → R pc ≡ true → l.act ≡ i.Routine t → RoutineHasRoom height N pc t code.routines

module _ (R : ℕ → Bool) (height N : ℕ → ℕ) (code : Code) (is : IsCovered R height N code) where
  abbrev blanked : Code
  blanked = with_lines code (blank R 0 code.lines)

  module _ (H : ℕ) where
    -- at lines that are not reached as much as may be
    abbrev height' : ℕ → ℕ
    height' pc = if R pc then height pc else H

    abbrev needs' : ℕ → ℕ
    needs' pc = if R pc then N pc else H

    if_n : (b : Bool) (x y : ℕ) → b ≡ true → (if b then x else y) ≡ x
    if_n true x y e = refl
    if_n false x y e = cc

    if_o : (b : Bool) (x y : ℕ) → b ≡ false → (if b then x else y) ≡ y
    if_o true x y e = cc
    if_o false x y e = refl

    same_height : (pc : ℕ) → R pc ≡ true → height' pc ≡ height pc
    same_height pc r = if_n (R pc) (height pc) H r

    same_need : (pc : ℕ) → R pc ≡ true → needs' pc ≡ N pc
    same_need pc r = if_n (R pc) (N pc) H r

    next_at : (pc rest : ℕ) (o : Option ℕ) → IsNext height pc rest o → IntoNext (λ j. R j ≡ true) pc o → IsNext height' pc rest o
    next_at pc rest None h r = tt
    next_at pc rest (Some left) h r = same_height (pc + 1) r ∙ h

    far_at : (pc rest : ℕ) (xs : List Far) → AreFar height pc rest xs → IntoFar (λ j. R j ≡ true) pc xs → AreFar height' pc rest xs
    far_at pc rest [] h r = tt
    far_at pc rest (x ∷ xs) h r = (same_height (pc + 1 + x.over) r.0 ∙ h.0, far_at pc rest xs h.1 r.1)

    height_at : (pc : ℕ) (x : Instruction) → R pc ≡ true → IsAt height pc x → LeadsInto (λ j. R j ≡ true) pc x → IsAt height' pc x
    height_at pc (i.GoBack d) r h l = same_height (pc - d) l.1 ∙ h ∙ sym (same_height pc r)
    height_at pc i.Back r h l = same_height pc r ∙ h
    height_at pc x r h l = record {
      rest = h.rest;
      before = same_height pc r ∙ h.before;
      next = next_at pc h.rest (effect x).next h.next l.next;
      far = far_at pc h.rest (effect x).far h.far l.far;
    }

    kept_next : (pc : ℕ) (o : Option ℕ) → R pc ≡ true → KeptNext N pc o → IntoNext (λ j. R j ≡ true) pc o → KeptNext needs' pc o
    kept_next pc None r h l = tt
    kept_next pc (Some left) r h l = same_need (pc + 1) l ∙ h ∙ sym (same_need pc r)

    kept_far : (pc : ℕ) (xs : List Far) → R pc ≡ true → KeptFar N pc xs → IntoFar (λ j. R j ≡ true) pc xs → KeptFar needs' pc xs
    kept_far pc [] r h l = tt
    kept_far pc (x ∷ xs) r h l = (same_need (pc + 1 + x.over) l.0 ∙ h.0 ∙ sym (same_need pc r), kept_far pc xs r h.1 l.1)

    kept_at : (pc : ℕ) (x : Instruction) → R pc ≡ true → IsKept N pc x → LeadsInto (λ j. R j ≡ true) pc x → IsKept needs' pc x
    kept_at pc (i.GoBack d) r h l = same_need (pc - d) l.1 ∙ h ∙ sym (same_need pc r)
    kept_at pc i.Back r h l = tt
    kept_at pc x r h l = record { next = kept_next pc (effect x).next r h.next l.next; far = kept_far pc (effect x).far r h.far l.far }

    by_line : (P : ℕ → Line → Type 0) (pc : ℕ) (m : Line) → slice_get blanked.lines pc ≡ Some m → ((l : Line) → slice_get code.lines pc ≡ Some l → R pc ≡ true → P pc l) →
        (R pc ≡ false → P pc (line None i.Finish)) → P pc m
    by_line P pc m e kept free = by_test (R pc) refl
      where
        b : (l : Line) × (slice_get code.lines pc ≡ Some l) × (m ≡ (if R (0 + pc) then l else line None i.Finish))
        b = blank_from R 0 code.lines pc m e

        z : 0 + pc ≡ pc
        z = zero-add pc

        by_test : (x : Bool) → R pc ≡ x → P pc m
        by_test true r = subst (λ l. P pc l) (sym (b.2 ∙ if_so (R (0 + pc)) b.0 (line None i.Finish) (ap R z ∙ r))) (kept b.0 b.1 r)
        by_test false r = subst (λ l. P pc l) (sym (b.2 ∙ if_not (R (0 + pc)) b.0 (line None i.Finish) (ap R z ∙ r))) (free r)

    begin_on : (pcs : List ℕ) → ((k at : ℕ) → slice_get pcs k ≡ Some at → R at ≡ true) → RoutinesBegin height pcs → RoutinesBegin height' pcs
    begin_on [] r h = tt
    begin_on (pc ∷ pcs) r h = (same_height pc (r 0 pc refl) ∙ h.0, begin_on pcs (λ k at e. r (suc k) at e) h.1)

    heights' : AreHeights height' blanked
    heights' = record {
      lines = λ pc m e. by_line (λ pc l. IsAt height' pc l.act) pc m e
          (λ l there r. height_at pc l.act r (is.heights.lines pc l there) (is.closed pc l there r))
          (λ r. record { rest = height' pc; before = sym (zero-add (height' pc)); next = tt; far = tt });
      procedures = λ f e there. same_height e.at (is.procedures f e there) ∙ is.heights.procedures f e there;
      routines = begin_on code.routines is.routines is.heights.routines;
    }

    room_on : (pc t : ℕ) (pcs : List ℕ) → R pc ≡ true → ((k at : ℕ) → slice_get pcs k ≡ Some at → R at ≡ true) → RoutineHasRoom height N pc t pcs → RoutineHasRoom height' needs' pc t pcs
    room_on pc t [] r rs h = tt
    room_on pc t (at ∷ pcs) r rs h = (
      λ e. omega (arith, h.0 e, same_need at (rs 0 at refl), same_height pc r, same_need pc r),
      room_on pc t pcs r (λ k at e. rs (suc k) at e) h.1,
    )

    low' : (pc : ℕ) → height' pc ≤ needs' pc
    low' pc = by_test (R pc) refl
      where
        by_test : (b : Bool) → R pc ≡ b → height' pc ≤ needs' pc
        by_test true r = omega (arith, same_height pc r, same_need pc r, is.low pc r)
        by_test false r = omega (arith, if_o (R pc) (height pc) H r, if_o (R pc) (N pc) H r)

    needs_are : AreNeeds height' needs' blanked
    needs_are = record {
      low = low';
      lines = λ pc m e. by_line (λ pc l. IsKept needs' pc l.act) pc m e (λ l there r. kept_at pc l.act r (is.kept pc l there) (is.closed pc l there r))
          (λ r. record { next = tt; far = tt });
      routines = λ pc m t e. by_line (λ pc l. l.act ≡ i.Routine t → RoutineHasRoom height' needs' pc t code.routines) pc m e
          (λ l there r a. room_on pc t code.routines r is.routines (is.rooms pc l t there r a)) (λ r a. cc);
    }

    -- ---- what stands on the stack

    too_many : (need room h : ℕ) (st : List Cell) → length st < h → Within height' needs' need room h st → ⊥
    too_many need room zero st lt w = absurd (omega (arith, lt))
    too_many need room (suc h) [] lt w = w
    too_many need room (suc h) (x ∷ st) lt w = too_many need room h st (omega (arith, lt)) w

    reached_by : (pc h need room : ℕ) (st : List Cell) → suc (length st) < H → height' pc ≡ suc h → Within height' needs' need room h st → R pc ≡ true
    reached_by pc h need room st lt e w = by_test (R pc) refl
      where
        by_test : (b : Bool) → R pc ≡ b → R pc ≡ true
        by_test true r = r
        by_test false r = absurd (too_many need room h st (omega (arith, lt, e, if_o (R pc) (height pc) H r)) w)

    whose : (need pc h : ℕ) (st : List Cell) → R pc ≡ true → length st < H → Within height' needs' need (needs' pc) h st → N (home height pc h st) ≡ need
    whose need pc zero [] r lt w = sym (same_need pc r) ∙ w
    whose need pc (suc h) [] r lt w = absurd w
    whose need pc zero (To back place ∷ below) r lt w =
        let rb = reached_by back w.0 need (needs' back) below lt w.1 w.3 in
        let e : height back - 1 ≡ w.0 = omega (arith, w.1, same_height back rb) in
        ap (λ h. N (home height back h below)) e ∙ whose need back w.0 below rb (omega (arith, lt)) w.3
    whose need pc zero (x ∷ below) r lt w = absurd w
    whose need pc (suc h) (x ∷ st) r lt w = whose need pc h st r (omega (arith, lt)) w

  -- ---- runs

  -- however much is put at lines that are not reached
  abbrev pub Steady : State → Type 0
  Steady s = (H : ℕ) → (need : ℕ) × (others : List ℕ) × IsWithin (height' H) (needs' H) need others s

  steady_step : (limit : ℕ) (g : Setting) (s t : State) (out : List Event) → Steady s → step limit g blanked s ≡ Goes out t → Steady t
  steady_step limit g s t out h e = λ H.
      let w = h H in
      let n = steps_keep_room limit g blanked (height' H) (needs' H) (heights' H) (needs_are H) s t out w.0 w.1 w.2 e in
      (n.need', n.others', n.is)

  steady_reached : (s : State) → Steady s → R s.pc ≡ true
  steady_reached s h = by_test (R s.pc) refl
    where
      by_test : (b : Bool) → R s.pc ≡ b → R s.pc ≡ true
      by_test true r = r
      by_test false r =
          let H = suc (length s.stack) in
          let w = h H in
          let e : length s.stack < height' H s.pc = omega (arith, if_o H (R s.pc) (height s.pc) H r) in
          absurd (too_many H w.0 (needs' H s.pc) (height' H s.pc) s.stack e w.2.stack)

  step_same : (limit : ℕ) (g : Setting) (s : State) → R s.pc ≡ true → step limit g blanked s ≡ step limit g code s
  step_same limit g s r =
      let z : 0 + s.pc ≡ s.pc = zero-add s.pc in
      ap (λ o. does_line limit g blanked o s) (blank_same R 0 code.lines s.pc (ap R z ∙ r)) ∙ does_same limit g code (blank R 0 code.lines) (slice_get code.lines s.pc) s

  run_steady : (limit : ℕ) (g : Setting) (k : ℕ) (s t : State) → Steady s → state_run limit g code k s ≡ Some t → Steady t
  run_steady limit g zero s t h e = let same : s ≡ t = cc in subst (λ u. Steady u) same h
  run_steady limit g (suc k) s t h e = by_next (step limit g code s) refl e (λ u h e. run_steady limit g k u t h e)
    where
      by_next : (x : Next) → step limit g code s ≡ x → state_next x (state_run limit g code k) ≡ Some t →
          ((u : State) → Steady u → state_run limit g code k u ≡ Some t → Steady t) → Steady t
      by_next (Goes out u) e there more = more u (steady_step limit g s u out h (step_same limit g s (steady_reached s h) ∙ e)) there
      by_next (state.Stays out halt) e there more = cc

  start_steady : (p : c.Program) (w : World) → Steady (start p w)
  start_steady p w = λ H.
      let e : 0 ≡ height' H 0 = sym (same_height H 0 is.begins ∙ is.start) in
      (needs' H 0, [], record { stack = subst (λ h. Within (height' H) (needs' H) (needs' H 0) (needs' H 0) h []) e refl; frames = tt })

  pub states_steady : (limit : ℕ) (p : c.Program) (answers : ℕ → Bool) (k : ℕ) (s : State) → state_after limit p code answers k ≡ Some s → Steady s
  states_steady limit p answers k s e =
      let r = (claim (core_here p) >>= λ done. enter p.main.initial).from (core_world p answers) in by_end r.out r.end e
    where
      by_end : {A : Type 0} (out : List Event) (end : End A) →
          state_next (ends_so out end (λ done w. start p w)) (state_run limit (core_setting p) code k) ≡ Some s → Steady s
      by_end out (Gives x w) e = run_steady limit (core_setting p) k (start p w) s (start_steady p w) e
      by_end out (Fails error place) e = cc
      by_end out (Stops stopped) e = cc
      by_end out Beyond e = cc

  -- ---- what activations have

  -- an activation has no more cells than the line says to which its routines lead back
  abbrev pub IsFew : ℕ → ℕ → List Cell → ℕ → Type 0
  IsFew pc h st cells = cells ≤ N (home height pc h st)

  abbrev pub FramesFew : List Frame → Type 0
  FramesFew [] = Unit {0}
  FramesFew (f ∷ fs) = IsFew f.pc (height f.pc - 1) f.stack (suc (length f.stack)) × FramesFew fs

  frames_few : (H : ℕ) (xs : List ℕ) (fs : List Frame) → suc (frames_cells fs) < H → FramesWithin (height' H) (needs' H) xs fs → FramesHave (height' H) (needs' H) xs fs → FramesFew fs
  frames_few H [] [] lt w h = tt
  frames_few H [] (f ∷ fs) lt w h = absurd w
  frames_few H (x ∷ xs) [] lt w h = absurd w
  frames_few H (x ∷ xs) (f ∷ fs) lt w h =
      let r = reached_by H f.pc w.0 x (needs' H f.pc) f.stack (omega (arith, lt)) w.1 w.2 in
      let e : height f.pc - 1 ≡ w.0 = omega (arith, w.1, same_height H f.pc r) in
      let mine = ap (λ h. N (home height f.pc h f.stack)) e ∙ whose H x f.pc w.0 f.stack r (omega (arith, lt)) w.2 in
      (omega (arith, mine, h.0), frames_few H xs fs (omega (arith, lt)) w.3 h.2)

  pub steady_few : (s : State) → Steady s → IsFew s.pc (height s.pc) s.stack (length s.stack) × FramesFew s.frames
  steady_few s h =
      let H = suc (suc (length s.stack + frames_cells s.frames)) in
      let w = h H in
      let room = (all_have_room blanked (height' H) (needs' H) (needs_are H) w.0 w.1 s w.2).0 in
      let r = steady_reached s h in
      let stack = subst (λ n. Within (height' H) (needs' H) w.0 (needs' H s.pc) n s.stack) (same_height H s.pc r) w.2.stack in
      let mine = whose H w.0 s.pc (height s.pc) s.stack r (omega arith) stack in
      (omega (arith, mine, room.stack), frames_few H w.1 s.frames (omega arith) w.2.frames room.frames)
