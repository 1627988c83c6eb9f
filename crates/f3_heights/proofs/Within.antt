-- Each step keeps to what activations need, which have no more cells than that.
use Rattle.std.proofs.Common.{◌≡◌, ℕ, zero, suc, ◌+◌, ◌-◌, ◌≤◌, List, [], ◌∷◌, length, refl, ap, ◌∙◌, subst, arith}
use Rattle.f3_meaning_whole.specs.Ran.{Event}
use Rattle.f3_meaning_whole.specs.Act.{Setting}
use Rattle.f3_code.specs.State.{Code, Cell, To, Frame, State, Goes}
use Rattle.f3_code.specs.Machine.{step}
use Rattle.f3_heights.specs.Heights.{Stand, FramesFit, Fits}
use Rattle.f3_heights.specs.Room.{home, Within, FramesWithin, IsWithin, FramesHave, HasRoom, NextWithin}
use Rattle.f3_heights.proofs.Keeping.{FramesIn, FitsIn}
use Rattle.f3_heights.proofs.Stepping.{step_keeps}
use Rattle.f3_heights.specs.Effect.{on}
use Rattle.f3_heights.specs.Heights.{Leads, IsAt, RoutinesBegin, AreHeights}
use Rattle.f3_heights.specs.Needs.{Kept, IsKept, RoutineHasRoom, AreNeeds}
use Rattle.f3_heights.proofs.Keeping.{Plan, Above, FramesIn, FitsIn, Rules}
use Rattle.f3_heights.proofs.Stepping.{RoutinesEnter, Sound}

module _ (height room : ℕ → ℕ) where
  abbrev pub plan : Plan
  plan = record { height = height; mark = room; under = λ need mark st. Within height room need mark 0 st }

  pub within_above : (need mark h : ℕ) (st : List Cell) → Within height room need mark h st → Above plan need mark h st
  within_above need mark zero st s = s
  within_above need mark (suc h) [] s = s
  within_above need mark (suc h) (x ∷ st) s = within_above need mark h st s

  pub above_within : (need mark h : ℕ) (st : List Cell) → Above plan need mark h st → Within height room need mark h st
  above_within need mark zero st s = s
  above_within need mark (suc h) [] s = s
  above_within need mark (suc h) (x ∷ st) s = above_within need mark h st s

  rules : Rules plan
  rules = record {
    back = λ need mark pc place st s. (s.0, s.1, within_above need (room pc) s.0 st s.3);
    begin = λ mark. refl;
  }

  frames_in : (needs : List ℕ) (fs : List Frame) → FramesWithin height room needs fs → FramesIn plan needs fs
  frames_in [] [] h = tt
  frames_in [] (f ∷ fs) h = absurd h
  frames_in (n ∷ ns) [] h = absurd h
  frames_in (n ∷ ns) (f ∷ fs) h = (h.0, h.1, within_above n (room f.pc) h.0 f.stack h.2, frames_in ns fs h.3)

  frames_out : (needs : List ℕ) (fs : List Frame) → FramesIn plan needs fs → FramesWithin height room needs fs
  frames_out [] [] h = tt
  frames_out [] (f ∷ fs) h = absurd h
  frames_out (n ∷ ns) [] h = absurd h
  frames_out (n ∷ ns) (f ∷ fs) h = (h.0, h.1, above_within n (room f.pc) h.0 f.stack h.2, frames_out ns fs h.3)

  fits_in : (need : ℕ) (needs : List ℕ) (s : State) → IsWithin height room need needs s → FitsIn plan need needs s
  fits_in need needs s h = record { stack = within_above need (room s.pc) (height s.pc) s.stack h.stack; frames = frames_in needs s.frames h.frames }

  fits_out : (need : ℕ) (needs : List ℕ) (s : State) → FitsIn plan need needs s → IsWithin height room need needs s
  fits_out need needs s h = record { stack = above_within need (room s.pc) (height s.pc) s.stack h.stack; frames = frames_out needs s.frames h.frames }

  -- ---- how many cells there are

  within_length : (need mark h : ℕ) (st : List Cell) → Within height room need mark h st → length st + mark ≤ need + h
  within_length need mark zero [] s = omega (arith, s)
  within_length need mark (suc h) [] s = absurd s
  within_length need mark zero (To back place ∷ below) s = omega (arith, within_length need (room back) s.0 below s.3, s.2)
  within_length need mark zero (c ∷ below) s = absurd s
  within_length need mark (suc h) (c ∷ below) s = omega (arith, within_length need mark h below s)

  -- what is needed is what the line of the procedure says
  within_home : (need pc h : ℕ) (st : List Cell) → Within height room need (room pc) h st → room (home height pc h st) ≡ need
  within_home need pc zero [] s = s
  within_home need pc (suc h) [] s = absurd s
  within_home need pc zero (To back place ∷ below) s =
      let e : height back - 1 ≡ s.0 = omega (arith, s.1) in
      ap (λ h. room (home height back h below)) e ∙ within_home need back s.0 below s.3
  within_home need pc zero (c ∷ below) s = absurd s
  within_home need pc (suc h) (c ∷ below) s = within_home need pc h below s

  frames_have : ((pc : ℕ) → height pc ≤ room pc) → (needs : List ℕ) (fs : List Frame) → FramesWithin height room needs fs → FramesHave height room needs fs
  frames_have low [] [] h = tt
  frames_have low [] (f ∷ fs) h = absurd h
  frames_have low (n ∷ ns) [] h = absurd h
  frames_have low (n ∷ ns) (f ∷ fs) h =
      let e : height f.pc - 1 ≡ h.0 = omega (arith, h.1) in (
        omega (arith, within_length n (room f.pc) h.0 f.stack h.2, low f.pc, h.1),
        ap (λ h. room (home height f.pc h f.stack)) e ∙ within_home n f.pc h.0 f.stack h.2,
        frames_have low ns fs h.3,
      )

  has_room : ((pc : ℕ) → height pc ≤ room pc) → (need : ℕ) (needs : List ℕ) (s : State) → IsWithin height room need needs s →
      HasRoom height room need needs s
  has_room low need needs s h = record {
    stack = omega (arith, within_length need (room s.pc) (height s.pc) s.stack h.stack, low s.pc);
    procedure = within_home need s.pc (height s.pc) s.stack h.stack;
    frames = frames_have low needs s.frames h.frames;
  }

  -- ---- and that they are those that the heights say

  within_stand : (need mark h : ℕ) (st : List Cell) → Within height room need mark h st → Stand height h st
  within_stand need mark zero [] s = tt
  within_stand need mark (suc h) [] s = s
  within_stand need mark zero (To back place ∷ below) s = (s.0, s.1, within_stand need (room back) s.0 below s.3)
  within_stand need mark zero (c ∷ below) s = s
  within_stand need mark (suc h) (c ∷ below) s = within_stand need mark h below s

  frames_fit : (needs : List ℕ) (fs : List Frame) → FramesWithin height room needs fs → FramesFit height fs
  frames_fit needs [] h = tt
  frames_fit [] (f ∷ fs) h = absurd h
  frames_fit (n ∷ ns) (f ∷ fs) h = (h.0, h.1, within_stand n (room f.pc) h.0 f.stack h.2, frames_fit ns fs h.3)

  -- ---- steps

  enters_at : (pc t : ℕ) → Leads height pc (on 1 1) → Kept room pc (on 1 1) → (pcs : List ℕ) → RoutinesBegin height pcs → RoutineHasRoom height room pc t pcs →
      RoutinesEnter plan pc t pcs
  enters_at pc t lead kept [] b h = tt
  enters_at pc t lead kept (to ∷ pcs) b h = (
    λ is. record {
      one = b.0;
      under = λ need place st k e s.
          let more : room to + suc k ≤ room (pc + 1) = omega (arith, lead.before, lead.next, kept.next, h.0 is, e) in
          (k, e, more, above_within need (room (pc + 1)) k st s);
    },
    enters_at pc t lead kept pcs b.1 h.1,
  )

  sound : (code : Code) → AreHeights height code → AreNeeds height room code → Sound plan code
  sound code h n = record {
    rules = rules;
    lines = h.lines;
    kept = n.lines;
    enters = λ pc l is t e. enters_at pc t (subst (λ x. IsAt height pc x) e (h.lines pc l is)) (subst (λ x. IsKept room pc x) e (n.lines pc l is)) code.routines
        h.routines (n.routines pc l t is e);
    procedures = h.procedures;
  }

  pub within_has_room : (code : Code) → AreNeeds height room code → (need : ℕ) (others : List ℕ) (s : State) → IsWithin height room need others s →
      HasRoom height room need others s × Fits height s
  within_has_room code n need others s h = (
    has_room n.low need others s h,
    record { stack = within_stand need (room s.pc) (height s.pc) s.stack h.stack; frames = frames_fit others s.frames h.frames },
  )

  pub step_within : (code : Code) → AreHeights height code → AreNeeds height room code → (limit : ℕ) (g : Setting) (s t : State) (out : List Event)
      (need : ℕ) (others : List ℕ) → IsWithin height room need others s → step limit g code s ≡ Goes out t → NextWithin limit height room need others t
  step_within code hs ns limit g s t out need others h e =
      let r = step_keeps limit g code plan (sound code hs ns) need others s t out (fits_in need others s h) e in
      record { need' = r.top; others' = r.others; change = r.change; is = fits_out r.top r.others t r.fits }

pub steps_keep_room : (limit : ℕ) (g : Setting) (code : Code) (height needs : ℕ → ℕ) → AreHeights height code → AreNeeds height needs code →
    (s t : State) (out : List Event) (need : ℕ) (others : List ℕ) → IsWithin height needs need others s → step limit g code s ≡ Goes out t →
    NextWithin limit height needs need others t
steps_keep_room limit g code height needs hs ns s t out need others h e = step_within height needs code hs ns limit g s t out need others h e

pub all_have_room : (code : Code) (height needs : ℕ → ℕ) → AreNeeds height needs code → (need : ℕ) (others : List ℕ) (s : State) →
    IsWithin height needs need others s → HasRoom height needs need others s × Fits height s
all_have_room code height needs n need others s h = within_has_room height needs code n need others s h
