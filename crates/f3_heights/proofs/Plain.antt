-- Heights alone, with no marks.
use Rattle.std.proofs.Common.{◌≡◌, ℕ, zero, suc, List, [], ◌∷◌, Option, Some, None, refl}
use Rattle.std.specs.Prelude.{map}
use Rattle.f3_meaning_whole.specs.Ran.{Event}
use Rattle.f3_meaning_whole.specs.Act.{Setting}
use Rattle.f3_code.specs.declared.instruction.Instruction.{Instruction}
use Rattle.f3_code.specs.declared.instruction.Instruction.TheVariants as i
use Rattle.f3_code.specs.State.{Code, Cell, Frame, State, Goes}
use Rattle.f3_code.specs.Machine.{step}
use Rattle.f3_heights.specs.Effect.{Far, effect}
use Rattle.f3_heights.specs.Needs.{KeptNext, KeptFar, IsKept}
use Rattle.f3_heights.specs.Heights.{RoutinesBegin, AreHeights, Stand, FramesFit, Fits}
use Rattle.f3_heights.proofs.Keeping.{Plan, Above, FramesIn, FitsIn}
use Rattle.f3_heights.proofs.Stepping.{RoutinesEnter, Sound, step_keeps}

module _ (height : ℕ → ℕ) where
  abbrev plan : Plan
  plan = record { height = height; mark = λ pc. 0; under = λ need mark st. Stand height 0 st }

  stand_above : (need h : ℕ) (st : List Cell) → Stand height h st → Above plan need 0 h st
  stand_above need zero st s = s
  stand_above need (suc h) [] s = s
  stand_above need (suc h) (c ∷ st) s = stand_above need h st s

  above_stand : (need h : ℕ) (st : List Cell) → Above plan need 0 h st → Stand height h st
  above_stand need zero st s = s
  above_stand need (suc h) [] s = s
  above_stand need (suc h) (c ∷ st) s = above_stand need h st s

  kept_next : (pc : ℕ) (o : Option ℕ) → KeptNext (λ pc. 0) pc o
  kept_next pc None = tt
  kept_next pc (Some left) = refl

  kept_far : (pc : ℕ) (xs : List Far) → KeptFar (λ pc. 0) pc xs
  kept_far pc [] = tt
  kept_far pc (x ∷ xs) = (refl, kept_far pc xs)

  kept : (x : Instruction) (pc : ℕ) → IsKept (λ pc. 0) pc x
  kept (i.GoBack d) pc = refl
  kept i.Back pc = tt
  kept x pc = record { next = kept_next pc (effect x).next; far = kept_far pc (effect x).far }

  enter : (pc t : ℕ) (pcs : List ℕ) → RoutinesBegin height pcs → RoutinesEnter plan pc t pcs
  enter pc t [] h = tt
  enter pc t (to ∷ pcs) h = (λ is. record { one = h.0; under = λ need place st k e s. (k, e, above_stand need k st s) }, enter pc t pcs h.1)

  sound : (code : Code) → AreHeights height code → Sound plan code
  sound code h = record {
    rules = record {
      back = λ need mark pc place st s. (s.0, s.1, stand_above need s.0 st s.2);
      begin = λ mark. tt;
    };
    lines = h.lines;
    kept = λ pc l is. kept l.act pc;
    enters = λ pc l is t e. enter pc t code.routines h.routines;
    procedures = h.procedures;
  }

  frames_in : (fs : List Frame) → FramesFit height fs → FramesIn plan (map (λ f. 0) fs) fs
  frames_in [] h = tt
  frames_in (f ∷ fs) h = (h.0, h.1, stand_above 0 h.0 f.stack h.2, frames_in fs h.3)

  frames_fit : (needs : List ℕ) (fs : List Frame) → FramesIn plan needs fs → FramesFit height fs
  frames_fit needs [] h = tt
  frames_fit [] (f ∷ fs) h = absurd h
  frames_fit (n ∷ ns) (f ∷ fs) h = (h.0, h.1, above_stand n h.0 f.stack h.2, frames_fit ns fs h.3)

  fits_out : (need : ℕ) (needs : List ℕ) (t : State) → FitsIn plan need needs t → Fits height t
  fits_out need needs t h = record { stack = above_stand need (height t.pc) t.stack h.stack; frames = frames_fit needs t.frames h.frames }

pub steps_fit : (limit : ℕ) (g : Setting) (code : Code) (height : ℕ → ℕ) → AreHeights height code →
    (s t : State) (out : List Event) → Fits height s → step limit g code s ≡ Goes out t → Fits height t
steps_fit limit g code height heights s t out fits e =
    let start : FitsIn (plan height) 0 (map (λ f. 0) s.frames) s = record {
      stack = stand_above height 0 (height s.pc) s.stack fits.stack;
      frames = frames_in height s.frames fits.frames;
    } in
    let r = step_keeps limit g code (plan height) (sound height code heights) 0 (map (λ f. 0) s.frames) s t out start e in
    fits_out height r.top r.others t r.fits
