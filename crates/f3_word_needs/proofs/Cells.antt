-- All activations together have few cells.
use Rattle.std.proofs.Common.{◌≡◌, ◌≤◌, ℕ, zero, suc, ◌+◌, ◌-◌, ◌*◌, Bool, false, List, [], ◌∷◌, length, Option, None, Some, refl, sym, ap, ◌∙◌, subst, arith}
use Rattle.std.specs.Prelude.{slice_get, slice_index}
use Rattle.std.proofs.Math.Nat.{mul-le-mul_right}
use Rattle.f3_meaning_whole.specs.Act.{Setting, claim, enter}
use Rattle.f3_meaning_whole.specs.Ran.{Event, World, End, Gives, Fails, Stops, Beyond, ◌>>=◌}
use Rattle.f3_code.specs.Core as c
use Rattle.f3_code.specs.CoreRun.{core_setting, core_here, core_world}
use Rattle.f3_code.specs.Lower.{lowered_program}
use Rattle.f3_code.specs.declared.instruction.Instruction.{Instruction}
use Rattle.f3_code.specs.State as state
use Rattle.f3_code.specs.State.{Line, Entry, Code, Cell, Frame, State, Next, Goes}
use Rattle.f3_code.specs.Machine.{step, does_line, ends_so}
use Rattle.f3_code.specs.Code.{program_code}
use Rattle.f3_code.specs.Run.{start}
use Rattle.f3_code.specs.Heap.{with_answers}
use Rattle.f3_heights.specs.Program.{program_heights}
use Rattle.f3_heights.specs.Room.{all_cells, frames_cells, greatest, home, Change, Stays, Begins, Ends, state_next, state_run, state_after}
use Rattle.f3_heights.proofs.OfProgram.{heights_all, code_has_heights}
use Rattle.f3_heights.proofs.Regions.{greatest_first}
use Rattle.f3_heights.proofs.Keeping.{Above, FramesIn, FitsIn, as_many}
use Rattle.f3_heights.proofs.Stepping.{step_keeps}
use Rattle.f3_sizes.specs.declared.answer.Needs.{Needs}
use Rattle.f3_sizes.specs.Needs.{IsWithinAnswer, CallersWithinAnswers, AreNeverDeeper}
use Rattle.f3_word_cells.specs.Does.{stream}
use Rattle.f3_word_needs.specs.Laws.{CellsAreFew}
use Rattle.f3_word_needs.proofs.Owners.{marks, OfProgram, of_program, whose, plan, sound, above_chain, chain_home}
use Rattle.f3_word_needs.proofs.Shifting as shifting
use Rattle.f3_word_needs.proofs.Shifting.{Shift, line_shifts}
use Rattle.f3_word_needs.proofs.Keeping.{callers_are_few}

module _ (p : c.Program) where
  abbrev height : ℕ → ℕ
  height = slice_index (program_heights p)

  abbrev mark : ℕ → ℕ
  mark = slice_index (marks p)

  abbrev code : Code
  code = program_code p

  known : OfProgram height mark p
  known = of_program height mark p (heights_all (program_heights p) []) (heights_all (marks p) [])

  -- the main program has called procedures
  abbrev Piled : ℕ → List ℕ → Type 0
  Piled need [] = need ≡ 1
  Piled need (other ∷ others) = (2 ≤ need) × Piled other others

  record Owned (s : State) : Type 0 where
    need : ℕ
    others : List ℕ
    fits : FitsIn (plan height mark) need others s
    piled : Piled need others

  -- ---- a step

  line_shifted : (limit : ℕ) (g : Setting) (s t : State) (out : List Event) (o : Option Line) → does_line limit g code o s ≡ Goes out t → (x : Instruction) × Shift code x s t
  line_shifted limit g s t out None e = cc
  line_shifted limit g s t out (Some l) e = (l.act, line_shifts limit g code l s t out e)

  begun : (x : Instruction) (s t : State) → Shift code x s t → length t.frames ≡ suc (length s.frames) → 2 ≤ mark t.pc
  begun x s t (shifting.Stays q) n = absurd (omega (arith, n, ap (λ (fs : List Frame). length fs) q.frames))
  begun x s t (shifting.Leaving q) n = absurd (omega (arith, n, ap (λ (fs : List Frame). length fs) q.frames))
  begun x s t (shifting.Looking q) n = absurd (omega (arith, n, ap (λ (fs : List Frame). length fs) q.frames))
  begun x s t (shifting.Opening q) n = absurd (omega (arith, n, ap (λ (fs : List Frame). length fs) q.frames))
  begun x s t (shifting.Closing q) n = absurd (omega (arith, n, ap (λ (fs : List Frame). length fs) q.frames))
  begun x s t (shifting.Calling q) n = omega (arith, ap mark q.pc, known.entries q.number q.entry q.is)
  begun x s t (shifting.Returning q) n = absurd (omega (arith, n, ap (λ (fs : List Frame). length fs) q.callers))

  changed : (limit need need' : ℕ) (others others' : List ℕ) (x : Instruction) (s t : State) → Change limit need others (mark t.pc) need' others' → Shift code x s t →
      length others ≡ length s.frames → length others' ≡ length t.frames → Piled need others → Piled need' others'
  changed limit need need' others others' x s t (Stays a b) shift n n' h = subst (λ k. Piled k others') (sym a) (subst (λ ks. Piled need ks) (sym b) h)
  changed limit need need' others others' x s t (Begins few a b) shift n n' h =
      let more = begun x s t shift (omega (arith, n, n', ap (λ (ks : List ℕ). length ks) b)) in
      subst (λ ks. Piled need' ks) (sym b) (omega (arith, a, more), h)
  changed limit need need' others others' x s t (Ends b) shift n n' h = (subst (λ ks. Piled need ks) b h).1

  owned_step : (limit : ℕ) (g : Setting) (s t : State) (out : List Event) → Owned s → step limit g code s ≡ Goes out t → Owned t
  owned_step limit g s t out h e =
      let a = step_keeps limit g code (plan height mark) (sound height mark code (code_has_heights p).1 known.kept) h.need h.others s t out h.fits e in
      let shift = line_shifted limit g s t out (slice_get code.lines s.pc) e in
      record {
        need = a.top;
        others = a.others;
        fits = a.fits;
        piled = changed limit h.need a.top h.others a.others shift.0 s t a.change shift.1 (as_many (plan height mark) h.others s.frames h.fits.frames)
            (as_many (plan height mark) a.others t.frames a.fits.frames) h.piled;
      }

  -- ---- runs

  starts_owned : (w : World) → Owned (start p w)
  starts_owned w = record {
    need = 1;
    others = [];
    fits = record { stack = subst (λ h. Above (plan height mark) 1 (mark 0) h []) (sym known.begins) known.start; frames = tt };
    piled = refl;
  }

  run_owned : (limit : ℕ) (g : Setting) (k : ℕ) (s t : State) → Owned s → state_run limit g code k s ≡ Some t → Owned t
  run_owned limit g zero s t h e = let same : s ≡ t = cc in subst Owned same h
  run_owned limit g (suc k) s t h e = by_next (step limit g code s) refl e (λ u h e. run_owned limit g k u t h e)
    where
      by_next : (x : Next) → step limit g code s ≡ x → state_next x (state_run limit g code k) ≡ Some t → ((u : State) → Owned u → state_run limit g code k u ≡ Some t → Owned t) → Owned t
      by_next (Goes out u) is e more = more u (owned_step limit g s u out h is) e
      by_next (state.Stays out halt) is e more = cc

  after_owned : (limit : ℕ) (answers : ℕ → Bool) (k : ℕ) (s : State) → state_after limit p code answers k ≡ Some s → Owned s
  after_owned limit answers k s e =
      let r = (claim (core_here p) >>= λ done. enter p.main.initial).from (core_world p answers) in by_end r.out r.end e
    where
      by_end : {A : Type 0} (out : List Event) (end : End A) →
          state_next (ends_so out end (λ done w. start p w)) (state_run limit (core_setting p) code k) ≡ Some s → Owned s
      by_end out (Gives x w) e = run_owned limit (core_setting p) k (start p w) s (starts_owned w) e
      by_end out (Fails error place) e = cc
      by_end out (Stops number) e = cc
      by_end out Beyond e = cc

  -- ---- how many cells

  module _ (n : Needs) where
    abbrev most : ℕ
    most = greatest n.procedures.items

    -- so many cells, in an activation of a mark
    record Within (need cells : ℕ) : Type 0 where
      main : need ≡ 1 → cells ≤ n.main
      procedure : 2 ≤ need → cells ≤ most

    index_greatest : (ks : List ℕ) (k : ℕ) → slice_index ks k ≤ greatest ks
    index_greatest [] k = omega arith
    index_greatest (h ∷ hs) zero = (greatest_first h hs).0
    index_greatest (h ∷ hs) (suc k) = omega (arith, index_greatest hs k, (greatest_first h hs).1)

    within : (need pc cells : ℕ) → mark pc ≡ need → IsWithinAnswer p n pc cells → Within need cells
    within need pc cells e h =
        let w = whose p pc in record {
          main = λ one. h None (w.main (e ∙ one));
          procedure = λ more.
              let le : 2 ≤ mark pc = omega (arith, e, more) in
              let f = w.procedure le in
              omega (arith, h (Some f.0) f.1, index_greatest n.procedures.items f.0);
        }

    few : (need cells : ℕ) (others : List ℕ) (fs : List Frame) → Within need cells → Piled need others → FramesIn (plan height mark) others fs → CallersWithinAnswers p n fs →
        cells + frames_cells fs ≤ n.main + length others * most
    few need cells [] [] w h i a = omega (arith, w.main h)
    few need cells [] (f ∷ fs) w h i a = absurd i
    few need cells (y ∷ others) [] w h i a = absurd i
    few need cells (y ∷ others) (f ∷ fs) w h i a =
        let same : height f.pc - 1 ≡ i.0 = omega (arith, i.1) in
        let at = ap (λ k. mark (home height f.pc k f.stack)) same ∙ chain_home height mark y f.pc i.0 f.stack (above_chain height mark y (mark f.pc) i.0 f.stack i.2) in
        let own = within y (home height f.pc (height f.pc - 1) f.stack) (suc (length f.stack)) at a.0 in
        let rest = few y (suc (length f.stack)) others fs own h.1 i.3 a.1 in
        omega (arith, w.procedure h.0, rest)

    pub cells_few : AreNeverDeeper p n → (limit : ℕ) (answers : ℕ → Bool) (k : ℕ) (s : State) → state_after limit p code answers k ≡ Some s →
        (j : ℕ) → length s.frames ≤ j → all_cells s ≤ n.main + j * most
    cells_few deep limit answers k s e j le =
        let o = after_owned limit answers k s e in
        let d = deep limit answers k s e in
        let at = chain_home height mark o.need s.pc (height s.pc) s.stack (above_chain height mark o.need (mark s.pc) (height s.pc) s.stack o.fits.stack) in
        let own = within o.need (home height s.pc (height s.pc) s.stack) (length s.stack) at d.0 in
        let all = few o.need (length s.stack) o.others s.frames own o.piled o.fits.frames d.1 in
        let many = as_many (plan height mark) o.others s.frames o.fits.frames in
        let fewer : length o.others ≤ j = omega (arith, many, le) in
        omega (arith, all, mul-le-mul_right most fewer)

none_more : ℕ → Bool
none_more n = false

pub cells_are_few : CellsAreFew
cells_are_few p n t deep room = cells_few (lowered_program p) n deep 1000 (stream room.run.given none_more) room.run.lines (with_answers none_more t) (room.run.comes none_more) 1000
    (callers_are_few p t room)
