-- The machine over a heap of a size keeps to heights and needs.
use Rattle.std.proofs.Common.{◌≡◌, ℕ, List, Bool, Option, None, Some, refl, sym, ap, ◌∙◌}
use Rattle.std.specs.Prelude.{slice_get}
use Rattle.f3_meaning_whole.specs.Ran.{Event}
use Rattle.f3_meaning_whole.specs.Act.{Setting}
use Rattle.f3_code.specs.State.{Line, Code, State, Goes}
use Rattle.f3_code.specs.Machine.{does_line, step}
use Rattle.f3_code.specs.Account.{used}
use Rattle.f3_code.specs.Wants.{wants}
use Rattle.f3_code.specs.Heap.{with_answers, answers_to, heap_does_line, heap_step}
use Rattle.f3_heights.specs.Heights.{AreHeights, Fits}
use Rattle.f3_heights.specs.Room.{IsWithin, NextWithin}
use Rattle.f3_heights.proofs.Plain.{steps_fit}
use Rattle.f3_heights.proofs.Within.{steps_keep_room}
use Rattle.f3_heights.specs.Needs.{AreNeeds}

module _ (size limit : ℕ) (g : Setting) (code : Code) where
  -- a step over a heap is one with some answers of it
  pub heap_answers : (s : State) → (answers : ℕ → Bool) × (heap_step size limit g code s ≡ step limit g code (with_answers answers s))
  heap_answers s = by_line (slice_get code.lines s.pc) refl
    where
      by_line : (o : Option Line) → slice_get code.lines s.pc ≡ o →
          (answers : ℕ → Bool) × (heap_step size limit g code s ≡ step limit g code (with_answers answers s))
      by_line None e = (s.world.answers, ap (λ o. heap_does_line size limit g code o s) e ∙ sym (ap (λ o. does_line limit g code o s) e))
      by_line (Some l) e =
          let answers = answers_to size (used s.world.store) (wants limit code l.act l.value s) in
          (answers, ap (λ o. heap_does_line size limit g code o s) e ∙ sym (ap (λ o. does_line limit g code o (with_answers answers s)) e))

pub heap_steps_fit : (size limit : ℕ) (g : Setting) (code : Code) (height : ℕ → ℕ) → AreHeights height code → (s t : State) (out : List Event) →
    Fits height s → heap_step size limit g code s ≡ Goes out t → Fits height t
heap_steps_fit size limit g code height heights s t out h e =
    let a = heap_answers size limit g code s in
    let there : Fits height (with_answers a.0 s) = record { stack = h.stack; frames = h.frames } in
    steps_fit limit g code height heights (with_answers a.0 s) t out there (sym a.1 ∙ e)

pub heap_steps_keep_room : (size limit : ℕ) (g : Setting) (code : Code) (height needs : ℕ → ℕ) → AreHeights height code → AreNeeds height needs code →
    (s t : State) (out : List Event) (need : ℕ) (others : List ℕ) → IsWithin height needs need others s → heap_step size limit g code s ≡ Goes out t →
    NextWithin limit height needs need others t
heap_steps_keep_room size limit g code height needs hs ns s t out need others h e =
    let a = heap_answers size limit g code s in
    let there : IsWithin height needs need others (with_answers a.0 s) = record { stack = h.stack; frames = h.frames } in
    steps_keep_room limit g code height needs hs ns (with_answers a.0 s) t out need others there (sym a.1 ∙ e)
