-- The machine over a heap of a size is a machine with answers.
use Rattle.std.specs.Prelude.{◌≡◌, ◌≤◌, ℕ, Bool}
use Rattle.f3_code.specs.Core.{Program}
use Rattle.f3_code.specs.State.{Code}
use Rattle.f3_code.specs.Run.{after}
use Rattle.f3_code.specs.Heap.{heap_after}

-- for so many instructions, with these answers
abbrev pub AnswersOf : ℕ → ℕ → Program → Code → ℕ → (ℕ → Bool) → Type 0
AnswersOf size limit p code k answers = (j : ℕ) → j ≤ k → after limit p code answers j ≡ heap_after size limit p code j

abbrev pub HeapAnswers : Type 0
HeapAnswers = (size limit : ℕ) (p : Program) (code : Code) (k : ℕ) → (answers : ℕ → Bool) × AnswersOf size limit p code k answers
