-- The laws of parts of a run.
use Rattle.std.specs.Prelude.{ℕ, ◌+◌, List, ◌++◌}
use Rattle.f3_program.specs.declared.program.Program.{Program}
use Rattle.f3_code.specs.State.{State}
use Rattle.f3_code.specs.Heap.{granted, with_answers}
use Rattle.f3_courses.specs.Courses.{Tells}
use Rattle.f3_granted_laws.specs.Laws.{greatest}
use Rattle.f3_cells.specs.States.{setting}
use Rattle.f3_word_cells.specs.Scenes.{code_of}
use Rattle.f3_word_cells.specs.Does.{IsTold}
use Rattle.f3_word_laws.specs.Comes.{Comes}
use Rattle.f3_word_needs.specs.Room.{HasRoom, IsOfRun}

-- Behind one part comes another.
abbrev pub PartsComeOn : Type 0
PartsComeOn = (p : Program) (t u v : State) (k n : ℕ) (bytes more : List ℕ) → Comes p t u k bytes → Comes p u v n more → Comes p t v (k + n) (bytes ++ more)

-- From a state of a run it leads to such a state.
abbrev pub PartsAreOfRuns : Type 0
PartsAreOfRuns = (p : Program) (t u : State) (k : ℕ) (bytes : List ℕ) → IsOfRun p t → Comes p t u k bytes → IsOfRun p u

-- The state to which a part leads, with all that is known of the states of runs.
pub record Leads (p : Program) (t u : State) (k : ℕ) (bytes : List ℕ) : Type 0 where
  pub comes : Comes p t u k bytes
  pub told : IsTold p u
  pub room : HasRoom p u

-- What the machine over the greatest heap does from a state of a run of a program without allocatables is such a part.
abbrev pub GreatestLeads : Type 0
GreatestLeads = (p : Program) (t u : State) (k : ℕ) (bytes : List ℕ) → IsTold p t → HasRoom p t
    → Tells greatest (setting p) (code_of p) k (with_answers granted t) u bytes → Leads p t u k bytes
