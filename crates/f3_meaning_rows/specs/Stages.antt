-- The stages of a run.
use Rattle.std.specs.Prelude.{◌≡◌, [], ◌∷◌, map, length}
use Rattle.std.specs.declared.alloc.Global.{Global}
use Rattle.f3_meaning_whole.specs.Ran.{Stage}
use Rattle.f3_meaning_whole.specs.Run.{run_of, stages}
use Rattle.f3_meaning_rows.specs.Shown.{granted}
use Rattle.f3_meaning_rows.specs.Rows4.{sample_09_finals}

-- In go: a CALL, three assignments, the third of which calls the final (its PRINT and END, with the object lent by the
-- destruction and by the call); a PRINT, the END, where the final is called for two locals; the END of the program.
abbrev pub StagesStand : Type 0
StagesStand = (h : Global) → map (λ (s : Stage). length s.lent) (stages (run_of (sample_09_finals h) 5 granted).out) ≡ 0 ∷ 0 ∷ 0 ∷ 0 ∷ 2 ∷ 2 ∷ 0 ∷ 0
    ∷ 2 ∷ 2 ∷ 2 ∷ 2 ∷ 0 ∷ []
