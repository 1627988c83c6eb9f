-- The code that was emitted for a program.
use Rattle.std.specs.Prelude.{ℕ, List, [], ◌∷◌}
use Rattle.f3_program.specs.declared.program.Procedure.{Procedure}
use Rattle.f3_program.specs.declared.program.Program.{Program}
use Rattle.f3_meaning_whole.specs.Act.{Setting}
use Rattle.f3_meaning_whole.specs.Exec.{declared_in, variables}
use Rattle.f3_meaning_whole.specs.Run.{setting_of}
use Rattle.f3_code.specs.State.{Code, Entry}
use Rattle.f3_gen_values.specs.Emitted.{lines_in}
use Rattle.f3_gen_values.specs.declared.emission.Emission.{Emission}

-- procedures that begin at these lines
abbrev pub entries_in : Setting → List Procedure → List ℕ → List Entry
entries_in g [] places = []
entries_in g (p ∷ ps) [] = []
entries_in g (p ∷ ps) (k ∷ ks) =
    record { at = k; unit = p.unit; dummies = p.dummies.items; variables = declared_in p; initial = variables g p } ∷ entries_in g ps ks

-- the code of a program, as it was emitted
abbrev pub code_in : Program → Emission → Code
code_in p e = record {
  lines = lines_in (setting_of p) e.lines.items;
  procedures = entries_in (setting_of p) p.procedures.items e.procedures.items;
  routines = e.routines.items;
}
