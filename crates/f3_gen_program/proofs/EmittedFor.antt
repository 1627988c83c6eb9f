-- What lines stand for that are emitted for one program.
use Rattle.std.specs.Prelude.{◌≡◌, ◌+◌, List, ◌++◌, length, reverse}
use Rattle.f3_program.specs.declared.program.Program.{Program}
use Rattle.f3_meaning_whole.specs.Run.{setting_of}
use Rattle.f3_code.specs.State as c
use Rattle.f3_gen_values.specs.declared.line.Line.{Line}
use Rattle.f3_gen_values.specs.Emitted.{lines_in}

-- The new lines are the old ones with a code in front, the last line first, in this program.
pub record EmittedFor (p : Program) (old new : List Line) (code : List c.Line) : Type 0 where
  pub in_front : lines_in (setting_of p) new ≡ lines_in (setting_of p) old ++ reverse code
  pub longer : length new ≡ length old + length code
