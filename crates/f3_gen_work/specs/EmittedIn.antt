-- What lines stand for whose code depends on the program that they are emitted for.
use Rattle.std.specs.Prelude.{◌≡◌, ◌≤◌, List, ◌++◌, reverse, length}
use Rattle.f3_program.specs.declared.declarations.Derived.{Derived}
use Rattle.f3_meaning_whole.specs.Act.{Setting}
use Rattle.f3_code.specs.State as c
use Rattle.f3_gen_values.specs.declared.line.Line.{Line}
use Rattle.f3_gen_values.specs.Emitted.{lines_in}

-- The new lines are the old ones with a code in front, the last line first, which depends on the program.
pub record EmittedBy (old new : List Line) (code : Setting → List c.Line) : Type 0 where
  pub in_front : (g : Setting) → lines_in g new ≡ lines_in g old ++ reverse (code g)
  pub longer : length old ≤ length new

-- So it is in whatever program has these types.
pub record EmittedIn (types : List Derived) (old new : List Line) (code : Setting → List c.Line) : Type 0 where
  pub in_front : (g : Setting) → g.program.types.items ≡ types → lines_in g new ≡ lines_in g old ++ reverse (code g)
  pub longer : length old ≤ length new
