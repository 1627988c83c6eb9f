-- The two blocks with which a run begins.
use Rattle.std.specs.Prelude.{ℕ, List}
use Rattle.f3_program.specs.declared.declarations.Declared.{Declared}
use Rattle.f3_live_blocks.specs.Blocks.{Live}
use Rattle.f3_meaning_whole.specs.Shape.{Shape}
use Rattle.f3_room_levels.specs.Levels.{Begins}

-- one was taken after the other, and at their fronts these variables begin
pub record AreTaken (ts : List Shape) (m n : Live) (statics main : List Declared) (first second : ℕ) (blocks : ℕ × ℕ) : Type 0 where
  pub mid : Live
  pub statics_begin : Begins ts m mid statics first blocks.0
  pub main_begin : Begins ts mid n main second blocks.1
