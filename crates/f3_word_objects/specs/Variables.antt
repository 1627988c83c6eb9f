-- Where variables stand that statements may name.
use Rattle.std.specs.Prelude.{◌≡◌, ℕ, List, Option, None, Some, slice_get}
use Rattle.f3_program.specs.declared.declarations.Declared.{Declared}
use Rattle.f3_program.specs.declared.program.Procedure.{Procedure}
use Rattle.f3_program.specs.declared.expression.Name as n
use Rattle.f3_program.specs.declared.expression.Name.TheVariants as name
use Rattle.f3_cells.specs.Cells.{variables_of}
use Rattle.f3_meaning_whole.specs.Exec.{declared_in}
use Rattle.f3_word_areas.specs.Parts.{IsLaid}
use Rattle.f3_word_cells.specs.declared.cell.Area.{Area}
use Rattle.f3_word_cells.specs.declared.scene.Frame.{Frame}
use Rattle.f3_word_cells.specs.declared.scene.Scene.{Scene}
use Rattle.f3_word_cells.specs.declared.state.State.{State}
use Rattle.f3_word_cells.specs.declared.cell.Object.{Object}
use Rattle.f3_word_cells.specs.declared.cell.Object.TheVariants as o
use Rattle.f3_word_cells.specs.declared.state.Name.{Name}
use Rattle.f3_word_cells.specs.Cells.{names_in}
use Rattle.f3_word_cells.specs.Areas.{types_of}
use Rattle.f3_word_cells.specs.Scenes.{IsFrame}
use Rattle.f3_word_cells.specs.States.{statics_of}
use Rattle.f3_word_cells.specs.Ranks.{HaveRanks}

-- the procedure whose variables are at hand, and how they stand
pub record IsProcedure (x : Scene) (w : State) (q : Procedure) (f : Frame) : Type 0 where
  pub variables : variables_of x.program.now w.here.procedure ≡ declared_in q
  pub framed : IsFrame (types_of x.program.now) (declared_in q) f
  pub ranks : HaveRanks (declared_in q)

-- a variable of a number among those of a frame, in a block
pub record IsVariable (x : Scene) (ds : List Declared) (f : Frame) (block i : ℕ) (a : Area) : Type 0 where
  pub declared : Declared
  pub start : ℕ
  pub is : slice_get ds i ≡ Some declared
  pub begins : slice_get f.starts.items i ≡ Some start
  pub laid : IsLaid (types_of x.program.now) declared block start a

-- a variable that lives for the whole run, or there is none of the number
abbrev pub IsStatic : Scene → State → ℕ → Option Object → Type 0
IsStatic x w i None = slice_get (statics_of x.program.now) i ≡ None
IsStatic x w i (Some z) = (a : Area) × (z ≡ o.Stands a) × IsVariable x (statics_of x.program.now) x.statics.now w.statics i a

-- the block of a level
pub record IsBlockOf (w : State) (level b : ℕ) : Type 0 where
  pub first : ℕ
  pub level_is : slice_get w.levels.items.items level ≡ Some first
  pub block_is : slice_get w.blocks.items.items first ≡ Some b

-- a variable of the activation, or there is none
pub record IsLocalArea (x : Scene) (w : State) (i : ℕ) (a : Area) : Type 0 where
  pub procedure : Procedure
  pub frame : Frame
  pub block : ℕ
  pub of : IsProcedure x w procedure frame
  pub there : IsBlockOf w w.here.level block
  pub variable : IsVariable x (declared_in procedure) frame block i a

abbrev pub IsLocalOf : Scene → State → ℕ → Declared → Area → Type 0
IsLocalOf x w i d a = (l : IsLocalArea x w i a) × ((l.variable).declared ≡ d)

abbrev pub IsNoLocal : Scene → State → ℕ → Type 0
IsNoLocal x w i = (d : Declared) (b : ℕ) → slice_get (variables_of x.program.now w.here.procedure) i ≡ Some d → IsBlockOf w w.here.level b → ⊥

abbrev pub IsLocal : Scene → State → ℕ → Option Object → Type 0
IsLocal x w i None = IsNoLocal x w i
IsLocal x w i (Some z) = (a : Area) × (z ≡ o.Stands a) × IsLocalArea x w i a

-- a dummy or an associate name, or there is none
abbrev pub IsLent : State → ℕ → Option Object → Type 0
IsLent w i None = slice_get (names_in w.here.names w.names.items.items) i ≡ None
IsLent w i (Some z) = (n : Name) × (slice_get (names_in w.here.names w.names.items.items) i ≡ Some n) × (z ≡ n.object)

-- what a name means, or there is no such
abbrev pub IsNamed : Scene → State → n.Name → Option Object → Type 0
IsNamed x w (name.Static i) z = IsStatic x w i z
IsNamed x w (name.Local i) z = IsLocal x w i z
IsNamed x w (name.Lent i) z = IsLent w i z
