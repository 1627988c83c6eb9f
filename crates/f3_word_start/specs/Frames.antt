-- How the variables of a program stand in blocks.
use Rattle.std.specs.Prelude.{⊤, ◌≤◌, ◌<◌, ◌^◌, Bool, true, false, List, [], ◌∷◌, ◌++◌, Option, None, Some, All}
use Rattle.f3_program.specs.declared.declarations.Declared.{Declared}
use Rattle.f3_program.specs.declared.program.Procedure.{Procedure}
use Rattle.f3_program.specs.declared.program.Program.{Program}
use Rattle.f3_meaning_whole.specs.Shape.{Shape}
use Rattle.f3_meaning_whole.specs.Exec.{declared_in}
use Rattle.f3_rooms.specs.Forms.{words_for, total}
use Rattle.f3_type_words.specs.Most.{most_words}
use Rattle.f3_type_words.specs.Tables.{AreTables}
use Rattle.f3_room_levels.specs.Initial.{AllCanBegin}
use Rattle.f3_word_cells.specs.declared.scene.Frame.{Frame}
use Rattle.f3_word_cells.specs.Areas.{types_of}
use Rattle.f3_word_cells.specs.States.{statics_of}
use Rattle.f3_word_cells.specs.Scenes.{IsFrame}
use Rattle.f3_word_start.specs.declared.frames.Frames.{Frames}

-- Variables can stand in a block: they have fewer than 2 ^ 62 words together (own rule), and can begin with their values.
pub record CanStand (ts : List Shape) (ds : List Declared) : Type 0 where
  pub few : total ts ds < 2 ^ 62
  pub begin : AllCanBegin ts ds

-- there is a frame exactly where they can
abbrev pub HasFrame : List Shape → List Declared → Option Frame → Type 0
HasFrame ts ds None = CanStand ts ds → ⊥
HasFrame ts ds (Some f) = IsFrame ts ds f

-- one variable more stands behind others, or they cannot stand in a block together
abbrev pub Added : List Shape → Frame → Declared → Frame → Bool → Type 0
Added ts f d g true = (ds : List Declared) → IsFrame ts ds f → IsFrame ts (ds ++ d ∷ []) g
Added ts f d g false = (ds : List Declared) → IsFrame ts ds f → CanStand ts (ds ++ d ∷ []) → ⊥

-- a frame for each procedure, in their order
abbrev pub HaveFrames : List Shape → List Procedure → List Frame → Type 0
HaveFrames ts [] [] = ⊤
HaveFrames ts [] (f ∷ fs) = ⊥
HaveFrames ts (q ∷ qs) [] = ⊥
HaveFrames ts (q ∷ qs) (f ∷ fs) = IsFrame ts (declared_in q) f × HaveFrames ts qs fs

-- objects of the types of a program have no more words than one may have, and the variables of each activation can stand in a block
pub record CanBeFramed (p : Program) : Type 0 where
  pub types : All (λ s. words_for s ≤ most_words) (types_of p)
  pub statics : CanStand (types_of p) (statics_of p)
  pub main : CanStand (types_of p) (declared_in p.main)
  pub procedures : All (λ (q : Procedure). CanStand (types_of p) (declared_in q)) p.procedures.items

pub record AreFrames (p : Program) (f : Frames) : Type 0 where
  pub tables : AreTables (types_of p) f.tables.items
  pub statics : IsFrame (types_of p) (statics_of p) f.statics
  pub main : IsFrame (types_of p) (declared_in p.main) f.main
  pub procedures : HaveFrames (types_of p) p.procedures.items f.procedures.items
