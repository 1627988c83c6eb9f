-- What a scene tells of a procedure.
use Rattle.std.proofs.Common.{◌≡◌, ◌∙◌, ℕ, zero, suc, ◌<◌, List, [], ◌∷◌, length, sym, ap, subst, arith}
use Rattle.std.specs.Prelude.{Some, slice_get, slice_index_or}
use Rattle.f3_program.specs.declared.program.Procedure.{Procedure}
use Rattle.f3_meaning_whole.specs.Exec.{declared_in}
use Rattle.f3_meaning_whole.specs.Shape.{shapes_of}
use Rattle.f3_rooms.specs.Forms.{total}
use Rattle.f3_room_places.specs.Places.{shapes}
use Rattle.f3_room_levels.specs.Initial.{AllCanBegin}
use Rattle.f3_cells.specs.Cells.{declared_by}
use Rattle.f3_word_cells.specs.declared.scene.Frame.{Frame}
use Rattle.f3_word_cells.specs.declared.scene.Scene.{Scene}
use Rattle.f3_word_cells.specs.Areas.{types_of}
use Rattle.f3_word_cells.specs.Scenes.{IsFrame, IsScene}

-- what stands at a place of a list
pub got : {A : Type 0} (xs : List A) (i : ℕ) (d y : A) → i < length xs → y ≡ slice_index_or xs i d → slice_get xs i ≡ Some y
got [] i d y less e = absurd (omega (arith, less))
got (x ∷ xs) zero d y less e = ap Some (sym e)
got (x ∷ xs) (suc i) d y less e = got xs i d y (omega (arith, less)) e

module _ (scene : Scene) (so : IsScene scene) (number : ℕ) (q : Procedure) (there : slice_get scene.program.now.procedures.items number ≡ Some q) where
  pub same_shapes : shapes scene.types ≡ types_of scene.program.now
  same_shapes = ap shapes_of so.types

  module _ (f : Frame) (less : number < length scene.procedures.now) (is : f ≡ slice_index_or scene.procedures.now number f) where
    frame : IsFrame (types_of scene.program.now) (declared_in q) f
    frame = subst (λ ds. IsFrame (types_of scene.program.now) ds f) (ap declared_by there) (so.procedures number f (got scene.procedures.now number f f less is))

    pub can : AllCanBegin (shapes scene.types) (declared_in q)
    can = subst (λ ts. AllCanBegin ts (declared_in q)) (sym same_shapes) frame.begin

    pub long : (slice_index_or scene.procedures.now number f).words ≡ total (shapes scene.types) (declared_in q)
    long = ap (λ (z : Frame). z.words) (sym is) ∙ frame.words ∙ ap (λ ts. total ts (declared_in q)) (sym same_shapes)
