use Rattle.std.proofs.Common.{List, sym, subst}
use Rattle.f3_program.specs.declared.declarations.Derived.{Derived}
use Rattle.f3_meaning_whole.specs.Shape.{shapes_of}
use Rattle.f3_type_words.specs.Tables.{AreTables}
use Rattle.f3_word_cells.specs.Areas.{types_of}
use Rattle.f3_word_start.specs.Frames.{HaveFrames}
use Rattle.f3_word_start.proofs.Framing.{frame_at, frames_many}
use Rattle.f3_word_start.proofs.frames.Frames.scene.Goals as goal

pub returns-clause-scene : goal.returns-clause-scene
returns-clause-scene c =
    let p = c.args.program.now in
    let h = c.requires.frames in
    let have : HaveFrames (types_of p) p.procedures.items c.deref-3.result.now = subst (HaveFrames (types_of p) p.procedures.items) (sym c.deref-3.ensures.value) h.procedures in
    record {
      code = c.requires.code;
      types = c.deref.ensures.value;
      tables = subst (λ (ds : List Derived). AreTables (shapes_of ds) c.deref-2.result.now) (sym c.deref.ensures.value)
          (subst (AreTables (types_of p)) (sym c.deref-2.ensures.value) h.tables);
      statics = h.statics;
      main = h.main;
      count = frames_many (types_of p) p.procedures.items c.deref-3.result.now have;
      procedures = frame_at (types_of p) p.procedures.items c.deref-3.result.now have;
    }
