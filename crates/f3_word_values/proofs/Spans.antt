-- Bounds of values.
use Rattle.std.proofs.Common.{◌≡◌, ℕ, List, [], ◌∷◌, length, refl, ap, ◌∙◌}
use Rattle.f3_program.specs.declared.program.Program.{Program}
use Rattle.f3_live_blocks.specs.Blocks.{Live}
use Rattle.f3_meaning_whole.specs.Value as v
use Rattle.f3_meaning_whole.specs.Value.{Span, Value, plain, count}
use Rattle.f3_meaning_whole.specs.Shape.{Shape, Whole, Logical, Record}
use Rattle.f3_meaning_whole.specs.Arithmetic.{constant_value}
use Rattle.f3_program.specs.declared.declarations.Constant.{Constant}
use Rattle.f3_program.specs.declared.declarations.Constant.TheVariants as constant
use Rattle.f3_desc.specs.declared.descriptor.Dim.{Dim}
use Rattle.f3_rooms.specs.Held.{Held, Empty}
use Rattle.f3_rooms.specs.Values.{laid, object}
use Rattle.f3_word_cells.specs.declared.cell.Datum.{Datum}
use Rattle.f3_word_cells.specs.declared.cell.Datum.TheVariants as datum
use Rattle.f3_word_cells.specs.Areas.{IsDatum, shape_for, spans_of}
use Rattle.f3_word_values.specs.Ends.{dims_of}

scalar_spans : (c : Constant) → v.spans_of (constant_value c) ≡ []
scalar_spans (constant.Number z) = refl
scalar_spans (constant.Truth b) = refl

object_spans : (m : Live) (s : Shape) (b o : ℕ) (h : Held) → v.spans_of (object m s b o h) ≡ []
object_spans m Whole b o h = refl
object_spans m Logical b o h = refl
object_spans m (Record t parts) b o h = refl

laid_spans : (m : Live) (s : Shape) (ds : List Dim) (n b o : ℕ) (h : Held) → v.spans_of (laid (length ds) (spans_of ds) n (object m s) b o h) ≡ spans_of ds
laid_spans m s [] n b o h = object_spans m s b o h
laid_spans m s (d ∷ ds) n b o h = refl

pub datum_spans : (p : Program) (m : Live) (d : Datum) (v' : Value) → IsDatum p m d v' → v.spans_of v' ≡ spans_of (dims_of d)
datum_spans p m (datum.Scalar c) v' is = ap v.spans_of is ∙ scalar_spans c
datum_spans p m (datum.Block a) v' is = ap v.spans_of is.1 ∙ laid_spans m (shape_for p a.of) a.elements.dims.items _ a.elements.block 0 Empty
