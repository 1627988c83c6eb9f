-- Shapes of objects and of values in words.
use Rattle.std.specs.Prelude.{Bool, true, List, [], ◌∷◌}
use Rattle.f3_meaning_whole.specs.Value.{same_extents}
use Rattle.f3_desc.specs.declared.descriptor.Dim.{Dim}
use Rattle.f3_word_cells.specs.declared.cell.Datum.{Datum}
use Rattle.f3_word_cells.specs.declared.cell.Datum.TheVariants as datum
use Rattle.f3_word_cells.specs.declared.cell.Object.{Object}
use Rattle.f3_word_cells.specs.declared.cell.Object.TheVariants as o
use Rattle.f3_word_cells.specs.Areas.{spans_of}

-- the dimensions of an object
abbrev pub dims_of : Object → List Dim
dims_of (o.Held of v) = []
dims_of (o.Stands a) = (a.elements).dims.items

-- a scalar, or an array of the same shape (ISO/IEC 1539-1:2004, 2.4.5)
abbrev pub fits_to : List Dim → List Dim → Bool
fits_to ds [] = true
fits_to ds (e ∷ es) = same_extents (spans_of ds) (spans_of (e ∷ es))

abbrev pub conforms_to : List Dim → Datum → Bool
conforms_to ds (datum.Scalar v) = true
conforms_to ds (datum.Block a) = fits_to ds (a.elements).dims.items
