-- Areas that are parts of variables.
use Rattle.std.proofs.Common.{zero, suc}
use Rattle.std.specs.Prelude.{◌≡◌, ◌≢◌, ℕ, ◌+◌, ◌%◌, ◌^◌, ◌<◌, false, List, [], length}
use Rattle.f3_program.specs.declared.declarations.Base.{Base}
use Rattle.f3_program.specs.declared.declarations.Declared.{Declared}
use Rattle.f3_meaning_whole.specs.Shape.{Shape, shape_in}
use Rattle.f3_desc.specs.declared.descriptor.Dim.{Dim}
use Rattle.f3_rooms.specs.Forms.{Form, Laid, Allocatable, form_of, room, words_for}
use Rattle.f3_rooms.specs.Ways.{settled}
use Rattle.f3_rooms.specs.Places.{Found}
use Rattle.f3_word_cells.specs.declared.cell.Area.{Area}
use Rattle.f3_word_cells.specs.Areas.{spans_of}
use Rattle.f3_word_areas.specs.Dims.{AreApart, dims_from_one}

-- the dimensions of what is laid out so, with objects of so many words
abbrev pub AreDimsOf : ℕ → Form → List Dim → Type 0
AreDimsOf n (Laid zero ss) ds = (ss ≡ []) × (ds ≡ [])
AreDimsOf n (Laid (suc rank) ss) ds = (ds ≢ []) × (spans_of ds ≡ ss) × AreApart n ds
AreDimsOf n (Allocatable rank) ds = ⊥

-- An area that begins where a part of a variable stands, and is laid out as that is.
pub record IsPart (ts : List Shape) (f : Found) (a : Area) : Type 0 where
  pub block : (a.elements).block ≡ f.block
  pub offset : (a.elements).offset ≡ f.at
  pub shape : shape_in ts a.of ≡ f.shape
  pub dims : AreDimsOf (words_for f.shape) f.form (a.elements).dims.items

-- The area of what is declared so, from a word of a block on.
pub record IsLaid (ts : List Shape) (d : Declared) (q o : ℕ) (a : Area) : Type 0 where
  pub block : (a.elements).block ≡ q
  pub offset : (a.elements).offset ≡ o
  pub of : a.of ≡ d.kind.of
  pub dims : d.kind.is_allocatable ≡ false → length d.dimensions.items ≡ d.kind.rank → room ts d < 2 ^ 63
      → AreDimsOf (words_for (shape_in ts d.kind.of)) (settled (form_of d)) (a.elements).dims.items

-- The elements of another area that begin so many words further on, up to a multiple of 2 ^ 64, with bounds from 1 on.
abbrev pub moved_from_one : ℕ → Base → Area → Area
moved_from_one o of a = record {
  elements = record { block = (a.elements).block; offset = ((a.elements).offset + o) % 2 ^ 64; dims = record { items = dims_from_one (a.elements).dims.items } };
  of = of;
}

-- a component of one object, or of each element of an array
pub record IsPartOf (ts : List Shape) (d : Declared) (o : ℕ) (a b : Area) : Type 0 where
  pub one : (a.elements).dims.items ≡ [] → IsLaid ts d (a.elements).block (((a.elements).offset + o) % 2 ^ 64) b
  pub each : (a.elements).dims.items ≢ [] → b ≡ moved_from_one o d.kind.of a
