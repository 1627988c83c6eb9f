-- Associate names, for their selectors.
use Rattle.std.specs.Prelude.{⊤, ◌≡◌, ◌≤◌, true, false, List, [], ◌∷◌, length}
use Rattle.f3_program.specs.declared.declarations.Base.{Base}
use Rattle.f3_program.specs.declared.program.Program.{Program}
use Rattle.f3_meaning_whole.specs.Exec.{associated}
use Rattle.f3_meaning_whole.specs.Reference.{Reference}
use Rattle.f3_rooms.specs.Rooms.{Rooms}
use Rattle.f3_word_cells.specs.declared.cell.Association.{Association}
use Rattle.f3_word_cells.specs.declared.cell.Association.TheVariants as association
use Rattle.f3_word_cells.specs.declared.cell.Datum.{Datum}
use Rattle.f3_word_cells.specs.declared.cell.Datum.TheVariants as datum
use Rattle.f3_word_cells.specs.declared.cell.Object.{Object}
use Rattle.f3_word_cells.specs.declared.cell.Object.TheVariants as o
use Rattle.f3_word_cells.specs.declared.cell.Cell.{Cell}
use Rattle.f3_word_cells.specs.declared.cell.Cell.TheVariants as c
use Rattle.f3_word_cells.specs.declared.state.Name.{Name}
use Rattle.f3_word_cells.specs.Areas.{IsObject}

-- an object is what is held of a type: a scalar, or the words of an array or of an object of derived type, with no more than seven dimensions
abbrev pub IsHolding : Base → Datum → Object → Type 0
IsHolding of (datum.Scalar k) z = z ≡ o.Held of k
IsHolding of (datum.Block a) z = (z ≡ o.Stands (record { elements = a.elements; of = of })) × (length (a.elements).dims.items ≤ 7)

-- the name for a selector
abbrev pub IsNameOf : Association → Name → Type 0
IsNameOf (association.Holds of d) n = (n.is_held ≡ true) × IsHolding of d n.object
IsNameOf (association.Means z) n = (n.is_held ≡ false) × ((p : Program) (x : Rooms) (r : Reference) → IsObject p x z r → IsObject p x n.object (associated r))

abbrev pub IsNamed : Cell → Name → Type 0
IsNamed (c.Selector a) n = IsNameOf a n
IsNamed z n = ⊤

-- a name for each selector
abbrev pub AreNamed : List Cell → List Name → Type 0
AreNamed [] [] = ⊤
AreNamed (z ∷ zs) (n ∷ ns) = IsNamed z n × AreNamed zs ns
AreNamed zs ns = ⊥
