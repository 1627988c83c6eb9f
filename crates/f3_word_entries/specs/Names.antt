-- Names of dummies, for the arguments of a call.
use Rattle.std.specs.Prelude.{⊤, ◌≡◌, ℕ, suc, true, false, nat_eq, if◌then◌else◌, List, [], ◌∷◌, Option, None, Some}
use Rattle.f3_program.specs.declared.declarations.Base.{Base}
use Rattle.f3_program.specs.declared.program.Dummy.{Dummy}
use Rattle.f3_program.specs.declared.program.Program.{Program}
use Rattle.f3_meaning_whole.specs.Exec.{bound}
use Rattle.f3_meaning_whole.specs.Reference.{Reference}
use Rattle.f3_rooms.specs.Rooms.{Rooms}
use Rattle.f3_word_cells.specs.declared.cell.Datum.{Datum}
use Rattle.f3_word_cells.specs.declared.cell.Datum.TheVariants as datum
use Rattle.f3_word_cells.specs.declared.cell.Object.{Object}
use Rattle.f3_word_cells.specs.declared.cell.Object.TheVariants as o
use Rattle.f3_word_cells.specs.declared.cell.Passed.{Passed}
use Rattle.f3_word_cells.specs.declared.cell.Passed.TheVariants as passed
use Rattle.f3_word_cells.specs.declared.cell.Cell.{Cell}
use Rattle.f3_word_cells.specs.declared.cell.Cell.TheVariants as c
use Rattle.f3_word_cells.specs.declared.state.Name.{Name}
use Rattle.f3_word_cells.specs.Areas.{IsObject}

abbrev pub number_of : Passed → ℕ
number_of (passed.Given k d) = k
number_of (passed.Lent k z) = k

-- the first argument of a number
abbrev pub numbered : ℕ → List Cell → Option Passed
numbered k [] = None
numbered k (c.Argument a ∷ cs) = if nat_eq (number_of a) k then Some a else numbered k cs
numbered k (z ∷ cs) = numbered k cs

-- what a value is that is held for a dummy of a type
abbrev pub held_object : Base → Datum → Object
held_object of (datum.Scalar k) = o.Held of k
held_object of (datum.Block a) = o.Stands (record { elements = a.elements; of = of })

-- an object is what a dummy is for another one
abbrev pub IsBound : Dummy → Object → Object → Type 0
IsBound d a b = (p : Program) (x : Rooms) (r : Reference) → IsObject p x a r → IsObject p x b (bound d r)

-- the name of a dummy for an argument
abbrev pub IsNameOf : Dummy → Passed → Name → Type 0
IsNameOf d (passed.Given k v) n = (n.is_held ≡ true) × IsBound d (held_object d.kind.of v) n.object
IsNameOf d (passed.Lent k z) n = (n.is_held ≡ false) × IsBound d z n.object

abbrev pub IsNamed : Dummy → Option Passed → Name → Type 0
IsNamed d None n = ⊤
IsNamed d (Some a) n = IsNameOf d a n

-- a name for each dummy, of which the first has this number
abbrev pub AreNamed : List Cell → ℕ → List Dummy → List Name → Type 0
AreNamed cs k [] [] = ⊤
AreNamed cs k (d ∷ ds) (n ∷ ns) = IsNamed d (numbered k cs) n × AreNamed cs (suc k) ds ns
AreNamed cs k ds ns = ⊥
