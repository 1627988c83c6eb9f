-- What a procedure does with its dummies before its first statement.
use Rattle.std.specs.Prelude.{◌≡◌, ◌<◌, ℕ, ◌+◌, pos, true, List, [], ◌∷◌, length, Option, Some, slice_get}
use Rattle.f3_program.specs.declared.program.Dummy.{Dummy}
use Rattle.f3_program.specs.declared.program.Intent.TheVariants as intent
use Rattle.f3_program.specs.declared.program.Program.{Program}
use Rattle.f3_code.specs.declared.instruction.Instruction.{Instruction}
use Rattle.f3_code.specs.declared.instruction.Instruction.TheVariants as i
use Rattle.f3_code.specs.State.{Code, Line}
use Rattle.f3_courses.specs.Courses.{Stand}
use Rattle.f3_room_frames.specs.Places.{scalar_in}
use Rattle.f3_room_frames.specs.Sound.{is_scalar}
use Rattle.f3_register_code.specs.declared.act.Act.TheVariants as act
use Rattle.f3_register_code.specs.declared.code.RegisterCode.{RegisterCode}
use Rattle.f3_register_points.specs.declared.point.Entry.{Entry}
use Rattle.f3_register_points.specs.declared.point.Entry.TheVariants as entry
use Rattle.f3_register_points.specs.declared.point.Operand.{Operand}
use Rattle.f3_register_points.specs.declared.point.Point.{Point}
use Rattle.f3_register_points.specs.Dummies.{dummies_of, reference_at}
use Rattle.f3_register_points.specs.Stretches.{IsStretch}
use Rattle.f3_stretch_laws.specs.Coming.{IsNext, Prefixed}

-- Dummies lays the objects of all dummies on top (ISO/IEC 1539-1:2004, 12.4.1.2).
abbrev pub DummiesAreLaid : Type 0
DummiesAreLaid = (p : Program) (code : Code) (q : Point) (line : ℕ) (entries : List Entry) (selected : Option Operand) (k : ℕ)
    → Prefixed p code q line entries selected k → Stand code line (i.Dummies ∷ [])
    → Prefixed p code q (line + 1) (entry.Objects 0 ∷ entries) selected (k + 1)

-- the next of them is passed by
abbrev pub passed : List Instruction
passed = i.NextObject 1 ∷ i.Drop ∷ []

abbrev pub DummiesArePassed : Type 0
DummiesArePassed = (p : Program) (code : Code) (q : Point) (line : ℕ) (entries : List Entry) (selected : Option Operand) (k : ℕ)
    → (j : ℕ) → Prefixed p code q line (entry.Objects j ∷ entries) selected k → j < length (dummies_of p q.procedure) → Stand code line passed
    → Prefixed p code q (line + 2) (entry.Objects (j + 1) ∷ entries) selected (k + 2)

-- the next of them is set to the value of a line
abbrev pub begun : List Instruction
begun = i.NextObject 2 ∷ i.Set ∷ i.Drop ∷ []

-- a line has the value with which a scalar of the type of a dummy begins (own rule)
abbrev pub BeginsWith : Code → ℕ → Dummy → Type 0
BeginsWith code line d = (l : Line) → slice_get code.lines line ≡ Some l → l.value ≡ scalar_in d.kind.of (pos 0)

-- An INTENT(OUT) dummy that is a scalar takes that value, by its reference, from a temporary (12.4.1.7, 5.1.2.7).
abbrev pub DummiesBegin : Type 0
DummiesBegin = (p : Program) (code : Code) (points : List (Option Point)) (c : RegisterCode) (q : Point) (line : ℕ) (entries : List Entry)
    (selected : Option Operand) (k : ℕ)
    → (j : ℕ) → Prefixed p code q line (entry.Objects j ∷ entries) selected k
    → (d : Dummy) → slice_get (dummies_of p q.procedure) j ≡ Some d → d.intent ≡ intent.Out → is_scalar d.kind.of ≡ true → q.depth < q.room
    → Stand code line begun → BeginsWith code (line + 1) d
    → IsNext points q (line + 3) (q.first + 2) (entry.Objects (j + 1) ∷ entries) selected
    → IsStretch p code points c q (act.Fixed q.depth (pos 0) 0 ∷ []) (act.SetBy (reference_at p q.procedure j) q.depth (k + 3))
