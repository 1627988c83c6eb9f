-- Which acts are stretches of assignments to parts of objects, at any depth of what allocatable components hold.
use Rattle.std.specs.Prelude.{◌≡◌, ◌<◌, ◌≤◌, ℕ, ◌+◌, Bool, List, [], ◌∷◌, ◌++◌, length, Option, Some}
use Rattle.f3_program.specs.declared.declarations.Base.{Base}
use Rattle.f3_program.specs.declared.program.Program.{Program}
use Rattle.f3_meaning_whole.specs.Shape.{Shape}
use Rattle.f3_code.specs.declared.instruction.Instruction.{Instruction}
use Rattle.f3_code.specs.declared.instruction.Instruction.TheVariants as i
use Rattle.f3_code.specs.State.{Code}
use Rattle.f3_courses.specs.Courses.{Stand}
use Rattle.f3_room_frames.specs.Places.{part_in}
use Rattle.f3_register_code.specs.declared.act.Act.{Act}
use Rattle.f3_register_code.specs.declared.code.RegisterCode.{RegisterCode}
use Rattle.f3_register_points.specs.declared.point.Entry.{Entry}
use Rattle.f3_register_points.specs.declared.point.Operand.{Operand}
use Rattle.f3_register_points.specs.declared.point.Operand.TheVariants as operand
use Rattle.f3_register_points.specs.declared.point.Point.{Point}
use Rattle.f3_register_points.specs.Arrays.{steps_to}
use Rattle.f3_register_points.specs.Stretches.{IsStretch}
use Rattle.f3_register_points.specs.Sorts.{is_truth}
use Rattle.f3_register_points.specs.Variables.{parts}
use Rattle.f3_stretch_laws.specs.Coming.{IsNext, Prefixed}
use Rattle.f3_stretch_laws.specs.Forms.{take_or_fill}
use Rattle.f3_stretch_laws.specs.HeldForms.{sets_by}
use Rattle.f3_stretch_laws.specs.Tops.{ComputesOn}
use Rattle.f3_part_laws.specs.Refers.{Refers}

-- A reference leads to the scalar part at the end of these components, and that takes a value: the acts of the value come first, and those
-- that refer to the part write behind its slot (ISO/IEC 1539-1:2004, 6.1.2, 7.4.1.3).
abbrev pub PartsTakeOn : Type 0
PartsTakeOn = (p : Program) (code : Code) (points : List (Option Point)) (c : RegisterCode) (q : Point) (line : ℕ)
    (front entries : List Entry) (selected : Option Operand) (n : ℕ)
    → Prefixed p code q line (front ++ entries) selected n → (its jts : List Act) (x later r ahead : ℕ) (s : Shape) (of sort kind : Base)
    (acts chosen : List Instruction) (ks : List ℕ) (is_taken : Bool)
    → let all = acts ++ ((chosen ++ parts ks) ++ (i.TestShape ∷ take_or_fill is_taken kind ∷ [])) in
    q.depth ≤ later → x < later → ComputesOn p c q line front entries selected its (operand.Word x sort) acts
    → Refers p c q.procedure q.room later jts r ahead s of chosen → part_in s of (steps_to ks) ≡ Some (ahead, kind)
    → is_truth sort ≡ is_truth kind → Stand code line all
    → IsNext points q (line + length all) (q.first + length (its ++ jts) + 1) entries selected
    → IsStretch p code points c q (its ++ jts) (sets_by kind r x (n + length all))
