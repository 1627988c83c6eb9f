-- Instructions that get a value or an object out of the store.
use Rattle.std.specs.Prelude.{Bool, true, false}
use Rattle.f3_code.specs.declared.instruction.Instruction.{Instruction}
use Rattle.f3_code.specs.declared.instruction.Instruction.TheVariants as i

-- of these only the law of steps where objects stand speaks
abbrev pub is_reading : Instruction → Bool
is_reading i.Load = true
is_reading (i.Refer x) = true
is_reading (i.Component k) = true
is_reading (i.ComponentOf k) = true
is_reading i.Contents = true
is_reading (i.Select is_opened k) = true
is_reading (i.SelectOf is_opened n k) = true
is_reading (i.Structure t k) = true
is_reading (i.ResultOf x) = true
is_reading (i.WorkComponent k) = true
is_reading i.OpenContents = true
is_reading x = false
