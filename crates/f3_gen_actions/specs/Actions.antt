-- The code of one item, and of both orders of MOVE_ALLOC.
use Rattle.std.specs.Prelude.{Bool, if◌then◌else◌, List, ◌∷◌, [], ◌++◌, Option}
use Rattle.f3_places.specs.declared.source.Place.{Place}
use Rattle.f3_program.specs.declared.statement.Item.{Item}
use Rattle.f3_program.specs.declared.statement.Item.TheVariants as item
use Rattle.f3_code.specs.declared.instruction.Instruction.TheVariants as i
use Rattle.f3_code.specs.State.{Line, line}
use Rattle.f3_code.specs.Code.{value_code, bytes_code}

-- an item of a PRINT: a value, or a blank and the bytes of a text (ISO/IEC 1539-1:2004, 9.5.2)
abbrev pub item_code : Option Place → Item → List Line
item_code o (item.Value e) = value_code o e ++ line o i.PrintValue ∷ []
item_code o (item.Text t) = bytes_code o (32 ∷ t.items)

-- the object from which an allocation moves comes to lie beneath the other (13.7.82)
abbrev pub order_code : Option Place → Bool → List Line
order_code o is_from_first = if is_from_first then [] else line o i.Swap ∷ []
