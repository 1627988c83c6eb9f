-- What lines that are emitted stand for.
use Rattle.std.specs.Prelude.{◌≡◌, ◌+◌, Bool, if◌then◌else◌, List, ◌∷◌, [], ◌++◌, map, reverse, length, Option, Some, None}
use Rattle.f3_places.specs.declared.source.Place.{Place}
use Rattle.f3_program.specs.declared.declarations.Base.{Base}
use Rattle.f3_program.specs.declared.expression.Expression.{Expression}
use Rattle.f3_program.specs.declared.expression.Expression as e
use Rattle.f3_meaning_whole.specs.Value.{Value, Unallocated}
use Rattle.f3_meaning_whole.specs.Act.{Setting}
use Rattle.f3_code.specs.Lower.{initial}
use Rattle.f3_code.specs.declared.instruction.Instruction.TheVariants as i
use Rattle.f3_code.specs.State as c
use Rattle.f3_code.specs.Code.{value_code}
use Rattle.f3_gen_values.specs.declared.line.Line.{Line}

-- what a line takes: nothing, or the value with which an object of a type begins
abbrev pub taken : Setting → Option Base → Value
taken g None = Unallocated
taken g (Some of) = initial g of

-- a line in a program
abbrev pub line_in : Setting → Line → c.Line
line_in g l = record { place = l.place; value = taken g l.initial; act = l.act }

abbrev pub lines_in : Setting → List Line → List c.Line
lines_in g ls = map (line_in g) ls

-- The new lines are the old ones with a code in front, the last line first, in whatever program.
pub record Emitted (old new : List Line) (code : List c.Line) : Type 0 where
  pub in_front : (g : Setting) → lines_in g new ≡ lines_in g old ++ reverse code
  pub longer : length new ≡ length old + length code

-- a bound of a triplet, if there is one (ISO/IEC 1539-1:2004, 6.2.2.3.1)
abbrev pub limit_code : Option Place → Bool → Expression → List c.Line
limit_code o is_there x = if is_there then value_code o x ++ c.line o i.Limit ∷ [] else c.line o i.NoLimit ∷ []

-- an expression that is no operator between two operands (ISO/IEC 1539-1:2004, 7.1.1)
abbrev pub IsOperand : Expression → Type 0
IsOperand (e.Binary' c t p x q y) = ⊥
IsOperand _ = Unit {0}
