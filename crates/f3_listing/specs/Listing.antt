-- The text that shows code (own rule).
use Rattle.std.specs.Prelude.{ℕ, ℤ, pos, List, [], ◌∷◌, ◌++◌, true, false, Option, None, Some, map, codes, decimal}
use Rattle.std.specs.Fmt.{signed_decimal}
use Rattle.std.specs.List.{flat_map, enumerate_from}
use Rattle.f3_program.specs.declared.declarations.Base.{Base}
use Rattle.f3_program.specs.declared.declarations.Base.TheVariants.{Integer, Long, Logical, Derived}
use Rattle.f3_program.specs.declared.declarations.Constant.{Constant}
use Rattle.f3_program.specs.declared.declarations.Constant.TheVariants.{Number, Truth}
use Rattle.f3_program.specs.declared.expression.Name.TheVariants.{Static, Local, Lent}
use Rattle.f3_program.specs.declared.expression.Query.TheVariants.{Extent, Lower, Upper}
use Rattle.f3_program.specs.declared.expression.UnaryOperator.{UnaryOperator}
use Rattle.f3_program.specs.declared.expression.UnaryOperator.TheVariants as unary
use Rattle.f3_program.specs.declared.expression.BinaryOperator.{BinaryOperator}
use Rattle.f3_program.specs.declared.expression.BinaryOperator.TheVariants as binary
use Rattle.f3_program.specs.declared.statement.Range.TheVariants.{One, From, To, Between}
use Rattle.f3_code.specs.declared.instruction.Way.TheVariants as way
use Rattle.f3_code.specs.declared.instruction.Instruction.{Instruction}
use Rattle.f3_code.specs.declared.instruction.Instruction.TheVariants as i
use Rattle.f3_gen_values.specs.declared.line.Line.{Line}

-- what is shown of an instruction
pub record Operation : Type 0 where
  pub name : List ℕ
  pub operands : List ℤ

abbrev pub counts : List ℕ → List ℕ → Operation
counts name numbers = record { name = name; operands = map pos numbers }

-- the name ends with the type, and the number of a derived type is an operand
abbrev pub typed : List ℕ → Base → Operation
typed name Integer = counts (name ++ codes "_integer") []
typed name Long = counts (name ++ codes "_long") []
typed name Logical = counts (name ++ codes "_logical") []
typed name (Derived number) = counts (name ++ codes "_derived") (number ∷ [])

-- a number is an operand, and the name ends with a truth
abbrev pub constant : List ℕ → Constant → Operation
constant name (Number z) = record { name = name; operands = z ∷ [] }
constant name (Truth true) = counts (name ++ codes "_true") []
constant name (Truth false) = counts (name ++ codes "_false") []

abbrev pub unary_word : UnaryOperator → List ℕ
unary_word unary.Negate = codes "negate"
unary_word unary.Absolute = codes "absolute"
unary_word unary.Not = codes "not"

abbrev pub binary_word : BinaryOperator → List ℕ
binary_word binary.Add = codes "add"
binary_word binary.Subtract = codes "subtract"
binary_word binary.Multiply = codes "multiply"
binary_word binary.Divide = codes "divide"
binary_word binary.Power = codes "power"
binary_word binary.Mod = codes "mod"
binary_word binary.Modulo = codes "modulo"
binary_word binary.Max = codes "max"
binary_word binary.Min = codes "min"
binary_word binary.Equal = codes "equal"
binary_word binary.NotEqual = codes "not_equal"
binary_word binary.Less = codes "less"
binary_word binary.LessOrEqual = codes "less_or_equal"
binary_word binary.Greater = codes "greater"
binary_word binary.GreaterOrEqual = codes "greater_or_equal"
binary_word binary.And = codes "and"
binary_word binary.Or = codes "or"
binary_word binary.Equivalent = codes "equivalent"
binary_word binary.NotEquivalent = codes "not_equivalent"

unfoldable pub operation : Instruction → Operation
operation (i.Push c) = constant (codes "push") c
operation i.Plain = counts (codes "plain") []
operation (i.Unary o base) = typed (unary_word o) base
operation (i.Binary o base) = typed (binary_word o) base
operation (i.Array n) = counts (codes "array") (n ∷ [])
operation (i.Structure t n) = counts (codes "structure") (t ∷ n ∷ [])
operation (i.Call p n) = counts (codes "call") (p ∷ n ∷ [])
operation i.Result = counts (codes "result") []
operation i.IsAllocated = counts (codes "is_allocated") []
operation i.BoundsOfValue = counts (codes "bounds_of_value") []
operation i.BoundsOfVariable = counts (codes "bounds_of_variable") []
operation i.Size = counts (codes "size") []
operation (i.Bound Extent) = counts (codes "bound_extent") []
operation (i.Bound Lower) = counts (codes "bound_lower") []
operation (i.Bound Upper) = counts (codes "bound_upper") []
operation i.Load = counts (codes "load") []
operation (i.PassValue n) = counts (codes "pass_value") (n ∷ [])
operation (i.PassVariable n) = counts (codes "pass_variable") (n ∷ [])
operation (i.Refer (Static n)) = counts (codes "refer_static") (n ∷ [])
operation (i.Refer (Local n)) = counts (codes "refer_local") (n ∷ [])
operation (i.Refer (Lent n)) = counts (codes "refer_lent") (n ∷ [])
operation (i.Component n) = counts (codes "component") (n ∷ [])
operation (i.ComponentOf n) = counts (codes "component_of") (n ∷ [])
operation i.Contents = counts (codes "contents") []
operation (i.Select false n) = counts (codes "select") (n ∷ [])
operation (i.Select true n) = counts (codes "select_contents") (n ∷ [])
operation (i.SelectOf false m n) = counts (codes "select_of") (m ∷ n ∷ [])
operation (i.SelectOf true m n) = counts (codes "select_contents_of") (m ∷ n ∷ [])
operation i.Subscript = counts (codes "subscript") []
operation i.Limit = counts (codes "limit") []
operation i.NoLimit = counts (codes "no_limit") []
operation i.Triplet = counts (codes "triplet") []
operation i.TestShape = counts (codes "test_shape") []
operation (i.ByState m n) = counts (codes "by_state") (m ∷ n ∷ [])
operation (i.TestRank n) = counts (codes "test_rank") (n ∷ [])
operation (i.New n) = counts (codes "new") (n ∷ [])
operation (i.Take base) = typed (codes "take") base
operation (i.Fill base) = typed (codes "fill") base
operation i.Begin = counts (codes "begin") []
operation i.Drop = counts (codes "drop") []
operation (i.Unwind n) = counts (codes "unwind") (n ∷ [])
operation i.Swap = counts (codes "swap") []
operation i.LendBoth = counts (codes "lend_both") []
operation i.TakeOver = counts (codes "take_over") []
operation i.Dimension = counts (codes "dimension") []
operation (i.Allocate m n) = counts (codes "allocate") (m ∷ n ∷ [])
operation (i.TestFree n) = counts (codes "test_free") (n ∷ [])
operation i.NoError = counts (codes "no_error") []
operation (i.SkipIfFailed n) = counts (codes "skip_if_failed") (n ∷ [])
operation i.Check = counts (codes "check") []
operation i.StoreStatus = counts (codes "store_status") []
operation i.PrintValue = counts (codes "print_value") []
operation (i.PrintByte n) = counts (codes "print_byte") (n ∷ [])
operation (i.Stop None) = counts (codes "stop") []
operation (i.Stop (Some n)) = counts (codes "stop_with") (n ∷ [])
operation i.SetPlace = counts (codes "set_place") []
operation (i.GoOn n) = counts (codes "go_on") (n ∷ [])
operation (i.GoBack n) = counts (codes "go_back") (n ∷ [])
operation (i.SkipIfFalse n) = counts (codes "skip_if_false") (n ∷ [])
operation (i.SkipIfTrue n) = counts (codes "skip_if_true") (n ∷ [])
operation (i.Meets (One c)) = constant (codes "meets") c
operation (i.Meets (From z)) = record { name = codes "meets_from"; operands = z ∷ [] }
operation (i.Meets (To z)) = record { name = codes "meets_to"; operands = z ∷ [] }
operation (i.Meets (Between y z)) = record { name = codes "meets_between"; operands = y ∷ z ∷ [] }
operation i.Selecting = counts (codes "selecting") []
operation (i.Leave way.Onward n) = counts (codes "leave_onward") (n ∷ [])
operation (i.Leave way.Cycle n) = counts (codes "leave_cycle") (n ∷ [])
operation (i.Leave way.Exit n) = counts (codes "leave_exit") (n ∷ [])
operation (i.Leave way.Return n) = counts (codes "leave_return") (n ∷ [])
operation (i.Depart m n) = counts (codes "depart") (m ∷ n ∷ [])
operation i.SelectVariable = counts (codes "select_variable") []
operation (i.SelectValue base) = typed (codes "select_value") base
operation (i.Associate n) = counts (codes "associate") (n ∷ [])
operation i.Associated = counts (codes "associated") []
operation (i.NextObject n) = counts (codes "next_object") (n ∷ [])
operation i.EndAssociate = counts (codes "end_associate") []
operation (i.Convert base) = typed (codes "convert") base
operation i.TestStep = counts (codes "test_step") []
operation i.CountBegin = counts (codes "count_begin") []
operation (i.CountNext n) = counts (codes "count_next") (n ∷ [])
operation (i.CountUp base) = typed (codes "count_up") base
operation i.Lend = counts (codes "lend") []
operation i.Unlend = counts (codes "unlend") []
operation (i.SkipUnlessRank m n) = counts (codes "skip_unless_rank") (m ∷ n ∷ [])
operation i.PassObject = counts (codes "pass_object") []
operation (i.Routine n) = counts (codes "routine") (n ∷ [])
operation i.Back = counts (codes "back") []
operation (i.WorkComponent n) = counts (codes "work_component") (n ∷ [])
operation i.WalkBegin = counts (codes "walk_begin") []
operation (i.WalkNext n) = counts (codes "walk_next") (n ∷ [])
operation (i.SkipUnlessAllocated n) = counts (codes "skip_unless_allocated") (n ∷ [])
operation i.OpenContents = counts (codes "open_contents") []
operation i.Free = counts (codes "free") []
operation i.Clear = counts (codes "clear") []
operation i.Set = counts (codes "set") []
operation i.Discard = counts (codes "discard") []
operation i.Dummies = counts (codes "dummies") []
operation (i.ResultOf None) = counts (codes "no_result") []
operation (i.ResultOf (Some n)) = counts (codes "result_of") (n ∷ [])
operation i.Outward = counts (codes "outward") []
operation (i.NextArgument m n) = counts (codes "next_argument") (m ∷ n ∷ [])
operation i.Return = counts (codes "return") []
operation i.Finish = counts (codes "finish") []

abbrev pub operand_text : ℤ → List ℕ
operand_text z = codes " " ++ signed_decimal z

abbrev pub operation_text : Operation → List ℕ
operation_text o = o.name ++ flat_map operand_text o.operands

-- both names, then the operands of both
abbrev pub joined : Operation → Operation → Operation
joined o p = record { name = o.name ++ p.name; operands = o.operands ++ p.operands }

-- the name goes on with the type whose initial value a line takes, if it takes one
abbrev pub with_initial : Operation → Option Base → Operation
with_initial o None = o
with_initial o (Some base) = joined o (typed (codes "_initial") base)

-- a line of code and its number
abbrev pub line_text : ℕ → Line → List ℕ
line_text number l = decimal number ++ (codes " " ++ (operation_text (with_initial (operation l.act) l.initial) ++ codes "\n"))

-- the lines in order, numbered from 0
abbrev pub listing_text : List Line → List ℕ
listing_text lines = flat_map (λ l. line_text l.0 l.1) (enumerate_from 0 lines)
