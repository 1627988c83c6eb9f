-- The levels of expressions, from primaries on (7.1.1, 7.1.3). An expression of a level is one of each later level too.
use Rattle.std.specs.Prelude.{ℕ, ◌≤◌, ◌≡◌, ◌==◌, if◌then◌else◌, List, [], ◌∷◌, Option, Some, None}
use Rattle.f3_tree.specs.declared.expression.Operator.{Operator}
use Rattle.f3_tree.specs.declared.expression.Operator.TheVariants.{Power, Multiply, Divide, Add, Subtract, And, Or, Equivalent, NotEquivalent}
use Rattle.f3_tree.specs.declared.expression.Sign.{Sign}
use Rattle.f3_tree.specs.declared.expression.Sign.TheVariants.{Plus, Minus}
use Rattle.f3_words.specs.declared.item.Word.{Word}
use Rattle.f3_words.specs.declared.item.Word.TheVariants as word
use Rattle.f3_words.specs.declared.item.Item.{Item}

abbrev pub primary : ℕ
primary = 0

abbrev pub power : ℕ
power = 1

abbrev pub term : ℕ
term = 2

-- a term, or a sign and a term
abbrev pub signed_term : ℕ
signed_term = 3

abbrev pub sum : ℕ
sum = 4

abbrev pub compared : ℕ
compared = 5

abbrev pub negated : ℕ
negated = 6

abbrev pub conjunction : ℕ
conjunction = 7

abbrev pub disjunction : ℕ
disjunction = 8

abbrev pub whole : ℕ
whole = 9

-- the level of the first operand of an operator
abbrev pub level_of : Operator → ℕ
level_of Power = primary
level_of Multiply = power
level_of Divide = power
level_of Add = signed_term
level_of Subtract = signed_term
level_of And = negated
level_of Or = conjunction
level_of Equivalent = disjunction
level_of NotEquivalent = disjunction

-- the level of the operands behind the first: no sign stands behind an operator of sums
abbrev pub unsigned : ℕ → ℕ
unsigned l = if l == signed_term then term else l

-- the level of the first operand of an operator or a relation
abbrev pub joins : Word → Option ℕ
joins (word.Operator o) = Some (level_of o)
joins (word.Relation r) = Some sum
joins _ = None

abbrev pub operator_of : Sign → Operator
operator_of Plus = Add
operator_of Minus = Subtract

-- no operator or relation of a level below k goes on there
abbrev pub Ends : ℕ → List Item → Type 0
Ends k [] = Unit {0}
Ends k (i ∷ ts) = (l : ℕ) → joins i.word ≡ Some l → k ≤ l
