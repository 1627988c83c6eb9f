-- The values of constant expressions (ISO/IEC 1539-1:2004, 7.1.7): literals, named constants, operators and parentheses; none for
-- all else, and none past the range of the kind or by a zero divisor.
use Rattle.std.specs.Prelude.{ℕ, zero, suc, ◌^◌, ◌%◌, ℤ, pos, negsuc, ◌+ℤ◌, ◌-ℤ◌, ◌*ℤ◌, neg_ℤ, int_lt, int_le, int_div, Bool, true, false, not, ◌&&◌}
use Rattle.std.specs.Prelude.{◌||◌, nat_eq, nat_lt, Option, None, Some, if◌then◌else◌}
use Rattle.f3_lookups.specs.declared.lookup.Lookup.{Lookup}
use Rattle.f3_lookups.specs.declared.lookup.Lookup.TheVariants.{One, Nothing, Several}
use Rattle.f3_tree.specs.declared.expression.Sign.{Sign}
use Rattle.f3_tree.specs.declared.expression.Sign.TheVariants.{Plus, Minus}
use Rattle.f3_tree.specs.declared.expression.Relation.{Relation}
use Rattle.f3_tree.specs.declared.expression.Relation.TheVariants.{Equal, NotEqual, Less, LessOrEqual, Greater, GreaterOrEqual}
use Rattle.f3_tree.specs.declared.expression.Operator.{Operator}
use Rattle.f3_tree.specs.declared.expression.Operator.TheVariants.{Power, Multiply, Divide, Add, Subtract, And, Or, Equivalent, NotEquivalent}
use Rattle.f3_tree.specs.declared.expression.IntegerLiteral.{IntegerLiteral}
use Rattle.f3_tree.specs.declared.expression.IntegerLiteral.TheVariants as literal
use Rattle.f3_tree.specs.Expressions.{Tree, integer, truth, text, designator, group, array, signed, negation, comparison, chain, Rest, no_more, more}
use Rattle.f3_tree.specs.Expressions.{Parts, no_parts, parts, bare}
use Rattle.f3_tree.specs.declared.expression.IntegerKind.{IntegerKind}
use Rattle.f3_tree.specs.declared.expression.IntegerKind.TheVariants.{Four, Eight}
use Rattle.f3_kinds.specs.declared.types.DataType.{DataType}
use Rattle.f3_kinds.specs.declared.types.DataType.TheVariants.{Integer, Logical}
use Rattle.f3_kinds.specs.declared.types.Scalar.{Scalar}
use Rattle.f3_kinds.specs.declared.types.Scalar.TheVariants.{Number, Truth}
use Rattle.f3_kinds.specs.Things.{Context, look_here}
use Rattle.f3_kinds.specs.Rows.{wider}

abbrev pub fits_below : ℕ → ℤ → Bool
fits_below m (pos n) = nat_lt n m
fits_below m (negsuc n) = nat_lt n m

abbrev pub fits_kind : IntegerKind → ℤ → Bool
fits_kind Four z = fits_below (2 ^ 31) z
fits_kind Eight z = fits_below (2 ^ 63) z

abbrev pub literal_value : IntegerLiteral → Scalar
literal_value (literal.Four n) = Number Four n
literal_value (literal.Eight n) = Number Eight n

-- a whole number as one of a kind: none past its range (error 1)
abbrev pub number : IntegerKind → ℤ → Option Scalar
number k z = if fits_kind k z then Some (Number k z) else None

abbrev pub same_number : ℤ → ℤ → Bool
same_number x y = int_le x y && int_le y x

-- none by zero (error 2)
abbrev pub quotient : IntegerKind → ℤ → ℤ → Option Scalar
quotient k x y = if same_number y (pos 0) then None else number k (int_div x y)

abbrev pub is_even : ℕ → Bool
is_even n = nat_eq (n % 2) 0

abbrev pub raised : ℤ → ℕ → ℤ
raised (pos x) n = pos (x ^ n)
raised (negsuc x) n = if is_even n then pos (suc x ^ n) else neg_ℤ (pos (suc x ^ n))

-- 1 at exponent 0; at a negative one 1 divided by the power, over whole numbers
abbrev pub power : IntegerKind → ℤ → ℤ → Option Scalar
power k x (pos n) = number k (raised x n)
power k (pos zero) (negsuc n) = None
power k (pos (suc zero)) (negsuc n) = Some (Number k (pos 1))
power k (pos (suc (suc x))) (negsuc n) = Some (Number k (pos 0))
power k (negsuc zero) (negsuc n) = Some (Number k (raised (negsuc 0) (suc n)))
power k (negsuc (suc x)) (negsuc n) = Some (Number k (pos 0))

abbrev pub same_truth : Bool → Bool → Bool
same_truth true b = b
same_truth false b = not b

abbrev pub of_numbers : Operator → IntegerKind → ℤ → ℤ → Option Scalar
of_numbers Power k x y = power k x y
of_numbers Multiply k x y = number k (x *ℤ y)
of_numbers Divide k x y = quotient k x y
of_numbers Add k x y = number k (x +ℤ y)
of_numbers Subtract k x y = number k (x -ℤ y)
of_numbers _ k x y = None

abbrev pub of_truths : Operator → Bool → Bool → Option Scalar
of_truths And a b = Some (Truth (a && b))
of_truths Or a b = Some (Truth (a || b))
of_truths Equivalent a b = Some (Truth (same_truth a b))
of_truths NotEquivalent a b = Some (Truth (not (same_truth a b)))
of_truths _ a b = None

-- an operation has the wider kind (7.1.4.2)
abbrev pub apply : Operator → Option Scalar → Option Scalar → Option Scalar
apply o (Some (Number j x)) (Some (Number k y)) = of_numbers o (wider j k) x y
apply o (Some (Truth a)) (Some (Truth b)) = of_truths o a b
apply o _ _ = None

abbrev pub related : Relation → ℤ → ℤ → Bool
related Equal x y = same_number x y
related NotEqual x y = not (same_number x y)
related Less x y = int_lt x y
related LessOrEqual x y = int_le x y
related Greater x y = int_lt y x
related GreaterOrEqual x y = int_le y x

abbrev pub compared : Relation → Option Scalar → Option Scalar → Option Scalar
compared r (Some (Number j x)) (Some (Number k y)) = Some (Truth (related r x y))
compared r _ _ = None

abbrev pub signed_value : Sign → Option Scalar → Option Scalar
signed_value Plus (Some (Number k x)) = Some (Number k x)
signed_value Minus (Some (Number k x)) = number k (neg_ℤ x)
signed_value s _ = None

abbrev pub denied : Option Scalar → Option Scalar
denied (Some (Truth b)) = Some (Truth (not b))
denied _ = None

abbrev pub value_at : Context → Lookup → Option Scalar
value_at c (One e) = c.value e
value_at c Nothing = None
value_at c Several = None

-- a named constant has the value that is known here
abbrev pub named_value : Context → Parts → Option Scalar
named_value c (parts n bare no_parts) = value_at c (look_here c n.symbol)
named_value c _ = None

-- powers go from the right, all else from the left (7.1.1.3)
abbrev pub is_power : Operator → Bool
is_power Power = true
is_power _ = false

abbrev mutual
  pub value_of : Context → Tree → Option Scalar
  value_of c (integer p n) = Some (literal_value n)
  value_of c (truth p b) = Some (Truth b)
  value_of c (text p k) = None
  value_of c (designator ps) = named_value c ps
  value_of c (group p e) = value_of c e
  value_of c (array p es) = None
  value_of c (signed p s e) = signed_value s (value_of c e)
  value_of c (negation p e) = denied (value_of c e)
  value_of c (comparison e r f) = compared r (value_of c e) (value_of c f)
  value_of c (chain e os) = chain_value c (value_of c e) os

  pub chain_value : Context → Option Scalar → Rest → Option Scalar
  chain_value c v no_more = v
  chain_value c v (more o e os) = if is_power o then apply o v (chain_value c (value_of c e) os) else chain_value c (apply o v (value_of c e)) os

-- the value as one of a type: integers are converted (7.4.1.3)
abbrev pub converted : DataType → Option Scalar → Option Scalar
converted (Integer k) (Some (Number j z)) = number k z
converted Logical (Some (Truth b)) = Some (Truth b)
converted d _ = None

abbrev pub has_value : Option Scalar → Bool
has_value None = false
has_value (Some v) = true

abbrev pub is_number : Option Scalar → Bool
is_number (Some (Number k z)) = true
is_number _ = false
