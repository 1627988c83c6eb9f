-- Operations on scalars.
use Rattle.std.specs.Prelude.{ℕ, zero, suc, ◌%◌, ◌^◌, ℤ, pos, negsuc, ◌+ℤ◌, ◌-ℤ◌, ◌*ℤ◌, neg_ℤ, nat_abs, Bool, true, false, not, ◌&&◌, ◌||◌}
use Rattle.std.specs.Prelude.{nat_eq, nat_lt, int_lt, int_le, int_div, int_rem, if◌then◌else◌}
use Rattle.f3_places.specs.declared.source.Place.{Place}
use Rattle.f3_program.specs.declared.declarations.Base.{Base}
use Rattle.f3_program.specs.declared.declarations.Base.TheVariants as base
use Rattle.f3_program.specs.declared.expression.BinaryOperator.{BinaryOperator}
use Rattle.f3_program.specs.declared.expression.BinaryOperator.TheVariants as o
use Rattle.f3_program.specs.declared.expression.UnaryOperator as change
use Rattle.f3_program.specs.declared.expression.UnaryOperator.TheVariants.{Negate, Absolute, Not}
use Rattle.f3_program.specs.declared.statement.Range.{Range}
use Rattle.f3_program.specs.declared.statement.Range.TheVariants as range
use Rattle.f3_program.specs.declared.declarations.Constant.{Constant}
use Rattle.f3_program.specs.declared.declarations.Constant.TheVariants as constant
use Rattle.f3_meaning_whole.specs.Value.{Value, Number, Truth, Array, Values, none, more, number_of, truth_of}
use Rattle.f3_meaning_whole.specs.declared.run_error.RunError.TheVariants.{Overflow, DivisionByZero}
use Rattle.f3_meaning_whole.specs.Ran.{Ran, gives, fails}

abbrev pub fits_below : ℕ → ℤ → Bool
fits_below m (pos n) = nat_lt n m
fits_below m (negsuc n) = nat_lt n m

-- whether a whole number is one of the type: -2147483648 to 2147483647, at kind 8 -9223372036854775808 to
-- 9223372036854775807 (own rule for ISO/IEC 1539-1:2004, 4.4.1). No number is of another type; storage has 64 bits for each.
abbrev pub fits : Base → ℤ → Bool
fits base.Integer z = fits_below (2 ^ 31) z
fits base.Long z = fits_below (2 ^ 63) z
fits base.Logical z = fits_below (2 ^ 63) z
fits (base.Derived t) z = fits_below (2 ^ 63) z

-- whether each scalar of a value fits
abbrev pub all_fit : Base → Values → Bool
all_fit t none = true
all_fit t (more (Number z) vs) = fits t z && all_fit t vs
all_fit t (more v vs) = all_fit t vs

abbrev pub value_fits : Base → Value → Bool
value_fits t (Number z) = fits t z
value_fits t (Array ss vs) = all_fit t vs
value_fits t v = true

-- the value as one of the type, or an overflow (own rule)
unfoldable pub converted : Base → Value → Place → Ran Value
converted t v place = if value_fits t v then gives v else fails Overflow place

abbrev pub is_zero : ℤ → Bool
is_zero (pos n) = nat_eq n 0
is_zero (negsuc n) = false

-- what needs a divisor that is not zero (own rule)
unfoldable pub divided : ℤ → Base → ℤ → Place → Ran Value
divided y t z place = if is_zero y then fails DivisionByZero place else converted t (Number z) place

-- a remainder with the sign of the divisor (13.7.80)
abbrev pub floor_rem : ℤ → ℤ → ℤ
floor_rem x y = if is_zero (int_rem x y) then pos 0 else (if int_lt x (pos 0) && int_lt y (pos 0) then int_rem x y
    else (if int_lt x (pos 0) || int_lt y (pos 0) then int_rem x y +ℤ y else int_rem x y))

abbrev pub is_even : ℕ → Bool
is_even n = nat_eq (n % 2) 0

-- a whole number to a power that is not negative
abbrev pub raised : ℤ → ℕ → ℤ
raised (pos x) n = pos (x ^ n)
raised (negsuc x) n = if is_even n then pos (suc x ^ n) else neg_ℤ (pos (suc x ^ n))

-- The power (7.1.4): 1 at exponent 0; at a negative one 1 divided by the power, over whole numbers (own rule).
abbrev pub power : ℤ → ℤ → Base → Place → Ran Value
power x (pos n) t place = converted t (Number (raised x n)) place
power (pos zero) (negsuc n) t place = fails DivisionByZero place
power (pos (suc zero)) (negsuc n) t place = gives (Number (pos 1))
power (pos (suc (suc x))) (negsuc n) t place = gives (Number (pos 0))
power (negsuc zero) (negsuc n) t place = gives (Number (raised (negsuc 0) (suc n)))
power (negsuc (suc x)) (negsuc n) t place = gives (Number (pos 0))

abbrev pub same_truth : Bool → Bool → Bool
same_truth true b = b
same_truth false b = not b

abbrev pub same_number : ℤ → ℤ → Bool
same_number x y = int_le x y && int_le y x

-- an operation on two scalars (7.1.4, 7.1.5, 13.7)
abbrev pub apply : BinaryOperator → Base → Value → Value → Place → Ran Value
apply o.Add t x y place = converted t (Number (number_of x +ℤ number_of y)) place
apply o.Subtract t x y place = converted t (Number (number_of x -ℤ number_of y)) place
apply o.Multiply t x y place = converted t (Number (number_of x *ℤ number_of y)) place
apply o.Divide t x y place = divided (number_of y) t (int_div (number_of x) (number_of y)) place
apply o.Power t x y place = power (number_of x) (number_of y) t place
apply o.Mod t x y place = divided (number_of y) t (int_rem (number_of x) (number_of y)) place
apply o.Modulo t x y place = divided (number_of y) t (floor_rem (number_of x) (number_of y)) place
apply o.Max t x y place = gives (if int_lt (number_of x) (number_of y) then y else x)
apply o.Min t x y place = gives (if int_lt (number_of y) (number_of x) then y else x)
apply o.Equal t x y place = gives (Truth (same_number (number_of x) (number_of y)))
apply o.NotEqual t x y place = gives (Truth (not (same_number (number_of x) (number_of y))))
apply o.Less t x y place = gives (Truth (int_lt (number_of x) (number_of y)))
apply o.LessOrEqual t x y place = gives (Truth (int_le (number_of x) (number_of y)))
apply o.Greater t x y place = gives (Truth (int_lt (number_of y) (number_of x)))
apply o.GreaterOrEqual t x y place = gives (Truth (int_le (number_of y) (number_of x)))
apply o.And t x y place = gives (Truth (truth_of x && truth_of y))
apply o.Or t x y place = gives (Truth (truth_of x || truth_of y))
apply o.Equivalent t x y place = gives (Truth (same_truth (truth_of x) (truth_of y)))
apply o.NotEquivalent t x y place = gives (Truth (not (same_truth (truth_of x) (truth_of y))))

-- an operation on one scalar
abbrev pub change_of : change.UnaryOperator → Base → Value → Place → Ran Value
change_of Negate t x place = converted t (Number (neg_ℤ (number_of x))) place
change_of Absolute t x place = converted t (Number (pos (nat_abs (number_of x)))) place
change_of Not t x place = gives (Truth (not (truth_of x)))

-- how often a loop or a triplet goes from a bound to another by a step (8.1.6.4)
abbrev pub natural : ℤ → ℕ
natural (pos n) = n
natural (negsuc n) = 0

abbrev pub trips : ℤ → ℤ → ℤ → ℕ
trips lower upper step = natural (int_div ((upper -ℤ lower) +ℤ step) step)

-- the value of a constant
abbrev pub constant_value : Constant → Value
constant_value (constant.Number z) = Number z
constant_value (constant.Truth b) = Truth b

-- whether a value meets a range of a CASE (8.1.3.1)
abbrev pub meets : Range → Value → Bool
meets (range.One (constant.Number z)) v = same_number z (number_of v)
meets (range.One (constant.Truth b)) v = same_truth b (truth_of v)
meets (range.From z) v = int_le z (number_of v)
meets (range.To z) v = int_le (number_of v) z
meets (range.Between y z) v = int_le y (number_of v) && int_le (number_of v) z
