-- Operations on values are those on scalars, at the width of the type.
use Rattle.std.proofs.Common.{◌≡◌, zero, suc, ℤ, pos, negsuc, refl, ap, Bool, true, false, cond}
use Rattle.f3_places.specs.declared.source.Place.{Place}
use Rattle.f3_program.specs.declared.declarations.Base.{Base}
use Rattle.f3_program.specs.declared.declarations.Base.TheVariants as base
use Rattle.f3_program.specs.declared.declarations.Constant.TheVariants as constant
use Rattle.f3_program.specs.declared.expression.BinaryOperator.{BinaryOperator}
use Rattle.f3_program.specs.declared.expression.BinaryOperator.TheVariants as o
use Rattle.f3_program.specs.declared.expression.UnaryOperator.{UnaryOperator}
use Rattle.f3_program.specs.declared.expression.UnaryOperator.TheVariants.{Negate, Absolute, Not}
use Rattle.f3_program.specs.declared.statement.Range.{Range}
use Rattle.f3_program.specs.declared.statement.Range.TheVariants as range
use Rattle.f3_meaning_whole.specs.Value as m
use Rattle.f3_meaning_whole.specs.Value.{number_of, truth_of}
use Rattle.f3_meaning_whole.specs.Ran.{gives, fails}
use Rattle.f3_meaning_whole.specs.declared.run_error.RunError.TheVariants.{Overflow}
use Rattle.f3_meaning_whole.specs.Arithmetic.{converted, divided, power, apply, change_of, meets, value_fits}
use Rattle.f3_arithmetic.specs.Scalars.{base_of}
use Rattle.f3_shaping.specs.Results.{width_of}

pub given : (t : Base) (v : m.Value) (place : Place) → true ≡ value_fits t v → gives v ≡ converted t v place
unfolding converted
given t v place is = ap (λ (b : Bool). cond b (gives v) (fails Overflow place)) is

pub failed : (t : Base) (v : m.Value) (place : Place) → false ≡ value_fits t v → fails Overflow place ≡ converted t v place
unfolding converted
failed t v place is = ap (λ (b : Bool). cond b (gives v) (fails Overflow place)) is

converted_at : (of : Base) (z : ℤ) (place : Place) → converted (base_of (width_of of)) (m.Number z) place ≡ converted of (m.Number z) place
unfolding converted
converted_at base.Integer z place = refl
converted_at base.Long z place = refl
converted_at base.Logical z place = refl
converted_at (base.Derived t) z place = refl

divided_at : (of : Base) (y z : ℤ) (place : Place) → divided y (base_of (width_of of)) z place ≡ divided y of z place
unfolding converted divided
divided_at base.Integer y z place = refl
divided_at base.Long y z place = refl
divided_at base.Logical y z place = refl
divided_at (base.Derived t) y z place = refl

power_at : (of : Base) (x y : ℤ) (place : Place) → power x y (base_of (width_of of)) place ≡ power x y of place
power_at of x (pos n) place = converted_at of _ place
power_at of (pos zero) (negsuc n) place = refl
power_at of (pos (suc zero)) (negsuc n) place = refl
power_at of (pos (suc (suc x))) (negsuc n) place = refl
power_at of (negsuc zero) (negsuc n) place = refl
power_at of (negsuc (suc x)) (negsuc n) place = refl

pub unary_at : (op : UnaryOperator) (of : Base) (c v : m.Value) (place : Place) → number_of c ≡ number_of v → truth_of c ≡ truth_of v →
    change_of op (base_of (width_of of)) c place ≡ change_of op of v place
unary_at Negate of c v place n t = rw n (converted_at of _ place)
unary_at Absolute of c v place n t = rw n (converted_at of _ place)
unary_at Not of c v place n t = rw t refl

pub binary_at : (op : BinaryOperator) (of : Base) (c d v w : m.Value) (place : Place) → (op ≡ o.Max → ⊥) → (op ≡ o.Min → ⊥) →
    number_of c ≡ number_of v → truth_of c ≡ truth_of v →
    number_of d ≡ number_of w → truth_of d ≡ truth_of w → apply op (base_of (width_of of)) c d place ≡ apply op of v w place
binary_at o.Add of c d v w place j k n t p q = rw (n, p) (converted_at of _ place)
binary_at o.Subtract of c d v w place j k n t p q = rw (n, p) (converted_at of _ place)
binary_at o.Multiply of c d v w place j k n t p q = rw (n, p) (converted_at of _ place)
binary_at o.Divide of c d v w place j k n t p q = rw (n, p) (divided_at of _ _ place)
binary_at o.Power of c d v w place j k n t p q = rw (n, p) (power_at of _ _ place)
binary_at o.Mod of c d v w place j k n t p q = rw (n, p) (divided_at of _ _ place)
binary_at o.Modulo of c d v w place j k n t p q = rw (n, p) (divided_at of _ _ place)
binary_at o.Max of c d v w place j k n t p q = absurd (j refl)
binary_at o.Min of c d v w place j k n t p q = absurd (k refl)
binary_at o.Equal of c d v w place j k n t p q = rw (n, p) refl
binary_at o.NotEqual of c d v w place j k n t p q = rw (n, p) refl
binary_at o.Less of c d v w place j k n t p q = rw (n, p) refl
binary_at o.LessOrEqual of c d v w place j k n t p q = rw (n, p) refl
binary_at o.Greater of c d v w place j k n t p q = rw (n, p) refl
binary_at o.GreaterOrEqual of c d v w place j k n t p q = rw (n, p) refl
binary_at o.And of c d v w place j k n t p q = rw (t, q) refl
binary_at o.Or of c d v w place j k n t p q = rw (t, q) refl
binary_at o.Equivalent of c d v w place j k n t p q = rw (t, q) refl
binary_at o.NotEquivalent of c d v w place j k n t p q = rw (t, q) refl

pub meets_same : (r : Range) (c v : m.Value) → number_of c ≡ number_of v → truth_of c ≡ truth_of v → meets r c ≡ meets r v
meets_same (range.One (constant.Number z)) c v n t = rw n refl
meets_same (range.One (constant.Truth b)) c v n t = rw t refl
meets_same (range.From z) c v n t = rw n refl
meets_same (range.To z) c v n t = rw n refl
meets_same (range.Between y z) c v n t = rw n refl
