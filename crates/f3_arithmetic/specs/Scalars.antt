-- Scalars in memory, and what operations on them answer.
use Rattle.std.specs.Prelude.{ℤ, pos, ◌+ℤ◌, ◌&&◌, ◌||◌, int_lt, int_rem, if◌then◌else◌, Result, Ok, Err}
use Rattle.f3_places.specs.declared.source.Place.{Place}
use Rattle.f3_program.specs.declared.declarations.Base.{Base}
use Rattle.f3_program.specs.declared.declarations.Base.TheVariants as base
use Rattle.f3_program.specs.declared.declarations.Constant.{Constant}
use Rattle.f3_meaning_whole.specs.Value.{Value, Number}
use Rattle.f3_meaning_whole.specs.Arithmetic.{constant_value}
use Rattle.f3_meaning_whole.specs.Ran.{Ran, gives, fails}
use Rattle.f3_meaning_whole.specs.declared.run_error.RunError.{RunError}
use Rattle.f3_arithmetic.specs.declared.numbers.Width.{Width}
use Rattle.f3_arithmetic.specs.declared.numbers.Width.TheVariants.{Four, Eight}

-- the type of whole numbers of a width
abbrev pub base_of : Width → Base
base_of Four = base.Integer
base_of Eight = base.Long

-- a remainder that is not zero, with the sign of the divisor (13.7.74)
abbrev pub floored : ℤ → ℤ → ℤ
floored x y = if int_lt x (pos 0) && int_lt y (pos 0) then int_rem x y
    else (if int_lt x (pos 0) || int_lt y (pos 0) then int_rem x y +ℤ y else int_rem x y)

-- what an operation at a place gives, or the error with which it ends the run
abbrev pub number_ran : Result ℤ RunError → Place → Ran Value
number_ran (Ok z) place = gives (Number z)
number_ran (Err e) place = fails e place

abbrev pub scalar_ran : Result Constant RunError → Place → Ran Value
scalar_ran (Ok c) place = gives (constant_value c)
scalar_ran (Err e) place = fails e place
