-- Scalars of types.
use Rattle.std.specs.Prelude.{ℤ}
use Rattle.f3_program.specs.declared.declarations.Base.{Base}
use Rattle.f3_program.specs.declared.declarations.Base.TheVariants as base
use Rattle.f3_meaning_whole.specs.Value.{Value, Number, Truth}
use Rattle.f3_rooms.specs.Values.{is_set}

-- the scalar of a type that a word is
abbrev pub scalar_of : Base → ℤ → Value
scalar_of base.Logical z = Truth (is_set z)
scalar_of base.Integer z = Number z
scalar_of base.Long z = Number z
scalar_of (base.Derived t) z = Number z
