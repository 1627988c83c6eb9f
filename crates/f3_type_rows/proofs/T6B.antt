use Rattle.std.specs.Prelude.{refl}
use Rattle.f3_rules.specs.Rule.{row_of}
use Rattle.f3_rules.specs.Least.{is_before}
use Rattle.f3_type_rows.specs.T6B.{T6BShow}

pub t6_b_show : T6BShow
unfolding row_of is_before
t6_b_show = (refl, refl, refl, refl, refl, refl, refl, refl, refl, refl, refl, refl, refl, refl, refl, refl, refl, refl, refl)
