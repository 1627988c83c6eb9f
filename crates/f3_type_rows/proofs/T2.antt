use Rattle.std.specs.Prelude.{refl}
use Rattle.f3_rules.specs.Rule.{row_of}
use Rattle.f3_rules.specs.Least.{is_before}
use Rattle.f3_type_rows.specs.T2.{T2Show}

pub t2_show : T2Show
unfolding row_of is_before
t2_show = (refl, refl, refl, refl, refl, refl, refl, refl, refl, refl, refl, refl, refl, refl, refl, refl, refl, refl, refl, refl, refl, refl, refl)
