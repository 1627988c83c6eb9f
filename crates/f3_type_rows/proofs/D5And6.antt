use Rattle.std.specs.Prelude.{refl}
use Rattle.f3_rules.specs.Rule.{row_of}
use Rattle.f3_rules.specs.Least.{is_before}
use Rattle.f3_type_rows.specs.D5And6.{D5And6Show}

pub d5_and6_show : D5And6Show
unfolding row_of is_before
d5_and6_show = (refl, refl, refl, refl, refl, refl, refl, refl, refl, refl, refl)
