use Rattle.std.specs.Prelude.{refl}
use Rattle.f3_rules.specs.Rule.{row_of}
use Rattle.f3_rules.specs.Least.{is_before}
use Rattle.f3_type_rows.specs.T11And12.{T11And12Show}

pub t11_and12_show : T11And12Show
unfolding row_of is_before
t11_and12_show = (refl, refl, refl, refl, refl, refl, refl, refl, refl, refl, refl, refl, refl)
