use Rattle.std.specs.Prelude.{refl}
use Rattle.f3_rules.specs.Rule.{row_of}
use Rattle.f3_rules.specs.Least.{is_before}
use Rattle.f3_type_rows.specs.D1And2.{D1And2Show}

pub d1_and2_show : D1And2Show
unfolding row_of is_before
d1_and2_show = (
  refl,
  refl,
  refl,
  refl,
  refl,
  refl,
  refl,
  refl,
  refl,
  refl,
  refl,
  refl,
  refl,
  refl,
  refl,
  refl,
  refl,
  refl,
  refl,
  refl,
  refl,
  refl,
  refl,
  refl,
  refl,
  refl,
)
