use Rattle.std.specs.Prelude.{refl}
use Rattle.f3_rules.specs.Rule.{row_of}
use Rattle.f3_rules.specs.Least.{is_before}
use Rattle.f3_type_rows.specs.AcceptedG.{AcceptedGShow}

pub accepted_g_show : AcceptedGShow
unfolding row_of is_before
accepted_g_show = (
  refl,
  refl,
  refl,
  refl,
  refl,
  refl,
  refl,
  refl,
  refl,
  refl,
  refl,
  refl,
  refl,
  refl,
  refl,
  refl,
  refl,
  refl,
  refl,
  refl,
  refl,
  refl,
  refl,
  refl,
  refl,
)
