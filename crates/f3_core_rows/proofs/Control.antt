-- What these programs print, by computation.
use Rattle.std.specs.Prelude.{refl}
use Rattle.std.specs.Fmt.{digits}
use Rattle.std.specs.declared.alloc.Global.{Global}
use Rattle.f3_meaning_whole.specs.Ran.{◌>>=◌, gives, fails, stops, beyond, looks, does, asks, prints_bytes}
use Rattle.f3_meaning_whole.specs.Arithmetic.{converted, divided}
use Rattle.f3_meaning_whole.specs.Act.{fitted}
use Rattle.f3_code.specs.CoreRun.{core_calls, core_runs, core_run_of}
use Rattle.f3_core_rows.specs.Control as row

selectors : (h : Global) → row.selectors_shows h
unfolding digits converted divided prints_bytes fitted core_run_of core_runs core_calls ◌>>=◌ gives fails stops beyond looks does asks
selectors h = refl

ways_out : (h : Global) → row.ways_out_shows h
unfolding digits converted divided prints_bytes fitted core_run_of core_runs core_calls ◌>>=◌ gives fails stops beyond looks does asks
ways_out h = refl

functions : (h : Global) → row.functions_shows h
unfolding digits converted divided prints_bytes fitted core_run_of core_runs core_calls ◌>>=◌ gives fails stops beyond looks does asks
functions h = refl

stat : (h : Global) → row.stat_shows h
unfolding digits converted divided prints_bytes fitted core_run_of core_runs core_calls ◌>>=◌ gives fails stops beyond looks does asks
stat h = refl

stat_of_lent : (h : Global) → row.stat_of_lent_shows h
unfolding digits converted divided prints_bytes fitted core_run_of core_runs core_calls ◌>>=◌ gives fails stops beyond looks does asks
stat_of_lent h = refl

refused_with_stat : (h : Global) → row.refused_with_stat_shows h
unfolding digits converted divided prints_bytes fitted core_run_of core_runs core_calls ◌>>=◌ gives fails stops beyond looks does asks
refused_with_stat h = refl

refused_without_stat : (h : Global) → row.refused_without_stat_shows h
unfolding digits converted divided prints_bytes fitted core_run_of core_runs core_calls ◌>>=◌ gives fails stops beyond looks does asks
refused_without_stat h = refl

held_value_refused : (h : Global) → row.held_value_refused_shows h
unfolding digits converted divided prints_bytes fitted core_run_of core_runs core_calls ◌>>=◌ gives fails stops beyond looks does asks
held_value_refused h = refl

case_ranges : (h : Global) → row.case_ranges_shows h
unfolding digits converted divided prints_bytes fitted core_run_of core_runs core_calls ◌>>=◌ gives fails stops beyond looks does asks
case_ranges h = refl

case_none : (h : Global) → row.case_none_shows h
unfolding digits converted divided prints_bytes fitted core_run_of core_runs core_calls ◌>>=◌ gives fails stops beyond looks does asks
case_none h = refl

do_of_kind_8 : (h : Global) → row.do_of_kind_8_shows h
unfolding digits converted divided prints_bytes fitted core_run_of core_runs core_calls ◌>>=◌ gives fails stops beyond looks does asks
do_of_kind_8 h = refl

do_past_range : (h : Global) → row.do_past_range_shows h
unfolding digits converted divided prints_bytes fitted core_run_of core_runs core_calls ◌>>=◌ gives fails stops beyond looks does asks
do_past_range h = refl

sections : (h : Global) → row.sections_shows h
unfolding digits converted divided prints_bytes fitted core_run_of core_runs core_calls ◌>>=◌ gives fails stops beyond looks does asks
sections h = refl

turns_of_three : (h : Global) → row.turns_of_three_shows h
unfolding digits converted divided prints_bytes fitted core_run_of core_runs core_calls ◌>>=◌ gives fails stops beyond looks does asks
turns_of_three h = refl

three_calls : (h : Global) → row.three_calls_shows h
unfolding digits converted divided prints_bytes fitted core_run_of core_runs core_calls ◌>>=◌ gives fails stops beyond looks does asks
three_calls h = refl

pub control_shows : row.ControlShows
control_shows h = (
  selectors h,
  ways_out h,
  functions h,
  stat h,
  stat_of_lent h,
  refused_with_stat h,
  refused_without_stat h,
  held_value_refused h,
  case_ranges h,
  case_none h,
  do_of_kind_8 h,
  do_past_range h,
  sections h,
  turns_of_three h,
  three_calls h,
)
