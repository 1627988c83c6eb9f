use Rattle.std.specs.Prelude.{refl}
use Rattle.std.specs.Fmt.{digits}
use Rattle.std.specs.declared.alloc.Global.{Global}
use Rattle.f3_meaning_whole.specs.Ran.{◌>>=◌, gives, fails, stops, beyond, looks, does, asks, prints_bytes}
use Rattle.f3_meaning_whole.specs.Arithmetic.{converted, divided}
use Rattle.f3_meaning_whole.specs.Act.{fitted}
use Rattle.f3_meaning_whole.specs.Run.{calls_of, runs, run_of}
use Rattle.f3_elaboration_rows.specs.Meant7 as row

usage_54_stop_in_procedure_formed : (h : Global) → row.usage_54_stop_in_procedure_formed h
usage_54_stop_in_procedure_formed h = refl

usage_54_stop_in_procedure_shows : (h : Global) → row.usage_54_stop_in_procedure_shows h
unfolding digits converted divided prints_bytes fitted run_of runs calls_of ◌>>=◌ gives fails stops beyond looks does asks
usage_54_stop_in_procedure_shows h = refl

usage_55_do_up_formed : (h : Global) → row.usage_55_do_up_formed h
usage_55_do_up_formed h = refl

usage_55_do_up_shows : (h : Global) → row.usage_55_do_up_shows h
unfolding digits converted divided prints_bytes fitted run_of runs calls_of ◌>>=◌ gives fails stops beyond looks does asks
usage_55_do_up_shows h = refl

usage_56_do_down_formed : (h : Global) → row.usage_56_do_down_formed h
usage_56_do_down_formed h = refl

usage_56_do_down_shows : (h : Global) → row.usage_56_do_down_shows h
unfolding digits converted divided prints_bytes fitted run_of runs calls_of ◌>>=◌ gives fails stops beyond looks does asks
usage_56_do_down_shows h = refl

usage_57_do_past_range_formed : (h : Global) → row.usage_57_do_past_range_formed h
usage_57_do_past_range_formed h = refl

usage_57_do_past_range_shows : (h : Global) → row.usage_57_do_past_range_shows h
unfolding digits converted divided prints_bytes fitted run_of runs calls_of ◌>>=◌ gives fails stops beyond looks does asks
usage_57_do_past_range_shows h = refl

usage_58_do_count_fixed_formed : (h : Global) → row.usage_58_do_count_fixed_formed h
usage_58_do_count_fixed_formed h = refl

usage_58_do_count_fixed_shows : (h : Global) → row.usage_58_do_count_fixed_shows h
unfolding digits converted divided prints_bytes fitted run_of runs calls_of ◌>>=◌ gives fails stops beyond looks does asks
usage_58_do_count_fixed_shows h = refl

usage_59_cycle_exit_formed : (h : Global) → row.usage_59_cycle_exit_formed h
usage_59_cycle_exit_formed h = refl

usage_59_cycle_exit_shows : (h : Global) → row.usage_59_cycle_exit_shows h
unfolding digits converted divided prints_bytes fitted run_of runs calls_of ◌>>=◌ gives fails stops beyond looks does asks
usage_59_cycle_exit_shows h = refl

usage_60_do_while_formed : (h : Global) → row.usage_60_do_while_formed h
usage_60_do_while_formed h = refl

usage_60_do_while_shows : (h : Global) → row.usage_60_do_while_shows h
unfolding digits converted divided prints_bytes fitted run_of runs calls_of ◌>>=◌ gives fails stops beyond looks does asks
usage_60_do_while_shows h = refl

usage_61_exit_inner_formed : (h : Global) → row.usage_61_exit_inner_formed h
usage_61_exit_inner_formed h = refl

usage_61_exit_inner_shows : (h : Global) → row.usage_61_exit_inner_shows h
unfolding digits converted divided prints_bytes fitted run_of runs calls_of ◌>>=◌ gives fails stops beyond looks does asks
usage_61_exit_inner_shows h = refl

usage_62_if_chain_formed : (h : Global) → row.usage_62_if_chain_formed h
usage_62_if_chain_formed h = refl

usage_62_if_chain_shows : (h : Global) → row.usage_62_if_chain_shows h
unfolding digits converted divided prints_bytes fitted run_of runs calls_of ◌>>=◌ gives fails stops beyond looks does asks
usage_62_if_chain_shows h = refl

usage_63_if_joined_words_formed : (h : Global) → row.usage_63_if_joined_words_formed h
usage_63_if_joined_words_formed h = refl

usage_63_if_joined_words_shows : (h : Global) → row.usage_63_if_joined_words_shows h
unfolding digits converted divided prints_bytes fitted run_of runs calls_of ◌>>=◌ gives fails stops beyond looks does asks
usage_63_if_joined_words_shows h = refl

usage_64_if_action_place_formed : (h : Global) → row.usage_64_if_action_place_formed h
usage_64_if_action_place_formed h = refl

usage_64_if_action_place_shows : (h : Global) → row.usage_64_if_action_place_shows h
unfolding digits converted divided prints_bytes fitted run_of runs calls_of ◌>>=◌ gives fails stops beyond looks does asks
usage_64_if_action_place_shows h = refl

usage_65_case_ranges_formed : (h : Global) → row.usage_65_case_ranges_formed h
usage_65_case_ranges_formed h = refl

usage_65_case_ranges_shows : (h : Global) → row.usage_65_case_ranges_shows h
unfolding digits converted divided prints_bytes fitted run_of runs calls_of ◌>>=◌ gives fails stops beyond looks does asks
usage_65_case_ranges_shows h = refl

pub meant7_show : row.Meant7Show
meant7_show h = (
  usage_54_stop_in_procedure_formed h,
  usage_54_stop_in_procedure_shows h,
  usage_55_do_up_formed h,
  usage_55_do_up_shows h,
  usage_56_do_down_formed h,
  usage_56_do_down_shows h,
  usage_57_do_past_range_formed h,
  usage_57_do_past_range_shows h,
  usage_58_do_count_fixed_formed h,
  usage_58_do_count_fixed_shows h,
  usage_59_cycle_exit_formed h,
  usage_59_cycle_exit_shows h,
  usage_60_do_while_formed h,
  usage_60_do_while_shows h,
  usage_61_exit_inner_formed h,
  usage_61_exit_inner_shows h,
  usage_62_if_chain_formed h,
  usage_62_if_chain_shows h,
  usage_63_if_joined_words_formed h,
  usage_63_if_joined_words_shows h,
  usage_64_if_action_place_formed h,
  usage_64_if_action_place_shows h,
  usage_65_case_ranges_formed h,
  usage_65_case_ranges_shows h,
)
