use Rattle.std.specs.Prelude.{refl}
use Rattle.std.specs.Fmt.{digits}
use Rattle.std.specs.declared.alloc.Global.{Global}
use Rattle.f3_meaning_whole.specs.Ran.{◌>>=◌, gives, fails, stops, beyond, looks, does, asks, prints_bytes}
use Rattle.f3_meaning_whole.specs.Arithmetic.{converted, divided}
use Rattle.f3_meaning_whole.specs.Act.{fitted}
use Rattle.f3_meaning_whole.specs.Run.{calls_of, runs, run_of}
use Rattle.f3_meaning_whole.specs.Permitted.{IsLawful}
use Rattle.f3_meaning_rows.specs.Rows8.{Rows8Show, usage_54_stop_in_procedure_shows, usage_55_do_up_shows, usage_56_do_down_shows, usage_57_do_past_range_shows, usage_58_do_count_fixed_shows, usage_59_cycle_exit_shows, usage_60_do_while_shows, usage_61_exit_inner_shows, usage_62_if_chain_shows, usage_63_if_joined_words_shows, usage_64_if_action_place_shows, usage_65_case_ranges_shows, usage_66_case_default_first_shows, usage_67_case_logical_shows, usage_68_case_none_shows, usage_69_both_operands_shows, usage_54_stop_in_procedure, usage_55_do_up, usage_56_do_down, usage_57_do_past_range, usage_58_do_count_fixed, usage_59_cycle_exit, usage_60_do_while, usage_61_exit_inner, usage_62_if_chain, usage_63_if_joined_words, usage_64_if_action_place, usage_65_case_ranges, usage_66_case_default_first, usage_67_case_logical, usage_68_case_none, usage_69_both_operands}

usage_54_stop_in_procedure_lawful : (h : Global) → IsLawful (usage_54_stop_in_procedure h)
usage_54_stop_in_procedure_lawful h = record { in_main = search; in_procedures = search; in_types = search }

usage_54_stop_in_procedure_run : (h : Global) → usage_54_stop_in_procedure_shows h
unfolding digits converted divided prints_bytes fitted run_of runs calls_of ◌>>=◌ gives fails stops beyond looks does asks
usage_54_stop_in_procedure_run h = refl

usage_55_do_up_lawful : (h : Global) → IsLawful (usage_55_do_up h)
usage_55_do_up_lawful h = record { in_main = search; in_procedures = search; in_types = search }

usage_55_do_up_run : (h : Global) → usage_55_do_up_shows h
unfolding digits converted divided prints_bytes fitted run_of runs calls_of ◌>>=◌ gives fails stops beyond looks does asks
usage_55_do_up_run h = refl

usage_56_do_down_lawful : (h : Global) → IsLawful (usage_56_do_down h)
usage_56_do_down_lawful h = record { in_main = search; in_procedures = search; in_types = search }

usage_56_do_down_run : (h : Global) → usage_56_do_down_shows h
unfolding digits converted divided prints_bytes fitted run_of runs calls_of ◌>>=◌ gives fails stops beyond looks does asks
usage_56_do_down_run h = refl

usage_57_do_past_range_lawful : (h : Global) → IsLawful (usage_57_do_past_range h)
usage_57_do_past_range_lawful h = record { in_main = search; in_procedures = search; in_types = search }

usage_57_do_past_range_run : (h : Global) → usage_57_do_past_range_shows h
unfolding digits converted divided prints_bytes fitted run_of runs calls_of ◌>>=◌ gives fails stops beyond looks does asks
usage_57_do_past_range_run h = refl

usage_58_do_count_fixed_lawful : (h : Global) → IsLawful (usage_58_do_count_fixed h)
usage_58_do_count_fixed_lawful h = record { in_main = search; in_procedures = search; in_types = search }

usage_58_do_count_fixed_run : (h : Global) → usage_58_do_count_fixed_shows h
unfolding digits converted divided prints_bytes fitted run_of runs calls_of ◌>>=◌ gives fails stops beyond looks does asks
usage_58_do_count_fixed_run h = refl

usage_59_cycle_exit_lawful : (h : Global) → IsLawful (usage_59_cycle_exit h)
usage_59_cycle_exit_lawful h = record { in_main = search; in_procedures = search; in_types = search }

usage_59_cycle_exit_run : (h : Global) → usage_59_cycle_exit_shows h
unfolding digits converted divided prints_bytes fitted run_of runs calls_of ◌>>=◌ gives fails stops beyond looks does asks
usage_59_cycle_exit_run h = refl

usage_60_do_while_lawful : (h : Global) → IsLawful (usage_60_do_while h)
usage_60_do_while_lawful h = record { in_main = search; in_procedures = search; in_types = search }

usage_60_do_while_run : (h : Global) → usage_60_do_while_shows h
unfolding digits converted divided prints_bytes fitted run_of runs calls_of ◌>>=◌ gives fails stops beyond looks does asks
usage_60_do_while_run h = refl

usage_61_exit_inner_lawful : (h : Global) → IsLawful (usage_61_exit_inner h)
usage_61_exit_inner_lawful h = record { in_main = search; in_procedures = search; in_types = search }

usage_61_exit_inner_run : (h : Global) → usage_61_exit_inner_shows h
unfolding digits converted divided prints_bytes fitted run_of runs calls_of ◌>>=◌ gives fails stops beyond looks does asks
usage_61_exit_inner_run h = refl

usage_62_if_chain_lawful : (h : Global) → IsLawful (usage_62_if_chain h)
usage_62_if_chain_lawful h = record { in_main = search; in_procedures = search; in_types = search }

usage_62_if_chain_run : (h : Global) → usage_62_if_chain_shows h
unfolding digits converted divided prints_bytes fitted run_of runs calls_of ◌>>=◌ gives fails stops beyond looks does asks
usage_62_if_chain_run h = refl

usage_63_if_joined_words_lawful : (h : Global) → IsLawful (usage_63_if_joined_words h)
usage_63_if_joined_words_lawful h = record { in_main = search; in_procedures = search; in_types = search }

usage_63_if_joined_words_run : (h : Global) → usage_63_if_joined_words_shows h
unfolding digits converted divided prints_bytes fitted run_of runs calls_of ◌>>=◌ gives fails stops beyond looks does asks
usage_63_if_joined_words_run h = refl

usage_64_if_action_place_lawful : (h : Global) → IsLawful (usage_64_if_action_place h)
usage_64_if_action_place_lawful h = record { in_main = search; in_procedures = search; in_types = search }

usage_64_if_action_place_run : (h : Global) → usage_64_if_action_place_shows h
unfolding digits converted divided prints_bytes fitted run_of runs calls_of ◌>>=◌ gives fails stops beyond looks does asks
usage_64_if_action_place_run h = refl

usage_65_case_ranges_lawful : (h : Global) → IsLawful (usage_65_case_ranges h)
usage_65_case_ranges_lawful h = record { in_main = search; in_procedures = search; in_types = search }

usage_65_case_ranges_run : (h : Global) → usage_65_case_ranges_shows h
unfolding digits converted divided prints_bytes fitted run_of runs calls_of ◌>>=◌ gives fails stops beyond looks does asks
usage_65_case_ranges_run h = refl

usage_66_case_default_first_lawful : (h : Global) → IsLawful (usage_66_case_default_first h)
usage_66_case_default_first_lawful h = record { in_main = search; in_procedures = search; in_types = search }

usage_66_case_default_first_run : (h : Global) → usage_66_case_default_first_shows h
unfolding digits converted divided prints_bytes fitted run_of runs calls_of ◌>>=◌ gives fails stops beyond looks does asks
usage_66_case_default_first_run h = refl

usage_67_case_logical_lawful : (h : Global) → IsLawful (usage_67_case_logical h)
usage_67_case_logical_lawful h = record { in_main = search; in_procedures = search; in_types = search }

usage_67_case_logical_run : (h : Global) → usage_67_case_logical_shows h
unfolding digits converted divided prints_bytes fitted run_of runs calls_of ◌>>=◌ gives fails stops beyond looks does asks
usage_67_case_logical_run h = refl

usage_68_case_none_lawful : (h : Global) → IsLawful (usage_68_case_none h)
usage_68_case_none_lawful h = record { in_main = search; in_procedures = search; in_types = search }

usage_68_case_none_run : (h : Global) → usage_68_case_none_shows h
unfolding digits converted divided prints_bytes fitted run_of runs calls_of ◌>>=◌ gives fails stops beyond looks does asks
usage_68_case_none_run h = refl

usage_69_both_operands_lawful : (h : Global) → IsLawful (usage_69_both_operands h)
usage_69_both_operands_lawful h = record { in_main = search; in_procedures = search; in_types = search }

usage_69_both_operands_run : (h : Global) → usage_69_both_operands_shows h
unfolding digits converted divided prints_bytes fitted run_of runs calls_of ◌>>=◌ gives fails stops beyond looks does asks
usage_69_both_operands_run h = refl

pub rows8_show : Rows8Show
rows8_show h = ((usage_54_stop_in_procedure_lawful h, usage_54_stop_in_procedure_run h), (usage_55_do_up_lawful h, usage_55_do_up_run h), (usage_56_do_down_lawful h, usage_56_do_down_run h), (usage_57_do_past_range_lawful h, usage_57_do_past_range_run h), (usage_58_do_count_fixed_lawful h, usage_58_do_count_fixed_run h), (usage_59_cycle_exit_lawful h, usage_59_cycle_exit_run h), (usage_60_do_while_lawful h, usage_60_do_while_run h), (usage_61_exit_inner_lawful h, usage_61_exit_inner_run h), (usage_62_if_chain_lawful h, usage_62_if_chain_run h), (usage_63_if_joined_words_lawful h, usage_63_if_joined_words_run h), (usage_64_if_action_place_lawful h, usage_64_if_action_place_run h), (usage_65_case_ranges_lawful h, usage_65_case_ranges_run h), (usage_66_case_default_first_lawful h, usage_66_case_default_first_run h), (usage_67_case_logical_lawful h, usage_67_case_logical_run h), (usage_68_case_none_lawful h, usage_68_case_none_run h), (usage_69_both_operands_lawful h, usage_69_both_operands_run h))
