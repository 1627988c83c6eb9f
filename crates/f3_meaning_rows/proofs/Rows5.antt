use Rattle.std.specs.Prelude.{refl}
use Rattle.std.specs.Fmt.{digits}
use Rattle.std.specs.declared.alloc.Global.{Global}
use Rattle.f3_meaning_whole.specs.Ran.{◌>>=◌, gives, fails, stops, beyond, looks, does, asks, prints_bytes}
use Rattle.f3_meaning_whole.specs.Arithmetic.{converted, divided}
use Rattle.f3_meaning_whole.specs.Act.{fitted}
use Rattle.f3_meaning_whole.specs.Run.{calls_of, runs, run_of}
use Rattle.f3_meaning_whole.specs.Permitted.{IsLawful}
use Rattle.f3_meaning_rows.specs.Rows5.{Rows5Show, sample_10_scalar_final_shows, sample_11_deallocate_shows, sample_11_move_alloc_shows, sample_11_stat_shows, sample_12_move_to_itself_shows, sample_13_arithmetic_shows, sample_13_item_by_item_shows, sample_13_overflow_shows, sample_16_no_turns_shows, sample_16_zero_step_shows, sample_17_fresh_words_shows, sample_19_continuation_shows, sample_20_not_referred_shows, sample_23_bounds_shows, sample_23_shapes_shows, choice_03_1_shows, sample_10_scalar_final, sample_11_deallocate, sample_11_move_alloc, sample_11_stat, sample_12_move_to_itself, sample_13_arithmetic, sample_13_item_by_item, sample_13_overflow, sample_16_no_turns, sample_16_zero_step, sample_17_fresh_words, sample_19_continuation, sample_20_not_referred, sample_23_bounds, sample_23_shapes, choice_03_1}

sample_10_scalar_final_lawful : (h : Global) → IsLawful (sample_10_scalar_final h)
sample_10_scalar_final_lawful h = record { in_main = search; in_procedures = search; in_types = search }

sample_10_scalar_final_run : (h : Global) → sample_10_scalar_final_shows h
unfolding digits converted divided prints_bytes fitted run_of runs calls_of ◌>>=◌ gives fails stops beyond looks does asks
sample_10_scalar_final_run h = refl

sample_11_deallocate_lawful : (h : Global) → IsLawful (sample_11_deallocate h)
sample_11_deallocate_lawful h = record { in_main = search; in_procedures = search; in_types = search }

sample_11_deallocate_run : (h : Global) → sample_11_deallocate_shows h
unfolding digits converted divided prints_bytes fitted run_of runs calls_of ◌>>=◌ gives fails stops beyond looks does asks
sample_11_deallocate_run h = refl

sample_11_move_alloc_lawful : (h : Global) → IsLawful (sample_11_move_alloc h)
sample_11_move_alloc_lawful h = record { in_main = search; in_procedures = search; in_types = search }

sample_11_move_alloc_run : (h : Global) → sample_11_move_alloc_shows h
unfolding digits converted divided prints_bytes fitted run_of runs calls_of ◌>>=◌ gives fails stops beyond looks does asks
sample_11_move_alloc_run h = refl

sample_11_stat_lawful : (h : Global) → IsLawful (sample_11_stat h)
sample_11_stat_lawful h = record { in_main = search; in_procedures = search; in_types = search }

sample_11_stat_run : (h : Global) → sample_11_stat_shows h
unfolding digits converted divided prints_bytes fitted run_of runs calls_of ◌>>=◌ gives fails stops beyond looks does asks
sample_11_stat_run h = refl

sample_12_move_to_itself_lawful : (h : Global) → IsLawful (sample_12_move_to_itself h)
sample_12_move_to_itself_lawful h = record { in_main = search; in_procedures = search; in_types = search }

sample_12_move_to_itself_run : (h : Global) → sample_12_move_to_itself_shows h
unfolding digits converted divided prints_bytes fitted run_of runs calls_of ◌>>=◌ gives fails stops beyond looks does asks
sample_12_move_to_itself_run h = refl

sample_13_arithmetic_lawful : (h : Global) → IsLawful (sample_13_arithmetic h)
sample_13_arithmetic_lawful h = record { in_main = search; in_procedures = search; in_types = search }

sample_13_arithmetic_run : (h : Global) → sample_13_arithmetic_shows h
unfolding digits converted divided prints_bytes fitted run_of runs calls_of ◌>>=◌ gives fails stops beyond looks does asks
sample_13_arithmetic_run h = refl

sample_13_item_by_item_lawful : (h : Global) → IsLawful (sample_13_item_by_item h)
sample_13_item_by_item_lawful h = record { in_main = search; in_procedures = search; in_types = search }

sample_13_item_by_item_run : (h : Global) → sample_13_item_by_item_shows h
unfolding digits converted divided prints_bytes fitted run_of runs calls_of ◌>>=◌ gives fails stops beyond looks does asks
sample_13_item_by_item_run h = refl

sample_13_overflow_lawful : (h : Global) → IsLawful (sample_13_overflow h)
sample_13_overflow_lawful h = record { in_main = search; in_procedures = search; in_types = search }

sample_13_overflow_run : (h : Global) → sample_13_overflow_shows h
unfolding digits converted divided prints_bytes fitted run_of runs calls_of ◌>>=◌ gives fails stops beyond looks does asks
sample_13_overflow_run h = refl

sample_16_no_turns_lawful : (h : Global) → IsLawful (sample_16_no_turns h)
sample_16_no_turns_lawful h = record { in_main = search; in_procedures = search; in_types = search }

sample_16_no_turns_run : (h : Global) → sample_16_no_turns_shows h
unfolding digits converted divided prints_bytes fitted run_of runs calls_of ◌>>=◌ gives fails stops beyond looks does asks
sample_16_no_turns_run h = refl

sample_16_zero_step_lawful : (h : Global) → IsLawful (sample_16_zero_step h)
sample_16_zero_step_lawful h = record { in_main = search; in_procedures = search; in_types = search }

sample_16_zero_step_run : (h : Global) → sample_16_zero_step_shows h
unfolding digits converted divided prints_bytes fitted run_of runs calls_of ◌>>=◌ gives fails stops beyond looks does asks
sample_16_zero_step_run h = refl

sample_17_fresh_words_lawful : (h : Global) → IsLawful (sample_17_fresh_words h)
sample_17_fresh_words_lawful h = record { in_main = search; in_procedures = search; in_types = search }

sample_17_fresh_words_run : (h : Global) → sample_17_fresh_words_shows h
unfolding digits converted divided prints_bytes fitted run_of runs calls_of ◌>>=◌ gives fails stops beyond looks does asks
sample_17_fresh_words_run h = refl

sample_19_continuation_lawful : (h : Global) → IsLawful (sample_19_continuation h)
sample_19_continuation_lawful h = record { in_main = search; in_procedures = search; in_types = search }

sample_19_continuation_run : (h : Global) → sample_19_continuation_shows h
unfolding digits converted divided prints_bytes fitted run_of runs calls_of ◌>>=◌ gives fails stops beyond looks does asks
sample_19_continuation_run h = refl

sample_20_not_referred_lawful : (h : Global) → IsLawful (sample_20_not_referred h)
sample_20_not_referred_lawful h = record { in_main = search; in_procedures = search; in_types = search }

sample_20_not_referred_run : (h : Global) → sample_20_not_referred_shows h
unfolding digits converted divided prints_bytes fitted run_of runs calls_of ◌>>=◌ gives fails stops beyond looks does asks
sample_20_not_referred_run h = refl

sample_23_bounds_lawful : (h : Global) → IsLawful (sample_23_bounds h)
sample_23_bounds_lawful h = record { in_main = search; in_procedures = search; in_types = search }

sample_23_bounds_run : (h : Global) → sample_23_bounds_shows h
unfolding digits converted divided prints_bytes fitted run_of runs calls_of ◌>>=◌ gives fails stops beyond looks does asks
sample_23_bounds_run h = refl

sample_23_shapes_lawful : (h : Global) → IsLawful (sample_23_shapes h)
sample_23_shapes_lawful h = record { in_main = search; in_procedures = search; in_types = search }

sample_23_shapes_run : (h : Global) → sample_23_shapes_shows h
unfolding digits converted divided prints_bytes fitted run_of runs calls_of ◌>>=◌ gives fails stops beyond looks does asks
sample_23_shapes_run h = refl

choice_03_1_lawful : (h : Global) → IsLawful (choice_03_1 h)
choice_03_1_lawful h = record { in_main = search; in_procedures = search; in_types = search }

choice_03_1_run : (h : Global) → choice_03_1_shows h
unfolding digits converted divided prints_bytes fitted run_of runs calls_of ◌>>=◌ gives fails stops beyond looks does asks
choice_03_1_run h = refl

pub rows5_show : Rows5Show
rows5_show h = ((sample_10_scalar_final_lawful h, sample_10_scalar_final_run h), (sample_11_deallocate_lawful h, sample_11_deallocate_run h), (sample_11_move_alloc_lawful h, sample_11_move_alloc_run h), (sample_11_stat_lawful h, sample_11_stat_run h), (sample_12_move_to_itself_lawful h, sample_12_move_to_itself_run h), (sample_13_arithmetic_lawful h, sample_13_arithmetic_run h), (sample_13_item_by_item_lawful h, sample_13_item_by_item_run h), (sample_13_overflow_lawful h, sample_13_overflow_run h), (sample_16_no_turns_lawful h, sample_16_no_turns_run h), (sample_16_zero_step_lawful h, sample_16_zero_step_run h), (sample_17_fresh_words_lawful h, sample_17_fresh_words_run h), (sample_19_continuation_lawful h, sample_19_continuation_run h), (sample_20_not_referred_lawful h, sample_20_not_referred_run h), (sample_23_bounds_lawful h, sample_23_bounds_run h), (sample_23_shapes_lawful h, sample_23_shapes_run h), (choice_03_1_lawful h, choice_03_1_run h))
