use Rattle.std.specs.Prelude.{refl}
use Rattle.std.specs.Fmt.{digits}
use Rattle.std.specs.declared.alloc.Global.{Global}
use Rattle.f3_meaning_whole.specs.Ran.{◌>>=◌, gives, fails, stops, beyond, looks, does, asks, prints_bytes}
use Rattle.f3_meaning_whole.specs.Arithmetic.{converted, divided}
use Rattle.f3_meaning_whole.specs.Act.{fitted}
use Rattle.f3_meaning_whole.specs.Run.{calls_of, runs, run_of}
use Rattle.f3_elaboration_rows.specs.Meant3 as row

sample_10_scalar_final_formed : (h : Global) → row.sample_10_scalar_final_formed h
sample_10_scalar_final_formed h = refl

sample_10_scalar_final_shows : (h : Global) → row.sample_10_scalar_final_shows h
unfolding digits converted divided prints_bytes fitted run_of runs calls_of ◌>>=◌ gives fails stops beyond looks does asks
sample_10_scalar_final_shows h = refl

sample_11_deallocate_formed : (h : Global) → row.sample_11_deallocate_formed h
sample_11_deallocate_formed h = refl

sample_11_deallocate_shows : (h : Global) → row.sample_11_deallocate_shows h
unfolding digits converted divided prints_bytes fitted run_of runs calls_of ◌>>=◌ gives fails stops beyond looks does asks
sample_11_deallocate_shows h = refl

sample_11_move_alloc_formed : (h : Global) → row.sample_11_move_alloc_formed h
sample_11_move_alloc_formed h = refl

sample_11_move_alloc_shows : (h : Global) → row.sample_11_move_alloc_shows h
unfolding digits converted divided prints_bytes fitted run_of runs calls_of ◌>>=◌ gives fails stops beyond looks does asks
sample_11_move_alloc_shows h = refl

sample_11_stat_formed : (h : Global) → row.sample_11_stat_formed h
sample_11_stat_formed h = refl

sample_11_stat_shows : (h : Global) → row.sample_11_stat_shows h
unfolding digits converted divided prints_bytes fitted run_of runs calls_of ◌>>=◌ gives fails stops beyond looks does asks
sample_11_stat_shows h = refl

sample_12_move_to_itself_formed : (h : Global) → row.sample_12_move_to_itself_formed h
sample_12_move_to_itself_formed h = refl

sample_12_move_to_itself_shows : (h : Global) → row.sample_12_move_to_itself_shows h
unfolding digits converted divided prints_bytes fitted run_of runs calls_of ◌>>=◌ gives fails stops beyond looks does asks
sample_12_move_to_itself_shows h = refl

sample_13_arithmetic_formed : (h : Global) → row.sample_13_arithmetic_formed h
sample_13_arithmetic_formed h = refl

sample_13_arithmetic_shows : (h : Global) → row.sample_13_arithmetic_shows h
unfolding digits converted divided prints_bytes fitted run_of runs calls_of ◌>>=◌ gives fails stops beyond looks does asks
sample_13_arithmetic_shows h = refl

sample_13_item_by_item_formed : (h : Global) → row.sample_13_item_by_item_formed h
sample_13_item_by_item_formed h = refl

sample_13_item_by_item_shows : (h : Global) → row.sample_13_item_by_item_shows h
unfolding digits converted divided prints_bytes fitted run_of runs calls_of ◌>>=◌ gives fails stops beyond looks does asks
sample_13_item_by_item_shows h = refl

sample_13_overflow_formed : (h : Global) → row.sample_13_overflow_formed h
sample_13_overflow_formed h = refl

sample_13_overflow_shows : (h : Global) → row.sample_13_overflow_shows h
unfolding digits converted divided prints_bytes fitted run_of runs calls_of ◌>>=◌ gives fails stops beyond looks does asks
sample_13_overflow_shows h = refl

sample_16_no_turns_formed : (h : Global) → row.sample_16_no_turns_formed h
sample_16_no_turns_formed h = refl

sample_16_no_turns_shows : (h : Global) → row.sample_16_no_turns_shows h
unfolding digits converted divided prints_bytes fitted run_of runs calls_of ◌>>=◌ gives fails stops beyond looks does asks
sample_16_no_turns_shows h = refl

sample_16_zero_step_formed : (h : Global) → row.sample_16_zero_step_formed h
sample_16_zero_step_formed h = refl

sample_16_zero_step_shows : (h : Global) → row.sample_16_zero_step_shows h
unfolding digits converted divided prints_bytes fitted run_of runs calls_of ◌>>=◌ gives fails stops beyond looks does asks
sample_16_zero_step_shows h = refl

sample_17_fresh_words_formed : (h : Global) → row.sample_17_fresh_words_formed h
sample_17_fresh_words_formed h = refl

sample_17_fresh_words_shows : (h : Global) → row.sample_17_fresh_words_shows h
unfolding digits converted divided prints_bytes fitted run_of runs calls_of ◌>>=◌ gives fails stops beyond looks does asks
sample_17_fresh_words_shows h = refl

sample_19_continuation_formed : (h : Global) → row.sample_19_continuation_formed h
sample_19_continuation_formed h = refl

sample_19_continuation_shows : (h : Global) → row.sample_19_continuation_shows h
unfolding digits converted divided prints_bytes fitted run_of runs calls_of ◌>>=◌ gives fails stops beyond looks does asks
sample_19_continuation_shows h = refl

pub meant3_show : row.Meant3Show
meant3_show h = (
  sample_10_scalar_final_formed h,
  sample_10_scalar_final_shows h,
  sample_11_deallocate_formed h,
  sample_11_deallocate_shows h,
  sample_11_move_alloc_formed h,
  sample_11_move_alloc_shows h,
  sample_11_stat_formed h,
  sample_11_stat_shows h,
  sample_12_move_to_itself_formed h,
  sample_12_move_to_itself_shows h,
  sample_13_arithmetic_formed h,
  sample_13_arithmetic_shows h,
  sample_13_item_by_item_formed h,
  sample_13_item_by_item_shows h,
  sample_13_overflow_formed h,
  sample_13_overflow_shows h,
  sample_16_no_turns_formed h,
  sample_16_no_turns_shows h,
  sample_16_zero_step_formed h,
  sample_16_zero_step_shows h,
  sample_17_fresh_words_formed h,
  sample_17_fresh_words_shows h,
  sample_19_continuation_formed h,
  sample_19_continuation_shows h,
)
