use Rattle.std.specs.Prelude.{refl}
use Rattle.std.specs.Fmt.{digits}
use Rattle.std.specs.declared.alloc.Global.{Global}
use Rattle.f3_meaning_whole.specs.Ran.{◌>>=◌, gives, fails, stops, beyond, looks, does, asks, prints_bytes}
use Rattle.f3_meaning_whole.specs.Arithmetic.{converted, divided}
use Rattle.f3_meaning_whole.specs.Act.{fitted}
use Rattle.f3_meaning_whole.specs.Run.{calls_of, runs, run_of}
use Rattle.f3_elaboration_rows.specs.Meant6 as row

choice_64_1_formed : (h : Global) → row.choice_64_1_formed h
choice_64_1_formed h = refl

choice_64_1_shows : (h : Global) → row.choice_64_1_shows h
unfolding digits converted divided prints_bytes fitted run_of runs calls_of ◌>>=◌ gives fails stops beyond looks does asks
choice_64_1_shows h = refl

choice_67_1_formed : (h : Global) → row.choice_67_1_formed h
choice_67_1_formed h = refl

choice_67_1_shows : (h : Global) → row.choice_67_1_shows h
unfolding digits converted divided prints_bytes fitted run_of runs calls_of ◌>>=◌ gives fails stops beyond looks does asks
choice_67_1_shows h = refl

choice_79_1_formed : (h : Global) → row.choice_79_1_formed h
choice_79_1_formed h = refl

choice_79_1_shows : (h : Global) → row.choice_79_1_shows h
unfolding digits converted divided prints_bytes fitted run_of runs calls_of ◌>>=◌ gives fails stops beyond looks does asks
choice_79_1_shows h = refl

scalar_02_print_formed : (h : Global) → row.scalar_02_print_formed h
scalar_02_print_formed h = refl

scalar_02_print_shows : (h : Global) → row.scalar_02_print_shows h
unfolding digits converted divided prints_bytes fitted run_of runs calls_of ◌>>=◌ gives fails stops beyond looks does asks
scalar_02_print_shows h = refl

text_02_variable_if_formed : (h : Global) → row.text_02_variable_if_formed h
text_02_variable_if_formed h = refl

text_02_variable_if_shows : (h : Global) → row.text_02_variable_if_shows h
unfolding digits converted divided prints_bytes fitted run_of runs calls_of ◌>>=◌ gives fails stops beyond looks does asks
text_02_variable_if_shows h = refl

usage_45_empty_statements_formed : (h : Global) → row.usage_45_empty_statements_formed h
usage_45_empty_statements_formed h = refl

usage_45_empty_statements_shows : (h : Global) → row.usage_45_empty_statements_shows h
unfolding digits converted divided prints_bytes fitted run_of runs calls_of ◌>>=◌ gives fails stops beyond looks does asks
usage_45_empty_statements_shows h = refl

usage_46_letter_case_formed : (h : Global) → row.usage_46_letter_case_formed h
usage_46_letter_case_formed h = refl

usage_46_letter_case_shows : (h : Global) → row.usage_46_letter_case_shows h
unfolding digits converted divided prints_bytes fitted run_of runs calls_of ◌>>=◌ gives fails stops beyond looks does asks
usage_46_letter_case_shows h = refl

usage_47_empty_print_formed : (h : Global) → row.usage_47_empty_print_formed h
usage_47_empty_print_formed h = refl

usage_47_empty_print_shows : (h : Global) → row.usage_47_empty_print_shows h
unfolding digits converted divided prints_bytes fitted run_of runs calls_of ◌>>=◌ gives fails stops beyond looks does asks
usage_47_empty_print_shows h = refl

usage_49_stop_plain_formed : (h : Global) → row.usage_49_stop_plain_formed h
usage_49_stop_plain_formed h = refl

usage_49_stop_plain_shows : (h : Global) → row.usage_49_stop_plain_shows h
unfolding digits converted divided prints_bytes fitted run_of runs calls_of ◌>>=◌ gives fails stops beyond looks does asks
usage_49_stop_plain_shows h = refl

usage_50_stop_7_formed : (h : Global) → row.usage_50_stop_7_formed h
usage_50_stop_7_formed h = refl

usage_50_stop_7_shows : (h : Global) → row.usage_50_stop_7_shows h
unfolding digits converted divided prints_bytes fitted run_of runs calls_of ◌>>=◌ gives fails stops beyond looks does asks
usage_50_stop_7_shows h = refl

usage_51_stop_least_digits_formed : (h : Global) → row.usage_51_stop_least_digits_formed h
usage_51_stop_least_digits_formed h = refl

usage_51_stop_least_digits_shows : (h : Global) → row.usage_51_stop_least_digits_shows h
unfolding digits converted divided prints_bytes fitted run_of runs calls_of ◌>>=◌ gives fails stops beyond looks does asks
usage_51_stop_least_digits_shows h = refl

usage_52_stop_0_formed : (h : Global) → row.usage_52_stop_0_formed h
usage_52_stop_0_formed h = refl

usage_52_stop_0_shows : (h : Global) → row.usage_52_stop_0_shows h
unfolding digits converted divided prints_bytes fitted run_of runs calls_of ◌>>=◌ gives fails stops beyond looks does asks
usage_52_stop_0_shows h = refl

pub meant6_show : row.Meant6Show
meant6_show h = (
  choice_64_1_formed h,
  choice_64_1_shows h,
  choice_67_1_formed h,
  choice_67_1_shows h,
  choice_79_1_formed h,
  choice_79_1_shows h,
  scalar_02_print_formed h,
  scalar_02_print_shows h,
  text_02_variable_if_formed h,
  text_02_variable_if_shows h,
  usage_45_empty_statements_formed h,
  usage_45_empty_statements_shows h,
  usage_46_letter_case_formed h,
  usage_46_letter_case_shows h,
  usage_47_empty_print_formed h,
  usage_47_empty_print_shows h,
  usage_49_stop_plain_formed h,
  usage_49_stop_plain_shows h,
  usage_50_stop_7_formed h,
  usage_50_stop_7_shows h,
  usage_51_stop_least_digits_formed h,
  usage_51_stop_least_digits_shows h,
  usage_52_stop_0_formed h,
  usage_52_stop_0_shows h,
)
