use Rattle.std.specs.Prelude.{refl}
use Rattle.std.specs.Fmt.{digits}
use Rattle.std.specs.declared.alloc.Global.{Global}
use Rattle.f3_meaning_whole.specs.Ran.{◌>>=◌, gives, fails, stops, beyond, looks, does, asks, prints_bytes}
use Rattle.f3_meaning_whole.specs.Arithmetic.{converted, divided}
use Rattle.f3_meaning_whole.specs.Act.{fitted}
use Rattle.f3_meaning_whole.specs.Run.{calls_of, runs, run_of}
use Rattle.f3_meaning_whole.specs.Permitted.{IsLawful}
use Rattle.f3_meaning_rows.specs.Rows7.{Rows7Show, choice_59_1_shows, choice_61_1_shows, choice_62_1_shows, choice_63_1_shows, choice_64_1_shows, choice_67_1_shows, choice_79_1_shows, scalar_02_print_shows, text_02_variable_if_shows, usage_45_empty_statements_shows, usage_46_letter_case_shows, usage_47_empty_print_shows, usage_49_stop_plain_shows, usage_50_stop_7_shows, usage_51_stop_least_digits_shows, usage_52_stop_0_shows, choice_59_1, choice_61_1, choice_62_1, choice_63_1, choice_64_1, choice_67_1, choice_79_1, scalar_02_print, text_02_variable_if, usage_45_empty_statements, usage_46_letter_case, usage_47_empty_print, usage_49_stop_plain, usage_50_stop_7, usage_51_stop_least_digits, usage_52_stop_0}

choice_59_1_lawful : (h : Global) → IsLawful (choice_59_1 h)
choice_59_1_lawful h = record { in_main = search; in_procedures = search; in_types = search }

choice_59_1_run : (h : Global) → choice_59_1_shows h
unfolding digits converted divided prints_bytes fitted run_of runs calls_of ◌>>=◌ gives fails stops beyond looks does asks
choice_59_1_run h = refl

choice_61_1_lawful : (h : Global) → IsLawful (choice_61_1 h)
choice_61_1_lawful h = record { in_main = search; in_procedures = search; in_types = search }

choice_61_1_run : (h : Global) → choice_61_1_shows h
unfolding digits converted divided prints_bytes fitted run_of runs calls_of ◌>>=◌ gives fails stops beyond looks does asks
choice_61_1_run h = refl

choice_62_1_lawful : (h : Global) → IsLawful (choice_62_1 h)
choice_62_1_lawful h = record { in_main = search; in_procedures = search; in_types = search }

choice_62_1_run : (h : Global) → choice_62_1_shows h
unfolding digits converted divided prints_bytes fitted run_of runs calls_of ◌>>=◌ gives fails stops beyond looks does asks
choice_62_1_run h = refl

choice_63_1_lawful : (h : Global) → IsLawful (choice_63_1 h)
choice_63_1_lawful h = record { in_main = search; in_procedures = search; in_types = search }

choice_63_1_run : (h : Global) → choice_63_1_shows h
unfolding digits converted divided prints_bytes fitted run_of runs calls_of ◌>>=◌ gives fails stops beyond looks does asks
choice_63_1_run h = refl

choice_64_1_lawful : (h : Global) → IsLawful (choice_64_1 h)
choice_64_1_lawful h = record { in_main = search; in_procedures = search; in_types = search }

choice_64_1_run : (h : Global) → choice_64_1_shows h
unfolding digits converted divided prints_bytes fitted run_of runs calls_of ◌>>=◌ gives fails stops beyond looks does asks
choice_64_1_run h = refl

choice_67_1_lawful : (h : Global) → IsLawful (choice_67_1 h)
choice_67_1_lawful h = record { in_main = search; in_procedures = search; in_types = search }

choice_67_1_run : (h : Global) → choice_67_1_shows h
unfolding digits converted divided prints_bytes fitted run_of runs calls_of ◌>>=◌ gives fails stops beyond looks does asks
choice_67_1_run h = refl

choice_79_1_lawful : (h : Global) → IsLawful (choice_79_1 h)
choice_79_1_lawful h = record { in_main = search; in_procedures = search; in_types = search }

choice_79_1_run : (h : Global) → choice_79_1_shows h
unfolding digits converted divided prints_bytes fitted run_of runs calls_of ◌>>=◌ gives fails stops beyond looks does asks
choice_79_1_run h = refl

scalar_02_print_lawful : (h : Global) → IsLawful (scalar_02_print h)
scalar_02_print_lawful h = record { in_main = search; in_procedures = search; in_types = search }

scalar_02_print_run : (h : Global) → scalar_02_print_shows h
unfolding digits converted divided prints_bytes fitted run_of runs calls_of ◌>>=◌ gives fails stops beyond looks does asks
scalar_02_print_run h = refl

text_02_variable_if_lawful : (h : Global) → IsLawful (text_02_variable_if h)
text_02_variable_if_lawful h = record { in_main = search; in_procedures = search; in_types = search }

text_02_variable_if_run : (h : Global) → text_02_variable_if_shows h
unfolding digits converted divided prints_bytes fitted run_of runs calls_of ◌>>=◌ gives fails stops beyond looks does asks
text_02_variable_if_run h = refl

usage_45_empty_statements_lawful : (h : Global) → IsLawful (usage_45_empty_statements h)
usage_45_empty_statements_lawful h = record { in_main = search; in_procedures = search; in_types = search }

usage_45_empty_statements_run : (h : Global) → usage_45_empty_statements_shows h
unfolding digits converted divided prints_bytes fitted run_of runs calls_of ◌>>=◌ gives fails stops beyond looks does asks
usage_45_empty_statements_run h = refl

usage_46_letter_case_lawful : (h : Global) → IsLawful (usage_46_letter_case h)
usage_46_letter_case_lawful h = record { in_main = search; in_procedures = search; in_types = search }

usage_46_letter_case_run : (h : Global) → usage_46_letter_case_shows h
unfolding digits converted divided prints_bytes fitted run_of runs calls_of ◌>>=◌ gives fails stops beyond looks does asks
usage_46_letter_case_run h = refl

usage_47_empty_print_lawful : (h : Global) → IsLawful (usage_47_empty_print h)
usage_47_empty_print_lawful h = record { in_main = search; in_procedures = search; in_types = search }

usage_47_empty_print_run : (h : Global) → usage_47_empty_print_shows h
unfolding digits converted divided prints_bytes fitted run_of runs calls_of ◌>>=◌ gives fails stops beyond looks does asks
usage_47_empty_print_run h = refl

usage_49_stop_plain_lawful : (h : Global) → IsLawful (usage_49_stop_plain h)
usage_49_stop_plain_lawful h = record { in_main = search; in_procedures = search; in_types = search }

usage_49_stop_plain_run : (h : Global) → usage_49_stop_plain_shows h
unfolding digits converted divided prints_bytes fitted run_of runs calls_of ◌>>=◌ gives fails stops beyond looks does asks
usage_49_stop_plain_run h = refl

usage_50_stop_7_lawful : (h : Global) → IsLawful (usage_50_stop_7 h)
usage_50_stop_7_lawful h = record { in_main = search; in_procedures = search; in_types = search }

usage_50_stop_7_run : (h : Global) → usage_50_stop_7_shows h
unfolding digits converted divided prints_bytes fitted run_of runs calls_of ◌>>=◌ gives fails stops beyond looks does asks
usage_50_stop_7_run h = refl

usage_51_stop_least_digits_lawful : (h : Global) → IsLawful (usage_51_stop_least_digits h)
usage_51_stop_least_digits_lawful h = record { in_main = search; in_procedures = search; in_types = search }

usage_51_stop_least_digits_run : (h : Global) → usage_51_stop_least_digits_shows h
unfolding digits converted divided prints_bytes fitted run_of runs calls_of ◌>>=◌ gives fails stops beyond looks does asks
usage_51_stop_least_digits_run h = refl

usage_52_stop_0_lawful : (h : Global) → IsLawful (usage_52_stop_0 h)
usage_52_stop_0_lawful h = record { in_main = search; in_procedures = search; in_types = search }

usage_52_stop_0_run : (h : Global) → usage_52_stop_0_shows h
unfolding digits converted divided prints_bytes fitted run_of runs calls_of ◌>>=◌ gives fails stops beyond looks does asks
usage_52_stop_0_run h = refl

pub rows7_show : Rows7Show
rows7_show h = ((choice_59_1_lawful h, choice_59_1_run h), (choice_61_1_lawful h, choice_61_1_run h), (choice_62_1_lawful h, choice_62_1_run h), (choice_63_1_lawful h, choice_63_1_run h), (choice_64_1_lawful h, choice_64_1_run h), (choice_67_1_lawful h, choice_67_1_run h), (choice_79_1_lawful h, choice_79_1_run h), (scalar_02_print_lawful h, scalar_02_print_run h), (text_02_variable_if_lawful h, text_02_variable_if_run h), (usage_45_empty_statements_lawful h, usage_45_empty_statements_run h), (usage_46_letter_case_lawful h, usage_46_letter_case_run h), (usage_47_empty_print_lawful h, usage_47_empty_print_run h), (usage_49_stop_plain_lawful h, usage_49_stop_plain_run h), (usage_50_stop_7_lawful h, usage_50_stop_7_run h), (usage_51_stop_least_digits_lawful h, usage_51_stop_least_digits_run h), (usage_52_stop_0_lawful h, usage_52_stop_0_run h))
