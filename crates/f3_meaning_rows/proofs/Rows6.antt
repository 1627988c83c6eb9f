use Rattle.std.specs.Prelude.{refl}
use Rattle.std.specs.Fmt.{digits}
use Rattle.std.specs.declared.alloc.Global.{Global}
use Rattle.f3_meaning_whole.specs.Ran.{◌>>=◌, gives, fails, stops, beyond, looks, does, asks, prints_bytes}
use Rattle.f3_meaning_whole.specs.Arithmetic.{converted, divided}
use Rattle.f3_meaning_whole.specs.Act.{fitted}
use Rattle.f3_meaning_whole.specs.Run.{calls_of, runs, run_of}
use Rattle.f3_meaning_whole.specs.Permitted.{IsLawful}
use Rattle.f3_meaning_rows.specs.Rows6.{Rows6Show, choice_06_1_shows, choice_10_1_shows, choice_12_1_shows, choice_17_1_shows, choice_19_2_shows, choice_36_2_shows, choice_46_1_shows, choice_49_1_shows, choice_50_1_shows, choice_52_1_shows, choice_52_2_shows, choice_53_1_shows, choice_54_1_shows, choice_56_1_shows, choice_57_1_shows, choice_58_1_shows, choice_06_1, choice_10_1, choice_12_1, choice_17_1, choice_19_2, choice_36_2, choice_46_1, choice_49_1, choice_50_1, choice_52_1, choice_52_2, choice_53_1, choice_54_1, choice_56_1, choice_57_1, choice_58_1}

choice_06_1_lawful : (h : Global) → IsLawful (choice_06_1 h)
choice_06_1_lawful h = record { in_main = search; in_procedures = search; in_types = search }

choice_06_1_run : (h : Global) → choice_06_1_shows h
unfolding digits converted divided prints_bytes fitted run_of runs calls_of ◌>>=◌ gives fails stops beyond looks does asks
choice_06_1_run h = refl

choice_10_1_lawful : (h : Global) → IsLawful (choice_10_1 h)
choice_10_1_lawful h = record { in_main = search; in_procedures = search; in_types = search }

choice_10_1_run : (h : Global) → choice_10_1_shows h
unfolding digits converted divided prints_bytes fitted run_of runs calls_of ◌>>=◌ gives fails stops beyond looks does asks
choice_10_1_run h = refl

choice_12_1_lawful : (h : Global) → IsLawful (choice_12_1 h)
choice_12_1_lawful h = record { in_main = search; in_procedures = search; in_types = search }

choice_12_1_run : (h : Global) → choice_12_1_shows h
unfolding digits converted divided prints_bytes fitted run_of runs calls_of ◌>>=◌ gives fails stops beyond looks does asks
choice_12_1_run h = refl

choice_17_1_lawful : (h : Global) → IsLawful (choice_17_1 h)
choice_17_1_lawful h = record { in_main = search; in_procedures = search; in_types = search }

choice_17_1_run : (h : Global) → choice_17_1_shows h
unfolding digits converted divided prints_bytes fitted run_of runs calls_of ◌>>=◌ gives fails stops beyond looks does asks
choice_17_1_run h = refl

choice_19_2_lawful : (h : Global) → IsLawful (choice_19_2 h)
choice_19_2_lawful h = record { in_main = search; in_procedures = search; in_types = search }

choice_19_2_run : (h : Global) → choice_19_2_shows h
unfolding digits converted divided prints_bytes fitted run_of runs calls_of ◌>>=◌ gives fails stops beyond looks does asks
choice_19_2_run h = refl

choice_36_2_lawful : (h : Global) → IsLawful (choice_36_2 h)
choice_36_2_lawful h = record { in_main = search; in_procedures = search; in_types = search }

choice_36_2_run : (h : Global) → choice_36_2_shows h
unfolding digits converted divided prints_bytes fitted run_of runs calls_of ◌>>=◌ gives fails stops beyond looks does asks
choice_36_2_run h = refl

choice_46_1_lawful : (h : Global) → IsLawful (choice_46_1 h)
choice_46_1_lawful h = record { in_main = search; in_procedures = search; in_types = search }

choice_46_1_run : (h : Global) → choice_46_1_shows h
unfolding digits converted divided prints_bytes fitted run_of runs calls_of ◌>>=◌ gives fails stops beyond looks does asks
choice_46_1_run h = refl

choice_49_1_lawful : (h : Global) → IsLawful (choice_49_1 h)
choice_49_1_lawful h = record { in_main = search; in_procedures = search; in_types = search }

choice_49_1_run : (h : Global) → choice_49_1_shows h
unfolding digits converted divided prints_bytes fitted run_of runs calls_of ◌>>=◌ gives fails stops beyond looks does asks
choice_49_1_run h = refl

choice_50_1_lawful : (h : Global) → IsLawful (choice_50_1 h)
choice_50_1_lawful h = record { in_main = search; in_procedures = search; in_types = search }

choice_50_1_run : (h : Global) → choice_50_1_shows h
unfolding digits converted divided prints_bytes fitted run_of runs calls_of ◌>>=◌ gives fails stops beyond looks does asks
choice_50_1_run h = refl

choice_52_1_lawful : (h : Global) → IsLawful (choice_52_1 h)
choice_52_1_lawful h = record { in_main = search; in_procedures = search; in_types = search }

choice_52_1_run : (h : Global) → choice_52_1_shows h
unfolding digits converted divided prints_bytes fitted run_of runs calls_of ◌>>=◌ gives fails stops beyond looks does asks
choice_52_1_run h = refl

choice_52_2_lawful : (h : Global) → IsLawful (choice_52_2 h)
choice_52_2_lawful h = record { in_main = search; in_procedures = search; in_types = search }

choice_52_2_run : (h : Global) → choice_52_2_shows h
unfolding digits converted divided prints_bytes fitted run_of runs calls_of ◌>>=◌ gives fails stops beyond looks does asks
choice_52_2_run h = refl

choice_53_1_lawful : (h : Global) → IsLawful (choice_53_1 h)
choice_53_1_lawful h = record { in_main = search; in_procedures = search; in_types = search }

choice_53_1_run : (h : Global) → choice_53_1_shows h
unfolding digits converted divided prints_bytes fitted run_of runs calls_of ◌>>=◌ gives fails stops beyond looks does asks
choice_53_1_run h = refl

choice_54_1_lawful : (h : Global) → IsLawful (choice_54_1 h)
choice_54_1_lawful h = record { in_main = search; in_procedures = search; in_types = search }

choice_54_1_run : (h : Global) → choice_54_1_shows h
unfolding digits converted divided prints_bytes fitted run_of runs calls_of ◌>>=◌ gives fails stops beyond looks does asks
choice_54_1_run h = refl

choice_56_1_lawful : (h : Global) → IsLawful (choice_56_1 h)
choice_56_1_lawful h = record { in_main = search; in_procedures = search; in_types = search }

choice_56_1_run : (h : Global) → choice_56_1_shows h
unfolding digits converted divided prints_bytes fitted run_of runs calls_of ◌>>=◌ gives fails stops beyond looks does asks
choice_56_1_run h = refl

choice_57_1_lawful : (h : Global) → IsLawful (choice_57_1 h)
choice_57_1_lawful h = record { in_main = search; in_procedures = search; in_types = search }

choice_57_1_run : (h : Global) → choice_57_1_shows h
unfolding digits converted divided prints_bytes fitted run_of runs calls_of ◌>>=◌ gives fails stops beyond looks does asks
choice_57_1_run h = refl

choice_58_1_lawful : (h : Global) → IsLawful (choice_58_1 h)
choice_58_1_lawful h = record { in_main = search; in_procedures = search; in_types = search }

choice_58_1_run : (h : Global) → choice_58_1_shows h
unfolding digits converted divided prints_bytes fitted run_of runs calls_of ◌>>=◌ gives fails stops beyond looks does asks
choice_58_1_run h = refl

pub rows6_show : Rows6Show
rows6_show h = ((choice_06_1_lawful h, choice_06_1_run h), (choice_10_1_lawful h, choice_10_1_run h), (choice_12_1_lawful h, choice_12_1_run h), (choice_17_1_lawful h, choice_17_1_run h), (choice_19_2_lawful h, choice_19_2_run h), (choice_36_2_lawful h, choice_36_2_run h), (choice_46_1_lawful h, choice_46_1_run h), (choice_49_1_lawful h, choice_49_1_run h), (choice_50_1_lawful h, choice_50_1_run h), (choice_52_1_lawful h, choice_52_1_run h), (choice_52_2_lawful h, choice_52_2_run h), (choice_53_1_lawful h, choice_53_1_run h), (choice_54_1_lawful h, choice_54_1_run h), (choice_56_1_lawful h, choice_56_1_run h), (choice_57_1_lawful h, choice_57_1_run h), (choice_58_1_lawful h, choice_58_1_run h))
