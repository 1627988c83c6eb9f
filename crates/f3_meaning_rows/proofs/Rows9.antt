use Rattle.std.specs.Prelude.{refl}
use Rattle.std.specs.Fmt.{digits}
use Rattle.std.specs.declared.alloc.Global.{Global}
use Rattle.f3_meaning_whole.specs.Ran.{◌>>=◌, gives, fails, stops, beyond, looks, does, asks, prints_bytes}
use Rattle.f3_meaning_whole.specs.Arithmetic.{converted, divided}
use Rattle.f3_meaning_whole.specs.Act.{fitted}
use Rattle.f3_meaning_whole.specs.Run.{calls_of, runs, run_of}
use Rattle.f3_meaning_whole.specs.Permitted.{IsLawful}
use Rattle.f3_meaning_rows.specs.Rows9.{Rows9Show, usage_70_logical_items_shows, usage_71_powers_shows, usage_72_zero_to_minus_one_shows, usage_73_least_integer_shows, usage_74_quotient_past_range_shows, usage_75_mod_modulo_shows, usage_77_triplet_step_zero_shows, usage_78_allocate_twice_shows, usage_79_deallocate_nothing_shows, usage_80_allocate_too_large_shows, usage_70_logical_items, usage_71_powers, usage_72_zero_to_minus_one, usage_73_least_integer, usage_74_quotient_past_range, usage_75_mod_modulo, usage_77_triplet_step_zero, usage_78_allocate_twice, usage_79_deallocate_nothing, usage_80_allocate_too_large}

usage_70_logical_items_lawful : (h : Global) → IsLawful (usage_70_logical_items h)
usage_70_logical_items_lawful h = record { in_main = search; in_procedures = search; in_types = search }

usage_70_logical_items_run : (h : Global) → usage_70_logical_items_shows h
unfolding digits converted divided prints_bytes fitted run_of runs calls_of ◌>>=◌ gives fails stops beyond looks does asks
usage_70_logical_items_run h = refl

usage_71_powers_lawful : (h : Global) → IsLawful (usage_71_powers h)
usage_71_powers_lawful h = record { in_main = search; in_procedures = search; in_types = search }

usage_71_powers_run : (h : Global) → usage_71_powers_shows h
unfolding digits converted divided prints_bytes fitted run_of runs calls_of ◌>>=◌ gives fails stops beyond looks does asks
usage_71_powers_run h = refl

usage_72_zero_to_minus_one_lawful : (h : Global) → IsLawful (usage_72_zero_to_minus_one h)
usage_72_zero_to_minus_one_lawful h = record { in_main = search; in_procedures = search; in_types = search }

usage_72_zero_to_minus_one_run : (h : Global) → usage_72_zero_to_minus_one_shows h
unfolding digits converted divided prints_bytes fitted run_of runs calls_of ◌>>=◌ gives fails stops beyond looks does asks
usage_72_zero_to_minus_one_run h = refl

usage_73_least_integer_lawful : (h : Global) → IsLawful (usage_73_least_integer h)
usage_73_least_integer_lawful h = record { in_main = search; in_procedures = search; in_types = search }

usage_73_least_integer_run : (h : Global) → usage_73_least_integer_shows h
unfolding digits converted divided prints_bytes fitted run_of runs calls_of ◌>>=◌ gives fails stops beyond looks does asks
usage_73_least_integer_run h = refl

usage_74_quotient_past_range_lawful : (h : Global) → IsLawful (usage_74_quotient_past_range h)
usage_74_quotient_past_range_lawful h = record { in_main = search; in_procedures = search; in_types = search }

usage_74_quotient_past_range_run : (h : Global) → usage_74_quotient_past_range_shows h
unfolding digits converted divided prints_bytes fitted run_of runs calls_of ◌>>=◌ gives fails stops beyond looks does asks
usage_74_quotient_past_range_run h = refl

usage_75_mod_modulo_lawful : (h : Global) → IsLawful (usage_75_mod_modulo h)
usage_75_mod_modulo_lawful h = record { in_main = search; in_procedures = search; in_types = search }

usage_75_mod_modulo_run : (h : Global) → usage_75_mod_modulo_shows h
unfolding digits converted divided prints_bytes fitted run_of runs calls_of ◌>>=◌ gives fails stops beyond looks does asks
usage_75_mod_modulo_run h = refl

usage_77_triplet_step_zero_lawful : (h : Global) → IsLawful (usage_77_triplet_step_zero h)
usage_77_triplet_step_zero_lawful h = record { in_main = search; in_procedures = search; in_types = search }

usage_77_triplet_step_zero_run : (h : Global) → usage_77_triplet_step_zero_shows h
unfolding digits converted divided prints_bytes fitted run_of runs calls_of ◌>>=◌ gives fails stops beyond looks does asks
usage_77_triplet_step_zero_run h = refl

usage_78_allocate_twice_lawful : (h : Global) → IsLawful (usage_78_allocate_twice h)
usage_78_allocate_twice_lawful h = record { in_main = search; in_procedures = search; in_types = search }

usage_78_allocate_twice_run : (h : Global) → usage_78_allocate_twice_shows h
unfolding digits converted divided prints_bytes fitted run_of runs calls_of ◌>>=◌ gives fails stops beyond looks does asks
usage_78_allocate_twice_run h = refl

usage_79_deallocate_nothing_lawful : (h : Global) → IsLawful (usage_79_deallocate_nothing h)
usage_79_deallocate_nothing_lawful h = record { in_main = search; in_procedures = search; in_types = search }

usage_79_deallocate_nothing_run : (h : Global) → usage_79_deallocate_nothing_shows h
unfolding digits converted divided prints_bytes fitted run_of runs calls_of ◌>>=◌ gives fails stops beyond looks does asks
usage_79_deallocate_nothing_run h = refl

usage_80_allocate_too_large_lawful : (h : Global) → IsLawful (usage_80_allocate_too_large h)
usage_80_allocate_too_large_lawful h = record { in_main = search; in_procedures = search; in_types = search }

usage_80_allocate_too_large_run : (h : Global) → usage_80_allocate_too_large_shows h
unfolding digits converted divided prints_bytes fitted run_of runs calls_of ◌>>=◌ gives fails stops beyond looks does asks
usage_80_allocate_too_large_run h = refl

pub rows9_show : Rows9Show
rows9_show h = ((usage_70_logical_items_lawful h, usage_70_logical_items_run h), (usage_71_powers_lawful h, usage_71_powers_run h), (usage_72_zero_to_minus_one_lawful h, usage_72_zero_to_minus_one_run h), (usage_73_least_integer_lawful h, usage_73_least_integer_run h), (usage_74_quotient_past_range_lawful h, usage_74_quotient_past_range_run h), (usage_75_mod_modulo_lawful h, usage_75_mod_modulo_run h), (usage_77_triplet_step_zero_lawful h, usage_77_triplet_step_zero_run h), (usage_78_allocate_twice_lawful h, usage_78_allocate_twice_run h), (usage_79_deallocate_nothing_lawful h, usage_79_deallocate_nothing_run h), (usage_80_allocate_too_large_lawful h, usage_80_allocate_too_large_run h))
