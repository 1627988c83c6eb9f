use Rattle.std.specs.Prelude.{refl}
use Rattle.std.specs.Fmt.{digits}
use Rattle.std.specs.declared.alloc.Global.{Global}
use Rattle.f3_meaning_whole.specs.Ran.{◌>>=◌, gives, fails, stops, beyond, looks, does, asks, prints_bytes}
use Rattle.f3_meaning_whole.specs.Arithmetic.{converted, divided}
use Rattle.f3_meaning_whole.specs.Act.{fitted}
use Rattle.f3_meaning_whole.specs.Run.{calls_of, runs, run_of}
use Rattle.f3_elaboration_rows.specs.Meant8 as row

usage_66_case_default_first_formed : (h : Global) → row.usage_66_case_default_first_formed h
usage_66_case_default_first_formed h = refl

usage_66_case_default_first_shows : (h : Global) → row.usage_66_case_default_first_shows h
unfolding digits converted divided prints_bytes fitted run_of runs calls_of ◌>>=◌ gives fails stops beyond looks does asks
usage_66_case_default_first_shows h = refl

usage_67_case_logical_formed : (h : Global) → row.usage_67_case_logical_formed h
usage_67_case_logical_formed h = refl

usage_67_case_logical_shows : (h : Global) → row.usage_67_case_logical_shows h
unfolding digits converted divided prints_bytes fitted run_of runs calls_of ◌>>=◌ gives fails stops beyond looks does asks
usage_67_case_logical_shows h = refl

usage_68_case_none_formed : (h : Global) → row.usage_68_case_none_formed h
usage_68_case_none_formed h = refl

usage_68_case_none_shows : (h : Global) → row.usage_68_case_none_shows h
unfolding digits converted divided prints_bytes fitted run_of runs calls_of ◌>>=◌ gives fails stops beyond looks does asks
usage_68_case_none_shows h = refl

usage_69_both_operands_formed : (h : Global) → row.usage_69_both_operands_formed h
usage_69_both_operands_formed h = refl

usage_69_both_operands_shows : (h : Global) → row.usage_69_both_operands_shows h
unfolding digits converted divided prints_bytes fitted run_of runs calls_of ◌>>=◌ gives fails stops beyond looks does asks
usage_69_both_operands_shows h = refl

usage_70_logical_items_formed : (h : Global) → row.usage_70_logical_items_formed h
usage_70_logical_items_formed h = refl

usage_70_logical_items_shows : (h : Global) → row.usage_70_logical_items_shows h
unfolding digits converted divided prints_bytes fitted run_of runs calls_of ◌>>=◌ gives fails stops beyond looks does asks
usage_70_logical_items_shows h = refl

usage_71_powers_formed : (h : Global) → row.usage_71_powers_formed h
usage_71_powers_formed h = refl

usage_71_powers_shows : (h : Global) → row.usage_71_powers_shows h
unfolding digits converted divided prints_bytes fitted run_of runs calls_of ◌>>=◌ gives fails stops beyond looks does asks
usage_71_powers_shows h = refl

usage_72_zero_to_minus_one_formed : (h : Global) → row.usage_72_zero_to_minus_one_formed h
usage_72_zero_to_minus_one_formed h = refl

usage_72_zero_to_minus_one_shows : (h : Global) → row.usage_72_zero_to_minus_one_shows h
unfolding digits converted divided prints_bytes fitted run_of runs calls_of ◌>>=◌ gives fails stops beyond looks does asks
usage_72_zero_to_minus_one_shows h = refl

usage_73_least_integer_formed : (h : Global) → row.usage_73_least_integer_formed h
usage_73_least_integer_formed h = refl

usage_73_least_integer_shows : (h : Global) → row.usage_73_least_integer_shows h
unfolding digits converted divided prints_bytes fitted run_of runs calls_of ◌>>=◌ gives fails stops beyond looks does asks
usage_73_least_integer_shows h = refl

usage_74_quotient_past_range_formed : (h : Global) → row.usage_74_quotient_past_range_formed h
usage_74_quotient_past_range_formed h = refl

usage_74_quotient_past_range_shows : (h : Global) → row.usage_74_quotient_past_range_shows h
unfolding digits converted divided prints_bytes fitted run_of runs calls_of ◌>>=◌ gives fails stops beyond looks does asks
usage_74_quotient_past_range_shows h = refl

usage_75_mod_modulo_formed : (h : Global) → row.usage_75_mod_modulo_formed h
usage_75_mod_modulo_formed h = refl

usage_75_mod_modulo_shows : (h : Global) → row.usage_75_mod_modulo_shows h
unfolding digits converted divided prints_bytes fitted run_of runs calls_of ◌>>=◌ gives fails stops beyond looks does asks
usage_75_mod_modulo_shows h = refl

usage_77_triplet_step_zero_formed : (h : Global) → row.usage_77_triplet_step_zero_formed h
usage_77_triplet_step_zero_formed h = refl

usage_77_triplet_step_zero_shows : (h : Global) → row.usage_77_triplet_step_zero_shows h
unfolding digits converted divided prints_bytes fitted run_of runs calls_of ◌>>=◌ gives fails stops beyond looks does asks
usage_77_triplet_step_zero_shows h = refl

usage_78_allocate_twice_formed : (h : Global) → row.usage_78_allocate_twice_formed h
usage_78_allocate_twice_formed h = refl

usage_78_allocate_twice_shows : (h : Global) → row.usage_78_allocate_twice_shows h
unfolding digits converted divided prints_bytes fitted run_of runs calls_of ◌>>=◌ gives fails stops beyond looks does asks
usage_78_allocate_twice_shows h = refl

pub meant8_show : row.Meant8Show
meant8_show h = (
  usage_66_case_default_first_formed h,
  usage_66_case_default_first_shows h,
  usage_67_case_logical_formed h,
  usage_67_case_logical_shows h,
  usage_68_case_none_formed h,
  usage_68_case_none_shows h,
  usage_69_both_operands_formed h,
  usage_69_both_operands_shows h,
  usage_70_logical_items_formed h,
  usage_70_logical_items_shows h,
  usage_71_powers_formed h,
  usage_71_powers_shows h,
  usage_72_zero_to_minus_one_formed h,
  usage_72_zero_to_minus_one_shows h,
  usage_73_least_integer_formed h,
  usage_73_least_integer_shows h,
  usage_74_quotient_past_range_formed h,
  usage_74_quotient_past_range_shows h,
  usage_75_mod_modulo_formed h,
  usage_75_mod_modulo_shows h,
  usage_77_triplet_step_zero_formed h,
  usage_77_triplet_step_zero_shows h,
  usage_78_allocate_twice_formed h,
  usage_78_allocate_twice_shows h,
)
