use Rattle.std.specs.Prelude.{refl}
use Rattle.std.specs.Fmt.{digits}
use Rattle.std.specs.declared.alloc.Global.{Global}
use Rattle.f3_meaning_whole.specs.Ran.{◌>>=◌, gives, fails, stops, beyond, looks, does, asks, prints_bytes}
use Rattle.f3_meaning_whole.specs.Arithmetic.{converted, divided}
use Rattle.f3_meaning_whole.specs.Act.{fitted}
use Rattle.f3_meaning_whole.specs.Run.{calls_of, runs, run_of}
use Rattle.f3_elaboration_rows.specs.Meant5 as row

choice_50_1_formed : (h : Global) → row.choice_50_1_formed h
choice_50_1_formed h = refl

choice_50_1_shows : (h : Global) → row.choice_50_1_shows h
unfolding digits converted divided prints_bytes fitted run_of runs calls_of ◌>>=◌ gives fails stops beyond looks does asks
choice_50_1_shows h = refl

choice_52_1_formed : (h : Global) → row.choice_52_1_formed h
choice_52_1_formed h = refl

choice_52_1_shows : (h : Global) → row.choice_52_1_shows h
unfolding digits converted divided prints_bytes fitted run_of runs calls_of ◌>>=◌ gives fails stops beyond looks does asks
choice_52_1_shows h = refl

choice_52_2_formed : (h : Global) → row.choice_52_2_formed h
choice_52_2_formed h = refl

choice_52_2_shows : (h : Global) → row.choice_52_2_shows h
unfolding digits converted divided prints_bytes fitted run_of runs calls_of ◌>>=◌ gives fails stops beyond looks does asks
choice_52_2_shows h = refl

choice_53_1_formed : (h : Global) → row.choice_53_1_formed h
choice_53_1_formed h = refl

choice_53_1_shows : (h : Global) → row.choice_53_1_shows h
unfolding digits converted divided prints_bytes fitted run_of runs calls_of ◌>>=◌ gives fails stops beyond looks does asks
choice_53_1_shows h = refl

choice_54_1_formed : (h : Global) → row.choice_54_1_formed h
choice_54_1_formed h = refl

choice_54_1_shows : (h : Global) → row.choice_54_1_shows h
unfolding digits converted divided prints_bytes fitted run_of runs calls_of ◌>>=◌ gives fails stops beyond looks does asks
choice_54_1_shows h = refl

choice_56_1_formed : (h : Global) → row.choice_56_1_formed h
choice_56_1_formed h = refl

choice_56_1_shows : (h : Global) → row.choice_56_1_shows h
unfolding digits converted divided prints_bytes fitted run_of runs calls_of ◌>>=◌ gives fails stops beyond looks does asks
choice_56_1_shows h = refl

choice_57_1_formed : (h : Global) → row.choice_57_1_formed h
choice_57_1_formed h = refl

choice_57_1_shows : (h : Global) → row.choice_57_1_shows h
unfolding digits converted divided prints_bytes fitted run_of runs calls_of ◌>>=◌ gives fails stops beyond looks does asks
choice_57_1_shows h = refl

choice_58_1_formed : (h : Global) → row.choice_58_1_formed h
choice_58_1_formed h = refl

choice_58_1_shows : (h : Global) → row.choice_58_1_shows h
unfolding digits converted divided prints_bytes fitted run_of runs calls_of ◌>>=◌ gives fails stops beyond looks does asks
choice_58_1_shows h = refl

choice_59_1_formed : (h : Global) → row.choice_59_1_formed h
choice_59_1_formed h = refl

choice_59_1_shows : (h : Global) → row.choice_59_1_shows h
unfolding digits converted divided prints_bytes fitted run_of runs calls_of ◌>>=◌ gives fails stops beyond looks does asks
choice_59_1_shows h = refl

choice_61_1_formed : (h : Global) → row.choice_61_1_formed h
choice_61_1_formed h = refl

choice_61_1_shows : (h : Global) → row.choice_61_1_shows h
unfolding digits converted divided prints_bytes fitted run_of runs calls_of ◌>>=◌ gives fails stops beyond looks does asks
choice_61_1_shows h = refl

choice_62_1_formed : (h : Global) → row.choice_62_1_formed h
choice_62_1_formed h = refl

choice_62_1_shows : (h : Global) → row.choice_62_1_shows h
unfolding digits converted divided prints_bytes fitted run_of runs calls_of ◌>>=◌ gives fails stops beyond looks does asks
choice_62_1_shows h = refl

choice_63_1_formed : (h : Global) → row.choice_63_1_formed h
choice_63_1_formed h = refl

choice_63_1_shows : (h : Global) → row.choice_63_1_shows h
unfolding digits converted divided prints_bytes fitted run_of runs calls_of ◌>>=◌ gives fails stops beyond looks does asks
choice_63_1_shows h = refl

pub meant5_show : row.Meant5Show
meant5_show h = (
  choice_50_1_formed h,
  choice_50_1_shows h,
  choice_52_1_formed h,
  choice_52_1_shows h,
  choice_52_2_formed h,
  choice_52_2_shows h,
  choice_53_1_formed h,
  choice_53_1_shows h,
  choice_54_1_formed h,
  choice_54_1_shows h,
  choice_56_1_formed h,
  choice_56_1_shows h,
  choice_57_1_formed h,
  choice_57_1_shows h,
  choice_58_1_formed h,
  choice_58_1_shows h,
  choice_59_1_formed h,
  choice_59_1_shows h,
  choice_61_1_formed h,
  choice_61_1_shows h,
  choice_62_1_formed h,
  choice_62_1_shows h,
  choice_63_1_formed h,
  choice_63_1_shows h,
)
