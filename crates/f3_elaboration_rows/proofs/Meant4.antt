use Rattle.std.specs.Prelude.{refl}
use Rattle.std.specs.Fmt.{digits}
use Rattle.std.specs.declared.alloc.Global.{Global}
use Rattle.f3_meaning_whole.specs.Ran.{◌>>=◌, gives, fails, stops, beyond, looks, does, asks, prints_bytes}
use Rattle.f3_meaning_whole.specs.Arithmetic.{converted, divided}
use Rattle.f3_meaning_whole.specs.Act.{fitted}
use Rattle.f3_meaning_whole.specs.Run.{calls_of, runs, run_of}
use Rattle.f3_elaboration_rows.specs.Meant4 as row

sample_20_not_referred_formed : (h : Global) → row.sample_20_not_referred_formed h
sample_20_not_referred_formed h = refl

sample_20_not_referred_shows : (h : Global) → row.sample_20_not_referred_shows h
unfolding digits converted divided prints_bytes fitted run_of runs calls_of ◌>>=◌ gives fails stops beyond looks does asks
sample_20_not_referred_shows h = refl

sample_23_bounds_formed : (h : Global) → row.sample_23_bounds_formed h
sample_23_bounds_formed h = refl

sample_23_bounds_shows : (h : Global) → row.sample_23_bounds_shows h
unfolding digits converted divided prints_bytes fitted run_of runs calls_of ◌>>=◌ gives fails stops beyond looks does asks
sample_23_bounds_shows h = refl

sample_23_shapes_formed : (h : Global) → row.sample_23_shapes_formed h
sample_23_shapes_formed h = refl

sample_23_shapes_shows : (h : Global) → row.sample_23_shapes_shows h
unfolding digits converted divided prints_bytes fitted run_of runs calls_of ◌>>=◌ gives fails stops beyond looks does asks
sample_23_shapes_shows h = refl

choice_03_1_formed : (h : Global) → row.choice_03_1_formed h
choice_03_1_formed h = refl

choice_03_1_shows : (h : Global) → row.choice_03_1_shows h
unfolding digits converted divided prints_bytes fitted run_of runs calls_of ◌>>=◌ gives fails stops beyond looks does asks
choice_03_1_shows h = refl

choice_06_1_formed : (h : Global) → row.choice_06_1_formed h
choice_06_1_formed h = refl

choice_06_1_shows : (h : Global) → row.choice_06_1_shows h
unfolding digits converted divided prints_bytes fitted run_of runs calls_of ◌>>=◌ gives fails stops beyond looks does asks
choice_06_1_shows h = refl

choice_10_1_formed : (h : Global) → row.choice_10_1_formed h
choice_10_1_formed h = refl

choice_10_1_shows : (h : Global) → row.choice_10_1_shows h
unfolding digits converted divided prints_bytes fitted run_of runs calls_of ◌>>=◌ gives fails stops beyond looks does asks
choice_10_1_shows h = refl

choice_12_1_formed : (h : Global) → row.choice_12_1_formed h
choice_12_1_formed h = refl

choice_12_1_shows : (h : Global) → row.choice_12_1_shows h
unfolding digits converted divided prints_bytes fitted run_of runs calls_of ◌>>=◌ gives fails stops beyond looks does asks
choice_12_1_shows h = refl

choice_17_1_formed : (h : Global) → row.choice_17_1_formed h
choice_17_1_formed h = refl

choice_17_1_shows : (h : Global) → row.choice_17_1_shows h
unfolding digits converted divided prints_bytes fitted run_of runs calls_of ◌>>=◌ gives fails stops beyond looks does asks
choice_17_1_shows h = refl

choice_19_2_formed : (h : Global) → row.choice_19_2_formed h
choice_19_2_formed h = refl

choice_19_2_shows : (h : Global) → row.choice_19_2_shows h
unfolding digits converted divided prints_bytes fitted run_of runs calls_of ◌>>=◌ gives fails stops beyond looks does asks
choice_19_2_shows h = refl

choice_36_2_formed : (h : Global) → row.choice_36_2_formed h
choice_36_2_formed h = refl

choice_36_2_shows : (h : Global) → row.choice_36_2_shows h
unfolding digits converted divided prints_bytes fitted run_of runs calls_of ◌>>=◌ gives fails stops beyond looks does asks
choice_36_2_shows h = refl

choice_46_1_formed : (h : Global) → row.choice_46_1_formed h
choice_46_1_formed h = refl

choice_46_1_shows : (h : Global) → row.choice_46_1_shows h
unfolding digits converted divided prints_bytes fitted run_of runs calls_of ◌>>=◌ gives fails stops beyond looks does asks
choice_46_1_shows h = refl

choice_49_1_formed : (h : Global) → row.choice_49_1_formed h
choice_49_1_formed h = refl

choice_49_1_shows : (h : Global) → row.choice_49_1_shows h
unfolding digits converted divided prints_bytes fitted run_of runs calls_of ◌>>=◌ gives fails stops beyond looks does asks
choice_49_1_shows h = refl

pub meant4_show : row.Meant4Show
meant4_show h = (
  sample_20_not_referred_formed h,
  sample_20_not_referred_shows h,
  sample_23_bounds_formed h,
  sample_23_bounds_shows h,
  sample_23_shapes_formed h,
  sample_23_shapes_shows h,
  choice_03_1_formed h,
  choice_03_1_shows h,
  choice_06_1_formed h,
  choice_06_1_shows h,
  choice_10_1_formed h,
  choice_10_1_shows h,
  choice_12_1_formed h,
  choice_12_1_shows h,
  choice_17_1_formed h,
  choice_17_1_shows h,
  choice_19_2_formed h,
  choice_19_2_shows h,
  choice_36_2_formed h,
  choice_36_2_shows h,
  choice_46_1_formed h,
  choice_46_1_shows h,
  choice_49_1_formed h,
  choice_49_1_shows h,
)
