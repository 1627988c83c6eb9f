use Rattle.std.specs.Prelude.{refl}
use Rattle.std.specs.Fmt.{digits}
use Rattle.std.specs.declared.alloc.Global.{Global}
use Rattle.f3_meaning_whole.specs.Ran.{◌>>=◌, gives, fails, stops, beyond, looks, does, asks, prints_bytes}
use Rattle.f3_meaning_whole.specs.Arithmetic.{converted, divided}
use Rattle.f3_meaning_whole.specs.Act.{fitted}
use Rattle.f3_meaning_whole.specs.Run.{calls_of, runs, run_of}
use Rattle.f3_elaboration_rows.specs.Meant0 as row

allocatable_01_deep_copy_formed : (h : Global) → row.allocatable_01_deep_copy_formed h
allocatable_01_deep_copy_formed h = refl

allocatable_01_deep_copy_shows : (h : Global) → row.allocatable_01_deep_copy_shows h
unfolding digits converted divided prints_bytes fitted run_of runs calls_of ◌>>=◌ gives fails stops beyond looks does asks
allocatable_01_deep_copy_shows h = refl

allocatable_02_scalar_value_formed : (h : Global) → row.allocatable_02_scalar_value_formed h
allocatable_02_scalar_value_formed h = refl

allocatable_02_scalar_value_shows : (h : Global) → row.allocatable_02_scalar_value_shows h
unfolding digits converted divided prints_bytes fitted run_of runs calls_of ◌>>=◌ gives fails stops beyond looks does asks
allocatable_02_scalar_value_shows h = refl

allocatable_02_stat_formed : (h : Global) → row.allocatable_02_stat_formed h
allocatable_02_stat_formed h = refl

allocatable_02_stat_shows : (h : Global) → row.allocatable_02_stat_shows h
unfolding digits converted divided prints_bytes fitted run_of runs calls_of ◌>>=◌ gives fails stops beyond looks does asks
allocatable_02_stat_shows h = refl

allocatable_02_too_large_formed : (h : Global) → row.allocatable_02_too_large_formed h
allocatable_02_too_large_formed h = refl

allocatable_02_too_large_shows : (h : Global) → row.allocatable_02_too_large_shows h
unfolding digits converted divided prints_bytes fitted run_of runs calls_of ◌>>=◌ gives fails stops beyond looks does asks
allocatable_02_too_large_shows h = refl

allocatable_03_assumed_shape_formed : (h : Global) → row.allocatable_03_assumed_shape_formed h
allocatable_03_assumed_shape_formed h = refl

allocatable_03_assumed_shape_shows : (h : Global) → row.allocatable_03_assumed_shape_shows h
unfolding digits converted divided prints_bytes fitted run_of runs calls_of ◌>>=◌ gives fails stops beyond looks does asks
allocatable_03_assumed_shape_shows h = refl

associate_01_lent_formed : (h : Global) → row.associate_01_lent_formed h
associate_01_lent_formed h = refl

associate_01_lent_shows : (h : Global) → row.associate_01_lent_shows h
unfolding digits converted divided prints_bytes fitted run_of runs calls_of ◌>>=◌ gives fails stops beyond looks does asks
associate_01_lent_shows h = refl

associate_01_selectors_formed : (h : Global) → row.associate_01_selectors_formed h
associate_01_selectors_formed h = refl

associate_01_selectors_shows : (h : Global) → row.associate_01_selectors_shows h
unfolding digits converted divided prints_bytes fitted run_of runs calls_of ◌>>=◌ gives fails stops beyond looks does asks
associate_01_selectors_shows h = refl

associate_03_return_formed : (h : Global) → row.associate_03_return_formed h
associate_03_return_formed h = refl

associate_03_return_shows : (h : Global) → row.associate_03_return_shows h
unfolding digits converted divided prints_bytes fitted run_of runs calls_of ◌>>=◌ gives fails stops beyond looks does asks
associate_03_return_shows h = refl

finalizer_01_frees_its_holder_formed : (h : Global) → row.finalizer_01_frees_its_holder_formed h
finalizer_01_frees_its_holder_formed h = refl

finalizer_01_frees_its_holder_shows : (h : Global) → row.finalizer_01_frees_its_holder_shows h
unfolding digits converted divided prints_bytes fitted run_of runs calls_of ◌>>=◌ gives fails stops beyond looks does asks
finalizer_01_frees_its_holder_shows h = refl

finalizer_02_order_formed : (h : Global) → row.finalizer_02_order_formed h
finalizer_02_order_formed h = refl

finalizer_02_order_shows : (h : Global) → row.finalizer_02_order_shows h
unfolding digits converted divided prints_bytes fitted run_of runs calls_of ◌>>=◌ gives fails stops beyond looks does asks
finalizer_02_order_shows h = refl

heap_01_stat_ample_formed : (h : Global) → row.heap_01_stat_ample_formed h
heap_01_stat_ample_formed h = refl

heap_01_stat_ample_shows : (h : Global) → row.heap_01_stat_ample_shows h
unfolding digits converted divided prints_bytes fitted run_of runs calls_of ◌>>=◌ gives fails stops beyond looks does asks
heap_01_stat_ample_shows h = refl

heap_08_lent_element_deallocate_stat_formed : (h : Global) → row.heap_08_lent_element_deallocate_stat_formed h
heap_08_lent_element_deallocate_stat_formed h = refl

heap_08_lent_element_deallocate_stat_shows : (h : Global) → row.heap_08_lent_element_deallocate_stat_shows h
unfolding digits converted divided prints_bytes fitted run_of runs calls_of ◌>>=◌ gives fails stops beyond looks does asks
heap_08_lent_element_deallocate_stat_shows h = refl

pub meant0_show : row.Meant0Show
meant0_show h = (
  allocatable_01_deep_copy_formed h,
  allocatable_01_deep_copy_shows h,
  allocatable_02_scalar_value_formed h,
  allocatable_02_scalar_value_shows h,
  allocatable_02_stat_formed h,
  allocatable_02_stat_shows h,
  allocatable_02_too_large_formed h,
  allocatable_02_too_large_shows h,
  allocatable_03_assumed_shape_formed h,
  allocatable_03_assumed_shape_shows h,
  associate_01_lent_formed h,
  associate_01_lent_shows h,
  associate_01_selectors_formed h,
  associate_01_selectors_shows h,
  associate_03_return_formed h,
  associate_03_return_shows h,
  finalizer_01_frees_its_holder_formed h,
  finalizer_01_frees_its_holder_shows h,
  finalizer_02_order_formed h,
  finalizer_02_order_shows h,
  heap_01_stat_ample_formed h,
  heap_01_stat_ample_shows h,
  heap_08_lent_element_deallocate_stat_formed h,
  heap_08_lent_element_deallocate_stat_shows h,
)
