use Rattle.std.specs.Prelude.{refl}
use Rattle.std.specs.Fmt.{digits}
use Rattle.std.specs.declared.alloc.Global.{Global}
use Rattle.f3_meaning_whole.specs.Ran.{◌>>=◌, gives, fails, stops, beyond, looks, does, asks, prints_bytes}
use Rattle.f3_meaning_whole.specs.Arithmetic.{converted, divided}
use Rattle.f3_meaning_whole.specs.Act.{fitted}
use Rattle.f3_meaning_whole.specs.Run.{calls_of, runs, run_of}
use Rattle.f3_elaboration_rows.specs.Meant11 as row

bounds_before_variable_formed : (h : Global) → row.bounds_before_variable_formed h
bounds_before_variable_formed h = refl

bounds_before_variable_shows : (h : Global) → row.bounds_before_variable_shows h
unfolding digits converted divided prints_bytes fitted run_of runs calls_of ◌>>=◌ gives fails stops beyond looks does asks
bounds_before_variable_shows h = refl

shapes_before_destroying_formed : (h : Global) → row.shapes_before_destroying_formed h
shapes_before_destroying_formed h = refl

shapes_before_destroying_shows : (h : Global) → row.shapes_before_destroying_shows h
unfolding digits converted divided prints_bytes fitted run_of runs calls_of ◌>>=◌ gives fails stops beyond looks does asks
shapes_before_destroying_shows h = refl

step_before_bounds_formed : (h : Global) → row.step_before_bounds_formed h
step_before_bounds_formed h = refl

step_before_bounds_shows : (h : Global) → row.step_before_bounds_shows h
unfolding digits converted divided prints_bytes fitted run_of runs calls_of ◌>>=◌ gives fails stops beyond looks does asks
step_before_bounds_shows h = refl

subscripts_before_contents_formed : (h : Global) → row.subscripts_before_contents_formed h
subscripts_before_contents_formed h = refl

subscripts_before_contents_shows : (h : Global) → row.subscripts_before_contents_shows h
unfolding digits converted divided prints_bytes fitted run_of runs calls_of ◌>>=◌ gives fails stops beyond looks does asks
subscripts_before_contents_shows h = refl

associate_from_one_formed : (h : Global) → row.associate_from_one_formed h
associate_from_one_formed h = refl

associate_from_one_shows : (h : Global) → row.associate_from_one_shows h
unfolding digits converted divided prints_bytes fitted run_of runs calls_of ◌>>=◌ gives fails stops beyond looks does asks
associate_from_one_shows h = refl

pub meant11_show : row.Meant11Show
meant11_show h = (
  bounds_before_variable_formed h,
  bounds_before_variable_shows h,
  shapes_before_destroying_formed h,
  shapes_before_destroying_shows h,
  step_before_bounds_formed h,
  step_before_bounds_shows h,
  subscripts_before_contents_formed h,
  subscripts_before_contents_shows h,
  associate_from_one_formed h,
  associate_from_one_shows h,
)
