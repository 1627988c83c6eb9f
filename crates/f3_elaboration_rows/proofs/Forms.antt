use Rattle.std.specs.Prelude.{refl}
use Rattle.std.specs.Fmt.{digits}
use Rattle.std.specs.declared.alloc.Global.{Global}
use Rattle.f3_meaning_whole.specs.Ran.{◌>>=◌, gives, fails, stops, beyond, looks, does, asks, prints_bytes}
use Rattle.f3_meaning_whole.specs.Arithmetic.{converted, divided}
use Rattle.f3_meaning_whole.specs.Act.{fitted}
use Rattle.f3_meaning_whole.specs.Run.{calls_of, runs, run_of}
use Rattle.f3_elaboration_rows.specs.Forms as row

keywords_formed : (h : Global) → row.keywords_formed h
keywords_formed h = refl

keywords_shows : (h : Global) → row.keywords_shows h
unfolding digits converted divided prints_bytes fitted run_of runs calls_of ◌>>=◌ gives fails stops beyond looks does asks
keywords_shows h = refl

intrinsics_formed : (h : Global) → row.intrinsics_formed h
intrinsics_formed h = refl

intrinsics_shows : (h : Global) → row.intrinsics_shows h
unfolding digits converted divided prints_bytes fitted run_of runs calls_of ◌>>=◌ gives fails stops beyond looks does asks
intrinsics_shows h = refl

scopes_formed : (h : Global) → row.scopes_formed h
scopes_formed h = refl

scopes_shows : (h : Global) → row.scopes_shows h
unfolding digits converted divided prints_bytes fitted run_of runs calls_of ◌>>=◌ gives fails stops beyond looks does asks
scopes_shows h = refl

holders_formed : (h : Global) → row.holders_formed h
holders_formed h = refl

holders_shows : (h : Global) → row.holders_shows h
unfolding digits converted divided prints_bytes fitted run_of runs calls_of ◌>>=◌ gives fails stops beyond looks does asks
holders_shows h = refl

functions_formed : (h : Global) → row.functions_formed h
functions_formed h = refl

functions_shows : (h : Global) → row.functions_shows h
unfolding digits converted divided prints_bytes fitted run_of runs calls_of ◌>>=◌ gives fails stops beyond looks does asks
functions_shows h = refl

elements_formed : (h : Global) → row.elements_formed h
elements_formed h = refl

elements_shows : (h : Global) → row.elements_shows h
unfolding digits converted divided prints_bytes fitted run_of runs calls_of ◌>>=◌ gives fails stops beyond looks does asks
elements_shows h = refl

constants_formed : (h : Global) → row.constants_formed h
constants_formed h = refl

constants_shows : (h : Global) → row.constants_shows h
unfolding digits converted divided prints_bytes fitted run_of runs calls_of ◌>>=◌ gives fails stops beyond looks does asks
constants_shows h = refl

pub forms_show : row.FormsShow
forms_show h = (
  keywords_formed h,
  keywords_shows h,
  intrinsics_formed h,
  intrinsics_shows h,
  scopes_formed h,
  scopes_shows h,
  holders_formed h,
  holders_shows h,
  functions_formed h,
  functions_shows h,
  elements_formed h,
  elements_shows h,
  constants_formed h,
  constants_shows h,
)
