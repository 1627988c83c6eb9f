use Rattle.std.specs.Prelude.{refl}
use Rattle.std.specs.Fmt.{digits}
use Rattle.std.specs.declared.alloc.Global.{Global}
use Rattle.f3_meaning_whole.specs.Ran.{◌>>=◌, gives, fails, stops, beyond, looks, does, asks, prints_bytes}
use Rattle.f3_meaning_whole.specs.Arithmetic.{converted, divided}
use Rattle.f3_meaning_whole.specs.Act.{fitted}
use Rattle.f3_meaning_whole.specs.Run.{calls_of, runs, run_of}
use Rattle.f3_elaboration_rows.specs.Meant9 as row

usage_79_deallocate_nothing_formed : (h : Global) → row.usage_79_deallocate_nothing_formed h
usage_79_deallocate_nothing_formed h = refl

usage_79_deallocate_nothing_shows : (h : Global) → row.usage_79_deallocate_nothing_shows h
unfolding digits converted divided prints_bytes fitted run_of runs calls_of ◌>>=◌ gives fails stops beyond looks does asks
usage_79_deallocate_nothing_shows h = refl

usage_80_allocate_too_large_formed : (h : Global) → row.usage_80_allocate_too_large_formed h
usage_80_allocate_too_large_formed h = refl

usage_80_allocate_too_large_shows : (h : Global) → row.usage_80_allocate_too_large_shows h
unfolding digits converted divided prints_bytes fitted run_of runs calls_of ◌>>=◌ gives fails stops beyond looks does asks
usage_80_allocate_too_large_shows h = refl

refused_with_stat_formed : (h : Global) → row.refused_with_stat_formed h
refused_with_stat_formed h = refl

refused_with_stat_shows : (h : Global) → row.refused_with_stat_shows h
unfolding digits converted divided prints_bytes fitted run_of runs calls_of ◌>>=◌ gives fails stops beyond looks does asks
refused_with_stat_shows h = refl

not_refused_formed : (h : Global) → row.not_refused_formed h
not_refused_formed h = refl

not_refused_shows : (h : Global) → row.not_refused_shows h
unfolding digits converted divided prints_bytes fitted run_of runs calls_of ◌>>=◌ gives fails stops beyond looks does asks
not_refused_shows h = refl

refused_without_stat_formed : (h : Global) → row.refused_without_stat_formed h
refused_without_stat_formed h = refl

refused_without_stat_shows : (h : Global) → row.refused_without_stat_shows h
unfolding digits converted divided prints_bytes fitted run_of runs calls_of ◌>>=◌ gives fails stops beyond looks does asks
refused_without_stat_shows h = refl

three_turns_formed : (h : Global) → row.three_turns_formed h
three_turns_formed h = refl

three_turns_shows : (h : Global) → row.three_turns_shows h
unfolding digits converted divided prints_bytes fitted run_of runs calls_of ◌>>=◌ gives fails stops beyond looks does asks
three_turns_shows h = refl

no_room_to_start_formed : (h : Global) → row.no_room_to_start_formed h
no_room_to_start_formed h = refl

no_room_to_start_shows : (h : Global) → row.no_room_to_start_shows h
unfolding digits converted divided prints_bytes fitted run_of runs calls_of ◌>>=◌ gives fails stops beyond looks does asks
no_room_to_start_shows h = refl

no_room_for_a_call_formed : (h : Global) → row.no_room_for_a_call_formed h
no_room_for_a_call_formed h = refl

no_room_for_a_call_shows : (h : Global) → row.no_room_for_a_call_shows h
unfolding digits converted divided prints_bytes fitted run_of runs calls_of ◌>>=◌ gives fails stops beyond looks does asks
no_room_for_a_call_shows h = refl

depth_of_three_formed : (h : Global) → row.depth_of_three_formed h
depth_of_three_formed h = refl

depth_of_three_shows : (h : Global) → row.depth_of_three_shows h
unfolding digits converted divided prints_bytes fitted run_of runs calls_of ◌>>=◌ gives fails stops beyond looks does asks
depth_of_three_shows h = refl

no_room_for_a_copy_formed : (h : Global) → row.no_room_for_a_copy_formed h
no_room_for_a_copy_formed h = refl

no_room_for_a_copy_shows : (h : Global) → row.no_room_for_a_copy_shows h
unfolding digits converted divided prints_bytes fitted run_of runs calls_of ◌>>=◌ gives fails stops beyond looks does asks
no_room_for_a_copy_shows h = refl

corner_sections_formed : (h : Global) → row.corner_sections_formed h
corner_sections_formed h = refl

corner_sections_shows : (h : Global) → row.corner_sections_shows h
unfolding digits converted divided prints_bytes fitted run_of runs calls_of ◌>>=◌ gives fails stops beyond looks does asks
corner_sections_shows h = refl

corner_finals_of_sections_formed : (h : Global) → row.corner_finals_of_sections_formed h
corner_finals_of_sections_formed h = refl

corner_finals_of_sections_shows : (h : Global) → row.corner_finals_of_sections_shows h
unfolding digits converted divided prints_bytes fitted run_of runs calls_of ◌>>=◌ gives fails stops beyond looks does asks
corner_finals_of_sections_shows h = refl

pub meant9_show : row.Meant9Show
meant9_show h = (
  usage_79_deallocate_nothing_formed h,
  usage_79_deallocate_nothing_shows h,
  usage_80_allocate_too_large_formed h,
  usage_80_allocate_too_large_shows h,
  refused_with_stat_formed h,
  refused_with_stat_shows h,
  not_refused_formed h,
  not_refused_shows h,
  refused_without_stat_formed h,
  refused_without_stat_shows h,
  three_turns_formed h,
  three_turns_shows h,
  no_room_to_start_formed h,
  no_room_to_start_shows h,
  no_room_for_a_call_formed h,
  no_room_for_a_call_shows h,
  depth_of_three_formed h,
  depth_of_three_shows h,
  no_room_for_a_copy_formed h,
  no_room_for_a_copy_shows h,
  corner_sections_formed h,
  corner_sections_shows h,
  corner_finals_of_sections_formed h,
  corner_finals_of_sections_shows h,
)
