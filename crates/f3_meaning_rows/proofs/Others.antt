use Rattle.std.specs.Prelude.{refl}
use Rattle.std.specs.Fmt.{digits}
use Rattle.std.specs.declared.alloc.Global.{Global}
use Rattle.f3_meaning_whole.specs.Ran.{◌>>=◌, gives, fails, stops, beyond, looks, does, asks, prints_bytes}
use Rattle.f3_meaning_whole.specs.Arithmetic.{converted, divided}
use Rattle.f3_meaning_whole.specs.Act.{fitted}
use Rattle.f3_meaning_whole.specs.Run.{calls_of, runs, run_of}
use Rattle.f3_meaning_whole.specs.Permitted.{IsLawful}
use Rattle.std.specs.Prelude.{◌≡◌, T, true, false}
use Rattle.std.proofs.Common.{sym}
use mathlib.Core.Path.{subst}
use Rattle.f3_meaning_rows.specs.Others.{OthersShow, refused_with_stat_shows, not_refused_shows, refused_without_stat_shows, three_turns_shows, no_room_to_start_shows, no_room_for_a_call_shows, depth_of_three_shows, no_room_for_a_copy_shows, protected_elsewhere, protected_renamed, intent_in, protected_passed_on, private_component}

no : {A : Type 0} → false ≡ true → A
no h = absurd (subst T (sym h) tt)

refused_with_stat_run : (h : Global) → refused_with_stat_shows h
unfolding digits converted divided prints_bytes fitted run_of runs calls_of ◌>>=◌ gives fails stops beyond looks does asks
refused_with_stat_run h = refl

not_refused_run : (h : Global) → not_refused_shows h
unfolding digits converted divided prints_bytes fitted run_of runs calls_of ◌>>=◌ gives fails stops beyond looks does asks
not_refused_run h = refl

refused_without_stat_run : (h : Global) → refused_without_stat_shows h
unfolding digits converted divided prints_bytes fitted run_of runs calls_of ◌>>=◌ gives fails stops beyond looks does asks
refused_without_stat_run h = refl

three_turns_run : (h : Global) → three_turns_shows h
unfolding digits converted divided prints_bytes fitted run_of runs calls_of ◌>>=◌ gives fails stops beyond looks does asks
three_turns_run h = refl

no_room_to_start_run : (h : Global) → no_room_to_start_shows h
unfolding digits converted divided prints_bytes fitted run_of runs calls_of ◌>>=◌ gives fails stops beyond looks does asks
no_room_to_start_run h = refl

no_room_for_a_call_run : (h : Global) → no_room_for_a_call_shows h
unfolding digits converted divided prints_bytes fitted run_of runs calls_of ◌>>=◌ gives fails stops beyond looks does asks
no_room_for_a_call_run h = refl

depth_of_three_run : (h : Global) → depth_of_three_shows h
unfolding digits converted divided prints_bytes fitted run_of runs calls_of ◌>>=◌ gives fails stops beyond looks does asks
depth_of_three_run h = refl

no_room_for_a_copy_run : (h : Global) → no_room_for_a_copy_shows h
unfolding digits converted divided prints_bytes fitted run_of runs calls_of ◌>>=◌ gives fails stops beyond looks does asks
no_room_for_a_copy_run h = refl

protected_elsewhere_not : (h : Global) → IsLawful (protected_elsewhere h) → ⊥
protected_elsewhere_not h m = no (m.in_main.0.0.0.1)

protected_renamed_not : (h : Global) → IsLawful (protected_renamed h) → ⊥
protected_renamed_not h m = no (m.in_main.0.0.0.1)

intent_in_not : (h : Global) → IsLawful (intent_in h) → ⊥
intent_in_not h m = no (m.in_procedures.0.0.0.0.1)

protected_passed_on_not : (h : Global) → IsLawful (protected_passed_on h) → ⊥
protected_passed_on_not h m = no (m.in_main.0.1.0.0)

private_component_not : (h : Global) → IsLawful (private_component h) → ⊥
private_component_not h m = no (m.in_main.0.0.0.0.1)

pub others_show : OthersShow
others_show h = (refused_with_stat_run h, not_refused_run h, refused_without_stat_run h, three_turns_run h, no_room_to_start_run h, no_room_for_a_call_run h, depth_of_three_run h, no_room_for_a_copy_run h, protected_elsewhere_not h, protected_renamed_not h, intent_in_not h, protected_passed_on_not h, private_component_not h)
