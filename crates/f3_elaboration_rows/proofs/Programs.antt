use Rattle.std.specs.Prelude.{refl}
use Rattle.std.specs.Fmt.{digits}
use Rattle.std.specs.declared.alloc.Global.{Global}
use Rattle.f3_meaning_whole.specs.Ran.{◌>>=◌, gives, fails, stops, beyond, looks, does, asks, prints_bytes}
use Rattle.f3_meaning_whole.specs.Arithmetic.{converted, divided}
use Rattle.f3_meaning_whole.specs.Act.{fitted}
use Rattle.f3_meaning_whole.specs.Run.{calls_of, runs, run_of}
use Rattle.f3_elaboration_rows.specs.Programs.{ProgramsShow, ProgramsLawful, bounds_shows, bounds_lawful, finals_shows, finals_lawful}
use Rattle.f3_elaboration_rows.specs.Programs.{protected_shows, protected_lawful, private_shows, private_lawful, lent_shows, lent_lawful, moved_shows}
use Rattle.f3_elaboration_rows.specs.Programs.{moved_lawful, saved_shows, controls_shows, types_shows, loops_shows, loops_lawful}

bounds_run : (h : Global) → bounds_shows h
unfolding digits converted divided prints_bytes fitted run_of runs calls_of ◌>>=◌ gives fails stops beyond looks does asks
bounds_run h = record { prints = refl; is_formed = refl }

bounds_made : (h : Global) → bounds_lawful h
bounds_made h = record { in_main = search; in_procedures = search; in_types = search }

finals_run : (h : Global) → finals_shows h
unfolding digits converted divided prints_bytes fitted run_of runs calls_of ◌>>=◌ gives fails stops beyond looks does asks
finals_run h = record { prints = refl; is_formed = refl }

finals_made : (h : Global) → finals_lawful h
finals_made h = record { in_main = search; in_procedures = search; in_types = search }

protected_run : (h : Global) → protected_shows h
unfolding digits converted divided prints_bytes fitted run_of runs calls_of ◌>>=◌ gives fails stops beyond looks does asks
protected_run h = record { prints = refl; is_formed = refl }

protected_made : (h : Global) → protected_lawful h
protected_made h = record { in_main = search; in_procedures = search; in_types = search }

private_run : (h : Global) → private_shows h
unfolding digits converted divided prints_bytes fitted run_of runs calls_of ◌>>=◌ gives fails stops beyond looks does asks
private_run h = record { prints = refl; is_formed = refl }

private_made : (h : Global) → private_lawful h
private_made h = record { in_main = search; in_procedures = search; in_types = search }

lent_run : (h : Global) → lent_shows h
unfolding digits converted divided prints_bytes fitted run_of runs calls_of ◌>>=◌ gives fails stops beyond looks does asks
lent_run h = record { prints = refl; is_formed = refl }

lent_made : (h : Global) → lent_lawful h
lent_made h = record { in_main = search; in_procedures = search; in_types = search }

moved_run : (h : Global) → moved_shows h
unfolding digits converted divided prints_bytes fitted run_of runs calls_of ◌>>=◌ gives fails stops beyond looks does asks
moved_run h = record { prints = refl; is_formed = refl }

moved_made : (h : Global) → moved_lawful h
moved_made h = record { in_main = search; in_procedures = search; in_types = search }

saved_run : (h : Global) → saved_shows h
unfolding digits converted divided prints_bytes fitted run_of runs calls_of ◌>>=◌ gives fails stops beyond looks does asks
saved_run h = record { prints = refl; is_formed = refl }

controls_run : (h : Global) → controls_shows h
unfolding digits converted divided prints_bytes fitted run_of runs calls_of ◌>>=◌ gives fails stops beyond looks does asks
controls_run h = record { prints = refl; is_formed = refl }

types_run : (h : Global) → types_shows h
unfolding digits converted divided prints_bytes fitted run_of runs calls_of ◌>>=◌ gives fails stops beyond looks does asks
types_run h = record { prints = refl; is_formed = refl }

loops_run : (h : Global) → loops_shows h
unfolding digits converted divided prints_bytes fitted run_of runs calls_of ◌>>=◌ gives fails stops beyond looks does asks
loops_run h = record { prints = refl; is_formed = refl }

loops_made : (h : Global) → loops_lawful h
loops_made h = record { in_main = search; in_procedures = search; in_types = search }

pub programs_show : ProgramsShow
programs_show h = (bounds_run h, finals_run h, protected_run h, private_run h, lent_run h, moved_run h, saved_run h, controls_run h, types_run h, loops_run h)

pub programs_lawful : ProgramsLawful
programs_lawful h = (bounds_made h, finals_made h, protected_made h, private_made h, lent_made h, moved_made h, loops_made h)
