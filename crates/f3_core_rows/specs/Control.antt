-- Programs by their Core, and what these print. Sources stand beside the programs, in f3_meaning_rows; the answers are those of the rules.
use Rattle.std.specs.Prelude.{◌≡◌, [], ◌∷◌, codes}
use Rattle.std.specs.declared.alloc.Global.{Global}
use Rattle.f3_code.specs.Lower.{lowered_program}
use Rattle.f3_code.specs.CoreRun.{core_run_of, core_runs}
use Rattle.f3_meaning_rows.specs.Shown.{shown, lines, Failed, Finished, Unfinished, granted, refusing}
use Rattle.f3_meaning_rows.specs.Corners.{corner_associates, corner_functions}
use Rattle.f3_meaning_rows.specs.More.{held_value}
use Rattle.f3_meaning_rows.specs.Others.{refused_with_stat, refused_without_stat, three_turns, depth_of_three}
use Rattle.f3_meaning_rows.specs.Rows0.{associate_01_selectors, allocatable_02_stat}
use Rattle.f3_meaning_rows.specs.Rows4.{kinds_06_do, machine_01_sections}
use Rattle.f3_meaning_rows.specs.Rows5.{sample_11_stat}
use Rattle.f3_meaning_rows.specs.Rows8.{usage_65_case_ranges, usage_68_case_none, usage_57_do_past_range}

-- an ASSOCIATE with a variable and a value
abbrev pub selectors_shows : Global → Type 0
selectors_shows h = shown (core_run_of (lowered_program (associate_01_selectors h)) 2000 granted)
    ≡ record { bytes = lines (codes " 2 5 6 6" ∷ codes " F" ∷ []); verdict = Finished }

-- CYCLE and RETURN leave ASSOCIATE constructs, which ends their lending
abbrev pub ways_out_shows : Global → Type 0
ways_out_shows h = shown (core_run_of (lowered_program (corner_associates h)) 2000 granted)
    ≡ record { bytes = lines (codes " 1 20 3" ∷ codes " end" ∷ codes " 1 20 30" ∷ []); verdict = Failed 9 5 110 }

-- recursive functions, results of array and derived type, structure constructors
abbrev pub functions_shows : Global → Type 0
functions_shows h = shown (core_run_of (lowered_program (corner_functions h)) 2000 granted)
    ≡ record { bytes = lines (codes " 4 1 1 2 6 24 0" ∷ codes " 4 3 4 3 1" ∷ codes " 2 9" ∷ codes " 120 4 3" ∷ []); verdict = Failed 4 8 46 }

-- STAT of ALLOCATE and DEALLOCATE
abbrev pub stat_shows : Global → Type 0
stat_shows h = shown (core_run_of (lowered_program (allocatable_02_stat h)) 2000 granted)
    ≡ record { bytes = lines (codes " 5 T 1" ∷ codes " 4" ∷ []); verdict = Finished }

-- STAT of a DEALLOCATE of what is lent
abbrev pub stat_of_lent_shows : Global → Type 0
stat_of_lent_shows h = shown (core_run_of (lowered_program (sample_11_stat h)) 2000 granted)
    ≡ record { bytes = lines (codes " 9" ∷ []); verdict = Finished }

-- the heap refuses an ALLOCATE with STAT
abbrev pub refused_with_stat_shows : Global → Type 0
refused_with_stat_shows h = shown (core_run_of (lowered_program (refused_with_stat h)) 20 (refusing (2 ∷ [])))
    ≡ record { bytes = lines (codes " 6 F" ∷ []); verdict = Finished }

-- and one without
abbrev pub refused_without_stat_shows : Global → Type 0
refused_without_stat_shows h = shown (core_run_of (lowered_program (refused_without_stat h)) 20 (refusing (2 ∷ [])))
    ≡ record { bytes = []; verdict = Failed 6 2 1 }

-- the heap refuses the storage of a held value
abbrev pub held_value_refused_shows : Global → Type 0
held_value_refused_shows h = shown (core_run_of (lowered_program (held_value h)) 20 (refusing (4 ∷ [])))
    ≡ record { bytes = []; verdict = Failed 6 2 1 }

-- SELECT CASE in a DO
abbrev pub case_ranges_shows : Global → Type 0
case_ranges_shows h = shown (core_run_of (lowered_program (usage_65_case_ranges h)) 2000 granted)
    ≡ record { bytes = lines (codes " 1" ∷ codes " 2" ∷ codes " 4" ∷ codes " 2" ∷ codes " 3" ∷ []); verdict = Finished }

-- a SELECT CASE with no CASE that is met
abbrev pub case_none_shows : Global → Type 0
case_none_shows h = shown (core_run_of (lowered_program (usage_68_case_none h)) 2000 granted)
    ≡ record { bytes = lines (codes " 7" ∷ []); verdict = Finished }

-- a DO of kind 8 over all its values, left by EXIT
abbrev pub do_of_kind_8_shows : Global → Type 0
do_of_kind_8_shows h = shown (core_run_of (lowered_program (kinds_06_do h)) 2000 granted)
    ≡ record { bytes = lines (codes " -9223372036854775808" ∷ []); verdict = Finished }

-- a DO whose variable overflows
abbrev pub do_past_range_shows : Global → Type 0
do_past_range_shows h = shown (core_run_of (lowered_program (usage_57_do_past_range h)) 2000 granted)
    ≡ record { bytes = lines (codes " 2147483646" ∷ codes " 2147483647" ∷ []); verdict = Failed 1 2 1 }

-- sections that overlap, go down, are empty
abbrev pub sections_shows : Global → Type 0
sections_shows h = shown (core_run_of (lowered_program (machine_01_sections h)) 2000 granted)
    ≡ record { bytes = lines (codes " 3 2 1 1" ∷ []); verdict = Finished }

-- a DO WHILE that has not ended after three turns
abbrev pub turns_of_three_shows : Global → Type 0
turns_of_three_shows h = shown (core_run_of (lowered_program (three_turns h)) 3 granted)
    ≡ record { bytes = lines (codes " 1" ∷ codes " 1" ∷ codes " 1" ∷ []); verdict = Unfinished }

-- procedures that are active, at most three
abbrev pub three_calls_shows : Global → Type 0
three_calls_shows h = shown (core_runs 3 (lowered_program (depth_of_three h)) 3 granted)
    ≡ record { bytes = lines (codes " 1" ∷ codes " 2" ∷ codes " 3" ∷ []); verdict = Failed 10 2 56 }

abbrev pub ControlShows : Type 0
ControlShows = (h : Global) →
    selectors_shows h
    × ways_out_shows h
    × functions_shows h
    × stat_shows h
    × stat_of_lent_shows h
    × refused_with_stat_shows h
    × refused_without_stat_shows h
    × held_value_refused_shows h
    × case_ranges_shows h
    × case_none_shows h
    × do_of_kind_8_shows h
    × do_past_range_shows h
    × sections_shows h
    × turns_of_three_shows h
    × three_calls_shows h
