-- Programs by their Core, and what these print. Sources stand beside the programs, in f3_meaning_rows; the answers are those of the rules.
use Rattle.std.specs.Prelude.{◌≡◌, [], ◌∷◌, codes}
use Rattle.std.specs.declared.alloc.Global.{Global}
use Rattle.f3_code.specs.Lower.{lowered_program}
use Rattle.f3_code.specs.CoreRun.{core_run_of, core_runs}
use Rattle.f3_meaning_rows.specs.Shown.{shown, lines, Failed, Finished, granted}
use Rattle.f3_meaning_rows.specs.Corners.{corner_finals_of_sections, corner_intent_out, corner_moves}
use Rattle.f3_meaning_rows.specs.More.{locals_at_return}
use Rattle.f3_meaning_rows.specs.Rows0.{finalizer_02_order, heap_04_other_shape, heap_04_same_shape, allocatable_01_deep_copy, heap_06_held_value}
use Rattle.f3_meaning_rows.specs.Rows1.{heap_19_lent_section_move_from, heap_13_lent_element_out_allocatable}
use Rattle.f3_meaning_rows.specs.Rows4.{sample_09_finals, sample_10_array_final}
use Rattle.f3_meaning_rows.specs.Rows5.{sample_10_scalar_final}

-- an assignment to an object with a final subroutine, and locals at an END
abbrev pub finals_shows : Global → Type 0
finals_shows h = shown (core_run_of (lowered_program (sample_09_finals h)) 2000 granted)
    ≡ record { bytes = lines (codes " f 1" ∷ codes " g" ∷ codes " f 2" ∷ codes " f 2" ∷ []); verdict = Finished }

-- a final subroutine for rank 1
abbrev pub array_final_shows : Global → Type 0
array_final_shows h = shown (core_run_of (lowered_program (sample_10_array_final h)) 2000 granted)
    ≡ record { bytes = lines (codes " v 2" ∷ codes " e" ∷ []); verdict = Finished }

-- a final subroutine for rank 0 and an array of two: no call
abbrev pub scalar_final_shows : Global → Type 0
scalar_final_shows h = shown (core_run_of (lowered_program (sample_10_scalar_final h)) 2000 granted)
    ≡ record { bytes = lines (codes " e" ∷ []); verdict = Finished }

-- an object, then its components, each with a final subroutine
abbrev pub parts_in_order_shows : Global → Type 0
parts_in_order_shows h = shown (core_run_of (lowered_program (finalizer_02_order h)) 2000 granted)
    ≡ record { bytes = lines (codes " g" ∷ codes " t T" ∷ codes " c 1" ∷ []); verdict = Finished }

-- final subroutines of both ranks, sections, deep copies, reallocation, what a final subroutine allocates again
abbrev pub finals_of_sections_shows : Global → Type 0
finals_of_sections_shows h = shown (core_run_of (lowered_program (corner_finals_of_sections h)) 2000 granted)
    ≡ record {
      bytes = lines (codes " a 2 1 2" ∷ codes " 3 3 3 3 3 3" ∷ codes " s 0 F" ∷ codes " 3 3 3 9 3 3" ∷ codes " a 3 3 3 3" ∷
          codes " s 4 T" ∷ codes " a 2 6 0" ∷ codes " 2 0 6" ∷ codes " a 2 0 6" ∷ []);
      verdict = Finished;
    }

-- an assignment of another shape to what is lent
abbrev pub other_shape_shows : Global → Type 0
other_shape_shows h = shown (core_run_of (lowered_program (heap_04_other_shape h)) 2000 granted)
    ≡ record { bytes = lines []; verdict = Failed 9 2 47 }

-- an assignment of the same shape to what is lent
abbrev pub same_shape_shows : Global → Type 0
same_shape_shows h = shown (core_run_of (lowered_program (heap_04_same_shape h)) 2000 granted)
    ≡ record { bytes = lines (codes " 1" ∷ []); verdict = Finished }

-- allocatable components are copied
abbrev pub deep_copy_shows : Global → Type 0
deep_copy_shows h = shown (core_run_of (lowered_program (allocatable_01_deep_copy h)) 2000 granted)
    ≡ record { bytes = lines (codes " 4 4 9 4 0" ∷ codes " F" ∷ []); verdict = Finished }

-- INTENT(OUT) of an object, an allocatable, an array
abbrev pub intent_out_shows : Global → Type 0
intent_out_shows h = shown (core_run_of (lowered_program (corner_intent_out h)) 2000 granted)
    ≡ record {
      bytes = lines (codes " f 3 T" ∷ codes " 3 F F 0 0 2" ∷ codes " 5 7 0 6 4" ∷ codes " F" ∷ codes " 1 2" ∷ codes " f 5 F" ∷
          codes " 3 F F 0 2" ∷ []);
      verdict = Failed 3 3 220;
    }

-- MOVE_ALLOC of objects and arrays, and to a holder that is lent
abbrev pub moves_shows : Global → Type 0
moves_shows h = shown (core_run_of (lowered_program (corner_moves h)) 2000 granted)
    ≡ record {
      bytes = lines (codes " f 2" ∷ codes " 1 F" ∷ codes " f 1" ∷ codes " F" ∷ codes " 3 4 5 6 F" ∷ codes " F" ∷
          []);
      verdict = Failed 4 3 154;
    }

-- MOVE_ALLOC from what is lent
abbrev pub move_from_lent_shows : Global → Type 0
move_from_lent_shows h = shown (core_run_of (lowered_program (heap_19_lent_section_move_from h)) 2000 granted)
    ≡ record { bytes = lines []; verdict = Failed 9 3 1 }

-- INTENT(OUT) of what is lent
abbrev pub out_of_lent_shows : Global → Type 0
out_of_lent_shows h = shown (core_run_of (lowered_program (heap_13_lent_element_out_allocatable h)) 2000 granted)
    ≡ record { bytes = lines []; verdict = Failed 9 3 1 }

-- a held argument lends nothing
abbrev pub held_lends_nothing_shows : Global → Type 0
held_lends_nothing_shows h = shown (core_run_of (lowered_program (heap_06_held_value h)) 2000 granted)
    ≡ record { bytes = lines (codes " 7" ∷ codes " F" ∷ []); verdict = Finished }

-- locals are destroyed at the RETURN
abbrev pub locals_at_return_shows : Global → Type 0
locals_at_return_shows h = shown (core_runs 4 (lowered_program (locals_at_return h)) 20 granted)
    ≡ record { bytes = []; verdict = Failed 10 3 1 }

abbrev pub DestroyingShows : Type 0
DestroyingShows = (h : Global) →
    finals_shows h
    × array_final_shows h
    × scalar_final_shows h
    × parts_in_order_shows h
    × finals_of_sections_shows h
    × other_shape_shows h
    × same_shape_shows h
    × deep_copy_shows h
    × intent_out_shows h
    × moves_shows h
    × move_from_lent_shows h
    × out_of_lent_shows h
    × held_lends_nothing_shows h
    × locals_at_return_shows h
