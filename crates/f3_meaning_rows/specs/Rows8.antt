-- Programs, elaborated, with their sources above.
use Rattle.std.specs.Prelude.{pos, true, false, [], ◌∷◌, None, Some, codes, ◌≡◌}
use Rattle.std.specs.declared.alloc.Global.{Global}
use Rattle.f3_program.specs.declared.declarations.Base.TheVariants as base
use Rattle.f3_program.specs.declared.declarations.Constant.TheVariants as constant
use Rattle.f3_program.specs.declared.expression.UnaryOperator.TheVariants as c
use Rattle.f3_program.specs.declared.expression.Name.TheVariants as n
use Rattle.f3_program.specs.declared.expression.BinaryOperator.TheVariants as o
use Rattle.f3_program.specs.declared.expression.Selection as l
use Rattle.f3_program.specs.declared.statement.Item.TheVariants as item
use Rattle.f3_program.specs.declared.statement.Range.TheVariants as range
use Rattle.f3_program.specs.declared.statement.Statement as s
use Rattle.f3_program.specs.declared.program.Program.{Program}
use Rattle.f3_meaning_whole.specs.Run.{run_of}
use Rattle.f3_meaning_whole.specs.Permitted.{IsLawful}
use Rattle.f3_meaning_rows.specs.Shown.{granted, shown, lines, Finished, Failed, Stopped}
use Rattle.f3_meaning_rows.specs.Build.{vec, place, kind, declared, num, truth, var, unary, bin, call, name, at, block, when, choose, case, while}
use Rattle.f3_meaning_rows.specs.Build.{for, procedure, program}

--     module m; contains; subroutine s(); print *, 1; stop 99999; end; end
--     program p; use m; call s(); print *, 2; end
abbrev pub usage_54_stop_in_procedure : Global → Program
usage_54_stop_in_procedure h = program h [] tt
    [] tt
    (procedure h 0 [] tt [] tt None (block h (at h 1 37 true (s.Print (vec h (item.Value (num (pos 1)) ∷ []) tt))
    ∷ at h 1 49 true (s.Stop (Some 99999)) ∷ []) tt) (place 1 61) ∷ []) tt
    (procedure h 2 [] tt [] tt None (block h (at h 2 19 true (s.Call (call h 0 [] tt))
    ∷ at h 2 29 true (s.Print (vec h (item.Value (num (pos 2)) ∷ []) tt)) ∷ []) tt) (place 2 41))
    (place 2 1)

--     program p; integer :: i; do i = 1, 3; print *, i; end do; print *, i; end
abbrev pub usage_55_do_up : Global → Program
usage_55_do_up h = program h [] tt
    [] tt
    [] tt
    (procedure h 0 [] tt ((declared h (kind base.Integer 0 false) [] tt [] tt) ∷ []) tt None
    (block h (at h 1 26 true (for h (name (n.Local 0) l.Whole) (kind base.Integer 0 false) (num (pos 1)) (num (pos 3)) (num (pos 1))
    (block h (at h 1 39 true (s.Print (vec h (item.Value (var h (name (n.Local 0) l.Whole)) ∷ []) tt)) ∷ []) tt))
    ∷ at h 1 59 true (s.Print (vec h (item.Value (var h (name (n.Local 0) l.Whole)) ∷ []) tt)) ∷ []) tt) (place 1 71))
    (place 1 1)

--     program p; integer :: i; do i = 7, 0, -3; print *, i; enddo; print *, i; end
abbrev pub usage_56_do_down : Global → Program
usage_56_do_down h = program h [] tt
    [] tt
    [] tt
    (procedure h 0 [] tt ((declared h (kind base.Integer 0 false) [] tt [] tt) ∷ []) tt None
    (block h (at h 1 26 true (for h (name (n.Local 0) l.Whole) (kind base.Integer 0 false) (num (pos 7)) (num (pos 0))
    (unary h c.Negate base.Integer (num (pos 3))) (block h
    (at h 1 43 true (s.Print (vec h (item.Value (var h (name (n.Local 0) l.Whole)) ∷ []) tt)) ∷ []) tt))
    ∷ at h 1 62 true (s.Print (vec h (item.Value (var h (name (n.Local 0) l.Whole)) ∷ []) tt)) ∷ []) tt) (place 1 74))
    (place 1 1)

--     program p; integer :: i
--     do i = 2147483646, 2147483647; print *, i; end do; end
abbrev pub usage_57_do_past_range : Global → Program
usage_57_do_past_range h = program h [] tt
    [] tt
    [] tt
    (procedure h 0 [] tt ((declared h (kind base.Integer 0 false) [] tt [] tt) ∷ []) tt None
    (block h (at h 2 1 true (for h (name (n.Local 0) l.Whole) (kind base.Integer 0 false) (num (pos 2147483646)) (num (pos 2147483647))
    (num (pos 1)) (block h (at h 2 32 true (s.Print (vec h (item.Value (var h (name (n.Local 0) l.Whole)) ∷ []) tt)) ∷ []) tt)) ∷ []) tt) (place 2 52))
    (place 1 1)

--     program p; integer :: i, n; n = 3; i = 2; do i = i, n; n = 1; print *, i; end do; print *, i, n; end
abbrev pub usage_58_do_count_fixed : Global → Program
usage_58_do_count_fixed h = program h [] tt
    [] tt
    [] tt
    (procedure h 0 [] tt ((declared h (kind base.Integer 0 false) [] tt [] tt) ∷ (declared h (kind base.Integer 0 false) [] tt [] tt) ∷ []) tt None
    (block h (at h 1 29 true (s.Assign (name (n.Local 1) l.Whole) (kind base.Integer 0 false) (num (pos 3)))
    ∷ at h 1 36 true (s.Assign (name (n.Local 0) l.Whole) (kind base.Integer 0 false) (num (pos 2)))
    ∷ at h 1 43 true (for h (name (n.Local 0) l.Whole) (kind base.Integer 0 false) (var h (name (n.Local 0) l.Whole))
    (var h (name (n.Local 1) l.Whole)) (num (pos 1)) (block h
    (at h 1 56 true (s.Assign (name (n.Local 1) l.Whole) (kind base.Integer 0 false) (num (pos 1)))
    ∷ at h 1 63 true (s.Print (vec h (item.Value (var h (name (n.Local 0) l.Whole)) ∷ []) tt)) ∷ []) tt))
    ∷ at h 1 83 true (s.Print (vec h (item.Value (var h (name (n.Local 0) l.Whole)) ∷ item.Value (var h (name (n.Local 1) l.Whole)) ∷ []) tt))
    ∷ []) tt) (place 1 98))
    (place 1 1)

--     program p; integer :: i; do i = 1, 10; if (i == 2) cycle; if (i == 4) exit; print *, i; end do; print *, i; end
abbrev pub usage_59_cycle_exit : Global → Program
usage_59_cycle_exit h = program h [] tt
    [] tt
    [] tt
    (procedure h 0 [] tt ((declared h (kind base.Integer 0 false) [] tt [] tt) ∷ []) tt None
    (block h (at h 1 26 true (for h (name (n.Local 0) l.Whole) (kind base.Integer 0 false) (num (pos 1)) (num (pos 10)) (num (pos 1))
    (block h (at h 1 40 true (when h (bin h o.Equal base.Logical (var h (name (n.Local 0) l.Whole)) (num (pos 2))) s.Cycle (block h [] tt))
    ∷ at h 1 59 true (when h (bin h o.Equal base.Logical (var h (name (n.Local 0) l.Whole)) (num (pos 4))) s.Exit (block h [] tt))
    ∷ at h 1 77 true (s.Print (vec h (item.Value (var h (name (n.Local 0) l.Whole)) ∷ []) tt)) ∷ []) tt))
    ∷ at h 1 97 true (s.Print (vec h (item.Value (var h (name (n.Local 0) l.Whole)) ∷ []) tt)) ∷ []) tt) (place 1 109))
    (place 1 1)

--     program p; integer :: i; i = 1; do while (i < 20); i = i * 3; end do; print *, i; end
abbrev pub usage_60_do_while : Global → Program
usage_60_do_while h = program h [] tt
    [] tt
    [] tt
    (procedure h 0 [] tt ((declared h (kind base.Integer 0 false) [] tt [] tt) ∷ []) tt None
    (block h (at h 1 26 true (s.Assign (name (n.Local 0) l.Whole) (kind base.Integer 0 false) (num (pos 1)))
    ∷ at h 1 33 true (while h (bin h o.Less base.Logical (var h (name (n.Local 0) l.Whole)) (num (pos 20)))
    (block h (at h 1 52 true (s.Assign (name (n.Local 0) l.Whole) (kind base.Integer 0 false)
    (bin h o.Multiply base.Integer (var h (name (n.Local 0) l.Whole)) (num (pos 3)))) ∷ []) tt))
    ∷ at h 1 71 true (s.Print (vec h (item.Value (var h (name (n.Local 0) l.Whole)) ∷ []) tt)) ∷ []) tt) (place 1 83))
    (place 1 1)

--     program p; integer :: n; do; n = n + 1; do; exit; end do; if (n == 3) exit; end do; print *, n; end
abbrev pub usage_61_exit_inner : Global → Program
usage_61_exit_inner h = program h [] tt
    [] tt
    [] tt
    (procedure h 0 [] tt ((declared h (kind base.Integer 0 false) [] tt [] tt) ∷ []) tt None
    (block h (at h 1 26 true (while h (truth true) (block h
    (at h 1 30 true (s.Assign (name (n.Local 0) l.Whole) (kind base.Integer 0 false)
    (bin h o.Add base.Integer (var h (name (n.Local 0) l.Whole)) (num (pos 1))))
    ∷ at h 1 41 true (while h (truth true) (block h (at h 1 45 true s.Exit ∷ []) tt))
    ∷ at h 1 59 true (when h (bin h o.Equal base.Logical (var h (name (n.Local 0) l.Whole)) (num (pos 3))) s.Exit (block h [] tt)) ∷ []) tt))
    ∷ at h 1 85 true (s.Print (vec h (item.Value (var h (name (n.Local 0) l.Whole)) ∷ []) tt)) ∷ []) tt) (place 1 97))
    (place 1 1)

--     program p; integer :: i; do i = 1, 3; if (i == 1) then; print *, 10; else if (i == 2) then; print *, 20; else; print *, 30; end if; end do; end
abbrev pub usage_62_if_chain : Global → Program
usage_62_if_chain h = program h [] tt
    [] tt
    [] tt
    (procedure h 0 [] tt ((declared h (kind base.Integer 0 false) [] tt [] tt) ∷ []) tt None
    (block h (at h 1 26 true (for h (name (n.Local 0) l.Whole) (kind base.Integer 0 false) (num (pos 1)) (num (pos 3)) (num (pos 1))
    (block h (at h 1 39 true (when h (bin h o.Equal base.Logical (var h (name (n.Local 0) l.Whole)) (num (pos 1)))
    (block h (at h 1 57 true (s.Print (vec h (item.Value (num (pos 10)) ∷ []) tt)) ∷ []) tt)
    (at h 1 70 false (when h (bin h o.Equal base.Logical (var h (name (n.Local 0) l.Whole)) (num (pos 2)))
    (block h (at h 1 93 true (s.Print (vec h (item.Value (num (pos 20)) ∷ []) tt)) ∷ []) tt)
    (block h (at h 1 112 true (s.Print (vec h (item.Value (num (pos 30)) ∷ []) tt)) ∷ []) tt)))) ∷ []) tt)) ∷ []) tt) (place 1 141))
    (place 1 1)

--     program p; integer :: i; do i = 1, 2; if (i .ge. 2) then; print *, 1; elseif (.not. i /= 1) then; print *, 2; endif; enddo; endprogram p
abbrev pub usage_63_if_joined_words : Global → Program
usage_63_if_joined_words h = program h [] tt
    [] tt
    [] tt
    (procedure h 0 [] tt ((declared h (kind base.Integer 0 false) [] tt [] tt) ∷ []) tt None
    (block h (at h 1 26 true (for h (name (n.Local 0) l.Whole) (kind base.Integer 0 false) (num (pos 1)) (num (pos 2)) (num (pos 1))
    (block h (at h 1 39 true (when h (bin h o.GreaterOrEqual base.Logical (var h (name (n.Local 0) l.Whole)) (num (pos 2)))
    (block h (at h 1 59 true (s.Print (vec h (item.Value (num (pos 1)) ∷ []) tt)) ∷ []) tt)
    (at h 1 71 false (when h (unary h c.Not base.Logical (bin h o.NotEqual base.Logical (var h (name (n.Local 0) l.Whole)) (num (pos 1))))
    (block h (at h 1 99 true (s.Print (vec h (item.Value (num (pos 2)) ∷ []) tt)) ∷ []) tt) (block h [] tt)))) ∷ []) tt)) ∷ []) tt) (place 1 125))
    (place 1 1)

--     program p
--     if (.true.) print *, 1 / 0
--     end
abbrev pub usage_64_if_action_place : Global → Program
usage_64_if_action_place h = program h [] tt
    [] tt
    [] tt
    (procedure h 0 [] tt [] tt None (block h (at h 2 1 true (when h (truth true)
    (s.Print (vec h (item.Value (bin h o.Divide base.Integer (num (pos 1)) (num (pos 0))) ∷ []) tt)) (block h [] tt)) ∷ []) tt) (place 3 1))
    (place 1 1)

--     program p; integer :: i; do i = 0, 4; select case (i); case (:0); print *, 1; case (1, 3); print *, 2; case (4:); print *, 3; case default; print *, 4; end select; end do; end
abbrev pub usage_65_case_ranges : Global → Program
usage_65_case_ranges h = program h [] tt
    [] tt
    [] tt
    (procedure h 0 [] tt ((declared h (kind base.Integer 0 false) [] tt [] tt) ∷ []) tt None
    (block h (at h 1 26 true (for h (name (n.Local 0) l.Whole) (kind base.Integer 0 false) (num (pos 0)) (num (pos 4)) (num (pos 1))
    (block h (at h 1 39 true (choose h (var h (name (n.Local 0) l.Whole))
    (case h (range.To (pos 0) ∷ []) tt (block h (at h 1 67 true (s.Print (vec h (item.Value (num (pos 1)) ∷ []) tt)) ∷ []) tt)
    (case h (range.One (constant.Number (pos 1)) ∷ range.One (constant.Number (pos 3)) ∷ []) tt
    (block h (at h 1 92 true (s.Print (vec h (item.Value (num (pos 2)) ∷ []) tt)) ∷ []) tt)
    (case h (range.From (pos 4) ∷ []) tt (block h (at h 1 115 true (s.Print (vec h (item.Value (num (pos 3)) ∷ []) tt)) ∷ []) tt)
    (block h (at h 1 141 true (s.Print (vec h (item.Value (num (pos 4)) ∷ []) tt)) ∷ []) tt))))) ∷ []) tt)) ∷ []) tt) (place 1 173))
    (place 1 1)

--     program p; integer :: i; do i = 1, 2; selectcase (i); case default; print *, 9; case (2); print *, 2; endselect; end do; end
abbrev pub usage_66_case_default_first : Global → Program
usage_66_case_default_first h = program h [] tt
    [] tt
    [] tt
    (procedure h 0 [] tt ((declared h (kind base.Integer 0 false) [] tt [] tt) ∷ []) tt None
    (block h (at h 1 26 true (for h (name (n.Local 0) l.Whole) (kind base.Integer 0 false) (num (pos 1)) (num (pos 2)) (num (pos 1))
    (block h (at h 1 39 true (choose h (var h (name (n.Local 0) l.Whole))
    (case h (range.One (constant.Number (pos 2)) ∷ []) tt (block h (at h 1 91 true (s.Print (vec h (item.Value (num (pos 2)) ∷ []) tt)) ∷ []) tt)
    (block h (at h 1 69 true (s.Print (vec h (item.Value (num (pos 9)) ∷ []) tt)) ∷ []) tt))) ∷ []) tt)) ∷ []) tt) (place 1 122))
    (place 1 1)

--     program p; select case (1 < 2); case (.false.); print *, 0; case (.true.); print *, 1; end select; end
abbrev pub usage_67_case_logical : Global → Program
usage_67_case_logical h = program h [] tt
    [] tt
    [] tt
    (procedure h 0 [] tt [] tt None (block h (at h 1 12 true (choose h (bin h o.Less base.Logical (num (pos 1)) (num (pos 2)))
    (case h (range.One (constant.Truth false) ∷ []) tt (block h (at h 1 49 true (s.Print (vec h (item.Value (num (pos 0)) ∷ []) tt)) ∷ []) tt)
    (case h (range.One (constant.Truth true) ∷ []) tt (block h (at h 1 76 true (s.Print (vec h (item.Value (num (pos 1)) ∷ []) tt)) ∷ []) tt)
    (block h [] tt)))) ∷ []) tt) (place 1 100))
    (place 1 1)

--     program p; select case (5); case (1:4, 6:); print *, 0; end select; print *, 7; end
abbrev pub usage_68_case_none : Global → Program
usage_68_case_none h = program h [] tt
    [] tt
    [] tt
    (procedure h 0 [] tt [] tt None (block h (at h 1 12 true (choose h (num (pos 5))
    (case h (range.Between (pos 1) (pos 4) ∷ range.From (pos 6) ∷ []) tt
    (block h (at h 1 45 true (s.Print (vec h (item.Value (num (pos 0)) ∷ []) tt)) ∷ []) tt) (block h [] tt)))
    ∷ at h 1 69 true (s.Print (vec h (item.Value (num (pos 7)) ∷ []) tt)) ∷ []) tt) (place 1 81))
    (place 1 1)

--     program p; print *, 1; print *, .false. .and. 1 / 0 == 1; end
abbrev pub usage_69_both_operands : Global → Program
usage_69_both_operands h = program h [] tt
    [] tt
    [] tt
    (procedure h 0 [] tt [] tt None (block h (at h 1 12 true (s.Print (vec h (item.Value (num (pos 1)) ∷ []) tt))
    ∷ at h 1 24 true (s.Print (vec h (item.Value (bin h o.And base.Logical (truth false)
    (bin h o.Equal base.Logical (bin h o.Divide base.Integer (num (pos 1)) (num (pos 0))) (num (pos 1)))) ∷ []) tt)) ∷ []) tt) (place 1 59))
    (place 1 1)

abbrev pub usage_54_stop_in_procedure_shows : Global → Type 0
usage_54_stop_in_procedure_shows h = shown (run_of (usage_54_stop_in_procedure h) 2000 granted) ≡ record
    { bytes = (lines (codes " 1" ∷ [])); verdict = Stopped (Some 99999) }

abbrev pub usage_55_do_up_shows : Global → Type 0
usage_55_do_up_shows h = shown (run_of (usage_55_do_up h) 2000 granted) ≡ record
    { bytes = (lines (codes " 1" ∷ codes " 2" ∷ codes " 3" ∷ codes " 4" ∷ [])); verdict = Finished }

abbrev pub usage_56_do_down_shows : Global → Type 0
usage_56_do_down_shows h = shown (run_of (usage_56_do_down h) 2000 granted) ≡ record
    { bytes = (lines (codes " 7" ∷ codes " 4" ∷ codes " 1" ∷ codes " -2" ∷ [])); verdict = Finished }

abbrev pub usage_57_do_past_range_shows : Global → Type 0
usage_57_do_past_range_shows h = shown (run_of (usage_57_do_past_range h) 2000 granted) ≡ record
    { bytes = (lines (codes " 2147483646" ∷ codes " 2147483647" ∷ [])); verdict = Failed 1 2 1 }

abbrev pub usage_58_do_count_fixed_shows : Global → Type 0
usage_58_do_count_fixed_shows h = shown (run_of (usage_58_do_count_fixed h) 2000 granted) ≡ record
    { bytes = (lines (codes " 2" ∷ codes " 3" ∷ codes " 4 1" ∷ [])); verdict = Finished }

abbrev pub usage_59_cycle_exit_shows : Global → Type 0
usage_59_cycle_exit_shows h = shown (run_of (usage_59_cycle_exit h) 2000 granted) ≡ record
    { bytes = (lines (codes " 1" ∷ codes " 3" ∷ codes " 4" ∷ [])); verdict = Finished }

abbrev pub usage_60_do_while_shows : Global → Type 0
usage_60_do_while_shows h = shown (run_of (usage_60_do_while h) 2000 granted) ≡ record { bytes = (lines (codes " 27" ∷ [])); verdict = Finished }

abbrev pub usage_61_exit_inner_shows : Global → Type 0
usage_61_exit_inner_shows h = shown (run_of (usage_61_exit_inner h) 2000 granted) ≡ record { bytes = (lines (codes " 3" ∷ [])); verdict = Finished }

abbrev pub usage_62_if_chain_shows : Global → Type 0
usage_62_if_chain_shows h = shown (run_of (usage_62_if_chain h) 2000 granted) ≡ record
    { bytes = (lines (codes " 10" ∷ codes " 20" ∷ codes " 30" ∷ [])); verdict = Finished }

abbrev pub usage_63_if_joined_words_shows : Global → Type 0
usage_63_if_joined_words_shows h = shown (run_of (usage_63_if_joined_words h) 2000 granted) ≡ record
    { bytes = (lines (codes " 2" ∷ codes " 1" ∷ [])); verdict = Finished }

abbrev pub usage_64_if_action_place_shows : Global → Type 0
usage_64_if_action_place_shows h = shown (run_of (usage_64_if_action_place h) 2000 granted) ≡ record { bytes = (lines []); verdict = Failed 2 2 1 }

abbrev pub usage_65_case_ranges_shows : Global → Type 0
usage_65_case_ranges_shows h = shown (run_of (usage_65_case_ranges h) 2000 granted) ≡ record
    { bytes = (lines (codes " 1" ∷ codes " 2" ∷ codes " 4" ∷ codes " 2" ∷ codes " 3" ∷ [])); verdict = Finished }

abbrev pub usage_66_case_default_first_shows : Global → Type 0
usage_66_case_default_first_shows h = shown (run_of (usage_66_case_default_first h) 2000 granted) ≡ record
    { bytes = (lines (codes " 9" ∷ codes " 2" ∷ [])); verdict = Finished }

abbrev pub usage_67_case_logical_shows : Global → Type 0
usage_67_case_logical_shows h = shown (run_of (usage_67_case_logical h) 2000 granted) ≡ record { bytes = (lines (codes " 1" ∷ [])); verdict = Finished }

abbrev pub usage_68_case_none_shows : Global → Type 0
usage_68_case_none_shows h = shown (run_of (usage_68_case_none h) 2000 granted) ≡ record { bytes = (lines (codes " 7" ∷ [])); verdict = Finished }

abbrev pub usage_69_both_operands_shows : Global → Type 0
usage_69_both_operands_shows h = shown (run_of (usage_69_both_operands h) 2000 granted) ≡ record { bytes = (lines (codes " 1" ∷ [])); verdict = Failed 2 1 24 }

-- These programs print this and end so.
abbrev pub Rows8Show : Type 0
Rows8Show = (h : Global) →
    (IsLawful (usage_54_stop_in_procedure h) × usage_54_stop_in_procedure_shows h)
    × (IsLawful (usage_55_do_up h) × usage_55_do_up_shows h)
    × (IsLawful (usage_56_do_down h) × usage_56_do_down_shows h)
    × (IsLawful (usage_57_do_past_range h) × usage_57_do_past_range_shows h)
    × (IsLawful (usage_58_do_count_fixed h) × usage_58_do_count_fixed_shows h)
    × (IsLawful (usage_59_cycle_exit h) × usage_59_cycle_exit_shows h)
    × (IsLawful (usage_60_do_while h) × usage_60_do_while_shows h)
    × (IsLawful (usage_61_exit_inner h) × usage_61_exit_inner_shows h)
    × (IsLawful (usage_62_if_chain h) × usage_62_if_chain_shows h)
    × (IsLawful (usage_63_if_joined_words h) × usage_63_if_joined_words_shows h)
    × (IsLawful (usage_64_if_action_place h) × usage_64_if_action_place_shows h)
    × (IsLawful (usage_65_case_ranges h) × usage_65_case_ranges_shows h)
    × (IsLawful (usage_66_case_default_first h) × usage_66_case_default_first_shows h)
    × (IsLawful (usage_67_case_logical h) × usage_67_case_logical_shows h)
    × (IsLawful (usage_68_case_none h) × usage_68_case_none_shows h)
    × (IsLawful (usage_69_both_operands h) × usage_69_both_operands_shows h)
