-- Programs, each in the text above it, elaborated, and what they print.
use Rattle.std.specs.Prelude.{◌≡◌, pos, true, false, [], ◌∷◌, None, Some, codes}
use Rattle.std.specs.declared.alloc.Global.{Global}
use Rattle.f3_lookups.specs.declared.lookup.Lookup.TheVariants.{One}
use Rattle.f3_tree.specs.declared.expression.Sign.TheVariants.{Minus}
use Rattle.f3_tree.specs.declared.expression.Relation.TheVariants as r
use Rattle.f3_tree.specs.declared.expression.Operator.TheVariants as o
use Rattle.f3_tree.specs.declared.expression.IntegerKind.TheVariants.{Four}
use Rattle.f3_tree.specs.declared.declaration.TypeSpecifier.TheVariants.{Integer}
use Rattle.f3_tree.specs.declared.program.ProcedureKind.TheVariants.{Subroutine}
use Rattle.f3_tree.specs.declared.program.UnitKind.TheVariants as u
use Rattle.f3_tree.specs.Expressions.{truth, designator, signed, negation, comparison, chain, no_more, more, no_parts, parts}
use Rattle.f3_tree.specs.Expressions.{bare}
use Rattle.f3_tree.specs.Declarations.{declares}
use Rattle.f3_tree.specs.Statements.{assign, call, print, stop, cycle, exit, one, from, up_to, values, default}
use Rattle.f3_tree.specs.Statements.{forever, counted, while, acts, acts_if, branches, selects, repeats, no_statements, statements}
use Rattle.f3_tree.specs.Statements.{no_branches, branch, no_alternative, alternative, no_cases, case_block}
use Rattle.f3_meaning_whole.specs.Run.{run_of}
use Rattle.f3_meaning_rows.specs.Shown.{shown, lines, granted, Finished, Failed, Stopped}
use Rattle.f3_elaboration.specs.Nodes.{ProgramNode}
use Rattle.f3_elaboration.specs.Program.{elaborated}
use Rattle.f3_elaboration_rows.specs.Trees.{at, name, four, entity, declaration, procedure, unit, program, looks}
use Rattle.f3_elaboration_rows.specs.Built.{built}
use Rattle.f3_meaning_whole.specs.Formed.{IsWellFormed}

--     module m; contains; subroutine s(); print *, 1; stop 99999; end; end
--     program p; use m; call s(); print *, 2; end
abbrev pub usage_54_stop_in_procedure_program : ProgramNode
usage_54_stop_in_procedure_program = elaborated
    (program (codes "module" ∷ codes "m" ∷ codes "contains" ∷ codes "subroutine" ∷ codes "s" ∷ codes "print" ∷ codes "stop" ∷ codes "end" ∷
    codes "program" ∷ codes "p" ∷ codes "use" ∷ codes "call" ∷ []) [] ((unit (at 1 1) u.Module (name 1 1 8) [] no_statements ((procedure false
    Subroutine (name 4 1 32) [] [] (statements (acts (at 1 37) (print ((four (at 1 46) 1) ∷ []))) (statements (acts (at 1 49) (stop (Some (pos
    99999)))) no_statements)) (at 1 61)) ∷ []) (at 1 66)) ∷ (unit (at 2 1) u.Program (name 9 2 9) [] (statements (acts (at 2 19) (call (name 4 2 24)
    [])) (statements (acts (at 2 29) (print ((four (at 2 38) 2) ∷ []))) no_statements)) [] (at 2 41)) ∷ [])) (looks (((4, One 0) ∷ []) ∷ ((4, One 0)
    ∷ []) ∷ ((4, One 0) ∷ []) ∷ [])) (0 ∷ 1 ∷ [])

abbrev pub usage_54_stop_in_procedure_formed : Global → Type 0
usage_54_stop_in_procedure_formed h = IsWellFormed (built h usage_54_stop_in_procedure_program)

abbrev pub usage_54_stop_in_procedure_shows : Global → Type 0
usage_54_stop_in_procedure_shows h =
    shown (run_of (built h usage_54_stop_in_procedure_program) 2000 granted) ≡ record {
      bytes = lines (codes " 1" ∷ []);
      verdict = Stopped (Some
          99999);
    }

--     program p; integer :: i; do i = 1, 3; print *, i; end do; print *, i; end
abbrev pub usage_55_do_up_program : ProgramNode
usage_55_do_up_program = elaborated
    (program (codes "program" ∷ codes "p" ∷ codes "integer" ∷ codes "i" ∷ codes "do" ∷ codes "print" ∷ codes "end" ∷ []) [] ((unit (at 1 1) u.Program
    (name 1 1 9) ((declares (declaration (Integer Four) [] ((entity (name 3 1 23) None None) ∷ []))) ∷ []) (statements (repeats (at 1 26) (counted
    (name 3 1 29) (four (at 1 33) 1) (four (at 1 36) 3) None) (statements (acts (at 1 39) (print ((designator (parts (name 3 1 48) bare no_parts)) ∷
    []))) no_statements)) (statements (acts (at 1 59) (print ((designator (parts (name 3 1 68) bare no_parts)) ∷ []))) no_statements)) [] (at 1 71))
    ∷ [])) (looks (((3, One 0) ∷ []) ∷ [])) (0 ∷ [])

abbrev pub usage_55_do_up_formed : Global → Type 0
usage_55_do_up_formed h = IsWellFormed (built h usage_55_do_up_program)

abbrev pub usage_55_do_up_shows : Global → Type 0
usage_55_do_up_shows h =
    shown (run_of (built h usage_55_do_up_program) 2000 granted) ≡ record {
      bytes = lines (codes " 1" ∷ codes " 2" ∷ codes " 3" ∷ codes " 4" ∷ []);
      verdict = Finished;
    }

--     program p; integer :: i; do i = 7, 0, -3; print *, i; enddo; print *, i; end
abbrev pub usage_56_do_down_program : ProgramNode
usage_56_do_down_program = elaborated
    (program (codes "program" ∷ codes "p" ∷ codes "integer" ∷ codes "i" ∷ codes "do" ∷ codes "print" ∷ codes "enddo" ∷ codes "end" ∷ []) [] ((unit
    (at 1 1) u.Program (name 1 1 9) ((declares (declaration (Integer Four) [] ((entity (name 3 1 23) None None) ∷ []))) ∷ []) (statements (repeats
    (at 1 26) (counted (name 3 1 29) (four (at 1 33) 7) (four (at 1 36) 0) (Some (signed (at 1 39) Minus (four (at 1 40) 3)))) (statements (acts (at
    1 43) (print ((designator (parts (name 3 1 52) bare no_parts)) ∷ []))) no_statements)) (statements (acts (at 1 62) (print ((designator (parts
    (name 3 1 71) bare no_parts)) ∷ []))) no_statements)) [] (at 1 74)) ∷ [])) (looks (((3, One 0) ∷ []) ∷ [])) (0 ∷ [])

abbrev pub usage_56_do_down_formed : Global → Type 0
usage_56_do_down_formed h = IsWellFormed (built h usage_56_do_down_program)

abbrev pub usage_56_do_down_shows : Global → Type 0
usage_56_do_down_shows h =
    shown (run_of (built h usage_56_do_down_program) 2000 granted) ≡ record {
      bytes = lines (codes " 7" ∷ codes " 4" ∷ codes " 1" ∷ codes " -2" ∷
          []);
      verdict = Finished;
    }

--     program p; integer :: i
--     do i = 2147483646, 2147483647; print *, i; end do; end
abbrev pub usage_57_do_past_range_program : ProgramNode
usage_57_do_past_range_program = elaborated
    (program (codes "program" ∷ codes "p" ∷ codes "integer" ∷ codes "i" ∷ codes "do" ∷ codes "print" ∷ codes "end" ∷ []) [] ((unit (at 1 1) u.Program
    (name 1 1 9) ((declares (declaration (Integer Four) [] ((entity (name 3 1 23) None None) ∷ []))) ∷ []) (statements (repeats (at 2 1) (counted
    (name 3 2 4) (four (at 2 8) 2147483646) (four (at 2 20) 2147483647) None) (statements (acts (at 2 32) (print ((designator (parts (name 3 2 41)
    bare no_parts)) ∷ []))) no_statements)) no_statements) [] (at 2 52)) ∷ [])) (looks (((3, One 0) ∷ []) ∷ [])) (0 ∷ [])

abbrev pub usage_57_do_past_range_formed : Global → Type 0
usage_57_do_past_range_formed h = IsWellFormed (built h usage_57_do_past_range_program)

abbrev pub usage_57_do_past_range_shows : Global → Type 0
usage_57_do_past_range_shows h =
    shown (run_of (built h usage_57_do_past_range_program) 2000 granted) ≡ record {
      bytes = lines (codes " 2147483646" ∷ codes " 2147483647" ∷ []);
      verdict = Failed 1 2 1;
    }

--     program p; integer :: i, n; n = 3; i = 2; do i = i, n; n = 1; print *, i; end do; print *, i, n; end
abbrev pub usage_58_do_count_fixed_program : ProgramNode
usage_58_do_count_fixed_program = elaborated
    (program (codes "program" ∷ codes "p" ∷ codes "integer" ∷ codes "i" ∷ codes "n" ∷ codes "do" ∷ codes "print" ∷ codes "end" ∷ []) [] ((unit (at 1
    1) u.Program (name 1 1 9) ((declares (declaration (Integer Four) [] ((entity (name 3 1 23) None None) ∷ (entity (name 4 1 26) None None) ∷ [])))
    ∷ []) (statements (acts (at 1 29) (assign (parts (name 4 1 29) bare no_parts) (four (at 1 33) 3))) (statements (acts (at 1 36) (assign (parts
    (name 3 1 36) bare no_parts) (four (at 1 40) 2))) (statements (repeats (at 1 43) (counted (name 3 1 46) (designator (parts (name 3 1 50) bare
    no_parts)) (designator (parts (name 4 1 53) bare no_parts)) None) (statements (acts (at 1 56) (assign (parts (name 4 1 56) bare no_parts) (four
    (at 1 60) 1))) (statements (acts (at 1 63) (print ((designator (parts (name 3 1 72) bare no_parts)) ∷ []))) no_statements))) (statements (acts
    (at 1 83) (print ((designator (parts (name 3 1 92) bare no_parts)) ∷ (designator (parts (name 4 1 95) bare no_parts)) ∷ []))) no_statements))))
    [] (at 1 98)) ∷ [])) (looks (((3, One 0) ∷ (4, One 1) ∷ []) ∷ [])) (0 ∷ [])

abbrev pub usage_58_do_count_fixed_formed : Global → Type 0
usage_58_do_count_fixed_formed h = IsWellFormed (built h usage_58_do_count_fixed_program)

abbrev pub usage_58_do_count_fixed_shows : Global → Type 0
usage_58_do_count_fixed_shows h =
    shown (run_of (built h usage_58_do_count_fixed_program) 2000 granted) ≡ record {
      bytes = lines (codes " 2" ∷ codes " 3" ∷ codes " 4 1" ∷ []);
      verdict = Finished;
    }

--     program p; integer :: i; do i = 1, 10; if (i == 2) cycle; if (i == 4) exit; print *, i; end do; print *, i; end
abbrev pub usage_59_cycle_exit_program : ProgramNode
usage_59_cycle_exit_program = elaborated
    (program (codes "program" ∷ codes "p" ∷ codes "integer" ∷ codes "i" ∷ codes "do" ∷ codes "if" ∷ codes "cycle" ∷ codes "exit" ∷ codes "print" ∷
    codes "end" ∷ []) [] ((unit (at 1 1) u.Program (name 1 1 9) ((declares (declaration (Integer Four) [] ((entity (name 3 1 23) None None) ∷ []))) ∷
    []) (statements (repeats (at 1 26) (counted (name 3 1 29) (four (at 1 33) 1) (four (at 1 36) 10) None) (statements (acts_if (at 1 40) (comparison
    (designator (parts (name 3 1 44) bare no_parts)) r.Equal (four (at 1 49) 2)) (at 1 52) cycle) (statements (acts_if (at 1 59) (comparison
    (designator (parts (name 3 1 63) bare no_parts)) r.Equal (four (at 1 68) 4)) (at 1 71) exit) (statements (acts (at 1 77) (print ((designator
    (parts (name 3 1 86) bare no_parts)) ∷ []))) no_statements)))) (statements (acts (at 1 97) (print ((designator (parts (name 3 1 106) bare
    no_parts)) ∷ []))) no_statements)) [] (at 1 109)) ∷ [])) (looks (((3, One 0) ∷ []) ∷ [])) (0 ∷ [])

abbrev pub usage_59_cycle_exit_formed : Global → Type 0
usage_59_cycle_exit_formed h = IsWellFormed (built h usage_59_cycle_exit_program)

abbrev pub usage_59_cycle_exit_shows : Global → Type 0
usage_59_cycle_exit_shows h =
    shown (run_of (built h usage_59_cycle_exit_program) 2000 granted) ≡ record {
      bytes = lines (codes " 1" ∷ codes " 3" ∷ codes " 4" ∷ []);
      verdict =
          Finished;
    }

--     program p; integer :: i; i = 1; do while (i < 20); i = i * 3; end do; print *, i; end
abbrev pub usage_60_do_while_program : ProgramNode
usage_60_do_while_program = elaborated
    (program (codes "program" ∷ codes "p" ∷ codes "integer" ∷ codes "i" ∷ codes "do" ∷ codes "while" ∷ codes "end" ∷ codes "print" ∷ []) [] ((unit
    (at 1 1) u.Program (name 1 1 9) ((declares (declaration (Integer Four) [] ((entity (name 3 1 23) None None) ∷ []))) ∷ []) (statements (acts (at 1
    26) (assign (parts (name 3 1 26) bare no_parts) (four (at 1 30) 1))) (statements (repeats (at 1 33) (while (comparison (designator (parts (name 3
    1 43) bare no_parts)) r.Less (four (at 1 47) 20))) (statements (acts (at 1 52) (assign (parts (name 3 1 52) bare no_parts) (chain (designator
    (parts (name 3 1 56) bare no_parts)) (more o.Multiply (four (at 1 60) 3) no_more)))) no_statements)) (statements (acts (at 1 71) (print
    ((designator (parts (name 3 1 80) bare no_parts)) ∷ []))) no_statements))) [] (at 1 83)) ∷ [])) (looks (((3, One 0) ∷ []) ∷ [])) (0 ∷ [])

abbrev pub usage_60_do_while_formed : Global → Type 0
usage_60_do_while_formed h = IsWellFormed (built h usage_60_do_while_program)

abbrev pub usage_60_do_while_shows : Global → Type 0
usage_60_do_while_shows h =
    shown (run_of (built h usage_60_do_while_program) 2000 granted) ≡ record { bytes = lines (codes " 27" ∷ []); verdict = Finished }

--     program p; integer :: n; do; n = n + 1; do; exit; end do; if (n == 3) exit; end do; print *, n; end
abbrev pub usage_61_exit_inner_program : ProgramNode
usage_61_exit_inner_program = elaborated
    (program (codes "program" ∷ codes "p" ∷ codes "integer" ∷ codes "n" ∷ codes "do" ∷ codes "exit" ∷ codes "end" ∷ codes "if" ∷ codes "print" ∷ [])
    [] ((unit (at 1 1) u.Program (name 1 1 9) ((declares (declaration (Integer Four) [] ((entity (name 3 1 23) None None) ∷ []))) ∷ []) (statements
    (repeats (at 1 26) forever (statements (acts (at 1 30) (assign (parts (name 3 1 30) bare no_parts) (chain (designator (parts (name 3 1 34) bare
    no_parts)) (more o.Add (four (at 1 38) 1) no_more)))) (statements (repeats (at 1 41) forever (statements (acts (at 1 45) exit) no_statements))
    (statements (acts_if (at 1 59) (comparison (designator (parts (name 3 1 63) bare no_parts)) r.Equal (four (at 1 68) 3)) (at 1 71) exit)
    no_statements)))) (statements (acts (at 1 85) (print ((designator (parts (name 3 1 94) bare no_parts)) ∷ []))) no_statements)) [] (at 1 97)) ∷
    [])) (looks (((3, One 0) ∷ []) ∷ [])) (0 ∷ [])

abbrev pub usage_61_exit_inner_formed : Global → Type 0
usage_61_exit_inner_formed h = IsWellFormed (built h usage_61_exit_inner_program)

abbrev pub usage_61_exit_inner_shows : Global → Type 0
usage_61_exit_inner_shows h =
    shown (run_of (built h usage_61_exit_inner_program) 2000 granted) ≡ record { bytes = lines (codes " 3" ∷ []); verdict = Finished }

--     program p; integer :: i; do i = 1, 3; if (i == 1) then; print *, 10; else if (i == 2) then; print *, 20; else; print *, 30; end if; end do; end
abbrev pub usage_62_if_chain_program : ProgramNode
usage_62_if_chain_program = elaborated
    (program (codes "program" ∷ codes "p" ∷ codes "integer" ∷ codes "i" ∷ codes "do" ∷ codes "if" ∷ codes "then" ∷ codes "print" ∷ codes "else" ∷
    codes "end" ∷ []) [] ((unit (at 1 1) u.Program (name 1 1 9) ((declares (declaration (Integer Four) [] ((entity (name 3 1 23) None None) ∷ []))) ∷
    []) (statements (repeats (at 1 26) (counted (name 3 1 29) (four (at 1 33) 1) (four (at 1 36) 3) None) (statements (branches (branch (at 1 39)
    (comparison (designator (parts (name 3 1 43) bare no_parts)) r.Equal (four (at 1 48) 1)) (statements (acts (at 1 57) (print ((four (at 1 66) 10)
    ∷ []))) no_statements) (branch (at 1 70) (comparison (designator (parts (name 3 1 79) bare no_parts)) r.Equal (four (at 1 84) 2)) (statements
    (acts (at 1 93) (print ((four (at 1 102) 20) ∷ []))) no_statements) no_branches)) (alternative (statements (acts (at 1 112) (print ((four (at 1
    121) 30) ∷ []))) no_statements))) no_statements)) no_statements) [] (at 1 141)) ∷ [])) (looks (((3, One 0) ∷ []) ∷ [])) (0 ∷ [])

abbrev pub usage_62_if_chain_formed : Global → Type 0
usage_62_if_chain_formed h = IsWellFormed (built h usage_62_if_chain_program)

abbrev pub usage_62_if_chain_shows : Global → Type 0
usage_62_if_chain_shows h =
    shown (run_of (built h usage_62_if_chain_program) 2000 granted) ≡ record {
      bytes = lines (codes " 10" ∷ codes " 20" ∷ codes " 30" ∷ []);
      verdict
          = Finished;
    }

--     program p; integer :: i; do i = 1, 2; if (i .ge. 2) then; print *, 1; elseif (.not. i /= 1) then; print *, 2; endif; enddo; endprogram p
abbrev pub usage_63_if_joined_words_program : ProgramNode
usage_63_if_joined_words_program = elaborated
    (program (codes "program" ∷ codes "p" ∷ codes "integer" ∷ codes "i" ∷ codes "do" ∷ codes "if" ∷ codes "then" ∷ codes "print" ∷ codes "elseif" ∷
    codes "endif" ∷ codes "enddo" ∷ codes "endprogram" ∷ []) [] ((unit (at 1 1) u.Program (name 1 1 9) ((declares (declaration (Integer Four) []
    ((entity (name 3 1 23) None None) ∷ []))) ∷ []) (statements (repeats (at 1 26) (counted (name 3 1 29) (four (at 1 33) 1) (four (at 1 36) 2) None)
    (statements (branches (branch (at 1 39) (comparison (designator (parts (name 3 1 43) bare no_parts)) r.GreaterOrEqual (four (at 1 50) 2))
    (statements (acts (at 1 59) (print ((four (at 1 68) 1) ∷ []))) no_statements) (branch (at 1 71) (negation (at 1 79) (comparison (designator
    (parts (name 3 1 85) bare no_parts)) r.NotEqual (four (at 1 90) 1))) (statements (acts (at 1 99) (print ((four (at 1 108) 2) ∷ [])))
    no_statements) no_branches)) no_alternative) no_statements)) no_statements) [] (at 1 125)) ∷ [])) (looks (((3, One 0) ∷ []) ∷ [])) (0 ∷ [])

abbrev pub usage_63_if_joined_words_formed : Global → Type 0
usage_63_if_joined_words_formed h = IsWellFormed (built h usage_63_if_joined_words_program)

abbrev pub usage_63_if_joined_words_shows : Global → Type 0
usage_63_if_joined_words_shows h =
    shown (run_of (built h usage_63_if_joined_words_program) 2000 granted) ≡ record {
      bytes = lines (codes " 2" ∷ codes " 1" ∷ []);
      verdict =
          Finished;
    }

--     program p
--     if (.true.) print *, 1 / 0
--     end
abbrev pub usage_64_if_action_place_program : ProgramNode
usage_64_if_action_place_program = elaborated
    (program (codes "program" ∷ codes "p" ∷ codes "if" ∷ codes "print" ∷ codes "end" ∷ []) [] ((unit (at 1 1) u.Program (name 1 1 9) [] (statements
    (acts_if (at 2 1) (truth (at 2 5) true) (at 2 13) (print ((chain (four (at 2 22) 1) (more o.Divide (four (at 2 26) 0) no_more)) ∷ [])))
    no_statements) [] (at 3 1)) ∷ [])) (looks ([] ∷ [])) (0 ∷ [])

abbrev pub usage_64_if_action_place_formed : Global → Type 0
usage_64_if_action_place_formed h = IsWellFormed (built h usage_64_if_action_place_program)

abbrev pub usage_64_if_action_place_shows : Global → Type 0
usage_64_if_action_place_shows h =
    shown (run_of (built h usage_64_if_action_place_program) 2000 granted) ≡ record { bytes = lines []; verdict = Failed 2 2 1 }

--     program p; integer :: i; do i = 0, 4; select case (i); case (:0); print *, 1; case (1, 3); print *, 2; case (4:); print *, 3; case default; print *, 4; end select; end do; end
abbrev pub usage_65_case_ranges_program : ProgramNode
usage_65_case_ranges_program = elaborated
    (program (codes "program" ∷ codes "p" ∷ codes "integer" ∷ codes "i" ∷ codes "do" ∷ codes "select" ∷ codes "case" ∷ codes "print" ∷
    codes "default" ∷ codes "end" ∷ []) [] ((unit (at 1 1) u.Program (name 1 1 9) ((declares (declaration (Integer Four) [] ((entity (name 3 1 23)
    None None) ∷ []))) ∷ []) (statements (repeats (at 1 26) (counted (name 3 1 29) (four (at 1 33) 0) (four (at 1 36) 4) None) (statements (selects
    (at 1 39) (designator (parts (name 3 1 52) bare no_parts)) (case_block (at 1 56) (values ((up_to (at 1 62) (four (at 1 63) 0)) ∷ [])) (statements
    (acts (at 1 67) (print ((four (at 1 76) 1) ∷ []))) no_statements) (case_block (at 1 79) (values ((one (four (at 1 85) 1)) ∷ (one (four (at 1 88)
    3)) ∷ [])) (statements (acts (at 1 92) (print ((four (at 1 101) 2) ∷ []))) no_statements) (case_block (at 1 104) (values ((from (four (at 1 110)
    4)) ∷ [])) (statements (acts (at 1 115) (print ((four (at 1 124) 3) ∷ []))) no_statements) (case_block (at 1 127) default (statements (acts (at 1
    141) (print ((four (at 1 150) 4) ∷ []))) no_statements) no_cases))))) no_statements)) no_statements) [] (at 1 173)) ∷ [])) (looks (((3, One 0) ∷
    []) ∷ [])) (0 ∷ [])

abbrev pub usage_65_case_ranges_formed : Global → Type 0
usage_65_case_ranges_formed h = IsWellFormed (built h usage_65_case_ranges_program)

abbrev pub usage_65_case_ranges_shows : Global → Type 0
usage_65_case_ranges_shows h =
    shown (run_of (built h usage_65_case_ranges_program) 2000 granted) ≡ record {
      bytes = lines (codes " 1" ∷ codes " 2" ∷ codes " 4" ∷ codes " 2" ∷
          codes " 3" ∷ []);
      verdict = Finished;
    }

-- These programs make sense, print this and end so.
abbrev pub Meant7Show : Type 0
Meant7Show = (h : Global) →
    usage_54_stop_in_procedure_formed h
    × usage_54_stop_in_procedure_shows h
    × usage_55_do_up_formed h
    × usage_55_do_up_shows h
    × usage_56_do_down_formed h
    × usage_56_do_down_shows h
    × usage_57_do_past_range_formed h
    × usage_57_do_past_range_shows h
    × usage_58_do_count_fixed_formed h
    × usage_58_do_count_fixed_shows h
    × usage_59_cycle_exit_formed h
    × usage_59_cycle_exit_shows h
    × usage_60_do_while_formed h
    × usage_60_do_while_shows h
    × usage_61_exit_inner_formed h
    × usage_61_exit_inner_shows h
    × usage_62_if_chain_formed h
    × usage_62_if_chain_shows h
    × usage_63_if_joined_words_formed h
    × usage_63_if_joined_words_shows h
    × usage_64_if_action_place_formed h
    × usage_64_if_action_place_shows h
    × usage_65_case_ranges_formed h
    × usage_65_case_ranges_shows h
