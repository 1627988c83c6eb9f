-- Programs, each in the text above it, elaborated, and what they print.
use Rattle.std.specs.Prelude.{◌≡◌, pos, false, [], ◌∷◌, None, Some, codes}
use Rattle.std.specs.declared.alloc.Global.{Global}
use Rattle.f3_lookups.specs.declared.lookup.Lookup.TheVariants.{One}
use Rattle.f3_tree.specs.declared.expression.IntegerKind.TheVariants.{Four}
use Rattle.f3_tree.specs.declared.declaration.TypeSpecifier.TheVariants.{Integer}
use Rattle.f3_tree.specs.declared.program.ProcedureKind.TheVariants.{Function}
use Rattle.f3_tree.specs.declared.program.UnitKind.TheVariants as u
use Rattle.f3_tree.specs.Expressions.{designator, no_parts, parts}
use Rattle.f3_tree.specs.Expressions.{bare, within, no_arguments, arguments, value, triplet, absent, present}
use Rattle.f3_tree.specs.Declarations.{explicit, deferred, allocatable, declares}
use Rattle.f3_tree.specs.Statements.{assign, allocate, print, stop}
use Rattle.f3_tree.specs.Statements.{acts, no_statements, statements}
use Rattle.f3_meaning_whole.specs.Run.{run_of}
use Rattle.f3_meaning_rows.specs.Shown.{shown, lines, granted, Finished, Failed, Stopped}
use Rattle.f3_elaboration.specs.Nodes.{ProgramNode}
use Rattle.f3_elaboration.specs.Program.{elaborated}
use Rattle.f3_elaboration_rows.specs.Trees.{at, name, four, eight, bounds, entity, declaration, procedure, unit, program, looks}
use Rattle.f3_elaboration_rows.specs.Built.{built}
use Rattle.f3_meaning_whole.specs.Formed.{IsWellFormed}

--     program p; use m; integer, allocatable :: a(:); a = f(); print *, lbound(a,1); end
--     module m; contains; function f(); integer, allocatable :: f(:); allocate(f(5:6)); f = 1; end; end
abbrev pub choice_64_1_program : ProgramNode
choice_64_1_program = elaborated
    (program (codes "program" ∷ codes "p" ∷ codes "use" ∷ codes "m" ∷ codes "integer" ∷ codes "allocatable" ∷ codes "a" ∷ codes "f" ∷ codes "print" ∷
    codes "lbound" ∷ codes "end" ∷ codes "module" ∷ codes "contains" ∷ codes "function" ∷ codes "allocate" ∷ []) [] ((unit (at 1 1) u.Program (name 1
    1 9) ((declares (declaration (Integer Four) (allocatable ∷ []) ((entity (name 6 1 43) (Some (deferred (None ∷ []))) None) ∷ []))) ∷ [])
    (statements (acts (at 1 49) (assign (parts (name 6 1 49) bare no_parts) (designator (parts (name 7 1 53) (within no_arguments) no_parts))))
    (statements (acts (at 1 58) (print ((designator (parts (name 9 1 67) (within (arguments (value None (designator (parts (name 6 1 74) bare
    no_parts))) (arguments (value None (four (at 1 76) 1)) no_arguments))) no_parts)) ∷ []))) no_statements)) [] (at 1 80)) ∷ (unit (at 2 1) u.Module
    (name 3 2 8) [] no_statements ((procedure false (Function None None) (name 7 2 30) [] ((declares (declaration (Integer Four) (allocatable ∷ [])
    ((entity (name 7 2 59) (Some (deferred (None ∷ []))) None) ∷ []))) ∷ []) (statements (acts (at 2 65) (allocate ((parts (name 7 2 74) (within
    (arguments (triplet (at 2 76) (present (four (at 2 76) 5)) (present (four (at 2 78) 6)) absent) no_arguments)) no_parts) ∷ []) None)) (statements
    (acts (at 2 83) (assign (parts (name 7 2 83) bare no_parts) (four (at 2 87) 1))) no_statements)) (at 2 90)) ∷ []) (at 2 95)) ∷ [])) (looks (((
      6,
      One 0,
    ) ∷ (7, One 1) ∷ []) ∷ ((7, One 1) ∷ []) ∷ ((7, One 2) ∷ []) ∷ [])) (1 ∷ 0 ∷ [])

abbrev pub choice_64_1_formed : Global → Type 0
choice_64_1_formed h = IsWellFormed (built h choice_64_1_program)

abbrev pub choice_64_1_shows : Global → Type 0
choice_64_1_shows h =
    shown (run_of (built h choice_64_1_program) 2000 granted) ≡ record { bytes = lines (codes " 1" ∷ []); verdict = Finished }

--     program p; stop 00; end
abbrev pub choice_67_1_program : ProgramNode
choice_67_1_program = elaborated
    (program (codes "program" ∷ codes "p" ∷ codes "stop" ∷ codes "end" ∷ []) [] ((unit (at 1 1) u.Program (name 1 1 9) [] (statements (acts (at 1 12)
    (stop (Some (pos 0)))) no_statements) [] (at 1 21)) ∷ [])) (looks ([] ∷ [])) (0 ∷ [])

abbrev pub choice_67_1_formed : Global → Type 0
choice_67_1_formed h = IsWellFormed (built h choice_67_1_program)

abbrev pub choice_67_1_shows : Global → Type 0
choice_67_1_shows h =
    shown (run_of (built h choice_67_1_program) 2000 granted) ≡ record { bytes = lines []; verdict = Stopped (Some 0) }

--     program p; integer :: k(0); k = 3000000000_8; end
abbrev pub choice_79_1_program : ProgramNode
choice_79_1_program = elaborated
    (program (codes "program" ∷ codes "p" ∷ codes "integer" ∷ codes "k" ∷ codes "end" ∷ []) [] ((unit (at 1 1) u.Program (name 1 1 9) ((declares
    (declaration (Integer Four) [] ((entity (name 3 1 23) (Some (explicit ((bounds None (four (at 1 25) 0)) ∷ []))) None) ∷ []))) ∷ []) (statements
    (acts (at 1 29) (assign (parts (name 3 1 29) bare no_parts) (eight (at 1 33) 3000000000))) no_statements) [] (at 1 47)) ∷ [])) (looks (((
      3,
      One
          0,
    ) ∷ []) ∷ [])) (0 ∷ [])

abbrev pub choice_79_1_formed : Global → Type 0
choice_79_1_formed h = IsWellFormed (built h choice_79_1_program)

abbrev pub choice_79_1_shows : Global → Type 0
choice_79_1_shows h =
    shown (run_of (built h choice_79_1_program) 2000 granted) ≡ record { bytes = lines []; verdict = Failed 1 1 29 }

--     module m; integer :: n = 1; end
--     program p; use m; print *, n; end
abbrev pub scalar_02_print_program : ProgramNode
scalar_02_print_program = elaborated
    (program (codes "module" ∷ codes "m" ∷ codes "integer" ∷ codes "n" ∷ codes "end" ∷ codes "program" ∷ codes "p" ∷ codes "use" ∷ codes "print" ∷
    []) [] ((unit (at 1 1) u.Module (name 1 1 8) ((declares (declaration (Integer Four) [] ((entity (name 3 1 22) None (Some (four (at 1 26) 1))) ∷
    []))) ∷ []) no_statements [] (at 1 29)) ∷ (unit (at 2 1) u.Program (name 6 2 9) [] (statements (acts (at 2 19) (print ((designator (parts (name 3
    2 28) bare no_parts)) ∷ []))) no_statements) [] (at 2 31)) ∷ [])) (looks (((3, One 0) ∷ []) ∷ ((3, One 0) ∷ []) ∷ [])) (0 ∷ 1 ∷ [])

abbrev pub scalar_02_print_formed : Global → Type 0
scalar_02_print_formed h = IsWellFormed (built h scalar_02_print_program)

abbrev pub scalar_02_print_shows : Global → Type 0
scalar_02_print_shows h =
    shown (run_of (built h scalar_02_print_program) 2000 granted) ≡ record { bytes = lines (codes " 1" ∷ []); verdict = Finished }

--     program p; integer :: if; if = 3; print *, if; end
abbrev pub text_02_variable_if_program : ProgramNode
text_02_variable_if_program = elaborated
    (program (codes "program" ∷ codes "p" ∷ codes "integer" ∷ codes "if" ∷ codes "print" ∷ codes "end" ∷ []) [] ((unit (at 1 1) u.Program (name 1 1
    9) ((declares (declaration (Integer Four) [] ((entity (name 3 1 23) None None) ∷ []))) ∷ []) (statements (acts (at 1 27) (assign (parts (name 3 1
    27) bare no_parts) (four (at 1 32) 3))) (statements (acts (at 1 35) (print ((designator (parts (name 3 1 44) bare no_parts)) ∷ [])))
    no_statements)) [] (at 1 48)) ∷ [])) (looks (((3, One 0) ∷ []) ∷ [])) (0 ∷ [])

abbrev pub text_02_variable_if_formed : Global → Type 0
text_02_variable_if_formed h = IsWellFormed (built h text_02_variable_if_program)

abbrev pub text_02_variable_if_shows : Global → Type 0
text_02_variable_if_shows h =
    shown (run_of (built h text_02_variable_if_program) 2000 granted) ≡ record { bytes = lines (codes " 3" ∷ []); verdict = Finished }

--     ;; program p;; print *, 1 ;; end ;
abbrev pub usage_45_empty_statements_program : ProgramNode
usage_45_empty_statements_program = elaborated
    (program (codes "program" ∷ codes "p" ∷ codes "print" ∷ codes "end" ∷ []) [] ((unit (at 1 4) u.Program (name 1 1 12) [] (statements (acts (at 1
    16) (print ((four (at 1 25) 1) ∷ []))) no_statements) [] (at 1 30)) ∷ [])) (looks ([] ∷ [])) (0 ∷ [])

abbrev pub usage_45_empty_statements_formed : Global → Type 0
usage_45_empty_statements_formed h = IsWellFormed (built h usage_45_empty_statements_program)

abbrev pub usage_45_empty_statements_shows : Global → Type 0
usage_45_empty_statements_shows h =
    shown (run_of (built h usage_45_empty_statements_program) 2000 granted) ≡ record { bytes = lines (codes " 1" ∷ []); verdict = Finished }

--     Program Main; Integer :: Abc = 2; PRINT *, aBC; End Program MAIN
abbrev pub usage_46_letter_case_program : ProgramNode
usage_46_letter_case_program = elaborated
    (program (codes "program" ∷ codes "main" ∷ codes "integer" ∷ codes "abc" ∷ codes "print" ∷ codes "end" ∷ []) [] ((unit (at 1 1) u.Program (name 1
    1 9) ((declares (declaration (Integer Four) [] ((entity (name 3 1 26) None (Some (four (at 1 32) 2))) ∷ []))) ∷ []) (statements (acts (at 1 35)
    (print ((designator (parts (name 3 1 44) bare no_parts)) ∷ []))) no_statements) [] (at 1 49)) ∷ [])) (looks (((3, One 0) ∷ []) ∷ [])) (0 ∷ [])

abbrev pub usage_46_letter_case_formed : Global → Type 0
usage_46_letter_case_formed h = IsWellFormed (built h usage_46_letter_case_program)

abbrev pub usage_46_letter_case_shows : Global → Type 0
usage_46_letter_case_shows h =
    shown (run_of (built h usage_46_letter_case_program) 2000 granted) ≡ record { bytes = lines (codes " 2" ∷ []); verdict = Finished }

--     program p; print *; print *, 1, 2; end
abbrev pub usage_47_empty_print_program : ProgramNode
usage_47_empty_print_program = elaborated
    (program (codes "program" ∷ codes "p" ∷ codes "print" ∷ codes "end" ∷ []) [] ((unit (at 1 1) u.Program (name 1 1 9) [] (statements (acts (at 1
    12) (print [])) (statements (acts (at 1 21) (print ((four (at 1 30) 1) ∷ (four (at 1 33) 2) ∷ []))) no_statements)) [] (at 1 36)) ∷ [])) (looks
    ([] ∷ [])) (0 ∷ [])

abbrev pub usage_47_empty_print_formed : Global → Type 0
usage_47_empty_print_formed h = IsWellFormed (built h usage_47_empty_print_program)

abbrev pub usage_47_empty_print_shows : Global → Type 0
usage_47_empty_print_shows h =
    shown (run_of (built h usage_47_empty_print_program) 2000 granted) ≡ record { bytes = lines (codes "" ∷ codes " 1 2" ∷ []); verdict = Finished }

--     program p; print *, 1; stop; print *, 2; end
abbrev pub usage_49_stop_plain_program : ProgramNode
usage_49_stop_plain_program = elaborated
    (program (codes "program" ∷ codes "p" ∷ codes "print" ∷ codes "stop" ∷ codes "end" ∷ []) [] ((unit (at 1 1) u.Program (name 1 1 9) [] (statements
    (acts (at 1 12) (print ((four (at 1 21) 1) ∷ []))) (statements (acts (at 1 24) (stop None)) (statements (acts (at 1 30) (print ((four (at 1 39)
    2) ∷ []))) no_statements))) [] (at 1 42)) ∷ [])) (looks ([] ∷ [])) (0 ∷ [])

abbrev pub usage_49_stop_plain_formed : Global → Type 0
usage_49_stop_plain_formed h = IsWellFormed (built h usage_49_stop_plain_program)

abbrev pub usage_49_stop_plain_shows : Global → Type 0
usage_49_stop_plain_shows h =
    shown (run_of (built h usage_49_stop_plain_program) 2000 granted) ≡ record { bytes = lines (codes " 1" ∷ []); verdict = Stopped None }

--     program p; print *, 1; stop 7; end
abbrev pub usage_50_stop_7_program : ProgramNode
usage_50_stop_7_program = elaborated
    (program (codes "program" ∷ codes "p" ∷ codes "print" ∷ codes "stop" ∷ codes "end" ∷ []) [] ((unit (at 1 1) u.Program (name 1 1 9) [] (statements
    (acts (at 1 12) (print ((four (at 1 21) 1) ∷ []))) (statements (acts (at 1 24) (stop (Some (pos 7)))) no_statements)) [] (at 1 32)) ∷ [])) (looks
    ([] ∷ [])) (0 ∷ [])

abbrev pub usage_50_stop_7_formed : Global → Type 0
usage_50_stop_7_formed h = IsWellFormed (built h usage_50_stop_7_program)

abbrev pub usage_50_stop_7_shows : Global → Type 0
usage_50_stop_7_shows h =
    shown (run_of (built h usage_50_stop_7_program) 2000 granted) ≡ record { bytes = lines (codes " 1" ∷ []); verdict = Stopped (Some 7) }

--     program p; stop 00042; end
abbrev pub usage_51_stop_least_digits_program : ProgramNode
usage_51_stop_least_digits_program = elaborated
    (program (codes "program" ∷ codes "p" ∷ codes "stop" ∷ codes "end" ∷ []) [] ((unit (at 1 1) u.Program (name 1 1 9) [] (statements (acts (at 1 12)
    (stop (Some (pos 42)))) no_statements) [] (at 1 24)) ∷ [])) (looks ([] ∷ [])) (0 ∷ [])

abbrev pub usage_51_stop_least_digits_formed : Global → Type 0
usage_51_stop_least_digits_formed h = IsWellFormed (built h usage_51_stop_least_digits_program)

abbrev pub usage_51_stop_least_digits_shows : Global → Type 0
usage_51_stop_least_digits_shows h =
    shown (run_of (built h usage_51_stop_least_digits_program) 2000 granted) ≡ record { bytes = lines []; verdict = Stopped (Some 42) }

--     program p; stop 0; end
abbrev pub usage_52_stop_0_program : ProgramNode
usage_52_stop_0_program = elaborated
    (program (codes "program" ∷ codes "p" ∷ codes "stop" ∷ codes "end" ∷ []) [] ((unit (at 1 1) u.Program (name 1 1 9) [] (statements (acts (at 1 12)
    (stop (Some (pos 0)))) no_statements) [] (at 1 20)) ∷ [])) (looks ([] ∷ [])) (0 ∷ [])

abbrev pub usage_52_stop_0_formed : Global → Type 0
usage_52_stop_0_formed h = IsWellFormed (built h usage_52_stop_0_program)

abbrev pub usage_52_stop_0_shows : Global → Type 0
usage_52_stop_0_shows h =
    shown (run_of (built h usage_52_stop_0_program) 2000 granted) ≡ record { bytes = lines []; verdict = Stopped (Some 0) }

-- These programs make sense, print this and end so.
abbrev pub Meant6Show : Type 0
Meant6Show = (h : Global) →
    choice_64_1_formed h
    × choice_64_1_shows h
    × choice_67_1_formed h
    × choice_67_1_shows h
    × choice_79_1_formed h
    × choice_79_1_shows h
    × scalar_02_print_formed h
    × scalar_02_print_shows h
    × text_02_variable_if_formed h
    × text_02_variable_if_shows h
    × usage_45_empty_statements_formed h
    × usage_45_empty_statements_shows h
    × usage_46_letter_case_formed h
    × usage_46_letter_case_shows h
    × usage_47_empty_print_formed h
    × usage_47_empty_print_shows h
    × usage_49_stop_plain_formed h
    × usage_49_stop_plain_shows h
    × usage_50_stop_7_formed h
    × usage_50_stop_7_shows h
    × usage_51_stop_least_digits_formed h
    × usage_51_stop_least_digits_shows h
    × usage_52_stop_0_formed h
    × usage_52_stop_0_shows h
