-- Programs, each in the text above it, elaborated, and what they print.
use Rattle.std.specs.Prelude.{◌≡◌, true, false, [], ◌∷◌, None, Some, codes}
use Rattle.std.specs.declared.alloc.Global.{Global}
use Rattle.f3_lookups.specs.declared.lookup.Lookup.TheVariants.{One}
use Rattle.f3_tree.specs.declared.expression.Sign.TheVariants.{Minus}
use Rattle.f3_tree.specs.declared.expression.Relation.TheVariants as r
use Rattle.f3_tree.specs.declared.expression.Operator.TheVariants as o
use Rattle.f3_tree.specs.declared.expression.IntegerKind.TheVariants.{Four}
use Rattle.f3_tree.specs.declared.declaration.TypeSpecifier.TheVariants.{Integer}
use Rattle.f3_tree.specs.declared.program.UnitKind.TheVariants as u
use Rattle.f3_tree.specs.Expressions.{truth, designator, group, signed, negation, comparison, chain, no_more, more, no_parts, parts}
use Rattle.f3_tree.specs.Expressions.{bare, within, no_arguments, arguments, value, triplet, present}
use Rattle.f3_tree.specs.Declarations.{explicit, deferred, allocatable, declares}
use Rattle.f3_tree.specs.Statements.{assign, allocate, print, one, from, range, values, default}
use Rattle.f3_tree.specs.Statements.{counted, acts, selects, repeats, no_statements, statements}
use Rattle.f3_tree.specs.Statements.{no_cases, case_block}
use Rattle.f3_meaning_whole.specs.Run.{run_of}
use Rattle.f3_meaning_rows.specs.Shown.{shown, lines, granted, Finished, Failed}
use Rattle.f3_elaboration.specs.Nodes.{ProgramNode}
use Rattle.f3_elaboration.specs.Program.{elaborated}
use Rattle.f3_elaboration_rows.specs.Trees.{at, name, four, bounds, entity, declaration, unit, program, looks}
use Rattle.f3_elaboration_rows.specs.Built.{built}
use Rattle.f3_meaning_whole.specs.Formed.{IsWellFormed}

--     program p; integer :: i; do i = 1, 2; selectcase (i); case default; print *, 9; case (2); print *, 2; endselect; end do; end
abbrev pub usage_66_case_default_first_program : ProgramNode
usage_66_case_default_first_program = elaborated
    (program (codes "program" ∷ codes "p" ∷ codes "integer" ∷ codes "i" ∷ codes "do" ∷ codes "selectcase" ∷ codes "case" ∷ codes "default" ∷
    codes "print" ∷ codes "endselect" ∷ codes "end" ∷ []) [] ((unit (at 1 1) u.Program (name 1 1 9) ((declares (declaration (Integer Four) []
    ((entity (name 3 1 23) None None) ∷ []))) ∷ []) (statements (repeats (at 1 26) (counted (name 3 1 29) (four (at 1 33) 1) (four (at 1 36) 2) None)
    (statements (selects (at 1 39) (designator (parts (name 3 1 51) bare no_parts)) (case_block (at 1 55) default (statements (acts (at 1 69) (print
    ((four (at 1 78) 9) ∷ []))) no_statements) (case_block (at 1 81) (values ((one (four (at 1 87) 2)) ∷ [])) (statements (acts (at 1 91) (print
    ((four (at 1 100) 2) ∷ []))) no_statements) no_cases))) no_statements)) no_statements) [] (at 1 122)) ∷ [])) (looks (((3, One 0) ∷ []) ∷ [])) (0
    ∷ [])

abbrev pub usage_66_case_default_first_formed : Global → Type 0
usage_66_case_default_first_formed h = IsWellFormed (built h usage_66_case_default_first_program)

abbrev pub usage_66_case_default_first_shows : Global → Type 0
usage_66_case_default_first_shows h =
    shown (run_of (built h usage_66_case_default_first_program) 2000 granted) ≡ record {
      bytes = lines (codes " 9" ∷ codes " 2" ∷ []);
      verdict =
          Finished;
    }

--     program p; select case (1 < 2); case (.false.); print *, 0; case (.true.); print *, 1; end select; end
abbrev pub usage_67_case_logical_program : ProgramNode
usage_67_case_logical_program = elaborated
    (program (codes "program" ∷ codes "p" ∷ codes "select" ∷ codes "case" ∷ codes "print" ∷ codes "end" ∷ []) [] ((unit (at 1 1) u.Program (name 1 1
    9) [] (statements (selects (at 1 12) (comparison (four (at 1 25) 1) r.Less (four (at 1 29) 2)) (case_block (at 1 33) (values ((one (truth (at 1
    39) false)) ∷ [])) (statements (acts (at 1 49) (print ((four (at 1 58) 0) ∷ []))) no_statements) (case_block (at 1 61) (values ((one (truth (at 1
    67) true)) ∷ [])) (statements (acts (at 1 76) (print ((four (at 1 85) 1) ∷ []))) no_statements) no_cases))) no_statements) [] (at 1 100)) ∷ []))
    (looks ([] ∷ [])) (0 ∷ [])

abbrev pub usage_67_case_logical_formed : Global → Type 0
usage_67_case_logical_formed h = IsWellFormed (built h usage_67_case_logical_program)

abbrev pub usage_67_case_logical_shows : Global → Type 0
usage_67_case_logical_shows h =
    shown (run_of (built h usage_67_case_logical_program) 2000 granted) ≡ record { bytes = lines (codes " 1" ∷ []); verdict = Finished }

--     program p; select case (5); case (1:4, 6:); print *, 0; end select; print *, 7; end
abbrev pub usage_68_case_none_program : ProgramNode
usage_68_case_none_program = elaborated
    (program (codes "program" ∷ codes "p" ∷ codes "select" ∷ codes "case" ∷ codes "print" ∷ codes "end" ∷ []) [] ((unit (at 1 1) u.Program (name 1 1
    9) [] (statements (selects (at 1 12) (four (at 1 25) 5) (case_block (at 1 29) (values ((range (four (at 1 35) 1) (four (at 1 37) 4)) ∷ (from
    (four (at 1 40) 6)) ∷ [])) (statements (acts (at 1 45) (print ((four (at 1 54) 0) ∷ []))) no_statements) no_cases)) (statements (acts (at 1 69)
    (print ((four (at 1 78) 7) ∷ []))) no_statements)) [] (at 1 81)) ∷ [])) (looks ([] ∷ [])) (0 ∷ [])

abbrev pub usage_68_case_none_formed : Global → Type 0
usage_68_case_none_formed h = IsWellFormed (built h usage_68_case_none_program)

abbrev pub usage_68_case_none_shows : Global → Type 0
usage_68_case_none_shows h =
    shown (run_of (built h usage_68_case_none_program) 2000 granted) ≡ record { bytes = lines (codes " 7" ∷ []); verdict = Finished }

--     program p; print *, 1; print *, .false. .and. 1 / 0 == 1; end
abbrev pub usage_69_both_operands_program : ProgramNode
usage_69_both_operands_program = elaborated
    (program (codes "program" ∷ codes "p" ∷ codes "print" ∷ codes "end" ∷ []) [] ((unit (at 1 1) u.Program (name 1 1 9) [] (statements (acts (at 1
    12) (print ((four (at 1 21) 1) ∷ []))) (statements (acts (at 1 24) (print ((chain (truth (at 1 33) false) (more o.And (comparison (chain (four
    (at 1 47) 1) (more o.Divide (four (at 1 51) 0) no_more)) r.Equal (four (at 1 56) 1)) no_more)) ∷ []))) no_statements)) [] (at 1 59)) ∷ []))
    (looks ([] ∷ [])) (0 ∷ [])

abbrev pub usage_69_both_operands_formed : Global → Type 0
usage_69_both_operands_formed h = IsWellFormed (built h usage_69_both_operands_program)

abbrev pub usage_69_both_operands_shows : Global → Type 0
usage_69_both_operands_shows h =
    shown (run_of (built h usage_69_both_operands_program) 2000 granted) ≡ record { bytes = lines (codes " 1" ∷ []); verdict = Failed 2 1 24 }

--     program p; print *, 1 < 2, .not. 1 == 1, 1 > 2 .eqv. 3 < 2, .true. .neqv. .true., .false. .or. 2 >= 2; end
abbrev pub usage_70_logical_items_program : ProgramNode
usage_70_logical_items_program = elaborated
    (program (codes "program" ∷ codes "p" ∷ codes "print" ∷ codes "end" ∷ []) [] ((unit (at 1 1) u.Program (name 1 1 9) [] (statements (acts (at 1
    12) (print ((comparison (four (at 1 21) 1) r.Less (four (at 1 25) 2)) ∷ (negation (at 1 28) (comparison (four (at 1 34) 1) r.Equal (four (at 1
    39) 1))) ∷ (chain (comparison (four (at 1 42) 1) r.Greater (four (at 1 46) 2)) (more o.Equivalent (comparison (four (at 1 54) 3) r.Less (four (at
    1 58) 2)) no_more)) ∷ (chain (truth (at 1 61) true) (more o.NotEquivalent (truth (at 1 75) true) no_more)) ∷ (chain (truth (at 1 83) false) (more
    o.Or (comparison (four (at 1 96) 2) r.GreaterOrEqual (four (at 1 101) 2)) no_more)) ∷ []))) no_statements) [] (at 1 104)) ∷ [])) (looks ([] ∷
    [])) (0 ∷ [])

abbrev pub usage_70_logical_items_formed : Global → Type 0
usage_70_logical_items_formed h = IsWellFormed (built h usage_70_logical_items_program)

abbrev pub usage_70_logical_items_shows : Global → Type 0
usage_70_logical_items_shows h =
    shown (run_of (built h usage_70_logical_items_program) 2000 granted) ≡ record { bytes = lines (codes " T F T F T" ∷ []); verdict = Finished }

--     program p; print *, 2**3**2, 1**(-5), (-1)**(-3), (-2)**(-2), 0**0, 7**0; end
abbrev pub usage_71_powers_program : ProgramNode
usage_71_powers_program = elaborated
    (program (codes "program" ∷ codes "p" ∷ codes "print" ∷ codes "end" ∷ []) [] ((unit (at 1 1) u.Program (name 1 1 9) [] (statements (acts (at 1
    12) (print ((chain (four (at 1 21) 2) (more o.Power (four (at 1 24) 3) (more o.Power (four (at 1 27) 2) no_more))) ∷ (chain (four (at 1 30) 1)
    (more o.Power (group (at 1 33) (signed (at 1 34) Minus (four (at 1 35) 5))) no_more)) ∷ (chain (group (at 1 39) (signed (at 1 40) Minus (four (at
    1 41) 1))) (more o.Power (group (at 1 45) (signed (at 1 46) Minus (four (at 1 47) 3))) no_more)) ∷ (chain (group (at 1 51) (signed (at 1 52)
    Minus (four (at 1 53) 2))) (more o.Power (group (at 1 57) (signed (at 1 58) Minus (four (at 1 59) 2))) no_more)) ∷ (chain (four (at 1 63) 0)
    (more o.Power (four (at 1 66) 0) no_more)) ∷ (chain (four (at 1 69) 7) (more o.Power (four (at 1 72) 0) no_more)) ∷ []))) no_statements) [] (at 1
    75)) ∷ [])) (looks ([] ∷ [])) (0 ∷ [])

abbrev pub usage_71_powers_formed : Global → Type 0
usage_71_powers_formed h = IsWellFormed (built h usage_71_powers_program)

abbrev pub usage_71_powers_shows : Global → Type 0
usage_71_powers_shows h =
    shown (run_of (built h usage_71_powers_program) 2000 granted) ≡ record { bytes = lines (codes " 512 1 -1 0 1 1" ∷ []); verdict = Finished }

--     program p; print *, 0**(-1); end
abbrev pub usage_72_zero_to_minus_one_program : ProgramNode
usage_72_zero_to_minus_one_program = elaborated
    (program (codes "program" ∷ codes "p" ∷ codes "print" ∷ codes "end" ∷ []) [] ((unit (at 1 1) u.Program (name 1 1 9) [] (statements (acts (at 1
    12) (print ((chain (four (at 1 21) 0) (more o.Power (group (at 1 24) (signed (at 1 25) Minus (four (at 1 26) 1))) no_more)) ∷ [])))
    no_statements) [] (at 1 30)) ∷ [])) (looks ([] ∷ [])) (0 ∷ [])

abbrev pub usage_72_zero_to_minus_one_formed : Global → Type 0
usage_72_zero_to_minus_one_formed h = IsWellFormed (built h usage_72_zero_to_minus_one_program)

abbrev pub usage_72_zero_to_minus_one_shows : Global → Type 0
usage_72_zero_to_minus_one_shows h =
    shown (run_of (built h usage_72_zero_to_minus_one_program) 2000 granted) ≡ record { bytes = lines []; verdict = Failed 2 1 12 }

--     program p; integer :: i; i = -2147483647 - 1; print *, i; print *, -i; end
abbrev pub usage_73_least_integer_program : ProgramNode
usage_73_least_integer_program = elaborated
    (program (codes "program" ∷ codes "p" ∷ codes "integer" ∷ codes "i" ∷ codes "print" ∷ codes "end" ∷ []) [] ((unit (at 1 1) u.Program (name 1 1 9)
    ((declares (declaration (Integer Four) [] ((entity (name 3 1 23) None None) ∷ []))) ∷ []) (statements (acts (at 1 26) (assign (parts (name 3 1
    26) bare no_parts) (chain (signed (at 1 30) Minus (four (at 1 31) 2147483647)) (more o.Subtract (four (at 1 44) 1) no_more)))) (statements (acts
    (at 1 47) (print ((designator (parts (name 3 1 56) bare no_parts)) ∷ []))) (statements (acts (at 1 59) (print ((signed (at 1 68) Minus
    (designator (parts (name 3 1 69) bare no_parts))) ∷ []))) no_statements))) [] (at 1 72)) ∷ [])) (looks (((3, One 0) ∷ []) ∷ [])) (0 ∷ [])

abbrev pub usage_73_least_integer_formed : Global → Type 0
usage_73_least_integer_formed h = IsWellFormed (built h usage_73_least_integer_program)

abbrev pub usage_73_least_integer_shows : Global → Type 0
usage_73_least_integer_shows h =
    shown (run_of (built h usage_73_least_integer_program) 2000 granted) ≡ record {
      bytes = lines (codes " -2147483648" ∷ []);
      verdict = Failed 1 1
          59;
    }

--     program p; integer :: i; i = -2147483647 - 1; print *, i / (-1); end
abbrev pub usage_74_quotient_past_range_program : ProgramNode
usage_74_quotient_past_range_program = elaborated
    (program (codes "program" ∷ codes "p" ∷ codes "integer" ∷ codes "i" ∷ codes "print" ∷ codes "end" ∷ []) [] ((unit (at 1 1) u.Program (name 1 1 9)
    ((declares (declaration (Integer Four) [] ((entity (name 3 1 23) None None) ∷ []))) ∷ []) (statements (acts (at 1 26) (assign (parts (name 3 1
    26) bare no_parts) (chain (signed (at 1 30) Minus (four (at 1 31) 2147483647)) (more o.Subtract (four (at 1 44) 1) no_more)))) (statements (acts
    (at 1 47) (print ((chain (designator (parts (name 3 1 56) bare no_parts)) (more o.Divide (group (at 1 60) (signed (at 1 61) Minus (four (at 1 62)
    1))) no_more)) ∷ []))) no_statements)) [] (at 1 66)) ∷ [])) (looks (((3, One 0) ∷ []) ∷ [])) (0 ∷ [])

abbrev pub usage_74_quotient_past_range_formed : Global → Type 0
usage_74_quotient_past_range_formed h = IsWellFormed (built h usage_74_quotient_past_range_program)

abbrev pub usage_74_quotient_past_range_shows : Global → Type 0
usage_74_quotient_past_range_shows h =
    shown (run_of (built h usage_74_quotient_past_range_program) 2000 granted) ≡ record { bytes = lines []; verdict = Failed 1 1 47 }

--     program p; print *, mod(7, -3), modulo(7, -3), modulo(-7, 3), mod(-7, -3), max(3, 9, 4), min(3, -9), abs(-4); end
abbrev pub usage_75_mod_modulo_program : ProgramNode
usage_75_mod_modulo_program = elaborated
    (program (codes "program" ∷ codes "p" ∷ codes "print" ∷ codes "mod" ∷ codes "modulo" ∷ codes "max" ∷ codes "min" ∷ codes "abs" ∷ codes "end" ∷
    []) [] ((unit (at 1 1) u.Program (name 1 1 9) [] (statements (acts (at 1 12) (print ((designator (parts (name 3 1 21) (within (arguments (value
    None (four (at 1 25) 7)) (arguments (value None (signed (at 1 28) Minus (four (at 1 29) 3))) no_arguments))) no_parts)) ∷ (designator (parts
    (name 4 1 33) (within (arguments (value None (four (at 1 40) 7)) (arguments (value None (signed (at 1 43) Minus (four (at 1 44) 3)))
    no_arguments))) no_parts)) ∷ (designator (parts (name 4 1 48) (within (arguments (value None (signed (at 1 55) Minus (four (at 1 56) 7)))
    (arguments (value None (four (at 1 59) 3)) no_arguments))) no_parts)) ∷ (designator (parts (name 3 1 63) (within (arguments (value None (signed
    (at 1 67) Minus (four (at 1 68) 7))) (arguments (value None (signed (at 1 71) Minus (four (at 1 72) 3))) no_arguments))) no_parts)) ∷ (designator
    (parts (name 5 1 76) (within (arguments (value None (four (at 1 80) 3)) (arguments (value None (four (at 1 83) 9)) (arguments (value None (four
    (at 1 86) 4)) no_arguments)))) no_parts)) ∷ (designator (parts (name 6 1 90) (within (arguments (value None (four (at 1 94) 3)) (arguments (value
    None (signed (at 1 97) Minus (four (at 1 98) 9))) no_arguments))) no_parts)) ∷ (designator (parts (name 7 1 102) (within (arguments (value None
    (signed (at 1 106) Minus (four (at 1 107) 4))) no_arguments)) no_parts)) ∷ []))) no_statements) [] (at 1 111)) ∷ [])) (looks ([] ∷ [])) (0 ∷ [])

abbrev pub usage_75_mod_modulo_formed : Global → Type 0
usage_75_mod_modulo_formed h = IsWellFormed (built h usage_75_mod_modulo_program)

abbrev pub usage_75_mod_modulo_shows : Global → Type 0
usage_75_mod_modulo_shows h =
    shown (run_of (built h usage_75_mod_modulo_program) 2000 granted) ≡ record { bytes = lines (codes " 1 -2 2 -1 9 -9 4" ∷ []); verdict = Finished }

--     program p; integer :: a(3); print *, a(1:3:0); end
abbrev pub usage_77_triplet_step_zero_program : ProgramNode
usage_77_triplet_step_zero_program = elaborated
    (program (codes "program" ∷ codes "p" ∷ codes "integer" ∷ codes "a" ∷ codes "print" ∷ codes "end" ∷ []) [] ((unit (at 1 1) u.Program (name 1 1 9)
    ((declares (declaration (Integer Four) [] ((entity (name 3 1 23) (Some (explicit ((bounds None (four (at 1 25) 3)) ∷ []))) None) ∷ []))) ∷ [])
    (statements (acts (at 1 29) (print ((designator (parts (name 3 1 38) (within (arguments (triplet (at 1 40) (present (four (at 1 40) 1)) (present
    (four (at 1 42) 3)) (present (four (at 1 44) 0))) no_arguments)) no_parts)) ∷ []))) no_statements) [] (at 1 48)) ∷ [])) (looks (((3, One 0) ∷ [])
    ∷ [])) (0 ∷ [])

abbrev pub usage_77_triplet_step_zero_formed : Global → Type 0
usage_77_triplet_step_zero_formed h = IsWellFormed (built h usage_77_triplet_step_zero_program)

abbrev pub usage_77_triplet_step_zero_shows : Global → Type 0
usage_77_triplet_step_zero_shows h =
    shown (run_of (built h usage_77_triplet_step_zero_program) 2000 granted) ≡ record { bytes = lines []; verdict = Failed 8 1 29 }

--     program p; integer, allocatable :: a(:); allocate(a(1)); allocate(a(2)); end
abbrev pub usage_78_allocate_twice_program : ProgramNode
usage_78_allocate_twice_program = elaborated
    (program (codes "program" ∷ codes "p" ∷ codes "integer" ∷ codes "allocatable" ∷ codes "a" ∷ codes "allocate" ∷ codes "end" ∷ []) [] ((unit (at 1
    1) u.Program (name 1 1 9) ((declares (declaration (Integer Four) (allocatable ∷ []) ((entity (name 4 1 36) (Some (deferred (None ∷ []))) None) ∷
    []))) ∷ []) (statements (acts (at 1 42) (allocate ((parts (name 4 1 51) (within (arguments (value None (four (at 1 53) 1)) no_arguments))
    no_parts) ∷ []) None)) (statements (acts (at 1 58) (allocate ((parts (name 4 1 67) (within (arguments (value None (four (at 1 69) 2))
    no_arguments)) no_parts) ∷ []) None)) no_statements)) [] (at 1 74)) ∷ [])) (looks (((4, One 0) ∷ []) ∷ [])) (0 ∷ [])

abbrev pub usage_78_allocate_twice_formed : Global → Type 0
usage_78_allocate_twice_formed h = IsWellFormed (built h usage_78_allocate_twice_program)

abbrev pub usage_78_allocate_twice_shows : Global → Type 0
usage_78_allocate_twice_shows h =
    shown (run_of (built h usage_78_allocate_twice_program) 2000 granted) ≡ record { bytes = lines []; verdict = Failed 5 1 58 }

-- These programs make sense, print this and end so.
abbrev pub Meant8Show : Type 0
Meant8Show = (h : Global) →
    usage_66_case_default_first_formed h
    × usage_66_case_default_first_shows h
    × usage_67_case_logical_formed h
    × usage_67_case_logical_shows h
    × usage_68_case_none_formed h
    × usage_68_case_none_shows h
    × usage_69_both_operands_formed h
    × usage_69_both_operands_shows h
    × usage_70_logical_items_formed h
    × usage_70_logical_items_shows h
    × usage_71_powers_formed h
    × usage_71_powers_shows h
    × usage_72_zero_to_minus_one_formed h
    × usage_72_zero_to_minus_one_shows h
    × usage_73_least_integer_formed h
    × usage_73_least_integer_shows h
    × usage_74_quotient_past_range_formed h
    × usage_74_quotient_past_range_shows h
    × usage_75_mod_modulo_formed h
    × usage_75_mod_modulo_shows h
    × usage_77_triplet_step_zero_formed h
    × usage_77_triplet_step_zero_shows h
    × usage_78_allocate_twice_formed h
    × usage_78_allocate_twice_shows h
