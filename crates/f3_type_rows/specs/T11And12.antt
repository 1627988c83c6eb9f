-- Programs, each in the text above it, with what refuses it.
use Rattle.std.specs.Prelude.{true, false, [], ◌∷◌, None, Some, codes}
use Rattle.f3_lookups.specs.declared.lookup.Lookup.TheVariants.{One}
use Rattle.f3_rules.specs.declared.rule.Rule.TheVariants.{T11}
use Rattle.f3_tree.specs.declared.expression.Sign.TheVariants.{Minus}
use Rattle.f3_tree.specs.declared.expression.Relation.TheVariants as r
use Rattle.f3_tree.specs.declared.expression.Operator.TheVariants as o
use Rattle.f3_tree.specs.declared.expression.IntegerKind.TheVariants.{Four}
use Rattle.f3_tree.specs.declared.declaration.TypeSpecifier.TheVariants.{Integer}
use Rattle.f3_tree.specs.declared.program.UnitKind.TheVariants as u
use Rattle.f3_tree.specs.Expressions.{truth, designator, signed, negation, comparison, chain, no_more, more, no_parts, parts}
use Rattle.f3_tree.specs.Expressions.{bare}
use Rattle.f3_tree.specs.Declarations.{declares}
use Rattle.f3_tree.specs.Statements.{assign, one, from, up_to, range, values, default}
use Rattle.f3_tree.specs.Statements.{acts, selects, no_statements, statements}
use Rattle.f3_tree.specs.Statements.{no_cases, case_block}
use Rattle.f3_type_rows.specs.Build.{Finds, at, name, four, entity, declaration, unit, program, looks, broken}

--     program p; select case (.true.); case (1 < 2, .true.); end select; end
-- 1:47: T11
abbrev pub t11_1 : Type 0
t11_1 = Finds (Some (broken 6 T11 1 47 None))
    (program (codes "p" ∷ []) ((unit u.Program (name 0 1 9) [] (statements (selects (at 1 12) (truth (at 1 25) true) (case_block (at 1 34) (values ((one
    (comparison (four (at 1 40) 1) r.Less (four (at 1 44) 2))) ∷ (one (truth (at 1 47) true)) ∷ [])) no_statements no_cases)) no_statements) []) ∷ []))
    (looks ([] ∷ [])) (0 ∷ [])

--     program p; select case (.true.); case (2 <= 2, .true.); end select; end
-- 1:48: T11
abbrev pub t11_2 : Type 0
t11_2 = Finds (Some (broken 6 T11 1 48 None))
    (program (codes "p" ∷ []) ((unit u.Program (name 0 1 9) [] (statements (selects (at 1 12) (truth (at 1 25) true) (case_block (at 1 34) (values ((one
    (comparison (four (at 1 40) 2) r.LessOrEqual (four (at 1 45) 2))) ∷ (one (truth (at 1 48) true)) ∷ [])) no_statements no_cases)) no_statements) []) ∷
    [])) (looks ([] ∷ [])) (0 ∷ [])

--     program p; select case (.true.); case (3 > 2, .true.); end select; end
-- 1:47: T11
abbrev pub t11_3 : Type 0
t11_3 = Finds (Some (broken 6 T11 1 47 None))
    (program (codes "p" ∷ []) ((unit u.Program (name 0 1 9) [] (statements (selects (at 1 12) (truth (at 1 25) true) (case_block (at 1 34) (values ((one
    (comparison (four (at 1 40) 3) r.Greater (four (at 1 44) 2))) ∷ (one (truth (at 1 47) true)) ∷ [])) no_statements no_cases)) no_statements) []) ∷ []))
    (looks ([] ∷ [])) (0 ∷ [])

--     program p; select case (.true.); case (2 == 2, .true.); end select; end
-- 1:48: T11
abbrev pub t11_4 : Type 0
t11_4 = Finds (Some (broken 6 T11 1 48 None))
    (program (codes "p" ∷ []) ((unit u.Program (name 0 1 9) [] (statements (selects (at 1 12) (truth (at 1 25) true) (case_block (at 1 34) (values ((one
    (comparison (four (at 1 40) 2) r.Equal (four (at 1 45) 2))) ∷ (one (truth (at 1 48) true)) ∷ [])) no_statements no_cases)) no_statements) []) ∷ []))
    (looks ([] ∷ [])) (0 ∷ [])

--     program p; select case (.true.); case (.true. .or. .false., .true.); end select; end
-- 1:61: T11
abbrev pub t11_5 : Type 0
t11_5 = Finds (Some (broken 6 T11 1 61 None))
    (program (codes "p" ∷ []) ((unit u.Program (name 0 1 9) [] (statements (selects (at 1 12) (truth (at 1 25) true) (case_block (at 1 34) (values ((one
    (chain (truth (at 1 40) true) (more o.Or (truth (at 1 52) false) no_more))) ∷ (one (truth (at 1 61) true)) ∷ [])) no_statements no_cases))
    no_statements) []) ∷ [])) (looks ([] ∷ [])) (0 ∷ [])

--     program p; select case (.true.); case (.false. .eqv. .false., .true.); end select; end
-- 1:63: T11
abbrev pub t11_6 : Type 0
t11_6 = Finds (Some (broken 6 T11 1 63 None))
    (program (codes "p" ∷ []) ((unit u.Program (name 0 1 9) [] (statements (selects (at 1 12) (truth (at 1 25) true) (case_block (at 1 34) (values ((one
    (chain (truth (at 1 40) false) (more o.Equivalent (truth (at 1 54) false) no_more))) ∷ (one (truth (at 1 63) true)) ∷ [])) no_statements no_cases))
    no_statements) []) ∷ [])) (looks ([] ∷ [])) (0 ∷ [])

--     program p; select case (.true.); case (.not. 1 == 2 .and. -1 < 0 .or. .false., .true.); end select; end
-- 1:80: T11
abbrev pub t11_7 : Type 0
t11_7 = Finds (Some (broken 6 T11 1 80 None))
    (program (codes "p" ∷ []) ((unit u.Program (name 0 1 9) [] (statements (selects (at 1 12) (truth (at 1 25) true) (case_block (at 1 34) (values ((one
    (chain (chain (negation (at 1 40) (comparison (four (at 1 46) 1) r.Equal (four (at 1 51) 2))) (more o.And (comparison (signed (at 1 59) Minus (four
    (at 1 60) 1)) r.Less (four (at 1 64) 0)) no_more)) (more o.Or (truth (at 1 71) false) no_more))) ∷ (one (truth (at 1 80) true)) ∷ [])) no_statements
    no_cases)) no_statements) []) ∷ [])) (looks ([] ∷ [])) (0 ∷ [])

--     program p; select case (.true.); case (.true. .neqv. .true. .eqv. .false., .true.); end select; end
-- 1:76: T11
abbrev pub t11_8 : Type 0
t11_8 = Finds (Some (broken 6 T11 1 76 None))
    (program (codes "p" ∷ []) ((unit u.Program (name 0 1 9) [] (statements (selects (at 1 12) (truth (at 1 25) true) (case_block (at 1 34) (values ((one
    (chain (truth (at 1 40) true) (more o.NotEquivalent (truth (at 1 54) true) (more o.Equivalent (truth (at 1 67) false) no_more)))) ∷ (one (truth (at 1
    76) true)) ∷ [])) no_statements no_cases)) no_statements) []) ∷ [])) (looks ([] ∷ [])) (0 ∷ [])

--     program p; integer :: i; i = 5; select case (i); case (1:5); case (5); end select; end
-- 1:68: T11
abbrev pub t11_9 : Type 0
t11_9 = Finds (Some (broken 6 T11 1 68 None))
    (program (codes "p" ∷ codes "i" ∷ []) ((unit u.Program (name 0 1 9) ((declares (declaration (Integer Four) [] ((entity (name 1 1 23) None None) ∷ []))) ∷
    []) (statements (acts (at 1 26) (assign (parts (name 1 1 26) bare no_parts) (four (at 1 30) 5))) (statements (selects (at 1 33) (designator (parts
    (name 1 1 46) bare no_parts)) (case_block (at 1 50) (values ((range (four (at 1 56) 1) (four (at 1 58) 5)) ∷ [])) no_statements (case_block (at 1 62)
    (values ((one (four (at 1 68) 5)) ∷ [])) no_statements no_cases))) no_statements)) []) ∷ [])) (looks (((1, One 0) ∷ []) ∷ [])) (0 ∷ [])

--     program p; select case (3); case (1:4); case (4); end select; end
-- 1:47: T11
abbrev pub t11_10 : Type 0
t11_10 = Finds (Some (broken 6 T11 1 47 None))
    (program (codes "p" ∷ []) ((unit u.Program (name 0 1 9) [] (statements (selects (at 1 12) (four (at 1 25) 3) (case_block (at 1 29) (values ((range (four
    (at 1 35) 1) (four (at 1 37) 4)) ∷ [])) no_statements (case_block (at 1 41) (values ((one (four (at 1 47) 4)) ∷ [])) no_statements no_cases)))
    no_statements) []) ∷ [])) (looks ([] ∷ [])) (0 ∷ [])

--     program p; select case (3); case (1:); case (:0); case (0); end select; end
-- 1:57: T11
abbrev pub t11_11 : Type 0
t11_11 = Finds (Some (broken 6 T11 1 57 None))
    (program (codes "p" ∷ []) ((unit u.Program (name 0 1 9) [] (statements (selects (at 1 12) (four (at 1 25) 3) (case_block (at 1 29) (values ((from (four
    (at 1 35) 1)) ∷ [])) no_statements (case_block (at 1 40) (values ((up_to (at 1 46) (four (at 1 47) 0)) ∷ [])) no_statements (case_block (at 1 51)
    (values ((one (four (at 1 57) 0)) ∷ [])) no_statements no_cases)))) no_statements) []) ∷ [])) (looks ([] ∷ [])) (0 ∷ [])

--     program p; select case (3); case (1, 2, 1); end select; end
-- 1:41: T11
abbrev pub t11_12 : Type 0
t11_12 = Finds (Some (broken 6 T11 1 41 None))
    (program (codes "p" ∷ []) ((unit u.Program (name 0 1 9) [] (statements (selects (at 1 12) (four (at 1 25) 3) (case_block (at 1 29) (values ((one (four (at
    1 35) 1)) ∷ (one (four (at 1 38) 2)) ∷ (one (four (at 1 41) 1)) ∷ [])) no_statements no_cases)) no_statements) []) ∷ [])) (looks ([] ∷ [])) (0 ∷ [])

--     program p; select case (3); case default; case (1); case default; end select; end
-- 1:53: T11
abbrev pub t11_13 : Type 0
t11_13 = Finds (Some (broken 6 T11 1 53 None))
    (program (codes "p" ∷ []) ((unit u.Program (name 0 1 9) [] (statements (selects (at 1 12) (four (at 1 25) 3) (case_block (at 1 29) default no_statements
    (case_block (at 1 43) (values ((one (four (at 1 49) 1)) ∷ [])) no_statements (case_block (at 1 53) default no_statements no_cases)))) no_statements)
    []) ∷ [])) (looks ([] ∷ [])) (0 ∷ [])

abbrev pub T11And12Show : Type 0
T11And12Show = t11_1 × t11_2 × t11_3 × t11_4 × t11_5 × t11_6 × t11_7 × t11_8 × t11_9 × t11_10 × t11_11 × t11_12 × t11_13
