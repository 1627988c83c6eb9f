-- Programs, each in the text above it, with what refuses it.
use Rattle.std.specs.Prelude.{true, false, [], ◌∷◌, None, Some, codes}
use Rattle.f3_lookups.specs.declared.lookup.Lookup.TheVariants.{One}
use Rattle.f3_rules.specs.declared.rule.Rule.TheVariants.{T2}
use Rattle.f3_tree.specs.declared.expression.Sign.TheVariants.{Minus}
use Rattle.f3_tree.specs.declared.expression.Operator.TheVariants as o
use Rattle.f3_tree.specs.declared.expression.IntegerKind.TheVariants.{Four}
use Rattle.f3_tree.specs.declared.declaration.TypeSpecifier.TheVariants.{Integer, Logical}
use Rattle.f3_tree.specs.declared.program.ProcedureKind.TheVariants.{Subroutine}
use Rattle.f3_tree.specs.declared.program.UnitKind.TheVariants as u
use Rattle.f3_tree.specs.Expressions.{truth, text, designator, group, array, signed, chain, no_more, more, no_trees, trees, no_parts, parts}
use Rattle.f3_tree.specs.Expressions.{bare, within, no_arguments, arguments, value}
use Rattle.f3_tree.specs.Declarations.{explicit, parameter, dimension, declares}
use Rattle.f3_tree.specs.Statements.{one, range, values}
use Rattle.f3_tree.specs.Statements.{selects, no_statements, statements}
use Rattle.f3_tree.specs.Statements.{no_cases, case_block}
use Rattle.f3_type_rows.specs.Build.{Finds, at, name, four, bounds, entity, declaration, procedure, unit, program, looks, broken}

--     program p; integer :: x = 0 ** (-1); end
-- 1:27: T2
abbrev pub t2_24 : Type 0
t2_24 = Finds (Some (broken 5 T2 1 27 None))
    (program (codes "p" ∷ codes "x" ∷ []) ((unit u.Program (name 0 1 9) ((declares (declaration (Integer Four) [] ((entity (name 1 1 23) None (Some (chain
    (four (at 1 27) 0) (more o.Power (group (at 1 32) (signed (at 1 33) Minus (four (at 1 34) 1))) no_more)))) ∷ []))) ∷ []) no_statements []) ∷ []))
    (looks (((1, One 0) ∷ []) ∷ [])) (0 ∷ [])

--     program p; integer, parameter :: k = n + 1, n = 3; end
-- 1:38: T2
abbrev pub t2_25 : Type 0
t2_25 = Finds (Some (broken 5 T2 1 38 None))
    (program (codes "p" ∷ codes "k" ∷ codes "n" ∷ []) ((unit u.Program (name 0 1 9) ((declares (declaration (Integer Four) (parameter ∷ []) ((entity (name 1 1
    34) None (Some (chain (designator (parts (name 2 1 38) bare no_parts)) (more o.Add (four (at 1 42) 1) no_more)))) ∷ (entity (name 2 1 45) None (Some
    (four (at 1 49) 3))) ∷ []))) ∷ []) no_statements []) ∷ [])) (looks (((1, One 0) ∷ (2, One 1) ∷ []) ∷ [])) (0 ∷ [])

--     program p; integer, parameter :: n = n; end
-- 1:38: T2
abbrev pub t2_26 : Type 0
t2_26 = Finds (Some (broken 5 T2 1 38 None))
    (program (codes "p" ∷ codes "n" ∷ []) ((unit u.Program (name 0 1 9) ((declares (declaration (Integer Four) (parameter ∷ []) ((entity (name 1 1 34) None
    (Some (designator (parts (name 1 1 38) bare no_parts)))) ∷ []))) ∷ []) no_statements []) ∷ [])) (looks (((1, One 0) ∷ []) ∷ [])) (0 ∷ [])

--     program p; logical :: x = 1; end
-- 1:27: T2
abbrev pub t2_27 : Type 0
t2_27 = Finds (Some (broken 5 T2 1 27 None))
    (program (codes "p" ∷ codes "x" ∷ []) ((unit u.Program (name 0 1 9) ((declares (declaration Logical [] ((entity (name 1 1 23) None (Some (four (at 1 27)
    1))) ∷ []))) ∷ []) no_statements []) ∷ [])) (looks (((1, One 0) ∷ []) ∷ [])) (0 ∷ [])

--     program p; integer :: x = .true.; end
-- 1:27: T2
abbrev pub t2_28 : Type 0
t2_28 = Finds (Some (broken 5 T2 1 27 None))
    (program (codes "p" ∷ codes "x" ∷ []) ((unit u.Program (name 0 1 9) ((declares (declaration (Integer Four) [] ((entity (name 1 1 23) None (Some (truth (at
    1 27) true))) ∷ []))) ∷ []) no_statements []) ∷ [])) (looks (((1, One 0) ∷ []) ∷ [])) (0 ∷ [])

--     program p; integer :: a(2) = [1, 2, 3]; end
-- 1:30: T2
abbrev pub t2_29 : Type 0
t2_29 = Finds (Some (broken 5 T2 1 30 None))
    (program (codes "p" ∷ codes "a" ∷ []) ((unit u.Program (name 0 1 9) ((declares (declaration (Integer Four) [] ((entity (name 1 1 23) (Some (explicit
    ((bounds None (four (at 1 25) 2)) ∷ []))) (Some (array (at 1 30) (trees (four (at 1 31) 1) (trees (four (at 1 34) 2) (trees (four (at 1 37) 3)
    no_trees)))))) ∷ []))) ∷ []) no_statements []) ∷ [])) (looks (((1, One 0) ∷ []) ∷ [])) (0 ∷ [])

--     program p; integer :: a(2, 2) = [1, 2, 3, 4]; end
-- 1:33: T2
abbrev pub t2_30 : Type 0
t2_30 = Finds (Some (broken 5 T2 1 33 None))
    (program (codes "p" ∷ codes "a" ∷ []) ((unit u.Program (name 0 1 9) ((declares (declaration (Integer Four) [] ((entity (name 1 1 23) (Some (explicit
    ((bounds None (four (at 1 25) 2)) ∷ (bounds None (four (at 1 28) 2)) ∷ []))) (Some (array (at 1 33) (trees (four (at 1 34) 1) (trees (four (at 1 37)
    2) (trees (four (at 1 40) 3) (trees (four (at 1 43) 4) no_trees))))))) ∷ []))) ∷ []) no_statements []) ∷ [])) (looks (((1, One 0) ∷ []) ∷ [])) (0 ∷
    [])

--     program p; integer :: a(0) = [1]; end
-- 1:30: T2
abbrev pub t2_31 : Type 0
t2_31 = Finds (Some (broken 5 T2 1 30 None))
    (program (codes "p" ∷ codes "a" ∷ []) ((unit u.Program (name 0 1 9) ((declares (declaration (Integer Four) [] ((entity (name 1 1 23) (Some (explicit
    ((bounds None (four (at 1 25) 0)) ∷ []))) (Some (array (at 1 30) (trees (four (at 1 31) 1) no_trees)))) ∷ []))) ∷ []) no_statements []) ∷ [])) (looks
    (((1, One 0) ∷ []) ∷ [])) (0 ∷ [])

--     program p; integer :: n, a(n); end
-- 1:28: T2
abbrev pub t2_32 : Type 0
t2_32 = Finds (Some (broken 5 T2 1 28 None))
    (program (codes "p" ∷ codes "n" ∷ codes "a" ∷ []) ((unit u.Program (name 0 1 9) ((declares (declaration (Integer Four) [] ((entity (name 1 1 23) None
    None) ∷ (entity (name 2 1 26) (Some (explicit ((bounds None (designator (parts (name 1 1 28) bare no_parts))) ∷ []))) None) ∷ []))) ∷ [])
    no_statements []) ∷ [])) (looks (((1, One 0) ∷ (2, One 1) ∷ []) ∷ [])) (0 ∷ [])

--     program p; integer :: a(.true.); end
-- 1:25: T2
abbrev pub t2_33 : Type 0
t2_33 = Finds (Some (broken 5 T2 1 25 None))
    (program (codes "p" ∷ codes "a" ∷ []) ((unit u.Program (name 0 1 9) ((declares (declaration (Integer Four) [] ((entity (name 1 1 23) (Some (explicit
    ((bounds None (truth (at 1 25) true)) ∷ []))) None) ∷ []))) ∷ []) no_statements []) ∷ [])) (looks (((1, One 0) ∷ []) ∷ [])) (0 ∷ [])

--     program p; integer :: a([1, 2]); end
-- 1:25: T2
abbrev pub t2_34 : Type 0
t2_34 = Finds (Some (broken 5 T2 1 25 None))
    (program (codes "p" ∷ codes "a" ∷ []) ((unit u.Program (name 0 1 9) ((declares (declaration (Integer Four) [] ((entity (name 1 1 23) (Some (explicit
    ((bounds None (array (at 1 25) (trees (four (at 1 26) 1) (trees (four (at 1 29) 2) no_trees)))) ∷ []))) None) ∷ []))) ∷ []) no_statements []) ∷ []))
    (looks (((1, One 0) ∷ []) ∷ [])) (0 ∷ [])

--     program p; integer :: a(abs(3)); end
-- 1:25: T2
abbrev pub t2_35 : Type 0
t2_35 = Finds (Some (broken 5 T2 1 25 None))
    (program (codes "p" ∷ codes "a" ∷ codes "abs" ∷ []) ((unit u.Program (name 0 1 9) ((declares (declaration (Integer Four) [] ((entity (name 1 1 23) (Some
    (explicit ((bounds None (designator (parts (name 2 1 25) (within (arguments (value None (four (at 1 29) 3)) no_arguments)) no_parts))) ∷ []))) None) ∷
    []))) ∷ []) no_statements []) ∷ [])) (looks (((1, One 0) ∷ []) ∷ [])) (0 ∷ [])

--     program p; integer :: x = abs(-3); end
-- 1:27: T2
abbrev pub t2_36 : Type 0
t2_36 = Finds (Some (broken 5 T2 1 27 None))
    (program (codes "p" ∷ codes "x" ∷ codes "abs" ∷ []) ((unit u.Program (name 0 1 9) ((declares (declaration (Integer Four) [] ((entity (name 1 1 23) None
    (Some (designator (parts (name 2 1 27) (within (arguments (value None (signed (at 1 31) Minus (four (at 1 32) 3))) no_arguments)) no_parts)))) ∷ [])))
    ∷ []) no_statements []) ∷ [])) (looks (((1, One 0) ∷ []) ∷ [])) (0 ∷ [])

--     program p; use m; integer :: x = n; end
--     module m; integer, parameter :: n(2) = 1; end
-- 1:34: T2
abbrev pub t2_37 : Type 0
t2_37 = Finds (Some (broken 5 T2 1 34 None))
    (program (codes "p" ∷ codes "x" ∷ codes "n" ∷ codes "m" ∷ []) ((unit u.Program (name 0 1 9) ((declares (declaration (Integer Four) [] ((entity (name 1 1
    30) None (Some (designator (parts (name 2 1 34) bare no_parts)))) ∷ []))) ∷ []) no_statements []) ∷ (unit u.Module (name 3 2 8) ((declares
    (declaration (Integer Four) (parameter ∷ []) ((entity (name 2 2 33) (Some (explicit ((bounds None (four (at 2 35) 2)) ∷ []))) (Some (four (at 2 40)
    1))) ∷ []))) ∷ []) no_statements []) ∷ [])) (looks (((1, One 0) ∷ (2, One 1) ∷ []) ∷ ((2, One 1) ∷ []) ∷ [])) (1 ∷ 0 ∷ [])

--     module m; integer, parameter :: n = 2; contains; subroutine s(); integer :: a(n); end; subroutine t(); integer, parameter :: n = 1/0; integer
--         :: b(n); end; end
--     program p; end
-- 1:130: T2
abbrev pub t2_38 : Type 0
t2_38 = Finds (Some (broken 5 T2 1 130 None))
    (program (codes "m" ∷ codes "n" ∷ codes "s" ∷ codes "a" ∷ codes "t" ∷ codes "b" ∷ codes "p" ∷ []) ((unit u.Module (name 0 1 8) ((declares (declaration
    (Integer Four) (parameter ∷ []) ((entity (name 1 1 33) None (Some (four (at 1 37) 2))) ∷ []))) ∷ []) no_statements ((procedure false Subroutine (name
    2 1 61) [] ((declares (declaration (Integer Four) [] ((entity (name 3 1 77) (Some (explicit ((bounds None (designator (parts (name 1 1 79) bare
    no_parts))) ∷ []))) None) ∷ []))) ∷ []) no_statements) ∷ (procedure false Subroutine (name 4 1 99) [] ((declares (declaration (Integer Four)
    (parameter ∷ []) ((entity (name 1 1 126) None (Some (chain (four (at 1 130) 1) (more o.Divide (four (at 1 132) 0) no_more)))) ∷ []))) ∷ (declares
    (declaration (Integer Four) [] ((entity (name 5 1 146) (Some (explicit ((bounds None (designator (parts (name 1 1 148) bare no_parts))) ∷ []))) None)
    ∷ []))) ∷ []) no_statements) ∷ [])) ∷ (unit u.Program (name 6 2 9) [] no_statements []) ∷ [])) (looks (((1, One 0) ∷ (2, One 1) ∷ (4, One 2) ∷ []) ∷
    ((1, One 0) ∷ (2, One 1) ∷ (3, One 3) ∷ (4, One 2) ∷ []) ∷ ((1, One 4) ∷ (2, One 1) ∷ (4, One 2) ∷ (5, One 5) ∷ []) ∷ [] ∷ [])) (0 ∷ 1 ∷ [])

--     module m; integer, parameter :: n = 2; contains; subroutine s(); integer, parameter :: k = n * n, n = 3; end; end
--     program p; end
-- 1:92: T2
abbrev pub t2_39 : Type 0
t2_39 = Finds (Some (broken 5 T2 1 92 None))
    (program (codes "m" ∷ codes "n" ∷ codes "s" ∷ codes "k" ∷ codes "p" ∷ []) ((unit u.Module (name 0 1 8) ((declares (declaration (Integer Four) (parameter ∷
    []) ((entity (name 1 1 33) None (Some (four (at 1 37) 2))) ∷ []))) ∷ []) no_statements ((procedure false Subroutine (name 2 1 61) [] ((declares
    (declaration (Integer Four) (parameter ∷ []) ((entity (name 3 1 88) None (Some (chain (designator (parts (name 1 1 92) bare no_parts)) (more
    o.Multiply (designator (parts (name 1 1 96) bare no_parts)) no_more)))) ∷ (entity (name 1 1 99) None (Some (four (at 1 103) 3))) ∷ []))) ∷ [])
    no_statements) ∷ [])) ∷ (unit u.Program (name 4 2 9) [] no_statements []) ∷ [])) (looks (((1, One 0) ∷ (2, One 1) ∷ []) ∷ ((1, One 3) ∷ (2, One 1) ∷
    (3, One 2) ∷ []) ∷ [] ∷ [])) (0 ∷ 1 ∷ [])

--     program p; integer :: x = 'a'; integer :: y(2) = ['a']; end
-- 1:27: T2
abbrev pub t2_40 : Type 0
t2_40 = Finds (Some (broken 5 T2 1 27 None))
    (program (codes "p" ∷ codes "x" ∷ codes "y" ∷ []) ((unit u.Program (name 0 1 9) ((declares (declaration (Integer Four) [] ((entity (name 1 1 23) None
    (Some (text (at 1 27) 0))) ∷ []))) ∷ (declares (declaration (Integer Four) [] ((entity (name 2 1 43) (Some (explicit ((bounds None (four (at 1 45) 2))
    ∷ []))) (Some (array (at 1 50) (trees (text (at 1 51) 0) no_trees)))) ∷ []))) ∷ []) no_statements []) ∷ [])) (looks (((1, One 0) ∷ (2, One 1) ∷ []) ∷
    [])) (0 ∷ [])

--     program p; integer, dimension(1/0) :: a(2), b; end
-- 1:31: T2
abbrev pub t2_41 : Type 0
t2_41 = Finds (Some (broken 5 T2 1 31 None))
    (program (codes "p" ∷ codes "a" ∷ codes "b" ∷ []) ((unit u.Program (name 0 1 9) ((declares (declaration (Integer Four) ((dimension (explicit ((bounds None
    (chain (four (at 1 31) 1) (more o.Divide (four (at 1 33) 0) no_more))) ∷ []))) ∷ []) ((entity (name 1 1 39) (Some (explicit ((bounds None (four (at 1
    41) 2)) ∷ []))) None) ∷ (entity (name 2 1 45) None None) ∷ []))) ∷ []) no_statements []) ∷ [])) (looks (((1, One 0) ∷ (2, One 1) ∷ []) ∷ [])) (0 ∷ [])

--     program p; select case (3); case (.true.); end select; end
-- 1:35: T2
abbrev pub t2_42 : Type 0
t2_42 = Finds (Some (broken 6 T2 1 35 None))
    (program (codes "p" ∷ []) ((unit u.Program (name 0 1 9) [] (statements (selects (at 1 12) (four (at 1 25) 3) (case_block (at 1 29) (values ((one (truth
    (at 1 35) true)) ∷ [])) no_statements no_cases)) no_statements) []) ∷ [])) (looks ([] ∷ [])) (0 ∷ [])

--     program p; integer :: n; select case (n); case (n); end select; end
-- 1:49: T2
abbrev pub t2_43 : Type 0
t2_43 = Finds (Some (broken 6 T2 1 49 None))
    (program (codes "p" ∷ codes "n" ∷ []) ((unit u.Program (name 0 1 9) ((declares (declaration (Integer Four) [] ((entity (name 1 1 23) None None) ∷ []))) ∷
    []) (statements (selects (at 1 26) (designator (parts (name 1 1 39) bare no_parts)) (case_block (at 1 43) (values ((one (designator (parts (name 1 1
    49) bare no_parts))) ∷ [])) no_statements no_cases)) no_statements) []) ∷ [])) (looks (((1, One 0) ∷ []) ∷ [])) (0 ∷ [])

--     program p; select case (1); case (abs); end select; end
-- 1:35: T2
abbrev pub t2_44 : Type 0
t2_44 = Finds (Some (broken 6 T2 1 35 None))
    (program (codes "p" ∷ codes "abs" ∷ []) ((unit u.Program (name 0 1 9) [] (statements (selects (at 1 12) (four (at 1 25) 1) (case_block (at 1 29) (values
    ((one (designator (parts (name 1 1 35) bare no_parts))) ∷ [])) no_statements no_cases)) no_statements) []) ∷ [])) (looks ([] ∷ [])) (0 ∷ [])

--     program p; select case (.true.); case (.false.:.true.); end select; end
-- 1:40: T2
abbrev pub t2_45 : Type 0
t2_45 = Finds (Some (broken 6 T2 1 40 None))
    (program (codes "p" ∷ []) ((unit u.Program (name 0 1 9) [] (statements (selects (at 1 12) (truth (at 1 25) true) (case_block (at 1 34) (values ((range
    (truth (at 1 40) false) (truth (at 1 48) true)) ∷ [])) no_statements no_cases)) no_statements) []) ∷ [])) (looks ([] ∷ [])) (0 ∷ [])

--     program p; select case (1); case (2:1/0); end select; end
-- 1:37: T2
abbrev pub t2_46 : Type 0
t2_46 = Finds (Some (broken 6 T2 1 37 None))
    (program (codes "p" ∷ []) ((unit u.Program (name 0 1 9) [] (statements (selects (at 1 12) (four (at 1 25) 1) (case_block (at 1 29) (values ((range (four
    (at 1 35) 2) (chain (four (at 1 37) 1) (more o.Divide (four (at 1 39) 0) no_more))) ∷ [])) no_statements no_cases)) no_statements) []) ∷ [])) (looks
    ([] ∷ [])) (0 ∷ [])

abbrev pub T2BShow : Type 0
T2BShow = t2_24 × t2_25 × t2_26 × t2_27 × t2_28 × t2_29 × t2_30 × t2_31 × t2_32 × t2_33 × t2_34 × t2_35 × t2_36 × t2_37 × t2_38 × t2_39 × t2_40 × t2_41 ×
    t2_42 × t2_43 × t2_44 × t2_45 × t2_46
