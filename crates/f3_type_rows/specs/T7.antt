-- Programs, each in the text above it, with what refuses it.
use Rattle.std.specs.Prelude.{true, false, [], ◌∷◌, None, Some, codes}
use Rattle.f3_lookups.specs.declared.lookup.Lookup.TheVariants.{One}
use Rattle.f3_rules.specs.declared.rule.Rule.TheVariants.{T7}
use Rattle.f3_tree.specs.declared.expression.Operator.TheVariants as o
use Rattle.f3_tree.specs.declared.expression.IntegerKind.TheVariants.{Four}
use Rattle.f3_tree.specs.declared.declaration.TypeSpecifier.TheVariants.{Integer, Derived}
use Rattle.f3_tree.specs.declared.program.UnitKind.TheVariants as u
use Rattle.f3_tree.specs.Expressions.{truth, designator, array, chain, no_more, more, no_trees, trees, no_parts, parts}
use Rattle.f3_tree.specs.Expressions.{bare, within, no_arguments, arguments, value}
use Rattle.f3_tree.specs.Declarations.{explicit, deferred, parameter, allocatable, declares}
use Rattle.f3_tree.specs.Statements.{assign, print, one, values}
use Rattle.f3_tree.specs.Statements.{acts, selects, associates, no_statements, statements}
use Rattle.f3_tree.specs.Statements.{no_cases, case_block}
use Rattle.f3_type_rows.specs.Build.{Finds, at, name, four, bounds, entity, declaration, type_definition, unit, association, program, looks, broken}

--     program p; integer :: a(2); a(1,1) = 1; end
-- 1:29: T7
abbrev pub t7_1 : Type 0
t7_1 = Finds (Some (broken 6 T7 1 29 None))
    (program (codes "p" ∷ codes "a" ∷ []) ((unit u.Program (name 0 1 9) ((declares (declaration (Integer Four) [] ((entity (name 1 1 23) (Some (explicit
    ((bounds None (four (at 1 25) 2)) ∷ []))) None) ∷ []))) ∷ []) (statements (acts (at 1 29) (assign (parts (name 1 1 29) (within (arguments (value None
    (four (at 1 31) 1)) (arguments (value None (four (at 1 33) 1)) no_arguments))) no_parts) (four (at 1 38) 1))) no_statements) []) ∷ [])) (looks (((
      1,
      One 0,
    ) ∷ []) ∷ [])) (0 ∷ [])

--     module m; type t; integer :: i(2); integer, allocatable :: a; end type; end
--     program p; use m; type(t) :: x(2); print *, x%i; end
-- 2:45: T7
abbrev pub t7_2 : Type 0
t7_2 = Finds (Some (broken 6 T7 2 45 None))
    (program (codes "m" ∷ codes "t" ∷ codes "i" ∷ codes "a" ∷ codes "p" ∷ codes "x" ∷ codes "print" ∷ []) ((unit u.Module (name 0 1 8) ((type_definition (name
    1 1 16) false ((declaration (Integer Four) [] ((entity (name 2 1 30) (Some (explicit ((bounds None (four (at 1 32) 2)) ∷ []))) None) ∷ [])) ∷
    (declaration (Integer Four) (allocatable ∷ []) ((entity (name 3 1 60) None None) ∷ [])) ∷ []) []) ∷ []) no_statements []) ∷ (unit u.Program (name 4 2
    9) ((declares (declaration (Derived (name 1 2 24)) [] ((entity (name 5 2 30) (Some (explicit ((bounds None (four (at 2 32) 2)) ∷ []))) None) ∷ []))) ∷
    []) (statements (acts (at 2 36) (print ((designator (parts (name 5 2 45) bare (parts (name 2 2 47) bare no_parts))) ∷ []))) no_statements) []) ∷ []))
    (looks (((1, One 0) ∷ []) ∷ ((1, One 0) ∷ (5, One 1) ∷ []) ∷ [])) (0 ∷ 1 ∷ [])

--     module m; type t; integer :: i(2); integer, allocatable :: a; end type; end
--     program p; use m; type(t) :: x(2); print *, x%a; end
-- 2:45: T7
abbrev pub t7_3 : Type 0
t7_3 = Finds (Some (broken 6 T7 2 45 None))
    (program (codes "m" ∷ codes "t" ∷ codes "i" ∷ codes "a" ∷ codes "p" ∷ codes "x" ∷ codes "print" ∷ []) ((unit u.Module (name 0 1 8) ((type_definition (name
    1 1 16) false ((declaration (Integer Four) [] ((entity (name 2 1 30) (Some (explicit ((bounds None (four (at 1 32) 2)) ∷ []))) None) ∷ [])) ∷
    (declaration (Integer Four) (allocatable ∷ []) ((entity (name 3 1 60) None None) ∷ [])) ∷ []) []) ∷ []) no_statements []) ∷ (unit u.Program (name 4 2
    9) ((declares (declaration (Derived (name 1 2 24)) [] ((entity (name 5 2 30) (Some (explicit ((bounds None (four (at 2 32) 2)) ∷ []))) None) ∷ []))) ∷
    []) (statements (acts (at 2 36) (print ((designator (parts (name 5 2 45) bare (parts (name 3 2 47) bare no_parts))) ∷ []))) no_statements) []) ∷ []))
    (looks (((1, One 0) ∷ []) ∷ ((1, One 0) ∷ (5, One 1) ∷ []) ∷ [])) (0 ∷ 1 ∷ [])

--     program p; integer :: a(3); associate (z => a, y => a(2)); z(2) = y; y = z; end associate; end
-- 1:74: T7
abbrev pub t7_4 : Type 0
t7_4 = Finds (Some (broken 6 T7 1 74 None))
    (program (codes "p" ∷ codes "a" ∷ codes "z" ∷ codes "y" ∷ []) ((unit u.Program (name 0 1 9) ((declares (declaration (Integer Four) [] ((entity (name 1 1
    23) (Some (explicit ((bounds None (four (at 1 25) 3)) ∷ []))) None) ∷ []))) ∷ []) (statements (associates (at 1 29) ((association (name 2 1 40)
    (designator (parts (name 1 1 45) bare no_parts))) ∷ (association (name 3 1 48) (designator (parts (name 1 1 53) (within (arguments (value None (four
    (at 1 55) 2)) no_arguments)) no_parts))) ∷ []) (statements (acts (at 1 60) (assign (parts (name 2 1 60) (within (arguments (value None (four (at 1 62)
    2)) no_arguments)) no_parts) (designator (parts (name 3 1 67) bare no_parts)))) (statements (acts (at 1 70) (assign (parts (name 3 1 70) bare
    no_parts) (designator (parts (name 2 1 74) bare no_parts)))) no_statements))) no_statements) []) ∷ [])) (looks (((1, One 0) ∷ []) ∷ ((1, One 0) ∷ (
      2,
      One 1,
    ) ∷ (3, One 2) ∷ []) ∷ [])) (0 ∷ [])

--     program p; integer :: x; x = 1; print *, x(); end
-- 1:42: T7
abbrev pub t7_5 : Type 0
t7_5 = Finds (Some (broken 6 T7 1 42 None))
    (program (codes "p" ∷ codes "x" ∷ codes "print" ∷ []) ((unit u.Program (name 0 1 9) ((declares (declaration (Integer Four) [] ((entity (name 1 1 23) None
    None) ∷ []))) ∷ []) (statements (acts (at 1 26) (assign (parts (name 1 1 26) bare no_parts) (four (at 1 30) 1))) (statements (acts (at 1 33) (print
    ((designator (parts (name 1 1 42) (within no_arguments) no_parts)) ∷ []))) no_statements)) []) ∷ [])) (looks (((1, One 0) ∷ []) ∷ [])) (0 ∷ [])

--     program p; integer :: a(2); print *, [1, .true., a]; end
-- 1:50: T7
abbrev pub t7_6 : Type 0
t7_6 = Finds (Some (broken 6 T7 1 50 None))
    (program (codes "p" ∷ codes "a" ∷ codes "print" ∷ []) ((unit u.Program (name 0 1 9) ((declares (declaration (Integer Four) [] ((entity (name 1 1 23) (Some
    (explicit ((bounds None (four (at 1 25) 2)) ∷ []))) None) ∷ []))) ∷ []) (statements (acts (at 1 29) (print ((array (at 1 38) (trees (four (at 1 39) 1)
    (trees (truth (at 1 42) true) (trees (designator (parts (name 1 1 50) bare no_parts)) no_trees)))) ∷ []))) no_statements) []) ∷ [])) (looks (((
      1,
      One
          0,
    ) ∷ []) ∷ [])) (0 ∷ [])

--     program p; integer, parameter :: c = 1; print *, c(1); end
-- 1:50: T7
abbrev pub t7_7 : Type 0
t7_7 = Finds (Some (broken 6 T7 1 50 None))
    (program (codes "p" ∷ codes "c" ∷ codes "print" ∷ []) ((unit u.Program (name 0 1 9) ((declares (declaration (Integer Four) (parameter ∷ []) ((entity (name
    1 1 34) None (Some (four (at 1 38) 1))) ∷ []))) ∷ []) (statements (acts (at 1 41) (print ((designator (parts (name 1 1 50) (within (arguments (value
    None (four (at 1 52) 1)) no_arguments)) no_parts)) ∷ []))) no_statements) []) ∷ [])) (looks (((1, One 0) ∷ []) ∷ [])) (0 ∷ [])

--     program p; integer, parameter :: c = 1; c(1) = 2; end
-- 1:41: T7
abbrev pub t7_8 : Type 0
t7_8 = Finds (Some (broken 6 T7 1 41 None))
    (program (codes "p" ∷ codes "c" ∷ []) ((unit u.Program (name 0 1 9) ((declares (declaration (Integer Four) (parameter ∷ []) ((entity (name 1 1 34) None
    (Some (four (at 1 38) 1))) ∷ []))) ∷ []) (statements (acts (at 1 41) (assign (parts (name 1 1 41) (within (arguments (value None (four (at 1 43) 1))
    no_arguments)) no_parts) (four (at 1 48) 2))) no_statements) []) ∷ [])) (looks (((1, One 0) ∷ []) ∷ [])) (0 ∷ [])

--     module m; type t; integer :: i(2); end type; type u; type(t) :: i(2); end type; end
--     program p; use m; type(u) :: y(2); print *, y%i%i(1, 2); end
-- 2:49: T7
abbrev pub t7_9 : Type 0
t7_9 = Finds (Some (broken 6 T7 2 49 None))
    (program (codes "m" ∷ codes "t" ∷ codes "i" ∷ codes "u" ∷ codes "p" ∷ codes "y" ∷ codes "print" ∷ []) ((unit u.Module (name 0 1 8) ((type_definition (name
    1 1 16) false ((declaration (Integer Four) [] ((entity (name 2 1 30) (Some (explicit ((bounds None (four (at 1 32) 2)) ∷ []))) None) ∷ [])) ∷ []) [])
    ∷ (type_definition (name 3 1 51) false ((declaration (Derived (name 1 1 59)) [] ((entity (name 2 1 65) (Some (explicit ((bounds None (four (at 1 67)
    2)) ∷ []))) None) ∷ [])) ∷ []) []) ∷ []) no_statements []) ∷ (unit u.Program (name 4 2 9) ((declares (declaration (Derived (name 3 2 24)) [] ((entity
    (name 5 2 30) (Some (explicit ((bounds None (four (at 2 32) 2)) ∷ []))) None) ∷ []))) ∷ []) (statements (acts (at 2 36) (print ((designator (parts
    (name 5 2 45) bare (parts (name 2 2 47) bare (parts (name 2 2 49) (within (arguments (value None (four (at 2 51) 1)) (arguments (value None (four (at
    2 54) 2)) no_arguments))) no_parts)))) ∷ []))) no_statements) []) ∷ [])) (looks (((1, One 0) ∷ (3, One 1) ∷ []) ∷ ((1, One 0) ∷ (3, One 1) ∷ (
      5,
      One
          2,
    ) ∷ []) ∷ [])) (0 ∷ 1 ∷ [])

--     program p; use m; print *, x(1, 2); end
--     module m; integer :: t; type(t) :: x(2); end
-- 1:28: T7
abbrev pub t7_10 : Type 0
t7_10 = Finds (Some (broken 6 T7 1 28 None))
    (program (codes "p" ∷ codes "print" ∷ codes "x" ∷ codes "m" ∷ codes "t" ∷ []) ((unit u.Program (name 0 1 9) [] (statements (acts (at 1 19) (print
    ((designator (parts (name 2 1 28) (within (arguments (value None (four (at 1 30) 1)) (arguments (value None (four (at 1 33) 2)) no_arguments)))
    no_parts)) ∷ []))) no_statements) []) ∷ (unit u.Module (name 3 2 8) ((declares (declaration (Integer Four) [] ((entity (name 4 2 22) None None) ∷
    []))) ∷ (declares (declaration (Derived (name 4 2 30)) [] ((entity (name 2 2 36) (Some (explicit ((bounds None (four (at 2 38) 2)) ∷ []))) None) ∷
    []))) ∷ []) no_statements []) ∷ [])) (looks (((2, One 1) ∷ (4, One 0) ∷ []) ∷ ((2, One 1) ∷ (4, One 0) ∷ []) ∷ [])) (1 ∷ 0 ∷ [])

--     program p; integer :: x(2) = [1, 2] + 1; end
-- 1:30: T7
abbrev pub t7_11 : Type 0
t7_11 = Finds (Some (broken 6 T7 1 30 None))
    (program (codes "p" ∷ codes "x" ∷ []) ((unit u.Program (name 0 1 9) ((declares (declaration (Integer Four) [] ((entity (name 1 1 23) (Some (explicit
    ((bounds None (four (at 1 25) 2)) ∷ []))) (Some (chain (array (at 1 30) (trees (four (at 1 31) 1) (trees (four (at 1 34) 2) no_trees))) (more o.Add
    (four (at 1 39) 1) no_more)))) ∷ []))) ∷ []) no_statements []) ∷ [])) (looks (((1, One 0) ∷ []) ∷ [])) (0 ∷ [])

--     program p; integer :: a(2); select case (a); case (1); end select; end
-- 1:42: T7
abbrev pub t7_12 : Type 0
t7_12 = Finds (Some (broken 6 T7 1 42 None))
    (program (codes "p" ∷ codes "a" ∷ []) ((unit u.Program (name 0 1 9) ((declares (declaration (Integer Four) [] ((entity (name 1 1 23) (Some (explicit
    ((bounds None (four (at 1 25) 2)) ∷ []))) None) ∷ []))) ∷ []) (statements (selects (at 1 29) (designator (parts (name 1 1 42) bare no_parts))
    (case_block (at 1 46) (values ((one (four (at 1 52) 1)) ∷ [])) no_statements no_cases)) no_statements) []) ∷ [])) (looks (((1, One 0) ∷ []) ∷ [])) (0
    ∷ [])

--     program p; select case ([1, 2]); case (.true.); end select; end
-- 1:25: T7
abbrev pub t7_13 : Type 0
t7_13 = Finds (Some (broken 6 T7 1 25 None))
    (program (codes "p" ∷ []) ((unit u.Program (name 0 1 9) [] (statements (selects (at 1 12) (array (at 1 25) (trees (four (at 1 26) 1) (trees (four (at 1
    29) 2) no_trees))) (case_block (at 1 34) (values ((one (truth (at 1 40) true)) ∷ [])) no_statements no_cases)) no_statements) []) ∷ [])) (looks ([] ∷
    [])) (0 ∷ [])

--     program p; use m; x = t([1, 2]); y = u([1, 2]); end
--     module m; type t; integer :: i; end type; type u; integer, allocatable :: a(:); end type; type(t) :: x; type(u) :: y; end
-- 1:25: T7
abbrev pub t7_14 : Type 0
t7_14 = Finds (Some (broken 6 T7 1 25 None))
    (program (codes "p" ∷ codes "x" ∷ codes "t" ∷ codes "y" ∷ codes "u" ∷ codes "m" ∷ codes "i" ∷ codes "a" ∷ []) ((unit u.Program (name 0 1 9) [] (statements
    (acts (at 1 19) (assign (parts (name 1 1 19) bare no_parts) (designator (parts (name 2 1 23) (within (arguments (value None (array (at 1 25) (trees
    (four (at 1 26) 1) (trees (four (at 1 29) 2) no_trees)))) no_arguments)) no_parts)))) (statements (acts (at 1 34) (assign (parts (name 3 1 34) bare
    no_parts) (designator (parts (name 4 1 38) (within (arguments (value None (array (at 1 40) (trees (four (at 1 41) 1) (trees (four (at 1 44) 2)
    no_trees)))) no_arguments)) no_parts)))) no_statements)) []) ∷ (unit u.Module (name 5 2 8) ((type_definition (name 2 2 16) false ((declaration
    (Integer Four) [] ((entity (name 6 2 30) None None) ∷ [])) ∷ []) []) ∷ (type_definition (name 4 2 48) false ((declaration (Integer Four) (allocatable
    ∷ []) ((entity (name 7 2 75) (Some (deferred (None ∷ []))) None) ∷ [])) ∷ []) []) ∷ (declares (declaration (Derived (name 2 2 96)) [] ((entity (name 1
    2 102) None None) ∷ []))) ∷ (declares (declaration (Derived (name 4 2 110)) [] ((entity (name 3 2 116) None None) ∷ []))) ∷ []) no_statements []) ∷
    [])) (looks (((1, One 2) ∷ (2, One 0) ∷ (3, One 3) ∷ (4, One 1) ∷ []) ∷ ((1, One 2) ∷ (2, One 0) ∷ (3, One 3) ∷ (4, One 1) ∷ []) ∷ [])) (1 ∷ 0 ∷ [])

--     program p; use m; y = u(1); end
--     module m; type u; integer, allocatable :: a(:); end type; type(u) :: y; end
-- 1:25: T7
abbrev pub t7_15 : Type 0
t7_15 = Finds (Some (broken 6 T7 1 25 None))
    (program (codes "p" ∷ codes "y" ∷ codes "u" ∷ codes "m" ∷ codes "a" ∷ []) ((unit u.Program (name 0 1 9) [] (statements (acts (at 1 19) (assign (parts
    (name 1 1 19) bare no_parts) (designator (parts (name 2 1 23) (within (arguments (value None (four (at 1 25) 1)) no_arguments)) no_parts))))
    no_statements) []) ∷ (unit u.Module (name 3 2 8) ((type_definition (name 2 2 16) false ((declaration (Integer Four) (allocatable ∷ []) ((entity (name
    4 2 43) (Some (deferred (None ∷ []))) None) ∷ [])) ∷ []) []) ∷ (declares (declaration (Derived (name 2 2 64)) [] ((entity (name 1 2 70) None None) ∷
    []))) ∷ []) no_statements []) ∷ [])) (looks (((1, One 1) ∷ (2, One 0) ∷ []) ∷ ((1, One 1) ∷ (2, One 0) ∷ []) ∷ [])) (1 ∷ 0 ∷ [])

--     program p; use m; integer :: t; x = t(1); end
--     module m; integer :: x; end
-- 1:37: T7
abbrev pub t7_16 : Type 0
t7_16 = Finds (Some (broken 6 T7 1 37 None))
    (program (codes "p" ∷ codes "t" ∷ codes "x" ∷ codes "m" ∷ []) ((unit u.Program (name 0 1 9) ((declares (declaration (Integer Four) [] ((entity (name 1 1
    30) None None) ∷ []))) ∷ []) (statements (acts (at 1 33) (assign (parts (name 2 1 33) bare no_parts) (designator (parts (name 1 1 37) (within
    (arguments (value None (four (at 1 39) 1)) no_arguments)) no_parts)))) no_statements) []) ∷ (unit u.Module (name 3 2 8) ((declares (declaration
    (Integer Four) [] ((entity (name 2 2 22) None None) ∷ []))) ∷ []) no_statements []) ∷ [])) (looks (((1, One 0) ∷ (2, One 1) ∷ []) ∷ ((2, One 1) ∷ [])
    ∷ [])) (1 ∷ 0 ∷ [])

abbrev pub T7Show : Type 0
T7Show = t7_1 × t7_2 × t7_3 × t7_4 × t7_5 × t7_6 × t7_7 × t7_8 × t7_9 × t7_10 × t7_11 × t7_12 × t7_13 × t7_14 × t7_15 × t7_16
