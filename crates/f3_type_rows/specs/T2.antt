-- Programs, each in the text above it, with what refuses it.
use Rattle.std.specs.Prelude.{true, false, [], ◌∷◌, None, Some, codes}
use Rattle.f3_lookups.specs.declared.lookup.Lookup.TheVariants.{One}
use Rattle.f3_rules.specs.declared.rule.Rule.TheVariants.{T2}
use Rattle.f3_tree.specs.declared.expression.Sign.TheVariants.{Plus, Minus}
use Rattle.f3_tree.specs.declared.expression.Operator.TheVariants as o
use Rattle.f3_tree.specs.declared.expression.IntegerKind.TheVariants.{Four}
use Rattle.f3_tree.specs.declared.declaration.Intent.TheVariants.{In}
use Rattle.f3_tree.specs.declared.declaration.TypeSpecifier.TheVariants.{Integer, Derived}
use Rattle.f3_tree.specs.declared.program.ProcedureKind.TheVariants.{Subroutine, Function}
use Rattle.f3_tree.specs.declared.program.UnitKind.TheVariants as u
use Rattle.f3_tree.specs.Expressions.{truth, text, designator, group, array, signed, chain, no_more, more, no_trees, trees, no_parts, parts}
use Rattle.f3_tree.specs.Expressions.{bare, within, no_arguments, arguments, value}
use Rattle.f3_tree.specs.Declarations.{explicit, parameter, dimension, intent, declares}
use Rattle.f3_tree.specs.Statements.{assign, one, up_to, values}
use Rattle.f3_tree.specs.Statements.{acts, selects, associates, no_statements, statements}
use Rattle.f3_tree.specs.Statements.{no_cases, case_block}
use Rattle.f3_type_rows.specs.Build.{Finds, at, name, four, bounds, entity, declaration, type_definition, procedure, unit, association, program, looks, broken}

--     program p; integer, parameter :: n = 1/0; end
-- 1:38: T2
abbrev pub t2_1 : Type 0
t2_1 = Finds (Some (broken 5 T2 1 38 None))
    (program (codes "p" ∷ codes "n" ∷ []) ((unit u.Program (name 0 1 9) ((declares (declaration (Integer Four) (parameter ∷ []) ((entity (name 1 1 34) None
    (Some (chain (four (at 1 38) 1) (more o.Divide (four (at 1 40) 0) no_more)))) ∷ []))) ∷ []) no_statements []) ∷ [])) (looks (((1, One 0) ∷ []) ∷ []))
    (0 ∷ [])

--     program p; integer :: x = 'a'; end
-- 1:27: T2
abbrev pub t2_2 : Type 0
t2_2 = Finds (Some (broken 5 T2 1 27 None))
    (program (codes "p" ∷ codes "x" ∷ []) ((unit u.Program (name 0 1 9) ((declares (declaration (Integer Four) [] ((entity (name 1 1 23) None (Some (text (at
    1 27) 0))) ∷ []))) ∷ []) no_statements []) ∷ [])) (looks (((1, One 0) ∷ []) ∷ [])) (0 ∷ [])

--     program p; select case (3); case ('a'); end select; end
-- 1:35: T2
abbrev pub t2_3 : Type 0
t2_3 = Finds (Some (broken 6 T2 1 35 None))
    (program (codes "p" ∷ []) ((unit u.Program (name 0 1 9) [] (statements (selects (at 1 12) (four (at 1 25) 3) (case_block (at 1 29) (values ((one (text (at
    1 35) 0)) ∷ [])) no_statements no_cases)) no_statements) []) ∷ [])) (looks ([] ∷ [])) (0 ∷ [])

--     program p; use m; integer :: x = f; end
--     module m; contains; function f(); integer :: f; f = 1; end; end
-- 1:34: T2
abbrev pub t2_4 : Type 0
t2_4 = Finds (Some (broken 5 T2 1 34 None))
    (program (codes "p" ∷ codes "x" ∷ codes "f" ∷ codes "m" ∷ []) ((unit u.Program (name 0 1 9) ((declares (declaration (Integer Four) [] ((entity (name 1 1
    30) None (Some (designator (parts (name 2 1 34) bare no_parts)))) ∷ []))) ∷ []) no_statements []) ∷ (unit u.Module (name 3 2 8) [] no_statements
    ((procedure false (Function None None) (name 2 2 30) [] ((declares (declaration (Integer Four) [] ((entity (name 2 2 46) None None) ∷ []))) ∷ [])
    (statements (acts (at 2 49) (assign (parts (name 2 2 49) bare no_parts) (four (at 2 53) 1))) no_statements)) ∷ [])) ∷ [])) (looks (((1, One 0) ∷ (
      2,
      One 1,
    ) ∷ []) ∷ ((2, One 1) ∷ []) ∷ ((2, One 2) ∷ []) ∷ [])) (1 ∷ 0 ∷ [])

--     program p; use m; integer :: x = n; end
--     module m; integer, parameter :: n = 1/0; end
-- 1:34: T2
abbrev pub t2_5 : Type 0
t2_5 = Finds (Some (broken 5 T2 1 34 None))
    (program (codes "p" ∷ codes "x" ∷ codes "n" ∷ codes "m" ∷ []) ((unit u.Program (name 0 1 9) ((declares (declaration (Integer Four) [] ((entity (name 1 1
    30) None (Some (designator (parts (name 2 1 34) bare no_parts)))) ∷ []))) ∷ []) no_statements []) ∷ (unit u.Module (name 3 2 8) ((declares
    (declaration (Integer Four) (parameter ∷ []) ((entity (name 2 2 33) None (Some (chain (four (at 2 37) 1) (more o.Divide (four (at 2 39) 0) no_more))))
    ∷ []))) ∷ []) no_statements []) ∷ [])) (looks (((1, One 0) ∷ (2, One 1) ∷ []) ∷ ((2, One 1) ∷ []) ∷ [])) (1 ∷ 0 ∷ [])

--     program p; integer :: a(2) = ([1, 2]); end
-- 1:30: T2
abbrev pub t2_6 : Type 0
t2_6 = Finds (Some (broken 5 T2 1 30 None))
    (program (codes "p" ∷ codes "a" ∷ []) ((unit u.Program (name 0 1 9) ((declares (declaration (Integer Four) [] ((entity (name 1 1 23) (Some (explicit
    ((bounds None (four (at 1 25) 2)) ∷ []))) (Some (group (at 1 30) (array (at 1 31) (trees (four (at 1 32) 1) (trees (four (at 1 35) 2) no_trees)))))) ∷
    []))) ∷ []) no_statements []) ∷ [])) (looks (((1, One 0) ∷ []) ∷ [])) (0 ∷ [])

--     program p; integer :: n; integer, dimension(n) :: a(2); end
-- 1:45: T2
abbrev pub t2_7 : Type 0
t2_7 = Finds (Some (broken 5 T2 1 45 None))
    (program (codes "p" ∷ codes "n" ∷ codes "a" ∷ []) ((unit u.Program (name 0 1 9) ((declares (declaration (Integer Four) [] ((entity (name 1 1 23) None
    None) ∷ []))) ∷ (declares (declaration (Integer Four) ((dimension (explicit ((bounds None (designator (parts (name 1 1 45) bare no_parts))) ∷ []))) ∷
    []) ((entity (name 2 1 51) (Some (explicit ((bounds None (four (at 1 53) 2)) ∷ []))) None) ∷ []))) ∷ []) no_statements []) ∷ [])) (looks (((1, One 0)
    ∷ (2, One 1) ∷ []) ∷ [])) (0 ∷ [])

--     program p; integer, parameter :: n = 2; associate (z => n); select case (2); case (z); end select; end associate; end
-- 1:84: T2
abbrev pub t2_8 : Type 0
t2_8 = Finds (Some (broken 6 T2 1 84 None))
    (program (codes "p" ∷ codes "n" ∷ codes "z" ∷ []) ((unit u.Program (name 0 1 9) ((declares (declaration (Integer Four) (parameter ∷ []) ((entity (name 1 1
    34) None (Some (four (at 1 38) 2))) ∷ []))) ∷ []) (statements (associates (at 1 41) ((association (name 2 1 52) (designator (parts (name 1 1 57) bare
    no_parts))) ∷ []) (statements (selects (at 1 61) (four (at 1 74) 2) (case_block (at 1 78) (values ((one (designator (parts (name 2 1 84) bare
    no_parts))) ∷ [])) no_statements no_cases)) no_statements)) no_statements) []) ∷ [])) (looks (((1, One 0) ∷ []) ∷ ((1, One 0) ∷ (2, One 1) ∷ []) ∷
    [])) (0 ∷ [])

--     program p; integer :: a(2 ** 3 ** 0) = [1]; end
-- 1:40: T2
abbrev pub t2_9 : Type 0
t2_9 = Finds (Some (broken 5 T2 1 40 None))
    (program (codes "p" ∷ codes "a" ∷ []) ((unit u.Program (name 0 1 9) ((declares (declaration (Integer Four) [] ((entity (name 1 1 23) (Some (explicit
    ((bounds None (chain (four (at 1 25) 2) (more o.Power (four (at 1 30) 3) (more o.Power (four (at 1 35) 0) no_more)))) ∷ []))) (Some (array (at 1 40)
    (trees (four (at 1 41) 1) no_trees)))) ∷ []))) ∷ []) no_statements []) ∷ [])) (looks (((1, One 0) ∷ []) ∷ [])) (0 ∷ [])

--     program p; integer :: a((-7) / 2 + 5) = [1]; end
-- 1:41: T2
abbrev pub t2_10 : Type 0
t2_10 = Finds (Some (broken 5 T2 1 41 None))
    (program (codes "p" ∷ codes "a" ∷ []) ((unit u.Program (name 0 1 9) ((declares (declaration (Integer Four) [] ((entity (name 1 1 23) (Some (explicit
    ((bounds None (chain (chain (group (at 1 25) (signed (at 1 26) Minus (four (at 1 27) 7))) (more o.Divide (four (at 1 32) 2) no_more)) (more o.Add
    (four (at 1 36) 5) no_more))) ∷ []))) (Some (array (at 1 41) (trees (four (at 1 42) 1) no_trees)))) ∷ []))) ∷ []) no_statements []) ∷ [])) (looks
    (((1, One 0) ∷ []) ∷ [])) (0 ∷ [])

--     program p; integer :: a(2:3, -1:-1), b(-1:0) = [1, 2], c(+2) = [1]; end
-- 1:64: T2
abbrev pub t2_11 : Type 0
t2_11 = Finds (Some (broken 5 T2 1 64 None))
    (program (codes "p" ∷ codes "a" ∷ codes "b" ∷ codes "c" ∷ []) ((unit u.Program (name 0 1 9) ((declares (declaration (Integer Four) [] ((entity (name 1 1
    23) (Some (explicit ((bounds (Some (four (at 1 25) 2)) (four (at 1 27) 3)) ∷ (bounds (Some (signed (at 1 30) Minus (four (at 1 31) 1))) (signed (at 1
    33) Minus (four (at 1 34) 1))) ∷ []))) None) ∷ (entity (name 2 1 38) (Some (explicit ((bounds (Some (signed (at 1 40) Minus (four (at 1 41) 1))) (four
    (at 1 43) 0)) ∷ []))) (Some (array (at 1 48) (trees (four (at 1 49) 1) (trees (four (at 1 52) 2) no_trees))))) ∷ (entity (name 3 1 56) (Some (explicit
    ((bounds None (signed (at 1 58) Plus (four (at 1 59) 2))) ∷ []))) (Some (array (at 1 64) (trees (four (at 1 65) 1) no_trees)))) ∷ []))) ∷ [])
    no_statements []) ∷ [])) (looks (((1, One 0) ∷ (2, One 1) ∷ (3, One 2) ∷ []) ∷ [])) (0 ∷ [])

--     program p; integer :: a((-1) ** 3 + 3) = [1, 2], b(2 ** (-1) + 2) = [1, 2], c(1 ** (-2)) = [1], d((-1) ** (-2)) = [1], e((-3) ** (-2)) = [1];
--         end
-- 1:138: T2
abbrev pub t2_12 : Type 0
t2_12 = Finds (Some (broken 5 T2 1 138 None))
    (program (codes "p" ∷ codes "a" ∷ codes "b" ∷ codes "c" ∷ codes "d" ∷ codes "e" ∷ []) ((unit u.Program (name 0 1 9) ((declares (declaration (Integer Four)
    [] ((entity (name 1 1 23) (Some (explicit ((bounds None (chain (chain (group (at 1 25) (signed (at 1 26) Minus (four (at 1 27) 1))) (more o.Power
    (four (at 1 33) 3) no_more)) (more o.Add (four (at 1 37) 3) no_more))) ∷ []))) (Some (array (at 1 42) (trees (four (at 1 43) 1) (trees (four (at 1 46)
    2) no_trees))))) ∷ (entity (name 2 1 50) (Some (explicit ((bounds None (chain (chain (four (at 1 52) 2) (more o.Power (group (at 1 57) (signed (at 1
    58) Minus (four (at 1 59) 1))) no_more)) (more o.Add (four (at 1 64) 2) no_more))) ∷ []))) (Some (array (at 1 69) (trees (four (at 1 70) 1) (trees
    (four (at 1 73) 2) no_trees))))) ∷ (entity (name 3 1 77) (Some (explicit ((bounds None (chain (four (at 1 79) 1) (more o.Power (group (at 1 84)
    (signed (at 1 85) Minus (four (at 1 86) 2))) no_more))) ∷ []))) (Some (array (at 1 92) (trees (four (at 1 93) 1) no_trees)))) ∷ (entity (name 4 1 97)
    (Some (explicit ((bounds None (chain (group (at 1 99) (signed (at 1 100) Minus (four (at 1 101) 1))) (more o.Power (group (at 1 107) (signed (at 1
    108) Minus (four (at 1 109) 2))) no_more))) ∷ []))) (Some (array (at 1 115) (trees (four (at 1 116) 1) no_trees)))) ∷ (entity (name 5 1 120) (Some
    (explicit ((bounds None (chain (group (at 1 122) (signed (at 1 123) Minus (four (at 1 124) 3))) (more o.Power (group (at 1 130) (signed (at 1 131)
    Minus (four (at 1 132) 2))) no_more))) ∷ []))) (Some (array (at 1 138) (trees (four (at 1 139) 1) no_trees)))) ∷ []))) ∷ []) no_statements []) ∷ []))
    (looks (((1, One 0) ∷ (2, One 1) ∷ (3, One 2) ∷ (4, One 3) ∷ (5, One 4) ∷ []) ∷ [])) (0 ∷ [])

--     program p; select case (.true.); case (:.true.); end select; end
-- 1:41: T2
abbrev pub t2_13 : Type 0
t2_13 = Finds (Some (broken 6 T2 1 41 None))
    (program (codes "p" ∷ []) ((unit u.Program (name 0 1 9) [] (statements (selects (at 1 12) (truth (at 1 25) true) (case_block (at 1 34) (values ((up_to (at
    1 40) (truth (at 1 41) true)) ∷ [])) no_statements no_cases)) no_statements) []) ∷ [])) (looks ([] ∷ [])) (0 ∷ [])

--     program p; integer :: t; type(t) :: x; integer :: y = 1/0; end
-- 1:55: T2
abbrev pub t2_14 : Type 0
t2_14 = Finds (Some (broken 5 T2 1 55 None))
    (program (codes "p" ∷ codes "t" ∷ codes "x" ∷ codes "y" ∷ []) ((unit u.Program (name 0 1 9) ((declares (declaration (Integer Four) [] ((entity (name 1 1
    23) None None) ∷ []))) ∷ (declares (declaration (Derived (name 1 1 31)) [] ((entity (name 2 1 37) None None) ∷ []))) ∷ (declares (declaration (Integer
    Four) [] ((entity (name 3 1 51) None (Some (chain (four (at 1 55) 1) (more o.Divide (four (at 1 57) 0) no_more)))) ∷ []))) ∷ []) no_statements []) ∷
    [])) (looks (((1, One 0) ∷ (2, One 1) ∷ (3, One 2) ∷ []) ∷ [])) (0 ∷ [])

--     program p; use m; integer :: n = x(1); end
--     module m; type t; integer :: i; end type; type(t) :: x; end
-- 1:34: T2
abbrev pub t2_15 : Type 0
t2_15 = Finds (Some (broken 5 T2 1 34 None))
    (program (codes "p" ∷ codes "n" ∷ codes "x" ∷ codes "m" ∷ codes "t" ∷ codes "i" ∷ []) ((unit u.Program (name 0 1 9) ((declares (declaration (Integer Four)
    [] ((entity (name 1 1 30) None (Some (designator (parts (name 2 1 34) (within (arguments (value None (four (at 1 36) 1)) no_arguments)) no_parts)))) ∷
    []))) ∷ []) no_statements []) ∷ (unit u.Module (name 3 2 8) ((type_definition (name 4 2 16) false ((declaration (Integer Four) [] ((entity (name 5 2
    30) None None) ∷ [])) ∷ []) []) ∷ (declares (declaration (Derived (name 4 2 48)) [] ((entity (name 2 2 54) None None) ∷ []))) ∷ []) no_statements [])
    ∷ [])) (looks (((1, One 0) ∷ (2, One 2) ∷ (4, One 1) ∷ []) ∷ ((2, One 2) ∷ (4, One 1) ∷ []) ∷ [])) (1 ∷ 0 ∷ [])

--     program p; use m; integer :: x = c; end
--     module m; integer, parameter :: c = .true.; end
-- 1:34: T2
abbrev pub t2_16 : Type 0
t2_16 = Finds (Some (broken 5 T2 1 34 None))
    (program (codes "p" ∷ codes "x" ∷ codes "c" ∷ codes "m" ∷ []) ((unit u.Program (name 0 1 9) ((declares (declaration (Integer Four) [] ((entity (name 1 1
    30) None (Some (designator (parts (name 2 1 34) bare no_parts)))) ∷ []))) ∷ []) no_statements []) ∷ (unit u.Module (name 3 2 8) ((declares
    (declaration (Integer Four) (parameter ∷ []) ((entity (name 2 2 33) None (Some (truth (at 2 37) true))) ∷ []))) ∷ []) no_statements []) ∷ [])) (looks
    (((1, One 0) ∷ (2, One 1) ∷ []) ∷ ((2, One 1) ∷ []) ∷ [])) (1 ∷ 0 ∷ [])

--     program p; use m; integer :: x = c; end
--     module m; integer, parameter :: c = 1 + 'a'; end
-- 1:34: T2
abbrev pub t2_17 : Type 0
t2_17 = Finds (Some (broken 5 T2 1 34 None))
    (program (codes "p" ∷ codes "x" ∷ codes "c" ∷ codes "m" ∷ []) ((unit u.Program (name 0 1 9) ((declares (declaration (Integer Four) [] ((entity (name 1 1
    30) None (Some (designator (parts (name 2 1 34) bare no_parts)))) ∷ []))) ∷ []) no_statements []) ∷ (unit u.Module (name 3 2 8) ((declares
    (declaration (Integer Four) (parameter ∷ []) ((entity (name 2 2 33) None (Some (chain (four (at 2 37) 1) (more o.Add (text (at 2 41) 0) no_more)))) ∷
    []))) ∷ []) no_statements []) ∷ [])) (looks (((1, One 0) ∷ (2, One 1) ∷ []) ∷ ((2, One 1) ∷ []) ∷ [])) (1 ∷ 0 ∷ [])

--     program p; use m; integer :: n = t(1); end
--     module m; type t; integer :: i; contains; final :: s; end type; contains; subroutine s(x); type(t), intent(in) :: x; end; end
-- 1:34: T2
abbrev pub t2_18 : Type 0
t2_18 = Finds (Some (broken 5 T2 1 34 None))
    (program (codes "p" ∷ codes "n" ∷ codes "t" ∷ codes "m" ∷ codes "i" ∷ codes "s" ∷ codes "x" ∷ []) ((unit u.Program (name 0 1 9) ((declares (declaration
    (Integer Four) [] ((entity (name 1 1 30) None (Some (designator (parts (name 2 1 34) (within (arguments (value None (four (at 1 36) 1)) no_arguments))
    no_parts)))) ∷ []))) ∷ []) no_statements []) ∷ (unit u.Module (name 3 2 8) ((type_definition (name 2 2 16) false ((declaration (Integer Four) []
    ((entity (name 4 2 30) None None) ∷ [])) ∷ []) ((name 5 2 52) ∷ [])) ∷ []) no_statements ((procedure false Subroutine (name 5 2 86) ((name 6 2 88) ∷
    []) ((declares (declaration (Derived (name 2 2 97)) ((intent In) ∷ []) ((entity (name 6 2 115) None None) ∷ []))) ∷ []) no_statements) ∷ [])) ∷ []))
    (looks (((1, One 0) ∷ (2, One 1) ∷ (5, One 2) ∷ []) ∷ ((2, One 1) ∷ (5, One 2) ∷ []) ∷ ((2, One 1) ∷ (5, One 2) ∷ (6, One 3) ∷ []) ∷ [])) (1 ∷ 0 ∷ [])

--     program p; use m; integer :: n = c%i; end
--     module m; type(t) :: c; type t; integer :: i; end type; end
-- 1:34: T2
abbrev pub t2_19 : Type 0
t2_19 = Finds (Some (broken 5 T2 1 34 None))
    (program (codes "p" ∷ codes "n" ∷ codes "c" ∷ codes "i" ∷ codes "m" ∷ codes "t" ∷ []) ((unit u.Program (name 0 1 9) ((declares (declaration (Integer Four)
    [] ((entity (name 1 1 30) None (Some (designator (parts (name 2 1 34) bare (parts (name 3 1 36) bare no_parts))))) ∷ []))) ∷ []) no_statements []) ∷
    (unit u.Module (name 4 2 8) ((declares (declaration (Derived (name 5 2 16)) [] ((entity (name 2 2 22) None None) ∷ []))) ∷ (type_definition (name 5 2
    30) false ((declaration (Integer Four) [] ((entity (name 3 2 44) None None) ∷ [])) ∷ []) []) ∷ []) no_statements []) ∷ [])) (looks (((1, One 0) ∷ (
      2,
      One 1,
    ) ∷ (5, One 2) ∷ []) ∷ ((2, One 1) ∷ (5, One 2) ∷ []) ∷ [])) (1 ∷ 0 ∷ [])

--     program p; integer :: x = 2147483647 + 1; end
-- 1:27: T2
abbrev pub t2_20 : Type 0
t2_20 = Finds (Some (broken 5 T2 1 27 None))
    (program (codes "p" ∷ codes "x" ∷ []) ((unit u.Program (name 0 1 9) ((declares (declaration (Integer Four) [] ((entity (name 1 1 23) None (Some (chain
    (four (at 1 27) 2147483647) (more o.Add (four (at 1 40) 1) no_more)))) ∷ []))) ∷ []) no_statements []) ∷ [])) (looks (((1, One 0) ∷ []) ∷ [])) (0 ∷
    [])

--     program p; integer, parameter :: n = -2147483647 - 1; integer :: x = -n; end
-- 1:70: T2
abbrev pub t2_21 : Type 0
t2_21 = Finds (Some (broken 5 T2 1 70 None))
    (program (codes "p" ∷ codes "n" ∷ codes "x" ∷ []) ((unit u.Program (name 0 1 9) ((declares (declaration (Integer Four) (parameter ∷ []) ((entity (name 1 1
    34) None (Some (chain (signed (at 1 38) Minus (four (at 1 39) 2147483647)) (more o.Subtract (four (at 1 52) 1) no_more)))) ∷ []))) ∷ (declares
    (declaration (Integer Four) [] ((entity (name 2 1 66) None (Some (signed (at 1 70) Minus (designator (parts (name 1 1 71) bare no_parts))))) ∷ []))) ∷
    []) no_statements []) ∷ [])) (looks (((1, One 0) ∷ (2, One 1) ∷ []) ∷ [])) (0 ∷ [])

--     program p; integer :: x = 1 / 0; end
-- 1:27: T2
abbrev pub t2_22 : Type 0
t2_22 = Finds (Some (broken 5 T2 1 27 None))
    (program (codes "p" ∷ codes "x" ∷ []) ((unit u.Program (name 0 1 9) ((declares (declaration (Integer Four) [] ((entity (name 1 1 23) None (Some (chain
    (four (at 1 27) 1) (more o.Divide (four (at 1 31) 0) no_more)))) ∷ []))) ∷ []) no_statements []) ∷ [])) (looks (((1, One 0) ∷ []) ∷ [])) (0 ∷ [])

--     program p; integer :: x = 2 ** 31; end
-- 1:27: T2
abbrev pub t2_23 : Type 0
t2_23 = Finds (Some (broken 5 T2 1 27 None))
    (program (codes "p" ∷ codes "x" ∷ []) ((unit u.Program (name 0 1 9) ((declares (declaration (Integer Four) [] ((entity (name 1 1 23) None (Some (chain
    (four (at 1 27) 2) (more o.Power (four (at 1 32) 31) no_more)))) ∷ []))) ∷ []) no_statements []) ∷ [])) (looks (((1, One 0) ∷ []) ∷ [])) (0 ∷ [])

abbrev pub T2Show : Type 0
T2Show = t2_1 × t2_2 × t2_3 × t2_4 × t2_5 × t2_6 × t2_7 × t2_8 × t2_9 × t2_10 × t2_11 × t2_12 × t2_13 × t2_14 × t2_15 × t2_16 × t2_17 × t2_18 × t2_19 × t2_20
    × t2_21 × t2_22 × t2_23
