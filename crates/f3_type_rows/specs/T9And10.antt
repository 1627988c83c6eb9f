-- Programs, each in the text above it, with what refuses it.
use Rattle.std.specs.Prelude.{false, [], ◌∷◌, None, Some, codes}
use Rattle.f3_lookups.specs.declared.lookup.Lookup.TheVariants.{One}
use Rattle.f3_rules.specs.declared.rule.Rule.TheVariants.{T9}
use Rattle.f3_tree.specs.declared.expression.Operator.TheVariants as o
use Rattle.f3_tree.specs.declared.expression.IntegerKind.TheVariants.{Four}
use Rattle.f3_tree.specs.declared.declaration.Intent.TheVariants.{In}
use Rattle.f3_tree.specs.declared.declaration.TypeSpecifier.TheVariants.{Integer, Derived}
use Rattle.f3_tree.specs.declared.program.ProcedureKind.TheVariants.{Subroutine, Function}
use Rattle.f3_tree.specs.declared.program.UnitKind.TheVariants as u
use Rattle.f3_tree.specs.Expressions.{designator, chain, no_more, more, no_parts, parts}
use Rattle.f3_tree.specs.Expressions.{bare, within, no_arguments, arguments, value}
use Rattle.f3_tree.specs.Declarations.{explicit, deferred, parameter, allocatable, intent, declares}
use Rattle.f3_tree.specs.Statements.{assign, call, allocate, deallocate, print}
use Rattle.f3_tree.specs.Statements.{acts, associates, no_statements, statements}
use Rattle.f3_type_rows.specs.Build.{Finds, at, name, four, bounds, entity, declaration, type_definition, procedure, unit, association, program, looks, broken}

--     program p; print *, abs; end
-- 1:21: T9: abs
abbrev pub t9_1 : Type 0
t9_1 = Finds (Some (broken 6 T9 1 21 (Some 2)))
    (program (codes "p" ∷ codes "print" ∷ codes "abs" ∷ []) ((unit u.Program (name 0 1 9) [] (statements (acts (at 1 12) (print ((designator (parts (name 2 1
    21) bare no_parts)) ∷ []))) no_statements) []) ∷ [])) (looks ([] ∷ [])) (0 ∷ [])

--     program p; use m; integer :: x = 1 + f; end
--     module m; contains; function f(); integer :: f; f = 1; end; end
-- 1:38: T9: f
abbrev pub t9_2 : Type 0
t9_2 = Finds (Some (broken 6 T9 1 38 (Some 2)))
    (program (codes "p" ∷ codes "x" ∷ codes "f" ∷ codes "m" ∷ []) ((unit u.Program (name 0 1 9) ((declares (declaration (Integer Four) [] ((entity (name 1 1
    30) None (Some (chain (four (at 1 34) 1) (more o.Add (designator (parts (name 2 1 38) bare no_parts)) no_more)))) ∷ []))) ∷ []) no_statements []) ∷
    (unit u.Module (name 3 2 8) [] no_statements ((procedure false (Function None None) (name 2 2 30) [] ((declares (declaration (Integer Four) []
    ((entity (name 2 2 46) None None) ∷ []))) ∷ []) (statements (acts (at 2 49) (assign (parts (name 2 2 49) bare no_parts) (four (at 2 53) 1)))
    no_statements)) ∷ [])) ∷ [])) (looks (((1, One 0) ∷ (2, One 1) ∷ []) ∷ ((2, One 1) ∷ []) ∷ ((2, One 2) ∷ []) ∷ [])) (1 ∷ 0 ∷ [])

--     module m; type t; integer :: c(3); end type; end
--     program p; use m; type(t) :: x; allocate(x%c(3)); end
-- 2:42: T9: x
abbrev pub t9_3 : Type 0
t9_3 = Finds (Some (broken 6 T9 2 42 (Some 4)))
    (program (codes "m" ∷ codes "t" ∷ codes "c" ∷ codes "p" ∷ codes "x" ∷ codes "allocate" ∷ []) ((unit u.Module (name 0 1 8) ((type_definition (name 1 1 16)
    false ((declaration (Integer Four) [] ((entity (name 2 1 30) (Some (explicit ((bounds None (four (at 1 32) 3)) ∷ []))) None) ∷ [])) ∷ []) []) ∷ [])
    no_statements []) ∷ (unit u.Program (name 3 2 9) ((declares (declaration (Derived (name 1 2 24)) [] ((entity (name 4 2 30) None None) ∷ []))) ∷ [])
    (statements (acts (at 2 33) (allocate ((parts (name 4 2 42) bare (parts (name 2 2 44) (within (arguments (value None (four (at 2 46) 3))
    no_arguments)) no_parts)) ∷ []) None)) no_statements) []) ∷ [])) (looks (((1, One 0) ∷ []) ∷ ((1, One 0) ∷ (4, One 1) ∷ []) ∷ [])) (0 ∷ 1 ∷ [])

--     program p; integer, parameter :: n = 1; deallocate(n); end
-- 1:52: T9: n
abbrev pub t9_4 : Type 0
t9_4 = Finds (Some (broken 6 T9 1 52 (Some 1)))
    (program (codes "p" ∷ codes "n" ∷ codes "deallocate" ∷ []) ((unit u.Program (name 0 1 9) ((declares (declaration (Integer Four) (parameter ∷ []) ((entity
    (name 1 1 34) None (Some (four (at 1 38) 1))) ∷ []))) ∷ []) (statements (acts (at 1 41) (deallocate ((parts (name 1 1 52) bare no_parts) ∷ []) None))
    no_statements) []) ∷ [])) (looks (((1, One 0) ∷ []) ∷ [])) (0 ∷ [])

--     program p; use m; call f(1); print *, s(1); end
--     module m; contains; subroutine s(a); integer, intent(in) :: a; end; function f(a); integer, intent(in) :: a; integer :: f; f = a; end; end
-- 1:24: T9: f
abbrev pub t9_5 : Type 0
t9_5 = Finds (Some (broken 6 T9 1 24 (Some 2)))
    (program (codes "p" ∷ codes "call" ∷ codes "f" ∷ codes "print" ∷ codes "s" ∷ codes "m" ∷ codes "a" ∷ []) ((unit u.Program (name 0 1 9) [] (statements
    (acts (at 1 19) (call (name 2 1 24) ((value None (four (at 1 26) 1)) ∷ []))) (statements (acts (at 1 30) (print ((designator (parts (name 4 1 39)
    (within (arguments (value None (four (at 1 41) 1)) no_arguments)) no_parts)) ∷ []))) no_statements)) []) ∷ (unit u.Module (name 5 2 8) []
    no_statements ((procedure false Subroutine (name 4 2 32) ((name 6 2 34) ∷ []) ((declares (declaration (Integer Four) ((intent In) ∷ []) ((entity (name
    6 2 61) None None) ∷ []))) ∷ []) no_statements) ∷ (procedure false (Function None None) (name 2 2 78) ((name 6 2 80) ∷ []) ((declares (declaration
    (Integer Four) ((intent In) ∷ []) ((entity (name 6 2 107) None None) ∷ []))) ∷ (declares (declaration (Integer Four) [] ((entity (name 2 2 121) None
    None) ∷ []))) ∷ []) (statements (acts (at 2 124) (assign (parts (name 2 2 124) bare no_parts) (designator (parts (name 6 2 128) bare no_parts))))
    no_statements)) ∷ [])) ∷ [])) (looks (((2, One 1) ∷ (4, One 0) ∷ []) ∷ ((2, One 1) ∷ (4, One 0) ∷ []) ∷ ((2, One 1) ∷ (4, One 0) ∷ (6, One 2) ∷ []) ∷
    ((2, One 4) ∷ (4, One 0) ∷ (6, One 3) ∷ []) ∷ [])) (1 ∷ 0 ∷ [])

--     module m; contains; function f() result(r); integer :: r; r = 2; f = 3; end; end
--     program p; end
-- 1:66: T9: f
abbrev pub t9_6 : Type 0
t9_6 = Finds (Some (broken 6 T9 1 66 (Some 1)))
    (program (codes "m" ∷ codes "f" ∷ codes "r" ∷ codes "p" ∷ []) ((unit u.Module (name 0 1 8) [] no_statements ((procedure false (Function None (Some (name 2
    1 41))) (name 1 1 30) [] ((declares (declaration (Integer Four) [] ((entity (name 2 1 56) None None) ∷ []))) ∷ []) (statements (acts (at 1 59) (assign
    (parts (name 2 1 59) bare no_parts) (four (at 1 63) 2))) (statements (acts (at 1 66) (assign (parts (name 1 1 66) bare no_parts) (four (at 1 70) 3)))
    no_statements))) ∷ [])) ∷ (unit u.Program (name 3 2 9) [] no_statements []) ∷ [])) (looks (((1, One 0) ∷ []) ∷ ((1, One 0) ∷ (2, One 1) ∷ []) ∷ [] ∷
    [])) (0 ∷ 1 ∷ [])

--     program p; integer, allocatable :: a(:); associate (z => a); allocate(z(2)); end associate; end
-- 1:71: T9: z
abbrev pub t9_7 : Type 0
t9_7 = Finds (Some (broken 6 T9 1 71 (Some 2)))
    (program (codes "p" ∷ codes "a" ∷ codes "z" ∷ codes "allocate" ∷ []) ((unit u.Program (name 0 1 9) ((declares (declaration (Integer Four) (allocatable ∷
    []) ((entity (name 1 1 36) (Some (deferred (None ∷ []))) None) ∷ []))) ∷ []) (statements (associates (at 1 42) ((association (name 2 1 53) (designator
    (parts (name 1 1 58) bare no_parts))) ∷ []) (statements (acts (at 1 62) (allocate ((parts (name 2 1 71) (within (arguments (value None (four (at 1 73)
    2)) no_arguments)) no_parts) ∷ []) None)) no_statements)) no_statements) []) ∷ [])) (looks (((1, One 0) ∷ []) ∷ ((1, One 0) ∷ (2, One 1) ∷ []) ∷ []))
    (0 ∷ [])

--     module m; type t; integer :: c; end type; end
--     program p; use m; print *, t(1)%c; end
-- 2:28: T9: t
abbrev pub t9_8 : Type 0
t9_8 = Finds (Some (broken 6 T9 2 28 (Some 1)))
    (program (codes "m" ∷ codes "t" ∷ codes "c" ∷ codes "p" ∷ codes "print" ∷ []) ((unit u.Module (name 0 1 8) ((type_definition (name 1 1 16) false
    ((declaration (Integer Four) [] ((entity (name 2 1 30) None None) ∷ [])) ∷ []) []) ∷ []) no_statements []) ∷ (unit u.Program (name 3 2 9) []
    (statements (acts (at 2 19) (print ((designator (parts (name 1 2 28) (within (arguments (value None (four (at 2 30) 1)) no_arguments)) (parts (name 2
    2 33) bare no_parts))) ∷ []))) no_statements) []) ∷ [])) (looks (((1, One 0) ∷ []) ∷ ((1, One 0) ∷ []) ∷ [])) (0 ∷ 1 ∷ [])

--     program p; use m; print *, f; end
--     module m; contains; function f(); integer :: f; f = 1; end; end
-- 1:28: T9: f
abbrev pub t9_9 : Type 0
t9_9 = Finds (Some (broken 6 T9 1 28 (Some 2)))
    (program (codes "p" ∷ codes "print" ∷ codes "f" ∷ codes "m" ∷ []) ((unit u.Program (name 0 1 9) [] (statements (acts (at 1 19) (print ((designator (parts
    (name 2 1 28) bare no_parts)) ∷ []))) no_statements) []) ∷ (unit u.Module (name 3 2 8) [] no_statements ((procedure false (Function None None) (name 2
    2 30) [] ((declares (declaration (Integer Four) [] ((entity (name 2 2 46) None None) ∷ []))) ∷ []) (statements (acts (at 2 49) (assign (parts (name 2
    2 49) bare no_parts) (four (at 2 53) 1))) no_statements)) ∷ [])) ∷ [])) (looks (((2, One 0) ∷ []) ∷ ((2, One 0) ∷ []) ∷ ((2, One 1) ∷ []) ∷ [])) (1 ∷
    0 ∷ [])

--     program p; use m; f() = 3; end
--     module m; contains; function f(); integer :: f; f = 1; end; end
-- 1:19: T9: f
abbrev pub t9_10 : Type 0
t9_10 = Finds (Some (broken 6 T9 1 19 (Some 1)))
    (program (codes "p" ∷ codes "f" ∷ codes "m" ∷ []) ((unit u.Program (name 0 1 9) [] (statements (acts (at 1 19) (assign (parts (name 1 1 19) (within
    no_arguments) no_parts) (four (at 1 25) 3))) no_statements) []) ∷ (unit u.Module (name 2 2 8) [] no_statements ((procedure false (Function None None)
    (name 1 2 30) [] ((declares (declaration (Integer Four) [] ((entity (name 1 2 46) None None) ∷ []))) ∷ []) (statements (acts (at 2 49) (assign (parts
    (name 1 2 49) bare no_parts) (four (at 2 53) 1))) no_statements)) ∷ [])) ∷ [])) (looks (((1, One 0) ∷ []) ∷ ((1, One 0) ∷ []) ∷ ((1, One 1) ∷ []) ∷
    [])) (1 ∷ 0 ∷ [])

--     program p; integer :: t; type(t) :: x; end
-- 1:31: T9: t
abbrev pub t9_11 : Type 0
t9_11 = Finds (Some (broken 6 T9 1 31 (Some 1)))
    (program (codes "p" ∷ codes "t" ∷ codes "x" ∷ []) ((unit u.Program (name 0 1 9) ((declares (declaration (Integer Four) [] ((entity (name 1 1 23) None
    None) ∷ []))) ∷ (declares (declaration (Derived (name 1 1 31)) [] ((entity (name 2 1 37) None None) ∷ []))) ∷ []) no_statements []) ∷ [])) (looks
    (((1, One 0) ∷ (2, One 1) ∷ []) ∷ [])) (0 ∷ [])

--     program p; use m; integer :: n = s(f); end
--     module m; contains; function f(); integer :: f; f = 1; end; subroutine s(); end; end
-- 1:34: T9: s
abbrev pub t9_12 : Type 0
t9_12 = Finds (Some (broken 6 T9 1 34 (Some 3)))
    (program (codes "p" ∷ codes "n" ∷ codes "f" ∷ codes "s" ∷ codes "m" ∷ []) ((unit u.Program (name 0 1 9) ((declares (declaration (Integer Four) [] ((entity
    (name 1 1 30) None (Some (designator (parts (name 3 1 34) (within (arguments (value None (designator (parts (name 2 1 36) bare no_parts)))
    no_arguments)) no_parts)))) ∷ []))) ∷ []) no_statements []) ∷ (unit u.Module (name 4 2 8) [] no_statements ((procedure false (Function None None)
    (name 2 2 30) [] ((declares (declaration (Integer Four) [] ((entity (name 2 2 46) None None) ∷ []))) ∷ []) (statements (acts (at 2 49) (assign (parts
    (name 2 2 49) bare no_parts) (four (at 2 53) 1))) no_statements)) ∷ (procedure false Subroutine (name 3 2 72) [] [] no_statements) ∷ [])) ∷ []))
    (looks (((1, One 0) ∷ (2, One 1) ∷ (3, One 2) ∷ []) ∷ ((2, One 1) ∷ (3, One 2) ∷ []) ∷ ((2, One 3) ∷ (3, One 2) ∷ []) ∷ ((2, One 1) ∷ (3, One 2) ∷ [])
    ∷ [])) (1 ∷ 0 ∷ [])

--     program p; integer, parameter :: c = 1; allocate(c(undef)); end
-- 1:50: T9: c
abbrev pub t9_13 : Type 0
t9_13 = Finds (Some (broken 6 T9 1 50 (Some 1)))
    (program (codes "p" ∷ codes "c" ∷ codes "undef" ∷ codes "allocate" ∷ []) ((unit u.Program (name 0 1 9) ((declares (declaration (Integer Four) (parameter ∷
    []) ((entity (name 1 1 34) None (Some (four (at 1 38) 1))) ∷ []))) ∷ []) (statements (acts (at 1 41) (allocate ((parts (name 1 1 50) (within
    (arguments (value None (designator (parts (name 2 1 52) bare no_parts))) no_arguments)) no_parts) ∷ []) None)) no_statements) []) ∷ [])) (looks (((
      1,
      One 0,
    ) ∷ []) ∷ [])) (0 ∷ [])

--     program p; use m; print *, f(x); end
--     module m; integer :: t; type(t) :: x; contains; function f(a, b); integer, intent(in) :: a, b; integer :: f; f = a; end; end
-- 2:30: T9: t
abbrev pub t9_14 : Type 0
t9_14 = Finds (Some (broken 6 T9 2 30 (Some 5)))
    (program (codes "p" ∷ codes "print" ∷ codes "x" ∷ codes "f" ∷ codes "m" ∷ codes "t" ∷ codes "a" ∷ codes "b" ∷ []) ((unit u.Program (name 0 1 9) []
    (statements (acts (at 1 19) (print ((designator (parts (name 3 1 28) (within (arguments (value None (designator (parts (name 2 1 30) bare no_parts)))
    no_arguments)) no_parts)) ∷ []))) no_statements) []) ∷ (unit u.Module (name 4 2 8) ((declares (declaration (Integer Four) [] ((entity (name 5 2 22)
    None None) ∷ []))) ∷ (declares (declaration (Derived (name 5 2 30)) [] ((entity (name 2 2 36) None None) ∷ []))) ∷ []) no_statements ((procedure false
    (Function None None) (name 3 2 58) ((name 6 2 60) ∷ (name 7 2 63) ∷ []) ((declares (declaration (Integer Four) ((intent In) ∷ []) ((entity (name 6 2
    90) None None) ∷ (entity (name 7 2 93) None None) ∷ []))) ∷ (declares (declaration (Integer Four) [] ((entity (name 3 2 107) None None) ∷ []))) ∷ [])
    (statements (acts (at 2 110) (assign (parts (name 3 2 110) bare no_parts) (designator (parts (name 6 2 114) bare no_parts)))) no_statements)) ∷ [])) ∷
    [])) (looks (((2, One 1) ∷ (3, One 2) ∷ (5, One 0) ∷ []) ∷ ((2, One 1) ∷ (3, One 2) ∷ (5, One 0) ∷ []) ∷ ((2, One 1) ∷ (3, One 5) ∷ (5, One 0) ∷ (
      6,
      One 3,
    ) ∷ (7, One 4) ∷ []) ∷ [])) (1 ∷ 0 ∷ [])

abbrev pub T9And10Show : Type 0
T9And10Show = t9_1 × t9_2 × t9_3 × t9_4 × t9_5 × t9_6 × t9_7 × t9_8 × t9_9 × t9_10 × t9_11 × t9_12 × t9_13 × t9_14
