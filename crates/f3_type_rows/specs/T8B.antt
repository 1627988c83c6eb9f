-- Programs, each in the text above it, with what refuses it.
use Rattle.std.specs.Prelude.{true, false, [], ◌∷◌, None, Some, codes}
use Rattle.f3_lookups.specs.declared.lookup.Lookup.TheVariants.{One}
use Rattle.f3_rules.specs.declared.rule.Rule.TheVariants.{T8}
use Rattle.f3_tree.specs.declared.expression.Operator.TheVariants as o
use Rattle.f3_tree.specs.declared.expression.IntegerKind.TheVariants.{Four, Eight}
use Rattle.f3_tree.specs.declared.declaration.Intent.TheVariants.{In, InOut}
use Rattle.f3_tree.specs.declared.declaration.TypeSpecifier.TheVariants.{Integer, Derived}
use Rattle.f3_tree.specs.declared.program.ProcedureKind.TheVariants.{Subroutine, Function}
use Rattle.f3_tree.specs.declared.program.UnitKind.TheVariants as u
use Rattle.f3_tree.specs.Expressions.{truth, designator, array, chain, no_more, more, no_trees, trees, no_parts, parts}
use Rattle.f3_tree.specs.Expressions.{bare, within, no_arguments, arguments, value}
use Rattle.f3_tree.specs.Declarations.{explicit, deferred, allocatable, intent, declares}
use Rattle.f3_tree.specs.Statements.{assign, call, print}
use Rattle.f3_tree.specs.Statements.{acts, associates, no_statements, statements}
use Rattle.f3_type_rows.specs.Build.{Finds, at, name, four, eight, bounds, entity, declaration, type_definition, procedure, unit, association}
use Rattle.f3_type_rows.specs.Build.{program, looks, broken}

--     program p; use m; print *, f(1), f(.true.); end
--     module m; contains; function f(a); integer, intent(in) :: a; integer :: f; f = a; end; end
-- 1:36: T8
abbrev pub t8_26 : Type 0
t8_26 = Finds (Some (broken 6 T8 1 36 None))
    (program (codes "p" ∷ codes "print" ∷ codes "f" ∷ codes "m" ∷ codes "a" ∷ []) ((unit u.Program (name 0 1 9) [] (statements (acts (at 1 19) (print
    ((designator (parts (name 2 1 28) (within (arguments (value None (four (at 1 30) 1)) no_arguments)) no_parts)) ∷ (designator (parts (name 2 1 34)
    (within (arguments (value None (truth (at 1 36) true)) no_arguments)) no_parts)) ∷ []))) no_statements) []) ∷ (unit u.Module (name 3 2 8) []
    no_statements ((procedure false (Function None None) (name 2 2 30) ((name 4 2 32) ∷ []) ((declares (declaration (Integer Four) ((intent In) ∷ [])
    ((entity (name 4 2 59) None None) ∷ []))) ∷ (declares (declaration (Integer Four) [] ((entity (name 2 2 73) None None) ∷ []))) ∷ []) (statements (acts
    (at 2 76) (assign (parts (name 2 2 76) bare no_parts) (designator (parts (name 4 2 80) bare no_parts)))) no_statements)) ∷ [])) ∷ [])) (looks (((
      2,
      One 0,
    ) ∷ []) ∷ ((2, One 0) ∷ []) ∷ ((2, One 2) ∷ (4, One 1) ∷ []) ∷ [])) (1 ∷ 0 ∷ [])

--     program p; use m; call s(1, 2); end
--     module m; contains; subroutine s(a); integer, intent(in) :: a; end; end
-- 1:29: T8
abbrev pub t8_27 : Type 0
t8_27 = Finds (Some (broken 6 T8 1 29 None))
    (program (codes "p" ∷ codes "call" ∷ codes "s" ∷ codes "m" ∷ codes "a" ∷ []) ((unit u.Program (name 0 1 9) [] (statements (acts (at 1 19) (call (name 2 1
    24) ((value None (four (at 1 26) 1)) ∷ (value None (four (at 1 29) 2)) ∷ []))) no_statements) []) ∷ (unit u.Module (name 3 2 8) [] no_statements
    ((procedure false Subroutine (name 2 2 32) ((name 4 2 34) ∷ []) ((declares (declaration (Integer Four) ((intent In) ∷ []) ((entity (name 4 2 61) None
    None) ∷ []))) ∷ []) no_statements) ∷ [])) ∷ [])) (looks (((2, One 0) ∷ []) ∷ ((2, One 0) ∷ []) ∷ ((2, One 0) ∷ (4, One 1) ∷ []) ∷ [])) (1 ∷ 0 ∷ [])

--     program p; use m; call s(a=1, a=2); end
--     module m; contains; subroutine s(a); integer, intent(in) :: a; end; end
-- 1:31: T8
abbrev pub t8_28 : Type 0
t8_28 = Finds (Some (broken 6 T8 1 31 None))
    (program (codes "p" ∷ codes "call" ∷ codes "a" ∷ codes "s" ∷ codes "m" ∷ []) ((unit u.Program (name 0 1 9) [] (statements (acts (at 1 19) (call (name 3 1
    24) ((value (Some (name 2 1 26)) (four (at 1 28) 1)) ∷ (value (Some (name 2 1 31)) (four (at 1 33) 2)) ∷ []))) no_statements) []) ∷ (unit u.Module
    (name 4 2 8) [] no_statements ((procedure false Subroutine (name 3 2 32) ((name 2 2 34) ∷ []) ((declares (declaration (Integer Four) ((intent In) ∷
    []) ((entity (name 2 2 61) None None) ∷ []))) ∷ []) no_statements) ∷ [])) ∷ [])) (looks (((3, One 0) ∷ []) ∷ ((3, One 0) ∷ []) ∷ ((2, One 1) ∷ (
      3,
      One
          0,
    ) ∷ []) ∷ [])) (1 ∷ 0 ∷ [])

--     program p; use m; call s([1]); end
--     module m; contains; subroutine s(a); integer, intent(in) :: a; end; end
-- 1:26: T8
abbrev pub t8_29 : Type 0
t8_29 = Finds (Some (broken 6 T8 1 26 None))
    (program (codes "p" ∷ codes "call" ∷ codes "s" ∷ codes "m" ∷ codes "a" ∷ []) ((unit u.Program (name 0 1 9) [] (statements (acts (at 1 19) (call (name 2 1
    24) ((value None (array (at 1 26) (trees (four (at 1 27) 1) no_trees))) ∷ []))) no_statements) []) ∷ (unit u.Module (name 3 2 8) [] no_statements
    ((procedure false Subroutine (name 2 2 32) ((name 4 2 34) ∷ []) ((declares (declaration (Integer Four) ((intent In) ∷ []) ((entity (name 4 2 61) None
    None) ∷ []))) ∷ []) no_statements) ∷ [])) ∷ [])) (looks (((2, One 0) ∷ []) ∷ ((2, One 0) ∷ []) ∷ ((2, One 0) ∷ (4, One 1) ∷ []) ∷ [])) (1 ∷ 0 ∷ [])

--     module k; contains; subroutine bump(x); integer, intent(inout) :: x; x = x + 1; end; end
--     program p; use k; integer(8) :: y; call bump(y); end
-- 2:46: T8
abbrev pub t8_30 : Type 0
t8_30 = Finds (Some (broken 6 T8 2 46 None))
    (program (codes "k" ∷ codes "bump" ∷ codes "x" ∷ codes "p" ∷ codes "y" ∷ codes "call" ∷ []) ((unit u.Module (name 0 1 8) [] no_statements ((procedure
    false Subroutine (name 1 1 32) ((name 2 1 37) ∷ []) ((declares (declaration (Integer Four) ((intent InOut) ∷ []) ((entity (name 2 1 67) None None) ∷
    []))) ∷ []) (statements (acts (at 1 70) (assign (parts (name 2 1 70) bare no_parts) (chain (designator (parts (name 2 1 74) bare no_parts)) (more
    o.Add (four (at 1 78) 1) no_more)))) no_statements)) ∷ [])) ∷ (unit u.Program (name 3 2 9) ((declares (declaration (Integer Eight) [] ((entity (name 4
    2 33) None None) ∷ []))) ∷ []) (statements (acts (at 2 36) (call (name 1 2 41) ((value None (designator (parts (name 4 2 46) bare no_parts))) ∷ [])))
    no_statements) []) ∷ [])) (looks (((1, One 0) ∷ []) ∷ ((1, One 0) ∷ (2, One 1) ∷ []) ∷ ((1, One 0) ∷ (4, One 2) ∷ []) ∷ [])) (0 ∷ 1 ∷ [])

--     module m; contains; subroutine s(x); integer, intent(in) :: x; end; end
--     program p; use m; call s(1_8); end
-- 2:26: T8
abbrev pub t8_31 : Type 0
t8_31 = Finds (Some (broken 6 T8 2 26 None))
    (program (codes "m" ∷ codes "s" ∷ codes "x" ∷ codes "p" ∷ codes "call" ∷ []) ((unit u.Module (name 0 1 8) [] no_statements ((procedure false Subroutine
    (name 1 1 32) ((name 2 1 34) ∷ []) ((declares (declaration (Integer Four) ((intent In) ∷ []) ((entity (name 2 1 61) None None) ∷ []))) ∷ [])
    no_statements) ∷ [])) ∷ (unit u.Program (name 3 2 9) [] (statements (acts (at 2 19) (call (name 1 2 24) ((value None (eight (at 2 26) 1)) ∷ [])))
    no_statements) []) ∷ [])) (looks (((1, One 0) ∷ []) ∷ ((1, One 0) ∷ (2, One 1) ∷ []) ∷ ((1, One 0) ∷ []) ∷ [])) (0 ∷ 1 ∷ [])

--     module m; contains; subroutine s(x); integer(8), intent(in) :: x; end; end
--     program p; use m; call s(1); end
-- 2:26: T8
abbrev pub t8_32 : Type 0
t8_32 = Finds (Some (broken 6 T8 2 26 None))
    (program (codes "m" ∷ codes "s" ∷ codes "x" ∷ codes "p" ∷ codes "call" ∷ []) ((unit u.Module (name 0 1 8) [] no_statements ((procedure false Subroutine
    (name 1 1 32) ((name 2 1 34) ∷ []) ((declares (declaration (Integer Eight) ((intent In) ∷ []) ((entity (name 2 1 64) None None) ∷ []))) ∷ [])
    no_statements) ∷ [])) ∷ (unit u.Program (name 3 2 9) [] (statements (acts (at 2 19) (call (name 1 2 24) ((value None (four (at 2 26) 1)) ∷ [])))
    no_statements) []) ∷ [])) (looks (((1, One 0) ∷ []) ∷ ((1, One 0) ∷ (2, One 1) ∷ []) ∷ ((1, One 0) ∷ []) ∷ [])) (0 ∷ 1 ∷ [])

--     module m; contains; subroutine s(x); integer(8), intent(in) :: x; end; end
--     program p; use m; call s(x=1); end
-- 2:26: T8
abbrev pub t8_33 : Type 0
t8_33 = Finds (Some (broken 6 T8 2 26 None))
    (program (codes "m" ∷ codes "s" ∷ codes "x" ∷ codes "p" ∷ codes "call" ∷ []) ((unit u.Module (name 0 1 8) [] no_statements ((procedure false Subroutine
    (name 1 1 32) ((name 2 1 34) ∷ []) ((declares (declaration (Integer Eight) ((intent In) ∷ []) ((entity (name 2 1 64) None None) ∷ []))) ∷ [])
    no_statements) ∷ [])) ∷ (unit u.Program (name 3 2 9) [] (statements (acts (at 2 19) (call (name 1 2 24) ((value (Some (name 2 2 26)) (four (at 2 28)
    1)) ∷ []))) no_statements) []) ∷ [])) (looks (((1, One 0) ∷ []) ∷ ((1, One 0) ∷ (2, One 1) ∷ []) ∷ ((1, One 0) ∷ []) ∷ [])) (0 ∷ 1 ∷ [])

--     module m; contains; subroutine s(x); integer(8), intent(in) :: x(:); end; end
--     program p; use m; integer :: a(2); a = 1; call s(a); end
-- 2:50: T8
abbrev pub t8_34 : Type 0
t8_34 = Finds (Some (broken 6 T8 2 50 None))
    (program (codes "m" ∷ codes "s" ∷ codes "x" ∷ codes "p" ∷ codes "a" ∷ codes "call" ∷ []) ((unit u.Module (name 0 1 8) [] no_statements ((procedure false
    Subroutine (name 1 1 32) ((name 2 1 34) ∷ []) ((declares (declaration (Integer Eight) ((intent In) ∷ []) ((entity (name 2 1 64) (Some (deferred (None
    ∷ []))) None) ∷ []))) ∷ []) no_statements) ∷ [])) ∷ (unit u.Program (name 3 2 9) ((declares (declaration (Integer Four) [] ((entity (name 4 2 30)
    (Some (explicit ((bounds None (four (at 2 32) 2)) ∷ []))) None) ∷ []))) ∷ []) (statements (acts (at 2 36) (assign (parts (name 4 2 36) bare no_parts)
    (four (at 2 40) 1))) (statements (acts (at 2 43) (call (name 1 2 48) ((value None (designator (parts (name 4 2 50) bare no_parts))) ∷ [])))
    no_statements)) []) ∷ [])) (looks (((1, One 0) ∷ []) ∷ ((1, One 0) ∷ (2, One 1) ∷ []) ∷ ((1, One 0) ∷ (4, One 2) ∷ []) ∷ [])) (0 ∷ 1 ∷ [])

--     module m; contains; function f(x) result(r); integer, intent(in) :: x; integer(8) :: r; r = x; end; end
--     program p; use m; print *, f(2_8); end
-- 2:30: T8
abbrev pub t8_35 : Type 0
t8_35 = Finds (Some (broken 6 T8 2 30 None))
    (program (codes "m" ∷ codes "f" ∷ codes "r" ∷ codes "x" ∷ codes "p" ∷ codes "print" ∷ []) ((unit u.Module (name 0 1 8) [] no_statements ((procedure false
    (Function None (Some (name 2 1 42))) (name 1 1 30) ((name 3 1 32) ∷ []) ((declares (declaration (Integer Four) ((intent In) ∷ []) ((entity (name 3 1
    69) None None) ∷ []))) ∷ (declares (declaration (Integer Eight) [] ((entity (name 2 1 86) None None) ∷ []))) ∷ []) (statements (acts (at 1 89) (assign
    (parts (name 2 1 89) bare no_parts) (designator (parts (name 3 1 93) bare no_parts)))) no_statements)) ∷ [])) ∷ (unit u.Program (name 4 2 9) []
    (statements (acts (at 2 19) (print ((designator (parts (name 1 2 28) (within (arguments (value None (eight (at 2 30) 2)) no_arguments)) no_parts)) ∷
    []))) no_statements) []) ∷ [])) (looks (((1, One 0) ∷ []) ∷ ((1, One 0) ∷ (2, One 2) ∷ (3, One 1) ∷ []) ∷ ((1, One 0) ∷ []) ∷ [])) (0 ∷ 1 ∷ [])

--     module m; contains; function f(x) result(r); integer, intent(in) :: x; integer(8) :: r; r = x; end; end
--     program p; use m; print *, f(f(2)); end
-- 2:30: T8
abbrev pub t8_36 : Type 0
t8_36 = Finds (Some (broken 6 T8 2 30 None))
    (program (codes "m" ∷ codes "f" ∷ codes "r" ∷ codes "x" ∷ codes "p" ∷ codes "print" ∷ []) ((unit u.Module (name 0 1 8) [] no_statements ((procedure false
    (Function None (Some (name 2 1 42))) (name 1 1 30) ((name 3 1 32) ∷ []) ((declares (declaration (Integer Four) ((intent In) ∷ []) ((entity (name 3 1
    69) None None) ∷ []))) ∷ (declares (declaration (Integer Eight) [] ((entity (name 2 1 86) None None) ∷ []))) ∷ []) (statements (acts (at 1 89) (assign
    (parts (name 2 1 89) bare no_parts) (designator (parts (name 3 1 93) bare no_parts)))) no_statements)) ∷ [])) ∷ (unit u.Program (name 4 2 9) []
    (statements (acts (at 2 19) (print ((designator (parts (name 1 2 28) (within (arguments (value None (designator (parts (name 1 2 30) (within
    (arguments (value None (four (at 2 32) 2)) no_arguments)) no_parts))) no_arguments)) no_parts)) ∷ []))) no_statements) []) ∷ [])) (looks (((1, One 0)
    ∷ []) ∷ ((1, One 0) ∷ (2, One 2) ∷ (3, One 1) ∷ []) ∷ ((1, One 0) ∷ []) ∷ [])) (0 ∷ 1 ∷ [])

--     module m; contains; subroutine s(x); integer(kind=4), intent(inout) :: x; end; end
--     program p; use m; integer(8) :: y; call s(y); end
-- 2:43: T8
abbrev pub t8_37 : Type 0
t8_37 = Finds (Some (broken 6 T8 2 43 None))
    (program (codes "m" ∷ codes "s" ∷ codes "x" ∷ codes "p" ∷ codes "y" ∷ codes "call" ∷ []) ((unit u.Module (name 0 1 8) [] no_statements ((procedure false
    Subroutine (name 1 1 32) ((name 2 1 34) ∷ []) ((declares (declaration (Integer Four) ((intent InOut) ∷ []) ((entity (name 2 1 72) None None) ∷ []))) ∷
    []) no_statements) ∷ [])) ∷ (unit u.Program (name 3 2 9) ((declares (declaration (Integer Eight) [] ((entity (name 4 2 33) None None) ∷ []))) ∷ [])
    (statements (acts (at 2 36) (call (name 1 2 41) ((value None (designator (parts (name 4 2 43) bare no_parts))) ∷ []))) no_statements) []) ∷ []))
    (looks (((1, One 0) ∷ []) ∷ ((1, One 0) ∷ (2, One 1) ∷ []) ∷ ((1, One 0) ∷ (4, One 2) ∷ []) ∷ [])) (0 ∷ 1 ∷ [])

--     program p; integer, allocatable :: a(:); integer(8), allocatable :: b(:); call move_alloc(a, b); end
-- 1:94: T8
abbrev pub t8_38 : Type 0
t8_38 = Finds (Some (broken 6 T8 1 94 None))
    (program (codes "p" ∷ codes "a" ∷ codes "b" ∷ codes "call" ∷ codes "move_alloc" ∷ []) ((unit u.Program (name 0 1 9) ((declares (declaration (Integer Four)
    (allocatable ∷ []) ((entity (name 1 1 36) (Some (deferred (None ∷ []))) None) ∷ []))) ∷ (declares (declaration (Integer Eight) (allocatable ∷ [])
    ((entity (name 2 1 69) (Some (deferred (None ∷ []))) None) ∷ []))) ∷ []) (statements (acts (at 1 75) (call (name 4 1 80) ((value None (designator
    (parts (name 1 1 91) bare no_parts))) ∷ (value None (designator (parts (name 2 1 94) bare no_parts))) ∷ []))) no_statements) []) ∷ [])) (looks (((
      1,
      One 0,
    ) ∷ (2, One 1) ∷ []) ∷ [])) (0 ∷ [])

--     program p; integer, allocatable :: a(:); integer(8), allocatable :: b(:); call move_alloc(to=b, from=a); end
-- 1:91: T8
abbrev pub t8_39 : Type 0
t8_39 = Finds (Some (broken 6 T8 1 91 None))
    (program (codes "p" ∷ codes "a" ∷ codes "b" ∷ codes "call" ∷ codes "to" ∷ codes "from" ∷ codes "move_alloc" ∷ []) ((unit u.Program (name 0 1 9) ((declares
    (declaration (Integer Four) (allocatable ∷ []) ((entity (name 1 1 36) (Some (deferred (None ∷ []))) None) ∷ []))) ∷ (declares (declaration (Integer
    Eight) (allocatable ∷ []) ((entity (name 2 1 69) (Some (deferred (None ∷ []))) None) ∷ []))) ∷ []) (statements (acts (at 1 75) (call (name 6 1 80)
    ((value (Some (name 4 1 91)) (designator (parts (name 2 1 94) bare no_parts))) ∷ (value (Some (name 5 1 97)) (designator (parts (name 1 1 102) bare
    no_parts))) ∷ []))) no_statements) []) ∷ [])) (looks (((1, One 0) ∷ (2, One 1) ∷ []) ∷ [])) (0 ∷ [])

--     program p; print *, max(1, 2_8); end
-- 1:28: T8
abbrev pub t8_40 : Type 0
t8_40 = Finds (Some (broken 6 T8 1 28 None))
    (program (codes "p" ∷ codes "print" ∷ codes "max" ∷ []) ((unit u.Program (name 0 1 9) [] (statements (acts (at 1 12) (print ((designator (parts (name 2 1
    21) (within (arguments (value None (four (at 1 25) 1)) (arguments (value None (eight (at 1 28) 2)) no_arguments))) no_parts)) ∷ []))) no_statements)
    []) ∷ [])) (looks ([] ∷ [])) (0 ∷ [])

--     program p; print *, mod(5_8, 3); end
-- 1:30: T8
abbrev pub t8_41 : Type 0
t8_41 = Finds (Some (broken 6 T8 1 30 None))
    (program (codes "p" ∷ codes "print" ∷ codes "mod" ∷ []) ((unit u.Program (name 0 1 9) [] (statements (acts (at 1 12) (print ((designator (parts (name 2 1
    21) (within (arguments (value None (eight (at 1 25) 5)) (arguments (value None (four (at 1 30) 3)) no_arguments))) no_parts)) ∷ []))) no_statements)
    []) ∷ [])) (looks ([] ∷ [])) (0 ∷ [])

--     program p; print *, modulo(5, 3_8); end
-- 1:31: T8
abbrev pub t8_42 : Type 0
t8_42 = Finds (Some (broken 6 T8 1 31 None))
    (program (codes "p" ∷ codes "print" ∷ codes "modulo" ∷ []) ((unit u.Program (name 0 1 9) [] (statements (acts (at 1 12) (print ((designator (parts (name 2
    1 21) (within (arguments (value None (four (at 1 28) 5)) (arguments (value None (eight (at 1 31) 3)) no_arguments))) no_parts)) ∷ []))) no_statements)
    []) ∷ [])) (looks ([] ∷ [])) (0 ∷ [])

--     program p; print *, min(1_8, 2_8, 3); end
-- 1:35: T8
abbrev pub t8_43 : Type 0
t8_43 = Finds (Some (broken 6 T8 1 35 None))
    (program (codes "p" ∷ codes "print" ∷ codes "min" ∷ []) ((unit u.Program (name 0 1 9) [] (statements (acts (at 1 12) (print ((designator (parts (name 2 1
    21) (within (arguments (value None (eight (at 1 25) 1)) (arguments (value None (eight (at 1 30) 2)) (arguments (value None (four (at 1 35) 3))
    no_arguments)))) no_parts)) ∷ []))) no_statements) []) ∷ [])) (looks ([] ∷ [])) (0 ∷ [])

--     program p; integer, allocatable :: v(:); associate (z => v); print *, allocated(z); end associate; end
-- 1:81: T8
abbrev pub t8_44 : Type 0
t8_44 = Finds (Some (broken 6 T8 1 81 None))
    (program (codes "p" ∷ codes "v" ∷ codes "z" ∷ codes "print" ∷ codes "allocated" ∷ []) ((unit u.Program (name 0 1 9) ((declares (declaration (Integer Four)
    (allocatable ∷ []) ((entity (name 1 1 36) (Some (deferred (None ∷ []))) None) ∷ []))) ∷ []) (statements (associates (at 1 42) ((association (name 2 1
    53) (designator (parts (name 1 1 58) bare no_parts))) ∷ []) (statements (acts (at 1 62) (print ((designator (parts (name 4 1 71) (within (arguments
    (value None (designator (parts (name 2 1 81) bare no_parts))) no_arguments)) no_parts)) ∷ []))) no_statements)) no_statements) []) ∷ [])) (looks (((
      1,
      One 0,
    ) ∷ []) ∷ ((1, One 0) ∷ (2, One 1) ∷ []) ∷ [])) (0 ∷ [])

--     module m; contains; subroutine s(x); integer, allocatable, intent(inout) :: x(:); end; end
--     program p; use m; integer, allocatable :: v(:); associate (z => v); call s(z); end associate; end
-- 2:76: T8
abbrev pub t8_45 : Type 0
t8_45 = Finds (Some (broken 6 T8 2 76 None))
    (program (codes "m" ∷ codes "s" ∷ codes "x" ∷ codes "p" ∷ codes "v" ∷ codes "z" ∷ codes "call" ∷ []) ((unit u.Module (name 0 1 8) [] no_statements
    ((procedure false Subroutine (name 1 1 32) ((name 2 1 34) ∷ []) ((declares (declaration (Integer Four) (allocatable ∷ (intent InOut) ∷ []) ((entity
    (name 2 1 77) (Some (deferred (None ∷ []))) None) ∷ []))) ∷ []) no_statements) ∷ [])) ∷ (unit u.Program (name 3 2 9) ((declares (declaration (Integer
    Four) (allocatable ∷ []) ((entity (name 4 2 43) (Some (deferred (None ∷ []))) None) ∷ []))) ∷ []) (statements (associates (at 2 49) ((association
    (name 5 2 60) (designator (parts (name 4 2 65) bare no_parts))) ∷ []) (statements (acts (at 2 69) (call (name 1 2 74) ((value None (designator (parts
    (name 5 2 76) bare no_parts))) ∷ []))) no_statements)) no_statements) []) ∷ [])) (looks (((1, One 0) ∷ []) ∷ ((1, One 0) ∷ (2, One 1) ∷ []) ∷ ((
      1,
      One
          0,
    ) ∷ (4, One 2) ∷ []) ∷ ((1, One 0) ∷ (4, One 2) ∷ (5, One 3) ∷ []) ∷ [])) (0 ∷ 1 ∷ [])

--     program p; integer, allocatable :: v(:), w(:); associate (z => v); call move_alloc(z, w); end associate; end
-- 1:84: T8
abbrev pub t8_46 : Type 0
t8_46 = Finds (Some (broken 6 T8 1 84 None))
    (program (codes "p" ∷ codes "v" ∷ codes "w" ∷ codes "z" ∷ codes "call" ∷ codes "move_alloc" ∷ []) ((unit u.Program (name 0 1 9) ((declares (declaration
    (Integer Four) (allocatable ∷ []) ((entity (name 1 1 36) (Some (deferred (None ∷ []))) None) ∷ (entity (name 2 1 42) (Some (deferred (None ∷ [])))
    None) ∷ []))) ∷ []) (statements (associates (at 1 48) ((association (name 3 1 59) (designator (parts (name 1 1 64) bare no_parts))) ∷ []) (statements
    (acts (at 1 68) (call (name 5 1 73) ((value None (designator (parts (name 3 1 84) bare no_parts))) ∷ (value None (designator (parts (name 2 1 87) bare
    no_parts))) ∷ []))) no_statements)) no_statements) []) ∷ [])) (looks (((1, One 0) ∷ (2, One 1) ∷ []) ∷ ((1, One 0) ∷ (2, One 1) ∷ (3, One 2) ∷ []) ∷
    [])) (0 ∷ [])

--     module m; contains; subroutine s(x); integer, intent(in) :: x; end; end
--     program p; use m; associate (z => 1_8); call s(z); end associate; end
-- 2:48: T8
abbrev pub t8_47 : Type 0
t8_47 = Finds (Some (broken 6 T8 2 48 None))
    (program (codes "m" ∷ codes "s" ∷ codes "x" ∷ codes "p" ∷ codes "z" ∷ codes "call" ∷ []) ((unit u.Module (name 0 1 8) [] no_statements ((procedure false
    Subroutine (name 1 1 32) ((name 2 1 34) ∷ []) ((declares (declaration (Integer Four) ((intent In) ∷ []) ((entity (name 2 1 61) None None) ∷ []))) ∷
    []) no_statements) ∷ [])) ∷ (unit u.Program (name 3 2 9) [] (statements (associates (at 2 19) ((association (name 4 2 30) (eight (at 2 35) 1)) ∷ [])
    (statements (acts (at 2 41) (call (name 1 2 46) ((value None (designator (parts (name 4 2 48) bare no_parts))) ∷ []))) no_statements)) no_statements)
    []) ∷ [])) (looks (((1, One 0) ∷ []) ∷ ((1, One 0) ∷ (2, One 1) ∷ []) ∷ ((1, One 0) ∷ []) ∷ ((1, One 0) ∷ (4, One 2) ∷ []) ∷ [])) (0 ∷ 1 ∷ [])

--     module m; contains; subroutine s(x); integer(8), intent(in) :: x(:); print *, x; end; end
--     program p; use m; call s([1, 2]); end
-- 2:26: T8
abbrev pub t8_48 : Type 0
t8_48 = Finds (Some (broken 6 T8 2 26 None))
    (program (codes "m" ∷ codes "s" ∷ codes "x" ∷ codes "print" ∷ codes "p" ∷ codes "call" ∷ []) ((unit u.Module (name 0 1 8) [] no_statements ((procedure
    false Subroutine (name 1 1 32) ((name 2 1 34) ∷ []) ((declares (declaration (Integer Eight) ((intent In) ∷ []) ((entity (name 2 1 64) (Some (deferred
    (None ∷ []))) None) ∷ []))) ∷ []) (statements (acts (at 1 70) (print ((designator (parts (name 2 1 79) bare no_parts)) ∷ []))) no_statements)) ∷ []))
    ∷ (unit u.Program (name 4 2 9) [] (statements (acts (at 2 19) (call (name 1 2 24) ((value None (array (at 2 26) (trees (four (at 2 27) 1) (trees (four
    (at 2 30) 2) no_trees)))) ∷ []))) no_statements) []) ∷ [])) (looks (((1, One 0) ∷ []) ∷ ((1, One 0) ∷ (2, One 1) ∷ []) ∷ ((1, One 0) ∷ []) ∷ [])) (0 ∷
    1 ∷ [])

--     module m; contains; subroutine s(x, y); integer(8), intent(in) :: x; integer, intent(in) :: y; print *, x; end; end
--     program p; use m; call s(y=1, x=2); end
-- 2:31: T8
abbrev pub t8_49 : Type 0
t8_49 = Finds (Some (broken 6 T8 2 31 None))
    (program (codes "m" ∷ codes "s" ∷ codes "x" ∷ codes "y" ∷ codes "print" ∷ codes "p" ∷ codes "call" ∷ []) ((unit u.Module (name 0 1 8) [] no_statements
    ((procedure false Subroutine (name 1 1 32) ((name 2 1 34) ∷ (name 3 1 37) ∷ []) ((declares (declaration (Integer Eight) ((intent In) ∷ []) ((entity
    (name 2 1 67) None None) ∷ []))) ∷ (declares (declaration (Integer Four) ((intent In) ∷ []) ((entity (name 3 1 93) None None) ∷ []))) ∷ [])
    (statements (acts (at 1 96) (print ((designator (parts (name 2 1 105) bare no_parts)) ∷ []))) no_statements)) ∷ [])) ∷ (unit u.Program (name 5 2 9) []
    (statements (acts (at 2 19) (call (name 1 2 24) ((value (Some (name 3 2 26)) (four (at 2 28) 1)) ∷ (value (Some (name 2 2 31)) (four (at 2 33) 2)) ∷
    []))) no_statements) []) ∷ [])) (looks (((1, One 0) ∷ []) ∷ ((1, One 0) ∷ (2, One 1) ∷ (3, One 2) ∷ []) ∷ ((1, One 0) ∷ []) ∷ [])) (0 ∷ 1 ∷ [])

--     module m; type t; integer :: c; end type; contains; subroutine s(x); integer(8), intent(inout) :: x; x = 1; end; end
--     program p; use m; type(t) :: x; call s(x%c); end
-- 2:40: T8
abbrev pub t8_50 : Type 0
t8_50 = Finds (Some (broken 6 T8 2 40 None))
    (program (codes "m" ∷ codes "t" ∷ codes "c" ∷ codes "s" ∷ codes "x" ∷ codes "p" ∷ codes "call" ∷ []) ((unit u.Module (name 0 1 8) ((type_definition (name
    1 1 16) false ((declaration (Integer Four) [] ((entity (name 2 1 30) None None) ∷ [])) ∷ []) []) ∷ []) no_statements ((procedure false Subroutine
    (name 3 1 64) ((name 4 1 66) ∷ []) ((declares (declaration (Integer Eight) ((intent InOut) ∷ []) ((entity (name 4 1 99) None None) ∷ []))) ∷ [])
    (statements (acts (at 1 102) (assign (parts (name 4 1 102) bare no_parts) (four (at 1 106) 1))) no_statements)) ∷ [])) ∷ (unit u.Program (name 5 2 9)
    ((declares (declaration (Derived (name 1 2 24)) [] ((entity (name 4 2 30) None None) ∷ []))) ∷ []) (statements (acts (at 2 33) (call (name 3 2 38)
    ((value None (designator (parts (name 4 2 40) bare (parts (name 2 2 42) bare no_parts)))) ∷ []))) no_statements) []) ∷ [])) (looks (((1, One 0) ∷ (
      3,
      One 1,
    ) ∷ []) ∷ ((1, One 0) ∷ (3, One 1) ∷ (4, One 2) ∷ []) ∷ ((1, One 0) ∷ (3, One 1) ∷ (4, One 3) ∷ []) ∷ [])) (0 ∷ 1 ∷ [])

--     module m; contains; subroutine s(x); integer, intent(in) :: x(:); print *, x; end; end
--     program p; use m; associate (z => 1); call s(z); end associate; end
-- 2:46: T8
abbrev pub t8_51 : Type 0
t8_51 = Finds (Some (broken 6 T8 2 46 None))
    (program (codes "m" ∷ codes "s" ∷ codes "x" ∷ codes "print" ∷ codes "p" ∷ codes "z" ∷ codes "call" ∷ []) ((unit u.Module (name 0 1 8) [] no_statements
    ((procedure false Subroutine (name 1 1 32) ((name 2 1 34) ∷ []) ((declares (declaration (Integer Four) ((intent In) ∷ []) ((entity (name 2 1 61) (Some
    (deferred (None ∷ []))) None) ∷ []))) ∷ []) (statements (acts (at 1 67) (print ((designator (parts (name 2 1 76) bare no_parts)) ∷ [])))
    no_statements)) ∷ [])) ∷ (unit u.Program (name 4 2 9) [] (statements (associates (at 2 19) ((association (name 5 2 30) (four (at 2 35) 1)) ∷ [])
    (statements (acts (at 2 39) (call (name 1 2 44) ((value None (designator (parts (name 5 2 46) bare no_parts))) ∷ []))) no_statements)) no_statements)
    []) ∷ [])) (looks (((1, One 0) ∷ []) ∷ ((1, One 0) ∷ (2, One 1) ∷ []) ∷ ((1, One 0) ∷ []) ∷ ((1, One 0) ∷ (5, One 2) ∷ []) ∷ [])) (0 ∷ 1 ∷ [])

abbrev pub T8BShow : Type 0
T8BShow = t8_26 × t8_27 × t8_28 × t8_29 × t8_30 × t8_31 × t8_32 × t8_33 × t8_34 × t8_35 × t8_36 × t8_37 × t8_38 × t8_39 × t8_40 × t8_41 × t8_42 × t8_43 ×
    t8_44 × t8_45 × t8_46 × t8_47 × t8_48 × t8_49 × t8_50 × t8_51
