-- Programs, each in the text above it, with what refuses it.
use Rattle.std.specs.Prelude.{true, false, [], ◌∷◌, None, Some, codes}
use Rattle.f3_lookups.specs.declared.lookup.Lookup.TheVariants.{One}
use Rattle.f3_rules.specs.declared.rule.Rule.TheVariants.{T8}
use Rattle.f3_tree.specs.declared.expression.IntegerKind.TheVariants.{Four}
use Rattle.f3_tree.specs.declared.declaration.Intent.TheVariants.{In}
use Rattle.f3_tree.specs.declared.declaration.TypeSpecifier.TheVariants.{Integer, Logical, Derived}
use Rattle.f3_tree.specs.declared.program.ProcedureKind.TheVariants.{Subroutine}
use Rattle.f3_tree.specs.declared.program.UnitKind.TheVariants as u
use Rattle.f3_tree.specs.Expressions.{truth, designator, group, array, no_trees, trees, no_parts, parts}
use Rattle.f3_tree.specs.Expressions.{bare, within, no_arguments, arguments, value, triplet, absent}
use Rattle.f3_tree.specs.Declarations.{explicit, deferred, allocatable, intent, declares}
use Rattle.f3_tree.specs.Statements.{call, print}
use Rattle.f3_tree.specs.Statements.{acts, associates, no_statements, statements}
use Rattle.f3_type_rows.specs.Build.{Finds, at, name, four, bounds, entity, declaration, procedure, unit, association, program, looks, broken}

--     module m; contains; subroutine s(x); integer, intent(in) :: x; end; end
--     program p; use m; call s(); end
-- 2:24: T8
abbrev pub t8_1 : Type 0
t8_1 = Finds (Some (broken 6 T8 2 24 None))
    (program (codes "m" ∷ codes "s" ∷ codes "x" ∷ codes "p" ∷ codes "call" ∷ []) ((unit u.Module (name 0 1 8) [] no_statements ((procedure false Subroutine
    (name 1 1 32) ((name 2 1 34) ∷ []) ((declares (declaration (Integer Four) ((intent In) ∷ []) ((entity (name 2 1 61) None None) ∷ []))) ∷ [])
    no_statements) ∷ [])) ∷ (unit u.Program (name 3 2 9) [] (statements (acts (at 2 19) (call (name 1 2 24) [])) no_statements) []) ∷ [])) (looks (((
      1,
      One 0,
    ) ∷ []) ∷ ((1, One 0) ∷ (2, One 1) ∷ []) ∷ ((1, One 0) ∷ []) ∷ [])) (0 ∷ 1 ∷ [])

--     program p; use m; integer :: x(2); call s(x); end
--     module m; contains; subroutine s(a); integer, allocatable, intent(in) :: a(:); end; end
-- 1:43: T8
abbrev pub t8_2 : Type 0
t8_2 = Finds (Some (broken 6 T8 1 43 None))
    (program (codes "p" ∷ codes "x" ∷ codes "call" ∷ codes "s" ∷ codes "m" ∷ codes "a" ∷ []) ((unit u.Program (name 0 1 9) ((declares (declaration (Integer
    Four) [] ((entity (name 1 1 30) (Some (explicit ((bounds None (four (at 1 32) 2)) ∷ []))) None) ∷ []))) ∷ []) (statements (acts (at 1 36) (call (name
    3 1 41) ((value None (designator (parts (name 1 1 43) bare no_parts))) ∷ []))) no_statements) []) ∷ (unit u.Module (name 4 2 8) [] no_statements
    ((procedure false Subroutine (name 3 2 32) ((name 5 2 34) ∷ []) ((declares (declaration (Integer Four) (allocatable ∷ (intent In) ∷ []) ((entity (name
    5 2 74) (Some (deferred (None ∷ []))) None) ∷ []))) ∷ []) no_statements) ∷ [])) ∷ [])) (looks (((1, One 0) ∷ (3, One 1) ∷ []) ∷ ((3, One 1) ∷ []) ∷
    ((3, One 1) ∷ (5, One 2) ∷ []) ∷ [])) (1 ∷ 0 ∷ [])

--     program p; integer, allocatable :: a(:); associate (z => a); print *, allocated(z); end associate; end
-- 1:81: T8
abbrev pub t8_3 : Type 0
t8_3 = Finds (Some (broken 6 T8 1 81 None))
    (program (codes "p" ∷ codes "a" ∷ codes "z" ∷ codes "print" ∷ codes "allocated" ∷ []) ((unit u.Program (name 0 1 9) ((declares (declaration (Integer Four)
    (allocatable ∷ []) ((entity (name 1 1 36) (Some (deferred (None ∷ []))) None) ∷ []))) ∷ []) (statements (associates (at 1 42) ((association (name 2 1
    53) (designator (parts (name 1 1 58) bare no_parts))) ∷ []) (statements (acts (at 1 62) (print ((designator (parts (name 4 1 71) (within (arguments
    (value None (designator (parts (name 2 1 81) bare no_parts))) no_arguments)) no_parts)) ∷ []))) no_statements)) no_statements) []) ∷ [])) (looks (((
      1,
      One 0,
    ) ∷ []) ∷ ((1, One 0) ∷ (2, One 1) ∷ []) ∷ [])) (0 ∷ [])

--     program p; integer, allocatable :: a(:); associate (z => a); call move_alloc(a, z); end associate; end
-- 1:81: T8
abbrev pub t8_4 : Type 0
t8_4 = Finds (Some (broken 6 T8 1 81 None))
    (program (codes "p" ∷ codes "a" ∷ codes "z" ∷ codes "call" ∷ codes "move_alloc" ∷ []) ((unit u.Program (name 0 1 9) ((declares (declaration (Integer Four)
    (allocatable ∷ []) ((entity (name 1 1 36) (Some (deferred (None ∷ []))) None) ∷ []))) ∷ []) (statements (associates (at 1 42) ((association (name 2 1
    53) (designator (parts (name 1 1 58) bare no_parts))) ∷ []) (statements (acts (at 1 62) (call (name 4 1 67) ((value None (designator (parts (name 1 1
    78) bare no_parts))) ∷ (value None (designator (parts (name 2 1 81) bare no_parts))) ∷ []))) no_statements)) no_statements) []) ∷ [])) (looks (((
      1,
      One 0,
    ) ∷ []) ∷ ((1, One 0) ∷ (2, One 1) ∷ []) ∷ [])) (0 ∷ [])

--     program p; use m; call s(undef); end
--     module m; contains; subroutine s(a, b); integer, intent(in) :: a, b; end; end
-- 1:24: T8
abbrev pub t8_5 : Type 0
t8_5 = Finds (Some (broken 6 T8 1 24 None))
    (program (codes "p" ∷ codes "call" ∷ codes "undef" ∷ codes "s" ∷ codes "m" ∷ codes "a" ∷ codes "b" ∷ []) ((unit u.Program (name 0 1 9) [] (statements
    (acts (at 1 19) (call (name 3 1 24) ((value None (designator (parts (name 2 1 26) bare no_parts))) ∷ []))) no_statements) []) ∷ (unit u.Module (name 4
    2 8) [] no_statements ((procedure false Subroutine (name 3 2 32) ((name 5 2 34) ∷ (name 6 2 37) ∷ []) ((declares (declaration (Integer Four) ((intent
    In) ∷ []) ((entity (name 5 2 64) None None) ∷ (entity (name 6 2 67) None None) ∷ []))) ∷ []) no_statements) ∷ [])) ∷ [])) (looks (((3, One 0) ∷ []) ∷
    ((3, One 0) ∷ []) ∷ ((3, One 0) ∷ (5, One 1) ∷ (6, One 2) ∷ []) ∷ [])) (1 ∷ 0 ∷ [])

--     program p; use m; call s(a=.true.); end
--     module m; contains; subroutine s(a); integer, intent(in) :: a; end; end
-- 1:26: T8
abbrev pub t8_6 : Type 0
t8_6 = Finds (Some (broken 6 T8 1 26 None))
    (program (codes "p" ∷ codes "call" ∷ codes "a" ∷ codes "s" ∷ codes "m" ∷ []) ((unit u.Program (name 0 1 9) [] (statements (acts (at 1 19) (call (name 3 1
    24) ((value (Some (name 2 1 26)) (truth (at 1 28) true)) ∷ []))) no_statements) []) ∷ (unit u.Module (name 4 2 8) [] no_statements ((procedure false
    Subroutine (name 3 2 32) ((name 2 2 34) ∷ []) ((declares (declaration (Integer Four) ((intent In) ∷ []) ((entity (name 2 2 61) None None) ∷ []))) ∷
    []) no_statements) ∷ [])) ∷ [])) (looks (((3, One 0) ∷ []) ∷ ((3, One 0) ∷ []) ∷ ((2, One 1) ∷ (3, One 0) ∷ []) ∷ [])) (1 ∷ 0 ∷ [])

--     program p; integer :: a(3); print *, size(a, dim=1); end
-- 1:46: T8
abbrev pub t8_7 : Type 0
t8_7 = Finds (Some (broken 6 T8 1 46 None))
    (program (codes "p" ∷ codes "a" ∷ codes "print" ∷ codes "dim" ∷ codes "size" ∷ []) ((unit u.Program (name 0 1 9) ((declares (declaration (Integer Four) []
    ((entity (name 1 1 23) (Some (explicit ((bounds None (four (at 1 25) 3)) ∷ []))) None) ∷ []))) ∷ []) (statements (acts (at 1 29) (print ((designator
    (parts (name 4 1 38) (within (arguments (value None (designator (parts (name 1 1 43) bare no_parts))) (arguments (value (Some (name 3 1 46)) (four (at
    1 50) 1)) no_arguments))) no_parts)) ∷ []))) no_statements) []) ∷ [])) (looks (((1, One 0) ∷ []) ∷ [])) (0 ∷ [])

--     program p; print *, abs(.true.); end
-- 1:25: T8
abbrev pub t8_8 : Type 0
t8_8 = Finds (Some (broken 6 T8 1 25 None))
    (program (codes "p" ∷ codes "print" ∷ codes "abs" ∷ []) ((unit u.Program (name 0 1 9) [] (statements (acts (at 1 12) (print ((designator (parts (name 2 1
    21) (within (arguments (value None (truth (at 1 25) true)) no_arguments)) no_parts)) ∷ []))) no_statements) []) ∷ [])) (looks ([] ∷ [])) (0 ∷ [])

--     program p; print *, size(3); end
-- 1:26: T8
abbrev pub t8_9 : Type 0
t8_9 = Finds (Some (broken 6 T8 1 26 None))
    (program (codes "p" ∷ codes "print" ∷ codes "size" ∷ []) ((unit u.Program (name 0 1 9) [] (statements (acts (at 1 12) (print ((designator (parts (name 2 1
    21) (within (arguments (value None (four (at 1 26) 3)) no_arguments)) no_parts)) ∷ []))) no_statements) []) ∷ [])) (looks ([] ∷ [])) (0 ∷ [])

--     program p; integer, allocatable :: a(:), b; call move_alloc(to=b, from=a); end
-- 1:61: T8
abbrev pub t8_10 : Type 0
t8_10 = Finds (Some (broken 6 T8 1 61 None))
    (program (codes "p" ∷ codes "a" ∷ codes "b" ∷ codes "call" ∷ codes "to" ∷ codes "from" ∷ codes "move_alloc" ∷ []) ((unit u.Program (name 0 1 9) ((declares
    (declaration (Integer Four) (allocatable ∷ []) ((entity (name 1 1 36) (Some (deferred (None ∷ []))) None) ∷ (entity (name 2 1 42) None None) ∷ []))) ∷
    []) (statements (acts (at 1 45) (call (name 6 1 50) ((value (Some (name 4 1 61)) (designator (parts (name 2 1 64) bare no_parts))) ∷ (value (Some
    (name 5 1 67)) (designator (parts (name 1 1 72) bare no_parts))) ∷ []))) no_statements) []) ∷ [])) (looks (((1, One 0) ∷ (2, One 1) ∷ []) ∷ [])) (0 ∷
    [])

--     program p; use m; call s(b=1, 2); end
--     module m; contains; subroutine s(a, b); integer, intent(in) :: a, b; end; end
-- 1:24: T8
abbrev pub t8_11 : Type 0
t8_11 = Finds (Some (broken 6 T8 1 24 None))
    (program (codes "p" ∷ codes "call" ∷ codes "b" ∷ codes "s" ∷ codes "m" ∷ codes "a" ∷ []) ((unit u.Program (name 0 1 9) [] (statements (acts (at 1 19)
    (call (name 3 1 24) ((value (Some (name 2 1 26)) (four (at 1 28) 1)) ∷ (value None (four (at 1 31) 2)) ∷ []))) no_statements) []) ∷ (unit u.Module
    (name 4 2 8) [] no_statements ((procedure false Subroutine (name 3 2 32) ((name 5 2 34) ∷ (name 2 2 37) ∷ []) ((declares (declaration (Integer Four)
    ((intent In) ∷ []) ((entity (name 5 2 64) None None) ∷ (entity (name 2 2 67) None None) ∷ []))) ∷ []) no_statements) ∷ [])) ∷ [])) (looks (((3, One 0)
    ∷ []) ∷ ((3, One 0) ∷ []) ∷ ((2, One 2) ∷ (3, One 0) ∷ (5, One 1) ∷ []) ∷ [])) (1 ∷ 0 ∷ [])

--     program p; use m; call s([1, 2]); end
--     module m; integer :: t; contains; subroutine s(a); type(t), intent(in) :: a; end; end
-- 1:26: T8
abbrev pub t8_12 : Type 0
t8_12 = Finds (Some (broken 6 T8 1 26 None))
    (program (codes "p" ∷ codes "call" ∷ codes "s" ∷ codes "m" ∷ codes "t" ∷ codes "a" ∷ []) ((unit u.Program (name 0 1 9) [] (statements (acts (at 1 19)
    (call (name 2 1 24) ((value None (array (at 1 26) (trees (four (at 1 27) 1) (trees (four (at 1 30) 2) no_trees)))) ∷ []))) no_statements) []) ∷ (unit
    u.Module (name 3 2 8) ((declares (declaration (Integer Four) [] ((entity (name 4 2 22) None None) ∷ []))) ∷ []) no_statements ((procedure false
    Subroutine (name 2 2 46) ((name 5 2 48) ∷ []) ((declares (declaration (Derived (name 4 2 57)) ((intent In) ∷ []) ((entity (name 5 2 75) None None) ∷
    []))) ∷ []) no_statements) ∷ [])) ∷ [])) (looks (((2, One 1) ∷ (4, One 0) ∷ []) ∷ ((2, One 1) ∷ (4, One 0) ∷ []) ∷ ((2, One 1) ∷ (4, One 0) ∷ (
      5,
      One
          2,
    ) ∷ []) ∷ [])) (1 ∷ 0 ∷ [])

--     program p; integer :: x = max(1, .true.); end
-- 1:34: T8
abbrev pub t8_13 : Type 0
t8_13 = Finds (Some (broken 6 T8 1 34 None))
    (program (codes "p" ∷ codes "x" ∷ codes "max" ∷ []) ((unit u.Program (name 0 1 9) ((declares (declaration (Integer Four) [] ((entity (name 1 1 23) None
    (Some (designator (parts (name 2 1 27) (within (arguments (value None (four (at 1 31) 1)) (arguments (value None (truth (at 1 34) true))
    no_arguments))) no_parts)))) ∷ []))) ∷ []) no_statements []) ∷ [])) (looks (((1, One 0) ∷ []) ∷ [])) (0 ∷ [])

--     program p; integer, allocatable :: a(:), b(:); call move_alloc(a); end
-- 1:53: T8
abbrev pub t8_14 : Type 0
t8_14 = Finds (Some (broken 6 T8 1 53 None))
    (program (codes "p" ∷ codes "a" ∷ codes "b" ∷ codes "call" ∷ codes "move_alloc" ∷ []) ((unit u.Program (name 0 1 9) ((declares (declaration (Integer Four)
    (allocatable ∷ []) ((entity (name 1 1 36) (Some (deferred (None ∷ []))) None) ∷ (entity (name 2 1 42) (Some (deferred (None ∷ []))) None) ∷ []))) ∷
    []) (statements (acts (at 1 48) (call (name 4 1 53) ((value None (designator (parts (name 1 1 64) bare no_parts))) ∷ []))) no_statements) []) ∷ []))
    (looks (((1, One 0) ∷ (2, One 1) ∷ []) ∷ [])) (0 ∷ [])

--     program p; integer, allocatable :: a(:), b(:); call move_alloc(a, b, a); end
-- 1:70: T8
abbrev pub t8_15 : Type 0
t8_15 = Finds (Some (broken 6 T8 1 70 None))
    (program (codes "p" ∷ codes "a" ∷ codes "b" ∷ codes "call" ∷ codes "move_alloc" ∷ []) ((unit u.Program (name 0 1 9) ((declares (declaration (Integer Four)
    (allocatable ∷ []) ((entity (name 1 1 36) (Some (deferred (None ∷ []))) None) ∷ (entity (name 2 1 42) (Some (deferred (None ∷ []))) None) ∷ []))) ∷
    []) (statements (acts (at 1 48) (call (name 4 1 53) ((value None (designator (parts (name 1 1 64) bare no_parts))) ∷ (value None (designator (parts
    (name 2 1 67) bare no_parts))) ∷ (value None (designator (parts (name 1 1 70) bare no_parts))) ∷ []))) no_statements) []) ∷ [])) (looks (((1, One 0) ∷
    (2, One 1) ∷ []) ∷ [])) (0 ∷ [])

--     program p; integer, allocatable :: a(:), b(:,:); call move_alloc(a, b); end
-- 1:69: T8
abbrev pub t8_16 : Type 0
t8_16 = Finds (Some (broken 6 T8 1 69 None))
    (program (codes "p" ∷ codes "a" ∷ codes "b" ∷ codes "call" ∷ codes "move_alloc" ∷ []) ((unit u.Program (name 0 1 9) ((declares (declaration (Integer Four)
    (allocatable ∷ []) ((entity (name 1 1 36) (Some (deferred (None ∷ []))) None) ∷ (entity (name 2 1 42) (Some (deferred (None ∷ None ∷ []))) None) ∷
    []))) ∷ []) (statements (acts (at 1 50) (call (name 4 1 55) ((value None (designator (parts (name 1 1 66) bare no_parts))) ∷ (value None (designator
    (parts (name 2 1 69) bare no_parts))) ∷ []))) no_statements) []) ∷ [])) (looks (((1, One 0) ∷ (2, One 1) ∷ []) ∷ [])) (0 ∷ [])

--     program p; integer, allocatable :: a(:); logical, allocatable :: b(:); call move_alloc(from=a, to=b); end
-- 1:96: T8
abbrev pub t8_17 : Type 0
t8_17 = Finds (Some (broken 6 T8 1 96 None))
    (program (codes "p" ∷ codes "a" ∷ codes "b" ∷ codes "call" ∷ codes "from" ∷ codes "to" ∷ codes "move_alloc" ∷ []) ((unit u.Program (name 0 1 9) ((declares
    (declaration (Integer Four) (allocatable ∷ []) ((entity (name 1 1 36) (Some (deferred (None ∷ []))) None) ∷ []))) ∷ (declares (declaration Logical
    (allocatable ∷ []) ((entity (name 2 1 66) (Some (deferred (None ∷ []))) None) ∷ []))) ∷ []) (statements (acts (at 1 72) (call (name 6 1 77) ((value
    (Some (name 4 1 88)) (designator (parts (name 1 1 93) bare no_parts))) ∷ (value (Some (name 5 1 96)) (designator (parts (name 2 1 99) bare no_parts)))
    ∷ []))) no_statements) []) ∷ [])) (looks (((1, One 0) ∷ (2, One 1) ∷ []) ∷ [])) (0 ∷ [])

--     program p; integer, allocatable :: a(:); integer :: b(3); call move_alloc(a, b); end
-- 1:78: T8
abbrev pub t8_18 : Type 0
t8_18 = Finds (Some (broken 6 T8 1 78 None))
    (program (codes "p" ∷ codes "a" ∷ codes "b" ∷ codes "call" ∷ codes "move_alloc" ∷ []) ((unit u.Program (name 0 1 9) ((declares (declaration (Integer Four)
    (allocatable ∷ []) ((entity (name 1 1 36) (Some (deferred (None ∷ []))) None) ∷ []))) ∷ (declares (declaration (Integer Four) [] ((entity (name 2 1
    53) (Some (explicit ((bounds None (four (at 1 55) 3)) ∷ []))) None) ∷ []))) ∷ []) (statements (acts (at 1 59) (call (name 4 1 64) ((value None
    (designator (parts (name 1 1 75) bare no_parts))) ∷ (value None (designator (parts (name 2 1 78) bare no_parts))) ∷ []))) no_statements) []) ∷ []))
    (looks (((1, One 0) ∷ (2, One 1) ∷ []) ∷ [])) (0 ∷ [])

--     program p; integer, allocatable :: a(:); integer :: b; call move_alloc(b, a); end
-- 1:72: T8
abbrev pub t8_19 : Type 0
t8_19 = Finds (Some (broken 6 T8 1 72 None))
    (program (codes "p" ∷ codes "a" ∷ codes "b" ∷ codes "call" ∷ codes "move_alloc" ∷ []) ((unit u.Program (name 0 1 9) ((declares (declaration (Integer Four)
    (allocatable ∷ []) ((entity (name 1 1 36) (Some (deferred (None ∷ []))) None) ∷ []))) ∷ (declares (declaration (Integer Four) [] ((entity (name 2 1
    53) None None) ∷ []))) ∷ []) (statements (acts (at 1 56) (call (name 4 1 61) ((value None (designator (parts (name 2 1 72) bare no_parts))) ∷ (value
    None (designator (parts (name 1 1 75) bare no_parts))) ∷ []))) no_statements) []) ∷ [])) (looks (((1, One 0) ∷ (2, One 1) ∷ []) ∷ [])) (0 ∷ [])

--     program p; integer, allocatable :: a(:), b(:); call move_alloc(a, form=b); end
-- 1:53: T8
abbrev pub t8_20 : Type 0
t8_20 = Finds (Some (broken 6 T8 1 53 None))
    (program (codes "p" ∷ codes "a" ∷ codes "b" ∷ codes "call" ∷ codes "form" ∷ codes "move_alloc" ∷ []) ((unit u.Program (name 0 1 9) ((declares (declaration
    (Integer Four) (allocatable ∷ []) ((entity (name 1 1 36) (Some (deferred (None ∷ []))) None) ∷ (entity (name 2 1 42) (Some (deferred (None ∷ [])))
    None) ∷ []))) ∷ []) (statements (acts (at 1 48) (call (name 5 1 53) ((value None (designator (parts (name 1 1 64) bare no_parts))) ∷ (value (Some
    (name 4 1 67)) (designator (parts (name 2 1 72) bare no_parts))) ∷ []))) no_statements) []) ∷ [])) (looks (((1, One 0) ∷ (2, One 1) ∷ []) ∷ [])) (0 ∷
    [])

--     program p; integer, allocatable :: a(:), b(:); call move_alloc(to=a, b); end
-- 1:53: T8
abbrev pub t8_21 : Type 0
t8_21 = Finds (Some (broken 6 T8 1 53 None))
    (program (codes "p" ∷ codes "a" ∷ codes "b" ∷ codes "call" ∷ codes "to" ∷ codes "move_alloc" ∷ []) ((unit u.Program (name 0 1 9) ((declares (declaration
    (Integer Four) (allocatable ∷ []) ((entity (name 1 1 36) (Some (deferred (None ∷ []))) None) ∷ (entity (name 2 1 42) (Some (deferred (None ∷ [])))
    None) ∷ []))) ∷ []) (statements (acts (at 1 48) (call (name 5 1 53) ((value (Some (name 4 1 64)) (designator (parts (name 1 1 67) bare no_parts))) ∷
    (value None (designator (parts (name 2 1 70) bare no_parts))) ∷ []))) no_statements) []) ∷ [])) (looks (((1, One 0) ∷ (2, One 1) ∷ []) ∷ [])) (0 ∷ [])

--     program p; integer, allocatable :: a(:), b(:); call move_alloc(a, from=b); end
-- 1:53: T8
abbrev pub t8_22 : Type 0
t8_22 = Finds (Some (broken 6 T8 1 53 None))
    (program (codes "p" ∷ codes "a" ∷ codes "b" ∷ codes "call" ∷ codes "from" ∷ codes "move_alloc" ∷ []) ((unit u.Program (name 0 1 9) ((declares (declaration
    (Integer Four) (allocatable ∷ []) ((entity (name 1 1 36) (Some (deferred (None ∷ []))) None) ∷ (entity (name 2 1 42) (Some (deferred (None ∷ [])))
    None) ∷ []))) ∷ []) (statements (acts (at 1 48) (call (name 5 1 53) ((value None (designator (parts (name 1 1 64) bare no_parts))) ∷ (value (Some
    (name 4 1 67)) (designator (parts (name 2 1 72) bare no_parts))) ∷ []))) no_statements) []) ∷ [])) (looks (((1, One 0) ∷ (2, One 1) ∷ []) ∷ [])) (0 ∷
    [])

--     program p; integer, allocatable :: a(:), b(:); call move_alloc(a, (b)); end
-- 1:67: T8
abbrev pub t8_23 : Type 0
t8_23 = Finds (Some (broken 6 T8 1 67 None))
    (program (codes "p" ∷ codes "a" ∷ codes "b" ∷ codes "call" ∷ codes "move_alloc" ∷ []) ((unit u.Program (name 0 1 9) ((declares (declaration (Integer Four)
    (allocatable ∷ []) ((entity (name 1 1 36) (Some (deferred (None ∷ []))) None) ∷ (entity (name 2 1 42) (Some (deferred (None ∷ []))) None) ∷ []))) ∷
    []) (statements (acts (at 1 48) (call (name 4 1 53) ((value None (designator (parts (name 1 1 64) bare no_parts))) ∷ (value None (group (at 1 67)
    (designator (parts (name 2 1 68) bare no_parts)))) ∷ []))) no_statements) []) ∷ [])) (looks (((1, One 0) ∷ (2, One 1) ∷ []) ∷ [])) (0 ∷ [])

--     program p; integer, allocatable :: a(:), b(:); call move_alloc(a(1), b); end
-- 1:64: T8
abbrev pub t8_24 : Type 0
t8_24 = Finds (Some (broken 6 T8 1 64 None))
    (program (codes "p" ∷ codes "a" ∷ codes "b" ∷ codes "call" ∷ codes "move_alloc" ∷ []) ((unit u.Program (name 0 1 9) ((declares (declaration (Integer Four)
    (allocatable ∷ []) ((entity (name 1 1 36) (Some (deferred (None ∷ []))) None) ∷ (entity (name 2 1 42) (Some (deferred (None ∷ []))) None) ∷ []))) ∷
    []) (statements (acts (at 1 48) (call (name 4 1 53) ((value None (designator (parts (name 1 1 64) (within (arguments (value None (four (at 1 66) 1))
    no_arguments)) no_parts))) ∷ (value None (designator (parts (name 2 1 70) bare no_parts))) ∷ []))) no_statements) []) ∷ [])) (looks (((1, One 0) ∷ (
      2,
      One 1,
    ) ∷ []) ∷ [])) (0 ∷ [])

--     program p; integer, allocatable :: a(:), b(:); call move_alloc(:, b); end
-- 1:64: T8
abbrev pub t8_25 : Type 0
t8_25 = Finds (Some (broken 6 T8 1 64 None))
    (program (codes "p" ∷ codes "a" ∷ codes "b" ∷ codes "call" ∷ codes "move_alloc" ∷ []) ((unit u.Program (name 0 1 9) ((declares (declaration (Integer Four)
    (allocatable ∷ []) ((entity (name 1 1 36) (Some (deferred (None ∷ []))) None) ∷ (entity (name 2 1 42) (Some (deferred (None ∷ []))) None) ∷ []))) ∷
    []) (statements (acts (at 1 48) (call (name 4 1 53) ((triplet (at 1 64) absent absent absent) ∷ (value None (designator (parts (name 2 1 67) bare
    no_parts))) ∷ []))) no_statements) []) ∷ [])) (looks (((1, One 0) ∷ (2, One 1) ∷ []) ∷ [])) (0 ∷ [])

abbrev pub T8Show : Type 0
T8Show = t8_1 × t8_2 × t8_3 × t8_4 × t8_5 × t8_6 × t8_7 × t8_8 × t8_9 × t8_10 × t8_11 × t8_12 × t8_13 × t8_14 × t8_15 × t8_16 × t8_17 × t8_18 × t8_19 × t8_20
    × t8_21 × t8_22 × t8_23 × t8_24 × t8_25
