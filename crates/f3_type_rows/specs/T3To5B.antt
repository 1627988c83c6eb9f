-- Programs, each in the text above it, with what refuses it.
use Rattle.std.specs.Prelude.{false, [], ◌∷◌, None, Some, codes}
use Rattle.f3_lookups.specs.declared.lookup.Lookup.TheVariants.{One}
use Rattle.f3_rules.specs.declared.rule.Rule.TheVariants.{T4, T5}
use Rattle.f3_tree.specs.declared.expression.Sign.TheVariants.{Minus}
use Rattle.f3_tree.specs.declared.expression.Operator.TheVariants as o
use Rattle.f3_tree.specs.declared.expression.IntegerKind.TheVariants.{Four, Eight}
use Rattle.f3_tree.specs.declared.declaration.Intent.TheVariants.{In}
use Rattle.f3_tree.specs.declared.declaration.TypeSpecifier.TheVariants.{Integer, Derived}
use Rattle.f3_tree.specs.declared.program.ProcedureKind.TheVariants.{Subroutine}
use Rattle.f3_tree.specs.declared.program.UnitKind.TheVariants as u
use Rattle.f3_tree.specs.Expressions.{designator, signed, chain, no_more, more, no_parts, parts}
use Rattle.f3_tree.specs.Expressions.{bare}
use Rattle.f3_tree.specs.Declarations.{explicit, deferred, allocatable, intent, declares}
use Rattle.f3_tree.specs.Statements.{print}
use Rattle.f3_tree.specs.Statements.{acts, associates, no_statements, statements}
use Rattle.f3_type_rows.specs.Build.{Finds, at, name, four, eight, bounds, entity, declaration, type_definition, procedure, unit, association}
use Rattle.f3_type_rows.specs.Build.{program, looks, broken}

--     module m; type t; integer :: i; contains; final :: f; end type; type u; integer :: j; contains; final :: f; end type; contains; subroutine
--         f(x); type(t), intent(in) :: x; end; end
--     program p; end
-- 1:106: T4: f
abbrev pub t4_11 : Type 0
t4_11 = Finds (Some (broken 5 T4 1 106 (Some 3)))
    (program (codes "m" ∷ codes "t" ∷ codes "i" ∷ codes "f" ∷ codes "u" ∷ codes "j" ∷ codes "x" ∷ codes "p" ∷ []) ((unit u.Module (name 0 1 8)
    ((type_definition (name 1 1 16) false ((declaration (Integer Four) [] ((entity (name 2 1 30) None None) ∷ [])) ∷ []) ((name 3 1 52) ∷ [])) ∷
    (type_definition (name 4 1 70) false ((declaration (Integer Four) [] ((entity (name 5 1 84) None None) ∷ [])) ∷ []) ((name 3 1 106) ∷ [])) ∷ [])
    no_statements ((procedure false Subroutine (name 3 1 140) ((name 6 1 142) ∷ []) ((declares (declaration (Derived (name 1 1 151)) ((intent In) ∷ [])
    ((entity (name 6 1 169) None None) ∷ []))) ∷ []) no_statements) ∷ [])) ∷ (unit u.Program (name 7 2 9) [] no_statements []) ∷ [])) (looks (((1, One 0)
    ∷ (3, One 2) ∷ (4, One 1) ∷ []) ∷ ((1, One 0) ∷ (3, One 2) ∷ (4, One 1) ∷ (6, One 3) ∷ []) ∷ [] ∷ [])) (0 ∷ 1 ∷ [])

--     module m; type t; integer :: i; contains; final :: abs; end type; end
--     program p; end
-- 1:52: T4: abs
abbrev pub t4_12 : Type 0
t4_12 = Finds (Some (broken 5 T4 1 52 (Some 3)))
    (program (codes "m" ∷ codes "t" ∷ codes "i" ∷ codes "abs" ∷ codes "p" ∷ []) ((unit u.Module (name 0 1 8) ((type_definition (name 1 1 16) false
    ((declaration (Integer Four) [] ((entity (name 2 1 30) None None) ∷ [])) ∷ []) ((name 3 1 52) ∷ [])) ∷ []) no_statements []) ∷ (unit u.Program (name 4
    2 9) [] no_statements []) ∷ [])) (looks (((1, One 0) ∷ []) ∷ [] ∷ [])) (0 ∷ 1 ∷ [])

--     program p; associate (z => 1, y => 2); print *, z + y; end associate; end
--     module m; type t; integer :: i; contains; final :: f, g; end type; contains; subroutine e(); associate (z => 1); print *, z
--     end associate; end; subroutine f(x); type(t), intent(in) :: x; end; subroutine g(x); type(t), intent(in) :: x; end; end
-- 2:55: T4: g
abbrev pub t4_13 : Type 0
t4_13 = Finds (Some (broken 5 T4 2 55 (Some 8)))
    (program (codes "p" ∷ codes "z" ∷ codes "y" ∷ codes "print" ∷ codes "m" ∷ codes "t" ∷ codes "i" ∷ codes "f" ∷ codes "g" ∷ codes "e" ∷ codes "x" ∷ [])
    ((unit u.Program (name 0 1 9) [] (statements (associates (at 1 12) ((association (name 1 1 23) (four (at 1 28) 1)) ∷ (association (name 2 1 31) (four
    (at 1 36) 2)) ∷ []) (statements (acts (at 1 40) (print ((chain (designator (parts (name 1 1 49) bare no_parts)) (more o.Add (designator (parts (name 2
    1 53) bare no_parts)) no_more)) ∷ []))) no_statements)) no_statements) []) ∷ (unit u.Module (name 4 2 8) ((type_definition (name 5 2 16) false
    ((declaration (Integer Four) [] ((entity (name 6 2 30) None None) ∷ [])) ∷ []) ((name 7 2 52) ∷ (name 8 2 55) ∷ [])) ∷ []) no_statements ((procedure
    false Subroutine (name 9 2 89) [] [] (statements (associates (at 2 94) ((association (name 1 2 105) (four (at 2 110) 1)) ∷ []) (statements (acts (at 2
    114) (print ((designator (parts (name 1 2 123) bare no_parts)) ∷ []))) no_statements)) no_statements)) ∷ (procedure false Subroutine (name 7 3 32)
    ((name 10 3 34) ∷ []) ((declares (declaration (Derived (name 5 3 43)) ((intent In) ∷ []) ((entity (name 10 3 61) None None) ∷ []))) ∷ [])
    no_statements) ∷ (procedure false Subroutine (name 8 3 80) ((name 10 3 82) ∷ []) ((declares (declaration (Derived (name 5 3 91)) ((intent In) ∷ [])
    ((entity (name 10 3 109) None None) ∷ []))) ∷ []) no_statements) ∷ [])) ∷ [])) (looks ([] ∷ ((1, One 0) ∷ (2, One 1) ∷ []) ∷ ((5, One 2) ∷ (7, One 4)
    ∷ (8, One 5) ∷ (9, One 3) ∷ []) ∷ ((5, One 2) ∷ (7, One 4) ∷ (8, One 5) ∷ (9, One 3) ∷ []) ∷ ((1, One 6) ∷ (5, One 2) ∷ (7, One 4) ∷ (8, One 5) ∷ (
      9,
      One 3,
    ) ∷ []) ∷ ((5, One 2) ∷ (7, One 4) ∷ (8, One 5) ∷ (9, One 3) ∷ (10, One 7) ∷ []) ∷ ((5, One 2) ∷ (7, One 4) ∷ (8, One 5) ∷ (9, One 3) ∷ (
      10,
      One
          8,
    ) ∷ []) ∷ [])) (0 ∷ 1 ∷ [])

--     program p; integer :: a(1,1,1,1,1,1,1,1); end
-- 1:23: T5: a
abbrev pub t5_1 : Type 0
t5_1 = Finds (Some (broken 5 T5 1 23 (Some 1)))
    (program (codes "p" ∷ codes "a" ∷ []) ((unit u.Program (name 0 1 9) ((declares (declaration (Integer Four) [] ((entity (name 1 1 23) (Some (explicit
    ((bounds None (four (at 1 25) 1)) ∷ (bounds None (four (at 1 27) 1)) ∷ (bounds None (four (at 1 29) 1)) ∷ (bounds None (four (at 1 31) 1)) ∷ (bounds
    None (four (at 1 33) 1)) ∷ (bounds None (four (at 1 35) 1)) ∷ (bounds None (four (at 1 37) 1)) ∷ (bounds None (four (at 1 39) 1)) ∷ []))) None) ∷
    []))) ∷ []) no_statements []) ∷ [])) (looks (((1, One 0) ∷ []) ∷ [])) (0 ∷ [])

--     module m; type t; integer :: a(16777217); end type; end
--     program p; end
-- 1:16: T5: t
abbrev pub t5_2 : Type 0
t5_2 = Finds (Some (broken 5 T5 1 16 (Some 1)))
    (program (codes "m" ∷ codes "t" ∷ codes "a" ∷ codes "p" ∷ []) ((unit u.Module (name 0 1 8) ((type_definition (name 1 1 16) false ((declaration (Integer
    Four) [] ((entity (name 2 1 30) (Some (explicit ((bounds None (four (at 1 32) 16777217)) ∷ []))) None) ∷ [])) ∷ []) []) ∷ []) no_statements []) ∷
    (unit u.Program (name 3 2 9) [] no_statements []) ∷ [])) (looks (((1, One 0) ∷ []) ∷ [] ∷ [])) (0 ∷ 1 ∷ [])

--     program p; integer :: a(16777217); end
-- 1:23: T5: a
abbrev pub t5_3 : Type 0
t5_3 = Finds (Some (broken 5 T5 1 23 (Some 1)))
    (program (codes "p" ∷ codes "a" ∷ []) ((unit u.Program (name 0 1 9) ((declares (declaration (Integer Four) [] ((entity (name 1 1 23) (Some (explicit
    ((bounds None (four (at 1 25) 16777217)) ∷ []))) None) ∷ []))) ∷ []) no_statements []) ∷ [])) (looks (((1, One 0) ∷ []) ∷ [])) (0 ∷ [])

--     program p; integer :: a(4096, 4097); end
-- 1:23: T5: a
abbrev pub t5_4 : Type 0
t5_4 = Finds (Some (broken 5 T5 1 23 (Some 1)))
    (program (codes "p" ∷ codes "a" ∷ []) ((unit u.Program (name 0 1 9) ((declares (declaration (Integer Four) [] ((entity (name 1 1 23) (Some (explicit
    ((bounds None (four (at 1 25) 4096)) ∷ (bounds None (four (at 1 31) 4097)) ∷ []))) None) ∷ []))) ∷ []) no_statements []) ∷ [])) (looks (((1, One 0) ∷
    []) ∷ [])) (0 ∷ [])

--     program p; integer, allocatable :: a(:,:,:,:,:,:,:,:); end
-- 1:36: T5: a
abbrev pub t5_5 : Type 0
t5_5 = Finds (Some (broken 5 T5 1 36 (Some 1)))
    (program (codes "p" ∷ codes "a" ∷ []) ((unit u.Program (name 0 1 9) ((declares (declaration (Integer Four) (allocatable ∷ []) ((entity (name 1 1 36) (Some
    (deferred (None ∷ None ∷ None ∷ None ∷ None ∷ None ∷ None ∷ None ∷ []))) None) ∷ []))) ∷ []) no_statements []) ∷ [])) (looks (((1, One 0) ∷ []) ∷ []))
    (0 ∷ [])

--     module m; type t; integer :: a(4000); integer, allocatable :: b(:); end type; type(t) :: x(4194); end
--     program p; end
-- 1:90: T5: x
abbrev pub t5_6 : Type 0
t5_6 = Finds (Some (broken 5 T5 1 90 (Some 4)))
    (program (codes "m" ∷ codes "t" ∷ codes "a" ∷ codes "b" ∷ codes "x" ∷ codes "p" ∷ []) ((unit u.Module (name 0 1 8) ((type_definition (name 1 1 16) false
    ((declaration (Integer Four) [] ((entity (name 2 1 30) (Some (explicit ((bounds None (four (at 1 32) 4000)) ∷ []))) None) ∷ [])) ∷ (declaration
    (Integer Four) (allocatable ∷ []) ((entity (name 3 1 63) (Some (deferred (None ∷ []))) None) ∷ [])) ∷ []) []) ∷ (declares (declaration (Derived (name
    1 1 84)) [] ((entity (name 4 1 90) (Some (explicit ((bounds None (four (at 1 92) 4194)) ∷ []))) None) ∷ []))) ∷ []) no_statements []) ∷ (unit
    u.Program (name 5 2 9) [] no_statements []) ∷ [])) (looks (((1, One 0) ∷ (4, One 1) ∷ []) ∷ [] ∷ [])) (0 ∷ 1 ∷ [])

--     module m; type t; integer :: a(10000000); end type; type u; type(t) :: x, y; end type; end
--     program p; end
-- 1:58: T5: u
abbrev pub t5_7 : Type 0
t5_7 = Finds (Some (broken 5 T5 1 58 (Some 3)))
    (program (codes "m" ∷ codes "t" ∷ codes "a" ∷ codes "u" ∷ codes "x" ∷ codes "y" ∷ codes "p" ∷ []) ((unit u.Module (name 0 1 8) ((type_definition (name 1 1
    16) false ((declaration (Integer Four) [] ((entity (name 2 1 30) (Some (explicit ((bounds None (four (at 1 32) 10000000)) ∷ []))) None) ∷ [])) ∷ [])
    []) ∷ (type_definition (name 3 1 58) false ((declaration (Derived (name 1 1 66)) [] ((entity (name 4 1 72) None None) ∷ (entity (name 5 1 75) None
    None) ∷ [])) ∷ []) []) ∷ []) no_statements []) ∷ (unit u.Program (name 6 2 9) [] no_statements []) ∷ [])) (looks (((1, One 0) ∷ (3, One 1) ∷ []) ∷ []
    ∷ [])) (0 ∷ 1 ∷ [])

--     program p; use m; type(t) :: y(2); end
--     module m; type t; integer :: a(10000000); end type; end
-- 1:30: T5: y
abbrev pub t5_8 : Type 0
t5_8 = Finds (Some (broken 5 T5 1 30 (Some 2)))
    (program (codes "p" ∷ codes "t" ∷ codes "y" ∷ codes "m" ∷ codes "a" ∷ []) ((unit u.Program (name 0 1 9) ((declares (declaration (Derived (name 1 1 24)) []
    ((entity (name 2 1 30) (Some (explicit ((bounds None (four (at 1 32) 2)) ∷ []))) None) ∷ []))) ∷ []) no_statements []) ∷ (unit u.Module (name 3 2 8)
    ((type_definition (name 1 2 16) false ((declaration (Integer Four) [] ((entity (name 4 2 30) (Some (explicit ((bounds None (four (at 2 32) 10000000))
    ∷ []))) None) ∷ [])) ∷ []) []) ∷ []) no_statements []) ∷ [])) (looks (((1, One 1) ∷ (2, One 0) ∷ []) ∷ ((1, One 1) ∷ []) ∷ [])) (1 ∷ 0 ∷ [])

--     program p; integer :: a(9223372036854775807_8); end
-- 1:23: T5: a
abbrev pub t5_9 : Type 0
t5_9 = Finds (Some (broken 5 T5 1 23 (Some 1)))
    (program (codes "p" ∷ codes "a" ∷ []) ((unit u.Program (name 0 1 9) ((declares (declaration (Integer Four) [] ((entity (name 1 1 23) (Some (explicit
    ((bounds None (eight (at 1 25) 9223372036854775807)) ∷ []))) None) ∷ []))) ∷ []) no_statements []) ∷ [])) (looks (((1, One 0) ∷ []) ∷ [])) (0 ∷ [])

--     program p; integer :: a(0, -9223372036854775807_8:9223372036854775807_8); end
-- 1:23: T5: a
abbrev pub t5_10 : Type 0
t5_10 = Finds (Some (broken 5 T5 1 23 (Some 1)))
    (program (codes "p" ∷ codes "a" ∷ []) ((unit u.Program (name 0 1 9) ((declares (declaration (Integer Four) [] ((entity (name 1 1 23) (Some (explicit
    ((bounds None (four (at 1 25) 0)) ∷ (bounds (Some (signed (at 1 28) Minus (eight (at 1 29) 9223372036854775807))) (eight (at 1 51)
    9223372036854775807)) ∷ []))) None) ∷ []))) ∷ []) no_statements []) ∷ [])) (looks (((1, One 0) ∷ []) ∷ [])) (0 ∷ [])

--     program p; integer :: a(0, -2:9223372036854775805_8); end
-- 1:23: T5: a
abbrev pub t5_11 : Type 0
t5_11 = Finds (Some (broken 5 T5 1 23 (Some 1)))
    (program (codes "p" ∷ codes "a" ∷ []) ((unit u.Program (name 0 1 9) ((declares (declaration (Integer Four) [] ((entity (name 1 1 23) (Some (explicit
    ((bounds None (four (at 1 25) 0)) ∷ (bounds (Some (signed (at 1 28) Minus (four (at 1 29) 2))) (eight (at 1 31) 9223372036854775805)) ∷ []))) None) ∷
    []))) ∷ []) no_statements []) ∷ [])) (looks (((1, One 0) ∷ []) ∷ [])) (0 ∷ [])

--     module m; type t; integer :: a(0, 0:9223372036854775807_8); end type; end
--     program p; end
-- 1:30: T5: a
abbrev pub t5_12 : Type 0
t5_12 = Finds (Some (broken 5 T5 1 30 (Some 2)))
    (program (codes "m" ∷ codes "t" ∷ codes "a" ∷ codes "p" ∷ []) ((unit u.Module (name 0 1 8) ((type_definition (name 1 1 16) false ((declaration (Integer
    Four) [] ((entity (name 2 1 30) (Some (explicit ((bounds None (four (at 1 32) 0)) ∷ (bounds (Some (four (at 1 35) 0)) (eight (at 1 37)
    9223372036854775807)) ∷ []))) None) ∷ [])) ∷ []) []) ∷ []) no_statements []) ∷ (unit u.Program (name 3 2 9) [] no_statements []) ∷ [])) (looks (((
      1,
      One 0,
    ) ∷ []) ∷ [] ∷ [])) (0 ∷ 1 ∷ [])

--     program p; integer(8) :: a(16777217); end
-- 1:26: T5: a
abbrev pub t5_13 : Type 0
t5_13 = Finds (Some (broken 5 T5 1 26 (Some 1)))
    (program (codes "p" ∷ codes "a" ∷ []) ((unit u.Program (name 0 1 9) ((declares (declaration (Integer Eight) [] ((entity (name 1 1 26) (Some (explicit
    ((bounds None (four (at 1 28) 16777217)) ∷ []))) None) ∷ []))) ∷ []) no_statements []) ∷ [])) (looks (((1, One 0) ∷ []) ∷ [])) (0 ∷ [])

abbrev pub T3To5BShow : Type 0
T3To5BShow = t4_11 × t4_12 × t4_13 × t5_1 × t5_2 × t5_3 × t5_4 × t5_5 × t5_6 × t5_7 × t5_8 × t5_9 × t5_10 × t5_11 × t5_12 × t5_13
