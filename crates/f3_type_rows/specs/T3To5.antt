-- Programs, each in the text above it, with what refuses it.
use Rattle.std.specs.Prelude.{false, [], ◌∷◌, None, Some, codes}
use Rattle.f3_lookups.specs.declared.lookup.Lookup.TheVariants.{One}
use Rattle.f3_rules.specs.declared.rule.Rule.TheVariants.{T3, T4}
use Rattle.f3_tree.specs.declared.expression.IntegerKind.TheVariants.{Four}
use Rattle.f3_tree.specs.declared.declaration.Intent.TheVariants.{In, Out, InOut}
use Rattle.f3_tree.specs.declared.declaration.TypeSpecifier.TheVariants.{Integer, Derived}
use Rattle.f3_tree.specs.declared.program.ProcedureKind.TheVariants.{Subroutine, Function}
use Rattle.f3_tree.specs.declared.program.UnitKind.TheVariants as u
use Rattle.f3_tree.specs.Expressions.{designator, no_parts, parts}
use Rattle.f3_tree.specs.Expressions.{bare}
use Rattle.f3_tree.specs.Declarations.{explicit, allocatable, intent, declares}
use Rattle.f3_tree.specs.Statements.{assign, print}
use Rattle.f3_tree.specs.Statements.{acts, associates, no_statements, statements}
use Rattle.f3_type_rows.specs.Build.{Finds, at, name, four, bounds, entity, declaration, type_definition, procedure, unit, association, program, looks, broken}

--     module m; type(t) :: x; type t; integer :: c; end type; end
--     program p; end
-- 1:16: T3: t
abbrev pub t3_1 : Type 0
t3_1 = Finds (Some (broken 5 T3 1 16 (Some 1)))
    (program (codes "m" ∷ codes "t" ∷ codes "x" ∷ codes "c" ∷ codes "p" ∷ []) ((unit u.Module (name 0 1 8) ((declares (declaration (Derived (name 1 1 16)) []
    ((entity (name 2 1 22) None None) ∷ []))) ∷ (type_definition (name 1 1 30) false ((declaration (Integer Four) [] ((entity (name 3 1 44) None None) ∷
    [])) ∷ []) []) ∷ []) no_statements []) ∷ (unit u.Program (name 4 2 9) [] no_statements []) ∷ [])) (looks (((1, One 1) ∷ (2, One 0) ∷ []) ∷ [] ∷ []))
    (0 ∷ 1 ∷ [])

--     module m; type u; type(t) :: c; end type; type t; integer :: a(16777217); end type; end
--     program p; end
-- 1:24: T3: t
abbrev pub t3_2 : Type 0
t3_2 = Finds (Some (broken 5 T3 1 24 (Some 2)))
    (program (codes "m" ∷ codes "u" ∷ codes "t" ∷ codes "c" ∷ codes "a" ∷ codes "p" ∷ []) ((unit u.Module (name 0 1 8) ((type_definition (name 1 1 16) false
    ((declaration (Derived (name 2 1 24)) [] ((entity (name 3 1 30) None None) ∷ [])) ∷ []) []) ∷ (type_definition (name 2 1 48) false ((declaration
    (Integer Four) [] ((entity (name 4 1 62) (Some (explicit ((bounds None (four (at 1 64) 16777217)) ∷ []))) None) ∷ [])) ∷ []) []) ∷ []) no_statements
    []) ∷ (unit u.Program (name 5 2 9) [] no_statements []) ∷ [])) (looks (((1, One 0) ∷ (2, One 1) ∷ []) ∷ [] ∷ [])) (0 ∷ 1 ∷ [])

--     module m; type a; type(b) :: x; end type; type b; integer :: i; end type; end
--     program p; end
-- 1:24: T3: b
abbrev pub t3_3 : Type 0
t3_3 = Finds (Some (broken 5 T3 1 24 (Some 2)))
    (program (codes "m" ∷ codes "a" ∷ codes "b" ∷ codes "x" ∷ codes "i" ∷ codes "p" ∷ []) ((unit u.Module (name 0 1 8) ((type_definition (name 1 1 16) false
    ((declaration (Derived (name 2 1 24)) [] ((entity (name 3 1 30) None None) ∷ [])) ∷ []) []) ∷ (type_definition (name 2 1 48) false ((declaration
    (Integer Four) [] ((entity (name 4 1 62) None None) ∷ [])) ∷ []) []) ∷ []) no_statements []) ∷ (unit u.Program (name 5 2 9) [] no_statements []) ∷
    [])) (looks (((1, One 0) ∷ (2, One 1) ∷ []) ∷ [] ∷ [])) (0 ∷ 1 ∷ [])

--     module m; type a; type(a), allocatable :: x; end type; end
--     program p; end
-- 1:24: T3: a
abbrev pub t3_4 : Type 0
t3_4 = Finds (Some (broken 5 T3 1 24 (Some 1)))
    (program (codes "m" ∷ codes "a" ∷ codes "x" ∷ codes "p" ∷ []) ((unit u.Module (name 0 1 8) ((type_definition (name 1 1 16) false ((declaration (Derived
    (name 1 1 24)) (allocatable ∷ []) ((entity (name 2 1 43) None None) ∷ [])) ∷ []) []) ∷ []) no_statements []) ∷ (unit u.Program (name 3 2 9) []
    no_statements []) ∷ [])) (looks (((1, One 0) ∷ []) ∷ [] ∷ [])) (0 ∷ 1 ∷ [])

--     module m; type(t) :: x; type t; integer :: i; end type; contains; subroutine s(); type(t) :: y; end; end
--     program p; end
-- 1:16: T3: t
abbrev pub t3_5 : Type 0
t3_5 = Finds (Some (broken 5 T3 1 16 (Some 1)))
    (program (codes "m" ∷ codes "t" ∷ codes "x" ∷ codes "i" ∷ codes "s" ∷ codes "y" ∷ codes "p" ∷ []) ((unit u.Module (name 0 1 8) ((declares (declaration
    (Derived (name 1 1 16)) [] ((entity (name 2 1 22) None None) ∷ []))) ∷ (type_definition (name 1 1 30) false ((declaration (Integer Four) [] ((entity
    (name 3 1 44) None None) ∷ [])) ∷ []) []) ∷ []) no_statements ((procedure false Subroutine (name 4 1 78) [] ((declares (declaration (Derived (name 1 1
    88)) [] ((entity (name 5 1 94) None None) ∷ []))) ∷ []) no_statements) ∷ [])) ∷ (unit u.Program (name 6 2 9) [] no_statements []) ∷ [])) (looks (((
      1,
      One 1,
    ) ∷ (2, One 0) ∷ (4, One 2) ∷ []) ∷ ((1, One 1) ∷ (2, One 0) ∷ (4, One 2) ∷ (5, One 3) ∷ []) ∷ [] ∷ [])) (0 ∷ 1 ∷ [])

--     program p; associate (z => 1); print *, z; end associate; end
--     module m; type u; type(t) :: c; end type; type t; integer :: i; end type; end
-- 2:24: T3: t
abbrev pub t3_6 : Type 0
t3_6 = Finds (Some (broken 5 T3 2 24 (Some 5)))
    (program (codes "p" ∷ codes "z" ∷ codes "print" ∷ codes "m" ∷ codes "u" ∷ codes "t" ∷ codes "c" ∷ codes "i" ∷ []) ((unit u.Program (name 0 1 9) []
    (statements (associates (at 1 12) ((association (name 1 1 23) (four (at 1 28) 1)) ∷ []) (statements (acts (at 1 32) (print ((designator (parts (name 1
    1 41) bare no_parts)) ∷ []))) no_statements)) no_statements) []) ∷ (unit u.Module (name 3 2 8) ((type_definition (name 4 2 16) false ((declaration
    (Derived (name 5 2 24)) [] ((entity (name 6 2 30) None None) ∷ [])) ∷ []) []) ∷ (type_definition (name 5 2 48) false ((declaration (Integer Four) []
    ((entity (name 7 2 62) None None) ∷ [])) ∷ []) []) ∷ []) no_statements []) ∷ [])) (looks ([] ∷ ((1, One 0) ∷ []) ∷ ((4, One 1) ∷ (5, One 2) ∷ []) ∷
    [])) (0 ∷ 1 ∷ [])

--     module m; type t; integer :: c; contains; final :: f; end type; contains
--     subroutine f(x); integer, intent(inout) :: x; end
--     end
--     program p; end
-- 1:52: T4: f
abbrev pub t4_1 : Type 0
t4_1 = Finds (Some (broken 5 T4 1 52 (Some 3)))
    (program (codes "m" ∷ codes "t" ∷ codes "c" ∷ codes "f" ∷ codes "x" ∷ codes "p" ∷ []) ((unit u.Module (name 0 1 8) ((type_definition (name 1 1 16) false
    ((declaration (Integer Four) [] ((entity (name 2 1 30) None None) ∷ [])) ∷ []) ((name 3 1 52) ∷ [])) ∷ []) no_statements ((procedure false Subroutine
    (name 3 2 12) ((name 4 2 14) ∷ []) ((declares (declaration (Integer Four) ((intent InOut) ∷ []) ((entity (name 4 2 44) None None) ∷ []))) ∷ [])
    no_statements) ∷ [])) ∷ (unit u.Program (name 5 4 9) [] no_statements []) ∷ [])) (looks (((1, One 0) ∷ (3, One 1) ∷ []) ∷ ((1, One 0) ∷ (3, One 1) ∷
    (4, One 2) ∷ []) ∷ [] ∷ [])) (0 ∷ 1 ∷ [])

--     module a; use m; contains; function f(); type(t) :: f; end; end
--     module m; type t; integer :: i; contains; final :: s; end type; contains; subroutine s(); end; end
--     program p; end
-- 2:52: T4: s
abbrev pub t4_2 : Type 0
t4_2 = Finds (Some (broken 5 T4 2 52 (Some 5)))
    (program (codes "a" ∷ codes "f" ∷ codes "t" ∷ codes "m" ∷ codes "i" ∷ codes "s" ∷ codes "p" ∷ []) ((unit u.Module (name 0 1 8) [] no_statements
    ((procedure false (Function None None) (name 1 1 37) [] ((declares (declaration (Derived (name 2 1 47)) [] ((entity (name 1 1 53) None None) ∷ []))) ∷
    []) no_statements) ∷ [])) ∷ (unit u.Module (name 3 2 8) ((type_definition (name 2 2 16) false ((declaration (Integer Four) [] ((entity (name 4 2 30)
    None None) ∷ [])) ∷ []) ((name 5 2 52) ∷ [])) ∷ []) no_statements ((procedure false Subroutine (name 5 2 86) [] [] no_statements) ∷ [])) ∷ (unit
    u.Program (name 6 3 9) [] no_statements []) ∷ [])) (looks (((1, One 0) ∷ (2, One 2) ∷ (5, One 3) ∷ []) ∷ ((1, One 1) ∷ (2, One 2) ∷ (5, One 3) ∷ []) ∷
    ((2, One 2) ∷ (5, One 3) ∷ []) ∷ ((2, One 2) ∷ (5, One 3) ∷ []) ∷ [] ∷ [])) (1 ∷ 0 ∷ 2 ∷ [])

--     module m; type t; integer :: i; contains; final :: s; end type; contains; subroutine s(x); type(t), intent(in) :: x(3); end; end
--     program p; end
-- 1:52: T4: s
abbrev pub t4_3 : Type 0
t4_3 = Finds (Some (broken 5 T4 1 52 (Some 3)))
    (program (codes "m" ∷ codes "t" ∷ codes "i" ∷ codes "s" ∷ codes "x" ∷ codes "p" ∷ []) ((unit u.Module (name 0 1 8) ((type_definition (name 1 1 16) false
    ((declaration (Integer Four) [] ((entity (name 2 1 30) None None) ∷ [])) ∷ []) ((name 3 1 52) ∷ [])) ∷ []) no_statements ((procedure false Subroutine
    (name 3 1 86) ((name 4 1 88) ∷ []) ((declares (declaration (Derived (name 1 1 97)) ((intent In) ∷ []) ((entity (name 4 1 115) (Some (explicit ((bounds
    None (four (at 1 117) 3)) ∷ []))) None) ∷ []))) ∷ []) no_statements) ∷ [])) ∷ (unit u.Program (name 5 2 9) [] no_statements []) ∷ [])) (looks (((
      1,
      One 0,
    ) ∷ (3, One 1) ∷ []) ∷ ((1, One 0) ∷ (3, One 1) ∷ (4, One 2) ∷ []) ∷ [] ∷ [])) (0 ∷ 1 ∷ [])

--     module m; type t; integer :: i; contains; final :: f, g; end type; contains; subroutine f(x); type(t), intent(in) :: x; end; subroutine g(x);
--         type(t), intent(in) :: x; end; end
--     program p; end
-- 1:55: T4: g
abbrev pub t4_4 : Type 0
t4_4 = Finds (Some (broken 5 T4 1 55 (Some 4)))
    (program (codes "m" ∷ codes "t" ∷ codes "i" ∷ codes "f" ∷ codes "g" ∷ codes "x" ∷ codes "p" ∷ []) ((unit u.Module (name 0 1 8) ((type_definition (name 1 1
    16) false ((declaration (Integer Four) [] ((entity (name 2 1 30) None None) ∷ [])) ∷ []) ((name 3 1 52) ∷ (name 4 1 55) ∷ [])) ∷ []) no_statements
    ((procedure false Subroutine (name 3 1 89) ((name 5 1 91) ∷ []) ((declares (declaration (Derived (name 1 1 100)) ((intent In) ∷ []) ((entity (name 5 1
    118) None None) ∷ []))) ∷ []) no_statements) ∷ (procedure false Subroutine (name 4 1 137) ((name 5 1 139) ∷ []) ((declares (declaration (Derived (name
    1 1 148)) ((intent In) ∷ []) ((entity (name 5 1 166) None None) ∷ []))) ∷ []) no_statements) ∷ [])) ∷ (unit u.Program (name 6 2 9) [] no_statements
    []) ∷ [])) (looks (((1, One 0) ∷ (3, One 1) ∷ (4, One 2) ∷ []) ∷ ((1, One 0) ∷ (3, One 1) ∷ (4, One 2) ∷ (5, One 3) ∷ []) ∷ ((1, One 0) ∷ (3, One 1) ∷
    (4, One 2) ∷ (5, One 4) ∷ []) ∷ [] ∷ [])) (0 ∷ 1 ∷ [])

--     module m; type t; integer :: i; contains; final :: f; final :: f; end type; contains; subroutine f(x); type(t), intent(in) :: x; end; end
--     program p; end
-- 1:64: T4: f
abbrev pub t4_5 : Type 0
t4_5 = Finds (Some (broken 5 T4 1 64 (Some 3)))
    (program (codes "m" ∷ codes "t" ∷ codes "i" ∷ codes "f" ∷ codes "x" ∷ codes "p" ∷ []) ((unit u.Module (name 0 1 8) ((type_definition (name 1 1 16) false
    ((declaration (Integer Four) [] ((entity (name 2 1 30) None None) ∷ [])) ∷ []) ((name 3 1 52) ∷ (name 3 1 64) ∷ [])) ∷ []) no_statements ((procedure
    false Subroutine (name 3 1 98) ((name 4 1 100) ∷ []) ((declares (declaration (Derived (name 1 1 109)) ((intent In) ∷ []) ((entity (name 4 1 127) None
    None) ∷ []))) ∷ []) no_statements) ∷ [])) ∷ (unit u.Program (name 5 2 9) [] no_statements []) ∷ [])) (looks (((1, One 0) ∷ (3, One 1) ∷ []) ∷ ((
      1,
      One
          0,
    ) ∷ (3, One 1) ∷ (4, One 2) ∷ []) ∷ [] ∷ [])) (0 ∷ 1 ∷ [])

--     module m; type t; integer :: i; contains; final :: f; end type; contains; subroutine f(x); type(t), intent(out) :: x; end; end
--     program p; end
-- 1:52: T4: f
abbrev pub t4_6 : Type 0
t4_6 = Finds (Some (broken 5 T4 1 52 (Some 3)))
    (program (codes "m" ∷ codes "t" ∷ codes "i" ∷ codes "f" ∷ codes "x" ∷ codes "p" ∷ []) ((unit u.Module (name 0 1 8) ((type_definition (name 1 1 16) false
    ((declaration (Integer Four) [] ((entity (name 2 1 30) None None) ∷ [])) ∷ []) ((name 3 1 52) ∷ [])) ∷ []) no_statements ((procedure false Subroutine
    (name 3 1 86) ((name 4 1 88) ∷ []) ((declares (declaration (Derived (name 1 1 97)) ((intent Out) ∷ []) ((entity (name 4 1 116) None None) ∷ []))) ∷
    []) no_statements) ∷ [])) ∷ (unit u.Program (name 5 2 9) [] no_statements []) ∷ [])) (looks (((1, One 0) ∷ (3, One 1) ∷ []) ∷ ((1, One 0) ∷ (3, One 1)
    ∷ (4, One 2) ∷ []) ∷ [] ∷ [])) (0 ∷ 1 ∷ [])

--     module m; type t; integer :: i; contains; final :: f; end type; contains; subroutine f(x); type(t), allocatable, intent(in) :: x; end; end
--     program p; end
-- 1:52: T4: f
abbrev pub t4_7 : Type 0
t4_7 = Finds (Some (broken 5 T4 1 52 (Some 3)))
    (program (codes "m" ∷ codes "t" ∷ codes "i" ∷ codes "f" ∷ codes "x" ∷ codes "p" ∷ []) ((unit u.Module (name 0 1 8) ((type_definition (name 1 1 16) false
    ((declaration (Integer Four) [] ((entity (name 2 1 30) None None) ∷ [])) ∷ []) ((name 3 1 52) ∷ [])) ∷ []) no_statements ((procedure false Subroutine
    (name 3 1 86) ((name 4 1 88) ∷ []) ((declares (declaration (Derived (name 1 1 97)) (allocatable ∷ (intent In) ∷ []) ((entity (name 4 1 128) None None)
    ∷ []))) ∷ []) no_statements) ∷ [])) ∷ (unit u.Program (name 5 2 9) [] no_statements []) ∷ [])) (looks (((1, One 0) ∷ (3, One 1) ∷ []) ∷ ((1, One 0) ∷
    (3, One 1) ∷ (4, One 2) ∷ []) ∷ [] ∷ [])) (0 ∷ 1 ∷ [])

--     module m; type t; integer :: i; contains; final :: f; end type; contains; subroutine f(x, y); type(t), intent(in) :: x, y; end; end
--     program p; end
-- 1:52: T4: f
abbrev pub t4_8 : Type 0
t4_8 = Finds (Some (broken 5 T4 1 52 (Some 3)))
    (program (codes "m" ∷ codes "t" ∷ codes "i" ∷ codes "f" ∷ codes "x" ∷ codes "y" ∷ codes "p" ∷ []) ((unit u.Module (name 0 1 8) ((type_definition (name 1 1
    16) false ((declaration (Integer Four) [] ((entity (name 2 1 30) None None) ∷ [])) ∷ []) ((name 3 1 52) ∷ [])) ∷ []) no_statements ((procedure false
    Subroutine (name 3 1 86) ((name 4 1 88) ∷ (name 5 1 91) ∷ []) ((declares (declaration (Derived (name 1 1 100)) ((intent In) ∷ []) ((entity (name 4 1
    118) None None) ∷ (entity (name 5 1 121) None None) ∷ []))) ∷ []) no_statements) ∷ [])) ∷ (unit u.Program (name 6 2 9) [] no_statements []) ∷ []))
    (looks (((1, One 0) ∷ (3, One 1) ∷ []) ∷ ((1, One 0) ∷ (3, One 1) ∷ (4, One 2) ∷ (5, One 3) ∷ []) ∷ [] ∷ [])) (0 ∷ 1 ∷ [])

--     module m; type t; integer :: i; contains; final :: f; end type; contains; function f(x); type(t), intent(in) :: x; integer :: f; f = 1; end;
--         end
--     program p; end
-- 1:52: T4: f
abbrev pub t4_9 : Type 0
t4_9 = Finds (Some (broken 5 T4 1 52 (Some 3)))
    (program (codes "m" ∷ codes "t" ∷ codes "i" ∷ codes "f" ∷ codes "x" ∷ codes "p" ∷ []) ((unit u.Module (name 0 1 8) ((type_definition (name 1 1 16) false
    ((declaration (Integer Four) [] ((entity (name 2 1 30) None None) ∷ [])) ∷ []) ((name 3 1 52) ∷ [])) ∷ []) no_statements ((procedure false (Function
    None None) (name 3 1 84) ((name 4 1 86) ∷ []) ((declares (declaration (Derived (name 1 1 95)) ((intent In) ∷ []) ((entity (name 4 1 113) None None) ∷
    []))) ∷ (declares (declaration (Integer Four) [] ((entity (name 3 1 127) None None) ∷ []))) ∷ []) (statements (acts (at 1 130) (assign (parts (name 3
    1 130) bare no_parts) (four (at 1 134) 1))) no_statements)) ∷ [])) ∷ (unit u.Program (name 5 2 9) [] no_statements []) ∷ [])) (looks (((1, One 0) ∷
    (3, One 1) ∷ []) ∷ ((1, One 0) ∷ (3, One 3) ∷ (4, One 2) ∷ []) ∷ [] ∷ [])) (0 ∷ 1 ∷ [])

--     module m; use k; type t; integer :: i; contains; final :: f; end type; end
--     module k; contains; subroutine f(x); integer, intent(in) :: x; end; end
--     program p; end
-- 1:59: T4: f
abbrev pub t4_10 : Type 0
t4_10 = Finds (Some (broken 5 T4 1 59 (Some 3)))
    (program (codes "m" ∷ codes "t" ∷ codes "i" ∷ codes "f" ∷ codes "k" ∷ codes "x" ∷ codes "p" ∷ []) ((unit u.Module (name 0 1 8) ((type_definition (name 1 1
    23) false ((declaration (Integer Four) [] ((entity (name 2 1 37) None None) ∷ [])) ∷ []) ((name 3 1 59) ∷ [])) ∷ []) no_statements []) ∷ (unit
    u.Module (name 4 2 8) [] no_statements ((procedure false Subroutine (name 3 2 32) ((name 5 2 34) ∷ []) ((declares (declaration (Integer Four) ((intent
    In) ∷ []) ((entity (name 5 2 61) None None) ∷ []))) ∷ []) no_statements) ∷ [])) ∷ (unit u.Program (name 6 3 9) [] no_statements []) ∷ [])) (looks
    (((1, One 0) ∷ (3, One 1) ∷ []) ∷ ((3, One 1) ∷ []) ∷ ((3, One 1) ∷ (5, One 2) ∷ []) ∷ [] ∷ [])) (1 ∷ 0 ∷ 2 ∷ [])

abbrev pub T3To5Show : Type 0
T3To5Show = t3_1 × t3_2 × t3_3 × t3_4 × t3_5 × t3_6 × t4_1 × t4_2 × t4_3 × t4_4 × t4_5 × t4_6 × t4_7 × t4_8 × t4_9 × t4_10
