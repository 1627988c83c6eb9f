-- Programs, each in the text above it, with what refuses it.
use Rattle.std.specs.Prelude.{true, false, [], ◌∷◌, None, Some, codes}
use Rattle.f3_lookups.specs.declared.lookup.Lookup.TheVariants.{One}
use Rattle.f3_rules.specs.declared.rule.Rule.TheVariants.{T1}
use Rattle.f3_tree.specs.declared.expression.IntegerKind.TheVariants.{Four}
use Rattle.f3_tree.specs.declared.declaration.Intent.TheVariants.{In}
use Rattle.f3_tree.specs.declared.declaration.TypeSpecifier.TheVariants.{Integer, Derived}
use Rattle.f3_tree.specs.declared.program.ProcedureKind.TheVariants.{Subroutine, Function}
use Rattle.f3_tree.specs.declared.program.UnitKind.TheVariants as u
use Rattle.f3_tree.specs.Expressions.{designator, array, no_trees, trees, no_parts, parts}
use Rattle.f3_tree.specs.Expressions.{bare}
use Rattle.f3_tree.specs.Declarations.{explicit, deferred, protected, parameter, save, allocatable, dimension, intent, declares, protects}
use Rattle.f3_tree.specs.Statements.{assign}
use Rattle.f3_tree.specs.Statements.{acts, no_statements, statements}
use Rattle.f3_type_rows.specs.Build.{Finds, at, name, four, bounds, entity, declaration, type_definition, procedure, unit, program, looks, broken}

--     module m; integer, protected, protected :: n; end
--     program p; end
-- 1:44: T1: n
abbrev pub t1_1 : Type 0
t1_1 = Finds (Some (broken 5 T1 1 44 (Some 1)))
    (program (codes "m" ∷ codes "n" ∷ codes "p" ∷ []) ((unit u.Module (name 0 1 8) ((declares (declaration (Integer Four) (protected ∷ protected ∷ [])
    ((entity (name 1 1 44) None None) ∷ []))) ∷ []) no_statements []) ∷ (unit u.Program (name 2 2 9) [] no_statements []) ∷ [])) (looks (((1, One 0) ∷ [])
    ∷ [] ∷ [])) (0 ∷ 1 ∷ [])

--     module m; type t; integer, protected :: c; end type; end
--     program p; end
-- 1:41: T1: c
abbrev pub t1_2 : Type 0
t1_2 = Finds (Some (broken 5 T1 1 41 (Some 2)))
    (program (codes "m" ∷ codes "t" ∷ codes "c" ∷ codes "p" ∷ []) ((unit u.Module (name 0 1 8) ((type_definition (name 1 1 16) false ((declaration (Integer
    Four) (protected ∷ []) ((entity (name 2 1 41) None None) ∷ [])) ∷ []) []) ∷ []) no_statements []) ∷ (unit u.Program (name 3 2 9) [] no_statements [])
    ∷ [])) (looks (((1, One 0) ∷ []) ∷ [] ∷ [])) (0 ∷ 1 ∷ [])

--     module m; type t; integer, intent(in) :: c; end type; end
--     program p; end
-- 1:42: T1: c
abbrev pub t1_3 : Type 0
t1_3 = Finds (Some (broken 5 T1 1 42 (Some 2)))
    (program (codes "m" ∷ codes "t" ∷ codes "c" ∷ codes "p" ∷ []) ((unit u.Module (name 0 1 8) ((type_definition (name 1 1 16) false ((declaration (Integer
    Four) ((intent In) ∷ []) ((entity (name 2 1 42) None None) ∷ [])) ∷ []) []) ∷ []) no_statements []) ∷ (unit u.Program (name 3 2 9) [] no_statements
    []) ∷ [])) (looks (((1, One 0) ∷ []) ∷ [] ∷ [])) (0 ∷ 1 ∷ [])

--     module m; integer, protected :: q; protected :: q; end
--     program p; end
-- 1:33: T1: q
abbrev pub t1_4 : Type 0
t1_4 = Finds (Some (broken 5 T1 1 33 (Some 1)))
    (program (codes "m" ∷ codes "q" ∷ codes "p" ∷ []) ((unit u.Module (name 0 1 8) ((declares (declaration (Integer Four) (protected ∷ []) ((entity (name 1 1
    33) None None) ∷ []))) ∷ (protects (at 0 0) ((name 1 1 49) ∷ [])) ∷ []) no_statements []) ∷ (unit u.Program (name 2 2 9) [] no_statements []) ∷ []))
    (looks (((1, One 0) ∷ []) ∷ [] ∷ [])) (0 ∷ 1 ∷ [])

--     module m; type a; integer :: i; end type; type b; type(a) :: c = 3; end type; end
--     program p; end
-- 1:62: T1: c
abbrev pub t1_5 : Type 0
t1_5 = Finds (Some (broken 5 T1 1 62 (Some 4)))
    (program (codes "m" ∷ codes "a" ∷ codes "i" ∷ codes "b" ∷ codes "c" ∷ codes "p" ∷ []) ((unit u.Module (name 0 1 8) ((type_definition (name 1 1 16) false
    ((declaration (Integer Four) [] ((entity (name 2 1 30) None None) ∷ [])) ∷ []) []) ∷ (type_definition (name 3 1 48) false ((declaration (Derived (name
    1 1 56)) [] ((entity (name 4 1 62) None (Some (four (at 1 66) 3))) ∷ [])) ∷ []) []) ∷ []) no_statements []) ∷ (unit u.Program (name 5 2 9) []
    no_statements []) ∷ [])) (looks (((1, One 0) ∷ (3, One 1) ∷ []) ∷ [] ∷ [])) (0 ∷ 1 ∷ [])

--     program p; integer, allocatable :: a(3); end
-- 1:36: T1: a
abbrev pub t1_6 : Type 0
t1_6 = Finds (Some (broken 5 T1 1 36 (Some 1)))
    (program (codes "p" ∷ codes "a" ∷ []) ((unit u.Program (name 0 1 9) ((declares (declaration (Integer Four) (allocatable ∷ []) ((entity (name 1 1 36) (Some
    (explicit ((bounds None (four (at 1 38) 3)) ∷ []))) None) ∷ []))) ∷ []) no_statements []) ∷ [])) (looks (((1, One 0) ∷ []) ∷ [])) (0 ∷ [])

--     program p; integer, allocatable :: a = 3; end
-- 1:36: T1: a
abbrev pub t1_7 : Type 0
t1_7 = Finds (Some (broken 5 T1 1 36 (Some 1)))
    (program (codes "p" ∷ codes "a" ∷ []) ((unit u.Program (name 0 1 9) ((declares (declaration (Integer Four) (allocatable ∷ []) ((entity (name 1 1 36) None
    (Some (four (at 1 40) 3))) ∷ []))) ∷ []) no_statements []) ∷ [])) (looks (((1, One 0) ∷ []) ∷ [])) (0 ∷ [])

--     program p; integer, parameter :: n; end
-- 1:34: T1: n
abbrev pub t1_8 : Type 0
t1_8 = Finds (Some (broken 5 T1 1 34 (Some 1)))
    (program (codes "p" ∷ codes "n" ∷ []) ((unit u.Program (name 0 1 9) ((declares (declaration (Integer Four) (parameter ∷ []) ((entity (name 1 1 34) None
    None) ∷ []))) ∷ []) no_statements []) ∷ [])) (looks (((1, One 0) ∷ []) ∷ [])) (0 ∷ [])

--     program p; integer, parameter, save :: n = 1; end
-- 1:40: T1: n
abbrev pub t1_9 : Type 0
t1_9 = Finds (Some (broken 5 T1 1 40 (Some 1)))
    (program (codes "p" ∷ codes "n" ∷ []) ((unit u.Program (name 0 1 9) ((declares (declaration (Integer Four) (parameter ∷ save ∷ []) ((entity (name 1 1 40)
    None (Some (four (at 1 44) 1))) ∷ []))) ∷ []) no_statements []) ∷ [])) (looks (((1, One 0) ∷ []) ∷ [])) (0 ∷ [])

--     program p; integer, parameter :: n(2) = [1, 2]; end
-- 1:34: T1: n
abbrev pub t1_10 : Type 0
t1_10 = Finds (Some (broken 5 T1 1 34 (Some 1)))
    (program (codes "p" ∷ codes "n" ∷ []) ((unit u.Program (name 0 1 9) ((declares (declaration (Integer Four) (parameter ∷ []) ((entity (name 1 1 34) (Some
    (explicit ((bounds None (four (at 1 36) 2)) ∷ []))) (Some (array (at 1 41) (trees (four (at 1 42) 1) (trees (four (at 1 45) 2) no_trees))))) ∷ []))) ∷
    []) no_statements []) ∷ [])) (looks (((1, One 0) ∷ []) ∷ [])) (0 ∷ [])

--     program p; integer, dimension(2), dimension(3) :: a; end
-- 1:51: T1: a
abbrev pub t1_11 : Type 0
t1_11 = Finds (Some (broken 5 T1 1 51 (Some 1)))
    (program (codes "p" ∷ codes "a" ∷ []) ((unit u.Program (name 0 1 9) ((declares (declaration (Integer Four) ((dimension (explicit ((bounds None (four (at 1
    31) 2)) ∷ []))) ∷ (dimension (explicit ((bounds None (four (at 1 45) 3)) ∷ []))) ∷ []) ((entity (name 1 1 51) None None) ∷ []))) ∷ []) no_statements
    []) ∷ [])) (looks (((1, One 0) ∷ []) ∷ [])) (0 ∷ [])

--     program p; integer, save, save :: a; end
-- 1:35: T1: a
abbrev pub t1_12 : Type 0
t1_12 = Finds (Some (broken 5 T1 1 35 (Some 1)))
    (program (codes "p" ∷ codes "a" ∷ []) ((unit u.Program (name 0 1 9) ((declares (declaration (Integer Four) (save ∷ save ∷ []) ((entity (name 1 1 35) None
    None) ∷ []))) ∷ []) no_statements []) ∷ [])) (looks (((1, One 0) ∷ []) ∷ [])) (0 ∷ [])

--     program p; integer :: a(:); end
-- 1:23: T1: a
abbrev pub t1_13 : Type 0
t1_13 = Finds (Some (broken 5 T1 1 23 (Some 1)))
    (program (codes "p" ∷ codes "a" ∷ []) ((unit u.Program (name 0 1 9) ((declares (declaration (Integer Four) [] ((entity (name 1 1 23) (Some (deferred (None
    ∷ []))) None) ∷ []))) ∷ []) no_statements []) ∷ [])) (looks (((1, One 0) ∷ []) ∷ [])) (0 ∷ [])

--     program p; integer, allocatable :: a(2:); end
-- 1:36: T1: a
abbrev pub t1_14 : Type 0
t1_14 = Finds (Some (broken 5 T1 1 36 (Some 1)))
    (program (codes "p" ∷ codes "a" ∷ []) ((unit u.Program (name 0 1 9) ((declares (declaration (Integer Four) (allocatable ∷ []) ((entity (name 1 1 36) (Some
    (deferred ((Some (four (at 1 38) 2)) ∷ []))) None) ∷ []))) ∷ []) no_statements []) ∷ [])) (looks (((1, One 0) ∷ []) ∷ [])) (0 ∷ [])

--     module m; type t; integer :: i; end type; type(t), parameter :: x = 1; end
--     program p; end
-- 1:65: T1: x
abbrev pub t1_15 : Type 0
t1_15 = Finds (Some (broken 5 T1 1 65 (Some 3)))
    (program (codes "m" ∷ codes "t" ∷ codes "i" ∷ codes "x" ∷ codes "p" ∷ []) ((unit u.Module (name 0 1 8) ((type_definition (name 1 1 16) false ((declaration
    (Integer Four) [] ((entity (name 2 1 30) None None) ∷ [])) ∷ []) []) ∷ (declares (declaration (Derived (name 1 1 48)) (parameter ∷ []) ((entity (name
    3 1 65) None (Some (four (at 1 69) 1))) ∷ []))) ∷ []) no_statements []) ∷ (unit u.Program (name 4 2 9) [] no_statements []) ∷ [])) (looks (((1, One 0)
    ∷ (3, One 1) ∷ []) ∷ [] ∷ [])) (0 ∷ 1 ∷ [])

--     module m; type t; integer, save :: i; end type; end
--     program p; end
-- 1:36: T1: i
abbrev pub t1_16 : Type 0
t1_16 = Finds (Some (broken 5 T1 1 36 (Some 2)))
    (program (codes "m" ∷ codes "t" ∷ codes "i" ∷ codes "p" ∷ []) ((unit u.Module (name 0 1 8) ((type_definition (name 1 1 16) false ((declaration (Integer
    Four) (save ∷ []) ((entity (name 2 1 36) None None) ∷ [])) ∷ []) []) ∷ []) no_statements []) ∷ (unit u.Program (name 3 2 9) [] no_statements []) ∷
    [])) (looks (((1, One 0) ∷ []) ∷ [] ∷ [])) (0 ∷ 1 ∷ [])

--     module m; type t; integer, allocatable :: i(2); end type; end
--     program p; end
-- 1:43: T1: i
abbrev pub t1_17 : Type 0
t1_17 = Finds (Some (broken 5 T1 1 43 (Some 2)))
    (program (codes "m" ∷ codes "t" ∷ codes "i" ∷ codes "p" ∷ []) ((unit u.Module (name 0 1 8) ((type_definition (name 1 1 16) false ((declaration (Integer
    Four) (allocatable ∷ []) ((entity (name 2 1 43) (Some (explicit ((bounds None (four (at 1 45) 2)) ∷ []))) None) ∷ [])) ∷ []) []) ∷ []) no_statements
    []) ∷ (unit u.Program (name 3 2 9) [] no_statements []) ∷ [])) (looks (((1, One 0) ∷ []) ∷ [] ∷ [])) (0 ∷ 1 ∷ [])

--     module m; type t; integer :: i(:); end type; end
--     program p; end
-- 1:30: T1: i
abbrev pub t1_18 : Type 0
t1_18 = Finds (Some (broken 5 T1 1 30 (Some 2)))
    (program (codes "m" ∷ codes "t" ∷ codes "i" ∷ codes "p" ∷ []) ((unit u.Module (name 0 1 8) ((type_definition (name 1 1 16) false ((declaration (Integer
    Four) [] ((entity (name 2 1 30) (Some (deferred (None ∷ []))) None) ∷ [])) ∷ []) []) ∷ []) no_statements []) ∷ (unit u.Program (name 3 2 9) []
    no_statements []) ∷ [])) (looks (((1, One 0) ∷ []) ∷ [] ∷ [])) (0 ∷ 1 ∷ [])

--     module m; contains; subroutine s(a); integer, intent(in), save :: a; end; end
--     program p; end
-- 1:67: T1: a
abbrev pub t1_19 : Type 0
t1_19 = Finds (Some (broken 5 T1 1 67 (Some 2)))
    (program (codes "m" ∷ codes "s" ∷ codes "a" ∷ codes "p" ∷ []) ((unit u.Module (name 0 1 8) [] no_statements ((procedure false Subroutine (name 1 1 32)
    ((name 2 1 34) ∷ []) ((declares (declaration (Integer Four) ((intent In) ∷ save ∷ []) ((entity (name 2 1 67) None None) ∷ []))) ∷ []) no_statements) ∷
    [])) ∷ (unit u.Program (name 3 2 9) [] no_statements []) ∷ [])) (looks (((1, One 0) ∷ []) ∷ ((1, One 0) ∷ (2, One 1) ∷ []) ∷ [] ∷ [])) (0 ∷ 1 ∷ [])

--     module m; contains; subroutine s(a); integer, intent(in) :: a = 2; end; end
--     program p; end
-- 1:61: T1: a
abbrev pub t1_20 : Type 0
t1_20 = Finds (Some (broken 5 T1 1 61 (Some 2)))
    (program (codes "m" ∷ codes "s" ∷ codes "a" ∷ codes "p" ∷ []) ((unit u.Module (name 0 1 8) [] no_statements ((procedure false Subroutine (name 1 1 32)
    ((name 2 1 34) ∷ []) ((declares (declaration (Integer Four) ((intent In) ∷ []) ((entity (name 2 1 61) None (Some (four (at 1 65) 2))) ∷ []))) ∷ [])
    no_statements) ∷ [])) ∷ (unit u.Program (name 3 2 9) [] no_statements []) ∷ [])) (looks (((1, One 0) ∷ []) ∷ ((1, One 0) ∷ (2, One 1) ∷ []) ∷ [] ∷
    [])) (0 ∷ 1 ∷ [])

--     module m; contains; subroutine s(a); integer, intent(in) :: a(3); end; end
--     program p; end
-- 1:61: T1: a
abbrev pub t1_21 : Type 0
t1_21 = Finds (Some (broken 5 T1 1 61 (Some 2)))
    (program (codes "m" ∷ codes "s" ∷ codes "a" ∷ codes "p" ∷ []) ((unit u.Module (name 0 1 8) [] no_statements ((procedure false Subroutine (name 1 1 32)
    ((name 2 1 34) ∷ []) ((declares (declaration (Integer Four) ((intent In) ∷ []) ((entity (name 2 1 61) (Some (explicit ((bounds None (four (at 1 63)
    3)) ∷ []))) None) ∷ []))) ∷ []) no_statements) ∷ [])) ∷ (unit u.Program (name 3 2 9) [] no_statements []) ∷ [])) (looks (((1, One 0) ∷ []) ∷ ((
      1,
      One
          0,
    ) ∷ (2, One 1) ∷ []) ∷ [] ∷ [])) (0 ∷ 1 ∷ [])

--     module m; contains; pure subroutine s(); integer :: a = 3; end; end
--     program p; end
-- 1:53: T1: a
abbrev pub t1_22 : Type 0
t1_22 = Finds (Some (broken 5 T1 1 53 (Some 2)))
    (program (codes "m" ∷ codes "s" ∷ codes "a" ∷ codes "p" ∷ []) ((unit u.Module (name 0 1 8) [] no_statements ((procedure true Subroutine (name 1 1 37) []
    ((declares (declaration (Integer Four) [] ((entity (name 2 1 53) None (Some (four (at 1 57) 3))) ∷ []))) ∷ []) no_statements) ∷ [])) ∷ (unit u.Program
    (name 3 2 9) [] no_statements []) ∷ [])) (looks (((1, One 0) ∷ []) ∷ ((1, One 0) ∷ (2, One 1) ∷ []) ∷ [] ∷ [])) (0 ∷ 1 ∷ [])

--     module m; contains; function f(); integer, save :: g; integer :: f; f = 1; end; end
--     program p; end
-- 1:52: T1: g
abbrev pub t1_23 : Type 0
t1_23 = Finds (Some (broken 5 T1 1 52 (Some 2)))
    (program (codes "m" ∷ codes "f" ∷ codes "g" ∷ codes "p" ∷ []) ((unit u.Module (name 0 1 8) [] no_statements ((procedure false (Function None None) (name 1
    1 30) [] ((declares (declaration (Integer Four) (save ∷ []) ((entity (name 2 1 52) None None) ∷ []))) ∷ (declares (declaration (Integer Four) []
    ((entity (name 1 1 66) None None) ∷ []))) ∷ []) (statements (acts (at 1 69) (assign (parts (name 1 1 69) bare no_parts) (four (at 1 73) 1)))
    no_statements)) ∷ [])) ∷ (unit u.Program (name 3 2 9) [] no_statements []) ∷ [])) (looks (((1, One 0) ∷ []) ∷ ((1, One 2) ∷ (2, One 1) ∷ []) ∷ [] ∷
    [])) (0 ∷ 1 ∷ [])

--     module m; contains; function f(); integer, save :: f; f = 1; end; end
--     program p; end
-- 1:52: T1: f
abbrev pub t1_24 : Type 0
t1_24 = Finds (Some (broken 5 T1 1 52 (Some 1)))
    (program (codes "m" ∷ codes "f" ∷ codes "p" ∷ []) ((unit u.Module (name 0 1 8) [] no_statements ((procedure false (Function None None) (name 1 1 30) []
    ((declares (declaration (Integer Four) (save ∷ []) ((entity (name 1 1 52) None None) ∷ []))) ∷ []) (statements (acts (at 1 55) (assign (parts (name 1
    1 55) bare no_parts) (four (at 1 59) 1))) no_statements)) ∷ [])) ∷ (unit u.Program (name 2 2 9) [] no_statements []) ∷ [])) (looks (((1, One 0) ∷ [])
    ∷ ((1, One 1) ∷ []) ∷ [] ∷ [])) (0 ∷ 1 ∷ [])

--     module m; protected :: q; integer :: q; protected :: q; end
--     program p; end
-- 1:38: T1: q
abbrev pub t1_25 : Type 0
t1_25 = Finds (Some (broken 5 T1 1 38 (Some 1)))
    (program (codes "m" ∷ codes "q" ∷ codes "p" ∷ []) ((unit u.Module (name 0 1 8) ((protects (at 0 0) ((name 1 1 24) ∷ [])) ∷ (declares (declaration (Integer
    Four) [] ((entity (name 1 1 38) None None) ∷ []))) ∷ (protects (at 0 0) ((name 1 1 54) ∷ [])) ∷ []) no_statements []) ∷ (unit u.Program (name 2 2 9)
    [] no_statements []) ∷ [])) (looks (((1, One 0) ∷ []) ∷ [] ∷ [])) (0 ∷ 1 ∷ [])

--     program p; use m; integer :: x = k; end
--     module m; integer, parameter :: n(2) = 1; integer, parameter :: k = 2; end
-- 2:33: T1: n
abbrev pub t1_26 : Type 0
t1_26 = Finds (Some (broken 5 T1 2 33 (Some 4)))
    (program (codes "p" ∷ codes "x" ∷ codes "k" ∷ codes "m" ∷ codes "n" ∷ []) ((unit u.Program (name 0 1 9) ((declares (declaration (Integer Four) [] ((entity
    (name 1 1 30) None (Some (designator (parts (name 2 1 34) bare no_parts)))) ∷ []))) ∷ []) no_statements []) ∷ (unit u.Module (name 3 2 8) ((declares
    (declaration (Integer Four) (parameter ∷ []) ((entity (name 4 2 33) (Some (explicit ((bounds None (four (at 2 35) 2)) ∷ []))) (Some (four (at 2 40)
    1))) ∷ []))) ∷ (declares (declaration (Integer Four) (parameter ∷ []) ((entity (name 2 2 65) None (Some (four (at 2 69) 2))) ∷ []))) ∷ [])
    no_statements []) ∷ [])) (looks (((1, One 0) ∷ (2, One 2) ∷ (4, One 1) ∷ []) ∷ ((2, One 2) ∷ (4, One 1) ∷ []) ∷ [])) (1 ∷ 0 ∷ [])

abbrev pub T1Show : Type 0
T1Show = t1_1 × t1_2 × t1_3 × t1_4 × t1_5 × t1_6 × t1_7 × t1_8 × t1_9 × t1_10 × t1_11 × t1_12 × t1_13 × t1_14 × t1_15 × t1_16 × t1_17 × t1_18 × t1_19 × t1_20
    × t1_21 × t1_22 × t1_23 × t1_24 × t1_25 × t1_26
