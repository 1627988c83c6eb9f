-- Programs, each in the text above it, with what refuses it.
use Rattle.std.specs.Prelude.{true, false, [], ◌∷◌, None, Some, codes}
use Rattle.f3_lookups.specs.declared.lookup.Lookup.TheVariants.{One}
use Rattle.f3_rules.specs.declared.rule.Rule.TheVariants.{D1, D2}
use Rattle.f3_tree.specs.declared.expression.IntegerKind.TheVariants.{Four}
use Rattle.f3_tree.specs.declared.declaration.Intent.TheVariants.{In, Out}
use Rattle.f3_tree.specs.declared.declaration.TypeSpecifier.TheVariants.{Integer, Derived}
use Rattle.f3_tree.specs.declared.program.ProcedureKind.TheVariants.{Subroutine, Function}
use Rattle.f3_tree.specs.declared.program.UnitKind.TheVariants as u
use Rattle.f3_tree.specs.Expressions.{designator, no_parts, parts}
use Rattle.f3_tree.specs.Expressions.{bare, within, no_arguments, arguments, value, triplet, absent, present}
use Rattle.f3_tree.specs.Declarations.{explicit, deferred, protected, allocatable, intent, declares}
use Rattle.f3_tree.specs.Statements.{assign, call, allocate}
use Rattle.f3_tree.specs.Statements.{counted, acts, repeats, associates, no_statements, statements}
use Rattle.f3_type_rows.specs.Build.{Finds, at, name, four, bounds, entity, declaration, type_definition, procedure, unit, association, program, looks, broken}

--     module m; integer, protected :: n = 3; end
--     program p; use m; associate (z => n); z = 4; end associate; end
-- 2:39: D1: z
abbrev pub d1_1 : Type 0
d1_1 = Finds (Some (broken 7 D1 2 39 (Some 3)))
    (program (codes "m" ∷ codes "n" ∷ codes "p" ∷ codes "z" ∷ []) ((unit u.Module (name 0 1 8) ((declares (declaration (Integer Four) (protected ∷ [])
    ((entity (name 1 1 33) None (Some (four (at 1 37) 3))) ∷ []))) ∷ []) no_statements []) ∷ (unit u.Program (name 2 2 9) [] (statements (associates (at 2
    19) ((association (name 3 2 30) (designator (parts (name 1 2 35) bare no_parts))) ∷ []) (statements (acts (at 2 39) (assign (parts (name 3 2 39) bare
    no_parts) (four (at 2 43) 4))) no_statements)) no_statements) []) ∷ [])) (looks (((1, One 0) ∷ []) ∷ ((1, One 0) ∷ []) ∷ ((1, One 0) ∷ (3, One 1) ∷
    []) ∷ [])) (0 ∷ 1 ∷ [])

--     module m; integer, protected :: s = 0; end
--     program p; use m; integer, allocatable :: a(:); allocate(a(2), stat=s); end
-- 2:69: D1: s
abbrev pub d1_2 : Type 0
d1_2 = Finds (Some (broken 7 D1 2 69 (Some 1)))
    (program (codes "m" ∷ codes "s" ∷ codes "p" ∷ codes "a" ∷ codes "stat" ∷ codes "allocate" ∷ []) ((unit u.Module (name 0 1 8) ((declares (declaration
    (Integer Four) (protected ∷ []) ((entity (name 1 1 33) None (Some (four (at 1 37) 0))) ∷ []))) ∷ []) no_statements []) ∷ (unit u.Program (name 2 2 9)
    ((declares (declaration (Integer Four) (allocatable ∷ []) ((entity (name 3 2 43) (Some (deferred (None ∷ []))) None) ∷ []))) ∷ []) (statements (acts
    (at 2 49) (allocate ((parts (name 3 2 58) (within (arguments (value None (four (at 2 60) 2)) no_arguments)) no_parts) ∷ []) (Some (parts (name 1 2 69)
    bare no_parts)))) no_statements) []) ∷ [])) (looks (((1, One 0) ∷ []) ∷ ((1, One 0) ∷ (3, One 1) ∷ []) ∷ [])) (0 ∷ 1 ∷ [])

--     module m; integer, protected :: n = 3; end
--     program p; use m; n = 4; end
-- 2:19: D1: n
abbrev pub d1_3 : Type 0
d1_3 = Finds (Some (broken 7 D1 2 19 (Some 1)))
    (program (codes "m" ∷ codes "n" ∷ codes "p" ∷ []) ((unit u.Module (name 0 1 8) ((declares (declaration (Integer Four) (protected ∷ []) ((entity (name 1 1
    33) None (Some (four (at 1 37) 3))) ∷ []))) ∷ []) no_statements []) ∷ (unit u.Program (name 2 2 9) [] (statements (acts (at 2 19) (assign (parts (name
    1 2 19) bare no_parts) (four (at 2 23) 4))) no_statements) []) ∷ [])) (looks (((1, One 0) ∷ []) ∷ ((1, One 0) ∷ []) ∷ [])) (0 ∷ 1 ∷ [])

--     module m; integer, protected :: n = 3; end
--     module k; use m, q => n; end
--     program p; use k; q = 4; end
-- 3:19: D1: q
abbrev pub d1_4 : Type 0
d1_4 = Finds (Some (broken 7 D1 3 19 (Some 4)))
    (program (codes "m" ∷ codes "n" ∷ codes "k" ∷ codes "p" ∷ codes "q" ∷ []) ((unit u.Module (name 0 1 8) ((declares (declaration (Integer Four) (protected ∷
    []) ((entity (name 1 1 33) None (Some (four (at 1 37) 3))) ∷ []))) ∷ []) no_statements []) ∷ (unit u.Module (name 2 2 8) [] no_statements []) ∷ (unit
    u.Program (name 3 3 9) [] (statements (acts (at 3 19) (assign (parts (name 4 3 19) bare no_parts) (four (at 3 23) 4))) no_statements) []) ∷ []))
    (looks (((1, One 0) ∷ []) ∷ ((4, One 0) ∷ []) ∷ ((4, One 0) ∷ []) ∷ [])) (0 ∷ 1 ∷ 2 ∷ [])

--     program p; use m; do n = 1, 2; end do; end
--     module m; integer, protected :: n; end
-- 1:22: D1: n
abbrev pub d1_5 : Type 0
d1_5 = Finds (Some (broken 7 D1 1 22 (Some 1)))
    (program (codes "p" ∷ codes "n" ∷ codes "m" ∷ []) ((unit u.Program (name 0 1 9) [] (statements (repeats (at 1 19) (counted (name 1 1 22) (four (at 1 26)
    1) (four (at 1 29) 2) None) no_statements) no_statements) []) ∷ (unit u.Module (name 2 2 8) ((declares (declaration (Integer Four) (protected ∷ [])
    ((entity (name 1 2 33) None None) ∷ []))) ∷ []) no_statements []) ∷ [])) (looks (((1, One 0) ∷ []) ∷ ((1, One 0) ∷ []) ∷ [])) (1 ∷ 0 ∷ [])

--     program p; use m; read = 1; a%b = 2; end
--     module m; integer :: read; type t; integer :: b; end type; type(t), protected :: a; end
-- 1:29: D1: a
abbrev pub d1_6 : Type 0
d1_6 = Finds (Some (broken 7 D1 1 29 (Some 2)))
    (program (codes "p" ∷ codes "read" ∷ codes "a" ∷ codes "b" ∷ codes "m" ∷ codes "t" ∷ []) ((unit u.Program (name 0 1 9) [] (statements (acts (at 1 19)
    (assign (parts (name 1 1 19) bare no_parts) (four (at 1 26) 1))) (statements (acts (at 1 29) (assign (parts (name 2 1 29) bare (parts (name 3 1 31)
    bare no_parts)) (four (at 1 35) 2))) no_statements)) []) ∷ (unit u.Module (name 4 2 8) ((declares (declaration (Integer Four) [] ((entity (name 1 2
    22) None None) ∷ []))) ∷ (type_definition (name 5 2 33) false ((declaration (Integer Four) [] ((entity (name 3 2 47) None None) ∷ [])) ∷ []) []) ∷
    (declares (declaration (Derived (name 5 2 65)) (protected ∷ []) ((entity (name 2 2 82) None None) ∷ []))) ∷ []) no_statements []) ∷ [])) (looks (((
      1,
      One 0,
    ) ∷ (2, One 2) ∷ (5, One 1) ∷ []) ∷ ((1, One 0) ∷ (2, One 2) ∷ (5, One 1) ∷ []) ∷ [])) (1 ∷ 0 ∷ [])

--     program p; use m; integer, allocatable :: x; allocate(x, stat=n); end
--     module m; integer, protected :: n; end
-- 1:63: D1: n
abbrev pub d1_7 : Type 0
d1_7 = Finds (Some (broken 7 D1 1 63 (Some 3)))
    (program (codes "p" ∷ codes "x" ∷ codes "stat" ∷ codes "n" ∷ codes "allocate" ∷ codes "m" ∷ []) ((unit u.Program (name 0 1 9) ((declares (declaration
    (Integer Four) (allocatable ∷ []) ((entity (name 1 1 43) None None) ∷ []))) ∷ []) (statements (acts (at 1 46) (allocate ((parts (name 1 1 55) bare
    no_parts) ∷ []) (Some (parts (name 3 1 63) bare no_parts)))) no_statements) []) ∷ (unit u.Module (name 5 2 8) ((declares (declaration (Integer Four)
    (protected ∷ []) ((entity (name 3 2 33) None None) ∷ []))) ∷ []) no_statements []) ∷ [])) (looks (((1, One 0) ∷ (3, One 1) ∷ []) ∷ ((3, One 1) ∷ []) ∷
    [])) (1 ∷ 0 ∷ [])

--     program p; use m; allocate(v(3)); end
--     module m; integer, allocatable, protected :: v(:); end
-- 1:28: D1: v
abbrev pub d1_8 : Type 0
d1_8 = Finds (Some (broken 7 D1 1 28 (Some 1)))
    (program (codes "p" ∷ codes "v" ∷ codes "allocate" ∷ codes "m" ∷ []) ((unit u.Program (name 0 1 9) [] (statements (acts (at 1 19) (allocate ((parts (name
    1 1 28) (within (arguments (value None (four (at 1 30) 3)) no_arguments)) no_parts) ∷ []) None)) no_statements) []) ∷ (unit u.Module (name 3 2 8)
    ((declares (declaration (Integer Four) (allocatable ∷ protected ∷ []) ((entity (name 1 2 46) (Some (deferred (None ∷ []))) None) ∷ []))) ∷ [])
    no_statements []) ∷ [])) (looks (((1, One 0) ∷ []) ∷ ((1, One 0) ∷ []) ∷ [])) (1 ∷ 0 ∷ [])

--     module m; integer, protected :: n; contains; subroutine s(); n = 2; end; end
--     program p; use m, q => n; q = 3; end
-- 2:27: D1: q
abbrev pub d1_9 : Type 0
d1_9 = Finds (Some (broken 7 D1 2 27 (Some 4)))
    (program (codes "m" ∷ codes "n" ∷ codes "s" ∷ codes "p" ∷ codes "q" ∷ []) ((unit u.Module (name 0 1 8) ((declares (declaration (Integer Four) (protected ∷
    []) ((entity (name 1 1 33) None None) ∷ []))) ∷ []) no_statements ((procedure false Subroutine (name 2 1 57) [] [] (statements (acts (at 1 62) (assign
    (parts (name 1 1 62) bare no_parts) (four (at 1 66) 2))) no_statements)) ∷ [])) ∷ (unit u.Program (name 3 2 9) [] (statements (acts (at 2 27) (assign
    (parts (name 4 2 27) bare no_parts) (four (at 2 31) 3))) no_statements) []) ∷ [])) (looks (((1, One 0) ∷ (2, One 1) ∷ []) ∷ ((1, One 0) ∷ (2, One 1) ∷
    []) ∷ ((2, One 1) ∷ (4, One 0) ∷ []) ∷ [])) (0 ∷ 1 ∷ [])

--     program p; use m; associate (z => n); z = 4; end associate; end
--     module m; integer, protected :: n; end
-- 1:39: D1: z
abbrev pub d1_10 : Type 0
d1_10 = Finds (Some (broken 7 D1 1 39 (Some 1)))
    (program (codes "p" ∷ codes "z" ∷ codes "n" ∷ codes "m" ∷ []) ((unit u.Program (name 0 1 9) [] (statements (associates (at 1 19) ((association (name 1 1
    30) (designator (parts (name 2 1 35) bare no_parts))) ∷ []) (statements (acts (at 1 39) (assign (parts (name 1 1 39) bare no_parts) (four (at 1 43)
    4))) no_statements)) no_statements) []) ∷ (unit u.Module (name 3 2 8) ((declares (declaration (Integer Four) (protected ∷ []) ((entity (name 2 2 33)
    None None) ∷ []))) ∷ []) no_statements []) ∷ [])) (looks (((2, One 1) ∷ []) ∷ ((1, One 0) ∷ (2, One 1) ∷ []) ∷ ((2, One 1) ∷ []) ∷ [])) (1 ∷ 0 ∷ [])

--     program p; use m; integer, allocatable :: b(:); call move_alloc(v, b); end
--     module m; integer, allocatable, protected :: v(:); end
-- 1:65: D1: v
abbrev pub d1_11 : Type 0
d1_11 = Finds (Some (broken 7 D1 1 65 (Some 3)))
    (program (codes "p" ∷ codes "b" ∷ codes "call" ∷ codes "v" ∷ codes "move_alloc" ∷ codes "m" ∷ []) ((unit u.Program (name 0 1 9) ((declares (declaration
    (Integer Four) (allocatable ∷ []) ((entity (name 1 1 43) (Some (deferred (None ∷ []))) None) ∷ []))) ∷ []) (statements (acts (at 1 49) (call (name 4 1
    54) ((value None (designator (parts (name 3 1 65) bare no_parts))) ∷ (value None (designator (parts (name 1 1 68) bare no_parts))) ∷ [])))
    no_statements) []) ∷ (unit u.Module (name 5 2 8) ((declares (declaration (Integer Four) (allocatable ∷ protected ∷ []) ((entity (name 3 2 46) (Some
    (deferred (None ∷ []))) None) ∷ []))) ∷ []) no_statements []) ∷ [])) (looks (((1, One 0) ∷ (3, One 1) ∷ []) ∷ ((3, One 1) ∷ []) ∷ [])) (1 ∷ 0 ∷ [])

--     module m; integer, protected :: n; end
--     program p; use m; associate (z => n); associate (y => z); y = 4; end associate; end associate; end
-- 2:59: D1: y
abbrev pub d1_12 : Type 0
d1_12 = Finds (Some (broken 7 D1 2 59 (Some 4)))
    (program (codes "m" ∷ codes "n" ∷ codes "p" ∷ codes "z" ∷ codes "y" ∷ []) ((unit u.Module (name 0 1 8) ((declares (declaration (Integer Four) (protected ∷
    []) ((entity (name 1 1 33) None None) ∷ []))) ∷ []) no_statements []) ∷ (unit u.Program (name 2 2 9) [] (statements (associates (at 2 19)
    ((association (name 3 2 30) (designator (parts (name 1 2 35) bare no_parts))) ∷ []) (statements (associates (at 2 39) ((association (name 4 2 50)
    (designator (parts (name 3 2 55) bare no_parts))) ∷ []) (statements (acts (at 2 59) (assign (parts (name 4 2 59) bare no_parts) (four (at 2 63) 4)))
    no_statements)) no_statements)) no_statements) []) ∷ [])) (looks (((1, One 0) ∷ []) ∷ ((1, One 0) ∷ []) ∷ ((1, One 0) ∷ (3, One 1) ∷ []) ∷ ((1, One 0)
    ∷ (3, One 1) ∷ (4, One 2) ∷ []) ∷ [])) (0 ∷ 1 ∷ [])

--     module m; type t; integer :: c; end type; type(t), protected :: x; end
--     program p; use m; associate (z => x%c); z = 4; end associate; end
-- 2:41: D1: z
abbrev pub d1_13 : Type 0
d1_13 = Finds (Some (broken 7 D1 2 41 (Some 5)))
    (program (codes "m" ∷ codes "t" ∷ codes "c" ∷ codes "x" ∷ codes "p" ∷ codes "z" ∷ []) ((unit u.Module (name 0 1 8) ((type_definition (name 1 1 16) false
    ((declaration (Integer Four) [] ((entity (name 2 1 30) None None) ∷ [])) ∷ []) []) ∷ (declares (declaration (Derived (name 1 1 48)) (protected ∷ [])
    ((entity (name 3 1 65) None None) ∷ []))) ∷ []) no_statements []) ∷ (unit u.Program (name 4 2 9) [] (statements (associates (at 2 19) ((association
    (name 5 2 30) (designator (parts (name 3 2 35) bare (parts (name 2 2 37) bare no_parts)))) ∷ []) (statements (acts (at 2 41) (assign (parts (name 5 2
    41) bare no_parts) (four (at 2 45) 4))) no_statements)) no_statements) []) ∷ [])) (looks (((1, One 0) ∷ (3, One 1) ∷ []) ∷ ((1, One 0) ∷ (3, One 1) ∷
    []) ∷ ((1, One 0) ∷ (3, One 1) ∷ (5, One 2) ∷ []) ∷ [])) (0 ∷ 1 ∷ [])

--     module m; type t; integer :: c; end type; type(t), protected :: x; end
--     program p; use m; associate (z => x); z%c = 4; end associate; end
-- 2:39: D1: z
abbrev pub d1_14 : Type 0
d1_14 = Finds (Some (broken 7 D1 2 39 (Some 5)))
    (program (codes "m" ∷ codes "t" ∷ codes "c" ∷ codes "x" ∷ codes "p" ∷ codes "z" ∷ []) ((unit u.Module (name 0 1 8) ((type_definition (name 1 1 16) false
    ((declaration (Integer Four) [] ((entity (name 2 1 30) None None) ∷ [])) ∷ []) []) ∷ (declares (declaration (Derived (name 1 1 48)) (protected ∷ [])
    ((entity (name 3 1 65) None None) ∷ []))) ∷ []) no_statements []) ∷ (unit u.Program (name 4 2 9) [] (statements (associates (at 2 19) ((association
    (name 5 2 30) (designator (parts (name 3 2 35) bare no_parts))) ∷ []) (statements (acts (at 2 39) (assign (parts (name 5 2 39) bare (parts (name 2 2
    41) bare no_parts)) (four (at 2 45) 4))) no_statements)) no_statements) []) ∷ [])) (looks (((1, One 0) ∷ (3, One 1) ∷ []) ∷ ((1, One 0) ∷ (3, One 1) ∷
    []) ∷ ((1, One 0) ∷ (3, One 1) ∷ (5, One 2) ∷ []) ∷ [])) (0 ∷ 1 ∷ [])

--     module m; integer, protected :: a(3); end
--     program p; use m; associate (z => a(1:2)); z(1) = 4; end associate; end
-- 2:44: D1: z
abbrev pub d1_15 : Type 0
d1_15 = Finds (Some (broken 7 D1 2 44 (Some 3)))
    (program (codes "m" ∷ codes "a" ∷ codes "p" ∷ codes "z" ∷ []) ((unit u.Module (name 0 1 8) ((declares (declaration (Integer Four) (protected ∷ [])
    ((entity (name 1 1 33) (Some (explicit ((bounds None (four (at 1 35) 3)) ∷ []))) None) ∷ []))) ∷ []) no_statements []) ∷ (unit u.Program (name 2 2 9)
    [] (statements (associates (at 2 19) ((association (name 3 2 30) (designator (parts (name 1 2 35) (within (arguments (triplet (at 2 37) (present (four
    (at 2 37) 1)) (present (four (at 2 39) 2)) absent) no_arguments)) no_parts))) ∷ []) (statements (acts (at 2 44) (assign (parts (name 3 2 44) (within
    (arguments (value None (four (at 2 46) 1)) no_arguments)) no_parts) (four (at 2 51) 4))) no_statements)) no_statements) []) ∷ [])) (looks (((1, One 0)
    ∷ []) ∷ ((1, One 0) ∷ []) ∷ ((1, One 0) ∷ (3, One 1) ∷ []) ∷ [])) (0 ∷ 1 ∷ [])

--     module m; integer, protected :: n; end
--     program p; use m; integer, allocatable :: a(:); associate (z => n); allocate(a(2), stat=z); end associate; end
-- 2:89: D1: z
abbrev pub d1_16 : Type 0
d1_16 = Finds (Some (broken 7 D1 2 89 (Some 4)))
    (program (codes "m" ∷ codes "n" ∷ codes "p" ∷ codes "a" ∷ codes "z" ∷ codes "stat" ∷ codes "allocate" ∷ []) ((unit u.Module (name 0 1 8) ((declares
    (declaration (Integer Four) (protected ∷ []) ((entity (name 1 1 33) None None) ∷ []))) ∷ []) no_statements []) ∷ (unit u.Program (name 2 2 9)
    ((declares (declaration (Integer Four) (allocatable ∷ []) ((entity (name 3 2 43) (Some (deferred (None ∷ []))) None) ∷ []))) ∷ []) (statements
    (associates (at 2 49) ((association (name 4 2 60) (designator (parts (name 1 2 65) bare no_parts))) ∷ []) (statements (acts (at 2 69) (allocate
    ((parts (name 3 2 78) (within (arguments (value None (four (at 2 80) 2)) no_arguments)) no_parts) ∷ []) (Some (parts (name 4 2 89) bare no_parts))))
    no_statements)) no_statements) []) ∷ [])) (looks (((1, One 0) ∷ []) ∷ ((1, One 0) ∷ (3, One 1) ∷ []) ∷ ((1, One 0) ∷ (3, One 1) ∷ (4, One 2) ∷ []) ∷
    [])) (0 ∷ 1 ∷ [])

--     module m; integer, protected :: n; end
--     program p; use m; associate (z => n); do z = 1, 2; end do; end associate; end
-- 2:42: D1: z
abbrev pub d1_17 : Type 0
d1_17 = Finds (Some (broken 7 D1 2 42 (Some 3)))
    (program (codes "m" ∷ codes "n" ∷ codes "p" ∷ codes "z" ∷ []) ((unit u.Module (name 0 1 8) ((declares (declaration (Integer Four) (protected ∷ [])
    ((entity (name 1 1 33) None None) ∷ []))) ∷ []) no_statements []) ∷ (unit u.Program (name 2 2 9) [] (statements (associates (at 2 19) ((association
    (name 3 2 30) (designator (parts (name 1 2 35) bare no_parts))) ∷ []) (statements (repeats (at 2 39) (counted (name 3 2 42) (four (at 2 46) 1) (four
    (at 2 49) 2) None) no_statements) no_statements)) no_statements) []) ∷ [])) (looks (((1, One 0) ∷ []) ∷ ((1, One 0) ∷ []) ∷ ((1, One 0) ∷ (3, One 1) ∷
    []) ∷ [])) (0 ∷ 1 ∷ [])

--     module m; integer, protected :: n; contains; subroutine s(x); integer, intent(out) :: x; x = 1; end; end
--     program p; use m; associate (z => n); call s(z); end associate; end
-- 2:46: D1: z
abbrev pub d1_18 : Type 0
d1_18 = Finds (Some (broken 7 D1 2 46 (Some 5)))
    (program (codes "m" ∷ codes "n" ∷ codes "s" ∷ codes "x" ∷ codes "p" ∷ codes "z" ∷ codes "call" ∷ []) ((unit u.Module (name 0 1 8) ((declares (declaration
    (Integer Four) (protected ∷ []) ((entity (name 1 1 33) None None) ∷ []))) ∷ []) no_statements ((procedure false Subroutine (name 2 1 57) ((name 3 1
    59) ∷ []) ((declares (declaration (Integer Four) ((intent Out) ∷ []) ((entity (name 3 1 87) None None) ∷ []))) ∷ []) (statements (acts (at 1 90)
    (assign (parts (name 3 1 90) bare no_parts) (four (at 1 94) 1))) no_statements)) ∷ [])) ∷ (unit u.Program (name 4 2 9) [] (statements (associates (at
    2 19) ((association (name 5 2 30) (designator (parts (name 1 2 35) bare no_parts))) ∷ []) (statements (acts (at 2 39) (call (name 2 2 44) ((value None
    (designator (parts (name 5 2 46) bare no_parts))) ∷ []))) no_statements)) no_statements) []) ∷ [])) (looks (((1, One 0) ∷ (2, One 1) ∷ []) ∷ ((
      1,
      One
          0,
    ) ∷ (2, One 1) ∷ (3, One 2) ∷ []) ∷ ((1, One 0) ∷ (2, One 1) ∷ []) ∷ ((1, One 0) ∷ (2, One 1) ∷ (5, One 3) ∷ []) ∷ [])) (0 ∷ 1 ∷ [])

--     module m; integer, protected :: n; end
--     module k; use m; contains; subroutine s(); associate (z => n); z = 4; end associate; end; end
--     program p; end
-- 2:64: D1: z
abbrev pub d1_19 : Type 0
d1_19 = Finds (Some (broken 7 D1 2 64 (Some 4)))
    (program (codes "m" ∷ codes "n" ∷ codes "k" ∷ codes "s" ∷ codes "z" ∷ codes "p" ∷ []) ((unit u.Module (name 0 1 8) ((declares (declaration (Integer Four)
    (protected ∷ []) ((entity (name 1 1 33) None None) ∷ []))) ∷ []) no_statements []) ∷ (unit u.Module (name 2 2 8) [] no_statements ((procedure false
    Subroutine (name 3 2 39) [] [] (statements (associates (at 2 44) ((association (name 4 2 55) (designator (parts (name 1 2 60) bare no_parts))) ∷ [])
    (statements (acts (at 2 64) (assign (parts (name 4 2 64) bare no_parts) (four (at 2 68) 4))) no_statements)) no_statements)) ∷ [])) ∷ (unit u.Program
    (name 5 3 9) [] no_statements []) ∷ [])) (looks (((1, One 0) ∷ []) ∷ ((1, One 0) ∷ (3, One 1) ∷ []) ∷ ((1, One 0) ∷ (3, One 1) ∷ []) ∷ ((1, One 0) ∷
    (3, One 1) ∷ (4, One 2) ∷ []) ∷ [] ∷ [])) (0 ∷ 1 ∷ 2 ∷ [])

--     module m; integer, protected :: n; end
--     module k; contains; pure subroutine s(); use m; associate (z => n); z = 1; end associate; end; end
--     program p; end
-- 2:69: D1: z
abbrev pub d1_20 : Type 0
d1_20 = Finds (Some (broken 7 D1 2 69 (Some 4)))
    (program (codes "m" ∷ codes "n" ∷ codes "k" ∷ codes "s" ∷ codes "z" ∷ codes "p" ∷ []) ((unit u.Module (name 0 1 8) ((declares (declaration (Integer Four)
    (protected ∷ []) ((entity (name 1 1 33) None None) ∷ []))) ∷ []) no_statements []) ∷ (unit u.Module (name 2 2 8) [] no_statements ((procedure true
    Subroutine (name 3 2 37) [] [] (statements (associates (at 2 49) ((association (name 4 2 60) (designator (parts (name 1 2 65) bare no_parts))) ∷ [])
    (statements (acts (at 2 69) (assign (parts (name 4 2 69) bare no_parts) (four (at 2 73) 1))) no_statements)) no_statements)) ∷ [])) ∷ (unit u.Program
    (name 5 3 9) [] no_statements []) ∷ [])) (looks (((1, One 0) ∷ []) ∷ ((3, One 1) ∷ []) ∷ ((1, One 0) ∷ (3, One 1) ∷ []) ∷ ((1, One 0) ∷ (3, One 1) ∷
    (4, One 2) ∷ []) ∷ [] ∷ [])) (0 ∷ 1 ∷ 2 ∷ [])

--     module k; contains
--     subroutine q(x); integer, intent(in) :: x; x = 1; end
--     end
--     program p; end
-- 2:44: D2: x
abbrev pub d2_1 : Type 0
d2_1 = Finds (Some (broken 7 D2 2 44 (Some 2)))
    (program (codes "k" ∷ codes "q" ∷ codes "x" ∷ codes "p" ∷ []) ((unit u.Module (name 0 1 8) [] no_statements ((procedure false Subroutine (name 1 2 12)
    ((name 2 2 14) ∷ []) ((declares (declaration (Integer Four) ((intent In) ∷ []) ((entity (name 2 2 41) None None) ∷ []))) ∷ []) (statements (acts (at 2
    44) (assign (parts (name 2 2 44) bare no_parts) (four (at 2 48) 1))) no_statements)) ∷ [])) ∷ (unit u.Program (name 3 4 9) [] no_statements []) ∷ []))
    (looks (((1, One 0) ∷ []) ∷ ((1, One 0) ∷ (2, One 1) ∷ []) ∷ [] ∷ [])) (0 ∷ 1 ∷ [])

--     module m; contains; subroutine s(a); integer, intent(in) :: a(:); a(1) = 2; end; end
--     program p; end
-- 1:67: D2: a
abbrev pub d2_2 : Type 0
d2_2 = Finds (Some (broken 7 D2 1 67 (Some 2)))
    (program (codes "m" ∷ codes "s" ∷ codes "a" ∷ codes "p" ∷ []) ((unit u.Module (name 0 1 8) [] no_statements ((procedure false Subroutine (name 1 1 32)
    ((name 2 1 34) ∷ []) ((declares (declaration (Integer Four) ((intent In) ∷ []) ((entity (name 2 1 61) (Some (deferred (None ∷ []))) None) ∷ []))) ∷
    []) (statements (acts (at 1 67) (assign (parts (name 2 1 67) (within (arguments (value None (four (at 1 69) 1)) no_arguments)) no_parts) (four (at 1
    74) 2))) no_statements)) ∷ [])) ∷ (unit u.Program (name 3 2 9) [] no_statements []) ∷ [])) (looks (((1, One 0) ∷ []) ∷ ((1, One 0) ∷ (2, One 1) ∷ [])
    ∷ [] ∷ [])) (0 ∷ 1 ∷ [])

--     module m; contains; pure subroutine s(a); integer, allocatable, intent(in) :: a; integer, allocatable :: b; call move_alloc(a, b); end; end
--     program p; end
-- 1:125: D2: a
abbrev pub d2_3 : Type 0
d2_3 = Finds (Some (broken 7 D2 1 125 (Some 2)))
    (program (codes "m" ∷ codes "s" ∷ codes "a" ∷ codes "b" ∷ codes "call" ∷ codes "move_alloc" ∷ codes "p" ∷ []) ((unit u.Module (name 0 1 8) []
    no_statements ((procedure true Subroutine (name 1 1 37) ((name 2 1 39) ∷ []) ((declares (declaration (Integer Four) (allocatable ∷ (intent In) ∷ [])
    ((entity (name 2 1 79) None None) ∷ []))) ∷ (declares (declaration (Integer Four) (allocatable ∷ []) ((entity (name 3 1 106) None None) ∷ []))) ∷ [])
    (statements (acts (at 1 109) (call (name 5 1 114) ((value None (designator (parts (name 2 1 125) bare no_parts))) ∷ (value None (designator (parts
    (name 3 1 128) bare no_parts))) ∷ []))) no_statements)) ∷ [])) ∷ (unit u.Program (name 6 2 9) [] no_statements []) ∷ [])) (looks (((1, One 0) ∷ []) ∷
    ((1, One 0) ∷ (2, One 1) ∷ (3, One 2) ∷ []) ∷ [] ∷ [])) (0 ∷ 1 ∷ [])

--     module m; contains; subroutine s(x); integer, intent(in) :: x; associate (z => x); z = 1; end associate; end; end
--     program p; end
-- 1:84: D2: z
abbrev pub d2_4 : Type 0
d2_4 = Finds (Some (broken 7 D2 1 84 (Some 3)))
    (program (codes "m" ∷ codes "s" ∷ codes "x" ∷ codes "z" ∷ codes "p" ∷ []) ((unit u.Module (name 0 1 8) [] no_statements ((procedure false Subroutine (name
    1 1 32) ((name 2 1 34) ∷ []) ((declares (declaration (Integer Four) ((intent In) ∷ []) ((entity (name 2 1 61) None None) ∷ []))) ∷ []) (statements
    (associates (at 1 64) ((association (name 3 1 75) (designator (parts (name 2 1 80) bare no_parts))) ∷ []) (statements (acts (at 1 84) (assign (parts
    (name 3 1 84) bare no_parts) (four (at 1 88) 1))) no_statements)) no_statements)) ∷ [])) ∷ (unit u.Program (name 4 2 9) [] no_statements []) ∷ []))
    (looks (((1, One 0) ∷ []) ∷ ((1, One 0) ∷ (2, One 1) ∷ []) ∷ ((1, One 0) ∷ (2, One 1) ∷ (3, One 2) ∷ []) ∷ [] ∷ [])) (0 ∷ 1 ∷ [])

--     module m; contains; subroutine s(x); integer, intent(in) :: x(:); associate (z => x(1)); z = 1; end associate; end; end
--     program p; end
-- 1:90: D2: z
abbrev pub d2_5 : Type 0
d2_5 = Finds (Some (broken 7 D2 1 90 (Some 3)))
    (program (codes "m" ∷ codes "s" ∷ codes "x" ∷ codes "z" ∷ codes "p" ∷ []) ((unit u.Module (name 0 1 8) [] no_statements ((procedure false Subroutine (name
    1 1 32) ((name 2 1 34) ∷ []) ((declares (declaration (Integer Four) ((intent In) ∷ []) ((entity (name 2 1 61) (Some (deferred (None ∷ []))) None) ∷
    []))) ∷ []) (statements (associates (at 1 67) ((association (name 3 1 78) (designator (parts (name 2 1 83) (within (arguments (value None (four (at 1
    85) 1)) no_arguments)) no_parts))) ∷ []) (statements (acts (at 1 90) (assign (parts (name 3 1 90) bare no_parts) (four (at 1 94) 1))) no_statements))
    no_statements)) ∷ [])) ∷ (unit u.Program (name 4 2 9) [] no_statements []) ∷ [])) (looks (((1, One 0) ∷ []) ∷ ((1, One 0) ∷ (2, One 1) ∷ []) ∷ ((
      1,
      One 0,
    ) ∷ (2, One 1) ∷ (3, One 2) ∷ []) ∷ [] ∷ [])) (0 ∷ 1 ∷ [])

--     module m; contains; function f(x) result(r); integer, intent(in) :: x; integer :: r; associate (z => x); z = 1; end associate; r = 1; end
--     end
--     program p; end
-- 1:106: D2: z
abbrev pub d2_6 : Type 0
d2_6 = Finds (Some (broken 7 D2 1 106 (Some 4)))
    (program (codes "m" ∷ codes "f" ∷ codes "r" ∷ codes "x" ∷ codes "z" ∷ codes "p" ∷ []) ((unit u.Module (name 0 1 8) [] no_statements ((procedure false
    (Function None (Some (name 2 1 42))) (name 1 1 30) ((name 3 1 32) ∷ []) ((declares (declaration (Integer Four) ((intent In) ∷ []) ((entity (name 3 1
    69) None None) ∷ []))) ∷ (declares (declaration (Integer Four) [] ((entity (name 2 1 83) None None) ∷ []))) ∷ []) (statements (associates (at 1 86)
    ((association (name 4 1 97) (designator (parts (name 3 1 102) bare no_parts))) ∷ []) (statements (acts (at 1 106) (assign (parts (name 4 1 106) bare
    no_parts) (four (at 1 110) 1))) no_statements)) (statements (acts (at 1 128) (assign (parts (name 2 1 128) bare no_parts) (four (at 1 132) 1)))
    no_statements))) ∷ [])) ∷ (unit u.Program (name 5 3 9) [] no_statements []) ∷ [])) (looks (((1, One 0) ∷ []) ∷ ((1, One 0) ∷ (2, One 2) ∷ (3, One 1) ∷
    []) ∷ ((1, One 0) ∷ (2, One 2) ∷ (3, One 1) ∷ (4, One 3) ∷ []) ∷ [] ∷ [])) (0 ∷ 1 ∷ [])

abbrev pub D1And2Show : Type 0
D1And2Show = d1_1 × d1_2 × d1_3 × d1_4 × d1_5 × d1_6 × d1_7 × d1_8 × d1_9 × d1_10 × d1_11 × d1_12 × d1_13 × d1_14 × d1_15 × d1_16 × d1_17 × d1_18 × d1_19 ×
    d1_20 × d2_1 × d2_2 × d2_3 × d2_4 × d2_5 × d2_6
