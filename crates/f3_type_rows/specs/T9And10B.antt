-- Programs, each in the text above it, with what refuses it.
use Rattle.std.specs.Prelude.{false, [], ◌∷◌, None, Some, codes}
use Rattle.f3_lookups.specs.declared.lookup.Lookup.TheVariants.{One}
use Rattle.f3_rules.specs.declared.rule.Rule.TheVariants.{T9, T10}
use Rattle.f3_tree.specs.declared.expression.IntegerKind.TheVariants.{Four}
use Rattle.f3_tree.specs.declared.declaration.TypeSpecifier.TheVariants.{Integer, Derived}
use Rattle.f3_tree.specs.declared.program.ProcedureKind.TheVariants.{Subroutine}
use Rattle.f3_tree.specs.declared.program.UnitKind.TheVariants as u
use Rattle.f3_tree.specs.Expressions.{designator, no_parts, parts}
use Rattle.f3_tree.specs.Expressions.{bare, within, no_arguments, arguments, value}
use Rattle.f3_tree.specs.Declarations.{explicit, deferred, allocatable, declares}
use Rattle.f3_tree.specs.Statements.{assign, call, allocate, deallocate, print}
use Rattle.f3_tree.specs.Statements.{acts, associates, no_statements, statements}
use Rattle.f3_type_rows.specs.Build.{Finds, at, name, four, bounds, entity, declaration, type_definition, procedure, unit, association, program, looks, broken}

--     program p; use m; integer, allocatable :: a(:), b(:); call move_alloc(v, b); call move_alloc(a, v); end
--     module m; integer :: t; type(t), allocatable :: v; end
-- 2:30: T9: t
abbrev pub t9_15 : Type 0
t9_15 = Finds (Some (broken 6 T9 2 30 (Some 7)))
    (program (codes "p" ∷ codes "a" ∷ codes "b" ∷ codes "call" ∷ codes "v" ∷ codes "move_alloc" ∷ codes "m" ∷ codes "t" ∷ []) ((unit u.Program (name 0 1 9)
    ((declares (declaration (Integer Four) (allocatable ∷ []) ((entity (name 1 1 43) (Some (deferred (None ∷ []))) None) ∷ (entity (name 2 1 49) (Some
    (deferred (None ∷ []))) None) ∷ []))) ∷ []) (statements (acts (at 1 55) (call (name 5 1 60) ((value None (designator (parts (name 4 1 71) bare
    no_parts))) ∷ (value None (designator (parts (name 2 1 74) bare no_parts))) ∷ []))) (statements (acts (at 1 78) (call (name 5 1 83) ((value None
    (designator (parts (name 1 1 94) bare no_parts))) ∷ (value None (designator (parts (name 4 1 97) bare no_parts))) ∷ []))) no_statements)) []) ∷ (unit
    u.Module (name 6 2 8) ((declares (declaration (Integer Four) [] ((entity (name 7 2 22) None None) ∷ []))) ∷ (declares (declaration (Derived (name 7 2
    30)) (allocatable ∷ []) ((entity (name 4 2 49) None None) ∷ []))) ∷ []) no_statements []) ∷ [])) (looks (((1, One 0) ∷ (2, One 1) ∷ (4, One 3) ∷ (
      7,
      One 2,
    ) ∷ []) ∷ ((4, One 3) ∷ (7, One 2) ∷ []) ∷ [])) (1 ∷ 0 ∷ [])

--     program p; call abs(1); end
-- 1:17: T9: abs
abbrev pub t9_16 : Type 0
t9_16 = Finds (Some (broken 6 T9 1 17 (Some 2)))
    (program (codes "p" ∷ codes "call" ∷ codes "abs" ∷ []) ((unit u.Program (name 0 1 9) [] (statements (acts (at 1 12) (call (name 2 1 17) ((value None (four
    (at 1 21) 1)) ∷ []))) no_statements) []) ∷ [])) (looks ([] ∷ [])) (0 ∷ [])

--     program p; abs = 1; end
-- 1:12: T9: abs
abbrev pub t9_17 : Type 0
t9_17 = Finds (Some (broken 6 T9 1 12 (Some 1)))
    (program (codes "p" ∷ codes "abs" ∷ []) ((unit u.Program (name 0 1 9) [] (statements (acts (at 1 12) (assign (parts (name 1 1 12) bare no_parts) (four (at
    1 18) 1))) no_statements) []) ∷ [])) (looks ([] ∷ [])) (0 ∷ [])

--     program p; integer :: a(3); allocate(a(3)); end
-- 1:38: T9: a
abbrev pub t9_18 : Type 0
t9_18 = Finds (Some (broken 6 T9 1 38 (Some 1)))
    (program (codes "p" ∷ codes "a" ∷ codes "allocate" ∷ []) ((unit u.Program (name 0 1 9) ((declares (declaration (Integer Four) [] ((entity (name 1 1 23)
    (Some (explicit ((bounds None (four (at 1 25) 3)) ∷ []))) None) ∷ []))) ∷ []) (statements (acts (at 1 29) (allocate ((parts (name 1 1 38) (within
    (arguments (value None (four (at 1 40) 3)) no_arguments)) no_parts) ∷ []) None)) no_statements) []) ∷ [])) (looks (((1, One 0) ∷ []) ∷ [])) (0 ∷ [])

--     program p; integer, allocatable :: a(:); deallocate(a(1)); end
-- 1:53: T9: a
abbrev pub t9_19 : Type 0
t9_19 = Finds (Some (broken 6 T9 1 53 (Some 1)))
    (program (codes "p" ∷ codes "a" ∷ codes "deallocate" ∷ []) ((unit u.Program (name 0 1 9) ((declares (declaration (Integer Four) (allocatable ∷ [])
    ((entity (name 1 1 36) (Some (deferred (None ∷ []))) None) ∷ []))) ∷ []) (statements (acts (at 1 42) (deallocate ((parts (name 1 1 53) (within
    (arguments (value None (four (at 1 55) 1)) no_arguments)) no_parts) ∷ []) None)) no_statements) []) ∷ [])) (looks (((1, One 0) ∷ []) ∷ [])) (0 ∷ [])

--     program p; integer, allocatable :: v(:); allocate(v(2)); associate (z => v); deallocate(z); end associate; end
-- 1:89: T9: z
abbrev pub t9_20 : Type 0
t9_20 = Finds (Some (broken 6 T9 1 89 (Some 3)))
    (program (codes "p" ∷ codes "v" ∷ codes "allocate" ∷ codes "z" ∷ codes "deallocate" ∷ []) ((unit u.Program (name 0 1 9) ((declares (declaration (Integer
    Four) (allocatable ∷ []) ((entity (name 1 1 36) (Some (deferred (None ∷ []))) None) ∷ []))) ∷ []) (statements (acts (at 1 42) (allocate ((parts (name
    1 1 51) (within (arguments (value None (four (at 1 53) 2)) no_arguments)) no_parts) ∷ []) None)) (statements (associates (at 1 58) ((association (name
    3 1 69) (designator (parts (name 1 1 74) bare no_parts))) ∷ []) (statements (acts (at 1 78) (deallocate ((parts (name 3 1 89) bare no_parts) ∷ [])
    None)) no_statements)) no_statements)) []) ∷ [])) (looks (((1, One 0) ∷ []) ∷ ((1, One 0) ∷ (3, One 1) ∷ []) ∷ [])) (0 ∷ [])

--     program p; integer, allocatable :: v(:); associate (z => v); allocate(z(3)); end associate; end
-- 1:71: T9: z
abbrev pub t9_21 : Type 0
t9_21 = Finds (Some (broken 6 T9 1 71 (Some 2)))
    (program (codes "p" ∷ codes "v" ∷ codes "z" ∷ codes "allocate" ∷ []) ((unit u.Program (name 0 1 9) ((declares (declaration (Integer Four) (allocatable ∷
    []) ((entity (name 1 1 36) (Some (deferred (None ∷ []))) None) ∷ []))) ∷ []) (statements (associates (at 1 42) ((association (name 2 1 53) (designator
    (parts (name 1 1 58) bare no_parts))) ∷ []) (statements (acts (at 1 62) (allocate ((parts (name 2 1 71) (within (arguments (value None (four (at 1 73)
    3)) no_arguments)) no_parts) ∷ []) None)) no_statements)) no_statements) []) ∷ [])) (looks (((1, One 0) ∷ []) ∷ ((1, One 0) ∷ (2, One 1) ∷ []) ∷ []))
    (0 ∷ [])

--     module m; contains; subroutine s(); end; end
--     program p; use m; associate (z => s); print *, 1; end associate; end
-- 2:35: T9: s
abbrev pub t9_22 : Type 0
t9_22 = Finds (Some (broken 6 T9 2 35 (Some 1)))
    (program (codes "m" ∷ codes "s" ∷ codes "p" ∷ codes "z" ∷ codes "print" ∷ []) ((unit u.Module (name 0 1 8) [] no_statements ((procedure false Subroutine
    (name 1 1 32) [] [] no_statements) ∷ [])) ∷ (unit u.Program (name 2 2 9) [] (statements (associates (at 2 19) ((association (name 3 2 30) (designator
    (parts (name 1 2 35) bare no_parts))) ∷ []) (statements (acts (at 2 39) (print ((four (at 2 48) 1) ∷ []))) no_statements)) no_statements) []) ∷ []))
    (looks (((1, One 0) ∷ []) ∷ ((1, One 0) ∷ []) ∷ ((1, One 0) ∷ []) ∷ ((1, One 0) ∷ (3, One 1) ∷ []) ∷ [])) (0 ∷ 1 ∷ [])

--     program p; associate (z => 1); call z(); end associate; end
-- 1:37: T9: z
abbrev pub t9_23 : Type 0
t9_23 = Finds (Some (broken 6 T9 1 37 (Some 1)))
    (program (codes "p" ∷ codes "z" ∷ codes "call" ∷ []) ((unit u.Program (name 0 1 9) [] (statements (associates (at 1 12) ((association (name 1 1 23) (four
    (at 1 28) 1)) ∷ []) (statements (acts (at 1 32) (call (name 1 1 37) [])) no_statements)) no_statements) []) ∷ [])) (looks ([] ∷ ((1, One 0) ∷ []) ∷
    [])) (0 ∷ [])

--     module m; type t; integer :: c; end type; end
--     program p; use m; associate (z => t); print *, 1; end associate; end
-- 2:35: T9: t
abbrev pub t9_24 : Type 0
t9_24 = Finds (Some (broken 6 T9 2 35 (Some 1)))
    (program (codes "m" ∷ codes "t" ∷ codes "c" ∷ codes "p" ∷ codes "z" ∷ codes "print" ∷ []) ((unit u.Module (name 0 1 8) ((type_definition (name 1 1 16)
    false ((declaration (Integer Four) [] ((entity (name 2 1 30) None None) ∷ [])) ∷ []) []) ∷ []) no_statements []) ∷ (unit u.Program (name 3 2 9) []
    (statements (associates (at 2 19) ((association (name 4 2 30) (designator (parts (name 1 2 35) bare no_parts))) ∷ []) (statements (acts (at 2 39)
    (print ((four (at 2 48) 1) ∷ []))) no_statements)) no_statements) []) ∷ [])) (looks (((1, One 0) ∷ []) ∷ ((1, One 0) ∷ []) ∷ ((1, One 0) ∷ (4, One 1)
    ∷ []) ∷ [])) (0 ∷ 1 ∷ [])

--     program p; associate (z => 1); allocate(z); end associate; end
-- 1:41: T9: z
abbrev pub t9_25 : Type 0
t9_25 = Finds (Some (broken 6 T9 1 41 (Some 1)))
    (program (codes "p" ∷ codes "z" ∷ codes "allocate" ∷ []) ((unit u.Program (name 0 1 9) [] (statements (associates (at 1 12) ((association (name 1 1 23)
    (four (at 1 28) 1)) ∷ []) (statements (acts (at 1 32) (allocate ((parts (name 1 1 41) bare no_parts) ∷ []) None)) no_statements)) no_statements) []) ∷
    [])) (looks ([] ∷ ((1, One 0) ∷ []) ∷ [])) (0 ∷ [])

--     program p; integer, allocatable :: v(:); associate (z => v); allocate(z); end associate; end
-- 1:71: T9: z
abbrev pub t9_26 : Type 0
t9_26 = Finds (Some (broken 6 T9 1 71 (Some 2)))
    (program (codes "p" ∷ codes "v" ∷ codes "z" ∷ codes "allocate" ∷ []) ((unit u.Program (name 0 1 9) ((declares (declaration (Integer Four) (allocatable ∷
    []) ((entity (name 1 1 36) (Some (deferred (None ∷ []))) None) ∷ []))) ∷ []) (statements (associates (at 1 42) ((association (name 2 1 53) (designator
    (parts (name 1 1 58) bare no_parts))) ∷ []) (statements (acts (at 1 62) (allocate ((parts (name 2 1 71) bare no_parts) ∷ []) None)) no_statements))
    no_statements) []) ∷ [])) (looks (((1, One 0) ∷ []) ∷ ((1, One 0) ∷ (2, One 1) ∷ []) ∷ [])) (0 ∷ [])

--     module m; type t; integer :: c; end type; end
--     program p; use m; type(t) :: x; x = t(); end
-- 2:37: T10: t
abbrev pub t10_1 : Type 0
t10_1 = Finds (Some (broken 6 T10 2 37 (Some 1)))
    (program (codes "m" ∷ codes "t" ∷ codes "c" ∷ codes "p" ∷ codes "x" ∷ []) ((unit u.Module (name 0 1 8) ((type_definition (name 1 1 16) false ((declaration
    (Integer Four) [] ((entity (name 2 1 30) None None) ∷ [])) ∷ []) []) ∷ []) no_statements []) ∷ (unit u.Program (name 3 2 9) ((declares (declaration
    (Derived (name 1 2 24)) [] ((entity (name 4 2 30) None None) ∷ []))) ∷ []) (statements (acts (at 2 33) (assign (parts (name 4 2 33) bare no_parts)
    (designator (parts (name 1 2 37) (within no_arguments) no_parts)))) no_statements) []) ∷ [])) (looks (((1, One 0) ∷ []) ∷ ((1, One 0) ∷ (4, One 1) ∷
    []) ∷ [])) (0 ∷ 1 ∷ [])

--     module m; type a; integer :: i = 1; end type; type b; type(a) :: x; integer :: j = 2; end type; end
--     program p; use m; type(b) :: y; y = b(j=3); end
-- 2:37: T10: b
abbrev pub t10_2 : Type 0
t10_2 = Finds (Some (broken 6 T10 2 37 (Some 3)))
    (program (codes "m" ∷ codes "a" ∷ codes "i" ∷ codes "b" ∷ codes "x" ∷ codes "j" ∷ codes "p" ∷ codes "y" ∷ []) ((unit u.Module (name 0 1 8)
    ((type_definition (name 1 1 16) false ((declaration (Integer Four) [] ((entity (name 2 1 30) None (Some (four (at 1 34) 1))) ∷ [])) ∷ []) []) ∷
    (type_definition (name 3 1 52) false ((declaration (Derived (name 1 1 60)) [] ((entity (name 4 1 66) None None) ∷ [])) ∷ (declaration (Integer Four)
    [] ((entity (name 5 1 80) None (Some (four (at 1 84) 2))) ∷ [])) ∷ []) []) ∷ []) no_statements []) ∷ (unit u.Program (name 6 2 9) ((declares
    (declaration (Derived (name 3 2 24)) [] ((entity (name 7 2 30) None None) ∷ []))) ∷ []) (statements (acts (at 2 33) (assign (parts (name 7 2 33) bare
    no_parts) (designator (parts (name 3 2 37) (within (arguments (value (Some (name 5 2 39)) (four (at 2 41) 3)) no_arguments)) no_parts))))
    no_statements) []) ∷ [])) (looks (((1, One 0) ∷ (3, One 1) ∷ []) ∷ ((1, One 0) ∷ (3, One 1) ∷ (7, One 2) ∷ []) ∷ [])) (0 ∷ 1 ∷ [])

--     program p; use m; x = t(1, 2, 3); end
--     module m; type t; integer :: i; integer :: j = 1; end type; type(t) :: x; end
-- 1:23: T10: t
abbrev pub t10_3 : Type 0
t10_3 = Finds (Some (broken 6 T10 1 23 (Some 2)))
    (program (codes "p" ∷ codes "x" ∷ codes "t" ∷ codes "m" ∷ codes "i" ∷ codes "j" ∷ []) ((unit u.Program (name 0 1 9) [] (statements (acts (at 1 19) (assign
    (parts (name 1 1 19) bare no_parts) (designator (parts (name 2 1 23) (within (arguments (value None (four (at 1 25) 1)) (arguments (value None (four
    (at 1 28) 2)) (arguments (value None (four (at 1 31) 3)) no_arguments)))) no_parts)))) no_statements) []) ∷ (unit u.Module (name 3 2 8)
    ((type_definition (name 2 2 16) false ((declaration (Integer Four) [] ((entity (name 4 2 30) None None) ∷ [])) ∷ (declaration (Integer Four) []
    ((entity (name 5 2 44) None (Some (four (at 2 48) 1))) ∷ [])) ∷ []) []) ∷ (declares (declaration (Derived (name 2 2 66)) [] ((entity (name 1 2 72)
    None None) ∷ []))) ∷ []) no_statements []) ∷ [])) (looks (((1, One 1) ∷ (2, One 0) ∷ []) ∷ ((1, One 1) ∷ (2, One 0) ∷ []) ∷ [])) (1 ∷ 0 ∷ [])

abbrev pub T9And10BShow : Type 0
T9And10BShow = t9_15 × t9_16 × t9_17 × t9_18 × t9_19 × t9_20 × t9_21 × t9_22 × t9_23 × t9_24 × t9_25 × t9_26 × t10_1 × t10_2 × t10_3
