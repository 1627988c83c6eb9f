-- Programs, each in the text above it, with what refuses it.
use Rattle.std.specs.Prelude.{false, [], ◌∷◌, None, Some, codes}
use Rattle.f3_lookups.specs.declared.lookup.Lookup.TheVariants.{One}
use Rattle.f3_rules.specs.declared.rule.Rule.TheVariants.{T7}
use Rattle.f3_tree.specs.declared.expression.Relation.TheVariants as r
use Rattle.f3_tree.specs.declared.expression.IntegerKind.TheVariants.{Four, Eight}
use Rattle.f3_tree.specs.declared.declaration.TypeSpecifier.TheVariants.{Integer, Derived}
use Rattle.f3_tree.specs.declared.program.UnitKind.TheVariants as u
use Rattle.f3_tree.specs.Expressions.{designator, comparison, no_parts, parts}
use Rattle.f3_tree.specs.Expressions.{bare, within, no_arguments, arguments, value, triplet, absent, present}
use Rattle.f3_tree.specs.Declarations.{explicit, deferred, allocatable, declares}
use Rattle.f3_tree.specs.Statements.{assign, allocate, print}
use Rattle.f3_tree.specs.Statements.{counted, acts, acts_if, repeats, associates, no_statements, statements}
use Rattle.f3_type_rows.specs.Build.{Finds, at, name, four, bounds, entity, declaration, type_definition, unit, association, program, looks, broken}

--     program p; integer :: i(2); do i = 1, 2; end do; end
-- 1:32: T7
abbrev pub t7_17 : Type 0
t7_17 = Finds (Some (broken 6 T7 1 32 None))
    (program (codes "p" ∷ codes "i" ∷ []) ((unit u.Program (name 0 1 9) ((declares (declaration (Integer Four) [] ((entity (name 1 1 23) (Some (explicit
    ((bounds None (four (at 1 25) 2)) ∷ []))) None) ∷ []))) ∷ []) (statements (repeats (at 1 29) (counted (name 1 1 32) (four (at 1 36) 1) (four (at 1 39)
    2) None) no_statements) no_statements) []) ∷ [])) (looks (((1, One 0) ∷ []) ∷ [])) (0 ∷ [])

--     program p; integer :: a(3), b(2, 2); a = b; end
-- 1:42: T7
abbrev pub t7_18 : Type 0
t7_18 = Finds (Some (broken 6 T7 1 42 None))
    (program (codes "p" ∷ codes "a" ∷ codes "b" ∷ []) ((unit u.Program (name 0 1 9) ((declares (declaration (Integer Four) [] ((entity (name 1 1 23) (Some
    (explicit ((bounds None (four (at 1 25) 3)) ∷ []))) None) ∷ (entity (name 2 1 29) (Some (explicit ((bounds None (four (at 1 31) 2)) ∷ (bounds None
    (four (at 1 34) 2)) ∷ []))) None) ∷ []))) ∷ []) (statements (acts (at 1 38) (assign (parts (name 1 1 38) bare no_parts) (designator (parts (name 2 1
    42) bare no_parts)))) no_statements) []) ∷ [])) (looks (((1, One 0) ∷ (2, One 1) ∷ []) ∷ [])) (0 ∷ [])

--     program p; integer :: a(3), b(2, 2); a = b(1, :) ; a(1:2) = b(:, 1); a(1) = a; end
-- 1:77: T7
abbrev pub t7_19 : Type 0
t7_19 = Finds (Some (broken 6 T7 1 77 None))
    (program (codes "p" ∷ codes "a" ∷ codes "b" ∷ []) ((unit u.Program (name 0 1 9) ((declares (declaration (Integer Four) [] ((entity (name 1 1 23) (Some
    (explicit ((bounds None (four (at 1 25) 3)) ∷ []))) None) ∷ (entity (name 2 1 29) (Some (explicit ((bounds None (four (at 1 31) 2)) ∷ (bounds None
    (four (at 1 34) 2)) ∷ []))) None) ∷ []))) ∷ []) (statements (acts (at 1 38) (assign (parts (name 1 1 38) bare no_parts) (designator (parts (name 2 1
    42) (within (arguments (value None (four (at 1 44) 1)) (arguments (triplet (at 1 47) absent absent absent) no_arguments))) no_parts)))) (statements
    (acts (at 1 52) (assign (parts (name 1 1 52) (within (arguments (triplet (at 1 54) (present (four (at 1 54) 1)) (present (four (at 1 56) 2)) absent)
    no_arguments)) no_parts) (designator (parts (name 2 1 61) (within (arguments (triplet (at 1 63) absent absent absent) (arguments (value None (four (at
    1 66) 1)) no_arguments))) no_parts)))) (statements (acts (at 1 70) (assign (parts (name 1 1 70) (within (arguments (value None (four (at 1 72) 1))
    no_arguments)) no_parts) (designator (parts (name 1 1 77) bare no_parts)))) no_statements))) []) ∷ [])) (looks (((1, One 0) ∷ (2, One 1) ∷ []) ∷ []))
    (0 ∷ [])

--     program p; integer, allocatable :: a(:); allocate(a); end
-- 1:51: T7
abbrev pub t7_20 : Type 0
t7_20 = Finds (Some (broken 6 T7 1 51 None))
    (program (codes "p" ∷ codes "a" ∷ codes "allocate" ∷ []) ((unit u.Program (name 0 1 9) ((declares (declaration (Integer Four) (allocatable ∷ []) ((entity
    (name 1 1 36) (Some (deferred (None ∷ []))) None) ∷ []))) ∷ []) (statements (acts (at 1 42) (allocate ((parts (name 1 1 51) bare no_parts) ∷ [])
    None)) no_statements) []) ∷ [])) (looks (((1, One 0) ∷ []) ∷ [])) (0 ∷ [])

--     program p; integer, allocatable :: a(:); allocate(a(2, 3)); end
-- 1:51: T7
abbrev pub t7_21 : Type 0
t7_21 = Finds (Some (broken 6 T7 1 51 None))
    (program (codes "p" ∷ codes "a" ∷ codes "allocate" ∷ []) ((unit u.Program (name 0 1 9) ((declares (declaration (Integer Four) (allocatable ∷ []) ((entity
    (name 1 1 36) (Some (deferred (None ∷ []))) None) ∷ []))) ∷ []) (statements (acts (at 1 42) (allocate ((parts (name 1 1 51) (within (arguments (value
    None (four (at 1 53) 2)) (arguments (value None (four (at 1 56) 3)) no_arguments))) no_parts) ∷ []) None)) no_statements) []) ∷ [])) (looks (((
      1,
      One
          0,
    ) ∷ []) ∷ [])) (0 ∷ [])

--     program p; integer, allocatable :: a(:); allocate(a(2:)); end
-- 1:51: T7
abbrev pub t7_22 : Type 0
t7_22 = Finds (Some (broken 6 T7 1 51 None))
    (program (codes "p" ∷ codes "a" ∷ codes "allocate" ∷ []) ((unit u.Program (name 0 1 9) ((declares (declaration (Integer Four) (allocatable ∷ []) ((entity
    (name 1 1 36) (Some (deferred (None ∷ []))) None) ∷ []))) ∷ []) (statements (acts (at 1 42) (allocate ((parts (name 1 1 51) (within (arguments
    (triplet (at 1 53) (present (four (at 1 53) 2)) absent absent) no_arguments)) no_parts) ∷ []) None)) no_statements) []) ∷ [])) (looks (((1, One 0) ∷
    []) ∷ [])) (0 ∷ [])

--     program p; integer, allocatable :: a(:); allocate(a(2:3), stat=a); end
-- 1:64: T7
abbrev pub t7_23 : Type 0
t7_23 = Finds (Some (broken 6 T7 1 64 None))
    (program (codes "p" ∷ codes "a" ∷ codes "stat" ∷ codes "allocate" ∷ []) ((unit u.Program (name 0 1 9) ((declares (declaration (Integer Four) (allocatable
    ∷ []) ((entity (name 1 1 36) (Some (deferred (None ∷ []))) None) ∷ []))) ∷ []) (statements (acts (at 1 42) (allocate ((parts (name 1 1 51) (within
    (arguments (triplet (at 1 53) (present (four (at 1 53) 2)) (present (four (at 1 55) 3)) absent) no_arguments)) no_parts) ∷ []) (Some (parts (name 1 1
    64) bare no_parts)))) no_statements) []) ∷ [])) (looks (((1, One 0) ∷ []) ∷ [])) (0 ∷ [])

--     program p; integer :: a(3); associate (z => a); print *, z(1, 2); end associate; end
-- 1:58: T7
abbrev pub t7_24 : Type 0
t7_24 = Finds (Some (broken 6 T7 1 58 None))
    (program (codes "p" ∷ codes "a" ∷ codes "z" ∷ codes "print" ∷ []) ((unit u.Program (name 0 1 9) ((declares (declaration (Integer Four) [] ((entity (name 1
    1 23) (Some (explicit ((bounds None (four (at 1 25) 3)) ∷ []))) None) ∷ []))) ∷ []) (statements (associates (at 1 29) ((association (name 2 1 40)
    (designator (parts (name 1 1 45) bare no_parts))) ∷ []) (statements (acts (at 1 49) (print ((designator (parts (name 2 1 58) (within (arguments (value
    None (four (at 1 60) 1)) (arguments (value None (four (at 1 63) 2)) no_arguments))) no_parts)) ∷ []))) no_statements)) no_statements) []) ∷ []))
    (looks (((1, One 0) ∷ []) ∷ ((1, One 0) ∷ (2, One 1) ∷ []) ∷ [])) (0 ∷ [])

--     program p; integer :: a(3); associate (z => a(1)); print *, z(1); end associate; end
-- 1:61: T7
abbrev pub t7_25 : Type 0
t7_25 = Finds (Some (broken 6 T7 1 61 None))
    (program (codes "p" ∷ codes "a" ∷ codes "z" ∷ codes "print" ∷ []) ((unit u.Program (name 0 1 9) ((declares (declaration (Integer Four) [] ((entity (name 1
    1 23) (Some (explicit ((bounds None (four (at 1 25) 3)) ∷ []))) None) ∷ []))) ∷ []) (statements (associates (at 1 29) ((association (name 2 1 40)
    (designator (parts (name 1 1 45) (within (arguments (value None (four (at 1 47) 1)) no_arguments)) no_parts))) ∷ []) (statements (acts (at 1 52)
    (print ((designator (parts (name 2 1 61) (within (arguments (value None (four (at 1 63) 1)) no_arguments)) no_parts)) ∷ []))) no_statements))
    no_statements) []) ∷ [])) (looks (((1, One 0) ∷ []) ∷ ((1, One 0) ∷ (2, One 1) ∷ []) ∷ [])) (0 ∷ [])

--     program p; associate (z => 1); print *, z(); end associate; end
-- 1:41: T7
abbrev pub t7_26 : Type 0
t7_26 = Finds (Some (broken 6 T7 1 41 None))
    (program (codes "p" ∷ codes "z" ∷ codes "print" ∷ []) ((unit u.Program (name 0 1 9) [] (statements (associates (at 1 12) ((association (name 1 1 23) (four
    (at 1 28) 1)) ∷ []) (statements (acts (at 1 32) (print ((designator (parts (name 1 1 41) (within no_arguments) no_parts)) ∷ []))) no_statements))
    no_statements) []) ∷ [])) (looks ([] ∷ ((1, One 0) ∷ []) ∷ [])) (0 ∷ [])

--     program p; integer :: i, a(3); associate (z => a); i = z; end associate; end
-- 1:56: T7
abbrev pub t7_27 : Type 0
t7_27 = Finds (Some (broken 6 T7 1 56 None))
    (program (codes "p" ∷ codes "i" ∷ codes "a" ∷ codes "z" ∷ []) ((unit u.Program (name 0 1 9) ((declares (declaration (Integer Four) [] ((entity (name 1 1
    23) None None) ∷ (entity (name 2 1 26) (Some (explicit ((bounds None (four (at 1 28) 3)) ∷ []))) None) ∷ []))) ∷ []) (statements (associates (at 1 32)
    ((association (name 3 1 43) (designator (parts (name 2 1 48) bare no_parts))) ∷ []) (statements (acts (at 1 52) (assign (parts (name 1 1 52) bare
    no_parts) (designator (parts (name 3 1 56) bare no_parts)))) no_statements)) no_statements) []) ∷ [])) (looks (((1, One 0) ∷ (2, One 1) ∷ []) ∷ ((
      1,
      One 0,
    ) ∷ (2, One 1) ∷ (3, One 2) ∷ []) ∷ [])) (0 ∷ [])

--     program p; integer :: a(3); associate (z => a); if (z == 1) print *, 1; end associate; end
-- 1:53: T7
abbrev pub t7_28 : Type 0
t7_28 = Finds (Some (broken 6 T7 1 53 None))
    (program (codes "p" ∷ codes "a" ∷ codes "z" ∷ codes "print" ∷ []) ((unit u.Program (name 0 1 9) ((declares (declaration (Integer Four) [] ((entity (name 1
    1 23) (Some (explicit ((bounds None (four (at 1 25) 3)) ∷ []))) None) ∷ []))) ∷ []) (statements (associates (at 1 29) ((association (name 2 1 40)
    (designator (parts (name 1 1 45) bare no_parts))) ∷ []) (statements (acts_if (at 1 49) (comparison (designator (parts (name 2 1 53) bare no_parts))
    r.Equal (four (at 1 58) 1)) (at 1 61) (print ((four (at 1 70) 1) ∷ []))) no_statements)) no_statements) []) ∷ [])) (looks (((1, One 0) ∷ []) ∷ ((
      1,
      One 0,
    ) ∷ (2, One 1) ∷ []) ∷ [])) (0 ∷ [])

--     program p; integer :: a(2); associate (size => 3); print *, size(a); end associate; end
-- 1:66: T7
abbrev pub t7_29 : Type 0
t7_29 = Finds (Some (broken 6 T7 1 66 None))
    (program (codes "p" ∷ codes "a" ∷ codes "size" ∷ codes "print" ∷ []) ((unit u.Program (name 0 1 9) ((declares (declaration (Integer Four) [] ((entity
    (name 1 1 23) (Some (explicit ((bounds None (four (at 1 25) 2)) ∷ []))) None) ∷ []))) ∷ []) (statements (associates (at 1 29) ((association (name 2 1
    40) (four (at 1 48) 3)) ∷ []) (statements (acts (at 1 52) (print ((designator (parts (name 2 1 61) (within (arguments (value None (designator (parts
    (name 1 1 66) bare no_parts))) no_arguments)) no_parts)) ∷ []))) no_statements)) no_statements) []) ∷ [])) (looks (((1, One 0) ∷ []) ∷ ((1, One 0) ∷
    (2, One 1) ∷ []) ∷ [])) (0 ∷ [])

--     program p; integer :: a(2), b(2, 2); associate (y => a, z => b); y = z; end associate; end
-- 1:70: T7
abbrev pub t7_30 : Type 0
t7_30 = Finds (Some (broken 6 T7 1 70 None))
    (program (codes "p" ∷ codes "a" ∷ codes "b" ∷ codes "y" ∷ codes "z" ∷ []) ((unit u.Program (name 0 1 9) ((declares (declaration (Integer Four) [] ((entity
    (name 1 1 23) (Some (explicit ((bounds None (four (at 1 25) 2)) ∷ []))) None) ∷ (entity (name 2 1 29) (Some (explicit ((bounds None (four (at 1 31)
    2)) ∷ (bounds None (four (at 1 34) 2)) ∷ []))) None) ∷ []))) ∷ []) (statements (associates (at 1 38) ((association (name 3 1 49) (designator (parts
    (name 1 1 54) bare no_parts))) ∷ (association (name 4 1 57) (designator (parts (name 2 1 62) bare no_parts))) ∷ []) (statements (acts (at 1 66)
    (assign (parts (name 3 1 66) bare no_parts) (designator (parts (name 4 1 70) bare no_parts)))) no_statements)) no_statements) []) ∷ [])) (looks (((
      1,
      One 0,
    ) ∷ (2, One 1) ∷ []) ∷ ((1, One 0) ∷ (2, One 1) ∷ (3, One 2) ∷ (4, One 3) ∷ []) ∷ [])) (0 ∷ [])

--     module m; type t; integer :: i(2); end type; type u; type(t) :: i(2); end type; end
--     program p; use m; type(u) :: x; associate (z => x%i); print *, z%i; end associate; end
-- 2:64: T7
abbrev pub t7_31 : Type 0
t7_31 = Finds (Some (broken 6 T7 2 64 None))
    (program (codes "m" ∷ codes "t" ∷ codes "i" ∷ codes "u" ∷ codes "p" ∷ codes "x" ∷ codes "z" ∷ codes "print" ∷ []) ((unit u.Module (name 0 1 8)
    ((type_definition (name 1 1 16) false ((declaration (Integer Four) [] ((entity (name 2 1 30) (Some (explicit ((bounds None (four (at 1 32) 2)) ∷ [])))
    None) ∷ [])) ∷ []) []) ∷ (type_definition (name 3 1 51) false ((declaration (Derived (name 1 1 59)) [] ((entity (name 2 1 65) (Some (explicit ((bounds
    None (four (at 1 67) 2)) ∷ []))) None) ∷ [])) ∷ []) []) ∷ []) no_statements []) ∷ (unit u.Program (name 4 2 9) ((declares (declaration (Derived (name
    3 2 24)) [] ((entity (name 5 2 30) None None) ∷ []))) ∷ []) (statements (associates (at 2 33) ((association (name 6 2 44) (designator (parts (name 5 2
    49) bare (parts (name 2 2 51) bare no_parts)))) ∷ []) (statements (acts (at 2 55) (print ((designator (parts (name 6 2 64) bare (parts (name 2 2 66)
    bare no_parts))) ∷ []))) no_statements)) no_statements) []) ∷ [])) (looks (((1, One 0) ∷ (3, One 1) ∷ []) ∷ ((1, One 0) ∷ (3, One 1) ∷ (5, One 2) ∷
    []) ∷ ((1, One 0) ∷ (3, One 1) ∷ (5, One 2) ∷ (6, One 3) ∷ []) ∷ [])) (0 ∷ 1 ∷ [])

--     module m; type t; integer, allocatable :: i; end type; end
--     program p; use m; type(t) :: x(2); associate (z => x%i); print *, 1; end associate; end
-- 2:52: T7
abbrev pub t7_32 : Type 0
t7_32 = Finds (Some (broken 6 T7 2 52 None))
    (program (codes "m" ∷ codes "t" ∷ codes "i" ∷ codes "p" ∷ codes "x" ∷ codes "z" ∷ codes "print" ∷ []) ((unit u.Module (name 0 1 8) ((type_definition (name
    1 1 16) false ((declaration (Integer Four) (allocatable ∷ []) ((entity (name 2 1 43) None None) ∷ [])) ∷ []) []) ∷ []) no_statements []) ∷ (unit
    u.Program (name 3 2 9) ((declares (declaration (Derived (name 1 2 24)) [] ((entity (name 4 2 30) (Some (explicit ((bounds None (four (at 2 32) 2)) ∷
    []))) None) ∷ []))) ∷ []) (statements (associates (at 2 36) ((association (name 5 2 47) (designator (parts (name 4 2 52) bare (parts (name 2 2 54)
    bare no_parts)))) ∷ []) (statements (acts (at 2 58) (print ((four (at 2 67) 1) ∷ []))) no_statements)) no_statements) []) ∷ [])) (looks (((1, One 0) ∷
    []) ∷ ((1, One 0) ∷ (4, One 1) ∷ []) ∷ ((1, One 0) ∷ (4, One 1) ∷ (5, One 2) ∷ []) ∷ [])) (0 ∷ 1 ∷ [])

--     program p; integer(8) :: i; integer :: a(2); i = a; end
-- 1:50: T7
abbrev pub t7_33 : Type 0
t7_33 = Finds (Some (broken 6 T7 1 50 None))
    (program (codes "p" ∷ codes "i" ∷ codes "a" ∷ []) ((unit u.Program (name 0 1 9) ((declares (declaration (Integer Eight) [] ((entity (name 1 1 26) None
    None) ∷ []))) ∷ (declares (declaration (Integer Four) [] ((entity (name 2 1 40) (Some (explicit ((bounds None (four (at 1 42) 2)) ∷ []))) None) ∷
    []))) ∷ []) (statements (acts (at 1 46) (assign (parts (name 1 1 46) bare no_parts) (designator (parts (name 2 1 50) bare no_parts)))) no_statements)
    []) ∷ [])) (looks (((1, One 0) ∷ (2, One 1) ∷ []) ∷ [])) (0 ∷ [])

abbrev pub T7BShow : Type 0
T7BShow = t7_17 × t7_18 × t7_19 × t7_20 × t7_21 × t7_22 × t7_23 × t7_24 × t7_25 × t7_26 × t7_27 × t7_28 × t7_29 × t7_30 × t7_31 × t7_32 × t7_33
