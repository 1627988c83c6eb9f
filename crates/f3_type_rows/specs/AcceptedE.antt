-- Programs, each in the text above it, that nothing refuses.
use Rattle.std.specs.Prelude.{false, [], ◌∷◌, None, Some, codes}
use Rattle.f3_lookups.specs.declared.lookup.Lookup.TheVariants.{One}
use Rattle.f3_tree.specs.declared.expression.Sign.TheVariants.{Minus}
use Rattle.f3_tree.specs.declared.expression.Relation.TheVariants as r
use Rattle.f3_tree.specs.declared.expression.Operator.TheVariants as o
use Rattle.f3_tree.specs.declared.expression.IntegerKind.TheVariants.{Four, Eight}
use Rattle.f3_tree.specs.declared.declaration.Intent.TheVariants.{In, InOut}
use Rattle.f3_tree.specs.declared.declaration.TypeSpecifier.TheVariants.{Integer, Logical, Derived}
use Rattle.f3_tree.specs.declared.program.ProcedureKind.TheVariants.{Subroutine}
use Rattle.f3_tree.specs.declared.program.UnitKind.TheVariants as u
use Rattle.f3_tree.specs.Expressions.{text, designator, group, array, signed, comparison, chain, no_more, more, no_trees, trees, no_parts, parts}
use Rattle.f3_tree.specs.Expressions.{bare, within, no_arguments, arguments, value, triplet, absent, present}
use Rattle.f3_tree.specs.Declarations.{explicit, deferred, protected, parameter, allocatable, intent, declares}
use Rattle.f3_tree.specs.Statements.{assign, call, allocate, deallocate, print, stop, return, cycle, exit}
use Rattle.f3_tree.specs.Statements.{counted, acts, acts_if, repeats, associates, no_statements, statements}
use Rattle.f3_type_rows.specs.Build.{Finds, at, name, four, eight, bounds, entity, declaration, type_definition, procedure, unit, association, program, looks}

--     module m; type t; integer :: b; integer :: a(2); end type; end
--     program p; use m; type(t) :: x
--     x = t(a=[1, 2, 3], b=3000000000_8)
--     end
-- accepted
abbrev pub accepted_101 : Type 0
accepted_101 = Finds None
    (program (codes "m" ∷ codes "t" ∷ codes "b" ∷ codes "a" ∷ codes "p" ∷ codes "x" ∷ []) ((unit u.Module (name 0 1 8) ((type_definition (name 1 1 16) false
    ((declaration (Integer Four) [] ((entity (name 2 1 30) None None) ∷ [])) ∷ (declaration (Integer Four) [] ((entity (name 3 1 44) (Some (explicit
    ((bounds None (four (at 1 46) 2)) ∷ []))) None) ∷ [])) ∷ []) []) ∷ []) no_statements []) ∷ (unit u.Program (name 4 2 9) ((declares (declaration
    (Derived (name 1 2 24)) [] ((entity (name 5 2 30) None None) ∷ []))) ∷ []) (statements (acts (at 3 1) (assign (parts (name 5 3 1) bare no_parts)
    (designator (parts (name 1 3 5) (within (arguments (value (Some (name 3 3 7)) (array (at 3 9) (trees (four (at 3 10) 1) (trees (four (at 3 13) 2)
    (trees (four (at 3 16) 3) no_trees))))) (arguments (value (Some (name 2 3 20)) (eight (at 3 22) 3000000000)) no_arguments))) no_parts))))
    no_statements) []) ∷ [])) (looks (((1, One 0) ∷ []) ∷ ((1, One 0) ∷ (5, One 1) ∷ []) ∷ [])) (0 ∷ 1 ∷ [])

--     program p; integer, allocatable :: a(:)
--     allocate(a(3:4)); associate (z => a, y => a(4:3:-1)); z = [1, 2]; y = z; print *, z, lbound(z, 1), lbound(y, 1); z = [1, 2, 3]; end associate
--     end
-- accepted
abbrev pub accepted_102 : Type 0
accepted_102 = Finds None
    (program (codes "p" ∷ codes "a" ∷ codes "allocate" ∷ codes "z" ∷ codes "y" ∷ codes "print" ∷ codes "lbound" ∷ []) ((unit u.Program (name 0 1 9) ((declares
    (declaration (Integer Four) (allocatable ∷ []) ((entity (name 1 1 36) (Some (deferred (None ∷ []))) None) ∷ []))) ∷ []) (statements (acts (at 2 1)
    (allocate ((parts (name 1 2 10) (within (arguments (triplet (at 2 12) (present (four (at 2 12) 3)) (present (four (at 2 14) 4)) absent) no_arguments))
    no_parts) ∷ []) None)) (statements (associates (at 2 19) ((association (name 3 2 30) (designator (parts (name 1 2 35) bare no_parts))) ∷ (association
    (name 4 2 38) (designator (parts (name 1 2 43) (within (arguments (triplet (at 2 45) (present (four (at 2 45) 4)) (present (four (at 2 47) 3))
    (present (signed (at 2 49) Minus (four (at 2 50) 1)))) no_arguments)) no_parts))) ∷ []) (statements (acts (at 2 55) (assign (parts (name 3 2 55) bare
    no_parts) (array (at 2 59) (trees (four (at 2 60) 1) (trees (four (at 2 63) 2) no_trees))))) (statements (acts (at 2 67) (assign (parts (name 4 2 67)
    bare no_parts) (designator (parts (name 3 2 71) bare no_parts)))) (statements (acts (at 2 74) (print ((designator (parts (name 3 2 83) bare no_parts))
    ∷ (designator (parts (name 6 2 86) (within (arguments (value None (designator (parts (name 3 2 93) bare no_parts))) (arguments (value None (four (at 2
    96) 1)) no_arguments))) no_parts)) ∷ (designator (parts (name 6 2 100) (within (arguments (value None (designator (parts (name 4 2 107) bare
    no_parts))) (arguments (value None (four (at 2 110) 1)) no_arguments))) no_parts)) ∷ []))) (statements (acts (at 2 114) (assign (parts (name 3 2 114)
    bare no_parts) (array (at 2 118) (trees (four (at 2 119) 1) (trees (four (at 2 122) 2) (trees (four (at 2 125) 3) no_trees)))))) no_statements)))))
    no_statements)) []) ∷ [])) (looks (((1, One 0) ∷ []) ∷ ((1, One 0) ∷ (3, One 1) ∷ (4, One 2) ∷ []) ∷ [])) (0 ∷ [])

--     module m; type t; integer :: k = 1; contains; final :: f; end type; integer, allocatable :: g(:); contains
--     subroutine f(x); type(t), intent(inout) :: x; integer :: st; deallocate(g, stat=st); print *, 'f', st; end
--     subroutine s(); type(t) :: l; associate (z => g); return; end associate; end
--     end
--     program p; use m; allocate(g(2)); call s(); print *, allocated(g); end
-- accepted
abbrev pub accepted_103 : Type 0
accepted_103 = Finds None
    (program (codes "m" ∷ codes "t" ∷ codes "k" ∷ codes "f" ∷ codes "g" ∷ codes "x" ∷ codes "st" ∷ codes "stat" ∷ codes "deallocate" ∷ codes "print" ∷ codes
    "s" ∷ codes "l" ∷ codes "z" ∷ codes "return" ∷ codes "p" ∷ codes "allocate" ∷ codes "call" ∷ codes "allocated" ∷ []) ((unit u.Module (name 0 1 8)
    ((type_definition (name 1 1 16) false ((declaration (Integer Four) [] ((entity (name 2 1 30) None (Some (four (at 1 34) 1))) ∷ [])) ∷ []) ((name 3 1
    56) ∷ [])) ∷ (declares (declaration (Integer Four) (allocatable ∷ []) ((entity (name 4 1 93) (Some (deferred (None ∷ []))) None) ∷ []))) ∷ [])
    no_statements ((procedure false Subroutine (name 3 2 12) ((name 5 2 14) ∷ []) ((declares (declaration (Derived (name 1 2 23)) ((intent InOut) ∷ [])
    ((entity (name 5 2 44) None None) ∷ []))) ∷ (declares (declaration (Integer Four) [] ((entity (name 6 2 58) None None) ∷ []))) ∷ []) (statements (acts
    (at 2 62) (deallocate ((parts (name 4 2 73) bare no_parts) ∷ []) (Some (parts (name 6 2 81) bare no_parts)))) (statements (acts (at 2 86) (print
    ((text (at 2 95) 0) ∷ (designator (parts (name 6 2 100) bare no_parts)) ∷ []))) no_statements))) ∷ (procedure false Subroutine (name 10 3 12) []
    ((declares (declaration (Derived (name 1 3 22)) [] ((entity (name 11 3 28) None None) ∷ []))) ∷ []) (statements (associates (at 3 31) ((association
    (name 12 3 42) (designator (parts (name 4 3 47) bare no_parts))) ∷ []) (statements (acts (at 3 51) return) no_statements)) no_statements)) ∷ [])) ∷
    (unit u.Program (name 14 5 9) [] (statements (acts (at 5 19) (allocate ((parts (name 4 5 28) (within (arguments (value None (four (at 5 30) 2))
    no_arguments)) no_parts) ∷ []) None)) (statements (acts (at 5 35) (call (name 10 5 40) [])) (statements (acts (at 5 45) (print ((designator (parts
    (name 17 5 54) (within (arguments (value None (designator (parts (name 4 5 64) bare no_parts))) no_arguments)) no_parts)) ∷ []))) no_statements))) [])
    ∷ [])) (looks (((1, One 0) ∷ (3, One 2) ∷ (4, One 1) ∷ (10, One 3) ∷ []) ∷ ((1, One 0) ∷ (3, One 2) ∷ (4, One 1) ∷ (5, One 4) ∷ (6, One 5) ∷ (
      10,
      One
          3,
    ) ∷ []) ∷ ((1, One 0) ∷ (3, One 2) ∷ (4, One 1) ∷ (10, One 3) ∷ (11, One 6) ∷ []) ∷ ((1, One 0) ∷ (3, One 2) ∷ (4, One 1) ∷ (10, One 3) ∷ (11, One 6)
    ∷ (12, One 7) ∷ []) ∷ ((1, One 0) ∷ (3, One 2) ∷ (4, One 1) ∷ (10, One 3) ∷ []) ∷ [])) (0 ∷ 1 ∷ [])

--     program p; integer, allocatable :: a(:); integer :: i; allocate(a(2)); a = 0
--     do i = 1, 4; associate (x => a); associate (y => x(1)); y = y + i; if (i == 2) cycle; if (i == 3) exit; end associate; print *, x; end
--         associate; end do
--     deallocate(a); print *, i, allocated(a)
--     end
-- accepted
abbrev pub accepted_104 : Type 0
accepted_104 = Finds None
    (program (codes "p" ∷ codes "a" ∷ codes "i" ∷ codes "allocate" ∷ codes "x" ∷ codes "y" ∷ codes "cycle" ∷ codes "exit" ∷ codes "print" ∷ codes "deallocate"
    ∷ codes "allocated" ∷ []) ((unit u.Program (name 0 1 9) ((declares (declaration (Integer Four) (allocatable ∷ []) ((entity (name 1 1 36) (Some
    (deferred (None ∷ []))) None) ∷ []))) ∷ (declares (declaration (Integer Four) [] ((entity (name 2 1 53) None None) ∷ []))) ∷ []) (statements (acts (at
    1 56) (allocate ((parts (name 1 1 65) (within (arguments (value None (four (at 1 67) 2)) no_arguments)) no_parts) ∷ []) None)) (statements (acts (at 1
    72) (assign (parts (name 1 1 72) bare no_parts) (four (at 1 76) 0))) (statements (repeats (at 2 1) (counted (name 2 2 4) (four (at 2 8) 1) (four (at 2
    11) 4) None) (statements (associates (at 2 14) ((association (name 4 2 25) (designator (parts (name 1 2 30) bare no_parts))) ∷ []) (statements
    (associates (at 2 34) ((association (name 5 2 45) (designator (parts (name 4 2 50) (within (arguments (value None (four (at 2 52) 1)) no_arguments))
    no_parts))) ∷ []) (statements (acts (at 2 57) (assign (parts (name 5 2 57) bare no_parts) (chain (designator (parts (name 5 2 61) bare no_parts))
    (more o.Add (designator (parts (name 2 2 65) bare no_parts)) no_more)))) (statements (acts_if (at 2 68) (comparison (designator (parts (name 2 2 72)
    bare no_parts)) r.Equal (four (at 2 77) 2)) (at 2 80) cycle) (statements (acts_if (at 2 87) (comparison (designator (parts (name 2 2 91) bare
    no_parts)) r.Equal (four (at 2 96) 3)) (at 2 99) exit) no_statements)))) (statements (acts (at 2 120) (print ((designator (parts (name 4 2 129) bare
    no_parts)) ∷ []))) no_statements))) no_statements)) (statements (acts (at 3 1) (deallocate ((parts (name 1 3 12) bare no_parts) ∷ []) None))
    (statements (acts (at 3 16) (print ((designator (parts (name 2 3 25) bare no_parts)) ∷ (designator (parts (name 10 3 28) (within (arguments (value
    None (designator (parts (name 1 3 38) bare no_parts))) no_arguments)) no_parts)) ∷ []))) no_statements))))) []) ∷ [])) (looks (((1, One 0) ∷ (
      2,
      One
          1,
    ) ∷ []) ∷ ((1, One 0) ∷ (2, One 1) ∷ (4, One 2) ∷ []) ∷ ((1, One 0) ∷ (2, One 1) ∷ (4, One 2) ∷ (5, One 3) ∷ []) ∷ [])) (0 ∷ [])

--     program p; integer(8) :: k; integer :: i; integer(8), allocatable :: v(:)
--     k = 2147483647; i = 5; print *, k + i, i + 2147483647_8, i ** 2_8, 2 ** 40_8, k * k, i < k, mod(k, 7_8), abs(-k)
--     v = [1, 2]; print *, v; v(1) = 4000000000_8; print *, v, size(v); i = v(2); print *, i; i = v(1)
--     end
-- accepted
abbrev pub accepted_105 : Type 0
accepted_105 = Finds None
    (program (codes "p" ∷ codes "k" ∷ codes "i" ∷ codes "v" ∷ codes "print" ∷ codes "mod" ∷ codes "abs" ∷ codes "size" ∷ []) ((unit u.Program (name 0 1 9)
    ((declares (declaration (Integer Eight) [] ((entity (name 1 1 26) None None) ∷ []))) ∷ (declares (declaration (Integer Four) [] ((entity (name 2 1 40)
    None None) ∷ []))) ∷ (declares (declaration (Integer Eight) (allocatable ∷ []) ((entity (name 3 1 70) (Some (deferred (None ∷ []))) None) ∷ []))) ∷
    []) (statements (acts (at 2 1) (assign (parts (name 1 2 1) bare no_parts) (four (at 2 5) 2147483647))) (statements (acts (at 2 17) (assign (parts
    (name 2 2 17) bare no_parts) (four (at 2 21) 5))) (statements (acts (at 2 24) (print ((chain (designator (parts (name 1 2 33) bare no_parts)) (more
    o.Add (designator (parts (name 2 2 37) bare no_parts)) no_more)) ∷ (chain (designator (parts (name 2 2 40) bare no_parts)) (more o.Add (eight (at 2
    44) 2147483647) no_more)) ∷ (chain (designator (parts (name 2 2 58) bare no_parts)) (more o.Power (eight (at 2 63) 2) no_more)) ∷ (chain (four (at 2
    68) 2) (more o.Power (eight (at 2 73) 40) no_more)) ∷ (chain (designator (parts (name 1 2 79) bare no_parts)) (more o.Multiply (designator (parts
    (name 1 2 83) bare no_parts)) no_more)) ∷ (comparison (designator (parts (name 2 2 86) bare no_parts)) r.Less (designator (parts (name 1 2 90) bare
    no_parts))) ∷ (designator (parts (name 5 2 93) (within (arguments (value None (designator (parts (name 1 2 97) bare no_parts))) (arguments (value None
    (eight (at 2 100) 7)) no_arguments))) no_parts)) ∷ (designator (parts (name 6 2 106) (within (arguments (value None (signed (at 2 110) Minus
    (designator (parts (name 1 2 111) bare no_parts)))) no_arguments)) no_parts)) ∷ []))) (statements (acts (at 3 1) (assign (parts (name 3 3 1) bare
    no_parts) (array (at 3 5) (trees (four (at 3 6) 1) (trees (four (at 3 9) 2) no_trees))))) (statements (acts (at 3 13) (print ((designator (parts (name
    3 3 22) bare no_parts)) ∷ []))) (statements (acts (at 3 25) (assign (parts (name 3 3 25) (within (arguments (value None (four (at 3 27) 1))
    no_arguments)) no_parts) (eight (at 3 32) 4000000000))) (statements (acts (at 3 46) (print ((designator (parts (name 3 3 55) bare no_parts)) ∷
    (designator (parts (name 7 3 58) (within (arguments (value None (designator (parts (name 3 3 63) bare no_parts))) no_arguments)) no_parts)) ∷ [])))
    (statements (acts (at 3 67) (assign (parts (name 2 3 67) bare no_parts) (designator (parts (name 3 3 71) (within (arguments (value None (four (at 3
    73) 2)) no_arguments)) no_parts)))) (statements (acts (at 3 77) (print ((designator (parts (name 2 3 86) bare no_parts)) ∷ []))) (statements (acts (at
    3 89) (assign (parts (name 2 3 89) bare no_parts) (designator (parts (name 3 3 93) (within (arguments (value None (four (at 3 95) 1)) no_arguments))
    no_parts)))) no_statements)))))))))) []) ∷ [])) (looks (((1, One 0) ∷ (2, One 1) ∷ (3, One 2) ∷ []) ∷ [])) (0 ∷ [])

--     program p; integer(8) :: k; integer :: i; i = 2147483647
--     k = i + 1_8; print *, k; k = i + 1
--     end
-- accepted
abbrev pub accepted_106 : Type 0
accepted_106 = Finds None
    (program (codes "p" ∷ codes "k" ∷ codes "i" ∷ codes "print" ∷ []) ((unit u.Program (name 0 1 9) ((declares (declaration (Integer Eight) [] ((entity (name
    1 1 26) None None) ∷ []))) ∷ (declares (declaration (Integer Four) [] ((entity (name 2 1 40) None None) ∷ []))) ∷ []) (statements (acts (at 1 43)
    (assign (parts (name 2 1 43) bare no_parts) (four (at 1 47) 2147483647))) (statements (acts (at 2 1) (assign (parts (name 1 2 1) bare no_parts) (chain
    (designator (parts (name 2 2 5) bare no_parts)) (more o.Add (eight (at 2 9) 1) no_more)))) (statements (acts (at 2 14) (print ((designator (parts
    (name 1 2 23) bare no_parts)) ∷ []))) (statements (acts (at 2 26) (assign (parts (name 1 2 26) bare no_parts) (chain (designator (parts (name 2 2 30)
    bare no_parts)) (more o.Add (four (at 2 34) 1) no_more)))) no_statements)))) []) ∷ [])) (looks (((1, One 0) ∷ (2, One 1) ∷ []) ∷ [])) (0 ∷ [])

--     program p; integer(8) :: i; integer :: j
--     do i = -9223372036854775807_8 - 1, 9223372036854775807_8; print *, i; exit; end do
--     do j = 1, 3000000000_8; print *, j; end do
--     end
-- accepted
abbrev pub accepted_107 : Type 0
accepted_107 = Finds None
    (program (codes "p" ∷ codes "i" ∷ codes "j" ∷ codes "print" ∷ codes "exit" ∷ []) ((unit u.Program (name 0 1 9) ((declares (declaration (Integer Eight) []
    ((entity (name 1 1 26) None None) ∷ []))) ∷ (declares (declaration (Integer Four) [] ((entity (name 2 1 40) None None) ∷ []))) ∷ []) (statements
    (repeats (at 2 1) (counted (name 1 2 4) (chain (signed (at 2 8) Minus (eight (at 2 9) 9223372036854775807)) (more o.Subtract (four (at 2 33) 1)
    no_more)) (eight (at 2 36) 9223372036854775807) None) (statements (acts (at 2 59) (print ((designator (parts (name 1 2 68) bare no_parts)) ∷ [])))
    (statements (acts (at 2 71) exit) no_statements))) (statements (repeats (at 3 1) (counted (name 2 3 4) (four (at 3 8) 1) (eight (at 3 11) 3000000000)
    None) (statements (acts (at 3 25) (print ((designator (parts (name 2 3 34) bare no_parts)) ∷ []))) no_statements)) no_statements)) []) ∷ [])) (looks
    (((1, One 0) ∷ (2, One 1) ∷ []) ∷ [])) (0 ∷ [])

--     program p; integer, allocatable :: k(:); integer :: s
--     allocate(k(-9223372036854775807_8:9223372036854775807_8), stat=s); print *, s
--     allocate(k(4000000000_8:4000000001_8)); k = 4; print *, size(k), k(4000000001_8)
--     print *, lbound(k, 1)
--     end
-- accepted
abbrev pub accepted_108 : Type 0
accepted_108 = Finds None
    (program (codes "p" ∷ codes "k" ∷ codes "s" ∷ codes "stat" ∷ codes "allocate" ∷ codes "print" ∷ codes "size" ∷ codes "lbound" ∷ []) ((unit u.Program (name
    0 1 9) ((declares (declaration (Integer Four) (allocatable ∷ []) ((entity (name 1 1 36) (Some (deferred (None ∷ []))) None) ∷ []))) ∷ (declares
    (declaration (Integer Four) [] ((entity (name 2 1 53) None None) ∷ []))) ∷ []) (statements (acts (at 2 1) (allocate ((parts (name 1 2 10) (within
    (arguments (triplet (at 2 12) (present (signed (at 2 12) Minus (eight (at 2 13) 9223372036854775807))) (present (eight (at 2 35) 9223372036854775807))
    absent) no_arguments)) no_parts) ∷ []) (Some (parts (name 2 2 64) bare no_parts)))) (statements (acts (at 2 68) (print ((designator (parts (name 2 2
    77) bare no_parts)) ∷ []))) (statements (acts (at 3 1) (allocate ((parts (name 1 3 10) (within (arguments (triplet (at 3 12) (present (eight (at 3 12)
    4000000000)) (present (eight (at 3 25) 4000000001)) absent) no_arguments)) no_parts) ∷ []) None)) (statements (acts (at 3 41) (assign (parts (name 1 3
    41) bare no_parts) (four (at 3 45) 4))) (statements (acts (at 3 48) (print ((designator (parts (name 6 3 57) (within (arguments (value None
    (designator (parts (name 1 3 62) bare no_parts))) no_arguments)) no_parts)) ∷ (designator (parts (name 1 3 66) (within (arguments (value None (eight
    (at 3 68) 4000000001)) no_arguments)) no_parts)) ∷ []))) (statements (acts (at 4 1) (print ((designator (parts (name 7 4 10) (within (arguments (value
    None (designator (parts (name 1 4 17) bare no_parts))) (arguments (value None (four (at 4 20) 1)) no_arguments))) no_parts)) ∷ [])))
    no_statements)))))) []) ∷ [])) (looks (((1, One 0) ∷ (2, One 1) ∷ []) ∷ [])) (0 ∷ [])

--     module m; type t; integer :: k = 0; integer, allocatable :: v(:); contains; final :: f; end type; contains
--     subroutine f(x); type(t), intent(inout) :: x; print *, 'f', x%k; end
--     subroutine s(x, y); type(t), intent(in) :: x, y(:); print *, x%k, x%v, y%k; end
--     end
--     program p; use m; type(t) :: a, b(2); a%k = 1; allocate(a%v(2:3)); a%v = 5; b(2)%k = 4; call s((a), (b)); associate (z => (a)); print *,
--         lbound(z%v, 1); end associate; print *, 'e'; end
-- accepted
abbrev pub accepted_109 : Type 0
accepted_109 = Finds None
    (program (codes "m" ∷ codes "t" ∷ codes "k" ∷ codes "v" ∷ codes "f" ∷ codes "x" ∷ codes "print" ∷ codes "s" ∷ codes "y" ∷ codes "p" ∷ codes "a" ∷ codes
    "b" ∷ codes "allocate" ∷ codes "call" ∷ codes "z" ∷ codes "lbound" ∷ []) ((unit u.Module (name 0 1 8) ((type_definition (name 1 1 16) false
    ((declaration (Integer Four) [] ((entity (name 2 1 30) None (Some (four (at 1 34) 0))) ∷ [])) ∷ (declaration (Integer Four) (allocatable ∷ [])
    ((entity (name 3 1 61) (Some (deferred (None ∷ []))) None) ∷ [])) ∷ []) ((name 4 1 86) ∷ [])) ∷ []) no_statements ((procedure false Subroutine (name 4
    2 12) ((name 5 2 14) ∷ []) ((declares (declaration (Derived (name 1 2 23)) ((intent InOut) ∷ []) ((entity (name 5 2 44) None None) ∷ []))) ∷ [])
    (statements (acts (at 2 47) (print ((text (at 2 56) 0) ∷ (designator (parts (name 5 2 61) bare (parts (name 2 2 63) bare no_parts))) ∷ [])))
    no_statements)) ∷ (procedure false Subroutine (name 7 3 12) ((name 5 3 14) ∷ (name 8 3 17) ∷ []) ((declares (declaration (Derived (name 1 3 26))
    ((intent In) ∷ []) ((entity (name 5 3 44) None None) ∷ (entity (name 8 3 47) (Some (deferred (None ∷ []))) None) ∷ []))) ∷ []) (statements (acts (at 3
    53) (print ((designator (parts (name 5 3 62) bare (parts (name 2 3 64) bare no_parts))) ∷ (designator (parts (name 5 3 67) bare (parts (name 3 3 69)
    bare no_parts))) ∷ (designator (parts (name 8 3 72) bare (parts (name 2 3 74) bare no_parts))) ∷ []))) no_statements)) ∷ [])) ∷ (unit u.Program (name
    9 5 9) ((declares (declaration (Derived (name 1 5 24)) [] ((entity (name 10 5 30) None None) ∷ (entity (name 11 5 33) (Some (explicit ((bounds None
    (four (at 5 35) 2)) ∷ []))) None) ∷ []))) ∷ []) (statements (acts (at 5 39) (assign (parts (name 10 5 39) bare (parts (name 2 5 41) bare no_parts))
    (four (at 5 45) 1))) (statements (acts (at 5 48) (allocate ((parts (name 10 5 57) bare (parts (name 3 5 59) (within (arguments (triplet (at 5 61)
    (present (four (at 5 61) 2)) (present (four (at 5 63) 3)) absent) no_arguments)) no_parts)) ∷ []) None)) (statements (acts (at 5 68) (assign (parts
    (name 10 5 68) bare (parts (name 3 5 70) bare no_parts)) (four (at 5 74) 5))) (statements (acts (at 5 77) (assign (parts (name 11 5 77) (within
    (arguments (value None (four (at 5 79) 2)) no_arguments)) (parts (name 2 5 82) bare no_parts)) (four (at 5 86) 4))) (statements (acts (at 5 89) (call
    (name 7 5 94) ((value None (group (at 5 96) (designator (parts (name 10 5 97) bare no_parts)))) ∷ (value None (group (at 5 101) (designator (parts
    (name 11 5 102) bare no_parts)))) ∷ []))) (statements (associates (at 5 107) ((association (name 14 5 118) (group (at 5 123) (designator (parts (name
    10 5 124) bare no_parts)))) ∷ []) (statements (acts (at 5 129) (print ((designator (parts (name 15 5 138) (within (arguments (value None (designator
    (parts (name 14 5 145) bare (parts (name 3 5 147) bare no_parts)))) (arguments (value None (four (at 5 150) 1)) no_arguments))) no_parts)) ∷ [])))
    no_statements)) (statements (acts (at 5 169) (print ((text (at 5 178) 0) ∷ []))) no_statements))))))) []) ∷ [])) (looks (((1, One 0) ∷ (4, One 1) ∷
    (7, One 2) ∷ []) ∷ ((1, One 0) ∷ (4, One 1) ∷ (5, One 3) ∷ (7, One 2) ∷ []) ∷ ((1, One 0) ∷ (4, One 1) ∷ (5, One 4) ∷ (7, One 2) ∷ (8, One 5) ∷ []) ∷
    ((1, One 0) ∷ (4, One 1) ∷ (7, One 2) ∷ (10, One 6) ∷ (11, One 7) ∷ []) ∷ ((1, One 0) ∷ (4, One 1) ∷ (7, One 2) ∷ (10, One 6) ∷ (11, One 7) ∷ (
      14,
      One
          8,
    ) ∷ []) ∷ [])) (0 ∷ 1 ∷ [])

--     module m; type t; integer :: k = 0; contains; final :: f; end type; contains
--     subroutine f(x); type(t), intent(inout) :: x; print *, 'f', x%k; end
--     subroutine s(); type(t) :: x; integer, allocatable :: v(:); associate (y => x%k); stop 7; end associate; end
--     end
--     program p; use m; type(t) :: q; call s(); end
-- accepted
abbrev pub accepted_110 : Type 0
accepted_110 = Finds None
    (program (codes "m" ∷ codes "t" ∷ codes "k" ∷ codes "f" ∷ codes "x" ∷ codes "print" ∷ codes "s" ∷ codes "v" ∷ codes "y" ∷ codes "stop" ∷ codes "p" ∷ codes
    "q" ∷ codes "call" ∷ []) ((unit u.Module (name 0 1 8) ((type_definition (name 1 1 16) false ((declaration (Integer Four) [] ((entity (name 2 1 30)
    None (Some (four (at 1 34) 0))) ∷ [])) ∷ []) ((name 3 1 56) ∷ [])) ∷ []) no_statements ((procedure false Subroutine (name 3 2 12) ((name 4 2 14) ∷ [])
    ((declares (declaration (Derived (name 1 2 23)) ((intent InOut) ∷ []) ((entity (name 4 2 44) None None) ∷ []))) ∷ []) (statements (acts (at 2 47)
    (print ((text (at 2 56) 0) ∷ (designator (parts (name 4 2 61) bare (parts (name 2 2 63) bare no_parts))) ∷ []))) no_statements)) ∷ (procedure false
    Subroutine (name 6 3 12) [] ((declares (declaration (Derived (name 1 3 22)) [] ((entity (name 4 3 28) None None) ∷ []))) ∷ (declares (declaration
    (Integer Four) (allocatable ∷ []) ((entity (name 7 3 55) (Some (deferred (None ∷ []))) None) ∷ []))) ∷ []) (statements (associates (at 3 61)
    ((association (name 8 3 72) (designator (parts (name 4 3 77) bare (parts (name 2 3 79) bare no_parts)))) ∷ []) (statements (acts (at 3 83) (stop
    None)) no_statements)) no_statements)) ∷ [])) ∷ (unit u.Program (name 10 5 9) ((declares (declaration (Derived (name 1 5 24)) [] ((entity (name 11 5
    30) None None) ∷ []))) ∷ []) (statements (acts (at 5 33) (call (name 6 5 38) [])) no_statements) []) ∷ [])) (looks (((1, One 0) ∷ (3, One 1) ∷ (
      6,
      One
          2,
    ) ∷ []) ∷ ((1, One 0) ∷ (3, One 1) ∷ (4, One 3) ∷ (6, One 2) ∷ []) ∷ ((1, One 0) ∷ (3, One 1) ∷ (4, One 4) ∷ (6, One 2) ∷ (7, One 5) ∷ []) ∷ ((
      1,
      One
          0,
    ) ∷ (3, One 1) ∷ (4, One 4) ∷ (6, One 2) ∷ (7, One 5) ∷ (8, One 6) ∷ []) ∷ ((1, One 0) ∷ (3, One 1) ∷ (6, One 2) ∷ (11, One 7) ∷ []) ∷ [])) (0 ∷ 1 ∷
    [])

--     module k; contains; subroutine add(x, y); integer, intent(inout) :: x; integer, intent(in) :: y; x = x + y; end; end
--     module m; use k; integer, protected :: n = 3; integer, protected, allocatable :: v(:); contains
--     subroutine up(); call add(n, n); allocate(v(2)); v = n; call add(v(2), 1); end
--     end
--     program p; use m; call up(); print *, n, v; associate (z => n); print *, z; end associate
--     end
-- accepted
abbrev pub accepted_111 : Type 0
accepted_111 = Finds None
    (program (codes "k" ∷ codes "add" ∷ codes "x" ∷ codes "y" ∷ codes "m" ∷ codes "n" ∷ codes "v" ∷ codes "up" ∷ codes "call" ∷ codes "allocate" ∷ codes "p" ∷
    codes "print" ∷ codes "z" ∷ []) ((unit u.Module (name 0 1 8) [] no_statements ((procedure false Subroutine (name 1 1 32) ((name 2 1 36) ∷ (name 3 1
    39) ∷ []) ((declares (declaration (Integer Four) ((intent InOut) ∷ []) ((entity (name 2 1 69) None None) ∷ []))) ∷ (declares (declaration (Integer
    Four) ((intent In) ∷ []) ((entity (name 3 1 95) None None) ∷ []))) ∷ []) (statements (acts (at 1 98) (assign (parts (name 2 1 98) bare no_parts)
    (chain (designator (parts (name 2 1 102) bare no_parts)) (more o.Add (designator (parts (name 3 1 106) bare no_parts)) no_more)))) no_statements)) ∷
    [])) ∷ (unit u.Module (name 4 2 8) ((declares (declaration (Integer Four) (protected ∷ []) ((entity (name 5 2 40) None (Some (four (at 2 44) 3))) ∷
    []))) ∷ (declares (declaration (Integer Four) (protected ∷ allocatable ∷ []) ((entity (name 6 2 82) (Some (deferred (None ∷ []))) None) ∷ []))) ∷ [])
    no_statements ((procedure false Subroutine (name 7 3 12) [] [] (statements (acts (at 3 18) (call (name 1 3 23) ((value None (designator (parts (name 5
    3 27) bare no_parts))) ∷ (value None (designator (parts (name 5 3 30) bare no_parts))) ∷ []))) (statements (acts (at 3 34) (allocate ((parts (name 6 3
    43) (within (arguments (value None (four (at 3 45) 2)) no_arguments)) no_parts) ∷ []) None)) (statements (acts (at 3 50) (assign (parts (name 6 3 50)
    bare no_parts) (designator (parts (name 5 3 54) bare no_parts)))) (statements (acts (at 3 57) (call (name 1 3 62) ((value None (designator (parts
    (name 6 3 66) (within (arguments (value None (four (at 3 68) 2)) no_arguments)) no_parts))) ∷ (value None (four (at 3 72) 1)) ∷ [])))
    no_statements))))) ∷ [])) ∷ (unit u.Program (name 10 5 9) [] (statements (acts (at 5 19) (call (name 7 5 24) [])) (statements (acts (at 5 30) (print
    ((designator (parts (name 5 5 39) bare no_parts)) ∷ (designator (parts (name 6 5 42) bare no_parts)) ∷ []))) (statements (associates (at 5 45)
    ((association (name 12 5 56) (designator (parts (name 5 5 61) bare no_parts))) ∷ []) (statements (acts (at 5 65) (print ((designator (parts (name 12 5
    74) bare no_parts)) ∷ []))) no_statements)) no_statements))) []) ∷ [])) (looks (((1, One 0) ∷ []) ∷ ((1, One 0) ∷ (2, One 1) ∷ (3, One 2) ∷ []) ∷ ((
      1,
      One 0,
    ) ∷ (5, One 3) ∷ (6, One 4) ∷ (7, One 5) ∷ []) ∷ ((1, One 0) ∷ (5, One 3) ∷ (6, One 4) ∷ (7, One 5) ∷ []) ∷ ((1, One 0) ∷ (5, One 3) ∷ (6, One 4)
    ∷ (7, One 5) ∷ []) ∷ ((1, One 0) ∷ (5, One 3) ∷ (6, One 4) ∷ (7, One 5) ∷ (12, One 6) ∷ []) ∷ [])) (0 ∷ 1 ∷ 2 ∷ [])

--     program p; integer, allocatable :: a(:); allocate(a(5:4)); associate (z => a); print *, size(z(2:)), lbound(z, 1)
--     print *, size(z(:2))
--     end associate; end
-- accepted
abbrev pub accepted_112 : Type 0
accepted_112 = Finds None
    (program (codes "p" ∷ codes "a" ∷ codes "allocate" ∷ codes "z" ∷ codes "print" ∷ codes "size" ∷ codes "lbound" ∷ []) ((unit u.Program (name 0 1 9)
    ((declares (declaration (Integer Four) (allocatable ∷ []) ((entity (name 1 1 36) (Some (deferred (None ∷ []))) None) ∷ []))) ∷ []) (statements (acts
    (at 1 42) (allocate ((parts (name 1 1 51) (within (arguments (triplet (at 1 53) (present (four (at 1 53) 5)) (present (four (at 1 55) 4)) absent)
    no_arguments)) no_parts) ∷ []) None)) (statements (associates (at 1 60) ((association (name 3 1 71) (designator (parts (name 1 1 76) bare no_parts)))
    ∷ []) (statements (acts (at 1 80) (print ((designator (parts (name 5 1 89) (within (arguments (value None (designator (parts (name 3 1 94) (within
    (arguments (triplet (at 1 96) (present (four (at 1 96) 2)) absent absent) no_arguments)) no_parts))) no_arguments)) no_parts)) ∷ (designator (parts
    (name 6 1 102) (within (arguments (value None (designator (parts (name 3 1 109) bare no_parts))) (arguments (value None (four (at 1 112) 1))
    no_arguments))) no_parts)) ∷ []))) (statements (acts (at 2 1) (print ((designator (parts (name 5 2 10) (within (arguments (value None (designator
    (parts (name 3 2 15) (within (arguments (triplet (at 2 17) absent (present (four (at 2 18) 2)) absent) no_arguments)) no_parts))) no_arguments))
    no_parts)) ∷ []))) no_statements))) no_statements)) []) ∷ [])) (looks (((1, One 0) ∷ []) ∷ ((1, One 0) ∷ (3, One 1) ∷ []) ∷ [])) (0 ∷ [])

--     program p; print *, 'a?b'; end
-- accepted
abbrev pub accepted_113 : Type 0
accepted_113 = Finds None
    (program (codes "p" ∷ codes "print" ∷ []) ((unit u.Program (name 0 1 9) [] (statements (acts (at 1 12) (print ((text (at 1 21) 0) ∷ []))) no_statements)
    []) ∷ [])) (looks ([] ∷ [])) (0 ∷ [])

--     program p; integer :: a(2); a = [3000000000_8, 1_8, 1_8]; end
-- accepted
abbrev pub accepted_114 : Type 0
accepted_114 = Finds None
    (program (codes "p" ∷ codes "a" ∷ []) ((unit u.Program (name 0 1 9) ((declares (declaration (Integer Four) [] ((entity (name 1 1 23) (Some (explicit
    ((bounds None (four (at 1 25) 2)) ∷ []))) None) ∷ []))) ∷ []) (statements (acts (at 1 29) (assign (parts (name 1 1 29) bare no_parts) (array (at 1 33)
    (trees (eight (at 1 34) 3000000000) (trees (eight (at 1 48) 1) (trees (eight (at 1 53) 1) no_trees)))))) no_statements) []) ∷ [])) (looks (((1, One 0)
    ∷ []) ∷ [])) (0 ∷ [])

--     program p; integer :: i; do i = 3000000000_8, 1/0; end do; end
-- accepted
abbrev pub accepted_115 : Type 0
accepted_115 = Finds None
    (program (codes "p" ∷ codes "i" ∷ []) ((unit u.Program (name 0 1 9) ((declares (declaration (Integer Four) [] ((entity (name 1 1 23) None None) ∷ []))) ∷
    []) (statements (repeats (at 1 26) (counted (name 1 1 29) (eight (at 1 33) 3000000000) (chain (four (at 1 47) 1) (more o.Divide (four (at 1 49) 0)
    no_more)) None) no_statements) no_statements) []) ∷ [])) (looks (((1, One 0) ∷ []) ∷ [])) (0 ∷ [])

--     program p; integer :: k(0); k = 3000000000_8; end
-- accepted
abbrev pub accepted_116 : Type 0
accepted_116 = Finds None
    (program (codes "p" ∷ codes "k" ∷ []) ((unit u.Program (name 0 1 9) ((declares (declaration (Integer Four) [] ((entity (name 1 1 23) (Some (explicit
    ((bounds None (four (at 1 25) 0)) ∷ []))) None) ∷ []))) ∷ []) (statements (acts (at 1 29) (assign (parts (name 1 1 29) bare no_parts) (eight (at 1 33)
    3000000000))) no_statements) []) ∷ [])) (looks (((1, One 0) ∷ []) ∷ [])) (0 ∷ [])

--     program p; integer, parameter :: n = -2147483648_8; end
-- accepted
abbrev pub accepted_117 : Type 0
accepted_117 = Finds None
    (program (codes "p" ∷ codes "n" ∷ []) ((unit u.Program (name 0 1 9) ((declares (declaration (Integer Four) (parameter ∷ []) ((entity (name 1 1 34) None
    (Some (signed (at 1 38) Minus (eight (at 1 39) 2147483648)))) ∷ []))) ∷ []) no_statements []) ∷ [])) (looks (((1, One 0) ∷ []) ∷ [])) (0 ∷ [])

--     program p; integer(8), parameter :: n = 2147483647 + 1_8; end
-- accepted
abbrev pub accepted_118 : Type 0
accepted_118 = Finds None
    (program (codes "p" ∷ codes "n" ∷ []) ((unit u.Program (name 0 1 9) ((declares (declaration (Integer Eight) (parameter ∷ []) ((entity (name 1 1 37) None
    (Some (chain (four (at 1 41) 2147483647) (more o.Add (eight (at 1 54) 1) no_more)))) ∷ []))) ∷ []) no_statements []) ∷ [])) (looks (((1, One 0) ∷ [])
    ∷ [])) (0 ∷ [])

--     program p; integer(8) :: n = -9223372036854775807_8 - 1; end
-- accepted
abbrev pub accepted_119 : Type 0
accepted_119 = Finds None
    (program (codes "p" ∷ codes "n" ∷ []) ((unit u.Program (name 0 1 9) ((declares (declaration (Integer Eight) [] ((entity (name 1 1 26) None (Some (chain
    (signed (at 1 30) Minus (eight (at 1 31) 9223372036854775807)) (more o.Subtract (four (at 1 55) 1) no_more)))) ∷ []))) ∷ []) no_statements []) ∷ []))
    (looks (((1, One 0) ∷ []) ∷ [])) (0 ∷ [])

--     program p; integer(8) :: n = (-2_8) ** 63; end
-- accepted
abbrev pub accepted_120 : Type 0
accepted_120 = Finds None
    (program (codes "p" ∷ codes "n" ∷ []) ((unit u.Program (name 0 1 9) ((declares (declaration (Integer Eight) [] ((entity (name 1 1 26) None (Some (chain
    (group (at 1 30) (signed (at 1 31) Minus (eight (at 1 32) 2))) (more o.Power (four (at 1 40) 63) no_more)))) ∷ []))) ∷ []) no_statements []) ∷ []))
    (looks (((1, One 0) ∷ []) ∷ [])) (0 ∷ [])

--     program p; integer(8) :: n = 2 ** 31_8; end
-- accepted
abbrev pub accepted_121 : Type 0
accepted_121 = Finds None
    (program (codes "p" ∷ codes "n" ∷ []) ((unit u.Program (name 0 1 9) ((declares (declaration (Integer Eight) [] ((entity (name 1 1 26) None (Some (chain
    (four (at 1 30) 2) (more o.Power (eight (at 1 35) 31) no_more)))) ∷ []))) ∷ []) no_statements []) ∷ [])) (looks (((1, One 0) ∷ []) ∷ [])) (0 ∷ [])

--     program p; integer :: n = 2 ** 31_8 - 1; end
-- accepted
abbrev pub accepted_122 : Type 0
accepted_122 = Finds None
    (program (codes "p" ∷ codes "n" ∷ []) ((unit u.Program (name 0 1 9) ((declares (declaration (Integer Four) [] ((entity (name 1 1 23) None (Some (chain
    (chain (four (at 1 27) 2) (more o.Power (eight (at 1 32) 31) no_more)) (more o.Subtract (four (at 1 39) 1) no_more)))) ∷ []))) ∷ []) no_statements [])
    ∷ [])) (looks (((1, One 0) ∷ []) ∷ [])) (0 ∷ [])

--     program p; logical :: l = 3000000000_8 > 1 .and. 1 /= 2_8; end
-- accepted
abbrev pub accepted_123 : Type 0
accepted_123 = Finds None
    (program (codes "p" ∷ codes "l" ∷ []) ((unit u.Program (name 0 1 9) ((declares (declaration Logical [] ((entity (name 1 1 23) None (Some (chain
    (comparison (eight (at 1 27) 3000000000) r.Greater (four (at 1 42) 1)) (more o.And (comparison (four (at 1 50) 1) r.NotEqual (eight (at 1 55) 2))
    no_more)))) ∷ []))) ∷ []) no_statements []) ∷ [])) (looks (((1, One 0) ∷ []) ∷ [])) (0 ∷ [])

--     program p; integer(kind=8), parameter :: n = 3; integer(kind=4), parameter :: m = n * 4_8; integer :: a(n), b(m); end
-- accepted
abbrev pub accepted_124 : Type 0
accepted_124 = Finds None
    (program (codes "p" ∷ codes "n" ∷ codes "m" ∷ codes "a" ∷ codes "b" ∷ []) ((unit u.Program (name 0 1 9) ((declares (declaration (Integer Eight) (parameter
    ∷ []) ((entity (name 1 1 42) None (Some (four (at 1 46) 3))) ∷ []))) ∷ (declares (declaration (Integer Four) (parameter ∷ []) ((entity (name 2 1 79)
    None (Some (chain (designator (parts (name 1 1 83) bare no_parts)) (more o.Multiply (eight (at 1 87) 4) no_more)))) ∷ []))) ∷ (declares (declaration
    (Integer Four) [] ((entity (name 3 1 103) (Some (explicit ((bounds None (designator (parts (name 1 1 105) bare no_parts))) ∷ []))) None) ∷ (entity
    (name 4 1 109) (Some (explicit ((bounds None (designator (parts (name 2 1 111) bare no_parts))) ∷ []))) None) ∷ []))) ∷ []) no_statements []) ∷ []))
    (looks (((1, One 0) ∷ (2, One 1) ∷ (3, One 2) ∷ (4, One 3) ∷ []) ∷ [])) (0 ∷ [])

--     program p; integer :: a(0, -1:9223372036854775805_8); end
-- accepted
abbrev pub accepted_125 : Type 0
accepted_125 = Finds None
    (program (codes "p" ∷ codes "a" ∷ []) ((unit u.Program (name 0 1 9) ((declares (declaration (Integer Four) [] ((entity (name 1 1 23) (Some (explicit
    ((bounds None (four (at 1 25) 0)) ∷ (bounds (Some (signed (at 1 28) Minus (four (at 1 29) 1))) (eight (at 1 31) 9223372036854775805)) ∷ []))) None) ∷
    []))) ∷ []) no_statements []) ∷ [])) (looks (((1, One 0) ∷ []) ∷ [])) (0 ∷ [])

abbrev pub AcceptedEShow : Type 0
AcceptedEShow = accepted_101 × accepted_102 × accepted_103 × accepted_104 × accepted_105 × accepted_106 × accepted_107 × accepted_108 × accepted_109 ×
    accepted_110 × accepted_111 × accepted_112 × accepted_113 × accepted_114 × accepted_115 × accepted_116 × accepted_117 × accepted_118 × accepted_119 ×
    accepted_120 × accepted_121 × accepted_122 × accepted_123 × accepted_124 × accepted_125
