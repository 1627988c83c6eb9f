-- Programs, each in the text above it, that nothing refuses.
use Rattle.std.specs.Prelude.{true, false, [], ◌∷◌, None, Some, codes}
use Rattle.f3_lookups.specs.declared.lookup.Lookup.TheVariants.{One}
use Rattle.f3_tree.specs.declared.expression.Sign.TheVariants.{Minus}
use Rattle.f3_tree.specs.declared.expression.Relation.TheVariants as r
use Rattle.f3_tree.specs.declared.expression.Operator.TheVariants as o
use Rattle.f3_tree.specs.declared.expression.IntegerKind.TheVariants.{Four, Eight}
use Rattle.f3_tree.specs.declared.declaration.Intent.TheVariants.{In}
use Rattle.f3_tree.specs.declared.declaration.TypeSpecifier.TheVariants.{Integer, Logical, Derived}
use Rattle.f3_tree.specs.declared.program.ProcedureKind.TheVariants.{Subroutine, Function}
use Rattle.f3_tree.specs.declared.program.UnitKind.TheVariants as u
use Rattle.f3_tree.specs.Expressions.{truth, designator, group, array, signed, negation, comparison, chain, no_more, more, no_trees, trees, no_parts, parts}
use Rattle.f3_tree.specs.Expressions.{bare, within, no_arguments, arguments, value, triplet, absent, present}
use Rattle.f3_tree.specs.Declarations.{explicit, deferred, parameter, allocatable, intent, declares}
use Rattle.f3_tree.specs.Statements.{assign, call, allocate, deallocate, print, return, exit}
use Rattle.f3_tree.specs.Statements.{counted, acts, repeats, associates, no_statements, statements}
use Rattle.f3_type_rows.specs.Build.{Finds, at, name, four, eight, bounds, entity, declaration, type_definition, procedure, unit, association, program, looks}

--     module m; contains; pure subroutine s(); integer, parameter :: a = 3; end; end
--     program p; end
-- accepted
abbrev pub accepted_76 : Type 0
accepted_76 = Finds None
    (program (codes "m" ∷ codes "s" ∷ codes "a" ∷ codes "p" ∷ []) ((unit u.Module (name 0 1 8) [] no_statements ((procedure true Subroutine (name 1 1 37) []
    ((declares (declaration (Integer Four) (parameter ∷ []) ((entity (name 2 1 64) None (Some (four (at 1 68) 3))) ∷ []))) ∷ []) no_statements) ∷ [])) ∷
    (unit u.Program (name 3 2 9) [] no_statements []) ∷ [])) (looks (((1, One 0) ∷ []) ∷ ((1, One 0) ∷ (2, One 1) ∷ []) ∷ [] ∷ [])) (0 ∷ 1 ∷ [])

--     module m; contains; subroutine s(a); integer, intent(in) :: a(2:); end; end
--     program p; end
-- accepted
abbrev pub accepted_77 : Type 0
accepted_77 = Finds None
    (program (codes "m" ∷ codes "s" ∷ codes "a" ∷ codes "p" ∷ []) ((unit u.Module (name 0 1 8) [] no_statements ((procedure false Subroutine (name 1 1 32)
    ((name 2 1 34) ∷ []) ((declares (declaration (Integer Four) ((intent In) ∷ []) ((entity (name 2 1 61) (Some (deferred ((Some (four (at 1 63) 2)) ∷
    []))) None) ∷ []))) ∷ []) no_statements) ∷ [])) ∷ (unit u.Program (name 3 2 9) [] no_statements []) ∷ [])) (looks (((1, One 0) ∷ []) ∷ ((1, One 0) ∷
    (2, One 1) ∷ []) ∷ [] ∷ [])) (0 ∷ 1 ∷ [])

--     program p; integer :: x = 7 / (-2) + 2 ** 30; integer :: a(-7 / 2 + 4); a = [1]; end
-- accepted
abbrev pub accepted_78 : Type 0
accepted_78 = Finds None
    (program (codes "p" ∷ codes "x" ∷ codes "a" ∷ []) ((unit u.Program (name 0 1 9) ((declares (declaration (Integer Four) [] ((entity (name 1 1 23) None
    (Some (chain (chain (four (at 1 27) 7) (more o.Divide (group (at 1 31) (signed (at 1 32) Minus (four (at 1 33) 2))) no_more)) (more o.Add (chain (four
    (at 1 38) 2) (more o.Power (four (at 1 43) 30) no_more)) no_more)))) ∷ []))) ∷ (declares (declaration (Integer Four) [] ((entity (name 2 1 58) (Some
    (explicit ((bounds None (chain (signed (at 1 60) Minus (chain (four (at 1 61) 7) (more o.Divide (four (at 1 65) 2) no_more))) (more o.Add (four (at 1
    69) 4) no_more))) ∷ []))) None) ∷ []))) ∷ []) (statements (acts (at 1 73) (assign (parts (name 2 1 73) bare no_parts) (array (at 1 77) (trees (four
    (at 1 78) 1) no_trees)))) no_statements) []) ∷ [])) (looks (((1, One 0) ∷ (2, One 1) ∷ []) ∷ [])) (0 ∷ [])

--     program p; integer :: a(2 ** 3 ** 0); a = [1, 2]; end
-- accepted
abbrev pub accepted_79 : Type 0
accepted_79 = Finds None
    (program (codes "p" ∷ codes "a" ∷ []) ((unit u.Program (name 0 1 9) ((declares (declaration (Integer Four) [] ((entity (name 1 1 23) (Some (explicit
    ((bounds None (chain (four (at 1 25) 2) (more o.Power (four (at 1 30) 3) (more o.Power (four (at 1 35) 0) no_more)))) ∷ []))) None) ∷ []))) ∷ [])
    (statements (acts (at 1 39) (assign (parts (name 1 1 39) bare no_parts) (array (at 1 43) (trees (four (at 1 44) 1) (trees (four (at 1 47) 2)
    no_trees))))) no_statements) []) ∷ [])) (looks (((1, One 0) ∷ []) ∷ [])) (0 ∷ [])

--     program p; integer :: x = (-2) ** 31; end
-- accepted
abbrev pub accepted_80 : Type 0
accepted_80 = Finds None
    (program (codes "p" ∷ codes "x" ∷ []) ((unit u.Program (name 0 1 9) ((declares (declaration (Integer Four) [] ((entity (name 1 1 23) None (Some (chain
    (group (at 1 27) (signed (at 1 28) Minus (four (at 1 29) 2))) (more o.Power (four (at 1 35) 31) no_more)))) ∷ []))) ∷ []) no_statements []) ∷ []))
    (looks (((1, One 0) ∷ []) ∷ [])) (0 ∷ [])

--     program p; integer :: x = 2 ** 2 ** 3 ** 0 ** 0; integer :: y = 3 ** (-1) + 1 ** (-5) + (-1) ** (-3); end
-- accepted
abbrev pub accepted_81 : Type 0
accepted_81 = Finds None
    (program (codes "p" ∷ codes "x" ∷ codes "y" ∷ []) ((unit u.Program (name 0 1 9) ((declares (declaration (Integer Four) [] ((entity (name 1 1 23) None
    (Some (chain (four (at 1 27) 2) (more o.Power (four (at 1 32) 2) (more o.Power (four (at 1 37) 3) (more o.Power (four (at 1 42) 0) (more o.Power (four
    (at 1 47) 0) no_more))))))) ∷ []))) ∷ (declares (declaration (Integer Four) [] ((entity (name 2 1 61) None (Some (chain (chain (four (at 1 65) 3)
    (more o.Power (group (at 1 70) (signed (at 1 71) Minus (four (at 1 72) 1))) no_more)) (more o.Add (chain (four (at 1 77) 1) (more o.Power (group (at 1
    82) (signed (at 1 83) Minus (four (at 1 84) 5))) no_more)) (more o.Add (chain (group (at 1 89) (signed (at 1 90) Minus (four (at 1 91) 1))) (more
    o.Power (group (at 1 97) (signed (at 1 98) Minus (four (at 1 99) 3))) no_more)) no_more))))) ∷ []))) ∷ []) no_statements []) ∷ [])) (looks (((
      1,
      One
          0,
    ) ∷ (2, One 1) ∷ []) ∷ [])) (0 ∷ [])

--     program p; integer, parameter :: n = 3, k = n + 1; integer :: a(k - 2) = [n, k]; end
-- accepted
abbrev pub accepted_82 : Type 0
accepted_82 = Finds None
    (program (codes "p" ∷ codes "n" ∷ codes "k" ∷ codes "a" ∷ []) ((unit u.Program (name 0 1 9) ((declares (declaration (Integer Four) (parameter ∷ [])
    ((entity (name 1 1 34) None (Some (four (at 1 38) 3))) ∷ (entity (name 2 1 41) None (Some (chain (designator (parts (name 1 1 45) bare no_parts))
    (more o.Add (four (at 1 49) 1) no_more)))) ∷ []))) ∷ (declares (declaration (Integer Four) [] ((entity (name 3 1 63) (Some (explicit ((bounds None
    (chain (designator (parts (name 2 1 65) bare no_parts)) (more o.Subtract (four (at 1 69) 2) no_more))) ∷ []))) (Some (array (at 1 74) (trees
    (designator (parts (name 1 1 75) bare no_parts)) (trees (designator (parts (name 2 1 78) bare no_parts)) no_trees))))) ∷ []))) ∷ []) no_statements [])
    ∷ [])) (looks (((1, One 0) ∷ (2, One 1) ∷ (3, One 2) ∷ []) ∷ [])) (0 ∷ [])

--     program p; logical :: x = 1 < 2 .and. .not. 3 == 4 .or. .false. .eqv. .true.; end
-- accepted
abbrev pub accepted_83 : Type 0
accepted_83 = Finds None
    (program (codes "p" ∷ codes "x" ∷ []) ((unit u.Program (name 0 1 9) ((declares (declaration Logical [] ((entity (name 1 1 23) None (Some (chain (chain
    (chain (comparison (four (at 1 27) 1) r.Less (four (at 1 31) 2)) (more o.And (negation (at 1 39) (comparison (four (at 1 45) 3) r.Equal (four (at 1
    50) 4))) no_more)) (more o.Or (truth (at 1 57) false) no_more)) (more o.Equivalent (truth (at 1 71) true) no_more)))) ∷ []))) ∷ []) no_statements [])
    ∷ [])) (looks (((1, One 0) ∷ []) ∷ [])) (0 ∷ [])

--     program p; integer :: a(2, 2) = 3; end
-- accepted
abbrev pub accepted_84 : Type 0
accepted_84 = Finds None
    (program (codes "p" ∷ codes "a" ∷ []) ((unit u.Program (name 0 1 9) ((declares (declaration (Integer Four) [] ((entity (name 1 1 23) (Some (explicit
    ((bounds None (four (at 1 25) 2)) ∷ (bounds None (four (at 1 28) 2)) ∷ []))) (Some (four (at 1 33) 3))) ∷ []))) ∷ []) no_statements []) ∷ [])) (looks
    (((1, One 0) ∷ []) ∷ [])) (0 ∷ [])

--     program p; integer :: a(5:3) = 1; end
-- accepted
abbrev pub accepted_85 : Type 0
accepted_85 = Finds None
    (program (codes "p" ∷ codes "a" ∷ []) ((unit u.Program (name 0 1 9) ((declares (declaration (Integer Four) [] ((entity (name 1 1 23) (Some (explicit
    ((bounds (Some (four (at 1 25) 5)) (four (at 1 27) 3)) ∷ []))) (Some (four (at 1 32) 1))) ∷ []))) ∷ []) no_statements []) ∷ [])) (looks (((1, One 0) ∷
    []) ∷ [])) (0 ∷ [])

--     program p; use m; integer :: a(n); end
--     module m; integer, parameter :: n = 3; integer, parameter :: k = n; end
-- accepted
abbrev pub accepted_86 : Type 0
accepted_86 = Finds None
    (program (codes "p" ∷ codes "a" ∷ codes "n" ∷ codes "m" ∷ codes "k" ∷ []) ((unit u.Program (name 0 1 9) ((declares (declaration (Integer Four) [] ((entity
    (name 1 1 30) (Some (explicit ((bounds None (designator (parts (name 2 1 32) bare no_parts))) ∷ []))) None) ∷ []))) ∷ []) no_statements []) ∷ (unit
    u.Module (name 3 2 8) ((declares (declaration (Integer Four) (parameter ∷ []) ((entity (name 2 2 33) None (Some (four (at 2 37) 3))) ∷ []))) ∷
    (declares (declaration (Integer Four) (parameter ∷ []) ((entity (name 4 2 62) None (Some (designator (parts (name 2 2 66) bare no_parts)))) ∷ []))) ∷
    []) no_statements []) ∷ [])) (looks (((1, One 0) ∷ (2, One 1) ∷ (4, One 2) ∷ []) ∷ ((2, One 1) ∷ (4, One 2) ∷ []) ∷ [])) (1 ∷ 0 ∷ [])

--     module m; use k; type(t) :: x; contains; subroutine s(); type(t) :: y; end; end
--     module k; type t; integer :: i; end type; end
--     program p; end
-- accepted
abbrev pub accepted_87 : Type 0
accepted_87 = Finds None
    (program (codes "m" ∷ codes "t" ∷ codes "x" ∷ codes "s" ∷ codes "y" ∷ codes "k" ∷ codes "i" ∷ codes "p" ∷ []) ((unit u.Module (name 0 1 8) ((declares
    (declaration (Derived (name 1 1 23)) [] ((entity (name 2 1 29) None None) ∷ []))) ∷ []) no_statements ((procedure false Subroutine (name 3 1 53) []
    ((declares (declaration (Derived (name 1 1 63)) [] ((entity (name 4 1 69) None None) ∷ []))) ∷ []) no_statements) ∷ [])) ∷ (unit u.Module (name 5 2 8)
    ((type_definition (name 1 2 16) false ((declaration (Integer Four) [] ((entity (name 6 2 30) None None) ∷ [])) ∷ []) []) ∷ []) no_statements []) ∷
    (unit u.Program (name 7 3 9) [] no_statements []) ∷ [])) (looks (((1, One 3) ∷ (2, One 0) ∷ (3, One 1) ∷ []) ∷ ((1, One 3) ∷ (2, One 0) ∷ (3, One 1) ∷
    (4, One 2) ∷ []) ∷ ((1, One 3) ∷ []) ∷ [] ∷ [])) (1 ∷ 0 ∷ 2 ∷ [])

--     program p; integer :: a(16777216); end
-- accepted
abbrev pub accepted_88 : Type 0
accepted_88 = Finds None
    (program (codes "p" ∷ codes "a" ∷ []) ((unit u.Program (name 0 1 9) ((declares (declaration (Integer Four) [] ((entity (name 1 1 23) (Some (explicit
    ((bounds None (four (at 1 25) 16777216)) ∷ []))) None) ∷ []))) ∷ []) no_statements []) ∷ [])) (looks (((1, One 0) ∷ []) ∷ [])) (0 ∷ [])

--     module m; type t; integer :: a(4000); integer, allocatable :: b(:); end type; type(t) :: x(4193); end
--     program p; end
-- accepted
abbrev pub accepted_89 : Type 0
accepted_89 = Finds None
    (program (codes "m" ∷ codes "t" ∷ codes "a" ∷ codes "b" ∷ codes "x" ∷ codes "p" ∷ []) ((unit u.Module (name 0 1 8) ((type_definition (name 1 1 16) false
    ((declaration (Integer Four) [] ((entity (name 2 1 30) (Some (explicit ((bounds None (four (at 1 32) 4000)) ∷ []))) None) ∷ [])) ∷ (declaration
    (Integer Four) (allocatable ∷ []) ((entity (name 3 1 63) (Some (deferred (None ∷ []))) None) ∷ [])) ∷ []) []) ∷ (declares (declaration (Derived (name
    1 1 84)) [] ((entity (name 4 1 90) (Some (explicit ((bounds None (four (at 1 92) 4193)) ∷ []))) None) ∷ []))) ∷ []) no_statements []) ∷ (unit
    u.Program (name 5 2 9) [] no_statements []) ∷ [])) (looks (((1, One 0) ∷ (4, One 1) ∷ []) ∷ [] ∷ [])) (0 ∷ 1 ∷ [])

--     program p; integer, allocatable :: v(:); allocate(v(2:3)); v = 5
--     associate (z => v, y => v(2) + 1)
--     deallocate(v)
--     end associate; deallocate(v); print *, allocated(v)
--     end
-- accepted
abbrev pub accepted_90 : Type 0
accepted_90 = Finds None
    (program (codes "p" ∷ codes "v" ∷ codes "allocate" ∷ codes "z" ∷ codes "y" ∷ codes "deallocate" ∷ codes "print" ∷ codes "allocated" ∷ []) ((unit u.Program
    (name 0 1 9) ((declares (declaration (Integer Four) (allocatable ∷ []) ((entity (name 1 1 36) (Some (deferred (None ∷ []))) None) ∷ []))) ∷ [])
    (statements (acts (at 1 42) (allocate ((parts (name 1 1 51) (within (arguments (triplet (at 1 53) (present (four (at 1 53) 2)) (present (four (at 1
    55) 3)) absent) no_arguments)) no_parts) ∷ []) None)) (statements (acts (at 1 60) (assign (parts (name 1 1 60) bare no_parts) (four (at 1 64) 5)))
    (statements (associates (at 2 1) ((association (name 3 2 12) (designator (parts (name 1 2 17) bare no_parts))) ∷ (association (name 4 2 20) (chain
    (designator (parts (name 1 2 25) (within (arguments (value None (four (at 2 27) 2)) no_arguments)) no_parts)) (more o.Add (four (at 2 32) 1)
    no_more))) ∷ []) (statements (acts (at 3 1) (deallocate ((parts (name 1 3 12) bare no_parts) ∷ []) None)) no_statements)) (statements (acts (at 4 16)
    (deallocate ((parts (name 1 4 27) bare no_parts) ∷ []) None)) (statements (acts (at 4 31) (print ((designator (parts (name 7 4 40) (within (arguments
    (value None (designator (parts (name 1 4 50) bare no_parts))) no_arguments)) no_parts)) ∷ []))) no_statements))))) []) ∷ [])) (looks (((1, One 0) ∷
    []) ∷ ((1, One 0) ∷ (3, One 1) ∷ (4, One 2) ∷ []) ∷ [])) (0 ∷ [])

--     program p; integer, allocatable :: v(:); allocate(v(2:3)); v = 5
--     associate (z => v, y => v(2) + 1)
--     z(3) = y; print *, lbound(z,1), v, y
--     end associate; deallocate(v); print *, allocated(v)
--     end
-- accepted
abbrev pub accepted_91 : Type 0
accepted_91 = Finds None
    (program (codes "p" ∷ codes "v" ∷ codes "allocate" ∷ codes "z" ∷ codes "y" ∷ codes "print" ∷ codes "lbound" ∷ codes "deallocate" ∷ codes "allocated" ∷ [])
    ((unit u.Program (name 0 1 9) ((declares (declaration (Integer Four) (allocatable ∷ []) ((entity (name 1 1 36) (Some (deferred (None ∷ []))) None) ∷
    []))) ∷ []) (statements (acts (at 1 42) (allocate ((parts (name 1 1 51) (within (arguments (triplet (at 1 53) (present (four (at 1 53) 2)) (present
    (four (at 1 55) 3)) absent) no_arguments)) no_parts) ∷ []) None)) (statements (acts (at 1 60) (assign (parts (name 1 1 60) bare no_parts) (four (at 1
    64) 5))) (statements (associates (at 2 1) ((association (name 3 2 12) (designator (parts (name 1 2 17) bare no_parts))) ∷ (association (name 4 2 20)
    (chain (designator (parts (name 1 2 25) (within (arguments (value None (four (at 2 27) 2)) no_arguments)) no_parts)) (more o.Add (four (at 2 32) 1)
    no_more))) ∷ []) (statements (acts (at 3 1) (assign (parts (name 3 3 1) (within (arguments (value None (four (at 3 3) 3)) no_arguments)) no_parts)
    (designator (parts (name 4 3 8) bare no_parts)))) (statements (acts (at 3 11) (print ((designator (parts (name 6 3 20) (within (arguments (value None
    (designator (parts (name 3 3 27) bare no_parts))) (arguments (value None (four (at 3 29) 1)) no_arguments))) no_parts)) ∷ (designator (parts (name 1 3
    33) bare no_parts)) ∷ (designator (parts (name 4 3 36) bare no_parts)) ∷ []))) no_statements))) (statements (acts (at 4 16) (deallocate ((parts (name
    1 4 27) bare no_parts) ∷ []) None)) (statements (acts (at 4 31) (print ((designator (parts (name 8 4 40) (within (arguments (value None (designator
    (parts (name 1 4 50) bare no_parts))) no_arguments)) no_parts)) ∷ []))) no_statements))))) []) ∷ [])) (looks (((1, One 0) ∷ []) ∷ ((1, One 0) ∷ (
      3,
      One 1,
    ) ∷ (4, One 2) ∷ []) ∷ [])) (0 ∷ [])

--     module m; contains
--     subroutine s(); integer, allocatable :: v(:); allocate(v(2)); v = 1
--     associate (z => v); print *, z; return; end associate; end
--     end
--     program p; use m; call s(); print *, 7; end
-- accepted
abbrev pub accepted_92 : Type 0
accepted_92 = Finds None
    (program (codes "m" ∷ codes "s" ∷ codes "v" ∷ codes "allocate" ∷ codes "z" ∷ codes "print" ∷ codes "return" ∷ codes "p" ∷ codes "call" ∷ []) ((unit
    u.Module (name 0 1 8) [] no_statements ((procedure false Subroutine (name 1 2 12) [] ((declares (declaration (Integer Four) (allocatable ∷ [])
    ((entity (name 2 2 41) (Some (deferred (None ∷ []))) None) ∷ []))) ∷ []) (statements (acts (at 2 47) (allocate ((parts (name 2 2 56) (within
    (arguments (value None (four (at 2 58) 2)) no_arguments)) no_parts) ∷ []) None)) (statements (acts (at 2 63) (assign (parts (name 2 2 63) bare
    no_parts) (four (at 2 67) 1))) (statements (associates (at 3 1) ((association (name 4 3 12) (designator (parts (name 2 3 17) bare no_parts))) ∷ [])
    (statements (acts (at 3 21) (print ((designator (parts (name 4 3 30) bare no_parts)) ∷ []))) (statements (acts (at 3 33) return) no_statements)))
    no_statements)))) ∷ [])) ∷ (unit u.Program (name 7 5 9) [] (statements (acts (at 5 19) (call (name 1 5 24) [])) (statements (acts (at 5 29) (print
    ((four (at 5 38) 7) ∷ []))) no_statements)) []) ∷ [])) (looks (((1, One 0) ∷ []) ∷ ((1, One 0) ∷ (2, One 1) ∷ []) ∷ ((1, One 0) ∷ (2, One 1) ∷ (
      4,
      One
          2,
    ) ∷ []) ∷ ((1, One 0) ∷ []) ∷ [])) (0 ∷ 1 ∷ [])

--     program p; integer(8) :: i; integer :: j; i = 2147483647; i = i + 1; print *, i, 9223372036854775807_8
--     j = i
--     end
-- accepted
abbrev pub accepted_93 : Type 0
accepted_93 = Finds None
    (program (codes "p" ∷ codes "i" ∷ codes "j" ∷ codes "print" ∷ []) ((unit u.Program (name 0 1 9) ((declares (declaration (Integer Eight) [] ((entity (name
    1 1 26) None None) ∷ []))) ∷ (declares (declaration (Integer Four) [] ((entity (name 2 1 40) None None) ∷ []))) ∷ []) (statements (acts (at 1 43)
    (assign (parts (name 1 1 43) bare no_parts) (four (at 1 47) 2147483647))) (statements (acts (at 1 59) (assign (parts (name 1 1 59) bare no_parts)
    (chain (designator (parts (name 1 1 63) bare no_parts)) (more o.Add (four (at 1 67) 1) no_more)))) (statements (acts (at 1 70) (print ((designator
    (parts (name 1 1 79) bare no_parts)) ∷ (eight (at 1 82) 9223372036854775807) ∷ []))) (statements (acts (at 2 1) (assign (parts (name 2 2 1) bare
    no_parts) (designator (parts (name 1 2 5) bare no_parts)))) no_statements)))) []) ∷ [])) (looks (((1, One 0) ∷ (2, One 1) ∷ []) ∷ [])) (0 ∷ [])

--     program p; print *, 2147483647 + 1_8; end
-- accepted
abbrev pub accepted_94 : Type 0
accepted_94 = Finds None
    (program (codes "p" ∷ codes "print" ∷ []) ((unit u.Program (name 0 1 9) [] (statements (acts (at 1 12) (print ((chain (four (at 1 21) 2147483647) (more
    o.Add (eight (at 1 34) 1) no_more)) ∷ []))) no_statements) []) ∷ [])) (looks ([] ∷ [])) (0 ∷ [])

--     program p; integer(8) :: i; do i = -9223372036854775807_8 - 1, 9223372036854775807_8; print *, i; exit; end do; end
-- accepted
abbrev pub accepted_95 : Type 0
accepted_95 = Finds None
    (program (codes "p" ∷ codes "i" ∷ codes "print" ∷ codes "exit" ∷ []) ((unit u.Program (name 0 1 9) ((declares (declaration (Integer Eight) [] ((entity
    (name 1 1 26) None None) ∷ []))) ∷ []) (statements (repeats (at 1 29) (counted (name 1 1 32) (chain (signed (at 1 36) Minus (eight (at 1 37)
    9223372036854775807)) (more o.Subtract (four (at 1 61) 1) no_more)) (eight (at 1 64) 9223372036854775807) None) (statements (acts (at 1 87) (print
    ((designator (parts (name 1 1 96) bare no_parts)) ∷ []))) (statements (acts (at 1 99) exit) no_statements))) no_statements) []) ∷ [])) (looks (((
      1,
      One 0,
    ) ∷ []) ∷ [])) (0 ∷ [])

--     program p; integer :: i, j; integer(8) :: k
--     i = -2147483647 - 1; j = -1; k = -9223372036854775807_8 - 1
--     print *, mod(i, j), modulo(i, j), i * 1, mod(k, -1_8), max(i, j), min(i, j)
--     print *, i / 2, (-7) / 2, 7 / (-2), mod(-7, -2), modulo(-7, -2), modulo(7, -2)
--     print *, 0 ** 0, (-1) ** (-2147483647), (-1) ** (-2), 1 ** (-5), (-3) ** 3, 2_8 ** 62, (-2_8) ** 63
--     print *, i / j
--     end
-- accepted
abbrev pub accepted_96 : Type 0
accepted_96 = Finds None
    (program (codes "p" ∷ codes "i" ∷ codes "j" ∷ codes "k" ∷ codes "print" ∷ codes "mod" ∷ codes "modulo" ∷ codes "max" ∷ codes "min" ∷ []) ((unit u.Program
    (name 0 1 9) ((declares (declaration (Integer Four) [] ((entity (name 1 1 23) None None) ∷ (entity (name 2 1 26) None None) ∷ []))) ∷ (declares
    (declaration (Integer Eight) [] ((entity (name 3 1 43) None None) ∷ []))) ∷ []) (statements (acts (at 2 1) (assign (parts (name 1 2 1) bare no_parts)
    (chain (signed (at 2 5) Minus (four (at 2 6) 2147483647)) (more o.Subtract (four (at 2 19) 1) no_more)))) (statements (acts (at 2 22) (assign (parts
    (name 2 2 22) bare no_parts) (signed (at 2 26) Minus (four (at 2 27) 1)))) (statements (acts (at 2 30) (assign (parts (name 3 2 30) bare no_parts)
    (chain (signed (at 2 34) Minus (eight (at 2 35) 9223372036854775807)) (more o.Subtract (four (at 2 59) 1) no_more)))) (statements (acts (at 3 1)
    (print ((designator (parts (name 5 3 10) (within (arguments (value None (designator (parts (name 1 3 14) bare no_parts))) (arguments (value None
    (designator (parts (name 2 3 17) bare no_parts))) no_arguments))) no_parts)) ∷ (designator (parts (name 6 3 21) (within (arguments (value None
    (designator (parts (name 1 3 28) bare no_parts))) (arguments (value None (designator (parts (name 2 3 31) bare no_parts))) no_arguments))) no_parts))
    ∷ (chain (designator (parts (name 1 3 35) bare no_parts)) (more o.Multiply (four (at 3 39) 1) no_more)) ∷ (designator (parts (name 5 3 42) (within
    (arguments (value None (designator (parts (name 3 3 46) bare no_parts))) (arguments (value None (signed (at 3 49) Minus (eight (at 3 50) 1)))
    no_arguments))) no_parts)) ∷ (designator (parts (name 7 3 56) (within (arguments (value None (designator (parts (name 1 3 60) bare no_parts)))
    (arguments (value None (designator (parts (name 2 3 63) bare no_parts))) no_arguments))) no_parts)) ∷ (designator (parts (name 8 3 67) (within
    (arguments (value None (designator (parts (name 1 3 71) bare no_parts))) (arguments (value None (designator (parts (name 2 3 74) bare no_parts)))
    no_arguments))) no_parts)) ∷ []))) (statements (acts (at 4 1) (print ((chain (designator (parts (name 1 4 10) bare no_parts)) (more o.Divide (four (at
    4 14) 2) no_more)) ∷ (chain (group (at 4 17) (signed (at 4 18) Minus (four (at 4 19) 7))) (more o.Divide (four (at 4 24) 2) no_more)) ∷ (chain (four
    (at 4 27) 7) (more o.Divide (group (at 4 31) (signed (at 4 32) Minus (four (at 4 33) 2))) no_more)) ∷ (designator (parts (name 5 4 37) (within
    (arguments (value None (signed (at 4 41) Minus (four (at 4 42) 7))) (arguments (value None (signed (at 4 45) Minus (four (at 4 46) 2)))
    no_arguments))) no_parts)) ∷ (designator (parts (name 6 4 50) (within (arguments (value None (signed (at 4 57) Minus (four (at 4 58) 7))) (arguments
    (value None (signed (at 4 61) Minus (four (at 4 62) 2))) no_arguments))) no_parts)) ∷ (designator (parts (name 6 4 66) (within (arguments (value None
    (four (at 4 73) 7)) (arguments (value None (signed (at 4 76) Minus (four (at 4 77) 2))) no_arguments))) no_parts)) ∷ []))) (statements (acts (at 5 1)
    (print ((chain (four (at 5 10) 0) (more o.Power (four (at 5 15) 0) no_more)) ∷ (chain (group (at 5 18) (signed (at 5 19) Minus (four (at 5 20) 1)))
    (more o.Power (group (at 5 26) (signed (at 5 27) Minus (four (at 5 28) 2147483647))) no_more)) ∷ (chain (group (at 5 41) (signed (at 5 42) Minus (four
    (at 5 43) 1))) (more o.Power (group (at 5 49) (signed (at 5 50) Minus (four (at 5 51) 2))) no_more)) ∷ (chain (four (at 5 55) 1) (more o.Power (group
    (at 5 60) (signed (at 5 61) Minus (four (at 5 62) 5))) no_more)) ∷ (chain (group (at 5 66) (signed (at 5 67) Minus (four (at 5 68) 3))) (more o.Power
    (four (at 5 74) 3) no_more)) ∷ (chain (eight (at 5 77) 2) (more o.Power (four (at 5 84) 62) no_more)) ∷ (chain (group (at 5 88) (signed (at 5 89)
    Minus (eight (at 5 90) 2))) (more o.Power (four (at 5 98) 63) no_more)) ∷ []))) (statements (acts (at 6 1) (print ((chain (designator (parts (name 1 6
    10) bare no_parts)) (more o.Divide (designator (parts (name 2 6 14) bare no_parts)) no_more)) ∷ []))) no_statements))))))) []) ∷ [])) (looks (((
      1,
      One
          0,
    ) ∷ (2, One 1) ∷ (3, One 2) ∷ []) ∷ [])) (0 ∷ [])

--     program p; integer, allocatable :: x(:); integer :: a(2)
--     a(3) = 3000000000_8
--     end
-- accepted
abbrev pub accepted_97 : Type 0
accepted_97 = Finds None
    (program (codes "p" ∷ codes "x" ∷ codes "a" ∷ []) ((unit u.Program (name 0 1 9) ((declares (declaration (Integer Four) (allocatable ∷ []) ((entity (name 1
    1 36) (Some (deferred (None ∷ []))) None) ∷ []))) ∷ (declares (declaration (Integer Four) [] ((entity (name 2 1 53) (Some (explicit ((bounds None
    (four (at 1 55) 2)) ∷ []))) None) ∷ []))) ∷ []) (statements (acts (at 2 1) (assign (parts (name 2 2 1) (within (arguments (value None (four (at 2 3)
    3)) no_arguments)) no_parts) (eight (at 2 8) 3000000000))) no_statements) []) ∷ [])) (looks (((1, One 0) ∷ (2, One 1) ∷ []) ∷ [])) (0 ∷ [])

--     program p; integer, allocatable :: x(:)
--     x = 3000000000_8
--     end
-- accepted
abbrev pub accepted_98 : Type 0
accepted_98 = Finds None
    (program (codes "p" ∷ codes "x" ∷ []) ((unit u.Program (name 0 1 9) ((declares (declaration (Integer Four) (allocatable ∷ []) ((entity (name 1 1 36) (Some
    (deferred (None ∷ []))) None) ∷ []))) ∷ []) (statements (acts (at 2 1) (assign (parts (name 1 2 1) bare no_parts) (eight (at 2 5) 3000000000)))
    no_statements) []) ∷ [])) (looks (((1, One 0) ∷ []) ∷ [])) (0 ∷ [])

--     program p; integer, allocatable :: x(:)
--     allocate(x(2)); x = 1
--     associate (y => x); x = [3000000000_8]; end associate
--     end
-- accepted
abbrev pub accepted_99 : Type 0
accepted_99 = Finds None
    (program (codes "p" ∷ codes "x" ∷ codes "allocate" ∷ codes "y" ∷ []) ((unit u.Program (name 0 1 9) ((declares (declaration (Integer Four) (allocatable ∷
    []) ((entity (name 1 1 36) (Some (deferred (None ∷ []))) None) ∷ []))) ∷ []) (statements (acts (at 2 1) (allocate ((parts (name 1 2 10) (within
    (arguments (value None (four (at 2 12) 2)) no_arguments)) no_parts) ∷ []) None)) (statements (acts (at 2 17) (assign (parts (name 1 2 17) bare
    no_parts) (four (at 2 21) 1))) (statements (associates (at 3 1) ((association (name 3 3 12) (designator (parts (name 1 3 17) bare no_parts))) ∷ [])
    (statements (acts (at 3 21) (assign (parts (name 1 3 21) bare no_parts) (array (at 3 25) (trees (eight (at 3 26) 3000000000) no_trees))))
    no_statements)) no_statements))) []) ∷ [])) (looks (((1, One 0) ∷ []) ∷ ((1, One 0) ∷ (3, One 1) ∷ []) ∷ [])) (0 ∷ [])

--     module m; type t; integer :: a(2); integer :: b; integer, allocatable :: c(:); logical :: d = .true.; end type; contains
--     function f(k); integer, intent(in) :: k; integer :: f; f = 10 / k; end
--     end
--     program p; use m; type(t) :: x; integer :: z
--     x = t(b=7, a=3); print *, x%a, x%b, allocated(x%c), x%d
--     x = t([1, 2], 3, c=[4, 5, 6], d=.false.); print *, x%a, x%b, x%c, x%d
--     x = t(b=3000000000_8, a=[1, 2, 3])
--     end
-- accepted
abbrev pub accepted_100 : Type 0
accepted_100 = Finds None
    (program (codes "m" ∷ codes "t" ∷ codes "a" ∷ codes "b" ∷ codes "c" ∷ codes "d" ∷ codes "f" ∷ codes "k" ∷ codes "p" ∷ codes "x" ∷ codes "z" ∷ codes
    "print" ∷ codes "allocated" ∷ []) ((unit u.Module (name 0 1 8) ((type_definition (name 1 1 16) false ((declaration (Integer Four) [] ((entity (name 2
    1 30) (Some (explicit ((bounds None (four (at 1 32) 2)) ∷ []))) None) ∷ [])) ∷ (declaration (Integer Four) [] ((entity (name 3 1 47) None None) ∷ []))
    ∷ (declaration (Integer Four) (allocatable ∷ []) ((entity (name 4 1 74) (Some (deferred (None ∷ []))) None) ∷ [])) ∷ (declaration Logical [] ((entity
    (name 5 1 91) None (Some (truth (at 1 95) true))) ∷ [])) ∷ []) []) ∷ []) no_statements ((procedure false (Function None None) (name 6 2 10) ((name 7 2
    12) ∷ []) ((declares (declaration (Integer Four) ((intent In) ∷ []) ((entity (name 7 2 39) None None) ∷ []))) ∷ (declares (declaration (Integer Four)
    [] ((entity (name 6 2 53) None None) ∷ []))) ∷ []) (statements (acts (at 2 56) (assign (parts (name 6 2 56) bare no_parts) (chain (four (at 2 60) 10)
    (more o.Divide (designator (parts (name 7 2 65) bare no_parts)) no_more)))) no_statements)) ∷ [])) ∷ (unit u.Program (name 8 4 9) ((declares
    (declaration (Derived (name 1 4 24)) [] ((entity (name 9 4 30) None None) ∷ []))) ∷ (declares (declaration (Integer Four) [] ((entity (name 10 4 44)
    None None) ∷ []))) ∷ []) (statements (acts (at 5 1) (assign (parts (name 9 5 1) bare no_parts) (designator (parts (name 1 5 5) (within (arguments
    (value (Some (name 3 5 7)) (four (at 5 9) 7)) (arguments (value (Some (name 2 5 12)) (four (at 5 14) 3)) no_arguments))) no_parts)))) (statements
    (acts (at 5 18) (print ((designator (parts (name 9 5 27) bare (parts (name 2 5 29) bare no_parts))) ∷ (designator (parts (name 9 5 32) bare (parts
    (name 3 5 34) bare no_parts))) ∷ (designator (parts (name 12 5 37) (within (arguments (value None (designator (parts (name 9 5 47) bare (parts (name 4
    5 49) bare no_parts)))) no_arguments)) no_parts)) ∷ (designator (parts (name 9 5 53) bare (parts (name 5 5 55) bare no_parts))) ∷ []))) (statements
    (acts (at 6 1) (assign (parts (name 9 6 1) bare no_parts) (designator (parts (name 1 6 5) (within (arguments (value None (array (at 6 7) (trees (four
    (at 6 8) 1) (trees (four (at 6 11) 2) no_trees)))) (arguments (value None (four (at 6 15) 3)) (arguments (value (Some (name 4 6 18)) (array (at 6 20)
    (trees (four (at 6 21) 4) (trees (four (at 6 24) 5) (trees (four (at 6 27) 6) no_trees))))) (arguments (value (Some (name 5 6 31)) (truth (at 6 33)
    false)) no_arguments))))) no_parts)))) (statements (acts (at 6 43) (print ((designator (parts (name 9 6 52) bare (parts (name 2 6 54) bare no_parts)))
    ∷ (designator (parts (name 9 6 57) bare (parts (name 3 6 59) bare no_parts))) ∷ (designator (parts (name 9 6 62) bare (parts (name 4 6 64) bare
    no_parts))) ∷ (designator (parts (name 9 6 67) bare (parts (name 5 6 69) bare no_parts))) ∷ []))) (statements (acts (at 7 1) (assign (parts (name 9 7
    1) bare no_parts) (designator (parts (name 1 7 5) (within (arguments (value (Some (name 3 7 7)) (eight (at 7 9) 3000000000)) (arguments (value (Some
    (name 2 7 23)) (array (at 7 25) (trees (four (at 7 26) 1) (trees (four (at 7 29) 2) (trees (four (at 7 32) 3) no_trees))))) no_arguments)))
    no_parts)))) no_statements))))) []) ∷ [])) (looks (((1, One 0) ∷ (6, One 1) ∷ []) ∷ ((1, One 0) ∷ (6, One 3) ∷ (7, One 2) ∷ []) ∷ ((1, One 0) ∷ (
      6,
      One 1,
    ) ∷ (9, One 4) ∷ (10, One 5) ∷ []) ∷ [])) (0 ∷ 1 ∷ [])

abbrev pub AcceptedDShow : Type 0
AcceptedDShow = accepted_76 × accepted_77 × accepted_78 × accepted_79 × accepted_80 × accepted_81 × accepted_82 × accepted_83 × accepted_84 × accepted_85 ×
    accepted_86 × accepted_87 × accepted_88 × accepted_89 × accepted_90 × accepted_91 × accepted_92 × accepted_93 × accepted_94 × accepted_95 × accepted_96 ×
    accepted_97 × accepted_98 × accepted_99 × accepted_100
