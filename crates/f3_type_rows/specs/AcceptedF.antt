-- Programs, each in the text above it, that nothing refuses.
use Rattle.std.specs.Prelude.{true, false, [], ◌∷◌, None, Some, codes}
use Rattle.f3_lookups.specs.declared.lookup.Lookup.TheVariants.{One}
use Rattle.f3_tree.specs.declared.expression.Sign.TheVariants.{Minus}
use Rattle.f3_tree.specs.declared.expression.Relation.TheVariants as r
use Rattle.f3_tree.specs.declared.expression.Operator.TheVariants as o
use Rattle.f3_tree.specs.declared.expression.IntegerKind.TheVariants.{Four, Eight}
use Rattle.f3_tree.specs.declared.declaration.Intent.TheVariants.{In, InOut}
use Rattle.f3_tree.specs.declared.declaration.TypeSpecifier.TheVariants.{Integer, Logical, Derived}
use Rattle.f3_tree.specs.declared.program.ProcedureKind.TheVariants.{Subroutine, Function}
use Rattle.f3_tree.specs.declared.program.UnitKind.TheVariants as u
use Rattle.f3_tree.specs.Expressions.{truth, designator, array, signed, comparison, chain, no_more, more, no_trees, trees, no_parts, parts}
use Rattle.f3_tree.specs.Expressions.{bare, within, no_arguments, arguments, value, triplet, absent, present}
use Rattle.f3_tree.specs.Declarations.{explicit, deferred, protected, allocatable, intent, declares}
use Rattle.f3_tree.specs.Statements.{assign, call, allocate, deallocate, print, one, from, values}
use Rattle.f3_tree.specs.Statements.{counted, acts, acts_if, selects, repeats, associates, no_statements, statements}
use Rattle.f3_tree.specs.Statements.{no_cases, case_block}
use Rattle.f3_type_rows.specs.Build.{Finds, at, name, four, eight, bounds, entity, declaration, type_definition, procedure, unit, association, program, looks}

--     program p; integer(8) :: a(16777216); end
-- accepted
abbrev pub accepted_126 : Type 0
accepted_126 = Finds None
    (program (codes "p" ∷ codes "a" ∷ []) ((unit u.Program (name 0 1 9) ((declares (declaration (Integer Eight) [] ((entity (name 1 1 26) (Some (explicit
    ((bounds None (four (at 1 28) 16777216)) ∷ []))) None) ∷ []))) ∷ []) no_statements []) ∷ [])) (looks (((1, One 0) ∷ []) ∷ [])) (0 ∷ [])

--     module m; contains; subroutine s(x); integer(8), intent(in) :: x; end; end
--     program p; use m; call s(1_8); call s(1 + 1_8); call s(abs(-1_8)); end
-- accepted
abbrev pub accepted_127 : Type 0
accepted_127 = Finds None
    (program (codes "m" ∷ codes "s" ∷ codes "x" ∷ codes "p" ∷ codes "call" ∷ codes "abs" ∷ []) ((unit u.Module (name 0 1 8) [] no_statements ((procedure false
    Subroutine (name 1 1 32) ((name 2 1 34) ∷ []) ((declares (declaration (Integer Eight) ((intent In) ∷ []) ((entity (name 2 1 64) None None) ∷ []))) ∷
    []) no_statements) ∷ [])) ∷ (unit u.Program (name 3 2 9) [] (statements (acts (at 2 19) (call (name 1 2 24) ((value None (eight (at 2 26) 1)) ∷ [])))
    (statements (acts (at 2 32) (call (name 1 2 37) ((value None (chain (four (at 2 39) 1) (more o.Add (eight (at 2 43) 1) no_more))) ∷ []))) (statements
    (acts (at 2 49) (call (name 1 2 54) ((value None (designator (parts (name 5 2 56) (within (arguments (value None (signed (at 2 60) Minus (eight (at 2
    61) 1))) no_arguments)) no_parts))) ∷ []))) no_statements))) []) ∷ [])) (looks (((1, One 0) ∷ []) ∷ ((1, One 0) ∷ (2, One 1) ∷ []) ∷ ((1, One 0) ∷ [])
    ∷ [])) (0 ∷ 1 ∷ [])

--     module m; contains; function f(x) result(r); integer, intent(in) :: x; integer(8) :: r; r = x; end; end
--     program p; use m; print *, f(2) + 2147483648_8; end
-- accepted
abbrev pub accepted_128 : Type 0
accepted_128 = Finds None
    (program (codes "m" ∷ codes "f" ∷ codes "r" ∷ codes "x" ∷ codes "p" ∷ codes "print" ∷ []) ((unit u.Module (name 0 1 8) [] no_statements ((procedure false
    (Function None (Some (name 2 1 42))) (name 1 1 30) ((name 3 1 32) ∷ []) ((declares (declaration (Integer Four) ((intent In) ∷ []) ((entity (name 3 1
    69) None None) ∷ []))) ∷ (declares (declaration (Integer Eight) [] ((entity (name 2 1 86) None None) ∷ []))) ∷ []) (statements (acts (at 1 89) (assign
    (parts (name 2 1 89) bare no_parts) (designator (parts (name 3 1 93) bare no_parts)))) no_statements)) ∷ [])) ∷ (unit u.Program (name 4 2 9) []
    (statements (acts (at 2 19) (print ((chain (designator (parts (name 1 2 28) (within (arguments (value None (four (at 2 30) 2)) no_arguments))
    no_parts)) (more o.Add (eight (at 2 35) 2147483648) no_more)) ∷ []))) no_statements) []) ∷ [])) (looks (((1, One 0) ∷ []) ∷ ((1, One 0) ∷ (2, One 2) ∷
    (3, One 1) ∷ []) ∷ ((1, One 0) ∷ []) ∷ [])) (0 ∷ 1 ∷ [])

--     program p; integer(8), allocatable :: a(:), b(:); call move_alloc(a, b); end
-- accepted
abbrev pub accepted_129 : Type 0
accepted_129 = Finds None
    (program (codes "p" ∷ codes "a" ∷ codes "b" ∷ codes "call" ∷ codes "move_alloc" ∷ []) ((unit u.Program (name 0 1 9) ((declares (declaration (Integer
    Eight) (allocatable ∷ []) ((entity (name 1 1 39) (Some (deferred (None ∷ []))) None) ∷ (entity (name 2 1 45) (Some (deferred (None ∷ []))) None) ∷
    []))) ∷ []) (statements (acts (at 1 51) (call (name 4 1 56) ((value None (designator (parts (name 1 1 67) bare no_parts))) ∷ (value None (designator
    (parts (name 2 1 70) bare no_parts))) ∷ []))) no_statements) []) ∷ [])) (looks (((1, One 0) ∷ (2, One 1) ∷ []) ∷ [])) (0 ∷ [])

--     program p; print *, [1_8, 2_8], [1, 2_4]; end
-- accepted
abbrev pub accepted_130 : Type 0
accepted_130 = Finds None
    (program (codes "p" ∷ codes "print" ∷ []) ((unit u.Program (name 0 1 9) [] (statements (acts (at 1 12) (print ((array (at 1 21) (trees (eight (at 1 22) 1)
    (trees (eight (at 1 27) 2) no_trees))) ∷ (array (at 1 33) (trees (four (at 1 34) 1) (trees (four (at 1 37) 2) no_trees))) ∷ []))) no_statements) []) ∷
    [])) (looks ([] ∷ [])) (0 ∷ [])

--     program p; integer(8) :: a(2) = [1, 2]; integer :: b(2) = [1_8, 2_8]; end
-- accepted
abbrev pub accepted_131 : Type 0
accepted_131 = Finds None
    (program (codes "p" ∷ codes "a" ∷ codes "b" ∷ []) ((unit u.Program (name 0 1 9) ((declares (declaration (Integer Eight) [] ((entity (name 1 1 26) (Some
    (explicit ((bounds None (four (at 1 28) 2)) ∷ []))) (Some (array (at 1 33) (trees (four (at 1 34) 1) (trees (four (at 1 37) 2) no_trees))))) ∷ []))) ∷
    (declares (declaration (Integer Four) [] ((entity (name 2 1 52) (Some (explicit ((bounds None (four (at 1 54) 2)) ∷ []))) (Some (array (at 1 59)
    (trees (eight (at 1 60) 1) (trees (eight (at 1 65) 2) no_trees))))) ∷ []))) ∷ []) no_statements []) ∷ [])) (looks (((1, One 0) ∷ (2, One 1) ∷ []) ∷
    [])) (0 ∷ [])

--     program p; integer :: j; integer(8) :: i; i = 1; j = i; j = 3000000000_8; end
-- accepted
abbrev pub accepted_132 : Type 0
accepted_132 = Finds None
    (program (codes "p" ∷ codes "j" ∷ codes "i" ∷ []) ((unit u.Program (name 0 1 9) ((declares (declaration (Integer Four) [] ((entity (name 1 1 23) None
    None) ∷ []))) ∷ (declares (declaration (Integer Eight) [] ((entity (name 2 1 40) None None) ∷ []))) ∷ []) (statements (acts (at 1 43) (assign (parts
    (name 2 1 43) bare no_parts) (four (at 1 47) 1))) (statements (acts (at 1 50) (assign (parts (name 1 1 50) bare no_parts) (designator (parts (name 2 1
    54) bare no_parts)))) (statements (acts (at 1 57) (assign (parts (name 1 1 57) bare no_parts) (eight (at 1 61) 3000000000))) no_statements))) []) ∷
    [])) (looks (((1, One 0) ∷ (2, One 1) ∷ []) ∷ [])) (0 ∷ [])

--     program p; integer(8) :: i; i = 1; print *, i == 1, 2 < i, i + 1, 1 - i; end
-- accepted
abbrev pub accepted_133 : Type 0
accepted_133 = Finds None
    (program (codes "p" ∷ codes "i" ∷ codes "print" ∷ []) ((unit u.Program (name 0 1 9) ((declares (declaration (Integer Eight) [] ((entity (name 1 1 26) None
    None) ∷ []))) ∷ []) (statements (acts (at 1 29) (assign (parts (name 1 1 29) bare no_parts) (four (at 1 33) 1))) (statements (acts (at 1 36) (print
    ((comparison (designator (parts (name 1 1 45) bare no_parts)) r.Equal (four (at 1 50) 1)) ∷ (comparison (four (at 1 53) 2) r.Less (designator (parts
    (name 1 1 57) bare no_parts))) ∷ (chain (designator (parts (name 1 1 60) bare no_parts)) (more o.Add (four (at 1 64) 1) no_more)) ∷ (chain (four (at 1
    67) 1) (more o.Subtract (designator (parts (name 1 1 71) bare no_parts)) no_more)) ∷ []))) no_statements)) []) ∷ [])) (looks (((1, One 0) ∷ []) ∷ []))
    (0 ∷ [])

--     program p; integer :: i; do i = 1_8, 3000000000_8; end do; end
-- accepted
abbrev pub accepted_134 : Type 0
accepted_134 = Finds None
    (program (codes "p" ∷ codes "i" ∷ []) ((unit u.Program (name 0 1 9) ((declares (declaration (Integer Four) [] ((entity (name 1 1 23) None None) ∷ []))) ∷
    []) (statements (repeats (at 1 26) (counted (name 1 1 29) (eight (at 1 33) 1) (eight (at 1 38) 3000000000) None) no_statements) no_statements) []) ∷
    [])) (looks (((1, One 0) ∷ []) ∷ [])) (0 ∷ [])

--     program p; integer(8) :: i; do i = 1, 3, 2_8; end do; end
-- accepted
abbrev pub accepted_135 : Type 0
accepted_135 = Finds None
    (program (codes "p" ∷ codes "i" ∷ []) ((unit u.Program (name 0 1 9) ((declares (declaration (Integer Eight) [] ((entity (name 1 1 26) None None) ∷ []))) ∷
    []) (statements (repeats (at 1 29) (counted (name 1 1 32) (four (at 1 36) 1) (four (at 1 39) 3) (Some (eight (at 1 42) 2))) no_statements)
    no_statements) []) ∷ [])) (looks (((1, One 0) ∷ []) ∷ [])) (0 ∷ [])

--     program p; integer(8) :: s; integer, allocatable :: a(:); allocate(a(3_8), stat=s); deallocate(a, stat=s); end
-- accepted
abbrev pub accepted_136 : Type 0
accepted_136 = Finds None
    (program (codes "p" ∷ codes "s" ∷ codes "a" ∷ codes "stat" ∷ codes "allocate" ∷ codes "deallocate" ∷ []) ((unit u.Program (name 0 1 9) ((declares
    (declaration (Integer Eight) [] ((entity (name 1 1 26) None None) ∷ []))) ∷ (declares (declaration (Integer Four) (allocatable ∷ []) ((entity (name 2
    1 53) (Some (deferred (None ∷ []))) None) ∷ []))) ∷ []) (statements (acts (at 1 59) (allocate ((parts (name 2 1 68) (within (arguments (value None
    (eight (at 1 70) 3)) no_arguments)) no_parts) ∷ []) (Some (parts (name 1 1 81) bare no_parts)))) (statements (acts (at 1 85) (deallocate ((parts (name
    2 1 96) bare no_parts) ∷ []) (Some (parts (name 1 1 104) bare no_parts)))) no_statements)) []) ∷ [])) (looks (((1, One 0) ∷ (2, One 1) ∷ []) ∷ [])) (0
    ∷ [])

--     program p; integer :: a(3); a(2_8) = 1; print *, a(1_8:2), a(1:3:2_8), size(a, 1_8), lbound(a, 1_8); end
-- accepted
abbrev pub accepted_137 : Type 0
accepted_137 = Finds None
    (program (codes "p" ∷ codes "a" ∷ codes "print" ∷ codes "size" ∷ codes "lbound" ∷ []) ((unit u.Program (name 0 1 9) ((declares (declaration (Integer Four)
    [] ((entity (name 1 1 23) (Some (explicit ((bounds None (four (at 1 25) 3)) ∷ []))) None) ∷ []))) ∷ []) (statements (acts (at 1 29) (assign (parts
    (name 1 1 29) (within (arguments (value None (eight (at 1 31) 2)) no_arguments)) no_parts) (four (at 1 38) 1))) (statements (acts (at 1 41) (print
    ((designator (parts (name 1 1 50) (within (arguments (triplet (at 1 52) (present (eight (at 1 52) 1)) (present (four (at 1 56) 2)) absent)
    no_arguments)) no_parts)) ∷ (designator (parts (name 1 1 60) (within (arguments (triplet (at 1 62) (present (four (at 1 62) 1)) (present (four (at 1
    64) 3)) (present (eight (at 1 66) 2))) no_arguments)) no_parts)) ∷ (designator (parts (name 3 1 72) (within (arguments (value None (designator (parts
    (name 1 1 77) bare no_parts))) (arguments (value None (eight (at 1 80) 1)) no_arguments))) no_parts)) ∷ (designator (parts (name 4 1 86) (within
    (arguments (value None (designator (parts (name 1 1 93) bare no_parts))) (arguments (value None (eight (at 1 96) 1)) no_arguments))) no_parts)) ∷
    []))) no_statements)) []) ∷ [])) (looks (((1, One 0) ∷ []) ∷ [])) (0 ∷ [])

--     program p; integer :: i; i = 1; select case (i); case (3000000000_8:); case (1_8); case (2); end select; end
-- accepted
abbrev pub accepted_138 : Type 0
accepted_138 = Finds None
    (program (codes "p" ∷ codes "i" ∷ []) ((unit u.Program (name 0 1 9) ((declares (declaration (Integer Four) [] ((entity (name 1 1 23) None None) ∷ []))) ∷
    []) (statements (acts (at 1 26) (assign (parts (name 1 1 26) bare no_parts) (four (at 1 30) 1))) (statements (selects (at 1 33) (designator (parts
    (name 1 1 46) bare no_parts)) (case_block (at 1 50) (values ((from (eight (at 1 56) 3000000000)) ∷ [])) no_statements (case_block (at 1 72) (values
    ((one (eight (at 1 78) 1)) ∷ [])) no_statements (case_block (at 1 84) (values ((one (four (at 1 90) 2)) ∷ [])) no_statements no_cases))))
    no_statements)) []) ∷ [])) (looks (((1, One 0) ∷ []) ∷ [])) (0 ∷ [])

--     program p; print *, max(1_8, 2_8), modulo(5_8, 3_8), mod(5, 3), min(1, 2, 3); end
-- accepted
abbrev pub accepted_139 : Type 0
accepted_139 = Finds None
    (program (codes "p" ∷ codes "print" ∷ codes "max" ∷ codes "modulo" ∷ codes "mod" ∷ codes "min" ∷ []) ((unit u.Program (name 0 1 9) [] (statements (acts
    (at 1 12) (print ((designator (parts (name 2 1 21) (within (arguments (value None (eight (at 1 25) 1)) (arguments (value None (eight (at 1 30) 2))
    no_arguments))) no_parts)) ∷ (designator (parts (name 3 1 36) (within (arguments (value None (eight (at 1 43) 5)) (arguments (value None (eight (at 1
    48) 3)) no_arguments))) no_parts)) ∷ (designator (parts (name 4 1 54) (within (arguments (value None (four (at 1 58) 5)) (arguments (value None (four
    (at 1 61) 3)) no_arguments))) no_parts)) ∷ (designator (parts (name 5 1 65) (within (arguments (value None (four (at 1 69) 1)) (arguments (value None
    (four (at 1 72) 2)) (arguments (value None (four (at 1 75) 3)) no_arguments)))) no_parts)) ∷ []))) no_statements) []) ∷ [])) (looks ([] ∷ [])) (0 ∷
    [])

--     program p; print *, [abs(1_8), 1_8], [abs(1), 1]; end
-- accepted
abbrev pub accepted_140 : Type 0
accepted_140 = Finds None
    (program (codes "p" ∷ codes "print" ∷ codes "abs" ∷ []) ((unit u.Program (name 0 1 9) [] (statements (acts (at 1 12) (print ((array (at 1 21) (trees
    (designator (parts (name 2 1 22) (within (arguments (value None (eight (at 1 26) 1)) no_arguments)) no_parts)) (trees (eight (at 1 32) 1) no_trees)))
    ∷ (array (at 1 38) (trees (designator (parts (name 2 1 39) (within (arguments (value None (four (at 1 43) 1)) no_arguments)) no_parts)) (trees (four
    (at 1 47) 1) no_trees))) ∷ []))) no_statements) []) ∷ [])) (looks ([] ∷ [])) (0 ∷ [])

--     program p; integer(8) :: a(2); a = 1; print *, [size(a), 1], [lbound(a, 1), ubound(a, 1)]; end
-- accepted
abbrev pub accepted_141 : Type 0
accepted_141 = Finds None
    (program (codes "p" ∷ codes "a" ∷ codes "print" ∷ codes "size" ∷ codes "lbound" ∷ codes "ubound" ∷ []) ((unit u.Program (name 0 1 9) ((declares
    (declaration (Integer Eight) [] ((entity (name 1 1 26) (Some (explicit ((bounds None (four (at 1 28) 2)) ∷ []))) None) ∷ []))) ∷ []) (statements (acts
    (at 1 32) (assign (parts (name 1 1 32) bare no_parts) (four (at 1 36) 1))) (statements (acts (at 1 39) (print ((array (at 1 48) (trees (designator
    (parts (name 3 1 49) (within (arguments (value None (designator (parts (name 1 1 54) bare no_parts))) no_arguments)) no_parts)) (trees (four (at 1 58)
    1) no_trees))) ∷ (array (at 1 62) (trees (designator (parts (name 4 1 63) (within (arguments (value None (designator (parts (name 1 1 70) bare
    no_parts))) (arguments (value None (four (at 1 73) 1)) no_arguments))) no_parts)) (trees (designator (parts (name 5 1 77) (within (arguments (value
    None (designator (parts (name 1 1 84) bare no_parts))) (arguments (value None (four (at 1 87) 1)) no_arguments))) no_parts)) no_trees))) ∷ [])))
    no_statements)) []) ∷ [])) (looks (((1, One 0) ∷ []) ∷ [])) (0 ∷ [])

--     program p; print *, [1 + 1_8, 1_8, 2 ** 3_8, 4_8 / 2]; end
-- accepted
abbrev pub accepted_142 : Type 0
accepted_142 = Finds None
    (program (codes "p" ∷ codes "print" ∷ []) ((unit u.Program (name 0 1 9) [] (statements (acts (at 1 12) (print ((array (at 1 21) (trees (chain (four (at 1
    22) 1) (more o.Add (eight (at 1 26) 1) no_more)) (trees (eight (at 1 31) 1) (trees (chain (four (at 1 36) 2) (more o.Power (eight (at 1 41) 3)
    no_more)) (trees (chain (eight (at 1 46) 4) (more o.Divide (four (at 1 52) 2) no_more)) no_trees))))) ∷ []))) no_statements) []) ∷ [])) (looks ([] ∷
    [])) (0 ∷ [])

--     module m; type t; integer :: c; integer(8) :: d(2) = 1; end type; end
--     program p; use m; type(t) :: x; x = t(3000000000_8); x = t(1, [1, 2]); end
-- accepted
abbrev pub accepted_143 : Type 0
accepted_143 = Finds None
    (program (codes "m" ∷ codes "t" ∷ codes "c" ∷ codes "d" ∷ codes "p" ∷ codes "x" ∷ []) ((unit u.Module (name 0 1 8) ((type_definition (name 1 1 16) false
    ((declaration (Integer Four) [] ((entity (name 2 1 30) None None) ∷ [])) ∷ (declaration (Integer Eight) [] ((entity (name 3 1 47) (Some (explicit
    ((bounds None (four (at 1 49) 2)) ∷ []))) (Some (four (at 1 54) 1))) ∷ [])) ∷ []) []) ∷ []) no_statements []) ∷ (unit u.Program (name 4 2 9)
    ((declares (declaration (Derived (name 1 2 24)) [] ((entity (name 5 2 30) None None) ∷ []))) ∷ []) (statements (acts (at 2 33) (assign (parts (name 5
    2 33) bare no_parts) (designator (parts (name 1 2 37) (within (arguments (value None (eight (at 2 39) 3000000000)) no_arguments)) no_parts))))
    (statements (acts (at 2 54) (assign (parts (name 5 2 54) bare no_parts) (designator (parts (name 1 2 58) (within (arguments (value None (four (at 2
    60) 1)) (arguments (value None (array (at 2 63) (trees (four (at 2 64) 1) (trees (four (at 2 67) 2) no_trees)))) no_arguments))) no_parts))))
    no_statements)) []) ∷ [])) (looks (((1, One 0) ∷ []) ∷ ((1, One 0) ∷ (5, One 1) ∷ []) ∷ [])) (0 ∷ 1 ∷ [])

--     module m; integer, protected :: n; contains; subroutine s(); associate (z => n); z = 1; end associate; end; end
--     program p; end
-- accepted
abbrev pub accepted_144 : Type 0
accepted_144 = Finds None
    (program (codes "m" ∷ codes "n" ∷ codes "s" ∷ codes "z" ∷ codes "p" ∷ []) ((unit u.Module (name 0 1 8) ((declares (declaration (Integer Four) (protected ∷
    []) ((entity (name 1 1 33) None None) ∷ []))) ∷ []) no_statements ((procedure false Subroutine (name 2 1 57) [] [] (statements (associates (at 1 62)
    ((association (name 3 1 73) (designator (parts (name 1 1 78) bare no_parts))) ∷ []) (statements (acts (at 1 82) (assign (parts (name 3 1 82) bare
    no_parts) (four (at 1 86) 1))) no_statements)) no_statements)) ∷ [])) ∷ (unit u.Program (name 4 2 9) [] no_statements []) ∷ [])) (looks (((1, One 0) ∷
    (2, One 1) ∷ []) ∷ ((1, One 0) ∷ (2, One 1) ∷ []) ∷ ((1, One 0) ∷ (2, One 1) ∷ (3, One 2) ∷ []) ∷ [] ∷ [])) (0 ∷ 1 ∷ [])

--     module m; integer, protected :: n; end
--     program p; use m; associate (z => n); print *, z + 1; end associate; end
-- accepted
abbrev pub accepted_145 : Type 0
accepted_145 = Finds None
    (program (codes "m" ∷ codes "n" ∷ codes "p" ∷ codes "z" ∷ codes "print" ∷ []) ((unit u.Module (name 0 1 8) ((declares (declaration (Integer Four)
    (protected ∷ []) ((entity (name 1 1 33) None None) ∷ []))) ∷ []) no_statements []) ∷ (unit u.Program (name 2 2 9) [] (statements (associates (at 2 19)
    ((association (name 3 2 30) (designator (parts (name 1 2 35) bare no_parts))) ∷ []) (statements (acts (at 2 39) (print ((chain (designator (parts
    (name 3 2 48) bare no_parts)) (more o.Add (four (at 2 52) 1) no_more)) ∷ []))) no_statements)) no_statements) []) ∷ [])) (looks (((1, One 0) ∷ []) ∷
    ((1, One 0) ∷ []) ∷ ((1, One 0) ∷ (3, One 1) ∷ []) ∷ [])) (0 ∷ 1 ∷ [])

--     module m; contains; subroutine s(x); integer, intent(inout) :: x(:); end; end
--     program p; use m; integer, allocatable :: v(:); allocate(v(2)); associate (z => v); z = 3; call s(z); call s(z(1:1)); end associate; end
-- accepted
abbrev pub accepted_146 : Type 0
accepted_146 = Finds None
    (program (codes "m" ∷ codes "s" ∷ codes "x" ∷ codes "p" ∷ codes "v" ∷ codes "allocate" ∷ codes "z" ∷ codes "call" ∷ []) ((unit u.Module (name 0 1 8) []
    no_statements ((procedure false Subroutine (name 1 1 32) ((name 2 1 34) ∷ []) ((declares (declaration (Integer Four) ((intent InOut) ∷ []) ((entity
    (name 2 1 64) (Some (deferred (None ∷ []))) None) ∷ []))) ∷ []) no_statements) ∷ [])) ∷ (unit u.Program (name 3 2 9) ((declares (declaration (Integer
    Four) (allocatable ∷ []) ((entity (name 4 2 43) (Some (deferred (None ∷ []))) None) ∷ []))) ∷ []) (statements (acts (at 2 49) (allocate ((parts (name
    4 2 58) (within (arguments (value None (four (at 2 60) 2)) no_arguments)) no_parts) ∷ []) None)) (statements (associates (at 2 65) ((association (name
    6 2 76) (designator (parts (name 4 2 81) bare no_parts))) ∷ []) (statements (acts (at 2 85) (assign (parts (name 6 2 85) bare no_parts) (four (at 2
    89) 3))) (statements (acts (at 2 92) (call (name 1 2 97) ((value None (designator (parts (name 6 2 99) bare no_parts))) ∷ []))) (statements (acts (at
    2 103) (call (name 1 2 108) ((value None (designator (parts (name 6 2 110) (within (arguments (triplet (at 2 112) (present (four (at 2 112) 1))
    (present (four (at 2 114) 1)) absent) no_arguments)) no_parts))) ∷ []))) no_statements)))) no_statements)) []) ∷ [])) (looks (((1, One 0) ∷ []) ∷ ((
      1,
      One 0,
    ) ∷ (2, One 1) ∷ []) ∷ ((1, One 0) ∷ (4, One 2) ∷ []) ∷ ((1, One 0) ∷ (4, One 2) ∷ (6, One 3) ∷ []) ∷ [])) (0 ∷ 1 ∷ [])

--     program p; integer :: i; logical :: z; z = .true.; associate (z => 3); i = z + 1; end associate; if (z) i = 2; end
-- accepted
abbrev pub accepted_147 : Type 0
accepted_147 = Finds None
    (program (codes "p" ∷ codes "i" ∷ codes "z" ∷ []) ((unit u.Program (name 0 1 9) ((declares (declaration (Integer Four) [] ((entity (name 1 1 23) None
    None) ∷ []))) ∷ (declares (declaration Logical [] ((entity (name 2 1 37) None None) ∷ []))) ∷ []) (statements (acts (at 1 40) (assign (parts (name 2 1
    40) bare no_parts) (truth (at 1 44) true))) (statements (associates (at 1 52) ((association (name 2 1 63) (four (at 1 68) 3)) ∷ []) (statements (acts
    (at 1 72) (assign (parts (name 1 1 72) bare no_parts) (chain (designator (parts (name 2 1 76) bare no_parts)) (more o.Add (four (at 1 80) 1)
    no_more)))) no_statements)) (statements (acts_if (at 1 98) (designator (parts (name 2 1 102) bare no_parts)) (at 1 105) (assign (parts (name 1 1 105)
    bare no_parts) (four (at 1 109) 2))) no_statements))) []) ∷ [])) (looks (((1, One 0) ∷ (2, One 1) ∷ []) ∷ ((1, One 0) ∷ (2, One 2) ∷ []) ∷ [])) (0 ∷
    [])

--     program p; integer :: z; z = 1; associate (z => z == 1); if (z) print *, z; end associate; z = 2; end
-- accepted
abbrev pub accepted_148 : Type 0
accepted_148 = Finds None
    (program (codes "p" ∷ codes "z" ∷ codes "print" ∷ []) ((unit u.Program (name 0 1 9) ((declares (declaration (Integer Four) [] ((entity (name 1 1 23) None
    None) ∷ []))) ∷ []) (statements (acts (at 1 26) (assign (parts (name 1 1 26) bare no_parts) (four (at 1 30) 1))) (statements (associates (at 1 33)
    ((association (name 1 1 44) (comparison (designator (parts (name 1 1 49) bare no_parts)) r.Equal (four (at 1 54) 1))) ∷ []) (statements (acts_if (at 1
    58) (designator (parts (name 1 1 62) bare no_parts)) (at 1 65) (print ((designator (parts (name 1 1 74) bare no_parts)) ∷ []))) no_statements))
    (statements (acts (at 1 92) (assign (parts (name 1 1 92) bare no_parts) (four (at 1 96) 2))) no_statements))) []) ∷ [])) (looks (((1, One 0) ∷ []) ∷
    ((1, One 1) ∷ []) ∷ [])) (0 ∷ [])

--     module m; contains; subroutine s(x); integer(8), intent(in) :: x; end; end
--     program p; use m; associate (z => 1 + 1_8); call s(z); end associate; end
-- accepted
abbrev pub accepted_149 : Type 0
accepted_149 = Finds None
    (program (codes "m" ∷ codes "s" ∷ codes "x" ∷ codes "p" ∷ codes "z" ∷ codes "call" ∷ []) ((unit u.Module (name 0 1 8) [] no_statements ((procedure false
    Subroutine (name 1 1 32) ((name 2 1 34) ∷ []) ((declares (declaration (Integer Eight) ((intent In) ∷ []) ((entity (name 2 1 64) None None) ∷ []))) ∷
    []) no_statements) ∷ [])) ∷ (unit u.Program (name 3 2 9) [] (statements (associates (at 2 19) ((association (name 4 2 30) (chain (four (at 2 35) 1)
    (more o.Add (eight (at 2 39) 1) no_more))) ∷ []) (statements (acts (at 2 45) (call (name 1 2 50) ((value None (designator (parts (name 4 2 52) bare
    no_parts))) ∷ []))) no_statements)) no_statements) []) ∷ [])) (looks (((1, One 0) ∷ []) ∷ ((1, One 0) ∷ (2, One 1) ∷ []) ∷ ((1, One 0) ∷ []) ∷ ((
      1,
      One 0,
    ) ∷ (4, One 2) ∷ []) ∷ [])) (0 ∷ 1 ∷ [])

--     program p; integer :: a(3); a = 1; associate (z => a(2:3)); print *, z(1), lbound(z, 1); end associate; end
-- accepted
abbrev pub accepted_150 : Type 0
accepted_150 = Finds None
    (program (codes "p" ∷ codes "a" ∷ codes "z" ∷ codes "print" ∷ codes "lbound" ∷ []) ((unit u.Program (name 0 1 9) ((declares (declaration (Integer Four) []
    ((entity (name 1 1 23) (Some (explicit ((bounds None (four (at 1 25) 3)) ∷ []))) None) ∷ []))) ∷ []) (statements (acts (at 1 29) (assign (parts (name
    1 1 29) bare no_parts) (four (at 1 33) 1))) (statements (associates (at 1 36) ((association (name 2 1 47) (designator (parts (name 1 1 52) (within
    (arguments (triplet (at 1 54) (present (four (at 1 54) 2)) (present (four (at 1 56) 3)) absent) no_arguments)) no_parts))) ∷ []) (statements (acts (at
    1 61) (print ((designator (parts (name 2 1 70) (within (arguments (value None (four (at 1 72) 1)) no_arguments)) no_parts)) ∷ (designator (parts (name
    4 1 76) (within (arguments (value None (designator (parts (name 2 1 83) bare no_parts))) (arguments (value None (four (at 1 86) 1)) no_arguments)))
    no_parts)) ∷ []))) no_statements)) no_statements)) []) ∷ [])) (looks (((1, One 0) ∷ []) ∷ ((1, One 0) ∷ (2, One 1) ∷ []) ∷ [])) (0 ∷ [])

abbrev pub AcceptedFShow : Type 0
AcceptedFShow = accepted_126 × accepted_127 × accepted_128 × accepted_129 × accepted_130 × accepted_131 × accepted_132 × accepted_133 × accepted_134 ×
    accepted_135 × accepted_136 × accepted_137 × accepted_138 × accepted_139 × accepted_140 × accepted_141 × accepted_142 × accepted_143 × accepted_144 ×
    accepted_145 × accepted_146 × accepted_147 × accepted_148 × accepted_149 × accepted_150
