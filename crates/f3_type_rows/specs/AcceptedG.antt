-- Programs, each in the text above it, that nothing refuses.
use Rattle.std.specs.Prelude.{true, false, [], ◌∷◌, None, Some, codes}
use Rattle.f3_lookups.specs.declared.lookup.Lookup.TheVariants.{One, Several}
use Rattle.f3_tree.specs.declared.expression.Sign.TheVariants.{Minus}
use Rattle.f3_tree.specs.declared.expression.Relation.TheVariants as r
use Rattle.f3_tree.specs.declared.expression.Operator.TheVariants as o
use Rattle.f3_tree.specs.declared.expression.IntegerKind.TheVariants.{Four, Eight}
use Rattle.f3_tree.specs.declared.declaration.Intent.TheVariants.{In, InOut}
use Rattle.f3_tree.specs.declared.declaration.TypeSpecifier.TheVariants.{Integer, Logical, Derived}
use Rattle.f3_tree.specs.declared.program.ProcedureKind.TheVariants.{Subroutine, Function}
use Rattle.f3_tree.specs.declared.program.UnitKind.TheVariants as u
use Rattle.f3_tree.specs.Expressions.{truth, designator, group, array, signed, negation, comparison, chain, no_more, more, no_trees, trees, no_parts, parts}
use Rattle.f3_tree.specs.Expressions.{bare, within, no_arguments, arguments, value, triplet, absent, present}
use Rattle.f3_tree.specs.Declarations.{explicit, deferred, parameter, allocatable, dimension, intent, declares}
use Rattle.f3_tree.specs.Statements.{assign, call, allocate, deallocate, print, return, cycle, exit, one, values, default}
use Rattle.f3_tree.specs.Statements.{counted, acts, acts_if, branches, selects, repeats, associates, no_statements, statements}
use Rattle.f3_tree.specs.Statements.{no_branches, branch, alternative, no_cases, case_block}
use Rattle.f3_type_rows.specs.Build.{Finds, at, name, four, eight, bounds, entity, declaration, type_definition, procedure, unit, association, program, looks}

--     module m; type t; private; integer :: c; end type; type(t) :: x; contains; subroutine s(); associate (z => x); associate (y => z%c); y = 1
--     end associate; end associate; end; end
--     program p; end
-- accepted
abbrev pub accepted_151 : Type 0
accepted_151 = Finds None
    (program (codes "m" ∷ codes "t" ∷ codes "c" ∷ codes "x" ∷ codes "s" ∷ codes "z" ∷ codes "y" ∷ codes "p" ∷ []) ((unit u.Module (name 0 1 8)
    ((type_definition (name 1 1 16) true ((declaration (Integer Four) [] ((entity (name 2 1 39) None None) ∷ [])) ∷ []) []) ∷ (declares (declaration
    (Derived (name 1 1 57)) [] ((entity (name 3 1 63) None None) ∷ []))) ∷ []) no_statements ((procedure false Subroutine (name 4 1 87) [] [] (statements
    (associates (at 1 92) ((association (name 5 1 103) (designator (parts (name 3 1 108) bare no_parts))) ∷ []) (statements (associates (at 1 112)
    ((association (name 6 1 123) (designator (parts (name 5 1 128) bare (parts (name 2 1 130) bare no_parts)))) ∷ []) (statements (acts (at 1 134) (assign
    (parts (name 6 1 134) bare no_parts) (four (at 1 138) 1))) no_statements)) no_statements)) no_statements)) ∷ [])) ∷ (unit u.Program (name 7 3 9) []
    no_statements []) ∷ [])) (looks (((1, One 0) ∷ (3, One 1) ∷ (4, One 2) ∷ []) ∷ ((1, One 0) ∷ (3, One 1) ∷ (4, One 2) ∷ []) ∷ ((1, One 0) ∷ (3, One 1)
    ∷ (4, One 2) ∷ (5, One 3) ∷ []) ∷ ((1, One 0) ∷ (3, One 1) ∷ (4, One 2) ∷ (5, One 3) ∷ (6, One 4) ∷ []) ∷ [] ∷ [])) (0 ∷ 1 ∷ [])

--     module m; contains; subroutine s(x); integer, intent(inout) :: x(:); associate (z => x(1), y => x); z = 1; y = 2; end associate; end; end
--     program p; end
-- accepted
abbrev pub accepted_152 : Type 0
accepted_152 = Finds None
    (program (codes "m" ∷ codes "s" ∷ codes "x" ∷ codes "z" ∷ codes "y" ∷ codes "p" ∷ []) ((unit u.Module (name 0 1 8) [] no_statements ((procedure false
    Subroutine (name 1 1 32) ((name 2 1 34) ∷ []) ((declares (declaration (Integer Four) ((intent InOut) ∷ []) ((entity (name 2 1 64) (Some (deferred
    (None ∷ []))) None) ∷ []))) ∷ []) (statements (associates (at 1 70) ((association (name 3 1 81) (designator (parts (name 2 1 86) (within (arguments
    (value None (four (at 1 88) 1)) no_arguments)) no_parts))) ∷ (association (name 4 1 92) (designator (parts (name 2 1 97) bare no_parts))) ∷ [])
    (statements (acts (at 1 101) (assign (parts (name 3 1 101) bare no_parts) (four (at 1 105) 1))) (statements (acts (at 1 108) (assign (parts (name 4 1
    108) bare no_parts) (four (at 1 112) 2))) no_statements))) no_statements)) ∷ [])) ∷ (unit u.Program (name 5 2 9) [] no_statements []) ∷ [])) (looks
    (((1, One 0) ∷ []) ∷ ((1, One 0) ∷ (2, One 1) ∷ []) ∷ ((1, One 0) ∷ (2, One 1) ∷ (3, One 2) ∷ (4, One 3) ∷ []) ∷ [] ∷ [])) (0 ∷ 1 ∷ [])

--     module m; contains; pure subroutine s(x); integer, intent(inout) :: x; integer :: k; associate (z => k, y => x); z = 1; y = z
--     end associate; end; end
--     program p; end
-- accepted
abbrev pub accepted_153 : Type 0
accepted_153 = Finds None
    (program (codes "m" ∷ codes "s" ∷ codes "x" ∷ codes "k" ∷ codes "z" ∷ codes "y" ∷ codes "p" ∷ []) ((unit u.Module (name 0 1 8) [] no_statements
    ((procedure true Subroutine (name 1 1 37) ((name 2 1 39) ∷ []) ((declares (declaration (Integer Four) ((intent InOut) ∷ []) ((entity (name 2 1 69)
    None None) ∷ []))) ∷ (declares (declaration (Integer Four) [] ((entity (name 3 1 83) None None) ∷ []))) ∷ []) (statements (associates (at 1 86)
    ((association (name 4 1 97) (designator (parts (name 3 1 102) bare no_parts))) ∷ (association (name 5 1 105) (designator (parts (name 2 1 110) bare
    no_parts))) ∷ []) (statements (acts (at 1 114) (assign (parts (name 4 1 114) bare no_parts) (four (at 1 118) 1))) (statements (acts (at 1 121) (assign
    (parts (name 5 1 121) bare no_parts) (designator (parts (name 4 1 125) bare no_parts)))) no_statements))) no_statements)) ∷ [])) ∷ (unit u.Program
    (name 6 3 9) [] no_statements []) ∷ [])) (looks (((1, One 0) ∷ []) ∷ ((1, One 0) ∷ (2, One 1) ∷ (3, One 2) ∷ []) ∷ ((1, One 0) ∷ (2, One 1) ∷ (
      3,
      One
          2,
    ) ∷ (4, One 3) ∷ (5, One 4) ∷ []) ∷ [] ∷ [])) (0 ∷ 1 ∷ [])

--     module m; integer :: n; contains; pure subroutine s(x); integer, intent(inout) :: x; associate (z => n); x = z; end associate; end; end
--     program p; end
-- accepted
abbrev pub accepted_154 : Type 0
accepted_154 = Finds None
    (program (codes "m" ∷ codes "n" ∷ codes "s" ∷ codes "x" ∷ codes "z" ∷ codes "p" ∷ []) ((unit u.Module (name 0 1 8) ((declares (declaration (Integer Four)
    [] ((entity (name 1 1 22) None None) ∷ []))) ∷ []) no_statements ((procedure true Subroutine (name 2 1 51) ((name 3 1 53) ∷ []) ((declares
    (declaration (Integer Four) ((intent InOut) ∷ []) ((entity (name 3 1 83) None None) ∷ []))) ∷ []) (statements (associates (at 1 86) ((association
    (name 4 1 97) (designator (parts (name 1 1 102) bare no_parts))) ∷ []) (statements (acts (at 1 106) (assign (parts (name 3 1 106) bare no_parts)
    (designator (parts (name 4 1 110) bare no_parts)))) no_statements)) no_statements)) ∷ [])) ∷ (unit u.Program (name 5 2 9) [] no_statements []) ∷ []))
    (looks (((1, One 0) ∷ (2, One 1) ∷ []) ∷ ((1, One 0) ∷ (2, One 1) ∷ (3, One 2) ∷ []) ∷ ((1, One 0) ∷ (2, One 1) ∷ (3, One 2) ∷ (4, One 3) ∷ []) ∷ [] ∷
    [])) (0 ∷ 1 ∷ [])

--     program p; integer :: i; associate (z => i); do z = 1, 2; i = i; end do; z = 3; end associate; end
-- accepted
abbrev pub accepted_155 : Type 0
accepted_155 = Finds None
    (program (codes "p" ∷ codes "i" ∷ codes "z" ∷ []) ((unit u.Program (name 0 1 9) ((declares (declaration (Integer Four) [] ((entity (name 1 1 23) None
    None) ∷ []))) ∷ []) (statements (associates (at 1 26) ((association (name 2 1 37) (designator (parts (name 1 1 42) bare no_parts))) ∷ []) (statements
    (repeats (at 1 46) (counted (name 2 1 49) (four (at 1 53) 1) (four (at 1 56) 2) None) (statements (acts (at 1 59) (assign (parts (name 1 1 59) bare
    no_parts) (designator (parts (name 1 1 63) bare no_parts)))) no_statements)) (statements (acts (at 1 74) (assign (parts (name 2 1 74) bare no_parts)
    (four (at 1 78) 3))) no_statements))) no_statements) []) ∷ [])) (looks (((1, One 0) ∷ []) ∷ ((1, One 0) ∷ (2, One 1) ∷ []) ∷ [])) (0 ∷ [])

--     module m; contains; subroutine s(b); logical, intent(in) :: b; integer :: i; if (b) then; associate (z => 1); i = z; end associate
--     else if (.not. b) then; associate (z => .true.); if (z) i = 1; end associate; else; associate (z => [1, 2]); i = z(2); end associate
--     end if; select case (i); case (1); associate (z => .false.); if (z) i = 2; end associate; case default; associate (z => 3, y => [.true.])
--     i = z; if (y(1)) i = 4; end associate; end select; do i = 1, 2; associate (z => i); if (z == 1) cycle; associate (z => z == 2)
--     if (z) exit; end associate; end associate; end do; associate (y => i); associate (z => y + 1); associate (x => z == y); if (x) i = 1
--     end associate; end associate; end associate; end; subroutine t(); associate (z => .true.); if (z) return; end associate
--     associate (w => 1); print *, w; end associate; end; integer function f(); associate (z => 2); f = z; end associate; end; end
--     program p; use m; associate (z => f()); print *, z + 1; end associate; end
-- accepted
abbrev pub accepted_156 : Type 0
accepted_156 = Finds None
    (program (codes "m" ∷ codes "s" ∷ codes "b" ∷ codes "i" ∷ codes "z" ∷ codes "y" ∷ codes "cycle" ∷ codes "exit" ∷ codes "x" ∷ codes "t" ∷ codes "return" ∷
    codes "w" ∷ codes "print" ∷ codes "f" ∷ codes "p" ∷ []) ((unit u.Module (name 0 1 8) [] no_statements ((procedure false Subroutine (name 1 1 32)
    ((name 2 1 34) ∷ []) ((declares (declaration Logical ((intent In) ∷ []) ((entity (name 2 1 61) None None) ∷ []))) ∷ (declares (declaration (Integer
    Four) [] ((entity (name 3 1 75) None None) ∷ []))) ∷ []) (statements (branches (branch (at 1 78) (designator (parts (name 2 1 82) bare no_parts))
    (statements (associates (at 1 91) ((association (name 4 1 102) (four (at 1 107) 1)) ∷ []) (statements (acts (at 1 111) (assign (parts (name 3 1 111)
    bare no_parts) (designator (parts (name 4 1 115) bare no_parts)))) no_statements)) no_statements) (branch (at 2 1) (negation (at 2 10) (designator
    (parts (name 2 2 16) bare no_parts))) (statements (associates (at 2 25) ((association (name 4 2 36) (truth (at 2 41) true)) ∷ []) (statements (acts_if
    (at 2 50) (designator (parts (name 4 2 54) bare no_parts)) (at 2 57) (assign (parts (name 3 2 57) bare no_parts) (four (at 2 61) 1))) no_statements))
    no_statements) no_branches)) (alternative (statements (associates (at 2 85) ((association (name 4 2 96) (array (at 2 101) (trees (four (at 2 102) 1)
    (trees (four (at 2 105) 2) no_trees)))) ∷ []) (statements (acts (at 2 110) (assign (parts (name 3 2 110) bare no_parts) (designator (parts (name 4 2
    114) (within (arguments (value None (four (at 2 116) 2)) no_arguments)) no_parts)))) no_statements)) no_statements))) (statements (selects (at 3 9)
    (designator (parts (name 3 3 22) bare no_parts)) (case_block (at 3 26) (values ((one (four (at 3 32) 1)) ∷ [])) (statements (associates (at 3 36)
    ((association (name 4 3 47) (truth (at 3 52) false)) ∷ []) (statements (acts_if (at 3 62) (designator (parts (name 4 3 66) bare no_parts)) (at 3 69)
    (assign (parts (name 3 3 69) bare no_parts) (four (at 3 73) 2))) no_statements)) no_statements) (case_block (at 3 91) default (statements (associates
    (at 3 105) ((association (name 4 3 116) (four (at 3 121) 3)) ∷ (association (name 5 3 124) (array (at 3 129) (trees (truth (at 3 130) true)
    no_trees))) ∷ []) (statements (acts (at 4 1) (assign (parts (name 3 4 1) bare no_parts) (designator (parts (name 4 4 5) bare no_parts)))) (statements
    (acts_if (at 4 8) (designator (parts (name 5 4 12) (within (arguments (value None (four (at 4 14) 1)) no_arguments)) no_parts)) (at 4 18) (assign
    (parts (name 3 4 18) bare no_parts) (four (at 4 22) 4))) no_statements))) no_statements) no_cases))) (statements (repeats (at 4 52) (counted (name 3 4
    55) (four (at 4 59) 1) (four (at 4 62) 2) None) (statements (associates (at 4 65) ((association (name 4 4 76) (designator (parts (name 3 4 81) bare
    no_parts))) ∷ []) (statements (acts_if (at 4 85) (comparison (designator (parts (name 4 4 89) bare no_parts)) r.Equal (four (at 4 94) 1)) (at 4 97)
    cycle) (statements (associates (at 4 104) ((association (name 4 4 115) (comparison (designator (parts (name 4 4 120) bare no_parts)) r.Equal (four (at
    4 125) 2))) ∷ []) (statements (acts_if (at 5 1) (designator (parts (name 4 5 5) bare no_parts)) (at 5 8) exit) no_statements)) no_statements)))
    no_statements)) (statements (associates (at 5 52) ((association (name 5 5 63) (designator (parts (name 3 5 68) bare no_parts))) ∷ []) (statements
    (associates (at 5 72) ((association (name 4 5 83) (chain (designator (parts (name 5 5 88) bare no_parts)) (more o.Add (four (at 5 92) 1) no_more))) ∷
    []) (statements (associates (at 5 96) ((association (name 8 5 107) (comparison (designator (parts (name 4 5 112) bare no_parts)) r.Equal (designator
    (parts (name 5 5 117) bare no_parts)))) ∷ []) (statements (acts_if (at 5 121) (designator (parts (name 8 5 125) bare no_parts)) (at 5 128) (assign
    (parts (name 3 5 128) bare no_parts) (four (at 5 132) 1))) no_statements)) no_statements)) no_statements)) no_statements))))) ∷ (procedure false
    Subroutine (name 9 6 62) [] [] (statements (associates (at 6 67) ((association (name 4 6 78) (truth (at 6 83) true)) ∷ []) (statements (acts_if (at 6
    92) (designator (parts (name 4 6 96) bare no_parts)) (at 6 99) return) no_statements)) (statements (associates (at 7 1) ((association (name 11 7 12)
    (four (at 7 17) 1)) ∷ []) (statements (acts (at 7 21) (print ((designator (parts (name 11 7 30) bare no_parts)) ∷ []))) no_statements))
    no_statements))) ∷ (procedure false (Function (Some (Integer Four)) None) (name 13 7 70) [] [] (statements (associates (at 7 75) ((association (name 4
    7 86) (four (at 7 91) 2)) ∷ []) (statements (acts (at 7 95) (assign (parts (name 13 7 95) bare no_parts) (designator (parts (name 4 7 99) bare
    no_parts)))) no_statements)) no_statements)) ∷ [])) ∷ (unit u.Program (name 14 8 9) [] (statements (associates (at 8 19) ((association (name 4 8 30)
    (designator (parts (name 13 8 35) (within no_arguments) no_parts))) ∷ []) (statements (acts (at 8 41) (print ((chain (designator (parts (name 4 8 50)
    bare no_parts)) (more o.Add (four (at 8 54) 1) no_more)) ∷ []))) no_statements)) no_statements) []) ∷ [])) (looks (((1, One 0) ∷ (9, One 1) ∷ (
      13,
      One
          2,
    ) ∷ []) ∷ ((1, One 0) ∷ (2, One 3) ∷ (3, One 4) ∷ (9, One 1) ∷ (13, One 2) ∷ []) ∷ ((1, One 0) ∷ (2, One 3) ∷ (3, One 4) ∷ (4, One 5) ∷ (9, One 1) ∷
    (13, One 2) ∷ []) ∷ ((1, One 0) ∷ (2, One 3) ∷ (3, One 4) ∷ (4, One 6) ∷ (9, One 1) ∷ (13, One 2) ∷ []) ∷ ((1, One 0) ∷ (2, One 3) ∷ (3, One 4) ∷ (
      4,
      One 7,
    ) ∷ (9, One 1) ∷ (13, One 2) ∷ []) ∷ ((1, One 0) ∷ (2, One 3) ∷ (3, One 4) ∷ (4, One 8) ∷ (9, One 1) ∷ (13, One 2) ∷ []) ∷ ((1, One 0) ∷ (
      2,
      One
          3,
    ) ∷ (3, One 4) ∷ (4, One 9) ∷ (5, One 10) ∷ (9, One 1) ∷ (13, One 2) ∷ []) ∷ ((1, One 0) ∷ (2, One 3) ∷ (3, One 4) ∷ (4, One 11) ∷ (9, One 1) ∷ (
      13,
      One 2,
    ) ∷ []) ∷ ((1, One 0) ∷ (2, One 3) ∷ (3, One 4) ∷ (4, One 12) ∷ (9, One 1) ∷ (13, One 2) ∷ []) ∷ ((1, One 0) ∷ (2, One 3) ∷ (3, One 4) ∷ (
      5,
      One
          13,
    ) ∷ (9, One 1) ∷ (13, One 2) ∷ []) ∷ ((1, One 0) ∷ (2, One 3) ∷ (3, One 4) ∷ (4, One 14) ∷ (5, One 13) ∷ (9, One 1) ∷ (13, One 2) ∷ []) ∷ ((
      1,
      One
          0,
    ) ∷ (2, One 3) ∷ (3, One 4) ∷ (4, One 14) ∷ (5, One 13) ∷ (8, One 15) ∷ (9, One 1) ∷ (13, One 2) ∷ []) ∷ ((1, One 0) ∷ (9, One 1) ∷ (13, One 2) ∷ [])
    ∷ ((1, One 0) ∷ (4, One 16) ∷ (9, One 1) ∷ (13, One 2) ∷ []) ∷ ((1, One 0) ∷ (9, One 1) ∷ (11, One 17) ∷ (13, One 2) ∷ []) ∷ ((1, One 0) ∷ (9, One 1)
    ∷ (13, One 18) ∷ []) ∷ ((1, One 0) ∷ (4, One 19) ∷ (9, One 1) ∷ (13, One 18) ∷ []) ∷ ((1, One 0) ∷ (9, One 1) ∷ (13, One 2) ∷ []) ∷ ((1, One 0) ∷ (
      4,
      One 20,
    ) ∷ (9, One 1) ∷ (13, One 2) ∷ []) ∷ [])) (0 ∷ 1 ∷ [])

--     module m; contains; subroutine s(); associate (z => 1); print *, z; end associate; end; subroutine t(); integer, parameter :: k = 2
--     integer :: a(k) = [1, 2]; a = k; end; end
--     program p; end
-- accepted
abbrev pub accepted_157 : Type 0
accepted_157 = Finds None
    (program (codes "m" ∷ codes "s" ∷ codes "z" ∷ codes "print" ∷ codes "t" ∷ codes "k" ∷ codes "a" ∷ codes "p" ∷ []) ((unit u.Module (name 0 1 8) []
    no_statements ((procedure false Subroutine (name 1 1 32) [] [] (statements (associates (at 1 37) ((association (name 2 1 48) (four (at 1 53) 1)) ∷ [])
    (statements (acts (at 1 57) (print ((designator (parts (name 2 1 66) bare no_parts)) ∷ []))) no_statements)) no_statements)) ∷ (procedure false
    Subroutine (name 4 1 100) [] ((declares (declaration (Integer Four) (parameter ∷ []) ((entity (name 5 1 127) None (Some (four (at 1 131) 2))) ∷ [])))
    ∷ (declares (declaration (Integer Four) [] ((entity (name 6 2 12) (Some (explicit ((bounds None (designator (parts (name 5 2 14) bare no_parts))) ∷
    []))) (Some (array (at 2 19) (trees (four (at 2 20) 1) (trees (four (at 2 23) 2) no_trees))))) ∷ []))) ∷ []) (statements (acts (at 2 27) (assign
    (parts (name 6 2 27) bare no_parts) (designator (parts (name 5 2 31) bare no_parts)))) no_statements)) ∷ [])) ∷ (unit u.Program (name 7 3 9) []
    no_statements []) ∷ [])) (looks (((1, One 0) ∷ (4, One 1) ∷ []) ∷ ((1, One 0) ∷ (4, One 1) ∷ []) ∷ ((1, One 0) ∷ (2, One 2) ∷ (4, One 1) ∷ []) ∷ ((
      1,
      One 0,
    ) ∷ (4, One 1) ∷ (5, One 3) ∷ (6, One 4) ∷ []) ∷ [] ∷ [])) (0 ∷ 1 ∷ [])

--     program p; use m; associate (y => x%c); y = 1; end associate; end
--     module m; type t; integer :: c; end type; type(t) :: x; end
-- accepted
abbrev pub accepted_158 : Type 0
accepted_158 = Finds None
    (program (codes "p" ∷ codes "y" ∷ codes "x" ∷ codes "c" ∷ codes "m" ∷ codes "t" ∷ []) ((unit u.Program (name 0 1 9) [] (statements (associates (at 1 19)
    ((association (name 1 1 30) (designator (parts (name 2 1 35) bare (parts (name 3 1 37) bare no_parts)))) ∷ []) (statements (acts (at 1 41) (assign
    (parts (name 1 1 41) bare no_parts) (four (at 1 45) 1))) no_statements)) no_statements) []) ∷ (unit u.Module (name 4 2 8) ((type_definition (name 5 2
    16) false ((declaration (Integer Four) [] ((entity (name 3 2 30) None None) ∷ [])) ∷ []) []) ∷ (declares (declaration (Derived (name 5 2 48)) []
    ((entity (name 2 2 54) None None) ∷ []))) ∷ []) no_statements []) ∷ [])) (looks (((2, One 2) ∷ (5, One 1) ∷ []) ∷ ((1, One 0) ∷ (2, One 2) ∷ (
      5,
      One
          1,
    ) ∷ []) ∷ ((2, One 2) ∷ (5, One 1) ∷ []) ∷ [])) (1 ∷ 0 ∷ [])

--     program p; associate (z => 1, y => 2); print *, z + y; end associate; end
--     module m; type t; integer :: i; contains; final :: f, g; end type; contains; subroutine e(); associate (z => 1); print *, z; end associate
--     end; subroutine f(x); type(t), intent(in) :: x; end; subroutine g(x); type(t), intent(in) :: x(:); end; end
-- accepted
abbrev pub accepted_159 : Type 0
accepted_159 = Finds None
    (program (codes "p" ∷ codes "z" ∷ codes "y" ∷ codes "print" ∷ codes "m" ∷ codes "t" ∷ codes "i" ∷ codes "f" ∷ codes "g" ∷ codes "e" ∷ codes "x" ∷ [])
    ((unit u.Program (name 0 1 9) [] (statements (associates (at 1 12) ((association (name 1 1 23) (four (at 1 28) 1)) ∷ (association (name 2 1 31) (four
    (at 1 36) 2)) ∷ []) (statements (acts (at 1 40) (print ((chain (designator (parts (name 1 1 49) bare no_parts)) (more o.Add (designator (parts (name 2
    1 53) bare no_parts)) no_more)) ∷ []))) no_statements)) no_statements) []) ∷ (unit u.Module (name 4 2 8) ((type_definition (name 5 2 16) false
    ((declaration (Integer Four) [] ((entity (name 6 2 30) None None) ∷ [])) ∷ []) ((name 7 2 52) ∷ (name 8 2 55) ∷ [])) ∷ []) no_statements ((procedure
    false Subroutine (name 9 2 89) [] [] (statements (associates (at 2 94) ((association (name 1 2 105) (four (at 2 110) 1)) ∷ []) (statements (acts (at 2
    114) (print ((designator (parts (name 1 2 123) bare no_parts)) ∷ []))) no_statements)) no_statements)) ∷ (procedure false Subroutine (name 7 3 17)
    ((name 10 3 19) ∷ []) ((declares (declaration (Derived (name 5 3 28)) ((intent In) ∷ []) ((entity (name 10 3 46) None None) ∷ []))) ∷ [])
    no_statements) ∷ (procedure false Subroutine (name 8 3 65) ((name 10 3 67) ∷ []) ((declares (declaration (Derived (name 5 3 76)) ((intent In) ∷ [])
    ((entity (name 10 3 94) (Some (deferred (None ∷ []))) None) ∷ []))) ∷ []) no_statements) ∷ [])) ∷ [])) (looks ([] ∷ ((1, One 0) ∷ (2, One 1) ∷ []) ∷
    ((5, One 2) ∷ (7, One 4) ∷ (8, One 5) ∷ (9, One 3) ∷ []) ∷ ((5, One 2) ∷ (7, One 4) ∷ (8, One 5) ∷ (9, One 3) ∷ []) ∷ ((1, One 6) ∷ (5, One 2) ∷ (
      7,
      One 4,
    ) ∷ (8, One 5) ∷ (9, One 3) ∷ []) ∷ ((5, One 2) ∷ (7, One 4) ∷ (8, One 5) ∷ (9, One 3) ∷ (10, One 7) ∷ []) ∷ ((5, One 2) ∷ (7, One 4) ∷ (
      8,
      One
          5,
    ) ∷ (9, One 3) ∷ (10, One 8) ∷ []) ∷ [])) (0 ∷ 1 ∷ [])

--     program p; associate (size => 3); print *, size; end associate; end
-- accepted
abbrev pub accepted_160 : Type 0
accepted_160 = Finds None
    (program (codes "p" ∷ codes "size" ∷ codes "print" ∷ []) ((unit u.Program (name 0 1 9) [] (statements (associates (at 1 12) ((association (name 1 1 23)
    (four (at 1 31) 3)) ∷ []) (statements (acts (at 1 35) (print ((designator (parts (name 1 1 44) bare no_parts)) ∷ []))) no_statements)) no_statements)
    []) ∷ [])) (looks ([] ∷ ((1, One 0) ∷ []) ∷ [])) (0 ∷ [])

--     module m; type t; integer, allocatable :: a(:); end type; end
--     program p; use m; type(t) :: x; associate (z => x); allocate(z%a(2)); z%a = 1; deallocate(z%a); end associate; end
-- accepted
abbrev pub accepted_161 : Type 0
accepted_161 = Finds None
    (program (codes "m" ∷ codes "t" ∷ codes "a" ∷ codes "p" ∷ codes "x" ∷ codes "z" ∷ codes "allocate" ∷ codes "deallocate" ∷ []) ((unit u.Module (name 0 1 8)
    ((type_definition (name 1 1 16) false ((declaration (Integer Four) (allocatable ∷ []) ((entity (name 2 1 43) (Some (deferred (None ∷ []))) None) ∷
    [])) ∷ []) []) ∷ []) no_statements []) ∷ (unit u.Program (name 3 2 9) ((declares (declaration (Derived (name 1 2 24)) [] ((entity (name 4 2 30) None
    None) ∷ []))) ∷ []) (statements (associates (at 2 33) ((association (name 5 2 44) (designator (parts (name 4 2 49) bare no_parts))) ∷ []) (statements
    (acts (at 2 53) (allocate ((parts (name 5 2 62) bare (parts (name 2 2 64) (within (arguments (value None (four (at 2 66) 2)) no_arguments)) no_parts))
    ∷ []) None)) (statements (acts (at 2 71) (assign (parts (name 5 2 71) bare (parts (name 2 2 73) bare no_parts)) (four (at 2 77) 1))) (statements (acts
    (at 2 80) (deallocate ((parts (name 5 2 91) bare (parts (name 2 2 93) bare no_parts)) ∷ []) None)) no_statements)))) no_statements) []) ∷ [])) (looks
    (((1, One 0) ∷ []) ∷ ((1, One 0) ∷ (4, One 1) ∷ []) ∷ ((1, One 0) ∷ (4, One 1) ∷ (5, One 2) ∷ []) ∷ [])) (0 ∷ 1 ∷ [])

--     program p; integer(8) :: n = 1_8 + 2147483647 + 1; end
-- accepted
abbrev pub accepted_162 : Type 0
accepted_162 = Finds None
    (program (codes "p" ∷ codes "n" ∷ []) ((unit u.Program (name 0 1 9) ((declares (declaration (Integer Eight) [] ((entity (name 1 1 26) None (Some (chain
    (eight (at 1 30) 1) (more o.Add (four (at 1 36) 2147483647) (more o.Add (four (at 1 49) 1) no_more))))) ∷ []))) ∷ []) no_statements []) ∷ [])) (looks
    (((1, One 0) ∷ []) ∷ [])) (0 ∷ [])

--     program p; integer :: n = 2 ** (-1_8) + (-1_8) ** (-3) + 1_8 ** (-5) + 0_8 ** 0; end
-- accepted
abbrev pub accepted_163 : Type 0
accepted_163 = Finds None
    (program (codes "p" ∷ codes "n" ∷ []) ((unit u.Program (name 0 1 9) ((declares (declaration (Integer Four) [] ((entity (name 1 1 23) None (Some (chain
    (chain (four (at 1 27) 2) (more o.Power (group (at 1 32) (signed (at 1 33) Minus (eight (at 1 34) 1))) no_more)) (more o.Add (chain (group (at 1 41)
    (signed (at 1 42) Minus (eight (at 1 43) 1))) (more o.Power (group (at 1 51) (signed (at 1 52) Minus (four (at 1 53) 3))) no_more)) (more o.Add (chain
    (eight (at 1 58) 1) (more o.Power (group (at 1 65) (signed (at 1 66) Minus (four (at 1 67) 5))) no_more)) (more o.Add (chain (eight (at 1 72) 0) (more
    o.Power (four (at 1 79) 0) no_more)) no_more)))))) ∷ []))) ∷ []) no_statements []) ∷ [])) (looks (((1, One 0) ∷ []) ∷ [])) (0 ∷ [])

--     program p; integer(8), parameter :: k = 2147483647; integer(8) :: n = k + 1; end
-- accepted
abbrev pub accepted_164 : Type 0
accepted_164 = Finds None
    (program (codes "p" ∷ codes "k" ∷ codes "n" ∷ []) ((unit u.Program (name 0 1 9) ((declares (declaration (Integer Eight) (parameter ∷ []) ((entity (name 1
    1 37) None (Some (four (at 1 41) 2147483647))) ∷ []))) ∷ (declares (declaration (Integer Eight) [] ((entity (name 2 1 67) None (Some (chain
    (designator (parts (name 1 1 71) bare no_parts)) (more o.Add (four (at 1 75) 1) no_more)))) ∷ []))) ∷ []) no_statements []) ∷ [])) (looks (((1, One 0)
    ∷ (2, One 1) ∷ []) ∷ [])) (0 ∷ [])

--     program p; use m; integer(8) :: n = k; end
--     module m; integer(8), parameter :: k = 2147483648_8; end
-- accepted
abbrev pub accepted_165 : Type 0
accepted_165 = Finds None
    (program (codes "p" ∷ codes "n" ∷ codes "k" ∷ codes "m" ∷ []) ((unit u.Program (name 0 1 9) ((declares (declaration (Integer Eight) [] ((entity (name 1 1
    33) None (Some (designator (parts (name 2 1 37) bare no_parts)))) ∷ []))) ∷ []) no_statements []) ∷ (unit u.Module (name 3 2 8) ((declares
    (declaration (Integer Eight) (parameter ∷ []) ((entity (name 2 2 36) None (Some (eight (at 2 40) 2147483648))) ∷ []))) ∷ []) no_statements []) ∷ []))
    (looks (((1, One 0) ∷ (2, One 1) ∷ []) ∷ ((2, One 1) ∷ []) ∷ [])) (1 ∷ 0 ∷ [])

--     program p; integer :: a(2_8:3); integer, dimension(1:2_8) :: b = [7_8, 8_8]; end
-- accepted
abbrev pub accepted_166 : Type 0
accepted_166 = Finds None
    (program (codes "p" ∷ codes "a" ∷ codes "b" ∷ []) ((unit u.Program (name 0 1 9) ((declares (declaration (Integer Four) [] ((entity (name 1 1 23) (Some
    (explicit ((bounds (Some (eight (at 1 25) 2)) (four (at 1 29) 3)) ∷ []))) None) ∷ []))) ∷ (declares (declaration (Integer Four) ((dimension (explicit
    ((bounds (Some (four (at 1 52) 1)) (eight (at 1 54) 2)) ∷ []))) ∷ []) ((entity (name 2 1 62) None (Some (array (at 1 66) (trees (eight (at 1 67) 7)
    (trees (eight (at 1 72) 8) no_trees))))) ∷ []))) ∷ []) no_statements []) ∷ [])) (looks (((1, One 0) ∷ (2, One 1) ∷ []) ∷ [])) (0 ∷ [])

--     module m; contains; subroutine s(x); integer(8), intent(in) :: x(3_8:); print *, x; end; end
--     program p; use m; call s([1_8, 2_8]); end
-- accepted
abbrev pub accepted_167 : Type 0
accepted_167 = Finds None
    (program (codes "m" ∷ codes "s" ∷ codes "x" ∷ codes "print" ∷ codes "p" ∷ codes "call" ∷ []) ((unit u.Module (name 0 1 8) [] no_statements ((procedure
    false Subroutine (name 1 1 32) ((name 2 1 34) ∷ []) ((declares (declaration (Integer Eight) ((intent In) ∷ []) ((entity (name 2 1 64) (Some (deferred
    ((Some (eight (at 1 66) 3)) ∷ []))) None) ∷ []))) ∷ []) (statements (acts (at 1 73) (print ((designator (parts (name 2 1 82) bare no_parts)) ∷ [])))
    no_statements)) ∷ [])) ∷ (unit u.Program (name 4 2 9) [] (statements (acts (at 2 19) (call (name 1 2 24) ((value None (array (at 2 26) (trees (eight
    (at 2 27) 1) (trees (eight (at 2 32) 2) no_trees)))) ∷ []))) no_statements) []) ∷ [])) (looks (((1, One 0) ∷ []) ∷ ((1, One 0) ∷ (2, One 1) ∷ []) ∷
    ((1, One 0) ∷ []) ∷ [])) (0 ∷ 1 ∷ [])

--     module m; type t; integer(8) :: c; end type; contains; subroutine s(x); integer(8), intent(inout) :: x; x = 1; end; end
--     program p; use m; type(t) :: x; call s(x%c); end
-- accepted
abbrev pub accepted_168 : Type 0
accepted_168 = Finds None
    (program (codes "m" ∷ codes "t" ∷ codes "c" ∷ codes "s" ∷ codes "x" ∷ codes "p" ∷ codes "call" ∷ []) ((unit u.Module (name 0 1 8) ((type_definition (name
    1 1 16) false ((declaration (Integer Eight) [] ((entity (name 2 1 33) None None) ∷ [])) ∷ []) []) ∷ []) no_statements ((procedure false Subroutine
    (name 3 1 67) ((name 4 1 69) ∷ []) ((declares (declaration (Integer Eight) ((intent InOut) ∷ []) ((entity (name 4 1 102) None None) ∷ []))) ∷ [])
    (statements (acts (at 1 105) (assign (parts (name 4 1 105) bare no_parts) (four (at 1 109) 1))) no_statements)) ∷ [])) ∷ (unit u.Program (name 5 2 9)
    ((declares (declaration (Derived (name 1 2 24)) [] ((entity (name 4 2 30) None None) ∷ []))) ∷ []) (statements (acts (at 2 33) (call (name 3 2 38)
    ((value None (designator (parts (name 4 2 40) bare (parts (name 2 2 42) bare no_parts)))) ∷ []))) no_statements) []) ∷ [])) (looks (((1, One 0) ∷ (
      3,
      One 1,
    ) ∷ []) ∷ ((1, One 0) ∷ (3, One 1) ∷ (4, One 2) ∷ []) ∷ ((1, One 0) ∷ (3, One 1) ∷ (4, One 3) ∷ []) ∷ [])) (0 ∷ 1 ∷ [])

--     program p; integer(8) :: a(3); a = [1_8, 2_8, 3_8]; a = 4; a(1:2) = [1, 2]; end
-- accepted
abbrev pub accepted_169 : Type 0
accepted_169 = Finds None
    (program (codes "p" ∷ codes "a" ∷ []) ((unit u.Program (name 0 1 9) ((declares (declaration (Integer Eight) [] ((entity (name 1 1 26) (Some (explicit
    ((bounds None (four (at 1 28) 3)) ∷ []))) None) ∷ []))) ∷ []) (statements (acts (at 1 32) (assign (parts (name 1 1 32) bare no_parts) (array (at 1 36)
    (trees (eight (at 1 37) 1) (trees (eight (at 1 42) 2) (trees (eight (at 1 47) 3) no_trees)))))) (statements (acts (at 1 53) (assign (parts (name 1 1
    53) bare no_parts) (four (at 1 57) 4))) (statements (acts (at 1 60) (assign (parts (name 1 1 60) (within (arguments (triplet (at 1 62) (present (four
    (at 1 62) 1)) (present (four (at 1 64) 2)) absent) no_arguments)) no_parts) (array (at 1 69) (trees (four (at 1 70) 1) (trees (four (at 1 73) 2)
    no_trees))))) no_statements))) []) ∷ [])) (looks (((1, One 0) ∷ []) ∷ [])) (0 ∷ [])

--     program p; integer :: i, a(2); do i = 1, 2; associate (z => a(i)); z = 1; end associate; end do; end
-- accepted
abbrev pub accepted_170 : Type 0
accepted_170 = Finds None
    (program (codes "p" ∷ codes "i" ∷ codes "a" ∷ codes "z" ∷ []) ((unit u.Program (name 0 1 9) ((declares (declaration (Integer Four) [] ((entity (name 1 1
    23) None None) ∷ (entity (name 2 1 26) (Some (explicit ((bounds None (four (at 1 28) 2)) ∷ []))) None) ∷ []))) ∷ []) (statements (repeats (at 1 32)
    (counted (name 1 1 35) (four (at 1 39) 1) (four (at 1 42) 2) None) (statements (associates (at 1 45) ((association (name 3 1 56) (designator (parts
    (name 2 1 61) (within (arguments (value None (designator (parts (name 1 1 63) bare no_parts))) no_arguments)) no_parts))) ∷ []) (statements (acts (at
    1 68) (assign (parts (name 3 1 68) bare no_parts) (four (at 1 72) 1))) no_statements)) no_statements)) no_statements) []) ∷ [])) (looks (((1, One 0) ∷
    (2, One 1) ∷ []) ∷ ((1, One 0) ∷ (2, One 1) ∷ (3, One 2) ∷ []) ∷ [])) (0 ∷ [])

--     program p; integer :: i, n; do i = 1, 2; associate (i => n); i = 3; end associate; end do; end
-- accepted
abbrev pub accepted_171 : Type 0
accepted_171 = Finds None
    (program (codes "p" ∷ codes "i" ∷ codes "n" ∷ []) ((unit u.Program (name 0 1 9) ((declares (declaration (Integer Four) [] ((entity (name 1 1 23) None
    None) ∷ (entity (name 2 1 26) None None) ∷ []))) ∷ []) (statements (repeats (at 1 29) (counted (name 1 1 32) (four (at 1 36) 1) (four (at 1 39) 2)
    None) (statements (associates (at 1 42) ((association (name 1 1 53) (designator (parts (name 2 1 58) bare no_parts))) ∷ []) (statements (acts (at 1
    62) (assign (parts (name 1 1 62) bare no_parts) (four (at 1 66) 3))) no_statements)) no_statements)) no_statements) []) ∷ [])) (looks (((1, One 0) ∷
    (2, One 1) ∷ []) ∷ ((1, One 2) ∷ (2, One 1) ∷ []) ∷ [])) (0 ∷ [])

--     program p; integer :: i; associate (z => 1); associate (z => .true.); if (z) i = 1; end associate; i = z; end associate; end
-- accepted
abbrev pub accepted_172 : Type 0
accepted_172 = Finds None
    (program (codes "p" ∷ codes "i" ∷ codes "z" ∷ []) ((unit u.Program (name 0 1 9) ((declares (declaration (Integer Four) [] ((entity (name 1 1 23) None
    None) ∷ []))) ∷ []) (statements (associates (at 1 26) ((association (name 2 1 37) (four (at 1 42) 1)) ∷ []) (statements (associates (at 1 46)
    ((association (name 2 1 57) (truth (at 1 62) true)) ∷ []) (statements (acts_if (at 1 71) (designator (parts (name 2 1 75) bare no_parts)) (at 1 78)
    (assign (parts (name 1 1 78) bare no_parts) (four (at 1 82) 1))) no_statements)) (statements (acts (at 1 100) (assign (parts (name 1 1 100) bare
    no_parts) (designator (parts (name 2 1 104) bare no_parts)))) no_statements))) no_statements) []) ∷ [])) (looks (((1, One 0) ∷ []) ∷ ((1, One 0) ∷ (
      2,
      One 1,
    ) ∷ []) ∷ ((1, One 0) ∷ (2, One 2) ∷ []) ∷ [])) (0 ∷ [])

--     module a; integer :: n; end
--     module b; integer :: n; end
--     program p; use a; use b; associate (n => 1); print *, n; end associate; end
-- accepted
abbrev pub accepted_173 : Type 0
accepted_173 = Finds None
    (program (codes "a" ∷ codes "n" ∷ codes "b" ∷ codes "p" ∷ codes "print" ∷ []) ((unit u.Module (name 0 1 8) ((declares (declaration (Integer Four) []
    ((entity (name 1 1 22) None None) ∷ []))) ∷ []) no_statements []) ∷ (unit u.Module (name 2 2 8) ((declares (declaration (Integer Four) [] ((entity
    (name 1 2 22) None None) ∷ []))) ∷ []) no_statements []) ∷ (unit u.Program (name 3 3 9) [] (statements (associates (at 3 26) ((association (name 1 3
    37) (four (at 3 42) 1)) ∷ []) (statements (acts (at 3 46) (print ((designator (parts (name 1 3 55) bare no_parts)) ∷ []))) no_statements))
    no_statements) []) ∷ [])) (looks (((1, One 0) ∷ []) ∷ ((1, One 1) ∷ []) ∷ ((1, Several) ∷ []) ∷ ((1, One 2) ∷ []) ∷ [])) (0 ∷ 1 ∷ 2 ∷ [])

--     module m; contains; subroutine s(b); logical, intent(in) :: b; integer :: i; if (b) then; associate (x => 1); i = x; end associate
--     else if (.not. b) then; associate (y => 2); i = y; end associate; else; associate (w => 3); i = w; end associate; end if
--     associate (v => 4); i = v; end associate; end; end
--     program p; end
-- accepted
abbrev pub accepted_174 : Type 0
accepted_174 = Finds None
    (program (codes "m" ∷ codes "s" ∷ codes "b" ∷ codes "i" ∷ codes "x" ∷ codes "y" ∷ codes "w" ∷ codes "v" ∷ codes "p" ∷ []) ((unit u.Module (name 0 1 8) []
    no_statements ((procedure false Subroutine (name 1 1 32) ((name 2 1 34) ∷ []) ((declares (declaration Logical ((intent In) ∷ []) ((entity (name 2 1
    61) None None) ∷ []))) ∷ (declares (declaration (Integer Four) [] ((entity (name 3 1 75) None None) ∷ []))) ∷ []) (statements (branches (branch (at 1
    78) (designator (parts (name 2 1 82) bare no_parts)) (statements (associates (at 1 91) ((association (name 4 1 102) (four (at 1 107) 1)) ∷ [])
    (statements (acts (at 1 111) (assign (parts (name 3 1 111) bare no_parts) (designator (parts (name 4 1 115) bare no_parts)))) no_statements))
    no_statements) (branch (at 2 1) (negation (at 2 10) (designator (parts (name 2 2 16) bare no_parts))) (statements (associates (at 2 25) ((association
    (name 5 2 36) (four (at 2 41) 2)) ∷ []) (statements (acts (at 2 45) (assign (parts (name 3 2 45) bare no_parts) (designator (parts (name 5 2 49) bare
    no_parts)))) no_statements)) no_statements) no_branches)) (alternative (statements (associates (at 2 73) ((association (name 6 2 84) (four (at 2 89)
    3)) ∷ []) (statements (acts (at 2 93) (assign (parts (name 3 2 93) bare no_parts) (designator (parts (name 6 2 97) bare no_parts)))) no_statements))
    no_statements))) (statements (associates (at 3 1) ((association (name 7 3 12) (four (at 3 17) 4)) ∷ []) (statements (acts (at 3 21) (assign (parts
    (name 3 3 21) bare no_parts) (designator (parts (name 7 3 25) bare no_parts)))) no_statements)) no_statements))) ∷ [])) ∷ (unit u.Program (name 8 4 9)
    [] no_statements []) ∷ [])) (looks (((1, One 0) ∷ []) ∷ ((1, One 0) ∷ (2, One 1) ∷ (3, One 2) ∷ []) ∷ ((1, One 0) ∷ (2, One 1) ∷ (3, One 2) ∷ (
      4,
      One
          3,
    ) ∷ []) ∷ ((1, One 0) ∷ (2, One 1) ∷ (3, One 2) ∷ (5, One 4) ∷ []) ∷ ((1, One 0) ∷ (2, One 1) ∷ (3, One 2) ∷ (6, One 5) ∷ []) ∷ ((1, One 0) ∷ (
      2,
      One
          1,
    ) ∷ (3, One 2) ∷ (7, One 6) ∷ []) ∷ [] ∷ [])) (0 ∷ 1 ∷ [])

--     program p; integer :: i; i = 1; select case (i); case (1); associate (x => 1); i = x; end associate; case (2); associate (y => 2); i = y
--     end associate; case default; associate (w => 3); i = w; end associate; end select; do i = 1, 2; associate (v => 4); print *, v
--     end associate; end do; associate (u => 5); print *, u; end associate; end
-- accepted
abbrev pub accepted_175 : Type 0
accepted_175 = Finds None
    (program (codes "p" ∷ codes "i" ∷ codes "x" ∷ codes "y" ∷ codes "w" ∷ codes "v" ∷ codes "print" ∷ codes "u" ∷ []) ((unit u.Program (name 0 1 9) ((declares
    (declaration (Integer Four) [] ((entity (name 1 1 23) None None) ∷ []))) ∷ []) (statements (acts (at 1 26) (assign (parts (name 1 1 26) bare no_parts)
    (four (at 1 30) 1))) (statements (selects (at 1 33) (designator (parts (name 1 1 46) bare no_parts)) (case_block (at 1 50) (values ((one (four (at 1
    56) 1)) ∷ [])) (statements (associates (at 1 60) ((association (name 2 1 71) (four (at 1 76) 1)) ∷ []) (statements (acts (at 1 80) (assign (parts
    (name 1 1 80) bare no_parts) (designator (parts (name 2 1 84) bare no_parts)))) no_statements)) no_statements) (case_block (at 1 102) (values ((one
    (four (at 1 108) 2)) ∷ [])) (statements (associates (at 1 112) ((association (name 3 1 123) (four (at 1 128) 2)) ∷ []) (statements (acts (at 1 132)
    (assign (parts (name 1 1 132) bare no_parts) (designator (parts (name 3 1 136) bare no_parts)))) no_statements)) no_statements) (case_block (at 2 16)
    default (statements (associates (at 2 30) ((association (name 4 2 41) (four (at 2 46) 3)) ∷ []) (statements (acts (at 2 50) (assign (parts (name 1 2
    50) bare no_parts) (designator (parts (name 4 2 54) bare no_parts)))) no_statements)) no_statements) no_cases)))) (statements (repeats (at 2 84)
    (counted (name 1 2 87) (four (at 2 91) 1) (four (at 2 94) 2) None) (statements (associates (at 2 97) ((association (name 5 2 108) (four (at 2 113) 4))
    ∷ []) (statements (acts (at 2 117) (print ((designator (parts (name 5 2 126) bare no_parts)) ∷ []))) no_statements)) no_statements)) (statements
    (associates (at 3 24) ((association (name 7 3 35) (four (at 3 40) 5)) ∷ []) (statements (acts (at 3 44) (print ((designator (parts (name 7 3 53) bare
    no_parts)) ∷ []))) no_statements)) no_statements)))) []) ∷ [])) (looks (((1, One 0) ∷ []) ∷ ((1, One 0) ∷ (2, One 1) ∷ []) ∷ ((1, One 0) ∷ (3, One 2)
    ∷ []) ∷ ((1, One 0) ∷ (4, One 3) ∷ []) ∷ ((1, One 0) ∷ (5, One 4) ∷ []) ∷ ((1, One 0) ∷ (7, One 5) ∷ []) ∷ [])) (0 ∷ [])

abbrev pub AcceptedGShow : Type 0
AcceptedGShow = accepted_151 × accepted_152 × accepted_153 × accepted_154 × accepted_155 × accepted_156 × accepted_157 × accepted_158 × accepted_159 ×
    accepted_160 × accepted_161 × accepted_162 × accepted_163 × accepted_164 × accepted_165 × accepted_166 × accepted_167 × accepted_168 × accepted_169 ×
    accepted_170 × accepted_171 × accepted_172 × accepted_173 × accepted_174 × accepted_175
