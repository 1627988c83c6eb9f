-- Programs, each in the text above it, that nothing refuses.
use Rattle.std.specs.Prelude.{false, [], ◌∷◌, None, Some, codes}
use Rattle.f3_lookups.specs.declared.lookup.Lookup.TheVariants.{One, Several}
use Rattle.f3_tree.specs.declared.expression.Relation.TheVariants as r
use Rattle.f3_tree.specs.declared.expression.Operator.TheVariants as o
use Rattle.f3_tree.specs.declared.expression.IntegerKind.TheVariants.{Four}
use Rattle.f3_tree.specs.declared.declaration.Intent.TheVariants.{In, Out}
use Rattle.f3_tree.specs.declared.declaration.TypeSpecifier.TheVariants.{Integer, Derived}
use Rattle.f3_tree.specs.declared.program.ProcedureKind.TheVariants.{Subroutine, Function}
use Rattle.f3_tree.specs.declared.program.UnitKind.TheVariants as u
use Rattle.f3_tree.specs.Expressions.{truth, text, designator, group, array, comparison, chain, no_more, more, no_trees, trees, no_parts, parts}
use Rattle.f3_tree.specs.Expressions.{bare, within, no_arguments, arguments, value, triplet, absent, present}
use Rattle.f3_tree.specs.Declarations.{explicit, deferred, save, allocatable, dimension, intent, declares, saves}
use Rattle.f3_tree.specs.Statements.{assign, call, allocate, deallocate, print, stop, range, values}
use Rattle.f3_tree.specs.Statements.{counted, acts, branches, selects, repeats, associates, no_statements, statements}
use Rattle.f3_tree.specs.Statements.{no_branches, branch, no_alternative, no_cases, case_block}
use Rattle.f3_type_rows.specs.Build.{Finds, at, name, four, bounds, entity, declaration, type_definition, procedure, unit, association, program, looks}

--     program p; integer :: a(3)
--     a(4) = 1
--     end
-- accepted
abbrev pub accepted_51 : Type 0
accepted_51 = Finds None
    (program (codes "p" ∷ codes "a" ∷ []) ((unit u.Program (name 0 1 9) ((declares (declaration (Integer Four) [] ((entity (name 1 1 23) (Some (explicit
    ((bounds None (four (at 1 25) 3)) ∷ []))) None) ∷ []))) ∷ []) (statements (acts (at 2 1) (assign (parts (name 1 2 1) (within (arguments (value None
    (four (at 2 3) 4)) no_arguments)) no_parts) (four (at 2 8) 1))) no_statements) []) ∷ [])) (looks (((1, One 0) ∷ []) ∷ [])) (0 ∷ [])

--     program p; integer :: a(3)
--     a = [1, 2]
--     end
-- accepted
abbrev pub accepted_52 : Type 0
accepted_52 = Finds None
    (program (codes "p" ∷ codes "a" ∷ []) ((unit u.Program (name 0 1 9) ((declares (declaration (Integer Four) [] ((entity (name 1 1 23) (Some (explicit
    ((bounds None (four (at 1 25) 3)) ∷ []))) None) ∷ []))) ∷ []) (statements (acts (at 2 1) (assign (parts (name 1 2 1) bare no_parts) (array (at 2 5)
    (trees (four (at 2 6) 1) (trees (four (at 2 9) 2) no_trees))))) no_statements) []) ∷ [])) (looks (((1, One 0) ∷ []) ∷ [])) (0 ∷ [])

--     program p; print *, 'a?b'; end
-- accepted
abbrev pub accepted_53 : Type 0
accepted_53 = Finds None
    (program (codes "p" ∷ codes "print" ∷ []) ((unit u.Program (name 0 1 9) [] (statements (acts (at 1 12) (print ((text (at 1 21) 0) ∷ []))) no_statements)
    []) ∷ [])) (looks ([] ∷ [])) (0 ∷ [])

--     program p; select case (3); end select; print *, 1; end
-- accepted
abbrev pub accepted_54 : Type 0
accepted_54 = Finds None
    (program (codes "p" ∷ codes "print" ∷ []) ((unit u.Program (name 0 1 9) [] (statements (selects (at 1 12) (four (at 1 25) 3) no_cases) (statements (acts
    (at 1 41) (print ((four (at 1 50) 1) ∷ []))) no_statements)) []) ∷ [])) (looks ([] ∷ [])) (0 ∷ [])

--     program p;; print *; end
-- accepted
abbrev pub accepted_55 : Type 0
accepted_55 = Finds None
    (program (codes "p" ∷ codes "print" ∷ []) ((unit u.Program (name 0 1 9) [] (statements (acts (at 1 13) (print [])) no_statements) []) ∷ [])) (looks ([] ∷
    [])) (0 ∷ [])

--     module a; integer :: n = 1; end
--     module b; integer :: n = 2; end
--     module c; use a; use b; public :: n; end
--     program p; use c, only: n; end
-- accepted
abbrev pub accepted_56 : Type 0
accepted_56 = Finds None
    (program (codes "a" ∷ codes "n" ∷ codes "b" ∷ codes "c" ∷ codes "p" ∷ []) ((unit u.Module (name 0 1 8) ((declares (declaration (Integer Four) [] ((entity
    (name 1 1 22) None (Some (four (at 1 26) 1))) ∷ []))) ∷ []) no_statements []) ∷ (unit u.Module (name 2 2 8) ((declares (declaration (Integer Four) []
    ((entity (name 1 2 22) None (Some (four (at 2 26) 2))) ∷ []))) ∷ []) no_statements []) ∷ (unit u.Module (name 3 3 8) [] no_statements []) ∷ (unit
    u.Program (name 4 4 9) [] no_statements []) ∷ [])) (looks (((1, One 0) ∷ []) ∷ ((1, One 1) ∷ []) ∷ ((1, Several) ∷ []) ∷ ((1, Several) ∷ []) ∷ [])) (0
    ∷ 1 ∷ 2 ∷ 3 ∷ [])

--     module k; type t; integer :: i = 4; end type; end
--     module m; contains; type(t) function f(); use k; f = t(5); end; end
--     program p; end
-- accepted
abbrev pub accepted_57 : Type 0
accepted_57 = Finds None
    (program (codes "k" ∷ codes "t" ∷ codes "i" ∷ codes "m" ∷ codes "f" ∷ codes "p" ∷ []) ((unit u.Module (name 0 1 8) ((type_definition (name 1 1 16) false
    ((declaration (Integer Four) [] ((entity (name 2 1 30) None (Some (four (at 1 34) 4))) ∷ [])) ∷ []) []) ∷ []) no_statements []) ∷ (unit u.Module (name
    3 2 8) [] no_statements ((procedure false (Function (Some (Derived (name 1 2 26))) None) (name 4 2 38) [] [] (statements (acts (at 2 50) (assign
    (parts (name 4 2 50) bare no_parts) (designator (parts (name 1 2 54) (within (arguments (value None (four (at 2 56) 5)) no_arguments)) no_parts))))
    no_statements)) ∷ [])) ∷ (unit u.Program (name 5 3 9) [] no_statements []) ∷ [])) (looks (((1, One 0) ∷ []) ∷ ((4, One 1) ∷ []) ∷ ((1, One 0) ∷ (
      4,
      One 2,
    ) ∷ []) ∷ [] ∷ [])) (0 ∷ 1 ∷ 2 ∷ [])

--     module m; save; integer, save :: q; save; end
--     program p; end
-- accepted
abbrev pub accepted_58 : Type 0
accepted_58 = Finds None
    (program (codes "m" ∷ codes "q" ∷ codes "p" ∷ []) ((unit u.Module (name 0 1 8) ((saves (at 0 0)) ∷ (declares (declaration (Integer Four) (save ∷ [])
    ((entity (name 1 1 34) None None) ∷ []))) ∷ (saves (at 0 0)) ∷ []) no_statements []) ∷ (unit u.Program (name 2 2 9) [] no_statements []) ∷ [])) (looks
    (((1, One 0) ∷ []) ∷ [] ∷ [])) (0 ∷ 1 ∷ [])

--     program p; integer, allocatable :: a, b; a = 4; call move_alloc(to=b, from=a); print *, b; end
-- accepted
abbrev pub accepted_59 : Type 0
accepted_59 = Finds None
    (program (codes "p" ∷ codes "a" ∷ codes "b" ∷ codes "call" ∷ codes "to" ∷ codes "from" ∷ codes "move_alloc" ∷ codes "print" ∷ []) ((unit u.Program (name 0
    1 9) ((declares (declaration (Integer Four) (allocatable ∷ []) ((entity (name 1 1 36) None None) ∷ (entity (name 2 1 39) None None) ∷ []))) ∷ [])
    (statements (acts (at 1 42) (assign (parts (name 1 1 42) bare no_parts) (four (at 1 46) 4))) (statements (acts (at 1 49) (call (name 6 1 54) ((value
    (Some (name 4 1 65)) (designator (parts (name 2 1 68) bare no_parts))) ∷ (value (Some (name 5 1 71)) (designator (parts (name 1 1 76) bare no_parts)))
    ∷ []))) (statements (acts (at 1 80) (print ((designator (parts (name 2 1 89) bare no_parts)) ∷ []))) no_statements))) []) ∷ [])) (looks (((1, One 0) ∷
    (2, One 1) ∷ []) ∷ [])) (0 ∷ [])

--     program p; select case (4); case (5:4); case (4:5); print *, 1; end select; end
-- accepted
abbrev pub accepted_60 : Type 0
accepted_60 = Finds None
    (program (codes "p" ∷ codes "print" ∷ []) ((unit u.Program (name 0 1 9) [] (statements (selects (at 1 12) (four (at 1 25) 4) (case_block (at 1 29) (values
    ((range (four (at 1 35) 5) (four (at 1 37) 4)) ∷ [])) no_statements (case_block (at 1 41) (values ((range (four (at 1 47) 4) (four (at 1 49) 5)) ∷
    [])) (statements (acts (at 1 53) (print ((four (at 1 62) 1) ∷ []))) no_statements) no_cases))) no_statements) []) ∷ [])) (looks ([] ∷ [])) (0 ∷ [])

--     module m; type t; integer, allocatable :: c(:); end type; end
--     program p; use m; type(t), allocatable :: x; allocate(x%c(1/0)); end
-- accepted
abbrev pub accepted_61 : Type 0
accepted_61 = Finds None
    (program (codes "m" ∷ codes "t" ∷ codes "c" ∷ codes "p" ∷ codes "x" ∷ codes "allocate" ∷ []) ((unit u.Module (name 0 1 8) ((type_definition (name 1 1 16)
    false ((declaration (Integer Four) (allocatable ∷ []) ((entity (name 2 1 43) (Some (deferred (None ∷ []))) None) ∷ [])) ∷ []) []) ∷ []) no_statements
    []) ∷ (unit u.Program (name 3 2 9) ((declares (declaration (Derived (name 1 2 24)) (allocatable ∷ []) ((entity (name 4 2 43) None None) ∷ []))) ∷ [])
    (statements (acts (at 2 46) (allocate ((parts (name 4 2 55) bare (parts (name 2 2 57) (within (arguments (value None (chain (four (at 2 59) 1) (more
    o.Divide (four (at 2 61) 0) no_more))) no_arguments)) no_parts)) ∷ []) None)) no_statements) []) ∷ [])) (looks (((1, One 0) ∷ []) ∷ ((1, One 0) ∷ (
      4,
      One 1,
    ) ∷ []) ∷ [])) (0 ∷ 1 ∷ [])

--     program p; integer :: i; associate (z => i); do z = 1, 2; i = i; end do; print *, i; end associate; end
-- accepted
abbrev pub accepted_62 : Type 0
accepted_62 = Finds None
    (program (codes "p" ∷ codes "i" ∷ codes "z" ∷ codes "print" ∷ []) ((unit u.Program (name 0 1 9) ((declares (declaration (Integer Four) [] ((entity (name 1
    1 23) None None) ∷ []))) ∷ []) (statements (associates (at 1 26) ((association (name 2 1 37) (designator (parts (name 1 1 42) bare no_parts))) ∷ [])
    (statements (repeats (at 1 46) (counted (name 2 1 49) (four (at 1 53) 1) (four (at 1 56) 2) None) (statements (acts (at 1 59) (assign (parts (name 1 1
    59) bare no_parts) (designator (parts (name 1 1 63) bare no_parts)))) no_statements)) (statements (acts (at 1 74) (print ((designator (parts (name 1 1
    83) bare no_parts)) ∷ []))) no_statements))) no_statements) []) ∷ [])) (looks (((1, One 0) ∷ []) ∷ ((1, One 0) ∷ (2, One 1) ∷ []) ∷ [])) (0 ∷ [])

--     program p; integer, allocatable :: a(:); allocate(a(5:4)); print *, size(a(:2)); end
-- accepted
abbrev pub accepted_63 : Type 0
accepted_63 = Finds None
    (program (codes "p" ∷ codes "a" ∷ codes "allocate" ∷ codes "print" ∷ codes "size" ∷ []) ((unit u.Program (name 0 1 9) ((declares (declaration (Integer
    Four) (allocatable ∷ []) ((entity (name 1 1 36) (Some (deferred (None ∷ []))) None) ∷ []))) ∷ []) (statements (acts (at 1 42) (allocate ((parts (name
    1 1 51) (within (arguments (triplet (at 1 53) (present (four (at 1 53) 5)) (present (four (at 1 55) 4)) absent) no_arguments)) no_parts) ∷ []) None))
    (statements (acts (at 1 60) (print ((designator (parts (name 4 1 69) (within (arguments (value None (designator (parts (name 1 1 74) (within
    (arguments (triplet (at 1 76) absent (present (four (at 1 77) 2)) absent) no_arguments)) no_parts))) no_arguments)) no_parts)) ∷ []))) no_statements))
    []) ∷ [])) (looks (((1, One 0) ∷ []) ∷ [])) (0 ∷ [])

--     program p; integer, allocatable :: a(:); allocate(a(5:4)); print *, size(a(2:)); end
-- accepted
abbrev pub accepted_64 : Type 0
accepted_64 = Finds None
    (program (codes "p" ∷ codes "a" ∷ codes "allocate" ∷ codes "print" ∷ codes "size" ∷ []) ((unit u.Program (name 0 1 9) ((declares (declaration (Integer
    Four) (allocatable ∷ []) ((entity (name 1 1 36) (Some (deferred (None ∷ []))) None) ∷ []))) ∷ []) (statements (acts (at 1 42) (allocate ((parts (name
    1 1 51) (within (arguments (triplet (at 1 53) (present (four (at 1 53) 5)) (present (four (at 1 55) 4)) absent) no_arguments)) no_parts) ∷ []) None))
    (statements (acts (at 1 60) (print ((designator (parts (name 4 1 69) (within (arguments (value None (designator (parts (name 1 1 74) (within
    (arguments (triplet (at 1 76) (present (four (at 1 76) 2)) absent absent) no_arguments)) no_parts))) no_arguments)) no_parts)) ∷ []))) no_statements))
    []) ∷ [])) (looks (((1, One 0) ∷ []) ∷ [])) (0 ∷ [])

--     program p; use m; integer, allocatable :: a; call s(a, 1/0); end
--     module m; contains; subroutine s(x, y); integer, intent(in) :: x, y; end; end
-- accepted
abbrev pub accepted_65 : Type 0
accepted_65 = Finds None
    (program (codes "p" ∷ codes "a" ∷ codes "call" ∷ codes "s" ∷ codes "m" ∷ codes "x" ∷ codes "y" ∷ []) ((unit u.Program (name 0 1 9) ((declares (declaration
    (Integer Four) (allocatable ∷ []) ((entity (name 1 1 43) None None) ∷ []))) ∷ []) (statements (acts (at 1 46) (call (name 3 1 51) ((value None
    (designator (parts (name 1 1 53) bare no_parts))) ∷ (value None (chain (four (at 1 56) 1) (more o.Divide (four (at 1 58) 0) no_more))) ∷ [])))
    no_statements) []) ∷ (unit u.Module (name 4 2 8) [] no_statements ((procedure false Subroutine (name 3 2 32) ((name 5 2 34) ∷ (name 6 2 37) ∷ [])
    ((declares (declaration (Integer Four) ((intent In) ∷ []) ((entity (name 5 2 64) None None) ∷ (entity (name 6 2 67) None None) ∷ []))) ∷ [])
    no_statements) ∷ [])) ∷ [])) (looks (((1, One 0) ∷ (3, One 1) ∷ []) ∷ ((3, One 1) ∷ []) ∷ ((3, One 1) ∷ (5, One 2) ∷ (6, One 3) ∷ []) ∷ [])) (1 ∷ 0 ∷
    [])

--     program p; integer, allocatable :: a(:); print *, size(a, 1/0); end
-- accepted
abbrev pub accepted_66 : Type 0
accepted_66 = Finds None
    (program (codes "p" ∷ codes "a" ∷ codes "print" ∷ codes "size" ∷ []) ((unit u.Program (name 0 1 9) ((declares (declaration (Integer Four) (allocatable ∷
    []) ((entity (name 1 1 36) (Some (deferred (None ∷ []))) None) ∷ []))) ∷ []) (statements (acts (at 1 42) (print ((designator (parts (name 3 1 51)
    (within (arguments (value None (designator (parts (name 1 1 56) bare no_parts))) (arguments (value None (chain (four (at 1 59) 1) (more o.Divide (four
    (at 1 61) 0) no_more))) no_arguments))) no_parts)) ∷ []))) no_statements) []) ∷ [])) (looks (((1, One 0) ∷ []) ∷ [])) (0 ∷ [])

--     module m; integer :: i; contains; subroutine s(); i = i + 10; end; end
--     program p; use m; do i = 1, 3; call s(); print *, i; end do; end
-- accepted
abbrev pub accepted_67 : Type 0
accepted_67 = Finds None
    (program (codes "m" ∷ codes "i" ∷ codes "s" ∷ codes "p" ∷ codes "call" ∷ codes "print" ∷ []) ((unit u.Module (name 0 1 8) ((declares (declaration (Integer
    Four) [] ((entity (name 1 1 22) None None) ∷ []))) ∷ []) no_statements ((procedure false Subroutine (name 2 1 46) [] [] (statements (acts (at 1 51)
    (assign (parts (name 1 1 51) bare no_parts) (chain (designator (parts (name 1 1 55) bare no_parts)) (more o.Add (four (at 1 59) 10) no_more))))
    no_statements)) ∷ [])) ∷ (unit u.Program (name 3 2 9) [] (statements (repeats (at 2 19) (counted (name 1 2 22) (four (at 2 26) 1) (four (at 2 29) 3)
    None) (statements (acts (at 2 32) (call (name 2 2 37) [])) (statements (acts (at 2 42) (print ((designator (parts (name 1 2 51) bare no_parts)) ∷
    []))) no_statements))) no_statements) []) ∷ [])) (looks (((1, One 0) ∷ (2, One 1) ∷ []) ∷ ((1, One 0) ∷ (2, One 1) ∷ []) ∷ ((1, One 0) ∷ (2, One 1) ∷
    []) ∷ [])) (0 ∷ 1 ∷ [])

--     program p; if (.false.) then
--     else if (1/0 == 1) then
--     end if; end
-- accepted
abbrev pub accepted_68 : Type 0
accepted_68 = Finds None
    (program (codes "p" ∷ []) ((unit u.Program (name 0 1 9) [] (statements (branches (branch (at 1 12) (truth (at 1 16) false) no_statements (branch (at 2 1)
    (comparison (chain (four (at 2 10) 1) (more o.Divide (four (at 2 12) 0) no_more)) r.Equal (four (at 2 17) 1)) no_statements no_branches))
    no_alternative) no_statements) []) ∷ [])) (looks ([] ∷ [])) (0 ∷ [])

--     module m; type t; integer :: i; contains; final :: f; end type; contains; subroutine f(x); type(t), intent(in) :: x(:); print *, size(x); end;
--         end
--     program p; use m; type(t), allocatable :: v(:); allocate(v(0)); deallocate(v); end
-- accepted
abbrev pub accepted_69 : Type 0
accepted_69 = Finds None
    (program (codes "m" ∷ codes "t" ∷ codes "i" ∷ codes "f" ∷ codes "x" ∷ codes "print" ∷ codes "size" ∷ codes "p" ∷ codes "v" ∷ codes "allocate" ∷ codes
    "deallocate" ∷ []) ((unit u.Module (name 0 1 8) ((type_definition (name 1 1 16) false ((declaration (Integer Four) [] ((entity (name 2 1 30) None
    None) ∷ [])) ∷ []) ((name 3 1 52) ∷ [])) ∷ []) no_statements ((procedure false Subroutine (name 3 1 86) ((name 4 1 88) ∷ []) ((declares (declaration
    (Derived (name 1 1 97)) ((intent In) ∷ []) ((entity (name 4 1 115) (Some (deferred (None ∷ []))) None) ∷ []))) ∷ []) (statements (acts (at 1 121)
    (print ((designator (parts (name 6 1 130) (within (arguments (value None (designator (parts (name 4 1 135) bare no_parts))) no_arguments)) no_parts))
    ∷ []))) no_statements)) ∷ [])) ∷ (unit u.Program (name 7 2 9) ((declares (declaration (Derived (name 1 2 24)) (allocatable ∷ []) ((entity (name 8 2
    43) (Some (deferred (None ∷ []))) None) ∷ []))) ∷ []) (statements (acts (at 2 49) (allocate ((parts (name 8 2 58) (within (arguments (value None (four
    (at 2 60) 0)) no_arguments)) no_parts) ∷ []) None)) (statements (acts (at 2 65) (deallocate ((parts (name 8 2 76) bare no_parts) ∷ []) None))
    no_statements)) []) ∷ [])) (looks (((1, One 0) ∷ (3, One 1) ∷ []) ∷ ((1, One 0) ∷ (3, One 1) ∷ (4, One 2) ∷ []) ∷ ((1, One 0) ∷ (3, One 1) ∷ (
      8,
      One
          3,
    ) ∷ []) ∷ [])) (0 ∷ 1 ∷ [])

--     program p; use m; integer :: i; i = 5; call s(i); print *, i; end
--     module m; contains; subroutine s(x); integer, intent(out) :: x; end; end
-- accepted
abbrev pub accepted_70 : Type 0
accepted_70 = Finds None
    (program (codes "p" ∷ codes "i" ∷ codes "call" ∷ codes "s" ∷ codes "print" ∷ codes "m" ∷ codes "x" ∷ []) ((unit u.Program (name 0 1 9) ((declares
    (declaration (Integer Four) [] ((entity (name 1 1 30) None None) ∷ []))) ∷ []) (statements (acts (at 1 33) (assign (parts (name 1 1 33) bare no_parts)
    (four (at 1 37) 5))) (statements (acts (at 1 40) (call (name 3 1 45) ((value None (designator (parts (name 1 1 47) bare no_parts))) ∷ [])))
    (statements (acts (at 1 51) (print ((designator (parts (name 1 1 60) bare no_parts)) ∷ []))) no_statements))) []) ∷ (unit u.Module (name 5 2 8) []
    no_statements ((procedure false Subroutine (name 3 2 32) ((name 6 2 34) ∷ []) ((declares (declaration (Integer Four) ((intent Out) ∷ []) ((entity
    (name 6 2 62) None None) ∷ []))) ∷ []) no_statements) ∷ [])) ∷ [])) (looks (((1, One 0) ∷ (3, One 1) ∷ []) ∷ ((3, One 1) ∷ []) ∷ ((3, One 1) ∷ (
      6,
      One
          2,
    ) ∷ []) ∷ [])) (1 ∷ 0 ∷ [])

--     module m; type t; integer, allocatable :: a(:); end type; end
--     program p; use m; type(t) :: x; integer, allocatable :: v(:); x = t(v); print *, allocated(x%a); allocate(v(3:4)); x = t(v); print *,
--         lbound(x%a,1); x = t((v)); print *, lbound(x%a,1); deallocate(v); x = t((v)); end
-- accepted
abbrev pub accepted_71 : Type 0
accepted_71 = Finds None
    (program (codes "m" ∷ codes "t" ∷ codes "a" ∷ codes "p" ∷ codes "x" ∷ codes "v" ∷ codes "print" ∷ codes "allocated" ∷ codes "allocate" ∷ codes "lbound" ∷
    codes "deallocate" ∷ []) ((unit u.Module (name 0 1 8) ((type_definition (name 1 1 16) false ((declaration (Integer Four) (allocatable ∷ []) ((entity
    (name 2 1 43) (Some (deferred (None ∷ []))) None) ∷ [])) ∷ []) []) ∷ []) no_statements []) ∷ (unit u.Program (name 3 2 9) ((declares (declaration
    (Derived (name 1 2 24)) [] ((entity (name 4 2 30) None None) ∷ []))) ∷ (declares (declaration (Integer Four) (allocatable ∷ []) ((entity (name 5 2 57)
    (Some (deferred (None ∷ []))) None) ∷ []))) ∷ []) (statements (acts (at 2 63) (assign (parts (name 4 2 63) bare no_parts) (designator (parts (name 1 2
    67) (within (arguments (value None (designator (parts (name 5 2 69) bare no_parts))) no_arguments)) no_parts)))) (statements (acts (at 2 73) (print
    ((designator (parts (name 7 2 82) (within (arguments (value None (designator (parts (name 4 2 92) bare (parts (name 2 2 94) bare no_parts))))
    no_arguments)) no_parts)) ∷ []))) (statements (acts (at 2 98) (allocate ((parts (name 5 2 107) (within (arguments (triplet (at 2 109) (present (four
    (at 2 109) 3)) (present (four (at 2 111) 4)) absent) no_arguments)) no_parts) ∷ []) None)) (statements (acts (at 2 116) (assign (parts (name 4 2 116)
    bare no_parts) (designator (parts (name 1 2 120) (within (arguments (value None (designator (parts (name 5 2 122) bare no_parts))) no_arguments))
    no_parts)))) (statements (acts (at 2 126) (print ((designator (parts (name 9 2 135) (within (arguments (value None (designator (parts (name 4 2 142)
    bare (parts (name 2 2 144) bare no_parts)))) (arguments (value None (four (at 2 146) 1)) no_arguments))) no_parts)) ∷ []))) (statements (acts (at 2
    150) (assign (parts (name 4 2 150) bare no_parts) (designator (parts (name 1 2 154) (within (arguments (value None (group (at 2 156) (designator
    (parts (name 5 2 157) bare no_parts)))) no_arguments)) no_parts)))) (statements (acts (at 2 162) (print ((designator (parts (name 9 2 171) (within
    (arguments (value None (designator (parts (name 4 2 178) bare (parts (name 2 2 180) bare no_parts)))) (arguments (value None (four (at 2 182) 1))
    no_arguments))) no_parts)) ∷ []))) (statements (acts (at 2 186) (deallocate ((parts (name 5 2 197) bare no_parts) ∷ []) None)) (statements (acts (at 2
    201) (assign (parts (name 4 2 201) bare no_parts) (designator (parts (name 1 2 205) (within (arguments (value None (group (at 2 207) (designator
    (parts (name 5 2 208) bare no_parts)))) no_arguments)) no_parts)))) no_statements))))))))) []) ∷ [])) (looks (((1, One 0) ∷ []) ∷ ((1, One 0) ∷ (
      4,
      One 1,
    ) ∷ (5, One 2) ∷ []) ∷ [])) (0 ∷ 1 ∷ [])

--     program p; use m; integer, allocatable :: a(:); a = f(); print *, lbound(a,1); end
--     module m; contains; function f(); integer, allocatable :: f(:); allocate(f(5:6)); f = 1; end; end
-- accepted
abbrev pub accepted_72 : Type 0
accepted_72 = Finds None
    (program (codes "p" ∷ codes "a" ∷ codes "f" ∷ codes "print" ∷ codes "lbound" ∷ codes "m" ∷ codes "allocate" ∷ []) ((unit u.Program (name 0 1 9) ((declares
    (declaration (Integer Four) (allocatable ∷ []) ((entity (name 1 1 43) (Some (deferred (None ∷ []))) None) ∷ []))) ∷ []) (statements (acts (at 1 49)
    (assign (parts (name 1 1 49) bare no_parts) (designator (parts (name 2 1 53) (within no_arguments) no_parts)))) (statements (acts (at 1 58) (print
    ((designator (parts (name 4 1 67) (within (arguments (value None (designator (parts (name 1 1 74) bare no_parts))) (arguments (value None (four (at 1
    76) 1)) no_arguments))) no_parts)) ∷ []))) no_statements)) []) ∷ (unit u.Module (name 5 2 8) [] no_statements ((procedure false (Function None None)
    (name 2 2 30) [] ((declares (declaration (Integer Four) (allocatable ∷ []) ((entity (name 2 2 59) (Some (deferred (None ∷ []))) None) ∷ []))) ∷ [])
    (statements (acts (at 2 65) (allocate ((parts (name 2 2 74) (within (arguments (triplet (at 2 76) (present (four (at 2 76) 5)) (present (four (at 2
    78) 6)) absent) no_arguments)) no_parts) ∷ []) None)) (statements (acts (at 2 83) (assign (parts (name 2 2 83) bare no_parts) (four (at 2 87) 1)))
    no_statements))) ∷ [])) ∷ [])) (looks (((1, One 0) ∷ (2, One 1) ∷ []) ∷ ((2, One 1) ∷ []) ∷ ((2, One 2) ∷ []) ∷ [])) (1 ∷ 0 ∷ [])

--     program p; stop 00; end
-- accepted
abbrev pub accepted_73 : Type 0
accepted_73 = Finds None
    (program (codes "p" ∷ codes "stop" ∷ []) ((unit u.Program (name 0 1 9) [] (statements (acts (at 1 12) (stop None)) no_statements) []) ∷ [])) (looks ([] ∷
    [])) (0 ∷ [])

--     program p; integer, dimension(:) :: a(2); end
-- accepted
abbrev pub accepted_74 : Type 0
accepted_74 = Finds None
    (program (codes "p" ∷ codes "a" ∷ []) ((unit u.Program (name 0 1 9) ((declares (declaration (Integer Four) ((dimension (deferred (None ∷ []))) ∷ [])
    ((entity (name 1 1 37) (Some (explicit ((bounds None (four (at 1 39) 2)) ∷ []))) None) ∷ []))) ∷ []) no_statements []) ∷ [])) (looks (((1, One 0) ∷
    []) ∷ [])) (0 ∷ [])

--     module m; contains; subroutine s(); integer :: a = 3; end; end
--     program p; end
-- accepted
abbrev pub accepted_75 : Type 0
accepted_75 = Finds None
    (program (codes "m" ∷ codes "s" ∷ codes "a" ∷ codes "p" ∷ []) ((unit u.Module (name 0 1 8) [] no_statements ((procedure false Subroutine (name 1 1 32) []
    ((declares (declaration (Integer Four) [] ((entity (name 2 1 48) None (Some (four (at 1 52) 3))) ∷ []))) ∷ []) no_statements) ∷ [])) ∷ (unit u.Program
    (name 3 2 9) [] no_statements []) ∷ [])) (looks (((1, One 0) ∷ []) ∷ ((1, One 0) ∷ (2, One 1) ∷ []) ∷ [] ∷ [])) (0 ∷ 1 ∷ [])

abbrev pub AcceptedCShow : Type 0
AcceptedCShow = accepted_51 × accepted_52 × accepted_53 × accepted_54 × accepted_55 × accepted_56 × accepted_57 × accepted_58 × accepted_59 × accepted_60 ×
    accepted_61 × accepted_62 × accepted_63 × accepted_64 × accepted_65 × accepted_66 × accepted_67 × accepted_68 × accepted_69 × accepted_70 × accepted_71 ×
    accepted_72 × accepted_73 × accepted_74 × accepted_75
