-- Programs, each in the text above it, that nothing refuses.
use Rattle.std.specs.Prelude.{true, false, [], ◌∷◌, None, Some, codes}
use Rattle.f3_lookups.specs.declared.lookup.Lookup.TheVariants.{One, Several}
use Rattle.f3_tree.specs.declared.expression.Sign.TheVariants.{Minus}
use Rattle.f3_tree.specs.declared.expression.Relation.TheVariants as r
use Rattle.f3_tree.specs.declared.expression.Operator.TheVariants as o
use Rattle.f3_tree.specs.declared.expression.IntegerKind.TheVariants.{Four}
use Rattle.f3_tree.specs.declared.declaration.Intent.TheVariants.{In, InOut}
use Rattle.f3_tree.specs.declared.declaration.TypeSpecifier.TheVariants.{Integer, Derived}
use Rattle.f3_tree.specs.declared.program.ProcedureKind.TheVariants.{Subroutine}
use Rattle.f3_tree.specs.declared.program.UnitKind.TheVariants as u
use Rattle.f3_tree.specs.Expressions.{truth, text, designator, group, signed, negation, comparison, chain, no_more, more, no_parts, parts}
use Rattle.f3_tree.specs.Expressions.{bare, within, no_arguments, arguments, value, triplet, absent, present}
use Rattle.f3_tree.specs.Declarations.{deferred, protected, allocatable, intent, declares}
use Rattle.f3_tree.specs.Statements.{assign, call, allocate, deallocate, print, one, values}
use Rattle.f3_tree.specs.Statements.{counted, while, acts, selects, repeats, no_statements, statements}
use Rattle.f3_tree.specs.Statements.{no_cases, case_block}
use Rattle.f3_type_rows.specs.Build.{Finds, at, name, four, entity, declaration, type_definition, procedure, unit, program, looks}

--     program p; select case (.true.); case (2 /= 2, .true.); end select; end
-- accepted
abbrev pub accepted_26 : Type 0
accepted_26 = Finds None
    (program (codes "p" ∷ []) ((unit u.Program (name 0 1 9) [] (statements (selects (at 1 12) (truth (at 1 25) true) (case_block (at 1 34) (values ((one
    (comparison (four (at 1 40) 2) r.NotEqual (four (at 1 45) 2))) ∷ (one (truth (at 1 48) true)) ∷ [])) no_statements no_cases)) no_statements) []) ∷
    [])) (looks ([] ∷ [])) (0 ∷ [])

--     program p; select case (.true.); case (.true. .and. .false., .true.); end select; end
-- accepted
abbrev pub accepted_27 : Type 0
accepted_27 = Finds None
    (program (codes "p" ∷ []) ((unit u.Program (name 0 1 9) [] (statements (selects (at 1 12) (truth (at 1 25) true) (case_block (at 1 34) (values ((one
    (chain (truth (at 1 40) true) (more o.And (truth (at 1 53) false) no_more))) ∷ (one (truth (at 1 62) true)) ∷ [])) no_statements no_cases))
    no_statements) []) ∷ [])) (looks ([] ∷ [])) (0 ∷ [])

--     program p; select case (.true.); case (.true. .neqv. .true., .true.); end select; end
-- accepted
abbrev pub accepted_28 : Type 0
accepted_28 = Finds None
    (program (codes "p" ∷ []) ((unit u.Program (name 0 1 9) [] (statements (selects (at 1 12) (truth (at 1 25) true) (case_block (at 1 34) (values ((one
    (chain (truth (at 1 40) true) (more o.NotEquivalent (truth (at 1 54) true) no_more))) ∷ (one (truth (at 1 62) true)) ∷ [])) no_statements no_cases))
    no_statements) []) ∷ [])) (looks ([] ∷ [])) (0 ∷ [])

--     program p; select case (.true.); case (.not. .true., .true.); end select; end
-- accepted
abbrev pub accepted_29 : Type 0
accepted_29 = Finds None
    (program (codes "p" ∷ []) ((unit u.Program (name 0 1 9) [] (statements (selects (at 1 12) (truth (at 1 25) true) (case_block (at 1 34) (values ((one
    (negation (at 1 40) (truth (at 1 46) true))) ∷ (one (truth (at 1 54) true)) ∷ [])) no_statements no_cases)) no_statements) []) ∷ [])) (looks ([] ∷
    [])) (0 ∷ [])

--     module m; integer, protected :: n = 3; end
--     program p; use m; print *, n; end
-- accepted
abbrev pub accepted_30 : Type 0
accepted_30 = Finds None
    (program (codes "m" ∷ codes "n" ∷ codes "p" ∷ codes "print" ∷ []) ((unit u.Module (name 0 1 8) ((declares (declaration (Integer Four) (protected ∷ [])
    ((entity (name 1 1 33) None (Some (four (at 1 37) 3))) ∷ []))) ∷ []) no_statements []) ∷ (unit u.Program (name 2 2 9) [] (statements (acts (at 2 19)
    (print ((designator (parts (name 1 2 28) bare no_parts)) ∷ []))) no_statements) []) ∷ [])) (looks (((1, One 0) ∷ []) ∷ ((1, One 0) ∷ []) ∷ [])) (0 ∷ 1
    ∷ [])

--     module m; use k; integer, protected :: n = 3; contains; subroutine up(); call bump(n); end; end
--     module k; contains; subroutine bump(x); integer, intent(inout) :: x; x = x + 1; end; end
--     program p; use m; call up(); print *, n; end
-- accepted
abbrev pub accepted_31 : Type 0
accepted_31 = Finds None
    (program (codes "m" ∷ codes "n" ∷ codes "up" ∷ codes "call" ∷ codes "bump" ∷ codes "k" ∷ codes "x" ∷ codes "p" ∷ codes "print" ∷ []) ((unit u.Module (name
    0 1 8) ((declares (declaration (Integer Four) (protected ∷ []) ((entity (name 1 1 40) None (Some (four (at 1 44) 3))) ∷ []))) ∷ []) no_statements
    ((procedure false Subroutine (name 2 1 68) [] [] (statements (acts (at 1 74) (call (name 4 1 79) ((value None (designator (parts (name 1 1 84) bare
    no_parts))) ∷ []))) no_statements)) ∷ [])) ∷ (unit u.Module (name 5 2 8) [] no_statements ((procedure false Subroutine (name 4 2 32) ((name 6 2 37) ∷
    []) ((declares (declaration (Integer Four) ((intent InOut) ∷ []) ((entity (name 6 2 67) None None) ∷ []))) ∷ []) (statements (acts (at 2 70) (assign
    (parts (name 6 2 70) bare no_parts) (chain (designator (parts (name 6 2 74) bare no_parts)) (more o.Add (four (at 2 78) 1) no_more)))) no_statements))
    ∷ [])) ∷ (unit u.Program (name 7 3 9) [] (statements (acts (at 3 19) (call (name 2 3 24) [])) (statements (acts (at 3 30) (print ((designator (parts
    (name 1 3 39) bare no_parts)) ∷ []))) no_statements)) []) ∷ [])) (looks (((1, One 0) ∷ (2, One 1) ∷ (4, One 2) ∷ []) ∷ ((1, One 0) ∷ (2, One 1) ∷ (
      4,
      One 2,
    ) ∷ []) ∷ ((4, One 2) ∷ []) ∷ ((4, One 2) ∷ (6, One 3) ∷ []) ∷ ((1, One 0) ∷ (2, One 1) ∷ (4, One 2) ∷ []) ∷ [])) (1 ∷ 0 ∷ 2 ∷ [])

--     module m; type box; private; integer :: secret = 1; end type; contains
--     subroutine show(b); type(box), intent(in) :: b; print *, b%secret; end
--     subroutine set(b, v); type(box), intent(inout) :: b; integer, intent(in) :: v; b%secret = v; end
--     end
--     program p; use m; type(box) :: a, b
--     call set(b, 5); a = b; call show(a)
--     end
-- accepted
abbrev pub accepted_32 : Type 0
accepted_32 = Finds None
    (program (codes "m" ∷ codes "box" ∷ codes "secret" ∷ codes "show" ∷ codes "b" ∷ codes "print" ∷ codes "set" ∷ codes "v" ∷ codes "p" ∷ codes "a" ∷ codes
    "call" ∷ []) ((unit u.Module (name 0 1 8) ((type_definition (name 1 1 16) true ((declaration (Integer Four) [] ((entity (name 2 1 41) None (Some (four
    (at 1 50) 1))) ∷ [])) ∷ []) []) ∷ []) no_statements ((procedure false Subroutine (name 3 2 12) ((name 4 2 17) ∷ []) ((declares (declaration (Derived
    (name 1 2 26)) ((intent In) ∷ []) ((entity (name 4 2 46) None None) ∷ []))) ∷ []) (statements (acts (at 2 49) (print ((designator (parts (name 4 2 58)
    bare (parts (name 2 2 60) bare no_parts))) ∷ []))) no_statements)) ∷ (procedure false Subroutine (name 6 3 12) ((name 4 3 16) ∷ (name 7 3 19) ∷ [])
    ((declares (declaration (Derived (name 1 3 28)) ((intent InOut) ∷ []) ((entity (name 4 3 51) None None) ∷ []))) ∷ (declares (declaration (Integer
    Four) ((intent In) ∷ []) ((entity (name 7 3 77) None None) ∷ []))) ∷ []) (statements (acts (at 3 80) (assign (parts (name 4 3 80) bare (parts (name 2
    3 82) bare no_parts)) (designator (parts (name 7 3 91) bare no_parts)))) no_statements)) ∷ [])) ∷ (unit u.Program (name 8 5 9) ((declares (declaration
    (Derived (name 1 5 24)) [] ((entity (name 9 5 32) None None) ∷ (entity (name 4 5 35) None None) ∷ []))) ∷ []) (statements (acts (at 6 1) (call (name 6
    6 6) ((value None (designator (parts (name 4 6 10) bare no_parts))) ∷ (value None (four (at 6 13) 5)) ∷ []))) (statements (acts (at 6 17) (assign
    (parts (name 9 6 17) bare no_parts) (designator (parts (name 4 6 21) bare no_parts)))) (statements (acts (at 6 24) (call (name 3 6 29) ((value None
    (designator (parts (name 9 6 34) bare no_parts))) ∷ []))) no_statements))) []) ∷ [])) (looks (((1, One 0) ∷ (3, One 1) ∷ (6, One 2) ∷ []) ∷ ((
      1,
      One
          0,
    ) ∷ (3, One 1) ∷ (4, One 3) ∷ (6, One 2) ∷ []) ∷ ((1, One 0) ∷ (3, One 1) ∷ (4, One 4) ∷ (6, One 2) ∷ (7, One 5) ∷ []) ∷ ((1, One 0) ∷ (3, One 1) ∷
    (4, One 7) ∷ (6, One 2) ∷ (9, One 6) ∷ []) ∷ [])) (0 ∷ 1 ∷ [])

--     program p; integer, allocatable :: a(:), b(:), c(:), d(:)
--     allocate(a(3:5)); a = 0; b = a; c = a(3:5); allocate(d(0:2)); d = a
--     print *, lbound(b,1), lbound(c,1), lbound(d,1)
--     end
-- accepted
abbrev pub accepted_33 : Type 0
accepted_33 = Finds None
    (program (codes "p" ∷ codes "a" ∷ codes "b" ∷ codes "c" ∷ codes "d" ∷ codes "allocate" ∷ codes "print" ∷ codes "lbound" ∷ []) ((unit u.Program (name 0 1
    9) ((declares (declaration (Integer Four) (allocatable ∷ []) ((entity (name 1 1 36) (Some (deferred (None ∷ []))) None) ∷ (entity (name 2 1 42) (Some
    (deferred (None ∷ []))) None) ∷ (entity (name 3 1 48) (Some (deferred (None ∷ []))) None) ∷ (entity (name 4 1 54) (Some (deferred (None ∷ []))) None)
    ∷ []))) ∷ []) (statements (acts (at 2 1) (allocate ((parts (name 1 2 10) (within (arguments (triplet (at 2 12) (present (four (at 2 12) 3)) (present
    (four (at 2 14) 5)) absent) no_arguments)) no_parts) ∷ []) None)) (statements (acts (at 2 19) (assign (parts (name 1 2 19) bare no_parts) (four (at 2
    23) 0))) (statements (acts (at 2 26) (assign (parts (name 2 2 26) bare no_parts) (designator (parts (name 1 2 30) bare no_parts)))) (statements (acts
    (at 2 33) (assign (parts (name 3 2 33) bare no_parts) (designator (parts (name 1 2 37) (within (arguments (triplet (at 2 39) (present (four (at 2 39)
    3)) (present (four (at 2 41) 5)) absent) no_arguments)) no_parts)))) (statements (acts (at 2 45) (allocate ((parts (name 4 2 54) (within (arguments
    (triplet (at 2 56) (present (four (at 2 56) 0)) (present (four (at 2 58) 2)) absent) no_arguments)) no_parts) ∷ []) None)) (statements (acts (at 2 63)
    (assign (parts (name 4 2 63) bare no_parts) (designator (parts (name 1 2 67) bare no_parts)))) (statements (acts (at 3 1) (print ((designator (parts
    (name 7 3 10) (within (arguments (value None (designator (parts (name 2 3 17) bare no_parts))) (arguments (value None (four (at 3 19) 1))
    no_arguments))) no_parts)) ∷ (designator (parts (name 7 3 23) (within (arguments (value None (designator (parts (name 3 3 30) bare no_parts)))
    (arguments (value None (four (at 3 32) 1)) no_arguments))) no_parts)) ∷ (designator (parts (name 7 3 36) (within (arguments (value None (designator
    (parts (name 4 3 43) bare no_parts))) (arguments (value None (four (at 3 45) 1)) no_arguments))) no_parts)) ∷ []))) no_statements))))))) []) ∷ []))
    (looks (((1, One 0) ∷ (2, One 1) ∷ (3, One 2) ∷ (4, One 3) ∷ []) ∷ [])) (0 ∷ [])

--     program p; integer, allocatable :: a(:)
--     allocate(a(5:4)); print *, size(a), lbound(a,1), ubound(a,1)
--     end
-- accepted
abbrev pub accepted_34 : Type 0
accepted_34 = Finds None
    (program (codes "p" ∷ codes "a" ∷ codes "allocate" ∷ codes "print" ∷ codes "size" ∷ codes "lbound" ∷ codes "ubound" ∷ []) ((unit u.Program (name 0 1 9)
    ((declares (declaration (Integer Four) (allocatable ∷ []) ((entity (name 1 1 36) (Some (deferred (None ∷ []))) None) ∷ []))) ∷ []) (statements (acts
    (at 2 1) (allocate ((parts (name 1 2 10) (within (arguments (triplet (at 2 12) (present (four (at 2 12) 5)) (present (four (at 2 14) 4)) absent)
    no_arguments)) no_parts) ∷ []) None)) (statements (acts (at 2 19) (print ((designator (parts (name 4 2 28) (within (arguments (value None (designator
    (parts (name 1 2 33) bare no_parts))) no_arguments)) no_parts)) ∷ (designator (parts (name 5 2 37) (within (arguments (value None (designator (parts
    (name 1 2 44) bare no_parts))) (arguments (value None (four (at 2 46) 1)) no_arguments))) no_parts)) ∷ (designator (parts (name 6 2 50) (within
    (arguments (value None (designator (parts (name 1 2 57) bare no_parts))) (arguments (value None (four (at 2 59) 1)) no_arguments))) no_parts)) ∷ [])))
    no_statements)) []) ∷ [])) (looks (((1, One 0) ∷ []) ∷ [])) (0 ∷ [])

--     module m; type t; integer :: id = 0; contains; final :: fin; end type; contains
--     subroutine fin(x); type(t), intent(inout) :: x; print *, 'f', x%id; end
--     subroutine go(); type(t) :: x, y; x%id = 1; y%id = 2; x = y; print *, 'g'; end
--     end
--     program p; use m; call go(); end
-- accepted
abbrev pub accepted_35 : Type 0
accepted_35 = Finds None
    (program (codes "m" ∷ codes "t" ∷ codes "id" ∷ codes "fin" ∷ codes "x" ∷ codes "print" ∷ codes "go" ∷ codes "y" ∷ codes "p" ∷ codes "call" ∷ []) ((unit
    u.Module (name 0 1 8) ((type_definition (name 1 1 16) false ((declaration (Integer Four) [] ((entity (name 2 1 30) None (Some (four (at 1 35) 0))) ∷
    [])) ∷ []) ((name 3 1 57) ∷ [])) ∷ []) no_statements ((procedure false Subroutine (name 3 2 12) ((name 4 2 16) ∷ []) ((declares (declaration (Derived
    (name 1 2 25)) ((intent InOut) ∷ []) ((entity (name 4 2 46) None None) ∷ []))) ∷ []) (statements (acts (at 2 49) (print ((text (at 2 58) 0) ∷
    (designator (parts (name 4 2 63) bare (parts (name 2 2 65) bare no_parts))) ∷ []))) no_statements)) ∷ (procedure false Subroutine (name 6 3 12) []
    ((declares (declaration (Derived (name 1 3 23)) [] ((entity (name 4 3 29) None None) ∷ (entity (name 7 3 32) None None) ∷ []))) ∷ []) (statements
    (acts (at 3 35) (assign (parts (name 4 3 35) bare (parts (name 2 3 37) bare no_parts)) (four (at 3 42) 1))) (statements (acts (at 3 45) (assign (parts
    (name 7 3 45) bare (parts (name 2 3 47) bare no_parts)) (four (at 3 52) 2))) (statements (acts (at 3 55) (assign (parts (name 4 3 55) bare no_parts)
    (designator (parts (name 7 3 59) bare no_parts)))) (statements (acts (at 3 62) (print ((text (at 3 71) 0) ∷ []))) no_statements))))) ∷ [])) ∷ (unit
    u.Program (name 8 5 9) [] (statements (acts (at 5 19) (call (name 6 5 24) [])) no_statements) []) ∷ [])) (looks (((1, One 0) ∷ (3, One 1) ∷ (6, One 2)
    ∷ []) ∷ ((1, One 0) ∷ (3, One 1) ∷ (4, One 3) ∷ (6, One 2) ∷ []) ∷ ((1, One 0) ∷ (3, One 1) ∷ (4, One 4) ∷ (6, One 2) ∷ (7, One 5) ∷ []) ∷ ((1, One 0)
    ∷ (3, One 1) ∷ (6, One 2) ∷ []) ∷ [])) (0 ∷ 1 ∷ [])

--     module m; type t; integer :: id = 0; contains; final :: fin, fin1; end type; contains
--     subroutine fin(x); type(t), intent(inout) :: x; print *, 'f', x%id; end
--     subroutine go(); type(t) :: x, y; x%id = 1; y%id = 2; x = y; print *, 'g'; end
--     subroutine fin1(x); type(t), intent(inout) :: x(:); print *, 'v', size(x); end
--     end
--     program p; use m; type(t), allocatable :: v(:); type(t) :: s
--     allocate(v(2)); deallocate(v); print *, 'e'
--     end
-- accepted
abbrev pub accepted_36 : Type 0
accepted_36 = Finds None
    (program (codes "m" ∷ codes "t" ∷ codes "id" ∷ codes "fin" ∷ codes "fin1" ∷ codes "x" ∷ codes "print" ∷ codes "go" ∷ codes "y" ∷ codes "size" ∷ codes "p"
    ∷ codes "v" ∷ codes "s" ∷ codes "allocate" ∷ codes "deallocate" ∷ []) ((unit u.Module (name 0 1 8) ((type_definition (name 1 1 16) false ((declaration
    (Integer Four) [] ((entity (name 2 1 30) None (Some (four (at 1 35) 0))) ∷ [])) ∷ []) ((name 3 1 57) ∷ (name 4 1 62) ∷ [])) ∷ []) no_statements
    ((procedure false Subroutine (name 3 2 12) ((name 5 2 16) ∷ []) ((declares (declaration (Derived (name 1 2 25)) ((intent InOut) ∷ []) ((entity (name 5
    2 46) None None) ∷ []))) ∷ []) (statements (acts (at 2 49) (print ((text (at 2 58) 0) ∷ (designator (parts (name 5 2 63) bare (parts (name 2 2 65)
    bare no_parts))) ∷ []))) no_statements)) ∷ (procedure false Subroutine (name 7 3 12) [] ((declares (declaration (Derived (name 1 3 23)) [] ((entity
    (name 5 3 29) None None) ∷ (entity (name 8 3 32) None None) ∷ []))) ∷ []) (statements (acts (at 3 35) (assign (parts (name 5 3 35) bare (parts (name 2
    3 37) bare no_parts)) (four (at 3 42) 1))) (statements (acts (at 3 45) (assign (parts (name 8 3 45) bare (parts (name 2 3 47) bare no_parts)) (four
    (at 3 52) 2))) (statements (acts (at 3 55) (assign (parts (name 5 3 55) bare no_parts) (designator (parts (name 8 3 59) bare no_parts)))) (statements
    (acts (at 3 62) (print ((text (at 3 71) 0) ∷ []))) no_statements))))) ∷ (procedure false Subroutine (name 4 4 12) ((name 5 4 17) ∷ []) ((declares
    (declaration (Derived (name 1 4 26)) ((intent InOut) ∷ []) ((entity (name 5 4 47) (Some (deferred (None ∷ []))) None) ∷ []))) ∷ []) (statements (acts
    (at 4 53) (print ((text (at 4 62) 0) ∷ (designator (parts (name 9 4 67) (within (arguments (value None (designator (parts (name 5 4 72) bare
    no_parts))) no_arguments)) no_parts)) ∷ []))) no_statements)) ∷ [])) ∷ (unit u.Program (name 10 6 9) ((declares (declaration (Derived (name 1 6 24))
    (allocatable ∷ []) ((entity (name 11 6 43) (Some (deferred (None ∷ []))) None) ∷ []))) ∷ (declares (declaration (Derived (name 1 6 54)) [] ((entity
    (name 12 6 60) None None) ∷ []))) ∷ []) (statements (acts (at 7 1) (allocate ((parts (name 11 7 10) (within (arguments (value None (four (at 7 12) 2))
    no_arguments)) no_parts) ∷ []) None)) (statements (acts (at 7 17) (deallocate ((parts (name 11 7 28) bare no_parts) ∷ []) None)) (statements (acts (at
    7 32) (print ((text (at 7 41) 0) ∷ []))) no_statements))) []) ∷ [])) (looks (((1, One 0) ∷ (3, One 1) ∷ (4, One 3) ∷ (7, One 2) ∷ []) ∷ ((1, One 0) ∷
    (3, One 1) ∷ (4, One 3) ∷ (5, One 4) ∷ (7, One 2) ∷ []) ∷ ((1, One 0) ∷ (3, One 1) ∷ (4, One 3) ∷ (5, One 5) ∷ (7, One 2) ∷ (8, One 6) ∷ []) ∷ ((
      1,
      One 0,
    ) ∷ (3, One 1) ∷ (4, One 3) ∷ (5, One 7) ∷ (7, One 2) ∷ []) ∷ ((1, One 0) ∷ (3, One 1) ∷ (4, One 3) ∷ (7, One 2) ∷ (11, One 8) ∷ (12, One 9) ∷
    []) ∷ [])) (0 ∷ 1 ∷ [])

--     module m; type t; integer :: id = 0; contains; final :: fin; end type; contains
--     subroutine fin(x); type(t), intent(inout) :: x; print *, 'f', x%id; end
--     subroutine go(); type(t) :: x, y; x%id = 1; y%id = 2; x = y; print *, 'g'; end
--     end
--     program p; use m; type(t), allocatable :: v(:); type(t) :: s
--     allocate(v(2)); deallocate(v); print *, 'e'
--     end
-- accepted
abbrev pub accepted_37 : Type 0
accepted_37 = Finds None
    (program (codes "m" ∷ codes "t" ∷ codes "id" ∷ codes "fin" ∷ codes "x" ∷ codes "print" ∷ codes "go" ∷ codes "y" ∷ codes "p" ∷ codes "v" ∷ codes "s" ∷
    codes "allocate" ∷ codes "deallocate" ∷ []) ((unit u.Module (name 0 1 8) ((type_definition (name 1 1 16) false ((declaration (Integer Four) []
    ((entity (name 2 1 30) None (Some (four (at 1 35) 0))) ∷ [])) ∷ []) ((name 3 1 57) ∷ [])) ∷ []) no_statements ((procedure false Subroutine (name 3 2
    12) ((name 4 2 16) ∷ []) ((declares (declaration (Derived (name 1 2 25)) ((intent InOut) ∷ []) ((entity (name 4 2 46) None None) ∷ []))) ∷ [])
    (statements (acts (at 2 49) (print ((text (at 2 58) 0) ∷ (designator (parts (name 4 2 63) bare (parts (name 2 2 65) bare no_parts))) ∷ [])))
    no_statements)) ∷ (procedure false Subroutine (name 6 3 12) [] ((declares (declaration (Derived (name 1 3 23)) [] ((entity (name 4 3 29) None None) ∷
    (entity (name 7 3 32) None None) ∷ []))) ∷ []) (statements (acts (at 3 35) (assign (parts (name 4 3 35) bare (parts (name 2 3 37) bare no_parts))
    (four (at 3 42) 1))) (statements (acts (at 3 45) (assign (parts (name 7 3 45) bare (parts (name 2 3 47) bare no_parts)) (four (at 3 52) 2)))
    (statements (acts (at 3 55) (assign (parts (name 4 3 55) bare no_parts) (designator (parts (name 7 3 59) bare no_parts)))) (statements (acts (at 3 62)
    (print ((text (at 3 71) 0) ∷ []))) no_statements))))) ∷ [])) ∷ (unit u.Program (name 8 5 9) ((declares (declaration (Derived (name 1 5 24))
    (allocatable ∷ []) ((entity (name 9 5 43) (Some (deferred (None ∷ []))) None) ∷ []))) ∷ (declares (declaration (Derived (name 1 5 54)) [] ((entity
    (name 10 5 60) None None) ∷ []))) ∷ []) (statements (acts (at 6 1) (allocate ((parts (name 9 6 10) (within (arguments (value None (four (at 6 12) 2))
    no_arguments)) no_parts) ∷ []) None)) (statements (acts (at 6 17) (deallocate ((parts (name 9 6 28) bare no_parts) ∷ []) None)) (statements (acts (at
    6 32) (print ((text (at 6 41) 0) ∷ []))) no_statements))) []) ∷ [])) (looks (((1, One 0) ∷ (3, One 1) ∷ (6, One 2) ∷ []) ∷ ((1, One 0) ∷ (3, One 1) ∷
    (4, One 3) ∷ (6, One 2) ∷ []) ∷ ((1, One 0) ∷ (3, One 1) ∷ (4, One 4) ∷ (6, One 2) ∷ (7, One 5) ∷ []) ∷ ((1, One 0) ∷ (3, One 1) ∷ (6, One 2) ∷ (
      9,
      One 6,
    ) ∷ (10, One 7) ∷ []) ∷ [])) (0 ∷ 1 ∷ [])

--     module w; integer, allocatable :: v(:), u(:); contains
--     subroutine p(x); integer, intent(inout) :: x; deallocate(v); x = 1; end
--     end
--     program q; use w; allocate(v(3)); call p(v(1)); print *, v(1); end
-- accepted
abbrev pub accepted_38 : Type 0
accepted_38 = Finds None
    (program (codes "w" ∷ codes "v" ∷ codes "u" ∷ codes "p" ∷ codes "x" ∷ codes "deallocate" ∷ codes "q" ∷ codes "allocate" ∷ codes "call" ∷ codes "print" ∷
    []) ((unit u.Module (name 0 1 8) ((declares (declaration (Integer Four) (allocatable ∷ []) ((entity (name 1 1 35) (Some (deferred (None ∷ []))) None)
    ∷ (entity (name 2 1 41) (Some (deferred (None ∷ []))) None) ∷ []))) ∷ []) no_statements ((procedure false Subroutine (name 3 2 12) ((name 4 2 14) ∷
    []) ((declares (declaration (Integer Four) ((intent InOut) ∷ []) ((entity (name 4 2 44) None None) ∷ []))) ∷ []) (statements (acts (at 2 47)
    (deallocate ((parts (name 1 2 58) bare no_parts) ∷ []) None)) (statements (acts (at 2 62) (assign (parts (name 4 2 62) bare no_parts) (four (at 2 66)
    1))) no_statements))) ∷ [])) ∷ (unit u.Program (name 6 4 9) [] (statements (acts (at 4 19) (allocate ((parts (name 1 4 28) (within (arguments (value
    None (four (at 4 30) 3)) no_arguments)) no_parts) ∷ []) None)) (statements (acts (at 4 35) (call (name 3 4 40) ((value None (designator (parts (name 1
    4 42) (within (arguments (value None (four (at 4 44) 1)) no_arguments)) no_parts))) ∷ []))) (statements (acts (at 4 49) (print ((designator (parts
    (name 1 4 58) (within (arguments (value None (four (at 4 60) 1)) no_arguments)) no_parts)) ∷ []))) no_statements))) []) ∷ [])) (looks (((1, One 0) ∷
    (2, One 1) ∷ (3, One 2) ∷ []) ∷ ((1, One 0) ∷ (2, One 1) ∷ (3, One 2) ∷ (4, One 3) ∷ []) ∷ ((1, One 0) ∷ (2, One 1) ∷ (3, One 2) ∷ []) ∷ [])) (0 ∷ 1 ∷
    [])

--     module w; integer, allocatable :: v(:), u(:); contains
--     subroutine p(x); integer, intent(inout) :: x; call move_alloc(v, u); x = 1; end
--     end
--     program q; use w; allocate(v(3)); call p(v(1)); print *, v(1); end
-- accepted
abbrev pub accepted_39 : Type 0
accepted_39 = Finds None
    (program (codes "w" ∷ codes "v" ∷ codes "u" ∷ codes "p" ∷ codes "x" ∷ codes "call" ∷ codes "move_alloc" ∷ codes "q" ∷ codes "allocate" ∷ codes "print" ∷
    []) ((unit u.Module (name 0 1 8) ((declares (declaration (Integer Four) (allocatable ∷ []) ((entity (name 1 1 35) (Some (deferred (None ∷ []))) None)
    ∷ (entity (name 2 1 41) (Some (deferred (None ∷ []))) None) ∷ []))) ∷ []) no_statements ((procedure false Subroutine (name 3 2 12) ((name 4 2 14) ∷
    []) ((declares (declaration (Integer Four) ((intent InOut) ∷ []) ((entity (name 4 2 44) None None) ∷ []))) ∷ []) (statements (acts (at 2 47) (call
    (name 6 2 52) ((value None (designator (parts (name 1 2 63) bare no_parts))) ∷ (value None (designator (parts (name 2 2 66) bare no_parts))) ∷ [])))
    (statements (acts (at 2 70) (assign (parts (name 4 2 70) bare no_parts) (four (at 2 74) 1))) no_statements))) ∷ [])) ∷ (unit u.Program (name 7 4 9) []
    (statements (acts (at 4 19) (allocate ((parts (name 1 4 28) (within (arguments (value None (four (at 4 30) 3)) no_arguments)) no_parts) ∷ []) None))
    (statements (acts (at 4 35) (call (name 3 4 40) ((value None (designator (parts (name 1 4 42) (within (arguments (value None (four (at 4 44) 1))
    no_arguments)) no_parts))) ∷ []))) (statements (acts (at 4 49) (print ((designator (parts (name 1 4 58) (within (arguments (value None (four (at 4 60)
    1)) no_arguments)) no_parts)) ∷ []))) no_statements))) []) ∷ [])) (looks (((1, One 0) ∷ (2, One 1) ∷ (3, One 2) ∷ []) ∷ ((1, One 0) ∷ (2, One 1) ∷ (
      3,
      One 2,
    ) ∷ (4, One 3) ∷ []) ∷ ((1, One 0) ∷ (2, One 1) ∷ (3, One 2) ∷ []) ∷ [])) (0 ∷ 1 ∷ [])

--     module w; integer, allocatable :: v(:), u(:); contains
--     subroutine p(x); integer, intent(inout) :: x; deallocate(v, stat=x); end
--     end
--     program q; use w; allocate(v(3)); call p(v(1)); print *, v(1); end
-- accepted
abbrev pub accepted_40 : Type 0
accepted_40 = Finds None
    (program (codes "w" ∷ codes "v" ∷ codes "u" ∷ codes "p" ∷ codes "x" ∷ codes "stat" ∷ codes "deallocate" ∷ codes "q" ∷ codes "allocate" ∷ codes "call" ∷
    codes "print" ∷ []) ((unit u.Module (name 0 1 8) ((declares (declaration (Integer Four) (allocatable ∷ []) ((entity (name 1 1 35) (Some (deferred
    (None ∷ []))) None) ∷ (entity (name 2 1 41) (Some (deferred (None ∷ []))) None) ∷ []))) ∷ []) no_statements ((procedure false Subroutine (name 3 2 12)
    ((name 4 2 14) ∷ []) ((declares (declaration (Integer Four) ((intent InOut) ∷ []) ((entity (name 4 2 44) None None) ∷ []))) ∷ []) (statements (acts
    (at 2 47) (deallocate ((parts (name 1 2 58) bare no_parts) ∷ []) (Some (parts (name 4 2 66) bare no_parts)))) no_statements)) ∷ [])) ∷ (unit u.Program
    (name 7 4 9) [] (statements (acts (at 4 19) (allocate ((parts (name 1 4 28) (within (arguments (value None (four (at 4 30) 3)) no_arguments))
    no_parts) ∷ []) None)) (statements (acts (at 4 35) (call (name 3 4 40) ((value None (designator (parts (name 1 4 42) (within (arguments (value None
    (four (at 4 44) 1)) no_arguments)) no_parts))) ∷ []))) (statements (acts (at 4 49) (print ((designator (parts (name 1 4 58) (within (arguments (value
    None (four (at 4 60) 1)) no_arguments)) no_parts)) ∷ []))) no_statements))) []) ∷ [])) (looks (((1, One 0) ∷ (2, One 1) ∷ (3, One 2) ∷ []) ∷ ((
      1,
      One
          0,
    ) ∷ (2, One 1) ∷ (3, One 2) ∷ (4, One 3) ∷ []) ∷ ((1, One 0) ∷ (2, One 1) ∷ (3, One 2) ∷ []) ∷ [])) (0 ∷ 1 ∷ [])

--     program p; integer, allocatable :: x; x = 5; call move_alloc(x, x); print *, allocated(x); end
-- accepted
abbrev pub accepted_41 : Type 0
accepted_41 = Finds None
    (program (codes "p" ∷ codes "x" ∷ codes "call" ∷ codes "move_alloc" ∷ codes "print" ∷ codes "allocated" ∷ []) ((unit u.Program (name 0 1 9) ((declares
    (declaration (Integer Four) (allocatable ∷ []) ((entity (name 1 1 36) None None) ∷ []))) ∷ []) (statements (acts (at 1 39) (assign (parts (name 1 1
    39) bare no_parts) (four (at 1 43) 5))) (statements (acts (at 1 46) (call (name 3 1 51) ((value None (designator (parts (name 1 1 62) bare no_parts)))
    ∷ (value None (designator (parts (name 1 1 65) bare no_parts))) ∷ []))) (statements (acts (at 1 69) (print ((designator (parts (name 5 1 78) (within
    (arguments (value None (designator (parts (name 1 1 88) bare no_parts))) no_arguments)) no_parts)) ∷ []))) no_statements))) []) ∷ [])) (looks (((
      1,
      One 0,
    ) ∷ []) ∷ [])) (0 ∷ [])

--     program p; print *, -7/2, 2**(-1), mod(-7,2), -2**2; end
-- accepted
abbrev pub accepted_42 : Type 0
accepted_42 = Finds None
    (program (codes "p" ∷ codes "print" ∷ codes "mod" ∷ []) ((unit u.Program (name 0 1 9) [] (statements (acts (at 1 12) (print ((signed (at 1 21) Minus
    (chain (four (at 1 22) 7) (more o.Divide (four (at 1 24) 2) no_more))) ∷ (chain (four (at 1 27) 2) (more o.Power (group (at 1 30) (signed (at 1 31)
    Minus (four (at 1 32) 1))) no_more)) ∷ (designator (parts (name 2 1 36) (within (arguments (value None (signed (at 1 40) Minus (four (at 1 41) 7)))
    (arguments (value None (four (at 1 43) 2)) no_arguments))) no_parts)) ∷ (signed (at 1 47) Minus (chain (four (at 1 48) 2) (more o.Power (four (at 1
    51) 2) no_more))) ∷ []))) no_statements) []) ∷ [])) (looks ([] ∷ [])) (0 ∷ [])

--     program p; print *, 7, 1/0; end
-- accepted
abbrev pub accepted_43 : Type 0
accepted_43 = Finds None
    (program (codes "p" ∷ codes "print" ∷ []) ((unit u.Program (name 0 1 9) [] (statements (acts (at 1 12) (print ((four (at 1 21) 7) ∷ (chain (four (at 1 24)
    1) (more o.Divide (four (at 1 26) 0) no_more)) ∷ []))) no_statements) []) ∷ [])) (looks ([] ∷ [])) (0 ∷ [])

--     program p; print *, 2147483647 + 1; end
-- accepted
abbrev pub accepted_44 : Type 0
accepted_44 = Finds None
    (program (codes "p" ∷ codes "print" ∷ []) ((unit u.Program (name 0 1 9) [] (statements (acts (at 1 12) (print ((chain (four (at 1 21) 2147483647) (more
    o.Add (four (at 1 34) 1) no_more)) ∷ []))) no_statements) []) ∷ [])) (looks ([] ∷ [])) (0 ∷ [])

--     program p; integer, allocatable :: a(:); integer :: s; s = 1
--     allocate(a(1000)); print *, s, allocated(a)
--     end
-- accepted
abbrev pub accepted_45 : Type 0
accepted_45 = Finds None
    (program (codes "p" ∷ codes "a" ∷ codes "s" ∷ codes "allocate" ∷ codes "print" ∷ codes "allocated" ∷ []) ((unit u.Program (name 0 1 9) ((declares
    (declaration (Integer Four) (allocatable ∷ []) ((entity (name 1 1 36) (Some (deferred (None ∷ []))) None) ∷ []))) ∷ (declares (declaration (Integer
    Four) [] ((entity (name 2 1 53) None None) ∷ []))) ∷ []) (statements (acts (at 1 56) (assign (parts (name 2 1 56) bare no_parts) (four (at 1 60) 1)))
    (statements (acts (at 2 1) (allocate ((parts (name 1 2 10) (within (arguments (value None (four (at 2 12) 1000)) no_arguments)) no_parts) ∷ []) None))
    (statements (acts (at 2 20) (print ((designator (parts (name 2 2 29) bare no_parts)) ∷ (designator (parts (name 5 2 32) (within (arguments (value None
    (designator (parts (name 1 2 42) bare no_parts))) no_arguments)) no_parts)) ∷ []))) no_statements))) []) ∷ [])) (looks (((1, One 0) ∷ (2, One 1) ∷ [])
    ∷ [])) (0 ∷ [])

--     program p; do while (.true.); print *, 1; end do; end
-- accepted
abbrev pub accepted_46 : Type 0
accepted_46 = Finds None
    (program (codes "p" ∷ codes "print" ∷ []) ((unit u.Program (name 0 1 9) [] (statements (repeats (at 1 12) (while (truth (at 1 22) true)) (statements (acts
    (at 1 31) (print ((four (at 1 40) 1) ∷ []))) no_statements)) no_statements) []) ∷ [])) (looks ([] ∷ [])) (0 ∷ [])

--     program p; integer :: i; do i = 1, 0; print *, 9; end do; print *, i; end
-- accepted
abbrev pub accepted_47 : Type 0
accepted_47 = Finds None
    (program (codes "p" ∷ codes "i" ∷ codes "print" ∷ []) ((unit u.Program (name 0 1 9) ((declares (declaration (Integer Four) [] ((entity (name 1 1 23) None
    None) ∷ []))) ∷ []) (statements (repeats (at 1 26) (counted (name 1 1 29) (four (at 1 33) 1) (four (at 1 36) 0) None) (statements (acts (at 1 39)
    (print ((four (at 1 48) 9) ∷ []))) no_statements)) (statements (acts (at 1 59) (print ((designator (parts (name 1 1 68) bare no_parts)) ∷ [])))
    no_statements)) []) ∷ [])) (looks (((1, One 0) ∷ []) ∷ [])) (0 ∷ [])

--     program p; integer :: i; do i = 1, 3, 0; print *, 9; end do; print *, i; end
-- accepted
abbrev pub accepted_48 : Type 0
accepted_48 = Finds None
    (program (codes "p" ∷ codes "i" ∷ codes "print" ∷ []) ((unit u.Program (name 0 1 9) ((declares (declaration (Integer Four) [] ((entity (name 1 1 23) None
    None) ∷ []))) ∷ []) (statements (repeats (at 1 26) (counted (name 1 1 29) (four (at 1 33) 1) (four (at 1 36) 3) (Some (four (at 1 39) 0))) (statements
    (acts (at 1 42) (print ((four (at 1 51) 9) ∷ []))) no_statements)) (statements (acts (at 1 62) (print ((designator (parts (name 1 1 71) bare
    no_parts)) ∷ []))) no_statements)) []) ∷ [])) (looks (((1, One 0) ∷ []) ∷ [])) (0 ∷ [])

--     module m; contains
--     subroutine fill(); integer, allocatable :: a(:); allocate(a(4)); a = 7; end
--     subroutine look(); integer, allocatable :: a(:); allocate(a(4)); print *, a; end
--     end
--     program p; use m; call fill(); call look(); end
-- accepted
abbrev pub accepted_49 : Type 0
accepted_49 = Finds None
    (program (codes "m" ∷ codes "fill" ∷ codes "a" ∷ codes "allocate" ∷ codes "look" ∷ codes "print" ∷ codes "p" ∷ codes "call" ∷ []) ((unit u.Module (name 0
    1 8) [] no_statements ((procedure false Subroutine (name 1 2 12) [] ((declares (declaration (Integer Four) (allocatable ∷ []) ((entity (name 2 2 44)
    (Some (deferred (None ∷ []))) None) ∷ []))) ∷ []) (statements (acts (at 2 50) (allocate ((parts (name 2 2 59) (within (arguments (value None (four (at
    2 61) 4)) no_arguments)) no_parts) ∷ []) None)) (statements (acts (at 2 66) (assign (parts (name 2 2 66) bare no_parts) (four (at 2 70) 7)))
    no_statements))) ∷ (procedure false Subroutine (name 4 3 12) [] ((declares (declaration (Integer Four) (allocatable ∷ []) ((entity (name 2 3 44) (Some
    (deferred (None ∷ []))) None) ∷ []))) ∷ []) (statements (acts (at 3 50) (allocate ((parts (name 2 3 59) (within (arguments (value None (four (at 3 61)
    4)) no_arguments)) no_parts) ∷ []) None)) (statements (acts (at 3 66) (print ((designator (parts (name 2 3 75) bare no_parts)) ∷ [])))
    no_statements))) ∷ [])) ∷ (unit u.Program (name 6 5 9) [] (statements (acts (at 5 19) (call (name 1 5 24) [])) (statements (acts (at 5 32) (call (name
    4 5 37) [])) no_statements)) []) ∷ [])) (looks (((1, One 0) ∷ (4, One 1) ∷ []) ∷ ((1, One 0) ∷ (2, One 2) ∷ (4, One 1) ∷ []) ∷ ((1, One 0) ∷ (
      2,
      One
          3,
    ) ∷ (4, One 1) ∷ []) ∷ ((1, One 0) ∷ (4, One 1) ∷ []) ∷ [])) (0 ∷ 1 ∷ [])

--     module a; integer :: n = 1; end
--     module b; integer :: n = 2; end
--     program p; use a; use b; print *, 5; end
-- accepted
abbrev pub accepted_50 : Type 0
accepted_50 = Finds None
    (program (codes "a" ∷ codes "n" ∷ codes "b" ∷ codes "p" ∷ codes "print" ∷ []) ((unit u.Module (name 0 1 8) ((declares (declaration (Integer Four) []
    ((entity (name 1 1 22) None (Some (four (at 1 26) 1))) ∷ []))) ∷ []) no_statements []) ∷ (unit u.Module (name 2 2 8) ((declares (declaration (Integer
    Four) [] ((entity (name 1 2 22) None (Some (four (at 2 26) 2))) ∷ []))) ∷ []) no_statements []) ∷ (unit u.Program (name 3 3 9) [] (statements (acts
    (at 3 26) (print ((four (at 3 35) 5) ∷ []))) no_statements) []) ∷ [])) (looks (((1, One 0) ∷ []) ∷ ((1, One 1) ∷ []) ∷ ((1, Several) ∷ []) ∷ [])) (0 ∷
    1 ∷ 2 ∷ [])

abbrev pub AcceptedBShow : Type 0
AcceptedBShow = accepted_26 × accepted_27 × accepted_28 × accepted_29 × accepted_30 × accepted_31 × accepted_32 × accepted_33 × accepted_34 × accepted_35 ×
    accepted_36 × accepted_37 × accepted_38 × accepted_39 × accepted_40 × accepted_41 × accepted_42 × accepted_43 × accepted_44 × accepted_45 × accepted_46 ×
    accepted_47 × accepted_48 × accepted_49 × accepted_50
