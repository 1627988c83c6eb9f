-- Programs, each in the text above it, that nothing refuses.
use Rattle.std.specs.Prelude.{true, false, [], ◌∷◌, None, Some, codes}
use Rattle.f3_lookups.specs.declared.lookup.Lookup.TheVariants.{One}
use Rattle.f3_tree.specs.declared.expression.Sign.TheVariants.{Minus}
use Rattle.f3_tree.specs.declared.expression.Relation.TheVariants as r
use Rattle.f3_tree.specs.declared.expression.Operator.TheVariants as o
use Rattle.f3_tree.specs.declared.expression.IntegerKind.TheVariants.{Four}
use Rattle.f3_tree.specs.declared.declaration.Intent.TheVariants.{In, Out, InOut}
use Rattle.f3_tree.specs.declared.declaration.TypeSpecifier.TheVariants.{Integer, Logical, Derived}
use Rattle.f3_tree.specs.declared.program.ProcedureKind.TheVariants.{Subroutine, Function}
use Rattle.f3_tree.specs.declared.program.UnitKind.TheVariants as u
use Rattle.f3_tree.specs.Expressions.{truth, text, designator, group, array, signed, comparison, chain, no_more, more, no_trees, trees, no_parts, parts}
use Rattle.f3_tree.specs.Expressions.{bare, within, no_arguments, arguments, value, triplet, absent, present}
use Rattle.f3_tree.specs.Declarations.{explicit, deferred, parameter, allocatable, intent, declares}
use Rattle.f3_tree.specs.Statements.{assign, call, allocate, deallocate, print, one, from, up_to, values}
use Rattle.f3_tree.specs.Statements.{counted, acts, acts_if, selects, repeats, no_statements, statements}
use Rattle.f3_tree.specs.Statements.{no_cases, case_block}
use Rattle.f3_type_rows.specs.Build.{Finds, at, name, four, bounds, entity, declaration, type_definition, procedure, unit, program, looks}

--     module m; type t; integer, allocatable :: c(:); end type; end
--     program p; use m; type(t) :: x, y
--     allocate(x%c(0:1)); x%c = 4; y = x; y%c(0) = 9
--     print *, x%c, y%c, lbound(y%c,1); deallocate(x%c); y = x; print *, allocated(y%c)
--     end
-- accepted
abbrev pub accepted_1 : Type 0
accepted_1 = Finds None
    (program (codes "m" ∷ codes "t" ∷ codes "c" ∷ codes "p" ∷ codes "x" ∷ codes "y" ∷ codes "allocate" ∷ codes "print" ∷ codes "lbound" ∷ codes "deallocate" ∷
    codes "allocated" ∷ []) ((unit u.Module (name 0 1 8) ((type_definition (name 1 1 16) false ((declaration (Integer Four) (allocatable ∷ []) ((entity
    (name 2 1 43) (Some (deferred (None ∷ []))) None) ∷ [])) ∷ []) []) ∷ []) no_statements []) ∷ (unit u.Program (name 3 2 9) ((declares (declaration
    (Derived (name 1 2 24)) [] ((entity (name 4 2 30) None None) ∷ (entity (name 5 2 33) None None) ∷ []))) ∷ []) (statements (acts (at 3 1) (allocate
    ((parts (name 4 3 10) bare (parts (name 2 3 12) (within (arguments (triplet (at 3 14) (present (four (at 3 14) 0)) (present (four (at 3 16) 1))
    absent) no_arguments)) no_parts)) ∷ []) None)) (statements (acts (at 3 21) (assign (parts (name 4 3 21) bare (parts (name 2 3 23) bare no_parts))
    (four (at 3 27) 4))) (statements (acts (at 3 30) (assign (parts (name 5 3 30) bare no_parts) (designator (parts (name 4 3 34) bare no_parts))))
    (statements (acts (at 3 37) (assign (parts (name 5 3 37) bare (parts (name 2 3 39) (within (arguments (value None (four (at 3 41) 0)) no_arguments))
    no_parts)) (four (at 3 46) 9))) (statements (acts (at 4 1) (print ((designator (parts (name 4 4 10) bare (parts (name 2 4 12) bare no_parts))) ∷
    (designator (parts (name 5 4 15) bare (parts (name 2 4 17) bare no_parts))) ∷ (designator (parts (name 8 4 20) (within (arguments (value None
    (designator (parts (name 5 4 27) bare (parts (name 2 4 29) bare no_parts)))) (arguments (value None (four (at 4 31) 1)) no_arguments))) no_parts)) ∷
    []))) (statements (acts (at 4 35) (deallocate ((parts (name 4 4 46) bare (parts (name 2 4 48) bare no_parts)) ∷ []) None)) (statements (acts (at 4 52)
    (assign (parts (name 5 4 52) bare no_parts) (designator (parts (name 4 4 56) bare no_parts)))) (statements (acts (at 4 59) (print ((designator (parts
    (name 10 4 68) (within (arguments (value None (designator (parts (name 5 4 78) bare (parts (name 2 4 80) bare no_parts)))) no_arguments)) no_parts)) ∷
    []))) no_statements)))))))) []) ∷ [])) (looks (((1, One 0) ∷ []) ∷ ((1, One 0) ∷ (4, One 1) ∷ (5, One 2) ∷ []) ∷ [])) (0 ∷ 1 ∷ [])

--     program p; integer, allocatable :: a(:), b(:); integer :: s
--     a = 1
--     end
-- accepted
abbrev pub accepted_2 : Type 0
accepted_2 = Finds None
    (program (codes "p" ∷ codes "a" ∷ codes "b" ∷ codes "s" ∷ []) ((unit u.Program (name 0 1 9) ((declares (declaration (Integer Four) (allocatable ∷ [])
    ((entity (name 1 1 36) (Some (deferred (None ∷ []))) None) ∷ (entity (name 2 1 42) (Some (deferred (None ∷ []))) None) ∷ []))) ∷ (declares
    (declaration (Integer Four) [] ((entity (name 3 1 59) None None) ∷ []))) ∷ []) (statements (acts (at 2 1) (assign (parts (name 1 2 1) bare no_parts)
    (four (at 2 5) 1))) no_statements) []) ∷ [])) (looks (((1, One 0) ∷ (2, One 1) ∷ (3, One 2) ∷ []) ∷ [])) (0 ∷ [])

--     program p; integer, allocatable :: a(:), b(:); integer :: s
--     allocate(b(1)); allocate(a(2), b(2), stat=s); print *, s, allocated(a), size(b); deallocate(a, a, stat=s); print *, s
--     end
-- accepted
abbrev pub accepted_3 : Type 0
accepted_3 = Finds None
    (program (codes "p" ∷ codes "a" ∷ codes "b" ∷ codes "s" ∷ codes "allocate" ∷ codes "stat" ∷ codes "print" ∷ codes "allocated" ∷ codes "size" ∷ codes
    "deallocate" ∷ []) ((unit u.Program (name 0 1 9) ((declares (declaration (Integer Four) (allocatable ∷ []) ((entity (name 1 1 36) (Some (deferred
    (None ∷ []))) None) ∷ (entity (name 2 1 42) (Some (deferred (None ∷ []))) None) ∷ []))) ∷ (declares (declaration (Integer Four) [] ((entity (name 3 1
    59) None None) ∷ []))) ∷ []) (statements (acts (at 2 1) (allocate ((parts (name 2 2 10) (within (arguments (value None (four (at 2 12) 1))
    no_arguments)) no_parts) ∷ []) None)) (statements (acts (at 2 17) (allocate ((parts (name 1 2 26) (within (arguments (value None (four (at 2 28) 2))
    no_arguments)) no_parts) ∷ (parts (name 2 2 32) (within (arguments (value None (four (at 2 34) 2)) no_arguments)) no_parts) ∷ []) (Some (parts (name 3
    2 43) bare no_parts)))) (statements (acts (at 2 47) (print ((designator (parts (name 3 2 56) bare no_parts)) ∷ (designator (parts (name 7 2 59)
    (within (arguments (value None (designator (parts (name 1 2 69) bare no_parts))) no_arguments)) no_parts)) ∷ (designator (parts (name 8 2 73) (within
    (arguments (value None (designator (parts (name 2 2 78) bare no_parts))) no_arguments)) no_parts)) ∷ []))) (statements (acts (at 2 82) (deallocate
    ((parts (name 1 2 93) bare no_parts) ∷ (parts (name 1 2 96) bare no_parts) ∷ []) (Some (parts (name 3 2 104) bare no_parts)))) (statements (acts (at 2
    108) (print ((designator (parts (name 3 2 117) bare no_parts)) ∷ []))) no_statements))))) []) ∷ [])) (looks (((1, One 0) ∷ (2, One 1) ∷ (3, One 2) ∷
    []) ∷ [])) (0 ∷ [])

--     program p; integer, allocatable :: a(:), b(:); integer :: s
--     allocate(a(16777217), stat=s); print *, s
--     end
-- accepted
abbrev pub accepted_4 : Type 0
accepted_4 = Finds None
    (program (codes "p" ∷ codes "a" ∷ codes "b" ∷ codes "s" ∷ codes "stat" ∷ codes "allocate" ∷ codes "print" ∷ []) ((unit u.Program (name 0 1 9) ((declares
    (declaration (Integer Four) (allocatable ∷ []) ((entity (name 1 1 36) (Some (deferred (None ∷ []))) None) ∷ (entity (name 2 1 42) (Some (deferred
    (None ∷ []))) None) ∷ []))) ∷ (declares (declaration (Integer Four) [] ((entity (name 3 1 59) None None) ∷ []))) ∷ []) (statements (acts (at 2 1)
    (allocate ((parts (name 1 2 10) (within (arguments (value None (four (at 2 12) 16777217)) no_arguments)) no_parts) ∷ []) (Some (parts (name 3 2 28)
    bare no_parts)))) (statements (acts (at 2 32) (print ((designator (parts (name 3 2 41) bare no_parts)) ∷ []))) no_statements)) []) ∷ [])) (looks (((
      1,
      One 0,
    ) ∷ (2, One 1) ∷ (3, One 2) ∷ []) ∷ [])) (0 ∷ [])

--     module m; contains
--     subroutine s(x); integer, intent(inout) :: x(5:); x(7) = x(5); print *, lbound(x,1), ubound(x,1); end
--     end
--     program p; use m; integer :: a(6); a = [1, 2, 3, 4, 5, 6]
--     call s(a(6:2:-2)); print *, a
--     end
-- accepted
abbrev pub accepted_5 : Type 0
accepted_5 = Finds None
    (program (codes "m" ∷ codes "s" ∷ codes "x" ∷ codes "print" ∷ codes "lbound" ∷ codes "ubound" ∷ codes "p" ∷ codes "a" ∷ codes "call" ∷ []) ((unit u.Module
    (name 0 1 8) [] no_statements ((procedure false Subroutine (name 1 2 12) ((name 2 2 14) ∷ []) ((declares (declaration (Integer Four) ((intent InOut) ∷
    []) ((entity (name 2 2 44) (Some (deferred ((Some (four (at 2 46) 5)) ∷ []))) None) ∷ []))) ∷ []) (statements (acts (at 2 51) (assign (parts (name 2 2
    51) (within (arguments (value None (four (at 2 53) 7)) no_arguments)) no_parts) (designator (parts (name 2 2 58) (within (arguments (value None (four
    (at 2 60) 5)) no_arguments)) no_parts)))) (statements (acts (at 2 64) (print ((designator (parts (name 4 2 73) (within (arguments (value None
    (designator (parts (name 2 2 80) bare no_parts))) (arguments (value None (four (at 2 82) 1)) no_arguments))) no_parts)) ∷ (designator (parts (name 5 2
    86) (within (arguments (value None (designator (parts (name 2 2 93) bare no_parts))) (arguments (value None (four (at 2 95) 1)) no_arguments)))
    no_parts)) ∷ []))) no_statements))) ∷ [])) ∷ (unit u.Program (name 6 4 9) ((declares (declaration (Integer Four) [] ((entity (name 7 4 30) (Some
    (explicit ((bounds None (four (at 4 32) 6)) ∷ []))) None) ∷ []))) ∷ []) (statements (acts (at 4 36) (assign (parts (name 7 4 36) bare no_parts) (array
    (at 4 40) (trees (four (at 4 41) 1) (trees (four (at 4 44) 2) (trees (four (at 4 47) 3) (trees (four (at 4 50) 4) (trees (four (at 4 53) 5) (trees
    (four (at 4 56) 6) no_trees))))))))) (statements (acts (at 5 1) (call (name 1 5 6) ((value None (designator (parts (name 7 5 8) (within (arguments
    (triplet (at 5 10) (present (four (at 5 10) 6)) (present (four (at 5 12) 2)) (present (signed (at 5 14) Minus (four (at 5 15) 2)))) no_arguments))
    no_parts))) ∷ []))) (statements (acts (at 5 20) (print ((designator (parts (name 7 5 29) bare no_parts)) ∷ []))) no_statements))) []) ∷ [])) (looks
    (((1, One 0) ∷ []) ∷ ((1, One 0) ∷ (2, One 1) ∷ []) ∷ ((1, One 0) ∷ (7, One 2) ∷ []) ∷ [])) (0 ∷ 1 ∷ [])

--     module m; type t; integer :: id = 0; contains; final :: fin; end type; type(t), allocatable :: v; contains
--     subroutine fin(x); type(t), intent(inout) :: x; if (allocated(v)) deallocate(v); end
--     end
--     program p; use m; allocate(v); deallocate(v); end
-- accepted
abbrev pub accepted_6 : Type 0
accepted_6 = Finds None
    (program (codes "m" ∷ codes "t" ∷ codes "id" ∷ codes "fin" ∷ codes "v" ∷ codes "x" ∷ codes "allocated" ∷ codes "deallocate" ∷ codes "p" ∷ codes "allocate"
    ∷ []) ((unit u.Module (name 0 1 8) ((type_definition (name 1 1 16) false ((declaration (Integer Four) [] ((entity (name 2 1 30) None (Some (four (at 1
    35) 0))) ∷ [])) ∷ []) ((name 3 1 57) ∷ [])) ∷ (declares (declaration (Derived (name 1 1 77)) (allocatable ∷ []) ((entity (name 4 1 96) None None) ∷
    []))) ∷ []) no_statements ((procedure false Subroutine (name 3 2 12) ((name 5 2 16) ∷ []) ((declares (declaration (Derived (name 1 2 25)) ((intent
    InOut) ∷ []) ((entity (name 5 2 46) None None) ∷ []))) ∷ []) (statements (acts_if (at 2 49) (designator (parts (name 6 2 53) (within (arguments (value
    None (designator (parts (name 4 2 63) bare no_parts))) no_arguments)) no_parts)) (at 2 67) (deallocate ((parts (name 4 2 78) bare no_parts) ∷ [])
    None)) no_statements)) ∷ [])) ∷ (unit u.Program (name 8 4 9) [] (statements (acts (at 4 19) (allocate ((parts (name 4 4 28) bare no_parts) ∷ [])
    None)) (statements (acts (at 4 32) (deallocate ((parts (name 4 4 43) bare no_parts) ∷ []) None)) no_statements)) []) ∷ [])) (looks (((1, One 0) ∷ (
      3,
      One 2,
    ) ∷ (4, One 1) ∷ []) ∷ ((1, One 0) ∷ (3, One 2) ∷ (4, One 1) ∷ (5, One 3) ∷ []) ∷ ((1, One 0) ∷ (3, One 2) ∷ (4, One 1) ∷ []) ∷ [])) (0 ∷ 1 ∷ [])

--     module m; type c; integer :: id = 1; contains; final :: fc; end type
--     type t; type(c) :: a; type(c), allocatable :: b(:); contains; final :: ft; end type; contains
--     subroutine fc(x); type(c), intent(inout) :: x; print *, 'c', x%id; end
--     subroutine ft(x); type(t), intent(inout) :: x; print *, 't', allocated(x%b); end
--     subroutine go(); type(t) :: x; allocate(x%b(2)); print *, 'g'; end
--     end
--     program p; use m; call go(); end
-- accepted
abbrev pub accepted_7 : Type 0
accepted_7 = Finds None
    (program (codes "m" ∷ codes "c" ∷ codes "id" ∷ codes "fc" ∷ codes "t" ∷ codes "a" ∷ codes "b" ∷ codes "ft" ∷ codes "x" ∷ codes "print" ∷ codes "allocated"
    ∷ codes "go" ∷ codes "allocate" ∷ codes "p" ∷ codes "call" ∷ []) ((unit u.Module (name 0 1 8) ((type_definition (name 1 1 16) false ((declaration
    (Integer Four) [] ((entity (name 2 1 30) None (Some (four (at 1 35) 1))) ∷ [])) ∷ []) ((name 3 1 57) ∷ [])) ∷ (type_definition (name 4 2 6) false
    ((declaration (Derived (name 1 2 14)) [] ((entity (name 5 2 20) None None) ∷ [])) ∷ (declaration (Derived (name 1 2 28)) (allocatable ∷ []) ((entity
    (name 6 2 47) (Some (deferred (None ∷ []))) None) ∷ [])) ∷ []) ((name 7 2 72) ∷ [])) ∷ []) no_statements ((procedure false Subroutine (name 3 3 12)
    ((name 8 3 15) ∷ []) ((declares (declaration (Derived (name 1 3 24)) ((intent InOut) ∷ []) ((entity (name 8 3 45) None None) ∷ []))) ∷ []) (statements
    (acts (at 3 48) (print ((text (at 3 57) 0) ∷ (designator (parts (name 8 3 62) bare (parts (name 2 3 64) bare no_parts))) ∷ []))) no_statements)) ∷
    (procedure false Subroutine (name 7 4 12) ((name 8 4 15) ∷ []) ((declares (declaration (Derived (name 4 4 24)) ((intent InOut) ∷ []) ((entity (name 8
    4 45) None None) ∷ []))) ∷ []) (statements (acts (at 4 48) (print ((text (at 4 57) 0) ∷ (designator (parts (name 10 4 62) (within (arguments (value
    None (designator (parts (name 8 4 72) bare (parts (name 6 4 74) bare no_parts)))) no_arguments)) no_parts)) ∷ []))) no_statements)) ∷ (procedure false
    Subroutine (name 11 5 12) [] ((declares (declaration (Derived (name 4 5 23)) [] ((entity (name 8 5 29) None None) ∷ []))) ∷ []) (statements (acts (at
    5 32) (allocate ((parts (name 8 5 41) bare (parts (name 6 5 43) (within (arguments (value None (four (at 5 45) 2)) no_arguments)) no_parts)) ∷ [])
    None)) (statements (acts (at 5 50) (print ((text (at 5 59) 0) ∷ []))) no_statements))) ∷ [])) ∷ (unit u.Program (name 13 7 9) [] (statements (acts (at
    7 19) (call (name 11 7 24) [])) no_statements) []) ∷ [])) (looks (((1, One 0) ∷ (3, One 2) ∷ (4, One 1) ∷ (7, One 3) ∷ (11, One 4) ∷ []) ∷ ((1, One 0)
    ∷ (3, One 2) ∷ (4, One 1) ∷ (7, One 3) ∷ (8, One 5) ∷ (11, One 4) ∷ []) ∷ ((1, One 0) ∷ (3, One 2) ∷ (4, One 1) ∷ (7, One 3) ∷ (8, One 6) ∷ (
      11,
      One
          4,
    ) ∷ []) ∷ ((1, One 0) ∷ (3, One 2) ∷ (4, One 1) ∷ (7, One 3) ∷ (8, One 7) ∷ (11, One 4) ∷ []) ∷ ((1, One 0) ∷ (3, One 2) ∷ (4, One 1) ∷ (7, One 3) ∷
    (11, One 4) ∷ []) ∷ [])) (0 ∷ 1 ∷ [])

--     module m; type t; integer :: a(10000000); end type; type u; type(t), allocatable :: x; type(t) :: y; end type; end
--     program p; end
-- accepted
abbrev pub accepted_8 : Type 0
accepted_8 = Finds None
    (program (codes "m" ∷ codes "t" ∷ codes "a" ∷ codes "u" ∷ codes "x" ∷ codes "y" ∷ codes "p" ∷ []) ((unit u.Module (name 0 1 8) ((type_definition (name 1 1
    16) false ((declaration (Integer Four) [] ((entity (name 2 1 30) (Some (explicit ((bounds None (four (at 1 32) 10000000)) ∷ []))) None) ∷ [])) ∷ [])
    []) ∷ (type_definition (name 3 1 58) false ((declaration (Derived (name 1 1 66)) (allocatable ∷ []) ((entity (name 4 1 85) None None) ∷ [])) ∷
    (declaration (Derived (name 1 1 93)) [] ((entity (name 5 1 99) None None) ∷ [])) ∷ []) []) ∷ []) no_statements []) ∷ (unit u.Program (name 6 2 9) []
    no_statements []) ∷ [])) (looks (((1, One 0) ∷ (3, One 1) ∷ []) ∷ [] ∷ [])) (0 ∷ 1 ∷ [])

--     module m; type t; integer :: i; contains; final :: f; end type; contains; subroutine f(x); type(t), intent(in) :: x; end; subroutine g(a);
--         type(t), intent(out) :: a; type(t) :: z; end; end
--     program p; end
-- accepted
abbrev pub accepted_9 : Type 0
accepted_9 = Finds None
    (program (codes "m" ∷ codes "t" ∷ codes "i" ∷ codes "f" ∷ codes "x" ∷ codes "g" ∷ codes "a" ∷ codes "z" ∷ codes "p" ∷ []) ((unit u.Module (name 0 1 8)
    ((type_definition (name 1 1 16) false ((declaration (Integer Four) [] ((entity (name 2 1 30) None None) ∷ [])) ∷ []) ((name 3 1 52) ∷ [])) ∷ [])
    no_statements ((procedure false Subroutine (name 3 1 86) ((name 4 1 88) ∷ []) ((declares (declaration (Derived (name 1 1 97)) ((intent In) ∷ [])
    ((entity (name 4 1 115) None None) ∷ []))) ∷ []) no_statements) ∷ (procedure false Subroutine (name 5 1 134) ((name 6 1 136) ∷ []) ((declares
    (declaration (Derived (name 1 1 145)) ((intent Out) ∷ []) ((entity (name 6 1 164) None None) ∷ []))) ∷ (declares (declaration (Derived (name 1 1 172))
    [] ((entity (name 7 1 178) None None) ∷ []))) ∷ []) no_statements) ∷ [])) ∷ (unit u.Program (name 8 2 9) [] no_statements []) ∷ [])) (looks (((
      1,
      One
          0,
    ) ∷ (3, One 1) ∷ (5, One 2) ∷ []) ∷ ((1, One 0) ∷ (3, One 1) ∷ (4, One 3) ∷ (5, One 2) ∷ []) ∷ ((1, One 0) ∷ (3, One 1) ∷ (5, One 2) ∷ (6, One 4) ∷
    (7, One 5) ∷ []) ∷ [] ∷ [])) (0 ∷ 1 ∷ [])

--     program p; select case (-2147483647 - 1); case (:-2147483647); case (-2147483646:); end select; end
-- accepted
abbrev pub accepted_10 : Type 0
accepted_10 = Finds None
    (program (codes "p" ∷ []) ((unit u.Program (name 0 1 9) [] (statements (selects (at 1 12) (chain (signed (at 1 25) Minus (four (at 1 26) 2147483647))
    (more o.Subtract (four (at 1 39) 1) no_more)) (case_block (at 1 43) (values ((up_to (at 1 49) (signed (at 1 50) Minus (four (at 1 51) 2147483647))) ∷
    [])) no_statements (case_block (at 1 64) (values ((from (signed (at 1 70) Minus (four (at 1 71) 2147483646))) ∷ [])) no_statements no_cases)))
    no_statements) []) ∷ [])) (looks ([] ∷ [])) (0 ∷ [])

--     module m; contains; pure subroutine s(a); integer, allocatable, intent(inout) :: a; integer, allocatable :: b; call move_alloc(a, b); end; end
--     program p; end
-- accepted
abbrev pub accepted_11 : Type 0
accepted_11 = Finds None
    (program (codes "m" ∷ codes "s" ∷ codes "a" ∷ codes "b" ∷ codes "call" ∷ codes "move_alloc" ∷ codes "p" ∷ []) ((unit u.Module (name 0 1 8) []
    no_statements ((procedure true Subroutine (name 1 1 37) ((name 2 1 39) ∷ []) ((declares (declaration (Integer Four) (allocatable ∷ (intent InOut) ∷
    []) ((entity (name 2 1 82) None None) ∷ []))) ∷ (declares (declaration (Integer Four) (allocatable ∷ []) ((entity (name 3 1 109) None None) ∷ []))) ∷
    []) (statements (acts (at 1 112) (call (name 5 1 117) ((value None (designator (parts (name 2 1 128) bare no_parts))) ∷ (value None (designator (parts
    (name 3 1 131) bare no_parts))) ∷ []))) no_statements)) ∷ [])) ∷ (unit u.Program (name 6 2 9) [] no_statements []) ∷ [])) (looks (((1, One 0) ∷ []) ∷
    ((1, One 0) ∷ (2, One 1) ∷ (3, One 2) ∷ []) ∷ [] ∷ [])) (0 ∷ 1 ∷ [])

--     program p; integer :: max; max = 3; print *, max, min(1, 2); end
-- accepted
abbrev pub accepted_12 : Type 0
accepted_12 = Finds None
    (program (codes "p" ∷ codes "max" ∷ codes "print" ∷ codes "min" ∷ []) ((unit u.Program (name 0 1 9) ((declares (declaration (Integer Four) [] ((entity
    (name 1 1 23) None None) ∷ []))) ∷ []) (statements (acts (at 1 28) (assign (parts (name 1 1 28) bare no_parts) (four (at 1 34) 3))) (statements (acts
    (at 1 37) (print ((designator (parts (name 1 1 46) bare no_parts)) ∷ (designator (parts (name 3 1 51) (within (arguments (value None (four (at 1 55)
    1)) (arguments (value None (four (at 1 58) 2)) no_arguments))) no_parts)) ∷ []))) no_statements)) []) ∷ [])) (looks (((1, One 0) ∷ []) ∷ [])) (0 ∷ [])

--     program p; use m; integer :: i; do i = 1, 2; call s(i); end do; end
--     module m; contains; subroutine s(a); integer, intent(in) :: a; end; end
-- accepted
abbrev pub accepted_13 : Type 0
accepted_13 = Finds None
    (program (codes "p" ∷ codes "i" ∷ codes "call" ∷ codes "s" ∷ codes "m" ∷ codes "a" ∷ []) ((unit u.Program (name 0 1 9) ((declares (declaration (Integer
    Four) [] ((entity (name 1 1 30) None None) ∷ []))) ∷ []) (statements (repeats (at 1 33) (counted (name 1 1 36) (four (at 1 40) 1) (four (at 1 43) 2)
    None) (statements (acts (at 1 46) (call (name 3 1 51) ((value None (designator (parts (name 1 1 53) bare no_parts))) ∷ []))) no_statements))
    no_statements) []) ∷ (unit u.Module (name 4 2 8) [] no_statements ((procedure false Subroutine (name 3 2 32) ((name 5 2 34) ∷ []) ((declares
    (declaration (Integer Four) ((intent In) ∷ []) ((entity (name 5 2 61) None None) ∷ []))) ∷ []) no_statements) ∷ [])) ∷ [])) (looks (((1, One 0) ∷ (
      3,
      One 1,
    ) ∷ []) ∷ ((3, One 1) ∷ []) ∷ ((3, One 1) ∷ (5, One 2) ∷ []) ∷ [])) (1 ∷ 0 ∷ [])

--     module m; contains; subroutine s(a); integer, intent(in) :: a; integer :: b; call t(b=b, a=a); end; subroutine t(a, b); integer, intent(in) ::
--         a; integer, intent(out) :: b; b = a; end; end
--     program p; end
-- accepted
abbrev pub accepted_14 : Type 0
accepted_14 = Finds None
    (program (codes "m" ∷ codes "s" ∷ codes "a" ∷ codes "b" ∷ codes "call" ∷ codes "t" ∷ codes "p" ∷ []) ((unit u.Module (name 0 1 8) [] no_statements
    ((procedure false Subroutine (name 1 1 32) ((name 2 1 34) ∷ []) ((declares (declaration (Integer Four) ((intent In) ∷ []) ((entity (name 2 1 61) None
    None) ∷ []))) ∷ (declares (declaration (Integer Four) [] ((entity (name 3 1 75) None None) ∷ []))) ∷ []) (statements (acts (at 1 78) (call (name 5 1
    83) ((value (Some (name 3 1 85)) (designator (parts (name 3 1 87) bare no_parts))) ∷ (value (Some (name 2 1 90)) (designator (parts (name 2 1 92) bare
    no_parts))) ∷ []))) no_statements)) ∷ (procedure false Subroutine (name 5 1 112) ((name 2 1 114) ∷ (name 3 1 117) ∷ []) ((declares (declaration
    (Integer Four) ((intent In) ∷ []) ((entity (name 2 1 144) None None) ∷ []))) ∷ (declares (declaration (Integer Four) ((intent Out) ∷ []) ((entity
    (name 3 1 171) None None) ∷ []))) ∷ []) (statements (acts (at 1 174) (assign (parts (name 3 1 174) bare no_parts) (designator (parts (name 2 1 178)
    bare no_parts)))) no_statements)) ∷ [])) ∷ (unit u.Program (name 6 2 9) [] no_statements []) ∷ [])) (looks (((1, One 0) ∷ (5, One 1) ∷ []) ∷ ((
      1,
      One
          0,
    ) ∷ (2, One 2) ∷ (3, One 3) ∷ (5, One 1) ∷ []) ∷ ((1, One 0) ∷ (2, One 4) ∷ (3, One 5) ∷ (5, One 1) ∷ []) ∷ [] ∷ [])) (0 ∷ 1 ∷ [])

--     module m; integer :: n; contains; function f(); integer :: f; f = 1; call s(); end; pure subroutine s(); end; end
--     program p; end
-- accepted
abbrev pub accepted_15 : Type 0
accepted_15 = Finds None
    (program (codes "m" ∷ codes "n" ∷ codes "f" ∷ codes "call" ∷ codes "s" ∷ codes "p" ∷ []) ((unit u.Module (name 0 1 8) ((declares (declaration (Integer
    Four) [] ((entity (name 1 1 22) None None) ∷ []))) ∷ []) no_statements ((procedure false (Function None None) (name 2 1 44) [] ((declares (declaration
    (Integer Four) [] ((entity (name 2 1 60) None None) ∷ []))) ∷ []) (statements (acts (at 1 63) (assign (parts (name 2 1 63) bare no_parts) (four (at 1
    67) 1))) (statements (acts (at 1 70) (call (name 4 1 75) [])) no_statements))) ∷ (procedure true Subroutine (name 4 1 101) [] [] no_statements) ∷ []))
    ∷ (unit u.Program (name 5 2 9) [] no_statements []) ∷ [])) (looks (((1, One 0) ∷ (2, One 1) ∷ (4, One 2) ∷ []) ∷ ((1, One 0) ∷ (2, One 3) ∷ (4, One 2)
    ∷ []) ∷ ((1, One 0) ∷ (2, One 1) ∷ (4, One 2) ∷ []) ∷ [] ∷ [])) (0 ∷ 1 ∷ [])

--     module m; contains; integer function f(); f = 2; end; end
--     program p; end
-- accepted
abbrev pub accepted_16 : Type 0
accepted_16 = Finds None
    (program (codes "m" ∷ codes "f" ∷ codes "p" ∷ []) ((unit u.Module (name 0 1 8) [] no_statements ((procedure false (Function (Some (Integer Four)) None)
    (name 1 1 38) [] [] (statements (acts (at 1 43) (assign (parts (name 1 1 43) bare no_parts) (four (at 1 47) 2))) no_statements)) ∷ [])) ∷ (unit
    u.Program (name 2 2 9) [] no_statements []) ∷ [])) (looks (((1, One 0) ∷ []) ∷ ((1, One 1) ∷ []) ∷ [] ∷ [])) (0 ∷ 1 ∷ [])

--     program p; integer :: a(2 ** 3 ** 0) = [1, 2]; end
-- accepted
abbrev pub accepted_17 : Type 0
accepted_17 = Finds None
    (program (codes "p" ∷ codes "a" ∷ []) ((unit u.Program (name 0 1 9) ((declares (declaration (Integer Four) [] ((entity (name 1 1 23) (Some (explicit
    ((bounds None (chain (four (at 1 25) 2) (more o.Power (four (at 1 30) 3) (more o.Power (four (at 1 35) 0) no_more)))) ∷ []))) (Some (array (at 1 40)
    (trees (four (at 1 41) 1) (trees (four (at 1 44) 2) no_trees))))) ∷ []))) ∷ []) no_statements []) ∷ [])) (looks (((1, One 0) ∷ []) ∷ [])) (0 ∷ [])

--     program p; integer :: a(7 - 3 - 2) = [1, 2]; end
-- accepted
abbrev pub accepted_18 : Type 0
accepted_18 = Finds None
    (program (codes "p" ∷ codes "a" ∷ []) ((unit u.Program (name 0 1 9) ((declares (declaration (Integer Four) [] ((entity (name 1 1 23) (Some (explicit
    ((bounds None (chain (four (at 1 25) 7) (more o.Subtract (four (at 1 29) 3) (more o.Subtract (four (at 1 33) 2) no_more)))) ∷ []))) (Some (array (at 1
    38) (trees (four (at 1 39) 1) (trees (four (at 1 42) 2) no_trees))))) ∷ []))) ∷ []) no_statements []) ∷ [])) (looks (((1, One 0) ∷ []) ∷ [])) (0 ∷ [])

--     program p; integer :: a(-2 ** 2 + 6) = [1, 2]; end
-- accepted
abbrev pub accepted_19 : Type 0
accepted_19 = Finds None
    (program (codes "p" ∷ codes "a" ∷ []) ((unit u.Program (name 0 1 9) ((declares (declaration (Integer Four) [] ((entity (name 1 1 23) (Some (explicit
    ((bounds None (chain (signed (at 1 25) Minus (chain (four (at 1 26) 2) (more o.Power (four (at 1 31) 2) no_more))) (more o.Add (four (at 1 35) 6)
    no_more))) ∷ []))) (Some (array (at 1 40) (trees (four (at 1 41) 1) (trees (four (at 1 44) 2) no_trees))))) ∷ []))) ∷ []) no_statements []) ∷ []))
    (looks (((1, One 0) ∷ []) ∷ [])) (0 ∷ [])

--     program p; integer :: a(17 / 2 * 2 - 14) = [1, 2]; end
-- accepted
abbrev pub accepted_20 : Type 0
accepted_20 = Finds None
    (program (codes "p" ∷ codes "a" ∷ []) ((unit u.Program (name 0 1 9) ((declares (declaration (Integer Four) [] ((entity (name 1 1 23) (Some (explicit
    ((bounds None (chain (chain (four (at 1 25) 17) (more o.Divide (four (at 1 30) 2) (more o.Multiply (four (at 1 34) 2) no_more))) (more o.Subtract
    (four (at 1 38) 14) no_more))) ∷ []))) (Some (array (at 1 44) (trees (four (at 1 45) 1) (trees (four (at 1 48) 2) no_trees))))) ∷ []))) ∷ [])
    no_statements []) ∷ [])) (looks (((1, One 0) ∷ []) ∷ [])) (0 ∷ [])

--     program p; integer :: a((-7) / 2 + 5) = [1, 2]; end
-- accepted
abbrev pub accepted_21 : Type 0
accepted_21 = Finds None
    (program (codes "p" ∷ codes "a" ∷ []) ((unit u.Program (name 0 1 9) ((declares (declaration (Integer Four) [] ((entity (name 1 1 23) (Some (explicit
    ((bounds None (chain (chain (group (at 1 25) (signed (at 1 26) Minus (four (at 1 27) 7))) (more o.Divide (four (at 1 32) 2) no_more)) (more o.Add
    (four (at 1 36) 5) no_more))) ∷ []))) (Some (array (at 1 41) (trees (four (at 1 42) 1) (trees (four (at 1 45) 2) no_trees))))) ∷ []))) ∷ [])
    no_statements []) ∷ [])) (looks (((1, One 0) ∷ []) ∷ [])) (0 ∷ [])

--     program p; integer, parameter :: n = 2 * 3 - 4; integer :: a(n * n - n) = [n, n]; logical :: l(2) = [n == 2, n > 3]; end
-- accepted
abbrev pub accepted_22 : Type 0
accepted_22 = Finds None
    (program (codes "p" ∷ codes "n" ∷ codes "a" ∷ codes "l" ∷ []) ((unit u.Program (name 0 1 9) ((declares (declaration (Integer Four) (parameter ∷ [])
    ((entity (name 1 1 34) None (Some (chain (chain (four (at 1 38) 2) (more o.Multiply (four (at 1 42) 3) no_more)) (more o.Subtract (four (at 1 46) 4)
    no_more)))) ∷ []))) ∷ (declares (declaration (Integer Four) [] ((entity (name 2 1 60) (Some (explicit ((bounds None (chain (chain (designator (parts
    (name 1 1 62) bare no_parts)) (more o.Multiply (designator (parts (name 1 1 66) bare no_parts)) no_more)) (more o.Subtract (designator (parts (name 1
    1 70) bare no_parts)) no_more))) ∷ []))) (Some (array (at 1 75) (trees (designator (parts (name 1 1 76) bare no_parts)) (trees (designator (parts
    (name 1 1 79) bare no_parts)) no_trees))))) ∷ []))) ∷ (declares (declaration Logical [] ((entity (name 3 1 94) (Some (explicit ((bounds None (four (at
    1 96) 2)) ∷ []))) (Some (array (at 1 101) (trees (comparison (designator (parts (name 1 1 102) bare no_parts)) r.Equal (four (at 1 107) 2)) (trees
    (comparison (designator (parts (name 1 1 110) bare no_parts)) r.Greater (four (at 1 114) 3)) no_trees))))) ∷ []))) ∷ []) no_statements []) ∷ []))
    (looks (((1, One 0) ∷ (2, One 1) ∷ (3, One 2) ∷ []) ∷ [])) (0 ∷ [])

--     program p; select case (.true.); case (2 < 2, .true.); end select; end
-- accepted
abbrev pub accepted_23 : Type 0
accepted_23 = Finds None
    (program (codes "p" ∷ []) ((unit u.Program (name 0 1 9) [] (statements (selects (at 1 12) (truth (at 1 25) true) (case_block (at 1 34) (values ((one
    (comparison (four (at 1 40) 2) r.Less (four (at 1 44) 2))) ∷ (one (truth (at 1 47) true)) ∷ [])) no_statements no_cases)) no_statements) []) ∷ []))
    (looks ([] ∷ [])) (0 ∷ [])

--     program p; select case (.true.); case (2 > 3, .true.); end select; end
-- accepted
abbrev pub accepted_24 : Type 0
accepted_24 = Finds None
    (program (codes "p" ∷ []) ((unit u.Program (name 0 1 9) [] (statements (selects (at 1 12) (truth (at 1 25) true) (case_block (at 1 34) (values ((one
    (comparison (four (at 1 40) 2) r.Greater (four (at 1 44) 3))) ∷ (one (truth (at 1 47) true)) ∷ [])) no_statements no_cases)) no_statements) []) ∷ []))
    (looks ([] ∷ [])) (0 ∷ [])

--     program p; select case (.true.); case (2 >= 3, .true.); end select; end
-- accepted
abbrev pub accepted_25 : Type 0
accepted_25 = Finds None
    (program (codes "p" ∷ []) ((unit u.Program (name 0 1 9) [] (statements (selects (at 1 12) (truth (at 1 25) true) (case_block (at 1 34) (values ((one
    (comparison (four (at 1 40) 2) r.GreaterOrEqual (four (at 1 45) 3))) ∷ (one (truth (at 1 48) true)) ∷ [])) no_statements no_cases)) no_statements) [])
    ∷ [])) (looks ([] ∷ [])) (0 ∷ [])

abbrev pub AcceptedShow : Type 0
AcceptedShow = accepted_1 × accepted_2 × accepted_3 × accepted_4 × accepted_5 × accepted_6 × accepted_7 × accepted_8 × accepted_9 × accepted_10 × accepted_11
    × accepted_12 × accepted_13 × accepted_14 × accepted_15 × accepted_16 × accepted_17 × accepted_18 × accepted_19 × accepted_20 × accepted_21 × accepted_22
    × accepted_23 × accepted_24 × accepted_25
