-- Programs, each in the text above its tree, and what the runs of their elaborated programs show.
use Rattle.std.specs.Prelude.{ℕ, pos, true, false, List, [], ◌∷◌, None, Some, codes}
use Rattle.std.specs.declared.alloc.Global.{Global}
use Rattle.f3_lookups.specs.declared.lookup.Lookup.{Lookup}
use Rattle.f3_lookups.specs.declared.lookup.Lookup.TheVariants.{One}
use Rattle.f3_tree.specs.declared.expression.Sign.TheVariants.{Minus}
use Rattle.f3_tree.specs.declared.expression.Relation.TheVariants as r
use Rattle.f3_tree.specs.declared.expression.Operator.TheVariants as o
use Rattle.f3_tree.specs.declared.expression.IntegerKind.TheVariants.{Four, Eight}
use Rattle.f3_tree.specs.declared.declaration.Intent.TheVariants.{In, Out, InOut}
use Rattle.f3_tree.specs.declared.declaration.TypeSpecifier.TheVariants.{Integer, Logical, Derived}
use Rattle.f3_tree.specs.declared.program.ProcedureKind.TheVariants.{Subroutine, Function}
use Rattle.f3_tree.specs.declared.program.UnitKind.TheVariants as u
use Rattle.f3_tree.specs.Expressions.{truth, text, designator, group, array, signed, negation, comparison, chain, no_more, more, no_trees, trees}
use Rattle.f3_tree.specs.Expressions.{no_parts, parts, bare, within, no_arguments, arguments, value, triplet, absent, present}
use Rattle.f3_tree.specs.Declarations.{explicit, deferred, protected, parameter, allocatable, intent, declares}
use Rattle.f3_tree.specs.Statements.{assign, call, allocate, deallocate, print, stop, cycle, exit, one, up_to, range, values, default, forever}
use Rattle.f3_tree.specs.Statements.{counted, while, acts, acts_if, branches, selects, repeats, associates, no_statements, statements, no_branches}
use Rattle.f3_tree.specs.Statements.{branch, alternative, no_cases, case_block}
use Rattle.f3_tree.specs.Tree.{Tree}
use Rattle.f3_meaning_rows.specs.Shown.{Finished, Failed, Stopped}
use Rattle.f3_elaboration_rows.specs.Trees.{at, name, four, eight, bounds, entity, declaration, type_definition, procedure, unit, association, program, looks}
use Rattle.f3_elaboration_rows.specs.Rows.{Shows, Lawful}

--     program p; integer, allocatable :: a(:), b(:), c(:), d(:)
--     allocate(a(3:5)); a = 0; b = a; c = a(3:5); allocate(d(0:2)); d = a
--     print *, lbound(b,1), lbound(c,1), lbound(d,1)
--     end
abbrev pub bounds_tree : Tree
bounds_tree =
    (program (codes "program" ∷ codes "p" ∷ codes "integer" ∷ codes "allocatable" ∷ codes "a" ∷ codes "b" ∷ codes "c" ∷ codes "d" ∷ codes "allocate" ∷
    codes "print" ∷ codes "lbound" ∷ codes "end" ∷ []) [] ((unit (at 1 1) u.Program (name 1 1 9) ((declares (declaration (Integer Four) (allocatable ∷ [])
    ((entity (name 4 1 36) (Some (deferred (None ∷ []))) None) ∷ (entity (name 5 1 42) (Some (deferred (None ∷ []))) None) ∷ (entity (name 6 1 48) (Some
    (deferred (None ∷ []))) None) ∷ (entity (name 7 1 54) (Some (deferred (None ∷ []))) None) ∷ []))) ∷ []) (statements (acts (at 2 1) (allocate ((parts
    (name 4 2 10) (within (arguments (triplet (at 2 12) (present (four (at 2 12) 3)) (present (four (at 2 14) 5)) absent) no_arguments)) no_parts) ∷ [])
    None)) (statements (acts (at 2 19) (assign (parts (name 4 2 19) bare no_parts) (four (at 2 23) 0))) (statements (acts (at 2 26) (assign (parts (name 5
    2 26) bare no_parts) (designator (parts (name 4 2 30) bare no_parts)))) (statements (acts (at 2 33) (assign (parts (name 6 2 33) bare no_parts)
    (designator (parts (name 4 2 37) (within (arguments (triplet (at 2 39) (present (four (at 2 39) 3)) (present (four (at 2 41) 5)) absent) no_arguments))
    no_parts)))) (statements (acts (at 2 45) (allocate ((parts (name 7 2 54) (within (arguments (triplet (at 2 56) (present (four (at 2 56) 0)) (present
    (four (at 2 58) 2)) absent) no_arguments)) no_parts) ∷ []) None)) (statements (acts (at 2 63) (assign (parts (name 7 2 63) bare no_parts) (designator
    (parts (name 4 2 67) bare no_parts)))) (statements (acts (at 3 1) (print ((designator (parts (name 10 3 10) (within (arguments (value None (designator
    (parts (name 5 3 17) bare no_parts))) (arguments (value None (four (at 3 19) 1)) no_arguments))) no_parts)) ∷ (designator (parts (name 10 3 23) (within
    (arguments (value None (designator (parts (name 6 3 30) bare no_parts))) (arguments (value None (four (at 3 32) 1)) no_arguments))) no_parts)) ∷
    (designator (parts (name 10 3 36) (within (arguments (value None (designator (parts (name 7 3 43) bare no_parts))) (arguments (value None (four (at 3
    45) 1)) no_arguments))) no_parts)) ∷ []))) no_statements))))))) [] (at 4 1)) ∷ []))

abbrev pub bounds_look : ℕ → ℕ → Lookup
bounds_look =
    (looks (((4, One 0) ∷ (5, One 1) ∷ (6, One 2) ∷ (7, One 3) ∷ []) ∷ []))

abbrev pub bounds_order : List ℕ
bounds_order = 0 ∷ []

abbrev pub bounds_lawful : Global → Type 0
bounds_lawful h = Lawful h bounds_tree bounds_look bounds_order

abbrev pub bounds_shows : Global → Type 0
bounds_shows h = Shows h bounds_tree bounds_look bounds_order (codes " 3 1 0" ∷ []) Finished

--     module m; type t; integer :: id = 0; contains; final :: fin; end type; contains
--     subroutine fin(x); type(t), intent(inout) :: x; print *, 'f', x%id; end
--     subroutine go(); type(t) :: x, y; x%id = 1; y%id = 2; x = y; print *, 'g'; end
--     end
--     program p; use m; call go(); end
abbrev pub finals_tree : Tree
finals_tree =
    (program (codes "module" ∷ codes "m" ∷ codes "type" ∷ codes "t" ∷ codes "integer" ∷ codes "id" ∷ codes "contains" ∷ codes "final" ∷ codes "fin" ∷
    codes "end" ∷ codes "subroutine" ∷ codes "x" ∷ codes "intent" ∷ codes "inout" ∷ codes "print" ∷ codes "go" ∷ codes "y" ∷ codes "program" ∷ codes "p" ∷
    codes "use" ∷ codes "call" ∷ []) ((102 ∷ []) ∷ (103 ∷ []) ∷ []) ((unit (at 1 1) u.Module (name 1 1 8) ((type_definition (name 3 1 16) None
    ((declaration (Integer Four) [] ((entity (name 5 1 30) None (Some (four (at 1 35) 0))) ∷ [])) ∷ []) ((name 8 1 57) ∷ [])) ∷ []) no_statements
    ((procedure false Subroutine (name 8 2 12) ((name 11 2 16) ∷ []) ((declares (declaration (Derived (name 3 2 25)) ((intent InOut) ∷ []) ((entity (name
    11 2 46) None None) ∷ []))) ∷ []) (statements (acts (at 2 49) (print ((text (at 2 58) 0) ∷ (designator (parts (name 11 2 63) bare (parts (name 5 2 65)
    bare no_parts))) ∷ []))) no_statements) (at 2 69)) ∷ (procedure false Subroutine (name 15 3 12) [] ((declares (declaration (Derived (name 3 3 23)) []
    ((entity (name 11 3 29) None None) ∷ (entity (name 16 3 32) None None) ∷ []))) ∷ []) (statements (acts (at 3 35) (assign (parts (name 11 3 35) bare
    (parts (name 5 3 37) bare no_parts)) (four (at 3 42) 1))) (statements (acts (at 3 45) (assign (parts (name 16 3 45) bare (parts (name 5 3 47) bare
    no_parts)) (four (at 3 52) 2))) (statements (acts (at 3 55) (assign (parts (name 11 3 55) bare no_parts) (designator (parts (name 16 3 59) bare
    no_parts)))) (statements (acts (at 3 62) (print ((text (at 3 71) 1) ∷ []))) no_statements)))) (at 3 76)) ∷ []) (at 4 1)) ∷ (unit (at 5 1) u.Program
    (name 18 5 9) [] (statements (acts (at 5 19) (call (name 15 5 24) [])) no_statements) [] (at 5 30)) ∷ []))

abbrev pub finals_look : ℕ → ℕ → Lookup
finals_look =
    (looks (((3, One 0) ∷ (8, One 1) ∷ (15, One 2) ∷ []) ∷ ((3, One 0) ∷ (8, One 1) ∷ (11, One 3) ∷ (15, One 2) ∷ []) ∷ ((3, One 0) ∷ (8, One 1) ∷ (
      11,
      One
          4,
    ) ∷ (15, One 2) ∷ (16, One 5) ∷ []) ∷ ((3, One 0) ∷ (8, One 1) ∷ (15, One 2) ∷ []) ∷ []))

abbrev pub finals_order : List ℕ
finals_order = 0 ∷ 1 ∷ []

abbrev pub finals_lawful : Global → Type 0
finals_lawful h = Lawful h finals_tree finals_look finals_order

abbrev pub finals_shows : Global → Type 0
finals_shows h = Shows h finals_tree finals_look finals_order (codes " f 1" ∷ codes " g" ∷ codes " f 2" ∷ codes " f 2" ∷ []) Finished

--     module m; use k; integer, protected :: n = 3; contains; subroutine up(); call bump(n); end; end
--     module k; contains; subroutine bump(x); integer, intent(inout) :: x; x = x + 1; end; end
--     program p; use m; call up(); print *, n; end
abbrev pub protected_tree : Tree
protected_tree =
    (program (codes "module" ∷ codes "m" ∷ codes "use" ∷ codes "k" ∷ codes "integer" ∷ codes "protected" ∷ codes "n" ∷ codes "contains" ∷
    codes "subroutine" ∷ codes "up" ∷ codes "call" ∷ codes "bump" ∷ codes "end" ∷ codes "x" ∷ codes "intent" ∷ codes "inout" ∷ codes "program" ∷ codes "p"
    ∷ codes "print" ∷ []) [] ((unit (at 1 1) u.Module (name 1 1 8) ((declares (declaration (Integer Four) (protected ∷ []) ((entity (name 6 1 40) None
    (Some (four (at 1 44) 3))) ∷ []))) ∷ []) no_statements ((procedure false Subroutine (name 9 1 68) [] [] (statements (acts (at 1 74) (call (name 11 1
    79) ((value None (designator (parts (name 6 1 84) bare no_parts))) ∷ []))) no_statements) (at 1 88)) ∷ []) (at 1 93)) ∷ (unit (at 2 1) u.Module (name 3
    2 8) [] no_statements ((procedure false Subroutine (name 11 2 32) ((name 13 2 37) ∷ []) ((declares (declaration (Integer Four) ((intent InOut) ∷ [])
    ((entity (name 13 2 67) None None) ∷ []))) ∷ []) (statements (acts (at 2 70) (assign (parts (name 13 2 70) bare no_parts) (chain (designator (parts
    (name 13 2 74) bare no_parts)) (more o.Add (four (at 2 78) 1) no_more)))) no_statements) (at 2 81)) ∷ []) (at 2 86)) ∷ (unit (at 3 1) u.Program (name
    17 3 9) [] (statements (acts (at 3 19) (call (name 9 3 24) [])) (statements (acts (at 3 30) (print ((designator (parts (name 6 3 39) bare no_parts)) ∷
    []))) no_statements)) [] (at 3 42)) ∷ []))

abbrev pub protected_look : ℕ → ℕ → Lookup
protected_look =
    (looks (((6, One 0) ∷ (9, One 1) ∷ (11, One 2) ∷ []) ∷ ((6, One 0) ∷ (9, One 1) ∷ (11, One 2) ∷ []) ∷ ((11, One 2) ∷ []) ∷ ((11, One 2) ∷ (13, One 3) ∷
    []) ∷ ((6, One 0) ∷ (9, One 1) ∷ (11, One 2) ∷ []) ∷ []))

abbrev pub protected_order : List ℕ
protected_order = 1 ∷ 0 ∷ 2 ∷ []

abbrev pub protected_lawful : Global → Type 0
protected_lawful h = Lawful h protected_tree protected_look protected_order

abbrev pub protected_shows : Global → Type 0
protected_shows h = Shows h protected_tree protected_look protected_order (codes " 4" ∷ []) Finished

--     module m; type box; private; integer :: secret = 1; end type; contains
--     subroutine show(b); type(box), intent(in) :: b; print *, b%secret; end
--     subroutine set(b, v); type(box), intent(inout) :: b; integer, intent(in) :: v; b%secret = v; end
--     end
--     program p; use m; type(box) :: a, b
--     call set(b, 5); a = b; call show(a)
--     end
abbrev pub private_tree : Tree
private_tree =
    (program (codes "module" ∷ codes "m" ∷ codes "type" ∷ codes "box" ∷ codes "private" ∷ codes "integer" ∷ codes "secret" ∷ codes "end" ∷ codes "contains"
    ∷ codes "subroutine" ∷ codes "show" ∷ codes "b" ∷ codes "intent" ∷ codes "in" ∷ codes "print" ∷ codes "set" ∷ codes "v" ∷ codes "inout" ∷
    codes "program" ∷ codes "p" ∷ codes "use" ∷ codes "a" ∷ codes "call" ∷ []) [] ((unit (at 1 1) u.Module (name 1 1 8) ((type_definition (name 3 1 16)
    (Some (at 1 21)) ((declaration (Integer Four) [] ((entity (name 6 1 41) None (Some (four (at 1 50) 1))) ∷ [])) ∷ []) []) ∷ []) no_statements
    ((procedure false Subroutine (name 10 2 12) ((name 11 2 17) ∷ []) ((declares (declaration (Derived (name 3 2 26)) ((intent In) ∷ []) ((entity (name 11
    2 46) None None) ∷ []))) ∷ []) (statements (acts (at 2 49) (print ((designator (parts (name 11 2 58) bare (parts (name 6 2 60) bare no_parts))) ∷ [])))
    no_statements) (at 2 68)) ∷ (procedure false Subroutine (name 15 3 12) ((name 11 3 16) ∷ (name 16 3 19) ∷ []) ((declares (declaration (Derived (name 3
    3 28)) ((intent InOut) ∷ []) ((entity (name 11 3 51) None None) ∷ []))) ∷ (declares (declaration (Integer Four) ((intent In) ∷ []) ((entity (name 16 3
    77) None None) ∷ []))) ∷ []) (statements (acts (at 3 80) (assign (parts (name 11 3 80) bare (parts (name 6 3 82) bare no_parts)) (designator (parts
    (name 16 3 91) bare no_parts)))) no_statements) (at 3 94)) ∷ []) (at 4 1)) ∷ (unit (at 5 1) u.Program (name 19 5 9) ((declares (declaration (Derived
    (name 3 5 24)) [] ((entity (name 21 5 32) None None) ∷ (entity (name 11 5 35) None None) ∷ []))) ∷ []) (statements (acts (at 6 1) (call (name 15 6 6)
    ((value None (designator (parts (name 11 6 10) bare no_parts))) ∷ (value None (four (at 6 13) 5)) ∷ []))) (statements (acts (at 6 17) (assign (parts
    (name 21 6 17) bare no_parts) (designator (parts (name 11 6 21) bare no_parts)))) (statements (acts (at 6 24) (call (name 10 6 29) ((value None
    (designator (parts (name 21 6 34) bare no_parts))) ∷ []))) no_statements))) [] (at 7 1)) ∷ []))

abbrev pub private_look : ℕ → ℕ → Lookup
private_look =
    (looks (((3, One 0) ∷ (10, One 1) ∷ (15, One 2) ∷ []) ∷ ((3, One 0) ∷ (10, One 1) ∷ (11, One 3) ∷ (15, One 2) ∷ []) ∷ ((3, One 0) ∷ (10, One 1) ∷ (
      11,
      One 4,
    ) ∷ (15, One 2) ∷ (16, One 5) ∷ []) ∷ ((3, One 0) ∷ (10, One 1) ∷ (11, One 7) ∷ (15, One 2) ∷ (21, One 6) ∷ []) ∷ []))

abbrev pub private_order : List ℕ
private_order = 0 ∷ 1 ∷ []

abbrev pub private_lawful : Global → Type 0
private_lawful h = Lawful h private_tree private_look private_order

abbrev pub private_shows : Global → Type 0
private_shows h = Shows h private_tree private_look private_order (codes " 5" ∷ []) Finished

--     module w; integer, allocatable :: v(:), u(:); contains
--     subroutine p(x); integer, intent(inout) :: x; deallocate(v); x = 1; end
--     end
--     program q; use w; allocate(v(3)); call p(v(1)); print *, v(1); end
abbrev pub lent_tree : Tree
lent_tree =
    (program (codes "module" ∷ codes "w" ∷ codes "integer" ∷ codes "allocatable" ∷ codes "v" ∷ codes "u" ∷ codes "contains" ∷ codes "subroutine" ∷
    codes "p" ∷ codes "x" ∷ codes "intent" ∷ codes "inout" ∷ codes "deallocate" ∷ codes "end" ∷ codes "program" ∷ codes "q" ∷ codes "use" ∷
    codes "allocate" ∷ codes "call" ∷ codes "print" ∷ []) [] ((unit (at 1 1) u.Module (name 1 1 8) ((declares (declaration (Integer Four) (allocatable ∷
    []) ((entity (name 4 1 35) (Some (deferred (None ∷ []))) None) ∷ (entity (name 5 1 41) (Some (deferred (None ∷ []))) None) ∷ []))) ∷ []) no_statements
    ((procedure false Subroutine (name 8 2 12) ((name 9 2 14) ∷ []) ((declares (declaration (Integer Four) ((intent InOut) ∷ []) ((entity (name 9 2 44)
    None None) ∷ []))) ∷ []) (statements (acts (at 2 47) (deallocate ((parts (name 4 2 58) bare no_parts) ∷ []) None)) (statements (acts (at 2 62) (assign
    (parts (name 9 2 62) bare no_parts) (four (at 2 66) 1))) no_statements)) (at 2 69)) ∷ []) (at 3 1)) ∷ (unit (at 4 1) u.Program (name 15 4 9) []
    (statements (acts (at 4 19) (allocate ((parts (name 4 4 28) (within (arguments (value None (four (at 4 30) 3)) no_arguments)) no_parts) ∷ []) None))
    (statements (acts (at 4 35) (call (name 8 4 40) ((value None (designator (parts (name 4 4 42) (within (arguments (value None (four (at 4 44) 1))
    no_arguments)) no_parts))) ∷ []))) (statements (acts (at 4 49) (print ((designator (parts (name 4 4 58) (within (arguments (value None (four (at 4 60)
    1)) no_arguments)) no_parts)) ∷ []))) no_statements))) [] (at 4 64)) ∷ []))

abbrev pub lent_look : ℕ → ℕ → Lookup
lent_look =
    (looks (((4, One 0) ∷ (5, One 1) ∷ (8, One 2) ∷ []) ∷ ((4, One 0) ∷ (5, One 1) ∷ (8, One 2) ∷ (9, One 3) ∷ []) ∷ ((4, One 0) ∷ (5, One 1) ∷ (8, One 2)
    ∷ []) ∷ []))

abbrev pub lent_order : List ℕ
lent_order = 0 ∷ 1 ∷ []

abbrev pub lent_lawful : Global → Type 0
lent_lawful h = Lawful h lent_tree lent_look lent_order

abbrev pub lent_shows : Global → Type 0
lent_shows h = Shows h lent_tree lent_look lent_order [] (Failed 9 2 47)

--     program p; integer, allocatable :: x, y(:); integer :: s
--     x = 5; call move_alloc(x, x); print *, allocated(x)
--     allocate(y(2)); allocate(x, y(4), stat=s); print *, s; deallocate(y)
--     end
abbrev pub moved_tree : Tree
moved_tree =
    (program (codes "program" ∷ codes "p" ∷ codes "integer" ∷ codes "allocatable" ∷ codes "x" ∷ codes "y" ∷ codes "s" ∷ codes "call" ∷ codes "move_alloc" ∷
    codes "print" ∷ codes "allocated" ∷ codes "allocate" ∷ codes "stat" ∷ codes "deallocate" ∷ codes "end" ∷ []) [] ((unit (at 1 1) u.Program (name 1 1 9)
    ((declares (declaration (Integer Four) (allocatable ∷ []) ((entity (name 4 1 36) None None) ∷ (entity (name 5 1 39) (Some (deferred (None ∷ []))) None)
    ∷ []))) ∷ (declares (declaration (Integer Four) [] ((entity (name 6 1 56) None None) ∷ []))) ∷ []) (statements (acts (at 2 1) (assign (parts (name 4 2
    1) bare no_parts) (four (at 2 5) 5))) (statements (acts (at 2 8) (call (name 8 2 13) ((value None (designator (parts (name 4 2 24) bare no_parts))) ∷
    (value None (designator (parts (name 4 2 27) bare no_parts))) ∷ []))) (statements (acts (at 2 31) (print ((designator (parts (name 10 2 40) (within
    (arguments (value None (designator (parts (name 4 2 50) bare no_parts))) no_arguments)) no_parts)) ∷ []))) (statements (acts (at 3 1) (allocate ((parts
    (name 5 3 10) (within (arguments (value None (four (at 3 12) 2)) no_arguments)) no_parts) ∷ []) None)) (statements (acts (at 3 17) (allocate ((parts
    (name 4 3 26) bare no_parts) ∷ (parts (name 5 3 29) (within (arguments (value None (four (at 3 31) 4)) no_arguments)) no_parts) ∷ []) (Some (parts
    (name 6 3 40) bare no_parts)))) (statements (acts (at 3 44) (print ((designator (parts (name 6 3 53) bare no_parts)) ∷ []))) (statements (acts (at 3
    56) (deallocate ((parts (name 5 3 67) bare no_parts) ∷ []) None)) no_statements))))))) [] (at 4 1)) ∷ []))

abbrev pub moved_look : ℕ → ℕ → Lookup
moved_look =
    (looks (((4, One 0) ∷ (5, One 1) ∷ (6, One 2) ∷ []) ∷ []))

abbrev pub moved_order : List ℕ
moved_order = 0 ∷ []

abbrev pub moved_lawful : Global → Type 0
moved_lawful h = Lawful h moved_tree moved_look moved_order

abbrev pub moved_shows : Global → Type 0
moved_shows h = Shows h moved_tree moved_look moved_order (codes " F" ∷ codes " 5" ∷ []) Finished

--     module m
--     integer, parameter :: n = 2
--     contains
--     integer function f(k) result(r); integer, intent(in) :: k
--     if (k > 1) then; r = k * f(k - 1); else; r = 1; end if
--     end
--     subroutine tally(); integer :: calls = 10
--     calls = calls + 1; print *, calls, f(4)
--     end
--     end
--     program p; use m, only: f, tally, two => n; integer :: i, a(two) = [4, 5]
--     do i = 1, two; call tally(); end do
--     print *, a, f(3), two ** 3
--     end
abbrev pub saved_tree : Tree
saved_tree =
    (program (codes "module" ∷ codes "m" ∷ codes "integer" ∷ codes "parameter" ∷ codes "n" ∷ codes "contains" ∷ codes "function" ∷ codes "f" ∷ codes "k" ∷
    codes "result" ∷ codes "r" ∷ codes "intent" ∷ codes "in" ∷ codes "if" ∷ codes "then" ∷ codes "else" ∷ codes "end" ∷ codes "subroutine" ∷ codes "tally"
    ∷ codes "calls" ∷ codes "print" ∷ codes "program" ∷ codes "p" ∷ codes "use" ∷ codes "only" ∷ codes "two" ∷ codes "i" ∷ codes "a" ∷ codes "do" ∷
    codes "call" ∷ []) [] ((unit (at 1 1) u.Module (name 1 1 8) ((declares (declaration (Integer Four) (parameter ∷ []) ((entity (name 4 2 23) None (Some
    (four (at 2 27) 2))) ∷ []))) ∷ []) no_statements ((procedure false (Function (Some (Integer Four)) (Some (name 10 4 30))) (name 7 4 18) ((name 8 4 20)
    ∷ []) ((declares (declaration (Integer Four) ((intent In) ∷ []) ((entity (name 8 4 57) None None) ∷ []))) ∷ []) (statements (branches (branch (at 5 1)
    (comparison (designator (parts (name 8 5 5) bare no_parts)) r.Greater (four (at 5 9) 1)) (statements (acts (at 5 18) (assign (parts (name 10 5 18) bare
    no_parts) (chain (designator (parts (name 8 5 22) bare no_parts)) (more o.Multiply (designator (parts (name 7 5 26) (within (arguments (value None
    (chain (designator (parts (name 8 5 28) bare no_parts)) (more o.Subtract (four (at 5 32) 1) no_more))) no_arguments)) no_parts)) no_more))))
    no_statements) no_branches) (alternative (statements (acts (at 5 42) (assign (parts (name 10 5 42) bare no_parts) (four (at 5 46) 1))) no_statements)))
    no_statements) (at 6 1)) ∷ (procedure false Subroutine (name 18 7 12) [] ((declares (declaration (Integer Four) [] ((entity (name 19 7 32) None (Some
    (four (at 7 40) 10))) ∷ []))) ∷ []) (statements (acts (at 8 1) (assign (parts (name 19 8 1) bare no_parts) (chain (designator (parts (name 19 8 9) bare
    no_parts)) (more o.Add (four (at 8 17) 1) no_more)))) (statements (acts (at 8 20) (print ((designator (parts (name 19 8 29) bare no_parts)) ∷
    (designator (parts (name 7 8 36) (within (arguments (value None (four (at 8 38) 4)) no_arguments)) no_parts)) ∷ []))) no_statements)) (at 9 1)) ∷ [])
    (at 10 1)) ∷ (unit (at 11 1) u.Program (name 22 11 9) ((declares (declaration (Integer Four) [] ((entity (name 26 11 56) None None) ∷ (entity (name 27
    11 59) (Some (explicit ((bounds None (designator (parts (name 25 11 61) bare no_parts))) ∷ []))) (Some (array (at 11 68) (trees (four (at 11 69) 4)
    (trees (four (at 11 72) 5) no_trees))))) ∷ []))) ∷ []) (statements (repeats (at 12 1) (counted (name 26 12 4) (four (at 12 8) 1) (designator (parts
    (name 25 12 11) bare no_parts)) None) (statements (acts (at 12 16) (call (name 18 12 21) [])) no_statements)) (statements (acts (at 13 1) (print
    ((designator (parts (name 27 13 10) bare no_parts)) ∷ (designator (parts (name 7 13 13) (within (arguments (value None (four (at 13 15) 3))
    no_arguments)) no_parts)) ∷ (chain (designator (parts (name 25 13 19) bare no_parts)) (more o.Power (four (at 13 26) 3) no_more)) ∷ [])))
    no_statements)) [] (at 14 1)) ∷ []))

abbrev pub saved_look : ℕ → ℕ → Lookup
saved_look =
    (looks (((4, One 0) ∷ (7, One 1) ∷ (18, One 2) ∷ []) ∷ ((4, One 0) ∷ (7, One 1) ∷ (8, One 4) ∷ (10, One 3) ∷ (18, One 2) ∷ []) ∷ ((4, One 0) ∷ (
      7,
      One
          1,
    ) ∷ (18, One 2) ∷ (19, One 5) ∷ []) ∷ ((7, One 1) ∷ (18, One 2) ∷ (25, One 0) ∷ (26, One 6) ∷ (27, One 7) ∷ []) ∷ []))

abbrev pub saved_order : List ℕ
saved_order = 0 ∷ 1 ∷ []

abbrev pub saved_shows : Global → Type 0
saved_shows h = Shows h saved_tree saved_look saved_order (codes " 11 24" ∷ codes " 12 24" ∷ codes " 4 5 6 8" ∷ []) Finished

--     program p; integer :: i; logical :: b; integer(8) :: w
--     i = 0; b = .false.
--     do while (i < 3); i = i + 1
--     if (i == 2) cycle
--     select case (i); case (:0); print *, 'low'; case (1, 5:7); print *, 'one'; case default; print *, 'other'; end select
--     end do
--     associate (x => i, y => i + 1); x = x * y; print *, x, y, i; end associate
--     w = 3000000000_8; print *, w, .not. b .and. i == 12, -7 / 2, mod(-7, 2), 2 ** (-1), max(1, i, 3)
--     stop 7
--     end
abbrev pub controls_tree : Tree
controls_tree =
    (program (codes "program" ∷ codes "p" ∷ codes "integer" ∷ codes "i" ∷ codes "logical" ∷ codes "b" ∷ codes "w" ∷ codes "do" ∷ codes "while" ∷ codes "if"
    ∷ codes "cycle" ∷ codes "select" ∷ codes "case" ∷ codes "print" ∷ codes "default" ∷ codes "end" ∷ codes "associate" ∷ codes "x" ∷ codes "y" ∷
    codes "mod" ∷ codes "max" ∷ codes "stop" ∷ []) ((108 ∷ 111 ∷ 119 ∷ []) ∷ (111 ∷ 110 ∷ 101 ∷ []) ∷ (111 ∷ 116 ∷ 104 ∷ 101 ∷ 114 ∷ []) ∷ []) ((unit (at 1
    1) u.Program (name 1 1 9) ((declares (declaration (Integer Four) [] ((entity (name 3 1 23) None None) ∷ []))) ∷ (declares (declaration Logical []
    ((entity (name 5 1 37) None None) ∷ []))) ∷ (declares (declaration (Integer Eight) [] ((entity (name 6 1 54) None None) ∷ []))) ∷ []) (statements (acts
    (at 2 1) (assign (parts (name 3 2 1) bare no_parts) (four (at 2 5) 0))) (statements (acts (at 2 8) (assign (parts (name 5 2 8) bare no_parts) (truth
    (at 2 12) false))) (statements (repeats (at 3 1) (while (comparison (designator (parts (name 3 3 11) bare no_parts)) r.Less (four (at 3 15) 3)))
    (statements (acts (at 3 19) (assign (parts (name 3 3 19) bare no_parts) (chain (designator (parts (name 3 3 23) bare no_parts)) (more o.Add (four (at 3
    27) 1) no_more)))) (statements (acts_if (at 4 1) (comparison (designator (parts (name 3 4 5) bare no_parts)) r.Equal (four (at 4 10) 2)) (at 4 13)
    cycle) (statements (selects (at 5 1) (designator (parts (name 3 5 14) bare no_parts)) (case_block (at 5 18) (values ((up_to (at 5 24) (four (at 5 25)
    0)) ∷ [])) (statements (acts (at 5 29) (print ((text (at 5 38) 0) ∷ []))) no_statements) (case_block (at 5 45) (values ((one (four (at 5 51) 1)) ∷
    (range (four (at 5 54) 5) (four (at 5 56) 7)) ∷ [])) (statements (acts (at 5 60) (print ((text (at 5 69) 1) ∷ []))) no_statements) (case_block (at 5
    76) default (statements (acts (at 5 90) (print ((text (at 5 99) 2) ∷ []))) no_statements) no_cases)))) no_statements)))) (statements (associates (at 7
    1) ((association (name 17 7 12) (designator (parts (name 3 7 17) bare no_parts))) ∷ (association (name 18 7 20) (chain (designator (parts (name 3 7 25)
    bare no_parts)) (more o.Add (four (at 7 29) 1) no_more))) ∷ []) (statements (acts (at 7 33) (assign (parts (name 17 7 33) bare no_parts) (chain
    (designator (parts (name 17 7 37) bare no_parts)) (more o.Multiply (designator (parts (name 18 7 41) bare no_parts)) no_more)))) (statements (acts (at
    7 44) (print ((designator (parts (name 17 7 53) bare no_parts)) ∷ (designator (parts (name 18 7 56) bare no_parts)) ∷ (designator (parts (name 3 7 59)
    bare no_parts)) ∷ []))) no_statements))) (statements (acts (at 8 1) (assign (parts (name 6 8 1) bare no_parts) (eight (at 8 5) 3000000000)))
    (statements (acts (at 8 19) (print ((designator (parts (name 6 8 28) bare no_parts)) ∷ (chain (negation (at 8 31) (designator (parts (name 5 8 37) bare
    no_parts))) (more o.And (comparison (designator (parts (name 3 8 45) bare no_parts)) r.Equal (four (at 8 50) 12)) no_more)) ∷ (signed (at 8 54) Minus
    (chain (four (at 8 55) 7) (more o.Divide (four (at 8 59) 2) no_more))) ∷ (designator (parts (name 19 8 62) (within (arguments (value None (signed (at 8
    66) Minus (four (at 8 67) 7))) (arguments (value None (four (at 8 70) 2)) no_arguments))) no_parts)) ∷ (chain (four (at 8 74) 2) (more o.Power (group
    (at 8 79) (signed (at 8 80) Minus (four (at 8 81) 1))) no_more)) ∷ (designator (parts (name 20 8 85) (within (arguments (value None (four (at 8 89) 1))
    (arguments (value None (designator (parts (name 3 8 92) bare no_parts))) (arguments (value None (four (at 8 95) 3)) no_arguments)))) no_parts)) ∷ [])))
    (statements (acts (at 9 1) (stop (Some (pos 7)))) no_statements))))))) [] (at 10 1)) ∷ []))

abbrev pub controls_look : ℕ → ℕ → Lookup
controls_look =
    (looks (((3, One 0) ∷ (5, One 1) ∷ (6, One 2) ∷ []) ∷ ((3, One 0) ∷ (5, One 1) ∷ (6, One 2) ∷ (17, One 3) ∷ (18, One 4) ∷ []) ∷ []))

abbrev pub controls_order : List ℕ
controls_order = 0 ∷ []

abbrev pub controls_shows : Global → Type 0
controls_shows h =
    Shows h controls_tree controls_look controls_order
    (codes " one" ∷ codes " other" ∷ codes " 12 4 12" ∷ codes " 3000000000 T -3 -1 0 12" ∷ []) (Stopped (Some 7))

--     module b; use a; type outer; type(inner) :: x(0:1); integer, allocatable :: v(:); integer :: k = 5; end type
--     contains
--     subroutine fill(o, v); type(outer), intent(out) :: o; integer, intent(in) :: v(2:)
--     o%v = v; o%x(1)%c = lbound(v, 1); o%x%d = .true.
--     end
--     function two(k) result(r); integer, intent(in) :: k; integer :: r(2)
--     r = [k, k + 1]
--     end
--     end
--     program p; use b; use a, only: inner; type(outer) :: z; type(inner) :: i
--     z%k = 1; call fill(z, two(7)); print *, z%v, z%x%c, z%k, z%x(0)%d, size(z%v), ubound(z%x, 1)
--     i = inner(d = .false., c = 3); print *, i%c, i%d
--     end
--     module a; type inner; integer(8) :: c = 9; logical :: d; end type; end
abbrev pub types_tree : Tree
types_tree =
    (program (codes "module" ∷ codes "b" ∷ codes "use" ∷ codes "a" ∷ codes "type" ∷ codes "outer" ∷ codes "inner" ∷ codes "x" ∷ codes "integer" ∷
    codes "allocatable" ∷ codes "v" ∷ codes "k" ∷ codes "end" ∷ codes "contains" ∷ codes "subroutine" ∷ codes "fill" ∷ codes "o" ∷ codes "intent" ∷
    codes "out" ∷ codes "in" ∷ codes "c" ∷ codes "lbound" ∷ codes "d" ∷ codes "function" ∷ codes "two" ∷ codes "result" ∷ codes "r" ∷ codes "program" ∷
    codes "p" ∷ codes "only" ∷ codes "z" ∷ codes "i" ∷ codes "call" ∷ codes "print" ∷ codes "size" ∷ codes "ubound" ∷ codes "logical" ∷ []) [] ((unit (at 1
    1) u.Module (name 1 1 8) ((type_definition (name 5 1 23) None ((declaration (Derived (name 6 1 35)) [] ((entity (name 7 1 45) (Some (explicit ((bounds
    (Some (four (at 1 47) 0)) (four (at 1 49) 1)) ∷ []))) None) ∷ [])) ∷ (declaration (Integer Four) (allocatable ∷ []) ((entity (name 10 1 77) (Some
    (deferred (None ∷ []))) None) ∷ [])) ∷ (declaration (Integer Four) [] ((entity (name 11 1 94) None (Some (four (at 1 98) 5))) ∷ [])) ∷ []) []) ∷ [])
    no_statements ((procedure false Subroutine (name 15 3 12) ((name 16 3 17) ∷ (name 10 3 20) ∷ []) ((declares (declaration (Derived (name 5 3 29))
    ((intent Out) ∷ []) ((entity (name 16 3 52) None None) ∷ []))) ∷ (declares (declaration (Integer Four) ((intent In) ∷ []) ((entity (name 10 3 78) (Some
    (deferred ((Some (four (at 3 80) 2)) ∷ []))) None) ∷ []))) ∷ []) (statements (acts (at 4 1) (assign (parts (name 16 4 1) bare (parts (name 10 4 3) bare
    no_parts)) (designator (parts (name 10 4 7) bare no_parts)))) (statements (acts (at 4 10) (assign (parts (name 16 4 10) bare (parts (name 7 4 12)
    (within (arguments (value None (four (at 4 14) 1)) no_arguments)) (parts (name 20 4 17) bare no_parts))) (designator (parts (name 21 4 21) (within
    (arguments (value None (designator (parts (name 10 4 28) bare no_parts))) (arguments (value None (four (at 4 31) 1)) no_arguments))) no_parts))))
    (statements (acts (at 4 35) (assign (parts (name 16 4 35) bare (parts (name 7 4 37) bare (parts (name 22 4 39) bare no_parts))) (truth (at 4 43)
    true))) no_statements))) (at 5 1)) ∷ (procedure false (Function None (Some (name 26 6 24))) (name 24 6 10) ((name 11 6 14) ∷ []) ((declares
    (declaration (Integer Four) ((intent In) ∷ []) ((entity (name 11 6 51) None None) ∷ []))) ∷ (declares (declaration (Integer Four) [] ((entity (name 26
    6 65) (Some (explicit ((bounds None (four (at 6 67) 2)) ∷ []))) None) ∷ []))) ∷ []) (statements (acts (at 7 1) (assign (parts (name 26 7 1) bare
    no_parts) (array (at 7 5) (trees (designator (parts (name 11 7 6) bare no_parts)) (trees (chain (designator (parts (name 11 7 9) bare no_parts)) (more
    o.Add (four (at 7 13) 1) no_more)) no_trees))))) no_statements) (at 8 1)) ∷ []) (at 9 1)) ∷ (unit (at 10 1) u.Program (name 28 10 9) ((declares
    (declaration (Derived (name 5 10 44)) [] ((entity (name 30 10 54) None None) ∷ []))) ∷ (declares (declaration (Derived (name 6 10 62)) [] ((entity
    (name 31 10 72) None None) ∷ []))) ∷ []) (statements (acts (at 11 1) (assign (parts (name 30 11 1) bare (parts (name 11 11 3) bare no_parts)) (four (at
    11 7) 1))) (statements (acts (at 11 10) (call (name 15 11 15) ((value None (designator (parts (name 30 11 20) bare no_parts))) ∷ (value None
    (designator (parts (name 24 11 23) (within (arguments (value None (four (at 11 27) 7)) no_arguments)) no_parts))) ∷ []))) (statements (acts (at 11 32)
    (print ((designator (parts (name 30 11 41) bare (parts (name 10 11 43) bare no_parts))) ∷ (designator (parts (name 30 11 46) bare (parts (name 7 11 48)
    bare (parts (name 20 11 50) bare no_parts)))) ∷ (designator (parts (name 30 11 53) bare (parts (name 11 11 55) bare no_parts))) ∷ (designator (parts
    (name 30 11 58) bare (parts (name 7 11 60) (within (arguments (value None (four (at 11 62) 0)) no_arguments)) (parts (name 22 11 65) bare no_parts))))
    ∷ (designator (parts (name 34 11 68) (within (arguments (value None (designator (parts (name 30 11 73) bare (parts (name 10 11 75) bare no_parts))))
    no_arguments)) no_parts)) ∷ (designator (parts (name 35 11 79) (within (arguments (value None (designator (parts (name 30 11 86) bare (parts (name 7 11
    88) bare no_parts)))) (arguments (value None (four (at 11 91) 1)) no_arguments))) no_parts)) ∷ []))) (statements (acts (at 12 1) (assign (parts (name
    31 12 1) bare no_parts) (designator (parts (name 6 12 5) (within (arguments (value (Some (name 22 12 11)) (truth (at 12 15) false)) (arguments (value
    (Some (name 20 12 24)) (four (at 12 28) 3)) no_arguments))) no_parts)))) (statements (acts (at 12 32) (print ((designator (parts (name 31 12 41) bare
    (parts (name 20 12 43) bare no_parts))) ∷ (designator (parts (name 31 12 46) bare (parts (name 22 12 48) bare no_parts))) ∷ []))) no_statements))))) []
    (at 13 1)) ∷ (unit (at 14 1) u.Module (name 3 14 8) ((type_definition (name 6 14 16) None ((declaration (Integer Eight) [] ((entity (name 20 14 37)
    None (Some (four (at 14 41) 9))) ∷ [])) ∷ (declaration Logical [] ((entity (name 22 14 55) None None) ∷ [])) ∷ []) []) ∷ []) no_statements [] (at 14
    68)) ∷ []))

abbrev pub types_look : ℕ → ℕ → Lookup
types_look =
    (looks (((5, One 0) ∷ (6, One 9) ∷ (15, One 1) ∷ (24, One 2) ∷ []) ∷ ((5, One 0) ∷ (6, One 9) ∷ (10, One 4) ∷ (15, One 1) ∷ (16, One 3) ∷ (24, One 2) ∷
    []) ∷ ((5, One 0) ∷ (6, One 9) ∷ (11, One 5) ∷ (15, One 1) ∷ (24, One 2) ∷ (26, One 6) ∷ []) ∷ ((5, One 0) ∷ (6, One 9) ∷ (15, One 1) ∷ (24, One 2) ∷
    (30, One 7) ∷ (31, One 8) ∷ []) ∷ ((6, One 9) ∷ []) ∷ []))

abbrev pub types_order : List ℕ
types_order = 2 ∷ 0 ∷ 1 ∷ []

abbrev pub types_shows : Global → Type 0
types_shows h = Shows h types_tree types_look types_order (codes " 7 8 9 2 5 T 2 1" ∷ codes " 3 F" ∷ []) Finished

--     program p; integer :: i, s; s = 0
--     do i = 10, 1, -3; if (i == 4) exit; s = s + i; end do
--     do; s = s + 1; if (s > 20) exit; end do
--     print *, i, s
--     end
abbrev pub loops_tree : Tree
loops_tree =
    (program (codes "program" ∷ codes "p" ∷ codes "integer" ∷ codes "i" ∷ codes "s" ∷ codes "do" ∷ codes "if" ∷ codes "exit" ∷ codes "end" ∷ codes "print"
    ∷ []) [] ((unit (at 1 1) u.Program (name 1 1 9) ((declares (declaration (Integer Four) [] ((entity (name 3 1 23) None None) ∷ (entity (name 4 1 26)
    None None) ∷ []))) ∷ []) (statements (acts (at 1 29) (assign (parts (name 4 1 29) bare no_parts) (four (at 1 33) 0))) (statements (repeats (at 2 1)
    (counted (name 3 2 4) (four (at 2 8) 10) (four (at 2 12) 1) (Some (signed (at 2 15) Minus (four (at 2 16) 3)))) (statements (acts_if (at 2 19)
    (comparison (designator (parts (name 3 2 23) bare no_parts)) r.Equal (four (at 2 28) 4)) (at 2 31) exit) (statements (acts (at 2 37) (assign (parts
    (name 4 2 37) bare no_parts) (chain (designator (parts (name 4 2 41) bare no_parts)) (more o.Add (designator (parts (name 3 2 45) bare no_parts))
    no_more)))) no_statements))) (statements (repeats (at 3 1) forever (statements (acts (at 3 5) (assign (parts (name 4 3 5) bare no_parts) (chain
    (designator (parts (name 4 3 9) bare no_parts)) (more o.Add (four (at 3 13) 1) no_more)))) (statements (acts_if (at 3 16) (comparison (designator
    (parts (name 4 3 20) bare no_parts)) r.Greater (four (at 3 24) 20)) (at 3 28) exit) no_statements))) (statements (acts (at 4 1) (print ((designator
    (parts (name 3 4 10) bare no_parts)) ∷ (designator (parts (name 4 4 13) bare no_parts)) ∷ []))) no_statements)))) [] (at 5 1)) ∷ []))

abbrev pub loops_look : ℕ → ℕ → Lookup
loops_look =
    (looks (((3, One 0) ∷ (4, One 1) ∷ []) ∷ []))

abbrev pub loops_order : List ℕ
loops_order = 0 ∷ []

abbrev pub loops_lawful : Global → Type 0
loops_lawful h = Lawful h loops_tree loops_look loops_order

abbrev pub loops_shows : Global → Type 0
loops_shows h = Shows h loops_tree loops_look loops_order (codes " 4 21" ∷ []) Finished

-- all of them
abbrev pub ProgramsShow : Type 0
ProgramsShow = (h : Global) → bounds_shows h × finals_shows h × protected_shows h
    × private_shows h × lent_shows h × moved_shows h × saved_shows h × controls_shows h × types_shows h × loops_shows h

-- so are those that are small enough to be searched
abbrev pub ProgramsLawful : Type 0
ProgramsLawful = (h : Global) → bounds_lawful h × finals_lawful h × protected_lawful h × private_lawful h × lent_lawful h × moved_lawful h × loops_lawful h
