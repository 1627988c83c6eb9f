-- Programs, each in the text above it, elaborated, and what they print.
use Rattle.std.specs.Prelude.{◌≡◌, pos, true, false, [], ◌∷◌, None, Some, codes}
use Rattle.std.specs.declared.alloc.Global.{Global}
use Rattle.f3_lookups.specs.declared.lookup.Lookup.TheVariants.{One}
use Rattle.f3_tree.specs.declared.expression.Sign.TheVariants.{Minus}
use Rattle.f3_tree.specs.declared.expression.Relation.TheVariants as r
use Rattle.f3_tree.specs.declared.expression.Operator.TheVariants as o
use Rattle.f3_tree.specs.declared.expression.IntegerKind.TheVariants.{Four, Eight}
use Rattle.f3_tree.specs.declared.declaration.Intent.TheVariants.{In, Out, InOut}
use Rattle.f3_tree.specs.declared.declaration.TypeSpecifier.TheVariants.{Integer, Logical, Derived}
use Rattle.f3_tree.specs.declared.program.ProcedureKind.TheVariants.{Subroutine, Function}
use Rattle.f3_tree.specs.declared.program.UnitKind.TheVariants as u
use Rattle.f3_tree.specs.Expressions.{truth, text, designator, group, array, signed, negation, comparison, chain, no_more, more, no_trees, trees, no_parts}
use Rattle.f3_tree.specs.Expressions.{parts}
use Rattle.f3_tree.specs.Expressions.{bare, within, no_arguments, arguments, value, triplet, absent, present}
use Rattle.f3_tree.specs.Declarations.{explicit, deferred, save, allocatable, intent, declares}
use Rattle.f3_tree.specs.Statements.{assign, call, allocate, deallocate, print, stop, return, cycle, exit, one, up_to, range, values, default}
use Rattle.f3_tree.specs.Statements.{forever, counted, acts, acts_if, selects, repeats, associates, no_statements, statements}
use Rattle.f3_tree.specs.Statements.{no_cases, case_block}
use Rattle.f3_meaning_whole.specs.Run.{run_of}
use Rattle.f3_meaning_rows.specs.Shown.{shown, lines, granted, Finished, Failed, Stopped}
use Rattle.f3_elaboration.specs.Nodes.{ProgramNode}
use Rattle.f3_elaboration.specs.Program.{elaborated}
use Rattle.f3_elaboration_rows.specs.Trees.{at, name, four, eight, bounds, entity, declaration, type_definition, procedure, unit, association, program}
use Rattle.f3_elaboration_rows.specs.Trees.{looks}
use Rattle.f3_elaboration_rows.specs.Built.{built}
use Rattle.f3_meaning_whole.specs.Formed.{IsWellFormed}

--     module m; type t; integer :: n; integer, allocatable :: v(:); end type; contains
--     recursive function fac(n) result(r); integer, intent(in) :: n; integer :: r; r = 1; if (n > 1) r = n * fac(n - 1); end function
--     function make(n); integer, intent(in) :: n; type(t), allocatable :: make; integer :: i; if (n == 0) return; allocate(make); make%n = n; allocate(make%v(0:n)); do i = 0, n; make%v(i) = fac(i); end do; end function
--     function two(a); integer, intent(in) :: a(:); integer :: two(2); two = a(size(a):1:-1); end function
--     end
--     program p; use m; type(t), allocatable :: x; integer, allocatable :: z(:)
--     x = make(4); print *, x%n, x%v, lbound(x%v, 1); z = two([3, 4]); print *, z, two(two(z)), lbound(two(z), 1); x%v = [x%v(2), max(fac(3), 2, 9)]; print *, x%v
--     x = t(v = z, n = fac(5)); print *, x%n, x%v; x = make(0); print *, 1
--     end
abbrev pub corner_functions_program : ProgramNode
corner_functions_program = elaborated
    (program (codes "module" ∷ codes "m" ∷ codes "type" ∷ codes "t" ∷ codes "integer" ∷ codes "n" ∷ codes "allocatable" ∷ codes "v" ∷ codes "end" ∷
    codes "contains" ∷ codes "recursive" ∷ codes "function" ∷ codes "fac" ∷ codes "result" ∷ codes "r" ∷ codes "intent" ∷ codes "in" ∷ codes "if" ∷
    codes "make" ∷ codes "i" ∷ codes "return" ∷ codes "allocate" ∷ codes "do" ∷ codes "two" ∷ codes "a" ∷ codes "size" ∷ codes "program" ∷ codes "p"
    ∷ codes "use" ∷ codes "x" ∷ codes "z" ∷ codes "print" ∷ codes "lbound" ∷ codes "max" ∷ []) [] ((unit (at 1 1) u.Module (name 1 1 8)
    ((type_definition (name 3 1 16) None ((declaration (Integer Four) [] ((entity (name 5 1 30) None None) ∷ [])) ∷ (declaration (Integer Four)
    (allocatable ∷ []) ((entity (name 7 1 57) (Some (deferred (None ∷ []))) None) ∷ [])) ∷ []) []) ∷ []) no_statements ((procedure false (Function
    None (Some (name 14 2 34))) (name 12 2 20) ((name 5 2 24) ∷ []) ((declares (declaration (Integer Four) ((intent In) ∷ []) ((entity (name 5 2 61)
    None None) ∷ []))) ∷ (declares (declaration (Integer Four) [] ((entity (name 14 2 75) None None) ∷ []))) ∷ []) (statements (acts (at 2 78)
    (assign (parts (name 14 2 78) bare no_parts) (four (at 2 82) 1))) (statements (acts_if (at 2 85) (comparison (designator (parts (name 5 2 89)
    bare no_parts)) r.Greater (four (at 2 93) 1)) (at 2 96) (assign (parts (name 14 2 96) bare no_parts) (chain (designator (parts (name 5 2 100)
    bare no_parts)) (more o.Multiply (designator (parts (name 12 2 104) (within (arguments (value None (chain (designator (parts (name 5 2 108) bare
    no_parts)) (more o.Subtract (four (at 2 112) 1) no_more))) no_arguments)) no_parts)) no_more)))) no_statements)) (at 2 116)) ∷ (procedure false
    (Function None None) (name 18 3 10) ((name 5 3 15) ∷ []) ((declares (declaration (Integer Four) ((intent In) ∷ []) ((entity (name 5 3 42) None
    None) ∷ []))) ∷ (declares (declaration (Derived (name 3 3 50)) (allocatable ∷ []) ((entity (name 18 3 69) None None) ∷ []))) ∷ (declares
    (declaration (Integer Four) [] ((entity (name 19 3 86) None None) ∷ []))) ∷ []) (statements (acts_if (at 3 89) (comparison (designator (parts
    (name 5 3 93) bare no_parts)) r.Equal (four (at 3 98) 0)) (at 3 101) return) (statements (acts (at 3 109) (allocate ((parts (name 18 3 118) bare
    no_parts) ∷ []) None)) (statements (acts (at 3 125) (assign (parts (name 18 3 125) bare (parts (name 5 3 130) bare no_parts)) (designator (parts
    (name 5 3 134) bare no_parts)))) (statements (acts (at 3 137) (allocate ((parts (name 18 3 146) bare (parts (name 7 3 151) (within (arguments
    (triplet (at 3 153) (present (four (at 3 153) 0)) (present (designator (parts (name 5 3 155) bare no_parts))) absent) no_arguments)) no_parts)) ∷
    []) None)) (statements (repeats (at 3 160) (counted (name 19 3 163) (four (at 3 167) 0) (designator (parts (name 5 3 170) bare no_parts)) None)
    (statements (acts (at 3 173) (assign (parts (name 18 3 173) bare (parts (name 7 3 178) (within (arguments (value None (designator (parts (name 19
    3 180) bare no_parts))) no_arguments)) no_parts)) (designator (parts (name 12 3 185) (within (arguments (value None (designator (parts (name 19 3
    189) bare no_parts))) no_arguments)) no_parts)))) no_statements)) no_statements))))) (at 3 201)) ∷ (procedure false (Function None None) (name 23
    4 10) ((name 24 4 14) ∷ []) ((declares (declaration (Integer Four) ((intent In) ∷ []) ((entity (name 24 4 41) (Some (deferred (None ∷ []))) None)
    ∷ []))) ∷ (declares (declaration (Integer Four) [] ((entity (name 23 4 58) (Some (explicit ((bounds None (four (at 4 62) 2)) ∷ []))) None) ∷
    []))) ∷ []) (statements (acts (at 4 66) (assign (parts (name 23 4 66) bare no_parts) (designator (parts (name 24 4 72) (within (arguments
    (triplet (at 4 74) (present (designator (parts (name 25 4 74) (within (arguments (value None (designator (parts (name 24 4 79) bare no_parts)))
    no_arguments)) no_parts))) (present (four (at 4 82) 1)) (present (signed (at 4 84) Minus (four (at 4 85) 1)))) no_arguments)) no_parts))))
    no_statements) (at 4 89)) ∷ []) (at 5 1)) ∷ (unit (at 6 1) u.Program (name 27 6 9) ((declares (declaration (Derived (name 3 6 24)) (allocatable ∷
    []) ((entity (name 29 6 43) None None) ∷ []))) ∷ (declares (declaration (Integer Four) (allocatable ∷ []) ((entity (name 30 6 70) (Some (deferred
    (None ∷ []))) None) ∷ []))) ∷ []) (statements (acts (at 7 1) (assign (parts (name 29 7 1) bare no_parts) (designator (parts (name 18 7 5) (within
    (arguments (value None (four (at 7 10) 4)) no_arguments)) no_parts)))) (statements (acts (at 7 14) (print ((designator (parts (name 29 7 23) bare
    (parts (name 5 7 25) bare no_parts))) ∷ (designator (parts (name 29 7 28) bare (parts (name 7 7 30) bare no_parts))) ∷ (designator (parts (name
    32 7 33) (within (arguments (value None (designator (parts (name 29 7 40) bare (parts (name 7 7 42) bare no_parts)))) (arguments (value None
    (four (at 7 45) 1)) no_arguments))) no_parts)) ∷ []))) (statements (acts (at 7 49) (assign (parts (name 30 7 49) bare no_parts) (designator
    (parts (name 23 7 53) (within (arguments (value None (array (at 7 57) (trees (four (at 7 58) 3) (trees (four (at 7 61) 4) no_trees))))
    no_arguments)) no_parts)))) (statements (acts (at 7 66) (print ((designator (parts (name 30 7 75) bare no_parts)) ∷ (designator (parts (name 23 7
    78) (within (arguments (value None (designator (parts (name 23 7 82) (within (arguments (value None (designator (parts (name 30 7 86) bare
    no_parts))) no_arguments)) no_parts))) no_arguments)) no_parts)) ∷ (designator (parts (name 32 7 91) (within (arguments (value None (designator
    (parts (name 23 7 98) (within (arguments (value None (designator (parts (name 30 7 102) bare no_parts))) no_arguments)) no_parts))) (arguments
    (value None (four (at 7 106) 1)) no_arguments))) no_parts)) ∷ []))) (statements (acts (at 7 110) (assign (parts (name 29 7 110) bare (parts (name
    7 7 112) bare no_parts)) (array (at 7 116) (trees (designator (parts (name 29 7 117) bare (parts (name 7 7 119) (within (arguments (value None
    (four (at 7 121) 2)) no_arguments)) no_parts))) (trees (designator (parts (name 33 7 125) (within (arguments (value None (designator (parts (name
    12 7 129) (within (arguments (value None (four (at 7 133) 3)) no_arguments)) no_parts))) (arguments (value None (four (at 7 137) 2)) (arguments
    (value None (four (at 7 140) 9)) no_arguments)))) no_parts)) no_trees))))) (statements (acts (at 7 145) (print ((designator (parts (name 29 7
    154) bare (parts (name 7 7 156) bare no_parts))) ∷ []))) (statements (acts (at 8 1) (assign (parts (name 29 8 1) bare no_parts) (designator
    (parts (name 3 8 5) (within (arguments (value (Some (name 7 8 7)) (designator (parts (name 30 8 11) bare no_parts))) (arguments (value (Some
    (name 5 8 14)) (designator (parts (name 12 8 18) (within (arguments (value None (four (at 8 22) 5)) no_arguments)) no_parts))) no_arguments)))
    no_parts)))) (statements (acts (at 8 27) (print ((designator (parts (name 29 8 36) bare (parts (name 5 8 38) bare no_parts))) ∷ (designator
    (parts (name 29 8 41) bare (parts (name 7 8 43) bare no_parts))) ∷ []))) (statements (acts (at 8 46) (assign (parts (name 29 8 46) bare no_parts)
    (designator (parts (name 18 8 50) (within (arguments (value None (four (at 8 55) 0)) no_arguments)) no_parts)))) (statements (acts (at 8 59)
    (print ((four (at 8 68) 1) ∷ []))) no_statements)))))))))) [] (at 9 1)) ∷ [])) (looks (((3, One 0) ∷ (12, One 1) ∷ (18, One 2) ∷ (23, One 3) ∷
    []) ∷ ((3, One 0) ∷ (5, One 4) ∷ (12, One 1) ∷ (14, One 5) ∷ (18, One 2) ∷ (23, One 3) ∷ []) ∷ ((3, One 0) ∷ (5, One 6) ∷ (12, One 1) ∷ (
      18,
      One
          7,
    ) ∷ (19, One 8) ∷ (23, One 3) ∷ []) ∷ ((3, One 0) ∷ (12, One 1) ∷ (18, One 2) ∷ (23, One 10) ∷ (24, One 9) ∷ []) ∷ ((3, One 0) ∷ (12, One 1) ∷
    (18, One 2) ∷ (23, One 3) ∷ (29, One 11) ∷ (30, One 12) ∷ []) ∷ [])) (0 ∷ 1 ∷ [])

abbrev pub corner_functions_formed : Global → Type 0
corner_functions_formed h = IsWellFormed (built h corner_functions_program)

abbrev pub corner_functions_shows : Global → Type 0
corner_functions_shows h =
    shown (run_of (built h corner_functions_program) 2000 granted) ≡ record {
      bytes = lines (codes " 4 1 1 2 6 24 0" ∷ codes " 4 3 4 3 1" ∷
          codes " 2 9" ∷ codes " 120 4 3" ∷ []);
      verdict = Failed 4 8 46;
    }

--     module m; integer, allocatable :: g(:); contains
--     subroutine s(k); integer, intent(in) :: k; integer :: i
--     do i = 1, 3; associate (a => g(i:), b => i * 10); if (i == 1) cycle; associate (c => a(1)); c = b; if (i == k) return; end associate; end associate; end do; print *, 'end'; end
--     end
--     program p; use m; g = [1, 2, 3]; call s(2); print *, g; call s(5); print *, g; associate (q => g, r => (g)); deallocate(g); end associate; end
abbrev pub corner_associates_program : ProgramNode
corner_associates_program = elaborated
    (program (codes "module" ∷ codes "m" ∷ codes "integer" ∷ codes "allocatable" ∷ codes "g" ∷ codes "contains" ∷ codes "subroutine" ∷ codes "s" ∷
    codes "k" ∷ codes "intent" ∷ codes "in" ∷ codes "i" ∷ codes "do" ∷ codes "associate" ∷ codes "a" ∷ codes "b" ∷ codes "if" ∷ codes "cycle" ∷
    codes "c" ∷ codes "return" ∷ codes "end" ∷ codes "print" ∷ codes "program" ∷ codes "p" ∷ codes "use" ∷ codes "call" ∷ codes "q" ∷ codes "r" ∷
    codes "deallocate" ∷ []) ((101 ∷ 110 ∷ 100 ∷ []) ∷ []) ((unit (at 1 1) u.Module (name 1 1 8) ((declares (declaration (Integer Four) (allocatable
    ∷ []) ((entity (name 4 1 35) (Some (deferred (None ∷ []))) None) ∷ []))) ∷ []) no_statements ((procedure false Subroutine (name 7 2 12) ((name 8
    2 14) ∷ []) ((declares (declaration (Integer Four) ((intent In) ∷ []) ((entity (name 8 2 41) None None) ∷ []))) ∷ (declares (declaration (Integer
    Four) [] ((entity (name 11 2 55) None None) ∷ []))) ∷ []) (statements (repeats (at 3 1) (counted (name 11 3 4) (four (at 3 8) 1) (four (at 3 11)
    3) None) (statements (associates (at 3 14) ((association (name 14 3 25) (designator (parts (name 4 3 30) (within (arguments (triplet (at 3 32)
    (present (designator (parts (name 11 3 32) bare no_parts))) absent absent) no_arguments)) no_parts))) ∷ (association (name 15 3 37) (chain
    (designator (parts (name 11 3 42) bare no_parts)) (more o.Multiply (four (at 3 46) 10) no_more))) ∷ []) (statements (acts_if (at 3 51)
    (comparison (designator (parts (name 11 3 55) bare no_parts)) r.Equal (four (at 3 60) 1)) (at 3 63) cycle) (statements (associates (at 3 70)
    ((association (name 18 3 81) (designator (parts (name 14 3 86) (within (arguments (value None (four (at 3 88) 1)) no_arguments)) no_parts))) ∷
    []) (statements (acts (at 3 93) (assign (parts (name 18 3 93) bare no_parts) (designator (parts (name 15 3 97) bare no_parts)))) (statements
    (acts_if (at 3 100) (comparison (designator (parts (name 11 3 104) bare no_parts)) r.Equal (designator (parts (name 8 3 109) bare no_parts))) (at
    3 112) return) no_statements))) no_statements))) no_statements)) (statements (acts (at 3 158) (print ((text (at 3 167) 0) ∷ []))) no_statements))
    (at 3 174)) ∷ []) (at 4 1)) ∷ (unit (at 5 1) u.Program (name 23 5 9) [] (statements (acts (at 5 19) (assign (parts (name 4 5 19) bare no_parts)
    (array (at 5 23) (trees (four (at 5 24) 1) (trees (four (at 5 27) 2) (trees (four (at 5 30) 3) no_trees)))))) (statements (acts (at 5 34) (call
    (name 7 5 39) ((value None (four (at 5 41) 2)) ∷ []))) (statements (acts (at 5 45) (print ((designator (parts (name 4 5 54) bare no_parts)) ∷
    []))) (statements (acts (at 5 57) (call (name 7 5 62) ((value None (four (at 5 64) 5)) ∷ []))) (statements (acts (at 5 68) (print ((designator
    (parts (name 4 5 77) bare no_parts)) ∷ []))) (statements (associates (at 5 80) ((association (name 26 5 91) (designator (parts (name 4 5 96) bare
    no_parts))) ∷ (association (name 27 5 99) (group (at 5 104) (designator (parts (name 4 5 105) bare no_parts)))) ∷ []) (statements (acts (at 5
    110) (deallocate ((parts (name 4 5 121) bare no_parts) ∷ []) None)) no_statements)) no_statements)))))) [] (at 5 140)) ∷ [])) (looks (((4, One 0)
    ∷ (7, One 1) ∷ []) ∷ ((4, One 0) ∷ (7, One 1) ∷ (8, One 2) ∷ (11, One 3) ∷ []) ∷ ((4, One 0) ∷ (7, One 1) ∷ (8, One 2) ∷ (11, One 3) ∷ (
      14,
      One
          4,
    ) ∷ (15, One 5) ∷ []) ∷ ((4, One 0) ∷ (7, One 1) ∷ (8, One 2) ∷ (11, One 3) ∷ (14, One 4) ∷ (15, One 5) ∷ (18, One 6) ∷ []) ∷ ((4, One 0) ∷ (
      7,
      One 1,
    ) ∷ []) ∷ ((4, One 0) ∷ (7, One 1) ∷ (26, One 7) ∷ (27, One 8) ∷ []) ∷ [])) (0 ∷ 1 ∷ [])

abbrev pub corner_associates_formed : Global → Type 0
corner_associates_formed h = IsWellFormed (built h corner_associates_program)

abbrev pub corner_associates_shows : Global → Type 0
corner_associates_shows h =
    shown (run_of (built h corner_associates_program) 2000 granted) ≡ record {
      bytes = lines (codes " 1 20 3" ∷ codes " end" ∷ codes " 1 20 30" ∷
          []);
      verdict = Failed 9 5 110;
    }

--     module m; type t; integer :: n = 3; integer, allocatable :: v(:); contains; final :: f; end type; contains
--     subroutine f(x); type(t), intent(inout) :: x; print *, 'f', x%n, allocated(x%v); x%n = 8; end
--     subroutine a(x, y, z); type(t), intent(out) :: x; integer, allocatable, intent(out) :: y(:); integer, intent(out) :: z(2:); print *, x%n, allocated(x%v), allocated(y), z, lbound(z, 1); x%n = 5; allocate(y(7:8)); y = 1; z(3) = 4; end
--     subroutine b(x); type(t), allocatable, intent(out) :: x(:); print *, allocated(x); allocate(x(2)); x%n = [1, 2]; end
--     end
--     program p; use m; type(t), save :: x; type(t), allocatable :: w(:); integer, allocatable :: y(:); integer :: z(3); z = 6; allocate(x%v(2), y(1), w(1))
--     call a(x, y, z(1:3:2)); print *, x%n, lbound(y, 1), z; call b(w); print *, w%n; call a(x, y, z(:1)); end
abbrev pub corner_intent_out_program : ProgramNode
corner_intent_out_program = elaborated
    (program (codes "module" ∷ codes "m" ∷ codes "type" ∷ codes "t" ∷ codes "integer" ∷ codes "n" ∷ codes "allocatable" ∷ codes "v" ∷
    codes "contains" ∷ codes "final" ∷ codes "f" ∷ codes "end" ∷ codes "subroutine" ∷ codes "x" ∷ codes "intent" ∷ codes "inout" ∷ codes "print" ∷
    codes "allocated" ∷ codes "a" ∷ codes "y" ∷ codes "z" ∷ codes "out" ∷ codes "lbound" ∷ codes "allocate" ∷ codes "b" ∷ codes "program" ∷ codes "p"
    ∷ codes "use" ∷ codes "save" ∷ codes "w" ∷ codes "call" ∷ []) ((102 ∷ []) ∷ []) ((unit (at 1 1) u.Module (name 1 1 8) ((type_definition (name 3 1
    16) None ((declaration (Integer Four) [] ((entity (name 5 1 30) None (Some (four (at 1 34) 3))) ∷ [])) ∷ (declaration (Integer Four) (allocatable
    ∷ []) ((entity (name 7 1 61) (Some (deferred (None ∷ []))) None) ∷ [])) ∷ []) ((name 10 1 86) ∷ [])) ∷ []) no_statements ((procedure false
    Subroutine (name 10 2 12) ((name 13 2 14) ∷ []) ((declares (declaration (Derived (name 3 2 23)) ((intent InOut) ∷ []) ((entity (name 13 2 44)
    None None) ∷ []))) ∷ []) (statements (acts (at 2 47) (print ((text (at 2 56) 0) ∷ (designator (parts (name 13 2 61) bare (parts (name 5 2 63)
    bare no_parts))) ∷ (designator (parts (name 17 2 66) (within (arguments (value None (designator (parts (name 13 2 76) bare (parts (name 7 2 78)
    bare no_parts)))) no_arguments)) no_parts)) ∷ []))) (statements (acts (at 2 82) (assign (parts (name 13 2 82) bare (parts (name 5 2 84) bare
    no_parts)) (four (at 2 88) 8))) no_statements)) (at 2 91)) ∷ (procedure false Subroutine (name 18 3 12) ((name 13 3 14) ∷ (name 19 3 17) ∷ (name
    20 3 20) ∷ []) ((declares (declaration (Derived (name 3 3 29)) ((intent Out) ∷ []) ((entity (name 13 3 48) None None) ∷ []))) ∷ (declares
    (declaration (Integer Four) (allocatable ∷ (intent Out) ∷ []) ((entity (name 19 3 88) (Some (deferred (None ∷ []))) None) ∷ []))) ∷ (declares
    (declaration (Integer Four) ((intent Out) ∷ []) ((entity (name 20 3 118) (Some (deferred ((Some (four (at 3 120) 2)) ∷ []))) None) ∷ []))) ∷ [])
    (statements (acts (at 3 125) (print ((designator (parts (name 13 3 134) bare (parts (name 5 3 136) bare no_parts))) ∷ (designator (parts (name 17
    3 139) (within (arguments (value None (designator (parts (name 13 3 149) bare (parts (name 7 3 151) bare no_parts)))) no_arguments)) no_parts)) ∷
    (designator (parts (name 17 3 155) (within (arguments (value None (designator (parts (name 19 3 165) bare no_parts))) no_arguments)) no_parts)) ∷
    (designator (parts (name 20 3 169) bare no_parts)) ∷ (designator (parts (name 22 3 172) (within (arguments (value None (designator (parts (name
    20 3 179) bare no_parts))) (arguments (value None (four (at 3 182) 1)) no_arguments))) no_parts)) ∷ []))) (statements (acts (at 3 186) (assign
    (parts (name 13 3 186) bare (parts (name 5 3 188) bare no_parts)) (four (at 3 192) 5))) (statements (acts (at 3 195) (allocate ((parts (name 19 3
    204) (within (arguments (triplet (at 3 206) (present (four (at 3 206) 7)) (present (four (at 3 208) 8)) absent) no_arguments)) no_parts) ∷ [])
    None)) (statements (acts (at 3 213) (assign (parts (name 19 3 213) bare no_parts) (four (at 3 217) 1))) (statements (acts (at 3 220) (assign
    (parts (name 20 3 220) (within (arguments (value None (four (at 3 222) 3)) no_arguments)) no_parts) (four (at 3 227) 4))) no_statements))))) (at
    3 230)) ∷ (procedure false Subroutine (name 24 4 12) ((name 13 4 14) ∷ []) ((declares (declaration (Derived (name 3 4 23)) (allocatable ∷ (intent
    Out) ∷ []) ((entity (name 13 4 55) (Some (deferred (None ∷ []))) None) ∷ []))) ∷ []) (statements (acts (at 4 61) (print ((designator (parts (name
    17 4 70) (within (arguments (value None (designator (parts (name 13 4 80) bare no_parts))) no_arguments)) no_parts)) ∷ []))) (statements (acts
    (at 4 84) (allocate ((parts (name 13 4 93) (within (arguments (value None (four (at 4 95) 2)) no_arguments)) no_parts) ∷ []) None)) (statements
    (acts (at 4 100) (assign (parts (name 13 4 100) bare (parts (name 5 4 102) bare no_parts)) (array (at 4 106) (trees (four (at 4 107) 1) (trees
    (four (at 4 110) 2) no_trees))))) no_statements))) (at 4 114)) ∷ []) (at 5 1)) ∷ (unit (at 6 1) u.Program (name 26 6 9) ((declares (declaration
    (Derived (name 3 6 24)) (save ∷ []) ((entity (name 13 6 36) None None) ∷ []))) ∷ (declares (declaration (Derived (name 3 6 44)) (allocatable ∷
    []) ((entity (name 29 6 63) (Some (deferred (None ∷ []))) None) ∷ []))) ∷ (declares (declaration (Integer Four) (allocatable ∷ []) ((entity (name
    19 6 93) (Some (deferred (None ∷ []))) None) ∷ []))) ∷ (declares (declaration (Integer Four) [] ((entity (name 20 6 110) (Some (explicit ((bounds
    None (four (at 6 112) 3)) ∷ []))) None) ∷ []))) ∷ []) (statements (acts (at 6 116) (assign (parts (name 20 6 116) bare no_parts) (four (at 6 120)
    6))) (statements (acts (at 6 123) (allocate ((parts (name 13 6 132) bare (parts (name 7 6 134) (within (arguments (value None (four (at 6 136)
    2)) no_arguments)) no_parts)) ∷ (parts (name 19 6 140) (within (arguments (value None (four (at 6 142) 1)) no_arguments)) no_parts) ∷ (parts
    (name 29 6 146) (within (arguments (value None (four (at 6 148) 1)) no_arguments)) no_parts) ∷ []) None)) (statements (acts (at 7 1) (call (name
    18 7 6) ((value None (designator (parts (name 13 7 8) bare no_parts))) ∷ (value None (designator (parts (name 19 7 11) bare no_parts))) ∷ (value
    None (designator (parts (name 20 7 14) (within (arguments (triplet (at 7 16) (present (four (at 7 16) 1)) (present (four (at 7 18) 3)) (present
    (four (at 7 20) 2))) no_arguments)) no_parts))) ∷ []))) (statements (acts (at 7 25) (print ((designator (parts (name 13 7 34) bare (parts (name 5
    7 36) bare no_parts))) ∷ (designator (parts (name 22 7 39) (within (arguments (value None (designator (parts (name 19 7 46) bare no_parts)))
    (arguments (value None (four (at 7 49) 1)) no_arguments))) no_parts)) ∷ (designator (parts (name 20 7 53) bare no_parts)) ∷ []))) (statements
    (acts (at 7 56) (call (name 24 7 61) ((value None (designator (parts (name 29 7 63) bare no_parts))) ∷ []))) (statements (acts (at 7 67) (print
    ((designator (parts (name 29 7 76) bare (parts (name 5 7 78) bare no_parts))) ∷ []))) (statements (acts (at 7 81) (call (name 18 7 86) ((value
    None (designator (parts (name 13 7 88) bare no_parts))) ∷ (value None (designator (parts (name 19 7 91) bare no_parts))) ∷ (value None
    (designator (parts (name 20 7 94) (within (arguments (triplet (at 7 96) absent (present (four (at 7 97) 1)) absent) no_arguments)) no_parts))) ∷
    []))) no_statements))))))) [] (at 7 102)) ∷ [])) (looks (((3, One 0) ∷ (10, One 1) ∷ (18, One 2) ∷ (24, One 3) ∷ []) ∷ ((3, One 0) ∷ (10, One 1)
    ∷ (13, One 4) ∷ (18, One 2) ∷ (24, One 3) ∷ []) ∷ ((3, One 0) ∷ (10, One 1) ∷ (13, One 5) ∷ (18, One 2) ∷ (19, One 6) ∷ (20, One 7) ∷ (24, One 3)
    ∷ []) ∷ ((3, One 0) ∷ (10, One 1) ∷ (13, One 8) ∷ (18, One 2) ∷ (24, One 3) ∷ []) ∷ ((3, One 0) ∷ (10, One 1) ∷ (13, One 9) ∷ (18, One 2) ∷ (
      19,
      One 11,
    ) ∷ (20, One 12) ∷ (24, One 3) ∷ (29, One 10) ∷ []) ∷ [])) (0 ∷ 1 ∷ [])

abbrev pub corner_intent_out_formed : Global → Type 0
corner_intent_out_formed h = IsWellFormed (built h corner_intent_out_program)

abbrev pub corner_intent_out_shows : Global → Type 0
corner_intent_out_shows h =
    shown (run_of (built h corner_intent_out_program) 2000 granted) ≡ record {
      bytes = lines (codes " f 3 T" ∷ codes " 3 F F 0 0 2" ∷
          codes " 5 7 0 6 4" ∷ codes " F" ∷ codes " 1 2" ∷ codes " f 5 F" ∷ codes " 3 F F 0 2" ∷ []);
      verdict = Failed 3 3 220;
    }

--     module m; type t; integer :: n = 1; contains; final :: f; end type; contains; subroutine f(x); type(t), intent(inout) :: x; print *, 'f', x%n; end; end
--     program p; use m; type(t), allocatable :: a, b; integer, allocatable :: v(:), w(:); allocate(a, b); a%n = 2; call move_alloc(to=a, from=b); print *, a%n, allocated(b); call move_alloc(b, a); print *, allocated(a)
--     allocate(v(3:4)); v = [5, 6]; call move_alloc(v, w); print *, lbound(w, 1), ubound(w, 1), w, allocated(v); call move_alloc(v, w); print *, allocated(w); deallocate(v, stat=a%n); end
abbrev pub corner_moves_program : ProgramNode
corner_moves_program = elaborated
    (program (codes "module" ∷ codes "m" ∷ codes "type" ∷ codes "t" ∷ codes "integer" ∷ codes "n" ∷ codes "contains" ∷ codes "final" ∷ codes "f" ∷
    codes "end" ∷ codes "subroutine" ∷ codes "x" ∷ codes "intent" ∷ codes "inout" ∷ codes "print" ∷ codes "program" ∷ codes "p" ∷ codes "use" ∷
    codes "allocatable" ∷ codes "a" ∷ codes "b" ∷ codes "v" ∷ codes "w" ∷ codes "allocate" ∷ codes "call" ∷ codes "move_alloc" ∷ codes "to" ∷
    codes "from" ∷ codes "allocated" ∷ codes "lbound" ∷ codes "ubound" ∷ codes "deallocate" ∷ codes "stat" ∷ []) ((102 ∷ []) ∷ []) ((unit (at 1 1)
    u.Module (name 1 1 8) ((type_definition (name 3 1 16) None ((declaration (Integer Four) [] ((entity (name 5 1 30) None (Some (four (at 1 34) 1)))
    ∷ [])) ∷ []) ((name 8 1 56) ∷ [])) ∷ []) no_statements ((procedure false Subroutine (name 8 1 90) ((name 11 1 92) ∷ []) ((declares (declaration
    (Derived (name 3 1 101)) ((intent InOut) ∷ []) ((entity (name 11 1 122) None None) ∷ []))) ∷ []) (statements (acts (at 1 125) (print ((text (at 1
    134) 0) ∷ (designator (parts (name 11 1 139) bare (parts (name 5 1 141) bare no_parts))) ∷ []))) no_statements) (at 1 144)) ∷ []) (at 1 149)) ∷
    (unit (at 2 1) u.Program (name 16 2 9) ((declares (declaration (Derived (name 3 2 24)) (allocatable ∷ []) ((entity (name 19 2 43) None None) ∷
    (entity (name 20 2 46) None None) ∷ []))) ∷ (declares (declaration (Integer Four) (allocatable ∷ []) ((entity (name 21 2 73) (Some (deferred
    (None ∷ []))) None) ∷ (entity (name 22 2 79) (Some (deferred (None ∷ []))) None) ∷ []))) ∷ []) (statements (acts (at 2 85) (allocate ((parts
    (name 19 2 94) bare no_parts) ∷ (parts (name 20 2 97) bare no_parts) ∷ []) None)) (statements (acts (at 2 101) (assign (parts (name 19 2 101)
    bare (parts (name 5 2 103) bare no_parts)) (four (at 2 107) 2))) (statements (acts (at 2 110) (call (name 25 2 115) ((value (Some (name 26 2
    126)) (designator (parts (name 19 2 129) bare no_parts))) ∷ (value (Some (name 27 2 132)) (designator (parts (name 20 2 137) bare no_parts))) ∷
    []))) (statements (acts (at 2 141) (print ((designator (parts (name 19 2 150) bare (parts (name 5 2 152) bare no_parts))) ∷ (designator (parts
    (name 28 2 155) (within (arguments (value None (designator (parts (name 20 2 165) bare no_parts))) no_arguments)) no_parts)) ∷ []))) (statements
    (acts (at 2 169) (call (name 25 2 174) ((value None (designator (parts (name 20 2 185) bare no_parts))) ∷ (value None (designator (parts (name 19
    2 188) bare no_parts))) ∷ []))) (statements (acts (at 2 192) (print ((designator (parts (name 28 2 201) (within (arguments (value None
    (designator (parts (name 19 2 211) bare no_parts))) no_arguments)) no_parts)) ∷ []))) (statements (acts (at 3 1) (allocate ((parts (name 21 3 10)
    (within (arguments (triplet (at 3 12) (present (four (at 3 12) 3)) (present (four (at 3 14) 4)) absent) no_arguments)) no_parts) ∷ []) None))
    (statements (acts (at 3 19) (assign (parts (name 21 3 19) bare no_parts) (array (at 3 23) (trees (four (at 3 24) 5) (trees (four (at 3 27) 6)
    no_trees))))) (statements (acts (at 3 31) (call (name 25 3 36) ((value None (designator (parts (name 21 3 47) bare no_parts))) ∷ (value None
    (designator (parts (name 22 3 50) bare no_parts))) ∷ []))) (statements (acts (at 3 54) (print ((designator (parts (name 29 3 63) (within
    (arguments (value None (designator (parts (name 22 3 70) bare no_parts))) (arguments (value None (four (at 3 73) 1)) no_arguments))) no_parts)) ∷
    (designator (parts (name 30 3 77) (within (arguments (value None (designator (parts (name 22 3 84) bare no_parts))) (arguments (value None (four
    (at 3 87) 1)) no_arguments))) no_parts)) ∷ (designator (parts (name 22 3 91) bare no_parts)) ∷ (designator (parts (name 28 3 94) (within
    (arguments (value None (designator (parts (name 21 3 104) bare no_parts))) no_arguments)) no_parts)) ∷ []))) (statements (acts (at 3 108) (call
    (name 25 3 113) ((value None (designator (parts (name 21 3 124) bare no_parts))) ∷ (value None (designator (parts (name 22 3 127) bare
    no_parts))) ∷ []))) (statements (acts (at 3 131) (print ((designator (parts (name 28 3 140) (within (arguments (value None (designator (parts
    (name 22 3 150) bare no_parts))) no_arguments)) no_parts)) ∷ []))) (statements (acts (at 3 154) (deallocate ((parts (name 21 3 165) bare
    no_parts) ∷ []) (Some (parts (name 19 3 173) bare (parts (name 5 3 175) bare no_parts))))) no_statements))))))))))))) [] (at 3 179)) ∷ []))
    (looks (((3, One 0) ∷ (8, One 1) ∷ []) ∷ ((3, One 0) ∷ (8, One 1) ∷ (11, One 2) ∷ []) ∷ ((3, One 0) ∷ (8, One 1) ∷ (19, One 3) ∷ (20, One 4) ∷
    (21, One 5) ∷ (22, One 6) ∷ []) ∷ [])) (0 ∷ 1 ∷ [])

abbrev pub corner_moves_formed : Global → Type 0
corner_moves_formed h = IsWellFormed (built h corner_moves_program)

abbrev pub corner_moves_shows : Global → Type 0
corner_moves_shows h =
    shown (run_of (built h corner_moves_program) 2000 granted) ≡ record {
      bytes = lines (codes " f 2" ∷ codes " 1 F" ∷ codes " f 1" ∷ codes " F" ∷
          codes " 3 4 5 6 F" ∷ codes " F" ∷ []);
      verdict = Failed 4 3 154;
    }

--     module m; contains; subroutine s(n); integer, intent(in) :: n; integer, save :: calls = 10; integer :: k; calls = calls + 1
--     select case (n); case (:0); print *, 'low'; case (1, 3); select case (n == 1); case (.true.); print *, 'one'; case default; print *, 'three'; end select; case default; print *, 'more'; case (4:6); print *, 'mid'; end select
--     do; k = k + 1; if (k > n) exit; if (k == 2) cycle; print *, k, calls; end do
--     if (n == 6) stop 12; end; end
--     program p; use m; integer :: i, f(2) = [3, 4], z = 0; do i = 6, -1, -3; z = z + 1; end do; print *, i, z, f; call s(-1); call s(1); call s(3); call s(2); call s(6); print *, 'never'; end
abbrev pub corner_control_program : ProgramNode
corner_control_program = elaborated
    (program (codes "module" ∷ codes "m" ∷ codes "contains" ∷ codes "subroutine" ∷ codes "s" ∷ codes "n" ∷ codes "integer" ∷ codes "intent" ∷
    codes "in" ∷ codes "save" ∷ codes "calls" ∷ codes "k" ∷ codes "select" ∷ codes "case" ∷ codes "print" ∷ codes "default" ∷ codes "end" ∷
    codes "do" ∷ codes "if" ∷ codes "exit" ∷ codes "cycle" ∷ codes "stop" ∷ codes "program" ∷ codes "p" ∷ codes "use" ∷ codes "i" ∷ codes "f" ∷
    codes "z" ∷ codes "call" ∷ []) ((108 ∷ 111 ∷ 119 ∷ []) ∷ (111 ∷ 110 ∷ 101 ∷ []) ∷ (116 ∷ 104 ∷ 114 ∷ 101 ∷ 101 ∷ []) ∷ (109 ∷ 111 ∷ 114 ∷ 101 ∷
    []) ∷ (109 ∷ 105 ∷ 100 ∷ []) ∷ (110 ∷ 101 ∷ 118 ∷ 101 ∷ 114 ∷ []) ∷ []) ((unit (at 1 1) u.Module (name 1 1 8) [] no_statements ((procedure false
    Subroutine (name 4 1 32) ((name 5 1 34) ∷ []) ((declares (declaration (Integer Four) ((intent In) ∷ []) ((entity (name 5 1 61) None None) ∷ [])))
    ∷ (declares (declaration (Integer Four) (save ∷ []) ((entity (name 10 1 81) None (Some (four (at 1 89) 10))) ∷ []))) ∷ (declares (declaration
    (Integer Four) [] ((entity (name 11 1 104) None None) ∷ []))) ∷ []) (statements (acts (at 1 107) (assign (parts (name 10 1 107) bare no_parts)
    (chain (designator (parts (name 10 1 115) bare no_parts)) (more o.Add (four (at 1 123) 1) no_more)))) (statements (selects (at 2 1) (designator
    (parts (name 5 2 14) bare no_parts)) (case_block (at 2 18) (values ((up_to (at 2 24) (four (at 2 25) 0)) ∷ [])) (statements (acts (at 2 29)
    (print ((text (at 2 38) 0) ∷ []))) no_statements) (case_block (at 2 45) (values ((one (four (at 2 51) 1)) ∷ (one (four (at 2 54) 3)) ∷ []))
    (statements (selects (at 2 58) (comparison (designator (parts (name 5 2 71) bare no_parts)) r.Equal (four (at 2 76) 1)) (case_block (at 2 80)
    (values ((one (truth (at 2 86) true)) ∷ [])) (statements (acts (at 2 95) (print ((text (at 2 104) 1) ∷ []))) no_statements) (case_block (at 2
    111) default (statements (acts (at 2 125) (print ((text (at 2 134) 2) ∷ []))) no_statements) no_cases))) no_statements) (case_block (at 2 155)
    default (statements (acts (at 2 169) (print ((text (at 2 178) 3) ∷ []))) no_statements) (case_block (at 2 186) (values ((range (four (at 2 192)
    4) (four (at 2 194) 6)) ∷ [])) (statements (acts (at 2 198) (print ((text (at 2 207) 4) ∷ []))) no_statements) no_cases))))) (statements (repeats
    (at 3 1) forever (statements (acts (at 3 5) (assign (parts (name 11 3 5) bare no_parts) (chain (designator (parts (name 11 3 9) bare no_parts))
    (more o.Add (four (at 3 13) 1) no_more)))) (statements (acts_if (at 3 16) (comparison (designator (parts (name 11 3 20) bare no_parts)) r.Greater
    (designator (parts (name 5 3 24) bare no_parts))) (at 3 27) exit) (statements (acts_if (at 3 33) (comparison (designator (parts (name 11 3 37)
    bare no_parts)) r.Equal (four (at 3 42) 2)) (at 3 45) cycle) (statements (acts (at 3 52) (print ((designator (parts (name 11 3 61) bare
    no_parts)) ∷ (designator (parts (name 10 3 64) bare no_parts)) ∷ []))) no_statements))))) (statements (acts_if (at 4 1) (comparison (designator
    (parts (name 5 4 5) bare no_parts)) r.Equal (four (at 4 10) 6)) (at 4 13) (stop (Some (pos 12)))) no_statements)))) (at 4 22)) ∷ []) (at 4 27)) ∷
    (unit (at 5 1) u.Program (name 23 5 9) ((declares (declaration (Integer Four) [] ((entity (name 25 5 30) None None) ∷ (entity (name 26 5 33)
    (Some (explicit ((bounds None (four (at 5 35) 2)) ∷ []))) (Some (array (at 5 40) (trees (four (at 5 41) 3) (trees (four (at 5 44) 4)
    no_trees))))) ∷ (entity (name 27 5 48) None (Some (four (at 5 52) 0))) ∷ []))) ∷ []) (statements (repeats (at 5 55) (counted (name 25 5 58) (four
    (at 5 62) 6) (signed (at 5 65) Minus (four (at 5 66) 1)) (Some (signed (at 5 69) Minus (four (at 5 70) 3)))) (statements (acts (at 5 73) (assign
    (parts (name 27 5 73) bare no_parts) (chain (designator (parts (name 27 5 77) bare no_parts)) (more o.Add (four (at 5 81) 1) no_more))))
    no_statements)) (statements (acts (at 5 92) (print ((designator (parts (name 25 5 101) bare no_parts)) ∷ (designator (parts (name 27 5 104) bare
    no_parts)) ∷ (designator (parts (name 26 5 107) bare no_parts)) ∷ []))) (statements (acts (at 5 110) (call (name 4 5 115) ((value None (signed
    (at 5 117) Minus (four (at 5 118) 1))) ∷ []))) (statements (acts (at 5 122) (call (name 4 5 127) ((value None (four (at 5 129) 1)) ∷ [])))
    (statements (acts (at 5 133) (call (name 4 5 138) ((value None (four (at 5 140) 3)) ∷ []))) (statements (acts (at 5 144) (call (name 4 5 149)
    ((value None (four (at 5 151) 2)) ∷ []))) (statements (acts (at 5 155) (call (name 4 5 160) ((value None (four (at 5 162) 6)) ∷ []))) (statements
    (acts (at 5 166) (print ((text (at 5 175) 5) ∷ []))) no_statements)))))))) [] (at 5 184)) ∷ [])) (looks (((4, One 0) ∷ []) ∷ ((4, One 0) ∷ (
      5,
      One 1,
    ) ∷ (10, One 2) ∷ (11, One 3) ∷ []) ∷ ((4, One 0) ∷ (25, One 4) ∷ (26, One 5) ∷ (27, One 6) ∷ []) ∷ [])) (0 ∷ 1 ∷ [])

abbrev pub corner_control_formed : Global → Type 0
corner_control_formed h = IsWellFormed (built h corner_control_program)

abbrev pub corner_control_shows : Global → Type 0
corner_control_shows h =
    shown (run_of (built h corner_control_program) 2000 granted) ≡ record {
      bytes = lines (codes " -3 3 3 4" ∷ codes " low" ∷ codes " one" ∷
          codes " 1 12" ∷ codes " three" ∷ codes " 1 13" ∷ codes " 3 13" ∷ codes " more" ∷ codes " 1 14" ∷ codes " mid" ∷ codes " 1 15" ∷ codes " 3 15" ∷
          codes " 4 15" ∷ codes " 5 15" ∷ codes " 6 15" ∷ []);
      verdict = Stopped (Some 12);
    }

--     program p; integer(8) :: a; integer :: b; integer(8), allocatable :: v(:)
--     a = 2_8 ** 40; print *, a, -a / 3, mod(-a, 7_8), modulo(-a, 7_8), abs(-a), a > 2147483647; print *, (-2) ** 31, (-1) ** (-3), 3 ** 0, 0 ** 0, 2 ** (-2), modulo(7, -3), mod(7, -3), modulo(-6, 3)
--     v = [a, 1_8]; b = 7; print *, v
--     b = v(1)
--     end
abbrev pub corner_kinds_program : ProgramNode
corner_kinds_program = elaborated
    (program (codes "program" ∷ codes "p" ∷ codes "integer" ∷ codes "a" ∷ codes "b" ∷ codes "allocatable" ∷ codes "v" ∷ codes "print" ∷ codes "mod" ∷
    codes "modulo" ∷ codes "abs" ∷ codes "end" ∷ []) [] ((unit (at 1 1) u.Program (name 1 1 9) ((declares (declaration (Integer Eight) [] ((entity
    (name 3 1 26) None None) ∷ []))) ∷ (declares (declaration (Integer Four) [] ((entity (name 4 1 40) None None) ∷ []))) ∷ (declares (declaration
    (Integer Eight) (allocatable ∷ []) ((entity (name 6 1 70) (Some (deferred (None ∷ []))) None) ∷ []))) ∷ []) (statements (acts (at 2 1) (assign
    (parts (name 3 2 1) bare no_parts) (chain (eight (at 2 5) 2) (more o.Power (four (at 2 12) 40) no_more)))) (statements (acts (at 2 16) (print
    ((designator (parts (name 3 2 25) bare no_parts)) ∷ (signed (at 2 28) Minus (chain (designator (parts (name 3 2 29) bare no_parts)) (more
    o.Divide (four (at 2 33) 3) no_more))) ∷ (designator (parts (name 8 2 36) (within (arguments (value None (signed (at 2 40) Minus (designator
    (parts (name 3 2 41) bare no_parts)))) (arguments (value None (eight (at 2 44) 7)) no_arguments))) no_parts)) ∷ (designator (parts (name 9 2 50)
    (within (arguments (value None (signed (at 2 57) Minus (designator (parts (name 3 2 58) bare no_parts)))) (arguments (value None (eight (at 2 61)
    7)) no_arguments))) no_parts)) ∷ (designator (parts (name 10 2 67) (within (arguments (value None (signed (at 2 71) Minus (designator (parts
    (name 3 2 72) bare no_parts)))) no_arguments)) no_parts)) ∷ (comparison (designator (parts (name 3 2 76) bare no_parts)) r.Greater (four (at 2
    80) 2147483647)) ∷ []))) (statements (acts (at 2 92) (print ((chain (group (at 2 101) (signed (at 2 102) Minus (four (at 2 103) 2))) (more
    o.Power (four (at 2 109) 31) no_more)) ∷ (chain (group (at 2 113) (signed (at 2 114) Minus (four (at 2 115) 1))) (more o.Power (group (at 2 121)
    (signed (at 2 122) Minus (four (at 2 123) 3))) no_more)) ∷ (chain (four (at 2 127) 3) (more o.Power (four (at 2 132) 0) no_more)) ∷ (chain (four
    (at 2 135) 0) (more o.Power (four (at 2 140) 0) no_more)) ∷ (chain (four (at 2 143) 2) (more o.Power (group (at 2 148) (signed (at 2 149) Minus
    (four (at 2 150) 2))) no_more)) ∷ (designator (parts (name 9 2 154) (within (arguments (value None (four (at 2 161) 7)) (arguments (value None
    (signed (at 2 164) Minus (four (at 2 165) 3))) no_arguments))) no_parts)) ∷ (designator (parts (name 8 2 169) (within (arguments (value None
    (four (at 2 173) 7)) (arguments (value None (signed (at 2 176) Minus (four (at 2 177) 3))) no_arguments))) no_parts)) ∷ (designator (parts (name
    9 2 181) (within (arguments (value None (signed (at 2 188) Minus (four (at 2 189) 6))) (arguments (value None (four (at 2 192) 3))
    no_arguments))) no_parts)) ∷ []))) (statements (acts (at 3 1) (assign (parts (name 6 3 1) bare no_parts) (array (at 3 5) (trees (designator
    (parts (name 3 3 6) bare no_parts)) (trees (eight (at 3 9) 1) no_trees))))) (statements (acts (at 3 15) (assign (parts (name 4 3 15) bare
    no_parts) (four (at 3 19) 7))) (statements (acts (at 3 22) (print ((designator (parts (name 6 3 31) bare no_parts)) ∷ []))) (statements (acts (at
    4 1) (assign (parts (name 4 4 1) bare no_parts) (designator (parts (name 6 4 5) (within (arguments (value None (four (at 4 7) 1)) no_arguments))
    no_parts)))) no_statements))))))) [] (at 5 1)) ∷ [])) (looks (((3, One 0) ∷ (4, One 1) ∷ (6, One 2) ∷ []) ∷ [])) (0 ∷ [])

abbrev pub corner_kinds_formed : Global → Type 0
corner_kinds_formed h = IsWellFormed (built h corner_kinds_program)

abbrev pub corner_kinds_shows : Global → Type 0
corner_kinds_shows h =
    shown (run_of (built h corner_kinds_program) 2000 granted) ≡ record {
      bytes = lines (codes " 1099511627776 -366503875925 -2 5 1099511627776 T" ∷
          codes " -2147483648 -1 1 1 0 -2 1 0" ∷ codes " 1099511627776 1" ∷ []);
      verdict = Failed 1 4 1;
    }

--     module m; type t; integer, allocatable :: v(:); integer :: k = 0; end type; type(t) :: g; contains
--     subroutine s(x); integer, intent(inout) :: x(:); g%k = 3; end
--     subroutine r(x); integer, intent(inout) :: x(:); type(t) :: h; g%v(2) = 8; print *, x; h = g; g%v = x; print *, g%v; g = h; end
--     end
--     program p; use m; allocate(g%v(3)); g%v = [1, 2, 3]; call r(g%v(2:3)); end
abbrev pub corner_lent_objects_program : ProgramNode
corner_lent_objects_program = elaborated
    (program (codes "module" ∷ codes "m" ∷ codes "type" ∷ codes "t" ∷ codes "integer" ∷ codes "allocatable" ∷ codes "v" ∷ codes "k" ∷ codes "end" ∷
    codes "g" ∷ codes "contains" ∷ codes "subroutine" ∷ codes "s" ∷ codes "x" ∷ codes "intent" ∷ codes "inout" ∷ codes "r" ∷ codes "h" ∷
    codes "print" ∷ codes "program" ∷ codes "p" ∷ codes "use" ∷ codes "allocate" ∷ codes "call" ∷ []) [] ((unit (at 1 1) u.Module (name 1 1 8)
    ((type_definition (name 3 1 16) None ((declaration (Integer Four) (allocatable ∷ []) ((entity (name 6 1 43) (Some (deferred (None ∷ []))) None) ∷
    [])) ∷ (declaration (Integer Four) [] ((entity (name 7 1 60) None (Some (four (at 1 64) 0))) ∷ [])) ∷ []) []) ∷ (declares (declaration (Derived
    (name 3 1 82)) [] ((entity (name 9 1 88) None None) ∷ []))) ∷ []) no_statements ((procedure false Subroutine (name 12 2 12) ((name 13 2 14) ∷ [])
    ((declares (declaration (Integer Four) ((intent InOut) ∷ []) ((entity (name 13 2 44) (Some (deferred (None ∷ []))) None) ∷ []))) ∷ [])
    (statements (acts (at 2 50) (assign (parts (name 9 2 50) bare (parts (name 7 2 52) bare no_parts)) (four (at 2 56) 3))) no_statements) (at 2 59))
    ∷ (procedure false Subroutine (name 16 3 12) ((name 13 3 14) ∷ []) ((declares (declaration (Integer Four) ((intent InOut) ∷ []) ((entity (name 13
    3 44) (Some (deferred (None ∷ []))) None) ∷ []))) ∷ (declares (declaration (Derived (name 3 3 55)) [] ((entity (name 17 3 61) None None) ∷ [])))
    ∷ []) (statements (acts (at 3 64) (assign (parts (name 9 3 64) bare (parts (name 6 3 66) (within (arguments (value None (four (at 3 68) 2))
    no_arguments)) no_parts)) (four (at 3 73) 8))) (statements (acts (at 3 76) (print ((designator (parts (name 13 3 85) bare no_parts)) ∷ [])))
    (statements (acts (at 3 88) (assign (parts (name 17 3 88) bare no_parts) (designator (parts (name 9 3 92) bare no_parts)))) (statements (acts (at
    3 95) (assign (parts (name 9 3 95) bare (parts (name 6 3 97) bare no_parts)) (designator (parts (name 13 3 101) bare no_parts)))) (statements
    (acts (at 3 104) (print ((designator (parts (name 9 3 113) bare (parts (name 6 3 115) bare no_parts))) ∷ []))) (statements (acts (at 3 118)
    (assign (parts (name 9 3 118) bare no_parts) (designator (parts (name 17 3 122) bare no_parts)))) no_statements)))))) (at 3 125)) ∷ []) (at 4 1))
    ∷ (unit (at 5 1) u.Program (name 20 5 9) [] (statements (acts (at 5 19) (allocate ((parts (name 9 5 28) bare (parts (name 6 5 30) (within
    (arguments (value None (four (at 5 32) 3)) no_arguments)) no_parts)) ∷ []) None)) (statements (acts (at 5 37) (assign (parts (name 9 5 37) bare
    (parts (name 6 5 39) bare no_parts)) (array (at 5 43) (trees (four (at 5 44) 1) (trees (four (at 5 47) 2) (trees (four (at 5 50) 3)
    no_trees)))))) (statements (acts (at 5 54) (call (name 16 5 59) ((value None (designator (parts (name 9 5 61) bare (parts (name 6 5 63) (within
    (arguments (triplet (at 5 65) (present (four (at 5 65) 2)) (present (four (at 5 67) 3)) absent) no_arguments)) no_parts)))) ∷ [])))
    no_statements))) [] (at 5 72)) ∷ [])) (looks (((3, One 0) ∷ (9, One 1) ∷ (12, One 2) ∷ (16, One 3) ∷ []) ∷ ((3, One 0) ∷ (9, One 1) ∷ (12, One 2)
    ∷ (13, One 4) ∷ (16, One 3) ∷ []) ∷ ((3, One 0) ∷ (9, One 1) ∷ (12, One 2) ∷ (13, One 5) ∷ (16, One 3) ∷ (17, One 6) ∷ []) ∷ ((3, One 0) ∷ (
      9,
      One 1,
    ) ∷ (12, One 2) ∷ (16, One 3) ∷ []) ∷ [])) (0 ∷ 1 ∷ [])

abbrev pub corner_lent_objects_formed : Global → Type 0
corner_lent_objects_formed h = IsWellFormed (built h corner_lent_objects_program)

abbrev pub corner_lent_objects_shows : Global → Type 0
corner_lent_objects_shows h =
    shown (run_of (built h corner_lent_objects_program) 2000 granted) ≡ record { bytes = lines (codes " 8 3" ∷ []); verdict = Failed 9 3 95 }

--     program p; integer, allocatable :: x, y(:); logical :: l; x = 4; y = [x, x + 1]; x = y(2) * y(1); l = x == 20 .and. .not. (y(1) >= y(2)) .neqv. .false.; print *, x, y, l, 'it''s', allocated(y)
--     deallocate(x); y(1:2) = 7; print *, y; y = y(1:0); print *, size(y), lbound(y, 1), ubound(y, 1); x = y(1); end
abbrev pub corner_scalars_program : ProgramNode
corner_scalars_program = elaborated
    (program (codes "program" ∷ codes "p" ∷ codes "integer" ∷ codes "allocatable" ∷ codes "x" ∷ codes "y" ∷ codes "logical" ∷ codes "l" ∷
    codes "print" ∷ codes "allocated" ∷ codes "deallocate" ∷ codes "size" ∷ codes "lbound" ∷ codes "ubound" ∷ codes "end" ∷ []) ((105 ∷ 116 ∷ 39 ∷
    115 ∷ []) ∷ []) ((unit (at 1 1) u.Program (name 1 1 9) ((declares (declaration (Integer Four) (allocatable ∷ []) ((entity (name 4 1 36) None
    None) ∷ (entity (name 5 1 39) (Some (deferred (None ∷ []))) None) ∷ []))) ∷ (declares (declaration Logical [] ((entity (name 7 1 56) None None) ∷
    []))) ∷ []) (statements (acts (at 1 59) (assign (parts (name 4 1 59) bare no_parts) (four (at 1 63) 4))) (statements (acts (at 1 66) (assign
    (parts (name 5 1 66) bare no_parts) (array (at 1 70) (trees (designator (parts (name 4 1 71) bare no_parts)) (trees (chain (designator (parts
    (name 4 1 74) bare no_parts)) (more o.Add (four (at 1 78) 1) no_more)) no_trees))))) (statements (acts (at 1 82) (assign (parts (name 4 1 82)
    bare no_parts) (chain (designator (parts (name 5 1 86) (within (arguments (value None (four (at 1 88) 2)) no_arguments)) no_parts)) (more
    o.Multiply (designator (parts (name 5 1 93) (within (arguments (value None (four (at 1 95) 1)) no_arguments)) no_parts)) no_more)))) (statements
    (acts (at 1 99) (assign (parts (name 7 1 99) bare no_parts) (chain (chain (comparison (designator (parts (name 4 1 103) bare no_parts)) r.Equal
    (four (at 1 108) 20)) (more o.And (negation (at 1 117) (group (at 1 123) (comparison (designator (parts (name 5 1 124) (within (arguments (value
    None (four (at 1 126) 1)) no_arguments)) no_parts)) r.GreaterOrEqual (designator (parts (name 5 1 132) (within (arguments (value None (four (at 1
    134) 2)) no_arguments)) no_parts))))) no_more)) (more o.NotEquivalent (truth (at 1 145) false) no_more)))) (statements (acts (at 1 154) (print
    ((designator (parts (name 4 1 163) bare no_parts)) ∷ (designator (parts (name 5 1 166) bare no_parts)) ∷ (designator (parts (name 7 1 169) bare
    no_parts)) ∷ (text (at 1 172) 0) ∷ (designator (parts (name 9 1 181) (within (arguments (value None (designator (parts (name 5 1 191) bare
    no_parts))) no_arguments)) no_parts)) ∷ []))) (statements (acts (at 2 1) (deallocate ((parts (name 4 2 12) bare no_parts) ∷ []) None))
    (statements (acts (at 2 16) (assign (parts (name 5 2 16) (within (arguments (triplet (at 2 18) (present (four (at 2 18) 1)) (present (four (at 2
    20) 2)) absent) no_arguments)) no_parts) (four (at 2 25) 7))) (statements (acts (at 2 28) (print ((designator (parts (name 5 2 37) bare
    no_parts)) ∷ []))) (statements (acts (at 2 40) (assign (parts (name 5 2 40) bare no_parts) (designator (parts (name 5 2 44) (within (arguments
    (triplet (at 2 46) (present (four (at 2 46) 1)) (present (four (at 2 48) 0)) absent) no_arguments)) no_parts)))) (statements (acts (at 2 52)
    (print ((designator (parts (name 11 2 61) (within (arguments (value None (designator (parts (name 5 2 66) bare no_parts))) no_arguments))
    no_parts)) ∷ (designator (parts (name 12 2 70) (within (arguments (value None (designator (parts (name 5 2 77) bare no_parts))) (arguments (value
    None (four (at 2 80) 1)) no_arguments))) no_parts)) ∷ (designator (parts (name 13 2 84) (within (arguments (value None (designator (parts (name 5
    2 91) bare no_parts))) (arguments (value None (four (at 2 94) 1)) no_arguments))) no_parts)) ∷ []))) (statements (acts (at 2 98) (assign (parts
    (name 4 2 98) bare no_parts) (designator (parts (name 5 2 102) (within (arguments (value None (four (at 2 104) 1)) no_arguments)) no_parts))))
    no_statements))))))))))) [] (at 2 108)) ∷ [])) (looks (((4, One 0) ∷ (5, One 1) ∷ (7, One 2) ∷ []) ∷ [])) (0 ∷ [])

abbrev pub corner_scalars_formed : Global → Type 0
corner_scalars_formed h = IsWellFormed (built h corner_scalars_program)

abbrev pub corner_scalars_shows : Global → Type 0
corner_scalars_shows h =
    shown (run_of (built h corner_scalars_program) 2000 granted) ≡ record {
      bytes = lines (codes " 20 4 5 T it's T" ∷ codes " 7 7" ∷ codes " 0 1 0" ∷
          []);
      verdict = Failed 3 2 98;
    }

--     program p; integer, allocatable :: a(:)
--     allocate(a(2), stat=a(2)); print *, a; end
abbrev pub stat_last_program : ProgramNode
stat_last_program = elaborated
    (program (codes "program" ∷ codes "p" ∷ codes "integer" ∷ codes "allocatable" ∷ codes "a" ∷ codes "allocate" ∷ codes "stat" ∷ codes "print" ∷
    codes "end" ∷ []) [] ((unit (at 1 1) u.Program (name 1 1 9) ((declares (declaration (Integer Four) (allocatable ∷ []) ((entity (name 4 1 36)
    (Some (deferred (None ∷ []))) None) ∷ []))) ∷ []) (statements (acts (at 2 1) (allocate ((parts (name 4 2 10) (within (arguments (value None (four
    (at 2 12) 2)) no_arguments)) no_parts) ∷ []) (Some (parts (name 4 2 21) (within (arguments (value None (four (at 2 23) 2)) no_arguments))
    no_parts)))) (statements (acts (at 2 28) (print ((designator (parts (name 4 2 37) bare no_parts)) ∷ []))) no_statements)) [] (at 2 40)) ∷ []))
    (looks (((4, One 0) ∷ []) ∷ [])) (0 ∷ [])

abbrev pub stat_last_formed : Global → Type 0
stat_last_formed h = IsWellFormed (built h stat_last_program)

abbrev pub stat_last_shows : Global → Type 0
stat_last_shows h =
    shown (run_of (built h stat_last_program) 20 granted) ≡ record { bytes = lines (codes " 0 0" ∷ []); verdict = Finished }

--     module m; contains; subroutine s(x, y); integer, allocatable, intent(out) :: x(:); integer, intent(in) :: y; end; end
--     program p; use m; integer, allocatable :: a(:); a = [1, 2]
--     call s(a, a(1)); end
abbrev pub out_while_lent_program : ProgramNode
out_while_lent_program = elaborated
    (program (codes "module" ∷ codes "m" ∷ codes "contains" ∷ codes "subroutine" ∷ codes "s" ∷ codes "x" ∷ codes "y" ∷ codes "integer" ∷
    codes "allocatable" ∷ codes "intent" ∷ codes "out" ∷ codes "in" ∷ codes "end" ∷ codes "program" ∷ codes "p" ∷ codes "use" ∷ codes "a" ∷
    codes "call" ∷ []) [] ((unit (at 1 1) u.Module (name 1 1 8) [] no_statements ((procedure false Subroutine (name 4 1 32) ((name 5 1 34) ∷ (name 6
    1 37) ∷ []) ((declares (declaration (Integer Four) (allocatable ∷ (intent Out) ∷ []) ((entity (name 5 1 78) (Some (deferred (None ∷ []))) None) ∷
    []))) ∷ (declares (declaration (Integer Four) ((intent In) ∷ []) ((entity (name 6 1 107) None None) ∷ []))) ∷ []) no_statements (at 1 110)) ∷ [])
    (at 1 115)) ∷ (unit (at 2 1) u.Program (name 14 2 9) ((declares (declaration (Integer Four) (allocatable ∷ []) ((entity (name 16 2 43) (Some
    (deferred (None ∷ []))) None) ∷ []))) ∷ []) (statements (acts (at 2 49) (assign (parts (name 16 2 49) bare no_parts) (array (at 2 53) (trees
    (four (at 2 54) 1) (trees (four (at 2 57) 2) no_trees))))) (statements (acts (at 3 1) (call (name 4 3 6) ((value None (designator (parts (name 16
    3 8) bare no_parts))) ∷ (value None (designator (parts (name 16 3 11) (within (arguments (value None (four (at 3 13) 1)) no_arguments))
    no_parts))) ∷ []))) no_statements)) [] (at 3 18)) ∷ [])) (looks (((4, One 0) ∷ []) ∷ ((4, One 0) ∷ (5, One 1) ∷ (6, One 2) ∷ []) ∷ ((4, One 0) ∷
    (16, One 3) ∷ []) ∷ [])) (0 ∷ 1 ∷ [])

abbrev pub out_while_lent_formed : Global → Type 0
out_while_lent_formed h = IsWellFormed (built h out_while_lent_program)

abbrev pub out_while_lent_shows : Global → Type 0
out_while_lent_shows h =
    shown (run_of (built h out_while_lent_program) 20 granted) ≡ record { bytes = []; verdict = Failed 9 3 1 }

--     module m; type t; integer :: i; contains; final :: f; end type; contains; subroutine f(x); type(t), intent(inout) :: x
--     print *, "f"; end; subroutine s(x); type(t), intent(in) :: x; end; end
--     program p; use m; type(t) :: y
--     call s((y)); end
abbrev pub held_is_not_final_program : ProgramNode
held_is_not_final_program = elaborated
    (program (codes "module" ∷ codes "m" ∷ codes "type" ∷ codes "t" ∷ codes "integer" ∷ codes "i" ∷ codes "contains" ∷ codes "final" ∷ codes "f" ∷
    codes "end" ∷ codes "subroutine" ∷ codes "x" ∷ codes "intent" ∷ codes "inout" ∷ codes "print" ∷ codes "s" ∷ codes "in" ∷ codes "program" ∷
    codes "p" ∷ codes "use" ∷ codes "y" ∷ codes "call" ∷ []) ((102 ∷ []) ∷ []) ((unit (at 1 1) u.Module (name 1 1 8) ((type_definition (name 3 1 16)
    None ((declaration (Integer Four) [] ((entity (name 5 1 30) None None) ∷ [])) ∷ []) ((name 8 1 52) ∷ [])) ∷ []) no_statements ((procedure false
    Subroutine (name 8 1 86) ((name 11 1 88) ∷ []) ((declares (declaration (Derived (name 3 1 97)) ((intent InOut) ∷ []) ((entity (name 11 1 118)
    None None) ∷ []))) ∷ []) (statements (acts (at 2 1) (print ((text (at 2 10) 0) ∷ []))) no_statements) (at 2 15)) ∷ (procedure false Subroutine
    (name 15 2 31) ((name 11 2 33) ∷ []) ((declares (declaration (Derived (name 3 2 42)) ((intent In) ∷ []) ((entity (name 11 2 60) None None) ∷
    []))) ∷ []) no_statements (at 2 63)) ∷ []) (at 2 68)) ∷ (unit (at 3 1) u.Program (name 18 3 9) ((declares (declaration (Derived (name 3 3 24)) []
    ((entity (name 20 3 30) None None) ∷ []))) ∷ []) (statements (acts (at 4 1) (call (name 15 4 6) ((value None (group (at 4 8) (designator (parts
    (name 20 4 9) bare no_parts)))) ∷ []))) no_statements) [] (at 4 14)) ∷ [])) (looks (((3, One 0) ∷ (8, One 1) ∷ (15, One 2) ∷ []) ∷ ((3, One 0) ∷
    (8, One 1) ∷ (11, One 3) ∷ (15, One 2) ∷ []) ∷ ((3, One 0) ∷ (8, One 1) ∷ (11, One 4) ∷ (15, One 2) ∷ []) ∷ ((3, One 0) ∷ (8, One 1) ∷ (
      15,
      One
          2,
    ) ∷ (20, One 5) ∷ []) ∷ [])) (0 ∷ 1 ∷ [])

abbrev pub held_is_not_final_formed : Global → Type 0
held_is_not_final_formed h = IsWellFormed (built h held_is_not_final_program)

abbrev pub held_is_not_final_shows : Global → Type 0
held_is_not_final_shows h =
    shown (run_of (built h held_is_not_final_program) 20 granted) ≡ record { bytes = []; verdict = Finished }

--     module m; type t; integer :: i; contains; final :: f; end type; type box; type(t), allocatable :: c; end type; type(box), allocatable :: b; type(t), allocatable :: u; contains; subroutine f(x); type(t), intent(inout) :: x
--     if (x%i == 1) deallocate(b); end; end
--     program p; use m; allocate(b, u); allocate(b%c); u%i = 1
--     call move_alloc(b%c, u); end
abbrev pub move_lends_program : ProgramNode
move_lends_program = elaborated
    (program (codes "module" ∷ codes "m" ∷ codes "type" ∷ codes "t" ∷ codes "integer" ∷ codes "i" ∷ codes "contains" ∷ codes "final" ∷ codes "f" ∷
    codes "end" ∷ codes "box" ∷ codes "allocatable" ∷ codes "c" ∷ codes "b" ∷ codes "u" ∷ codes "subroutine" ∷ codes "x" ∷ codes "intent" ∷
    codes "inout" ∷ codes "if" ∷ codes "deallocate" ∷ codes "program" ∷ codes "p" ∷ codes "use" ∷ codes "allocate" ∷ codes "call" ∷
    codes "move_alloc" ∷ []) [] ((unit (at 1 1) u.Module (name 1 1 8) ((type_definition (name 3 1 16) None ((declaration (Integer Four) [] ((entity
    (name 5 1 30) None None) ∷ [])) ∷ []) ((name 8 1 52) ∷ [])) ∷ (type_definition (name 10 1 70) None ((declaration (Derived (name 3 1 80))
    (allocatable ∷ []) ((entity (name 12 1 99) None None) ∷ [])) ∷ []) []) ∷ (declares (declaration (Derived (name 10 1 117)) (allocatable ∷ [])
    ((entity (name 13 1 138) None None) ∷ []))) ∷ (declares (declaration (Derived (name 3 1 146)) (allocatable ∷ []) ((entity (name 14 1 165) None
    None) ∷ []))) ∷ []) no_statements ((procedure false Subroutine (name 8 1 189) ((name 16 1 191) ∷ []) ((declares (declaration (Derived (name 3 1
    200)) ((intent InOut) ∷ []) ((entity (name 16 1 221) None None) ∷ []))) ∷ []) (statements (acts_if (at 2 1) (comparison (designator (parts (name
    16 2 5) bare (parts (name 5 2 7) bare no_parts))) r.Equal (four (at 2 12) 1)) (at 2 15) (deallocate ((parts (name 13 2 26) bare no_parts) ∷ [])
    None)) no_statements) (at 2 30)) ∷ []) (at 2 35)) ∷ (unit (at 3 1) u.Program (name 22 3 9) [] (statements (acts (at 3 19) (allocate ((parts (name
    13 3 28) bare no_parts) ∷ (parts (name 14 3 31) bare no_parts) ∷ []) None)) (statements (acts (at 3 35) (allocate ((parts (name 13 3 44) bare
    (parts (name 12 3 46) bare no_parts)) ∷ []) None)) (statements (acts (at 3 50) (assign (parts (name 14 3 50) bare (parts (name 5 3 52) bare
    no_parts)) (four (at 3 56) 1))) (statements (acts (at 4 1) (call (name 26 4 6) ((value None (designator (parts (name 13 4 17) bare (parts (name
    12 4 19) bare no_parts)))) ∷ (value None (designator (parts (name 14 4 22) bare no_parts))) ∷ []))) no_statements)))) [] (at 4 26)) ∷ [])) (looks
    (((3, One 0) ∷ (8, One 4) ∷ (10, One 1) ∷ (13, One 2) ∷ (14, One 3) ∷ []) ∷ ((3, One 0) ∷ (8, One 4) ∷ (10, One 1) ∷ (13, One 2) ∷ (14, One 3) ∷
    (16, One 5) ∷ []) ∷ ((3, One 0) ∷ (8, One 4) ∷ (10, One 1) ∷ (13, One 2) ∷ (14, One 3) ∷ []) ∷ [])) (0 ∷ 1 ∷ [])

abbrev pub move_lends_formed : Global → Type 0
move_lends_formed h = IsWellFormed (built h move_lends_program)

abbrev pub move_lends_shows : Global → Type 0
move_lends_shows h =
    shown (run_of (built h move_lends_program) 20 granted) ≡ record { bytes = []; verdict = Failed 9 2 1 }

-- These programs make sense, print this and end so.
abbrev pub Meant10Show : Type 0
Meant10Show = (h : Global) →
    corner_functions_formed h
    × corner_functions_shows h
    × corner_associates_formed h
    × corner_associates_shows h
    × corner_intent_out_formed h
    × corner_intent_out_shows h
    × corner_moves_formed h
    × corner_moves_shows h
    × corner_control_formed h
    × corner_control_shows h
    × corner_kinds_formed h
    × corner_kinds_shows h
    × corner_lent_objects_formed h
    × corner_lent_objects_shows h
    × corner_scalars_formed h
    × corner_scalars_shows h
    × stat_last_formed h
    × stat_last_shows h
    × out_while_lent_formed h
    × out_while_lent_shows h
    × held_is_not_final_formed h
    × held_is_not_final_shows h
    × move_lends_formed h
    × move_lends_shows h
