-- Programs, each in the text above it, elaborated, and what they print.
use Rattle.std.specs.Prelude.{◌≡◌, false, [], ◌∷◌, None, Some, codes}
use Rattle.std.specs.declared.alloc.Global.{Global}
use Rattle.f3_lookups.specs.declared.lookup.Lookup.TheVariants.{One}
use Rattle.f3_tree.specs.declared.expression.Sign.TheVariants.{Minus}
use Rattle.f3_tree.specs.declared.expression.Operator.TheVariants as o
use Rattle.f3_tree.specs.declared.expression.IntegerKind.TheVariants.{Four, Eight}
use Rattle.f3_tree.specs.declared.declaration.Intent.TheVariants.{In, InOut}
use Rattle.f3_tree.specs.declared.declaration.TypeSpecifier.TheVariants.{Integer, Derived}
use Rattle.f3_tree.specs.declared.program.ProcedureKind.TheVariants.{Subroutine}
use Rattle.f3_tree.specs.declared.program.UnitKind.TheVariants as u
use Rattle.f3_tree.specs.Expressions.{text, designator, array, signed, chain, no_more, more, no_trees, trees, no_parts, parts}
use Rattle.f3_tree.specs.Expressions.{bare, within, no_arguments, arguments, value, triplet, absent, present}
use Rattle.f3_tree.specs.Declarations.{explicit, deferred, protected, allocatable, intent, declares}
use Rattle.f3_tree.specs.Statements.{assign, call, allocate, deallocate, print, exit}
use Rattle.f3_tree.specs.Statements.{counted, acts, repeats, no_statements, statements}
use Rattle.f3_meaning_whole.specs.Run.{run_of}
use Rattle.f3_meaning_rows.specs.Shown.{shown, lines, granted, Finished, Failed}
use Rattle.f3_elaboration.specs.Nodes.{ProgramNode}
use Rattle.f3_elaboration.specs.Program.{elaborated}
use Rattle.f3_elaboration_rows.specs.Trees.{at, name, four, eight, bounds, entity, declaration, type_definition, procedure, unit, program, looks}
use Rattle.f3_elaboration_rows.specs.Built.{built}
use Rattle.f3_meaning_whole.specs.Formed.{IsWellFormed}

--     program p; integer(8) :: i; do i = -9223372036854775807_8 - 1, 9223372036854775807_8; print *, i; exit; end do; end
abbrev pub kinds_06_do_program : ProgramNode
kinds_06_do_program = elaborated
    (program (codes "program" ∷ codes "p" ∷ codes "integer" ∷ codes "i" ∷ codes "do" ∷ codes "print" ∷ codes "exit" ∷ codes "end" ∷ []) [] ((unit (at
    1 1) u.Program (name 1 1 9) ((declares (declaration (Integer Eight) [] ((entity (name 3 1 26) None None) ∷ []))) ∷ []) (statements (repeats (at 1
    29) (counted (name 3 1 32) (chain (signed (at 1 36) Minus (eight (at 1 37) 9223372036854775807)) (more o.Subtract (four (at 1 61) 1) no_more))
    (eight (at 1 64) 9223372036854775807) None) (statements (acts (at 1 87) (print ((designator (parts (name 3 1 96) bare no_parts)) ∷ [])))
    (statements (acts (at 1 99) exit) no_statements))) no_statements) [] (at 1 113)) ∷ [])) (looks (((3, One 0) ∷ []) ∷ [])) (0 ∷ [])

abbrev pub kinds_06_do_formed : Global → Type 0
kinds_06_do_formed h = IsWellFormed (built h kinds_06_do_program)

abbrev pub kinds_06_do_shows : Global → Type 0
kinds_06_do_shows h =
    shown (run_of (built h kinds_06_do_program) 2000 granted) ≡ record { bytes = lines (codes " -9223372036854775808" ∷ []); verdict = Finished }

--     program p; integer :: a(4); a = [1, 2, 3, 4]; a(2:4) = a(1:3); print *, a(4:1:-1), a(9:8); end
abbrev pub machine_01_sections_program : ProgramNode
machine_01_sections_program = elaborated
    (program (codes "program" ∷ codes "p" ∷ codes "integer" ∷ codes "a" ∷ codes "print" ∷ codes "end" ∷ []) [] ((unit (at 1 1) u.Program (name 1 1 9)
    ((declares (declaration (Integer Four) [] ((entity (name 3 1 23) (Some (explicit ((bounds None (four (at 1 25) 4)) ∷ []))) None) ∷ []))) ∷ [])
    (statements (acts (at 1 29) (assign (parts (name 3 1 29) bare no_parts) (array (at 1 33) (trees (four (at 1 34) 1) (trees (four (at 1 37) 2)
    (trees (four (at 1 40) 3) (trees (four (at 1 43) 4) no_trees))))))) (statements (acts (at 1 47) (assign (parts (name 3 1 47) (within (arguments
    (triplet (at 1 49) (present (four (at 1 49) 2)) (present (four (at 1 51) 4)) absent) no_arguments)) no_parts) (designator (parts (name 3 1 56)
    (within (arguments (triplet (at 1 58) (present (four (at 1 58) 1)) (present (four (at 1 60) 3)) absent) no_arguments)) no_parts)))) (statements
    (acts (at 1 64) (print ((designator (parts (name 3 1 73) (within (arguments (triplet (at 1 75) (present (four (at 1 75) 4)) (present (four (at 1
    77) 1)) (present (signed (at 1 79) Minus (four (at 1 80) 1)))) no_arguments)) no_parts)) ∷ (designator (parts (name 3 1 84) (within (arguments
    (triplet (at 1 86) (present (four (at 1 86) 9)) (present (four (at 1 88) 8)) absent) no_arguments)) no_parts)) ∷ []))) no_statements))) [] (at 1
    92)) ∷ [])) (looks (((3, One 0) ∷ []) ∷ [])) (0 ∷ [])

abbrev pub machine_01_sections_formed : Global → Type 0
machine_01_sections_formed h = IsWellFormed (built h machine_01_sections_program)

abbrev pub machine_01_sections_shows : Global → Type 0
machine_01_sections_shows h =
    shown (run_of (built h machine_01_sections_program) 2000 granted) ≡ record { bytes = lines (codes " 3 2 1 1" ∷ []); verdict = Finished }

--     module m; contains
--     subroutine s(n); integer, intent(in) :: n; call s(n + 1); end
--     end
--     program p; use m; call s(1); end
abbrev pub machine_02_depth_program : ProgramNode
machine_02_depth_program = elaborated
    (program (codes "module" ∷ codes "m" ∷ codes "contains" ∷ codes "subroutine" ∷ codes "s" ∷ codes "n" ∷ codes "integer" ∷ codes "intent" ∷
    codes "in" ∷ codes "call" ∷ codes "end" ∷ codes "program" ∷ codes "p" ∷ codes "use" ∷ []) [] ((unit (at 1 1) u.Module (name 1 1 8) []
    no_statements ((procedure false Subroutine (name 4 2 12) ((name 5 2 14) ∷ []) ((declares (declaration (Integer Four) ((intent In) ∷ []) ((entity
    (name 5 2 41) None None) ∷ []))) ∷ []) (statements (acts (at 2 44) (call (name 4 2 49) ((value None (chain (designator (parts (name 5 2 51) bare
    no_parts)) (more o.Add (four (at 2 55) 1) no_more))) ∷ []))) no_statements) (at 2 59)) ∷ []) (at 3 1)) ∷ (unit (at 4 1) u.Program (name 12 4 9)
    [] (statements (acts (at 4 19) (call (name 4 4 24) ((value None (four (at 4 26) 1)) ∷ []))) no_statements) [] (at 4 30)) ∷ [])) (looks (((
      4,
      One
          0,
    ) ∷ []) ∷ ((4, One 0) ∷ (5, One 1) ∷ []) ∷ ((4, One 0) ∷ []) ∷ [])) (0 ∷ 1 ∷ [])

abbrev pub machine_02_depth_formed : Global → Type 0
machine_02_depth_formed h = IsWellFormed (built h machine_02_depth_program)

abbrev pub machine_02_depth_shows : Global → Type 0
machine_02_depth_shows h =
    shown (run_of (built h machine_02_depth_program) 2000 granted) ≡ record { bytes = lines []; verdict = Failed 10 2 44 }

--     module a; integer :: n = 1, o = 2; end
--     program p; use a, k => n; print *, k, o; end
abbrev pub modules_01_rename_program : ProgramNode
modules_01_rename_program = elaborated
    (program (codes "module" ∷ codes "a" ∷ codes "integer" ∷ codes "n" ∷ codes "o" ∷ codes "end" ∷ codes "program" ∷ codes "p" ∷ codes "use" ∷
    codes "k" ∷ codes "print" ∷ []) [] ((unit (at 1 1) u.Module (name 1 1 8) ((declares (declaration (Integer Four) [] ((entity (name 3 1 22) None
    (Some (four (at 1 26) 1))) ∷ (entity (name 4 1 29) None (Some (four (at 1 33) 2))) ∷ []))) ∷ []) no_statements [] (at 1 36)) ∷ (unit (at 2 1)
    u.Program (name 7 2 9) [] (statements (acts (at 2 27) (print ((designator (parts (name 9 2 36) bare no_parts)) ∷ (designator (parts (name 4 2 39)
    bare no_parts)) ∷ []))) no_statements) [] (at 2 42)) ∷ [])) (looks (((3, One 0) ∷ (4, One 1) ∷ []) ∷ ((4, One 1) ∷ (9, One 0) ∷ []) ∷ [])) (0 ∷ 1
    ∷ [])

abbrev pub modules_01_rename_formed : Global → Type 0
modules_01_rename_formed h = IsWellFormed (built h modules_01_rename_program)

abbrev pub modules_01_rename_shows : Global → Type 0
modules_01_rename_shows h =
    shown (run_of (built h modules_01_rename_program) 2000 granted) ≡ record { bytes = lines (codes " 1 2" ∷ []); verdict = Finished }

--     module a; integer :: n = 1, o = 2; end
--     program p; use a, only: k => n; use a, only: n; print *, k, n; end
abbrev pub modules_02_two_names_program : ProgramNode
modules_02_two_names_program = elaborated
    (program (codes "module" ∷ codes "a" ∷ codes "integer" ∷ codes "n" ∷ codes "o" ∷ codes "end" ∷ codes "program" ∷ codes "p" ∷ codes "use" ∷
    codes "only" ∷ codes "k" ∷ codes "print" ∷ []) [] ((unit (at 1 1) u.Module (name 1 1 8) ((declares (declaration (Integer Four) [] ((entity (name
    3 1 22) None (Some (four (at 1 26) 1))) ∷ (entity (name 4 1 29) None (Some (four (at 1 33) 2))) ∷ []))) ∷ []) no_statements [] (at 1 36)) ∷ (unit
    (at 2 1) u.Program (name 7 2 9) [] (statements (acts (at 2 49) (print ((designator (parts (name 10 2 58) bare no_parts)) ∷ (designator (parts
    (name 3 2 61) bare no_parts)) ∷ []))) no_statements) [] (at 2 64)) ∷ [])) (looks (((3, One 0) ∷ (4, One 1) ∷ []) ∷ ((3, One 0) ∷ (10, One 0) ∷
    []) ∷ [])) (0 ∷ 1 ∷ [])

abbrev pub modules_02_two_names_formed : Global → Type 0
modules_02_two_names_formed h = IsWellFormed (built h modules_02_two_names_program)

abbrev pub modules_02_two_names_shows : Global → Type 0
modules_02_two_names_shows h =
    shown (run_of (built h modules_02_two_names_program) 2000 granted) ≡ record { bytes = lines (codes " 1 1" ∷ []); verdict = Finished }

--     module m; integer, protected :: n = 3; end
--     program p; use m; print *, n; end
abbrev pub sample_02_print_program : ProgramNode
sample_02_print_program = elaborated
    (program (codes "module" ∷ codes "m" ∷ codes "integer" ∷ codes "protected" ∷ codes "n" ∷ codes "end" ∷ codes "program" ∷ codes "p" ∷ codes "use"
    ∷ codes "print" ∷ []) [] ((unit (at 1 1) u.Module (name 1 1 8) ((declares (declaration (Integer Four) (protected ∷ []) ((entity (name 4 1 33)
    None (Some (four (at 1 37) 3))) ∷ []))) ∷ []) no_statements [] (at 1 40)) ∷ (unit (at 2 1) u.Program (name 7 2 9) [] (statements (acts (at 2 19)
    (print ((designator (parts (name 4 2 28) bare no_parts)) ∷ []))) no_statements) [] (at 2 31)) ∷ [])) (looks (((4, One 0) ∷ []) ∷ ((4, One 0) ∷
    []) ∷ [])) (0 ∷ 1 ∷ [])

abbrev pub sample_02_print_formed : Global → Type 0
sample_02_print_formed h = IsWellFormed (built h sample_02_print_program)

abbrev pub sample_02_print_shows : Global → Type 0
sample_02_print_shows h =
    shown (run_of (built h sample_02_print_program) 2000 granted) ≡ record { bytes = lines (codes " 3" ∷ []); verdict = Finished }

--     module m; use k; integer, protected :: n = 3; contains; subroutine up(); call bump(n); end; end
--     module k; contains; subroutine bump(x); integer, intent(inout) :: x; x = x + 1; end; end
--     program p; use m; call up(); print *, n; end
abbrev pub sample_04_bump_program : ProgramNode
sample_04_bump_program = elaborated
    (program (codes "module" ∷ codes "m" ∷ codes "use" ∷ codes "k" ∷ codes "integer" ∷ codes "protected" ∷ codes "n" ∷ codes "contains" ∷
    codes "subroutine" ∷ codes "up" ∷ codes "call" ∷ codes "bump" ∷ codes "end" ∷ codes "x" ∷ codes "intent" ∷ codes "inout" ∷ codes "program" ∷
    codes "p" ∷ codes "print" ∷ []) [] ((unit (at 1 1) u.Module (name 1 1 8) ((declares (declaration (Integer Four) (protected ∷ []) ((entity (name 6
    1 40) None (Some (four (at 1 44) 3))) ∷ []))) ∷ []) no_statements ((procedure false Subroutine (name 9 1 68) [] [] (statements (acts (at 1 74)
    (call (name 11 1 79) ((value None (designator (parts (name 6 1 84) bare no_parts))) ∷ []))) no_statements) (at 1 88)) ∷ []) (at 1 93)) ∷ (unit
    (at 2 1) u.Module (name 3 2 8) [] no_statements ((procedure false Subroutine (name 11 2 32) ((name 13 2 37) ∷ []) ((declares (declaration
    (Integer Four) ((intent InOut) ∷ []) ((entity (name 13 2 67) None None) ∷ []))) ∷ []) (statements (acts (at 2 70) (assign (parts (name 13 2 70)
    bare no_parts) (chain (designator (parts (name 13 2 74) bare no_parts)) (more o.Add (four (at 2 78) 1) no_more)))) no_statements) (at 2 81)) ∷
    []) (at 2 86)) ∷ (unit (at 3 1) u.Program (name 17 3 9) [] (statements (acts (at 3 19) (call (name 9 3 24) [])) (statements (acts (at 3 30)
    (print ((designator (parts (name 6 3 39) bare no_parts)) ∷ []))) no_statements)) [] (at 3 42)) ∷ [])) (looks (((6, One 0) ∷ (9, One 1) ∷ (
      11,
      One
          2,
    ) ∷ []) ∷ ((6, One 0) ∷ (9, One 1) ∷ (11, One 2) ∷ []) ∷ ((11, One 2) ∷ []) ∷ ((11, One 2) ∷ (13, One 3) ∷ []) ∷ ((6, One 0) ∷ (9, One 1) ∷ (
      11,
      One 2,
    ) ∷ []) ∷ [])) (1 ∷ 0 ∷ 2 ∷ [])

abbrev pub sample_04_bump_formed : Global → Type 0
sample_04_bump_formed h = IsWellFormed (built h sample_04_bump_program)

abbrev pub sample_04_bump_shows : Global → Type 0
sample_04_bump_shows h =
    shown (run_of (built h sample_04_bump_program) 2000 granted) ≡ record { bytes = lines (codes " 4" ∷ []); verdict = Finished }

--     module m; type box; private; integer :: secret = 1; end type; contains
--     subroutine show(b); type(box), intent(in) :: b; print *, b%secret; end
--     subroutine set(b, v); type(box), intent(inout) :: b; integer, intent(in) :: v; b%secret = v; end
--     end
--     program p; use m; type(box) :: a, b
--     call set(b, 5); a = b; call show(a)
--     end
abbrev pub sample_06_whole_object_program : ProgramNode
sample_06_whole_object_program = elaborated
    (program (codes "module" ∷ codes "m" ∷ codes "type" ∷ codes "box" ∷ codes "private" ∷ codes "integer" ∷ codes "secret" ∷ codes "end" ∷
    codes "contains" ∷ codes "subroutine" ∷ codes "show" ∷ codes "b" ∷ codes "intent" ∷ codes "in" ∷ codes "print" ∷ codes "set" ∷ codes "v" ∷
    codes "inout" ∷ codes "program" ∷ codes "p" ∷ codes "use" ∷ codes "a" ∷ codes "call" ∷ []) [] ((unit (at 1 1) u.Module (name 1 1 8)
    ((type_definition (name 3 1 16) (Some (at 1 21)) ((declaration (Integer Four) [] ((entity (name 6 1 41) None (Some (four (at 1 50) 1))) ∷ [])) ∷
    []) []) ∷ []) no_statements ((procedure false Subroutine (name 10 2 12) ((name 11 2 17) ∷ []) ((declares (declaration (Derived (name 3 2 26))
    ((intent In) ∷ []) ((entity (name 11 2 46) None None) ∷ []))) ∷ []) (statements (acts (at 2 49) (print ((designator (parts (name 11 2 58) bare
    (parts (name 6 2 60) bare no_parts))) ∷ []))) no_statements) (at 2 68)) ∷ (procedure false Subroutine (name 15 3 12) ((name 11 3 16) ∷ (name 16 3
    19) ∷ []) ((declares (declaration (Derived (name 3 3 28)) ((intent InOut) ∷ []) ((entity (name 11 3 51) None None) ∷ []))) ∷ (declares
    (declaration (Integer Four) ((intent In) ∷ []) ((entity (name 16 3 77) None None) ∷ []))) ∷ []) (statements (acts (at 3 80) (assign (parts (name
    11 3 80) bare (parts (name 6 3 82) bare no_parts)) (designator (parts (name 16 3 91) bare no_parts)))) no_statements) (at 3 94)) ∷ []) (at 4 1))
    ∷ (unit (at 5 1) u.Program (name 19 5 9) ((declares (declaration (Derived (name 3 5 24)) [] ((entity (name 21 5 32) None None) ∷ (entity (name 11
    5 35) None None) ∷ []))) ∷ []) (statements (acts (at 6 1) (call (name 15 6 6) ((value None (designator (parts (name 11 6 10) bare no_parts))) ∷
    (value None (four (at 6 13) 5)) ∷ []))) (statements (acts (at 6 17) (assign (parts (name 21 6 17) bare no_parts) (designator (parts (name 11 6
    21) bare no_parts)))) (statements (acts (at 6 24) (call (name 10 6 29) ((value None (designator (parts (name 21 6 34) bare no_parts))) ∷ [])))
    no_statements))) [] (at 7 1)) ∷ [])) (looks (((3, One 0) ∷ (10, One 1) ∷ (15, One 2) ∷ []) ∷ ((3, One 0) ∷ (10, One 1) ∷ (11, One 3) ∷ (
      15,
      One
          2,
    ) ∷ []) ∷ ((3, One 0) ∷ (10, One 1) ∷ (11, One 4) ∷ (15, One 2) ∷ (16, One 5) ∷ []) ∷ ((3, One 0) ∷ (10, One 1) ∷ (11, One 7) ∷ (15, One 2) ∷
    (21, One 6) ∷ []) ∷ [])) (0 ∷ 1 ∷ [])

abbrev pub sample_06_whole_object_formed : Global → Type 0
sample_06_whole_object_formed h = IsWellFormed (built h sample_06_whole_object_program)

abbrev pub sample_06_whole_object_shows : Global → Type 0
sample_06_whole_object_shows h =
    shown (run_of (built h sample_06_whole_object_program) 2000 granted) ≡ record { bytes = lines (codes " 5" ∷ []); verdict = Finished }

--     program p; integer, allocatable :: a(:), b(:), c(:), d(:)
--     allocate(a(3:5)); a = 0; b = a; c = a(3:5); allocate(d(0:2)); d = a
--     print *, lbound(b,1), lbound(c,1), lbound(d,1)
--     end
abbrev pub sample_07_bounds_program : ProgramNode
sample_07_bounds_program = elaborated
    (program (codes "program" ∷ codes "p" ∷ codes "integer" ∷ codes "allocatable" ∷ codes "a" ∷ codes "b" ∷ codes "c" ∷ codes "d" ∷ codes "allocate"
    ∷ codes "print" ∷ codes "lbound" ∷ codes "end" ∷ []) [] ((unit (at 1 1) u.Program (name 1 1 9) ((declares (declaration (Integer Four)
    (allocatable ∷ []) ((entity (name 4 1 36) (Some (deferred (None ∷ []))) None) ∷ (entity (name 5 1 42) (Some (deferred (None ∷ []))) None) ∷
    (entity (name 6 1 48) (Some (deferred (None ∷ []))) None) ∷ (entity (name 7 1 54) (Some (deferred (None ∷ []))) None) ∷ []))) ∷ []) (statements
    (acts (at 2 1) (allocate ((parts (name 4 2 10) (within (arguments (triplet (at 2 12) (present (four (at 2 12) 3)) (present (four (at 2 14) 5))
    absent) no_arguments)) no_parts) ∷ []) None)) (statements (acts (at 2 19) (assign (parts (name 4 2 19) bare no_parts) (four (at 2 23) 0)))
    (statements (acts (at 2 26) (assign (parts (name 5 2 26) bare no_parts) (designator (parts (name 4 2 30) bare no_parts)))) (statements (acts (at
    2 33) (assign (parts (name 6 2 33) bare no_parts) (designator (parts (name 4 2 37) (within (arguments (triplet (at 2 39) (present (four (at 2 39)
    3)) (present (four (at 2 41) 5)) absent) no_arguments)) no_parts)))) (statements (acts (at 2 45) (allocate ((parts (name 7 2 54) (within
    (arguments (triplet (at 2 56) (present (four (at 2 56) 0)) (present (four (at 2 58) 2)) absent) no_arguments)) no_parts) ∷ []) None)) (statements
    (acts (at 2 63) (assign (parts (name 7 2 63) bare no_parts) (designator (parts (name 4 2 67) bare no_parts)))) (statements (acts (at 3 1) (print
    ((designator (parts (name 10 3 10) (within (arguments (value None (designator (parts (name 5 3 17) bare no_parts))) (arguments (value None (four
    (at 3 19) 1)) no_arguments))) no_parts)) ∷ (designator (parts (name 10 3 23) (within (arguments (value None (designator (parts (name 6 3 30) bare
    no_parts))) (arguments (value None (four (at 3 32) 1)) no_arguments))) no_parts)) ∷ (designator (parts (name 10 3 36) (within (arguments (value
    None (designator (parts (name 7 3 43) bare no_parts))) (arguments (value None (four (at 3 45) 1)) no_arguments))) no_parts)) ∷ [])))
    no_statements))))))) [] (at 4 1)) ∷ [])) (looks (((4, One 0) ∷ (5, One 1) ∷ (6, One 2) ∷ (7, One 3) ∷ []) ∷ [])) (0 ∷ [])

abbrev pub sample_07_bounds_formed : Global → Type 0
sample_07_bounds_formed h = IsWellFormed (built h sample_07_bounds_program)

abbrev pub sample_07_bounds_shows : Global → Type 0
sample_07_bounds_shows h =
    shown (run_of (built h sample_07_bounds_program) 2000 granted) ≡ record { bytes = lines (codes " 3 1 0" ∷ []); verdict = Finished }

--     program p; integer, allocatable :: a(:)
--     allocate(a(5:4)); print *, size(a), lbound(a,1), ubound(a,1)
--     end
abbrev pub sample_08_zero_extent_program : ProgramNode
sample_08_zero_extent_program = elaborated
    (program (codes "program" ∷ codes "p" ∷ codes "integer" ∷ codes "allocatable" ∷ codes "a" ∷ codes "allocate" ∷ codes "print" ∷ codes "size" ∷
    codes "lbound" ∷ codes "ubound" ∷ codes "end" ∷ []) [] ((unit (at 1 1) u.Program (name 1 1 9) ((declares (declaration (Integer Four) (allocatable
    ∷ []) ((entity (name 4 1 36) (Some (deferred (None ∷ []))) None) ∷ []))) ∷ []) (statements (acts (at 2 1) (allocate ((parts (name 4 2 10) (within
    (arguments (triplet (at 2 12) (present (four (at 2 12) 5)) (present (four (at 2 14) 4)) absent) no_arguments)) no_parts) ∷ []) None)) (statements
    (acts (at 2 19) (print ((designator (parts (name 7 2 28) (within (arguments (value None (designator (parts (name 4 2 33) bare no_parts)))
    no_arguments)) no_parts)) ∷ (designator (parts (name 8 2 37) (within (arguments (value None (designator (parts (name 4 2 44) bare no_parts)))
    (arguments (value None (four (at 2 46) 1)) no_arguments))) no_parts)) ∷ (designator (parts (name 9 2 50) (within (arguments (value None
    (designator (parts (name 4 2 57) bare no_parts))) (arguments (value None (four (at 2 59) 1)) no_arguments))) no_parts)) ∷ []))) no_statements))
    [] (at 3 1)) ∷ [])) (looks (((4, One 0) ∷ []) ∷ [])) (0 ∷ [])

abbrev pub sample_08_zero_extent_formed : Global → Type 0
sample_08_zero_extent_formed h = IsWellFormed (built h sample_08_zero_extent_program)

abbrev pub sample_08_zero_extent_shows : Global → Type 0
sample_08_zero_extent_shows h =
    shown (run_of (built h sample_08_zero_extent_program) 2000 granted) ≡ record { bytes = lines (codes " 0 1 0" ∷ []); verdict = Finished }

--     module m; type t; integer :: id = 0; contains; final :: fin; end type; contains
--     subroutine fin(x); type(t), intent(inout) :: x; print *, 'f', x%id; end
--     subroutine go(); type(t) :: x, y; x%id = 1; y%id = 2; x = y; print *, 'g'; end
--     end
--     program p; use m; call go(); end
abbrev pub sample_09_finals_program : ProgramNode
sample_09_finals_program = elaborated
    (program (codes "module" ∷ codes "m" ∷ codes "type" ∷ codes "t" ∷ codes "integer" ∷ codes "id" ∷ codes "contains" ∷ codes "final" ∷ codes "fin" ∷
    codes "end" ∷ codes "subroutine" ∷ codes "x" ∷ codes "intent" ∷ codes "inout" ∷ codes "print" ∷ codes "go" ∷ codes "y" ∷ codes "program" ∷
    codes "p" ∷ codes "use" ∷ codes "call" ∷ []) ((102 ∷ []) ∷ (103 ∷ []) ∷ []) ((unit (at 1 1) u.Module (name 1 1 8) ((type_definition (name 3 1 16)
    None ((declaration (Integer Four) [] ((entity (name 5 1 30) None (Some (four (at 1 35) 0))) ∷ [])) ∷ []) ((name 8 1 57) ∷ [])) ∷ [])
    no_statements ((procedure false Subroutine (name 8 2 12) ((name 11 2 16) ∷ []) ((declares (declaration (Derived (name 3 2 25)) ((intent InOut) ∷
    []) ((entity (name 11 2 46) None None) ∷ []))) ∷ []) (statements (acts (at 2 49) (print ((text (at 2 58) 0) ∷ (designator (parts (name 11 2 63)
    bare (parts (name 5 2 65) bare no_parts))) ∷ []))) no_statements) (at 2 69)) ∷ (procedure false Subroutine (name 15 3 12) [] ((declares
    (declaration (Derived (name 3 3 23)) [] ((entity (name 11 3 29) None None) ∷ (entity (name 16 3 32) None None) ∷ []))) ∷ []) (statements (acts
    (at 3 35) (assign (parts (name 11 3 35) bare (parts (name 5 3 37) bare no_parts)) (four (at 3 42) 1))) (statements (acts (at 3 45) (assign (parts
    (name 16 3 45) bare (parts (name 5 3 47) bare no_parts)) (four (at 3 52) 2))) (statements (acts (at 3 55) (assign (parts (name 11 3 55) bare
    no_parts) (designator (parts (name 16 3 59) bare no_parts)))) (statements (acts (at 3 62) (print ((text (at 3 71) 1) ∷ []))) no_statements))))
    (at 3 76)) ∷ []) (at 4 1)) ∷ (unit (at 5 1) u.Program (name 18 5 9) [] (statements (acts (at 5 19) (call (name 15 5 24) [])) no_statements) []
    (at 5 30)) ∷ [])) (looks (((3, One 0) ∷ (8, One 1) ∷ (15, One 2) ∷ []) ∷ ((3, One 0) ∷ (8, One 1) ∷ (11, One 3) ∷ (15, One 2) ∷ []) ∷ ((3, One 0)
    ∷ (8, One 1) ∷ (11, One 4) ∷ (15, One 2) ∷ (16, One 5) ∷ []) ∷ ((3, One 0) ∷ (8, One 1) ∷ (15, One 2) ∷ []) ∷ [])) (0 ∷ 1 ∷ [])

abbrev pub sample_09_finals_formed : Global → Type 0
sample_09_finals_formed h = IsWellFormed (built h sample_09_finals_program)

abbrev pub sample_09_finals_shows : Global → Type 0
sample_09_finals_shows h =
    shown (run_of (built h sample_09_finals_program) 2000 granted) ≡ record {
      bytes = lines (codes " f 1" ∷ codes " g" ∷ codes " f 2" ∷ codes " f 2"
          ∷ []);
      verdict = Finished;
    }

--     module m; type t; integer :: id = 0; contains; final :: fin, fin1; end type; contains
--     subroutine fin(x); type(t), intent(inout) :: x; print *, 'f', x%id; end
--     subroutine go(); type(t) :: x, y; x%id = 1; y%id = 2; x = y; print *, 'g'; end
--     subroutine fin1(x); type(t), intent(inout) :: x(:); print *, 'v', size(x); end
--     end
--     program p; use m; type(t), allocatable :: v(:); type(t) :: s
--     allocate(v(2)); deallocate(v); print *, 'e'
--     end
abbrev pub sample_10_array_final_program : ProgramNode
sample_10_array_final_program = elaborated
    (program (codes "module" ∷ codes "m" ∷ codes "type" ∷ codes "t" ∷ codes "integer" ∷ codes "id" ∷ codes "contains" ∷ codes "final" ∷ codes "fin" ∷
    codes "fin1" ∷ codes "end" ∷ codes "subroutine" ∷ codes "x" ∷ codes "intent" ∷ codes "inout" ∷ codes "print" ∷ codes "go" ∷ codes "y" ∷
    codes "size" ∷ codes "program" ∷ codes "p" ∷ codes "use" ∷ codes "allocatable" ∷ codes "v" ∷ codes "s" ∷ codes "allocate" ∷ codes "deallocate" ∷
    []) ((102 ∷ []) ∷ (103 ∷ []) ∷ (118 ∷ []) ∷ (101 ∷ []) ∷ []) ((unit (at 1 1) u.Module (name 1 1 8) ((type_definition (name 3 1 16) None
    ((declaration (Integer Four) [] ((entity (name 5 1 30) None (Some (four (at 1 35) 0))) ∷ [])) ∷ []) ((name 8 1 57) ∷ (name 9 1 62) ∷ [])) ∷ [])
    no_statements ((procedure false Subroutine (name 8 2 12) ((name 12 2 16) ∷ []) ((declares (declaration (Derived (name 3 2 25)) ((intent InOut) ∷
    []) ((entity (name 12 2 46) None None) ∷ []))) ∷ []) (statements (acts (at 2 49) (print ((text (at 2 58) 0) ∷ (designator (parts (name 12 2 63)
    bare (parts (name 5 2 65) bare no_parts))) ∷ []))) no_statements) (at 2 69)) ∷ (procedure false Subroutine (name 16 3 12) [] ((declares
    (declaration (Derived (name 3 3 23)) [] ((entity (name 12 3 29) None None) ∷ (entity (name 17 3 32) None None) ∷ []))) ∷ []) (statements (acts
    (at 3 35) (assign (parts (name 12 3 35) bare (parts (name 5 3 37) bare no_parts)) (four (at 3 42) 1))) (statements (acts (at 3 45) (assign (parts
    (name 17 3 45) bare (parts (name 5 3 47) bare no_parts)) (four (at 3 52) 2))) (statements (acts (at 3 55) (assign (parts (name 12 3 55) bare
    no_parts) (designator (parts (name 17 3 59) bare no_parts)))) (statements (acts (at 3 62) (print ((text (at 3 71) 1) ∷ []))) no_statements))))
    (at 3 76)) ∷ (procedure false Subroutine (name 9 4 12) ((name 12 4 17) ∷ []) ((declares (declaration (Derived (name 3 4 26)) ((intent InOut) ∷
    []) ((entity (name 12 4 47) (Some (deferred (None ∷ []))) None) ∷ []))) ∷ []) (statements (acts (at 4 53) (print ((text (at 4 62) 2) ∷
    (designator (parts (name 18 4 67) (within (arguments (value None (designator (parts (name 12 4 72) bare no_parts))) no_arguments)) no_parts)) ∷
    []))) no_statements) (at 4 76)) ∷ []) (at 5 1)) ∷ (unit (at 6 1) u.Program (name 20 6 9) ((declares (declaration (Derived (name 3 6 24))
    (allocatable ∷ []) ((entity (name 23 6 43) (Some (deferred (None ∷ []))) None) ∷ []))) ∷ (declares (declaration (Derived (name 3 6 54)) []
    ((entity (name 24 6 60) None None) ∷ []))) ∷ []) (statements (acts (at 7 1) (allocate ((parts (name 23 7 10) (within (arguments (value None (four
    (at 7 12) 2)) no_arguments)) no_parts) ∷ []) None)) (statements (acts (at 7 17) (deallocate ((parts (name 23 7 28) bare no_parts) ∷ []) None))
    (statements (acts (at 7 32) (print ((text (at 7 41) 3) ∷ []))) no_statements))) [] (at 8 1)) ∷ [])) (looks (((3, One 0) ∷ (8, One 1) ∷ (9, One 3)
    ∷ (16, One 2) ∷ []) ∷ ((3, One 0) ∷ (8, One 1) ∷ (9, One 3) ∷ (12, One 4) ∷ (16, One 2) ∷ []) ∷ ((3, One 0) ∷ (8, One 1) ∷ (9, One 3) ∷ (
      12,
      One
          5,
    ) ∷ (16, One 2) ∷ (17, One 6) ∷ []) ∷ ((3, One 0) ∷ (8, One 1) ∷ (9, One 3) ∷ (12, One 7) ∷ (16, One 2) ∷ []) ∷ ((3, One 0) ∷ (8, One 1) ∷ (
      9,
      One 3,
    ) ∷ (16, One 2) ∷ (23, One 8) ∷ (24, One 9) ∷ []) ∷ [])) (0 ∷ 1 ∷ [])

abbrev pub sample_10_array_final_formed : Global → Type 0
sample_10_array_final_formed h = IsWellFormed (built h sample_10_array_final_program)

abbrev pub sample_10_array_final_shows : Global → Type 0
sample_10_array_final_shows h =
    shown (run_of (built h sample_10_array_final_program) 2000 granted) ≡ record {
      bytes = lines (codes " v 2" ∷ codes " e" ∷ []);
      verdict = Finished;
    }

-- These programs make sense, print this and end so.
abbrev pub Meant2Show : Type 0
Meant2Show = (h : Global) →
    kinds_06_do_formed h
    × kinds_06_do_shows h
    × machine_01_sections_formed h
    × machine_01_sections_shows h
    × machine_02_depth_formed h
    × machine_02_depth_shows h
    × modules_01_rename_formed h
    × modules_01_rename_shows h
    × modules_02_two_names_formed h
    × modules_02_two_names_shows h
    × sample_02_print_formed h
    × sample_02_print_shows h
    × sample_04_bump_formed h
    × sample_04_bump_shows h
    × sample_06_whole_object_formed h
    × sample_06_whole_object_shows h
    × sample_07_bounds_formed h
    × sample_07_bounds_shows h
    × sample_08_zero_extent_formed h
    × sample_08_zero_extent_shows h
    × sample_09_finals_formed h
    × sample_09_finals_shows h
    × sample_10_array_final_formed h
    × sample_10_array_final_shows h
