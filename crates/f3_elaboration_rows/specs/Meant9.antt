-- Programs, each in the text above it, elaborated, and what they print.
use Rattle.std.specs.Prelude.{◌≡◌, true, false, [], ◌∷◌, None, Some, codes}
use Rattle.std.specs.declared.alloc.Global.{Global}
use Rattle.f3_lookups.specs.declared.lookup.Lookup.TheVariants.{One}
use Rattle.f3_tree.specs.declared.expression.Sign.TheVariants.{Minus}
use Rattle.f3_tree.specs.declared.expression.Relation.TheVariants as r
use Rattle.f3_tree.specs.declared.expression.Operator.TheVariants as o
use Rattle.f3_tree.specs.declared.expression.IntegerKind.TheVariants.{Four}
use Rattle.f3_tree.specs.declared.declaration.Intent.TheVariants.{In, InOut}
use Rattle.f3_tree.specs.declared.declaration.TypeSpecifier.TheVariants.{Integer, Derived}
use Rattle.f3_tree.specs.declared.program.ProcedureKind.TheVariants.{Subroutine}
use Rattle.f3_tree.specs.declared.program.UnitKind.TheVariants as u
use Rattle.f3_tree.specs.Expressions.{truth, text, designator, array, signed, comparison, chain, no_more, more, no_trees, trees, no_parts, parts}
use Rattle.f3_tree.specs.Expressions.{bare, within, no_arguments, arguments, value, triplet, absent, present}
use Rattle.f3_tree.specs.Declarations.{explicit, deferred, allocatable, intent, declares}
use Rattle.f3_tree.specs.Statements.{assign, call, allocate, deallocate, print}
use Rattle.f3_tree.specs.Statements.{counted, while, acts, acts_if, branches, repeats, no_statements, statements}
use Rattle.f3_tree.specs.Statements.{no_branches, branch, no_alternative}
use Rattle.f3_meaning_whole.specs.Run.{run_of, runs}
use Rattle.f3_meaning_rows.specs.Shown.{shown, lines, granted, refusing, Finished, Failed, Unfinished}
use Rattle.f3_elaboration.specs.Nodes.{ProgramNode}
use Rattle.f3_elaboration.specs.Program.{elaborated}
use Rattle.f3_elaboration_rows.specs.Trees.{at, name, four, bounds, entity, declaration, type_definition, procedure, unit, program, looks}
use Rattle.f3_elaboration_rows.specs.Built.{built}
use Rattle.f3_meaning_whole.specs.Formed.{IsWellFormed}

--     program p; integer, allocatable :: a(:); deallocate(a); end
abbrev pub usage_79_deallocate_nothing_program : ProgramNode
usage_79_deallocate_nothing_program = elaborated
    (program (codes "program" ∷ codes "p" ∷ codes "integer" ∷ codes "allocatable" ∷ codes "a" ∷ codes "deallocate" ∷ codes "end" ∷ []) [] ((unit (at
    1 1) u.Program (name 1 1 9) ((declares (declaration (Integer Four) (allocatable ∷ []) ((entity (name 4 1 36) (Some (deferred (None ∷ []))) None)
    ∷ []))) ∷ []) (statements (acts (at 1 42) (deallocate ((parts (name 4 1 53) bare no_parts) ∷ []) None)) no_statements) [] (at 1 57)) ∷ []))
    (looks (((4, One 0) ∷ []) ∷ [])) (0 ∷ [])

abbrev pub usage_79_deallocate_nothing_formed : Global → Type 0
usage_79_deallocate_nothing_formed h = IsWellFormed (built h usage_79_deallocate_nothing_program)

abbrev pub usage_79_deallocate_nothing_shows : Global → Type 0
usage_79_deallocate_nothing_shows h =
    shown (run_of (built h usage_79_deallocate_nothing_program) 2000 granted) ≡ record { bytes = lines []; verdict = Failed 4 1 42 }

--     program p; integer, allocatable :: a(:,:); allocate(a(4096, 4097)); end
abbrev pub usage_80_allocate_too_large_program : ProgramNode
usage_80_allocate_too_large_program = elaborated
    (program (codes "program" ∷ codes "p" ∷ codes "integer" ∷ codes "allocatable" ∷ codes "a" ∷ codes "allocate" ∷ codes "end" ∷ []) [] ((unit (at 1
    1) u.Program (name 1 1 9) ((declares (declaration (Integer Four) (allocatable ∷ []) ((entity (name 4 1 36) (Some (deferred (None ∷ None ∷ [])))
    None) ∷ []))) ∷ []) (statements (acts (at 1 44) (allocate ((parts (name 4 1 53) (within (arguments (value None (four (at 1 55) 4096)) (arguments
    (value None (four (at 1 61) 4097)) no_arguments))) no_parts) ∷ []) None)) no_statements) [] (at 1 69)) ∷ [])) (looks (((4, One 0) ∷ []) ∷ [])) (0
    ∷ [])

abbrev pub usage_80_allocate_too_large_formed : Global → Type 0
usage_80_allocate_too_large_formed h = IsWellFormed (built h usage_80_allocate_too_large_program)

abbrev pub usage_80_allocate_too_large_shows : Global → Type 0
usage_80_allocate_too_large_shows h =
    shown (run_of (built h usage_80_allocate_too_large_program) 2000 granted) ≡ record { bytes = lines []; verdict = Failed 11 1 44 }

--     program p; integer, allocatable :: a(:); integer :: s; s = 1
--     allocate(a(1000), stat=s); print *, s, allocated(a)
--     end
abbrev pub refused_with_stat_program : ProgramNode
refused_with_stat_program = elaborated
    (program (codes "program" ∷ codes "p" ∷ codes "integer" ∷ codes "allocatable" ∷ codes "a" ∷ codes "s" ∷ codes "allocate" ∷ codes "stat" ∷
    codes "print" ∷ codes "allocated" ∷ codes "end" ∷ []) [] ((unit (at 1 1) u.Program (name 1 1 9) ((declares (declaration (Integer Four)
    (allocatable ∷ []) ((entity (name 4 1 36) (Some (deferred (None ∷ []))) None) ∷ []))) ∷ (declares (declaration (Integer Four) [] ((entity (name 5
    1 53) None None) ∷ []))) ∷ []) (statements (acts (at 1 56) (assign (parts (name 5 1 56) bare no_parts) (four (at 1 60) 1))) (statements (acts (at
    2 1) (allocate ((parts (name 4 2 10) (within (arguments (value None (four (at 2 12) 1000)) no_arguments)) no_parts) ∷ []) (Some (parts (name 5 2
    24) bare no_parts)))) (statements (acts (at 2 28) (print ((designator (parts (name 5 2 37) bare no_parts)) ∷ (designator (parts (name 9 2 40)
    (within (arguments (value None (designator (parts (name 4 2 50) bare no_parts))) no_arguments)) no_parts)) ∷ []))) no_statements))) [] (at 3 1))
    ∷ [])) (looks (((4, One 0) ∷ (5, One 1) ∷ []) ∷ [])) (0 ∷ [])

abbrev pub refused_with_stat_formed : Global → Type 0
refused_with_stat_formed h = IsWellFormed (built h refused_with_stat_program)

abbrev pub refused_with_stat_shows : Global → Type 0
refused_with_stat_shows h =
    shown (run_of (built h refused_with_stat_program) 20 (refusing (2 ∷ []))) ≡ record { bytes = lines (codes " 6 F" ∷ []); verdict = Finished }

--     program p; integer, allocatable :: a(:); integer :: s; s = 1
--     allocate(a(1000), stat=s); print *, s, allocated(a)
--     end
abbrev pub not_refused_program : ProgramNode
not_refused_program = elaborated
    (program (codes "program" ∷ codes "p" ∷ codes "integer" ∷ codes "allocatable" ∷ codes "a" ∷ codes "s" ∷ codes "allocate" ∷ codes "stat" ∷
    codes "print" ∷ codes "allocated" ∷ codes "end" ∷ []) [] ((unit (at 1 1) u.Program (name 1 1 9) ((declares (declaration (Integer Four)
    (allocatable ∷ []) ((entity (name 4 1 36) (Some (deferred (None ∷ []))) None) ∷ []))) ∷ (declares (declaration (Integer Four) [] ((entity (name 5
    1 53) None None) ∷ []))) ∷ []) (statements (acts (at 1 56) (assign (parts (name 5 1 56) bare no_parts) (four (at 1 60) 1))) (statements (acts (at
    2 1) (allocate ((parts (name 4 2 10) (within (arguments (value None (four (at 2 12) 1000)) no_arguments)) no_parts) ∷ []) (Some (parts (name 5 2
    24) bare no_parts)))) (statements (acts (at 2 28) (print ((designator (parts (name 5 2 37) bare no_parts)) ∷ (designator (parts (name 9 2 40)
    (within (arguments (value None (designator (parts (name 4 2 50) bare no_parts))) no_arguments)) no_parts)) ∷ []))) no_statements))) [] (at 3 1))
    ∷ [])) (looks (((4, One 0) ∷ (5, One 1) ∷ []) ∷ [])) (0 ∷ [])

abbrev pub not_refused_formed : Global → Type 0
not_refused_formed h = IsWellFormed (built h not_refused_program)

abbrev pub not_refused_shows : Global → Type 0
not_refused_shows h =
    shown (run_of (built h not_refused_program) 20 (refusing (3 ∷ []))) ≡ record { bytes = lines (codes " 0 T" ∷ []); verdict = Finished }

--     program p; integer, allocatable :: a(:); integer :: s; s = 1
--     allocate(a(1000)); print *, s, allocated(a)
--     end
abbrev pub refused_without_stat_program : ProgramNode
refused_without_stat_program = elaborated
    (program (codes "program" ∷ codes "p" ∷ codes "integer" ∷ codes "allocatable" ∷ codes "a" ∷ codes "s" ∷ codes "allocate" ∷ codes "print" ∷
    codes "allocated" ∷ codes "end" ∷ []) [] ((unit (at 1 1) u.Program (name 1 1 9) ((declares (declaration (Integer Four) (allocatable ∷ [])
    ((entity (name 4 1 36) (Some (deferred (None ∷ []))) None) ∷ []))) ∷ (declares (declaration (Integer Four) [] ((entity (name 5 1 53) None None) ∷
    []))) ∷ []) (statements (acts (at 1 56) (assign (parts (name 5 1 56) bare no_parts) (four (at 1 60) 1))) (statements (acts (at 2 1) (allocate
    ((parts (name 4 2 10) (within (arguments (value None (four (at 2 12) 1000)) no_arguments)) no_parts) ∷ []) None)) (statements (acts (at 2 20)
    (print ((designator (parts (name 5 2 29) bare no_parts)) ∷ (designator (parts (name 8 2 32) (within (arguments (value None (designator (parts
    (name 4 2 42) bare no_parts))) no_arguments)) no_parts)) ∷ []))) no_statements))) [] (at 3 1)) ∷ [])) (looks (((4, One 0) ∷ (5, One 1) ∷ []) ∷
    [])) (0 ∷ [])

abbrev pub refused_without_stat_formed : Global → Type 0
refused_without_stat_formed h = IsWellFormed (built h refused_without_stat_program)

abbrev pub refused_without_stat_shows : Global → Type 0
refused_without_stat_shows h =
    shown (run_of (built h refused_without_stat_program) 20 (refusing (2 ∷ []))) ≡ record { bytes = []; verdict = Failed 6 2 1 }

--     program p; do while (.true.); print *, 1; end do; end
abbrev pub three_turns_program : ProgramNode
three_turns_program = elaborated
    (program (codes "program" ∷ codes "p" ∷ codes "do" ∷ codes "while" ∷ codes "print" ∷ codes "end" ∷ []) [] ((unit (at 1 1) u.Program (name 1 1 9)
    [] (statements (repeats (at 1 12) (while (truth (at 1 22) true)) (statements (acts (at 1 31) (print ((four (at 1 40) 1) ∷ []))) no_statements))
    no_statements) [] (at 1 51)) ∷ [])) (looks ([] ∷ [])) (0 ∷ [])

abbrev pub three_turns_formed : Global → Type 0
three_turns_formed h = IsWellFormed (built h three_turns_program)

abbrev pub three_turns_shows : Global → Type 0
three_turns_shows h =
    shown (run_of (built h three_turns_program) 3 granted) ≡ record {
      bytes = lines (codes " 1" ∷ codes " 1" ∷ codes " 1" ∷ []);
      verdict = Unfinished;
    }

--     program p; print *, 1; end
abbrev pub no_room_to_start_program : ProgramNode
no_room_to_start_program = elaborated
    (program (codes "program" ∷ codes "p" ∷ codes "print" ∷ codes "end" ∷ []) [] ((unit (at 1 1) u.Program (name 1 1 9) [] (statements (acts (at 1
    12) (print ((four (at 1 21) 1) ∷ []))) no_statements) [] (at 1 24)) ∷ [])) (looks ([] ∷ [])) (0 ∷ [])

abbrev pub no_room_to_start_formed : Global → Type 0
no_room_to_start_formed h = IsWellFormed (built h no_room_to_start_program)

abbrev pub no_room_to_start_shows : Global → Type 0
no_room_to_start_shows h =
    shown (run_of (built h no_room_to_start_program) 3 (refusing (1 ∷ []))) ≡ record { bytes = []; verdict = Failed 6 1 1 }

--     module m; contains
--     subroutine s(); print *, 2; end
--     end
--     program p; use m; print *, 1
--     call s()
--     end
abbrev pub no_room_for_a_call_program : ProgramNode
no_room_for_a_call_program = elaborated
    (program (codes "module" ∷ codes "m" ∷ codes "contains" ∷ codes "subroutine" ∷ codes "s" ∷ codes "print" ∷ codes "end" ∷ codes "program" ∷
    codes "p" ∷ codes "use" ∷ codes "call" ∷ []) [] ((unit (at 1 1) u.Module (name 1 1 8) [] no_statements ((procedure false Subroutine (name 4 2 12)
    [] [] (statements (acts (at 2 17) (print ((four (at 2 26) 2) ∷ []))) no_statements) (at 2 29)) ∷ []) (at 3 1)) ∷ (unit (at 4 1) u.Program (name 8
    4 9) [] (statements (acts (at 4 19) (print ((four (at 4 28) 1) ∷ []))) (statements (acts (at 5 1) (call (name 4 5 6) [])) no_statements)) [] (at
    6 1)) ∷ [])) (looks (((4, One 0) ∷ []) ∷ ((4, One 0) ∷ []) ∷ ((4, One 0) ∷ []) ∷ [])) (0 ∷ 1 ∷ [])

abbrev pub no_room_for_a_call_formed : Global → Type 0
no_room_for_a_call_formed h = IsWellFormed (built h no_room_for_a_call_program)

abbrev pub no_room_for_a_call_shows : Global → Type 0
no_room_for_a_call_shows h =
    shown (run_of (built h no_room_for_a_call_program) 3 (refusing (2 ∷ []))) ≡ record { bytes = lines (codes " 1" ∷ []); verdict = Failed 6 5 1 }

--     module m; contains
--     subroutine s(n); integer, intent(in) :: n; print *, n; call s(n + 1); end
--     end
--     program p; use m; call s(1); end
abbrev pub depth_of_three_program : ProgramNode
depth_of_three_program = elaborated
    (program (codes "module" ∷ codes "m" ∷ codes "contains" ∷ codes "subroutine" ∷ codes "s" ∷ codes "n" ∷ codes "integer" ∷ codes "intent" ∷
    codes "in" ∷ codes "print" ∷ codes "call" ∷ codes "end" ∷ codes "program" ∷ codes "p" ∷ codes "use" ∷ []) [] ((unit (at 1 1) u.Module (name 1 1
    8) [] no_statements ((procedure false Subroutine (name 4 2 12) ((name 5 2 14) ∷ []) ((declares (declaration (Integer Four) ((intent In) ∷ [])
    ((entity (name 5 2 41) None None) ∷ []))) ∷ []) (statements (acts (at 2 44) (print ((designator (parts (name 5 2 53) bare no_parts)) ∷ [])))
    (statements (acts (at 2 56) (call (name 4 2 61) ((value None (chain (designator (parts (name 5 2 63) bare no_parts)) (more o.Add (four (at 2 67)
    1) no_more))) ∷ []))) no_statements)) (at 2 71)) ∷ []) (at 3 1)) ∷ (unit (at 4 1) u.Program (name 13 4 9) [] (statements (acts (at 4 19) (call
    (name 4 4 24) ((value None (four (at 4 26) 1)) ∷ []))) no_statements) [] (at 4 30)) ∷ [])) (looks (((4, One 0) ∷ []) ∷ ((4, One 0) ∷ (5, One 1) ∷
    []) ∷ ((4, One 0) ∷ []) ∷ [])) (0 ∷ 1 ∷ [])

abbrev pub depth_of_three_formed : Global → Type 0
depth_of_three_formed h = IsWellFormed (built h depth_of_three_program)

abbrev pub depth_of_three_shows : Global → Type 0
depth_of_three_shows h =
    shown (runs 3 (built h depth_of_three_program) 3 granted) ≡ record {
      bytes = lines (codes " 1" ∷ codes " 2" ∷ codes " 3" ∷ []);
      verdict = Failed
          10 2 56;
    }

--     program p; integer :: a(2); a = 1; print *, 1
--     a = a; print *, 2
--     end
abbrev pub no_room_for_a_copy_program : ProgramNode
no_room_for_a_copy_program = elaborated
    (program (codes "program" ∷ codes "p" ∷ codes "integer" ∷ codes "a" ∷ codes "print" ∷ codes "end" ∷ []) [] ((unit (at 1 1) u.Program (name 1 1 9)
    ((declares (declaration (Integer Four) [] ((entity (name 3 1 23) (Some (explicit ((bounds None (four (at 1 25) 2)) ∷ []))) None) ∷ []))) ∷ [])
    (statements (acts (at 1 29) (assign (parts (name 3 1 29) bare no_parts) (four (at 1 33) 1))) (statements (acts (at 1 36) (print ((four (at 1 45)
    1) ∷ []))) (statements (acts (at 2 1) (assign (parts (name 3 2 1) bare no_parts) (designator (parts (name 3 2 5) bare no_parts)))) (statements
    (acts (at 2 8) (print ((four (at 2 17) 2) ∷ []))) no_statements)))) [] (at 3 1)) ∷ [])) (looks (((3, One 0) ∷ []) ∷ [])) (0 ∷ [])

abbrev pub no_room_for_a_copy_formed : Global → Type 0
no_room_for_a_copy_formed h = IsWellFormed (built h no_room_for_a_copy_program)

abbrev pub no_room_for_a_copy_shows : Global → Type 0
no_room_for_a_copy_shows h =
    shown (run_of (built h no_room_for_a_copy_program) 3 (refusing (3 ∷ []))) ≡ record { bytes = lines (codes " 1" ∷ []); verdict = Failed 6 2 1 }

--     module m; type t; integer :: a(3) = [7, 8, 9]; integer :: c = 1; end type; end
--     program p; use m; type(t) :: x(4); integer :: i(3, 2), k
--     x(2:3)%c = 5; x(4)%a(2:3) = [1, 2]; x(:)%a(2) = x(4:1:-1)%c; print *, x%c, x(4)%a, x%a(2)
--     i = 0; i(:, 2) = [1, 2, 3]; i(3:1:-2, 1) = i(1:2, 2); print *, i; print *, size(i(:, 1:0)), ubound(i, 2), lbound(i(2:, 1), 1)
--     k = 4; print *, i(k - 1, 2); print *, x(1:0)%a(5)
--     end
abbrev pub corner_sections_program : ProgramNode
corner_sections_program = elaborated
    (program (codes "module" ∷ codes "m" ∷ codes "type" ∷ codes "t" ∷ codes "integer" ∷ codes "a" ∷ codes "c" ∷ codes "end" ∷ codes "program" ∷
    codes "p" ∷ codes "use" ∷ codes "x" ∷ codes "i" ∷ codes "k" ∷ codes "print" ∷ codes "size" ∷ codes "ubound" ∷ codes "lbound" ∷ []) [] ((unit (at
    1 1) u.Module (name 1 1 8) ((type_definition (name 3 1 16) None ((declaration (Integer Four) [] ((entity (name 5 1 30) (Some (explicit ((bounds
    None (four (at 1 32) 3)) ∷ []))) (Some (array (at 1 37) (trees (four (at 1 38) 7) (trees (four (at 1 41) 8) (trees (four (at 1 44) 9)
    no_trees)))))) ∷ [])) ∷ (declaration (Integer Four) [] ((entity (name 6 1 59) None (Some (four (at 1 63) 1))) ∷ [])) ∷ []) []) ∷ [])
    no_statements [] (at 1 76)) ∷ (unit (at 2 1) u.Program (name 9 2 9) ((declares (declaration (Derived (name 3 2 24)) [] ((entity (name 11 2 30)
    (Some (explicit ((bounds None (four (at 2 32) 4)) ∷ []))) None) ∷ []))) ∷ (declares (declaration (Integer Four) [] ((entity (name 12 2 47) (Some
    (explicit ((bounds None (four (at 2 49) 3)) ∷ (bounds None (four (at 2 52) 2)) ∷ []))) None) ∷ (entity (name 13 2 56) None None) ∷ []))) ∷ [])
    (statements (acts (at 3 1) (assign (parts (name 11 3 1) (within (arguments (triplet (at 3 3) (present (four (at 3 3) 2)) (present (four (at 3 5)
    3)) absent) no_arguments)) (parts (name 6 3 8) bare no_parts)) (four (at 3 12) 5))) (statements (acts (at 3 15) (assign (parts (name 11 3 15)
    (within (arguments (value None (four (at 3 17) 4)) no_arguments)) (parts (name 5 3 20) (within (arguments (triplet (at 3 22) (present (four (at 3
    22) 2)) (present (four (at 3 24) 3)) absent) no_arguments)) no_parts)) (array (at 3 29) (trees (four (at 3 30) 1) (trees (four (at 3 33) 2)
    no_trees))))) (statements (acts (at 3 37) (assign (parts (name 11 3 37) (within (arguments (triplet (at 3 39) absent absent absent)
    no_arguments)) (parts (name 5 3 42) (within (arguments (value None (four (at 3 44) 2)) no_arguments)) no_parts)) (designator (parts (name 11 3
    49) (within (arguments (triplet (at 3 51) (present (four (at 3 51) 4)) (present (four (at 3 53) 1)) (present (signed (at 3 55) Minus (four (at 3
    56) 1)))) no_arguments)) (parts (name 6 3 59) bare no_parts))))) (statements (acts (at 3 62) (print ((designator (parts (name 11 3 71) bare
    (parts (name 6 3 73) bare no_parts))) ∷ (designator (parts (name 11 3 76) (within (arguments (value None (four (at 3 78) 4)) no_arguments))
    (parts (name 5 3 81) bare no_parts))) ∷ (designator (parts (name 11 3 84) bare (parts (name 5 3 86) (within (arguments (value None (four (at 3
    88) 2)) no_arguments)) no_parts))) ∷ []))) (statements (acts (at 4 1) (assign (parts (name 12 4 1) bare no_parts) (four (at 4 5) 0))) (statements
    (acts (at 4 8) (assign (parts (name 12 4 8) (within (arguments (triplet (at 4 10) absent absent absent) (arguments (value None (four (at 4 13)
    2)) no_arguments))) no_parts) (array (at 4 18) (trees (four (at 4 19) 1) (trees (four (at 4 22) 2) (trees (four (at 4 25) 3) no_trees))))))
    (statements (acts (at 4 29) (assign (parts (name 12 4 29) (within (arguments (triplet (at 4 31) (present (four (at 4 31) 3)) (present (four (at 4
    33) 1)) (present (signed (at 4 35) Minus (four (at 4 36) 2)))) (arguments (value None (four (at 4 39) 1)) no_arguments))) no_parts) (designator
    (parts (name 12 4 44) (within (arguments (triplet (at 4 46) (present (four (at 4 46) 1)) (present (four (at 4 48) 2)) absent) (arguments (value
    None (four (at 4 51) 2)) no_arguments))) no_parts)))) (statements (acts (at 4 55) (print ((designator (parts (name 12 4 64) bare no_parts)) ∷
    []))) (statements (acts (at 4 67) (print ((designator (parts (name 15 4 76) (within (arguments (value None (designator (parts (name 12 4 81)
    (within (arguments (triplet (at 4 83) absent absent absent) (arguments (triplet (at 4 86) (present (four (at 4 86) 1)) (present (four (at 4 88)
    0)) absent) no_arguments))) no_parts))) no_arguments)) no_parts)) ∷ (designator (parts (name 16 4 93) (within (arguments (value None (designator
    (parts (name 12 4 100) bare no_parts))) (arguments (value None (four (at 4 103) 2)) no_arguments))) no_parts)) ∷ (designator (parts (name 17 4
    107) (within (arguments (value None (designator (parts (name 12 4 114) (within (arguments (triplet (at 4 116) (present (four (at 4 116) 2))
    absent absent) (arguments (value None (four (at 4 120) 1)) no_arguments))) no_parts))) (arguments (value None (four (at 4 124) 1))
    no_arguments))) no_parts)) ∷ []))) (statements (acts (at 5 1) (assign (parts (name 13 5 1) bare no_parts) (four (at 5 5) 4))) (statements (acts
    (at 5 8) (print ((designator (parts (name 12 5 17) (within (arguments (value None (chain (designator (parts (name 13 5 19) bare no_parts)) (more
    o.Subtract (four (at 5 23) 1) no_more))) (arguments (value None (four (at 5 26) 2)) no_arguments))) no_parts)) ∷ []))) (statements (acts (at 5
    30) (print ((designator (parts (name 11 5 39) (within (arguments (triplet (at 5 41) (present (four (at 5 41) 1)) (present (four (at 5 43) 0))
    absent) no_arguments)) (parts (name 5 5 46) (within (arguments (value None (four (at 5 48) 5)) no_arguments)) no_parts))) ∷ [])))
    no_statements)))))))))))) [] (at 6 1)) ∷ [])) (looks (((3, One 0) ∷ []) ∷ ((3, One 0) ∷ (11, One 1) ∷ (12, One 2) ∷ (13, One 3) ∷ []) ∷ [])) (0 ∷
    1 ∷ [])

abbrev pub corner_sections_formed : Global → Type 0
corner_sections_formed h = IsWellFormed (built h corner_sections_program)

abbrev pub corner_sections_shows : Global → Type 0
corner_sections_shows h =
    shown (run_of (built h corner_sections_program) 2000 granted) ≡ record {
      bytes = lines (codes " 1 5 5 1 7 1 2 1 5 5 1" ∷ codes " 2 0 1 1 2 3" ∷
          codes " 0 2 1" ∷ codes " 3" ∷ []);
      verdict = Failed 3 5 30;
    }

--     module m; type t; integer :: id = 0; integer, allocatable :: v(:); contains; final :: f0, f1; end type; contains
--     subroutine f0(x); type(t), intent(inout) :: x; print *, 's', x%id, allocated(x%v); end
--     subroutine f1(x); type(t), intent(inout) :: x(:); print *, 'a', size(x), x%id; if (size(x) > 1) then; if (allocated(x(2)%v)) deallocate(x(2)%v); allocate(x(2)%v(1)); end if; end
--     subroutine go(); type(t) :: a(3); type(t) :: b; integer :: k
--     do k = 1, 3; a(k)%id = k; allocate(a(k)%v(k)); a(k)%v = k; end do
--     a(1:2) = a(3); print *, a%id, a(1)%v; b = a(2); a(3)%v(1) = 9; b%id = 4; print *, b%v, a(3)%v; end
--     end
--     program p; use m; type(t), allocatable :: w(:); call go(); allocate(w(2:3)); w(2)%id = 6; w = w(3:2:-1); print *, lbound(w, 1), w%id; deallocate(w); end
abbrev pub corner_finals_of_sections_program : ProgramNode
corner_finals_of_sections_program = elaborated
    (program (codes "module" ∷ codes "m" ∷ codes "type" ∷ codes "t" ∷ codes "integer" ∷ codes "id" ∷ codes "allocatable" ∷ codes "v" ∷
    codes "contains" ∷ codes "final" ∷ codes "f0" ∷ codes "f1" ∷ codes "end" ∷ codes "subroutine" ∷ codes "x" ∷ codes "intent" ∷ codes "inout" ∷
    codes "print" ∷ codes "allocated" ∷ codes "size" ∷ codes "if" ∷ codes "then" ∷ codes "deallocate" ∷ codes "allocate" ∷ codes "go" ∷ codes "a" ∷
    codes "b" ∷ codes "k" ∷ codes "do" ∷ codes "program" ∷ codes "p" ∷ codes "use" ∷ codes "w" ∷ codes "call" ∷ codes "lbound" ∷ []) ((115 ∷ []) ∷
    (97 ∷ []) ∷ []) ((unit (at 1 1) u.Module (name 1 1 8) ((type_definition (name 3 1 16) None ((declaration (Integer Four) [] ((entity (name 5 1 30)
    None (Some (four (at 1 35) 0))) ∷ [])) ∷ (declaration (Integer Four) (allocatable ∷ []) ((entity (name 7 1 62) (Some (deferred (None ∷ [])))
    None) ∷ [])) ∷ []) ((name 10 1 87) ∷ (name 11 1 91) ∷ [])) ∷ []) no_statements ((procedure false Subroutine (name 10 2 12) ((name 14 2 15) ∷ [])
    ((declares (declaration (Derived (name 3 2 24)) ((intent InOut) ∷ []) ((entity (name 14 2 45) None None) ∷ []))) ∷ []) (statements (acts (at 2
    48) (print ((text (at 2 57) 0) ∷ (designator (parts (name 14 2 62) bare (parts (name 5 2 64) bare no_parts))) ∷ (designator (parts (name 18 2 68)
    (within (arguments (value None (designator (parts (name 14 2 78) bare (parts (name 7 2 80) bare no_parts)))) no_arguments)) no_parts)) ∷ [])))
    no_statements) (at 2 84)) ∷ (procedure false Subroutine (name 11 3 12) ((name 14 3 15) ∷ []) ((declares (declaration (Derived (name 3 3 24))
    ((intent InOut) ∷ []) ((entity (name 14 3 45) (Some (deferred (None ∷ []))) None) ∷ []))) ∷ []) (statements (acts (at 3 51) (print ((text (at 3
    60) 1) ∷ (designator (parts (name 19 3 65) (within (arguments (value None (designator (parts (name 14 3 70) bare no_parts))) no_arguments))
    no_parts)) ∷ (designator (parts (name 14 3 74) bare (parts (name 5 3 76) bare no_parts))) ∷ []))) (statements (branches (branch (at 3 80)
    (comparison (designator (parts (name 19 3 84) (within (arguments (value None (designator (parts (name 14 3 89) bare no_parts))) no_arguments))
    no_parts)) r.Greater (four (at 3 94) 1)) (statements (acts_if (at 3 103) (designator (parts (name 18 3 107) (within (arguments (value None
    (designator (parts (name 14 3 117) (within (arguments (value None (four (at 3 119) 2)) no_arguments)) (parts (name 7 3 122) bare no_parts))))
    no_arguments)) no_parts)) (at 3 126) (deallocate ((parts (name 14 3 137) (within (arguments (value None (four (at 3 139) 2)) no_arguments))
    (parts (name 7 3 142) bare no_parts)) ∷ []) None)) (statements (acts (at 3 146) (allocate ((parts (name 14 3 155) (within (arguments (value None
    (four (at 3 157) 2)) no_arguments)) (parts (name 7 3 160) (within (arguments (value None (four (at 3 162) 1)) no_arguments)) no_parts)) ∷ [])
    None)) no_statements)) no_branches) no_alternative) no_statements)) (at 3 175)) ∷ (procedure false Subroutine (name 24 4 12) [] ((declares
    (declaration (Derived (name 3 4 23)) [] ((entity (name 25 4 29) (Some (explicit ((bounds None (four (at 4 31) 3)) ∷ []))) None) ∷ []))) ∷
    (declares (declaration (Derived (name 3 4 40)) [] ((entity (name 26 4 46) None None) ∷ []))) ∷ (declares (declaration (Integer Four) [] ((entity
    (name 27 4 60) None None) ∷ []))) ∷ []) (statements (repeats (at 5 1) (counted (name 27 5 4) (four (at 5 8) 1) (four (at 5 11) 3) None)
    (statements (acts (at 5 14) (assign (parts (name 25 5 14) (within (arguments (value None (designator (parts (name 27 5 16) bare no_parts)))
    no_arguments)) (parts (name 5 5 19) bare no_parts)) (designator (parts (name 27 5 24) bare no_parts)))) (statements (acts (at 5 27) (allocate
    ((parts (name 25 5 36) (within (arguments (value None (designator (parts (name 27 5 38) bare no_parts))) no_arguments)) (parts (name 7 5 41)
    (within (arguments (value None (designator (parts (name 27 5 43) bare no_parts))) no_arguments)) no_parts)) ∷ []) None)) (statements (acts (at 5
    48) (assign (parts (name 25 5 48) (within (arguments (value None (designator (parts (name 27 5 50) bare no_parts))) no_arguments)) (parts (name 7
    5 53) bare no_parts)) (designator (parts (name 27 5 57) bare no_parts)))) no_statements)))) (statements (acts (at 6 1) (assign (parts (name 25 6
    1) (within (arguments (triplet (at 6 3) (present (four (at 6 3) 1)) (present (four (at 6 5) 2)) absent) no_arguments)) no_parts) (designator
    (parts (name 25 6 10) (within (arguments (value None (four (at 6 12) 3)) no_arguments)) no_parts)))) (statements (acts (at 6 16) (print
    ((designator (parts (name 25 6 25) bare (parts (name 5 6 27) bare no_parts))) ∷ (designator (parts (name 25 6 31) (within (arguments (value None
    (four (at 6 33) 1)) no_arguments)) (parts (name 7 6 36) bare no_parts))) ∷ []))) (statements (acts (at 6 39) (assign (parts (name 26 6 39) bare
    no_parts) (designator (parts (name 25 6 43) (within (arguments (value None (four (at 6 45) 2)) no_arguments)) no_parts)))) (statements (acts (at
    6 49) (assign (parts (name 25 6 49) (within (arguments (value None (four (at 6 51) 3)) no_arguments)) (parts (name 7 6 54) (within (arguments
    (value None (four (at 6 56) 1)) no_arguments)) no_parts)) (four (at 6 61) 9))) (statements (acts (at 6 64) (assign (parts (name 26 6 64) bare
    (parts (name 5 6 66) bare no_parts)) (four (at 6 71) 4))) (statements (acts (at 6 74) (print ((designator (parts (name 26 6 83) bare (parts (name
    7 6 85) bare no_parts))) ∷ (designator (parts (name 25 6 88) (within (arguments (value None (four (at 6 90) 3)) no_arguments)) (parts (name 7 6
    93) bare no_parts))) ∷ []))) no_statements))))))) (at 6 96)) ∷ []) (at 7 1)) ∷ (unit (at 8 1) u.Program (name 30 8 9) ((declares (declaration
    (Derived (name 3 8 24)) (allocatable ∷ []) ((entity (name 32 8 43) (Some (deferred (None ∷ []))) None) ∷ []))) ∷ []) (statements (acts (at 8 49)
    (call (name 24 8 54) [])) (statements (acts (at 8 60) (allocate ((parts (name 32 8 69) (within (arguments (triplet (at 8 71) (present (four (at 8
    71) 2)) (present (four (at 8 73) 3)) absent) no_arguments)) no_parts) ∷ []) None)) (statements (acts (at 8 78) (assign (parts (name 32 8 78)
    (within (arguments (value None (four (at 8 80) 2)) no_arguments)) (parts (name 5 8 83) bare no_parts)) (four (at 8 88) 6))) (statements (acts (at
    8 91) (assign (parts (name 32 8 91) bare no_parts) (designator (parts (name 32 8 95) (within (arguments (triplet (at 8 97) (present (four (at 8
    97) 3)) (present (four (at 8 99) 2)) (present (signed (at 8 101) Minus (four (at 8 102) 1)))) no_arguments)) no_parts)))) (statements (acts (at 8
    106) (print ((designator (parts (name 34 8 115) (within (arguments (value None (designator (parts (name 32 8 122) bare no_parts))) (arguments
    (value None (four (at 8 125) 1)) no_arguments))) no_parts)) ∷ (designator (parts (name 32 8 129) bare (parts (name 5 8 131) bare no_parts))) ∷
    []))) (statements (acts (at 8 135) (deallocate ((parts (name 32 8 146) bare no_parts) ∷ []) None)) no_statements)))))) [] (at 8 150)) ∷ []))
    (looks (((3, One 0) ∷ (10, One 1) ∷ (11, One 2) ∷ (24, One 3) ∷ []) ∷ ((3, One 0) ∷ (10, One 1) ∷ (11, One 2) ∷ (14, One 4) ∷ (24, One 3) ∷ []) ∷
    ((3, One 0) ∷ (10, One 1) ∷ (11, One 2) ∷ (14, One 5) ∷ (24, One 3) ∷ []) ∷ ((3, One 0) ∷ (10, One 1) ∷ (11, One 2) ∷ (24, One 3) ∷ (25, One 6) ∷
    (26, One 7) ∷ (27, One 8) ∷ []) ∷ ((3, One 0) ∷ (10, One 1) ∷ (11, One 2) ∷ (24, One 3) ∷ (32, One 9) ∷ []) ∷ [])) (0 ∷ 1 ∷ [])

abbrev pub corner_finals_of_sections_formed : Global → Type 0
corner_finals_of_sections_formed h = IsWellFormed (built h corner_finals_of_sections_program)

abbrev pub corner_finals_of_sections_shows : Global → Type 0
corner_finals_of_sections_shows h =
    shown (run_of (built h corner_finals_of_sections_program) 2000 granted) ≡ record {
      bytes = lines (codes " a 2 1 2" ∷ codes " 3 3 3 3 3 3" ∷
          codes " s 0 F" ∷ codes " 3 3 3 9 3 3" ∷ codes " a 3 3 3 3" ∷ codes " s 4 T" ∷ codes " a 2 6 0" ∷ codes " 2 0 6" ∷ codes " a 2 0 6" ∷ []);
      verdict
          = Finished;
    }

-- These programs make sense, print this and end so.
abbrev pub Meant9Show : Type 0
Meant9Show = (h : Global) →
    usage_79_deallocate_nothing_formed h
    × usage_79_deallocate_nothing_shows h
    × usage_80_allocate_too_large_formed h
    × usage_80_allocate_too_large_shows h
    × refused_with_stat_formed h
    × refused_with_stat_shows h
    × not_refused_formed h
    × not_refused_shows h
    × refused_without_stat_formed h
    × refused_without_stat_shows h
    × three_turns_formed h
    × three_turns_shows h
    × no_room_to_start_formed h
    × no_room_to_start_shows h
    × no_room_for_a_call_formed h
    × no_room_for_a_call_shows h
    × depth_of_three_formed h
    × depth_of_three_shows h
    × no_room_for_a_copy_formed h
    × no_room_for_a_copy_shows h
    × corner_sections_formed h
    × corner_sections_shows h
    × corner_finals_of_sections_formed h
    × corner_finals_of_sections_shows h
