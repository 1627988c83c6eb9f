-- Programs, each in the text above it, elaborated, and what they print.
use Rattle.std.specs.Prelude.{◌≡◌, false, [], ◌∷◌, None, Some, codes}
use Rattle.std.specs.declared.alloc.Global.{Global}
use Rattle.f3_lookups.specs.declared.lookup.Lookup.TheVariants.{One}
use Rattle.f3_tree.specs.declared.expression.Relation.TheVariants as r
use Rattle.f3_tree.specs.declared.expression.Operator.TheVariants as o
use Rattle.f3_tree.specs.declared.expression.IntegerKind.TheVariants.{Four}
use Rattle.f3_tree.specs.declared.declaration.Intent.TheVariants.{In, Out}
use Rattle.f3_tree.specs.declared.declaration.TypeSpecifier.TheVariants.{Integer, Derived}
use Rattle.f3_tree.specs.declared.program.ProcedureKind.TheVariants.{Subroutine}
use Rattle.f3_tree.specs.declared.program.UnitKind.TheVariants as u
use Rattle.f3_tree.specs.Expressions.{truth, designator, group, array, comparison, chain, no_more, more, no_trees, trees, no_parts, parts}
use Rattle.f3_tree.specs.Expressions.{bare, within, no_arguments, arguments, value, triplet, absent, present}
use Rattle.f3_tree.specs.Declarations.{explicit, deferred, allocatable, intent, declares}
use Rattle.f3_tree.specs.Statements.{assign, call, allocate, deallocate, print}
use Rattle.f3_tree.specs.Statements.{counted, acts, branches, repeats, associates, no_statements, statements}
use Rattle.f3_tree.specs.Statements.{no_branches, branch, no_alternative}
use Rattle.f3_meaning_whole.specs.Run.{run_of}
use Rattle.f3_meaning_rows.specs.Shown.{shown, lines, granted, Finished, Failed}
use Rattle.f3_elaboration.specs.Nodes.{ProgramNode}
use Rattle.f3_elaboration.specs.Program.{elaborated}
use Rattle.f3_elaboration_rows.specs.Trees.{at, name, four, eight, bounds, entity, declaration, type_definition, procedure, unit, association, program}
use Rattle.f3_elaboration_rows.specs.Trees.{looks}
use Rattle.f3_elaboration_rows.specs.Built.{built}
use Rattle.f3_meaning_whole.specs.Formed.{IsWellFormed}

--     program p; integer :: i; associate (z => i); do z = 1, 2; i = i; end do; print *, i; end associate; end
abbrev pub choice_50_1_program : ProgramNode
choice_50_1_program = elaborated
    (program (codes "program" ∷ codes "p" ∷ codes "integer" ∷ codes "i" ∷ codes "associate" ∷ codes "z" ∷ codes "do" ∷ codes "end" ∷ codes "print" ∷
    []) [] ((unit (at 1 1) u.Program (name 1 1 9) ((declares (declaration (Integer Four) [] ((entity (name 3 1 23) None None) ∷ []))) ∷ [])
    (statements (associates (at 1 26) ((association (name 5 1 37) (designator (parts (name 3 1 42) bare no_parts))) ∷ []) (statements (repeats (at 1
    46) (counted (name 5 1 49) (four (at 1 53) 1) (four (at 1 56) 2) None) (statements (acts (at 1 59) (assign (parts (name 3 1 59) bare no_parts)
    (designator (parts (name 3 1 63) bare no_parts)))) no_statements)) (statements (acts (at 1 74) (print ((designator (parts (name 3 1 83) bare
    no_parts)) ∷ []))) no_statements))) no_statements) [] (at 1 101)) ∷ [])) (looks (((3, One 0) ∷ []) ∷ ((3, One 0) ∷ (5, One 1) ∷ []) ∷ [])) (0 ∷
    [])

abbrev pub choice_50_1_formed : Global → Type 0
choice_50_1_formed h = IsWellFormed (built h choice_50_1_program)

abbrev pub choice_50_1_shows : Global → Type 0
choice_50_1_shows h =
    shown (run_of (built h choice_50_1_program) 2000 granted) ≡ record { bytes = lines (codes " 3" ∷ []); verdict = Finished }

--     program p; integer, allocatable :: a(:); allocate(a(5:4)); print *, size(a(:2)); end
abbrev pub choice_52_1_program : ProgramNode
choice_52_1_program = elaborated
    (program (codes "program" ∷ codes "p" ∷ codes "integer" ∷ codes "allocatable" ∷ codes "a" ∷ codes "allocate" ∷ codes "print" ∷ codes "size" ∷
    codes "end" ∷ []) [] ((unit (at 1 1) u.Program (name 1 1 9) ((declares (declaration (Integer Four) (allocatable ∷ []) ((entity (name 4 1 36)
    (Some (deferred (None ∷ []))) None) ∷ []))) ∷ []) (statements (acts (at 1 42) (allocate ((parts (name 4 1 51) (within (arguments (triplet (at 1
    53) (present (four (at 1 53) 5)) (present (four (at 1 55) 4)) absent) no_arguments)) no_parts) ∷ []) None)) (statements (acts (at 1 60) (print
    ((designator (parts (name 7 1 69) (within (arguments (value None (designator (parts (name 4 1 74) (within (arguments (triplet (at 1 76) absent
    (present (four (at 1 77) 2)) absent) no_arguments)) no_parts))) no_arguments)) no_parts)) ∷ []))) no_statements)) [] (at 1 82)) ∷ [])) (looks
    (((4, One 0) ∷ []) ∷ [])) (0 ∷ [])

abbrev pub choice_52_1_formed : Global → Type 0
choice_52_1_formed h = IsWellFormed (built h choice_52_1_program)

abbrev pub choice_52_1_shows : Global → Type 0
choice_52_1_shows h =
    shown (run_of (built h choice_52_1_program) 2000 granted) ≡ record { bytes = lines (codes " 0" ∷ []); verdict = Finished }

--     program p; integer, allocatable :: a(:); allocate(a(5:4)); print *, size(a(2:)); end
abbrev pub choice_52_2_program : ProgramNode
choice_52_2_program = elaborated
    (program (codes "program" ∷ codes "p" ∷ codes "integer" ∷ codes "allocatable" ∷ codes "a" ∷ codes "allocate" ∷ codes "print" ∷ codes "size" ∷
    codes "end" ∷ []) [] ((unit (at 1 1) u.Program (name 1 1 9) ((declares (declaration (Integer Four) (allocatable ∷ []) ((entity (name 4 1 36)
    (Some (deferred (None ∷ []))) None) ∷ []))) ∷ []) (statements (acts (at 1 42) (allocate ((parts (name 4 1 51) (within (arguments (triplet (at 1
    53) (present (four (at 1 53) 5)) (present (four (at 1 55) 4)) absent) no_arguments)) no_parts) ∷ []) None)) (statements (acts (at 1 60) (print
    ((designator (parts (name 7 1 69) (within (arguments (value None (designator (parts (name 4 1 74) (within (arguments (triplet (at 1 76) (present
    (four (at 1 76) 2)) absent absent) no_arguments)) no_parts))) no_arguments)) no_parts)) ∷ []))) no_statements)) [] (at 1 82)) ∷ [])) (looks (((
      4,
      One 0,
    ) ∷ []) ∷ [])) (0 ∷ [])

abbrev pub choice_52_2_formed : Global → Type 0
choice_52_2_formed h = IsWellFormed (built h choice_52_2_program)

abbrev pub choice_52_2_shows : Global → Type 0
choice_52_2_shows h =
    shown (run_of (built h choice_52_2_program) 2000 granted) ≡ record { bytes = lines []; verdict = Failed 3 1 60 }

--     program p; use m; integer, allocatable :: a; call s(a, 1/0); end
--     module m; contains; subroutine s(x, y); integer, intent(in) :: x, y; end; end
abbrev pub choice_53_1_program : ProgramNode
choice_53_1_program = elaborated
    (program (codes "program" ∷ codes "p" ∷ codes "use" ∷ codes "m" ∷ codes "integer" ∷ codes "allocatable" ∷ codes "a" ∷ codes "call" ∷ codes "s" ∷
    codes "end" ∷ codes "module" ∷ codes "contains" ∷ codes "subroutine" ∷ codes "x" ∷ codes "y" ∷ codes "intent" ∷ codes "in" ∷ []) [] ((unit (at 1
    1) u.Program (name 1 1 9) ((declares (declaration (Integer Four) (allocatable ∷ []) ((entity (name 6 1 43) None None) ∷ []))) ∷ []) (statements
    (acts (at 1 46) (call (name 8 1 51) ((value None (designator (parts (name 6 1 53) bare no_parts))) ∷ (value None (chain (four (at 1 56) 1) (more
    o.Divide (four (at 1 58) 0) no_more))) ∷ []))) no_statements) [] (at 1 62)) ∷ (unit (at 2 1) u.Module (name 3 2 8) [] no_statements ((procedure
    false Subroutine (name 8 2 32) ((name 13 2 34) ∷ (name 14 2 37) ∷ []) ((declares (declaration (Integer Four) ((intent In) ∷ []) ((entity (name 13
    2 64) None None) ∷ (entity (name 14 2 67) None None) ∷ []))) ∷ []) no_statements (at 2 70)) ∷ []) (at 2 75)) ∷ [])) (looks (((6, One 0) ∷ (
      8,
      One
          1,
    ) ∷ []) ∷ ((8, One 1) ∷ []) ∷ ((8, One 1) ∷ (13, One 2) ∷ (14, One 3) ∷ []) ∷ [])) (1 ∷ 0 ∷ [])

abbrev pub choice_53_1_formed : Global → Type 0
choice_53_1_formed h = IsWellFormed (built h choice_53_1_program)

abbrev pub choice_53_1_shows : Global → Type 0
choice_53_1_shows h =
    shown (run_of (built h choice_53_1_program) 2000 granted) ≡ record { bytes = lines []; verdict = Failed 4 1 46 }

--     program p; integer, allocatable :: a(:); print *, size(a, 1/0); end
abbrev pub choice_54_1_program : ProgramNode
choice_54_1_program = elaborated
    (program (codes "program" ∷ codes "p" ∷ codes "integer" ∷ codes "allocatable" ∷ codes "a" ∷ codes "print" ∷ codes "size" ∷ codes "end" ∷ []) []
    ((unit (at 1 1) u.Program (name 1 1 9) ((declares (declaration (Integer Four) (allocatable ∷ []) ((entity (name 4 1 36) (Some (deferred (None ∷
    []))) None) ∷ []))) ∷ []) (statements (acts (at 1 42) (print ((designator (parts (name 6 1 51) (within (arguments (value None (designator (parts
    (name 4 1 56) bare no_parts))) (arguments (value None (chain (four (at 1 59) 1) (more o.Divide (four (at 1 61) 0) no_more))) no_arguments)))
    no_parts)) ∷ []))) no_statements) [] (at 1 65)) ∷ [])) (looks (((4, One 0) ∷ []) ∷ [])) (0 ∷ [])

abbrev pub choice_54_1_formed : Global → Type 0
choice_54_1_formed h = IsWellFormed (built h choice_54_1_program)

abbrev pub choice_54_1_shows : Global → Type 0
choice_54_1_shows h =
    shown (run_of (built h choice_54_1_program) 2000 granted) ≡ record { bytes = lines []; verdict = Failed 4 1 42 }

--     program p; integer :: a(2); a = [3000000000_8, 1_8, 1_8]; end
abbrev pub choice_56_1_program : ProgramNode
choice_56_1_program = elaborated
    (program (codes "program" ∷ codes "p" ∷ codes "integer" ∷ codes "a" ∷ codes "end" ∷ []) [] ((unit (at 1 1) u.Program (name 1 1 9) ((declares
    (declaration (Integer Four) [] ((entity (name 3 1 23) (Some (explicit ((bounds None (four (at 1 25) 2)) ∷ []))) None) ∷ []))) ∷ []) (statements
    (acts (at 1 29) (assign (parts (name 3 1 29) bare no_parts) (array (at 1 33) (trees (eight (at 1 34) 3000000000) (trees (eight (at 1 48) 1)
    (trees (eight (at 1 53) 1) no_trees)))))) no_statements) [] (at 1 59)) ∷ [])) (looks (((3, One 0) ∷ []) ∷ [])) (0 ∷ [])

abbrev pub choice_56_1_formed : Global → Type 0
choice_56_1_formed h = IsWellFormed (built h choice_56_1_program)

abbrev pub choice_56_1_shows : Global → Type 0
choice_56_1_shows h =
    shown (run_of (built h choice_56_1_program) 2000 granted) ≡ record { bytes = lines []; verdict = Failed 7 1 29 }

--     program p; integer :: i; do i = 3000000000_8, 1/0; end do; end
abbrev pub choice_57_1_program : ProgramNode
choice_57_1_program = elaborated
    (program (codes "program" ∷ codes "p" ∷ codes "integer" ∷ codes "i" ∷ codes "do" ∷ codes "end" ∷ []) [] ((unit (at 1 1) u.Program (name 1 1 9)
    ((declares (declaration (Integer Four) [] ((entity (name 3 1 23) None None) ∷ []))) ∷ []) (statements (repeats (at 1 26) (counted (name 3 1 29)
    (eight (at 1 33) 3000000000) (chain (four (at 1 47) 1) (more o.Divide (four (at 1 49) 0) no_more)) None) no_statements) no_statements) [] (at 1
    60)) ∷ [])) (looks (((3, One 0) ∷ []) ∷ [])) (0 ∷ [])

abbrev pub choice_57_1_formed : Global → Type 0
choice_57_1_formed h = IsWellFormed (built h choice_57_1_program)

abbrev pub choice_57_1_shows : Global → Type 0
choice_57_1_shows h =
    shown (run_of (built h choice_57_1_program) 2000 granted) ≡ record { bytes = lines []; verdict = Failed 1 1 26 }

--     module m; integer :: i; contains; subroutine s(); i = i + 10; end; end
--     program p; use m; do i = 1, 3; call s(); print *, i; end do; end
abbrev pub choice_58_1_program : ProgramNode
choice_58_1_program = elaborated
    (program (codes "module" ∷ codes "m" ∷ codes "integer" ∷ codes "i" ∷ codes "contains" ∷ codes "subroutine" ∷ codes "s" ∷ codes "end" ∷
    codes "program" ∷ codes "p" ∷ codes "use" ∷ codes "do" ∷ codes "call" ∷ codes "print" ∷ []) [] ((unit (at 1 1) u.Module (name 1 1 8) ((declares
    (declaration (Integer Four) [] ((entity (name 3 1 22) None None) ∷ []))) ∷ []) no_statements ((procedure false Subroutine (name 6 1 46) [] []
    (statements (acts (at 1 51) (assign (parts (name 3 1 51) bare no_parts) (chain (designator (parts (name 3 1 55) bare no_parts)) (more o.Add (four
    (at 1 59) 10) no_more)))) no_statements) (at 1 63)) ∷ []) (at 1 68)) ∷ (unit (at 2 1) u.Program (name 9 2 9) [] (statements (repeats (at 2 19)
    (counted (name 3 2 22) (four (at 2 26) 1) (four (at 2 29) 3) None) (statements (acts (at 2 32) (call (name 6 2 37) [])) (statements (acts (at 2
    42) (print ((designator (parts (name 3 2 51) bare no_parts)) ∷ []))) no_statements))) no_statements) [] (at 2 62)) ∷ [])) (looks (((3, One 0) ∷
    (6, One 1) ∷ []) ∷ ((3, One 0) ∷ (6, One 1) ∷ []) ∷ ((3, One 0) ∷ (6, One 1) ∷ []) ∷ [])) (0 ∷ 1 ∷ [])

abbrev pub choice_58_1_formed : Global → Type 0
choice_58_1_formed h = IsWellFormed (built h choice_58_1_program)

abbrev pub choice_58_1_shows : Global → Type 0
choice_58_1_shows h =
    shown (run_of (built h choice_58_1_program) 2000 granted) ≡ record {
      bytes = lines (codes " 11" ∷ codes " 22" ∷ codes " 33" ∷ []);
      verdict =
          Finished;
    }

--     program p; if (.false.) then
--     else if (1/0 == 1) then
--     end if; end
abbrev pub choice_59_1_program : ProgramNode
choice_59_1_program = elaborated
    (program (codes "program" ∷ codes "p" ∷ codes "if" ∷ codes "then" ∷ codes "else" ∷ codes "end" ∷ []) [] ((unit (at 1 1) u.Program (name 1 1 9) []
    (statements (branches (branch (at 1 12) (truth (at 1 16) false) no_statements (branch (at 2 1) (comparison (chain (four (at 2 10) 1) (more
    o.Divide (four (at 2 12) 0) no_more)) r.Equal (four (at 2 17) 1)) no_statements no_branches)) no_alternative) no_statements) [] (at 3 9)) ∷ []))
    (looks ([] ∷ [])) (0 ∷ [])

abbrev pub choice_59_1_formed : Global → Type 0
choice_59_1_formed h = IsWellFormed (built h choice_59_1_program)

abbrev pub choice_59_1_shows : Global → Type 0
choice_59_1_shows h =
    shown (run_of (built h choice_59_1_program) 2000 granted) ≡ record { bytes = lines []; verdict = Failed 2 2 1 }

--     module m; type t; integer :: i; contains; final :: f; end type; contains; subroutine f(x); type(t), intent(in) :: x(:); print *, size(x); end; end
--     program p; use m; type(t), allocatable :: v(:); allocate(v(0)); deallocate(v); end
abbrev pub choice_61_1_program : ProgramNode
choice_61_1_program = elaborated
    (program (codes "module" ∷ codes "m" ∷ codes "type" ∷ codes "t" ∷ codes "integer" ∷ codes "i" ∷ codes "contains" ∷ codes "final" ∷ codes "f" ∷
    codes "end" ∷ codes "subroutine" ∷ codes "x" ∷ codes "intent" ∷ codes "in" ∷ codes "print" ∷ codes "size" ∷ codes "program" ∷ codes "p" ∷
    codes "use" ∷ codes "allocatable" ∷ codes "v" ∷ codes "allocate" ∷ codes "deallocate" ∷ []) [] ((unit (at 1 1) u.Module (name 1 1 8)
    ((type_definition (name 3 1 16) None ((declaration (Integer Four) [] ((entity (name 5 1 30) None None) ∷ [])) ∷ []) ((name 8 1 52) ∷ [])) ∷ [])
    no_statements ((procedure false Subroutine (name 8 1 86) ((name 11 1 88) ∷ []) ((declares (declaration (Derived (name 3 1 97)) ((intent In) ∷ [])
    ((entity (name 11 1 115) (Some (deferred (None ∷ []))) None) ∷ []))) ∷ []) (statements (acts (at 1 121) (print ((designator (parts (name 15 1
    130) (within (arguments (value None (designator (parts (name 11 1 135) bare no_parts))) no_arguments)) no_parts)) ∷ []))) no_statements) (at 1
    139)) ∷ []) (at 1 144)) ∷ (unit (at 2 1) u.Program (name 17 2 9) ((declares (declaration (Derived (name 3 2 24)) (allocatable ∷ []) ((entity
    (name 20 2 43) (Some (deferred (None ∷ []))) None) ∷ []))) ∷ []) (statements (acts (at 2 49) (allocate ((parts (name 20 2 58) (within (arguments
    (value None (four (at 2 60) 0)) no_arguments)) no_parts) ∷ []) None)) (statements (acts (at 2 65) (deallocate ((parts (name 20 2 76) bare
    no_parts) ∷ []) None)) no_statements)) [] (at 2 80)) ∷ [])) (looks (((3, One 0) ∷ (8, One 1) ∷ []) ∷ ((3, One 0) ∷ (8, One 1) ∷ (11, One 2) ∷ [])
    ∷ ((3, One 0) ∷ (8, One 1) ∷ (20, One 3) ∷ []) ∷ [])) (0 ∷ 1 ∷ [])

abbrev pub choice_61_1_formed : Global → Type 0
choice_61_1_formed h = IsWellFormed (built h choice_61_1_program)

abbrev pub choice_61_1_shows : Global → Type 0
choice_61_1_shows h =
    shown (run_of (built h choice_61_1_program) 2000 granted) ≡ record { bytes = lines (codes " 0" ∷ []); verdict = Finished }

--     program p; use m; integer :: i; i = 5; call s(i); print *, i; end
--     module m; contains; subroutine s(x); integer, intent(out) :: x; end; end
abbrev pub choice_62_1_program : ProgramNode
choice_62_1_program = elaborated
    (program (codes "program" ∷ codes "p" ∷ codes "use" ∷ codes "m" ∷ codes "integer" ∷ codes "i" ∷ codes "call" ∷ codes "s" ∷ codes "print" ∷
    codes "end" ∷ codes "module" ∷ codes "contains" ∷ codes "subroutine" ∷ codes "x" ∷ codes "intent" ∷ codes "out" ∷ []) [] ((unit (at 1 1)
    u.Program (name 1 1 9) ((declares (declaration (Integer Four) [] ((entity (name 5 1 30) None None) ∷ []))) ∷ []) (statements (acts (at 1 33)
    (assign (parts (name 5 1 33) bare no_parts) (four (at 1 37) 5))) (statements (acts (at 1 40) (call (name 7 1 45) ((value None (designator (parts
    (name 5 1 47) bare no_parts))) ∷ []))) (statements (acts (at 1 51) (print ((designator (parts (name 5 1 60) bare no_parts)) ∷ [])))
    no_statements))) [] (at 1 63)) ∷ (unit (at 2 1) u.Module (name 3 2 8) [] no_statements ((procedure false Subroutine (name 7 2 32) ((name 13 2 34)
    ∷ []) ((declares (declaration (Integer Four) ((intent Out) ∷ []) ((entity (name 13 2 62) None None) ∷ []))) ∷ []) no_statements (at 2 65)) ∷ [])
    (at 2 70)) ∷ [])) (looks (((5, One 0) ∷ (7, One 1) ∷ []) ∷ ((7, One 1) ∷ []) ∷ ((7, One 1) ∷ (13, One 2) ∷ []) ∷ [])) (1 ∷ 0 ∷ [])

abbrev pub choice_62_1_formed : Global → Type 0
choice_62_1_formed h = IsWellFormed (built h choice_62_1_program)

abbrev pub choice_62_1_shows : Global → Type 0
choice_62_1_shows h =
    shown (run_of (built h choice_62_1_program) 2000 granted) ≡ record { bytes = lines (codes " 0" ∷ []); verdict = Finished }

--     module m; type t; integer, allocatable :: a(:); end type; end
--     program p; use m; type(t) :: x; integer, allocatable :: v(:); x = t(v); print *, allocated(x%a); allocate(v(3:4)); x = t(v); print *, lbound(x%a,1); x = t((v)); print *, lbound(x%a,1); deallocate(v); x = t((v)); end
abbrev pub choice_63_1_program : ProgramNode
choice_63_1_program = elaborated
    (program (codes "module" ∷ codes "m" ∷ codes "type" ∷ codes "t" ∷ codes "integer" ∷ codes "allocatable" ∷ codes "a" ∷ codes "end" ∷
    codes "program" ∷ codes "p" ∷ codes "use" ∷ codes "x" ∷ codes "v" ∷ codes "print" ∷ codes "allocated" ∷ codes "allocate" ∷ codes "lbound" ∷
    codes "deallocate" ∷ []) [] ((unit (at 1 1) u.Module (name 1 1 8) ((type_definition (name 3 1 16) None ((declaration (Integer Four) (allocatable
    ∷ []) ((entity (name 6 1 43) (Some (deferred (None ∷ []))) None) ∷ [])) ∷ []) []) ∷ []) no_statements [] (at 1 59)) ∷ (unit (at 2 1) u.Program
    (name 9 2 9) ((declares (declaration (Derived (name 3 2 24)) [] ((entity (name 11 2 30) None None) ∷ []))) ∷ (declares (declaration (Integer
    Four) (allocatable ∷ []) ((entity (name 12 2 57) (Some (deferred (None ∷ []))) None) ∷ []))) ∷ []) (statements (acts (at 2 63) (assign (parts
    (name 11 2 63) bare no_parts) (designator (parts (name 3 2 67) (within (arguments (value None (designator (parts (name 12 2 69) bare no_parts)))
    no_arguments)) no_parts)))) (statements (acts (at 2 73) (print ((designator (parts (name 14 2 82) (within (arguments (value None (designator
    (parts (name 11 2 92) bare (parts (name 6 2 94) bare no_parts)))) no_arguments)) no_parts)) ∷ []))) (statements (acts (at 2 98) (allocate ((parts
    (name 12 2 107) (within (arguments (triplet (at 2 109) (present (four (at 2 109) 3)) (present (four (at 2 111) 4)) absent) no_arguments))
    no_parts) ∷ []) None)) (statements (acts (at 2 116) (assign (parts (name 11 2 116) bare no_parts) (designator (parts (name 3 2 120) (within
    (arguments (value None (designator (parts (name 12 2 122) bare no_parts))) no_arguments)) no_parts)))) (statements (acts (at 2 126) (print
    ((designator (parts (name 16 2 135) (within (arguments (value None (designator (parts (name 11 2 142) bare (parts (name 6 2 144) bare
    no_parts)))) (arguments (value None (four (at 2 146) 1)) no_arguments))) no_parts)) ∷ []))) (statements (acts (at 2 150) (assign (parts (name 11
    2 150) bare no_parts) (designator (parts (name 3 2 154) (within (arguments (value None (group (at 2 156) (designator (parts (name 12 2 157) bare
    no_parts)))) no_arguments)) no_parts)))) (statements (acts (at 2 162) (print ((designator (parts (name 16 2 171) (within (arguments (value None
    (designator (parts (name 11 2 178) bare (parts (name 6 2 180) bare no_parts)))) (arguments (value None (four (at 2 182) 1)) no_arguments)))
    no_parts)) ∷ []))) (statements (acts (at 2 186) (deallocate ((parts (name 12 2 197) bare no_parts) ∷ []) None)) (statements (acts (at 2 201)
    (assign (parts (name 11 2 201) bare no_parts) (designator (parts (name 3 2 205) (within (arguments (value None (group (at 2 207) (designator
    (parts (name 12 2 208) bare no_parts)))) no_arguments)) no_parts)))) no_statements))))))))) [] (at 2 213)) ∷ [])) (looks (((3, One 0) ∷ []) ∷
    ((3, One 0) ∷ (11, One 1) ∷ (12, One 2) ∷ []) ∷ [])) (0 ∷ 1 ∷ [])

abbrev pub choice_63_1_formed : Global → Type 0
choice_63_1_formed h = IsWellFormed (built h choice_63_1_program)

abbrev pub choice_63_1_shows : Global → Type 0
choice_63_1_shows h =
    shown (run_of (built h choice_63_1_program) 2000 granted) ≡ record {
      bytes = lines (codes " F" ∷ codes " 3" ∷ codes " 1" ∷ []);
      verdict = Failed
          4 2 201;
    }

-- These programs make sense, print this and end so.
abbrev pub Meant5Show : Type 0
Meant5Show = (h : Global) →
    choice_50_1_formed h
    × choice_50_1_shows h
    × choice_52_1_formed h
    × choice_52_1_shows h
    × choice_52_2_formed h
    × choice_52_2_shows h
    × choice_53_1_formed h
    × choice_53_1_shows h
    × choice_54_1_formed h
    × choice_54_1_shows h
    × choice_56_1_formed h
    × choice_56_1_shows h
    × choice_57_1_formed h
    × choice_57_1_shows h
    × choice_58_1_formed h
    × choice_58_1_shows h
    × choice_59_1_formed h
    × choice_59_1_shows h
    × choice_61_1_formed h
    × choice_61_1_shows h
    × choice_62_1_formed h
    × choice_62_1_shows h
    × choice_63_1_formed h
    × choice_63_1_shows h
