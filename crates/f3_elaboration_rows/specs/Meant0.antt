-- Programs, each in the text above it, elaborated, and what they print.
use Rattle.std.specs.Prelude.{◌≡◌, false, [], ◌∷◌, None, Some, codes}
use Rattle.std.specs.declared.alloc.Global.{Global}
use Rattle.f3_lookups.specs.declared.lookup.Lookup.TheVariants.{One}
use Rattle.f3_tree.specs.declared.expression.Sign.TheVariants.{Minus}
use Rattle.f3_tree.specs.declared.expression.Operator.TheVariants as o
use Rattle.f3_tree.specs.declared.expression.IntegerKind.TheVariants.{Four}
use Rattle.f3_tree.specs.declared.declaration.Intent.TheVariants.{InOut}
use Rattle.f3_tree.specs.declared.declaration.TypeSpecifier.TheVariants.{Integer, Derived}
use Rattle.f3_tree.specs.declared.program.ProcedureKind.TheVariants.{Subroutine}
use Rattle.f3_tree.specs.declared.program.UnitKind.TheVariants as u
use Rattle.f3_tree.specs.Expressions.{text, designator, array, signed, chain, no_more, more, no_trees, trees, no_parts, parts}
use Rattle.f3_tree.specs.Expressions.{bare, within, no_arguments, arguments, value, triplet, absent, present}
use Rattle.f3_tree.specs.Declarations.{explicit, deferred, allocatable, intent, declares}
use Rattle.f3_tree.specs.Statements.{assign, call, allocate, deallocate, print, return}
use Rattle.f3_tree.specs.Statements.{acts, acts_if, associates, no_statements, statements}
use Rattle.f3_meaning_whole.specs.Run.{run_of}
use Rattle.f3_meaning_rows.specs.Shown.{shown, lines, granted, Finished, Failed}
use Rattle.f3_elaboration.specs.Nodes.{ProgramNode}
use Rattle.f3_elaboration.specs.Program.{elaborated}
use Rattle.f3_elaboration_rows.specs.Trees.{at, name, four, bounds, entity, declaration, type_definition, procedure, unit, association, program, looks}
use Rattle.f3_elaboration_rows.specs.Built.{built}
use Rattle.f3_meaning_whole.specs.Formed.{IsWellFormed}

--     module m; type t; integer, allocatable :: c(:); end type; end
--     program p; use m; type(t) :: x, y
--     allocate(x%c(0:1)); x%c = 4; y = x; y%c(0) = 9
--     print *, x%c, y%c, lbound(y%c,1); deallocate(x%c); y = x; print *, allocated(y%c)
--     end
abbrev pub allocatable_01_deep_copy_program : ProgramNode
allocatable_01_deep_copy_program = elaborated
    (program (codes "module" ∷ codes "m" ∷ codes "type" ∷ codes "t" ∷ codes "integer" ∷ codes "allocatable" ∷ codes "c" ∷ codes "end" ∷
    codes "program" ∷ codes "p" ∷ codes "use" ∷ codes "x" ∷ codes "y" ∷ codes "allocate" ∷ codes "print" ∷ codes "lbound" ∷ codes "deallocate" ∷
    codes "allocated" ∷ []) [] ((unit (at 1 1) u.Module (name 1 1 8) ((type_definition (name 3 1 16) None ((declaration (Integer Four) (allocatable ∷
    []) ((entity (name 6 1 43) (Some (deferred (None ∷ []))) None) ∷ [])) ∷ []) []) ∷ []) no_statements [] (at 1 59)) ∷ (unit (at 2 1) u.Program
    (name 9 2 9) ((declares (declaration (Derived (name 3 2 24)) [] ((entity (name 11 2 30) None None) ∷ (entity (name 12 2 33) None None) ∷ []))) ∷
    []) (statements (acts (at 3 1) (allocate ((parts (name 11 3 10) bare (parts (name 6 3 12) (within (arguments (triplet (at 3 14) (present (four
    (at 3 14) 0)) (present (four (at 3 16) 1)) absent) no_arguments)) no_parts)) ∷ []) None)) (statements (acts (at 3 21) (assign (parts (name 11 3
    21) bare (parts (name 6 3 23) bare no_parts)) (four (at 3 27) 4))) (statements (acts (at 3 30) (assign (parts (name 12 3 30) bare no_parts)
    (designator (parts (name 11 3 34) bare no_parts)))) (statements (acts (at 3 37) (assign (parts (name 12 3 37) bare (parts (name 6 3 39) (within
    (arguments (value None (four (at 3 41) 0)) no_arguments)) no_parts)) (four (at 3 46) 9))) (statements (acts (at 4 1) (print ((designator (parts
    (name 11 4 10) bare (parts (name 6 4 12) bare no_parts))) ∷ (designator (parts (name 12 4 15) bare (parts (name 6 4 17) bare no_parts))) ∷
    (designator (parts (name 15 4 20) (within (arguments (value None (designator (parts (name 12 4 27) bare (parts (name 6 4 29) bare no_parts))))
    (arguments (value None (four (at 4 31) 1)) no_arguments))) no_parts)) ∷ []))) (statements (acts (at 4 35) (deallocate ((parts (name 11 4 46) bare
    (parts (name 6 4 48) bare no_parts)) ∷ []) None)) (statements (acts (at 4 52) (assign (parts (name 12 4 52) bare no_parts) (designator (parts
    (name 11 4 56) bare no_parts)))) (statements (acts (at 4 59) (print ((designator (parts (name 17 4 68) (within (arguments (value None (designator
    (parts (name 12 4 78) bare (parts (name 6 4 80) bare no_parts)))) no_arguments)) no_parts)) ∷ []))) no_statements)))))))) [] (at 5 1)) ∷ []))
    (looks (((3, One 0) ∷ []) ∷ ((3, One 0) ∷ (11, One 1) ∷ (12, One 2) ∷ []) ∷ [])) (0 ∷ 1 ∷ [])

abbrev pub allocatable_01_deep_copy_formed : Global → Type 0
allocatable_01_deep_copy_formed h = IsWellFormed (built h allocatable_01_deep_copy_program)

abbrev pub allocatable_01_deep_copy_shows : Global → Type 0
allocatable_01_deep_copy_shows h =
    shown (run_of (built h allocatable_01_deep_copy_program) 2000 granted) ≡ record {
      bytes = lines (codes " 4 4 9 4 0" ∷ codes " F" ∷ []);
      verdict =
          Finished;
    }

--     program p; integer, allocatable :: a(:), b(:); integer :: s
--     a = 1
--     end
abbrev pub allocatable_02_scalar_value_program : ProgramNode
allocatable_02_scalar_value_program = elaborated
    (program (codes "program" ∷ codes "p" ∷ codes "integer" ∷ codes "allocatable" ∷ codes "a" ∷ codes "b" ∷ codes "s" ∷ codes "end" ∷ []) [] ((unit
    (at 1 1) u.Program (name 1 1 9) ((declares (declaration (Integer Four) (allocatable ∷ []) ((entity (name 4 1 36) (Some (deferred (None ∷ [])))
    None) ∷ (entity (name 5 1 42) (Some (deferred (None ∷ []))) None) ∷ []))) ∷ (declares (declaration (Integer Four) [] ((entity (name 6 1 59) None
    None) ∷ []))) ∷ []) (statements (acts (at 2 1) (assign (parts (name 4 2 1) bare no_parts) (four (at 2 5) 1))) no_statements) [] (at 3 1)) ∷ []))
    (looks (((4, One 0) ∷ (5, One 1) ∷ (6, One 2) ∷ []) ∷ [])) (0 ∷ [])

abbrev pub allocatable_02_scalar_value_formed : Global → Type 0
allocatable_02_scalar_value_formed h = IsWellFormed (built h allocatable_02_scalar_value_program)

abbrev pub allocatable_02_scalar_value_shows : Global → Type 0
allocatable_02_scalar_value_shows h =
    shown (run_of (built h allocatable_02_scalar_value_program) 2000 granted) ≡ record { bytes = lines []; verdict = Failed 4 2 1 }

--     program p; integer, allocatable :: a(:), b(:); integer :: s
--     allocate(b(1)); allocate(a(2), b(2), stat=s); print *, s, allocated(a), size(b); deallocate(a, a, stat=s); print *, s
--     end
abbrev pub allocatable_02_stat_program : ProgramNode
allocatable_02_stat_program = elaborated
    (program (codes "program" ∷ codes "p" ∷ codes "integer" ∷ codes "allocatable" ∷ codes "a" ∷ codes "b" ∷ codes "s" ∷ codes "allocate" ∷
    codes "stat" ∷ codes "print" ∷ codes "allocated" ∷ codes "size" ∷ codes "deallocate" ∷ codes "end" ∷ []) [] ((unit (at 1 1) u.Program (name 1 1
    9) ((declares (declaration (Integer Four) (allocatable ∷ []) ((entity (name 4 1 36) (Some (deferred (None ∷ []))) None) ∷ (entity (name 5 1 42)
    (Some (deferred (None ∷ []))) None) ∷ []))) ∷ (declares (declaration (Integer Four) [] ((entity (name 6 1 59) None None) ∷ []))) ∷ [])
    (statements (acts (at 2 1) (allocate ((parts (name 5 2 10) (within (arguments (value None (four (at 2 12) 1)) no_arguments)) no_parts) ∷ [])
    None)) (statements (acts (at 2 17) (allocate ((parts (name 4 2 26) (within (arguments (value None (four (at 2 28) 2)) no_arguments)) no_parts) ∷
    (parts (name 5 2 32) (within (arguments (value None (four (at 2 34) 2)) no_arguments)) no_parts) ∷ []) (Some (parts (name 6 2 43) bare
    no_parts)))) (statements (acts (at 2 47) (print ((designator (parts (name 6 2 56) bare no_parts)) ∷ (designator (parts (name 10 2 59) (within
    (arguments (value None (designator (parts (name 4 2 69) bare no_parts))) no_arguments)) no_parts)) ∷ (designator (parts (name 11 2 73) (within
    (arguments (value None (designator (parts (name 5 2 78) bare no_parts))) no_arguments)) no_parts)) ∷ []))) (statements (acts (at 2 82)
    (deallocate ((parts (name 4 2 93) bare no_parts) ∷ (parts (name 4 2 96) bare no_parts) ∷ []) (Some (parts (name 6 2 104) bare no_parts))))
    (statements (acts (at 2 108) (print ((designator (parts (name 6 2 117) bare no_parts)) ∷ []))) no_statements))))) [] (at 3 1)) ∷ [])) (looks
    (((4, One 0) ∷ (5, One 1) ∷ (6, One 2) ∷ []) ∷ [])) (0 ∷ [])

abbrev pub allocatable_02_stat_formed : Global → Type 0
allocatable_02_stat_formed h = IsWellFormed (built h allocatable_02_stat_program)

abbrev pub allocatable_02_stat_shows : Global → Type 0
allocatable_02_stat_shows h =
    shown (run_of (built h allocatable_02_stat_program) 2000 granted) ≡ record {
      bytes = lines (codes " 5 T 1" ∷ codes " 4" ∷ []);
      verdict = Finished;
    }

--     program p; integer, allocatable :: a(:), b(:); integer :: s
--     allocate(a(16777217), stat=s); print *, s
--     end
abbrev pub allocatable_02_too_large_program : ProgramNode
allocatable_02_too_large_program = elaborated
    (program (codes "program" ∷ codes "p" ∷ codes "integer" ∷ codes "allocatable" ∷ codes "a" ∷ codes "b" ∷ codes "s" ∷ codes "allocate" ∷
    codes "stat" ∷ codes "print" ∷ codes "end" ∷ []) [] ((unit (at 1 1) u.Program (name 1 1 9) ((declares (declaration (Integer Four) (allocatable ∷
    []) ((entity (name 4 1 36) (Some (deferred (None ∷ []))) None) ∷ (entity (name 5 1 42) (Some (deferred (None ∷ []))) None) ∷ []))) ∷ (declares
    (declaration (Integer Four) [] ((entity (name 6 1 59) None None) ∷ []))) ∷ []) (statements (acts (at 2 1) (allocate ((parts (name 4 2 10) (within
    (arguments (value None (four (at 2 12) 16777217)) no_arguments)) no_parts) ∷ []) (Some (parts (name 6 2 28) bare no_parts)))) (statements (acts
    (at 2 32) (print ((designator (parts (name 6 2 41) bare no_parts)) ∷ []))) no_statements)) [] (at 3 1)) ∷ [])) (looks (((4, One 0) ∷ (5, One 1) ∷
    (6, One 2) ∷ []) ∷ [])) (0 ∷ [])

abbrev pub allocatable_02_too_large_formed : Global → Type 0
allocatable_02_too_large_formed h = IsWellFormed (built h allocatable_02_too_large_program)

abbrev pub allocatable_02_too_large_shows : Global → Type 0
allocatable_02_too_large_shows h =
    shown (run_of (built h allocatable_02_too_large_program) 2000 granted) ≡ record { bytes = lines (codes " 11" ∷ []); verdict = Finished }

--     module m; contains
--     subroutine s(x); integer, intent(inout) :: x(5:); x(7) = x(5); print *, lbound(x,1), ubound(x,1); end
--     end
--     program p; use m; integer :: a(6); a = [1, 2, 3, 4, 5, 6]
--     call s(a(6:2:-2)); print *, a
--     end
abbrev pub allocatable_03_assumed_shape_program : ProgramNode
allocatable_03_assumed_shape_program = elaborated
    (program (codes "module" ∷ codes "m" ∷ codes "contains" ∷ codes "subroutine" ∷ codes "s" ∷ codes "x" ∷ codes "integer" ∷ codes "intent" ∷
    codes "inout" ∷ codes "print" ∷ codes "lbound" ∷ codes "ubound" ∷ codes "end" ∷ codes "program" ∷ codes "p" ∷ codes "use" ∷ codes "a" ∷
    codes "call" ∷ []) [] ((unit (at 1 1) u.Module (name 1 1 8) [] no_statements ((procedure false Subroutine (name 4 2 12) ((name 5 2 14) ∷ [])
    ((declares (declaration (Integer Four) ((intent InOut) ∷ []) ((entity (name 5 2 44) (Some (deferred ((Some (four (at 2 46) 5)) ∷ []))) None) ∷
    []))) ∷ []) (statements (acts (at 2 51) (assign (parts (name 5 2 51) (within (arguments (value None (four (at 2 53) 7)) no_arguments)) no_parts)
    (designator (parts (name 5 2 58) (within (arguments (value None (four (at 2 60) 5)) no_arguments)) no_parts)))) (statements (acts (at 2 64)
    (print ((designator (parts (name 10 2 73) (within (arguments (value None (designator (parts (name 5 2 80) bare no_parts))) (arguments (value None
    (four (at 2 82) 1)) no_arguments))) no_parts)) ∷ (designator (parts (name 11 2 86) (within (arguments (value None (designator (parts (name 5 2
    93) bare no_parts))) (arguments (value None (four (at 2 95) 1)) no_arguments))) no_parts)) ∷ []))) no_statements)) (at 2 99)) ∷ []) (at 3 1)) ∷
    (unit (at 4 1) u.Program (name 14 4 9) ((declares (declaration (Integer Four) [] ((entity (name 16 4 30) (Some (explicit ((bounds None (four (at
    4 32) 6)) ∷ []))) None) ∷ []))) ∷ []) (statements (acts (at 4 36) (assign (parts (name 16 4 36) bare no_parts) (array (at 4 40) (trees (four (at
    4 41) 1) (trees (four (at 4 44) 2) (trees (four (at 4 47) 3) (trees (four (at 4 50) 4) (trees (four (at 4 53) 5) (trees (four (at 4 56) 6)
    no_trees))))))))) (statements (acts (at 5 1) (call (name 4 5 6) ((value None (designator (parts (name 16 5 8) (within (arguments (triplet (at 5
    10) (present (four (at 5 10) 6)) (present (four (at 5 12) 2)) (present (signed (at 5 14) Minus (four (at 5 15) 2)))) no_arguments)) no_parts))) ∷
    []))) (statements (acts (at 5 20) (print ((designator (parts (name 16 5 29) bare no_parts)) ∷ []))) no_statements))) [] (at 6 1)) ∷ [])) (looks
    (((4, One 0) ∷ []) ∷ ((4, One 0) ∷ (5, One 1) ∷ []) ∷ ((4, One 0) ∷ (16, One 2) ∷ []) ∷ [])) (0 ∷ 1 ∷ [])

abbrev pub allocatable_03_assumed_shape_formed : Global → Type 0
allocatable_03_assumed_shape_formed h = IsWellFormed (built h allocatable_03_assumed_shape_program)

abbrev pub allocatable_03_assumed_shape_shows : Global → Type 0
allocatable_03_assumed_shape_shows h =
    shown (run_of (built h allocatable_03_assumed_shape_program) 2000 granted) ≡ record {
      bytes = lines (codes " 5 7" ∷ codes " 1 6 3 4 5 6" ∷ []);
      verdict = Finished;
    }

--     program p; integer, allocatable :: v(:); allocate(v(2:3)); v = 5
--     associate (z => v, y => v(2) + 1)
--     deallocate(v)
--     end associate; deallocate(v); print *, allocated(v)
--     end
abbrev pub associate_01_lent_program : ProgramNode
associate_01_lent_program = elaborated
    (program (codes "program" ∷ codes "p" ∷ codes "integer" ∷ codes "allocatable" ∷ codes "v" ∷ codes "allocate" ∷ codes "associate" ∷ codes "z" ∷
    codes "y" ∷ codes "deallocate" ∷ codes "end" ∷ codes "print" ∷ codes "allocated" ∷ []) [] ((unit (at 1 1) u.Program (name 1 1 9) ((declares
    (declaration (Integer Four) (allocatable ∷ []) ((entity (name 4 1 36) (Some (deferred (None ∷ []))) None) ∷ []))) ∷ []) (statements (acts (at 1
    42) (allocate ((parts (name 4 1 51) (within (arguments (triplet (at 1 53) (present (four (at 1 53) 2)) (present (four (at 1 55) 3)) absent)
    no_arguments)) no_parts) ∷ []) None)) (statements (acts (at 1 60) (assign (parts (name 4 1 60) bare no_parts) (four (at 1 64) 5))) (statements
    (associates (at 2 1) ((association (name 7 2 12) (designator (parts (name 4 2 17) bare no_parts))) ∷ (association (name 8 2 20) (chain
    (designator (parts (name 4 2 25) (within (arguments (value None (four (at 2 27) 2)) no_arguments)) no_parts)) (more o.Add (four (at 2 32) 1)
    no_more))) ∷ []) (statements (acts (at 3 1) (deallocate ((parts (name 4 3 12) bare no_parts) ∷ []) None)) no_statements)) (statements (acts (at 4
    16) (deallocate ((parts (name 4 4 27) bare no_parts) ∷ []) None)) (statements (acts (at 4 31) (print ((designator (parts (name 12 4 40) (within
    (arguments (value None (designator (parts (name 4 4 50) bare no_parts))) no_arguments)) no_parts)) ∷ []))) no_statements))))) [] (at 5 1)) ∷ []))
    (looks (((4, One 0) ∷ []) ∷ ((4, One 0) ∷ (7, One 1) ∷ (8, One 2) ∷ []) ∷ [])) (0 ∷ [])

abbrev pub associate_01_lent_formed : Global → Type 0
associate_01_lent_formed h = IsWellFormed (built h associate_01_lent_program)

abbrev pub associate_01_lent_shows : Global → Type 0
associate_01_lent_shows h =
    shown (run_of (built h associate_01_lent_program) 2000 granted) ≡ record { bytes = lines []; verdict = Failed 9 3 1 }

--     program p; integer, allocatable :: v(:); allocate(v(2:3)); v = 5
--     associate (z => v, y => v(2) + 1)
--     z(3) = y; print *, lbound(z,1), v, y
--     end associate; deallocate(v); print *, allocated(v)
--     end
abbrev pub associate_01_selectors_program : ProgramNode
associate_01_selectors_program = elaborated
    (program (codes "program" ∷ codes "p" ∷ codes "integer" ∷ codes "allocatable" ∷ codes "v" ∷ codes "allocate" ∷ codes "associate" ∷ codes "z" ∷
    codes "y" ∷ codes "print" ∷ codes "lbound" ∷ codes "end" ∷ codes "deallocate" ∷ codes "allocated" ∷ []) [] ((unit (at 1 1) u.Program (name 1 1 9)
    ((declares (declaration (Integer Four) (allocatable ∷ []) ((entity (name 4 1 36) (Some (deferred (None ∷ []))) None) ∷ []))) ∷ []) (statements
    (acts (at 1 42) (allocate ((parts (name 4 1 51) (within (arguments (triplet (at 1 53) (present (four (at 1 53) 2)) (present (four (at 1 55) 3))
    absent) no_arguments)) no_parts) ∷ []) None)) (statements (acts (at 1 60) (assign (parts (name 4 1 60) bare no_parts) (four (at 1 64) 5)))
    (statements (associates (at 2 1) ((association (name 7 2 12) (designator (parts (name 4 2 17) bare no_parts))) ∷ (association (name 8 2 20)
    (chain (designator (parts (name 4 2 25) (within (arguments (value None (four (at 2 27) 2)) no_arguments)) no_parts)) (more o.Add (four (at 2 32)
    1) no_more))) ∷ []) (statements (acts (at 3 1) (assign (parts (name 7 3 1) (within (arguments (value None (four (at 3 3) 3)) no_arguments))
    no_parts) (designator (parts (name 8 3 8) bare no_parts)))) (statements (acts (at 3 11) (print ((designator (parts (name 10 3 20) (within
    (arguments (value None (designator (parts (name 7 3 27) bare no_parts))) (arguments (value None (four (at 3 29) 1)) no_arguments))) no_parts)) ∷
    (designator (parts (name 4 3 33) bare no_parts)) ∷ (designator (parts (name 8 3 36) bare no_parts)) ∷ []))) no_statements))) (statements (acts
    (at 4 16) (deallocate ((parts (name 4 4 27) bare no_parts) ∷ []) None)) (statements (acts (at 4 31) (print ((designator (parts (name 13 4 40)
    (within (arguments (value None (designator (parts (name 4 4 50) bare no_parts))) no_arguments)) no_parts)) ∷ []))) no_statements))))) [] (at 5
    1)) ∷ [])) (looks (((4, One 0) ∷ []) ∷ ((4, One 0) ∷ (7, One 1) ∷ (8, One 2) ∷ []) ∷ [])) (0 ∷ [])

abbrev pub associate_01_selectors_formed : Global → Type 0
associate_01_selectors_formed h = IsWellFormed (built h associate_01_selectors_program)

abbrev pub associate_01_selectors_shows : Global → Type 0
associate_01_selectors_shows h =
    shown (run_of (built h associate_01_selectors_program) 2000 granted) ≡ record {
      bytes = lines (codes " 2 5 6 6" ∷ codes " F" ∷ []);
      verdict =
          Finished;
    }

--     module m; contains
--     subroutine s(); integer, allocatable :: v(:); allocate(v(2)); v = 1
--     associate (z => v); print *, z; return; end associate; end
--     end
--     program p; use m; call s(); print *, 7; end
abbrev pub associate_03_return_program : ProgramNode
associate_03_return_program = elaborated
    (program (codes "module" ∷ codes "m" ∷ codes "contains" ∷ codes "subroutine" ∷ codes "s" ∷ codes "integer" ∷ codes "allocatable" ∷ codes "v" ∷
    codes "allocate" ∷ codes "associate" ∷ codes "z" ∷ codes "print" ∷ codes "return" ∷ codes "end" ∷ codes "program" ∷ codes "p" ∷ codes "use" ∷
    codes "call" ∷ []) [] ((unit (at 1 1) u.Module (name 1 1 8) [] no_statements ((procedure false Subroutine (name 4 2 12) [] ((declares
    (declaration (Integer Four) (allocatable ∷ []) ((entity (name 7 2 41) (Some (deferred (None ∷ []))) None) ∷ []))) ∷ []) (statements (acts (at 2
    47) (allocate ((parts (name 7 2 56) (within (arguments (value None (four (at 2 58) 2)) no_arguments)) no_parts) ∷ []) None)) (statements (acts
    (at 2 63) (assign (parts (name 7 2 63) bare no_parts) (four (at 2 67) 1))) (statements (associates (at 3 1) ((association (name 10 3 12)
    (designator (parts (name 7 3 17) bare no_parts))) ∷ []) (statements (acts (at 3 21) (print ((designator (parts (name 10 3 30) bare no_parts)) ∷
    []))) (statements (acts (at 3 33) return) no_statements))) no_statements))) (at 3 56)) ∷ []) (at 4 1)) ∷ (unit (at 5 1) u.Program (name 15 5 9)
    [] (statements (acts (at 5 19) (call (name 4 5 24) [])) (statements (acts (at 5 29) (print ((four (at 5 38) 7) ∷ []))) no_statements)) [] (at 5
    41)) ∷ [])) (looks (((4, One 0) ∷ []) ∷ ((4, One 0) ∷ (7, One 1) ∷ []) ∷ ((4, One 0) ∷ (7, One 1) ∷ (10, One 2) ∷ []) ∷ ((4, One 0) ∷ []) ∷ []))
    (0 ∷ 1 ∷ [])

abbrev pub associate_03_return_formed : Global → Type 0
associate_03_return_formed h = IsWellFormed (built h associate_03_return_program)

abbrev pub associate_03_return_shows : Global → Type 0
associate_03_return_shows h =
    shown (run_of (built h associate_03_return_program) 2000 granted) ≡ record { bytes = lines (codes " 1 1" ∷ codes " 7" ∷ []); verdict = Finished }

--     module m; type t; integer :: id = 0; contains; final :: fin; end type; type(t), allocatable :: v; contains
--     subroutine fin(x); type(t), intent(inout) :: x; if (allocated(v)) deallocate(v); end
--     end
--     program p; use m; allocate(v); deallocate(v); end
abbrev pub finalizer_01_frees_its_holder_program : ProgramNode
finalizer_01_frees_its_holder_program = elaborated
    (program (codes "module" ∷ codes "m" ∷ codes "type" ∷ codes "t" ∷ codes "integer" ∷ codes "id" ∷ codes "contains" ∷ codes "final" ∷ codes "fin" ∷
    codes "end" ∷ codes "allocatable" ∷ codes "v" ∷ codes "subroutine" ∷ codes "x" ∷ codes "intent" ∷ codes "inout" ∷ codes "if" ∷ codes "allocated"
    ∷ codes "deallocate" ∷ codes "program" ∷ codes "p" ∷ codes "use" ∷ codes "allocate" ∷ []) [] ((unit (at 1 1) u.Module (name 1 1 8)
    ((type_definition (name 3 1 16) None ((declaration (Integer Four) [] ((entity (name 5 1 30) None (Some (four (at 1 35) 0))) ∷ [])) ∷ []) ((name 8
    1 57) ∷ [])) ∷ (declares (declaration (Derived (name 3 1 77)) (allocatable ∷ []) ((entity (name 11 1 96) None None) ∷ []))) ∷ []) no_statements
    ((procedure false Subroutine (name 8 2 12) ((name 13 2 16) ∷ []) ((declares (declaration (Derived (name 3 2 25)) ((intent InOut) ∷ []) ((entity
    (name 13 2 46) None None) ∷ []))) ∷ []) (statements (acts_if (at 2 49) (designator (parts (name 17 2 53) (within (arguments (value None
    (designator (parts (name 11 2 63) bare no_parts))) no_arguments)) no_parts)) (at 2 67) (deallocate ((parts (name 11 2 78) bare no_parts) ∷ [])
    None)) no_statements) (at 2 82)) ∷ []) (at 3 1)) ∷ (unit (at 4 1) u.Program (name 20 4 9) [] (statements (acts (at 4 19) (allocate ((parts (name
    11 4 28) bare no_parts) ∷ []) None)) (statements (acts (at 4 32) (deallocate ((parts (name 11 4 43) bare no_parts) ∷ []) None)) no_statements))
    [] (at 4 47)) ∷ [])) (looks (((3, One 0) ∷ (8, One 2) ∷ (11, One 1) ∷ []) ∷ ((3, One 0) ∷ (8, One 2) ∷ (11, One 1) ∷ (13, One 3) ∷ []) ∷ ((
      3,
      One
          0,
    ) ∷ (8, One 2) ∷ (11, One 1) ∷ []) ∷ [])) (0 ∷ 1 ∷ [])

abbrev pub finalizer_01_frees_its_holder_formed : Global → Type 0
finalizer_01_frees_its_holder_formed h = IsWellFormed (built h finalizer_01_frees_its_holder_program)

abbrev pub finalizer_01_frees_its_holder_shows : Global → Type 0
finalizer_01_frees_its_holder_shows h =
    shown (run_of (built h finalizer_01_frees_its_holder_program) 2000 granted) ≡ record { bytes = lines []; verdict = Failed 9 2 49 }

--     module m; type c; integer :: id = 1; contains; final :: fc; end type
--     type t; type(c) :: a; type(c), allocatable :: b(:); contains; final :: ft; end type; contains
--     subroutine fc(x); type(c), intent(inout) :: x; print *, 'c', x%id; end
--     subroutine ft(x); type(t), intent(inout) :: x; print *, 't', allocated(x%b); end
--     subroutine go(); type(t) :: x; allocate(x%b(2)); print *, 'g'; end
--     end
--     program p; use m; call go(); end
abbrev pub finalizer_02_order_program : ProgramNode
finalizer_02_order_program = elaborated
    (program (codes "module" ∷ codes "m" ∷ codes "type" ∷ codes "c" ∷ codes "integer" ∷ codes "id" ∷ codes "contains" ∷ codes "final" ∷ codes "fc" ∷
    codes "end" ∷ codes "t" ∷ codes "a" ∷ codes "allocatable" ∷ codes "b" ∷ codes "ft" ∷ codes "subroutine" ∷ codes "x" ∷ codes "intent" ∷
    codes "inout" ∷ codes "print" ∷ codes "allocated" ∷ codes "go" ∷ codes "allocate" ∷ codes "program" ∷ codes "p" ∷ codes "use" ∷ codes "call" ∷
    []) ((99 ∷ []) ∷ (116 ∷ []) ∷ (103 ∷ []) ∷ []) ((unit (at 1 1) u.Module (name 1 1 8) ((type_definition (name 3 1 16) None ((declaration (Integer
    Four) [] ((entity (name 5 1 30) None (Some (four (at 1 35) 1))) ∷ [])) ∷ []) ((name 8 1 57) ∷ [])) ∷ (type_definition (name 10 2 6) None
    ((declaration (Derived (name 3 2 14)) [] ((entity (name 11 2 20) None None) ∷ [])) ∷ (declaration (Derived (name 3 2 28)) (allocatable ∷ [])
    ((entity (name 13 2 47) (Some (deferred (None ∷ []))) None) ∷ [])) ∷ []) ((name 14 2 72) ∷ [])) ∷ []) no_statements ((procedure false Subroutine
    (name 8 3 12) ((name 16 3 15) ∷ []) ((declares (declaration (Derived (name 3 3 24)) ((intent InOut) ∷ []) ((entity (name 16 3 45) None None) ∷
    []))) ∷ []) (statements (acts (at 3 48) (print ((text (at 3 57) 0) ∷ (designator (parts (name 16 3 62) bare (parts (name 5 3 64) bare no_parts)))
    ∷ []))) no_statements) (at 3 68)) ∷ (procedure false Subroutine (name 14 4 12) ((name 16 4 15) ∷ []) ((declares (declaration (Derived (name 10 4
    24)) ((intent InOut) ∷ []) ((entity (name 16 4 45) None None) ∷ []))) ∷ []) (statements (acts (at 4 48) (print ((text (at 4 57) 1) ∷ (designator
    (parts (name 20 4 62) (within (arguments (value None (designator (parts (name 16 4 72) bare (parts (name 13 4 74) bare no_parts))))
    no_arguments)) no_parts)) ∷ []))) no_statements) (at 4 78)) ∷ (procedure false Subroutine (name 21 5 12) [] ((declares (declaration (Derived
    (name 10 5 23)) [] ((entity (name 16 5 29) None None) ∷ []))) ∷ []) (statements (acts (at 5 32) (allocate ((parts (name 16 5 41) bare (parts
    (name 13 5 43) (within (arguments (value None (four (at 5 45) 2)) no_arguments)) no_parts)) ∷ []) None)) (statements (acts (at 5 50) (print
    ((text (at 5 59) 2) ∷ []))) no_statements)) (at 5 64)) ∷ []) (at 6 1)) ∷ (unit (at 7 1) u.Program (name 24 7 9) [] (statements (acts (at 7 19)
    (call (name 21 7 24) [])) no_statements) [] (at 7 30)) ∷ [])) (looks (((3, One 0) ∷ (8, One 2) ∷ (10, One 1) ∷ (14, One 3) ∷ (21, One 4) ∷ []) ∷
    ((3, One 0) ∷ (8, One 2) ∷ (10, One 1) ∷ (14, One 3) ∷ (16, One 5) ∷ (21, One 4) ∷ []) ∷ ((3, One 0) ∷ (8, One 2) ∷ (10, One 1) ∷ (14, One 3) ∷
    (16, One 6) ∷ (21, One 4) ∷ []) ∷ ((3, One 0) ∷ (8, One 2) ∷ (10, One 1) ∷ (14, One 3) ∷ (16, One 7) ∷ (21, One 4) ∷ []) ∷ ((3, One 0) ∷ (
      8,
      One
          2,
    ) ∷ (10, One 1) ∷ (14, One 3) ∷ (21, One 4) ∷ []) ∷ [])) (0 ∷ 1 ∷ [])

abbrev pub finalizer_02_order_formed : Global → Type 0
finalizer_02_order_formed h = IsWellFormed (built h finalizer_02_order_program)

abbrev pub finalizer_02_order_shows : Global → Type 0
finalizer_02_order_shows h =
    shown (run_of (built h finalizer_02_order_program) 2000 granted) ≡ record {
      bytes = lines (codes " g" ∷ codes " t T" ∷ codes " c 1" ∷ []);
      verdict = Finished;
    }

--     program p; integer, allocatable :: a(:); integer :: s; s = 1
--     allocate(a(1000), stat=s); print *, s, allocated(a)
--     end
abbrev pub heap_01_stat_ample_program : ProgramNode
heap_01_stat_ample_program = elaborated
    (program (codes "program" ∷ codes "p" ∷ codes "integer" ∷ codes "allocatable" ∷ codes "a" ∷ codes "s" ∷ codes "allocate" ∷ codes "stat" ∷
    codes "print" ∷ codes "allocated" ∷ codes "end" ∷ []) [] ((unit (at 1 1) u.Program (name 1 1 9) ((declares (declaration (Integer Four)
    (allocatable ∷ []) ((entity (name 4 1 36) (Some (deferred (None ∷ []))) None) ∷ []))) ∷ (declares (declaration (Integer Four) [] ((entity (name 5
    1 53) None None) ∷ []))) ∷ []) (statements (acts (at 1 56) (assign (parts (name 5 1 56) bare no_parts) (four (at 1 60) 1))) (statements (acts (at
    2 1) (allocate ((parts (name 4 2 10) (within (arguments (value None (four (at 2 12) 1000)) no_arguments)) no_parts) ∷ []) (Some (parts (name 5 2
    24) bare no_parts)))) (statements (acts (at 2 28) (print ((designator (parts (name 5 2 37) bare no_parts)) ∷ (designator (parts (name 9 2 40)
    (within (arguments (value None (designator (parts (name 4 2 50) bare no_parts))) no_arguments)) no_parts)) ∷ []))) no_statements))) [] (at 3 1))
    ∷ [])) (looks (((4, One 0) ∷ (5, One 1) ∷ []) ∷ [])) (0 ∷ [])

abbrev pub heap_01_stat_ample_formed : Global → Type 0
heap_01_stat_ample_formed h = IsWellFormed (built h heap_01_stat_ample_program)

abbrev pub heap_01_stat_ample_shows : Global → Type 0
heap_01_stat_ample_shows h =
    shown (run_of (built h heap_01_stat_ample_program) 2000 granted) ≡ record { bytes = lines (codes " 0 T" ∷ []); verdict = Finished }

--     module w; integer, allocatable :: v(:), u(:); integer :: k; contains
--     subroutine p(x); integer, intent(inout) :: x
--     deallocate(v, stat=k)
--     x = 1; end
--     end
--     program q; use w; allocate(v(3)); call p(v(1)); print *, k, size(v); end
abbrev pub heap_08_lent_element_deallocate_stat_program : ProgramNode
heap_08_lent_element_deallocate_stat_program = elaborated
    (program (codes "module" ∷ codes "w" ∷ codes "integer" ∷ codes "allocatable" ∷ codes "v" ∷ codes "u" ∷ codes "k" ∷ codes "contains" ∷
    codes "subroutine" ∷ codes "p" ∷ codes "x" ∷ codes "intent" ∷ codes "inout" ∷ codes "deallocate" ∷ codes "stat" ∷ codes "end" ∷ codes "program" ∷
    codes "q" ∷ codes "use" ∷ codes "allocate" ∷ codes "call" ∷ codes "print" ∷ codes "size" ∷ []) [] ((unit (at 1 1) u.Module (name 1 1 8)
    ((declares (declaration (Integer Four) (allocatable ∷ []) ((entity (name 4 1 35) (Some (deferred (None ∷ []))) None) ∷ (entity (name 5 1 41)
    (Some (deferred (None ∷ []))) None) ∷ []))) ∷ (declares (declaration (Integer Four) [] ((entity (name 6 1 58) None None) ∷ []))) ∷ [])
    no_statements ((procedure false Subroutine (name 9 2 12) ((name 10 2 14) ∷ []) ((declares (declaration (Integer Four) ((intent InOut) ∷ [])
    ((entity (name 10 2 44) None None) ∷ []))) ∷ []) (statements (acts (at 3 1) (deallocate ((parts (name 4 3 12) bare no_parts) ∷ []) (Some (parts
    (name 6 3 20) bare no_parts)))) (statements (acts (at 4 1) (assign (parts (name 10 4 1) bare no_parts) (four (at 4 5) 1))) no_statements)) (at 4
    8)) ∷ []) (at 5 1)) ∷ (unit (at 6 1) u.Program (name 17 6 9) [] (statements (acts (at 6 19) (allocate ((parts (name 4 6 28) (within (arguments
    (value None (four (at 6 30) 3)) no_arguments)) no_parts) ∷ []) None)) (statements (acts (at 6 35) (call (name 9 6 40) ((value None (designator
    (parts (name 4 6 42) (within (arguments (value None (four (at 6 44) 1)) no_arguments)) no_parts))) ∷ []))) (statements (acts (at 6 49) (print
    ((designator (parts (name 6 6 58) bare no_parts)) ∷ (designator (parts (name 22 6 61) (within (arguments (value None (designator (parts (name 4 6
    66) bare no_parts))) no_arguments)) no_parts)) ∷ []))) no_statements))) [] (at 6 70)) ∷ [])) (looks (((4, One 0) ∷ (5, One 1) ∷ (6, One 2) ∷ (
      9,
      One 3,
    ) ∷ []) ∷ ((4, One 0) ∷ (5, One 1) ∷ (6, One 2) ∷ (9, One 3) ∷ (10, One 4) ∷ []) ∷ ((4, One 0) ∷ (5, One 1) ∷ (6, One 2) ∷ (9, One 3) ∷ [])
    ∷ [])) (0 ∷ 1 ∷ [])

abbrev pub heap_08_lent_element_deallocate_stat_formed : Global → Type 0
heap_08_lent_element_deallocate_stat_formed h = IsWellFormed (built h heap_08_lent_element_deallocate_stat_program)

abbrev pub heap_08_lent_element_deallocate_stat_shows : Global → Type 0
heap_08_lent_element_deallocate_stat_shows h =
    shown (run_of (built h heap_08_lent_element_deallocate_stat_program) 2000 granted) ≡ record {
      bytes = lines (codes " 9 3" ∷ []);
      verdict =
          Finished;
    }

-- These programs make sense, print this and end so.
abbrev pub Meant0Show : Type 0
Meant0Show = (h : Global) →
    allocatable_01_deep_copy_formed h
    × allocatable_01_deep_copy_shows h
    × allocatable_02_scalar_value_formed h
    × allocatable_02_scalar_value_shows h
    × allocatable_02_stat_formed h
    × allocatable_02_stat_shows h
    × allocatable_02_too_large_formed h
    × allocatable_02_too_large_shows h
    × allocatable_03_assumed_shape_formed h
    × allocatable_03_assumed_shape_shows h
    × associate_01_lent_formed h
    × associate_01_lent_shows h
    × associate_01_selectors_formed h
    × associate_01_selectors_shows h
    × associate_03_return_formed h
    × associate_03_return_shows h
    × finalizer_01_frees_its_holder_formed h
    × finalizer_01_frees_its_holder_shows h
    × finalizer_02_order_formed h
    × finalizer_02_order_shows h
    × heap_01_stat_ample_formed h
    × heap_01_stat_ample_shows h
    × heap_08_lent_element_deallocate_stat_formed h
    × heap_08_lent_element_deallocate_stat_shows h
