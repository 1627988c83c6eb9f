-- Programs, each in the text above it, elaborated, and what they print.
use Rattle.std.specs.Prelude.{◌≡◌, false, [], ◌∷◌, None, Some, codes, ◌++◌}
use Rattle.std.specs.declared.alloc.Global.{Global}
use Rattle.f3_lookups.specs.declared.lookup.Lookup.TheVariants.{One}
use Rattle.f3_tree.specs.declared.expression.Sign.TheVariants.{Minus}
use Rattle.f3_tree.specs.declared.expression.Operator.TheVariants as o
use Rattle.f3_tree.specs.declared.expression.IntegerKind.TheVariants.{Four}
use Rattle.f3_tree.specs.declared.declaration.Intent.TheVariants.{InOut}
use Rattle.f3_tree.specs.declared.declaration.TypeSpecifier.TheVariants.{Integer, Derived}
use Rattle.f3_tree.specs.declared.program.ProcedureKind.TheVariants.{Subroutine}
use Rattle.f3_tree.specs.declared.program.UnitKind.TheVariants as u
use Rattle.f3_tree.specs.Expressions.{text, designator, group, signed, chain, no_more, more, no_parts, parts}
use Rattle.f3_tree.specs.Expressions.{bare, within, no_arguments, arguments, value}
use Rattle.f3_tree.specs.Declarations.{deferred, allocatable, intent, declares}
use Rattle.f3_tree.specs.Statements.{assign, call, allocate, deallocate, print}
use Rattle.f3_tree.specs.Statements.{counted, acts, repeats, no_statements, statements}
use Rattle.f3_meaning_whole.specs.Run.{run_of}
use Rattle.f3_meaning_rows.specs.Shown.{shown, lines, granted, Finished, Failed}
use Rattle.f3_elaboration.specs.Nodes.{ProgramNode}
use Rattle.f3_elaboration.specs.Program.{elaborated}
use Rattle.f3_elaboration_rows.specs.Trees.{at, name, four, entity, declaration, type_definition, procedure, unit, program, looks}
use Rattle.f3_elaboration_rows.specs.Built.{built}
use Rattle.f3_meaning_whole.specs.Formed.{IsWellFormed}

--     module m; type t; integer :: id = 0; contains; final :: fin; end type; contains
--     subroutine fin(x); type(t), intent(inout) :: x; print *, 'f', x%id; end
--     subroutine go(); type(t) :: x, y; x%id = 1; y%id = 2; x = y; print *, 'g'; end
--     end
--     program p; use m; type(t), allocatable :: v(:); type(t) :: s
--     allocate(v(2)); deallocate(v); print *, 'e'
--     end
abbrev pub sample_10_scalar_final_program : ProgramNode
sample_10_scalar_final_program = elaborated
    (program (codes "module" ∷ codes "m" ∷ codes "type" ∷ codes "t" ∷ codes "integer" ∷ codes "id" ∷ codes "contains" ∷ codes "final" ∷ codes "fin" ∷
    codes "end" ∷ codes "subroutine" ∷ codes "x" ∷ codes "intent" ∷ codes "inout" ∷ codes "print" ∷ codes "go" ∷ codes "y" ∷ codes "program" ∷
    codes "p" ∷ codes "use" ∷ codes "allocatable" ∷ codes "v" ∷ codes "s" ∷ codes "allocate" ∷ codes "deallocate" ∷ []) ((102 ∷ []) ∷ (103 ∷ []) ∷
    (101 ∷ []) ∷ []) ((unit (at 1 1) u.Module (name 1 1 8) ((type_definition (name 3 1 16) None ((declaration (Integer Four) [] ((entity (name 5 1
    30) None (Some (four (at 1 35) 0))) ∷ [])) ∷ []) ((name 8 1 57) ∷ [])) ∷ []) no_statements ((procedure false Subroutine (name 8 2 12) ((name 11 2
    16) ∷ []) ((declares (declaration (Derived (name 3 2 25)) ((intent InOut) ∷ []) ((entity (name 11 2 46) None None) ∷ []))) ∷ []) (statements
    (acts (at 2 49) (print ((text (at 2 58) 0) ∷ (designator (parts (name 11 2 63) bare (parts (name 5 2 65) bare no_parts))) ∷ []))) no_statements)
    (at 2 69)) ∷ (procedure false Subroutine (name 15 3 12) [] ((declares (declaration (Derived (name 3 3 23)) [] ((entity (name 11 3 29) None None)
    ∷ (entity (name 16 3 32) None None) ∷ []))) ∷ []) (statements (acts (at 3 35) (assign (parts (name 11 3 35) bare (parts (name 5 3 37) bare
    no_parts)) (four (at 3 42) 1))) (statements (acts (at 3 45) (assign (parts (name 16 3 45) bare (parts (name 5 3 47) bare no_parts)) (four (at 3
    52) 2))) (statements (acts (at 3 55) (assign (parts (name 11 3 55) bare no_parts) (designator (parts (name 16 3 59) bare no_parts)))) (statements
    (acts (at 3 62) (print ((text (at 3 71) 1) ∷ []))) no_statements)))) (at 3 76)) ∷ []) (at 4 1)) ∷ (unit (at 5 1) u.Program (name 18 5 9)
    ((declares (declaration (Derived (name 3 5 24)) (allocatable ∷ []) ((entity (name 21 5 43) (Some (deferred (None ∷ []))) None) ∷ []))) ∷
    (declares (declaration (Derived (name 3 5 54)) [] ((entity (name 22 5 60) None None) ∷ []))) ∷ []) (statements (acts (at 6 1) (allocate ((parts
    (name 21 6 10) (within (arguments (value None (four (at 6 12) 2)) no_arguments)) no_parts) ∷ []) None)) (statements (acts (at 6 17) (deallocate
    ((parts (name 21 6 28) bare no_parts) ∷ []) None)) (statements (acts (at 6 32) (print ((text (at 6 41) 2) ∷ []))) no_statements))) [] (at 7 1)) ∷
    [])) (looks (((3, One 0) ∷ (8, One 1) ∷ (15, One 2) ∷ []) ∷ ((3, One 0) ∷ (8, One 1) ∷ (11, One 3) ∷ (15, One 2) ∷ []) ∷ ((3, One 0) ∷ (8, One 1)
    ∷ (11, One 4) ∷ (15, One 2) ∷ (16, One 5) ∷ []) ∷ ((3, One 0) ∷ (8, One 1) ∷ (15, One 2) ∷ (21, One 6) ∷ (22, One 7) ∷ []) ∷ [])) (0 ∷ 1 ∷ [])

abbrev pub sample_10_scalar_final_formed : Global → Type 0
sample_10_scalar_final_formed h = IsWellFormed (built h sample_10_scalar_final_program)

abbrev pub sample_10_scalar_final_shows : Global → Type 0
sample_10_scalar_final_shows h =
    shown (run_of (built h sample_10_scalar_final_program) 2000 granted) ≡ record { bytes = lines (codes " e" ∷ []); verdict = Finished }

--     module w; integer, allocatable :: v(:), u(:); contains
--     subroutine p(x); integer, intent(inout) :: x; deallocate(v); x = 1; end
--     end
--     program q; use w; allocate(v(3)); call p(v(1)); print *, v(1); end
abbrev pub sample_11_deallocate_program : ProgramNode
sample_11_deallocate_program = elaborated
    (program (codes "module" ∷ codes "w" ∷ codes "integer" ∷ codes "allocatable" ∷ codes "v" ∷ codes "u" ∷ codes "contains" ∷ codes "subroutine" ∷
    codes "p" ∷ codes "x" ∷ codes "intent" ∷ codes "inout" ∷ codes "deallocate" ∷ codes "end" ∷ codes "program" ∷ codes "q" ∷ codes "use" ∷
    codes "allocate" ∷ codes "call" ∷ codes "print" ∷ []) [] ((unit (at 1 1) u.Module (name 1 1 8) ((declares (declaration (Integer Four)
    (allocatable ∷ []) ((entity (name 4 1 35) (Some (deferred (None ∷ []))) None) ∷ (entity (name 5 1 41) (Some (deferred (None ∷ []))) None) ∷ [])))
    ∷ []) no_statements ((procedure false Subroutine (name 8 2 12) ((name 9 2 14) ∷ []) ((declares (declaration (Integer Four) ((intent InOut) ∷ [])
    ((entity (name 9 2 44) None None) ∷ []))) ∷ []) (statements (acts (at 2 47) (deallocate ((parts (name 4 2 58) bare no_parts) ∷ []) None))
    (statements (acts (at 2 62) (assign (parts (name 9 2 62) bare no_parts) (four (at 2 66) 1))) no_statements)) (at 2 69)) ∷ []) (at 3 1)) ∷ (unit
    (at 4 1) u.Program (name 15 4 9) [] (statements (acts (at 4 19) (allocate ((parts (name 4 4 28) (within (arguments (value None (four (at 4 30)
    3)) no_arguments)) no_parts) ∷ []) None)) (statements (acts (at 4 35) (call (name 8 4 40) ((value None (designator (parts (name 4 4 42) (within
    (arguments (value None (four (at 4 44) 1)) no_arguments)) no_parts))) ∷ []))) (statements (acts (at 4 49) (print ((designator (parts (name 4 4
    58) (within (arguments (value None (four (at 4 60) 1)) no_arguments)) no_parts)) ∷ []))) no_statements))) [] (at 4 64)) ∷ [])) (looks (((
      4,
      One
          0,
    ) ∷ (5, One 1) ∷ (8, One 2) ∷ []) ∷ ((4, One 0) ∷ (5, One 1) ∷ (8, One 2) ∷ (9, One 3) ∷ []) ∷ ((4, One 0) ∷ (5, One 1) ∷ (8, One 2) ∷ []) ∷
    [])) (0 ∷ 1 ∷ [])

abbrev pub sample_11_deallocate_formed : Global → Type 0
sample_11_deallocate_formed h = IsWellFormed (built h sample_11_deallocate_program)

abbrev pub sample_11_deallocate_shows : Global → Type 0
sample_11_deallocate_shows h =
    shown (run_of (built h sample_11_deallocate_program) 2000 granted) ≡ record { bytes = lines []; verdict = Failed 9 2 47 }

--     module w; integer, allocatable :: v(:), u(:); contains
--     subroutine p(x); integer, intent(inout) :: x; call move_alloc(v, u); x = 1; end
--     end
--     program q; use w; allocate(v(3)); call p(v(1)); print *, v(1); end
abbrev pub sample_11_move_alloc_program : ProgramNode
sample_11_move_alloc_program = elaborated
    (program (codes "module" ∷ codes "w" ∷ codes "integer" ∷ codes "allocatable" ∷ codes "v" ∷ codes "u" ∷ codes "contains" ∷ codes "subroutine" ∷
    codes "p" ∷ codes "x" ∷ codes "intent" ∷ codes "inout" ∷ codes "call" ∷ codes "move_alloc" ∷ codes "end" ∷ codes "program" ∷ codes "q" ∷
    codes "use" ∷ codes "allocate" ∷ codes "print" ∷ []) [] ((unit (at 1 1) u.Module (name 1 1 8) ((declares (declaration (Integer Four) (allocatable
    ∷ []) ((entity (name 4 1 35) (Some (deferred (None ∷ []))) None) ∷ (entity (name 5 1 41) (Some (deferred (None ∷ []))) None) ∷ []))) ∷ [])
    no_statements ((procedure false Subroutine (name 8 2 12) ((name 9 2 14) ∷ []) ((declares (declaration (Integer Four) ((intent InOut) ∷ [])
    ((entity (name 9 2 44) None None) ∷ []))) ∷ []) (statements (acts (at 2 47) (call (name 13 2 52) ((value None (designator (parts (name 4 2 63)
    bare no_parts))) ∷ (value None (designator (parts (name 5 2 66) bare no_parts))) ∷ []))) (statements (acts (at 2 70) (assign (parts (name 9 2 70)
    bare no_parts) (four (at 2 74) 1))) no_statements)) (at 2 77)) ∷ []) (at 3 1)) ∷ (unit (at 4 1) u.Program (name 16 4 9) [] (statements (acts (at
    4 19) (allocate ((parts (name 4 4 28) (within (arguments (value None (four (at 4 30) 3)) no_arguments)) no_parts) ∷ []) None)) (statements (acts
    (at 4 35) (call (name 8 4 40) ((value None (designator (parts (name 4 4 42) (within (arguments (value None (four (at 4 44) 1)) no_arguments))
    no_parts))) ∷ []))) (statements (acts (at 4 49) (print ((designator (parts (name 4 4 58) (within (arguments (value None (four (at 4 60) 1))
    no_arguments)) no_parts)) ∷ []))) no_statements))) [] (at 4 64)) ∷ [])) (looks (((4, One 0) ∷ (5, One 1) ∷ (8, One 2) ∷ []) ∷ ((4, One 0) ∷ (
      5,
      One 1,
    ) ∷ (8, One 2) ∷ (9, One 3) ∷ []) ∷ ((4, One 0) ∷ (5, One 1) ∷ (8, One 2) ∷ []) ∷ [])) (0 ∷ 1 ∷ [])

abbrev pub sample_11_move_alloc_formed : Global → Type 0
sample_11_move_alloc_formed h = IsWellFormed (built h sample_11_move_alloc_program)

abbrev pub sample_11_move_alloc_shows : Global → Type 0
sample_11_move_alloc_shows h =
    shown (run_of (built h sample_11_move_alloc_program) 2000 granted) ≡ record { bytes = lines []; verdict = Failed 9 2 47 }

--     module w; integer, allocatable :: v(:), u(:); contains
--     subroutine p(x); integer, intent(inout) :: x; deallocate(v, stat=x); end
--     end
--     program q; use w; allocate(v(3)); call p(v(1)); print *, v(1); end
abbrev pub sample_11_stat_program : ProgramNode
sample_11_stat_program = elaborated
    (program (codes "module" ∷ codes "w" ∷ codes "integer" ∷ codes "allocatable" ∷ codes "v" ∷ codes "u" ∷ codes "contains" ∷ codes "subroutine" ∷
    codes "p" ∷ codes "x" ∷ codes "intent" ∷ codes "inout" ∷ codes "deallocate" ∷ codes "stat" ∷ codes "end" ∷ codes "program" ∷ codes "q" ∷
    codes "use" ∷ codes "allocate" ∷ codes "call" ∷ codes "print" ∷ []) [] ((unit (at 1 1) u.Module (name 1 1 8) ((declares (declaration (Integer
    Four) (allocatable ∷ []) ((entity (name 4 1 35) (Some (deferred (None ∷ []))) None) ∷ (entity (name 5 1 41) (Some (deferred (None ∷ []))) None) ∷
    []))) ∷ []) no_statements ((procedure false Subroutine (name 8 2 12) ((name 9 2 14) ∷ []) ((declares (declaration (Integer Four) ((intent InOut)
    ∷ []) ((entity (name 9 2 44) None None) ∷ []))) ∷ []) (statements (acts (at 2 47) (deallocate ((parts (name 4 2 58) bare no_parts) ∷ []) (Some
    (parts (name 9 2 66) bare no_parts)))) no_statements) (at 2 70)) ∷ []) (at 3 1)) ∷ (unit (at 4 1) u.Program (name 16 4 9) [] (statements (acts
    (at 4 19) (allocate ((parts (name 4 4 28) (within (arguments (value None (four (at 4 30) 3)) no_arguments)) no_parts) ∷ []) None)) (statements
    (acts (at 4 35) (call (name 8 4 40) ((value None (designator (parts (name 4 4 42) (within (arguments (value None (four (at 4 44) 1))
    no_arguments)) no_parts))) ∷ []))) (statements (acts (at 4 49) (print ((designator (parts (name 4 4 58) (within (arguments (value None (four (at
    4 60) 1)) no_arguments)) no_parts)) ∷ []))) no_statements))) [] (at 4 64)) ∷ [])) (looks (((4, One 0) ∷ (5, One 1) ∷ (8, One 2) ∷ []) ∷ ((
      4,
      One
          0,
    ) ∷ (5, One 1) ∷ (8, One 2) ∷ (9, One 3) ∷ []) ∷ ((4, One 0) ∷ (5, One 1) ∷ (8, One 2) ∷ []) ∷ [])) (0 ∷ 1 ∷ [])

abbrev pub sample_11_stat_formed : Global → Type 0
sample_11_stat_formed h = IsWellFormed (built h sample_11_stat_program)

abbrev pub sample_11_stat_shows : Global → Type 0
sample_11_stat_shows h =
    shown (run_of (built h sample_11_stat_program) 2000 granted) ≡ record { bytes = lines (codes " 9" ∷ []); verdict = Finished }

--     program p; integer, allocatable :: x; x = 5; call move_alloc(x, x); print *, allocated(x); end
abbrev pub sample_12_move_to_itself_program : ProgramNode
sample_12_move_to_itself_program = elaborated
    (program (codes "program" ∷ codes "p" ∷ codes "integer" ∷ codes "allocatable" ∷ codes "x" ∷ codes "call" ∷ codes "move_alloc" ∷ codes "print" ∷
    codes "allocated" ∷ codes "end" ∷ []) [] ((unit (at 1 1) u.Program (name 1 1 9) ((declares (declaration (Integer Four) (allocatable ∷ [])
    ((entity (name 4 1 36) None None) ∷ []))) ∷ []) (statements (acts (at 1 39) (assign (parts (name 4 1 39) bare no_parts) (four (at 1 43) 5)))
    (statements (acts (at 1 46) (call (name 6 1 51) ((value None (designator (parts (name 4 1 62) bare no_parts))) ∷ (value None (designator (parts
    (name 4 1 65) bare no_parts))) ∷ []))) (statements (acts (at 1 69) (print ((designator (parts (name 8 1 78) (within (arguments (value None
    (designator (parts (name 4 1 88) bare no_parts))) no_arguments)) no_parts)) ∷ []))) no_statements))) [] (at 1 92)) ∷ [])) (looks (((4, One 0) ∷
    []) ∷ [])) (0 ∷ [])

abbrev pub sample_12_move_to_itself_formed : Global → Type 0
sample_12_move_to_itself_formed h = IsWellFormed (built h sample_12_move_to_itself_program)

abbrev pub sample_12_move_to_itself_shows : Global → Type 0
sample_12_move_to_itself_shows h =
    shown (run_of (built h sample_12_move_to_itself_program) 2000 granted) ≡ record { bytes = lines (codes " F" ∷ []); verdict = Finished }

--     program p; print *, -7/2, 2**(-1), mod(-7,2), -2**2; end
abbrev pub sample_13_arithmetic_program : ProgramNode
sample_13_arithmetic_program = elaborated
    (program (codes "program" ∷ codes "p" ∷ codes "print" ∷ codes "mod" ∷ codes "end" ∷ []) [] ((unit (at 1 1) u.Program (name 1 1 9) [] (statements
    (acts (at 1 12) (print ((signed (at 1 21) Minus (chain (four (at 1 22) 7) (more o.Divide (four (at 1 24) 2) no_more))) ∷ (chain (four (at 1 27)
    2) (more o.Power (group (at 1 30) (signed (at 1 31) Minus (four (at 1 32) 1))) no_more)) ∷ (designator (parts (name 3 1 36) (within (arguments
    (value None (signed (at 1 40) Minus (four (at 1 41) 7))) (arguments (value None (four (at 1 43) 2)) no_arguments))) no_parts)) ∷ (signed (at 1
    47) Minus (chain (four (at 1 48) 2) (more o.Power (four (at 1 51) 2) no_more))) ∷ []))) no_statements) [] (at 1 54)) ∷ [])) (looks ([] ∷ [])) (0
    ∷ [])

abbrev pub sample_13_arithmetic_formed : Global → Type 0
sample_13_arithmetic_formed h = IsWellFormed (built h sample_13_arithmetic_program)

abbrev pub sample_13_arithmetic_shows : Global → Type 0
sample_13_arithmetic_shows h =
    shown (run_of (built h sample_13_arithmetic_program) 2000 granted) ≡ record { bytes = lines (codes " -3 0 -1 -4" ∷ []); verdict = Finished }

--     program p; print *, 7, 1/0; end
abbrev pub sample_13_item_by_item_program : ProgramNode
sample_13_item_by_item_program = elaborated
    (program (codes "program" ∷ codes "p" ∷ codes "print" ∷ codes "end" ∷ []) [] ((unit (at 1 1) u.Program (name 1 1 9) [] (statements (acts (at 1
    12) (print ((four (at 1 21) 7) ∷ (chain (four (at 1 24) 1) (more o.Divide (four (at 1 26) 0) no_more)) ∷ []))) no_statements) [] (at 1 29)) ∷
    [])) (looks ([] ∷ [])) (0 ∷ [])

abbrev pub sample_13_item_by_item_formed : Global → Type 0
sample_13_item_by_item_formed h = IsWellFormed (built h sample_13_item_by_item_program)

abbrev pub sample_13_item_by_item_shows : Global → Type 0
sample_13_item_by_item_shows h =
    shown (run_of (built h sample_13_item_by_item_program) 2000 granted) ≡ record { bytes = lines [] ++ codes " 7"; verdict = Failed 2 1 12 }

--     program p; print *, 2147483647 + 1; end
abbrev pub sample_13_overflow_program : ProgramNode
sample_13_overflow_program = elaborated
    (program (codes "program" ∷ codes "p" ∷ codes "print" ∷ codes "end" ∷ []) [] ((unit (at 1 1) u.Program (name 1 1 9) [] (statements (acts (at 1
    12) (print ((chain (four (at 1 21) 2147483647) (more o.Add (four (at 1 34) 1) no_more)) ∷ []))) no_statements) [] (at 1 37)) ∷ [])) (looks ([] ∷
    [])) (0 ∷ [])

abbrev pub sample_13_overflow_formed : Global → Type 0
sample_13_overflow_formed h = IsWellFormed (built h sample_13_overflow_program)

abbrev pub sample_13_overflow_shows : Global → Type 0
sample_13_overflow_shows h =
    shown (run_of (built h sample_13_overflow_program) 2000 granted) ≡ record { bytes = lines []; verdict = Failed 1 1 12 }

--     program p; integer :: i; do i = 1, 0; print *, 9; end do; print *, i; end
abbrev pub sample_16_no_turns_program : ProgramNode
sample_16_no_turns_program = elaborated
    (program (codes "program" ∷ codes "p" ∷ codes "integer" ∷ codes "i" ∷ codes "do" ∷ codes "print" ∷ codes "end" ∷ []) [] ((unit (at 1 1) u.Program
    (name 1 1 9) ((declares (declaration (Integer Four) [] ((entity (name 3 1 23) None None) ∷ []))) ∷ []) (statements (repeats (at 1 26) (counted
    (name 3 1 29) (four (at 1 33) 1) (four (at 1 36) 0) None) (statements (acts (at 1 39) (print ((four (at 1 48) 9) ∷ []))) no_statements))
    (statements (acts (at 1 59) (print ((designator (parts (name 3 1 68) bare no_parts)) ∷ []))) no_statements)) [] (at 1 71)) ∷ [])) (looks (((
      3,
      One 0,
    ) ∷ []) ∷ [])) (0 ∷ [])

abbrev pub sample_16_no_turns_formed : Global → Type 0
sample_16_no_turns_formed h = IsWellFormed (built h sample_16_no_turns_program)

abbrev pub sample_16_no_turns_shows : Global → Type 0
sample_16_no_turns_shows h =
    shown (run_of (built h sample_16_no_turns_program) 2000 granted) ≡ record { bytes = lines (codes " 1" ∷ []); verdict = Finished }

--     program p; integer :: i; do i = 1, 3, 0; print *, 9; end do; print *, i; end
abbrev pub sample_16_zero_step_program : ProgramNode
sample_16_zero_step_program = elaborated
    (program (codes "program" ∷ codes "p" ∷ codes "integer" ∷ codes "i" ∷ codes "do" ∷ codes "print" ∷ codes "end" ∷ []) [] ((unit (at 1 1) u.Program
    (name 1 1 9) ((declares (declaration (Integer Four) [] ((entity (name 3 1 23) None None) ∷ []))) ∷ []) (statements (repeats (at 1 26) (counted
    (name 3 1 29) (four (at 1 33) 1) (four (at 1 36) 3) (Some (four (at 1 39) 0))) (statements (acts (at 1 42) (print ((four (at 1 51) 9) ∷ [])))
    no_statements)) (statements (acts (at 1 62) (print ((designator (parts (name 3 1 71) bare no_parts)) ∷ []))) no_statements)) [] (at 1 74)) ∷ []))
    (looks (((3, One 0) ∷ []) ∷ [])) (0 ∷ [])

abbrev pub sample_16_zero_step_formed : Global → Type 0
sample_16_zero_step_formed h = IsWellFormed (built h sample_16_zero_step_program)

abbrev pub sample_16_zero_step_shows : Global → Type 0
sample_16_zero_step_shows h =
    shown (run_of (built h sample_16_zero_step_program) 2000 granted) ≡ record { bytes = lines []; verdict = Failed 8 1 26 }

--     module m; contains
--     subroutine fill(); integer, allocatable :: a(:); allocate(a(4)); a = 7; end
--     subroutine look(); integer, allocatable :: a(:); allocate(a(4)); print *, a; end
--     end
--     program p; use m; call fill(); call look(); end
abbrev pub sample_17_fresh_words_program : ProgramNode
sample_17_fresh_words_program = elaborated
    (program (codes "module" ∷ codes "m" ∷ codes "contains" ∷ codes "subroutine" ∷ codes "fill" ∷ codes "integer" ∷ codes "allocatable" ∷ codes "a" ∷
    codes "allocate" ∷ codes "end" ∷ codes "look" ∷ codes "print" ∷ codes "program" ∷ codes "p" ∷ codes "use" ∷ codes "call" ∷ []) [] ((unit (at 1 1)
    u.Module (name 1 1 8) [] no_statements ((procedure false Subroutine (name 4 2 12) [] ((declares (declaration (Integer Four) (allocatable ∷ [])
    ((entity (name 7 2 44) (Some (deferred (None ∷ []))) None) ∷ []))) ∷ []) (statements (acts (at 2 50) (allocate ((parts (name 7 2 59) (within
    (arguments (value None (four (at 2 61) 4)) no_arguments)) no_parts) ∷ []) None)) (statements (acts (at 2 66) (assign (parts (name 7 2 66) bare
    no_parts) (four (at 2 70) 7))) no_statements)) (at 2 73)) ∷ (procedure false Subroutine (name 10 3 12) [] ((declares (declaration (Integer Four)
    (allocatable ∷ []) ((entity (name 7 3 44) (Some (deferred (None ∷ []))) None) ∷ []))) ∷ []) (statements (acts (at 3 50) (allocate ((parts (name 7
    3 59) (within (arguments (value None (four (at 3 61) 4)) no_arguments)) no_parts) ∷ []) None)) (statements (acts (at 3 66) (print ((designator
    (parts (name 7 3 75) bare no_parts)) ∷ []))) no_statements)) (at 3 78)) ∷ []) (at 4 1)) ∷ (unit (at 5 1) u.Program (name 13 5 9) [] (statements
    (acts (at 5 19) (call (name 4 5 24) [])) (statements (acts (at 5 32) (call (name 10 5 37) [])) no_statements)) [] (at 5 45)) ∷ [])) (looks (((
      4,
      One 0,
    ) ∷ (10, One 1) ∷ []) ∷ ((4, One 0) ∷ (7, One 2) ∷ (10, One 1) ∷ []) ∷ ((4, One 0) ∷ (7, One 3) ∷ (10, One 1) ∷ []) ∷ ((4, One 0) ∷ (
      10,
      One
          1,
    ) ∷ []) ∷ [])) (0 ∷ 1 ∷ [])

abbrev pub sample_17_fresh_words_formed : Global → Type 0
sample_17_fresh_words_formed h = IsWellFormed (built h sample_17_fresh_words_program)

abbrev pub sample_17_fresh_words_shows : Global → Type 0
sample_17_fresh_words_shows h =
    shown (run_of (built h sample_17_fresh_words_program) 2000 granted) ≡ record { bytes = lines (codes " 0 0 0 0" ∷ []); verdict = Finished }

--     program p
--     print *, 12&
--     &34, 'a&
--        & b'
--     end
abbrev pub sample_19_continuation_program : ProgramNode
sample_19_continuation_program = elaborated
    (program (codes "program" ∷ codes "p" ∷ codes "print" ∷ codes "end" ∷ []) ((97 ∷ 32 ∷ 98 ∷ []) ∷ []) ((unit (at 1 1) u.Program (name 1 1 9) []
    (statements (acts (at 2 1) (print ((four (at 2 10) 1234) ∷ (text (at 3 6) 0) ∷ []))) no_statements) [] (at 5 1)) ∷ [])) (looks ([] ∷ [])) (0 ∷
    [])

abbrev pub sample_19_continuation_formed : Global → Type 0
sample_19_continuation_formed h = IsWellFormed (built h sample_19_continuation_program)

abbrev pub sample_19_continuation_shows : Global → Type 0
sample_19_continuation_shows h =
    shown (run_of (built h sample_19_continuation_program) 2000 granted) ≡ record { bytes = lines (codes " 1234 a b" ∷ []); verdict = Finished }

-- These programs make sense, print this and end so.
abbrev pub Meant3Show : Type 0
Meant3Show = (h : Global) →
    sample_10_scalar_final_formed h
    × sample_10_scalar_final_shows h
    × sample_11_deallocate_formed h
    × sample_11_deallocate_shows h
    × sample_11_move_alloc_formed h
    × sample_11_move_alloc_shows h
    × sample_11_stat_formed h
    × sample_11_stat_shows h
    × sample_12_move_to_itself_formed h
    × sample_12_move_to_itself_shows h
    × sample_13_arithmetic_formed h
    × sample_13_arithmetic_shows h
    × sample_13_item_by_item_formed h
    × sample_13_item_by_item_shows h
    × sample_13_overflow_formed h
    × sample_13_overflow_shows h
    × sample_16_no_turns_formed h
    × sample_16_no_turns_shows h
    × sample_16_zero_step_formed h
    × sample_16_zero_step_shows h
    × sample_17_fresh_words_formed h
    × sample_17_fresh_words_shows h
    × sample_19_continuation_formed h
    × sample_19_continuation_shows h
