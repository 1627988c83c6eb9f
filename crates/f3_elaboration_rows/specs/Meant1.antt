-- Programs, each in the text above it, elaborated, and what they print.
use Rattle.std.specs.Prelude.{◌≡◌, false, [], ◌∷◌, None, Some, codes}
use Rattle.std.specs.declared.alloc.Global.{Global}
use Rattle.f3_lookups.specs.declared.lookup.Lookup.TheVariants.{One}
use Rattle.f3_tree.specs.declared.expression.Operator.TheVariants as o
use Rattle.f3_tree.specs.declared.expression.IntegerKind.TheVariants.{Four, Eight}
use Rattle.f3_tree.specs.declared.declaration.Intent.TheVariants.{Out, InOut}
use Rattle.f3_tree.specs.declared.declaration.TypeSpecifier.TheVariants.{Integer, Derived}
use Rattle.f3_tree.specs.declared.program.ProcedureKind.TheVariants.{Subroutine}
use Rattle.f3_tree.specs.declared.program.UnitKind.TheVariants as u
use Rattle.f3_tree.specs.Expressions.{designator, group, chain, no_more, more, no_parts, parts}
use Rattle.f3_tree.specs.Expressions.{bare, within, no_arguments, arguments, value, triplet, absent, present}
use Rattle.f3_tree.specs.Declarations.{deferred, allocatable, intent, declares}
use Rattle.f3_tree.specs.Statements.{assign, call, allocate, deallocate, print, stop}
use Rattle.f3_tree.specs.Statements.{forever, acts, repeats, no_statements, statements}
use Rattle.f3_meaning_whole.specs.Run.{run_of}
use Rattle.f3_meaning_rows.specs.Shown.{shown, lines, granted, Finished, Failed, Stopped}
use Rattle.f3_elaboration.specs.Nodes.{ProgramNode}
use Rattle.f3_elaboration.specs.Program.{elaborated}
use Rattle.f3_elaboration_rows.specs.Trees.{at, name, four, eight, entity, declaration, type_definition, procedure, unit, program, looks}
use Rattle.f3_elaboration_rows.specs.Built.{built}
use Rattle.f3_meaning_whole.specs.Formed.{IsWellFormed}

--     module w; type t; integer, allocatable :: c(:); end type; type(t) :: h, g; contains
--     subroutine p(x); integer, intent(inout) :: x
--     call wipe(h)
--     x = 1; end
--     subroutine wipe(y); type(t), intent(out) :: y; end
--     end
--     program q; use w; allocate(h%c(3)); call p(h%c(1)); print *, size(h%c); end
abbrev pub heap_14_lent_element_out_object_program : ProgramNode
heap_14_lent_element_out_object_program = elaborated
    (program (codes "module" ∷ codes "w" ∷ codes "type" ∷ codes "t" ∷ codes "integer" ∷ codes "allocatable" ∷ codes "c" ∷ codes "end" ∷ codes "h" ∷
    codes "g" ∷ codes "contains" ∷ codes "subroutine" ∷ codes "p" ∷ codes "x" ∷ codes "intent" ∷ codes "inout" ∷ codes "call" ∷ codes "wipe" ∷
    codes "y" ∷ codes "out" ∷ codes "program" ∷ codes "q" ∷ codes "use" ∷ codes "allocate" ∷ codes "print" ∷ codes "size" ∷ []) [] ((unit (at 1 1)
    u.Module (name 1 1 8) ((type_definition (name 3 1 16) None ((declaration (Integer Four) (allocatable ∷ []) ((entity (name 6 1 43) (Some (deferred
    (None ∷ []))) None) ∷ [])) ∷ []) []) ∷ (declares (declaration (Derived (name 3 1 64)) [] ((entity (name 8 1 70) None None) ∷ (entity (name 9 1
    73) None None) ∷ []))) ∷ []) no_statements ((procedure false Subroutine (name 12 2 12) ((name 13 2 14) ∷ []) ((declares (declaration (Integer
    Four) ((intent InOut) ∷ []) ((entity (name 13 2 44) None None) ∷ []))) ∷ []) (statements (acts (at 3 1) (call (name 17 3 6) ((value None
    (designator (parts (name 8 3 11) bare no_parts))) ∷ []))) (statements (acts (at 4 1) (assign (parts (name 13 4 1) bare no_parts) (four (at 4 5)
    1))) no_statements)) (at 4 8)) ∷ (procedure false Subroutine (name 17 5 12) ((name 18 5 17) ∷ []) ((declares (declaration (Derived (name 3 5 26))
    ((intent Out) ∷ []) ((entity (name 18 5 45) None None) ∷ []))) ∷ []) no_statements (at 5 48)) ∷ []) (at 6 1)) ∷ (unit (at 7 1) u.Program (name 21
    7 9) [] (statements (acts (at 7 19) (allocate ((parts (name 8 7 28) bare (parts (name 6 7 30) (within (arguments (value None (four (at 7 32) 3))
    no_arguments)) no_parts)) ∷ []) None)) (statements (acts (at 7 37) (call (name 12 7 42) ((value None (designator (parts (name 8 7 44) bare (parts
    (name 6 7 46) (within (arguments (value None (four (at 7 48) 1)) no_arguments)) no_parts)))) ∷ []))) (statements (acts (at 7 53) (print
    ((designator (parts (name 25 7 62) (within (arguments (value None (designator (parts (name 8 7 67) bare (parts (name 6 7 69) bare no_parts))))
    no_arguments)) no_parts)) ∷ []))) no_statements))) [] (at 7 73)) ∷ [])) (looks (((3, One 0) ∷ (8, One 1) ∷ (9, One 2) ∷ (12, One 3) ∷ (17, One 4)
    ∷ []) ∷ ((3, One 0) ∷ (8, One 1) ∷ (9, One 2) ∷ (12, One 3) ∷ (13, One 5) ∷ (17, One 4) ∷ []) ∷ ((3, One 0) ∷ (8, One 1) ∷ (9, One 2) ∷ (
      12,
      One
          3,
    ) ∷ (17, One 4) ∷ (18, One 6) ∷ []) ∷ ((3, One 0) ∷ (8, One 1) ∷ (9, One 2) ∷ (12, One 3) ∷ (17, One 4) ∷ []) ∷ [])) (0 ∷ 1 ∷ [])

abbrev pub heap_14_lent_element_out_object_formed : Global → Type 0
heap_14_lent_element_out_object_formed h = IsWellFormed (built h heap_14_lent_element_out_object_program)

abbrev pub heap_14_lent_element_out_object_shows : Global → Type 0
heap_14_lent_element_out_object_shows h =
    shown (run_of (built h heap_14_lent_element_out_object_program) 2000 granted) ≡ record { bytes = lines []; verdict = Failed 9 3 1 }

--     module w; integer, allocatable :: v(:), u(:); contains
--     subroutine p(x); integer, intent(inout) :: x(:)
--     call move_alloc(u, v)
--     x = 1; end
--     end
--     program q; use w; allocate(v(3)); allocate(u(1)); call p(v(2:3)); print *, size(v); end
abbrev pub heap_20_lent_section_move_to_program : ProgramNode
heap_20_lent_section_move_to_program = elaborated
    (program (codes "module" ∷ codes "w" ∷ codes "integer" ∷ codes "allocatable" ∷ codes "v" ∷ codes "u" ∷ codes "contains" ∷ codes "subroutine" ∷
    codes "p" ∷ codes "x" ∷ codes "intent" ∷ codes "inout" ∷ codes "call" ∷ codes "move_alloc" ∷ codes "end" ∷ codes "program" ∷ codes "q" ∷
    codes "use" ∷ codes "allocate" ∷ codes "print" ∷ codes "size" ∷ []) [] ((unit (at 1 1) u.Module (name 1 1 8) ((declares (declaration (Integer
    Four) (allocatable ∷ []) ((entity (name 4 1 35) (Some (deferred (None ∷ []))) None) ∷ (entity (name 5 1 41) (Some (deferred (None ∷ []))) None) ∷
    []))) ∷ []) no_statements ((procedure false Subroutine (name 8 2 12) ((name 9 2 14) ∷ []) ((declares (declaration (Integer Four) ((intent InOut)
    ∷ []) ((entity (name 9 2 44) (Some (deferred (None ∷ []))) None) ∷ []))) ∷ []) (statements (acts (at 3 1) (call (name 13 3 6) ((value None
    (designator (parts (name 5 3 17) bare no_parts))) ∷ (value None (designator (parts (name 4 3 20) bare no_parts))) ∷ []))) (statements (acts (at 4
    1) (assign (parts (name 9 4 1) bare no_parts) (four (at 4 5) 1))) no_statements)) (at 4 8)) ∷ []) (at 5 1)) ∷ (unit (at 6 1) u.Program (name 16 6
    9) [] (statements (acts (at 6 19) (allocate ((parts (name 4 6 28) (within (arguments (value None (four (at 6 30) 3)) no_arguments)) no_parts) ∷
    []) None)) (statements (acts (at 6 35) (allocate ((parts (name 5 6 44) (within (arguments (value None (four (at 6 46) 1)) no_arguments))
    no_parts) ∷ []) None)) (statements (acts (at 6 51) (call (name 8 6 56) ((value None (designator (parts (name 4 6 58) (within (arguments (triplet
    (at 6 60) (present (four (at 6 60) 2)) (present (four (at 6 62) 3)) absent) no_arguments)) no_parts))) ∷ []))) (statements (acts (at 6 67) (print
    ((designator (parts (name 20 6 76) (within (arguments (value None (designator (parts (name 4 6 81) bare no_parts))) no_arguments)) no_parts)) ∷
    []))) no_statements)))) [] (at 6 85)) ∷ [])) (looks (((4, One 0) ∷ (5, One 1) ∷ (8, One 2) ∷ []) ∷ ((4, One 0) ∷ (5, One 1) ∷ (8, One 2) ∷ (
      9,
      One 3,
    ) ∷ []) ∷ ((4, One 0) ∷ (5, One 1) ∷ (8, One 2) ∷ []) ∷ [])) (0 ∷ 1 ∷ [])

abbrev pub heap_20_lent_section_move_to_formed : Global → Type 0
heap_20_lent_section_move_to_formed h = IsWellFormed (built h heap_20_lent_section_move_to_program)

abbrev pub heap_20_lent_section_move_to_shows : Global → Type 0
heap_20_lent_section_move_to_shows h =
    shown (run_of (built h heap_20_lent_section_move_to_program) 2000 granted) ≡ record { bytes = lines []; verdict = Failed 9 3 1 }

--     module w; type t; integer, allocatable :: c(:); end type; type(t) :: h, g; contains
--     subroutine p(x); integer, intent(inout) :: x(:)
--     h = g
--     x = 1; end
--     end
--     program q; use w; allocate(h%c(3)); call p(h%c(2:1)); print *, size(h%c); end
abbrev pub heap_26_lent_empty_section_assign_object_program : ProgramNode
heap_26_lent_empty_section_assign_object_program = elaborated
    (program (codes "module" ∷ codes "w" ∷ codes "type" ∷ codes "t" ∷ codes "integer" ∷ codes "allocatable" ∷ codes "c" ∷ codes "end" ∷ codes "h" ∷
    codes "g" ∷ codes "contains" ∷ codes "subroutine" ∷ codes "p" ∷ codes "x" ∷ codes "intent" ∷ codes "inout" ∷ codes "program" ∷ codes "q" ∷
    codes "use" ∷ codes "allocate" ∷ codes "call" ∷ codes "print" ∷ codes "size" ∷ []) [] ((unit (at 1 1) u.Module (name 1 1 8) ((type_definition
    (name 3 1 16) None ((declaration (Integer Four) (allocatable ∷ []) ((entity (name 6 1 43) (Some (deferred (None ∷ []))) None) ∷ [])) ∷ []) []) ∷
    (declares (declaration (Derived (name 3 1 64)) [] ((entity (name 8 1 70) None None) ∷ (entity (name 9 1 73) None None) ∷ []))) ∷ [])
    no_statements ((procedure false Subroutine (name 12 2 12) ((name 13 2 14) ∷ []) ((declares (declaration (Integer Four) ((intent InOut) ∷ [])
    ((entity (name 13 2 44) (Some (deferred (None ∷ []))) None) ∷ []))) ∷ []) (statements (acts (at 3 1) (assign (parts (name 8 3 1) bare no_parts)
    (designator (parts (name 9 3 5) bare no_parts)))) (statements (acts (at 4 1) (assign (parts (name 13 4 1) bare no_parts) (four (at 4 5) 1)))
    no_statements)) (at 4 8)) ∷ []) (at 5 1)) ∷ (unit (at 6 1) u.Program (name 17 6 9) [] (statements (acts (at 6 19) (allocate ((parts (name 8 6 28)
    bare (parts (name 6 6 30) (within (arguments (value None (four (at 6 32) 3)) no_arguments)) no_parts)) ∷ []) None)) (statements (acts (at 6 37)
    (call (name 12 6 42) ((value None (designator (parts (name 8 6 44) bare (parts (name 6 6 46) (within (arguments (triplet (at 6 48) (present (four
    (at 6 48) 2)) (present (four (at 6 50) 1)) absent) no_arguments)) no_parts)))) ∷ []))) (statements (acts (at 6 55) (print ((designator (parts
    (name 22 6 64) (within (arguments (value None (designator (parts (name 8 6 69) bare (parts (name 6 6 71) bare no_parts)))) no_arguments))
    no_parts)) ∷ []))) no_statements))) [] (at 6 75)) ∷ [])) (looks (((3, One 0) ∷ (8, One 1) ∷ (9, One 2) ∷ (12, One 3) ∷ []) ∷ ((3, One 0) ∷ (
      8,
      One 1,
    ) ∷ (9, One 2) ∷ (12, One 3) ∷ (13, One 4) ∷ []) ∷ ((3, One 0) ∷ (8, One 1) ∷ (9, One 2) ∷ (12, One 3) ∷ []) ∷ [])) (0 ∷ 1 ∷ [])

abbrev pub heap_26_lent_empty_section_assign_object_formed : Global → Type 0
heap_26_lent_empty_section_assign_object_formed h = IsWellFormed (built h heap_26_lent_empty_section_assign_object_program)

abbrev pub heap_26_lent_empty_section_assign_object_shows : Global → Type 0
heap_26_lent_empty_section_assign_object_shows h =
    shown (run_of (built h heap_26_lent_empty_section_assign_object_program) 2000 granted) ≡ record { bytes = lines []; verdict = Failed 9 3 1 }

--     module w; integer, allocatable :: v(:), u(:); integer :: k; contains
--     subroutine p(x); integer, intent(inout) :: x(:)
--     deallocate(v, stat=k)
--     x = 1; end
--     end
--     program q; use w; allocate(v(3)); call p(v); print *, k, size(v); end
abbrev pub heap_32_lent_whole_array_deallocate_stat_program : ProgramNode
heap_32_lent_whole_array_deallocate_stat_program = elaborated
    (program (codes "module" ∷ codes "w" ∷ codes "integer" ∷ codes "allocatable" ∷ codes "v" ∷ codes "u" ∷ codes "k" ∷ codes "contains" ∷
    codes "subroutine" ∷ codes "p" ∷ codes "x" ∷ codes "intent" ∷ codes "inout" ∷ codes "deallocate" ∷ codes "stat" ∷ codes "end" ∷ codes "program" ∷
    codes "q" ∷ codes "use" ∷ codes "allocate" ∷ codes "call" ∷ codes "print" ∷ codes "size" ∷ []) [] ((unit (at 1 1) u.Module (name 1 1 8)
    ((declares (declaration (Integer Four) (allocatable ∷ []) ((entity (name 4 1 35) (Some (deferred (None ∷ []))) None) ∷ (entity (name 5 1 41)
    (Some (deferred (None ∷ []))) None) ∷ []))) ∷ (declares (declaration (Integer Four) [] ((entity (name 6 1 58) None None) ∷ []))) ∷ [])
    no_statements ((procedure false Subroutine (name 9 2 12) ((name 10 2 14) ∷ []) ((declares (declaration (Integer Four) ((intent InOut) ∷ [])
    ((entity (name 10 2 44) (Some (deferred (None ∷ []))) None) ∷ []))) ∷ []) (statements (acts (at 3 1) (deallocate ((parts (name 4 3 12) bare
    no_parts) ∷ []) (Some (parts (name 6 3 20) bare no_parts)))) (statements (acts (at 4 1) (assign (parts (name 10 4 1) bare no_parts) (four (at 4
    5) 1))) no_statements)) (at 4 8)) ∷ []) (at 5 1)) ∷ (unit (at 6 1) u.Program (name 17 6 9) [] (statements (acts (at 6 19) (allocate ((parts (name
    4 6 28) (within (arguments (value None (four (at 6 30) 3)) no_arguments)) no_parts) ∷ []) None)) (statements (acts (at 6 35) (call (name 9 6 40)
    ((value None (designator (parts (name 4 6 42) bare no_parts))) ∷ []))) (statements (acts (at 6 46) (print ((designator (parts (name 6 6 55) bare
    no_parts)) ∷ (designator (parts (name 22 6 58) (within (arguments (value None (designator (parts (name 4 6 63) bare no_parts))) no_arguments))
    no_parts)) ∷ []))) no_statements))) [] (at 6 67)) ∷ [])) (looks (((4, One 0) ∷ (5, One 1) ∷ (6, One 2) ∷ (9, One 3) ∷ []) ∷ ((4, One 0) ∷ (
      5,
      One
          1,
    ) ∷ (6, One 2) ∷ (9, One 3) ∷ (10, One 4) ∷ []) ∷ ((4, One 0) ∷ (5, One 1) ∷ (6, One 2) ∷ (9, One 3) ∷ []) ∷ [])) (0 ∷ 1 ∷ [])

abbrev pub heap_32_lent_whole_array_deallocate_stat_formed : Global → Type 0
heap_32_lent_whole_array_deallocate_stat_formed h = IsWellFormed (built h heap_32_lent_whole_array_deallocate_stat_program)

abbrev pub heap_32_lent_whole_array_deallocate_stat_shows : Global → Type 0
heap_32_lent_whole_array_deallocate_stat_shows h =
    shown (run_of (built h heap_32_lent_whole_array_deallocate_stat_program) 2000 granted) ≡ record {
      bytes = lines (codes " 9 3" ∷ []);
      verdict =
          Finished;
    }

--     module w; type t; integer, allocatable :: c(:); end type; type(t) :: h, g; contains
--     subroutine p(x); integer, intent(inout) :: x(:)
--     call wipe(h)
--     x = 1; end
--     subroutine wipe(y); type(t), intent(out) :: y; end
--     end
--     program q; use w; allocate(h%c(3)); call p(h%c); print *, size(h%c); end
abbrev pub heap_38_lent_whole_array_out_object_program : ProgramNode
heap_38_lent_whole_array_out_object_program = elaborated
    (program (codes "module" ∷ codes "w" ∷ codes "type" ∷ codes "t" ∷ codes "integer" ∷ codes "allocatable" ∷ codes "c" ∷ codes "end" ∷ codes "h" ∷
    codes "g" ∷ codes "contains" ∷ codes "subroutine" ∷ codes "p" ∷ codes "x" ∷ codes "intent" ∷ codes "inout" ∷ codes "call" ∷ codes "wipe" ∷
    codes "y" ∷ codes "out" ∷ codes "program" ∷ codes "q" ∷ codes "use" ∷ codes "allocate" ∷ codes "print" ∷ codes "size" ∷ []) [] ((unit (at 1 1)
    u.Module (name 1 1 8) ((type_definition (name 3 1 16) None ((declaration (Integer Four) (allocatable ∷ []) ((entity (name 6 1 43) (Some (deferred
    (None ∷ []))) None) ∷ [])) ∷ []) []) ∷ (declares (declaration (Derived (name 3 1 64)) [] ((entity (name 8 1 70) None None) ∷ (entity (name 9 1
    73) None None) ∷ []))) ∷ []) no_statements ((procedure false Subroutine (name 12 2 12) ((name 13 2 14) ∷ []) ((declares (declaration (Integer
    Four) ((intent InOut) ∷ []) ((entity (name 13 2 44) (Some (deferred (None ∷ []))) None) ∷ []))) ∷ []) (statements (acts (at 3 1) (call (name 17 3
    6) ((value None (designator (parts (name 8 3 11) bare no_parts))) ∷ []))) (statements (acts (at 4 1) (assign (parts (name 13 4 1) bare no_parts)
    (four (at 4 5) 1))) no_statements)) (at 4 8)) ∷ (procedure false Subroutine (name 17 5 12) ((name 18 5 17) ∷ []) ((declares (declaration (Derived
    (name 3 5 26)) ((intent Out) ∷ []) ((entity (name 18 5 45) None None) ∷ []))) ∷ []) no_statements (at 5 48)) ∷ []) (at 6 1)) ∷ (unit (at 7 1)
    u.Program (name 21 7 9) [] (statements (acts (at 7 19) (allocate ((parts (name 8 7 28) bare (parts (name 6 7 30) (within (arguments (value None
    (four (at 7 32) 3)) no_arguments)) no_parts)) ∷ []) None)) (statements (acts (at 7 37) (call (name 12 7 42) ((value None (designator (parts (name
    8 7 44) bare (parts (name 6 7 46) bare no_parts)))) ∷ []))) (statements (acts (at 7 50) (print ((designator (parts (name 25 7 59) (within
    (arguments (value None (designator (parts (name 8 7 64) bare (parts (name 6 7 66) bare no_parts)))) no_arguments)) no_parts)) ∷ [])))
    no_statements))) [] (at 7 70)) ∷ [])) (looks (((3, One 0) ∷ (8, One 1) ∷ (9, One 2) ∷ (12, One 3) ∷ (17, One 4) ∷ []) ∷ ((3, One 0) ∷ (8, One 1)
    ∷ (9, One 2) ∷ (12, One 3) ∷ (13, One 5) ∷ (17, One 4) ∷ []) ∷ ((3, One 0) ∷ (8, One 1) ∷ (9, One 2) ∷ (12, One 3) ∷ (17, One 4) ∷ (18, One 6) ∷
    []) ∷ ((3, One 0) ∷ (8, One 1) ∷ (9, One 2) ∷ (12, One 3) ∷ (17, One 4) ∷ []) ∷ [])) (0 ∷ 1 ∷ [])

abbrev pub heap_38_lent_whole_array_out_object_formed : Global → Type 0
heap_38_lent_whole_array_out_object_formed h = IsWellFormed (built h heap_38_lent_whole_array_out_object_program)

abbrev pub heap_38_lent_whole_array_out_object_shows : Global → Type 0
heap_38_lent_whole_array_out_object_shows h =
    shown (run_of (built h heap_38_lent_whole_array_out_object_program) 2000 granted) ≡ record { bytes = lines []; verdict = Failed 9 3 1 }

--     module w; type t; integer, allocatable :: c(:); end type; type(t), allocatable :: o, u; contains
--     subroutine p(x); integer, allocatable, intent(inout) :: x(:)
--     call move_alloc(u, o)
--     x = 1; end
--     end
--     program q; use w; allocate(o); allocate(u); allocate(o%c(3)); call p(o%c); print *, size(o%c); end
abbrev pub heap_44_lent_allocatable_dummy_move_to_program : ProgramNode
heap_44_lent_allocatable_dummy_move_to_program = elaborated
    (program (codes "module" ∷ codes "w" ∷ codes "type" ∷ codes "t" ∷ codes "integer" ∷ codes "allocatable" ∷ codes "c" ∷ codes "end" ∷ codes "o" ∷
    codes "u" ∷ codes "contains" ∷ codes "subroutine" ∷ codes "p" ∷ codes "x" ∷ codes "intent" ∷ codes "inout" ∷ codes "call" ∷ codes "move_alloc" ∷
    codes "program" ∷ codes "q" ∷ codes "use" ∷ codes "allocate" ∷ codes "print" ∷ codes "size" ∷ []) [] ((unit (at 1 1) u.Module (name 1 1 8)
    ((type_definition (name 3 1 16) None ((declaration (Integer Four) (allocatable ∷ []) ((entity (name 6 1 43) (Some (deferred (None ∷ []))) None) ∷
    [])) ∷ []) []) ∷ (declares (declaration (Derived (name 3 1 64)) (allocatable ∷ []) ((entity (name 8 1 83) None None) ∷ (entity (name 9 1 86) None
    None) ∷ []))) ∷ []) no_statements ((procedure false Subroutine (name 12 2 12) ((name 13 2 14) ∷ []) ((declares (declaration (Integer Four)
    (allocatable ∷ (intent InOut) ∷ []) ((entity (name 13 2 57) (Some (deferred (None ∷ []))) None) ∷ []))) ∷ []) (statements (acts (at 3 1) (call
    (name 17 3 6) ((value None (designator (parts (name 9 3 17) bare no_parts))) ∷ (value None (designator (parts (name 8 3 20) bare no_parts))) ∷
    []))) (statements (acts (at 4 1) (assign (parts (name 13 4 1) bare no_parts) (four (at 4 5) 1))) no_statements)) (at 4 8)) ∷ []) (at 5 1)) ∷
    (unit (at 6 1) u.Program (name 19 6 9) [] (statements (acts (at 6 19) (allocate ((parts (name 8 6 28) bare no_parts) ∷ []) None)) (statements
    (acts (at 6 32) (allocate ((parts (name 9 6 41) bare no_parts) ∷ []) None)) (statements (acts (at 6 45) (allocate ((parts (name 8 6 54) bare
    (parts (name 6 6 56) (within (arguments (value None (four (at 6 58) 3)) no_arguments)) no_parts)) ∷ []) None)) (statements (acts (at 6 63) (call
    (name 12 6 68) ((value None (designator (parts (name 8 6 70) bare (parts (name 6 6 72) bare no_parts)))) ∷ []))) (statements (acts (at 6 76)
    (print ((designator (parts (name 23 6 85) (within (arguments (value None (designator (parts (name 8 6 90) bare (parts (name 6 6 92) bare
    no_parts)))) no_arguments)) no_parts)) ∷ []))) no_statements))))) [] (at 6 96)) ∷ [])) (looks (((3, One 0) ∷ (8, One 1) ∷ (9, One 2) ∷ (
      12,
      One
          3,
    ) ∷ []) ∷ ((3, One 0) ∷ (8, One 1) ∷ (9, One 2) ∷ (12, One 3) ∷ (13, One 4) ∷ []) ∷ ((3, One 0) ∷ (8, One 1) ∷ (9, One 2) ∷ (12, One 3) ∷ []) ∷
    [])) (0 ∷ 1 ∷ [])

abbrev pub heap_44_lent_allocatable_dummy_move_to_formed : Global → Type 0
heap_44_lent_allocatable_dummy_move_to_formed h = IsWellFormed (built h heap_44_lent_allocatable_dummy_move_to_program)

abbrev pub heap_44_lent_allocatable_dummy_move_to_shows : Global → Type 0
heap_44_lent_allocatable_dummy_move_to_shows h =
    shown (run_of (built h heap_44_lent_allocatable_dummy_move_to_program) 2000 granted) ≡ record { bytes = lines []; verdict = Failed 9 3 1 }

--     module w; type t; integer :: id = 0; contains; final :: fin; end type; type s; type(t), allocatable :: o; end type; type(s) :: h, g; contains
--     subroutine fin(x); type(t), intent(inout) :: x
--     h = g
--     end
--     end
--     program q; use w; allocate(h%o); deallocate(h%o); print *, allocated(h%o); end
abbrev pub heap_50_lent_final_assign_object_program : ProgramNode
heap_50_lent_final_assign_object_program = elaborated
    (program (codes "module" ∷ codes "w" ∷ codes "type" ∷ codes "t" ∷ codes "integer" ∷ codes "id" ∷ codes "contains" ∷ codes "final" ∷ codes "fin" ∷
    codes "end" ∷ codes "s" ∷ codes "allocatable" ∷ codes "o" ∷ codes "h" ∷ codes "g" ∷ codes "subroutine" ∷ codes "x" ∷ codes "intent" ∷
    codes "inout" ∷ codes "program" ∷ codes "q" ∷ codes "use" ∷ codes "allocate" ∷ codes "deallocate" ∷ codes "print" ∷ codes "allocated" ∷ []) []
    ((unit (at 1 1) u.Module (name 1 1 8) ((type_definition (name 3 1 16) None ((declaration (Integer Four) [] ((entity (name 5 1 30) None (Some
    (four (at 1 35) 0))) ∷ [])) ∷ []) ((name 8 1 57) ∷ [])) ∷ (type_definition (name 10 1 77) None ((declaration (Derived (name 3 1 85)) (allocatable
    ∷ []) ((entity (name 12 1 104) None None) ∷ [])) ∷ []) []) ∷ (declares (declaration (Derived (name 10 1 122)) [] ((entity (name 13 1 128) None
    None) ∷ (entity (name 14 1 131) None None) ∷ []))) ∷ []) no_statements ((procedure false Subroutine (name 8 2 12) ((name 16 2 16) ∷ [])
    ((declares (declaration (Derived (name 3 2 25)) ((intent InOut) ∷ []) ((entity (name 16 2 46) None None) ∷ []))) ∷ []) (statements (acts (at 3 1)
    (assign (parts (name 13 3 1) bare no_parts) (designator (parts (name 14 3 5) bare no_parts)))) no_statements) (at 4 1)) ∷ []) (at 5 1)) ∷ (unit
    (at 6 1) u.Program (name 20 6 9) [] (statements (acts (at 6 19) (allocate ((parts (name 13 6 28) bare (parts (name 12 6 30) bare no_parts)) ∷ [])
    None)) (statements (acts (at 6 34) (deallocate ((parts (name 13 6 45) bare (parts (name 12 6 47) bare no_parts)) ∷ []) None)) (statements (acts
    (at 6 51) (print ((designator (parts (name 25 6 60) (within (arguments (value None (designator (parts (name 13 6 70) bare (parts (name 12 6 72)
    bare no_parts)))) no_arguments)) no_parts)) ∷ []))) no_statements))) [] (at 6 76)) ∷ [])) (looks (((3, One 0) ∷ (8, One 4) ∷ (10, One 1) ∷ (
      13,
      One 2,
    ) ∷ (14, One 3) ∷ []) ∷ ((3, One 0) ∷ (8, One 4) ∷ (10, One 1) ∷ (13, One 2) ∷ (14, One 3) ∷ (16, One 5) ∷ []) ∷ ((3, One 0) ∷ (8, One 4) ∷
    (10, One 1) ∷ (13, One 2) ∷ (14, One 3) ∷ []) ∷ [])) (0 ∷ 1 ∷ [])

abbrev pub heap_50_lent_final_assign_object_formed : Global → Type 0
heap_50_lent_final_assign_object_formed h = IsWellFormed (built h heap_50_lent_final_assign_object_program)

abbrev pub heap_50_lent_final_assign_object_shows : Global → Type 0
heap_50_lent_final_assign_object_shows h =
    shown (run_of (built h heap_50_lent_final_assign_object_program) 2000 granted) ≡ record { bytes = lines []; verdict = Failed 9 3 1 }

--     program p; integer :: aaaaaaaaaaaaaaaaaaaaaaaaaaaaaaaaaaaaaaaaaaaaaaaaaaaaaaaaaaaaaaa = 5; print *, aaaaaaaaaaaaaaaaaaaaaaaaaaaaaaaaaaaaaaaaaaaaaaaaaaaaaaaaaaaaaaa; end
abbrev pub hostile_02_name_63_program : ProgramNode
hostile_02_name_63_program = elaborated
    (program (codes "program" ∷ codes "p" ∷ codes "integer" ∷ codes "aaaaaaaaaaaaaaaaaaaaaaaaaaaaaaaaaaaaaaaaaaaaaaaaaaaaaaaaaaaaaaa" ∷ codes "print"
    ∷ codes "end" ∷ []) [] ((unit (at 1 1) u.Program (name 1 1 9) ((declares (declaration (Integer Four) [] ((entity (name 3 1 23) None (Some (four
    (at 1 89) 5))) ∷ []))) ∷ []) (statements (acts (at 1 92) (print ((designator (parts (name 3 1 101) bare no_parts)) ∷ []))) no_statements) [] (at
    1 166)) ∷ [])) (looks (((3, One 0) ∷ []) ∷ [])) (0 ∷ [])

abbrev pub hostile_02_name_63_formed : Global → Type 0
hostile_02_name_63_formed h = IsWellFormed (built h hostile_02_name_63_program)

abbrev pub hostile_02_name_63_shows : Global → Type 0
hostile_02_name_63_shows h =
    shown (run_of (built h hostile_02_name_63_program) 2000 granted) ≡ record { bytes = lines (codes " 5" ∷ []); verdict = Finished }

--     program p
--     do
--     do
--     do
--     do
--     do
--     do
--     do
--     do
--     do
--     do
--     do
--     do
--     do
--     do
--     do
--     do
--     do
--     do
--     do
--     do
--     do
--     do
--     do
--     do
--     do
--     do
--     do
--     do
--     do
--     do
--     do
--     do
--     do
--     do
--     do
--     do
--     do
--     do
--     do
--     do
--     do
--     do
--     do
--     do
--     do
--     do
--     do
--     do
--     do
--     do
--     do
--     do
--     do
--     do
--     do
--     do
--     do
--     do
--     do
--     do
--     do
--     do
--     do
--     do
--     print *, 64; stop
--     end do
--     end do
--     end do
--     end do
--     end do
--     end do
--     end do
--     end do
--     end do
--     end do
--     end do
--     end do
--     end do
--     end do
--     end do
--     end do
--     end do
--     end do
--     end do
--     end do
--     end do
--     end do
--     end do
--     end do
--     end do
--     end do
--     end do
--     end do
--     end do
--     end do
--     end do
--     end do
--     end do
--     end do
--     end do
--     end do
--     end do
--     end do
--     end do
--     end do
--     end do
--     end do
--     end do
--     end do
--     end do
--     end do
--     end do
--     end do
--     end do
--     end do
--     end do
--     end do
--     end do
--     end do
--     end do
--     end do
--     end do
--     end do
--     end do
--     end do
--     end do
--     end do
--     end do
--     end do
--     end
abbrev pub hostile_03_do_64_program : ProgramNode
hostile_03_do_64_program = elaborated
    (program (codes "program" ∷ codes "p" ∷ codes "do" ∷ codes "print" ∷ codes "stop" ∷ codes "end" ∷ []) [] ((unit (at 1 1) u.Program (name 1 1 9)
    [] (statements (repeats (at 2 1) forever (statements (repeats (at 3 1) forever (statements (repeats (at 4 1) forever (statements (repeats (at 5
    1) forever (statements (repeats (at 6 1) forever (statements (repeats (at 7 1) forever (statements (repeats (at 8 1) forever (statements (repeats
    (at 9 1) forever (statements (repeats (at 10 1) forever (statements (repeats (at 11 1) forever (statements (repeats (at 12 1) forever (statements
    (repeats (at 13 1) forever (statements (repeats (at 14 1) forever (statements (repeats (at 15 1) forever (statements (repeats (at 16 1) forever
    (statements (repeats (at 17 1) forever (statements (repeats (at 18 1) forever (statements (repeats (at 19 1) forever (statements (repeats (at 20
    1) forever (statements (repeats (at 21 1) forever (statements (repeats (at 22 1) forever (statements (repeats (at 23 1) forever (statements
    (repeats (at 24 1) forever (statements (repeats (at 25 1) forever (statements (repeats (at 26 1) forever (statements (repeats (at 27 1) forever
    (statements (repeats (at 28 1) forever (statements (repeats (at 29 1) forever (statements (repeats (at 30 1) forever (statements (repeats (at 31
    1) forever (statements (repeats (at 32 1) forever (statements (repeats (at 33 1) forever (statements (repeats (at 34 1) forever (statements
    (repeats (at 35 1) forever (statements (repeats (at 36 1) forever (statements (repeats (at 37 1) forever (statements (repeats (at 38 1) forever
    (statements (repeats (at 39 1) forever (statements (repeats (at 40 1) forever (statements (repeats (at 41 1) forever (statements (repeats (at 42
    1) forever (statements (repeats (at 43 1) forever (statements (repeats (at 44 1) forever (statements (repeats (at 45 1) forever (statements
    (repeats (at 46 1) forever (statements (repeats (at 47 1) forever (statements (repeats (at 48 1) forever (statements (repeats (at 49 1) forever
    (statements (repeats (at 50 1) forever (statements (repeats (at 51 1) forever (statements (repeats (at 52 1) forever (statements (repeats (at 53
    1) forever (statements (repeats (at 54 1) forever (statements (repeats (at 55 1) forever (statements (repeats (at 56 1) forever (statements
    (repeats (at 57 1) forever (statements (repeats (at 58 1) forever (statements (repeats (at 59 1) forever (statements (repeats (at 60 1) forever
    (statements (repeats (at 61 1) forever (statements (repeats (at 62 1) forever (statements (repeats (at 63 1) forever (statements (repeats (at 64
    1) forever (statements (repeats (at 65 1) forever (statements (acts (at 66 1) (print ((four (at 66 10) 64) ∷ []))) (statements (acts (at 66 14)
    (stop None)) no_statements))) no_statements)) no_statements)) no_statements)) no_statements)) no_statements)) no_statements)) no_statements))
    no_statements)) no_statements)) no_statements)) no_statements)) no_statements)) no_statements)) no_statements)) no_statements)) no_statements))
    no_statements)) no_statements)) no_statements)) no_statements)) no_statements)) no_statements)) no_statements)) no_statements)) no_statements))
    no_statements)) no_statements)) no_statements)) no_statements)) no_statements)) no_statements)) no_statements)) no_statements)) no_statements))
    no_statements)) no_statements)) no_statements)) no_statements)) no_statements)) no_statements)) no_statements)) no_statements)) no_statements))
    no_statements)) no_statements)) no_statements)) no_statements)) no_statements)) no_statements)) no_statements)) no_statements)) no_statements))
    no_statements)) no_statements)) no_statements)) no_statements)) no_statements)) no_statements)) no_statements)) no_statements)) no_statements))
    no_statements)) no_statements)) no_statements) [] (at 131 1)) ∷ [])) (looks ([] ∷ [])) (0 ∷ [])

abbrev pub hostile_03_do_64_formed : Global → Type 0
hostile_03_do_64_formed h = IsWellFormed (built h hostile_03_do_64_program)

abbrev pub hostile_03_do_64_shows : Global → Type 0
hostile_03_do_64_shows h =
    shown (run_of (built h hostile_03_do_64_program) 2000 granted) ≡ record { bytes = lines (codes " 64" ∷ []); verdict = Stopped None }

--     program p; print *, ((((((((((((((((((((((((((((((((((((((((((((((((((((((((((((((((7)))))))))))))))))))))))))))))))))))))))))))))))))))))))))))))))); end
abbrev pub hostile_03_parentheses_64_program : ProgramNode
hostile_03_parentheses_64_program = elaborated
    (program (codes "program" ∷ codes "p" ∷ codes "print" ∷ codes "end" ∷ []) [] ((unit (at 1 1) u.Program (name 1 1 9) [] (statements (acts (at 1
    12) (print ((group (at 1 21) (group (at 1 22) (group (at 1 23) (group (at 1 24) (group (at 1 25) (group (at 1 26) (group (at 1 27) (group (at 1
    28) (group (at 1 29) (group (at 1 30) (group (at 1 31) (group (at 1 32) (group (at 1 33) (group (at 1 34) (group (at 1 35) (group (at 1 36)
    (group (at 1 37) (group (at 1 38) (group (at 1 39) (group (at 1 40) (group (at 1 41) (group (at 1 42) (group (at 1 43) (group (at 1 44) (group
    (at 1 45) (group (at 1 46) (group (at 1 47) (group (at 1 48) (group (at 1 49) (group (at 1 50) (group (at 1 51) (group (at 1 52) (group (at 1 53)
    (group (at 1 54) (group (at 1 55) (group (at 1 56) (group (at 1 57) (group (at 1 58) (group (at 1 59) (group (at 1 60) (group (at 1 61) (group
    (at 1 62) (group (at 1 63) (group (at 1 64) (group (at 1 65) (group (at 1 66) (group (at 1 67) (group (at 1 68) (group (at 1 69) (group (at 1 70)
    (group (at 1 71) (group (at 1 72) (group (at 1 73) (group (at 1 74) (group (at 1 75) (group (at 1 76) (group (at 1 77) (group (at 1 78) (group
    (at 1 79) (group (at 1 80) (group (at 1 81) (group (at 1 82) (group (at 1 83) (group (at 1 84) (four (at 1 85)
    7))))))))))))))))))))))))))))))))))))))))))))))))))))))))))))))))) ∷ []))) no_statements) [] (at 1 152)) ∷ [])) (looks ([] ∷ [])) (0 ∷ [])

abbrev pub hostile_03_parentheses_64_formed : Global → Type 0
hostile_03_parentheses_64_formed h = IsWellFormed (built h hostile_03_parentheses_64_program)

abbrev pub hostile_03_parentheses_64_shows : Global → Type 0
hostile_03_parentheses_64_shows h =
    shown (run_of (built h hostile_03_parentheses_64_program) 2000 granted) ≡ record { bytes = lines (codes " 7" ∷ []); verdict = Finished }

--     program p; integer(8) :: i; integer :: j; i = 2147483647; i = i + 1; print *, i, 9223372036854775807_8
--     j = i
--     end
abbrev pub kinds_01_wide_program : ProgramNode
kinds_01_wide_program = elaborated
    (program (codes "program" ∷ codes "p" ∷ codes "integer" ∷ codes "i" ∷ codes "j" ∷ codes "print" ∷ codes "end" ∷ []) [] ((unit (at 1 1) u.Program
    (name 1 1 9) ((declares (declaration (Integer Eight) [] ((entity (name 3 1 26) None None) ∷ []))) ∷ (declares (declaration (Integer Four) []
    ((entity (name 4 1 40) None None) ∷ []))) ∷ []) (statements (acts (at 1 43) (assign (parts (name 3 1 43) bare no_parts) (four (at 1 47)
    2147483647))) (statements (acts (at 1 59) (assign (parts (name 3 1 59) bare no_parts) (chain (designator (parts (name 3 1 63) bare no_parts))
    (more o.Add (four (at 1 67) 1) no_more)))) (statements (acts (at 1 70) (print ((designator (parts (name 3 1 79) bare no_parts)) ∷ (eight (at 1
    82) 9223372036854775807) ∷ []))) (statements (acts (at 2 1) (assign (parts (name 4 2 1) bare no_parts) (designator (parts (name 3 2 5) bare
    no_parts)))) no_statements)))) [] (at 3 1)) ∷ [])) (looks (((3, One 0) ∷ (4, One 1) ∷ []) ∷ [])) (0 ∷ [])

abbrev pub kinds_01_wide_formed : Global → Type 0
kinds_01_wide_formed h = IsWellFormed (built h kinds_01_wide_program)

abbrev pub kinds_01_wide_shows : Global → Type 0
kinds_01_wide_shows h =
    shown (run_of (built h kinds_01_wide_program) 2000 granted) ≡ record {
      bytes = lines (codes " 2147483648 9223372036854775807" ∷ []);
      verdict =
          Failed 1 2 1;
    }

--     program p; print *, 2147483647 + 1_8; end
abbrev pub kinds_02_mixed_program : ProgramNode
kinds_02_mixed_program = elaborated
    (program (codes "program" ∷ codes "p" ∷ codes "print" ∷ codes "end" ∷ []) [] ((unit (at 1 1) u.Program (name 1 1 9) [] (statements (acts (at 1
    12) (print ((chain (four (at 1 21) 2147483647) (more o.Add (eight (at 1 34) 1) no_more)) ∷ []))) no_statements) [] (at 1 39)) ∷ [])) (looks ([] ∷
    [])) (0 ∷ [])

abbrev pub kinds_02_mixed_formed : Global → Type 0
kinds_02_mixed_formed h = IsWellFormed (built h kinds_02_mixed_program)

abbrev pub kinds_02_mixed_shows : Global → Type 0
kinds_02_mixed_shows h =
    shown (run_of (built h kinds_02_mixed_program) 2000 granted) ≡ record { bytes = lines (codes " 2147483648" ∷ []); verdict = Finished }

-- These programs make sense, print this and end so.
abbrev pub Meant1Show : Type 0
Meant1Show = (h : Global) →
    heap_14_lent_element_out_object_formed h
    × heap_14_lent_element_out_object_shows h
    × heap_20_lent_section_move_to_formed h
    × heap_20_lent_section_move_to_shows h
    × heap_26_lent_empty_section_assign_object_formed h
    × heap_26_lent_empty_section_assign_object_shows h
    × heap_32_lent_whole_array_deallocate_stat_formed h
    × heap_32_lent_whole_array_deallocate_stat_shows h
    × heap_38_lent_whole_array_out_object_formed h
    × heap_38_lent_whole_array_out_object_shows h
    × heap_44_lent_allocatable_dummy_move_to_formed h
    × heap_44_lent_allocatable_dummy_move_to_shows h
    × heap_50_lent_final_assign_object_formed h
    × heap_50_lent_final_assign_object_shows h
    × hostile_02_name_63_formed h
    × hostile_02_name_63_shows h
    × hostile_03_do_64_formed h
    × hostile_03_do_64_shows h
    × hostile_03_parentheses_64_formed h
    × hostile_03_parentheses_64_shows h
    × kinds_01_wide_formed h
    × kinds_01_wide_shows h
    × kinds_02_mixed_formed h
    × kinds_02_mixed_shows h
