-- Programs, each in the text above it, elaborated, and what they print.
use Rattle.std.specs.Prelude.{◌≡◌, false, [], ◌∷◌, None, Some, codes}
use Rattle.std.specs.declared.alloc.Global.{Global}
use Rattle.f3_lookups.specs.declared.lookup.Lookup.TheVariants.{One, Several}
use Rattle.f3_tree.specs.declared.expression.Operator.TheVariants as o
use Rattle.f3_tree.specs.declared.expression.IntegerKind.TheVariants.{Four}
use Rattle.f3_tree.specs.declared.declaration.Accessibility.TheVariants.{Public}
use Rattle.f3_tree.specs.declared.declaration.TypeSpecifier.TheVariants.{Integer, Derived}
use Rattle.f3_tree.specs.declared.program.ProcedureKind.TheVariants.{Function}
use Rattle.f3_tree.specs.declared.program.UnitKind.TheVariants as u
use Rattle.f3_tree.specs.Expressions.{text, designator, array, chain, no_more, more, no_trees, trees, no_parts, parts}
use Rattle.f3_tree.specs.Expressions.{bare, within, no_arguments, arguments, value}
use Rattle.f3_tree.specs.Declarations.{explicit, deferred, save, allocatable, declares, saves}
use Rattle.f3_tree.specs.Statements.{assign, call, allocate, print, range, values}
use Rattle.f3_tree.specs.Statements.{acts, selects, no_statements, statements}
use Rattle.f3_tree.specs.Statements.{no_cases, case_block}
use Rattle.f3_meaning_whole.specs.Run.{run_of}
use Rattle.f3_meaning_rows.specs.Shown.{shown, lines, granted, Finished, Failed}
use Rattle.f3_elaboration.specs.Nodes.{ProgramNode}
use Rattle.f3_elaboration.specs.Program.{elaborated}
use Rattle.f3_elaboration_rows.specs.Trees.{at, name, four, bounds, entity, declaration, access_statement, type_definition, procedure, unit, program}
use Rattle.f3_elaboration_rows.specs.Trees.{looks}
use Rattle.f3_elaboration_rows.specs.Built.{built}
use Rattle.f3_meaning_whole.specs.Formed.{IsWellFormed}

--     module a; integer :: n = 1; end
--     module b; integer :: n = 2; end
--     program p; use a; use b; print *, 5; end
abbrev pub sample_20_not_referred_program : ProgramNode
sample_20_not_referred_program = elaborated
    (program (codes "module" ∷ codes "a" ∷ codes "integer" ∷ codes "n" ∷ codes "end" ∷ codes "b" ∷ codes "program" ∷ codes "p" ∷ codes "use" ∷
    codes "print" ∷ []) [] ((unit (at 1 1) u.Module (name 1 1 8) ((declares (declaration (Integer Four) [] ((entity (name 3 1 22) None (Some (four
    (at 1 26) 1))) ∷ []))) ∷ []) no_statements [] (at 1 29)) ∷ (unit (at 2 1) u.Module (name 5 2 8) ((declares (declaration (Integer Four) []
    ((entity (name 3 2 22) None (Some (four (at 2 26) 2))) ∷ []))) ∷ []) no_statements [] (at 2 29)) ∷ (unit (at 3 1) u.Program (name 7 3 9) []
    (statements (acts (at 3 26) (print ((four (at 3 35) 5) ∷ []))) no_statements) [] (at 3 38)) ∷ [])) (looks (((3, One 0) ∷ []) ∷ ((3, One 1) ∷ [])
    ∷ ((3, Several) ∷ []) ∷ [])) (0 ∷ 1 ∷ 2 ∷ [])

abbrev pub sample_20_not_referred_formed : Global → Type 0
sample_20_not_referred_formed h = IsWellFormed (built h sample_20_not_referred_program)

abbrev pub sample_20_not_referred_shows : Global → Type 0
sample_20_not_referred_shows h =
    shown (run_of (built h sample_20_not_referred_program) 2000 granted) ≡ record { bytes = lines (codes " 5" ∷ []); verdict = Finished }

--     program p; integer :: a(3)
--     a(4) = 1
--     end
abbrev pub sample_23_bounds_program : ProgramNode
sample_23_bounds_program = elaborated
    (program (codes "program" ∷ codes "p" ∷ codes "integer" ∷ codes "a" ∷ codes "end" ∷ []) [] ((unit (at 1 1) u.Program (name 1 1 9) ((declares
    (declaration (Integer Four) [] ((entity (name 3 1 23) (Some (explicit ((bounds None (four (at 1 25) 3)) ∷ []))) None) ∷ []))) ∷ []) (statements
    (acts (at 2 1) (assign (parts (name 3 2 1) (within (arguments (value None (four (at 2 3) 4)) no_arguments)) no_parts) (four (at 2 8) 1)))
    no_statements) [] (at 3 1)) ∷ [])) (looks (((3, One 0) ∷ []) ∷ [])) (0 ∷ [])

abbrev pub sample_23_bounds_formed : Global → Type 0
sample_23_bounds_formed h = IsWellFormed (built h sample_23_bounds_program)

abbrev pub sample_23_bounds_shows : Global → Type 0
sample_23_bounds_shows h =
    shown (run_of (built h sample_23_bounds_program) 2000 granted) ≡ record { bytes = lines []; verdict = Failed 3 2 1 }

--     program p; integer :: a(3)
--     a = [1, 2]
--     end
abbrev pub sample_23_shapes_program : ProgramNode
sample_23_shapes_program = elaborated
    (program (codes "program" ∷ codes "p" ∷ codes "integer" ∷ codes "a" ∷ codes "end" ∷ []) [] ((unit (at 1 1) u.Program (name 1 1 9) ((declares
    (declaration (Integer Four) [] ((entity (name 3 1 23) (Some (explicit ((bounds None (four (at 1 25) 3)) ∷ []))) None) ∷ []))) ∷ []) (statements
    (acts (at 2 1) (assign (parts (name 3 2 1) bare no_parts) (array (at 2 5) (trees (four (at 2 6) 1) (trees (four (at 2 9) 2) no_trees)))))
    no_statements) [] (at 3 1)) ∷ [])) (looks (((3, One 0) ∷ []) ∷ [])) (0 ∷ [])

abbrev pub sample_23_shapes_formed : Global → Type 0
sample_23_shapes_formed h = IsWellFormed (built h sample_23_shapes_program)

abbrev pub sample_23_shapes_shows : Global → Type 0
sample_23_shapes_shows h =
    shown (run_of (built h sample_23_shapes_program) 2000 granted) ≡ record { bytes = lines []; verdict = Failed 7 2 1 }

--     program p
--     print *, 'abc'&
--     &'def'
--     end
abbrev pub choice_03_1_program : ProgramNode
choice_03_1_program = elaborated
    (program (codes "program" ∷ codes "p" ∷ codes "print" ∷ codes "end" ∷ []) ((97 ∷ 98 ∷ 99 ∷ 39 ∷ 100 ∷ 101 ∷ 102 ∷ []) ∷ []) ((unit (at 1 1)
    u.Program (name 1 1 9) [] (statements (acts (at 2 1) (print ((text (at 2 10) 0) ∷ []))) no_statements) [] (at 4 1)) ∷ [])) (looks ([] ∷ [])) (0 ∷
    [])

abbrev pub choice_03_1_formed : Global → Type 0
choice_03_1_formed h = IsWellFormed (built h choice_03_1_program)

abbrev pub choice_03_1_shows : Global → Type 0
choice_03_1_shows h =
    shown (run_of (built h choice_03_1_program) 2000 granted) ≡ record { bytes = lines (codes " abc'def" ∷ []); verdict = Finished }

--     program p; select case (3); end select; print *, 1; end
abbrev pub choice_06_1_program : ProgramNode
choice_06_1_program = elaborated
    (program (codes "program" ∷ codes "p" ∷ codes "select" ∷ codes "case" ∷ codes "end" ∷ codes "print" ∷ []) [] ((unit (at 1 1) u.Program (name 1 1
    9) [] (statements (selects (at 1 12) (four (at 1 25) 3) no_cases) (statements (acts (at 1 41) (print ((four (at 1 50) 1) ∷ []))) no_statements))
    [] (at 1 53)) ∷ [])) (looks ([] ∷ [])) (0 ∷ [])

abbrev pub choice_06_1_formed : Global → Type 0
choice_06_1_formed h = IsWellFormed (built h choice_06_1_program)

abbrev pub choice_06_1_shows : Global → Type 0
choice_06_1_shows h =
    shown (run_of (built h choice_06_1_program) 2000 granted) ≡ record { bytes = lines (codes " 1" ∷ []); verdict = Finished }

--     program p;; print *; end
abbrev pub choice_10_1_program : ProgramNode
choice_10_1_program = elaborated
    (program (codes "program" ∷ codes "p" ∷ codes "print" ∷ codes "end" ∷ []) [] ((unit (at 1 1) u.Program (name 1 1 9) [] (statements (acts (at 1
    13) (print [])) no_statements) [] (at 1 22)) ∷ [])) (looks ([] ∷ [])) (0 ∷ [])

abbrev pub choice_10_1_formed : Global → Type 0
choice_10_1_formed h = IsWellFormed (built h choice_10_1_program)

abbrev pub choice_10_1_shows : Global → Type 0
choice_10_1_shows h =
    shown (run_of (built h choice_10_1_program) 2000 granted) ≡ record { bytes = lines (codes "" ∷ []); verdict = Finished }

--     module a; integer :: n = 1; end
--     module b; integer :: n = 2; end
--     module c; use a; use b; public :: n; end
--     program p; use c, only: n; end
abbrev pub choice_12_1_program : ProgramNode
choice_12_1_program = elaborated
    (program (codes "module" ∷ codes "a" ∷ codes "integer" ∷ codes "n" ∷ codes "end" ∷ codes "b" ∷ codes "c" ∷ codes "use" ∷ codes "public" ∷
    codes "program" ∷ codes "p" ∷ codes "only" ∷ []) [] ((unit (at 1 1) u.Module (name 1 1 8) ((declares (declaration (Integer Four) [] ((entity
    (name 3 1 22) None (Some (four (at 1 26) 1))) ∷ []))) ∷ []) no_statements [] (at 1 29)) ∷ (unit (at 2 1) u.Module (name 5 2 8) ((declares
    (declaration (Integer Four) [] ((entity (name 3 2 22) None (Some (four (at 2 26) 2))) ∷ []))) ∷ []) no_statements [] (at 2 29)) ∷ (unit (at 3 1)
    u.Module (name 6 3 8) ((access_statement Public ((name 3 3 35) ∷ [])) ∷ []) no_statements [] (at 3 38)) ∷ (unit (at 4 1) u.Program (name 10 4 9)
    [] no_statements [] (at 4 28)) ∷ [])) (looks (((3, One 0) ∷ []) ∷ ((3, One 1) ∷ []) ∷ ((3, Several) ∷ []) ∷ ((3, Several) ∷ []) ∷ [])) (0 ∷ 1 ∷ 2
    ∷ 3 ∷ [])

abbrev pub choice_12_1_formed : Global → Type 0
choice_12_1_formed h = IsWellFormed (built h choice_12_1_program)

abbrev pub choice_12_1_shows : Global → Type 0
choice_12_1_shows h =
    shown (run_of (built h choice_12_1_program) 2000 granted) ≡ record { bytes = lines []; verdict = Finished }

--     module k; type t; integer :: i = 4; end type; end
--     module m; contains; type(t) function f(); use k; f = t(5); end; end
--     program p; end
abbrev pub choice_17_1_program : ProgramNode
choice_17_1_program = elaborated
    (program (codes "module" ∷ codes "k" ∷ codes "type" ∷ codes "t" ∷ codes "integer" ∷ codes "i" ∷ codes "end" ∷ codes "m" ∷ codes "contains" ∷
    codes "function" ∷ codes "f" ∷ codes "use" ∷ codes "program" ∷ codes "p" ∷ []) [] ((unit (at 1 1) u.Module (name 1 1 8) ((type_definition (name 3
    1 16) None ((declaration (Integer Four) [] ((entity (name 5 1 30) None (Some (four (at 1 34) 4))) ∷ [])) ∷ []) []) ∷ []) no_statements [] (at 1
    47)) ∷ (unit (at 2 1) u.Module (name 7 2 8) [] no_statements ((procedure false (Function (Some (Derived (name 3 2 26))) None) (name 10 2 38) []
    [] (statements (acts (at 2 50) (assign (parts (name 10 2 50) bare no_parts) (designator (parts (name 3 2 54) (within (arguments (value None (four
    (at 2 56) 5)) no_arguments)) no_parts)))) no_statements) (at 2 60)) ∷ []) (at 2 65)) ∷ (unit (at 3 1) u.Program (name 13 3 9) [] no_statements []
    (at 3 12)) ∷ [])) (looks (((3, One 0) ∷ []) ∷ ((10, One 1) ∷ []) ∷ ((3, One 0) ∷ (10, One 2) ∷ []) ∷ [] ∷ [])) (0 ∷ 1 ∷ 2 ∷ [])

abbrev pub choice_17_1_formed : Global → Type 0
choice_17_1_formed h = IsWellFormed (built h choice_17_1_program)

abbrev pub choice_17_1_shows : Global → Type 0
choice_17_1_shows h =
    shown (run_of (built h choice_17_1_program) 2000 granted) ≡ record { bytes = lines []; verdict = Finished }

--     module m; save; integer, save :: q; save; end
--     program p; end
abbrev pub choice_19_2_program : ProgramNode
choice_19_2_program = elaborated
    (program (codes "module" ∷ codes "m" ∷ codes "save" ∷ codes "integer" ∷ codes "q" ∷ codes "end" ∷ codes "program" ∷ codes "p" ∷ []) [] ((unit (at
    1 1) u.Module (name 1 1 8) ((saves (at 1 11)) ∷ (declares (declaration (Integer Four) (save ∷ []) ((entity (name 4 1 34) None None) ∷ []))) ∷
    (saves (at 1 37)) ∷ []) no_statements [] (at 1 43)) ∷ (unit (at 2 1) u.Program (name 7 2 9) [] no_statements [] (at 2 12)) ∷ [])) (looks (((
      4,
      One 0,
    ) ∷ []) ∷ [] ∷ [])) (0 ∷ 1 ∷ [])

abbrev pub choice_19_2_formed : Global → Type 0
choice_19_2_formed h = IsWellFormed (built h choice_19_2_program)

abbrev pub choice_19_2_shows : Global → Type 0
choice_19_2_shows h =
    shown (run_of (built h choice_19_2_program) 2000 granted) ≡ record { bytes = lines []; verdict = Finished }

--     program p; integer, allocatable :: a, b; a = 4; call move_alloc(to=b, from=a); print *, b; end
abbrev pub choice_36_2_program : ProgramNode
choice_36_2_program = elaborated
    (program (codes "program" ∷ codes "p" ∷ codes "integer" ∷ codes "allocatable" ∷ codes "a" ∷ codes "b" ∷ codes "call" ∷ codes "move_alloc" ∷
    codes "to" ∷ codes "from" ∷ codes "print" ∷ codes "end" ∷ []) [] ((unit (at 1 1) u.Program (name 1 1 9) ((declares (declaration (Integer Four)
    (allocatable ∷ []) ((entity (name 4 1 36) None None) ∷ (entity (name 5 1 39) None None) ∷ []))) ∷ []) (statements (acts (at 1 42) (assign (parts
    (name 4 1 42) bare no_parts) (four (at 1 46) 4))) (statements (acts (at 1 49) (call (name 7 1 54) ((value (Some (name 8 1 65)) (designator (parts
    (name 5 1 68) bare no_parts))) ∷ (value (Some (name 9 1 71)) (designator (parts (name 4 1 76) bare no_parts))) ∷ []))) (statements (acts (at 1
    80) (print ((designator (parts (name 5 1 89) bare no_parts)) ∷ []))) no_statements))) [] (at 1 92)) ∷ [])) (looks (((4, One 0) ∷ (5, One 1) ∷ [])
    ∷ [])) (0 ∷ [])

abbrev pub choice_36_2_formed : Global → Type 0
choice_36_2_formed h = IsWellFormed (built h choice_36_2_program)

abbrev pub choice_36_2_shows : Global → Type 0
choice_36_2_shows h =
    shown (run_of (built h choice_36_2_program) 2000 granted) ≡ record { bytes = lines (codes " 4" ∷ []); verdict = Finished }

--     program p; select case (4); case (5:4); case (4:5); print *, 1; end select; end
abbrev pub choice_46_1_program : ProgramNode
choice_46_1_program = elaborated
    (program (codes "program" ∷ codes "p" ∷ codes "select" ∷ codes "case" ∷ codes "print" ∷ codes "end" ∷ []) [] ((unit (at 1 1) u.Program (name 1 1
    9) [] (statements (selects (at 1 12) (four (at 1 25) 4) (case_block (at 1 29) (values ((range (four (at 1 35) 5) (four (at 1 37) 4)) ∷ []))
    no_statements (case_block (at 1 41) (values ((range (four (at 1 47) 4) (four (at 1 49) 5)) ∷ [])) (statements (acts (at 1 53) (print ((four (at 1
    62) 1) ∷ []))) no_statements) no_cases))) no_statements) [] (at 1 77)) ∷ [])) (looks ([] ∷ [])) (0 ∷ [])

abbrev pub choice_46_1_formed : Global → Type 0
choice_46_1_formed h = IsWellFormed (built h choice_46_1_program)

abbrev pub choice_46_1_shows : Global → Type 0
choice_46_1_shows h =
    shown (run_of (built h choice_46_1_program) 2000 granted) ≡ record { bytes = lines (codes " 1" ∷ []); verdict = Finished }

--     module m; type t; integer, allocatable :: c(:); end type; end
--     program p; use m; type(t), allocatable :: x; allocate(x%c(1/0)); end
abbrev pub choice_49_1_program : ProgramNode
choice_49_1_program = elaborated
    (program (codes "module" ∷ codes "m" ∷ codes "type" ∷ codes "t" ∷ codes "integer" ∷ codes "allocatable" ∷ codes "c" ∷ codes "end" ∷
    codes "program" ∷ codes "p" ∷ codes "use" ∷ codes "x" ∷ codes "allocate" ∷ []) [] ((unit (at 1 1) u.Module (name 1 1 8) ((type_definition (name 3
    1 16) None ((declaration (Integer Four) (allocatable ∷ []) ((entity (name 6 1 43) (Some (deferred (None ∷ []))) None) ∷ [])) ∷ []) []) ∷ [])
    no_statements [] (at 1 59)) ∷ (unit (at 2 1) u.Program (name 9 2 9) ((declares (declaration (Derived (name 3 2 24)) (allocatable ∷ []) ((entity
    (name 11 2 43) None None) ∷ []))) ∷ []) (statements (acts (at 2 46) (allocate ((parts (name 11 2 55) bare (parts (name 6 2 57) (within (arguments
    (value None (chain (four (at 2 59) 1) (more o.Divide (four (at 2 61) 0) no_more))) no_arguments)) no_parts)) ∷ []) None)) no_statements) [] (at 2
    66)) ∷ [])) (looks (((3, One 0) ∷ []) ∷ ((3, One 0) ∷ (11, One 1) ∷ []) ∷ [])) (0 ∷ 1 ∷ [])

abbrev pub choice_49_1_formed : Global → Type 0
choice_49_1_formed h = IsWellFormed (built h choice_49_1_program)

abbrev pub choice_49_1_shows : Global → Type 0
choice_49_1_shows h =
    shown (run_of (built h choice_49_1_program) 2000 granted) ≡ record { bytes = lines []; verdict = Failed 4 2 46 }

-- These programs make sense, print this and end so.
abbrev pub Meant4Show : Type 0
Meant4Show = (h : Global) →
    sample_20_not_referred_formed h
    × sample_20_not_referred_shows h
    × sample_23_bounds_formed h
    × sample_23_bounds_shows h
    × sample_23_shapes_formed h
    × sample_23_shapes_shows h
    × choice_03_1_formed h
    × choice_03_1_shows h
    × choice_06_1_formed h
    × choice_06_1_shows h
    × choice_10_1_formed h
    × choice_10_1_shows h
    × choice_12_1_formed h
    × choice_12_1_shows h
    × choice_17_1_formed h
    × choice_17_1_shows h
    × choice_19_2_formed h
    × choice_19_2_shows h
    × choice_36_2_formed h
    × choice_36_2_shows h
    × choice_46_1_formed h
    × choice_46_1_shows h
    × choice_49_1_formed h
    × choice_49_1_shows h
