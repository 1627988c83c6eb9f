-- Programs, each in the text above it, elaborated, and what they print.
use Rattle.std.specs.Prelude.{◌≡◌, false, [], ◌∷◌, None, Some, codes}
use Rattle.std.specs.declared.alloc.Global.{Global}
use Rattle.f3_lookups.specs.declared.lookup.Lookup.TheVariants.{One}
use Rattle.f3_tree.specs.declared.expression.Operator.TheVariants as o
use Rattle.f3_tree.specs.declared.expression.IntegerKind.TheVariants.{Four}
use Rattle.f3_tree.specs.declared.declaration.Intent.TheVariants.{InOut}
use Rattle.f3_tree.specs.declared.declaration.TypeSpecifier.TheVariants.{Integer, Derived}
use Rattle.f3_tree.specs.declared.program.ProcedureKind.TheVariants.{Subroutine}
use Rattle.f3_tree.specs.declared.program.UnitKind.TheVariants as u
use Rattle.f3_tree.specs.Expressions.{text, designator, chain, no_more, more, no_parts, parts}
use Rattle.f3_tree.specs.Expressions.{bare, within, no_arguments, arguments, value, triplet, absent, present}
use Rattle.f3_tree.specs.Declarations.{explicit, deferred, allocatable, intent, declares}
use Rattle.f3_tree.specs.Statements.{assign, allocate, print}
use Rattle.f3_tree.specs.Statements.{counted, acts, repeats, associates, no_statements, statements}
use Rattle.f3_meaning_whole.specs.Run.{run_of}
use Rattle.f3_meaning_rows.specs.Shown.{shown, granted, Failed}
use Rattle.f3_elaboration.specs.Nodes.{ProgramNode}
use Rattle.f3_elaboration.specs.Program.{elaborated}
use Rattle.f3_elaboration_rows.specs.Trees.{at, name, four, bounds, entity, declaration, type_definition, procedure, unit, association, program, looks}
use Rattle.f3_elaboration_rows.specs.Built.{built}
use Rattle.f3_meaning_whole.specs.Formed.{IsWellFormed}

--     program p; integer, allocatable :: i
--     do i = 1/0, 2; end do; end
abbrev pub bounds_before_variable_program : ProgramNode
bounds_before_variable_program = elaborated
    (program (codes "program" ∷ codes "p" ∷ codes "integer" ∷ codes "allocatable" ∷ codes "i" ∷ codes "do" ∷ codes "end" ∷ []) [] ((unit (at 1 1)
    u.Program (name 1 1 9) ((declares (declaration (Integer Four) (allocatable ∷ []) ((entity (name 4 1 36) None None) ∷ []))) ∷ []) (statements
    (repeats (at 2 1) (counted (name 4 2 4) (chain (four (at 2 8) 1) (more o.Divide (four (at 2 10) 0) no_more)) (four (at 2 13) 2) None)
    no_statements) no_statements) [] (at 2 24)) ∷ [])) (looks (((4, One 0) ∷ []) ∷ [])) (0 ∷ [])

abbrev pub bounds_before_variable_formed : Global → Type 0
bounds_before_variable_formed h = IsWellFormed (built h bounds_before_variable_program)

abbrev pub bounds_before_variable_shows : Global → Type 0
bounds_before_variable_shows h =
    shown (run_of (built h bounds_before_variable_program) 20 granted) ≡ record { bytes = []; verdict = Failed 2 2 1 }

--     module m; type t; integer :: i; contains; final :: f; end type; contains; subroutine f(x); type(t), intent(inout) :: x(:)
--     print *, "f"; end; end
--     program p; use m; type(t) :: x(2), y(3)
--     x = y; end
abbrev pub shapes_before_destroying_program : ProgramNode
shapes_before_destroying_program = elaborated
    (program (codes "module" ∷ codes "m" ∷ codes "type" ∷ codes "t" ∷ codes "integer" ∷ codes "i" ∷ codes "contains" ∷ codes "final" ∷ codes "f" ∷
    codes "end" ∷ codes "subroutine" ∷ codes "x" ∷ codes "intent" ∷ codes "inout" ∷ codes "print" ∷ codes "program" ∷ codes "p" ∷ codes "use" ∷
    codes "y" ∷ []) ((102 ∷ []) ∷ []) ((unit (at 1 1) u.Module (name 1 1 8) ((type_definition (name 3 1 16) None ((declaration (Integer Four) []
    ((entity (name 5 1 30) None None) ∷ [])) ∷ []) ((name 8 1 52) ∷ [])) ∷ []) no_statements ((procedure false Subroutine (name 8 1 86) ((name 11 1
    88) ∷ []) ((declares (declaration (Derived (name 3 1 97)) ((intent InOut) ∷ []) ((entity (name 11 1 118) (Some (deferred (None ∷ []))) None) ∷
    []))) ∷ []) (statements (acts (at 2 1) (print ((text (at 2 10) 0) ∷ []))) no_statements) (at 2 15)) ∷ []) (at 2 20)) ∷ (unit (at 3 1) u.Program
    (name 16 3 9) ((declares (declaration (Derived (name 3 3 24)) [] ((entity (name 11 3 30) (Some (explicit ((bounds None (four (at 3 32) 2)) ∷
    []))) None) ∷ (entity (name 18 3 36) (Some (explicit ((bounds None (four (at 3 38) 3)) ∷ []))) None) ∷ []))) ∷ []) (statements (acts (at 4 1)
    (assign (parts (name 11 4 1) bare no_parts) (designator (parts (name 18 4 5) bare no_parts)))) no_statements) [] (at 4 8)) ∷ [])) (looks (((
      3,
      One 0,
    ) ∷ (8, One 1) ∷ []) ∷ ((3, One 0) ∷ (8, One 1) ∷ (11, One 2) ∷ []) ∷ ((3, One 0) ∷ (8, One 1) ∷ (11, One 3) ∷ (18, One 4) ∷ []) ∷ [])) (0 ∷
    1 ∷ [])

abbrev pub shapes_before_destroying_formed : Global → Type 0
shapes_before_destroying_formed h = IsWellFormed (built h shapes_before_destroying_program)

abbrev pub shapes_before_destroying_shows : Global → Type 0
shapes_before_destroying_shows h =
    shown (run_of (built h shapes_before_destroying_program) 20 granted) ≡ record { bytes = []; verdict = Failed 7 4 1 }

--     program p; integer :: a(2, 2); a = 0
--     print *, a(9, 1:2:0); end
abbrev pub step_before_bounds_program : ProgramNode
step_before_bounds_program = elaborated
    (program (codes "program" ∷ codes "p" ∷ codes "integer" ∷ codes "a" ∷ codes "print" ∷ codes "end" ∷ []) [] ((unit (at 1 1) u.Program (name 1 1 9)
    ((declares (declaration (Integer Four) [] ((entity (name 3 1 23) (Some (explicit ((bounds None (four (at 1 25) 2)) ∷ (bounds None (four (at 1 28)
    2)) ∷ []))) None) ∷ []))) ∷ []) (statements (acts (at 1 32) (assign (parts (name 3 1 32) bare no_parts) (four (at 1 36) 0))) (statements (acts
    (at 2 1) (print ((designator (parts (name 3 2 10) (within (arguments (value None (four (at 2 12) 9)) (arguments (triplet (at 2 15) (present (four
    (at 2 15) 1)) (present (four (at 2 17) 2)) (present (four (at 2 19) 0))) no_arguments))) no_parts)) ∷ []))) no_statements)) [] (at 2 23)) ∷ []))
    (looks (((3, One 0) ∷ []) ∷ [])) (0 ∷ [])

abbrev pub step_before_bounds_formed : Global → Type 0
step_before_bounds_formed h = IsWellFormed (built h step_before_bounds_program)

abbrev pub step_before_bounds_shows : Global → Type 0
step_before_bounds_shows h =
    shown (run_of (built h step_before_bounds_program) 20 granted) ≡ record { bytes = []; verdict = Failed 8 2 1 }

--     program p; integer, allocatable :: a(:)
--     print *, a(1/0); end
abbrev pub subscripts_before_contents_program : ProgramNode
subscripts_before_contents_program = elaborated
    (program (codes "program" ∷ codes "p" ∷ codes "integer" ∷ codes "allocatable" ∷ codes "a" ∷ codes "print" ∷ codes "end" ∷ []) [] ((unit (at 1 1)
    u.Program (name 1 1 9) ((declares (declaration (Integer Four) (allocatable ∷ []) ((entity (name 4 1 36) (Some (deferred (None ∷ []))) None) ∷
    []))) ∷ []) (statements (acts (at 2 1) (print ((designator (parts (name 4 2 10) (within (arguments (value None (chain (four (at 2 12) 1) (more
    o.Divide (four (at 2 14) 0) no_more))) no_arguments)) no_parts)) ∷ []))) no_statements) [] (at 2 18)) ∷ [])) (looks (((4, One 0) ∷ []) ∷ [])) (0
    ∷ [])

abbrev pub subscripts_before_contents_formed : Global → Type 0
subscripts_before_contents_formed h = IsWellFormed (built h subscripts_before_contents_program)

abbrev pub subscripts_before_contents_shows : Global → Type 0
subscripts_before_contents_shows h =
    shown (run_of (built h subscripts_before_contents_program) 20 granted) ≡ record { bytes = []; verdict = Failed 2 2 1 }

--     program p; integer, allocatable :: v(:); allocate(v(5:4))
--     associate (z => v); print *, lbound(z, 1), size(z(:2)); end associate; end
abbrev pub associate_from_one_program : ProgramNode
associate_from_one_program = elaborated
    (program (codes "program" ∷ codes "p" ∷ codes "integer" ∷ codes "allocatable" ∷ codes "v" ∷ codes "allocate" ∷ codes "associate" ∷ codes "z" ∷
    codes "print" ∷ codes "lbound" ∷ codes "size" ∷ codes "end" ∷ []) [] ((unit (at 1 1) u.Program (name 1 1 9) ((declares (declaration (Integer
    Four) (allocatable ∷ []) ((entity (name 4 1 36) (Some (deferred (None ∷ []))) None) ∷ []))) ∷ []) (statements (acts (at 1 42) (allocate ((parts
    (name 4 1 51) (within (arguments (triplet (at 1 53) (present (four (at 1 53) 5)) (present (four (at 1 55) 4)) absent) no_arguments)) no_parts) ∷
    []) None)) (statements (associates (at 2 1) ((association (name 7 2 12) (designator (parts (name 4 2 17) bare no_parts))) ∷ []) (statements (acts
    (at 2 21) (print ((designator (parts (name 9 2 30) (within (arguments (value None (designator (parts (name 7 2 37) bare no_parts))) (arguments
    (value None (four (at 2 40) 1)) no_arguments))) no_parts)) ∷ (designator (parts (name 10 2 44) (within (arguments (value None (designator (parts
    (name 7 2 49) (within (arguments (triplet (at 2 51) absent (present (four (at 2 52) 2)) absent) no_arguments)) no_parts))) no_arguments))
    no_parts)) ∷ []))) no_statements)) no_statements)) [] (at 2 72)) ∷ [])) (looks (((4, One 0) ∷ []) ∷ ((4, One 0) ∷ (7, One 1) ∷ []) ∷ [])) (0 ∷
    [])

abbrev pub associate_from_one_formed : Global → Type 0
associate_from_one_formed h = IsWellFormed (built h associate_from_one_program)

abbrev pub associate_from_one_shows : Global → Type 0
associate_from_one_shows h =
    shown (run_of (built h associate_from_one_program) 20 granted) ≡ record { bytes = (codes " 1"); verdict = Failed 3 2 21 }

-- These programs make sense, print this and end so.
abbrev pub Meant11Show : Type 0
Meant11Show = (h : Global) →
    bounds_before_variable_formed h
    × bounds_before_variable_shows h
    × shapes_before_destroying_formed h
    × shapes_before_destroying_shows h
    × step_before_bounds_formed h
    × step_before_bounds_shows h
    × subscripts_before_contents_formed h
    × subscripts_before_contents_shows h
    × associate_from_one_formed h
    × associate_from_one_shows h
