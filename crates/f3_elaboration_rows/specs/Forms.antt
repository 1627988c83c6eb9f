-- Programs, each in the text above it, elaborated, and what they print.
use Rattle.std.specs.Prelude.{◌≡◌, pos, true, false, [], ◌∷◌, None, Some, codes}
use Rattle.std.specs.declared.alloc.Global.{Global}
use Rattle.f3_lookups.specs.declared.lookup.Lookup.TheVariants.{One}
use Rattle.f3_tree.specs.declared.expression.Sign.TheVariants.{Plus, Minus}
use Rattle.f3_tree.specs.declared.expression.Relation.TheVariants as r
use Rattle.f3_tree.specs.declared.expression.Operator.TheVariants as o
use Rattle.f3_tree.specs.declared.expression.IntegerKind.TheVariants.{Four, Eight}
use Rattle.f3_tree.specs.declared.declaration.Intent.TheVariants.{In, Out, InOut}
use Rattle.f3_tree.specs.declared.declaration.TypeSpecifier.TheVariants.{Integer, Logical, Derived}
use Rattle.f3_tree.specs.declared.program.ProcedureKind.TheVariants.{Subroutine, Function}
use Rattle.f3_tree.specs.declared.program.UnitKind.TheVariants as u
use Rattle.f3_tree.specs.Expressions.{truth, text, designator, group, array, signed, negation, comparison, chain, no_more, more, no_trees, trees, no_parts}
use Rattle.f3_tree.specs.Expressions.{parts}
use Rattle.f3_tree.specs.Expressions.{bare, within, no_arguments, arguments, value, triplet, absent, present}
use Rattle.f3_tree.specs.Declarations.{explicit, deferred, parameter, save, allocatable, intent, declares}
use Rattle.f3_tree.specs.Statements.{assign, call, allocate, deallocate, print, stop, return, cycle, exit, one, up_to, range, values, default}
use Rattle.f3_tree.specs.Statements.{forever, counted, acts, acts_if, branches, selects, repeats, associates, no_statements, statements}
use Rattle.f3_tree.specs.Statements.{no_branches, branch, no_alternative, alternative, no_cases, case_block}
use Rattle.f3_meaning_whole.specs.Run.{run_of}
use Rattle.f3_meaning_rows.specs.Shown.{shown, lines, granted, Finished, Stopped}
use Rattle.f3_elaboration.specs.Nodes.{ProgramNode}
use Rattle.f3_elaboration.specs.Program.{elaborated}
use Rattle.f3_elaboration_rows.specs.Trees.{at, name, four, eight, bounds, entity, declaration, type_definition, procedure, unit, association, program}
use Rattle.f3_elaboration_rows.specs.Trees.{looks}
use Rattle.f3_elaboration_rows.specs.Built.{built}
use Rattle.f3_meaning_whole.specs.Formed.{IsWellFormed}

--     module m; type t; integer :: a; logical :: b = .true.; integer, allocatable :: v(:); end type; contains
--     subroutine s(x, y, z); integer, intent(in) :: x; integer, intent(inout) :: y; integer, intent(in) :: z(:)
--     y = x + size(z); print *, x, y, z; end
--     end
--     program p; use m; type(t) :: q; integer, allocatable :: w(:); integer :: n
--     call s(z=[1, 2], y=n, x=5); q = t(v=w, a=4); print *, q%a, q%b, allocated(q%v)
--     allocate(w(2:3)); w = 6; q = t(1, v=w, b=.false.); print *, q%b, lbound(q%v, 1), q%v
--     q = t(2, .true., (w)); print *, lbound(q%v, 1), q%v; end
abbrev pub keywords_program : ProgramNode
keywords_program = elaborated
    (program (codes "module" ∷ codes "m" ∷ codes "type" ∷ codes "t" ∷ codes "integer" ∷ codes "a" ∷ codes "logical" ∷ codes "b" ∷ codes "allocatable"
    ∷ codes "v" ∷ codes "end" ∷ codes "contains" ∷ codes "subroutine" ∷ codes "s" ∷ codes "x" ∷ codes "y" ∷ codes "z" ∷ codes "intent" ∷ codes "in" ∷
    codes "inout" ∷ codes "size" ∷ codes "print" ∷ codes "program" ∷ codes "p" ∷ codes "use" ∷ codes "q" ∷ codes "w" ∷ codes "n" ∷ codes "call" ∷
    codes "allocated" ∷ codes "allocate" ∷ codes "lbound" ∷ []) [] ((unit (at 1 1) u.Module (name 1 1 8) ((type_definition (name 3 1 16) None
    ((declaration (Integer Four) [] ((entity (name 5 1 30) None None) ∷ [])) ∷ (declaration Logical [] ((entity (name 7 1 44) None (Some (truth (at 1
    48) true))) ∷ [])) ∷ (declaration (Integer Four) (allocatable ∷ []) ((entity (name 9 1 80) (Some (deferred (None ∷ []))) None) ∷ [])) ∷ []) []) ∷
    []) no_statements ((procedure false Subroutine (name 13 2 12) ((name 14 2 14) ∷ (name 15 2 17) ∷ (name 16 2 20) ∷ []) ((declares (declaration
    (Integer Four) ((intent In) ∷ []) ((entity (name 14 2 47) None None) ∷ []))) ∷ (declares (declaration (Integer Four) ((intent InOut) ∷ [])
    ((entity (name 15 2 76) None None) ∷ []))) ∷ (declares (declaration (Integer Four) ((intent In) ∷ []) ((entity (name 16 2 102) (Some (deferred
    (None ∷ []))) None) ∷ []))) ∷ []) (statements (acts (at 3 1) (assign (parts (name 15 3 1) bare no_parts) (chain (designator (parts (name 14 3 5)
    bare no_parts)) (more o.Add (designator (parts (name 20 3 9) (within (arguments (value None (designator (parts (name 16 3 14) bare no_parts)))
    no_arguments)) no_parts)) no_more)))) (statements (acts (at 3 18) (print ((designator (parts (name 14 3 27) bare no_parts)) ∷ (designator (parts
    (name 15 3 30) bare no_parts)) ∷ (designator (parts (name 16 3 33) bare no_parts)) ∷ []))) no_statements)) (at 3 36)) ∷ []) (at 4 1)) ∷ (unit (at
    5 1) u.Program (name 23 5 9) ((declares (declaration (Derived (name 3 5 24)) [] ((entity (name 25 5 30) None None) ∷ []))) ∷ (declares
    (declaration (Integer Four) (allocatable ∷ []) ((entity (name 26 5 57) (Some (deferred (None ∷ []))) None) ∷ []))) ∷ (declares (declaration
    (Integer Four) [] ((entity (name 27 5 74) None None) ∷ []))) ∷ []) (statements (acts (at 6 1) (call (name 13 6 6) ((value (Some (name 16 6 8))
    (array (at 6 10) (trees (four (at 6 11) 1) (trees (four (at 6 14) 2) no_trees)))) ∷ (value (Some (name 15 6 18)) (designator (parts (name 27 6
    20) bare no_parts))) ∷ (value (Some (name 14 6 23)) (four (at 6 25) 5)) ∷ []))) (statements (acts (at 6 29) (assign (parts (name 25 6 29) bare
    no_parts) (designator (parts (name 3 6 33) (within (arguments (value (Some (name 9 6 35)) (designator (parts (name 26 6 37) bare no_parts)))
    (arguments (value (Some (name 5 6 40)) (four (at 6 42) 4)) no_arguments))) no_parts)))) (statements (acts (at 6 46) (print ((designator (parts
    (name 25 6 55) bare (parts (name 5 6 57) bare no_parts))) ∷ (designator (parts (name 25 6 60) bare (parts (name 7 6 62) bare no_parts))) ∷
    (designator (parts (name 29 6 65) (within (arguments (value None (designator (parts (name 25 6 75) bare (parts (name 9 6 77) bare no_parts))))
    no_arguments)) no_parts)) ∷ []))) (statements (acts (at 7 1) (allocate ((parts (name 26 7 10) (within (arguments (triplet (at 7 12) (present
    (four (at 7 12) 2)) (present (four (at 7 14) 3)) absent) no_arguments)) no_parts) ∷ []) None)) (statements (acts (at 7 19) (assign (parts (name
    26 7 19) bare no_parts) (four (at 7 23) 6))) (statements (acts (at 7 26) (assign (parts (name 25 7 26) bare no_parts) (designator (parts (name 3
    7 30) (within (arguments (value None (four (at 7 32) 1)) (arguments (value (Some (name 9 7 35)) (designator (parts (name 26 7 37) bare
    no_parts))) (arguments (value (Some (name 7 7 40)) (truth (at 7 42) false)) no_arguments)))) no_parts)))) (statements (acts (at 7 52) (print
    ((designator (parts (name 25 7 61) bare (parts (name 7 7 63) bare no_parts))) ∷ (designator (parts (name 31 7 66) (within (arguments (value None
    (designator (parts (name 25 7 73) bare (parts (name 9 7 75) bare no_parts)))) (arguments (value None (four (at 7 78) 1)) no_arguments)))
    no_parts)) ∷ (designator (parts (name 25 7 82) bare (parts (name 9 7 84) bare no_parts))) ∷ []))) (statements (acts (at 8 1) (assign (parts (name
    25 8 1) bare no_parts) (designator (parts (name 3 8 5) (within (arguments (value None (four (at 8 7) 2)) (arguments (value None (truth (at 8 10)
    true)) (arguments (value None (group (at 8 18) (designator (parts (name 26 8 19) bare no_parts)))) no_arguments)))) no_parts)))) (statements
    (acts (at 8 24) (print ((designator (parts (name 31 8 33) (within (arguments (value None (designator (parts (name 25 8 40) bare (parts (name 9 8
    42) bare no_parts)))) (arguments (value None (four (at 8 45) 1)) no_arguments))) no_parts)) ∷ (designator (parts (name 25 8 49) bare (parts (name
    9 8 51) bare no_parts))) ∷ []))) no_statements))))))))) [] (at 8 54)) ∷ [])) (looks (((3, One 0) ∷ (13, One 1) ∷ []) ∷ ((3, One 0) ∷ (13, One 1)
    ∷ (14, One 2) ∷ (15, One 3) ∷ (16, One 4) ∷ []) ∷ ((3, One 0) ∷ (13, One 1) ∷ (25, One 5) ∷ (26, One 6) ∷ (27, One 7) ∷ []) ∷ [])) (0 ∷ 1 ∷ [])

abbrev pub keywords_formed : Global → Type 0
keywords_formed h = IsWellFormed (built h keywords_program)

abbrev pub keywords_shows : Global → Type 0
keywords_shows h =
    shown (run_of (built h keywords_program) 2000 granted) ≡ record {
      bytes = lines (codes " 5 7 1 2" ∷ codes " 4 T F" ∷ codes " F 2 6 6" ∷
          codes " 1 6 6" ∷ []);
      verdict = Finished;
    }

--     program p; integer(8) :: w = 4000000000_8; integer :: i = 5, a(2, 0:2); integer, parameter :: k = 3
--     print *, max(1, i, 3, k), min(4, i, 2), max(w, 1_8), abs(-i), abs(-w), mod(-7, k), modulo(-7, k)
--     print *, size(a), size(a, 2), lbound(a, 2), ubound(a, 2), size(a(:, 1:2), 2), -i ** 2, 2 ** 3 ** 2, w + i * 2 - 1, + i - (-k)
--     print *, i < 6 .and. .not. w == 1 .or. .false. .eqv. .true. .neqv. .false.
--     end
abbrev pub intrinsics_program : ProgramNode
intrinsics_program = elaborated
    (program (codes "program" ∷ codes "p" ∷ codes "integer" ∷ codes "w" ∷ codes "i" ∷ codes "a" ∷ codes "parameter" ∷ codes "k" ∷ codes "print" ∷
    codes "max" ∷ codes "min" ∷ codes "abs" ∷ codes "mod" ∷ codes "modulo" ∷ codes "size" ∷ codes "lbound" ∷ codes "ubound" ∷ codes "end" ∷ []) []
    ((unit (at 1 1) u.Program (name 1 1 9) ((declares (declaration (Integer Eight) [] ((entity (name 3 1 26) None (Some (eight (at 1 30)
    4000000000))) ∷ []))) ∷ (declares (declaration (Integer Four) [] ((entity (name 4 1 55) None (Some (four (at 1 59) 5))) ∷ (entity (name 5 1 62)
    (Some (explicit ((bounds None (four (at 1 64) 2)) ∷ (bounds (Some (four (at 1 67) 0)) (four (at 1 69) 2)) ∷ []))) None) ∷ []))) ∷ (declares
    (declaration (Integer Four) (parameter ∷ []) ((entity (name 7 1 95) None (Some (four (at 1 99) 3))) ∷ []))) ∷ []) (statements (acts (at 2 1)
    (print ((designator (parts (name 9 2 10) (within (arguments (value None (four (at 2 14) 1)) (arguments (value None (designator (parts (name 4 2
    17) bare no_parts))) (arguments (value None (four (at 2 20) 3)) (arguments (value None (designator (parts (name 7 2 23) bare no_parts)))
    no_arguments))))) no_parts)) ∷ (designator (parts (name 10 2 27) (within (arguments (value None (four (at 2 31) 4)) (arguments (value None
    (designator (parts (name 4 2 34) bare no_parts))) (arguments (value None (four (at 2 37) 2)) no_arguments)))) no_parts)) ∷ (designator (parts
    (name 9 2 41) (within (arguments (value None (designator (parts (name 3 2 45) bare no_parts))) (arguments (value None (eight (at 2 48) 1))
    no_arguments))) no_parts)) ∷ (designator (parts (name 11 2 54) (within (arguments (value None (signed (at 2 58) Minus (designator (parts (name 4
    2 59) bare no_parts)))) no_arguments)) no_parts)) ∷ (designator (parts (name 11 2 63) (within (arguments (value None (signed (at 2 67) Minus
    (designator (parts (name 3 2 68) bare no_parts)))) no_arguments)) no_parts)) ∷ (designator (parts (name 12 2 72) (within (arguments (value None
    (signed (at 2 76) Minus (four (at 2 77) 7))) (arguments (value None (designator (parts (name 7 2 80) bare no_parts))) no_arguments))) no_parts))
    ∷ (designator (parts (name 13 2 84) (within (arguments (value None (signed (at 2 91) Minus (four (at 2 92) 7))) (arguments (value None
    (designator (parts (name 7 2 95) bare no_parts))) no_arguments))) no_parts)) ∷ []))) (statements (acts (at 3 1) (print ((designator (parts (name
    14 3 10) (within (arguments (value None (designator (parts (name 5 3 15) bare no_parts))) no_arguments)) no_parts)) ∷ (designator (parts (name 14
    3 19) (within (arguments (value None (designator (parts (name 5 3 24) bare no_parts))) (arguments (value None (four (at 3 27) 2)) no_arguments)))
    no_parts)) ∷ (designator (parts (name 15 3 31) (within (arguments (value None (designator (parts (name 5 3 38) bare no_parts))) (arguments (value
    None (four (at 3 41) 2)) no_arguments))) no_parts)) ∷ (designator (parts (name 16 3 45) (within (arguments (value None (designator (parts (name 5
    3 52) bare no_parts))) (arguments (value None (four (at 3 55) 2)) no_arguments))) no_parts)) ∷ (designator (parts (name 14 3 59) (within
    (arguments (value None (designator (parts (name 5 3 64) (within (arguments (triplet (at 3 66) absent absent absent) (arguments (triplet (at 3 69)
    (present (four (at 3 69) 1)) (present (four (at 3 71) 2)) absent) no_arguments))) no_parts))) (arguments (value None (four (at 3 75) 2))
    no_arguments))) no_parts)) ∷ (signed (at 3 79) Minus (chain (designator (parts (name 4 3 80) bare no_parts)) (more o.Power (four (at 3 85) 2)
    no_more))) ∷ (chain (four (at 3 88) 2) (more o.Power (four (at 3 93) 3) (more o.Power (four (at 3 98) 2) no_more))) ∷ (chain (designator (parts
    (name 3 3 101) bare no_parts)) (more o.Add (chain (designator (parts (name 4 3 105) bare no_parts)) (more o.Multiply (four (at 3 109) 2)
    no_more)) (more o.Subtract (four (at 3 113) 1) no_more))) ∷ (chain (signed (at 3 116) Plus (designator (parts (name 4 3 118) bare no_parts)))
    (more o.Subtract (group (at 3 122) (signed (at 3 123) Minus (designator (parts (name 7 3 124) bare no_parts)))) no_more)) ∷ []))) (statements
    (acts (at 4 1) (print ((chain (chain (chain (comparison (designator (parts (name 4 4 10) bare no_parts)) r.Less (four (at 4 14) 6)) (more o.And
    (negation (at 4 22) (comparison (designator (parts (name 3 4 28) bare no_parts)) r.Equal (four (at 4 33) 1))) no_more)) (more o.Or (truth (at 4
    40) false) no_more)) (more o.Equivalent (truth (at 4 54) true) (more o.NotEquivalent (truth (at 4 68) false) no_more))) ∷ []))) no_statements)))
    [] (at 5 1)) ∷ [])) (looks (((3, One 0) ∷ (4, One 1) ∷ (5, One 2) ∷ (7, One 3) ∷ []) ∷ [])) (0 ∷ [])

abbrev pub intrinsics_formed : Global → Type 0
intrinsics_formed h = IsWellFormed (built h intrinsics_program)

abbrev pub intrinsics_shows : Global → Type 0
intrinsics_shows h =
    shown (run_of (built h intrinsics_program) 2000 granted) ≡ record {
      bytes = lines (codes " 5 2 4000000000 5 4000000000 -1 2" ∷
          codes " 6 3 0 2 2 -25 512 4000000009 8" ∷ codes " T" ∷ []);
      verdict = Finished;
    }

--     program p; integer :: i, j; integer, parameter :: two = 2
--     do i = 1, 4
--     select case (i)
--     case default; associate (d => i * 10); j = d; associate (e => d + 1, f => j); f = e; print *, d, e, f, j; end associate; end associate
--     case (1); associate (x => j); x = 7; print *, x; end associate
--     case (two:two + 1); associate (y => i); associate (x => y + j); print *, x, y; end associate; end associate
--     end select
--     if (j > 100) then; print *, 'no'
--     else if (i == 1) then; associate (q => j); q = q + 1; end associate
--     else; associate (q => i); print *, 'else', q; end associate; end if
--     end do; end
abbrev pub scopes_program : ProgramNode
scopes_program = elaborated
    (program (codes "program" ∷ codes "p" ∷ codes "integer" ∷ codes "i" ∷ codes "j" ∷ codes "parameter" ∷ codes "two" ∷ codes "do" ∷ codes "select" ∷
    codes "case" ∷ codes "default" ∷ codes "associate" ∷ codes "d" ∷ codes "e" ∷ codes "f" ∷ codes "print" ∷ codes "end" ∷ codes "x" ∷ codes "y" ∷
    codes "if" ∷ codes "then" ∷ codes "else" ∷ codes "q" ∷ []) ((110 ∷ 111 ∷ []) ∷ (101 ∷ 108 ∷ 115 ∷ 101 ∷ []) ∷ []) ((unit (at 1 1) u.Program (name
    1 1 9) ((declares (declaration (Integer Four) [] ((entity (name 3 1 23) None None) ∷ (entity (name 4 1 26) None None) ∷ []))) ∷ (declares
    (declaration (Integer Four) (parameter ∷ []) ((entity (name 6 1 51) None (Some (four (at 1 57) 2))) ∷ []))) ∷ []) (statements (repeats (at 2 1)
    (counted (name 3 2 4) (four (at 2 8) 1) (four (at 2 11) 4) None) (statements (selects (at 3 1) (designator (parts (name 3 3 14) bare no_parts))
    (case_block (at 4 1) default (statements (associates (at 4 15) ((association (name 12 4 26) (chain (designator (parts (name 3 4 31) bare
    no_parts)) (more o.Multiply (four (at 4 35) 10) no_more))) ∷ []) (statements (acts (at 4 40) (assign (parts (name 4 4 40) bare no_parts)
    (designator (parts (name 12 4 44) bare no_parts)))) (statements (associates (at 4 47) ((association (name 13 4 58) (chain (designator (parts
    (name 12 4 63) bare no_parts)) (more o.Add (four (at 4 67) 1) no_more))) ∷ (association (name 14 4 70) (designator (parts (name 4 4 75) bare
    no_parts))) ∷ []) (statements (acts (at 4 79) (assign (parts (name 14 4 79) bare no_parts) (designator (parts (name 13 4 83) bare no_parts))))
    (statements (acts (at 4 86) (print ((designator (parts (name 12 4 95) bare no_parts)) ∷ (designator (parts (name 13 4 98) bare no_parts)) ∷
    (designator (parts (name 14 4 101) bare no_parts)) ∷ (designator (parts (name 4 4 104) bare no_parts)) ∷ []))) no_statements))) no_statements)))
    no_statements) (case_block (at 5 1) (values ((one (four (at 5 7) 1)) ∷ [])) (statements (associates (at 5 11) ((association (name 17 5 22)
    (designator (parts (name 4 5 27) bare no_parts))) ∷ []) (statements (acts (at 5 31) (assign (parts (name 17 5 31) bare no_parts) (four (at 5 35)
    7))) (statements (acts (at 5 38) (print ((designator (parts (name 17 5 47) bare no_parts)) ∷ []))) no_statements))) no_statements) (case_block
    (at 6 1) (values ((range (designator (parts (name 6 6 7) bare no_parts)) (chain (designator (parts (name 6 6 11) bare no_parts)) (more o.Add
    (four (at 6 17) 1) no_more))) ∷ [])) (statements (associates (at 6 21) ((association (name 18 6 32) (designator (parts (name 3 6 37) bare
    no_parts))) ∷ []) (statements (associates (at 6 41) ((association (name 17 6 52) (chain (designator (parts (name 18 6 57) bare no_parts)) (more
    o.Add (designator (parts (name 4 6 61) bare no_parts)) no_more))) ∷ []) (statements (acts (at 6 65) (print ((designator (parts (name 17 6 74)
    bare no_parts)) ∷ (designator (parts (name 18 6 77) bare no_parts)) ∷ []))) no_statements)) no_statements)) no_statements) no_cases))))
    (statements (branches (branch (at 8 1) (comparison (designator (parts (name 4 8 5) bare no_parts)) r.Greater (four (at 8 9) 100)) (statements
    (acts (at 8 20) (print ((text (at 8 29) 0) ∷ []))) no_statements) (branch (at 9 1) (comparison (designator (parts (name 3 9 10) bare no_parts))
    r.Equal (four (at 9 15) 1)) (statements (associates (at 9 24) ((association (name 22 9 35) (designator (parts (name 4 9 40) bare no_parts))) ∷
    []) (statements (acts (at 9 44) (assign (parts (name 22 9 44) bare no_parts) (chain (designator (parts (name 22 9 48) bare no_parts)) (more o.Add
    (four (at 9 52) 1) no_more)))) no_statements)) no_statements) no_branches)) (alternative (statements (associates (at 10 7) ((association (name 22
    10 18) (designator (parts (name 3 10 23) bare no_parts))) ∷ []) (statements (acts (at 10 27) (print ((text (at 10 36) 1) ∷ (designator (parts
    (name 22 10 44) bare no_parts)) ∷ []))) no_statements)) no_statements))) no_statements))) no_statements) [] (at 11 9)) ∷ [])) (looks (((3, One 0)
    ∷ (4, One 1) ∷ (6, One 2) ∷ []) ∷ ((3, One 0) ∷ (4, One 1) ∷ (6, One 2) ∷ (12, One 3) ∷ []) ∷ ((3, One 0) ∷ (4, One 1) ∷ (6, One 2) ∷ (12, One 3)
    ∷ (13, One 4) ∷ (14, One 5) ∷ []) ∷ ((3, One 0) ∷ (4, One 1) ∷ (6, One 2) ∷ (17, One 6) ∷ []) ∷ ((3, One 0) ∷ (4, One 1) ∷ (6, One 2) ∷ (
      18,
      One
          7,
    ) ∷ []) ∷ ((3, One 0) ∷ (4, One 1) ∷ (6, One 2) ∷ (17, One 8) ∷ (18, One 7) ∷ []) ∷ ((3, One 0) ∷ (4, One 1) ∷ (6, One 2) ∷ (22, One 9) ∷ []) ∷
    ((3, One 0) ∷ (4, One 1) ∷ (6, One 2) ∷ (22, One 10) ∷ []) ∷ [])) (0 ∷ [])

abbrev pub scopes_formed : Global → Type 0
scopes_formed h = IsWellFormed (built h scopes_program)

abbrev pub scopes_shows : Global → Type 0
scopes_shows h =
    shown (run_of (built h scopes_program) 2000 granted) ≡ record {
      bytes = lines (codes " 7" ∷ codes " 10 2" ∷ codes " else 2" ∷ codes " 11 3" ∷
          codes " else 3" ∷ codes " 40 41 41 41" ∷ codes " else 4" ∷ []);
      verdict = Finished;
    }

--     module m; type t; integer, allocatable :: v(:), n; integer :: c(2:3) = [8, 9]; end type
--     type u; type(t) :: x(2); type(t), allocatable :: y; integer :: st = 5; end type; end
--     program p; use m; type(u) :: z; integer, allocatable :: a(:), i; integer :: k
--     allocate(a(3)); a = [1, 2, 3]; call move_alloc(to=z%x(2)%v, from=a); print *, allocated(a), z%x(2)%v(3:1:-2), z%x%c(3)
--     allocate(i, z%y, stat=z%st); do i = 1, 3, 1; z%y%c(3) = z%y%c(3) + i; end do; print *, i, z%st, z%y%c, z%x(1)%c(:)
--     z%x(1) = z%y; allocate(z%x(1)%n); z%x(1)%n = 4; z%y = t(z%x(2)%v, n=z%x(1)%n, c=0); print *, z%y%v(2:), z%y%n, z%y%c
--     deallocate(z%y%v, z%y%v, stat=k); print *, k, allocated(z%y%v), size(z%x(2)%v(2:)); z%x(1)%v = z%x(2)%v(:2); print *, z%x(1)%v; end
abbrev pub holders_program : ProgramNode
holders_program = elaborated
    (program (codes "module" ∷ codes "m" ∷ codes "type" ∷ codes "t" ∷ codes "integer" ∷ codes "allocatable" ∷ codes "v" ∷ codes "n" ∷ codes "c" ∷
    codes "end" ∷ codes "u" ∷ codes "x" ∷ codes "y" ∷ codes "st" ∷ codes "program" ∷ codes "p" ∷ codes "use" ∷ codes "z" ∷ codes "a" ∷ codes "i" ∷
    codes "k" ∷ codes "allocate" ∷ codes "call" ∷ codes "move_alloc" ∷ codes "to" ∷ codes "from" ∷ codes "print" ∷ codes "allocated" ∷ codes "stat" ∷
    codes "do" ∷ codes "deallocate" ∷ codes "size" ∷ []) [] ((unit (at 1 1) u.Module (name 1 1 8) ((type_definition (name 3 1 16) None ((declaration
    (Integer Four) (allocatable ∷ []) ((entity (name 6 1 43) (Some (deferred (None ∷ []))) None) ∷ (entity (name 7 1 49) None None) ∷ [])) ∷
    (declaration (Integer Four) [] ((entity (name 8 1 63) (Some (explicit ((bounds (Some (four (at 1 65) 2)) (four (at 1 67) 3)) ∷ []))) (Some (array
    (at 1 72) (trees (four (at 1 73) 8) (trees (four (at 1 76) 9) no_trees))))) ∷ [])) ∷ []) []) ∷ (type_definition (name 10 2 6) None ((declaration
    (Derived (name 3 2 14)) [] ((entity (name 11 2 20) (Some (explicit ((bounds None (four (at 2 22) 2)) ∷ []))) None) ∷ [])) ∷ (declaration (Derived
    (name 3 2 31)) (allocatable ∷ []) ((entity (name 12 2 50) None None) ∷ [])) ∷ (declaration (Integer Four) [] ((entity (name 13 2 64) None (Some
    (four (at 2 69) 5))) ∷ [])) ∷ []) []) ∷ []) no_statements [] (at 2 82)) ∷ (unit (at 3 1) u.Program (name 15 3 9) ((declares (declaration (Derived
    (name 10 3 24)) [] ((entity (name 17 3 30) None None) ∷ []))) ∷ (declares (declaration (Integer Four) (allocatable ∷ []) ((entity (name 18 3 57)
    (Some (deferred (None ∷ []))) None) ∷ (entity (name 19 3 63) None None) ∷ []))) ∷ (declares (declaration (Integer Four) [] ((entity (name 20 3
    77) None None) ∷ []))) ∷ []) (statements (acts (at 4 1) (allocate ((parts (name 18 4 10) (within (arguments (value None (four (at 4 12) 3))
    no_arguments)) no_parts) ∷ []) None)) (statements (acts (at 4 17) (assign (parts (name 18 4 17) bare no_parts) (array (at 4 21) (trees (four (at
    4 22) 1) (trees (four (at 4 25) 2) (trees (four (at 4 28) 3) no_trees)))))) (statements (acts (at 4 32) (call (name 23 4 37) ((value (Some (name
    24 4 48)) (designator (parts (name 17 4 51) bare (parts (name 11 4 53) (within (arguments (value None (four (at 4 55) 2)) no_arguments)) (parts
    (name 6 4 58) bare no_parts))))) ∷ (value (Some (name 25 4 61)) (designator (parts (name 18 4 66) bare no_parts))) ∷ []))) (statements (acts (at
    4 70) (print ((designator (parts (name 27 4 79) (within (arguments (value None (designator (parts (name 18 4 89) bare no_parts))) no_arguments))
    no_parts)) ∷ (designator (parts (name 17 4 93) bare (parts (name 11 4 95) (within (arguments (value None (four (at 4 97) 2)) no_arguments))
    (parts (name 6 4 100) (within (arguments (triplet (at 4 102) (present (four (at 4 102) 3)) (present (four (at 4 104) 1)) (present (signed (at 4
    106) Minus (four (at 4 107) 2)))) no_arguments)) no_parts)))) ∷ (designator (parts (name 17 4 111) bare (parts (name 11 4 113) bare (parts (name
    8 4 115) (within (arguments (value None (four (at 4 117) 3)) no_arguments)) no_parts)))) ∷ []))) (statements (acts (at 5 1) (allocate ((parts
    (name 19 5 10) bare no_parts) ∷ (parts (name 17 5 13) bare (parts (name 12 5 15) bare no_parts)) ∷ []) (Some (parts (name 17 5 23) bare (parts
    (name 13 5 25) bare no_parts))))) (statements (repeats (at 5 30) (counted (name 19 5 33) (four (at 5 37) 1) (four (at 5 40) 3) (Some (four (at 5
    43) 1))) (statements (acts (at 5 46) (assign (parts (name 17 5 46) bare (parts (name 12 5 48) bare (parts (name 8 5 50) (within (arguments (value
    None (four (at 5 52) 3)) no_arguments)) no_parts))) (chain (designator (parts (name 17 5 57) bare (parts (name 12 5 59) bare (parts (name 8 5 61)
    (within (arguments (value None (four (at 5 63) 3)) no_arguments)) no_parts)))) (more o.Add (designator (parts (name 19 5 68) bare no_parts))
    no_more)))) no_statements)) (statements (acts (at 5 79) (print ((designator (parts (name 19 5 88) bare no_parts)) ∷ (designator (parts (name 17 5
    91) bare (parts (name 13 5 93) bare no_parts))) ∷ (designator (parts (name 17 5 97) bare (parts (name 12 5 99) bare (parts (name 8 5 101) bare
    no_parts)))) ∷ (designator (parts (name 17 5 104) bare (parts (name 11 5 106) (within (arguments (value None (four (at 5 108) 1)) no_arguments))
    (parts (name 8 5 111) (within (arguments (triplet (at 5 113) absent absent absent) no_arguments)) no_parts)))) ∷ []))) (statements (acts (at 6 1)
    (assign (parts (name 17 6 1) bare (parts (name 11 6 3) (within (arguments (value None (four (at 6 5) 1)) no_arguments)) no_parts)) (designator
    (parts (name 17 6 10) bare (parts (name 12 6 12) bare no_parts))))) (statements (acts (at 6 15) (allocate ((parts (name 17 6 24) bare (parts
    (name 11 6 26) (within (arguments (value None (four (at 6 28) 1)) no_arguments)) (parts (name 7 6 31) bare no_parts))) ∷ []) None)) (statements
    (acts (at 6 35) (assign (parts (name 17 6 35) bare (parts (name 11 6 37) (within (arguments (value None (four (at 6 39) 1)) no_arguments)) (parts
    (name 7 6 42) bare no_parts))) (four (at 6 46) 4))) (statements (acts (at 6 49) (assign (parts (name 17 6 49) bare (parts (name 12 6 51) bare
    no_parts)) (designator (parts (name 3 6 55) (within (arguments (value None (designator (parts (name 17 6 57) bare (parts (name 11 6 59) (within
    (arguments (value None (four (at 6 61) 2)) no_arguments)) (parts (name 6 6 64) bare no_parts))))) (arguments (value (Some (name 7 6 67))
    (designator (parts (name 17 6 69) bare (parts (name 11 6 71) (within (arguments (value None (four (at 6 73) 1)) no_arguments)) (parts (name 7 6
    76) bare no_parts))))) (arguments (value (Some (name 8 6 79)) (four (at 6 81) 0)) no_arguments)))) no_parts)))) (statements (acts (at 6 85)
    (print ((designator (parts (name 17 6 94) bare (parts (name 12 6 96) bare (parts (name 6 6 98) (within (arguments (triplet (at 6 100) (present
    (four (at 6 100) 2)) absent absent) no_arguments)) no_parts)))) ∷ (designator (parts (name 17 6 105) bare (parts (name 12 6 107) bare (parts
    (name 7 6 109) bare no_parts)))) ∷ (designator (parts (name 17 6 112) bare (parts (name 12 6 114) bare (parts (name 8 6 116) bare no_parts)))) ∷
    []))) (statements (acts (at 7 1) (deallocate ((parts (name 17 7 12) bare (parts (name 12 7 14) bare (parts (name 6 7 16) bare no_parts))) ∷
    (parts (name 17 7 19) bare (parts (name 12 7 21) bare (parts (name 6 7 23) bare no_parts))) ∷ []) (Some (parts (name 20 7 31) bare no_parts))))
    (statements (acts (at 7 35) (print ((designator (parts (name 20 7 44) bare no_parts)) ∷ (designator (parts (name 27 7 47) (within (arguments
    (value None (designator (parts (name 17 7 57) bare (parts (name 12 7 59) bare (parts (name 6 7 61) bare no_parts))))) no_arguments)) no_parts)) ∷
    (designator (parts (name 31 7 65) (within (arguments (value None (designator (parts (name 17 7 70) bare (parts (name 11 7 72) (within (arguments
    (value None (four (at 7 74) 2)) no_arguments)) (parts (name 6 7 77) (within (arguments (triplet (at 7 79) (present (four (at 7 79) 2)) absent
    absent) no_arguments)) no_parts))))) no_arguments)) no_parts)) ∷ []))) (statements (acts (at 7 85) (assign (parts (name 17 7 85) bare (parts
    (name 11 7 87) (within (arguments (value None (four (at 7 89) 1)) no_arguments)) (parts (name 6 7 92) bare no_parts))) (designator (parts (name
    17 7 96) bare (parts (name 11 7 98) (within (arguments (value None (four (at 7 100) 2)) no_arguments)) (parts (name 6 7 103) (within (arguments
    (triplet (at 7 105) absent (present (four (at 7 106) 2)) absent) no_arguments)) no_parts)))))) (statements (acts (at 7 110) (print ((designator
    (parts (name 17 7 119) bare (parts (name 11 7 121) (within (arguments (value None (four (at 7 123) 1)) no_arguments)) (parts (name 6 7 126) bare
    no_parts)))) ∷ []))) no_statements)))))))))))))))) [] (at 7 129)) ∷ [])) (looks (((3, One 0) ∷ (10, One 1) ∷ []) ∷ ((3, One 0) ∷ (10, One 1) ∷
    (17, One 2) ∷ (18, One 3) ∷ (19, One 4) ∷ (20, One 5) ∷ []) ∷ [])) (0 ∷ 1 ∷ [])

abbrev pub holders_formed : Global → Type 0
holders_formed h = IsWellFormed (built h holders_program)

abbrev pub holders_shows : Global → Type 0
holders_shows h =
    shown (run_of (built h holders_program) 2000 granted) ≡ record {
      bytes = lines (codes " F 3 1 9 9" ∷ codes " 4 0 8 15 8 9" ∷ codes " 2 3 4 0 0" ∷
          codes " 4 F 2" ∷ codes " 1 2" ∷ []);
      verdict = Finished;
    }

--     module m; integer, save :: total = 1; type t; integer :: k = 2; end type; contains
--     function add(x, y) result(r); integer, intent(in) :: x(:), y; integer :: r(2); r(1) = x(1) + y; r(2) = x(2) + y; end
--     subroutine grow(v, n); integer, allocatable, intent(inout) :: v(:); integer, intent(in) :: n
--     if (.not. allocated(v)) then; allocate(v(n)); v = n; return; end if; v = [v(1), n]; end
--     integer function twice(x); type(t), intent(in) :: x; twice = x%k * 2; end
--     recursive function fact(n) result(r); integer, intent(in) :: n; integer(8) :: r; r = 1; if (n > 1) r = n * fact(n - 1); end
--     subroutine put(a, b); integer, intent(in) :: a; integer, intent(out) :: b; b = a + 1; end
--     end
--     program p; use m, only: add, grow, sum => total, twice, fact, t, put; integer, allocatable :: v(:); integer :: w(3) = 4
--     call grow(v, 2); print *, v, add(w, 1), add(y=v(1), x=[5, 6]); call grow(n=twice(t(k=7)), v=v); print *, v, size(add(w, 1)), fact(13)
--     sum = sum + twice(t()); print *, sum; v = add(v, 0); w(2:3) = add(w(::2), 10); print *, v, w; call put((w(1)), w(1)); print *, w(1); end
abbrev pub functions_program : ProgramNode
functions_program = elaborated
    (program (codes "module" ∷ codes "m" ∷ codes "integer" ∷ codes "save" ∷ codes "total" ∷ codes "type" ∷ codes "t" ∷ codes "k" ∷ codes "end" ∷
    codes "contains" ∷ codes "function" ∷ codes "add" ∷ codes "x" ∷ codes "y" ∷ codes "result" ∷ codes "r" ∷ codes "intent" ∷ codes "in" ∷
    codes "subroutine" ∷ codes "grow" ∷ codes "v" ∷ codes "n" ∷ codes "allocatable" ∷ codes "inout" ∷ codes "if" ∷ codes "allocated" ∷ codes "then" ∷
    codes "allocate" ∷ codes "return" ∷ codes "twice" ∷ codes "recursive" ∷ codes "fact" ∷ codes "put" ∷ codes "a" ∷ codes "b" ∷ codes "out" ∷
    codes "program" ∷ codes "p" ∷ codes "use" ∷ codes "only" ∷ codes "sum" ∷ codes "w" ∷ codes "call" ∷ codes "print" ∷ codes "size" ∷ []) [] ((unit
    (at 1 1) u.Module (name 1 1 8) ((declares (declaration (Integer Four) (save ∷ []) ((entity (name 4 1 28) None (Some (four (at 1 36) 1))) ∷ [])))
    ∷ (type_definition (name 6 1 44) None ((declaration (Integer Four) [] ((entity (name 7 1 58) None (Some (four (at 1 62) 2))) ∷ [])) ∷ []) []) ∷
    []) no_statements ((procedure false (Function None (Some (name 15 2 27))) (name 11 2 10) ((name 12 2 14) ∷ (name 13 2 17) ∷ []) ((declares
    (declaration (Integer Four) ((intent In) ∷ []) ((entity (name 12 2 54) (Some (deferred (None ∷ []))) None) ∷ (entity (name 13 2 60) None None) ∷
    []))) ∷ (declares (declaration (Integer Four) [] ((entity (name 15 2 74) (Some (explicit ((bounds None (four (at 2 76) 2)) ∷ []))) None) ∷ [])))
    ∷ []) (statements (acts (at 2 80) (assign (parts (name 15 2 80) (within (arguments (value None (four (at 2 82) 1)) no_arguments)) no_parts)
    (chain (designator (parts (name 12 2 87) (within (arguments (value None (four (at 2 89) 1)) no_arguments)) no_parts)) (more o.Add (designator
    (parts (name 13 2 94) bare no_parts)) no_more)))) (statements (acts (at 2 97) (assign (parts (name 15 2 97) (within (arguments (value None (four
    (at 2 99) 2)) no_arguments)) no_parts) (chain (designator (parts (name 12 2 104) (within (arguments (value None (four (at 2 106) 2))
    no_arguments)) no_parts)) (more o.Add (designator (parts (name 13 2 111) bare no_parts)) no_more)))) no_statements)) (at 2 114)) ∷ (procedure
    false Subroutine (name 19 3 12) ((name 20 3 17) ∷ (name 21 3 20) ∷ []) ((declares (declaration (Integer Four) (allocatable ∷ (intent InOut) ∷ [])
    ((entity (name 20 3 63) (Some (deferred (None ∷ []))) None) ∷ []))) ∷ (declares (declaration (Integer Four) ((intent In) ∷ []) ((entity (name 21
    3 92) None None) ∷ []))) ∷ []) (statements (branches (branch (at 4 1) (negation (at 4 5) (designator (parts (name 25 4 11) (within (arguments
    (value None (designator (parts (name 20 4 21) bare no_parts))) no_arguments)) no_parts))) (statements (acts (at 4 31) (allocate ((parts (name 20
    4 40) (within (arguments (value None (designator (parts (name 21 4 42) bare no_parts))) no_arguments)) no_parts) ∷ []) None)) (statements (acts
    (at 4 47) (assign (parts (name 20 4 47) bare no_parts) (designator (parts (name 21 4 51) bare no_parts)))) (statements (acts (at 4 54) return)
    no_statements))) no_branches) no_alternative) (statements (acts (at 4 70) (assign (parts (name 20 4 70) bare no_parts) (array (at 4 74) (trees
    (designator (parts (name 20 4 75) (within (arguments (value None (four (at 4 77) 1)) no_arguments)) no_parts)) (trees (designator (parts (name 21
    4 81) bare no_parts)) no_trees))))) no_statements)) (at 4 85)) ∷ (procedure false (Function (Some (Integer Four)) None) (name 29 5 18) ((name 12
    5 24) ∷ []) ((declares (declaration (Derived (name 6 5 33)) ((intent In) ∷ []) ((entity (name 12 5 51) None None) ∷ []))) ∷ []) (statements (acts
    (at 5 54) (assign (parts (name 29 5 54) bare no_parts) (chain (designator (parts (name 12 5 62) bare (parts (name 7 5 64) bare no_parts))) (more
    o.Multiply (four (at 5 68) 2) no_more)))) no_statements) (at 5 71)) ∷ (procedure false (Function None (Some (name 15 6 35))) (name 31 6 20)
    ((name 21 6 25) ∷ []) ((declares (declaration (Integer Four) ((intent In) ∷ []) ((entity (name 21 6 62) None None) ∷ []))) ∷ (declares
    (declaration (Integer Eight) [] ((entity (name 15 6 79) None None) ∷ []))) ∷ []) (statements (acts (at 6 82) (assign (parts (name 15 6 82) bare
    no_parts) (four (at 6 86) 1))) (statements (acts_if (at 6 89) (comparison (designator (parts (name 21 6 93) bare no_parts)) r.Greater (four (at 6
    97) 1)) (at 6 100) (assign (parts (name 15 6 100) bare no_parts) (chain (designator (parts (name 21 6 104) bare no_parts)) (more o.Multiply
    (designator (parts (name 31 6 108) (within (arguments (value None (chain (designator (parts (name 21 6 113) bare no_parts)) (more o.Subtract
    (four (at 6 117) 1) no_more))) no_arguments)) no_parts)) no_more)))) no_statements)) (at 6 121)) ∷ (procedure false Subroutine (name 32 7 12)
    ((name 33 7 16) ∷ (name 34 7 19) ∷ []) ((declares (declaration (Integer Four) ((intent In) ∷ []) ((entity (name 33 7 46) None None) ∷ []))) ∷
    (declares (declaration (Integer Four) ((intent Out) ∷ []) ((entity (name 34 7 73) None None) ∷ []))) ∷ []) (statements (acts (at 7 76) (assign
    (parts (name 34 7 76) bare no_parts) (chain (designator (parts (name 33 7 80) bare no_parts)) (more o.Add (four (at 7 84) 1) no_more))))
    no_statements) (at 7 87)) ∷ []) (at 8 1)) ∷ (unit (at 9 1) u.Program (name 37 9 9) ((declares (declaration (Integer Four) (allocatable ∷ [])
    ((entity (name 20 9 95) (Some (deferred (None ∷ []))) None) ∷ []))) ∷ (declares (declaration (Integer Four) [] ((entity (name 41 9 112) (Some
    (explicit ((bounds None (four (at 9 114) 3)) ∷ []))) (Some (four (at 9 119) 4))) ∷ []))) ∷ []) (statements (acts (at 10 1) (call (name 19 10 6)
    ((value None (designator (parts (name 20 10 11) bare no_parts))) ∷ (value None (four (at 10 14) 2)) ∷ []))) (statements (acts (at 10 18) (print
    ((designator (parts (name 20 10 27) bare no_parts)) ∷ (designator (parts (name 11 10 30) (within (arguments (value None (designator (parts (name
    41 10 34) bare no_parts))) (arguments (value None (four (at 10 37) 1)) no_arguments))) no_parts)) ∷ (designator (parts (name 11 10 41) (within
    (arguments (value (Some (name 13 10 45)) (designator (parts (name 20 10 47) (within (arguments (value None (four (at 10 49) 1)) no_arguments))
    no_parts))) (arguments (value (Some (name 12 10 53)) (array (at 10 55) (trees (four (at 10 56) 5) (trees (four (at 10 59) 6) no_trees))))
    no_arguments))) no_parts)) ∷ []))) (statements (acts (at 10 64) (call (name 19 10 69) ((value (Some (name 21 10 74)) (designator (parts (name 29
    10 76) (within (arguments (value None (designator (parts (name 6 10 82) (within (arguments (value (Some (name 7 10 84)) (four (at 10 86) 7))
    no_arguments)) no_parts))) no_arguments)) no_parts))) ∷ (value (Some (name 20 10 91)) (designator (parts (name 20 10 93) bare no_parts))) ∷ [])))
    (statements (acts (at 10 97) (print ((designator (parts (name 20 10 106) bare no_parts)) ∷ (designator (parts (name 44 10 109) (within (arguments
    (value None (designator (parts (name 11 10 114) (within (arguments (value None (designator (parts (name 41 10 118) bare no_parts))) (arguments
    (value None (four (at 10 121) 1)) no_arguments))) no_parts))) no_arguments)) no_parts)) ∷ (designator (parts (name 31 10 126) (within (arguments
    (value None (four (at 10 131) 13)) no_arguments)) no_parts)) ∷ []))) (statements (acts (at 11 1) (assign (parts (name 40 11 1) bare no_parts)
    (chain (designator (parts (name 40 11 7) bare no_parts)) (more o.Add (designator (parts (name 29 11 13) (within (arguments (value None
    (designator (parts (name 6 11 19) (within no_arguments) no_parts))) no_arguments)) no_parts)) no_more)))) (statements (acts (at 11 25) (print
    ((designator (parts (name 40 11 34) bare no_parts)) ∷ []))) (statements (acts (at 11 39) (assign (parts (name 20 11 39) bare no_parts)
    (designator (parts (name 11 11 43) (within (arguments (value None (designator (parts (name 20 11 47) bare no_parts))) (arguments (value None
    (four (at 11 50) 0)) no_arguments))) no_parts)))) (statements (acts (at 11 54) (assign (parts (name 41 11 54) (within (arguments (triplet (at 11
    56) (present (four (at 11 56) 2)) (present (four (at 11 58) 3)) absent) no_arguments)) no_parts) (designator (parts (name 11 11 63) (within
    (arguments (value None (designator (parts (name 41 11 67) (within (arguments (triplet (at 11 69) absent absent (present (four (at 11 71) 2)))
    no_arguments)) no_parts))) (arguments (value None (four (at 11 75) 10)) no_arguments))) no_parts)))) (statements (acts (at 11 80) (print
    ((designator (parts (name 20 11 89) bare no_parts)) ∷ (designator (parts (name 41 11 92) bare no_parts)) ∷ []))) (statements (acts (at 11 95)
    (call (name 32 11 100) ((value None (group (at 11 104) (designator (parts (name 41 11 105) (within (arguments (value None (four (at 11 107) 1))
    no_arguments)) no_parts)))) ∷ (value None (designator (parts (name 41 11 112) (within (arguments (value None (four (at 11 114) 1)) no_arguments))
    no_parts))) ∷ []))) (statements (acts (at 11 119) (print ((designator (parts (name 41 11 128) (within (arguments (value None (four (at 11 130)
    1)) no_arguments)) no_parts)) ∷ []))) no_statements))))))))))) [] (at 11 134)) ∷ [])) (looks (((4, One 0) ∷ (6, One 1) ∷ (11, One 2) ∷ (
      19,
      One
          3,
    ) ∷ (29, One 4) ∷ (31, One 5) ∷ (32, One 6) ∷ []) ∷ ((4, One 0) ∷ (6, One 1) ∷ (11, One 2) ∷ (12, One 7) ∷ (13, One 8) ∷ (15, One 9) ∷ (
      19,
      One
          3,
    ) ∷ (29, One 4) ∷ (31, One 5) ∷ (32, One 6) ∷ []) ∷ ((4, One 0) ∷ (6, One 1) ∷ (11, One 2) ∷ (19, One 3) ∷ (20, One 10) ∷ (21, One 11) ∷ (
      29,
      One 4,
    ) ∷ (31, One 5) ∷ (32, One 6) ∷ []) ∷ ((4, One 0) ∷ (6, One 1) ∷ (11, One 2) ∷ (12, One 13) ∷ (19, One 3) ∷ (29, One 12) ∷ (31, One 5) ∷
    (32, One 6) ∷ []) ∷ ((4, One 0) ∷ (6, One 1) ∷ (11, One 2) ∷ (15, One 15) ∷ (19, One 3) ∷ (21, One 14) ∷ (29, One 4) ∷ (31, One 5) ∷ (32, One 6)
    ∷ []) ∷ ((4, One 0) ∷ (6, One 1) ∷ (11, One 2) ∷ (19, One 3) ∷ (29, One 4) ∷ (31, One 5) ∷ (32, One 6) ∷ (33, One 16) ∷ (34, One 17) ∷ []) ∷ ((
      6,
      One 1,
    ) ∷ (11, One 2) ∷ (19, One 3) ∷ (20, One 18) ∷ (29, One 4) ∷ (31, One 5) ∷ (32, One 6) ∷ (40, One 0) ∷ (41, One 19) ∷ []) ∷ [])) (0 ∷ 1 ∷
    [])

abbrev pub functions_formed : Global → Type 0
functions_formed h = IsWellFormed (built h functions_program)

abbrev pub functions_shows : Global → Type 0
functions_shows h =
    shown (run_of (built h functions_program) 2000 granted) ≡ record {
      bytes = lines (codes " 2 2 5 5 7 8" ∷ codes " 2 14 2 6227020800" ∷ codes " 5"
          ∷ codes " 2 14 4 14 14" ∷ codes " 5" ∷ []);
      verdict = Finished;
    }

--     module m; type c; integer, allocatable :: v(:); end type; contains
--     pure integer function at(x, i); type(c), intent(in) :: x(:); integer, intent(in) :: i
--     associate (e => x(i)%v, k => i + 1); at = e(k - i); if (k > 2) return; at = at + 100; end associate; end
--     end
--     program p; use m; type(c), allocatable :: y(:); integer :: i; logical :: ok(2) = [.true., .false.]
--     allocate(y(0:1)); allocate(y(0)%v(3), y(1)%v(0:1)); y(0)%v = [4, 5, 6]; y(1)%v = [2, 1]
--     print *, at(y, 1), at(y, 2), y(0)%v(at(y, 2)), ok, .not. ok(1), y(lbound(y, 1))%v(size(y):)
--     do; i = i + 1; associate (z => y(1)%v(min(i - 1, 1)), o => ok(mod(i, 2) + 1)); if (i > 2) exit
--     z = z * 10; o = .not. o; if (o) cycle; print *, 'kept', i; end associate; end do
--     print *, y(1)%v, ok, i; end
abbrev pub elements_program : ProgramNode
elements_program = elaborated
    (program (codes "module" ∷ codes "m" ∷ codes "type" ∷ codes "c" ∷ codes "integer" ∷ codes "allocatable" ∷ codes "v" ∷ codes "end" ∷
    codes "contains" ∷ codes "pure" ∷ codes "function" ∷ codes "at" ∷ codes "x" ∷ codes "i" ∷ codes "intent" ∷ codes "in" ∷ codes "associate" ∷
    codes "e" ∷ codes "k" ∷ codes "if" ∷ codes "return" ∷ codes "program" ∷ codes "p" ∷ codes "use" ∷ codes "y" ∷ codes "logical" ∷ codes "ok" ∷
    codes "allocate" ∷ codes "print" ∷ codes "lbound" ∷ codes "size" ∷ codes "do" ∷ codes "z" ∷ codes "min" ∷ codes "o" ∷ codes "mod" ∷ codes "exit"
    ∷ codes "cycle" ∷ []) ((107 ∷ 101 ∷ 112 ∷ 116 ∷ []) ∷ []) ((unit (at 1 1) u.Module (name 1 1 8) ((type_definition (name 3 1 16) None
    ((declaration (Integer Four) (allocatable ∷ []) ((entity (name 6 1 43) (Some (deferred (None ∷ []))) None) ∷ [])) ∷ []) []) ∷ []) no_statements
    ((procedure true (Function (Some (Integer Four)) None) (name 11 2 23) ((name 12 2 26) ∷ (name 13 2 29) ∷ []) ((declares (declaration (Derived
    (name 3 2 38)) ((intent In) ∷ []) ((entity (name 12 2 56) (Some (deferred (None ∷ []))) None) ∷ []))) ∷ (declares (declaration (Integer Four)
    ((intent In) ∷ []) ((entity (name 13 2 85) None None) ∷ []))) ∷ []) (statements (associates (at 3 1) ((association (name 17 3 12) (designator
    (parts (name 12 3 17) (within (arguments (value None (designator (parts (name 13 3 19) bare no_parts))) no_arguments)) (parts (name 6 3 22) bare
    no_parts)))) ∷ (association (name 18 3 25) (chain (designator (parts (name 13 3 30) bare no_parts)) (more o.Add (four (at 3 34) 1) no_more))) ∷
    []) (statements (acts (at 3 38) (assign (parts (name 11 3 38) bare no_parts) (designator (parts (name 17 3 43) (within (arguments (value None
    (chain (designator (parts (name 18 3 45) bare no_parts)) (more o.Subtract (designator (parts (name 13 3 49) bare no_parts)) no_more)))
    no_arguments)) no_parts)))) (statements (acts_if (at 3 53) (comparison (designator (parts (name 18 3 57) bare no_parts)) r.Greater (four (at 3
    61) 2)) (at 3 64) return) (statements (acts (at 3 72) (assign (parts (name 11 3 72) bare no_parts) (chain (designator (parts (name 11 3 77) bare
    no_parts)) (more o.Add (four (at 3 82) 100) no_more)))) no_statements)))) no_statements) (at 3 102)) ∷ []) (at 4 1)) ∷ (unit (at 5 1) u.Program
    (name 22 5 9) ((declares (declaration (Derived (name 3 5 24)) (allocatable ∷ []) ((entity (name 24 5 43) (Some (deferred (None ∷ []))) None) ∷
    []))) ∷ (declares (declaration (Integer Four) [] ((entity (name 13 5 60) None None) ∷ []))) ∷ (declares (declaration Logical [] ((entity (name 26
    5 74) (Some (explicit ((bounds None (four (at 5 77) 2)) ∷ []))) (Some (array (at 5 82) (trees (truth (at 5 83) true) (trees (truth (at 5 91)
    false) no_trees))))) ∷ []))) ∷ []) (statements (acts (at 6 1) (allocate ((parts (name 24 6 10) (within (arguments (triplet (at 6 12) (present
    (four (at 6 12) 0)) (present (four (at 6 14) 1)) absent) no_arguments)) no_parts) ∷ []) None)) (statements (acts (at 6 19) (allocate ((parts
    (name 24 6 28) (within (arguments (value None (four (at 6 30) 0)) no_arguments)) (parts (name 6 6 33) (within (arguments (value None (four (at 6
    35) 3)) no_arguments)) no_parts)) ∷ (parts (name 24 6 39) (within (arguments (value None (four (at 6 41) 1)) no_arguments)) (parts (name 6 6 44)
    (within (arguments (triplet (at 6 46) (present (four (at 6 46) 0)) (present (four (at 6 48) 1)) absent) no_arguments)) no_parts)) ∷ []) None))
    (statements (acts (at 6 53) (assign (parts (name 24 6 53) (within (arguments (value None (four (at 6 55) 0)) no_arguments)) (parts (name 6 6 58)
    bare no_parts)) (array (at 6 62) (trees (four (at 6 63) 4) (trees (four (at 6 66) 5) (trees (four (at 6 69) 6) no_trees)))))) (statements (acts
    (at 6 73) (assign (parts (name 24 6 73) (within (arguments (value None (four (at 6 75) 1)) no_arguments)) (parts (name 6 6 78) bare no_parts))
    (array (at 6 82) (trees (four (at 6 83) 2) (trees (four (at 6 86) 1) no_trees))))) (statements (acts (at 7 1) (print ((designator (parts (name 11
    7 10) (within (arguments (value None (designator (parts (name 24 7 13) bare no_parts))) (arguments (value None (four (at 7 16) 1))
    no_arguments))) no_parts)) ∷ (designator (parts (name 11 7 20) (within (arguments (value None (designator (parts (name 24 7 23) bare no_parts)))
    (arguments (value None (four (at 7 26) 2)) no_arguments))) no_parts)) ∷ (designator (parts (name 24 7 30) (within (arguments (value None (four
    (at 7 32) 0)) no_arguments)) (parts (name 6 7 35) (within (arguments (value None (designator (parts (name 11 7 37) (within (arguments (value None
    (designator (parts (name 24 7 40) bare no_parts))) (arguments (value None (four (at 7 43) 2)) no_arguments))) no_parts))) no_arguments))
    no_parts))) ∷ (designator (parts (name 26 7 48) bare no_parts)) ∷ (negation (at 7 52) (designator (parts (name 26 7 58) (within (arguments (value
    None (four (at 7 61) 1)) no_arguments)) no_parts))) ∷ (designator (parts (name 24 7 65) (within (arguments (value None (designator (parts (name
    29 7 67) (within (arguments (value None (designator (parts (name 24 7 74) bare no_parts))) (arguments (value None (four (at 7 77) 1))
    no_arguments))) no_parts))) no_arguments)) (parts (name 6 7 81) (within (arguments (triplet (at 7 83) (present (designator (parts (name 30 7 83)
    (within (arguments (value None (designator (parts (name 24 7 88) bare no_parts))) no_arguments)) no_parts))) absent absent) no_arguments))
    no_parts))) ∷ []))) (statements (repeats (at 8 1) forever (statements (acts (at 8 5) (assign (parts (name 13 8 5) bare no_parts) (chain
    (designator (parts (name 13 8 9) bare no_parts)) (more o.Add (four (at 8 13) 1) no_more)))) (statements (associates (at 8 16) ((association (name
    32 8 27) (designator (parts (name 24 8 32) (within (arguments (value None (four (at 8 34) 1)) no_arguments)) (parts (name 6 8 37) (within
    (arguments (value None (designator (parts (name 33 8 39) (within (arguments (value None (chain (designator (parts (name 13 8 43) bare no_parts))
    (more o.Subtract (four (at 8 47) 1) no_more))) (arguments (value None (four (at 8 50) 1)) no_arguments))) no_parts))) no_arguments)) no_parts))))
    ∷ (association (name 34 8 55) (designator (parts (name 26 8 60) (within (arguments (value None (chain (designator (parts (name 35 8 63) (within
    (arguments (value None (designator (parts (name 13 8 67) bare no_parts))) (arguments (value None (four (at 8 70) 2)) no_arguments))) no_parts))
    (more o.Add (four (at 8 75) 1) no_more))) no_arguments)) no_parts))) ∷ []) (statements (acts_if (at 8 80) (comparison (designator (parts (name 13
    8 84) bare no_parts)) r.Greater (four (at 8 88) 2)) (at 8 91) exit) (statements (acts (at 9 1) (assign (parts (name 32 9 1) bare no_parts) (chain
    (designator (parts (name 32 9 5) bare no_parts)) (more o.Multiply (four (at 9 9) 10) no_more)))) (statements (acts (at 9 13) (assign (parts (name
    34 9 13) bare no_parts) (negation (at 9 17) (designator (parts (name 34 9 23) bare no_parts))))) (statements (acts_if (at 9 26) (designator
    (parts (name 34 9 30) bare no_parts)) (at 9 33) cycle) (statements (acts (at 9 40) (print ((text (at 9 49) 0) ∷ (designator (parts (name 13 9 57)
    bare no_parts)) ∷ []))) no_statements)))))) no_statements))) (statements (acts (at 10 1) (print ((designator (parts (name 24 10 10) (within
    (arguments (value None (four (at 10 12) 1)) no_arguments)) (parts (name 6 10 15) bare no_parts))) ∷ (designator (parts (name 26 10 18) bare
    no_parts)) ∷ (designator (parts (name 13 10 22) bare no_parts)) ∷ []))) no_statements))))))) [] (at 10 25)) ∷ [])) (looks (((3, One 0) ∷ (
      11,
      One
          1,
    ) ∷ []) ∷ ((3, One 0) ∷ (11, One 2) ∷ (12, One 3) ∷ (13, One 4) ∷ []) ∷ ((3, One 0) ∷ (11, One 2) ∷ (12, One 3) ∷ (13, One 4) ∷ (17, One 5) ∷
    (18, One 6) ∷ []) ∷ ((3, One 0) ∷ (11, One 1) ∷ (13, One 8) ∷ (24, One 7) ∷ (26, One 9) ∷ []) ∷ ((3, One 0) ∷ (11, One 1) ∷ (13, One 8) ∷ (
      24,
      One 7,
    ) ∷ (26, One 9) ∷ (32, One 10) ∷ (34, One 11) ∷ []) ∷ [])) (0 ∷ 1 ∷ [])

abbrev pub elements_formed : Global → Type 0
elements_formed h = IsWellFormed (built h elements_program)

abbrev pub elements_shows : Global → Type 0
elements_shows h =
    shown (run_of (built h elements_program) 2000 granted) ≡ record {
      bytes = lines (codes " 104 1 4 T F F 5 6" ∷ codes " kept 2" ∷
          codes " 20 10 F T 3" ∷ []);
      verdict = Finished;
    }

--     program p; integer(8), parameter :: big = 5000000000_8, b2 = big * 2; logical, parameter :: yes = .true.; integer(8) :: n; logical :: l
--     n = big; select case (n); case (:0); print *, 'neg'; case (big - 1:b2); print *, 'in', b2; end select
--     select case (.not. l); case (yes); print *, 'yes', yes; case (.false.); print *, 'no'; end select
--     do n = 3_8, big / 2500000000_8 - 2, -1; print *, n; end do; print *, n; stop 40
--     end
abbrev pub constants_program : ProgramNode
constants_program = elaborated
    (program (codes "program" ∷ codes "p" ∷ codes "integer" ∷ codes "parameter" ∷ codes "big" ∷ codes "b2" ∷ codes "logical" ∷ codes "yes" ∷
    codes "n" ∷ codes "l" ∷ codes "select" ∷ codes "case" ∷ codes "print" ∷ codes "end" ∷ codes "do" ∷ codes "stop" ∷ []) ((110 ∷ 101 ∷ 103 ∷ []) ∷
    (105 ∷ 110 ∷ []) ∷ (121 ∷ 101 ∷ 115 ∷ []) ∷ (110 ∷ 111 ∷ []) ∷ []) ((unit (at 1 1) u.Program (name 1 1 9) ((declares (declaration (Integer Eight)
    (parameter ∷ []) ((entity (name 4 1 37) None (Some (eight (at 1 43) 5000000000))) ∷ (entity (name 5 1 57) None (Some (chain (designator (parts
    (name 4 1 62) bare no_parts)) (more o.Multiply (four (at 1 68) 2) no_more)))) ∷ []))) ∷ (declares (declaration Logical (parameter ∷ []) ((entity
    (name 7 1 93) None (Some (truth (at 1 99) true))) ∷ []))) ∷ (declares (declaration (Integer Eight) [] ((entity (name 8 1 121) None None) ∷ [])))
    ∷ (declares (declaration Logical [] ((entity (name 9 1 135) None None) ∷ []))) ∷ []) (statements (acts (at 2 1) (assign (parts (name 8 2 1) bare
    no_parts) (designator (parts (name 4 2 5) bare no_parts)))) (statements (selects (at 2 10) (designator (parts (name 8 2 23) bare no_parts))
    (case_block (at 2 27) (values ((up_to (at 2 33) (four (at 2 34) 0)) ∷ [])) (statements (acts (at 2 38) (print ((text (at 2 47) 0) ∷ [])))
    no_statements) (case_block (at 2 54) (values ((range (chain (designator (parts (name 4 2 60) bare no_parts)) (more o.Subtract (four (at 2 66) 1)
    no_more)) (designator (parts (name 5 2 68) bare no_parts))) ∷ [])) (statements (acts (at 2 73) (print ((text (at 2 82) 1) ∷ (designator (parts
    (name 5 2 88) bare no_parts)) ∷ []))) no_statements) no_cases))) (statements (selects (at 3 1) (negation (at 3 14) (designator (parts (name 9 3
    20) bare no_parts))) (case_block (at 3 24) (values ((one (designator (parts (name 7 3 30) bare no_parts))) ∷ [])) (statements (acts (at 3 36)
    (print ((text (at 3 45) 2) ∷ (designator (parts (name 7 3 52) bare no_parts)) ∷ []))) no_statements) (case_block (at 3 57) (values ((one (truth
    (at 3 63) false)) ∷ [])) (statements (acts (at 3 73) (print ((text (at 3 82) 3) ∷ []))) no_statements) no_cases))) (statements (repeats (at 4 1)
    (counted (name 8 4 4) (eight (at 4 8) 3) (chain (chain (designator (parts (name 4 4 13) bare no_parts)) (more o.Divide (eight (at 4 19)
    2500000000) no_more)) (more o.Subtract (four (at 4 34) 2) no_more)) (Some (signed (at 4 37) Minus (four (at 4 38) 1)))) (statements (acts (at 4
    41) (print ((designator (parts (name 8 4 50) bare no_parts)) ∷ []))) no_statements)) (statements (acts (at 4 61) (print ((designator (parts (name
    8 4 70) bare no_parts)) ∷ []))) (statements (acts (at 4 73) (stop (Some (pos 40)))) no_statements)))))) [] (at 5 1)) ∷ [])) (looks (((4, One 0) ∷
    (5, One 1) ∷ (7, One 2) ∷ (8, One 3) ∷ (9, One 4) ∷ []) ∷ [])) (0 ∷ [])

abbrev pub constants_formed : Global → Type 0
constants_formed h = IsWellFormed (built h constants_program)

abbrev pub constants_shows : Global → Type 0
constants_shows h =
    shown (run_of (built h constants_program) 2000 granted) ≡ record {
      bytes = lines (codes " in 10000000000" ∷ codes " yes T" ∷ codes " 3" ∷
          codes " 2" ∷ codes " 1" ∷ codes " 0" ∷ codes " -1" ∷ []);
      verdict = Stopped (Some 40);
    }

-- These programs make sense, print this and end so.
abbrev pub FormsShow : Type 0
FormsShow = (h : Global) →
    keywords_formed h
    × keywords_shows h
    × intrinsics_formed h
    × intrinsics_shows h
    × scopes_formed h
    × scopes_shows h
    × holders_formed h
    × holders_shows h
    × functions_formed h
    × functions_shows h
    × elements_formed h
    × elements_shows h
    × constants_formed h
    × constants_shows h
