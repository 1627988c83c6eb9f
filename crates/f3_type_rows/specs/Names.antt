-- Programs, each in the text above it, with what refuses it.
use Rattle.std.specs.Prelude.{true, false, [], ◌∷◌, None, Some, codes}
use Rattle.f3_lookups.specs.declared.lookup.Lookup.TheVariants.{One}
use Rattle.f3_rules.specs.declared.rule.Rule.TheVariants.{N10}
use Rattle.f3_tree.specs.declared.expression.Relation.TheVariants as r
use Rattle.f3_tree.specs.declared.expression.Operator.TheVariants as o
use Rattle.f3_tree.specs.declared.expression.IntegerKind.TheVariants.{Four}
use Rattle.f3_tree.specs.declared.declaration.Intent.TheVariants.{In}
use Rattle.f3_tree.specs.declared.declaration.TypeSpecifier.TheVariants.{Integer}
use Rattle.f3_tree.specs.declared.program.ProcedureKind.TheVariants.{Subroutine, Function}
use Rattle.f3_tree.specs.declared.program.UnitKind.TheVariants as u
use Rattle.f3_tree.specs.Expressions.{truth, text, designator, array, comparison, chain, no_more, more, no_trees, trees, no_parts, parts}
use Rattle.f3_tree.specs.Expressions.{bare, within, no_arguments, arguments, value}
use Rattle.f3_tree.specs.Declarations.{explicit, deferred, parameter, allocatable, intent, declares}
use Rattle.f3_tree.specs.Statements.{assign, call, print, one, values}
use Rattle.f3_tree.specs.Statements.{acts, acts_if, branches, selects, associates, no_statements, statements}
use Rattle.f3_tree.specs.Statements.{no_branches, branch, alternative, no_cases, case_block}
use Rattle.f3_type_rows.specs.Build.{Finds, at, name, four, bounds, entity, declaration, procedure, unit, association, program, looks, broken}

--     module a; integer :: n = 1, o = 2; end
--     program p; use a, k => n; print *, n; end
-- 2:36: N10: n
abbrev pub n10_1 : Type 0
n10_1 = Finds (Some (broken 6 N10 2 36 (Some 1)))
    (program (codes "a" ∷ codes "n" ∷ codes "o" ∷ codes "p" ∷ codes "print" ∷ []) ((unit u.Module (name 0 1 8) ((declares (declaration (Integer Four) []
    ((entity (name 1 1 22) None (Some (four (at 1 26) 1))) ∷ (entity (name 2 1 29) None (Some (four (at 1 33) 2))) ∷ []))) ∷ []) no_statements []) ∷ (unit
    u.Program (name 3 2 9) [] (statements (acts (at 2 27) (print ((designator (parts (name 1 2 36) bare no_parts)) ∷ []))) no_statements) []) ∷ []))
    (looks (((1, One 0) ∷ (2, One 1) ∷ []) ∷ ((2, One 1) ∷ []) ∷ [])) (0 ∷ 1 ∷ [])

--     module m; private; integer :: n = 1; end
--     program p; use m; print *, n; end
-- 2:28: N10: n
abbrev pub n10_2 : Type 0
n10_2 = Finds (Some (broken 6 N10 2 28 (Some 1)))
    (program (codes "m" ∷ codes "n" ∷ codes "p" ∷ codes "print" ∷ []) ((unit u.Module (name 0 1 8) ((declares (declaration (Integer Four) [] ((entity (name 1
    1 31) None (Some (four (at 1 35) 1))) ∷ []))) ∷ []) no_statements []) ∷ (unit u.Program (name 2 2 9) [] (statements (acts (at 2 19) (print
    ((designator (parts (name 1 2 28) bare no_parts)) ∷ []))) no_statements) []) ∷ [])) (looks (((1, One 0) ∷ []) ∷ [] ∷ [])) (0 ∷ 1 ∷ [])

--     program p; use m; print *, f(undef); end
--     module m; contains; function f(a, b); integer, intent(in) :: a, b; integer :: f; f = a; end; end
-- 1:30: N10: undef
abbrev pub n10_3 : Type 0
n10_3 = Finds (Some (broken 6 N10 1 30 (Some 2)))
    (program (codes "p" ∷ codes "print" ∷ codes "undef" ∷ codes "f" ∷ codes "m" ∷ codes "a" ∷ codes "b" ∷ []) ((unit u.Program (name 0 1 9) [] (statements
    (acts (at 1 19) (print ((designator (parts (name 3 1 28) (within (arguments (value None (designator (parts (name 2 1 30) bare no_parts)))
    no_arguments)) no_parts)) ∷ []))) no_statements) []) ∷ (unit u.Module (name 4 2 8) [] no_statements ((procedure false (Function None None) (name 3 2
    30) ((name 5 2 32) ∷ (name 6 2 35) ∷ []) ((declares (declaration (Integer Four) ((intent In) ∷ []) ((entity (name 5 2 62) None None) ∷ (entity (name 6
    2 65) None None) ∷ []))) ∷ (declares (declaration (Integer Four) [] ((entity (name 3 2 79) None None) ∷ []))) ∷ []) (statements (acts (at 2 82)
    (assign (parts (name 3 2 82) bare no_parts) (designator (parts (name 5 2 86) bare no_parts)))) no_statements)) ∷ [])) ∷ [])) (looks (((3, One 0) ∷ [])
    ∷ ((3, One 0) ∷ []) ∷ ((3, One 3) ∷ (5, One 1) ∷ (6, One 2) ∷ []) ∷ [])) (1 ∷ 0 ∷ [])

--     program p; integer :: a(2); print *, a(undef, 1); end
-- 1:40: N10: undef
abbrev pub n10_4 : Type 0
n10_4 = Finds (Some (broken 6 N10 1 40 (Some 3)))
    (program (codes "p" ∷ codes "a" ∷ codes "print" ∷ codes "undef" ∷ []) ((unit u.Program (name 0 1 9) ((declares (declaration (Integer Four) [] ((entity
    (name 1 1 23) (Some (explicit ((bounds None (four (at 1 25) 2)) ∷ []))) None) ∷ []))) ∷ []) (statements (acts (at 1 29) (print ((designator (parts
    (name 1 1 38) (within (arguments (value None (designator (parts (name 3 1 40) bare no_parts))) (arguments (value None (four (at 1 47) 1))
    no_arguments))) no_parts)) ∷ []))) no_statements) []) ∷ [])) (looks (((1, One 0) ∷ []) ∷ [])) (0 ∷ [])

--     program p; associate (z => undef); z = .true.; end associate; end
-- 1:28: N10: undef
abbrev pub n10_5 : Type 0
n10_5 = Finds (Some (broken 6 N10 1 28 (Some 2)))
    (program (codes "p" ∷ codes "z" ∷ codes "undef" ∷ []) ((unit u.Program (name 0 1 9) [] (statements (associates (at 1 12) ((association (name 1 1 23)
    (designator (parts (name 2 1 28) bare no_parts))) ∷ []) (statements (acts (at 1 36) (assign (parts (name 1 1 36) bare no_parts) (truth (at 1 40)
    true))) no_statements)) no_statements) []) ∷ [])) (looks ([] ∷ ((1, One 0) ∷ []) ∷ [])) (0 ∷ [])

--     program p; print *, [1, .true., undef]; end
-- 1:33: N10: undef
abbrev pub n10_6 : Type 0
n10_6 = Finds (Some (broken 6 N10 1 33 (Some 2)))
    (program (codes "p" ∷ codes "print" ∷ codes "undef" ∷ []) ((unit u.Program (name 0 1 9) [] (statements (acts (at 1 12) (print ((array (at 1 21) (trees
    (four (at 1 22) 1) (trees (truth (at 1 25) true) (trees (designator (parts (name 2 1 33) bare no_parts)) no_trees)))) ∷ []))) no_statements) []) ∷
    [])) (looks ([] ∷ [])) (0 ∷ [])

--     program p; integer, parameter :: c = 1; print *, c(undef); end
-- 1:52: N10: undef
abbrev pub n10_7 : Type 0
n10_7 = Finds (Some (broken 6 N10 1 52 (Some 3)))
    (program (codes "p" ∷ codes "c" ∷ codes "print" ∷ codes "undef" ∷ []) ((unit u.Program (name 0 1 9) ((declares (declaration (Integer Four) (parameter ∷
    []) ((entity (name 1 1 34) None (Some (four (at 1 38) 1))) ∷ []))) ∷ []) (statements (acts (at 1 41) (print ((designator (parts (name 1 1 50) (within
    (arguments (value None (designator (parts (name 3 1 52) bare no_parts))) no_arguments)) no_parts)) ∷ []))) no_statements) []) ∷ [])) (looks (((
      1,
      One
          0,
    ) ∷ []) ∷ [])) (0 ∷ [])

--     module m; integer :: n = 1; end
--     program p; use m; print *, o; end
-- 2:28: N10: o
abbrev pub n10_8 : Type 0
n10_8 = Finds (Some (broken 6 N10 2 28 (Some 4)))
    (program (codes "m" ∷ codes "n" ∷ codes "p" ∷ codes "print" ∷ codes "o" ∷ []) ((unit u.Module (name 0 1 8) ((declares (declaration (Integer Four) []
    ((entity (name 1 1 22) None (Some (four (at 1 26) 1))) ∷ []))) ∷ []) no_statements []) ∷ (unit u.Program (name 2 2 9) [] (statements (acts (at 2 19)
    (print ((designator (parts (name 4 2 28) bare no_parts)) ∷ []))) no_statements) []) ∷ [])) (looks (((1, One 0) ∷ []) ∷ ((1, One 0) ∷ []) ∷ [])) (0 ∷ 1
    ∷ [])

--     program p; n = 1; end
-- 1:12: N10: n
abbrev pub n10_9 : Type 0
n10_9 = Finds (Some (broken 6 N10 1 12 (Some 1)))
    (program (codes "p" ∷ codes "n" ∷ []) ((unit u.Program (name 0 1 9) [] (statements (acts (at 1 12) (assign (parts (name 1 1 12) bare no_parts) (four (at 1
    16) 1))) no_statements) []) ∷ [])) (looks ([] ∷ [])) (0 ∷ [])

--     program p; select case (1); case (1 + undef); case (.true. + 1); end select; end
-- 1:39: N10: undef
abbrev pub n10_10 : Type 0
n10_10 = Finds (Some (broken 6 N10 1 39 (Some 1)))
    (program (codes "p" ∷ codes "undef" ∷ []) ((unit u.Program (name 0 1 9) [] (statements (selects (at 1 12) (four (at 1 25) 1) (case_block (at 1 29) (values
    ((one (chain (four (at 1 35) 1) (more o.Add (designator (parts (name 1 1 39) bare no_parts)) no_more))) ∷ [])) no_statements (case_block (at 1 47)
    (values ((one (chain (truth (at 1 53) true) (more o.Add (four (at 1 62) 1) no_more))) ∷ [])) no_statements no_cases))) no_statements) []) ∷ []))
    (looks ([] ∷ [])) (0 ∷ [])

--     program p; integer, allocatable :: a(:), b(:); call move_alloc(undef, b); end
-- 1:64: N10: undef
abbrev pub n10_11 : Type 0
n10_11 = Finds (Some (broken 6 N10 1 64 (Some 4)))
    (program (codes "p" ∷ codes "a" ∷ codes "b" ∷ codes "call" ∷ codes "undef" ∷ codes "move_alloc" ∷ []) ((unit u.Program (name 0 1 9) ((declares
    (declaration (Integer Four) (allocatable ∷ []) ((entity (name 1 1 36) (Some (deferred (None ∷ []))) None) ∷ (entity (name 2 1 42) (Some (deferred
    (None ∷ []))) None) ∷ []))) ∷ []) (statements (acts (at 1 48) (call (name 5 1 53) ((value None (designator (parts (name 4 1 64) bare no_parts))) ∷
    (value None (designator (parts (name 2 1 71) bare no_parts))) ∷ []))) no_statements) []) ∷ [])) (looks (((1, One 0) ∷ (2, One 1) ∷ []) ∷ [])) (0 ∷ [])

--     program p; x = 1; end
-- 1:12: N10: x
abbrev pub n10_12 : Type 0
n10_12 = Finds (Some (broken 6 N10 1 12 (Some 1)))
    (program (codes "p" ∷ codes "x" ∷ []) ((unit u.Program (name 0 1 9) [] (statements (acts (at 1 12) (assign (parts (name 1 1 12) bare no_parts) (four (at 1
    16) 1))) no_statements) []) ∷ [])) (looks ([] ∷ [])) (0 ∷ [])

--     program p; integer :: y; y = x; end
-- 1:30: N10: x
abbrev pub n10_13 : Type 0
n10_13 = Finds (Some (broken 6 N10 1 30 (Some 2)))
    (program (codes "p" ∷ codes "y" ∷ codes "x" ∷ []) ((unit u.Program (name 0 1 9) ((declares (declaration (Integer Four) [] ((entity (name 1 1 23) None
    None) ∷ []))) ∷ []) (statements (acts (at 1 26) (assign (parts (name 1 1 26) bare no_parts) (designator (parts (name 2 1 30) bare no_parts))))
    no_statements) []) ∷ [])) (looks (((1, One 0) ∷ []) ∷ [])) (0 ∷ [])

--     program p; call x(); end
-- 1:17: N10: x
abbrev pub n10_14 : Type 0
n10_14 = Finds (Some (broken 6 N10 1 17 (Some 2)))
    (program (codes "p" ∷ codes "call" ∷ codes "x" ∷ []) ((unit u.Program (name 0 1 9) [] (statements (acts (at 1 12) (call (name 2 1 17) [])) no_statements)
    []) ∷ [])) (looks ([] ∷ [])) (0 ∷ [])

--     program p; if (.true.) x = 'a'; end
-- 1:24: N10: x
abbrev pub n10_15 : Type 0
n10_15 = Finds (Some (broken 6 N10 1 24 (Some 1)))
    (program (codes "p" ∷ codes "x" ∷ []) ((unit u.Program (name 0 1 9) [] (statements (acts_if (at 1 12) (truth (at 1 16) true) (at 1 24) (assign (parts
    (name 1 1 24) bare no_parts) (text (at 1 28) 0))) no_statements) []) ∷ [])) (looks ([] ∷ [])) (0 ∷ [])

--     program p; associate (z => 1, y => z); print *, y; end associate; end
-- 1:36: N10: z
abbrev pub n10_16 : Type 0
n10_16 = Finds (Some (broken 6 N10 1 36 (Some 1)))
    (program (codes "p" ∷ codes "z" ∷ codes "y" ∷ codes "print" ∷ []) ((unit u.Program (name 0 1 9) [] (statements (associates (at 1 12) ((association (name 1
    1 23) (four (at 1 28) 1)) ∷ (association (name 2 1 31) (designator (parts (name 1 1 36) bare no_parts))) ∷ []) (statements (acts (at 1 40) (print
    ((designator (parts (name 2 1 49) bare no_parts)) ∷ []))) no_statements)) no_statements) []) ∷ [])) (looks ([] ∷ ((1, One 0) ∷ (2, One 1) ∷ []) ∷ []))
    (0 ∷ [])

--     program p; associate (z => 1); print *, z; end associate; print *, z; end
-- 1:68: N10: z
abbrev pub n10_17 : Type 0
n10_17 = Finds (Some (broken 6 N10 1 68 (Some 1)))
    (program (codes "p" ∷ codes "z" ∷ codes "print" ∷ []) ((unit u.Program (name 0 1 9) [] (statements (associates (at 1 12) ((association (name 1 1 23) (four
    (at 1 28) 1)) ∷ []) (statements (acts (at 1 32) (print ((designator (parts (name 1 1 41) bare no_parts)) ∷ []))) no_statements)) (statements (acts (at
    1 59) (print ((designator (parts (name 1 1 68) bare no_parts)) ∷ []))) no_statements)) []) ∷ [])) (looks ([] ∷ ((1, One 0) ∷ []) ∷ [])) (0 ∷ [])

--     module m; contains; subroutine s(); associate (z => 1); print *, z; end associate; end; subroutine t(); print *, z; end; end
--     program p; end
-- 1:114: N10: z
abbrev pub n10_18 : Type 0
n10_18 = Finds (Some (broken 6 N10 1 114 (Some 2)))
    (program (codes "m" ∷ codes "s" ∷ codes "z" ∷ codes "print" ∷ codes "t" ∷ codes "p" ∷ []) ((unit u.Module (name 0 1 8) [] no_statements ((procedure false
    Subroutine (name 1 1 32) [] [] (statements (associates (at 1 37) ((association (name 2 1 48) (four (at 1 53) 1)) ∷ []) (statements (acts (at 1 57)
    (print ((designator (parts (name 2 1 66) bare no_parts)) ∷ []))) no_statements)) no_statements)) ∷ (procedure false Subroutine (name 4 1 100) [] []
    (statements (acts (at 1 105) (print ((designator (parts (name 2 1 114) bare no_parts)) ∷ []))) no_statements)) ∷ [])) ∷ (unit u.Program (name 5 2 9)
    [] no_statements []) ∷ [])) (looks (((1, One 0) ∷ (4, One 1) ∷ []) ∷ ((1, One 0) ∷ (4, One 1) ∷ []) ∷ ((1, One 0) ∷ (2, One 2) ∷ (4, One 1) ∷ []) ∷
    ((1, One 0) ∷ (4, One 1) ∷ []) ∷ [] ∷ [])) (0 ∷ 1 ∷ [])

--     module m; contains; subroutine s(); associate (z => 1); associate (y => z); print *, y; end associate; print *, y; end associate; end; end
--     program p; end
-- 1:113: N10: y
abbrev pub n10_19 : Type 0
n10_19 = Finds (Some (broken 6 N10 1 113 (Some 3)))
    (program (codes "m" ∷ codes "s" ∷ codes "z" ∷ codes "y" ∷ codes "print" ∷ codes "p" ∷ []) ((unit u.Module (name 0 1 8) [] no_statements ((procedure false
    Subroutine (name 1 1 32) [] [] (statements (associates (at 1 37) ((association (name 2 1 48) (four (at 1 53) 1)) ∷ []) (statements (associates (at 1
    57) ((association (name 3 1 68) (designator (parts (name 2 1 73) bare no_parts))) ∷ []) (statements (acts (at 1 77) (print ((designator (parts (name 3
    1 86) bare no_parts)) ∷ []))) no_statements)) (statements (acts (at 1 104) (print ((designator (parts (name 3 1 113) bare no_parts)) ∷ [])))
    no_statements))) no_statements)) ∷ [])) ∷ (unit u.Program (name 5 2 9) [] no_statements []) ∷ [])) (looks (((1, One 0) ∷ []) ∷ ((1, One 0) ∷ []) ∷
    ((1, One 0) ∷ (2, One 1) ∷ []) ∷ ((1, One 0) ∷ (2, One 1) ∷ (3, One 2) ∷ []) ∷ [] ∷ [])) (0 ∷ 1 ∷ [])

--     program p; integer :: i; i = 1; if (i == 1) then; associate (x => 1); i = x; end associate; else; associate (y => 2); i = x
--     end associate; end if; end
-- 1:123: N10: x
abbrev pub n10_20 : Type 0
n10_20 = Finds (Some (broken 6 N10 1 123 (Some 2)))
    (program (codes "p" ∷ codes "i" ∷ codes "x" ∷ codes "y" ∷ []) ((unit u.Program (name 0 1 9) ((declares (declaration (Integer Four) [] ((entity (name 1 1
    23) None None) ∷ []))) ∷ []) (statements (acts (at 1 26) (assign (parts (name 1 1 26) bare no_parts) (four (at 1 30) 1))) (statements (branches
    (branch (at 1 33) (comparison (designator (parts (name 1 1 37) bare no_parts)) r.Equal (four (at 1 42) 1)) (statements (associates (at 1 51)
    ((association (name 2 1 62) (four (at 1 67) 1)) ∷ []) (statements (acts (at 1 71) (assign (parts (name 1 1 71) bare no_parts) (designator (parts (name
    2 1 75) bare no_parts)))) no_statements)) no_statements) no_branches) (alternative (statements (associates (at 1 99) ((association (name 3 1 110)
    (four (at 1 115) 2)) ∷ []) (statements (acts (at 1 119) (assign (parts (name 1 1 119) bare no_parts) (designator (parts (name 2 1 123) bare
    no_parts)))) no_statements)) no_statements))) no_statements)) []) ∷ [])) (looks (((1, One 0) ∷ []) ∷ ((1, One 0) ∷ (2, One 1) ∷ []) ∷ ((1, One 0) ∷
    (3, One 2) ∷ []) ∷ [])) (0 ∷ [])

abbrev pub NamesShow : Type 0
NamesShow = n10_1 × n10_2 × n10_3 × n10_4 × n10_5 × n10_6 × n10_7 × n10_8 × n10_9 × n10_10 × n10_11 × n10_12 × n10_13 × n10_14 × n10_15 × n10_16 × n10_17 ×
    n10_18 × n10_19 × n10_20
