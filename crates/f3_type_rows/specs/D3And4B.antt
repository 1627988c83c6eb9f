-- Programs, each in the text above it, with what refuses it.
use Rattle.std.specs.Prelude.{false, [], ◌∷◌, None, Some, codes}
use Rattle.f3_lookups.specs.declared.lookup.Lookup.TheVariants.{One}
use Rattle.f3_rules.specs.declared.rule.Rule.TheVariants.{D3, D4}
use Rattle.f3_tree.specs.declared.expression.Relation.TheVariants as r
use Rattle.f3_tree.specs.declared.expression.IntegerKind.TheVariants.{Four}
use Rattle.f3_tree.specs.declared.declaration.Intent.TheVariants.{InOut}
use Rattle.f3_tree.specs.declared.declaration.TypeSpecifier.TheVariants.{Integer}
use Rattle.f3_tree.specs.declared.program.ProcedureKind.TheVariants.{Subroutine, Function}
use Rattle.f3_tree.specs.declared.program.UnitKind.TheVariants as u
use Rattle.f3_tree.specs.Expressions.{designator, comparison, no_parts, parts}
use Rattle.f3_tree.specs.Expressions.{bare, within, no_arguments, arguments, value}
use Rattle.f3_tree.specs.Declarations.{deferred, allocatable, intent, declares}
use Rattle.f3_tree.specs.Statements.{assign, call, print, one, values, default}
use Rattle.f3_tree.specs.Statements.{counted, acts, acts_if, branches, selects, repeats, associates, no_statements, statements}
use Rattle.f3_tree.specs.Statements.{no_branches, branch, alternative, no_cases, case_block}
use Rattle.f3_type_rows.specs.Build.{Finds, at, name, four, entity, declaration, procedure, unit, association, program, looks, broken}

--     module m; contains; function f() result(r); integer :: r; r = 1; end; end
--     program p; use m; associate (z => f()); z = 2; end associate; end
-- 2:41: D3
abbrev pub d3_16 : Type 0
d3_16 = Finds (Some (broken 7 D3 2 41 None))
    (program (codes "m" ∷ codes "f" ∷ codes "r" ∷ codes "p" ∷ codes "z" ∷ []) ((unit u.Module (name 0 1 8) [] no_statements ((procedure false (Function None
    (Some (name 2 1 41))) (name 1 1 30) [] ((declares (declaration (Integer Four) [] ((entity (name 2 1 56) None None) ∷ []))) ∷ []) (statements (acts (at
    1 59) (assign (parts (name 2 1 59) bare no_parts) (four (at 1 63) 1))) no_statements)) ∷ [])) ∷ (unit u.Program (name 3 2 9) [] (statements
    (associates (at 2 19) ((association (name 4 2 30) (designator (parts (name 1 2 35) (within no_arguments) no_parts))) ∷ []) (statements (acts (at 2 41)
    (assign (parts (name 4 2 41) bare no_parts) (four (at 2 45) 2))) no_statements)) no_statements) []) ∷ [])) (looks (((1, One 0) ∷ []) ∷ ((1, One 0) ∷
    (2, One 1) ∷ []) ∷ ((1, One 0) ∷ []) ∷ ((1, One 0) ∷ (4, One 2) ∷ []) ∷ [])) (0 ∷ 1 ∷ [])

--     program p; associate (z => 1); do z = 1, 2; end do; end associate; end
-- 1:35: D3
abbrev pub d3_17 : Type 0
d3_17 = Finds (Some (broken 7 D3 1 35 None))
    (program (codes "p" ∷ codes "z" ∷ []) ((unit u.Program (name 0 1 9) [] (statements (associates (at 1 12) ((association (name 1 1 23) (four (at 1 28) 1)) ∷
    []) (statements (repeats (at 1 32) (counted (name 1 1 35) (four (at 1 39) 1) (four (at 1 42) 2) None) no_statements) no_statements)) no_statements)
    []) ∷ [])) (looks ([] ∷ ((1, One 0) ∷ []) ∷ [])) (0 ∷ [])

--     program p; integer, allocatable :: v(:); associate (z => v, y => size(v)); z(1) = y; y = 2; end associate; end
-- 1:86: D3
abbrev pub d3_18 : Type 0
d3_18 = Finds (Some (broken 7 D3 1 86 None))
    (program (codes "p" ∷ codes "v" ∷ codes "z" ∷ codes "y" ∷ codes "size" ∷ []) ((unit u.Program (name 0 1 9) ((declares (declaration (Integer Four)
    (allocatable ∷ []) ((entity (name 1 1 36) (Some (deferred (None ∷ []))) None) ∷ []))) ∷ []) (statements (associates (at 1 42) ((association (name 2 1
    53) (designator (parts (name 1 1 58) bare no_parts))) ∷ (association (name 3 1 61) (designator (parts (name 4 1 66) (within (arguments (value None
    (designator (parts (name 1 1 71) bare no_parts))) no_arguments)) no_parts))) ∷ []) (statements (acts (at 1 76) (assign (parts (name 2 1 76) (within
    (arguments (value None (four (at 1 78) 1)) no_arguments)) no_parts) (designator (parts (name 3 1 83) bare no_parts)))) (statements (acts (at 1 86)
    (assign (parts (name 3 1 86) bare no_parts) (four (at 1 90) 2))) no_statements))) no_statements) []) ∷ [])) (looks (((1, One 0) ∷ []) ∷ ((1, One 0) ∷
    (2, One 1) ∷ (3, One 2) ∷ []) ∷ [])) (0 ∷ [])

--     program p; integer :: i; do i = 1, 3; i = 2; end do; end
-- 1:39: D4: i
abbrev pub d4_1 : Type 0
d4_1 = Finds (Some (broken 7 D4 1 39 (Some 1)))
    (program (codes "p" ∷ codes "i" ∷ []) ((unit u.Program (name 0 1 9) ((declares (declaration (Integer Four) [] ((entity (name 1 1 23) None None) ∷ []))) ∷
    []) (statements (repeats (at 1 26) (counted (name 1 1 29) (four (at 1 33) 1) (four (at 1 36) 3) None) (statements (acts (at 1 39) (assign (parts (name
    1 1 39) bare no_parts) (four (at 1 43) 2))) no_statements)) no_statements) []) ∷ [])) (looks (((1, One 0) ∷ []) ∷ [])) (0 ∷ [])

--     program p; use m; integer :: i; do i = 1, 2; call s(i); end do; end
--     module m; contains; subroutine s(a); integer, intent(inout) :: a; a = 1; end; end
-- 1:53: D4: i
abbrev pub d4_2 : Type 0
d4_2 = Finds (Some (broken 7 D4 1 53 (Some 1)))
    (program (codes "p" ∷ codes "i" ∷ codes "call" ∷ codes "s" ∷ codes "m" ∷ codes "a" ∷ []) ((unit u.Program (name 0 1 9) ((declares (declaration (Integer
    Four) [] ((entity (name 1 1 30) None None) ∷ []))) ∷ []) (statements (repeats (at 1 33) (counted (name 1 1 36) (four (at 1 40) 1) (four (at 1 43) 2)
    None) (statements (acts (at 1 46) (call (name 3 1 51) ((value None (designator (parts (name 1 1 53) bare no_parts))) ∷ []))) no_statements))
    no_statements) []) ∷ (unit u.Module (name 4 2 8) [] no_statements ((procedure false Subroutine (name 3 2 32) ((name 5 2 34) ∷ []) ((declares
    (declaration (Integer Four) ((intent InOut) ∷ []) ((entity (name 5 2 64) None None) ∷ []))) ∷ []) (statements (acts (at 2 67) (assign (parts (name 5 2
    67) bare no_parts) (four (at 2 71) 1))) no_statements)) ∷ [])) ∷ [])) (looks (((1, One 0) ∷ (3, One 1) ∷ []) ∷ ((3, One 1) ∷ []) ∷ ((3, One 1) ∷ (
      5,
      One 2,
    ) ∷ []) ∷ [])) (1 ∷ 0 ∷ [])

--     program p; integer :: i; do i = 1, 2; do i = 1, 2; end do; end do; end
-- 1:42: D4: i
abbrev pub d4_3 : Type 0
d4_3 = Finds (Some (broken 7 D4 1 42 (Some 1)))
    (program (codes "p" ∷ codes "i" ∷ []) ((unit u.Program (name 0 1 9) ((declares (declaration (Integer Four) [] ((entity (name 1 1 23) None None) ∷ []))) ∷
    []) (statements (repeats (at 1 26) (counted (name 1 1 29) (four (at 1 33) 1) (four (at 1 36) 2) None) (statements (repeats (at 1 39) (counted (name 1
    1 42) (four (at 1 46) 1) (four (at 1 49) 2) None) no_statements) no_statements)) no_statements) []) ∷ [])) (looks (((1, One 0) ∷ []) ∷ [])) (0 ∷ [])

--     program p; integer :: i, j; do i = 1, 2; do j = 1, 2; if (j == 2) i = 1; end do; end do; end
-- 1:67: D4: i
abbrev pub d4_4 : Type 0
d4_4 = Finds (Some (broken 7 D4 1 67 (Some 1)))
    (program (codes "p" ∷ codes "i" ∷ codes "j" ∷ []) ((unit u.Program (name 0 1 9) ((declares (declaration (Integer Four) [] ((entity (name 1 1 23) None
    None) ∷ (entity (name 2 1 26) None None) ∷ []))) ∷ []) (statements (repeats (at 1 29) (counted (name 1 1 32) (four (at 1 36) 1) (four (at 1 39) 2)
    None) (statements (repeats (at 1 42) (counted (name 2 1 45) (four (at 1 49) 1) (four (at 1 52) 2) None) (statements (acts_if (at 1 55) (comparison
    (designator (parts (name 2 1 59) bare no_parts)) r.Equal (four (at 1 64) 2)) (at 1 67) (assign (parts (name 1 1 67) bare no_parts) (four (at 1 71)
    1))) no_statements)) no_statements)) no_statements) []) ∷ [])) (looks (((1, One 0) ∷ (2, One 1) ∷ []) ∷ [])) (0 ∷ [])

--     program p; integer :: i; do i = 1, 2; if (i == 1) then; print *, 1; else; i = 2; end if; end do; i = 3; end
-- 1:75: D4: i
abbrev pub d4_5 : Type 0
d4_5 = Finds (Some (broken 7 D4 1 75 (Some 1)))
    (program (codes "p" ∷ codes "i" ∷ codes "print" ∷ []) ((unit u.Program (name 0 1 9) ((declares (declaration (Integer Four) [] ((entity (name 1 1 23) None
    None) ∷ []))) ∷ []) (statements (repeats (at 1 26) (counted (name 1 1 29) (four (at 1 33) 1) (four (at 1 36) 2) None) (statements (branches (branch
    (at 1 39) (comparison (designator (parts (name 1 1 43) bare no_parts)) r.Equal (four (at 1 48) 1)) (statements (acts (at 1 57) (print ((four (at 1 66)
    1) ∷ []))) no_statements) no_branches) (alternative (statements (acts (at 1 75) (assign (parts (name 1 1 75) bare no_parts) (four (at 1 79) 2)))
    no_statements))) no_statements)) (statements (acts (at 1 98) (assign (parts (name 1 1 98) bare no_parts) (four (at 1 102) 3))) no_statements)) []) ∷
    [])) (looks (((1, One 0) ∷ []) ∷ [])) (0 ∷ [])

--     program p; integer :: i; associate (z => i); do z = 1, 2; i = 3; end do; do i = 1, 2; z = 4; end do; end associate; end
-- 1:87: D4: z
abbrev pub d4_6 : Type 0
d4_6 = Finds (Some (broken 7 D4 1 87 (Some 2)))
    (program (codes "p" ∷ codes "i" ∷ codes "z" ∷ []) ((unit u.Program (name 0 1 9) ((declares (declaration (Integer Four) [] ((entity (name 1 1 23) None
    None) ∷ []))) ∷ []) (statements (associates (at 1 26) ((association (name 2 1 37) (designator (parts (name 1 1 42) bare no_parts))) ∷ []) (statements
    (repeats (at 1 46) (counted (name 2 1 49) (four (at 1 53) 1) (four (at 1 56) 2) None) (statements (acts (at 1 59) (assign (parts (name 1 1 59) bare
    no_parts) (four (at 1 63) 3))) no_statements)) (statements (repeats (at 1 74) (counted (name 1 1 77) (four (at 1 81) 1) (four (at 1 84) 2) None)
    (statements (acts (at 1 87) (assign (parts (name 2 1 87) bare no_parts) (four (at 1 91) 4))) no_statements)) no_statements))) no_statements) []) ∷
    [])) (looks (((1, One 0) ∷ []) ∷ ((1, One 0) ∷ (2, One 1) ∷ []) ∷ [])) (0 ∷ [])

--     program p; integer :: i; associate (z => i); do z = 1, 2; z = 3; end do; end associate; end
-- 1:59: D4: z
abbrev pub d4_7 : Type 0
d4_7 = Finds (Some (broken 7 D4 1 59 (Some 2)))
    (program (codes "p" ∷ codes "i" ∷ codes "z" ∷ []) ((unit u.Program (name 0 1 9) ((declares (declaration (Integer Four) [] ((entity (name 1 1 23) None
    None) ∷ []))) ∷ []) (statements (associates (at 1 26) ((association (name 2 1 37) (designator (parts (name 1 1 42) bare no_parts))) ∷ []) (statements
    (repeats (at 1 46) (counted (name 2 1 49) (four (at 1 53) 1) (four (at 1 56) 2) None) (statements (acts (at 1 59) (assign (parts (name 2 1 59) bare
    no_parts) (four (at 1 63) 3))) no_statements)) no_statements)) no_statements) []) ∷ [])) (looks (((1, One 0) ∷ []) ∷ ((1, One 0) ∷ (2, One 1) ∷ []) ∷
    [])) (0 ∷ [])

--     program p; integer :: i; do i = 1, 2; select case (i); case (1); i = 3; case default; i = 4; end select; end do; end
-- 1:66: D4: i
abbrev pub d4_8 : Type 0
d4_8 = Finds (Some (broken 7 D4 1 66 (Some 1)))
    (program (codes "p" ∷ codes "i" ∷ []) ((unit u.Program (name 0 1 9) ((declares (declaration (Integer Four) [] ((entity (name 1 1 23) None None) ∷ []))) ∷
    []) (statements (repeats (at 1 26) (counted (name 1 1 29) (four (at 1 33) 1) (four (at 1 36) 2) None) (statements (selects (at 1 39) (designator
    (parts (name 1 1 52) bare no_parts)) (case_block (at 1 56) (values ((one (four (at 1 62) 1)) ∷ [])) (statements (acts (at 1 66) (assign (parts (name 1
    1 66) bare no_parts) (four (at 1 70) 3))) no_statements) (case_block (at 1 73) default (statements (acts (at 1 87) (assign (parts (name 1 1 87) bare
    no_parts) (four (at 1 91) 4))) no_statements) no_cases))) no_statements)) no_statements) []) ∷ [])) (looks (((1, One 0) ∷ []) ∷ [])) (0 ∷ [])

--     program p; integer :: i; do i = 1, 2; associate (z => i); z = 3; end associate; end do; end
-- 1:59: D4: z
abbrev pub d4_9 : Type 0
d4_9 = Finds (Some (broken 7 D4 1 59 (Some 2)))
    (program (codes "p" ∷ codes "i" ∷ codes "z" ∷ []) ((unit u.Program (name 0 1 9) ((declares (declaration (Integer Four) [] ((entity (name 1 1 23) None
    None) ∷ []))) ∷ []) (statements (repeats (at 1 26) (counted (name 1 1 29) (four (at 1 33) 1) (four (at 1 36) 2) None) (statements (associates (at 1
    39) ((association (name 2 1 50) (designator (parts (name 1 1 55) bare no_parts))) ∷ []) (statements (acts (at 1 59) (assign (parts (name 2 1 59) bare
    no_parts) (four (at 1 63) 3))) no_statements)) no_statements)) no_statements) []) ∷ [])) (looks (((1, One 0) ∷ []) ∷ ((1, One 0) ∷ (2, One 1) ∷ []) ∷
    [])) (0 ∷ [])

--     program p; integer :: i; do i = 1, 2; associate (z => i); associate (y => z); y = 3; end associate; end associate; end do; end
-- 1:79: D4: y
abbrev pub d4_10 : Type 0
d4_10 = Finds (Some (broken 7 D4 1 79 (Some 3)))
    (program (codes "p" ∷ codes "i" ∷ codes "z" ∷ codes "y" ∷ []) ((unit u.Program (name 0 1 9) ((declares (declaration (Integer Four) [] ((entity (name 1 1
    23) None None) ∷ []))) ∷ []) (statements (repeats (at 1 26) (counted (name 1 1 29) (four (at 1 33) 1) (four (at 1 36) 2) None) (statements (associates
    (at 1 39) ((association (name 2 1 50) (designator (parts (name 1 1 55) bare no_parts))) ∷ []) (statements (associates (at 1 59) ((association (name 3
    1 70) (designator (parts (name 2 1 75) bare no_parts))) ∷ []) (statements (acts (at 1 79) (assign (parts (name 3 1 79) bare no_parts) (four (at 1 83)
    3))) no_statements)) no_statements)) no_statements)) no_statements) []) ∷ [])) (looks (((1, One 0) ∷ []) ∷ ((1, One 0) ∷ (2, One 1) ∷ []) ∷ ((
      1,
      One
          0,
    ) ∷ (2, One 1) ∷ (3, One 2) ∷ []) ∷ [])) (0 ∷ [])

--     program p; integer :: i; do i = 1, 2; associate (z => i); do z = 1, 2; end do; end associate; end do; end
-- 1:62: D4: z
abbrev pub d4_11 : Type 0
d4_11 = Finds (Some (broken 7 D4 1 62 (Some 2)))
    (program (codes "p" ∷ codes "i" ∷ codes "z" ∷ []) ((unit u.Program (name 0 1 9) ((declares (declaration (Integer Four) [] ((entity (name 1 1 23) None
    None) ∷ []))) ∷ []) (statements (repeats (at 1 26) (counted (name 1 1 29) (four (at 1 33) 1) (four (at 1 36) 2) None) (statements (associates (at 1
    39) ((association (name 2 1 50) (designator (parts (name 1 1 55) bare no_parts))) ∷ []) (statements (repeats (at 1 59) (counted (name 2 1 62) (four
    (at 1 66) 1) (four (at 1 69) 2) None) no_statements) no_statements)) no_statements)) no_statements) []) ∷ [])) (looks (((1, One 0) ∷ []) ∷ ((1, One 0)
    ∷ (2, One 1) ∷ []) ∷ [])) (0 ∷ [])

--     program p; integer :: i, n; do i = 1, 2; associate (n => i); n = 3; end associate; end do; end
-- 1:62: D4: n
abbrev pub d4_12 : Type 0
d4_12 = Finds (Some (broken 7 D4 1 62 (Some 2)))
    (program (codes "p" ∷ codes "i" ∷ codes "n" ∷ []) ((unit u.Program (name 0 1 9) ((declares (declaration (Integer Four) [] ((entity (name 1 1 23) None
    None) ∷ (entity (name 2 1 26) None None) ∷ []))) ∷ []) (statements (repeats (at 1 29) (counted (name 1 1 32) (four (at 1 36) 1) (four (at 1 39) 2)
    None) (statements (associates (at 1 42) ((association (name 2 1 53) (designator (parts (name 1 1 58) bare no_parts))) ∷ []) (statements (acts (at 1
    62) (assign (parts (name 2 1 62) bare no_parts) (four (at 1 66) 3))) no_statements)) no_statements)) no_statements) []) ∷ [])) (looks (((1, One 0) ∷
    (2, One 1) ∷ []) ∷ ((1, One 0) ∷ (2, One 2) ∷ []) ∷ [])) (0 ∷ [])

abbrev pub D3And4BShow : Type 0
D3And4BShow = d3_16 × d3_17 × d3_18 × d4_1 × d4_2 × d4_3 × d4_4 × d4_5 × d4_6 × d4_7 × d4_8 × d4_9 × d4_10 × d4_11 × d4_12
