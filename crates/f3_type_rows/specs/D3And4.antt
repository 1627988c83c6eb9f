-- Programs, each in the text above it, with what refuses it.
use Rattle.std.specs.Prelude.{false, [], ◌∷◌, None, Some, codes}
use Rattle.f3_lookups.specs.declared.lookup.Lookup.TheVariants.{One}
use Rattle.f3_rules.specs.declared.rule.Rule.TheVariants.{D3}
use Rattle.f3_tree.specs.declared.expression.Operator.TheVariants as o
use Rattle.f3_tree.specs.declared.expression.IntegerKind.TheVariants.{Four}
use Rattle.f3_tree.specs.declared.declaration.Intent.TheVariants.{Out, InOut}
use Rattle.f3_tree.specs.declared.declaration.TypeSpecifier.TheVariants.{Integer}
use Rattle.f3_tree.specs.declared.program.ProcedureKind.TheVariants.{Subroutine}
use Rattle.f3_tree.specs.declared.program.UnitKind.TheVariants as u
use Rattle.f3_tree.specs.Expressions.{designator, group, array, chain, no_more, more, no_trees, trees, no_parts, parts}
use Rattle.f3_tree.specs.Expressions.{bare, within, no_arguments, arguments, value}
use Rattle.f3_tree.specs.Declarations.{parameter, intent, declares}
use Rattle.f3_tree.specs.Statements.{assign, call}
use Rattle.f3_tree.specs.Statements.{counted, acts, repeats, associates, no_statements, statements}
use Rattle.f3_type_rows.specs.Build.{Finds, at, name, four, entity, declaration, type_definition, procedure, unit, association, program, looks, broken}

--     module k; contains; subroutine bump(x); integer, intent(inout) :: x; x = x + 1; end; end
--     program p; use k; integer :: y; call bump((y)); end
-- 2:43: D3
abbrev pub d3_1 : Type 0
d3_1 = Finds (Some (broken 7 D3 2 43 None))
    (program (codes "k" ∷ codes "bump" ∷ codes "x" ∷ codes "p" ∷ codes "y" ∷ codes "call" ∷ []) ((unit u.Module (name 0 1 8) [] no_statements ((procedure
    false Subroutine (name 1 1 32) ((name 2 1 37) ∷ []) ((declares (declaration (Integer Four) ((intent InOut) ∷ []) ((entity (name 2 1 67) None None) ∷
    []))) ∷ []) (statements (acts (at 1 70) (assign (parts (name 2 1 70) bare no_parts) (chain (designator (parts (name 2 1 74) bare no_parts)) (more
    o.Add (four (at 1 78) 1) no_more)))) no_statements)) ∷ [])) ∷ (unit u.Program (name 3 2 9) ((declares (declaration (Integer Four) [] ((entity (name 4
    2 30) None None) ∷ []))) ∷ []) (statements (acts (at 2 33) (call (name 1 2 38) ((value None (group (at 2 43) (designator (parts (name 4 2 44) bare
    no_parts)))) ∷ []))) no_statements) []) ∷ [])) (looks (((1, One 0) ∷ []) ∷ ((1, One 0) ∷ (2, One 1) ∷ []) ∷ ((1, One 0) ∷ (4, One 2) ∷ []) ∷ [])) (0 ∷
    1 ∷ [])

--     program p; integer, parameter :: n = 1; n = 2; end
-- 1:41: D3
abbrev pub d3_2 : Type 0
d3_2 = Finds (Some (broken 7 D3 1 41 None))
    (program (codes "p" ∷ codes "n" ∷ []) ((unit u.Program (name 0 1 9) ((declares (declaration (Integer Four) (parameter ∷ []) ((entity (name 1 1 34) None
    (Some (four (at 1 38) 1))) ∷ []))) ∷ []) (statements (acts (at 1 41) (assign (parts (name 1 1 41) bare no_parts) (four (at 1 45) 2))) no_statements)
    []) ∷ [])) (looks (((1, One 0) ∷ []) ∷ [])) (0 ∷ [])

--     program p; use m; call s(3); end
--     module m; contains; subroutine s(a); integer, intent(out) :: a; a = 1; end; end
-- 1:26: D3
abbrev pub d3_3 : Type 0
d3_3 = Finds (Some (broken 7 D3 1 26 None))
    (program (codes "p" ∷ codes "call" ∷ codes "s" ∷ codes "m" ∷ codes "a" ∷ []) ((unit u.Program (name 0 1 9) [] (statements (acts (at 1 19) (call (name 2 1
    24) ((value None (four (at 1 26) 3)) ∷ []))) no_statements) []) ∷ (unit u.Module (name 3 2 8) [] no_statements ((procedure false Subroutine (name 2 2
    32) ((name 4 2 34) ∷ []) ((declares (declaration (Integer Four) ((intent Out) ∷ []) ((entity (name 4 2 62) None None) ∷ []))) ∷ []) (statements (acts
    (at 2 65) (assign (parts (name 4 2 65) bare no_parts) (four (at 2 69) 1))) no_statements)) ∷ [])) ∷ [])) (looks (((2, One 0) ∷ []) ∷ ((2, One 0) ∷ [])
    ∷ ((2, One 0) ∷ (4, One 1) ∷ []) ∷ [])) (1 ∷ 0 ∷ [])

--     program p; use m; call s(x + 0); end
--     module m; integer :: x; contains; subroutine s(a); integer, intent(inout) :: a; a = 1; end; end
-- 1:26: D3
abbrev pub d3_4 : Type 0
d3_4 = Finds (Some (broken 7 D3 1 26 None))
    (program (codes "p" ∷ codes "call" ∷ codes "x" ∷ codes "s" ∷ codes "m" ∷ codes "a" ∷ []) ((unit u.Program (name 0 1 9) [] (statements (acts (at 1 19)
    (call (name 3 1 24) ((value None (chain (designator (parts (name 2 1 26) bare no_parts)) (more o.Add (four (at 1 30) 0) no_more))) ∷ [])))
    no_statements) []) ∷ (unit u.Module (name 4 2 8) ((declares (declaration (Integer Four) [] ((entity (name 2 2 22) None None) ∷ []))) ∷ [])
    no_statements ((procedure false Subroutine (name 3 2 46) ((name 5 2 48) ∷ []) ((declares (declaration (Integer Four) ((intent InOut) ∷ []) ((entity
    (name 5 2 78) None None) ∷ []))) ∷ []) (statements (acts (at 2 81) (assign (parts (name 5 2 81) bare no_parts) (four (at 2 85) 1))) no_statements)) ∷
    [])) ∷ [])) (looks (((2, One 0) ∷ (3, One 1) ∷ []) ∷ ((2, One 0) ∷ (3, One 1) ∷ []) ∷ ((2, One 0) ∷ (3, One 1) ∷ (5, One 2) ∷ []) ∷ [])) (1 ∷ 0 ∷ [])

--     program p; integer :: i; associate (z => i + 1, y => i); y = z; z = 3; end associate; end
-- 1:65: D3
abbrev pub d3_5 : Type 0
d3_5 = Finds (Some (broken 7 D3 1 65 None))
    (program (codes "p" ∷ codes "i" ∷ codes "z" ∷ codes "y" ∷ []) ((unit u.Program (name 0 1 9) ((declares (declaration (Integer Four) [] ((entity (name 1 1
    23) None None) ∷ []))) ∷ []) (statements (associates (at 1 26) ((association (name 2 1 37) (chain (designator (parts (name 1 1 42) bare no_parts))
    (more o.Add (four (at 1 46) 1) no_more))) ∷ (association (name 3 1 49) (designator (parts (name 1 1 54) bare no_parts))) ∷ []) (statements (acts (at 1
    58) (assign (parts (name 3 1 58) bare no_parts) (designator (parts (name 2 1 62) bare no_parts)))) (statements (acts (at 1 65) (assign (parts (name 2
    1 65) bare no_parts) (four (at 1 69) 3))) no_statements))) no_statements) []) ∷ [])) (looks (((1, One 0) ∷ []) ∷ ((1, One 0) ∷ (2, One 1) ∷ (3, One 2)
    ∷ []) ∷ [])) (0 ∷ [])

--     program p; integer, parameter :: i = 1; associate (z => i); z = 3; end associate; end
-- 1:61: D3
abbrev pub d3_6 : Type 0
d3_6 = Finds (Some (broken 7 D3 1 61 None))
    (program (codes "p" ∷ codes "i" ∷ codes "z" ∷ []) ((unit u.Program (name 0 1 9) ((declares (declaration (Integer Four) (parameter ∷ []) ((entity (name 1 1
    34) None (Some (four (at 1 38) 1))) ∷ []))) ∷ []) (statements (associates (at 1 41) ((association (name 2 1 52) (designator (parts (name 1 1 57) bare
    no_parts))) ∷ []) (statements (acts (at 1 61) (assign (parts (name 2 1 61) bare no_parts) (four (at 1 65) 3))) no_statements)) no_statements) []) ∷
    [])) (looks (((1, One 0) ∷ []) ∷ ((1, One 0) ∷ (2, One 1) ∷ []) ∷ [])) (0 ∷ [])

--     program p; use m; call s(a=3); end
--     module m; contains; subroutine s(a); integer, intent(inout) :: a; end; end
-- 1:28: D3
abbrev pub d3_7 : Type 0
d3_7 = Finds (Some (broken 7 D3 1 28 None))
    (program (codes "p" ∷ codes "call" ∷ codes "a" ∷ codes "s" ∷ codes "m" ∷ []) ((unit u.Program (name 0 1 9) [] (statements (acts (at 1 19) (call (name 3 1
    24) ((value (Some (name 2 1 26)) (four (at 1 28) 3)) ∷ []))) no_statements) []) ∷ (unit u.Module (name 4 2 8) [] no_statements ((procedure false
    Subroutine (name 3 2 32) ((name 2 2 34) ∷ []) ((declares (declaration (Integer Four) ((intent InOut) ∷ []) ((entity (name 2 2 64) None None) ∷ []))) ∷
    []) no_statements) ∷ [])) ∷ [])) (looks (((3, One 0) ∷ []) ∷ ((3, One 0) ∷ []) ∷ ((2, One 1) ∷ (3, One 0) ∷ []) ∷ [])) (1 ∷ 0 ∷ [])

--     program p; integer :: i; associate (z => i + 1); z = 3; end associate; end
-- 1:50: D3
abbrev pub d3_8 : Type 0
d3_8 = Finds (Some (broken 7 D3 1 50 None))
    (program (codes "p" ∷ codes "i" ∷ codes "z" ∷ []) ((unit u.Program (name 0 1 9) ((declares (declaration (Integer Four) [] ((entity (name 1 1 23) None
    None) ∷ []))) ∷ []) (statements (associates (at 1 26) ((association (name 2 1 37) (chain (designator (parts (name 1 1 42) bare no_parts)) (more o.Add
    (four (at 1 46) 1) no_more))) ∷ []) (statements (acts (at 1 50) (assign (parts (name 2 1 50) bare no_parts) (four (at 1 54) 3))) no_statements))
    no_statements) []) ∷ [])) (looks (((1, One 0) ∷ []) ∷ ((1, One 0) ∷ (2, One 1) ∷ []) ∷ [])) (0 ∷ [])

--     program p; integer, parameter :: i = 1; do i = 1, 2; end do; end
-- 1:44: D3
abbrev pub d3_9 : Type 0
d3_9 = Finds (Some (broken 7 D3 1 44 None))
    (program (codes "p" ∷ codes "i" ∷ []) ((unit u.Program (name 0 1 9) ((declares (declaration (Integer Four) (parameter ∷ []) ((entity (name 1 1 34) None
    (Some (four (at 1 38) 1))) ∷ []))) ∷ []) (statements (repeats (at 1 41) (counted (name 1 1 44) (four (at 1 48) 1) (four (at 1 51) 2) None)
    no_statements) no_statements) []) ∷ [])) (looks (((1, One 0) ∷ []) ∷ [])) (0 ∷ [])

--     program p; associate (z => 1); z = 2; end associate; end
-- 1:32: D3
abbrev pub d3_10 : Type 0
d3_10 = Finds (Some (broken 7 D3 1 32 None))
    (program (codes "p" ∷ codes "z" ∷ []) ((unit u.Program (name 0 1 9) [] (statements (associates (at 1 12) ((association (name 1 1 23) (four (at 1 28) 1)) ∷
    []) (statements (acts (at 1 32) (assign (parts (name 1 1 32) bare no_parts) (four (at 1 36) 2))) no_statements)) no_statements) []) ∷ [])) (looks ([]
    ∷ ((1, One 0) ∷ []) ∷ [])) (0 ∷ [])

--     program p; integer :: i; associate (z => (i)); z = 2; end associate; end
-- 1:48: D3
abbrev pub d3_11 : Type 0
d3_11 = Finds (Some (broken 7 D3 1 48 None))
    (program (codes "p" ∷ codes "i" ∷ codes "z" ∷ []) ((unit u.Program (name 0 1 9) ((declares (declaration (Integer Four) [] ((entity (name 1 1 23) None
    None) ∷ []))) ∷ []) (statements (associates (at 1 26) ((association (name 2 1 37) (group (at 1 42) (designator (parts (name 1 1 43) bare no_parts))))
    ∷ []) (statements (acts (at 1 48) (assign (parts (name 2 1 48) bare no_parts) (four (at 1 52) 2))) no_statements)) no_statements) []) ∷ [])) (looks
    (((1, One 0) ∷ []) ∷ ((1, One 0) ∷ (2, One 1) ∷ []) ∷ [])) (0 ∷ [])

--     program p; integer, parameter :: n = 1; associate (z => n); z = 2; end associate; end
-- 1:61: D3
abbrev pub d3_12 : Type 0
d3_12 = Finds (Some (broken 7 D3 1 61 None))
    (program (codes "p" ∷ codes "n" ∷ codes "z" ∷ []) ((unit u.Program (name 0 1 9) ((declares (declaration (Integer Four) (parameter ∷ []) ((entity (name 1 1
    34) None (Some (four (at 1 38) 1))) ∷ []))) ∷ []) (statements (associates (at 1 41) ((association (name 2 1 52) (designator (parts (name 1 1 57) bare
    no_parts))) ∷ []) (statements (acts (at 1 61) (assign (parts (name 2 1 61) bare no_parts) (four (at 1 65) 2))) no_statements)) no_statements) []) ∷
    [])) (looks (((1, One 0) ∷ []) ∷ ((1, One 0) ∷ (2, One 1) ∷ []) ∷ [])) (0 ∷ [])

--     program p; integer :: i; associate (z => i + 1); associate (y => z); y = 2; end associate; end associate; end
-- 1:70: D3
abbrev pub d3_13 : Type 0
d3_13 = Finds (Some (broken 7 D3 1 70 None))
    (program (codes "p" ∷ codes "i" ∷ codes "z" ∷ codes "y" ∷ []) ((unit u.Program (name 0 1 9) ((declares (declaration (Integer Four) [] ((entity (name 1 1
    23) None None) ∷ []))) ∷ []) (statements (associates (at 1 26) ((association (name 2 1 37) (chain (designator (parts (name 1 1 42) bare no_parts))
    (more o.Add (four (at 1 46) 1) no_more))) ∷ []) (statements (associates (at 1 50) ((association (name 3 1 61) (designator (parts (name 2 1 66) bare
    no_parts))) ∷ []) (statements (acts (at 1 70) (assign (parts (name 3 1 70) bare no_parts) (four (at 1 74) 2))) no_statements)) no_statements))
    no_statements) []) ∷ [])) (looks (((1, One 0) ∷ []) ∷ ((1, One 0) ∷ (2, One 1) ∷ []) ∷ ((1, One 0) ∷ (2, One 1) ∷ (3, One 2) ∷ []) ∷ [])) (0 ∷ [])

--     program p; associate (z => [1, 2]); z(1) = 3; end associate; end
-- 1:37: D3
abbrev pub d3_14 : Type 0
d3_14 = Finds (Some (broken 7 D3 1 37 None))
    (program (codes "p" ∷ codes "z" ∷ []) ((unit u.Program (name 0 1 9) [] (statements (associates (at 1 12) ((association (name 1 1 23) (array (at 1 28)
    (trees (four (at 1 29) 1) (trees (four (at 1 32) 2) no_trees)))) ∷ []) (statements (acts (at 1 37) (assign (parts (name 1 1 37) (within (arguments
    (value None (four (at 1 39) 1)) no_arguments)) no_parts) (four (at 1 44) 3))) no_statements)) no_statements) []) ∷ [])) (looks ([] ∷ ((1, One 0) ∷ [])
    ∷ [])) (0 ∷ [])

--     module m; type t; integer :: c; end type; end
--     program p; use m; associate (z => t(1)); z%c = 2; end associate; end
-- 2:42: D3
abbrev pub d3_15 : Type 0
d3_15 = Finds (Some (broken 7 D3 2 42 None))
    (program (codes "m" ∷ codes "t" ∷ codes "c" ∷ codes "p" ∷ codes "z" ∷ []) ((unit u.Module (name 0 1 8) ((type_definition (name 1 1 16) false ((declaration
    (Integer Four) [] ((entity (name 2 1 30) None None) ∷ [])) ∷ []) []) ∷ []) no_statements []) ∷ (unit u.Program (name 3 2 9) [] (statements (associates
    (at 2 19) ((association (name 4 2 30) (designator (parts (name 1 2 35) (within (arguments (value None (four (at 2 37) 1)) no_arguments)) no_parts))) ∷
    []) (statements (acts (at 2 42) (assign (parts (name 4 2 42) bare (parts (name 2 2 44) bare no_parts)) (four (at 2 48) 2))) no_statements))
    no_statements) []) ∷ [])) (looks (((1, One 0) ∷ []) ∷ ((1, One 0) ∷ []) ∷ ((1, One 0) ∷ (4, One 1) ∷ []) ∷ [])) (0 ∷ 1 ∷ [])

abbrev pub D3And4Show : Type 0
D3And4Show = d3_1 × d3_2 × d3_3 × d3_4 × d3_5 × d3_6 × d3_7 × d3_8 × d3_9 × d3_10 × d3_11 × d3_12 × d3_13 × d3_14 × d3_15
