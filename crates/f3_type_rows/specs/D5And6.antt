-- Programs, each in the text above it, with what refuses it.
use Rattle.std.specs.Prelude.{true, false, [], ◌∷◌, None, Some, codes}
use Rattle.f3_lookups.specs.declared.lookup.Lookup.TheVariants.{One}
use Rattle.f3_rules.specs.declared.rule.Rule.TheVariants.{D5, D6}
use Rattle.f3_tree.specs.declared.expression.Relation.TheVariants as r
use Rattle.f3_tree.specs.declared.expression.Operator.TheVariants as o
use Rattle.f3_tree.specs.declared.expression.IntegerKind.TheVariants.{Four}
use Rattle.f3_tree.specs.declared.declaration.Intent.TheVariants.{In, Out}
use Rattle.f3_tree.specs.declared.declaration.TypeSpecifier.TheVariants.{Integer}
use Rattle.f3_tree.specs.declared.program.ProcedureKind.TheVariants.{Subroutine, Function}
use Rattle.f3_tree.specs.declared.program.UnitKind.TheVariants as u
use Rattle.f3_tree.specs.Expressions.{truth, designator, comparison, chain, no_more, more, no_parts, parts}
use Rattle.f3_tree.specs.Expressions.{bare}
use Rattle.f3_tree.specs.Declarations.{intent, declares}
use Rattle.f3_tree.specs.Statements.{assign, call, print, stop}
use Rattle.f3_tree.specs.Statements.{counted, acts, acts_if, repeats, associates, no_statements, statements}
use Rattle.f3_type_rows.specs.Build.{Finds, at, name, four, entity, declaration, procedure, unit, association, program, looks, broken}

--     module m; integer :: n = 0; contains
--     function f(x) result(r)
--     integer, intent(in) :: x; integer :: r
--     n = n + x; r = n
--     end function; end module
--     program p; end program
-- 4:1: D5: n
abbrev pub d5_1 : Type 0
d5_1 = Finds (Some (broken 7 D5 4 1 (Some 1)))
    (program (codes "m" ∷ codes "n" ∷ codes "f" ∷ codes "r" ∷ codes "x" ∷ codes "p" ∷ []) ((unit u.Module (name 0 1 8) ((declares (declaration (Integer Four)
    [] ((entity (name 1 1 22) None (Some (four (at 1 26) 0))) ∷ []))) ∷ []) no_statements ((procedure false (Function None (Some (name 3 2 22))) (name 2 2
    10) ((name 4 2 12) ∷ []) ((declares (declaration (Integer Four) ((intent In) ∷ []) ((entity (name 4 3 24) None None) ∷ []))) ∷ (declares (declaration
    (Integer Four) [] ((entity (name 3 3 38) None None) ∷ []))) ∷ []) (statements (acts (at 4 1) (assign (parts (name 1 4 1) bare no_parts) (chain
    (designator (parts (name 1 4 5) bare no_parts)) (more o.Add (designator (parts (name 4 4 9) bare no_parts)) no_more)))) (statements (acts (at 4 12)
    (assign (parts (name 3 4 12) bare no_parts) (designator (parts (name 1 4 16) bare no_parts)))) no_statements))) ∷ [])) ∷ (unit u.Program (name 5 6 9)
    [] no_statements []) ∷ [])) (looks (((1, One 0) ∷ (2, One 1) ∷ []) ∷ ((1, One 0) ∷ (2, One 1) ∷ (3, One 3) ∷ (4, One 2) ∷ []) ∷ [] ∷ [])) (0 ∷ 1 ∷ [])

--     module m; integer :: n; contains; pure subroutine s(); integer :: i; do n = 1, 2; end do; end; end
--     program p; end
-- 1:73: D5: n
abbrev pub d5_2 : Type 0
d5_2 = Finds (Some (broken 7 D5 1 73 (Some 1)))
    (program (codes "m" ∷ codes "n" ∷ codes "s" ∷ codes "i" ∷ codes "p" ∷ []) ((unit u.Module (name 0 1 8) ((declares (declaration (Integer Four) [] ((entity
    (name 1 1 22) None None) ∷ []))) ∷ []) no_statements ((procedure true Subroutine (name 2 1 51) [] ((declares (declaration (Integer Four) [] ((entity
    (name 3 1 67) None None) ∷ []))) ∷ []) (statements (repeats (at 1 70) (counted (name 1 1 73) (four (at 1 77) 1) (four (at 1 80) 2) None)
    no_statements) no_statements)) ∷ [])) ∷ (unit u.Program (name 4 2 9) [] no_statements []) ∷ [])) (looks (((1, One 0) ∷ (2, One 1) ∷ []) ∷ ((1, One 0)
    ∷ (2, One 1) ∷ (3, One 2) ∷ []) ∷ [] ∷ [])) (0 ∷ 1 ∷ [])

--     module k; integer :: n; end
--     module m; contains; pure subroutine s(a); use k; integer, intent(out) :: a; a = n; n = 2; end; end
--     program p; end
-- 2:84: D5: n
abbrev pub d5_3 : Type 0
d5_3 = Finds (Some (broken 7 D5 2 84 (Some 1)))
    (program (codes "k" ∷ codes "n" ∷ codes "m" ∷ codes "s" ∷ codes "a" ∷ codes "p" ∷ []) ((unit u.Module (name 0 1 8) ((declares (declaration (Integer Four)
    [] ((entity (name 1 1 22) None None) ∷ []))) ∷ []) no_statements []) ∷ (unit u.Module (name 2 2 8) [] no_statements ((procedure true Subroutine (name
    3 2 37) ((name 4 2 39) ∷ []) ((declares (declaration (Integer Four) ((intent Out) ∷ []) ((entity (name 4 2 74) None None) ∷ []))) ∷ []) (statements
    (acts (at 2 77) (assign (parts (name 4 2 77) bare no_parts) (designator (parts (name 1 2 81) bare no_parts)))) (statements (acts (at 2 84) (assign
    (parts (name 1 2 84) bare no_parts) (four (at 2 88) 2))) no_statements))) ∷ [])) ∷ (unit u.Program (name 5 3 9) [] no_statements []) ∷ [])) (looks
    (((1, One 0) ∷ []) ∷ ((3, One 1) ∷ []) ∷ ((1, One 0) ∷ (3, One 1) ∷ (4, One 2) ∷ []) ∷ [] ∷ [])) (0 ∷ 1 ∷ 2 ∷ [])

--     module m; integer :: n; contains; pure subroutine s(); associate (z => n); z = 1; end associate; end; end
--     program p; end
-- 1:76: D5: z
abbrev pub d5_4 : Type 0
d5_4 = Finds (Some (broken 7 D5 1 76 (Some 3)))
    (program (codes "m" ∷ codes "n" ∷ codes "s" ∷ codes "z" ∷ codes "p" ∷ []) ((unit u.Module (name 0 1 8) ((declares (declaration (Integer Four) [] ((entity
    (name 1 1 22) None None) ∷ []))) ∷ []) no_statements ((procedure true Subroutine (name 2 1 51) [] [] (statements (associates (at 1 56) ((association
    (name 3 1 67) (designator (parts (name 1 1 72) bare no_parts))) ∷ []) (statements (acts (at 1 76) (assign (parts (name 3 1 76) bare no_parts) (four
    (at 1 80) 1))) no_statements)) no_statements)) ∷ [])) ∷ (unit u.Program (name 4 2 9) [] no_statements []) ∷ [])) (looks (((1, One 0) ∷ (2, One 1) ∷
    []) ∷ ((1, One 0) ∷ (2, One 1) ∷ []) ∷ ((1, One 0) ∷ (2, One 1) ∷ (3, One 2) ∷ []) ∷ [] ∷ [])) (0 ∷ 1 ∷ [])

--     module m; integer :: n; contains; function f() result(r); integer :: r; associate (z => n, y => r); y = 1; z = 1; end associate; end; end
--     program p; end
-- 1:108: D5: z
abbrev pub d5_5 : Type 0
d5_5 = Finds (Some (broken 7 D5 1 108 (Some 4)))
    (program (codes "m" ∷ codes "n" ∷ codes "f" ∷ codes "r" ∷ codes "z" ∷ codes "y" ∷ codes "p" ∷ []) ((unit u.Module (name 0 1 8) ((declares (declaration
    (Integer Four) [] ((entity (name 1 1 22) None None) ∷ []))) ∷ []) no_statements ((procedure false (Function None (Some (name 3 1 55))) (name 2 1 44)
    [] ((declares (declaration (Integer Four) [] ((entity (name 3 1 70) None None) ∷ []))) ∷ []) (statements (associates (at 1 73) ((association (name 4 1
    84) (designator (parts (name 1 1 89) bare no_parts))) ∷ (association (name 5 1 92) (designator (parts (name 3 1 97) bare no_parts))) ∷ []) (statements
    (acts (at 1 101) (assign (parts (name 5 1 101) bare no_parts) (four (at 1 105) 1))) (statements (acts (at 1 108) (assign (parts (name 4 1 108) bare
    no_parts) (four (at 1 112) 1))) no_statements))) no_statements)) ∷ [])) ∷ (unit u.Program (name 6 2 9) [] no_statements []) ∷ [])) (looks (((1, One 0)
    ∷ (2, One 1) ∷ []) ∷ ((1, One 0) ∷ (2, One 1) ∷ (3, One 2) ∷ []) ∷ ((1, One 0) ∷ (2, One 1) ∷ (3, One 2) ∷ (4, One 3) ∷ (5, One 4) ∷ []) ∷ [] ∷ []))
    (0 ∷ 1 ∷ [])

--     module m; integer :: n = 0; contains
--     function f(x) result(r)
--     integer, intent(in) :: x; integer :: r
--     print *, x; r = x
--     end function; end module
--     program p; end program
-- 4:1: D6
abbrev pub d6_1 : Type 0
d6_1 = Finds (Some (broken 7 D6 4 1 None))
    (program (codes "m" ∷ codes "n" ∷ codes "f" ∷ codes "r" ∷ codes "x" ∷ codes "print" ∷ codes "p" ∷ []) ((unit u.Module (name 0 1 8) ((declares (declaration
    (Integer Four) [] ((entity (name 1 1 22) None (Some (four (at 1 26) 0))) ∷ []))) ∷ []) no_statements ((procedure false (Function None (Some (name 3 2
    22))) (name 2 2 10) ((name 4 2 12) ∷ []) ((declares (declaration (Integer Four) ((intent In) ∷ []) ((entity (name 4 3 24) None None) ∷ []))) ∷
    (declares (declaration (Integer Four) [] ((entity (name 3 3 38) None None) ∷ []))) ∷ []) (statements (acts (at 4 1) (print ((designator (parts (name 4
    4 10) bare no_parts)) ∷ []))) (statements (acts (at 4 13) (assign (parts (name 3 4 13) bare no_parts) (designator (parts (name 4 4 17) bare
    no_parts)))) no_statements))) ∷ [])) ∷ (unit u.Program (name 6 6 9) [] no_statements []) ∷ [])) (looks (((1, One 0) ∷ (2, One 1) ∷ []) ∷ ((1, One 0) ∷
    (2, One 1) ∷ (3, One 3) ∷ (4, One 2) ∷ []) ∷ [] ∷ [])) (0 ∷ 1 ∷ [])

--     module m; contains; pure subroutine s(); if (.true.) print *, 1; end; end
--     program p; end
-- 1:54: D6
abbrev pub d6_2 : Type 0
d6_2 = Finds (Some (broken 7 D6 1 54 None))
    (program (codes "m" ∷ codes "s" ∷ codes "print" ∷ codes "p" ∷ []) ((unit u.Module (name 0 1 8) [] no_statements ((procedure true Subroutine (name 1 1 37)
    [] [] (statements (acts_if (at 1 42) (truth (at 1 46) true) (at 1 54) (print ((four (at 1 63) 1) ∷ []))) no_statements)) ∷ [])) ∷ (unit u.Program
    (name 3 2 9) [] no_statements []) ∷ [])) (looks (((1, One 0) ∷ []) ∷ ((1, One 0) ∷ []) ∷ [] ∷ [])) (0 ∷ 1 ∷ [])

--     module m; integer :: n; contains; function f(); integer :: f; f = 1; call s(); end; subroutine s(); end; end
--     program p; end
-- 1:75: D6: s
abbrev pub d6_3 : Type 0
d6_3 = Finds (Some (broken 7 D6 1 75 (Some 4)))
    (program (codes "m" ∷ codes "n" ∷ codes "f" ∷ codes "call" ∷ codes "s" ∷ codes "p" ∷ []) ((unit u.Module (name 0 1 8) ((declares (declaration (Integer
    Four) [] ((entity (name 1 1 22) None None) ∷ []))) ∷ []) no_statements ((procedure false (Function None None) (name 2 1 44) [] ((declares (declaration
    (Integer Four) [] ((entity (name 2 1 60) None None) ∷ []))) ∷ []) (statements (acts (at 1 63) (assign (parts (name 2 1 63) bare no_parts) (four (at 1
    67) 1))) (statements (acts (at 1 70) (call (name 4 1 75) [])) no_statements))) ∷ (procedure false Subroutine (name 4 1 96) [] [] no_statements) ∷ []))
    ∷ (unit u.Program (name 5 2 9) [] no_statements []) ∷ [])) (looks (((1, One 0) ∷ (2, One 1) ∷ (4, One 2) ∷ []) ∷ ((1, One 0) ∷ (2, One 3) ∷ (4, One 2)
    ∷ []) ∷ ((1, One 0) ∷ (2, One 1) ∷ (4, One 2) ∷ []) ∷ [] ∷ [])) (0 ∷ 1 ∷ [])

--     module m; integer :: n; contains; pure subroutine s(); if (n == 1) stop; end; end
--     program p; end
-- 1:68: D6
abbrev pub d6_4 : Type 0
d6_4 = Finds (Some (broken 7 D6 1 68 None))
    (program (codes "m" ∷ codes "n" ∷ codes "s" ∷ codes "stop" ∷ codes "p" ∷ []) ((unit u.Module (name 0 1 8) ((declares (declaration (Integer Four) []
    ((entity (name 1 1 22) None None) ∷ []))) ∷ []) no_statements ((procedure true Subroutine (name 2 1 51) [] [] (statements (acts_if (at 1 56)
    (comparison (designator (parts (name 1 1 60) bare no_parts)) r.Equal (four (at 1 65) 1)) (at 1 68) (stop None)) no_statements)) ∷ [])) ∷ (unit
    u.Program (name 4 2 9) [] no_statements []) ∷ [])) (looks (((1, One 0) ∷ (2, One 1) ∷ []) ∷ ((1, One 0) ∷ (2, One 1) ∷ []) ∷ [] ∷ [])) (0 ∷ 1 ∷ [])

--     module m; contains; pure subroutine s(); associate (z => 1); print *, z; end associate; end; end
--     program p; end
-- 1:62: D6
abbrev pub d6_5 : Type 0
d6_5 = Finds (Some (broken 7 D6 1 62 None))
    (program (codes "m" ∷ codes "s" ∷ codes "z" ∷ codes "print" ∷ codes "p" ∷ []) ((unit u.Module (name 0 1 8) [] no_statements ((procedure true Subroutine
    (name 1 1 37) [] [] (statements (associates (at 1 42) ((association (name 2 1 53) (four (at 1 58) 1)) ∷ []) (statements (acts (at 1 62) (print
    ((designator (parts (name 2 1 71) bare no_parts)) ∷ []))) no_statements)) no_statements)) ∷ [])) ∷ (unit u.Program (name 4 2 9) [] no_statements []) ∷
    [])) (looks (((1, One 0) ∷ []) ∷ ((1, One 0) ∷ []) ∷ ((1, One 0) ∷ (2, One 1) ∷ []) ∷ [] ∷ [])) (0 ∷ 1 ∷ [])

--     module m; contains; subroutine t(); end; pure subroutine s(); associate (z => 1); if (z == 1) call t(); end associate; end; end
--     program p; end
-- 1:100: D6: t
abbrev pub d6_6 : Type 0
d6_6 = Finds (Some (broken 7 D6 1 100 (Some 1)))
    (program (codes "m" ∷ codes "t" ∷ codes "s" ∷ codes "z" ∷ codes "call" ∷ codes "p" ∷ []) ((unit u.Module (name 0 1 8) [] no_statements ((procedure false
    Subroutine (name 1 1 32) [] [] no_statements) ∷ (procedure true Subroutine (name 2 1 58) [] [] (statements (associates (at 1 63) ((association (name 3
    1 74) (four (at 1 79) 1)) ∷ []) (statements (acts_if (at 1 83) (comparison (designator (parts (name 3 1 87) bare no_parts)) r.Equal (four (at 1 92)
    1)) (at 1 95) (call (name 1 1 100) [])) no_statements)) no_statements)) ∷ [])) ∷ (unit u.Program (name 5 2 9) [] no_statements []) ∷ [])) (looks (((
      1,
      One 0,
    ) ∷ (2, One 1) ∷ []) ∷ ((1, One 0) ∷ (2, One 1) ∷ []) ∷ ((1, One 0) ∷ (2, One 1) ∷ []) ∷ ((1, One 0) ∷ (2, One 1) ∷ (3, One 2) ∷ []) ∷ [] ∷ []))
    (0 ∷ 1 ∷ [])

abbrev pub D5And6Show : Type 0
D5And6Show = d5_1 × d5_2 × d5_3 × d5_4 × d5_5 × d6_1 × d6_2 × d6_3 × d6_4 × d6_5 × d6_6
