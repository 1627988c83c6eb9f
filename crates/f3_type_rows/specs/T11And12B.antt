-- Programs, each in the text above it, with what refuses it.
use Rattle.std.specs.Prelude.{true, false, [], ◌∷◌, None, Some, codes}
use Rattle.f3_lookups.specs.declared.lookup.Lookup.TheVariants.{One}
use Rattle.f3_rules.specs.declared.rule.Rule.TheVariants.{T11, T12}
use Rattle.f3_tree.specs.declared.expression.Operator.TheVariants as o
use Rattle.f3_tree.specs.declared.expression.IntegerKind.TheVariants.{Four, Eight}
use Rattle.f3_tree.specs.declared.declaration.Intent.TheVariants.{In, InOut}
use Rattle.f3_tree.specs.declared.declaration.TypeSpecifier.TheVariants.{Integer, Derived}
use Rattle.f3_tree.specs.declared.program.ProcedureKind.TheVariants.{Subroutine, Function}
use Rattle.f3_tree.specs.declared.program.UnitKind.TheVariants as u
use Rattle.f3_tree.specs.Expressions.{truth, designator, chain, no_more, more, no_parts, parts}
use Rattle.f3_tree.specs.Expressions.{bare, within, no_arguments, arguments, value}
use Rattle.f3_tree.specs.Declarations.{deferred, parameter, allocatable, intent, declares}
use Rattle.f3_tree.specs.Statements.{assign, one, range, values}
use Rattle.f3_tree.specs.Statements.{acts, selects, associates, no_statements, statements}
use Rattle.f3_tree.specs.Statements.{no_cases, case_block}
use Rattle.f3_type_rows.specs.Build.{Finds, at, name, four, eight, entity, declaration, type_definition, procedure, unit, association, program, looks, broken}

--     program p; select case (.true.); case (.true.); case (.false., .true.); end select; end
-- 1:64: T11
abbrev pub t11_14 : Type 0
t11_14 = Finds (Some (broken 6 T11 1 64 None))
    (program (codes "p" ∷ []) ((unit u.Program (name 0 1 9) [] (statements (selects (at 1 12) (truth (at 1 25) true) (case_block (at 1 34) (values ((one
    (truth (at 1 40) true)) ∷ [])) no_statements (case_block (at 1 49) (values ((one (truth (at 1 55) false)) ∷ (one (truth (at 1 64) true)) ∷ []))
    no_statements no_cases))) no_statements) []) ∷ [])) (looks ([] ∷ [])) (0 ∷ [])

--     program p; integer, parameter :: n = 2; select case (n); case (n, n + 1:n + 3); case (5:n); case (4 - n); end select; end
-- 1:99: T11
abbrev pub t11_15 : Type 0
t11_15 = Finds (Some (broken 6 T11 1 99 None))
    (program (codes "p" ∷ codes "n" ∷ []) ((unit u.Program (name 0 1 9) ((declares (declaration (Integer Four) (parameter ∷ []) ((entity (name 1 1 34) None
    (Some (four (at 1 38) 2))) ∷ []))) ∷ []) (statements (selects (at 1 41) (designator (parts (name 1 1 54) bare no_parts)) (case_block (at 1 58) (values
    ((one (designator (parts (name 1 1 64) bare no_parts))) ∷ (range (chain (designator (parts (name 1 1 67) bare no_parts)) (more o.Add (four (at 1 71)
    1) no_more)) (chain (designator (parts (name 1 1 73) bare no_parts)) (more o.Add (four (at 1 77) 3) no_more))) ∷ [])) no_statements (case_block (at 1
    81) (values ((range (four (at 1 87) 5) (designator (parts (name 1 1 89) bare no_parts))) ∷ [])) no_statements (case_block (at 1 93) (values ((one
    (chain (four (at 1 99) 4) (more o.Subtract (designator (parts (name 1 1 103) bare no_parts)) no_more))) ∷ [])) no_statements no_cases))))
    no_statements) []) ∷ [])) (looks (((1, One 0) ∷ []) ∷ [])) (0 ∷ [])

--     program p; integer(8) :: i; i = 1; select case (i); case (1); case (1_8); end select; end
-- 1:69: T11
abbrev pub t11_16 : Type 0
t11_16 = Finds (Some (broken 6 T11 1 69 None))
    (program (codes "p" ∷ codes "i" ∷ []) ((unit u.Program (name 0 1 9) ((declares (declaration (Integer Eight) [] ((entity (name 1 1 26) None None) ∷ []))) ∷
    []) (statements (acts (at 1 29) (assign (parts (name 1 1 29) bare no_parts) (four (at 1 33) 1))) (statements (selects (at 1 36) (designator (parts
    (name 1 1 49) bare no_parts)) (case_block (at 1 53) (values ((one (four (at 1 59) 1)) ∷ [])) no_statements (case_block (at 1 63) (values ((one (eight
    (at 1 69) 1)) ∷ [])) no_statements no_cases))) no_statements)) []) ∷ [])) (looks (((1, One 0) ∷ []) ∷ [])) (0 ∷ [])

--     program p; integer :: i; i = 1; select case (i); case (2147483647); case (2147483647_8:3000000000_8); end select; end
-- 1:75: T11
abbrev pub t11_17 : Type 0
t11_17 = Finds (Some (broken 6 T11 1 75 None))
    (program (codes "p" ∷ codes "i" ∷ []) ((unit u.Program (name 0 1 9) ((declares (declaration (Integer Four) [] ((entity (name 1 1 23) None None) ∷ []))) ∷
    []) (statements (acts (at 1 26) (assign (parts (name 1 1 26) bare no_parts) (four (at 1 30) 1))) (statements (selects (at 1 33) (designator (parts
    (name 1 1 46) bare no_parts)) (case_block (at 1 50) (values ((one (four (at 1 56) 2147483647)) ∷ [])) no_statements (case_block (at 1 69) (values
    ((range (eight (at 1 75) 2147483647) (eight (at 1 88) 3000000000)) ∷ [])) no_statements no_cases))) no_statements)) []) ∷ [])) (looks (((1, One 0) ∷
    []) ∷ [])) (0 ∷ [])

--     program p; integer, parameter :: n = 1; associate (z => 2); select case (z); case (1); case (n); end select; end associate; end
-- 1:94: T11
abbrev pub t11_18 : Type 0
t11_18 = Finds (Some (broken 6 T11 1 94 None))
    (program (codes "p" ∷ codes "n" ∷ codes "z" ∷ []) ((unit u.Program (name 0 1 9) ((declares (declaration (Integer Four) (parameter ∷ []) ((entity (name 1 1
    34) None (Some (four (at 1 38) 1))) ∷ []))) ∷ []) (statements (associates (at 1 41) ((association (name 2 1 52) (four (at 1 57) 2)) ∷ []) (statements
    (selects (at 1 61) (designator (parts (name 2 1 74) bare no_parts)) (case_block (at 1 78) (values ((one (four (at 1 84) 1)) ∷ [])) no_statements
    (case_block (at 1 88) (values ((one (designator (parts (name 1 1 94) bare no_parts))) ∷ [])) no_statements no_cases))) no_statements)) no_statements)
    []) ∷ [])) (looks (((1, One 0) ∷ []) ∷ ((1, One 0) ∷ (2, One 1) ∷ []) ∷ [])) (0 ∷ [])

--     module m; type t; integer :: c; contains; final :: f; end type; contains
--     subroutine f(x); type(t), intent(inout) :: x; end
--     pure subroutine s(); type(t) :: x; end
--     end
--     program p; end
-- 3:33: T12: x
abbrev pub t12_1 : Type 0
t12_1 = Finds (Some (broken 5 T12 3 33 (Some 4)))
    (program (codes "m" ∷ codes "t" ∷ codes "c" ∷ codes "f" ∷ codes "x" ∷ codes "s" ∷ codes "p" ∷ []) ((unit u.Module (name 0 1 8) ((type_definition (name 1 1
    16) false ((declaration (Integer Four) [] ((entity (name 2 1 30) None None) ∷ [])) ∷ []) ((name 3 1 52) ∷ [])) ∷ []) no_statements ((procedure false
    Subroutine (name 3 2 12) ((name 4 2 14) ∷ []) ((declares (declaration (Derived (name 1 2 23)) ((intent InOut) ∷ []) ((entity (name 4 2 44) None None)
    ∷ []))) ∷ []) no_statements) ∷ (procedure true Subroutine (name 5 3 17) [] ((declares (declaration (Derived (name 1 3 27)) [] ((entity (name 4 3 33)
    None None) ∷ []))) ∷ []) no_statements) ∷ [])) ∷ (unit u.Program (name 6 5 9) [] no_statements []) ∷ [])) (looks (((1, One 0) ∷ (3, One 1) ∷ (
      5,
      One
          2,
    ) ∷ []) ∷ ((1, One 0) ∷ (3, One 1) ∷ (4, One 3) ∷ (5, One 2) ∷ []) ∷ ((1, One 0) ∷ (3, One 1) ∷ (4, One 4) ∷ (5, One 2) ∷ []) ∷ [] ∷ [])) (0 ∷ 1 ∷
    [])

--     module m; type t; integer :: i; contains; final :: f; end type; contains; subroutine f(x); type(t), intent(in) :: x; end; function g()
--         result(r); type(t) :: r; end; end
--     program p; end
-- 1:158: T12: r
abbrev pub t12_2 : Type 0
t12_2 = Finds (Some (broken 5 T12 1 158 (Some 6)))
    (program (codes "m" ∷ codes "t" ∷ codes "i" ∷ codes "f" ∷ codes "x" ∷ codes "g" ∷ codes "r" ∷ codes "p" ∷ []) ((unit u.Module (name 0 1 8)
    ((type_definition (name 1 1 16) false ((declaration (Integer Four) [] ((entity (name 2 1 30) None None) ∷ [])) ∷ []) ((name 3 1 52) ∷ [])) ∷ [])
    no_statements ((procedure false Subroutine (name 3 1 86) ((name 4 1 88) ∷ []) ((declares (declaration (Derived (name 1 1 97)) ((intent In) ∷ [])
    ((entity (name 4 1 115) None None) ∷ []))) ∷ []) no_statements) ∷ (procedure false (Function None (Some (name 6 1 143))) (name 5 1 132) [] ((declares
    (declaration (Derived (name 1 1 152)) [] ((entity (name 6 1 158) None None) ∷ []))) ∷ []) no_statements) ∷ [])) ∷ (unit u.Program (name 7 2 9) []
    no_statements []) ∷ [])) (looks (((1, One 0) ∷ (3, One 1) ∷ (5, One 2) ∷ []) ∷ ((1, One 0) ∷ (3, One 1) ∷ (4, One 3) ∷ (5, One 2) ∷ []) ∷ ((1, One 0)
    ∷ (3, One 1) ∷ (5, One 2) ∷ (6, One 4) ∷ []) ∷ [] ∷ [])) (0 ∷ 1 ∷ [])

--     program p; use m; integer :: n = 1 + t(1); integer :: k = 1/0; end
--     module m; type t; integer :: i; contains; final :: s; end type; contains; subroutine s(x); type(t), intent(in) :: x; end; end
-- 1:38: T12: t
abbrev pub t12_3 : Type 0
t12_3 = Finds (Some (broken 5 T12 1 38 (Some 2)))
    (program (codes "p" ∷ codes "n" ∷ codes "t" ∷ codes "k" ∷ codes "m" ∷ codes "i" ∷ codes "s" ∷ codes "x" ∷ []) ((unit u.Program (name 0 1 9) ((declares
    (declaration (Integer Four) [] ((entity (name 1 1 30) None (Some (chain (four (at 1 34) 1) (more o.Add (designator (parts (name 2 1 38) (within
    (arguments (value None (four (at 1 40) 1)) no_arguments)) no_parts)) no_more)))) ∷ []))) ∷ (declares (declaration (Integer Four) [] ((entity (name 3 1
    55) None (Some (chain (four (at 1 59) 1) (more o.Divide (four (at 1 61) 0) no_more)))) ∷ []))) ∷ []) no_statements []) ∷ (unit u.Module (name 4 2 8)
    ((type_definition (name 2 2 16) false ((declaration (Integer Four) [] ((entity (name 5 2 30) None None) ∷ [])) ∷ []) ((name 6 2 52) ∷ [])) ∷ [])
    no_statements ((procedure false Subroutine (name 6 2 86) ((name 7 2 88) ∷ []) ((declares (declaration (Derived (name 2 2 97)) ((intent In) ∷ [])
    ((entity (name 7 2 115) None None) ∷ []))) ∷ []) no_statements) ∷ [])) ∷ [])) (looks (((1, One 0) ∷ (2, One 2) ∷ (3, One 1) ∷ (6, One 3) ∷ []) ∷ ((
      2,
      One 2,
    ) ∷ (6, One 3) ∷ []) ∷ ((2, One 2) ∷ (6, One 3) ∷ (7, One 4) ∷ []) ∷ [])) (1 ∷ 0 ∷ [])

--     module m; type t; integer :: i; contains; final :: f; end type; type u; type(t), allocatable :: a(:); end type; type v; type(u) :: b; end type;
--         contains; subroutine f(x); type(t), intent(in) :: x; end; function g(); type(v) :: g; end; end
--     program p; end
-- 1:228: T12: g
abbrev pub t12_4 : Type 0
t12_4 = Finds (Some (broken 5 T12 1 228 (Some 9)))
    (program (codes "m" ∷ codes "t" ∷ codes "i" ∷ codes "f" ∷ codes "u" ∷ codes "a" ∷ codes "v" ∷ codes "b" ∷ codes "x" ∷ codes "g" ∷ codes "p" ∷ []) ((unit
    u.Module (name 0 1 8) ((type_definition (name 1 1 16) false ((declaration (Integer Four) [] ((entity (name 2 1 30) None None) ∷ [])) ∷ []) ((name 3 1
    52) ∷ [])) ∷ (type_definition (name 4 1 70) false ((declaration (Derived (name 1 1 78)) (allocatable ∷ []) ((entity (name 5 1 97) (Some (deferred
    (None ∷ []))) None) ∷ [])) ∷ []) []) ∷ (type_definition (name 6 1 118) false ((declaration (Derived (name 4 1 126)) [] ((entity (name 7 1 132) None
    None) ∷ [])) ∷ []) []) ∷ []) no_statements ((procedure false Subroutine (name 3 1 166) ((name 8 1 168) ∷ []) ((declares (declaration (Derived (name 1
    1 177)) ((intent In) ∷ []) ((entity (name 8 1 195) None None) ∷ []))) ∷ []) no_statements) ∷ (procedure false (Function None None) (name 9 1 212) []
    ((declares (declaration (Derived (name 6 1 222)) [] ((entity (name 9 1 228) None None) ∷ []))) ∷ []) no_statements) ∷ [])) ∷ (unit u.Program (name 10
    2 9) [] no_statements []) ∷ [])) (looks (((1, One 0) ∷ (3, One 3) ∷ (4, One 1) ∷ (6, One 2) ∷ (9, One 4) ∷ []) ∷ ((1, One 0) ∷ (3, One 3) ∷ (4, One 1)
    ∷ (6, One 2) ∷ (8, One 5) ∷ (9, One 4) ∷ []) ∷ ((1, One 0) ∷ (3, One 3) ∷ (4, One 1) ∷ (6, One 2) ∷ (9, One 6) ∷ []) ∷ [] ∷ [])) (0 ∷ 1 ∷ [])

--     module m; type t; integer :: i; contains; final :: f; end type; contains; subroutine f(x); type(t), intent(in) :: x; end; type(t) function g()
--         result(r); end; end
--     program p; end
-- 1:151: T12: r
abbrev pub t12_5 : Type 0
t12_5 = Finds (Some (broken 5 T12 1 151 (Some 6)))
    (program (codes "m" ∷ codes "t" ∷ codes "i" ∷ codes "f" ∷ codes "x" ∷ codes "g" ∷ codes "r" ∷ codes "p" ∷ []) ((unit u.Module (name 0 1 8)
    ((type_definition (name 1 1 16) false ((declaration (Integer Four) [] ((entity (name 2 1 30) None None) ∷ [])) ∷ []) ((name 3 1 52) ∷ [])) ∷ [])
    no_statements ((procedure false Subroutine (name 3 1 86) ((name 4 1 88) ∷ []) ((declares (declaration (Derived (name 1 1 97)) ((intent In) ∷ [])
    ((entity (name 4 1 115) None None) ∷ []))) ∷ []) no_statements) ∷ (procedure false (Function (Some (Derived (name 1 1 128))) (Some (name 6 1 151)))
    (name 5 1 140) [] [] no_statements) ∷ [])) ∷ (unit u.Program (name 7 2 9) [] no_statements []) ∷ [])) (looks (((1, One 0) ∷ (3, One 1) ∷ (5, One 2) ∷
    []) ∷ ((1, One 0) ∷ (3, One 1) ∷ (4, One 3) ∷ (5, One 2) ∷ []) ∷ ((1, One 0) ∷ (3, One 1) ∷ (5, One 2) ∷ (6, One 4) ∷ []) ∷ [] ∷ [])) (0 ∷ 1 ∷ [])

--     module m; type t; integer :: i; contains; final :: f; end type; contains; subroutine f(x); type(t), intent(in) :: x; end; pure subroutine g(a,
--         b); type(t), intent(in) :: a; type(t), intent(inout) :: b; end; end
--     program p; end
-- 1:200: T12: b
abbrev pub t12_6 : Type 0
t12_6 = Finds (Some (broken 5 T12 1 200 (Some 7)))
    (program (codes "m" ∷ codes "t" ∷ codes "i" ∷ codes "f" ∷ codes "x" ∷ codes "g" ∷ codes "a" ∷ codes "b" ∷ codes "p" ∷ []) ((unit u.Module (name 0 1 8)
    ((type_definition (name 1 1 16) false ((declaration (Integer Four) [] ((entity (name 2 1 30) None None) ∷ [])) ∷ []) ((name 3 1 52) ∷ [])) ∷ [])
    no_statements ((procedure false Subroutine (name 3 1 86) ((name 4 1 88) ∷ []) ((declares (declaration (Derived (name 1 1 97)) ((intent In) ∷ [])
    ((entity (name 4 1 115) None None) ∷ []))) ∷ []) no_statements) ∷ (procedure true Subroutine (name 5 1 139) ((name 6 1 141) ∷ (name 7 1 144) ∷ [])
    ((declares (declaration (Derived (name 1 1 153)) ((intent In) ∷ []) ((entity (name 6 1 171) None None) ∷ []))) ∷ (declares (declaration (Derived (name
    1 1 179)) ((intent InOut) ∷ []) ((entity (name 7 1 200) None None) ∷ []))) ∷ []) no_statements) ∷ [])) ∷ (unit u.Program (name 8 2 9) [] no_statements
    []) ∷ [])) (looks (((1, One 0) ∷ (3, One 1) ∷ (5, One 2) ∷ []) ∷ ((1, One 0) ∷ (3, One 1) ∷ (4, One 3) ∷ (5, One 2) ∷ []) ∷ ((1, One 0) ∷ (3, One 1) ∷
    (5, One 2) ∷ (6, One 4) ∷ (7, One 5) ∷ []) ∷ [] ∷ [])) (0 ∷ 1 ∷ [])

--     module m; type t; integer :: i; contains; final :: f; end type; contains; subroutine f(x); type(t), intent(in) :: x; end; pure subroutine g(a);
--         type(t), intent(in) :: a; type(t) :: z; end; end
--     program p; end
-- 1:182: T12: z
abbrev pub t12_7 : Type 0
t12_7 = Finds (Some (broken 5 T12 1 182 (Some 7)))
    (program (codes "m" ∷ codes "t" ∷ codes "i" ∷ codes "f" ∷ codes "x" ∷ codes "g" ∷ codes "a" ∷ codes "z" ∷ codes "p" ∷ []) ((unit u.Module (name 0 1 8)
    ((type_definition (name 1 1 16) false ((declaration (Integer Four) [] ((entity (name 2 1 30) None None) ∷ [])) ∷ []) ((name 3 1 52) ∷ [])) ∷ [])
    no_statements ((procedure false Subroutine (name 3 1 86) ((name 4 1 88) ∷ []) ((declares (declaration (Derived (name 1 1 97)) ((intent In) ∷ [])
    ((entity (name 4 1 115) None None) ∷ []))) ∷ []) no_statements) ∷ (procedure true Subroutine (name 5 1 139) ((name 6 1 141) ∷ []) ((declares
    (declaration (Derived (name 1 1 150)) ((intent In) ∷ []) ((entity (name 6 1 168) None None) ∷ []))) ∷ (declares (declaration (Derived (name 1 1 176))
    [] ((entity (name 7 1 182) None None) ∷ []))) ∷ []) no_statements) ∷ [])) ∷ (unit u.Program (name 8 2 9) [] no_statements []) ∷ [])) (looks (((
      1,
      One
          0,
    ) ∷ (3, One 1) ∷ (5, One 2) ∷ []) ∷ ((1, One 0) ∷ (3, One 1) ∷ (4, One 3) ∷ (5, One 2) ∷ []) ∷ ((1, One 0) ∷ (3, One 1) ∷ (5, One 2) ∷ (6, One 4) ∷
    (7, One 5) ∷ []) ∷ [] ∷ [])) (0 ∷ 1 ∷ [])

--     module m; type t; integer :: i; contains; final :: f; end type; type(t) :: x; contains; subroutine f(x); type(t), intent(in) :: x; end;
--         subroutine g(); x = t(3); end; end
--     program p; end
-- 1:157: T12: t
abbrev pub t12_8 : Type 0
t12_8 = Finds (Some (broken 6 T12 1 157 (Some 1)))
    (program (codes "m" ∷ codes "t" ∷ codes "i" ∷ codes "f" ∷ codes "x" ∷ codes "g" ∷ codes "p" ∷ []) ((unit u.Module (name 0 1 8) ((type_definition (name 1 1
    16) false ((declaration (Integer Four) [] ((entity (name 2 1 30) None None) ∷ [])) ∷ []) ((name 3 1 52) ∷ [])) ∷ (declares (declaration (Derived (name
    1 1 70)) [] ((entity (name 4 1 76) None None) ∷ []))) ∷ []) no_statements ((procedure false Subroutine (name 3 1 100) ((name 4 1 102) ∷ []) ((declares
    (declaration (Derived (name 1 1 111)) ((intent In) ∷ []) ((entity (name 4 1 129) None None) ∷ []))) ∷ []) no_statements) ∷ (procedure false Subroutine
    (name 5 1 148) [] [] (statements (acts (at 1 153) (assign (parts (name 4 1 153) bare no_parts) (designator (parts (name 1 1 157) (within (arguments
    (value None (four (at 1 159) 3)) no_arguments)) no_parts)))) no_statements)) ∷ [])) ∷ (unit u.Program (name 6 2 9) [] no_statements []) ∷ [])) (looks
    (((1, One 0) ∷ (3, One 2) ∷ (4, One 1) ∷ (5, One 3) ∷ []) ∷ ((1, One 0) ∷ (3, One 2) ∷ (4, One 4) ∷ (5, One 3) ∷ []) ∷ ((1, One 0) ∷ (3, One 2) ∷ (
      4,
      One 1,
    ) ∷ (5, One 3) ∷ []) ∷ [] ∷ [])) (0 ∷ 1 ∷ [])

--     module a; use m; contains; function f(); type(u) :: f; end; end
--     module m; type u; type(t) :: c; end type; type t; integer :: i; contains; final :: s; end type; contains; subroutine s(x); type(t), intent(in)
--         :: x; end; end
--     program p; end
-- 1:53: T12: f
abbrev pub t12_9 : Type 0
t12_9 = Finds (Some (broken 5 T12 1 53 (Some 1)))
    (program (codes "a" ∷ codes "f" ∷ codes "u" ∷ codes "m" ∷ codes "t" ∷ codes "c" ∷ codes "i" ∷ codes "s" ∷ codes "x" ∷ codes "p" ∷ []) ((unit u.Module
    (name 0 1 8) [] no_statements ((procedure false (Function None None) (name 1 1 37) [] ((declares (declaration (Derived (name 2 1 47)) [] ((entity
    (name 1 1 53) None None) ∷ []))) ∷ []) no_statements) ∷ [])) ∷ (unit u.Module (name 3 2 8) ((type_definition (name 2 2 16) false ((declaration
    (Derived (name 4 2 24)) [] ((entity (name 5 2 30) None None) ∷ [])) ∷ []) []) ∷ (type_definition (name 4 2 48) false ((declaration (Integer Four) []
    ((entity (name 6 2 62) None None) ∷ [])) ∷ []) ((name 7 2 84) ∷ [])) ∷ []) no_statements ((procedure false Subroutine (name 7 2 118) ((name 8 2 120) ∷
    []) ((declares (declaration (Derived (name 4 2 129)) ((intent In) ∷ []) ((entity (name 8 2 147) None None) ∷ []))) ∷ []) no_statements) ∷ [])) ∷ (unit
    u.Program (name 9 3 9) [] no_statements []) ∷ [])) (looks (((1, One 0) ∷ (2, One 2) ∷ (4, One 3) ∷ (7, One 4) ∷ []) ∷ ((1, One 1) ∷ (2, One 2) ∷ (
      4,
      One 3,
    ) ∷ (7, One 4) ∷ []) ∷ ((2, One 2) ∷ (4, One 3) ∷ (7, One 4) ∷ []) ∷ ((2, One 2) ∷ (4, One 3) ∷ (7, One 4) ∷ (8, One 5) ∷ []) ∷ [] ∷ [])) (1 ∷ 0
    ∷ 2 ∷ [])

abbrev pub T11And12BShow : Type 0
T11And12BShow = t11_14 × t11_15 × t11_16 × t11_17 × t11_18 × t12_1 × t12_2 × t12_3 × t12_4 × t12_5 × t12_6 × t12_7 × t12_8 × t12_9
