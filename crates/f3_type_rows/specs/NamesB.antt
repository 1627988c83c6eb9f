-- Programs, each in the text above it, with what refuses it.
use Rattle.std.specs.Prelude.{true, false, [], ◌∷◌, None, Some, codes}
use Rattle.f3_lookups.specs.declared.lookup.Lookup.TheVariants.{One, Several}
use Rattle.f3_rules.specs.declared.rule.Rule.TheVariants.{N11, N12, N13}
use Rattle.f3_tree.specs.declared.expression.Operator.TheVariants as o
use Rattle.f3_tree.specs.declared.expression.IntegerKind.TheVariants.{Four}
use Rattle.f3_tree.specs.declared.declaration.Accessibility.TheVariants.{Private}
use Rattle.f3_tree.specs.declared.declaration.Intent.TheVariants.{In, InOut}
use Rattle.f3_tree.specs.declared.declaration.TypeSpecifier.TheVariants.{Integer, Derived}
use Rattle.f3_tree.specs.declared.program.ProcedureKind.TheVariants.{Subroutine}
use Rattle.f3_tree.specs.declared.program.UnitKind.TheVariants as u
use Rattle.f3_tree.specs.Expressions.{designator, chain, no_more, more, no_parts, parts}
use Rattle.f3_tree.specs.Expressions.{bare, within, no_arguments, arguments, value}
use Rattle.f3_tree.specs.Declarations.{explicit, access, intent, declares}
use Rattle.f3_tree.specs.Statements.{assign, call, print}
use Rattle.f3_tree.specs.Statements.{acts, associates, no_statements, statements}
use Rattle.f3_type_rows.specs.Build.{Finds, at, name, four, bounds, entity, declaration, type_definition, procedure, unit, association, program, looks, broken}

--     module a; integer :: n = 1; end
--     module b; integer :: n = 2; end
--     program p; use a; use b; print *, n; end
-- 3:35: N11: n
abbrev pub n11_1 : Type 0
n11_1 = Finds (Some (broken 6 N11 3 35 (Some 1)))
    (program (codes "a" ∷ codes "n" ∷ codes "b" ∷ codes "p" ∷ codes "print" ∷ []) ((unit u.Module (name 0 1 8) ((declares (declaration (Integer Four) []
    ((entity (name 1 1 22) None (Some (four (at 1 26) 1))) ∷ []))) ∷ []) no_statements []) ∷ (unit u.Module (name 2 2 8) ((declares (declaration (Integer
    Four) [] ((entity (name 1 2 22) None (Some (four (at 2 26) 2))) ∷ []))) ∷ []) no_statements []) ∷ (unit u.Program (name 3 3 9) [] (statements (acts
    (at 3 26) (print ((designator (parts (name 1 3 35) bare no_parts)) ∷ []))) no_statements) []) ∷ [])) (looks (((1, One 0) ∷ []) ∷ ((1, One 1) ∷ []) ∷
    ((1, Several) ∷ []) ∷ [])) (0 ∷ 1 ∷ 2 ∷ [])

--     program p; use a; use b; n = 1; end
--     module a; integer :: n; end
--     module b; integer :: n; end
-- 1:26: N11: n
abbrev pub n11_2 : Type 0
n11_2 = Finds (Some (broken 6 N11 1 26 (Some 1)))
    (program (codes "p" ∷ codes "n" ∷ codes "a" ∷ codes "b" ∷ []) ((unit u.Program (name 0 1 9) [] (statements (acts (at 1 26) (assign (parts (name 1 1 26)
    bare no_parts) (four (at 1 30) 1))) no_statements) []) ∷ (unit u.Module (name 2 2 8) ((declares (declaration (Integer Four) [] ((entity (name 1 2 22)
    None None) ∷ []))) ∷ []) no_statements []) ∷ (unit u.Module (name 3 3 8) ((declares (declaration (Integer Four) [] ((entity (name 1 3 22) None None) ∷
    []))) ∷ []) no_statements []) ∷ [])) (looks (((1, Several) ∷ []) ∷ ((1, One 0) ∷ []) ∷ ((1, One 1) ∷ []) ∷ [])) (1 ∷ 2 ∷ 0 ∷ [])

--     module a; integer :: n; end
--     module b; integer :: n; end
--     program p; use a; use b; associate (z => n); print *, z; end associate; end
-- 3:42: N11: n
abbrev pub n11_3 : Type 0
n11_3 = Finds (Some (broken 6 N11 3 42 (Some 1)))
    (program (codes "a" ∷ codes "n" ∷ codes "b" ∷ codes "p" ∷ codes "z" ∷ codes "print" ∷ []) ((unit u.Module (name 0 1 8) ((declares (declaration (Integer
    Four) [] ((entity (name 1 1 22) None None) ∷ []))) ∷ []) no_statements []) ∷ (unit u.Module (name 2 2 8) ((declares (declaration (Integer Four) []
    ((entity (name 1 2 22) None None) ∷ []))) ∷ []) no_statements []) ∷ (unit u.Program (name 3 3 9) [] (statements (associates (at 3 26) ((association
    (name 4 3 37) (designator (parts (name 1 3 42) bare no_parts))) ∷ []) (statements (acts (at 3 46) (print ((designator (parts (name 4 3 55) bare
    no_parts)) ∷ []))) no_statements)) no_statements) []) ∷ [])) (looks (((1, One 0) ∷ []) ∷ ((1, One 1) ∷ []) ∷ ((1, Several) ∷ []) ∷ ((1, Several) ∷ (
      4,
      One 2,
    ) ∷ []) ∷ [])) (0 ∷ 1 ∷ 2 ∷ [])

--     module m; type t; integer :: c = 1; end type; end
--     program p; use m; type(t) :: x; print *, x%d; end
-- 2:44: N12: d
abbrev pub n12_1 : Type 0
n12_1 = Finds (Some (broken 6 N12 2 44 (Some 6)))
    (program (codes "m" ∷ codes "t" ∷ codes "c" ∷ codes "p" ∷ codes "x" ∷ codes "print" ∷ codes "d" ∷ []) ((unit u.Module (name 0 1 8) ((type_definition (name
    1 1 16) false ((declaration (Integer Four) [] ((entity (name 2 1 30) None (Some (four (at 1 34) 1))) ∷ [])) ∷ []) []) ∷ []) no_statements []) ∷ (unit
    u.Program (name 3 2 9) ((declares (declaration (Derived (name 1 2 24)) [] ((entity (name 4 2 30) None None) ∷ []))) ∷ []) (statements (acts (at 2 33)
    (print ((designator (parts (name 4 2 42) bare (parts (name 6 2 44) bare no_parts))) ∷ []))) no_statements) []) ∷ [])) (looks (((1, One 0) ∷ []) ∷ ((
      1,
      One 0,
    ) ∷ (4, One 1) ∷ []) ∷ [])) (0 ∷ 1 ∷ [])

--     program p; use m; associate (n => x%i); n = 1; x%i = n%i; end associate; end
--     module m; type t; integer :: i; end type; type(t) :: x; end
-- 1:56: N12: i
abbrev pub n12_2 : Type 0
n12_2 = Finds (Some (broken 6 N12 1 56 (Some 3)))
    (program (codes "p" ∷ codes "n" ∷ codes "x" ∷ codes "i" ∷ codes "m" ∷ codes "t" ∷ []) ((unit u.Program (name 0 1 9) [] (statements (associates (at 1 19)
    ((association (name 1 1 30) (designator (parts (name 2 1 35) bare (parts (name 3 1 37) bare no_parts)))) ∷ []) (statements (acts (at 1 41) (assign
    (parts (name 1 1 41) bare no_parts) (four (at 1 45) 1))) (statements (acts (at 1 48) (assign (parts (name 2 1 48) bare (parts (name 3 1 50) bare
    no_parts)) (designator (parts (name 1 1 54) bare (parts (name 3 1 56) bare no_parts))))) no_statements))) no_statements) []) ∷ (unit u.Module (name 4
    2 8) ((type_definition (name 5 2 16) false ((declaration (Integer Four) [] ((entity (name 3 2 30) None None) ∷ [])) ∷ []) []) ∷ (declares (declaration
    (Derived (name 5 2 48)) [] ((entity (name 2 2 54) None None) ∷ []))) ∷ []) no_statements []) ∷ [])) (looks (((2, One 2) ∷ (5, One 1) ∷ []) ∷ ((
      1,
      One
          0,
    ) ∷ (2, One 2) ∷ (5, One 1) ∷ []) ∷ ((2, One 2) ∷ (5, One 1) ∷ []) ∷ [])) (1 ∷ 0 ∷ [])

--     program p; integer :: i; print *, i%x; end
-- 1:37: N12: x
abbrev pub n12_3 : Type 0
n12_3 = Finds (Some (broken 6 N12 1 37 (Some 3)))
    (program (codes "p" ∷ codes "i" ∷ codes "print" ∷ codes "x" ∷ []) ((unit u.Program (name 0 1 9) ((declares (declaration (Integer Four) [] ((entity (name 1
    1 23) None None) ∷ []))) ∷ []) (statements (acts (at 1 26) (print ((designator (parts (name 1 1 35) bare (parts (name 3 1 37) bare no_parts))) ∷ [])))
    no_statements) []) ∷ [])) (looks (((1, One 0) ∷ []) ∷ [])) (0 ∷ [])

--     program p; use m; integer :: n = x%zz; end
--     module m; type t; integer :: i; end type; type(t) :: x; end
-- 1:36: N12: zz
abbrev pub n12_4 : Type 0
n12_4 = Finds (Some (broken 6 N12 1 36 (Some 3)))
    (program (codes "p" ∷ codes "n" ∷ codes "x" ∷ codes "zz" ∷ codes "m" ∷ codes "t" ∷ codes "i" ∷ []) ((unit u.Program (name 0 1 9) ((declares (declaration
    (Integer Four) [] ((entity (name 1 1 30) None (Some (designator (parts (name 2 1 34) bare (parts (name 3 1 36) bare no_parts))))) ∷ []))) ∷ [])
    no_statements []) ∷ (unit u.Module (name 4 2 8) ((type_definition (name 5 2 16) false ((declaration (Integer Four) [] ((entity (name 6 2 30) None
    None) ∷ [])) ∷ []) []) ∷ (declares (declaration (Derived (name 5 2 48)) [] ((entity (name 2 2 54) None None) ∷ []))) ∷ []) no_statements []) ∷ []))
    (looks (((1, One 0) ∷ (2, One 2) ∷ (5, One 1) ∷ []) ∷ ((2, One 2) ∷ (5, One 1) ∷ []) ∷ [])) (1 ∷ 0 ∷ [])

--     module m; type t; integer :: i(2); end type; type u; type(t) :: i(2); end type; end
--     program p; use m; type(u) :: y(2); print *, y%i%zz; end
-- 2:49: N12: zz
abbrev pub n12_5 : Type 0
n12_5 = Finds (Some (broken 6 N12 2 49 (Some 7)))
    (program (codes "m" ∷ codes "t" ∷ codes "i" ∷ codes "u" ∷ codes "p" ∷ codes "y" ∷ codes "print" ∷ codes "zz" ∷ []) ((unit u.Module (name 0 1 8)
    ((type_definition (name 1 1 16) false ((declaration (Integer Four) [] ((entity (name 2 1 30) (Some (explicit ((bounds None (four (at 1 32) 2)) ∷ [])))
    None) ∷ [])) ∷ []) []) ∷ (type_definition (name 3 1 51) false ((declaration (Derived (name 1 1 59)) [] ((entity (name 2 1 65) (Some (explicit ((bounds
    None (four (at 1 67) 2)) ∷ []))) None) ∷ [])) ∷ []) []) ∷ []) no_statements []) ∷ (unit u.Program (name 4 2 9) ((declares (declaration (Derived (name
    3 2 24)) [] ((entity (name 5 2 30) (Some (explicit ((bounds None (four (at 2 32) 2)) ∷ []))) None) ∷ []))) ∷ []) (statements (acts (at 2 36) (print
    ((designator (parts (name 5 2 45) bare (parts (name 2 2 47) bare (parts (name 7 2 49) bare no_parts)))) ∷ []))) no_statements) []) ∷ [])) (looks (((
      1,
      One 0,
    ) ∷ (3, One 1) ∷ []) ∷ ((1, One 0) ∷ (3, One 1) ∷ (5, One 2) ∷ []) ∷ [])) (0 ∷ 1 ∷ [])

--     program p; use m; x%i%j = 1; end
--     module m; type t; integer :: i; end type; type(t) :: x; end
-- 1:23: N12: j
abbrev pub n12_6 : Type 0
n12_6 = Finds (Some (broken 6 N12 1 23 (Some 3)))
    (program (codes "p" ∷ codes "x" ∷ codes "i" ∷ codes "j" ∷ codes "m" ∷ codes "t" ∷ []) ((unit u.Program (name 0 1 9) [] (statements (acts (at 1 19) (assign
    (parts (name 1 1 19) bare (parts (name 2 1 21) bare (parts (name 3 1 23) bare no_parts))) (four (at 1 27) 1))) no_statements) []) ∷ (unit u.Module
    (name 4 2 8) ((type_definition (name 5 2 16) false ((declaration (Integer Four) [] ((entity (name 2 2 30) None None) ∷ [])) ∷ []) []) ∷ (declares
    (declaration (Derived (name 5 2 48)) [] ((entity (name 1 2 54) None None) ∷ []))) ∷ []) no_statements []) ∷ [])) (looks (((1, One 1) ∷ (5, One 0) ∷
    []) ∷ ((1, One 1) ∷ (5, One 0) ∷ []) ∷ [])) (1 ∷ 0 ∷ [])

--     program p; use m; x = t(k=2); end
--     module m; type t; integer :: i; integer :: j = 1; end type; type(t) :: x; end
-- 1:25: N12: k
abbrev pub n12_7 : Type 0
n12_7 = Finds (Some (broken 6 N12 1 25 (Some 2)))
    (program (codes "p" ∷ codes "x" ∷ codes "k" ∷ codes "t" ∷ codes "m" ∷ codes "i" ∷ codes "j" ∷ []) ((unit u.Program (name 0 1 9) [] (statements (acts (at 1
    19) (assign (parts (name 1 1 19) bare no_parts) (designator (parts (name 3 1 23) (within (arguments (value (Some (name 2 1 25)) (four (at 1 27) 2))
    no_arguments)) no_parts)))) no_statements) []) ∷ (unit u.Module (name 4 2 8) ((type_definition (name 3 2 16) false ((declaration (Integer Four) []
    ((entity (name 5 2 30) None None) ∷ [])) ∷ (declaration (Integer Four) [] ((entity (name 6 2 44) None (Some (four (at 2 48) 1))) ∷ [])) ∷ []) []) ∷
    (declares (declaration (Derived (name 3 2 66)) [] ((entity (name 1 2 72) None None) ∷ []))) ∷ []) no_statements []) ∷ [])) (looks (((1, One 1) ∷ (
      3,
      One 0,
    ) ∷ []) ∷ ((1, One 1) ∷ (3, One 0) ∷ []) ∷ [])) (1 ∷ 0 ∷ [])

--     module m; type t; integer :: c; end type; end
--     program p; use m; type(t) :: x; associate (z => x); print *, z%c, z%d; end associate; end
-- 2:69: N12: d
abbrev pub n12_8 : Type 0
n12_8 = Finds (Some (broken 6 N12 2 69 (Some 7)))
    (program (codes "m" ∷ codes "t" ∷ codes "c" ∷ codes "p" ∷ codes "x" ∷ codes "z" ∷ codes "print" ∷ codes "d" ∷ []) ((unit u.Module (name 0 1 8)
    ((type_definition (name 1 1 16) false ((declaration (Integer Four) [] ((entity (name 2 1 30) None None) ∷ [])) ∷ []) []) ∷ []) no_statements []) ∷
    (unit u.Program (name 3 2 9) ((declares (declaration (Derived (name 1 2 24)) [] ((entity (name 4 2 30) None None) ∷ []))) ∷ []) (statements
    (associates (at 2 33) ((association (name 5 2 44) (designator (parts (name 4 2 49) bare no_parts))) ∷ []) (statements (acts (at 2 53) (print
    ((designator (parts (name 5 2 62) bare (parts (name 2 2 64) bare no_parts))) ∷ (designator (parts (name 5 2 67) bare (parts (name 7 2 69) bare
    no_parts))) ∷ []))) no_statements)) no_statements) []) ∷ [])) (looks (((1, One 0) ∷ []) ∷ ((1, One 0) ∷ (4, One 1) ∷ []) ∷ ((1, One 0) ∷ (4, One 1) ∷
    (5, One 2) ∷ []) ∷ [])) (0 ∷ 1 ∷ [])

--     program p; integer :: i; associate (z => i); print *, z%c; end associate; end
-- 1:57: N12: c
abbrev pub n12_9 : Type 0
n12_9 = Finds (Some (broken 6 N12 1 57 (Some 4)))
    (program (codes "p" ∷ codes "i" ∷ codes "z" ∷ codes "print" ∷ codes "c" ∷ []) ((unit u.Program (name 0 1 9) ((declares (declaration (Integer Four) []
    ((entity (name 1 1 23) None None) ∷ []))) ∷ []) (statements (associates (at 1 26) ((association (name 2 1 37) (designator (parts (name 1 1 42) bare
    no_parts))) ∷ []) (statements (acts (at 1 46) (print ((designator (parts (name 2 1 55) bare (parts (name 4 1 57) bare no_parts))) ∷ [])))
    no_statements)) no_statements) []) ∷ [])) (looks (((1, One 0) ∷ []) ∷ ((1, One 0) ∷ (2, One 1) ∷ []) ∷ [])) (0 ∷ [])

--     module m; type box; private; integer :: secret = 1; end type; contains
--     subroutine show(b); type(box), intent(in) :: b; print *, b%secret; end
--     subroutine set(b, v); type(box), intent(inout) :: b; integer, intent(in) :: v; b%secret = v; end
--     end
--     program p; use m; type(box) :: a, b
--     a%secret = 1
--     end
-- 6:3: N13: secret
abbrev pub n13_1 : Type 0
n13_1 = Finds (Some (broken 6 N13 6 3 (Some 2)))
    (program (codes "m" ∷ codes "box" ∷ codes "secret" ∷ codes "show" ∷ codes "b" ∷ codes "print" ∷ codes "set" ∷ codes "v" ∷ codes "p" ∷ codes "a" ∷ [])
    ((unit u.Module (name 0 1 8) ((type_definition (name 1 1 16) true ((declaration (Integer Four) [] ((entity (name 2 1 41) None (Some (four (at 1 50)
    1))) ∷ [])) ∷ []) []) ∷ []) no_statements ((procedure false Subroutine (name 3 2 12) ((name 4 2 17) ∷ []) ((declares (declaration (Derived (name 1 2
    26)) ((intent In) ∷ []) ((entity (name 4 2 46) None None) ∷ []))) ∷ []) (statements (acts (at 2 49) (print ((designator (parts (name 4 2 58) bare
    (parts (name 2 2 60) bare no_parts))) ∷ []))) no_statements)) ∷ (procedure false Subroutine (name 6 3 12) ((name 4 3 16) ∷ (name 7 3 19) ∷ [])
    ((declares (declaration (Derived (name 1 3 28)) ((intent InOut) ∷ []) ((entity (name 4 3 51) None None) ∷ []))) ∷ (declares (declaration (Integer
    Four) ((intent In) ∷ []) ((entity (name 7 3 77) None None) ∷ []))) ∷ []) (statements (acts (at 3 80) (assign (parts (name 4 3 80) bare (parts (name 2
    3 82) bare no_parts)) (designator (parts (name 7 3 91) bare no_parts)))) no_statements)) ∷ [])) ∷ (unit u.Program (name 8 5 9) ((declares (declaration
    (Derived (name 1 5 24)) [] ((entity (name 9 5 32) None None) ∷ (entity (name 4 5 35) None None) ∷ []))) ∷ []) (statements (acts (at 6 1) (assign
    (parts (name 9 6 1) bare (parts (name 2 6 3) bare no_parts)) (four (at 6 12) 1))) no_statements) []) ∷ [])) (looks (((1, One 0) ∷ (3, One 1) ∷ (
      6,
      One
          2,
    ) ∷ []) ∷ ((1, One 0) ∷ (3, One 1) ∷ (4, One 3) ∷ (6, One 2) ∷ []) ∷ ((1, One 0) ∷ (3, One 1) ∷ (4, One 4) ∷ (6, One 2) ∷ (7, One 5) ∷ []) ∷ ((
      1,
      One
          0,
    ) ∷ (3, One 1) ∷ (4, One 7) ∷ (6, One 2) ∷ (9, One 6) ∷ []) ∷ [])) (0 ∷ 1 ∷ [])

--     module m; type box; private; integer :: secret = 1; end type; end
--     program p; use m; type(box) :: a; integer :: k; a = box(k + 1); end
-- 2:57: N13: k
abbrev pub n13_2 : Type 0
n13_2 = Finds (Some (broken 6 N13 2 57 (Some 5)))
    (program (codes "m" ∷ codes "box" ∷ codes "secret" ∷ codes "p" ∷ codes "a" ∷ codes "k" ∷ []) ((unit u.Module (name 0 1 8) ((type_definition (name 1 1 16)
    true ((declaration (Integer Four) [] ((entity (name 2 1 41) None (Some (four (at 1 50) 1))) ∷ [])) ∷ []) []) ∷ []) no_statements []) ∷ (unit u.Program
    (name 3 2 9) ((declares (declaration (Derived (name 1 2 24)) [] ((entity (name 4 2 32) None None) ∷ []))) ∷ (declares (declaration (Integer Four) []
    ((entity (name 5 2 46) None None) ∷ []))) ∷ []) (statements (acts (at 2 49) (assign (parts (name 4 2 49) bare no_parts) (designator (parts (name 1 2
    53) (within (arguments (value None (chain (designator (parts (name 5 2 57) bare no_parts)) (more o.Add (four (at 2 61) 1) no_more))) no_arguments))
    no_parts)))) no_statements) []) ∷ [])) (looks (((1, One 0) ∷ []) ∷ ((1, One 0) ∷ (4, One 1) ∷ (5, One 2) ∷ []) ∷ [])) (0 ∷ 1 ∷ [])

--     module m; type box; private; integer :: secret = 1; end type; end
--     program p; use m; type(box) :: a; a = box(secret=2); end
-- 2:43: N13: secret
abbrev pub n13_3 : Type 0
n13_3 = Finds (Some (broken 6 N13 2 43 (Some 2)))
    (program (codes "m" ∷ codes "box" ∷ codes "secret" ∷ codes "p" ∷ codes "a" ∷ []) ((unit u.Module (name 0 1 8) ((type_definition (name 1 1 16) true
    ((declaration (Integer Four) [] ((entity (name 2 1 41) None (Some (four (at 1 50) 1))) ∷ [])) ∷ []) []) ∷ []) no_statements []) ∷ (unit u.Program
    (name 3 2 9) ((declares (declaration (Derived (name 1 2 24)) [] ((entity (name 4 2 32) None None) ∷ []))) ∷ []) (statements (acts (at 2 35) (assign
    (parts (name 4 2 35) bare no_parts) (designator (parts (name 1 2 39) (within (arguments (value (Some (name 2 2 43)) (four (at 2 50) 2)) no_arguments))
    no_parts)))) no_statements) []) ∷ [])) (looks (((1, One 0) ∷ []) ∷ ((1, One 0) ∷ (4, One 1) ∷ []) ∷ [])) (0 ∷ 1 ∷ [])

--     module m; type box; private; integer :: secret = 1; end type; end
--     program p; use m; type(box) :: a; a = box(2); end
-- 2:43: N13
abbrev pub n13_4 : Type 0
n13_4 = Finds (Some (broken 6 N13 2 43 None))
    (program (codes "m" ∷ codes "box" ∷ codes "secret" ∷ codes "p" ∷ codes "a" ∷ []) ((unit u.Module (name 0 1 8) ((type_definition (name 1 1 16) true
    ((declaration (Integer Four) [] ((entity (name 2 1 41) None (Some (four (at 1 50) 1))) ∷ [])) ∷ []) []) ∷ []) no_statements []) ∷ (unit u.Program
    (name 3 2 9) ((declares (declaration (Derived (name 1 2 24)) [] ((entity (name 4 2 32) None None) ∷ []))) ∷ []) (statements (acts (at 2 35) (assign
    (parts (name 4 2 35) bare no_parts) (designator (parts (name 1 2 39) (within (arguments (value None (four (at 2 43) 2)) no_arguments)) no_parts))))
    no_statements) []) ∷ [])) (looks (((1, One 0) ∷ []) ∷ ((1, One 0) ∷ (4, One 1) ∷ []) ∷ [])) (0 ∷ 1 ∷ [])

--     program p; use m; call p2(); x%i = 1; end
--     module m; type t; private; integer :: i; end type; type(t) :: x; contains; subroutine p2(); x%i = 1; end; end
-- 1:32: N13: i
abbrev pub n13_5 : Type 0
n13_5 = Finds (Some (broken 6 N13 1 32 (Some 4)))
    (program (codes "p" ∷ codes "call" ∷ codes "p2" ∷ codes "x" ∷ codes "i" ∷ codes "m" ∷ codes "t" ∷ []) ((unit u.Program (name 0 1 9) [] (statements (acts
    (at 1 19) (call (name 2 1 24) [])) (statements (acts (at 1 30) (assign (parts (name 3 1 30) bare (parts (name 4 1 32) bare no_parts)) (four (at 1 36)
    1))) no_statements)) []) ∷ (unit u.Module (name 5 2 8) ((type_definition (name 6 2 16) true ((declaration (Integer Four) [] ((entity (name 4 2 39)
    None None) ∷ [])) ∷ []) []) ∷ (declares (declaration (Derived (name 6 2 57)) [] ((entity (name 3 2 63) None None) ∷ []))) ∷ []) no_statements
    ((procedure false Subroutine (name 2 2 87) [] [] (statements (acts (at 2 93) (assign (parts (name 3 2 93) bare (parts (name 4 2 95) bare no_parts))
    (four (at 2 99) 1))) no_statements)) ∷ [])) ∷ [])) (looks (((2, One 2) ∷ (3, One 1) ∷ (6, One 0) ∷ []) ∷ ((2, One 2) ∷ (3, One 1) ∷ (6, One 0) ∷ []) ∷
    ((2, One 2) ∷ (3, One 1) ∷ (6, One 0) ∷ []) ∷ [])) (1 ∷ 0 ∷ [])

--     program p; use m; x = t(i=2); end
--     module m; type t; integer, private :: i; integer :: j = 1; end type; type(t) :: x; end
-- 1:25: N13: i
abbrev pub n13_6 : Type 0
n13_6 = Finds (Some (broken 6 N13 1 25 (Some 2)))
    (program (codes "p" ∷ codes "x" ∷ codes "i" ∷ codes "t" ∷ codes "m" ∷ codes "j" ∷ []) ((unit u.Program (name 0 1 9) [] (statements (acts (at 1 19) (assign
    (parts (name 1 1 19) bare no_parts) (designator (parts (name 3 1 23) (within (arguments (value (Some (name 2 1 25)) (four (at 1 27) 2)) no_arguments))
    no_parts)))) no_statements) []) ∷ (unit u.Module (name 4 2 8) ((type_definition (name 3 2 16) false ((declaration (Integer Four) ((access Private) ∷
    []) ((entity (name 2 2 39) None None) ∷ [])) ∷ (declaration (Integer Four) [] ((entity (name 5 2 53) None (Some (four (at 2 57) 1))) ∷ [])) ∷ []) [])
    ∷ (declares (declaration (Derived (name 3 2 75)) [] ((entity (name 1 2 81) None None) ∷ []))) ∷ []) no_statements []) ∷ [])) (looks (((1, One 1) ∷ (
      3,
      One 0,
    ) ∷ []) ∷ ((1, One 1) ∷ (3, One 0) ∷ []) ∷ [])) (1 ∷ 0 ∷ [])

--     module m; type t; private; integer :: c; end type; type(t) :: x; end
--     program p; use m; associate (z => x); z%c = 1; end associate; end
-- 2:41: N13: c
abbrev pub n13_7 : Type 0
n13_7 = Finds (Some (broken 6 N13 2 41 (Some 2)))
    (program (codes "m" ∷ codes "t" ∷ codes "c" ∷ codes "x" ∷ codes "p" ∷ codes "z" ∷ []) ((unit u.Module (name 0 1 8) ((type_definition (name 1 1 16) true
    ((declaration (Integer Four) [] ((entity (name 2 1 39) None None) ∷ [])) ∷ []) []) ∷ (declares (declaration (Derived (name 1 1 57)) [] ((entity (name
    3 1 63) None None) ∷ []))) ∷ []) no_statements []) ∷ (unit u.Program (name 4 2 9) [] (statements (associates (at 2 19) ((association (name 5 2 30)
    (designator (parts (name 3 2 35) bare no_parts))) ∷ []) (statements (acts (at 2 39) (assign (parts (name 5 2 39) bare (parts (name 2 2 41) bare
    no_parts)) (four (at 2 45) 1))) no_statements)) no_statements) []) ∷ [])) (looks (((1, One 0) ∷ (3, One 1) ∷ []) ∷ ((1, One 0) ∷ (3, One 1) ∷ []) ∷
    ((1, One 0) ∷ (3, One 1) ∷ (5, One 2) ∷ []) ∷ [])) (0 ∷ 1 ∷ [])

--     module m; type t; private; integer :: c; end type; type(t) :: x; end
--     program p; use m; associate (z => x%c); print *, z; end associate; end
-- 2:37: N13: c
abbrev pub n13_8 : Type 0
n13_8 = Finds (Some (broken 6 N13 2 37 (Some 2)))
    (program (codes "m" ∷ codes "t" ∷ codes "c" ∷ codes "x" ∷ codes "p" ∷ codes "z" ∷ codes "print" ∷ []) ((unit u.Module (name 0 1 8) ((type_definition (name
    1 1 16) true ((declaration (Integer Four) [] ((entity (name 2 1 39) None None) ∷ [])) ∷ []) []) ∷ (declares (declaration (Derived (name 1 1 57)) []
    ((entity (name 3 1 63) None None) ∷ []))) ∷ []) no_statements []) ∷ (unit u.Program (name 4 2 9) [] (statements (associates (at 2 19) ((association
    (name 5 2 30) (designator (parts (name 3 2 35) bare (parts (name 2 2 37) bare no_parts)))) ∷ []) (statements (acts (at 2 41) (print ((designator
    (parts (name 5 2 50) bare no_parts)) ∷ []))) no_statements)) no_statements) []) ∷ [])) (looks (((1, One 0) ∷ (3, One 1) ∷ []) ∷ ((1, One 0) ∷ (
      3,
      One
          1,
    ) ∷ []) ∷ ((1, One 0) ∷ (3, One 1) ∷ (5, One 2) ∷ []) ∷ [])) (0 ∷ 1 ∷ [])

abbrev pub NamesBShow : Type 0
NamesBShow = n11_1 × n11_2 × n11_3 × n12_1 × n12_2 × n12_3 × n12_4 × n12_5 × n12_6 × n12_7 × n12_8 × n12_9 × n13_1 × n13_2 × n13_3 × n13_4 × n13_5 × n13_6 ×
    n13_7 × n13_8
