-- Programs, each in the text above it, with what refuses it.
use Rattle.std.specs.Prelude.{false, [], ◌∷◌, None, Some, codes}
use Rattle.f3_lookups.specs.declared.lookup.Lookup.TheVariants.{One}
use Rattle.f3_rules.specs.declared.rule.Rule.TheVariants.{T2}
use Rattle.f3_tree.specs.declared.expression.Sign.TheVariants.{Minus}
use Rattle.f3_tree.specs.declared.expression.Operator.TheVariants as o
use Rattle.f3_tree.specs.declared.expression.IntegerKind.TheVariants.{Four, Eight}
use Rattle.f3_tree.specs.declared.declaration.TypeSpecifier.TheVariants.{Integer}
use Rattle.f3_tree.specs.declared.program.ProcedureKind.TheVariants.{Subroutine}
use Rattle.f3_tree.specs.declared.program.UnitKind.TheVariants as u
use Rattle.f3_tree.specs.Expressions.{designator, group, array, signed, chain, no_more, more, no_trees, trees, no_parts, parts}
use Rattle.f3_tree.specs.Expressions.{bare}
use Rattle.f3_tree.specs.Declarations.{explicit, parameter, declares}
use Rattle.f3_tree.specs.Statements.{assign, print, one, values}
use Rattle.f3_tree.specs.Statements.{acts, selects, associates, no_statements, statements}
use Rattle.f3_tree.specs.Statements.{no_cases, case_block}
use Rattle.f3_type_rows.specs.Build.{Finds, at, name, four, eight, bounds, entity, declaration, type_definition, procedure, unit, association}
use Rattle.f3_type_rows.specs.Build.{program, looks, broken}

--     program p; integer, parameter :: n = 2147483648_8; end
-- 1:38: T2
abbrev pub t2_47 : Type 0
t2_47 = Finds (Some (broken 5 T2 1 38 None))
    (program (codes "p" ∷ codes "n" ∷ []) ((unit u.Program (name 0 1 9) ((declares (declaration (Integer Four) (parameter ∷ []) ((entity (name 1 1 34) None
    (Some (eight (at 1 38) 2147483648))) ∷ []))) ∷ []) no_statements []) ∷ [])) (looks (((1, One 0) ∷ []) ∷ [])) (0 ∷ [])

--     program p; integer :: k(0) = 3000000000_8; end
-- 1:30: T2
abbrev pub t2_48 : Type 0
t2_48 = Finds (Some (broken 5 T2 1 30 None))
    (program (codes "p" ∷ codes "k" ∷ []) ((unit u.Program (name 0 1 9) ((declares (declaration (Integer Four) [] ((entity (name 1 1 23) (Some (explicit
    ((bounds None (four (at 1 25) 0)) ∷ []))) (Some (eight (at 1 30) 3000000000))) ∷ []))) ∷ []) no_statements []) ∷ [])) (looks (((1, One 0) ∷ []) ∷ []))
    (0 ∷ [])

--     program p; integer :: n = 2147483648_8; end
-- 1:27: T2
abbrev pub t2_49 : Type 0
t2_49 = Finds (Some (broken 5 T2 1 27 None))
    (program (codes "p" ∷ codes "n" ∷ []) ((unit u.Program (name 0 1 9) ((declares (declaration (Integer Four) [] ((entity (name 1 1 23) None (Some (eight (at
    1 27) 2147483648))) ∷ []))) ∷ []) no_statements []) ∷ [])) (looks (((1, One 0) ∷ []) ∷ [])) (0 ∷ [])

--     program p; integer, parameter :: n = -2147483649_8; end
-- 1:38: T2
abbrev pub t2_50 : Type 0
t2_50 = Finds (Some (broken 5 T2 1 38 None))
    (program (codes "p" ∷ codes "n" ∷ []) ((unit u.Program (name 0 1 9) ((declares (declaration (Integer Four) (parameter ∷ []) ((entity (name 1 1 34) None
    (Some (signed (at 1 38) Minus (eight (at 1 39) 2147483649)))) ∷ []))) ∷ []) no_statements []) ∷ [])) (looks (((1, One 0) ∷ []) ∷ [])) (0 ∷ [])

--     program p; integer(8), parameter :: n = 2147483647 + 1; end
-- 1:41: T2
abbrev pub t2_51 : Type 0
t2_51 = Finds (Some (broken 5 T2 1 41 None))
    (program (codes "p" ∷ codes "n" ∷ []) ((unit u.Program (name 0 1 9) ((declares (declaration (Integer Eight) (parameter ∷ []) ((entity (name 1 1 37) None
    (Some (chain (four (at 1 41) 2147483647) (more o.Add (four (at 1 54) 1) no_more)))) ∷ []))) ∷ []) no_statements []) ∷ [])) (looks (((1, One 0) ∷ []) ∷
    [])) (0 ∷ [])

--     program p; integer(8) :: n = 9223372036854775807_8 + 1; end
-- 1:30: T2
abbrev pub t2_52 : Type 0
t2_52 = Finds (Some (broken 5 T2 1 30 None))
    (program (codes "p" ∷ codes "n" ∷ []) ((unit u.Program (name 0 1 9) ((declares (declaration (Integer Eight) [] ((entity (name 1 1 26) None (Some (chain
    (eight (at 1 30) 9223372036854775807) (more o.Add (four (at 1 54) 1) no_more)))) ∷ []))) ∷ []) no_statements []) ∷ [])) (looks (((1, One 0) ∷ []) ∷
    [])) (0 ∷ [])

--     program p; integer(8) :: n = -9223372036854775807_8 - 2; end
-- 1:30: T2
abbrev pub t2_53 : Type 0
t2_53 = Finds (Some (broken 5 T2 1 30 None))
    (program (codes "p" ∷ codes "n" ∷ []) ((unit u.Program (name 0 1 9) ((declares (declaration (Integer Eight) [] ((entity (name 1 1 26) None (Some (chain
    (signed (at 1 30) Minus (eight (at 1 31) 9223372036854775807)) (more o.Subtract (four (at 1 55) 2) no_more)))) ∷ []))) ∷ []) no_statements []) ∷ []))
    (looks (((1, One 0) ∷ []) ∷ [])) (0 ∷ [])

--     program p; integer(8) :: n = 2_8 ** 63; end
-- 1:30: T2
abbrev pub t2_54 : Type 0
t2_54 = Finds (Some (broken 5 T2 1 30 None))
    (program (codes "p" ∷ codes "n" ∷ []) ((unit u.Program (name 0 1 9) ((declares (declaration (Integer Eight) [] ((entity (name 1 1 26) None (Some (chain
    (eight (at 1 30) 2) (more o.Power (four (at 1 37) 63) no_more)))) ∷ []))) ∷ []) no_statements []) ∷ [])) (looks (((1, One 0) ∷ []) ∷ [])) (0 ∷ [])

--     program p; integer(8) :: n = 2 ** 31; end
-- 1:30: T2
abbrev pub t2_55 : Type 0
t2_55 = Finds (Some (broken 5 T2 1 30 None))
    (program (codes "p" ∷ codes "n" ∷ []) ((unit u.Program (name 0 1 9) ((declares (declaration (Integer Eight) [] ((entity (name 1 1 26) None (Some (chain
    (four (at 1 30) 2) (more o.Power (four (at 1 35) 31) no_more)))) ∷ []))) ∷ []) no_statements []) ∷ [])) (looks (((1, One 0) ∷ []) ∷ [])) (0 ∷ [])

--     program p; integer :: n = 2 ** 31_8; end
-- 1:27: T2
abbrev pub t2_56 : Type 0
t2_56 = Finds (Some (broken 5 T2 1 27 None))
    (program (codes "p" ∷ codes "n" ∷ []) ((unit u.Program (name 0 1 9) ((declares (declaration (Integer Four) [] ((entity (name 1 1 23) None (Some (chain
    (four (at 1 27) 2) (more o.Power (eight (at 1 32) 31) no_more)))) ∷ []))) ∷ []) no_statements []) ∷ [])) (looks (((1, One 0) ∷ []) ∷ [])) (0 ∷ [])

--     program p; integer(8) :: n = 3000000000_8 * 4 / (2_8 - 2); end
-- 1:30: T2
abbrev pub t2_57 : Type 0
t2_57 = Finds (Some (broken 5 T2 1 30 None))
    (program (codes "p" ∷ codes "n" ∷ []) ((unit u.Program (name 0 1 9) ((declares (declaration (Integer Eight) [] ((entity (name 1 1 26) None (Some (chain
    (eight (at 1 30) 3000000000) (more o.Multiply (four (at 1 45) 4) (more o.Divide (group (at 1 49) (chain (eight (at 1 50) 2) (more o.Subtract (four (at
    1 56) 2) no_more))) no_more))))) ∷ []))) ∷ []) no_statements []) ∷ [])) (looks (((1, One 0) ∷ []) ∷ [])) (0 ∷ [])

--     program p; integer :: a(2) = [1_8, 3000000000_8]; end
-- 1:30: T2
abbrev pub t2_58 : Type 0
t2_58 = Finds (Some (broken 5 T2 1 30 None))
    (program (codes "p" ∷ codes "a" ∷ []) ((unit u.Program (name 0 1 9) ((declares (declaration (Integer Four) [] ((entity (name 1 1 23) (Some (explicit
    ((bounds None (four (at 1 25) 2)) ∷ []))) (Some (array (at 1 30) (trees (eight (at 1 31) 1) (trees (eight (at 1 36) 3000000000) no_trees))))) ∷ [])))
    ∷ []) no_statements []) ∷ [])) (looks (((1, One 0) ∷ []) ∷ [])) (0 ∷ [])

--     program p; integer(8) :: i; i = 1; select case (i); case (2147483647 + 1); end select; end
-- 1:59: T2
abbrev pub t2_59 : Type 0
t2_59 = Finds (Some (broken 6 T2 1 59 None))
    (program (codes "p" ∷ codes "i" ∷ []) ((unit u.Program (name 0 1 9) ((declares (declaration (Integer Eight) [] ((entity (name 1 1 26) None None) ∷ []))) ∷
    []) (statements (acts (at 1 29) (assign (parts (name 1 1 29) bare no_parts) (four (at 1 33) 1))) (statements (selects (at 1 36) (designator (parts
    (name 1 1 49) bare no_parts)) (case_block (at 1 53) (values ((one (chain (four (at 1 59) 2147483647) (more o.Add (four (at 1 72) 1) no_more))) ∷ []))
    no_statements no_cases)) no_statements)) []) ∷ [])) (looks (((1, One 0) ∷ []) ∷ [])) (0 ∷ [])

--     module m; type t; integer :: c = 3000000000_8; end type; end
--     program p; end
-- 1:34: T2
abbrev pub t2_60 : Type 0
t2_60 = Finds (Some (broken 5 T2 1 34 None))
    (program (codes "m" ∷ codes "t" ∷ codes "c" ∷ codes "p" ∷ []) ((unit u.Module (name 0 1 8) ((type_definition (name 1 1 16) false ((declaration (Integer
    Four) [] ((entity (name 2 1 30) None (Some (eight (at 1 34) 3000000000))) ∷ [])) ∷ []) []) ∷ []) no_statements []) ∷ (unit u.Program (name 3 2 9) []
    no_statements []) ∷ [])) (looks (((1, One 0) ∷ []) ∷ [] ∷ [])) (0 ∷ 1 ∷ [])

--     module m; contains; subroutine s(); associate (z => 1); print *, z; end associate; end; subroutine t(); integer, parameter :: k = 2
--     integer, parameter :: l = k; integer :: a(l) = [1, 2, 3]; end; end
--     program p; end
-- 2:48: T2
abbrev pub t2_61 : Type 0
t2_61 = Finds (Some (broken 5 T2 2 48 None))
    (program (codes "m" ∷ codes "s" ∷ codes "z" ∷ codes "print" ∷ codes "t" ∷ codes "k" ∷ codes "l" ∷ codes "a" ∷ codes "p" ∷ []) ((unit u.Module (name 0 1 8)
    [] no_statements ((procedure false Subroutine (name 1 1 32) [] [] (statements (associates (at 1 37) ((association (name 2 1 48) (four (at 1 53) 1)) ∷
    []) (statements (acts (at 1 57) (print ((designator (parts (name 2 1 66) bare no_parts)) ∷ []))) no_statements)) no_statements)) ∷ (procedure false
    Subroutine (name 4 1 100) [] ((declares (declaration (Integer Four) (parameter ∷ []) ((entity (name 5 1 127) None (Some (four (at 1 131) 2))) ∷ [])))
    ∷ (declares (declaration (Integer Four) (parameter ∷ []) ((entity (name 6 2 23) None (Some (designator (parts (name 5 2 27) bare no_parts)))) ∷ [])))
    ∷ (declares (declaration (Integer Four) [] ((entity (name 7 2 41) (Some (explicit ((bounds None (designator (parts (name 6 2 43) bare no_parts))) ∷
    []))) (Some (array (at 2 48) (trees (four (at 2 49) 1) (trees (four (at 2 52) 2) (trees (four (at 2 55) 3) no_trees)))))) ∷ []))) ∷ []) no_statements)
    ∷ [])) ∷ (unit u.Program (name 8 3 9) [] no_statements []) ∷ [])) (looks (((1, One 0) ∷ (4, One 1) ∷ []) ∷ ((1, One 0) ∷ (4, One 1) ∷ []) ∷ ((
      1,
      One
          0,
    ) ∷ (2, One 2) ∷ (4, One 1) ∷ []) ∷ ((1, One 0) ∷ (4, One 1) ∷ (5, One 3) ∷ (6, One 4) ∷ (7, One 5) ∷ []) ∷ [] ∷ [])) (0 ∷ 1 ∷ [])

--     program p; associate (z => 1); select case (1); case (z); end select; end associate; end
-- 1:55: T2
abbrev pub t2_62 : Type 0
t2_62 = Finds (Some (broken 6 T2 1 55 None))
    (program (codes "p" ∷ codes "z" ∷ []) ((unit u.Program (name 0 1 9) [] (statements (associates (at 1 12) ((association (name 1 1 23) (four (at 1 28) 1)) ∷
    []) (statements (selects (at 1 32) (four (at 1 45) 1) (case_block (at 1 49) (values ((one (designator (parts (name 1 1 55) bare no_parts))) ∷ []))
    no_statements no_cases)) no_statements)) no_statements) []) ∷ [])) (looks ([] ∷ ((1, One 0) ∷ []) ∷ [])) (0 ∷ [])

--     program p; integer, parameter :: n = 1; associate (n => 2); select case (1); case (n); end select; end associate; end
-- 1:84: T2
abbrev pub t2_63 : Type 0
t2_63 = Finds (Some (broken 6 T2 1 84 None))
    (program (codes "p" ∷ codes "n" ∷ []) ((unit u.Program (name 0 1 9) ((declares (declaration (Integer Four) (parameter ∷ []) ((entity (name 1 1 34) None
    (Some (four (at 1 38) 1))) ∷ []))) ∷ []) (statements (associates (at 1 41) ((association (name 1 1 52) (four (at 1 57) 2)) ∷ []) (statements (selects
    (at 1 61) (four (at 1 74) 1) (case_block (at 1 78) (values ((one (designator (parts (name 1 1 84) bare no_parts))) ∷ [])) no_statements no_cases))
    no_statements)) no_statements) []) ∷ [])) (looks (((1, One 0) ∷ []) ∷ ((1, One 1) ∷ []) ∷ [])) (0 ∷ [])

--     program p; integer(8) :: n = 2147483647 + 1 + 1_8; end
-- 1:30: T2
abbrev pub t2_64 : Type 0
t2_64 = Finds (Some (broken 5 T2 1 30 None))
    (program (codes "p" ∷ codes "n" ∷ []) ((unit u.Program (name 0 1 9) ((declares (declaration (Integer Eight) [] ((entity (name 1 1 26) None (Some (chain
    (four (at 1 30) 2147483647) (more o.Add (four (at 1 43) 1) (more o.Add (eight (at 1 47) 1) no_more))))) ∷ []))) ∷ []) no_statements []) ∷ [])) (looks
    (((1, One 0) ∷ []) ∷ [])) (0 ∷ [])

--     program p; integer(8) :: n = 0_8 ** (-1); end
-- 1:30: T2
abbrev pub t2_65 : Type 0
t2_65 = Finds (Some (broken 5 T2 1 30 None))
    (program (codes "p" ∷ codes "n" ∷ []) ((unit u.Program (name 0 1 9) ((declares (declaration (Integer Eight) [] ((entity (name 1 1 26) None (Some (chain
    (eight (at 1 30) 0) (more o.Power (group (at 1 37) (signed (at 1 38) Minus (four (at 1 39) 1))) no_more)))) ∷ []))) ∷ []) no_statements []) ∷ []))
    (looks (((1, One 0) ∷ []) ∷ [])) (0 ∷ [])

--     program p; integer(8) :: n = (-9223372036854775807_8 - 1) / (-1); end
-- 1:30: T2
abbrev pub t2_66 : Type 0
t2_66 = Finds (Some (broken 5 T2 1 30 None))
    (program (codes "p" ∷ codes "n" ∷ []) ((unit u.Program (name 0 1 9) ((declares (declaration (Integer Eight) [] ((entity (name 1 1 26) None (Some (chain
    (group (at 1 30) (chain (signed (at 1 31) Minus (eight (at 1 32) 9223372036854775807)) (more o.Subtract (four (at 1 56) 1) no_more))) (more o.Divide
    (group (at 1 61) (signed (at 1 62) Minus (four (at 1 63) 1))) no_more)))) ∷ []))) ∷ []) no_statements []) ∷ [])) (looks (((1, One 0) ∷ []) ∷ [])) (0 ∷
    [])

--     program p; integer(8) :: n = -(-9223372036854775807_8 - 1); end
-- 1:30: T2
abbrev pub t2_67 : Type 0
t2_67 = Finds (Some (broken 5 T2 1 30 None))
    (program (codes "p" ∷ codes "n" ∷ []) ((unit u.Program (name 0 1 9) ((declares (declaration (Integer Eight) [] ((entity (name 1 1 26) None (Some (signed
    (at 1 30) Minus (group (at 1 31) (chain (signed (at 1 32) Minus (eight (at 1 33) 9223372036854775807)) (more o.Subtract (four (at 1 57) 1)
    no_more)))))) ∷ []))) ∷ []) no_statements []) ∷ [])) (looks (((1, One 0) ∷ []) ∷ [])) (0 ∷ [])

--     program p; integer, parameter :: k = 2147483647_8; integer(8) :: n = k + 1; end
-- 1:70: T2
abbrev pub t2_68 : Type 0
t2_68 = Finds (Some (broken 5 T2 1 70 None))
    (program (codes "p" ∷ codes "k" ∷ codes "n" ∷ []) ((unit u.Program (name 0 1 9) ((declares (declaration (Integer Four) (parameter ∷ []) ((entity (name 1 1
    34) None (Some (eight (at 1 38) 2147483647))) ∷ []))) ∷ (declares (declaration (Integer Eight) [] ((entity (name 2 1 66) None (Some (chain (designator
    (parts (name 1 1 70) bare no_parts)) (more o.Add (four (at 1 74) 1) no_more)))) ∷ []))) ∷ []) no_statements []) ∷ [])) (looks (((1, One 0) ∷ (
      2,
      One
          1,
    ) ∷ []) ∷ [])) (0 ∷ [])

--     program p; use m; integer :: n = k; end
--     module m; integer(8), parameter :: k = 2147483648_8; end
-- 1:34: T2
abbrev pub t2_69 : Type 0
t2_69 = Finds (Some (broken 5 T2 1 34 None))
    (program (codes "p" ∷ codes "n" ∷ codes "k" ∷ codes "m" ∷ []) ((unit u.Program (name 0 1 9) ((declares (declaration (Integer Four) [] ((entity (name 1 1
    30) None (Some (designator (parts (name 2 1 34) bare no_parts)))) ∷ []))) ∷ []) no_statements []) ∷ (unit u.Module (name 3 2 8) ((declares
    (declaration (Integer Eight) (parameter ∷ []) ((entity (name 2 2 36) None (Some (eight (at 2 40) 2147483648))) ∷ []))) ∷ []) no_statements []) ∷ []))
    (looks (((1, One 0) ∷ (2, One 1) ∷ []) ∷ ((2, One 1) ∷ []) ∷ [])) (1 ∷ 0 ∷ [])

--     program p; use m; integer :: n = k; end
--     module m; integer, parameter :: k = 2147483648_8; end
-- 1:34: T2
abbrev pub t2_70 : Type 0
t2_70 = Finds (Some (broken 5 T2 1 34 None))
    (program (codes "p" ∷ codes "n" ∷ codes "k" ∷ codes "m" ∷ []) ((unit u.Program (name 0 1 9) ((declares (declaration (Integer Four) [] ((entity (name 1 1
    30) None (Some (designator (parts (name 2 1 34) bare no_parts)))) ∷ []))) ∷ []) no_statements []) ∷ (unit u.Module (name 3 2 8) ((declares
    (declaration (Integer Four) (parameter ∷ []) ((entity (name 2 2 33) None (Some (eight (at 2 37) 2147483648))) ∷ []))) ∷ []) no_statements []) ∷ []))
    (looks (((1, One 0) ∷ (2, One 1) ∷ []) ∷ ((2, One 1) ∷ []) ∷ [])) (1 ∷ 0 ∷ [])

abbrev pub T2CShow : Type 0
T2CShow = t2_47 × t2_48 × t2_49 × t2_50 × t2_51 × t2_52 × t2_53 × t2_54 × t2_55 × t2_56 × t2_57 × t2_58 × t2_59 × t2_60 × t2_61 × t2_62 × t2_63 × t2_64 ×
    t2_65 × t2_66 × t2_67 × t2_68 × t2_69 × t2_70
