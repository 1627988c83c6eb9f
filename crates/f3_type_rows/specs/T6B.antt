-- Programs, each in the text above it, with what refuses it.
use Rattle.std.specs.Prelude.{true, false, [], ◌∷◌, None, Some, codes}
use Rattle.f3_lookups.specs.declared.lookup.Lookup.TheVariants.{One}
use Rattle.f3_rules.specs.declared.rule.Rule.TheVariants.{T6}
use Rattle.f3_tree.specs.declared.expression.Sign.TheVariants.{Minus}
use Rattle.f3_tree.specs.declared.expression.Operator.TheVariants as o
use Rattle.f3_tree.specs.declared.expression.IntegerKind.TheVariants.{Four, Eight}
use Rattle.f3_tree.specs.declared.declaration.TypeSpecifier.TheVariants.{Integer, Logical, Derived}
use Rattle.f3_tree.specs.declared.program.UnitKind.TheVariants as u
use Rattle.f3_tree.specs.Expressions.{truth, text, designator, group, array, signed, chain, no_more, more, no_trees, trees, no_parts, parts}
use Rattle.f3_tree.specs.Expressions.{bare, within, no_arguments, arguments, value}
use Rattle.f3_tree.specs.Declarations.{explicit, deferred, parameter, allocatable, declares}
use Rattle.f3_tree.specs.Statements.{assign, deallocate, print}
use Rattle.f3_tree.specs.Statements.{counted, acts, repeats, no_statements, statements}
use Rattle.f3_type_rows.specs.Build.{Finds, at, name, four, eight, bounds, entity, declaration, type_definition, unit, program, looks, broken}

--     program p; integer :: i; do i = 1, .true.; end do; end
-- 1:36: T6
abbrev pub t6_20 : Type 0
t6_20 = Finds (Some (broken 6 T6 1 36 None))
    (program (codes "p" ∷ codes "i" ∷ []) ((unit u.Program (name 0 1 9) ((declares (declaration (Integer Four) [] ((entity (name 1 1 23) None None) ∷ []))) ∷
    []) (statements (repeats (at 1 26) (counted (name 1 1 29) (four (at 1 33) 1) (truth (at 1 36) true) None) no_statements) no_statements) []) ∷ []))
    (looks (((1, One 0) ∷ []) ∷ [])) (0 ∷ [])

--     program p; print *, 'a', 1 + 'b'; end
-- 1:30: T6
abbrev pub t6_21 : Type 0
t6_21 = Finds (Some (broken 6 T6 1 30 None))
    (program (codes "p" ∷ codes "print" ∷ []) ((unit u.Program (name 0 1 9) [] (statements (acts (at 1 12) (print ((text (at 1 21) 0) ∷ (chain (four (at 1 26)
    1) (more o.Add (text (at 1 30) 0) no_more)) ∷ []))) no_statements) []) ∷ [])) (looks ([] ∷ [])) (0 ∷ [])

--     program p; integer, allocatable :: a(:); logical :: l; deallocate(a, stat=l); end
-- 1:75: T6
abbrev pub t6_22 : Type 0
t6_22 = Finds (Some (broken 6 T6 1 75 None))
    (program (codes "p" ∷ codes "a" ∷ codes "l" ∷ codes "stat" ∷ codes "deallocate" ∷ []) ((unit u.Program (name 0 1 9) ((declares (declaration (Integer Four)
    (allocatable ∷ []) ((entity (name 1 1 36) (Some (deferred (None ∷ []))) None) ∷ []))) ∷ (declares (declaration Logical [] ((entity (name 2 1 53) None
    None) ∷ []))) ∷ []) (statements (acts (at 1 56) (deallocate ((parts (name 1 1 67) bare no_parts) ∷ []) (Some (parts (name 2 1 75) bare no_parts))))
    no_statements) []) ∷ [])) (looks (((1, One 0) ∷ (2, One 1) ∷ []) ∷ [])) (0 ∷ [])

--     program p; print *, [1, 2_8]; end
-- 1:25: T6
abbrev pub t6_23 : Type 0
t6_23 = Finds (Some (broken 6 T6 1 25 None))
    (program (codes "p" ∷ codes "print" ∷ []) ((unit u.Program (name 0 1 9) [] (statements (acts (at 1 12) (print ((array (at 1 21) (trees (four (at 1 22) 1)
    (trees (eight (at 1 25) 2) no_trees))) ∷ []))) no_statements) []) ∷ [])) (looks ([] ∷ [])) (0 ∷ [])

--     program p; print *, [1_8, 2, 3]; end
-- 1:27: T6
abbrev pub t6_24 : Type 0
t6_24 = Finds (Some (broken 6 T6 1 27 None))
    (program (codes "p" ∷ codes "print" ∷ []) ((unit u.Program (name 0 1 9) [] (statements (acts (at 1 12) (print ((array (at 1 21) (trees (eight (at 1 22) 1)
    (trees (four (at 1 27) 2) (trees (four (at 1 30) 3) no_trees)))) ∷ []))) no_statements) []) ∷ [])) (looks ([] ∷ [])) (0 ∷ [])

--     program p; print *, [1, 2, 3_8, .true.]; end
-- 1:28: T6
abbrev pub t6_25 : Type 0
t6_25 = Finds (Some (broken 6 T6 1 28 None))
    (program (codes "p" ∷ codes "print" ∷ []) ((unit u.Program (name 0 1 9) [] (statements (acts (at 1 12) (print ((array (at 1 21) (trees (four (at 1 22) 1)
    (trees (four (at 1 25) 2) (trees (eight (at 1 28) 3) (trees (truth (at 1 33) true) no_trees))))) ∷ []))) no_statements) []) ∷ [])) (looks ([] ∷ []))
    (0 ∷ [])

--     program p; integer(8) :: a(2); a = [1_8, 1]; end
-- 1:42: T6
abbrev pub t6_26 : Type 0
t6_26 = Finds (Some (broken 6 T6 1 42 None))
    (program (codes "p" ∷ codes "a" ∷ []) ((unit u.Program (name 0 1 9) ((declares (declaration (Integer Eight) [] ((entity (name 1 1 26) (Some (explicit
    ((bounds None (four (at 1 28) 2)) ∷ []))) None) ∷ []))) ∷ []) (statements (acts (at 1 32) (assign (parts (name 1 1 32) bare no_parts) (array (at 1 36)
    (trees (eight (at 1 37) 1) (trees (four (at 1 42) 1) no_trees))))) no_statements) []) ∷ [])) (looks (((1, One 0) ∷ []) ∷ [])) (0 ∷ [])

--     program p; integer(8) :: a(2) = [1, 2_8]; end
-- 1:37: T6
abbrev pub t6_27 : Type 0
t6_27 = Finds (Some (broken 6 T6 1 37 None))
    (program (codes "p" ∷ codes "a" ∷ []) ((unit u.Program (name 0 1 9) ((declares (declaration (Integer Eight) [] ((entity (name 1 1 26) (Some (explicit
    ((bounds None (four (at 1 28) 2)) ∷ []))) (Some (array (at 1 33) (trees (four (at 1 34) 1) (trees (eight (at 1 37) 2) no_trees))))) ∷ []))) ∷ [])
    no_statements []) ∷ [])) (looks (((1, One 0) ∷ []) ∷ [])) (0 ∷ [])

--     program p; print *, [abs(1_8), 1]; end
-- 1:32: T6
abbrev pub t6_28 : Type 0
t6_28 = Finds (Some (broken 6 T6 1 32 None))
    (program (codes "p" ∷ codes "print" ∷ codes "abs" ∷ []) ((unit u.Program (name 0 1 9) [] (statements (acts (at 1 12) (print ((array (at 1 21) (trees
    (designator (parts (name 2 1 22) (within (arguments (value None (eight (at 1 26) 1)) no_arguments)) no_parts)) (trees (four (at 1 32) 1) no_trees))) ∷
    []))) no_statements) []) ∷ [])) (looks ([] ∷ [])) (0 ∷ [])

--     program p; integer(8) :: a(2); print *, [size(a), 1_8]; end
-- 1:51: T6
abbrev pub t6_29 : Type 0
t6_29 = Finds (Some (broken 6 T6 1 51 None))
    (program (codes "p" ∷ codes "a" ∷ codes "print" ∷ codes "size" ∷ []) ((unit u.Program (name 0 1 9) ((declares (declaration (Integer Eight) [] ((entity
    (name 1 1 26) (Some (explicit ((bounds None (four (at 1 28) 2)) ∷ []))) None) ∷ []))) ∷ []) (statements (acts (at 1 32) (print ((array (at 1 41)
    (trees (designator (parts (name 3 1 42) (within (arguments (value None (designator (parts (name 1 1 47) bare no_parts))) no_arguments)) no_parts))
    (trees (eight (at 1 51) 1) no_trees))) ∷ []))) no_statements) []) ∷ [])) (looks (((1, One 0) ∷ []) ∷ [])) (0 ∷ [])

--     program p; integer(8) :: a(2); print *, [ubound(a, 1_8), 1_8]; end
-- 1:58: T6
abbrev pub t6_30 : Type 0
t6_30 = Finds (Some (broken 6 T6 1 58 None))
    (program (codes "p" ∷ codes "a" ∷ codes "print" ∷ codes "ubound" ∷ []) ((unit u.Program (name 0 1 9) ((declares (declaration (Integer Eight) [] ((entity
    (name 1 1 26) (Some (explicit ((bounds None (four (at 1 28) 2)) ∷ []))) None) ∷ []))) ∷ []) (statements (acts (at 1 32) (print ((array (at 1 41)
    (trees (designator (parts (name 3 1 42) (within (arguments (value None (designator (parts (name 1 1 49) bare no_parts))) (arguments (value None (eight
    (at 1 52) 1)) no_arguments))) no_parts)) (trees (eight (at 1 58) 1) no_trees))) ∷ []))) no_statements) []) ∷ [])) (looks (((1, One 0) ∷ []) ∷ [])) (0
    ∷ [])

--     program p; print *, [mod(5_8, 3_8), 1]; end
-- 1:37: T6
abbrev pub t6_31 : Type 0
t6_31 = Finds (Some (broken 6 T6 1 37 None))
    (program (codes "p" ∷ codes "print" ∷ codes "mod" ∷ []) ((unit u.Program (name 0 1 9) [] (statements (acts (at 1 12) (print ((array (at 1 21) (trees
    (designator (parts (name 2 1 22) (within (arguments (value None (eight (at 1 26) 5)) (arguments (value None (eight (at 1 31) 3)) no_arguments)))
    no_parts)) (trees (four (at 1 37) 1) no_trees))) ∷ []))) no_statements) []) ∷ [])) (looks ([] ∷ [])) (0 ∷ [])

--     program p; print *, [max(1_8, 2_8), 1]; end
-- 1:37: T6
abbrev pub t6_32 : Type 0
t6_32 = Finds (Some (broken 6 T6 1 37 None))
    (program (codes "p" ∷ codes "print" ∷ codes "max" ∷ []) ((unit u.Program (name 0 1 9) [] (statements (acts (at 1 12) (print ((array (at 1 21) (trees
    (designator (parts (name 2 1 22) (within (arguments (value None (eight (at 1 26) 1)) (arguments (value None (eight (at 1 31) 2)) no_arguments)))
    no_parts)) (trees (four (at 1 37) 1) no_trees))) ∷ []))) no_statements) []) ∷ [])) (looks ([] ∷ [])) (0 ∷ [])

--     program p; print *, [1 + 1_8, 1]; end
-- 1:31: T6
abbrev pub t6_33 : Type 0
t6_33 = Finds (Some (broken 6 T6 1 31 None))
    (program (codes "p" ∷ codes "print" ∷ []) ((unit u.Program (name 0 1 9) [] (statements (acts (at 1 12) (print ((array (at 1 21) (trees (chain (four (at 1
    22) 1) (more o.Add (eight (at 1 26) 1) no_more)) (trees (four (at 1 31) 1) no_trees))) ∷ []))) no_statements) []) ∷ [])) (looks ([] ∷ [])) (0 ∷ [])

--     program p; print *, [-1_8, 1]; end
-- 1:28: T6
abbrev pub t6_34 : Type 0
t6_34 = Finds (Some (broken 6 T6 1 28 None))
    (program (codes "p" ∷ codes "print" ∷ []) ((unit u.Program (name 0 1 9) [] (statements (acts (at 1 12) (print ((array (at 1 21) (trees (signed (at 1 22)
    Minus (eight (at 1 23) 1)) (trees (four (at 1 28) 1) no_trees))) ∷ []))) no_statements) []) ∷ [])) (looks ([] ∷ [])) (0 ∷ [])

--     program p; print *, [(1_8), 1]; end
-- 1:29: T6
abbrev pub t6_35 : Type 0
t6_35 = Finds (Some (broken 6 T6 1 29 None))
    (program (codes "p" ∷ codes "print" ∷ []) ((unit u.Program (name 0 1 9) [] (statements (acts (at 1 12) (print ((array (at 1 21) (trees (group (at 1 22)
    (eight (at 1 23) 1)) (trees (four (at 1 29) 1) no_trees))) ∷ []))) no_statements) []) ∷ [])) (looks ([] ∷ [])) (0 ∷ [])

--     program p; integer(8), parameter :: n = 1; print *, [n, 1]; end
-- 1:57: T6
abbrev pub t6_36 : Type 0
t6_36 = Finds (Some (broken 6 T6 1 57 None))
    (program (codes "p" ∷ codes "n" ∷ codes "print" ∷ []) ((unit u.Program (name 0 1 9) ((declares (declaration (Integer Eight) (parameter ∷ []) ((entity
    (name 1 1 37) None (Some (four (at 1 41) 1))) ∷ []))) ∷ []) (statements (acts (at 1 44) (print ((array (at 1 53) (trees (designator (parts (name 1 1
    54) bare no_parts)) (trees (four (at 1 57) 1) no_trees))) ∷ []))) no_statements) []) ∷ [])) (looks (((1, One 0) ∷ []) ∷ [])) (0 ∷ [])

--     module m; type t; integer(8) :: c; end type; end
--     program p; use m; type(t) :: x; x = t(1); print *, [x%c, 1]; end
-- 2:58: T6
abbrev pub t6_37 : Type 0
t6_37 = Finds (Some (broken 6 T6 2 58 None))
    (program (codes "m" ∷ codes "t" ∷ codes "c" ∷ codes "p" ∷ codes "x" ∷ codes "print" ∷ []) ((unit u.Module (name 0 1 8) ((type_definition (name 1 1 16)
    false ((declaration (Integer Eight) [] ((entity (name 2 1 33) None None) ∷ [])) ∷ []) []) ∷ []) no_statements []) ∷ (unit u.Program (name 3 2 9)
    ((declares (declaration (Derived (name 1 2 24)) [] ((entity (name 4 2 30) None None) ∷ []))) ∷ []) (statements (acts (at 2 33) (assign (parts (name 4
    2 33) bare no_parts) (designator (parts (name 1 2 37) (within (arguments (value None (four (at 2 39) 1)) no_arguments)) no_parts)))) (statements (acts
    (at 2 43) (print ((array (at 2 52) (trees (designator (parts (name 4 2 53) bare (parts (name 2 2 55) bare no_parts))) (trees (four (at 2 58) 1)
    no_trees))) ∷ []))) no_statements)) []) ∷ [])) (looks (((1, One 0) ∷ []) ∷ ((1, One 0) ∷ (4, One 1) ∷ []) ∷ [])) (0 ∷ 1 ∷ [])

--     module m; type t; integer(8) :: c; end type; end
--     program p; use m; type(t) :: x; x = t(.true.); end
-- 2:39: T6
abbrev pub t6_38 : Type 0
t6_38 = Finds (Some (broken 6 T6 2 39 None))
    (program (codes "m" ∷ codes "t" ∷ codes "c" ∷ codes "p" ∷ codes "x" ∷ []) ((unit u.Module (name 0 1 8) ((type_definition (name 1 1 16) false ((declaration
    (Integer Eight) [] ((entity (name 2 1 33) None None) ∷ [])) ∷ []) []) ∷ []) no_statements []) ∷ (unit u.Program (name 3 2 9) ((declares (declaration
    (Derived (name 1 2 24)) [] ((entity (name 4 2 30) None None) ∷ []))) ∷ []) (statements (acts (at 2 33) (assign (parts (name 4 2 33) bare no_parts)
    (designator (parts (name 1 2 37) (within (arguments (value None (truth (at 2 39) true)) no_arguments)) no_parts)))) no_statements) []) ∷ [])) (looks
    (((1, One 0) ∷ []) ∷ ((1, One 0) ∷ (4, One 1) ∷ []) ∷ [])) (0 ∷ 1 ∷ [])

abbrev pub T6BShow : Type 0
T6BShow = t6_20 × t6_21 × t6_22 × t6_23 × t6_24 × t6_25 × t6_26 × t6_27 × t6_28 × t6_29 × t6_30 × t6_31 × t6_32 × t6_33 × t6_34 × t6_35 × t6_36 × t6_37 ×
    t6_38
