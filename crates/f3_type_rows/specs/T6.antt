-- Programs, each in the text above it, with what refuses it.
use Rattle.std.specs.Prelude.{true, false, [], ◌∷◌, None, Some, codes}
use Rattle.f3_lookups.specs.declared.lookup.Lookup.TheVariants.{One}
use Rattle.f3_rules.specs.declared.rule.Rule.TheVariants.{T6}
use Rattle.f3_tree.specs.declared.expression.Sign.TheVariants.{Minus}
use Rattle.f3_tree.specs.declared.expression.Relation.TheVariants as r
use Rattle.f3_tree.specs.declared.expression.Operator.TheVariants as o
use Rattle.f3_tree.specs.declared.expression.IntegerKind.TheVariants.{Four}
use Rattle.f3_tree.specs.declared.declaration.TypeSpecifier.TheVariants.{Integer, Logical, Derived}
use Rattle.f3_tree.specs.declared.program.UnitKind.TheVariants as u
use Rattle.f3_tree.specs.Expressions.{truth, text, designator, group, array, signed, negation, comparison, chain, no_more, more, no_trees, trees}
use Rattle.f3_tree.specs.Expressions.{no_parts, parts}
use Rattle.f3_tree.specs.Expressions.{bare, within, no_arguments, arguments, value}
use Rattle.f3_tree.specs.Declarations.{explicit, protected, declares}
use Rattle.f3_tree.specs.Statements.{assign, print, one, values}
use Rattle.f3_tree.specs.Statements.{counted, while, acts, branches, selects, repeats, associates, no_statements, statements}
use Rattle.f3_tree.specs.Statements.{no_branches, branch, no_alternative, no_cases, case_block}
use Rattle.f3_type_rows.specs.Build.{Finds, at, name, four, bounds, entity, declaration, type_definition, unit, association, program, looks, broken}

--     module m; integer, protected :: n = 3; end
--     program p; use m; n = .true.; end
-- 2:23: T6
abbrev pub t6_1 : Type 0
t6_1 = Finds (Some (broken 6 T6 2 23 None))
    (program (codes "m" ∷ codes "n" ∷ codes "p" ∷ []) ((unit u.Module (name 0 1 8) ((declares (declaration (Integer Four) (protected ∷ []) ((entity (name 1 1
    33) None (Some (four (at 1 37) 3))) ∷ []))) ∷ []) no_statements []) ∷ (unit u.Program (name 2 2 9) [] (statements (acts (at 2 19) (assign (parts (name
    1 2 19) bare no_parts) (truth (at 2 23) true))) no_statements) []) ∷ [])) (looks (((1, One 0) ∷ []) ∷ ((1, One 0) ∷ []) ∷ [])) (0 ∷ 1 ∷ [])

--     program p; integer :: i; i = .true.; end
-- 1:30: T6
abbrev pub t6_2 : Type 0
t6_2 = Finds (Some (broken 6 T6 1 30 None))
    (program (codes "p" ∷ codes "i" ∷ []) ((unit u.Program (name 0 1 9) ((declares (declaration (Integer Four) [] ((entity (name 1 1 23) None None) ∷ []))) ∷
    []) (statements (acts (at 1 26) (assign (parts (name 1 1 26) bare no_parts) (truth (at 1 30) true))) no_statements) []) ∷ [])) (looks (((1, One 0) ∷
    []) ∷ [])) (0 ∷ [])

--     program p; integer :: x = 1 + 'a'; end
-- 1:31: T6
abbrev pub t6_3 : Type 0
t6_3 = Finds (Some (broken 6 T6 1 31 None))
    (program (codes "p" ∷ codes "x" ∷ []) ((unit u.Program (name 0 1 9) ((declares (declaration (Integer Four) [] ((entity (name 1 1 23) None (Some (chain
    (four (at 1 27) 1) (more o.Add (text (at 1 31) 0) no_more)))) ∷ []))) ∷ []) no_statements []) ∷ [])) (looks (((1, One 0) ∷ []) ∷ [])) (0 ∷ [])

--     module m; type t; integer :: i, j; end type; end
--     program p; use m; type(t) :: x; x = t(.true.); end
-- 2:39: T6
abbrev pub t6_4 : Type 0
t6_4 = Finds (Some (broken 6 T6 2 39 None))
    (program (codes "m" ∷ codes "t" ∷ codes "i" ∷ codes "j" ∷ codes "p" ∷ codes "x" ∷ []) ((unit u.Module (name 0 1 8) ((type_definition (name 1 1 16) false
    ((declaration (Integer Four) [] ((entity (name 2 1 30) None None) ∷ (entity (name 3 1 33) None None) ∷ [])) ∷ []) []) ∷ []) no_statements []) ∷ (unit
    u.Program (name 4 2 9) ((declares (declaration (Derived (name 1 2 24)) [] ((entity (name 5 2 30) None None) ∷ []))) ∷ []) (statements (acts (at 2 33)
    (assign (parts (name 5 2 33) bare no_parts) (designator (parts (name 1 2 37) (within (arguments (value None (truth (at 2 39) true)) no_arguments))
    no_parts)))) no_statements) []) ∷ [])) (looks (((1, One 0) ∷ []) ∷ ((1, One 0) ∷ (5, One 1) ∷ []) ∷ [])) (0 ∷ 1 ∷ [])

--     program p; associate (z => 'a'); z = 1; end associate; end
-- 1:28: T6
abbrev pub t6_5 : Type 0
t6_5 = Finds (Some (broken 6 T6 1 28 None))
    (program (codes "p" ∷ codes "z" ∷ []) ((unit u.Program (name 0 1 9) [] (statements (associates (at 1 12) ((association (name 1 1 23) (text (at 1 28) 0)) ∷
    []) (statements (acts (at 1 34) (assign (parts (name 1 1 34) bare no_parts) (four (at 1 38) 1))) no_statements)) no_statements) []) ∷ [])) (looks ([]
    ∷ ((1, One 0) ∷ []) ∷ [])) (0 ∷ [])

--     program p; integer :: i; associate (i => .true., j => i); j = 2; i = 1; end associate; end
-- 1:70: T6
abbrev pub t6_6 : Type 0
t6_6 = Finds (Some (broken 6 T6 1 70 None))
    (program (codes "p" ∷ codes "i" ∷ codes "j" ∷ []) ((unit u.Program (name 0 1 9) ((declares (declaration (Integer Four) [] ((entity (name 1 1 23) None
    None) ∷ []))) ∷ []) (statements (associates (at 1 26) ((association (name 1 1 37) (truth (at 1 42) true)) ∷ (association (name 2 1 50) (designator
    (parts (name 1 1 55) bare no_parts))) ∷ []) (statements (acts (at 1 59) (assign (parts (name 2 1 59) bare no_parts) (four (at 1 63) 2))) (statements
    (acts (at 1 66) (assign (parts (name 1 1 66) bare no_parts) (four (at 1 70) 1))) no_statements))) no_statements) []) ∷ [])) (looks (((1, One 0) ∷ [])
    ∷ ((1, One 1) ∷ (2, One 2) ∷ []) ∷ [])) (0 ∷ [])

--     program p; print *, .true. + undef; end
-- 1:21: T6
abbrev pub t6_7 : Type 0
t6_7 = Finds (Some (broken 6 T6 1 21 None))
    (program (codes "p" ∷ codes "print" ∷ codes "undef" ∷ []) ((unit u.Program (name 0 1 9) [] (statements (acts (at 1 12) (print ((chain (truth (at 1 21)
    true) (more o.Add (designator (parts (name 2 1 30) bare no_parts)) no_more)) ∷ []))) no_statements) []) ∷ [])) (looks ([] ∷ [])) (0 ∷ [])

--     module m; type t; integer :: i; end type; end
--     program p; use m; type(t) :: x; x = t(i=.true.); end
-- 2:41: T6
abbrev pub t6_8 : Type 0
t6_8 = Finds (Some (broken 6 T6 2 41 None))
    (program (codes "m" ∷ codes "t" ∷ codes "i" ∷ codes "p" ∷ codes "x" ∷ []) ((unit u.Module (name 0 1 8) ((type_definition (name 1 1 16) false ((declaration
    (Integer Four) [] ((entity (name 2 1 30) None None) ∷ [])) ∷ []) []) ∷ []) no_statements []) ∷ (unit u.Program (name 3 2 9) ((declares (declaration
    (Derived (name 1 2 24)) [] ((entity (name 4 2 30) None None) ∷ []))) ∷ []) (statements (acts (at 2 33) (assign (parts (name 4 2 33) bare no_parts)
    (designator (parts (name 1 2 37) (within (arguments (value (Some (name 2 2 39)) (truth (at 2 41) true)) no_arguments)) no_parts)))) no_statements) [])
    ∷ [])) (looks (((1, One 0) ∷ []) ∷ ((1, One 0) ∷ (4, One 1) ∷ []) ∷ [])) (0 ∷ 1 ∷ [])

--     program p; integer :: a(2) = [1, .true.]; end
-- 1:34: T6
abbrev pub t6_9 : Type 0
t6_9 = Finds (Some (broken 6 T6 1 34 None))
    (program (codes "p" ∷ codes "a" ∷ []) ((unit u.Program (name 0 1 9) ((declares (declaration (Integer Four) [] ((entity (name 1 1 23) (Some (explicit
    ((bounds None (four (at 1 25) 2)) ∷ []))) (Some (array (at 1 30) (trees (four (at 1 31) 1) (trees (truth (at 1 34) true) no_trees))))) ∷ []))) ∷ [])
    no_statements []) ∷ [])) (looks (((1, One 0) ∷ []) ∷ [])) (0 ∷ [])

--     program p; integer :: x = -(1 == 1); end
-- 1:28: T6
abbrev pub t6_10 : Type 0
t6_10 = Finds (Some (broken 6 T6 1 28 None))
    (program (codes "p" ∷ codes "x" ∷ []) ((unit u.Program (name 0 1 9) ((declares (declaration (Integer Four) [] ((entity (name 1 1 23) None (Some (signed
    (at 1 27) Minus (group (at 1 28) (comparison (four (at 1 29) 1) r.Equal (four (at 1 34) 1)))))) ∷ []))) ∷ []) no_statements []) ∷ [])) (looks (((
      1,
      One 0,
    ) ∷ []) ∷ [])) (0 ∷ [])

--     program p; logical :: l = .not. 3; end
-- 1:33: T6
abbrev pub t6_11 : Type 0
t6_11 = Finds (Some (broken 6 T6 1 33 None))
    (program (codes "p" ∷ codes "l" ∷ []) ((unit u.Program (name 0 1 9) ((declares (declaration Logical [] ((entity (name 1 1 23) None (Some (negation (at 1
    27) (four (at 1 33) 3)))) ∷ []))) ∷ []) no_statements []) ∷ [])) (looks (((1, One 0) ∷ []) ∷ [])) (0 ∷ [])

--     module m; type t; integer :: i; end type; end
--     program p; use m; type(t) :: x; select case (x); case (1); case (1); end select; end
-- 2:46: T6
abbrev pub t6_12 : Type 0
t6_12 = Finds (Some (broken 6 T6 2 46 None))
    (program (codes "m" ∷ codes "t" ∷ codes "i" ∷ codes "p" ∷ codes "x" ∷ []) ((unit u.Module (name 0 1 8) ((type_definition (name 1 1 16) false ((declaration
    (Integer Four) [] ((entity (name 2 1 30) None None) ∷ [])) ∷ []) []) ∷ []) no_statements []) ∷ (unit u.Program (name 3 2 9) ((declares (declaration
    (Derived (name 1 2 24)) [] ((entity (name 4 2 30) None None) ∷ []))) ∷ []) (statements (selects (at 2 33) (designator (parts (name 4 2 46) bare
    no_parts)) (case_block (at 2 50) (values ((one (four (at 2 56) 1)) ∷ [])) no_statements (case_block (at 2 60) (values ((one (four (at 2 66) 1)) ∷ []))
    no_statements no_cases))) no_statements) []) ∷ [])) (looks (((1, One 0) ∷ []) ∷ ((1, One 0) ∷ (4, One 1) ∷ []) ∷ [])) (0 ∷ 1 ∷ [])

--     program p; use m; print *, x; end
--     module m; type t; integer :: i; end type; type(t) :: x; end
-- 1:28: T6
abbrev pub t6_13 : Type 0
t6_13 = Finds (Some (broken 6 T6 1 28 None))
    (program (codes "p" ∷ codes "print" ∷ codes "x" ∷ codes "m" ∷ codes "t" ∷ codes "i" ∷ []) ((unit u.Program (name 0 1 9) [] (statements (acts (at 1 19)
    (print ((designator (parts (name 2 1 28) bare no_parts)) ∷ []))) no_statements) []) ∷ (unit u.Module (name 3 2 8) ((type_definition (name 4 2 16)
    false ((declaration (Integer Four) [] ((entity (name 5 2 30) None None) ∷ [])) ∷ []) []) ∷ (declares (declaration (Derived (name 4 2 48)) [] ((entity
    (name 2 2 54) None None) ∷ []))) ∷ []) no_statements []) ∷ [])) (looks (((2, One 1) ∷ (4, One 0) ∷ []) ∷ ((2, One 1) ∷ (4, One 0) ∷ []) ∷ [])) (1 ∷ 0
    ∷ [])

--     program p; use m; y = x; end
--     module m; type t; integer :: i; end type; type(t) :: x; integer :: t2; integer :: y; end
-- 1:23: T6
abbrev pub t6_14 : Type 0
t6_14 = Finds (Some (broken 6 T6 1 23 None))
    (program (codes "p" ∷ codes "y" ∷ codes "x" ∷ codes "m" ∷ codes "t" ∷ codes "i" ∷ codes "t2" ∷ []) ((unit u.Program (name 0 1 9) [] (statements (acts (at
    1 19) (assign (parts (name 1 1 19) bare no_parts) (designator (parts (name 2 1 23) bare no_parts)))) no_statements) []) ∷ (unit u.Module (name 3 2 8)
    ((type_definition (name 4 2 16) false ((declaration (Integer Four) [] ((entity (name 5 2 30) None None) ∷ [])) ∷ []) []) ∷ (declares (declaration
    (Derived (name 4 2 48)) [] ((entity (name 2 2 54) None None) ∷ []))) ∷ (declares (declaration (Integer Four) [] ((entity (name 6 2 68) None None) ∷
    []))) ∷ (declares (declaration (Integer Four) [] ((entity (name 1 2 83) None None) ∷ []))) ∷ []) no_statements []) ∷ [])) (looks (((1, One 3) ∷ (
      2,
      One 1,
    ) ∷ (4, One 0) ∷ (6, One 2) ∷ []) ∷ ((1, One 3) ∷ (2, One 1) ∷ (4, One 0) ∷ (6, One 2) ∷ []) ∷ [])) (1 ∷ 0 ∷ [])

--     program p; logical :: l; l = 1 == .true.; end
-- 1:35: T6
abbrev pub t6_15 : Type 0
t6_15 = Finds (Some (broken 6 T6 1 35 None))
    (program (codes "p" ∷ codes "l" ∷ []) ((unit u.Program (name 0 1 9) ((declares (declaration Logical [] ((entity (name 1 1 23) None None) ∷ []))) ∷ [])
    (statements (acts (at 1 26) (assign (parts (name 1 1 26) bare no_parts) (comparison (four (at 1 30) 1) r.Equal (truth (at 1 35) true))))
    no_statements) []) ∷ [])) (looks (((1, One 0) ∷ []) ∷ [])) (0 ∷ [])

--     program p; if (1) then; end if; end
-- 1:16: T6
abbrev pub t6_16 : Type 0
t6_16 = Finds (Some (broken 6 T6 1 16 None))
    (program (codes "p" ∷ []) ((unit u.Program (name 0 1 9) [] (statements (branches (branch (at 1 12) (four (at 1 16) 1) no_statements no_branches)
    no_alternative) no_statements) []) ∷ [])) (looks ([] ∷ [])) (0 ∷ [])

--     program p; if (.true.) then; else if (2) then; end if; end
-- 1:39: T6
abbrev pub t6_17 : Type 0
t6_17 = Finds (Some (broken 6 T6 1 39 None))
    (program (codes "p" ∷ []) ((unit u.Program (name 0 1 9) [] (statements (branches (branch (at 1 12) (truth (at 1 16) true) no_statements (branch (at 1 30)
    (four (at 1 39) 2) no_statements no_branches)) no_alternative) no_statements) []) ∷ [])) (looks ([] ∷ [])) (0 ∷ [])

--     program p; integer :: i; do while (i); end do; end
-- 1:36: T6
abbrev pub t6_18 : Type 0
t6_18 = Finds (Some (broken 6 T6 1 36 None))
    (program (codes "p" ∷ codes "i" ∷ []) ((unit u.Program (name 0 1 9) ((declares (declaration (Integer Four) [] ((entity (name 1 1 23) None None) ∷ []))) ∷
    []) (statements (repeats (at 1 26) (while (designator (parts (name 1 1 36) bare no_parts))) no_statements) no_statements) []) ∷ [])) (looks (((
      1,
      One
          0,
    ) ∷ []) ∷ [])) (0 ∷ [])

--     program p; logical :: i; do i = 1, 2; end do; end
-- 1:29: T6
abbrev pub t6_19 : Type 0
t6_19 = Finds (Some (broken 6 T6 1 29 None))
    (program (codes "p" ∷ codes "i" ∷ []) ((unit u.Program (name 0 1 9) ((declares (declaration Logical [] ((entity (name 1 1 23) None None) ∷ []))) ∷ [])
    (statements (repeats (at 1 26) (counted (name 1 1 29) (four (at 1 33) 1) (four (at 1 36) 2) None) no_statements) no_statements) []) ∷ [])) (looks
    (((1, One 0) ∷ []) ∷ [])) (0 ∷ [])

abbrev pub T6Show : Type 0
T6Show = t6_1 × t6_2 × t6_3 × t6_4 × t6_5 × t6_6 × t6_7 × t6_8 × t6_9 × t6_10 × t6_11 × t6_12 × t6_13 × t6_14 × t6_15 × t6_16 × t6_17 × t6_18 × t6_19
