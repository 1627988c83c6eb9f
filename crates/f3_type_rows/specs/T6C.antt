-- Programs, each in the text above it, with what refuses it.
use Rattle.std.specs.Prelude.{true, false, [], ◌∷◌, None, Some, codes}
use Rattle.f3_lookups.specs.declared.lookup.Lookup.TheVariants.{One}
use Rattle.f3_rules.specs.declared.rule.Rule.TheVariants.{T6}
use Rattle.f3_tree.specs.declared.expression.Operator.TheVariants as o
use Rattle.f3_tree.specs.declared.expression.IntegerKind.TheVariants.{Four, Eight}
use Rattle.f3_tree.specs.declared.declaration.Intent.TheVariants.{In}
use Rattle.f3_tree.specs.declared.declaration.TypeSpecifier.TheVariants.{Integer, Logical, Derived}
use Rattle.f3_tree.specs.declared.program.ProcedureKind.TheVariants.{Subroutine, Function}
use Rattle.f3_tree.specs.declared.program.UnitKind.TheVariants as u
use Rattle.f3_tree.specs.Expressions.{truth, text, designator, array, negation, chain, no_more, more, no_trees, trees, no_parts, parts}
use Rattle.f3_tree.specs.Expressions.{bare, within, no_arguments}
use Rattle.f3_tree.specs.Declarations.{intent, declares}
use Rattle.f3_tree.specs.Statements.{assign, print, return, one, values, default}
use Rattle.f3_tree.specs.Statements.{counted, acts, acts_if, branches, selects, repeats, associates, no_statements, statements}
use Rattle.f3_tree.specs.Statements.{no_branches, branch, alternative, no_cases, case_block}
use Rattle.f3_type_rows.specs.Build.{Finds, at, name, four, eight, entity, declaration, type_definition, procedure, unit, association, program, looks, broken}

--     module m; contains; integer(8) function f(); f = 1; end; end
--     program p; use m; print *, [f(), 1]; end
-- 2:34: T6
abbrev pub t6_39 : Type 0
t6_39 = Finds (Some (broken 6 T6 2 34 None))
    (program (codes "m" ∷ codes "f" ∷ codes "p" ∷ codes "print" ∷ []) ((unit u.Module (name 0 1 8) [] no_statements ((procedure false (Function (Some (Integer
    Eight)) None) (name 1 1 41) [] [] (statements (acts (at 1 46) (assign (parts (name 1 1 46) bare no_parts) (four (at 1 50) 1))) no_statements)) ∷ []))
    ∷ (unit u.Program (name 2 2 9) [] (statements (acts (at 2 19) (print ((array (at 2 28) (trees (designator (parts (name 1 2 29) (within no_arguments)
    no_parts)) (trees (four (at 2 34) 1) no_trees))) ∷ []))) no_statements) []) ∷ [])) (looks (((1, One 0) ∷ []) ∷ ((1, One 1) ∷ []) ∷ ((1, One 0) ∷ []) ∷
    [])) (0 ∷ 1 ∷ [])

--     program p; print *, .not. 1_8; end
-- 1:27: T6
abbrev pub t6_40 : Type 0
t6_40 = Finds (Some (broken 6 T6 1 27 None))
    (program (codes "p" ∷ codes "print" ∷ []) ((unit u.Program (name 0 1 9) [] (statements (acts (at 1 12) (print ((negation (at 1 21) (eight (at 1 27) 1)) ∷
    []))) no_statements) []) ∷ [])) (looks ([] ∷ [])) (0 ∷ [])

--     program p; if (1_8) print *, 1; end
-- 1:16: T6
abbrev pub t6_41 : Type 0
t6_41 = Finds (Some (broken 6 T6 1 16 None))
    (program (codes "p" ∷ codes "print" ∷ []) ((unit u.Program (name 0 1 9) [] (statements (acts_if (at 1 12) (eight (at 1 16) 1) (at 1 21) (print ((four (at
    1 30) 1) ∷ []))) no_statements) []) ∷ [])) (looks ([] ∷ [])) (0 ∷ [])

--     program p; associate (z => 'a'); print *, 1; end associate; end
-- 1:28: T6
abbrev pub t6_42 : Type 0
t6_42 = Finds (Some (broken 6 T6 1 28 None))
    (program (codes "p" ∷ codes "z" ∷ codes "print" ∷ []) ((unit u.Program (name 0 1 9) [] (statements (associates (at 1 12) ((association (name 1 1 23) (text
    (at 1 28) 0)) ∷ []) (statements (acts (at 1 34) (print ((four (at 1 43) 1) ∷ []))) no_statements)) no_statements) []) ∷ [])) (looks ([] ∷ ((1, One 0)
    ∷ []) ∷ [])) (0 ∷ [])

--     program p; integer :: i, z; associate (z => .true.); i = z + 1; end associate; end
-- 1:58: T6
abbrev pub t6_43 : Type 0
t6_43 = Finds (Some (broken 6 T6 1 58 None))
    (program (codes "p" ∷ codes "i" ∷ codes "z" ∷ []) ((unit u.Program (name 0 1 9) ((declares (declaration (Integer Four) [] ((entity (name 1 1 23) None
    None) ∷ (entity (name 2 1 26) None None) ∷ []))) ∷ []) (statements (associates (at 1 29) ((association (name 2 1 40) (truth (at 1 45) true)) ∷ [])
    (statements (acts (at 1 54) (assign (parts (name 1 1 54) bare no_parts) (chain (designator (parts (name 2 1 58) bare no_parts)) (more o.Add (four (at
    1 62) 1) no_more)))) no_statements)) no_statements) []) ∷ [])) (looks (((1, One 0) ∷ (2, One 1) ∷ []) ∷ ((1, One 0) ∷ (2, One 2) ∷ []) ∷ [])) (0 ∷ [])

--     program p; associate (z => 1_8); print *, [z, 1]; end associate; end
-- 1:47: T6
abbrev pub t6_44 : Type 0
t6_44 = Finds (Some (broken 6 T6 1 47 None))
    (program (codes "p" ∷ codes "z" ∷ codes "print" ∷ []) ((unit u.Program (name 0 1 9) [] (statements (associates (at 1 12) ((association (name 1 1 23)
    (eight (at 1 28) 1)) ∷ []) (statements (acts (at 1 34) (print ((array (at 1 43) (trees (designator (parts (name 1 1 44) bare no_parts)) (trees (four
    (at 1 47) 1) no_trees))) ∷ []))) no_statements)) no_statements) []) ∷ [])) (looks ([] ∷ ((1, One 0) ∷ []) ∷ [])) (0 ∷ [])

--     module m; contains; subroutine s(b); logical, intent(in) :: b; integer :: i; if (b) then; associate (z => .true.); if (z) i = 1
--     end associate; else; associate (z => 1); if (z) i = 1; end associate; end if; end; end
--     program p; end
-- 2:46: T6
abbrev pub t6_45 : Type 0
t6_45 = Finds (Some (broken 6 T6 2 46 None))
    (program (codes "m" ∷ codes "s" ∷ codes "b" ∷ codes "i" ∷ codes "z" ∷ codes "p" ∷ []) ((unit u.Module (name 0 1 8) [] no_statements ((procedure false
    Subroutine (name 1 1 32) ((name 2 1 34) ∷ []) ((declares (declaration Logical ((intent In) ∷ []) ((entity (name 2 1 61) None None) ∷ []))) ∷ (declares
    (declaration (Integer Four) [] ((entity (name 3 1 75) None None) ∷ []))) ∷ []) (statements (branches (branch (at 1 78) (designator (parts (name 2 1
    82) bare no_parts)) (statements (associates (at 1 91) ((association (name 4 1 102) (truth (at 1 107) true)) ∷ []) (statements (acts_if (at 1 116)
    (designator (parts (name 4 1 120) bare no_parts)) (at 1 123) (assign (parts (name 3 1 123) bare no_parts) (four (at 1 127) 1))) no_statements))
    no_statements) no_branches) (alternative (statements (associates (at 2 22) ((association (name 4 2 33) (four (at 2 38) 1)) ∷ []) (statements (acts_if
    (at 2 42) (designator (parts (name 4 2 46) bare no_parts)) (at 2 49) (assign (parts (name 3 2 49) bare no_parts) (four (at 2 53) 1))) no_statements))
    no_statements))) no_statements)) ∷ [])) ∷ (unit u.Program (name 5 3 9) [] no_statements []) ∷ [])) (looks (((1, One 0) ∷ []) ∷ ((1, One 0) ∷ (
      2,
      One
          1,
    ) ∷ (3, One 2) ∷ []) ∷ ((1, One 0) ∷ (2, One 1) ∷ (3, One 2) ∷ (4, One 3) ∷ []) ∷ ((1, One 0) ∷ (2, One 1) ∷ (3, One 2) ∷ (4, One 4) ∷ []) ∷ [] ∷
    [])) (0 ∷ 1 ∷ [])

--     program p; integer :: i; i = 1; select case (i); case (1); associate (z => .false.); if (z) i = 2; end associate; case default
--     associate (z => 3); if (z) i = 4; end associate; end select; end
-- 2:25: T6
abbrev pub t6_46 : Type 0
t6_46 = Finds (Some (broken 6 T6 2 25 None))
    (program (codes "p" ∷ codes "i" ∷ codes "z" ∷ []) ((unit u.Program (name 0 1 9) ((declares (declaration (Integer Four) [] ((entity (name 1 1 23) None
    None) ∷ []))) ∷ []) (statements (acts (at 1 26) (assign (parts (name 1 1 26) bare no_parts) (four (at 1 30) 1))) (statements (selects (at 1 33)
    (designator (parts (name 1 1 46) bare no_parts)) (case_block (at 1 50) (values ((one (four (at 1 56) 1)) ∷ [])) (statements (associates (at 1 60)
    ((association (name 2 1 71) (truth (at 1 76) false)) ∷ []) (statements (acts_if (at 1 86) (designator (parts (name 2 1 90) bare no_parts)) (at 1 93)
    (assign (parts (name 1 1 93) bare no_parts) (four (at 1 97) 2))) no_statements)) no_statements) (case_block (at 1 115) default (statements (associates
    (at 2 1) ((association (name 2 2 12) (four (at 2 17) 3)) ∷ []) (statements (acts_if (at 2 21) (designator (parts (name 2 2 25) bare no_parts)) (at 2
    28) (assign (parts (name 1 2 28) bare no_parts) (four (at 2 32) 4))) no_statements)) no_statements) no_cases))) no_statements)) []) ∷ [])) (looks
    (((1, One 0) ∷ []) ∷ ((1, One 0) ∷ (2, One 1) ∷ []) ∷ ((1, One 0) ∷ (2, One 2) ∷ []) ∷ [])) (0 ∷ [])

--     program p; associate (z => .true.); if (z) print *, 1; end associate; associate (z => 1); associate (y => .true.); if (y) print *, 1
--     end associate; if (z) print *, 1; end associate; end
-- 2:20: T6
abbrev pub t6_47 : Type 0
t6_47 = Finds (Some (broken 6 T6 2 20 None))
    (program (codes "p" ∷ codes "z" ∷ codes "print" ∷ codes "y" ∷ []) ((unit u.Program (name 0 1 9) [] (statements (associates (at 1 12) ((association (name 1
    1 23) (truth (at 1 28) true)) ∷ []) (statements (acts_if (at 1 37) (designator (parts (name 1 1 41) bare no_parts)) (at 1 44) (print ((four (at 1 53)
    1) ∷ []))) no_statements)) (statements (associates (at 1 71) ((association (name 1 1 82) (four (at 1 87) 1)) ∷ []) (statements (associates (at 1 91)
    ((association (name 3 1 102) (truth (at 1 107) true)) ∷ []) (statements (acts_if (at 1 116) (designator (parts (name 3 1 120) bare no_parts)) (at 1
    123) (print ((four (at 1 132) 1) ∷ []))) no_statements)) (statements (acts_if (at 2 16) (designator (parts (name 1 2 20) bare no_parts)) (at 2 23)
    (print ((four (at 2 32) 1) ∷ []))) no_statements))) no_statements)) []) ∷ [])) (looks ([] ∷ ((1, One 0) ∷ []) ∷ ((1, One 1) ∷ []) ∷ ((1, One 1) ∷ (
      3,
      One 2,
    ) ∷ []) ∷ [])) (0 ∷ [])

--     module m; contains; subroutine s(); associate (z => .true.); if (z) return; end associate; end; subroutine t(); associate (z => 1)
--     if (z) return; end associate; end; end
--     program p; end
-- 2:5: T6
abbrev pub t6_48 : Type 0
t6_48 = Finds (Some (broken 6 T6 2 5 None))
    (program (codes "m" ∷ codes "s" ∷ codes "z" ∷ codes "return" ∷ codes "t" ∷ codes "p" ∷ []) ((unit u.Module (name 0 1 8) [] no_statements ((procedure false
    Subroutine (name 1 1 32) [] [] (statements (associates (at 1 37) ((association (name 2 1 48) (truth (at 1 53) true)) ∷ []) (statements (acts_if (at 1
    62) (designator (parts (name 2 1 66) bare no_parts)) (at 1 69) return) no_statements)) no_statements)) ∷ (procedure false Subroutine (name 4 1 108) []
    [] (statements (associates (at 1 113) ((association (name 2 1 124) (four (at 1 129) 1)) ∷ []) (statements (acts_if (at 2 1) (designator (parts (name 2
    2 5) bare no_parts)) (at 2 8) return) no_statements)) no_statements)) ∷ [])) ∷ (unit u.Program (name 5 3 9) [] no_statements []) ∷ [])) (looks (((
      1,
      One 0,
    ) ∷ (4, One 1) ∷ []) ∷ ((1, One 0) ∷ (4, One 1) ∷ []) ∷ ((1, One 0) ∷ (2, One 2) ∷ (4, One 1) ∷ []) ∷ ((1, One 0) ∷ (4, One 1) ∷ []) ∷ ((
      1,
      One
          0,
    ) ∷ (2, One 3) ∷ (4, One 1) ∷ []) ∷ [] ∷ [])) (0 ∷ 1 ∷ [])

--     program p; associate (z => .true.); if (z) print *, 1; end associate; end
--     module m; contains; subroutine t(); associate (z => 1); if (z) return; end associate; end; end
-- 2:61: T6
abbrev pub t6_49 : Type 0
t6_49 = Finds (Some (broken 6 T6 2 61 None))
    (program (codes "p" ∷ codes "z" ∷ codes "print" ∷ codes "m" ∷ codes "t" ∷ codes "return" ∷ []) ((unit u.Program (name 0 1 9) [] (statements (associates
    (at 1 12) ((association (name 1 1 23) (truth (at 1 28) true)) ∷ []) (statements (acts_if (at 1 37) (designator (parts (name 1 1 41) bare no_parts))
    (at 1 44) (print ((four (at 1 53) 1) ∷ []))) no_statements)) no_statements) []) ∷ (unit u.Module (name 3 2 8) [] no_statements ((procedure false
    Subroutine (name 4 2 32) [] [] (statements (associates (at 2 37) ((association (name 1 2 48) (four (at 2 53) 1)) ∷ []) (statements (acts_if (at 2 57)
    (designator (parts (name 1 2 61) bare no_parts)) (at 2 64) return) no_statements)) no_statements)) ∷ [])) ∷ [])) (looks ([] ∷ ((1, One 0) ∷ []) ∷ ((
      4,
      One 1,
    ) ∷ []) ∷ ((4, One 1) ∷ []) ∷ ((1, One 2) ∷ (4, One 1) ∷ []) ∷ [])) (0 ∷ 1 ∷ [])

--     module m; type t; integer :: c; end type; end
--     program p; use m; type(t) :: x; associate (z => x); print *, z%c, z; end associate; end
-- 2:67: T6
abbrev pub t6_50 : Type 0
t6_50 = Finds (Some (broken 6 T6 2 67 None))
    (program (codes "m" ∷ codes "t" ∷ codes "c" ∷ codes "p" ∷ codes "x" ∷ codes "z" ∷ codes "print" ∷ []) ((unit u.Module (name 0 1 8) ((type_definition (name
    1 1 16) false ((declaration (Integer Four) [] ((entity (name 2 1 30) None None) ∷ [])) ∷ []) []) ∷ []) no_statements []) ∷ (unit u.Program (name 3 2
    9) ((declares (declaration (Derived (name 1 2 24)) [] ((entity (name 4 2 30) None None) ∷ []))) ∷ []) (statements (associates (at 2 33) ((association
    (name 5 2 44) (designator (parts (name 4 2 49) bare no_parts))) ∷ []) (statements (acts (at 2 53) (print ((designator (parts (name 5 2 62) bare (parts
    (name 2 2 64) bare no_parts))) ∷ (designator (parts (name 5 2 67) bare no_parts)) ∷ []))) no_statements)) no_statements) []) ∷ [])) (looks (((
      1,
      One
          0,
    ) ∷ []) ∷ ((1, One 0) ∷ (4, One 1) ∷ []) ∷ ((1, One 0) ∷ (4, One 1) ∷ (5, One 2) ∷ []) ∷ [])) (0 ∷ 1 ∷ [])

--     program p; associate (z => 1); if (z) print *, 1; end associate; end
-- 1:36: T6
abbrev pub t6_51 : Type 0
t6_51 = Finds (Some (broken 6 T6 1 36 None))
    (program (codes "p" ∷ codes "z" ∷ codes "print" ∷ []) ((unit u.Program (name 0 1 9) [] (statements (associates (at 1 12) ((association (name 1 1 23) (four
    (at 1 28) 1)) ∷ []) (statements (acts_if (at 1 32) (designator (parts (name 1 1 36) bare no_parts)) (at 1 39) (print ((four (at 1 48) 1) ∷ [])))
    no_statements)) no_statements) []) ∷ [])) (looks ([] ∷ ((1, One 0) ∷ []) ∷ [])) (0 ∷ [])

--     program p; logical :: l; associate (y => 1, z => l); z = y; end associate; end
-- 1:58: T6
abbrev pub t6_52 : Type 0
t6_52 = Finds (Some (broken 6 T6 1 58 None))
    (program (codes "p" ∷ codes "l" ∷ codes "y" ∷ codes "z" ∷ []) ((unit u.Program (name 0 1 9) ((declares (declaration Logical [] ((entity (name 1 1 23) None
    None) ∷ []))) ∷ []) (statements (associates (at 1 26) ((association (name 2 1 37) (four (at 1 42) 1)) ∷ (association (name 3 1 45) (designator (parts
    (name 1 1 50) bare no_parts))) ∷ []) (statements (acts (at 1 54) (assign (parts (name 3 1 54) bare no_parts) (designator (parts (name 2 1 58) bare
    no_parts)))) no_statements)) no_statements) []) ∷ [])) (looks (((1, One 0) ∷ []) ∷ ((1, One 0) ∷ (2, One 1) ∷ (3, One 2) ∷ []) ∷ [])) (0 ∷ [])

--     program p; logical :: l; l = 1_8; end
-- 1:30: T6
abbrev pub t6_53 : Type 0
t6_53 = Finds (Some (broken 6 T6 1 30 None))
    (program (codes "p" ∷ codes "l" ∷ []) ((unit u.Program (name 0 1 9) ((declares (declaration Logical [] ((entity (name 1 1 23) None None) ∷ []))) ∷ [])
    (statements (acts (at 1 26) (assign (parts (name 1 1 26) bare no_parts) (eight (at 1 30) 1))) no_statements) []) ∷ [])) (looks (((1, One 0) ∷ []) ∷
    [])) (0 ∷ [])

--     program p; integer(8) :: i; i = .true.; end
-- 1:33: T6
abbrev pub t6_54 : Type 0
t6_54 = Finds (Some (broken 6 T6 1 33 None))
    (program (codes "p" ∷ codes "i" ∷ []) ((unit u.Program (name 0 1 9) ((declares (declaration (Integer Eight) [] ((entity (name 1 1 26) None None) ∷ []))) ∷
    []) (statements (acts (at 1 29) (assign (parts (name 1 1 29) bare no_parts) (truth (at 1 33) true))) no_statements) []) ∷ [])) (looks (((1, One 0) ∷
    []) ∷ [])) (0 ∷ [])

--     program p; integer(8) :: i; do i = 1, .true.; end do; end
-- 1:39: T6
abbrev pub t6_55 : Type 0
t6_55 = Finds (Some (broken 6 T6 1 39 None))
    (program (codes "p" ∷ codes "i" ∷ []) ((unit u.Program (name 0 1 9) ((declares (declaration (Integer Eight) [] ((entity (name 1 1 26) None None) ∷ []))) ∷
    []) (statements (repeats (at 1 29) (counted (name 1 1 32) (four (at 1 36) 1) (truth (at 1 39) true) None) no_statements) no_statements) []) ∷ []))
    (looks (((1, One 0) ∷ []) ∷ [])) (0 ∷ [])

--     program p; integer :: i; associate (z => 1); associate (z => .true.); i = z; end associate; end associate; end
-- 1:75: T6
abbrev pub t6_56 : Type 0
t6_56 = Finds (Some (broken 6 T6 1 75 None))
    (program (codes "p" ∷ codes "i" ∷ codes "z" ∷ []) ((unit u.Program (name 0 1 9) ((declares (declaration (Integer Four) [] ((entity (name 1 1 23) None
    None) ∷ []))) ∷ []) (statements (associates (at 1 26) ((association (name 2 1 37) (four (at 1 42) 1)) ∷ []) (statements (associates (at 1 46)
    ((association (name 2 1 57) (truth (at 1 62) true)) ∷ []) (statements (acts (at 1 71) (assign (parts (name 1 1 71) bare no_parts) (designator (parts
    (name 2 1 75) bare no_parts)))) no_statements)) no_statements)) no_statements) []) ∷ [])) (looks (((1, One 0) ∷ []) ∷ ((1, One 0) ∷ (2, One 1) ∷ []) ∷
    ((1, One 0) ∷ (2, One 2) ∷ []) ∷ [])) (0 ∷ [])

--     module m; contains; subroutine s(b); logical, intent(in) :: b; integer :: i; if (b) then; associate (x => 1); i = x; end associate
--     else if (.not. b) then; associate (y => 2); i = y; end associate; else; associate (w => .true.); i = w; end associate; end if; end; end
--     program p; end
-- 2:102: T6
abbrev pub t6_57 : Type 0
t6_57 = Finds (Some (broken 6 T6 2 102 None))
    (program (codes "m" ∷ codes "s" ∷ codes "b" ∷ codes "i" ∷ codes "x" ∷ codes "y" ∷ codes "w" ∷ codes "p" ∷ []) ((unit u.Module (name 0 1 8) []
    no_statements ((procedure false Subroutine (name 1 1 32) ((name 2 1 34) ∷ []) ((declares (declaration Logical ((intent In) ∷ []) ((entity (name 2 1
    61) None None) ∷ []))) ∷ (declares (declaration (Integer Four) [] ((entity (name 3 1 75) None None) ∷ []))) ∷ []) (statements (branches (branch (at 1
    78) (designator (parts (name 2 1 82) bare no_parts)) (statements (associates (at 1 91) ((association (name 4 1 102) (four (at 1 107) 1)) ∷ [])
    (statements (acts (at 1 111) (assign (parts (name 3 1 111) bare no_parts) (designator (parts (name 4 1 115) bare no_parts)))) no_statements))
    no_statements) (branch (at 2 1) (negation (at 2 10) (designator (parts (name 2 2 16) bare no_parts))) (statements (associates (at 2 25) ((association
    (name 5 2 36) (four (at 2 41) 2)) ∷ []) (statements (acts (at 2 45) (assign (parts (name 3 2 45) bare no_parts) (designator (parts (name 5 2 49) bare
    no_parts)))) no_statements)) no_statements) no_branches)) (alternative (statements (associates (at 2 73) ((association (name 6 2 84) (truth (at 2 89)
    true)) ∷ []) (statements (acts (at 2 98) (assign (parts (name 3 2 98) bare no_parts) (designator (parts (name 6 2 102) bare no_parts))))
    no_statements)) no_statements))) no_statements)) ∷ [])) ∷ (unit u.Program (name 7 3 9) [] no_statements []) ∷ [])) (looks (((1, One 0) ∷ []) ∷ ((
      1,
      One 0,
    ) ∷ (2, One 1) ∷ (3, One 2) ∷ []) ∷ ((1, One 0) ∷ (2, One 1) ∷ (3, One 2) ∷ (4, One 3) ∷ []) ∷ ((1, One 0) ∷ (2, One 1) ∷ (3, One 2) ∷ (5, One 4)
    ∷ []) ∷ ((1, One 0) ∷ (2, One 1) ∷ (3, One 2) ∷ (6, One 5) ∷ []) ∷ [] ∷ [])) (0 ∷ 1 ∷ [])

--     module m; contains; subroutine s(b); logical, intent(in) :: b; integer :: i; if (b) then; associate (x => 1); i = x; end associate
--     else if (.not. b) then; associate (y => .true.); i = y; end associate; else; associate (w => 2); i = w; end associate; end if; end; end
--     program p; end
-- 2:54: T6
abbrev pub t6_58 : Type 0
t6_58 = Finds (Some (broken 6 T6 2 54 None))
    (program (codes "m" ∷ codes "s" ∷ codes "b" ∷ codes "i" ∷ codes "x" ∷ codes "y" ∷ codes "w" ∷ codes "p" ∷ []) ((unit u.Module (name 0 1 8) []
    no_statements ((procedure false Subroutine (name 1 1 32) ((name 2 1 34) ∷ []) ((declares (declaration Logical ((intent In) ∷ []) ((entity (name 2 1
    61) None None) ∷ []))) ∷ (declares (declaration (Integer Four) [] ((entity (name 3 1 75) None None) ∷ []))) ∷ []) (statements (branches (branch (at 1
    78) (designator (parts (name 2 1 82) bare no_parts)) (statements (associates (at 1 91) ((association (name 4 1 102) (four (at 1 107) 1)) ∷ [])
    (statements (acts (at 1 111) (assign (parts (name 3 1 111) bare no_parts) (designator (parts (name 4 1 115) bare no_parts)))) no_statements))
    no_statements) (branch (at 2 1) (negation (at 2 10) (designator (parts (name 2 2 16) bare no_parts))) (statements (associates (at 2 25) ((association
    (name 5 2 36) (truth (at 2 41) true)) ∷ []) (statements (acts (at 2 50) (assign (parts (name 3 2 50) bare no_parts) (designator (parts (name 5 2 54)
    bare no_parts)))) no_statements)) no_statements) no_branches)) (alternative (statements (associates (at 2 78) ((association (name 6 2 89) (four (at 2
    94) 2)) ∷ []) (statements (acts (at 2 98) (assign (parts (name 3 2 98) bare no_parts) (designator (parts (name 6 2 102) bare no_parts))))
    no_statements)) no_statements))) no_statements)) ∷ [])) ∷ (unit u.Program (name 7 3 9) [] no_statements []) ∷ [])) (looks (((1, One 0) ∷ []) ∷ ((
      1,
      One 0,
    ) ∷ (2, One 1) ∷ (3, One 2) ∷ []) ∷ ((1, One 0) ∷ (2, One 1) ∷ (3, One 2) ∷ (4, One 3) ∷ []) ∷ ((1, One 0) ∷ (2, One 1) ∷ (3, One 2) ∷ (5, One 4)
    ∷ []) ∷ ((1, One 0) ∷ (2, One 1) ∷ (3, One 2) ∷ (6, One 5) ∷ []) ∷ [] ∷ [])) (0 ∷ 1 ∷ [])

abbrev pub T6CShow : Type 0
T6CShow = t6_39 × t6_40 × t6_41 × t6_42 × t6_43 × t6_44 × t6_45 × t6_46 × t6_47 × t6_48 × t6_49 × t6_50 × t6_51 × t6_52 × t6_53 × t6_54 × t6_55 × t6_56 ×
    t6_57 × t6_58
