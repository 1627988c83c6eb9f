-- Programs, elaborated, with their sources above.
use Rattle.std.specs.Prelude.{pos, true, false, [], ◌∷◌, None, Some, codes, ◌≡◌}
use Rattle.std.specs.declared.alloc.Global.{Global}
use Rattle.f3_program.specs.declared.declarations.Base.TheVariants as base
use Rattle.f3_program.specs.declared.declarations.Constant.TheVariants as constant
use Rattle.f3_program.specs.declared.expression.Name.TheVariants as n
use Rattle.f3_program.specs.declared.expression.BinaryOperator.TheVariants as o
use Rattle.f3_program.specs.declared.expression.Query.TheVariants as query
use Rattle.f3_program.specs.declared.expression.Selection as l
use Rattle.f3_program.specs.declared.statement.Item.TheVariants as item
use Rattle.f3_program.specs.declared.statement.Statement as s
use Rattle.f3_program.specs.declared.program.Intent.TheVariants as intent
use Rattle.f3_program.specs.declared.program.Program.{Program}
use Rattle.f3_meaning_whole.specs.Run.{run_of}
use Rattle.f3_meaning_whole.specs.Permitted.{IsLawful}
use Rattle.f3_meaning_rows.specs.Shown.{granted, shown, lines, Finished, Failed, Stopped}
use Rattle.f3_meaning_rows.specs.Build.{vec, place, kind, dim, declared, comp, derived, final, num, truth, var, group, bin, struct, call, allocated}
use Rattle.f3_meaning_rows.specs.Build.{size, query as asks, val, ref, name, member, at, block, when, bounds, request, dummy, static, procedure}
use Rattle.f3_meaning_rows.specs.Build.{program}

--     program p; if (.false.) then
--     else if (1/0 == 1) then
--     end if; end
abbrev pub choice_59_1 : Global → Program
choice_59_1 h = program h [] tt
    [] tt
    [] tt
    (procedure h 0 [] tt [] tt None (block h (at h 1 12 true (when h (truth false) (block h [] tt)
    (at h 2 1 false (when h (bin h o.Equal base.Logical (bin h o.Divide base.Integer (num (pos 1)) (num (pos 0))) (num (pos 1))) (block h [] tt)
    (block h [] tt)))) ∷ []) tt) (place 3 9))
    (place 1 1)

--     module m; type t; integer :: i; contains; final :: f; end type; contains; subroutine f(x); type(t), intent(in) :: x(:); print *, size(x); end; end
--     program p; use m; type(t), allocatable :: v(:); allocate(v(0)); deallocate(v); end
abbrev pub choice_61_1 : Global → Program
choice_61_1 h = program h (derived h 0 (comp (declared h (kind base.Integer 0 false) [] tt [] tt) false ∷ []) tt (final 1 0 ∷ []) tt ∷ []) tt
    [] tt
    (procedure h 0 (dummy h (kind (base.Derived 0) 1 false) intent.In ((pos 1) ∷ []) tt ∷ []) tt [] tt None
    (block h (at h 1 121 true (s.Print (vec h (item.Value (size h (ref h 0 (name (n.Lent 0) l.Whole))) ∷ []) tt)) ∷ []) tt) (place 1 139) ∷ []) tt
    (procedure h 2 [] tt ((declared h (kind (base.Derived 0) 1 true) [] tt [] tt) ∷ []) tt None
    (block h (at h 2 49 true (s.Allocate (vec h (request h (name (n.Local 0) l.Whole) (kind (base.Derived 0) 1 true)
    (bounds (num (pos 1)) (num (pos 0)) ∷ []) tt ∷ []) tt) None)
    ∷ at h 2 65 true (s.Deallocate (vec h (request h (name (n.Local 0) l.Whole) (kind (base.Derived 0) 1 true) [] tt ∷ []) tt) None) ∷ []) tt) (place 2 80))
    (place 2 1)

--     program p; use m; integer :: i; i = 5; call s(i); print *, i; end
--     module m; contains; subroutine s(x); integer, intent(out) :: x; end; end
abbrev pub choice_62_1 : Global → Program
choice_62_1 h = program h [] tt
    [] tt
    (procedure h 1 (dummy h (kind base.Integer 0 false) intent.Out [] tt ∷ []) tt [] tt None (block h [] tt) (place 2 65) ∷ []) tt
    (procedure h 0 [] tt ((declared h (kind base.Integer 0 false) [] tt [] tt) ∷ []) tt None
    (block h (at h 1 33 true (s.Assign (name (n.Local 0) l.Whole) (kind base.Integer 0 false) (num (pos 5)))
    ∷ at h 1 40 true (s.Call (call h 0 (ref h 0 (name (n.Local 0) l.Whole) ∷ []) tt))
    ∷ at h 1 51 true (s.Print (vec h (item.Value (var h (name (n.Local 0) l.Whole)) ∷ []) tt)) ∷ []) tt) (place 1 63))
    (place 1 1)

--     module m; type t; integer, allocatable :: a(:); end type; end
--     program p; use m; type(t) :: x; integer, allocatable :: v(:); x = t(v); print *, allocated(x%a); allocate(v(3:4)); x = t(v); print *, lbound(x%a,1); x = t((v)); print *, lbound(x%a,1); deallocate(v); x = t((v)); end
abbrev pub choice_63_1 : Global → Program
choice_63_1 h = program h (derived h 0 (comp (declared h (kind base.Integer 1 true) [] tt [] tt) false ∷ []) tt [] tt ∷ []) tt
    [] tt
    [] tt
    (procedure h 1 [] tt ((declared h (kind (base.Derived 0) 0 false) [] tt [] tt) ∷ (declared h (kind base.Integer 1 true) [] tt [] tt) ∷ []) tt
    None (block h (at h 2 63 true (s.Assign (name (n.Local 0) l.Whole) (kind (base.Derived 0) 0 false)
    (struct h 0 (ref h 0 (name (n.Local 1) l.Whole) ∷ []) tt))
    ∷ at h 2 73 true (s.Print (vec h (item.Value (allocated h (member h (name (n.Local 0) l.Whole) 0 l.Whole)) ∷ []) tt))
    ∷ at h 2 98 true (s.Allocate (vec h (request h (name (n.Local 1) l.Whole) (kind base.Integer 1 true)
    (bounds (num (pos 3)) (num (pos 4)) ∷ []) tt ∷ []) tt) None)
    ∷ at h 2 116 true (s.Assign (name (n.Local 0) l.Whole) (kind (base.Derived 0) 0 false)
    (struct h 0 (ref h 0 (name (n.Local 1) l.Whole) ∷ []) tt))
    ∷ at h 2 126 true (s.Print (vec h (item.Value (asks h query.Lower (ref h 0 (member h (name (n.Local 0) l.Whole) 0 l.Contents)) (num (pos 1)))
    ∷ []) tt)) ∷ at h 2 150 true (s.Assign (name (n.Local 0) l.Whole) (kind (base.Derived 0) 0 false)
    (struct h 0 (val h 0 (group h (var h (name (n.Local 1) l.Contents))) ∷ []) tt))
    ∷ at h 2 162 true (s.Print (vec h (item.Value (asks h query.Lower (ref h 0 (member h (name (n.Local 0) l.Whole) 0 l.Contents)) (num (pos 1)))
    ∷ []) tt)) ∷ at h 2 186 true (s.Deallocate (vec h (request h (name (n.Local 1) l.Whole) (kind base.Integer 1 true) [] tt ∷ []) tt) None)
    ∷ at h 2 201 true (s.Assign (name (n.Local 0) l.Whole) (kind (base.Derived 0) 0 false)
    (struct h 0 (val h 0 (group h (var h (name (n.Local 1) l.Contents))) ∷ []) tt)) ∷ []) tt) (place 2 213))
    (place 2 1)

--     program p; use m; integer, allocatable :: a(:); a = f(); print *, lbound(a,1); end
--     module m; contains; function f(); integer, allocatable :: f(:); allocate(f(5:6)); f = 1; end; end
abbrev pub choice_64_1 : Global → Program
choice_64_1 h = program h [] tt
    [] tt
    (procedure h 1 [] tt [] tt (Some (declared h (kind base.Integer 1 true) [] tt [] tt))
    (block h (at h 2 65 true (s.Allocate (vec h (request h (name (n.Local 0) l.Whole) (kind base.Integer 1 true)
    (bounds (num (pos 5)) (num (pos 6)) ∷ []) tt ∷ []) tt) None)
    ∷ at h 2 83 true (s.Assign (name (n.Local 0) l.Whole) (kind base.Integer 1 true) (num (pos 1))) ∷ []) tt) (place 2 90) ∷ []) tt
    (procedure h 0 [] tt ((declared h (kind base.Integer 1 true) [] tt [] tt) ∷ []) tt None
    (block h (at h 1 49 true (s.Assign (name (n.Local 0) l.Whole) (kind base.Integer 1 true) (call h 0 [] tt))
    ∷ at h 1 58 true (s.Print (vec h (item.Value (asks h query.Lower (ref h 0 (name (n.Local 0) l.Contents)) (num (pos 1))) ∷ []) tt)) ∷ []) tt)
    (place 1 80))
    (place 1 1)

--     program p; stop 00; end
abbrev pub choice_67_1 : Global → Program
choice_67_1 h = program h [] tt
    [] tt
    [] tt
    (procedure h 0 [] tt [] tt None (block h (at h 1 12 true (s.Stop (Some 0)) ∷ []) tt) (place 1 21))
    (place 1 1)

--     program p; integer :: k(0); k = 3000000000_8; end
abbrev pub choice_79_1 : Global → Program
choice_79_1 h = program h [] tt
    [] tt
    [] tt
    (procedure h 0 [] tt ((declared h (kind base.Integer 1 false) (dim (pos 1) 0 ∷ []) tt [] tt) ∷ []) tt None
    (block h (at h 1 29 true (s.Assign (name (n.Local 0) l.Whole) (kind base.Integer 1 false) (num (pos 3000000000))) ∷ []) tt) (place 1 47))
    (place 1 1)

--     module m; integer :: n = 1; end
--     program p; use m; print *, n; end
abbrev pub scalar_02_print : Global → Program
scalar_02_print h = program h [] tt
    (static (declared h (kind base.Integer 0 false) [] tt ((constant.Number (pos 1)) ∷ []) tt) 0 false ∷ []) tt
    [] tt
    (procedure h 1 [] tt [] tt None (block h (at h 2 19 true (s.Print (vec h (item.Value (var h (name (n.Static 0) l.Whole)) ∷ []) tt)) ∷ []) tt) (place 2 31))
    (place 2 1)

--     program p; integer :: if; if = 3; print *, if; end
abbrev pub text_02_variable_if : Global → Program
text_02_variable_if h = program h [] tt
    [] tt
    [] tt
    (procedure h 0 [] tt ((declared h (kind base.Integer 0 false) [] tt [] tt) ∷ []) tt None
    (block h (at h 1 27 true (s.Assign (name (n.Local 0) l.Whole) (kind base.Integer 0 false) (num (pos 3)))
    ∷ at h 1 35 true (s.Print (vec h (item.Value (var h (name (n.Local 0) l.Whole)) ∷ []) tt)) ∷ []) tt) (place 1 48))
    (place 1 1)

--     ;; program p;; print *, 1 ;; end ;
abbrev pub usage_45_empty_statements : Global → Program
usage_45_empty_statements h = program h [] tt
    [] tt
    [] tt
    (procedure h 0 [] tt [] tt None (block h (at h 1 16 true (s.Print (vec h (item.Value (num (pos 1)) ∷ []) tt)) ∷ []) tt) (place 1 30))
    (place 1 4)

--     Program Main; Integer :: Abc = 2; PRINT *, aBC; End Program MAIN
abbrev pub usage_46_letter_case : Global → Program
usage_46_letter_case h = program h [] tt
    (static (declared h (kind base.Integer 0 false) [] tt ((constant.Number (pos 2)) ∷ []) tt) 0 false ∷ []) tt
    [] tt
    (procedure h 0 [] tt [] tt None (block h (at h 1 35 true (s.Print (vec h (item.Value (var h (name (n.Static 0) l.Whole)) ∷ []) tt)) ∷ []) tt) (place 1 49))
    (place 1 1)

--     program p; print *; print *, 1, 2; end
abbrev pub usage_47_empty_print : Global → Program
usage_47_empty_print h = program h [] tt
    [] tt
    [] tt
    (procedure h 0 [] tt [] tt None (block h (at h 1 12 true (s.Print (vec h [] tt))
    ∷ at h 1 21 true (s.Print (vec h (item.Value (num (pos 1)) ∷ item.Value (num (pos 2)) ∷ []) tt)) ∷ []) tt) (place 1 36))
    (place 1 1)

--     program p; print *, 1; stop; print *, 2; end
abbrev pub usage_49_stop_plain : Global → Program
usage_49_stop_plain h = program h [] tt
    [] tt
    [] tt
    (procedure h 0 [] tt [] tt None (block h (at h 1 12 true (s.Print (vec h (item.Value (num (pos 1)) ∷ []) tt)) ∷ at h 1 24 true (s.Stop None)
    ∷ at h 1 30 true (s.Print (vec h (item.Value (num (pos 2)) ∷ []) tt)) ∷ []) tt) (place 1 42))
    (place 1 1)

--     program p; print *, 1; stop 7; end
abbrev pub usage_50_stop_7 : Global → Program
usage_50_stop_7 h = program h [] tt
    [] tt
    [] tt
    (procedure h 0 [] tt [] tt None (block h (at h 1 12 true (s.Print (vec h (item.Value (num (pos 1)) ∷ []) tt)) ∷ at h 1 24 true (s.Stop (Some 7))
    ∷ []) tt) (place 1 32))
    (place 1 1)

--     program p; stop 00042; end
abbrev pub usage_51_stop_least_digits : Global → Program
usage_51_stop_least_digits h = program h [] tt
    [] tt
    [] tt
    (procedure h 0 [] tt [] tt None (block h (at h 1 12 true (s.Stop (Some 42)) ∷ []) tt) (place 1 24))
    (place 1 1)

--     program p; stop 0; end
abbrev pub usage_52_stop_0 : Global → Program
usage_52_stop_0 h = program h [] tt
    [] tt
    [] tt
    (procedure h 0 [] tt [] tt None (block h (at h 1 12 true (s.Stop (Some 0)) ∷ []) tt) (place 1 20))
    (place 1 1)

abbrev pub choice_59_1_shows : Global → Type 0
choice_59_1_shows h = shown (run_of (choice_59_1 h) 2000 granted) ≡ record { bytes = (lines []); verdict = Failed 2 2 1 }

abbrev pub choice_61_1_shows : Global → Type 0
choice_61_1_shows h = shown (run_of (choice_61_1 h) 2000 granted) ≡ record { bytes = (lines (codes " 0" ∷ [])); verdict = Finished }

abbrev pub choice_62_1_shows : Global → Type 0
choice_62_1_shows h = shown (run_of (choice_62_1 h) 2000 granted) ≡ record { bytes = (lines (codes " 0" ∷ [])); verdict = Finished }

abbrev pub choice_63_1_shows : Global → Type 0
choice_63_1_shows h = shown (run_of (choice_63_1 h) 2000 granted) ≡ record
    { bytes = (lines (codes " F" ∷ codes " 3" ∷ codes " 1" ∷ [])); verdict = Failed 4 2 201 }

abbrev pub choice_64_1_shows : Global → Type 0
choice_64_1_shows h = shown (run_of (choice_64_1 h) 2000 granted) ≡ record { bytes = (lines (codes " 1" ∷ [])); verdict = Finished }

abbrev pub choice_67_1_shows : Global → Type 0
choice_67_1_shows h = shown (run_of (choice_67_1 h) 2000 granted) ≡ record { bytes = (lines []); verdict = Stopped (Some 0) }

abbrev pub choice_79_1_shows : Global → Type 0
choice_79_1_shows h = shown (run_of (choice_79_1 h) 2000 granted) ≡ record { bytes = (lines []); verdict = Failed 1 1 29 }

abbrev pub scalar_02_print_shows : Global → Type 0
scalar_02_print_shows h = shown (run_of (scalar_02_print h) 2000 granted) ≡ record { bytes = (lines (codes " 1" ∷ [])); verdict = Finished }

abbrev pub text_02_variable_if_shows : Global → Type 0
text_02_variable_if_shows h = shown (run_of (text_02_variable_if h) 2000 granted) ≡ record { bytes = (lines (codes " 3" ∷ [])); verdict = Finished }

abbrev pub usage_45_empty_statements_shows : Global → Type 0
usage_45_empty_statements_shows h = shown (run_of (usage_45_empty_statements h) 2000 granted) ≡ record { bytes = (lines (codes " 1" ∷ [])); verdict = Finished }

abbrev pub usage_46_letter_case_shows : Global → Type 0
usage_46_letter_case_shows h = shown (run_of (usage_46_letter_case h) 2000 granted) ≡ record { bytes = (lines (codes " 2" ∷ [])); verdict = Finished }

abbrev pub usage_47_empty_print_shows : Global → Type 0
usage_47_empty_print_shows h = shown (run_of (usage_47_empty_print h) 2000 granted) ≡ record
    { bytes = (lines (codes "" ∷ codes " 1 2" ∷ [])); verdict = Finished }

abbrev pub usage_49_stop_plain_shows : Global → Type 0
usage_49_stop_plain_shows h = shown (run_of (usage_49_stop_plain h) 2000 granted) ≡ record { bytes = (lines (codes " 1" ∷ [])); verdict = Stopped None }

abbrev pub usage_50_stop_7_shows : Global → Type 0
usage_50_stop_7_shows h = shown (run_of (usage_50_stop_7 h) 2000 granted) ≡ record { bytes = (lines (codes " 1" ∷ [])); verdict = Stopped (Some 7) }

abbrev pub usage_51_stop_least_digits_shows : Global → Type 0
usage_51_stop_least_digits_shows h = shown (run_of (usage_51_stop_least_digits h) 2000 granted) ≡ record { bytes = (lines []); verdict = Stopped (Some 42) }

abbrev pub usage_52_stop_0_shows : Global → Type 0
usage_52_stop_0_shows h = shown (run_of (usage_52_stop_0 h) 2000 granted) ≡ record { bytes = (lines []); verdict = Stopped (Some 0) }

-- These programs print this and end so.
abbrev pub Rows7Show : Type 0
Rows7Show = (h : Global) →
    (IsLawful (choice_59_1 h) × choice_59_1_shows h)
    × (IsLawful (choice_61_1 h) × choice_61_1_shows h)
    × (IsLawful (choice_62_1 h) × choice_62_1_shows h)
    × (IsLawful (choice_63_1 h) × choice_63_1_shows h)
    × (IsLawful (choice_64_1 h) × choice_64_1_shows h)
    × (IsLawful (choice_67_1 h) × choice_67_1_shows h)
    × (IsLawful (choice_79_1 h) × choice_79_1_shows h)
    × (IsLawful (scalar_02_print h) × scalar_02_print_shows h)
    × (IsLawful (text_02_variable_if h) × text_02_variable_if_shows h)
    × (IsLawful (usage_45_empty_statements h) × usage_45_empty_statements_shows h)
    × (IsLawful (usage_46_letter_case h) × usage_46_letter_case_shows h)
    × (IsLawful (usage_47_empty_print h) × usage_47_empty_print_shows h)
    × (IsLawful (usage_49_stop_plain h) × usage_49_stop_plain_shows h)
    × (IsLawful (usage_50_stop_7 h) × usage_50_stop_7_shows h)
    × (IsLawful (usage_51_stop_least_digits h) × usage_51_stop_least_digits_shows h)
    × (IsLawful (usage_52_stop_0 h) × usage_52_stop_0_shows h)
