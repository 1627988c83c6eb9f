-- Programs, elaborated, with their sources above.
use Rattle.std.specs.Prelude.{pos, true, false, [], ◌∷◌, None, Some, codes, ◌≡◌}
use Rattle.std.specs.declared.alloc.Global.{Global}
use Rattle.f3_program.specs.declared.declarations.Base.TheVariants as base
use Rattle.f3_program.specs.declared.declarations.Constant.TheVariants as constant
use Rattle.f3_program.specs.declared.expression.Name.TheVariants as n
use Rattle.f3_program.specs.declared.expression.BinaryOperator.TheVariants as o
use Rattle.f3_program.specs.declared.expression.Query.TheVariants as query
use Rattle.f3_program.specs.declared.expression.Selection as l
use Rattle.f3_program.specs.declared.statement.Item.TheVariants as item
use Rattle.f3_program.specs.declared.statement.Range.TheVariants as range
use Rattle.f3_program.specs.declared.statement.Selector.TheVariants as selector
use Rattle.f3_program.specs.declared.statement.Statement as s
use Rattle.f3_program.specs.declared.program.Intent.TheVariants as intent
use Rattle.f3_program.specs.declared.program.Program.{Program}
use Rattle.f3_meaning_whole.specs.Run.{run_of}
use Rattle.f3_meaning_whole.specs.Permitted.{IsLawful}
use Rattle.f3_meaning_rows.specs.Shown.{granted, shown, lines, Finished, Failed}
use Rattle.f3_meaning_rows.specs.Build.{vec, place, kind, dim, declared, comp, derived, num, var, bin, array, struct, call, size, query as asks, val}
use Rattle.f3_meaning_rows.specs.Build.{ref, name, member, elements, range as triplet, at, block, choose, case, for, associate, bounds, request}
use Rattle.f3_meaning_rows.specs.Build.{dummy, static, procedure, program}

--     program p; select case (3); end select; print *, 1; end
abbrev pub choice_06_1 : Global → Program
choice_06_1 h = program h [] tt
    [] tt
    [] tt
    (procedure h 0 [] tt [] tt None (block h (at h 1 12 true (choose h (num (pos 3)) (block h [] tt))
    ∷ at h 1 41 true (s.Print (vec h (item.Value (num (pos 1)) ∷ []) tt)) ∷ []) tt) (place 1 53))
    (place 1 1)

--     program p;; print *; end
abbrev pub choice_10_1 : Global → Program
choice_10_1 h = program h [] tt
    [] tt
    [] tt
    (procedure h 0 [] tt [] tt None (block h (at h 1 13 true (s.Print (vec h [] tt)) ∷ []) tt) (place 1 22))
    (place 1 1)

--     module a; integer :: n = 1; end
--     module b; integer :: n = 2; end
--     module c; use a; use b; public :: n; end
--     program p; use c, only: n; end
abbrev pub choice_12_1 : Global → Program
choice_12_1 h = program h [] tt
    (static (declared h (kind base.Integer 0 false) [] tt ((constant.Number (pos 1)) ∷ []) tt) 0 false
    ∷ static (declared h (kind base.Integer 0 false) [] tt ((constant.Number (pos 2)) ∷ []) tt) 1 false ∷ []) tt
    [] tt
    (procedure h 3 [] tt [] tt None (block h [] tt) (place 4 28))
    (place 4 1)

--     module k; type t; integer :: i = 4; end type; end
--     module m; contains; type(t) function f(); use k; f = t(5); end; end
--     program p; end
abbrev pub choice_17_1 : Global → Program
choice_17_1 h = program h (derived h 0 (comp (declared h (kind base.Integer 0 false) [] tt ((constant.Number (pos 4)) ∷ []) tt) false ∷ []) tt [] tt ∷ []) tt
    [] tt
    (procedure h 1 [] tt [] tt (Some (declared h (kind (base.Derived 0) 0 false) [] tt [] tt))
    (block h (at h 2 50 true (s.Assign (name (n.Local 0) l.Whole) (kind (base.Derived 0) 0 false) (struct h 0 (val h 0 (num (pos 5)) ∷ []) tt))
    ∷ []) tt) (place 2 60) ∷ []) tt
    (procedure h 3 [] tt [] tt None (block h [] tt) (place 3 12))
    (place 3 1)

--     module m; save; integer, save :: q; save; end
--     program p; end
abbrev pub choice_19_2 : Global → Program
choice_19_2 h = program h [] tt
    (static (declared h (kind base.Integer 0 false) [] tt [] tt) 0 false ∷ []) tt
    [] tt
    (procedure h 1 [] tt [] tt None (block h [] tt) (place 2 12))
    (place 2 1)

--     program p; integer, allocatable :: a, b; a = 4; call move_alloc(to=b, from=a); print *, b; end
abbrev pub choice_36_2 : Global → Program
choice_36_2 h = program h [] tt
    [] tt
    [] tt
    (procedure h 0 [] tt ((declared h (kind base.Integer 0 true) [] tt [] tt) ∷ (declared h (kind base.Integer 0 true) [] tt [] tt) ∷ []) tt None
    (block h (at h 1 42 true (s.Assign (name (n.Local 0) l.Whole) (kind base.Integer 0 true) (num (pos 4)))
    ∷ at h 1 49 true (s.MoveAlloc (kind base.Integer 0 true) false (name (n.Local 1) l.Whole) (name (n.Local 0) l.Whole))
    ∷ at h 1 80 true (s.Print (vec h (item.Value (var h (name (n.Local 1) l.Contents)) ∷ []) tt)) ∷ []) tt) (place 1 92))
    (place 1 1)

--     program p; select case (4); case (5:4); case (4:5); print *, 1; end select; end
abbrev pub choice_46_1 : Global → Program
choice_46_1 h = program h [] tt
    [] tt
    [] tt
    (procedure h 0 [] tt [] tt None (block h (at h 1 12 true (choose h (num (pos 4))
    (case h (range.Between (pos 5) (pos 4) ∷ []) tt (block h [] tt)
    (case h (range.Between (pos 4) (pos 5) ∷ []) tt (block h (at h 1 53 true (s.Print (vec h (item.Value (num (pos 1)) ∷ []) tt)) ∷ []) tt)
    (block h [] tt)))) ∷ []) tt) (place 1 77))
    (place 1 1)

--     module m; type t; integer, allocatable :: c(:); end type; end
--     program p; use m; type(t), allocatable :: x; allocate(x%c(1/0)); end
abbrev pub choice_49_1 : Global → Program
choice_49_1 h = program h (derived h 0 (comp (declared h (kind base.Integer 1 true) [] tt [] tt) false ∷ []) tt [] tt ∷ []) tt
    [] tt
    [] tt
    (procedure h 1 [] tt ((declared h (kind (base.Derived 0) 0 true) [] tt [] tt) ∷ []) tt None
    (block h (at h 2 46 true (s.Allocate (vec h (request h (member h (name (n.Local 0) l.Contents) 0 l.Whole) (kind base.Integer 1 true)
    (bounds (num (pos 1)) (bin h o.Divide base.Integer (num (pos 1)) (num (pos 0))) ∷ []) tt ∷ []) tt) None) ∷ []) tt) (place 2 66))
    (place 2 1)

--     program p; integer :: i; associate (z => i); do z = 1, 2; i = i; end do; print *, i; end associate; end
abbrev pub choice_50_1 : Global → Program
choice_50_1 h = program h [] tt
    [] tt
    [] tt
    (procedure h 0 [] tt ((declared h (kind base.Integer 0 false) [] tt [] tt) ∷ []) tt None
    (block h (at h 1 26 true (associate h (selector.Variable (name (n.Local 0) l.Whole) ∷ []) tt
    (block h (at h 1 46 true (for h (name (n.Lent 0) l.Whole) (kind base.Integer 0 false) (num (pos 1)) (num (pos 2)) (num (pos 1))
    (block h (at h 1 59 true (s.Assign (name (n.Local 0) l.Whole) (kind base.Integer 0 false) (var h (name (n.Local 0) l.Whole))) ∷ []) tt))
    ∷ at h 1 74 true (s.Print (vec h (item.Value (var h (name (n.Local 0) l.Whole)) ∷ []) tt)) ∷ []) tt)) ∷ []) tt) (place 1 101))
    (place 1 1)

--     program p; integer, allocatable :: a(:); allocate(a(5:4)); print *, size(a(:2)); end
abbrev pub choice_52_1 : Global → Program
choice_52_1 h = program h [] tt
    [] tt
    [] tt
    (procedure h 0 [] tt ((declared h (kind base.Integer 1 true) [] tt [] tt) ∷ []) tt None
    (block h (at h 1 42 true (s.Allocate (vec h (request h (name (n.Local 0) l.Whole) (kind base.Integer 1 true)
    (bounds (num (pos 5)) (num (pos 4)) ∷ []) tt ∷ []) tt) None)
    ∷ at h 1 60 true (s.Print (vec h (item.Value (size h (ref h 0
    (name (n.Local 0) (elements h true (triplet h false (num (pos 1)) true (num (pos 2)) (num (pos 1)) ∷ []) tt)))) ∷ []) tt)) ∷ []) tt) (place 1 82))
    (place 1 1)

--     program p; integer, allocatable :: a(:); allocate(a(5:4)); print *, size(a(2:)); end
abbrev pub choice_52_2 : Global → Program
choice_52_2 h = program h [] tt
    [] tt
    [] tt
    (procedure h 0 [] tt ((declared h (kind base.Integer 1 true) [] tt [] tt) ∷ []) tt None
    (block h (at h 1 42 true (s.Allocate (vec h (request h (name (n.Local 0) l.Whole) (kind base.Integer 1 true)
    (bounds (num (pos 5)) (num (pos 4)) ∷ []) tt ∷ []) tt) None)
    ∷ at h 1 60 true (s.Print (vec h (item.Value (size h (ref h 0
    (name (n.Local 0) (elements h true (triplet h true (num (pos 2)) false (num (pos 1)) (num (pos 1)) ∷ []) tt)))) ∷ []) tt)) ∷ []) tt) (place 1 82))
    (place 1 1)

--     program p; use m; integer, allocatable :: a; call s(a, 1/0); end
--     module m; contains; subroutine s(x, y); integer, intent(in) :: x, y; end; end
abbrev pub choice_53_1 : Global → Program
choice_53_1 h = program h [] tt
    [] tt
    (procedure h 1 (dummy h (kind base.Integer 0 false) intent.In [] tt ∷ dummy h (kind base.Integer 0 false) intent.In [] tt ∷ []) tt [] tt None
    (block h [] tt) (place 2 70) ∷ []) tt
    (procedure h 0 [] tt ((declared h (kind base.Integer 0 true) [] tt [] tt) ∷ []) tt None
    (block h (at h 1 46 true (s.Call (call h 0 (ref h 0 (name (n.Local 0) l.Contents)
    ∷ val h 1 (bin h o.Divide base.Integer (num (pos 1)) (num (pos 0))) ∷ []) tt)) ∷ []) tt) (place 1 62))
    (place 1 1)

--     program p; integer, allocatable :: a(:); print *, size(a, 1/0); end
abbrev pub choice_54_1 : Global → Program
choice_54_1 h = program h [] tt
    [] tt
    [] tt
    (procedure h 0 [] tt ((declared h (kind base.Integer 1 true) [] tt [] tt) ∷ []) tt None
    (block h (at h 1 42 true (s.Print (vec h (item.Value (asks h query.Extent (ref h 0 (name (n.Local 0) l.Contents))
    (bin h o.Divide base.Integer (num (pos 1)) (num (pos 0)))) ∷ []) tt)) ∷ []) tt) (place 1 65))
    (place 1 1)

--     program p; integer :: a(2); a = [3000000000_8, 1_8, 1_8]; end
abbrev pub choice_56_1 : Global → Program
choice_56_1 h = program h [] tt
    [] tt
    [] tt
    (procedure h 0 [] tt ((declared h (kind base.Integer 1 false) (dim (pos 1) 2 ∷ []) tt [] tt) ∷ []) tt None
    (block h (at h 1 29 true (s.Assign (name (n.Local 0) l.Whole) (kind base.Integer 1 false)
    (array h (val h 0 (num (pos 3000000000)) ∷ val h 0 (num (pos 1)) ∷ val h 0 (num (pos 1)) ∷ []) tt)) ∷ []) tt) (place 1 59))
    (place 1 1)

--     program p; integer :: i; do i = 3000000000_8, 1/0; end do; end
abbrev pub choice_57_1 : Global → Program
choice_57_1 h = program h [] tt
    [] tt
    [] tt
    (procedure h 0 [] tt ((declared h (kind base.Integer 0 false) [] tt [] tt) ∷ []) tt None
    (block h (at h 1 26 true (for h (name (n.Local 0) l.Whole) (kind base.Integer 0 false) (num (pos 3000000000))
    (bin h o.Divide base.Integer (num (pos 1)) (num (pos 0))) (num (pos 1)) (block h [] tt)) ∷ []) tt) (place 1 60))
    (place 1 1)

--     module m; integer :: i; contains; subroutine s(); i = i + 10; end; end
--     program p; use m; do i = 1, 3; call s(); print *, i; end do; end
abbrev pub choice_58_1 : Global → Program
choice_58_1 h = program h [] tt
    (static (declared h (kind base.Integer 0 false) [] tt [] tt) 0 false ∷ []) tt
    (procedure h 0 [] tt [] tt None (block h (at h 1 51 true (s.Assign (name (n.Static 0) l.Whole) (kind base.Integer 0 false)
    (bin h o.Add base.Integer (var h (name (n.Static 0) l.Whole)) (num (pos 10)))) ∷ []) tt) (place 1 63) ∷ []) tt
    (procedure h 2 [] tt [] tt None (block h (at h 2 19 true (for h (name (n.Static 0) l.Whole) (kind base.Integer 0 false) (num (pos 1))
    (num (pos 3)) (num (pos 1)) (block h (at h 2 32 true (s.Call (call h 0 [] tt))
    ∷ at h 2 42 true (s.Print (vec h (item.Value (var h (name (n.Static 0) l.Whole)) ∷ []) tt)) ∷ []) tt)) ∷ []) tt) (place 2 62))
    (place 2 1)

abbrev pub choice_06_1_shows : Global → Type 0
choice_06_1_shows h = shown (run_of (choice_06_1 h) 2000 granted) ≡ record { bytes = (lines (codes " 1" ∷ [])); verdict = Finished }

abbrev pub choice_10_1_shows : Global → Type 0
choice_10_1_shows h = shown (run_of (choice_10_1 h) 2000 granted) ≡ record { bytes = (lines (codes "" ∷ [])); verdict = Finished }

abbrev pub choice_12_1_shows : Global → Type 0
choice_12_1_shows h = shown (run_of (choice_12_1 h) 2000 granted) ≡ record { bytes = (lines []); verdict = Finished }

abbrev pub choice_17_1_shows : Global → Type 0
choice_17_1_shows h = shown (run_of (choice_17_1 h) 2000 granted) ≡ record { bytes = (lines []); verdict = Finished }

abbrev pub choice_19_2_shows : Global → Type 0
choice_19_2_shows h = shown (run_of (choice_19_2 h) 2000 granted) ≡ record { bytes = (lines []); verdict = Finished }

abbrev pub choice_36_2_shows : Global → Type 0
choice_36_2_shows h = shown (run_of (choice_36_2 h) 2000 granted) ≡ record { bytes = (lines (codes " 4" ∷ [])); verdict = Finished }

abbrev pub choice_46_1_shows : Global → Type 0
choice_46_1_shows h = shown (run_of (choice_46_1 h) 2000 granted) ≡ record { bytes = (lines (codes " 1" ∷ [])); verdict = Finished }

abbrev pub choice_49_1_shows : Global → Type 0
choice_49_1_shows h = shown (run_of (choice_49_1 h) 2000 granted) ≡ record { bytes = (lines []); verdict = Failed 4 2 46 }

abbrev pub choice_50_1_shows : Global → Type 0
choice_50_1_shows h = shown (run_of (choice_50_1 h) 2000 granted) ≡ record { bytes = (lines (codes " 3" ∷ [])); verdict = Finished }

abbrev pub choice_52_1_shows : Global → Type 0
choice_52_1_shows h = shown (run_of (choice_52_1 h) 2000 granted) ≡ record { bytes = (lines (codes " 0" ∷ [])); verdict = Finished }

abbrev pub choice_52_2_shows : Global → Type 0
choice_52_2_shows h = shown (run_of (choice_52_2 h) 2000 granted) ≡ record { bytes = (lines []); verdict = Failed 3 1 60 }

abbrev pub choice_53_1_shows : Global → Type 0
choice_53_1_shows h = shown (run_of (choice_53_1 h) 2000 granted) ≡ record { bytes = (lines []); verdict = Failed 4 1 46 }

abbrev pub choice_54_1_shows : Global → Type 0
choice_54_1_shows h = shown (run_of (choice_54_1 h) 2000 granted) ≡ record { bytes = (lines []); verdict = Failed 4 1 42 }

abbrev pub choice_56_1_shows : Global → Type 0
choice_56_1_shows h = shown (run_of (choice_56_1 h) 2000 granted) ≡ record { bytes = (lines []); verdict = Failed 7 1 29 }

abbrev pub choice_57_1_shows : Global → Type 0
choice_57_1_shows h = shown (run_of (choice_57_1 h) 2000 granted) ≡ record { bytes = (lines []); verdict = Failed 1 1 26 }

abbrev pub choice_58_1_shows : Global → Type 0
choice_58_1_shows h = shown (run_of (choice_58_1 h) 2000 granted) ≡ record
    { bytes = (lines (codes " 11" ∷ codes " 22" ∷ codes " 33" ∷ [])); verdict = Finished }

-- These programs print this and end so.
abbrev pub Rows6Show : Type 0
Rows6Show = (h : Global) →
    (IsLawful (choice_06_1 h) × choice_06_1_shows h)
    × (IsLawful (choice_10_1 h) × choice_10_1_shows h)
    × (IsLawful (choice_12_1 h) × choice_12_1_shows h)
    × (IsLawful (choice_17_1 h) × choice_17_1_shows h)
    × (IsLawful (choice_19_2 h) × choice_19_2_shows h)
    × (IsLawful (choice_36_2 h) × choice_36_2_shows h)
    × (IsLawful (choice_46_1 h) × choice_46_1_shows h)
    × (IsLawful (choice_49_1 h) × choice_49_1_shows h)
    × (IsLawful (choice_50_1 h) × choice_50_1_shows h)
    × (IsLawful (choice_52_1 h) × choice_52_1_shows h)
    × (IsLawful (choice_52_2 h) × choice_52_2_shows h)
    × (IsLawful (choice_53_1 h) × choice_53_1_shows h)
    × (IsLawful (choice_54_1 h) × choice_54_1_shows h)
    × (IsLawful (choice_56_1 h) × choice_56_1_shows h)
    × (IsLawful (choice_57_1 h) × choice_57_1_shows h)
    × (IsLawful (choice_58_1 h) × choice_58_1_shows h)
