-- Programs, elaborated, with their sources above.
use Rattle.std.specs.Prelude.{pos, true, false, [], ◌∷◌, ◌++◌, None, Some, codes, ◌≡◌}
use Rattle.std.specs.declared.alloc.Global.{Global}
use Rattle.f3_program.specs.declared.declarations.Base.TheVariants as base
use Rattle.f3_program.specs.declared.declarations.Constant.TheVariants as constant
use Rattle.f3_program.specs.declared.expression.UnaryOperator.TheVariants as c
use Rattle.f3_program.specs.declared.expression.Name.TheVariants as n
use Rattle.f3_program.specs.declared.expression.BinaryOperator.TheVariants as o
use Rattle.f3_program.specs.declared.expression.Selection as l
use Rattle.f3_program.specs.declared.statement.Item.TheVariants as item
use Rattle.f3_program.specs.declared.statement.Statement as s
use Rattle.f3_program.specs.declared.program.Intent.TheVariants as intent
use Rattle.f3_program.specs.declared.program.Program.{Program}
use Rattle.f3_meaning_whole.specs.Run.{run_of}
use Rattle.f3_meaning_whole.specs.Permitted.{IsLawful}
use Rattle.f3_meaning_rows.specs.Shown.{granted, shown, lines, Finished, Failed}
use Rattle.f3_meaning_rows.specs.Build.{vec, place, kind, dim, declared, comp, derived, final, num, var, group, unary, bin, array, call, allocated}
use Rattle.f3_meaning_rows.specs.Build.{val, ref, name, member, elements, sub, at, block, for, bounds, request, text, dummy, static, procedure}
use Rattle.f3_meaning_rows.specs.Build.{program}

--     module m; type t; integer :: id = 0; contains; final :: fin; end type; contains
--     subroutine fin(x); type(t), intent(inout) :: x; print *, 'f', x%id; end
--     subroutine go(); type(t) :: x, y; x%id = 1; y%id = 2; x = y; print *, 'g'; end
--     end
--     program p; use m; type(t), allocatable :: v(:); type(t) :: s
--     allocate(v(2)); deallocate(v); print *, 'e'
--     end
abbrev pub sample_10_scalar_final : Global → Program
sample_10_scalar_final h = program h (derived h 0 (comp (declared h (kind base.Integer 0 false) [] tt ((constant.Number (pos 0)) ∷ []) tt) false
    ∷ []) tt (final 0 0 ∷ []) tt ∷ []) tt
    [] tt
    (procedure h 0 (dummy h (kind (base.Derived 0) 0 false) intent.InOut [] tt ∷ []) tt [] tt None
    (block h (at h 2 49 true (s.Print (vec h (text h (102 ∷ []) tt ∷ item.Value (var h (member h (name (n.Lent 0) l.Whole) 0 l.Whole)) ∷ []) tt))
    ∷ []) tt) (place 2 69) ∷ procedure h 0 [] tt ((declared h (kind (base.Derived 0) 0 false) [] tt [] tt)
    ∷ (declared h (kind (base.Derived 0) 0 false) [] tt [] tt) ∷ []) tt None
    (block h (at h 3 35 true (s.Assign (member h (name (n.Local 0) l.Whole) 0 l.Whole) (kind base.Integer 0 false) (num (pos 1)))
    ∷ at h 3 45 true (s.Assign (member h (name (n.Local 1) l.Whole) 0 l.Whole) (kind base.Integer 0 false) (num (pos 2)))
    ∷ at h 3 55 true (s.Assign (name (n.Local 0) l.Whole) (kind (base.Derived 0) 0 false) (var h (name (n.Local 1) l.Whole)))
    ∷ at h 3 62 true (s.Print (vec h (text h (103 ∷ []) tt ∷ []) tt)) ∷ []) tt) (place 3 76) ∷ []) tt
    (procedure h 3 [] tt ((declared h (kind (base.Derived 0) 1 true) [] tt [] tt) ∷ (declared h (kind (base.Derived 0) 0 false) [] tt [] tt) ∷ []) tt
    None (block h (at h 6 1 true (s.Allocate (vec h (request h (name (n.Local 0) l.Whole) (kind (base.Derived 0) 1 true)
    (bounds (num (pos 1)) (num (pos 2)) ∷ []) tt ∷ []) tt) None)
    ∷ at h 6 17 true (s.Deallocate (vec h (request h (name (n.Local 0) l.Whole) (kind (base.Derived 0) 1 true) [] tt ∷ []) tt) None)
    ∷ at h 6 32 true (s.Print (vec h (text h (101 ∷ []) tt ∷ []) tt)) ∷ []) tt) (place 7 1))
    (place 5 1)

--     module w; integer, allocatable :: v(:), u(:); contains
--     subroutine p(x); integer, intent(inout) :: x; deallocate(v); x = 1; end
--     end
--     program q; use w; allocate(v(3)); call p(v(1)); print *, v(1); end
abbrev pub sample_11_deallocate : Global → Program
sample_11_deallocate h = program h [] tt
    (static (declared h (kind base.Integer 1 true) [] tt [] tt) 0 false ∷ static (declared h (kind base.Integer 1 true) [] tt [] tt) 0 false ∷ []) tt
    (procedure h 0 (dummy h (kind base.Integer 0 false) intent.InOut [] tt ∷ []) tt [] tt None
    (block h (at h 2 47 true (s.Deallocate (vec h (request h (name (n.Static 0) l.Whole) (kind base.Integer 1 true) [] tt ∷ []) tt) None)
    ∷ at h 2 62 true (s.Assign (name (n.Lent 0) l.Whole) (kind base.Integer 0 false) (num (pos 1))) ∷ []) tt) (place 2 69) ∷ []) tt
    (procedure h 2 [] tt [] tt None (block h (at h 4 19 true (s.Allocate
    (vec h (request h (name (n.Static 0) l.Whole) (kind base.Integer 1 true) (bounds (num (pos 1)) (num (pos 3)) ∷ []) tt ∷ []) tt) None)
    ∷ at h 4 35 true (s.Call (call h 0 (ref h 0 (name (n.Static 0) (elements h true (sub h (num (pos 1)) ∷ []) tt)) ∷ []) tt))
    ∷ at h 4 49 true (s.Print (vec h (item.Value (var h (name (n.Static 0) (elements h true (sub h (num (pos 1)) ∷ []) tt))) ∷ []) tt)) ∷ []) tt)
    (place 4 64))
    (place 4 1)

--     module w; integer, allocatable :: v(:), u(:); contains
--     subroutine p(x); integer, intent(inout) :: x; call move_alloc(v, u); x = 1; end
--     end
--     program q; use w; allocate(v(3)); call p(v(1)); print *, v(1); end
abbrev pub sample_11_move_alloc : Global → Program
sample_11_move_alloc h = program h [] tt
    (static (declared h (kind base.Integer 1 true) [] tt [] tt) 0 false ∷ static (declared h (kind base.Integer 1 true) [] tt [] tt) 0 false ∷ []) tt
    (procedure h 0 (dummy h (kind base.Integer 0 false) intent.InOut [] tt ∷ []) tt [] tt None
    (block h (at h 2 47 true (s.MoveAlloc (kind base.Integer 1 true) true (name (n.Static 0) l.Whole) (name (n.Static 1) l.Whole))
    ∷ at h 2 70 true (s.Assign (name (n.Lent 0) l.Whole) (kind base.Integer 0 false) (num (pos 1))) ∷ []) tt) (place 2 77) ∷ []) tt
    (procedure h 2 [] tt [] tt None (block h (at h 4 19 true (s.Allocate
    (vec h (request h (name (n.Static 0) l.Whole) (kind base.Integer 1 true) (bounds (num (pos 1)) (num (pos 3)) ∷ []) tt ∷ []) tt) None)
    ∷ at h 4 35 true (s.Call (call h 0 (ref h 0 (name (n.Static 0) (elements h true (sub h (num (pos 1)) ∷ []) tt)) ∷ []) tt))
    ∷ at h 4 49 true (s.Print (vec h (item.Value (var h (name (n.Static 0) (elements h true (sub h (num (pos 1)) ∷ []) tt))) ∷ []) tt)) ∷ []) tt)
    (place 4 64))
    (place 4 1)

--     module w; integer, allocatable :: v(:), u(:); contains
--     subroutine p(x); integer, intent(inout) :: x; deallocate(v, stat=x); end
--     end
--     program q; use w; allocate(v(3)); call p(v(1)); print *, v(1); end
abbrev pub sample_11_stat : Global → Program
sample_11_stat h = program h [] tt
    (static (declared h (kind base.Integer 1 true) [] tt [] tt) 0 false ∷ static (declared h (kind base.Integer 1 true) [] tt [] tt) 0 false ∷ []) tt
    (procedure h 0 (dummy h (kind base.Integer 0 false) intent.InOut [] tt ∷ []) tt [] tt None
    (block h (at h 2 47 true (s.Deallocate (vec h (request h (name (n.Static 0) l.Whole) (kind base.Integer 1 true) [] tt ∷ []) tt)
    (Some (name (n.Lent 0) l.Whole))) ∷ []) tt) (place 2 70) ∷ []) tt
    (procedure h 2 [] tt [] tt None (block h (at h 4 19 true (s.Allocate
    (vec h (request h (name (n.Static 0) l.Whole) (kind base.Integer 1 true) (bounds (num (pos 1)) (num (pos 3)) ∷ []) tt ∷ []) tt) None)
    ∷ at h 4 35 true (s.Call (call h 0 (ref h 0 (name (n.Static 0) (elements h true (sub h (num (pos 1)) ∷ []) tt)) ∷ []) tt))
    ∷ at h 4 49 true (s.Print (vec h (item.Value (var h (name (n.Static 0) (elements h true (sub h (num (pos 1)) ∷ []) tt))) ∷ []) tt)) ∷ []) tt)
    (place 4 64))
    (place 4 1)

--     program p; integer, allocatable :: x; x = 5; call move_alloc(x, x); print *, allocated(x); end
abbrev pub sample_12_move_to_itself : Global → Program
sample_12_move_to_itself h = program h [] tt
    [] tt
    [] tt
    (procedure h 0 [] tt ((declared h (kind base.Integer 0 true) [] tt [] tt) ∷ []) tt None
    (block h (at h 1 39 true (s.Assign (name (n.Local 0) l.Whole) (kind base.Integer 0 true) (num (pos 5)))
    ∷ at h 1 46 true (s.MoveAlloc (kind base.Integer 0 true) true (name (n.Local 0) l.Whole) (name (n.Local 0) l.Whole))
    ∷ at h 1 69 true (s.Print (vec h (item.Value (allocated h (name (n.Local 0) l.Whole)) ∷ []) tt)) ∷ []) tt) (place 1 92))
    (place 1 1)

--     program p; print *, -7/2, 2**(-1), mod(-7,2), -2**2; end
abbrev pub sample_13_arithmetic : Global → Program
sample_13_arithmetic h = program h [] tt
    [] tt
    [] tt
    (procedure h 0 [] tt [] tt None (block h (at h 1 12 true (s.Print
    (vec h (item.Value (unary h c.Negate base.Integer (bin h o.Divide base.Integer (num (pos 7)) (num (pos 2))))
    ∷ item.Value (bin h o.Power base.Integer (num (pos 2)) (group h (unary h c.Negate base.Integer (num (pos 1)))))
    ∷ item.Value (bin h o.Mod base.Integer (unary h c.Negate base.Integer (num (pos 7))) (num (pos 2)))
    ∷ item.Value (unary h c.Negate base.Integer (bin h o.Power base.Integer (num (pos 2)) (num (pos 2)))) ∷ []) tt)) ∷ []) tt) (place 1 54))
    (place 1 1)

--     program p; print *, 7, 1/0; end
abbrev pub sample_13_item_by_item : Global → Program
sample_13_item_by_item h = program h [] tt
    [] tt
    [] tt
    (procedure h 0 [] tt [] tt None (block h (at h 1 12 true (s.Print
    (vec h (item.Value (num (pos 7)) ∷ item.Value (bin h o.Divide base.Integer (num (pos 1)) (num (pos 0))) ∷ []) tt)) ∷ []) tt) (place 1 29))
    (place 1 1)

--     program p; print *, 2147483647 + 1; end
abbrev pub sample_13_overflow : Global → Program
sample_13_overflow h = program h [] tt
    [] tt
    [] tt
    (procedure h 0 [] tt [] tt None (block h (at h 1 12 true (s.Print
    (vec h (item.Value (bin h o.Add base.Integer (num (pos 2147483647)) (num (pos 1))) ∷ []) tt)) ∷ []) tt) (place 1 37))
    (place 1 1)

--     program p; integer :: i; do i = 1, 0; print *, 9; end do; print *, i; end
abbrev pub sample_16_no_turns : Global → Program
sample_16_no_turns h = program h [] tt
    [] tt
    [] tt
    (procedure h 0 [] tt ((declared h (kind base.Integer 0 false) [] tt [] tt) ∷ []) tt None
    (block h (at h 1 26 true (for h (name (n.Local 0) l.Whole) (kind base.Integer 0 false) (num (pos 1)) (num (pos 0)) (num (pos 1))
    (block h (at h 1 39 true (s.Print (vec h (item.Value (num (pos 9)) ∷ []) tt)) ∷ []) tt))
    ∷ at h 1 59 true (s.Print (vec h (item.Value (var h (name (n.Local 0) l.Whole)) ∷ []) tt)) ∷ []) tt) (place 1 71))
    (place 1 1)

--     program p; integer :: i; do i = 1, 3, 0; print *, 9; end do; print *, i; end
abbrev pub sample_16_zero_step : Global → Program
sample_16_zero_step h = program h [] tt
    [] tt
    [] tt
    (procedure h 0 [] tt ((declared h (kind base.Integer 0 false) [] tt [] tt) ∷ []) tt None
    (block h (at h 1 26 true (for h (name (n.Local 0) l.Whole) (kind base.Integer 0 false) (num (pos 1)) (num (pos 3)) (num (pos 0))
    (block h (at h 1 42 true (s.Print (vec h (item.Value (num (pos 9)) ∷ []) tt)) ∷ []) tt))
    ∷ at h 1 62 true (s.Print (vec h (item.Value (var h (name (n.Local 0) l.Whole)) ∷ []) tt)) ∷ []) tt) (place 1 74))
    (place 1 1)

--     module m; contains
--     subroutine fill(); integer, allocatable :: a(:); allocate(a(4)); a = 7; end
--     subroutine look(); integer, allocatable :: a(:); allocate(a(4)); print *, a; end
--     end
--     program p; use m; call fill(); call look(); end
abbrev pub sample_17_fresh_words : Global → Program
sample_17_fresh_words h = program h [] tt
    [] tt
    (procedure h 0 [] tt ((declared h (kind base.Integer 1 true) [] tt [] tt) ∷ []) tt None
    (block h (at h 2 50 true (s.Allocate (vec h (request h (name (n.Local 0) l.Whole) (kind base.Integer 1 true)
    (bounds (num (pos 1)) (num (pos 4)) ∷ []) tt ∷ []) tt) None)
    ∷ at h 2 66 true (s.Assign (name (n.Local 0) l.Whole) (kind base.Integer 1 true) (num (pos 7))) ∷ []) tt) (place 2 73)
    ∷ procedure h 0 [] tt ((declared h (kind base.Integer 1 true) [] tt [] tt) ∷ []) tt None
    (block h (at h 3 50 true (s.Allocate (vec h (request h (name (n.Local 0) l.Whole) (kind base.Integer 1 true)
    (bounds (num (pos 1)) (num (pos 4)) ∷ []) tt ∷ []) tt) None)
    ∷ at h 3 66 true (s.Print (vec h (item.Value (var h (name (n.Local 0) l.Contents)) ∷ []) tt)) ∷ []) tt) (place 3 78) ∷ []) tt
    (procedure h 3 [] tt [] tt None (block h (at h 5 19 true (s.Call (call h 0 [] tt)) ∷ at h 5 32 true (s.Call (call h 1 [] tt)) ∷ []) tt) (place 5 45))
    (place 5 1)

--     program p
--     print *, 12&
--     &34, 'a&
--        & b'
--     end
abbrev pub sample_19_continuation : Global → Program
sample_19_continuation h = program h [] tt
    [] tt
    [] tt
    (procedure h 0 [] tt [] tt None (block h (at h 2 1 true (s.Print (vec h (item.Value (num (pos 1234)) ∷ text h (97 ∷ 32 ∷ 98 ∷ []) tt ∷ []) tt))
    ∷ []) tt) (place 5 1))
    (place 1 1)

--     module a; integer :: n = 1; end
--     module b; integer :: n = 2; end
--     program p; use a; use b; print *, 5; end
abbrev pub sample_20_not_referred : Global → Program
sample_20_not_referred h = program h [] tt
    (static (declared h (kind base.Integer 0 false) [] tt ((constant.Number (pos 1)) ∷ []) tt) 0 false
    ∷ static (declared h (kind base.Integer 0 false) [] tt ((constant.Number (pos 2)) ∷ []) tt) 1 false ∷ []) tt
    [] tt
    (procedure h 2 [] tt [] tt None (block h (at h 3 26 true (s.Print (vec h (item.Value (num (pos 5)) ∷ []) tt)) ∷ []) tt) (place 3 38))
    (place 3 1)

--     program p; integer :: a(3)
--     a(4) = 1
--     end
abbrev pub sample_23_bounds : Global → Program
sample_23_bounds h = program h [] tt
    [] tt
    [] tt
    (procedure h 0 [] tt ((declared h (kind base.Integer 1 false) (dim (pos 1) 3 ∷ []) tt [] tt) ∷ []) tt None
    (block h (at h 2 1 true (s.Assign (name (n.Local 0) (elements h false (sub h (num (pos 4)) ∷ []) tt)) (kind base.Integer 0 false)
    (num (pos 1))) ∷ []) tt) (place 3 1))
    (place 1 1)

--     program p; integer :: a(3)
--     a = [1, 2]
--     end
abbrev pub sample_23_shapes : Global → Program
sample_23_shapes h = program h [] tt
    [] tt
    [] tt
    (procedure h 0 [] tt ((declared h (kind base.Integer 1 false) (dim (pos 1) 3 ∷ []) tt [] tt) ∷ []) tt None
    (block h (at h 2 1 true (s.Assign (name (n.Local 0) l.Whole) (kind base.Integer 1 false)
    (array h (val h 0 (num (pos 1)) ∷ val h 0 (num (pos 2)) ∷ []) tt)) ∷ []) tt) (place 3 1))
    (place 1 1)

--     program p
--     print *, 'abc'&
--     &'def'
--     end
abbrev pub choice_03_1 : Global → Program
choice_03_1 h = program h [] tt
    [] tt
    [] tt
    (procedure h 0 [] tt [] tt None (block h (at h 2 1 true (s.Print (vec h (text h (97 ∷ 98 ∷ 99 ∷ 39 ∷ 100 ∷ 101 ∷ 102 ∷ []) tt ∷ []) tt)) ∷ [])
    tt) (place 4 1))
    (place 1 1)

abbrev pub sample_10_scalar_final_shows : Global → Type 0
sample_10_scalar_final_shows h = shown (run_of (sample_10_scalar_final h) 2000 granted) ≡ record { bytes = (lines (codes " e" ∷ [])); verdict = Finished }

abbrev pub sample_11_deallocate_shows : Global → Type 0
sample_11_deallocate_shows h = shown (run_of (sample_11_deallocate h) 2000 granted) ≡ record { bytes = (lines []); verdict = Failed 9 2 47 }

abbrev pub sample_11_move_alloc_shows : Global → Type 0
sample_11_move_alloc_shows h = shown (run_of (sample_11_move_alloc h) 2000 granted) ≡ record { bytes = (lines []); verdict = Failed 9 2 47 }

abbrev pub sample_11_stat_shows : Global → Type 0
sample_11_stat_shows h = shown (run_of (sample_11_stat h) 2000 granted) ≡ record { bytes = (lines (codes " 9" ∷ [])); verdict = Finished }

abbrev pub sample_12_move_to_itself_shows : Global → Type 0
sample_12_move_to_itself_shows h = shown (run_of (sample_12_move_to_itself h) 2000 granted) ≡ record { bytes = (lines (codes " F" ∷ [])); verdict = Finished }

abbrev pub sample_13_arithmetic_shows : Global → Type 0
sample_13_arithmetic_shows h = shown (run_of (sample_13_arithmetic h) 2000 granted) ≡ record { bytes = (lines (codes " -3 0 -1 -4" ∷ [])); verdict = Finished }

abbrev pub sample_13_item_by_item_shows : Global → Type 0
sample_13_item_by_item_shows h = shown (run_of (sample_13_item_by_item h) 2000 granted) ≡ record { bytes = (lines [] ++ codes " 7"); verdict = Failed 2 1 12 }

abbrev pub sample_13_overflow_shows : Global → Type 0
sample_13_overflow_shows h = shown (run_of (sample_13_overflow h) 2000 granted) ≡ record { bytes = (lines []); verdict = Failed 1 1 12 }

abbrev pub sample_16_no_turns_shows : Global → Type 0
sample_16_no_turns_shows h = shown (run_of (sample_16_no_turns h) 2000 granted) ≡ record { bytes = (lines (codes " 1" ∷ [])); verdict = Finished }

abbrev pub sample_16_zero_step_shows : Global → Type 0
sample_16_zero_step_shows h = shown (run_of (sample_16_zero_step h) 2000 granted) ≡ record { bytes = (lines []); verdict = Failed 8 1 26 }

abbrev pub sample_17_fresh_words_shows : Global → Type 0
sample_17_fresh_words_shows h = shown (run_of (sample_17_fresh_words h) 2000 granted) ≡ record { bytes = (lines (codes " 0 0 0 0" ∷ [])); verdict = Finished }

abbrev pub sample_19_continuation_shows : Global → Type 0
sample_19_continuation_shows h = shown (run_of (sample_19_continuation h) 2000 granted) ≡ record
    { bytes = (lines (codes " 1234 a b" ∷ [])); verdict = Finished }

abbrev pub sample_20_not_referred_shows : Global → Type 0
sample_20_not_referred_shows h = shown (run_of (sample_20_not_referred h) 2000 granted) ≡ record { bytes = (lines (codes " 5" ∷ [])); verdict = Finished }

abbrev pub sample_23_bounds_shows : Global → Type 0
sample_23_bounds_shows h = shown (run_of (sample_23_bounds h) 2000 granted) ≡ record { bytes = (lines []); verdict = Failed 3 2 1 }

abbrev pub sample_23_shapes_shows : Global → Type 0
sample_23_shapes_shows h = shown (run_of (sample_23_shapes h) 2000 granted) ≡ record { bytes = (lines []); verdict = Failed 7 2 1 }

abbrev pub choice_03_1_shows : Global → Type 0
choice_03_1_shows h = shown (run_of (choice_03_1 h) 2000 granted) ≡ record { bytes = (lines (codes " abc'def" ∷ [])); verdict = Finished }

-- These programs print this and end so.
abbrev pub Rows5Show : Type 0
Rows5Show = (h : Global) →
    (IsLawful (sample_10_scalar_final h) × sample_10_scalar_final_shows h)
    × (IsLawful (sample_11_deallocate h) × sample_11_deallocate_shows h)
    × (IsLawful (sample_11_move_alloc h) × sample_11_move_alloc_shows h)
    × (IsLawful (sample_11_stat h) × sample_11_stat_shows h)
    × (IsLawful (sample_12_move_to_itself h) × sample_12_move_to_itself_shows h)
    × (IsLawful (sample_13_arithmetic h) × sample_13_arithmetic_shows h)
    × (IsLawful (sample_13_item_by_item h) × sample_13_item_by_item_shows h)
    × (IsLawful (sample_13_overflow h) × sample_13_overflow_shows h)
    × (IsLawful (sample_16_no_turns h) × sample_16_no_turns_shows h)
    × (IsLawful (sample_16_zero_step h) × sample_16_zero_step_shows h)
    × (IsLawful (sample_17_fresh_words h) × sample_17_fresh_words_shows h)
    × (IsLawful (sample_19_continuation h) × sample_19_continuation_shows h)
    × (IsLawful (sample_20_not_referred h) × sample_20_not_referred_shows h)
    × (IsLawful (sample_23_bounds h) × sample_23_bounds_shows h)
    × (IsLawful (sample_23_shapes h) × sample_23_shapes_shows h)
    × (IsLawful (choice_03_1 h) × choice_03_1_shows h)
