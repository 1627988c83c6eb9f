-- Programs whose order of work or demand of storage shows, and runs in which the heap refuses.
use Rattle.std.specs.Prelude.{◌≡◌, pos, true, false, [], ◌∷◌, None, Some, codes}
use Rattle.std.specs.declared.alloc.Global.{Global}
use Rattle.f3_program.specs.declared.declarations.Base.TheVariants as base
use Rattle.f3_program.specs.declared.expression.Name.TheVariants as n
use Rattle.f3_program.specs.declared.expression.BinaryOperator.TheVariants as o
use Rattle.f3_program.specs.declared.expression.Query.TheVariants as query
use Rattle.f3_program.specs.declared.expression.Selection as l
use Rattle.f3_program.specs.declared.statement.Item.TheVariants as item
use Rattle.f3_program.specs.declared.statement.Selector.TheVariants as selector
use Rattle.f3_program.specs.declared.statement.Statement as s
use Rattle.f3_program.specs.declared.program.Intent.TheVariants as intent
use Rattle.f3_program.specs.declared.program.Program.{Program}
use Rattle.f3_meaning_whole.specs.Permitted.{IsLawful}
use Rattle.f3_meaning_whole.specs.Run.{runs, run_of, requests}
use Rattle.f3_meaning_rows.specs.Shown.{granted, refusing, shown, lines, Finished, Failed}
use Rattle.f3_meaning_rows.specs.Build.{vec, place, kind, dim, declared, comp, derived, final, num, var, group, bin, array, struct, call, size}
use Rattle.f3_meaning_rows.specs.Build.{query as asks, val, ref, name, member, elements, sub, range as triplet, at, block, when, for, associate}
use Rattle.f3_meaning_rows.specs.Build.{bounds, request, text, dummy, static, procedure, program}

--     program p; integer, allocatable :: a(:)
--     allocate(a(2), stat=a(2)); print *, a; end
abbrev pub stat_last : Global → Program
stat_last h = program h [] tt
    [] tt
    [] tt
    (procedure h 0 [] tt ((declared h (kind base.Integer 1 true) [] tt [] tt) ∷ []) tt None
    (block h (at h 2 1 true (s.Allocate (vec h (request h (name (n.Local 0) l.Whole) (kind base.Integer 1 true)
    (bounds (num (pos 1)) (num (pos 2)) ∷ []) tt ∷ []) tt) (Some (name (n.Local 0) (elements h true (sub h (num (pos 2)) ∷ []) tt))))
    ∷ at h 2 28 true (s.Print (vec h (item.Value (var h (name (n.Local 0) l.Contents)) ∷ []) tt)) ∷ []) tt) (place 2 40))
    (place 1 1)

abbrev pub stat_last_shows : Global → Type 0
stat_last_shows h = shown (run_of (stat_last h) 20 granted) ≡ record { bytes = (lines (codes " 0 0" ∷ [])); verdict = Finished }

--     module m; contains; subroutine s(x, y); integer, allocatable, intent(out) :: x(:); integer, intent(in) :: y; end; end
--     program p; use m; integer, allocatable :: a(:); a = [1, 2]
--     call s(a, a(1)); end
abbrev pub out_while_lent : Global → Program
out_while_lent h = program h [] tt
    [] tt
    (procedure h 0 (dummy h (kind base.Integer 1 true) intent.Out [] tt ∷ dummy h (kind base.Integer 0 false) intent.In [] tt ∷ []) tt [] tt None
    (block h [] tt) (place 1 110) ∷ []) tt
    (procedure h 2 [] tt ((declared h (kind base.Integer 1 true) [] tt [] tt) ∷ []) tt None
    (block h (at h 2 49 true (s.Assign (name (n.Local 0) l.Whole) (kind base.Integer 1 true)
    (array h (val h 0 (num (pos 1)) ∷ val h 0 (num (pos 2)) ∷ []) tt))
    ∷ at h 3 1 true (s.Call (call h 0 (ref h 0 (name (n.Local 0) l.Whole)
    ∷ ref h 1 (name (n.Local 0) (elements h true (sub h (num (pos 1)) ∷ []) tt)) ∷ []) tt)) ∷ []) tt) (place 3 18))
    (place 2 1)

abbrev pub out_while_lent_shows : Global → Type 0
out_while_lent_shows h = shown (run_of (out_while_lent h) 20 granted) ≡ record { bytes = []; verdict = Failed 9 3 1 }

--     module m; type t; integer :: i; contains; final :: f; end type; contains; subroutine f(x); type(t), intent(inout) :: x
--     print *, "f"; end; subroutine s(x); type(t), intent(in) :: x; end; end
--     program p; use m; type(t) :: y
--     call s((y)); end
abbrev pub held_is_not_final : Global → Program
held_is_not_final h = program h (derived h 0 (comp (declared h (kind base.Integer 0 false) [] tt [] tt) false ∷ []) tt (final 0 0 ∷ []) tt ∷ []) tt
    [] tt
    (procedure h 0 (dummy h (kind (base.Derived 0) 0 false) intent.InOut [] tt ∷ []) tt [] tt None
    (block h (at h 2 1 true (s.Print (vec h (text h (102 ∷ []) tt ∷ []) tt)) ∷ []) tt) (place 2 15)
    ∷ procedure h 0 (dummy h (kind (base.Derived 0) 0 false) intent.In [] tt ∷ []) tt [] tt None (block h [] tt) (place 2 63) ∷ []) tt
    (procedure h 3 [] tt ((declared h (kind (base.Derived 0) 0 false) [] tt [] tt) ∷ []) tt None
    (block h (at h 4 1 true (s.Call (call h 1 (val h 0 (group h (var h (name (n.Local 0) l.Whole))) ∷ []) tt)) ∷ []) tt) (place 4 14))
    (place 3 1)

abbrev pub held_is_not_final_shows : Global → Type 0
held_is_not_final_shows h = shown (run_of (held_is_not_final h) 20 granted) ≡ record { bytes = []; verdict = Finished }

--     module m; type t; integer :: i; contains; final :: f; end type; type box; type(t), allocatable :: c; end type; type(box), allocatable :: b; type(t), allocatable :: u; contains; subroutine f(x); type(t), intent(inout) :: x
--     if (x%i == 1) deallocate(b); end; end
--     program p; use m; allocate(b, u); allocate(b%c); u%i = 1
--     call move_alloc(b%c, u); end
abbrev pub move_lends : Global → Program
move_lends h = program h (derived h 0 (comp (declared h (kind base.Integer 0 false) [] tt [] tt) false ∷ []) tt (final 0 0 ∷ []) tt
    ∷ derived h 0 (comp (declared h (kind (base.Derived 0) 0 true) [] tt [] tt) false ∷ []) tt [] tt ∷ []) tt
    (static (declared h (kind (base.Derived 1) 0 true) [] tt [] tt) 0 false ∷ static (declared h (kind (base.Derived 0) 0 true) [] tt [] tt) 0 false ∷ []) tt
    (procedure h 0 (dummy h (kind (base.Derived 0) 0 false) intent.InOut [] tt ∷ []) tt [] tt None
    (block h (at h 2 1 true (when h (bin h o.Equal base.Logical (var h (member h (name (n.Lent 0) l.Whole) 0 l.Whole)) (num (pos 1)))
    (s.Deallocate (vec h (request h (name (n.Static 0) l.Whole) (kind (base.Derived 1) 0 true) [] tt ∷ []) tt) None) (block h [] tt)) ∷ []) tt)
    (place 2 30) ∷ []) tt
    (procedure h 2 [] tt [] tt None (block h (at h 3 19 true (s.Allocate
    (vec h (request h (name (n.Static 0) l.Whole) (kind (base.Derived 1) 0 true) [] tt
    ∷ request h (name (n.Static 1) l.Whole) (kind (base.Derived 0) 0 true) [] tt ∷ []) tt) None)
    ∷ at h 3 35 true (s.Allocate (vec h (request h (member h (name (n.Static 0) l.Contents) 0 l.Whole) (kind (base.Derived 0) 0 true) [] tt ∷ [])
    tt) None) ∷ at h 3 50 true (s.Assign (member h (name (n.Static 1) l.Contents) 0 l.Whole) (kind base.Integer 0 false) (num (pos 1)))
    ∷ at h 4 1 true (s.MoveAlloc (kind (base.Derived 0) 0 true) true (member h (name (n.Static 0) l.Contents) 0 l.Whole)
    (name (n.Static 1) l.Whole)) ∷ []) tt) (place 4 26))
    (place 3 1)

abbrev pub move_lends_shows : Global → Type 0
move_lends_shows h = shown (run_of (move_lends h) 20 granted) ≡ record { bytes = []; verdict = Failed 9 2 1 }

--     program p; integer, allocatable :: i
--     do i = 1/0, 2; end do; end
abbrev pub bounds_before_variable : Global → Program
bounds_before_variable h = program h [] tt
    [] tt
    [] tt
    (procedure h 0 [] tt ((declared h (kind base.Integer 0 true) [] tt [] tt) ∷ []) tt None
    (block h (at h 2 1 true (for h (name (n.Local 0) l.Contents) (kind base.Integer 0 false)
    (bin h o.Divide base.Integer (num (pos 1)) (num (pos 0))) (num (pos 2)) (num (pos 1)) (block h [] tt)) ∷ []) tt) (place 2 24))
    (place 1 1)

abbrev pub bounds_before_variable_shows : Global → Type 0
bounds_before_variable_shows h = shown (run_of (bounds_before_variable h) 20 granted) ≡ record { bytes = []; verdict = Failed 2 2 1 }

--     module m; type t; integer :: i; contains; final :: f; end type; contains; subroutine f(x); type(t), intent(inout) :: x(:)
--     print *, "f"; end; end
--     program p; use m; type(t) :: x(2), y(3)
--     x = y; end
abbrev pub shapes_before_destroying : Global → Program
shapes_before_destroying h = program h (derived h 0 (comp (declared h (kind base.Integer 0 false) [] tt [] tt) false ∷ []) tt (final 1 0 ∷ []) tt ∷ []) tt
    [] tt
    (procedure h 0 (dummy h (kind (base.Derived 0) 1 false) intent.InOut ((pos 1) ∷ []) tt ∷ []) tt [] tt None
    (block h (at h 2 1 true (s.Print (vec h (text h (102 ∷ []) tt ∷ []) tt)) ∷ []) tt) (place 2 15) ∷ []) tt
    (procedure h 2 [] tt ((declared h (kind (base.Derived 0) 1 false) (dim (pos 1) 2 ∷ []) tt [] tt)
    ∷ (declared h (kind (base.Derived 0) 1 false) (dim (pos 1) 3 ∷ []) tt [] tt) ∷ []) tt None
    (block h (at h 4 1 true (s.Assign (name (n.Local 0) l.Whole) (kind (base.Derived 0) 1 false) (var h (name (n.Local 1) l.Whole))) ∷ []) tt) (place 4 8))
    (place 3 1)

abbrev pub shapes_before_destroying_shows : Global → Type 0
shapes_before_destroying_shows h = shown (run_of (shapes_before_destroying h) 20 granted) ≡ record { bytes = []; verdict = Failed 7 4 1 }

--     program p; integer :: a(2, 2); a = 0
--     print *, a(9, 1:2:0); end
abbrev pub step_before_bounds : Global → Program
step_before_bounds h = program h [] tt
    [] tt
    [] tt
    (procedure h 0 [] tt ((declared h (kind base.Integer 2 false) (dim (pos 1) 2 ∷ dim (pos 1) 2 ∷ []) tt [] tt) ∷ []) tt None
    (block h (at h 1 32 true (s.Assign (name (n.Local 0) l.Whole) (kind base.Integer 2 false) (num (pos 0)))
    ∷ at h 2 1 true (s.Print (vec h (item.Value (var h (name (n.Local 0)
    (elements h false (sub h (num (pos 9)) ∷ triplet h true (num (pos 1)) true (num (pos 2)) (num (pos 0)) ∷ []) tt))) ∷ []) tt)) ∷ []) tt) (place 2 23))
    (place 1 1)

abbrev pub step_before_bounds_shows : Global → Type 0
step_before_bounds_shows h = shown (run_of (step_before_bounds h) 20 granted) ≡ record { bytes = []; verdict = Failed 8 2 1 }

--     program p; integer, allocatable :: a(:)
--     print *, a(1/0); end
abbrev pub subscripts_before_contents : Global → Program
subscripts_before_contents h = program h [] tt
    [] tt
    [] tt
    (procedure h 0 [] tt ((declared h (kind base.Integer 1 true) [] tt [] tt) ∷ []) tt None
    (block h (at h 2 1 true (s.Print (vec h (item.Value (var h
    (name (n.Local 0) (elements h true (sub h (bin h o.Divide base.Integer (num (pos 1)) (num (pos 0))) ∷ []) tt))) ∷ []) tt)) ∷ []) tt) (place 2 18))
    (place 1 1)

abbrev pub subscripts_before_contents_shows : Global → Type 0
subscripts_before_contents_shows h = shown (run_of (subscripts_before_contents h) 20 granted) ≡ record { bytes = []; verdict = Failed 2 2 1 }

--     program p; integer, allocatable :: v(:); allocate(v(5:4))
--     associate (z => v); print *, lbound(z, 1), size(z(:2)); end associate; end
abbrev pub associate_from_one : Global → Program
associate_from_one h = program h [] tt
    [] tt
    [] tt
    (procedure h 0 [] tt ((declared h (kind base.Integer 1 true) [] tt [] tt) ∷ []) tt None
    (block h (at h 1 42 true (s.Allocate (vec h (request h (name (n.Local 0) l.Whole) (kind base.Integer 1 true)
    (bounds (num (pos 5)) (num (pos 4)) ∷ []) tt ∷ []) tt) None)
    ∷ at h 2 1 true (associate h (selector.Variable (name (n.Local 0) l.Contents) ∷ []) tt
    (block h (at h 2 21 true (s.Print (vec h (item.Value (asks h query.Lower (ref h 0 (name (n.Lent 0) l.Whole)) (num (pos 1)))
    ∷ item.Value (size h (ref h 0 (name (n.Lent 0) (elements h false (triplet h false (num (pos 1)) true (num (pos 2)) (num (pos 1)) ∷ []) tt))))
    ∷ []) tt)) ∷ []) tt)) ∷ []) tt) (place 2 72))
    (place 1 1)

abbrev pub associate_from_one_shows : Global → Type 0
associate_from_one_shows h = shown (run_of (associate_from_one h) 20 granted) ≡ record { bytes = (codes " 1"); verdict = Failed 3 2 21 }

-- With at most 4 active procedures.
--     module m; type t; integer :: i; contains; final :: f; end type; contains; subroutine f(x); type(t), intent(inout) :: x
--     print *, "f", x%i; end; recursive subroutine s(n); integer, intent(in) :: n; type(t) :: x; x%i = n
--     if (n == 4) return; call s(n + 1); end; end
--     program p; use m; call s(1); end
abbrev pub locals_at_return : Global → Program
locals_at_return h = program h (derived h 0 (comp (declared h (kind base.Integer 0 false) [] tt [] tt) false ∷ []) tt (final 0 0 ∷ []) tt ∷ []) tt
    [] tt
    (procedure h 0 (dummy h (kind (base.Derived 0) 0 false) intent.InOut [] tt ∷ []) tt [] tt None
    (block h (at h 2 1 true (s.Print (vec h (text h (102 ∷ []) tt ∷ item.Value (var h (member h (name (n.Lent 0) l.Whole) 0 l.Whole)) ∷ []) tt))
    ∷ []) tt) (place 2 20) ∷ procedure h 0 (dummy h (kind base.Integer 0 false) intent.In [] tt ∷ []) tt
    ((declared h (kind (base.Derived 0) 0 false) [] tt [] tt) ∷ []) tt None
    (block h (at h 2 92 true (s.Assign (member h (name (n.Local 0) l.Whole) 0 l.Whole) (kind base.Integer 0 false)
    (var h (name (n.Lent 0) l.Whole))) ∷ at h 3 1 true (when h (bin h o.Equal base.Logical (var h (name (n.Lent 0) l.Whole)) (num (pos 4)))
    s.Return (block h [] tt)) ∷ at h 3 21 true (s.Call (call h 1
    (val h 0 (bin h o.Add base.Integer (var h (name (n.Lent 0) l.Whole)) (num (pos 1))) ∷ []) tt)) ∷ []) tt) (place 3 36) ∷ []) tt
    (procedure h 3 [] tt [] tt None (block h (at h 4 19 true (s.Call (call h 1 (val h 0 (num (pos 1)) ∷ []) tt)) ∷ []) tt) (place 4 30))
    (place 4 1)

abbrev pub locals_at_return_shows : Global → Type 0
locals_at_return_shows h = shown (runs 4 (locals_at_return h) 20 granted) ≡ record { bytes = []; verdict = Failed 10 3 1 }

-- With at most 4 active procedures.
--     module m; type t; integer :: i; contains; final :: f; end type; contains; subroutine f(x); type(t), intent(inout) :: x
--     print *, "f", x%i; end; recursive subroutine s(n); integer, intent(in) :: n; type(t) :: x; x%i = n
--     if (n < 4) call s(n + 1); end; end
--     program p; use m; call s(1); end
abbrev pub locals_at_end : Global → Program
locals_at_end h = program h (derived h 0 (comp (declared h (kind base.Integer 0 false) [] tt [] tt) false ∷ []) tt (final 0 0 ∷ []) tt ∷ []) tt
    [] tt
    (procedure h 0 (dummy h (kind (base.Derived 0) 0 false) intent.InOut [] tt ∷ []) tt [] tt None
    (block h (at h 2 1 true (s.Print (vec h (text h (102 ∷ []) tt ∷ item.Value (var h (member h (name (n.Lent 0) l.Whole) 0 l.Whole)) ∷ []) tt))
    ∷ []) tt) (place 2 20) ∷ procedure h 0 (dummy h (kind base.Integer 0 false) intent.In [] tt ∷ []) tt
    ((declared h (kind (base.Derived 0) 0 false) [] tt [] tt) ∷ []) tt None
    (block h (at h 2 92 true (s.Assign (member h (name (n.Local 0) l.Whole) 0 l.Whole) (kind base.Integer 0 false)
    (var h (name (n.Lent 0) l.Whole))) ∷ at h 3 1 true (when h (bin h o.Less base.Logical (var h (name (n.Lent 0) l.Whole)) (num (pos 4)))
    (s.Call (call h 1 (val h 0 (bin h o.Add base.Integer (var h (name (n.Lent 0) l.Whole)) (num (pos 1))) ∷ []) tt)) (block h [] tt)) ∷ []) tt)
    (place 3 27) ∷ []) tt
    (procedure h 3 [] tt [] tt None (block h (at h 4 19 true (s.Call (call h 1 (val h 0 (num (pos 1)) ∷ []) tt)) ∷ []) tt) (place 4 30))
    (place 4 1)

abbrev pub locals_at_end_shows : Global → Type 0
locals_at_end_shows h = shown (runs 4 (locals_at_end h) 20 granted) ≡ record { bytes = []; verdict = Failed 10 3 27 }

-- Where the heap refuses what it is asked for as the third.
--     program p; integer, allocatable :: a(:); integer :: s
--     allocate(a(1), stat=s); allocate(a(1), stat=s); deallocate(a); allocate(a(1), stat=s); print *, s; end
abbrev pub asked_for_objects : Global → Program
asked_for_objects h = program h [] tt
    [] tt
    [] tt
    (procedure h 0 [] tt ((declared h (kind base.Integer 1 true) [] tt [] tt) ∷ (declared h (kind base.Integer 0 false) [] tt [] tt) ∷ []) tt None
    (block h (at h 2 1 true (s.Allocate (vec h (request h (name (n.Local 0) l.Whole) (kind base.Integer 1 true)
    (bounds (num (pos 1)) (num (pos 1)) ∷ []) tt ∷ []) tt) (Some (name (n.Local 1) l.Whole)))
    ∷ at h 2 25 true (s.Allocate (vec h (request h (name (n.Local 0) l.Whole) (kind base.Integer 1 true)
    (bounds (num (pos 1)) (num (pos 1)) ∷ []) tt ∷ []) tt) (Some (name (n.Local 1) l.Whole)))
    ∷ at h 2 49 true (s.Deallocate (vec h (request h (name (n.Local 0) l.Whole) (kind base.Integer 1 true) [] tt ∷ []) tt) None)
    ∷ at h 2 64 true (s.Allocate (vec h (request h (name (n.Local 0) l.Whole) (kind base.Integer 1 true)
    (bounds (num (pos 1)) (num (pos 1)) ∷ []) tt ∷ []) tt) (Some (name (n.Local 1) l.Whole)))
    ∷ at h 2 88 true (s.Print (vec h (item.Value (var h (name (n.Local 1) l.Whole)) ∷ []) tt)) ∷ []) tt) (place 2 100))
    (place 1 1)

abbrev pub asked_for_objects_shows : Global → Type 0
asked_for_objects_shows h = shown (run_of (asked_for_objects h) 20 (refusing (3 ∷ []))) ≡ record { bytes = (lines (codes " 6" ∷ [])); verdict = Finished }

-- Where the heap refuses the second time.
--     program p; print *, [1, 2]; end
abbrev pub array_constructor : Global → Program
array_constructor h = program h [] tt
    [] tt
    [] tt
    (procedure h 0 [] tt [] tt None (block h (at h 1 12 true (s.Print
    (vec h (item.Value (array h (val h 0 (num (pos 1)) ∷ val h 0 (num (pos 2)) ∷ []) tt) ∷ []) tt)) ∷ []) tt) (place 1 29))
    (place 1 1)

abbrev pub array_constructor_shows : Global → Type 0
array_constructor_shows h = shown (run_of (array_constructor h) 20 (refusing (2 ∷ []))) ≡ record { bytes = []; verdict = Failed 6 1 12 }

-- Where the heap refuses the third time, or never: the first is the start, the second the call, the third the value at the END.
--     module m; contains; function f(n); integer, intent(in) :: n; integer :: f(2); f = n; end; end
--     program p; use m; print *, f(3); end
abbrev pub array_result : Global → Program
array_result h = program h [] tt
    [] tt
    (procedure h 0 (dummy h (kind base.Integer 0 false) intent.In [] tt ∷ []) tt [] tt
    (Some (declared h (kind base.Integer 1 false) (dim (pos 1) 2 ∷ []) tt [] tt))
    (block h (at h 1 79 true (s.Assign (name (n.Local 0) l.Whole) (kind base.Integer 1 false) (var h (name (n.Lent 0) l.Whole))) ∷ []) tt)
    (place 1 86) ∷ []) tt
    (procedure h 2 [] tt [] tt None (block h (at h 2 19 true (s.Print (vec h (item.Value (call h 0 (val h 0 (num (pos 3)) ∷ []) tt) ∷ []) tt)) ∷ [])
    tt) (place 2 34))
    (place 2 1)

abbrev pub array_result_shows : Global → Type 0
array_result_shows h = shown (run_of (array_result h) 20 (refusing (3 ∷ []))) ≡ record { bytes = []; verdict = Failed 6 1 86 }

-- Where the heap refuses the third time, the fourth, or the fifth: the first is the start, the second the ALLOCATE, the third what
-- the component takes, the fourth the constructor.
--     module m; type t; integer, allocatable :: v(:); end type; end
--     program p; use m; type(t) :: a(2); integer, allocatable :: v(:); integer :: k; k = 5; allocate(v(2))
--     a(k) = t(v); end
abbrev pub component_values : Global → Program
component_values h = program h (derived h 0 (comp (declared h (kind base.Integer 1 true) [] tt [] tt) false ∷ []) tt [] tt ∷ []) tt
    [] tt
    [] tt
    (procedure h 1 [] tt ((declared h (kind (base.Derived 0) 1 false) (dim (pos 1) 2 ∷ []) tt [] tt)
    ∷ (declared h (kind base.Integer 1 true) [] tt [] tt) ∷ (declared h (kind base.Integer 0 false) [] tt [] tt) ∷ []) tt None
    (block h (at h 2 80 true (s.Assign (name (n.Local 2) l.Whole) (kind base.Integer 0 false) (num (pos 5)))
    ∷ at h 2 87 true (s.Allocate (vec h (request h (name (n.Local 1) l.Whole) (kind base.Integer 1 true)
    (bounds (num (pos 1)) (num (pos 2)) ∷ []) tt ∷ []) tt) None)
    ∷ at h 3 1 true (s.Assign (name (n.Local 0) (elements h false (sub h (var h (name (n.Local 2) l.Whole)) ∷ []) tt))
    (kind (base.Derived 0) 0 false) (struct h 0 (ref h 0 (name (n.Local 1) l.Whole) ∷ []) tt)) ∷ []) tt) (place 3 14))
    (place 2 1)

abbrev pub component_values_shows : Global → Type 0
component_values_shows h = shown (run_of (component_values h) 20 (refusing (3 ∷ []))) ≡ record { bytes = []; verdict = Failed 6 3 1 }

-- Where the heap refuses the third time: the first is the start, the second the copy, the third what is held, the fourth the call.
--     module m; contains; subroutine s(x); integer, intent(in) :: x(:); end; end; program p; use m; integer :: a(2)
--     call s((a)); end
abbrev pub held_value : Global → Program
held_value h = program h [] tt
    [] tt
    (procedure h 0 (dummy h (kind base.Integer 1 false) intent.In ((pos 1) ∷ []) tt ∷ []) tt [] tt None (block h [] tt) (place 1 67) ∷ []) tt
    (procedure h 2 [] tt ((declared h (kind base.Integer 1 false) (dim (pos 1) 2 ∷ []) tt [] tt) ∷ []) tt None
    (block h (at h 2 1 true (s.Call (call h 0 (val h 0 (group h (var h (name (n.Local 0) l.Whole))) ∷ []) tt)) ∷ []) tt) (place 2 14))
    (place 1 77)

abbrev pub held_value_shows : Global → Type 0
held_value_shows h = shown (run_of (held_value h) 20 (refusing (3 ∷ []))) ≡ record { bytes = []; verdict = Failed 6 2 1 }

abbrev pub array_result_2_shows : Global → Type 0
array_result_2_shows h = shown (run_of (array_result h) 20 granted) ≡ record { bytes = (lines (codes " 3 3" ∷ [])); verdict = Finished }

abbrev pub component_values_2_shows : Global → Type 0
component_values_2_shows h = shown (run_of (component_values h) 20 (refusing (5 ∷ []))) ≡ record { bytes = []; verdict = Failed 3 3 1 }

abbrev pub component_values_3_shows : Global → Type 0
component_values_3_shows h = shown (run_of (component_values h) 20 (refusing (4 ∷ []))) ≡ record { bytes = []; verdict = Failed 6 3 1 }

abbrev pub held_value_2_shows : Global → Type 0
held_value_2_shows h = shown (run_of (held_value h) 20 (refusing (5 ∷ []))) ≡ record { bytes = []; verdict = Finished }

abbrev pub held_value_3_shows : Global → Type 0
held_value_3_shows h = shown (run_of (held_value h) 20 (refusing (4 ∷ []))) ≡ record { bytes = []; verdict = Failed 6 2 1 }

-- Where the heap refuses the third time: the second is the array constructor.
--     program p; integer, allocatable :: a(:)
--     a = [1, 2]; end
abbrev pub allocation_by_assignment : Global → Program
allocation_by_assignment h = program h [] tt
    [] tt
    [] tt
    (procedure h 0 [] tt ((declared h (kind base.Integer 1 true) [] tt [] tt) ∷ []) tt None
    (block h (at h 2 1 true (s.Assign (name (n.Local 0) l.Whole) (kind base.Integer 1 true)
    (array h (val h 0 (num (pos 1)) ∷ val h 0 (num (pos 2)) ∷ []) tt)) ∷ []) tt) (place 2 13))
    (place 1 1)

abbrev pub allocation_by_assignment_shows : Global → Type 0
allocation_by_assignment_shows h = shown (run_of (allocation_by_assignment h) 20 (refusing (3 ∷ []))) ≡ record { bytes = []; verdict = Failed 6 2 1 }

abbrev pub allocation_by_assignment_2_shows : Global → Type 0
allocation_by_assignment_2_shows h = shown (run_of (allocation_by_assignment h) 20 (refusing (4 ∷ []))) ≡ record { bytes = []; verdict = Finished }

abbrev pub asked_for_objects_asks : Global → Type 0
asked_for_objects_asks h = requests (run_of (asked_for_objects h) 20 (refusing (3 ∷ []))).out ≡ false ∷ true ∷ []

abbrev pub MoreShow : Type 0
MoreShow = (h : Global) →
    stat_last_shows h
    × IsLawful (stat_last h)
    × out_while_lent_shows h
    × IsLawful (out_while_lent h)
    × held_is_not_final_shows h
    × IsLawful (held_is_not_final h)
    × move_lends_shows h
    × IsLawful (move_lends h)
    × bounds_before_variable_shows h
    × IsLawful (bounds_before_variable h)
    × shapes_before_destroying_shows h
    × IsLawful (shapes_before_destroying h)
    × step_before_bounds_shows h
    × IsLawful (step_before_bounds h)
    × subscripts_before_contents_shows h
    × IsLawful (subscripts_before_contents h)
    × associate_from_one_shows h
    × IsLawful (associate_from_one h)
    × locals_at_return_shows h
    × IsLawful (locals_at_return h)
    × locals_at_end_shows h
    × IsLawful (locals_at_end h)
    × asked_for_objects_shows h
    × IsLawful (asked_for_objects h)
    × array_constructor_shows h
    × IsLawful (array_constructor h)
    × array_result_shows h
    × IsLawful (array_result h)
    × component_values_shows h
    × IsLawful (component_values h)
    × held_value_shows h
    × IsLawful (held_value h)
    × array_result_2_shows h
    × component_values_2_shows h
    × component_values_3_shows h
    × held_value_2_shows h
    × held_value_3_shows h
    × allocation_by_assignment_shows h
    × IsLawful (allocation_by_assignment h)
    × allocation_by_assignment_2_shows h
    × asked_for_objects_asks h
