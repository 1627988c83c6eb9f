-- Programs, elaborated, with their sources above.
use Rattle.std.specs.Prelude.{pos, true, false, [], ◌∷◌, None, Some, codes, ◌≡◌}
use Rattle.std.specs.declared.alloc.Global.{Global}
use Rattle.f3_program.specs.declared.declarations.Base.TheVariants as base
use Rattle.f3_program.specs.declared.declarations.Constant.TheVariants as constant
use Rattle.f3_program.specs.declared.expression.UnaryOperator.TheVariants as c
use Rattle.f3_program.specs.declared.expression.Name.TheVariants as n
use Rattle.f3_program.specs.declared.expression.BinaryOperator.TheVariants as o
use Rattle.f3_program.specs.declared.expression.Query.TheVariants as query
use Rattle.f3_program.specs.declared.expression.Selection as l
use Rattle.f3_program.specs.declared.statement.Item.TheVariants as item
use Rattle.f3_program.specs.declared.statement.Selector.TheVariants as selector
use Rattle.f3_program.specs.declared.statement.Statement as s
use Rattle.f3_program.specs.declared.program.Intent.TheVariants as intent
use Rattle.f3_program.specs.declared.program.Program.{Program}
use Rattle.f3_meaning_whole.specs.Run.{run_of}
use Rattle.f3_meaning_whole.specs.Permitted.{IsLawful}
use Rattle.f3_meaning_rows.specs.Shown.{granted, shown, lines, Finished, Failed}
use Rattle.f3_meaning_rows.specs.Build.{vec, place, kind, dim, declared, comp, derived, final, num, var, group, unary, bin, array, call, allocated}
use Rattle.f3_meaning_rows.specs.Build.{size, query as asks, val, ref, name, member, elements, sub, range as triplet, at, block, when, associate}
use Rattle.f3_meaning_rows.specs.Build.{bounds, request, text, dummy, static, procedure, program}

--     module m; type t; integer, allocatable :: c(:); end type; end
--     program p; use m; type(t) :: x, y
--     allocate(x%c(0:1)); x%c = 4; y = x; y%c(0) = 9
--     print *, x%c, y%c, lbound(y%c,1); deallocate(x%c); y = x; print *, allocated(y%c)
--     end
abbrev pub allocatable_01_deep_copy : Global → Program
allocatable_01_deep_copy h = program h (derived h 0 (comp (declared h (kind base.Integer 1 true) [] tt [] tt) false ∷ []) tt [] tt ∷ []) tt
    [] tt
    [] tt
    (procedure h 1 [] tt ((declared h (kind (base.Derived 0) 0 false) [] tt [] tt) ∷ (declared h (kind (base.Derived 0) 0 false) [] tt [] tt) ∷ [])
    tt None (block h (at h 3 1 true (s.Allocate (vec h (request h (member h (name (n.Local 0) l.Whole) 0 l.Whole) (kind base.Integer 1 true)
    (bounds (num (pos 0)) (num (pos 1)) ∷ []) tt ∷ []) tt) None)
    ∷ at h 3 21 true (s.Assign (member h (name (n.Local 0) l.Whole) 0 l.Whole) (kind base.Integer 1 true) (num (pos 4)))
    ∷ at h 3 30 true (s.Assign (name (n.Local 1) l.Whole) (kind (base.Derived 0) 0 false) (var h (name (n.Local 0) l.Whole)))
    ∷ at h 3 37 true (s.Assign (member h (name (n.Local 1) l.Whole) 0 (elements h true (sub h (num (pos 0)) ∷ []) tt))
    (kind base.Integer 0 false) (num (pos 9))) ∷ at h 4 1 true
    (s.Print (vec h (item.Value (var h (member h (name (n.Local 0) l.Whole) 0 l.Contents))
    ∷ item.Value (var h (member h (name (n.Local 1) l.Whole) 0 l.Contents))
    ∷ item.Value (asks h query.Lower (ref h 0 (member h (name (n.Local 1) l.Whole) 0 l.Contents)) (num (pos 1))) ∷ []) tt))
    ∷ at h 4 35 true (s.Deallocate (vec h (request h (member h (name (n.Local 0) l.Whole) 0 l.Whole) (kind base.Integer 1 true) [] tt ∷ []) tt)
    None) ∷ at h 4 52 true (s.Assign (name (n.Local 1) l.Whole) (kind (base.Derived 0) 0 false) (var h (name (n.Local 0) l.Whole)))
    ∷ at h 4 59 true (s.Print (vec h (item.Value (allocated h (member h (name (n.Local 1) l.Whole) 0 l.Whole)) ∷ []) tt)) ∷ []) tt) (place 5 1))
    (place 2 1)

--     program p; integer, allocatable :: a(:), b(:); integer :: s
--     a = 1
--     end
abbrev pub allocatable_02_scalar_value : Global → Program
allocatable_02_scalar_value h = program h [] tt
    [] tt
    [] tt
    (procedure h 0 [] tt ((declared h (kind base.Integer 1 true) [] tt [] tt) ∷ (declared h (kind base.Integer 1 true) [] tt [] tt)
    ∷ (declared h (kind base.Integer 0 false) [] tt [] tt) ∷ []) tt None
    (block h (at h 2 1 true (s.Assign (name (n.Local 0) l.Whole) (kind base.Integer 1 true) (num (pos 1))) ∷ []) tt) (place 3 1))
    (place 1 1)

--     program p; integer, allocatable :: a(:), b(:); integer :: s
--     allocate(b(1)); allocate(a(2), b(2), stat=s); print *, s, allocated(a), size(b); deallocate(a, a, stat=s); print *, s
--     end
abbrev pub allocatable_02_stat : Global → Program
allocatable_02_stat h = program h [] tt
    [] tt
    [] tt
    (procedure h 0 [] tt ((declared h (kind base.Integer 1 true) [] tt [] tt) ∷ (declared h (kind base.Integer 1 true) [] tt [] tt)
    ∷ (declared h (kind base.Integer 0 false) [] tt [] tt) ∷ []) tt None
    (block h (at h 2 1 true (s.Allocate (vec h (request h (name (n.Local 1) l.Whole) (kind base.Integer 1 true)
    (bounds (num (pos 1)) (num (pos 1)) ∷ []) tt ∷ []) tt) None)
    ∷ at h 2 17 true (s.Allocate (vec h (request h (name (n.Local 0) l.Whole) (kind base.Integer 1 true)
    (bounds (num (pos 1)) (num (pos 2)) ∷ []) tt ∷ request h (name (n.Local 1) l.Whole) (kind base.Integer 1 true)
    (bounds (num (pos 1)) (num (pos 2)) ∷ []) tt ∷ []) tt) (Some (name (n.Local 2) l.Whole)))
    ∷ at h 2 47 true (s.Print (vec h (item.Value (var h (name (n.Local 2) l.Whole)) ∷ item.Value (allocated h (name (n.Local 0) l.Whole))
    ∷ item.Value (size h (ref h 0 (name (n.Local 1) l.Contents))) ∷ []) tt))
    ∷ at h 2 82 true (s.Deallocate (vec h (request h (name (n.Local 0) l.Whole) (kind base.Integer 1 true) [] tt
    ∷ request h (name (n.Local 0) l.Whole) (kind base.Integer 1 true) [] tt ∷ []) tt) (Some (name (n.Local 2) l.Whole)))
    ∷ at h 2 108 true (s.Print (vec h (item.Value (var h (name (n.Local 2) l.Whole)) ∷ []) tt)) ∷ []) tt) (place 3 1))
    (place 1 1)

--     program p; integer, allocatable :: a(:), b(:); integer :: s
--     allocate(a(16777217), stat=s); print *, s
--     end
abbrev pub allocatable_02_too_large : Global → Program
allocatable_02_too_large h = program h [] tt
    [] tt
    [] tt
    (procedure h 0 [] tt ((declared h (kind base.Integer 1 true) [] tt [] tt) ∷ (declared h (kind base.Integer 1 true) [] tt [] tt)
    ∷ (declared h (kind base.Integer 0 false) [] tt [] tt) ∷ []) tt None
    (block h (at h 2 1 true (s.Allocate (vec h (request h (name (n.Local 0) l.Whole) (kind base.Integer 1 true)
    (bounds (num (pos 1)) (num (pos 16777217)) ∷ []) tt ∷ []) tt) (Some (name (n.Local 2) l.Whole)))
    ∷ at h 2 32 true (s.Print (vec h (item.Value (var h (name (n.Local 2) l.Whole)) ∷ []) tt)) ∷ []) tt) (place 3 1))
    (place 1 1)

--     module m; contains
--     subroutine s(x); integer, intent(inout) :: x(5:); x(7) = x(5); print *, lbound(x,1), ubound(x,1); end
--     end
--     program p; use m; integer :: a(6); a = [1, 2, 3, 4, 5, 6]
--     call s(a(6:2:-2)); print *, a
--     end
abbrev pub allocatable_03_assumed_shape : Global → Program
allocatable_03_assumed_shape h = program h [] tt
    [] tt
    (procedure h 0 (dummy h (kind base.Integer 1 false) intent.InOut ((pos 5) ∷ []) tt ∷ []) tt [] tt None
    (block h (at h 2 51 true (s.Assign (name (n.Lent 0) (elements h false (sub h (num (pos 7)) ∷ []) tt)) (kind base.Integer 0 false)
    (var h (name (n.Lent 0) (elements h false (sub h (num (pos 5)) ∷ []) tt))))
    ∷ at h 2 64 true (s.Print (vec h (item.Value (asks h query.Lower (ref h 0 (name (n.Lent 0) l.Whole)) (num (pos 1)))
    ∷ item.Value (asks h query.Upper (ref h 0 (name (n.Lent 0) l.Whole)) (num (pos 1))) ∷ []) tt)) ∷ []) tt) (place 2 99) ∷ []) tt
    (procedure h 2 [] tt ((declared h (kind base.Integer 1 false) (dim (pos 1) 6 ∷ []) tt [] tt) ∷ []) tt None
    (block h (at h 4 36 true (s.Assign (name (n.Local 0) l.Whole) (kind base.Integer 1 false)
    (array h (val h 0 (num (pos 1)) ∷ val h 0 (num (pos 2)) ∷ val h 0 (num (pos 3)) ∷ val h 0 (num (pos 4)) ∷ val h 0 (num (pos 5))
    ∷ val h 0 (num (pos 6)) ∷ []) tt)) ∷ at h 5 1 true (s.Call
    (call h 0 (ref h 0 (name (n.Local 0) (elements h false
    (triplet h true (num (pos 6)) true (num (pos 2)) (unary h c.Negate base.Integer (num (pos 2))) ∷ []) tt)) ∷ []) tt))
    ∷ at h 5 20 true (s.Print (vec h (item.Value (var h (name (n.Local 0) l.Whole)) ∷ []) tt)) ∷ []) tt) (place 6 1))
    (place 4 1)

--     program p; integer, allocatable :: v(:); allocate(v(2:3)); v = 5
--     associate (z => v, y => v(2) + 1)
--     deallocate(v)
--     end associate; deallocate(v); print *, allocated(v)
--     end
abbrev pub associate_01_lent : Global → Program
associate_01_lent h = program h [] tt
    [] tt
    [] tt
    (procedure h 0 [] tt ((declared h (kind base.Integer 1 true) [] tt [] tt) ∷ []) tt None
    (block h (at h 1 42 true (s.Allocate (vec h (request h (name (n.Local 0) l.Whole) (kind base.Integer 1 true)
    (bounds (num (pos 2)) (num (pos 3)) ∷ []) tt ∷ []) tt) None)
    ∷ at h 1 60 true (s.Assign (name (n.Local 0) l.Whole) (kind base.Integer 1 true) (num (pos 5)))
    ∷ at h 2 1 true (associate h (selector.Variable (name (n.Local 0) l.Contents)
    ∷ selector.Value (kind base.Integer 0 false) (bin h o.Add base.Integer
    (var h (name (n.Local 0) (elements h true (sub h (num (pos 2)) ∷ []) tt))) (num (pos 1))) ∷ []) tt
    (block h (at h 3 1 true (s.Deallocate (vec h (request h (name (n.Local 0) l.Whole) (kind base.Integer 1 true) [] tt ∷ []) tt) None) ∷ [])
    tt)) ∷ at h 4 16 true (s.Deallocate (vec h (request h (name (n.Local 0) l.Whole) (kind base.Integer 1 true) [] tt ∷ []) tt) None)
    ∷ at h 4 31 true (s.Print (vec h (item.Value (allocated h (name (n.Local 0) l.Whole)) ∷ []) tt)) ∷ []) tt) (place 5 1))
    (place 1 1)

--     program p; integer, allocatable :: v(:); allocate(v(2:3)); v = 5
--     associate (z => v, y => v(2) + 1)
--     z(3) = y; print *, lbound(z,1), v, y
--     end associate; deallocate(v); print *, allocated(v)
--     end
abbrev pub associate_01_selectors : Global → Program
associate_01_selectors h = program h [] tt
    [] tt
    [] tt
    (procedure h 0 [] tt ((declared h (kind base.Integer 1 true) [] tt [] tt) ∷ []) tt None
    (block h (at h 1 42 true (s.Allocate (vec h (request h (name (n.Local 0) l.Whole) (kind base.Integer 1 true)
    (bounds (num (pos 2)) (num (pos 3)) ∷ []) tt ∷ []) tt) None)
    ∷ at h 1 60 true (s.Assign (name (n.Local 0) l.Whole) (kind base.Integer 1 true) (num (pos 5)))
    ∷ at h 2 1 true (associate h (selector.Variable (name (n.Local 0) l.Contents)
    ∷ selector.Value (kind base.Integer 0 false) (bin h o.Add base.Integer
    (var h (name (n.Local 0) (elements h true (sub h (num (pos 2)) ∷ []) tt))) (num (pos 1))) ∷ []) tt
    (block h (at h 3 1 true (s.Assign (name (n.Lent 0) (elements h false (sub h (num (pos 3)) ∷ []) tt)) (kind base.Integer 0 false)
    (var h (name (n.Lent 1) l.Whole))) ∷ at h 3 11 true (s.Print
    (vec h (item.Value (asks h query.Lower (ref h 0 (name (n.Lent 0) l.Whole)) (num (pos 1))) ∷ item.Value (var h (name (n.Local 0) l.Contents))
    ∷ item.Value (var h (name (n.Lent 1) l.Whole)) ∷ []) tt)) ∷ []) tt))
    ∷ at h 4 16 true (s.Deallocate (vec h (request h (name (n.Local 0) l.Whole) (kind base.Integer 1 true) [] tt ∷ []) tt) None)
    ∷ at h 4 31 true (s.Print (vec h (item.Value (allocated h (name (n.Local 0) l.Whole)) ∷ []) tt)) ∷ []) tt) (place 5 1))
    (place 1 1)

--     module m; contains
--     subroutine s(); integer, allocatable :: v(:); allocate(v(2)); v = 1
--     associate (z => v); print *, z; return; end associate; end
--     end
--     program p; use m; call s(); print *, 7; end
abbrev pub associate_03_return : Global → Program
associate_03_return h = program h [] tt
    [] tt
    (procedure h 0 [] tt ((declared h (kind base.Integer 1 true) [] tt [] tt) ∷ []) tt None
    (block h (at h 2 47 true (s.Allocate (vec h (request h (name (n.Local 0) l.Whole) (kind base.Integer 1 true)
    (bounds (num (pos 1)) (num (pos 2)) ∷ []) tt ∷ []) tt) None)
    ∷ at h 2 63 true (s.Assign (name (n.Local 0) l.Whole) (kind base.Integer 1 true) (num (pos 1)))
    ∷ at h 3 1 true (associate h (selector.Variable (name (n.Local 0) l.Contents) ∷ []) tt
    (block h (at h 3 21 true (s.Print (vec h (item.Value (var h (name (n.Lent 0) l.Whole)) ∷ []) tt)) ∷ at h 3 33 true s.Return ∷ []) tt)) ∷ [])
    tt) (place 3 56) ∷ []) tt
    (procedure h 3 [] tt [] tt None (block h (at h 5 19 true (s.Call (call h 0 [] tt))
    ∷ at h 5 29 true (s.Print (vec h (item.Value (num (pos 7)) ∷ []) tt)) ∷ []) tt) (place 5 41))
    (place 5 1)

--     module m; type t; integer :: id = 0; contains; final :: fin; end type; type(t), allocatable :: v; contains
--     subroutine fin(x); type(t), intent(inout) :: x; if (allocated(v)) deallocate(v); end
--     end
--     program p; use m; allocate(v); deallocate(v); end
abbrev pub finalizer_01_frees_its_holder : Global → Program
finalizer_01_frees_its_holder h = program h (derived h 0 (comp (declared h (kind base.Integer 0 false) [] tt ((constant.Number (pos 0)) ∷ []) tt)
    false ∷ []) tt (final 0 0 ∷ []) tt ∷ []) tt
    (static (declared h (kind (base.Derived 0) 0 true) [] tt [] tt) 0 false ∷ []) tt
    (procedure h 0 (dummy h (kind (base.Derived 0) 0 false) intent.InOut [] tt ∷ []) tt [] tt None
    (block h (at h 2 49 true (when h (allocated h (name (n.Static 0) l.Whole))
    (s.Deallocate (vec h (request h (name (n.Static 0) l.Whole) (kind (base.Derived 0) 0 true) [] tt ∷ []) tt) None) (block h [] tt)) ∷ []) tt)
    (place 2 82) ∷ []) tt
    (procedure h 2 [] tt [] tt None (block h (at h 4 19 true (s.Allocate
    (vec h (request h (name (n.Static 0) l.Whole) (kind (base.Derived 0) 0 true) [] tt ∷ []) tt) None)
    ∷ at h 4 32 true (s.Deallocate (vec h (request h (name (n.Static 0) l.Whole) (kind (base.Derived 0) 0 true) [] tt ∷ []) tt) None) ∷ []) tt)
    (place 4 47))
    (place 4 1)

--     module m; type c; integer :: id = 1; contains; final :: fc; end type
--     type t; type(c) :: a; type(c), allocatable :: b(:); contains; final :: ft; end type; contains
--     subroutine fc(x); type(c), intent(inout) :: x; print *, 'c', x%id; end
--     subroutine ft(x); type(t), intent(inout) :: x; print *, 't', allocated(x%b); end
--     subroutine go(); type(t) :: x; allocate(x%b(2)); print *, 'g'; end
--     end
--     program p; use m; call go(); end
abbrev pub finalizer_02_order : Global → Program
finalizer_02_order h = program h (derived h 0 (comp (declared h (kind base.Integer 0 false) [] tt ((constant.Number (pos 1)) ∷ []) tt) false ∷ []) tt
    (final 0 0 ∷ []) tt ∷ derived h 0 (comp (declared h (kind (base.Derived 0) 0 false) [] tt [] tt) false
    ∷ comp (declared h (kind (base.Derived 0) 1 true) [] tt [] tt) false ∷ []) tt (final 0 1 ∷ []) tt ∷ []) tt
    [] tt
    (procedure h 0 (dummy h (kind (base.Derived 0) 0 false) intent.InOut [] tt ∷ []) tt [] tt None
    (block h (at h 3 48 true (s.Print (vec h (text h (99 ∷ []) tt ∷ item.Value (var h (member h (name (n.Lent 0) l.Whole) 0 l.Whole)) ∷ []) tt))
    ∷ []) tt) (place 3 68) ∷ procedure h 0 (dummy h (kind (base.Derived 1) 0 false) intent.InOut [] tt ∷ []) tt [] tt None
    (block h (at h 4 48 true (s.Print (vec h (text h (116 ∷ []) tt ∷ item.Value (allocated h (member h (name (n.Lent 0) l.Whole) 1 l.Whole))
    ∷ []) tt)) ∷ []) tt) (place 4 78) ∷ procedure h 0 [] tt ((declared h (kind (base.Derived 1) 0 false) [] tt [] tt) ∷ []) tt None
    (block h (at h 5 32 true (s.Allocate (vec h (request h (member h (name (n.Local 0) l.Whole) 1 l.Whole) (kind (base.Derived 0) 1 true)
    (bounds (num (pos 1)) (num (pos 2)) ∷ []) tt ∷ []) tt) None) ∷ at h 5 50 true (s.Print (vec h (text h (103 ∷ []) tt ∷ []) tt)) ∷ []) tt)
    (place 5 64) ∷ []) tt
    (procedure h 4 [] tt [] tt None (block h (at h 7 19 true (s.Call (call h 2 [] tt)) ∷ []) tt) (place 7 30))
    (place 7 1)

--     program p; integer, allocatable :: a(:); integer :: s; s = 1
--     allocate(a(1000), stat=s); print *, s, allocated(a)
--     end
abbrev pub heap_01_stat_ample : Global → Program
heap_01_stat_ample h = program h [] tt
    [] tt
    [] tt
    (procedure h 0 [] tt ((declared h (kind base.Integer 1 true) [] tt [] tt) ∷ (declared h (kind base.Integer 0 false) [] tt [] tt) ∷ []) tt None
    (block h (at h 1 56 true (s.Assign (name (n.Local 1) l.Whole) (kind base.Integer 0 false) (num (pos 1)))
    ∷ at h 2 1 true (s.Allocate (vec h (request h (name (n.Local 0) l.Whole) (kind base.Integer 1 true)
    (bounds (num (pos 1)) (num (pos 1000)) ∷ []) tt ∷ []) tt) (Some (name (n.Local 1) l.Whole)))
    ∷ at h 2 28 true (s.Print (vec h (item.Value (var h (name (n.Local 1) l.Whole)) ∷ item.Value (allocated h (name (n.Local 0) l.Whole)) ∷ [])
    tt)) ∷ []) tt) (place 3 1))
    (place 1 1)

--     module w; integer, allocatable :: v(:), u(:); contains
--     subroutine p(x); integer, intent(inout) :: x; v = [1, 2]; end
--     end
--     program q; use w; allocate(v(3)); call p(v(1)); print *, v(1); end
abbrev pub heap_04_other_shape : Global → Program
heap_04_other_shape h = program h [] tt
    (static (declared h (kind base.Integer 1 true) [] tt [] tt) 0 false ∷ static (declared h (kind base.Integer 1 true) [] tt [] tt) 0 false ∷ []) tt
    (procedure h 0 (dummy h (kind base.Integer 0 false) intent.InOut [] tt ∷ []) tt [] tt None
    (block h (at h 2 47 true (s.Assign (name (n.Static 0) l.Whole) (kind base.Integer 1 true)
    (array h (val h 0 (num (pos 1)) ∷ val h 0 (num (pos 2)) ∷ []) tt)) ∷ []) tt) (place 2 59) ∷ []) tt
    (procedure h 2 [] tt [] tt None (block h (at h 4 19 true (s.Allocate
    (vec h (request h (name (n.Static 0) l.Whole) (kind base.Integer 1 true) (bounds (num (pos 1)) (num (pos 3)) ∷ []) tt ∷ []) tt) None)
    ∷ at h 4 35 true (s.Call (call h 0 (ref h 0 (name (n.Static 0) (elements h true (sub h (num (pos 1)) ∷ []) tt)) ∷ []) tt))
    ∷ at h 4 49 true (s.Print (vec h (item.Value (var h (name (n.Static 0) (elements h true (sub h (num (pos 1)) ∷ []) tt))) ∷ []) tt)) ∷ []) tt)
    (place 4 64))
    (place 4 1)

--     module w; integer, allocatable :: v(:), u(:); contains
--     subroutine p(x); integer, intent(inout) :: x; v = [1, 2, 3]; end
--     end
--     program q; use w; allocate(v(3)); call p(v(1)); print *, v(1); end
abbrev pub heap_04_same_shape : Global → Program
heap_04_same_shape h = program h [] tt
    (static (declared h (kind base.Integer 1 true) [] tt [] tt) 0 false ∷ static (declared h (kind base.Integer 1 true) [] tt [] tt) 0 false ∷ []) tt
    (procedure h 0 (dummy h (kind base.Integer 0 false) intent.InOut [] tt ∷ []) tt [] tt None
    (block h (at h 2 47 true (s.Assign (name (n.Static 0) l.Whole) (kind base.Integer 1 true)
    (array h (val h 0 (num (pos 1)) ∷ val h 0 (num (pos 2)) ∷ val h 0 (num (pos 3)) ∷ []) tt)) ∷ []) tt) (place 2 62) ∷ []) tt
    (procedure h 2 [] tt [] tt None (block h (at h 4 19 true (s.Allocate
    (vec h (request h (name (n.Static 0) l.Whole) (kind base.Integer 1 true) (bounds (num (pos 1)) (num (pos 3)) ∷ []) tt ∷ []) tt) None)
    ∷ at h 4 35 true (s.Call (call h 0 (ref h 0 (name (n.Static 0) (elements h true (sub h (num (pos 1)) ∷ []) tt)) ∷ []) tt))
    ∷ at h 4 49 true (s.Print (vec h (item.Value (var h (name (n.Static 0) (elements h true (sub h (num (pos 1)) ∷ []) tt))) ∷ []) tt)) ∷ []) tt)
    (place 4 64))
    (place 4 1)

--     module w; contains
--     subroutine p(x); integer, allocatable, intent(inout) :: x(:); deallocate(x); end
--     end
--     program q; use w; integer, allocatable :: v(:); allocate(v(3)); call p(v); print *, allocated(v); end
abbrev pub heap_05_dummy_itself : Global → Program
heap_05_dummy_itself h = program h [] tt
    [] tt
    (procedure h 0 (dummy h (kind base.Integer 1 true) intent.InOut [] tt ∷ []) tt [] tt None
    (block h (at h 2 63 true (s.Deallocate (vec h (request h (name (n.Lent 0) l.Whole) (kind base.Integer 1 true) [] tt ∷ []) tt) None) ∷ []) tt)
    (place 2 78) ∷ []) tt
    (procedure h 2 [] tt ((declared h (kind base.Integer 1 true) [] tt [] tt) ∷ []) tt None
    (block h (at h 4 49 true (s.Allocate (vec h (request h (name (n.Local 0) l.Whole) (kind base.Integer 1 true)
    (bounds (num (pos 1)) (num (pos 3)) ∷ []) tt ∷ []) tt) None)
    ∷ at h 4 65 true (s.Call (call h 0 (ref h 0 (name (n.Local 0) l.Whole) ∷ []) tt))
    ∷ at h 4 76 true (s.Print (vec h (item.Value (allocated h (name (n.Local 0) l.Whole)) ∷ []) tt)) ∷ []) tt) (place 4 99))
    (place 4 1)

--     module w; integer, allocatable :: v(:); contains
--     subroutine p(x); integer, intent(in) :: x; deallocate(v); print *, x; end
--     end
--     program q; use w; allocate(v(3)); v = 7; call p((v(1))); print *, allocated(v); end
abbrev pub heap_06_held_value : Global → Program
heap_06_held_value h = program h [] tt
    (static (declared h (kind base.Integer 1 true) [] tt [] tt) 0 false ∷ []) tt
    (procedure h 0 (dummy h (kind base.Integer 0 false) intent.In [] tt ∷ []) tt [] tt None
    (block h (at h 2 44 true (s.Deallocate (vec h (request h (name (n.Static 0) l.Whole) (kind base.Integer 1 true) [] tt ∷ []) tt) None)
    ∷ at h 2 59 true (s.Print (vec h (item.Value (var h (name (n.Lent 0) l.Whole)) ∷ []) tt)) ∷ []) tt) (place 2 71) ∷ []) tt
    (procedure h 2 [] tt [] tt None (block h (at h 4 19 true (s.Allocate
    (vec h (request h (name (n.Static 0) l.Whole) (kind base.Integer 1 true) (bounds (num (pos 1)) (num (pos 3)) ∷ []) tt ∷ []) tt) None)
    ∷ at h 4 35 true (s.Assign (name (n.Static 0) l.Whole) (kind base.Integer 1 true) (num (pos 7)))
    ∷ at h 4 42 true (s.Call (call h 0 (val h 0 (group h (var h (name (n.Static 0) (elements h true (sub h (num (pos 1)) ∷ []) tt)))) ∷ []) tt))
    ∷ at h 4 58 true (s.Print (vec h (item.Value (allocated h (name (n.Static 0) l.Whole)) ∷ []) tt)) ∷ []) tt) (place 4 81))
    (place 4 1)

--     module w; integer, allocatable :: v(:), u(:); contains
--     subroutine p(x); integer, intent(inout) :: x
--     deallocate(v)
--     x = 1; end
--     end
--     program q; use w; allocate(v(3)); call p(v(1)); print *, size(v); end
abbrev pub heap_07_lent_element_deallocate : Global → Program
heap_07_lent_element_deallocate h = program h [] tt
    (static (declared h (kind base.Integer 1 true) [] tt [] tt) 0 false ∷ static (declared h (kind base.Integer 1 true) [] tt [] tt) 0 false ∷ []) tt
    (procedure h 0 (dummy h (kind base.Integer 0 false) intent.InOut [] tt ∷ []) tt [] tt None
    (block h (at h 3 1 true (s.Deallocate (vec h (request h (name (n.Static 0) l.Whole) (kind base.Integer 1 true) [] tt ∷ []) tt) None)
    ∷ at h 4 1 true (s.Assign (name (n.Lent 0) l.Whole) (kind base.Integer 0 false) (num (pos 1))) ∷ []) tt) (place 4 8) ∷ []) tt
    (procedure h 2 [] tt [] tt None (block h (at h 6 19 true (s.Allocate
    (vec h (request h (name (n.Static 0) l.Whole) (kind base.Integer 1 true) (bounds (num (pos 1)) (num (pos 3)) ∷ []) tt ∷ []) tt) None)
    ∷ at h 6 35 true (s.Call (call h 0 (ref h 0 (name (n.Static 0) (elements h true (sub h (num (pos 1)) ∷ []) tt)) ∷ []) tt))
    ∷ at h 6 49 true (s.Print (vec h (item.Value (size h (ref h 0 (name (n.Static 0) l.Contents))) ∷ []) tt)) ∷ []) tt) (place 6 67))
    (place 6 1)

abbrev pub allocatable_01_deep_copy_shows : Global → Type 0
allocatable_01_deep_copy_shows h = shown (run_of (allocatable_01_deep_copy h) 2000 granted) ≡ record
    { bytes = (lines (codes " 4 4 9 4 0" ∷ codes " F" ∷ [])); verdict = Finished }

abbrev pub allocatable_02_scalar_value_shows : Global → Type 0
allocatable_02_scalar_value_shows h = shown (run_of (allocatable_02_scalar_value h) 2000 granted) ≡ record { bytes = (lines []); verdict = Failed 4 2 1 }

abbrev pub allocatable_02_stat_shows : Global → Type 0
allocatable_02_stat_shows h = shown (run_of (allocatable_02_stat h) 2000 granted) ≡ record
    { bytes = (lines (codes " 5 T 1" ∷ codes " 4" ∷ [])); verdict = Finished }

abbrev pub allocatable_02_too_large_shows : Global → Type 0
allocatable_02_too_large_shows h = shown (run_of (allocatable_02_too_large h) 2000 granted) ≡ record { bytes = (lines (codes " 11" ∷ [])); verdict = Finished }

abbrev pub allocatable_03_assumed_shape_shows : Global → Type 0
allocatable_03_assumed_shape_shows h = shown (run_of (allocatable_03_assumed_shape h) 2000 granted) ≡ record
    { bytes = (lines (codes " 5 7" ∷ codes " 1 6 3 4 5 6" ∷ [])); verdict = Finished }

abbrev pub associate_01_lent_shows : Global → Type 0
associate_01_lent_shows h = shown (run_of (associate_01_lent h) 2000 granted) ≡ record { bytes = (lines []); verdict = Failed 9 3 1 }

abbrev pub associate_01_selectors_shows : Global → Type 0
associate_01_selectors_shows h = shown (run_of (associate_01_selectors h) 2000 granted) ≡ record
    { bytes = (lines (codes " 2 5 6 6" ∷ codes " F" ∷ [])); verdict = Finished }

abbrev pub associate_03_return_shows : Global → Type 0
associate_03_return_shows h = shown (run_of (associate_03_return h) 2000 granted) ≡ record
    { bytes = (lines (codes " 1 1" ∷ codes " 7" ∷ [])); verdict = Finished }

abbrev pub finalizer_01_frees_its_holder_shows : Global → Type 0
finalizer_01_frees_its_holder_shows h = shown (run_of (finalizer_01_frees_its_holder h) 2000 granted) ≡ record { bytes = (lines []); verdict = Failed 9 2 49 }

abbrev pub finalizer_02_order_shows : Global → Type 0
finalizer_02_order_shows h = shown (run_of (finalizer_02_order h) 2000 granted) ≡ record
    { bytes = (lines (codes " g" ∷ codes " t T" ∷ codes " c 1" ∷ [])); verdict = Finished }

abbrev pub heap_01_stat_ample_shows : Global → Type 0
heap_01_stat_ample_shows h = shown (run_of (heap_01_stat_ample h) 2000 granted) ≡ record { bytes = (lines (codes " 0 T" ∷ [])); verdict = Finished }

abbrev pub heap_04_other_shape_shows : Global → Type 0
heap_04_other_shape_shows h = shown (run_of (heap_04_other_shape h) 2000 granted) ≡ record { bytes = (lines []); verdict = Failed 9 2 47 }

abbrev pub heap_04_same_shape_shows : Global → Type 0
heap_04_same_shape_shows h = shown (run_of (heap_04_same_shape h) 2000 granted) ≡ record { bytes = (lines (codes " 1" ∷ [])); verdict = Finished }

abbrev pub heap_05_dummy_itself_shows : Global → Type 0
heap_05_dummy_itself_shows h = shown (run_of (heap_05_dummy_itself h) 2000 granted) ≡ record { bytes = (lines (codes " F" ∷ [])); verdict = Finished }

abbrev pub heap_06_held_value_shows : Global → Type 0
heap_06_held_value_shows h = shown (run_of (heap_06_held_value h) 2000 granted) ≡ record { bytes = (lines (codes " 7" ∷ codes " F" ∷ [])); verdict = Finished }

abbrev pub heap_07_lent_element_deallocate_shows : Global → Type 0
heap_07_lent_element_deallocate_shows h = shown (run_of (heap_07_lent_element_deallocate h) 2000 granted) ≡ record
    { bytes = (lines []); verdict = Failed 9 3 1 }

-- These programs print this and end so.
abbrev pub Rows0Show : Type 0
Rows0Show = (h : Global) →
    (IsLawful (allocatable_01_deep_copy h) × allocatable_01_deep_copy_shows h)
    × (IsLawful (allocatable_02_scalar_value h) × allocatable_02_scalar_value_shows h)
    × (IsLawful (allocatable_02_stat h) × allocatable_02_stat_shows h)
    × (IsLawful (allocatable_02_too_large h) × allocatable_02_too_large_shows h)
    × (IsLawful (allocatable_03_assumed_shape h) × allocatable_03_assumed_shape_shows h)
    × (IsLawful (associate_01_lent h) × associate_01_lent_shows h)
    × (IsLawful (associate_01_selectors h) × associate_01_selectors_shows h)
    × (IsLawful (associate_03_return h) × associate_03_return_shows h)
    × (IsLawful (finalizer_01_frees_its_holder h) × finalizer_01_frees_its_holder_shows h)
    × (IsLawful (finalizer_02_order h) × finalizer_02_order_shows h)
    × (IsLawful (heap_01_stat_ample h) × heap_01_stat_ample_shows h)
    × (IsLawful (heap_04_other_shape h) × heap_04_other_shape_shows h)
    × (IsLawful (heap_04_same_shape h) × heap_04_same_shape_shows h)
    × (IsLawful (heap_05_dummy_itself h) × heap_05_dummy_itself_shows h)
    × (IsLawful (heap_06_held_value h) × heap_06_held_value_shows h)
    × (IsLawful (heap_07_lent_element_deallocate h) × heap_07_lent_element_deallocate_shows h)
