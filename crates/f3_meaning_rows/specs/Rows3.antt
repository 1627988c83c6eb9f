-- Programs, elaborated, with their sources above.
use Rattle.std.specs.Prelude.{pos, true, false, [], ◌∷◌, None, Some, codes, ◌≡◌}
use Rattle.std.specs.declared.alloc.Global.{Global}
use Rattle.f3_program.specs.declared.declarations.Base.TheVariants as base
use Rattle.f3_program.specs.declared.declarations.Constant.TheVariants as constant
use Rattle.f3_program.specs.declared.expression.Name.TheVariants as n
use Rattle.f3_program.specs.declared.expression.Selection as l
use Rattle.f3_program.specs.declared.statement.Item.TheVariants as item
use Rattle.f3_program.specs.declared.statement.Statement as s
use Rattle.f3_program.specs.declared.program.Intent.TheVariants as intent
use Rattle.f3_program.specs.declared.program.Program.{Program}
use Rattle.f3_meaning_whole.specs.Run.{run_of}
use Rattle.f3_meaning_whole.specs.Permitted.{IsLawful}
use Rattle.f3_meaning_rows.specs.Shown.{granted, shown, lines, Finished, Failed}
use Rattle.f3_meaning_rows.specs.Build.{vec, place, kind, dim, declared, comp, derived, final, num, var, call, allocated, size, ref, name, member}
use Rattle.f3_meaning_rows.specs.Build.{elements, sub, at, block, bounds, request, dummy, static, procedure, program}

--     module w; type t; integer, allocatable :: c(:); end type; type(t), allocatable :: o, u; integer :: k; contains
--     subroutine p(x); integer, allocatable, intent(inout) :: x(:)
--     deallocate(o, stat=k)
--     x = 1; end
--     end
--     program q; use w; allocate(o); allocate(o%c(3)); call p(o%c); print *, k, size(o%c); end
abbrev pub heap_40_lent_allocatable_dummy_deallocate_stat : Global → Program
heap_40_lent_allocatable_dummy_deallocate_stat h = program h (derived h 0 (comp (declared h (kind base.Integer 1 true) [] tt [] tt) false ∷ []) tt []
    tt ∷ []) tt
    (static (declared h (kind (base.Derived 0) 0 true) [] tt [] tt) 0 false ∷ static (declared h (kind (base.Derived 0) 0 true) [] tt [] tt) 0 false
    ∷ static (declared h (kind base.Integer 0 false) [] tt [] tt) 0 false ∷ []) tt
    (procedure h 0 (dummy h (kind base.Integer 1 true) intent.InOut [] tt ∷ []) tt [] tt None
    (block h (at h 3 1 true (s.Deallocate (vec h (request h (name (n.Static 0) l.Whole) (kind (base.Derived 0) 0 true) [] tt ∷ []) tt)
    (Some (name (n.Static 2) l.Whole))) ∷ at h 4 1 true (s.Assign (name (n.Lent 0) l.Whole) (kind base.Integer 1 true) (num (pos 1))) ∷ []) tt)
    (place 4 8) ∷ []) tt
    (procedure h 2 [] tt [] tt None (block h (at h 6 19 true (s.Allocate
    (vec h (request h (name (n.Static 0) l.Whole) (kind (base.Derived 0) 0 true) [] tt ∷ []) tt) None)
    ∷ at h 6 32 true (s.Allocate (vec h (request h (member h (name (n.Static 0) l.Contents) 0 l.Whole) (kind base.Integer 1 true)
    (bounds (num (pos 1)) (num (pos 3)) ∷ []) tt ∷ []) tt) None)
    ∷ at h 6 50 true (s.Call (call h 0 (ref h 0 (member h (name (n.Static 0) l.Contents) 0 l.Whole) ∷ []) tt))
    ∷ at h 6 63 true (s.Print (vec h (item.Value (var h (name (n.Static 2) l.Whole))
    ∷ item.Value (size h (ref h 0 (member h (name (n.Static 0) l.Contents) 0 l.Contents))) ∷ []) tt)) ∷ []) tt) (place 6 86))
    (place 6 1)

--     module w; type t; integer, allocatable :: c(:); end type; type(t), allocatable :: o(:); type(t) :: e(3); contains
--     subroutine p(x); integer, allocatable, intent(inout) :: x(:)
--     o = e
--     x = 1; end
--     end
--     program q; use w; allocate(o(2)); allocate(o(1)%c(3)); call p(o(1)%c); print *, size(o(1)%c); end
abbrev pub heap_41_lent_allocatable_dummy_assign_shape : Global → Program
heap_41_lent_allocatable_dummy_assign_shape h = program h (derived h 0 (comp (declared h (kind base.Integer 1 true) [] tt [] tt) false ∷ []) tt [] tt ∷ []) tt
    (static (declared h (kind (base.Derived 0) 1 true) [] tt [] tt) 0 false
    ∷ static (declared h (kind (base.Derived 0) 1 false) (dim (pos 1) 3 ∷ []) tt [] tt) 0 false ∷ []) tt
    (procedure h 0 (dummy h (kind base.Integer 1 true) intent.InOut [] tt ∷ []) tt [] tt None
    (block h (at h 3 1 true (s.Assign (name (n.Static 0) l.Whole) (kind (base.Derived 0) 1 true) (var h (name (n.Static 1) l.Whole)))
    ∷ at h 4 1 true (s.Assign (name (n.Lent 0) l.Whole) (kind base.Integer 1 true) (num (pos 1))) ∷ []) tt) (place 4 8) ∷ []) tt
    (procedure h 2 [] tt [] tt None (block h (at h 6 19 true (s.Allocate
    (vec h (request h (name (n.Static 0) l.Whole) (kind (base.Derived 0) 1 true) (bounds (num (pos 1)) (num (pos 2)) ∷ []) tt ∷ []) tt) None)
    ∷ at h 6 35 true (s.Allocate (vec h (request h (member h (name (n.Static 0) (elements h true (sub h (num (pos 1)) ∷ []) tt)) 0 l.Whole)
    (kind base.Integer 1 true) (bounds (num (pos 1)) (num (pos 3)) ∷ []) tt ∷ []) tt) None)
    ∷ at h 6 56 true (s.Call (call h 0 (ref h 0 (member h (name (n.Static 0) (elements h true (sub h (num (pos 1)) ∷ []) tt)) 0 l.Whole) ∷ [])
    tt)) ∷ at h 6 72 true (s.Print (vec h (item.Value (size h
    (ref h 0 (member h (name (n.Static 0) (elements h true (sub h (num (pos 1)) ∷ []) tt)) 0 l.Contents))) ∷ []) tt)) ∷ []) tt) (place 6 95))
    (place 6 1)

--     module w; type t; integer, allocatable :: c(:); end type; type s; type(t), allocatable :: o; end type; type(s) :: h, g; contains
--     subroutine p(x); integer, allocatable, intent(inout) :: x(:)
--     h = g
--     x = 1; end
--     end
--     program q; use w; allocate(h%o); allocate(h%o%c(3)); call p(h%o%c); print *, size(h%o%c); end
abbrev pub heap_42_lent_allocatable_dummy_assign_object : Global → Program
heap_42_lent_allocatable_dummy_assign_object h = program h (derived h 0 (comp (declared h (kind base.Integer 1 true) [] tt [] tt) false ∷ []) tt []
    tt ∷ derived h 0 (comp (declared h (kind (base.Derived 0) 0 true) [] tt [] tt) false ∷ []) tt [] tt ∷ []) tt
    (static (declared h (kind (base.Derived 1) 0 false) [] tt [] tt) 0 false ∷ static (declared h (kind (base.Derived 1) 0 false) [] tt [] tt) 0 false ∷ []) tt
    (procedure h 0 (dummy h (kind base.Integer 1 true) intent.InOut [] tt ∷ []) tt [] tt None
    (block h (at h 3 1 true (s.Assign (name (n.Static 0) l.Whole) (kind (base.Derived 1) 0 false) (var h (name (n.Static 1) l.Whole)))
    ∷ at h 4 1 true (s.Assign (name (n.Lent 0) l.Whole) (kind base.Integer 1 true) (num (pos 1))) ∷ []) tt) (place 4 8) ∷ []) tt
    (procedure h 2 [] tt [] tt None (block h (at h 6 19 true (s.Allocate
    (vec h (request h (member h (name (n.Static 0) l.Whole) 0 l.Whole) (kind (base.Derived 0) 0 true) [] tt ∷ []) tt) None)
    ∷ at h 6 34 true (s.Allocate (vec h (request h (member h (member h (name (n.Static 0) l.Whole) 0 l.Contents) 0 l.Whole)
    (kind base.Integer 1 true) (bounds (num (pos 1)) (num (pos 3)) ∷ []) tt ∷ []) tt) None)
    ∷ at h 6 54 true (s.Call (call h 0 (ref h 0 (member h (member h (name (n.Static 0) l.Whole) 0 l.Contents) 0 l.Whole) ∷ []) tt))
    ∷ at h 6 69 true (s.Print (vec h (item.Value (size h (ref h 0 (member h (member h (name (n.Static 0) l.Whole) 0 l.Contents) 0 l.Contents)))
    ∷ []) tt)) ∷ []) tt) (place 6 91))
    (place 6 1)

--     module w; type t; integer, allocatable :: c(:); end type; type(t), allocatable :: o, u; contains
--     subroutine p(x); integer, allocatable, intent(inout) :: x(:)
--     call move_alloc(o, u)
--     x = 1; end
--     end
--     program q; use w; allocate(o); allocate(o%c(3)); call p(o%c); print *, size(o%c); end
abbrev pub heap_43_lent_allocatable_dummy_move_from : Global → Program
heap_43_lent_allocatable_dummy_move_from h = program h (derived h 0 (comp (declared h (kind base.Integer 1 true) [] tt [] tt) false ∷ []) tt [] tt ∷ []) tt
    (static (declared h (kind (base.Derived 0) 0 true) [] tt [] tt) 0 false ∷ static (declared h (kind (base.Derived 0) 0 true) [] tt [] tt) 0 false ∷ []) tt
    (procedure h 0 (dummy h (kind base.Integer 1 true) intent.InOut [] tt ∷ []) tt [] tt None
    (block h (at h 3 1 true (s.MoveAlloc (kind (base.Derived 0) 0 true) true (name (n.Static 0) l.Whole) (name (n.Static 1) l.Whole))
    ∷ at h 4 1 true (s.Assign (name (n.Lent 0) l.Whole) (kind base.Integer 1 true) (num (pos 1))) ∷ []) tt) (place 4 8) ∷ []) tt
    (procedure h 2 [] tt [] tt None (block h (at h 6 19 true (s.Allocate
    (vec h (request h (name (n.Static 0) l.Whole) (kind (base.Derived 0) 0 true) [] tt ∷ []) tt) None)
    ∷ at h 6 32 true (s.Allocate (vec h (request h (member h (name (n.Static 0) l.Contents) 0 l.Whole) (kind base.Integer 1 true)
    (bounds (num (pos 1)) (num (pos 3)) ∷ []) tt ∷ []) tt) None)
    ∷ at h 6 50 true (s.Call (call h 0 (ref h 0 (member h (name (n.Static 0) l.Contents) 0 l.Whole) ∷ []) tt))
    ∷ at h 6 63 true (s.Print (vec h (item.Value (size h (ref h 0 (member h (name (n.Static 0) l.Contents) 0 l.Contents))) ∷ []) tt)) ∷ []) tt)
    (place 6 83))
    (place 6 1)

--     module w; type t; integer, allocatable :: c(:); end type; type(t), allocatable :: o, u; contains
--     subroutine p(x); integer, allocatable, intent(inout) :: x(:)
--     call move_alloc(u, o)
--     x = 1; end
--     end
--     program q; use w; allocate(o); allocate(u); allocate(o%c(3)); call p(o%c); print *, size(o%c); end
abbrev pub heap_44_lent_allocatable_dummy_move_to : Global → Program
heap_44_lent_allocatable_dummy_move_to h = program h (derived h 0 (comp (declared h (kind base.Integer 1 true) [] tt [] tt) false ∷ []) tt [] tt ∷ []) tt
    (static (declared h (kind (base.Derived 0) 0 true) [] tt [] tt) 0 false ∷ static (declared h (kind (base.Derived 0) 0 true) [] tt [] tt) 0 false ∷ []) tt
    (procedure h 0 (dummy h (kind base.Integer 1 true) intent.InOut [] tt ∷ []) tt [] tt None
    (block h (at h 3 1 true (s.MoveAlloc (kind (base.Derived 0) 0 true) true (name (n.Static 1) l.Whole) (name (n.Static 0) l.Whole))
    ∷ at h 4 1 true (s.Assign (name (n.Lent 0) l.Whole) (kind base.Integer 1 true) (num (pos 1))) ∷ []) tt) (place 4 8) ∷ []) tt
    (procedure h 2 [] tt [] tt None (block h (at h 6 19 true (s.Allocate
    (vec h (request h (name (n.Static 0) l.Whole) (kind (base.Derived 0) 0 true) [] tt ∷ []) tt) None)
    ∷ at h 6 32 true (s.Allocate (vec h (request h (name (n.Static 1) l.Whole) (kind (base.Derived 0) 0 true) [] tt ∷ []) tt) None)
    ∷ at h 6 45 true (s.Allocate (vec h (request h (member h (name (n.Static 0) l.Contents) 0 l.Whole) (kind base.Integer 1 true)
    (bounds (num (pos 1)) (num (pos 3)) ∷ []) tt ∷ []) tt) None)
    ∷ at h 6 63 true (s.Call (call h 0 (ref h 0 (member h (name (n.Static 0) l.Contents) 0 l.Whole) ∷ []) tt))
    ∷ at h 6 76 true (s.Print (vec h (item.Value (size h (ref h 0 (member h (name (n.Static 0) l.Contents) 0 l.Contents))) ∷ []) tt)) ∷ []) tt)
    (place 6 96))
    (place 6 1)

--     module w; type t; integer, allocatable :: c(:); end type; type(t), allocatable :: o, u; contains
--     subroutine p(x); integer, allocatable, intent(inout) :: x(:)
--     call wipe(o)
--     x = 1; end
--     subroutine wipe(y); type(t), allocatable, intent(out) :: y; end
--     end
--     program q; use w; allocate(o); allocate(o%c(3)); call p(o%c); print *, size(o%c); end
abbrev pub heap_45_lent_allocatable_dummy_out_allocatable : Global → Program
heap_45_lent_allocatable_dummy_out_allocatable h = program h (derived h 0 (comp (declared h (kind base.Integer 1 true) [] tt [] tt) false ∷ []) tt []
    tt ∷ []) tt
    (static (declared h (kind (base.Derived 0) 0 true) [] tt [] tt) 0 false ∷ static (declared h (kind (base.Derived 0) 0 true) [] tt [] tt) 0 false ∷ []) tt
    (procedure h 0 (dummy h (kind base.Integer 1 true) intent.InOut [] tt ∷ []) tt [] tt None
    (block h (at h 3 1 true (s.Call (call h 1 (ref h 0 (name (n.Static 0) l.Whole) ∷ []) tt))
    ∷ at h 4 1 true (s.Assign (name (n.Lent 0) l.Whole) (kind base.Integer 1 true) (num (pos 1))) ∷ []) tt) (place 4 8)
    ∷ procedure h 0 (dummy h (kind (base.Derived 0) 0 true) intent.Out [] tt ∷ []) tt [] tt None (block h [] tt) (place 5 61) ∷ []) tt
    (procedure h 3 [] tt [] tt None (block h (at h 7 19 true (s.Allocate
    (vec h (request h (name (n.Static 0) l.Whole) (kind (base.Derived 0) 0 true) [] tt ∷ []) tt) None)
    ∷ at h 7 32 true (s.Allocate (vec h (request h (member h (name (n.Static 0) l.Contents) 0 l.Whole) (kind base.Integer 1 true)
    (bounds (num (pos 1)) (num (pos 3)) ∷ []) tt ∷ []) tt) None)
    ∷ at h 7 50 true (s.Call (call h 0 (ref h 0 (member h (name (n.Static 0) l.Contents) 0 l.Whole) ∷ []) tt))
    ∷ at h 7 63 true (s.Print (vec h (item.Value (size h (ref h 0 (member h (name (n.Static 0) l.Contents) 0 l.Contents))) ∷ []) tt)) ∷ []) tt)
    (place 7 83))
    (place 7 1)

--     module w; type t; integer, allocatable :: c(:); end type; type s; type(t), allocatable :: o; end type; type(s) :: h, g; contains
--     subroutine p(x); integer, allocatable, intent(inout) :: x(:)
--     call wipe(h)
--     x = 1; end
--     subroutine wipe(y); type(s), intent(out) :: y; end
--     end
--     program q; use w; allocate(h%o); allocate(h%o%c(3)); call p(h%o%c); print *, size(h%o%c); end
abbrev pub heap_46_lent_allocatable_dummy_out_object : Global → Program
heap_46_lent_allocatable_dummy_out_object h = program h (derived h 0 (comp (declared h (kind base.Integer 1 true) [] tt [] tt) false ∷ []) tt [] tt
    ∷ derived h 0 (comp (declared h (kind (base.Derived 0) 0 true) [] tt [] tt) false ∷ []) tt [] tt ∷ []) tt
    (static (declared h (kind (base.Derived 1) 0 false) [] tt [] tt) 0 false ∷ static (declared h (kind (base.Derived 1) 0 false) [] tt [] tt) 0 false ∷ []) tt
    (procedure h 0 (dummy h (kind base.Integer 1 true) intent.InOut [] tt ∷ []) tt [] tt None
    (block h (at h 3 1 true (s.Call (call h 1 (ref h 0 (name (n.Static 0) l.Whole) ∷ []) tt))
    ∷ at h 4 1 true (s.Assign (name (n.Lent 0) l.Whole) (kind base.Integer 1 true) (num (pos 1))) ∷ []) tt) (place 4 8)
    ∷ procedure h 0 (dummy h (kind (base.Derived 1) 0 false) intent.Out [] tt ∷ []) tt [] tt None (block h [] tt) (place 5 48) ∷ []) tt
    (procedure h 3 [] tt [] tt None (block h (at h 7 19 true (s.Allocate
    (vec h (request h (member h (name (n.Static 0) l.Whole) 0 l.Whole) (kind (base.Derived 0) 0 true) [] tt ∷ []) tt) None)
    ∷ at h 7 34 true (s.Allocate (vec h (request h (member h (member h (name (n.Static 0) l.Whole) 0 l.Contents) 0 l.Whole)
    (kind base.Integer 1 true) (bounds (num (pos 1)) (num (pos 3)) ∷ []) tt ∷ []) tt) None)
    ∷ at h 7 54 true (s.Call (call h 0 (ref h 0 (member h (member h (name (n.Static 0) l.Whole) 0 l.Contents) 0 l.Whole) ∷ []) tt))
    ∷ at h 7 69 true (s.Print (vec h (item.Value (size h (ref h 0 (member h (member h (name (n.Static 0) l.Whole) 0 l.Contents) 0 l.Contents)))
    ∷ []) tt)) ∷ []) tt) (place 7 91))
    (place 7 1)

--     module w; type t; integer :: id = 0; contains; final :: fin; end type; type(t), allocatable :: v, u; contains
--     subroutine fin(x); type(t), intent(inout) :: x
--     deallocate(v)
--     end
--     end
--     program q; use w; allocate(v); deallocate(v); print *, allocated(v); end
abbrev pub heap_47_lent_final_deallocate : Global → Program
heap_47_lent_final_deallocate h = program h (derived h 0 (comp (declared h (kind base.Integer 0 false) [] tt ((constant.Number (pos 0)) ∷ []) tt)
    false ∷ []) tt (final 0 0 ∷ []) tt ∷ []) tt
    (static (declared h (kind (base.Derived 0) 0 true) [] tt [] tt) 0 false ∷ static (declared h (kind (base.Derived 0) 0 true) [] tt [] tt) 0 false ∷ []) tt
    (procedure h 0 (dummy h (kind (base.Derived 0) 0 false) intent.InOut [] tt ∷ []) tt [] tt None
    (block h (at h 3 1 true (s.Deallocate (vec h (request h (name (n.Static 0) l.Whole) (kind (base.Derived 0) 0 true) [] tt ∷ []) tt) None)
    ∷ []) tt) (place 4 1) ∷ []) tt
    (procedure h 2 [] tt [] tt None (block h (at h 6 19 true (s.Allocate
    (vec h (request h (name (n.Static 0) l.Whole) (kind (base.Derived 0) 0 true) [] tt ∷ []) tt) None)
    ∷ at h 6 32 true (s.Deallocate (vec h (request h (name (n.Static 0) l.Whole) (kind (base.Derived 0) 0 true) [] tt ∷ []) tt) None)
    ∷ at h 6 47 true (s.Print (vec h (item.Value (allocated h (name (n.Static 0) l.Whole)) ∷ []) tt)) ∷ []) tt) (place 6 70))
    (place 6 1)

--     module w; type t; integer :: id = 0; contains; final :: fin; end type; type(t), allocatable :: v, u; integer :: k; contains
--     subroutine fin(x); type(t), intent(inout) :: x
--     deallocate(v, stat=k)
--     end
--     end
--     program q; use w; allocate(v); deallocate(v); print *, k, allocated(v); end
abbrev pub heap_48_lent_final_deallocate_stat : Global → Program
heap_48_lent_final_deallocate_stat h = program h (derived h 0
    (comp (declared h (kind base.Integer 0 false) [] tt ((constant.Number (pos 0)) ∷ []) tt) false ∷ []) tt (final 0 0 ∷ []) tt ∷ []) tt
    (static (declared h (kind (base.Derived 0) 0 true) [] tt [] tt) 0 false ∷ static (declared h (kind (base.Derived 0) 0 true) [] tt [] tt) 0 false
    ∷ static (declared h (kind base.Integer 0 false) [] tt [] tt) 0 false ∷ []) tt
    (procedure h 0 (dummy h (kind (base.Derived 0) 0 false) intent.InOut [] tt ∷ []) tt [] tt None
    (block h (at h 3 1 true (s.Deallocate (vec h (request h (name (n.Static 0) l.Whole) (kind (base.Derived 0) 0 true) [] tt ∷ []) tt)
    (Some (name (n.Static 2) l.Whole))) ∷ []) tt) (place 4 1) ∷ []) tt
    (procedure h 2 [] tt [] tt None (block h (at h 6 19 true (s.Allocate
    (vec h (request h (name (n.Static 0) l.Whole) (kind (base.Derived 0) 0 true) [] tt ∷ []) tt) None)
    ∷ at h 6 32 true (s.Deallocate (vec h (request h (name (n.Static 0) l.Whole) (kind (base.Derived 0) 0 true) [] tt ∷ []) tt) None)
    ∷ at h 6 47 true (s.Print (vec h (item.Value (var h (name (n.Static 2) l.Whole)) ∷ item.Value (allocated h (name (n.Static 0) l.Whole)) ∷ [])
    tt)) ∷ []) tt) (place 6 73))
    (place 6 1)

--     module w; type t; integer :: id = 0; contains; final :: fin; end type; type(t), allocatable :: v(:); type(t) :: e(3); contains
--     subroutine fin(x); type(t), intent(inout) :: x(:)
--     v = e
--     end
--     end
--     program q; use w; allocate(v(2)); deallocate(v); print *, allocated(v); end
abbrev pub heap_49_lent_final_assign_shape : Global → Program
heap_49_lent_final_assign_shape h = program h (derived h 0 (comp (declared h (kind base.Integer 0 false) [] tt ((constant.Number (pos 0)) ∷ []) tt)
    false ∷ []) tt (final 1 0 ∷ []) tt ∷ []) tt
    (static (declared h (kind (base.Derived 0) 1 true) [] tt [] tt) 0 false
    ∷ static (declared h (kind (base.Derived 0) 1 false) (dim (pos 1) 3 ∷ []) tt [] tt) 0 false ∷ []) tt
    (procedure h 0 (dummy h (kind (base.Derived 0) 1 false) intent.InOut ((pos 1) ∷ []) tt ∷ []) tt [] tt None
    (block h (at h 3 1 true (s.Assign (name (n.Static 0) l.Whole) (kind (base.Derived 0) 1 true) (var h (name (n.Static 1) l.Whole))) ∷ []) tt)
    (place 4 1) ∷ []) tt
    (procedure h 2 [] tt [] tt None (block h (at h 6 19 true (s.Allocate
    (vec h (request h (name (n.Static 0) l.Whole) (kind (base.Derived 0) 1 true) (bounds (num (pos 1)) (num (pos 2)) ∷ []) tt ∷ []) tt) None)
    ∷ at h 6 35 true (s.Deallocate (vec h (request h (name (n.Static 0) l.Whole) (kind (base.Derived 0) 1 true) [] tt ∷ []) tt) None)
    ∷ at h 6 50 true (s.Print (vec h (item.Value (allocated h (name (n.Static 0) l.Whole)) ∷ []) tt)) ∷ []) tt) (place 6 73))
    (place 6 1)

--     module w; type t; integer :: id = 0; contains; final :: fin; end type; type s; type(t), allocatable :: o; end type; type(s) :: h, g; contains
--     subroutine fin(x); type(t), intent(inout) :: x
--     h = g
--     end
--     end
--     program q; use w; allocate(h%o); deallocate(h%o); print *, allocated(h%o); end
abbrev pub heap_50_lent_final_assign_object : Global → Program
heap_50_lent_final_assign_object h = program h (derived h 0 (comp (declared h (kind base.Integer 0 false) [] tt ((constant.Number (pos 0)) ∷ []) tt)
    false ∷ []) tt (final 0 0 ∷ []) tt ∷ derived h 0 (comp (declared h (kind (base.Derived 0) 0 true) [] tt [] tt) false ∷ []) tt [] tt ∷ []) tt
    (static (declared h (kind (base.Derived 1) 0 false) [] tt [] tt) 0 false ∷ static (declared h (kind (base.Derived 1) 0 false) [] tt [] tt) 0 false ∷ []) tt
    (procedure h 0 (dummy h (kind (base.Derived 0) 0 false) intent.InOut [] tt ∷ []) tt [] tt None
    (block h (at h 3 1 true (s.Assign (name (n.Static 0) l.Whole) (kind (base.Derived 1) 0 false) (var h (name (n.Static 1) l.Whole))) ∷ []) tt)
    (place 4 1) ∷ []) tt
    (procedure h 2 [] tt [] tt None (block h (at h 6 19 true (s.Allocate
    (vec h (request h (member h (name (n.Static 0) l.Whole) 0 l.Whole) (kind (base.Derived 0) 0 true) [] tt ∷ []) tt) None)
    ∷ at h 6 34 true (s.Deallocate (vec h (request h (member h (name (n.Static 0) l.Whole) 0 l.Whole) (kind (base.Derived 0) 0 true) [] tt ∷ [])
    tt) None) ∷ at h 6 51 true (s.Print (vec h (item.Value (allocated h (member h (name (n.Static 0) l.Whole) 0 l.Whole)) ∷ []) tt)) ∷ []) tt) (place 6 76))
    (place 6 1)

--     module w; type t; integer :: id = 0; contains; final :: fin; end type; type(t), allocatable :: v, u; contains
--     subroutine fin(x); type(t), intent(inout) :: x
--     call move_alloc(v, u)
--     end
--     end
--     program q; use w; allocate(v); deallocate(v); print *, allocated(v); end
abbrev pub heap_51_lent_final_move_from : Global → Program
heap_51_lent_final_move_from h = program h (derived h 0 (comp (declared h (kind base.Integer 0 false) [] tt ((constant.Number (pos 0)) ∷ []) tt)
    false ∷ []) tt (final 0 0 ∷ []) tt ∷ []) tt
    (static (declared h (kind (base.Derived 0) 0 true) [] tt [] tt) 0 false ∷ static (declared h (kind (base.Derived 0) 0 true) [] tt [] tt) 0 false ∷ []) tt
    (procedure h 0 (dummy h (kind (base.Derived 0) 0 false) intent.InOut [] tt ∷ []) tt [] tt None
    (block h (at h 3 1 true (s.MoveAlloc (kind (base.Derived 0) 0 true) true (name (n.Static 0) l.Whole) (name (n.Static 1) l.Whole)) ∷ []) tt)
    (place 4 1) ∷ []) tt
    (procedure h 2 [] tt [] tt None (block h (at h 6 19 true (s.Allocate
    (vec h (request h (name (n.Static 0) l.Whole) (kind (base.Derived 0) 0 true) [] tt ∷ []) tt) None)
    ∷ at h 6 32 true (s.Deallocate (vec h (request h (name (n.Static 0) l.Whole) (kind (base.Derived 0) 0 true) [] tt ∷ []) tt) None)
    ∷ at h 6 47 true (s.Print (vec h (item.Value (allocated h (name (n.Static 0) l.Whole)) ∷ []) tt)) ∷ []) tt) (place 6 70))
    (place 6 1)

--     module w; type t; integer :: id = 0; contains; final :: fin; end type; type(t), allocatable :: v, u; contains
--     subroutine fin(x); type(t), intent(inout) :: x
--     call move_alloc(u, v)
--     end
--     end
--     program q; use w; allocate(v); deallocate(v); print *, allocated(v); end
abbrev pub heap_52_lent_final_move_to : Global → Program
heap_52_lent_final_move_to h = program h (derived h 0 (comp (declared h (kind base.Integer 0 false) [] tt ((constant.Number (pos 0)) ∷ []) tt) false
    ∷ []) tt (final 0 0 ∷ []) tt ∷ []) tt
    (static (declared h (kind (base.Derived 0) 0 true) [] tt [] tt) 0 false ∷ static (declared h (kind (base.Derived 0) 0 true) [] tt [] tt) 0 false ∷ []) tt
    (procedure h 0 (dummy h (kind (base.Derived 0) 0 false) intent.InOut [] tt ∷ []) tt [] tt None
    (block h (at h 3 1 true (s.MoveAlloc (kind (base.Derived 0) 0 true) true (name (n.Static 1) l.Whole) (name (n.Static 0) l.Whole)) ∷ []) tt)
    (place 4 1) ∷ []) tt
    (procedure h 2 [] tt [] tt None (block h (at h 6 19 true (s.Allocate
    (vec h (request h (name (n.Static 0) l.Whole) (kind (base.Derived 0) 0 true) [] tt ∷ []) tt) None)
    ∷ at h 6 32 true (s.Deallocate (vec h (request h (name (n.Static 0) l.Whole) (kind (base.Derived 0) 0 true) [] tt ∷ []) tt) None)
    ∷ at h 6 47 true (s.Print (vec h (item.Value (allocated h (name (n.Static 0) l.Whole)) ∷ []) tt)) ∷ []) tt) (place 6 70))
    (place 6 1)

--     module w; type t; integer :: id = 0; contains; final :: fin; end type; type(t), allocatable :: v, u; contains
--     subroutine fin(x); type(t), intent(inout) :: x
--     call wipe(v)
--     end
--     subroutine wipe(y); type(t), allocatable, intent(out) :: y; end
--     end
--     program q; use w; allocate(v); deallocate(v); print *, allocated(v); end
abbrev pub heap_53_lent_final_out_allocatable : Global → Program
heap_53_lent_final_out_allocatable h = program h (derived h 0
    (comp (declared h (kind base.Integer 0 false) [] tt ((constant.Number (pos 0)) ∷ []) tt) false ∷ []) tt (final 0 0 ∷ []) tt ∷ []) tt
    (static (declared h (kind (base.Derived 0) 0 true) [] tt [] tt) 0 false ∷ static (declared h (kind (base.Derived 0) 0 true) [] tt [] tt) 0 false ∷ []) tt
    (procedure h 0 (dummy h (kind (base.Derived 0) 0 false) intent.InOut [] tt ∷ []) tt [] tt None
    (block h (at h 3 1 true (s.Call (call h 1 (ref h 0 (name (n.Static 0) l.Whole) ∷ []) tt)) ∷ []) tt) (place 4 1)
    ∷ procedure h 0 (dummy h (kind (base.Derived 0) 0 true) intent.Out [] tt ∷ []) tt [] tt None (block h [] tt) (place 5 61) ∷ []) tt
    (procedure h 3 [] tt [] tt None (block h (at h 7 19 true (s.Allocate
    (vec h (request h (name (n.Static 0) l.Whole) (kind (base.Derived 0) 0 true) [] tt ∷ []) tt) None)
    ∷ at h 7 32 true (s.Deallocate (vec h (request h (name (n.Static 0) l.Whole) (kind (base.Derived 0) 0 true) [] tt ∷ []) tt) None)
    ∷ at h 7 47 true (s.Print (vec h (item.Value (allocated h (name (n.Static 0) l.Whole)) ∷ []) tt)) ∷ []) tt) (place 7 70))
    (place 7 1)

--     module w; type t; integer :: id = 0; contains; final :: fin; end type; type s; type(t), allocatable :: o; end type; type(s) :: h, g; contains
--     subroutine fin(x); type(t), intent(inout) :: x
--     call wipe(h)
--     end
--     subroutine wipe(y); type(s), intent(out) :: y; end
--     end
--     program q; use w; allocate(h%o); deallocate(h%o); print *, allocated(h%o); end
abbrev pub heap_54_lent_final_out_object : Global → Program
heap_54_lent_final_out_object h = program h (derived h 0 (comp (declared h (kind base.Integer 0 false) [] tt ((constant.Number (pos 0)) ∷ []) tt)
    false ∷ []) tt (final 0 0 ∷ []) tt ∷ derived h 0 (comp (declared h (kind (base.Derived 0) 0 true) [] tt [] tt) false ∷ []) tt [] tt ∷ []) tt
    (static (declared h (kind (base.Derived 1) 0 false) [] tt [] tt) 0 false ∷ static (declared h (kind (base.Derived 1) 0 false) [] tt [] tt) 0 false ∷ []) tt
    (procedure h 0 (dummy h (kind (base.Derived 0) 0 false) intent.InOut [] tt ∷ []) tt [] tt None
    (block h (at h 3 1 true (s.Call (call h 1 (ref h 0 (name (n.Static 0) l.Whole) ∷ []) tt)) ∷ []) tt) (place 4 1)
    ∷ procedure h 0 (dummy h (kind (base.Derived 1) 0 false) intent.Out [] tt ∷ []) tt [] tt None (block h [] tt) (place 5 48) ∷ []) tt
    (procedure h 3 [] tt [] tt None (block h (at h 7 19 true (s.Allocate
    (vec h (request h (member h (name (n.Static 0) l.Whole) 0 l.Whole) (kind (base.Derived 0) 0 true) [] tt ∷ []) tt) None)
    ∷ at h 7 34 true (s.Deallocate (vec h (request h (member h (name (n.Static 0) l.Whole) 0 l.Whole) (kind (base.Derived 0) 0 true) [] tt ∷ [])
    tt) None) ∷ at h 7 51 true (s.Print (vec h (item.Value (allocated h (member h (name (n.Static 0) l.Whole) 0 l.Whole)) ∷ []) tt)) ∷ []) tt) (place 7 76))
    (place 7 1)

--     program p; integer :: aaaaaaaaaaaaaaaaaaaaaaaaaaaaaaaaaaaaaaaaaaaaaaaaaaaaaaaaaaaaaaa = 5; print *, aaaaaaaaaaaaaaaaaaaaaaaaaaaaaaaaaaaaaaaaaaaaaaaaaaaaaaaaaaaaaaa; end
abbrev pub hostile_02_name_63 : Global → Program
hostile_02_name_63 h = program h [] tt
    (static (declared h (kind base.Integer 0 false) [] tt ((constant.Number (pos 5)) ∷ []) tt) 0 false ∷ []) tt
    [] tt
    (procedure h 0 [] tt [] tt None (block h (at h 1 92 true (s.Print (vec h (item.Value (var h (name (n.Static 0) l.Whole)) ∷ []) tt)) ∷ []) tt) (place 1 166))
    (place 1 1)

abbrev pub heap_40_lent_allocatable_dummy_deallocate_stat_shows : Global → Type 0
heap_40_lent_allocatable_dummy_deallocate_stat_shows h = shown (run_of (heap_40_lent_allocatable_dummy_deallocate_stat h) 2000 granted) ≡ record
    { bytes = (lines (codes " 9 3" ∷ [])); verdict = Finished }

abbrev pub heap_41_lent_allocatable_dummy_assign_shape_shows : Global → Type 0
heap_41_lent_allocatable_dummy_assign_shape_shows h = shown (run_of (heap_41_lent_allocatable_dummy_assign_shape h) 2000 granted) ≡ record
    { bytes = (lines []); verdict = Failed 9 3 1 }

abbrev pub heap_42_lent_allocatable_dummy_assign_object_shows : Global → Type 0
heap_42_lent_allocatable_dummy_assign_object_shows h = shown (run_of (heap_42_lent_allocatable_dummy_assign_object h) 2000 granted) ≡ record
    { bytes = (lines []); verdict = Failed 9 3 1 }

abbrev pub heap_43_lent_allocatable_dummy_move_from_shows : Global → Type 0
heap_43_lent_allocatable_dummy_move_from_shows h = shown (run_of (heap_43_lent_allocatable_dummy_move_from h) 2000 granted) ≡ record
    { bytes = (lines []); verdict = Failed 9 3 1 }

abbrev pub heap_44_lent_allocatable_dummy_move_to_shows : Global → Type 0
heap_44_lent_allocatable_dummy_move_to_shows h = shown (run_of (heap_44_lent_allocatable_dummy_move_to h) 2000 granted) ≡ record
    { bytes = (lines []); verdict = Failed 9 3 1 }

abbrev pub heap_45_lent_allocatable_dummy_out_allocatable_shows : Global → Type 0
heap_45_lent_allocatable_dummy_out_allocatable_shows h = shown (run_of (heap_45_lent_allocatable_dummy_out_allocatable h) 2000 granted) ≡ record
    { bytes = (lines []); verdict = Failed 9 3 1 }

abbrev pub heap_46_lent_allocatable_dummy_out_object_shows : Global → Type 0
heap_46_lent_allocatable_dummy_out_object_shows h = shown (run_of (heap_46_lent_allocatable_dummy_out_object h) 2000 granted) ≡ record
    { bytes = (lines []); verdict = Failed 9 3 1 }

abbrev pub heap_47_lent_final_deallocate_shows : Global → Type 0
heap_47_lent_final_deallocate_shows h = shown (run_of (heap_47_lent_final_deallocate h) 2000 granted) ≡ record { bytes = (lines []); verdict = Failed 9 3 1 }

abbrev pub heap_48_lent_final_deallocate_stat_shows : Global → Type 0
heap_48_lent_final_deallocate_stat_shows h = shown (run_of (heap_48_lent_final_deallocate_stat h) 2000 granted) ≡ record
    { bytes = (lines (codes " 9 F" ∷ [])); verdict = Finished }

abbrev pub heap_49_lent_final_assign_shape_shows : Global → Type 0
heap_49_lent_final_assign_shape_shows h = shown (run_of (heap_49_lent_final_assign_shape h) 2000 granted) ≡ record
    { bytes = (lines []); verdict = Failed 9 3 1 }

abbrev pub heap_50_lent_final_assign_object_shows : Global → Type 0
heap_50_lent_final_assign_object_shows h = shown (run_of (heap_50_lent_final_assign_object h) 2000 granted) ≡ record
    { bytes = (lines []); verdict = Failed 9 3 1 }

abbrev pub heap_51_lent_final_move_from_shows : Global → Type 0
heap_51_lent_final_move_from_shows h = shown (run_of (heap_51_lent_final_move_from h) 2000 granted) ≡ record { bytes = (lines []); verdict = Failed 9 3 1 }

abbrev pub heap_52_lent_final_move_to_shows : Global → Type 0
heap_52_lent_final_move_to_shows h = shown (run_of (heap_52_lent_final_move_to h) 2000 granted) ≡ record { bytes = (lines []); verdict = Failed 9 3 1 }

abbrev pub heap_53_lent_final_out_allocatable_shows : Global → Type 0
heap_53_lent_final_out_allocatable_shows h = shown (run_of (heap_53_lent_final_out_allocatable h) 2000 granted) ≡ record
    { bytes = (lines []); verdict = Failed 9 3 1 }

abbrev pub heap_54_lent_final_out_object_shows : Global → Type 0
heap_54_lent_final_out_object_shows h = shown (run_of (heap_54_lent_final_out_object h) 2000 granted) ≡ record { bytes = (lines []); verdict = Failed 9 3 1 }

abbrev pub hostile_02_name_63_shows : Global → Type 0
hostile_02_name_63_shows h = shown (run_of (hostile_02_name_63 h) 2000 granted) ≡ record { bytes = (lines (codes " 5" ∷ [])); verdict = Finished }

-- These programs print this and end so.
abbrev pub Rows3Show : Type 0
Rows3Show = (h : Global) →
    (IsLawful (heap_40_lent_allocatable_dummy_deallocate_stat h) × heap_40_lent_allocatable_dummy_deallocate_stat_shows h)
    × (IsLawful (heap_41_lent_allocatable_dummy_assign_shape h) × heap_41_lent_allocatable_dummy_assign_shape_shows h)
    × (IsLawful (heap_42_lent_allocatable_dummy_assign_object h) × heap_42_lent_allocatable_dummy_assign_object_shows h)
    × (IsLawful (heap_43_lent_allocatable_dummy_move_from h) × heap_43_lent_allocatable_dummy_move_from_shows h)
    × (IsLawful (heap_44_lent_allocatable_dummy_move_to h) × heap_44_lent_allocatable_dummy_move_to_shows h)
    × (IsLawful (heap_45_lent_allocatable_dummy_out_allocatable h) × heap_45_lent_allocatable_dummy_out_allocatable_shows h)
    × (IsLawful (heap_46_lent_allocatable_dummy_out_object h) × heap_46_lent_allocatable_dummy_out_object_shows h)
    × (IsLawful (heap_47_lent_final_deallocate h) × heap_47_lent_final_deallocate_shows h)
    × (IsLawful (heap_48_lent_final_deallocate_stat h) × heap_48_lent_final_deallocate_stat_shows h)
    × (IsLawful (heap_49_lent_final_assign_shape h) × heap_49_lent_final_assign_shape_shows h)
    × (IsLawful (heap_50_lent_final_assign_object h) × heap_50_lent_final_assign_object_shows h)
    × (IsLawful (heap_51_lent_final_move_from h) × heap_51_lent_final_move_from_shows h)
    × (IsLawful (heap_52_lent_final_move_to h) × heap_52_lent_final_move_to_shows h)
    × (IsLawful (heap_53_lent_final_out_allocatable h) × heap_53_lent_final_out_allocatable_shows h)
    × (IsLawful (heap_54_lent_final_out_object h) × heap_54_lent_final_out_object_shows h)
    × (IsLawful (hostile_02_name_63 h) × hostile_02_name_63_shows h)
