-- Programs, elaborated, with their sources above.
use Rattle.std.specs.Prelude.{pos, true, false, [], ◌∷◌, None, Some, codes, ◌≡◌}
use Rattle.std.specs.declared.alloc.Global.{Global}
use Rattle.f3_program.specs.declared.declarations.Base.TheVariants as base
use Rattle.f3_program.specs.declared.expression.Name.TheVariants as n
use Rattle.f3_program.specs.declared.expression.Selection as l
use Rattle.f3_program.specs.declared.statement.Item.TheVariants as item
use Rattle.f3_program.specs.declared.statement.Statement as s
use Rattle.f3_program.specs.declared.program.Intent.TheVariants as intent
use Rattle.f3_program.specs.declared.program.Program.{Program}
use Rattle.f3_meaning_whole.specs.Run.{run_of}
use Rattle.f3_meaning_whole.specs.Permitted.{IsLawful}
use Rattle.f3_meaning_rows.specs.Shown.{granted, shown, lines, Finished, Failed}
use Rattle.f3_meaning_rows.specs.Build.{vec, place, kind, declared, comp, derived, num, var, array, call, size, val, ref, name, member, elements, sub}
use Rattle.f3_meaning_rows.specs.Build.{range as triplet, at, block, bounds, request, dummy, static, procedure, program}

--     module w; integer, allocatable :: v(:), u(:); integer :: k; contains
--     subroutine p(x); integer, intent(inout) :: x
--     deallocate(v, stat=k)
--     x = 1; end
--     end
--     program q; use w; allocate(v(3)); call p(v(1)); print *, k, size(v); end
abbrev pub heap_08_lent_element_deallocate_stat : Global → Program
heap_08_lent_element_deallocate_stat h = program h [] tt
    (static (declared h (kind base.Integer 1 true) [] tt [] tt) 0 false ∷ static (declared h (kind base.Integer 1 true) [] tt [] tt) 0 false
    ∷ static (declared h (kind base.Integer 0 false) [] tt [] tt) 0 false ∷ []) tt
    (procedure h 0 (dummy h (kind base.Integer 0 false) intent.InOut [] tt ∷ []) tt [] tt None
    (block h (at h 3 1 true (s.Deallocate (vec h (request h (name (n.Static 0) l.Whole) (kind base.Integer 1 true) [] tt ∷ []) tt)
    (Some (name (n.Static 2) l.Whole))) ∷ at h 4 1 true (s.Assign (name (n.Lent 0) l.Whole) (kind base.Integer 0 false) (num (pos 1))) ∷ []) tt)
    (place 4 8) ∷ []) tt
    (procedure h 2 [] tt [] tt None (block h (at h 6 19 true (s.Allocate
    (vec h (request h (name (n.Static 0) l.Whole) (kind base.Integer 1 true) (bounds (num (pos 1)) (num (pos 3)) ∷ []) tt ∷ []) tt) None)
    ∷ at h 6 35 true (s.Call (call h 0 (ref h 0 (name (n.Static 0) (elements h true (sub h (num (pos 1)) ∷ []) tt)) ∷ []) tt))
    ∷ at h 6 49 true (s.Print (vec h (item.Value (var h (name (n.Static 2) l.Whole))
    ∷ item.Value (size h (ref h 0 (name (n.Static 0) l.Contents))) ∷ []) tt)) ∷ []) tt) (place 6 70))
    (place 6 1)

--     module w; integer, allocatable :: v(:), u(:); contains
--     subroutine p(x); integer, intent(inout) :: x
--     v = [1, 2]
--     x = 1; end
--     end
--     program q; use w; allocate(v(3)); call p(v(1)); print *, size(v); end
abbrev pub heap_09_lent_element_assign_shape : Global → Program
heap_09_lent_element_assign_shape h = program h [] tt
    (static (declared h (kind base.Integer 1 true) [] tt [] tt) 0 false ∷ static (declared h (kind base.Integer 1 true) [] tt [] tt) 0 false ∷ []) tt
    (procedure h 0 (dummy h (kind base.Integer 0 false) intent.InOut [] tt ∷ []) tt [] tt None
    (block h (at h 3 1 true (s.Assign (name (n.Static 0) l.Whole) (kind base.Integer 1 true)
    (array h (val h 0 (num (pos 1)) ∷ val h 0 (num (pos 2)) ∷ []) tt))
    ∷ at h 4 1 true (s.Assign (name (n.Lent 0) l.Whole) (kind base.Integer 0 false) (num (pos 1))) ∷ []) tt) (place 4 8) ∷ []) tt
    (procedure h 2 [] tt [] tt None (block h (at h 6 19 true (s.Allocate
    (vec h (request h (name (n.Static 0) l.Whole) (kind base.Integer 1 true) (bounds (num (pos 1)) (num (pos 3)) ∷ []) tt ∷ []) tt) None)
    ∷ at h 6 35 true (s.Call (call h 0 (ref h 0 (name (n.Static 0) (elements h true (sub h (num (pos 1)) ∷ []) tt)) ∷ []) tt))
    ∷ at h 6 49 true (s.Print (vec h (item.Value (size h (ref h 0 (name (n.Static 0) l.Contents))) ∷ []) tt)) ∷ []) tt) (place 6 67))
    (place 6 1)

--     module w; type t; integer, allocatable :: c(:); end type; type(t) :: h, g; contains
--     subroutine p(x); integer, intent(inout) :: x
--     h = g
--     x = 1; end
--     end
--     program q; use w; allocate(h%c(3)); call p(h%c(1)); print *, size(h%c); end
abbrev pub heap_10_lent_element_assign_object : Global → Program
heap_10_lent_element_assign_object h = program h (derived h 0 (comp (declared h (kind base.Integer 1 true) [] tt [] tt) false ∷ []) tt [] tt ∷ []) tt
    (static (declared h (kind (base.Derived 0) 0 false) [] tt [] tt) 0 false ∷ static (declared h (kind (base.Derived 0) 0 false) [] tt [] tt) 0 false ∷ []) tt
    (procedure h 0 (dummy h (kind base.Integer 0 false) intent.InOut [] tt ∷ []) tt [] tt None
    (block h (at h 3 1 true (s.Assign (name (n.Static 0) l.Whole) (kind (base.Derived 0) 0 false) (var h (name (n.Static 1) l.Whole)))
    ∷ at h 4 1 true (s.Assign (name (n.Lent 0) l.Whole) (kind base.Integer 0 false) (num (pos 1))) ∷ []) tt) (place 4 8) ∷ []) tt
    (procedure h 2 [] tt [] tt None (block h (at h 6 19 true (s.Allocate
    (vec h (request h (member h (name (n.Static 0) l.Whole) 0 l.Whole) (kind base.Integer 1 true) (bounds (num (pos 1)) (num (pos 3)) ∷ []) tt
    ∷ []) tt) None) ∷ at h 6 37 true (s.Call (call h 0 (ref h 0
    (member h (name (n.Static 0) l.Whole) 0 (elements h true (sub h (num (pos 1)) ∷ []) tt)) ∷ []) tt))
    ∷ at h 6 53 true (s.Print (vec h (item.Value (size h (ref h 0 (member h (name (n.Static 0) l.Whole) 0 l.Contents))) ∷ []) tt)) ∷ []) tt) (place 6 73))
    (place 6 1)

--     module w; integer, allocatable :: v(:), u(:); contains
--     subroutine p(x); integer, intent(inout) :: x
--     call move_alloc(v, u)
--     x = 1; end
--     end
--     program q; use w; allocate(v(3)); call p(v(1)); print *, size(v); end
abbrev pub heap_11_lent_element_move_from : Global → Program
heap_11_lent_element_move_from h = program h [] tt
    (static (declared h (kind base.Integer 1 true) [] tt [] tt) 0 false ∷ static (declared h (kind base.Integer 1 true) [] tt [] tt) 0 false ∷ []) tt
    (procedure h 0 (dummy h (kind base.Integer 0 false) intent.InOut [] tt ∷ []) tt [] tt None
    (block h (at h 3 1 true (s.MoveAlloc (kind base.Integer 1 true) true (name (n.Static 0) l.Whole) (name (n.Static 1) l.Whole))
    ∷ at h 4 1 true (s.Assign (name (n.Lent 0) l.Whole) (kind base.Integer 0 false) (num (pos 1))) ∷ []) tt) (place 4 8) ∷ []) tt
    (procedure h 2 [] tt [] tt None (block h (at h 6 19 true (s.Allocate
    (vec h (request h (name (n.Static 0) l.Whole) (kind base.Integer 1 true) (bounds (num (pos 1)) (num (pos 3)) ∷ []) tt ∷ []) tt) None)
    ∷ at h 6 35 true (s.Call (call h 0 (ref h 0 (name (n.Static 0) (elements h true (sub h (num (pos 1)) ∷ []) tt)) ∷ []) tt))
    ∷ at h 6 49 true (s.Print (vec h (item.Value (size h (ref h 0 (name (n.Static 0) l.Contents))) ∷ []) tt)) ∷ []) tt) (place 6 67))
    (place 6 1)

--     module w; integer, allocatable :: v(:), u(:); contains
--     subroutine p(x); integer, intent(inout) :: x
--     call move_alloc(u, v)
--     x = 1; end
--     end
--     program q; use w; allocate(v(3)); allocate(u(1)); call p(v(1)); print *, size(v); end
abbrev pub heap_12_lent_element_move_to : Global → Program
heap_12_lent_element_move_to h = program h [] tt
    (static (declared h (kind base.Integer 1 true) [] tt [] tt) 0 false ∷ static (declared h (kind base.Integer 1 true) [] tt [] tt) 0 false ∷ []) tt
    (procedure h 0 (dummy h (kind base.Integer 0 false) intent.InOut [] tt ∷ []) tt [] tt None
    (block h (at h 3 1 true (s.MoveAlloc (kind base.Integer 1 true) true (name (n.Static 1) l.Whole) (name (n.Static 0) l.Whole))
    ∷ at h 4 1 true (s.Assign (name (n.Lent 0) l.Whole) (kind base.Integer 0 false) (num (pos 1))) ∷ []) tt) (place 4 8) ∷ []) tt
    (procedure h 2 [] tt [] tt None (block h (at h 6 19 true (s.Allocate
    (vec h (request h (name (n.Static 0) l.Whole) (kind base.Integer 1 true) (bounds (num (pos 1)) (num (pos 3)) ∷ []) tt ∷ []) tt) None)
    ∷ at h 6 35 true (s.Allocate (vec h (request h (name (n.Static 1) l.Whole) (kind base.Integer 1 true)
    (bounds (num (pos 1)) (num (pos 1)) ∷ []) tt ∷ []) tt) None)
    ∷ at h 6 51 true (s.Call (call h 0 (ref h 0 (name (n.Static 0) (elements h true (sub h (num (pos 1)) ∷ []) tt)) ∷ []) tt))
    ∷ at h 6 65 true (s.Print (vec h (item.Value (size h (ref h 0 (name (n.Static 0) l.Contents))) ∷ []) tt)) ∷ []) tt) (place 6 83))
    (place 6 1)

--     module w; integer, allocatable :: v(:), u(:); contains
--     subroutine p(x); integer, intent(inout) :: x
--     call wipe(v)
--     x = 1; end
--     subroutine wipe(y); integer, allocatable, intent(out) :: y(:); end
--     end
--     program q; use w; allocate(v(3)); call p(v(1)); print *, size(v); end
abbrev pub heap_13_lent_element_out_allocatable : Global → Program
heap_13_lent_element_out_allocatable h = program h [] tt
    (static (declared h (kind base.Integer 1 true) [] tt [] tt) 0 false ∷ static (declared h (kind base.Integer 1 true) [] tt [] tt) 0 false ∷ []) tt
    (procedure h 0 (dummy h (kind base.Integer 0 false) intent.InOut [] tt ∷ []) tt [] tt None
    (block h (at h 3 1 true (s.Call (call h 1 (ref h 0 (name (n.Static 0) l.Whole) ∷ []) tt))
    ∷ at h 4 1 true (s.Assign (name (n.Lent 0) l.Whole) (kind base.Integer 0 false) (num (pos 1))) ∷ []) tt) (place 4 8)
    ∷ procedure h 0 (dummy h (kind base.Integer 1 true) intent.Out [] tt ∷ []) tt [] tt None (block h [] tt) (place 5 64) ∷ []) tt
    (procedure h 3 [] tt [] tt None (block h (at h 7 19 true (s.Allocate
    (vec h (request h (name (n.Static 0) l.Whole) (kind base.Integer 1 true) (bounds (num (pos 1)) (num (pos 3)) ∷ []) tt ∷ []) tt) None)
    ∷ at h 7 35 true (s.Call (call h 0 (ref h 0 (name (n.Static 0) (elements h true (sub h (num (pos 1)) ∷ []) tt)) ∷ []) tt))
    ∷ at h 7 49 true (s.Print (vec h (item.Value (size h (ref h 0 (name (n.Static 0) l.Contents))) ∷ []) tt)) ∷ []) tt) (place 7 67))
    (place 7 1)

--     module w; type t; integer, allocatable :: c(:); end type; type(t) :: h, g; contains
--     subroutine p(x); integer, intent(inout) :: x
--     call wipe(h)
--     x = 1; end
--     subroutine wipe(y); type(t), intent(out) :: y; end
--     end
--     program q; use w; allocate(h%c(3)); call p(h%c(1)); print *, size(h%c); end
abbrev pub heap_14_lent_element_out_object : Global → Program
heap_14_lent_element_out_object h = program h (derived h 0 (comp (declared h (kind base.Integer 1 true) [] tt [] tt) false ∷ []) tt [] tt ∷ []) tt
    (static (declared h (kind (base.Derived 0) 0 false) [] tt [] tt) 0 false ∷ static (declared h (kind (base.Derived 0) 0 false) [] tt [] tt) 0 false ∷ []) tt
    (procedure h 0 (dummy h (kind base.Integer 0 false) intent.InOut [] tt ∷ []) tt [] tt None
    (block h (at h 3 1 true (s.Call (call h 1 (ref h 0 (name (n.Static 0) l.Whole) ∷ []) tt))
    ∷ at h 4 1 true (s.Assign (name (n.Lent 0) l.Whole) (kind base.Integer 0 false) (num (pos 1))) ∷ []) tt) (place 4 8)
    ∷ procedure h 0 (dummy h (kind (base.Derived 0) 0 false) intent.Out [] tt ∷ []) tt [] tt None (block h [] tt) (place 5 48) ∷ []) tt
    (procedure h 3 [] tt [] tt None (block h (at h 7 19 true (s.Allocate
    (vec h (request h (member h (name (n.Static 0) l.Whole) 0 l.Whole) (kind base.Integer 1 true) (bounds (num (pos 1)) (num (pos 3)) ∷ []) tt
    ∷ []) tt) None) ∷ at h 7 37 true (s.Call (call h 0 (ref h 0
    (member h (name (n.Static 0) l.Whole) 0 (elements h true (sub h (num (pos 1)) ∷ []) tt)) ∷ []) tt))
    ∷ at h 7 53 true (s.Print (vec h (item.Value (size h (ref h 0 (member h (name (n.Static 0) l.Whole) 0 l.Contents))) ∷ []) tt)) ∷ []) tt) (place 7 73))
    (place 7 1)

--     module w; integer, allocatable :: v(:), u(:); contains
--     subroutine p(x); integer, intent(inout) :: x(:)
--     deallocate(v)
--     x = 1; end
--     end
--     program q; use w; allocate(v(3)); call p(v(2:3)); print *, size(v); end
abbrev pub heap_15_lent_section_deallocate : Global → Program
heap_15_lent_section_deallocate h = program h [] tt
    (static (declared h (kind base.Integer 1 true) [] tt [] tt) 0 false ∷ static (declared h (kind base.Integer 1 true) [] tt [] tt) 0 false ∷ []) tt
    (procedure h 0 (dummy h (kind base.Integer 1 false) intent.InOut ((pos 1) ∷ []) tt ∷ []) tt [] tt None
    (block h (at h 3 1 true (s.Deallocate (vec h (request h (name (n.Static 0) l.Whole) (kind base.Integer 1 true) [] tt ∷ []) tt) None)
    ∷ at h 4 1 true (s.Assign (name (n.Lent 0) l.Whole) (kind base.Integer 1 false) (num (pos 1))) ∷ []) tt) (place 4 8) ∷ []) tt
    (procedure h 2 [] tt [] tt None (block h (at h 6 19 true (s.Allocate
    (vec h (request h (name (n.Static 0) l.Whole) (kind base.Integer 1 true) (bounds (num (pos 1)) (num (pos 3)) ∷ []) tt ∷ []) tt) None)
    ∷ at h 6 35 true (s.Call (call h 0 (ref h 0 (name (n.Static 0)
    (elements h true (triplet h true (num (pos 2)) true (num (pos 3)) (num (pos 1)) ∷ []) tt)) ∷ []) tt))
    ∷ at h 6 51 true (s.Print (vec h (item.Value (size h (ref h 0 (name (n.Static 0) l.Contents))) ∷ []) tt)) ∷ []) tt) (place 6 69))
    (place 6 1)

--     module w; integer, allocatable :: v(:), u(:); integer :: k; contains
--     subroutine p(x); integer, intent(inout) :: x(:)
--     deallocate(v, stat=k)
--     x = 1; end
--     end
--     program q; use w; allocate(v(3)); call p(v(2:3)); print *, k, size(v); end
abbrev pub heap_16_lent_section_deallocate_stat : Global → Program
heap_16_lent_section_deallocate_stat h = program h [] tt
    (static (declared h (kind base.Integer 1 true) [] tt [] tt) 0 false ∷ static (declared h (kind base.Integer 1 true) [] tt [] tt) 0 false
    ∷ static (declared h (kind base.Integer 0 false) [] tt [] tt) 0 false ∷ []) tt
    (procedure h 0 (dummy h (kind base.Integer 1 false) intent.InOut ((pos 1) ∷ []) tt ∷ []) tt [] tt None
    (block h (at h 3 1 true (s.Deallocate (vec h (request h (name (n.Static 0) l.Whole) (kind base.Integer 1 true) [] tt ∷ []) tt)
    (Some (name (n.Static 2) l.Whole))) ∷ at h 4 1 true (s.Assign (name (n.Lent 0) l.Whole) (kind base.Integer 1 false) (num (pos 1))) ∷ []) tt)
    (place 4 8) ∷ []) tt
    (procedure h 2 [] tt [] tt None (block h (at h 6 19 true (s.Allocate
    (vec h (request h (name (n.Static 0) l.Whole) (kind base.Integer 1 true) (bounds (num (pos 1)) (num (pos 3)) ∷ []) tt ∷ []) tt) None)
    ∷ at h 6 35 true (s.Call (call h 0 (ref h 0 (name (n.Static 0)
    (elements h true (triplet h true (num (pos 2)) true (num (pos 3)) (num (pos 1)) ∷ []) tt)) ∷ []) tt))
    ∷ at h 6 51 true (s.Print (vec h (item.Value (var h (name (n.Static 2) l.Whole))
    ∷ item.Value (size h (ref h 0 (name (n.Static 0) l.Contents))) ∷ []) tt)) ∷ []) tt) (place 6 72))
    (place 6 1)

--     module w; integer, allocatable :: v(:), u(:); contains
--     subroutine p(x); integer, intent(inout) :: x(:)
--     v = [1, 2]
--     x = 1; end
--     end
--     program q; use w; allocate(v(3)); call p(v(2:3)); print *, size(v); end
abbrev pub heap_17_lent_section_assign_shape : Global → Program
heap_17_lent_section_assign_shape h = program h [] tt
    (static (declared h (kind base.Integer 1 true) [] tt [] tt) 0 false ∷ static (declared h (kind base.Integer 1 true) [] tt [] tt) 0 false ∷ []) tt
    (procedure h 0 (dummy h (kind base.Integer 1 false) intent.InOut ((pos 1) ∷ []) tt ∷ []) tt [] tt None
    (block h (at h 3 1 true (s.Assign (name (n.Static 0) l.Whole) (kind base.Integer 1 true)
    (array h (val h 0 (num (pos 1)) ∷ val h 0 (num (pos 2)) ∷ []) tt))
    ∷ at h 4 1 true (s.Assign (name (n.Lent 0) l.Whole) (kind base.Integer 1 false) (num (pos 1))) ∷ []) tt) (place 4 8) ∷ []) tt
    (procedure h 2 [] tt [] tt None (block h (at h 6 19 true (s.Allocate
    (vec h (request h (name (n.Static 0) l.Whole) (kind base.Integer 1 true) (bounds (num (pos 1)) (num (pos 3)) ∷ []) tt ∷ []) tt) None)
    ∷ at h 6 35 true (s.Call (call h 0 (ref h 0 (name (n.Static 0)
    (elements h true (triplet h true (num (pos 2)) true (num (pos 3)) (num (pos 1)) ∷ []) tt)) ∷ []) tt))
    ∷ at h 6 51 true (s.Print (vec h (item.Value (size h (ref h 0 (name (n.Static 0) l.Contents))) ∷ []) tt)) ∷ []) tt) (place 6 69))
    (place 6 1)

--     module w; type t; integer, allocatable :: c(:); end type; type(t) :: h, g; contains
--     subroutine p(x); integer, intent(inout) :: x(:)
--     h = g
--     x = 1; end
--     end
--     program q; use w; allocate(h%c(3)); call p(h%c(2:3)); print *, size(h%c); end
abbrev pub heap_18_lent_section_assign_object : Global → Program
heap_18_lent_section_assign_object h = program h (derived h 0 (comp (declared h (kind base.Integer 1 true) [] tt [] tt) false ∷ []) tt [] tt ∷ []) tt
    (static (declared h (kind (base.Derived 0) 0 false) [] tt [] tt) 0 false ∷ static (declared h (kind (base.Derived 0) 0 false) [] tt [] tt) 0 false ∷ []) tt
    (procedure h 0 (dummy h (kind base.Integer 1 false) intent.InOut ((pos 1) ∷ []) tt ∷ []) tt [] tt None
    (block h (at h 3 1 true (s.Assign (name (n.Static 0) l.Whole) (kind (base.Derived 0) 0 false) (var h (name (n.Static 1) l.Whole)))
    ∷ at h 4 1 true (s.Assign (name (n.Lent 0) l.Whole) (kind base.Integer 1 false) (num (pos 1))) ∷ []) tt) (place 4 8) ∷ []) tt
    (procedure h 2 [] tt [] tt None (block h (at h 6 19 true (s.Allocate
    (vec h (request h (member h (name (n.Static 0) l.Whole) 0 l.Whole) (kind base.Integer 1 true) (bounds (num (pos 1)) (num (pos 3)) ∷ []) tt
    ∷ []) tt) None) ∷ at h 6 37 true (s.Call (call h 0 (ref h 0
    (member h (name (n.Static 0) l.Whole) 0 (elements h true (triplet h true (num (pos 2)) true (num (pos 3)) (num (pos 1)) ∷ []) tt)) ∷ []) tt))
    ∷ at h 6 55 true (s.Print (vec h (item.Value (size h (ref h 0 (member h (name (n.Static 0) l.Whole) 0 l.Contents))) ∷ []) tt)) ∷ []) tt) (place 6 75))
    (place 6 1)

--     module w; integer, allocatable :: v(:), u(:); contains
--     subroutine p(x); integer, intent(inout) :: x(:)
--     call move_alloc(v, u)
--     x = 1; end
--     end
--     program q; use w; allocate(v(3)); call p(v(2:3)); print *, size(v); end
abbrev pub heap_19_lent_section_move_from : Global → Program
heap_19_lent_section_move_from h = program h [] tt
    (static (declared h (kind base.Integer 1 true) [] tt [] tt) 0 false ∷ static (declared h (kind base.Integer 1 true) [] tt [] tt) 0 false ∷ []) tt
    (procedure h 0 (dummy h (kind base.Integer 1 false) intent.InOut ((pos 1) ∷ []) tt ∷ []) tt [] tt None
    (block h (at h 3 1 true (s.MoveAlloc (kind base.Integer 1 true) true (name (n.Static 0) l.Whole) (name (n.Static 1) l.Whole))
    ∷ at h 4 1 true (s.Assign (name (n.Lent 0) l.Whole) (kind base.Integer 1 false) (num (pos 1))) ∷ []) tt) (place 4 8) ∷ []) tt
    (procedure h 2 [] tt [] tt None (block h (at h 6 19 true (s.Allocate
    (vec h (request h (name (n.Static 0) l.Whole) (kind base.Integer 1 true) (bounds (num (pos 1)) (num (pos 3)) ∷ []) tt ∷ []) tt) None)
    ∷ at h 6 35 true (s.Call (call h 0 (ref h 0 (name (n.Static 0)
    (elements h true (triplet h true (num (pos 2)) true (num (pos 3)) (num (pos 1)) ∷ []) tt)) ∷ []) tt))
    ∷ at h 6 51 true (s.Print (vec h (item.Value (size h (ref h 0 (name (n.Static 0) l.Contents))) ∷ []) tt)) ∷ []) tt) (place 6 69))
    (place 6 1)

--     module w; integer, allocatable :: v(:), u(:); contains
--     subroutine p(x); integer, intent(inout) :: x(:)
--     call move_alloc(u, v)
--     x = 1; end
--     end
--     program q; use w; allocate(v(3)); allocate(u(1)); call p(v(2:3)); print *, size(v); end
abbrev pub heap_20_lent_section_move_to : Global → Program
heap_20_lent_section_move_to h = program h [] tt
    (static (declared h (kind base.Integer 1 true) [] tt [] tt) 0 false ∷ static (declared h (kind base.Integer 1 true) [] tt [] tt) 0 false ∷ []) tt
    (procedure h 0 (dummy h (kind base.Integer 1 false) intent.InOut ((pos 1) ∷ []) tt ∷ []) tt [] tt None
    (block h (at h 3 1 true (s.MoveAlloc (kind base.Integer 1 true) true (name (n.Static 1) l.Whole) (name (n.Static 0) l.Whole))
    ∷ at h 4 1 true (s.Assign (name (n.Lent 0) l.Whole) (kind base.Integer 1 false) (num (pos 1))) ∷ []) tt) (place 4 8) ∷ []) tt
    (procedure h 2 [] tt [] tt None (block h (at h 6 19 true (s.Allocate
    (vec h (request h (name (n.Static 0) l.Whole) (kind base.Integer 1 true) (bounds (num (pos 1)) (num (pos 3)) ∷ []) tt ∷ []) tt) None)
    ∷ at h 6 35 true (s.Allocate (vec h (request h (name (n.Static 1) l.Whole) (kind base.Integer 1 true)
    (bounds (num (pos 1)) (num (pos 1)) ∷ []) tt ∷ []) tt) None)
    ∷ at h 6 51 true (s.Call (call h 0 (ref h 0 (name (n.Static 0)
    (elements h true (triplet h true (num (pos 2)) true (num (pos 3)) (num (pos 1)) ∷ []) tt)) ∷ []) tt))
    ∷ at h 6 67 true (s.Print (vec h (item.Value (size h (ref h 0 (name (n.Static 0) l.Contents))) ∷ []) tt)) ∷ []) tt) (place 6 85))
    (place 6 1)

--     module w; integer, allocatable :: v(:), u(:); contains
--     subroutine p(x); integer, intent(inout) :: x(:)
--     call wipe(v)
--     x = 1; end
--     subroutine wipe(y); integer, allocatable, intent(out) :: y(:); end
--     end
--     program q; use w; allocate(v(3)); call p(v(2:3)); print *, size(v); end
abbrev pub heap_21_lent_section_out_allocatable : Global → Program
heap_21_lent_section_out_allocatable h = program h [] tt
    (static (declared h (kind base.Integer 1 true) [] tt [] tt) 0 false ∷ static (declared h (kind base.Integer 1 true) [] tt [] tt) 0 false ∷ []) tt
    (procedure h 0 (dummy h (kind base.Integer 1 false) intent.InOut ((pos 1) ∷ []) tt ∷ []) tt [] tt None
    (block h (at h 3 1 true (s.Call (call h 1 (ref h 0 (name (n.Static 0) l.Whole) ∷ []) tt))
    ∷ at h 4 1 true (s.Assign (name (n.Lent 0) l.Whole) (kind base.Integer 1 false) (num (pos 1))) ∷ []) tt) (place 4 8)
    ∷ procedure h 0 (dummy h (kind base.Integer 1 true) intent.Out [] tt ∷ []) tt [] tt None (block h [] tt) (place 5 64) ∷ []) tt
    (procedure h 3 [] tt [] tt None (block h (at h 7 19 true (s.Allocate
    (vec h (request h (name (n.Static 0) l.Whole) (kind base.Integer 1 true) (bounds (num (pos 1)) (num (pos 3)) ∷ []) tt ∷ []) tt) None)
    ∷ at h 7 35 true (s.Call (call h 0 (ref h 0 (name (n.Static 0)
    (elements h true (triplet h true (num (pos 2)) true (num (pos 3)) (num (pos 1)) ∷ []) tt)) ∷ []) tt))
    ∷ at h 7 51 true (s.Print (vec h (item.Value (size h (ref h 0 (name (n.Static 0) l.Contents))) ∷ []) tt)) ∷ []) tt) (place 7 69))
    (place 7 1)

--     module w; type t; integer, allocatable :: c(:); end type; type(t) :: h, g; contains
--     subroutine p(x); integer, intent(inout) :: x(:)
--     call wipe(h)
--     x = 1; end
--     subroutine wipe(y); type(t), intent(out) :: y; end
--     end
--     program q; use w; allocate(h%c(3)); call p(h%c(2:3)); print *, size(h%c); end
abbrev pub heap_22_lent_section_out_object : Global → Program
heap_22_lent_section_out_object h = program h (derived h 0 (comp (declared h (kind base.Integer 1 true) [] tt [] tt) false ∷ []) tt [] tt ∷ []) tt
    (static (declared h (kind (base.Derived 0) 0 false) [] tt [] tt) 0 false ∷ static (declared h (kind (base.Derived 0) 0 false) [] tt [] tt) 0 false ∷ []) tt
    (procedure h 0 (dummy h (kind base.Integer 1 false) intent.InOut ((pos 1) ∷ []) tt ∷ []) tt [] tt None
    (block h (at h 3 1 true (s.Call (call h 1 (ref h 0 (name (n.Static 0) l.Whole) ∷ []) tt))
    ∷ at h 4 1 true (s.Assign (name (n.Lent 0) l.Whole) (kind base.Integer 1 false) (num (pos 1))) ∷ []) tt) (place 4 8)
    ∷ procedure h 0 (dummy h (kind (base.Derived 0) 0 false) intent.Out [] tt ∷ []) tt [] tt None (block h [] tt) (place 5 48) ∷ []) tt
    (procedure h 3 [] tt [] tt None (block h (at h 7 19 true (s.Allocate
    (vec h (request h (member h (name (n.Static 0) l.Whole) 0 l.Whole) (kind base.Integer 1 true) (bounds (num (pos 1)) (num (pos 3)) ∷ []) tt
    ∷ []) tt) None) ∷ at h 7 37 true (s.Call (call h 0 (ref h 0
    (member h (name (n.Static 0) l.Whole) 0 (elements h true (triplet h true (num (pos 2)) true (num (pos 3)) (num (pos 1)) ∷ []) tt)) ∷ []) tt))
    ∷ at h 7 55 true (s.Print (vec h (item.Value (size h (ref h 0 (member h (name (n.Static 0) l.Whole) 0 l.Contents))) ∷ []) tt)) ∷ []) tt) (place 7 75))
    (place 7 1)

--     module w; integer, allocatable :: v(:), u(:); contains
--     subroutine p(x); integer, intent(inout) :: x(:)
--     deallocate(v)
--     x = 1; end
--     end
--     program q; use w; allocate(v(3)); call p(v(2:1)); print *, size(v); end
abbrev pub heap_23_lent_empty_section_deallocate : Global → Program
heap_23_lent_empty_section_deallocate h = program h [] tt
    (static (declared h (kind base.Integer 1 true) [] tt [] tt) 0 false ∷ static (declared h (kind base.Integer 1 true) [] tt [] tt) 0 false ∷ []) tt
    (procedure h 0 (dummy h (kind base.Integer 1 false) intent.InOut ((pos 1) ∷ []) tt ∷ []) tt [] tt None
    (block h (at h 3 1 true (s.Deallocate (vec h (request h (name (n.Static 0) l.Whole) (kind base.Integer 1 true) [] tt ∷ []) tt) None)
    ∷ at h 4 1 true (s.Assign (name (n.Lent 0) l.Whole) (kind base.Integer 1 false) (num (pos 1))) ∷ []) tt) (place 4 8) ∷ []) tt
    (procedure h 2 [] tt [] tt None (block h (at h 6 19 true (s.Allocate
    (vec h (request h (name (n.Static 0) l.Whole) (kind base.Integer 1 true) (bounds (num (pos 1)) (num (pos 3)) ∷ []) tt ∷ []) tt) None)
    ∷ at h 6 35 true (s.Call (call h 0 (ref h 0 (name (n.Static 0)
    (elements h true (triplet h true (num (pos 2)) true (num (pos 1)) (num (pos 1)) ∷ []) tt)) ∷ []) tt))
    ∷ at h 6 51 true (s.Print (vec h (item.Value (size h (ref h 0 (name (n.Static 0) l.Contents))) ∷ []) tt)) ∷ []) tt) (place 6 69))
    (place 6 1)

abbrev pub heap_08_lent_element_deallocate_stat_shows : Global → Type 0
heap_08_lent_element_deallocate_stat_shows h = shown (run_of (heap_08_lent_element_deallocate_stat h) 2000 granted) ≡ record
    { bytes = (lines (codes " 9 3" ∷ [])); verdict = Finished }

abbrev pub heap_09_lent_element_assign_shape_shows : Global → Type 0
heap_09_lent_element_assign_shape_shows h = shown (run_of (heap_09_lent_element_assign_shape h) 2000 granted) ≡ record
    { bytes = (lines []); verdict = Failed 9 3 1 }

abbrev pub heap_10_lent_element_assign_object_shows : Global → Type 0
heap_10_lent_element_assign_object_shows h = shown (run_of (heap_10_lent_element_assign_object h) 2000 granted) ≡ record
    { bytes = (lines []); verdict = Failed 9 3 1 }

abbrev pub heap_11_lent_element_move_from_shows : Global → Type 0
heap_11_lent_element_move_from_shows h = shown (run_of (heap_11_lent_element_move_from h) 2000 granted) ≡ record { bytes = (lines []); verdict = Failed 9 3 1 }

abbrev pub heap_12_lent_element_move_to_shows : Global → Type 0
heap_12_lent_element_move_to_shows h = shown (run_of (heap_12_lent_element_move_to h) 2000 granted) ≡ record { bytes = (lines []); verdict = Failed 9 3 1 }

abbrev pub heap_13_lent_element_out_allocatable_shows : Global → Type 0
heap_13_lent_element_out_allocatable_shows h = shown (run_of (heap_13_lent_element_out_allocatable h) 2000 granted) ≡ record
    { bytes = (lines []); verdict = Failed 9 3 1 }

abbrev pub heap_14_lent_element_out_object_shows : Global → Type 0
heap_14_lent_element_out_object_shows h = shown (run_of (heap_14_lent_element_out_object h) 2000 granted) ≡ record
    { bytes = (lines []); verdict = Failed 9 3 1 }

abbrev pub heap_15_lent_section_deallocate_shows : Global → Type 0
heap_15_lent_section_deallocate_shows h = shown (run_of (heap_15_lent_section_deallocate h) 2000 granted) ≡ record
    { bytes = (lines []); verdict = Failed 9 3 1 }

abbrev pub heap_16_lent_section_deallocate_stat_shows : Global → Type 0
heap_16_lent_section_deallocate_stat_shows h = shown (run_of (heap_16_lent_section_deallocate_stat h) 2000 granted) ≡ record
    { bytes = (lines (codes " 9 3" ∷ [])); verdict = Finished }

abbrev pub heap_17_lent_section_assign_shape_shows : Global → Type 0
heap_17_lent_section_assign_shape_shows h = shown (run_of (heap_17_lent_section_assign_shape h) 2000 granted) ≡ record
    { bytes = (lines []); verdict = Failed 9 3 1 }

abbrev pub heap_18_lent_section_assign_object_shows : Global → Type 0
heap_18_lent_section_assign_object_shows h = shown (run_of (heap_18_lent_section_assign_object h) 2000 granted) ≡ record
    { bytes = (lines []); verdict = Failed 9 3 1 }

abbrev pub heap_19_lent_section_move_from_shows : Global → Type 0
heap_19_lent_section_move_from_shows h = shown (run_of (heap_19_lent_section_move_from h) 2000 granted) ≡ record { bytes = (lines []); verdict = Failed 9 3 1 }

abbrev pub heap_20_lent_section_move_to_shows : Global → Type 0
heap_20_lent_section_move_to_shows h = shown (run_of (heap_20_lent_section_move_to h) 2000 granted) ≡ record { bytes = (lines []); verdict = Failed 9 3 1 }

abbrev pub heap_21_lent_section_out_allocatable_shows : Global → Type 0
heap_21_lent_section_out_allocatable_shows h = shown (run_of (heap_21_lent_section_out_allocatable h) 2000 granted) ≡ record
    { bytes = (lines []); verdict = Failed 9 3 1 }

abbrev pub heap_22_lent_section_out_object_shows : Global → Type 0
heap_22_lent_section_out_object_shows h = shown (run_of (heap_22_lent_section_out_object h) 2000 granted) ≡ record
    { bytes = (lines []); verdict = Failed 9 3 1 }

abbrev pub heap_23_lent_empty_section_deallocate_shows : Global → Type 0
heap_23_lent_empty_section_deallocate_shows h = shown (run_of (heap_23_lent_empty_section_deallocate h) 2000 granted) ≡ record
    { bytes = (lines []); verdict = Failed 9 3 1 }

-- These programs print this and end so.
abbrev pub Rows1Show : Type 0
Rows1Show = (h : Global) →
    (IsLawful (heap_08_lent_element_deallocate_stat h) × heap_08_lent_element_deallocate_stat_shows h)
    × (IsLawful (heap_09_lent_element_assign_shape h) × heap_09_lent_element_assign_shape_shows h)
    × (IsLawful (heap_10_lent_element_assign_object h) × heap_10_lent_element_assign_object_shows h)
    × (IsLawful (heap_11_lent_element_move_from h) × heap_11_lent_element_move_from_shows h)
    × (IsLawful (heap_12_lent_element_move_to h) × heap_12_lent_element_move_to_shows h)
    × (IsLawful (heap_13_lent_element_out_allocatable h) × heap_13_lent_element_out_allocatable_shows h)
    × (IsLawful (heap_14_lent_element_out_object h) × heap_14_lent_element_out_object_shows h)
    × (IsLawful (heap_15_lent_section_deallocate h) × heap_15_lent_section_deallocate_shows h)
    × (IsLawful (heap_16_lent_section_deallocate_stat h) × heap_16_lent_section_deallocate_stat_shows h)
    × (IsLawful (heap_17_lent_section_assign_shape h) × heap_17_lent_section_assign_shape_shows h)
    × (IsLawful (heap_18_lent_section_assign_object h) × heap_18_lent_section_assign_object_shows h)
    × (IsLawful (heap_19_lent_section_move_from h) × heap_19_lent_section_move_from_shows h)
    × (IsLawful (heap_20_lent_section_move_to h) × heap_20_lent_section_move_to_shows h)
    × (IsLawful (heap_21_lent_section_out_allocatable h) × heap_21_lent_section_out_allocatable_shows h)
    × (IsLawful (heap_22_lent_section_out_object h) × heap_22_lent_section_out_object_shows h)
    × (IsLawful (heap_23_lent_empty_section_deallocate h) × heap_23_lent_empty_section_deallocate_shows h)
