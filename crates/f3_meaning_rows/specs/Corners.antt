-- Programs that go into corners; their answers are those of the reference implementation.
use Rattle.std.specs.Prelude.{pos, true, false, [], ◌∷◌, None, Some, codes, ◌≡◌}
use Rattle.std.specs.declared.alloc.Global.{Global}
use Rattle.f3_program.specs.declared.declarations.Base.TheVariants as base
use Rattle.f3_program.specs.declared.declarations.Constant.TheVariants as constant
use Rattle.f3_program.specs.declared.expression.UnaryOperator.TheVariants as c
use Rattle.f3_program.specs.declared.expression.Name.TheVariants as n
use Rattle.f3_program.specs.declared.expression.BinaryOperator.TheVariants as o
use Rattle.f3_program.specs.declared.expression.Query.TheVariants as query
use Rattle.f3_program.specs.declared.expression.Selection as l
use Rattle.f3_program.specs.declared.statement.Item.TheVariants as item
use Rattle.f3_program.specs.declared.statement.Range.TheVariants as range
use Rattle.f3_program.specs.declared.statement.Selector.TheVariants as selector
use Rattle.f3_program.specs.declared.statement.Statement as s
use Rattle.f3_program.specs.declared.program.Intent.TheVariants as intent
use Rattle.f3_program.specs.declared.program.Program.{Program}
use Rattle.f3_meaning_whole.specs.Run.{run_of}
use Rattle.f3_meaning_whole.specs.Permitted.{IsLawful}
use Rattle.f3_meaning_rows.specs.Shown.{granted, shown, lines, Finished, Failed, Stopped}
use Rattle.f3_meaning_rows.specs.Build.{vec, place, kind, dim, declared, comp, derived, final, num, truth, var, group, unary, bin, array, struct}
use Rattle.f3_meaning_rows.specs.Build.{call, allocated, size, query as asks, val, ref, name, member, elements, sub, range as triplet, at, block}
use Rattle.f3_meaning_rows.specs.Build.{when, choose, case, while, for, associate, bounds, request, text, dummy, static, procedure, program}

--     module m; type t; integer :: a(3) = [7, 8, 9]; integer :: c = 1; end type; end
--     program p; use m; type(t) :: x(4); integer :: i(3, 2), k
--     x(2:3)%c = 5; x(4)%a(2:3) = [1, 2]; x(:)%a(2) = x(4:1:-1)%c; print *, x%c, x(4)%a, x%a(2)
--     i = 0; i(:, 2) = [1, 2, 3]; i(3:1:-2, 1) = i(1:2, 2); print *, i; print *, size(i(:, 1:0)), ubound(i, 2), lbound(i(2:, 1), 1)
--     k = 4; print *, i(k - 1, 2); print *, x(1:0)%a(5)
--     end
abbrev pub corner_sections : Global → Program
corner_sections h = program h (derived h 0 (comp (declared h (kind base.Integer 1 false) (dim (pos 1) 3 ∷ []) tt
    ((constant.Number (pos 7)) ∷ (constant.Number (pos 8)) ∷ (constant.Number (pos 9)) ∷ []) tt) false
    ∷ comp (declared h (kind base.Integer 0 false) [] tt ((constant.Number (pos 1)) ∷ []) tt) false ∷ []) tt [] tt ∷ []) tt
    [] tt
    [] tt
    (procedure h 1 [] tt ((declared h (kind (base.Derived 0) 1 false) (dim (pos 1) 4 ∷ []) tt [] tt)
    ∷ (declared h (kind base.Integer 2 false) (dim (pos 1) 3 ∷ dim (pos 1) 2 ∷ []) tt [] tt)
    ∷ (declared h (kind base.Integer 0 false) [] tt [] tt) ∷ []) tt None
    (block h (at h 3 1 true (s.Assign (member h (name (n.Local 0)
    (elements h false (triplet h true (num (pos 2)) true (num (pos 3)) (num (pos 1)) ∷ []) tt)) 1 l.Whole) (kind base.Integer 1 false)
    (num (pos 5))) ∷ at h 3 15 true (s.Assign (member h (name (n.Local 0) (elements h false (sub h (num (pos 4)) ∷ []) tt)) 0
    (elements h false (triplet h true (num (pos 2)) true (num (pos 3)) (num (pos 1)) ∷ []) tt)) (kind base.Integer 1 false)
    (array h (val h 0 (num (pos 1)) ∷ val h 0 (num (pos 2)) ∷ []) tt))
    ∷ at h 3 37 true (s.Assign (member h (name (n.Local 0)
    (elements h false (triplet h false (num (pos 1)) false (num (pos 1)) (num (pos 1)) ∷ []) tt)) 0
    (elements h false (sub h (num (pos 2)) ∷ []) tt)) (kind base.Integer 1 false)
    (var h (member h (name (n.Local 0) (elements h false (triplet h true (num (pos 4)) true (num (pos 1))
    (unary h c.Negate base.Integer (num (pos 1))) ∷ []) tt)) 1 l.Whole)))
    ∷ at h 3 62 true (s.Print (vec h (item.Value (var h (member h (name (n.Local 0) l.Whole) 1 l.Whole))
    ∷ item.Value (var h (member h (name (n.Local 0) (elements h false (sub h (num (pos 4)) ∷ []) tt)) 0 l.Whole))
    ∷ item.Value (var h (member h (name (n.Local 0) l.Whole) 0 (elements h false (sub h (num (pos 2)) ∷ []) tt))) ∷ []) tt))
    ∷ at h 4 1 true (s.Assign (name (n.Local 1) l.Whole) (kind base.Integer 2 false) (num (pos 0)))
    ∷ at h 4 8 true (s.Assign (name (n.Local 1) (elements h false
    (triplet h false (num (pos 1)) false (num (pos 1)) (num (pos 1)) ∷ sub h (num (pos 2)) ∷ []) tt)) (kind base.Integer 1 false)
    (array h (val h 0 (num (pos 1)) ∷ val h 0 (num (pos 2)) ∷ val h 0 (num (pos 3)) ∷ []) tt))
    ∷ at h 4 29 true (s.Assign (name (n.Local 1) (elements h false
    (triplet h true (num (pos 3)) true (num (pos 1)) (unary h c.Negate base.Integer (num (pos 2))) ∷ sub h (num (pos 1)) ∷ []) tt))
    (kind base.Integer 1 false) (var h (name (n.Local 1) (elements h false
    (triplet h true (num (pos 1)) true (num (pos 2)) (num (pos 1)) ∷ sub h (num (pos 2)) ∷ []) tt))))
    ∷ at h 4 55 true (s.Print (vec h (item.Value (var h (name (n.Local 1) l.Whole)) ∷ []) tt))
    ∷ at h 4 67 true (s.Print (vec h (item.Value (size h (ref h 0
    (name (n.Local 1) (elements h false (triplet h false (num (pos 1)) false (num (pos 1)) (num (pos 1))
    ∷ triplet h true (num (pos 1)) true (num (pos 0)) (num (pos 1)) ∷ []) tt))))
    ∷ item.Value (asks h query.Upper (ref h 0 (name (n.Local 1) l.Whole)) (num (pos 2)))
    ∷ item.Value (asks h query.Lower (ref h 0 (name (n.Local 1)
    (elements h false (triplet h true (num (pos 2)) false (num (pos 1)) (num (pos 1)) ∷ sub h (num (pos 1)) ∷ []) tt))) (num (pos 1))) ∷ []) tt))
    ∷ at h 5 1 true (s.Assign (name (n.Local 2) l.Whole) (kind base.Integer 0 false) (num (pos 4)))
    ∷ at h 5 8 true (s.Print (vec h (item.Value (var h (name (n.Local 1)
    (elements h false (sub h (bin h o.Subtract base.Integer (var h (name (n.Local 2) l.Whole)) (num (pos 1))) ∷ sub h (num (pos 2)) ∷ []) tt)))
    ∷ []) tt)) ∷ at h 5 30 true (s.Print (vec h (item.Value
    (var h (member h (name (n.Local 0) (elements h false (triplet h true (num (pos 1)) true (num (pos 0)) (num (pos 1)) ∷ []) tt)) 0
    (elements h false (sub h (num (pos 5)) ∷ []) tt))) ∷ []) tt)) ∷ []) tt) (place 6 1))
    (place 2 1)

abbrev pub corner_sections_shows : Global → Type 0
corner_sections_shows h = shown (run_of (corner_sections h) 2000 granted) ≡ record
    { bytes = (lines (codes " 1 5 5 1 7 1 2 1 5 5 1" ∷ codes " 2 0 1 1 2 3" ∷ codes " 0 2 1" ∷ codes " 3" ∷ [])); verdict = Failed 3 5 30 }

--     module m; type t; integer :: id = 0; integer, allocatable :: v(:); contains; final :: f0, f1; end type; contains
--     subroutine f0(x); type(t), intent(inout) :: x; print *, 's', x%id, allocated(x%v); end
--     subroutine f1(x); type(t), intent(inout) :: x(:); print *, 'a', size(x), x%id; if (size(x) > 1) then; if (allocated(x(2)%v)) deallocate(x(2)%v); allocate(x(2)%v(1)); end if; end
--     subroutine go(); type(t) :: a(3); type(t) :: b; integer :: k
--     do k = 1, 3; a(k)%id = k; allocate(a(k)%v(k)); a(k)%v = k; end do
--     a(1:2) = a(3); print *, a%id, a(1)%v; b = a(2); a(3)%v(1) = 9; b%id = 4; print *, b%v, a(3)%v; end
--     end
--     program p; use m; type(t), allocatable :: w(:); call go(); allocate(w(2:3)); w(2)%id = 6; w = w(3:2:-1); print *, lbound(w, 1), w%id; deallocate(w); end
abbrev pub corner_finals_of_sections : Global → Program
corner_finals_of_sections h = program h (derived h 0 (comp (declared h (kind base.Integer 0 false) [] tt ((constant.Number (pos 0)) ∷ []) tt) false
    ∷ comp (declared h (kind base.Integer 1 true) [] tt [] tt) false ∷ []) tt (final 0 0 ∷ final 1 1 ∷ []) tt ∷ []) tt
    [] tt
    (procedure h 0 (dummy h (kind (base.Derived 0) 0 false) intent.InOut [] tt ∷ []) tt [] tt None
    (block h (at h 2 48 true (s.Print (vec h (text h (115 ∷ []) tt ∷ item.Value (var h (member h (name (n.Lent 0) l.Whole) 0 l.Whole))
    ∷ item.Value (allocated h (member h (name (n.Lent 0) l.Whole) 1 l.Whole)) ∷ []) tt)) ∷ []) tt) (place 2 84)
    ∷ procedure h 0 (dummy h (kind (base.Derived 0) 1 false) intent.InOut ((pos 1) ∷ []) tt ∷ []) tt [] tt None
    (block h (at h 3 51 true (s.Print (vec h (text h (97 ∷ []) tt ∷ item.Value (size h (ref h 0 (name (n.Lent 0) l.Whole)))
    ∷ item.Value (var h (member h (name (n.Lent 0) l.Whole) 0 l.Whole)) ∷ []) tt))
    ∷ at h 3 80 true (when h (bin h o.Greater base.Logical (size h (ref h 0 (name (n.Lent 0) l.Whole))) (num (pos 1)))
    (block h (at h 3 103 true (when h (allocated h (member h (name (n.Lent 0) (elements h false (sub h (num (pos 2)) ∷ []) tt)) 1 l.Whole))
    (s.Deallocate (vec h (request h (member h (name (n.Lent 0) (elements h false (sub h (num (pos 2)) ∷ []) tt)) 1 l.Whole)
    (kind base.Integer 1 true) [] tt ∷ []) tt) None) (block h [] tt))
    ∷ at h 3 146 true (s.Allocate (vec h (request h (member h (name (n.Lent 0) (elements h false (sub h (num (pos 2)) ∷ []) tt)) 1 l.Whole)
    (kind base.Integer 1 true) (bounds (num (pos 1)) (num (pos 1)) ∷ []) tt ∷ []) tt) None) ∷ []) tt) (block h [] tt)) ∷ []) tt) (place 3 175)
    ∷ procedure h 0 [] tt ((declared h (kind (base.Derived 0) 1 false) (dim (pos 1) 3 ∷ []) tt [] tt)
    ∷ (declared h (kind (base.Derived 0) 0 false) [] tt [] tt) ∷ (declared h (kind base.Integer 0 false) [] tt [] tt) ∷ []) tt None
    (block h (at h 5 1 true (for h (name (n.Local 2) l.Whole) (kind base.Integer 0 false) (num (pos 1)) (num (pos 3)) (num (pos 1))
    (block h (at h 5 14 true (s.Assign (member h (name (n.Local 0) (elements h false (sub h (var h (name (n.Local 2) l.Whole)) ∷ []) tt)) 0
    l.Whole) (kind base.Integer 0 false) (var h (name (n.Local 2) l.Whole)))
    ∷ at h 5 27 true (s.Allocate (vec h (request h (member h
    (name (n.Local 0) (elements h false (sub h (var h (name (n.Local 2) l.Whole)) ∷ []) tt)) 1 l.Whole) (kind base.Integer 1 true)
    (bounds (num (pos 1)) (var h (name (n.Local 2) l.Whole)) ∷ []) tt ∷ []) tt) None)
    ∷ at h 5 48 true (s.Assign (member h (name (n.Local 0) (elements h false (sub h (var h (name (n.Local 2) l.Whole)) ∷ []) tt)) 1 l.Whole)
    (kind base.Integer 1 true) (var h (name (n.Local 2) l.Whole))) ∷ []) tt))
    ∷ at h 6 1 true (s.Assign (name (n.Local 0) (elements h false (triplet h true (num (pos 1)) true (num (pos 2)) (num (pos 1)) ∷ []) tt))
    (kind (base.Derived 0) 1 false) (var h (name (n.Local 0) (elements h false (sub h (num (pos 3)) ∷ []) tt))))
    ∷ at h 6 16 true (s.Print (vec h (item.Value (var h (member h (name (n.Local 0) l.Whole) 0 l.Whole))
    ∷ item.Value (var h (member h (name (n.Local 0) (elements h false (sub h (num (pos 1)) ∷ []) tt)) 1 l.Contents)) ∷ []) tt))
    ∷ at h 6 39 true (s.Assign (name (n.Local 1) l.Whole) (kind (base.Derived 0) 0 false)
    (var h (name (n.Local 0) (elements h false (sub h (num (pos 2)) ∷ []) tt))))
    ∷ at h 6 49 true (s.Assign (member h (name (n.Local 0) (elements h false (sub h (num (pos 3)) ∷ []) tt)) 1
    (elements h true (sub h (num (pos 1)) ∷ []) tt)) (kind base.Integer 0 false) (num (pos 9)))
    ∷ at h 6 64 true (s.Assign (member h (name (n.Local 1) l.Whole) 0 l.Whole) (kind base.Integer 0 false) (num (pos 4)))
    ∷ at h 6 74 true (s.Print (vec h (item.Value (var h (member h (name (n.Local 1) l.Whole) 1 l.Contents))
    ∷ item.Value (var h (member h (name (n.Local 0) (elements h false (sub h (num (pos 3)) ∷ []) tt)) 1 l.Contents)) ∷ []) tt)) ∷ []) tt)
    (place 6 96) ∷ []) tt
    (procedure h 4 [] tt ((declared h (kind (base.Derived 0) 1 true) [] tt [] tt) ∷ []) tt None
    (block h (at h 8 49 true (s.Call (call h 2 [] tt)) ∷ at h 8 60 true
    (s.Allocate (vec h (request h (name (n.Local 0) l.Whole) (kind (base.Derived 0) 1 true) (bounds (num (pos 2)) (num (pos 3)) ∷ []) tt ∷ [])
    tt) None) ∷ at h 8 78 true (s.Assign (member h (name (n.Local 0) (elements h true (sub h (num (pos 2)) ∷ []) tt)) 0 l.Whole)
    (kind base.Integer 0 false) (num (pos 6))) ∷ at h 8 91 true
    (s.Assign (name (n.Local 0) l.Whole) (kind (base.Derived 0) 1 true)
    (var h (name (n.Local 0) (elements h true (triplet h true (num (pos 3)) true (num (pos 2)) (unary h c.Negate base.Integer (num (pos 1)))
    ∷ []) tt)))) ∷ at h 8 106 true (s.Print (vec h (item.Value (asks h query.Lower (ref h 0 (name (n.Local 0) l.Contents)) (num (pos 1)))
    ∷ item.Value (var h (member h (name (n.Local 0) l.Contents) 0 l.Whole)) ∷ []) tt))
    ∷ at h 8 135 true (s.Deallocate (vec h (request h (name (n.Local 0) l.Whole) (kind (base.Derived 0) 1 true) [] tt ∷ []) tt) None) ∷ []) tt)
    (place 8 150))
    (place 8 1)

abbrev pub corner_finals_of_sections_shows : Global → Type 0
corner_finals_of_sections_shows h = shown (run_of (corner_finals_of_sections h) 2000 granted) ≡ record {
  bytes = (lines (codes " a 2 1 2" ∷ codes " 3 3 3 3 3 3" ∷ codes " s 0 F" ∷ codes " 3 3 3 9 3 3" ∷ codes " a 3 3 3 3" ∷ codes " s 4 T"
      ∷ codes " a 2 6 0" ∷ codes " 2 0 6" ∷ codes " a 2 0 6" ∷ []));
  verdict = Finished;
}

--     module m; type t; integer :: n; integer, allocatable :: v(:); end type; contains
--     recursive function fac(n) result(r); integer, intent(in) :: n; integer :: r; r = 1; if (n > 1) r = n * fac(n - 1); end function
--     function make(n); integer, intent(in) :: n; type(t), allocatable :: make; integer :: i; if (n == 0) return; allocate(make); make%n = n; allocate(make%v(0:n)); do i = 0, n; make%v(i) = fac(i); end do; end function
--     function two(a); integer, intent(in) :: a(:); integer :: two(2); two = a(size(a):1:-1); end function
--     end
--     program p; use m; type(t), allocatable :: x; integer, allocatable :: z(:)
--     x = make(4); print *, x%n, x%v, lbound(x%v, 1); z = two([3, 4]); print *, z, two(two(z)), lbound(two(z), 1); x%v = [x%v(2), max(fac(3), 2, 9)]; print *, x%v
--     x = t(v = z, n = fac(5)); print *, x%n, x%v; x = make(0); print *, 1
--     end
abbrev pub corner_functions : Global → Program
corner_functions h = program h (derived h 0 (comp (declared h (kind base.Integer 0 false) [] tt [] tt) false
    ∷ comp (declared h (kind base.Integer 1 true) [] tt [] tt) false ∷ []) tt [] tt ∷ []) tt
    [] tt
    (procedure h 0 (dummy h (kind base.Integer 0 false) intent.In [] tt ∷ []) tt [] tt (Some (declared h (kind base.Integer 0 false) [] tt [] tt))
    (block h (at h 2 78 true (s.Assign (name (n.Local 0) l.Whole) (kind base.Integer 0 false) (num (pos 1)))
    ∷ at h 2 85 true (when h (bin h o.Greater base.Logical (var h (name (n.Lent 0) l.Whole)) (num (pos 1)))
    (s.Assign (name (n.Local 0) l.Whole) (kind base.Integer 0 false)
    (bin h o.Multiply base.Integer (var h (name (n.Lent 0) l.Whole))
    (call h 0 (val h 0 (bin h o.Subtract base.Integer (var h (name (n.Lent 0) l.Whole)) (num (pos 1))) ∷ []) tt))) (block h [] tt)) ∷ []) tt)
    (place 2 116) ∷ procedure h 0 (dummy h (kind base.Integer 0 false) intent.In [] tt ∷ []) tt
    ((declared h (kind base.Integer 0 false) [] tt [] tt) ∷ []) tt (Some (declared h (kind (base.Derived 0) 0 true) [] tt [] tt))
    (block h (at h 3 89 true (when h (bin h o.Equal base.Logical (var h (name (n.Lent 0) l.Whole)) (num (pos 0))) s.Return (block h [] tt))
    ∷ at h 3 109 true (s.Allocate (vec h (request h (name (n.Local 1) l.Whole) (kind (base.Derived 0) 0 true) [] tt ∷ []) tt) None)
    ∷ at h 3 125 true (s.Assign (member h (name (n.Local 1) l.Contents) 0 l.Whole) (kind base.Integer 0 false) (var h (name (n.Lent 0) l.Whole)))
    ∷ at h 3 137 true (s.Allocate (vec h (request h (member h (name (n.Local 1) l.Contents) 1 l.Whole) (kind base.Integer 1 true)
    (bounds (num (pos 0)) (var h (name (n.Lent 0) l.Whole)) ∷ []) tt ∷ []) tt) None)
    ∷ at h 3 160 true (for h (name (n.Local 0) l.Whole) (kind base.Integer 0 false) (num (pos 0)) (var h (name (n.Lent 0) l.Whole)) (num (pos 1))
    (block h (at h 3 173 true (s.Assign (member h (name (n.Local 1) l.Contents) 1
    (elements h true (sub h (var h (name (n.Local 0) l.Whole)) ∷ []) tt)) (kind base.Integer 0 false)
    (call h 0 (ref h 0 (name (n.Local 0) l.Whole) ∷ []) tt)) ∷ []) tt)) ∷ []) tt) (place 3 201)
    ∷ procedure h 0 (dummy h (kind base.Integer 1 false) intent.In ((pos 1) ∷ []) tt ∷ []) tt [] tt
    (Some (declared h (kind base.Integer 1 false) (dim (pos 1) 2 ∷ []) tt [] tt))
    (block h (at h 4 66 true (s.Assign (name (n.Local 0) l.Whole) (kind base.Integer 1 false)
    (var h (name (n.Lent 0) (elements h false (triplet h true (size h (ref h 0 (name (n.Lent 0) l.Whole))) true (num (pos 1))
    (unary h c.Negate base.Integer (num (pos 1))) ∷ []) tt)))) ∷ []) tt) (place 4 89) ∷ []) tt
    (procedure h 4 [] tt ((declared h (kind (base.Derived 0) 0 true) [] tt [] tt) ∷ (declared h (kind base.Integer 1 true) [] tt [] tt) ∷ []) tt None
    (block h (at h 7 1 true (s.Assign (name (n.Local 0) l.Whole) (kind (base.Derived 0) 0 true) (call h 1 (val h 0 (num (pos 4)) ∷ []) tt))
    ∷ at h 7 14 true (s.Print (vec h (item.Value (var h (member h (name (n.Local 0) l.Contents) 0 l.Whole))
    ∷ item.Value (var h (member h (name (n.Local 0) l.Contents) 1 l.Contents))
    ∷ item.Value (asks h query.Lower (ref h 0 (member h (name (n.Local 0) l.Contents) 1 l.Contents)) (num (pos 1))) ∷ []) tt))
    ∷ at h 7 49 true (s.Assign (name (n.Local 1) l.Whole) (kind base.Integer 1 true)
    (call h 2 (val h 0 (array h (val h 0 (num (pos 3)) ∷ val h 0 (num (pos 4)) ∷ []) tt) ∷ []) tt))
    ∷ at h 7 66 true (s.Print (vec h (item.Value (var h (name (n.Local 1) l.Contents))
    ∷ item.Value (call h 2 (val h 0 (call h 2 (ref h 0 (name (n.Local 1) l.Contents) ∷ []) tt) ∷ []) tt)
    ∷ item.Value (asks h query.Lower (val h 0 (call h 2 (ref h 0 (name (n.Local 1) l.Contents) ∷ []) tt)) (num (pos 1))) ∷ []) tt))
    ∷ at h 7 110 true (s.Assign (member h (name (n.Local 0) l.Contents) 1 l.Whole) (kind base.Integer 1 true)
    (array h (val h 0 (var h (member h (name (n.Local 0) l.Contents) 1 (elements h true (sub h (num (pos 2)) ∷ []) tt)))
    ∷ val h 0 (bin h o.Max base.Integer (bin h o.Max base.Integer (call h 0 (val h 0 (num (pos 3)) ∷ []) tt) (num (pos 2))) (num (pos 9))) ∷ [])
    tt)) ∷ at h 7 145 true (s.Print (vec h (item.Value (var h (member h (name (n.Local 0) l.Contents) 1 l.Contents)) ∷ []) tt))
    ∷ at h 8 1 true (s.Assign (name (n.Local 0) l.Whole) (kind (base.Derived 0) 0 true)
    (struct h 0 (ref h 1 (name (n.Local 1) l.Whole) ∷ val h 0 (call h 0 (val h 0 (num (pos 5)) ∷ []) tt) ∷ []) tt))
    ∷ at h 8 27 true (s.Print (vec h (item.Value (var h (member h (name (n.Local 0) l.Contents) 0 l.Whole))
    ∷ item.Value (var h (member h (name (n.Local 0) l.Contents) 1 l.Contents)) ∷ []) tt))
    ∷ at h 8 46 true (s.Assign (name (n.Local 0) l.Whole) (kind (base.Derived 0) 0 true) (call h 1 (val h 0 (num (pos 0)) ∷ []) tt))
    ∷ at h 8 59 true (s.Print (vec h (item.Value (num (pos 1)) ∷ []) tt)) ∷ []) tt) (place 9 1))
    (place 6 1)

abbrev pub corner_functions_shows : Global → Type 0
corner_functions_shows h = shown (run_of (corner_functions h) 2000 granted) ≡ record
    { bytes = (lines (codes " 4 1 1 2 6 24 0" ∷ codes " 4 3 4 3 1" ∷ codes " 2 9" ∷ codes " 120 4 3" ∷ [])); verdict = Failed 4 8 46 }

--     module m; integer, allocatable :: g(:); contains
--     subroutine s(k); integer, intent(in) :: k; integer :: i
--     do i = 1, 3; associate (a => g(i:), b => i * 10); if (i == 1) cycle; associate (c => a(1)); c = b; if (i == k) return; end associate; end associate; end do; print *, 'end'; end
--     end
--     program p; use m; g = [1, 2, 3]; call s(2); print *, g; call s(5); print *, g; associate (q => g, r => (g)); deallocate(g); end associate; end
abbrev pub corner_associates : Global → Program
corner_associates h = program h [] tt
    (static (declared h (kind base.Integer 1 true) [] tt [] tt) 0 false ∷ []) tt
    (procedure h 0 (dummy h (kind base.Integer 0 false) intent.In [] tt ∷ []) tt ((declared h (kind base.Integer 0 false) [] tt [] tt) ∷ []) tt None
    (block h (at h 3 1 true (for h (name (n.Local 0) l.Whole) (kind base.Integer 0 false) (num (pos 1)) (num (pos 3)) (num (pos 1))
    (block h (at h 3 14 true (associate h (selector.Variable
    (name (n.Static 0) (elements h true (triplet h true (var h (name (n.Local 0) l.Whole)) false (num (pos 1)) (num (pos 1)) ∷ []) tt))
    ∷ selector.Value (kind base.Integer 0 false) (bin h o.Multiply base.Integer (var h (name (n.Local 0) l.Whole)) (num (pos 10))) ∷ []) tt
    (block h (at h 3 51 true (when h (bin h o.Equal base.Logical (var h (name (n.Local 0) l.Whole)) (num (pos 1))) s.Cycle (block h [] tt))
    ∷ at h 3 70 true (associate h (selector.Variable (name (n.Lent 1) (elements h false (sub h (num (pos 1)) ∷ []) tt)) ∷ []) tt
    (block h (at h 3 93 true (s.Assign (name (n.Lent 3) l.Whole) (kind base.Integer 0 false) (var h (name (n.Lent 2) l.Whole)))
    ∷ at h 3 100 true (when h (bin h o.Equal base.Logical (var h (name (n.Local 0) l.Whole)) (var h (name (n.Lent 0) l.Whole))) s.Return
    (block h [] tt)) ∷ []) tt)) ∷ []) tt)) ∷ []) tt)) ∷ at h 3 158 true (s.Print (vec h (text h (101 ∷ 110 ∷ 100 ∷ []) tt ∷ []) tt)) ∷ []) tt)
    (place 3 174) ∷ []) tt
    (procedure h 4 [] tt [] tt None (block h (at h 5 19 true (s.Assign (name (n.Static 0) l.Whole) (kind base.Integer 1 true)
    (array h (val h 0 (num (pos 1)) ∷ val h 0 (num (pos 2)) ∷ val h 0 (num (pos 3)) ∷ []) tt))
    ∷ at h 5 34 true (s.Call (call h 0 (val h 0 (num (pos 2)) ∷ []) tt))
    ∷ at h 5 45 true (s.Print (vec h (item.Value (var h (name (n.Static 0) l.Contents)) ∷ []) tt))
    ∷ at h 5 57 true (s.Call (call h 0 (val h 0 (num (pos 5)) ∷ []) tt))
    ∷ at h 5 68 true (s.Print (vec h (item.Value (var h (name (n.Static 0) l.Contents)) ∷ []) tt))
    ∷ at h 5 80 true (associate h (selector.Variable (name (n.Static 0) l.Contents)
    ∷ selector.Value (kind base.Integer 1 false) (group h (var h (name (n.Static 0) l.Contents))) ∷ []) tt
    (block h (at h 5 110 true (s.Deallocate (vec h (request h (name (n.Static 0) l.Whole) (kind base.Integer 1 true) [] tt ∷ []) tt) None) ∷ [])
    tt)) ∷ []) tt) (place 5 140))
    (place 5 1)

abbrev pub corner_associates_shows : Global → Type 0
corner_associates_shows h = shown (run_of (corner_associates h) 2000 granted) ≡ record
    { bytes = (lines (codes " 1 20 3" ∷ codes " end" ∷ codes " 1 20 30" ∷ [])); verdict = Failed 9 5 110 }

--     module m; type t; integer :: n = 3; integer, allocatable :: v(:); contains; final :: f; end type; contains
--     subroutine f(x); type(t), intent(inout) :: x; print *, 'f', x%n, allocated(x%v); x%n = 8; end
--     subroutine a(x, y, z); type(t), intent(out) :: x; integer, allocatable, intent(out) :: y(:); integer, intent(out) :: z(2:); print *, x%n, allocated(x%v), allocated(y), z, lbound(z, 1); x%n = 5; allocate(y(7:8)); y = 1; z(3) = 4; end
--     subroutine b(x); type(t), allocatable, intent(out) :: x(:); print *, allocated(x); allocate(x(2)); x%n = [1, 2]; end
--     end
--     program p; use m; type(t), save :: x; type(t), allocatable :: w(:); integer, allocatable :: y(:); integer :: z(3); z = 6; allocate(x%v(2), y(1), w(1))
--     call a(x, y, z(1:3:2)); print *, x%n, lbound(y, 1), z; call b(w); print *, w%n; call a(x, y, z(:1)); end
abbrev pub corner_intent_out : Global → Program
corner_intent_out h = program h (derived h 0 (comp (declared h (kind base.Integer 0 false) [] tt ((constant.Number (pos 3)) ∷ []) tt) false
    ∷ comp (declared h (kind base.Integer 1 true) [] tt [] tt) false ∷ []) tt (final 0 0 ∷ []) tt ∷ []) tt
    (static (declared h (kind (base.Derived 0) 0 false) [] tt [] tt) 4 false ∷ []) tt
    (procedure h 0 (dummy h (kind (base.Derived 0) 0 false) intent.InOut [] tt ∷ []) tt [] tt None
    (block h (at h 2 47 true (s.Print (vec h (text h (102 ∷ []) tt ∷ item.Value (var h (member h (name (n.Lent 0) l.Whole) 0 l.Whole))
    ∷ item.Value (allocated h (member h (name (n.Lent 0) l.Whole) 1 l.Whole)) ∷ []) tt))
    ∷ at h 2 82 true (s.Assign (member h (name (n.Lent 0) l.Whole) 0 l.Whole) (kind base.Integer 0 false) (num (pos 8))) ∷ []) tt) (place 2 91)
    ∷ procedure h 0 (dummy h (kind (base.Derived 0) 0 false) intent.Out [] tt ∷ dummy h (kind base.Integer 1 true) intent.Out [] tt
    ∷ dummy h (kind base.Integer 1 false) intent.Out ((pos 2) ∷ []) tt ∷ []) tt [] tt None
    (block h (at h 3 125 true (s.Print (vec h (item.Value (var h (member h (name (n.Lent 0) l.Whole) 0 l.Whole))
    ∷ item.Value (allocated h (member h (name (n.Lent 0) l.Whole) 1 l.Whole)) ∷ item.Value (allocated h (name (n.Lent 1) l.Whole))
    ∷ item.Value (var h (name (n.Lent 2) l.Whole)) ∷ item.Value (asks h query.Lower (ref h 0 (name (n.Lent 2) l.Whole)) (num (pos 1))) ∷ []) tt))
    ∷ at h 3 186 true (s.Assign (member h (name (n.Lent 0) l.Whole) 0 l.Whole) (kind base.Integer 0 false) (num (pos 5)))
    ∷ at h 3 195 true (s.Allocate (vec h (request h (name (n.Lent 1) l.Whole) (kind base.Integer 1 true)
    (bounds (num (pos 7)) (num (pos 8)) ∷ []) tt ∷ []) tt) None)
    ∷ at h 3 213 true (s.Assign (name (n.Lent 1) l.Whole) (kind base.Integer 1 true) (num (pos 1)))
    ∷ at h 3 220 true (s.Assign (name (n.Lent 2) (elements h false (sub h (num (pos 3)) ∷ []) tt)) (kind base.Integer 0 false) (num (pos 4)))
    ∷ []) tt) (place 3 230) ∷ procedure h 0 (dummy h (kind (base.Derived 0) 1 true) intent.Out [] tt ∷ []) tt [] tt None
    (block h (at h 4 61 true (s.Print (vec h (item.Value (allocated h (name (n.Lent 0) l.Whole)) ∷ []) tt))
    ∷ at h 4 84 true (s.Allocate (vec h (request h (name (n.Lent 0) l.Whole) (kind (base.Derived 0) 1 true)
    (bounds (num (pos 1)) (num (pos 2)) ∷ []) tt ∷ []) tt) None)
    ∷ at h 4 100 true (s.Assign (member h (name (n.Lent 0) l.Contents) 0 l.Whole) (kind base.Integer 1 false)
    (array h (val h 0 (num (pos 1)) ∷ val h 0 (num (pos 2)) ∷ []) tt)) ∷ []) tt) (place 4 114) ∷ []) tt
    (procedure h 4 [] tt ((declared h (kind (base.Derived 0) 1 true) [] tt [] tt) ∷ (declared h (kind base.Integer 1 true) [] tt [] tt)
    ∷ (declared h (kind base.Integer 1 false) (dim (pos 1) 3 ∷ []) tt [] tt) ∷ []) tt None
    (block h (at h 6 116 true (s.Assign (name (n.Local 2) l.Whole) (kind base.Integer 1 false) (num (pos 6)))
    ∷ at h 6 123 true (s.Allocate (vec h (request h (member h (name (n.Static 0) l.Whole) 1 l.Whole) (kind base.Integer 1 true)
    (bounds (num (pos 1)) (num (pos 2)) ∷ []) tt ∷ request h (name (n.Local 1) l.Whole) (kind base.Integer 1 true)
    (bounds (num (pos 1)) (num (pos 1)) ∷ []) tt ∷ request h (name (n.Local 0) l.Whole) (kind (base.Derived 0) 1 true)
    (bounds (num (pos 1)) (num (pos 1)) ∷ []) tt ∷ []) tt) None)
    ∷ at h 7 1 true (s.Call (call h 1 (ref h 0 (name (n.Static 0) l.Whole) ∷ ref h 1 (name (n.Local 1) l.Whole)
    ∷ ref h 2 (name (n.Local 2) (elements h false (triplet h true (num (pos 1)) true (num (pos 3)) (num (pos 2)) ∷ []) tt)) ∷ []) tt))
    ∷ at h 7 25 true (s.Print (vec h (item.Value (var h (member h (name (n.Static 0) l.Whole) 0 l.Whole))
    ∷ item.Value (asks h query.Lower (ref h 0 (name (n.Local 1) l.Contents)) (num (pos 1))) ∷ item.Value (var h (name (n.Local 2) l.Whole)) ∷ [])
    tt)) ∷ at h 7 56 true (s.Call (call h 2 (ref h 0 (name (n.Local 0) l.Whole) ∷ []) tt))
    ∷ at h 7 67 true (s.Print (vec h (item.Value (var h (member h (name (n.Local 0) l.Contents) 0 l.Whole)) ∷ []) tt))
    ∷ at h 7 81 true (s.Call (call h 1 (ref h 0 (name (n.Static 0) l.Whole) ∷ ref h 1 (name (n.Local 1) l.Whole)
    ∷ ref h 2 (name (n.Local 2) (elements h false (triplet h false (num (pos 1)) true (num (pos 1)) (num (pos 1)) ∷ []) tt)) ∷ []) tt)) ∷ []) tt)
    (place 7 102))
    (place 6 1)

abbrev pub corner_intent_out_shows : Global → Type 0
corner_intent_out_shows h = shown (run_of (corner_intent_out h) 2000 granted) ≡ record {
  bytes = (lines (codes " f 3 T" ∷ codes " 3 F F 0 0 2" ∷ codes " 5 7 0 6 4" ∷ codes " F" ∷ codes " 1 2" ∷ codes " f 5 F" ∷ codes " 3 F F 0 2"
      ∷ []));
  verdict = Failed 3 3 220;
}

--     module m; type t; integer :: n = 1; contains; final :: f; end type; contains; subroutine f(x); type(t), intent(inout) :: x; print *, 'f', x%n; end; end
--     program p; use m; type(t), allocatable :: a, b; integer, allocatable :: v(:), w(:); allocate(a, b); a%n = 2; call move_alloc(to=a, from=b); print *, a%n, allocated(b); call move_alloc(b, a); print *, allocated(a)
--     allocate(v(3:4)); v = [5, 6]; call move_alloc(v, w); print *, lbound(w, 1), ubound(w, 1), w, allocated(v); call move_alloc(v, w); print *, allocated(w); deallocate(v, stat=a%n); end
abbrev pub corner_moves : Global → Program
corner_moves h = program h (derived h 0 (comp (declared h (kind base.Integer 0 false) [] tt ((constant.Number (pos 1)) ∷ []) tt) false ∷ []) tt
    (final 0 0 ∷ []) tt ∷ []) tt
    [] tt
    (procedure h 0 (dummy h (kind (base.Derived 0) 0 false) intent.InOut [] tt ∷ []) tt [] tt None
    (block h (at h 1 125 true (s.Print (vec h (text h (102 ∷ []) tt ∷ item.Value (var h (member h (name (n.Lent 0) l.Whole) 0 l.Whole)) ∷ [])
    tt)) ∷ []) tt) (place 1 144) ∷ []) tt
    (procedure h 2 [] tt ((declared h (kind (base.Derived 0) 0 true) [] tt [] tt) ∷ (declared h (kind (base.Derived 0) 0 true) [] tt [] tt)
    ∷ (declared h (kind base.Integer 1 true) [] tt [] tt) ∷ (declared h (kind base.Integer 1 true) [] tt [] tt) ∷ []) tt None
    (block h (at h 2 85 true (s.Allocate (vec h (request h (name (n.Local 0) l.Whole) (kind (base.Derived 0) 0 true) [] tt
    ∷ request h (name (n.Local 1) l.Whole) (kind (base.Derived 0) 0 true) [] tt ∷ []) tt) None)
    ∷ at h 2 101 true (s.Assign (member h (name (n.Local 0) l.Contents) 0 l.Whole) (kind base.Integer 0 false) (num (pos 2)))
    ∷ at h 2 110 true (s.MoveAlloc (kind (base.Derived 0) 0 true) false (name (n.Local 0) l.Whole) (name (n.Local 1) l.Whole))
    ∷ at h 2 141 true (s.Print (vec h (item.Value (var h (member h (name (n.Local 0) l.Contents) 0 l.Whole))
    ∷ item.Value (allocated h (name (n.Local 1) l.Whole)) ∷ []) tt))
    ∷ at h 2 169 true (s.MoveAlloc (kind (base.Derived 0) 0 true) true (name (n.Local 1) l.Whole) (name (n.Local 0) l.Whole))
    ∷ at h 2 192 true (s.Print (vec h (item.Value (allocated h (name (n.Local 0) l.Whole)) ∷ []) tt))
    ∷ at h 3 1 true (s.Allocate (vec h (request h (name (n.Local 2) l.Whole) (kind base.Integer 1 true) (bounds (num (pos 3)) (num (pos 4)) ∷ [])
    tt ∷ []) tt) None) ∷ at h 3 19 true (s.Assign (name (n.Local 2) l.Whole) (kind base.Integer 1 true)
    (array h (val h 0 (num (pos 5)) ∷ val h 0 (num (pos 6)) ∷ []) tt))
    ∷ at h 3 31 true (s.MoveAlloc (kind base.Integer 1 true) true (name (n.Local 2) l.Whole) (name (n.Local 3) l.Whole))
    ∷ at h 3 54 true (s.Print (vec h (item.Value (asks h query.Lower (ref h 0 (name (n.Local 3) l.Contents)) (num (pos 1)))
    ∷ item.Value (asks h query.Upper (ref h 0 (name (n.Local 3) l.Contents)) (num (pos 1))) ∷ item.Value (var h (name (n.Local 3) l.Contents))
    ∷ item.Value (allocated h (name (n.Local 2) l.Whole)) ∷ []) tt))
    ∷ at h 3 108 true (s.MoveAlloc (kind base.Integer 1 true) true (name (n.Local 2) l.Whole) (name (n.Local 3) l.Whole))
    ∷ at h 3 131 true (s.Print (vec h (item.Value (allocated h (name (n.Local 3) l.Whole)) ∷ []) tt))
    ∷ at h 3 154 true (s.Deallocate (vec h (request h (name (n.Local 2) l.Whole) (kind base.Integer 1 true) [] tt ∷ []) tt)
    (Some (member h (name (n.Local 0) l.Contents) 0 l.Whole))) ∷ []) tt) (place 3 179))
    (place 2 1)

abbrev pub corner_moves_shows : Global → Type 0
corner_moves_shows h = shown (run_of (corner_moves h) 2000 granted) ≡ record
    { bytes = (lines (codes " f 2" ∷ codes " 1 F" ∷ codes " f 1" ∷ codes " F" ∷ codes " 3 4 5 6 F" ∷ codes " F" ∷ [])); verdict = Failed 4 3 154 }

--     module m; contains; subroutine s(n); integer, intent(in) :: n; integer, save :: calls = 10; integer :: k; calls = calls + 1
--     select case (n); case (:0); print *, 'low'; case (1, 3); select case (n == 1); case (.true.); print *, 'one'; case default; print *, 'three'; end select; case default; print *, 'more'; case (4:6); print *, 'mid'; end select
--     do; k = k + 1; if (k > n) exit; if (k == 2) cycle; print *, k, calls; end do
--     if (n == 6) stop 12; end; end
--     program p; use m; integer :: i, f(2) = [3, 4], z = 0; do i = 6, -1, -3; z = z + 1; end do; print *, i, z, f; call s(-1); call s(1); call s(3); call s(2); call s(6); print *, 'never'; end
abbrev pub corner_control : Global → Program
corner_control h = program h [] tt
    (static (declared h (kind base.Integer 0 false) [] tt ((constant.Number (pos 10)) ∷ []) tt) 0 false
    ∷ static (declared h (kind base.Integer 1 false) (dim (pos 1) 2 ∷ []) tt ((constant.Number (pos 3)) ∷ (constant.Number (pos 4)) ∷ []) tt) 2
    false ∷ static (declared h (kind base.Integer 0 false) [] tt ((constant.Number (pos 0)) ∷ []) tt) 2 false ∷ []) tt
    (procedure h 0 (dummy h (kind base.Integer 0 false) intent.In [] tt ∷ []) tt ((declared h (kind base.Integer 0 false) [] tt [] tt) ∷ []) tt None
    (block h (at h 1 107 true (s.Assign (name (n.Static 0) l.Whole) (kind base.Integer 0 false)
    (bin h o.Add base.Integer (var h (name (n.Static 0) l.Whole)) (num (pos 1))))
    ∷ at h 2 1 true (choose h (var h (name (n.Lent 0) l.Whole))
    (case h (range.To (pos 0) ∷ []) tt (block h (at h 2 29 true (s.Print (vec h (text h (108 ∷ 111 ∷ 119 ∷ []) tt ∷ []) tt)) ∷ []) tt)
    (case h (range.One (constant.Number (pos 1)) ∷ range.One (constant.Number (pos 3)) ∷ []) tt
    (block h (at h 2 58 true (choose h (bin h o.Equal base.Logical (var h (name (n.Lent 0) l.Whole)) (num (pos 1)))
    (case h (range.One (constant.Truth true) ∷ []) tt (block h (at h 2 95 true (s.Print (vec h (text h (111 ∷ 110 ∷ 101 ∷ []) tt ∷ []) tt)) ∷ [])
    tt) (block h (at h 2 125 true (s.Print (vec h (text h (116 ∷ 104 ∷ 114 ∷ 101 ∷ 101 ∷ []) tt ∷ []) tt)) ∷ []) tt))) ∷ []) tt)
    (case h (range.Between (pos 4) (pos 6) ∷ []) tt (block h (at h 2 198 true (s.Print (vec h (text h (109 ∷ 105 ∷ 100 ∷ []) tt ∷ []) tt)) ∷ [])
    tt) (block h (at h 2 169 true (s.Print (vec h (text h (109 ∷ 111 ∷ 114 ∷ 101 ∷ []) tt ∷ []) tt)) ∷ []) tt)))))
    ∷ at h 3 1 true (while h (truth true) (block h (at h 3 5 true
    (s.Assign (name (n.Local 0) l.Whole) (kind base.Integer 0 false) (bin h o.Add base.Integer (var h (name (n.Local 0) l.Whole)) (num (pos 1))))
    ∷ at h 3 16 true (when h (bin h o.Greater base.Logical (var h (name (n.Local 0) l.Whole)) (var h (name (n.Lent 0) l.Whole))) s.Exit
    (block h [] tt)) ∷ at h 3 33 true (when h (bin h o.Equal base.Logical (var h (name (n.Local 0) l.Whole)) (num (pos 2))) s.Cycle
    (block h [] tt)) ∷ at h 3 52 true (s.Print (vec h (item.Value (var h (name (n.Local 0) l.Whole))
    ∷ item.Value (var h (name (n.Static 0) l.Whole)) ∷ []) tt)) ∷ []) tt))
    ∷ at h 4 1 true (when h (bin h o.Equal base.Logical (var h (name (n.Lent 0) l.Whole)) (num (pos 6))) (s.Stop (Some 12)) (block h [] tt))
    ∷ []) tt) (place 4 22) ∷ []) tt
    (procedure h 2 [] tt ((declared h (kind base.Integer 0 false) [] tt [] tt) ∷ []) tt None
    (block h (at h 5 55 true (for h (name (n.Local 0) l.Whole) (kind base.Integer 0 false) (num (pos 6))
    (unary h c.Negate base.Integer (num (pos 1))) (unary h c.Negate base.Integer (num (pos 3)))
    (block h (at h 5 73 true (s.Assign (name (n.Static 2) l.Whole) (kind base.Integer 0 false)
    (bin h o.Add base.Integer (var h (name (n.Static 2) l.Whole)) (num (pos 1)))) ∷ []) tt))
    ∷ at h 5 92 true (s.Print (vec h (item.Value (var h (name (n.Local 0) l.Whole)) ∷ item.Value (var h (name (n.Static 2) l.Whole))
    ∷ item.Value (var h (name (n.Static 1) l.Whole)) ∷ []) tt))
    ∷ at h 5 110 true (s.Call (call h 0 (val h 0 (unary h c.Negate base.Integer (num (pos 1))) ∷ []) tt))
    ∷ at h 5 122 true (s.Call (call h 0 (val h 0 (num (pos 1)) ∷ []) tt)) ∷ at h 5 133 true (s.Call (call h 0 (val h 0 (num (pos 3)) ∷ []) tt))
    ∷ at h 5 144 true (s.Call (call h 0 (val h 0 (num (pos 2)) ∷ []) tt)) ∷ at h 5 155 true (s.Call (call h 0 (val h 0 (num (pos 6)) ∷ []) tt))
    ∷ at h 5 166 true (s.Print (vec h (text h (110 ∷ 101 ∷ 118 ∷ 101 ∷ 114 ∷ []) tt ∷ []) tt)) ∷ []) tt) (place 5 184))
    (place 5 1)

abbrev pub corner_control_shows : Global → Type 0
corner_control_shows h = shown (run_of (corner_control h) 2000 granted) ≡ record {
  bytes = (lines (codes " -3 3 3 4" ∷ codes " low" ∷ codes " one" ∷ codes " 1 12" ∷ codes " three" ∷ codes " 1 13" ∷ codes " 3 13"
      ∷ codes " more" ∷ codes " 1 14" ∷ codes " mid" ∷ codes " 1 15" ∷ codes " 3 15" ∷ codes " 4 15" ∷ codes " 5 15" ∷ codes " 6 15" ∷ []));
  verdict =
      Stopped (Some 12);
}

--     program p; integer(8) :: a; integer :: b; integer(8), allocatable :: v(:)
--     a = 2_8 ** 40; print *, a, -a / 3, mod(-a, 7_8), modulo(-a, 7_8), abs(-a), a > 2147483647; print *, (-2) ** 31, (-1) ** (-3), 3 ** 0, 0 ** 0, 2 ** (-2), modulo(7, -3), mod(7, -3), modulo(-6, 3)
--     v = [a, 1_8]; b = 7; print *, v
--     b = v(1)
--     end
abbrev pub corner_kinds : Global → Program
corner_kinds h = program h [] tt
    [] tt
    [] tt
    (procedure h 0 [] tt ((declared h (kind base.Long 0 false) [] tt [] tt) ∷ (declared h (kind base.Integer 0 false) [] tt [] tt)
    ∷ (declared h (kind base.Long 1 true) [] tt [] tt) ∷ []) tt None
    (block h (at h 2 1 true (s.Assign (name (n.Local 0) l.Whole) (kind base.Long 0 false) (bin h o.Power base.Long (num (pos 2)) (num (pos 40))))
    ∷ at h 2 16 true (s.Print (vec h (item.Value (var h (name (n.Local 0) l.Whole))
    ∷ item.Value (unary h c.Negate base.Long (bin h o.Divide base.Long (var h (name (n.Local 0) l.Whole)) (num (pos 3))))
    ∷ item.Value (bin h o.Mod base.Long (unary h c.Negate base.Long (var h (name (n.Local 0) l.Whole))) (num (pos 7)))
    ∷ item.Value (bin h o.Modulo base.Long (unary h c.Negate base.Long (var h (name (n.Local 0) l.Whole))) (num (pos 7)))
    ∷ item.Value (unary h c.Absolute base.Long (unary h c.Negate base.Long (var h (name (n.Local 0) l.Whole))))
    ∷ item.Value (bin h o.Greater base.Logical (var h (name (n.Local 0) l.Whole)) (num (pos 2147483647))) ∷ []) tt))
    ∷ at h 2 92 true (s.Print (vec h (item.Value (bin h o.Power base.Integer (group h (unary h c.Negate base.Integer (num (pos 2))))
    (num (pos 31))) ∷ item.Value (bin h o.Power base.Integer (group h (unary h c.Negate base.Integer (num (pos 1))))
    (group h (unary h c.Negate base.Integer (num (pos 3))))) ∷ item.Value (bin h o.Power base.Integer (num (pos 3)) (num (pos 0)))
    ∷ item.Value (bin h o.Power base.Integer (num (pos 0)) (num (pos 0)))
    ∷ item.Value (bin h o.Power base.Integer (num (pos 2)) (group h (unary h c.Negate base.Integer (num (pos 2)))))
    ∷ item.Value (bin h o.Modulo base.Integer (num (pos 7)) (unary h c.Negate base.Integer (num (pos 3))))
    ∷ item.Value (bin h o.Mod base.Integer (num (pos 7)) (unary h c.Negate base.Integer (num (pos 3))))
    ∷ item.Value (bin h o.Modulo base.Integer (unary h c.Negate base.Integer (num (pos 6))) (num (pos 3))) ∷ []) tt))
    ∷ at h 3 1 true (s.Assign (name (n.Local 2) l.Whole) (kind base.Long 1 true)
    (array h (val h 0 (var h (name (n.Local 0) l.Whole)) ∷ val h 0 (num (pos 1)) ∷ []) tt))
    ∷ at h 3 15 true (s.Assign (name (n.Local 1) l.Whole) (kind base.Integer 0 false) (num (pos 7)))
    ∷ at h 3 22 true (s.Print (vec h (item.Value (var h (name (n.Local 2) l.Contents)) ∷ []) tt))
    ∷ at h 4 1 true (s.Assign (name (n.Local 1) l.Whole) (kind base.Integer 0 false)
    (var h (name (n.Local 2) (elements h true (sub h (num (pos 1)) ∷ []) tt)))) ∷ []) tt) (place 5 1))
    (place 1 1)

abbrev pub corner_kinds_shows : Global → Type 0
corner_kinds_shows h = shown (run_of (corner_kinds h) 2000 granted) ≡ record {
  bytes = (lines (codes " 1099511627776 -366503875925 -2 5 1099511627776 T" ∷ codes " -2147483648 -1 1 1 0 -2 1 0" ∷ codes " 1099511627776 1"
      ∷ []));
  verdict = Failed 1 4 1;
}

--     module m; type t; integer, allocatable :: v(:); integer :: k = 0; end type; type(t) :: g; contains
--     subroutine s(x); integer, intent(inout) :: x(:); g%k = 3; end
--     subroutine r(x); integer, intent(inout) :: x(:); type(t) :: h; g%v(2) = 8; print *, x; h = g; g%v = x; print *, g%v; g = h; end
--     end
--     program p; use m; allocate(g%v(3)); g%v = [1, 2, 3]; call r(g%v(2:3)); end
abbrev pub corner_lent_objects : Global → Program
corner_lent_objects h = program h (derived h 0 (comp (declared h (kind base.Integer 1 true) [] tt [] tt) false
    ∷ comp (declared h (kind base.Integer 0 false) [] tt ((constant.Number (pos 0)) ∷ []) tt) false ∷ []) tt [] tt ∷ []) tt
    (static (declared h (kind (base.Derived 0) 0 false) [] tt [] tt) 0 false ∷ []) tt
    (procedure h 0 (dummy h (kind base.Integer 1 false) intent.InOut ((pos 1) ∷ []) tt ∷ []) tt [] tt None
    (block h (at h 2 50 true (s.Assign (member h (name (n.Static 0) l.Whole) 1 l.Whole) (kind base.Integer 0 false) (num (pos 3))) ∷ []) tt)
    (place 2 59) ∷ procedure h 0 (dummy h (kind base.Integer 1 false) intent.InOut ((pos 1) ∷ []) tt ∷ []) tt
    ((declared h (kind (base.Derived 0) 0 false) [] tt [] tt) ∷ []) tt None
    (block h (at h 3 64 true (s.Assign (member h (name (n.Static 0) l.Whole) 0 (elements h true (sub h (num (pos 2)) ∷ []) tt))
    (kind base.Integer 0 false) (num (pos 8))) ∷ at h 3 76 true (s.Print (vec h (item.Value (var h (name (n.Lent 0) l.Whole)) ∷ []) tt))
    ∷ at h 3 88 true (s.Assign (name (n.Local 0) l.Whole) (kind (base.Derived 0) 0 false) (var h (name (n.Static 0) l.Whole)))
    ∷ at h 3 95 true (s.Assign (member h (name (n.Static 0) l.Whole) 0 l.Whole) (kind base.Integer 1 true) (var h (name (n.Lent 0) l.Whole)))
    ∷ at h 3 104 true (s.Print (vec h (item.Value (var h (member h (name (n.Static 0) l.Whole) 0 l.Contents)) ∷ []) tt))
    ∷ at h 3 118 true (s.Assign (name (n.Static 0) l.Whole) (kind (base.Derived 0) 0 false) (var h (name (n.Local 0) l.Whole))) ∷ []) tt)
    (place 3 125) ∷ []) tt
    (procedure h 3 [] tt [] tt None (block h (at h 5 19 true (s.Allocate
    (vec h (request h (member h (name (n.Static 0) l.Whole) 0 l.Whole) (kind base.Integer 1 true) (bounds (num (pos 1)) (num (pos 3)) ∷ []) tt
    ∷ []) tt) None) ∷ at h 5 37 true (s.Assign (member h (name (n.Static 0) l.Whole) 0 l.Whole) (kind base.Integer 1 true)
    (array h (val h 0 (num (pos 1)) ∷ val h 0 (num (pos 2)) ∷ val h 0 (num (pos 3)) ∷ []) tt))
    ∷ at h 5 54 true (s.Call (call h 1 (ref h 0 (member h (name (n.Static 0) l.Whole) 0
    (elements h true (triplet h true (num (pos 2)) true (num (pos 3)) (num (pos 1)) ∷ []) tt)) ∷ []) tt)) ∷ []) tt) (place 5 72))
    (place 5 1)

abbrev pub corner_lent_objects_shows : Global → Type 0
corner_lent_objects_shows h = shown (run_of (corner_lent_objects h) 2000 granted) ≡ record { bytes = (lines (codes " 8 3" ∷ [])); verdict = Failed 9 3 95 }

--     program p; integer, allocatable :: x, y(:); logical :: l; x = 4; y = [x, x + 1]; x = y(2) * y(1); l = x == 20 .and. .not. (y(1) >= y(2)) .neqv. .false.; print *, x, y, l, 'it''s', allocated(y)
--     deallocate(x); y(1:2) = 7; print *, y; y = y(1:0); print *, size(y), lbound(y, 1), ubound(y, 1); x = y(1); end
abbrev pub corner_scalars : Global → Program
corner_scalars h = program h [] tt
    [] tt
    [] tt
    (procedure h 0 [] tt ((declared h (kind base.Integer 0 true) [] tt [] tt) ∷ (declared h (kind base.Integer 1 true) [] tt [] tt)
    ∷ (declared h (kind base.Logical 0 false) [] tt [] tt) ∷ []) tt None
    (block h (at h 1 59 true (s.Assign (name (n.Local 0) l.Whole) (kind base.Integer 0 true) (num (pos 4)))
    ∷ at h 1 66 true (s.Assign (name (n.Local 1) l.Whole) (kind base.Integer 1 true)
    (array h (val h 0 (var h (name (n.Local 0) l.Contents))
    ∷ val h 0 (bin h o.Add base.Integer (var h (name (n.Local 0) l.Contents)) (num (pos 1))) ∷ []) tt))
    ∷ at h 1 82 true (s.Assign (name (n.Local 0) l.Whole) (kind base.Integer 0 true)
    (bin h o.Multiply base.Integer (var h (name (n.Local 1) (elements h true (sub h (num (pos 2)) ∷ []) tt)))
    (var h (name (n.Local 1) (elements h true (sub h (num (pos 1)) ∷ []) tt)))))
    ∷ at h 1 99 true (s.Assign (name (n.Local 2) l.Whole) (kind base.Logical 0 false)
    (bin h o.NotEquivalent base.Logical (bin h o.And base.Logical
    (bin h o.Equal base.Logical (var h (name (n.Local 0) l.Contents)) (num (pos 20)))
    (unary h c.Not base.Logical (group h (bin h o.GreaterOrEqual base.Logical
    (var h (name (n.Local 1) (elements h true (sub h (num (pos 1)) ∷ []) tt)))
    (var h (name (n.Local 1) (elements h true (sub h (num (pos 2)) ∷ []) tt))))))) (truth false)))
    ∷ at h 1 154 true (s.Print (vec h (item.Value (var h (name (n.Local 0) l.Contents)) ∷ item.Value (var h (name (n.Local 1) l.Contents))
    ∷ item.Value (var h (name (n.Local 2) l.Whole)) ∷ text h (105 ∷ 116 ∷ 39 ∷ 115 ∷ []) tt ∷ item.Value (allocated h (name (n.Local 1) l.Whole))
    ∷ []) tt)) ∷ at h 2 1 true (s.Deallocate (vec h (request h (name (n.Local 0) l.Whole) (kind base.Integer 0 true) [] tt ∷ []) tt) None)
    ∷ at h 2 16 true (s.Assign (name (n.Local 1) (elements h true (triplet h true (num (pos 1)) true (num (pos 2)) (num (pos 1)) ∷ []) tt))
    (kind base.Integer 1 false) (num (pos 7))) ∷ at h 2 28 true (s.Print (vec h (item.Value (var h (name (n.Local 1) l.Contents)) ∷ []) tt))
    ∷ at h 2 40 true (s.Assign (name (n.Local 1) l.Whole) (kind base.Integer 1 true)
    (var h (name (n.Local 1) (elements h true (triplet h true (num (pos 1)) true (num (pos 0)) (num (pos 1)) ∷ []) tt))))
    ∷ at h 2 52 true (s.Print (vec h (item.Value (size h (ref h 0 (name (n.Local 1) l.Contents)))
    ∷ item.Value (asks h query.Lower (ref h 0 (name (n.Local 1) l.Contents)) (num (pos 1)))
    ∷ item.Value (asks h query.Upper (ref h 0 (name (n.Local 1) l.Contents)) (num (pos 1))) ∷ []) tt))
    ∷ at h 2 98 true (s.Assign (name (n.Local 0) l.Whole) (kind base.Integer 0 true)
    (var h (name (n.Local 1) (elements h true (sub h (num (pos 1)) ∷ []) tt)))) ∷ []) tt) (place 2 108))
    (place 1 1)

abbrev pub corner_scalars_shows : Global → Type 0
corner_scalars_shows h = shown (run_of (corner_scalars h) 2000 granted) ≡ record
    { bytes = (lines (codes " 20 4 5 T it's T" ∷ codes " 7 7" ∷ codes " 0 1 0" ∷ [])); verdict = Failed 3 2 98 }

-- These programs are lawful, print this and end so.
abbrev pub CornersShow : Type 0
CornersShow = (h : Global) →
    (IsLawful (corner_sections h) × corner_sections_shows h)
    × corner_finals_of_sections_shows h
    × (IsLawful (corner_functions h) × corner_functions_shows h)
    × (IsLawful (corner_associates h) × corner_associates_shows h)
    × (IsLawful (corner_intent_out h) × corner_intent_out_shows h)
    × (IsLawful (corner_moves h) × corner_moves_shows h)
    × corner_control_shows h
    × (IsLawful (corner_kinds h) × corner_kinds_shows h)
    × (IsLawful (corner_lent_objects h) × corner_lent_objects_shows h)
    × (IsLawful (corner_scalars h) × corner_scalars_shows h)
