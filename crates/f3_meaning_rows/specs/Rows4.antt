-- Programs, elaborated, with their sources above.
use Rattle.std.specs.Prelude.{pos, true, false, [], ◌∷◌, None, codes, ◌≡◌}
use Rattle.std.specs.declared.alloc.Global.{Global}
use Rattle.f3_program.specs.declared.declarations.Base.TheVariants as base
use Rattle.f3_program.specs.declared.declarations.Constant.TheVariants as constant
use Rattle.f3_program.specs.declared.expression.UnaryOperator.TheVariants as c
use Rattle.f3_program.specs.declared.expression.Name.TheVariants as n
use Rattle.f3_program.specs.declared.expression.BinaryOperator.TheVariants as o
use Rattle.f3_program.specs.declared.expression.Query.TheVariants as query
use Rattle.f3_program.specs.declared.expression.Selection as l
use Rattle.f3_program.specs.declared.statement.Item.TheVariants as item
use Rattle.f3_program.specs.declared.statement.Statement as s
use Rattle.f3_program.specs.declared.program.Intent.TheVariants as intent
use Rattle.f3_program.specs.declared.program.Program.{Program}
use Rattle.f3_meaning_whole.specs.Run.{run_of}
use Rattle.f3_meaning_whole.specs.Permitted.{IsLawful}
use Rattle.f3_meaning_rows.specs.Shown.{granted, shown, lines, Finished, Failed, Stopped}
use Rattle.f3_meaning_rows.specs.Build.{vec, place, kind, dim, declared, comp, derived, final, num, truth, var, group, unary, bin, array, call, size}
use Rattle.f3_meaning_rows.specs.Build.{query as asks, val, ref, name, member, elements, range as triplet, at, block, while, for, bounds, request}
use Rattle.f3_meaning_rows.specs.Build.{text, dummy, static, procedure, program}

--     program p
--     do
--     do
--     do
--     do
--     do
--     do
--     do
--     do
--     do
--     do
--     do
--     do
--     do
--     do
--     do
--     do
--     do
--     do
--     do
--     do
--     do
--     do
--     do
--     do
--     do
--     do
--     do
--     do
--     do
--     do
--     do
--     do
--     do
--     do
--     do
--     do
--     do
--     do
--     do
--     do
--     do
--     do
--     do
--     do
--     do
--     do
--     do
--     do
--     do
--     do
--     do
--     do
--     do
--     do
--     do
--     do
--     do
--     do
--     do
--     do
--     do
--     do
--     do
--     do
--     print *, 64; stop
--     end do
--     end do
--     end do
--     end do
--     end do
--     end do
--     end do
--     end do
--     end do
--     end do
--     end do
--     end do
--     end do
--     end do
--     end do
--     end do
--     end do
--     end do
--     end do
--     end do
--     end do
--     end do
--     end do
--     end do
--     end do
--     end do
--     end do
--     end do
--     end do
--     end do
--     end do
--     end do
--     end do
--     end do
--     end do
--     end do
--     end do
--     end do
--     end do
--     end do
--     end do
--     end do
--     end do
--     end do
--     end do
--     end do
--     end do
--     end do
--     end do
--     end do
--     end do
--     end do
--     end do
--     end do
--     end do
--     end do
--     end do
--     end do
--     end do
--     end do
--     end do
--     end do
--     end do
--     end do
--     end
abbrev pub hostile_03_do_64 : Global → Program
hostile_03_do_64 h = program h [] tt
    [] tt
    [] tt
    (procedure h 0 [] tt [] tt None (block h (at h 2 1 true (while h (truth true)
    (block h (at h 3 1 true (while h (truth true) (block h
    (at h 4 1 true (while h (truth true) (block h (at h 5 1 true
    (while h (truth true) (block h (at h 6 1 true (while h (truth true)
    (block h (at h 7 1 true (while h (truth true) (block h
    (at h 8 1 true (while h (truth true) (block h (at h 9 1 true
    (while h (truth true) (block h (at h 10 1 true (while h (truth true)
    (block h (at h 11 1 true (while h (truth true) (block h
    (at h 12 1 true (while h (truth true) (block h (at h 13 1 true
    (while h (truth true) (block h (at h 14 1 true (while h (truth true)
    (block h (at h 15 1 true (while h (truth true) (block h
    (at h 16 1 true (while h (truth true) (block h (at h 17 1 true
    (while h (truth true) (block h (at h 18 1 true (while h (truth true)
    (block h (at h 19 1 true (while h (truth true) (block h
    (at h 20 1 true (while h (truth true) (block h (at h 21 1 true
    (while h (truth true) (block h (at h 22 1 true (while h (truth true)
    (block h (at h 23 1 true (while h (truth true) (block h
    (at h 24 1 true (while h (truth true) (block h (at h 25 1 true
    (while h (truth true) (block h (at h 26 1 true (while h (truth true)
    (block h (at h 27 1 true (while h (truth true) (block h
    (at h 28 1 true (while h (truth true) (block h (at h 29 1 true
    (while h (truth true) (block h (at h 30 1 true (while h (truth true)
    (block h (at h 31 1 true (while h (truth true) (block h
    (at h 32 1 true (while h (truth true) (block h (at h 33 1 true
    (while h (truth true) (block h (at h 34 1 true (while h (truth true)
    (block h (at h 35 1 true (while h (truth true) (block h
    (at h 36 1 true (while h (truth true) (block h (at h 37 1 true
    (while h (truth true) (block h (at h 38 1 true (while h (truth true)
    (block h (at h 39 1 true (while h (truth true) (block h
    (at h 40 1 true (while h (truth true) (block h (at h 41 1 true
    (while h (truth true) (block h (at h 42 1 true (while h (truth true)
    (block h (at h 43 1 true (while h (truth true) (block h
    (at h 44 1 true (while h (truth true) (block h (at h 45 1 true
    (while h (truth true) (block h (at h 46 1 true (while h (truth true)
    (block h (at h 47 1 true (while h (truth true) (block h
    (at h 48 1 true (while h (truth true) (block h (at h 49 1 true
    (while h (truth true) (block h (at h 50 1 true (while h (truth true)
    (block h (at h 51 1 true (while h (truth true) (block h
    (at h 52 1 true (while h (truth true) (block h (at h 53 1 true
    (while h (truth true) (block h (at h 54 1 true (while h (truth true)
    (block h (at h 55 1 true (while h (truth true) (block h
    (at h 56 1 true (while h (truth true) (block h (at h 57 1 true
    (while h (truth true) (block h (at h 58 1 true (while h (truth true)
    (block h (at h 59 1 true (while h (truth true) (block h
    (at h 60 1 true (while h (truth true) (block h (at h 61 1 true
    (while h (truth true) (block h (at h 62 1 true (while h (truth true)
    (block h (at h 63 1 true (while h (truth true) (block h
    (at h 64 1 true (while h (truth true) (block h (at h 65 1 true
    (while h (truth true) (block h (at h 66 1 true (s.Print (vec h (item.Value (num (pos 64)) ∷ []) tt)) ∷ at h 66 14 true (s.Stop None) ∷ [])
    tt)) ∷ []) tt)) ∷ []) tt)) ∷ []) tt)) ∷ []) tt)) ∷ []) tt)) ∷ []) tt)) ∷ []) tt)) ∷ []) tt)) ∷ []) tt)) ∷ []) tt)) ∷ []) tt)) ∷ []) tt))
    ∷ []) tt)) ∷ []) tt)) ∷ []) tt)) ∷ []) tt)) ∷ []) tt)) ∷ []) tt)) ∷ []) tt)) ∷ []) tt)) ∷ []) tt)) ∷ []) tt)) ∷ []) tt)) ∷ []) tt)) ∷ [])
    tt)) ∷ []) tt)) ∷ []) tt)) ∷ []) tt)) ∷ []) tt)) ∷ []) tt)) ∷ []) tt)) ∷ []) tt)) ∷ []) tt)) ∷ []) tt)) ∷ []) tt)) ∷ []) tt)) ∷ []) tt))
    ∷ []) tt)) ∷ []) tt)) ∷ []) tt)) ∷ []) tt)) ∷ []) tt)) ∷ []) tt)) ∷ []) tt)) ∷ []) tt)) ∷ []) tt)) ∷ []) tt)) ∷ []) tt)) ∷ []) tt)) ∷ [])
    tt)) ∷ []) tt)) ∷ []) tt)) ∷ []) tt)) ∷ []) tt)) ∷ []) tt)) ∷ []) tt)) ∷ []) tt)) ∷ []) tt)) ∷ []) tt)) ∷ []) tt)) ∷ []) tt)) ∷ []) tt))
    ∷ []) tt)) ∷ []) tt) (place 131 1))
    (place 1 1)

--     program p; print *, ((((((((((((((((((((((((((((((((((((((((((((((((((((((((((((((((7)))))))))))))))))))))))))))))))))))))))))))))))))))))))))))))))); end
abbrev pub hostile_03_parentheses_64 : Global → Program
hostile_03_parentheses_64 h = program h [] tt
    [] tt
    [] tt
    (procedure h 0 [] tt [] tt None (block h (at h 1 12 true (s.Print
    (vec h (item.Value (group h (group h (group h (group h
    (group h (group h (group h (group h (group h (group h
    (group h (group h (group h (group h (group h (group h
    (group h (group h (group h (group h (group h (group h
    (group h (group h (group h (group h (group h (group h
    (group h (group h (group h (group h (group h (group h
    (group h (group h (group h (group h (group h (group h
    (group h (group h (group h (group h (group h (group h
    (group h (group h (group h (group h (group h (group h
    (group h (group h (group h (group h (group h (group h
    (group h (group h (group h (group h (group h (group h (num (pos 7)))))))))))))))))))))))))))))))))))))))))))))))))))))))))))))))))) ∷ [])
    tt)) ∷ []) tt) (place 1 152))
    (place 1 1)

--     program p; integer(8) :: i; integer :: j; i = 2147483647; i = i + 1; print *, i, 9223372036854775807_8
--     j = i
--     end
abbrev pub kinds_01_wide : Global → Program
kinds_01_wide h = program h [] tt
    [] tt
    [] tt
    (procedure h 0 [] tt ((declared h (kind base.Long 0 false) [] tt [] tt) ∷ (declared h (kind base.Integer 0 false) [] tt [] tt) ∷ []) tt None
    (block h (at h 1 43 true (s.Assign (name (n.Local 0) l.Whole) (kind base.Long 0 false) (num (pos 2147483647)))
    ∷ at h 1 59 true (s.Assign (name (n.Local 0) l.Whole) (kind base.Long 0 false)
    (bin h o.Add base.Long (var h (name (n.Local 0) l.Whole)) (num (pos 1))))
    ∷ at h 1 70 true (s.Print (vec h (item.Value (var h (name (n.Local 0) l.Whole)) ∷ item.Value (num (pos 9223372036854775807)) ∷ []) tt))
    ∷ at h 2 1 true (s.Assign (name (n.Local 1) l.Whole) (kind base.Integer 0 false) (var h (name (n.Local 0) l.Whole))) ∷ []) tt) (place 3 1))
    (place 1 1)

--     program p; print *, 2147483647 + 1_8; end
abbrev pub kinds_02_mixed : Global → Program
kinds_02_mixed h = program h [] tt
    [] tt
    [] tt
    (procedure h 0 [] tt [] tt None (block h (at h 1 12 true (s.Print
    (vec h (item.Value (bin h o.Add base.Long (num (pos 2147483647)) (num (pos 1))) ∷ []) tt)) ∷ []) tt) (place 1 39))
    (place 1 1)

--     program p; integer(8) :: i; do i = -9223372036854775807_8 - 1, 9223372036854775807_8; print *, i; exit; end do; end
abbrev pub kinds_06_do : Global → Program
kinds_06_do h = program h [] tt
    [] tt
    [] tt
    (procedure h 0 [] tt ((declared h (kind base.Long 0 false) [] tt [] tt) ∷ []) tt None
    (block h (at h 1 29 true (for h (name (n.Local 0) l.Whole) (kind base.Long 0 false)
    (bin h o.Subtract base.Long (unary h c.Negate base.Long (num (pos 9223372036854775807))) (num (pos 1))) (num (pos 9223372036854775807))
    (num (pos 1)) (block h (at h 1 87 true (s.Print (vec h (item.Value (var h (name (n.Local 0) l.Whole)) ∷ []) tt)) ∷ at h 1 99 true s.Exit
    ∷ []) tt)) ∷ []) tt) (place 1 113))
    (place 1 1)

--     program p; integer :: a(4); a = [1, 2, 3, 4]; a(2:4) = a(1:3); print *, a(4:1:-1), a(9:8); end
abbrev pub machine_01_sections : Global → Program
machine_01_sections h = program h [] tt
    [] tt
    [] tt
    (procedure h 0 [] tt ((declared h (kind base.Integer 1 false) (dim (pos 1) 4 ∷ []) tt [] tt) ∷ []) tt None
    (block h (at h 1 29 true (s.Assign (name (n.Local 0) l.Whole) (kind base.Integer 1 false)
    (array h (val h 0 (num (pos 1)) ∷ val h 0 (num (pos 2)) ∷ val h 0 (num (pos 3)) ∷ val h 0 (num (pos 4)) ∷ []) tt))
    ∷ at h 1 47 true (s.Assign (name (n.Local 0) (elements h false (triplet h true (num (pos 2)) true (num (pos 4)) (num (pos 1)) ∷ []) tt))
    (kind base.Integer 1 false) (var h (name (n.Local 0) (elements h false (triplet h true (num (pos 1)) true (num (pos 3)) (num (pos 1)) ∷ [])
    tt)))) ∷ at h 1 64 true (s.Print (vec h (item.Value (var h
    (name (n.Local 0) (elements h false (triplet h true (num (pos 4)) true (num (pos 1)) (unary h c.Negate base.Integer (num (pos 1))) ∷ [])
    tt))) ∷ item.Value (var h (name (n.Local 0) (elements h false (triplet h true (num (pos 9)) true (num (pos 8)) (num (pos 1)) ∷ []) tt)))
    ∷ []) tt)) ∷ []) tt) (place 1 92))
    (place 1 1)

--     module m; contains
--     subroutine s(n); integer, intent(in) :: n; call s(n + 1); end
--     end
--     program p; use m; call s(1); end
abbrev pub machine_02_depth : Global → Program
machine_02_depth h = program h [] tt
    [] tt
    (procedure h 0 (dummy h (kind base.Integer 0 false) intent.In [] tt ∷ []) tt [] tt None
    (block h (at h 2 44 true (s.Call (call h 0 (val h 0 (bin h o.Add base.Integer (var h (name (n.Lent 0) l.Whole)) (num (pos 1))) ∷ []) tt))
    ∷ []) tt) (place 2 59) ∷ []) tt
    (procedure h 2 [] tt [] tt None (block h (at h 4 19 true (s.Call (call h 0 (val h 0 (num (pos 1)) ∷ []) tt)) ∷ []) tt) (place 4 30))
    (place 4 1)

--     module a; integer :: n = 1, o = 2; end
--     program p; use a, k => n; print *, k, o; end
abbrev pub modules_01_rename : Global → Program
modules_01_rename h = program h [] tt
    (static (declared h (kind base.Integer 0 false) [] tt ((constant.Number (pos 1)) ∷ []) tt) 0 false
    ∷ static (declared h (kind base.Integer 0 false) [] tt ((constant.Number (pos 2)) ∷ []) tt) 0 false ∷ []) tt
    [] tt
    (procedure h 1 [] tt [] tt None (block h (at h 2 27 true (s.Print
    (vec h (item.Value (var h (name (n.Static 0) l.Whole)) ∷ item.Value (var h (name (n.Static 1) l.Whole)) ∷ []) tt)) ∷ []) tt) (place 2 42))
    (place 2 1)

--     module a; integer :: n = 1, o = 2; end
--     program p; use a, only: k => n; use a, only: n; print *, k, n; end
abbrev pub modules_02_two_names : Global → Program
modules_02_two_names h = program h [] tt
    (static (declared h (kind base.Integer 0 false) [] tt ((constant.Number (pos 1)) ∷ []) tt) 0 false
    ∷ static (declared h (kind base.Integer 0 false) [] tt ((constant.Number (pos 2)) ∷ []) tt) 0 false ∷ []) tt
    [] tt
    (procedure h 1 [] tt [] tt None (block h (at h 2 49 true (s.Print
    (vec h (item.Value (var h (name (n.Static 0) l.Whole)) ∷ item.Value (var h (name (n.Static 0) l.Whole)) ∷ []) tt)) ∷ []) tt) (place 2 64))
    (place 2 1)

--     module m; integer, protected :: n = 3; end
--     program p; use m; print *, n; end
abbrev pub sample_02_print : Global → Program
sample_02_print h = program h [] tt
    (static (declared h (kind base.Integer 0 false) [] tt ((constant.Number (pos 3)) ∷ []) tt) 0 true ∷ []) tt
    [] tt
    (procedure h 1 [] tt [] tt None (block h (at h 2 19 true (s.Print (vec h (item.Value (var h (name (n.Static 0) l.Whole)) ∷ []) tt)) ∷ []) tt) (place 2 31))
    (place 2 1)

--     module m; use k; integer, protected :: n = 3; contains; subroutine up(); call bump(n); end; end
--     module k; contains; subroutine bump(x); integer, intent(inout) :: x; x = x + 1; end; end
--     program p; use m; call up(); print *, n; end
abbrev pub sample_04_bump : Global → Program
sample_04_bump h = program h [] tt
    (static (declared h (kind base.Integer 0 false) [] tt ((constant.Number (pos 3)) ∷ []) tt) 0 true ∷ []) tt
    (procedure h 0 [] tt [] tt None (block h (at h 1 74 true (s.Call (call h 1 (ref h 0 (name (n.Static 0) l.Whole) ∷ []) tt)) ∷ []) tt) (place 1 88)
    ∷ procedure h 2 (dummy h (kind base.Integer 0 false) intent.InOut [] tt ∷ []) tt [] tt None
    (block h (at h 2 70 true (s.Assign (name (n.Lent 0) l.Whole) (kind base.Integer 0 false)
    (bin h o.Add base.Integer (var h (name (n.Lent 0) l.Whole)) (num (pos 1)))) ∷ []) tt) (place 2 81) ∷ []) tt
    (procedure h 4 [] tt [] tt None (block h (at h 3 19 true (s.Call (call h 0 [] tt))
    ∷ at h 3 30 true (s.Print (vec h (item.Value (var h (name (n.Static 0) l.Whole)) ∷ []) tt)) ∷ []) tt) (place 3 42))
    (place 3 1)

--     module m; type box; private; integer :: secret = 1; end type; contains
--     subroutine show(b); type(box), intent(in) :: b; print *, b%secret; end
--     subroutine set(b, v); type(box), intent(inout) :: b; integer, intent(in) :: v; b%secret = v; end
--     end
--     program p; use m; type(box) :: a, b
--     call set(b, 5); a = b; call show(a)
--     end
abbrev pub sample_06_whole_object : Global → Program
sample_06_whole_object h = program h (derived h 0 (comp (declared h (kind base.Integer 0 false) [] tt ((constant.Number (pos 1)) ∷ []) tt) true ∷ [])
    tt [] tt ∷ []) tt
    [] tt
    (procedure h 0 (dummy h (kind (base.Derived 0) 0 false) intent.In [] tt ∷ []) tt [] tt None
    (block h (at h 2 49 true (s.Print (vec h (item.Value (var h (member h (name (n.Lent 0) l.Whole) 0 l.Whole)) ∷ []) tt)) ∷ []) tt) (place 2 68)
    ∷ procedure h 0 (dummy h (kind (base.Derived 0) 0 false) intent.InOut [] tt ∷ dummy h (kind base.Integer 0 false) intent.In [] tt ∷ []) tt []
    tt None (block h (at h 3 80 true (s.Assign (member h (name (n.Lent 0) l.Whole) 0 l.Whole) (kind base.Integer 0 false)
    (var h (name (n.Lent 1) l.Whole))) ∷ []) tt) (place 3 94) ∷ []) tt
    (procedure h 3 [] tt ((declared h (kind (base.Derived 0) 0 false) [] tt [] tt) ∷ (declared h (kind (base.Derived 0) 0 false) [] tt [] tt) ∷ [])
    tt None (block h (at h 6 1 true (s.Call (call h 1 (ref h 0 (name (n.Local 1) l.Whole) ∷ val h 1 (num (pos 5)) ∷ []) tt))
    ∷ at h 6 17 true (s.Assign (name (n.Local 0) l.Whole) (kind (base.Derived 0) 0 false) (var h (name (n.Local 1) l.Whole)))
    ∷ at h 6 24 true (s.Call (call h 0 (ref h 0 (name (n.Local 0) l.Whole) ∷ []) tt)) ∷ []) tt) (place 7 1))
    (place 5 1)

--     program p; integer, allocatable :: a(:), b(:), c(:), d(:)
--     allocate(a(3:5)); a = 0; b = a; c = a(3:5); allocate(d(0:2)); d = a
--     print *, lbound(b,1), lbound(c,1), lbound(d,1)
--     end
abbrev pub sample_07_bounds : Global → Program
sample_07_bounds h = program h [] tt
    [] tt
    [] tt
    (procedure h 0 [] tt ((declared h (kind base.Integer 1 true) [] tt [] tt) ∷ (declared h (kind base.Integer 1 true) [] tt [] tt)
    ∷ (declared h (kind base.Integer 1 true) [] tt [] tt) ∷ (declared h (kind base.Integer 1 true) [] tt [] tt) ∷ []) tt None
    (block h (at h 2 1 true (s.Allocate (vec h (request h (name (n.Local 0) l.Whole) (kind base.Integer 1 true)
    (bounds (num (pos 3)) (num (pos 5)) ∷ []) tt ∷ []) tt) None)
    ∷ at h 2 19 true (s.Assign (name (n.Local 0) l.Whole) (kind base.Integer 1 true) (num (pos 0)))
    ∷ at h 2 26 true (s.Assign (name (n.Local 1) l.Whole) (kind base.Integer 1 true) (var h (name (n.Local 0) l.Contents)))
    ∷ at h 2 33 true (s.Assign (name (n.Local 2) l.Whole) (kind base.Integer 1 true)
    (var h (name (n.Local 0) (elements h true (triplet h true (num (pos 3)) true (num (pos 5)) (num (pos 1)) ∷ []) tt))))
    ∷ at h 2 45 true (s.Allocate (vec h (request h (name (n.Local 3) l.Whole) (kind base.Integer 1 true)
    (bounds (num (pos 0)) (num (pos 2)) ∷ []) tt ∷ []) tt) None)
    ∷ at h 2 63 true (s.Assign (name (n.Local 3) l.Whole) (kind base.Integer 1 true) (var h (name (n.Local 0) l.Contents)))
    ∷ at h 3 1 true (s.Print (vec h (item.Value (asks h query.Lower (ref h 0 (name (n.Local 1) l.Contents)) (num (pos 1)))
    ∷ item.Value (asks h query.Lower (ref h 0 (name (n.Local 2) l.Contents)) (num (pos 1)))
    ∷ item.Value (asks h query.Lower (ref h 0 (name (n.Local 3) l.Contents)) (num (pos 1))) ∷ []) tt)) ∷ []) tt) (place 4 1))
    (place 1 1)

--     program p; integer, allocatable :: a(:)
--     allocate(a(5:4)); print *, size(a), lbound(a,1), ubound(a,1)
--     end
abbrev pub sample_08_zero_extent : Global → Program
sample_08_zero_extent h = program h [] tt
    [] tt
    [] tt
    (procedure h 0 [] tt ((declared h (kind base.Integer 1 true) [] tt [] tt) ∷ []) tt None
    (block h (at h 2 1 true (s.Allocate (vec h (request h (name (n.Local 0) l.Whole) (kind base.Integer 1 true)
    (bounds (num (pos 5)) (num (pos 4)) ∷ []) tt ∷ []) tt) None)
    ∷ at h 2 19 true (s.Print (vec h (item.Value (size h (ref h 0 (name (n.Local 0) l.Contents)))
    ∷ item.Value (asks h query.Lower (ref h 0 (name (n.Local 0) l.Contents)) (num (pos 1)))
    ∷ item.Value (asks h query.Upper (ref h 0 (name (n.Local 0) l.Contents)) (num (pos 1))) ∷ []) tt)) ∷ []) tt) (place 3 1))
    (place 1 1)

--     module m; type t; integer :: id = 0; contains; final :: fin; end type; contains
--     subroutine fin(x); type(t), intent(inout) :: x; print *, 'f', x%id; end
--     subroutine go(); type(t) :: x, y; x%id = 1; y%id = 2; x = y; print *, 'g'; end
--     end
--     program p; use m; call go(); end
abbrev pub sample_09_finals : Global → Program
sample_09_finals h = program h (derived h 0 (comp (declared h (kind base.Integer 0 false) [] tt ((constant.Number (pos 0)) ∷ []) tt) false ∷ []) tt
    (final 0 0 ∷ []) tt ∷ []) tt
    [] tt
    (procedure h 0 (dummy h (kind (base.Derived 0) 0 false) intent.InOut [] tt ∷ []) tt [] tt None
    (block h (at h 2 49 true (s.Print (vec h (text h (102 ∷ []) tt ∷ item.Value (var h (member h (name (n.Lent 0) l.Whole) 0 l.Whole)) ∷ []) tt))
    ∷ []) tt) (place 2 69) ∷ procedure h 0 [] tt ((declared h (kind (base.Derived 0) 0 false) [] tt [] tt)
    ∷ (declared h (kind (base.Derived 0) 0 false) [] tt [] tt) ∷ []) tt None
    (block h (at h 3 35 true (s.Assign (member h (name (n.Local 0) l.Whole) 0 l.Whole) (kind base.Integer 0 false) (num (pos 1)))
    ∷ at h 3 45 true (s.Assign (member h (name (n.Local 1) l.Whole) 0 l.Whole) (kind base.Integer 0 false) (num (pos 2)))
    ∷ at h 3 55 true (s.Assign (name (n.Local 0) l.Whole) (kind (base.Derived 0) 0 false) (var h (name (n.Local 1) l.Whole)))
    ∷ at h 3 62 true (s.Print (vec h (text h (103 ∷ []) tt ∷ []) tt)) ∷ []) tt) (place 3 76) ∷ []) tt
    (procedure h 3 [] tt [] tt None (block h (at h 5 19 true (s.Call (call h 1 [] tt)) ∷ []) tt) (place 5 30))
    (place 5 1)

--     module m; type t; integer :: id = 0; contains; final :: fin, fin1; end type; contains
--     subroutine fin(x); type(t), intent(inout) :: x; print *, 'f', x%id; end
--     subroutine go(); type(t) :: x, y; x%id = 1; y%id = 2; x = y; print *, 'g'; end
--     subroutine fin1(x); type(t), intent(inout) :: x(:); print *, 'v', size(x); end
--     end
--     program p; use m; type(t), allocatable :: v(:); type(t) :: s
--     allocate(v(2)); deallocate(v); print *, 'e'
--     end
abbrev pub sample_10_array_final : Global → Program
sample_10_array_final h = program h (derived h 0 (comp (declared h (kind base.Integer 0 false) [] tt ((constant.Number (pos 0)) ∷ []) tt) false ∷ [])
    tt (final 0 0 ∷ final 1 2 ∷ []) tt ∷ []) tt
    [] tt
    (procedure h 0 (dummy h (kind (base.Derived 0) 0 false) intent.InOut [] tt ∷ []) tt [] tt None
    (block h (at h 2 49 true (s.Print (vec h (text h (102 ∷ []) tt ∷ item.Value (var h (member h (name (n.Lent 0) l.Whole) 0 l.Whole)) ∷ []) tt))
    ∷ []) tt) (place 2 69) ∷ procedure h 0 [] tt ((declared h (kind (base.Derived 0) 0 false) [] tt [] tt)
    ∷ (declared h (kind (base.Derived 0) 0 false) [] tt [] tt) ∷ []) tt None
    (block h (at h 3 35 true (s.Assign (member h (name (n.Local 0) l.Whole) 0 l.Whole) (kind base.Integer 0 false) (num (pos 1)))
    ∷ at h 3 45 true (s.Assign (member h (name (n.Local 1) l.Whole) 0 l.Whole) (kind base.Integer 0 false) (num (pos 2)))
    ∷ at h 3 55 true (s.Assign (name (n.Local 0) l.Whole) (kind (base.Derived 0) 0 false) (var h (name (n.Local 1) l.Whole)))
    ∷ at h 3 62 true (s.Print (vec h (text h (103 ∷ []) tt ∷ []) tt)) ∷ []) tt) (place 3 76)
    ∷ procedure h 0 (dummy h (kind (base.Derived 0) 1 false) intent.InOut ((pos 1) ∷ []) tt ∷ []) tt [] tt None
    (block h (at h 4 53 true (s.Print (vec h (text h (118 ∷ []) tt ∷ item.Value (size h (ref h 0 (name (n.Lent 0) l.Whole))) ∷ []) tt)) ∷ []) tt)
    (place 4 76) ∷ []) tt
    (procedure h 4 [] tt ((declared h (kind (base.Derived 0) 1 true) [] tt [] tt) ∷ (declared h (kind (base.Derived 0) 0 false) [] tt [] tt) ∷ []) tt
    None (block h (at h 7 1 true (s.Allocate (vec h (request h (name (n.Local 0) l.Whole) (kind (base.Derived 0) 1 true)
    (bounds (num (pos 1)) (num (pos 2)) ∷ []) tt ∷ []) tt) None)
    ∷ at h 7 17 true (s.Deallocate (vec h (request h (name (n.Local 0) l.Whole) (kind (base.Derived 0) 1 true) [] tt ∷ []) tt) None)
    ∷ at h 7 32 true (s.Print (vec h (text h (101 ∷ []) tt ∷ []) tt)) ∷ []) tt) (place 8 1))
    (place 6 1)

abbrev pub hostile_03_do_64_shows : Global → Type 0
hostile_03_do_64_shows h = shown (run_of (hostile_03_do_64 h) 2000 granted) ≡ record { bytes = (lines (codes " 64" ∷ [])); verdict = Stopped None }

abbrev pub hostile_03_parentheses_64_shows : Global → Type 0
hostile_03_parentheses_64_shows h = shown (run_of (hostile_03_parentheses_64 h) 2000 granted) ≡ record { bytes = (lines (codes " 7" ∷ [])); verdict = Finished }

abbrev pub kinds_01_wide_shows : Global → Type 0
kinds_01_wide_shows h = shown (run_of (kinds_01_wide h) 2000 granted) ≡ record
    { bytes = (lines (codes " 2147483648 9223372036854775807" ∷ [])); verdict = Failed 1 2 1 }

abbrev pub kinds_02_mixed_shows : Global → Type 0
kinds_02_mixed_shows h = shown (run_of (kinds_02_mixed h) 2000 granted) ≡ record { bytes = (lines (codes " 2147483648" ∷ [])); verdict = Finished }

abbrev pub kinds_06_do_shows : Global → Type 0
kinds_06_do_shows h = shown (run_of (kinds_06_do h) 2000 granted) ≡ record { bytes = (lines (codes " -9223372036854775808" ∷ [])); verdict = Finished }

abbrev pub machine_01_sections_shows : Global → Type 0
machine_01_sections_shows h = shown (run_of (machine_01_sections h) 2000 granted) ≡ record { bytes = (lines (codes " 3 2 1 1" ∷ [])); verdict = Finished }

abbrev pub machine_02_depth_shows : Global → Type 0
machine_02_depth_shows h = shown (run_of (machine_02_depth h) 2000 granted) ≡ record { bytes = (lines []); verdict = Failed 10 2 44 }

abbrev pub modules_01_rename_shows : Global → Type 0
modules_01_rename_shows h = shown (run_of (modules_01_rename h) 2000 granted) ≡ record { bytes = (lines (codes " 1 2" ∷ [])); verdict = Finished }

abbrev pub modules_02_two_names_shows : Global → Type 0
modules_02_two_names_shows h = shown (run_of (modules_02_two_names h) 2000 granted) ≡ record { bytes = (lines (codes " 1 1" ∷ [])); verdict = Finished }

abbrev pub sample_02_print_shows : Global → Type 0
sample_02_print_shows h = shown (run_of (sample_02_print h) 2000 granted) ≡ record { bytes = (lines (codes " 3" ∷ [])); verdict = Finished }

abbrev pub sample_04_bump_shows : Global → Type 0
sample_04_bump_shows h = shown (run_of (sample_04_bump h) 2000 granted) ≡ record { bytes = (lines (codes " 4" ∷ [])); verdict = Finished }

abbrev pub sample_06_whole_object_shows : Global → Type 0
sample_06_whole_object_shows h = shown (run_of (sample_06_whole_object h) 2000 granted) ≡ record { bytes = (lines (codes " 5" ∷ [])); verdict = Finished }

abbrev pub sample_07_bounds_shows : Global → Type 0
sample_07_bounds_shows h = shown (run_of (sample_07_bounds h) 2000 granted) ≡ record { bytes = (lines (codes " 3 1 0" ∷ [])); verdict = Finished }

abbrev pub sample_08_zero_extent_shows : Global → Type 0
sample_08_zero_extent_shows h = shown (run_of (sample_08_zero_extent h) 2000 granted) ≡ record { bytes = (lines (codes " 0 1 0" ∷ [])); verdict = Finished }

abbrev pub sample_09_finals_shows : Global → Type 0
sample_09_finals_shows h = shown (run_of (sample_09_finals h) 2000 granted) ≡ record
    { bytes = (lines (codes " f 1" ∷ codes " g" ∷ codes " f 2" ∷ codes " f 2" ∷ [])); verdict = Finished }

abbrev pub sample_10_array_final_shows : Global → Type 0
sample_10_array_final_shows h = shown (run_of (sample_10_array_final h) 2000 granted) ≡ record
    { bytes = (lines (codes " v 2" ∷ codes " e" ∷ [])); verdict = Finished }

-- These programs print this and end so.
abbrev pub Rows4Show : Type 0
Rows4Show = (h : Global) →
    (IsLawful (hostile_03_do_64 h) × hostile_03_do_64_shows h)
    × (IsLawful (hostile_03_parentheses_64 h) × hostile_03_parentheses_64_shows h)
    × (IsLawful (kinds_01_wide h) × kinds_01_wide_shows h)
    × (IsLawful (kinds_02_mixed h) × kinds_02_mixed_shows h)
    × (IsLawful (kinds_06_do h) × kinds_06_do_shows h)
    × (IsLawful (machine_01_sections h) × machine_01_sections_shows h)
    × (IsLawful (machine_02_depth h) × machine_02_depth_shows h)
    × (IsLawful (modules_01_rename h) × modules_01_rename_shows h)
    × (IsLawful (modules_02_two_names h) × modules_02_two_names_shows h)
    × (IsLawful (sample_02_print h) × sample_02_print_shows h)
    × (IsLawful (sample_04_bump h) × sample_04_bump_shows h)
    × (IsLawful (sample_06_whole_object h) × sample_06_whole_object_shows h)
    × (IsLawful (sample_07_bounds h) × sample_07_bounds_shows h)
    × (IsLawful (sample_08_zero_extent h) × sample_08_zero_extent_shows h)
    × (IsLawful (sample_09_finals h) × sample_09_finals_shows h)
    × (IsLawful (sample_10_array_final h) × sample_10_array_final_shows h)
