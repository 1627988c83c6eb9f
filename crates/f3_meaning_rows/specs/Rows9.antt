-- Programs, elaborated, with their sources above.
use Rattle.std.specs.Prelude.{pos, true, false, [], ◌∷◌, None, codes, ◌≡◌}
use Rattle.std.specs.declared.alloc.Global.{Global}
use Rattle.f3_program.specs.declared.declarations.Base.TheVariants as base
use Rattle.f3_program.specs.declared.expression.UnaryOperator.TheVariants as c
use Rattle.f3_program.specs.declared.expression.Name.TheVariants as n
use Rattle.f3_program.specs.declared.expression.BinaryOperator.TheVariants as o
use Rattle.f3_program.specs.declared.expression.Selection as l
use Rattle.f3_program.specs.declared.statement.Item.TheVariants as item
use Rattle.f3_program.specs.declared.statement.Statement as s
use Rattle.f3_program.specs.declared.program.Program.{Program}
use Rattle.f3_meaning_whole.specs.Run.{run_of}
use Rattle.f3_meaning_whole.specs.Permitted.{IsLawful}
use Rattle.f3_meaning_rows.specs.Shown.{granted, shown, lines, Finished, Failed}
use Rattle.f3_meaning_rows.specs.Build.{vec, place, kind, dim, declared, num, truth, var, group, unary, bin, name, elements, range as triplet, at}
use Rattle.f3_meaning_rows.specs.Build.{block, bounds, request, procedure, program}

--     program p; print *, 1 < 2, .not. 1 == 1, 1 > 2 .eqv. 3 < 2, .true. .neqv. .true., .false. .or. 2 >= 2; end
abbrev pub usage_70_logical_items : Global → Program
usage_70_logical_items h = program h [] tt
    [] tt
    [] tt
    (procedure h 0 [] tt [] tt None (block h (at h 1 12 true (s.Print
    (vec h (item.Value (bin h o.Less base.Logical (num (pos 1)) (num (pos 2)))
    ∷ item.Value (unary h c.Not base.Logical (bin h o.Equal base.Logical (num (pos 1)) (num (pos 1))))
    ∷ item.Value (bin h o.Equivalent base.Logical (bin h o.Greater base.Logical (num (pos 1)) (num (pos 2)))
    (bin h o.Less base.Logical (num (pos 3)) (num (pos 2)))) ∷ item.Value (bin h o.NotEquivalent base.Logical (truth true) (truth true))
    ∷ item.Value (bin h o.Or base.Logical (truth false) (bin h o.GreaterOrEqual base.Logical (num (pos 2)) (num (pos 2)))) ∷ []) tt)) ∷ []) tt)
    (place 1 104))
    (place 1 1)

--     program p; print *, 2**3**2, 1**(-5), (-1)**(-3), (-2)**(-2), 0**0, 7**0; end
abbrev pub usage_71_powers : Global → Program
usage_71_powers h = program h [] tt
    [] tt
    [] tt
    (procedure h 0 [] tt [] tt None (block h (at h 1 12 true (s.Print
    (vec h (item.Value (bin h o.Power base.Integer (num (pos 2)) (bin h o.Power base.Integer (num (pos 3)) (num (pos 2))))
    ∷ item.Value (bin h o.Power base.Integer (num (pos 1)) (group h (unary h c.Negate base.Integer (num (pos 5)))))
    ∷ item.Value (bin h o.Power base.Integer (group h (unary h c.Negate base.Integer (num (pos 1))))
    (group h (unary h c.Negate base.Integer (num (pos 3)))))
    ∷ item.Value (bin h o.Power base.Integer (group h (unary h c.Negate base.Integer (num (pos 2))))
    (group h (unary h c.Negate base.Integer (num (pos 2))))) ∷ item.Value (bin h o.Power base.Integer (num (pos 0)) (num (pos 0)))
    ∷ item.Value (bin h o.Power base.Integer (num (pos 7)) (num (pos 0))) ∷ []) tt)) ∷ []) tt) (place 1 75))
    (place 1 1)

--     program p; print *, 0**(-1); end
abbrev pub usage_72_zero_to_minus_one : Global → Program
usage_72_zero_to_minus_one h = program h [] tt
    [] tt
    [] tt
    (procedure h 0 [] tt [] tt None (block h (at h 1 12 true (s.Print
    (vec h (item.Value (bin h o.Power base.Integer (num (pos 0)) (group h (unary h c.Negate base.Integer (num (pos 1))))) ∷ []) tt)) ∷ []) tt) (place 1 30))
    (place 1 1)

--     program p; integer :: i; i = -2147483647 - 1; print *, i; print *, -i; end
abbrev pub usage_73_least_integer : Global → Program
usage_73_least_integer h = program h [] tt
    [] tt
    [] tt
    (procedure h 0 [] tt ((declared h (kind base.Integer 0 false) [] tt [] tt) ∷ []) tt None
    (block h (at h 1 26 true (s.Assign (name (n.Local 0) l.Whole) (kind base.Integer 0 false)
    (bin h o.Subtract base.Integer (unary h c.Negate base.Integer (num (pos 2147483647))) (num (pos 1))))
    ∷ at h 1 47 true (s.Print (vec h (item.Value (var h (name (n.Local 0) l.Whole)) ∷ []) tt))
    ∷ at h 1 59 true (s.Print (vec h (item.Value (unary h c.Negate base.Integer (var h (name (n.Local 0) l.Whole))) ∷ []) tt)) ∷ []) tt) (place 1 72))
    (place 1 1)

--     program p; integer :: i; i = -2147483647 - 1; print *, i / (-1); end
abbrev pub usage_74_quotient_past_range : Global → Program
usage_74_quotient_past_range h = program h [] tt
    [] tt
    [] tt
    (procedure h 0 [] tt ((declared h (kind base.Integer 0 false) [] tt [] tt) ∷ []) tt None
    (block h (at h 1 26 true (s.Assign (name (n.Local 0) l.Whole) (kind base.Integer 0 false)
    (bin h o.Subtract base.Integer (unary h c.Negate base.Integer (num (pos 2147483647))) (num (pos 1))))
    ∷ at h 1 47 true (s.Print (vec h (item.Value (bin h o.Divide base.Integer (var h (name (n.Local 0) l.Whole))
    (group h (unary h c.Negate base.Integer (num (pos 1))))) ∷ []) tt)) ∷ []) tt) (place 1 66))
    (place 1 1)

--     program p; print *, mod(7, -3), modulo(7, -3), modulo(-7, 3), mod(-7, -3), max(3, 9, 4), min(3, -9), abs(-4); end
abbrev pub usage_75_mod_modulo : Global → Program
usage_75_mod_modulo h = program h [] tt
    [] tt
    [] tt
    (procedure h 0 [] tt [] tt None (block h (at h 1 12 true (s.Print
    (vec h (item.Value (bin h o.Mod base.Integer (num (pos 7)) (unary h c.Negate base.Integer (num (pos 3))))
    ∷ item.Value (bin h o.Modulo base.Integer (num (pos 7)) (unary h c.Negate base.Integer (num (pos 3))))
    ∷ item.Value (bin h o.Modulo base.Integer (unary h c.Negate base.Integer (num (pos 7))) (num (pos 3)))
    ∷ item.Value (bin h o.Mod base.Integer (unary h c.Negate base.Integer (num (pos 7))) (unary h c.Negate base.Integer (num (pos 3))))
    ∷ item.Value (bin h o.Max base.Integer (bin h o.Max base.Integer (num (pos 3)) (num (pos 9))) (num (pos 4)))
    ∷ item.Value (bin h o.Min base.Integer (num (pos 3)) (unary h c.Negate base.Integer (num (pos 9))))
    ∷ item.Value (unary h c.Absolute base.Integer (unary h c.Negate base.Integer (num (pos 4)))) ∷ []) tt)) ∷ []) tt) (place 1 111))
    (place 1 1)

--     program p; integer :: a(3); print *, a(1:3:0); end
abbrev pub usage_77_triplet_step_zero : Global → Program
usage_77_triplet_step_zero h = program h [] tt
    [] tt
    [] tt
    (procedure h 0 [] tt ((declared h (kind base.Integer 1 false) (dim (pos 1) 3 ∷ []) tt [] tt) ∷ []) tt None
    (block h (at h 1 29 true (s.Print (vec h (item.Value (var h
    (name (n.Local 0) (elements h false (triplet h true (num (pos 1)) true (num (pos 3)) (num (pos 0)) ∷ []) tt))) ∷ []) tt)) ∷ []) tt) (place 1 48))
    (place 1 1)

--     program p; integer, allocatable :: a(:); allocate(a(1)); allocate(a(2)); end
abbrev pub usage_78_allocate_twice : Global → Program
usage_78_allocate_twice h = program h [] tt
    [] tt
    [] tt
    (procedure h 0 [] tt ((declared h (kind base.Integer 1 true) [] tt [] tt) ∷ []) tt None
    (block h (at h 1 42 true (s.Allocate (vec h (request h (name (n.Local 0) l.Whole) (kind base.Integer 1 true)
    (bounds (num (pos 1)) (num (pos 1)) ∷ []) tt ∷ []) tt) None)
    ∷ at h 1 58 true (s.Allocate (vec h (request h (name (n.Local 0) l.Whole) (kind base.Integer 1 true)
    (bounds (num (pos 1)) (num (pos 2)) ∷ []) tt ∷ []) tt) None) ∷ []) tt) (place 1 74))
    (place 1 1)

--     program p; integer, allocatable :: a(:); deallocate(a); end
abbrev pub usage_79_deallocate_nothing : Global → Program
usage_79_deallocate_nothing h = program h [] tt
    [] tt
    [] tt
    (procedure h 0 [] tt ((declared h (kind base.Integer 1 true) [] tt [] tt) ∷ []) tt None
    (block h (at h 1 42 true (s.Deallocate (vec h (request h (name (n.Local 0) l.Whole) (kind base.Integer 1 true) [] tt ∷ []) tt) None) ∷ [])
    tt) (place 1 57))
    (place 1 1)

--     program p; integer, allocatable :: a(:,:); allocate(a(4096, 4097)); end
abbrev pub usage_80_allocate_too_large : Global → Program
usage_80_allocate_too_large h = program h [] tt
    [] tt
    [] tt
    (procedure h 0 [] tt ((declared h (kind base.Integer 2 true) [] tt [] tt) ∷ []) tt None
    (block h (at h 1 44 true (s.Allocate (vec h (request h (name (n.Local 0) l.Whole) (kind base.Integer 2 true)
    (bounds (num (pos 1)) (num (pos 4096)) ∷ bounds (num (pos 1)) (num (pos 4097)) ∷ []) tt ∷ []) tt) None) ∷ []) tt) (place 1 69))
    (place 1 1)

abbrev pub usage_70_logical_items_shows : Global → Type 0
usage_70_logical_items_shows h = shown (run_of (usage_70_logical_items h) 2000 granted) ≡ record
    { bytes = (lines (codes " T F T F T" ∷ [])); verdict = Finished }

abbrev pub usage_71_powers_shows : Global → Type 0
usage_71_powers_shows h = shown (run_of (usage_71_powers h) 2000 granted) ≡ record { bytes = (lines (codes " 512 1 -1 0 1 1" ∷ [])); verdict = Finished }

abbrev pub usage_72_zero_to_minus_one_shows : Global → Type 0
usage_72_zero_to_minus_one_shows h = shown (run_of (usage_72_zero_to_minus_one h) 2000 granted) ≡ record { bytes = (lines []); verdict = Failed 2 1 12 }

abbrev pub usage_73_least_integer_shows : Global → Type 0
usage_73_least_integer_shows h = shown (run_of (usage_73_least_integer h) 2000 granted) ≡ record
    { bytes = (lines (codes " -2147483648" ∷ [])); verdict = Failed 1 1 59 }

abbrev pub usage_74_quotient_past_range_shows : Global → Type 0
usage_74_quotient_past_range_shows h = shown (run_of (usage_74_quotient_past_range h) 2000 granted) ≡ record { bytes = (lines []); verdict = Failed 1 1 47 }

abbrev pub usage_75_mod_modulo_shows : Global → Type 0
usage_75_mod_modulo_shows h = shown (run_of (usage_75_mod_modulo h) 2000 granted) ≡ record
    { bytes = (lines (codes " 1 -2 2 -1 9 -9 4" ∷ [])); verdict = Finished }

abbrev pub usage_77_triplet_step_zero_shows : Global → Type 0
usage_77_triplet_step_zero_shows h = shown (run_of (usage_77_triplet_step_zero h) 2000 granted) ≡ record { bytes = (lines []); verdict = Failed 8 1 29 }

abbrev pub usage_78_allocate_twice_shows : Global → Type 0
usage_78_allocate_twice_shows h = shown (run_of (usage_78_allocate_twice h) 2000 granted) ≡ record { bytes = (lines []); verdict = Failed 5 1 58 }

abbrev pub usage_79_deallocate_nothing_shows : Global → Type 0
usage_79_deallocate_nothing_shows h = shown (run_of (usage_79_deallocate_nothing h) 2000 granted) ≡ record { bytes = (lines []); verdict = Failed 4 1 42 }

abbrev pub usage_80_allocate_too_large_shows : Global → Type 0
usage_80_allocate_too_large_shows h = shown (run_of (usage_80_allocate_too_large h) 2000 granted) ≡ record { bytes = (lines []); verdict = Failed 11 1 44 }

-- These programs print this and end so.
abbrev pub Rows9Show : Type 0
Rows9Show = (h : Global) →
    (IsLawful (usage_70_logical_items h) × usage_70_logical_items_shows h)
    × (IsLawful (usage_71_powers h) × usage_71_powers_shows h)
    × (IsLawful (usage_72_zero_to_minus_one h) × usage_72_zero_to_minus_one_shows h)
    × (IsLawful (usage_73_least_integer h) × usage_73_least_integer_shows h)
    × (IsLawful (usage_74_quotient_past_range h) × usage_74_quotient_past_range_shows h)
    × (IsLawful (usage_75_mod_modulo h) × usage_75_mod_modulo_shows h)
    × (IsLawful (usage_77_triplet_step_zero h) × usage_77_triplet_step_zero_shows h)
    × (IsLawful (usage_78_allocate_twice h) × usage_78_allocate_twice_shows h)
    × (IsLawful (usage_79_deallocate_nothing h) × usage_79_deallocate_nothing_shows h)
    × (IsLawful (usage_80_allocate_too_large h) × usage_80_allocate_too_large_shows h)
