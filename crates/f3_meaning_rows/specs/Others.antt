-- Programs with refused requests, bounds on turns, and definitions that are not lawful; their sources stand above.
use Rattle.std.specs.Prelude.{pos, true, false, [], ◌∷◌, None, Some, codes, ◌≡◌}
use Rattle.std.specs.declared.alloc.Global.{Global}
use Rattle.f3_program.specs.declared.declarations.Base.TheVariants as base
use Rattle.f3_program.specs.declared.declarations.Constant.TheVariants as constant
use Rattle.f3_program.specs.declared.expression.Name.TheVariants as n
use Rattle.f3_program.specs.declared.expression.BinaryOperator.TheVariants as o
use Rattle.f3_program.specs.declared.expression.Selection as l
use Rattle.f3_program.specs.declared.statement.Item.TheVariants as item
use Rattle.f3_program.specs.declared.statement.Statement as s
use Rattle.f3_program.specs.declared.program.Intent.TheVariants as intent
use Rattle.f3_program.specs.declared.program.Program.{Program}
use Rattle.f3_meaning_whole.specs.Run.{run_of, runs}
use Rattle.f3_meaning_whole.specs.Permitted.{IsLawful}
use Rattle.f3_meaning_rows.specs.Shown.{granted, refusing, shown, lines, Finished, Failed, Unfinished}
use Rattle.f3_meaning_rows.specs.Build.{vec, place, kind, dim, declared, comp, derived, num, truth, var, bin, call, allocated, val, ref, name, member}
use Rattle.f3_meaning_rows.specs.Build.{at, block, while, bounds, request, dummy, static, procedure, program}

--     program p; integer, allocatable :: a(:); integer :: s; s = 1
--     allocate(a(1000), stat=s); print *, s, allocated(a)
--     end
abbrev pub refused_with_stat : Global → Program
refused_with_stat h = program h [] tt
    [] tt
    [] tt
    (procedure h 0 [] tt ((declared h (kind base.Integer 1 true) [] tt [] tt) ∷ (declared h (kind base.Integer 0 false) [] tt [] tt) ∷ []) tt None
    (block h (at h 1 56 true (s.Assign (name (n.Local 1) l.Whole) (kind base.Integer 0 false) (num (pos 1)))
    ∷ at h 2 1 true (s.Allocate (vec h (request h (name (n.Local 0) l.Whole) (kind base.Integer 1 true)
    (bounds (num (pos 1)) (num (pos 1000)) ∷ []) tt ∷ []) tt) (Some (name (n.Local 1) l.Whole)))
    ∷ at h 2 28 true (s.Print (vec h (item.Value (var h (name (n.Local 1) l.Whole)) ∷ item.Value (allocated h (name (n.Local 0) l.Whole)) ∷ [])
    tt)) ∷ []) tt) (place 3 1))
    (place 1 1)

abbrev pub refused_with_stat_shows : Global → Type 0
refused_with_stat_shows h = shown (run_of (refused_with_stat h) 20 (refusing (2 ∷ []))) ≡ record { bytes = (lines (codes " 6 F" ∷ [])); verdict = Finished }

--     program p; integer, allocatable :: a(:); integer :: s; s = 1
--     allocate(a(1000), stat=s); print *, s, allocated(a)
--     end
abbrev pub not_refused : Global → Program
not_refused h = program h [] tt
    [] tt
    [] tt
    (procedure h 0 [] tt ((declared h (kind base.Integer 1 true) [] tt [] tt) ∷ (declared h (kind base.Integer 0 false) [] tt [] tt) ∷ []) tt None
    (block h (at h 1 56 true (s.Assign (name (n.Local 1) l.Whole) (kind base.Integer 0 false) (num (pos 1)))
    ∷ at h 2 1 true (s.Allocate (vec h (request h (name (n.Local 0) l.Whole) (kind base.Integer 1 true)
    (bounds (num (pos 1)) (num (pos 1000)) ∷ []) tt ∷ []) tt) (Some (name (n.Local 1) l.Whole)))
    ∷ at h 2 28 true (s.Print (vec h (item.Value (var h (name (n.Local 1) l.Whole)) ∷ item.Value (allocated h (name (n.Local 0) l.Whole)) ∷ [])
    tt)) ∷ []) tt) (place 3 1))
    (place 1 1)

abbrev pub not_refused_shows : Global → Type 0
not_refused_shows h = shown (run_of (not_refused h) 20 (refusing (3 ∷ []))) ≡ record { bytes = (lines (codes " 0 T" ∷ [])); verdict = Finished }

--     program p; integer, allocatable :: a(:); integer :: s; s = 1
--     allocate(a(1000)); print *, s, allocated(a)
--     end
abbrev pub refused_without_stat : Global → Program
refused_without_stat h = program h [] tt
    [] tt
    [] tt
    (procedure h 0 [] tt ((declared h (kind base.Integer 1 true) [] tt [] tt) ∷ (declared h (kind base.Integer 0 false) [] tt [] tt) ∷ []) tt None
    (block h (at h 1 56 true (s.Assign (name (n.Local 1) l.Whole) (kind base.Integer 0 false) (num (pos 1)))
    ∷ at h 2 1 true (s.Allocate (vec h (request h (name (n.Local 0) l.Whole) (kind base.Integer 1 true)
    (bounds (num (pos 1)) (num (pos 1000)) ∷ []) tt ∷ []) tt) None)
    ∷ at h 2 20 true (s.Print (vec h (item.Value (var h (name (n.Local 1) l.Whole)) ∷ item.Value (allocated h (name (n.Local 0) l.Whole)) ∷ [])
    tt)) ∷ []) tt) (place 3 1))
    (place 1 1)

abbrev pub refused_without_stat_shows : Global → Type 0
refused_without_stat_shows h = shown (run_of (refused_without_stat h) 20 (refusing (2 ∷ []))) ≡ record { bytes = []; verdict = Failed 6 2 1 }

--     program p; do while (.true.); print *, 1; end do; end
abbrev pub three_turns : Global → Program
three_turns h = program h [] tt
    [] tt
    [] tt
    (procedure h 0 [] tt [] tt None (block h (at h 1 12 true (while h (truth true)
    (block h (at h 1 31 true (s.Print (vec h (item.Value (num (pos 1)) ∷ []) tt)) ∷ []) tt)) ∷ []) tt) (place 1 51))
    (place 1 1)

abbrev pub three_turns_shows : Global → Type 0
three_turns_shows h = shown (run_of (three_turns h) 3 granted) ≡ record { bytes = (lines (codes " 1" ∷ codes " 1" ∷ codes " 1" ∷ [])); verdict = Unfinished }

--     program p; print *, 1; end
abbrev pub no_room_to_start : Global → Program
no_room_to_start h = program h [] tt
    [] tt
    [] tt
    (procedure h 0 [] tt [] tt None (block h (at h 1 12 true (s.Print (vec h (item.Value (num (pos 1)) ∷ []) tt)) ∷ []) tt) (place 1 24))
    (place 1 1)

abbrev pub no_room_to_start_shows : Global → Type 0
no_room_to_start_shows h = shown (run_of (no_room_to_start h) 3 (refusing (1 ∷ []))) ≡ record { bytes = []; verdict = Failed 6 1 1 }

--     module m; contains
--     subroutine s(); print *, 2; end
--     end
--     program p; use m; print *, 1
--     call s()
--     end
abbrev pub no_room_for_a_call : Global → Program
no_room_for_a_call h = program h [] tt
    [] tt
    (procedure h 0 [] tt [] tt None (block h (at h 2 17 true (s.Print (vec h (item.Value (num (pos 2)) ∷ []) tt)) ∷ []) tt) (place 2 29) ∷ []) tt
    (procedure h 2 [] tt [] tt None (block h (at h 4 19 true (s.Print (vec h (item.Value (num (pos 1)) ∷ []) tt))
    ∷ at h 5 1 true (s.Call (call h 0 [] tt)) ∷ []) tt) (place 6 1))
    (place 4 1)

abbrev pub no_room_for_a_call_shows : Global → Type 0
no_room_for_a_call_shows h = shown (run_of (no_room_for_a_call h) 3 (refusing (2 ∷ []))) ≡ record { bytes = (lines (codes " 1" ∷ [])); verdict = Failed 6 5 1 }

--     module m; contains
--     subroutine s(n); integer, intent(in) :: n; print *, n; call s(n + 1); end
--     end
--     program p; use m; call s(1); end
abbrev pub depth_of_three : Global → Program
depth_of_three h = program h [] tt
    [] tt
    (procedure h 0 (dummy h (kind base.Integer 0 false) intent.In [] tt ∷ []) tt [] tt None
    (block h (at h 2 44 true (s.Print (vec h (item.Value (var h (name (n.Lent 0) l.Whole)) ∷ []) tt))
    ∷ at h 2 56 true (s.Call (call h 0 (val h 0 (bin h o.Add base.Integer (var h (name (n.Lent 0) l.Whole)) (num (pos 1))) ∷ []) tt)) ∷ []) tt)
    (place 2 71) ∷ []) tt
    (procedure h 2 [] tt [] tt None (block h (at h 4 19 true (s.Call (call h 0 (val h 0 (num (pos 1)) ∷ []) tt)) ∷ []) tt) (place 4 30))
    (place 4 1)

abbrev pub depth_of_three_shows : Global → Type 0
depth_of_three_shows h = shown (runs 3 (depth_of_three h) 3 granted) ≡ record
    { bytes = (lines (codes " 1" ∷ codes " 2" ∷ codes " 3" ∷ [])); verdict = Failed 10 2 56 }

--     program p; integer :: a(2); a = 1; print *, 1
--     a = a; print *, 2
--     end
abbrev pub no_room_for_a_copy : Global → Program
no_room_for_a_copy h = program h [] tt
    [] tt
    [] tt
    (procedure h 0 [] tt ((declared h (kind base.Integer 1 false) (dim (pos 1) 2 ∷ []) tt [] tt) ∷ []) tt None
    (block h (at h 1 29 true (s.Assign (name (n.Local 0) l.Whole) (kind base.Integer 1 false) (num (pos 1)))
    ∷ at h 1 36 true (s.Print (vec h (item.Value (num (pos 1)) ∷ []) tt))
    ∷ at h 2 1 true (s.Assign (name (n.Local 0) l.Whole) (kind base.Integer 1 false) (var h (name (n.Local 0) l.Whole)))
    ∷ at h 2 8 true (s.Print (vec h (item.Value (num (pos 2)) ∷ []) tt)) ∷ []) tt) (place 3 1))
    (place 1 1)

abbrev pub no_room_for_a_copy_shows : Global → Type 0
no_room_for_a_copy_shows h = shown (run_of (no_room_for_a_copy h) 3 (refusing (3 ∷ []))) ≡ record { bytes = (lines (codes " 1" ∷ [])); verdict = Failed 6 2 1 }

--     module m; integer, protected :: n = 3; end
--     program p; use m; n = 4; end
abbrev pub protected_elsewhere : Global → Program
protected_elsewhere h = program h [] tt
    (static (declared h (kind base.Integer 0 false) [] tt ((constant.Number (pos 3)) ∷ []) tt) 0 true ∷ []) tt
    [] tt
    (procedure h 1 [] tt [] tt None (block h (at h 2 19 true (s.Assign (name (n.Static 0) l.Whole) (kind base.Integer 0 false) (num (pos 4))) ∷ [])
    tt) (place 2 26))
    (place 2 1)

--     module m; integer, protected :: n = 3; end
--     module k; use m, q => n; end
--     program p; use k; q = 4; end
abbrev pub protected_renamed : Global → Program
protected_renamed h = program h [] tt
    (static (declared h (kind base.Integer 0 false) [] tt ((constant.Number (pos 3)) ∷ []) tt) 0 true ∷ []) tt
    [] tt
    (procedure h 2 [] tt [] tt None (block h (at h 3 19 true (s.Assign (name (n.Static 0) l.Whole) (kind base.Integer 0 false) (num (pos 4))) ∷ [])
    tt) (place 3 26))
    (place 3 1)

--     module k; contains
--     subroutine q(x); integer, intent(in) :: x; x = 1; end
--     end
--     program p; end
abbrev pub intent_in : Global → Program
intent_in h = program h [] tt
    [] tt
    (procedure h 0 (dummy h (kind base.Integer 0 false) intent.In [] tt ∷ []) tt [] tt None
    (block h (at h 2 44 true (s.Assign (name (n.Lent 0) l.Whole) (kind base.Integer 0 false) (num (pos 1))) ∷ []) tt) (place 2 51) ∷ []) tt
    (procedure h 2 [] tt [] tt None (block h [] tt) (place 4 12))
    (place 4 1)

--     module k; contains
--     subroutine bump(x); integer, intent(inout) :: x; x = x + 1; end
--     end
--     module m; integer, protected :: n = 3; end
--     program p; use m; use k; call bump(n); end
abbrev pub protected_passed_on : Global → Program
protected_passed_on h = program h [] tt
    (static (declared h (kind base.Integer 0 false) [] tt ((constant.Number (pos 3)) ∷ []) tt) 2 true ∷ []) tt
    (procedure h 0 (dummy h (kind base.Integer 0 false) intent.InOut [] tt ∷ []) tt [] tt None
    (block h (at h 2 50 true (s.Assign (name (n.Lent 0) l.Whole) (kind base.Integer 0 false)
    (bin h o.Add base.Integer (var h (name (n.Lent 0) l.Whole)) (num (pos 1)))) ∷ []) tt) (place 2 61) ∷ []) tt
    (procedure h 3 [] tt [] tt None (block h (at h 5 26 true (s.Call (call h 0 (ref h 0 (name (n.Static 0) l.Whole) ∷ []) tt)) ∷ []) tt) (place 5 40))
    (place 5 1)

--     module m; type box; integer, private :: secret = 1; end type; end
--     program p; use m; type(box) :: a; a%secret = 1; end
abbrev pub private_component : Global → Program
private_component h = program h (derived h 0 (comp (declared h (kind base.Integer 0 false) [] tt ((constant.Number (pos 1)) ∷ []) tt) true ∷ []) tt
    [] tt ∷ []) tt
    [] tt
    [] tt
    (procedure h 1 [] tt ((declared h (kind (base.Derived 0) 0 false) [] tt [] tt) ∷ []) tt None
    (block h (at h 2 35 true (s.Assign (member h (name (n.Local 0) l.Whole) 0 l.Whole) (kind base.Integer 0 false) (num (pos 1))) ∷ []) tt) (place 2 49))
    (place 2 1)

-- These runs show this, and these programs are not lawful.
abbrev pub OthersShow : Type 0
OthersShow = (h : Global) →
    refused_with_stat_shows h
    × not_refused_shows h
    × refused_without_stat_shows h
    × three_turns_shows h
    × no_room_to_start_shows h
    × no_room_for_a_call_shows h
    × depth_of_three_shows h
    × no_room_for_a_copy_shows h
    × (IsLawful (protected_elsewhere h) → ⊥)
    × (IsLawful (protected_renamed h) → ⊥)
    × (IsLawful (intent_in h) → ⊥)
    × (IsLawful (protected_passed_on h) → ⊥)
    × (IsLawful (private_component h) → ⊥)
