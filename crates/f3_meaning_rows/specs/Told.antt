-- Changes and stages of runs, whole.
use Rattle.std.specs.Prelude.{◌≡◌, ℕ, ℤ, length, pos, true, false, List, [], ◌∷◌, map, None}
use Rattle.std.specs.declared.alloc.Global.{Global}
use Rattle.f3_program.specs.declared.declarations.Base.TheVariants as base
use Rattle.f3_program.specs.declared.declarations.Constant.TheVariants as constant
use Rattle.f3_program.specs.declared.expression.Name.TheVariants as n
use Rattle.f3_program.specs.declared.expression.BinaryOperator.TheVariants as o
use Rattle.f3_program.specs.declared.expression.Selection as l
use Rattle.f3_program.specs.declared.statement.Selector.TheVariants as selector
use Rattle.f3_program.specs.declared.statement.Statement as s
use Rattle.f3_program.specs.declared.program.Intent.TheVariants as intent
use Rattle.f3_program.specs.declared.program.Program.{Program}
use Rattle.f3_meaning_whole.specs.Permitted.{Permitted}
use Rattle.f3_meaning_whole.specs.Run.{run_of, changes, stages}
use Rattle.f3_meaning_rows.specs.Shown.{granted}
use Rattle.f3_meaning_rows.specs.Build.{vec, place, kind, declared, comp, derived, final, num, truth, var, bin, call, allocated, ref, name, member}
use Rattle.f3_meaning_rows.specs.Build.{elements, sub, at, block, when, for, associate, bounds, request, dummy, static, procedure, program}
use Rattle.f3_program.specs.declared.declarations.Base.{Base}
use Rattle.f3_meaning_whole.specs.Value.{Value, Number, Array, Unallocated, Allocated, none, more}
use Rattle.f3_meaning_whole.specs.Store.{Root, Static, Local, Store, Path, Step, Component, Contents}
use Rattle.f3_meaning_whole.specs.Reference.{Define, Read, Maker, Selected, Language, Made, One, Reference}
use Rattle.f3_meaning_whole.specs.Ran.{Change, Stage}

-- Units: k is 0, m 2, p 4.
--     module k; contains; subroutine bump(x); integer, intent(inout) :: x; x = x + 1; end; end
--     module m; use k; integer, protected :: n = 3; type t; integer, allocatable, private :: c; end type; type(t) :: y
--     contains; subroutine work(); call bump(n); y%c = 5; end; end
--     program p; use m; type(t) :: z; call work(); y = z; end
abbrev pub changing : Global → Program
changing h = program h (derived h 2 (comp (declared h (kind base.Integer 0 true) [] tt [] tt) true ∷ []) tt [] tt ∷ []) tt
    (static (declared h (kind base.Integer 0 false) [] tt ((constant.Number (pos 3)) ∷ []) tt) 2 true
    ∷ static (declared h (kind (base.Derived 0) 0 false) [] tt [] tt) 2 false ∷ []) tt
    (procedure h 0 (dummy h (kind base.Integer 0 false) intent.InOut [] tt ∷ []) tt [] tt None
    (block h (at h 1 70 true (s.Assign (name (n.Lent 0) l.Whole) (kind base.Integer 0 false)
    (bin h o.Add base.Integer (var h (name (n.Lent 0) l.Whole)) (num (pos 1)))) ∷ []) tt) (place 1 81)
    ∷ procedure h 2 [] tt [] tt None (block h (at h 3 30 true (s.Call (call h 0 (ref h 0 (name (n.Static 0) l.Whole) ∷ []) tt))
    ∷ at h 3 44 true (s.Assign (member h (name (n.Static 1) l.Whole) 0 l.Whole) (kind base.Integer 0 true) (num (pos 5))) ∷ []) tt) (place 3 53) ∷ []) tt
    (procedure h 4 [] tt ((declared h (kind (base.Derived 0) 0 false) [] tt [] tt) ∷ []) tt None
    (block h (at h 4 33 true (s.Call (call h 1 [] tt)) ∷ at h 4 46 true
    (s.Assign (name (n.Static 1) l.Whole) (kind (base.Derived 0) 0 false) (var h (name (n.Local 0) l.Whole))) ∷ []) tt) (place 4 53))
    (place 4 1)

abbrev pub way : Root → List Step → Path
way root steps = record { root = root; steps = steps }

abbrev pub changed : Path → Base → ℕ → List Made → ℕ → Change
changed p of origin makers executing = record {
  reference = record
      { path = p; reach = One; of = of; right = Define; origin = origin; makers = makers };
  executing = executing;
}

abbrev pub made : ℕ → ℕ → Maker → Made
made t k maker = record { of = base.Derived t; component = k; maker = maker }

-- Module k counts a protected variable up that module m, which declares it, lends. Module m sets a private allocatable
-- component, in two changes. The program assigns the whole: the language deallocates the component.
abbrev pub ChangesStand : Type 0
ChangesStand = (h : Global) → changes (run_of (changing h) 5 granted).out ≡
    changed (way (Static 0) []) base.Integer 2 [] 0
    ∷ changed (way (Static 1) (Component 0 ∷ [])) base.Integer 2 (made 0 0 (Selected 2) ∷ []) 2
    ∷ changed (way (Static 1) (Component 0 ∷ Contents ∷ [])) base.Integer 2 (made 0 0 (Selected 2) ∷ []) 2
    ∷ changed (way (Static 1) (Component 0 ∷ [])) base.Integer 4 (made 0 0 Language ∷ []) 4
    ∷ changed (way (Static 1) []) (base.Derived 0) 4 [] 4
    ∷ changed (way (Static 1) []) (base.Derived 0) 4 [] 4
    ∷ []

abbrev pub one : ℤ → Value
one z = Allocated (Array (record { lower = pos 1; extent = 1 } ∷ []) (more (Number z) none))

abbrev pub storing : Value → List (List Value) → Store
storing v levels = record { statics = v ∷ []; levels = levels }

abbrev pub lent_at : List Stage → List (List Path)
lent_at ss = map (λ (s : Stage). map (λ (r : Reference). r.path) s.lent) ss

--     module m; integer, allocatable :: v(:); contains
--     subroutine s(x); integer, intent(inout) :: x(:)
--     x(1) = 2
--     end; end
--     program p; use m; allocate(v(1:1)); if (allocated(v)) call s(v)
--     end
abbrev pub staged : Global → Program
staged h = program h [] tt
    (static (declared h (kind base.Integer 1 true) [] tt [] tt) 0 false ∷ []) tt
    (procedure h 0 (dummy h (kind base.Integer 1 false) intent.InOut ((pos 1) ∷ []) tt ∷ []) tt [] tt None
    (block h (at h 3 1 true (s.Assign (name (n.Lent 0) (elements h false (sub h (num (pos 1)) ∷ []) tt)) (kind base.Integer 0 false)
    (num (pos 2))) ∷ []) tt) (place 4 1) ∷ []) tt
    (procedure h 2 [] tt [] tt None (block h (at h 5 19 true (s.Allocate
    (vec h (request h (name (n.Static 0) l.Whole) (kind base.Integer 1 true) (bounds (num (pos 1)) (num (pos 1)) ∷ []) tt ∷ []) tt) None)
    ∷ at h 5 37 true (when h (allocated h (name (n.Static 0) l.Whole)) (s.Call (call h 0 (ref h 0 (name (n.Static 0) l.Contents) ∷ []) tt))
    (block h [] tt)) ∷ []) tt) (place 6 1))
    (place 5 1)

-- the stores and the lent paths at the ALLOCATE, the logical IF, the assignment in the procedure, its END, the END of the program
abbrev pub StoresStand : Type 0
StoresStand = (h : Global) →
    (map (λ (s : Stage). s.store) (stages (run_of (staged h) 5 granted).out) ≡
    storing Unallocated ([] ∷ [])
    ∷ storing (one (pos 0)) ([] ∷ [])
    ∷ storing (one (pos 0)) ([] ∷ [] ∷ [] ∷ [])
    ∷ storing (one (pos 2)) ([] ∷ [] ∷ [] ∷ [])
    ∷ storing (one (pos 2)) ([] ∷ [])
    ∷ [])
    × (lent_at (stages (run_of (staged h) 5 granted).out) ≡
    [] ∷ [] ∷ (way (Static 0) (Contents ∷ []) ∷ []) ∷ (way (Static 0) (Contents ∷ []) ∷ []) ∷ [] ∷ [])

--     module m; type t; integer :: i; contains; final :: f; end type; type u; type(t) :: c; end type; contains
--     subroutine f(x); type(t), intent(inout) :: x; end
--     subroutine s(); type(u) :: y; end; end
--     program p; use m; call s(); end
abbrev pub nested : Global → Program
nested h = program h (derived h 0 (comp (declared h (kind base.Integer 0 false) [] tt [] tt) false ∷ []) tt (final 0 0 ∷ []) tt
    ∷ derived h 0 (comp (declared h (kind (base.Derived 0) 0 false) [] tt [] tt) false ∷ []) tt [] tt ∷ []) tt
    [] tt
    (procedure h 0 (dummy h (kind (base.Derived 0) 0 false) intent.InOut [] tt ∷ []) tt [] tt None (block h [] tt) (place 2 47)
    ∷ procedure h 0 [] tt ((declared h (kind (base.Derived 1) 0 false) [] tt [] tt) ∷ []) tt None (block h [] tt) (place 3 31) ∷ []) tt
    (procedure h 3 [] tt [] tt None (block h (at h 4 19 true (s.Call (call h 1 [] tt)) ∷ []) tt) (place 4 29))
    (place 4 1)

-- At the CALL, at the END of s, in its variable's part's final (lent by the call, by the destruction of the part, by that of the
-- whole), at the END of the program; while s is active there is its level and the one of the values held for it, and so for f.
abbrev pub DestroyedLent : Type 0
DestroyedLent = (h : Global) →
    (lent_at (stages (run_of (nested h) 5 granted).out) ≡ [] ∷ []
    ∷ (way (Local 2 0) (Component 0 ∷ []) ∷ way (Local 2 0) (Component 0 ∷ []) ∷ way (Local 2 0) [] ∷ []) ∷ [] ∷ [])
    × (map (λ (s : Stage). length s.store.levels) (stages (run_of (nested h) 5 granted).out) ≡ 1 ∷ 3 ∷ 5 ∷ 1 ∷ [])

--     program p; integer :: i; integer, allocatable :: v(:); if (.false.) then; stop
--     else if (.true.) then; i = 7; end if
--     do i = 1, 2; cycle; end do
--     allocate(v(1))
--     associate (z => v, y => 9); print *; end associate
--     deallocate(v)
--     end
abbrev pub forms : Global → Program
forms h = program h [] tt
    [] tt
    [] tt
    (procedure h 0 [] tt ((declared h (kind base.Integer 0 false) [] tt [] tt) ∷ (declared h (kind base.Integer 1 true) [] tt [] tt) ∷ []) tt None
    (block h (at h 1 56 true (when h (truth false) (block h (at h 1 75 true (s.Stop None) ∷ []) tt)
    (at h 2 1 false (when h (truth true) (block h (at h 2 24 true (s.Assign (name (n.Local 0) l.Whole) (kind base.Integer 0 false) (num (pos 7)))
    ∷ []) tt) (block h [] tt)))) ∷ at h 3 1 true (for h (name (n.Local 0) l.Whole) (kind base.Integer 0 false) (num (pos 1)) (num (pos 2))
    (num (pos 1)) (block h (at h 3 14 true s.Cycle ∷ []) tt))
    ∷ at h 4 1 true (s.Allocate (vec h (request h (name (n.Local 1) l.Whole) (kind base.Integer 1 true) (bounds (num (pos 1)) (num (pos 1)) ∷ [])
    tt ∷ []) tt) None) ∷ at h 5 1 true (associate h (selector.Variable (name (n.Local 1) l.Contents)
    ∷ selector.Value (kind base.Integer 0 false) (num (pos 9)) ∷ []) tt (block h (at h 5 29 true (s.Print (vec h [] tt)) ∷ []) tt))
    ∷ at h 6 1 true (s.Deallocate (vec h (request h (name (n.Local 1) l.Whole) (kind base.Integer 1 true) [] tt ∷ []) tt) None) ∷ []) tt) (place 7 1))
    (place 1 1)

-- The first variable, and what is lent, at the IF (the ELSE IF is no stage), the assignment, the DO, each CYCLE, the ALLOCATE,
-- the ASSOCIATE, the PRINT in it, where v and the value that is held are lent, the DEALLOCATE, the END.
abbrev pub FormsStand : Type 0
FormsStand = (h : Global) →
    (map (λ (s : Stage). first s.store.levels) (stages (run_of (forms h) 5 granted).out) ≡ Number (pos 0) ∷ Number (pos 0) ∷ Number (pos 7)
    ∷ Number (pos 1) ∷ Number (pos 2) ∷ Number (pos 3) ∷ Number (pos 3) ∷ Number (pos 3) ∷ Number (pos 3) ∷ Number (pos 3) ∷ [])
    × (lent_at (stages (run_of (forms h) 5 granted).out) ≡ [] ∷ [] ∷ [] ∷ [] ∷ [] ∷ [] ∷ []
    ∷ (way (Local 0 1) (Contents ∷ []) ∷ way (Local 1 0) [] ∷ []) ∷ [] ∷ [] ∷ [])
  where
    first : List (List Value) → Value
    first [] = Unallocated
    first ([] ∷ levels) = Unallocated
    first ((v ∷ vs) ∷ levels) = v

-- Units: k is 0, m 3, p 4.
--     module k; contains; subroutine a(x); integer, intent(in) :: x; x = 1; end; subroutine b(x); integer, intent(inout) :: x; x = x + 1; end; end
--     module m; integer, protected :: n = 3; end
--     program p; use k; use m; integer :: i; call a(i); call b(n); associate (z => n); z = 4; end associate; end
abbrev pub unlawful : Global → Program
unlawful h = program h [] tt
    (static (declared h (kind base.Integer 0 false) [] tt ((constant.Number (pos 3)) ∷ []) tt) 3 true ∷ []) tt
    (procedure h 0 (dummy h (kind base.Integer 0 false) intent.In [] tt ∷ []) tt [] tt None
    (block h (at h 1 64 true (s.Assign (name (n.Lent 0) l.Whole) (kind base.Integer 0 false) (num (pos 1))) ∷ []) tt) (place 1 71)
    ∷ procedure h 0 (dummy h (kind base.Integer 0 false) intent.InOut [] tt ∷ []) tt [] tt None
    (block h (at h 1 125 true (s.Assign (name (n.Lent 0) l.Whole) (kind base.Integer 0 false)
    (bin h o.Add base.Integer (var h (name (n.Lent 0) l.Whole)) (num (pos 1)))) ∷ []) tt) (place 1 136) ∷ []) tt
    (procedure h 4 [] tt ((declared h (kind base.Integer 0 false) [] tt [] tt) ∷ []) tt None
    (block h (at h 3 40 true (s.Call (call h 0 (ref h 0 (name (n.Local 0) l.Whole) ∷ []) tt))
    ∷ at h 3 51 true (s.Call (call h 1 (ref h 0 (name (n.Static 0) l.Whole) ∷ []) tt))
    ∷ at h 3 65 true (associate h (selector.Variable (name (n.Static 0) l.Whole) ∷ []) tt
    (block h (at h 3 85 true (s.Assign (name (n.Lent 0) l.Whole) (kind base.Integer 0 false) (num (pos 4))) ∷ []) tt)) ∷ []) tt) (place 3 107))
    (place 3 1)

abbrev pub changed_by_read : Path → ℕ → ℕ → Change
changed_by_read p origin executing = record {
  reference = record
      { path = p; reach = One; of = base.Integer; right = Read; origin = origin; makers = [] };
  executing = executing;
}

-- Not lawful: an INTENT(IN) dummy and another module's protected variable are defined, that one through a dummy and an
-- associate name. Each change is by the right to read, and is not permitted.
abbrev pub ReadsShow : Type 0
ReadsShow = (h : Global) →
    (changes (run_of (unlawful h) 5 granted).out ≡ changed_by_read (way (Local 0 0) []) 4 0 ∷ changed_by_read (way (Static 0) []) 4 0
    ∷ changed_by_read (way (Static 0) []) 4 4 ∷ [])
    × (Permitted (unlawful h) (changed_by_read (way (Static 0) []) 4 0) → ⊥)

-- Units: m is 0, p 1.
--     module m; type box; integer, private :: secret; end type; end
--     program p; use m; type(box) :: a; a%secret = 1; end
abbrev pub prying : Global → Program
prying h = program h (derived h 0 (comp (declared h (kind base.Integer 0 false) [] tt [] tt) true ∷ []) tt [] tt ∷ []) tt
    [] tt
    [] tt
    (procedure h 1 [] tt ((declared h (kind (base.Derived 0) 0 false) [] tt [] tt) ∷ []) tt None
    (block h (at h 2 1 true (s.Assign (member h (name (n.Local 0) l.Whole) 0 l.Whole) (kind base.Integer 0 false) (num (pos 1))) ∷ []) tt)
    (place 2 20)) (place 1 1)

-- Not lawful: the program selects a private component. Its change is not permitted.
abbrev pub PryingShows : Type 0
PryingShows = (h : Global) →
    (changes (run_of (prying h) 5 granted).out ≡ changed (way (Local 0 0) (Component 0 ∷ [])) base.Integer 1 (made 0 0 (Selected 1) ∷ []) 1 ∷ [])
    × (Permitted (prying h) (changed (way (Local 0 0) (Component 0 ∷ [])) base.Integer 1 (made 0 0 (Selected 1) ∷ []) 1) → ⊥)

-- Changes that no run makes are not permitted: of a protected variable that another unit has named, of a part whose component
-- is not told, of one whose type is not the declared one.
abbrev pub ForgedAreNot : Type 0
ForgedAreNot = (h : Global) →
    (Permitted (changing h) (changed (way (Static 0) []) base.Integer 4 [] 4) → ⊥)
    × (Permitted (changing h) (changed (way (Static 1) (Component 0 ∷ [])) base.Integer 2 [] 2) → ⊥)
    × (Permitted (changing h) (changed (way (Static 1) (Component 0 ∷ [])) base.Integer 4 (made 1 0 (Selected 4) ∷ []) 4) → ⊥)
