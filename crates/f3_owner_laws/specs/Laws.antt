-- What owners of modules rely on, of each program that accepted sources spell.
use Rattle.std.specs.Prelude.{◌≡◌, ℕ, Bool, true, List, Some, slice_get}
use Rattle.f3_places.specs.declared.source.Source.{Source}
use Rattle.f3_program.specs.declared.declarations.Base.{Base}
use Rattle.f3_program.specs.declared.declarations.Component.{Component}
use Rattle.f3_program.specs.declared.declarations.Derived.{Derived}
use Rattle.f3_program.specs.declared.program.Static as x
use Rattle.f3_program.specs.declared.program.Program.{Program}
use Rattle.f3_meaning_whole.specs.Store.{Static, Step, Path, within, components, get}
use Rattle.f3_meaning_whole.specs.Ran.{Event, Change, Stage}
use Rattle.f3_meaning_whole.specs.Act.{whole, derived_of}
use Rattle.f3_meaning_whole.specs.Run.{run_of, changes}
use Rattle.f3_meaning_whole.specs.Permitted.{Each, Permitted, IsLawful}
use Rattle.f3_meaning_laws.specs.Laws.{AreStages, along, IsNotOwn, IsNotAbove, IsNotBy}
use Rattle.f3_compile.specs.Compiles.{Means}

-- the program that accepted sources spell is lawful
abbrev pub AcceptedIsLawful : Type 0
AcceptedIsLawful = (sources : List Source) (p : Program) → Means sources p → IsLawful p

-- Every change that its runs make is permitted.
abbrev pub ChangesArePermitted : Type 0
ChangesArePermitted = (sources : List Source) (p : Program) → Means sources p
    → (n : ℕ) (answers : ℕ → Bool) → Each (Permitted p) (changes (run_of p n answers).out)

-- A protected variable holds in each stage what it held in the stage before, but for changes by statements of its module, or
-- through arguments that its module passed (ISO/IEC 1539-1:2004, 5.1.2.12).
abbrev pub ProtectedStays : Type 0
ProtectedStays = (sources : List Source) (p : Program) → Means sources p
    → (n : ℕ) (answers : ℕ → Bool) (first : Stage) (between : List Event) (second : Stage) → AreStages p n answers first between second
    → (i : ℕ) (y : x.Static) → slice_get p.statics.items i ≡ Some y → y.is_protected ≡ true
    → Each (IsNotOwn (Static i) y.home) (changes between)
    → get second.store (whole (Static i)) ≡ get first.store (whole (Static i))

-- A private component of a part of a variable holds in each stage what it held in the stage before, but for changes of the
-- whole object, and for changes of the component where its type's module has selected it, perhaps to pass it, or the
-- language to finalize or deallocate (4.5.1.1).
abbrev pub PrivateStays : Type 0
PrivateStays = (sources : List Source) (p : Program) → Means sources p
    → (n : ℕ) (answers : ℕ → Bool) (first : Stage) (between : List Event) (second : Stage) → AreStages p n answers first between second
    → (i : ℕ) (y : x.Static) → slice_get p.statics.items i ≡ Some y
    → (q : Path) → q.root ≡ Static i
    → (of : Base) (t : Derived) (k : ℕ) (c : Component) → along p.types.items y.declared.kind.of (components q.steps) ≡ of
    → derived_of p.types.items of ≡ Some t → slice_get t.components.items k ≡ Some c → c.is_private ≡ true
    → Each (IsNotAbove q) (changes between)
    → Each (λ (d : Change). Each (IsNotBy t.home of k) d.reference.makers) (changes between)
    → get second.store (within q (Step.Component k)) ≡ get first.store (within q (Step.Component k))
