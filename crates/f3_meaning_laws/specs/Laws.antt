-- Laws of the meaning.
use Rattle.std.specs.Prelude.{⊤, ℕ, Bool, false, ◌≡◌, ◌≤◌, true, ◌<◌, length, List, [], ◌∷◌, ◌++◌, Some, slice_get}
use Rattle.f3_program.specs.declared.declarations.Base.{Base}
use Rattle.f3_program.specs.declared.declarations.Component.{Component}
use Rattle.f3_program.specs.declared.declarations.Derived.{Derived}
use Rattle.f3_program.specs.declared.program.Static as x
use Rattle.f3_program.specs.declared.program.Program.{Program}
use Rattle.f3_meaning_whole.specs.Store.{Root, Static, Local, Store, Step, Path, within, components, get, goes_through}
use Rattle.f3_meaning_whole.specs.Reference.{Made, paths}
use Rattle.f3_meaning_whole.specs.Ran.{Event, Printed, Changed, Began, Entered, Ended, Asked, Change, Stage, effect, World, End, Gives}
use Rattle.f3_meaning_whole.specs.Ran.{Fails, Stops, Beyond, Outcome, Ran}
use Rattle.f3_meaning_whole.specs.Act.{whole, derived_of, component_type}
use Rattle.f3_meaning_whole.specs.Run.{setting_of, first_store, run_of, changes}
use Rattle.f3_meaning_whole.specs.Permitted.{Each, IsMaker, Permitted, IsLawful}

abbrev pub GrowsAs : {A : Type 0} → List Event → List Event → End A → End A → Type 0
GrowsAs out more (Gives x w) end = (more ≡ out) × (end ≡ Gives x w)
GrowsAs out more (Fails error place) end = (more ≡ out) × (end ≡ Fails error place)
GrowsAs out more (Stops code) end = (more ≡ out) × (end ≡ Stops code)
GrowsAs out more Beyond end = (rest : List Event) × (more ≡ out ++ rest)

-- the second outcome is the first where that has ended, and else has the same events and perhaps more
pub record Extends {A : Type 0} (r s : Outcome A) : Type 0 where
  pub as_said : GrowsAs r.out s.out r.end s.end

-- so from every world
pub record Grows {A : Type 0} (r s : Ran A) : Type 0 where
  pub always : (w : World) → Extends (r.from w) (s.from w)

-- With more turns a run that has ended is the same, and another has the same events and perhaps more.
abbrev pub RunsGrow : Type 0
RunsGrow = (p : Program) (answers : ℕ → Bool) (n m : ℕ) → n ≤ m → Extends (run_of p n answers) (run_of p m answers)

-- Every change is permitted, whatever the bound on turns and whatever the heap answers.
abbrev pub ChangesArePermitted : Type 0
ChangesArePermitted = (p : Program) → IsLawful p → (n : ℕ) (answers : ℕ → Bool) → Each (Permitted p) (changes (run_of p n answers).out)

-- a stage has the store that is there
abbrev pub IsStage : Store → Event → Type 0
IsStage store (Printed byte) = ⊤
IsStage store (Changed c vs) = ⊤
IsStage store (Began stage) = stage.store ≡ store
IsStage store (Entered vs) = ⊤
IsStage store (Ended level) = ⊤
IsStage store (Asked refused) = ⊤

-- from a store on, each stage of these events has the store that the events before it have made
abbrev pub Stands : Store → List Event → Type 0
Stands store [] = ⊤
Stands store (e ∷ es) = IsStage store e × Stands (effect e store) es

-- Each stage is the store that the run has there: the first one with the effects of all that has happened.
abbrev pub StagesStand : Type 0
StagesStand = (p : Program) → IsLawful p → (n : ℕ) (answers : ℕ → Bool) → Stands (first_store (setting_of p)) (run_of p n answers).out

-- ---- what stays

-- neither path goes through the other's object, or ends there
abbrev pub Apart : Path → Path → Type 0
Apart p q = (goes_through p q ≡ false) × (goes_through q p ≡ false)

-- a root is not on this level, nor on one behind it
abbrev pub Outlives : Root → ℕ → Type 0
Outlives (Static i) level = ⊤
Outlives (Local l i) level = l < level

-- an event does nothing to what stands at a path: it is no change of an object there, beneath or above, and does not end it
abbrev pub Spares : Path → Event → Type 0
Spares q (Printed byte) = ⊤
Spares q (Changed c vs) = Each (Apart q) (paths c.reference)
Spares q (Began stage) = ⊤
Spares q (Entered vs) = ⊤
Spares q (Ended level) = Outlives q.root level
Spares q (Asked refused) = ⊤

-- there is such a root
abbrev pub IsThere : Root → Store → Type 0
IsThere (Static i) store = ⊤
IsThere (Local l i) store = l < length store.levels

-- of the stages of a run these are two, with these events between
abbrev pub AreStages : Program → ℕ → (ℕ → Bool) → Stage → List Event → Stage → Type 0
AreStages p n answers first between second = (before : List Event) × (behind : List Event)
    × ((run_of p n answers).out ≡ before ++ (Began first ∷ (between ++ (Began second ∷ behind))))

-- Of any two stages of a run the stores agree, but at, beneath and above the paths of the changes between, and at roots that
-- began or ended.
abbrev pub StoresAgree : Type 0
StoresAgree = (p : Program) → IsLawful p → (n : ℕ) (answers : ℕ → Bool) (first : Stage) (between : List Event) (second : Stage)
    → AreStages p n answers first between second
    → (q : Path) → IsThere q.root first.store → Each (Spares q) between → get second.store q ≡ get first.store q

-- ---- what owners of modules rely on

-- the type to which components lead from an object of a type
abbrev pub along : List Derived → Base → List ℕ → Base
along types of [] = of
along types of (k ∷ ks) = along types (component_type types of k) ks

-- a change is not one of this variable through a reference that this module's statement made, to change it or to pass it
abbrev pub IsNotOwn : Root → ℕ → Change → Type 0
IsNotOwn root home c = c.reference.path.root ≡ root → c.reference.origin ≡ home → ⊥

-- A protected variable holds in each stage what it held in the stage before, but for changes by statements of its module, or
-- through arguments that its module passed (ISO/IEC 1539-1:2004, 5.1.2.12).
abbrev pub ProtectedStays : Type 0
ProtectedStays = (p : Program) → IsLawful p → (n : ℕ) (answers : ℕ → Bool) (first : Stage) (between : List Event) (second : Stage)
    → AreStages p n answers first between second
    → (i : ℕ) (y : x.Static) → slice_get p.statics.items i ≡ Some y → y.is_protected ≡ true
    → Each (IsNotOwn (Static i) y.home) (changes between)
    → get second.store (whole (Static i)) ≡ get first.store (whole (Static i))

-- a change is not one of an object, nor of one that the object is part of
abbrev pub IsNotAbove : Path → Change → Type 0
IsNotAbove q c = Each (λ (r : Path). goes_through q r ≡ false) (paths c.reference)

-- a component of this number of this type was not selected by those who may select a private one
abbrev pub IsNotBy : ℕ → Base → ℕ → Made → Type 0
IsNotBy home of k m = m.of ≡ of → m.component ≡ k → IsMaker home m.maker → ⊥

-- A private component of a part of a variable holds in each stage what it held in the stage before, but for changes of the
-- whole object, and for changes of the component where its type's module has selected it, perhaps to pass it, or the
-- language to finalize or deallocate (4.5.1.1).
abbrev pub PrivateStays : Type 0
PrivateStays = (p : Program) → IsLawful p → (n : ℕ) (answers : ℕ → Bool) (first : Stage) (between : List Event) (second : Stage)
    → AreStages p n answers first between second
    → (i : ℕ) (y : x.Static) → slice_get p.statics.items i ≡ Some y
    → (q : Path) → q.root ≡ Static i
    → (of : Base) (t : Derived) (k : ℕ) (c : Component) → along p.types.items y.declared.kind.of (components q.steps) ≡ of
    → derived_of p.types.items of ≡ Some t → slice_get t.components.items k ≡ Some c → c.is_private ≡ true
    → Each (IsNotAbove q) (changes between)
    → Each (λ (d : Change). Each (IsNotBy t.home of k) d.reference.makers) (changes between)
    → get second.store (within q (Step.Component k)) ≡ get first.store (within q (Step.Component k))
