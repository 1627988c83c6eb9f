-- What a call of a pure procedure does, and what the evaluation of an expression does not.
use Rattle.std.specs.Prelude.{⊤, ◌≡◌, ◌≤◌, ℕ, Bool, true, false, nat_le, List, length, slice_index_or}
use Rattle.f3_program.specs.declared.expression.Designator.{Designator}
use Rattle.f3_program.specs.declared.expression.Expression.{Expression}
use Rattle.f3_program.specs.declared.program.Program.{Program}
use Rattle.f3_meaning_whole.specs.Value.{Value}
use Rattle.f3_meaning_whole.specs.Store.{Root, Static, Local, Path, get}
use Rattle.f3_meaning_whole.specs.Reference.{Reference, paths}
use Rattle.f3_meaning_whole.specs.Ran.{Event, Printed, Changed, Began, Entered, Ended, Asked, World, End, Gives, Fails, Stops, Beyond}
use Rattle.f3_meaning_whole.specs.Act.{Here, Passed, Given, Lent}
use Rattle.f3_meaning_whole.specs.Eval.{value, locate}
use Rattle.f3_meaning_whole.specs.Permitted.{Each}
use Rattle.f3_meaning_laws.specs.Laws.{IsThere}
use Rattle.f3_meaning_whole.specs.Run.{setting_of, calls_of}
use Rattle.f3_pure_laws.specs.References.{Refers, RefersIn}
use Rattle.f3_pure_laws.specs.Pure.{definable_in, IsPure}

-- a path begins at a free root
abbrev pub IsFree : (Root → Bool) → Path → Type 0
IsFree free q = free q.root ≡ true

-- An event prints nothing, changes objects at free roots alone, and ends no level below this number.
abbrev pub IsQuiet : ℕ → (Root → Bool) → Event → Type 0
IsQuiet level free (Printed byte) = ⊥
IsQuiet level free (Changed c vs) = Each (IsFree free) (paths c.reference)
IsQuiet level free (Began stage) = ⊤
IsQuiet level free (Entered vs) = ⊤
IsQuiet level free (Ended l) = level ≤ l
IsQuiet level free (Asked refused) = ⊤

abbrev pub NeverStops : {A : Type 0} → End A → Type 0
NeverStops (Gives x w) = ⊤
NeverStops (Fails error place) = ⊤
NeverStops (Stops code) = ⊥
NeverStops Beyond = ⊤

-- roots on the levels from a number on are free
abbrev pub AreNewFree : ℕ → (Root → Bool) → Type 0
AreNewFree level free = (l i : ℕ) → level ≤ l → free (Local l i) ≡ true

-- an object that is passed to a dummy that may be defined is at free roots
abbrev pub IsPassedFree : List Bool → (Root → Bool) → Passed → Type 0
IsPassedFree ds free (Given k v) = ⊤
IsPassedFree ds free (Lent k r) = slice_index_or ds k false ≡ true → (free r.path.root ≡ true) × Each (IsFree free) (paths r)

-- The evaluation of an expression leaves the store as it was, whatever functions it refers to (ISO/IEC 1539-1:2004, 12.6).
abbrev pub FunctionsChangeNothing : Type 0
FunctionsChangeNothing = (p : Program) (pure : ℕ → Bool) → IsPure p pure → (depth n : ℕ) (e : Expression) → Refers p e
    → (here : Here) (w after : World) (v : Value) → ((value (setting_of p) (calls_of depth (setting_of p) n) e here).from w).end ≡ Gives v after
    → after.store ≡ w.store

-- So does locating a designator, with all its subscripts.
abbrev pub PlacesChangeNothing : Type 0
PlacesChangeNothing = (p : Program) (pure : ℕ → Bool) → IsPure p pure → (depth n : ℕ) (x : Designator) → RefersIn p x
    → (here : Here) (w after : World) (r : Reference) → ((locate (setting_of p) (calls_of depth (setting_of p) n) x here).from w).end ≡ Gives r after
    → after.store ≡ w.store

-- the levels that a store has are not free
abbrev pub is_new : ℕ → Root → Bool
is_new level (Static i) = false
is_new level (Local l i) = nat_le level l

-- The evaluation of an expression prints nothing, does not stop, and all that it changes, also where it fails, is on levels that began within it.
abbrev pub FunctionsAreQuiet : Type 0
FunctionsAreQuiet = (p : Program) (pure : ℕ → Bool) → IsPure p pure → (depth n : ℕ) (e : Expression) → Refers p e
    → (here : Here) (w : World)
    → Each (IsQuiet (length w.store.levels) (is_new (length w.store.levels))) ((value (setting_of p) (calls_of depth (setting_of p) n) e here).from w).out
    × NeverStops ((value (setting_of p) (calls_of depth (setting_of p) n) e here).from w).end

-- A call of a pure procedure prints nothing, does not stop, and changes objects at free roots alone: whatever is free, if what begins
-- within it is, and what is passed to dummies that may be defined.
abbrev pub PureCallsAreQuiet : Type 0
PureCallsAreQuiet = (p : Program) (pure : ℕ → Bool) → IsPure p pure → (depth n f : ℕ) → pure f ≡ true
    → (ps : List Passed) (here : Here) (w : World) (free : Root → Bool) → AreNewFree (length w.store.levels) free
    → Each (IsPassedFree (definable_in p f) free) ps
    → Each (IsQuiet (length w.store.levels) free) ((calls_of depth (setting_of p) n here f ps).from w).out
    × NeverStops ((calls_of depth (setting_of p) n here f ps).from w).end

-- So what stood before it, where it is not free, holds after it what it held, and there are as many levels.
abbrev pub PureCallsKeep : Type 0
PureCallsKeep = (p : Program) (pure : ℕ → Bool) → IsPure p pure → (depth n f : ℕ) → pure f ≡ true
    → (ps : List Passed) (here : Here) (w after : World) (v : Value) (free : Root → Bool) → AreNewFree (length w.store.levels) free
    → Each (IsPassedFree (definable_in p f) free) ps
    → ((calls_of depth (setting_of p) n here f ps).from w).end ≡ Gives v after
    → (length after.store.levels ≡ length w.store.levels)
    × ((q : Path) → IsThere q.root w.store → free q.root ≡ false → get after.store q ≡ get w.store q)
