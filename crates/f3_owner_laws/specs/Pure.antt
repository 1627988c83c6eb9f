-- What owners of modules rely on of functions and pure procedures, in each program that accepted sources spell.
use Rattle.std.specs.Prelude.{◌≡◌, ℕ, Bool, true, false, not, List, length, map, Some, slice_get}
use Rattle.f3_places.specs.declared.source.Source.{Source}
use Rattle.f3_tree.specs.Tree.{ProcedureTree, Tree}
use Rattle.f3_parse.specs.Spells.{Spells}
use Rattle.f3_program.specs.declared.expression.Designator.{Designator}
use Rattle.f3_program.specs.declared.expression.Expression.{Expression}
use Rattle.f3_program.specs.declared.program.Procedure.{Procedure}
use Rattle.f3_program.specs.declared.program.Program.{Program}
use Rattle.f3_meaning_whole.specs.Value.{Value}
use Rattle.f3_meaning_whole.specs.Store.{Root, Static, Path, same_root, get}
use Rattle.f3_meaning_whole.specs.Reference.{Reference}
use Rattle.f3_meaning_whole.specs.Ran.{World, Ran, Gives}
use Rattle.f3_meaning_whole.specs.Act.{Here, Passed}
use Rattle.f3_meaning_whole.specs.Eval.{value, locate}
use Rattle.f3_meaning_whole.specs.Run.{setting_of, calls_of}
use Rattle.f3_meaning_whole.specs.Permitted.{Each}
use Rattle.f3_meaning_laws.specs.Laws.{IsThere}
use Rattle.f3_pure_laws.specs.References.{is_function, Refers, RefersIn, StatementRefers}
use Rattle.f3_pure_laws.specs.Pure.{definable_in, IsGiven, IsPure}
use Rattle.f3_pure_laws.specs.Laws.{IsQuiet, NeverStops, AreNewFree, IsPassedFree, is_new}
use Rattle.f3_unbroken_laws.specs.Laws.{procedures_of, pure_in}
use Rattle.f3_compile.specs.Compiles.{Means}

-- ---- which procedures are pure

-- The sources spell a tree, and the procedure of this number in it, in order of place, is a function or has the prefix PURE. They spell no
-- other tree (f3_source_laws).
abbrev pub IsPureIn : List Source → (number : ℕ) → Type 0
IsPureIn sources f = (t : Tree) × Spells t sources × (pure_in t f ≡ true)

-- The program has its procedures in the same order: of the same number are those whose END stands at the same place.
abbrev pub ProceduresKeepTheirOrder : Type 0
ProceduresKeepTheirOrder = (sources : List Source) (p : Program) → Means sources p → (t : Tree) → Spells t sources
    → map (λ (q : Procedure). q.end) p.procedures.items ≡ map (λ (q : ProcedureTree). q.end) (procedures_of t)

-- The program that accepted sources spell is pure: its functions, and its procedures with the prefix PURE (ISO/IEC 1539-1:2004, 12.6).
abbrev pub AcceptedIsPure : Type 0
AcceptedIsPure = (sources : List Source) (p : Program) → Means sources p → (t : Tree) → Spells t sources → IsPure p (pure_in t)

-- Each of its functions is such a procedure, and none of its dummies may be defined.
abbrev pub FunctionsArePure : Type 0
FunctionsArePure = (sources : List Source) (p : Program) → Means sources p
    → (f : ℕ) (q : Procedure) → slice_get p.procedures.items f ≡ Some q → is_function (Some q) ≡ true
    → IsPureIn sources f × Each IsGiven q.dummies.items

-- ---- expressions

-- In the statements of the program each reference in an expression is one to a function of it (12.4.2): `Refers` holds of each expression
-- that stands there, and `RefersIn` of each designator.
abbrev pub ExpressionsRefer : Type 0
ExpressionsRefer = (sources : List Source) (p : Program) → Means sources p
    → StatementRefers p p.main.body × Each (λ (q : Procedure). StatementRefers p q.body) p.procedures.items

-- an expression is evaluated, where calls may go so deep, and loops may make n turns
abbrev pub evaluation : Program → (depth n : ℕ) → Expression → Here → Ran Value
evaluation p depth n e here = value (setting_of p) (calls_of depth (setting_of p) n) e here

-- a designator is located, with all its subscripts
abbrev pub location : Program → (depth n : ℕ) → Designator → Here → Ran Reference
location p depth n x here = locate (setting_of p) (calls_of depth (setting_of p) n) x here

-- how many levels of variables a store has: those that begin have this number and the ones above
abbrev pub levels_in : World → ℕ
levels_in w = length w.store.levels

-- The evaluation of an expression that gives a value leaves the store as it was, whatever functions it refers to.
abbrev pub FunctionsChangeNothing : Type 0
FunctionsChangeNothing = (sources : List Source) (p : Program) → Means sources p
    → (depth n : ℕ) (e : Expression) → Refers p e
    → (here : Here) (w after : World) (v : Value) → ((evaluation p depth n e here).from w).end ≡ Gives v after
    → after.store ≡ w.store

-- So does locating a designator.
abbrev pub PlacesChangeNothing : Type 0
PlacesChangeNothing = (sources : List Source) (p : Program) → Means sources p
    → (depth n : ℕ) (x : Designator) → RefersIn p x
    → (here : Here) (w after : World) (r : Reference) → ((location p depth n x here).from w).end ≡ Gives r after
    → after.store ≡ w.store

-- The evaluation of an expression prints nothing and does not stop, and what it changes, also where it fails, is on levels that began
-- within it.
abbrev pub FunctionsAreQuiet : Type 0
FunctionsAreQuiet = (sources : List Source) (p : Program) → Means sources p
    → (depth n : ℕ) (e : Expression) → Refers p e
    → (here : Here) (w : World)
    → Each (IsQuiet (levels_in w) (is_new (levels_in w))) ((evaluation p depth n e here).from w).out
    × NeverStops ((evaluation p depth n e here).from w).end

-- ---- calls

-- procedure number f is called with what is passed
abbrev pub call : Program → (depth n f : ℕ) → List Passed → Here → Ran Value
call p depth n f ps here = calls_of depth (setting_of p) n here f ps

-- A call of a pure procedure prints nothing, does not stop, and changes objects at free roots alone: whatever is free, if what begins
-- within it is, and what is passed to dummies that may be defined.
abbrev pub PureCallsAreQuiet : Type 0
PureCallsAreQuiet = (sources : List Source) (p : Program) → Means sources p
    → (depth n f : ℕ) → IsPureIn sources f
    → (ps : List Passed) (here : Here) (w : World) (free : Root → Bool) → AreNewFree (levels_in w) free
    → Each (IsPassedFree (definable_in p f) free) ps
    → Each (IsQuiet (levels_in w) free) ((call p depth n f ps here).from w).out
    × NeverStops ((call p depth n f ps here).from w).end

-- What stood before it, where it is not free, holds after it what it held, and there are as many levels.
abbrev pub PureCallsKeep : Type 0
PureCallsKeep = (sources : List Source) (p : Program) → Means sources p
    → (depth n f : ℕ) → IsPureIn sources f
    → (ps : List Passed) (here : Here) (w after : World) (v : Value) (free : Root → Bool) → AreNewFree (levels_in w) free
    → Each (IsPassedFree (definable_in p f) free) ps
    → ((call p depth n f ps here).from w).end ≡ Gives v after
    → (levels_in after ≡ levels_in w)
    × ((q : Path) → IsThere q.root w.store → free q.root ≡ false → get after.store q ≡ get w.store q)

abbrev pub is_other : Root → Root → Bool
is_other x r = not (same_root x r)

-- So a variable that lives for the whole run holds after it what it held, unless an object of it is passed to a dummy that may be defined.
abbrev pub PureCallsKeepVariables : Type 0
PureCallsKeepVariables = (sources : List Source) (p : Program) → Means sources p
    → (depth n f : ℕ) → IsPureIn sources f
    → (ps : List Passed) (here : Here) (w after : World) (v : Value)
    → (i : ℕ) → Each (IsPassedFree (definable_in p f) (is_other (Static i))) ps
    → ((call p depth n f ps here).from w).end ≡ Gives v after
    → (q : Path) → q.root ≡ Static i → get after.store q ≡ get w.store q
