-- Pure procedures: what they may change, call and destroy.
use Rattle.std.specs.Prelude.{⊤, ◌≡◌, ℕ, Bool, true, false, not, List, [], ◌∷◌, ◌++◌, map, Option, None, Some, slice_get, slice_index_or}
use Rattle.f3_program.specs.declared.declarations.Base.{Base}
use Rattle.f3_program.specs.declared.declarations.Declared.{Declared}
use Rattle.f3_program.specs.declared.declarations.Derived.{Derived}
use Rattle.f3_program.specs.declared.declarations.Final.{Final}
use Rattle.f3_program.specs.declared.expression.Argument as a
use Rattle.f3_program.specs.declared.expression.Designator as d
use Rattle.f3_program.specs.declared.expression.Expression as e
use Rattle.f3_program.specs.declared.expression.Name.{Name}
use Rattle.f3_program.specs.declared.expression.Name.TheVariants as n
use Rattle.f3_program.specs.declared.statement.Request.{Request}
use Rattle.f3_program.specs.declared.statement.Selector.{Selector}
use Rattle.f3_program.specs.declared.statement.Selector.TheVariants as selector
use Rattle.f3_program.specs.declared.statement.Statement as s
use Rattle.f3_program.specs.declared.program.Dummy.{Dummy}
use Rattle.f3_program.specs.declared.program.Intent.{Intent}
use Rattle.f3_program.specs.declared.program.Intent.TheVariants as intent
use Rattle.f3_program.specs.declared.program.Procedure.{Procedure}
use Rattle.f3_program.specs.declared.program.Program.{Program}
use Rattle.f3_meaning_whole.specs.Shape.{Shape, Whole, Logical, Record, Parts, nothing, and, shape_in, shapes_of}
use Rattle.f3_meaning_whole.specs.Permitted.{Each, is_in, dummies_in}
use Rattle.f3_pure_laws.specs.References.{is_function, StatementRefers}

-- ---- names

-- a dummy may be defined unless it is INTENT(IN) (ISO/IEC 1539-1:2004, 5.1.2.7)
abbrev pub definable : Dummy → Bool
definable d = not (is_in d.intent)

-- of each dummy of a procedure whether it may be defined
abbrev pub definable_in : Program → ℕ → List Bool
definable_in p f = map definable (dummies_in (slice_get p.procedures.items f))

-- the name with which a designator begins
abbrev pub first_name : d.Designator → Name
first_name (d.Name x how) = x
first_name (d.Component' q x k how) = first_name x

-- A pure procedure may change its own variables, and dummies and associate names that may be defined (12.6, own rule D5).
abbrev pub is_own : List Bool → Name → Bool
is_own names (n.Static i) = false
is_own names (n.Local i) = true
is_own names (n.Lent i) = slice_index_or names i false

abbrev pub Owns : List Bool → d.Designator → Type 0
Owns names x = is_own names (first_name x) ≡ true

-- an associate name may be defined where its selector is a variable that may be (8.1.4.3)
abbrev pub own_selectors : List Bool → List Selector → List Bool
own_selectors names [] = []
own_selectors names (selector.Variable x ∷ xs) = is_own names (first_name x) ∷ own_selectors names xs
own_selectors names (selector.Value k x ∷ xs) = false ∷ own_selectors names xs

abbrev pub OwnsStat : List Bool → Option d.Designator → Type 0
OwnsStat names None = ⊤
OwnsStat names (Some x) = Owns names x

-- ---- destroying

abbrev pub finals_of : Option Derived → List Final
finals_of None = []
finals_of (Some t) = t.finals.items

module _ (p : Program) (pure : ℕ → Bool) where
  -- the final subroutines of a type and of all that it has as components are pure (4.5.5)
  abbrev mutual
    pub HasPureFinals : Shape → Type 0
    HasPureFinals Whole = ⊤
    HasPureFinals Logical = ⊤
    HasPureFinals (Record t parts) = Each (λ (f : Final). pure f.procedure ≡ true) (finals_of (slice_get p.types.items t)) × HavePureFinals parts

    pub HavePureFinals : Parts → Type 0
    HavePureFinals nothing = ⊤
    HavePureFinals (and c s rest) = HasPureFinals s × HavePureFinals rest

  -- an object of this type may be destroyed
  abbrev pub MayEnd : Base → Type 0
  MayEnd of = HasPureFinals (shape_in (shapes_of p.types.items) of)

  -- ---- statements

  -- what is passed to a dummy that may be defined may be changed here
  abbrev pub OwnsPassed : List Bool → List Bool → a.Argument → Type 0
  OwnsPassed names ds (a.Value' k q x) = ⊤
  OwnsPassed names ds (a.Variable' k q x) = slice_index_or ds k false ≡ true → Owns names x

  abbrev pub OwnsAllPassed : {m : _} → List Bool → List Bool → e.Row_of-Argument m → Type 0
  OwnsAllPassed names ds e.end_of-Argument = ⊤
  OwnsAllPassed names ds (e.more_of-Argument x rest) = OwnsPassed names ds x × OwnsAllPassed names ds rest

  abbrev pub CallsPure : List Bool → e.Expression → Type 0
  CallsPure names (e.Call' f k xs) = (pure f ≡ true) × OwnsAllPassed names (definable_in p f) xs
  CallsPure names x = ⊤

  abbrev pub OwnsRequest : List Bool → Request → Type 0
  OwnsRequest names r = Owns names r.object

  abbrev pub EndsRequest : List Bool → Request → Type 0
  EndsRequest names r = Owns names r.object × MayEnd r.kind.of

  -- A statement that changes what its procedure owns alone, calls pure procedures alone, and neither prints nor stops.
  abbrev mutual
    pub IsPureStatement : s.Statement → List Bool → Type 0
    IsPureStatement (s.At' place b q x) names = IsPureStatement x names
    IsPureStatement (s.Block' k xs) names = IsPureBlock xs names
    IsPureStatement (s.Assign x k y) names = Owns names x × MayEnd k.of
    IsPureStatement (s.Call x) names = CallsPure names x
    IsPureStatement (s.MoveAlloc k b x y) names = Owns names x × Owns names y × MayEnd k.of
    IsPureStatement (s.Allocate rs stat) names = Each (OwnsRequest names) rs.items × OwnsStat names stat
    IsPureStatement (s.Deallocate rs stat) names = Each (EndsRequest names) rs.items × OwnsStat names stat
    IsPureStatement (s.Print xs) names = ⊥
    IsPureStatement (s.Stop code) names = ⊥
    IsPureStatement s.Return names = ⊤
    IsPureStatement s.Cycle names = ⊤
    IsPureStatement s.Exit names = ⊤
    IsPureStatement (s.If' x q y r z) names = IsPureStatement y names × IsPureStatement z names
    IsPureStatement (s.Select' x q y) names = IsPureStatement y names
    IsPureStatement (s.Case' rs q x r y) names = IsPureStatement x names × IsPureStatement y names
    IsPureStatement (s.While' x q y) names = IsPureStatement y names
    IsPureStatement (s.Count' x k from to step q y) names = Owns names x × IsPureStatement y names
    IsPureStatement (s.Associate' xs q y) names = IsPureStatement y (names ++ own_selectors names xs.items)

    pub IsPureBlock : {m : _} → s.Row_of-Statement m → List Bool → Type 0
    IsPureBlock s.end_of-Statement names = ⊤
    IsPureBlock (s.more_of-Statement x rest) names = IsPureStatement x names × IsPureBlock rest names

  -- ---- procedures

  -- what an INTENT(OUT) dummy held is destroyed (12.4.1.7)
  abbrev pub MayEndOut : Dummy → Intent → Type 0
  MayEndOut d intent.In = ⊤
  MayEndOut d intent.Out = MayEnd d.kind.of
  MayEndOut d intent.InOut = ⊤

  abbrev pub IsPureProcedure : Procedure → Type 0
  IsPureProcedure q = IsPureStatement q.body (map definable q.dummies.items) × Each (λ (d : Dummy). MayEndOut d d.intent) q.dummies.items
      × Each (λ (d : Declared). MayEnd d.kind.of) q.locals.items

-- a dummy that may not be defined
abbrev pub IsGiven : Dummy → Type 0
IsGiven d = is_in d.intent ≡ true

-- A program whose expressions refer to functions alone, in which each function is pure and defines no dummy, and the procedures of
-- these numbers do what pure ones may (12.6).
pub record IsPure (p : Program) (pure : ℕ → Bool) : Type 0 where
  pub main : StatementRefers p p.main.body
  pub bodies : Each (λ (q : Procedure). StatementRefers p q.body) p.procedures.items
  pub functions : (f : ℕ) (q : Procedure) → slice_get p.procedures.items f ≡ Some q → is_function (Some q) ≡ true
      → (pure f ≡ true) × Each IsGiven q.dummies.items
  pub procedures : (f : ℕ) (q : Procedure) → slice_get p.procedures.items f ≡ Some q → pure f ≡ true → IsPureProcedure p pure q
