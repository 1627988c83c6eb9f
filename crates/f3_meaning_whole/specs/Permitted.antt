-- Which changes are permitted, and which programs make no others.
use Rattle.std.specs.Prelude.{map, ⊤, ◌≡◌, ℕ, suc, Bool, true, false, not, ◌||◌, if◌then◌else◌, nat_eq, List, [], ◌∷◌, ◌++◌, Option, None}
use Rattle.std.specs.Prelude.{Some, slice_get, slice_index_or}
use Rattle.f3_program.specs.declared.declarations.Base.{Base}
use Rattle.f3_program.specs.declared.declarations.Base.TheVariants as base
use Rattle.f3_program.specs.declared.declarations.Component.{Component}
use Rattle.f3_program.specs.declared.declarations.Declared.{Declared}
use Rattle.f3_program.specs.declared.declarations.Derived.{Derived}
use Rattle.f3_program.specs.declared.declarations.Final.{Final}
use Rattle.f3_program.specs.declared.declarations.Kind.{Kind}
use Rattle.f3_program.specs.declared.expression.Argument as a
use Rattle.f3_program.specs.declared.expression.Designator as d
use Rattle.f3_program.specs.declared.expression.Expression as e
use Rattle.f3_program.specs.declared.expression.Name.{Name}
use Rattle.f3_program.specs.declared.expression.Name.TheVariants as n
use Rattle.f3_program.specs.declared.expression.Selection as l
use Rattle.f3_program.specs.declared.expression.Subscript as u
use Rattle.f3_program.specs.declared.statement.Bounds.{Bounds}
use Rattle.f3_program.specs.declared.statement.Item.{Item}
use Rattle.f3_program.specs.declared.statement.Item.TheVariants as item
use Rattle.f3_program.specs.declared.statement.Request.{Request}
use Rattle.f3_program.specs.declared.statement.Selector.{Selector}
use Rattle.f3_program.specs.declared.statement.Selector.TheVariants as selector
use Rattle.f3_program.specs.declared.statement.Statement as s
use Rattle.f3_program.specs.declared.program.Static as x
use Rattle.f3_program.specs.declared.program.Dummy.{Dummy}
use Rattle.f3_program.specs.declared.program.Intent.{Intent}
use Rattle.f3_program.specs.declared.program.Intent.TheVariants as intent
use Rattle.f3_program.specs.declared.program.Procedure.{Procedure}
use Rattle.f3_program.specs.declared.program.Program.{Program}
use Rattle.f3_meaning_whole.specs.Store.{Root, Static, Path, components}
use Rattle.f3_meaning_whole.specs.Reference.{Right, Define, Read, Maker, Selected, Language, Made, paths}
use Rattle.f3_meaning_whole.specs.Ran.{Change}
use Rattle.f3_meaning_whole.specs.Act.{right_to, type_of, static_type, derived_of, component_type}
use Rattle.f3_meaning_whole.specs.Exec.{declared_in}

-- P holds of each
abbrev pub Each : {A : Type 0} → (A → Type 0) → List A → Type 0
Each P [] = ⊤
Each P (x ∷ xs) = P x × Each P xs

-- ---- changes

-- Where the root is a protected variable, its own unit's statement has named it (ISO/IEC 1539-1:2004, 5.1.2.12).
abbrev pub FromHome : Program → Root → ℕ → Type 0
FromHome p root origin = (i : ℕ) (y : x.Static) → root ≡ Static i → slice_get p.statics.items i ≡ Some y → y.is_protected ≡ true → origin ≡ y.home

-- the language may select any component, a unit those of a type of this home
abbrev pub IsMaker : ℕ → Maker → Type 0
IsMaker home (Selected unit) = unit ≡ home
IsMaker home Language = ⊤

-- a private component is selected by its type's module or the language (4.5.1.1)
abbrev pub IsMadeWell : Program → Made → Type 0
IsMadeWell p m = (t : Derived) (c : Component) → derived_of p.types.items m.of ≡ Some t → slice_get t.components.items m.component ≡ Some c
    → c.is_private ≡ true → IsMaker t.home m.maker

-- the type with which a variable that lives for the whole run is declared
abbrev pub IsDeclared : Program → Root → Base → Type 0
IsDeclared p root of = (i : ℕ) (y : x.Static) → root ≡ Static i → slice_get p.statics.items i ≡ Some y → of ≡ y.declared.kind.of

-- from an object of a type on, each component is one of the type that the declaration of the component before tells
abbrev pub IsTyped : List Derived → Base → List Made → Type 0
IsTyped types of [] = ⊤
IsTyped types of (m ∷ ms) = (m.of ≡ of) × IsTyped types (component_type types of m.component) ms

abbrev pub numbers : List Made → List ℕ
numbers ms = map (λ (m : Made). m.component) ms

-- a part of a root, to which components with these numbers lead
abbrev pub IsAt : Root → List ℕ → Path → Type 0
IsAt root ks q = (q.root ≡ root) × (components q.steps ≡ ks)

-- A change is made by the right to define, at parts of the root to which the components lead whose makers are told; it
-- comes from the home of the root, and each private component has a maker that may select it. The types are those of the
-- declarations, from the root's on.
pub record Permitted (p : Program) (c : Change) : Type 0 where
  pub by_right : c.reference.right ≡ Define
  pub from_home : FromHome p c.reference.path.root c.reference.origin
  pub by_makers : Each (IsMadeWell p) c.reference.makers
  pub root_type : Base
  pub by_root : IsDeclared p c.reference.path.root root_type
  pub by_types : IsTyped p.types.items root_type c.reference.makers
  pub by_steps : Each (IsAt c.reference.path.root (numbers c.reference.makers)) (paths c.reference)

-- ---- programs that define only what they may

abbrev pub is_define : Right → Bool
is_define Define = true
is_define Read = false

abbrev pub is_in : Intent → Bool
is_in intent.In = true
is_in intent.Out = false
is_in intent.InOut = false

abbrev pub same_type : Base → Base → Bool
same_type base.Integer base.Integer = true
same_type base.Long base.Long = true
same_type base.Logical base.Logical = true
same_type (base.Derived t) (base.Derived u) = nat_eq t u
same_type t u = false

-- what is known of a dummy or an associate name: whether it may be defined, and its type
pub record Lendable : Type 0 where
  pub may_define : Bool
  pub of : Base

-- where a statement stands: its unit, what is declared of the variables there, its dummies and associate names
pub record Scope : Type 0 where
  pub unit : ℕ
  pub variables : List Declared
  pub names : List Lendable

-- a dummy may be defined unless it is INTENT(IN) (5.1.2.7)
abbrev pub lendable : Dummy → Lendable
lendable d = record { may_define = not (is_in d.intent); of = d.kind.of }

-- no name of a checked program
abbrev pub unknown : Lendable
unknown = record { may_define = false; of = base.Integer }

abbrev pub dummies_in : Option Procedure → List Dummy
dummies_in None = []
dummies_in (Some q) = q.dummies.items

abbrev pub names_of : List Dummy → List Lendable
names_of ds = map lendable ds

-- what is known of the dummies of a procedure
abbrev pub names_in : Program → ℕ → List Lendable
names_in p f = names_of (dummies_in (slice_get p.procedures.items f))

module _ (p : Program) (scope : Scope) where
  abbrev pub name_of : Name → Lendable
  name_of (n.Static i) = record { may_define = is_define (right_to scope.unit (slice_get p.statics.items i)); of = static_type (slice_get p.statics.items i) }
  name_of (n.Local i) = record { may_define = true; of = type_of (slice_get scope.variables i) }
  name_of (n.Lent i) = slice_index_or scope.names i unknown

  -- a designator is definable where its first name is; its type is that of its last component
  abbrev pub designated : d.Designator → Lendable
  designated (d.Name x how) = name_of x
  designated (d.Component' q x k how) = record { may_define = (designated x).may_define; of = component_type p.types.items (designated x).of k }

abbrev pub selectable_of : ℕ → ℕ → Option Component → Bool
selectable_of unit home None = true
selectable_of unit home (Some c) = if c.is_private then nat_eq unit home else true

abbrev pub selectable_in : ℕ → Option Derived → ℕ → Bool
selectable_in unit None k = true
selectable_in unit (Some y) k = selectable_of unit y.home (slice_get y.components.items k)

-- whether a unit may select a component of an object of a type: a private one only where it defines the type (4.5.1.1)
abbrev pub selectable : Program → ℕ → Base → ℕ → Bool
selectable p unit of k = selectable_in unit (derived_of p.types.items of) k

module _ (p : Program) (scope : Scope) where
  -- A value is given for an INTENT(IN) dummy alone, and a definable variable for any other; a variable is of the dummy's type
  -- (12.4.1.2).
  abbrev pub MayPass : List Lendable → a.Argument → Type 0
  MayPass ds (a.Value' k q x) = (slice_index_or ds k unknown).may_define ≡ false
  MayPass ds (a.Variable' k q x) = ((not (slice_index_or ds k unknown).may_define || (designated p scope x).may_define) ≡ true)
      × (same_type (designated p scope x).of (slice_index_or ds k unknown).of ≡ true)

  abbrev pub MayPassAll : {m : _} → List Lendable → e.Row_of-Argument m → Type 0
  MayPassAll ds e.end_of-Argument = ⊤
  MayPassAll ds (e.more_of-Argument x rest) = MayPass ds x × MayPassAll ds rest

  abbrev mutual
    pub MayValue : e.Expression → Type 0
    MayValue (e.Literal c) = ⊤
    MayValue (e.Variable' q x) = MayLocate x
    MayValue (e.Group' q x) = MayValue x
    MayValue (e.Unary' o t q x) = MayValue x
    MayValue (e.Binary' o t q x r y) = MayValue x × MayValue y
    MayValue (e.Array' k xs) = MayArguments xs
    MayValue (e.Structure' t k xs) = MayArguments xs
    MayValue (e.Call' f k xs) = MayArguments xs × MayPassAll (names_in p f) xs
    MayValue (e.Allocated' q x) = MayLocate x
    MayValue (e.Size' q x) = MayArgument x
    MayValue (e.Bound' o q x r y) = MayArgument x × MayValue y

    pub MayArgument : a.Argument → Type 0
    MayArgument (a.Value' k q x) = MayValue x
    MayArgument (a.Variable' k q x) = MayLocate x

    pub MayArguments : {m : _} → e.Row_of-Argument m → Type 0
    MayArguments e.end_of-Argument = ⊤
    MayArguments (e.more_of-Argument x rest) = MayArgument x × MayArguments rest

    pub MayLocate : d.Designator → Type 0
    MayLocate (d.Name x how) = MayTake how
    MayLocate (d.Component' q x k how) = MayLocate x × (selectable p scope.unit (designated p scope x).of k ≡ true) × MayTake how

    pub MayTake : l.Selection → Type 0
    MayTake l.Whole = ⊤
    MayTake l.Contents = ⊤
    MayTake (l.Elements' o k xs) = MaySubscripts xs

    pub MaySubscripts : {m : _} → l.Row_of-Subscript m → Type 0
    MaySubscripts l.end_of-Subscript = ⊤
    MaySubscripts (l.more_of-Subscript x rest) = MaySubscript x × MaySubscripts rest

    pub MaySubscript : u.Subscript → Type 0
    MaySubscript (u.At' q x) = MayValue x
    MaySubscript (u.Range' b q x c r y s z) = MayValue x × MayValue y × MayValue z

  -- a variable in a definition context (16.5.7)
  abbrev pub MayDefine : d.Designator → Type 0
  MayDefine x = MayLocate x × ((designated p scope x).may_define ≡ true)

  -- so, and it is of this type
  abbrev pub MayDefineAs : Kind → d.Designator → Type 0
  MayDefineAs k x = MayDefine x × (same_type (designated p scope x).of k.of ≡ true)

  abbrev pub MayStat : Option d.Designator → Type 0
  MayStat None = ⊤
  MayStat (Some x) = MayDefine x

  abbrev pub MayBound : Bounds → Type 0
  MayBound b = MayValue b.lower × MayValue b.upper

  abbrev pub MayRequest : Request → Type 0
  MayRequest r = MayDefineAs r.kind r.object × Each MayBound r.bounds.items

  abbrev pub MayItem : Item → Type 0
  MayItem (item.Value x) = MayValue x
  MayItem (item.Text t) = ⊤

  abbrev pub MayBe : Selector → Type 0
  MayBe (selector.Variable x) = MayLocate x
  MayBe (selector.Value k x) = MayValue x

  -- an associate name may be defined where its selector is a definable variable (8.1.4.3, 16.5.7)
  abbrev pub names_by : List Selector → List Lendable
  names_by [] = []
  names_by (selector.Variable x ∷ xs) = designated p scope x ∷ names_by xs
  names_by (selector.Value k x ∷ xs) = record { may_define = false; of = k.of } ∷ names_by xs

-- the same place with more associate names
abbrev pub naming : List Lendable → Scope → Scope
naming names scope = record { unit = scope.unit; variables = scope.variables; names = scope.names ++ names }

-- statements whose definition contexts have definable variables alone
module _ (p : Program) where
  abbrev mutual
    pub MayExec : s.Statement → Scope → Type 0
    MayExec (s.At' place b q x) scope = MayExec x scope
    MayExec (s.Block' k xs) scope = MayBlock xs scope
    MayExec (s.Assign x k y) scope = MayDefineAs p scope k x × MayValue p scope y
    MayExec (s.Call x) scope = MayValue p scope x
    MayExec (s.MoveAlloc k b x y) scope = MayDefineAs p scope k x × MayDefineAs p scope k y
    MayExec (s.Allocate rs stat) scope = Each (MayRequest p scope) rs.items × MayStat p scope stat
    MayExec (s.Deallocate rs stat) scope = Each (MayRequest p scope) rs.items × MayStat p scope stat
    MayExec (s.Print xs) scope = Each (MayItem p scope) xs.items
    MayExec (s.Stop code) scope = ⊤
    MayExec s.Return scope = ⊤
    MayExec s.Cycle scope = ⊤
    MayExec s.Exit scope = ⊤
    MayExec (s.If' x q y r z) scope = MayValue p scope x × MayExec y scope × MayExec z scope
    MayExec (s.Select' x q y) scope = MayValue p scope x × MayExec y scope
    MayExec (s.Case' rs q x r y) scope = MayExec x scope × MayExec y scope
    MayExec (s.While' x q y) scope = MayValue p scope x × MayExec y scope
    MayExec (s.Count' x k from to step q y) scope = MayDefine p scope x × MayValue p scope from × MayValue p scope to × MayValue p scope step × MayExec y scope
    MayExec (s.Associate' xs q y) scope = Each (MayBe p scope) xs.items × MayExec y (naming (names_by p scope xs.items) scope)

    pub MayBlock : {m : _} → s.Row_of-Statement m → Scope → Type 0
    MayBlock s.end_of-Statement scope = ⊤
    MayBlock (s.more_of-Statement x rest) scope = MayExec x scope × MayBlock rest scope

-- where the statements of a procedure stand
abbrev pub scope_of : Procedure → Scope
scope_of q = record { unit = q.unit; variables = declared_in q; names = names_of q.dummies.items }

abbrev pub MayRun : Program → Procedure → Type 0
MayRun p q = MayExec p q.body (scope_of q)

-- a final subroutine of a type has a dummy of the type (4.5.5)
abbrev pub IsFinalOf : Program → ℕ → Final → Type 0
IsFinalOf p t f = same_type (base.Derived t) (slice_index_or (names_in p f.procedure) 0 unknown).of ≡ true

-- so of types from a number on
abbrev pub HaveFinals : Program → ℕ → List Derived → Type 0
HaveFinals p t [] = ⊤
HaveFinals p t (y ∷ ys) = Each (IsFinalOf p t) y.finals.items × HaveFinals p (suc t) ys

-- A program in which private components are selected by their types' modules alone, each definition context has a variable
-- that may be defined there, and types agree where objects are passed, changed or finalized. What a checker establishes.
pub record IsLawful (p : Program) : Type 0 where
  pub in_main : MayExec p p.main.body (record { unit = p.main.unit; variables = declared_in p.main; names = [] })
  pub in_procedures : Each (MayRun p) p.procedures.items
  pub in_types : HaveFinals p 0 p.types.items
