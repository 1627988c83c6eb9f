-- Programs that make sense: what an elaborator establishes beside IsLawful. No law needs it; a compiler may.
use Rattle.std.specs.Prelude.{◌≡◌, ℕ, suc, Bool, true, false, not, ◌&&◌, ◌||◌, if◌then◌else◌, nat_eq, nat_lt, List, [], ◌∷◌, ◌++◌, map}
use Rattle.std.specs.Prelude.{length, Option, None, Some, slice_get}
use Rattle.f3_program.specs.declared.declarations.Base.{Base}
use Rattle.f3_program.specs.declared.declarations.Base.TheVariants as base
use Rattle.f3_program.specs.declared.declarations.Component as m
use Rattle.f3_program.specs.declared.declarations.Constant.TheVariants as constant
use Rattle.f3_program.specs.declared.declarations.Declared.{Declared}
use Rattle.f3_program.specs.declared.declarations.Derived.{Derived}
use Rattle.f3_program.specs.declared.declarations.Final.{Final}
use Rattle.f3_program.specs.declared.declarations.Kind.{Kind}
use Rattle.f3_program.specs.declared.expression.Argument as a
use Rattle.f3_program.specs.declared.expression.Designator as d
use Rattle.f3_program.specs.declared.expression.Expression as e
use Rattle.f3_program.specs.declared.expression.Name.{Name}
use Rattle.f3_program.specs.declared.expression.Name.TheVariants as n
use Rattle.f3_program.specs.declared.expression.Selection as l
use Rattle.f3_program.specs.declared.expression.Subscript as u
use Rattle.f3_program.specs.declared.statement.Bounds.{Bounds}
use Rattle.f3_program.specs.declared.statement.Item.{Item}
use Rattle.f3_program.specs.declared.statement.Item.TheVariants as item
use Rattle.f3_program.specs.declared.statement.Request.{Request}
use Rattle.f3_program.specs.declared.statement.Selector.{Selector}
use Rattle.f3_program.specs.declared.statement.Selector.TheVariants as selector
use Rattle.f3_program.specs.declared.statement.Statement as s
use Rattle.f3_program.specs.declared.program.Dummy.{Dummy}
use Rattle.f3_program.specs.declared.program.Procedure.{Procedure}
use Rattle.f3_program.specs.declared.program.Program.{Program}
use Rattle.f3_program.specs.declared.program.Static as x
use Rattle.f3_meaning_whole.specs.Act.{component_of}
use Rattle.f3_meaning_whole.specs.Exec.{declared_in}
use Rattle.f3_meaning_whole.specs.Permitted.{same_type}

abbrev pub all : {A : Type 0} → (A → Bool) → List A → Bool
all f [] = true
all f (x ∷ xs) = f x && all f xs

abbrev pub some : {A : Type 0} → Option A → (A → Bool) → Bool
some None f = false
some (Some x) f = f x

abbrev pub found : {A B : Type 0} → Option A → (A → Option B) → Option B
found None f = None
found (Some x) f = f x

abbrev pub only : {A : Type 0} → Bool → A → Option A
only b x = if b then Some x else None

abbrev pub same_truth : Bool → Bool → Bool
same_truth true b = b
same_truth false b = not b

abbrev pub is_number : Base → Bool
is_number base.Integer = true
is_number base.Long = true
is_number base.Logical = false
is_number (base.Derived t) = false

-- integers of either kind are converted, other types agree
abbrev pub alike : Base → Base → Bool
alike a b = (is_number a && is_number b) || same_type a b

abbrev pub of_kind : Base → ℕ → Kind
of_kind of rank = record { of = of; rank = rank; is_allocatable = false }

abbrev pub is_scalar : Kind → Bool
is_scalar k = not k.is_allocatable && nat_eq k.rank 0

abbrev pub is_whole_number : Kind → Bool
is_whole_number k = is_scalar k && is_number k.of

abbrev pub is_condition : Kind → Bool
is_condition k = is_scalar k && same_type k.of base.Logical

-- the kind of a value: what an allocatable holds has to be taken
abbrev pub valued : Kind → Option Kind
valued k = only (not k.is_allocatable) k

-- an argument that is given: its number, its kind, whether it is a variable
pub record Given : Type 0 where
  pub number : ℕ
  pub kind : Kind
  pub is_variable : Bool

-- how many arguments have a number
abbrev pub given_for : ℕ → List Given → ℕ
given_for k [] = 0
given_for k (g ∷ gs) = if nat_eq g.number k then suc (given_for k gs) else given_for k gs

abbrev pub given_all : {A : Type 0} → List (Option A) → Option (List A)
given_all [] = Some []
given_all (o ∷ os) = found o (λ x. found (given_all os) (λ xs. Some (x ∷ xs)))

abbrev pub count_ranges : List Bool → ℕ
count_ranges [] = 0
count_ranges (true ∷ bs) = suc (count_ranges bs)
count_ranges (false ∷ bs) = count_ranges bs

-- an array constructor has scalar items of one type (ISO/IEC 1539-1:2004, 4.7)
abbrev pub constructed : List Given → Option Kind
constructed [] = None
constructed (g ∷ gs) = only (all (λ (x : Given). is_scalar x.kind && alike x.kind.of g.kind.of) (g ∷ gs)) (of_kind g.kind.of 1)

-- a value fits what takes it: its type agrees, and it is a scalar or has the rank
abbrev pub takes : Kind → Kind → Bool
takes k v = alike k.of v.of && (not v.is_allocatable && (nat_eq v.rank 0 || nat_eq v.rank k.rank))

-- an allocatable component takes a value of its rank, or a whole allocatable (own rule)
abbrev pub component_takes : Kind → Given → Bool
component_takes k g = if k.is_allocatable then alike k.of g.kind.of && nat_eq k.rank g.kind.rank && (not g.kind.is_allocatable || g.is_variable)
    else takes k g.kind

abbrev pub fits_component : List m.Component → Given → Bool
fits_component cs g = some (slice_get cs g.number) (λ c. component_takes c.declared.kind g)

abbrev pub at_most_once : List Given → Given → Bool
at_most_once gs g = nat_eq (given_for g.number gs) 1

-- a dummy has one argument: of its type and rank, allocatable where the dummy is (12.4.1); a literal does not tell its kind
abbrev pub dummy_takes : Dummy → Given → Bool
dummy_takes x g = (if g.is_variable then same_type x.kind.of g.kind.of
    else alike x.kind.of g.kind.of) && (nat_eq x.kind.rank g.kind.rank && same_truth x.kind.is_allocatable g.kind.is_allocatable)

abbrev pub fits_dummy : List Dummy → Given → Bool
fits_dummy ds g = some (slice_get ds g.number) (λ x. dummy_takes x g)

abbrev pub all_given : ℕ → List Dummy → List Given → Bool
all_given k [] gs = true
all_given k (x ∷ xs) gs = nat_eq (given_for k gs) 1 && all_given (suc k) xs gs

-- a subroutine's reference has no value that is used: a scalar logical stands for it
abbrev pub result_kind : Option Declared → Kind
result_kind None = of_kind base.Logical 0
result_kind (Some x) = of_kind x.kind.of x.kind.rank

module _ (p : Program) (variables : List Declared) (names : List Kind) where
  abbrev pub kind_of_name : Name → Option Kind
  kind_of_name (n.Static i) = found (slice_get p.statics.items i) (λ (y : x.Static). Some y.declared.kind)
  kind_of_name (n.Local i) = found (slice_get variables i) (λ (y : Declared). Some y.kind)
  kind_of_name (n.Lent i) = slice_get names i

  -- elements of an array, or of the array that an allocatable holds: one subscript for each dimension (6.2.2)
  abbrev pub sectioned : Bool → Option (List Bool) → Kind → Option Kind
  sectioned is_opened subscripts k = found subscripts (λ bs. only (same_truth is_opened k.is_allocatable && (nat_eq (length bs) k.rank
      && nat_lt 0 k.rank)) (of_kind k.of (count_ranges bs)))

  -- of a component of each element of an array: no more than one part has a rank, and none behind it is allocatable (6.1.2)
  abbrev pub element_of_each : Bool → Option (List Bool) → Kind → Kind → Option Kind
  element_of_each is_opened subscripts array k = found subscripts (λ bs. only (not is_opened && (not k.is_allocatable && (nat_eq (length bs) k.rank
      && nat_eq (count_ranges bs) 0))) (of_kind k.of array.rank))

  abbrev pub component_kind : Option Kind → ℕ → (Kind → Option Kind) → (Kind → Kind → Option Kind) → Option Kind
  component_kind object k how each = found object (λ o. if o.is_allocatable then None
      else found (component_of p.types.items o.of k) (λ c. if nat_eq o.rank 0 then how c.declared.kind else each o c.declared.kind))

  abbrev pub structured : ℕ → List Given → Option Kind
  structured t gs = found (slice_get p.types.items t) (λ (y : Derived). only (all (λ g. fits_component y.components.items g
      && at_most_once gs g) gs) (of_kind (base.Derived t) 0))

  abbrev pub referenced : ℕ → List Given → Option Kind
  referenced f gs = found (slice_get p.procedures.items f) (λ (q : Procedure). only (all (fits_dummy q.dummies.items) gs
      && all_given 0 q.dummies.items gs) (result_kind q.result))

  abbrev mutual
    -- the kind of an expression, where it makes sense
    pub value_kind : e.Expression → Option Kind
    value_kind (e.Literal (constant.Number z)) = Some (of_kind base.Integer 0)
    value_kind (e.Literal (constant.Truth b)) = Some (of_kind base.Logical 0)
    value_kind (e.Variable' q x) = found (object_kind x) valued
    value_kind (e.Group' q x) = value_kind x
    value_kind (e.Unary' o t q x) = found (value_kind x) (λ k. only (is_scalar k && alike k.of t) (of_kind t 0))
    value_kind (e.Binary' o t q x r y) = found (value_kind x) (λ k. found (value_kind y) (λ j. only (is_scalar k && (is_scalar j
        && alike k.of j.of)) (of_kind t 0)))
    value_kind (e.Array' k xs) = found (given_all (arguments xs)) constructed
    value_kind (e.Structure' t k xs) = found (given_all (arguments xs)) (structured t)
    value_kind (e.Call' f k xs) = found (given_all (arguments xs)) (referenced f)
    value_kind (e.Allocated' q x) = found (object_kind x) (λ k. only k.is_allocatable (of_kind base.Logical 0))
    value_kind (e.Size' q x) = found (argument x) (λ g. only (not g.kind.is_allocatable && nat_lt 0 g.kind.rank) (of_kind base.Integer 0))
    value_kind (e.Bound' o q x r y) = found (argument x) (λ g. found (value_kind y) (λ k. only (not g.kind.is_allocatable && (nat_lt 0 g.kind.rank
        && is_whole_number k)) (of_kind base.Integer 0)))

    pub argument : a.Argument → Option Given
    argument (a.Value' k q x) = found (value_kind x) (λ j. Some (record { number = k; kind = j; is_variable = false }))
    argument (a.Variable' k q x) = found (object_kind x) (λ j. Some (record { number = k; kind = j; is_variable = true }))

    pub arguments : {m : _} → e.Row_of-Argument m → List (Option Given)
    arguments e.end_of-Argument = []
    arguments (e.more_of-Argument x rest) = argument x ∷ arguments rest

    -- the kind of what a designator names, where it makes sense
    pub object_kind : d.Designator → Option Kind
    object_kind (d.Name x how) = found (kind_of_name x) (λ k. taken how k)
    object_kind (d.Component' q x k how) = component_kind (object_kind x) k (λ c. taken how c) (λ o c. taken_of_each how o c)

    pub taken : l.Selection → Kind → Option Kind
    taken l.Whole k = Some k
    taken l.Contents k = only k.is_allocatable (of_kind k.of k.rank)
    taken (l.Elements' is_opened m xs) k = sectioned is_opened (given_all (subscripts xs)) k

    pub taken_of_each : l.Selection → Kind → Kind → Option Kind
    taken_of_each l.Whole array k = only (is_scalar k) (of_kind k.of array.rank)
    taken_of_each l.Contents array k = None
    taken_of_each (l.Elements' is_opened m xs) array k = element_of_each is_opened (given_all (subscripts xs)) array k

    -- of each subscript whether it is a triplet
    pub subscripts : {m : _} → l.Row_of-Subscript m → List (Option Bool)
    subscripts l.end_of-Subscript = []
    subscripts (l.more_of-Subscript x rest) = subscript x ∷ subscripts rest

    pub subscript : u.Subscript → Option Bool
    subscript (u.At' q x) = only (some (value_kind x) is_whole_number) false
    subscript (u.Range' b q x c r y t z) = only (some (value_kind x) is_whole_number && (some (value_kind y) is_whole_number
        && some (value_kind z) is_whole_number)) true

  -- a scalar whole number to be defined
  abbrev pub is_status : Option d.Designator → Bool
  is_status None = true
  is_status (Some x) = some (object_kind x) is_whole_number

  abbrev pub same_kind : Kind → Kind → Bool
  same_kind k j = same_type k.of j.of && (nat_eq k.rank j.rank && same_truth k.is_allocatable j.is_allocatable)

  abbrev pub is_object_of : Kind → d.Designator → Bool
  is_object_of k x = some (object_kind x) (same_kind k)

  abbrev pub is_bound : Bounds → Bool
  is_bound b = some (value_kind b.lower) is_whole_number && some (value_kind b.upper) is_whole_number

  abbrev pub is_request : Request → Bool
  is_request r = r.kind.is_allocatable && (is_object_of r.kind r.object && all is_bound r.bounds.items)

  abbrev pub has_bounds : Request → Bool
  has_bounds r = nat_eq (length r.bounds.items) r.kind.rank

  abbrev pub is_item : Item → Bool
  is_item (item.Value x) = some (value_kind x) (λ k. is_number k.of || same_type k.of base.Logical)
  is_item (item.Text t) = true

  -- the kinds of associate names: never allocatable (8.1.4)
  abbrev pub selected : Selector → Option Kind
  selected (selector.Variable x) = found (object_kind x) valued
  selected (selector.Value k x) = found (value_kind x) (λ j. only (alike k.of j.of && nat_eq k.rank j.rank) k)

abbrev pub or_none : Option (List Kind) → List Kind
or_none None = []
or_none (Some ks) = ks

module _ (p : Program) (variables : List Declared) where
  abbrev mutual
    pub is_formed : s.Statement → List Kind → Bool
    is_formed (s.At' place b q x) names = is_formed x names
    is_formed (s.Block' k xs) names = are_formed xs names
    is_formed (s.Assign x k y) names = is_object_of p variables names k x && some (value_kind p variables names y) (takes k)
    is_formed (s.Call x) names = some (value_kind p variables names x) (λ k. true)
    is_formed (s.MoveAlloc k b x y) names = k.is_allocatable && (is_object_of p variables names k x && is_object_of p variables names k y)
    is_formed (s.Allocate rs stat) names = all (λ r. is_request p variables names r && has_bounds p variables names r) rs.items
        && is_status p variables names stat
    is_formed (s.Deallocate rs stat) names = all (is_request p variables names) rs.items && is_status p variables names stat
    is_formed (s.Print xs) names = all (is_item p variables names) xs.items
    is_formed (s.Stop code) names = true
    is_formed s.Return names = true
    is_formed s.Cycle names = true
    is_formed s.Exit names = true
    is_formed (s.If' x q y r z) names = some (value_kind p variables names x) is_condition && (is_formed y names && is_formed z names)
    is_formed (s.Select' x q y) names = some (value_kind p variables names x) is_scalar && is_formed y names
    is_formed (s.Case' rs q x r y) names = is_formed x names && is_formed y names
    is_formed (s.While' x q y) names = some (value_kind p variables names x) is_condition && is_formed y names
    is_formed (s.Count' x k from to step q y) names = is_whole_number k && (is_object_of p variables names k x
        && (some (value_kind p variables names from) is_whole_number && (some (value_kind p variables names to) is_whole_number
        && (some (value_kind p variables names step) is_whole_number && is_formed y names))))
    is_formed (s.Associate' xs q y) names = some (given_all (map (selected p variables names) xs.items)) (λ ks. true)
        && is_formed y (names ++ or_none (given_all (map (selected p variables names) xs.items)))

    pub are_formed : {m : _} → s.Row_of-Statement m → List Kind → Bool
    are_formed s.end_of-Statement names = true
    are_formed (s.more_of-Statement x rest) names = is_formed x names && are_formed rest names

abbrev pub kinds_of : List Dummy → List Kind
kinds_of ds = map (λ (x : Dummy). x.kind) ds

abbrev pub is_procedure : Program → Procedure → Bool
is_procedure p q = is_formed p (declared_in q) q.body (kinds_of q.dummies.items)

-- a type stands behind those of its components (4.5.3)
abbrev pub is_before : ℕ → Base → Bool
is_before n base.Integer = true
is_before n base.Long = true
is_before n base.Logical = true
is_before n (base.Derived t) = nat_lt t n

-- an object of a type that there is, with a dimension for each rank unless it is allocatable
abbrev pub is_declared : ℕ → Declared → Bool
is_declared n y = is_before n y.kind.of && (if y.kind.is_allocatable then nat_eq (length y.dimensions.items) 0
    else nat_eq (length y.dimensions.items) y.kind.rank)

-- a final subroutine has one dummy, of its rank (4.5.5)
abbrev pub is_final : Program → Final → Bool
is_final p f = some (slice_get p.procedures.items f.procedure) (λ (q : Procedure). one_of f.rank q.dummies.items)
  where
    one_of : ℕ → List Dummy → Bool
    one_of rank [] = false
    one_of rank (y ∷ []) = nat_eq y.kind.rank rank && not y.kind.is_allocatable
    one_of rank (y ∷ z ∷ ys) = false

abbrev pub are_types : Program → ℕ → List Derived → Bool
are_types p k [] = true
are_types p k (t ∷ ts) = all (λ (c : m.Component). is_declared k c.declared) t.components.items && (all (is_final p) t.finals.items && are_types p (suc k) ts)

abbrev pub are_declared : Program → Procedure → Bool
are_declared p q = all (is_declared (length p.types.items)) (declared_in q) && all (λ (y : Dummy). is_before (length p.types.items) y.kind.of) q.dummies.items

-- Numbers are in range, a type stands behind those of its components, each dummy has one argument, and types and ranks agree.
abbrev pub is_well_formed : Program → Bool
is_well_formed p = are_types p 0 p.types.items && (all (λ (y : x.Static). is_declared (length p.types.items) y.declared) p.statics.items
    && (all (are_declared p) (p.main ∷ p.procedures.items) && all (is_procedure p) (p.main ∷ p.procedures.items)))

abbrev pub IsWellFormed : Program → Type 0
IsWellFormed p = is_well_formed p ≡ true
