-- Values that objects take.
use Rattle.std.proofs.Common.{◌≡◌, ◌∙◌, sym, ap, ℕ, zero, suc, ℤ, pos, Bool, true, false, ◌||◌, List, [], ◌∷◌, map, length, Option, Some, None, ◌^◌, ◌<◌, negsuc, refl, subst, arith}
use Rattle.std.specs.Prelude.{nat_eq, nat_lt, replicate, slice_get}
use Rattle.std.proofs.lemmas.Bool.{eqb-true, ltb-true, lt-ltb}
use Rattle.std.proofs.lemmas.List.{length-replicate}
use Rattle.f3_places.specs.declared.source.Place.{Place}
use Rattle.f3_program.specs.declared.declarations.Base.{Base}
use Rattle.f3_program.specs.declared.declarations.Base.TheVariants as base
use Rattle.f3_program.specs.declared.declarations.Component as m
use Rattle.f3_program.specs.declared.declarations.Declared.{Declared}
use Rattle.f3_program.specs.declared.declarations.Derived.{Derived}
use Rattle.f3_program.specs.declared.declarations.Kind.{Kind}
use Rattle.f3_meaning_whole.specs.Value.{Span, Value, Number, Truth, Composite, Array, Unallocated, Allocated, Values, none, more, listed, joined, count, spread, cleared, all_cleared}
use Rattle.f3_meaning_whole.specs.Store.{Store, Path, get}
use Rattle.f3_meaning_whole.specs.Reference.{Reach, One, Many, Reference, paths, paths_by, held_at}
use Rattle.f3_meaning_whole.specs.declared.run_error.RunError.{RunError}
use Rattle.f3_meaning_whole.specs.declared.run_error.RunError.TheVariants.{Overflow, DivisionByZero, SubscriptOutOfBounds, NotAllocated, AlreadyAllocated, HeapHasNoRoom, ShapesDiffer, StepIsZero, InUse, CallsTooDeep, ArrayTooLarge}
use Rattle.f3_meaning_whole.specs.Arithmetic.{fits, converted, value_fits}
use Rattle.f3_meaning_whole.specs.Act.{Here, set, clear, enter, leave, derived_of}
use Rattle.f3_meaning_whole.specs.Permitted.{same_type}
use Rattle.f3_meaning_whole.specs.Shape.{Shape, Whole, Logical, initial_of}
use Rattle.f3_meaning_whole.specs.Exec.{vacant, status_number}
use Rattle.f3_meaning_whole.specs.Formed.{alike, is_before, of_kind, is_scalar, is_number, is_whole_number}
use Rattle.f3_cell_kinds.specs.Effect.{held_kind}
use Rattle.f3_cell_kinds.specs.Holds.{Reaches, HasBounds, IsOf, AreComponents, AreElements}
use Rattle.f3_cell_kinds.proofs.Asked.{and_is, not_is, kind_same}
use Rattle.f3_cell_kinds.proofs.Scalars.{no_rank, no_both, rank_is, alike_is}
use Rattle.f3_cell_kinds.proofs.Reaching.{listed_joined}
use Rattle.f3_cell_kinds.proofs.Calm.{Calm, gives_calm, fails_calm, if_calm}
use Rattle.f3_store_kinds.specs.Typing.{Typing, cut, extended, each_kind, AreOf, AllOf, IsTyped, Leads}
use Rattle.f3_store_kinds.proofs.Stores.{begun_is, ended_is}
use Rattle.f3_store_kinds.proofs.Reading.{changes_are}
use Rattle.f3_store_kinds.proofs.After.{After, does_after}

module _ (types : List Derived) where
  -- ---- what kinds exclude

  scalar_held : (k : Kind) → is_scalar k ≡ true → k.is_allocatable ≡ false
  scalar_held k e = not_is _ (and_is _ _ e).0

  number_held : (k : Kind) → is_whole_number k ≡ true → k.is_allocatable ≡ false
  number_held k e = scalar_held k (and_is _ _ e).0

  -- ---- one value for each object

  all_listed : (k : Kind) (vs : Values) → AreElements types k vs → AllOf types k (listed vs)
  all_listed k none h = tt
  all_listed k (more v vs) h = (h.0, all_listed k vs h.1)

  spread_scalar : (of : Base) (n : ℕ) (v : Value) → IsOf types (of_kind of 0) v → AllOf types (of_kind of 0) (spread n v)
  spread_scalar of n (Array ss vs) h = absurd (no_rank 0 refl h.1)
  spread_scalar of n Unallocated h = absurd (no_both false h refl)
  spread_scalar of n (Allocated v) h = absurd (no_both false h.0 refl)
  spread_scalar of zero (Number z) h = tt
  spread_scalar of (suc n) (Number z) h = (h, spread_scalar of n (Number z) h)
  spread_scalar of zero (Truth b) h = tt
  spread_scalar of (suc n) (Truth b) h = (h, spread_scalar of n (Truth b) h)
  spread_scalar of zero (Composite vs) h = tt
  spread_scalar of (suc n) (Composite vs) h = (h, spread_scalar of n (Composite vs) h)

  -- a value that is no array is of rank 0
  flat : (of : Base) (rank : ℕ) (v : Value) → rank ≡ 0 → IsOf types (of_kind of rank) v → IsOf types (of_kind of 0) v
  flat of rank v e h = subst (λ n. IsOf types (of_kind of n) v) e h

  spread_many : (of : Base) (rank n : ℕ) (v : Value) → IsOf types (of_kind of rank) v → AllOf types (of_kind of 0) (spread n v)
  spread_many of rank n (Array ss vs) h = all_listed (of_kind of 0) vs h.4
  spread_many of rank n (Number z) h = spread_scalar of n (Number z) (flat of rank (Number z) (sym (rank_is types (of_kind of rank) (Number z) refl h)) h)
  spread_many of rank n (Truth b) h = spread_scalar of n (Truth b) (flat of rank (Truth b) (sym (rank_is types (of_kind of rank) (Truth b) refl h)) h)
  spread_many of rank n (Composite vs) h = spread_scalar of n (Composite vs) (flat of rank (Composite vs) (sym (rank_is types (of_kind of rank) (Composite vs) refl h)) h)
  spread_many of rank n Unallocated h = absurd (no_both false h refl)
  spread_many of rank n (Allocated v) h = absurd (no_both false h.0 refl)

  none_rank : (n m : ℕ) → nat_eq m 0 ≡ true → (nat_eq n 0 || nat_eq n m) ≡ true → n ≡ 0
  none_rank n m e f = by (nat_eq n 0) refl f
    where
      by : (b : Bool) → nat_eq n 0 ≡ b → (b || nat_eq n m) ≡ true → n ≡ 0
      by true g h = eqb-true n 0 g
      by false g h = eqb-true n m h ∙ eqb-true m 0 e

  -- a value of the rank, or a scalar
  taken_by : (k : Kind) (reach : Reach) (p : Path) (rank : ℕ) (v : Value) → k.is_allocatable ≡ false → Reaches k reach → (nat_eq rank 0 || nat_eq rank k.rank) ≡ true →
      IsOf types (of_kind k.of rank) v → AllOf types (each_kind k reach) (spread (length (paths_by p reach)) v)
  taken_by k One p rank v held h fit is =
      let one : nat_eq k.rank 0 ≡ true = ap (λ (b : Bool). b || nat_eq k.rank 0) (sym held) ∙ h in
      let same : of_kind k.of 0 ≡ k = sym (kind_same k k.of 0 false refl (eqb-true k.rank 0 one) held) in
      subst (λ (z : Kind). AllOf types z (spread 1 v)) same (spread_scalar k.of 1 v (flat k.of rank v (none_rank rank k.rank one fit) is))
  taken_by k (Many ss ps) p rank v held h fit is = spread_many k.of rank (length ps) v is

  pub taken_all : (k : Kind) (r : Reference) (rank : ℕ) (v : Value) → k.is_allocatable ≡ false → Reaches k r.reach → (nat_eq rank 0 || nat_eq rank k.rank) ≡ true →
      IsOf types (of_kind k.of rank) v → AllOf types (each_kind k r.reach) (spread (length (paths r)) v)
  taken_all k r rank v held h fit is = taken_by k r.reach r.path rank v held h fit is

  -- an allocatable is one object
  held_by : (k : Kind) (reach : Reach) (p : Path) (v : Value) → k.is_allocatable ≡ true → Reaches k reach → IsOf types k v →
      AllOf types (each_kind k reach) (spread (length (paths_by p reach)) v)
  held_by k (Many ss ps) p v held h is = absurd (no_both k.is_allocatable held h.0)
  held_by k One p Unallocated held h is = (is, tt)
  held_by k One p (Allocated v) held h is = (is, tt)
  held_by k One p (Array ss vs) held h is = absurd (no_both k.is_allocatable held is.0)
  held_by k One p (Number z) held h is = (is, tt)
  held_by k One p (Truth b) held h is = (is, tt)
  held_by k One p (Composite vs) held h is = (is, tt)

  pub held_all : (k : Kind) (r : Reference) (v : Value) → k.is_allocatable ≡ true → Reaches k r.reach → IsOf types k v → AllOf types (each_kind k r.reach) (spread (length (paths r)) v)
  held_all k r v held h is = held_by k r.reach r.path v held h is

  -- ---- new objects

  elements_new : (k : Kind) (n : ℕ) (v : Value) → IsOf types k v → AreElements types k (joined (replicate n v))
  elements_new k zero v h = tt
  elements_new k (suc n) v h = (h, elements_new k n v h)

  pub vacant_is : (of : Base) (rank : ℕ) (ss : List Span) (v : Value) → length ss ≡ rank → IsOf types (of_kind of 0) v → IsOf types (of_kind of rank) (vacant rank ss v)
  vacant_is of zero ss v e h = h
  vacant_is of (suc rank) ss v e h =
      (refl, lt-ltb 0 (suc rank) (omega arith), e, listed_joined types (replicate (count ss) v) ∙ length-replicate (count ss) v, elements_new (of_kind of 0) (count ss) v h)

  -- ---- what is freed

  cleared_many : (vs : Values) → length (listed (all_cleared vs)) ≡ length (listed vs)
  cleared_many none = refl
  cleared_many (more v vs) = ap suc (cleared_many vs)

  cleared_bounds : (d : Declared) (v : Value) → HasBounds d v → HasBounds d (cleared v)
  cleared_bounds d (Number z) h = tt
  cleared_bounds d (Truth b) h = tt
  cleared_bounds d (Composite vs) h = tt
  cleared_bounds d (Array ss vs) h = h
  cleared_bounds d Unallocated h = tt
  cleared_bounds d (Allocated v) h = tt

  mutual
    pub cleared_is : (k : Kind) (v : Value) → IsOf types k v → IsOf types k (cleared v)
    cleared_is k (Number z) h = h
    cleared_is k (Truth b) h = h
    cleared_is k (Composite vs) h = (h.0, h.1, h.2, components_cleared h.1.components.items vs h.3)
    cleared_is k (Array ss vs) h = (h.0, h.1, h.2, cleared_many vs ∙ h.3, elements_cleared (of_kind k.of 0) vs h.4)
    cleared_is k Unallocated h = h
    cleared_is k (Allocated v) h = h.0

    components_cleared : (cs : List m.Component) (vs : Values) → AreComponents types cs vs → AreComponents types cs (all_cleared vs)
    components_cleared [] none h = tt
    components_cleared [] (more v vs) h = absurd h
    components_cleared (c ∷ cs) none h = absurd h
    components_cleared (c ∷ cs) (more v vs) h = (cleared_is c.declared.kind v h.0, cleared_bounds c.declared v h.1, components_cleared cs vs h.2)

    elements_cleared : (k : Kind) (vs : Values) → AreElements types k vs → AreElements types k (all_cleared vs)
    elements_cleared k none h = tt
    elements_cleared k (more v vs) h = (cleared_is k v h.0, elements_cleared k vs h.1)

  all_gone : (k : Kind) (store : Store) (ps : List Path) → AreElements types k (joined (map (get store) ps)) → AllOf types k (map (λ p. cleared (get store p)) ps)
  all_gone k store [] h = tt
  all_gone k store (p ∷ ps) h = (cleared_is k (get store p) h.0, all_gone k store ps h.1)

  gone_by : (k : Kind) (store : Store) (p : Path) (reach : Reach) → IsOf types k (held_at store p reach) →
      AllOf types (each_kind k reach) (map (λ q. cleared (get store q)) (paths_by p reach))
  gone_by k store p One h = (cleared_is k (get store p) h, tt)
  gone_by k store p (Many ss ps) h = all_gone (of_kind k.of 0) store ps h.4

  -- ---- types of values

  number_known : (n : ℕ) (of : Base) → is_number of ≡ true → is_before n of ≡ true
  number_known n base.Integer e = refl
  number_known n base.Long e = refl
  number_known n base.Logical e = refl
  number_known n (base.Derived t) e = cc

  truth_known : (n : ℕ) (of : Base) → same_type of base.Logical ≡ true → is_before n of ≡ true
  truth_known n base.Integer e = refl
  truth_known n base.Long e = refl
  truth_known n base.Logical e = refl
  truth_known n (base.Derived t) e = cc

  get_less : {A : Type 0} (xs : List A) (n : ℕ) (y : A) → slice_get xs n ≡ Some y → n < length xs
  get_less [] n y e = cc
  get_less (x ∷ xs) zero y e = omega arith
  get_less (x ∷ xs) (suc n) y e = let h = get_less xs n y e in omega (arith, h)

  derived_known : (of : Base) (y : Derived) → derived_of types of ≡ Some y → is_before (length types) of ≡ true
  derived_known base.Integer y e = refl
  derived_known base.Long y e = refl
  derived_known base.Logical y e = refl
  derived_known (base.Derived t) y e = lt-ltb t (length types) (get_less types t y e)

  -- a type of which there is a scalar
  type_known : (of : Base) (v : Value) → IsOf types (of_kind of 0) v → is_before (length types) of ≡ true
  type_known of (Number z) h = number_known (length types) of h.0
  type_known of (Truth b) h = truth_known (length types) of h
  type_known of (Composite vs) h = derived_known of h.1 h.2
  type_known of (Array ss vs) h = absurd (no_rank 0 refl h.1)
  type_known of Unallocated h = absurd (no_both false h refl)
  type_known of (Allocated v) h = absurd (no_both false h.0 refl)

  none_spread : (k : Kind) (x : Shape) → AllOf types k (spread 0 (initial_of x))
  none_spread k Whole = tt
  none_spread k Logical = tt
  none_spread k (Shape.Record t parts) = tt

  -- the initial value of its type, for an object that stands
  set_by : (k : Kind) (p : Path) (reach : Reach) (store : Store) (x : Shape) → k.is_allocatable ≡ false → Reaches k reach → IsOf types k (held_at store p reach) →
      (is_before (length types) k.of ≡ true → IsOf types (of_kind k.of 0) (initial_of x)) → AllOf types (each_kind k reach) (spread (length (paths_by p reach)) (initial_of x))
  set_by k p One store x held h is f =
      let one : nat_eq k.rank 0 ≡ true = ap (λ (b : Bool). b || nat_eq k.rank 0) (sym held) ∙ h in
      let same : k ≡ of_kind k.of 0 = kind_same k k.of 0 false refl (eqb-true k.rank 0 one) held in
      taken_by k One p 0 (initial_of x) held h refl (f (type_known k.of (get store p) (subst (λ (z : Kind). IsOf types z (get store p)) same is)))
  set_by k p (Many ss []) store x held h is f = none_spread (of_kind k.of 0) x
  set_by k p (Many ss (q ∷ ps)) store x held h is f = taken_by k (Many ss (q ∷ ps)) p 0 (initial_of x) held h refl (f (type_known k.of (get store q) is.4.0))

  pub set_all : (k : Kind) (r : Reference) (store : Store) (x : Shape) → k.is_allocatable ≡ false → Reaches k r.reach → IsOf types k (held_at store r.path r.reach) →
      (is_before (length types) k.of ≡ true → IsOf types (of_kind k.of 0) (initial_of x)) → AllOf types (each_kind k r.reach) (spread (length (paths r)) (initial_of x))
  set_all k r store x held h is f = set_by k r.path r.reach store x held h is f

  -- a number of a type has at most 64 bits
  below_word : (n : ℕ) → nat_lt n (2 ^ 31) ≡ true → nat_lt n (2 ^ 63) ≡ true
  below_word n e = let h : n < 2147483648 = ltb-true n 2147483648 e in lt-ltb n 9223372036854775808 (omega arith)

  fits_word : (t : Base) (z : ℤ) → fits t z ≡ true → fits base.Long z ≡ true
  fits_word base.Integer (pos n) e = below_word n e
  fits_word base.Integer (negsuc n) e = below_word n e
  fits_word base.Long z e = e
  fits_word base.Logical z e = e
  fits_word (base.Derived t) z e = e

  pub number_calm : {store : Store} (t : Base) (z : ℤ) (place : Place) → is_number t ≡ true → Calm (IsOf types (of_kind t 0)) store (converted t (Number z) place)
  unfolding converted
  number_calm t z place e = if_calm (fits t z) (λ f. gives_calm (Number z) (e, fits_word t z f)) (λ f. fails_calm _ place)

  pub alike_kind : (j k : Kind) (v : Value) → alike j.of k.of ≡ true → j.rank ≡ k.rank → j.is_allocatable ≡ k.is_allocatable → IsOf types k v → IsOf types j v
  alike_kind j k v e f g h = by k.is_allocatable refl v h
    where
      plain : (v : Value) → k.is_allocatable ≡ false → IsOf types k v → IsOf types j v
      plain v held h = subst (λ (z : Kind). IsOf types z v) (sym (kind_same j j.of k.rank false refl f (g ∙ held))) (alike_is types j.of k v e held h)

      by : (b : Bool) → k.is_allocatable ≡ b → (v : Value) → IsOf types k v → IsOf types j v
      by false held v h = plain v held h
      by true held Unallocated h = g ∙ h
      by true held (Allocated v) h = (g ∙ h.0, subst (λ n. IsOf types (of_kind j.of n) v) (sym f) (alike_is types j.of (held_kind k) v e refl h.1))
      by true held (Number z) h = absurd (no_both k.is_allocatable held (number_held k h.0))
      by true held (Truth b) h = absurd (no_both k.is_allocatable held (scalar_held k (and_is _ _ h).0))
      by true held (Composite vs) h = absurd (no_both k.is_allocatable held (scalar_held k h.0))
      by true held (Array ss vs) h = absurd (no_both k.is_allocatable held h.0)

  -- the number of an error
  pub status_is : (k : Kind) (x : Option RunError) → is_whole_number k ≡ true → IsOf types k (Number (pos (status_number x)))
  status_is k None e = (e, refl)
  status_is k (Some Overflow) e = (e, refl)
  status_is k (Some DivisionByZero) e = (e, refl)
  status_is k (Some SubscriptOutOfBounds) e = (e, refl)
  status_is k (Some NotAllocated) e = (e, refl)
  status_is k (Some AlreadyAllocated) e = (e, refl)
  status_is k (Some HeapHasNoRoom) e = (e, refl)
  status_is k (Some ShapesDiffer) e = (e, refl)
  status_is k (Some StepIsZero) e = (e, refl)
  status_is k (Some InUse) e = (e, refl)
  status_is k (Some CallsTooDeep) e = (e, refl)
  status_is k (Some ArrayTooLarge) e = (e, refl)

  -- a value as one of another type is the same
  pub converted_calm : {store : Store} (t : Base) (v : Value) (place : Place) → Calm (λ x. x ≡ v) store (converted t v place)
  unfolding converted
  converted_calm t v place = if_calm (value_fits t v) (λ e. gives_calm v refl) (λ e. fails_calm _ place)

  -- ---- changes, levels

  module _ (g : Typing) where
    pub set_after : (store : Store) (k : Kind) (r : Reference) (v : Value) (here : Here) → IsTyped types g store → Reaches k r.reach → Leads types g k r →
        AllOf types (each_kind k r.reach) (spread (length (paths r)) v) → After (λ x st. IsTyped types g st) store (set r v here)
    set_after store k r v here h reached e f = does_after {P = λ x st. IsTyped types g st} _ (changes_are types g store k r (spread (length (paths r)) v) h reached e f)

    pub clear_after : (store : Store) (k : Kind) (r : Reference) (here : Here) → IsTyped types g store → Reaches k r.reach → Leads types g k r → IsOf types k (held_at store r.path r.reach) →
        After (λ x st. IsTyped types g st) store (clear r here)
    clear_after store k r here h reached e f = does_after {P = λ x st. IsTyped types g st} _
        (changes_are types g store k r (map (λ p. cleared (get store p)) (paths r)) h reached e (gone_by k store r.path r.reach f))

    pub enter_after : (store : Store) (ks : List Kind) (vs : List Value) → IsTyped types g store → AreOf types ks vs → After (λ x st. IsTyped types (extended g ks) st) store (enter vs)
    enter_after store ks vs h f = does_after {P = λ x st. IsTyped types (extended g ks) st} _ (begun_is types g store ks vs h f)

    pub leave_after : (store : Store) (n : ℕ) → IsTyped types g store → After (λ x st. IsTyped types (cut n g) st) store (leave n)
    leave_after store n h = does_after {P = λ x st. IsTyped types (cut n g) st} _ (ended_is types g store n h)
