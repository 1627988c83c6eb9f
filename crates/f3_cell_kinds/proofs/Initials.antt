-- Initial values are of their kinds.
use Rattle.std.proofs.Common.{◌≡◌, ◌∙◌, sym, ap, ℕ, zero, suc, ◌+◌, ◌<◌, Bool, true, false, ◌&&◌, ◌||◌, List, [], ◌∷◌, ◌++◌, map, length, Some, refl, subst, arith, if◌then◌else◌, length-append}
use Rattle.std.specs.Prelude.{nat_eq, nat_lt, slice_get, slice_index_or, replicate}
use Rattle.std.proofs.lemmas.Bool.{eqb-true, ltb-true, ltb-false, lt-ltb}
use Rattle.std.proofs.lemmas.List.{length-replicate}
use Rattle.std.proofs.Math.Seq.{get_or-append_seam}
use Rattle.f3_program.specs.declared.declarations.Base.{Base}
use Rattle.f3_program.specs.declared.declarations.Base.TheVariants as base
use Rattle.f3_program.specs.declared.declarations.Component.{Component}
use Rattle.f3_program.specs.declared.declarations.Constant.{Constant}
use Rattle.f3_program.specs.declared.declarations.Constant.TheVariants as constant
use Rattle.f3_program.specs.declared.declarations.Declared.{Declared}
use Rattle.f3_program.specs.declared.declarations.Derived.{Derived}
use Rattle.f3_program.specs.declared.declarations.Dimension.{Dimension}
use Rattle.f3_program.specs.declared.declarations.Kind.{Kind}
use Rattle.f3_program.specs.declared.program.Procedure.{Procedure}
use Rattle.f3_program.specs.declared.program.Program.{Program}
use Rattle.f3_program.specs.declared.program.Static.{Static}
use Rattle.f3_meaning_whole.specs.Value.{Span, Value, Unallocated, listed, joined, count}
use Rattle.f3_meaning_whole.specs.Arithmetic.{constant_value}
use Rattle.f3_meaning_whole.specs.Shape.{Shape, Whole, Logical, Record, Parts, nothing, and, shape_in, parts_in, shapes_from, shapes_of, spans_declared, initialized, arranged, initial_declared, initial_of, initial_parts}
use Rattle.f3_meaning_whole.specs.Act.{components_of}
use Rattle.f3_meaning_whole.specs.Exec.{declared_in, initial_value}
use Rattle.f3_meaning_whole.specs.Formed.{all, of_kind, is_before, is_declared, is_final, are_types, are_declared, is_procedure, IsWellFormed}
use Rattle.f3_meaning_whole.specs.Run.{setting_of}
use Rattle.f3_code.specs.Lower.{initial}
use Rattle.f3_cell_kinds.specs.Sense.{constant_fits, initial_fits, MakesSense}
use Rattle.f3_cell_kinds.specs.Holds.{HasBounds, IsOf, AreComponents, AreElements}
use Rattle.f3_cell_kinds.proofs.Asked.{some_same, and_is, or_is, kind_same}
use Rattle.f3_cell_kinds.proofs.Reaching.{listed_joined}

pub spans_count : (ds : List Dimension) → length (spans_declared ds) ≡ length ds
spans_count [] = refl
spans_count (d ∷ ds) = ap suc (spans_count ds)

constants_count : (cs : List Constant) → length (map constant_value cs) ≡ length cs
constants_count [] = refl
constants_count (c ∷ cs) = ap suc (constants_count cs)

not_less : (n : ℕ) → nat_lt (suc (suc n)) 2 ≡ true → ⊥
not_less n e = let h : suc (suc n) < 2 = ltb-true (suc (suc n)) 2 e in absurd (omega arith)

index_front : (xs ys : List Shape) (u : ℕ) (d : Shape) → u < length xs → slice_index_or (xs ++ ys) u d ≡ slice_index_or xs u d
index_front [] ys u d h = absurd (omega arith)
index_front (x ∷ xs) ys zero d h = refl
index_front (x ∷ xs) ys (suc u) d h = index_front xs ys u d (omega arith)

-- of each of a list and of one more
each_more : (P : ℕ → Shape → Type 0) (xs : List Shape) (x : Shape) → ((u : ℕ) → u < length xs → P u (slice_index_or xs u Whole)) → P (length xs) x → (u : ℕ) →
    u < length (xs ++ x ∷ []) → P u (slice_index_or (xs ++ x ∷ []) u Whole)
each_more P xs x f h u less = by_place (nat_lt u (length xs)) refl
  where
    other : nat_lt u (length xs) ≡ false → length xs ≡ u
    other e = let g = ltb-false u (length xs) e in let m = length-append xs (x ∷ []) in omega (arith, g, less, m)

    by_place : (b : Bool) → nat_lt u (length xs) ≡ b → P u (slice_index_or (xs ++ x ∷ []) u Whole)
    by_place true e =
        let g : u < length xs = ltb-true u (length xs) e in
        subst (λ y. P u y) (sym (index_front xs (x ∷ []) u Whole g)) (f u g)
    by_place false e = subst (λ v. P v (slice_index_or (xs ++ x ∷ []) v Whole)) (other e)
        (subst (λ y. P (length xs) y) (sym (get_or-append_seam xs x [] Whole)) h)

-- what a component begins with has the bounds that are declared
arranged_bounds : (d : Declared) (rank : ℕ) (cs : List Constant) (s : Shape) → HasBounds d (arranged rank (spans_declared d.dimensions.items) cs (initial_of s))
arranged_bounds d zero [] Whole = tt
arranged_bounds d zero [] Logical = tt
arranged_bounds d zero [] (Record t parts) = tt
arranged_bounds d zero (constant.Number z ∷ cs) s = tt
arranged_bounds d zero (constant.Truth b ∷ cs) s = tt
arranged_bounds d (suc rank) cs s = refl

pub initial_bounds : (d : Declared) (s : Shape) → HasBounds d (initial_declared d (initial_of s))
initial_bounds d s = by d.kind.is_allocatable
  where
    by : (b : Bool) → HasBounds d (if b then Unallocated else arranged d.kind.rank (spans_declared d.dimensions.items) d.initial.items (initial_of s))
    by true = tt
    by false = arranged_bounds d d.kind.rank d.initial.items s

module _ (types : List Derived) where
  constant_is : (of : Base) (c : Constant) → constant_fits of c ≡ true → IsOf types (of_kind of 0) (constant_value c)
  constant_is of (constant.Number z) e = let a = and_is _ _ e in (a.0, a.1)
  constant_is of (constant.Truth b) e = e

  pub repeated : (k : Kind) (n : ℕ) (v : Value) → IsOf types k v → AreElements types k (joined (replicate n v))
  repeated k zero v h = tt
  repeated k (suc n) v h = (h, repeated k n v h)

  constants_are : (of : Base) (cs : List Constant) → all (constant_fits of) cs ≡ true → AreElements types (of_kind of 0) (joined (map constant_value cs))
  constants_are of [] e = tt
  constants_are of (c ∷ cs) e = let a = and_is _ _ e in (constant_is of c a.0, constants_are of cs a.1)

  -- the elements of an array, by their constants
  initialized_are : (of : Base) (n : ℕ) (cs : List Constant) (v : Value) → all (constant_fits of) cs ≡ true → (nat_lt (length cs) 2 || nat_eq (length cs) n) ≡ true →
      IsOf types (of_kind of 0) v → (length (listed (joined (initialized n cs v))) ≡ n) × AreElements types (of_kind of 0) (joined (initialized n cs v))
  initialized_are of n [] v fit many h = (listed_joined types (replicate n v) ∙ length-replicate n v, repeated (of_kind of 0) n v h)
  initialized_are of n (c ∷ []) v fit many h =
      let f = constant_is of c (and_is _ _ fit).0 in
      (listed_joined types (replicate n (constant_value c)) ∙ length-replicate n (constant_value c), repeated (of_kind of 0) n (constant_value c) f)
  initialized_are of n (c ∷ d ∷ cs) v fit many h = (
    listed_joined types (map constant_value (c ∷ d ∷ cs)) ∙ constants_count (c ∷ d ∷ cs) ∙ eqb-true (length (c ∷ d ∷ cs)) n (or_is _ _ many (less (length cs))),
    constants_are of (c ∷ d ∷ cs) fit,
  )
    where
      less : (n : ℕ) → nat_lt (suc (suc n)) 2 ≡ false
      less n = by (nat_lt (suc (suc n)) 2) refl
        where
          by : (b : Bool) → nat_lt (suc (suc n)) 2 ≡ b → nat_lt (suc (suc n)) 2 ≡ false
          by true e = absurd (not_less n e)
          by false e = e

  arranged_is : (k : Kind) (rank : ℕ) (ss : List Span) (cs : List Constant) (v : Value) → k.rank ≡ rank → k.is_allocatable ≡ false → length ss ≡ rank →
      all (constant_fits k.of) cs ≡ true → (nat_lt (length cs) 2 || nat_eq (length cs) (count ss)) ≡ true → IsOf types (of_kind k.of 0) v → IsOf types k (arranged rank ss cs v)
  arranged_is k zero ss [] v e held many fit one h = subst (λ (z : Kind). IsOf types z v) (sym (kind_same k k.of 0 false refl e held)) h
  arranged_is k zero ss (c ∷ cs) v e held many fit one h =
      subst (λ (z : Kind). IsOf types z (constant_value c)) (sym (kind_same k k.of 0 false refl e held)) (constant_is k.of c (and_is _ _ fit).0)
  arranged_is k (suc rank) ss cs v e held many fit one h =
      let f = initialized_are k.of (count ss) cs v fit one h in
      let some : nat_lt 0 k.rank ≡ true = ap (λ n. nat_lt 0 n) e ∙ lt-ltb 0 (suc rank) (omega arith) in
      (held, some, many ∙ sym e, f.0, f.1)

  declared_by : (b : Bool) (d : Declared) (v : Value) → d.kind.is_allocatable ≡ b →
      (if b then nat_eq (length d.dimensions.items) 0 else nat_eq (length d.dimensions.items) d.kind.rank) ≡ true → initial_fits d ≡ true →
      IsOf types (of_kind d.kind.of 0) v → IsOf types d.kind (if b then Unallocated else arranged d.kind.rank (spans_declared d.dimensions.items) d.initial.items v)
  declared_by true d v e many fit h = e
  declared_by false d v e many fit h =
      let a = and_is _ _ fit in
      arranged_is d.kind d.kind.rank (spans_declared d.dimensions.items) d.initial.items v refl e
      (spans_count d.dimensions.items ∙ eqb-true (length d.dimensions.items) d.kind.rank many) a.0 a.1 h

  pub declared_is : (n : ℕ) (d : Declared) (v : Value) → is_declared n d ≡ true → initial_fits d ≡ true → IsOf types (of_kind d.kind.of 0) v → IsOf types d.kind (initial_declared d v)
  declared_is n d v e fit h = declared_by d.kind.is_allocatable d v refl (and_is _ _ e).1 fit h

  -- ---- types

  -- components, and trees of their types
  abbrev pub PartsFit : List Component → Parts → Type 0
  PartsFit [] nothing = Unit {0}
  PartsFit (c ∷ cs) (and x s rest) = (x ≡ c) × IsOf types c.declared.kind (initial_declared c.declared (initial_of s)) × PartsFit cs rest
  PartsFit cs parts = ⊥

  -- these are trees of the first types
  pub record Fit (shapes : List Shape) : Type 0 where
    pub trees : (u : ℕ) (y : Derived) → u < length shapes → slice_get types u ≡ Some y → PartsFit y.components.items (components_of (slice_index_or shapes u Whole))
    pub by : (u : ℕ) → u < length shapes → IsOf types (of_kind (base.Derived u) 0) (initial_of (slice_index_or shapes u Whole))

  type_is : (shapes : List Shape) (n : ℕ) (of : Base) → Fit shapes → n ≡ length shapes → is_before n of ≡ true → IsOf types (of_kind of 0) (initial_of (shape_in shapes of))
  type_is shapes n base.Integer fit e f = (refl, refl)
  type_is shapes n base.Long fit e f = (refl, refl)
  type_is shapes n base.Logical fit e f = refl
  type_is shapes n (base.Derived u) fit e f = fit.by u (let h : u < n = ltb-true u n f in omega (arith, e))

  parts_are : (shapes : List Shape) (n : ℕ) (cs : List Component) → Fit shapes → n ≡ length shapes → all (λ (c : Component). is_declared n c.declared) cs ≡ true →
      all (λ (c : Component). initial_fits c.declared) cs ≡ true → AreComponents types cs (initial_parts (parts_in shapes cs))
  parts_are shapes n [] fit e declared initials = tt
  parts_are shapes n (c ∷ cs) fit e declared initials =
      let a = and_is _ _ declared in let b = and_is _ _ initials in
      (declared_is n c.declared _ a.0 b.0 (type_is shapes n c.declared.kind.of fit e (and_is _ _ a.0).0), initial_bounds c.declared (shape_in shapes c.declared.kind.of), parts_are shapes n cs fit e a.1 b.1)

  parts_fit : (shapes : List Shape) (n : ℕ) (cs : List Component) → Fit shapes → n ≡ length shapes → all (λ (c : Component). is_declared n c.declared) cs ≡ true →
      all (λ (c : Component). initial_fits c.declared) cs ≡ true → PartsFit cs (parts_in shapes cs)
  parts_fit shapes n [] fit e declared initials = tt
  parts_fit shapes n (c ∷ cs) fit e declared initials =
      let a = and_is _ _ declared in let b = and_is _ _ initials in
      (refl, declared_is n c.declared _ a.0 b.0 (type_is shapes n c.declared.kind.of fit e (and_is _ _ a.0).0), parts_fit shapes n cs fit e a.1 b.1)

  one_more : (shapes : List Shape) (t : Derived) → Fit shapes → slice_get types (length shapes) ≡ Some t →
      AreComponents types t.components.items (initial_parts (parts_in shapes t.components.items)) → PartsFit t.components.items (parts_in shapes t.components.items) →
      Fit (shapes ++ Record (length shapes) (parts_in shapes t.components.items) ∷ [])
  one_more shapes t fit found are parts = record {
    trees = λ u y h e. each_more (λ u x. (y : Derived) → slice_get types u ≡ Some y → PartsFit y.components.items (components_of x)) shapes new
        (λ v h y e. fit.trees v y h e) (λ y e. let same : t ≡ y = some_same (sym found ∙ e) in
        subst (λ (z : Derived). PartsFit z.components.items (parts_in shapes t.components.items)) same parts) u h y e;
    by = λ u h. each_more (λ u x. IsOf types (of_kind (base.Derived u) 0) (initial_of x)) shapes new (λ v h. fit.by v h) (refl, t, found, are) u h;
  }
    where
      new : Shape
      new = Record (length shapes) (parts_in shapes t.components.items)

  all_types : (p : Program) (shapes : List Shape) (n : ℕ) (ts : List Derived) → Fit shapes → n ≡ length shapes → are_types p n ts ≡ true →
      ((k : ℕ) (t : Derived) → slice_get ts k ≡ Some t → (slice_get types (n + k) ≡ Some t) × (all (λ (c : Component). initial_fits c.declared) t.components.items ≡ true)) →
      Fit (shapes_from shapes ts) × (length (shapes_from shapes ts) ≡ length shapes + length ts)
  all_types p shapes n [] fit e are f = (fit, (let m : length shapes ≡ length shapes + 0 = omega arith in m))
  all_types p shapes n (t ∷ ts) fit e are f =
      let a = and_is (all (λ (c : Component). is_declared n c.declared) t.components.items) (all (is_final p) t.finals.items && are_types p (suc n) ts) are in
      let b = and_is (all (is_final p) t.finals.items) (are_types p (suc n) ts) a.1 in
      let here = f 0 t refl in
      let at : n + 0 ≡ length shapes = omega (arith, e) in
      let found : slice_get types (length shapes) ≡ Some t = ap (slice_get types) (sym at) ∙ here.0 in
      let x = Record (length shapes) (parts_in shapes t.components.items) in
      let m = length-append shapes (x ∷ []) in
      let r = all_types p (shapes ++ x ∷ []) (suc n) ts (one_more shapes t fit found (parts_are shapes n t.components.items fit e a.0 here.1) (parts_fit shapes n t.components.items fit e a.0 here.1)) (omega (arith, e, m)) b.1
      (λ k y g. let there : suc n + k ≡ n + suc k = omega arith in let q = f (suc k) y g in (ap (slice_get types) there ∙ q.0, q.1)) in
      (r.0, omega (arith, r.1, m))

-- ---- programs

all_at : {A : Type 0} (f : A → Bool) (xs : List A) (n : ℕ) (x : A) → all f xs ≡ true → slice_get xs n ≡ Some x → f x ≡ true
all_at f [] n x e g = cc
all_at f (y ∷ xs) zero x e g = let same : y ≡ x = cc in ap f (sym same) ∙ (and_is _ _ e).0
all_at f (y ∷ xs) (suc n) x e g = all_at f xs n x (and_is _ _ e).1 g

module _ (p : Program) (formed : IsWellFormed p) (sense : MakesSense p) where
  -- the parts of what makes sense
  record Formed : Type 0 where
    types : are_types p 0 p.types.items ≡ true
    statics : all (λ (y : Static). is_declared (length p.types.items) y.declared) p.statics.items ≡ true
    variables : all (are_declared p) (p.main ∷ p.procedures.items) ≡ true

  formed_parts : Formed
  formed_parts =
      let a = and_is (are_types p 0 p.types.items) (all (λ (y : Static). is_declared (length p.types.items) y.declared) p.statics.items
      && (all (are_declared p) (p.main ∷ p.procedures.items) && all (is_procedure p) (p.main ∷ p.procedures.items))) formed in
      let b = and_is _ _ a.1 in let c = and_is _ _ b.1 in
      record { types = a.0; statics = b.0; variables = c.0 }

  -- the trees of all types
  shapes_fit : Fit p.types.items (shapes_of p.types.items) × (length (shapes_of p.types.items) ≡ length p.types.items)
  shapes_fit =
      let start : Fit p.types.items [] = record { trees = λ u y h e. absurd (omega (arith, h)); by = λ u h. absurd (omega (arith, h)) } in
      let r = all_types p.types.items p [] 0 p.types.items start refl formed_parts.types
      (λ k t f. let same : k ≡ 0 + k = omega arith in (ap (slice_get p.types.items) (sym same) ∙ f, sense.components k t f)) in
      (r.0, r.1 ∙ (let m : 0 + length p.types.items ≡ length p.types.items = omega arith in m))

  get_less : (xs : List Derived) (n : ℕ) (y : Derived) → slice_get xs n ≡ Some y → n < length xs
  get_less [] n y e = cc
  get_less (x ∷ xs) zero y e = omega arith
  get_less (x ∷ xs) (suc n) y e = let h = get_less xs n y e in omega (arith, h)

  -- the tree of a type has its components
  pub tree_is : (t : ℕ) (y : Derived) → slice_get p.types.items t ≡ Some y → PartsFit p.types.items y.components.items (components_of (slice_index_or (shapes_of p.types.items) t Whole))
  tree_is t y e = shapes_fit.0.trees t y (let h = get_less p.types.items t y e in let m = shapes_fit.1 in omega (arith, h, m)) e

  types_from : (k : ℕ) (ts : List Derived) (t : ℕ) (y : Derived) → are_types p k ts ≡ true → slice_get ts t ≡ Some y →
      all (λ (c : Component). is_declared (k + t) c.declared) y.components.items ≡ true
  types_from k [] t y e f = cc
  types_from k (x ∷ ts) zero y e f =
      let same : x ≡ y = some_same f in let at : k ≡ k + 0 = omega arith in
      subst (λ (z : Derived). all (λ (c : Component). is_declared (k + 0) c.declared) z.components.items ≡ true) same
      (subst (λ n. all (λ (c : Component). is_declared n c.declared) x.components.items ≡ true) at (and_is _ _ e).0)
  types_from k (x ∷ ts) (suc t) y e f =
      let at : suc k + t ≡ k + suc t = omega arith in
      subst (λ n. all (λ (c : Component). is_declared n c.declared) y.components.items ≡ true) at (types_from (suc k) ts t y (and_is _ _ (and_is _ _ e).1).1 f)

  pub components_declared : (t : ℕ) (y : Derived) → slice_get p.types.items t ≡ Some y → all (λ (c : Component). is_declared (0 + t) c.declared) y.components.items ≡ true
  components_declared t y e = types_from 0 p.types.items t y formed_parts.types e

  pub initial_is : (of : Base) → is_before (length p.types.items) of ≡ true → IsOf p.types.items (of_kind of 0) (initial (setting_of p) of)
  initial_is of e =
      type_is p.types.items (shapes_of p.types.items) (length p.types.items) of shapes_fit.0 (sym shapes_fit.1) e

  value_is : (d : Declared) → is_declared (length p.types.items) d ≡ true → initial_fits d ≡ true → IsOf p.types.items d.kind (initial_value (setting_of p) d)
  value_is d e fit = declared_is p.types.items (length p.types.items) d _ e fit (initial_is d.kind.of (and_is _ _ e).0)

  pub static_is : (n : ℕ) (y : Static) → slice_get p.statics.items n ≡ Some y → IsOf p.types.items y.declared.kind (initial_value (setting_of p) y.declared)
  static_is n y e = value_is y.declared (all_at _ p.statics.items n y formed_parts.statics e) (all_at _ p.statics.items n y sense.statics e)

  pub variable_is : (n m : ℕ) (q : Procedure) (d : Declared) → slice_get (p.main ∷ p.procedures.items) n ≡ Some q → slice_get (declared_in q) m ≡ Some d →
      IsOf p.types.items d.kind (initial_value (setting_of p) d)
  variable_is n m q d e f =
      let a = all_at (are_declared p) (p.main ∷ p.procedures.items) n q formed_parts.variables e in
      let b = all_at (λ (x : Procedure). all initial_fits (declared_in x)) (p.main ∷ p.procedures.items) n q sense.variables e in
      value_is d (all_at (is_declared (length p.types.items)) (declared_in q) m d (and_is _ _ a).0 f) (all_at initial_fits (declared_in q) m d b f)

pub initials_fit : (p : Program) → IsWellFormed p → MakesSense p →
    ((of : Base) → is_before (length p.types.items) of ≡ true → IsOf p.types.items (of_kind of 0) (initial (setting_of p) of))
    × ((n : ℕ) (y : Static) → slice_get p.statics.items n ≡ Some y → IsOf p.types.items y.declared.kind (initial_value (setting_of p) y.declared))
    × ((n m : ℕ) (q : Procedure) (d : Declared) → slice_get (p.main ∷ p.procedures.items) n ≡ Some q → slice_get (declared_in q) m ≡ Some d →
    IsOf p.types.items d.kind (initial_value (setting_of p) d))
initials_fit p formed sense = (initial_is p formed sense, static_is p formed sense, variable_is p formed sense)
