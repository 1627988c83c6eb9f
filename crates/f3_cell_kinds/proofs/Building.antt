-- Structures are of their types.
use Rattle.std.proofs.Common.{◌≡◌, ◌∙◌, sym, ap, ℕ, zero, suc, ◌+◌, ◌*◌, Bool, true, false, ◌&&◌, ◌||◌, not, List, [], ◌∷◌, length, Option, Some, refl, subst, if◌then◌else◌, arith}
use Rattle.std.specs.Prelude.{nat_eq, nat_lt, slice_get}
use Rattle.std.proofs.lemmas.Bool.{eqb-true, lt-ltb}
use Rattle.f3_places.specs.declared.source.Place.{Place}
use Rattle.f3_program.specs.declared.declarations.Base.{Base}
use Rattle.f3_program.specs.declared.declarations.Component.{Component}
use Rattle.f3_program.specs.declared.declarations.Declared.{Declared}
use Rattle.f3_program.specs.declared.declarations.Derived.{Derived}
use Rattle.f3_program.specs.declared.declarations.Kind.{Kind}
use Rattle.f3_meaning_whole.specs.Value.{Span, Value, Number, Truth, Composite, Array, Unallocated, Allocated, Values, none, more, listed, joined, count, same_extents, conforms, spread, shown}
use Rattle.f3_meaning_whole.specs.Store.{Store, get}
use Rattle.f3_meaning_whole.specs.Reference.{Reach, One, Many, Reference, held_at}
use Rattle.f3_meaning_whole.specs.Arithmetic.{converted, value_fits}
use Rattle.f3_meaning_whole.specs.Shape.{Parts, nothing, and, spans_declared, initial_of, initial_declared}
use Rattle.f3_meaning_whole.specs.Act.{Here, Passed, Given, Lent, passed_at, laid_out, fitted, fitted_contents, fitted_argument, structure}
use Rattle.f3_meaning_whole.specs.Formed.{all, some, alike, of_kind, takes, component_takes, fits_component, at_most_once, is_before, is_declared}
use Rattle.f3_meaning_whole.specs.Formed as formed
use Rattle.f3_cell_kinds.specs.Effect.{held_kind, is_whole_for}
use Rattle.f3_cell_kinds.specs.Holds.{Reaches, HasBounds, IsOf, AreComponents, AreElements}
use Rattle.f3_cell_kinds.specs.Stands.{PassedStands}
use Rattle.f3_cell_kinds.proofs.Asked.{and_is, or_is, not_is, kind_same}
use Rattle.f3_cell_kinds.proofs.Scalars.{no_rank, no_both, rank_is, alike_is}
use Rattle.f3_cell_kinds.proofs.Calm.{Calm, gives_calm, fails_calm, looks_calm, bind_calm, if_calm, claim_for_calm}
use Rattle.f3_cell_kinds.proofs.Reaching.{AllPassed, shown_length, shown_count}
use Rattle.f3_cell_kinds.proofs.Initials.{spans_count, initial_bounds, PartsFit}
use Rattle.f3_cell_kinds.proofs.Changing.{one_bounds}

joined_listed : (vs : Values) → joined (listed vs) ≡ vs
joined_listed none = refl
joined_listed (more v vs) = ap (λ l. more v l) (joined_listed vs)

extents_count : (ss ts : List Span) → same_extents ss ts ≡ true → count ss ≡ count ts
extents_count [] [] e = refl
extents_count [] (t ∷ ts) e = cc
extents_count (s ∷ ss) [] e = cc
extents_count (s ∷ ss) (t ∷ ts) e = by (nat_eq s.extent t.extent) refl e (λ f. extents_count ss ts f)
  where
    by : (b : Bool) → nat_eq s.extent t.extent ≡ b → (if b then same_extents ss ts else false) ≡ true → (same_extents ss ts ≡ true → count ss ≡ count ts) →
        s.extent * count ss ≡ t.extent * count ts
    by true f e k = ap (λ n. n * count ss) (eqb-true s.extent t.extent f) ∙ ap (λ n. t.extent * n) (k e)
    by false f e k = cc

module _ (types : List Derived) where
  converted_calm : {store : Store} (t : Base) (v : Value) (place : Place) → Calm (λ x. x ≡ v) store (converted t v place)
  unfolding converted
  converted_calm t v place = if_calm (value_fits t v) (λ e. gives_calm v refl) (λ e. fails_calm _ place)

  -- one value for each element
  spread_is : (of : Base) (n : ℕ) (v : Value) → IsOf types (of_kind of 0) v → (length (listed (joined (spread n v))) ≡ n) × AreElements types (of_kind of 0) (joined (spread n v))
  spread_is of n (Array ss vs) h = absurd (no_rank 0 refl h.1)
  spread_is of n Unallocated h = absurd (no_both false h refl)
  spread_is of n (Allocated v) h = absurd (no_both false h.0 refl)
  spread_is of zero (Number z) h = (refl, tt)
  spread_is of (suc n) (Number z) h = let r = spread_is of n (Number z) h in (ap suc r.0, (h, r.1))
  spread_is of zero (Truth b) h = (refl, tt)
  spread_is of (suc n) (Truth b) h = let r = spread_is of n (Truth b) h in (ap suc r.0, (h, r.1))
  spread_is of zero (Composite vs) h = (refl, tt)
  spread_is of (suc n) (Composite vs) h = let r = spread_is of n (Composite vs) h in (ap suc r.0, (h, r.1))

  -- a value of the rank, or a scalar
  spread_by : (of : Base) (rank : ℕ) (ss : List Span) (v : Value) → conforms ss v ≡ true → IsOf types (of_kind of rank) v →
      (length (listed (joined (spread (count ss) v))) ≡ count ss) × AreElements types (of_kind of 0) (joined (spread (count ss) v))
  spread_by of rank ss (Array ts vs) e h = (
    ap (λ l. length (listed l)) (joined_listed vs) ∙ h.3 ∙ sym (extents_count ss ts e),
    subst (λ l. AreElements types (of_kind of 0) l) (sym (joined_listed vs)) h.4,
  )
  spread_by of rank ss (Number z) e h =
      let r = sym (rank_is types (of_kind of rank) (Number z) refl h) in spread_is of (count ss) (Number z) (subst (λ n. IsOf types (of_kind of n) (Number z)) r h)
  spread_by of rank ss (Truth b) e h =
      let r = sym (rank_is types (of_kind of rank) (Truth b) refl h) in spread_is of (count ss) (Truth b) (subst (λ n. IsOf types (of_kind of n) (Truth b)) r h)
  spread_by of rank ss (Composite vs) e h =
      let r = sym (rank_is types (of_kind of rank) (Composite vs) refl h) in spread_is of (count ss) (Composite vs) (subst (λ n. IsOf types (of_kind of n) (Composite vs)) r h)
  spread_by of rank ss Unallocated e h = absurd (no_both false h refl)
  spread_by of rank ss (Allocated v) e h = absurd (no_both false h.0 refl)

  laid_is : (k : Kind) (rank r : ℕ) (ss : List Span) (v : Value) → k.rank ≡ rank → k.is_allocatable ≡ false → length ss ≡ k.rank → (nat_eq r 0 || nat_eq r k.rank) ≡ true →
      conforms ss v ≡ true → IsOf types (of_kind k.of r) v → IsOf types k (laid_out rank ss v)
  laid_is k zero r ss v e held many fit c h =
      let same : r ≡ 0 = by (nat_eq r 0) refl in
      subst (λ (z : Kind). IsOf types z v) (sym (kind_same k k.of 0 false refl e held)) (subst (λ n. IsOf types (of_kind k.of n) v) same h)
    where
      by : (b : Bool) → nat_eq r 0 ≡ b → r ≡ 0
      by true f = eqb-true r 0 f
      by false f = eqb-true r k.rank (or_is _ _ fit f) ∙ e
  laid_is k (suc rank) r ss v e held many fit c h =
      let f = spread_by k.of r ss v c h in
      let some : nat_lt 0 k.rank ≡ true = ap (λ n. nat_lt 0 n) e ∙ lt-ltb 0 (suc rank) (omega arith) in
      (held, some, many, f.0, f.1)

  laid_bounds : (d : Declared) (rank : ℕ) (v : Value) → d.kind.rank ≡ rank → IsOf types d.kind (laid_out rank (spans_declared d.dimensions.items) v) →
      HasBounds d (laid_out rank (spans_declared d.dimensions.items) v)
  laid_bounds d zero v e h = one_bounds types d d.kind v (ap (λ n. d.kind.is_allocatable || nat_eq n 0) e ∙ or_true d.kind.is_allocatable) h
    where
      or_true : (b : Bool) → (b || true) ≡ true
      or_true true = refl
      or_true false = refl
  laid_bounds d (suc rank) v e h = refl

  -- what a component holds
  abbrev pub IsPart : Declared → Value → Type 0
  IsPart d v = IsOf types d.kind v × HasBounds d v

  -- a value that a component takes
  fitted_calm : {store : Store} (n : ℕ) (d : Declared) (k : Kind) (v : Value) (here : Here) → is_declared n d ≡ true → alike d.kind.of k.of ≡ true → k.is_allocatable ≡ false →
      (d.kind.is_allocatable ≡ true → d.kind.rank ≡ k.rank) → (d.kind.is_allocatable ≡ false → (nat_eq k.rank 0 || nat_eq k.rank d.kind.rank) ≡ true) → IsOf types k v →
      Calm (IsPart d) store (fitted d v here)
  unfolding fitted
  fitted_calm {store = store} n d k v here declared same held whole part h =
      let is = alike_is types d.kind.of k v same held h in
      if_calm d.kind.is_allocatable
      (λ e. bind_calm (converted_calm d.kind.of v here.place) (λ x f. gives_calm _ (
        (
          e,
          subst (λ y. IsOf types (held_kind d.kind) y) (sym f) (subst (λ m. IsOf types (of_kind d.kind.of m) v) (sym (whole e)) is),
        ),
        tt,
      )))
      (λ e. if_calm (conforms (spans_declared d.dimensions.items) v)
      (λ c. bind_calm (converted_calm d.kind.of v here.place) (λ x f. gives_calm _
      (subst (λ y. IsPart d (laid_out d.kind.rank (spans_declared d.dimensions.items) y)) (sym f)
      (let a = laid_is d.kind d.kind.rank k.rank (spans_declared d.dimensions.items) v refl e (many e) (part e) c is in (a, laid_bounds d d.kind.rank v refl a)))))
      (λ c. fails_calm _ here.place))
    where
      many : d.kind.is_allocatable ≡ false → length (spans_declared d.dimensions.items) ≡ d.kind.rank
      many e =
          let a = (and_is (is_before n d.kind.of) (if d.kind.is_allocatable then nat_eq (length d.dimensions.items) 0 else nat_eq (length d.dimensions.items) d.kind.rank) declared).1 in
          let b = subst (λ (t : Bool). (if t then nat_eq (length d.dimensions.items) 0 else nat_eq (length d.dimensions.items) d.kind.rank) ≡ true) e a in
          spans_count d.dimensions.items ∙ eqb-true (length d.dimensions.items) d.kind.rank b

  -- what a whole allocatable holds
  contents_calm : {store : Store} (n : ℕ) (d : Declared) (k : Kind) (v : Value) (here : Here) → is_declared n d ≡ true → alike d.kind.of k.of ≡ true → d.kind.is_allocatable ≡ true →
      d.kind.rank ≡ k.rank → k.is_allocatable ≡ true → IsOf types k v → Calm (IsPart d) store (fitted_contents d v here)
  contents_calm n d k (Allocated (Array ss vs)) here declared same whole rank held h =
      fitted_calm n d (held_kind k) (Array (shown ss) vs) here declared same refl (λ e. rank) (λ e. absurd (no_both d.kind.is_allocatable whole e))
      (refl, h.1.1, shown_length types ss ∙ h.1.2, h.1.3 ∙ sym (shown_count types ss), h.1.4)
  contents_calm n d k (Allocated (Number z)) here declared same whole rank held h =
      fitted_calm n d (held_kind k) (Number z) here declared same refl (λ e. rank) (λ e. absurd (no_both d.kind.is_allocatable whole e)) h.1
  contents_calm n d k (Allocated (Truth b)) here declared same whole rank held h =
      fitted_calm n d (held_kind k) (Truth b) here declared same refl (λ e. rank) (λ e. absurd (no_both d.kind.is_allocatable whole e)) h.1
  contents_calm n d k (Allocated (Composite vs)) here declared same whole rank held h =
      fitted_calm n d (held_kind k) (Composite vs) here declared same refl (λ e. rank) (λ e. absurd (no_both d.kind.is_allocatable whole e)) h.1
  contents_calm n d k (Allocated Unallocated) here declared same whole rank held h = absurd (no_both false h.1 refl)
  contents_calm n d k (Allocated (Allocated v)) here declared same whole rank held h = absurd (no_both false h.1.0 refl)
  contents_calm n d k Unallocated here declared same whole rank held h = gives_calm Unallocated (whole, tt)
  contents_calm n d k (Number z) here declared same whole rank held h = gives_calm Unallocated (whole, tt)
  contents_calm n d k (Truth b) here declared same whole rank held h = gives_calm Unallocated (whole, tt)
  contents_calm n d k (Composite vs) here declared same whole rank held h = gives_calm Unallocated (whole, tt)
  contents_calm n d k (Array ss vs) here declared same whole rank held h = gives_calm Unallocated (whole, tt)

  -- ---- arguments

  abbrev pub AllStand : Store → List formed.Given → List Passed → Type 0
  AllStand store (g ∷ gs) (x ∷ xs) = PassedStands types store g x × AllStand store gs xs
  AllStand store gs xs = Unit {0}

  -- a component of a number takes each argument of the number
  abbrev pub TakesAll : Declared → ℕ → List formed.Given → Type 0
  TakesAll d n [] = Unit {0}
  TakesAll d n (g ∷ gs) = (nat_eq g.number n ≡ true → (component_takes d.kind g ≡ true) × (g.is_variable ≡ true → (g.kind.is_allocatable ≡ true) × (d.kind.is_allocatable ≡ true)))
      × TakesAll d n gs

  left_or : (a b : Bool) → (a || b) ≡ true → b ≡ false → a ≡ true
  left_or true b e f = refl
  left_or false b e f = absurd (no_both b e f)

  value_by : (store : Store) (b : Bool) (m : ℕ) (d : Declared) (g : formed.Given) (v : Value) (here : Here) → d.kind.is_allocatable ≡ b → is_declared m d ≡ true →
      (if b then alike d.kind.of g.kind.of && nat_eq d.kind.rank g.kind.rank && (not g.kind.is_allocatable || g.is_variable) else takes d.kind g.kind) ≡ true →
      g.is_variable ≡ false → IsOf types g.kind v → Calm (IsPart d) store (fitted d v here)
  value_by store true m d g v here e declared fit is_value h =
      let a = and_is _ _ fit in let b = and_is _ _ a.0 in
      fitted_calm m d g.kind v here declared b.0 (not_is _ (left_or _ _ a.1 is_value)) (λ f. eqb-true d.kind.rank g.kind.rank b.1)
      (λ f. absurd (no_both d.kind.is_allocatable e f)) h
  value_by store false m d g v here e declared fit is_value h =
      let a = and_is _ _ fit in let b = and_is _ _ a.1 in
      fitted_calm m d g.kind v here declared a.0 (not_is _ b.0) (λ f. absurd (no_both d.kind.is_allocatable f e)) (λ f. b.1) h

  whole_by : (store : Store) (b : Bool) (m : ℕ) (d : Declared) (g : formed.Given) (v : Value) (here : Here) → d.kind.is_allocatable ≡ b → b ≡ true → is_declared m d ≡ true →
      (if b then alike d.kind.of g.kind.of && nat_eq d.kind.rank g.kind.rank && (not g.kind.is_allocatable || g.is_variable) else takes d.kind g.kind) ≡ true →
      g.kind.is_allocatable ≡ true → IsOf types g.kind v → Calm (IsPart d) store (fitted_contents d v here)
  whole_by store true m d g v here e f declared fit held h =
      let a = and_is _ _ fit in let b = and_is _ _ a.0 in
      contents_calm m d g.kind v here declared b.0 e (eqb-true d.kind.rank g.kind.rank b.1) held h
  whole_by store false m d g v here e f declared fit held h = cc

  some_by : (store : Store) (b : Bool) (d : Declared) (init : Value) (x : Passed) (o : Option Passed) (here : Here) →
      (b ≡ true → Calm (IsPart d) store (fitted_argument d init (Some x) here)) → (b ≡ false → Calm (IsPart d) store (fitted_argument d init o here)) →
      Calm (IsPart d) store (fitted_argument d init (if b then Some x else o) here)
  some_by store true d init x o here h k = h refl
  some_by store false d init x o here h k = k refl

  -- an allocatable stands at its path
  whole_stands : (store : Store) (k : Kind) (r : Reference) → k.is_allocatable ≡ true → Reaches k r.reach → IsOf types k (held_at store r.path r.reach) → IsOf types k (get store r.path)
  whole_stands store k r held h is = by r.reach h is
    where
      by : (reach : Reach) → Reaches k reach → IsOf types k (held_at store r.path reach) → IsOf types k (get store r.path)
      by One h is = is
      by (Many ss ps) h is = absurd (no_both k.is_allocatable held h.0)

  -- what a component begins with, or the argument of its number
  argument_calm : (store : Store) (m n : ℕ) (d : Declared) (init : Value) (gs : List formed.Given) (ps : List Passed) (here : Here) → is_declared m d ≡ true → IsPart d init →
      AllPassed types gs ps → AllStand store gs ps → TakesAll d n gs → Calm (IsPart d) store (fitted_argument d init (passed_at n ps) here)
  argument_calm store m n d init [] [] here declared begin are stand fit = gives_calm init begin
  argument_calm store m n d init [] (x ∷ ps) here declared begin are stand fit = absurd are
  argument_calm store m n d init (g ∷ gs) [] here declared begin are stand fit = absurd are
  argument_calm store m n d init (g ∷ gs) (Given k v ∷ ps) here declared begin are stand fit =
      some_by store (nat_eq k n) d init (Given k v) (passed_at n ps) here
      (λ e. value_by store d.kind.is_allocatable m d g v here refl declared (fit.0 (ap (λ j. nat_eq j n) are.0.1 ∙ e)).0 are.0.0 are.0.2)
      (λ e. argument_calm store m n d init gs ps here declared begin are.1 stand.1 fit.1)
  argument_calm store m n d init (g ∷ gs) (Lent k r ∷ ps) here declared begin are stand fit =
      some_by store (nat_eq k n) d init (Lent k r) (passed_at n ps) here
      (λ e. let f = fit.0 (ap (λ j. nat_eq j n) are.0.1 ∙ e) in let w = f.1 are.0.0 in
      bind_calm {Q = IsOf types g.kind} (looks_calm (λ store. get store r.path) (whole_stands store g.kind r w.0 are.0.2.1 stand.0))
      (λ v h. whole_by store d.kind.is_allocatable m d g v here refl w.1 declared f.0 w.0 h))
      (λ e. argument_calm store m n d init gs ps here declared begin are.1 stand.1 fit.1)

  -- ---- structures

  abbrev pub TakesFrom : ℕ → List Component → List formed.Given → Type 0
  TakesFrom n [] gs = Unit {0}
  TakesFrom n (c ∷ cs) gs = TakesAll c.declared n gs × TakesFrom (suc n) cs gs

  pub structure_calm : (store : Store) (m n : ℕ) (cs : List Component) (parts : Parts) (gs : List formed.Given) (ps : List Passed) (here : Here) →
      all (λ (c : Component). is_declared m c.declared) cs ≡ true → PartsFit types cs parts → AllPassed types gs ps → AllStand store gs ps → TakesFrom n cs gs →
      Calm (AreComponents types cs) store (structure parts n ps here)
  structure_calm store m n [] nothing gs ps here declared parts are stand fit = gives_calm none tt
  structure_calm store m n [] (and x s rest) gs ps here declared parts are stand fit = absurd parts
  structure_calm store m n (c ∷ cs) nothing gs ps here declared parts are stand fit = absurd parts
  structure_calm store m n (c ∷ cs) (and x s rest) gs ps here declared parts are stand fit =
      let a = and_is _ _ declared in
      bind_calm {Q = IsPart c.declared}
      (subst (λ (y : Component). Calm (IsPart c.declared) store (fitted_argument y.declared (initial_declared y.declared (initial_of s)) (passed_at n ps) here)) (sym parts.0)
      (argument_calm store m n c.declared (initial_declared c.declared (initial_of s)) gs ps here a.0 (parts.1, initial_bounds c.declared s) are stand fit.0))
      (λ v h. bind_calm (claim_for_calm v here) (λ done t.
      bind_calm (structure_calm store m (suc n) cs rest gs ps here a.1 parts.2 are stand fit.1) (λ vs f. gives_calm (more v vs) (h.0, h.1, f))))

  -- ---- what a structure constructor is given

  takes_all : (all_cs : List Component) (n : ℕ) (c : Component) (gs qs : List formed.Given) → slice_get all_cs n ≡ Some c → all (λ g. fits_component all_cs g && at_most_once qs g) gs ≡ true →
      all (is_whole_for all_cs) gs ≡ true → TakesAll c.declared n gs
  takes_all all_cs n c [] qs e fits whole = tt
  takes_all all_cs n c (g ∷ gs) qs e fits whole =
      let a = and_is _ _ fits in let b = and_is _ _ whole in (
        λ same.
            let at : slice_get all_cs g.number ≡ Some c = ap (slice_get all_cs) (eqb-true g.number n same) ∙ e in
            let f = (and_is _ _ a.0).0 in
            let fit : component_takes c.declared.kind g ≡ true = subst (λ (o : Option Component). some o (λ y. component_takes y.declared.kind g) ≡ true) at f in
            let w : (not g.is_variable || (g.kind.is_allocatable && some (Some c) (λ y. y.declared.kind.is_allocatable))) ≡ true =
            subst (λ (o : Option Component). (not g.is_variable || (g.kind.is_allocatable && some o (λ y. y.declared.kind.is_allocatable))) ≡ true) at b.0 in
            (fit, λ v. and_is g.kind.is_allocatable c.declared.kind.is_allocatable (or_is _ _ w (ap not v))),
        takes_all all_cs n c gs qs e a.1 b.1,
      )

  takes_from : (all_cs cs : List Component) (n : ℕ) (gs : List formed.Given) → ((k : ℕ) (c : Component) → slice_get cs k ≡ Some c → slice_get all_cs (n + k) ≡ Some c) →
      all (λ g. fits_component all_cs g && at_most_once gs g) gs ≡ true → all (is_whole_for all_cs) gs ≡ true → TakesFrom n cs gs
  takes_from all_cs [] n gs f fits whole = tt
  takes_from all_cs (c ∷ cs) n gs f fits whole =
      let here : n ≡ n + 0 = omega arith in (
        takes_all all_cs n c gs gs (ap (slice_get all_cs) here ∙ f 0 c refl) fits whole,
        takes_from all_cs cs (suc n) gs (λ k y e. let there : suc n + k ≡ n + suc k = omega arith in ap (slice_get all_cs) there ∙ f (suc k) y e) fits whole,
      )

  pub structure_takes : (y : Derived) (gs : List formed.Given) → all (λ g. fits_component y.components.items g && at_most_once gs g) gs ≡ true →
      all (is_whole_for y.components.items) gs ≡ true → TakesFrom 0 y.components.items gs
  structure_takes y gs fits whole = takes_from y.components.items y.components.items 0 gs
      (λ k c e. let same : 0 + k ≡ k = omega arith in ap (slice_get y.components.items) same ∙ e) fits whole
