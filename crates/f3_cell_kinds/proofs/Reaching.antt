-- What arguments, dummies and associate names refer to.
use Rattle.std.proofs.Common.{◌≡◌, ◌∙◌, sym, ap, ℕ, suc, ◌+◌, ◌*◌, ℤ, Bool, true, false, ◌&&◌, ◌||◌, List, [], ◌∷◌, ◌++◌, length, Some, refl, subst, if◌then◌else◌, arith}
use Rattle.std.specs.Prelude.{nat_eq, nat_lt, slice_get}
use Rattle.std.proofs.lemmas.Bool.{eqb-true, eq-eqb}
use Rattle.f3_program.specs.declared.declarations.Base.{Base}
use Rattle.f3_program.specs.declared.declarations.Base.TheVariants as base
use Rattle.f3_program.specs.declared.declarations.Derived.{Derived}
use Rattle.f3_program.specs.declared.declarations.Kind.{Kind}
use Rattle.f3_program.specs.declared.program.Dummy.{Dummy}
use Rattle.f3_meaning_whole.specs.Value.{Span, Value, Number, Truth, Composite, Array, Unallocated, Allocated, Values, none, more, listed, joined, count, shown}
use Rattle.f3_meaning_whole.specs.Store.{Path}
use Rattle.f3_meaning_whole.specs.Reference.{Reach, One, Many, Reference, elements_from, reach_of}
use Rattle.f3_meaning_whole.specs.Act.{Passed, Given, Lent, given}
use Rattle.f3_meaning_whole.specs.Exec.{argument_at, based, based_reach, dummies, shown_reach, Association, Holds, Means, associates}
use Rattle.f3_meaning_whole.specs.Formed.{all, some, alike, of_kind, is_scalar, dummy_takes, fits_dummy, given_for, all_given, constructed, kinds_of}
use Rattle.f3_meaning_whole.specs.Permitted.{same_type}
use Rattle.f3_meaning_whole.specs.Formed as formed
use Rattle.f3_cell_kinds.specs.Effect.{are_values}
use Rattle.f3_cell_kinds.specs.Holds.{Reaches, Refers, AllRefer, IsOf, AreElements, IsPassed, IsSelector}
use Rattle.f3_cell_kinds.proofs.Asked.{some_same, and_is, not_is, some_is, base_same, truth_same}
use Rattle.f3_cell_kinds.proofs.Scalars.{alike_is}

alike_swap : (t u : Base) → alike t u ≡ true → alike u t ≡ true
alike_swap base.Integer base.Integer e = refl
alike_swap base.Integer base.Long e = refl
alike_swap base.Long base.Integer e = refl
alike_swap base.Long base.Long e = refl
alike_swap base.Logical base.Logical e = refl
alike_swap (base.Derived t) (base.Derived u) e = eq-eqb u t (sym (eqb-true t u e))
alike_swap t u e = cc

-- a scalar, or an allocatable, is one object
one_of : (k : Kind) → is_scalar k ≡ true → (k.is_allocatable || nat_eq k.rank 0) ≡ true
one_of k e = or_right k.is_allocatable _ (and_is _ _ e).1
  where
    or_right : (a b : Bool) → b ≡ true → (a || b) ≡ true
    or_right true b f = refl
    or_right false b f = f

one_by : (k : Kind) → k.is_allocatable ≡ true → (k.is_allocatable || nat_eq k.rank 0) ≡ true
one_by k e = ap (λ b. b || nat_eq k.rank 0) e

elements_count : (n : ℕ) (p : Path) (vs : Values) → length (elements_from n p vs) ≡ length (listed vs)
elements_count n p none = refl
elements_count n p (more v vs) = ap suc (elements_count (suc n) p vs)

-- the same rank, and allocatable both or neither
pub reaches_same : (k j : Kind) (reach : Reach) → k.rank ≡ j.rank → k.is_allocatable ≡ j.is_allocatable → Reaches k reach → Reaches j reach
reaches_same k j One e f h = ap (λ (b : Bool). b || nat_eq j.rank 0) (sym f) ∙ ap (λ (n : ℕ). k.is_allocatable || nat_eq n 0) (sym e) ∙ h
reaches_same k j (Many ss ps) e f h = (sym f ∙ h.0, ap (λ (n : ℕ). nat_lt 0 n) (sym e) ∙ h.1, h.2 ∙ e, h.3)

module _ (types : List Derived) where
  -- what stands where a value of a kind is
  pub reach_is : (k : Kind) (p : Path) (v : Value) → IsOf types k v → Reaches k (reach_of p v)
  reach_is k p (Number z) h = one_of k (and_is _ _ h.0).0
  reach_is k p (Truth b) h = one_of k (and_is _ _ h).0
  reach_is k p (Composite vs) h = one_of k h.0
  reach_is k p (Array ss vs) h = (h.0, h.1, h.2, elements_count 0 p vs ∙ h.3)
  reach_is k p Unallocated h = one_by k h
  reach_is k p (Allocated v) h = one_by k h.0

  -- ---- bounds

  based_length : (ls : List ℤ) (ss : List Span) → length (based ls ss) ≡ length ss
  based_length [] ss = refl
  based_length (l ∷ ls) [] = refl
  based_length (l ∷ ls) (s ∷ ss) = ap suc (based_length ls ss)

  based_count : (ls : List ℤ) (ss : List Span) → count (based ls ss) ≡ count ss
  based_count [] ss = refl
  based_count (l ∷ ls) [] = refl
  based_count (l ∷ ls) (s ∷ ss) = ap (λ n. s.extent * n) (based_count ls ss)

  based_reaches : (k : Kind) (ls : List ℤ) (reach : Reach) → Reaches k reach → Reaches k (based_reach ls reach)
  based_reaches k ls One h = h
  based_reaches k ls (Many ss ps) h = (h.0, h.1, based_length ls ss ∙ h.2, h.3 ∙ sym (based_count ls ss))

  pub shown_length : (ss : List Span) → length (shown ss) ≡ length ss
  shown_length [] = refl
  shown_length (s ∷ ss) = ap suc (shown_length ss)

  pub shown_count : (ss : List Span) → count (shown ss) ≡ count ss
  shown_count [] = refl
  shown_count (s ∷ ss) = ap (λ n. s.extent * n) (shown_count ss)

  shown_reaches : (k : Kind) (reach : Reach) → Reaches k reach → Reaches k (shown_reach reach)
  shown_reaches k One h = h
  shown_reaches k (Many ss ps) h = (h.0, h.1, shown_length ss ∙ h.2, h.3 ∙ sym (shown_count ss))

  -- ---- arguments

  abbrev pub AllPassed : List formed.Given → List Passed → Type 0
  AllPassed [] [] = Unit {0}
  AllPassed (g ∷ gs) (x ∷ xs) = IsPassed types g x × AllPassed gs xs
  AllPassed gs xs = ⊥

  -- a dummy takes each argument of a number
  abbrev Takes : Dummy → ℕ → List formed.Given → Type 0
  Takes d k [] = Unit {0}
  Takes d k (g ∷ gs) = (nat_eq g.number k ≡ true → dummy_takes d g ≡ true) × Takes d k gs

  given_refers : (d : Dummy) (g : formed.Given) (v : Value) (p : Path) → dummy_takes d g ≡ true → IsOf types g.kind v → Reaches d.kind (reach_of p v)
  given_refers d g v p e h =
      let a = and_is _ _ e in let b = and_is _ _ a.1 in
      reaches_same g.kind d.kind (reach_of p v) (sym (eqb-true _ _ b.0)) (sym (truth_same _ _ b.1)) (reach_is g.kind p v h)

  lent_refers : (d : Dummy) (g : formed.Given) (r : Reference) → dummy_takes d g ≡ true → g.is_variable ≡ true → Refers g.kind r → Refers d.kind r
  lent_refers d g r e f h =
      let a = and_is _ _ e in let b = and_is _ _ a.1 in
      let same = subst (λ (t : Bool). (if t then same_type d.kind.of g.kind.of else alike d.kind.of g.kind.of) ≡ true) f a.0 in
      (h.0 ∙ sym (base_same _ _ same), reaches_same g.kind d.kind r.reach (sym (eqb-true _ _ b.0)) (sym (truth_same _ _ b.1)) h.1)

  by_number : {X : Type 0} (b : Bool) (x y : X) (P : X → Type 0) → (b ≡ true → P x) → (b ≡ false → P y) → P (if b then x else y)
  by_number true x y P h k = h refl
  by_number false x y P h k = k refl

  argument_refers : (d : Dummy) (k : ℕ) (gs : List formed.Given) (ps : List Passed) (level slot unit : ℕ) → AllPassed gs ps → Takes d k gs → nat_eq (given_for k gs) 1 ≡ true →
      Refers d.kind (argument_at k d.kind.of ps level slot unit)
  argument_refers d k [] [] level slot unit are fits one = cc
  argument_refers d k [] (x ∷ ps) level slot unit are fits one = absurd are
  argument_refers d k (g ∷ gs) [] level slot unit are fits one = absurd are
  argument_refers d k (g ∷ gs) (Given n v ∷ ps) level slot unit are fits one =
      by_number (nat_eq n k) _ _ (λ (r : Reference). Refers d.kind r)
      (λ e. (refl, given_refers d g v _ (fits.0 (ap (λ m. nat_eq m k) are.0.1 ∙ e)) are.0.2))
      (λ e. argument_refers d k gs ps level (suc slot) unit are.1 fits.1 (skipped (nat_eq g.number k) (given_for k gs) (ap (λ m. nat_eq m k) are.0.1 ∙ e) one))
    where
      skipped : (b : Bool) (n : ℕ) → b ≡ false → nat_eq (if b then suc n else n) 1 ≡ true → nat_eq n 1 ≡ true
      skipped true n e f = cc
      skipped false n e f = f
  argument_refers d k (g ∷ gs) (Lent n r ∷ ps) level slot unit are fits one =
      by_number (nat_eq n k) _ _ (λ (r : Reference). Refers d.kind r)
      (λ e. lent_refers d g r (fits.0 (ap (λ m. nat_eq m k) are.0.1 ∙ e)) are.0.0 are.0.2)
      (λ e. argument_refers d k gs ps level slot unit are.1 fits.1 (skipped (nat_eq g.number k) (given_for k gs) (ap (λ m. nat_eq m k) are.0.1 ∙ e) one))
    where
      skipped : (b : Bool) (n : ℕ) → b ≡ false → nat_eq (if b then suc n else n) 1 ≡ true → nat_eq n 1 ≡ true
      skipped true n e f = cc
      skipped false n e f = f

  takes_of : (ds : List Dummy) (d : Dummy) (k : ℕ) (gs : List formed.Given) → slice_get ds k ≡ Some d → all (fits_dummy ds) gs ≡ true → Takes d k gs
  takes_of ds d k [] e fits = tt
  takes_of ds d k (g ∷ gs) e fits =
      let a = and_is _ _ fits in
      let v = some_is (slice_get ds g.number) (λ (x : Dummy). dummy_takes x g) a.0 in (
        λ same.
            let at : slice_get ds g.number ≡ Some d = ap (slice_get ds) (eqb-true g.number k same) ∙ e in
            let is : v.0 ≡ d = some_same (sym v.1 ∙ at) in
            subst (λ (x : Dummy). dummy_takes x g ≡ true) is v.2,
        takes_of ds d k gs e a.1,
      )

  pub dummies_refer : (all_ds ds : List Dummy) (k : ℕ) (gs : List formed.Given) (ps : List Passed) (level unit : ℕ) → AllPassed gs ps → all (fits_dummy all_ds) gs ≡ true →
      ((n : ℕ) (d : Dummy) → slice_get ds n ≡ Some d → slice_get all_ds (k + n) ≡ Some d) → all_given k ds gs ≡ true →
      AllRefer (kinds_of ds) (dummies k ds ps level unit)
  dummies_refer all_ds [] k gs ps level unit are fits f each = tt
  dummies_refer all_ds (d ∷ ds) k gs ps level unit are fits f each =
      let a = and_is (nat_eq (given_for k gs) 1) (all_given (suc k) ds gs) each in
      let here : k + 0 ≡ k = omega arith in
      let at : slice_get all_ds k ≡ Some d = ap (slice_get all_ds) (sym here) ∙ f 0 d refl in
      let r = argument_refers d k gs ps level 0 unit are (takes_of all_ds d k gs at fits) a.0 in (
        (r.0, based_reaches d.kind d.lowers.items _ r.1),
        dummies_refer all_ds ds (suc k) gs ps level unit are fits
            (λ n y e. let there : suc k + n ≡ k + suc n = omega arith in ap (slice_get all_ds) there ∙ f (suc n) y e) a.1,
      )

  -- ---- associate names

  abbrev pub AllSelected : List Kind → List Association → Type 0
  AllSelected [] [] = Unit {0}
  AllSelected (k ∷ ks) (x ∷ xs) = IsSelector types k x × AllSelected ks xs
  AllSelected ks xs = ⊥

  pub associates_refer : (ks : List Kind) (xs : List Association) (level slot unit : ℕ) → AllSelected ks xs → AllRefer ks (associates xs level slot unit)
  associates_refer [] [] level slot unit are = tt
  associates_refer [] (x ∷ xs) level slot unit are = absurd are
  associates_refer (k ∷ ks) [] level slot unit are = absurd are
  associates_refer (k ∷ ks) (Holds of v ∷ xs) level slot unit are = ((sym are.0.0, reach_is k _ v are.0.1), associates_refer ks xs level (suc slot) unit are.1)
  associates_refer (k ∷ ks) (Means r ∷ xs) level slot unit are = ((are.0.1.0, shown_reaches k r.reach are.0.1.1), associates_refer ks xs level slot unit are.1)

  pub refer_append : (ks js : List Kind) (rs qs : List Reference) → AllRefer ks rs → AllRefer js qs → AllRefer (ks ++ js) (rs ++ qs)
  refer_append [] js [] qs h f = f
  refer_append [] js (r ∷ rs) qs h f = absurd h
  refer_append (k ∷ ks) js [] qs h f = absurd h
  refer_append (k ∷ ks) js (r ∷ rs) qs h f = (h.0, refer_append ks js rs qs h.1 f)

  -- ---- array constructors

  pub listed_joined : (vs : List Value) → length (listed (joined vs)) ≡ length vs
  listed_joined [] = refl
  listed_joined (v ∷ vs) = ap suc (listed_joined vs)

  pub items_are : (t : Base) (gs : List formed.Given) (ps : List Passed) → AllPassed gs ps →
      all (λ (x : formed.Given). is_scalar x.kind && alike x.kind.of t) gs ≡ true → are_values gs ≡ true → AreElements types (of_kind t 0) (joined (given ps))
  items_are t [] [] are fits values = tt
  items_are t [] (x ∷ ps) are fits values = absurd are
  items_are t (g ∷ gs) [] are fits values = absurd are
  items_are t (g ∷ gs) (Given n v ∷ ps) are fits values =
      let a = and_is _ _ fits in let b = and_is _ _ a.0 in let c = and_is _ _ values in let d = and_is _ _ b.0 in
      (item g.kind v b.1 (not_is _ d.0) (eqb-true g.kind.rank 0 d.1) are.0.2, items_are t gs ps are.1 a.1 c.1)
    where
      item : (k : Kind) (v : Value) → alike k.of t ≡ true → k.is_allocatable ≡ false → k.rank ≡ 0 → IsOf types k v → IsOf types (of_kind t 0) v
      item k v e f r h = subst (λ n. IsOf types (of_kind t n) v) r (alike_is types t k v (alike_swap k.of t e) f h)
  items_are t (g ∷ gs) (Lent n r ∷ ps) are fits values = absurd (never g.is_variable are.0.0 (not_is _ (and_is _ _ values).0))
    where
      never : (b : Bool) → b ≡ true → b ≡ false → ⊥
      never b e f = cc
