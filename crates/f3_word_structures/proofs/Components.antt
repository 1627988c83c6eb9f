-- What the machine over values does for components, one after another.
use Rattle.std.proofs.Common.{◌≡◌, ◌∙◌, inl, inr, ℕ, zero, suc, ◌+◌, ◌<◌, Bool, true, false, List, [], ◌∷◌, ◌++◌, length, append_assoc, refl, sym, ap, subst, arith}
use Rattle.std.specs.Prelude.{⊤, ◌⊎◌, Option, None, Some, Ok, Err, if◌then◌else◌, slice_get}
use Rattle.f3_places.specs.declared.source.Place.{Place}
use Rattle.f3_program.specs.declared.declarations.Component.{Component}
use Rattle.f3_program.specs.declared.declarations.Declared.{Declared}
use Rattle.f3_program.specs.declared.program.Program.{Program}
use Rattle.f3_meaning_whole.specs.Act as m
use Rattle.f3_meaning_whole.specs.Act.{Here, claim, claim_for, fitted, fitted_argument, laid_out, needs_storage, passed_at, structure}
use Rattle.f3_meaning_whole.specs.Arithmetic.{converted, value_fits}
use Rattle.f3_meaning_whole.specs.Eval.{built}
use Rattle.f3_meaning_whole.specs.Ran.{Ran, World, Gives, Fails, asks, fails, gives, ◌>>=◌}
use Rattle.f3_meaning_whole.specs.Shape.{Shape, initial_declared, initial_of, parts_in, shape_in, spans_declared}
use Rattle.f3_meaning_whole.specs.Store.{Store}
use Rattle.f3_meaning_whole.specs.Value.{Span, Value, Values, Composite, Unallocated, conforms, none, more}
use Rattle.f3_meaning_whole.specs.declared.run_error.RunError.{RunError}
use Rattle.f3_meaning_whole.specs.declared.run_error.RunError.TheVariants as error
use Rattle.f3_meaning_whole.specs.declared.run_error.RunError.TheVariants.{HeapHasNoRoom}
use Rattle.f3_code.specs.Machine.{performs}
use Rattle.f3_code.specs.State.{Failed, Goes, Stays}
use Rattle.f3_code.specs.State as s
use Rattle.f3_word_cells.specs.Does.{AreGranted, stream}
use Rattle.f3_word_cells.proofs.Lines.{answering}
use Rattle.f3_word_structures.specs.Fitting.{Tested}

-- ---- what components take

-- what a heap is asked for a value, where it grants that
abbrev pub grants-for : Value → List Bool
grants-for v = if needs_storage v then false ∷ [] else []

module _ (ts : List Shape) (ps : List m.Passed) where
  -- it takes a value, or has its initial one
  abbrev pub Takes : Component → Option m.Passed → Type 0
  Takes c None = ⊤
  Takes c (Some (m.Given k v)) = (c.declared.kind.is_allocatable ≡ false) × Tested c.declared v (Ok tt)
  Takes c (Some (m.Lent k r)) = ⊥

  abbrev pub value-for : Component → Option m.Passed → Value
  value-for c None = initial_declared c.declared (initial_of (shape_in ts c.declared.kind.of))
  value-for c (Some (m.Given k v)) = laid_out c.declared.kind.rank (spans_declared c.declared.dimensions.items) v
  value-for c (Some (m.Lent k r)) = Unallocated

  -- or it does not
  abbrev pub Refuses : Component → Option m.Passed → RunError → Type 0
  Refuses c (Some (m.Given k v)) e = (c.declared.kind.is_allocatable ≡ false) × Tested c.declared v (Err e)
  Refuses c a e = ⊥

  abbrev pub AllTake : ℕ → List Component → Type 0
  AllTake k [] = ⊤
  AllTake k (c ∷ cs) = Takes c (passed_at k ps) × AllTake (suc k) cs

  abbrev pub values-for : ℕ → List Component → Values
  values-for k [] = none
  values-for k (c ∷ cs) = more (value-for c (passed_at k ps)) (values-for (suc k) cs)

  abbrev pub First : ℕ → ℕ → List Component → RunError → Type 0
  First k n [] e = ⊥
  First k zero (c ∷ cs) e = Refuses c (passed_at k ps) e
  First k (suc n) (c ∷ cs) e = Takes c (passed_at k ps) × First (suc k) n cs e

  abbrev pub all-grants : ℕ → List Component → List Bool
  all-grants k [] = []
  all-grants k (c ∷ cs) = grants-for (value-for c (passed_at k ps)) ++ all-grants (suc k) cs

  abbrev pub some-grants : ℕ → ℕ → List Component → List Bool
  some-grants k n [] = []
  some-grants k zero (c ∷ cs) = []
  some-grants k (suc n) (c ∷ cs) = grants-for (value-for c (passed_at k ps)) ++ some-grants (suc k) n cs

  abbrev pub grants : List Component → List Bool
  grants cs = all-grants 0 cs ++ false ∷ []

  -- ---- no claim is refused there

  for-granted : (v : Value) (bs : List Bool) → AreGranted bs → AreGranted (grants-for v ++ bs)
  for-granted v bs granted = by (needs_storage v)
    where
      by : (b : Bool) → AreGranted ((if b then false ∷ [] else []) ++ bs)
      by true = granted
      by false = granted

  all-granted : (k : ℕ) (cs : List Component) (bs : List Bool) → AreGranted bs → AreGranted (all-grants k cs ++ bs)
  all-granted k [] bs granted = granted
  all-granted k (c ∷ cs) bs granted =
      let v = value-for c (passed_at k ps) in
      subst AreGranted (sym (append_assoc (grants-for v) (all-grants (suc k) cs) bs)) (for-granted v (all-grants (suc k) cs ++ bs) (all-granted (suc k) cs bs granted))

  pub grants-granted : (cs : List Component) → AreGranted (grants cs)
  grants-granted cs = all-granted 0 cs (false ∷ []) tt

  pub some-granted : (k n : ℕ) (cs : List Component) → AreGranted (some-grants k n cs)
  some-granted k n [] = tt
  some-granted k zero (c ∷ cs) = tt
  some-granted k (suc n) (c ∷ cs) = for-granted (value-for c (passed_at k ps)) (some-grants (suc k) n cs) (some-granted (suc k) n cs)

  -- ---- by their numbers

  abbrev Each : (Component → Option m.Passed → Type 0) → ℕ → List Component → Type 0
  Each P k cs = (j : ℕ) (c : Component) → slice_get cs j ≡ Some c → P c (passed_at (k + j) ps)

  at-first : (P : Component → Option m.Passed → Type 0) (k : ℕ) (c : Component) → P c (passed_at (k + 0) ps) → P c (passed_at k ps)
  at-first P k c h = let e : k + 0 ≡ k = omega arith in subst (λ i. P c (passed_at i ps)) e h

  at-next : (P : Component → Option m.Passed → Type 0) (k : ℕ) (c : Component) (cs : List Component) → Each P k (c ∷ cs) → Each P (suc k) cs
  at-next P k c cs h j x e = let f : k + suc j ≡ suc k + j = omega arith in subst (λ i. P x (passed_at i ps)) f (h (suc j) x e)

  pub each-takes : (k : ℕ) (cs : List Component) → Each Takes k cs → AllTake k cs
  each-takes k [] h = tt
  each-takes k (c ∷ cs) h = (at-first Takes k c (h 0 c refl), each-takes (suc k) cs (at-next Takes k c cs h))

  pub first-of : (k n : ℕ) (cs : List Component) (c : Component) (e : RunError) → slice_get cs n ≡ Some c → Refuses c (passed_at (k + n) ps) e
      → ((j : ℕ) (x : Component) → j < n → slice_get cs j ≡ Some x → Takes x (passed_at (k + j) ps)) → First k n cs e
  first-of k n [] c e at bad before = absurd cc
  first-of k zero (x ∷ cs) c e at bad before =
      let same : c ≡ x = cc in
      at-first (λ z a. Refuses z a e) k x (subst (λ z. Refuses z (passed_at (k + 0) ps) e) same bad)
  first-of k (suc n) (x ∷ cs) c e at bad before =
      let f : k + suc n ≡ suc k + n = omega arith in (
        at-first Takes k x (before 0 x (omega arith) refl),
        first-of (suc k) n cs c e at (subst (λ i. Refuses c (passed_at i ps) e) f bad)
            (λ j y lt there. let g : k + suc j ≡ suc k + j = omega arith in subst (λ i. Takes y (passed_at i ps)) g (before (suc j) y (omega arith) there)),
      )

-- ---- parts of runs in which nothing happens

-- it gives this, and the world is that then; or it fails so
abbrev Runs : {A : Type 0} → Ran A → World → A → World → Type 0
Runs r w x u = r.from w ≡ record { out = []; end = Gives x u }

abbrev FailsSo : {A : Type 0} → Ran A → World → RunError → Place → Type 0
FailsSo r w e place = r.from w ≡ record { out = []; end = Fails e place }

gives-runs : {A : Type 0} (x : A) (w : World) → Runs (gives x) w x w
unfolding gives
gives-runs x w = refl

then-runs : {A B : Type 0} (r : Ran A) (f : A → Ran B) (w u z : World) (x : A) (y : B) → Runs r w x u → Runs (f x) u y z → Runs (r >>= f) w y z
unfolding ◌>>=◌
then-runs r f w u z x y a b = rw a (rw b refl)

then-fails : {A B : Type 0} (r : Ran A) (f : A → Ran B) (w u : World) (x : A) (e : RunError) (place : Place) → Runs r w x u → FailsSo (f x) u e place → FailsSo (r >>= f) w e place
unfolding ◌>>=◌
then-fails r f w u x e place a b = rw a (rw b refl)

first-fails : {A B : Type 0} (r : Ran A) (f : A → Ran B) (w : World) (e : RunError) (place : Place) → FailsSo r w e place → FailsSo (r >>= f) w e place
unfolding ◌>>=◌
first-fails r f w e place a = rw a refl

performs-runs : {A : Type 0} (r : Ran A) (w u : World) (x : A) (f : A → World → s.State) → Runs r w x u → performs r w f ≡ Goes [] (f x u)
performs-runs r w u x f a = rw a refl

performs-fails : {A : Type 0} (r : Ran A) (w : World) (e : RunError) (place : Place) (f : A → World → s.State) → FailsSo r w e place → performs r w f ≡ Stays [] (Failed e place)
performs-fails r w e place f a = rw a refl

-- ---- claims

module _ (here : Here) (store : Store) (rest : ℕ → Bool) where
  abbrev In : List Bool → World
  In bs = answering store (stream bs rest)

  claim-runs : (bs : List Bool) → Runs (claim here) (In (false ∷ bs)) tt (In bs)
  unfolding asks gives ◌>>=◌
  claim-runs bs = refl

  claim-fails : (bs : List Bool) → FailsSo (claim here) (In (true ∷ bs)) HeapHasNoRoom here.place
  unfolding asks fails ◌>>=◌
  claim-fails bs = refl

  claims-run : (v : Value) (bs : List Bool) → Runs (claim_for v here) (In (grants-for v ++ bs)) tt (In bs)
  claims-run v bs = by (needs_storage v)
    where
      by : (b : Bool) → Runs (if b then claim here else gives tt) (In ((if b then false ∷ [] else []) ++ bs)) tt (In bs)
      by true = claim-runs bs
      by false = gives-runs tt (In bs)

  claims-fail : (v : Value) (bs : List Bool) → needs_storage v ≡ true → FailsSo (claim_for v here) (In (true ∷ bs)) HeapHasNoRoom here.place
  claims-fail v bs e = ap (λ b. let r : Ran ⊤ = if b then claim here else gives tt in r.from (In (true ∷ bs))) e ∙ claim-fails bs

  -- ---- a component

  abbrev spans : Declared → List Span
  spans d = spans_declared d.dimensions.items

  takes-run : (d : Declared) (v : Value) (w : World) → d.kind.is_allocatable ≡ false → Tested d v (Ok tt) → Runs (fitted d v here) w (laid_out d.kind.rank (spans d) v) w
  unfolding fitted converted gives ◌>>=◌
  takes-run d v w fixed tested = rw (fixed, tested.0, tested.1) refl

  shape-fails : (d : Declared) (v : Value) (w : World) → d.kind.is_allocatable ≡ false → conforms (spans d) v ≡ false → FailsSo (fitted d v here) w error.ShapesDiffer here.place
  unfolding fitted fails
  shape-fails d v w fixed e = rw (fixed, e) refl

  number-fails : (d : Declared) (v : Value) (w : World) → d.kind.is_allocatable ≡ false → conforms (spans d) v ≡ true → value_fits d.kind.of v ≡ false → FailsSo (fitted d v here) w error.Overflow here.place
  unfolding fitted converted fails ◌>>=◌
  number-fails d v w fixed e f = rw (fixed, e, f) refl

  tested-fails : (d : Declared) (v : Value) (w : World) (e : RunError) → d.kind.is_allocatable ≡ false → Tested d v (Err e) → FailsSo (fitted d v here) w e here.place
  tested-fails d v w error.ShapesDiffer fixed tested = shape-fails d v w fixed tested
  tested-fails d v w error.Overflow fixed tested = number-fails d v w fixed tested.0 tested.1
  tested-fails d v w e fixed tested = absurd tested

  module _ (ts : List Shape) (ps : List m.Passed) where
    argument-runs : (c : Component) (a : Option m.Passed) (w : World) → Takes ts ps c a
        → Runs (fitted_argument c.declared (initial_declared c.declared (initial_of (shape_in ts c.declared.kind.of))) a here) w (value-for ts ps c a) w
    argument-runs c None w takes = gives-runs _ w
    argument-runs c (Some (m.Given k v)) w takes = takes-run c.declared v w takes.0 takes.1
    argument-runs c (Some (m.Lent k r)) w takes = absurd takes

    argument-fails : (c : Component) (a : Option m.Passed) (w : World) (e : RunError) → Refuses ts ps c a e
        → FailsSo (fitted_argument c.declared (initial_declared c.declared (initial_of (shape_in ts c.declared.kind.of))) a here) w e here.place
    argument-fails c None w e bad = absurd bad
    argument-fails c (Some (m.Given k v)) w e bad = tested-fails c.declared v w e bad.0 bad.1
    argument-fails c (Some (m.Lent k r)) w e bad = absurd bad

    -- ---- one after another

    components-run : (k : ℕ) (cs : List Component) (bs : List Bool) → AllTake ts ps k cs → Runs (structure (parts_in ts cs) k ps here) (In (all-grants ts ps k cs ++ bs)) (values-for ts ps k cs) (In bs)
    components-run k [] bs all = gives-runs none (In bs)
    components-run k (c ∷ cs) bs all =
        let v = value-for ts ps c (passed_at k ps) in
        let w = In (all-grants ts ps k (c ∷ cs) ++ bs) in
        let more-bs = all-grants ts ps (suc k) cs ++ bs in
        let same : (grants-for v ++ all-grants ts ps (suc k) cs) ++ bs ≡ grants-for v ++ more-bs = append_assoc (grants-for v) (all-grants ts ps (suc k) cs) bs in
        then-runs _ _ w w (In bs) v _ (argument-runs c (passed_at k ps) w all.0)
        (then-runs _ _ w (In more-bs) (In bs) tt _ (subst (λ l. Runs (claim_for v here) (In l) tt (In more-bs)) (sym same) (claims-run v more-bs))
        (then-runs _ _ (In more-bs) (In bs) (In bs) (values-for ts ps (suc k) cs) _ (components-run (suc k) cs bs all.1) (gives-runs _ (In bs))))

    -- up to one that does not
    components-fail : (k n : ℕ) (cs : List Component) (e : RunError) → First ts ps k n cs e → FailsSo (structure (parts_in ts cs) k ps here) (In (some-grants ts ps k n cs)) e here.place
    components-fail k n [] e first = absurd first
    components-fail k zero (c ∷ cs) e first = first-fails _ _ (In []) e here.place (argument-fails c (passed_at k ps) (In []) e first)
    components-fail k (suc n) (c ∷ cs) e first =
        let v = value-for ts ps c (passed_at k ps) in
        let w = In (some-grants ts ps k (suc n) (c ∷ cs)) in
        let rest-bs = some-grants ts ps (suc k) n cs in
        then-fails _ _ w w v e here.place (argument-runs c (passed_at k ps) w first.0)
        (then-fails _ _ w (In rest-bs) tt e here.place (claims-run v rest-bs)
        (first-fails _ _ (In rest-bs) e here.place (components-fail (suc k) n cs e first.1)))

    -- where the first claim is refused: a component's, or there is none of these
    abbrev Refused : ℕ → List Component → Type 0
    Refused k cs = FailsSo (structure (parts_in ts cs) k ps here) (In (true ∷ [])) HeapHasNoRoom here.place
        ⊎ Runs (structure (parts_in ts cs) k ps here) (In (true ∷ [])) (values-for ts ps k cs) (In (true ∷ []))

    module _ (k : ℕ) (c : Component) (cs : List Component) (all : AllTake ts ps k (c ∷ cs)) where
      abbrev v : Value
      v = value-for ts ps c (passed_at k ps)

      abbrev w : World
      w = In (true ∷ [])

      refused-further : Runs (claim_for v here) w tt w → Refused (suc k) cs → Refused k (c ∷ cs)
      refused-further claimed (inl bad) = inl (then-fails _ _ w w v HeapHasNoRoom here.place (argument-runs c (passed_at k ps) w all.0)
          (then-fails _ _ w w tt HeapHasNoRoom here.place claimed (first-fails _ _ w HeapHasNoRoom here.place bad)))
      refused-further claimed (inr runs) = inr (then-runs _ _ w w w v _ (argument-runs c (passed_at k ps) w all.0)
          (then-runs _ _ w w w tt _ claimed (then-runs _ _ w w w (values-for ts ps (suc k) cs) _ runs (gives-runs _ w))))

      refused-by : (b : Bool) → needs_storage v ≡ b → Refused (suc k) cs → Refused k (c ∷ cs)
      refused-by true e onward = inl (then-fails _ _ w w v HeapHasNoRoom here.place (argument-runs c (passed_at k ps) w all.0)
          (first-fails _ _ w HeapHasNoRoom here.place (claims-fail v [] e)))
      refused-by false e onward = refused-further (ap (λ b. let r : Ran ⊤ = if b then claim here else gives tt in r.from w) e ∙ gives-runs tt w) onward

    components-refused : (k : ℕ) (cs : List Component) → AllTake ts ps k cs → Refused k cs
    components-refused k [] all = inr (gives-runs none (In (true ∷ [])))
    components-refused k (c ∷ cs) all = refused-by k c cs all (needs_storage (value-for ts ps c (passed_at k ps))) refl (components-refused (suc k) cs all.1)

    -- ---- the whole

    abbrev pub whole : List Component → Ran Value
    whole cs = structure (parts_in ts cs) 0 ps here >>= λ vs. built (Composite vs) here

    built-runs : (vs : Values) (bs : List Bool) → Runs (built (Composite vs) here) (In (false ∷ bs)) (Composite vs) (In bs)
    built-runs vs bs = then-runs _ _ (In (false ∷ bs)) (In bs) (In bs) tt (Composite vs) (claim-runs bs) (gives-runs (Composite vs) (In bs))

    pub whole-goes : (cs : List Component) (f : Value → World → s.State) → AllTake ts ps 0 cs
        → performs (whole cs) (In (grants ts ps cs)) f ≡ Goes [] (f (Composite (values-for ts ps 0 cs)) (In []))
    whole-goes cs f all =
        performs-runs (whole cs) (In (grants ts ps cs)) (In []) (Composite (values-for ts ps 0 cs)) f
        (then-runs _ _ (In (grants ts ps cs)) (In (false ∷ [])) (In []) (values-for ts ps 0 cs) _ (components-run 0 cs (false ∷ []) all) (built-runs (values-for ts ps 0 cs) []))

    pub whole-refused : (cs : List Component) (f : Value → World → s.State) → AllTake ts ps 0 cs → performs (whole cs) (In (true ∷ [])) f ≡ Stays [] (Failed HeapHasNoRoom here.place)
    whole-refused cs f all = performs-fails (whole cs) (In (true ∷ [])) HeapHasNoRoom here.place f (by (components-refused 0 cs all))
      where
        by : Refused 0 cs → FailsSo (whole cs) (In (true ∷ [])) HeapHasNoRoom here.place
        by (inl bad) = first-fails _ _ (In (true ∷ [])) HeapHasNoRoom here.place bad
        by (inr runs) = then-fails _ _ (In (true ∷ [])) (In (true ∷ [])) (values-for ts ps 0 cs) HeapHasNoRoom here.place runs
            (first-fails _ _ (In (true ∷ [])) HeapHasNoRoom here.place (claim-fails []))

    pub whole-fails : (n : ℕ) (cs : List Component) (e : RunError) (f : Value → World → s.State) → First ts ps 0 n cs e
        → performs (whole cs) (In (some-grants ts ps 0 n cs)) f ≡ Stays [] (Failed e here.place)
    whole-fails n cs e f first =
        performs-fails (whole cs) (In (some-grants ts ps 0 n cs)) e here.place f (first-fails _ _ (In (some-grants ts ps 0 n cs)) e here.place (components-fail 0 n cs e first))
