-- Where the objects of dummies and associate names lead.
use Rattle.std.proofs.Common.{◌≡◌, ◌∙◌, sym, ap, ℕ, suc, ◌+◌, ℤ, Bool, true, false, List, [], ◌∷◌, ◌++◌, length, Option, Some, None, refl, subst, if◌then◌else◌, arith, length-append, inr}
use Rattle.std.specs.Prelude.{nat_eq, slice_get}
use Rattle.std.proofs.lemmas.Bool.{eqb-true}
use Rattle.f3_program.specs.declared.declarations.Derived.{Derived}
use Rattle.f3_program.specs.declared.declarations.Kind.{Kind}
use Rattle.f3_program.specs.declared.program.Dummy.{Dummy}
use Rattle.f3_program.specs.declared.program.Procedure.{Procedure}
use Rattle.f3_program.specs.declared.program.Program.{Program}
use Rattle.f3_meaning_whole.specs.Value.{Value}
use Rattle.f3_meaning_whole.specs.Store.{Path, Local}
use Rattle.f3_meaning_whole.specs.Reference.{Reach, One, Many, Reference}
use Rattle.f3_meaning_whole.specs.Act.{Passed, Given, Lent, whole}
use Rattle.f3_meaning_whole.specs.Exec.{held, argument_at, based_reach, dummies, shown_reach, Association, Holds, Means, held_by, associates}
use Rattle.f3_meaning_whole.specs.Permitted.{same_type}
use Rattle.f3_meaning_whole.specs.Formed.{all, some, found, alike, dummy_takes, fits_dummy, given_for, all_given, referenced, kinds_of}
use Rattle.f3_meaning_whole.specs.Formed as formed
use Rattle.f3_cell_kinds.specs.Effect.{truth}
use Rattle.f3_cell_kinds.specs.Holds.{IsOf}
use Rattle.f3_cell_kinds.proofs.Asked.{some_same, found_is, only_is, and_is, some_is, base_same, truth_same, kind_same}
use Rattle.f3_cell_kinds.proofs.Reaching.{AllPassed, AllSelected}
use Rattle.f3_store_kinds.specs.Typing.{Typing, kind_by, AreOf, LeadsTo, LeadsBy, Leads, AllLead}
use Rattle.f3_store_kinds.specs.Accords.{AllKnown, PassedLeads, SelectorLeads}
use Rattle.f3_store_kinds.proofs.Leading.{get_behind}
use Rattle.f3_store_kinds.proofs.Objects.{reach_leads}
use Rattle.f3_store_kinds.proofs.Taking.{alike_kind}

append_append : {A : Type 0} (xs ys zs : List A) → (xs ++ ys) ++ zs ≡ xs ++ (ys ++ zs)
append_append [] ys zs = refl
append_append (x ∷ xs) ys zs = ap (λ l. x ∷ l) (append_append xs ys zs)

abbrev pub dummy_kind : Option Dummy → Kind
dummy_kind None = truth
dummy_kind (Some d) = d.kind

-- the kinds of the values that are held for dummies
abbrev pub held_kinds : List Dummy → List Passed → List Kind
held_kinds ds [] = []
held_kinds ds (Given n v ∷ ps) = dummy_kind (slice_get ds n) ∷ held_kinds ds ps
held_kinds ds (Lent n r ∷ ps) = held_kinds ds ps

-- and of those that are held for an ASSOCIATE
abbrev pub chosen_kinds : List Kind → List Association → List Kind
chosen_kinds [] xs = []
chosen_kinds (k ∷ ks) [] = []
chosen_kinds (k ∷ ks) (Holds of v ∷ xs) = k ∷ chosen_kinds ks xs
chosen_kinds (k ∷ ks) (Means r ∷ xs) = chosen_kinds ks xs

module _ (types : List Derived) where
  abbrev pub AllPassedLead : Typing → List formed.Given → List Passed → Type 0
  AllPassedLead g [] ps = Unit {0}
  AllPassedLead g (x ∷ xs) [] = Unit {0}
  AllPassedLead g (x ∷ xs) (y ∷ ys) = PassedLeads types g x y × AllPassedLead g xs ys

  abbrev pub AllSelectedLead : Typing → List Kind → List Association → Type 0
  AllSelectedLead g [] ps = Unit {0}
  AllSelectedLead g (x ∷ xs) [] = Unit {0}
  AllSelectedLead g (x ∷ xs) (y ∷ ys) = SelectorLeads types g x y × AllSelectedLead g xs ys

  -- ---- values that are held

  given_is : (d : Dummy) (x : formed.Given) (v : Value) → dummy_takes d x ≡ true → x.is_variable ≡ false → IsOf types x.kind v → IsOf types d.kind v
  given_is d x v e f h =
      let a = and_is _ _ e in let b = and_is _ _ a.1 in
      alike_kind types d.kind x.kind v (subst (λ (t : Bool). (if t then same_type d.kind.of x.kind.of else alike d.kind.of x.kind.of) ≡ true) f a.0)
      (eqb-true _ _ b.0) (truth_same _ _ b.1) h

  lent_kind : (d : Dummy) (x : formed.Given) → dummy_takes d x ≡ true → x.is_variable ≡ true → x.kind ≡ d.kind
  lent_kind d x e f =
      let a = and_is _ _ e in let b = and_is _ _ a.1 in
      let same = base_same _ _ (subst (λ (t : Bool). (if t then same_type d.kind.of x.kind.of else alike d.kind.of x.kind.of) ≡ true) f a.0) in
      sym (kind_same d.kind x.kind.of x.kind.rank x.kind.is_allocatable same (eqb-true _ _ b.0) (truth_same _ _ b.1))

  pub held_are : (ds : List Dummy) (gs : List formed.Given) (ps : List Passed) → AllPassed types gs ps → all (fits_dummy ds) gs ≡ true → AreOf types (held_kinds ds ps) (held ps)
  held_are ds [] [] are fits = tt
  held_are ds [] (x ∷ ps) are fits = absurd are
  held_are ds (x ∷ gs) [] are fits = absurd are
  held_are ds (x ∷ gs) (Given n v ∷ ps) are fits =
      let a = and_is _ _ fits in
      let d = some_is (slice_get ds x.number) (λ (y : Dummy). dummy_takes y x) a.0 in
      let at : slice_get ds n ≡ Some d.0 = ap (slice_get ds) (sym are.0.1) ∙ d.1 in
      (subst (λ (z : Option Dummy). IsOf types (dummy_kind z) v) (sym at) (given_is d.0 x v d.2 are.0.0 are.0.2), held_are ds gs ps are.1 a.1)
  held_are ds (x ∷ gs) (Lent n r ∷ ps) are fits = held_are ds gs ps are.1 (and_is _ _ fits).1

  -- ---- dummies

  slot_leads : (g : Typing) (level slot : ℕ) (ks : List Kind) (k : Kind) → slice_get g.levels level ≡ Some ks → slice_get ks slot ≡ Some k → LeadsTo types g k (whole (Local level slot))
  slot_leads g level slot ks k e f =
      ap (λ (o : Option Kind). found o (kind_by types []))
      (ap (λ (o : Option (List Kind)). found o (λ (js : List Kind). slice_get js slot)) e ∙ f)

  by_number : {X : Type 0} (b : Bool) (x y : X) (P : X → Type 0) → (b ≡ true → P x) → (b ≡ false → P y) → P (if b then x else y)
  by_number true x y P h k = h refl
  by_number false x y P h k = k refl

  takes_at : (ds : List Dummy) (d : Dummy) (k : ℕ) (x : formed.Given) → slice_get ds k ≡ Some d → x.number ≡ k → fits_dummy ds x ≡ true → dummy_takes d x ≡ true
  takes_at ds d k x e same fits =
      let v = some_is (slice_get ds x.number) (λ (y : Dummy). dummy_takes y x) fits in
      let is : v.0 ≡ d = some_same (sym v.1 ∙ ap (slice_get ds) same ∙ e) in
      subst (λ (y : Dummy). dummy_takes y x ≡ true) is v.2

  skipped : (b : Bool) (n : ℕ) → b ≡ false → nat_eq (if b then suc n else n) 1 ≡ true → nat_eq n 1 ≡ true
  skipped true n e f = cc
  skipped false n e f = f

  argument_leads : (g : Typing) (ds : List Dummy) (d : Dummy) (k : ℕ) (gs : List formed.Given) (ps : List Passed) (front : List Kind) (level slot unit : ℕ) → length front ≡ slot →
      slice_get g.levels level ≡ Some (front ++ held_kinds ds ps) → slice_get ds k ≡ Some d → AllPassed types gs ps → AllPassedLead g gs ps → all (fits_dummy ds) gs ≡ true →
      nat_eq (given_for k gs) 1 ≡ true → Leads types g d.kind (argument_at k d.kind.of ps level slot unit)
  argument_leads g ds d k [] [] front level slot unit many at is are lead fits one = cc
  argument_leads g ds d k [] (x ∷ ps) front level slot unit many at is are lead fits one = absurd are
  argument_leads g ds d k (x ∷ gs) [] front level slot unit many at is are lead fits one = absurd are
  argument_leads g ds d k (x ∷ gs) (Given n v ∷ ps) front level slot unit many at is are lead fits one =
      let a = and_is _ _ fits in
      let j : Kind = dummy_kind (slice_get ds n) in
      by_number (nat_eq n k) _ _ (λ (r : Reference). Leads types g d.kind r)
      (λ e.
      let same : n ≡ k = eqb-true n k e in
      let takes = takes_at ds d k x is (are.0.1 ∙ same) a.0 in
      let there : slice_get (front ++ j ∷ held_kinds ds ps) slot ≡ Some j = ap (λ m. slice_get (front ++ j ∷ held_kinds ds ps) m) (sym many) ∙ get_behind front j (held_kinds ds ps) in
      let kind : j ≡ d.kind = ap (λ m. dummy_kind (slice_get ds m)) same ∙ ap dummy_kind is in
      reach_leads types g d.kind (whole (Local level slot)) v (subst (λ (z : Kind). LeadsTo types g z (whole (Local level slot))) kind (slot_leads g level slot _ j at there))
      (inr (given_is d x v takes are.0.0 are.0.2)))
      (λ e. argument_leads g ds d k gs ps (front ++ j ∷ []) level (suc slot) unit (omega (arith, length-append front (j ∷ []), many))
      (at ∙ ap (λ (l : List Kind). Some l) (sym (append_append front (j ∷ []) (held_kinds ds ps)))) is are.1 lead.1 a.1
      (skipped (nat_eq x.number k) (given_for k gs) (ap (λ m. nat_eq m k) are.0.1 ∙ e) one))
  argument_leads g ds d k (x ∷ gs) (Lent n r ∷ ps) front level slot unit many at is are lead fits one =
      let a = and_is _ _ fits in
      by_number (nat_eq n k) _ _ (λ (r : Reference). Leads types g d.kind r)
      (λ e.
      let takes = takes_at ds d k x is (are.0.1 ∙ eqb-true n k e) a.0 in
      subst (λ (z : Kind). Leads types g z r) (lent_kind d x takes are.0.0) lead.0)
      (λ e. argument_leads g ds d k gs ps front level slot unit many at is are.1 lead.1 a.1
      (skipped (nat_eq x.number k) (given_for k gs) (ap (λ m. nat_eq m k) are.0.1 ∙ e) one))

  based_leads : (g : Typing) (k : Kind) (p : Path) (ls : List ℤ) (reach : Reach) → LeadsBy types g k p reach → LeadsBy types g k p (based_reach ls reach)
  based_leads g k p ls One h = h
  based_leads g k p ls (Many ss ps) h = h

  dummies_lead : (g : Typing) (all_ds ds : List Dummy) (k : ℕ) (gs : List formed.Given) (ps : List Passed) (level unit : ℕ) → slice_get g.levels level ≡ Some (held_kinds all_ds ps) →
      AllPassed types gs ps → AllPassedLead g gs ps → all (fits_dummy all_ds) gs ≡ true → ((n : ℕ) (d : Dummy) → slice_get ds n ≡ Some d → slice_get all_ds (k + n) ≡ Some d) →
      all_given k ds gs ≡ true → AllLead types g (kinds_of ds) (dummies k ds ps level unit)
  dummies_lead g all_ds [] k gs ps level unit at are lead fits f each = tt
  dummies_lead g all_ds (d ∷ ds) k gs ps level unit at are lead fits f each =
      let a = and_is (nat_eq (given_for k gs) 1) (all_given (suc k) ds gs) each in
      let here : k + 0 ≡ k = omega arith in
      let is : slice_get all_ds k ≡ Some d = ap (slice_get all_ds) (sym here) ∙ f 0 d refl in
      let r = argument_leads g all_ds d k gs ps [] level 0 unit refl at is are lead fits a.0 in (
        based_leads g d.kind _ d.lowers.items _ r,
        dummies_lead g all_ds ds (suc k) gs ps level unit at are lead fits
            (λ n y e. let there : suc k + n ≡ k + suc n = omega arith in ap (slice_get all_ds) there ∙ f (suc n) y e) a.1,
      )

  -- the dummies of a procedure that is called, and what is held for them
  pub called_lead : (p : Program) (g : Typing) (f : ℕ) (gs : List formed.Given) (ps : List Passed) (q : Procedure) (k : Kind) (level unit : ℕ) → slice_get p.procedures.items f ≡ Some q →
      referenced p [] [] f gs ≡ Some k → slice_get g.levels level ≡ Some (held_kinds q.dummies.items ps) → AllPassed types gs ps → AllPassedLead g gs ps →
      AllLead types g (kinds_of q.dummies.items) (dummies 0 q.dummies.items ps level unit)
  called_lead p g f gs ps q k level unit at_f is at are lead =
      let v = found_is (slice_get p.procedures.items f) _ k is in
      let same : v.0 ≡ q = some_same (sym v.1 ∙ at_f) in
      let a = and_is _ _ (only_is _ _ k v.2).0 in
      let fits = subst (λ (z : Procedure). all (fits_dummy z.dummies.items) gs ≡ true) same a.0 in
      let each = subst (λ (z : Procedure). all_given 0 z.dummies.items gs ≡ true) same a.1 in
      dummies_lead g q.dummies.items q.dummies.items 0 gs ps level unit at are lead fits
      (λ n d e. let there : 0 + n ≡ n = omega arith in ap (slice_get q.dummies.items) there ∙ e) each

  pub called_held : (p : Program) (f : ℕ) (gs : List formed.Given) (ps : List Passed) (q : Procedure) (k : Kind) → slice_get p.procedures.items f ≡ Some q →
      referenced p [] [] f gs ≡ Some k → AllPassed types gs ps → AreOf types (held_kinds q.dummies.items ps) (held ps)
  called_held p f gs ps q k at_f is are =
      let v = found_is (slice_get p.procedures.items f) _ k is in
      let same : v.0 ≡ q = some_same (sym v.1 ∙ at_f) in
      let a = and_is _ _ (only_is _ _ k v.2).0 in
      held_are q.dummies.items gs ps are (subst (λ (z : Procedure). all (fits_dummy z.dummies.items) gs ≡ true) same a.0)

  -- ---- associate names

  pub chosen_are : (ks : List Kind) (xs : List Association) → AllSelected types ks xs → AreOf types (chosen_kinds ks xs) (held_by xs)
  chosen_are [] [] are = tt
  chosen_are [] (x ∷ xs) are = absurd are
  chosen_are (k ∷ ks) [] are = absurd are
  chosen_are (k ∷ ks) (Holds of v ∷ xs) are = (are.0.1, chosen_are ks xs are.1)
  chosen_are (k ∷ ks) (Means r ∷ xs) are = chosen_are ks xs are.1

  pub chosen_known : (g : Typing) (ks : List Kind) (xs : List Association) → AllSelectedLead g ks xs → AllKnown types (chosen_kinds ks xs)
  chosen_known g [] xs lead = tt
  chosen_known g (k ∷ ks) [] lead = tt
  chosen_known g (k ∷ ks) (Holds of v ∷ xs) lead = ((λ e. never k.is_allocatable e lead.0), chosen_known g ks xs lead.1)
    where
      never : {X : Type 0} (b : Bool) → b ≡ true → b ≡ false → X
      never b e f = cc
  chosen_known g (k ∷ ks) (Means r ∷ xs) lead = chosen_known g ks xs lead.1

  shown_leads : (g : Typing) (k : Kind) (p : Path) (reach : Reach) → LeadsBy types g k p reach → LeadsBy types g k p (shown_reach reach)
  shown_leads g k p One h = h
  shown_leads g k p (Many ss ps) h = h

  pub associates_lead : (g : Typing) (ks : List Kind) (xs : List Association) (front : List Kind) (level slot unit : ℕ) → length front ≡ slot →
      slice_get g.levels level ≡ Some (front ++ chosen_kinds ks xs) → AllSelected types ks xs → AllSelectedLead g ks xs → AllLead types g ks (associates xs level slot unit)
  associates_lead g [] [] front level slot unit many at are lead = tt
  associates_lead g [] (x ∷ xs) front level slot unit many at are lead = absurd are
  associates_lead g (k ∷ ks) [] front level slot unit many at are lead = absurd are
  associates_lead g (k ∷ ks) (Holds of v ∷ xs) front level slot unit many at are lead =
      let there : slice_get (front ++ k ∷ chosen_kinds ks xs) slot ≡ Some k = ap (λ m. slice_get (front ++ k ∷ chosen_kinds ks xs) m) (sym many) ∙ get_behind front k (chosen_kinds ks xs) in (
        reach_leads types g k (whole (Local level slot)) v (slot_leads g level slot _ k at there) (inr are.0.1),
        associates_lead g ks xs (front ++ k ∷ []) level (suc slot) unit (omega (arith, length-append front (k ∷ []), many))
            (at ∙ ap (λ (l : List Kind). Some l) (sym (append_append front (k ∷ []) (chosen_kinds ks xs)))) are.1 lead.1,
      )
  associates_lead g (k ∷ ks) (Means r ∷ xs) front level slot unit many at are lead =
      (shown_leads g k r.path r.reach lead.0, associates_lead g ks xs front level slot unit many at are.1 lead.1)

  pub lead_append : (g : Typing) (ks js : List Kind) (rs qs : List Reference) → AllLead types g ks rs → AllLead types g js qs → AllLead types g (ks ++ js) (rs ++ qs)
  lead_append g [] js [] qs h f = f
  lead_append g [] js (r ∷ rs) qs h f = absurd h
  lead_append g (k ∷ ks) js [] qs h f = absurd h
  lead_append g (k ∷ ks) js (r ∷ rs) qs h f = (h.0, lead_append g ks js rs qs h.1 f)
