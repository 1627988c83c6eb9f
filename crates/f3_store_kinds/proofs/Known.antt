-- Allocatables of types that there are.
use Rattle.std.proofs.Common.{◌≡◌, ◌∙◌, sym, ap, ℕ, zero, suc, ◌+◌, ◌<◌, ◌≤◌, Bool, true, false, ◌&&◌, List, [], ◌∷◌, ◌++◌, length, take, Some, refl, subst, arith}
use Rattle.std.specs.Prelude.{slice_get}
use Rattle.std.proofs.lemmas.Bool.{ltb-true, lt-ltb}
use Rattle.f3_program.specs.declared.declarations.Base.{Base}
use Rattle.f3_program.specs.declared.declarations.Base.TheVariants as base
use Rattle.f3_program.specs.declared.declarations.Component as m
use Rattle.f3_program.specs.declared.declarations.Declared.{Declared}
use Rattle.f3_program.specs.declared.declarations.Derived.{Derived}
use Rattle.f3_program.specs.declared.declarations.Kind.{Kind}
use Rattle.f3_program.specs.declared.program.Dummy.{Dummy}
use Rattle.f3_program.specs.declared.program.Procedure.{Procedure}
use Rattle.f3_program.specs.declared.program.Program.{Program}
use Rattle.f3_program.specs.declared.program.Static.{Static}
use Rattle.f3_meaning_whole.specs.Store as store
use Rattle.f3_meaning_whole.specs.Store.{Root, Step, Component, Element, Contents, Path}
use Rattle.f3_meaning_whole.specs.Reference.{Reach, One, Many, Reference}
use Rattle.f3_meaning_whole.specs.Act.{Passed, Given, Lent, component_of, derived_of}
use Rattle.f3_meaning_whole.specs.Exec.{declared_in}
use Rattle.f3_meaning_whole.specs.Formed.{all, of_kind, is_before, is_declared, are_declared, are_types, is_procedure, IsWellFormed}
use Rattle.f3_cell_kinds.specs.Effect.{held_kind}
use Rattle.f3_cell_kinds.specs.Holds.{Reaches}
use Rattle.f3_cell_kinds.proofs.Asked.{some_same, found_is, and_is}
use Rattle.f3_cell_kinds.proofs.Initials.{components_declared}
use Rattle.f3_cell_kinds.proofs.Parting.{component_found}
use Rattle.f3_cell_kinds.proofs.Scalars.{no_both}
use Rattle.f3_cell_kinds.specs.Sense.{MakesSense}
use Rattle.f3_store_kinds.specs.Typing.{Typing, kind_at, kind_by, LeadsTo, LeadsBy, Leads}
use Rattle.f3_store_kinds.specs.Accords.{declared_kinds, IsKnown, AllKnown, LevelsKnown}
use Rattle.f3_store_kinds.proofs.Ways.{component_way, element_way, contents_way}
use Rattle.f3_store_kinds.proofs.Calling.{held_kinds, dummy_kind}

all_at : {A : Type 0} (f : A → Bool) (xs : List A) (n : ℕ) (x : A) → all f xs ≡ true → slice_get xs n ≡ Some x → f x ≡ true
all_at f [] n x e g = cc
all_at f (y ∷ xs) zero x e g = let same : y ≡ x = cc in ap f (sym same) ∙ (and_is _ _ e).0
all_at f (y ∷ xs) (suc n) x e g = all_at f xs n x (and_is _ _ e).1 g

get_less : {A : Type 0} (xs : List A) (n : ℕ) (y : A) → slice_get xs n ≡ Some y → n < length xs
get_less [] n y e = cc
get_less (x ∷ xs) zero y e = omega arith
get_less (x ∷ xs) (suc n) y e = let h = get_less xs n y e in omega (arith, h)

before_more : (n k : ℕ) (of : Base) → n ≤ k → is_before n of ≡ true → is_before k of ≡ true
before_more n k base.Integer h e = refl
before_more n k base.Long h e = refl
before_more n k base.Logical h e = refl
before_more n k (base.Derived t) h e = let less : t < n = ltb-true t n e in lt-ltb t k (omega arith)

module _ (types : List Derived) where
  never : (k : Kind) → k.is_allocatable ≡ false → IsKnown types k
  never k e = λ f. absurd (no_both k.is_allocatable f e)

  all_known : (ks : List Kind) (n : ℕ) (k : Kind) → AllKnown types ks → slice_get ks n ≡ Some k → IsKnown types k
  all_known [] n k h e = cc
  all_known (j ∷ ks) zero k h e = let same : j ≡ k = cc in subst (λ (z : Kind). IsKnown types z) same h.0
  all_known (j ∷ ks) (suc n) k h e = all_known ks n k h.1 e

  level_known : (kss : List (List Kind)) (n : ℕ) (ks : List Kind) → LevelsKnown types kss → slice_get kss n ≡ Some ks → AllKnown types ks
  level_known [] n ks h e = cc
  level_known (js ∷ kss) zero ks h e = let same : js ≡ ks = cc in subst (λ (z : List Kind). AllKnown types z) same h.0
  level_known (js ∷ kss) (suc n) ks h e = level_known kss n ks h.1 e

  pub known_more : (kss : List (List Kind)) (ks : List Kind) → LevelsKnown types kss → AllKnown types ks → LevelsKnown types (kss ++ ks ∷ [])
  known_more [] ks h f = (f, tt)
  known_more (js ∷ kss) ks h f = (h.0, known_more kss ks h.1 f)

  pub known_less : (n : ℕ) (kss : List (List Kind)) → LevelsKnown types kss → LevelsKnown types (take n kss)
  known_less zero kss h = tt
  known_less (suc n) [] h = tt
  known_less (suc n) (ks ∷ kss) h = (h.0, known_less n kss h.1)

  root_known : (g : Typing) (t : Root) (k : Kind) → AllKnown types g.statics → LevelsKnown types g.levels → kind_at g t ≡ Some k → IsKnown types k
  root_known g (store.Static i) k h f e = all_known g.statics i k h e
  root_known g (store.Local l i) k h f e =
      let q = found_is (slice_get g.levels l) (λ (ks : List Kind). slice_get ks i) k e in
      all_known q.0 i k (level_known g.levels l q.0 f q.1) q.2

  -- components are of types that there are
  abbrev pub PartsKnown : Type 0
  PartsKnown = (of : Base) (n : ℕ) (c : m.Component) → component_of types of n ≡ Some c → is_before (length types) c.declared.kind.of ≡ true

  way_known : PartsKnown → (way : List Step) (k j : Kind) → IsKnown types k → kind_by types way k ≡ Some j → IsKnown types j
  way_known parts [] k j h e = subst (λ (z : Kind). IsKnown types z) (some_same e) h
  way_known parts (Component n ∷ way) k j h e =
      let q = component_way types k j n way e in
      way_known parts way q.0.declared.kind j (λ t. parts k.of n q.0 q.1) q.2
  way_known parts (Element n ∷ way) k j h e = way_known parts way (of_kind k.of 0) j (never (of_kind k.of 0) refl) (element_way types k j n way e)
  way_known parts (Contents ∷ way) k j h e = way_known parts way (held_kind k) j (never (held_kind k) refl) (contents_way types k j way e)

  path_known : PartsKnown → (g : Typing) (k : Kind) (p : Path) → AllKnown types g.statics → LevelsKnown types g.levels → LeadsTo types g k p → IsKnown types k
  path_known parts g k p h f e =
      let q = found_is (kind_at g p.root) (kind_by types p.steps) k e in
      way_known parts p.steps q.0 k (root_known g p.root q.0 h f q.1) q.2

  reach_known : PartsKnown → (g : Typing) (k : Kind) (p : Path) (reach : Reach) → AllKnown types g.statics → LevelsKnown types g.levels → Reaches k reach → LeadsBy types g k p reach →
      IsKnown types k
  reach_known parts g k p One h f r e = path_known parts g k p h f e
  reach_known parts g k p (Many ss ps) h f r e = never k r.0

  -- an allocatable to which a reference leads
  pub leads_known : PartsKnown → (g : Typing) (k : Kind) (r : Reference) → AllKnown types g.statics → LevelsKnown types g.levels → Reaches k r.reach → Leads types g k r → IsKnown types k
  leads_known parts g k r h f q e = reach_known parts g k r.path r.reach h f q e

  -- ---- declarations

  pub declared_known : (n : ℕ) (ys : List Declared) → n ≡ length types → all (is_declared n) ys ≡ true → AllKnown types (declared_kinds ys)
  declared_known n [] e h = tt
  declared_known n (y ∷ ys) e h =
      let a = and_is (is_declared n y) (all (is_declared n) ys) h in
      ((λ t. subst (λ k. is_before k y.kind.of ≡ true) e (and_is _ _ a.0).0), declared_known n ys e a.1)

  dummies_known : (ds : List Dummy) (n : ℕ) → all (λ (y : Dummy). is_before (length types) y.kind.of) ds ≡ true → IsKnown types (dummy_kind (slice_get ds n))
  dummies_known [] n h = λ t. refl
  dummies_known (d ∷ ds) zero h = λ t. (and_is _ _ h).0
  dummies_known (d ∷ ds) (suc n) h = dummies_known ds n (and_is _ _ h).1

  pub held_known : (ds : List Dummy) (ps : List Passed) → all (λ (y : Dummy). is_before (length types) y.kind.of) ds ≡ true → AllKnown types (held_kinds ds ps)
  held_known ds [] h = tt
  held_known ds (Given n v ∷ ps) h = (dummies_known ds n h, held_known ds ps h)
  held_known ds (Lent n r ∷ ps) h = held_known ds ps h

module _ (p : Program) (formed : IsWellFormed p) (sense : MakesSense p) where
  is_derived : (types : List Derived) (of : Base) (y : Derived) → derived_of types of ≡ Some y → (t : ℕ) × (slice_get types t ≡ Some y)
  is_derived types base.Integer y e = cc
  is_derived types base.Long y e = cc
  is_derived types base.Logical y e = cc
  is_derived types (base.Derived t) y e = (t, e)

  pub parts_known : PartsKnown p.types.items
  parts_known of n c e =
      let f = component_found (derived_of p.types.items of) n c e in
      let d = is_derived p.types.items of f.0 f.1 in
      let a = all_at _ f.0.components.items n c (components_declared p formed sense d.0 f.0 d.1) f.2 in
      let less = get_less p.types.items d.0 f.0 d.1 in
      before_more (0 + d.0) (length p.types.items) c.declared.kind.of (omega (arith, less)) (and_is _ _ a).0

  pub record Declarations : Type 0 where
    pub statics : all (λ (y : Static). is_declared (length p.types.items) y.declared) p.statics.items ≡ true
    pub procedures : all (are_declared p) (p.main ∷ p.procedures.items) ≡ true

  pub declared_parts : Declarations
  declared_parts =
      let a = and_is (are_types p 0 p.types.items) (all (λ (y : Static). is_declared (length p.types.items) y.declared) p.statics.items
      && (all (are_declared p) (p.main ∷ p.procedures.items) && all (is_procedure p) (p.main ∷ p.procedures.items))) formed in
      let b = and_is _ _ a.1 in let c = and_is _ _ b.1 in
      record { statics = b.0; procedures = c.0 }

  -- the variables and the dummies of a procedure
  pub variables_known : (n : ℕ) (q : Procedure) → slice_get (p.main ∷ p.procedures.items) n ≡ Some q → AllKnown p.types.items (declared_kinds (declared_in q))
  variables_known n q e =
      let a = all_at (are_declared p) (p.main ∷ p.procedures.items) n q declared_parts.procedures e in
      declared_known p.types.items (length p.types.items) (declared_in q) refl (and_is _ _ a).0

  pub arguments_known : (n : ℕ) (q : Procedure) (ps : List Passed) → slice_get (p.main ∷ p.procedures.items) n ≡ Some q → AllKnown p.types.items (held_kinds q.dummies.items ps)
  arguments_known n q ps e =
      let a = all_at (are_declared p) (p.main ∷ p.procedures.items) n q declared_parts.procedures e in
      held_known p.types.items q.dummies.items ps (and_is _ _ a).1
