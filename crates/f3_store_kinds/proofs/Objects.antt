-- References to which statements come lead to objects of kinds.
use Rattle.std.proofs.Common.{◌≡◌, ◌∙◌, sym, ap, ℕ, zero, suc, Bool, true, false, ◌&&◌, ◌||◌, not, List, [], ◌∷◌, ◌++◌, map, length, Option, Some, None, refl, subst, if◌then◌else◌, inl, inr}
use Rattle.std.specs.Prelude.{nat_eq, nat_lt, slice_get, slice_index_or}
use Rattle.std.proofs.lemmas.Bool.{eqb-true}
use Rattle.f3_program.specs.declared.declarations.Base.{Base}
use Rattle.f3_program.specs.declared.declarations.Component as m
use Rattle.f3_program.specs.declared.declarations.Derived.{Derived}
use Rattle.f3_program.specs.declared.declarations.Kind.{Kind}
use Rattle.f3_meaning_whole.specs.Value.{Span, Value, Number, Truth, Composite, Array, Unallocated, Allocated, Values, none, more}
use Rattle.f3_meaning_whole.specs.Store as stores
use Rattle.f3_program.specs.declared.declarations.Declared.{Declared}
use Rattle.f3_program.specs.declared.expression.Name.{Name}
use Rattle.f3_program.specs.declared.expression.Name.TheVariants as name
use Rattle.f3_program.specs.declared.program.Program.{Program}
use Rattle.f3_program.specs.declared.program.Static.{Static}
use Rattle.f3_meaning_whole.specs.Store.{Store, Root, Local, Step, Component, Element, Contents, Path, within, get}
use Rattle.f3_meaning_whole.specs.Reference.{Reach, One, Many, Reference, Maker, elements_from, reach_of, is_pinned, paths_by, paths}
use Rattle.f3_meaning_whole.specs.declared.run_error.RunError.TheVariants.{InUse}
use Rattle.f3_meaning_whole.specs.Act.{Setting, Here, named, whole, Chosen, component, component_of, component_reach, component_path, contents, contents_by, opened, added, elements_at, first_of, picked, picks, picks_in_each, in_each, places, some_zero_step, all_inside, spans_in}
use Rattle.f3_meaning_whole.specs.Formed.{found, only, of_kind, is_scalar, kind_of_name, sectioned, count_ranges}
use Rattle.f3_code.specs.Machine.{opens, selects}
use Rattle.f3_cell_kinds.specs.Effect.{held_kind, part_kind}
use Rattle.f3_cell_kinds.specs.Holds.{Reaches, Refers}
use Rattle.f3_cell_kinds.proofs.Asked.{some_same, found_is, only_is, and_is, not_is, truth_same, kind_same}
use Rattle.f3_cell_kinds.proofs.Picking.{AllChosen, picks_yields}
use Rattle.f3_cell_kinds.specs.Types.{Scope}
use Rattle.f3_cell_kinds.proofs.Scalars.{no_rank, no_both}
use Rattle.f3_cell_kinds.proofs.Reaching.{reach_is}
use Rattle.f3_cell_kinds.proofs.Calm.{Calm, gives_calm, fails_calm, looks_calm, bind_calm, if_calm}
use Rattle.f3_store_kinds.specs.Typing.{Typing, kind_at, kind_by, IsTyped, LeadsTo, AllLeadTo, IsArray, LeadsBy, Leads, EachBy, EachLeads, AreParts, PartsBy, AllLead, IsOrNone}
use Rattle.f3_store_kinds.specs.Accords.{IsNamed}
use Rattle.f3_store_kinds.proofs.Stores.{read_is}
use Rattle.f3_store_kinds.proofs.After.{both, calm_so}

pub get_map : {A B : Type 0} (f : A → B) (xs : List A) (n : ℕ) (x : A) → slice_get xs n ≡ Some x → slice_get (map f xs) n ≡ Some (f x)
get_map f [] n x e = cc
get_map f (y ∷ xs) zero x e = let same : y ≡ x = cc in ap (λ z. Some (f z)) same
get_map f (y ∷ xs) (suc n) x e = get_map f xs n x e

module _ (types : List Derived) where
  -- ---- one step more

  abbrev Longer : List Step → List Step → Kind → Type 0
  Longer a b k = kind_by types (a ++ b) k ≡ found (kind_by types a k) (kind_by types b)

  component_on : (t : Bool) (o : Option m.Component) (a b : List Step) → ((k : Kind) → Longer a b k) →
      (if t then found o (λ (c : m.Component). kind_by types (a ++ b) c.declared.kind) else None)
      ≡ found (if t then found o (λ (c : m.Component). kind_by types a c.declared.kind) else None) (kind_by types b)
  component_on false o a b f = refl
  component_on true None a b f = refl
  component_on true (Some c) a b f = f c.declared.kind

  element_on : (t : Bool) (k : Kind) (a b : List Step) → ((k : Kind) → Longer a b k) →
      (if t then None else kind_by types (a ++ b) k) ≡ found (if t then None else kind_by types a k) (kind_by types b)
  element_on true k a b f = refl
  element_on false k a b f = f k

  contents_on : (t : Bool) (k : Kind) (a b : List Step) → ((k : Kind) → Longer a b k) →
      (if t then kind_by types (a ++ b) k else None) ≡ found (if t then kind_by types a k else None) (kind_by types b)
  contents_on true k a b f = f k
  contents_on false k a b f = refl

  way_on : (a b : List Step) (k : Kind) → Longer a b k
  way_on [] b k = refl
  way_on (Component n ∷ a) b k = component_on (is_scalar k) (component_of types k.of n) a b (λ j. way_on a b j)
  way_on (Element n ∷ a) b k = element_on k.is_allocatable (of_kind k.of 0) a b (λ j. way_on a b j)
  way_on (Contents ∷ a) b k = contents_on k.is_allocatable (held_kind k) a b (λ j. way_on a b j)

  pub scalar_is : (k : Kind) → k.is_allocatable ≡ false → nat_eq k.rank 0 ≡ true → k ≡ of_kind k.of 0
  scalar_is k e f = kind_same k k.of 0 false refl (eqb-true k.rank 0 f) e

  pub one_rank : (k : Kind) → k.is_allocatable ≡ false → Reaches k One → nat_eq k.rank 0 ≡ true
  one_rank k held h = ap (λ (b : Bool). b || nat_eq k.rank 0) (sym held) ∙ h

  module _ (g : Typing) where
    step_leads : (k j : Kind) (p : Path) (s : Step) → LeadsTo types g k p → kind_by types (s ∷ []) k ≡ Some j → LeadsTo types g j (within p s)
    step_leads k j p s e f =
        let q = found_is (kind_at g p.root) (kind_by types p.steps) k e in
        ap (λ (o : Option Kind). found o (kind_by types (p.steps ++ s ∷ []))) q.1 ∙ way_on p.steps (s ∷ []) q.0
        ∙ ap (λ (o : Option Kind). found o (kind_by types (s ∷ []))) q.2 ∙ f

    element_leads : (k : Kind) (n : ℕ) (p : Path) → k.is_allocatable ≡ false → LeadsTo types g k p → LeadsTo types g (of_kind k.of 0) (within p (Element n))
    element_leads k n p held e = step_leads k (of_kind k.of 0) p (Element n) e (ap (λ (b : Bool). if b then None else Some (of_kind k.of 0)) held)

    elements_lead : (k : Kind) (n : ℕ) (p : Path) (vs : Values) → k.is_allocatable ≡ false → LeadsTo types g k p → AllLeadTo types g (of_kind k.of 0) (elements_from n p vs)
    elements_lead k n p none held e = tt
    elements_lead k n p (more v vs) held e = (element_leads k n p held e, elements_lead k (suc n) p vs held e)

    component_leads : (k : Kind) (n : ℕ) (c : m.Component) (p : Path) → is_scalar k ≡ true → component_of types k.of n ≡ Some c → LeadsTo types g k p →
        LeadsTo types g c.declared.kind (within p (Component n))
    component_leads k n c p one at e = step_leads k c.declared.kind p (Component n) e
        (ap (λ (b : Bool). if b then found (component_of types k.of n) (λ (y : m.Component). Some y.declared.kind) else None) one
        ∙ ap (λ (o : Option m.Component). found o (λ (y : m.Component). Some y.declared.kind)) at)

    components_lead : (k : Kind) (n : ℕ) (c : m.Component) (ps : List Path) → is_scalar k ≡ true → component_of types k.of n ≡ Some c → AllLeadTo types g k ps →
        AllLeadTo types g c.declared.kind (map (λ q. within q (Component n)) ps)
    components_lead k n c [] one at e = tt
    components_lead k n c (p ∷ ps) one at e = (component_leads k n c p one at e.0, components_lead k n c ps one at e.1)

    held_leads : (k : Kind) (p : Path) → k.is_allocatable ≡ true → LeadsTo types g k p → LeadsTo types g (held_kind k) (within p Contents)
    held_leads k p held e = step_leads k (held_kind k) p Contents e (ap (λ (b : Bool). if b then Some (held_kind k) else None) held)

    -- what there is where a path leads
    pub reach_leads : (k : Kind) (p : Path) (v : Value) → LeadsTo types g k p → IsOrNone types k v → LeadsBy types g k p (reach_of p v)
    reach_leads k p (Array ss vs) e (inl f) = cc
    reach_leads k p (Array ss vs) e (inr h) = (record { kind = k; leads = e; whole = h.0; many = h.1 }, elements_lead k 0 p vs h.0 e)
    reach_leads k p (Number z) e h = e
    reach_leads k p (Truth b) e h = e
    reach_leads k p (Composite vs) e h = e
    reach_leads k p Unallocated e h = e
    reach_leads k p (Allocated v) e h = e

    -- ---- components

    abbrev pub IsMany : Reach → Type 0
    IsMany One = ⊥
    IsMany (Many ss ps) = Unit {0}

    abbrev pub PartLeads : Kind → ℕ → Kind → Reference → Type 0
    PartLeads k n c q = (nat_eq k.rank 0 ≡ true → Leads types g c q) × (nat_eq k.rank 0 ≡ false → EachLeads types g c q × IsMany q.reach × PartsBy types g k.of n q.reach)

    are_parts : (of : Base) (n : ℕ) (ps : List Path) → AllLeadTo types g (of_kind of 0) ps → AreParts types g of n (map (λ q. within q (Component n)) ps)
    are_parts of n [] e = tt
    are_parts of n (p ∷ ps) e = ((p, refl, e.0), are_parts of n ps e.1)

    part_leads : (k : Kind) (n : ℕ) (c : m.Component) (p : Path) (reach : Reach) (store : Store) → IsTyped types g store → k.is_allocatable ≡ false →
        component_of types k.of n ≡ Some c → Reaches k reach → LeadsBy types g k p reach →
        (nat_eq k.rank 0 ≡ true → LeadsBy types g c.declared.kind (component_path reach p n) (component_reach reach p n store))
        × (nat_eq k.rank 0 ≡ false → EachBy types g c.declared.kind (component_path reach p n) (component_reach reach p n store) × IsMany (component_reach reach p n store)
        × PartsBy types g k.of n (component_reach reach p n store))
    part_leads k n c p One store typed held at h e =
        let one = one_rank k held h in
        let scalar : is_scalar k ≡ true = ap (λ (b : Bool). not b && nat_eq k.rank 0) held ∙ one in
        let to = component_leads k n c p scalar at e in (
          (λ t. reach_leads c.declared.kind (within p (Component n)) (get store (within p (Component n))) to (read_is types g store c.declared.kind (within p (Component n)) typed to)),
          λ t. absurd (no_both (nat_eq k.rank 0) one t),
        )
    part_leads k n c p (Many ss ps) store typed held at h e = (
      (λ t. absurd (no_rank k.rank t h.1)),
      λ t. ((e.0, components_lead (of_kind k.of 0) n c ps refl at e.1), tt, are_parts k.of n ps e.1),
    )

    pub component_calm : (w : Setting) (k : Kind) (n : ℕ) (c : m.Component) (maker : Maker) (r : Reference) (store : Store) → IsTyped types g store → k.is_allocatable ≡ false →
        component_of types k.of n ≡ Some c → Reaches k r.reach → Leads types g k r → Calm (PartLeads k n c.declared.kind) store (component w n maker r)
    component_calm w k n c maker r store typed held at h e = looks_calm _ (part_leads k n c r.path r.reach store typed held at h e)

    -- ---- contents

    opened_calm : (k : Kind) (r : Reference) (v : Value) (here : Here) (store : Store) → k.is_allocatable ≡ true → r.of ≡ k.of → LeadsTo types g k r.path → IsOrNone types k v →
        Calm (λ q. Refers (held_kind k) q × Leads types g (held_kind k) q) store (opened r v here)
    opened_calm k r (Allocated v) here store held of e (inl f) = cc
    opened_calm k r (Allocated v) here store held of e (inr h) = gives_calm _ (
      (of, reach_is types (held_kind k) (within r.path Contents) v h.1),
      reach_leads (held_kind k) (within r.path Contents) v (held_leads k r.path held e) (inr h.1),
    )
    opened_calm k r (Number z) here store held of e h = fails_calm _ here.place
    opened_calm k r (Truth b) here store held of e h = fails_calm _ here.place
    opened_calm k r (Composite vs) here store held of e h = fails_calm _ here.place
    opened_calm k r (Array ss vs) here store held of e h = fails_calm _ here.place
    opened_calm k r Unallocated here store held of e h = fails_calm _ here.place

    contents_by_calm : (reach : Reach) (k : Kind) (r : Reference) (here : Here) (store : Store) → IsTyped types g store → k.is_allocatable ≡ true → r.of ≡ k.of →
        LeadsBy types g k r.path reach → Calm (λ q. Refers (held_kind k) q × Leads types g (held_kind k) q) store (contents_by reach r here)
    contents_by_calm One k r here store typed held of e =
        bind_calm (looks_calm {P = IsOrNone types k} (λ st. get st r.path) (read_is types g store k r.path typed e)) (λ v f. opened_calm k r v here store held of e f)
    contents_by_calm (Many ss ps) k r here store typed held of e = fails_calm _ here.place

    pub contents_calm : (k : Kind) (r : Reference) (here : Here) (store : Store) → IsTyped types g store → k.is_allocatable ≡ true → Refers k r → Leads types g k r →
        Calm (λ q. Refers (held_kind k) q × Leads types g (held_kind k) q) store (contents r here)
    contents_calm k r here store typed held h e = contents_by_calm r.reach k r here store typed held h.0 e

    pub opens_calm : (k : Kind) (r : Reference) (here : Here) (store : Store) → IsTyped types g store → k.is_allocatable ≡ true → Refers k r → Leads types g k r →
        Calm (λ q. Refers (held_kind k) q × Leads types g (held_kind k) q) store (opens r here)
    opens_calm k r here store typed held h e = if_calm (is_pinned r.path here.lent) (λ t. fails_calm InUse here.place) (λ t. contents_calm k r here store typed held h e)

    -- ---- elements

    added_lead : (k : Kind) (ps qs : List Path) (n : ℕ) → AllLeadTo types g k ps → AllLeadTo types g k qs → AllLeadTo types g k (added (slice_get ps n) qs)
    added_lead k [] qs n h f = f
    added_lead k (p ∷ ps) qs zero h f = (h.0, f)
    added_lead k (p ∷ ps) qs (suc n) h f = added_lead k ps qs n h.1 f

    chosen_lead : (k : Kind) (ps : List Path) (ns : List ℕ) → AllLeadTo types g k ps → AllLeadTo types g k (elements_at ps ns)
    chosen_lead k ps [] h = tt
    chosen_lead k ps (n ∷ ns) h = added_lead k ps (elements_at ps ns) n h (chosen_lead k ps ns h)

    first_leads : (k : Kind) (r : Reference) (ps : List Path) → IsArray types g r.path → AllLeadTo types g k ps → EachLeads types g k (first_of r ps)
    first_leads k r [] a h = (a, tt)
    first_leads k r (p ∷ ps) a h = h.0

    picked_leads : (k : Kind) (r : Reference) (ps : List Path) (ss : List Span) (ns : List ℕ) → IsArray types g r.path → AllLeadTo types g k ps → EachLeads types g k (picked r ps ss ns)
    picked_leads k r ps (s ∷ ss) ns a h = (a, chosen_lead k ps ns h)
    picked_leads k r ps [] ns a h = first_leads k r (elements_at ps ns) a (chosen_lead k ps ns h)

    pub places_calm : (ss : List Span) (cs : List Chosen) (here : Here) (store : Store) → Calm (λ ns. Unit {0}) store (places ss cs here)
    places_calm ss cs here store = if_calm (some_zero_step cs) (λ e. fails_calm _ here.place)
        (λ e. if_calm (all_inside ss cs) (λ f. gives_calm _ tt) (λ f. fails_calm _ here.place))

    pub picks_calm : (k : Kind) (r : Reference) (cs : List Chosen) (here : Here) (store : Store) → k.is_allocatable ≡ false → (reach : Reach) → r.reach ≡ reach → Reaches k reach →
        LeadsBy types g k r.path reach → Calm (EachLeads types g (of_kind k.of 0)) store (picks r reach cs here)
    picks_calm k r cs here store held One is h e =
        let to = subst (λ (z : Kind). LeadsTo types g z r.path) (scalar_is k held (one_rank k held h)) e in
        gives_calm r (subst (λ x. EachBy types g (of_kind k.of 0) r.path x) (sym is) to)
    picks_calm k r cs here store held (Many ss ps) is h e =
        bind_calm (places_calm ss cs here store) (λ ns t. gives_calm _ (picked_leads (of_kind k.of 0) r ps (spans_in ss cs) ns e.0 e.1))

    -- elements that are reached as a kind of a rank says
    pub each_is : (t : Base) (n : ℕ) (p : Path) (reach : Reach) → Reaches (of_kind t n) reach → EachBy types g (of_kind t 0) p reach → LeadsBy types g (of_kind t n) p reach
    each_is t n p One h e = subst (λ (z : ℕ). LeadsTo types g (of_kind t z) p) (sym (eqb-true n 0 h)) e
    each_is t n p (Many ss ps) h e = e

    within_each : (k : Kind) (n : ℕ) (ps : List Path) → k.is_allocatable ≡ false → AllLeadTo types g k ps → AllLeadTo types g (of_kind k.of 0) (map (λ p. within p (Element n)) ps)
    within_each k n [] held e = tt
    within_each k n (p ∷ ps) held e = (element_leads k n p held e.0, within_each k n ps held e.1)

    in_each_leads : (k : Kind) (rank : ℕ) (p : Path) (reach : Reach) (ns : List ℕ) → k.is_allocatable ≡ false → nat_eq rank 0 ≡ false → Reaches (of_kind k.of rank) reach →
        EachBy types g k p reach → LeadsBy types g (of_kind k.of rank) p (in_each reach ns)
    in_each_leads k rank p One ns held some h e = absurd (no_both (nat_eq rank 0) h some)
    in_each_leads k rank p (Many ss ps) ns held some h e = (e.0, within_each k (slice_index_or ns 0 0) ps held e.1)

    pub each_calm : (k : Kind) (rank : ℕ) (ss : List Span) (r : Reference) (cs : List Chosen) (here : Here) (store : Store) → k.is_allocatable ≡ false → nat_eq rank 0 ≡ false →
        Reaches (of_kind k.of rank) r.reach → EachLeads types g k r → Calm (Leads types g (of_kind k.of rank)) store (picks_in_each ss r cs here)
    each_calm k rank ss r cs here store held some h e =
        bind_calm (places_calm ss cs here store) (λ ns t. gives_calm _ (in_each_leads k rank r.path r.reach ns held some h e))

    -- a component that is no array, of each element of one
    each_scalar : (k : Kind) (rank : ℕ) (p : Path) (reach : Reach) → is_scalar k ≡ true → IsMany reach → EachBy types g k p reach → LeadsBy types g (of_kind k.of rank) p reach
    each_scalar k rank p One one some e = absurd some
    each_scalar k rank p (Many ss ps) one some e = (e.0, subst (λ (z : Kind). AllLeadTo types g z ps) (scalar_is k (not_is _ (and_is _ _ one).0) (and_is _ _ one).1) e.1)

    part_kind_by : (b : Bool) (k : Kind) (n : ℕ) (c j : Kind) (q : Reference) → nat_eq k.rank 0 ≡ b → (if b then Some c else only (is_scalar c) (of_kind c.of k.rank)) ≡ Some j → PartLeads k n c q →
        Leads types g j q
    part_kind_by true k n c j q one e h = subst (λ (z : Kind). Leads types g z q) (some_same e) (h.0 one)
    part_kind_by false k n c j q one e h =
        let a = only_is _ _ j e in let f = h.1 one in
        subst (λ (z : Kind). Leads types g z q) a.1 (each_scalar c k.rank q.path q.reach a.0 f.1 f.0)

    pub part_kind_leads : (k : Kind) (n : ℕ) (c j : Kind) (q : Reference) → part_kind k c ≡ Some j → PartLeads k n c q → Leads types g j q
    part_kind_leads k n c j q e h = part_kind_by (nat_eq k.rank 0) k n c j q refl e h

    -- elements of what is an array, or of what an allocatable holds
    section_calm : (k : Kind) (r : Reference) (bs : List Bool) (cs : List Chosen) (here : Here) (store : Store) → k.is_allocatable ≡ false → length bs ≡ k.rank → nat_lt 0 k.rank ≡ true →
        AllChosen bs cs → Refers k r → Leads types g k r → Calm (Leads types g (of_kind k.of (count_ranges bs))) store (picks r r.reach cs here)
    section_calm k r bs cs here store held rank some are h e =
        calm_so (λ q f. each_is k.of (count_ranges bs) q.path q.reach f.1.1 f.0)
        (both (picks_calm k r cs here store held r.reach refl h.1 e) (picks_yields k r bs cs here held rank some are h.0 r.reach h.1))

    selects_by : (is_opened : Bool) (k : Kind) (bs : List Bool) (cs : List Chosen) (r : Reference) (here : Here) (store : Store) → IsTyped types g store → is_opened ≡ k.is_allocatable →
        length bs ≡ k.rank → nat_lt 0 k.rank ≡ true → AllChosen bs cs → Refers k r → Leads types g k r → Calm (Leads types g (of_kind k.of (count_ranges bs))) store (selects is_opened cs r here)
    selects_by true k bs cs r here store typed held rank some are h e =
        bind_calm (contents_calm k r here store typed (sym held) h e) (λ q f. section_calm (held_kind k) q bs cs here store refl rank some are f.0 f.1)
    selects_by false k bs cs r here store typed held rank some are h e =
        bind_calm {Q = λ q. Refers k q × Leads types g k q} (gives_calm r (h, e)) (λ q f. section_calm k q bs cs here store (sym held) rank some are f.0 f.1)

    pub selects_calm : (p : Program) (is_opened : Bool) (k j : Kind) (bs : List Bool) (cs : List Chosen) (r : Reference) (here : Here) (store : Store) → IsTyped types g store →
        sectioned p [] [] is_opened (Some bs) k ≡ Some j → AllChosen bs cs → Refers k r → Leads types g k r → Calm (Leads types g j) store (selects is_opened cs r here)
    selects_calm p is_opened k j bs cs r here store typed e are h f =
        let a = only_is _ _ j e in let b = and_is _ _ a.0 in let c = and_is _ _ b.1 in
        subst (λ (z : Kind). Calm (Leads types g z) store (selects is_opened cs r here)) a.1
        (selects_by is_opened k bs cs r here store typed (truth_same _ _ b.0) (eqb-true _ _ c.0) c.1 are h f)

    -- ---- names

    leads_at : (ks : List Kind) (rs : List Reference) (n : ℕ) (k : Kind) (q : Reference) → AllLead types g ks rs → slice_get ks n ≡ Some k → Leads types g k (slice_index_or rs n q)
    leads_at [] rs n k q h e = cc
    leads_at (j ∷ ks) [] n k q h e = absurd h
    leads_at (j ∷ ks) (r ∷ rs) zero k q h e = let same : j ≡ k = cc in subst (λ (z : Kind). Leads types g z r) same h.0
    leads_at (j ∷ ks) (r ∷ rs) (suc n) k q h e = leads_at ks rs n k q h.1 e

    root_leads : (t : Root) (k : Kind) (store : Store) → IsTyped types g store → kind_at g t ≡ Some k → LeadsBy types g k (whole t) (reach_of (whole t) (get store (whole t)))
    root_leads t k store typed e =
        let to : LeadsTo types g k (whole t) = ap (λ (o : Option Kind). found o (kind_by types [])) e in
        reach_leads k (whole t) (get store (whole t)) to (read_is types g store k (whole t) typed to)

    pub named_calm : (w : Setting) (p : Program) (c : Scope) (x : Name) (here : Here) (k : Kind) (store : Store) → IsTyped types g store →
        g.statics ≡ map (λ (y : Static). y.declared.kind) p.statics.items → IsNamed types g here.level here.names c → kind_of_name p c.variables c.names x ≡ Some k →
        Calm (Leads types g k) store (named w x here)
    named_calm w p c (name.Static n) here k store typed same known e =
        let f = found_is (slice_get p.statics.items n) _ k e in
        looks_calm _ (root_leads (stores.Static n) k store typed (ap (λ (ks : List Kind). slice_get ks n) same ∙ get_map (λ (y : Static). y.declared.kind) p.statics.items n f.0 f.1 ∙ f.2))
    named_calm w p c (name.Local n) here k store typed same known e =
        let f = found_is (slice_get c.variables n) _ k e in
        looks_calm _ (root_leads (Local here.level n) k store typed
        (ap (λ (o : Option (List Kind)). found o (λ (ks : List Kind). slice_get ks n)) known.0 ∙ get_map (λ (y : Declared). y.kind) c.variables n f.0 f.1 ∙ f.2))
    named_calm w p c (name.Lent n) here k store typed same known e = gives_calm _ (leads_at c.names here.names n k _ known.1 e)

    -- ---- elements

    walk_by : (k : Kind) (p : Path) (reach : Reach) → k.is_allocatable ≡ false → Reaches k reach → LeadsBy types g k p reach → AllLeadTo types g (of_kind k.of 0) (paths_by p reach)
    walk_by k p One held h e = (subst (λ (z : Kind). LeadsTo types g z p) (scalar_is k held (one_rank k held h)) e, tt)
    walk_by k p (Many ss ps) held h e = e.1

    pub walk_leads : (k : Kind) (r : Reference) → k.is_allocatable ≡ false → Reaches k r.reach → Leads types g k r → AllLeadTo types g (of_kind k.of 0) (paths r)
    walk_leads k r held h e = walk_by k r.path r.reach held h e

    one_by : (k : Kind) (p : Path) (reach : Reach) → k.is_allocatable ≡ true → Reaches k reach → LeadsBy types g k p reach → LeadsTo types g k p
    one_by k p One held h e = e
    one_by k p (Many ss ps) held h e = absurd (no_both k.is_allocatable held h.0)

    -- an allocatable is one object
    pub one_leads : (k : Kind) (r : Reference) → k.is_allocatable ≡ true → Reaches k r.reach → Leads types g k r → LeadsTo types g k r.path
    one_leads k r held h e = one_by k r.path r.reach held h e
