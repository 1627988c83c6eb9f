-- Objects to which statements come are there.
use Rattle.std.proofs.Common.{◌≡◌, ◌∙◌, sym, ap, ℕ, zero, suc, ◌+◌, ◌<◌, ℤ, Bool, true, false, List, [], ◌∷◌, ◌++◌, map, length, Option, Some, None, refl, subst, arith, if◌then◌else◌, length-append, inl, inr}
use Rattle.std.specs.Prelude.{nat_eq, nat_lt, slice_get, slice_index_or}
use Rattle.std.proofs.lemmas.Bool.{eqb-true}
use Rattle.f3_program.specs.declared.declarations.Base.{Base}
use Rattle.f3_program.specs.declared.declarations.Component as m
use Rattle.f3_program.specs.declared.declarations.Declared.{Declared}
use Rattle.f3_program.specs.declared.declarations.Derived.{Derived}
use Rattle.f3_program.specs.declared.declarations.Kind.{Kind}
use Rattle.f3_program.specs.declared.expression.Name.{Name}
use Rattle.f3_program.specs.declared.expression.Name.TheVariants as name
use Rattle.f3_program.specs.declared.program.Dummy.{Dummy}
use Rattle.f3_program.specs.declared.program.Procedure.{Procedure}
use Rattle.f3_program.specs.declared.program.Program.{Program}
use Rattle.f3_program.specs.declared.program.Static.{Static}
use Rattle.f3_meaning_whole.specs.Value.{Span, Value, Number, Truth, Composite, Array, Unallocated, Allocated, Values, none, more, joined, listed, count}
use Rattle.f3_meaning_whole.specs.Store as stores
use Rattle.f3_meaning_whole.specs.Store.{Store, Root, Local, Step, Component, Element, Contents, Path, within, get, part, part_at, at_root}
use Rattle.f3_meaning_whole.specs.Reference.{Reach, One, Many, Reference, Maker, elements_from, reach_of, paths_by, paths, held_at}
use Rattle.f3_meaning_whole.specs.Shape.{spans_declared}
use Rattle.f3_meaning_whole.specs.Act.{Setting, Here, Passed, Given, Lent, Chosen, named, whole, component, component_of, component_reach, component_path, added, elements_at, first_of, picked, picks, picks_in_each, in_each, places, places_in, spans_in, some_zero_step, all_inside}
use Rattle.f3_meaning_whole.specs.Exec.{held, argument_at, based_reach, dummies, shown_reach, Association, Holds, Means, held_by, associates}
use Rattle.f3_meaning_whole.specs.Formed.{all, found, of_kind, is_scalar, kind_of_name, kinds_of, count_ranges, given_for, all_given, referenced, fits_dummy}
use Rattle.f3_meaning_whole.specs.Formed as formed
use Rattle.f3_code.specs.Machine.{selects}
use Rattle.f3_code.specs.Exec.{result_at}
use Rattle.f3_cell_kinds.specs.Holds.{Reaches, AllRefer, HasBounds, IsOf, AreComponents, AreElements}
use Rattle.f3_cell_kinds.specs.Types.{Scope}
use Rattle.f3_cell_kinds.specs.Effect.{result_in}
use Rattle.f3_cell_kinds.proofs.Asked.{some_same, found_is, only_is, and_is}
use Rattle.f3_cell_kinds.proofs.Calm.{Calm, gives_calm, fails_calm, looks_calm, bind_calm, if_calm}
use Rattle.f3_cell_kinds.proofs.Parting.{part_append, component_found, part_of}
use Rattle.f3_cell_kinds.proofs.Picking.{AllBelow, AllChosen, places_below, places_count}
use Rattle.f3_cell_kinds.proofs.Reaching.{AllPassed, AllSelected}
use Rattle.f3_cell_kinds.proofs.Scalars.{no_both}
use Rattle.f3_store_kinds.specs.There.{PathThere}
use Rattle.f3_store_kinds.specs.Typing.{Typing, kind_at, IsTyped, IsOrNone, AreParts, PartsBy}
use Rattle.f3_store_kinds.specs.Accords.{IsNamed}
use Rattle.f3_store_kinds.proofs.Objects.{get_map, one_rank}
use Rattle.f3_store_kinds.proofs.Stores.{root_is, read_is}
use Rattle.f3_there_laws.proofs.Forms.{IsSet, AreFlat, set_there, set_of_kind, held_of_set, composite_no, array_no}
use Rattle.f3_there_laws.proofs.Roots.{RootsSet, root_is_set}
use Rattle.f3_there_laws.proofs.Everywhere.{AllAre, AllRefs, AllPasseds, AllSelectors}

-- ---- what stands at a path

pub path_set : (store : Store) (p : Path) (v : Value) → get store p ≡ v → IsSet v → PathThere store p
path_set store p v same h e = set_there v h (sym same ∙ e)

get_within : (store : Store) (p : Path) (s : Step) → get store (within p s) ≡ part (get store p) (s ∷ [])
get_within store p s = part_append (at_root store p.root) p.steps (s ∷ [])

index_behind : {A : Type 0} (xs : List A) (y : A) (ys : List A) (d : A) → slice_index_or (xs ++ y ∷ ys) (length xs) d ≡ y
index_behind [] y ys d = refl
index_behind (x ∷ xs) y ys d = index_behind xs y ys d

pub index_first : {A : Type 0} (xs : List A) (y z d : A) → slice_index_or ((xs ++ y ∷ []) ++ z ∷ []) (length xs) d ≡ y
index_first [] y z d = refl
index_first (x ∷ xs) y z d = index_first xs y z d

pub index_last : {A : Type 0} (xs : List A) (y d : A) → slice_index_or (xs ++ y ∷ []) (length xs) d ≡ y
index_last xs y d = index_behind xs y [] d

module _ (types : List Derived) (flat : AreFlat types) where
  -- ---- what there is where a value stands

  elements_there : (store : Store) (k : Kind) (p : Path) (i : ℕ) (vs : Values) → k.is_allocatable ≡ false → AreElements types k vs →
      ((j : ℕ) → get store (within p (Element (i + j))) ≡ part_at vs j []) → AllAre (PathThere store) (elements_from i p vs)
  elements_there store k p i none held h f = tt
  elements_there store k p i (more v vs) held h f =
      let here : i ≡ i + 0 = omega arith in (
        path_set store (within p (Element i)) v (ap (λ n. get store (within p (Element n))) here ∙ f 0) (set_of_kind types k v held h.0),
        elements_there store k p (suc i) vs held h.1 (λ j. let there : suc i + j ≡ i + suc j = omega arith in ap (λ n. get store (within p (Element n))) there ∙ f (suc j)),
      )

  pub reach_there : (store : Store) (k : Kind) (p : Path) (v : Value) → get store p ≡ v → k.is_allocatable ≡ false → IsOf types k v → AllAre (PathThere store) (paths_by p (reach_of p v))
  reach_there store k p (Array ss vs) same held h = elements_there store (of_kind k.of 0) p 0 vs refl h.4
      (λ j. let none : 0 + j ≡ j = omega arith in
      ap (λ n. get store (within p (Element n))) none ∙ get_within store p (Element j) ∙ ap (λ x. part x (Element j ∷ [])) same)
  reach_there store k p (Number z) same held h = (path_set store p (Number z) same tt, tt)
  reach_there store k p (Truth b) same held h = (path_set store p (Truth b) same tt, tt)
  reach_there store k p (Composite vs) same held h = (path_set store p (Composite vs) same tt, tt)
  reach_there store k p Unallocated same held h = absurd (no_both k.is_allocatable h held)
  reach_there store k p (Allocated v) same held h = absurd (no_both k.is_allocatable h.0 held)

  -- ---- components

  part_there : (store : Store) (k : Kind) (n : ℕ) (c : m.Component) (p : Path) → k.is_allocatable ≡ false → nat_eq k.rank 0 ≡ true → component_of types k.of n ≡ Some c →
      IsOf types k (get store p) → IsOf types c.declared.kind (get store (within p (Component n)))
  part_there store k n c p held one at h = subst (λ v. IsOf types c.declared.kind v) (sym (get_within store p (Component n))) (part_of types k (get store p) n c held one at h)

  parts_there : (store : Store) (k : Kind) (n : ℕ) (c : m.Component) (ps : List Path) → k.is_allocatable ≡ false → nat_eq k.rank 0 ≡ true → component_of types k.of n ≡ Some c →
      AreElements types k (joined (map (get store) ps)) → AllAre (PathThere store) (map (λ q. within q (Component n)) ps)
  parts_there store k n c [] held one at h = tt
  parts_there store k n c (p ∷ ps) held one at h =
      let is = part_there store k n c p held one at h.0 in (
        path_set store (within p (Component n)) (get store (within p (Component n))) refl (set_of_kind types c.declared.kind _ (flat k.of n c at) is),
        parts_there store k n c ps held one at h.1,
      )

  component_by : (store : Store) (k : Kind) (n : ℕ) (c : m.Component) (p : Path) (reach : Reach) → k.is_allocatable ≡ false → component_of types k.of n ≡ Some c → Reaches k reach →
      IsOf types k (held_at store p reach) → AllAre (PathThere store) (paths_by (component_path reach p n) (component_reach reach p n store))
  component_by store k n c p One held at h is =
      reach_there store c.declared.kind (within p (Component n)) (get store (within p (Component n))) refl (flat k.of n c at)
      (part_there store k n c p held (one_rank types k held h) at is)
  component_by store k n c p (Many ss ps) held at h is = parts_there store (of_kind k.of 0) n c ps refl refl at is.4

  pub component_finds : (w : Setting) (store : Store) (k : Kind) (n : ℕ) (c : m.Component) (maker : Maker) (r : Reference) → k.is_allocatable ≡ false → component_of types k.of n ≡ Some c →
      Reaches k r.reach → IsOf types k (held_at store r.path r.reach) → Calm (λ q. AllAre (PathThere store) (paths q)) store (component w n maker r)
  component_finds w store k n c maker r held at h is = looks_calm _ (component_by store k n c r.path r.reach held at h is)

  -- ---- names

  refs_at : (Q : Path → Type 0) (ks : List Kind) (rs : List Reference) (n : ℕ) (k : Kind) (q : Reference) → AllRefer ks rs → slice_get ks n ≡ Some k → AllRefs Q rs →
      AllAre Q (paths (slice_index_or rs n q))
  refs_at Q [] rs n k q h e f = cc
  refs_at Q (j ∷ ks) [] n k q h e f = absurd h
  refs_at Q (j ∷ ks) (r ∷ rs) zero k q h e f = f.0
  refs_at Q (j ∷ ks) (r ∷ rs) (suc n) k q h e f = refs_at Q ks rs n k q h.1 e f.1

  module _ (p : Program) (g : Typing) (store : Store) (typed : IsTyped types g store) (roots : RootsSet store) where
    root_finds : (t : Root) (k : Kind) → kind_at g t ≡ Some k → AllAre (PathThere store) (paths_by (whole t) (reach_of (whole t) (get store (whole t))))
    root_finds t k e =
        let is = root_is types g store t k typed e in
        reach_there store k (whole t) (at_root store t) refl (held_of_set types k (at_root store t) (root_is_set types g store t k typed roots e) is) is

    static_at : (n : ℕ) (k : Kind) (c : Scope) → g.statics ≡ map (λ (y : Static). y.declared.kind) p.statics.items → kind_of_name p c.variables c.names (name.Static n) ≡ Some k →
        kind_at g (stores.Static n) ≡ Some k
    static_at n k c same e =
        let f = found_is (slice_get p.statics.items n) _ k e in
        ap (λ (ks : List Kind). slice_get ks n) same ∙ get_map (λ (y : Static). y.declared.kind) p.statics.items n f.0 f.1 ∙ f.2

    local_at : (level n : ℕ) (k : Kind) (c : Scope) (names : List Reference) → IsNamed types g level names c → found (slice_get c.variables n) (λ (y : Declared). Some y.kind) ≡ Some k →
        kind_at g (Local level n) ≡ Some k
    local_at level n k c names known e =
        let f = found_is (slice_get c.variables n) _ k e in
        ap (λ (o : Option (List Kind)). found o (λ (ks : List Kind). slice_get ks n)) known.0 ∙ get_map (λ (y : Declared). y.kind) c.variables n f.0 f.1 ∙ f.2

    pub named_finds : (w : Setting) (c : Scope) (x : Name) (here : Here) (k : Kind) → g.statics ≡ map (λ (y : Static). y.declared.kind) p.statics.items →
        IsNamed types g here.level here.names c → AllRefer c.names here.names → AllRefs (PathThere store) here.names → kind_of_name p c.variables c.names x ≡ Some k →
        Calm (λ q. AllAre (PathThere store) (paths q)) store (named w x here)
    named_finds w c (name.Static n) here k same known refer names e = looks_calm _ (root_finds (stores.Static n) k (static_at n k c same e))
    named_finds w c (name.Local n) here k same known refer names e = looks_calm _ (root_finds (Local here.level n) k (local_at here.level n k c here.names known e))
    named_finds w c (name.Lent n) here k same known refer names e = gives_calm _ (refs_at (PathThere store) c.names here.names n k _ refer e names)

    -- the value with which a procedure returns
    pub result_set : (x : Option ℕ) (c : Scope) (level : ℕ) (k : Kind) (names : List Reference) → IsNamed types g level names c → result_in c.variables x ≡ Some k → IsSet (result_at x level store)
    result_set None c level k names known e = tt
    result_set (Some n) c level k names known e = root_is_set types g store (Local level n) k typed roots (local_at level n k c names known e)

  -- ---- elements

  added_there : (Q : Path → Type 0) (ps qs : List Path) (n : ℕ) → AllAre Q ps → AllAre Q qs → AllAre Q (added (slice_get ps n) qs)
  added_there Q [] qs n h f = f
  added_there Q (p ∷ ps) qs zero h f = (h.0, f)
  added_there Q (p ∷ ps) qs (suc n) h f = added_there Q ps qs n h.1 f

  chosen_there : (Q : Path → Type 0) (ps : List Path) (ns : List ℕ) → AllAre Q ps → AllAre Q (elements_at ps ns)
  chosen_there Q ps [] h = tt
  chosen_there Q ps (n ∷ ns) h = added_there Q ps (elements_at ps ns) n h (chosen_there Q ps ns h)

  first_there : (Q : Path → Type 0) (r : Reference) (ps : List Path) → AllAre Q ps → AllAre Q (paths (first_of r ps))
  first_there Q r [] h = tt
  first_there Q r (p ∷ ps) h = (h.0, tt)

  picked_there : (Q : Path → Type 0) (r : Reference) (ps : List Path) (ss : List Span) (ns : List ℕ) → AllAre Q ps → AllAre Q (paths (picked r ps ss ns))
  picked_there Q r ps (s ∷ ss) ns h = chosen_there Q ps ns h
  picked_there Q r ps [] ns h = first_there Q r (elements_at ps ns) (chosen_there Q ps ns h)

  -- places that are found are those that are selected, and they are inside
  abbrev AreInside : List Span → List Chosen → List ℕ → Type 0
  AreInside ss cs ns = (ns ≡ places_in ss cs) × (all_inside ss cs ≡ true)

  places_inside : (ss : List Span) (cs : List Chosen) (here : Here) (store : Store) → Calm (AreInside ss cs) store (places ss cs here)
  places_inside ss cs here store = if_calm (some_zero_step cs) (λ e. fails_calm _ here.place)
      (λ e. if_calm (all_inside ss cs) (λ f. gives_calm _ (refl, f)) (λ f. fails_calm _ here.place))

  pub picks_finds : (Q : Path → Type 0) (r : Reference) (cs : List Chosen) (here : Here) (store : Store) (reach : Reach) → AllAre Q (paths r) → AllAre Q (paths_by r.path reach) →
      Calm (λ q. AllAre Q (paths q)) store (picks r reach cs here)
  picks_finds Q r cs here store One h f = gives_calm r h
  picks_finds Q r cs here store (Many ss ps) h f = bind_calm (places_inside ss cs here store) (λ ns t. gives_calm _ (picked_there Q r ps (spans_in ss cs) ns f))

  -- of what is not allocatable
  pub selects_finds : (Q : Path → Type 0) (is_opened : Bool) (r : Reference) (cs : List Chosen) (here : Here) (store : Store) → is_opened ≡ false → AllAre Q (paths r) →
      Calm (λ q. AllAre Q (paths q)) store (selects is_opened cs r here)
  selects_finds Q true r cs here store e h = cc
  selects_finds Q false r cs here store e h = bind_calm {Q = λ q. AllAre Q (paths q)} (gives_calm r h) (λ q f. picks_finds Q q cs here store q.reach f f)

  -- ---- an element of a component of each element of an array

  bounds_at : (cs : List m.Component) (vs : Values) (n : ℕ) (c : m.Component) → AreComponents types cs vs → slice_get cs n ≡ Some c → HasBounds c.declared (part_at vs n [])
  bounds_at [] vs n c h e = cc
  bounds_at (x ∷ cs) none n c h e = absurd h
  bounds_at (x ∷ cs) (more v vs) zero c h e = let same : x ≡ c = cc in subst (λ (y : m.Component). HasBounds y.declared v) same h.1
  bounds_at (x ∷ cs) (more v vs) (suc n) c h e = bounds_at cs vs n c h.2 e

  part_bounds : (k : Kind) (n : ℕ) (c : m.Component) (v : Value) → is_scalar k ≡ true → component_of types k.of n ≡ Some c → IsOf types k v → HasBounds c.declared (part v (Component n ∷ []))
  part_bounds k n c v one at h =
      let f = component_found _ n c at in
      let q = composite_no types k f.0 v one f.1 h in
      let h' : IsOf types k (Composite q.0) = subst (λ y. IsOf types k y) q.1 h in
      let same : h'.1 ≡ f.0 = some_same (sym h'.2 ∙ f.1) in
      subst (λ y. HasBounds c.declared (part y (Component n ∷ []))) (sym q.1)
      (bounds_at f.0.components.items q.0 n c (subst (λ (y : Derived). AreComponents types y.components.items q.0) same h'.3) f.2)

  element_set : (k : Kind) (vs : Values) (i : ℕ) → k.is_allocatable ≡ false → AreElements types k vs → i < length (listed vs) → IsSet (part_at vs i [])
  element_set k none i held h less = absurd (omega (arith, less))
  element_set k (more v vs) zero held h less = set_of_kind types k v held h.0
  element_set k (more v vs) (suc i) held h less = element_set k vs i held h.1 (omega (arith, less))

  -- the place of one element
  first_below : (ns : List ℕ) (n : ℕ) → AllBelow n ns → length ns ≡ 1 → slice_index_or ns 0 0 < n
  first_below [] n h e = cc
  first_below (x ∷ ns) n h e = h.0

  one_place : (ss : List Span) (bs : List Bool) (cs : List Chosen) → length ss ≡ length bs → AllChosen bs cs → all_inside ss cs ≡ true → nat_eq (count_ranges bs) 0 ≡ true →
      slice_index_or (places_in ss cs) 0 0 < count ss
  one_place ss bs cs many are inside one =
      let q = places_count ss bs cs many are in
      first_below (places_in ss cs) (count ss) (places_below ss bs cs many are inside) (q.0 ∙ alone (spans_in ss cs) (q.1 ∙ eqb-true _ _ one))
    where
      alone : (xs : List Span) → length xs ≡ 0 → count xs ≡ 1
      alone [] e = refl
      alone (x ∷ xs) e = cc

  module _ (g : Typing) (store : Store) (typed : IsTyped types g store) (of : Base) (n : ℕ) (c : m.Component) (at : component_of types of n ≡ Some c) where
    -- the array that a component is
    array_at : (q : Path) → nat_lt 0 c.declared.kind.rank ≡ true → IsOrNone types (of_kind of 0) (get store q) → PathThere store (within q (Component n)) →
        (vs : Values) × (get store (within q (Component n)) ≡ Array (spans_declared c.declared.dimensions.items) vs)
        × IsOf types c.declared.kind (Array (spans_declared c.declared.dimensions.items) vs)
    array_at q some (inl e) there = absurd (there (get_within store q (Component n) ∙ ap (λ v. part v (Component n ∷ [])) e))
    array_at q some (inr h) there =
        let is = part_of types (of_kind of 0) (get store q) n c refl refl at h in
        let bounds = part_bounds (of_kind of 0) n c (get store q) refl at h in
        let f = array_no types c.declared.kind (part (get store q) (Component n ∷ [])) (flat of n c at) some is in
        let same : f.0 ≡ spans_declared c.declared.dimensions.items = subst (λ v. HasBounds c.declared v) f.2 bounds in
        let v : part (get store q) (Component n ∷ []) ≡ Array (spans_declared c.declared.dimensions.items) f.1 = f.2 ∙ ap (λ ss. Array ss f.1) same in
        (f.1, get_within store q (Component n) ∙ v, subst (λ x. IsOf types c.declared.kind x) v is)

    one_there : (bs : List Bool) (cs : List Chosen) (q : Path) → nat_eq (length bs) c.declared.kind.rank ≡ true → nat_eq (count_ranges bs) 0 ≡ true →
        nat_lt 0 c.declared.kind.rank ≡ true → AllChosen bs cs → all_inside (spans_declared c.declared.dimensions.items) cs ≡ true →
        IsOrNone types (of_kind of 0) (get store q) → PathThere store (within q (Component n)) →
        PathThere store (within (within q (Component n)) (Element (slice_index_or (places_in (spans_declared c.declared.dimensions.items) cs) 0 0)))
    one_there bs cs q rank one some are inside h there =
        let a = array_at q some h there in
        let i = slice_index_or (places_in (spans_declared c.declared.dimensions.items) cs) 0 0 in
        let less = one_place (spans_declared c.declared.dimensions.items) bs cs (a.2.2 ∙ sym (eqb-true _ _ rank)) are inside one in
        let many = a.2.3 in
        path_set store _ (part_at a.0 i []) (get_within store (within q (Component n)) (Element i) ∙ ap (λ v. part v (Element i ∷ [])) a.1)
        (element_set (of_kind c.declared.kind.of 0) a.0 i refl a.2.4 (omega (arith, less, many)))

    each_there : (bs : List Bool) (cs : List Chosen) (ps : List Path) → nat_eq (length bs) c.declared.kind.rank ≡ true → nat_eq (count_ranges bs) 0 ≡ true →
        nat_lt 0 c.declared.kind.rank ≡ true → AllChosen bs cs → all_inside (spans_declared c.declared.dimensions.items) cs ≡ true →
        AreParts types g of n ps → AllAre (PathThere store) ps →
        AllAre (PathThere store) (map (λ p. within p (Element (slice_index_or (places_in (spans_declared c.declared.dimensions.items) cs) 0 0))) ps)
    each_there bs cs [] rank one some are inside parts there = tt
    each_there bs cs (p ∷ ps) rank one some are inside parts there =
        let i = slice_index_or (places_in (spans_declared c.declared.dimensions.items) cs) 0 0 in
        let q = parts.0 in (
          subst (λ x. PathThere store (within x (Element i))) (sym q.1)
              (one_there bs cs q.0 rank one some are inside (read_is types g store (of_kind of 0) q.0 typed q.2) (subst (λ x. PathThere store x) q.1 there.0)),
          each_there bs cs ps rank one some are inside parts.1 there.1,
        )

    in_each_there : (bs : List Bool) (cs : List Chosen) (ns : List ℕ) (p : Path) (reach : Reach) → nat_eq (length bs) c.declared.kind.rank ≡ true → nat_eq (count_ranges bs) 0 ≡ true →
        nat_lt 0 c.declared.kind.rank ≡ true → AllChosen bs cs → AreInside (spans_declared c.declared.dimensions.items) cs ns → PartsBy types g of n reach →
        AllAre (PathThere store) (paths_by p reach) → AllAre (PathThere store) (paths_by p (in_each reach ns))
    in_each_there bs cs ns p One rank one some are inside parts there = there
    in_each_there bs cs ns p (Many ss ps) rank one some are inside parts there =
        subst (λ (l : List ℕ). AllAre (PathThere store) (map (λ p. within p (Element (slice_index_or l 0 0))) ps)) (sym inside.0)
        (each_there bs cs ps rank one some are inside.1 parts there)

    pub each_finds : (ss : List Span) (bs : List Bool) (cs : List Chosen) (r : Reference) (here : Here) → ss ≡ spans_declared c.declared.dimensions.items →
        nat_eq (length bs) c.declared.kind.rank ≡ true → nat_eq (count_ranges bs) 0 ≡ true → nat_lt 0 c.declared.kind.rank ≡ true → AllChosen bs cs → PartsBy types g of n r.reach →
        AllAre (PathThere store) (paths r) → Calm (λ q. AllAre (PathThere store) (paths q)) store (picks_in_each ss r cs here)
    each_finds ss bs cs r here same rank one some are parts there =
        subst (λ xs. Calm (λ q. AllAre (PathThere store) (paths q)) store (picks_in_each xs r cs here)) (sym same)
        (bind_calm (places_inside (spans_declared c.declared.dimensions.items) cs here store)
        (λ ns inside. gives_calm _ (in_each_there bs cs ns r.path r.reach rank one some are inside parts there)))

  -- ---- dummies and associate names

  by_number : {X : Type 0} (b : Bool) (x y : X) (P : X → Type 0) → (b ≡ true → P x) → (b ≡ false → P y) → P (if b then x else y)
  by_number true x y P h k = h refl
  by_number false x y P h k = k refl

  skipped : (b : Bool) (n : ℕ) → b ≡ false → nat_eq (if b then suc n else n) 1 ≡ true → nat_eq n 1 ≡ true
  skipped true n e f = cc
  skipped false n e f = f

  append_append : {A : Type 0} (xs ys zs : List A) → (xs ++ ys) ++ zs ≡ xs ++ (ys ++ zs)
  append_append [] ys zs = refl
  append_append (x ∷ xs) ys zs = ap (λ l. x ∷ l) (append_append xs ys zs)

  based_there : (Q : Path → Type 0) (p : Path) (ls : List ℤ) (reach : Reach) → AllAre Q (paths_by p reach) → AllAre Q (paths_by p (based_reach ls reach))
  based_there Q p ls One h = h
  based_there Q p ls (Many ss ps) h = h

  shown_there : (Q : Path → Type 0) (p : Path) (reach : Reach) → AllAre Q (paths_by p reach) → AllAre Q (paths_by p (shown_reach reach))
  shown_there Q p One h = h
  shown_there Q p (Many ss ps) h = h

  module _ (store : Store) (level : ℕ) where
    -- a value that is held in a slot
    slot_there : (k : Kind) (v : Value) (slot : ℕ) (front back : List Value) → length front ≡ slot → slice_index_or store.levels level [] ≡ front ++ v ∷ back → IsSet v → IsOf types k v →
        AllAre (PathThere store) (paths_by (whole (Local level slot)) (reach_of (whole (Local level slot)) v))
    slot_there k v slot front back many at set is = reach_there store k (whole (Local level slot)) v
        (ap (λ l. slice_index_or l slot Unallocated) at ∙ ap (λ n. slice_index_or (front ++ v ∷ back) n Unallocated) (sym many) ∙ index_behind front v back Unallocated)
        (held_of_set types k v set is) is

    argument_there : (k : ℕ) (of : Base) (gs : List formed.Given) (ps : List Passed) (front : List Value) (slot unit : ℕ) → length front ≡ slot →
        slice_index_or store.levels level [] ≡ front ++ held ps → AllPassed types gs ps → AllPasseds (PathThere store) ps → nat_eq (given_for k gs) 1 ≡ true →
        AllAre (PathThere store) (paths (argument_at k of ps level slot unit))
    argument_there k of [] [] front slot unit many at are there one = cc
    argument_there k of [] (x ∷ ps) front slot unit many at are there one = absurd are
    argument_there k of (x ∷ gs) [] front slot unit many at are there one = absurd are
    argument_there k of (x ∷ gs) (Given n v ∷ ps) front slot unit many at are there one =
        by_number (nat_eq n k) _ _ (λ (r : Reference). AllAre (PathThere store) (paths r))
        (λ e. slot_there x.kind v slot front (held ps) many at there.0 are.0.2)
        (λ e. argument_there k of gs ps (front ++ v ∷ []) (suc slot) unit (omega (arith, length-append front (v ∷ []), many)) (at ∙ sym (append_append front (v ∷ []) (held ps))) are.1 there.1
        (skipped (nat_eq x.number k) (given_for k gs) (ap (λ m. nat_eq m k) are.0.1 ∙ e) one))
    argument_there k of (x ∷ gs) (Lent n r ∷ ps) front slot unit many at are there one =
        by_number (nat_eq n k) _ _ (λ (r : Reference). AllAre (PathThere store) (paths r))
        (λ e. there.0)
        (λ e. argument_there k of gs ps front slot unit many at are.1 there.1
        (skipped (nat_eq x.number k) (given_for k gs) (ap (λ m. nat_eq m k) are.0.1 ∙ e) one))

    dummies_there : (ds : List Dummy) (k : ℕ) (gs : List formed.Given) (ps : List Passed) (unit : ℕ) → slice_index_or store.levels level [] ≡ held ps → AllPassed types gs ps →
        AllPasseds (PathThere store) ps → all_given k ds gs ≡ true → AllRefs (PathThere store) (dummies k ds ps level unit)
    dummies_there [] k gs ps unit at are there each = tt
    dummies_there (d ∷ ds) k gs ps unit at are there each =
        let a = and_is (nat_eq (given_for k gs) 1) (all_given (suc k) ds gs) each in
        let r : Reference = argument_at k d.kind.of ps level 0 unit in (
          based_there (PathThere store) r.path d.lowers.items r.reach (argument_there k d.kind.of gs ps [] 0 unit refl at are there a.0),
          dummies_there ds (suc k) gs ps unit at are there a.1,
        )

    pub called_there : (p : Program) (f : ℕ) (gs : List formed.Given) (ps : List Passed) (q : Procedure) (k : Kind) (unit : ℕ) → slice_get p.procedures.items f ≡ Some q →
        referenced p [] [] f gs ≡ Some k → slice_index_or store.levels level [] ≡ held ps → AllPassed types gs ps → AllPasseds (PathThere store) ps →
        AllRefs (PathThere store) (dummies 0 q.dummies.items ps level unit)
    called_there p f gs ps q k unit at_f is at are there =
        let v = found_is (slice_get p.procedures.items f) _ k is in
        let same : v.0 ≡ q = some_same (sym v.1 ∙ at_f) in
        let a = and_is _ _ (only_is _ _ k v.2).0 in
        dummies_there q.dummies.items 0 gs ps unit at are there (subst (λ (z : Procedure). all_given 0 z.dummies.items gs ≡ true) same a.1)

    pub associates_there : (ks : List Kind) (xs : List Association) (front : List Value) (slot unit : ℕ) → length front ≡ slot → slice_index_or store.levels level [] ≡ front ++ held_by xs →
        AllSelected types ks xs → AllSelectors (PathThere store) xs → AllRefs (PathThere store) (associates xs level slot unit)
    associates_there [] [] front slot unit many at are there = tt
    associates_there [] (x ∷ xs) front slot unit many at are there = absurd are
    associates_there (k ∷ ks) [] front slot unit many at are there = absurd are
    associates_there (k ∷ ks) (Holds of v ∷ xs) front slot unit many at are there = (
      slot_there k v slot front (held_by xs) many at there.0 are.0.1,
      associates_there ks xs (front ++ v ∷ []) (suc slot) unit (omega (arith, length-append front (v ∷ []), many)) (at ∙ sym (append_append front (v ∷ []) (held_by xs))) are.1 there.1,
    )
    associates_there (k ∷ ks) (Means r ∷ xs) front slot unit many at are there =
        (shown_there (PathThere store) r.path r.reach there.0, associates_there ks xs front slot unit many at are.1 there.1)
