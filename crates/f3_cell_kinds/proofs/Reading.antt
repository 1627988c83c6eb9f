-- Steps that read from the store, where objects stand.
use Rattle.std.proofs.Common.{◌≡◌, ◌∙◌, sym, ap, ℕ, zero, suc, Bool, true, false, List, [], ◌∷◌, length, Option, Some, None, refl, subst, if◌then◌else◌}
use Rattle.std.specs.Prelude.{nat_eq, nat_lt, slice_get, slice_index_or}
use Rattle.std.proofs.lemmas.Bool.{eqb-true}
use Rattle.f3_program.specs.declared.declarations.Component as m
use Rattle.f3_program.specs.declared.declarations.Derived.{Derived}
use Rattle.f3_program.specs.declared.declarations.Kind.{Kind}
use Rattle.f3_program.specs.declared.expression.Name.{Name}
use Rattle.f3_program.specs.declared.expression.Name.TheVariants as name
use Rattle.f3_program.specs.declared.program.Program.{Program}
use Rattle.f3_meaning_whole.specs.Value.{Value, Truth, Unallocated, Allocated, Number, Composite, Array}
use Rattle.f3_meaning_whole.specs.Store.{Store, Root, Static, Local, Contents, within, get}
use Rattle.f3_meaning_whole.specs.Reference.{Reach, One, Many, Reference, Maker, held_at, is_pinned}
use Rattle.f3_meaning_whole.specs.declared.run_error.RunError.TheVariants.{InUse}
use Rattle.f3_meaning_whole.specs.Ran.{World, End, Gives, Fails, Stops, Beyond, Ran, ◌>>=◌, looks}
use Rattle.f3_meaning_whole.specs.Act.{Setting, Here, Chosen, claim_for, named, whole, type_of, static_type, component, component_of, component_type, contents, contents_by, opened, read}
use Rattle.f3_meaning_whole.specs.Formed.{of_kind, kind_of_name, sectioned, count_ranges}
use Rattle.f3_code.specs.Exec.{result_at}
use Rattle.f3_code.specs.State as state
use Rattle.f3_code.specs.State.{State, Next}
use Rattle.f3_code.specs.Machine.{performs, ends_so, opens, selects}
use Rattle.f3_cell_kinds.specs.Types.{Scope}
use Rattle.f3_cell_kinds.specs.Types as cell
use Rattle.f3_cell_kinds.specs.Effect.{held_kind, result_in, part_kind, part_cell}
use Rattle.f3_cell_kinds.specs.Holds.{Reaches, Refers, AllRefer, IsOf, Knows, Is, Fits}
use Rattle.f3_cell_kinds.specs.Stands.{root_of}
use Rattle.f3_cell_kinds.proofs.Asked.{some_same, found_is, only_is, and_is, truth_same}
use Rattle.f3_cell_kinds.proofs.Yielding.{IsGiven, followed, Yields, gives_yields, fails_yields, any_yields, bind_yields}
use Rattle.f3_cell_kinds.proofs.Calm.{IsCalm, Calm}
use Rattle.f3_cell_kinds.proofs.Reaching.{reach_is}
use Rattle.f3_cell_kinds.proofs.Picking.{AllChosen, picks_yields}
use Rattle.f3_cell_kinds.proofs.Parting.{component_reaches, component_base, part_by}
use Rattle.f3_cell_kinds.proofs.Holding.{FitsNext, Keeps}

-- ---- what is given in one world

pub record GivesAt {A : Type 0} (P : A → Type 0) (r : Ran A) (w : World) : Type 0 where
  pub by : IsGiven P (r.from w).end

pub looks_given : {A : Type 0} {P : A → Type 0} (f : Store → A) (w : World) → P (f w.store) → GivesAt P (looks f) w
unfolding looks
looks_given f w h = record { by = h }

look_then : {A B : Type 0} {P : B → Type 0} (Q : A → Type 0) (f : Store → A) (k : A → Ran B) (w : World) → Q (f w.store) → ((x : A) → Q x → Yields P (k x)) →
    GivesAt P (looks f >>= k) w
unfolding looks ◌>>=◌
look_then Q f k w h g = record { by = (g (f w.store) h).by w }

pub yields_given : {A : Type 0} {P : A → Type 0} {r : Ran A} (w : World) → Yields P r → GivesAt P r w
yields_given w h = record { by = h.by w }

given_end : {A : Type 0} (P : A → Type 0) (store : Store) (end : End A) → IsCalm P store end → IsGiven P end
given_end P store (Gives x w) h = h.0
given_end P store (Fails error place) h = tt
given_end P store (Stops code) h = tt
given_end P store Beyond h = tt

pub calm_given : {A : Type 0} {P : A → Type 0} {r : Ran A} (w : World) → Calm P w.store r → GivesAt P r w
calm_given {P = P} {r = r} w h = record { by = given_end P w.store (r.from w).end (h.by w refl) }

pub performing_at : (types : List Derived) (sites : ℕ → _) {A : Type 0} {P : A → Type 0} (r : Ran A) (w : World) {f : A → World → State} → GivesAt P r w →
    ((x : A) → P x → (w : World) → Fits types sites (f x w)) → Keeps types sites (performs r w f)
performing_at types sites {A = A} {P = P} r w {f = f} given h = record { by = by_end (r.from w).out (r.from w).end given.by }
  where
    by_end : (out : List _) (end : End A) → IsGiven P end → FitsNext types sites (ends_so out end f)
    by_end out (Gives x w) is = h x is w
    by_end out (Fails error place) is = tt
    by_end out (Stops code) is = tt
    by_end out Beyond is = tt

pub give_then : {A B : Type 0} {Q : A → Type 0} {P : B → Type 0} {m : Ran A} {f : A → Ran B} (w : World) → GivesAt Q m w → ((x : A) → Q x → Yields P (f x)) → GivesAt P (m >>= f) w
unfolding ◌>>=◌
give_then {Q = Q} {P = P} {m = m} {f = f} w h k = record { by = followed Q P f k (m.from w).out (m.from w).end h.by }

module _ (types : List Derived) where
  pub read_given : (k : Kind) (r : Reference) (here : Here) (w : World) → IsOf types k (held_at w.store r.path r.reach) → GivesAt (IsOf types k) (read r here) w
  read_given k r here w h = look_then (IsOf types k) (λ store. held_at store r.path r.reach) _ w h (λ v f. bind_yields (any_yields (claim_for v here)) (λ done t. gives_yields v f))

  opened_yields : (k : Kind) (r : Reference) (v : Value) (here : Here) → Refers k r → IsOf types k v → Yields (Refers (held_kind k)) (opened r v here)
  opened_yields k r (Allocated v) here h is = gives_yields _ (h.0, reach_is types (held_kind k) (within r.path Contents) v is.1)
  opened_yields k r (Number z) here h is = fails_yields _ here.place
  opened_yields k r (Truth b) here h is = fails_yields _ here.place
  opened_yields k r (Composite vs) here h is = fails_yields _ here.place
  opened_yields k r (Array ss vs) here h is = fails_yields _ here.place
  opened_yields k r Unallocated here h is = fails_yields _ here.place

  contents_given_by : (reach : Reach) (k : Kind) (r : Reference) (here : Here) (w : World) → Refers k r → IsOf types k (held_at w.store r.path reach) →
      GivesAt (Refers (held_kind k)) (contents_by reach r here) w
  contents_given_by One k r here w h is = look_then (IsOf types k) (λ store. get store r.path) _ w is (λ v f. opened_yields k r v here h f)
  contents_given_by (Many ss ps) k r here w h is = yields_given w (fails_yields _ here.place)

  pub contents_given : (k : Kind) (r : Reference) (here : Here) (w : World) → Refers k r → IsOf types k (held_at w.store r.path r.reach) →
      GivesAt (Refers (held_kind k)) (contents r here) w
  contents_given k r here w h is = contents_given_by r.reach k r here w h is

  if_given : {A : Type 0} {P : A → Type 0} (b : Bool) {x y : Ran A} (w : World) → GivesAt P x w → GivesAt P y w → GivesAt P (if b then x else y) w
  if_given true w h k = h
  if_given false w h k = k

  pub opens_given : (k : Kind) (r : Reference) (here : Here) (w : World) → Refers k r → IsOf types k (held_at w.store r.path r.reach) →
      GivesAt (Refers (held_kind k)) (opens r here) w
  opens_given k r here w h is = if_given (is_pinned r.path here.lent) w (yields_given w (fails_yields InUse here.place)) (contents_given k r here w h is)

  -- ---- names

  refers_at : (ks : List Kind) (rs : List Reference) (n : ℕ) (k : Kind) (q : Reference) → AllRefer ks rs → slice_get ks n ≡ Some k → Refers k (slice_index_or rs n q)
  refers_at [] rs n k q h e = cc
  refers_at (j ∷ ks) [] n k q h e = absurd h
  refers_at (j ∷ ks) (r ∷ rs) zero k q h e = let same : j ≡ k = cc in subst (λ (z : Kind). Refers z r) same h.0
  refers_at (j ∷ ks) (r ∷ rs) (suc n) k q h e = refers_at ks rs n k q h.1 e

  pub named_given : (g : Setting) (p : Program) (c : Scope) (x : Name) (here : Here) (k : Kind) (w : World) → g.program.statics.items ≡ p.statics.items → Knows types here c →
      kind_of_name p c.variables c.names x ≡ Some k → ((t : Root) → root_of here x ≡ Some t → IsOf types k (get w.store (whole t))) →
      GivesAt (Refers k) (named g x here) w
  named_given g p c (name.Static n) here k w same known e stands =
      let f = found_is (slice_get p.statics.items n) _ k e in
      let of = ap (λ xs. static_type (slice_get xs n)) same ∙ ap static_type f.1 ∙ ap (λ (z : Kind). z.of) (some_same f.2) in
      looks_given _ w (of, reach_is types k (whole (Static n)) _ (stands (Static n) refl))
  named_given g p c (name.Local n) here k w same known e stands =
      let f = found_is (slice_get c.variables n) _ k e in
      let of = ap (λ ys. type_of (slice_get ys n)) known.0 ∙ ap type_of f.1 ∙ ap (λ (z : Kind). z.of) (some_same f.2) in
      looks_given _ w (of, reach_is types k (whole (Local here.level n)) _ (stands (Local here.level n) refl))
  named_given g p c (name.Lent n) here k w same known e stands = yields_given w (gives_yields _ (refers_at c.names here.names n k _ known.1 e))

  pub result_given : (p : Program) (c : Scope) (x : Option ℕ) (here : Here) (k : Kind) (w : World) → result_in c.variables x ≡ Some k →
      ((n : Name) (t : Root) → kind_of_name p c.variables c.names n ≡ Some k → root_of here n ≡ Some t → IsOf types k (get w.store (whole t))) →
      GivesAt (IsOf types k) (looks (result_at x here.level)) w
  result_given p c None here k w e stands = looks_given _ w (subst (λ (z : Kind). IsOf types z (Truth false)) (some_same e) refl)
  result_given p c (Some n) here k w e stands = looks_given _ w (stands (name.Local n) (Local here.level n) e refl)

  -- ---- components

  -- a component of an object, or of each element of an array
  abbrev pub IsPart : Kind → Kind → Reference → Type 0
  IsPart k c q = (q.of ≡ c.of) × (nat_eq k.rank 0 ≡ true → Reaches c q.reach) × (nat_eq k.rank 0 ≡ false → Reaches (of_kind c.of k.rank) q.reach)

  pub component_given : (g : Setting) (k : Kind) (c : m.Component) (n : ℕ) (maker : Maker) (r : Reference) (w : World) → g.program.types.items ≡ types →
      k.is_allocatable ≡ false → component_of types k.of n ≡ Some c → Refers k r → IsOf types k (held_at w.store r.path r.reach) →
      GivesAt (IsPart k c.declared.kind) (component g n maker r) w
  component_given g k c n maker r w same held e h is =
      let f = component_reaches types k r.reach r.path n c w.store held e h.1 is in
      let of = ap (λ ts. component_type ts r.of n) same ∙ ap (λ t. component_type types t n) h.0 ∙ component_base types k.of n c e in
      looks_given _ w (of, f.0, f.1)

  part_cell_by : (b : Bool) (k : Kind) (n : ℕ) (c : Kind) (q : Reference) → q.of ≡ c.of → (b ≡ true → Reaches c q.reach) → (b ≡ false → Reaches (of_kind c.of k.rank) q.reach) →
      Is types (if b then cell.Object c else cell.Each k n c) (state.Object q)
  part_cell_by true k n c q of f g = (of, f refl)
  part_cell_by false k n c q of f g = (of, g refl)

  pub part_cell_is : (k : Kind) (n : ℕ) (c : Kind) (q : Reference) → IsPart k c q → Is types (part_cell k n c) (state.Object q)
  part_cell_is k n c q h = part_cell_by (nat_eq k.rank 0) k n c q h.0 h.1 h.2

  pub part_kind_is : (k c j : Kind) (q : Reference) → part_kind k c ≡ Some j → IsPart k c q → Refers j q
  part_kind_is k c j q e h = part_by types (nat_eq k.rank 0) k c j q.of q.reach h.0 h.1 h.2 e

  -- ---- elements

  selects_by : (is_opened : Bool) (k : Kind) (bs : List Bool) (cs : List Chosen) (r : Reference) (here : Here) (w : World) → is_opened ≡ k.is_allocatable → length bs ≡ k.rank →
      nat_lt 0 k.rank ≡ true → AllChosen bs cs → Refers k r → IsOf types k (held_at w.store r.path r.reach) →
      GivesAt (Refers (of_kind k.of (count_ranges bs))) (selects is_opened cs r here) w
  selects_by true k bs cs r here w held rank some are h is = give_then w (contents_given k r here w h is)
      (λ q f. picks_yields (held_kind k) q bs cs here refl rank some are f.0 q.reach f.1)
  selects_by false k bs cs r here w held rank some are h is = give_then {Q = Refers k} w (yields_given w (gives_yields r h))
      (λ q f. picks_yields k q bs cs here (sym held) rank some are f.0 q.reach f.1)

  pub selects_given : (p : Program) (is_opened : Bool) (k j : Kind) (bs : List Bool) (cs : List Chosen) (r : Reference) (here : Here) (w : World) →
      sectioned p [] [] is_opened (Some bs) k ≡ Some j → AllChosen bs cs → Refers k r → IsOf types k (held_at w.store r.path r.reach) → GivesAt (Refers j) (selects is_opened cs r here) w
  selects_given p is_opened k j bs cs r here w e are h is =
      let a = only_is _ _ j e in let b = and_is _ _ a.0 in let c = and_is _ _ b.1 in
      subst (λ (z : Kind). GivesAt (Refers z) (selects is_opened cs r here) w) a.1
      (selects_by is_opened k bs cs r here w (truth_same _ _ b.0) (eqb-true _ _ c.0) c.1 are h is)
