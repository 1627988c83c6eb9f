-- Components of objects stand where they are located.
use Rattle.std.proofs.Common.{◌≡◌, ◌∙◌, ℕ, zero, suc, ◌<◌, Bool, true, false, List, [], ◌∷◌, ◌++◌, length, take, refl, sym, ap, subst, arith}
use Rattle.std.specs.Prelude.{None, Some, Option, ◌≢◌, slice_get, not, ◌&&◌, nat_eq, nat_lt, if◌then◌else◌}
use Rattle.std.specs.List.{All}
use Rattle.std.proofs.lemmas.Bool.{eqb-true, ne_eqb}
use Rattle.std.proofs.lemmas.Option.{slice_get_within}
use Rattle.f3_program.specs.declared.declarations.Base.{Base}
use Rattle.f3_program.specs.declared.declarations.Base.TheVariants as base
use Rattle.f3_program.specs.declared.declarations.Component as component
use Rattle.f3_program.specs.declared.declarations.Kind.{Kind}
use Rattle.f3_program.specs.declared.program.Program.{Program}
use Rattle.f3_live_blocks.specs.Blocks.{Live}
use Rattle.f3_meaning_whole.specs.Act.{component_of, component_type, component_reach, component_path, base_of}
use Rattle.f3_meaning_whole.specs.Formed.{IsWellFormed, is_scalar, only}
use Rattle.f3_meaning_whole.specs.Reference.{Reference, Reach, One, Many, Maker}
use Rattle.f3_meaning_whole.specs.Shape.{Shape, Whole, Record, parts_in, shape_in, shapes_of}
use Rattle.f3_meaning_whole.specs.Store.{Store, Path}
use Rattle.f3_meaning_whole.specs.Value.{Span}
use Rattle.f3_cell_kinds.specs.Effect.{part_kind}
use Rattle.f3_cell_kinds.specs.Holds.{Refers, Reaches}
use Rattle.f3_rooms.specs.Flat.{is_flat, are_flat}
use Rattle.f3_rooms.specs.Forms.{Laid, form_of}
use Rattle.f3_rooms.specs.Rooms.{Rooms, store_of}
use Rattle.f3_rooms.specs.Sound.{IsSound}
use Rattle.f3_rooms.specs.Places.{is_scalar_shape}
use Rattle.f3_rooms.specs.Ways.{settled}
use Rattle.f3_room_places.specs.declared.types.Types.{Types}
use Rattle.f3_room_places.specs.Components.{offset_at}
use Rattle.f3_room_places.proofs.Components.{type_is}
use Rattle.f3_room_places.proofs.Trees.{as_many}
use Rattle.f3_word_cells.specs.declared.cell.Area.{Area}
use Rattle.f3_word_cells.specs.declared.cell.Object.{Object}
use Rattle.f3_word_cells.specs.declared.cell.Object.TheVariants as o
use Rattle.f3_word_cells.specs.Areas.{AreOfEach, AreThere, IsObject, shape_for, types_of}
use Rattle.f3_word_areas.specs.Parts.{IsPartOf}
use Rattle.f3_word_areas.proofs.Types.{known}
use Rattle.f3_word_areas.proofs.Further.{one-component, each-component}
use Rattle.f3_word_objects.specs.Parts.{IsComponent, Located}
use Rattle.f3_word_cells.specs.Ranks.{AreShort}

-- ---- no component is allocatable

both : (a b : Bool) → (a && b) ≡ true → (a ≡ true) × (b ≡ true)
both true b e = (refl, e)
both false b e = absurd cc

negated : (b : Bool) → not b ≡ true → b ≡ false
negated true e = absurd cc
negated false e = refl

flat-at : (ts : List Shape) (cs : List component.Component) (k : ℕ) (c : component.Component) → are_flat (parts_in ts cs) ≡ true → slice_get cs k ≡ Some c → c.declared.kind.is_allocatable ≡ false
flat-at ts [] k c flat e = absurd cc
flat-at ts (d ∷ cs) zero c flat e = let same : d ≡ c = cc in ap (λ (y : component.Component). y.declared.kind.is_allocatable) (sym same) ∙ negated _ (both (not d.declared.kind.is_allocatable) _ flat).0
flat-at ts (d ∷ cs) (suc k) c flat e = flat-at ts cs k c (both (is_flat (shape_in ts d.declared.kind.of)) _ (both (not d.declared.kind.is_allocatable) _ flat).1).1 e

pub plain-component : (p : Program) (of : Base) (k : ℕ) (c : component.Component) → All (λ s. is_flat s ≡ true) (types_of p) → component_of p.types.items of k ≡ Some c → c.declared.kind.is_allocatable ≡ false
plain-component p of k c plain is =
    let h = known p of k c is in
    let lt : h.number < length (types_of p) = (let a = slice_get_within p.types.items h.number h.type h.there in let b = as_many p.types.items in omega arith) in
    let tree = type_is p.types.items h.number h.type h.there in
    let flat : is_flat (shape_in (types_of p) (base.Derived h.number)) ≡ true = plain h.number Whole lt in
    flat-at (shapes_of (take h.number p.types.items)) h.type.components.items k c (ap is_flat (sym tree) ∙ flat) h.component

-- a scalar has none
pub no-component : (p : Program) (of : Base) (k : ℕ) (c : component.Component) → component_of p.types.items of k ≡ Some c → is_scalar_shape (shape_for p of) ≡ true → ⊥
no-component p of k c is scalar =
    let h = known p of k c is in
    let tree : shape_for p of ≡ Record h.number (parts_in (shapes_of (take h.number p.types.items)) h.type.components.items) = ap (shape_for p) h.is ∙ type_is p.types.items h.number h.type h.there in
    let wrong : false ≡ true = sym (ap is_scalar_shape tree) ∙ scalar in cc

-- ---- of each element

chosen : (b : Bool) (x y : Option Kind) → b ≡ false → (if b then x else y) ≡ y
chosen true x y e = absurd cc
chosen false x y e = refl

only-if : (b : Bool) (x j : Kind) → only b x ≡ Some j → b ≡ true
only-if true x j e = refl
only-if false x j e = absurd cc

not-none : (n : ℕ) → nat_lt 0 n ≡ true → nat_eq n 0 ≡ false
not-none zero e = absurd cc
not-none (suc n) e = ne_eqb (suc n) 0 (λ h. absurd (omega arith))

settled-one : (c : component.Component) → is_scalar c.declared.kind ≡ true → settled (form_of c.declared) ≡ Laid 0 []
settled-one c e = by c.declared.kind.is_allocatable c.declared.kind.rank refl refl
  where
    plain : c.declared.kind.is_allocatable ≡ false
    plain = negated _ (both (not c.declared.kind.is_allocatable) _ e).0

    rank : c.declared.kind.rank ≡ 0
    rank = eqb-true _ _ (both (not c.declared.kind.is_allocatable) _ e).1

    by : (b : Bool) (n : ℕ) → c.declared.kind.is_allocatable ≡ b → c.declared.kind.rank ≡ n → settled (form_of c.declared) ≡ Laid 0 []
    by true n f g = absurd (let x = sym f ∙ plain in cc)
    by false zero f g = rw (f, g) refl
    by false (suc n) f g = absurd (let x : suc n ≡ 0 = sym g ∙ rank in omega arith)

pub scalar-of-each : (k : Kind) (c : component.Component) (j : Kind) → part_kind k c.declared.kind ≡ Some j → nat_lt 0 k.rank ≡ true → settled (form_of c.declared) ≡ Laid 0 []
scalar-of-each k c j e many = settled-one c (only-if (is_scalar c.declared.kind) _ j (sym (chosen (nat_eq k.rank 0) _ _ (not-none k.rank many)) ∙ e))

-- elements stand there
pub many-there : (p : Program) (x : Rooms) (a : Area) (q : Path) (reach : Reach) → AreThere p x a q reach → (a.elements).dims.items ≢ [] → (ss : List Span) × (ps : List Path) × (reach ≡ Many ss ps)
many-there p x a q One there some = absurd (some there.0)
many-there p x a q (Many ss ps) there some = (ss, ps, refl)

-- ---- components of objects

module _ (p : Program) (m : Live) (x : Rooms) (sound : IsSound (types_of p) m x) (short : AreShort m) (formed : IsWellFormed p) (plain : All (λ s. is_flat s ≡ true) (types_of p))
    (types : Types) (derived : types.derived.now ≡ p.types.items) where
  pub some-component : (z : Object) (r : Reference) (k : Kind) (n : ℕ) (c : component.Component) → IsObject p x z r → Refers k r → component_of p.types.items k.of n ≡ Some c
      → Located types n z None → ⊥
  some-component (o.Held of v) r k n c is refers there located =
      no-component p of n c (ap (λ b. component_of p.types.items b n) (sym is.0 ∙ refers.0) ∙ there) is.3
  some-component (o.Stands a) r k n c is refers there located =
      let wrong : None ≡ Some c = sym located ∙ ap (λ ts. component_of ts a.of n) derived ∙ ap (λ b. component_of p.types.items b n) (sym is.0 ∙ refers.0) ∙ there in cc

  module _ (a : Area) (n : ℕ) (z : Object) (h : IsComponent types n a z) where
    is-in : component_of p.types.items a.of n ≡ Some h.component
    is-in = ap (λ ts. component_of ts a.of n) (sym derived) ∙ h.is

    begins-in : IsPartOf (types_of p) h.component.declared (offset_at (shape_for p a.of) n) a h.part
    begins-in = subst (λ ts. IsPartOf (shapes_of ts) h.component.declared (offset_at (shape_in (shapes_of ts) a.of) n) a h.part) derived h.begins

    unallocated : h.component.declared.kind.is_allocatable ≡ false
    unallocated = plain-component p a.of n h.component plain is-in

    stands-by : (q : Path) (reach : Reach) (k : Kind) (j : Kind) → Reaches k reach → part_kind k h.component.declared.kind ≡ Some j → AreThere p x a q reach
        → AreThere p x h.part (component_path reach q n) (component_reach reach q n (store_of (types_of p) m x))
    stands-by q One k j reaches kinds there = one-component p m x sound formed a h.part n h.component is-in unallocated (short _) begins-in q there
    stands-by q (Many ss ps) k j reaches kinds there =
        each-component p m x sound formed a h.part n h.component is-in unallocated (short _) begins-in (scalar-of-each k h.component j kinds reaches.1) q ss ps there

    -- its type
    typed : (q : Path) (reach : Reach) → AreThere p x a q reach → h.part.of ≡ h.component.declared.kind.of
    typed q One there = (h.begins.one there.0).of
    typed q (Many ss ps) there = ap (λ (y : Area). y.of) (h.begins.each there.0)

  abbrev pub component-of : Reference → ℕ → Maker → Store → Reference
  component-of r n maker store = record {
    path = component_path r.reach r.path n;
    reach = component_reach r.reach r.path n store;
    of = component_type p.types.items r.of n;
    right = r.right;
    origin = r.origin;
    makers = r.makers ++ record { of = r.of; component = n; maker = maker } ∷ [];
  }

  pub component-stands : (z y : Object) (r : Reference) (k j : Kind) (n : ℕ) (maker : Maker) (c : component.Component) → IsObject p x z r → Refers k r → component_of p.types.items k.of n ≡ Some c
      → part_kind k c.declared.kind ≡ Some j → Located types n z (Some y) → IsObject p x y (component-of r n maker (store_of (types_of p) m x))
  component-stands (o.Held of v) y r k j n maker c is refers there kinds located = absurd located
  component-stands (o.Stands a) y r k j n maker c is refers there kinds h =
      let same : k.of ≡ a.of = sym refers.0 ∙ is.0 in
      let both : Some c ≡ Some h.component = sym there ∙ ap (λ b. component_of p.types.items b n) same ∙ is-in a n y h in
      let here : c ≡ h.component = cc in
      let of : component_type p.types.items r.of n ≡ h.part.of = ap (λ b. component_type p.types.items b n) is.0 ∙ ap base_of (is-in a n y h) ∙ sym (typed a n y h r.path r.reach is.1) in
      subst (λ (w : Object). IsObject p x w (component-of r n maker (store_of (types_of p) m x))) (sym h.stands)
      (of, stands-by a n y h r.path r.reach k j refers.1 (subst (λ (d : component.Component). part_kind k d.declared.kind ≡ Some j) here kinds) is.1)

  -- of each element of an array
  pub each-stands : (a : Area) (r : Reference) (n : ℕ) (maker : Maker) (store : Store) → IsObject p x (o.Stands a) r → (a.elements).dims.items ≢ []
      → AreOfEach p x a n (component-of r n maker store)
  each-stands a r n maker store is some =
      let h = many-there p x a r.path r.reach is.1 some in
      record {
        array = r;
        stands = is;
        components = record { spans = h.0; paths = h.1; elements = h.2; reach = ap (λ (y : Reach). component_reach y r.path n store) h.2; of = refl };
      }
