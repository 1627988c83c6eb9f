-- Components among the words of an object.
use Rattle.std.proofs.Common.{◌≡◌, ℕ, zero, suc, ◌+◌, ◌<◌, ◌≤◌, List, [], ◌∷◌, length, take, refl, sym, ap, subst, ◌∙◌, arith, get_or, inl, inr}
use Rattle.std.proofs.lemmas.Option.{slice_get_within, slice_get-get_or}
use Rattle.std.specs.Prelude.{Option, None, Some, slice_get, slice_index_or, option_and_then, ◌⊎◌}
use Rattle.std.specs.Option.{option_map}
use Rattle.f3_program.specs.declared.declarations.Base.TheVariants as base
use Rattle.f3_program.specs.declared.declarations.Component.{Component}
use Rattle.f3_program.specs.declared.declarations.Declared.{Declared}
use Rattle.f3_program.specs.declared.declarations.Derived.{Derived}
use Rattle.f3_live_blocks.specs.Blocks.{Live}
use Rattle.f3_meaning_whole.specs.Shape.{Shape, Whole, Record, Parts, parts_in, shape_in, shapes_of}
use Rattle.f3_meaning_whole.specs.Store.{Step}
use Rattle.f3_rooms.specs.Held.{Row, first, others, part_at}
use Rattle.f3_rooms.specs.Forms.{form_of, form_words, words_for, words_for_parts}
use Rattle.f3_rooms.specs.Places.{in_component}
use Rattle.f3_rooms.specs.Sound.{IsForm, IsObject, AreComponents}
use Rattle.f3_type_words.specs.Tables.{IsTable, offsets_from}
use Rattle.f3_type_words.specs.declared.table.TypeTable.{TypeTable}
use Rattle.f3_room_places.specs.Components.{declared_at, offset_at}
use Rattle.f3_room_places.proofs.Trees.{tree_is, past_types}
use Rattle.f3_room_places.proofs.Ways.{whole, form_whole}

pub some_is : {A : Type 0} (x y : A) → Some x ≡ Some y → x ≡ y
some_is x y e = cc

pub item_is : {A : Type 0} (xs : List A) (k : ℕ) (x d : A) → slice_get xs k ≡ Some x → x ≡ get_or xs k d
item_is xs k x d e = some_is _ _ (sym e ∙ slice_get-get_or xs k d (slice_get_within xs k x e))

none_past : {A : Type 0} (xs : List A) (k : ℕ) → slice_get xs k ≡ None → length xs ≤ k
none_past [] k e = omega arith
none_past (x ∷ xs) zero e = absurd (cc)
none_past (x ∷ xs) (suc k) e = let h = none_past xs k e in omega arith

-- where a component begins
abbrev pub start : Parts → ℕ → ℕ → ℕ
start parts o k = slice_index_or (offsets_from o parts) k 0

module _ (ts : List Shape) where
  abbrev own : Component → Shape
  own c = shape_in ts c.declared.kind.of

  abbrev size : Component → ℕ
  size c = form_words (form_of c.declared) (words_for (own c))

  pub offsets_many : (cs : List Component) (o : ℕ) → length (offsets_from o (parts_in ts cs)) ≡ length cs
  offsets_many [] o = refl
  offsets_many (c ∷ cs) o = let e = offsets_many cs (o + size c) in omega arith

  pub start_moved : (cs : List Component) (a o n k : ℕ) (c : Component) → n ≡ a + o → slice_get cs k ≡ Some c → start (parts_in ts cs) n k ≡ a + start (parts_in ts cs) o k
  start_moved [] a o n k c e is = absurd (cc)
  start_moved (d ∷ cs) a o n zero c e is = e
  start_moved (d ∷ cs) a o n (suc k) c e is = start_moved cs a (o + size d) (n + size d) k c (omega arith) is

  pub start_within : (cs : List Component) (o k : ℕ) (c : Component) → slice_get cs k ≡ Some c → start (parts_in ts cs) o k + size c ≤ o + words_for_parts (parts_in ts cs)
  start_within [] o k c is = absurd (cc)
  start_within (d ∷ cs) o zero c is =
      let e : d ≡ c = some_is d c is in
      let same : size d ≡ size c = ap size e in
      omega arith
  start_within (d ∷ cs) o (suc k) c is = let e = start_within cs (o + size d) k c is in omega arith

  pub component_found : (cs : List Component) (b o : ℕ) (hs : Row) (k : ℕ) (c : Component) → slice_get cs k ≡ Some c
      → in_component (parts_in ts cs) b o hs k [] ≡ Some (whole (form_of c.declared) (own c) c.declared.kind.of b (start (parts_in ts cs) o k) (part_at hs k))
  component_found [] b o hs k c is = absurd (cc)
  component_found (d ∷ cs) b o hs zero c is =
      form_whole (form_of d.declared) (own d) d.declared.kind.of b o (first hs)
      ∙ ap (λ (x : Component). Some (whole (form_of x.declared) (own x) x.declared.kind.of b o (first hs))) (some_is d c is)
  component_found (d ∷ cs) b o hs (suc k) c is = component_found cs b (o + size d) (others hs) k c is

  pub no_component : (cs : List Component) (b o : ℕ) (hs : Row) (k : ℕ) (way : List Step) → slice_get cs k ≡ None → in_component (parts_in ts cs) b o hs k way ≡ None
  no_component [] b o hs k way is = refl
  no_component (d ∷ cs) b o hs zero way is = absurd (cc)
  no_component (d ∷ cs) b o hs (suc k) way is = no_component cs b (o + size d) (others hs) k way is

  pub component_formed : (m : Live) (cs : List Component) (b o : ℕ) (hs : Row) (k : ℕ) (c : Component) → slice_get cs k ≡ Some c → AreComponents m (parts_in ts cs) b o hs
      → IsForm m (form_of c.declared) (words_for (own c)) (IsObject m (own c)) b (start (parts_in ts cs) o k) (part_at hs k)
  component_formed m [] b o hs k c is are = absurd (cc)
  component_formed m (d ∷ cs) b o hs zero c is are =
      subst (λ (x : Component). IsForm m (form_of x.declared) (words_for (own x)) (IsObject m (own x)) b o (first hs)) (some_is d c is) are.0
  component_formed m (d ∷ cs) b o hs (suc k) c is are = component_formed m cs b (o + size d) (others hs) k c is are.1

-- ---- components of a type

-- the type and the component that are looked up
pub record IsComponent (ts : List Derived) (t k : ℕ) (x : Derived) (c : Component) : Type 0 where
  pub of : slice_get ts t ≡ Some x
  pub is : slice_get x.components.items k ≡ Some c

pub component_is : (ts : List Derived) (t k : ℕ) (d : Declared) → declared_at ts t k ≡ Some d → (x : Derived) × (c : Component) × IsComponent ts t k x c × (c.declared ≡ d)
component_is ts t k d e = by (slice_get ts t) refl e
  where
    within : (x : Derived) → slice_get ts t ≡ Some x → (o : Option Component) → slice_get x.components.items k ≡ o → option_map (λ (c : Component). c.declared) o ≡ Some d
        → (x : Derived) × (c : Component) × IsComponent ts t k x c × (c.declared ≡ d)
    within x a None b e = absurd (cc)
    within x a (Some c) b e = (x, c, record { of = a; is = b }, some_is _ _ e)

    by : (o : Option Derived) → slice_get ts t ≡ o → option_map (λ (c : Component). c.declared) (option_and_then (λ (x : Derived). slice_get x.components.items k) o) ≡ Some d
        → (x : Derived) × (c : Component) × IsComponent ts t k x c × (c.declared ≡ d)
    by None a e = absurd (cc)
    by (Some x) a e = within x a (slice_get x.components.items k) refl e

pub type_is : (ts : List Derived) (t : ℕ) (x : Derived) → slice_get ts t ≡ Some x → shape_in (shapes_of ts) (base.Derived t) ≡ Record t (parts_in (shapes_of (take t ts)) x.components.items)
type_is ts t x e = tree_is ts t x x (slice_get_within ts t x e) (item_is ts t x x e)

-- there is no such component
pub not_there : (ts : List Derived) (t k : ℕ) → declared_at ts t k ≡ None → (shape_in (shapes_of ts) (base.Derived t) ≡ Whole) ⊎ ((x : Derived) × (slice_get ts t ≡ Some x) × (slice_get x.components.items k ≡ None))
not_there ts t k e = by (slice_get ts t) refl e
  where
    within : (x : Derived) → slice_get ts t ≡ Some x → (o : Option Component) → slice_get x.components.items k ≡ o → option_map (λ (c : Component). c.declared) o ≡ None
        → (shape_in (shapes_of ts) (base.Derived t) ≡ Whole) ⊎ ((x : Derived) × (slice_get ts t ≡ Some x) × (slice_get x.components.items k ≡ None))
    within x a None b e = inr (x, a, b)
    within x a (Some c) b e = absurd (cc)

    by : (o : Option Derived) → slice_get ts t ≡ o → option_map (λ (c : Component). c.declared) (option_and_then (λ (x : Derived). slice_get x.components.items k) o) ≡ None
        → (shape_in (shapes_of ts) (base.Derived t) ≡ Whole) ⊎ ((x : Derived) × (slice_get ts t ≡ Some x) × (slice_get x.components.items k ≡ None))
    by None a e = inl (past_types ts t (none_past ts t a))
    by (Some x) a e = within x a (slice_get x.components.items k) refl e

-- ---- tables

table_offsets : (s : Shape) (t : ℕ) (parts : Parts) (x : TypeTable) → s ≡ Record t parts → IsTable s x → x.offsets.items ≡ offsets_from 0 parts
table_offsets s t parts x e is = (subst (λ r. IsTable r x) e is).1

module _ (ts : List Derived) (t k : ℕ) (x : Derived) (y : TypeTable) (at : slice_get ts t ≡ Some x) (is : IsTable (shape_in (shapes_of ts) (base.Derived t)) y) where
  pub offsets_are : y.offsets.items ≡ offsets_from 0 (parts_in (shapes_of (take t ts)) x.components.items)
  offsets_are = table_offsets (shape_in (shapes_of ts) (base.Derived t)) t (parts_in (shapes_of (take t ts)) x.components.items) y (type_is ts t x at) is

  pub offsets_each : length y.offsets.items ≡ length x.components.items
  offsets_each = ap length offsets_are ∙ offsets_many (shapes_of (take t ts)) x.components.items 0

  pub offset_is : slice_index_or y.offsets.items k 0 ≡ offset_at (shape_in (shapes_of ts) (base.Derived t)) k
  offset_is = ap (λ os. slice_index_or os k 0) offsets_are ∙ ap (λ s. offset_at s k) (sym (type_is ts t x at))

pub declared_is : (ts : List Derived) (t k : ℕ) (x : Derived) (c : Component) → slice_get ts t ≡ Some x → slice_get x.components.items k ≡ Some c → declared_at ts t k ≡ Some c.declared
declared_is ts t k x c a b =
    ap (λ (o : Option Derived). option_map (λ (c : Component). c.declared) (option_and_then (λ (x : Derived). slice_get x.components.items k) o)) a
    ∙ ap (option_map (λ (c : Component). c.declared)) b

pub type_there : (ts : List Derived) (t k : ℕ) (d : Declared) → declared_at ts t k ≡ Some d → t < length ts
type_there ts t k d e = let is = component_is ts t k d e in slice_get_within ts t is.0 ((is.2).of)
