-- Objects with nothing allocatable in them are their words, whatever is held elsewhere.
use Rattle.std.proofs.Common.{◌≡◌, ◌∙◌, ap, refl, ℕ, zero, suc, ◌+◌, ◌*◌, ◌<◌, ◌≤◌, Bool, true, false, ◌∷◌, arith}
use Rattle.std.specs.Prelude.{◌||◌}
use Rattle.f3_live_blocks.specs.Blocks.{Live}
use Rattle.f3_meaning_whole.specs.Value.{Number, Truth, Composite, Array, more, joined, count}
use Rattle.f3_meaning_whole.specs.Shape.{Shape, Whole, Logical, Record, Parts, nothing, and}
use Rattle.f3_desc.specs.Shape.{Shape as Layout, Times, row, has_holder}
use Rattle.f3_rooms.specs.Held.{Held, Row, parts_of, first, others}
use Rattle.f3_rooms.specs.Forms.{Form, Laid, Allocatable, form_of, form_words, words_for, words_for_parts}
use Rattle.f3_rooms.specs.Values.{word, is_set, elements, formed, object, components}
use Rattle.f3_rooms.specs.Sound.{Fact, Each, IsForm, IsObject, AreComponents}
use Rattle.f3_rooms.proofs.Framing.{Reading}
use Rattle.f3_room_objects.specs.Trees.{layout_for, layouts_for, formed_as}
use Rattle.f3_room_arrays.specs.Elements.{IsFlat}

none-first : (a b : Bool) → a || b ≡ false → a ≡ false
none-first true b e = absurd cc
none-first false b e = refl

none-second : (a b : Bool) → a || b ≡ false → b ≡ false
none-second true b e = absurd cc
none-second false b e = e

-- ---- values

module _ (m n : Live) where
  -- so many words of a block from one on are those of another
  abbrev pub Alike : ℕ → ℕ → ℕ → ℕ → ℕ → Type 0
  Alike k b o c i = (j : ℕ) → j < k → word n c (i + j) ≡ word m b (o + j)

  pub front : (k l b o c i : ℕ) → k ≤ l → Alike l b o c i → Alike k b o c i
  front k l b o c i le same j lt = same j (omega arith)

  pub behind : (k l r b o c i : ℕ) → l ≡ k + r → Alike l b o c i → Alike r b (o + k) c (i + k)
  behind k l r b o c i e same j lt =
      let there : i + k + j ≡ i + (k + j) = omega arith in
      let here : o + (k + j) ≡ o + k + j = omega arith in
      ap (word n c) there ∙ same (k + j) (omega arith) ∙ ap (word m b) here

  abbrev Tell : ℕ → Reading → Reading → Type 0
  Tell k f g = (b o c i : ℕ) (h u : Held) → Alike k b o c i → g c i u ≡ f b o h

  elements_tell : (k w : ℕ) (f g : Reading) → Tell w f g → (b o c i : ℕ) (hs us : Row) → Alike (k * w) b o c i → elements k w g c i us ≡ elements k w f b o hs
  elements_tell zero w f g tell b o c i hs us same = refl
  elements_tell (suc k) w f g tell b o c i hs us same =
      ap (λ v. v ∷ elements k w g c (i + w) (others us)) (tell b o c i (first hs) (first us) (front w (suc k * w) b o c i (omega arith) same))
      ∙ ap (λ vs. f b o (first hs) ∷ vs) (elements_tell k w f g tell b (o + w) c (i + w) (others hs) (others us) (behind w (suc k * w) (k * w) b o c i (omega arith) same))

  row_tell : (k w : ℕ) (l : Layout) (f g : Reading) → has_holder (Times k l) ≡ false → (has_holder l ≡ false → Tell w f g) → (b o c i : ℕ) (hs us : Row) → Alike (k * w) b o c i
      → elements k w g c i us ≡ elements k w f b o hs
  row_tell zero w l f g flat tell b o c i hs us same = refl
  row_tell (suc k) w l f g flat tell b o c i hs us same = elements_tell (suc k) w f g (tell flat) b o c i hs us same

  form_tell : (form : Form) (w : ℕ) (l : Layout) (f g : Reading) → has_holder (formed_as form l) ≡ false → (has_holder l ≡ false → Tell w f g) → Tell (form_words form w) (formed form w f) (formed form w g)
  form_tell (Laid zero ss) w l f g flat tell b o c i h u same = tell flat b o c i h u same
  form_tell (Laid (suc rank) ss) w l f g flat tell b o c i h u same = ap (λ vs. Array ss (joined vs)) (row_tell (count ss) w l f g flat tell b o c i (parts_of h) (parts_of u) same)
  form_tell (Allocatable rank) w l f g flat tell b o c i h u same = absurd cc

  mutual
    pub object_tell : (s : Shape) → IsFlat s → Tell (words_for s) (object m s) (object n s)
    object_tell Whole flat b o c i h u same =
        let there : i ≡ i + 0 = omega arith in
        let here : o + 0 ≡ o = omega arith in
        ap Number (ap (word n c) there ∙ same 0 (omega arith) ∙ ap (word m b) here)
    object_tell Logical flat b o c i h u same =
        let there : i ≡ i + 0 = omega arith in
        let here : o + 0 ≡ o = omega arith in
        ap (λ z. Truth (is_set z)) (ap (word n c) there ∙ same 0 (omega arith) ∙ ap (word m b) here)
    object_tell (Record t parts) flat b o c i h u same = ap Composite (components_tell parts flat b o c i (parts_of h) (parts_of u) same)

    components_tell : (parts : Parts) → has_holder (row (layouts_for parts)) ≡ false → (b o c i : ℕ) (hs us : Row) → Alike (words_for_parts parts) b o c i
        → components n parts c i us ≡ components m parts b o hs
    components_tell nothing flat b o c i hs us same = refl
    components_tell (and d s rest) flat b o c i hs us same =
        let k : ℕ = form_words (form_of d.declared) (words_for s) in
        let here = none-first (has_holder (formed_as (form_of d.declared) (layout_for s))) (has_holder (row (layouts_for rest))) flat in
        let there = none-second (has_holder (formed_as (form_of d.declared) (layout_for s))) (has_holder (row (layouts_for rest))) flat in
        ap (λ v. more v (components n rest c (i + k) (others us)))
        (form_tell (form_of d.declared) (words_for s) (layout_for s) (object m s) (object n s) here (object_tell s) b o c i (first hs) (first us) (front k (k + words_for_parts rest) b o c i (omega arith) same))
        ∙ ap (more (formed (form_of d.declared) (words_for s) (object m s) b o (first hs)))
        (components_tell rest there b (o + k) c (i + k) (others hs) (others us) (behind k (k + words_for_parts rest) (words_for_parts rest) b o c i refl same))

-- ---- soundness

module _ (m n : Live) where
  abbrev Lasts : Fact → Fact → Type 0
  Lasts P Q = (b o c i : ℕ) (h : Held) → P b o h → Q c i h

  each_lasts : (k w : ℕ) (P Q : Fact) → Lasts P Q → (b o c i : ℕ) (hs : Row) → Each k w P b o hs → Each k w Q c i hs
  each_lasts zero w P Q lasts b o c i hs has = has
  each_lasts (suc k) w P Q lasts b o c i hs has = (lasts b o c i (first hs) has.0, each_lasts k w P Q lasts b (o + w) c (i + w) (others hs) has.1)

  row_lasts : (k w : ℕ) (l : Layout) (P Q : Fact) → has_holder (Times k l) ≡ false → (has_holder l ≡ false → Lasts P Q) → (b o c i : ℕ) (hs : Row) → Each k w P b o hs → Each k w Q c i hs
  row_lasts zero w l P Q flat lasts b o c i hs has = has
  row_lasts (suc k) w l P Q flat lasts b o c i hs has = each_lasts (suc k) w P Q (lasts flat) b o c i hs has

  form_lasts : (form : Form) (w : ℕ) (l : Layout) (P Q : Fact) → has_holder (formed_as form l) ≡ false → (has_holder l ≡ false → Lasts P Q) → Lasts (IsForm m form w P) (IsForm n form w Q)
  form_lasts (Laid zero ss) w l P Q flat lasts b o c i h has = lasts flat b o c i h has
  form_lasts (Laid (suc rank) ss) w l P Q flat lasts b o c i h has = (has.0, row_lasts (count ss) w l P Q flat lasts b o c i (parts_of h) has.1)
  form_lasts (Allocatable rank) w l P Q flat lasts b o c i h has = absurd cc

  mutual
    pub object_lasts : (s : Shape) → IsFlat s → Lasts (IsObject m s) (IsObject n s)
    object_lasts Whole flat b o c i h has = has
    object_lasts Logical flat b o c i h has = has
    object_lasts (Record t parts) flat b o c i h has = (has.0, components_last parts flat b o c i (parts_of h) has.1)

    components_last : (parts : Parts) → has_holder (row (layouts_for parts)) ≡ false → (b o c i : ℕ) (hs : Row) → AreComponents m parts b o hs → AreComponents n parts c i hs
    components_last nothing flat b o c i hs has = has
    components_last (and d s rest) flat b o c i hs has =
        let k : ℕ = form_words (form_of d.declared) (words_for s) in
        let here = none-first (has_holder (formed_as (form_of d.declared) (layout_for s))) (has_holder (row (layouts_for rest))) flat in
        let there = none-second (has_holder (formed_as (form_of d.declared) (layout_for s))) (has_holder (row (layouts_for rest))) flat in (
          form_lasts (form_of d.declared) (words_for s) (layout_for s) (IsObject m s) (IsObject n s) here (object_lasts s) b o c i (first hs) has.0,
          components_last rest there b (o + k) c (i + k) (others hs) has.1,
        )
