-- An element of the component of each element of an array stands there.
use Rattle.std.proofs.Common.{◌≡◌, ◌∙◌, ℕ, suc, ◌+◌, ◌*◌, ◌<◌, ◌≤◌, true, false, List, [], ◌∷◌, ◌++◌, length, map, refl, sym, ap, subst, arith, append_assoc}
use Rattle.std.specs.Prelude.{None, Some, ◌≢◌, ◌%◌, ◌^◌, if◌then◌else◌}
use Rattle.std.specs.List.{All}
use Rattle.std.proofs.Math.Nat.{mul-le-mul_right}
use Rattle.std.proofs.lemmas.Bool.{lt-ltb}
use Rattle.f3_program.specs.declared.declarations.Base.{Base}
use Rattle.f3_program.specs.declared.declarations.Component as component
use Rattle.f3_program.specs.declared.declarations.Declared.{Declared}
use Rattle.f3_program.specs.declared.program.Program.{Program}
use Rattle.f3_live_blocks.specs.Blocks.{Live}
use Rattle.f3_meaning_whole.specs.Act.{Chosen, all_inside, base_of, component_of, component_type, in_each, moved, places_in}
use Rattle.f3_meaning_whole.specs.Formed.{IsWellFormed}
use Rattle.f3_meaning_whole.specs.Reference.{Reference, Reach, Many}
use Rattle.f3_meaning_whole.specs.Shape.{Shape, shape_in, shapes_of, spans_declared}
use Rattle.f3_meaning_whole.specs.Store.{Component, Element, Path, Step, within}
use Rattle.f3_meaning_whole.specs.Value.{Span, count, from_one}
use Rattle.f3_desc.specs.declared.descriptor.Dim.{Dim}
use Rattle.f3_rooms.specs.Flat.{is_flat}
use Rattle.f3_rooms.specs.Forms.{Form, Laid, Allocatable, form_of, form_words, words_for}
use Rattle.f3_rooms.specs.Held.{Held, parts_of, part_at}
use Rattle.f3_rooms.specs.Laws.{path_at}
use Rattle.f3_rooms.specs.Places.{Found, in_form, in_object}
use Rattle.f3_rooms.specs.Rooms.{Rooms}
use Rattle.f3_rooms.specs.Sound.{IsSound}
use Rattle.f3_rooms.specs.Ways.{settled, part_of}
use Rattle.f3_room_arrays.specs.Elements.{Tells}
use Rattle.f3_room_places.specs.declared.types.Types.{Types}
use Rattle.f3_room_places.specs.Components.{offset_at}
use Rattle.f3_room_places.proofs.Ways.{further_onward, object_whole, onward}
use Rattle.f3_word_cells.specs.declared.cell.Area.{Area}
use Rattle.f3_word_cells.specs.declared.cell.Object.{Object}
use Rattle.f3_word_cells.specs.declared.cell.Object.TheVariants as o
use Rattle.f3_word_cells.specs.Areas.{AreOfEach, AreThere, IsObject, shape_for, types_of}
use Rattle.f3_word_areas.specs.Dims.{dims_from_one}
use Rattle.f3_word_areas.specs.Parts.{IsPartOf, moved_from_one}
use Rattle.f3_word_areas.proofs.Components.{component-found, component-within, part-is}
use Rattle.f3_word_areas.proofs.Further.{Leads, spans-from-one, told-further}
use Rattle.f3_word_objects.specs.Each.{AreSingle, IsInEach, IsNumber}
use Rattle.f3_word_cells.specs.Ranks.{AreShort}
use Rattle.f3_word_objects.proofs.Members.{plain-component}
use Rattle.f3_word_objects.proofs.Single.{number-within, offset-so}

-- ---- where it is

-- an array that is no allocatable
form-is : (d : Declared) (rank : ℕ) → d.kind.is_allocatable ≡ false → d.kind.rank ≡ suc rank → form_of d ≡ Laid (suc rank) (spans_declared d.dimensions.items)
form-is d rank e f =
    ap (λ b. if b then Allocatable d.kind.rank else Laid d.kind.rank (spans_declared d.dimensions.items)) e ∙ ap (λ n. Laid n (spans_declared d.dimensions.items)) f

-- an element of a component of an object
abbrev element-found : Program → Base → ℕ → component.Component → Found → ℕ → Found
element-found p of k c f i = record {
  block = f.block;
  at = f.at + offset_at (shape_for p of) k + i * words_for (shape_for p c.declared.kind.of);
  shape = shape_for p c.declared.kind.of;
  of = c.declared.kind.of;
  form = Laid 0 [];
  held = part_at (parts_of (part_at (parts_of f.held) k)) i;
}

in-array : (rank : ℕ) (ss : List Span) (s : Shape) (of : Base) (b o i : ℕ) (h : Held) → i < count ss
    → in_form (Laid (suc rank) ss) s of (in_object s of) b o h (Element i ∷ []) ≡ Some (record { block = b; at = o + i * words_for s; shape = s; of = of; form = Laid 0 []; held = part_at (parts_of h) i })
in-array rank ss s of b o i h lt =
    ap (λ t. if t then in_object s of b (o + i * words_for s) (part_at (parts_of h) i) [] else None) (lt-ltb i (count ss) lt)
    ∙ object_whole s of b (o + i * words_for s) (part_at (parts_of h) i)

module _ (p : Program) (of : Base) (k : ℕ) (c : component.Component) (formed : IsWellFormed p) (is : component_of p.types.items of k ≡ Some c) (rank : ℕ)
    (form : form_of c.declared ≡ Laid (suc rank) (spans_declared c.declared.dimensions.items)) (i : ℕ) (lt : i < count (spans_declared c.declared.dimensions.items)) where
  element-is : (f : Found) → f.shape ≡ shape_for p of → f.form ≡ Laid 0 [] → part_of f (Component k ∷ Element i ∷ []) ≡ Some (element-found p of k c f i)
  element-is f shape one =
      let g = component-found p of k c f in
      further_onward f (Component k) (Element i ∷ [])
      ∙ ap (λ y. onward y (Element i ∷ [])) (part-is p of k c formed is f shape one)
      ∙ ap (λ (y : Form). in_form (settled y) g.shape g.of (in_object g.shape g.of) g.block g.at g.held (Element i ∷ [])) form
      ∙ in-array rank (spans_declared c.declared.dimensions.items) g.shape g.of g.block g.at i g.held lt

  abbrev further-by : ℕ
  further-by = offset_at (shape_for p of) k + i * words_for (shape_for p c.declared.kind.of)

  pub leads-there : Leads (shape_for p of) (Component k ∷ Element i ∷ []) further-by (shape_for p c.declared.kind.of)
  leads-there f shape one =
      (element-found p of k c f i, element-is f shape one, refl, split f.at (offset_at (shape_for p of) k) (i * words_for (shape_for p c.declared.kind.of)), refl, refl)
    where
      split : (x y z : ℕ) → x + y + z ≡ x + (y + z)
      split x y z = omega arith

  -- within the words of the object
  pub leads-within : further-by ≤ words_for (shape_for p of)
  leads-within =
      let w = words_for (shape_for p c.declared.kind.of) in
      let all = component-within p of k c formed is in
      let size : form_words (form_of c.declared) w ≡ count (spans_declared c.declared.dimensions.items) * w = ap (λ (y : Form). form_words y w) form in
      let few : i * w ≤ count (spans_declared c.declared.dimensions.items) * w = mul-le-mul_right w (let g : i ≤ count (spans_declared c.declared.dimensions.items) = omega arith in g) in
      by (offset_at (shape_for p of) k) (i * w) (count (spans_declared c.declared.dimensions.items) * w) (words_for (shape_for p of)) few (subst (λ (n : ℕ). offset_at (shape_for p of) k + n ≤ words_for (shape_for p of)) size all)
    where
      by : (a b n m : ℕ) → b ≤ n → a + n ≤ m → a + b ≤ m
      by a b n m e f = omega arith

-- ---- it stands there

two-steps : (k i : ℕ) (ps : List Path) → map (λ (q : Path). within q (Element i)) (map (λ (q : Path). within q (Component k)) ps) ≡ map (λ (q : Path). path_at q.root (q.steps ++ Component k ∷ Element i ∷ [])) ps
two-steps k i [] = refl
two-steps k i (q ∷ ps) =
    let first : (q.steps ++ Component k ∷ []) ++ Element i ∷ [] ≡ q.steps ++ Component k ∷ Element i ∷ [] = append_assoc q.steps (Component k ∷ []) (Element i ∷ []) in
    ap (λ (way : List Step). path_at q.root way ∷ map (λ (q : Path). within q (Element i)) (map (λ (q : Path). within q (Component k)) ps)) first
    ∙ ap (λ (qs : List Path). path_at q.root (q.steps ++ Component k ∷ Element i ∷ []) ∷ qs) (two-steps k i ps)

some-dims : (ds : List Dim) → ds ≢ [] → dims_from_one ds ≢ []
some-dims [] n e = n refl
some-dims (d ∷ ds) n e = cc

module _ (p : Program) (m : Live) (x : Rooms) (sound : IsSound (types_of p) m x) (short : AreShort m) (formed : IsWellFormed p) (plain : All (λ s. is_flat s ≡ true) (types_of p))
    (types : Types) (derived : types.derived.now ≡ p.types.items) (a : Area) (k : ℕ) (q : Reference) (of : AreOfEach p x a k q) (c : component.Component) (is : component_of p.types.items a.of k ≡ Some c)
    (cs : List Chosen) (single : AreSingle cs) (many : length cs ≡ length (spans_declared c.declared.dimensions.items)) (rank : ℕ) (ranked : c.declared.kind.rank ≡ suc rank) where
  array-there : AreThere p x a (of.array).path (Many of.components.spans of.components.paths)
  array-there = subst (λ (y : Reach). AreThere p x a (of.array).path y) of.components.elements of.stands.1

  pub each-array : (a.elements).dims.items ≢ []
  each-array = array-there.0

  abbrev after : List ℕ → Reference
  after ks = moved q q.path (in_each q.reach ks)

  element-there : (i : ℕ) → all_inside (spans_declared c.declared.dimensions.items) cs ≡ true → places_in (spans_declared c.declared.dimensions.items) cs ≡ i ∷ []
      → IsObject p x (o.Stands (moved_from_one (offset_at (shape_for p a.of) k + i * words_for (shape_for p c.declared.kind.of)) c.declared.kind.of a)) (after (i ∷ []))
  element-there i inside selected =
      let h = of.components in
      let lt = number-within (spans_declared c.declared.dimensions.items) cs i single many inside selected in
      let form = form-is c.declared rank (plain-component p a.of k c plain is) ranked in
      let b = moved_from_one (offset_at (shape_for p a.of) k + i * words_for (shape_for p c.declared.kind.of)) c.declared.kind.of a in
      let told = told-further (types_of p) m x sound (shape_for p a.of) (shape_for p c.declared.kind.of) (Component k ∷ Element i ∷ []) (further-by p a.of k c formed is rank form i lt)
      (leads-there p a.of k c formed is rank form i lt) (leads-within p a.of k c formed is rank form i lt) a c.declared.kind.of h.paths (short _) array-there.2 in (
        h.of ∙ ap (λ (y : Base). component_type p.types.items y k) of.stands.0 ∙ ap base_of is,
        subst (λ (y : Reach). AreThere p x b q.path (in_each y (i ∷ []))) (sym h.reach) (
          some-dims (a.elements).dims.items each-array,
          ap from_one array-there.1 ∙ sym (spans-from-one (a.elements).dims.items),
          subst (λ (qs : List Path). Tells (types_of p) x b.elements (shape_for p b.of) qs) (sym (two-steps k i h.paths)) told,
        ),
      )

  -- what is picked
  pub each-picked : (z : Object) → IsInEach types a k cs z → IsObject p x z (after (places_in (spans_declared c.declared.dimensions.items) cs)) × (all_inside (spans_declared c.declared.dimensions.items) cs ≡ true)
  each-picked z h = by h.component same h.inside h.selected (h.stands each-array)
    where
      same : h.component ≡ c
      same = let both : Some h.component ≡ Some c = sym h.is ∙ ap (λ ts. component_of ts a.of k) derived ∙ is in cc

      by : (d : component.Component) → d ≡ c → all_inside (spans_declared d.declared.dimensions.items) cs ≡ true → places_in (spans_declared d.declared.dimensions.items) cs ≡ h.number ∷ []
          → z ≡ o.Stands (moved_from_one (offset_at (shape_in (shapes_of types.derived.now) a.of) k + h.number * words_for (shape_in (shapes_of types.derived.now) d.declared.kind.of)) d.declared.kind.of a)
          → IsObject p x z (after (places_in (spans_declared c.declared.dimensions.items) cs)) × (all_inside (spans_declared c.declared.dimensions.items) cs ≡ true)
      by d e inside selected stands =
          let in-c : all_inside (spans_declared c.declared.dimensions.items) cs ≡ true = subst (λ (y : component.Component). all_inside (spans_declared y.declared.dimensions.items) cs ≡ true) e inside in
          let sel-c : places_in (spans_declared c.declared.dimensions.items) cs ≡ h.number ∷ [] = subst (λ (y : component.Component). places_in (spans_declared y.declared.dimensions.items) cs ≡ h.number ∷ []) e selected in
          let area : z ≡ o.Stands (moved_from_one (offset_at (shape_for p a.of) k + h.number * words_for (shape_for p c.declared.kind.of)) c.declared.kind.of a) =
          subst (λ (ts : _). z ≡ o.Stands (moved_from_one (offset_at (shape_in (shapes_of ts) a.of) k + h.number * words_for (shape_in (shapes_of ts) c.declared.kind.of)) c.declared.kind.of a)) derived
          (subst (λ (y : component.Component). z ≡ o.Stands (moved_from_one (offset_at (shape_in (shapes_of types.derived.now) a.of) k + h.number * words_for (shape_in (shapes_of types.derived.now) y.declared.kind.of)) y.declared.kind.of a)) e stands) in (
            subst (λ (y : Object). IsObject p x y (after (places_in (spans_declared c.declared.dimensions.items) cs))) (sym area)
                (subst (λ (ks : List ℕ). IsObject p x (o.Stands (moved_from_one (offset_at (shape_for p a.of) k + h.number * words_for (shape_for p c.declared.kind.of)) c.declared.kind.of a)) (after ks)) (sym sel-c)
                (element-there h.number in-c sel-c)),
            in-c,
          )

-- ---- how it is located

-- by the number of an element, up to a multiple of 2 ^ 64
pub in-each : (types : Types) (a part : Area) (k : ℕ) (cs : List Chosen) (d : Declared) (dims : List _) (offset w element at : ℕ) (c : component.Component)
    → component_of types.derived.now a.of k ≡ Some c → d ≡ c.declared → dims ≡ d.dimensions.items → offset ≡ offset_at (shape_in (shapes_of types.derived.now) a.of) k
    → w ≡ words_for (shape_in (shapes_of types.derived.now) d.kind.of) → IsNumber (spans_declared dims) cs (Some element) → at ≡ (offset + (element * w) % 2 ^ 64) % 2 ^ 64
    → IsPartOf (shapes_of types.derived.now) d at a part → IsInEach types a k cs (o.Stands part)
in-each types a part k cs d dims offset w element at c is same listed begins size number far begin =
    let ss : spans_declared dims ≡ spans_declared c.declared.dimensions.items = ap (λ l. spans_declared l) listed ∙ ap (λ (y : Declared). spans_declared y.dimensions.items) same in
    record {
      component = c;
      number = number.1;
      is = is;
      inside = ap (λ l. all_inside l cs) (sym ss) ∙ number.0;
      selected = ap (λ l. places_in l cs) (sym ss) ∙ number.2;
      stands = λ some. ap o.Stands (begin.each some ∙ moved-alike number.1 number.3);
    }
  where
    moved-alike : (i : ℕ) → element ≡ i % 2 ^ 64 → moved_from_one at d.kind.of a
        ≡ moved_from_one (offset_at (shape_in (shapes_of types.derived.now) a.of) k + i * words_for (shape_in (shapes_of types.derived.now) c.declared.kind.of)) c.declared.kind.of a
    moved-alike i e =
        let s : Base → ℕ = λ (y : Base). words_for (shape_in (shapes_of types.derived.now) y) in
        ap (λ n. moved_from_one n d.kind.of a) (far ∙ ap (λ n. (n + (element * w) % 2 ^ 64) % 2 ^ 64) begins ∙ ap (λ n. (offset_at (shape_in (shapes_of types.derived.now) a.of) k + (element * n) % 2 ^ 64) % 2 ^ 64) size
        ∙ ap (λ n. (offset_at (shape_in (shapes_of types.derived.now) a.of) k + (n * s d.kind.of) % 2 ^ 64) % 2 ^ 64) e)
        ∙ ap (λ n. record { elements = record { block = (a.elements).block; offset = n; dims = record { items = dims_from_one (a.elements).dims.items } }; of = d.kind.of })
        (offset-so (a.elements).offset (offset_at (shape_in (shapes_of types.derived.now) a.of) k) i (s d.kind.of))
        ∙ ap (λ (y : Declared). moved_from_one (offset_at (shape_in (shapes_of types.derived.now) a.of) k + i * s y.kind.of) y.kind.of a) same
