-- The words of components are an object.
use Rattle.std.proofs.Common.{◌≡◌, ◌∙◌, ℕ, zero, suc, ◌+◌, ◌<◌, ◌≤◌, true, List, [], ◌∷◌, ◌++◌, length, take, refl, sym, ap, subst, arith}
use Rattle.std.specs.Prelude.{⊤, Option, None, Some, Ok, slice_get}
use Rattle.f3_program.specs.declared.declarations.Base.TheVariants as base
use Rattle.f3_program.specs.declared.declarations.Component.{Component}
use Rattle.f3_program.specs.declared.declarations.Derived.{Derived}
use Rattle.f3_program.specs.declared.program.Program.{Program}
use Rattle.f3_live_blocks.specs.Blocks.{Live}
use Rattle.f3_meaning_whole.specs.Act as meaning
use Rattle.f3_meaning_whole.specs.Act.{passed_at}
use Rattle.f3_meaning_whole.specs.Formed.{IsWellFormed, takes}
use Rattle.f3_meaning_whole.specs.Shape.{Shape, Record, and, initial_of, parts_in, shape_in, shapes_of}
use Rattle.f3_meaning_whole.specs.Value.{Value, Values, Composite, more}
use Rattle.f3_cell_kinds.specs.Sense.{MakesSense}
use Rattle.f3_rooms.specs.Forms.{form_of, form_words, room, total, words_for, words_for_parts}
use Rattle.f3_rooms.specs.Held.{Empty, end}
use Rattle.f3_rooms.specs.Values.{components, formed as formed_as, object}
use Rattle.f3_room_levels.specs.Initial.{AllCanBegin, CanBegin, PartsCanBegin, TypeCanBegin, declared_each, object_words, variable_words}
use Rattle.f3_room_levels.proofs.Initials.{declared_begun, object_begun, object_sound}
use Rattle.f3_room_levels.proofs.Widths.{object_many, variable_many}
use Rattle.f3_room_objects.proofs.Windows.{WordsAre, are_back, are_front}
use Rattle.f3_room_places.proofs.Components.{type_is}
use Rattle.f3_word_areas.proofs.Types.{Known, component-declared, declared-before, same-tree}
use Rattle.f3_word_cells.specs.declared.cell.Cell.{Cell}
use Rattle.f3_word_cells.specs.declared.cell.Datum.{Datum}
use Rattle.f3_word_cells.specs.Areas.{shape_for, types_of}
use Rattle.f3_word_copies.proofs.Typed.{type-can}
use Rattle.f3_word_structures.specs.Fitting.{Checked, TestedFor}
use Rattle.f3_word_structures.specs.Members.{AreWhole, Fills, component_words, given_in, structure_words}
use Rattle.f3_word_structures.proofs.Components.{Takes, AllTake, each-takes, value-for, values-for}
use Rattle.f3_word_structures.proofs.Held.{AreHeld, Finds, found-none, found-some}
use Rattle.f3_word_structures.proofs.Values.{taken}

some-same : {A : Type 0} (a b : A) → Some a ≡ Some b → a ≡ b
some-same a b e = cc

-- ---- a type

module _ (p : Program) (of : ℕ) (y : Derived) (there : slice_get p.types.items of ≡ Some y) (formed : IsWellFormed p) where
  abbrev ts : List Shape
  ts = types_of p

  abbrev cs : List Component
  cs = y.components.items

  abbrev before : List Shape
  before = shapes_of (take of p.types.items)

  own : (k : ℕ) (c : Component) → slice_get cs k ≡ Some c → shape_in before c.declared.kind.of ≡ shape_in ts c.declared.kind.of
  own k c e =
      let known : Known p (base.Derived of) k c = record { number = of; type = y; is = refl; there = there; component = e } in
      same-tree p.types.items of c.declared.kind.of (declared-before of c.declared (component-declared p (base.Derived of) k c formed known))

  parts-same : (xs : List Component) → ((k : ℕ) (c : Component) → slice_get xs k ≡ Some c → shape_in before c.declared.kind.of ≡ shape_in ts c.declared.kind.of)
      → parts_in before xs ≡ parts_in ts xs
  parts-same [] h = refl
  parts-same (c ∷ xs) h = ap (λ (z : Shape). and c z (parts_in before xs)) (h 0 c refl) ∙ ap (and c (shape_in ts c.declared.kind.of)) (parts-same xs (λ k d e. h (suc k) d e))

  -- the tree of the type
  pub tree : shape_for p (base.Derived of) ≡ Record of (parts_in ts cs)
  tree = type_is p.types.items of y there ∙ ap (Record of) (parts-same cs own)

  pub can-begin : MakesSense p → AllCanBegin ts (declared_each cs)
  can-begin sense = all-can cs (subst TypeCanBegin tree (type-can p formed sense (base.Derived of)))
    where
      all-can : (xs : List Component) → PartsCanBegin (parts_in ts xs) → AllCanBegin ts (declared_each xs)
      all-can [] h = tt
      all-can (c ∷ xs) h = (h.0, h.1, all-can xs h.2)

  pub words-total : words_for (shape_for p (base.Derived of)) ≡ total ts (declared_each cs)
  words-total = ap words_for tree ∙ by cs
    where
      by : (xs : List Component) → words_for_parts (parts_in ts xs) ≡ total ts (declared_each xs)
      by [] = refl
      by (c ∷ xs) = ap (λ k. room ts c.declared + k) (by xs)

  -- ---- values that are given, and initial values

  module _ (m : Live) (zs : List Cell) (ps : List meaning.Passed) (held : AreHeld p m y zs ps) (sense : MakesSense p)
      (checked : (k : ℕ) (c : Component) → slice_get cs k ≡ Some c → TestedFor c.declared (passed_at k ps) (Ok tt)) where
    abbrev ValueFor : ℕ → Component → Value
    ValueFor k c = value-for ts ps c (passed_at k ps)

    -- the words of a component are as many as its own, and are just its value
    record Shown (k : ℕ) (c : Component) : Type 0 where
      pub takes : Takes ts ps c (passed_at k ps)
      pub fills : Fills m (room ts c.declared) (given_in k zs)
      pub long : length (component_words ts m c.declared (given_in k zs)) ≡ room ts c.declared
      pub shows : (n : Live) (b o : ℕ) → WordsAre n b o (component_words ts m c.declared (given_in k zs))
          → formed_as (form_of c.declared) (words_for (shape_in ts c.declared.kind.of)) (object n (shape_in ts c.declared.kind.of)) b o Empty ≡ ValueFor k c

    initial-shown : (k : ℕ) (c : Component) → given_in k zs ≡ None → CanBegin (shape_in ts c.declared.kind.of) c.declared → TypeCanBegin (shape_in ts c.declared.kind.of) → Shown k c
    initial-shown k c none can type =
        let s : Shape = shape_in ts c.declared.kind.of in
        let at = found-none p m y k zs ps held none in
        record {
          takes = subst (Takes ts ps c) (sym at) tt;
          fills = subst (Fills m (room ts c.declared)) (sym none) tt;
          long = ap (λ o. length (component_words ts m c.declared o)) none ∙ variable_many ts c.declared can type;
          shows = λ n b o are.
              declared_begun n s (object_words s) (initial_of s) (object_many s type) (object_begun n s type) (object_sound n s type) c.declared can b o
              (subst (λ o'. WordsAre n b o (component_words ts m c.declared o')) none are)
              ∙ ap (value-for ts ps c) (sym at);
        }

    given-shown : (k : ℕ) (c : Component) → slice_get cs k ≡ Some c → (d : Datum) → given_in k zs ≡ Some d → Shown k c
    given-shown k c e d is =
        let found = found-some p m y k zs ps d held is in
        let suits = found.held.member.suits in
        let same : suits.component ≡ c = some-same suits.component c (sym suits.there ∙ ap (slice_get cs) found.held.number ∙ e) in
        let fixed = ap (λ (z : Component). z.declared.kind.is_allocatable) (sym same) ∙ suits.plain in
        let fits = ap (λ (z : Component). takes z.declared.kind found.held.given.kind) (sym same) ∙ suits.takes in
        let tested = subst (λ o. TestedFor c.declared o (Ok tt)) found.passed (checked k c e) in
        let done = taken p m c.declared found.held.given d found.value fixed fits found.held.member.value found.held.is found.held.laid tested.0 in
        record {
          takes = subst (Takes ts ps c) (sym found.passed) (fixed, tested);
          fills = subst (Fills m (room ts c.declared)) (sym is) done.long;
          long = ap (λ o. length (component_words ts m c.declared o)) is ∙ done.long;
          shows = λ n b o are.
              done.shows n b o (subst (λ o'. WordsAre n b o (component_words ts m c.declared o')) is are)
              ∙ ap (value-for ts ps c) (sym found.passed);
        }

    each-shown : (k : ℕ) (c : Component) → slice_get cs k ≡ Some c → CanBegin (shape_in ts c.declared.kind.of) c.declared → TypeCanBegin (shape_in ts c.declared.kind.of) → Shown k c
    each-shown k c e can type = by (given_in k zs) refl
      where
        by : (o : Option Datum) → given_in k zs ≡ o → Shown k c
        by None is = initial-shown k c is can type
        by (Some d) is = given-shown k c e d is

    -- ---- all of them

    abbrev AllShown : ℕ → List Component → Type 0
    AllShown k [] = ⊤
    AllShown k (c ∷ xs) = Shown k c × AllShown (suc k) xs

    all-shown : AllShown 0 cs
    all-shown = by 0 cs (λ j c e. ap (slice_get cs) (omega arith) ∙ e) (can-begin sense)
      where
        by : (k : ℕ) (xs : List Component) → ((j : ℕ) (c : Component) → slice_get xs j ≡ Some c → slice_get cs (k + j) ≡ Some c) → AllCanBegin ts (declared_each xs) → AllShown k xs
        by k [] at can = tt
        by k (c ∷ xs) at can =
            let e : k ≡ k + 0 = omega arith in (
              each-shown k c (ap (slice_get cs) e ∙ at 0 c refl) can.0 can.1,
              by (suc k) xs (λ j d f. let g : suc k + j ≡ k + suc j = omega arith in ap (slice_get cs) g ∙ at (suc j) d f) can.2,
            )

    pub all-take : AllTake ts ps 0 cs
    all-take = by 0 cs all-shown
      where
        by : (k : ℕ) (xs : List Component) → AllShown k xs → AllTake ts ps k xs
        by k [] h = tt
        by k (c ∷ xs) h = (h.0.takes, by (suc k) xs h.1)

    pub are-whole : AreWhole ts m zs 0 cs
    are-whole = by 0 cs all-shown
      where
        by : (k : ℕ) (xs : List Component) → AllShown k xs → AreWhole ts m zs k xs
        by k [] h = tt
        by k (c ∷ xs) h = (h.0.fills, by (suc k) xs h.1)

    pub object-shows : (n : Live) (b : ℕ) → WordsAre n b 0 (structure_words ts m zs 0 cs) → object n (shape_for p (base.Derived of)) b 0 Empty ≡ Composite (values-for ts ps 0 cs)
    object-shows n b are = ap (λ (z : Shape). object n z b 0 Empty) tree ∙ ap Composite (by 0 0 cs all-shown are)
      where
        by : (k o : ℕ) (xs : List Component) → AllShown k xs → WordsAre n b o (structure_words ts m zs k xs) → components n (parts_in ts xs) b o end ≡ values-for ts ps k xs
        by k o [] h are = refl
        by k o (c ∷ xs) h are =
            let w : ℕ = form_words (form_of c.declared) (words_for (shape_in ts c.declared.kind.of)) in
            let one = component_words ts m c.declared (given_in k zs) in
            let others = structure_words ts m zs (suc k) xs in
            ap (λ v. more v (components n (parts_in ts xs) b (o + w) end)) (h.0.shows n b o (are_front n b o one others are))
            ∙ ap (λ vs. more (ValueFor k c) vs)
            (by (suc k) (o + w) xs h.1 (subst (λ i. WordsAre n b (o + i) others) h.0.long (are_back n b o one others are)))
