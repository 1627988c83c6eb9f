-- Parts of what areas tell of.
use Rattle.std.proofs.Common.{◌≡◌, ◌∙◌, sym, ap, subst, refl, inl, inr, ⊎_elim, ℕ, zero, suc, ◌+◌, ◌*◌, ◌%◌, ◌^◌, ◌<◌, ◌≤◌, List, [], ◌∷◌, ◌++◌, length, arith}
use Rattle.std.specs.Prelude.{ℤ, pos, ◌+ℤ◌, ◌≢◌, ◌⊎◌, false, Some, map}
use Rattle.std.specs.List.{AllZip, flat_map}
use Rattle.std.proofs.lemmas.Int.{ints}
use Rattle.std.proofs.Math.Nat.{mod-eq_of_lt}
use Rattle.f3_program.specs.declared.declarations.Base.{Base}
use Rattle.f3_program.specs.declared.declarations.Component as component
use Rattle.f3_program.specs.declared.program.Program.{Program}
use Rattle.f3_live_blocks.specs.Blocks.{Live, words_of}
use Rattle.f3_meaning_whole.specs.Act.{component_of}
use Rattle.f3_meaning_whole.specs.Formed.{IsWellFormed}
use Rattle.f3_meaning_whole.specs.Reference.{One, Many, reach_of}
use Rattle.f3_meaning_whole.specs.Shape.{Shape}
use Rattle.f3_meaning_whole.specs.Store.{Step, Component, Path, within, get}
use Rattle.f3_meaning_whole.specs.Value.{Span, from_one}
use Rattle.f3_desc.specs.declared.descriptor.Descriptor.{Descriptor}
use Rattle.f3_desc.specs.declared.descriptor.Dim.{Dim}
use Rattle.f3_desc.specs.Descriptor.{HasPlaces, choices, place, places, progression, subscripts}
use Rattle.f3_desc.specs.Laws.{number, size_of}
use Rattle.f3_desc.proofs.Orders.{ordered}
use Rattle.f3_desc.proofs.Spots.{moved}
use Rattle.f3_rooms.specs.Forms.{Laid, form_of, form_words, words_for}
use Rattle.f3_rooms.specs.Rooms.{Rooms, store_of}
use Rattle.f3_rooms.specs.Places.{Found}
use Rattle.f3_rooms.specs.Sound.{IsSound}
use Rattle.f3_rooms.specs.Laws.{path_at}
use Rattle.f3_rooms.specs.Ways.{settled, part_of}
use Rattle.f3_rooms.proofs.Onward.{parts_have_parts}
use Rattle.f3_room_arrays.specs.Elements.{StandsAt, Tells}
use Rattle.f3_room_arrays.specs.Words.{IsInside, places_from}
use Rattle.f3_room_arrays.proofs.Numbers.{along, places-cons, places-many}
use Rattle.f3_room_arrays.proofs.Objects.{object-inside}
use Rattle.f3_room_arrays.proofs.Sections.{zip-get}
use Rattle.f3_room_places.specs.Components.{offset_at}
use Rattle.f3_word_cells.specs.declared.cell.Area.{Area}
use Rattle.f3_word_cells.specs.Areas.{types_of, shape_for, spans_of, AreThere}
use Rattle.f3_word_areas.specs.Dims.{dims_from_one}
use Rattle.f3_word_areas.specs.Parts.{IsPartOf, moved_from_one}
use Rattle.f3_word_areas.proofs.There.{none_left, part-there}
use Rattle.f3_word_areas.proofs.Types.{known, component-declared, declared-rank}
use Rattle.f3_word_areas.proofs.Components.{component-found, part-is, component-within}

-- ---- places

-- in blocks of fewer than 2 ^ 63 words all places are some
pub has-places : (ts : List Shape) (m : Live) (x : Rooms) (a : Descriptor) (s : Shape) (ps : List Path) → IsSound ts m x → Tells ts x a s ps
    → length (words_of m a.block) < 2 ^ 63 → HasPlaces a
has-places ts m x a s ps sound tells short ss has =
    let f = zip-get (StandsAt ts x a.block s) (places a) ps (number a.dims.items ss) (place a ss) tells (ordered a ss has) in
    let inside = object-inside ts m x sound a.block s (place a ss) f.0 f.1.1 in
    let low = inside.from in let high = inside.to in
    (low, omega (arith, ints))

pub places-alike : (at : ℤ) (ds : List Dim) → places_from at (dims_from_one ds) ≡ places_from at ds
places-alike at [] = refl
places-alike at (d ∷ ds) =
    places-cons at (record { lower = pos 1; extent = d.extent; stride = d.stride }) (dims_from_one ds)
    ∙ ap (λ (zs : List ℤ). flat_map (along d) zs) (places-alike at ds) ∙ sym (places-cons at d ds)

pub size-alike : (ds : List Dim) → size_of (dims_from_one ds) ≡ size_of ds
size-alike [] = refl
size-alike (d ∷ ds) = ap (λ n. d.extent * n) (size-alike ds)

pub spans-from-one : (ds : List Dim) → spans_of (dims_from_one ds) ≡ from_one (spans_of ds)
spans-from-one [] = refl
spans-from-one (d ∷ ds) = ap (λ (l : List Span). record { lower = pos 1; extent = d.extent } ∷ l) (spans-from-one ds)

-- the first element stands at the place from which all are counted
first-along : (d : Dim) (at : ℤ) (zs : List ℤ) → (d.extent ≡ 0) ⊎ ((rest : List ℤ) × (flat_map (along d) (at ∷ zs) ≡ at ∷ rest))
first-along d at zs = by d.extent refl
  where
    by : (n : ℕ) → d.extent ≡ n → (d.extent ≡ 0) ⊎ ((rest : List ℤ) × (flat_map (along d) (at ∷ zs) ≡ at ∷ rest))
    by zero e = inl e
    by (suc n) e = inr (progression (at +ℤ d.stride) d.stride n ++ flat_map (along d) zs, ap (λ k. progression at d.stride k ++ flat_map (along d) zs) e)

pub first-place : (at : ℤ) (ds : List Dim) → (size_of ds ≡ 0) ⊎ ((rest : List ℤ) × (places_from at ds ≡ at ∷ rest))
first-place at [] = inr ([], ap (λ z. z ∷ []) (let e : at +ℤ pos 0 ≡ at = omega (arith, ints) in e))
first-place at (d ∷ ds) =
    ⊎_elim (λ none. inl (ap (λ n. d.extent * n) none ∙ omega arith))
    (λ h. ⊎_elim (λ none. inl (ap (λ n. n * size_of ds) none ∙ omega arith))
    (λ g. inr (g.0, places-cons at d ds ∙ ap (λ (zs : List ℤ). flat_map (along d) zs) h.1 ∙ g.1))
    (first-along d at h.0))
    (first-place at ds)

-- ---- parts

-- a way leads from each object of a type to one of another, so many words further on
abbrev pub Leads : Shape → List Step → ℕ → Shape → Type 0
Leads s way o u = (f : Found) → f.shape ≡ s → f.form ≡ Laid 0 []
    → (g : Found) × (part_of f way ≡ Some g) × (g.block ≡ f.block) × (g.at ≡ f.at + o) × (g.shape ≡ u) × (g.form ≡ Laid 0 [])

pub stands-further : (ts : List Shape) (x : Rooms) (b : ℕ) (s u : Shape) (way : List Step) (o : ℕ) (z : ℤ) (q : Path) → Leads s way o u → StandsAt ts x b s z q
    → StandsAt ts x b u (pos o +ℤ z) (path_at q.root (q.steps ++ way))
stands-further ts x b s u way o z q leads stands =
    let f : Found = stands.part in
    let g = leads f stands.shape stands.form in
    record {
      part = g.0;
      leads = parts_have_parts ts x q.root q.steps way f stands.leads ∙ g.1;
      there = g.2 ∙ stands.there;
      at = ap pos g.3 ∙ further f.at o z stands.at;
      shape = g.4;
      form = g.5;
    }
  where
    further : (a i : ℕ) (y : ℤ) → pos a ≡ y → pos (a + i) ≡ pos i +ℤ y
    further a i y e = omega (arith, ints)

all-further : (ts : List Shape) (x : Rooms) (b : ℕ) (s u : Shape) (way : List Step) (o : ℕ) → Leads s way o u → (zs : List ℤ) (ps : List Path) → AllZip (StandsAt ts x b s) zs ps
    → AllZip (StandsAt ts x b u) (map (λ z. pos o +ℤ z) zs) (map (λ (q : Path). path_at q.root (q.steps ++ way)) ps)
all-further ts x b s u way o leads [] [] told = tt
all-further ts x b s u way o leads [] (q ∷ ps) told = absurd told
all-further ts x b s u way o leads (z ∷ zs) [] told = absurd told
all-further ts x b s u way o leads (z ∷ zs) (q ∷ ps) told = (stands-further ts x b s u way o z q leads told.0, all-further ts x b s u way o leads zs ps told.1)

nothing-told : (ts : List Shape) (x : Rooms) (b : ℕ) (s : Shape) (zs : List ℤ) (ps : List Path) → zs ≡ [] → AllZip (StandsAt ts x b s) zs ps → ps ≡ []
nothing-told ts x b s zs [] e told = refl
nothing-told ts x b s [] (q ∷ ps) e told = absurd told
nothing-told ts x b s (z ∷ zs) (q ∷ ps) e told = absurd cc

first-inside : (ts : List Shape) (m : Live) (x : Rooms) → IsSound ts m x → (b : ℕ) (s : Shape) (at : ℤ) (zs rest : List ℤ) (ps : List Path) → zs ≡ at ∷ rest → AllZip (StandsAt ts x b s) zs ps
    → IsInside (length (words_of m b)) (words_for s) at
first-inside ts m x sound b s at zs rest [] e told = absurd (subst (λ (l : List ℤ). AllZip (StandsAt ts x b s) l []) e told)
first-inside ts m x sound b s at zs rest (q ∷ ps) e told = object-inside ts m x sound b s at q (subst (λ (l : List ℤ). AllZip (StandsAt ts x b s) l (q ∷ ps)) e told).0

module _ (ts : List Shape) (m : Live) (x : Rooms) (sound : IsSound ts m x) (s u : Shape) (way : List Step) (o : ℕ) (leads : Leads s way o u) (small : o ≤ words_for s) where
  -- so many words further on, of an array
  pub told-further : (a : Area) (of : Base) (ps : List Path) → length (words_of m (a.elements).block) < 2 ^ 63 → Tells ts x a.elements s ps
      → Tells ts x (moved_from_one o of a).elements u (map (λ (q : Path). path_at q.root (q.steps ++ way)) ps)
  told-further a of ps short tells =
      let b : Descriptor = (moved_from_one o of a).elements in
      let qs : List Path = map (λ (q : Path). path_at q.root (q.steps ++ way)) ps in
      let at : ℕ = (a.elements).offset in
      let ds = (a.elements).dims.items in
      let Stands = StandsAt ts x (a.elements).block u in
      ⊎_elim
      (λ none.
      let some : places a.elements ≡ [] = none_left (places a.elements) (places-many (pos at) ds ∙ none) in
      let others : places b ≡ [] = none_left (places b) (places-many (pos ((at + o) % 2 ^ 64)) (dims_from_one ds) ∙ size-alike ds ∙ none) in
      let paths : ps ≡ [] = nothing-told ts x (a.elements).block s (places a.elements) ps some tells in
      subst (λ (zs : List ℤ). AllZip Stands zs qs) (sym others)
      (subst (λ (rs : List Path). AllZip Stands [] (map (λ (q : Path). path_at q.root (q.steps ++ way)) rs)) (sym paths) tt))
      (λ h.
      let inside = first-inside ts m x sound (a.elements).block s (pos at) (places a.elements) h.0 ps h.1 tells in
      let ends = inside.to in
      let exact : (at + o) % 2 ^ 64 ≡ at + o = mod-eq_of_lt (omega (arith, ints)) in
      let from : pos ((at + o) % 2 ^ 64) ≡ pos at +ℤ pos o = ap pos exact ∙ split at o in
      let spots : places b ≡ map (λ z. pos o +ℤ z) (places a.elements) =
      places-alike (pos ((at + o) % 2 ^ 64)) ds ∙ ap (λ (z : ℤ). places_from z ds) from ∙ moved (pos at) (pos o) ds (choices (map subscripts ds)) in
      subst (λ (zs : List ℤ). AllZip Stands zs qs) (sym spots) (all-further ts x (a.elements).block s u way o leads (places a.elements) ps tells))
      (first-place (pos at) ds)
    where
      split : (x y : ℕ) → pos (x + y) ≡ pos x +ℤ pos y
      split x y = omega (arith, ints)

-- ---- components

module _ (p : Program) (m : Live) (x : Rooms) (sound : IsSound (types_of p) m x) (formed : IsWellFormed p) (a b : Area) (k : ℕ) (c : component.Component)
    (is : component_of p.types.items a.of k ≡ Some c) (plain : c.declared.kind.is_allocatable ≡ false)
    (short : length (words_of m (a.elements).block) < 2 ^ 63)
    (part : IsPartOf (types_of p) c.declared (offset_at (shape_for p a.of) k) a b) where
  abbrev o : ℕ
  o = offset_at (shape_for p a.of) k

  abbrev rank-is : length c.declared.dimensions.items ≡ c.declared.kind.rank
  rank-is = let h = known p a.of k c is in declared-rank h.number c.declared (component-declared p a.of k c formed h) plain

  -- of one object
  pub one-component : (q : Path) → AreThere p x a q One
      → AreThere p x b (within q (Component k)) (reach_of (within q (Component k)) (get (store_of (types_of p) m x) (within q (Component k))))
  one-component q there =
      let stands = there.1 in
      let f : Found = stands.part in
      let laid = part.one there.0 in
      let g = part-is p a.of k c formed is f stands.shape stands.form in
      let leads = parts_have_parts (types_of p) x q.root q.steps (Component k ∷ []) f stands.leads ∙ g in
      let inside = object-inside (types_of p) m x sound (a.elements).block (shape_for p a.of) (pos (a.elements).offset) q stands in
      let ends = inside.to in
      let within-it = component-within p a.of k c formed is in
      let exact : ((a.elements).offset + o) % 2 ^ 64 ≡ (a.elements).offset + o = mod-eq_of_lt (omega (arith, ints)) in
      let at : f.at ≡ (a.elements).offset = pos-is f.at (a.elements).offset stands.at in
      let size : form_words (form_of c.declared) (words_for (shape_for p c.declared.kind.of)) < 2 ^ 63 = omega (arith, ints) in
      part-there p m x q.root (q.steps ++ Component k ∷ []) (component-found p a.of k c f) b leads (record {
        block = laid.block ∙ sym stands.there;
        offset = laid.offset ∙ exact ∙ ap (λ n. n + o) (sym at);
        shape = ap (shape_for p) laid.of;
        dims = laid.dims plain rank-is size;
      })
    where
      pos-is : (x y : ℕ) → pos x ≡ pos y → x ≡ y
      pos-is x y e = omega (arith, ints)

  -- of each element, where it is one object
  pub each-component : settled (form_of c.declared) ≡ Laid 0 [] → (q : Path) (ss : List Span) (ps : List Path) → AreThere p x a q (Many ss ps)
      → AreThere p x b q (Many (from_one ss) (map (λ (q : Path). within q (Component k)) ps))
  each-component scalar q ss ps there =
      let e = part.each there.0 in
      let leads : Leads (shape_for p a.of) (Component k ∷ []) o (shape_for p c.declared.kind.of) = λ f shape form.
      (component-found p a.of k c f, part-is p a.of k c formed is f shape form, refl, refl, refl, scalar) in
      let told = told-further (types_of p) m x sound (shape_for p a.of) (shape_for p c.declared.kind.of) (Component k ∷ []) o leads
      (let w = component-within p a.of k c formed is in omega arith) a c.declared.kind.of ps short there.2 in
      subst (λ (y : Area). AreThere p x y q (Many (from_one ss) (map (λ (q : Path). within q (Component k)) ps))) (sym e)
      (some (a.elements).dims.items there.0, ap from_one there.1 ∙ sym (spans-from-one (a.elements).dims.items), told)
    where
      some : (ds : List Dim) → ds ≢ [] → dims_from_one ds ≢ []
      some [] n e = n refl
      some (d ∷ ds) n e = cc
