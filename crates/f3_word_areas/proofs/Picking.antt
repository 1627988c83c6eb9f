-- What is picked of an array, over words as over values.
use Rattle.std.proofs.Common.{◌≡◌, ◌∙◌, sym, ap, subst, refl, ℕ, zero, suc, List, [], ◌∷◌, length, arith, T}
use Rattle.std.specs.Prelude.{ℤ, pos, negsuc, ◌+ℤ◌, ◌-ℤ◌, All, Bool, true, false, ◌&&◌, int_le, int_lt, int_div, map, unwrap_or}
use Rattle.std.specs.List.{AllZip}
use Rattle.std.proofs.lemmas.Int.{ints}
use Rattle.std.proofs.lemmas.List.Elements.{All-nil, All-cons, All-head, All-tail}
use Rattle.f3_program.specs.declared.program.Program.{Program}
use Rattle.f3_meaning_whole.specs.Arithmetic.{natural, trips}
use Rattle.f3_meaning_whole.specs.Value.{Span}
use Rattle.f3_meaning_whole.specs.Store.{Path}
use Rattle.f3_meaning_whole.specs.Reference.{Reference}
use Rattle.f3_meaning_whole.specs.Act.{Chosen, At, Range, stepped, subscripts_in, end_of, is_inside, all_inside, places_in, spans_in, elements_at, first_of, picked}
use Rattle.f3_desc.specs.declared.descriptor.Dim.{Dim}
use Rattle.f3_desc.specs.declared.descriptor.Triplet.{Triplet}
use Rattle.f3_desc.specs.Descriptor.{IsWithin, progression, places}
use Rattle.f3_desc.specs.Section.{IsSection, SelectsWithin, at_least_zero, count, selected, extents}
use Rattle.f3_desc.proofs.Sections.{Within}
use Rattle.f3_rooms.specs.Rooms.{Rooms}
use Rattle.f3_room_arrays.specs.Elements.{StandsAt, Tells}
use Rattle.f3_room_arrays.specs.Words.{places_from}
use Rattle.f3_room_arrays.specs.Laws.{SelectAlike, numbers}
use Rattle.f3_room_arrays.proofs.Sections.{sections_are_told, numbers_are_places}
use Rattle.f3_word_cells.specs.declared.cell.Area.{Area}
use Rattle.f3_word_cells.specs.Areas.{types_of, shape_for, span_of, spans_of, AreThere}
use Rattle.f3_word_areas.specs.Sections.{triplet_of, triplets_of, last_of}

-- ---- the selected subscripts

natural-is : (z : ℤ) → natural z ≡ at_least_zero z
natural-is (pos n) = refl
natural-is (negsuc n) = refl

count-is : (from to step : ℤ) → trips from to step ≡ count from to step
count-is from to step = natural-is (int_div ((to -ℤ from) +ℤ step) step)

stepped-is : (n : ℕ) (z step : ℤ) → stepped n z step ≡ progression z step n
stepped-is zero z step = refl
stepped-is (suc n) z step = ap (λ zs. z ∷ zs) (stepped-is n (z +ℤ step) step)

pub subscripts-are : (d : Dim) (h : Chosen) → subscripts_in (span_of d) h ≡ selected (triplet_of d h)
subscripts-are d (At z) = refl
subscripts-are d (Range lower upper step) =
    let from = unwrap_or lower d.lower in let to = unwrap_or upper (last_of d) in
    ap (λ n. stepped n from step) (count-is from to step) ∙ stepped-is (count from to step) from step

pub alike : (ds : List Dim) (hs : List Chosen) → length hs ≡ length ds → SelectAlike (spans_of ds) hs ds (triplets_of ds hs)
alike [] [] e = tt
alike [] (h ∷ hs) e = absurd (omega arith)
alike (d ∷ ds) [] e = absurd (omega arith)
alike (d ∷ ds) (h ∷ hs) e = (refl, refl, subscripts-are d h, alike ds hs (omega arith))

-- ---- within bounds

is-true : (b : Bool) → T b → b ≡ true
is-true true h = refl
is-true false h = absurd h

both : (a b : Bool) → (a && b) ≡ true → (a ≡ true) × (b ≡ true)
both true b e = (refl, e)
both false b e = absurd cc

joined : (a b : Bool) → a ≡ true → b ≡ true → (a && b) ≡ true
joined true b e f = f
joined false b e f = absurd cc

inside-within : (d : Dim) (zs : List ℤ) → is_inside (span_of d) zs ≡ true → All (IsWithin d) zs
inside-within d [] e = All-nil (IsWithin d)
inside-within d (z ∷ zs) e =
    let a = both (int_le d.lower z) _ e in
    let b = both (int_lt z (end_of (span_of d))) _ a.1 in
    All-cons (IsWithin d) z zs
    (record { le = subst (λ (x : Bool). T x) (sym a.0) tt }, record { lt = subst (λ (x : Bool). T x) (sym b.0) tt })
    (inside-within d zs b.1)

within-inside : (d : Dim) (zs : List ℤ) → All (IsWithin d) zs → is_inside (span_of d) zs ≡ true
within-inside d [] h = refl
within-inside d (z ∷ zs) h =
    let here = All-head (IsWithin d) z zs h in
    joined (int_le d.lower z) _ (is-true _ here.0.le)
    (joined (int_lt z (end_of (span_of d))) _ (is-true _ here.1.lt) (within-inside d zs (All-tail (IsWithin d) z zs h)))

pub all-within : (ds : List Dim) (hs : List Chosen) → length hs ≡ length ds → all_inside (spans_of ds) hs ≡ true → Within ds (triplets_of ds hs)
all-within [] [] e h = tt
all-within [] (c ∷ hs) e h = absurd (omega arith)
all-within (d ∷ ds) [] e h = absurd (omega arith)
all-within (d ∷ ds) (c ∷ hs) e h =
    let a = both (is_inside (span_of d) (subscripts_in (span_of d) c)) _ h in
    (subst (λ (zs : List ℤ). All (IsWithin d) zs) (subscripts-are d c) (inside-within d (subscripts_in (span_of d) c) a.0), all-within ds hs (omega arith) a.1)

pub within-all : (ds : List Dim) (hs : List Chosen) → length hs ≡ length ds → Within ds (triplets_of ds hs) → all_inside (spans_of ds) hs ≡ true
within-all [] [] e h = refl
within-all [] (c ∷ hs) e h = absurd (omega arith)
within-all (d ∷ ds) [] e h = absurd (omega arith)
within-all (d ∷ ds) (c ∷ hs) e h =
    joined (is_inside (span_of d) (subscripts_in (span_of d) c)) _
    (within-inside d (subscripts_in (span_of d) c) (subst (λ (zs : List ℤ). All (IsWithin d) zs) (sym (subscripts-are d c)) h.0))
    (within-all ds hs (omega arith) h.1)

-- ---- the bounds of a section

abbrev one-to : ℕ → Span
one-to n = record { lower = pos 1; extent = n }

steps-many : (n : ℕ) (z step : ℤ) → length (stepped n z step) ≡ n
steps-many zero z step = refl
steps-many (suc n) z step = let e = steps-many n (z +ℤ step) step in omega arith

spans-left : (ds : List Dim) (hs : List Chosen) → length hs ≡ length ds → spans_in (spans_of ds) hs ≡ map one-to (extents (triplets_of ds hs))
spans-left [] [] e = refl
spans-left [] (h ∷ hs) e = absurd (omega arith)
spans-left (d ∷ ds) [] e = absurd (omega arith)
spans-left (d ∷ ds) (At z ∷ hs) e = spans-left ds hs (omega arith)
spans-left (d ∷ ds) (Range lower upper step ∷ hs) e =
    let n : ℕ = count (unwrap_or lower d.lower) (unwrap_or upper (last_of d)) step in
    let many : length (subscripts_in (span_of d) (Range lower upper step)) ≡ n = steps-many (trips (unwrap_or lower d.lower) (unwrap_or upper (last_of d)) step) (unwrap_or lower d.lower) step ∙ count-is (unwrap_or lower d.lower) (unwrap_or upper (last_of d)) step in
    (λ i. one-to (many i) ∷ spans-left ds hs (omega arith) i)

spans-made : (bs : List Dim) → All (λ (d : Dim). d.lower ≡ pos 1) bs → spans_of bs ≡ map one-to (map (λ (d : Dim). d.extent) bs)
spans-made [] low = refl
spans-made (b ∷ bs) low =
    let first : b.lower ≡ pos 1 = All-head (λ (d : Dim). d.lower ≡ pos 1) b bs low in
    let more = spans-made bs (All-tail (λ (d : Dim). d.lower ≡ pos 1) b bs low) in
    λ i. record { lower = first i; extent = b.extent } ∷ more i

module _ (p : Program) (x : Rooms) (a b : Area) (r : Reference) (ss : List Span) (ps : List Path) (hs : List Chosen)
    (same : b.of ≡ a.of)
    (many : length hs ≡ length (a.elements).dims.items)
    (within : SelectsWithin a.elements (triplets_of (a.elements).dims.items hs))
    (section : IsSection a.elements (triplets_of (a.elements).dims.items hs) b.elements)
    (bounds : ss ≡ spans_of (a.elements).dims.items)
    (tells : Tells (types_of p) x a.elements (shape_for p a.of) ps) where
  abbrev cs : List Triplet
  cs = triplets_of (a.elements).dims.items hs

  abbrev qs : List Path
  qs = elements_at ps (places_in ss hs)

  pub section-told : Tells (types_of p) x b.elements (shape_for p b.of) qs
  section-told =
      let told = sections_are_told (types_of p) x a.elements b.elements (shape_for p a.of) ps cs tells within section in
      let numbered : numbers (a.elements).dims.items cs ≡ places_in ss hs =
      sym (ap (λ (ts : List Span). places_in ts hs) bounds ∙ numbers_are_places (spans_of (a.elements).dims.items) hs (a.elements).dims.items cs (alike (a.elements).dims.items hs many)) in
      subst (λ o. Tells (types_of p) x b.elements (shape_for p o) qs) (sym same)
      (subst (λ (ks : List ℕ). Tells (types_of p) x b.elements (shape_for p a.of) (elements_at ps ks)) numbered told)

  pub section-bounds : spans_in ss hs ≡ spans_of (b.elements).dims.items
  section-bounds =
      ap (λ (ts : List Span). spans_in ts hs) bounds ∙ spans-left (a.elements).dims.items hs many
      ∙ ap (λ ns. map one-to ns) (sym section.extent) ∙ sym (spans-made (b.elements).dims.items section.lower)

  one-told : (rs : List Path) → (b.elements).dims.items ≡ [] → AllZip (StandsAt (types_of p) x (b.elements).block (shape_for p b.of)) (places b.elements) rs
      → (q : Path) × (rs ≡ q ∷ []) × StandsAt (types_of p) x (b.elements).block (shape_for p b.of) (pos (b.elements).offset) q
  one-told rs none told =
      let Stands = StandsAt (types_of p) x (b.elements).block (shape_for p b.of) in
      let only : places b.elements ≡ (pos (b.elements).offset +ℤ pos 0) ∷ [] = ap (λ (ds : List Dim). places_from (pos (b.elements).offset) ds) none in
      let at : pos (b.elements).offset +ℤ pos 0 ≡ pos (b.elements).offset = omega (arith, ints) in
      by rs (subst (λ (zs : List ℤ). AllZip Stands zs rs) (only ∙ ap (λ (z : ℤ). z ∷ []) at) told)
    where
      by : (rs : List Path) → AllZip (StandsAt (types_of p) x (b.elements).block (shape_for p b.of)) (pos (b.elements).offset ∷ []) rs
          → (q : Path) × (rs ≡ q ∷ []) × StandsAt (types_of p) x (b.elements).block (shape_for p b.of) (pos (b.elements).offset) q
      by [] h = absurd h
      by (q ∷ []) h = (q, refl, h.0)
      by (q ∷ s ∷ rs) h = absurd h.1

  one : (b.elements).dims.items ≡ [] → AreThere p x b (first_of r qs).path (first_of r qs).reach
  one none =
      let h = one-told qs none section-told in
      subst (λ (rs : List Path). AreThere p x b (first_of r rs).path (first_of r rs).reach) (sym h.1) (none, h.2)

  by-spans : (ts : List Span) → ts ≡ spans_in ss hs → (ds : List Dim) → (b.elements).dims.items ≡ ds → AreThere p x b (picked r ps ts (places_in ss hs)).path (picked r ps ts (places_in ss hs)).reach
  by-spans [] e [] d = one d
  by-spans [] e (y ∷ ds) d = absurd (let h = e ∙ section-bounds ∙ ap spans_of d in cc)
  by-spans (t ∷ ts) e [] d = absurd (let h = e ∙ section-bounds ∙ ap spans_of d in cc)
  by-spans (t ∷ ts) e (y ∷ ds) d = ((λ z. let h = sym d ∙ z in cc), e ∙ section-bounds, section-told)

  pub picked-there : AreThere p x b (picked r ps (spans_in ss hs) (places_in ss hs)).path (picked r ps (spans_in ss hs) (places_in ss hs)).reach
  picked-there = by-spans (spans_in ss hs) refl (b.elements).dims.items refl
