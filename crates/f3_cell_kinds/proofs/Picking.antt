-- Elements that are picked from arrays.
use Rattle.std.proofs.Common.{◌≡◌, ◌∙◌, sym, ap, ℕ, zero, suc, ◌+◌, ◌*◌, ◌<◌, ◌≤◌, ℤ, pos, negsuc, Bool, true, false, ◌||◌, List, [], ◌∷◌, ◌++◌, map, length, Option, Some, refl, subst, arith, T, length-append}
use Rattle.std.specs.Prelude.{nat_eq, nat_lt, slice_get, ◌-ℤ◌, ◌<ℤ◌, ◌≤ℤ◌, int_le, int_lt, nat_abs, flat_map}
use Rattle.std.proofs.lemmas.Bool.{lt-ltb}
use Rattle.std.proofs.lemmas.Int.{ints}
use Rattle.std.proofs.Math.Nat.{mul-le-mul_left}
use Rattle.f3_program.specs.declared.declarations.Kind.{Kind}
use Rattle.f3_meaning_whole.specs.Value.{Span, count}
use Rattle.f3_meaning_whole.specs.Store.{Path}
use Rattle.f3_meaning_whole.specs.Reference.{Reach, One, Many, Reference}
use Rattle.f3_meaning_whole.specs.Act.{Here, Chosen, At, Range, end_of, subscripts_in, is_inside, some_zero_step, all_inside, places_in, spans_in, added, elements_at, first_of, picked, picks, in_each, picks_in_each}
use Rattle.f3_meaning_whole.specs.Formed.{of_kind, count_ranges}
use Rattle.f3_cell_kinds.specs.Holds.{Reaches, Refers, IsChoice}
use Rattle.f3_cell_kinds.proofs.Asked.{and_is}
use Rattle.f3_cell_kinds.proofs.Yielding.{Yields, gives_yields, fails_yields, bind_yields, if_yields}
use Rattle.f3_cell_kinds.proofs.Parting.{mapped_length}
use Rattle.f3_cell_kinds.proofs.Scalars.{no_rank}

-- ---- places of elements

offset_below : (d : ℤ) (e : ℕ) → pos 0 ≤ℤ d → d <ℤ pos e → nat_abs d < e
offset_below (pos n) e low high = omega (arith, ints)
offset_below (negsuc n) e low high = absurd (omega (arith, ints))

inside_below : (s : Span) (z : ℤ) → int_le s.lower z ≡ true → int_lt z (end_of s) ≡ true → nat_abs (z -ℤ s.lower) < s.extent
inside_below s z h k =
    let low : s.lower ≤ℤ z = record { le = subst (λ (x : Bool). T x) (sym h) tt } in
    let high : z <ℤ end_of s = record { lt = subst (λ (x : Bool). T x) (sym k) tt } in
    let from : pos 0 ≤ℤ (z -ℤ s.lower) = omega (arith, ints) in
    let to : (z -ℤ s.lower) <ℤ pos s.extent = omega (arith, ints) in
    offset_below (z -ℤ s.lower) s.extent from to

row_place : (a e k n : ℕ) → a < e → k < n → a + e * k < e * n
row_place a e k n h f = let m : e * suc k ≤ e * n = mul-le-mul_left e (omega (arith, f)) in omega (arith, m, h)

abbrev pub AllBelow : ℕ → List ℕ → Type 0
AllBelow n [] = Unit {0}
AllBelow n (k ∷ ks) = (k < n) × AllBelow n ks

below_append : (n : ℕ) (xs ys : List ℕ) → AllBelow n xs → AllBelow n ys → AllBelow n (xs ++ ys)
below_append n [] ys h f = f
below_append n (x ∷ xs) ys h f = (h.0, below_append n xs ys h.1 f)

row_below : (s : Span) (zs : List ℤ) (k n : ℕ) → is_inside s zs ≡ true → k < n → AllBelow (s.extent * n) (map (λ z. nat_abs (z -ℤ s.lower) + s.extent * k) zs)
row_below s [] k n e f = tt
row_below s (z ∷ zs) k n e f =
    let a = and_is _ _ e in let b = and_is _ _ a.1 in
    (row_place (nat_abs (z -ℤ s.lower)) s.extent k n (inside_below s z a.0 b.0) f, row_below s zs k n b.1 f)

rows_below : (s : Span) (zs : List ℤ) (ks : List ℕ) (n : ℕ) → is_inside s zs ≡ true → AllBelow n ks →
    AllBelow (s.extent * n) (flat_map (λ k. map (λ z. nat_abs (z -ℤ s.lower) + s.extent * k) zs) ks)
rows_below s zs [] n e h = tt
rows_below s zs (k ∷ ks) n e h = below_append (s.extent * n) _ _ (row_below s zs k n e h.0) (rows_below s zs ks n e h.1)

abbrev pub AllChosen : List Bool → List Chosen → Type 0
AllChosen [] [] = Unit {0}
AllChosen (b ∷ bs) (c ∷ cs) = IsChoice b c × AllChosen bs cs
AllChosen bs cs = ⊥

pub places_below : (ss : List Span) (bs : List Bool) (cs : List Chosen) → length ss ≡ length bs → AllChosen bs cs → all_inside ss cs ≡ true → AllBelow (count ss) (places_in ss cs)
places_below [] [] [] many are e = (omega arith, tt)
places_below [] [] (c ∷ cs) many are e = absurd are
places_below [] (b ∷ bs) cs many are e = absurd (omega (arith, many))
places_below (s ∷ ss) [] cs many are e = absurd (omega (arith, many))
places_below (s ∷ ss) (b ∷ bs) [] many are e = absurd are
places_below (s ∷ ss) (b ∷ bs) (c ∷ cs) many are e =
    let a = and_is _ _ e in
    rows_below s (subscripts_in s c) (places_in ss cs) (count ss) a.0 (places_below ss bs cs (omega (arith, many)) are.1 a.1)

flat_length : (f : ℕ → List ℕ) (m : ℕ) (ks : List ℕ) → ((k : ℕ) → length (f k) ≡ m) → length (flat_map f ks) ≡ m * length ks
flat_length f m [] h = let e : 0 ≡ m * 0 = omega arith in e
flat_length f m (k ∷ ks) h = omega (arith, length-append (f k) (flat_map f ks), h k, flat_length f m ks h)

pub places_count : (ss : List Span) (bs : List Bool) (cs : List Chosen) → length ss ≡ length bs → AllChosen bs cs →
    (length (places_in ss cs) ≡ count (spans_in ss cs)) × (length (spans_in ss cs) ≡ count_ranges bs)
places_count [] [] [] many are = (refl, refl)
places_count [] [] (c ∷ cs) many are = absurd are
places_count [] (b ∷ bs) cs many are = absurd (omega (arith, many))
places_count (s ∷ ss) [] cs many are = absurd (omega (arith, many))
places_count (s ∷ ss) (b ∷ bs) [] many are = absurd are
places_count (s ∷ ss) (true ∷ bs) (At z ∷ cs) many are = cc
places_count (s ∷ ss) (false ∷ bs) (At z ∷ cs) many are =
    let r = places_count ss bs cs (omega (arith, many)) are.1 in
    let f = flat_length (λ k. map (λ z. nat_abs (z -ℤ s.lower) + s.extent * k) (z ∷ [])) 1 (places_in ss cs) (λ k. refl) in
    (omega (arith, f, r.0), r.1)
places_count (s ∷ ss) (false ∷ bs) (Range lower upper step ∷ cs) many are = cc
places_count (s ∷ ss) (true ∷ bs) (Range lower upper step ∷ cs) many are =
    let r = places_count ss bs cs (omega (arith, many)) are.1 in
    let zs = subscripts_in s (Range lower upper step) in
    let f = flat_length (λ k. map (λ z. nat_abs (z -ℤ s.lower) + s.extent * k) zs) (length zs) (places_in ss cs) (λ k. mapped_length _ zs) in
    (f ∙ ap (λ n. length zs * n) r.0, ap suc r.1)

-- ---- elements

get_below : (ps : List Path) (k : ℕ) → k < length ps → (p : Path) × (slice_get ps k ≡ Some p)
get_below [] k h = absurd (omega arith)
get_below (p ∷ ps) zero h = (p, refl)
get_below (p ∷ ps) (suc k) h = get_below ps k (omega arith)

elements_count : (ps : List Path) (ks : List ℕ) → AllBelow (length ps) ks → length (elements_at ps ks) ≡ length ks
elements_count ps [] h = refl
elements_count ps (k ∷ ks) h =
    let f = get_below ps k h.0 in
    ap (λ (o : Option Path). length (added o (elements_at ps ks))) f.1 ∙ ap suc (elements_count ps ks h.1)

picked_by : (k : Kind) (r : Reference) (es : List Path) (ps : List Path) (ks : List ℕ) (xs : List Span) (bs : List Bool) → r.of ≡ k.of → es ≡ elements_at ps ks →
    length es ≡ count xs → length xs ≡ count_ranges bs → Refers (of_kind k.of (count_ranges bs)) (picked r ps xs ks)
picked_by k r [] ps ks [] bs of is many rank = absurd (omega (arith, many))
picked_by k r (e ∷ es) ps ks [] bs of is many rank =
    subst (λ l. Refers (of_kind k.of (count_ranges bs)) (first_of r l)) is (of, ap (λ n. nat_eq n 0) (sym rank))
picked_by k r es ps ks (x ∷ xs) bs of is many rank =
    (of, (refl, ap (λ n. nat_lt 0 n) (sym rank) ∙ more (length xs), rank, ap length (sym is) ∙ many))
  where
    more : (n : ℕ) → nat_lt 0 (suc n) ≡ true
    more n = lt-ltb 0 (suc n) (omega arith)

pub picks_yields : (k : Kind) (r : Reference) (bs : List Bool) (cs : List Chosen) (here : Here) → k.is_allocatable ≡ false → length bs ≡ k.rank → nat_lt 0 k.rank ≡ true →
    AllChosen bs cs → r.of ≡ k.of → (reach : Reach) → Reaches k reach → Yields (Refers (of_kind k.of (count_ranges bs))) (picks r reach cs here)
picks_yields k r bs cs here held rank some are of One h = absurd (none k.rank (ap (λ (b : Bool). b || nat_eq k.rank 0) (sym held) ∙ h) some)
  where
    none : (n : ℕ) → nat_eq n 0 ≡ true → nat_lt 0 n ≡ true → ⊥
    none n e f = no_rank n e f
picks_yields k r bs cs here held rank some are of (Many ss ps) h =
    let many : length ss ≡ length bs = h.2 ∙ sym rank in
    let c = places_count ss bs cs many are in
    bind_yields {Q = λ ks. (ks ≡ places_in ss cs) × (all_inside ss cs ≡ true)}
    (if_yields (some_zero_step cs) (λ e. fails_yields _ here.place)
    (λ e. if_yields (all_inside ss cs) (λ f. gives_yields _ (refl, f)) (λ f. fails_yields _ here.place)))
    (λ ks f. gives_yields _ (subst (λ l. Refers (of_kind k.of (count_ranges bs)) (picked r ps (spans_in ss cs) l)) (sym f.0)
    (picked_by k r (elements_at ps (places_in ss cs)) ps (places_in ss cs) (spans_in ss cs) bs of refl
    (elements_count ps (places_in ss cs) (subst (λ n. AllBelow n (places_in ss cs)) (sym h.3) (places_below ss bs cs many are f.1)) ∙ c.0) c.1)))

in_each_reaches : (k : Kind) (reach : Reach) (ks : List ℕ) → Reaches k reach → Reaches k (in_each reach ks)
in_each_reaches k One ks h = h
in_each_reaches k (Many ss ps) ks h = (h.0, h.1, h.2, mapped_length _ ps ∙ h.3)

pub each_yields : (k : Kind) (r : Reference) (ss : List Span) (cs : List Chosen) (here : Here) → Refers k r → Yields (Refers k) (picks_in_each ss r cs here)
each_yields k r ss cs here h =
    bind_yields {Q = λ ks. Unit {0}}
    (if_yields (some_zero_step cs) (λ e. fails_yields _ here.place) (λ e. if_yields (all_inside ss cs) (λ f. gives_yields _ tt) (λ f. fails_yields _ here.place)))
    (λ ks f. gives_yields _ (h.0, in_each_reaches k r.reach ks h.1))
