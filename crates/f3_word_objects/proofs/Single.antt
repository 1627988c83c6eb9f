-- Single subscripts, and the number of the element that they select.
use Rattle.std.proofs.Common.{◌≡◌, ◌∙◌, ℕ, ◌+◌, ◌*◌, ◌<◌, ◌≤◌, Bool, true, false, List, [], ◌∷◌, ◌++◌, length, map, reverse, refl, sym, ap, subst, arith, T}
use Rattle.std.specs.Prelude.{⊤, ℤ, pos, negsuc, nat_abs, ◌-ℤ◌, ◌≤ℤ◌, ◌<ℤ◌, ◌%◌, ◌^◌, ◌&&◌, int_le, int_lt, Some}
use Rattle.std.specs.List.{flat_map}
use Rattle.std.proofs.Math.Nat.{add-mod-mod, mul-le-mul_left}
use Rattle.std.proofs.lemmas.Nat.{mul-mod_first, mul-mod_second}
use Rattle.std.proofs.lemmas.Int.{ints}
use Rattle.std.proofs.lemmas.List.{reverse-append}
use Rattle.f3_program.specs.declared.declarations.Dimension.{Dimension}
use Rattle.f3_meaning_whole.specs.Act.{Chosen, At, Range, all_inside, end_of, is_inside, places_in, some_zero_step}
use Rattle.f3_meaning_whole.specs.Formed.{count_ranges}
use Rattle.f3_meaning_whole.specs.Shape.{spans_declared}
use Rattle.f3_meaning_whole.specs.Value.{Span, count}
use Rattle.f3_cells.specs.declared.cell.Chosen as cell
use Rattle.f3_cells.specs.declared.cell.Chosen.TheVariants as chosen
use Rattle.f3_cells.specs.Cells.{chosen_of}
use Rattle.f3_word_objects.specs.Each.{AreSingle, IsNumber, IsPlaceIn, span_declared}
use Rattle.f3_word_objects.proofs.Choosing.{AreChosen}

both : (a b : Bool) → (a && b) ≡ true → (a ≡ true) × (b ≡ true)
both true b e = (refl, e)
both false b e = absurd cc

joined : (a b : Bool) → a ≡ true → b ≡ true → (a && b) ≡ true
joined true b e f = f
joined false b e f = absurd cc

-- ---- no triplets

-- none is a triplet
abbrev AreAlone : List Bool → Type 0
AreAlone [] = ⊤
AreAlone (b ∷ bs) = (b ≡ false) × AreAlone bs

alone : (bs : List Bool) → count_ranges bs ≡ 0 → AreAlone bs
alone [] e = tt
alone (true ∷ bs) e = absurd (omega arith)
alone (false ∷ bs) e = (refl, alone bs e)

alone-more : (bs cs : List Bool) → AreAlone bs → AreAlone cs → AreAlone (bs ++ cs)
alone-more [] cs f g = g
alone-more (b ∷ bs) cs f g = (f.0, alone-more bs cs f.1 g)

alone-turned : (bs : List Bool) → AreAlone bs → AreAlone (reverse bs)
alone-turned [] f = tt
alone-turned (b ∷ bs) f = subst (λ l. AreAlone l) (sym (reverse-append (b ∷ []) bs)) (alone-more (reverse bs) (b ∷ []) (alone-turned bs f.1) (f.0, tt))

single-more : (hs gs : List Chosen) → AreSingle hs → AreSingle gs → AreSingle (hs ++ gs)
single-more [] gs f g = g
single-more (At z ∷ hs) gs f g = single-more hs gs f g
single-more (Range lower upper step ∷ hs) gs f g = absurd f

single-turned : (hs : List Chosen) → AreSingle hs → AreSingle (reverse hs)
single-turned [] f = tt
single-turned (At z ∷ hs) f = subst (λ l. AreSingle l) (sym (reverse-append (At z ∷ []) hs)) (single-more (reverse hs) (At z ∷ []) (single-turned hs f) tt)
single-turned (Range lower upper step ∷ hs) f = absurd f

single-of : (bs : List Bool) (hs : List Chosen) → AreChosen bs hs → AreAlone bs → AreSingle hs
single-of [] [] are f = tt
single-of [] (h ∷ hs) are f = absurd are
single-of (b ∷ bs) [] are f = absurd are
single-of (b ∷ bs) (At z ∷ hs) are f = single-of bs hs are.1 f.1
single-of (b ∷ bs) (Range lower upper step ∷ hs) are f = absurd (let e : true ≡ false = sym are.0 ∙ f.0 in cc)

-- what is chosen where no kind is that of a triplet, the last one first
pub all-single : (bs : List Bool) (hs : List Chosen) → count_ranges bs ≡ 0 → AreChosen (reverse bs) hs → AreSingle (reverse hs ++ [])
all-single bs hs e are = single-more (reverse hs) [] (single-turned hs (single-of (reverse bs) hs are (alone-turned bs (alone bs e)))) tt

pub no-zero-step : (hs : List Chosen) → AreSingle hs → some_zero_step hs ≡ false
no-zero-step [] f = refl
no-zero-step (At z ∷ hs) f = no-zero-step hs f
no-zero-step (Range lower upper step ∷ hs) f = absurd f

-- ---- numbers

-- behind a first subscript
abbrev number-behind : Span → ℤ → ℕ → ℕ
number-behind s z k = nat_abs (z -ℤ s.lower) + s.extent * k

one-more : (s : Span) (z : ℤ) (ss : List Span) (hs : List Chosen) (i : ℕ) → places_in ss hs ≡ i ∷ [] → places_in (s ∷ ss) (At z ∷ hs) ≡ number-behind s z i ∷ []
one-more s z ss hs i e = ap (λ ks. flat_map (λ k. map (λ y. nat_abs (y -ℤ s.lower) + s.extent * k) (z ∷ [])) ks) e

pub one-number : (ss : List Span) (hs : List Chosen) → AreSingle hs → (i : ℕ) × (places_in ss hs ≡ i ∷ [])
one-number [] hs f = (0, refl)
one-number (s ∷ ss) [] f = (0, refl)
one-number (s ∷ ss) (At z ∷ hs) f = let h = one-number ss hs f in (number-behind s z h.0, one-more s z ss hs h.0 h.1)
one-number (s ∷ ss) (Range lower upper step ∷ hs) f = absurd f

inside-one : (s : Span) (z : ℤ) → is_inside s (z ∷ []) ≡ true → nat_abs (z -ℤ s.lower) < s.extent
inside-one s z e =
    let a = both (int_le s.lower z) _ e in
    let b = both (int_lt z (end_of s)) _ a.1 in
    by (z -ℤ s.lower) refl (record { le = subst (λ (x : Bool). T x) (sym a.0) tt }) (record { lt = subst (λ (x : Bool). T x) (sym b.0) tt })
  where
    by : (y : ℤ) → y ≡ z -ℤ s.lower → s.lower ≤ℤ z → z <ℤ end_of s → nat_abs y < s.extent
    by (pos n) f low high = omega (arith, ints)
    by (negsuc n) f low high = absurd (omega (arith, ints))

below : (a i e n : ℕ) → a < e → i < n → a + e * i < e * n
below a i e n lt le =
    let h : e * (1 + i) ≤ e * n = mul-le-mul_left e (let g : 1 + i ≤ n = omega (arith, le) in g) in
    let g : e * (1 + i) ≡ e + e * i = omega arith in
    omega (arith, h, g, lt)

-- it is one of an element
pub number-within : (ss : List Span) (hs : List Chosen) (i : ℕ) → AreSingle hs → length hs ≡ length ss → all_inside ss hs ≡ true → places_in ss hs ≡ i ∷ [] → i < count ss
number-within [] hs i f e inside is = let zero-is : 0 ≡ i = cc in omega arith
number-within (s ∷ ss) [] i f e inside is = absurd (omega arith)
number-within (s ∷ ss) (At z ∷ hs) i f e inside is =
    let a = both (is_inside s (z ∷ [])) _ inside in
    let h = one-number ss hs f in
    let there : number-behind s z h.0 ∷ [] ≡ i ∷ [] = sym (one-more s z ss hs h.0 h.1) ∙ is in
    let same : number-behind s z h.0 ≡ i = cc in
    subst (λ (k : ℕ). k < s.extent * count ss) same
    (below (nat_abs (z -ℤ s.lower)) h.0 s.extent (count ss) (inside-one s z a.0) (number-within ss hs h.0 f (omega arith) a.1 h.1))
number-within (s ∷ ss) (Range lower upper step ∷ hs) i f e inside is = absurd f

-- ---- numbers of 64 bits

pub number-so : (p e i : ℕ) → (p + (e * (i % 2 ^ 64)) % 2 ^ 64) % 2 ^ 64 ≡ (p + e * i) % 2 ^ 64
number-so p e i = ap (λ k. (p + k) % 2 ^ 64) (mul-mod_second e i (2 ^ 64)) ∙ add-mod-mod p (e * i) (2 ^ 64)

pub offset-so : (at f i w : ℕ) → (at + (f + (i % 2 ^ 64 * w) % 2 ^ 64) % 2 ^ 64) % 2 ^ 64 ≡ (at + (f + i * w)) % 2 ^ 64
offset-so at f i w =
    ap (λ k. (at + (f + k) % 2 ^ 64) % 2 ^ 64) (mul-mod_first i w (2 ^ 64)) ∙ ap (λ k. (at + k) % 2 ^ 64) (add-mod-mod f (i * w) (2 ^ 64))
    ∙ add-mod-mod at (f + i * w) (2 ^ 64)

-- a subscript, and the number by the others
numbered-one : (others : List Dimension) (rest : List cell.Chosen) (d : Dimension) (h : cell.Chosen) (place behind k : ℕ) → IsPlaceIn (span_declared d) (chosen_of h) (Some place)
    → (AreSingle (map chosen_of rest) → IsNumber (spans_declared others) (map chosen_of rest) (Some behind)) → k ≡ (place + (d.extent * behind) % 2 ^ 64) % 2 ^ 64
    → AreSingle (map chosen_of (h ∷ rest)) → IsNumber (spans_declared (d ∷ others)) (map chosen_of (h ∷ rest)) (Some k)
numbered-one others rest d (chosen.At z) place behind k placed told is single =
    let h = told single in (
      joined (is_inside (span_declared d) (z ∷ [])) _ placed.0 h.0,
      number-behind (span_declared d) z h.1,
      one-more (span_declared d) z (spans_declared others) (map chosen_of rest) h.1 h.2,
      is ∙ ap (λ y. (y + (d.extent * behind) % 2 ^ 64) % 2 ^ 64) placed.1 ∙ ap (λ y. (nat_abs (z -ℤ d.lower) + (d.extent * y) % 2 ^ 64) % 2 ^ 64) h.3
          ∙ number-so (nat_abs (z -ℤ d.lower)) d.extent h.1,
    )
numbered-one others rest d (chosen.Range lower upper step) place behind k placed told is single = absurd single

pub numbered : (dims others : List Dimension) (all rest : List cell.Chosen) (d : Dimension) (h : cell.Chosen) (place behind k : ℕ) → dims ≡ d ∷ others → all ≡ h ∷ rest
    → IsPlaceIn (span_declared d) (chosen_of h) (Some place) → (AreSingle (map chosen_of rest) → IsNumber (spans_declared others) (map chosen_of rest) (Some behind))
    → k ≡ (place + (d.extent * behind) % 2 ^ 64) % 2 ^ 64 → AreSingle (map chosen_of all) → IsNumber (spans_declared dims) (map chosen_of all) (Some k)
numbered dims others all rest d h place behind k e f placed told is =
    subst (λ ds. AreSingle (map chosen_of all) → IsNumber (spans_declared ds) (map chosen_of all) (Some k)) (sym e)
    (subst (λ cs. AreSingle (map chosen_of cs) → IsNumber (spans_declared (d ∷ others)) (map chosen_of cs) (Some k)) (sym f)
    (numbered-one others rest d h place behind k placed told is))
