-- Words are spread over the objects of an area.
use Rattle.std.proofs.Common.{◌≡◌, ◌≢◌, ◌∙◌, sym, ap, subst, refl, ℕ, zero, suc, ◌+◌, ◌/◌, ◌%◌, ◌^◌, ◌<◌, ◌≤◌, List, [], ◌∷◌, ◌++◌, length, set, arith, w64, FitsSigned}
use Rattle.std.specs.Prelude.{ℤ, pos, neg_ℤ, ◌+ℤ◌, ◌*ℤ◌, unsigned_abs}
use Rattle.std.specs.List.{flat_map}
use Rattle.std.specs.Int.{cast_unsigned}
use Rattle.std.proofs.lemmas.Int.{ints}
use Rattle.std.proofs.lemmas.List.{append_assoc, take_all}
use Rattle.f3_live_blocks.specs.Blocks.{Live, IsLive, words_of, with_words}
use Rattle.f3_live_blocks.proofs.Laws.{live-insert, words-insert_other}
use Rattle.f3_desc.specs.declared.descriptor.Dim.{Dim}
use Rattle.f3_desc.specs.Descriptor.{progression}
use Rattle.f3_desc.specs.Inner.Congruent.{IsCongruent}
use Rattle.f3_desc.proofs.Progressions.{step-more}
use Rattle.f3_objects.specs.Holds.{with_words_at}
use Rattle.f3_objects.proofs.Spans.{length-written, written_same}
use Rattle.f3_objects.proofs.Writes.{words-with, with_words_same, with_words_again, set_written}
use Rattle.f3_room_arrays.specs.Words.{copied, IsInside, AreInside, places_from}
use Rattle.f3_room_arrays.proofs.Numbers.{along, places-cons, bits-congruent}
use Rattle.f3_room_arrays.proofs.Placing.{all-first, all-rest, all-front, all-back, all-more, all-none, inside-abs, inside-place}
use Rattle.f3_word_copies.specs.declared.spreading.Source.{Source}
use Rattle.f3_word_copies.specs.declared.spreading.Source.TheVariants.{Word, Block, Initial}
use Rattle.f3_word_copies.specs.Spread.{source_words, IsSource, spread_over}

-- ---- places by those of the dimensions before the last

abbrev pub rows : List Dim → ℤ → ℤ → ℕ → List ℤ
rows ds z k zero = []
rows ds z k (suc n) = places_from z ds ++ rows ds (z +ℤ k) k n

rows-append : (ds : List Dim) (z k : ℤ) (n : ℕ) → rows ds z k (suc n) ≡ rows ds z k n ++ places_from (z +ℤ (pos n *ℤ k)) ds
rows-append ds z k zero =
    let e : z +ℤ (pos 0 *ℤ k) ≡ z = omega (arith, ints) in
    append-none (places_from z ds) ∙ ap (λ y. places_from y ds) (sym e)
  where
    append-none : (xs : List ℤ) → xs ++ [] ≡ xs
    append-none [] = refl
    append-none (x ∷ xs) = ap (λ l. x ∷ l) (append-none xs)
rows-append ds z k (suc n) =
    ap (λ l. places_from z ds ++ l) (rows-append ds (z +ℤ k) k n)
    ∙ sym (append_assoc (places_from z ds) (rows ds (z +ℤ k) k n) (places_from ((z +ℤ k) +ℤ (pos n *ℤ k)) ds))
    ∙ ap (λ y. (places_from z ds ++ rows ds (z +ℤ k) k n) ++ places_from y ds) (step-more z k n)

pub rows-next : (ds : List Dim) (z k : ℤ) (n : ℕ) → rows ds z k (n + 1) ≡ rows ds z k n ++ places_from (z +ℤ (pos n *ℤ k)) ds
rows-next ds z k n = let e : n + 1 ≡ suc n = omega arith in ap (rows ds z k) e ∙ rows-append ds z k n

rows-none : (z k : ℤ) (n : ℕ) → progression z k n ≡ rows [] z k n
rows-none z k zero = refl
rows-none z k (suc n) = let e : z ≡ z +ℤ pos 0 = omega (arith, ints) in ap (λ y. y ∷ progression (z +ℤ k) k n) e ∙ ap (λ l. (z +ℤ pos 0) ∷ l) (rows-none (z +ℤ k) k n)

flat-append : (f : ℤ → List ℤ) (xs ys : List ℤ) → flat_map f (xs ++ ys) ≡ flat_map f xs ++ flat_map f ys
flat-append f [] ys = refl
flat-append f (x ∷ xs) ys = ap (λ l. f x ++ l) (flat-append f xs ys) ∙ sym (append_assoc (f x) (flat_map f xs) (flat_map f ys))

rows-cons : (d : Dim) (ds : List Dim) (z k : ℤ) (n : ℕ) → flat_map (along d) (rows ds z k n) ≡ rows (d ∷ ds) z k n
rows-cons d ds z k zero = refl
rows-cons d ds z k (suc n) =
    flat-append (along d) (places_from z ds) (rows ds (z +ℤ k) k n)
    ∙ ap (λ l. l ++ flat_map (along d) (rows ds (z +ℤ k) k n)) (sym (places-cons z d ds))
    ∙ ap (λ l. places_from z (d ∷ ds) ++ l) (rows-cons d ds (z +ℤ k) k n)

one-flat : (f : ℤ → List ℤ) (z : ℤ) → flat_map f (z ∷ []) ≡ f z
one-flat f z = append-none (f z)
  where
    append-none : (xs : List ℤ) → xs ++ [] ≡ xs
    append-none [] = refl
    append-none (x ∷ xs) = ap (λ l. x ∷ l) (append-none xs)

pub places-behind : (z : ℤ) (ds : List Dim) (d : Dim) → places_from z (ds ++ d ∷ []) ≡ rows ds z d.stride d.extent
places-behind z [] d =
    let e : z +ℤ pos 0 ≡ z = omega (arith, ints) in
    places-cons z d [] ∙ one-flat (along d) (z +ℤ pos 0) ∙ ap (along d) e ∙ rows-none z d.stride d.extent
places-behind z (e ∷ ds) d = places-cons z e (ds ++ d ∷ []) ∙ ap (flat_map (along e)) (places-behind z ds d) ∙ rows-cons e ds z d.stride d.extent

-- ---- words

pub spread-append : (us ws zs ys : List ℤ) → spread_over us ws (zs ++ ys) ≡ spread_over (spread_over us ws zs) ws ys
spread-append us ws [] ys = refl
spread-append us ws (z ∷ zs) ys = spread-append (with_words_at us (unsigned_abs z) ws) ws zs ys

pub spread-long : (us ws zs : List ℤ) → AreInside (length us) (length ws) zs → length (spread_over us ws zs) ≡ length us
spread-long us ws [] inside = refl
spread-long us ws (z ∷ zs) inside =
    let one = length-written us (unsigned_abs z) ws (inside-abs (length us) (length ws) z (all-first (IsInside (length us) (length ws)) z zs inside)) in
    spread-long (with_words_at us (unsigned_abs z) ws) ws zs
    (subst (λ (k : ℕ). AreInside k (length ws) zs) (sym one) (all-rest (IsInside (length us) (length ws)) z zs inside)) ∙ one

-- so far words stand at these places
pub record IsSpread (old now : Live) (block : ℕ) (ws zs : List ℤ) : Type 0 where
  pub is : now ≡ with_words old block (spread_over (words_of old block) ws zs)

module _ (old : Live) (block : ℕ) (live : IsLive old block) (ws : List ℤ) where
  pub spread-none : IsSpread old old block ws []
  spread-none = record { is = sym (with_words_same old block live) }

  pub spread-words : (now : Live) (zs : List ℤ) → IsSpread old now block ws zs → words_of now block ≡ spread_over (words_of old block) ws zs
  spread-words now zs so = ap (λ (m : Live). words_of m block) so.is ∙ words-with old block _

  pub spread-live : (now : Live) (zs : List ℤ) → IsSpread old now block ws zs → (b : ℕ) → IsLive old b → IsLive now b
  spread-live now zs so b is = subst (λ (m : Live). IsLive m b) (sym so.is) (live-insert old block _ b is)

  pub spread-other : (now : Live) (zs : List ℤ) → IsSpread old now block ws zs → (b : ℕ) → b ≢ block → words_of now b ≡ words_of old b
  spread-other now zs so b ne = ap (λ (m : Live). words_of m b) so.is ∙ words-insert_other old block _ b ne

  pub spread-more : (mid now : Live) (zs ys : List ℤ) → IsSpread old mid block ws zs → now ≡ with_words mid block (spread_over (words_of mid block) ws ys) → IsSpread old now block ws (zs ++ ys)
  spread-more mid now zs ys so is = record {
    is = is ∙ ap (λ us. with_words mid block (spread_over us ws ys)) (spread-words mid zs so)
        ∙ ap (λ (m : Live). with_words m block (spread_over (spread_over (words_of old block) ws zs) ws ys)) so.is
        ∙ with_words_again old block _ _ ∙ ap (with_words old block) (sym (spread-append (words_of old block) ws zs ys));
  }

-- ---- sources

module _ (old now : Live) (block : ℕ) (live : IsLive old block) (ws zs : List ℤ) (so : IsSpread old now block ws zs) where
  pub source-stays : (source : Source) → IsSource old block source → source_words now source ≡ source_words old source
  source-stays (Word z) is = refl
  source-stays (Block b) is = spread-other old block live ws now zs so b is.1
  source-stays (Initial types of) is = refl

  pub source-is : (source : Source) → IsSource old block source → IsSource now block source
  source-is (Word z) is = is
  source-is (Initial types of) is = is
  source-is (Block b) is = (spread-live old block live ws now zs so b is.0, is.1)

-- ---- one object

pub one-word : (us : List ℤ) (at : ℕ) (z : ℤ) → at < length us → set us at z ≡ with_words_at us at (z ∷ [])
one-word us at z lt =
    let none : at + 0 ≡ at = omega arith in
    let same : with_words_at us at [] ≡ us = written_same us at [] refl in
    ap (λ (k : ℕ). set us k z) (sym none) ∙ ap (λ xs. set xs (at + 0) z) (sym same) ∙ set_written us at 0 [] z refl (omega arith)

pub one-copied : (us ws : List ℤ) (at n : ℕ) → n ≡ length ws → copied n us ws (pos at ∷ []) (pos 0 ∷ []) ≡ with_words_at us at ws
one-copied us ws at n e = ap (with_words_at us at) (take_all n ws (omega arith))

-- ---- places up to multiples of 2 ^ 64

pub congruent-behind : (at bits : ℕ) (z : ℤ) → FitsSigned w64 z → bits ≡ cast_unsigned w64 z → IsCongruent (pos ((at + bits) % 2 ^ 64)) (pos at +ℤ z)
congruent-behind at bits z fits e = rest at bits z (subst (λ (n : ℕ). IsCongruent (pos n) z) (sym e) (bits-congruent z fits))
  where
    rest : (at bits : ℕ) (z : ℤ) → IsCongruent (pos bits) z → IsCongruent (pos ((at + bits) % 2 ^ 64)) (pos at +ℤ z)
    rest at bits z c = record { turns = c.turns +ℤ neg_ℤ (pos ((at + bits) / 2 ^ 64)); same = omega (arith, ints) }

pub congruent-then : (at next : ℕ) (z y k : ℤ) → IsCongruent (pos at) z → IsCongruent (pos next) (pos at +ℤ k) → y ≡ z +ℤ k → IsCongruent (pos next) y
congruent-then at next z y k c d e = record { turns = c.turns +ℤ d.turns; same = omega (arith, ints) }
  where
    a : pos at ≡ z +ℤ (c.turns *ℤ pos (2 ^ 64))
    a = c.same

    b : pos next ≡ (pos at +ℤ k) +ℤ (d.turns *ℤ pos (2 ^ 64))
    b = d.same

pub congruent-none : (at : ℕ) (z k : ℤ) → IsCongruent (pos at) z → IsCongruent (pos at) (z +ℤ (pos 0 *ℤ k))
congruent-none at z k near = let e : z ≡ z +ℤ (pos 0 *ℤ k) = omega (arith, ints) in subst (IsCongruent (pos at)) e near

pub step-on : (z k : ℤ) (n : ℕ) → z +ℤ (pos (n + 1) *ℤ k) ≡ (z +ℤ (pos n *ℤ k)) +ℤ k
step-on z k n = omega (arith, ints)

-- ---- a single object

module _ (size n at : ℕ) (z : ℤ) (near : IsCongruent (pos at) z) (small : at < 2 ^ 64) (few : size < 2 ^ 64) where
  here-is : IsInside size n (z +ℤ pos 0) → pos at ≡ z +ℤ pos 0
  here-is inside = let e : z ≡ z +ℤ pos 0 = omega (arith, ints) in inside-place size n at (z +ℤ pos 0) few inside (subst (IsCongruent (pos at)) e near) small

  pub single-within : (ds : List Dim) → length ds ≡ 0 → AreInside size n (places_from z ds) → at + n ≤ size
  single-within [] e inside =
      let one = all-first (IsInside size n) (z +ℤ pos 0) [] inside in
      let same : unsigned_abs (z +ℤ pos 0) ≡ at = ap unsigned_abs (sym (here-is one)) in
      let w = inside-abs size n (z +ℤ pos 0) one in
      omega arith
  single-within (d ∷ ds) e inside = absurd (omega arith)

  pub single-spread : (us ws : List ℤ) (ds : List Dim) → length ds ≡ 0 → AreInside size n (places_from z ds) → with_words_at us at ws ≡ spread_over us ws (places_from z ds)
  single-spread us ws [] e inside =
      let one = all-first (IsInside size n) (z +ℤ pos 0) [] inside in
      ap (λ k. with_words_at us k ws) (ap unsigned_abs (here-is one))
  single-spread us ws (d ∷ ds) e inside = absurd (omega arith)

-- ---- many

row-inside : (size n : ℕ) (ds : List Dim) (z k : ℤ) (count j : ℕ) → AreInside size n (rows ds z k count) → j < count → AreInside size n (places_from (z +ℤ (pos j *ℤ k)) ds)
row-inside size n ds z k zero j inside lt = absurd (omega arith)
row-inside size n ds z k (suc count) zero inside lt =
    let e : z ≡ z +ℤ (pos 0 *ℤ k) = omega (arith, ints) in
    subst (λ y. AreInside size n (places_from y ds)) e (all-front (IsInside size n) (places_from z ds) (rows ds (z +ℤ k) k count) inside)
row-inside size n ds z k (suc count) (suc j) inside lt =
    subst (λ y. AreInside size n (places_from y ds)) (step-more z k j)
    (row-inside size n ds (z +ℤ k) k count j (all-back (IsInside size n) (places_from z ds) (rows ds (z +ℤ k) k count) inside) (omega arith))

both-inside : (size n : ℕ) (xs ys : List ℤ) → AreInside size n xs → AreInside size n ys → AreInside size n (xs ++ ys)
both-inside size n [] ys a b = b
both-inside size n (x ∷ xs) ys a b = all-more (IsInside size n) x (xs ++ ys) (all-first (IsInside size n) x xs a) (both-inside size n xs ys (all-rest (IsInside size n) x xs a) b)

rows-front : (size n : ℕ) (ds : List Dim) (z k : ℤ) (count j : ℕ) → AreInside size n (rows ds z k count) → j ≤ count → AreInside size n (rows ds z k j)
rows-front size n ds z k count zero inside le = all-none (IsInside size n)
rows-front size n ds z k zero (suc j) inside le = absurd (omega arith)
rows-front size n ds z k (suc count) (suc j) inside le =
    both-inside size n (places_from z ds) (rows ds (z +ℤ k) k j) (all-front (IsInside size n) (places_from z ds) (rows ds (z +ℤ k) k count) inside)
    (rows-front size n ds (z +ℤ k) k count j (all-back (IsInside size n) (places_from z ds) (rows ds (z +ℤ k) k count) inside) (omega arith))

module _ (old : Live) (block : ℕ) (live : IsLive old block) (source : Source) (is : IsSource old block source) (all others : List Dim) (last : Dim) (split : all ≡ others ++ last ∷ []) (z : ℤ) (j : ℕ) where
  abbrev us : List ℤ
  us = words_of old block

  abbrev ws : List ℤ
  ws = source_words old source

  abbrev z' : ℤ
  z' = z +ℤ (pos j *ℤ last.stride)

  rows-are : places_from z all ≡ rows others z last.stride last.extent
  rows-are = ap (places_from z) split ∙ places-behind z others last

  module _ (inside : AreInside (length us) (length ws) (places_from z all)) (mid : Live) (so : IsSpread old mid block ws (rows others z last.stride j)) where
    rows-inside : AreInside (length us) (length ws) (rows others z last.stride last.extent)
    rows-inside = subst (AreInside (length us) (length ws)) rows-are inside

    mid-size : j ≤ last.extent → length (words_of mid block) ≡ length us
    mid-size le = ap length (spread-words old block live ws mid _ so) ∙ spread-long us ws (rows others z last.stride j) (rows-front (length us) (length ws) others z last.stride last.extent j rows-inside le)

    mid-source : source_words mid source ≡ ws
    mid-source = source-stays old mid block live ws _ so source is

    pub next-live : IsLive mid block
    next-live = spread-live old block live ws mid _ so block live

    pub next-source : IsSource mid block source
    next-source = source-is old mid block live ws _ so source is

    pub next-inside : j < last.extent → AreInside (length (words_of mid block)) (length (source_words mid source)) (places_from z' others)
    next-inside lt =
        subst (λ (k : ℕ). AreInside k (length (source_words mid source)) (places_from z' others)) (sym (mid-size (omega arith)))
        (subst (λ (l : List ℤ). AreInside (length us) (length l) (places_from z' others)) (sym mid-source) (row-inside (length us) (length ws) others z last.stride last.extent j rows-inside lt))

    pub next-spread : (new : Live) → new ≡ with_words mid block (spread_over (words_of mid block) (source_words mid source) (places_from z' others)) → IsSpread old new block ws (rows others z last.stride (j + 1))
    next-spread new e =
        subst (λ (l : List ℤ). IsSpread old new block ws l) (sym (rows-next others z last.stride j))
        (spread-more old block live ws mid new (rows others z last.stride j) (places_from z' others) so (e ∙ ap (λ (l : List ℤ). with_words mid block (spread_over (words_of mid block) l (places_from z' others))) mid-source))

    pub last-spread : last.extent ≡ j → mid ≡ with_words old block (spread_over us ws (places_from z all))
    last-spread e = so.is ∙ ap (λ (l : List ℤ). with_words old block (spread_over us ws l)) (ap (rows others z last.stride) (sym e) ∙ sym rows-are)

pub congruent-same : (n : ℕ) → IsCongruent (pos n) (pos n)
congruent-same n = record { turns = pos 0; same = omega (arith, ints) }
