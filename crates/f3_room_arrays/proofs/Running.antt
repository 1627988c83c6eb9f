-- The elements of an array, run by run.
use Rattle.std.proofs.Common.{◌≡◌, ◌∙◌, sym, ap, subst, refl, ℕ, zero, suc, ◌+◌, ◌-◌, ◌*◌, ◌^◌, ◌<◌, ◌≤◌, List, [], ◌∷◌, ◌++◌, length, take, drop, arith, append-nil}
use Rattle.std.specs.Prelude.{Some, ℤ, pos, ◌+ℤ◌, ◌*ℤ◌, ◌≤ℤ◌, slice_get, unsigned_abs}
use Rattle.std.specs.List.{All, flat_map}
use Rattle.std.proofs.lemmas.Int.{ints}
use Rattle.std.proofs.lemmas.List.{append_assoc, length-take-le, take_all, take-append-drop}
use Rattle.std.proofs.Math.Nat.{mul-le-mul_right, mul_comm}
use Rattle.f3_desc.specs.declared.descriptor.Descriptor.{Descriptor}
use Rattle.f3_desc.specs.declared.descriptor.Dim.{Dim}
use Rattle.f3_desc.specs.Inner.Congruent.{IsCongruent}
use Rattle.f3_desc.specs.Descriptor.{progression, places}
use Rattle.f3_desc.specs.Laws.{size_of}
use Rattle.f3_live_blocks.specs.Blocks.{Live, words_of}
use Rattle.f3_objects.proofs.Spans.{written_same}
use Rattle.f3_objects.specs.Holds.{with_words_at}
use Rattle.f3_room_arrays.specs.Words.{places_from, words_at, copied, IsInside, AreInside}
use Rattle.f3_room_arrays.specs.Inner.Numbers.{away}
use Rattle.f3_room_arrays.proofs.Numbers.{along, places-many, place-number, length-flat_map, progression-length, progression-append}
use Rattle.f3_room_arrays.proofs.Placing.{all-front, all-back, all-more, all-none, inside-nth, inside-place, front-inside, IsCopied, copied-target, copied-long, copied-more}

-- ---- lists

flat_map-append : {X Y : Type 0} (f : X → List Y) (xs ys : List X) → flat_map f (xs ++ ys) ≡ flat_map f xs ++ flat_map f ys
flat_map-append f [] ys = refl
flat_map-append f (x ∷ xs) ys = ap (λ l. f x ++ l) (flat_map-append f xs ys) ∙ sym (append_assoc (f x) (flat_map f xs) (flat_map f ys))

pub take-next : {X : Type 0} (xs : List X) (k : ℕ) (x : X) → slice_get xs k ≡ Some x → take (k + 1) xs ≡ take k xs ++ x ∷ []
take-next [] k x e = absurd cc
take-next (y ∷ xs) zero x e = let same : y ≡ x = cc in ap (λ z. z ∷ []) same
take-next (y ∷ xs) (suc k) x e = let n : suc k + 1 ≡ suc (k + 1) = omega arith in ap (λ j. take j (y ∷ xs)) n ∙ ap (λ l. y ∷ l) (take-next xs k x e)

all-flat_map-at : {X Y : Type 0} (P : Y → Type 0) (f : X → List Y) (xs : List X) (k : ℕ) (x : X) → slice_get xs k ≡ Some x → All P (flat_map f xs) → All P (f x)
all-flat_map-at P f [] k x e all = absurd cc
all-flat_map-at {X} P f (y ∷ xs) zero x e all = let same : y ≡ x = cc in subst (λ (z : X). All P (f z)) same (all-front P (f y) (flat_map f xs) all)
all-flat_map-at P f (y ∷ xs) (suc k) x e all = all-flat_map-at P f xs k x e (all-back P (f y) (flat_map f xs) all)

-- ---- runs

module _ (a : Descriptor) (d : Dim) (ds : List Dim) (split : places a ≡ flat_map (along d) (places_from (pos a.offset) ds)) where
  -- where the run of a number begins, and the places of those before
  abbrev pub start : ℕ → ℤ
  start k = pos a.offset +ℤ away ds k

  abbrev pub so_far : ℕ → List ℤ
  so_far k = flat_map (along d) (take k (places_from (pos a.offset) ds))

  pub total-many : length (places a) ≡ d.extent * size_of ds
  total-many = ap length split ∙ length-flat_map (along d) d.extent (places_from (pos a.offset) ds) (λ p. progression-length p d.stride d.extent)
      ∙ ap (λ (n : ℕ). d.extent * n) (places-many (pos a.offset) ds)

  pub so_far-long : (k : ℕ) → k ≤ size_of ds → length (so_far k) ≡ k * d.extent
  so_far-long k le =
      let few : length (take k (places_from (pos a.offset) ds)) ≡ k = length-take-le k (places_from (pos a.offset) ds) (let e = places-many (pos a.offset) ds in omega arith) in
      length-flat_map (along d) d.extent (take k (places_from (pos a.offset) ds)) (λ p. progression-length p d.stride d.extent)
      ∙ ap (λ (n : ℕ). d.extent * n) few ∙ mul_comm d.extent k

  pub so_far-more : (k : ℕ) → k < size_of ds → so_far (k + 1) ≡ so_far k ++ along d (start k)
  so_far-more k lt =
      ap (flat_map (along d)) (take-next (places_from (pos a.offset) ds) k (start k) (place-number (pos a.offset) ds k lt))
      ∙ flat_map-append (along d) (take k (places_from (pos a.offset) ds)) (start k ∷ [])
      ∙ ap (λ (l : List ℤ). so_far k ++ l) (append-nil (along d (start k)))

  pub so_far-all : (k : ℕ) → k ≡ size_of ds → so_far k ≡ places a
  so_far-all k e =
      ap (flat_map (along d)) (take_all k (places_from (pos a.offset) ds) (let m = places-many (pos a.offset) ds in omega arith)) ∙ sym split

  pub run-inside : (size n k : ℕ) → AreInside size n (places a) → k < size_of ds → AreInside size n (along d (start k))
  run-inside size n k all lt =
      all-flat_map-at (IsInside size n) (along d) (places_from (pos a.offset) ds) k (start k) (place-number (pos a.offset) ds k lt) (subst (AreInside size n) split all)

  pub start-is : (size n k p : ℕ) → size < 2 ^ 64 → AreInside size n (places a) → k < size_of ds → 0 < d.extent → IsCongruent (pos p) (start k) → p < 2 ^ 64 → pos p ≡ start k
  start-is size n k p small all lt some near fits =
      let here = inside-nth size n (start k) d.stride d.extent 0 (run-inside size n k all lt) some in
      let same : start k +ℤ (pos 0 *ℤ d.stride) ≡ start k = none (start k) d.stride in
      inside-place size n p (start k) small (subst (IsInside size n) same here) near fits
    where
      none : (x y : ℤ) → x +ℤ (pos 0 *ℤ y) ≡ x
      none x y = omega (arith, ints)

  pub some-runs : (n limit : ℕ) → 0 < n → 0 < d.extent → length (places a) * n < limit → size_of ds < limit
  some-runs n limit words some lt = fewer d.extent (size_of ds) (length (places a)) n limit words some total-many lt
    where
      fewer : (e s t n limit : ℕ) → 0 < n → 0 < e → t ≡ e * s → t * n < limit → s < limit
      fewer zero s t n limit words some e lt = absurd (omega arith)
      fewer (suc e) s t zero limit words some g lt = absurd (omega arith)
      fewer (suc e) s t (suc n) limit words some g lt = omega arith

-- ---- places one behind another

line-more : (z w : ℤ) (k e : ℕ) → progression z w ((k + 1) * e) ≡ progression z w (k * e) ++ progression (z +ℤ (pos (k * e) *ℤ w)) w e
line-more z w k e = let many : (k + 1) * e ≡ k * e + e = omega arith in ap (progression z w) many ∙ sym (progression-append z w (k * e) e)

line-place : (base at k e n : ℕ) → at ≡ base + k * e * n → pos at ≡ pos base +ℤ (pos (k * e) *ℤ pos n)
line-place base at k e n is = sum base at (k * e * n) is
  where
    sum : (b a x : ℕ) → a ≡ b + x → pos a ≡ pos b +ℤ pos x
    sum b a x is = omega (arith, ints)

pub line-inside : (size n base total : ℕ) → base + total * n ≤ size → AreInside size n (progression (pos base) (pos n) total)
line-inside size n base zero le = all-none (IsInside size n)
line-inside size n base (suc total) le =
    let next : pos base +ℤ pos n ≡ pos (base + n) = omega (arith, ints) in
    all-more (IsInside size n) (pos base) (progression (pos base +ℤ pos n) (pos n) total) (record { from = omega (arith, ints); to = here base n (total * n) size (omega arith) })
    (subst (λ (z : ℤ). AreInside size n (progression z (pos n) total)) (sym next) (line-inside size n (base + n) total (omega arith)))
  where
    here : (b n r size : ℕ) → b + n + r ≤ size → (pos b +ℤ pos n) ≤ℤ pos size
    here b n r size le = omega (arith, ints)

-- the same place again and again
pub same-inside : (size n base total : ℕ) → base + n ≤ size → AreInside size n (progression (pos base) (pos 0) total)
same-inside size n base zero le = all-none (IsInside size n)
same-inside size n base (suc total) le =
    let next : pos base +ℤ pos 0 ≡ pos base = omega (arith, ints) in
    all-more (IsInside size n) (pos base) (progression (pos base +ℤ pos 0) (pos 0) total) (record { from = omega (arith, ints); to = omega (arith, ints) })
    (subst (λ (z : ℤ). AreInside size n (progression z (pos 0) total)) (sym next) (same-inside size n base total le))

-- a part of them
pub part-inside : (size n base step at k e s total : ℕ) → total ≡ e * s → k < s → at ≡ base + k * e * step → AreInside size n (progression (pos base) (pos step) total) → AreInside size n (progression (pos at) (pos step) e)
part-inside size n base step at k e s total many lt is all =
    let le : (k + 1) * e ≤ s * e = mul-le-mul_right e (omega arith) in
    let swap : e * s ≡ s * e = mul_comm e s in
    let rest : (k * e + e) + (total - (k * e + e)) ≡ total = omega arith in
    let split = progression-append (pos base) (pos step) (k * e + e) (total - (k * e + e)) ∙ ap (progression (pos base) (pos step)) rest in
    let front = all-front (IsInside size n) (progression (pos base) (pos step) (k * e + e)) _ (subst (AreInside size n) (sym split) all) in
    let back = all-back (IsInside size n) (progression (pos base) (pos step) (k * e)) _ (subst (AreInside size n) (sym (progression-append (pos base) (pos step) (k * e) e)) front) in
    subst (λ (z : ℤ). AreInside size n (progression z (pos step) e)) (sym (line-place base at k e step is)) back

pub part-ends : (base step at k e s total size : ℕ) → total ≡ e * s → k < s → at ≡ base + k * e * step → base + total * step ≤ size → at + e * step ≤ size
part-ends base step at k e s total size many lt is le =
    let rows : (k + 1) * e ≤ s * e = mul-le-mul_right e (omega arith) in
    let swap : e * s ≡ s * e = mul_comm e s in
    let words : (k + 1) * e * step ≤ total * step = mul-le-mul_right step (omega arith) in
    let each : (k + 1) * e * step ≡ k * e * step + e * step = spread k e step in
    omega arith
  where
    spread : (k e n : ℕ) → (k + 1) * e * n ≡ k * e * n + e * n
    spread k e n = omega arith

-- ---- where nothing is copied

pub copied-zero : (n : ℕ) (us ws zs ys : List ℤ) → n ≡ 0 → copied n us ws zs ys ≡ us
copied-zero n us ws [] ys e = refl
copied-zero n us ws (z ∷ zs) [] e = refl
copied-zero n us ws (z ∷ zs) (y ∷ ys) e =
    let none : words_at ws y n ≡ [] = ap (words_at ws y) e in
    copied-zero n (with_words_at us (unsigned_abs z) (words_at ws y n)) ws zs ys e ∙ ap (with_words_at us (unsigned_abs z)) none ∙ written_same us (unsigned_abs z) [] refl

pub copied-few : (n : ℕ) (us ws zs ys : List ℤ) → length zs ≡ 0 → copied n us ws zs ys ≡ us
copied-few n us ws [] ys e = refl
copied-few n us ws (z ∷ zs) ys e = absurd (omega arith)

-- ---- one run more

module _ (old mid new : Live) (a : Descriptor) (d : Dim) (ds : List Dim) (split : places a ≡ flat_map (along d) (places_from (pos a.offset) ds)) (b n base step at p k : ℕ) (lt : k < size_of ds)
    (start_is : pos p ≡ start a d ds split k) (at_is : at ≡ base + k * d.extent * step) where
  -- the places of this run
  run_is : along d (pos p) ≡ along d (start a d ds split k)
  run_is = ap (along d) start_is

  line_is : progression (pos at) (pos step) d.extent ≡ progression (pos base +ℤ (pos (k * d.extent) *ℤ pos step)) (pos step) d.extent
  line_is = ap (λ (z : ℤ). progression z (pos step) d.extent) (line-place base at k d.extent step at_is)

  lengths : length (progression (pos base) (pos step) (k * d.extent)) ≡ length (so_far a d ds split k)
  lengths = progression-length (pos base) (pos step) (k * d.extent) ∙ sym (so_far-long a d ds split k (omega arith))

  pub gathered-more : (a.block ≡ b → ⊥) → IsCopied old mid a.block b n (progression (pos base) (pos step) (k * d.extent)) (so_far a d ds split k)
      → IsCopied mid new a.block b n (progression (pos at) (pos step) d.extent) (along d (pos p))
      → IsCopied old new a.block b n (progression (pos base) (pos step) ((k + 1) * d.extent)) (so_far a d ds split (k + 1))
  gathered-more ne before run =
      let here = subst (λ (l : List ℤ). IsCopied mid new a.block b n (progression (pos base +ℤ (pos (k * d.extent) *ℤ pos step)) (pos step) d.extent) l) run_is
      (subst (λ (l : List ℤ). IsCopied mid new a.block b n l (along d (pos p))) line_is run) in
      let both = copied-more old mid new a.block b n (progression (pos base) (pos step) (k * d.extent)) _ (so_far a d ds split k) _ ne lengths before here in
      subst (λ (l : List ℤ). IsCopied old new a.block b n l (so_far a d ds split (k + 1))) (sym (line-more (pos base) (pos step) k d.extent))
      (subst (λ (l : List ℤ). IsCopied old new a.block b n (progression (pos base) (pos step) (k * d.extent) ++ progression (pos base +ℤ (pos (k * d.extent) *ℤ pos step)) (pos step) d.extent) l) (sym (so_far-more a d ds split k lt)) both)

  pub scattered-more : (b ≡ a.block → ⊥) → IsCopied old mid b a.block n (so_far a d ds split k) (progression (pos base) (pos step) (k * d.extent))
      → IsCopied mid new b a.block n (along d (pos p)) (progression (pos at) (pos step) d.extent)
      → IsCopied old new b a.block n (so_far a d ds split (k + 1)) (progression (pos base) (pos step) ((k + 1) * d.extent))
  scattered-more ne before run =
      let here = subst (λ (l : List ℤ). IsCopied mid new b a.block n l (progression (pos base +ℤ (pos (k * d.extent) *ℤ pos step)) (pos step) d.extent)) run_is
      (subst (λ (l : List ℤ). IsCopied mid new b a.block n (along d (pos p)) l) line_is run) in
      let both = copied-more old mid new b a.block n (so_far a d ds split k) _ (progression (pos base) (pos step) (k * d.extent)) _ ne (sym lengths) before here in
      subst (λ (l : List ℤ). IsCopied old new b a.block n (so_far a d ds split (k + 1)) l) (sym (line-more (pos base) (pos step) k d.extent))
      (subst (λ (l : List ℤ). IsCopied old new b a.block n l (progression (pos base) (pos step) (k * d.extent) ++ progression (pos base +ℤ (pos (k * d.extent) *ℤ pos step)) (pos step) d.extent)) (sym (so_far-more a d ds split k lt)) both)

-- the places of runs so far are inside, and the lengths of blocks stay
module _ (old now : Live) (a : Descriptor) (d : Dim) (ds : List Dim) (split : places a ≡ flat_map (along d) (places_from (pos a.offset) ds)) where
  so_far-inside : (size n k : ℕ) → AreInside size n (places a) → AreInside size n (so_far a d ds split k)
  so_far-inside size n k all =
      all-front (IsInside size n) (so_far a d ds split k) (flat_map (along d) (drop k (places_from (pos a.offset) ds)))
      (subst (AreInside size n) (split ∙ ap (flat_map (along d)) (sym (take-append-drop k (places_from (pos a.offset) ds)))
      ∙ flat_map-append (along d) (take k (places_from (pos a.offset) ds)) (drop k (places_from (pos a.offset) ds))) all)

  line-front : (size n base step k : ℕ) → k < size_of ds → AreInside size n (progression (pos base) (pos step) (length (places a))) → AreInside size n (progression (pos base) (pos step) (k * d.extent))
  line-front size n base step k lt all =
      let le : k * d.extent ≤ size_of ds * d.extent = mul-le-mul_right d.extent (omega arith) in
      let swap : d.extent * size_of ds ≡ size_of ds * d.extent = mul_comm d.extent (size_of ds) in
      let many = total-many a d ds split in
      front-inside size n (pos base) (pos step) (k * d.extent) (length (places a)) (omega arith) all

  pub target-long : (from to n base step k : ℕ) → k < size_of ds → IsCopied old now from to n (progression (pos base) (pos step) (k * d.extent)) (so_far a d ds split k)
      → AreInside (length (words_of old to)) n (progression (pos base) (pos step) (length (places a))) → AreInside (length (words_of old from)) n (places a)
      → length (words_of now to) ≡ length (words_of old to)
  target-long from to n base step k lt c line all =
      ap length (copied-target old now from to n _ _ c)
      ∙ copied-long n (words_of old to) (words_of old from) _ _ (line-front (length (words_of old to)) n base step k lt line) (so_far-inside (length (words_of old from)) n k all)

  pub elements-long : (from to n base step k : ℕ) → k < size_of ds → IsCopied old now from to n (so_far a d ds split k) (progression (pos base) (pos step) (k * d.extent))
      → AreInside (length (words_of old to)) n (places a) → AreInside (length (words_of old from)) n (progression (pos base) (pos step) (length (places a)))
      → length (words_of now to) ≡ length (words_of old to)
  elements-long from to n base step k lt c all line =
      ap length (copied-target old now from to n _ _ c)
      ∙ copied-long n (words_of old to) (words_of old from) _ _ (so_far-inside (length (words_of old to)) n k all) (line-front (length (words_of old from)) n base step k lt line)

pub moved-inside : {size other : ℕ} {k l y z : ℤ} (n e : ℕ) → other ≡ size → y ≡ z → l ≡ k → AreInside size n (progression z k e) → AreInside other n (progression y l e)
moved-inside {size} {other} {k} {l} {y} {z} n e sizes places strides all =
    subst (λ (s : ℕ). AreInside s n (progression y l e)) (sym sizes) (subst (λ (w : ℤ). AreInside size n (progression w l e)) (sym places) (subst (λ (w : ℤ). AreInside size n (progression z w e)) (sym strides) all))

pub moved-copied : {old now : Live} {from to n : ℕ} {k l i j : ℤ} (z y : ℤ) (e : ℕ) → i ≡ k → j ≡ l → IsCopied old now from to n (progression z i e) (progression y j e) → IsCopied old now from to n (progression z k e) (progression y l e)
moved-copied {old} {now} {from} {to} {n} {k} {l} {i} {j} z y e first second c =
    subst (λ (w : ℤ). IsCopied old now from to n (progression z w e) (progression y l e)) first (subst (λ (w : ℤ). IsCopied old now from to n (progression z i e) (progression y w e)) second c)
