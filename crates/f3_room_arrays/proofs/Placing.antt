-- Words that are copied, element by element.
use Rattle.std.proofs.Common.{◌≡◌, ◌≢◌, ◌∙◌, sym, ap, subst, refl, ℕ, zero, suc, ◌+◌, ◌-◌, ◌*◌, ◌^◌, ◌<◌, ◌≤◌, List, [], ◌∷◌, ◌++◌, length, take, drop, arith}
use Rattle.std.specs.Prelude.{ℤ, pos, ◌+ℤ◌, ◌*ℤ◌, ◌≤ℤ◌, unsigned_abs}
use Rattle.std.specs.List.{All}
use Rattle.std.proofs.lemmas.Int.{ints}
use Rattle.std.proofs.lemmas.List.{drop-drop, length-take-le}
use Rattle.std.proofs.Common.{length-drop}
use Rattle.f3_live_blocks.specs.Blocks.{Live, IsLive, words_of, with_words}
use Rattle.f3_live_blocks.proofs.Laws.{live-insert, words-insert_other}
use Rattle.f3_desc.specs.Descriptor.{progression}
use Rattle.f3_desc.specs.Inner.Congruent.{IsCongruent}
use Rattle.f3_desc.proofs.Progressions.{step-more}
use Rattle.f3_objects.specs.Holds.{with_words_at}
use Rattle.f3_objects.proofs.Spans.{length-written, written_behind, written_same}
use Rattle.f3_objects.proofs.Writes.{with_words_same, with_words_again, words-with}
use Rattle.f3_room_arrays.specs.Words.{words_at, copied, IsInside, AreInside}
use Rattle.f3_room_arrays.proofs.Numbers.{progression-append, progression-length, congruent-is}

-- ---- what holds of each

module _ {X : Type 0} (P : X → Type 0) where
  pub all-first : (x : X) (xs : List X) → All P (x ∷ xs) → P x
  all-first x xs all = all 0 x (omega arith)

  pub all-rest : (x : X) (xs : List X) → All P (x ∷ xs) → All P xs
  all-rest x xs all k d lt = all (suc k) d (omega arith)

  pub all-more : (x : X) (xs : List X) → P x → All P xs → All P (x ∷ xs)
  all-more x xs here rest zero d lt = here
  all-more x xs here rest (suc k) d lt = rest k d (omega arith)

  pub all-none : All P []
  all-none k d lt = absurd (omega arith)

  pub all-front : (xs ys : List X) → All P (xs ++ ys) → All P xs
  all-front [] ys all = all-none
  all-front (x ∷ xs) ys all = all-more x xs (all-first x (xs ++ ys) all) (all-front xs ys (all-rest x (xs ++ ys) all))

  pub all-back : (xs ys : List X) → All P (xs ++ ys) → All P ys
  all-back [] ys all = all
  all-back (x ∷ xs) ys all = all-back xs ys (all-rest x (xs ++ ys) all)

-- ---- places of a run

pub inside-nth : (size n : ℕ) (z k : ℤ) (count j : ℕ) → AreInside size n (progression z k count) → j < count → IsInside size n (z +ℤ (pos j *ℤ k))
inside-nth size n z k zero j all lt = absurd (omega arith)
inside-nth size n z k (suc count) zero all lt =
    let e : z ≡ z +ℤ (pos 0 *ℤ k) = omega (arith, ints) in
    subst (IsInside size n) e (all-first (IsInside size n) z (progression (z +ℤ k) k count) all)
inside-nth size n z k (suc count) (suc j) all lt =
    subst (IsInside size n) (step-more z k j) (inside-nth size n (z +ℤ k) k count j (all-rest (IsInside size n) z (progression (z +ℤ k) k count) all) (omega arith))

pub inside-place : (size n p : ℕ) (z : ℤ) → size < 2 ^ 64 → IsInside size n z → IsCongruent (pos p) z → p < 2 ^ 64 → pos p ≡ z
inside-place size n p z small inside near fits =
    let from = inside.from in
    let to = inside.to in
    congruent-is p z near fits from (omega (arith, ints))

pub inside-end : (size n p : ℕ) (z : ℤ) → IsInside size n z → pos p ≡ z → p + n ≤ size
inside-end size n p z inside e = let to = inside.to in omega (arith, ints)

pub inside-dense : (size n at count : ℕ) (k : ℤ) → k ≡ pos n → AreInside size n (progression (pos at) k count) → 0 < count → at + count * n ≤ size
inside-dense size n at zero k e all some = absurd (omega arith)
inside-dense size n at (suc count) k e all some =
    let last : IsInside size n (pos at +ℤ (pos count *ℤ pos n)) = subst (λ (z : ℤ). IsInside size n (pos at +ℤ (pos count *ℤ z))) e (inside-nth size n (pos at) k (suc count) count all (omega arith)) in
    let to : ((pos at +ℤ pos (count * n)) +ℤ pos n) ≤ℤ pos size = last.to in
    omega (arith, ints)

pub inside-wide : (size n : ℕ) (z k : ℤ) (count : ℕ) → AreInside size n (progression z k count) → 0 < count → n ≤ size
inside-wide size n z k count all some = let one = inside-nth size n z k count 0 all some in let from = one.from in let to = one.to in omega (arith, ints)

-- the first ones
pub front-inside : (size n : ℕ) (z k : ℤ) (few count : ℕ) → few ≤ count → AreInside size n (progression z k count) → AreInside size n (progression z k few)
front-inside size n z k few count le all =
    let both : few + (count - few) ≡ count = omega arith in
    let split = progression-append z k few (count - few) ∙ ap (progression z k) both in
    all-front (IsInside size n) (progression z k few) (progression (z +ℤ (pos few *ℤ k)) k (count - few)) (subst (AreInside size n) (sym split) all)

pub progression-more : (p w : ℤ) (k : ℕ) → progression p w (k + 1) ≡ progression p w k ++ (p +ℤ (pos k *ℤ w)) ∷ []
progression-more p w k = sym (progression-append p w k 1)

-- ---- words

pub copied-append : (n : ℕ) (us ws es bs cs ds : List ℤ) → length es ≡ length cs → copied n us ws (es ++ bs) (cs ++ ds) ≡ copied n (copied n us ws es cs) ws bs ds
copied-append n us ws [] bs [] ds e = refl
copied-append n us ws [] bs (c ∷ cs) ds e = absurd (omega arith)
copied-append n us ws (a ∷ es) bs [] ds e = absurd (omega arith)
copied-append n us ws (a ∷ es) bs (c ∷ cs) ds e = copied-append n (with_words_at us (unsigned_abs a) (words_at ws c n)) ws es bs cs ds (omega arith)

pub words-long : (ws : List ℤ) (f n : ℕ) → f + n ≤ length ws → length (take n (drop f ws)) ≡ n
words-long ws f n le = length-take-le n (drop f ws) (let e = length-drop f ws in omega arith)

pub inside-abs : (size n : ℕ) (z : ℤ) → IsInside size n z → unsigned_abs z + n ≤ size
inside-abs size n z inside = let from = inside.from in let to = inside.to in omega (arith, ints)

one-long : (n : ℕ) (us ws : List ℤ) (z y : ℤ) → IsInside (length us) n z → IsInside (length ws) n y → length (with_words_at us (unsigned_abs z) (words_at ws y n)) ≡ length us
one-long n us ws z y inside source =
    let e = words-long ws (unsigned_abs y) n (inside-abs (length ws) n y source) in
    let a = inside-abs (length us) n z inside in
    length-written us (unsigned_abs z) (words_at ws y n) (omega arith)

pub copied-long : (n : ℕ) (us ws zs ys : List ℤ) → AreInside (length us) n zs → AreInside (length ws) n ys → length (copied n us ws zs ys) ≡ length us
copied-long n us ws [] ys inside source = refl
copied-long n us ws (z ∷ zs) [] inside source = refl
copied-long n us ws (z ∷ zs) (y ∷ ys) inside source =
    let one = one-long n us ws z y (all-first (IsInside (length us) n) z zs inside) (all-first (IsInside (length ws) n) y ys source) in
    copied-long n (with_words_at us (unsigned_abs z) (words_at ws y n)) ws zs ys
    (subst (λ (k : ℕ). AreInside k n zs) (sym one) (all-rest (IsInside (length us) n) z zs inside)) (all-rest (IsInside (length ws) n) y ys source) ∙ one

-- elements that follow on one another are copied at once
take-none : (k : ℕ) → take k (let l : List ℤ = [] in l) ≡ []
take-none zero = refl
take-none (suc k) = refl

take-more : (n k : ℕ) (xs : List ℤ) → take n xs ++ take k (drop n xs) ≡ take (n + k) xs
take-more zero k xs = let e : k ≡ 0 + k = omega arith in ap (λ j. take j xs) e
take-more (suc n) k [] = take-none k ∙ sym (take-none (suc n + k))
take-more (suc n) k (x ∷ xs) = let e : suc (n + k) ≡ suc n + k = omega arith in ap (λ l. x ∷ l) (take-more n k xs) ∙ ap (λ j. take j (x ∷ xs)) e

pub copied-dense : (n count : ℕ) (us ws : List ℤ) (t f : ℕ) → t + count * n ≤ length us → f + count * n ≤ length ws
    → copied n us ws (progression (pos t) (pos n) count) (progression (pos f) (pos n) count) ≡ with_words_at us t (take (count * n) (drop f ws))
copied-dense n zero us ws t f to from = sym (written_same us t [] refl) ∙ (let e : 0 ≡ 0 * n = omega arith in ap (λ (k : ℕ). with_words_at us t (take k (drop f ws))) e)
copied-dense n (suc count) us ws t f to from =
    let size : suc count * n ≡ n + count * n = omega arith in
    let here : List ℤ = take n (drop f ws) in
    let long : length here ≡ n = words-long ws f n (omega arith) in
    let next : List ℤ = with_words_at us t here in
    let kept : length next ≡ length us = length-written us t here (omega arith) in
    let rest = copied-dense n count next ws (t + n) (f + n) (omega arith) (omega arith) in
    let at : t + n ≡ t + length here = omega arith in
    let words : here ++ take (count * n) (drop (f + n) ws) ≡ take (suc count * n) (drop f ws) =
    ap (λ (l : List ℤ). here ++ take (count * n) l) (sym (drop-drop n f ws)) ∙ take-more n (count * n) (drop f ws) ∙ ap (λ (k : ℕ). take k (drop f ws)) (sym size) in
    rest ∙ ap (λ (k : ℕ). with_words_at next k (take (count * n) (drop (f + n) ws))) at
    ∙ written_behind us t here (take (count * n) (drop (f + n) ws)) (omega arith) ∙ ap (with_words_at us t) words

-- ---- blocks

-- so far words of one block stand at places of another
pub record IsCopied (old now : Live) (from to n : ℕ) (zs ys : List ℤ) : Type 0 where
  pub is : now ≡ with_words old to (copied n (words_of old to) (words_of old from) zs ys)

pub copied-none : (m : Live) (from to n : ℕ) → IsLive m to → IsCopied m m from to n [] []
copied-none m from to n live = record { is = sym (with_words_same m to live) }

pub copied-source : (old now : Live) (from to n : ℕ) (zs ys : List ℤ) → from ≢ to → IsCopied old now from to n zs ys → words_of now from ≡ words_of old from
copied-source old now from to n zs ys ne c = ap (λ (m : Live). words_of m from) c.is ∙ words-insert_other old to _ from ne

pub copied-target : (old now : Live) (from to n : ℕ) (zs ys : List ℤ) → IsCopied old now from to n zs ys → words_of now to ≡ copied n (words_of old to) (words_of old from) zs ys
copied-target old now from to n zs ys c = ap (λ (m : Live). words_of m to) c.is ∙ words-with old to _

pub copied-live : (old now : Live) (from to n : ℕ) (zs ys : List ℤ) (b : ℕ) → IsCopied old now from to n zs ys → IsLive old b → IsLive now b
copied-live old now from to n zs ys b c live = subst (λ (m : Live). IsLive m b) (sym c.is) (live-insert old to _ b live)

pub copied-more : (old mid new : Live) (from to n : ℕ) (es bs cs ds : List ℤ) → from ≢ to → length es ≡ length cs → IsCopied old mid from to n es cs
    → IsCopied mid new from to n bs ds → IsCopied old new from to n (es ++ bs) (cs ++ ds)
copied-more old mid new from to n es bs cs ds ne e c d =
    let us : List ℤ = words_of old to in
    let ws : List ℤ = words_of old from in
    let same : copied n (words_of mid to) (words_of mid from) bs ds ≡ copied n us ws (es ++ bs) (cs ++ ds) =
    ap (λ (l : List ℤ). copied n l (words_of mid from) bs ds) (copied-target old mid from to n es cs c)
    ∙ ap (λ (l : List ℤ). copied n (copied n us ws es cs) l bs ds) (copied-source old mid from to n es cs ne c)
    ∙ sym (copied-append n us ws es bs cs ds e) in
    record { is = d.is ∙ ap (with_words mid to) same ∙ ap (λ (m : Live). with_words m to (copied n us ws (es ++ bs) (cs ++ ds))) c.is ∙ with_words_again old to _ _ }

pub copied-one : (m new : Live) (from to n t f : ℕ) (z y : ℤ) → pos t ≡ z → pos f ≡ y → new ≡ with_words m to (with_words_at (words_of m to) t (take n (drop f (words_of m from))))
    → IsCopied m new from to n (z ∷ []) (y ∷ [])
copied-one m new from to n t f z y e g is =
    subst (λ (w : ℤ). IsCopied m new from to n (w ∷ []) (y ∷ [])) e (subst (λ (w : ℤ). IsCopied m new from to n (pos t ∷ []) (w ∷ [])) g (record { is = is }))

-- where nothing is to be copied
pub copied-nothing : (m : Live) (from to n count : ℕ) (z y k l : ℤ) → IsLive m to → count ≡ 0 → m ≡ with_words m to (copied n (words_of m to) (words_of m from) (progression z k count) (progression y l count))
copied-nothing m from to n count z y k l live e =
    subst (λ (c : ℕ). m ≡ with_words m to (copied n (words_of m to) (words_of m from) (progression z k c) (progression y l c))) (sym e) (copied-none m from to n live).is

-- so many elements, and one more
pub run-more : (old mid new : Live) (from to n k t f : ℕ) (z y a b : ℤ) → from ≢ to → IsCopied old mid from to n (progression z a k) (progression y b k)
    → pos t ≡ z +ℤ (pos k *ℤ a) → pos f ≡ y +ℤ (pos k *ℤ b) → new ≡ with_words mid to (with_words_at (words_of mid to) t (take n (drop f (words_of mid from))))
    → IsCopied old new from to n (progression z a (k + 1)) (progression y b (k + 1))
run-more old mid new from to n k t f z y a b ne c to_at from_at is =
    let both = copied-more old mid new from to n (progression z a k) ((z +ℤ (pos k *ℤ a)) ∷ []) (progression y b k) ((y +ℤ (pos k *ℤ b)) ∷ []) ne
    (progression-length z a k ∙ sym (progression-length y b k)) c (copied-one mid new from to n t f (z +ℤ (pos k *ℤ a)) (y +ℤ (pos k *ℤ b)) to_at from_at is) in
    subst (λ (l : List ℤ). IsCopied old new from to n l (progression y b (k + 1))) (sym (progression-more z a k))
    (subst (λ (l : List ℤ). IsCopied old new from to n (progression z a k ++ (z +ℤ (pos k *ℤ a)) ∷ []) l) (sym (progression-more y b k)) both)
