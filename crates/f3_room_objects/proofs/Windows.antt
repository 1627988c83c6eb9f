-- Words of a block from one on.
use Rattle.std.proofs.Common.{◌≡◌, ℕ, zero, suc, ◌+◌, ◌*◌, ◌<◌, ◌≤◌, ℤ, pos, List, [], ◌∷◌, ◌++◌, length, take, drop, get_or, refl, sym, ap, subst, ◌∙◌, arith}
use Rattle.std.specs.Prelude.{⊤}
use Rattle.f3_live_blocks.specs.Blocks.{Live, words_of}
use Rattle.f3_meaning_whole.specs.Value.{Span, count}
use Rattle.f3_objects.specs.Tree.{elements}
use Rattle.f3_objects.proofs.Unboxing.{whole_words}
use Rattle.f3_rooms.specs.Values.{word}
use Rattle.f3_rooms.specs.Sound.{TellBounds}
use Rattle.f3_room_objects.specs.Trees.{words_from, bounds_of}

pub length-words_from : (m : Live) (b o k : ℕ) → length (words_from m b o k) ≡ k
length-words_from m b o zero = refl
length-words_from m b o (suc k) = ap suc (length-words_from m b (o + 1) k)

pub words_from-append : (m : Live) (b o j k : ℕ) → words_from m b o (j + k) ≡ words_from m b o j ++ words_from m b (o + j) k
words_from-append m b o zero k =
    let e : o ≡ o + 0 = omega arith in
    let f : 0 + k ≡ k = omega arith in
    ap (words_from m b o) f ∙ ap (λ i. words_from m b i k) e
words_from-append m b o (suc j) k =
    let e : (o + 1) + j ≡ o + suc j = omega arith in
    let f : suc j + k ≡ suc (j + k) = omega arith in
    ap (words_from m b o) f ∙ ap (λ ws. word m b o ∷ ws) (words_from-append m b (o + 1) j k ∙ ap (λ i. words_from m b (o + 1) j ++ words_from m b i k) e)

drop_next : (ws : List ℤ) (o : ℕ) → o < length ws → drop o ws ≡ get_or ws o (pos 0) ∷ drop (o + 1) ws
drop_next [] o lt = absurd (omega arith)
drop_next (w ∷ ws) zero lt = refl
drop_next (w ∷ ws) (suc o) lt = let e : suc (o + 1) ≡ suc o + 1 = omega arith in drop_next ws o (omega arith) ∙ ap (λ i. get_or ws o (pos 0) ∷ drop i (w ∷ ws)) e

-- they are those of the list
pub window : (m : Live) (b o k : ℕ) → o + k ≤ length (words_of m b) → words_from m b o k ≡ take k (drop o (words_of m b))
window m b o zero long = refl
window m b o (suc k) long =
    ap (λ ws. word m b o ∷ ws) (window m b (o + 1) k (omega arith)) ∙ ap (take (suc k)) (sym (drop_next (words_of m b) o (omega arith)))

pub whole_block : (m : Live) (b : ℕ) → words_from m b 0 (length (words_of m b)) ≡ words_of m b
whole_block m b = window m b 0 (length (words_of m b)) (omega arith) ∙ whole_words (words_of m b) (length (words_of m b)) refl

-- ---- bounds

pub tell_bounds : (m : Live) (b o : ℕ) (ss : List Span) → TellBounds m b o ss → words_from m b o (2 * length ss) ≡ bounds_of ss
tell_bounds m b o [] tell = refl
tell_bounds m b o (s ∷ ss) tell =
    let e : 2 * suc (length ss) ≡ suc (suc (2 * length ss)) = omega arith in
    let f : (o + 1) + 1 ≡ o + 2 = omega arith in
    ap (words_from m b o) e
    ∙ ap (λ w. w ∷ words_from m b (o + 1) (suc (2 * length ss))) tell.0
    ∙ ap (λ w. s.lower ∷ w ∷ words_from m b ((o + 1) + 1) (2 * length ss)) tell.1
    ∙ ap (λ ws. s.lower ∷ pos s.extent ∷ ws) (ap (λ i. words_from m b i (2 * length ss)) f ∙ tell_bounds m b (o + 2) ss tell.2)

pub length-bounds : (ss : List Span) → length (bounds_of ss) ≡ 2 * length ss
length-bounds [] = refl
length-bounds (s ∷ ss) = let e = length-bounds ss in omega arith

pub elements-bounds : (ss : List Span) → elements (bounds_of ss) ≡ count ss
elements-bounds [] = refl
elements-bounds (s ∷ ss) = ap (λ n. s.extent * n) (elements-bounds ss)

-- ---- words at a place

abbrev pub WordsAre : Live → ℕ → ℕ → List ℤ → Type 0
WordsAre m b o [] = ⊤
WordsAre m b o (w ∷ ws) = (word m b o ≡ w) × WordsAre m b (o + 1) ws

pub are_front : (m : Live) (b o : ℕ) (xs ys : List ℤ) → WordsAre m b o (xs ++ ys) → WordsAre m b o xs
are_front m b o [] ys are = tt
are_front m b o (x ∷ xs) ys are = (are.0, are_front m b (o + 1) xs ys are.1)

pub are_back : (m : Live) (b o : ℕ) (xs ys : List ℤ) → WordsAre m b o (xs ++ ys) → WordsAre m b (o + length xs) ys
are_back m b o [] ys are = let e : o ≡ o + 0 = omega arith in subst (λ i. WordsAre m b i ys) e are
are_back m b o (x ∷ xs) ys are = let e : (o + 1) + length xs ≡ o + suc (length xs) = omega arith in subst (λ i. WordsAre m b i ys) e (are_back m b (o + 1) xs ys are.1)

pub are_from : (m : Live) (b o : ℕ) (ws : List ℤ) → WordsAre m b o ws → words_from m b o (length ws) ≡ ws
are_from m b o [] are = refl
are_from m b o (w ∷ ws) are = ap (λ v. v ∷ words_from m b (o + 1) (length ws)) are.0 ∙ ap (λ vs. w ∷ vs) (are_from m b (o + 1) ws are.1)

pub from_are : (m : Live) (b o : ℕ) (ws : List ℤ) → words_from m b o (length ws) ≡ ws → WordsAre m b o ws
from_are m b o [] e = tt
from_are m b o (w ∷ ws) e = (ap (λ vs. get_or vs 0 (pos 0)) e, from_are m b (o + 1) ws (ap (drop 1) e))
