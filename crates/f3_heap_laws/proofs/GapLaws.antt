-- The gaps between the live blocks are the free blocks and the words behind all blocks.
use Rattle.std.proofs.Common.{◌≡◌, ◌≢◌, ℕ, ℤ, zero, suc, ◌+◌, ◌-◌, ◌<◌, ◌≤◌, Bool, true, false, cond, not, ◌&&◌, ◌||◌, nat_eq, nat_lt, nat_le, List, [], ◌∷◌, ◌++◌, map, length, get_or, refl, sym, ap, subst, ◌∙◌, arith, append-nil}
use Rattle.std.specs.Prelude.{None, Some}
use Rattle.std.specs.List.{filter, list_any, range_with_len}
use Rattle.std.specs.FinMap.{entries-from_sorted}
use Rattle.std.specs.Ordering.{nat_cmp}
use Rattle.std.proofs.lemmas.Bool.Decides.{nat_tests}
use Rattle.f3_heap_laws.specs.Account.{r}
use Rattle.f3_live_blocks.specs.Blocks.{Block}
use Rattle.f3_heap_laws.specs.Placed.{extent, named_from, live_from}
use Rattle.f3_heap_laws.specs.Segments.{Segment, Used, Free, seg_size, seg_block, live_segments, AreApart, ends_free, NoneFits}
use Rattle.f3_heap_laws.specs.Gaps.{places, lies_in, joined, runs_of, gaps, is_wide, first_word, first_wide}
use Rattle.f3_heap_laws.specs.FreeRuns.{run_of, free_runs}
use Rattle.f3_heap_laws.proofs.Placed.{named-sorted}
use Rattle.f3_heap_laws.proofs.Segs.{seg_positive, r-above}

-- the live blocks' places and sizes, where the segments begin at p
abbrev pub places_from : ℕ → List Segment → List (ℕ × ℕ)
places_from p [] = []
places_from p (Used ws pins ∷ ss) = (p, r (length ws)) ∷ places_from (p + r (length ws)) ss
places_from p (Free junk ∷ ss) = places_from (p + (length junk + 4)) ss

-- the words of the free blocks, and the n words behind all
abbrev pub free_from : ℕ → List Segment → ℕ → List ℕ
free_from p [] n = range_with_len p n
free_from p (Used ws pins ∷ ss) n = free_from (p + r (length ws)) ss n
free_from p (Free junk ∷ ss) n = range_with_len p (length junk + 4) ++ free_from (p + (length junk + 4)) ss n

back_zero : (p : ℕ) → p ≡ p + 0
back_zero p = omega arith

front_zero : (n : ℕ) → 0 + n ≡ n
front_zero n = omega arith

front_zero' : (n : ℕ) → 0 + n ≡ n
front_zero' n = omega arith

suc_plus : (m n : ℕ) → suc m + n ≡ suc (m + n)
suc_plus m n = omega arith

one_more : (p m : ℕ) → p + 1 + m ≡ p + suc m
one_more p m = omega arith

regroup : (a b n : ℕ) → a + b + n ≡ a + (b + n)
regroup a b n = omega arith

four_suc : (n : ℕ) → n + 4 ≡ suc (n + 3)
four_suc n = omega arith

le_true : (m n : ℕ) → m ≤ n → nat_le m n ≡ true
le_true m n h = grind (arith, nat_tests)

le_false : (m n : ℕ) → n < m → nat_le m n ≡ false
le_false m n h = grind (arith, nat_tests)

lt_true : (m n : ℕ) → m < n → nat_lt m n ≡ true
lt_true m n h = grind (arith, nat_tests)

lt_false : (m n : ℕ) → n ≤ m → nat_lt m n ≡ false
lt_false m n h = grind (arith, nat_tests)

eq_true : (n : ℕ) → nat_eq n n ≡ true
eq_true n = grind (arith, nat_tests)

eq_false : (m n : ℕ) → m ≢ n → nat_eq m n ≡ false
eq_false m n h = grind (arith, nat_tests)

both_true : (a b : Bool) → a ≡ true → b ≡ true → (a && b) ≡ true
both_true a b p q = ap (λ t. t && b) p ∙ q

first_false : (a b : Bool) → a ≡ false → (a && b) ≡ false
first_false a b p = ap (λ t. t && b) p

second_false : (a b : Bool) → b ≡ false → (a && b) ≡ false
second_false true b q = q
second_false false b q = refl

plus_less : (p : ℕ) → (p + 1) - 1 ≡ p
plus_less p = omega arith

shift : (p k : ℕ) → (p + 1) + k ≡ (p + k) + 1
shift p k = omega arith

named-places : (p : ℕ) (segs : List Segment) → map (λ (e : ℕ × Block). (e.0 - 1, r (length e.1.words))) (named_from seg_block seg_size (p + 1) segs) ≡ places_from p segs
named-places p [] = refl
named-places p (Used ws pins ∷ ss) = λ i. (plus_less p i, r (length ws)) ∷ (ap (λ k. map (λ (e : ℕ × Block). (e.0 - 1, r (length e.1.words))) (named_from seg_block seg_size k ss)) (shift p (r (length ws))) ∙ named-places (p + r (length ws)) ss) i
named-places p (Free junk ∷ ss) = ap (λ k. map (λ (e : ℕ × Block). (e.0 - 1, r (length e.1.words))) (named_from seg_block seg_size k ss)) (shift p (length junk + 4)) ∙ named-places (p + (length junk + 4)) ss

pub places-live : (segs : List Segment) → places (live_segments segs) ≡ places_from 0 segs
unfolding live_segments live_from
places-live segs = ap (map (λ (e : ℕ × Block). (e.0 - 1, r (length e.1.words)))) (entries-from_sorted nat_cmp (named_from seg_block seg_size 1 segs) (named-sorted seg_block seg_size seg_positive 1 segs)) ∙ named-places 0 segs

range-append : (p m n : ℕ) → range_with_len p (m + n) ≡ range_with_len p m ++ range_with_len (p + m) n
range-append p zero n = (λ i. range_with_len (back_zero p i) (front_zero n i))
range-append p (suc m) n = ap (range_with_len p) (suc_plus m n) ∙ ap (λ l. p ∷ l) (range-append (p + 1) m n ∙ ap (λ k. range_with_len (p + 1) m ++ range_with_len k n) (one_more p m))

in_block : (i p k : ℕ) → p ≤ i → i < p + k → lies_in i (p, k) ≡ true
in_block i p k h l = both_true _ _ (le_true p i h) (lt_true i (p + k) l)

past_block : (i p k : ℕ) → p + k ≤ i → lies_in i (p, k) ≡ false
past_block i p k h = second_false _ _ (lt_false i (p + k) h)

before_block : (i p k : ℕ) → i < p → lies_in i (p, k) ≡ false
before_block i p k h = first_false _ _ (le_false p i h)

-- before the segments no word lies in one of their blocks
none-before : (i p : ℕ) (segs : List Segment) → i < p → list_any (lies_in i) (places_from p segs) ≡ false
none-before i p [] h = refl
none-before i p (Used ws pins ∷ ss) h = ap (λ t. t || list_any (lies_in i) (places_from (p + r (length ws)) ss)) (before_block i p (r (length ws)) h) ∙ none-before i (p + r (length ws)) ss (omega arith)
none-before i p (Free junk ∷ ss) h = none-before i (p + (length junk + 4)) ss (omega arith)

filter-none : (f : ℕ → Bool) (p n : ℕ) → ((i : ℕ) → p ≤ i → i < p + n → f i ≡ false) → filter f (range_with_len p n) ≡ []
filter-none f p zero h = refl
filter-none f p (suc n) h = ap (λ t. cond t (p ∷ filter f (range_with_len (p + 1) n)) (filter f (range_with_len (p + 1) n))) (h p (omega arith) (omega arith)) ∙ filter-none f (p + 1) n (λ i a b. h i (omega arith) (omega arith))

filter-all : (f : ℕ → Bool) (p n : ℕ) → ((i : ℕ) → p ≤ i → i < p + n → f i ≡ true) → filter f (range_with_len p n) ≡ range_with_len p n
filter-all f p zero h = refl
filter-all f p (suc n) h = ap (λ t. cond t (p ∷ filter f (range_with_len (p + 1) n)) (filter f (range_with_len (p + 1) n))) (h p (omega arith) (omega arith)) ∙ ap (λ l. p ∷ l) (filter-all f (p + 1) n (λ i a b. h i (omega arith) (omega arith)))

filter-append : (f : ℕ → Bool) (xs ys : List ℕ) → filter f (xs ++ ys) ≡ filter f xs ++ filter f ys
filter-append f [] ys = refl
filter-append f (x ∷ xs) ys = elim (f x) as (λ t. cond t (x ∷ filter f (xs ++ ys)) (filter f (xs ++ ys)) ≡ cond t (x ∷ filter f xs) (filter f xs) ++ filter f ys) [ true ↦ ap (λ l. x ∷ l) (filter-append f xs ys) | false ↦ filter-append f xs ys ]

-- the words in no live block
pub free-words : (blocks : List (ℕ × ℕ)) (p n : ℕ) (segs : List Segment) → ((i : ℕ) → p ≤ i → list_any (lies_in i) blocks ≡ list_any (lies_in i) (places_from p segs))
    → filter (λ i. not (list_any (lies_in i) blocks)) (range_with_len p (extent seg_block seg_size segs + n)) ≡ free_from p segs n
free-words blocks p n [] same = ap (λ k. filter (λ i. not (list_any (lies_in i) blocks)) (range_with_len p k)) (front_zero' n) ∙ filter-all (λ i. not (list_any (lies_in i) blocks)) p n (λ i a b. ap not (same i a))
free-words blocks p n (Used ws pins ∷ ss) same =
    ap (λ k. filter (λ i. not (list_any (lies_in i) blocks)) (range_with_len p k)) (regroup (r (length ws)) (extent seg_block seg_size ss) n)
    ∙ ap (filter (λ i. not (list_any (lies_in i) blocks))) (range-append p (r (length ws)) (extent seg_block seg_size ss + n))
    ∙ filter-append (λ i. not (list_any (lies_in i) blocks)) (range_with_len p (r (length ws))) (range_with_len (p + r (length ws)) (extent seg_block seg_size ss + n))
    ∙ ap (λ l. l ++ filter (λ i. not (list_any (lies_in i) blocks)) (range_with_len (p + r (length ws)) (extent seg_block seg_size ss + n)))
    (filter-none (λ i. not (list_any (lies_in i) blocks)) p (r (length ws)) (λ i a b. ap not (same i a ∙ ap (λ t. t || list_any (lies_in i) (places_from (p + r (length ws)) ss)) (in_block i p (r (length ws)) a b))))
    ∙ free-words blocks (p + r (length ws)) n ss (λ i a. same i (omega arith) ∙ ap (λ t. t || list_any (lies_in i) (places_from (p + r (length ws)) ss)) (past_block i p (r (length ws)) a))
free-words blocks p n (Free junk ∷ ss) same =
    ap (λ k. filter (λ i. not (list_any (lies_in i) blocks)) (range_with_len p k)) (regroup (length junk + 4) (extent seg_block seg_size ss) n)
    ∙ ap (filter (λ i. not (list_any (lies_in i) blocks))) (range-append p (length junk + 4) (extent seg_block seg_size ss + n))
    ∙ filter-append (λ i. not (list_any (lies_in i) blocks)) (range_with_len p (length junk + 4)) (range_with_len (p + (length junk + 4)) (extent seg_block seg_size ss + n))
    ∙ (λ j. filter-all (λ i. not (list_any (lies_in i) blocks)) p (length junk + 4) (λ i a b. ap not (same i a ∙ none-before i (p + (length junk + 4)) ss b)) j
    ++ free-words blocks (p + (length junk + 4)) n ss (λ i a. same i (omega arith)) j)

-- the first number of a list is at least p
abbrev pub HeadAbove : ℕ → List ℕ → Type 0
HeadAbove p [] = Unit {0}
HeadAbove p (x ∷ xs) = p ≤ x

above_more : (p q : ℕ) (xs : List ℕ) → p ≤ q → HeadAbove q xs → HeadAbove p xs
above_more p q [] h a = tt
above_more p q (x ∷ xs) h a = omega arith

range_head : (p k : ℕ) (rest : List ℕ) → HeadAbove p (range_with_len p (k + 4) ++ rest)
range_head p k rest = subst (λ n. HeadAbove p (range_with_len p n ++ rest)) (sym (four_suc k)) (omega arith)

first-run : (x : ℕ) (runs : List (List ℕ)) (d : ℕ) (p : ℕ) → x ≢ p + 1 → joined p (joined x runs) ≡ (p ∷ []) ∷ joined x runs
first-run x [] d p ne = ap (λ t. cond t ((p ∷ x ∷ []) ∷ []) ((p ∷ []) ∷ (x ∷ []) ∷ [])) (eq_false x (p + 1) ne)
first-run x (run ∷ runs) d p ne =
    elim (nat_eq (get_or run 0 x) (x + 1)) as (λ t. joined p (cond t ((x ∷ run) ∷ runs) ((x ∷ []) ∷ run ∷ runs)) ≡ (p ∷ []) ∷ cond t ((x ∷ run) ∷ runs) ((x ∷ []) ∷ run ∷ runs)) [
      | true ↦ ap (λ t. cond t ((p ∷ x ∷ run) ∷ runs) ((p ∷ []) ∷ (x ∷ run) ∷ runs)) (eq_false x (p + 1) ne)
      | false ↦ ap (λ t. cond t ((p ∷ x ∷ []) ∷ run ∷ runs) ((p ∷ []) ∷ (x ∷ []) ∷ run ∷ runs)) (eq_false x (p + 1) ne)
    ]

runs-range : (p k : ℕ) (rest : List ℕ) → HeadAbove (p + k + 2) rest → runs_of (range_with_len p (suc k) ++ rest) ≡ range_with_len p (suc k) ∷ runs_of rest
runs-range p zero [] h = refl
runs-range p zero (x ∷ rest) h = first-run x (runs_of rest) 0 p (λ e. absurd (omega arith))
runs-range p (suc k) rest h =
    ap (joined p) (runs-range (p + 1) k rest (above_more (p + 1 + k + 2) (p + suc k + 2) rest (omega arith) h))
    ∙ ap (λ t. cond t ((p ∷ range_with_len (p + 1) (suc k)) ∷ runs_of rest) ((p ∷ []) ∷ range_with_len (p + 1) (suc k) ∷ runs_of rest)) (eq_true (p + 1))

free-above : (p : ℕ) (segs : List Segment) (n : ℕ) → HeadAbove p (free_from p segs n)
free-above p [] zero = tt
free-above p [] (suc n) = omega arith
free-above p (Used ws pins ∷ ss) n = above_more p (p + r (length ws)) (free_from (p + r (length ws)) ss n) (omega arith) (free-above (p + r (length ws)) ss n)
free-above p (Free junk ∷ ss) n = range_head p (length junk) (free_from (p + (length junk + 4)) ss n)

beyond : (p k n : ℕ) (ss : List Segment) → AreApart true ss → ends_free true ss ≡ false → HeadAbove (p + (k + 3) + 2) (free_from (p + (k + 4)) ss n)
beyond p k n [] a c = cc
beyond p k n (Used ws pins ∷ ss) a c = above_more (p + (k + 3) + 2) (p + (k + 4) + r (length ws)) (free_from (p + (k + 4) + r (length ws)) ss n) (omega (arith, r-above (length ws))) (free-above (p + (k + 4) + r (length ws)) ss n)
beyond p k n (Free junk ∷ ss) a c = absurd a

-- and they fall into those runs
pub free-runs : (b : Bool) (p n : ℕ) (segs : List Segment) → AreApart b segs → ends_free b segs ≡ false → runs_of (free_from p segs n) ≡ free_runs p segs n
free-runs b p zero [] a c = refl
free-runs b p (suc n) [] a c = ap runs_of (sym (append-nil (range_with_len p (suc n)))) ∙ runs-range p n [] tt
free-runs b p n (Used ws pins ∷ ss) a c = free-runs false (p + r (length ws)) n ss a c
free-runs true p n (Free junk ∷ ss) a c = absurd a
free-runs false p n (Free junk ∷ ss) a c =
    (λ i. runs_of (range_with_len p (four_suc (length junk) i) ++ free_from (p + (length junk + 4)) ss n))
    ∙ runs-range p (length junk + 3) (free_from (p + (length junk + 4)) ss n) (beyond p (length junk) n ss a c)
    ∙ (λ i. range_with_len p (sym (four_suc (length junk)) i) ∷ free-runs true (p + (length junk + 4)) n ss a c i)

-- the gaps of a region with these segments in front
pub gaps-segments : (segs : List Segment) (end size : ℕ) → end ≡ extent seg_block seg_size segs → end ≤ size → AreApart false segs → ends_free false segs ≡ false → gaps (places (live_segments segs)) size ≡ free_runs 0 segs (size - end)
gaps-segments segs end size e le a c =
    (λ i. gaps (places-live segs i) (let z : size ≡ extent seg_block seg_size segs + (size - end) = omega arith in z i))
    ∙ ap runs_of (free-words (places_from 0 segs) 0 (size - end) segs (λ i h. refl))
    ∙ free-runs false 0 (size - end) segs a c

length-range : (p n : ℕ) → length (range_with_len p n) ≡ n
length-range p zero = refl
length-range p (suc n) = ap suc (length-range (p + 1) n)

wide_range : (w p n : ℕ) → is_wide w (range_with_len p n) ≡ nat_le (r w) n
wide_range w p n = ap (nat_le (r w)) (length-range p n)

first_range : (p n : ℕ) → first_word (range_with_len p (n + 4)) ≡ Some p
first_range p n = ap (λ k. first_word (range_with_len p k)) (four_suc n)

or_false : (b : Bool) → (b || false) ≡ b
or_false true = refl
or_false false = refl

-- where no free block is wide enough, the last run decides
pub lacking-any : (w p n : ℕ) (segs : List Segment) → NoneFits (r w) segs → list_any (is_wide w) (free_runs p segs n) ≡ nat_le (r w) n
lacking-any w p zero [] h = sym (le_false (r w) 0 (omega (arith, r-above w)))
lacking-any w p (suc n) [] h = or_false _ ∙ wide_range w p (suc n)
lacking-any w p n (Used ws pins ∷ ss) h = lacking-any w (p + r (length ws)) n ss h
lacking-any w p n (Free junk ∷ ss) h = ap (λ t. t || list_any (is_wide w) (free_runs (p + (length junk + 4)) ss n)) (wide_range w p (length junk + 4) ∙ le_false (r w) (length junk + 4) h.0) ∙ lacking-any w (p + (length junk + 4)) n ss h.1

pub lacking-first : (w p n : ℕ) (segs : List Segment) → NoneFits (r w) segs → r w ≤ n → first_wide w (free_runs p segs n) ≡ Some (p + extent seg_block seg_size segs)
lacking-first w p zero [] h le = absurd (omega (arith, r-above w))
lacking-first w p (suc n) [] h le = ap (λ t. cond t (Some p) None) (wide_range w p (suc n) ∙ le_true (r w) (suc n) le) ∙ ap Some (back_zero p)
lacking-first w p n (Used ws pins ∷ ss) h le = lacking-first w (p + r (length ws)) n ss h le ∙ ap Some (regroup p (r (length ws)) (extent seg_block seg_size ss))
lacking-first w p n (Free junk ∷ ss) h le =
    ap (λ t. cond t (first_word (range_with_len p (length junk + 4))) (first_wide w (free_runs (p + (length junk + 4)) ss n))) (wide_range w p (length junk + 4) ∙ le_false (r w) (length junk + 4) h.0)
    ∙ lacking-first w (p + (length junk + 4)) n ss h.1 le ∙ ap Some (regroup p (length junk + 4) (extent seg_block seg_size ss))

or_true : (b : Bool) → (b || true) ≡ true
or_true true = refl
or_true false = refl

-- where one is, the first such decides
pub fits-any : (w p n : ℕ) (front : List Segment) (junk : List ℤ) (back : List Segment) → r w ≤ length junk + 4 → list_any (is_wide w) (free_runs p (front ++ Free junk ∷ back) n) ≡ true
fits-any w p n [] junk back le = ap (λ t. t || list_any (is_wide w) (free_runs (p + (length junk + 4)) back n)) (wide_range w p (length junk + 4) ∙ le_true (r w) (length junk + 4) le)
fits-any w p n (Used ws pins ∷ front) junk back le = fits-any w (p + r (length ws)) n front junk back le
fits-any w p n (Free more ∷ front) junk back le = ap (λ t. is_wide w (range_with_len p (length more + 4)) || t) (fits-any w (p + (length more + 4)) n front junk back le) ∙ or_true _

pub fits-first : (w p n : ℕ) (front : List Segment) (junk : List ℤ) (back : List Segment) → NoneFits (r w) front → r w ≤ length junk + 4 → first_wide w (free_runs p (front ++ Free junk ∷ back) n) ≡ Some (p + extent seg_block seg_size front)
fits-first w p n [] junk back h le =
    ap (λ t. cond t (first_word (range_with_len p (length junk + 4))) (first_wide w (free_runs (p + (length junk + 4)) back n))) (wide_range w p (length junk + 4) ∙ le_true (r w) (length junk + 4) le)
    ∙ first_range p (length junk) ∙ ap Some (back_zero p)
fits-first w p n (Used ws pins ∷ front) junk back h le = fits-first w (p + r (length ws)) n front junk back h le ∙ ap Some (regroup p (r (length ws)) (extent seg_block seg_size front))
fits-first w p n (Free more ∷ front) junk back h le =
    ap (λ t. cond t (first_word (range_with_len p (length more + 4))) (first_wide w (free_runs (p + (length more + 4)) (front ++ Free junk ∷ back) n))) (wide_range w p (length more + 4) ∙ le_false (r w) (length more + 4) h.0)
    ∙ fits-first w (p + (length more + 4)) n front junk back h.1 le ∙ ap Some (regroup p (length more + 4) (extent seg_block seg_size front))
