-- Lookups in the blocks of cells that lie one after another.
use Rattle.std.proofs.Common.{◌≡◌, ◌≢◌, ℕ, ◌+◌, ◌<◌, ◌≤◌, List, [], ◌∷◌, ◌++◌, length, map, cond, true, false, Bool, T, ◌&&◌, refl, sym, ap, subst, ◌∙◌, arith}
use Rattle.std.specs.Prelude.{Option, None, Some}
use Rattle.std.specs.Ordering.{nat_cmp, eq_by_cmp, is_eq, is_lt}
use Rattle.std.specs.FinMap.{get, insert, remove, same_map, get-from_sorted, entries-from_sorted, get-insert, get-remove, nat_cmp-IsAntisymmetric}
use Rattle.std.specs.FinMap.Entries.{find, is_sorted, below_all}
use Rattle.std.specs.Cmp.{nat_cmp_total, ranked, nat_cmp_is}
use Rattle.std.proofs.Common.{Less, Equal, Greater}
use Rattle.std.specs.List.{sum_by}
use Rattle.std.proofs.lemmas.List.Sums.{sum_by-cons}
use Rattle.f3_live_blocks.specs.Blocks.{Block}
use Rattle.f3_live_blocks.proofs.Names.{same-is, same-self, same-apart}
use Rattle.f3_heap_laws.specs.Account.{r, used_by}
use Rattle.f3_heap_laws.specs.Placed.{with_named, extent, named_from, live_from}

unfoldable pub or_else : Option Block → Option Block → Option Block
or_else None o = o
or_else (Some b) o = Some b

nothing_first : (o : Option Block) → or_else None o ≡ o
unfolding or_else
nothing_first o = refl

unfoldable pub block_used : Option Block → ℕ
block_used None = 0
block_used (Some b) = r (length b.words)

both : (a b : Bool) → T a → T b → T (a && b)
both true b p q = q
both false b p q = p

lt_test : (x y : ℕ) → x < y → T (is_lt (nat_cmp x y))
lt_test x y h = subst (λ o. T (is_lt o)) (nat_cmp_is x y Less h) tt

pub find-append : (q : ℕ) (es fs : List (ℕ × Block)) → find nat_cmp q (es ++ fs) ≡ or_else (find nat_cmp q es) (find nat_cmp q fs)
unfolding or_else
find-append q [] fs = refl
find-append q (e ∷ es) fs =
    elim (eq_by_cmp nat_cmp q e.0) as (λ b. cond b (Some e.1) (find nat_cmp q (es ++ fs)) ≡ or_else (cond b (Some e.1) (find nat_cmp q es)) (find nat_cmp q fs)) [
      | true ↦ refl
      | false ↦ find-append q es fs
    ]

pub or_else-none : (o : Option Block) → or_else o None ≡ o
unfolding or_else
or_else-none None = refl
or_else-none (Some b) = refl

module _ {A : Type 0} (content : A → Option Block) (size : A → ℕ) (positive : (x : A) → 0 < size x) where
  pub extent-append : (xs ys : List A) → extent content size (xs ++ ys) ≡ extent content size xs + extent content size ys
  extent-append [] ys = omega arith
  extent-append (x ∷ xs) ys = omega (arith, extent-append xs ys)

  with_named-append : (o : Option Block) (p : ℕ) (es fs : List (ℕ × Block)) → with_named o p (es ++ fs) ≡ with_named o p es ++ fs
  with_named-append None p es fs = refl
  with_named-append (Some b) p es fs = refl

  pub named-append : (p : ℕ) (xs ys : List A) → named_from content size p (xs ++ ys) ≡ named_from content size p xs ++ named_from content size (p + extent content size xs) ys
  named-append p [] ys = ap (λ k. named_from content size k ys) (omega arith)
  named-append p (x ∷ xs) ys =
      ap (with_named (content x) p) (named-append (p + size x) xs ys
      ∙ ap (λ k. named_from content size (p + size x) xs ++ named_from content size k ys) (omega arith))
      ∙ with_named-append (content x) p _ _

  below_with : (o : Option Block) (q p : ℕ) (es : List (ℕ × Block)) → q < p → T (below_all nat_cmp q es) → T (below_all nat_cmp q (with_named o p es))
  below_with None q p es h t = t
  below_with (Some b) q p es h t = both _ _ (lt_test q p h) t

  below_named : (q p : ℕ) (xs : List A) → q < p → T (below_all nat_cmp q (named_from content size p xs))
  below_named q p [] h = tt
  below_named q p (x ∷ xs) h = below_with (content x) q p _ h (below_named q (p + size x) xs (omega arith))

  sorted_with : (o : Option Block) (p : ℕ) (es : List (ℕ × Block)) → T (below_all nat_cmp p es) → T (is_sorted nat_cmp es) → T (is_sorted nat_cmp (with_named o p es))
  sorted_with None p es b s = s
  sorted_with (Some _) p es b s = both _ _ b s

  pub named-sorted : (p : ℕ) (xs : List A) → T (is_sorted nat_cmp (named_from content size p xs))
  named-sorted p [] = tt
  named-sorted p (x ∷ xs) = sorted_with (content x) p _ (let h : 0 < size x = positive x in below_named p (p + size x) xs (omega arith)) (named-sorted (p + size x) xs)

  find_with : (o : Option Block) (q p : ℕ) (es : List (ℕ × Block)) → q ≢ p → find nat_cmp q (with_named o p es) ≡ find nat_cmp q es
  find_with None q p es ne = refl
  find_with (Some b) q p es ne = ap (λ t. cond t (Some b) (find nat_cmp q es)) (same-apart q p ne)

  -- a name outside the cells is none of theirs
  pub find-before : (q p : ℕ) (xs : List A) → q < p → find nat_cmp q (named_from content size p xs) ≡ None
  find-before q p [] h = refl
  find-before q p (x ∷ xs) h = find_with (content x) q p _ (omega arith) ∙ find-before q (p + size x) xs (omega arith)

  pub find-past : (q p : ℕ) (xs : List A) → p + extent content size xs ≤ q → find nat_cmp q (named_from content size p xs) ≡ None
  find-past q p [] h = refl
  find-past q p (x ∷ xs) h = find_with (content x) q p _ (let s : 0 < size x = positive x in omega arith) ∙ find-past q (p + size x) xs (omega arith)

  find_at : (o : Option Block) (p : ℕ) (es : List (ℕ × Block)) → find nat_cmp p es ≡ None → find nat_cmp p (with_named o p es) ≡ o
  find_at None p es e = e
  find_at (Some b) p es e = ap (λ t. cond t (Some b) (find nat_cmp p es)) (same-self p)

  -- the name of the first cell
  pub find-first : (p : ℕ) (x : A) (xs : List A) → find nat_cmp p (named_from content size p (x ∷ xs)) ≡ content x
  find-first p x xs = find_at (content x) p _ (let s : 0 < size x = positive x in find-before p (p + size x) xs (omega arith))

  pub find-other : (q p : ℕ) (x : A) (xs : List A) → q ≢ p → find nat_cmp q (named_from content size p (x ∷ xs)) ≡ find nat_cmp q (named_from content size (p + size x) xs)
  find-other q p x xs ne = find_with (content x) q p _ ne

  pub get-live : (p : ℕ) (xs : List A) (q : ℕ) → get (live_from content size p xs) q ≡ find nat_cmp q (named_from content size p xs)
  unfolding live_from
  get-live p xs q = get-from_sorted nat_cmp (named_from content size p xs) q (named-sorted p xs)

  -- the name of a cell
  pub get-at : (p : ℕ) (xs : List A) (x : A) (ys : List A) (q : ℕ) → q ≡ p + extent content size xs → get (live_from content size p (xs ++ x ∷ ys)) q ≡ content x
  get-at p xs x ys q e =
      get-live p (xs ++ x ∷ ys) q
      ∙ ap (find nat_cmp q) (named-append p xs (x ∷ ys))
      ∙ find-append q _ _
      ∙ ap (λ o. or_else o (find nat_cmp q (named_from content size (p + extent content size xs) (x ∷ ys)))) (find-past q p xs (omega arith))
      ∙ nothing_first _
      ∙ subst (λ k. find nat_cmp q (named_from content size k (x ∷ ys)) ≡ content x) e (find-first q x ys)

  -- two lists of cells with the same blocks, but for one
  pub live-same : (p : ℕ) (xs ys : List A) → ((q : ℕ) → find nat_cmp q (named_from content size p ys) ≡ find nat_cmp q (named_from content size p xs)) → live_from content size p ys ≡ live_from content size p xs
  live-same p xs ys same = same_map nat_cmp_total nat_cmp-IsAntisymmetric _ _ (λ q. get-live p ys q ∙ same q ∙ sym (get-live p xs q))

  pub live-insert : (p : ℕ) (xs ys : List A) (b : ℕ) (k : Block) → ((q : ℕ) → find nat_cmp q (named_from content size p ys) ≡ cond (eq_by_cmp nat_cmp q b) (Some k) (find nat_cmp q (named_from content size p xs))) → live_from content size p ys ≡ insert (live_from content size p xs) b k
  live-insert p xs ys b k same = same_map nat_cmp_total nat_cmp-IsAntisymmetric _ _ (λ q. get-live p ys q ∙ same q ∙ ap (cond (eq_by_cmp nat_cmp q b) (Some k)) (sym (get-live p xs q)) ∙ sym (get-insert nat_cmp_total (live_from content size p xs) b k q))

  pub live-remove : (p : ℕ) (xs ys : List A) (b : ℕ) → ((q : ℕ) → find nat_cmp q (named_from content size p ys) ≡ cond (eq_by_cmp nat_cmp q b) None (find nat_cmp q (named_from content size p xs))) → live_from content size p ys ≡ remove (live_from content size p xs) b
  live-remove p xs ys b same = same_map nat_cmp_total nat_cmp-IsAntisymmetric _ _ (λ q. get-live p ys q ∙ same q ∙ ap (cond (eq_by_cmp nat_cmp q b) None) (sym (get-live p xs q)) ∙ sym (get-remove nat_cmp_total (live_from content size p xs) b q))

  -- a lookup among three parts
  pub find-parts : (q p : ℕ) (xs ms ys : List A) → find nat_cmp q (named_from content size p (xs ++ (ms ++ ys)))
      ≡ or_else (find nat_cmp q (named_from content size p xs)) (or_else (find nat_cmp q (named_from content size (p + extent content size xs) ms)) (find nat_cmp q (named_from content size (p + extent content size xs + extent content size ms) ys)))
  find-parts q p xs ms ys =
      ap (find nat_cmp q) (named-append p xs (ms ++ ys)) ∙ find-append q _ _
      ∙ ap (or_else (find nat_cmp q (named_from content size p xs))) (ap (find nat_cmp q) (named-append (p + extent content size xs) ms ys) ∙ find-append q _ _)

  -- the middle part is replaced by another, which ends where it ended unless nothing follows
  module _ (p : ℕ) (xs ms ns ys : List A) (ends : named_from content size (p + extent content size xs + extent content size ns) ys ≡ named_from content size (p + extent content size xs + extent content size ms) ys) (b : ℕ) where
    rest_same : (q : ℕ) (o : Option Block) → or_else o (find nat_cmp q (named_from content size (p + extent content size xs + extent content size ns) ys)) ≡ or_else o (find nat_cmp q (named_from content size (p + extent content size xs + extent content size ms) ys))
    rest_same q o = ap (λ es. or_else o (find nat_cmp q es)) ends

    pub replace-insert : (k : Block) → p + extent content size xs ≤ b → ((q : ℕ) → find nat_cmp q (named_from content size (p + extent content size xs) ns) ≡ cond (eq_by_cmp nat_cmp q b) (Some k) (find nat_cmp q (named_from content size (p + extent content size xs) ms)))
        → live_from content size p (xs ++ (ns ++ ys)) ≡ insert (live_from content size p (xs ++ (ms ++ ys))) b k
    unfolding or_else
    replace-insert k from same = live-insert p (xs ++ (ms ++ ys)) (xs ++ (ns ++ ys)) b k (λ q.
        find-parts q p xs ns ys
        ∙ ap (λ o. or_else (find nat_cmp q (named_from content size p xs)) (or_else o (find nat_cmp q (named_from content size (p + extent content size xs + extent content size ns) ys)))) (same q)
        ∙ ap (or_else (find nat_cmp q (named_from content size p xs))) (rest_same q _)
        ∙ elim (eq_by_cmp nat_cmp q b) as (λ t. eq_by_cmp nat_cmp q b ≡ t → or_else (find nat_cmp q (named_from content size p xs)) (or_else (cond t (Some k) (find nat_cmp q (named_from content size (p + extent content size xs) ms))) (find nat_cmp q (named_from content size (p + extent content size xs + extent content size ms) ys)))
        ≡ cond t (Some k) (or_else (find nat_cmp q (named_from content size p xs)) (or_else (find nat_cmp q (named_from content size (p + extent content size xs) ms)) (find nat_cmp q (named_from content size (p + extent content size xs + extent content size ms) ys))))) [
          | true ↦ λ t. ap (λ o. or_else o (Some k)) (find-past q p xs (let e : q ≡ b = same-is q b t in omega arith))
          | false ↦ λ t. refl
        ] refl
        ∙ ap (cond (eq_by_cmp nat_cmp q b) (Some k)) (sym (find-parts q p xs ms ys)))

    pub replace-remove : p + extent content size xs ≤ b → b < p + extent content size xs + extent content size ms → ((q : ℕ) → find nat_cmp q (named_from content size (p + extent content size xs) ns) ≡ cond (eq_by_cmp nat_cmp q b) None (find nat_cmp q (named_from content size (p + extent content size xs) ms)))
        → live_from content size p (xs ++ (ns ++ ys)) ≡ remove (live_from content size p (xs ++ (ms ++ ys))) b
    unfolding or_else
    replace-remove from below same = live-remove p (xs ++ (ms ++ ys)) (xs ++ (ns ++ ys)) b (λ q.
        find-parts q p xs ns ys
        ∙ ap (λ o. or_else (find nat_cmp q (named_from content size p xs)) (or_else o (find nat_cmp q (named_from content size (p + extent content size xs + extent content size ns) ys)))) (same q)
        ∙ ap (or_else (find nat_cmp q (named_from content size p xs))) (rest_same q _)
        ∙ elim (eq_by_cmp nat_cmp q b) as (λ t. eq_by_cmp nat_cmp q b ≡ t → or_else (find nat_cmp q (named_from content size p xs)) (or_else (cond t None (find nat_cmp q (named_from content size (p + extent content size xs) ms))) (find nat_cmp q (named_from content size (p + extent content size xs + extent content size ms) ys)))
        ≡ cond t None (or_else (find nat_cmp q (named_from content size p xs)) (or_else (find nat_cmp q (named_from content size (p + extent content size xs) ms)) (find nat_cmp q (named_from content size (p + extent content size xs + extent content size ms) ys))))) [
          | true ↦ λ t. let e : q ≡ b = same-is q b t in
              ap (λ o. or_else o (find nat_cmp q (named_from content size (p + extent content size xs + extent content size ms) ys))) (find-past q p xs (omega arith))
              ∙ find-before q (p + extent content size xs + extent content size ms) ys (omega arith)
          | false ↦ λ t. refl
        ] refl
        ∙ ap (cond (eq_by_cmp nat_cmp q b) None) (sym (find-parts q p xs ms ys)))

  sum_with : (o : Option Block) (p : ℕ) (es : List (ℕ × Block)) → sum_by (λ b. r (length b.words)) (map (λ e. e.1) (with_named o p es)) ≡ block_used o + sum_by (λ b. r (length b.words)) (map (λ e. e.1) es)
  unfolding block_used
  sum_with None p es = omega arith
  sum_with (Some b) p es = sum_by-cons (λ b. r (length b.words)) b (map (λ e. e.1) es)

  sum_named : (p : ℕ) (xs : List A) → sum_by (λ b. r (length b.words)) (map (λ e. e.1) (named_from content size p xs)) ≡ sum_by (λ x. block_used (content x)) xs
  sum_named p [] = refl
  sum_named p (x ∷ xs) = sum_with (content x) p _ ∙ ap (λ n. block_used (content x) + n) (sum_named (p + size x) xs) ∙ sym (sum_by-cons (λ x. block_used (content x)) x xs)

  -- the account of the blocks is that of the cells
  pub used-live : (p : ℕ) (xs : List A) → used_by (live_from content size p xs) ≡ sum_by (λ x. block_used (content x)) xs
  unfolding live_from
  used-live p xs = ap (λ es. sum_by (λ b. r (length b.words)) (map (λ e. e.1) es)) (entries-from_sorted nat_cmp (named_from content size p xs) (named-sorted p xs)) ∙ sum_named p xs
