-- The end of a source, one byte more.
use Rattle.std.proofs.Common.{◌≡◌, ℕ, ◌+◌, ◌<◌, length, drop, get_or, List, [], ◌∷◌, Bool, true, false, ◌==◌, refl, sym, ap, ◌∙◌, arith, count_by, if◌then◌else◌, add-one, zero-add, drop-cons, ◌≤◌}
use Rattle.std.proofs.lemmas.Bool.{eq-eqb, ne_eqb}
use Rattle.std.proofs.lemmas.List.{drop_all}
use Rattle.std.proofs.lemmas.List.Sums.{sum_by-cons}
use Rattle.std.specs.List.{list_any}
use Rattle.f3_text.specs.Ends.{has_feed, behind_feeds}

-- the column behind these bytes, from a column on
pub column_behind : ℕ → List ℕ → ℕ
column_behind c bs = if has_feed bs then 1 + length (behind_feeds bs) else c + length bs

behind_none : (bs : List ℕ) → has_feed bs ≡ false → behind_feeds bs ≡ bs
unfolding behind_feeds
behind_none [] e = refl
behind_none (b ∷ bs) e = rw e refl

pub column_feed : (c b : ℕ) (bs : List ℕ) → b ≡ 10 → column_behind c (b ∷ bs) ≡ column_behind 1 bs
unfolding column_behind behind_feeds has_feed
column_feed c b bs e = rw (eq-eqb b 10 e) (by (has_feed bs) refl)
  where
    by : (t : Bool) → has_feed bs ≡ t → 1 + length (behind_feeds bs) ≡ (if list_any (λ b. b == 10) bs then 1 + length (behind_feeds bs) else 1 + length bs)
    by true h = rw h refl
    by false h = rw (h, behind_none bs h) refl

pub column_more : (c b : ℕ) (bs : List ℕ) → (b ≡ 10 → ⊥) → column_behind c (b ∷ bs) ≡ column_behind (c + 1) bs
unfolding column_behind behind_feeds has_feed
column_more c b bs e = rw (ne_eqb b 10 e) (by (has_feed bs) refl)
  where
    by : (t : Bool) → has_feed bs ≡ t → (if list_any (λ b. b == 10) bs then 1 + length (if list_any (λ b. b == 10) bs then behind_feeds bs else b ∷ bs) else c + length (b ∷ bs)) ≡ (if list_any (λ b. b == 10) bs then 1 + length (behind_feeds bs) else c + 1 + length bs)
    by true h = rw h refl
    by false h = rw h (omega arith)

pub column_whole : (bs : List ℕ) → column_behind 1 bs ≡ 1 + length (behind_feeds bs)
unfolding column_behind
column_whole bs = by (has_feed bs) refl
  where
    by : (t : Bool) → has_feed bs ≡ t → (if has_feed bs then 1 + length (behind_feeds bs) else 1 + length bs) ≡ 1 + length (behind_feeds bs)
    by true h = rw h refl
    by false h = rw (h, behind_none bs h) refl

drop_here : (bs : List ℕ) (i : ℕ) → i < length bs → drop i bs ≡ get_or bs i 0 ∷ drop (i + 1) bs
drop_here bs i h = rw (add-one, drop-cons bs i 0)

count_cons : (b : ℕ) (bs : List ℕ) → count_by (λ b. b == 10) (b ∷ bs) ≡ (if b == 10 then 1 else 0) + count_by (λ b. b == 10) bs
count_cons b bs = sum_by-cons (λ (b : ℕ). if b == 10 then 1 else 0) b bs

plus_one : (l t x : ℕ) → t ≡ 1 + x → l + t ≡ l + 1 + x
plus_one l t x e = omega arith

count_feed : (l b : ℕ) (bs : List ℕ) → b ≡ 10 → l + count_by (λ b. b == 10) (b ∷ bs) ≡ l + 1 + count_by (λ b. b == 10) bs
count_feed l b bs e = plus_one l _ _ (count_cons b bs ∙ ap (λ (t : Bool). (if t then 1 else 0) + count_by (λ b. b == 10) bs) (eq-eqb b 10 e))

count_more : (l b : ℕ) (bs : List ℕ) → (b ≡ 10 → ⊥) → l + count_by (λ b. b == 10) (b ∷ bs) ≡ l + count_by (λ b. b == 10) bs
count_more l b bs e = ap (λ (n : ℕ). l + n) (count_cons b bs ∙ ap (λ (t : Bool). (if t then 1 else 0) + count_by (λ b. b == 10) bs) (ne_eqb b 10 e) ∙ zero-add (count_by (λ b. b == 10) bs))

-- a byte of a source
pub line_feed_at : (bs : List ℕ) (i l m w : ℕ) → i < length bs → get_or bs i 0 ≡ 10 → m ≡ l + 1 → l + count_by (λ b. b == 10) (drop i bs) ≡ w → m + count_by (λ b. b == 10) (drop (i + 1) bs) ≡ w
line_feed_at bs i l m w h e f g = ap (λ (n : ℕ). n + count_by (λ b. b == 10) (drop (i + 1) bs)) f ∙ sym (count_feed l (get_or bs i 0) (drop (i + 1) bs) e) ∙ ap (λ (t : List ℕ). l + count_by (λ b. b == 10) t) (sym (drop_here bs i h)) ∙ g

pub line_same_at : (bs : List ℕ) (i l m w : ℕ) → i < length bs → (get_or bs i 0 ≡ 10 → ⊥) → m ≡ l → l + count_by (λ b. b == 10) (drop i bs) ≡ w → m + count_by (λ b. b == 10) (drop (i + 1) bs) ≡ w
line_same_at bs i l m w h e f g = ap (λ (n : ℕ). n + count_by (λ b. b == 10) (drop (i + 1) bs)) f ∙ sym (count_more l (get_or bs i 0) (drop (i + 1) bs) e) ∙ ap (λ (t : List ℕ). l + count_by (λ b. b == 10) t) (sym (drop_here bs i h)) ∙ g

pub column_feed_at : (bs : List ℕ) (i c k w : ℕ) → i < length bs → get_or bs i 0 ≡ 10 → k ≡ 1 → column_behind c (drop i bs) ≡ w → column_behind k (drop (i + 1) bs) ≡ w
column_feed_at bs i c k w h e f g = ap (λ (n : ℕ). column_behind n (drop (i + 1) bs)) f ∙ sym (column_feed c (get_or bs i 0) (drop (i + 1) bs) e) ∙ ap (column_behind c) (sym (drop_here bs i h)) ∙ g

pub column_more_at : (bs : List ℕ) (i c k w : ℕ) → i < length bs → (get_or bs i 0 ≡ 10 → ⊥) → k ≡ c + 1 → column_behind c (drop i bs) ≡ w → column_behind k (drop (i + 1) bs) ≡ w
column_more_at bs i c k w h e f g = ap (λ (n : ℕ). column_behind n (drop (i + 1) bs)) f ∙ sym (column_more c (get_or bs i 0) (drop (i + 1) bs) e) ∙ ap (column_behind c) (sym (drop_here bs i h)) ∙ g

pub line_end : (l i w : ℕ) (bs : List ℕ) → length bs ≤ i → l + count_by (λ b. b == 10) (drop i bs) ≡ w → l ≡ w
line_end l i w bs h e = let k : drop i bs ≡ [] = drop_all i bs h in let f = rw k at e in omega arith

pub column_end : (c i w : ℕ) (bs : List ℕ) → length bs ≤ i → column_behind c (drop i bs) ≡ w → c ≡ w
unfolding column_behind has_feed
column_end c i w bs h e = let k : drop i bs ≡ [] = drop_all i bs h in let f = rw k at e in omega arith
