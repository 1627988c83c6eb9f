-- A part of the laid segments is replaced by another.
use Rattle.std.proofs.Common.{◌≡◌, ℕ, ℤ, pos, negsuc, ◌+◌, ◌-◌, ◌%◌, ◌<◌, ◌≤◌, cond, nat_eq, List, [], ◌∷◌, ◌++◌, length, take, drop, set, refl, sym, ap, subst, ◌∙◌, arith, append_assoc, append-nil, length-append, length-drop, length-take-le, inl, inr}
use Rattle.std.proofs.lemmas.List.{set_at, take_at, drop_at, take-append-drop, drop-drop}
use Rattle.f3_raw.specs.Words.{written}
use Rattle.f3_heap_laws.specs.Account.{r}
use Rattle.f3_heap_laws.specs.Placed.{extent}
use Rattle.f3_heap_laws.specs.Segments.{Segment, Used, Free, seg_size, seg_block, used_words, free_words, first_free, last_free, cells, AreValid, Lays, with_next, with_prev, freed, Cuts, FitsAt, Takes}
use Rattle.f3_heap_laws.proofs.Segs.{length-used_words, length-free_words, length-cells, first_free-append, set-append_right, AreValid-append, AreValid-front, AreValid-back}
use Rattle.f3_heap_laws.proofs.Relink.{relink-next, refirst, relink-prev, cells-parts}
use Rattle.f3_heap_laws.proofs.BlockReads.{seg-extent-append}

from_zero : (n : ℕ) → 0 + n ≡ n
from_zero n = omega arith

-- both links
pub relinked : (none : ℕ) (xs ys : List Segment) (mid rest : List ℤ) (a l b k base : ℕ) → extent seg_block seg_size xs + length mid ≡ base → base + extent seg_block seg_size ys ≤ none
    → with_prev (with_next (cells none a 0 xs ++ (mid ++ (cells l none base ys ++ rest))) none (last_free none 0 xs) b) none (first_free none base ys) k
    ≡ cells none b 0 xs ++ (mid ++ (cells k none base ys ++ rest))
relinked none xs ys mid rest a l b k base e fits =
    ap (λ z. with_prev z none (first_free none base ys) k) (relink-next none xs a b (mid ++ (cells l none base ys ++ rest)) (omega arith) ∙ sym (append_assoc (cells none b 0 xs) mid (cells l none base ys ++ rest)))
    ∙ relink-prev none base ys l k (cells none b 0 xs ++ mid) rest (length-append (cells none b 0 xs) mid ∙ ap (λ n. n + length mid) (length-cells none b 0 xs) ∙ e) fits
    ∙ append_assoc (cells none b 0 xs) mid (cells k none base ys ++ rest)

-- the parts, put together
pub lay-parts : (none : ℕ) (xs ns ys : List Segment) (rest : List ℤ) (q base f l a k first end : ℕ) → q ≡ extent seg_block seg_size xs → base ≡ q + extent seg_block seg_size ns
    → l ≡ last_free none 0 xs → f ≡ first_free none base ys → a ≡ first_free f q ns → k ≡ last_free l q ns → first ≡ first_free a 0 xs → end ≡ base + extent seg_block seg_size ys → AreValid xs → AreValid ns → AreValid ys
    → Lays none (xs ++ (ns ++ ys)) (cells none a 0 xs ++ (cells l f q ns ++ (cells k none base ys ++ rest))) first end
lay-parts none xs ns ys rest q base f l a k first end eq eb el ef ea ek e1 e2 vx vn vy =
    let eb' : base ≡ extent seg_block seg_size xs + extent seg_block seg_size ns = omega arith in
    let ef' : f ≡ first_free none (extent seg_block seg_size xs + extent seg_block seg_size ns) ys = ef ∙ ap (λ z. first_free none z ys) eb' in
    let ea' : a ≡ first_free (first_free none (extent seg_block seg_size xs + extent seg_block seg_size ns) ys) (extent seg_block seg_size xs) ns = ea ∙ (λ i. first_free (ef' i) (eq i) ns) in
    let ek' : k ≡ last_free (last_free none 0 xs) (extent seg_block seg_size xs) ns = ek ∙ (λ i. last_free (el i) (eq i) ns) in
    record {
      rest = rest;
      laid = (λ i. cells none (ea' i) 0 xs ++ (cells (el i) (ef' i) (eq i) ns ++ (cells (ek' i) none (eb' i) ys ++ rest)))
          ∙ ap (λ z. cells none (first_free (first_free none (extent seg_block seg_size xs + extent seg_block seg_size ns) ys) (extent seg_block seg_size xs) ns) 0 xs ++ z) (sym (append_assoc (cells (last_free none 0 xs) (first_free none (extent seg_block seg_size xs + extent seg_block seg_size ns) ys) (extent seg_block seg_size xs) ns) (cells (last_free (last_free none 0 xs) (extent seg_block seg_size xs) ns) none (extent seg_block seg_size xs + extent seg_block seg_size ns) ys) rest))
          ∙ sym (append_assoc (cells none (first_free (first_free none (extent seg_block seg_size xs + extent seg_block seg_size ns) ys) (extent seg_block seg_size xs) ns) 0 xs) _ rest)
          ∙ ap (λ z. z ++ rest) (sym (cells-parts none xs ns ys));
      begins = e1 ∙ ap (λ z. first_free z 0 xs) (ea' ∙ sym (first_free-append none (extent seg_block seg_size xs) ns ys)) ∙ ap (λ z. first_free (first_free none z (ns ++ ys)) 0 xs) (sym (from_zero (extent seg_block seg_size xs))) ∙ sym (first_free-append none 0 xs (ns ++ ys));
      ends = omega (arith, e2, eb', seg-extent-append xs (ns ++ ys), seg-extent-append ns ys);
      valid = AreValid-append xs (ns ++ ys) vx (AreValid-append ns ys vn vy);
    }

-- a run written over as many words
pub written-over : (front old run back : List ℤ) (at : ℕ) → at ≡ length front → length old ≡ length run → written (front ++ (old ++ back)) at run ≡ front ++ (run ++ back)
written-over front old run back at e len = λ i.
    (take_at front (old ++ back) at (sym e)) i
    ++ (run ++ (ap (drop (at + length run)) (sym (append_assoc front old back)) ∙ drop_at (front ++ old) back (at + length run) (omega (arith, length-append front old))) i)

-- a list of four words or more
pub record FourUp (ws : List ℤ) : Type 0 where
  pub a : ℤ
  pub b : ℤ
  pub c : ℤ
  pub junk : List ℤ
  pub last : ℤ
  pub is : ws ≡ a ∷ b ∷ c ∷ (junk ++ last ∷ [])
  pub len : length junk + 4 ≡ length ws

pub record LastOf (ws : List ℤ) : Type 0 where
  pub front : List ℤ
  pub last : ℤ
  pub is : ws ≡ front ++ last ∷ []
  pub len : length front + 1 ≡ length ws

last_of : (w : ℤ) (ws : List ℤ) → LastOf (w ∷ ws)
last_of w [] = record { front = []; last = w; is = refl; len = omega arith }
last_of w (v ∷ ws) = let m = last_of v ws in record { front = w ∷ m.front; last = m.last; is = ap (λ z. w ∷ z) m.is; len = omega (arith, m.len) }

pub four_up : (ws : List ℤ) → 4 ≤ length ws → FourUp ws
four_up [] h = absurd (omega arith)
four_up (a ∷ []) h = absurd (omega arith)
four_up (a ∷ b ∷ []) h = absurd (omega arith)
four_up (a ∷ b ∷ c ∷ []) h = absurd (omega arith)
four_up (a ∷ b ∷ c ∷ d ∷ ws) h = let m = last_of d ws in record { a = a; b = b; c = c; junk = m.front; last = m.last; is = ap (λ z. a ∷ b ∷ c ∷ z) m.is; len = omega (arith, m.len) }

add_nothing : (n : ℕ) → n + 0 ≡ n
add_nothing n = omega arith

less_one : (n : ℕ) → (n + 4) - 1 ≡ n + 3
less_one n = omega arith

last_place : (at n : ℕ) → (at + (n + 4)) - 1 ≡ at + (3 + n)
last_place at n = omega arith

-- a free block written over some words
pub freed_is : (front mid back : List ℤ) (at size next prev : ℕ) (m : FourUp mid) → at ≡ length front → size ≡ length mid
    → freed (front ++ (mid ++ back)) at size next prev ≡ front ++ (free_words m.junk next prev ++ back)
freed_is front mid back at size next prev m e s =
    let es : size ≡ length m.junk + 4 = omega (arith, m.len) in
    (λ i. freed (front ++ (m.is i ++ back)) at (es i) next prev)
    ∙ (λ i. set (set (set (set (front ++ (m.a ∷ m.b ∷ m.c ∷ ((m.junk ++ m.last ∷ []) ++ back))) (sym (add_nothing at) i) (negsuc (less_one (length m.junk) i))) (at + 1) (pos next)) (at + 2) (pos prev)) (last_place at (length m.junk) i) (negsuc (less_one (length m.junk) i)))
    ∙ ap (λ z. set (set (set z (at + 1) (pos next)) (at + 2) (pos prev)) (at + (3 + length m.junk)) (negsuc (length m.junk + 3))) (set-append_right front _ at 0 (negsuc (length m.junk + 3)) (sym e))
    ∙ ap (λ z. set (set z (at + 2) (pos prev)) (at + (3 + length m.junk)) (negsuc (length m.junk + 3))) (set-append_right front _ at 1 (pos next) (sym e))
    ∙ ap (λ z. set z (at + (3 + length m.junk)) (negsuc (length m.junk + 3))) (set-append_right front _ at 2 (pos prev) (sym e))
    ∙ set-append_right front _ at (3 + length m.junk) (negsuc (length m.junk + 3)) (sym e)
    ∙ ap (λ z. front ++ z) (set-append_right (negsuc (length m.junk + 3) ∷ pos next ∷ pos prev ∷ []) ((m.junk ++ m.last ∷ []) ++ back) 3 (length m.junk) (negsuc (length m.junk + 3)) refl
    ∙ ap (λ z. negsuc (length m.junk + 3) ∷ pos next ∷ pos prev ∷ z) (ap (λ z. set z (length m.junk) (negsuc (length m.junk + 3))) (append_assoc m.junk (m.last ∷ []) back) ∙ set_at m.junk m.last back (negsuc (length m.junk + 3)) (length m.junk) refl ∙ sym (append_assoc m.junk (negsuc (length m.junk + 3) ∷ []) back)))

-- the words of laid segments in three parts
module _ (none : ℕ) (segs : List Segment) (ws : List ℤ) (first end : ℕ) (h : Lays none segs ws first end) (xs ms ys : List Segment) (split : segs ≡ xs ++ (ms ++ ys)) where
  abbrev pub place : ℕ
  place = extent seg_block seg_size xs

  abbrev pub behind : ℕ
  behind = extent seg_block seg_size xs + extent seg_block seg_size ms

  abbrev pub after : ℕ
  after = first_free none behind ys

  abbrev pub before : ℕ
  before = last_free none 0 xs

  abbrev pub mid : List ℤ
  mid = cells before after place ms

  pub laid-parts : ws ≡ cells none (first_free after place ms) 0 xs ++ (mid ++ (cells (last_free before place ms) none behind ys ++ h.rest))
  laid-parts =
      h.laid ∙ ap (λ ss. cells none none 0 ss ++ h.rest) split ∙ ap (λ z. z ++ h.rest) (cells-parts none xs ms ys)
      ∙ append_assoc (cells none (first_free after place ms) 0 xs) (mid ++ cells (last_free before place ms) none behind ys) h.rest
      ∙ ap (λ z. cells none (first_free after place ms) 0 xs ++ z) (append_assoc mid (cells (last_free before place ms) none behind ys) h.rest)

  pub mid-length : length mid ≡ extent seg_block seg_size ms
  mid-length = length-cells before after place ms

  pub parts-end : end ≡ behind + extent seg_block seg_size ys
  parts-end = omega (arith, h.ends, ap (extent seg_block seg_size) split, seg-extent-append xs (ms ++ ys), seg-extent-append ms ys)

  pub parts-first : first ≡ first_free (first_free after place ms) 0 xs
  parts-first = h.begins ∙ ap (first_free none 0) split ∙ first_free-append none 0 xs (ms ++ ys) ∙ ap (λ k. first_free (first_free none k (ms ++ ys)) 0 xs) (from_zero place) ∙ ap (λ a. first_free a 0 xs) (first_free-append none place ms ys)

  pub parts-valid : AreValid xs × AreValid ms × AreValid ys
  parts-valid = let v = subst AreValid split h.valid in (AreValid-front xs (ms ++ ys) v, AreValid-front ms ys (AreValid-back xs (ms ++ ys) v), AreValid-back ms ys (AreValid-back xs (ms ++ ys) v))

  module _ (fits : end ≤ none) where
    -- only links are written
    pub links-laid : (b k : ℕ) → with_prev (with_next ws none before b) none after k ≡ cells none b 0 xs ++ (mid ++ (cells k none behind ys ++ h.rest))
    links-laid b k = ap (λ z. with_prev (with_next z none before b) none after k) laid-parts ∙ relinked none xs ys mid h.rest (first_free after place ms) (last_free before place ms) b k behind (ap (λ n. place + n) mid-length) (omega (arith, parts-end))

    -- a free block is written over the end of the middle, and then the links
    pub freed-laid : (low high : List ℤ) (m : FourUp high) (at size next prev b k : ℕ) → mid ≡ low ++ high → at ≡ place + length low → size ≡ length high
        → with_prev (with_next (freed ws at size next prev) none before b) none after k ≡ cells none b 0 xs ++ ((low ++ free_words m.junk next prev) ++ (cells k none behind ys ++ h.rest))
    freed-laid low high m at size next prev b k cut e s =
        let x = cells none (first_free after place ms) 0 xs in
        let y = cells (last_free before place ms) none behind ys ++ h.rest in
        let lx : length x ≡ place = length-cells none (first_free after place ms) 0 xs in
        let words : ws ≡ (x ++ low) ++ (high ++ y) = laid-parts ∙ ap (λ z. x ++ (z ++ y)) cut ∙ ap (λ z. x ++ z) (append_assoc low high y) ∙ sym (append_assoc x low (high ++ y)) in
        let done : freed ws at size next prev ≡ x ++ ((low ++ free_words m.junk next prev) ++ y) =
        ap (λ z. freed z at size next prev) words ∙ freed_is (x ++ low) high y at size next prev m (omega (arith, e, length-append x low, lx)) s
        ∙ append_assoc x low (free_words m.junk next prev ++ y) ∙ ap (λ z. x ++ z) (sym (append_assoc low (free_words m.junk next prev) y)) in
        ap (λ z. with_prev (with_next z none before b) none after k) done
        ∙ relinked none xs ys (low ++ free_words m.junk next prev) h.rest (first_free after place ms) (last_free before place ms) b k behind
        (omega (arith, length-append low (free_words m.junk next prev), length-free_words m.junk next prev, m.len, ap length cut, length-append low high, mid-length)) (omega (arith, parts-end))

    pub links-first : (b : ℕ) → cond (nat_eq before none) b first ≡ first_free b 0 xs
    links-first b = ap (λ f. cond (nat_eq before none) b f) parts-first ∙ refirst none xs (first_free after place ms) b [] (omega (arith, parts-end))

-- a hole of n words at the front of the middle may hold a live block
pub hole-takes : (none n at first end base : ℕ) (front left back : List Segment) (hole rest ws : List ℤ) (f l : ℕ) → at ≡ extent seg_block seg_size front → n ≡ length hole
    → base ≡ (at + n) + extent seg_block seg_size left → f ≡ first_free none base back → l ≡ last_free none 0 front
    → ws ≡ cells none (first_free f (at + n) left) 0 front ++ ((hole ++ cells l f (at + n) left) ++ (cells (last_free l (at + n) left) none base back ++ rest))
    → first ≡ first_free (first_free f (at + n) left) 0 front → end ≡ base + extent seg_block seg_size back → AreValid front → AreValid left → AreValid back
    → Takes none n at first end ws (λ content. front ++ (Used content 0 ∷ (left ++ back)))
hole-takes none n at first end base front left back hole rest ws f l eq eh eb ef el is e1 e2 vf vl vb = λ content e.
    let run = used_words content 0 in
    let len : length run ≡ n = length-used_words content 0 ∙ e in
    let tail = cells l f (at + n) left in
    let y = cells (last_free l (at + n) left) none base back ++ rest in
    let x = cells none (first_free f (at + n) left) 0 front in
    let lx : length x ≡ at = length-cells none (first_free f (at + n) left) 0 front ∙ sym eq in
    let filled : written ws at run ≡ x ++ ((run ++ tail) ++ y) =
    ap (λ z. written z at run) (is ∙ ap (λ z. x ++ z) (append_assoc hole tail y))
    ∙ written-over x hole run (tail ++ y) at (sym lx) (sym eh ∙ sym len)
    ∙ ap (λ z. x ++ z) (sym (append_assoc run tail y)) in
    let ae : at + n ≡ at + r (length content) = omega (arith, e) in
    subst (λ (z : List ℤ). Lays none (front ++ (Used content 0 ∷ (left ++ back))) z first end)
    (ap (λ k. cells none (first_free f k left) 0 front ++ ((run ++ cells l f k left) ++ (cells (last_free l k left) none base back ++ rest))) (sym ae) ∙ sym filled)
    (lay-parts none front (Used content 0 ∷ left) back rest at base f l (first_free f (at + r (length content)) left) (last_free l (at + r (length content)) left) first end eq (omega arith) el ef refl refl
    (e1 ∙ ap (λ k. first_free (first_free f k left) 0 front) ae) e2 vf (omega arith, vl) vb)

-- n words are cut from the front of a free block
module _ (none n : ℕ) (segs : List Segment) (ws : List ℤ) (first end at prev next : ℕ) (h : Lays none segs ws first end) (fits : end ≤ none) (f : FitsAt n segs at) (ep : prev ≡ last_free none 0 f.front) (en : next ≡ first_free none (at + (length f.junk + 4)) f.back) where
  abbrev hole : List Segment
  hole = Free f.junk ∷ []

  after_is : next ≡ after none segs ws first end h f.front hole f.back f.split
  after_is = en ∙ ap (λ k. first_free none k f.back) (omega (arith, f.place))

  prev_is : prev ≡ before none segs ws first end h f.front hole f.back f.split
  prev_is = ep

  mid_len : length (mid none segs ws first end h f.front hole f.back f.split) ≡ length f.junk + 4
  mid_len = mid-length none segs ws first end h f.front hole f.back f.split ∙ add_nothing (length f.junk + 4)

  pub carve-exact : length f.junk + 4 ≡ n → Cuts none n segs at (cond (nat_eq prev none) next first) end (with_prev (with_next ws none prev next) none next prev)
  carve-exact whole =
      let parts = parts-valid none segs ws first end h f.front hole f.back f.split in
      let z = behind none segs ws first end h f.front hole f.back f.split in
      record {
        front = f.front;
        junk = f.junk;
        left = [];
        back = f.back;
        split = f.split;
        place = f.place;
        sizes = omega arith;
        free = inl refl;
        takes = hole-takes none n at (cond (nat_eq prev none) next first) end z f.front [] f.back (mid none segs ws first end h f.front hole f.back f.split) h.rest (with_prev (with_next ws none prev next) none next prev) next prev
            f.place (sym whole ∙ sym mid_len) (omega (arith, f.place)) after_is prev_is
            ((λ i. with_prev (with_next ws none (prev_is i) next) none (after_is i) prev) ∙ links-laid none segs ws first end h f.front hole f.back f.split fits next prev
            ∙ ap (λ m. cells none next 0 f.front ++ (m ++ (cells prev none z f.back ++ h.rest))) (sym (append-nil (mid none segs ws first end h f.front hole f.back f.split))))
            (ap (λ p. cond (nat_eq p none) next first) prev_is ∙ links-first none segs ws first end h f.front hole f.back f.split fits next)
            (parts-end none segs ws first end h f.front hole f.back f.split) parts.0 tt parts.2;
      }

  pub carve-split : n < length f.junk + 4 → n % 4 ≡ 0 → length f.junk % 4 ≡ 0
      → Cuts none n segs at (cond (nat_eq prev none) (at + n) first) end (with_prev (with_next (freed ws (at + n) ((length f.junk + 4) - n) next prev) none prev (at + n)) none next (at + n))
  carve-split more fours whole =
      let parts = parts-valid none segs ws first end h f.front hole f.back f.split in
      let z = behind none segs ws first end h f.front hole f.back f.split in
      let m = mid none segs ws first end h f.front hole f.back f.split in
      let low = take n m in
      let high = drop n m in
      let ll : length low ≡ n = length-take-le n m (omega (arith, mid_len)) in
      let lh : length high ≡ (length f.junk + 4) - n = length-drop n m ∙ ap (λ k. k - n) mid_len in
      let up = four_up high (omega (arith, lh)) in
      let cut : m ≡ low ++ high = sym (take-append-drop n m) in
      record {
        front = f.front;
        junk = f.junk;
        left = Free up.junk ∷ [];
        back = f.back;
        split = f.split;
        place = f.place;
        sizes = omega (arith, up.len, lh);
        free = inr (up.junk, refl);
        takes = hole-takes none n at (cond (nat_eq prev none) (at + n) first) end z f.front (Free up.junk ∷ []) f.back low h.rest _ next prev
            f.place (sym ll) (omega (arith, f.place, up.len, lh)) after_is prev_is
            ((λ i. with_prev (with_next (freed ws (at + n) ((length f.junk + 4) - n) next prev) none (prev_is i) (at + n)) none (after_is i) (at + n))
            ∙ freed-laid none segs ws first end h f.front hole f.back f.split fits low high up (at + n) ((length f.junk + 4) - n) next prev (at + n) (at + n) cut (omega (arith, f.place, ll)) (sym lh)
            ∙ ap (λ t. cells none (at + n) 0 f.front ++ ((low ++ t) ++ (cells (at + n) none z f.back ++ h.rest))) (sym (append-nil (free_words up.junk next prev))))
            (ap (λ p. cond (nat_eq p none) (at + n) first) prev_is ∙ links-first none segs ws first end h f.front hole f.back f.split fits (at + n))
            (parts-end none segs ws first end h f.front hole f.back f.split) parts.0 (omega (arith, up.len, lh), tt) parts.2;
      }

drop_more : (xs ys : List ℤ) (at k n : ℕ) → length xs ≡ at → k ≡ n → drop (at + k) (xs ++ ys) ≡ drop n ys
drop_more xs ys at k n e d = sym (drop-drop k at (xs ++ ys)) ∙ ap (drop k) (drop_at xs ys at e) ∙ ap (λ m. drop m ys) d

-- a live block at the end of all others
pub end-takes : (none n : ℕ) (segs : List Segment) (ws : List ℤ) (first end : ℕ) → Lays none segs ws first end → Takes none n end first (end + n) ws (λ content. segs ++ (Used content 0 ∷ []))
end-takes none n segs ws first end h = λ content e.
    let run = used_words content 0 in
    let len : length run ≡ n = length-used_words content 0 ∙ e in
    let lx : length (cells none none 0 segs) ≡ end = length-cells none none 0 segs ∙ sym h.ends in
    let filled : written ws end run ≡ cells none none 0 segs ++ ((run ++ []) ++ ([] ++ drop n h.rest)) =
    ap (λ z. written z end run) h.laid
    ∙ (λ i. (take_at (cells none none 0 segs) h.rest end lx) i ++ (run ++ (drop_more (cells none none 0 segs) h.rest end (length run) n lx len) i))
    ∙ ap (λ z. cells none none 0 segs ++ (z ++ drop n h.rest)) (sym (append-nil run)) in
    subst (λ (z : List ℤ). Lays none (segs ++ (Used content 0 ∷ [])) z first (end + n)) (sym filled)
    (lay-parts none segs (Used content 0 ∷ []) [] (drop n h.rest) end (end + r (length content)) none (last_free none 0 segs) none (last_free none 0 segs) first (end + n) h.ends (omega arith) refl refl refl refl h.begins (omega (arith, e)) h.valid (omega arith, tt) tt)
