-- One word put into a region.
use Rattle.std.proofs.Common.{true, false, cond, nat_eq, negsuc, ◌≢◌, ◌≡◌, ℕ, ℤ, pos, suc, ◌+◌, ◌-◌, ◌<◌, ◌≤◌, ◌^◌, List, [], ◌∷◌, ◌++◌, length, take, drop, set, replicate, refl, sym, ap, ◌∙◌, arith, length-append, append_assoc, length-set, length-take-le}
use Rattle.std.proofs.lemmas.List.{set_split, length-replicate, replicate-append-replicate, set_at}
use Rattle.std.proofs.lemmas.Bool.Decides.{nat_tests}
use mir.Syntax.{w64}
use Rattle.std.specs.Int.{cast_signed}
use Rattle.std.proofs.lemmas.Int.{to_z_pos}
use Rattle.f3_raw.specs.Words.{written}
use Rattle.f3_heap_laws.specs.Account.{r}
use Rattle.f3_heap_laws.specs.Segments.{used_words, with_next, with_prev, freed}
use Rattle.f3_heap_laws.proofs.Segs.{r-above, set-append_right, length-used_words}

plus_one : (n : ℕ) → n + 1 ≡ suc n
plus_one n = omega arith

pub put-set : (ws : List ℤ) (i : ℕ) (v : ℤ) → i < length ws → written ws i (v ∷ []) ≡ set ws i v
put-set ws i v h = ap (λ k. take i ws ++ (v ∷ drop k ws)) (plus_one i) ∙ sym (set_split ws i v h)

pub length-put : (ws : List ℤ) (i : ℕ) (v : ℤ) → i < length ws → length (written ws i (v ∷ [])) ≡ length ws
length-put ws i v h = ap length (put-set ws i v h) ∙ length-set ws i v

order : (k : ℕ) → k + 3 ≡ suc (suc (k + 1))
order k = omega arith

three_more : (n k : ℕ) → n ≡ k + 3 → replicate n (pos 0) ≡ pos 0 ∷ pos 0 ∷ (replicate k (pos 0) ++ pos 0 ∷ [])
three_more n k e = ap (λ m. replicate m (pos 0)) (e ∙ order k) ∙ ap (λ l. pos 0 ∷ pos 0 ∷ l) (sym (replicate-append-replicate k 1 (pos 0)))

nothing : (n : ℕ) → n + 0 ≡ n
nothing n = omega arith

last_index : (at n k : ℕ) → n ≡ k + 3 → (at + n) - 1 ≡ at + (2 + k)
last_index at n k e = omega arith

-- the words of a new block
fresh_words : (w k : ℕ) → r w ≡ k + 3 → used_words (replicate w (pos 0)) 0 ≡ pos w ∷ pos 0 ∷ (replicate k (pos 0) ++ pos w ∷ [])
fresh_words w k e =
    (λ i. pos (length-replicate w (pos 0) i) ∷ pos 0 ∷ (replicate w (pos 0) ++ (replicate (r (length-replicate w (pos 0) i) - (length-replicate w (pos 0) i + 3)) (pos 0) ++ pos (length-replicate w (pos 0) i) ∷ [])))
    ∙ ap (λ l. pos w ∷ pos 0 ∷ l) (sym (append_assoc (replicate w (pos 0)) (replicate (r w - (w + 3)) (pos 0)) (pos w ∷ [])) ∙ ap (λ l. l ++ pos w ∷ []) (replicate-append-replicate w (r w - (w + 3)) (pos 0) ∙ ap (λ n. replicate n (pos 0)) (let a = r-above w in let z : w + (r w - (w + 3)) ≡ k = omega arith in z)))

-- zeros, then the length at both ends
pub write-fresh : (ws : List ℤ) (at w : ℕ) → at ≤ length ws → set (set (written ws at (replicate (r w) (pos 0))) at (pos w)) ((at + r w) - 1) (pos w) ≡ written ws at (used_words (replicate w (pos 0)) 0)
write-fresh ws at w le =
    let k = r w - 3 in
    let e : r w ≡ k + 3 = omega (arith, r-above w) in
    let front = take at ws in
    let back = drop (at + length (replicate (r w) (pos 0))) ws in
    let lf : length front ≡ at = length-take-le at ws le in
    (λ i. set (set (front ++ (three_more (r w) k e i ++ back)) at (pos w)) (last_index at (r w) k e i) (pos w))
    ∙ ap (λ l. set l (at + (2 + k)) (pos w)) (set_at front (pos 0) (pos 0 ∷ ((replicate k (pos 0) ++ pos 0 ∷ []) ++ back)) (pos w) at lf)
    ∙ set-append_right front (pos w ∷ pos 0 ∷ ((replicate k (pos 0) ++ pos 0 ∷ []) ++ back)) at (2 + k) (pos w) lf
    ∙ ap (λ l. front ++ l) (set-append_right (pos w ∷ pos 0 ∷ []) ((replicate k (pos 0) ++ pos 0 ∷ []) ++ back) 2 k (pos w) refl
    ∙ ap (λ l. pos w ∷ pos 0 ∷ l) (ap (λ l. set l k (pos w)) (append_assoc (replicate k (pos 0)) (pos 0 ∷ []) back) ∙ set_at (replicate k (pos 0)) (pos 0) back (pos w) k (length-replicate k (pos 0)) ∙ sym (append_assoc (replicate k (pos 0)) (pos w ∷ []) back)))
    ∙ (λ i. front ++ (sym (fresh_words w k e) i ++ drop (at + (length-replicate (r w) (pos 0) ∙ sym (length-used_words (replicate w (pos 0)) 0 ∙ ap r (length-replicate w (pos 0)))) i) ws))

eq_false : (m n : ℕ) → m ≢ n → nat_eq m n ≡ false
eq_false m n h = grind (arith, nat_tests)

pub put-next : (ws new : List ℤ) (none prev next : ℕ) → new ≡ written ws (prev + 1) (cast_signed w64 next ∷ []) → prev ≢ none → prev + 1 < length ws → next < 2 ^ 63 → new ≡ with_next ws none prev next
put-next ws new none prev next e ne within small =
    e ∙ put-set ws (prev + 1) (cast_signed w64 next) within ∙ ap (set ws (prev + 1)) (to_z_pos w64 next small)
    ∙ sym (ap (λ t. cond t ws (set ws (prev + 1) (pos next))) (eq_false prev none ne))

pub put-prev : (ws new : List ℤ) (none next prev : ℕ) → new ≡ written ws (next + 2) (cast_signed w64 prev ∷ []) → next ≢ none → next + 2 < length ws → prev < 2 ^ 63 → new ≡ with_prev ws none next prev
put-prev ws new none next prev e ne within small =
    e ∙ put-set ws (next + 2) (cast_signed w64 prev) within ∙ ap (set ws (next + 2)) (to_z_pos w64 prev small)
    ∙ sym (ap (λ t. cond t ws (set ws (next + 2) (pos prev))) (eq_false next none ne))

pub put-used : (ws one two new : List ℤ) (at w size : ℕ) → size ≡ r w → at ≤ length ws → w < 2 ^ 63 → one ≡ written ws at (replicate size (pos 0)) → two ≡ written one at (cast_signed w64 w ∷ []) → new ≡ written two ((at + size) - 1) (cast_signed w64 w ∷ [])
    → new ≡ written ws at (used_words (replicate w (pos 0)) 0)
put-used ws one two new at w size s le small e1 e2 e3 =
    let z = to_z_pos w64 w small in
    let l1 : length one ≡ length (take at ws) + (length (replicate size (pos 0)) + length (drop (at + length (replicate size (pos 0))) ws)) = ap length e1 ∙ length-append (take at ws) (replicate size (pos 0) ++ drop (at + length (replicate size (pos 0))) ws) ∙ ap (λ n. length (take at ws) + n) (length-append (replicate size (pos 0)) (drop (at + length (replicate size (pos 0))) ws)) in
    let big : at + size ≤ length one = omega (arith, l1, length-take-le at ws le, length-replicate size (pos 0)) in
    let some : 3 ≤ size = omega (arith, s, r-above w) in
    let two_is : two ≡ set one at (pos w) = e2 ∙ put-set one at (cast_signed w64 w) (omega arith) ∙ ap (set one at) z in
    let l2 : length two ≡ length one = ap length two_is ∙ length-set one at (pos w) in
    e3 ∙ put-set two ((at + size) - 1) (cast_signed w64 w) (omega arith)
    ∙ (λ i. set ((two_is ∙ ap (λ l. set l at (pos w)) (e1 ∙ ap (λ n. written ws at (replicate n (pos 0))) s)) i) ((at + s i) - 1) (z i))
    ∙ write-fresh ws at w le

pub put-free : (ws one two three new : List ℤ) (at size next prev : ℕ) (h : ℤ) → at + size ≤ length ws → 4 ≤ size → next < 2 ^ 63 → prev < 2 ^ 63
    → one ≡ written ws at (h ∷ []) → two ≡ written one (at + 1) (cast_signed w64 next ∷ []) → three ≡ written two (at + 2) (cast_signed w64 prev ∷ []) → new ≡ written three ((at + size) - 1) (h ∷ []) → h ≡ negsuc (size - 1) → new ≡ freed ws at size next prev
put-free ws one two three new at size next prev h le some sn sp e1 e2 e3 e4 eh =
    let one_is : one ≡ set ws at (negsuc (size - 1)) = e1 ∙ put-set ws at h (omega arith) ∙ ap (set ws at) eh in
    let l1 : length one ≡ length ws = ap length one_is ∙ length-set ws at (negsuc (size - 1)) in
    let two_is : two ≡ set one (at + 1) (pos next) = e2 ∙ put-set one (at + 1) (cast_signed w64 next) (omega arith) ∙ ap (set one (at + 1)) (to_z_pos w64 next sn) in
    let l2 : length two ≡ length one = ap length two_is ∙ length-set one (at + 1) (pos next) in
    let three_is : three ≡ set two (at + 2) (pos prev) = e3 ∙ put-set two (at + 2) (cast_signed w64 prev) (omega arith) ∙ ap (set two (at + 2)) (to_z_pos w64 prev sp) in
    let l3 : length three ≡ length two = ap length three_is ∙ length-set two (at + 2) (pos prev) in
    e4 ∙ put-set three ((at + size) - 1) h (omega arith)
    ∙ (λ i. set ((three_is ∙ ap (λ l. set l (at + 2) (pos prev)) (two_is ∙ ap (λ l. set l (at + 1) (pos next)) one_is)) i) ((at + size) - 1) (eh i))

pub length-freed : (ws : List ℤ) (at size next prev : ℕ) → length (freed ws at size next prev) ≡ length ws
length-freed ws at size next prev = length-set _ ((at + size) - 1) (negsuc (size - 1)) ∙ length-set _ (at + 2) (pos prev) ∙ length-set _ (at + 1) (pos next) ∙ length-set ws at (negsuc (size - 1))

pub length-with_next : (ws : List ℤ) (none prev next : ℕ) → length (with_next ws none prev next) ≡ length ws
length-with_next ws none prev next = elim (nat_eq prev none) as (λ t. length (cond t ws (set ws (prev + 1) (pos next))) ≡ length ws) [ true ↦ refl | false ↦ length-set ws (prev + 1) (pos next) ]

pub length-with_prev : (ws : List ℤ) (none next prev : ℕ) → length (with_prev ws none next prev) ≡ length ws
length-with_prev ws none next prev = elim (nat_eq next none) as (λ t. length (cond t ws (set ws (next + 2) (pos prev))) ≡ length ws) [ true ↦ refl | false ↦ length-set ws (next + 2) (pos prev) ]
