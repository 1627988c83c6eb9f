-- What a list of words is after a run is written: its length, and its words by place.
use Rattle.std.proofs.Common.{◌≡◌, ℕ, ◌+◌, ◌-◌, ◌<◌, ◌≤◌, ◌⊎◌, min, ℤ, pos, List, [], ◌++◌, length, take, drop, replicate, slice_index_or, slice_range, refl, sym, ap, ap₂, ◌∙◌, arith, inl, inr}
use Rattle.std.proofs.Math.ListN.{get_or-append, drop_of_length-le}
use Rattle.std.proofs.Math.Nat.{min-eq_left, min-eq_right}
use Rattle.std.proofs.Math.Seq.{drop-append_seam}
use Rattle.std.proofs.lemmas.Bool.{cases_lt}
use Rattle.std.proofs.lemmas.List.{length-append, length-take-le, length-drop, length-replicate, get_or-append_right, get_or-take, get_or-drop, append-nil, append_assoc, take_all, take-append-le, take-append-drop, drop-append-le, drop-drop, drop-take, take-take, take-replicate, drop-replicate}
use Rattle.f3_raw.specs.Words.{written}
use Rattle.f3_raw.specs.Region.{region_words, region_size}
use Rattle.f3_raw.specs.declared.region.Region.{Region}

-- the frontier lies within the region
pub region_fits : (r : Region) → length (region_words r) ≤ region_size r
region_fits r = r.memory.fits

module _ (ws : List ℤ) (at : ℕ) (run : List ℤ) (le : at ≤ length ws) where
  abbrev rest : List ℤ
  rest = drop (at + length run) ws

  front : length (take at ws) ≡ at
  front = length-take-le at ws le

  -- the greater of the old length and the run's end
  pub length-written : length (written ws at run) ≡ at + length run + (length ws - (at + length run))
  length-written = omega (arith, length-append (take at ws) (run ++ rest), length-append run rest, front, length-drop (at + length run) ws)

  pub written-below : (k : ℕ) (d : ℤ) → k < at → slice_index_or (written ws at run) k d ≡ slice_index_or ws k d
  written-below k d lt = get_or-append (take at ws) (run ++ rest) d k (omega (arith, front)) ∙ get_or-take at ws k d lt

  pub written-inside : (k : ℕ) (d : ℤ) → k < length run → slice_index_or (written ws at run) (at + k) d ≡ slice_index_or run k d
  written-inside k d lt =
      get_or-append_right (take at ws) (run ++ rest) at (at + k) d front (omega arith) ∙ ap (λ j. slice_index_or (run ++ rest) j d) (omega arith) ∙ get_or-append run rest d k lt

  pub written-above : (k : ℕ) (d : ℤ) → at + length run ≤ k → slice_index_or (written ws at run) k d ≡ slice_index_or ws k d
  written-above k d le' =
      get_or-append_right (take at ws) (run ++ rest) at k d front (omega arith) ∙ get_or-append_right run rest (length run) (k - at) d refl (omega arith)
      ∙ get_or-drop (at + length run) ws (k - at - length run) d ∙ ap (λ j. slice_index_or ws j d) (omega arith)

  -- a run is written in two parts, cut at its own end or at the list's
  module _ (k : ℕ) (fits : k ≤ length run) where
    abbrev low : List ℤ
    low = take k run

    abbrev high : List ℤ
    high = drop k run

    long : length low ≡ k
    long = length-take-le k run fits

    whole : k ≡ length run → (low ≡ run) × (high ≡ [])
    whole e = (take_all k run (omega arith), drop_of_length-le run (omega arith))

    -- nothing is left above the list's end
    none_above : (j : ℕ) → at + k ≡ length ws → k ≤ j → drop (at + j) ws ≡ []
    none_above j e le' = drop_of_length-le ws (omega arith)

    pub written-then : (k ≡ length run) ⊎ (at + k ≡ length ws) → written ws at low ++ high ≡ written ws at run
    written-then (inl e) = ap₂ (λ l r. written ws at l ++ r) (whole e).0 (whole e).1 ∙ append-nil (written ws at run)
    written-then (inr e) =
        ap (λ j. (take at ws ++ (low ++ drop (at + j) ws)) ++ high) long ∙ ap (λ l. (take at ws ++ (low ++ l)) ++ high) (none_above k e (omega arith))
        ∙ ap (λ l. (take at ws ++ l) ++ high) (append-nil low) ∙ append_assoc (take at ws) low high ∙ ap (λ l. take at ws ++ l) (take-append-drop k run)
        ∙ ap (λ l. take at ws ++ l) (sym (append-nil run)) ∙ ap (λ l. take at ws ++ (run ++ l)) (sym (none_above (length run) e fits))

    pub then-written : (k ≡ length run) ⊎ (at + k ≡ length ws) → written (ws ++ high) at low ≡ written ws at run
    then-written (inl e) = ap₂ (λ l r. written (ws ++ r) at l) (whole e).0 (whole e).1 ∙ ap (λ l. written l at run) (append-nil ws)
    then-written (inr e) =
        ap₂ (λ l r. l ++ (low ++ r)) (take-append-le at ws high le) (ap (λ j. drop j (ws ++ high)) (ap (λ j. at + j) long ∙ e) ∙ drop-append_seam ws high)
        ∙ ap (λ l. take at ws ++ l) (take-append-drop k run)
        ∙ ap (λ l. take at ws ++ l) (sym (append-nil run)) ∙ ap (λ l. take at ws ++ (run ++ l)) (sym (none_above (length run) e fits))

-- a run of n words from the place `at` on, cut by a `min` with what is left below the frontier, is cut at its own end or there
pub cut_by_min : (n at f k : ℕ) → k ≡ min n (f - at) → at ≤ f → (k ≤ n) × ((k ≡ n) ⊎ (at + k ≡ f))
cut_by_min n at f k e le = elim (cases_lt n (f - at)) [
  | inl lt ↦ (let all : k ≡ n = e ∙ min-eq_left {n = n} {m = f - at} (omega arith) in (omega arith, inl all))
  | inr le' ↦ (let part : k ≡ f - at = e ∙ min-eq_right {n = f - at} {m = n} le' in (omega arith, inr (omega arith)))
]

-- zeros over the list's end and above it
pub written-zeros : (ws : List ℤ) (at n k : ℕ) → at ≤ length ws → k ≤ n → (k ≡ n) ⊎ (at + k ≡ length ws)
    → written ws at (replicate k (pos 0)) ++ replicate (n - k) (pos 0) ≡ written ws at (replicate n (pos 0))
written-zeros ws at n k le fits seam =
    let run : List ℤ = replicate n (pos 0) in
    let long : length run ≡ n = length-replicate n (pos 0) in
    let cut : (k ≡ length run) ⊎ (at + k ≡ length ws) = elim seam [ inl e ↦ inl (e ∙ sym long) | inr e ↦ inr e ] in
    sym (ap₂ (λ l r. written ws at l ++ r) (take-replicate k n (pos 0) fits) (drop-replicate k n (pos 0))) ∙ written-then ws at run le k (omega (arith, long)) cut

-- a range over the list's end and above it, whose upper part was appended first
pub copied : (ws : List ℤ) (a at n k : ℕ) → a + n ≤ length ws → at ≤ length ws → k ≤ n → (k ≡ n) ⊎ (at + k ≡ length ws)
    → (let more : List ℤ = ws ++ slice_range ws (a + k) (a + k + (n - k)) in written more at (slice_range more a (a + k)) ≡ written ws at (slice_range ws a (a + n)))
copied ws a at n k source le fits seam =
    let run : List ℤ = slice_range ws a (a + n) in
    let plain : run ≡ take n (drop a ws) = ap (λ j. take j (drop a ws)) (omega arith) in
    let long : length run ≡ n = ap length plain ∙ length-take-le n (drop a ws) (omega (arith, length-drop a ws)) in
    let high : List ℤ = slice_range ws (a + k) (a + k + (n - k)) in
    let upper : high ≡ drop k run =
    ap (λ j. take j (drop (a + k) ws)) {x = a + k + (n - k) - (a + k)} {y = n - k} (omega arith) ∙ ap (take (n - k)) (sym (drop-drop k a ws)) ∙ sym (drop-take k (n - k) (drop a ws))
    ∙ ap (λ j. drop k (take j (drop a ws))) {x = k + (n - k)} {y = n} (omega arith) ∙ ap (drop k) (sym plain) in
    let lower : slice_range (ws ++ high) a (a + k) ≡ take k run =
    ap (λ j. take j (drop a (ws ++ high))) {x = a + k - a} {y = k} (omega arith) ∙ ap (take k) (drop-append-le a ws high (omega arith)) ∙ take-append-le k (drop a ws) high (omega (arith, length-drop a ws))
    ∙ sym (take-take k n (drop a ws) fits) ∙ ap (take k) (sym plain) in
    let cut : (k ≡ length run) ⊎ (at + k ≡ length ws) = elim seam [ inl e ↦ inl (e ∙ sym long) | inr e ↦ inr e ] in
    ap (λ l. written (ws ++ high) at l) lower ∙ ap (λ l. written (ws ++ l) at (take k run)) upper ∙ then-written ws at run le k (omega (arith, long)) cut
