-- A word that is put into the last words of a list.
use Rattle.std.proofs.Common.{◌≡◌, ℕ, suc, ◌+◌, ◌-◌, ◌<◌, ℤ, List, [], ◌∷◌, ◌++◌, length, take, drop, slice_range, sym, ap, ◌∙◌, arith}
use Rattle.std.proofs.Math.ListN.{set, length-set, drop_of_length-le}
use Rattle.std.proofs.lemmas.List.{set_split, length-take-le, length-drop, length-append, append-nil, take_all, take-append-drop, set-append_right}
use Rattle.f3_raw.specs.Words.{written, overwritten}

-- the words from a place on, as many as there are
module _ (ws : List ℤ) (b n : ℕ) (end : b + n ≡ length ws) where
  abbrev last : List ℤ
  last = drop b ws

  long : length last ≡ n
  long = omega (arith, length-drop b ws)

  front : length (take b ws) ≡ b
  front = length-take-le b ws (omega arith)

  whole : slice_range ws b (b + n) ≡ last
  whole = ap (λ k. take k last) {x = b + n - b} {y = n} (omega arith) ∙ take_all n last (omega (arith, long))

  -- with as many words in their place, nothing is left behind them
  over : (run : List ℤ) → length run ≡ n → overwritten ws b run ≡ take b ws ++ run
  over run e =
      let none : drop (b + length run) ws ≡ [] = drop_of_length-le ws (omega arith) in
      let same : written ws b run ≡ take b ws ++ run = ap (λ l. take b ws ++ (run ++ l)) none ∙ ap (λ l. take b ws ++ l) (append-nil run) in
      take_all (length ws) (written ws b run) (omega (arith, ap length same, length-append (take b ws) run, front)) ∙ same

  set_in : (i : ℕ) (w : ℤ) → set ws (b + i) w ≡ take b ws ++ set last i w
  set_in i w =
      ap (λ l. set l (b + i) w) (sym (take-append-drop b ws)) ∙ set-append_right (take b ws) last b (b + i) w front (omega arith)
      ∙ ap (λ k. take b ws ++ set last k w) (omega arith)

  pub put_in : (i : ℕ) (w : ℤ) → i < n → overwritten ws b (take n (set (slice_range ws b (b + n)) i w)) ≡ written ws (b + i) (w ∷ [])
  put_in i w lt =
      let size : length (set last i w) ≡ n = length-set last i w ∙ long in
      let run : take n (set (slice_range ws b (b + n)) i w) ≡ set last i w =
      ap (λ l. take n (set l i w)) whole ∙ take_all n (set last i w) (omega (arith, size)) in
      ap (overwritten ws b) run ∙ over (set last i w) size ∙ sym (set_in i w) ∙ set_split ws (b + i) w (omega arith)
      ∙ ap (λ k. take (b + i) ws ++ (w ∷ drop k ws)) {x = suc (b + i)} {y = b + i + 1} (omega arith)
