-- Two runs of zeros that meet or overlap are one.
use Rattle.std.proofs.Common.{◌≡◌, ◌+◌, ◌-◌, ◌≤◌, ◌++◌, ◌∙◌, ℕ, ℤ, List, pos, length, take, drop, replicate, ap, sym, arith, append_assoc, length-take-le}
use Rattle.std.proofs.Math.Seq.{take-append-add, drop-append-add}
use Rattle.std.proofs.lemmas.List.{length-replicate, take-replicate, take-append-le, drop-drop, replicate-append-replicate}
use Rattle.f3_raw.specs.Words.{written}

abbrev zeros : ℕ → List ℤ
zeros n = replicate n (pos 0)

module _ (ws : List ℤ) (at n p : ℕ) (inside : at + n ≤ length ws) (least : p ≤ n) (most : n ≤ p + p) where
  abbrev front : List ℤ
  front = take at ws

  abbrev rest : List ℤ
  rest = drop (at + length (zeros p)) ws

  abbrev back : List ℤ
  back = drop (at + length (zeros n)) ws

  long : length front ≡ at
  long = length-take-le at ws (omega (arith, inside))

  count : length (zeros p) ≡ p
  count = length-replicate p (pos 0)

  place : (at + n) - p ≡ length front + (n - p)
  place = omega (arith, long, least)

  before : take ((at + n) - p) (front ++ (zeros p ++ rest)) ≡ front ++ zeros (n - p)
  before =
      ap (λ k. take k (front ++ (zeros p ++ rest))) place
      ∙ take-append-add front (zeros p ++ rest) (n - p)
      ∙ ap (λ l. front ++ l) (take-append-le (n - p) (zeros p) rest (omega (arith, count, most)) ∙ take-replicate (n - p) p (pos 0) (omega (arith, most)))

  place_behind : ((at + n) - p) + length (zeros p) ≡ length front + (length (zeros p) + (n - p))
  place_behind = omega (arith, long, count, least)

  same_end : (at + length (zeros p)) + (n - p) ≡ at + length (zeros n)
  same_end = omega (arith, count, length-replicate n (pos 0), least)

  behind : drop (((at + n) - p) + length (zeros p)) (front ++ (zeros p ++ rest)) ≡ back
  behind =
      ap (λ k. drop k (front ++ (zeros p ++ rest))) place_behind
      ∙ drop-append-add front (zeros p ++ rest) (length (zeros p) + (n - p))
      ∙ drop-append-add (zeros p) rest (n - p)
      ∙ drop-drop (n - p) (at + length (zeros p)) ws
      ∙ ap (λ k. drop k ws) same_end

  all : (n - p) + p ≡ n
  all = omega (arith, least)

  pub both_ends : written (written ws at (zeros p)) ((at + n) - p) (zeros p) ≡ written ws at (zeros n)
  both_ends =
      (λ i. before i ++ (zeros p ++ behind i))
      ∙ append_assoc front (zeros (n - p)) (zeros p ++ back)
      ∙ ap (λ l. front ++ l) (sym (append_assoc (zeros (n - p)) (zeros p) back) ∙ ap (λ l. l ++ back) (replicate-append-replicate (n - p) p (pos 0) ∙ ap zeros all))
