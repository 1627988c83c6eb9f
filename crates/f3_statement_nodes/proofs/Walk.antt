-- A walk over items, with the number of the next construct: one item more.
use Rattle.std.proofs.Common.{◌≡◌, ℕ, zero, suc, ◌+◌, ◌<◌, ◌≤◌, ◌^◌, length, map, drop, get_or, List, [], ◌∷◌, ◌++◌, append_assoc, arith, sym, ap, ◌∙◌}
use Rattle.std.proofs.lemmas.List.{at_drop_more, at_drop_all, map-append, append-nil}
use Rattle.f3_statement_nodes.specs.Inner.Along.{along}

-- what is made of each item, pushed
module _ {X Y Z : Type 0} (row : ℕ → X → Y) (count : X → ℕ) (view : Z → Y) where
  pub pushed : (xs : List X) (i : ℕ) (x : X) (n n' : ℕ) (zs zs' : List Z) (z : Z) (whole : List Y) → i < length xs → x ≡ get_or xs i x → zs' ≡ zs ++ (z ∷ []) → view z ≡ row n x → n' ≡ n + count x
      → map view zs ++ along row count n (drop i xs) ≡ whole → map view zs' ++ along row count n' (drop (i + 1) xs) ≡ whole
  pushed xs i x n n' zs zs' z whole lt is p v m h =
      let rest : along row count n (drop i xs) ≡ row n x ∷ along row count (n + count x) (drop (i + 1) xs) =
      at_drop_more (along row count n) xs i x lt ∙ ap (λ y. along row count n (y ∷ drop (i + 1) xs)) (sym is) in
      ap (λ ys. map view ys ++ along row count n' (drop (i + 1) xs)) p
      ∙ ap (λ ys. ys ++ along row count n' (drop (i + 1) xs)) (map-append view zs (z ∷ []))
      ∙ append_assoc (map view zs) (view z ∷ []) (along row count n' (drop (i + 1) xs))
      ∙ ap (λ y. map view zs ++ (y ∷ along row count n' (drop (i + 1) xs))) v
      ∙ ap (λ k. map view zs ++ (row n x ∷ along row count k (drop (i + 1) xs))) m
      ∙ ap (λ ys. map view zs ++ ys) (sym rest)
      ∙ h

  pub pushed_all : (xs : List X) (i n : ℕ) (zs : List Z) (whole : List Y) → length xs ≤ i → map view zs ++ along row count n (drop i xs) ≡ whole → map view zs ≡ whole
  pushed_all xs i n zs whole le h = sym (append-nil (map view zs)) ∙ ap (λ ys. map view zs ++ ys) (sym (at_drop_all (along row count n) xs i le)) ∙ h

module _ {X : Type 0} (count : X → ℕ) (counts : List X → ℕ) (sum : (x : X) (xs : List X) → counts (x ∷ xs) ≡ count x + counts xs) where
  counted : (xs : List X) (i : ℕ) (x : X) → i < length xs → x ≡ get_or xs i x → counts (drop i xs) ≡ count x + counts (drop (i + 1) xs)
  counted xs i x lt is = at_drop_more counts xs i x lt ∙ ap (λ z. counts (z ∷ drop (i + 1) xs)) (sym is) ∙ sum x (drop (i + 1) xs)

  pub numbered : (xs : List X) (i : ℕ) (x : X) (n n' whole : ℕ) → i < length xs → x ≡ get_or xs i x → n' ≡ n + count x → n + counts (drop i xs) ≡ whole → n' + counts (drop (i + 1) xs) ≡ whole
  numbered xs i x n n' whole lt is m h = let e : counts (drop i xs) ≡ count x + counts (drop (i + 1) xs) = counted xs i x lt is in omega (arith, e)

  pub within : (xs : List X) (i : ℕ) (x : X) (n whole : ℕ) → i < length xs → x ≡ get_or xs i x → n + counts (drop i xs) ≡ whole → whole < 2 ^ 64 → n + count x < 2 ^ 64
  within xs i x n whole lt is h l = let e : counts (drop i xs) ≡ count x + counts (drop (i + 1) xs) = counted xs i x lt is in omega (arith, e)

-- at the end of the list
pub ended : {X : Type 0} (counts : List X → ℕ) (xs : List X) (i n whole : ℕ) → length xs ≤ i → counts [] ≡ 0 → n + counts (drop i xs) ≡ whole → n ≡ whole
ended counts xs i n whole le z h = let e : counts (drop i xs) ≡ counts [] = at_drop_all counts xs i le in omega (arith, e)

-- an item weighs less than all
module _ {X : Type 0} (weight : X → ℕ) (weights : List X → ℕ) (sum : (x : X) (xs : List X) → weights (x ∷ xs) ≡ weight x + weights xs + 1) where
  pub lighter : (xs : List X) (i : ℕ) (x : X) → i < length xs → x ≡ get_or xs i x → weight x < weights xs
  lighter [] i x lt is = absurd (omega arith)
  lighter (y ∷ ys) zero x lt is = let e : weights (y ∷ ys) ≡ weight y + weights ys + 1 = sum y ys in let f : weight x ≡ weight y = ap weight is in omega (arith, e, f)
  lighter (y ∷ ys) (suc i) x lt is =
      let e : weights (y ∷ ys) ≡ weight y + weights ys + 1 = sum y ys in
      let f : weight x < weights ys = lighter ys i x (omega arith) is in
      omega (arith, e, f)
