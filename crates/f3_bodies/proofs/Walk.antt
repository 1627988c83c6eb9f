-- A walk over items, each of which has breaks and constructs, with the number of the next construct: one item more.
use Rattle.std.proofs.Common.{◌≡◌, ℕ, zero, suc, ◌+◌, ◌<◌, ◌≤◌, ◌^◌, length, drop, get_or, List, [], ◌∷◌, ◌++◌, Option, arith, sym, ap, ◌∙◌}
use Rattle.std.proofs.lemmas.List.{at_drop_more, at_drop_all}
use Rattle.f3_rules.specs.declared.breaks.Break.{Break}
use Rattle.f3_typed_parts.specs.Noted.{noted}
use Rattle.f3_typed_parts.proofs.Noting.{noted_more}

module _ {X : Type 0} (row : ℕ → X → List Break) (rows : ℕ → List X → List Break) (count : X → ℕ)
    (more : (n : ℕ) (x : X) (xs : List X) → rows n (x ∷ xs) ≡ row n x ++ rows (n + count x) xs) where
  rest : (xs : List X) (i : ℕ) (x : X) (n : ℕ) → i < length xs → x ≡ get_or xs i x → rows n (drop i xs) ≡ row n x ++ rows (n + count x) (drop (i + 1) xs)
  rest xs i x n lt is = at_drop_more (rows n) xs i x lt ∙ ap (λ z. rows n (z ∷ drop (i + 1) xs)) (sym is) ∙ more n x (drop (i + 1) xs)

  pub walked : (xs : List X) (i : ℕ) (x : X) (n n' : ℕ) (before after whole : Option Break) → i < length xs → x ≡ get_or xs i x → after ≡ noted before (row n x) → n' ≡ n + count x
      → noted before (rows n (drop i xs)) ≡ whole → noted after (rows n' (drop (i + 1) xs)) ≡ whole
  walked xs i x n n' before after whole lt is e m h =
      ap (λ k. noted after (rows k (drop (i + 1) xs))) m
      ∙ ap (λ a. noted a (rows (n + count x) (drop (i + 1) xs))) e
      ∙ noted_more before (row n x) (rows (n + count x) (drop (i + 1) xs))
      ∙ ap (noted before) (sym (rest xs i x n lt is))
      ∙ h

module _ {X : Type 0} (count : X → ℕ) (counts : List X → ℕ) (sum : (x : X) (xs : List X) → counts (x ∷ xs) ≡ count x + counts xs) where
  counted : (xs : List X) (i : ℕ) (x : X) → i < length xs → x ≡ get_or xs i x → counts (drop i xs) ≡ count x + counts (drop (i + 1) xs)
  counted xs i x lt is = at_drop_more counts xs i x lt ∙ ap (λ z. counts (z ∷ drop (i + 1) xs)) (sym is) ∙ sum x (drop (i + 1) xs)

  pub numbered : (xs : List X) (i : ℕ) (x : X) (n n' whole : ℕ) → i < length xs → x ≡ get_or xs i x → n' ≡ n + count x → n + counts (drop i xs) ≡ whole → n' + counts (drop (i + 1) xs) ≡ whole
  numbered xs i x n n' whole lt is m h = let e : counts (drop i xs) ≡ count x + counts (drop (i + 1) xs) = counted xs i x lt is in omega (arith, e)

  pub within : (xs : List X) (i : ℕ) (x : X) (n whole : ℕ) → i < length xs → x ≡ get_or xs i x → n + counts (drop i xs) ≡ whole → whole < 2 ^ 64 → n + count x < 2 ^ 64
  within xs i x n whole lt is h l = let e : counts (drop i xs) ≡ count x + counts (drop (i + 1) xs) = counted xs i x lt is in omega (arith, e)

-- at the end of the list
pub ended : {X : Type 0} (counts : List X → ℕ) (xs : List X) (i n whole : ℕ) → length xs ≤ i → counts [] ≡ 0 → n + counts (drop i xs) ≡ whole → n ≡ whole
ended counts xs i n whole le z h = let e : counts (drop i xs) ≡ counts [] = at_drop_all counts xs i le in omega (arith, e)

-- an item weighs less than all
module _ {X : Type 0} (weight : X → ℕ) (weights : List X → ℕ) (sum : (x : X) (xs : List X) → weights (x ∷ xs) ≡ weight x + weights xs + 1) where
  pub lighter : (xs : List X) (i : ℕ) (x : X) → i < length xs → x ≡ get_or xs i x → weight x < weights xs
  lighter [] i x lt is = absurd (omega arith)
  lighter (y ∷ ys) zero x lt is = let e : weights (y ∷ ys) ≡ weight y + weights ys + 1 = sum y ys in let f : weight x ≡ weight y = ap weight is in omega (arith, e, f)
  lighter (y ∷ ys) (suc i) x lt is =
      let e : weights (y ∷ ys) ≡ weight y + weights ys + 1 = sum y ys in
      let f : weight x < weights ys = lighter ys i x (omega arith) is in
      omega (arith, e, f)
