-- Lists that a loop makes longer: one item more.
use Rattle.std.proofs.Common.{◌≡◌, sym, ap, ◌∙◌, ℕ, ◌+◌, ◌<◌, ◌≤◌, List, [], ◌∷◌, ◌++◌, map, length, drop, get_or, append-nil, append_assoc}
use Rattle.std.proofs.lemmas.List.{at_drop_all, at_drop_more, length-map, length-append, map-append}

pub grown_at : {Y Z : Type 0} (f : Y → List Z) (rows : List Y → List Z) → ((y : Y) (ys : List Y) → rows (y ∷ ys) ≡ f y ++ rows ys)
    → (ys : List Y) (i : ℕ) (d : Y) (before after whole : List Z) → i < length ys
    → after ≡ before ++ f (get_or ys i d) → before ++ rows (drop i ys) ≡ whole → after ++ rows (drop (i + 1) ys) ≡ whole
grown_at f rows more ys i d before after whole lt e h =
    ap (λ zs. zs ++ rows (drop (i + 1) ys)) e
    ∙ append_assoc before (f (get_or ys i d)) (rows (drop (i + 1) ys))
    ∙ ap (λ zs. before ++ zs) (sym (at_drop_more rows ys i d lt ∙ more (get_or ys i d) (drop (i + 1) ys))) ∙ h

pub grown_more : {Y Z : Type 0} (f : Y → List Z) (rows : List Y → List Z) → ((y : Y) (ys : List Y) → rows (y ∷ ys) ≡ f y ++ rows ys)
    → (ys : List Y) (i : ℕ) (y : Y) (before after whole : List Z) → i < length ys → y ≡ get_or ys i y
    → after ≡ before ++ f y → before ++ rows (drop i ys) ≡ whole → after ++ rows (drop (i + 1) ys) ≡ whole
grown_more f rows more ys i y before after whole lt is e h = grown_at f rows more ys i y before after whole lt (e ∙ ap (λ z. before ++ f z) is) h

-- the end of the loop
pub grown_whole : {Y Z : Type 0} (rows : List Y → List Z) → rows [] ≡ [] → (ys : List Y) (i : ℕ) (before whole : List Z) → length ys ≤ i
    → before ++ rows (drop i ys) ≡ whole → before ≡ whole
grown_whole rows none ys i before whole le h = sym (ap (λ zs. before ++ zs) (at_drop_all rows ys i le ∙ none) ∙ append-nil before) ∙ h

-- one item more by a push
pub pushed_more : {Y T Z : Type 0} (view : T → Z) (f : Y → Z) (rows : List Y → List Z) → ((y : Y) (ys : List Y) → rows (y ∷ ys) ≡ f y ∷ rows ys)
    → (ys : List Y) (i : ℕ) (y : Y) (before after : List T) (t : T) (whole : List Z) → i < length ys → y ≡ get_or ys i y
    → after ≡ before ++ t ∷ [] → view t ≡ f y → map view before ++ rows (drop i ys) ≡ whole → map view after ++ rows (drop (i + 1) ys) ≡ whole
pushed_more view f rows more ys i y before after t whole lt is e same h =
    grown_more (λ x. f x ∷ []) rows more ys i y (map view before) (map view after) whole lt is
    (ap (map view) e ∙ map-append view before (t ∷ []) ∙ ap (λ z. map view before ++ z ∷ []) same) h

-- a loop over items, each of which makes some by their number: one item more
module _ {T X Z : Type 0} (view : T → Z) (first : ℕ → X → List Z) (from : ℕ → List X → List Z)
    (more : (n : ℕ) (x : X) (xs : List X) → from n (x ∷ xs) ≡ first n x ++ from (n + length (first n x)) xs) where
  pub numbered_more : (xs : List X) (i : ℕ) (x : X) (before after : List T) (whole : List Z) → i < length xs → x ≡ get_or xs i x
      → map view after ≡ map view before ++ first (length before) x
      → map view before ++ from (length before) (drop i xs) ≡ whole
      → map view after ++ from (length after) (drop (i + 1) xs) ≡ whole
  numbered_more xs i x before after whole lt is e h =
      let y = get_or xs i x in
      let e' : map view after ≡ map view before ++ first (length before) y = e ∙ ap (λ z. map view before ++ first (length before) z) is in
      let long : length after ≡ length before + length (first (length before) y) =
      sym (length-map after view) ∙ ap length e' ∙ length-append (map view before) (first (length before) y) ∙ ap (λ n. n + length (first (length before) y)) (length-map before view) in
      ap (λ n. map view after ++ from n (drop (i + 1) xs)) long
      ∙ ap (λ zs. zs ++ from (length before + length (first (length before) y)) (drop (i + 1) xs)) e'
      ∙ append_assoc (map view before) (first (length before) y) (from (length before + length (first (length before) y)) (drop (i + 1) xs))
      ∙ ap (λ zs. map view before ++ zs) (sym (at_drop_more (λ ys. from (length before) ys) xs i x lt ∙ more (length before) y (drop (i + 1) xs)))
      ∙ h
