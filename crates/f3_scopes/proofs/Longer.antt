-- Lists that a loop makes longer: one item more.
use Rattle.std.proofs.Common.{◌≡◌, sym, ap, ◌∙◌, ℕ, ◌+◌, ◌<◌, List, [], ◌∷◌, ◌++◌, map, length, drop, get_or, append_assoc}
use Rattle.std.proofs.lemmas.List.{at_drop_more, map-append}

pub grown_at : {Y Z : Type 0} (f : Y → List Z) (rows : List Y → List Z) → ((y : Y) (ys : List Y) → rows (y ∷ ys) ≡ f y ++ rows ys)
    → (ys : List Y) (i : ℕ) (d : Y) (before after whole : List Z) → i < length ys
    → after ≡ before ++ f (get_or ys i d) → before ++ rows (drop i ys) ≡ whole → after ++ rows (drop (i + 1) ys) ≡ whole
grown_at f rows more ys i d before after whole lt e h =
    ap (λ zs. zs ++ rows (drop (i + 1) ys)) e
    ∙ append_assoc before (f (get_or ys i d)) (rows (drop (i + 1) ys))
    ∙ ap (λ zs. before ++ zs) (sym (at_drop_more rows ys i d lt ∙ more (get_or ys i d) (drop (i + 1) ys))) ∙ h

pub grown_more : {Y Z : Type 0} (f : Y → List Z) (rows : List Y → List Z) → ((y : Y) (ys : List Y) → rows (y ∷ ys) ≡ f y ++ rows ys)
    → (ys : List Y) (i : ℕ) (y : Y) (before after whole : List Z) → i < length ys → y ≡ get_or ys i y
    → after ≡ before ++ f y → before ++ rows (drop i ys) ≡ whole → after ++ rows (drop (i + 1) ys) ≡ whole
grown_more f rows more ys i y before after whole lt is e h = grown_at f rows more ys i y before after whole lt (e ∙ ap (λ z. before ++ f z) is) h

-- by a push
pub pushed_more : {Y T Z : Type 0} (view : T → Z) (f : Y → Z) (rows : List Y → List Z) → ((y : Y) (ys : List Y) → rows (y ∷ ys) ≡ f y ∷ rows ys)
    → (ys : List Y) (i : ℕ) (y : Y) (before after : List T) (t : T) (whole : List Z) → i < length ys → y ≡ get_or ys i y
    → after ≡ before ++ t ∷ [] → view t ≡ f y → map view before ++ rows (drop i ys) ≡ whole → map view after ++ rows (drop (i + 1) ys) ≡ whole
pushed_more view f rows more ys i y before after t whole lt is e same h =
    grown_more (λ x. f x ∷ []) rows more ys i y (map view before) (map view after) whole lt is
    (ap (map view) e ∙ map-append view before (t ∷ []) ∙ ap (λ z. map view before ++ z ∷ []) same) h
