-- What was noted in two steps.
use Rattle.std.proofs.Common.{map, append_assoc, ◌≡◌, ℕ, ◌+◌, ◌<◌, ◌≤◌, length, drop, get_or, List, [], ◌∷◌, ◌++◌, Option, sym, ap, ◌∙◌}
use Rattle.std.specs.List.{flat_map}
use Rattle.std.proofs.lemmas.List.{at_drop_more, at_drop_all, append-nil}
use Rattle.f3_rules.specs.declared.breaks.Break.{Break}
use Rattle.f3_rules.specs.Least.{earlier_of, first_of}
use Rattle.f3_rules.proofs.Firsts.{earlier_assoc, earlier_none, first-append}
use Rattle.f3_typed_parts.specs.Noted.{noted}

pub noted_more : (a : Option Break) (xs ys : List Break) → noted (noted a xs) ys ≡ noted a (xs ++ ys)
unfolding noted
noted_more a xs ys = earlier_assoc a (first_of xs) (first_of ys) ∙ ap (earlier_of a) (sym (first-append xs ys))

pub noted_none : (a : Option Break) → noted a [] ≡ a
unfolding noted
noted_none a = earlier_none a

-- A loop over the items of a list, each of which has a list of breaks: one item more.
pub noted_step : {X : Type 0} (row : X → List Break) (xs : List X) (i : ℕ) (d : X) (before after whole : Option Break) → i < length xs
    → after ≡ noted before (row (get_or xs i d))
    → noted before (flat_map row (drop i xs)) ≡ whole
    → noted after (flat_map row (drop (i + 1) xs)) ≡ whole
noted_step row xs i d before after whole lt e h =
    ap (λ a. noted a (flat_map row (drop (i + 1) xs))) e
    ∙ noted_more before (row (get_or xs i d)) (flat_map row (drop (i + 1) xs))
    ∙ ap (noted before) (sym (at_drop_more (flat_map row) xs i d lt))
    ∙ h

-- at the end of the list
pub noted_done : {X : Type 0} (rows : List X → List Break) (xs : List X) (i : ℕ) (first whole : Option Break) → length xs ≤ i → rows [] ≡ []
    → noted first (rows (drop i xs)) ≡ whole → first ≡ whole
noted_done rows xs i first whole le e h = sym (noted_none first) ∙ ap (noted first) (sym (at_drop_all rows xs i le ∙ e)) ∙ h

-- A loop that pushes what it makes of each item: one item more, and at the end.
pub pushed_more : {X Y : Type 0} (f : X → Y) (xs : List X) (i : ℕ) (x : X) (ys ys' whole : List Y) (y : Y) → i < length xs → x ≡ get_or xs i x → y ≡ f x → ys' ≡ ys ++ (y ∷ [])
    → ys ++ map f (drop i xs) ≡ whole → ys' ++ map f (drop (i + 1) xs) ≡ whole
pushed_more f xs i x ys ys' whole y lt is e t h =
    ap (λ zs. zs ++ map f (drop (i + 1) xs)) (t ∙ ap (λ z. ys ++ (z ∷ [])) e)
    ∙ append_assoc ys (f x ∷ []) (map f (drop (i + 1) xs))
    ∙ ap (λ zs. ys ++ zs) (sym (at_drop_more (map f) xs i x lt ∙ ap (λ z. f z ∷ map f (drop (i + 1) xs)) (sym is)))
    ∙ h

pub pushed_done : {X Y : Type 0} (f : X → Y) (xs : List X) (i : ℕ) (ys whole : List Y) → length xs ≤ i → ys ++ map f (drop i xs) ≡ whole → ys ≡ whole
pushed_done f xs i ys whole le h = sym (append-nil ys) ∙ ap (λ zs. ys ++ zs) (sym (at_drop_all (map f) xs i le)) ∙ h

-- the same for an item with a name of its own
pub item_step : {X : Type 0} (row : X → List Break) (xs : List X) (i : ℕ) (x : X) (before after whole : Option Break) → i < length xs → x ≡ get_or xs i x
    → after ≡ noted before (row x)
    → noted before (flat_map row (drop i xs)) ≡ whole
    → noted after (flat_map row (drop (i + 1) xs)) ≡ whole
item_step row xs i x before after whole lt is e h = noted_step row xs i x before after whole lt (e ∙ ap (λ z. noted before (row z)) is) h
