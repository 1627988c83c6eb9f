-- Shapes.
use Rattle.std.proofs.Common.{◌≡◌, ℕ, ◌+◌, ◌<◌, List, [], ◌∷◌, ◌++◌, map, take, get_or, Option, Bool, ◌&&◌, length, refl, ap, sym, ◌∙◌}
use Rattle.std.specs.List.{flat_map, list_all}
use Rattle.std.proofs.lemmas.List.{take_more, map-append}
use Rattle.f3_type_rules.specs.Shapes.{product, multiplied}

pub flat_map_map : {X Y Z : Type 0} (f : Y → List Z) (g : X → Y) (xs : List X) → flat_map (λ x. f (g x)) xs ≡ flat_map f (map g xs)
flat_map_map f g [] = refl
flat_map_map f g (x ∷ xs) = ap (λ ys. f (g x) ++ ys) (flat_map_map f g xs)

pub map_map : {X Y Z : Type 0} (f : Y → Z) (g : X → Y) (xs : List X) → map (λ x. f (g x)) xs ≡ map f (map g xs)
map_map f g [] = refl
map_map f g (x ∷ xs) = ap (λ ys. f (g x) ∷ ys) (map_map f g xs)

pub all_map : {X Y : Type 0} (f : Y → Bool) (g : X → Y) (xs : List X) → list_all (λ x. f (g x)) xs ≡ list_all f (map g xs)
all_map f g [] = refl
all_map f g (x ∷ xs) = ap (λ b. f (g x) && b) (all_map f g xs)

product_push : (n : Option ℕ) (xs : List (Option ℕ)) (x : Option ℕ) → product n (xs ++ (x ∷ [])) ≡ multiplied (product n xs) x
product_push n [] x = refl
product_push n (y ∷ ys) x = product_push (multiplied n y) ys x

-- a product over a list, one factor more
pub product_more : {X : Type 0} (n : Option ℕ) (f : X → Option ℕ) (xs : List X) (i : ℕ) (x : X) → i < length xs → x ≡ get_or xs i x
    → multiplied (product n (map f (take i xs))) (f x) ≡ product n (map f (take (i + 1) xs))
product_more n f xs i x lt is = sym (
    ap (λ ys. product n (map f ys)) (take_more xs i x lt ∙ ap (λ y. take i xs ++ (y ∷ [])) (sym is))
    ∙ ap (product n) (map-append f (take i xs) (x ∷ []))
    ∙ product_push n (map f (take i xs)) (f x))
