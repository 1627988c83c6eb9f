-- What conditions and lists say.
use Rattle.std.proofs.Common.{◌≡◌, Bool, true, false, ◌&&◌, ◌||◌, not, List, [], ◌∷◌, ◌++◌, length, map, filter, cond, suc, Some, refl, sym, ap, ◌∙◌}
use Rattle.std.specs.List.{flat_map}
use Rattle.f3_meaning_whole.specs.Permitted.{Each}
use Rattle.f3_meaning_whole.specs.Formed.{all, only, same_truth}
use Rattle.f3_lawful_laws.proofs.Facts.{no, nothing, same, both}

-- ---- conditions

pub when_only : {A : Type 0} (b : Bool) (x : A) → b ≡ true → only b x ≡ Some x
when_only true x e = refl
when_only false x e = no (sym e)

pub only_some : {A : Type 0} (b : Bool) (x y : A) → only b x ≡ Some y → (b ≡ true) × (x ≡ y)
only_some true x y e = (refl, same e)
only_some false x y e = nothing e

pub same_self : (b : Bool) → same_truth b b ≡ true
same_self true = refl
same_self false = refl

pub neither : (a b : Bool) → (a || b) ≡ false → (a ≡ false) × (b ≡ false)
neither true b e = no e
neither false b e = (refl, e)

pub denied : (a : Bool) → not a ≡ false → a ≡ true
denied true e = refl
denied false e = no e

pub implied : (a b : Bool) → (not a || b) ≡ true → a ≡ true → b ≡ true
implied true b e h = e
implied false b e h = no (sym h)

-- ---- lists

pub long : {A B : Type 0} (f : A → B) (xs : List A) → length (map f xs) ≡ length xs
long f [] = refl
long f (x ∷ xs) = ap suc (long f xs)

pub all_each : {A : Type 0} (f : A → Bool) (xs : List A) → Each (λ (x : A). f x ≡ true) xs → all f xs ≡ true
all_each f [] h = refl
all_each f (x ∷ xs) h = both (f x) _ h.0 (all_each f xs h.1)

-- what all elements are, their views are
pub all_seen : {A B : Type 0} (f : A → Bool) (g : B → Bool) (view : A → B) → ((x : A) → f x ≡ g (view x)) → (xs : List A) → all f xs ≡ all g (map view xs)
all_seen f g view h [] = refl
all_seen f g view h (x ∷ xs) = ap (λ b. b && all f xs) (h x) ∙ ap (λ b. g (view x) && b) (all_seen f g view h xs)

pub each_joined : {A : Type 0} (P : A → Type 0) (xs ys : List A) → Each P xs → Each P ys → Each P (xs ++ ys)
each_joined P [] ys h k = k
each_joined P (x ∷ xs) ys h k = (h.0, each_joined P xs ys h.1 k)

pub each_so : {A : Type 0} (P Q : A → Type 0) → ((x : A) → P x → Q x) → (xs : List A) → Each P xs → Each Q xs
each_so P Q g [] h = tt
each_so P Q g (x ∷ xs) h = (g x h.0, each_so P Q g xs h.1)

pub each_taken : {A : Type 0} (P Q : A → Type 0) (f : A → Bool) → ((x : A) → P x → f x ≡ true → Q x) → (xs : List A) → Each P xs → Each Q (filter f xs)
each_taken P Q f g [] h = tt
each_taken P Q f g (x ∷ xs) h = go (f x) refl (each_taken P Q f g xs h.1)
  where
    go : (b : Bool) → f x ≡ b → Each Q (filter f xs) → Each Q (cond b (x ∷ filter f xs) (filter f xs))
    go true e rest = (g x h.0 e, rest)
    go false e rest = rest

pub each_mapped : {A B : Type 0} (P : A → Type 0) (Q : B → Type 0) (f : A → B) → ((x : A) → P x → Q (f x)) → (xs : List A) → Each P xs → Each Q (map f xs)
each_mapped P Q f g [] h = tt
each_mapped P Q f g (x ∷ xs) h = (g x h.0, each_mapped P Q f g xs h.1)

pub each_flat : {A B : Type 0} (P : A → Type 0) (Q : B → Type 0) (f : A → List B) → ((x : A) → P x → Each Q (f x)) → (xs : List A) → Each P xs → Each Q (flat_map f xs)
each_flat P Q f g [] h = tt
each_flat P Q f g (x ∷ xs) h = each_joined Q (f x) (flat_map f xs) (g x h.0) (each_flat P Q f g xs h.1)
