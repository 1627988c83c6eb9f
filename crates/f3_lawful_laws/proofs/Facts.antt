-- What empty lists and true conjunctions say.
use Rattle.std.proofs.Common.{◌≡◌, Bool, true, false, ◌&&◌, ◌||◌, not, List, [], ◌∷◌, ◌++◌, map, Option, Some, None, refl, sym, ap, ◌∙◌, if◌then◌else◌}
use Rattle.std.specs.List.{flat_map}
use Rattle.std.proofs.lemmas.Bool.{true≢false}
use Rattle.f3_rules.specs.declared.breaks.Break.{Break}
use Rattle.f3_kinds.specs.Rows.{unless}
use Rattle.f3_meaning_whole.specs.Permitted.{Each}

pub no : {A : Type 0} → true ≡ false → A
no e = absurd (true≢false e)

abbrev is_nil : {A : Type 0} → List A → Bool
is_nil [] = true
is_nil (x ∷ xs) = false

pub not_nil : {A B : Type 0} {x : A} {xs : List A} → (x ∷ xs) ≡ [] → B
not_nil e = no (sym (ap is_nil e))

pub first : {A : Type 0} (xs ys : List A) → xs ++ ys ≡ [] → xs ≡ []
first [] ys e = refl
first (x ∷ xs) ys e = not_nil e

pub second : {A : Type 0} (xs ys : List A) → xs ++ ys ≡ [] → ys ≡ []
second [] ys e = e
second (x ∷ xs) ys e = not_nil e

pub holds : (b : Bool) (x : Break) → unless b x ≡ [] → b ≡ true
holds true x e = refl
holds false x e = not_nil e

pub both : (a b : Bool) → a ≡ true → b ≡ true → (a && b) ≡ true
both a b e f = ap (λ (x : Bool). x && b) e ∙ f

pub left : (a b : Bool) → (a && b) ≡ true → a ≡ true
left true b e = refl
left false b e = no (sym e)

pub right : (a b : Bool) → (a && b) ≡ true → b ≡ true
right true b e = e
right false b e = no (sym e)

pub otherwise : (a b : Bool) → (a || b) ≡ true → a ≡ false → b ≡ true
otherwise true b e f = no f
otherwise false b e f = e

pub negated : (b : Bool) → b ≡ false → not b ≡ true
negated true e = no e
negated false e = refl

pub negated_back : (b : Bool) → not b ≡ true → b ≡ false
negated_back true e = no (sym e)
negated_back false e = refl

pub when_true : {A : Type 0} (b : Bool) (x y : A) → b ≡ true → (if b then x else y) ≡ x
when_true true x y e = refl
when_true false x y e = no (sym e)

pub when_false : {A : Type 0} (b : Bool) (x y : A) → b ≡ false → (if b then x else y) ≡ y
when_false true x y e = no e
when_false false x y e = refl

-- of each element of a list with nothing
pub none_of : {A B : Type 0} (f : A → List B) (xs : List A) → flat_map f xs ≡ [] → Each (λ (x : A). f x ≡ []) xs
none_of f [] e = tt
none_of f (x ∷ xs) e = (first (f x) (flat_map f xs) e, none_of f xs (second (f x) (flat_map f xs) e))

abbrev pub is_some : {A : Type 0} → Option A → Bool
is_some None = false
is_some (Some x) = true

pub nothing : {A : Type 0} {B : Type 0} {x : A} → None ≡ Some x → B
nothing e = no (sym (ap is_some e))

abbrev pub or_given : {A : Type 0} → A → Option A → A
or_given x None = x
or_given x (Some y) = y

pub same : {A : Type 0} {x y : A} → Some x ≡ Some y → x ≡ y
same {A} {x} {y} e = ap (or_given x) e

-- ---- lists that are joined or mapped

joined_nil : {B : Type 0} (xs ys : List B) → xs ≡ [] → ys ≡ [] → xs ++ ys ≡ []
joined_nil xs ys e f = ap (λ z. z ++ ys) e ∙ f

flat_joined : {A B : Type 0} (f : A → List B) (xs ys : List A) → flat_map f (xs ++ ys) ≡ [] → flat_map f xs ≡ []
flat_joined f [] ys e = refl
flat_joined f (x ∷ xs) ys e = joined_nil (f x) (flat_map f xs) (first (f x) _ e) (flat_joined f xs ys (second (f x) _ e))

pub none_before : {A B : Type 0} (f : A → List B) (xs ys : List A) → flat_map f (xs ++ ys) ≡ [] → flat_map f xs ≡ []
none_before f xs ys e = flat_joined f xs ys e

pub none_behind : {A B : Type 0} (f : A → List B) (xs ys : List A) → flat_map f (xs ++ ys) ≡ [] → flat_map f ys ≡ []
none_behind f [] ys e = e
none_behind f (x ∷ xs) ys e = none_behind f xs ys (second (f x) _ e)

pub none_mapped : {A B C : Type 0} (f : B → List C) (g : A → B) (xs : List A) → flat_map f (map g xs) ≡ [] → Each (λ (x : A). f (g x) ≡ []) xs
none_mapped f g [] e = tt
none_mapped f g (x ∷ xs) e = (first (f (g x)) _ e, none_mapped f g xs (second (f (g x)) _ e))
