-- Parts that stand behind parts that are one.
use Rattle.std.proofs.Common.{◌≡◌, List, ◌∷◌, sym, ap, subst, ◌∙◌, inl, inr}
use Rattle.f3_words.specs.declared.item.Keyword.{Keyword}
use Rattle.f3_words.specs.declared.item.Word.{Word}
use Rattle.f3_words.specs.declared.item.Word.TheVariants as word
use Rattle.f3_words.specs.declared.item.Item.{Item}
use Rattle.f3_reading.specs.Parts.{EatsWord, EatsKeyword, Lacks, First}
use Rattle.f3_reading.specs.Laws.{IsOne, IsOneWhole}
use Rattle.f3_reading.proofs.Words.{same_word, lacked}
use Rattle.f3_reading.proofs.Ones.{words}

pub ap2 : {A B C : Type 0} (f : A → B → C) {x y : A} {u v : B} → x ≡ y → u ≡ v → f x u ≡ f y v
ap2 {A} {B} f {x} {y} {u} {v} p q = ap (λ (z : A). f z u) p ∙ ap (λ (z : B). f y z) q

pub ap3 : {A B C D : Type 0} (f : A → B → C → D) {x y : A} {u v : B} {s t : C} → x ≡ y → u ≡ v → s ≡ t → f x u s ≡ f y v t
ap3 {A} {B} {C} f {x} {y} {u} {v} {s} {t} p q r = ap (λ (z : A). f z u s) p ∙ ap (λ (z : B). f y z s) q ∙ ap (λ (z : C). f y v z) r

-- at tokens that are the same
pub along : {A : Type 0} (Is : A → List Item → List Item → Type 0) → IsOne Is → (x y : A) (ts us r s : List Item) → ts ≡ us → Is x ts r → Is y us s → (x ≡ y) × (r ≡ s)
along Is one x y ts us r s same a b = one x y us r s (subst (λ (l : List Item). Is x l r) same a) b

pub whole_along : {A : Type 0} (Is : A → List Item → Type 0) → IsOneWhole Is → (x y : A) (ts us : List Item) → ts ≡ us → Is x ts → Is y us → x ≡ y
whole_along Is one x y ts us same a b = one x y us (subst (λ (l : List Item). Is x l) same a) b

-- behind one word
pub sign : (w : Word) (ts r s : List Item) → EatsWord w ts r → EatsWord w ts s → r ≡ s
sign w ts r s a b = (words w w ts r s a b).1

pub sign_along : (w : Word) (ts us r s : List Item) → ts ≡ us → EatsWord w ts r → EatsWord w us s → r ≡ s
sign_along w ts us r s same a b = sign w us r s (subst (λ (l : List Item). EatsWord w l r) same a) b

pub lacked_along : (w : Word) (ts us r : List Item) → ts ≡ us → Lacks w ts → EatsWord w us r → ⊥
lacked_along w ts us r same none h = lacked w us r (subst (λ (l : List Item). Lacks w l) same none) h

-- two keywords at one front are one
pub same_keyword : (j k : Keyword) (ts r s : List Item) → EatsKeyword j ts r → EatsKeyword k ts s → j ≡ k
same_keyword j k ts r s a b = let words : word.Name j ≡ word.Name k = same_word (word.Name j) (word.Name k) ts r s a b in cc

pub front : (ts : List Item) (i j : Item) (a b : List Item) → ts ≡ i ∷ a → ts ≡ j ∷ b → (i ≡ j) × (a ≡ b)
front ts i j a b p q = let e : i ∷ a ≡ j ∷ b = sym p ∙ q in (cc, cc)

pub one_keyword : (i j : Item) (k l : Keyword) → i ≡ j → i.word ≡ word.Name k → j.word ≡ word.Name l → k ≡ l
one_keyword i j k l same v w = let e : word.Name k ≡ word.Name l = sym v ∙ ap (λ (x : Item). x.word) same ∙ w in cc

-- what stands behind a keyword, by that keyword
pub at_keyword : {A : Type 0} (Of : Keyword → A → List Item → List Item → Type 0) → ((k : Keyword) → IsOne (Of k)) → (x y : A) (i j : Item) (k l : Keyword) (a b ts r s : List Item)
    → ts ≡ i ∷ a → i.word ≡ word.Name k → Of k x a r → ts ≡ j ∷ b → j.word ≡ word.Name l → Of l y b s → (i ≡ j) × (x ≡ y) × (r ≡ s)
at_keyword Of one x y i j k l a b ts r s p v h q w g =
    let f = front ts i j a b p q in
    let same = one_keyword i j k l f.0 v w in
    let o = one l x y b r s (subst (λ (m : Keyword). Of m x b r) same (subst (λ (t : List Item). Of k x t r) f.1 h)) g in
    (f.0, o.0, o.1)

pub at_keyword_whole : {A : Type 0} (Of : Keyword → A → List Item → Type 0) → ((k : Keyword) → IsOneWhole (Of k)) → (x y : A) (i j : Item) (k l : Keyword) (a b ts : List Item)
    → ts ≡ i ∷ a → i.word ≡ word.Name k → Of k x a → ts ≡ j ∷ b → j.word ≡ word.Name l → Of l y b → x ≡ y
at_keyword_whole Of one x y i j k l a b ts p v h q w g =
    let f = front ts i j a b p q in
    let same = one_keyword i j k l f.0 v w in
    one l x y b (subst (λ (m : Keyword). Of m x b) same (subst (λ (t : List Item). Of k x t) f.1 h)) g

-- the first of two readings, or the other
pub first_of : {A : Type 0} (Is Other : A → List Item → Type 0) → IsOneWhole Is → IsOneWhole Other → IsOneWhole (First Is Other)
first_of Is Other one other x y ts (inl a) (inl b) = one x y ts a b
first_of Is Other one other x y ts (inl a) (inr b) = absurd (b.0 x a)
first_of Is Other one other x y ts (inr a) (inl b) = absurd (a.0 y b)
first_of Is Other one other x y ts (inr a) (inr b) = other x y ts a.1 b.1
