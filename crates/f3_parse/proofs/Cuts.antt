-- Lists that are cut in two.
use Rattle.std.proofs.Common.{◌≡◌, List, [], ◌∷◌, ◌++◌, Option, Some, None, ◌⊎◌, inl, inr, refl, sym, ap, subst, ◌∙◌, append_assoc}
use Rattle.std.specs.Prelude.{option_and_then}
use Rattle.f3_blocks.specs.Pieces.{Placed}
use Rattle.f3_parse.specs.Nested.{IsTooDeep, IsShallow}

pub then_some : {A B : Type 0} (f : A → Option B) (o : Option A) (y : B) → option_and_then f o ≡ Some y → (x : A) × (o ≡ Some x) × (f x ≡ Some y)
then_some f (Some x) y e = (x, refl, e)
then_some f None y e = absurd (cc)

-- two ways to cut a list
pub record Longer {A : Type 0} (xs ys more rest : List A) : Type 0 where
  pub one : A
  pub others : List A
  pub is : xs ≡ ys ++ one ∷ others
  pub behind : more ≡ one ∷ (others ++ rest)

abbrev pub Cuts : {A : Type 0} → List A → List A → List A → List A → Type 0
Cuts xs ys ks bs = ((xs ≡ ks) × (ys ≡ bs)) ⊎ (Longer ks xs ys bs ⊎ Longer xs ks bs ys)

cuts_more : {A : Type 0} (x : A) (xs ys ks bs : List A) → Cuts xs ys ks bs → Cuts (x ∷ xs) ys (x ∷ ks) bs
cuts_more {A} x xs ys ks bs (inl h) = inl (ap (λ (l : List A). x ∷ l) h.0, h.1)
cuts_more {A} x xs ys ks bs (inr (inl h)) = inr (inl (record { one = h.one; others = h.others; is = ap (λ (l : List A). x ∷ l) h.is; behind = h.behind }))
cuts_more {A} x xs ys ks bs (inr (inr h)) = inr (inr (record { one = h.one; others = h.others; is = ap (λ (l : List A). x ∷ l) h.is; behind = h.behind }))

pub two_cuts : {A : Type 0} (xs ys ks bs : List A) → xs ++ ys ≡ ks ++ bs → Cuts xs ys ks bs
two_cuts [] ys [] bs e = inl (refl, e)
two_cuts [] ys (a ∷ ks) bs e = inr (inl (record { one = a; others = ks; is = refl; behind = e }))
two_cuts (x ∷ xs) ys [] bs e = inr (inr (record { one = x; others = xs; is = refl; behind = sym e }))
two_cuts {A} (x ∷ xs) ys (a ∷ ks) bs e =
    let head : x ≡ a = cc in
    let tail : xs ++ ys ≡ ks ++ bs = cc in
    subst (λ (y : A). Cuts (x ∷ xs) ys (y ∷ ks) bs) head (cuts_more x xs ys ks bs (two_cuts xs ys ks bs tail))

-- ---- where no 65th construct is opened

pub none_shallow : IsShallow []
none_shallow [] rest p e h = absurd (cc)
none_shallow (q ∷ front) rest p e h = absurd (cc)

pub shallow_more : (ps : List Placed) (p : Placed) → IsShallow ps → (IsTooDeep ps p.form → ⊥) → IsShallow (ps ++ p ∷ [])
shallow_more ps p before here front rest q e deep = by (two_cuts ps (p ∷ []) front (q ∷ rest) e)
  where
    tail : (others : List Placed) → others ++ q ∷ rest ≡ [] → ⊥
    tail [] h = absurd (cc)
    tail (x ∷ others) h = absurd (cc)

    by : Cuts ps (p ∷ []) front (q ∷ rest) → ⊥
    by (inl h) =
        let same : q ≡ p = let w = h.1 in cc in
        here (subst (λ (x : Placed). IsTooDeep ps x.form) same (subst (λ (x : List Placed). IsTooDeep x q.form) (sym h.0) deep))
    by (inr (inl h)) = tail h.others (let w = h.behind in cc)
    by (inr (inr h)) =
        let same : h.one ≡ q = let w = h.behind in cc in
        before front h.others h.one h.is (subst (λ (x : Placed). IsTooDeep front x.form) (sym same) deep)

pub shallow_front : (ps qs : List Placed) → IsShallow (ps ++ qs) → IsShallow ps
shallow_front ps qs all front rest p e = all front (rest ++ qs) p (ap (λ (x : List Placed). x ++ qs) e ∙ append_assoc front (p ∷ rest) qs)
