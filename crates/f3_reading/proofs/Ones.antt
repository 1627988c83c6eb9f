-- What is spelled in one way, part by part.
use Rattle.std.proofs.Common.{◌≡◌, ◌≢◌, List, [], ◌∷◌, Bool, true, false, Option, Some, None, refl, sym, ap, subst, ◌∙◌, inl, inr}
use Rattle.std.specs.Prelude.{◌⊎◌}
use Rattle.std.proofs.lemmas.Bool.{true≢false}
use Rattle.f3_tree.specs.declared.expression.Name.{Name as Identifier}
use Rattle.f3_words.specs.declared.item.Word.{Word}
use Rattle.f3_words.specs.declared.item.Word.TheVariants.{Colons, Comma, Open, Close}
use Rattle.f3_words.specs.declared.item.Item.{Item}
use Rattle.f3_words.specs.Words.{name_of}
use Rattle.f3_words.specs.Lists.{starts, is_comma, EatsRun, Separated, EatsList}
use Rattle.f3_reading.specs.Parts.{EatsWord, EatsName, Lacks, Enclosed, Perhaps, BehindComma}
use Rattle.f3_reading.specs.Names.{EatsEnclosedName, AreNames, EatsNames, EatsColons, IsName, IsLabel, IsNameList}
use Rattle.f3_reading.specs.Laws.{IsOne, IsOneWhole, WordsAreOne}
use Rattle.f3_reading.proofs.Words.{same_tail, same_word, lacked}

pub words : WordsAreOne
words v w ts r s a b = (same_word v w ts r s a b, sym (same_tail v w ts r s a b))

pub names : IsOne EatsName
unfolding EatsName
names x y ts r s a b =
    let heads : a.0 ∷ r ≡ b.0 ∷ s = sym a.1 ∙ b.1 in
    let first : a.0 ≡ b.0 = cc in
    (a.3 ∙ ap name_of first ∙ sym b.3, cc)

run_one : {A : Type 0} (Is : A → List Item → List Item → Type 0) → IsOne Is → (xs ys : List A) (ts r s : List Item)
    → EatsRun is_comma (Separated Is) xs ts r → EatsRun is_comma (Separated Is) ys ts s → (xs ≡ ys) × (r ≡ s)
run_one Is one [] [] ts r s a b = (refl, sym a.0 ∙ b.0)
run_one Is one [] (y ∷ ys) ts r s a b = absurd (true≢false (sym b.4 ∙ ap (starts is_comma) (sym b.3 ∙ a.0) ∙ a.1))
run_one Is one (x ∷ xs) [] ts r s a b = absurd (true≢false (sym a.4 ∙ ap (starts is_comma) (sym a.3 ∙ b.0) ∙ b.1))
run_one {A} Is one (x ∷ xs) (y ∷ ys) ts r s a b =
    let heads : a.0 ∷ a.1 ≡ b.0 ∷ b.1 = sym a.3 ∙ b.3 in
    let tails : a.1 ≡ b.1 = cc in
    let first = one x y b.1 a.2 b.2 (subst (λ (l : List Item). Is x l a.2) tails a.5) b.5 in
    let rest = run_one Is one xs ys b.2 r s (subst (λ (l : List Item). EatsRun is_comma (Separated Is) xs l r) first.1 a.6) b.6 in
    (ap (λ (v : A). v ∷ xs) first.0 ∙ ap (λ (l : List A). y ∷ l) rest.0, rest.1)

-- a list of what is spelled in one way
pub lists : {A : Type 0} (Is : A → List Item → List Item → Type 0) → IsOne Is → IsOne (EatsList Is)
lists {A} Is one xs ys ts r s a b =
    let first = one a.0 b.0 ts a.2 b.2 a.4 b.4 in
    let rest = run_one Is one a.1 b.1 b.2 r s (subst (λ (l : List Item). EatsRun is_comma (Separated Is) a.1 l r) first.1 a.5) b.5 in
    (a.3 ∙ ap (λ (v : A). v ∷ a.1) first.0 ∙ ap (λ (l : List A). b.0 ∷ l) rest.0 ∙ sym b.3, rest.1)

pub enclosed : {A : Type 0} (Is : A → List Item → List Item → Type 0) → IsOne Is → IsOne (Enclosed Is)
enclosed Is one x y ts r s a b =
    let opened = words Open Open ts a.0 b.0 a.2 b.2 in
    let inner = one x y b.0 a.1 b.1 (subst (λ (l : List Item). Is x l a.1) opened.1 a.3) b.3 in
    (inner.0, (words Close Close b.1 r s (subst (λ (l : List Item). EatsWord Close l r) inner.1 a.4) b.4).1)

pub perhaps : {A : Type 0} (w : Word) (Is : A → List Item → List Item → Type 0) → IsOne Is → IsOne (Perhaps w Is)
perhaps w Is one None None ts r s a b = (refl, sym a.0 ∙ b.0)
perhaps w Is one None (Some y) ts r s a b = absurd (lacked w ts b.0 a.1 b.1)
perhaps w Is one (Some x) None ts r s a b = absurd (lacked w ts a.0 b.1 a.1)
perhaps {A} w Is one (Some x) (Some y) ts r s a b =
    let sign = words w w ts a.0 b.0 a.1 b.1 in
    let part = one x y b.0 r s (subst (λ (l : List Item). Is x l r) sign.1 a.2) b.2 in
    (ap (λ (v : A). Some v) part.0, part.1)

pub behind_comma : {A : Type 0} (Are : List A → List Item → List Item → Type 0) → IsOne Are → IsOne (BehindComma Are)
behind_comma Are one xs ys ts r s (inl a) (inl b) =
    let comma = words Comma Comma ts a.0 b.0 a.1 b.1 in
    one xs ys b.0 r s (subst (λ (l : List Item). Are xs l r) comma.1 a.2) b.2
behind_comma Are one xs ys ts r s (inl a) (inr b) = absurd (lacked Comma ts a.0 b.2 a.1)
behind_comma Are one xs ys ts r s (inr a) (inl b) = absurd (lacked Comma ts b.0 a.2 b.1)
behind_comma Are one xs ys ts r s (inr a) (inr b) = (a.0 ∙ sym b.0, sym a.1 ∙ b.1)

-- ---- what is made of names

pub enclosed_names : IsOne EatsEnclosedName
unfolding EatsEnclosedName
enclosed_names x y ts r s a b = enclosed EatsName names x y ts r s a b

pub name_lists : IsOne AreNames
unfolding AreNames
name_lists xs ys ts r s a b = lists EatsName names xs ys ts r s a b

pub names_or_none : IsOne EatsNames
unfolding EatsNames
names_or_none xs ys ts r s (inl a) (inl b) = name_lists xs ys ts r s a.1 b.1
names_or_none xs ys ts r s (inl a) (inr b) = absurd (true≢false (sym a.0 ∙ b.2))
names_or_none xs ys ts r s (inr a) (inl b) = absurd (true≢false (sym b.0 ∙ a.2))
names_or_none xs ys ts r s (inr a) (inr b) = (a.0 ∙ sym b.0, sym a.1 ∙ b.1)

pub colons : IsOne EatsColons
unfolding EatsColons
colons true true ts r s a b = (refl, (words Colons Colons ts r s a b).1)
colons true false ts r s a b = absurd (lacked Colons ts r b.1 a)
colons false true ts r s a b = absurd (lacked Colons ts s a.1 b)
colons false false ts r s a b = (refl, sym a.0 ∙ b.0)

pub whole_names : IsOneWhole IsName
unfolding IsName
whole_names x y ts a b = (names x y ts [] [] a b).0

pub labels : IsOneWhole IsLabel
unfolding IsLabel
labels x y ts (inl a) (inl b) = a.1 ∙ sym b.1
labels x y ts (inl a) (inr b) = absurd (b.1 a.0)
labels x y ts (inr a) (inl b) = absurd (a.1 b.0)
labels x y ts (inr a) (inr b) = a.3 ∙ ap (λ (n : Identifier). Some n) (whole_names a.0 b.0 ts a.2 b.2) ∙ sym b.3

pub whole_lists : IsOneWhole IsNameList
unfolding IsNameList
whole_lists xs ys ts a b =
    let sign = colons a.0 b.0 ts a.1 b.1 a.2 b.2 in
    (name_lists xs ys b.1 [] [] (subst (λ (l : List Item). AreNames xs l []) sign.1 a.3) b.3).0
