-- Reading elements one after the other, as a loop does.
use Rattle.std.proofs.Common.{◌≡◌, ◌≤◌, List, [], ◌∷◌, ◌++◌, Bool, true, false, length, refl, sym, ap, subst, ◌∙◌, append_assoc, arith}
use Rattle.std.proofs.lemmas.List.{append-nil}
use Rattle.std.proofs.lemmas.Bool.{true≢false}
use Rattle.f3_words.specs.declared.item.Word.{Word}
use Rattle.f3_words.specs.declared.item.Item.{Item}
use Rattle.f3_words.specs.Lists.{starts, EatsRun}
use Rattle.f3_words.specs.declared.error.ReadError.{ReadError}
use Rattle.f3_words.specs.declared.error.ReadError.TheVariants.{Memory, NoForm}
use Rattle.f3_words.specs.Reads.{Refused, IsRead, Fails, AreBehind}

-- What was found so far goes on with what the rest has, and in no other way.
pub record SoFar {A : Type 0} (test : Word → Bool) (Is : A → Item → List Item → List Item → Type 0) (ts : List Item) (found : List A) (rest : List Item) : Type 0 where
  pub goes_on : (xs : List A) (r : List Item) → EatsRun test Is xs rest r → EatsRun test Is (found ++ xs) ts r
  pub only : (all : List A) (r : List Item) → EatsRun test Is all ts r → (xs : List A) × (all ≡ found ++ xs) × EatsRun test Is xs rest r

pub begins : {A : Type 0} (test : Word → Bool) (Is : A → Item → List Item → List Item → Type 0) (ts : List Item) → SoFar test Is ts [] ts
begins test Is ts = record { goes_on = λ xs r h. h; only = λ all r h. (all, refl, h) }

-- a list's head and tail
pub parts : (a b : Item) (x y : List Item) → a ∷ x ≡ b ∷ y → (a ≡ b) × (x ≡ y)
parts a b x y e = (cc, cc)

-- what goes on at a token that passes goes on with its element
next : {A : Type 0} (test : Word → Bool) (Is : A → Item → List Item → List Item → Type 0) (rest tail after : List Item) (i : Item) (x : A) (all : List A) (r : List Item)
    → rest ≡ i ∷ tail → test i.word ≡ true → IsRead (λ y. Is y i) tail x after → EatsRun test Is all rest r → (xs : List A) × (all ≡ x ∷ xs) × EatsRun test Is xs after r
next test Is rest tail after i x [] r is passes a h = absurd (true≢false (sym passes ∙ ap (starts test) (sym is ∙ h.0) ∙ h.1))
next {A} test Is rest tail after i x (y ∷ ys) r is passes a h =
    let p = parts i h.0 tail h.1 (sym is ∙ h.3) in
    let eats = subst (λ (j : Item). Is y j tail h.2) (sym p.0) (subst (λ (l : List Item). Is y h.0 l h.2) (sym p.1) h.5) in
    let same = a.only y h.2 eats in
    (ys, ap (λ (z : A). z ∷ ys) same.0, subst (λ (l : List Item). EatsRun test Is ys l r) same.1 h.6)

pub one_more : {A : Type 0} (test : Word → Bool) (Is : A → Item → List Item → List Item → Type 0) (ts rest tail after : List Item) (i : Item) (found : List A) (x : A)
    → SoFar test Is ts found rest → rest ≡ i ∷ tail → test i.word ≡ true → IsRead (λ y. Is y i) tail x after → SoFar test Is ts (found ++ x ∷ []) after
one_more {A} test Is ts rest tail after i found x s is passes a = record {
  goes_on = λ xs r h. subst (λ (l : List A). EatsRun test Is l ts r) (sym (append_assoc found (x ∷ []) xs)) (s.goes_on (x ∷ xs) r (i, tail, after, is, passes, a.eats, h));
  only = λ all r h.
      let w = s.only all r h in
      let n = next test Is rest tail after i x w.0 r is passes a w.2 in
      (n.0, w.1 ∙ ap (λ (l : List A). found ++ l) n.1 ∙ sym (append_assoc found (x ∷ []) n.0), n.2);
}

-- no element goes on
over : {A : Type 0} (test : Word → Bool) (Is : A → Item → List Item → List Item → Type 0) (rest : List Item) (xs : List A) (r : List Item)
    → starts test rest ≡ false → EatsRun test Is xs rest r → (xs ≡ []) × (r ≡ rest)
over test Is rest [] r none h = (refl, sym h.0)
over test Is rest (x ∷ xs) r none h = absurd (true≢false (sym h.4 ∙ ap (starts test) (sym h.3) ∙ none))

pub is_over : {A : Type 0} (test : Word → Bool) (Is : A → Item → List Item → List Item → Type 0) (ts rest : List Item) (found : List A)
    → SoFar test Is ts found rest → starts test rest ≡ false → IsRead (EatsRun test Is) ts found rest
is_over {A} test Is ts rest found s none = record {
  eats = subst (λ (l : List A). EatsRun test Is l ts rest) (append-nil found) (s.goes_on [] rest (refl, none));
  only = λ all r h.
      let w = s.only all r h in
      let o = over test Is rest w.0 r none w.2 in
      (w.1 ∙ ap (λ (l : List A). found ++ l) o.0 ∙ append-nil found, o.1);
}

no_next : {A : Type 0} (test : Word → Bool) (Is : A → Item → List Item → List Item → Type 0) (rest tail : List Item) (i : Item) (all : List A) (r : List Item)
    → rest ≡ i ∷ tail → test i.word ≡ true → Fails (λ y. Is y i) tail → EatsRun test Is all rest r → ⊥
no_next test Is rest tail i [] r is passes a h = true≢false (sym passes ∙ ap (starts test) (sym is ∙ h.0) ∙ h.1)
no_next test Is rest tail i (y ∷ ys) r is passes a h =
    let p = parts i h.0 tail h.1 (sym is ∙ h.3) in
    a y h.2 (subst (λ (j : Item). Is y j tail h.2) (sym p.0) (subst (λ (l : List Item). Is y h.0 l h.2) (sym p.1) h.5))

-- a token that passes, and no element behind it
pub element_fails : {A : Type 0} (test : Word → Bool) (Is : A → Item → List Item → List Item → Type 0) (ts rest tail : List Item) (i : Item) (found : List A)
    → SoFar test Is ts found rest → rest ≡ i ∷ tail → test i.word ≡ true → Fails (λ y. Is y i) tail → Fails (EatsRun test Is) ts
element_fails test Is ts rest tail i found s is passes a all r h =
    let w = s.only all r h in
    no_next test Is rest tail i w.0 r is passes a w.2

-- a first element, those found behind it so far, and what stands behind them
pub record Listed {A : Type 0} (test : Word → Bool) (Is : A → Item → List Item → List Item → Type 0) (first : A) (ts : List Item) (all : List A) (rest : List Item) : Type 0 where
  pub others : List A
  pub is : all ≡ first ∷ others
  pub so_far : SoFar test Is ts others rest
  pub shorter : length rest ≤ length ts

-- one refusal from another
pub refused : (e : ReadError) (P Q : Type 0) → (P → Q) → Refused e P → Refused e Q
refused Memory P Q f h = tt
refused NoForm P Q f h = f h

-- elements behind a first one
pub behind_reads : {A : Type 0} (Are : List A → List Item → List Item → Type 0) (first : A) (ts r : List Item) (all others : List A) → all ≡ first ∷ others → IsRead Are ts others r → IsRead (AreBehind first Are) ts all r
behind_reads {A} Are first ts r all others is a = record {
  eats = (others, is, a.eats);
  only = λ ys s h.
      let same = a.only h.0 s h.2 in
      (h.1 ∙ ap (λ (x : List A). first ∷ x) same.0 ∙ sym is, same.1);
}

pub behind_fails : {A : Type 0} (Are : List A → List Item → List Item → Type 0) (first : A) (ts : List Item) → Fails Are ts → Fails (AreBehind first Are) ts
behind_fails Are first ts a ys s h = a h.0 s h.2

-- one element more, in a list with a first one
pub listed_more : {A : Type 0} (test : Word → Bool) (Is : A → Item → List Item → List Item → Type 0) (ts rest tail after : List Item) (i : Item) (first : A) (all : List A) (x : A)
    → Listed test Is first ts all rest → rest ≡ i ∷ tail → test i.word ≡ true → IsRead (λ y. Is y i) tail x after → length after ≤ length tail → Listed test Is first ts (all ++ x ∷ []) after
listed_more {A} test Is ts rest tail after i first all x s is passes a le = record {
  others = s.others ++ x ∷ [];
  is = ap (λ (l : List A). l ++ x ∷ []) s.is;
  so_far = one_more test Is ts rest tail after i s.others x s.so_far is passes a;
  shorter = let longer = ap length is in omega (arith, s.shorter, le, longer);
}

pub listed_over : {A : Type 0} (test : Word → Bool) (Is : A → Item → List Item → List Item → Type 0) (ts rest : List Item) (first : A) (all : List A)
    → Listed test Is first ts all rest → starts test rest ≡ false → IsRead (AreBehind first (EatsRun test Is)) ts all rest
listed_over test Is ts rest first all s none = behind_reads (EatsRun test Is) first ts rest all s.others s.is (is_over test Is ts rest s.others s.so_far none)

pub listed_fails : {A : Type 0} (test : Word → Bool) (Is : A → Item → List Item → List Item → Type 0) (ts rest tail : List Item) (i : Item) (first : A) (all : List A)
    → Listed test Is first ts all rest → rest ≡ i ∷ tail → test i.word ≡ true → Fails (λ y. Is y i) tail → Fails (AreBehind first (EatsRun test Is)) ts
listed_fails test Is ts rest tail i first all s is passes a = behind_fails (EatsRun test Is) first ts (element_fails test Is ts rest tail i s.others s.so_far is passes a)
