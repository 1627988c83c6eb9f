-- Reading prefixes one after the other.
use Rattle.std.proofs.Common.{◌≡◌, List, [], ◌∷◌, ◌++◌, true, false, Option, Some, None, refl, sym, ap, subst, ◌∙◌, append_assoc}
use Rattle.std.specs.Prelude.{option_and_then}
use Rattle.std.proofs.lemmas.List.{append-nil}
use Rattle.std.proofs.lemmas.Bool.{true≢false}
use Rattle.f3_words.specs.declared.item.Item.{Item}
use Rattle.f3_words.specs.Lists.{starts}
use Rattle.f3_words.specs.declared.error.ReadError.{ReadError}
use Rattle.f3_words.specs.declared.error.ReadError.TheVariants.{Memory, NoForm}
use Rattle.f3_words.specs.Reads.{IsRead, Fails, Refused}
use Rattle.f3_declarations.specs.declared.procedures.Prefix.{Prefix}
use Rattle.f3_declarations.specs.declared.procedures.Prefixes.{Prefixes}
use Rattle.f3_declarations.specs.Specifications.{is_prefix}
use Rattle.f3_declarations.specs.Specifications.{EatsPrefix, ArePrefixes, EatsPrefixes, no_prefix, with_prefix, with_prefixes}

-- What was found so far goes on with the prefixes that the rest begins with, and in no other way.
pub record SoFar (ts : List Item) (together : Prefixes) (rest : List Item) : Type 0 where
  pub found : List Prefix
  pub sum : with_prefixes no_prefix found ≡ Some together
  pub goes_on : (xs : List Prefix) (r : List Item) → ArePrefixes xs rest r → ArePrefixes (found ++ xs) ts r
  pub only : (all : List Prefix) (r : List Item) → ArePrefixes all ts r → (xs : List Prefix) × (all ≡ found ++ xs) × ArePrefixes xs rest r

pub begins : (ts : List Item) → SoFar ts no_prefix ts
begins ts = record { found = []; sum = refl; goes_on = λ xs r h. h; only = λ all r h. (all, refl, h) }

-- the prefixes of two lists, one behind the other
sum_more : (p : Prefixes) (xs ys : List Prefix) → with_prefixes p (xs ++ ys) ≡ option_and_then (λ q. with_prefixes q ys) (with_prefixes p xs)
sum_more p [] ys = refl
sum_more p (x ∷ xs) ys = by (λ q. sum_more q xs ys) (with_prefix p x)
  where
    by : ((q : Prefixes) → with_prefixes q (xs ++ ys) ≡ option_and_then (λ z. with_prefixes z ys) (with_prefixes q xs)) → (o : Option Prefixes) → option_and_then (λ q. with_prefixes q (xs ++ ys)) o ≡ option_and_then (λ q. with_prefixes q ys) (option_and_then (λ q. with_prefixes q xs) o)
    by each None = refl
    by each (Some q) = each q

next : (rest after : List Item) (x : Prefix) (all : List Prefix) (r : List Item) → starts is_prefix rest ≡ true → IsRead EatsPrefix rest x after → ArePrefixes all rest r → (xs : List Prefix) × (all ≡ x ∷ xs) × ArePrefixes xs after r
unfolding ArePrefixes
next rest after x [] r passes a h = absurd (true≢false (sym passes ∙ h.1))
next rest after x (y ∷ ys) r passes a h =
    let same = a.only y h.0 h.2 in
    (ys, ap (λ (z : Prefix). z ∷ ys) same.0, subst (λ (l : List Item). ArePrefixes ys l r) same.1 h.3)

sum_one : (p : Prefixes) (x : Prefix) (xs : List Prefix) (t : Prefixes) → with_prefixes p xs ≡ Some t → with_prefixes p (xs ++ x ∷ []) ≡ with_prefix t x
sum_one p x xs t is = sum_more p xs (x ∷ []) ∙ ap (option_and_then (λ q. with_prefixes q (x ∷ []))) is ∙ one (with_prefix t x)
  where
    one : (o : Option Prefixes) → option_and_then (λ q. with_prefixes q []) o ≡ o
    one None = refl
    one (Some q) = refl

pub one_more : (ts rest after : List Item) (t more : Prefixes) (x : Prefix) → SoFar ts t rest → starts is_prefix rest ≡ true → IsRead EatsPrefix rest x after → with_prefix t x ≡ Some more → SoFar ts more after
unfolding ArePrefixes
one_more ts rest after t more x s passes a is = record {
  found = s.found ++ x ∷ [];
  sum = sum_one no_prefix x s.found t s.sum ∙ is;
  goes_on = λ xs r h. subst (λ (l : List Prefix). ArePrefixes l ts r) (sym (append_assoc s.found (x ∷ []) xs)) (s.goes_on (x ∷ xs) r (after, passes, a.eats, h));
  only = λ all r h.
      let w = s.only all r h in
      let n = next rest after x w.0 r passes a w.2 in
      (n.0, w.1 ∙ ap (λ (l : List Prefix). s.found ++ l) n.1 ∙ sym (append_assoc s.found (x ∷ []) n.0), n.2);
}

over : (rest : List Item) (xs : List Prefix) (r : List Item) → starts is_prefix rest ≡ false → ArePrefixes xs rest r → (xs ≡ []) × (r ≡ rest)
unfolding ArePrefixes
over rest [] r none h = (refl, sym h.0)
over rest (x ∷ xs) r none h = absurd (true≢false (sym h.1 ∙ none))

pub is_over : (ts rest : List Item) (t : Prefixes) → SoFar ts t rest → starts is_prefix rest ≡ false → IsRead EatsPrefixes ts t rest
unfolding EatsPrefixes ArePrefixes
is_over ts rest t s none = record {
  eats = (s.found, subst (λ (l : List Prefix). ArePrefixes l ts rest) (append-nil s.found) (s.goes_on [] rest (refl, none)), s.sum);
  only = λ p r h.
      let w = s.only h.0 r h.1 in
      let o = over rest w.0 r none w.2 in
      let all : h.0 ≡ s.found = w.1 ∙ ap (λ (l : List Prefix). s.found ++ l) o.0 ∙ append-nil s.found in
      let both : Some p ≡ Some t = sym h.2 ∙ ap (with_prefixes no_prefix) all ∙ s.sum in
      (cc, o.1);
}

pub no_prefix_next : (ts rest : List Item) (t : Prefixes) → SoFar ts t rest → starts is_prefix rest ≡ true → Fails EatsPrefix rest → Fails EatsPrefixes ts
unfolding EatsPrefixes ArePrefixes
no_prefix_next ts rest t s passes none p r h = by w.0 w.2
  where
    w : (xs : List Prefix) × (h.0 ≡ s.found ++ xs) × ArePrefixes xs rest r
    w = s.only h.0 r h.1

    by : (xs : List Prefix) → ArePrefixes xs rest r → ⊥
    by [] k = true≢false (sym passes ∙ k.1)
    by (y ∷ ys) k = none y k.0 k.2

-- a second prefix of one kind
pub twice : (ts rest after : List Item) (t : Prefixes) (x : Prefix) → SoFar ts t rest → starts is_prefix rest ≡ true → IsRead EatsPrefix rest x after → with_prefix t x ≡ None → Fails EatsPrefixes ts
unfolding EatsPrefixes
twice ts rest after t x s passes a is p r h =
    let w = s.only h.0 r h.1 in
    let n = next rest after x w.0 r passes a w.2 in
    let all : h.0 ≡ s.found ++ (x ∷ n.0) = w.1 ∙ ap (λ (l : List Prefix). s.found ++ l) n.1 in
    let none : with_prefixes no_prefix h.0 ≡ None = ap (with_prefixes no_prefix) all ∙ sum_more no_prefix s.found (x ∷ n.0) ∙ ap (option_and_then (λ q. with_prefixes q (x ∷ n.0))) s.sum ∙ ap (option_and_then (λ q. with_prefixes q n.0)) is in
    let some = h.2 in
    cc

-- one refusal from another
pub refused : (e : ReadError) (P Q : Type 0) → (P → Q) → Refused e P → Refused e Q
refused Memory P Q f h = tt
refused NoForm P Q f h = f h
