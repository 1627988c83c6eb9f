-- What is read at one level is read at each later one, and what is read of a list, element by element.
use Rattle.std.proofs.Common.{◌≡◌, ◌≢◌, ◌⊎◌, ℕ, suc, zero, ◌≤◌, Bool, true, false, List, [], ◌∷◌, Some, refl, sym, ap, subst, ◌∙◌, arith, inl, inr}
use Rattle.std.proofs.lemmas.Bool.{cases_lt}
use Rattle.f3_tree.specs.declared.expression.Operator.{Operator}
use Rattle.f3_tree.specs.declared.expression.Relation.{Relation}
use Rattle.f3_tree.specs.Expressions.{Tree, integer, truth, text, designator, group, array, signed, negation, comparison, chain, no_more, more}
use Rattle.f3_words.specs.declared.item.Word.{Word}
use Rattle.f3_words.specs.declared.item.Word.TheVariants as word
use Rattle.f3_words.specs.declared.item.Item.{Item}
use Rattle.f3_words.specs.Lists.{starts, EatsRun}
use Rattle.f3_words.specs.Reads.{IsRead}
use Rattle.f3_expressions.specs.Levels.{level_of, joins, Ends}
use Rattle.f3_expressions.specs.Grammar.{Eats}
use Rattle.f3_expressions.specs.Readings.{EatsUpTo, is_operator, IsOperand, is_relation}
use Rattle.f3_expressions.proofs.Fronts.{ends_lower, operator_levels, sign_rank, rank, Front, front}
use Rattle.f3_expressions.proofs.Chains.{Plain, rest_run, higher, level_reads}
use Rattle.f3_expressions.proofs.Prefixes.{sum_reads}
use Rattle.f3_expressions.proofs.Runs.{begins, one_more, is_over}

-- ---- elements one after the other

pub run_none : {A : Type 0} (test : Word → Bool) (Is : A → Item → List Item → List Item → Type 0) (ts : List Item) → starts test ts ≡ false → IsRead (EatsRun test Is) ts [] ts
run_none test Is ts none = is_over test Is ts ts [] (begins test Is ts) none

-- a first element, and those behind it
pub run_more : {A : Type 0} (test : Word → Bool) (Is : A → Item → List Item → List Item → Type 0) (ts : List Item) (i : Item) (tail mid r : List Item) (x : A) (xs : List A)
    → ts ≡ i ∷ tail → test i.word ≡ true → IsRead (λ y. Is y i) tail x mid → IsRead (EatsRun test Is) mid xs r → IsRead (EatsRun test Is) ts (x ∷ xs) r
run_more {A} test Is ts i tail mid r x xs is passes a b =
    let first = one_more test Is ts ts tail mid i [] x (begins test Is ts) is passes a in
    record {
      eats = (i, tail, mid, is, passes, a.eats, b.eats);
      only = λ all s h.
          let w = first.only all s h in
          let same = b.only w.0 s w.2 in
          (w.1 ∙ ap (λ (l : List A). x ∷ l) same.0, same.1);
    }

-- ---- from one level to the next

-- a level of which no operator and no relation is
record Bare (l : ℕ) : Type 0 where
  operators : (o : Operator) → level_of o ≢ l
  relations : l ≢ 4

-- where an expression of a level stands, one of the next level is one of this, unless there are operators of this level
same_level : (l : ℕ) (t : Tree) (ts r : List Item) → Bare l → Front l ts → Eats (suc l) t ts r → Eats l t ts r
same_level l (integer p n) ts r bare w h = h
same_level l (truth p b) ts r bare w h = h
same_level l (text p n) ts r bare w h = h
same_level l (designator ps) ts r bare w h = h
same_level l (group p e) ts r bare w h = h
same_level l (array p es) ts r bare w h = h
same_level l (signed p s e) ts r bare w h =
    let whole : w.i ∷ w.tail ≡ h.0 ∷ h.1 = sym w.is ∙ h.3 in
    let first : w.i ≡ h.0 = cc in
    let three : rank (w.i).word ≡ 3 = ap (λ (x : Item). rank x.word) first ∙ ap rank h.4 ∙ sign_rank s in
    let le = w.ranks in
    (h.0, h.1, omega (arith, three, le), h.3, h.4, h.5, h.6)
same_level l (negation p e) ts r bare w h =
    let whole : w.i ∷ w.tail ≡ h.0 ∷ h.1 = sym w.is ∙ h.3 in
    let first : w.i ≡ h.0 = cc in
    let six : rank (w.i).word ≡ 6 = ap (λ (x : Item). rank x.word) first ∙ ap rank h.4 in
    let le = w.ranks in
    (h.0, h.1, omega (arith, six, le), h.3, h.4, h.5, h.6)
same_level l (comparison e x f) ts r bare w h = (h.0, h.1, omega (arith, h.2, bare.relations), h.3, h.4, h.5)
same_level l (chain e no_more) ts r bare w h = absurd h.5
same_level l (chain e (more o f os)) ts r bare w h =
    let other : h.0 ≢ l = λ q. bare.operators o ((h.4).5 ∙ q) in
    (h.0, h.1, omega (arith, h.2, other), h.3, h.4, h.5)

bare_reads : (l : ℕ) (t : Tree) (ts r : List Item) → Bare l → IsRead (EatsUpTo l) ts t r → Ends (suc l) r → IsRead (EatsUpTo (suc l)) ts t r
bare_reads l t ts r bare a ends = record {
  eats = (higher l (suc l) t ts r (omega arith) (a.eats).0, ends);
  only = λ u s h. a.only u s (same_level l u ts s bare (front l t ts r (a.eats).0) h.0, ends_lower l (suc l) s (omega arith) h.1);
}

no_relation : (w : Word) → ((k : ℕ) → joins w ≡ Some k → 5 ≤ k) → is_relation w ≡ false
no_relation (word.Relation x) h = absurd (let le : 5 ≤ 4 = h 4 refl in omega (arith, le))
no_relation w h = refl

no_relation_there : (r : List Item) → Ends 5 r → starts is_relation r ≡ false
no_relation_there [] h = refl
no_relation_there (i ∷ r) h = no_relation i.word h

plain_reads : (l : ℕ) (t : Tree) (ts r : List Item) → Plain l → IsRead (EatsUpTo l) ts t r → Ends (suc l) r → IsRead (EatsUpTo (suc l)) ts t r
plain_reads l t ts r plain a ends =
    let none = (rest_run l no_more r r refl ends).1 in
    level_reads (suc l) l ts r r t [] refl plain a (run_none (is_operator l) (IsOperand l) r none)

same_or : (a b : ℕ) → (a ≡ b) ⊎ (a ≢ b)
same_or a b = elim (cases_lt a b) [
  | inl lt ↦ inr (λ e. omega (arith, lt, e))
  | inr ge ↦ elim (cases_lt b a) [
    | inl gt ↦ inr (λ e. omega (arith, gt, e))
    | inr le ↦ inl (omega (arith, ge, le))
  ]
]

bare_two : Bare 2
bare_two = record { operators = λ o. (operator_levels o).0; relations = λ e. omega (arith, e) }

bare_five : Bare 5
bare_five = record { operators = λ o. (operator_levels o).2; relations = λ e. omega (arith, e) }

next_reads : (l : ℕ) (t : Tree) (ts r : List Item) → IsRead (EatsUpTo l) ts t r → Ends (suc l) r → IsRead (EatsUpTo (suc l)) ts t r
next_reads l t ts r a ends = elim (same_or l 2) [
  | inl two ↦ bare_reads l t ts r (subst (λ (n : ℕ). Bare n) (sym two) bare_two) a ends
  | inr not_two ↦ elim (same_or l 5) [
    | inl five ↦ bare_reads l t ts r (subst (λ (n : ℕ). Bare n) (sym five) bare_five) a ends
    | inr not_five ↦ elim (same_or l 4) [
      | inl four ↦
          let here : IsRead (EatsUpTo 4) ts t r = subst (λ (n : ℕ). IsRead (EatsUpTo n) ts t r) four a in
          let over : Ends 5 r = ends_lower 5 (suc l) r (omega (arith, four)) ends in
          let five : suc l ≡ 5 = omega (arith, four) in
          subst (λ (n : ℕ). IsRead (EatsUpTo n) ts t r) (sym five) (sum_reads ts r t (no_relation_there r over) here)
      | inr not_four ↦ plain_reads l t ts r (record { sign = not_two; relation = not_four; negation = not_five }) a ends
    ]
  ]
]

-- what is read at a level is read at each later one where nothing of that goes on
pub later_reads : (k j : ℕ) (t : Tree) (ts r : List Item) → j ≤ k → IsRead (EatsUpTo j) ts t r → Ends k r → IsRead (EatsUpTo k) ts t r
later_reads zero j t ts r le a ends = let none : j ≡ zero = omega (arith, le) in subst (λ (n : ℕ). IsRead (EatsUpTo n) ts t r) none a
later_reads (suc k) j t ts r le a ends = elim (cases_lt j (suc k)) [
  | inl lt ↦ next_reads k t ts r (later_reads k j t ts r (omega (arith, lt)) a (ends_lower k (suc k) r (omega arith) ends)) ends
  | inr ge ↦ let same : j ≡ suc k = omega (arith, le, ge) in subst (λ (n : ℕ). IsRead (EatsUpTo n) ts t r) same a
]

-- ---- operators and relations

-- a level of an operator
pub operator_plain : (l : ℕ) (o : Operator) → level_of o ≡ l → Plain l
operator_plain l o is = let n = operator_levels o in record { sign = λ e. n.0 (is ∙ e); relation = λ e. n.1 (is ∙ e); negation = λ e. n.2 (is ∙ e) }

-- a sum ends at a relation, and a comparison where no relation stands
pub relation_over : (i : Item) (tail : List Item) (x : Relation) → i.word ≡ word.Relation x → Ends 4 (i ∷ tail) × ((r : List Item) → Ends 5 r → starts is_relation r ≡ false)
relation_over i tail x w = (λ l e. let there : joins i.word ≡ Some 4 = ap joins w in let same : 4 ≡ l = cc in omega (arith, same), λ r ends. no_relation_there r ends)
