-- Operands of one level and the operators between them.
use Rattle.std.proofs.Common.{◌≡◌, ◌≢◌, ℕ, suc, ◌<◌, ◌≤◌, true, false, List, [], ◌∷◌, length, Some, refl, sym, ap, subst, ◌∙◌, arith, inl, inr}
use Rattle.std.proofs.lemmas.Bool.{cases_lt, true≢false}
use Rattle.std.proofs.lemmas.Bool.Decides.{nat_tests}
use Rattle.f3_tree.specs.declared.expression.Operator.{Operator}
use Rattle.f3_tree.specs.Expressions.{Tree, integer, truth, text, designator, group, array, signed, negation, comparison, chain, Rest, no_more, more, rest_of}
use Rattle.f3_words.specs.declared.item.Word.{Word}
use Rattle.f3_words.specs.declared.item.Word.TheVariants as word
use Rattle.f3_words.specs.declared.item.Item.{Item}
use Rattle.f3_words.specs.Lists.{starts, EatsRun}
use Rattle.f3_words.specs.Reads.{IsRead, Fails}
use Rattle.f3_expressions.specs.Levels.{level_of, unsigned, joins, Ends}
use Rattle.f3_expressions.specs.Grammar.{Eats, EatsRest, IsSome}
use Rattle.f3_expressions.specs.Readings.{EatsUpTo, is_operator, IsOperand}
use Rattle.f3_expressions.proofs.Fronts.{ends_lower, ends_unsigned, unsigned_least}

-- a level with operators of its own
pub record Plain (l : ℕ) : Type 0 where
  pub sign : l ≢ 2
  pub relation : l ≢ 4
  pub negation : l ≢ 5

-- ---- operators with their operands

-- an operand ends where its operators go on, or after the last
pub rest_ends : (l : ℕ) (os : Rest) (ts r : List Item) → EatsRest l os ts r → Ends (suc l) r → Ends l ts
rest_ends l no_more ts r h ends = subst (λ (x : List Item). Ends l x) (sym h) (ends_lower l (suc l) r (omega arith) ends)
rest_ends l (more o e os) ts r h ends =
    let here : Ends l (h.0 ∷ h.1) = λ k is. let at_operator : joins (h.0).word ≡ Some (level_of o) = ap joins h.4 in let same : level_of o ≡ k = cc in omega (arith, same, h.5) in
    subst (λ (x : List Item). Ends l x) (sym h.3) here

abbrev pub list_of : Rest → List (Operator × Tree)
list_of no_more = []
list_of (more o e os) = (o, e) ∷ list_of os

pub list_back : (os : Rest) → rest_of (list_of os) ≡ os
list_back no_more = refl
list_back (more o e os) = ap (λ (x : Rest). more o e x) (list_back os)

no_operator : (l : ℕ) (w : Word) → ((k : ℕ) → joins w ≡ Some k → suc l ≤ k) → is_operator l w ≡ false
no_operator l (word.Operator o) h = let le : suc l ≤ level_of o = h (level_of o) refl in grind (arith, nat_tests)
no_operator l w h = refl

ends_starts : (l : ℕ) (r : List Item) → Ends (suc l) r → starts (is_operator l) r ≡ false
ends_starts l [] h = refl
ends_starts l (t ∷ r) h = no_operator l t.word h

pub is_of_level : (l : ℕ) (o : Operator) → level_of o ≡ l → is_operator l (word.Operator o) ≡ true
is_of_level l o h = grind (arith, nat_tests)

of_level : (l : ℕ) (o : Operator) → is_operator l (word.Operator o) ≡ true → level_of o ≡ l
of_level l o h = grind (arith, nat_tests)

pub rest_run : (l : ℕ) (os : Rest) (ts r : List Item) → EatsRest l os ts r → Ends (suc l) r → EatsRun (is_operator l) (IsOperand l) (list_of os) ts r
rest_run l no_more ts r h ends = (h, ends_starts l r ends)
rest_run l (more o e os) ts r h ends =
    let ends_mid = ends_lower (unsigned l) l h.2 (unsigned_least l) (rest_ends l os h.2 r h.7 ends) in
    (h.0, h.1, h.2, h.3, ap (is_operator l) h.4 ∙ is_of_level l o h.5, (h.4, (h.6, ends_mid)), rest_run l os h.2 r h.7 ends)

pub run_rest : (l : ℕ) (xs : List (Operator × Tree)) (ts r : List Item) → EatsRun (is_operator l) (IsOperand l) xs ts r → EatsRest l (rest_of xs) ts r
run_rest l [] ts r h = h.0
run_rest l (x ∷ xs) ts r h =
    (h.0, h.1, h.2, h.3, (h.5).0, of_level l x.0 (ap (is_operator l) (sym (h.5).0) ∙ h.4), ((h.5).1).0, run_rest l xs h.2 r h.6)

not_of_level : (l : ℕ) (o : Operator) → is_operator l (word.Operator o) ≡ false → level_of o ≢ l
not_of_level l o h e = true≢false (sym (is_of_level l o e) ∙ h)

next_level : (l : ℕ) (w : Word) → l ≢ 4 → is_operator l w ≡ false → (k : ℕ) → joins w ≡ Some k → l ≤ k → suc l ≤ k
next_level l (word.Operator o) plain none k e le = let same : level_of o ≡ k = cc in let n = not_of_level l o none in let other : l ≢ k = λ q. n (same ∙ sym q) in omega (arith, le, other)
next_level l (word.Relation x) plain none k e le = let same : 4 ≡ k = cc in omega (arith, same, le, plain)
next_level l w plain none k e le = absurd (cc)

ends_next : (l : ℕ) (r : List Item) → l ≢ 4 → starts (is_operator l) r ≡ false → Ends l r → Ends (suc l) r
ends_next l [] plain none h = tt
ends_next l (t ∷ r) plain none h = λ k e. next_level l t.word plain none k e (h k e)

pub run_ends : (l : ℕ) (xs : List (Operator × Tree)) (ts r : List Item) → l ≢ 4 → EatsRun (is_operator l) (IsOperand l) xs ts r → Ends l ts → Ends (suc l) r
run_ends l [] ts r plain h ends = ends_next l r plain h.1 (subst (λ (x : List Item). Ends l x) h.0 ends)
run_ends l (x ∷ xs) ts r plain h ends = run_ends l xs h.2 r plain h.6 (ends_unsigned l h.2 ((h.5).1).1)

-- ---- an expression of a level, from its operands

-- the first operand alone, or the chain
abbrev pub joined : Tree → Rest → Tree
joined e no_more = e
joined e (more o f os) = chain e (more o f os)

pub higher : (j k : ℕ) (t : Tree) (ts r : List Item) → j ≤ k → Eats j t ts r → Eats k t ts r
higher j k (integer p n) ts r le h = h
higher j k (truth p b) ts r le h = h
higher j k (text p n) ts r le h = h
higher j k (designator ps) ts r le h = h
higher j k (group p e) ts r le h = h
higher j k (array p es) ts r le h = h
higher j k (signed p s e) ts r le h = (h.0, h.1, omega (arith, le, h.2), h.3, h.4, h.5, h.6)
higher j k (negation p e) ts r le h = (h.0, h.1, omega (arith, le, h.2), h.3, h.4, h.5, h.6)
higher j k (comparison e x f) ts r le h = (h.0, h.1, omega (arith, le, h.2), h.3, h.4, h.5)
higher j k (chain e os) ts r le h = (h.0, h.1, omega (arith, le, h.2), h.3, h.4, h.5)

join : (l : ℕ) (e : Tree) (os : Rest) (ts mid r : List Item) → Eats l e ts mid → EatsRest l os mid r → Eats (suc l) (joined e os) ts r
join l e no_more ts mid r h rest = higher l (suc l) e ts r (omega arith) (subst (λ (x : List Item). Eats l e ts x) rest h)
join l e (more o f os) ts mid r h rest = (l, mid, omega arith, h, rest, tt)

record Unjoined (l : ℕ) (t : Tree) (ts r : List Item) : Type 0 where
  first : Tree
  others : Rest
  mid : List Item
  is : t ≡ joined first others
  eats : Eats l first ts mid
  eats_rest : EatsRest l others mid r

chained : (e : Tree) (os : Rest) → IsSome os → chain e os ≡ joined e os
chained e no_more h = absurd h
chained e (more o f os) h = refl

alone : (l : ℕ) (t : Tree) (ts r : List Item) → Eats l t ts r → Unjoined l t ts r
alone l t ts r h = record { first = t; others = no_more; mid = r; is = refl; eats = h; eats_rest = refl }

unjoin : (l : ℕ) (t : Tree) (ts r : List Item) → Plain l → Eats (suc l) t ts r → Unjoined l t ts r
unjoin l (integer p n) ts r plain h = alone l (integer p n) ts r h
unjoin l (truth p b) ts r plain h = alone l (truth p b) ts r h
unjoin l (text p n) ts r plain h = alone l (text p n) ts r h
unjoin l (designator ps) ts r plain h = alone l (designator ps) ts r h
unjoin l (group p e) ts r plain h = alone l (group p e) ts r h
unjoin l (array p es) ts r plain h = alone l (array p es) ts r h
unjoin l (signed p s e) ts r plain h = alone l (signed p s e) ts r (h.0, h.1, omega (arith, plain.sign, h.2), h.3, h.4, h.5, h.6)
unjoin l (negation p e) ts r plain h = alone l (negation p e) ts r (h.0, h.1, omega (arith, plain.negation, h.2), h.3, h.4, h.5, h.6)
unjoin l (comparison e x f) ts r plain h = alone l (comparison e x f) ts r (h.0, h.1, omega (arith, plain.relation, h.2), h.3, h.4, h.5)
unjoin l (chain e os) ts r plain h = elim (cases_lt h.0 l) [
  | inl lt ↦ alone l (chain e os) ts r (h.0, h.1, lt, h.3, h.4, h.5)
  | inr le ↦
      let same : h.0 ≡ l = omega (arith, h.2, le) in
      subst (λ (n : ℕ). Unjoined n (chain e os) ts r) same (record { first = e; others = os; mid = h.1; is = chained e os h.5; eats = h.3; eats_rest = h.4 })
]

-- ---- the reader's steps

abbrev Rests : ℕ → List (Operator × Tree) → List Item → List Item → Type 0
Rests l = EatsRun (is_operator l) (IsOperand l)

level_reads_suc : (l : ℕ) (ts mid r : List Item) (e : Tree) (xs : List (Operator × Tree)) → Plain l → IsRead (EatsUpTo l) ts e mid → IsRead (Rests l) mid xs r → IsRead (EatsUpTo (suc l)) ts (joined e (rest_of xs)) r
level_reads_suc l ts mid r e xs plain a b = record {
  eats = (join l e (rest_of xs) ts mid r (a.eats).0 (run_rest l xs mid r b.eats), run_ends l xs mid r plain.relation b.eats (a.eats).1);
  only = λ t s h.
      let u = unjoin l t ts s plain h.0 in
      let first = a.only u.first u.mid (u.eats, rest_ends l u.others u.mid s u.eats_rest h.1) in
      let rest = b.only (list_of u.others) s (rest_run l u.others mid s (subst (λ (x : List Item). EatsRest l u.others x s) first.1 u.eats_rest) h.1) in
      let same : u.others ≡ rest_of xs = sym (list_back u.others) ∙ ap rest_of rest.0 in
      (u.is ∙ ap (λ (x : Tree). joined x u.others) first.0 ∙ ap (λ (x : Rest). joined e x) same, rest.1);
}

level_fails_suc : (l : ℕ) (ts : List Item) → Plain l → Fails (EatsUpTo l) ts → Fails (EatsUpTo (suc l)) ts
level_fails_suc l ts plain a t r h =
    let u = unjoin l t ts r plain h.0 in
    a u.first u.mid (u.eats, rest_ends l u.others u.mid r u.eats_rest h.1)

level_rest_fails_suc : (l : ℕ) (ts mid : List Item) (e : Tree) → Plain l → IsRead (EatsUpTo l) ts e mid → Fails (Rests l) mid → Fails (EatsUpTo (suc l)) ts
level_rest_fails_suc l ts mid e plain a b t r h =
    let u = unjoin l t ts r plain h.0 in
    let first = a.only u.first u.mid (u.eats, rest_ends l u.others u.mid r u.eats_rest h.1) in
    b (list_of u.others) r (rest_run l u.others mid r (subst (λ (x : List Item). EatsRest l u.others x r) first.1 u.eats_rest) h.1)

-- the same, at a level that is one more
pub level_reads : (k l : ℕ) (ts mid r : List Item) (e : Tree) (xs : List (Operator × Tree)) → k ≡ suc l → Plain l → IsRead (EatsUpTo l) ts e mid → IsRead (EatsRun (is_operator l) (IsOperand l)) mid xs r → IsRead (EatsUpTo k) ts (joined e (rest_of xs)) r
level_reads k l ts mid r e xs is plain a b = subst (λ (n : ℕ). IsRead (EatsUpTo n) ts (joined e (rest_of xs)) r) (sym is) (level_reads_suc l ts mid r e xs plain a b)

pub level_fails : (k l : ℕ) (ts : List Item) → k ≡ suc l → Plain l → Fails (EatsUpTo l) ts → Fails (EatsUpTo k) ts
level_fails k l ts is plain a = subst (λ (n : ℕ). Fails (EatsUpTo n) ts) (sym is) (level_fails_suc l ts plain a)

pub level_rest_fails : (k l : ℕ) (ts mid : List Item) (e : Tree) → k ≡ suc l → Plain l → IsRead (EatsUpTo l) ts e mid → Fails (EatsRun (is_operator l) (IsOperand l)) mid → Fails (EatsUpTo k) ts
level_rest_fails k l ts mid e is plain a b = subst (λ (n : ℕ). Fails (EatsUpTo n) ts) (sym is) (level_rest_fails_suc l ts mid e plain a b)

pub joined_some : (e : Tree) (xs : List (Operator × Tree)) → 0 < length xs → joined e (rest_of xs) ≡ chain e (rest_of xs)
joined_some e [] h = absurd (omega arith)
joined_some e (x ∷ xs) h = refl

-- ---- an operand behind its operator

abbrev one : Operator → Tree → Operator × Tree
one x y = (x, y)

pub operand_reads : (l k : ℕ) (i : Item) (tail : List Item) (o : Operator) (e : Tree) (after : List Item) → k ≡ unsigned l → i.word ≡ word.Operator o → IsRead (EatsUpTo k) tail e after → IsRead (λ y. IsOperand l y i) tail (o, e) after
operand_reads l k i tail o e after is w a = record {
  eats = (w, subst (λ (n : ℕ). EatsUpTo n e tail after) is a.eats);
  only = λ y s h.
      let words : word.Operator o ≡ word.Operator y.0 = sym w ∙ h.0 in
      let operator : o ≡ y.0 = cc in
      let same = a.only y.1 s (subst (λ (n : ℕ). EatsUpTo n y.1 tail s) (sym is) h.1) in
      (ap (λ (x : Operator). one x y.1) (sym operator) ∙ ap (λ (x : Tree). one o x) same.0, same.1);
}

pub operand_fails : (l k : ℕ) (i : Item) (tail : List Item) → k ≡ unsigned l → Fails (EatsUpTo k) tail → Fails (λ y. IsOperand l y i) tail
operand_fails l k i tail is a y s h = a y.1 s (subst (λ (n : ℕ). EatsUpTo n y.1 tail s) (sym is) h.1)
