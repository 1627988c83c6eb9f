-- A sign and its term, `.NOT.` and its comparison, and a comparison of two sums.
use Rattle.std.proofs.Common.{◌≡◌, ◌≢◌, ℕ, ◌<◌, ◌≤◌, true, false, List, [], ◌∷◌, Some, ◌⊎◌, inl, inr, Result, Ok, Err, refl, sym, ap, subst, ◌∙◌, arith}
use Rattle.std.proofs.lemmas.Bool.{true≢false}
use Rattle.f3_places.specs.declared.source.Place.{Place}
use Rattle.std.specs.Borrow.{Bor}
use Rattle.f3_tree.specs.declared.expression.Expression.{Expression}
use Rattle.f3_tree.specs.declared.expression.Relation.{Relation}
use Rattle.f3_tree.specs.declared.expression.Sign.{Sign}
use Rattle.f3_tree.specs.declared.expression.Sign.TheVariants.{Plus, Minus}
use Rattle.f3_tree.specs.Expressions.{Tree, integer, truth, text, designator, group, array, signed, negation, comparison, chain, Rest, no_more, more, expression_view}
use Rattle.f3_words.specs.declared.item.Word.{Word}
use Rattle.f3_words.specs.declared.item.Word.TheVariants as word
use Rattle.f3_words.specs.declared.item.Item.{Item}
use Rattle.f3_words.specs.Lists.{starts}
use Rattle.f3_words.specs.declared.error.ReadError.{ReadError}
use Rattle.f3_words.specs.declared.error.ReadError.TheVariants.{Memory, NoForm}
use Rattle.f3_words.specs.Reads.{IsRead, Fails, Reads}
use Rattle.f3_expressions.specs.Levels.{level_of, joins, operator_of, Ends}
use Rattle.f3_expressions.specs.Grammar.{Eats, EatsRest, IsSome}
use Rattle.f3_expressions.specs.Readings.{EatsUpTo, is_relation, is_not, is_sign}
use Rattle.f3_expressions.proofs.Fronts.{ends_lower, ends_at_two, ends_at_five, not_front, sign_rank, rank, operator_levels}
use Rattle.f3_expressions.proofs.Chains.{higher}

-- no operator is of these levels
no_chain : (l : ℕ) (os : Rest) (mid r : List Item) → EatsRest l os mid r → IsSome os → (l ≢ 2) × (l ≢ 4) × (l ≢ 5)
no_chain l no_more mid r h some = absurd some
no_chain l (more o e os) mid r h some = let n = operator_levels o in (λ q. n.0 (h.5 ∙ q), λ q. n.1 (h.5 ∙ q), λ q. n.2 (h.5 ∙ q))

-- ---- signs

is_sign_of : (s : Sign) → is_sign (word.Operator (operator_of s)) ≡ true
is_sign_of Plus = refl
is_sign_of Minus = refl

same_sign : (s u : Sign) → operator_of s ≡ operator_of u → s ≡ u
same_sign Plus Plus e = refl
same_sign Plus Minus e = absurd (cc)
same_sign Minus Plus e = absurd (cc)
same_sign Minus Minus e = refl

unsign : (t : Tree) (ts r : List Item) → starts is_sign ts ≡ false → Eats 3 t ts r → Eats 2 t ts r
unsign (integer p n) ts r none h = h
unsign (truth p b) ts r none h = h
unsign (text p n) ts r none h = h
unsign (designator ps) ts r none h = h
unsign (group p e) ts r none h = h
unsign (array p es) ts r none h = h
unsign (signed p s e) ts r none h = absurd (true≢false (sym (is_sign_of s) ∙ ap is_sign (sym h.4) ∙ ap (starts is_sign) (sym h.3) ∙ none))
unsign (negation p e) ts r none h = absurd (omega (arith, h.2))
unsign (comparison e x f) ts r none h = absurd (omega (arith, h.2))
unsign (chain e os) ts r none h = let n = (no_chain h.0 os h.1 r h.4 h.5).0 in (h.0, h.1, omega (arith, h.2, n), h.3, h.4, h.5)

record InSigned (i : Item) (s : Sign) (tail : List Item) (t : Tree) (r : List Item) : Type 0 where
  term : Tree
  is : t ≡ signed i.place s term
  eats : Eats 2 term tail r

-- what begins with a sign is a signed term
in_signed : (t : Tree) (i : Item) (s : Sign) (tail r : List Item) → i.word ≡ word.Operator (operator_of s) → Eats 3 t (i ∷ tail) r → InSigned i s tail t r
in_signed t i s tail r w h = by t h
  where
    three : rank i.word ≡ 3
    three = ap rank w ∙ sign_rank s

    low : (k : ℕ) (t : Tree) → k < 3 → Eats k t (i ∷ tail) r → InSigned i s tail t r
    low k t lt h = absurd (not_front k t i tail r (omega (arith, lt, three)) h)

    by : (t : Tree) → Eats 3 t (i ∷ tail) r → InSigned i s tail t r
    by (integer p n) h = low 0 (integer p n) (omega arith) h
    by (truth p b) h = low 0 (truth p b) (omega arith) h
    by (text p n) h = low 0 (text p n) (omega arith) h
    by (designator ps) h = low 0 (designator ps) (omega arith) h
    by (group p e) h = low 0 (group p e) (omega arith) h
    by (array p es) h = low 0 (array p es) (omega arith) h
    by (signed p u e) h =
        let first : i ≡ h.0 = let e = h.3 in cc in
        let behind : tail ≡ h.1 = let e = h.3 in cc in
        let operators : word.Operator (operator_of u) ≡ word.Operator (operator_of s) = sym h.4 ∙ ap (λ (x : Item). x.word) (sym first) ∙ w in
        let same : u ≡ s = same_sign u s (cc) in
        record {
          term = e;
          is = ap (λ (x : Place). signed x u e) (h.5 ∙ ap (λ (x : Item). x.place) (sym first)) ∙ ap (λ (x : Sign). signed i.place x e) same;
          eats = subst (λ (x : List Item). Eats 2 e x r) (sym behind) h.6;
        }
    by (negation p e) h = absurd (omega (arith, h.2))
    by (comparison e x f) h = absurd (omega (arith, h.2))
    by (chain e os) h = absurd (not_front h.0 e i tail h.1 (let lt = h.2 in omega (arith, lt, three)) h.3)

pub signed_reads : (ts : List Item) (i : Item) (s : Sign) (tail r : List Item) (e : Tree) → ts ≡ i ∷ tail → i.word ≡ word.Operator (operator_of s) → IsRead (EatsUpTo 2) tail e r → IsRead (EatsUpTo 3) ts (signed i.place s e) r
signed_reads ts i s tail r e is w a = record {
  eats = ((i, tail, omega arith, is, w, refl, (a.eats).0), ends_at_two r (a.eats).1);
  only = λ t u h.
      let g = in_signed t i s tail u w (subst (λ (x : List Item). Eats 3 t x u) is h.0) in
      let same = a.only g.term u (g.eats, ends_lower 2 3 u (omega arith) h.1) in
      (g.is ∙ ap (λ (x : Tree). signed i.place s x) same.0, same.1);
}

pub signed_fails : (ts : List Item) (i : Item) (s : Sign) (tail : List Item) → ts ≡ i ∷ tail → i.word ≡ word.Operator (operator_of s) → Fails (EatsUpTo 2) tail → Fails (EatsUpTo 3) ts
signed_fails ts i s tail is w a t u h =
    let g = in_signed t i s tail u w (subst (λ (x : List Item). Eats 3 t x u) is h.0) in
    a g.term u (g.eats, ends_lower 2 3 u (omega arith) h.1)

unsigned_reads : (ts r : List Item) (e : Tree) → starts is_sign ts ≡ false → IsRead (EatsUpTo 2) ts e r → IsRead (EatsUpTo 3) ts e r
unsigned_reads ts r e none a = record {
  eats = (higher 2 3 e ts r (omega arith) (a.eats).0, ends_at_two r (a.eats).1);
  only = λ t u h. a.only t u (unsign t ts u none h.0, ends_lower 2 3 u (omega arith) h.1);
}

unsigned_fails : (ts : List Item) → starts is_sign ts ≡ false → Fails (EatsUpTo 2) ts → Fails (EatsUpTo 3) ts
unsigned_fails ts none a t u h = a t u (unsign t ts u none h.0, ends_lower 2 3 u (omega arith) h.1)

pub unsigned_result : (ts : List Item) → starts is_sign ts ≡ false → (result : Result (Expression × Bor (List Item)) ReadError) → Reads (EatsUpTo 2) expression_view result ts → Reads (EatsUpTo 3) expression_view result ts
unsigned_result ts none (Ok x) a = unsigned_reads ts x.1.now (expression_view x.0) none a
unsigned_result ts none (Err Memory) a = tt
unsigned_result ts none (Err NoForm) a = unsigned_fails ts none a

-- ---- .NOT.

unnegate : (t : Tree) (ts r : List Item) → starts is_not ts ≡ false → Eats 6 t ts r → Eats 5 t ts r
unnegate (integer p n) ts r none h = h
unnegate (truth p b) ts r none h = h
unnegate (text p n) ts r none h = h
unnegate (designator ps) ts r none h = h
unnegate (group p e) ts r none h = h
unnegate (array p es) ts r none h = h
unnegate (signed p s e) ts r none h = (h.0, h.1, omega arith, h.3, h.4, h.5, h.6)
unnegate (negation p e) ts r none h = absurd (true≢false (ap is_not (sym h.4) ∙ ap (starts is_not) (sym h.3) ∙ none))
unnegate (comparison e x f) ts r none h = (h.0, h.1, omega arith, h.3, h.4, h.5)
unnegate (chain e os) ts r none h = let n = (no_chain h.0 os h.1 r h.4 h.5).2 in (h.0, h.1, omega (arith, h.2, n), h.3, h.4, h.5)

record InNegation (i : Item) (tail : List Item) (t : Tree) (r : List Item) : Type 0 where
  operand : Tree
  is : t ≡ negation i.place operand
  eats : Eats 5 operand tail r

-- what begins with `.NOT.` is its negation
in_negation : (t : Tree) (i : Item) (tail r : List Item) → i.word ≡ word.Not → Eats 6 t (i ∷ tail) r → InNegation i tail t r
in_negation t i tail r w h = by t h
  where
    six : rank i.word ≡ 6
    six = ap rank w

    low : (k : ℕ) (t : Tree) → k < 6 → Eats k t (i ∷ tail) r → InNegation i tail t r
    low k t lt h = absurd (not_front k t i tail r (omega (arith, lt, six)) h)

    by : (t : Tree) → Eats 6 t (i ∷ tail) r → InNegation i tail t r
    by (integer p n) h = low 0 (integer p n) (omega arith) h
    by (truth p b) h = low 0 (truth p b) (omega arith) h
    by (text p n) h = low 0 (text p n) (omega arith) h
    by (designator ps) h = low 0 (designator ps) (omega arith) h
    by (group p e) h = low 0 (group p e) (omega arith) h
    by (array p es) h = low 0 (array p es) (omega arith) h
    by (signed p s e) h = low 3 (signed p s e) (omega arith) (h.0, h.1, omega arith, h.3, h.4, h.5, h.6)
    by (negation p e) h =
        let first : i ≡ h.0 = let e = h.3 in cc in
        let behind : tail ≡ h.1 = let e = h.3 in cc in
        record {
          operand = e;
          is = ap (λ (x : Place). negation x e) (h.5 ∙ ap (λ (x : Item). x.place) (sym first));
          eats = subst (λ (x : List Item). Eats 5 e x r) (sym behind) h.6;
        }
    by (comparison e x f) h = absurd (not_front 4 e i tail (h.0 ∷ h.1) (omega (arith, six)) h.3)
    by (chain e os) h = absurd (not_front h.0 e i tail h.1 (let lt = h.2 in omega (arith, lt, six)) h.3)

pub negation_reads : (ts : List Item) (i : Item) (tail r : List Item) (e : Tree) → ts ≡ i ∷ tail → i.word ≡ word.Not → IsRead (EatsUpTo 5) tail e r → IsRead (EatsUpTo 6) ts (negation i.place e) r
negation_reads ts i tail r e is w a = record {
  eats = ((i, tail, omega arith, is, w, refl, (a.eats).0), ends_at_five r (a.eats).1);
  only = λ t u h.
      let g = in_negation t i tail u w (subst (λ (x : List Item). Eats 6 t x u) is h.0) in
      let same = a.only g.operand u (g.eats, ends_lower 5 6 u (omega arith) h.1) in
      (g.is ∙ ap (λ (x : Tree). negation i.place x) same.0, same.1);
}

pub negation_fails : (ts : List Item) (i : Item) (tail : List Item) → ts ≡ i ∷ tail → i.word ≡ word.Not → Fails (EatsUpTo 5) tail → Fails (EatsUpTo 6) ts
negation_fails ts i tail is w a t u h =
    let g = in_negation t i tail u w (subst (λ (x : List Item). Eats 6 t x u) is h.0) in
    a g.operand u (g.eats, ends_lower 5 6 u (omega arith) h.1)

plain_reads : (ts r : List Item) (e : Tree) → starts is_not ts ≡ false → IsRead (EatsUpTo 5) ts e r → IsRead (EatsUpTo 6) ts e r
plain_reads ts r e none a = record {
  eats = (higher 5 6 e ts r (omega arith) (a.eats).0, ends_at_five r (a.eats).1);
  only = λ t u h. a.only t u (unnegate t ts u none h.0, ends_lower 5 6 u (omega arith) h.1);
}

plain_fails : (ts : List Item) → starts is_not ts ≡ false → Fails (EatsUpTo 5) ts → Fails (EatsUpTo 6) ts
plain_fails ts none a t u h = a t u (unnegate t ts u none h.0, ends_lower 5 6 u (omega arith) h.1)

pub plain_result : (ts : List Item) → starts is_not ts ≡ false → (result : Result (Expression × Bor (List Item)) ReadError) → Reads (EatsUpTo 5) expression_view result ts → Reads (EatsUpTo 6) expression_view result ts
plain_result ts none (Ok x) a = plain_reads ts x.1.now (expression_view x.0) none a
plain_result ts none (Err Memory) a = tt
plain_result ts none (Err NoForm) a = plain_fails ts none a

-- ---- comparisons

record Compared (t : Tree) (ts r : List Item) : Type 0 where
  left : Tree
  relation : Relation
  right : Tree
  i : Item
  tail : List Item
  is : t ≡ comparison left relation right
  eats_left : Eats 4 left ts (i ∷ tail)
  word_is : i.word ≡ word.Relation relation
  eats_right : Eats 4 right tail r

uncompare : (t : Tree) (ts r : List Item) → Eats 5 t ts r → Eats 4 t ts r ⊎ Compared t ts r
uncompare (integer p n) ts r h = inl h
uncompare (truth p b) ts r h = inl h
uncompare (text p n) ts r h = inl h
uncompare (designator ps) ts r h = inl h
uncompare (group p e) ts r h = inl h
uncompare (array p es) ts r h = inl h
uncompare (signed p s e) ts r h = inl (h.0, h.1, omega arith, h.3, h.4, h.5, h.6)
uncompare (negation p e) ts r h = absurd (omega (arith, h.2))
uncompare (comparison e x f) ts r h = inr (record { left = e; relation = x; right = f; i = h.0; tail = h.1; is = refl; eats_left = h.3; word_is = h.4; eats_right = h.5 })
uncompare (chain e os) ts r h = let n = (no_chain h.0 os h.1 r h.4 h.5).1 in inl (h.0, h.1, omega (arith, h.2, n), h.3, h.4, h.5)

at_relation : (i : Item) (tail : List Item) (x : Relation) → i.word ≡ word.Relation x → Ends 4 (i ∷ tail)
at_relation i tail x w l e = let joins_there : joins i.word ≡ Some 4 = ap joins w in let same : 4 ≡ l = cc in omega (arith, same)

not_at_relation : (i : Item) (tail : List Item) (x : Relation) → i.word ≡ word.Relation x → Ends 5 (i ∷ tail) → ⊥
not_at_relation i tail x w ends = let joins_there : joins i.word ≡ Some 4 = ap joins w in omega (arith, ends 4 joins_there)

no_relation : (w : Word) → is_relation w ≡ false → (l : ℕ) → joins w ≡ Some l → 4 ≤ l → 5 ≤ l
no_relation (word.Operator o) none l e le = let n = (operator_levels o).1 in let same : level_of o ≡ l = cc in let other : l ≢ 4 = λ q. n (same ∙ q) in omega (arith, le, other)
no_relation (word.Relation x) none l e le = absurd (true≢false none)
no_relation w none l e le = absurd (cc)

ends_at_four : (r : List Item) → starts is_relation r ≡ false → Ends 4 r → Ends 5 r
ends_at_four [] none h = tt
ends_at_four (t ∷ r) none h = λ l e. no_relation t.word none l e (h l e)

pub sum_reads : (ts r : List Item) (e : Tree) → starts is_relation r ≡ false → IsRead (EatsUpTo 4) ts e r → IsRead (EatsUpTo 5) ts e r
sum_reads ts r e none a = record {
  eats = (higher 4 5 e ts r (omega arith) (a.eats).0, ends_at_four r none (a.eats).1);
  only = λ t u h. elim (uncompare t ts u h.0) [
    | inl eats ↦ a.only t u (eats, ends_lower 4 5 u (omega arith) h.1)
    | inr c ↦
        let left = a.only c.left (c.i ∷ c.tail) (c.eats_left, at_relation c.i c.tail c.relation c.word_is) in
        absurd (true≢false (ap is_relation (sym c.word_is) ∙ ap (starts is_relation) left.1 ∙ none))
  ];
}

pub sum_fails : (ts : List Item) → Fails (EatsUpTo 4) ts → Fails (EatsUpTo 5) ts
sum_fails ts a t u h = elim (uncompare t ts u h.0) [
  | inl eats ↦ a t u (eats, ends_lower 4 5 u (omega arith) h.1)
  | inr c ↦ a c.left (c.i ∷ c.tail) (c.eats_left, at_relation c.i c.tail c.relation c.word_is)
]

-- behind the first sum and a relation only a second sum goes on
record Right (i : Item) (tail : List Item) (e : Tree) (x : Relation) (t : Tree) (r : List Item) : Type 0 where
  right : Tree
  is : t ≡ comparison e x right
  eats : Eats 4 right tail r

in_comparison : (ts mid : List Item) (e : Tree) (i : Item) (tail : List Item) (x : Relation) → IsRead (EatsUpTo 4) ts e mid → mid ≡ i ∷ tail → i.word ≡ word.Relation x → (t : Tree) (r : List Item) → EatsUpTo 5 t ts r → Right i tail e x t r
in_comparison ts mid e i tail x a is w t r h = elim (uncompare t ts r h.0) [
  | inl eats ↦
      let same = a.only t r (eats, ends_lower 4 5 r (omega arith) h.1) in
      absurd (not_at_relation i tail x w (subst (λ (y : List Item). Ends 5 y) (same.1 ∙ is) h.1))
  | inr c ↦
      let left = a.only c.left (c.i ∷ c.tail) (c.eats_left, at_relation c.i c.tail c.relation c.word_is) in
      let whole : c.i ∷ c.tail ≡ i ∷ tail = left.1 ∙ is in
      let first : c.i ≡ i = cc in
      let behind : c.tail ≡ tail = cc in
      let words : word.Relation c.relation ≡ word.Relation x = sym c.word_is ∙ ap (λ (y : Item). y.word) first ∙ w in
      let same : c.relation ≡ x = cc in
      record {
        right = c.right;
        is = c.is ∙ ap (λ (y : Tree). comparison y c.relation c.right) left.0 ∙ ap (λ (y : Relation). comparison e y c.right) same;
        eats = subst (λ (y : List Item). Eats 4 c.right y r) behind c.eats_right;
      }
]

pub comparison_reads : (ts mid : List Item) (e : Tree) (i : Item) (tail : List Item) (x : Relation) (f : Tree) (r : List Item) → IsRead (EatsUpTo 4) ts e mid → mid ≡ i ∷ tail → i.word ≡ word.Relation x → IsRead (EatsUpTo 4) tail f r → starts is_relation r ≡ false → IsRead (EatsUpTo 5) ts (comparison e x f) r
comparison_reads ts mid e i tail x f r a is w b none = record {
  eats = ((i, tail, omega arith, subst (λ (y : List Item). Eats 4 e ts y) is (a.eats).0, w, (b.eats).0), ends_at_four r none (b.eats).1);
  only = λ t u h.
      let g = in_comparison ts mid e i tail x a is w t u h in
      let same = b.only g.right u (g.eats, ends_lower 4 5 u (omega arith) h.1) in
      (g.is ∙ ap (λ (y : Tree). comparison e x y) same.0, same.1);
}

pub comparison_fails : (ts mid : List Item) (e : Tree) (i : Item) (tail : List Item) (x : Relation) → IsRead (EatsUpTo 4) ts e mid → mid ≡ i ∷ tail → i.word ≡ word.Relation x → Fails (EatsUpTo 4) tail → Fails (EatsUpTo 5) ts
comparison_fails ts mid e i tail x a is w b t u h =
    let g = in_comparison ts mid e i tail x a is w t u h in
    b g.right u (g.eats, ends_lower 4 5 u (omega arith) h.1)

-- two relations do not stand in one comparison
pub second_relation : (ts mid : List Item) (e : Tree) (i : Item) (tail : List Item) (x : Relation) (f : Tree) (r : List Item) (j : Item) (after : List Item) (y : Relation) → IsRead (EatsUpTo 4) ts e mid → mid ≡ i ∷ tail → i.word ≡ word.Relation x → IsRead (EatsUpTo 4) tail f r → r ≡ j ∷ after → j.word ≡ word.Relation y → Fails (EatsUpTo 5) ts
second_relation ts mid e i tail x f r j after y a is w b at v t u h =
    let g = in_comparison ts mid e i tail x a is w t u h in
    let same = b.only g.right u (g.eats, ends_lower 4 5 u (omega arith) h.1) in
    not_at_relation j after y v (subst (λ (z : List Item). Ends 5 z) (same.1 ∙ at) h.1)
