-- What an expression begins with, and where it ends.
use Rattle.std.proofs.Common.{◌≡◌, ◌≢◌, ℕ, ◌<◌, ◌≤◌, true, false, List, [], ◌∷◌, Some, None, refl, sym, ap, subst, ◌∙◌, arith, inl, inr}
use Rattle.std.specs.Prelude.{Option}
use Rattle.std.specs.Borrow.{Bor}
use Rattle.std.proofs.lemmas.Bool.{cases_lt, true≢false}
use Rattle.std.proofs.lemmas.Bool.Decides.{nat_tests}
use Rattle.f3_tree.specs.declared.expression.Operator.{Operator}
use Rattle.f3_tree.specs.declared.expression.Operator.TheVariants.{Power, Multiply, Divide, Add, Subtract, And, Or, Equivalent, NotEquivalent}
use Rattle.f3_tree.specs.declared.expression.Sign.{Sign}
use Rattle.f3_tree.specs.declared.expression.Sign.TheVariants.{Plus, Minus}
use Rattle.f3_tree.specs.Expressions.{Tree, integer, truth, text, designator, group, array, signed, negation, comparison, chain, no_more, more, Parts, no_parts, parts, bare, within, no_arguments, arguments}
use Rattle.f3_words.specs.declared.item.Word.{Word}
use Rattle.f3_words.specs.declared.item.Word.TheVariants as word
use Rattle.f3_words.specs.declared.item.Item.{Item}
use Rattle.f3_words.specs.Words.{is_name}
use Rattle.f3_words.specs.Reads.{IsFront}
use Rattle.f3_reading.specs.Parts.{EatsWord, Lacks, IsBehind}
use Rattle.f3_expressions.specs.Levels.{level_of, unsigned, joins, operator_of, Ends}
use Rattle.f3_expressions.specs.Grammar.{Eats, EatsParts, is_integer, closer_of}

-- ---- where expressions end

pub ends_lower : (j k : ℕ) (r : List Item) → j ≤ k → Ends k r → Ends j r
ends_lower j k [] le h = tt
ends_lower j k (t ∷ r) le h = λ l e. omega (arith, le, h l e)

pub ends_none : (r : List Item) → Ends 0 r
ends_none [] = tt
ends_none (t ∷ r) = λ l e. omega arith

-- a token that joins nothing
pub ends_there : (k : ℕ) (i : Item) (r : List Item) → joins i.word ≡ None → Ends k (i ∷ r)
ends_there k i r none l is = absurd (cc)

-- no operator and no relation is of level 2 or 5
pub operator_levels : (o : Operator) → (level_of o ≢ 2) × (level_of o ≢ 4) × (level_of o ≢ 5)
operator_levels Power = (λ e. omega (arith, e), λ e. omega (arith, e), λ e. omega (arith, e))
operator_levels Multiply = (λ e. omega (arith, e), λ e. omega (arith, e), λ e. omega (arith, e))
operator_levels Divide = (λ e. omega (arith, e), λ e. omega (arith, e), λ e. omega (arith, e))
operator_levels Add = (λ e. omega (arith, e), λ e. omega (arith, e), λ e. omega (arith, e))
operator_levels Subtract = (λ e. omega (arith, e), λ e. omega (arith, e), λ e. omega (arith, e))
operator_levels And = (λ e. omega (arith, e), λ e. omega (arith, e), λ e. omega (arith, e))
operator_levels Or = (λ e. omega (arith, e), λ e. omega (arith, e), λ e. omega (arith, e))
operator_levels Equivalent = (λ e. omega (arith, e), λ e. omega (arith, e), λ e. omega (arith, e))
operator_levels NotEquivalent = (λ e. omega (arith, e), λ e. omega (arith, e), λ e. omega (arith, e))

no_join : (w : Word) (k : ℕ) → joins w ≡ Some k → (k ≢ 2) × (k ≢ 5)
no_join (word.Operator o) k e = let n = operator_levels o in let same : level_of o ≡ k = cc in (λ t. n.0 (same ∙ t), λ t. n.2 (same ∙ t))
no_join (word.Relation x) k e = let same : 4 ≡ k = cc in (λ t. omega (arith, same, t), λ t. omega (arith, same, t))
no_join w k e = absurd (cc)

pub ends_at_two : (r : List Item) → Ends 2 r → Ends 3 r
ends_at_two [] h = tt
ends_at_two (t ∷ r) h = λ l e. let n = (no_join t.word l e).0 in omega (arith, h l e, n)

pub ends_at_five : (r : List Item) → Ends 5 r → Ends 6 r
ends_at_five [] h = tt
ends_at_five (t ∷ r) h = λ l e. let n = (no_join t.word l e).1 in omega (arith, h l e, n)

pub three_unsigned : unsigned 3 ≡ 2
three_unsigned = refl

pub other_unsigned : (l : ℕ) → l ≢ 3 → unsigned l ≡ l
other_unsigned l h = grind (arith, nat_tests)

pub unsigned_least : (l : ℕ) → unsigned l ≤ l
unsigned_least l = grind (arith, nat_tests)

pub ends_unsigned : (l : ℕ) (r : List Item) → Ends (unsigned l) r → Ends l r
ends_unsigned l r h = elim (cases_lt l 3) [
  | inl lt ↦ subst (λ (k : ℕ). Ends k r) (other_unsigned l (λ e. omega (arith, e, lt))) h
  | inr ge ↦ elim (cases_lt 3 l) [
    | inl lt ↦ subst (λ (k : ℕ). Ends k r) (other_unsigned l (λ e. omega (arith, e, lt))) h
    | inr le ↦
        let same : l ≡ 3 = omega arith in
        let two : Ends 2 r = subst (λ (k : ℕ). Ends (unsigned k) r) same h in
        subst (λ (k : ℕ). Ends k r) (sym same) (ends_at_two r two)
  ]
]

-- ---- the first token of an expression

-- the lowest level of which an expression may begin with a word
abbrev pub rank : Word → ℕ
rank (word.Name k) = 0
rank (word.KindDigit k) = 0
rank word.ShortInteger = 0
rank word.LongInteger = 0
rank (word.Truth b) = 0
rank word.Text = 0
rank word.Open = 0
rank word.OpenSlash = 0
rank word.OpenBracket = 0
rank (word.Operator Add) = 3
rank (word.Operator Subtract) = 3
rank word.Not = 6
rank _ = 10

integer_rank : (w : Word) → is_integer w ≡ true → rank w ≡ 0
integer_rank (word.KindDigit k) h = refl
integer_rank word.ShortInteger h = refl
integer_rank word.LongInteger h = refl
integer_rank w h = absurd (cc)

pub name_rank : (w : Word) → is_name w ≡ true → rank w ≡ 0
name_rank (word.Name k) h = refl
name_rank w h = absurd (cc)

closer_rank : (w x : Word) → closer_of w ≡ Some x → rank w ≡ 0
closer_rank word.OpenBracket x h = refl
closer_rank word.OpenSlash x h = refl
closer_rank w x h = absurd (cc)

pub sign_rank : (s : Sign) → rank (word.Operator (operator_of s)) ≡ 3
sign_rank Plus = refl
sign_rank Minus = refl

pub record Front (k : ℕ) (ts : List Item) : Type 0 where
  pub i : Item
  pub tail : List Item
  pub is : ts ≡ i ∷ tail
  pub ranks : rank i.word ≤ k

ranked : (k : ℕ) (w : Word) → rank w ≡ 0 → rank w ≤ k
ranked k w h = omega (arith, h)

parts_front : (k : ℕ) (ps : Parts) (ts r : List Item) → EatsParts ps ts r → Front k ts
parts_front k no_parts ts r h = absurd h
parts_front k (parts n b ps) ts r h = record { i = h.0; tail = h.1; is = h.3; ranks = ranked k (h.0).word (name_rank (h.0).word h.4) }

pub front : (k : ℕ) (t : Tree) (ts r : List Item) → Eats k t ts r → Front k ts
front k (integer p n) ts r h = record { i = h.0; tail = r; is = h.1; ranks = ranked k (h.0).word (integer_rank (h.0).word h.2) }
front k (truth p b) ts r h = record { i = h.0; tail = r; is = h.1; ranks = ranked k (h.0).word (ap rank h.2) }
front k (text p n) ts r h = record { i = h.0; tail = r; is = h.1; ranks = ranked k (h.0).word (ap rank h.2) }
front k (designator ps) ts r h = parts_front k ps ts r h
front k (group p e) ts r h = record { i = h.0; tail = h.1; is = h.3; ranks = ranked k (h.0).word (ap rank h.4) }
front k (array p es) ts r h = record { i = h.0; tail = h.1; is = h.3; ranks = ranked k (h.0).word (closer_rank (h.0).word (h.2).word h.4) }
front k (signed p s e) ts r h = record { i = h.0; tail = h.1; is = h.3; ranks = let three : rank (h.0).word ≡ 3 = ap rank h.4 ∙ sign_rank s in omega (arith, h.2, three) }
front k (negation p e) ts r h = record { i = h.0; tail = h.1; is = h.3; ranks = let six : rank (h.0).word ≡ 6 = ap rank h.4 in omega (arith, h.2, six) }
front k (comparison e x f) ts r h = let w = front 4 e ts (h.0 ∷ h.1) h.3 in record { i = w.i; tail = w.tail; is = w.is; ranks = let le = w.ranks in omega (arith, h.2, le) }
front k (chain e os) ts r h = let w = front h.0 e ts h.1 h.3 in record { i = w.i; tail = w.tail; is = w.is; ranks = let le = w.ranks in omega (arith, h.2, le) }

-- nothing of level k begins with a token of a higher rank
pub not_front : (k : ℕ) (t : Tree) (i : Item) (ts r : List Item) → k < rank i.word → Eats k t (i ∷ ts) r → ⊥
not_front k t i ts r lt h =
    let w = front k t (i ∷ ts) r h in
    let word_is : rank i.word ≡ rank (w.i).word = let e = w.is in ap (λ (x : Item). rank x.word) (let same : i ≡ w.i = cc in same) in
    omega (arith, lt, word_is, w.ranks)

pub not_empty : (k : ℕ) (t : Tree) (r : List Item) → Eats k t [] r → ⊥
not_empty k t r h = let e = (front k t [] r h).is in absurd (cc)

-- ---- a name and `=` at the front: nothing goes on with the name

equals_alone : (i equals j : Item) (tail r : List Item) → i ∷ equals ∷ tail ≡ j ∷ r → r ≡ equals ∷ tail
equals_alone i equals j tail r e = cc

parts_equals : (ps : Parts) (i equals : Item) (tail r : List Item) → equals.word ≡ word.Equals → EatsParts ps (i ∷ equals ∷ tail) r → r ≡ equals ∷ tail
parts_equals no_parts i equals tail r w h = absurd h
parts_equals (parts n bare no_parts) i equals tail r w h = sym (h.7).0 ∙ sym (h.6).0 ∙ equals_alone i equals h.0 tail h.1 h.3
parts_equals (parts n bare (parts m b ps)) i equals tail r w h =
    let at_equals : (h.7).0 ∷ (h.7).1 ∷ (h.7).2 ≡ equals ∷ tail = sym (h.7).4 ∙ sym (h.6).0 ∙ equals_alone i equals h.0 tail h.1 h.3 in
    let same : (h.7).0 ≡ equals = cc in
    let percent : word.Percent ≡ word.Equals = sym (h.7).5 ∙ ap (λ (x : Item). x.word) same ∙ w in absurd (cc)
parts_equals (parts n (within no_arguments) ps) i equals tail r w h =
    let at_equals : (h.6).0 ∷ (h.6).1 ∷ h.2 ≡ equals ∷ tail = sym (h.6).2 ∙ equals_alone i equals h.0 tail h.1 h.3 in
    let same : (h.6).0 ≡ equals = cc in
    let opens : word.Open ≡ word.Equals = sym (h.6).3 ∙ ap (λ (x : Item). x.word) same ∙ w in absurd (cc)
parts_equals (parts n (within (arguments a others)) ps) i equals tail r w h =
    let at_equals : (h.6).0 ∷ (h.6).1 ≡ equals ∷ tail = sym (h.6).4 ∙ equals_alone i equals h.0 tail h.1 h.3 in
    let same : (h.6).0 ≡ equals = cc in
    let opens : word.Open ≡ word.Equals = sym (h.6).5 ∙ ap (λ (x : Item). x.word) same ∙ w in absurd (cc)

-- a first token that is no name
other_first : (i j : Item) (ts us : List Item) → i ∷ ts ≡ j ∷ us → is_name i.word ≡ true → is_name j.word ≡ false → ⊥
other_first i j ts us e n o = let same : i ≡ j = cc in true≢false (sym n ∙ ap (λ (x : Item). is_name x.word) same ∙ o)

integer_no_name : (w : Word) → is_integer w ≡ true → is_name w ≡ false
integer_no_name (word.KindDigit k) h = refl
integer_no_name word.ShortInteger h = refl
integer_no_name word.LongInteger h = refl
integer_no_name w h = absurd (cc)

closer_no_name : (w x : Word) → closer_of w ≡ Some x → is_name w ≡ false
closer_no_name word.OpenBracket x h = refl
closer_no_name word.OpenSlash x h = refl
closer_no_name w x h = absurd (cc)

pub name_equals : (k : ℕ) (t : Tree) (i equals : Item) (tail r : List Item) → is_name i.word ≡ true → equals.word ≡ word.Equals → Eats k t (i ∷ equals ∷ tail) r → r ≡ equals ∷ tail
name_equals k (integer p n) i equals tail r named w h = absurd (other_first i h.0 (equals ∷ tail) r h.1 named (integer_no_name (h.0).word h.2))
name_equals k (truth p b) i equals tail r named w h = absurd (other_first i h.0 (equals ∷ tail) r h.1 named (ap is_name h.2))
name_equals k (text p n) i equals tail r named w h = absurd (other_first i h.0 (equals ∷ tail) r h.1 named (ap is_name h.2))
name_equals k (designator ps) i equals tail r named w h = parts_equals ps i equals tail r w h
name_equals k (group p e) i equals tail r named w h = absurd (other_first i h.0 (equals ∷ tail) h.1 h.3 named (ap is_name h.4))
name_equals k (array p es) i equals tail r named w h = absurd (other_first i h.0 (equals ∷ tail) h.1 h.3 named (closer_no_name (h.0).word (h.2).word h.4))
name_equals k (signed p s e) i equals tail r named w h = absurd (other_first i h.0 (equals ∷ tail) h.1 h.3 named (ap is_name h.4))
name_equals k (negation p e) i equals tail r named w h = absurd (other_first i h.0 (equals ∷ tail) h.1 h.3 named (ap is_name h.4))
name_equals k (comparison e x f) i equals tail r named w h =
    let at_equals = name_equals 4 e i equals tail (h.0 ∷ h.1) named w h.3 in
    let same : h.0 ≡ equals = cc in
    let relation : word.Relation x ≡ word.Equals = sym h.4 ∙ ap (λ (x : Item). x.word) same ∙ w in absurd (cc)
name_equals k (chain e no_more) i equals tail r named w h = absurd h.5
name_equals k (chain e (more o f os)) i equals tail r named w h =
    let at_equals = name_equals h.0 e i equals tail h.1 named w h.3 in
    let here : (h.4).0 ∷ (h.4).1 ≡ equals ∷ tail = sym (h.4).3 ∙ at_equals in
    let same : (h.4).0 ≡ equals = cc in
    let operator : word.Operator o ≡ word.Equals = sym (h.4).4 ∙ ap (λ (x : Item). x.word) same ∙ w in absurd (cc)

-- ---- one word at the front

pub front_of : (w : Word) (r : Option (Bor (List Item))) (ts : List Item) → IsBehind w r ts → IsFront w r ts
unfolding EatsWord Lacks
front_of w (Some tail) ts h = h.0
front_of w None ts h = λ i tail e is. h tail (i, e, is)
