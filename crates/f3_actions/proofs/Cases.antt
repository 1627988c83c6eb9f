-- The values of a CASE.
use Rattle.std.proofs.Common.{◌≡◌, true, false, List, ◌∷◌, Result, Ok, Err, refl, sym, ap, subst, ◌∙◌}
use Rattle.std.proofs.lemmas.Bool.{true≢false}
use Rattle.std.specs.Borrow.{Bor}
use Rattle.f3_places.specs.declared.source.Place.{Place}
use Rattle.f3_tree.specs.Expressions.{Tree}
use Rattle.f3_tree.specs.declared.statement.CaseValue.{CaseValue}
use Rattle.f3_tree.specs.Statements.{CaseTree, one, from, up_to, range, case_view}
use Rattle.f3_words.specs.declared.error.ReadError.{ReadError}
use Rattle.f3_words.specs.declared.error.ReadError.TheVariants.{Memory, NoForm}
use Rattle.f3_words.specs.declared.item.Word.TheVariants.{Colon}
use Rattle.f3_words.specs.declared.item.Item.{Item}
use Rattle.f3_words.specs.Lists.{starts}
use Rattle.f3_words.specs.Reads.{IsRead, Fails, Reads}
use Rattle.f3_reading.specs.Parts.{EatsWord, Lacks}
use Rattle.f3_reading.proofs.Words.{same_tail, lacked}
use Rattle.f3_expressions.specs.Grammar.{EatsExpression}
use Rattle.f3_actions.specs.Actions.{EatsCase, ends_value}
use Rattle.f3_actions.specs.Inner.Readings.{EatsCaseBehind}

-- ---- from a colon on

pub from_colon : (ts a : List Item) (i : Item) (p : Place) (f : Tree) (r : List Item) → ts ≡ i ∷ a → EatsWord Colon ts a → p ≡ i.place → IsRead EatsExpression a f r → IsRead EatsCase ts (up_to p f) r
unfolding EatsCase
from_colon ts a i at f r is colon here x = record { eats = (i, a, colon, is, here, x.eats); only = λ y s h. by y s h }
  where
    by : (y : CaseTree) (s : List Item) → EatsCase y ts s → (y ≡ up_to at f) × (s ≡ r)
    by (one e) s h = absurd (lacked Colon ts a h.0 colon)
    by (from e) s h = absurd (lacked Colon ts a h.1 colon)
    by (range e g) s h = absurd (lacked Colon ts a h.2 colon)
    by (up_to p g) s h =
        let tail : h.1 ≡ a = same_tail Colon Colon ts a h.1 colon h.2 in
        let first : h.0 ≡ i = let e : h.0 ∷ h.1 ≡ i ∷ a = sym h.3 ∙ is in cc in
        let same = x.only g s (subst (λ (l : List Item). EatsExpression g l s) tail h.5) in
        (ap (λ (v : Place). up_to v g) (h.4 ∙ ap (λ (v : Item). v.place) first ∙ sym here) ∙ ap (λ (v : Tree). up_to at v) same.0, same.1)

pub colon_fails : (ts a : List Item) → EatsWord Colon ts a → Fails EatsExpression a → Fails EatsCase ts
unfolding EatsCase
colon_fails ts a colon none (one e) s h = lacked Colon ts a h.0 colon
colon_fails ts a colon none (from e) s h = lacked Colon ts a h.1 colon
colon_fails ts a colon none (range e g) s h = lacked Colon ts a h.2 colon
colon_fails ts a colon none (up_to p g) s h = none g s (subst (λ (l : List Item). EatsExpression g l s) (same_tail Colon Colon ts a h.1 colon h.2) h.5)

-- ---- from a value on

with_first : (ts a : List Item) (e : Tree) (y : CaseTree) (s : List Item) → Lacks Colon ts → EatsExpression e ts a → EatsCaseBehind e y a s → EatsCase y ts s
unfolding EatsCase
with_first ts a e (one f) s none x h = (none, subst (λ (v : Tree). EatsExpression v ts s) (sym h.0) (subst (λ (l : List Item). EatsExpression e ts l) h.1 x), subst (λ (l : List Item). Lacks Colon l) h.1 h.2)
with_first ts a e (from f) s none x h = (a, none, subst (λ (v : Tree). EatsExpression v ts a) (sym h.0) x, h.1, h.2)
with_first ts a e (range f g) s none x h = (a, h.0, none, subst (λ (v : Tree). EatsExpression v ts a) (sym h.1) x, h.2, h.3, h.4)
with_first ts a e (up_to p g) s none x h = absurd h

behind_first : (ts a : List Item) (e : Tree) (y : CaseTree) (s : List Item) → Lacks Colon ts → IsRead EatsExpression ts e a → EatsCase y ts s → EatsCaseBehind e y a s
unfolding EatsCase
behind_first ts a e (one f) s none x h = let same = x.only f s h.1 in (same.0, sym same.1, subst (λ (l : List Item). Lacks Colon l) same.1 h.2)
behind_first ts a e (from f) s none x h = let same = x.only f h.0 h.2 in (same.0, subst (λ (l : List Item). EatsWord Colon l s) same.1 h.3, h.4)
behind_first ts a e (range f g) s none x h = let same = x.only f h.0 h.3 in (h.1, same.0, subst (λ (l : List Item). EatsWord Colon l h.1) same.1 h.4, h.5, h.6)
behind_first ts a e (up_to p g) s none x h = absurd (lacked Colon ts h.1 none h.2)

from_value : (ts a : List Item) (e : Tree) (y : CaseTree) (s : List Item) → Lacks Colon ts → IsRead EatsExpression ts e a → IsRead (EatsCaseBehind e) a y s → IsRead EatsCase ts y s
from_value ts a e y s none x b = record {
  eats = with_first ts a e y s none x.eats b.eats;
  only = λ z t h. b.only z t (behind_first ts a e z t none x h);
}

pub value_fails : (ts : List Item) → Lacks Colon ts → Fails EatsExpression ts → Fails EatsCase ts
unfolding EatsCase
value_fails ts none x (one f) s h = x f s h.1
value_fails ts none x (from f) s h = x f h.0 h.2
value_fails ts none x (range f g) s h = x f h.0 h.3
value_fails ts none x (up_to p g) s h = lacked Colon ts h.1 none h.2

behind_fails : (ts a : List Item) (e : Tree) → Lacks Colon ts → IsRead EatsExpression ts e a → Fails (EatsCaseBehind e) a → Fails EatsCase ts
behind_fails ts a e none x b y s h = b y s (behind_first ts a e y s none x h)

-- what a reader of what stands behind the first value answers
pub value_result : (ts a : List Item) (e : Tree) → Lacks Colon ts → IsRead EatsExpression ts e a → (result : Result (CaseValue × Bor (List Item)) ReadError) → Reads (EatsCaseBehind e) case_view result a → Reads EatsCase case_view result ts
value_result ts a e none x (Ok y) h = from_value ts a e (case_view y.0) y.1.now none x h
value_result ts a e none x (Err Memory) h = tt
value_result ts a e none x (Err NoForm) h = behind_fails ts a e none x h

-- ---- behind the first value

pub no_upper : (e : Tree) (ts a : List Item) → EatsWord Colon ts a → starts ends_value a ≡ true → IsRead (EatsCaseBehind e) ts (from e) a
no_upper e ts a colon ends = record { eats = (refl, colon, ends); only = λ y s h. by y s h }
  where
    by : (y : CaseTree) (s : List Item) → EatsCaseBehind e y ts s → (y ≡ from e) × (s ≡ a)
    by (one f) s h = absurd (lacked Colon ts a h.2 colon)
    by (from f) s h = (ap (λ (v : Tree). from v) h.0, same_tail Colon Colon ts a s colon h.1)
    by (range f g) s h = absurd (true≢false (sym ends ∙ sym (ap (starts ends_value) (same_tail Colon Colon ts a h.0 colon h.2)) ∙ h.3))
    by (up_to p g) s h = absurd h

pub upper_behind : (e : Tree) (ts a : List Item) (g : Tree) (r : List Item) → EatsWord Colon ts a → starts ends_value a ≡ false → IsRead EatsExpression a g r → IsRead (EatsCaseBehind e) ts (range e g) r
upper_behind e ts a g r colon more x = record { eats = (a, refl, colon, more, x.eats); only = λ y s h. by y s h }
  where
    by : (y : CaseTree) (s : List Item) → EatsCaseBehind e y ts s → (y ≡ range e g) × (s ≡ r)
    by (one f) s h = absurd (lacked Colon ts a h.2 colon)
    by (from f) s h = absurd (true≢false (sym h.2 ∙ ap (starts ends_value) (same_tail Colon Colon ts a s colon h.1) ∙ more))
    by (range f k) s h =
        let same = x.only k s (subst (λ (l : List Item). EatsExpression k l s) (same_tail Colon Colon ts a h.0 colon h.2) h.4) in
        (ap (λ (v : Tree). range v k) h.1 ∙ ap (λ (v : Tree). range e v) same.0, same.1)
    by (up_to p k) s h = absurd h

pub upper_fails : (e : Tree) (ts a : List Item) → EatsWord Colon ts a → starts ends_value a ≡ false → Fails EatsExpression a → Fails (EatsCaseBehind e) ts
upper_fails e ts a colon more none (one f) s h = lacked Colon ts a h.2 colon
upper_fails e ts a colon more none (from f) s h = true≢false (sym h.2 ∙ ap (starts ends_value) (same_tail Colon Colon ts a s colon h.1) ∙ more)
upper_fails e ts a colon more none (range f k) s h = none k s (subst (λ (l : List Item). EatsExpression k l s) (same_tail Colon Colon ts a h.0 colon h.2) h.4)
upper_fails e ts a colon more none (up_to p k) s h = h
