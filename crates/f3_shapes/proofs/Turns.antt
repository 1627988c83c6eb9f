-- Bounds that go one way or another by the colon that stands there.
use Rattle.std.proofs.Common.{◌≡◌, List, Option, Some, None, refl, ap, subst, ◌∙◌}
use Rattle.f3_tree.specs.Expressions.{Tree}
use Rattle.f3_tree.specs.Declarations.{Bounds}
use Rattle.f3_words.specs.declared.item.Word.TheVariants.{Colon}
use Rattle.f3_words.specs.declared.item.Item.{Item}
use Rattle.f3_words.specs.Reads.{IsRead, Fails}
use Rattle.f3_reading.specs.Parts.{EatsWord, Lacks}
use Rattle.f3_reading.proofs.Words.{same_tail, lacked}
use Rattle.f3_expressions.specs.Grammar.{EatsExpression}
use Rattle.f3_shapes.specs.Shapes.{EatsBound, EatsBounds, EatsLower}

-- ---- `e`, or `e:e`

abbrev pair : Option Tree → Tree → Bounds
pair l u = record { lower = l; upper = u }

pub upper_alone : (ts r : List Item) (e : Tree) → IsRead EatsExpression ts e r → Lacks Colon r → IsRead EatsBounds ts (pair None e) r
unfolding EatsBounds
upper_alone ts r e a none = record { eats = (None, e, (a.eats, none), refl); only = λ y s h. by y s h.0 h.1 h.2 h.3 }
  where
    by : (y : Bounds) (s : List Item) (l : Option Tree) (u : Tree) → EatsBound l u ts s → y ≡ pair l u → (y ≡ pair None e) × (s ≡ r)
    by y s None u h is = let same = a.only u s h.0 in (is ∙ ap (λ (x : Tree). pair None x) same.0, same.1)
    by y s (Some l) u h is = let same = a.only l h.0 h.2 in absurd (lacked Colon r h.1 none (subst (λ (x : List Item). EatsWord Colon x h.1) same.1 h.3))

pub both_bounds : (ts r a : List Item) (e f : Tree) (s : List Item) → IsRead EatsExpression ts e r → EatsWord Colon r a → IsRead EatsExpression a f s → IsRead EatsBounds ts (pair (Some e) f) s
unfolding EatsBounds
both_bounds ts r a e f s x colon y = record { eats = (Some e, f, (r, a, x.eats, colon, y.eats), refl); only = λ z t h. by z t h.0 h.1 h.2 h.3 }
  where
    by : (z : Bounds) (t : List Item) (l : Option Tree) (u : Tree) → EatsBound l u ts t → z ≡ pair l u → (z ≡ pair (Some e) f) × (t ≡ s)
    by z t None u h is = let same = x.only u t h.0 in absurd (lacked Colon r a (subst (λ (v : List Item). Lacks Colon v) same.1 h.1) colon)
    by z t (Some l) u h is =
        let one = x.only l h.0 h.2 in
        let tail = same_tail Colon Colon r a h.1 colon (subst (λ (v : List Item). EatsWord Colon v h.1) one.1 h.3) in
        let two = y.only u t (subst (λ (v : List Item). EatsExpression u v t) tail h.4) in
        (is ∙ ap (λ (v : Tree). pair (Some v) u) one.0 ∙ ap (λ (v : Tree). pair (Some e) v) two.0, two.1)

pub bounds_fail : (ts r a : List Item) (e : Tree) → IsRead EatsExpression ts e r → EatsWord Colon r a → Fails EatsExpression a → Fails EatsBounds ts
unfolding EatsBounds
bounds_fail ts r a e x colon none z t h = by h.0 h.1 h.2
  where
    by : (l : Option Tree) (u : Tree) → EatsBound l u ts t → ⊥
    by None u h = let same = x.only u t h.0 in lacked Colon r a (subst (λ (v : List Item). Lacks Colon v) same.1 h.1) colon
    by (Some l) u h =
        let one = x.only l h.0 h.2 in
        let tail = same_tail Colon Colon r a h.1 colon (subst (λ (v : List Item). EatsWord Colon v h.1) one.1 h.3) in
        none u t (subst (λ (v : List Item). EatsExpression u v t) tail h.4)

-- ---- `:`, or `e:`

pub no_lower : (ts r : List Item) → EatsWord Colon ts r → IsRead EatsLower ts None r
unfolding EatsLower
no_lower ts r colon = record { eats = colon; only = λ y s h. by y s h }
  where
    by : (y : Option Tree) (s : List Item) → EatsLower y ts s → (y ≡ None) × (s ≡ r)
    by None s h = (refl, same_tail Colon Colon ts r s colon h)
    by (Some e) s h = absurd (lacked Colon ts r h.1 colon)

pub lower_before : (ts r : List Item) (e : Tree) (s : List Item) → Lacks Colon ts → IsRead EatsExpression ts e r → EatsWord Colon r s → IsRead EatsLower ts (Some e) s
unfolding EatsLower
lower_before ts r e s none x colon = record { eats = (r, none, x.eats, colon); only = λ y t h. by y t h }
  where
    by : (y : Option Tree) (t : List Item) → EatsLower y ts t → (y ≡ Some e) × (t ≡ s)
    by None t h = absurd (lacked Colon ts t none h)
    by (Some f) t h =
        let one = x.only f h.0 h.2 in
        (ap (λ (v : Tree). Some v) one.0, same_tail Colon Colon r s t colon (subst (λ (v : List Item). EatsWord Colon v t) one.1 h.3))

pub lower_fails : (ts : List Item) → Lacks Colon ts → Fails EatsExpression ts → Fails EatsLower ts
unfolding EatsLower
lower_fails ts none a None t h = lacked Colon ts t none h
lower_fails ts none a (Some f) t h = a f h.0 h.2

pub no_colon_behind : (ts r : List Item) (e : Tree) → Lacks Colon ts → IsRead EatsExpression ts e r → ((s : List Item) → EatsWord Colon r s → ⊥) → Fails EatsLower ts
unfolding EatsLower
no_colon_behind ts r e none x missing None t h = lacked Colon ts t none h
no_colon_behind ts r e none x missing (Some f) t h = let one = x.only f h.0 h.2 in missing t (subst (λ (v : List Item). EatsWord Colon v t) one.1 h.3)
