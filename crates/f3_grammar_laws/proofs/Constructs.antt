-- Conditions, the values of CASE, and what stands behind DO are spelled in one way.
use Rattle.std.proofs.Common.{List, [], Option, sym, ap, ◌∙◌, inl, inr}
use Rattle.std.proofs.lemmas.Bool.{true≢false}
use Rattle.f3_places.specs.declared.source.Place.{Place}
use Rattle.f3_tree.specs.declared.expression.Name.{Name as Identifier}
use Rattle.f3_tree.specs.Expressions.{Tree}
use Rattle.f3_tree.specs.Statements.{CaseTree, one, from, up_to, range, values, counted, while, AssociationTree}
use Rattle.f3_words.specs.declared.item.Keyword.TheVariants as keyword
use Rattle.f3_words.specs.declared.item.Word.TheVariants as word
use Rattle.f3_words.specs.declared.item.Item.{Item}
use Rattle.f3_words.specs.Lists.{starts}
use Rattle.f3_reading.specs.Parts.{EatsWord, Lacks}
use Rattle.f3_reading.specs.Laws.{IsOne, IsOneWhole}
use Rattle.f3_reading.proofs.Words.{lacked}
use Rattle.f3_reading.proofs.Ones.{names, lists, enclosed, perhaps}
use Rattle.f3_expressions.specs.Grammar.{EatsExpression}
use Rattle.f3_actions.specs.Actions.{EatsCondition, IsCondition, IsThen, ends_value, EatsCase, AreCases, IsCaseList, IsDefault, AreValues, IsCase, EatsStepPerhaps, IsSteps, IsCounted, IsWhile, IsControl, IsDo, EatsAssociation, AreAssociations, IsAssociate}
use Rattle.f3_grammar_laws.proofs.Parts.{ap2, ap3, along, whole_along, sign, sign_along, lacked_along, front, first_of}
use Rattle.f3_grammar_laws.proofs.Ones.{expressions}

-- ---- conditions

pub conditions : IsOne EatsCondition
unfolding EatsCondition
conditions x y ts r s a b = enclosed EatsExpression expressions x y ts r s a b

pub whole_conditions : IsOneWhole IsCondition
unfolding IsCondition
whole_conditions x y ts a b = (conditions x y ts [] [] a b).0

pub thens : IsOneWhole IsThen
unfolding IsThen
thens x y ts a b = (conditions x y ts a.0 b.0 a.1 b.1).0

-- ---- CASE

-- an expression behind which no colon stands, and one behind which one stands
not_colon : (e f : Tree) (ts r a tail : List Item) → EatsExpression e ts r → Lacks word.Colon r → EatsExpression f ts a → EatsWord word.Colon a tail → ⊥
not_colon e f ts r a tail h none g colon = lacked_along word.Colon r a tail (expressions e f ts r a h g).1 none colon

cases : IsOne EatsCase
unfolding EatsCase
cases (one e) (one f) ts r s a b = let o = expressions e f ts r s a.1 b.1 in (ap (λ (z : Tree). one z) o.0, o.1)
cases (one e) (from f) ts r s a b = absurd (not_colon e f ts r b.0 s a.1 a.2 b.2 b.3)
cases (one e) (range f g) ts r s a b = absurd (not_colon e f ts r b.0 b.1 a.1 a.2 b.3 b.4)
cases (one e) (up_to q f) ts r s a b = absurd (lacked word.Colon ts b.1 a.0 b.2)
cases (from e) (one f) ts r s a b = absurd (not_colon f e ts s a.0 r b.1 b.2 a.2 a.3)
cases (from e) (from f) ts r s a b =
    let o = expressions e f ts a.0 b.0 a.2 b.2 in
    (ap (λ (z : Tree). from z) o.0, sign_along word.Colon a.0 b.0 r s o.1 a.3 b.3)
cases (from e) (range f g) ts r s a b =
    let o = expressions e f ts a.0 b.0 a.2 b.3 in
    let behind = sign_along word.Colon a.0 b.0 r b.1 o.1 a.3 b.4 in
    absurd (true≢false (sym a.4 ∙ ap (starts ends_value) behind ∙ b.5))
cases (from e) (up_to q f) ts r s a b = absurd (lacked word.Colon ts b.1 a.1 b.2)
cases (range e f) (one g) ts r s a b = absurd (not_colon g e ts s a.0 a.1 b.1 b.2 a.3 a.4)
cases (range e f) (from g) ts r s a b =
    let o = expressions g e ts b.0 a.0 b.2 a.3 in
    let behind = sign_along word.Colon b.0 a.0 s a.1 o.1 b.3 a.4 in
    absurd (true≢false (sym b.4 ∙ ap (starts ends_value) behind ∙ a.5))
cases (range e f) (range g h) ts r s a b =
    let first = expressions e g ts a.0 b.0 a.3 b.3 in
    let colon = sign_along word.Colon a.0 b.0 a.1 b.1 first.1 a.4 b.4 in
    let last = along EatsExpression expressions f h a.1 b.1 r s colon a.6 b.6 in
    (ap2 (λ (z w : Tree). range z w) first.0 last.0, last.1)
cases (range e f) (up_to q g) ts r s a b = absurd (lacked word.Colon ts b.1 a.2 b.2)
cases (up_to p e) (one f) ts r s a b = absurd (lacked word.Colon ts a.1 b.0 a.2)
cases (up_to p e) (from f) ts r s a b = absurd (lacked word.Colon ts a.1 b.1 a.2)
cases (up_to p e) (range f g) ts r s a b = absurd (lacked word.Colon ts a.1 b.2 a.2)
cases (up_to p e) (up_to q f) ts r s a b =
    let colon = front ts a.0 b.0 a.1 b.1 a.3 b.3 in
    let last = along EatsExpression expressions e f a.1 b.1 r s colon.1 a.5 b.5 in
    (ap2 (λ (z : Place) (w : Tree). up_to z w) (a.4 ∙ ap (λ (i : Item). i.place) colon.0 ∙ sym b.4) last.0, last.1)

case_lists : IsOne AreCases
unfolding AreCases
case_lists xs ys ts r s a b = lists EatsCase cases xs ys ts r s a b

whole_cases : IsOneWhole IsCaseList
unfolding IsCaseList
whole_cases xs ys ts a b = (enclosed AreCases case_lists xs ys ts [] [] a b).0

defaults : IsOneWhole IsDefault
unfolding IsDefault
defaults x y ts a b = a.1 ∙ sym b.1

case_values : IsOneWhole AreValues
unfolding AreValues
case_values x y ts a b = a.2 ∙ ap (λ (z : List CaseTree). values z) (whole_cases a.0 b.0 ts a.1 b.1) ∙ sym b.2

pub selectors : IsOneWhole IsCase
unfolding IsCase
selectors x y ts a b = first_of IsDefault AreValues defaults case_values x y ts a b

-- ---- DO

steps_perhaps : IsOne EatsStepPerhaps
unfolding EatsStepPerhaps
steps_perhaps x y ts r s a b = perhaps word.Comma EatsExpression expressions x y ts r s a b

abbrev three : Tree → Tree → Option Tree → Tree × Tree × Option Tree
three first last step = (first, last, step)

steps : IsOneWhole IsSteps
unfolding IsSteps
steps x y ts a b =
    let first = expressions a.0 b.0 ts a.3 b.3 a.6 b.6 in
    let comma = sign_along word.Comma a.3 b.3 a.4 b.4 first.1 a.7 b.7 in
    let last = along EatsExpression expressions a.1 b.1 a.4 b.4 a.5 b.5 comma a.8 b.8 in
    let step = along EatsStepPerhaps steps_perhaps a.2 b.2 a.5 b.5 [] [] last.1 a.9 b.9 in
    a.10 ∙ ap3 three first.0 last.0 step.0 ∙ sym b.10

counts : IsOneWhole IsCounted
unfolding IsCounted
counts x y ts a b =
    let n = names a.0 b.0 ts a.2 b.2 a.4 b.4 in
    let equals = sign_along word.Equals a.2 b.2 a.3 b.3 n.1 a.5 b.5 in
    let s = whole_along IsSteps steps a.1 b.1 a.3 b.3 equals a.6 b.6 in
    a.7 ∙ ap2 (λ (z : Identifier) (w : Tree × Tree × Option Tree). counted z w.0 w.1 w.2) n.0 s ∙ sym b.7

whiles : IsOneWhole IsWhile
unfolding IsWhile
whiles x y ts a b =
    let w = sign (word.Name keyword.While) ts a.1 b.1 a.2 b.2 in
    a.4 ∙ ap (λ (z : Tree). while z) (whole_along IsCondition whole_conditions a.0 b.0 a.1 b.1 w a.3 b.3) ∙ sym b.4

controls : IsOneWhole IsControl
unfolding IsControl
controls x y ts a b = first_of IsWhile IsCounted whiles counts x y ts a b

pub does : IsOneWhole IsDo
unfolding IsDo
does x y ts (inl a) (inl b) = a.1 ∙ sym b.1
does x y ts (inl a) (inr b) = absurd (b.0 a.0)
does x y ts (inr a) (inl b) = absurd (a.0 b.0)
does x y ts (inr a) (inr b) = controls x y ts a.1 b.1

-- ---- ASSOCIATE

abbrev association_of : Identifier → Tree → AssociationTree
association_of n e = record { name = n; selector = e }

associations : IsOne EatsAssociation
unfolding EatsAssociation
associations x y ts r s a b =
    let n = names a.0 b.0 ts a.2 b.2 a.4 b.4 in
    let arrow = sign_along word.Arrow a.2 b.2 a.3 b.3 n.1 a.5 b.5 in
    let e = along EatsExpression expressions a.1 b.1 a.3 b.3 r s arrow a.6 b.6 in
    (a.7 ∙ ap2 association_of n.0 e.0 ∙ sym b.7, e.1)

association_lists : IsOne AreAssociations
unfolding AreAssociations
association_lists xs ys ts r s a b = lists EatsAssociation associations xs ys ts r s a b

pub all_associations : IsOneWhole IsAssociate
unfolding IsAssociate
all_associations xs ys ts a b = (enclosed AreAssociations association_lists xs ys ts [] [] a b).0
