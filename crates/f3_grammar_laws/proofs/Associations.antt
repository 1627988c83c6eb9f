-- Associations stand where no arguments do.
use Rattle.std.proofs.Common.{◌≡◌, List, [], ◌∷◌, Bool, true, false, Option, Some, None, refl, sym, ap, subst, ◌∙◌, inl, inr}
use Rattle.std.proofs.lemmas.Bool.{true≢false}
use Rattle.f3_tree.specs.declared.expression.Name.{Name as Identifier}
use Rattle.f3_tree.specs.Expressions.{Tree, designator, Parts, no_parts, parts, bare, Arguments, no_arguments, arguments, ArgumentTree, value, triplet, absent, present}
use Rattle.f3_tree.specs.Statements.{AssociationTree}
use Rattle.f3_words.specs.declared.item.Word.{Word}
use Rattle.f3_words.specs.declared.item.Word.TheVariants as word
use Rattle.f3_words.specs.declared.item.Item.{Item}
use Rattle.f3_words.specs.Words.{is_name}
use Rattle.f3_words.specs.Lists.{starts}
use Rattle.f3_reading.specs.Parts.{EatsWord, EatsName}
use Rattle.f3_expressions.specs.Levels.{whole, joins, Ends}
use Rattle.f3_expressions.specs.Grammar.{Eats, is_open, is_percent, EatsOthers, EatsWithin, EatsArgument, EatsExpression}
use Rattle.f3_expressions.proofs.Fronts.{ends_there}
use Rattle.f3_actions.specs.Actions.{EatsAssociation, AreAssociations, IsAssociate}
use Rattle.f3_grammar_laws.proofs.Ones.{expressions}
use Rattle.f3_grammar_laws.proofs.Parts.{front}
use Rattle.f3_grammar_laws.proofs.Assigned.{is_target, Opposed}

-- what stands behind an argument, or behind the first part of a triplet
abbrev ends_part : Word → Bool
ends_part word.Comma = true
ends_part word.Close = true
ends_part word.Colon = true
ends_part _ = false

ends_joins : (w : Word) → ends_part w ≡ true → joins w ≡ None
ends_joins word.Comma h = refl
ends_joins word.Close h = refl
ends_joins word.Colon h = refl
ends_joins w h = absurd (cc)

ends_at : (r : List Item) → starts ends_part r ≡ true → Ends whole r
ends_at [] h = absurd (true≢false (sym h))
ends_at (i ∷ r) h = ends_there whole i r (ends_joins i.word h)

-- a name before `=>`
record Named (ts a : List Item) : Type 0 where
  name : Identifier
  behind : List Item
  eats : EatsName name ts a
  arrow : EatsWord word.Arrow a behind

arrow_tests : (test : Word → Bool) (ts a : List Item) → test word.Arrow ≡ false → Named ts a → starts test a ≡ false
unfolding EatsWord
arrow_tests test ts a none h = let w = h.arrow in ap (starts test) w.1 ∙ ap test w.2 ∙ none

arrow_ends : (ts a : List Item) → Named ts a → Ends whole a
unfolding EatsWord
arrow_ends ts a h = let w = h.arrow in subst (λ (l : List Item). Ends whole l) (sym w.1) (ends_there whole w.0 h.behind (ap joins w.2))

as_expression : (ts a : List Item) (h : Named ts a) → EatsExpression (designator (parts h.name bare no_parts)) ts a
unfolding EatsExpression EatsName
as_expression ts a h =
    let n = h.eats in
    let opened = arrow_tests is_open ts a refl h in
    let percent = arrow_tests is_percent ts a refl h in
    ((n.0, a, a, n.1, n.2, n.3, (refl, opened), (refl, percent)), arrow_ends ts a h)

-- no expression goes from such a name to the end of an argument or of a bound
no_part : (e : Tree) (ts a r : List Item) → Named ts a → Eats whole e ts r → starts ends_part r ≡ true → ⊥
unfolding EatsExpression
no_part e ts a r h eats ends =
    let name = designator (parts (h.name) bare no_parts) in
    let same = (expressions name e ts a r (as_expression ts a h) (eats, ends_at r ends)).1 in
    true≢false (sym ends ∙ sym (ap (starts ends_part) same) ∙ arrow_tests ends_part ts a refl h)

name_tests : (ts a : List Item) → Named ts a → starts is_name ts ≡ true
unfolding EatsName
name_tests ts a h = let n = h.eats in ap (starts is_name) n.1 ∙ n.2

no_argument : (x : ArgumentTree) (ts a mid : List Item) → Named ts a → EatsArgument x ts mid → starts ends_part mid ≡ true → ⊥
unfolding EatsName
no_argument (value None e) ts a mid h x ends = no_part e ts a mid h (subst (λ (l : List Item). Eats whole e l mid) (sym x.1) x.2) ends
no_argument (value (Some m) e) ts a mid h x ends =
    let n = h.eats in
    let k = x.1 in
    let same = (front ts n.0 k.0 a (k.1 ∷ x.0) n.1 k.2).1 in
    true≢false (sym (ap (starts is_target) same ∙ ap is_target k.5) ∙ arrow_tests is_target ts a refl h)
no_argument (triplet p absent last stride) ts a mid h x ends =
    true≢false (sym (name_tests ts a h) ∙ ap (starts is_name) x.7 ∙ ap is_name x.8)
no_argument (triplet p (present e) last stride) ts a mid h x ends = no_part e ts a ((x.2) ∷ (x.3)) h x.7 (ap ends_part x.8)

others_end : (l : Arguments) (ts r : List Item) (last : Item) → last.word ≡ word.Close → EatsOthers l ts (last ∷ r) → starts ends_part ts ≡ true
others_end no_arguments ts r last closes h = ap (starts ends_part) h ∙ ap ends_part closes
others_end (arguments x l) ts r last closes h = ap (starts ends_part) h.3 ∙ ap ends_part h.4

-- arguments do not begin so
no_within : (l : Arguments) (ts inner a r : List Item) → EatsWord word.Open ts inner → Named inner a → EatsWithin l ts r → ⊥
unfolding EatsWord
no_within no_arguments ts inner a r opens h w =
    let same = (front ts opens.0 w.0 inner (w.1 ∷ r) opens.1 w.2).1 in
    true≢false (sym (name_tests inner a h) ∙ ap (starts is_name) same ∙ ap is_name w.4)
no_within (arguments x l) ts inner a r opens h w =
    let same = (front ts opens.0 w.0 inner w.1 opens.1 w.4).1 in
    let there : EatsArgument x inner w.2 = subst (λ (k : List Item). EatsArgument x k w.2) (sym same) w.6 in
    no_argument x inner a w.2 h there (others_end l w.2 r w.3 w.8 w.7)

first_named : (x : AssociationTree) (ts r : List Item) → EatsAssociation x ts r → (a : List Item) × Named ts a
unfolding EatsAssociation
first_named x ts r h = (h.2, record { name = h.0; behind = h.3; eats = h.4; arrow = h.5 })

pub associations_there : (xs : List AssociationTree) (ts : List Item) → IsAssociate xs ts → Opposed ts
unfolding IsAssociate AreAssociations EatsWord
associations_there xs ts h =
    let opens = h.2 in
    let list = h.3 in
    let n = first_named list.0 h.0 list.2 list.4 in
    inr (ap (starts is_target) opens.1 ∙ ap is_target opens.2, λ l mid w. absurd (no_within l ts h.0 n.0 mid opens n.1 w))
