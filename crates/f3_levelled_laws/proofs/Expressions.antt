-- What tokens spell as an expression has the operators of each chain of one sort.
use Rattle.std.proofs.Common.{◌≡◌, ℕ, List, ◌∷◌, nat_lt, if◌then◌else◌, refl, sym, ap, ◌∙◌, subst}
use Rattle.f3_tree.specs.Expressions.{Tree, integer, truth, text, designator, group, array, signed, negation, comparison, chain, Rest, no_more, more}
use Rattle.f3_tree.specs.Expressions.{Trees, no_trees, trees, Parts, no_parts, parts, Behind, bare, within, Arguments, no_arguments, arguments}
use Rattle.f3_tree.specs.Expressions.{ArgumentTree, value, triplet, Perhaps, absent, present, arguments_of}
use Rattle.f3_tree.specs.declared.expression.Operator.{Operator}
use Rattle.f3_tree.specs.declared.expression.Operator.TheVariants.{Power, Multiply, Divide, Add, Subtract, And, Or, Equivalent, NotEquivalent}
use Rattle.f3_words.specs.declared.item.Item.{Item}
use Rattle.f3_expressions.specs.Levels.{term, sum, compared, whole, unsigned, level_of as grammar_level}
use Rattle.f3_expressions.specs.Grammar.{Eats, EatsRest, EatsElements, EatsFurther, EatsParts, EatsComponents, EatsBehind, EatsWithin, EatsOthers}
use Rattle.f3_expressions.specs.Grammar.{EatsArgument, EatsPerhaps, EatsStride, EatsExpression, EatsDesignator, EatsArguments}
use Rattle.f3_kinds.specs.declared.types.Wanted.{Wanted}
use Rattle.f3_kinds.specs.declared.types.Wanted.TheVariants as wanted
use Rattle.f3_kinds.specs.Operands.{wanted_by}
use Rattle.f3_kinds.specs.Typing.{level_of}
use Rattle.f3_formed_laws.specs.Levels.{AreOfSort, IsLevelled, IsRestLevelled, AreLevelled, ArePartsLevelled, IsBehindLevelled, AreArgumentsLevelled}
use Rattle.f3_formed_laws.specs.Levels.{IsArgumentLevelled, IsPerhapsLevelled}

-- ---- the sort of a level: operators of sums and below take integers, those above comparisons logicals

abbrev sort_of : ℕ → Wanted
sort_of l = if nat_lt l compared then wanted.Integer else wanted.Logical

sorted : (o : Operator) → wanted_by o ≡ sort_of (grammar_level o)
sorted Power = refl
sorted Multiply = refl
sorted Divide = refl
sorted Add = refl
sorted Subtract = refl
sorted And = refl
sorted Or = refl
sorted Equivalent = refl
sorted NotEquivalent = refl

rest_sorted : (os : Rest) (l : ℕ) (ts r : List Item) → EatsRest l os ts r → AreOfSort (sort_of l) os
rest_sorted no_more l ts r h = tt
rest_sorted (more o e os) l ts r h = (sorted o ∙ ap sort_of h.5, rest_sorted os l h.2 r h.7)

-- so the operators of a chain are of the sort of the first
one_sort : (os : Rest) (l : ℕ) (ts r : List Item) → EatsRest l os ts r → AreOfSort (level_of os) os
one_sort no_more l ts r h = tt
one_sort (more o e os) l ts r h =
    (refl, subst (λ w. AreOfSort w os) (sym (sorted o ∙ ap sort_of h.5)) (rest_sorted os l h.2 r h.7))

-- ---- expressions

mutual
  tree : (t : Tree) (k : ℕ) (ts r : List Item) → Eats k t ts r → IsLevelled t
  tree (integer p n) k ts r h = tt
  tree (truth p b) k ts r h = tt
  tree (text p n) k ts r h = tt
  tree (designator ps) k ts r h = named ps ts r h
  tree (group p e) k ts r h = tree e whole h.1 (h.2 ∷ r) h.6
  tree (array p es) k ts r h = elements es h.1 (h.2 ∷ r) h.6
  tree (signed p s e) k ts r h = tree e term h.1 r h.6
  tree (negation p e) k ts r h = tree e compared h.1 r h.6
  tree (comparison e x f) k ts r h = (tree e sum ts (h.0 ∷ h.1) h.3, tree f sum h.1 r h.5)
  tree (chain e os) k ts r h = (one_sort os h.0 h.1 r h.4, tree e h.0 ts h.1 h.3, rest os h.0 h.1 r h.4)

  rest : (os : Rest) (l : ℕ) (ts r : List Item) → EatsRest l os ts r → IsRestLevelled os
  rest no_more l ts r h = tt
  rest (more o e os) l ts r h = (tree e (unsigned l) h.1 h.2 h.6, rest os l h.2 r h.7)

  elements : (es : Trees) (ts r : List Item) → EatsElements es ts r → AreLevelled es
  elements no_trees ts r h = absurd h
  elements (trees e es) ts r h = (tree e whole ts h.0 h.1, further es h.0 r h.2)

  further : (es : Trees) (ts r : List Item) → EatsFurther es ts r → AreLevelled es
  further no_trees ts r h = tt
  further (trees e es) ts r h = (tree e whole h.1 h.2 h.5, further es h.2 r h.6)

  named : (ps : Parts) (ts r : List Item) → EatsParts ps ts r → ArePartsLevelled ps
  named no_parts ts r h = absurd h
  named (parts n b ps) ts r h = (behind b h.1 h.2 h.6, components ps h.2 r h.7)

  components : (ps : Parts) (ts r : List Item) → EatsComponents ps ts r → ArePartsLevelled ps
  components no_parts ts r h = tt
  components (parts n b ps) ts r h = (behind b h.2 h.3 h.8, components ps h.3 r h.9)

  behind : (b : Behind) (ts r : List Item) → EatsBehind b ts r → IsBehindLevelled b
  behind bare ts r h = tt
  behind (within list) ts r h = enclosed list ts r h

  enclosed : (list : Arguments) (ts r : List Item) → EatsWithin list ts r → AreArgumentsLevelled list
  enclosed no_arguments ts r h = tt
  enclosed (arguments a list) ts r h = (argument a h.1 h.2 h.6, others list h.2 (h.3 ∷ r) h.7)

  others : (list : Arguments) (ts r : List Item) → EatsOthers list ts r → AreArgumentsLevelled list
  others no_arguments ts r h = tt
  others (arguments a list) ts r h = (argument a h.1 h.2 h.5, others list h.2 r h.6)

  argument : (a : ArgumentTree) (ts r : List Item) → EatsArgument a ts r → IsArgumentLevelled a
  argument (value keyword e) ts r h = tree e whole h.0 r h.2
  argument (triplet p first last stride) ts r h = (bound first ts (h.2 ∷ h.3) h.7, bound last h.3 h.4 h.9, step stride h.4 r h.10)

  bound : (b : Perhaps) (ts r : List Item) → EatsPerhaps b ts r → IsPerhapsLevelled b
  bound absent ts r h = tt
  bound (present e) ts r h = tree e whole ts r h

  step : (b : Perhaps) (ts r : List Item) → EatsStride b ts r → IsPerhapsLevelled b
  step absent ts r h = tt
  step (present e) ts r h = tree e whole h.1 r h.4

pub expression : (t : Tree) (ts r : List Item) → EatsExpression t ts r → IsLevelled t
unfolding EatsExpression
expression t ts r h = tree t whole ts r h.0

pub variable : (ps : Parts) (ts r : List Item) → EatsDesignator ps ts r → ArePartsLevelled ps
unfolding EatsDesignator
variable ps ts r h = named ps ts r h

pub given : (list : List ArgumentTree) (ts r : List Item) → EatsArguments list ts r → AreArgumentsLevelled (arguments_of list)
unfolding EatsArguments
given list ts r h = enclosed (arguments_of list) ts r h
