-- What tokens spell as an expression has literals of at most 64 bits, where the tokens have, and so have those behind it.
use Rattle.std.proofs.Common.{ℕ, List, ◌∷◌, Option, Some, None, sym, subst}
use Rattle.f3_tree.specs.declared.expression.Name.{Name}
use Rattle.f3_tree.specs.Expressions.{Tree, integer, truth, text, designator, group, array, signed, negation, comparison, chain, Rest, no_more, more}
use Rattle.f3_tree.specs.Expressions.{Trees, no_trees, trees, Parts, no_parts, parts, Behind, bare, within, Arguments, no_arguments, arguments}
use Rattle.f3_tree.specs.Expressions.{ArgumentTree, value, triplet, Perhaps, absent, present, arguments_of}
use Rattle.f3_words.specs.declared.item.Item.{Item}
use Rattle.f3_expressions.specs.Levels.{term, sum, compared, whole, unsigned}
use Rattle.f3_expressions.specs.Grammar.{Eats, EatsRest, EatsElements, EatsFurther, EatsParts, EatsComponents, EatsBehind, EatsWithin, EatsOthers, EatsKeyword}
use Rattle.f3_expressions.specs.Grammar.{EatsArgument, EatsPerhaps, EatsStride, EatsExpression, EatsDesignator, EatsArguments}
use Rattle.f3_fitting_laws.specs.Bounded.{IsWord, IsBounded, IsRestBounded, AreBounded, ArePartsBounded, IsBehindBounded, AreArgumentsBounded, IsArgumentBounded, IsPerhapsBounded}
use Rattle.f3_bounded_laws.proofs.Tokens.{AreWords}

keyword : (n : Option Name) (ts r : List Item) → AreWords ts → EatsKeyword n ts r → AreWords r
keyword None ts r w h = subst AreWords h w
keyword (Some n) ts r w h = let v : AreWords (h.0 ∷ h.1 ∷ r) = subst AreWords h.2 w in v.1.1

mutual
  tree : (t : Tree) (k : ℕ) (ts r : List Item) → AreWords ts → Eats k t ts r → IsBounded t × AreWords r
  tree (integer p n) k ts r w h = let v : AreWords (h.0 ∷ r) = subst AreWords h.1 w in (subst IsWord (sym h.4) v.0, v.1)
  tree (truth p b) k ts r w h = let v : AreWords (h.0 ∷ r) = subst AreWords h.1 w in (tt, v.1)
  tree (text p n) k ts r w h = let v : AreWords (h.0 ∷ r) = subst AreWords h.1 w in (tt, v.1)
  tree (designator ps) k ts r w h = named ps ts r w h
  tree (group p e) k ts r w h =
      let v : AreWords (h.0 ∷ h.1) = subst AreWords h.3 w in
      let a = tree e whole h.1 (h.2 ∷ r) v.1 h.6 in
      (a.0, (a.1).1)
  tree (array p es) k ts r w h =
      let v : AreWords (h.0 ∷ h.1) = subst AreWords h.3 w in
      let a = elements es h.1 (h.2 ∷ r) v.1 h.6 in
      (a.0, (a.1).1)
  tree (signed p s e) k ts r w h = let v : AreWords (h.0 ∷ h.1) = subst AreWords h.3 w in tree e term h.1 r v.1 h.6
  tree (negation p e) k ts r w h = let v : AreWords (h.0 ∷ h.1) = subst AreWords h.3 w in tree e compared h.1 r v.1 h.6
  tree (comparison e x f) k ts r w h =
      let a = tree e sum ts (h.0 ∷ h.1) w h.3 in
      let b = tree f sum h.1 r (a.1).1 h.5 in
      ((a.0, b.0), b.1)
  tree (chain e os) k ts r w h =
      let a = tree e h.0 ts h.1 w h.3 in
      let b = rest os h.0 h.1 r a.1 h.4 in
      ((a.0, b.0), b.1)

  rest : (os : Rest) (l : ℕ) (ts r : List Item) → AreWords ts → EatsRest l os ts r → IsRestBounded os × AreWords r
  rest no_more l ts r w h = (tt, subst AreWords h w)
  rest (more o e os) l ts r w h =
      let v : AreWords (h.0 ∷ h.1) = subst AreWords h.3 w in
      let a = tree e (unsigned l) h.1 h.2 v.1 h.6 in
      let b = rest os l h.2 r a.1 h.7 in
      ((a.0, b.0), b.1)

  elements : (es : Trees) (ts r : List Item) → AreWords ts → EatsElements es ts r → AreBounded es × AreWords r
  elements no_trees ts r w h = absurd h
  elements (trees e es) ts r w h =
      let a = tree e whole ts h.0 w h.1 in
      let b = further es h.0 r a.1 h.2 in
      ((a.0, b.0), b.1)

  further : (es : Trees) (ts r : List Item) → AreWords ts → EatsFurther es ts r → AreBounded es × AreWords r
  further no_trees ts r w h = (tt, subst AreWords h w)
  further (trees e es) ts r w h =
      let v : AreWords (h.0 ∷ h.1) = subst AreWords h.3 w in
      let a = tree e whole h.1 h.2 v.1 h.5 in
      let b = further es h.2 r a.1 h.6 in
      ((a.0, b.0), b.1)

  named : (ps : Parts) (ts r : List Item) → AreWords ts → EatsParts ps ts r → ArePartsBounded ps × AreWords r
  named no_parts ts r w h = absurd h
  named (parts n b ps) ts r w h =
      let v : AreWords (h.0 ∷ h.1) = subst AreWords h.3 w in
      let a = behind b h.1 h.2 v.1 h.6 in
      let c = components ps h.2 r a.1 h.7 in
      ((a.0, c.0), c.1)

  components : (ps : Parts) (ts r : List Item) → AreWords ts → EatsComponents ps ts r → ArePartsBounded ps × AreWords r
  components no_parts ts r w h = (tt, subst AreWords h.0 w)
  components (parts n b ps) ts r w h =
      let v : AreWords (h.0 ∷ h.1 ∷ h.2) = subst AreWords h.4 w in
      let a = behind b h.2 h.3 v.1.1 h.8 in
      let c = components ps h.3 r a.1 h.9 in
      ((a.0, c.0), c.1)

  behind : (b : Behind) (ts r : List Item) → AreWords ts → EatsBehind b ts r → IsBehindBounded b × AreWords r
  behind bare ts r w h = (tt, subst AreWords h.0 w)
  behind (within list) ts r w h = enclosed list ts r w h

  enclosed : (list : Arguments) (ts r : List Item) → AreWords ts → EatsWithin list ts r → AreArgumentsBounded list × AreWords r
  enclosed no_arguments ts r w h = let v : AreWords (h.0 ∷ h.1 ∷ r) = subst AreWords h.2 w in (tt, v.1.1)
  enclosed (arguments a list) ts r w h =
      let v : AreWords (h.0 ∷ h.1) = subst AreWords h.4 w in
      let b = argument a h.1 h.2 v.1 h.6 in
      let c = others list h.2 (h.3 ∷ r) b.1 h.7 in
      ((b.0, c.0), (c.1).1)

  others : (list : Arguments) (ts r : List Item) → AreWords ts → EatsOthers list ts r → AreArgumentsBounded list × AreWords r
  others no_arguments ts r w h = (tt, subst AreWords h w)
  others (arguments a list) ts r w h =
      let v : AreWords (h.0 ∷ h.1) = subst AreWords h.3 w in
      let b = argument a h.1 h.2 v.1 h.5 in
      let c = others list h.2 r b.1 h.6 in
      ((b.0, c.0), c.1)

  argument : (a : ArgumentTree) (ts r : List Item) → AreWords ts → EatsArgument a ts r → IsArgumentBounded a × AreWords r
  argument (value n e) ts r w h = tree e whole h.0 r (keyword n ts h.0 w h.1) h.2
  argument (triplet p first last stride) ts r w h =
      let a = bound first ts (h.2 ∷ h.3) w h.7 in
      let b = bound last h.3 h.4 (a.1).1 h.9 in
      let c = step stride h.4 r b.1 h.10 in
      ((a.0, b.0, c.0), c.1)

  bound : (b : Perhaps) (ts r : List Item) → AreWords ts → EatsPerhaps b ts r → IsPerhapsBounded b × AreWords r
  bound absent ts r w h = (tt, subst AreWords h w)
  bound (present e) ts r w h = tree e whole ts r w h

  step : (b : Perhaps) (ts r : List Item) → AreWords ts → EatsStride b ts r → IsPerhapsBounded b × AreWords r
  step absent ts r w h = (tt, subst AreWords h w)
  step (present e) ts r w h = let v : AreWords (h.0 ∷ h.1) = subst AreWords h.2 w in tree e whole h.1 r v.1 h.4

pub expression : (t : Tree) (ts r : List Item) → AreWords ts → EatsExpression t ts r → IsBounded t × AreWords r
unfolding EatsExpression
expression t ts r w h = tree t whole ts r w h.0

pub variable : (ps : Parts) (ts r : List Item) → AreWords ts → EatsDesignator ps ts r → ArePartsBounded ps × AreWords r
unfolding EatsDesignator
variable ps ts r w h = named ps ts r w h

pub given : (list : List ArgumentTree) (ts r : List Item) → AreWords ts → EatsArguments list ts r → AreArgumentsBounded (arguments_of list) × AreWords r
unfolding EatsArguments
given list ts r w h = enclosed (arguments_of list) ts r w h
