-- Expressions, by cases on the tree: which tokens spell it, before which others (7.1).
use Rattle.std.specs.Prelude.{◌≡◌, ◌<◌, ◌≤◌, ℕ, Bool, true, false, List, ◌∷◌, Option, Some, None}
use Rattle.f3_tree.specs.declared.expression.Name.{Name}
use Rattle.f3_tree.specs.Expressions.{Tree, integer, truth, text, designator, group, array, signed, negation, comparison, chain, Rest}
use Rattle.f3_tree.specs.Expressions.{no_more, more, Trees, no_trees, trees, Parts, no_parts, parts, Behind, bare, within, Arguments}
use Rattle.f3_tree.specs.Expressions.{no_arguments, arguments, ArgumentTree, value, triplet, Perhaps, absent, present, arguments_of}
use Rattle.f3_words.specs.declared.item.Word.{Word}
use Rattle.f3_words.specs.declared.item.Word.TheVariants as word
use Rattle.f3_words.specs.declared.item.Item.{Item}
use Rattle.f3_words.specs.Words.{is_name, name_of}
use Rattle.f3_words.specs.Lists.{starts}
use Rattle.f3_expressions.specs.Levels.{term, sum, compared, negated, whole, signed_term, level_of, unsigned, operator_of, Ends}

abbrev pub is_integer : Word → Bool
is_integer (word.KindDigit k) = true
is_integer word.ShortInteger = true
is_integer word.LongInteger = true
is_integer _ = false

abbrev pub is_open : Word → Bool
is_open word.Open = true
is_open _ = false

abbrev pub is_percent : Word → Bool
is_percent word.Percent = true
is_percent _ = false

-- the sign that closes an array constructor (4.7)
abbrev pub closer_of : Word → Option Word
closer_of word.OpenBracket = Some word.CloseBracket
closer_of word.OpenSlash = Some word.CloseSlash
closer_of _ = None

-- some operand stands there
abbrev pub IsSome : Rest → Type 0
IsSome no_more = ⊥
IsSome (more o e os) = Unit {0}

-- what a keyword of an argument is before its `=` (R1220)
abbrev pub EatsKeyword : Option Name → List Item → List Item → Type 0
EatsKeyword None ts r = ts ≡ r
EatsKeyword (Some n) ts r = (i : Item) × (equals : Item) × (ts ≡ i ∷ equals ∷ r) × (is_name i.word ≡ true) × (n ≡ name_of i) × (equals.word ≡ word.Equals)

abbrev mutual
  -- Eats k tree ts r: an expression of level k before r; a place is that of the first token
  pub Eats : ℕ → Tree → List Item → List Item → Type 0
  Eats k (integer p n) ts r = (i : Item) × (ts ≡ i ∷ r) × (is_integer i.word ≡ true) × (p ≡ i.place) × (n ≡ i.value)
  Eats k (truth p b) ts r = (i : Item) × (ts ≡ i ∷ r) × (i.word ≡ word.Truth b) × (p ≡ i.place)
  Eats k (text p n) ts r = (i : Item) × (ts ≡ i ∷ r) × (i.word ≡ word.Text) × (p ≡ i.place) × (n ≡ i.symbol)
  Eats k (designator ps) ts r = EatsParts ps ts r
  Eats k (group p e) ts r =
      (first : Item) × (inner : List Item) × (last : Item) × (ts ≡ first ∷ inner) × (first.word ≡ word.Open)
      × (p ≡ first.place) × Eats whole e inner (last ∷ r) × (last.word ≡ word.Close)
  Eats k (array p es) ts r =
      (first : Item) × (inner : List Item) × (last : Item) × (ts ≡ first ∷ inner)
      × (closer_of first.word ≡ Some last.word) × (p ≡ first.place) × EatsElements es inner (last ∷ r)
  Eats k (signed p s e) ts r =
      (i : Item) × (tail : List Item) × (signed_term ≤ k) × (ts ≡ i ∷ tail) × (i.word ≡ word.Operator (operator_of s))
      × (p ≡ i.place) × Eats term e tail r
  Eats k (negation p e) ts r = (i : Item) × (tail : List Item) × (negated ≤ k) × (ts ≡ i ∷ tail) × (i.word ≡ word.Not) × (p ≡ i.place) × Eats compared e tail r
  Eats k (comparison e relation f) ts r =
      (i : Item) × (tail : List Item) × (compared ≤ k) × Eats sum e ts (i ∷ tail) × (i.word ≡ word.Relation relation)
      × Eats sum f tail r
  Eats k (chain e os) ts r = (l : ℕ) × (mid : List Item) × (l < k) × Eats l e ts mid × EatsRest l os mid r × IsSome os

  -- operators of level l, each with its operand
  pub EatsRest : ℕ → Rest → List Item → List Item → Type 0
  EatsRest l no_more ts r = ts ≡ r
  EatsRest l (more o e os) ts r =
      (i : Item) × (tail : List Item) × (mid : List Item) × (ts ≡ i ∷ tail) × (i.word ≡ word.Operator o)
      × (level_of o ≡ l) × Eats (unsigned l) e tail mid × EatsRest l os mid r

  -- the elements of an array constructor, at least one
  pub EatsElements : Trees → List Item → List Item → Type 0
  EatsElements no_trees ts r = ⊥
  EatsElements (trees e es) ts r = (mid : List Item) × Eats whole e ts mid × EatsFurther es mid r

  -- elements, each behind a comma
  pub EatsFurther : Trees → List Item → List Item → Type 0
  EatsFurther no_trees ts r = ts ≡ r
  EatsFurther (trees e es) ts r =
      (i : Item) × (tail : List Item) × (mid : List Item) × (ts ≡ i ∷ tail) × (i.word ≡ word.Comma)
      × Eats whole e tail mid × EatsFurther es mid r

  -- the parts of a designator, at least one, up to where no further one goes on (6.1.2)
  pub EatsParts : Parts → List Item → List Item → Type 0
  EatsParts no_parts ts r = ⊥
  EatsParts (parts n b ps) ts r =
      (i : Item) × (tail : List Item) × (mid : List Item) × (ts ≡ i ∷ tail) × (is_name i.word ≡ true) × (n ≡ name_of i)
      × EatsBehind b tail mid × EatsComponents ps mid r

  -- parts, each behind a `%`
  pub EatsComponents : Parts → List Item → List Item → Type 0
  EatsComponents no_parts ts r = (ts ≡ r) × (starts is_percent r ≡ false)
  EatsComponents (parts n b ps) ts r =
      (percent : Item) × (i : Item) × (tail : List Item) × (mid : List Item) × (ts ≡ percent ∷ i ∷ tail)
      × (percent.word ≡ word.Percent) × (is_name i.word ≡ true) × (n ≡ name_of i) × EatsBehind b tail mid
      × EatsComponents ps mid r

  -- what stands behind a name: its arguments, where there is a parenthesis
  pub EatsBehind : Behind → List Item → List Item → Type 0
  EatsBehind bare ts r = (ts ≡ r) × (starts is_open r ≡ false)
  EatsBehind (within list) ts r = EatsWithin list ts r

  -- arguments and their parentheses
  pub EatsWithin : Arguments → List Item → List Item → Type 0
  EatsWithin no_arguments ts r = (first : Item) × (last : Item) × (ts ≡ first ∷ last ∷ r) × (first.word ≡ word.Open) × (last.word ≡ word.Close)
  EatsWithin (arguments a others) ts r =
      (first : Item) × (inner : List Item) × (mid : List Item) × (last : Item) × (ts ≡ first ∷ inner)
      × (first.word ≡ word.Open) × EatsArgument a inner mid × EatsOthers others mid (last ∷ r)
      × (last.word ≡ word.Close)

  -- arguments, each behind a comma
  pub EatsOthers : Arguments → List Item → List Item → Type 0
  EatsOthers no_arguments ts r = ts ≡ r
  EatsOthers (arguments a others) ts r =
      (i : Item) × (tail : List Item) × (mid : List Item) × (ts ≡ i ∷ tail) × (i.word ≡ word.Comma)
      × EatsArgument a tail mid × EatsOthers others mid r

  -- an argument or a triplet (R1220, R620)
  pub EatsArgument : ArgumentTree → List Item → List Item → Type 0
  EatsArgument (value keyword e) ts r = (mid : List Item) × EatsKeyword keyword ts mid × Eats whole e mid r
  EatsArgument (triplet p first last stride) ts r =
      (front : Item) × (others : List Item) × (colon : Item) × (behind : List Item) × (mid : List Item)
      × (ts ≡ front ∷ others) × (p ≡ front.place) × EatsPerhaps first ts (colon ∷ behind) × (colon.word ≡ word.Colon)
      × EatsPerhaps last behind mid × EatsStride stride mid r

  -- a bound, where there is one
  pub EatsPerhaps : Perhaps → List Item → List Item → Type 0
  EatsPerhaps absent ts r = ts ≡ r
  EatsPerhaps (present e) ts r = Eats whole e ts r

  -- the second colon and the stride, where there are these
  pub EatsStride : Perhaps → List Item → List Item → Type 0
  EatsStride absent ts r = ts ≡ r
  EatsStride (present e) ts r = (i : Item) × (tail : List Item) × (ts ≡ i ∷ tail) × (i.word ≡ word.Colon) × Eats whole e tail r

-- an expression, up to where nothing goes on with it
unfoldable pub EatsExpression : Tree → List Item → List Item → Type 0
EatsExpression e ts r = Eats whole e ts r × Ends whole r

-- a designator, up to where nothing goes on with it
unfoldable pub EatsDesignator : Parts → List Item → List Item → Type 0
EatsDesignator ps ts r = EatsParts ps ts r

-- the arguments of a procedure, and their parentheses
unfoldable pub EatsArguments : List ArgumentTree → List Item → List Item → Type 0
EatsArguments list ts r = EatsWithin (arguments_of list) ts r
