-- What the readers of parts of expressions find.
use Rattle.std.specs.Prelude.{◌≡◌, ◌==◌, ℕ, Bool, true, false, List, ◌∷◌, Option, Some, None}
use Rattle.std.specs.Borrow.{Bor}
use Rattle.f3_places.specs.declared.source.Place.{Place}
use Rattle.f3_tree.specs.declared.expression.Operator.{Operator}
use Rattle.f3_tree.specs.declared.expression.Relation.{Relation}
use Rattle.f3_tree.specs.declared.expression.Sign.{Sign}
use Rattle.f3_tree.specs.declared.expression.Name.{Name}
use Rattle.f3_tree.specs.Expressions.{Tree, Behind, Perhaps, absent, present, ArgumentTree, value, triplet, arguments_of}
use Rattle.f3_words.specs.declared.item.Word.{Word}
use Rattle.f3_words.specs.declared.item.Word.TheVariants as word
use Rattle.f3_words.specs.declared.item.Item.{Item}
use Rattle.f3_words.specs.Words.{is_name, name_of}
use Rattle.f3_words.specs.Lists.{starts}
use Rattle.f3_expressions.specs.Levels.{signed_term, whole, level_of, unsigned, operator_of, Ends}
use Rattle.f3_expressions.specs.Grammar.{Eats, EatsWithin, EatsKeyword, EatsPerhaps, EatsBehind, closer_of}

-- an expression of level k, up to where nothing of that level goes on
abbrev pub EatsUpTo : ℕ → Tree → List Item → List Item → Type 0
EatsUpTo k e ts r = Eats k e ts r × Ends k r

-- an expression of any level, up to where nothing goes on with it
abbrev pub EatsWhole : Tree → List Item → List Item → Type 0
EatsWhole e ts r = Eats whole e ts r × Ends whole r

-- arguments and their parentheses
abbrev pub EatsList : List ArgumentTree → List Item → List Item → Type 0
EatsList list ts r = EatsWithin (arguments_of list) ts r

abbrev pub is_operator : ℕ → Word → Bool
is_operator l (word.Operator o) = level_of o == l
is_operator l _ = false

abbrev pub is_relation : Word → Bool
is_relation (word.Relation x) = true
is_relation _ = false

abbrev pub is_not : Word → Bool
is_not word.Not = true
is_not _ = false

abbrev pub is_colon : Word → Bool
is_colon word.Colon = true
is_colon _ = false

abbrev pub is_opener : Word → Bool
is_opener word.OpenBracket = true
is_opener word.OpenSlash = true
is_opener _ = false

abbrev pub is_sign : Word → Bool
is_sign (word.Operator o) = level_of o == signed_term
is_sign _ = false

-- a comma, or the parenthesis that closes
abbrev pub ends_argument : Word → Bool
ends_argument word.Comma = true
ends_argument word.Close = true
ends_argument _ = false

abbrev pub ends_bound : Word → Bool
ends_bound word.Colon = true
ends_bound w = ends_argument w

-- an operator of level l and its operand
abbrev pub IsOperand : ℕ → Operator × Tree → Item → List Item → List Item → Type 0
IsOperand l x i tail r = (i.word ≡ word.Operator x.0) × EatsUpTo (unsigned l) x.1 tail r

-- an operator of level l at the front, and what stands behind it
abbrev pub HasOperator : ℕ → Option (Operator × Bor (List Item)) → List Item → Type 0
HasOperator l (Some x) ts = (i : Item) × (ts ≡ i ∷ x.1.now) × (i.word ≡ word.Operator x.0) × (level_of x.0 ≡ l)
HasOperator l None ts = starts (is_operator l) ts ≡ false

abbrev pub HasRelation : Option (Relation × Bor (List Item)) → List Item → Type 0
HasRelation (Some x) ts = (i : Item) × (ts ≡ i ∷ x.1.now) × (i.word ≡ word.Relation x.0)
HasRelation None ts = starts is_relation ts ≡ false

abbrev pub HasSign : Option (Item × Sign × Bor (List Item)) → List Item → Type 0
HasSign (Some x) ts = (ts ≡ x.0 ∷ x.2.now) × ((x.0).word ≡ word.Operator (operator_of x.1))
HasSign None ts = starts is_sign ts ≡ false

-- a name and its `=` at the front
abbrev pub HasKeyword : Option (Name × Bor (List Item)) → List Item → Type 0
HasKeyword (Some x) ts = (i : Item) × (equals : Item) × (ts ≡ i ∷ equals ∷ x.1.now) × (is_name i.word ≡ true) × (x.0 ≡ name_of i) × (equals.word ≡ word.Equals)
HasKeyword None ts = (i : Item) (equals : Item) (tail : List Item) → ts ≡ i ∷ equals ∷ tail → is_name i.word ≡ true → equals.word ≡ word.Equals → ⊥

abbrev pub HasNot : Option (Item × Bor (List Item)) → List Item → Type 0
HasNot (Some x) ts = (ts ≡ x.0 ∷ x.1.now) × ((x.0).word ≡ word.Not)
HasNot None ts = starts is_not ts ≡ false

-- the sign that closes what this one opens
abbrev pub HasCloser : Word → Option (Bor (List Item)) → List Item → Type 0
HasCloser w (Some tail) ts = (i : Item) × (ts ≡ i ∷ tail.now) × (closer_of w ≡ Some i.word)
HasCloser w None ts = (i : Item) (tail : List Item) → ts ≡ i ∷ tail → closer_of w ≡ Some i.word → ⊥

-- a part of a designator
abbrev pub IsPart : Name × Behind → List Item → List Item → Type 0
IsPart p ts r = (i : Item) × (tail : List Item) × (ts ≡ i ∷ tail) × (is_name i.word ≡ true) × (p.0 ≡ name_of i) × EatsBehind p.1 tail r

-- a bound, or none where a sign that ends one is the first
abbrev pub IsBound : Perhaps → List Item → List Item → Type 0
IsBound absent ts r = (ts ≡ r) × (starts ends_bound ts ≡ true)
IsBound (present e) ts r = EatsWhole e ts r

abbrev pub IsStride : Perhaps → List Item → List Item → Type 0
IsStride absent ts r = (ts ≡ r) × (starts is_colon ts ≡ false)
IsStride (present e) ts r = (i : Item) × (tail : List Item) × (ts ≡ i ∷ tail) × (i.word ≡ word.Colon) × EatsWhole e tail r

-- a triplet behind its first colon
abbrev pub IsTriplet : Place → Perhaps → ArgumentTree → List Item → List Item → Type 0
IsTriplet p first (value keyword e) ts r = ⊥
IsTriplet p first (triplet q a b c) ts r = (mid : List Item) × (q ≡ p) × (a ≡ first) × IsBound b ts mid × IsStride c mid r

-- an argument without a keyword
abbrev pub IsPositional : ArgumentTree → List Item → List Item → Type 0
IsPositional (value None e) ts r = EatsWhole e ts r × (starts is_colon r ≡ false)
IsPositional (value (Some n) e) ts r = ⊥
IsPositional (triplet p first last stride) ts r =
    (i : Item) × (others : List Item) × (colon : Item) × (behind : List Item) × (ts ≡ i ∷ others)
    × EatsPerhaps first ts (colon ∷ behind) × (colon.word ≡ word.Colon)
    × IsTriplet i.place first (triplet p first last stride) behind r

-- an argument, with its keyword where a name and `=` are the first
abbrev pub IsArgument : ArgumentTree → List Item → List Item → Type 0
IsArgument (value None e) ts r = HasKeyword None ts × IsPositional (value None e) ts r
IsArgument (value (Some n) e) ts r = (mid : List Item) × EatsKeyword (Some n) ts mid × EatsWhole e mid r
IsArgument (triplet p first last stride) ts r = HasKeyword None ts × IsPositional (triplet p first last stride) ts r
