-- Operators, separators and logical literals.
use Rattle.std.specs.Prelude.{ℕ, true, false, List, [], ◌∷◌, ◌++◌, codes}
use Rattle.f3_lex.specs.Tokens.{lower}
use Rattle.f3_tree.specs.declared.expression.Operator.TheVariants as operator
use Rattle.f3_tree.specs.declared.expression.Relation.TheVariants as relation
use Rattle.f3_words.specs.declared.item.Word.{Word}
use Rattle.f3_words.specs.declared.item.Word.TheVariants.{Truth, Operator, Relation, Not, Equals, Arrow, Comma, Colon, Colons, Percent}
use Rattle.f3_words.specs.declared.item.Word.TheVariants.{Open, Close, OpenSlash, CloseSlash, OpenBracket, CloseBracket, Other}
use Rattle.f3_words.specs.Tables.{found}

-- signs of one character
abbrev pub singles : List (List ℕ × Word)
singles = (codes "*", Operator operator.Multiply) ∷ (codes "/", Operator operator.Divide)
    ∷ (codes "+", Operator operator.Add) ∷ (codes "-", Operator operator.Subtract)
    ∷ (codes "<", Relation relation.Less) ∷ (codes ">", Relation relation.Greater)
    ∷ (codes "=", Equals) ∷ (codes ",", Comma) ∷ (codes ":", Colon) ∷ (codes "%", Percent)
    ∷ (codes "(", Open) ∷ (codes ")", Close) ∷ (codes "[", OpenBracket) ∷ (codes "]", CloseBracket) ∷ []

-- signs of two characters
abbrev pub doubles : List (List ℕ × Word)
doubles = (codes "**", Operator operator.Power)
    ∷ (codes "==", Relation relation.Equal) ∷ (codes "/=", Relation relation.NotEqual)
    ∷ (codes "<=", Relation relation.LessOrEqual) ∷ (codes ">=", Relation relation.GreaterOrEqual)
    ∷ (codes "=>", Arrow) ∷ (codes "::", Colons) ∷ (codes "(/", OpenSlash) ∷ (codes "/)", CloseSlash) ∷ []

-- what a sign is (3.2.6, 7.1.3)
unfoldable pub sign_of : List ℕ → Word
sign_of text = found (singles ++ doubles) Other text

-- operators between dots; letters compare without case (7.1.3)
abbrev pub dotted : List (List ℕ × Word)
dotted = (codes ".not.", Not) ∷ (codes ".and.", Operator operator.And) ∷ (codes ".or.", Operator operator.Or)
    ∷ (codes ".eqv.", Operator operator.Equivalent) ∷ (codes ".neqv.", Operator operator.NotEquivalent)
    ∷ (codes ".eq.", Relation relation.Equal) ∷ (codes ".ne.", Relation relation.NotEqual)
    ∷ (codes ".lt.", Relation relation.Less) ∷ (codes ".le.", Relation relation.LessOrEqual)
    ∷ (codes ".gt.", Relation relation.Greater) ∷ (codes ".ge.", Relation relation.GreaterOrEqual) ∷ []

unfoldable pub dot_word_of : List ℕ → Word
dot_word_of text = found dotted Other (lower text)

-- logical literals (4.4.5)
abbrev pub truths : List (List ℕ × Word)
truths = (codes ".true.", Truth true) ∷ (codes ".false.", Truth false) ∷ []

unfoldable pub truth_of : List ℕ → Word
truth_of text = found truths Other (lower text)
