-- What some texts are, computed.
use Rattle.std.specs.Prelude.{◌≡◌, codes, true, false}
use Rattle.f3_tree.specs.declared.expression.IntegerKind.TheVariants as kind
use Rattle.f3_tree.specs.declared.expression.Operator.TheVariants as operator
use Rattle.f3_tree.specs.declared.expression.Relation.TheVariants as relation
use Rattle.f3_words.specs.declared.item.Keyword.TheVariants as keyword
use Rattle.f3_words.specs.declared.item.Word.TheVariants as word
use Rattle.f3_words.specs.Keywords.{keyword_of}
use Rattle.f3_words.specs.Signs.{sign_of, dot_word_of, truth_of}
use Rattle.f3_words.specs.Constants.{integer_word, characters_of}

abbrev pub Examples : Type 0
Examples =
    (keyword_of (codes "endif") ≡ keyword.EndIf)
    × (keyword_of (codes "endsubroutine") ≡ keyword.EndSubroutine)
    × (keyword_of (codes "selectcase") ≡ keyword.SelectCase)
    × (keyword_of (codes "intent") ≡ keyword.Intent)
    × (keyword_of (codes "end_if") ≡ keyword.Plain)
    × (keyword_of (codes "elsewhere") ≡ keyword.Plain)
    × (sign_of (codes "==") ≡ word.Relation relation.Equal)
    × (sign_of (codes "=") ≡ word.Equals)
    × (sign_of (codes "**") ≡ word.Operator operator.Power)
    × (sign_of (codes "(/") ≡ word.OpenSlash)
    × (dot_word_of (codes ".NeqV.") ≡ word.Operator operator.NotEquivalent)
    × (dot_word_of (codes ".ge.") ≡ word.Relation relation.GreaterOrEqual)
    × (truth_of (codes ".TRUE.") ≡ word.Truth true)
    × (truth_of (codes ".false.") ≡ word.Truth false)
    × (integer_word (codes "99999") ≡ word.ShortInteger)
    × (integer_word (codes "000001") ≡ word.LongInteger)
    × (integer_word (codes "4") ≡ word.KindDigit kind.Four)
    × (integer_word (codes "8") ≡ word.KindDigit kind.Eight)
    × (integer_word (codes "04") ≡ word.ShortInteger)
    × (integer_word (codes "4_4") ≡ word.LongInteger)
    × (characters_of (codes "'it''s'") ≡ codes "it's")
    × (characters_of (codes "\"it''s\"") ≡ codes "it''s")
    × (characters_of (codes "''''") ≡ codes "'")
    × (characters_of (codes "''") ≡ codes "")
