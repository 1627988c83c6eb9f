-- Integers and character constants.
use Rattle.std.specs.Prelude.{◌≡◌, ℕ, ◌-◌, ◌==◌, true, ◌&&◌, List, [], ◌∷◌, ◌++◌, length, codes, if◌then◌else◌, nat_le, slice_index, slice_range}
use Rattle.std.specs.List.{list_all}
use Rattle.std.specs.Char.{is_ascii_digit}
use Rattle.f3_tree.specs.declared.expression.IntegerKind.TheVariants as kind
use Rattle.f3_lex.specs.Tokens.{is_quote}
use Rattle.f3_lex.specs.Laws.{doubled}
use Rattle.f3_words.specs.declared.item.Word.{Word}
use Rattle.f3_words.specs.declared.item.Word.TheVariants.{KindDigit, ShortInteger, LongInteger}
use Rattle.f3_words.specs.Tables.{found}

-- the digits that may name a kind (own rule: 4 and 8, each as that one digit)
abbrev pub kind_digits : List (List ℕ × Word)
kind_digits = (codes "4", KindDigit kind.Four) ∷ (codes "8", KindDigit kind.Eight) ∷ []

-- an integer of one to five digits, which may stand behind STOP (8.4), or of more, or with a suffix
abbrev pub length_word : List ℕ → Word
length_word text = if nat_le (length text) 5 && list_all is_ascii_digit text then ShortInteger else LongInteger

abbrev pub integer_word : List ℕ → Word
integer_word text = found kind_digits (length_word text) text

-- the characters between quotes: of two quotes side by side the second says nothing (4.4.4)
unfoldable mutual
  pub undoubled : ℕ → List ℕ → List ℕ
  undoubled quote [] = []
  undoubled quote (b ∷ bytes) = b ∷ (if b == quote then behind_first quote bytes else undoubled quote bytes)

  pub behind_first : ℕ → List ℕ → List ℕ
  behind_first quote [] = []
  behind_first quote (b ∷ bytes) = undoubled quote bytes

-- the characters of a character constant: those between its first and its last byte
abbrev pub characters_of : List ℕ → List ℕ
characters_of text = undoubled (slice_index text 0) (slice_range text 1 (length text - 1))

-- a constant as it is written (4.4.4) has the characters that were written
abbrev pub ConstantsHaveTheirCharacters : Type 0
ConstantsHaveTheirCharacters =
    (quote : ℕ) (characters : List ℕ) → is_quote quote ≡ true
    → characters_of (quote ∷ (doubled quote characters ++ quote ∷ [])) ≡ characters
