-- What the numbering of names and character constants gives.
use Rattle.std.specs.Prelude.{◌≡◌, ℕ, List, Contains}
use Rattle.std.specs.Str.{IsAscii}
use Rattle.f3_text.specs.Statements.{Spelled}
use Rattle.f3_lex.specs.declared.token.Token.{Token}
use Rattle.f3_lex.specs.declared.token.TokenKind.TheVariants as kind
use Rattle.f3_lex.specs.Tokens.{text_of}
use Rattle.f3_words.specs.declared.item.Item.{Item}
use Rattle.f3_words.specs.declared.item.Keyword.{Keyword}
use Rattle.f3_words.specs.Keywords.{keyword_of}
use Rattle.f3_words.specs.Lines.{Seen, number, item_of, seen_behind, items_of, seen_after}

-- the number of a name, and its keyword
abbrev pub IsNumbered : List (List ℕ) → List ℕ → ℕ × Keyword → Type 0
IsNumbered names name x = (x.0 ≡ number names name) × (x.1 ≡ keyword_of name)

-- one token, where this is seen before it and behind it; the letters of a name are ASCII
abbrev pub IsItem : Seen → Seen → Spelled → Token → Item → Type 0
IsItem before behind s t i = (t.kind ≡ kind.Name → IsAscii (text_of t s.bytes)) → (i ≡ item_of before s t) × (behind ≡ seen_behind before s t)

abbrev pub NamesAreAscii : Spelled → List Token → Type 0
NamesAreAscii s ts = (t : Token) → Contains ts t → t.kind ≡ kind.Name → IsAscii (text_of t s.bytes)

-- tokens
abbrev pub AreItems : Seen → Seen → Spelled → List Token → List Item → Type 0
AreItems before behind s ts is = NamesAreAscii s ts → (is ≡ items_of before s ts) × (behind ≡ seen_after before s ts)
