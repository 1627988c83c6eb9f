-- The tokens of a statement (3.2; own rules: the longest token first, and `::` only outside parentheses and brackets).
use Rattle.std.specs.Prelude.{ℕ, zero, suc, ◌++◌, ◌+◌, ◌-◌, ◌==◌, Bool, true, false, ◌&&◌, ◌||◌, Option, None, Some, List, [], ◌∷◌, length}
use Rattle.std.specs.Prelude.{take, drop, map, codes, if◌then◌else◌, slice_index, slice_range, unwrap_or}
use Rattle.std.specs.List.{prefix_len}
use Rattle.std.specs.Char.{to_ascii_lowercase, is_ascii_alphabetic, is_ascii_alphanumeric, is_ascii_digit}
use Rattle.std.specs.Option.{option_map}
use Rattle.f3_lex.specs.declared.token.Token.{Token}
use Rattle.f3_lex.specs.declared.token.TokenKind.{TokenKind}
use Rattle.f3_lex.specs.declared.token.TokenKind.TheVariants.{Name, Integer, Truth, Word, Text, Sign, Other}

-- letters compare without case (3.1)
abbrev pub lower : List ℕ → List ℕ
lower bytes = map to_ascii_lowercase bytes

-- a letter, a digit or an underscore (3.1.1 to 3.1.3)
abbrev pub is_name_byte : ℕ → Bool
is_name_byte b = is_ascii_alphanumeric b || (b == 95)

-- a blank or a tab
abbrev pub is_blank : ℕ → Bool
is_blank b = (b == 32) || (b == 9)

-- the bytes of a token
abbrev pub text_of : Token → List ℕ → List ℕ
text_of token bytes = slice_range bytes token.start token.end

-- Of each kind the length of its longest token at the front of these bytes, and 0 where none begins there.

-- a letter, and then letters, digits and underscores (3.2.1)
unfoldable pub name_length : List ℕ → ℕ
name_length bytes = if is_ascii_alphabetic (slice_index bytes 0) then prefix_len is_name_byte bytes else 0

-- the word stands at the front
abbrev pub begins : List ℕ → List ℕ → Bool
begins [] bytes = true
begins (w ∷ word) [] = false
begins (w ∷ word) (b ∷ bytes) = (b == w) && begins word bytes

-- the first of these words that stands at the front; no word here begins with an earlier one
unfoldable pub listed_length : List (List ℕ) → List ℕ → ℕ
listed_length [] bytes = 0
listed_length (word ∷ words) bytes = if begins word bytes then length word else listed_length words bytes

-- the suffixes of integers, which name their kinds (4.4.1)
abbrev pub suffixes : List (List ℕ)
suffixes = codes "_4" ∷ codes "_8" ∷ []

-- a suffix, behind which no letter, digit or underscore comes next
unfoldable pub suffix_length : List ℕ → ℕ
suffix_length bytes = if is_name_byte (slice_index bytes 2) then 0 else listed_length suffixes bytes

-- digits (4.4.1)
abbrev pub digits_length : List ℕ → ℕ
digits_length bytes = prefix_len is_ascii_digit bytes

-- digits, and directly behind them a suffix where one stands there
unfoldable pub integer_length : List ℕ → ℕ
integer_length bytes = if is_ascii_digit (slice_index bytes 0) then digits_length bytes + suffix_length (drop (digits_length bytes) bytes) else 0

-- the logical literals (4.4.4)
abbrev pub truths : List (List ℕ)
truths = codes ".true." ∷ codes ".false." ∷ []

-- the operators between dots (7.1.3)
abbrev pub dot_words : List (List ℕ)
dot_words = codes ".not." ∷ codes ".and." ∷ codes ".or." ∷ codes ".eqv." ∷ codes ".neqv."
    ∷ codes ".eq." ∷ codes ".ne." ∷ codes ".lt." ∷ codes ".le." ∷ codes ".gt." ∷ codes ".ge." ∷ []

-- the operators and separators that are signs, longest first
abbrev pub doubles : List (List ℕ)
doubles = codes "**" ∷ codes "==" ∷ codes "/=" ∷ codes "<=" ∷ codes ">=" ∷ codes "=>" ∷ codes "(/" ∷ codes "/)" ∷ []

abbrev pub singles : List (List ℕ)
singles = map (λ b. b ∷ []) (codes "=+-*/(),:<>[]%")

-- those that may stand where so many parentheses and brackets are open: inside one `::` is two signs
abbrev pub signs : ℕ → List (List ℕ)
signs zero = codes "::" ∷ (doubles ++ singles)
signs (suc depth) = doubles ++ singles

abbrev pub is_quote : ℕ → Bool
is_quote b = (b == 39) || (b == 34)

-- Inside a character constant, how many bytes there are up to the quote that ends it, and with it; None where none
-- does. A quote that another follows at once means one character, where the constant then has an end (4.4.4).
unfoldable mutual
  pub to_closing : ℕ → List ℕ → Option ℕ
  to_closing quote [] = None
  to_closing quote (b ∷ bytes) = if b == quote then Some (behind_quote quote bytes) else option_map (λ n. 1 + n) (to_closing quote bytes)

  pub behind_quote : ℕ → List ℕ → ℕ
  behind_quote quote [] = 1
  behind_quote quote (b ∷ bytes) = if b == quote then unwrap_or (option_map (λ n. 2 + n) (to_closing quote bytes)) 1 else 1

-- a character constant (4.4.4)
unfoldable pub constant_length : List ℕ → ℕ
constant_length [] = 0
constant_length (quote ∷ bytes) = if is_quote quote then unwrap_or (option_map (λ n. 1 + n) (to_closing quote bytes)) 0 else 0

-- the first kind with a length; where no token begins, one byte is no token of the language
abbrev pub first_found : List (TokenKind × ℕ) → TokenKind × ℕ
first_found [] = (Other, 1)
first_found ((kind, zero) ∷ others) = first_found others
first_found ((kind, suc n) ∷ others) = (kind, suc n)

-- the token at the front of these bytes, where so many parentheses and brackets are open: its kind and its length
unfoldable pub front : ℕ → List ℕ → TokenKind × ℕ
front depth bytes = first_found (
    (Name, name_length bytes)
    ∷ (Integer, integer_length bytes)
    ∷ (Truth, listed_length truths (lower bytes))
    ∷ (Word, listed_length dot_words (lower bytes))
    ∷ (Text, constant_length bytes)
    ∷ (Sign, listed_length (signs depth) bytes)
    ∷ [])

abbrev pub opens : ℕ → Bool
opens b = (b == 40) || (b == 91)

abbrev pub closes : ℕ → Bool
closes b = (b == 41) || (b == 93)

-- how many parentheses and brackets are open behind a token of these bytes: `(`, `(/` and `[` open one,
-- `)`, `/)` and `]` close the last open one
abbrev pub depth_after : ℕ → List ℕ → ℕ
depth_after depth text =
    if opens (slice_index text 0) then depth + 1
    else (if closes (slice_index text (length text - 1)) then depth - 1
    else depth)

-- The tokens that begin in these bytes, the first of which lies at the place i of its statement: the first n bytes
-- belong to the token before, and so many parentheses and brackets are open.
unfoldable pub tokens_at : ℕ → ℕ → ℕ → List ℕ → List Token
tokens_at n i depth [] = []
tokens_at (suc n) i depth (b ∷ bytes) = tokens_at n (i + 1) depth bytes
tokens_at zero i depth (b ∷ bytes) =
    if is_blank b then tokens_at 0 (i + 1) depth bytes
    else (let found = front depth (b ∷ bytes) in
    record { kind = found.0; start = i; end = i + found.1 }
    ∷ tokens_at (found.1 - 1) (i + 1) (depth_after depth (take found.1 (b ∷ bytes))) bytes)

-- the tokens of a statement: the longest one at the front, again and again, with blanks between them
unfoldable pub tokens_of : List ℕ → List Token
tokens_of bytes = tokens_at 0 0 0 bytes
