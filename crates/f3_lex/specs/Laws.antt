-- What the tokens of a statement are, without a word on how they are found: what spells a token of each kind, that each
-- token is the longest one at its place, and that blanks alone lie between them.
use Rattle.std.specs.Prelude.{◌≡◌, ℕ, ◌-◌, ◌<◌, ◌≤◌, ◌==◌, true, false, ◌⊎◌, List, [], ◌∷◌, ◌++◌, length, take, drop, if◌then◌else◌, slice_index, Contains}
use Rattle.std.specs.List.{AllByRecursion}
use Rattle.std.specs.Str.{IsAscii}
use Rattle.std.specs.Char.{is_ascii_alphabetic, is_ascii_digit}
use Rattle.f3_lex.specs.declared.token.Token.{Token}
use Rattle.f3_lex.specs.declared.token.TokenKind.{TokenKind}
use Rattle.f3_lex.specs.declared.token.TokenKind.TheVariants.{Name, Integer, Truth, Word, Text, Sign, Other}
use Rattle.f3_lex.specs.Tokens.{lower, is_name_byte, is_blank, is_quote, suffixes, truths, dot_words, signs, text_of, depth_after, tokens_of}

-- characters as they stand between these quotes: a quote among them is doubled (4.4.4)
abbrev pub doubled : ℕ → List ℕ → List ℕ
doubled quote [] = []
doubled quote (b ∷ characters) = if b == quote then quote ∷ quote ∷ doubled quote characters else b ∷ doubled quote characters

abbrev pub IsOneOf : List (List ℕ) → List ℕ → Type 0
IsOneOf [] text = ⊥
IsOneOf (word ∷ words) text = (text ≡ word) ⊎ IsOneOf words text

-- no suffix of an integer, or one that no letter, digit or underscore follows
abbrev pub IsSuffix : List ℕ → List ℕ → Type 0
IsSuffix text next = (text ≡ []) ⊎ (IsOneOf suffixes text × (is_name_byte (slice_index next 0) ≡ false))

-- this text spells a token of the kind, where so many parentheses and brackets are open and these bytes come next
abbrev pub IsSpelled : ℕ → TokenKind → List ℕ → List ℕ → Type 0
IsSpelled depth Name text next = (is_ascii_alphabetic (slice_index text 0) ≡ true) × AllByRecursion (λ b. is_name_byte b ≡ true) text
IsSpelled depth Integer text next =
    (digits : List ℕ) × (suffix : List ℕ) × (text ≡ digits ++ suffix)
    × AllByRecursion (λ b. is_ascii_digit b ≡ true) digits × (0 < length digits) × IsSuffix suffix next
IsSpelled depth Truth text next = IsOneOf truths (lower text)
IsSpelled depth Word text next = IsOneOf dot_words (lower text)
IsSpelled depth Text text next = (quote : ℕ) × (characters : List ℕ) × (is_quote quote ≡ true) × (text ≡ quote ∷ (doubled quote characters ++ quote ∷ []))
IsSpelled depth Sign text next = IsOneOf (signs depth) text
IsSpelled depth Other text next = ⊥

-- the first n of these bytes spell a token of the kind, and no more of them spell any
abbrev pub IsLongest : ℕ → List ℕ → TokenKind → ℕ → Type 0
IsLongest depth bytes kind n =
    IsSpelled depth kind (take n bytes) (drop n bytes)
    × ((other : TokenKind) (m : ℕ) → IsSpelled depth other (take m bytes) (drop m bytes) → length (take m bytes) ≤ n)

-- no token stands at the front of these bytes
abbrev pub NoneStands : ℕ → List ℕ → Type 0
NoneStands depth bytes = (kind : TokenKind) (m : ℕ) → IsSpelled depth kind (take m bytes) (drop m bytes) → ⊥

-- the token at the front is the longest one, or one byte where none stands
abbrev pub IsFront : ℕ → List ℕ → TokenKind → ℕ → Type 0
IsFront depth bytes kind n = IsLongest depth bytes kind n ⊎ ((kind ≡ Other) × (n ≡ 1) × NoneStands depth bytes)

abbrev pub BlanksBetween : List ℕ → ℕ → ℕ → Type 0
BlanksBetween bytes from to = (k : ℕ) → from ≤ k → k < to → is_blank (slice_index bytes k) ≡ true

-- the tokens of a statement from a place on
abbrev pub AreTokens : List ℕ → ℕ → ℕ → List Token → Type 0
AreTokens bytes from depth [] = BlanksBetween bytes from (length bytes)
AreTokens bytes from depth (token ∷ tokens) =
    (from ≤ token.start) × BlanksBetween bytes from token.start
    × (token.start < token.end) × (token.end ≤ length bytes) × (is_blank (slice_index bytes token.start) ≡ false)
    × IsFront depth (drop token.start bytes) token.kind (token.end - token.start)
    × AreTokens bytes token.end (depth_after depth (text_of token bytes)) tokens

-- The tokens of a statement stand in order, none is empty, they do not overlap, they lie within the statement,
-- between them are blanks, and each is the longest at its place.
abbrev pub TokensAreLongest : Type 0
TokensAreLongest = (bytes : List ℕ) → AreTokens bytes 0 0 (tokens_of bytes)

-- a name is ASCII
abbrev pub NamesAreAscii : Type 0
NamesAreAscii = (bytes : List ℕ) (token : Token) → Contains (tokens_of bytes) token → token.kind ≡ Name → IsAscii (text_of token bytes)
