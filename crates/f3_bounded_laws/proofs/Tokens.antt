-- The integers among the tokens of sources have at most 64 bits.
use Rattle.std.proofs.Common.{◌≡◌, ℕ, suc, ◌<◌, Bool, true, false, List, [], ◌∷◌, Some, None, refl, sym, ◌∙◌, inl, inr, nat_lt, if◌then◌else◌, arith}
use Rattle.std.specs.Prelude.{unwrap_or}
use Rattle.std.specs.Option.{option_map}
use Rattle.std.proofs.lemmas.Bool.Decides.{leb_tells}
use Rattle.f3_places.specs.declared.source.Place.{Place}
use Rattle.f3_places.specs.declared.source.Source.{Source}
use Rattle.f3_text.specs.Statements.{Spelled}
use Rattle.f3_tree.specs.declared.expression.IntegerKind.{IntegerKind}
use Rattle.f3_tree.specs.declared.expression.IntegerKind.TheVariants as kind
use Rattle.f3_lex.specs.declared.token.Token.{Token}
use Rattle.f3_lex.specs.declared.token.TokenKind.{TokenKind}
use Rattle.f3_lex.specs.declared.token.TokenKind.TheVariants as token
use Rattle.f3_lex.specs.Tokens.{text_of, tokens_of}
use Rattle.f3_lex.specs.Faults.{integer_of, value_within, value_of_digits, digits_of, kind_of, largest, literal_of}
use Rattle.f3_words.specs.declared.item.Item.{Item}
use Rattle.f3_words.specs.Lines.{Line, Seen, no_value, item_as, items_of, seen_behind, seen_over, lines_of, nothing_seen, place_in}
use Rattle.f3_parse.specs.Spells.{lines_in, parts_of_sources}
use Rattle.f3_meaning_whole.specs.Permitted.{Each}
use Rattle.f3_lawful_laws.proofs.Facts.{no}
use Rattle.f3_fitting_laws.specs.Bounded.{IsWord}

abbrev pub IsItemWord : Item → Type 0
IsItemWord i = IsWord i.value

abbrev pub AreWords : List Item → Type 0
AreWords ts = Each IsItemWord ts

abbrev pub IsLineWords : Line → Type 0
IsLineWords l = AreWords l.items

-- ---- one integer

below : (most n : ℕ) → most < 9223372036854775808 → nat_lt most n ≡ false → nat_lt n 9223372036854775808 ≡ true
below most n lt is = elim (leb_tells (suc most) n) [
  | inl h ↦ no (sym h.0 ∙ is)
  | inr h ↦ elim (leb_tells (suc n) 9223372036854775808) [ inl k ↦ k.0 | inr k ↦ (let x = h.1 in let y = k.1 in let z = lt in absurd (omega (arith, x, y, z))) ]
]

word_by : (k : IntegerKind) (n : ℕ) → nat_lt (largest k) n ≡ false → IsWord (literal_of k n)
word_by kind.Four n h = below 2147483647 n (omega arith) h
word_by kind.Eight n h = below 9223372036854775807 n (omega arith) h

read_word : (k : IntegerKind) (digits : List ℕ) → IsWord (unwrap_or (option_map (literal_of k) (value_within (largest k) digits)) no_value)
unfolding value_within
read_word k digits = go (nat_lt (largest k) (value_of_digits digits)) refl
  where
    go : (b : Bool) → nat_lt (largest k) (value_of_digits digits) ≡ b
        → IsWord (unwrap_or (option_map (literal_of k) (if b then None else Some (value_of_digits digits))) no_value)
    go true h = refl
    go false h = word_by k (value_of_digits digits) h

integer_word : (text : List ℕ) → IsWord (unwrap_or (integer_of text) no_value)
unfolding integer_of
integer_word text = read_word (kind_of text) (digits_of text)

-- ---- the tokens of sources

one_word : (seen : Seen) (k : TokenKind) (text : List ℕ) (place : Place) → IsItemWord (item_as seen k text place)
one_word seen token.Name text place = refl
one_word seen token.Integer text place = integer_word text
one_word seen token.Truth text place = refl
one_word seen token.Word text place = refl
one_word seen token.Text text place = refl
one_word seen token.Sign text place = refl
one_word seen token.Other text place = refl

all_words : (seen : Seen) (s : Spelled) (ts : List Token) → AreWords (items_of seen s ts)
all_words seen s [] = tt
all_words seen s (t ∷ ts) = (one_word seen t.kind (text_of t s.bytes) (place_in s t.start), all_words (seen_behind seen s t) s ts)

all_lines : (seen : Seen) (ss : List Spelled) → Each IsLineWords (lines_of seen ss)
all_lines seen [] = tt
all_lines seen (s ∷ ss) = (all_words seen s (tokens_of s.bytes), all_lines (seen_over seen s) ss)

pub lines_are : (sources : List Source) → Each IsLineWords (lines_in sources)
lines_are sources = all_lines nothing_seen (parts_of_sources sources).statements
