-- The statements of sources as the grammar sees them: names and character constants are numbers.
use Rattle.std.specs.Prelude.{ℕ, pos, List, [], ◌∷◌, ◌++◌, length, Option, None, map, slice_index_or, if◌then◌else◌, unwrap_or, string_bytes}
use Rattle.std.specs.Str.{bytes_eq}
use Rattle.std.specs.List.{list_any, position_or_len}
use Rattle.std.specs.Option.{option_map}
use Rattle.f3_places.specs.declared.source.Place.{Place}
use Rattle.f3_rules.specs.declared.rule.Rule.{Rule}
use Rattle.f3_rules.specs.declared.breaks.Break.{Break}
use Rattle.f3_text.specs.Statements.{Spelled}
use Rattle.f3_tree.specs.declared.expression.IntegerLiteral.{IntegerLiteral}
use Rattle.f3_tree.specs.declared.expression.IntegerLiteral.TheVariants as literal
use Rattle.f3_lex.specs.declared.token.Token.{Token}
use Rattle.f3_lex.specs.declared.token.TokenKind.{TokenKind}
use Rattle.f3_lex.specs.declared.token.TokenKind.TheVariants as kind
use Rattle.f3_lex.specs.Tokens.{lower, text_of, tokens_of}
use Rattle.f3_lex.specs.Faults.{integer_of, first_broken}
use Rattle.f3_words.specs.declared.item.Word.{Word}
use Rattle.f3_words.specs.declared.item.Word.TheVariants.{Name, Text, Other}
use Rattle.f3_words.specs.declared.item.Item.{Item}
use Rattle.f3_words.specs.declared.line.Line.{Line as CodeLine}
use Rattle.f3_words.specs.declared.line.Tables.{Tables}
use Rattle.f3_words.specs.declared.names.Names.{Names}
use Rattle.f3_words.specs.Keywords.{keyword_of}
use Rattle.f3_words.specs.Signs.{sign_of, dot_word_of, truth_of}
use Rattle.f3_words.specs.Constants.{integer_word, characters_of}

-- a statement: its tokens, and the first break of S3 or S4 among them
pub record Line : Type 0 where
  pub items : List Item
  pub fault : Option Break

abbrev pub line_view : CodeLine → Line
line_view l = record { items = l.items.items; fault = l.fault }

-- what stands in the statements before: the names, each once, and the character constants, in the order written
pub record Seen : Type 0 where
  pub names : List (List ℕ)
  pub texts : List (List ℕ)

-- the names of a table, by their bytes
abbrev pub names_of : Names → List (List ℕ)
names_of n = map string_bytes n.set.keys

abbrev pub seen_of : Tables → Seen
seen_of t = record { names = names_of t.names; texts = map (λ x. x.items) t.texts.items }

abbrev pub nothing_seen : Seen
nothing_seen = record { names = []; texts = [] }

abbrev pub nowhere : Place
nowhere = record { file = 0; line = 0; column = 0 }

-- a break of the first phase, which names nothing
abbrev pub broken : Rule → Place → Break
broken rule place = record { phase = 1; place = place; rule = rule; name = None }

-- the number of a name: where it stands among the names, or behind them where it is new
abbrev pub number : List (List ℕ) → List ℕ → ℕ
number names text = position_or_len (bytes_eq text) names

-- the names, with one more where it is new
abbrev pub with_name : List (List ℕ) → List ℕ → List (List ℕ)
with_name names text = if list_any (bytes_eq text) names then names else names ++ text ∷ []

abbrev pub place_in : Spelled → ℕ → Place
place_in s k = slice_index_or s.places k nowhere

-- what stands for a value where there is none
abbrev pub no_value : IntegerLiteral
no_value = literal.Four (pos 0)

abbrev pub plain_item : Word → Place → Item
plain_item word place = record { word = word; symbol = 0; value = no_value; place = place }

-- a token, by its kind, its bytes and its place
abbrev pub item_as : Seen → TokenKind → List ℕ → Place → Item
item_as seen kind.Name text place = record { word = Name (keyword_of (lower text)); symbol = number seen.names (lower text); value = no_value; place = place }
item_as seen kind.Integer text place = record { word = integer_word text; symbol = 0; value = unwrap_or (integer_of text) no_value; place = place }
item_as seen kind.Truth text place = plain_item (truth_of text) place
item_as seen kind.Word text place = plain_item (dot_word_of text) place
item_as seen kind.Text text place = record { word = Text; symbol = length seen.texts; value = no_value; place = place }
item_as seen kind.Sign text place = plain_item (sign_of text) place
item_as seen kind.Other text place = plain_item Other place

abbrev pub item_of : Seen → Spelled → Token → Item
item_of seen s t = item_as seen t.kind (text_of t s.bytes) (place_in s t.start)

-- what is seen behind a token of this kind and these bytes
abbrev pub seen_as : Seen → TokenKind → List ℕ → Seen
seen_as seen kind.Name text = record { names = with_name seen.names (lower text); texts = seen.texts }
seen_as seen kind.Text text = record { names = seen.names; texts = seen.texts ++ characters_of text ∷ [] }
seen_as seen kind.Integer text = seen
seen_as seen kind.Truth text = seen
seen_as seen kind.Word text = seen
seen_as seen kind.Sign text = seen
seen_as seen kind.Other text = seen

abbrev pub seen_behind : Seen → Spelled → Token → Seen
seen_behind seen s t = seen_as seen t.kind (text_of t s.bytes)

-- tokens, where this is seen before them; and what is seen behind them
abbrev pub items_of : Seen → Spelled → List Token → List Item
items_of seen s [] = []
items_of seen s (t ∷ ts) = item_of seen s t ∷ items_of (seen_behind seen s t) s ts

abbrev pub seen_after : Seen → Spelled → List Token → Seen
seen_after seen s [] = seen
seen_after seen s (t ∷ ts) = seen_after (seen_behind seen s t) s ts

-- a statement
abbrev pub line_of : Seen → Spelled → Line
line_of seen s = record {
  items = items_of seen s (tokens_of s.bytes);
  fault = option_map (λ f. broken f.1 (place_in s f.0)) (first_broken s.bytes (tokens_of s.bytes));
}

abbrev pub seen_over : Seen → Spelled → Seen
seen_over seen s = seen_after seen s (tokens_of s.bytes)

-- statements, where this is seen before them; and what is seen in all of them
abbrev pub lines_of : Seen → List Spelled → List Line
lines_of seen [] = []
lines_of seen (s ∷ ss) = line_of seen s ∷ lines_of (seen_over seen s) ss

abbrev pub seen_in : Seen → List Spelled → Seen
seen_in seen [] = seen
seen_in seen (s ∷ ss) = seen_in (seen_over seen s) ss
