-- What integers say; names that are too long, and literals that are too large (own rules).
use Rattle.std.specs.Prelude.{◌≡◌, ℕ, ◌+◌, ◌-◌, ◌*◌, Option, None, Some, List, [], ◌∷◌, length, take, drop, codes, if◌then◌else◌, nat_lt}
use Rattle.std.specs.Prelude.{slice_index_or, fold, pos, string_bytes}
use Rattle.std.specs.Option.{option_map}
use Rattle.std.specs.Str.{bytes_eq}
use Rattle.f3_places.specs.declared.source.Place.{Place}
use Rattle.f3_rules.specs.declared.rule.Rule.{Rule}
use Rattle.f3_rules.specs.declared.rule.Rule.TheVariants.{S3, S4}
use Rattle.f3_rules.specs.declared.refusal.Refusal.{Refusal}
use Rattle.f3_text.specs.declared.statement.RawStatement.{RawStatement}
use Rattle.f3_tree.specs.declared.expression.IntegerKind.{IntegerKind}
use Rattle.f3_tree.specs.declared.expression.IntegerKind.TheVariants as kind
use Rattle.f3_tree.specs.declared.expression.IntegerLiteral.{IntegerLiteral}
use Rattle.f3_tree.specs.declared.expression.IntegerLiteral.TheVariants as literal
use Rattle.f3_lex.specs.declared.token.Token.{Token}
use Rattle.f3_lex.specs.declared.token.TokenKind.{TokenKind}
use Rattle.f3_lex.specs.declared.token.TokenKind.TheVariants.{Name, Integer, Truth, Word, Text, Sign, Other}
use Rattle.f3_lex.specs.Tokens.{digits_length, text_of, tokens_of}

-- the number that decimal digits write
abbrev pub value_of_digits : List ℕ → ℕ
value_of_digits digits = fold (λ n digit. n * 10 + (digit - 48)) 0 digits

-- the digits of an integer, and its suffix (4.4.1)
abbrev pub digits_of : List ℕ → List ℕ
digits_of text = take (digits_length text) text

abbrev pub suffix_of : List ℕ → List ℕ
suffix_of text = drop (digits_length text) text

-- the kind of an integer: the one that its suffix names, or 4 (4.4.1; own rule)
abbrev pub kind_by : List ℕ → IntegerKind
kind_by suffix = if bytes_eq suffix (codes "_8") then kind.Eight else kind.Four

abbrev pub kind_of : List ℕ → IntegerKind
kind_of text = kind_by (suffix_of text)

-- the largest integer of a kind
abbrev pub largest : IntegerKind → ℕ
largest kind.Four = 2147483647
largest kind.Eight = 9223372036854775807

abbrev pub literal_of : IntegerKind → ℕ → IntegerLiteral
literal_of kind.Four n = literal.Four (pos n)
literal_of kind.Eight n = literal.Eight (pos n)

-- the number that digits write, where it is no larger than this
unfoldable pub value_within : ℕ → List ℕ → Option ℕ
value_within most digits = if nat_lt most (value_of_digits digits) then None else Some (value_of_digits digits)

-- an integer's kind and value, where its kind has the value
unfoldable pub integer_of : List ℕ → Option IntegerLiteral
integer_of text = option_map (literal_of (kind_of text)) (value_within (largest (kind_of text)) (digits_of text))

-- the place of a statement's byte
abbrev pub nowhere : Place
nowhere = record { file = 0; line = 0; column = 0 }

abbrev pub place_at : RawStatement → ℕ → Place
place_at statement k = slice_index_or statement.places.items k nowhere

-- the rule that a token of this kind and these bytes breaks
abbrev pub broken_by : TokenKind → List ℕ → Option Rule
broken_by Name text = if nat_lt 63 (length text) then Some S3 else None
broken_by Integer text = if nat_lt (largest (kind_of text)) (value_of_digits (digits_of text)) then Some S4 else None
broken_by Truth text = None
broken_by Word text = None
broken_by Text text = None
broken_by Sign text = None
broken_by Other text = None

abbrev pub or_else : Option (ℕ × Rule) → Option (ℕ × Rule) → Option (ℕ × Rule)
or_else None b = b
or_else (Some a) b = Some a

-- where the first token that breaks a rule begins, and the rule
unfoldable pub first_broken : List ℕ → List Token → Option (ℕ × Rule)
first_broken bytes [] = None
first_broken bytes (token ∷ tokens) =
    or_else (option_map (λ rule. (token.start, rule)) (broken_by token.kind (text_of token bytes))) (first_broken bytes tokens)

-- the first break of S3 or S4 in a statement
abbrev pub fault_of : RawStatement → Option (Place × Rule)
fault_of statement =
    option_map (λ (start, rule). (place_at statement start, rule)) (first_broken statement.bytes.items (tokens_of statement.bytes.items))

-- a refusal at that place and of that rule, without a name; none where there is no fault
abbrev pub HasFault : Option Refusal → Option (Place × Rule) → Type 0
HasFault None None = Unit {0}
HasFault None (Some fault) = ⊥
HasFault (Some refusal) None = ⊥
HasFault (Some refusal) (Some fault) = (refusal.place ≡ fault.0) × (refusal.rule ≡ fault.1) × (string_bytes refusal.name ≡ [])
