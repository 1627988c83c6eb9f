-- What callers use of a token: its span, and that a name is ASCII.
use Rattle.std.proofs.Common.{◌≡◌, ℕ, ◌-◌, ◌<◌, ◌≤◌, zero, suc, List, [], ◌∷◌, length, take, drop, true, inl, inr, sym, ◌∙◌, subst, arith, Contains}
use Rattle.std.specs.List.{AllByRecursion}
use Rattle.std.specs.Str.{IsAscii}
use Rattle.std.proofs.lemmas.Bool.Decides.{nat_tests}
use Rattle.f3_lex.specs.declared.token.Token.{Token}
use Rattle.f3_lex.specs.declared.token.TokenKind.{TokenKind}
use Rattle.f3_lex.specs.declared.token.TokenKind.TheVariants.{Name, Other}
use Rattle.f3_lex.specs.Tokens.{is_name_byte, depth_after, text_of, tokens_of}
use Rattle.f3_lex.specs.Laws.{IsSpelled, IsFront, AreTokens}
use Rattle.f3_lex.proofs.Chain.{tokens_are_longest}

pub record IsTokenOf (bytes : List ℕ) (token : Token) : Type 0 where
  pub not_empty : token.start < token.end
  pub within : token.end ≤ length bytes
  pub is_front : (depth : ℕ) × IsFront depth (drop token.start bytes) token.kind (token.end - token.start)

each_token : (bytes : List ℕ) (from depth : ℕ) (tokens : List Token) (token : Token) → AreTokens bytes from depth tokens → Contains tokens token → IsTokenOf bytes token
each_token bytes from depth [] token are (k, lt, e) = absurd (omega (arith, lt))
each_token bytes from depth (first ∷ tokens) token are (zero, lt, e) = subst (IsTokenOf bytes) e (record { not_empty = are.2; within = are.3; is_front = (depth, are.5) })
each_token bytes from depth (first ∷ tokens) token are (suc k, lt, e) = each_token bytes first.end (depth_after depth (text_of first bytes)) tokens token are.6 (k, omega (arith, lt), e)

-- a token of a statement
pub is_token : (bytes : List ℕ) (token : Token) → Contains (tokens_of bytes) token → IsTokenOf bytes token
is_token bytes token h = each_token bytes 0 0 (tokens_of bytes) token (tokens_are_longest bytes) h

name_byte_ascii : (b : ℕ) → is_name_byte b ≡ true → b < 128
name_byte_ascii b h = grind (arith, nat_tests)

all_ascii : (text : List ℕ) → AllByRecursion (λ b. is_name_byte b ≡ true) text → IsAscii text
all_ascii [] h i = omega arith
all_ascii (b ∷ text) h zero = name_byte_ascii b h.0
all_ascii (b ∷ text) h (suc i) = all_ascii text h.1 i

name_spelled : (depth : ℕ) (bytes : List ℕ) (kind : TokenKind) (n : ℕ) → IsFront depth bytes kind n → kind ≡ Name → AllByRecursion (λ b. is_name_byte b ≡ true) (take n bytes)
name_spelled depth bytes kind n (inl longest) e = let P : TokenKind → Type 0 = λ k. IsSpelled depth k (take n bytes) (drop n bytes) in (subst P e longest.0).1
name_spelled depth bytes kind n (inr none) e = absurd (let apart : Name ≡ Other = sym e ∙ none.0 in cc)

pub name_is_ascii : (bytes : List ℕ) (token : Token) → Contains (tokens_of bytes) token → token.kind ≡ Name → IsAscii (text_of token bytes)
name_is_ascii bytes token h e = let front = (is_token bytes token h).is_front in all_ascii (text_of token bytes) (name_spelled front.0 (drop token.start bytes) token.kind (token.end - token.start) front.1 e)
