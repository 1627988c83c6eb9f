-- Some statements and their tokens.
use Rattle.std.specs.Prelude.{◌≡◌, ℕ, List, [], ◌∷◌, map, codes}
use Rattle.f3_lex.specs.declared.token.TokenKind.{TokenKind}
use Rattle.f3_lex.specs.declared.token.TokenKind.TheVariants.{Name, Integer, Truth, Word, Text, Sign, Other}
use Rattle.f3_lex.specs.Tokens.{text_of, tokens_of}

-- the kind and the bytes of each token
unfoldable pub pieces : List ℕ → List (TokenKind × List ℕ)
pieces bytes = map (λ token. (token.kind, text_of token bytes)) (tokens_of bytes)

abbrev pub Examples : Type 0
Examples =
    (pieces (codes "a==b") ≡ (Name, codes "a") ∷ (Sign, codes "==") ∷ (Name, codes "b") ∷ [])
    × (pieces (codes "x = -2**n_1")
    ≡ (Name, codes "x") ∷ (Sign, codes "=") ∷ (Sign, codes "-") ∷ (Integer, codes "2") ∷ (Sign, codes "**")
    ∷ (Name, codes "n_1") ∷ [])
    × (pieces (codes "logical::a(1::2)")
    ≡ (Name, codes "logical") ∷ (Sign, codes "::") ∷ (Name, codes "a") ∷ (Sign, codes "(") ∷ (Integer, codes "1")
    ∷ (Sign, codes ":") ∷ (Sign, codes ":") ∷ (Integer, codes "2") ∷ (Sign, codes ")") ∷ [])
    × (pieces (codes "(/1,[2]/)::")
    ≡ (Sign, codes "(/") ∷ (Integer, codes "1") ∷ (Sign, codes ",") ∷ (Sign, codes "[") ∷ (Integer, codes "2")
    ∷ (Sign, codes "]") ∷ (Sign, codes "/)") ∷ (Sign, codes "::") ∷ [])
    × (pieces (codes "'it''s'\"a\"") ≡ (Text, codes "'it''s'") ∷ (Text, codes "\"a\"") ∷ [])
    × (pieces (codes ".Not..TRUE..eqv.1.ge.2")
    ≡ (Word, codes ".Not.") ∷ (Truth, codes ".TRUE.") ∷ (Word, codes ".eqv.") ∷ (Integer, codes "1")
    ∷ (Word, codes ".ge.") ∷ (Integer, codes "2") ∷ [])
    × (pieces (codes "12abc 1_k .x. 'a")
    ≡ (Integer, codes "12") ∷ (Name, codes "abc") ∷ (Integer, codes "1") ∷ (Other, codes "_") ∷ (Name, codes "k")
    ∷ (Other, codes ".") ∷ (Name, codes "x") ∷ (Other, codes ".") ∷ (Other, codes "'") ∷ (Name, codes "a") ∷ [])
    × (pieces (codes "04_4+1_8.lt.n_8")
    ≡ (Integer, codes "04_4") ∷ (Sign, codes "+") ∷ (Integer, codes "1_8") ∷ (Word, codes ".lt.")
    ∷ (Name, codes "n_8") ∷ [])
    × (pieces (codes "1_88 1_8x 1_4_")
    ≡ (Integer, codes "1") ∷ (Other, codes "_") ∷ (Integer, codes "88") ∷ (Integer, codes "1") ∷ (Other, codes "_")
    ∷ (Integer, codes "8") ∷ (Name, codes "x") ∷ (Integer, codes "1") ∷ (Other, codes "_") ∷ (Integer, codes "4")
    ∷ (Other, codes "_") ∷ [])
    × (pieces (codes "a(/=b)") ≡ (Name, codes "a") ∷ (Sign, codes "(/") ∷ (Sign, codes "=") ∷ (Name, codes "b") ∷ (Sign, codes ")") ∷ [])
