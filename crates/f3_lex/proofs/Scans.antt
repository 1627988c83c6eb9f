-- One step of the scan.
use Rattle.std.proofs.Common.{◌≡◌, ℕ, ◌+◌, ◌-◌, ◌<◌, ◌≤◌, zero, suc, List, [], ◌∷◌, ◌++◌, length, get_or, take, drop, true, false, refl, sym, ap, ◌∙◌, subst, arith, append_assoc}
use Rattle.std.proofs.lemmas.List.{at_drop_more, at_drop_all, drop-drop, get_or-drop, length-drop}
use Rattle.f3_lex.specs.declared.token.Token.{Token}
use Rattle.f3_lex.specs.declared.token.TokenKind.{TokenKind}
use Rattle.f3_lex.specs.Tokens.{is_blank, front, depth_after, tokens_at, tokens_of}

-- what the last token still has is passed over
pub skip : (k i depth : ℕ) (bytes : List ℕ) → tokens_at k i depth bytes ≡ tokens_at 0 (i + k) depth (drop k bytes)
unfolding tokens_at
skip zero i depth bytes = ap (λ n. tokens_at 0 n depth bytes) (omega arith)
skip (suc k) i depth [] = refl
skip (suc k) i depth (b ∷ bytes) = skip k (i + 1) depth bytes ∙ ap (λ n. tokens_at 0 n depth (drop k bytes)) (omega arith)

skip_front : (n i depth b : ℕ) (bytes : List ℕ) → 0 < n → tokens_at (n - 1) (i + 1) depth bytes ≡ tokens_at 0 (i + n) depth (drop n (b ∷ bytes))
skip_front zero i depth b bytes h = absurd (omega arith)
skip_front (suc n) i depth b bytes h =
    ap (λ k. tokens_at k (i + 1) depth bytes) (omega arith) ∙ skip n (i + 1) depth bytes ∙ ap (λ k. tokens_at 0 k depth (drop n bytes)) (omega arith)

-- the token that was found at a place
abbrev pub token : TokenKind × ℕ → ℕ → Token
token found i = record { kind = found.0; start = i; end = i + found.1 }

at_front : (i depth : ℕ) (rest : List ℕ) → 0 < length rest → is_blank (get_or rest 0 0) ≡ false → 0 < (front depth rest).1
    → tokens_at 0 i depth rest ≡ token (front depth rest) i ∷ tokens_at 0 (i + (front depth rest).1) (depth_after depth (take (front depth rest).1 rest)) (drop (front depth rest).1 rest)
unfolding tokens_at
at_front i depth [] some other long = absurd (omega arith)
at_front i depth (b ∷ rest) some other long = rw other (ap (λ ts. token (front depth (b ∷ rest)) i ∷ ts) (skip_front (front depth (b ∷ rest)).1 i _ b rest long))

pub blank_step : (bytes : List ℕ) (i depth : ℕ) → i < length bytes → is_blank (get_or bytes i 0) ≡ true → tokens_at 0 i depth (drop i bytes) ≡ tokens_at 0 (i + 1) depth (drop (i + 1) bytes)
unfolding tokens_at
blank_step bytes i depth there blank = at_drop_more (tokens_at 0 i depth) bytes i 0 there ∙ rw blank refl

pub token_step : (bytes : List ℕ) (i depth : ℕ) (found : TokenKind × ℕ) → i < length bytes → is_blank (get_or bytes i 0) ≡ false → found ≡ front depth (drop i bytes) → 0 < found.1
    → tokens_at 0 i depth (drop i bytes) ≡ token found i ∷ tokens_at 0 (i + found.1) (depth_after depth (take found.1 (drop i bytes))) (drop (i + found.1) bytes)
token_step bytes i depth found there other e long =
    let rest = drop i bytes in
    let first : get_or rest 0 0 ≡ get_or bytes i 0 = get_or-drop i bytes 0 0 ∙ ap (λ k. get_or bytes k 0) (omega arith) in
    let step = at_front i depth rest (omega (arith, length-drop i bytes)) (ap is_blank first ∙ other) (subst (λ x. 0 < x.1) e long) in
    let P : TokenKind × ℕ → Type 0 = λ x. tokens_at 0 i depth rest ≡ token x i ∷ tokens_at 0 (i + x.1) (depth_after depth (take x.1 rest)) (drop (i + x.1) bytes) in
    subst P (sym e) (step ∙ ap (λ ts. token (front depth rest) i ∷ tokens_at 0 (i + (front depth rest).1) (depth_after depth (take (front depth rest).1 rest)) ts) (drop-drop (front depth rest).1 i bytes))

pub scan_end : (bytes : List ℕ) (i depth : ℕ) → length bytes ≤ i → tokens_at 0 i depth (drop i bytes) ≡ []
unfolding tokens_at
scan_end bytes i depth h = at_drop_all (tokens_at 0 i depth) bytes i h

-- one token more
pub pushed : (bytes : List ℕ) (before after : List Token) (i depth deeper : ℕ) (found : TokenKind × ℕ) → i < length bytes → is_blank (get_or bytes i 0) ≡ false → found ≡ front depth (drop i bytes) → 0 < found.1
    → deeper ≡ depth_after depth (take found.1 (drop i bytes)) → after ≡ before ++ token found i ∷ []
    → before ++ tokens_at 0 i depth (drop i bytes) ≡ tokens_of bytes → after ++ tokens_at 0 (i + found.1) deeper (drop (i + found.1) bytes) ≡ tokens_of bytes
pushed bytes before after i depth deeper found there other e long d a h =
    let left = tokens_at 0 (i + found.1) deeper (drop (i + found.1) bytes) in
    let step = token_step bytes i depth found there other e long ∙ ap (λ k. token found i ∷ tokens_at 0 (i + found.1) k (drop (i + found.1) bytes)) (sym d) in
    ap (λ ts. ts ++ left) a ∙ append_assoc before (token found i ∷ []) left ∙ ap (λ ts. before ++ ts) (sym step) ∙ h
