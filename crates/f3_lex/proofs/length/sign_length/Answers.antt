use Rattle.std.proofs.Common.{◌≡◌, ℕ, List, [], ◌∷◌, slice_index, sym, ◌∙◌, ap}
use Rattle.f3_lex.specs.Tokens.{listed_length, signs}
use Rattle.f3_lex.proofs.Lengths.{two_bytes}
use Rattle.f3_lex.proofs.length.sign_length.Goals as goal

same : (depth a b : ℕ) (bytes : List ℕ) → a ≡ slice_index bytes 0 → b ≡ slice_index bytes 1 → listed_length (signs depth) (a ∷ b ∷ []) ≡ listed_length (signs depth) bytes
same depth a b bytes p q = ap (λ x. listed_length (signs depth) (x ∷ b ∷ [])) p ∙ ap (λ x. listed_length (signs depth) (slice_index bytes 0 ∷ x ∷ [])) q ∙ sym (two_bytes depth bytes)

pub returns : goal.returns
returns c = c.sign_of.ensures ∙ same _ _ _ _ c.byte_at.ensures c.byte_at-2.ensures
