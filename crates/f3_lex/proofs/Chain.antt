-- The tokens of a statement follow one another as said.
use Rattle.std.proofs.Common.{◌≡◌, ℕ, ◌+◌, ◌-◌, ◌<◌, ◌≤◌, zero, suc, List, length, get_or, take, drop, Bool, true, false, inl, inr, refl, sym, ap, subst, arith}
use Rattle.std.proofs.str.Laws.{order}
use Rattle.std.proofs.lemmas.List.{length-drop}
use Rattle.f3_lex.specs.Tokens.{is_blank, text_of, front, depth_after, tokens_at, tokens_of}
use Rattle.f3_lex.specs.Laws.{IsFront, BlanksBetween, AreTokens, TokensAreLongest}
use Rattle.f3_lex.proofs.Scans.{blank_step, token_step, scan_end, token}
use Rattle.f3_lex.proofs.Fronts.{front_within}
use Rattle.f3_lex.proofs.Longest.{front_is}

-- one blank more
blanks_more : (bytes : List ℕ) (from i : ℕ) → BlanksBetween bytes from i → is_blank (get_or bytes i 0) ≡ true → BlanksBetween bytes from (i + 1)
blanks_more bytes from i h e k above below = elim (order k i) [
  | inl p ↦ h k above p
  | inr p ↦ let same : k ≡ i = omega (arith, p) in rw same e
]

no_blanks : (bytes : List ℕ) (i : ℕ) → BlanksBetween bytes i i
no_blanks bytes i k above below = absurd (omega arith)

abbrev Follow : List ℕ → ℕ → Type 0
Follow bytes fuel = (i from depth : ℕ) → length bytes ≤ i + fuel → i ≤ length bytes → from ≤ i → BlanksBetween bytes from i → AreTokens bytes from depth (tokens_at 0 i depth (drop i bytes))

module _ (bytes : List ℕ) (fuel : ℕ) (rest_follows : Follow bytes fuel) (i from depth : ℕ) (enough : length bytes ≤ i + suc fuel) (there : i < length bytes) (after : from ≤ i) (blanks : BlanksBetween bytes from i) where
  at_blank : is_blank (get_or bytes i 0) ≡ true → AreTokens bytes from depth (tokens_at 0 i depth (drop i bytes))
  at_blank e = subst (AreTokens bytes from depth) (sym (blank_step bytes i depth there e)) (rest_follows (i + 1) from depth (omega arith) (omega arith) (omega arith) (blanks_more bytes from i blanks e))

  at_token : is_blank (get_or bytes i 0) ≡ false → AreTokens bytes from depth (tokens_at 0 i depth (drop i bytes))
  at_token e =
      let found = front depth (drop i bytes) in
      let size = length-drop i bytes in
      let within = front_within depth (drop i bytes) (omega (arith, size)) in
      let step = token_step bytes i depth found there e refl within.0 in
      let span : i + found.1 - i ≡ found.1 = omega arith in
      let text : text_of (token found i) bytes ≡ take found.1 (drop i bytes) = ap (λ n. take n (drop i bytes)) span in
      let rest = rest_follows (i + found.1) (i + found.1) (depth_after depth (take found.1 (drop i bytes))) (omega (arith, within.0)) (omega (arith, within.1, size)) (omega arith) (no_blanks bytes (i + found.1)) in
      let is_front : IsFront depth (drop i bytes) found.0 (i + found.1 - i) = rw span (front_is depth (drop i bytes)) in
      subst (AreTokens bytes from depth) (sym step)
      (after, blanks, omega (arith, within.0), omega (arith, within.1, size), e, is_front, rw text rest)

  either : (t : Bool) → is_blank (get_or bytes i 0) ≡ t → AreTokens bytes from depth (tokens_at 0 i depth (drop i bytes))
  either true e = at_blank e
  either false e = at_token e

follow : (bytes : List ℕ) (fuel : ℕ) → Follow bytes fuel
follow bytes zero i from depth enough within after blanks =
    let all : i ≡ length bytes = omega arith in
    subst (AreTokens bytes from depth) (sym (scan_end bytes i depth (omega arith))) (subst (BlanksBetween bytes from) all blanks)
follow bytes (suc fuel) i from depth enough within after blanks = elim (order i (length bytes)) [
  | inl p ↦ either bytes fuel (follow bytes fuel) i from depth enough p after blanks (is_blank (get_or bytes i 0)) refl
  | inr p ↦ let all : i ≡ length bytes = omega (arith, p) in
      subst (AreTokens bytes from depth) (sym (scan_end bytes i depth p)) (subst (BlanksBetween bytes from) all blanks)
]

pub tokens_are_longest : TokensAreLongest
unfolding tokens_of
tokens_are_longest bytes = follow bytes (length bytes) 0 0 0 (omega arith) (omega arith) (omega arith) (no_blanks bytes 0)
