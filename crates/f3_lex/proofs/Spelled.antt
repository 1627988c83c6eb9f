-- The text of a length that was found spells a token, and no longer one does.
use Rattle.std.proofs.Common.{◌≡◌, ◌==◌, ℕ, ◌+◌, ◌<◌, ◌≤◌, zero, suc, List, [], ◌∷◌, ◌++◌, length, take, drop, Bool, true, false, ◌&&◌, ◌||◌, not, cond, nat_le, Option, None, Some, unwrap_or, inl, inr, refl, sym, ap, ◌∙◌, subst, arith, eq-eqb, take-append-drop, append_assoc}
use Rattle.std.proofs.lemmas.Bool.{eqb-true, true≢false}
use Rattle.std.proofs.lemmas.Bool.Decides.{leb_tells}
use Rattle.std.specs.List.{prefix_len, AllByRecursion, list_all}
use Rattle.std.specs.Option.{option_map}
use Rattle.f3_lex.specs.Tokens.{begins, listed_length, is_quote, to_closing, behind_quote, constant_length}
use Rattle.f3_lex.specs.Laws.{IsOneOf, doubled}

-- runs of bytes
one_passes : (p : ℕ → Bool) (b : ℕ) (bytes : List ℕ) (t : Bool) → p b ≡ t → AllByRecursion (λ x. p x ≡ true) (take (prefix_len p bytes) bytes) → AllByRecursion (λ x. p x ≡ true) (take (cond t (1 + prefix_len p bytes) 0) (b ∷ bytes))
one_passes p b bytes true e h = let more : 1 + prefix_len p bytes ≡ suc (prefix_len p bytes) = omega arith in rw more (e, h)
one_passes p b bytes false e h = tt

pub passes : (p : ℕ → Bool) (bytes : List ℕ) → AllByRecursion (λ x. p x ≡ true) (take (prefix_len p bytes) bytes)
passes p [] = tt
passes p (b ∷ bytes) = one_passes p b bytes (p b) refl (passes p bytes)

pub no_more_pass : (p : ℕ → Bool) (m : ℕ) (bytes : List ℕ) → AllByRecursion (λ x. p x ≡ true) (take m bytes) → length (take m bytes) ≤ prefix_len p bytes
no_more_pass p zero bytes h = omega arith
no_more_pass p (suc m) [] h = omega arith
no_more_pass p (suc m) (b ∷ bytes) h = let rest = no_more_pass p m bytes h.1 in rw h.0 (omega (arith, rest))

-- listed words
both : (p q : Bool) → (p && q) ≡ true → (p ≡ true) × (q ≡ true)
both true q h = (refl, h)
both false q h = absurd (true≢false (sym h))

begins_take : (word bytes : List ℕ) → begins word bytes ≡ true → take (length word) bytes ≡ word
begins_take [] bytes h = refl
begins_take (w ∷ word) [] h = absurd (true≢false (sym h))
begins_take (w ∷ word) (b ∷ bytes) h =
    let parts = both (b == w) (begins word bytes) h in
    let rest = begins_take word bytes parts.1 in
    ap (λ x. x ∷ take (length word) bytes) (eqb-true b w parts.0) ∙ ap (λ xs. w ∷ xs) rest

pub take_begins : (m : ℕ) (bytes : List ℕ) → begins (take m bytes) bytes ≡ true
take_begins zero bytes = refl
take_begins (suc m) [] = refl
take_begins (suc m) (b ∷ bytes) = rw (eq-eqb b b refl) (take_begins m bytes)

-- of two words at one front, the shorter stands at the front of the longer
begins_longer : (word longer bytes : List ℕ) → begins word bytes ≡ true → begins longer bytes ≡ true → length word ≤ length longer → begins word longer ≡ true
begins_longer [] longer bytes h g le = refl
begins_longer (w ∷ word) [] bytes h g le = absurd (omega arith)
begins_longer (w ∷ word) (v ∷ longer) [] h g le = absurd (true≢false (sym h))
begins_longer (w ∷ word) (v ∷ longer) (b ∷ bytes) h g le =
    let p = both (b == w) (begins word bytes) h in
    let q = both (b == v) (begins longer bytes) g in
    let same : v ≡ w = sym (eqb-true b v q.0) ∙ eqb-true b w p.0 in
    rw (eq-eqb v w same) (begins_longer word longer bytes p.1 q.1 (omega arith))

one_spells : (word bytes : List ℕ) (words : List (List ℕ)) (t : Bool) → begins word bytes ≡ t → (0 < listed_length words bytes → IsOneOf words (take (listed_length words bytes) bytes))
    → 0 < cond t (length word) (listed_length words bytes) → IsOneOf (word ∷ words) (take (cond t (length word) (listed_length words bytes)) bytes)
one_spells word bytes words true e h some = inl (begins_take word bytes e)
one_spells word bytes words false e h some = inr (h some)

pub listed_spells : (words : List (List ℕ)) (bytes : List ℕ) → 0 < listed_length words bytes → IsOneOf words (take (listed_length words bytes) bytes)
unfolding listed_length
listed_spells [] bytes some = absurd (omega arith)
listed_spells (word ∷ words) bytes some = one_spells word bytes words (begins word bytes) refl (listed_spells words bytes) some

-- no word is longer than an earlier one that it begins with
abbrev pub longest_first : List (List ℕ) → Bool
longest_first [] = true
longest_first (word ∷ words) = list_all (λ later. nat_le (length later) (length word) || not (begins word later)) words && longest_first words

no_longer : (word later : List ℕ) (bytes : List ℕ) → (nat_le (length later) (length word) || not (begins word later)) ≡ true → begins word bytes ≡ true → begins later bytes ≡ true → length later ≤ length word
no_longer word later bytes h p q =
    elim (leb_tells (length later) (length word)) [
      | inl le ↦ le.1
      | inr more ↦ absurd (true≢false (sym h ∙ ap (λ t. t || not (begins word later)) more.0 ∙ ap not (begins_longer word later bytes p q (omega (arith, more.1)))))
    ]

module _ (word bytes : List ℕ) (here : begins word bytes ≡ true) where
  among_later : (words : List (List ℕ)) (text : List ℕ) → list_all (λ later. nat_le (length later) (length word) || not (begins word later)) words ≡ true → IsOneOf words text → begins text bytes ≡ true → length text ≤ length word
  among_later [] text h spelled front = absurd spelled
  among_later (later ∷ words) text h (inl e) front =
      let parts = both (nat_le (length later) (length word) || not (begins word later)) _ h in
      let P : List ℕ → Type 0 = λ x. begins x bytes ≡ true in
      omega (arith, ap length e, no_longer word later bytes parts.0 here (subst P e front))
  among_later (later ∷ words) text h (inr spelled) front =
      among_later words text (both (nat_le (length later) (length word) || not (begins word later)) _ h).1 spelled front

one_bounds : (word bytes text : List ℕ) (words : List (List ℕ)) (t : Bool) → begins word bytes ≡ t → longest_first (word ∷ words) ≡ true → begins text bytes ≡ true
    → (longest_first words ≡ true → IsOneOf words text → length text ≤ listed_length words bytes)
    → IsOneOf (word ∷ words) text → length text ≤ cond t (length word) (listed_length words bytes)
one_bounds word bytes text words true e first front h (inl same) = omega (arith, ap length same)
one_bounds word bytes text words true e first front h (inr spelled) =
    among_later word bytes e words text (both (list_all (λ later. nat_le (length later) (length word) || not (begins word later)) words) _ first).0 spelled front
one_bounds word bytes text words false e first front h (inl same) =
    let P : List ℕ → Type 0 = λ x. begins x bytes ≡ true in
    absurd (true≢false (sym (subst P same front) ∙ e))
one_bounds word bytes text words false e first front h (inr spelled) =
    h (both (list_all (λ later. nat_le (length later) (length word) || not (begins word later)) words) _ first).1 spelled

pub listed_bounds : (words : List (List ℕ)) (bytes text : List ℕ) → longest_first words ≡ true → begins text bytes ≡ true → IsOneOf words text → length text ≤ listed_length words bytes
unfolding listed_length
listed_bounds [] bytes text first front spelled = absurd spelled
listed_bounds (word ∷ words) bytes text first front spelled =
    one_bounds word bytes text words (begins word bytes) refl first front (λ h s. listed_bounds words bytes text h front s) spelled

-- character constants
abbrev Closed : ℕ → List ℕ → ℕ → Type 0
Closed quote bytes n = (characters : List ℕ) × (take n bytes ≡ doubled quote characters ++ quote ∷ [])

module _ (quote b : ℕ) (bytes : List ℕ) (behind : Closed quote (quote ∷ bytes) (behind_quote quote bytes)) (inside : (n : ℕ) → to_closing quote bytes ≡ Some n → Closed quote bytes n) where
  closes_here : (t : Bool) → (b == quote) ≡ t → (found : Option ℕ) → to_closing quote bytes ≡ found → (n : ℕ) → cond t (Some (behind_quote quote bytes)) (option_map (λ m. 1 + m) found) ≡ Some n → Closed quote (b ∷ bytes) n
  closes_here true e found f n h =
      let size : behind_quote quote bytes ≡ n = cc in
      (behind.0, ap (λ x. take n (x ∷ bytes)) (eqb-true b quote e) ∙ ap (λ k. take k (quote ∷ bytes)) (sym size) ∙ behind.1)
  closes_here false e None f n h = absurd (let x : None ≡ Some n = h in cc)
  closes_here false e (Some m) f n h =
      let rest = inside m f in
      let size : 1 + m ≡ n = cc in
      let next : n ≡ suc m = omega arith in
      (b ∷ rest.0, rw (next, e) (ap (λ xs. b ∷ xs) rest.1))

  closes_behind : (t : Bool) → (b == quote) ≡ t → (found : Option ℕ) → to_closing quote bytes ≡ found → Closed quote (quote ∷ b ∷ bytes) (cond t (unwrap_or (option_map (λ m. 2 + m) found) 1) 1)
  closes_behind false e found f = ([], refl)
  closes_behind true e None f = ([], refl)
  closes_behind true e (Some m) f =
      let rest = inside m f in
      let next : 2 + m ≡ suc (suc m) = omega arith in
      (quote ∷ rest.0, rw (next, eq-eqb quote quote refl) (ap (λ x. quote ∷ x ∷ take m bytes) (eqb-true b quote e) ∙ ap (λ xs. quote ∷ quote ∷ xs) rest.1))

closing_spells : (quote : ℕ) (bytes : List ℕ) → ((n : ℕ) → to_closing quote bytes ≡ Some n → Closed quote bytes n) × Closed quote (quote ∷ bytes) (behind_quote quote bytes)
unfolding to_closing
closing_spells quote [] = (λ n h. absurd (let x : None ≡ Some n = h in cc), ([], refl))
closing_spells quote (b ∷ bytes) =
    let rest = closing_spells quote bytes in
    (closes_here quote b bytes rest.1 rest.0 (b == quote) refl (to_closing quote bytes) refl, closes_behind quote b bytes rest.1 rest.0 (b == quote) refl (to_closing quote bytes) refl)

-- from the characters to the length: a constant goes on where a quote follows it
reaches : (quote : ℕ) (characters rest : List ℕ) → (k : ℕ) × (to_closing quote (doubled quote characters ++ quote ∷ rest) ≡ Some k) × (length (doubled quote characters ++ quote ∷ []) ≤ k)
unfolding to_closing
reaches quote [] rest = (behind_quote quote rest, rw (eq-eqb quote quote refl) refl, behind_some quote rest)
  where
    one_or_more : (t : Bool) (found : Option ℕ) → 1 ≤ cond t (unwrap_or (option_map (λ m. 2 + m) found) 1) 1
    one_or_more false found = omega arith
    one_or_more true None = omega arith
    one_or_more true (Some m) = omega arith

    behind_some : (quote : ℕ) (rest : List ℕ) → 1 ≤ behind_quote quote rest
    behind_some quote [] = omega arith
    behind_some quote (b ∷ rest) = one_or_more (b == quote) (to_closing quote rest)
reaches quote (b ∷ characters) rest = further (b == quote) refl (reaches quote characters rest)
  where
    further : (t : Bool) → (b == quote) ≡ t → (k : ℕ) × (to_closing quote (doubled quote characters ++ quote ∷ rest) ≡ Some k) × (length (doubled quote characters ++ quote ∷ []) ≤ k)
        → (k : ℕ) × (to_closing quote ((cond t (quote ∷ quote ∷ doubled quote characters) (b ∷ doubled quote characters)) ++ quote ∷ rest) ≡ Some k) × (length (cond t (quote ∷ quote ∷ doubled quote characters) (b ∷ doubled quote characters) ++ quote ∷ []) ≤ k)
    further true e (k, h, le) = (2 + k, simp (eq-eqb quote quote refl, h), omega (arith, le))
    further false e (k, h, le) = (1 + k, simp (e, h), omega (arith, le))

pub constant_spells : (bytes : List ℕ) → 0 < constant_length bytes
    → (quote : ℕ) × (characters : List ℕ) × (is_quote quote ≡ true) × (take (constant_length bytes) bytes ≡ quote ∷ (doubled quote characters ++ quote ∷ []))
unfolding constant_length
constant_spells [] some = absurd (omega arith)
constant_spells (quote ∷ bytes) some = by (is_quote quote) refl (to_closing quote bytes) refl some
  where
    by : (t : Bool) → is_quote quote ≡ t → (found : Option ℕ) → to_closing quote bytes ≡ found → 0 < cond t (unwrap_or (option_map (λ n. 1 + n) found) 0) 0
        → (q : ℕ) × (characters : List ℕ) × (is_quote q ≡ true) × (take (cond t (unwrap_or (option_map (λ n. 1 + n) found) 0) 0) (quote ∷ bytes) ≡ q ∷ (doubled q characters ++ q ∷ []))
    by false e found f some = absurd (omega arith)
    by true e None f some = absurd (omega arith)
    by true e (Some n) f some =
        let rest = (closing_spells quote bytes).0 n f in
        let next : 1 + n ≡ suc n = omega arith in
        (quote, rest.0, e, rw next (ap (λ xs. quote ∷ xs) rest.1))

pub constant_bounds : (m : ℕ) (bytes : List ℕ) (quote : ℕ) (characters : List ℕ) → is_quote quote ≡ true → take m bytes ≡ quote ∷ (doubled quote characters ++ quote ∷ []) → length (take m bytes) ≤ constant_length bytes
unfolding constant_length
constant_bounds zero bytes quote characters e h = omega arith
constant_bounds (suc m) [] quote characters e h = omega arith
constant_bounds (suc m) (b ∷ bytes) quote characters e h =
    let first : b ≡ quote = cc in
    let inner : take m bytes ≡ doubled quote characters ++ quote ∷ [] = cc in
    let whole : doubled quote characters ++ (quote ∷ drop m bytes) ≡ bytes = sym (append_assoc (doubled quote characters) (quote ∷ []) (drop m bytes)) ∙ ap (λ xs. xs ++ drop m bytes) (sym inner) ∙ take-append-drop m bytes in
    let reached = reaches quote characters (drop m bytes) in
    let found : to_closing quote bytes ≡ Some reached.0 = ap (to_closing quote) (sym whole) ∙ reached.1 in
    let size = ap length inner in
    rw (first, e, found) (omega (arith, reached.2, size))
