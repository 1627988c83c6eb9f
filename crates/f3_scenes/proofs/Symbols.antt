-- The first of some texts that passes a test.
use Rattle.std.proofs.Common.{◌≡◌, sym, ap, ◌∙◌, ℕ, ◌+◌, ◌<◌, ◌≤◌, Bool, true, false, List, map, length, drop, get_or, Some, cond}
use Rattle.std.specs.List.{position_from}
use Rattle.std.proofs.lemmas.List.{at_drop_more, at_drop_all}
use Rattle.f3_kinds.specs.Things.{map_or}

module _ {X Y : Type 0} (v : X → Y) (t : Y → Bool) (d : ℕ) where
  abbrev pub found_from : ℕ → List X → ℕ
  found_from i xs = map_or d (λ (n : ℕ). n) (position_from t i (map v xs))

  opened : (xs : List X) (i : ℕ) (x : X) (b : Bool) → i < length xs → x ≡ get_or xs i x → b ≡ t (v x)
      → found_from i (drop i xs) ≡ map_or d (λ (n : ℕ). n) (cond b (Some i) (position_from t (i + 1) (map v (drop (i + 1) xs))))
  opened xs i x b lt is e =
      at_drop_more (λ ys. found_from i ys) xs i x lt
      ∙ ap (λ (c : Bool). map_or d (λ (n : ℕ). n) (cond c (Some i) (position_from t (i + 1) (map v (drop (i + 1) xs))))) (ap (λ y. t (v y)) (sym is) ∙ sym e)

  pub found_more : (xs : List X) (i : ℕ) (x : X) (b : Bool) (whole : ℕ) → i < length xs → x ≡ get_or xs i x → b ≡ t (v x) → b ≡ false
      → found_from i (drop i xs) ≡ whole → found_from (i + 1) (drop (i + 1) xs) ≡ whole
  found_more xs i x b whole lt is e f h =
      sym (opened xs i x b lt is e ∙ ap (λ (c : Bool). map_or d (λ (n : ℕ). n) (cond c (Some i) (position_from t (i + 1) (map v (drop (i + 1) xs))))) f) ∙ h

  pub found_here : (xs : List X) (i : ℕ) (x : X) (b : Bool) (whole : ℕ) → i < length xs → x ≡ get_or xs i x → b ≡ t (v x) → b ≡ true → found_from i (drop i xs) ≡ whole → i ≡ whole
  found_here xs i x b whole lt is e f h =
      sym (opened xs i x b lt is e ∙ ap (λ (c : Bool). map_or d (λ (n : ℕ). n) (cond c (Some i) (position_from t (i + 1) (map v (drop (i + 1) xs))))) f) ∙ h

  pub found_none : (xs : List X) (i : ℕ) (whole : ℕ) → length xs ≤ i → found_from i (drop i xs) ≡ whole → d ≡ whole
  found_none xs i whole le h = sym (at_drop_all (λ ys. found_from i ys) xs i le) ∙ h
