-- From what is found at each item to the least of all.
use Rattle.std.proofs.Common.{◌≡◌, ◌∙◌, List, [], ◌∷◌, Option, None, ◌⊎◌, inl, inr, zero, suc, sym, ap, subst, arith}
use Rattle.std.specs.List.{FoldsTo, flat_map}
use Rattle.std.proofs.lemmas.List.Elements.{Contains-get_or, Contains-append_right}
use Rattle.f3_rules.specs.declared.breaks.Break.{Break}
use Rattle.f3_rules.specs.Least.{Least, earlier_of, first_of}
use Rattle.f3_rules.proofs.Firsts.{least_none, least_same, least_both, earlier_assoc, earlier_none, first-append}
use Rattle.f3_breaks.specs.Among.{Among, FindsAt, IsFoundAlong}

module _ {X : Type 0} (P : X → Break → Type 0) where
  none_among : (b : Break) → Among P [] b → ⊥
  none_among b (x, (k, lt, e), p) = omega (arith, lt)

  at_head : (x : X) (xs : List X) (b : Break) → P x b → Among P (x ∷ xs) b
  at_head x xs b p = (x, Contains-get_or (x ∷ xs) 0 x (omega arith), p)

  in_tail : (x : X) (xs : List X) (b : Break) → Among P xs b → Among P (x ∷ xs) b
  in_tail x xs b (y, h, p) = (y, Contains-append_right (x ∷ []) xs y h, p)

  parts : (x : X) (xs : List X) (b : Break) → Among P (x ∷ xs) b → P x b ⊎ Among P xs b
  parts x xs b (y, (zero, lt, e), p) = inl (subst (λ w. P w b) (sym e) p)
  parts x xs b (y, (suc k, lt, e), p) = inr (y, (k, omega arith, e), p)

  module _ (finds : X → Option Break → Type 0) (is_least : (x : X) (here : Option Break) → finds x here → Least here (P x)) where
    -- what was found before is the least of other breaks
    least_on : (Q : Break → Type 0) (before : Option Break) (xs : List X) (found : Option Break) → Least before Q → FoldsTo (FindsAt finds) before xs found → Least found (λ b. Q b ⊎ Among P xs b)
    least_on Q before [] found l same = subst (λ o. Least o (λ b. Q b ⊎ Among P [] b)) same (least_same l (λ b q. inl q) (λ b h. elim h [ inl q ↦ q | inr a ↦ absurd (none_among b a) ]))
    least_on Q before (x ∷ xs) found l (after, (here, is, e), rest) =
        let here_too : Least after (λ b. Q b ⊎ P x b) = subst (λ o. Least o (λ b. Q b ⊎ P x b)) (sym e) (least_both l (is_least x here is)) in
        least_same (least_on (λ b. Q b ⊎ P x b) after xs found here_too rest)
        (λ b h. elim h [ inl (inl q) ↦ inl q | inl (inr p) ↦ inr (at_head x xs b p) | inr a ↦ inr (in_tail x xs b a) ])
        (λ b h. elim h [ inl q ↦ inl (inl q) | inr a ↦ elim (parts x xs b a) [ inl p ↦ inl (inr p) | inr r ↦ inr r ] ])

pub least_among : {X : Type 0} (P : X → Break → Type 0) (finds : X → Option Break → Type 0) (xs : List X) (found : Option Break)
    → ((x : X) (here : Option Break) → finds x here → Least here (P x)) → IsFoundAlong finds xs found → Least found (Among P xs)
least_among P finds xs found is_least is =
    least_same (least_on P finds is_least (λ b. ⊥) None xs found (least_none (λ b n. n)) is.along) (λ b h. elim h [ inl n ↦ absurd n | inr a ↦ a ]) (λ b a. inr a)

-- where what is found at each item is the first of a list, what is found along all is the first of the lists put together
module _ {X : Type 0} (row : X → List Break) (finds : X → Option Break → Type 0) (is_first : (x : X) (here : Option Break) → finds x here → here ≡ first_of (row x)) where
  first_on : (before : Option Break) (xs : List X) (found : Option Break) → FoldsTo (FindsAt finds) before xs found → found ≡ earlier_of before (first_of (flat_map row xs))
  first_on before [] found same = sym same ∙ sym (earlier_none before)
  first_on before (x ∷ xs) found (after, (here, is, e), rest) =
      first_on after xs found rest
      ∙ ap (λ o. earlier_of o (first_of (flat_map row xs))) (e ∙ ap (earlier_of before) (is_first x here is))
      ∙ earlier_assoc before (first_of (row x)) (first_of (flat_map row xs))
      ∙ ap (earlier_of before) (sym (first-append (row x) (flat_map row xs)))

  pub first_along : (xs : List X) (found : Option Break) → IsFoundAlong finds xs found → found ≡ first_of (flat_map row xs)
  first_along xs found is = first_on None xs found is.along
