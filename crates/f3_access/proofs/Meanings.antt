-- One, none or several entities stand in a table under a name.
use Rattle.std.proofs.Common.{◌≡◌, ℕ, List, [], ◌∷◌, refl, sym, ap, ◌∙◌, Bool, true, false, if◌then◌else◌, ◌==◌, ◌⊎◌, inl, inr, Contains}
use Rattle.std.proofs.lemmas.Bool.{eqb-true, eqb-false}
use Rattle.f3_lookups.specs.declared.lookup.Visible.{Visible}
use Rattle.f3_lookups.specs.declared.lookup.Lookup.{Lookup}
use Rattle.f3_lookups.specs.declared.lookup.Lookup.TheVariants.{One, Nothing, Several}
use Rattle.f3_access.specs.Lookups.{ResolvesAs}
use Rattle.f3_access.specs.Parts.{note, meaning}
use Rattle.f3_selecting.proofs.Members.{Has, has_of, contains_of}

note_resolves : (l : Lookup) (Is : ℕ → Type 0) (e : ℕ) → ResolvesAs l Is → ResolvesAs (note l e) (λ x. Is x ⊎ (x ≡ e))
note_resolves Nothing Is e h = (inr refl, λ d i. elim i [ inl a ↦ absurd (h d a) | inr b ↦ b ])
note_resolves Several Is e (c, d, hc, hd, ne) = (c, d, inl hc, inl hd, ne)
note_resolves (One d) Is e h = by (d == e) refl
  where
    by : (t : Bool) → (d == e) ≡ t → ResolvesAs (if t then One d else Several) (λ x. Is x ⊎ (x ≡ e))
    by true same = (inl h.0, λ x i. elim i [ inl a ↦ h.1 x a | inr b ↦ b ∙ sym (eqb-true d e same) ])
    by false apart = (d, e, inl h.0, inr refl, eqb-false d e apart)

pub same_resolves : (l : Lookup) (P Q : ℕ → Type 0) → ((e : ℕ) → P e → Q e) → ((e : ℕ) → Q e → P e) → ResolvesAs l P → ResolvesAs l Q
same_resolves (One d) P Q to from h = (to d h.0, λ e q. h.1 e (from e q))
same_resolves Nothing P Q to from h = λ d q. h d (from d q)
same_resolves Several P Q to from (c, d, hc, hd, ne) = (c, d, to c hc, to d hd, ne)

-- a table adds what it has under the name
along : (vs : List Visible) (n : ℕ) (l : Lookup) (Is : ℕ → Type 0) → ResolvesAs l Is → ResolvesAs (meaning l vs n) (λ e. Is e ⊎ Has vs (record { symbol = n; entity = e }))
along [] n l Is h = same_resolves l Is (λ e. Is e ⊎ ⊥) (λ e a. inl a) (λ e i. elim i [ inl a ↦ a | inr b ↦ absurd b ]) h
along (v ∷ vs) n l Is h = by (v.symbol == n) refl (along vs n)
  where
    Here : ℕ → Type 0
    Here e = let w : Visible = record { symbol = n; entity = e } in w ≡ v

    by : (t : Bool) → (v.symbol == n) ≡ t → ((m : Lookup) (P : ℕ → Type 0) → ResolvesAs m P → ResolvesAs (meaning m vs n) (λ e. P e ⊎ Has vs (record { symbol = n; entity = e })))
        → ResolvesAs (meaning (if t then note l v.entity else l) vs n) (λ e. Is e ⊎ Has (v ∷ vs) (record { symbol = n; entity = e }))
    by true same rest = same_resolves (meaning (note l v.entity) vs n) (λ e. (Is e ⊎ (e ≡ v.entity)) ⊎ Has vs (record { symbol = n; entity = e })) (λ e. Is e ⊎ Has (v ∷ vs) (record { symbol = n; entity = e }))
        (λ e i. elim i [ inl (inl a) ↦ inl a | inl (inr b) ↦ inr (inl (let back = sym (eqb-true v.symbol n same) in λ j. record { symbol = back j; entity = b j })) | inr c ↦ inr (inr c) ])
        (λ e i. elim i [ inl a ↦ inl (inl a) | inr (inl b) ↦ inl (inr (ap (λ w. w.entity) b)) | inr (inr c) ↦ inr c ])
        (rest (note l v.entity) (λ x. Is x ⊎ (x ≡ v.entity)) (note_resolves l Is v.entity h))
    by false apart rest = same_resolves (meaning l vs n) (λ e. Is e ⊎ Has vs (record { symbol = n; entity = e })) (λ e. Is e ⊎ Has (v ∷ vs) (record { symbol = n; entity = e }))
        (λ e i. elim i [ inl a ↦ inl a | inr c ↦ inr (inr c) ])
        (λ e i. elim i [ inl a ↦ inl a | inr (inl b) ↦ absurd (eqb-false v.symbol n apart (sym (ap (λ w. w.symbol) b))) | inr (inr c) ↦ inr c ])
        (rest l Is h)

pub resolves : (vs : List Visible) (n : ℕ) → ResolvesAs (meaning Nothing vs n) (λ e. Contains vs (record { symbol = n; entity = e }))
resolves vs n = same_resolves (meaning Nothing vs n) (λ e. ⊥ ⊎ Has vs (record { symbol = n; entity = e })) (λ e. Contains vs (record { symbol = n; entity = e }))
    (λ e i. elim i [ inl a ↦ absurd a | inr b ↦ contains_of vs (record { symbol = n; entity = e }) b ])
    (λ e m. inr (has_of vs (record { symbol = n; entity = e }) m))
    (along vs n Nothing (λ e. ⊥) (λ d a. a))
