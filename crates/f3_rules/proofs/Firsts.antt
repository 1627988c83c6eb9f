-- The least of a set of breaks, put together from the least of its parts.
use Rattle.std.proofs.Common.{◌≡◌, ℕ, ◌+◌, ◌<◌, length, drop, get_or, zero, suc, List, [], ◌∷◌, ◌++◌, Bool, true, false, Option, None, Some, ◌⊎◌, inl, inr, refl, sym, ap, ◌∙◌, subst, Contains, arith, if◌then◌else◌}
use Rattle.std.proofs.lemmas.Bool.{true≢false}
use Rattle.std.proofs.lemmas.List.Elements.{Contains-get_or, Contains-append_right}
use Rattle.std.specs.List.{flat_map}
use Rattle.std.proofs.lemmas.List.{at_drop_more}
use Rattle.f3_rules.specs.declared.breaks.Break.{Break}
use Rattle.f3_rules.specs.Least.{is_before, earlier_of, first_of, Least, LeastAs}
use Rattle.f3_rules.proofs.Order.{not_itself, follows_on, not_back}

pub least_none : {P : Break → Type 0} → ((b : Break) → P b → ⊥) → Least None P
least_none h = record { as_said = h }

-- the least of one
pub least_one : {P : Break → Type 0} (f : Break) → P f → ((b : Break) → P b → b ≡ f) → Least (Some f) P
least_one f here only = record { as_said = (here, λ b h. rw (only b h) (not_itself f)) }

-- the same set in other words
same_as : (f : Option Break) (P Q : Break → Type 0) → LeastAs f P → ((b : Break) → P b → Q b) → ((b : Break) → Q b → P b) → LeastAs f Q
same_as None P Q l to from = λ b h. l b (from b h)
same_as (Some f) P Q l to from = (to f l.0, λ b h. l.1 b (from b h))

pub least_same : {f : Option Break} {P Q : Break → Type 0} → Least f P → ((b : Break) → P b → Q b) → ((b : Break) → Q b → P b) → Least f Q
least_same l to from = record { as_said = same_as _ _ _ l.as_said to from }

-- the least of two sets
both_as : (a b : Option Break) (P Q : Break → Type 0) → LeastAs a P → LeastAs b Q → LeastAs (earlier_of a b) (λ x. P x ⊎ Q x)
both_as None None P Q l m = λ x h. elim h [ inl p ↦ l x p | inr q ↦ m x q ]
both_as None (Some g) P Q l m = (inr m.0, λ x h. elim h [ inl p ↦ absurd (l x p) | inr q ↦ m.1 x q ])
both_as (Some f) None P Q l m = (inl l.0, λ x h. elim h [ inl p ↦ l.1 x p | inr q ↦ absurd (m x q) ])
both_as (Some f) (Some g) P Q l m = by (is_before g f) refl
  where
    by : (t : Bool) → is_before g f ≡ t → LeastAs (if t then Some g else Some f) (λ x. P x ⊎ Q x)
    by true e = (inr m.0, λ x h. elim h [ inl p ↦ follows_on g f x (l.1 x p) (not_back g f e) | inr q ↦ m.1 x q ])
    by false e = (inl l.0, λ x h. elim h [ inl p ↦ l.1 x p | inr q ↦ follows_on f g x (m.1 x q) e ])

pub least_both : {a b : Option Break} {P Q : Break → Type 0} → Least a P → Least b Q → Least (earlier_of a b) (λ x. P x ⊎ Q x)
least_both {a} {b} {P} {Q} l m = record { as_said = both_as a b P Q l.as_said m.as_said }

-- a list
in_front : (b : Break) (bs : List Break) → (x : Break) → (x ≡ b) ⊎ Contains bs x → Contains (b ∷ bs) x
in_front b bs x (inl e) = subst (Contains (b ∷ bs)) (sym e) (Contains-get_or (b ∷ bs) 0 b (omega arith))
in_front b bs x (inr h) = Contains-append_right (b ∷ []) bs x h

in_parts : (b : Break) (bs : List Break) → (x : Break) → Contains (b ∷ bs) x → (x ≡ b) ⊎ Contains bs x
in_parts b bs x (zero, lt, e) = inl (sym e)
in_parts b bs x (suc k, lt, e) = inr (k, omega arith, e)

pub first_is_least : (bs : List Break) → Least (first_of bs) (Contains bs)
first_is_least [] = least_none (λ b h. absurd (omega (arith, h.1)))
first_is_least (b ∷ bs) = least_same (least_both (least_one {P = λ x. x ≡ b} b refl (λ x e. e)) (first_is_least bs)) (in_front b bs) (in_parts b bs)

-- the earlier of three is the same however they are taken together
three : (x y z : Break) → (s t u : Bool) → is_before y x ≡ s → is_before z y ≡ t → is_before z x ≡ u → earlier_of (Some x) (earlier_of (Some y) (Some z)) ≡ earlier_of (earlier_of (Some x) (Some y)) (Some z)
three x y z true true true p q r = simp (p, q, r)
three x y z true true false p q r = absurd (true≢false (sym q ∙ follows_on y x z r (not_back y x p)))
three x y z true false u p q r = simp (p, q)
three x y z false true u p q r = simp (p, q)
three x y z false false u p q r = simp (p, q, follows_on x y z q p)

pub earlier_assoc : (a b c : Option Break) → earlier_of (earlier_of a b) c ≡ earlier_of a (earlier_of b c)
earlier_assoc None b c = refl
earlier_assoc (Some x) None c = refl
earlier_assoc (Some x) (Some y) None = by (is_before y x)
  where
    by : (t : Bool) → earlier_of (if t then Some y else Some x) None ≡ (if t then Some y else Some x)
    by true = refl
    by false = refl
earlier_assoc (Some x) (Some y) (Some z) = sym (three x y z (is_before y x) (is_before z y) (is_before z x) refl refl refl)

pub earlier_none : (a : Option Break) → earlier_of a None ≡ a
earlier_none None = refl
earlier_none (Some x) = refl

-- the first of two lists
pub first-append : (xs ys : List Break) → first_of (xs ++ ys) ≡ earlier_of (first_of xs) (first_of ys)
first-append [] ys = refl
first-append (x ∷ xs) ys = ap (earlier_of (Some x)) (first-append xs ys) ∙ sym (earlier_assoc (Some x) (first_of xs) (first_of ys))

-- A loop over the items of a list, each of which has a list of breaks: one item more.
pub first_step : {X : Type 0} (row : X → List Break) (xs : List X) (i : ℕ) (d : X) (before after whole : Option Break) → i < length xs
    → after ≡ earlier_of before (first_of (row (get_or xs i d)))
    → earlier_of before (first_of (flat_map row (drop i xs))) ≡ whole
    → earlier_of after (first_of (flat_map row (drop (i + 1) xs))) ≡ whole
first_step row xs i d before after whole lt e h =
    ap (λ a. earlier_of a (first_of (flat_map row (drop (i + 1) xs)))) e
    ∙ earlier_assoc before (first_of (row (get_or xs i d))) (first_of (flat_map row (drop (i + 1) xs)))
    ∙ ap (earlier_of before) (sym (first-append (row (get_or xs i d)) (flat_map row (drop (i + 1) xs))) ∙ ap first_of (sym (at_drop_more (flat_map row) xs i d lt)))
    ∙ h
