-- What stands in lists.
use Rattle.std.proofs.Common.{◌≡◌, refl, sym, ap, subst, ◌∙◌, inl, inr, ℕ, suc, ◌⊎◌, Bool, true, false, cond, List, [], ◌∷◌, filter, position, nat_eq, None, Some, option_map, slice_get}
use Rattle.std.specs.List.{All}
use Rattle.std.proofs.lemmas.Option.{slice_get_within, slice_get-get_or, get_or_from_slice_get}
use Rattle.std.proofs.lemmas.List.Quantifiers.{position-Some}
use Rattle.f3_nodes.proofs.Members.{Has, has_at, at_has}
use Rattle.f3_meaning_whole.specs.Permitted.{Each}
use Rattle.f3_lawful_laws.proofs.Facts.{no, nothing}
use Rattle.f3_lawful_laws.proofs.Positions.{eq_same, eq_self, position_cons}
use Rattle.f3_entity_laws.specs.Things.{IsAmong}

pub all_at : {X : Type 0} (P : X → Type 0) (xs : List X) (x : X) → All P xs → IsAmong xs x → P x
all_at P xs x all (k, at) = subst P (get_or_from_slice_get xs k x x at) (all k x (slice_get_within xs k x at))

pub each_of : {A : Type 0} (P : A → Type 0) (xs : List A) (x : A) → Each P xs → Has xs x → P x
each_of P [] x all h = absurd h
each_of P (y ∷ ys) x all (inl e) = subst P (sym e) all.0
each_of P (y ∷ ys) x all (inr h) = each_of P ys x all.1 h

pub has_of : {X : Type 0} (xs : List X) (x : X) → IsAmong xs x → Has xs x
has_of xs x (k, at) = at_has xs k x at

pub among_of : {X : Type 0} (xs : List X) (x : X) → Has xs x → IsAmong xs x
among_of xs x h = has_at xs x h

-- what stands in a list is found in it
pub found : (xs : List ℕ) (e : ℕ) → Has xs e → (k : ℕ) × (position (nat_eq e) xs ≡ Some k)
found [] e h = absurd h
found (x ∷ xs) e h = go (nat_eq e x) refl h (λ h. found xs e h)
  where
    step : (b : Bool) → nat_eq e x ≡ b → position (nat_eq e) (x ∷ xs) ≡ cond b (Some 0) (option_map suc (position (nat_eq e) xs))
    step b is = position_cons (nat_eq e) x xs ∙ ap (λ b. cond b (Some 0) (option_map suc (position (nat_eq e) xs))) is

    go : (b : Bool) → nat_eq e x ≡ b → (e ≡ x) ⊎ Has xs e → (Has xs e → (k : ℕ) × (position (nat_eq e) xs ≡ Some k))
        → (k : ℕ) × (position (nat_eq e) (x ∷ xs) ≡ Some k)
    go true is h more = (0, step true is)
    go false is (inl same) more = no (sym (eq_self e) ∙ ap (nat_eq e) same ∙ is)
    go false is (inr h) more = let r = more h in (suc r.0, step false is ∙ ap (option_map suc) r.1)

pub absent : (xs : List ℕ) (e : ℕ) → position (nat_eq e) xs ≡ None → Has xs e → ⊥
absent xs e none h = nothing (sym none ∙ (found xs e h).1)

-- what is found in a list stands there
pub placed : (xs : List ℕ) (e k : ℕ) → position (nat_eq e) xs ≡ Some k → slice_get xs k ≡ Some e
placed xs e k is = let r = position-Some (nat_eq e) xs k 0 is in slice_get-get_or xs k 0 r.0 ∙ ap Some (sym (eq_same e _ r.1))

-- what a filter keeps
pub kept : {X : Type 0} (p : X → Bool) (xs : List X) (x : X) → Has (filter p xs) x → Has xs x × (p x ≡ true)
kept p [] x h = absurd h
kept p (y ∷ ys) x h = go (p y) refl h (λ h. kept p ys x h)
  where
    go : (b : Bool) → p y ≡ b → Has (cond b (y ∷ filter p ys) (filter p ys)) x → (Has (filter p ys) x → Has ys x × (p x ≡ true))
        → ((x ≡ y) ⊎ Has ys x) × (p x ≡ true)
    go true is (inl e) more = (inl e, ap p e ∙ is)
    go true is (inr h) more = let r = more h in (inr r.0, r.1)
    go false is h more = let r = more h in (inr r.0, r.1)

pub keeps : {X : Type 0} (p : X → Bool) (xs : List X) (x : X) → Has xs x → p x ≡ true → Has (filter p xs) x
keeps p [] x h is = absurd h
keeps p (y ∷ ys) x h is = go (p y) refl h (λ h. keeps p ys x h is)
  where
    go : (b : Bool) → p y ≡ b → (x ≡ y) ⊎ Has ys x → (Has ys x → Has (filter p ys) x) → Has (cond b (y ∷ filter p ys) (filter p ys)) x
    go true e (inl same) more = inl same
    go true e (inr h) more = inr (more h)
    go false e (inl same) more = no (sym is ∙ ap p same ∙ e)
    go false e (inr h) more = more h
