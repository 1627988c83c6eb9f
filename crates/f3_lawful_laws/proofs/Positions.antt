-- Places in lists.
use Rattle.std.proofs.Common.{◌≡◌, ℕ, zero, suc, ◌+◌, Bool, true, false, not, cond, List, [], ◌∷◌, length, map, position, nat_eq, nat_lt}
use Rattle.std.proofs.Common.{None, Some, option_map, refl, sym, ap, ◌∙◌, inl, inr, arith}
use Rattle.std.specs.Prelude.{slice_get, slice_index_or}
use Rattle.std.specs.List.{position_or_len}
use Rattle.std.proofs.lemmas.Bool.{ne_eqb}
use Rattle.std.proofs.lemmas.Bool.Decides.{eqb_tells, leb_tells}
use Rattle.f3_program.specs.declared.declarations.Component as program
use Rattle.f3_kinds.specs.declared.things.Component.{Component}
use Rattle.f3_kinds.specs.Things.{component_of, place_of}
use Rattle.f3_elaboration.specs.Context.{Surroundings, base}
use Rattle.f3_lawful_laws.specs.Agreement.{AreComponents}
use Rattle.f3_lawful_laws.proofs.Facts.{no, nothing, same}

pub eq_swap : (a b : ℕ) → nat_eq a b ≡ nat_eq b a
eq_swap a b = elim (eqb_tells a b) [
  | inl h ↦ elim (eqb_tells b a) [ inl k ↦ h.0 ∙ sym k.0 | inr k ↦ absurd (k.1 (sym h.1)) ]
  | inr h ↦ h.0 ∙ sym (ne_eqb b a (λ e. h.1 (sym e)))
]

pub eq_same : (a b : ℕ) → nat_eq a b ≡ true → a ≡ b
eq_same a b h = elim (eqb_tells a b) [ inl k ↦ k.1 | inr k ↦ no (sym h ∙ k.0) ]

pub eq_self : (a : ℕ) → nat_eq a a ≡ true
eq_self a = elim (eqb_tells a a) [ inl k ↦ k.0 | inr k ↦ absurd (k.1 refl) ]

pub lt_suc : (n l : ℕ) → nat_lt (suc n) (suc l) ≡ nat_lt n l
lt_suc n l = elim (leb_tells (suc (suc n)) (suc l)) [
  | inl h ↦ elim (leb_tells (suc n) l) [ inl k ↦ h.0 ∙ sym k.0 | inr k ↦ (let x = h.1 in let y = k.1 in absurd (omega (arith, x, y))) ]
  | inr h ↦ elim (leb_tells (suc n) l) [ inl k ↦ (let x = h.1 in let y = k.1 in absurd (omega (arith, x, y))) | inr k ↦ h.0 ∙ sym k.0 ]
]

pub position_cons : {X : Type 0} (p : X → Bool) (x : X) (xs : List X) → position p (x ∷ xs) ≡ cond (p x) (Some 0) (option_map suc (position p xs))
position_cons p x xs = step (p x) (position_or_len p xs) (length xs)
  where
    inner : (b : Bool) (n : ℕ) → cond b (Some (suc n)) None ≡ option_map suc (cond b (Some n) None)
    inner true n = refl
    inner false n = refl

    step : (b : Bool) (n l : ℕ)
        → cond (nat_lt (cond (not b) (1 + n) 0) (suc l)) (Some (cond (not b) (1 + n) 0)) None
        ≡ cond b (Some 0) (option_map suc (cond (nat_lt n l) (Some n) None))
    step true n l =
        let e : nat_lt 0 (suc l) ≡ true = elim (leb_tells 1 (suc l)) [ inl h ↦ h.0 | inr h ↦ (let x = h.1 in absurd (omega (arith, x))) ] in
        ap (λ b. cond b (Some 0) None) e
    step false n l =
        let e : 1 + n ≡ suc n = omega arith in
        ap (λ k. cond (nat_lt k (suc l)) (Some k) None) e ∙ ap (λ b. cond b (Some (suc n)) None) (lt_suc n l) ∙ inner (nat_lt n l) n

-- ---- the component of a name, in the rules and in the program

pub record Standing (s : Surroundings) (xs : List program.Component) (ks : List (ℕ × Component)) (symbol : ℕ) (k : Component) : Type 0 where
  pub number : ℕ
  pub place : place_of ks symbol ≡ Some number
  pub component : program.Component
  pub there : slice_get xs number ≡ Some component
  pub of : ((component.declared).kind).of ≡ base s (k.object).data_type
  pub private : component.is_private ≡ k.is_private

standing_behind : (s : Surroundings) (x : program.Component) (xs : List program.Component) (y : ℕ × Component) (ks : List (ℕ × Component)) (symbol : ℕ) (k : Component)
    → nat_eq symbol y.0 ≡ false → Standing s xs ks symbol k → Standing s (x ∷ xs) (y ∷ ks) symbol k
standing_behind s x xs y ks symbol k b h = record {
  number = suc h.number;
  place =
      position_cons (nat_eq symbol) y.0 (map (λ x. x.0) ks) ∙ ap (λ b. cond b (Some 0) (option_map suc (place_of ks symbol))) b ∙ ap (option_map suc) h.place;
  component = h.component;
  there = h.there;
  of = h.of;
  private = h.private;
}

pub standing : (s : Surroundings) (xs : List program.Component) (ks : List (ℕ × Component)) (symbol : ℕ) (k : Component)
    → AreComponents s xs ks → component_of ks symbol ≡ Some k → Standing s xs ks symbol k
standing s [] [] symbol k h e = nothing e
standing s [] (y ∷ ks) symbol k h e = absurd h
standing s (x ∷ xs) [] symbol k h e = absurd h
standing s (x ∷ xs) (y ∷ ks) symbol k h e = here (nat_eq symbol y.0) refl e (λ f. standing s xs ks symbol k h.2 f)
  where
    here : (b : Bool) → nat_eq symbol y.0 ≡ b → cond b (Some y.1) (component_of ks symbol) ≡ Some k
        → (component_of ks symbol ≡ Some k → Standing s xs ks symbol k) → Standing s (x ∷ xs) (y ∷ ks) symbol k
    here true b e go = record {
      number = 0;
      place = position_cons (nat_eq symbol) y.0 (map (λ x. x.0) ks) ∙ ap (λ b. cond b (Some 0) (option_map suc (place_of ks symbol))) b;
      component = x;
      there = refl;
      of = h.0 ∙ ap (λ (c : Component). base s (c.object).data_type) (same e);
      private = h.1 ∙ ap (λ (c : Component). c.is_private) (same e);
    }
    here false b e go = standing_behind s x xs y ks symbol k b (go e)

-- ---- what is at a place of a list

pub index_at : {A B : Type 0} (f : A → B) (xs : List A) (k : ℕ) (x : A) (d : B) → slice_get xs k ≡ Some x → slice_index_or (map f xs) k d ≡ f x
index_at f [] k x d e = nothing e
index_at f (y ∷ ys) zero x d e = ap f (same e)
index_at f (y ∷ ys) (suc k) x d e = index_at f ys k x d e
